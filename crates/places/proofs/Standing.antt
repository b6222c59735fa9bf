-- Stretches of one room: what stands where, before and after bytes are laid.
use mathlib.Core.Path.{◌≡◌, refl, sym, ap, ◌∙◌}
use Prim.Native.Nat.{ℕ, zero, suc, ◌+◌, ◌-◌, ◌≤◌}
use mathlib.Core.List.{List, [], ◌∷◌, ◌++◌, append_assoc}
use native.Mathlib.Omega.{arith}
use native.Mathlib.Nat.{add-sub_cancel_left}
use lib.ListN.{length, take, drop, length-append, length-take, length-drop, take-append-drop}
use lib.Seq.{take_at, drop_at, take-add, take-take, drop-drop, take-append-add, take-append-le, length-take-le, paste}
use Rattle.numbers.specs.Laid.{laid, Put}
use Rattle.numbers.proofs.Laying.{before_laid, from_laid, drop_laid, length_laid, there_laid, lent}
use Rattle.places.specs.Within.{within, Stands}

-- ---- rooms that agree on their first bytes

front_same : (a n to : ℕ) (x : List ℕ) → a + n ≤ to → take n (drop a x) ≡ take n (drop a (take to x))
front_same zero n to x h = sym (take-take n to x (omega arith))
front_same (suc a) n zero x h = absurd (omega arith)
front_same (suc a) n (suc to) [] h = refl
front_same (suc a) n (suc to) (y ∷ x) h = front_same a n to x (omega arith)

pub lower : (x y : List ℕ) (a to : ℕ) → a ≤ to → take to x ≡ take to y → take a x ≡ take a y
lower x y a to h e = sym (take-take a to x h) ∙ ap (take a) e ∙ take-take a to y h

pub kept_same : (x y : List ℕ) (a n to : ℕ) → a + n ≤ to → take to x ≡ take to y → take n (drop a x) ≡ take n (drop a y)
kept_same x y a n to h e = front_same a n to x h ∙ ap (λ (l : List ℕ). take n (drop a l)) e ∙ sym (front_same a n to y h)

pub within_same : (x y : List ℕ) (a e to : ℕ) → a ≤ e → e ≤ to → take to x ≡ take to y → within a e x ≡ within a e y
within_same x y a e to h k f = kept_same x y a (e - a) to (omega arith) f

pub within_laid : (room s : List ℕ) (a e to : ℕ) → a ≤ e → e ≤ to → to + length s ≤ length room → within a e (laid room to s) ≡ within a e room
within_laid room s a e to h k f = within_same (laid room to s) room a e to h k (before_laid room to s f)

-- ---- something laid in front of what was laid

pub laid_before : (room : List ℕ) (at : ℕ) (s t : List ℕ) → at + length s + length t ≤ length room → laid (laid room (at + length s) t) at s ≡ laid room at (s ++ t)
unfolding laid
laid_before room at s t fits =
    let k = at + length s in
    let L = laid room k t in
    let r = drop (k + length t) room in
    let low : take at L ≡ take at room = lower L room at k (omega arith) (before_laid room k t fits) in
    let e : k + length t ≡ at + length (s ++ t) = omega (arith, length-append s t) in
    ap {B = List ℕ} (λ l. l ++ s ++ drop k L) low
    ∙ ap {B = List ℕ} (λ l. take at room ++ s ++ l) (from_laid room k t fits)
    ∙ sym (append_assoc (take at room ++ s) t r)
    ∙ ap {B = List ℕ} (λ l. l ++ r) (append_assoc (take at room) s t)
    ∙ ap {B = List ℕ} (λ i. take at room ++ (s ++ t) ++ drop i room) e

-- ---- bytes that were moved

module _ (room : List ℕ) (to from n : ℕ) (here : from + n ≤ length room) (fits : to + n ≤ length room) where
  pub moved_length : length (take n (drop from room)) ≡ n
  moved_length = length-take-le n (drop from room) (simp length-drop (omega arith))

  -- what stands there already
  pub unmoved : to ≡ from → Put room to (take n (drop from room)) (to + n) room
  unfolding laid
  unmoved e =
      let s = take n (drop from room) in
      let z : to + n ≡ to + length s = omega (arith, moved_length) in
      record {
        place = omega (arith, moved_length);
        bytes =
            sym (take-append-drop to room) ∙ ap {B = List ℕ} (λ l. take to room ++ l) (sym (take-append-drop n (drop to room)))
            ∙ sym (append_assoc (take to room) (take n (drop to room)) (drop n (drop to room)))
            ∙ ap {B = List ℕ} (λ l. take to room ++ take n (drop to room) ++ l) (drop-drop n to room ∙ ap (λ (i : ℕ). drop i room) z)
            ∙ ap {B = List ℕ} (λ i. take to room ++ take n (drop i room) ++ drop (to + length s) room) e;
      }

  -- what was copied
  pub copied : {room' : List ℕ} → room' ≡ paste room to (drop from room) (from + n - from) → Put room to (take n (drop from room)) (to + n) room'
  unfolding laid
  copied e =
      let m : from + n - from ≡ n = omega arith in
      let z : to + n ≡ to + length (take n (drop from room)) = omega (arith, moved_length) in
      record { place = z; bytes = e ∙ ap (paste room to (drop from room)) m ∙ ap (λ (i : ℕ). take to room ++ take n (drop from room) ++ drop i room) z }

-- ---- stretches one behind the other

pub split_at : (room : List ℕ) (a e : ℕ) → a ≤ e → drop a room ≡ within a e room ++ drop e room
split_at room a e h =
    let z : a + (e - a) ≡ e = omega arith in
    sym (take-append-drop (e - a) (drop a room)) ∙ ap {B = List ℕ} (λ l. within a e room ++ l) (drop-drop (e - a) a room ∙ ap (λ (i : ℕ). drop i room) z)

pub within_length : (room : List ℕ) (a e : ℕ) → a ≤ e → e ≤ length room → length (within a e room) ≡ e - a
within_length room a e h f = length-take-le (e - a) (drop a room) (simp length-drop (omega arith))

pub joined : (room : List ℕ) (a b e : ℕ) → a ≤ b → b ≤ e → within a b room ++ within b e room ≡ within a e room
joined room a b e h k =
    let z : a + (b - a) ≡ b = omega arith in
    let y : (b - a) + (e - b) ≡ e - a = omega arith in
    ap {B = List ℕ} (λ l. within a b room ++ take (e - b) l) (sym (drop-drop (b - a) a room ∙ ap (λ (i : ℕ). drop i room) z))
    ∙ sym (take-add (b - a) (e - b) (drop a room)) ∙ ap (λ (i : ℕ). take i (drop a room)) y

-- a stretch that is x and then y
module _ (room : List ℕ) (a e : ℕ) (x y : List ℕ) (low : a ≤ e) (fits : e ≤ length room) (is : within a e room ≡ x ++ y) where
  pub both_length : length x + length y ≡ e - a
  both_length = omega (arith, ap length is, within_length room a e low fits, length-append x y)

  from_both : drop a room ≡ x ++ (y ++ drop e room)
  from_both = split_at room a e low ∙ ap {B = List ℕ} (λ l. l ++ drop e room) is ∙ append_assoc x y (drop e room)

  pub first : within a (a + length x) room ≡ x
  first = ap (λ (n : ℕ). take n (drop a room)) (add-sub_cancel_left a (length x)) ∙ ap (take (length x)) from_both ∙ take_at x (y ++ drop e room) (length x) refl

  pub second : within (a + length x) e room ≡ y
  second =
      let n : length y ≡ e - (a + length x) = omega (arith, both_length) in
      ap (take (e - (a + length x))) (sym (drop-drop (length x) a room) ∙ ap (drop (length x)) from_both ∙ drop_at x (y ++ drop e room) (length x) refl)
      ∙ take_at y (drop e room) (e - (a + length x)) n

-- ---- what stands at a place

pub stands_laid : (room : List ℕ) (to : ℕ) (s : List ℕ) → to + length s ≤ length room → Stands to room (length s) s (laid room to s)
stands_laid room to s h = record {
  long = length_laid room to s h;
  kept = before_laid room to s h;
  size = refl;
  there = there_laid room to s h;
}

-- what was put
pub stands_put : {room room₁ : List ℕ} {to p : ℕ} {s : List ℕ} → Put room to s p room₁ → (n : ℕ) → n ≡ length s → to + n ≤ length room → Stands to room n s room₁
stands_put {room} {to = to} {s = s} P n e h = rw (P.bytes, e) (stands_laid room to s (omega arith))

-- what stands there already
pub stands_here : (room : List ℕ) (a n : ℕ) (s : List ℕ) → a + n ≤ length room → take n (drop a room) ≡ s → Stands a room n s room
stands_here room a n s h e = record {
  long = refl;
  kept = refl;
  size = sym (length-take-le n (drop a room) (simp length-drop (omega arith))) ∙ ap length e;
  there = e;
}

-- something laid in front of it
pub stands_before : {room room₁ : List ℕ} {a n : ℕ} {t : List ℕ} (to : ℕ) (h : List ℕ) → Stands a room n t room₁ → a ≡ to + length h → a + n ≤ length room
    → Stands to room (length h + n) (h ++ t) (laid room₁ to h)
stands_before {room} {room₁} {a} {n} {t} to h S e fits =
    let g : to + length h ≤ length room₁ = omega (arith, S.long) in
    record {
      long = length_laid room₁ to h g ∙ S.long;
      kept = before_laid room₁ to h g ∙ lower room₁ room to a (omega arith) S.kept;
      size = omega (arith, S.size, length-append h t);
      there =
          ap (take (length h + n)) (from_laid room₁ to h g) ∙ take-append-add h (drop (to + length h) room₁) n
          ∙ ap {B = List ℕ} (λ l. h ++ l) (ap (λ (i : ℕ). take n (drop i room₁)) (sym e) ∙ S.there);
    }

-- one routine after another, which lays lower down
pub stands_over : {room room₁ room₂ : List ℕ} {a n to r : ℕ} {s t : List ℕ} → Stands a room n s room₁ → Stands to room₁ r t room₂ → to ≤ a → Stands to room r t room₂
stands_over {room} {room₁} {a = a} {to = to} S T h = record {
  long = T.long ∙ S.long;
  kept = T.kept ∙ lower room₁ room to a h S.kept;
  size = T.size;
  there = T.there;
}

-- ---- behind and before what was laid

pub behind_laid : (room s : List ℕ) (a e to : ℕ) → to + length s ≤ a → to + length s ≤ length room → within a e (laid room to s) ≡ within a e room
behind_laid room s a e to h f =
    let k = to + length s in
    let z : k + (a - k) ≡ a = omega arith in
    let d : drop (k + (a - k)) (laid room to s) ≡ drop (k + (a - k)) room =
    sym (drop-drop (a - k) k (laid room to s)) ∙ ap (drop (a - k)) (drop_laid room to s f) ∙ drop-drop (a - k) k room in
    ap (λ (i : ℕ). take (e - a) (drop i (laid room to s))) (sym z) ∙ ap (take (e - a)) d ∙ ap (λ (i : ℕ). take (e - a) (drop i room)) z

-- s at its place, and then h right before it
pub put_before : {room room₁ room₂ : List ℕ} {at a p r : ℕ} {h s : List ℕ} → Put room a s r room₁ → Put room₁ at h p room₂ → a ≡ at + length h
    → at + length h + length s ≤ length room → Put room at (h ++ s) r room₂
put_before {room} {at = at} {h = h} {s = s} P Q e fits = record {
  place = omega (arith, P.place, length-append h s);
  bytes = Q.bytes ∙ ap (λ (l : List ℕ). laid l at h) (P.bytes ∙ ap (λ (i : ℕ). laid room i s) e) ∙ laid_before room at h s fits;
}

-- the stretch from a up to e was lent and came back as ys: what stands at its front stands at a
pub stands_lent : (room ys : List ℕ) (a e : ℕ) → a ≤ e → e ≤ length room → length ys ≡ e - a → {n : ℕ} {s : List ℕ} → Stands 0 (within a e room) n s ys
    → Stands a room n s (take a room ++ (ys ++ drop (e - a) (drop a room)))
stands_lent room ys a e h k l {n} {s} S =
    let f : a + length ys ≤ length room = omega arith in
    let g : n ≤ length ys = omega (arith, S.size, ap length S.there, length-take n ys) in
    rw (lent room ys a e h k l) (record {
      long = length_laid room a ys f;
      kept = before_laid room a ys f;
      size = S.size;
      there = ap (take n) (from_laid room a ys f) ∙ take-append-le n ys (drop (a + length ys) room) g ∙ S.there;
    })
