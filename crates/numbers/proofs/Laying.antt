-- Laws of `laid`: what one writer lays behind another, in front of another or inside a lent stretch is one stretch.
use borrow.Rule.Slice.PartMut.{put_mid}
use mathlib.Core.Path.{◌≡◌, refl, sym, ap, ◌∙◌}
use Prim.Native.Nat.{ℕ, ◌+◌, ◌-◌, ◌/◌, ◌%◌, ◌≤◌, ◌<◌}
use mathlib.Core.List.{List, [], ◌∷◌, ◌++◌, append_assoc, append-nil}
use native.Mathlib.Omega.{arith}
use native.Mathlib.Numerals.{add-one, add-two, add-three}
use lib.ListN.{length, get_or, take, drop, set, length-append, length-drop, take-append-drop}
use lib.Seq.{take_at, drop_at, take-take, drop-drop, take-add, drop-append-le, length-take-le, take-length, drop-length, sets, sets-eq, paste, paste-suc}
use Rattle.rules.specs.Bytes.{big, part}
use Rattle.rules.proofs.Stored.Widths.{big_two, big_four}
use Rattle.numbers.specs.Laid.{laid, Put, header}

-- ---- one stretch

module _ (out : List ℕ) (at : ℕ) (s : List ℕ) (fits : at + length s ≤ length out) where
  head_length : length (take at out ++ s) ≡ at + length s
  head_length = length-append (take at out) s ∙ ap (λ (k : ℕ). k + length s) (length-take-le at out (omega arith))

  -- up to its end, and from there on
  pub take_laid : take (at + length s) (laid out at s) ≡ take at out ++ s
  unfolding laid
  take_laid = take_at (take at out ++ s) (drop (at + length s) out) (at + length s) head_length

  pub drop_laid : drop (at + length s) (laid out at s) ≡ drop (at + length s) out
  unfolding laid
  drop_laid = drop_at (take at out ++ s) (drop (at + length s) out) (at + length s) head_length

  pub before_laid : take at (laid out at s) ≡ take at out
  before_laid =
      sym (take-take at (at + length s) (laid out at s) (omega arith)) ∙ ap (take at) take_laid
      ∙ take_at (take at out) s at (length-take-le at out (omega arith))

  pub from_laid : drop at (laid out at s) ≡ s ++ drop (at + length s) out
  unfolding laid
  from_laid =
      ap (drop at) (append_assoc (take at out) s (drop (at + length s) out))
      ∙ drop_at (take at out) (s ++ drop (at + length s) out) at (length-take-le at out (omega arith))

  pub length_laid : length (laid out at s) ≡ length out
  unfolding laid
  length_laid = length-append (take at out ++ s) (drop (at + length s) out) ∙ omega (arith, head_length, length-drop (at + length s) out)

  -- what stands there now
  pub there_laid : take (length s) (drop at (laid out at s)) ≡ s
  there_laid = ap (take (length s)) from_laid ∙ take_at s (drop (at + length s) out) (length s) refl

-- nothing laid, and all of it
pub laid_none : (out : List ℕ) (at : ℕ) → laid out at [] ≡ out
unfolding laid
laid_none out at =
    let z : at + 0 ≡ at = omega arith in
    rw (append-nil (take at out), z) (take-append-drop at out)

pub laid_front : (out s : List ℕ) → laid out 0 s ≡ s ++ drop (length s) out
unfolding laid
laid_front out s = let z : 0 + length s ≡ length s = omega arith in rw z

pub laid_all : (out s : List ℕ) → length s ≡ length out → laid out 0 s ≡ s
laid_all out s e = laid_front out s ∙ rw (e, drop-length out) (append-nil s)

-- single stores, one behind the other
pub laid_sets : (s out : List ℕ) (at : ℕ) → at + length s ≤ length out → sets out at s ≡ laid out at s
unfolding laid
laid_sets s out at h = sets-eq s out at h

-- a number in two bytes and in four, as code stores them
pub two_laid : (out : List ℕ) (at v : ℕ) → at + 2 ≤ length out → v < 65536 → set (set out at (v / 256)) (at + 1) (v % 256) ≡ laid out at (big 2 v)
two_laid out at v h l =
    rw (big_two v l) (ap (λ (i : ℕ). set (set out at (v / 256)) i (v % 256)) (add-one at) ∙ laid_sets (v / 256 ∷ v % 256 ∷ []) out at h)

pub four_laid : (out : List ℕ) (at v : ℕ) → at + 4 ≤ length out → v < 4294967296
    → set (set (set (set out at (v / 16777216)) (at + 1) (v / 65536 % 256)) (at + 2) (v / 256 % 256)) (at + 3) (v % 256) ≡ laid out at (big 4 v)
four_laid out at v h l = rw (big_four v l, add-one, add-two, add-three) (laid_sets (v / 16777216 ∷ v / 65536 % 256 ∷ v / 256 % 256 ∷ v % 256 ∷ []) out at h)

pub header_laid : (out : List ℕ) (at t n : ℕ) → at + 3 ≤ length out → set (set (set out at t) (at + 1) (n / 256)) (at + 2) (n % 256) ≡ laid out at (header t n)
header_laid out at t n h = rw (add-one, add-two) (laid_sets (header t n) out at h)

-- ---- loops that store byte by byte

pub copy_turn : (out l s : List ℕ) (at k : ℕ) → at + length s ≤ length out → k < length s → l ≡ paste out at s k
    → set l (at + k) (get_or s k 0) ≡ paste out at s (k + 1)
copy_turn out l s at k h i e = rw (e, add-one) (paste-suc out at s k 0 (omega arith) i)

pub copy_end : (out l s : List ℕ) (at k : ℕ) → k ≤ length s → length s ≤ k → l ≡ paste out at s k → l ≡ laid out at s
unfolding laid
copy_end out l s at k h i e =
    let n : k ≡ length s = omega arith in
    e ∙ rw (n, take-length s)

-- ---- two stretches

module _ (out : List ℕ) (at : ℕ) (s t : List ℕ) (fits : at + length s + length t ≤ length out) where
  tail_end : drop (at + length s + length t) out ≡ drop (at + length (s ++ t)) out
  tail_end = let e : at + length s + length t ≡ at + length (s ++ t) = omega (arith, length-append s t) in ap (λ (k : ℕ). drop k out) e

  -- t behind s
  pub laid_more : laid (laid out at s) (at + length s) t ≡ laid out at (s ++ t)
  unfolding laid
  laid_more =
      let k = at + length s in
      let L = laid out at s in
      let h : at + length s ≤ length out = omega arith in
      let end : drop (k + length t) L ≡ drop (k + length t) out =
      sym (drop-drop (length t) k L) ∙ ap (drop (length t)) (drop_laid out at s h) ∙ drop-drop (length t) k out in
      ap {B = List ℕ} (λ l. l ++ t ++ drop (k + length t) L) (take_laid out at s h)
      ∙ ap {B = List ℕ} (λ l. take at out ++ s ++ t ++ l) (end ∙ tail_end)
      ∙ ap {B = List ℕ} (λ l. l ++ drop (at + length (s ++ t)) out) (append_assoc (take at out) s t)

-- t in the place of s, as long as it
pub laid_over : (out : List ℕ) (at : ℕ) (s t : List ℕ) → at + length s ≤ length out → length t ≡ length s → laid (laid out at s) at t ≡ laid out at t
unfolding laid
laid_over out at s t h e =
    let L = laid out at s in
    ap {B = List ℕ} (λ l. l ++ t ++ drop (at + length t) L) (before_laid out at s h)
    ∙ ap {B = List ℕ} (λ l. take at out ++ t ++ l) (rw e (drop_laid out at s h))

-- ---- a stretch that was lent

-- the stretch from a to e came back as ys
pub lent : (out ys : List ℕ) (a e : ℕ) → a ≤ e → e ≤ length out → length ys ≡ e - a → take a out ++ (ys ++ drop (e - a) (drop a out)) ≡ laid out a ys
unfolding laid
lent out ys a e h k l =
    let n : a + (e - a) ≡ a + length ys = omega arith in
    sym (append_assoc (take a out) ys (drop (e - a) (drop a out)))
    ∙ ap {B = List ℕ} (λ r. take a out ++ ys ++ r) (drop-drop (e - a) a out ∙ ap (λ (i : ℕ). drop i out) n)

-- s is copied over the bytes from a place on
pub copied : (out ys s : List ℕ) (at : ℕ) → ys ≡ s → at + length s ≤ length out → Put out at s (at + length s) (put_mid at (at + length s - at) out ys)
copied out ys s at e fits = record {
  place = refl;
  bytes = lent out ys at (at + length s) (omega arith) fits (omega (arith, ap length e)) ∙ ap (laid out at) e;
}

-- what is laid inside the n bytes from a on, seen in the whole
pub laid_inside : (out : List ℕ) (a n k : ℕ) (s : List ℕ) → k + length s ≤ n → a + n ≤ length out
    → laid out a (laid (take n (drop a out)) k s) ≡ laid out (a + k) s
unfolding laid
laid_inside out a n k s h fits =
    let m = take n (drop a out) in
    let lm : length m ≡ n = length-take-le n (drop a out) (simp length-drop (omega arith)) in
    let j = k + length s in
    let len : length (laid m k s) ≡ n = length_laid m k s (omega arith) ∙ lm in
    let front : take a out ++ take k m ≡ take (a + k) out =
    ap {B = List ℕ} (λ l. take a out ++ l) (take-take k n (drop a out) (omega arith)) ∙ sym (take-add a k out) in
    let i : a + j ≡ a + k + length s = omega arith in
    let end : drop j m ++ drop (a + n) out ≡ drop (a + k + length s) out =
    ap {B = List ℕ} (λ l. drop j m ++ l) (sym (drop-drop n a out)) ∙ sym (drop-append-le j m (drop n (drop a out)) (omega arith))
    ∙ ap (drop j) (take-append-drop n (drop a out)) ∙ drop-drop j a out ∙ ap (λ (x : ℕ). drop x out) i in
    ap (λ (x : ℕ). take a out ++ (take k m ++ s ++ drop j m) ++ drop (a + x) out) len
    ∙ simp append_assoc (
    ap {B = List ℕ} (λ l. take a out ++ (take k m ++ (s ++ l))) end
    ∙ sym (append_assoc (take a out) (take k m) (s ++ drop (a + k + length s) out))
    ∙ ap {B = List ℕ} (λ l. l ++ (s ++ drop (a + k + length s) out)) front)

-- ---- writers one after the other

-- s and t behind it, laid by two writers
pub put_then : {out out₁ out₂ : List ℕ} {at p q : ℕ} {s t : List ℕ} → Put out at s p out₁ → Put out₁ p t q out₂
    → at + length s + length t ≤ length out → Put out at (s ++ t) q out₂
put_then {out} {at = at} {p = p} {s = s} {t = t} P Q fits = record {
  place = Q.place ∙ omega (arith, P.place, length-append s t);
  bytes = Q.bytes ∙ ap (λ (l : List ℕ). laid l p t) P.bytes ∙ ap (λ (k : ℕ). laid (laid out at s) k t) P.place ∙ laid_more out at s t fits;
}

-- a header and the body that it states
pub put_body : {out out₁ out₂ : List ℕ} {at n p q t : ℕ} {b : List ℕ} → Put out at (header t n) p out₁ → Put out₁ p b q out₂
    → n ≡ length b → at + 3 + length b ≤ length out → Put out at (part t b) q out₂
put_body P Q e fits = rw e at (put_then P Q fits)
