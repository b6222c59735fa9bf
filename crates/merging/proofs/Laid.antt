-- Clauses laid in the place of what they are made of: one clause, with and without a boost, and a merged one; and what they measure.
use mathlib.Core.Path.{◌≡◌, refl, sym, ap, ◌∙◌, subst}
use Prim.Native.Nat.{ℕ, ◌+◌, ◌-◌, ◌≤◌, max}
use mathlib.Core.List.{List, ◌++◌}
use mathlib.Core.Bool.{Bool, true, false, not, ◌&&◌, cond}
use native.Mathlib.Omega.{arith}
use lib.ListN.{length, take, drop, length-append}
use lib.Ieee.{Float}
use Rattle.rules.specs.Numbers.{boost_tag}
use Rattle.rules.specs.Bytes.{big, part}
use Rattle.rules.specs.Query.{Kind, must, should, must_not, filter, Query, term, phrase, boolean, boost, constant_score, match_all, match_none, range}
use Rattle.rules.specs.Stored.{kind_tag, encode}
use Rattle.rules.specs.Checked.{Is}
use Rattle.rules.specs.Floats.{one, widened, narrowed, is_one}
use Rattle.rules.specs.Rewriting.{scores, summable, base, boost_of, reboosted}
use Rattle.rules.specs.Eating.{held, own_sum}
use Rattle.rules.proofs.Rewriting.Boosts.{one_one}
use Rattle.numbers.specs.Laid.{Put, header}
use Rattle.numbers.proofs.Laying.{before_laid, length_laid, there_laid}
use Rattle.places.specs.Within.{within}
use Rattle.merging.specs.Merge.{First, reboosted_bytes, merged_size, Way}
use Rattle.places.proofs.Standing.{lower, within_laid, within_length, put_before}

module _ {room room₁ : List ℕ} {at p : ℕ} {s : List ℕ} (P : Put room at s p room₁) (fits : at + length s ≤ length room) where
  pub put_long : length room₁ ≡ length room
  put_long = ap length P.bytes ∙ length_laid room at s fits

  -- what stands below is as it was
  pub put_below : (b e : ℕ) → b ≤ e → e ≤ at → within b e room₁ ≡ within b e room
  put_below b e h k = ap (within b e) P.bytes ∙ within_laid room s b e at h k fits

  pub put_kept : take at room₁ ≡ take at room
  put_kept = ap (take at) P.bytes ∙ before_laid room at s fits

-- ---- a clause, of what stands from b up to e

module _ {room : List ℕ} {w : ℕ} (k b e : ℕ) (low : b ≤ e) (inside : e ≤ length room) where
  pub clause_put : {room₁ room₂ : List ℕ} {p r : ℕ} → w + 3 + (e - b) ≤ length room → Put room (w + 3) (within b e room) r room₁ → Put room₁ w (header k (e - b)) p room₂
      → Put room w (part k (within b e room)) r room₂
  clause_put {room₂ = room₂} {r = r} fits P Q =
      let n = within_length room b e low inside in
      subst (λ (i : ℕ). Put room w (header k i ++ within b e room) r room₂) (sym n) (put_before P Q refl (omega arith))

  pub boosted_put : {room₁ room₂ room₃ room₄ : List ℕ} {p c d r : ℕ} (bits : ℕ) → w + 10 + (e - b) ≤ length room
      → Put room (w + 10) (within b e room) r room₁ → Put room₁ (w + 6) (big 4 bits) p room₂ → Put room₂ (w + 3) (header boost_tag (4 + (e - b))) c room₃
      → Put room₃ w (header k (7 + (e - b))) d room₄ → Put room w (part k (part boost_tag (big 4 bits ++ within b e room))) r room₄
  boosted_put {room₂ = room₂} {room₃ = room₃} {room₄ = room₄} {r = r} bits fits P Q R S =
      let s = within b e room in
      let n = within_length room b e low inside in
      let m : 4 + (e - b) ≡ length (big 4 bits ++ s) = omega (arith, length-append (big 4 bits) s) in
      let B : Put room (w + 6) (big 4 bits ++ s) r room₂ = put_before P Q (omega arith) (omega arith) in
      let C : Put room (w + 3) (part boost_tag (big 4 bits ++ s)) r room₃ =
      subst (λ (i : ℕ). Put room (w + 3) (header boost_tag i ++ (big 4 bits ++ s)) r room₃) m (put_before B R (omega arith) (omega arith)) in
      let l : 7 + (e - b) ≡ length (part boost_tag (big 4 bits ++ s)) = omega arith in
      subst (λ (i : ℕ). Put room w (header k i ++ part boost_tag (big 4 bits ++ s)) r room₄) l (put_before C S refl (omega arith))

-- ---- the sum put back

pub plain_bytes : (x : Float) (h : List ℕ) → is_one x ≡ true → reboosted_bytes x h ≡ h
unfolding reboosted_bytes
plain_bytes x h e = rw e

pub boost_bytes : (x : Float) (h : List ℕ) (n : ℕ) → is_one x ≡ false → n ≡ narrowed x → reboosted_bytes x h ≡ part boost_tag (big 4 n ++ h)
unfolding reboosted_bytes
boost_bytes x h n e en = rw (e, en)

scoring : (m : ℕ) (k : Kind) → summable m k ≡ true → scores k ≡ true
scoring m must e = refl
scoring m should e = refl
scoring m must_not e = e
scoring m filter e = e

-- a kind that is not summed has the sum 1
pub reboosted_bytes_lem : (m : ℕ) (k : Kind) (h : Query) (x : Float) → (summable m k ≡ false → x ≡ one) → encode (reboosted k h x) ≡ reboosted_bytes x (encode h)
unfolding encode reboosted_bytes
reboosted_bytes_lem m k h x n = go (summable m k) refl
  where
    boost_or : (b : Bool) (n : ℕ) → encode (cond (not b && true) (boost n h) h) ≡ cond b (encode h) (part boost_tag (big 4 n ++ encode h))
    boost_or true n = refl
    boost_or false n = refl

    go : (b : Bool) → summable m k ≡ b → encode (reboosted k h x) ≡ cond (is_one x) (encode h) (part boost_tag (big 4 (narrowed x) ++ encode h))
    go true e = rw (scoring m k e) (boost_or (is_one x) (narrowed x))
    go false e = rw (n e, one_one)

-- ---- what a clause measures

pub merged_size_lem : (x : Float) (h : List ℕ) → merged_size x (length h) ≡ 3 + length (reboosted_bytes x h)
unfolding merged_size reboosted_bytes
merged_size_lem x h = go (is_one x)
  where
    go : (b : Bool) → cond b (3 + length h) (10 + length h) ≡ 3 + length (cond b h (part boost_tag (big 4 (narrowed x) ++ h)))
    go true = refl
    go false = omega (arith, length-append (big 4 (narrowed x)) h)

pub size_plain : (x : Float) (n : ℕ) → is_one x ≡ true → merged_size x n ≡ 3 + n
unfolding merged_size
size_plain x n e = rw e

pub size_boost : (x : Float) (n : ℕ) → is_one x ≡ false → merged_size x n ≡ 10 + n
unfolding merged_size
size_boost x n e = rw e

pub size_within : (x : Float) (n : ℕ) → (3 + n ≤ merged_size x n) × (merged_size x n ≤ 10 + n)
unfolding merged_size
size_within x n = go (is_one x)
  where
    go : (b : Bool) → (3 + n ≤ cond b (3 + n) (10 + n)) × (cond b (3 + n) (10 + n) ≤ 10 + n)
    go true = omega arith
    go false = omega arith

-- a clause that has taken up none is as long as it was, or shorter
of_one : (n : ℕ) → merged_size one n ≤ 3 + n
of_one n = omega (arith, size_plain one n one_one)

own_base : (q : Query) → merged_size (boost_of q) (length (encode (base q))) ≤ 3 + length (encode q)
unfolding encode base boost_of
own_base (term f t) = of_one _
own_base (phrase f ws) = of_one _
own_base (boolean m cs) = of_one _
own_base (boost b q) = omega (arith, size_within (widened b) (length (encode q)))
own_base (constant_score q) = of_one _
own_base match_all = of_one _
own_base match_none = of_one _
own_base (range n f l u) = of_one _

pub own_size : (m : ℕ) (k : Kind) (q : Query) → merged_size (own_sum m k q) (length (encode (held m k q))) ≤ 3 + length (encode q)
own_size m k q = go (summable m k)
  where
    go : (b : Bool) → merged_size (cond b (boost_of q) one) (length (encode (cond b (base q) q))) ≤ 3 + length (encode q)
    go true = own_base q
    go false = of_one (length (encode q))

-- ---- a base is the end of its query's bytes

drop_same : (s : List ℕ) → drop (length s - length s) s ≡ s
drop_same s = let z : length s - length s ≡ 0 = omega arith in ap (λ (n : ℕ). drop n s) z

pub base_end : (q : Query) → (drop (length (encode q) - length (encode (base q))) (encode q) ≡ encode (base q)) × (length (encode (base q)) ≤ length (encode q))
unfolding encode base
base_end (term f t) = (drop_same _, omega arith)
base_end (phrase f ws) = (drop_same _, omega arith)
base_end (boolean m cs) = (drop_same _, omega arith)
base_end (boost b q) =
    let z : length (encode (boost b q)) - length (encode q) ≡ 7 = omega arith in
    (ap (λ (n : ℕ). drop n (encode (boost b q))) z, omega arith)
base_end (constant_score q) = (drop_same _, omega arith)
base_end match_all = (drop_same _, omega arith)
base_end match_none = (drop_same _, omega arith)
base_end (range n f l u) = (drop_same _, omega arith)

pub held_end : (m : ℕ) (k : Kind) (q : Query)
    → (drop (length (encode q) - length (encode (held m k q))) (encode q) ≡ encode (held m k q)) × (length (encode (held m k q)) ≤ length (encode q))
held_end m k q = go (summable m k)
  where
    go : (b : Bool) → (drop (length (encode q) - length (encode (cond b (base q) q))) (encode q) ≡ encode (cond b (base q) q)) × (length (encode (cond b (base q) q)) ≤ length (encode q))
    go true = base_end q
    go false = (drop_same (encode q), omega arith)

-- ---- a clause before it has taken up any

module _ (at m k : ℕ) (s : List ℕ) (j : Kind) (x : Query) (ej : kind_tag j ≡ k) (ix : Is s x) (b : Bool) (eb : b ≡ summable m j) where
  pub first_summed : b ≡ true → (h : List ℕ) → Is h (base x) → (y : Float) → y ≡ boost_of x → First at m j x (at + (length s - length h)) k y
  first_summed t h ih y ey =
      let z : summable m j ≡ true = sym eb ∙ t in
      let e : held m j x ≡ base x = rw z in
      let n = ap (λ (q : Query). length (encode q)) e in
      record {
        kind = sym ej;
        sum = rw z ey;
        place = omega (arith, n, ap length ih.form, ap length ix.form, (base_end x).1);
      }

  pub first_plain : b ≡ false → (y : Float) → y ≡ one → First at m j x at k y
  first_plain f y ey =
      let z : summable m j ≡ false = sym eb ∙ f in
      let e : held m j x ≡ x = rw z in
      let n = ap (λ (q : Query). length (encode q)) e in
      record { kind = sym ej; sum = rw z ey; place = omega (arith, n) }

-- ---- space made before the clauses that are left

module _ (need at end : ℕ) (room : List ℕ) (low : at ≤ end) where
  pub way_made : (g : ℕ) → g ≡ max need at → end ≤ length room → g + (end - at) ≤ length room → {p : ℕ} {room₁ : List ℕ} → Put room g (within at end room) p room₁
      → Way need at end room g room₁
  way_made g h inside fits {room₁ = room₁} P =
      let n = within_length room at end low inside in
      let f : g + length (within at end room) ≤ length room = omega arith in
      let z : g + (end - at) - g ≡ length (within at end room) = omega arith in
      record {
        place = h;
        kept = lower room₁ room at g (omega arith) (put_kept P f);
        there = ap (λ (i : ℕ). take i (drop g room₁)) z ∙ ap (λ (l : List ℕ). take (length (within at end room)) (drop g l)) P.bytes ∙ there_laid room g (within at end room) f;
      }
