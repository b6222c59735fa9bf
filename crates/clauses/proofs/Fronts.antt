-- A front laid before what stands there already, and the front of a boost. Assumes nothing.
use mathlib.Core.Path.{◌≡◌, refl, sym, ap, subst, ◌∙◌}
use mathlib.Core.Logic.{⊎_elim}
use mathlib.Core.Bool.{Bool, true, false, cond}
use Prim.Native.Nat.{ℕ, ◌+◌, ◌-◌, ◌≤◌}
use mathlib.Core.List.{List, [], ◌∷◌, ◌++◌, append_assoc}
use native.Mathlib.Omega.{arith}
use lib.ListN.{length, take, drop, length-append}
use lib.Seq.{take-take}
use Rattle.rules.specs.Numbers.{Read, got, refused}
use Rattle.rules.specs.Bytes.{big, part}
use Rattle.rules.specs.Query.{boost}
use Rattle.rules.specs.Stored.{encode}
use Rattle.rules.specs.Lexing.{Token}
use Rattle.rules.specs.Numerals.{numeral_bits}
use Rattle.rules.specs.Setup.{Setup}
use Rattle.rules.specs.Parsing.{Made, nothing, made, found, on_made, is_at, text_at, boost_at}
use Rattle.rules.proofs.Bools.{split, and_l, and_r, both, clash}
use Rattle.rules.proofs.Stored.Bigs.{length_big}
use Rattle.rules.proofs.Stored.Refusals.{no_got}
use Rattle.rules.proofs.Stored.Sizes.{length_encode, length_boost}
use Rattle.numbers.specs.Laid.{laid, Put, header}
use Rattle.numbers.proofs.Laying.{before_laid, from_laid, laid_none, put_then}
use Rattle.counted.specs.Kinds.{made_bytes, made_length}
use Rattle.clauses.specs.Written.{bits_in, is_boosted, boost_size, HasRoom}
use Rattle.clauses.proofs.Bodies.{boost_none, boost_missing, boost_refused, boost_got}

-- ---- h before s

laid_before : (out : List ℕ) (at : ℕ) (h s : List ℕ) → at + length h + length s ≤ length out → laid (laid out (at + length h) s) at h ≡ laid out at (h ++ s)
unfolding laid
laid_before out at h s fits =
    let k = at + length h in
    let L = laid out k s in
    let front : take at L ≡ take at out =
    sym (take-take at k L (omega arith)) ∙ ap (take at) (before_laid out k s fits) ∙ take-take at k out (omega arith) in
    let n : k + length s ≡ at + length (h ++ s) = omega (arith, length-append h s) in
    ap {B = List ℕ} (λ l. l ++ h ++ drop k L) front
    ∙ ap {B = List ℕ} (λ l. take at out ++ h ++ l) (from_laid out k s fits ∙ ap (λ (x : ℕ). s ++ drop x out) n)
    ∙ sym (append_assoc (take at out ++ h) s (drop (at + length (h ++ s)) out))
    ∙ ap {B = List ℕ} (λ l. l ++ drop (at + length (h ++ s)) out) (append_assoc (take at out) h s)

pub put_before : {out out₁ out₂ : List ℕ} {at k p q : ℕ} {h s : List ℕ} → Put out k s q out₁ → Put out₁ at h p out₂
    → k ≡ at + length h → k + length s ≤ length out → Put out at (h ++ s) q out₂
put_before {out} {at = at} {k = k} {h = h} {s = s} P Q e fits = record {
  place = P.place ∙ omega (arith, length-append h s);
  bytes = Q.bytes ∙ ap (λ (l : List ℕ). laid l at h) (P.bytes ∙ ap (λ (x : ℕ). laid out x s) e) ∙ laid_before out at h s (omega arith);
}

-- a header before the body that it states
pub head_before : {out out₁ out₂ : List ℕ} {at k n p q t : ℕ} {b : List ℕ} → Put out k b q out₁ → Put out₁ at (header t n) p out₂
    → k ≡ at + 3 → n ≡ length b → k + length b ≤ length out → Put out at (part t b) q out₂
head_before P Q e l fits = rw l at (put_before P Q e fits)

-- nothing is laid
pub put_nothing : {out out' : List ℕ} {at next : ℕ} {s : List ℕ} → Put out at s next out' → next ≡ at → out' ≡ out
put_nothing {out} {at = at} {s = s} P e = P.bytes ∙ by s (omega (arith, P.place))
  where
    by : (s : List ℕ) → length s ≡ 0 → laid out at s ≡ out
    by [] z = laid_none out at
    by (x ∷ s) z = absurd (omega arith)

-- ---- a boost

same_found : {v w : Made} {j k : ℕ} → got (found v k) ≡ got (found w j) → (w ≡ v) × (j ≡ k)
same_found e = ((cc), (cc))

module _ (st : Setup) (ts : List Token) (m : Made) (i : ℕ) {w : Made} {j : ℕ} where
  pub unboosted : is_boosted ts i ≡ false → boost_at st ts m i ≡ got (found w j) → (w ≡ m) × (j ≡ i)
  unboosted b e =
      ⊎_elim
      (λ c. ⊎_elim (λ t. clash (both c t) b) (λ t. no_got (sym (boost_missing st ts i m c t) ∙ e)) (split (is_at 1 ts (i + 1))))
      (λ c. same_found (sym (boost_none st ts i m c) ∙ e))
      (split (is_at 11 ts i))

  pub boosted : is_boosted ts i ≡ true → boost_at st ts m i ≡ got (found w j) → (w ≡ on_made (boost (bits_in (numeral_bits (text_at ts (i + 1))))) m) × (j ≡ i + 2)
  boosted b e = by (numeral_bits (text_at ts (i + 1))) refl
    where
      c : is_at 11 ts i ≡ true
      c = and_l (is_at 11 ts i) (is_at 1 ts (i + 1)) b

      t : is_at 1 ts (i + 1) ≡ true
      t = and_r (is_at 11 ts i) (is_at 1 ts (i + 1)) b

      by : (o : Read ℕ) → numeral_bits (text_at ts (i + 1)) ≡ o → (w ≡ on_made (boost (bits_in o)) m) × (j ≡ i + 2)
      by (refused x) g = no_got (sym (boost_refused st ts i m c t g) ∙ e)
      by (got v) g = same_found (sym (boost_got st ts i m c t g) ∙ e)

  -- room for what is boosted, behind the front
  pub boost_room : (at n : ℕ) → boost_at st ts m i ≡ got (found w j) → HasRoom w at n → HasRoom m (at + boost_size ts i) n
  boost_room at n e h = ⊎_elim (λ b. front b m (boosted b e).0) (λ b. bare b (unboosted b e).0) (split (is_boosted ts i))
    where
      front : is_boosted ts i ≡ true → (m : Made) → w ≡ on_made (boost (bits_in (numeral_bits (text_at ts (i + 1))))) m → HasRoom m (at + boost_size ts i) n
      front b nothing x z = absurd (omega arith)
      front b (made q) x z =
          let l = ap made_length x ∙ length_boost (bits_in (numeral_bits (text_at ts (i + 1)))) q in
          rw b (omega (arith, h (omega arith)))

      bare : is_boosted ts i ≡ false → w ≡ m → HasRoom m (at + boost_size ts i) n
      bare b x z = let l = ap made_length x in rw b (omega (arith, h (omega arith)))

-- how long a front is
pub size_most : (b : Bool) → cond b 7 0 ≤ 7
size_most true = omega arith
size_most false = omega arith

pub size_none : (b : Bool) {at start : ℕ} → start ≡ at + cond b 7 0 → start ≡ at → b ≡ false
size_none true e h = absurd (omega arith)
size_none false e h = refl

pub size_some : (b : Bool) {at start : ℕ} → start ≡ at + cond b 7 0 → (start ≡ at → ⊥) → (b ≡ true) × (start ≡ at + 7)
size_some true e h = (refl, e)
size_some false e h = absurd (h (e ∙ omega arith))

pub put_empty : (out : List ℕ) (at : ℕ) (s : List ℕ) → length s ≡ 0 → Put out at s at out
put_empty out at [] e = record { place = omega arith; bytes = sym (laid_none out at) }
put_empty out at (x ∷ s) e = absurd (omega arith)

-- nothing boosted is nothing
boost_nothing : (v : ℕ) (m : Made) {before out : List ℕ} (at start : ℕ) {end : ℕ} → Put before start (made_bytes m) end out → end ≡ start
    → Put before at (made_bytes (on_made (boost v) m)) at out
boost_nothing v nothing {before} at start P e = record { place = omega arith; bytes = put_nothing P e ∙ sym (laid_none before at) }
boost_nothing v (made q) at start P e = absurd (omega (arith, P.place, length_encode q))

-- the front before what is boosted
boost_put : (v : ℕ) (m : Made) {before out out₁ out₂ : List ℕ} {at start end n p r : ℕ} → Put before start (made_bytes m) end out → (end ≡ start → ⊥)
    → Put out at (header 4 n) p out₁ → Put out₁ p (big 4 v) r out₂ → start ≡ at + 7 → n ≡ end - at - 3 → end ≤ length before → length before ≡ length out
    → Put before at (made_bytes (on_made (boost v) m)) end out₂
unfolding encode
boost_put v nothing P x Q R es en h l = absurd (x (P.place ∙ omega arith))
boost_put v (made q) {before} {out₂ = out₂} {at} {start} {end} {n} P x Q R es en h l =
    let b = length_big 4 v in
    let F = put_then Q R (omega (arith, P.place)) in
    let f = length-append (header 4 n) (big 4 v) in
    let Z = put_before P F (omega arith) (omega (arith, P.place)) in
    let e : n ≡ length (big 4 v ++ encode q) = omega (arith, P.place, length-append (big 4 v) (encode q)) in
    subst (λ (s : List ℕ). Put before at s end out₂) (ap (λ (y : ℕ). (header 4 y ++ big 4 v) ++ encode q) e) Z

-- what is written at a place, whether a boost stands at i or not
module _ (st : Setup) (ts : List Token) (m : Made) (i : ℕ) {w : Made} {j : ℕ} (e : boost_at st ts m i ≡ got (found w j))
    {before out : List ℕ} {at start end : ℕ} (P : Put before start (made_bytes m) end out) where
  pub boost_bare : is_boosted ts i ≡ false → start ≡ at → (i ≡ j) × Put before at (made_bytes w) end out
  boost_bare b es =
      let z = unboosted st ts m i b e in
      (sym z.1, subst (λ (x : Made). Put before at (made_bytes x) end out) (sym z.0) (subst (λ (x : ℕ). Put before x (made_bytes m) end out) es P))

  pub boost_empty : is_boosted ts i ≡ true → end ≡ start → (i + 2 ≡ j) × Put before at (made_bytes w) at out
  boost_empty b x =
      let z = boosted st ts m i b e in
      (sym z.1, subst (λ (x : Made). Put before at (made_bytes x) at out) (sym z.0) (boost_nothing (bits_in (numeral_bits (text_at ts (i + 1)))) m at start P x))

  pub boost_front : is_boosted ts i ≡ true → (end ≡ start → ⊥) → {out₁ out₂ : List ℕ} (n v : ℕ) {p r : ℕ} → Put out at (header 4 n) p out₁ → Put out₁ p (big 4 v) r out₂
      → v ≡ bits_in (numeral_bits (text_at ts (i + 1))) → start ≡ at + 7 → n ≡ end - at - 3 → end ≤ length before → length before ≡ length out
      → (i + 2 ≡ j) × Put before at (made_bytes w) end out₂
  boost_front b x {out₂ = out₂} n v Q R ev es en h l =
      let z = boosted st ts m i b e in
      (sym z.1, subst (λ (x : Made). Put before at (made_bytes x) end out₂) (sym z.0) (boost_put (bits_in (numeral_bits (text_at ts (i + 1)))) m P x Q (rw ev at R) es en h l))
