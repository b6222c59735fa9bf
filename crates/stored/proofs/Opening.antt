-- What a record holds, in the numbers that code has: where it ends, and from where to where what it holds stands.
use mathlib.Core.Path.{◌≡◌, refl, sym, ap, ◌∙◌}
use Prim.Native.Nat.{ℕ, zero, suc, ◌+◌, ◌-◌, ◌≤◌, ◌<◌}
use mathlib.Core.List.{List, [], ◌∷◌}
use mathlib.Core.Bool.{Bool, true, false}
use native.Mathlib.Omega.{arith}
use native.Mathlib.Decide.{ℕ_discrete}
use lib.ListN.{length, take, drop, length-drop}
use lib.Seq.{take-take, drop-drop, take_all, take-nil, length-take-le}
use lib.Dec.{leb, eqb}
use borrow.Author.Tests.{eq-eqb, ne_eqb, eqb-true, leb-true}
use Rattle.std.specs.Prelude.{Ok, Err}
use Rattle.names.specs.declared.refusal.Refusal.{Refusal}
use Rattle.names.specs.declared.refusal.Refusal.TheVariants.{MalformedQuery, DeepQuery}
use Rattle.rules.specs.Numbers.{boolean_tag, boost_tag, constant_score_tag, minimum_tag, Read}
use Rattle.rules.specs.Bytes.{of_big, is_empty, tag_of, size_of, body_of, rest_of, whole_of, is_part}
use Rattle.rules.specs.Query.{Query}
use Rattle.rules.specs.Stored.{is_boost}
use Rattle.rules.specs.Reading.{is_query, body_in, decode}
use Rattle.rules.proofs.Bools.{and_l, and_r, alike}
use Rattle.rules.proofs.Chains.{nothing}
use Rattle.rules.proofs.Stored.Parts.{part_is, whole_le, length_body, length_rest}
use Rattle.rules.proofs.Stored.Steps.{in_boolean, in_boost, in_constant_score}
use Rattle.stored.specs.declared.read.Held.{Held}
use Rattle.stored.specs.Read.{Verdict, verdict, bad, said_as, said, is_leaf, is_minimum, is_record, is_boosted, cut, row_of, held, behind, closed_at, IsFault, Within, HoldsRow, HoldsQuery, IsLeafRecord}
use Rattle.stored.proofs.Reader.{inside_leaf, constant_verdict, boost_is_bad, boost_verdict, boolean_is_bad, boolean_verdict, record_bad, record_deep, record_in}

-- ---- stretches

drop_take : (k n : ℕ) (l : List ℕ) → drop k (take n l) ≡ take (n - k) (drop k l)
drop_take zero n l = let z : n ≡ n - 0 = omega arith in ap (λ (i : ℕ). take i l) z
drop_take (suc k) zero l = let z : 0 ≡ 0 - suc k = omega arith in ap (λ (i : ℕ). take i (drop (suc k) l)) z
drop_take (suc k) (suc n) [] = sym (take-nil (suc n - suc k))
drop_take (suc k) (suc n) (x ∷ l) = drop_take k n l ∙ (let z : n - k ≡ suc n - suc k = omega arith in ap (λ (i : ℕ). take i (drop k l)) z)

pub cut_all : (s : List ℕ) → cut 0 (length s) s ≡ s
cut_all s = take_all (length s - 0) s (omega arith)

pub length_cut : (a e : ℕ) (s : List ℕ) → e ≤ length s → length (cut a e s) ≡ e - a
length_cut a e s h = length-take-le (e - a) (drop a s) (simp length-drop (omega arith))

-- a stretch of a stretch
pub cut_cut : (a e b f : ℕ) (s : List ℕ) → f ≤ e - a → cut b f (cut a e s) ≡ cut (a + b) (a + f) s
cut_cut a e b f s h =
    let n : f - b ≡ a + f - (a + b) = omega arith in
    ap (take (f - b)) (drop_take b (e - a) (drop a s))
    ∙ take-take (f - b) (e - a - b) (drop b (drop a s)) (omega arith)
    ∙ ap (take (f - b)) (drop-drop b a s) ∙ ap (λ (i : ℕ). take i (drop (a + b) s)) n

-- behind a stretch that ends where a longer one does
pub drop_cut : (a e k : ℕ) (s : List ℕ) → drop k (cut a e s) ≡ cut (a + k) e s
drop_cut a e k s =
    let n : e - a - k ≡ e - (a + k) = omega arith in
    drop_take k (e - a) (drop a s) ∙ ap (take (e - a - k)) (drop-drop k a s) ∙ ap (λ (i : ℕ). take i (drop (a + k) s)) n

-- ---- where a record ends

-- nothing behind it, or something: a record in a record ends there exactly if both do
pub closed_in : (at end e : ℕ) (s : List ℕ) (g : Verdict) → at ≤ end → end ≤ length s → e ≤ end - at
    → closed_at e (cut at end s) (closed_at end s g) ≡ closed_at (at + e) s g
closed_in at end e s g h k l = go (ℕ_discrete e (end - at))
  where
    q : ℕ
    q = length (cut at end s)

    lq : q ≡ end - at
    lq = length_cut at end s k

    go : Dec (e ≡ end - at) → closed_at e (cut at end s) (closed_at end s g) ≡ closed_at (at + e) s g
    go (yes f) =
        let n : at + e ≡ end = omega arith in
        rw (eq-eqb e q (f ∙ sym lq), n)
    go (no f) = rw (ne_eqb e q (λ z. f (z ∙ lq)), ne_eqb (at + e) (length s) (λ z. omega (arith, f)))

closed_all : (s : List ℕ) (g : Verdict) → closed_at (length s) s g ≡ g
closed_all s g = rw (eq-eqb (length s) (length s) refl)

ends_at : (q : List ℕ) (e : ℕ) → whole_of q ≡ true → e ≡ 3 + size_of q → eqb e (length q) ≡ is_empty (rest_of q)
ends_at q e w h =
    let l = length_rest q in
    let k = whole_le q w in
    alike (eqb e (length q)) (eqb (length (rest_of q)) 0)
    (λ t. eq-eqb (length (rest_of q)) 0 (omega (arith, eqb-true e (length q) t)))
    (λ t. eq-eqb e (length q) (omega (arith, eqb-true (length (rest_of q)) 0 t)))
    ∙ nothing (rest_of q) refl

-- ---- a minimum and the clauses behind it; a boost and the query behind it

minimum_is : (b : List ℕ) → is_minimum b ≡ true → (5 ≤ length b) × (rest_of b ≡ drop 5 b)
unfolding rest_of
minimum_is b h =
    let w = (part_is minimum_tag b (and_l (is_part minimum_tag b) (eqb (length (body_of b)) 2) h)).0 in
    let two : size_of b ≡ 2 = sym (length_body b w) ∙ eqb-true (length (body_of b)) 2 (and_r (is_part minimum_tag b) (eqb (length (body_of b)) 2) h) in
    (omega (arith, whole_le b w, two), ap (λ (n : ℕ). drop n (drop 3 b)) two ∙ drop-drop 2 3 b)

boosted_long : (b : List ℕ) → is_boosted b ≡ true → 4 ≤ length b
boosted_long b h = leb-true 4 (length b) (and_l (leb 4 (length b)) (is_boost (of_big (take 4 b))) h)

-- ---- a record: code has its end e and its body b

pub passed : {t b : Bool} {u : Unit {0}} → t ≡ b → Ok u ≡ said t → b ≡ true
passed {t} {b} e s = sym e ∙ go t s
  where
    go : (t : Bool) {u : Unit {0}} → Ok u ≡ said t → t ≡ true
    go true s = refl
    go false s = cc

pub failed : {t b : Bool} {r : Refusal} → t ≡ b → Err r ≡ said t → (b ≡ false) × (r ≡ MalformedQuery)
failed {t} {b} {r} e s = go t s e
  where
    go : (t : Bool) → Err r ≡ said t → t ≡ b → (b ≡ false) × (r ≡ MalformedQuery)
    go true s e = cc
    go false s e = (sym e, cc)

pub fault_bad : (d : ℕ) (s : List ℕ) → is_record s ≡ false → IsFault (decode d s) MalformedQuery
fault_bad d s h g = record_bad g d s h

pub fault_deep : (d : ℕ) (s : List ℕ) → d ≡ 0 → is_record s ≡ true → IsFault (decode d s) DeepQuery
fault_deep d s z h g = record_deep g d s z h

module _ (d : ℕ) (q b : List ℕ) (e : ℕ) (n : d ≡ 0 → ⊥) (ok : is_record q ≡ true) (ee : e ≡ 3 + size_of q) (le : size_of q < 65536) (eb : b ≡ body_of q) where
  abbrev sub : List ℕ → Read Query
  sub = decode (d - 1)

  w : whole_of q ≡ true
  w = and_l (whole_of q) (is_query (tag_of q)) ok

  long : length b ≡ size_of q
  long = ap length eb ∙ length_body q w

  by_body : (g : Verdict) → verdict g (decode d q) ≡ verdict (closed_at e q g) (body_in sub (tag_of q) b)
  by_body g = record_in g d q n ok ∙ ap (λ (t : Bool). verdict (said_as t g) (body_in sub (tag_of q) (body_of q))) (sym (ends_at q e w ee)) ∙ rw eb

  abbrev from_body : ℕ → Held
  from_body k = record { from = 3 + k; to = e; left = d - 1 }

  -- what stands behind the first k bytes of the body
  body_from : (k : ℕ) → drop k b ≡ held (from_body k) q
  unfolding body_of
  body_from k =
      let m : size_of q - k ≡ e - (3 + k) = omega arith in
      ap (drop k) eb ∙ drop_take k (size_of q) (drop 3 q) ∙ ap (take (size_of q - k)) (drop-drop k 3 q) ∙ ap (λ (i : ℕ). take i (drop (3 + k) q)) m

  within : (k : ℕ) → k ≤ length b → Within q (from_body k)
  within k h =
      let l = whole_le q w in
      record { some = omega arith; order = omega (arith, long); end = omega arith; short = omega arith }

  record_fault : ((g : Verdict) → verdict g (body_in sub (tag_of q) b) ≡ bad) → IsFault (decode d q) MalformedQuery
  record_fault f g = by_body g ∙ f (closed_at e q g)

  pub boolean_row : tag_of q ≡ boolean_tag → is_minimum b ≡ true → HoldsRow d q (from_body 5)
  boolean_row t h =
      let m = minimum_is b h in
      record {
        at = within 5 m.0;
        less = omega (arith, n);
        is = λ g. by_body g ∙ ap (verdict (closed_at e q g)) (in_boolean sub b (tag_of q) t) ∙ boolean_verdict (closed_at e q g) sub b h
            ∙ ap (λ (l : List ℕ). verdict (closed_at e q g) (row_of (d - 1) l)) (m.1 ∙ body_from 5);
      }

  pub boolean_fault : tag_of q ≡ boolean_tag → is_minimum b ≡ false → IsFault (decode d q) MalformedQuery
  boolean_fault t h = record_fault (λ g. ap (verdict g) (in_boolean sub b (tag_of q) t) ∙ boolean_is_bad g sub b h)

  pub boost_query : tag_of q ≡ boost_tag → is_boosted b ≡ true → HoldsQuery d q (from_body 4)
  boost_query t h = record {
    at = within 4 (boosted_long b h);
    less = omega (arith, n);
    is = λ g. by_body g ∙ ap (verdict (closed_at e q g)) (in_boost sub b (tag_of q) t) ∙ boost_verdict (closed_at e q g) sub b h
        ∙ ap (λ (l : List ℕ). verdict (closed_at e q g) (sub l)) (body_from 4);
  }

  pub boost_fault : tag_of q ≡ boost_tag → is_boosted b ≡ false → IsFault (decode d q) MalformedQuery
  boost_fault t h = record_fault (λ g. ap (verdict g) (in_boost sub b (tag_of q) t) ∙ boost_is_bad g sub b h)

  pub constant_query : tag_of q ≡ constant_score_tag → HoldsQuery d q (from_body 0)
  constant_query t = record {
    at = within 0 (omega arith);
    less = omega (arith, n);
    is = λ g. by_body g ∙ ap (verdict (closed_at e q g)) (in_constant_score sub b (tag_of q) t) ∙ constant_verdict (closed_at e q g) sub b
        ∙ ap (λ (l : List ℕ). verdict (closed_at e q g) (sub l)) (body_from 0);
  }

  module _ (x : tag_of q ≡ boolean_tag → ⊥) (y : tag_of q ≡ boost_tag → ⊥) (z : tag_of q ≡ constant_score_tag → ⊥) where
    pub leaf_record : is_leaf (tag_of q) b ≡ true → IsLeafRecord d q e
    leaf_record h = record {
      end = (within 0 (omega arith)).end;
      is = λ g. by_body g ∙ sym (inside_leaf (closed_at e q g) sub (tag_of q) b x y z) ∙ rw h;
    }

    pub leaf_fault_lem : is_leaf (tag_of q) b ≡ false → IsFault (decode d q) MalformedQuery
    leaf_fault_lem h = record_fault (λ g. sym (inside_leaf g sub (tag_of q) b x y z) ∙ rw h)

-- ---- through the records that hold one query

pub record Opening (d : ℕ) (s : List ℕ) (at : Held) : Type 0 where
  pub order : at.from ≤ at.to
  pub within : at.to ≤ length s
  pub less : at.left ≤ d
  pub is : (g : Verdict) → verdict g (decode d s) ≡ verdict (closed_at at.to s g) (decode at.left (held at s))

pub opening : (d : ℕ) (s : List ℕ) → Opening d s (record { from = 0; to = length s; left = d })
opening d s = record {
  order = omega arith;
  within = omega arith;
  less = omega arith;
  is = λ g. sym (ap (λ (x : Verdict). verdict x (decode d (cut 0 (length s) s))) (closed_all s g) ∙ ap (λ (l : List ℕ). verdict g (decode d l)) (cut_all s));
}

module _ {d : ℕ} {s : List ℕ} {at : Held} (O : Opening d s at) where
  abbrev front : List ℕ
  front = held at s

  lf : length front ≡ at.to - at.from
  lf = length_cut at.from at.to s O.within

  shifted : (h : Held) → Within front h → Within s (behind at.from h)
  shifted h W = record {
    some = omega (arith, W.some);
    order = omega (arith, W.order);
    end = omega (arith, lf, W.end, O.order, O.within);
    short = omega (arith, W.short);
  }

  within_end : (e : ℕ) → e ≤ length front → e ≤ at.to - at.from
  within_end e h = omega (arith, lf)

  pub opened_fault : (r : Refusal) → IsFault (decode at.left front) r → IsFault (decode d s) r
  opened_fault r F g = O.is g ∙ F (closed_at at.to s g)

  pub opened_leaf : (e : ℕ) → IsLeafRecord at.left front e → IsLeafRecord d s (at.from + e)
  opened_leaf e L =
      let h = within_end e L.end in
      record {
        end = omega (arith, O.order, O.within);
        is = λ g. O.is g ∙ L.is (closed_at at.to s g) ∙ closed_in at.from at.to e s g O.order O.within h;
      }

  pub opened_row : (h : Held) → HoldsRow at.left front h → HoldsRow d s (behind at.from h)
  opened_row h R =
      let k = within_end h.to R.at.end in
      record {
        at = shifted h R.at;
        less = omega (arith, R.less, O.less);
        is = λ g. O.is g ∙ R.is (closed_at at.to s g)
            ∙ ap (λ (x : Verdict). verdict x (row_of h.left (held h front))) (closed_in at.from at.to h.to s g O.order O.within k)
            ∙ ap (λ (m : List ℕ). verdict (closed_at (at.from + h.to) s g) (row_of h.left m)) (cut_cut at.from at.to h.from h.to s k);
      }

  pub opened_query : (h : Held) → HoldsQuery at.left front h → Opening d s (behind at.from h)
  opened_query h Q =
      let k = within_end h.to Q.at.end in
      let W = shifted h Q.at in
      record {
        order = W.order;
        within = W.end;
        less = omega (arith, O.less, Q.less);
        is = λ g. O.is g ∙ Q.is (closed_at at.to s g)
            ∙ ap (λ (x : Verdict). verdict x (decode h.left (held h front))) (closed_in at.from at.to h.to s g O.order O.within k)
            ∙ ap (λ (m : List ℕ). verdict (closed_at (at.from + h.to) s g) (decode h.left m)) (cut_cut at.from at.to h.from h.to s k);
      }

  pub opened_less : (h : Held) → HoldsQuery at.left front h → at.from + h.to - (at.from + h.from) < at.to - at.from
  opened_less h Q = omega (arith, lf, Q.at.some, Q.at.order, Q.at.end)
