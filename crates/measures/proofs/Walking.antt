-- A walk over the headers of checked bytes: what is left of it is always a row of queries and of clauses.
use mathlib.Core.Path.{◌≡◌, refl, sym, ap, ◌∙◌, subst}
use Prim.Native.Nat.{ℕ, ◌+◌, ◌/◌, ◌%◌, ◌≤◌, ◌<◌, max}
use mathlib.Core.List.{List, [], ◌∷◌, ◌++◌, append_assoc, append-nil}
use mathlib.Core.Bool.{Bool, true, false, cond}
use native.Mathlib.Omega.{arith}
use lib.ListN.{length, drop, length-append, length-drop}
use lib.Seq.{drop-drop}
use lib.Dec.{leb, eqb}
use borrow.Author.Tests.{ne_eqb, eqb-true, eqb-false}
use Rattle.rules.specs.Numbers.{term_tag, phrase_tag, boolean_tag, boost_tag, constant_score_tag, match_all_tag, match_none_tag, whole_range_tag, float_range_tag, field_tag, text_tag, must_tag}
use Rattle.rules.specs.Bytes.{is_empty, part, tag_of, size_of, rest_of}
use Rattle.rules.specs.Query.{Kind, must, should, must_not, filter, whole, float, Query, term, phrase, boolean, boost, constant_score, match_all, match_none, range, Clauses, none, clause}
use Rattle.rules.specs.Stored.{kind_tag, encode_bound, encode_words, encode, encodes, Valid, Valids}
use Rattle.rules.specs.Checked.{Is, Stored}
use Rattle.rules.specs.Rewriting.{weight, weights, largest, largests}
use Rattle.rules.proofs.Bools.{clash}
use Rattle.rules.proofs.Stored.Bigs.{read_big}
use Rattle.rules.proofs.Stored.Parts.{more_empty, less_empty, empty_nil, rest_part, whole_part, whole_le}
use Rattle.rules.proofs.Stored.Sizes.{length_encode}
use Rattle.rules.proofs.Rewriting.Measures.{weight_length}
use Rattle.rules.proofs.Stored.Weights.{largest_below}
use Rattle.rules.proofs.Stored.Equal.{encode_injective}
use Rattle.measures.specs.Measure.{skip_of, worth_of, least_of, Weighs, Largest}

-- ---- what is left of a walk

pub data Pieces : Type 0 where
  over : Pieces
  one : Query → Pieces → Pieces
  row : Clauses → Pieces → Pieces

unfoldable pub bytes_of : Pieces → List ℕ
bytes_of over = []
bytes_of (one q ps) = encode q ++ bytes_of ps
bytes_of (row cs ps) = encodes cs ++ bytes_of ps

unfoldable pub Sound : Pieces → Type 0
Sound over = Unit {0}
Sound (one q ps) = Valid q × Sound ps
Sound (row cs ps) = Valids cs × Sound ps

unfoldable pub weight_of : Pieces → ℕ
weight_of over = 0
weight_of (one q ps) = weight q + weight_of ps
weight_of (row cs ps) = weights cs + weight_of ps

unfoldable pub largest_of : Pieces → ℕ
largest_of over = 0
largest_of (one q ps) = max (largest q) (largest_of ps)
largest_of (row cs ps) = max (largests cs) (largest_of ps)

-- ---- one header

pub record Step (ps : Pieces) (t : List ℕ) : Type 0 where
  pub next : Pieces
  pub sound : Sound next
  pub bytes : bytes_of next ≡ drop (skip_of t) t
  pub three : 3 ≤ length t
  pub long : skip_of t ≤ length t
  pub room : tag_of t ≡ boolean_tag → 8 ≤ length t
  pub worth : weight_of ps ≡ worth_of (tag_of t) + weight_of next
  pub least : largest_of ps ≡ max (least_of t) (largest_of next)

-- every header has its three bytes
pub skip_some : (t : List ℕ) → 3 ≤ skip_of t
skip_some t = go (eqb (tag_of t) boolean_tag) (eqb (tag_of t) boost_tag) (eqb (tag_of t) constant_score_tag) (leb must_tag (tag_of t))
  where
    go : (a b c d : Bool) → 3 ≤ cond a 8 (cond b 7 (cond c 3 (cond d 3 (3 + size_of t))))
    go true b c d = omega arith
    go false true c d = omega arith
    go false false true d = omega arith
    go false false false true = omega arith
    go false false false false = omega arith

-- past a part that holds no query
past : (t : ℕ) (b r : List ℕ) → r ≡ drop (3 + size_of (part t b ++ r)) (part t b ++ r)
unfolding rest_of
past t b r = let s = part t b ++ r in sym (sym (drop-drop (size_of s) 3 s) ∙ rest_part t b r)

within : (t : ℕ) (b r : List ℕ) → 3 + size_of (part t b ++ r) ≤ length (part t b ++ r)
within t b r = whole_le (part t b ++ r) (whole_part t b r)

leaf : (q : Query) (t : ℕ) (b : List ℕ) (ps : Pieces) → skip_of (part t b ++ bytes_of ps) ≡ 3 + size_of (part t b ++ bytes_of ps) → (t ≡ boolean_tag → ⊥)
    → weight q ≡ worth_of t → largest q ≡ least_of (part t b ++ bytes_of ps) → Sound ps → Step (one q ps) (part t b ++ bytes_of ps)
unfolding weight_of largest_of
leaf q t b ps e n w l S =
    let r = bytes_of ps in
    record {
      next = ps;
      sound = S;
      bytes = past t b r ∙ ap (λ (k : ℕ). drop k (part t b ++ r)) (sym e);
      three = omega arith;
      long = rw e (within t b r);
      room = λ z. absurd (n z);
      worth = ap (λ (k : ℕ). k + weight_of ps) w;
      least = ap (λ (k : ℕ). max k (largest_of ps)) l;
    }

step_one : (q : Query) (ps : Pieces) → Valid q → Sound ps → Step (one q ps) (encode q ++ bytes_of ps)
unfolding encode Valid bytes_of Sound weight_of largest_of weight largest
step_one (term f x) ps v S = leaf (term f x) term_tag (part field_tag f ++ part text_tag x) ps refl (λ e. omega arith) refl refl S
step_one (phrase f ws) ps v S = leaf (phrase f ws) phrase_tag (part field_tag f ++ encode_words ws) ps refl (λ e. omega arith) refl refl S
step_one (boolean m cs) ps v S = record {
  next = row cs ps;
  sound = (v.1, S);
  bytes = refl;
  three = omega arith;
  long = omega arith;
  room = λ e. omega arith;
  worth = omega arith;
  least = omega (arith, read_big 2 m v.0);
}
step_one (boost b q) ps v S = record {
  next = one q ps;
  sound = (v.1, S);
  bytes = refl;
  three = omega arith;
  long = omega arith;
  room = λ e. absurd (omega arith);
  worth = omega arith;
  least = omega arith;
}
step_one (constant_score q) ps v S = record {
  next = one q ps;
  sound = (v, S);
  bytes = refl;
  three = omega arith;
  long = omega arith;
  room = λ e. absurd (omega arith);
  worth = omega arith;
  least = omega arith;
}
step_one match_all ps v S = leaf match_all match_all_tag [] ps refl (λ e. omega arith) refl refl S
step_one match_none ps v S = leaf match_none match_none_tag [] ps refl (λ e. omega arith) refl refl S
step_one (range whole f l u) ps v S =
    leaf (range whole f l u) whole_range_tag (part field_tag f ++ encode_bound l ++ encode_bound u) ps refl (λ e. omega arith) refl refl S
step_one (range float f l u) ps v S =
    leaf (range float f l u) float_range_tag (part field_tag f ++ encode_bound l ++ encode_bound u) ps refl (λ e. omega arith) refl refl S

-- a clause's header says the same for every kind
record KindIs (k : Kind) (r : List ℕ) : Type 0 where
  skips : skip_of (kind_tag k ∷ r) ≡ 3
  adds : worth_of (kind_tag k) ≡ 1
  has : least_of (kind_tag k ∷ r) ≡ 0
  other : kind_tag k ≡ boolean_tag → ⊥

kind_is : (k : Kind) (r : List ℕ) → KindIs k r
kind_is must r = record { skips = refl; adds = refl; has = refl; other = λ e. omega arith }
kind_is should r = record { skips = refl; adds = refl; has = refl; other = λ e. omega arith }
kind_is must_not r = record { skips = refl; adds = refl; has = refl; other = λ e. omega arith }
kind_is filter r = record { skips = refl; adds = refl; has = refl; other = λ e. omega arith }

step_clause : (k : Kind) (q : Query) (cs : Clauses) (ps : Pieces) → Valid q → Valids cs → Sound ps
    → Step (row (clause k q cs) ps) (encodes (clause k q cs) ++ bytes_of ps)
unfolding encode bytes_of Sound weight_of largest_of weight largest
step_clause k q cs ps v w S =
    let n = length (encode q) in
    let K = kind_is k (n / 256 ∷ n % 256 ∷ encode q ++ encodes cs ++ bytes_of ps) in
    record {
      next = one q (row cs ps);
      sound = (v, (w, S));
      bytes = rw K.skips (sym (append_assoc (encode q) (encodes cs) (bytes_of ps)));
      three = omega arith;
      long = rw K.skips (omega arith);
      room = λ e. absurd (K.other e);
      worth = rw K.adds (omega arith);
      least = rw K.has (omega arith);
    }

at_once : (ps : Pieces) → Sound ps → is_empty (bytes_of ps) ≡ false → Step ps (bytes_of ps)
unfolding bytes_of Sound encode Valid weight_of largest_of weight largest
at_once over S h = clash refl h
at_once (one q ps) S h = step_one q ps S.0 S.1
at_once (row none ps) S h =
    let T = at_once ps S.1 h in
    record {
      next = T.next;
      sound = T.sound;
      bytes = T.bytes;
      three = T.three;
      long = T.long;
      room = T.room;
      worth = omega (arith, T.worth);
      least = omega (arith, T.least);
    }
at_once (row (clause k q cs) ps) S h = step_clause k q cs ps S.0.0 S.0.1 S.1

pub step : (ps : Pieces) (t : List ℕ) → Sound ps → bytes_of ps ≡ t → is_empty t ≡ false → Step ps t
step ps t S e h = subst (Step ps) e (at_once ps S (ap is_empty e ∙ h))

pub done : (ps : Pieces) (t : List ℕ) → bytes_of ps ≡ t → is_empty t ≡ true → (weight_of ps ≡ 0) × (largest_of ps ≡ 0)
unfolding bytes_of weight_of largest_of weight largest encode
done over t e h = (refl, refl)
done (one q ps) t e h = absurd (let z = ap length (e ∙ empty_nil t h) in omega (arith, length-append (encode q) (bytes_of ps), length_encode q))
done (row none ps) t e h = let D = done ps t e h in omega (arith, D)
done (row (clause k q cs) ps) t e h = clash h (sym (ap is_empty e))

module _ (t : List ℕ) {r : Bool} (e : r ≡ eqb (length t) 0) where
  pub some_left : r ≡ false → 0 < length t
  some_left h = omega (arith, eqb-false (length t) 0 (sym e ∙ h))

  pub none_left : r ≡ true → length t ≤ 0
  none_left h = omega (arith, eqb-true (length t) 0 (sym e ∙ h))

-- ---- the loop: t is left, the headers before it weigh w, and their largest minimum is m

pub record Walked (s t : List ℕ) (w m : ℕ) : Type 0 where
  pub pieces : Pieces
  pub sound : Sound pieces
  pub bytes : bytes_of pieces ≡ t
  pub weighs : (q : Query) → Is s q → w + weight_of pieces ≡ weight q
  pub within : w + weight_of pieces ≤ length s
  pub larger : (q : Query) → Is s q → max m (largest_of pieces) ≡ largest q
  pub below : max m (largest_of pieces) < 65536

pub start : (s : List ℕ) → Stored s → Walked s s 0 0
unfolding bytes_of Sound weight_of largest_of
start s c =
    let q = c.query in
    let e : encode q ≡ s = c.is.form in
    let same : (p : Query) → Is s p → q ≡ p = λ p I. encode_injective q p c.is.valid I.valid (e ∙ sym I.form) in
    record {
      pieces = one q over;
      sound = (c.is.valid, tt);
      bytes = append-nil (encode q) ∙ e;
      weighs = λ p I. let f = ap weight (same p I) in omega (arith, f);
      within = omega (arith, weight_length q, ap length e);
      larger = λ p I. let f = ap largest (same p I) in omega (arith, f);
      below = omega (arith, largest_below q c.is.valid);
    }

module _ (s t : List ℕ) (w m : ℕ) (W : Walked s t w m) where
  pub header : 0 < length t → Step W.pieces t
  header h = step W.pieces t W.sound W.bytes (more_empty t h)

  pub turn : (h : 0 < length t) → Walked s (drop (skip_of t) t) (w + worth_of (tag_of t)) (max m (least_of t))
  turn h =
      let T = header h in
      record {
        pieces = T.next;
        sound = T.sound;
        bytes = T.bytes;
        weighs = λ q I. omega (arith, W.weighs q I, T.worth);
        within = omega (arith, W.within, T.worth);
        larger = λ q I. omega (arith, W.larger q I, T.least);
        below = omega (arith, W.below, T.least);
      }

  -- the same, by what code has
  pub turned : {u : List ℕ} {a b : ℕ} → 0 < length t → u ≡ drop (skip_of t) t → a ≡ w + worth_of (tag_of t) → b ≡ max m (least_of t) → Walked s u a b
  turned {u} {a} {b} h eu ea eb = rw (eu, ea, eb) (turn h)

  -- the walk gets on
  pub shorter : 0 < length t → length (drop (skip_of t) t) < length t
  shorter h = let T = header h in omega (arith, length-drop (skip_of t) t, skip_some t, T.long)

  pub worth_fits : 0 < length t → w + worth_of (tag_of t) ≤ length s
  worth_fits h = let T = header h in omega (arith, W.within, T.worth)

  pub weighed : length t ≤ 0 → Weighs s w
  weighed h =
      let D = done W.pieces t W.bytes (less_empty t h) in
      record { weighs = λ q I. omega (arith, W.weighs q I, D.0); within = omega (arith, W.within, D.0) }

  pub measured : length t ≤ 0 → Largest s m
  measured h =
      let D = done W.pieces t W.bytes (less_empty t h) in
      record { is = λ q I. omega (arith, W.larger q I, D.1); below = omega (arith, W.below, D.1) }

-- ---- what each header's functions return

pub skips : (t : List ℕ) → (tag_of t ≡ boolean_tag → ⊥) → (tag_of t ≡ boost_tag → ⊥) → (tag_of t ≡ constant_score_tag → ⊥)
    → skip_of t ≡ cond (leb must_tag (tag_of t)) 3 (3 + size_of t)
skips t x y z = rw (ne_eqb (tag_of t) boolean_tag x, ne_eqb (tag_of t) boost_tag y, ne_eqb (tag_of t) constant_score_tag z)
