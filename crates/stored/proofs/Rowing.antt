-- Rows of clauses inside rows: what is said of the row at hand and of those that wait, and how code keeps those that wait.
use mathlib.Core.Path.{◌≡◌, refl, sym, ap, ◌∙◌}
use Prim.Native.Nat.{ℕ, zero, suc, ◌+◌, ◌-◌, ◌≤◌, ◌<◌}
use mathlib.Core.List.{List, [], ◌∷◌}
use mathlib.Core.Bool.{true}
use native.Mathlib.Omega.{arith}
use native.Mathlib.Numerals.{add-one}
use lib.ListN.{length, get_or, drop, set, length-set}
use lib.Seq.{get_or-set_same, get_or-set_other}
use Rattle.std.specs.Prelude.{Ok, Err}
use Rattle.names.specs.declared.refusal.Refusal.{Refusal}
use Rattle.rules.specs.Bytes.{is_empty}
use Rattle.rules.specs.Reading.{decode}
use Rattle.rules.proofs.Stored.Parts.{less_empty}
use Rattle.stored.specs.declared.read.Held.{Held}
use Rattle.stored.specs.declared.read.Outer.{Outer}
use Rattle.stored.specs.Read.{Verdict, verdict, bad, cut, row_of, held, behind, no_row, after, IsFault, Within, PastClause, IntoClause, LastClause}
use Rattle.stored.proofs.Reader.{clauses_end}
use Rattle.stored.proofs.Opening.{cut_all, length_cut, cut_cut, drop_cut}
use Rattle.stored.proofs.Stepping.{after_bad}

-- ---- what is said of rows

after_assoc : (a b x : Verdict) → after (after a b) x ≡ after a (after b x)
after_assoc (Ok u) b x = refl
after_assoc (Err r) b x = refl

-- a row that waits: the records that may nest in it, and its clauses
abbrev pub Row : Type 0
Row = ℕ × List ℕ

-- the row at hand, and then those that wait
unfoldable pub said_of : Verdict → ℕ → List ℕ → List Row → Verdict
said_of g d t [] = verdict g (row_of d t)
said_of g d t (r ∷ rs) = after (verdict (Ok tt) (row_of d t)) (said_of g r.0 r.1 rs)

module _ (g : Verdict) (d : ℕ) (t : List ℕ) where
  said_fault : (r : Refusal) → IsFault (row_of d t) r → (rs : List Row) → said_of g d t rs ≡ Err r
  unfolding said_of
  said_fault r F [] = F g
  said_fault r F (x ∷ rs) = ap (λ (k : Verdict). after k (said_of g x.0 x.1 rs)) (F (Ok tt))

  said_past : (k : ℕ) → PastClause d t k → (rs : List Row) → said_of g d t rs ≡ said_of g d (drop k t) rs
  unfolding said_of
  said_past k P [] = P.is g
  said_past k P (x ∷ rs) = ap (λ (k : Verdict). after k (said_of g x.0 x.1 rs)) (P.is (Ok tt))

  said_into : (h : Held) → IntoClause d t h → (rs : List Row) → said_of g d t rs ≡ said_of g h.left (held h t) ((d, drop h.to t) ∷ rs)
  unfolding said_of
  said_into h I [] = I.is g
  said_into h I (x ∷ rs) =
      ap (λ (k : Verdict). after k (said_of g x.0 x.1 rs)) (I.is (Ok tt))
      ∙ after_assoc (verdict (Ok tt) (row_of h.left (held h t))) (verdict (Ok tt) (row_of d (drop h.to t))) (said_of g x.0 x.1 rs)

  said_last : (h : Held) → LastClause d t h → (rs : List Row) → said_of g d t rs ≡ said_of bad h.left (held h t) []
  unfolding said_of
  said_last h L [] = L.is g
  said_last h L (x ∷ rs) = ap (λ (k : Verdict). after k (said_of g x.0 x.1 rs)) (L.is (Ok tt)) ∙ after_bad (row_of h.left (held h t)) _

  said_next : is_empty t ≡ true → (r : Row) (rs : List Row) → said_of g d t (r ∷ rs) ≡ said_of g r.0 r.1 rs
  unfolding said_of
  said_next e r rs = ap (λ (k : Verdict). after k (said_of g r.0 r.1 rs)) (clauses_end (Ok tt) (decode d) t e)

  said_end : is_empty t ≡ true → said_of g d t [] ≡ g
  unfolding said_of
  said_end e = clauses_end g (decode d) t e

-- ---- how the rows that wait are kept: where each ends, and its depth; it goes on where the one inside it ends

abbrev pub row_at : List Outer → ℕ → Outer
row_at os k = get_or os k no_row

unfoldable pub waiting : List ℕ → List Outer → ℕ → ℕ → List Row
waiting s os zero p = []
waiting s os (suc k) p = ((row_at os k).left, cut p (row_at os k).end s) ∷ waiting s os k (row_at os k).end

-- each ends where the next outer one goes on or later, and there is room for what may nest in it
unfoldable pub Kept : List ℕ → List Outer → ℕ → ℕ → Type 0
Kept s os zero p = p ≤ length s
Kept s os (suc k) p = (p ≤ (row_at os k).end) × (k + (row_at os k).left < 192) × Kept s os k (row_at os k).end

kept_end : (s : List ℕ) (os : List Outer) (n p : ℕ) → Kept s os n p → p ≤ length s
unfolding Kept
kept_end s os zero p K = K
kept_end s os (suc k) p K = let h = kept_end s os k (row_at os k).end K.2 in omega (arith, K.0)

-- a row kept above them changes none of them
module _ (s : List ℕ) (os : List Outer) (m : ℕ) (o : Outer) where
  below : (k : ℕ) → k < m → row_at (set os m o) k ≡ row_at os k
  below k h = get_or-set_other os m k o no_row (λ e. omega arith)

  waiting_same : (k p : ℕ) → k ≤ m → waiting s (set os m o) k p ≡ waiting s os k p
  unfolding waiting
  waiting_same zero p h = refl
  waiting_same (suc k) p h =
      let B = below k (omega arith) in
      let w = waiting_same k (row_at os k).end (omega arith) in
      rw (B, w)

  kept_same : (k p : ℕ) → k ≤ m → Kept s os k p → Kept s (set os m o) k p
  unfolding Kept
  kept_same zero p h K = K
  kept_same (suc k) p h K =
      let B = below k (omega arith) in
      rw B (K.0, K.1, kept_same k (row_at os k).end (omega arith) K.2)

-- a row fits the loop
pub row_short : (s : List ℕ) (h : Held) → Within s h → length (held h s) < 65536
row_short s h W = omega (arith, length_cut h.from h.to s W.end, W.short)

-- ---- the loop

pub record Rowing (first : ℕ) (sound : Verdict) (s : List ℕ) (os : List Outer) (n : ℕ) (here : Held) (good : Verdict) : Type 0 where
  pub long : length os ≡ 192
  pub room : n + here.left < 192
  pub order : here.from ≤ here.to
  pub short : length s < 65536
  pub kept : Kept s os n here.to
  pub is : verdict sound (row_of first s) ≡ said_of good here.left (held here s) (waiting s os n here.to)

pub start : (first : ℕ) (sound : Verdict) (s : List ℕ) (os : List Outer) → first < 192 → length s < 65536 → length os ≡ 192
    → Rowing first sound s os 0 (record { from = 0; to = length s; left = first }) sound
unfolding Kept said_of waiting
start first sound s os h k l = record {
  long = l;
  room = omega arith;
  order = omega arith;
  short = k;
  kept = omega arith;
  is = ap (λ (l : List ℕ). verdict sound (row_of first l)) (sym (cut_all s));
}

module _ {first : ℕ} {sound : Verdict} {s : List ℕ} {os : List Outer} {n : ℕ} {here : Held} {good : Verdict} (R : Rowing first sound s os n here good) where
  abbrev row : List ℕ
  row = held here s

  pub inside : here.to ≤ length s
  inside = kept_end s os n here.to R.kept

  pub row_length : length row ≡ here.to - here.from
  row_length = length_cut here.from here.to s inside

  pub fault : (r : Refusal) → IsFault (row_of here.left row) r → Err r ≡ verdict sound (row_of first s)
  fault r F = sym (R.is ∙ said_fault good here.left row r F (waiting s os n here.to))

  -- what the row holds ends in it
  pub held_within : (h : Held) → Within row h → here.from + h.to ≤ here.to
  held_within h W = omega (arith, W.end, row_length, R.order)

  pub past_within : (k : ℕ) → PastClause here.left row k → here.from + k ≤ here.to
  past_within k P = omega (arith, P.end, row_length, R.order)

  pub past : (k : ℕ) → PastClause here.left row k → Rowing first sound s os n (record here { from = here.from + k }) good
  past k P = record {
    long = R.long;
    room = R.room;
    order = past_within k P;
    short = R.short;
    kept = R.kept;
    is = R.is ∙ said_past good here.left row k P (waiting s os n here.to)
        ∙ ap (λ (l : List ℕ). said_of good here.left l (waiting s os n here.to)) (drop_cut here.from here.to k s);
  }

  module _ (h : Held) (I : IntoClause here.left row h) where
    o : Outer
    o = record { end = here.to; left = here.left }

    top : row_at (set os n o) n ≡ o
    top = get_or-set_same os n o no_row (omega (arith, R.room, R.long))

    waiting_more : waiting s (set os n o) (n + 1) (here.from + h.to) ≡ (here.left, cut (here.from + h.to) here.to s) ∷ waiting s os n here.to
    unfolding waiting o
    waiting_more = rw (add-one, top, waiting_same s os n o n here.to (omega arith))

    kept_more : Kept s (set os n o) (n + 1) (here.from + h.to)
    unfolding Kept o
    kept_more = rw (add-one, top) (held_within h I.at, R.room, kept_same s os n o n here.to (omega arith) R.kept)

    pub into : Rowing first sound s (set os n (record { end = here.to; left = here.left })) (n + 1) (behind here.from h) good
    unfolding o
    into = record {
      long = length-set os n o ∙ R.long;
      room = omega (arith, R.room, I.less);
      order = omega (arith, I.at.order);
      short = R.short;
      kept = kept_more;
      is = R.is ∙ said_into good here.left row h I (waiting s os n here.to)
          ∙ ap (λ (m : List ℕ). said_of good h.left m ((here.left, drop h.to row) ∷ waiting s os n here.to)) (cut_cut here.from here.to h.from h.to s (omega (arith, I.at.end, row_length)))
          ∙ ap (λ (m : List ℕ). said_of good h.left (held (behind here.from h) s) ((here.left, m) ∷ waiting s os n here.to)) (drop_cut here.from here.to h.to s)
          ∙ ap (said_of good h.left (held (behind here.from h) s)) (sym waiting_more);
    }

  pub last : (h : Held) → LastClause here.left row h → Rowing first sound s os 0 (behind here.from h) bad
  unfolding Kept waiting
  last h L = record {
    long = R.long;
    room = omega (arith, R.room, L.less);
    order = omega (arith, L.at.order);
    short = R.short;
    kept = omega (arith, held_within h L.at, inside);
    is = R.is ∙ said_last good here.left row h L (waiting s os n here.to)
        ∙ ap (λ (m : List ℕ). said_of bad h.left m []) (cut_cut here.from here.to h.from h.to s (omega (arith, L.at.end, row_length)));
  }

  -- ---- at the end of a row

  module _ (done : here.to ≤ here.from) where
    over : is_empty row ≡ true
    over = less_empty row (omega (arith, row_length))

    pub finished : n ≡ 0 → good ≡ verdict sound (row_of first s)
    unfolding waiting
    finished z = sym (R.is ∙ ap (λ (k : ℕ). said_of good here.left row (waiting s os k here.to)) z ∙ said_end good here.left row over)

    module _ (m : ℕ) (eq : n ≡ suc m) where
      kept_top : Kept s os (suc m) here.to
      kept_top = rw eq at R.kept

      pub popped : Rowing first sound s os m (record { from = here.from; to = (row_at os m).end; left = (row_at os m).left }) good
      unfolding Kept waiting
      popped = record {
        long = R.long;
        room = kept_top.1;
        order = omega (arith, kept_top.0, R.order);
        short = R.short;
        kept = kept_top.2;
        is = R.is ∙ ap (λ (k : ℕ). said_of good here.left row (waiting s os k here.to)) eq ∙ said_next good here.left row over _ _
            ∙ ap (λ (p : ℕ). said_of good (row_at os m).left (cut p (row_at os m).end s) (waiting s os m (row_at os m).end)) (omega arith);
      }
