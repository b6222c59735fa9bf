-- The analyzers noted at field names: the row stays as it was laid. Assumes nothing.
use mathlib.Core.Path.{◌≡◌, sym, ap, subst, ◌∙◌}
use mathlib.Core.Bool.{Bool, true, false, cond}
use Prim.Native.Nat.{ℕ, ◌+◌, ◌-◌, ◌≤◌, ◌<◌}
use mathlib.Core.List.{List, [], ◌∷◌}
use native.Mathlib.Decide.{dec_lt}
use native.Mathlib.Omega.{arith}
use lib.Dec.{T, leb, leb→le}
use lib.ListN.{length}
use borrow.Author.Tests.{ne_eqb}
use Rattle.rules.specs.Bytes.{all, same, is_field}
use Rattle.rules.specs.Lexing.{Token}
use Rattle.rules.specs.Setup.{FieldEntry, field_entry, is_analyzer, is_field_entry, analyzer_among}
use Rattle.rules.specs.Parsing.{token_of, is_at, text_at}
use Rattle.rules.proofs.Bools.{clash, and_l, and_r, and_no_l, and_no_r}
use Rattle.row.specs.Row.{token_at, tokens_of, word_note, Renoted}
use Rattle.row.proofs.Noting.{worded_noted}
use Rattle.clauses.specs.Measured.{Spaced, Rowed, is_named, note_at}
use Rattle.parser.specs.Noted.{Noted}
use Rattle.clauses.proofs.Rows.{text_is, named_in}

-- an analyzer's note at a token leaves a row that is laid so
module _ {i a n : ℕ} {room after : List ℕ} (N : Renoted i a room after) (R : Rowed room n) where
  pub note_tokens : tokens_of after n ≡ tokens_of room n
  note_tokens = N.tokens n R.laid

  pub note_rowed : (a ≡ word_note → ⊥) → Rowed after n
  note_rowed other = record {
    least = rw N.size R.least;
    few = R.few;
    laid = N.laid n R.laid;
    spaced = λ k h. subst (λ (ts : List Token). Spaced ts k) (sym note_tokens) (R.spaced k h);
    worded = worded_noted N R.laid other R.worded;
  }

-- ---- what is noted is an analyzer

pub analyzer_small : (a : ℕ) → is_analyzer a ≡ true → a ≤ 5
analyzer_small a e = leb→le a 5 (subst T (sym (and_r (leb 1 a) (leb a 5) e)) tt)

pub among_analyzers : (a : ℕ) (es : List FieldEntry) (f : List ℕ) → is_analyzer a ≡ true → all is_field_entry es ≡ true → is_analyzer (analyzer_among a es f) ≡ true
unfolding analyzer_among all
among_analyzers a [] f e k = e
among_analyzers a (field_entry b name ∷ es) f e k =
    among_analyzers (cond (same name f) b a) es f (pick (same name f)) (and_r (is_field_entry (field_entry b name)) (all is_field_entry es) k)
  where
    pick : (x : Bool) → is_analyzer (cond x b a) ≡ true
    pick true = and_l (is_analyzer b) (is_field name) (and_l (is_field_entry (field_entry b name)) (all is_field_entry es) k)
    pick false = e

-- ---- what is no field name

module _ (ts : List Token) (k : ℕ) {r : ℕ} where
  pub no_colon : 0 < k → r ≡ (token_of ts k).kind → (r ≡ 3 → ⊥) → is_named ts (k - 1) ≡ false
  no_colon h e n =
      let x : k - 1 + 1 ≡ k = omega arith in
      and_no_r (is_at 1 ts (k - 1)) (ap (λ (j : ℕ). is_at 3 ts j) x ∙ ne_eqb _ 3 (λ z. n (e ∙ z)))

  pub no_name : r ≡ (token_of ts (k - 1)).kind → (r ≡ 1 → ⊥) → is_named ts (k - 1) ≡ false
  no_name e n = and_no_l (is_at 3 ts (k - 1 + 1)) (ne_eqb _ 1 (λ z. n (e ∙ z)))

-- ---- the loop: what stands before the colons below k is noted

pub record Noting (n : ℕ) (es : List FieldEntry) (default : ℕ) (before : List ℕ) (k : ℕ) (room : List ℕ) : Type 0 where
  pub first : 0 < k
  pub rowed : Rowed room n
  pub tokens : tokens_of room n ≡ tokens_of before n
  pub long : length room ≡ length before
  pub notes : (j : ℕ) → j + 1 < k → is_named (tokens_of room n) j ≡ true → note_at room j ≡ analyzer_among default es (text_at (tokens_of room n) j)

module _ {n : ℕ} {es : List FieldEntry} {default : ℕ} {before : List ℕ} {k : ℕ} {room : List ℕ} (N : Noting n es default before k room) where
  pub noting_ends : n ≤ k → Noted n es default before room
  noting_ends h = record { rowed = N.rowed; tokens = N.tokens; notes = λ j l m. N.notes j (omega (arith, named_in room n j m)) m }

  module _ (h : k < n) where
    below : {P : ℕ → Type 0} → ((j : ℕ) → j + 1 < k → P j) → P (k - 1) → (j : ℕ) → j + 1 < k + 1 → P j
    below {P} f p j l = by (dec_lt (j + 1) k)
      where
        by : Dec (j + 1 < k) → P j
        by (yes m) = f j m
        by (no m) = let e : k - 1 ≡ j = omega arith in subst P e p

    pub noting_skips : is_named (tokens_of room n) (k - 1) ≡ false → Noting n es default before (k + 1) room
    noting_skips e = record {
      first = omega arith;
      rowed = N.rowed;
      tokens = N.tokens;
      long = N.long;
      notes = below N.notes (λ t. clash t e);
    }

    pub noting_notes : (a : ℕ) {after : List ℕ} → Renoted (k - 1) a room after → (a ≡ word_note → ⊥) → a ≡ analyzer_among default es (token_at room (k - 1)).text
        → Noting n es default before (k + 1) after
    noting_notes a {after} R other e =
        let i = k - 1 in
        let l : i < n = omega arith in
        let t = note_tokens R N.rowed in
        record {
          first = omega arith;
          rowed = note_rowed R N.rowed other;
          tokens = t ∙ N.tokens;
          long = R.size ∙ N.long;
          notes = subst (λ (ts : List Token). (j : ℕ) → j + 1 < k + 1 → is_named ts j ≡ true → note_at after j ≡ analyzer_among default es (text_at ts j)) (sym t)
              (below
              (λ j l m. R.others j (λ z. omega arith) ∙ N.notes j l m)
              (λ m. R.noted ∙ e ∙ ap (analyzer_among default es) (sym (text_is room n i l))));
        }
