-- The lines of an input: where each ends, the operator's number, and the setup that they make.
use mathlib.Core.Path.{◌≡◌, refl, sym, ap, ◌∙◌}
use Prim.Native.Nat.{ℕ, suc, ◌+◌, ◌-◌, ◌≤◌, ◌<◌}
use mathlib.Core.List.{List, [], ◌∷◌}
use mathlib.Core.Bool.{Bool, true, false, not, cond}
use native.Mathlib.Omega.{arith}
use native.Mathlib.Numerals.{add-one}
use lib.ListN.{length, get_or, take, drop, length-append}
use lib.Seq.{drop-cons, drop-length, drop-drop}
use borrow.Author.Tests.{eq-eqb, ne_eqb}
use Rattle.rules.specs.Numbers.{Read, got, refused, need, and_then, on_read, bad_setup, parse_room, simple_analyzer}
use Rattle.rules.specs.Bytes.{ascii, same, is_empty}
use Rattle.rules.specs.Analysis.{front, after}
use Rattle.rules.specs.Setup.{Setup, read_setup, entries_in, setup_with, is_setup}
use Rattle.rules.specs.Parsing.{parse}
use Rattle.rules.specs.Show.{in_word, first_line, second_line, operator_in, show_setup}
use Rattle.rules.specs.Answers.{call_at, stored_reply, parse_reply, parse_left}
use Rattle.rules.proofs.Stored.Parts.{cut_from, none_empty, some_empty}
use Rattle.rules.proofs.Text.Pieces.{front_yes, front_no, front_nil, front_is, after_is, front_after, front_most}
use Rattle.show.specs.Lines.{other, operator_number, line_operator, written_in}

-- ---- the first byte b

module _ (s : List ℕ) (b i : ℕ) where
  -- it is not among the first i
  abbrev pub Sought : Type 0
  Sought = (i ≤ length s) × (length (front (other b) s) ≡ i + length (front (other b) (drop i s)))

  pub here : Sought → i < length s → get_or s i 0 ≡ b → i ≡ length (front (other b) s)
  here k h e =
      let z : front (other b) (drop i s) ≡ [] =
      ap (front (other b)) (drop-cons s i 0 h) ∙ front_no (other b) (get_or s i 0) (drop (suc i) s) (rw (eq-eqb (get_or s i 0) b e)) in
      omega (arith, k.1, ap length z)

  pub nowhere : Sought → length s ≤ i → i ≡ length (front (other b) s)
  nowhere k h =
      let n : i ≡ length s = omega arith in
      let z : front (other b) (drop i s) ≡ [] = rw (n, drop-length s) (front_nil (other b)) in
      omega (arith, k.1, ap length z)

pub onward : (s : List ℕ) (b i : ℕ) → Sought s b i → i < length s → (get_or s i 0 ≡ b → ⊥) → Sought s b (i + 1)
onward s b i k h n =
    let z : front (other b) (drop i s) ≡ get_or s i 0 ∷ front (other b) (drop (i + 1) s) =
    rw (add-one i) (ap (front (other b)) (drop-cons s i 0 h) ∙ front_yes (other b) (get_or s i 0) (drop (suc i) s) (rw (ne_eqb (get_or s i 0) b n))) in
    (omega arith, omega (arith, k.1, ap length z))

module _ (s : List ℕ) (b : ℕ) {e : ℕ} (h : e ≡ length (front (other b) s)) where
  pub within : e ≤ length s
  within = omega (arith, front_most (other b) s)

  pub cut_before : take (e - 0) (drop 0 s) ≡ front (other b) s
  cut_before = let k : e - 0 ≡ length (front (other b) s) = omega arith in ap (λ (n : ℕ). take n s) k ∙ sym (front_is (other b) s)

  from : drop e s ≡ after (other b) s
  from = ap (λ (n : ℕ). drop n s) h ∙ sym (after_is (other b) s)

  pub cut_behind : take (length s - (e + 1)) (drop (e + 1) s) ≡ drop 1 (after (other b) s)
  cut_behind = cut_from (e + 1) s ∙ sym (drop-drop 1 e s) ∙ ap (drop 1) from

  pub cut_end : length s ≤ e → take (length s - e) (drop e s) ≡ drop 1 (after (other b) s)
  cut_end l =
      let n : e ≡ length s = omega (arith, within) in
      let z : drop e s ≡ [] = rw n (drop-length s) in
      cut_from e s ∙ z ∙ ap (drop 1) (sym z ∙ from)

-- ---- the operator

module _ (w : List ℕ) {r : Bool} (h : r ≡ same w (ascii "or")) where
  pub is_or : r ≡ true → 0 ≡ operator_number w
  unfolding operator_number
  is_or t = rw (← h, t)

  module _ {q : Bool} (g : q ≡ same w (ascii "and")) (n : r ≡ false) where
    pub is_and : q ≡ true → 1 ≡ operator_number w
    unfolding operator_number
    is_and t = rw (← h, n, ← g, t)

    pub is_neither : q ≡ false → 2 ≡ operator_number w
    unfolding operator_number
    is_neither t = rw (← h, n, ← g, t)

module _ (s : List ℕ) {w : List ℕ} (e : w ≡ front in_word s) where
  sum : length w + length (after in_word s) ≡ length s
  sum = rw e (sym (length-append (front in_word s) (after in_word s)) ∙ ap length (front_after in_word s))

  pub has_space : {r : ℕ} → length w < length s → r ≡ operator_number w → r ≡ line_operator s
  unfolding line_operator
  has_space l h = rw (some_empty (after in_word s) (λ z. omega (arith, sum))) (h ∙ ap operator_number e)

  pub no_space : length s ≤ length w → 2 ≡ line_operator s
  unfolding line_operator
  no_space l = rw (none_empty (after in_word s) (omega (arith, sum)))

-- ---- the setup

pub two_refused : (f : List ℕ) → read_setup 2 simple_analyzer f [] ≡ refused bad_setup
unfolding read_setup entries_in setup_with is_setup
two_refused f = refl

pub show_setup_lem : (s : List ℕ) → read_setup (line_operator s) simple_analyzer (drop 1 (after in_word s)) [] ≡ show_setup s
unfolding show_setup line_operator operator_in operator_number
show_setup_lem s = by (is_empty (after in_word s)) (same (front in_word s) (ascii "or")) (same (front in_word s) (ascii "and"))
  where
    F : ℕ → Read Setup
    F o = read_setup o simple_analyzer (drop 1 (after in_word s)) []

    by : (e o a : Bool) → read_setup (cond e 2 (cond o 0 (cond a 1 2))) simple_analyzer (drop 1 (after in_word s)) []
        ≡ need (not e) bad_setup (and_then (cond o (got 0) (cond a (got 1) (refused bad_setup))) (λ n. read_setup n simple_analyzer (drop 1 (after in_word s)) []))
    by true o a = two_refused (drop 1 (after in_word s))
    by false true a = refl
    by false false true = refl
    by false false false = two_refused (drop 1 (after in_word s))

-- what parsing is called with
pub lines_parsed : (s line field es text out room : List ℕ) (o : ℕ) → line ≡ first_line s → o ≡ line_operator line → field ≡ drop 1 (after in_word line) → es ≡ []
    → text ≡ second_line s → parse_left o simple_analyzer field es text out room ≡ call_at parse_room (on_read stored_reply (written_in s)) out room
unfolding parse_left parse_reply written_in
lines_parsed s line field es text out room o el eo ef ee et =
    rw (eo, ef, ee, et, el)
    (ap (λ (r : Read Setup). call_at parse_room (on_read stored_reply (and_then r (λ st. parse st (second_line s)))) out room) (show_setup_lem (first_line s)))
