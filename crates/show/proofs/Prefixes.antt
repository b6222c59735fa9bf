-- The first 1,062 bytes of an input decide its text, so a program may read no more.
use mathlib.Core.Path.{◌≡◌, refl, sym, ap, ◌∙◌}
use Prim.Native.Nat.{ℕ, zero, suc, ◌+◌, ◌-◌, ◌≤◌, ◌<◌}
use mathlib.Core.List.{List, [], ◌∷◌}
use mathlib.Core.Bool.{Bool, true, false, ◌&&◌, cond}
use native.Mathlib.Omega.{arith}
use native.Mathlib.Decide.{dec_lt}
use lib.ListN.{length, take, drop, length-take, length-drop, length-append}
use lib.Seq.{drop-drop, take_all}
use lib.Dec.{leb}
use borrow.Author.Tests.{lt-leb}
use Rattle.rules.specs.Numbers.{Read, got, refused, need, and_then, bad_setup, text_most, simple_analyzer, field_most}
use Rattle.rules.specs.Bytes.{ascii, same, is_empty}
use Rattle.rules.specs.Analysis.{front, after}
use Rattle.rules.specs.Setup.{Setup, read_setup, entries_in, setup_with, is_setup}
use Rattle.rules.specs.Parsing.{parse}
use Rattle.rules.specs.Show.{in_line, in_word, first_line, second_line, show_setup, show_parsed, or_refusal, show_text}
use Rattle.rules.proofs.Stored.Equal.{same_eq}
use Rattle.rules.proofs.Text.Pieces.{front_take, after_is, front_after}
use Rattle.show.specs.Lines.{operator_number, line_operator}
use Rattle.show.proofs.Cutting.{show_setup_lem, two_refused}

take_nil : (n : ℕ) → [] ≡ take {A = ℕ} n []
take_nil zero = refl
take_nil (suc n) = refl

drop_take : (k n m : ℕ) (s : List ℕ) → m ≡ k + n → drop k (take m s) ≡ take n (drop k s)
drop_take zero n m s e = let z : m ≡ n = omega arith in ap (λ (i : ℕ). take i s) z
drop_take (suc k) n zero s e = absurd (omega arith)
drop_take (suc k) n (suc m) [] e = take_nil n
drop_take (suc k) n (suc m) (x ∷ s) e = drop_take k n m s (omega arith)

-- ---- a first line over 36 bytes is no setup

field_long : (o : ℕ) (f : List ℕ) → field_most < length f → read_setup o simple_analyzer f [] ≡ refused bad_setup
unfolding read_setup entries_in setup_with is_setup
field_long o f h = rw (lt-leb (length f) field_most h) (by (leb o 1))
  where
    by : (b : Bool) → need {A = Setup} (b && false) bad_setup (got (record { operator = o; analyzer = simple_analyzer; field = f; entries = [] })) ≡ refused bad_setup
    by true = refl
    by false = refl

setup_long : (s : List ℕ) → 36 < length s → show_setup s ≡ refused bad_setup
unfolding line_operator operator_number ascii
setup_long s h = sym (show_setup_lem s) ∙ by (is_empty (after in_word s)) (same (front in_word s) (ascii "or")) (same (front in_word s) (ascii "and")) refl refl
  where
    sum : length (front in_word s) + length (after in_word s) ≡ length s
    sum = sym (length-append (front in_word s) (after in_word s)) ∙ ap length (front_after in_word s)

    worded : (o : ℕ) → length (front in_word s) ≤ 3 → read_setup o simple_analyzer (drop 1 (after in_word s)) [] ≡ refused bad_setup
    worded o l = field_long o (drop 1 (after in_word s)) (omega (arith, sum, length-drop 1 (after in_word s)))

    by : (e o a : Bool) → same (front in_word s) (ascii "or") ≡ o → same (front in_word s) (ascii "and") ≡ a
        → read_setup (cond e 2 (cond o 0 (cond a 1 2))) simple_analyzer (drop 1 (after in_word s)) [] ≡ refused bad_setup
    by true o a p q = two_refused (drop 1 (after in_word s))
    by false true a p q = worded 0 (omega (arith, ap length (same_eq (front in_word s) (ascii "or") p)))
    by false false true p q = worded 1 (omega (arith, ap length (same_eq (front in_word s) (ascii "and") q)))
    by false false false p q = two_refused (drop 1 (after in_word s))

-- ---- a second line over 1,024 bytes is too long a text

parse_prefix : (st : Setup) (m : ℕ) (t : List ℕ) → 1025 ≤ m → parse st (take m t) ≡ parse st t
unfolding parse
parse_prefix st m t h = by (dec_lt text_most (length t))
  where
    by : Dec (text_most < length t) → parse st (take m t) ≡ parse st t
    by (yes l) = rw (lt-leb (length t) text_most l, lt-leb (length (take m t)) text_most (omega (arith, length-take m t)))
    by (no l) = ap (parse st) (take_all m t (omega arith))

-- ---- the input

module _ (n : ℕ) (s : List ℕ) (h : 1062 ≤ n) where
  first_prefix : first_line (take n s) ≡ take n (first_line s)
  first_prefix = front_take in_line n s

  module _ (l : length (first_line s) ≤ 36) where
    first_same : first_line (take n s) ≡ first_line s
    first_same = first_prefix ∙ take_all n (first_line s) (omega arith)

    second_prefix : second_line (take n s) ≡ take (n - (length (first_line s) + 1)) (second_line s)
    second_prefix =
        let k = length (first_line s) in
        let a : drop 1 (after in_line (take n s)) ≡ drop (k + 1) (take n s) =
        ap (drop 1) (after_is in_line (take n s) ∙ ap (λ (i : List ℕ). drop (length i) (take n s)) first_same) ∙ drop-drop 1 k (take n s) in
        let b : drop (k + 1) (take n s) ≡ take (n - (k + 1)) (drop (k + 1) s) = drop_take (k + 1) (n - (k + 1)) n s (omega arith) in
        let c : drop (k + 1) s ≡ drop 1 (after in_line s) = sym (drop-drop 1 k s) ∙ ap (drop 1) (sym (after_is in_line s)) in
        ap (front in_line) (a ∙ b ∙ ap (take (n - (k + 1))) c) ∙ front_take in_line (n - (k + 1)) (drop 1 (after in_line s))

  -- the text of the whole is that of its first n bytes
  pub prefix : show_text (take n s) ≡ show_text s
  unfolding show_text
  prefix = by (dec_lt 36 (length (first_line s)))
    where
      then_same : (o : Read Setup) (t u : List ℕ) → ((st : Setup) → parse st t ≡ parse st u)
          → or_refusal (and_then o (λ st. and_then (parse st t) show_parsed)) ≡ or_refusal (and_then o (λ st. and_then (parse st u) show_parsed))
      then_same (got st) t u e = rw (e st)
      then_same (refused r) t u e = refl

      by : Dec (36 < length (first_line s)) → show_text (take n s) ≡ show_text s
      by (yes l) = rw (setup_long (first_line s) l, setup_long (first_line (take n s)) (rw first_prefix (omega (arith, length-take n (first_line s)))))
      by (no l) =
          let k : length (first_line s) ≤ 36 = omega arith in
          rw (first_same k, second_prefix k)
          (then_same (show_setup (first_line s)) (take (n - (length (first_line s) + 1)) (second_line s)) (second_line s)
          (λ st. parse_prefix st (n - (length (first_line s) + 1)) (second_line s) (omega arith)))
