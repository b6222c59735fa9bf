-- `clauses::leaf::is_one` meets its contract.
use Rattle.analysis.proofs.OneToken.{one_word, one_whole, one_kept, not_english}
use Rattle.rules.proofs.Bools.{and_no_l}
use Rattle.rules.proofs.Text.Tokens.{english_not}
use borrow.Author.Tests.{eqb-false, not-true}
use mathlib.Core.Path.{◌≡◌, sym, ◌∙◌}
use native.Mathlib.Omega.{arith}
use Rattle.clauses.proofs.leaf.is_one.Goals as goal
use Rattle.clauses.proofs.leaf.is_one.Goals.{in_default-via-then-analyzer-lt1, in_default-via-else-analyzer-lt1+else-analyzer-lt3}

pub returns-in-1 : goal.returns-in-1
returns-in-1 c = λ e. one_kept c.args.analyzer c.args.text.now (one_word _ _ (c.requires e)) (not_english c.args.analyzer c.args.text.now (λ z. omega arith))

pub returns-in_default-2 : goal.returns-in_default-2
returns-in_default-2 c = λ e. let x = sym c.is_words.ensures ∙ c.if-is_words.false in
    let some = eqb-false _ 0 (sym c.is_empty.ensures ∙ not-true _ e) in
    let other : (c.args.analyzer ≡ 1 → ⊥) × (c.args.analyzer ≡ 2 → ⊥) = elim c.in_default.branch [
      | in_default-via-then-analyzer-lt1 w ↦ (λ z. omega arith, λ z. omega arith)
      | in_default-via-else-analyzer-lt1+else-analyzer-lt3 w ↦ (λ z. omega arith, λ z. omega arith)
    ] in
    one_kept c.args.analyzer c.args.text.now (one_whole _ _ other.0 other.1 x (omega arith)) (and_no_l _ (english_not c.args.analyzer x))
