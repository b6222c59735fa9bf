-- `tokens::term_at` meets its contract: what the term was read as, the byte behind it, and the kind and note of its text. Assumes nothing.
use Rattle.lexer.proofs.Starts.{term_no, term_wild, term_yes}
use Rattle.rules.specs.Lexing.{is_wildcard}
use Rattle.std.proofs.lemmas.Result.{err_from_is_err_and}
use lib.ListN.{drop}
use mathlib.Core.Path.{sym, ap, ◌∙◌}
use Rattle.lexer.proofs.tokens.term_at.Goals as goal

pub returns-in_err-term-clause-makes : goal.returns-in_err-term-clause-makes
returns-in_err-term-clause-makes c = let p = err_from_is_err_and c.from_residual.result c.from_residual.ensures.1 in
    rw (p.1, p.2) (term_no c.args.text.now c.args.at c.read_term.new.room (drop c.args.at c.args.text.now) c.in_err-term.field-0.0 c.in_err-term.ensures.reads)

pub returns-then-is_wildcard-clause-makes : goal.returns-then-is_wildcard-clause-makes
returns-then-is_wildcard-clause-makes c =
    term_wild c.args.text.now c.args.at c.read_term.new.room (drop c.args.at c.args.text.now) c.in_ok-term.term c.in_ok-term.ensures.reads
    (sym (c.is_wildcard.ensures ∙ ap is_wildcard c.peek.ensures) ∙ c.if-is_wildcard.true)

pub returns-clause-makes : goal.returns-clause-makes
returns-clause-makes c =
    term_yes c.args.text.now c.args.at c.read_term.new.room (drop c.args.at c.args.text.now) c.in_ok-term.term c.in_ok-term.ensures.reads _ _ _
    (sym (c.is_wildcard.ensures ∙ ap is_wildcard c.peek.ensures) ∙ c.if-is_wildcard.false) c.word_kind-kind.ensures c.word_note.ensures c.kept_len.ensures
