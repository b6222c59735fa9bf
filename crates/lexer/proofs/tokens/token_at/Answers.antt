-- `tokens::token_at` meets its contract: a letter begins a term, and each test behind it rules out a case of the definition, in the definition's order. Assumes nothing.
use Rattle.lexer.proofs.Starts.{made_letter, made_sign, made_double, made_quoted, made_bad, made_term, quoted_no, quoted_yes}
use Rattle.texts.proofs.Flags.{text_byte, letter_told}
use borrow.Author.Tests.{eq-eqb, ne_eqb}
use Prim.Native.Nat.{◌+◌}
use Rattle.std.proofs.Common.{Ok}
use Rattle.std.proofs.lemmas.Result.{err_from_is_err_and}
use lib.ListN.{get_or, drop}
use Rattle.lexer.proofs.tokens.token_at.Goals as goal

pub ascii_class-requires : goal.ascii_class-requires
ascii_class-requires c = text_byte c.args.text.now c.args.at c.requires.2

pub returns-then-ascii_class-ge-LETTER_CLASS-clause-makes : goal.returns-then-ascii_class-ge-LETTER_CLASS-clause-makes
returns-then-ascii_class-ge-LETTER_CLASS-clause-makes c =
    made_letter c.args.text.now c.args.at c.term_at.new.room c.requires.0
    (letter_told (get_or c.args.text.now c.args.at 0) (text_byte c.args.text.now c.args.at c.requires.2) c.ascii_class.ensures c.if-ascii_class-ge-LETTER_CLASS.true)
    c.term_at.result c.term_at.ensures.makes

pub returns-in-Some-clause-makes : goal.returns-in-Some-clause-makes
returns-in-Some-clause-makes c = made_sign c.args.text.now c.args.at c.args.room.now c.requires.0 c.in-Some.kind (cc)

pub returns-in-Some-double_kind-clause-makes : goal.returns-in-Some-double_kind-clause-makes
returns-in-Some-double_kind-clause-makes c = made_double c.args.text.now c.args.at c.args.room.now c.requires.0 (cc) c.in-Some-double_kind.kind (cc)

pub returns-in_err-quote-clause-makes : goal.returns-in_err-quote-clause-makes
returns-in_err-quote-clause-makes c = let p = err_from_is_err_and c.from_residual.result c.from_residual.ensures.1 in
    let no = quoted_no c.args.text.now c.args.at c.read_quoted.new.room (drop (c.args.at + 1) c.args.text.now) c.in_err-quote.field-0.0 c.in_err-quote.ensures.reads in
    made_quoted c.args.text.now c.args.at c.read_quoted.new.room c.requires.0 (cc) (cc) (eq-eqb _ _ c.if-c-eq34.true) c.from_residual.result (rw (p.1, p.2) no)

pub returns-then-c-eq34-clause-makes : goal.returns-then-c-eq34-clause-makes
returns-then-c-eq34-clause-makes c =
    let yes = quoted_yes c.args.text.now c.args.at c.read_quoted.new.room (drop (c.args.at + 1) c.args.text.now) c.in_ok-quote.quote c.in_ok-quote.ensures.reads in
    made_quoted c.args.text.now c.args.at c.read_quoted.new.room c.requires.0 (cc) (cc) (eq-eqb _ _ c.if-c-eq34.true)
    (Ok (record { kind = 2; note = 0; len = c.in_ok-quote.quote.len; next = c.in_ok-quote.quote.next })) yes

pub returns-in-Some-bad_start-clause-makes : goal.returns-in-Some-bad_start-clause-makes
returns-in-Some-bad_start-clause-makes c =
    made_bad c.args.text.now c.args.at c.args.room.now c.requires.0 (cc) (cc) (ne_eqb _ _ c.if-c-eq34.false) c.in-Some-bad_start.refusal (cc)

pub returns-clause-makes : goal.returns-clause-makes
returns-clause-makes c =
    made_term c.args.text.now c.args.at c.term_at-2.new.room c.requires.0 (cc) (cc) (ne_eqb _ _ c.if-c-eq34.false) (cc) c.term_at-2.result c.term_at-2.ensures.makes
