-- `parser::parse::parse_text` meets its contract.
use Rattle.fields.specs.Fields.{array_entries}
use Rattle.lexer.specs.Lexing.{Row}
use Rattle.parser.proofs.Delivering.{refuses, delivers_as, plain_analyzer, setup_refused, the_setup, setup_plain, setup_got, plain_field, text_long, text_other, text_fault, text_tokens, row_of, lexed_refused, lexed_tokens}
use Rattle.parser.proofs.Notes.{among_analyzers}
use Rattle.row.specs.Row.{tokens_of}
use Rattle.rules.proofs.Bools.{told_no, told_yes}
use Rattle.rules.specs.Lexing.{Token}
use Rattle.rules.specs.Numbers.{Read, and_then, placed, bad_setup, long_text, not_ascii}
use Rattle.rules.specs.Parsing.{start_of, parse, parse_tokens}
use Rattle.rules.specs.Setup.{Setup}
use Rattle.std.proofs.lemmas.Result.{err_from_is_err_and}
use lib.ListN.{length}
use mathlib.Core.List.{List}
use mathlib.Core.Path.{refl, sym, ap, subst, ◌∙◌}
use native.Mathlib.Omega.{arith}
use Rattle.parser.proofs.parse.parse_text.Goals as goal

pub returns-in_default : goal.returns-in_default
returns-in_default c = refuses c.args.out.now {x = bad_setup} (setup_refused c.args.operator c.args.analyzer c.args.field.now c.args.fields.now (λ st. parse st c.args.text.now) (c.in_default.ensures c.args.operator c.args.analyzer c.args.field.now)) refl (omega arith)

pub returns-then-not-is_plain : goal.returns-then-not-is_plain
returns-then-not-is_plain c = refuses c.args.out.now {x = bad_setup} (setup_refused c.args.operator c.args.analyzer c.args.field.now c.args.fields.now (λ st. parse st c.args.text.now) (setup_plain c.args.operator c.args.analyzer c.args.field.now c.args.fields.now (array_entries c.read_entries.new.names c.read_entries.new.lengths c.read_entries.new.analyzers c.in-Some.count) c.in-Some.ensures.0 (told_no c.is_plain.ensures c.if-not-is_plain.true-raw))) refl (omega arith)

pub returns-then-text-gt-TEXT_MOST : goal.returns-then-text-gt-TEXT_MOST
returns-then-text-gt-TEXT_MOST c = refuses c.args.out.now {x = long_text} (ap (λ (r : Read Setup). and_then r (λ st. parse st c.args.text.now)) (setup_got c.args.operator c.args.analyzer c.args.field.now c.args.fields.now (array_entries c.read_entries.new.names c.read_entries.new.lengths c.read_entries.new.analyzers c.in-Some.count) c.in-Some.ensures.0 (told_yes c.is_plain.ensures c.if-not-is_plain.false-raw) c.in-Some.ensures.1 (omega (arith, c.in-Some.ensures.2, c.in-Some.ensures.3))) ∙ text_long (the_setup c.args.operator c.args.analyzer c.args.field.now c.args.fields.now (array_entries c.read_entries.new.names c.read_entries.new.lengths c.read_entries.new.analyzers c.in-Some.count) c.in-Some.ensures.0) c.args.text.now c.if-text-gt-TEXT_MOST.true) refl (omega arith)

pub returns-then-not-is_text : goal.returns-then-not-is_text
returns-then-not-is_text c = refuses c.args.out.now {x = not_ascii} (ap (λ (r : Read Setup). and_then r (λ st. parse st c.args.text.now)) (setup_got c.args.operator c.args.analyzer c.args.field.now c.args.fields.now (array_entries c.read_entries.new.names c.read_entries.new.lengths c.read_entries.new.analyzers c.in-Some.count) c.in-Some.ensures.0 (told_yes c.is_plain.ensures c.if-not-is_plain.false-raw) c.in-Some.ensures.1 (omega (arith, c.in-Some.ensures.2, c.in-Some.ensures.3))) ∙ text_other (the_setup c.args.operator c.args.analyzer c.args.field.now c.args.fields.now (array_entries c.read_entries.new.names c.read_entries.new.lengths c.read_entries.new.analyzers c.in-Some.count) c.in-Some.ensures.0) c.args.text.now c.if-text-gt-TEXT_MOST.false (told_no c.is_text.ensures c.if-not-is_text.true-raw)) refl (omega arith)

pub note_fields-requires : goal.note_fields-requires
note_fields-requires c = let z = lexed_tokens _ _ (sym c.in_ok-n.was ∙ c.lex.ensures.answer) in (
  row_of
      c.args.text.now c.lex.new.room c.in_ok-n.n c.if-text-gt-TEXT_MOST.false
      (omega
      (arith, c.lex.auto.room, c.requires))
      z.1 z.2 (subst (λ (o : Read (List Token)). Row o c.lex.new.room) z.1 c.lex.ensures.row),
  λ f.
      among_analyzers
      c.args.analyzer (array_entries c.read_entries.new.names c.read_entries.new.lengths c.read_entries.new.analyzers c.in-Some.count) f
      (plain_analyzer
      c.args.operator c.args.analyzer c.args.field.now
      ((told_yes
      c.is_plain.ensures
      c.if-not-is_plain.false-raw)))
      c.in-Some.ensures.1,
)

pub parse_tokens-requires : goal.parse_tokens-requires
parse_tokens-requires c = (
  c.if-text-gt-TEXT_MOST.false,
  plain_field
      c.args.operator c.args.analyzer c.args.field.now
      (told_yes
      c.is_plain.ensures
      c.if-not-is_plain.false-raw),
  (
    (the_setup
        c.args.operator c.args.analyzer c.args.field.now c.args.fields.now (array_entries c.read_entries.new.names c.read_entries.new.lengths c.read_entries.new.analyzers c.in-Some.count)
        c.in-Some.ensures.0),
    (record { joins = refl; noted = λ k h m. c.note_fields.ensures.notes k h m; force = c.analyzer_of-a.ensures }),
    refl,
  ),
)

pub returns-in_err-n : goal.returns-in_err-n
returns-in_err-n c = let q = err_from_is_err_and c.from_residual.result c.from_residual.ensures.1 in
    let z = lexed_refused _ _ (sym c.in_err-n.was ∙ c.lex.ensures.answer) in
    let w = subst (λ (o : Read (List Token)). Row o c.lex.new.room) z.1 c.lex.ensures.row in
    rw (q.1, q.2) (refuses
    c.args.out.now {x = z.0}
    (ap
    (λ (r : Read Setup). and_then r (λ st. parse st c.args.text.now))
    (setup_got
    c.args.operator c.args.analyzer c.args.field.now c.args.fields.now (array_entries c.read_entries.new.names c.read_entries.new.lengths c.read_entries.new.analyzers c.in-Some.count)
    c.in-Some.ensures.0
    (told_yes c.is_plain.ensures c.if-not-is_plain.false-raw)
    c.in-Some.ensures.1 (omega (arith, c.in-Some.ensures.2, c.in-Some.ensures.3)))
    ∙ text_fault
    (the_setup
    c.args.operator c.args.analyzer c.args.field.now c.args.fields.now (array_entries c.read_entries.new.names c.read_entries.new.lengths c.read_entries.new.analyzers c.in-Some.count)
    c.in-Some.ensures.0)
    c.args.text.now c.if-text-gt-TEXT_MOST.false
    (told_yes c.is_text.ensures c.if-not-is_text.false-raw) z.1)
    z.2 (rw z.2 (omega (arith, w))))

pub returns : goal.returns
returns c = let z = lexed_tokens _ _ (sym c.in_ok-n.was ∙ c.lex.ensures.answer) in
    let w = (subst (λ (o : Read (List Token)). Row o c.lex.new.room) z.1 c.lex.ensures.row) in
    delivers_as
    c.args.out.now c.parse_tokens.new.out c.parse_tokens.result
    (ap
    (λ (r : Read Setup). and_then r (λ st. parse st c.args.text.now))
    (setup_got
    c.args.operator c.args.analyzer c.args.field.now c.args.fields.now (array_entries c.read_entries.new.names c.read_entries.new.lengths c.read_entries.new.analyzers c.in-Some.count)
    c.in-Some.ensures.0
    (told_yes
    c.is_plain.ensures
    c.if-not-is_plain.false-raw)
    c.in-Some.ensures.1 (omega (arith, c.in-Some.ensures.2, c.in-Some.ensures.3)))
    ∙ text_tokens
    (the_setup
    c.args.operator c.args.analyzer c.args.field.now c.args.fields.now (array_entries c.read_entries.new.names c.read_entries.new.lengths c.read_entries.new.analyzers c.in-Some.count)
    c.in-Some.ensures.0)
    c.args.text.now c.if-text-gt-TEXT_MOST.false
    (told_yes
    c.is_text.ensures
    c.if-not-is_text.false-raw)
    z.1
    ∙ ap
    (λ (ts : List Token). placed (start_of (length c.args.text.now) ts) (parse_tokens
    (the_setup
    c.args.operator c.args.analyzer c.args.field.now c.args.fields.now (array_entries c.read_entries.new.names c.read_entries.new.lengths c.read_entries.new.analyzers c.in-Some.count)
    c.in-Some.ensures.0) ts))
    (sym (c.note_fields.ensures.tokens ∙ ap (tokens_of c.lex.new.room) z.2 ∙ w.0)))
    (c.parse_tokens.ensures
    (the_setup
    c.args.operator c.args.analyzer c.args.field.now c.args.fields.now (array_entries c.read_entries.new.names c.read_entries.new.lengths c.read_entries.new.analyzers c.in-Some.count)
    c.in-Some.ensures.0)
    (record { joins = refl; noted = λ k h m. c.note_fields.ensures.notes k h m; force = c.analyzer_of-a.ensures }) refl)

pub invariant_of-row : goal.invariant_of-row
invariant_of-row c = record { rowed = c.note_fields.ensures.rowed }
