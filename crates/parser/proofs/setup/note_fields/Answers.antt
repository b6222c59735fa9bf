-- `parser::setup::note_fields` meets its contract.
use Rattle.fields.specs.Fields.{array_entries}
use Rattle.parser.proofs.Notes.{noting_skips, noting_notes, noting_ends, no_colon, no_name, analyzer_small}
use Rattle.row.specs.Row.{tokens_of}
use Rattle.rules.specs.Setup.{is_analyzer, analyzer_among}
use mathlib.Core.Path.{ap, ◌∙◌}
use native.Mathlib.Omega.{arith}
use Rattle.parser.proofs.setup.note_fields.Goals as goal
use Rattle.parser.proofs.setup.note_fields.Goals.{then-kind_at-eq-COLON_KIND+then-kind_at-eq-TERM_KIND, else-kind_at-eq-COLON_KIND, else-kind_at-eq-COLON_KIND-via-then-kind_at-eq-COLON_KIND+else-kind_at-eq-TERM_KIND, else-kind_at-eq-COLON_KIND-via-else-kind_at-eq-COLON_KIND}

pub loop-i-preserved : goal.loop-i-preserved
loop-i-preserved c = elim c.if-kind_at-eq-COLON_KIND.branch [
  | then-kind_at-eq-COLON_KIND+then-kind_at-eq-TERM_KIND w ↦ rw w.room-is (noting_notes c.loop-i.invariant c.loop-i-test.true _ w.put_note.ensures (λ z. omega (arith, analyzer_small w.analyzer_of-a.result (ap is_analyzer w.analyzer_of-a.ensures ∙ c.requires.1 w.text_at-name.result.now))) (w.analyzer_of-a.ensures ∙ ap (analyzer_among c.args.default (array_entries c.args.names.now c.args.lengths.now c.args.analyzers.now c.args.count)) w.text_at-name.ensures))
  | else-kind_at-eq-COLON_KIND w ↦ rw w.room-is (noting_skips c.loop-i.invariant c.loop-i-test.true (elim w.else-kind_at-eq-COLON_KIND.branch [
    | else-kind_at-eq-COLON_KIND-via-then-kind_at-eq-COLON_KIND+else-kind_at-eq-TERM_KIND w' ↦ no_name (tokens_of c.loop-i.room c.args.n) c.loop-i.i w'.kind_at-then-kind_at-eq-COLON_KIND.ensures w'.if-kind_at-eq-TERM_KIND.false
    | else-kind_at-eq-COLON_KIND-via-else-kind_at-eq-COLON_KIND w' ↦ no_colon (tokens_of c.loop-i.room c.args.n) c.loop-i.i c.loop-i.auto.i c.kind_at.ensures w'.if-kind_at-eq-COLON_KIND.false
  ]))
]

pub returns : goal.returns
returns c = noting_ends c.loop-i.invariant c.loop-i-test.false
