-- `matching::phrase::phrase_true` meets its contract.
use Prim.Native.Nat.{ℕ}
use Rattle.matching.proofs.Leaves as leaves
use Rattle.rules.proofs.Stored.Parts as parts
use Rattle.rules.specs.Bytes.{of_big, body_of, rest_of, each}
use Rattle.rules.specs.Lists.{entry_of}
use lib.ListN.{drop, take}
use mathlib.Core.List.{List}
use mathlib.Core.Path.{ap, ◌∙◌}
use Rattle.matching.proofs.phrase.phrase_true.Goals as goal

pub body-b-requires : goal.body-b-requires
body-b-requires c = leaves.stored_whole c.requires.0.stored

pub rest-ws-requires : goal.rest-ws-requires
rest-ws-requires c = rw c.body-b.ensures (leaves.phrase_front _ c.requires.0)

pub returns-then-ws-eq0 : goal.returns-then-ws-eq0
returns-then-ws-eq0 c = leaves.phrase_empty c.args.q.now c.requires.0 (each entry_of c.args.r.now.entries.now) (c.rest-ws.ensures ∙ ap rest_of c.body-b.ensures) c.if-ws-eq0.true

pub body-requires : goal.body-requires
body-requires c = rw c.body-b.ensures (leaves.phrase_front _ c.requires.0)

pub invariant_of-words : goal.invariant_of-words
invariant_of-words c = record { sound = rw (c.rest-ws.ensures, c.body-b.ensures) (leaves.phrase_words _ c.requires.0) }

pub any_missing-requires : goal.any_missing-requires
any_missing-requires c = c.requires.1

pub returns-then-any_missing : goal.returns-then-any_missing
returns-then-any_missing c = leaves.phrase_absent c.args.q.now
    c.requires.0 (each entry_of c.args.r.now.entries.now)
    (c.body.ensures ∙ ap body_of c.body-b.ensures) (c.rest-ws.ensures ∙ ap rest_of
    c.body-b.ensures) (c.any_missing.ensures c.if-any_missing.true)

pub body-w-requires : goal.body-w-requires
body-w-requires c = leaves.word_whole _ (leaves.first_word c.args.q.now
    c.requires.0 (c.rest-ws.ensures ∙ ap rest_of
    c.body-b.ensures) c.if-ws-eq0.false)

pub body-requires-2 : goal.body-requires-2
body-requires-2 c = rw c.body-b.ensures (leaves.phrase_front _
    c.requires.0)

pub big4-requires : goal.big4-requires
big4-requires c = rw c.body-w.ensures (leaves.word_long _ (leaves.first_word c.args.q.now
    c.requires.0 (c.rest-ws.ensures ∙ ap rest_of
    c.body-b.ensures) c.if-ws-eq0.false))

pub slice_bounds-has_start-count : goal.slice_bounds-has_start-count
slice_bounds-has_start-count c = rw c.body-w.ensures (leaves.word_long _ (leaves.first_word c.args.q.now
    c.requires.0 (c.rest-ws.ensures ∙ ap rest_of
    c.body-b.ensures) c.if-ws-eq0.false))

pub slice_bounds-has_start-start : goal.slice_bounds-has_start-start
slice_bounds-has_start-start c = rw c.body-w.ensures (leaves.word_long _ (leaves.first_word c.args.q.now
    c.requires.0 (c.rest-ws.ensures ∙ ap rest_of
    c.body-b.ensures) c.if-ws-eq0.false))

pub rest-requires : goal.rest-requires
rest-requires c = leaves.word_whole _ (leaves.first_word c.args.q.now
    c.requires.0
    (c.rest-ws.ensures ∙ ap rest_of c.body-b.ensures)
    c.if-ws-eq0.false)

pub invariant_of-others : goal.invariant_of-others
invariant_of-others c = record {
  sound = rw c.rest.ensures (leaves.other_words c.args.q.now c.requires.0 (c.rest-ws.ensures ∙ ap rest_of c.body-b.ensures) c.if-ws-eq0.false);
}

pub returns : goal.returns
returns c = leaves.phrase_says c.args.q.now
    c.requires.0
    (c.rest-ws.ensures ∙ ap rest_of
    c.body-b.ensures) c.if-ws-eq0.false
    (each entry_of c.args.r.now.entries.now) _
    (c.body-2.ensures ∙ ap body_of c.body-b.ensures)
    (c.big4.ensures ∙ ap (λ (l : List ℕ). of_big (take 4 l)) c.body-w.ensures) (parts.cut_from 4 c.body-w.result.now ∙ ap (drop 4) c.body-w.ensures) c.rest.ensures c.has_start.ensures
