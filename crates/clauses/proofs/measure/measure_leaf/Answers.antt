-- `clauses::measure::measure_leaf` meets its contract.
use Prim.Native.Nat.{◌+◌}
use Rattle.clauses.proofs.Bodies.{leaf_some, leaf_faulty, leaf_goes, leaf_same, leaf_within}
use Rattle.clauses.proofs.Rows.{kind_in_lem, text_is, place_text, place_most_lem}
use Rattle.clauses.specs.Leaves.{leaf_of, leaf_kind}
use Rattle.row.specs.Row.{tokens_of, name_from}
use Rattle.rules.specs.Analysis.{tokenize}
use lib.ListN.{length}
use mathlib.Core.Path.{sym, ap, ◌∙◌}
use native.Mathlib.Omega.{arith}
use Rattle.clauses.proofs.measure.measure_leaf.Goals as goal

pub returns-then-is_at : goal.returns-then-is_at
returns-then-is_at c = record { means = (λ st o T. (_, leaf_faulty c.args.plain st (tokens_of c.args.row.now.room.now c.args.row.now.n) (name_from c.args.row.now.room.now c.args.row.now.default.now c.args.p.from) c.args.i (sym c.is_at.ensures ∙ c.if-is_at.true), c.leaf_fault.ensures)); within = omega arith }

pub text_at-text-requires : goal.text_at-text-requires
text_at-text-requires c = let z = kind_in_lem c.args.row.now.room.now c.args.row.now.n (leaf_kind c.args.plain) c.args.i (leaf_some c.args.plain) c.requires.1 in (omega (arith, c.args.row.now.rowed.few), c.args.row.now.rowed.laid c.args.i (omega arith), c.args.row.now.rowed.least)

pub one_at-one-requires : goal.one_at-one-requires
one_at-one-requires c = (kind_in_lem c.args.row.now.room.now c.args.row.now.n (leaf_kind c.args.plain) c.args.i (leaf_some c.args.plain) c.requires.1)

pub leaf_len-len-requires : goal.leaf_len-len-requires
leaf_len-len-requires c = let z = kind_in_lem c.args.row.now.room.now c.args.row.now.n (leaf_kind c.args.plain) c.args.i (leaf_some c.args.plain) c.requires.1 in
    (rw c.field_part-field.ensures c.requires.0.short, rw (c.text_at-text.ensures, ← text_is c.args.row.now.room.now c.args.row.now.n c.args.i z) (omega (arith, place_text c.args.row.now.rowed c.args.i z, place_most_lem c.args.row.now.rowed (c.args.i + 1))), λ e. rw c.text_at-text.ensures (c.one_at-one.ensures e))

pub with_boost-requires : goal.with_boost-requires
with_boost-requires c = let z = kind_in_lem c.args.row.now.room.now c.args.row.now.n (leaf_kind c.args.plain) c.args.i (leaf_some c.args.plain) c.requires.1 in
    let b = rw (c.text_at-text.ensures, ← text_is c.args.row.now.room.now c.args.row.now.n c.args.i z) at c.leaf_len-len.ensures.bound in
    (omega arith, omega (arith, place_text c.args.row.now.rowed c.args.i z, place_most_lem c.args.row.now.rowed (c.args.i + 1)))

pub returns : goal.returns
returns c = let z = kind_in_lem c.args.row.now.room.now c.args.row.now.n (leaf_kind c.args.plain) c.args.i (leaf_some c.args.plain) c.requires.1 in
    let b = rw (c.text_at-text.ensures, ← text_is c.args.row.now.room.now c.args.row.now.n c.args.i z) at c.leaf_len-len.ensures.bound in
    record { means = (λ st o T. rw (leaf_goes c.args.plain st (tokens_of c.args.row.now.room.now c.args.row.now.n) (name_from c.args.row.now.room.now c.args.row.now.default.now c.args.p.from) c.args.i (sym c.is_at.ensures ∙ c.if-is_at.false)) (c.with_boost.ensures.means st _ (leaf_same (λ a t. leaf_of c.args.plain st.operator (name_from c.args.row.now.room.now c.args.row.now.default.now c.args.p.from) (tokenize a t)) _ _ _ _ _ T.force (c.text_at-text.ensures ∙ sym (text_is c.args.row.now.room.now c.args.row.now.n c.args.i z)) (c.leaf_len-len.ensures.made st.operator (name_from c.args.row.now.room.now c.args.row.now.default.now c.args.p.from) (sym (ap length c.field_part-field.ensures)))))); within = leaf_within c.args.row.now.rowed c.args.i _ z b c.with_boost.result c.with_boost.ensures.within }
