use Rattle.entries.proofs.Noting as noting
use Rattle.rules.proofs.Stored.Parts as parts
use mathlib.Core.Path.{sym, ◌∙◌}
use native.Mathlib.Omega.{arith}
use Rattle.entries.proofs.slots.note_text.Goals as goal

pub bounds-slots-i : goal.bounds-slots-i
bounds-slots-i c = omega (arith, c.requires.3.many, c.slot-i.ensures.1)

pub overflow_cast-held : goal.overflow_cast-held
overflow_cast-held c = omega (arith, c.slice_known-2-1.given c.slot-i.result)

pub overflow_cast-slots : goal.overflow_cast-slots
overflow_cast-slots c = omega (arith, c.requires.0)

pub bounds-slots-i-then-held-from : goal.bounds-slots-i-then-held-from
bounds-slots-i-then-held-from c = omega (arith, c.requires.3.many, c.slot-i.ensures.1)

pub returns-then-held-from : goal.returns-then-held-from
returns-then-held-from c = noting.lands_alone c.args.slots.now c.args.rec.now c.args.from c.args.at c.args.f.now c.args.t.now c.slot-i.ensures.0 c.if-held-from.true

pub overflow_add-k : goal.overflow_add-k
overflow_add-k c = omega (arith, c.slice_known-2-1.given c.slot-i.result)

pub returns-then-k-rec : goal.returns-then-k-rec
returns-then-k-rec c = noting.lands_crowded c.args.slots.now c.args.rec.now c.args.from c.args.at c.args.f.now c.args.t.now c.slot-i.ensures.0 c.if-held-from.false c.if-k-rec.true

pub slice_bounds-is_here-count : goal.slice_bounds-is_here-count
slice_bounds-is_here-count c = omega (arith, (noting.slot_stands c.requires.3 c.slot-i.result c.if-held-from.false c.if-k-rec.false).fits)

pub slice_bounds-is_here-start : goal.slice_bounds-is_here-start
slice_bounds-is_here-start c = omega (arith, (noting.slot_stands c.requires.3 c.slot-i.result c.if-held-from.false c.if-k-rec.false).fits)

pub is_here-requires : goal.is_here-requires
is_here-requires c = rw (parts.cut_from _ c.args.rec.now) (noting.slot_stands c.requires.3 c.slot-i.result c.if-held-from.false c.if-k-rec.false).sound

pub returns-then-is_here : goal.returns-then-is_here
returns-then-is_here c = noting.lands_again c.args.slots.now c.args.rec.now c.args.from c.args.at c.args.f.now c.args.t.now c.slot-i.ensures.0 c.if-held-from.false (parts.cut_from _ c.args.rec.now) (sym c.is_here.ensures ∙ c.if-is_here.true)

pub overflow_add-slots : goal.overflow_add-slots
overflow_add-slots c = omega (arith, c.requires.2)

pub overflow_sub-slots : goal.overflow_sub-slots
overflow_sub-slots c = omega (arith, c.requires.1)

pub overflow_cast-slots-2 : goal.overflow_cast-slots-2
overflow_cast-slots-2 c = omega (arith, c.requires.1, c.requires.2)

pub bounds-slots-i-2 : goal.bounds-slots-i-2
bounds-slots-i-2 c = omega (arith, c.requires.3.many, c.slot-i.ensures.1)

pub returns : goal.returns
returns c = noting.lands_in_crowd c.args.slots.now c.args.rec.now c.args.from c.args.at c.args.f.now c.args.t.now c.slot-i.ensures.0 c.requires.1
