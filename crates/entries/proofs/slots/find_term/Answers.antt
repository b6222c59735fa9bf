use Rattle.entries.proofs.Noting as noting
use Rattle.rules.proofs.Stored.Parts as parts
use mathlib.Core.Path.{sym, ◌∙◌}
use native.Mathlib.Omega.{arith}
use Rattle.std.proofs.Common.{rules}
use Rattle.entries.proofs.slots.find_term.Goals as goal

pub has_term-requires : goal.has_term-requires
has_term-requires c = c.requires.1

pub returns-then-is_empty : goal.returns-then-is_empty
returns-then-is_empty c = c.has_term.ensures

pub bounds-slots-i : goal.bounds-slots-i
bounds-slots-i c = omega (arith, (c.requires.0 (search rules)).standing.many, c.slot-i.ensures.1)

pub overflow_cast-p : goal.overflow_cast-p
overflow_cast-p c = omega (arith, c.shared_slice_known-5-1.given c.slot-i.result)

pub returns-then-p-from : goal.returns-then-p-from
returns-then-p-from c = sym (noting.slot_missing (c.requires.0 (search rules)) c.args.f.now c.args.t.now c.slot-i.ensures.0 c.if-p-from.true)

pub overflow_add-k : goal.overflow_add-k
overflow_add-k c = omega (arith, c.shared_slice_known-5-1.given c.slot-i.result)

pub has_term-requires-then-k-rec : goal.has_term-requires-then-k-rec
has_term-requires-then-k-rec c = c.requires.1

pub returns-then-k-rec : goal.returns-then-k-rec
returns-then-k-rec c = c.has_term-then-k-rec.ensures

pub slice_bounds-is_here-count : goal.slice_bounds-is_here-count
slice_bounds-is_here-count c = omega (arith, (noting.slot_stands (c.requires.0 (search rules)).standing c.slot-i.result c.if-p-from.false c.if-k-rec.false).fits)

pub slice_bounds-is_here-start : goal.slice_bounds-is_here-start
slice_bounds-is_here-start c = omega (arith, (noting.slot_stands (c.requires.0 (search rules)).standing c.slot-i.result c.if-p-from.false c.if-k-rec.false).fits)

pub is_here-requires : goal.is_here-requires
is_here-requires c = rw (parts.cut_from _ c.args.rec.now) (noting.slot_stands (c.requires.0 (search rules)).standing c.slot-i.result c.if-p-from.false c.if-k-rec.false).sound

pub returns : goal.returns
returns c = c.is_here.ensures ∙ noting.slot_tells (c.requires.0 (search rules)) c.args.f.now c.args.t.now c.slot-i.ensures.0 c.if-p-from.false c.if-k-rec.false (parts.cut_from _ c.args.rec.now)
