use Prim.Native.Nat.{ℕ, ◌*◌}
use Rattle.batch.specs.Bits.{bit_at}
use Rattle.rules.proofs.Stored.Parts as parts
use Rattle.rules.specs.Bytes.{of_big}
use borrow.Author.Rules.{rules}
use lib.ListN.{take}
use mathlib.Core.List.{List}
use mathlib.Core.Path.{ap, ◌∙◌}
use native.Mathlib.Omega.{arith}
use Rattle.batch.proofs.turn.Asking.is_chosen.Goals as goal

pub overflow_mul-at : goal.overflow_mul-at
overflow_mul-at c = omega arith

pub slice_bounds-big8-count : goal.slice_bounds-big8-count
slice_bounds-big8-count c = omega arith

pub slice_bounds-big8-start : goal.slice_bounds-big8-start
slice_bounds-big8-start c = omega arith

pub slice_bounds-big8-end : goal.slice_bounds-big8-end
slice_bounds-big8-end c = omega arith

pub big8-requires : goal.big8-requires
big8-requires c = search rules

pub bit_at-requires : goal.bit_at-requires
bit_at-requires c = c.args.self.now.bits

pub returns-then-i-lt-KEPT : goal.returns-then-i-lt-KEPT
returns-then-i-lt-KEPT c = rw (c.bit_at.ensures ∙ ap (λ (m : ℕ). bit_at m c.args.self.now.j) (c.big8.ensures ∙ ap (λ (l : List ℕ). of_big (take 8 l)) (parts.cut_from (8 * c.args.i) c.args.self.now.table.now))) (c.requires.3 c.if-i-lt-KEPT.true)

pub holds-requires : goal.holds-requires
holds-requires c = (c.requires.0, c.requires.1, (λ z. absurd (omega arith)), c.requires.2)

pub returns : goal.returns
returns c = c.holds.ensures
