use Rattle.selection.proofs.Selections as selections
use borrow.Author.Tests.{le-leb}
use mathlib.Core.Path.{sym, ◌∙◌}
use native.Mathlib.Omega.{arith}
use Rattle.selection.proofs.select.Checked.fits.Goals as goal

pub returns-then-self-n : goal.returns-then-self-n
returns-then-self-n c = le-leb _ c.args.n c.if-self-n.true ∙ sym (le-leb _ c.args.n (omega (arith, c.args.self.now.all, selections.listed_few (selections.ready c.args.self.now.query.now c.args.self.now.list.now c.requires c.args.self.now.sound))))

pub returns-else-self-n : goal.returns-else-self-n
returns-else-self-n c = rw c.count.ensures
