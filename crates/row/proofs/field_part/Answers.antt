-- `row::field_part` meets its contract: the default field, or the text of the token before `from`. Assumes nothing.
use Prim.Native.Nat.{◌-◌}
use Rattle.row.proofs.Rows.{name_token}
use mathlib.Core.Path.{sym, ◌∙◌}
use native.Mathlib.Omega.{arith}
use Rattle.row.proofs.field_part.Goals as goal

pub text_at-requires : goal.text_at-requires
text_at-requires c = (omega arith, c.requires.1 (c.args.from - 1) (omega arith), omega arith)

pub returns : goal.returns
returns c = c.text_at.ensures ∙ sym (name_token c.args.room.now c.args.default.now c.args.from (omega arith))
