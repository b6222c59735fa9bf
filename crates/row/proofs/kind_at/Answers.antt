-- `row::kind_at` meets its contract: the row's token at i, and the end past the last. Assumes nothing.
use Rattle.row.proofs.Rows.{token_is, token_none}
use Rattle.row.specs.Row.{token_at}
use Rattle.rules.specs.Lexing.{Token}
use mathlib.Core.Path.{sym, ap}
use native.Mathlib.Omega.{arith}
use Rattle.row.proofs.kind_at.Goals as goal

pub returns-then-i-n : goal.returns-then-i-n
unfolding token_at
returns-then-i-n c = sym (ap (λ (t : Token). t.kind) (token_is c.args.room.now c.args.n c.args.i _ (omega arith)))

pub returns-else-i-n : goal.returns-else-i-n
returns-else-i-n c = sym (ap (λ (t : Token). t.kind) (token_none c.args.room.now c.args.n c.args.i _ (omega arith)))
