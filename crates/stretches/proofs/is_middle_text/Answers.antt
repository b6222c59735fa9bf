-- `stretches::is_middle_text` meets its contract.
use Prim.Native.Nat.{◌-◌}
use Rattle.rules.proofs.Chains as chains
use Rattle.stretches.proofs.Joining as joining
use lib.ListN.{length}
use mathlib.Core.Path.{sym, ◌∙◌}
use native.Mathlib.Omega.{arith}
use Rattle.stretches.proofs.is_middle_text.Goals as goal

pub returns-then-not-is_pair_text : goal.returns-then-not-is_pair_text
returns-then-not-is_pair_text c = chains.ends _ c.is_pair_text-2.ensures c.if-not-is_pair_text.true-raw ∙ sym (joining.text_halves 16 (length c.args.s.now - 16) c.args.s.now (omega (arith, c.if-s-le16.false)) (omega (arith, c.requires.1)))

pub returns : goal.returns
returns c = chains.goes_on c.is_pair_text-2.ensures c.if-not-is_pair_text.false-raw c.is_pair_text-3.ensures ∙ sym (joining.text_halves 16 (length c.args.s.now - 16) c.args.s.now (omega (arith, c.if-s-le16.false)) (omega (arith, c.requires.1)))
