-- `texts::unescape` meets its contract. Assumes nothing.
use mathlib.Core.Path.{refl}
use native.Mathlib.Omega.{arith}
use Rattle.texts.proofs.Unescaped.{reading_plain, reading_escaped, reading_dangling}
use Rattle.texts.proofs.unescape.Goals as goal

pub loop-rest-preserved-then-c-ne92 : goal.loop-rest-preserved-then-c-ne92
loop-rest-preserved-then-c-ne92 g c =
    reading_plain c.loop-rest.invariant c.in-len1-up.len_at_least c.if-ends.ensures c.loop-rest.rest.now c.if-c-ne92.true refl (omega (arith, c.requires.1, c.loop-rest.auto.out))

pub returns-in_default-tail : goal.returns-in_default-tail
returns-in_default-tail g c read stop U T = (
  reading_dangling c.loop-rest.invariant c.in-len1-up.len_at_least c.if-ends.ensures _ c.if-c-ne92.false refl c.in_default-tail.len_below read stop U T,
  refl,
  omega (arith, c.in-len1-up.len_at_least, c.loop-rest.invariant.within),
)

pub loop-rest-preserved : goal.loop-rest-preserved
loop-rest-preserved g c =
    reading_escaped c.loop-rest.invariant c.in-len1-up.len_at_least c.if-ends.ensures _ c.if-c-ne92.false refl c.in-len1-up-tail.len_at_least (omega (arith, c.requires.1, c.loop-rest.auto.out))
