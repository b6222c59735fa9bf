-- `tokens::next_run` meets its contract: a whole text, no token, or two spans. Assumes nothing.
use Rattle.analysis.proofs.Chunks.{whole, skipped, none_left, chunk, chunk_some}
use mathlib.Core.Path.{sym, ◌∙◌}
use native.Mathlib.Omega.{arith}
use Rattle.analysis.proofs.tokens.next_run.Goals as goal

pub returns-then-is_whole : goal.returns-then-is_whole
returns-then-is_whole c = (whole _ _ c.requires.1 _ (sym c.is_whole.ensures ∙ c.if-is_whole.true), omega (arith, c.requires.0))

pub returns-then-n-start : goal.returns-then-n-start
returns-then-n-start c = none_left _ _ c.requires.1 _ _ (c.span-start.ensures.is ∙ skipped _ _ c.requires.1 _) (omega (arith, c.span-start.ensures.high, c.if-n-start.true))

pub returns : goal.returns
returns c =
    let e = c.span-start.ensures.is ∙ skipped _ _ c.requires.1 _ in
    rw c.span-end.ensures.is (
      chunk _ _ c.requires.1 _ _ _ e c.chunk_end.ensures (sym c.is_whole.ensures ∙ c.if-is_whole.false),
      chunk_some _ _ c.requires.1 _ _ _ e c.if-n-start.false c.chunk_end.ensures,
    )
