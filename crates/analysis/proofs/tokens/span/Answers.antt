-- `tokens::span` meets its contract, by the first byte that is not as wanted. Assumes nothing.
use Rattle.std.proofs.Common.{rules, arith, ◌≡◌, ◌-◌, take, drop, position}
use Rattle.std.proofs.lemmas.Iterator.{YieldsList-from_slice}
use Rattle.std.proofs.lemmas.Iterator.Search.{position_from_yields_List}
use Rattle.analysis.proofs.Firsts.{first_is, first_within, part_length}
use Rattle.analysis.proofs.Spans.{unwanted, span_first}
use Rattle.analysis.proofs.tokens.span.Goals as goal

found : (c : goal.After-unwrap_or) → c.position-ends.result ≡ position (unwanted c.args.analyzer c.args.want) (take (c.args.end - c.args.from) (drop c.args.from c.args.text.now))
found c = position_from_yields_List (unwanted c.args.analyzer c.args.want) _ _ _ c.position-ends.ensures.ran (YieldsList-from_slice _ c.iter.ensures.rest) (λ x b q k. search rules)

pub overflow_add-result : goal.overflow_add-result
overflow_add-result c = omega (arith, first_within _ _ (found c) c.unwrap_or.ensures, part_length c.args.text.now c.requires.0 c.requires.1)

pub returns : goal.returns
returns c = span_first _ _ _ c.requires.0 c.requires.1 (first_is _ _ (found c) c.unwrap_or.ensures) (first_within _ _ (found c) c.unwrap_or.ensures)
