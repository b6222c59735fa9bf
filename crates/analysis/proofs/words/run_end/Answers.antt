-- `words::run_end` meets its contract, by the first byte that does not hold. Assumes nothing.
use Rattle.std.proofs.Common.{rules, arith, ◌≡◌, ◌-◌, take, drop, position}
use Rattle.std.proofs.lemmas.Iterator.{YieldsList-from_slice}
use Rattle.std.proofs.lemmas.Iterator.Search.{position_from_yields_List}
use Rattle.std.proofs.lemmas.Bool.Decides.{nat_tests}
use Rattle.analysis.proofs.Firsts.{first_is, first_within, part_length}
use Rattle.analysis.proofs.Seeking.{outer, held_first}
use Rattle.analysis.proofs.words.run_end.Goals as goal

found : (c : goal.After-unwrap_or) → c.position-breaks.result ≡ position outer (take (c.args.end - c.args.from) (drop c.args.from c.args.text.now))
found c = position_from_yields_List outer _ _ _ c.position-breaks.ensures.ran (YieldsList-from_slice _ c.iter.ensures.rest) (λ x b q k. search (rules, nat_tests))

pub overflow_add-result : goal.overflow_add-result
overflow_add-result c = omega (arith, first_within outer _ (found c) c.unwrap_or.ensures, part_length c.args.text.now c.requires.0 c.requires.1)

pub returns : goal.returns
returns c = held_first _ c.requires.0 c.requires.1 (first_is outer _ (found c) c.unwrap_or.ensures) (first_within outer _ (found c) c.unwrap_or.ensures)
