-- `boost::numeral::is_word` meets its contract. Assumes nothing.
use Rattle.boost.proofs.Words.{word_test}
use Rattle.boost.proofs.numeral.is_word.Goals as goal

pub returns : goal.returns
returns c = word_test c.eq_ignore_ascii_case.result c.args.s.now c.args.w.now c.eq_ignore_ascii_case.ensures.test.0 c.eq_ignore_ascii_case.ensures.test.1
