-- `boost::numeral::parse` meets its contract. Assumes nothing.
use Rattle.boost.proofs.Words.{too_long, parsed}
use Rattle.boost.proofs.numeral.parse.Goals as goal

pub returns-then-text-gt-NUMERAL_MOST : goal.returns-then-text-gt-NUMERAL_MOST
returns-then-text-gt-NUMERAL_MOST c = too_long c.args.text.now c.if-text-gt-NUMERAL_MOST.true

pub returns : goal.returns
returns c = parsed c.args.text.now c.after_sign.result.now c.without_sign.result c.ok_or.result c.if-text-gt-NUMERAL_MOST.false c.after_sign.ensures c.without_sign.ensures c.ok_or.ensures.value
