-- `parser::parse::write_whole` meets its contract.
use Rattle.clauses.proofs.Placing.{first_length}
use Rattle.parser.proofs.Delivering.{none_short, none_fits, some_short, some_fits}
use mathlib.Core.Path.{◌∙◌}
use Rattle.parser.proofs.parse.write_whole.Goals as goal

pub returns-then-out-lt-HEADER : goal.returns-then-out-lt-HEADER
returns-then-out-lt-HEADER c = λ st cs j W. none_short cs c.args.len W.fills c.args.out.now c.if-len-eq0.true c.if-out-lt-HEADER.true

pub returns-then-len-eq0 : goal.returns-then-len-eq0
returns-then-len-eq0 c = λ st cs j W. none_fits cs c.args.len W.fills c.args.out.now c.if-len-eq0.true c.if-out-lt-HEADER.false c.put_header.ensures

pub returns-then-out-len : goal.returns-then-out-len
returns-then-out-len c = λ st cs j W. some_short cs c.args.len W.fills c.args.out.now c.if-len-eq0.false c.if-out-len.true

pub returns : goal.returns
returns c = let r = first_length c.args.out.now c.args.len c.if-out-len.false in λ st cs j W. some_fits cs c.args.len W.fills c.args.out.now c.if-len-eq0.false c.if-out-len.false c.requires.1 c.write_query.new.out (c.write_query.ensures st cs j (record { tuned = W.tuned; is = W.is; alone_is = W.alone_is; fills = r ∙ W.fills }))
