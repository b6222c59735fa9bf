-- `parts::write::put_header` meets its contract.
use Rattle.parts.proofs.Fronts as fronts
use Rattle.parts.proofs.write.put_header.Goals as goal

pub returns : goal.returns
returns c = fronts.header_put c.args.out.now c.put_big2.new.out c.args.at c.args.tag c.args.n c.put_big2.result c.requires.0 c.requires.1 c.put_big2.ensures
