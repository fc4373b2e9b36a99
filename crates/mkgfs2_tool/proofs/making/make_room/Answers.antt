use Rattle.mkgfs2_tool.proofs.DiskLaws.{settled_so}
use Rattle.mkgfs2_tool.proofs.making.make_room.Goals as goal

pub returns-clause-made : goal.returns-clause-made
returns-clause-made g c = λ p old list b made. settled_so p old _ _ list _ _ b c.in_ok-settle.ensures.ok.0 c.in_ok-settle.ensures.ok.1 made
