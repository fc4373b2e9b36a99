use Rattle.std.proofs.Common.{refl}
use Rattle.mkgfs2_tool.specs.Outcomes.{LacksMemory}
use Rattle.mkgfs2_tool.proofs.EndingLaws.{plan_ending}
use Rattle.mkgfs2_tool.proofs.making.make_plan.Goals as goal

pub returns-clause-ending : goal.returns-clause-ending
returns-clause-ending g c =
    plan_ending c.args.plan.now (g.D.SharedDisk.state c.args.disk.now) (g.D.SharedDisk.state c.make_blocks.new.disk) (g.D.SharedDisk.list c.args.disk.now) (g.D.SharedDisk.list c.make_blocks.new.disk)
    (g.D.SharedDisk.faults c.args.disk.now) (g.D.SharedDisk.faults c.make_blocks.new.disk) c.make_blocks.result c.make_blocks.ensures.made c.make_blocks.ensures.begun c.make_blocks.ensures.cause

pub returns-in_default-clause-ending : goal.returns-in_default-clause-ending
returns-in_default-clause-ending g c = LacksMemory (record { state_is = refl; list_is = refl; faults_are = refl })
