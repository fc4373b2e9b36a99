use Rattle.image_reader.proofs.Fitting.{under_pointers}
use Rattle.image_reader.proofs.InodeFaults.{content_above}
use Rattle.image_reader.proofs.inode.Inode.check_pointed.Goals as goal

pub returns-then-content_count-most : goal.returns-then-content_count-most
returns-then-content_count-most c = record { under = tt; damaged = content_above c.args.self.now _ c.args.level _ _ _ _ c.damaged.ensures c.requires.block c.requires.height c.fan.ensures c.span.ensures.value c.saturating_mul-most.ensures c.content_count.ensures c.content_count.type_inv c.if-content_count-most.true }

pub returns-clause-under : goal.returns-clause-under
returns-clause-under c = under_pointers c.args.self.now c.args.level _ _ _ _ c.fan.ensures c.span.ensures.value c.saturating_mul-most.ensures c.content_count.ensures c.if-content_count-most.false
