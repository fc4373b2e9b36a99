use Rattle.file_tree.specs.Apply.{overwritten}
use Rattle.growth_steps.proofs.Owning.{stuffed_by, on_both}
use Rattle.growth_steps.proofs.stuffed.put_stuffed.Goals as goal

pub returns-clause-written : goal.returns-clause-written
returns-clause-written g c h bytes file shown d_is stuffed there =
    on_both c.put_written.result _ _ _
    (λ put block. stuffed_by g.V.View.seen c.args.draft.now c.put_written.new.draft c.args.inode c.args.dinode.now bytes _ there put h file shown d_is _ (overwritten c.args.at c.args.new.now) stuffed block)
    (c.put_written.ensures.put bytes there) (c.put_written.ensures.stuffed bytes there)
