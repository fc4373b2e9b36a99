use Rattle.file_tree.specs.Apply.{resized}
use Rattle.growth_steps.proofs.Owning.{stuffed_by, on_both}
use Rattle.growth_steps.proofs.stuffed.resize_stuffed.Goals as goal

pub returns-clause-resized : goal.returns-clause-resized
returns-clause-resized g c h bytes file shown d_is stuffed there =
    on_both c.put_resized.result _ _ _
    (λ put block. stuffed_by g.V.View.seen c.args.draft.now c.put_resized.new.draft c.args.inode c.args.dinode.now bytes _ there put h file shown d_is c.args.size (resized c.args.size) stuffed block)
    (c.put_resized.ensures.put bytes there) (c.put_resized.ensures.stuffed bytes there)
