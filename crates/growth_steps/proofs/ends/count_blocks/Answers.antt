use Rattle.growth_steps.proofs.Owning.{told_by}
use Rattle.growth_steps.proofs.Sized.{on_all}
use Rattle.growth_steps.proofs.ends.count_blocks.Goals as goal

pub returns-clause-told : goal.returns-clause-told
returns-clause-told g c h bytes file shown d_is there =
    on_all c.put_dinode.result _ _ _ _ _
    (λ put read behind whole. told_by g.V.View.seen c.args.draft.now c.put_dinode.new.draft c.args.inode c.args.dinode.now bytes _ there put h file shown d_is c.args.blocks read whole behind)
    (c.put_dinode.ensures.put bytes there) (c.put_dinode.ensures.read bytes there) (c.put_dinode.ensures.behind bytes there) (c.put_dinode.ensures.whole bytes there)
