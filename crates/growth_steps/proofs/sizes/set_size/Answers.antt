use Rattle.growth_steps.proofs.Owning.{sized_by}
use Rattle.growth_steps.proofs.Sized.{on_all, sized_after}
use Rattle.growth_steps.proofs.sizes.set_size.Goals as goal

pub returns-clause-sized : goal.returns-clause-sized
returns-clause-sized g c h bytes file shown d_is can there =
    on_all c.put_dinode.result _ _ _ _ _
    (λ is read behind long. sized_after g.V.View.seen c.args.draft.now c.put_dinode.new.draft c.args.inode c.args.size c.args.dinode.now bytes _ there is read behind long h file shown d_is can)
    (c.put_dinode.ensures.put bytes there) (c.put_dinode.ensures.read bytes there) (c.put_dinode.ensures.behind bytes there) (c.put_dinode.ensures.whole bytes there)

pub returns-clause-becomes : goal.returns-clause-becomes
returns-clause-becomes g c h bytes file shown d_is can there =
    on_all c.put_dinode.result _ _ _ _ _
    (λ put read behind whole. sized_by g.V.View.seen c.args.draft.now c.put_dinode.new.draft c.args.inode c.args.dinode.now bytes _ there put h file shown d_is c.args.size can read whole behind)
    (c.put_dinode.ensures.put bytes there) (c.put_dinode.ensures.read bytes there) (c.put_dinode.ensures.behind bytes there) (c.put_dinode.ensures.whole bytes there)
