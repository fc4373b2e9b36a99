use Rattle.growth_steps.proofs.Owning.{bare_by, on_both}
use Rattle.growth_steps.proofs.heights.set_height.Goals as goal

pub returns-clause-bare : goal.returns-clause-bare
returns-clause-bare g c h bytes file shown d_is can there =
    on_both c.put_bare.result _ _ _
    (λ put led. bare_by g.V.View.seen c.args.draft.now c.put_bare.new.draft c.args.inode c.args.dinode.now bytes _ there put h file shown d_is c.args.height led can)
    (c.put_bare.ensures.put bytes there) (c.put_bare.ensures.bare bytes there)
