use Rattle.std.proofs.Common.{◌≡◌, ◌-◌, max, ap, subst, sym, ◌∙◌}
use Rattle.gfs2_layout.specs.Inode.{dinode_in}
use Rattle.gfs2_layout.specs.declared.dinode.Dinode.{Dinode}
use Rattle.glock_names.proofs.StepLaws.{answer_so}
use Rattle.dinode_tree.specs.Shown.{IsShown}
use Rattle.growth_laws.specs.Need.{height_for, needed_below, raised_to}
use Rattle.file_walks.proofs.Steps.{seen_dinode}
use Rattle.file_fills.proofs.needing.count_need.Goals as goal

pub returns-clause-found : goal.returns-clause-found
returns-clause-found g c h file shown d_is =
    let o = seen_dinode (g.V.View.seen c.args.view.now) h c.args.inode c.in-Some.bytes.now shown c.in-Some.ensures.some c.in-Some.ensures.size in
    let w = c.write_to-write.ensures.is h shown.own o d_is in
    let shown' : IsShown (g.V.View.seen c.args.view.now) c.write_to-write.result.inode h = subst (λ a. IsShown (g.V.View.seen c.args.view.now) a h) (sym c.write_to-write.ensures.inode) shown in
    let height : c.height_for-height.result ≡ height_for h (max (dinode_in h).size c.args.end)
    = c.height_for-height.ensures.value ∙ (λ i. raised_to (o.size i) (d_is i).height (c.max.ensures i) (10 - (d_is i).height)) ∙ ap (λ (d : Dinode). height_for h (max d.size c.args.end)) d_is in
    answer_so c.need_below.result _ _ (λ need is. is ∙ (λ i. needed_below h (c.write_to-write.ensures.at i) (c.write_to-write.ensures.end i) (height i))) (c.need_below.ensures.found h file shown' w)
