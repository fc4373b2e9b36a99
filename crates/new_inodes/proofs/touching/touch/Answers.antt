use Rattle.std.proofs.Common.{Ok, ap, ◌∙◌, arith}
use Rattle.glock_names.proofs.StepLaws.{answer_at}
use Rattle.gfs2_layout.specs.Writing.{dinode_put}
use Rattle.gfs2_layout.specs.declared.dinode.Dinode.{Dinode}
use Rattle.drafts.specs.Fates.{seen_in}
use Rattle.new_inodes.specs.Touched.{with_times}
use Rattle.new_inodes.proofs.Touches.{is_touched, linear_still, dinode_before}
use Rattle.new_inodes.proofs.touching.touch.Goals as goal

pub returns-clause-touched : goal.returns-clause-touched
returns-clause-touched g c h shown =
    let there = answer_at _ _ _ c.in-Is.is c.in_ok-dinode.ensures.there in
    let found = answer_at _ _ _ c.in-Is.is (c.in_ok-dinode.ensures.found h shown) in
    let touched : Dinode = with_times c.in-Is.dinode c.args.time in
    is_touched g.V.View.seen c.args.draft.now c.put_dinode.new.draft c.args.inode c.args.time h there.0 (dinode_put touched there.0) (record {
      shown = shown;
      there = there.1;
      large = omega (arith, c.block_size-size.ensures.view.block_size);
      put = c.in_ok-put_dinode.ensures.put there.0 there.1;
      written = ap (λ (d : Dinode). dinode_put (with_times d c.args.time) there.0) found;
      read = c.in_ok-put_dinode.ensures.read there.0 there.1 ∙ ap (λ (d : Dinode). Ok (with_times d c.args.time)) found;
      behind = c.in_ok-put_dinode.ensures.behind there.0 there.1;
      long = c.in_ok-put_dinode.ensures.whole there.0 there.1;
    })

pub returns-clause-linear : goal.returns-clause-linear
returns-clause-linear g c linear =
    let v = seen_in g.V.View.seen c.args.draft.now in
    let there = answer_at _ _ _ c.in-Is.is c.in_ok-dinode.ensures.there in
    let some = c.every_view_shows_an_inode.ensures v c.args.inode in
    let found = answer_at _ _ _ c.in-Is.is (c.in_ok-dinode.ensures.found some.0 some.1.0) in
    let touched : Dinode = with_times c.in-Is.dinode c.args.time in
    linear_still g.V.View.seen c.args.draft.now c.put_dinode.new.draft c.args.inode c.args.time c.in-Is.dinode there.0 (dinode_put touched there.0) linear there.1
    (dinode_before v c.args.inode some.0 c.in-Is.dinode there.0 some.1.0 there.1 found) (c.in_ok-put_dinode.ensures.put there.0 there.1) (c.in_ok-put_dinode.ensures.read there.0 there.1)
