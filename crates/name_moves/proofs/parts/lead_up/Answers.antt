use Rattle.std.proofs.Common.{true≢false, refl, sym, ap, ◌∙◌, subst}
use Rattle.std.specs.Prelude.{codes}
use Rattle.drafts.specs.Fates.{seen_in}
use Rattle.gfs2_layout.specs.Structures.{dinode_of}
use Rattle.gfs2_layout.specs.Writing.{dinode_put}
use Rattle.glock_names.proofs.StepLaws.{answer_at, needed_at}
use Rattle.glock_names.specs.Steps.{TellsOf}
use Rattle.glock_names.specs.Views.{HasBlock, IsOfView}
use Rattle.directories.specs.Shown.{IsBroken, IsDirectoryIn, IsNeededFor, IsShown}
use Rattle.directories.specs.Taking.{HasNameIn}
use Rattle.new_inodes.specs.Touched.{with_times}
use Rattle.name_drafts.proofs.WalkFaults.{told_on}
use Rattle.name_drafts.proofs.Steps.{directory_here, directory_so}
use Rattle.name_drafts.proofs.Fates.{seen_old, still_there}
use Rattle.name_drafts.proofs.Faults.{positive_block}
use Rattle.name_moves.specs.Moving.{IsWrongIn, move_of, of_target, parent_of}
use Rattle.name_moves.proofs.Given.{led_able, led_up, led_view, times_read}
use Rattle.name_moves.proofs.Ways.{broken_parent, needed_parent, reparents}
use Rattle.name_moves.proofs.Under.{asked_to_go}
use Rattle.name_moves.proofs.parts.lead_up.Goals as goal

pub redirect-requires-clause-directory : goal.redirect-requires-clause-directory
redirect-requires-clause-directory g c =
    subst (λ w. IsDirectoryIn w c.args.m.now.moved.inode) (sym (seen_old g.V.View.seen c.args.draft.now c.requires.new))
    (directory_here (g.V.View.seen c.args.draft.now.view) c.args.m.now.moved.inode c.args.m.now.moved.dinode c.requires.can.inode_read (sym c.is_directory.ensures ∙ c.if-not-is_directory.false))

pub redirect-requires-clause-named : goal.redirect-requires-clause-named
redirect-requires-clause-named g c =
    let moves = reparents (move_of c.args.m.now) (sym c.is_directory.ensures ∙ c.if-not-is_directory.false) c.if-m.false in
    subst (λ w. HasNameIn w c.args.m.now.moved.inode (codes "..")) (sym (seen_old g.V.View.seen c.args.draft.now c.requires.new)) (c.requires.can.parented moves)

pub redirect-requires-clause-address : goal.redirect-requires-clause-address
redirect-requires-clause-address g c = positive_block (seen_in g.V.View.seen c.args.draft.now) c.is_a_view.ensures c.args.m.now.to.inode (c.requires.can.inside c.args.m.now.to.inode (of_target refl))

pub returns-in_err-_block-clause-damaged : goal.returns-in_err-_block-clause-damaged
returns-in_err-_block-clause-damaged g c blocks =
    let v = g.V.View.seen c.args.draft.now.view in
    let m = move_of c.args.m.now in
    let same = seen_old g.V.View.seen c.args.draft.now c.requires.new in
    let moves = reparents m (sym c.is_directory.ensures ∙ c.if-not-is_directory.false) c.if-m.false in
    told_on (IsWrongIn v m blocks) _ _ c.from_residual.ensures.1
    (broken_parent v m moves blocks c.in_err-_block.field-0.0
    (λ h shown. subst (λ w. TellsOf (IsBroken w h) c.in_err-_block.field-0.0) same (c.in_err-_block.ensures.damaged h (subst (λ w. IsShown w m.moved.inode h) (sym same) shown))))

pub returns-in_err-_block-clause-kept : goal.returns-in_err-_block-clause-kept
returns-in_err-_block-clause-kept g c =
    told_on (IsOfView (g.V.View.seen c.args.draft.now.view)) _ _ c.from_residual.ensures.1
    (subst (λ w. TellsOf (IsOfView w) c.in_err-_block.field-0.0) (seen_old g.V.View.seen c.args.draft.now c.requires.new) c.in_err-_block.ensures.kept)

pub returns-in-NeedBlock-clause-needed : goal.returns-in-NeedBlock-clause-needed
returns-in-NeedBlock-clause-needed g c blocks =
    let v = g.V.View.seen c.args.draft.now.view in
    let m = move_of c.args.m.now in
    let same = seen_old g.V.View.seen c.args.draft.now c.requires.new in
    let moves = reparents m (sym c.is_directory.ensures ∙ c.if-not-is_directory.false) c.if-m.false in
    let n = c.in-NeedBlock.missing in
    let w = seen_in g.V.View.seen c.args.draft.now in
    let dir = m.moved.inode in
    needed_parent v m moves blocks n
    (asked_to_go w v c.is_a_view.ensures dir
    (subst (λ x. IsDirectoryIn x dir) (sym same) (directory_here v dir c.args.m.now.moved.dinode c.requires.can.inode_read (sym c.is_directory.ensures ∙ c.if-not-is_directory.false)))
    (subst (λ x. HasBlock x dir) (sym same) c.requires.can.inode_there) n
    (ap (λ x. x.block_at n.block) (sym same) ∙ needed_at _ _ _ c.in-NeedBlock.is c.in_ok-_block.ensures.absent) (codes "..") (λ h shown. needed_at _ _ _ c.in-NeedBlock.is (c.in_ok-_block.ensures.needed h shown)))
    (λ h shown. subst (λ w. IsNeededFor w h (codes "..") n) same (needed_at _ _ _ c.in-NeedBlock.is (c.in_ok-_block.ensures.needed h (subst (λ w. IsShown w m.moved.inode h) (sym same) shown))))

pub returns-then-not-has_directory-clause-able : goal.returns-then-not-has_directory-clause-able
returns-then-not-has_directory-clause-able g c h so =
    let v = g.V.View.seen c.args.draft.now.view in
    let m = move_of c.args.m.now in
    let dir = m.moved.inode in
    let mid = c.redirect.new.draft in
    let moves = reparents m (sym c.is_directory.ensures ∙ c.if-not-is_directory.false) c.if-m.false in
    let led = answer_at _ _ _ c.in-Is.is c.in_ok-_block.ensures.led in
    let one = answer_at _ _ _ c.in-Is.is c.in_ok-_block.ensures.one in
    let named = c.requires.can.parented moves in
    let is = so moves in
    let there : HasBlock (seen_in g.V.View.seen mid) dir = still_there (g.V.View.seen mid.view) mid.fates dir
    (subst (λ x. HasBlock (g.V.View.seen x) dir) (sym (led_view g.V.View.seen c.args.draft.now mid c.requires.new dir c.in-Is._block (parent_of m) led one named)) c.requires.can.inode_there) in
    let has = led_able g.V.View.seen c.args.draft.now mid c.requires.new dir c.in-Is._block (parent_of m) led one named h is.0 is.1
    (directory_so h m.moved.dinode (c.requires.can.inode_read h is.0.inode) (sym c.is_directory.ensures ∙ c.if-not-is_directory.false)) there.0 there.1 in
    sym c.if-not-has_directory.true ∙ c.has_directory.ensures.all there.0 there.1 has.0 has.1

pub returns-clause-led : goal.returns-clause-led
returns-clause-led g c done =
    let v = g.V.View.seen c.args.draft.now.view in
    let m = move_of c.args.m.now in
    let dir = m.moved.inode in
    let mid = c.redirect.new.draft in
    let moves = reparents m (sym c.is_directory.ensures ∙ c.if-not-is_directory.false) c.if-m.false in
    let led = answer_at _ _ _ c.in-Is.is c.in_ok-_block.ensures.led in
    let one = answer_at _ _ _ c.in-Is.is c.in_ok-_block.ensures.one in
    let there = c.has_directory.ensures.there c.if-not-has_directory.false in
    record {
      nothing = λ stays. absurd (true≢false (sym moves ∙ stays));
      leads = λ so. led_up g.V.View.seen c.args.draft.now mid c.requires.new dir c.in-Is._block (parent_of m) led one (c.requires.can.parented moves) c.stamp.new.draft c.args.time
          (dinode_put (with_times (dinode_of there.0) c.args.time) there.0) (c.in_ok-stamp.ensures.put there.0 there.1) (λ h shown. c.in_ok-stamp.ensures.touched h shown)
          (times_read (dinode_put (with_times (dinode_of there.0) c.args.time) there.0) (dinode_of there.0) c.args.time (c.in_ok-stamp.ensures.read there.0 there.1));
    }
