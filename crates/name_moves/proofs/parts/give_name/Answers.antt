use Rattle.std.proofs.Common.{◌≡◌, Some, sym, ap, ◌∙◌, subst}
use Rattle.drafts.specs.Fates.{block_with, seen_in}
use Rattle.gfs2_layout.specs.Structures.{dinode_of}
use Rattle.gfs2_layout.specs.Writing.{dinode_put}
use Rattle.glock_names.proofs.StepLaws.{answer_at, needed_at}
use Rattle.glock_names.specs.Steps.{TellsOf}
use Rattle.glock_names.specs.Views.{HasBlock, IsOfView}
use Rattle.directories.specs.Shown.{IsBroken, IsDirectoryIn, IsNeededFor, IsShown}
use Rattle.directories.specs.Taking.{HasNameIn}
use Rattle.directories.proofs.Counted.{equal}
use Rattle.new_inodes.specs.Touched.{with_times}
use Rattle.name_drafts.proofs.WalkFaults.{told_on}
use Rattle.name_drafts.proofs.Fates.{seen_old}
use Rattle.name_moves.specs.Becoming.{GivesName}
use Rattle.name_moves.specs.Moving.{IsWrongIn, move_of}
use Rattle.name_moves.specs.Steps.{IsChangedThere}
use Rattle.name_moves.proofs.Given.{given, times_read}
use Rattle.name_moves.proofs.Ways.{broken_old, needed_old}
use Rattle.name_moves.proofs.Under.{asked_to_go}
use Rattle.name_moves.proofs.parts.give_name.Goals as goal

pub remove-requires-clause-directory : goal.remove-requires-clause-directory
remove-requires-clause-directory g c = subst (λ w. IsDirectoryIn w c.args.m.now.from) (sym (seen_old g.V.View.seen c.args.draft.now c.requires.new)) c.requires.can.source

pub remove-requires-clause-named : goal.remove-requires-clause-named
remove-requires-clause-named g c =
    subst (λ w. HasNameIn w c.args.m.now.from c.bytes.result.now) (sym (seen_old g.V.View.seen c.args.draft.now c.requires.new))
    (subst (HasNameIn (g.V.View.seen c.args.draft.now.view) c.args.m.now.from) (sym c.bytes.ensures.bytes) (λ h shown. let has = c.requires.can.named h shown in (has.entry, has.says)))

pub returns-in_err-_leaf-clause-damaged : goal.returns-in_err-_leaf-clause-damaged
returns-in_err-_leaf-clause-damaged g c blocks =
    let v = g.V.View.seen c.args.draft.now.view in
    let same = seen_old g.V.View.seen c.args.draft.now c.requires.new in
    told_on (IsWrongIn v (move_of c.args.m.now) blocks) _ _ c.from_residual.ensures.1
    (broken_old v (move_of c.args.m.now) blocks c.in_err-_leaf.field-0.0
    (λ h shown. subst (λ w. TellsOf (IsBroken w h) c.in_err-_leaf.field-0.0) same (c.in_err-_leaf.ensures.damaged h (subst (λ w. IsShown w c.args.m.now.from h) (sym same) shown))))

pub returns-in_err-_leaf-clause-kept : goal.returns-in_err-_leaf-clause-kept
returns-in_err-_leaf-clause-kept g c =
    told_on (IsOfView (g.V.View.seen c.args.draft.now.view)) _ _ c.from_residual.ensures.1
    (subst (λ w. TellsOf (IsOfView w) c.in_err-_leaf.field-0.0) (seen_old g.V.View.seen c.args.draft.now c.requires.new) c.in_err-_leaf.ensures.kept)

pub returns-in-NeedBlock-clause-needed : goal.returns-in-NeedBlock-clause-needed
returns-in-NeedBlock-clause-needed g c blocks =
    let v = g.V.View.seen c.args.draft.now.view in
    let same = seen_old g.V.View.seen c.args.draft.now c.requires.new in
    let n = c.in-NeedBlock.missing in
    let w = seen_in g.V.View.seen c.args.draft.now in
    let from = c.args.m.now.from in
    needed_old v (move_of c.args.m.now) blocks n
    (asked_to_go w v c.is_a_view.ensures from (subst (λ x. IsDirectoryIn x from) (sym same) c.requires.can.source) (subst (λ x. HasBlock x from) (sym same) c.requires.can.source_there) n
    (ap (λ x. x.block_at n.block) (sym same) ∙ needed_at _ _ _ c.in-NeedBlock.is c.in_ok-_leaf.ensures.absent) c.bytes.result.now (λ h shown. needed_at _ _ _ c.in-NeedBlock.is (c.in_ok-_leaf.ensures.needed h shown)))
    (λ h shown. subst (λ x. IsNeededFor v h x n) c.bytes.ensures.bytes (subst (λ w. IsNeededFor w h c.bytes.result.now n) same
    (needed_at _ _ _ c.in-NeedBlock.is (c.in_ok-_leaf.ensures.needed h (subst (λ w. IsShown w c.args.m.now.from h) (sym same) shown)))))

pub returns-clause-given : goal.returns-clause-given
returns-clause-given g c =
    let v = g.V.View.seen c.args.draft.now.view in
    let m = move_of c.args.m.now in
    let mid = c.remove.new.draft in
    let two = answer_at _ _ _ c.in-Is.is c.in_ok-_leaf.ensures.two in
    let there : (seen_in g.V.View.seen mid).block_at m.from ≡ Some two.bytes = ap (λ f. block_with f ((g.V.View.seen mid.view).block_at m.from)) two.put in
    record {
      nothing = λ within. absurd (c.if-m.false (equal m.from m.to.inode within));
      gives = λ between. subst (λ n. IsChangedThere v m.from c.stamp.new.draft.fates (λ h k. GivesName h k n c.args.time) n c.args.time) c.bytes.ensures.bytes
          (given g.V.View.seen c.args.draft.now mid c.stamp.new.draft c.requires.new m.from c.bytes.result.now c.args.time c.in-Is._leaf (answer_at _ _ _ c.in-Is.is c.in_ok-_leaf.ensures.taken) two
          (subst (λ w. HasNameIn w m.from c.bytes.result.now) (sym (seen_old g.V.View.seen c.args.draft.now c.requires.new))
          (subst (HasNameIn v m.from) (sym c.bytes.ensures.bytes) (λ h shown. let has = c.requires.can.named h shown in (has.entry, has.says))))
          (dinode_put (with_times (dinode_of two.bytes) c.args.time) two.bytes) (c.in_ok-stamp.ensures.put two.bytes there) (λ h shown. c.in_ok-stamp.ensures.touched h shown)
          (times_read (dinode_put (with_times (dinode_of two.bytes) c.args.time) two.bytes) (dinode_of two.bytes) c.args.time (c.in_ok-stamp.ensures.read two.bytes there)));
    }
