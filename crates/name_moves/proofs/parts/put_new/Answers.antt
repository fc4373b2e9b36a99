use Rattle.std.proofs.Common.{◌≡◌, ◌-◌, length, take, refl, sym, ap, ◌∙◌, subst, arith}
use Rattle.drafts.specs.Fates.{seen_in}
use Rattle.glock_names.proofs.StepLaws.{answer_at, needed_at}
use Rattle.gfs2_layout.specs.Structures.{dinode_of}
use Rattle.glock_names.specs.Views.{HasBlock}
use Rattle.directories.proofs.Forms.{is_directory_here}
use Rattle.name_drafts.proofs.WalkFaults.{told_on, tells_so}
use Rattle.name_drafts.specs.Inserting.{CanGetName, IsNeededForName, IsWrongForName}
use Rattle.name_drafts.proofs.Faults.{positive_block}
use Rattle.name_drafts.proofs.Fates.{absent_below, still_there}
use Rattle.name_moves.specs.Becoming.{IsAfter}
use Rattle.name_moves.specs.Moving.{IsNeededThere, IsWrongThere, entry_for, lost_there, move_of, of_inode}
use Rattle.name_moves.specs.Moving as moving
use Rattle.name_moves.specs.Steps.{IsNamedThere, left_of}
use Rattle.name_moves.proofs.After.{after_needed_name, after_wrong_name}
use Rattle.name_moves.proofs.Given.{times_read}
use Rattle.name_moves.proofs.Loses.{can_tell}
use Rattle.name_moves.proofs.Named.{named_able, named_of, shorter}
use Rattle.name_moves.proofs.Under.{asked_to_come}
use Rattle.name_moves.proofs.parts.put_new.Goals as goal

pub put_name-requires-clause-address : goal.put_name-requires-clause-address
put_name-requires-clause-address g c = positive_block _ c.is_a_view.ensures c.args.m.now.moved.inode (c.requires.can.inside c.args.m.now.moved.inode (of_inode refl))

pub returns-in_err-put_name-clause-damaged : goal.returns-in_err-put_name-clause-damaged
returns-in_err-put_name-clause-damaged g c =
    let v = g.V.View.seen c.args.draft.now.view in
    let m = move_of c.args.m.now in
    told_on (IsWrongThere v m) _ _ c.from_residual-in_err-put_name.ensures.1
    (tells_so (λ rule b. IsAfter v m.to.inode (lost_there m) (λ k. IsWrongForName v k rule b)) (IsWrongThere v m) (λ rule b is. moving.IsWrongThere.to_come rule b is) c.in_err-put_name.field-0.0
    (after_wrong_name v m.to.inode (lost_there m) c.args.draft.now.fates c.requires.lost c.in_err-put_name.field-0.0 (λ k shown. c.in_err-put_name.ensures.damaged k shown)))

pub returns-in-NeedBlock-clause-needed : goal.returns-in-NeedBlock-clause-needed
returns-in-NeedBlock-clause-needed g c =
    let v = g.V.View.seen c.args.draft.now.view in
    let m = move_of c.args.m.now in
    let fates = c.args.draft.now.fates in
    let n = c.in-NeedBlock.missing in
    moving.IsNeededThere.to_come
    (asked_to_come (seen_in g.V.View.seen c.args.draft.now) v c.is_a_view.ensures m.to.inode c.requires.still (still_there v fates m.to.inode c.requires.can.target_there) n
    (absent_below v fates n.block (needed_at _ _ _ c.in-NeedBlock.is c.in_ok-put_name.ensures.absent)) c.bytes.result.now (λ k shown. needed_at _ _ _ c.in-NeedBlock.is (c.in_ok-put_name.ensures.needed k shown)))
    (after_needed_name v m.to.inode (lost_there m) fates c.requires.lost m.new_name n
    (λ k shown. subst (λ n. IsNeededForName (seen_in g.V.View.seen c.args.draft.now) k n c.in-NeedBlock.missing) c.bytes.ensures.bytes (needed_at _ _ _ c.in-NeedBlock.is (c.in_ok-put_name.ensures.needed k shown))))

pub returns-then-not-has_directory-clause-able : goal.returns-then-not-has_directory-clause-able
returns-then-not-has_directory-clause-able g c h shown sound can =
    let v = g.V.View.seen c.args.draft.now.view in
    let m = move_of c.args.m.now in
    let dir = m.to.inode in
    let mid = c.put_name.new.draft in
    let room_is : c.from_vec-left.result.items ≡ c.args.room.now = c.from_vec-left.ensures.items ∙ c.in_ok-from_slice.ensures.items in
    let is = c.requires.lost.each h shown (can_tell (lost_there m) h sound) in
    let k = left_of v c.args.draft.now.fates h in
    let k_can = subst (CanGetName k c.bytes.result.now) (sym room_is) (subst (λ n. CanGetName k n c.args.room.now) (sym c.bytes.ensures.bytes) (can k is.lost)) in
    let got = answer_at _ _ _ c.in-Is-true.is (c.in_ok-put_name.ensures.put k is.shown k_can) in
    let there : HasBlock (seen_in g.V.View.seen mid) dir = still_there (g.V.View.seen mid.view) mid.fates dir (subst (λ x. HasBlock (g.V.View.seen x) dir) (sym c.put_name.ensures.view) c.requires.can.target_there) in
    let so = named_able (seen_in g.V.View.seen mid) dir (lost_there m) h k got.1.0 c.bytes.result.now _ c.args.draft.now.fates mid.fates _ _ is.lost (is_directory_here v dir h c.requires.can.target c.requires.can.target_there shown.inode) got.1.1 got.1.2 there.0 there.1 in
    sym c.if-not-has_directory.true ∙ c.has_directory.ensures.all there.0 there.1 so.0 so.1

pub returns-clause-named : goal.returns-clause-named
returns-clause-named g c =
    let v = g.V.View.seen c.args.draft.now.view in
    let m = move_of c.args.m.now in
    let dir = m.to.inode in
    let old = c.args.draft.now in
    let mid = c.put_name.new.draft in
    let last = c.stamp.new.draft in
    let e = entry_for m c.args.old.now in
    let room_is : c.from_vec-left.result.items ≡ c.args.room.now = c.from_vec-left.ensures.items ∙ c.in_ok-from_slice.ensures.items in
    let inside = answer_at _ _ _ c.in-Is-true.is c.in_ok-put_name.ensures.inside c.in-Is-true.field-0-test in
    let there = c.has_directory.ensures.there c.if-not-has_directory.false in
    let few = shorter g.V.View.seen old mid last dir (lost_there m) c.bytes.result.now e c.args.time c.from_vec-left.result.items c.put_name.new.room.items c.requires.lost c.put_name.ensures.view inside in
    let len : c.len.result ≡ length c.put_name.new.room.items = c.len.ensures ∙ c.put_name.new.room.ok.0 in
    subst (λ n. IsNamedThere v dir (lost_there m) n e c.args.time c.args.room.now (take (length c.args.room.now - c.len.result) c.args.room.now) last.fates) c.bytes.ensures.bytes
    (named_of g.V.View.seen old mid last dir (lost_there m) c.bytes.result.now e c.args.time c.from_vec-left.result.items c.put_name.new.room.items c.requires.lost c.put_name.ensures.view inside
    (λ h shown can. (answer_at _ _ _ c.in-Is-true.is (c.in_ok-put_name.ensures.put h shown can)).1) _ (c.in_ok-stamp.ensures.put there.0 there.1) (λ h shown. c.in_ok-stamp.ensures.touched h shown)
    (times_read _ (dinode_of there.0) c.args.time (c.in_ok-stamp.ensures.read there.0 there.1))
    c.args.room.now (length c.args.room.now - c.len.result) room_is (omega (arith, len, few, ap length room_is)))
