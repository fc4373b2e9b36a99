use Rattle.std.proofs.Common.{◌≡◌, ◌-◌, length, refl, sym, ap, ◌∙◌, subst, arith}
use Rattle.drafts.specs.Fates.{seen_in}
use Rattle.gfs2_layout.specs.Headers.{HasHeader}
use Rattle.glock_names.proofs.StepLaws.{answer_at, needed_at}
use Rattle.glock_names.specs.Steps.{TellsOf}
use Rattle.glock_names.specs.Views.{HasBlock, IsOfView}
use Rattle.linear_dirs.proofs.Looked.{bytes_of}
use Rattle.name_inserts.specs.DirectoryShown.{IsDirectoryIn, IsShown}
use Rattle.path_walks.proofs.Faults.{told_on}
use Rattle.name_inserts.specs.Inserting.{CanGetName, IsNeededForName, IsWrongForName}
use Rattle.name_drafts.proofs.Fates.{seen_old, still_there}
use Rattle.name_drafts.proofs.Named.{name_put_in, shorter}
use Rattle.name_drafts.proofs.directory.put_in_directory.Goals as goal

pub put_name-requires-clause-directory : goal.put_name-requires-clause-directory
put_name-requires-clause-directory g c = subst (λ w. IsDirectoryIn w c.args.dir) (sym (seen_old g.V.View.seen c.args.draft.now c.requires.new)) c.requires.directory

pub returns-in_err-put_name-clause-damaged : goal.returns-in_err-put_name-clause-damaged
returns-in_err-put_name-clause-damaged g c h shown =
    let same = seen_old g.V.View.seen c.args.draft.now c.requires.new in
    told_on (IsWrongForName (g.V.View.seen c.args.draft.now.view) h) _ _ c.from_residual-in_err-put_name.ensures.1
    (subst (λ w. TellsOf (IsWrongForName w h) c.in_err-put_name.field-0.0) same (c.in_err-put_name.ensures.damaged h (subst (λ w. IsShown w c.args.dir h) (sym same) shown)))

pub returns-in_err-put_name-clause-kept : goal.returns-in_err-put_name-clause-kept
returns-in_err-put_name-clause-kept g c =
    told_on (IsOfView (g.V.View.seen c.args.draft.now.view)) _ _ c.from_residual-in_err-put_name.ensures.1
    (subst (λ w. TellsOf (IsOfView w) c.in_err-put_name.field-0.0) (seen_old g.V.View.seen c.args.draft.now c.requires.new) c.in_err-put_name.ensures.kept)

pub returns-in-NeedBlock-clause-needed : goal.returns-in-NeedBlock-clause-needed
returns-in-NeedBlock-clause-needed g c h shown =
    let same = seen_old g.V.View.seen c.args.draft.now c.requires.new in
    subst (λ w. IsNeededForName w h c.args.name.now c.in-NeedBlock.missing) same (needed_at _ _ _ c.in-NeedBlock.is (c.in_ok-put_name.ensures.needed h (subst (λ w. IsShown w c.args.dir h) (sym same) shown)))

pub returns-in-Is-false-clause-able : goal.returns-in-Is-false-clause-able
returns-in-Is-false-clause-able g c h shown can =
    let same = seen_old g.V.View.seen c.args.draft.now c.requires.new in
    let room_is : c.from_vec-left.result.items ≡ c.args.room.now = c.from_vec-left.ensures.items ∙ c.in_ok-from_slice.ensures.items in
    sym c.in-Is-false.field-0-test ∙ (answer_at _ _ _ c.in-Is-false.is (c.in_ok-put_name.ensures.put h (subst (λ w. IsShown w c.args.dir h) (sym same) shown) (subst (CanGetName h c.args.name.now) (sym room_is) can))).0

pub returns-then-not-is_headed-clause-able : goal.returns-then-not-is_headed-clause-able
returns-then-not-is_headed-clause-able g c h shown can =
    let mid = c.put_name.new.draft in
    let same = seen_old g.V.View.seen c.args.draft.now c.requires.new in
    let room_is : c.from_vec-left.result.items ≡ c.args.room.now = c.from_vec-left.ensures.items ∙ c.in_ok-from_slice.ensures.items in
    let got = answer_at _ _ _ c.in-Is-true.is (c.in_ok-put_name.ensures.put h (subst (λ w. IsShown w c.args.dir h) (sym same) shown) (subst (CanGetName h c.args.name.now) (sym room_is) can)) in
    let there : HasBlock (seen_in g.V.View.seen mid) c.args.dir = still_there (g.V.View.seen mid.view) mid.fates c.args.dir (subst (λ x. HasBlock (g.V.View.seen x) c.args.dir) (sym c.put_name.ensures.view) c.requires.there) in
    sym c.if-not-is_headed.true ∙ c.is_headed.ensures.all there.0 there.1
    (subst (HasHeader 4 400) (bytes_of (seen_in g.V.View.seen mid) got.1.0 c.args.dir there.0 got.1.1.inode there.1) got.1.2.sound.inode.header)

pub returns-clause-put : goal.returns-clause-put
returns-clause-put g c =
    let mid = c.put_name.new.draft in
    let room_is : c.from_vec-left.result.items ≡ c.args.room.now = c.from_vec-left.ensures.items ∙ c.in_ok-from_slice.ensures.items in
    let inside = answer_at _ _ _ c.in-Is-true.is c.in_ok-put_name.ensures.inside c.in-Is-true.field-0-test in
    let there = c.is_headed.ensures.there c.if-not-is_headed.false in
    let few = shorter g.V.View.seen c.args.draft.now mid c.stamp.new.draft c.args.dir c.args.name.now c.args.entry c.args.time c.from_vec-left.result.items c.put_name.new.room.items c.requires.new c.put_name.ensures.view inside in
    let len : c.len.result ≡ length c.put_name.new.room.items = c.len.ensures ∙ c.put_name.new.room.ok.0 in
    name_put_in g.V.View.seen c.args.draft.now mid c.stamp.new.draft c.args.dir c.args.name.now c.args.entry c.args.time c.from_vec-left.result.items c.put_name.new.room.items c.requires.new c.put_name.ensures.view inside
    (λ h shown can. (answer_at _ _ _ c.in-Is-true.is (c.in_ok-put_name.ensures.put h shown can)).1)
    (λ h shown plain room. let r = answer_at _ _ _ c.in-Is-true.is (c.in_ok-put_name.ensures.linear h shown plain room) in (r.1, r.2))
    there.0 there.1 _ refl (c.in_ok-stamp.ensures.put there.0 there.1) (c.in_ok-stamp.ensures.read there.0 there.1) (c.in_ok-stamp.ensures.behind there.0 there.1)
    (λ h shown. c.in_ok-stamp.ensures.touched h shown) c.args.room.now (length c.args.room.now - c.len.result) room_is (omega (arith, len, few, ap length room_is))
