use Rattle.std.proofs.Common.{◌≡◌, ◌<◌, ◌≤◌, inl, inr, true≢false, true, false, [], length, refl, sym, ap, ◌∙◌, subst}
use Rattle.std.proofs.lemmas.Bool.{cases_eq}
use Rattle.std.specs.Cmp.{nat_cmp_total}
use Rattle.std.specs.FinMap.{get, nat_cmp-IsAntisymmetric}
use Rattle.finite_maps.proofs.Keys.{inserted_apart, inserted_at}
use Rattle.drafts.specs.declared.fate.Fate.TheVariants.{Put}
use Rattle.gfs2_layout.specs.Holding.{Holding}
use Rattle.dinode_tree.specs.Reading.{inode_lock}
use Rattle.dinode_tree.specs.Shown as inode
use Rattle.hash_inserts.specs.Inserting.{the_dinode}
use Rattle.std.proofs.lemmas.List.Elements.{All-from_get_or}
use Rattle.drafts.specs.Fates.{Drafted, seen_in}
use Rattle.glock_names.specs.Steps.{IfIs, TellsOf}
use Rattle.glock_names.proofs.StepLaws.{answer_at, answer_so}
use Rattle.dinode_tree.proofs.Sound.{some_is_shown}
use Rattle.linear_dirs.specs.Broken as linear
use Rattle.resource_groups.specs.Putting.{HasDataBlock}
use Rattle.linear_dirs.proofs.Looked.{handed}
use Rattle.directories.specs.Shown as directory
use Rattle.directories.proofs.Forms.{damaged_as, hashed_here, is_directory_here, linear_here, linear_in, tells_as}
use Rattle.name_inserts.specs.Inserting as name
use Rattle.name_inserts.specs.Inserting.{PutsName}
use Rattle.name_inserts.proofs.Linear.{IsPutSo, after, put_in_linear, puts_linear, shown_after}
use Rattle.name_inserts.specs.Need.{need_in_hashed}
use Rattle.name_inserts.proofs.Needed.{takes_need}
use Rattle.name_inserts.proofs.Puts.{need_hashed, puts_hashed}
use Rattle.name_inserts.proofs.putting.put_name.Goals as goal

pub returns-then-is_hashed-clause-put : goal.returns-then-is_hashed-clause-put
returns-then-is_hashed-clause-put g c h shown can =
    let name = c.args.name.now in
    let room = c.args.room.now.items in
    let small = c.checksums_have_32_bits.ensures name (All-from_get_or (λ byte. byte < 256) name 0 (λ i inside. (c.type_inv.name i).fits)) in
    let hashed = hashed_here h c.in-Is.dinode (answer_at _ _ _ c.in-Is.is (c.in_ok-dinode.ensures.found h shown.inode)) can.directory (sym c.is_hashed.ensures ∙ c.if-is_hashed.true) in
    answer_so c.put_in_hashed.result _ _
    (λ done made. (made.0, (made.1.0, made.1.1, puts_hashed c.args.draft.now.fates c.put_in_hashed.new.draft.fates room c.put_in_hashed.new.room.items (need_in_hashed h name) name c.args.entry h made.1.0 hashed refl made.1.2)))
    (c.put_in_hashed.ensures.put h shown hashed can.sound can.counts can.few can.absent can.free (need_in_hashed h name) (takes_need h name can.sound hashed small) (subst (λ n. n ≤ length room) (need_hashed h name hashed) can.enough))

pub returns-then-is_hashed-clause-linear : goal.returns-then-is_hashed-clause-linear
returns-then-is_hashed-clause-linear g c h shown plain fits =
    let v = seen_in g.V.View.seen c.args.draft.now in
    let is = is_directory_here v c.args.dir h c.requires.directory (answer_at _ _ _ c.in-Is.is c.in_ok-dinode.ensures.there) shown.inode in
    let hashed = hashed_here h c.in-Is.dinode (answer_at _ _ _ c.in-Is.is (c.in_ok-dinode.ensures.found h shown.inode)) is (sym c.is_hashed.ensures ∙ c.if-is_hashed.true) in
    absurd (true≢false (sym hashed ∙ plain))

pub returns-then-is_hashed-clause-needed : goal.returns-then-is_hashed-clause-needed
returns-then-is_hashed-clause-needed g c h shown =
    let v = seen_in g.V.View.seen c.args.draft.now in
    let is = is_directory_here v c.args.dir h c.requires.directory (answer_at _ _ _ c.in-Is.is c.in_ok-dinode.ensures.there) shown.inode in
    c.put_in_hashed.ensures.needed h shown (hashed_here h c.in-Is.dinode (answer_at _ _ _ c.in-Is.is (c.in_ok-dinode.ensures.found h shown.inode)) is (sym c.is_hashed.ensures ∙ c.if-is_hashed.true))

pub returns-then-is_hashed-clause-damaged : goal.returns-then-is_hashed-clause-damaged
returns-then-is_hashed-clause-damaged g c h shown =
    let v = seen_in g.V.View.seen c.args.draft.now in
    let is = is_directory_here v c.args.dir h c.requires.directory (answer_at _ _ _ c.in-Is.is c.in_ok-dinode.ensures.there) shown.inode in
    c.put_in_hashed.ensures.damaged h shown (hashed_here h c.in-Is.dinode (answer_at _ _ _ c.in-Is.is (c.in_ok-dinode.ensures.found h shown.inode)) is (sym c.is_hashed.ensures ∙ c.if-is_hashed.true))

pub insert-requires-clause-linear : goal.insert-requires-clause-linear
insert-requires-clause-linear g c =
    linear_in (seen_in g.V.View.seen c.args.draft.now) c.args.dir c.in-Is.dinode c.requires.directory (λ h shown. answer_at _ _ _ c.in-Is.is (c.in_ok-dinode.ensures.found h shown))
    (let s = some_is_shown (seen_in g.V.View.seen c.args.draft.now) c.args.dir in (s.0, s.1.0)) (sym c.is_hashed.ensures ∙ c.if-is_hashed.false)

pub returns-in_err-insert-clause-damaged : goal.returns-in_err-insert-clause-damaged
returns-in_err-insert-clause-damaged g c h shown =
    let v = seen_in g.V.View.seen c.args.draft.now in
    let is = is_directory_here v c.args.dir h c.requires.directory (answer_at _ _ _ c.in-Is.is c.in_ok-dinode.ensures.there) shown.inode in
    let plain = linear_here h c.in-Is.dinode (answer_at _ _ _ c.in-Is.is (c.in_ok-dinode.ensures.found h shown.inode)) (sym c.is_hashed.ensures ∙ c.if-is_hashed.false) in
    handed c.from_residual-in_err-insert.result _ (TellsOf (name.IsWrongForName v h)) c.from_residual-in_err-insert.ensures.1
    (tells_as (linear.IsBroken h) (name.IsWrongForName v h) c.in_err-insert.field-0.0 (λ rule b broken. name.of_directory (directory.IsBroken.in_linear is plain broken)) (c.in_err-insert.ensures.damaged h shown.inode))

pub returns-in-Is-true-clause-put : goal.returns-in-Is-true-clause-put
returns-in-Is-true-clause-put g c h shown can =
    let seen = g.V.View.seen in
    let plain = linear_here h c.in-Is.dinode (answer_at _ _ _ c.in-Is.is (c.in_ok-dinode.ensures.found h shown.inode)) (sym c.is_hashed.ensures ∙ c.if-is_hashed.false) in
    let fits = sym (answer_at _ _ _ c.in-Is-true.is (c.in_ok-insert.ensures.room h shown.inode)) ∙ c.in-Is-true.field-0-test in
    let one = answer_at _ _ _ c.in-Is-true.is c.in_ok-insert.ensures.one c.in-Is-true.field-0-test in
    let put : IsPutSo seen c.args.draft.now c.insert.new.draft c.args.dir h c.args.name.now c.args.entry one.0 = record {
      put = one.1;
      exchanged = answer_at _ _ _ c.in-Is-true.is (c.in_ok-insert.ensures.put h shown.inode) c.in-Is-true.field-0-test;
      slots = answer_at _ _ _ c.in-Is-true.is (c.in_ok-insert.ensures.slots h shown.inode) c.in-Is-true.field-0-test;
      dinode = answer_at _ _ _ c.in-Is-true.is (c.in_ok-insert.ensures.dinode h shown.inode) c.in-Is-true.field-0-test;
      laid = answer_at _ _ _ c.in-Is-true.is (c.in_ok-insert.ensures.laid h shown.inode) c.in-Is-true.field-0-test;
    } in (
      refl,
      (
        after seen c.args.draft.now c.insert.new.draft c.args.dir h c.args.name.now c.args.entry one.0 shown.inode put,
        shown_after seen c.args.draft.now c.insert.new.draft c.args.dir h c.args.name.now c.args.entry one.0 shown.inode put can.sound plain,
        puts_linear seen c.args.draft.now c.insert.new.draft c.args.dir h c.args.name.now c.args.entry one.0 shown.inode put c.args.room.now.items can plain fits,
      ),
    )

pub returns-in-Is-true-clause-linear : goal.returns-in-Is-true-clause-linear
returns-in-Is-true-clause-linear g c h shown plain fits =
    let seen = g.V.View.seen in
    let one = answer_at _ _ _ c.in-Is-true.is c.in_ok-insert.ensures.one c.in-Is-true.field-0-test in
    let put : IsPutSo seen c.args.draft.now c.insert.new.draft c.args.dir h c.args.name.now c.args.entry one.0 = record {
      put = one.1;
      exchanged = answer_at _ _ _ c.in-Is-true.is (c.in_ok-insert.ensures.put h shown.inode) c.in-Is-true.field-0-test;
      slots = answer_at _ _ _ c.in-Is-true.is (c.in_ok-insert.ensures.slots h shown.inode) c.in-Is-true.field-0-test;
      dinode = answer_at _ _ _ c.in-Is-true.is (c.in_ok-insert.ensures.dinode h shown.inode) c.in-Is-true.field-0-test;
      laid = answer_at _ _ _ c.in-Is-true.is (c.in_ok-insert.ensures.laid h shown.inode) c.in-Is-true.field-0-test;
    } in
    (refl, refl, put_in_linear seen c.args.draft.now c.insert.new.draft c.args.dir h c.args.name.now c.args.entry one.0 shown.inode put)

pub returns-in-Is-true-clause-inside : goal.returns-in-Is-true-clause-inside
returns-in-Is-true-clause-inside g c done =
    let one = answer_at _ _ _ c.in-Is-true.is c.in_ok-insert.ensures.one c.in-Is-true.field-0-test in
    record {
      taken = [];
      front = refl;
      changes = λ b. elim (cases_eq b c.args.dir) [
        | inl own ↦ inr (
          the_dinode own,
          (one.0, ap (get c.insert.new.draft.fates) own ∙ ap (λ (d : Drafted _). get d.fates c.args.dir) one.1 ∙ inserted_at nat_cmp_total nat_cmp-IsAntisymmetric c.args.draft.now.fates c.args.dir (Put (inode_lock c.args.dir) false one.0)),
        )
        | inr other ↦ inl (ap (λ (d : Drafted _). get d.fates b) one.1 ∙ inserted_apart nat_cmp_total nat_cmp-IsAntisymmetric c.args.draft.now.fates c.args.dir (Put (inode_lock c.args.dir) false one.0) b other)
      ];
    }

pub put_converted-requires-clause-room : goal.put_converted-requires-clause-room
put_converted-requires-clause-room g c b has =
    let same : c.insert.new.draft ≡ c.args.draft.now = answer_at _ _ _ c.in-Is-false.is c.in_ok-insert.ensures.full c.in-Is-false.field-0-test in
    subst (λ (d : Drafted _). HasDataBlock (seen_in g.V.View.seen d) b) (sym same) (c.requires.room b has)

pub returns-in-Is-false-clause-put : goal.returns-in-Is-false-clause-put
returns-in-Is-false-clause-put g c h shown can =
    let seen = g.V.View.seen in
    let dir = c.args.dir in
    let same : c.insert.new.draft ≡ c.args.draft.now = answer_at _ _ _ c.in-Is-false.is c.in_ok-insert.ensures.full c.in-Is-false.field-0-test in
    let plain = linear_here h c.in-Is.dinode (answer_at _ _ _ c.in-Is.is (c.in_ok-dinode.ensures.found h shown.inode)) (sym c.is_hashed.ensures ∙ c.if-is_hashed.false) in
    let full = sym (answer_at _ _ _ c.in-Is-false.is (c.in_ok-insert.ensures.room h shown.inode)) ∙ c.in-Is-false.field-0-test in
    subst (λ (d : Drafted _). IfIs c.put_converted.result (λ done. (done ≡ true) × ((k : Holding) × directory.IsShown (seen_in seen c.put_converted.new.draft) dir k × PutsName d.fates c.put_converted.new.draft.fates c.args.room.now.items c.put_converted.new.room.items c.args.name.now c.args.entry h k))) same
    (c.put_converted.ensures.put h (subst (λ d. inode.IsShown (seen_in seen d) dir h) (sym same) shown.inode) plain full can)

pub returns-in-Is-false-clause-damaged : goal.returns-in-Is-false-clause-damaged
returns-in-Is-false-clause-damaged g c h shown =
    let seen = g.V.View.seen in
    let dir = c.args.dir in
    let v = seen_in seen c.args.draft.now in
    let same : c.insert.new.draft ≡ c.args.draft.now = answer_at _ _ _ c.in-Is-false.is c.in_ok-insert.ensures.full c.in-Is-false.field-0-test in
    let is = is_directory_here v dir h c.requires.directory (answer_at _ _ _ c.in-Is.is c.in_ok-dinode.ensures.there) shown.inode in
    let plain = linear_here h c.in-Is.dinode (answer_at _ _ _ c.in-Is.is (c.in_ok-dinode.ensures.found h shown.inode)) (sym c.is_hashed.ensures ∙ c.if-is_hashed.false) in
    damaged_as (linear.IsBroken h) (name.IsWrongForName v h) c.put_converted.result (λ rule b broken. name.of_directory (directory.IsBroken.in_linear is plain broken))
    (c.put_converted.ensures.damaged h (subst (λ d. inode.IsShown (seen_in seen d) dir h) (sym same) shown.inode))
