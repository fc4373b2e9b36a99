use Rattle.std.proofs.Common.{◌≡◌, ◌^◌, ◌<◌, true≢false, sym, ◌∙◌, subst}
use Rattle.std.proofs.lemmas.Bool.{cond-false, cond-true}
use Rattle.gfs2_layout.specs.Inode.{is_hashed_in}
use Rattle.glock_names.specs.Steps.{TellsOf}
use Rattle.glock_names.specs.Views.{HasBlock}
use Rattle.glock_names.proofs.StepLaws.{answer_at, answer_so}
use Rattle.dinode_tree.specs.Broken as rules
use Rattle.dinode_tree.proofs.Sound.{some_is_shown}
use Rattle.linear_dirs.specs.Broken as linear
use Rattle.linear_dirs.proofs.Looked.{handed}
use Rattle.directories.specs.Shown as directory
use Rattle.directories.proofs.Forms.{damaged_as, fault_as, hashed_here, is_directory_here, linear_here, linear_in, only_tells}
use Rattle.hash_inserts.specs.Needing.{SeesToInsert}
use Rattle.name_inserts.specs.Inserting.{SeesForName}
use Rattle.name_inserts.specs.Inserting as name
use Rattle.name_inserts.specs.Need.{name_need}
use Rattle.name_inserts.proofs.needing.need_name.Goals as goal

pub returns-in_err-dinode-clause-damaged : goal.returns-in_err-dinode-clause-damaged
returns-in_err-dinode-clause-damaged g c h shown =
    let v = g.V.View.seen c.args.view.now in
    handed c.from_residual.result _ (TellsOf (name.IsWrongForName v h)) c.from_residual.ensures.1
    (only_tells (name.IsWrongForName v h) c.in_err-dinode.field-0.0
    (fault_as (rules.IsBroken h) (name.IsWrongForName v h) c.in_err-dinode.field-0.0 (λ rule b broken. name.of_directory (directory.IsBroken.of_inode broken)) (c.in_err-dinode.ensures.damaged h shown.inode)))

pub returns-then-is_hashed-clause-need : goal.returns-then-is_hashed-clause-need
returns-then-is_hashed-clause-need g c h shown sound is =
    let hashed = hashed_here h c.in-Is.dinode (answer_at _ _ _ c.in-Is.is (c.in_ok-dinode.ensures.found h shown.inode)) is (sym c.is_hashed.ensures ∙ c.if-is_hashed.true) in
    answer_so c.need_in_hashed.result _ (λ need. need ≡ name_need h c.args.name.now) (λ n e. e ∙ sym (cond-true (is_hashed_in h) _ _ hashed)) (c.need_in_hashed.ensures.need h shown hashed sound)

pub returns-then-is_hashed-clause-linear : goal.returns-then-is_hashed-clause-linear
returns-then-is_hashed-clause-linear g c h shown plain =
    let v = g.V.View.seen c.args.view.now in
    let is = is_directory_here v c.args.dir h c.requires.directory (answer_at _ _ _ c.in-Is.is c.in_ok-dinode.ensures.there) shown.inode in
    let hashed = hashed_here h c.in-Is.dinode (answer_at _ _ _ c.in-Is.is (c.in_ok-dinode.ensures.found h shown.inode)) is (sym c.is_hashed.ensures ∙ c.if-is_hashed.true) in
    absurd (true≢false (sym hashed ∙ plain))

pub returns-then-is_hashed-clause-seen : goal.returns-then-is_hashed-clause-seen
returns-then-is_hashed-clause-seen g c h shown =
    let v = g.V.View.seen c.args.view.now in
    let is = is_directory_here v c.args.dir h c.requires.directory (answer_at _ _ _ c.in-Is.is c.in_ok-dinode.ensures.there) shown.inode in
    let hashed = hashed_here h c.in-Is.dinode (answer_at _ _ _ c.in-Is.is (c.in_ok-dinode.ensures.found h shown.inode)) is (sym c.is_hashed.ensures ∙ c.if-is_hashed.true) in
    answer_so c.need_in_hashed.result (λ need. SeesToInsert v h c.args.name.now) (λ need. SeesForName v h c.args.name.now)
    (λ need sees. record { dinode = sees.own; in_hashed = λ is_so. sees }) (c.need_in_hashed.ensures.seen h shown hashed)

pub returns-then-is_hashed-clause-needed : goal.returns-then-is_hashed-clause-needed
returns-then-is_hashed-clause-needed g c h shown =
    let v = g.V.View.seen c.args.view.now in
    let is = is_directory_here v c.args.dir h c.requires.directory (answer_at _ _ _ c.in-Is.is c.in_ok-dinode.ensures.there) shown.inode in
    c.need_in_hashed.ensures.needed h shown (hashed_here h c.in-Is.dinode (answer_at _ _ _ c.in-Is.is (c.in_ok-dinode.ensures.found h shown.inode)) is (sym c.is_hashed.ensures ∙ c.if-is_hashed.true))

pub returns-then-is_hashed-clause-damaged : goal.returns-then-is_hashed-clause-damaged
returns-then-is_hashed-clause-damaged g c h shown =
    let v = g.V.View.seen c.args.view.now in
    let is = is_directory_here v c.args.dir h c.requires.directory (answer_at _ _ _ c.in-Is.is c.in_ok-dinode.ensures.there) shown.inode in
    c.need_in_hashed.ensures.damaged h shown (hashed_here h c.in-Is.dinode (answer_at _ _ _ c.in-Is.is (c.in_ok-dinode.ensures.found h shown.inode)) is (sym c.is_hashed.ensures ∙ c.if-is_hashed.true))

pub need_in_linear-requires-clause-linear : goal.need_in_linear-requires-clause-linear
need_in_linear-requires-clause-linear g c =
    linear_in (g.V.View.seen c.args.view.now) c.args.dir c.in-Is.dinode c.requires.directory (λ h shown. answer_at _ _ _ c.in-Is.is (c.in_ok-dinode.ensures.found h shown))
    (let s = some_is_shown (g.V.View.seen c.args.view.now) c.args.dir in (s.0, s.1.0)) (sym c.is_hashed.ensures ∙ c.if-is_hashed.false)

pub returns-clause-need : goal.returns-clause-need
returns-clause-need g c h shown sound is =
    let plain = linear_here h c.in-Is.dinode (answer_at _ _ _ c.in-Is.is (c.in_ok-dinode.ensures.found h shown.inode)) (sym c.is_hashed.ensures ∙ c.if-is_hashed.false) in
    answer_so c.need_in_linear.result _ (λ need. need ≡ name_need h c.args.name.now) (λ n e. e ∙ sym (cond-false (is_hashed_in h) _ _ plain)) (c.need_in_linear.ensures.need h shown.inode)

pub returns-clause-hashed : goal.returns-clause-hashed
returns-clause-hashed g c h shown hashed =
    let plain = linear_here h c.in-Is.dinode (answer_at _ _ _ c.in-Is.is (c.in_ok-dinode.ensures.found h shown.inode)) (sym c.is_hashed.ensures ∙ c.if-is_hashed.false) in
    absurd (true≢false (sym hashed ∙ plain))

pub returns-clause-seen : goal.returns-clause-seen
returns-clause-seen g c h shown =
    let v = g.V.View.seen c.args.view.now in
    let plain = linear_here h c.in-Is.dinode (answer_at _ _ _ c.in-Is.is (c.in_ok-dinode.ensures.found h shown.inode)) (sym c.is_hashed.ensures ∙ c.if-is_hashed.false) in
    let there : HasBlock v c.args.dir = answer_at _ _ _ c.in-Is.is c.in_ok-dinode.ensures.there in
    answer_so c.need_in_linear.result (λ need. need < 2 ^ 42) (λ need. SeesForName v h c.args.name.now)
    (λ need most. record { dinode = subst (HasBlock v) (sym shown.inode.own) there; in_hashed = λ hashed. absurd (true≢false (sym hashed ∙ plain)) }) c.need_in_linear.ensures.most

pub returns-clause-damaged : goal.returns-clause-damaged
returns-clause-damaged g c h shown =
    let v = g.V.View.seen c.args.view.now in
    let is = is_directory_here v c.args.dir h c.requires.directory (answer_at _ _ _ c.in-Is.is c.in_ok-dinode.ensures.there) shown.inode in
    let plain = linear_here h c.in-Is.dinode (answer_at _ _ _ c.in-Is.is (c.in_ok-dinode.ensures.found h shown.inode)) (sym c.is_hashed.ensures ∙ c.if-is_hashed.false) in
    damaged_as (linear.IsBroken h) (name.IsWrongForName v h) c.need_in_linear.result (λ rule b broken. name.of_directory (directory.IsBroken.in_linear is plain broken)) (c.need_in_linear.ensures.damaged h shown.inode)
