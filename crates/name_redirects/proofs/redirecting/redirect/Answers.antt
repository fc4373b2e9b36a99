use Rattle.std.proofs.Common.{◌≤◌, ◌<◌, ℕ, inl, inr, arith, length, subst, sym}
use Rattle.std.proofs.lemmas.List.Elements.{All-from_get_or}
use Rattle.drafts.specs.Fates.{seen_in}
use Rattle.gfs2_layout.specs.Holding.{Holding}
use Rattle.glock_names.proofs.StepLaws.{answer_at, needed_at}
use Rattle.glock_names.specs.Steps.{TellsOf}
use Rattle.linear_dirs.proofs.Looked.{handed}
use Rattle.resource_groups.specs.Putting.{HasDataBlock}
use Rattle.directories.specs.Shown.{IsBroken, IsShown}
use Rattle.directories.proofs.Forms.{is_directory_here, tells_as}
use Rattle.name_redirects.specs.Redirects.{IsNameLed}
use Rattle.name_redirects.proofs.Places.{named_in_block, starts_at, unfilled_breaks}
use Rattle.name_redirects.proofs.Redirected.{has_exchanged, sees_put}
use Rattle.name_redirects.proofs.redirecting.redirect.Goals as goal

pub returns-in-NeedBlock-2-clause-needed : goal.returns-in-NeedBlock-2-clause-needed
returns-in-NeedBlock-2-clause-needed g c h shown = needed_at _ _ _ c.in-NeedBlock-2.is (c.in_ok-block.ensures.needed h shown)

pub lead-requires-clause-named : goal.lead-requires-clause-named
lead-requires-clause-named g c bytes at =
    let v = seen_in g.V.View.seen c.args.draft.now in
    let there = answer_at _ _ _ c.in-Is.is c.in_ok-dinode.ensures.there in
    let lies : HasDataBlock v c.in-Is-2.block = elim (answer_at _ _ _ c.in-Is-2.is c.in_ok-block.ensures.inside) [ inl own ↦ subst (HasDataBlock v) (sym own) c.requires.inside | inr lies ↦ lies ] in
    named_in_block v c.block_size-size.ensures.view c.args.dir c.in-Is-2.block c.args.name.now lies c.in-Is.dinode c.records_start.result c.requires.named
    (λ h shown. answer_at _ _ _ c.in-Is.is (c.in_ok-dinode.ensures.found h shown.inode)) (λ h shown. is_directory_here v c.args.dir h c.requires.directory there shown.inode) c.records_start.ensures
    (λ h shown. answer_at _ _ _ c.in-Is-2.is (c.in_ok-block.ensures.from h shown)) bytes at

pub returns-in_err-lead-clause-damaged : goal.returns-in_err-lead-clause-damaged
returns-in_err-lead-clause-damaged g c h shown =
    let v = seen_in g.V.View.seen c.args.draft.now in
    let there = answer_at _ _ _ c.in-Is.is c.in_ok-dinode.ensures.there in
    let old = answer_at _ _ _ c.in-Is-2.is c.in_ok-block.ensures.there in
    let lies : HasDataBlock v c.in-Is-2.block = elim (answer_at _ _ _ c.in-Is-2.is c.in_ok-block.ensures.inside) [ inl own ↦ subst (HasDataBlock v) (sym own) c.requires.inside | inr lies ↦ lies ] in
    handed c.from_residual-in_err-lead.result _ (TellsOf (IsBroken v h)) c.from_residual-in_err-lead.ensures.1
    (tells_as _ (IsBroken v h) c.in_err-lead.field-0.0
    (unfilled_breaks v c.block_size-size.ensures.view c.args.dir c.in-Is-2.block c.args.name.now lies c.in-Is.dinode c.records_start.result c.requires.named
    (λ k seen. answer_at _ _ _ c.in-Is.is (c.in_ok-dinode.ensures.found k seen.inode)) (λ k seen. is_directory_here v c.args.dir k c.requires.directory there seen.inode) c.records_start.ensures
    (λ k seen. answer_at _ _ _ c.in-Is-2.is (c.in_ok-block.ensures.from k seen)) h old.0 shown old.1) (c.in_err-lead.ensures.unfilled old.0 old.1))

pub returns-clause-led : goal.returns-clause-led
returns-clause-led g c =
    let v = seen_in g.V.View.seen c.args.draft.now in
    let there = answer_at _ _ _ c.in-Is.is c.in_ok-dinode.ensures.there in
    let old = answer_at _ _ _ c.in-Is-2.is c.in_ok-block.ensures.there in
    let lies : HasDataBlock v c.in-Is-2.block = elim (answer_at _ _ _ c.in-Is-2.is c.in_ok-block.ensures.inside) [ inl own ↦ subst (HasDataBlock v) (sym own) c.requires.inside | inr lies ↦ lies ] in
    let made = c.in_ok-lead.ensures.led old.0 old.1 in
    let directory = λ (h : Holding) (shown : IsShown v c.args.dir h). is_directory_here v c.args.dir h c.requires.directory there shown.inode in
    let start = λ (h : Holding) (shown : IsShown v c.args.dir h). starts_at h c.in-Is.dinode c.records_start.result (answer_at _ _ _ c.in-Is.is (c.in_ok-dinode.ensures.found h shown.inode)) (directory h shown) c.records_start.ensures in
    let led = λ (h : Holding) (shown : IsShown v c.args.dir h). subst (λ (n : ℕ). IsNameLed n old.0 made.0 c.args.name.now c.args.inum.now) (start h shown) made.1.0 in
    let large : 512 ≤ length old.0 = omega (arith, c.block_size-size.ensures.view.whole c.in-Is-2.block old.0 old.1, c.block_size-size.ensures.view.block_size) in
    let small = c.checksums_have_32_bits.ensures c.args.name.now (All-from_get_or (λ byte. byte < 256) c.args.name.now 0 (λ i inside. (c.type_inv.name i).fits)) in
    record {
      from = λ h shown. answer_at _ _ _ c.in-Is-2.is (c.in_ok-block.ensures.from h shown);
      old = old.0;
      was = old.1;
      new = made.0;
      is = sees_put g.V.View.seen c.args.draft.now c.lead.new.draft c.args.dir c.in-Is-2.block made.0 made.1.1;
      led = led;
      exchanged = λ h r shown sound named. has_exchanged g.V.View.seen c.args.draft.now c.lead.new.draft c.args.dir c.in-Is-2.block c.args.name.now old.0 made.0 c.args.inum.now c.block_size-size.ensures.view lies old.1 large made.1.1 c.requires.number c.requires.address
          c.chains_tell_names.ensures small h r shown (directory h shown) sound named (led h shown) (answer_at _ _ _ c.in-Is-2.is (c.in_ok-block.ensures.from h shown));
    }
