use Rattle.std.proofs.Common.{◌≡◌, ℕ, Some, None, sym, ap, subst, ◌∙◌}
use Rattle.std.specs.Prelude.{IfSome}
use Rattle.std.specs.Option.{option_map}
use Rattle.dinode_tree.specs.Reading.{IsHeadedWay, block_at}
use Rattle.dinode_tree.specs.declared.locating.Located.{Located}
use Rattle.gfs2_layout.specs.Inode.{Leads}
use Rattle.glock_names.specs.declared.steps.Step.TheVariants.{Is}
use Rattle.image_model.specs.Claims.{every}
use Rattle.image_mount.specs.Searching.{StopsRightly}
use Rattle.image_mount.specs.Kept.{seen_of}
use Rattle.image_mount.proofs.KeptWays.{kept_way}
use Rattle.image_mount.proofs.Places.{found_block, place_within, wrong_hole, journal_format, journal_inode, journal_wanted, above_wanted}
use Rattle.image_mount.proofs.Shown.{shown, damage_told, kept_on, leads_kept, needed_inside}
use Rattle.image_mount.proofs.Steps.{answer_at, needed_at, seen_in, shown_by, lacks_needed}
use Rattle.image_mount.proofs.Stops.{stopped}
use Rattle.image_mount.proofs.journals.block_at.Goals as goal

pub returns-in_err-located-clause-stops : goal.returns-in_err-located-clause-stops
returns-in_err-located-clause-stops c im places read of has low =
    let d = c.args.journal.now.entry.addr in
    stopped im _ _ c.from_residual.ensures.1
    (damage_told im c.args.table.now d c.in_err-located.field-0.0 (journal_inode im c.args.journal.now of) (journal_format im c.args.journal.now of) read
    (c.in_err-located.ensures.damaged (every im d) (shown im c.args.table.now d read)) c.in_err-located.ensures.kept)

pub returns-in-Is-Some-clause-found : goal.returns-in-Is-Some-clause-found
returns-in-Is-Some-clause-found c im read =
    let d = c.args.journal.now.entry.addr in
    let v = seen_of c.args.table.now in
    let is = c.in-Is-Some.is ∙ ap Is c.in-Is-Some.field-0-is in
    let seen = answer_at c.in_ok-located.field-0 (Some c.in-Is-Some.located) (λ o. IfSome o (λ (l : Located). (k : ℕ) × Leads (seen_in v d) l.from k 0 c.args.place l.block)) is (c.in_ok-located.ensures.leads (seen_in v d) (shown_by v d)) in
    record {
      reached = kept_on im c.args.table.now c.in-Is-Some.located.from read (leads_kept c.args.table.now d c.in-Is-Some.located.from seen.0 0 c.args.place c.in-Is-Some.located.block seen.1);
      block = found_block (every im d) c.args.place c.in-Is-Some.located.block
          (answer_at c.in_ok-located.field-0 (Some c.in-Is-Some.located) (λ o. option_map (λ (l : Located). l.block) o ≡ block_at (every im d) c.args.place) is
          (c.in_ok-located.ensures.found (every im d) (shown im c.args.table.now d read)));
      leads = answer_at c.in_ok-located.field-0 (Some c.in-Is-Some.located) (λ o. IfSome o (λ (l : Located). (k : ℕ) × Leads (every im d) l.from k 0 c.args.place l.block)) is
          (c.in_ok-located.ensures.leads (every im d) (shown im c.args.table.now d read));
      headed = answer_at c.in_ok-located.field-0 (Some c.in-Is-Some.located) (λ o. IfSome o (λ (l : Located). IsHeadedWay (every im d) c.args.place)) is (c.in_ok-located.ensures.headed (every im d) (shown im c.args.table.now d read));
    }

pub returns-in-Is-None-clause-stops : goal.returns-in-Is-None-clause-stops
returns-in-Is-None-clause-stops c im places read of has low =
    let d = c.args.journal.now.entry.addr in
    let is = c.in-Is-None.is ∙ ap Is c.in-Is-None.field-0-is in
    wrong_hole im c.args.journal.now _ places c.args.place of c.damaged.ensures has low
    (answer_at c.in_ok-located.field-0 None (λ o. option_map (λ (l : Located). l.block) o ≡ block_at (every im d) c.args.place) is (c.in_ok-located.ensures.found (every im d) (shown im c.args.table.now d read)))

pub returns-in-NeedBlock-clause-stops : goal.returns-in-NeedBlock-clause-stops
returns-in-NeedBlock-clause-stops c im places read of has low = journal_wanted im c.args.journal.now of

pub returns-in-NeedBlock-clause-lacks : goal.returns-in-NeedBlock-clause-lacks
returns-in-NeedBlock-clause-lacks c =
    let v = seen_of c.args.table.now in
    let d = c.args.journal.now.entry.addr in
    let needed = needed_at c.in_ok-located.field-0 c.in-NeedBlock.missing _ c.in-NeedBlock.is (c.in_ok-located.ensures.needed (seen_in v d) (shown_by v d)) in
    ap v.block_at (sym c.if-missing-journal.true) ∙ needed.absent

pub returns-in-NeedBlock-2-clause-stops : goal.returns-in-NeedBlock-2-clause-stops
returns-in-NeedBlock-2-clause-stops c im places read of has low =
    let v = seen_of c.args.table.now in
    let d = c.args.journal.now.entry.addr in
    let needed = needed_at c.in_ok-located.field-0 c.in-NeedBlock.missing _ c.in-NeedBlock.is (c.in_ok-located.ensures.needed (seen_in v d) (shown_by v d)) in
    subst (StopsRightly im) (sym c.reads.ensures)
    (above_wanted im c.args.journal.now v c.args.place c.in-NeedBlock.missing of
    (needed_at c.in_ok-located.field-0 c.in-NeedBlock.missing _ c.in-NeedBlock.is (c.in_ok-located.ensures.needed (every im d) (shown im c.args.table.now d read))) (needed_inside im c.args.table.now d _ 1 c.in-NeedBlock.missing read needed c.if-missing-journal.false) c.if-missing-journal.false (place_within im d places c.args.place has low))

pub returns-in-NeedBlock-2-clause-lacks : goal.returns-in-NeedBlock-2-clause-lacks
returns-in-NeedBlock-2-clause-lacks c =
    let v = seen_of c.args.table.now in
    let d = c.args.journal.now.entry.addr in
    lacks_needed c.args.table.now (seen_in v d) _ 1 c.in-NeedBlock.missing _ c.reads.ensures
    (needed_at c.in_ok-located.field-0 c.in-NeedBlock.missing _ c.in-NeedBlock.is (c.in_ok-located.ensures.needed (seen_in v d) (shown_by v d)))

pub returns-in-Is-Some-clause-ways : goal.returns-in-Is-Some-clause-ways
returns-in-Is-Some-clause-ways c im read kept =
    let d = c.args.journal.now.entry.addr in
    let v = seen_of c.args.table.now in
    let is = c.in-Is-Some.is ∙ ap Is c.in-Is-Some.field-0-is in
    kept_way im c.args.table.now d read c.args.place kept
    (answer_at c.in_ok-located.field-0 (Some c.in-Is-Some.located) (λ o. IfSome o (λ (l : Located). IsHeadedWay (seen_in v d) c.args.place)) is (c.in_ok-located.ensures.headed (seen_in v d) (shown_by v d)))
