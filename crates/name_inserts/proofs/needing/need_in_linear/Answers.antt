use Rattle.std.proofs.Common.{◌≡◌, ◌+◌, length, refl, sym, ◌∙◌, subst}
use Rattle.std.proofs.lemmas.Bool.{cond-false, cond-true}
use Rattle.crc_words.specs.Remainder.{crc32_of}
use Rattle.gfs2_layout.specs.Device.{IsBlockSize}
use Rattle.glock_names.proofs.StepLaws.{answer_so}
use Rattle.name_inserts.specs.Need.{first_chain, has_linear_room, most_steps, need_in_linear, need_within}
use Rattle.name_inserts.proofs.Converted.{first_need}
use Rattle.name_inserts.proofs.needing.need_in_linear.Goals as goal

pub returns-then-fits-clause-need : goal.returns-then-fits-clause-need
returns-then-fits-clause-need g c h shown =
    sym (cond-true (has_linear_room h c.args.name.now) _ _ (sym (c.in_ok-fits.ensures.room h c.args.name.now shown refl) ∙ c.if-fits.true))

pub returns-clause-need : goal.returns-clause-need
returns-clause-need g c h shown =
    let full = sym (c.in_ok-fits.ensures.room h c.args.name.now shown refl) ∙ c.if-fits.false in
    answer_so c.need_first.result _ (λ need. need ≡ need_in_linear h c.args.name.now)
    (λ n takes. first_need h (subst IsBlockSize (sym shown.size) c.block_size-size.ensures.view.block_size) c.args.name.now n takes ∙ sym (cond-false (has_linear_room h c.args.name.now) _ (need_within most_steps (length c.args.name.now) (crc32_of c.args.name.now) (first_chain h) + 1) full))
    (c.need_first.ensures.need h shown)
