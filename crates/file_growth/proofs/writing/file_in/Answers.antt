use Rattle.std.proofs.Common.{◌≡◌, ap, sym, ◌∙◌, arith}
use Rattle.gfs2_layout.specs.Inode.{Fits, dinode_in}
use Rattle.gfs2_layout.specs.declared.dinode.Dinode.{Dinode}
use Rattle.glock_names.proofs.StepLaws.{answer_at}
use Rattle.dinode_tree.proofs.Sound.{some_is_shown}
use Rattle.file_heights.proofs.Seeing.{no_damage}
use Rattle.file_growth.proofs.writing.file_in.Goals as goal

pub returns-then-is_regular-clause-low : goal.returns-then-is_regular-clause-low
returns-then-is_regular-clause-low g c =
    let any = some_is_shown (g.V.View.seen c.args.view.now) c.args.inode in
    let d_is = answer_at c.in-Ok-Is.field-0 c.in-Ok-Is.dinode (λ d. d ≡ dinode_in any.0) c.in-Ok-Is.field-0-is (c.in-Ok-Is.ensures.found any.0 any.1.0) in
    let fits = answer_at c.in-Ok-Is.field-0 c.in-Ok-Is.dinode (λ d. Fits any.0) c.in-Ok-Is.field-0-is (c.in-Ok-Is.ensures.fits any.0 any.1.0) in
    omega (arith, fits.low, ap (λ (d : Dinode). d.height) d_is)

pub returns-then-is_regular-clause-stuffed : goal.returns-then-is_regular-clause-stuffed
returns-then-is_regular-clause-stuffed g c none =
    let any = some_is_shown (g.V.View.seen c.args.view.now) c.args.inode in
    let d_is = answer_at c.in-Ok-Is.field-0 c.in-Ok-Is.dinode (λ d. d ≡ dinode_in any.0) c.in-Ok-Is.field-0-is (c.in-Ok-Is.ensures.found any.0 any.1.0) in
    let fits = answer_at c.in-Ok-Is.field-0 c.in-Ok-Is.dinode (λ d. Fits any.0) c.in-Ok-Is.field-0-is (c.in-Ok-Is.ensures.fits any.0 any.1.0) in
    omega (arith, fits.stuffed (sym (ap (λ (d : Dinode). d.height) d_is) ∙ none), ap (λ (d : Dinode). d.size) d_is, any.1.0.size)

pub returns-in-Err-clause-found : goal.returns-in-Err-clause-found
returns-in-Err-clause-found g c h file shown there = no_damage h c.in-Err.field-0 file (c.in-Err.ensures.damaged h shown)
