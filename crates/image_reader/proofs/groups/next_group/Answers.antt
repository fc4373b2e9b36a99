use Rattle.std.proofs.Common.{◌≡◌, ◌∷◌, ◌++◌, ◌<◌, sym, ap, ◌∙◌, subst}
use Rattle.gfs2_layout.specs.Inode.{content_of}
use Rattle.image_model.specs.Claims.{every}
use Rattle.image_model.specs.Groups.{groups_in}
use Rattle.image_reader.specs.Reading.{image_at}
use Rattle.image_reader.proofs.InodeFaults.{lacking, told_at}
use Rattle.image_model.proofs.Listing.{entry_is, unfit_entry, early_entry}
use Rattle.image_reader.proofs.groups.next_group.Goals as goal

pub returns-then-not-fits-clause-damaged : goal.returns-then-not-fits-clause-damaged
returns-then-not-fits-clause-damaged c =
    let im = image_at c.args.image.now in
    let there = c.requires.there in
    let read = entry_is c.args.entry.now c.in-Ok.group (sym c.in-Ok.is ∙ c.read.ensures) in
    let all : groups_in (content_of (every im c.args.by)) ≡ there.0 ++ (c.in-Ok.group ∷ there.1.0) = there.1.1 ∙ ap (λ g. there.0 ++ (g ∷ there.1.0)) (sym read) in
    told_at c.args.image.now _ c.args.by 18 c.damaged.ensures c.requires.inside (unfit_entry im c.args.by c.requires.rindex there.0 there.1.0 c.in-Ok.group all (lacking _ _ c.if-not-fits.true c.fits.ensures))

pub returns-then-group-end-clause-damaged : goal.returns-then-group-end-clause-damaged
returns-then-group-end-clause-damaged c =
    let im = image_at c.args.image.now in
    let there = c.requires.there in
    let read = entry_is c.args.entry.now c.in-Ok.group (sym c.in-Ok.is ∙ c.read.ensures) in
    let all : groups_in (content_of (every im c.args.by)) ≡ there.0 ++ (c.in-Ok.group ∷ there.1.0) = there.1.1 ∙ ap (λ g. there.0 ++ (g ∷ there.1.0)) (sym read) in
    told_at c.args.image.now _ c.args.by 18 c.damaged-then-group-end.ensures c.requires.inside (early_entry im c.args.by c.requires.rindex there.0 there.1.0 c.in-Ok.group all (subst (λ e. c.in-Ok.group.address < e) (sym there.1.2) c.if-group-end.true))
