use Rattle.std.proofs.Common.{ℕ, ◌<◌, sym, subst}
use Rattle.std.specs.Prelude.{is_some}
use Rattle.image_reader.proofs.Going.{ok_hold}
use Rattle.image_reader.proofs.TopClaims.{top_entire, top_only, top_owned, top_untouched}
use Rattle.image_model.specs.Claims.{Claims}
use Rattle.image_reader.specs.Reading.{image_at}
use Rattle.image_reader.specs.Owning.{owner_of}
use Rattle.image_reader.proofs.Leaves.{claim_entered}
use Rattle.image_reader.proofs.Tops.{top_block}
use Rattle.image_reader.proofs.WalkFaults.{beyond, placed_top}
use Rattle.image_reader.proofs.walk.Walk.top.Goals as goal

pub claim-requires-clause-placed : goal.claim-requires-clause-placed
claim-requires-clause-placed c = placed_top (image_at c.args.self.now.image) c.args.number (owner_of c.args.claim) c.requires.top

pub of_top-requires : goal.of_top-requires
of_top-requires c =
    top_block c.args.self.now.image c.in-Some.block _ c.args.number (owner_of c.args.claim) c.in-Some.ensures.some.1 c.in-Some.ensures.some.0 c.requires.claimed c.requires.top

pub returns-in_default-clause-damaged : goal.returns-in_default-clause-damaged
returns-in_default-clause-damaged c =
    let P : ℕ → Type 0 = λ n. Claims (image_at c.args.self.now.image) n c.args.number (owner_of c.args.claim) in
    beyond c.args.self.now _ c.superblock_place-by.result c.args.number (owner_of c.args.claim) c.damaged.ensures (subst (λ n. n < c.args.self.now.image.count) (sym c.superblock_place-by.ensures) c.requires.there) (subst P (sym c.superblock_place-by.ensures) c.requires.claimed) c.in_default.ensures.none

pub returns-in-Ok-clause-owned : goal.returns-in-Ok-clause-owned
returns-in-Ok-clause-owned c = ok_hold c.of_top.result _ (top_owned c.args.number c.args.self.now.owners.entries.items c.claim.new.self.owners.entries.items c.args.claim c.requires.top c.requires.owned c.requires.unclaimed (is_some c.in-Ok.field-0) c.in-Ok.ensures.entered)

pub returns-in-Ok-clause-untouched : goal.returns-in-Ok-clause-untouched
returns-in-Ok-clause-untouched c = ok_hold c.of_top.result _ (top_untouched c.args.number c.args.self.now.owners.entries.items c.claim.new.self.owners.entries.items c.args.claim c.requires.top c.requires.owned c.requires.unclaimed (is_some c.in-Ok.field-0) c.in-Ok.ensures.entered)

pub returns-in-Ok-clause-claims : goal.returns-in-Ok-clause-claims
returns-in-Ok-clause-claims c = ok_hold c.of_top.result _ (top_only c.args.number c.args.self.now.owners.entries.items c.claim.new.self.owners.entries.items c.args.claim (is_some c.in-Ok.field-0) c.in-Ok.ensures.entered)

pub returns-in-Ok-clause-entered : goal.returns-in-Ok-clause-entered
returns-in-Ok-clause-entered c = ok_hold c.of_top.result _ (claim_entered c.args.self.now.owners.entries.items c.claim.new.self.owners.entries.items c.args.number c.args.claim (is_some c.in-Ok.field-0) c.in-Ok.ensures.entered)

pub returns-in-Ok-clause-entire : goal.returns-in-Ok-clause-entire
returns-in-Ok-clause-entire c = ok_hold c.of_top.result _ (top_entire (image_at c.args.self.now.image) c.args.number c.args.self.now.owners.entries.items c.claim.new.self.owners.entries.items c.args.claim (is_some c.in-Ok.field-0) c.in-Ok.ensures.entered c.requires.entire)
