use Rattle.image_reader.specs.Reading.{image_at}
use Rattle.image_reader.proofs.WalkFaults.{empty_claims}
use Rattle.image_reader.proofs.walk.Walk.new.Goals as goal

pub returns-clause-sound : goal.returns-clause-sound
returns-clause-sound c = record {
  claims = empty_claims (image_at c.args.image) c.in_ok-owners.owners.entries.items c.in_ok-owners.ensures.empty;
  groups = c.requires.known;
}
