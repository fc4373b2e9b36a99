use Rattle.std.proofs.Common.{◌<◌, subst, arith}
use Rattle.image_reader.specs.Reading.{image_at}
use Rattle.image_reader.proofs.Inside.{block_inside}
use Rattle.image_reader.proofs.WalkFaults.{beyond, past_groups, entered_if, clash}
use Rattle.image_reader.proofs.walk.Walk.claim.Goals as goal

pub returns-in_default-clause-damaged : goal.returns-in_default-clause-damaged
returns-in_default-clause-damaged c =
    beyond c.args.self.now _ c.args.by c.args.number _ c.damaged.ensures c.requires.inside c.requires.claimed c.in_default.ensures.none

pub returns-then-is_outside-clause-damaged : goal.returns-then-is_outside-clause-damaged
returns-then-is_outside-clause-damaged c =
    past_groups c.args.self.now _ c.args.by c.args.number _ c.damaged-then-is_outside.ensures c.requires.inside c.requires.claimed c.requires.sound (c.is_outside.ensures c.if-is_outside.true)

pub returns-in-Ok-true-clause-sound : goal.returns-in-Ok-true-clause-sound
returns-in-Ok-true-clause-sound c = record {
  claims = entered_if (image_at c.args.self.now.image) c.args.self.now.owners.entries.items _ c.args.number c.args.by c.args.claim _ c.in-Ok-true.ensures.entered c.requires.sound.claims c.requires.claimed c.requires.placed;
  groups = c.requires.sound.groups;
}

pub returns-in-Err-clause-damaged : goal.returns-in-Err-clause-damaged
returns-in-Err-clause-damaged c =
    clash (image_at c.args.self.now.image) c.args.self.now.owners.entries.items c.args.number c.args.by c.args.claim _ (omega (arith, subst (λ n. n < c.args.self.now.image.count) c.in-Some.ensures.some.0 (block_inside c.in-Some.block c.args.self.now.image c.in-Some.ensures.some.1), c.args.self.now.image.counted)) c.requires.sound.claims c.requires.claimed c.requires.placed c.in-Err.ensures.clash
