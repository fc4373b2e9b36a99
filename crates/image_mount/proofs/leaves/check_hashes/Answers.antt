use Rattle.std.proofs.Common.{get_or, refl, ◌∙◌, arith}
use Rattle.image_mount.specs.Leaves.{HasHashOf}
use Rattle.image_mount.proofs.Adding.{no_record}
use Rattle.image_mount.proofs.LeafCauses.{hash_of, wrong_hash}
use Rattle.image_mount.proofs.Sound.{all_more, all_taken}
use Rattle.image_mount.proofs.leaves.check_hashes.Goals as goal

pub returns-then-from-shift-clause-refused : goal.returns-then-from-shift-clause-refused
returns-then-from-shift-clause-refused c im a format is read =
    wrong_hash im a c.args.at.now _ c.args.records.now c.loop-record.record-index _ c.from.result _ _ format is c.damaged.ensures read (omega (arith, c.loop-record-test.true)) refl (c.from.ensures ∙ c.crc32.ensures) refl
    c.if-from-shift.true

pub loop-record-preserved : goal.loop-record-preserved
loop-record-preserved c =
    all_more (HasHashOf c.args.at.now) c.args.records.now c.loop-record.record-index _ (omega (arith, c.loop-record-test.true)) c.loop-record.invariant
    (hash_of c.args.at.now (get_or c.args.records.now c.loop-record.record-index no_record) _ c.from.result _ refl (c.from.ensures ∙ c.crc32.ensures) refl c.if-from-shift.false)

pub returns-clause-hashed : goal.returns-clause-hashed
returns-clause-hashed c = all_taken (HasHashOf c.args.at.now) c.args.records.now c.loop-record.record-index (omega (arith, c.loop-record-test.false)) c.loop-record.invariant
