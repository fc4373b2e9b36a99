use Rattle.std.proofs.Common.{arith, drop, length, sym, ap, subst, ◌∙◌}
use Rattle.std.specs.Prelude.{map}
use Rattle.std.specs.List.{All}
use Rattle.gfs2_layout.specs.Records.{records_in, IsRecordArea}
use Rattle.image_mount.specs.Leaves.{HasHashOf}
use Rattle.image_mount.specs.Listing.{said, AreDistinct, HasItsOwnName}
use Rattle.image_mount.specs.Looks.{IsSoundArea}
use Rattle.image_mount.proofs.LeafCauses.{leaf_area_in, leaf_listed, leaf_sound, taken_leaf}
use Rattle.image_mount.proofs.Sound.{sound_area}
use Rattle.image_mount.proofs.Stops.{refused}
use Rattle.image_mount.proofs.leaves.leaf_records.Goals as goal

pub returns-in_err-records-clause-refused : goal.returns-in_err-records-clause-refused
returns-in_err-records-clause-refused c im a format is same =
    refused im _ _ c.from_residual.ensures.1 (c.in_err-records.ensures.refused im a format is.reached (leaf_area_in im a c.args.at.now c.args.bytes.now _ is same (taken_leaf c.args.bytes.now)))

pub returns-in_err-check_names-clause-refused : goal.returns-in_err-check_names-clause-refused
returns-in_err-check_names-clause-refused c im a format is same =
    let read = c.in_ok-records.ensures.found ∙ ap records_in (taken_leaf c.args.bytes.now) in
    refused im _ _ c.from_residual-in_err-check_names.ensures.1
    (c.in_err-check_names.ensures.refused im a format is.reached (leaf_listed im a c.args.at.now c.args.bytes.now c.deref.result.now is same (ap (map said) c.deref.ensures.value ∙ read)))

pub returns-in_err-check_twice-clause-refused : goal.returns-in_err-check_twice-clause-refused
returns-in_err-check_twice-clause-refused c im a format is same =
    let read = c.in_ok-records.ensures.found in
    refused im _ _ c.from_residual-in_err-check_twice.ensures.1
    (c.in_err-check_twice.ensures.refused im a _ format is.reached (leaf_area_in im a c.args.at.now c.args.bytes.now _ is same (taken_leaf c.args.bytes.now)) (ap (map said) c.deref-2.ensures.value ∙ read))

pub returns-in_err-check_entries-clause-refused : goal.returns-in_err-check_entries-clause-refused
returns-in_err-check_entries-clause-refused c im a format is same =
    let read = c.in_ok-records.ensures.found ∙ ap records_in (taken_leaf c.args.bytes.now) in
    refused im _ _ c.from_residual-in_err-check_entries.ensures.1
    (c.in_err-check_entries.ensures.refused im a format is (ap (map said) c.deref-3.ensures.value ∙ read ∙ ap (λ b. records_in (drop 104 b)) (sym same)))

pub returns-in_err-check_hashes-clause-refused : goal.returns-in_err-check_hashes-clause-refused
returns-in_err-check_hashes-clause-refused c im a format is same =
    let read = c.in_ok-records.ensures.found ∙ ap records_in (taken_leaf c.args.bytes.now) in
    refused im _ _ c.from_residual-in_err-check_hashes.ensures.1
    (c.in_err-check_hashes.ensures.refused im a format is (ap (map said) c.deref-4.ensures.value ∙ read ∙ ap (λ b. records_in (drop 104 b)) (sym same)))

pub returns-clause-found : goal.returns-clause-found
returns-clause-found c = c.in_ok-records.ensures.found ∙ ap records_in (taken_leaf c.args.bytes.now)

pub returns-clause-sound : goal.returns-clause-sound
returns-clause-sound c =
    let items = c.in_ok-records.records.items in
    let taken = taken_leaf c.args.bytes.now in
    subst IsSoundArea taken
    (sound_area _ items c.in_ok-records.ensures.filled c.in_ok-records.ensures.found (subst (All HasItsOwnName) c.deref.ensures.value c.in_ok-check_names.ensures.named)
    (subst (λ rs. AreDistinct (map said rs)) c.deref-2.ensures.value c.in_ok-check_twice.ensures.distinct))

pub returns-clause-leaf : goal.returns-clause-leaf
returns-clause-leaf c im a is same =
    let items = c.in_ok-records.records.items in
    let taken = taken_leaf c.args.bytes.now in
    leaf_sound im a c.args.at.now c.args.bytes.now items is same (c.in_ok-records.ensures.found ∙ ap records_in taken) (subst IsRecordArea taken c.in_ok-records.ensures.filled)
    (ap length (sym c.deref-3.ensures.value) ∙ c.in_ok-check_entries.ensures.counted) (subst (All (HasHashOf c.args.at.now)) c.deref-4.ensures.value c.in_ok-check_hashes.ensures.hashed)

pub returns-clause-few : goal.returns-clause-few
returns-clause-few c = omega (arith, c.in_ok-check_entries.ensures.few, ap length c.deref-3.ensures.value)
