use Rattle.std.proofs.Common.{◌≡◌, refl, sym, subst, ◌∙◌}
use Rattle.std.specs.Prelude.{map}
use Rattle.std.specs.List.{All}
use Rattle.image_mount.specs.Listing.{said, AreDistinct, AreRecordsOf, AreRowsOf, HasItsOwnName}
use Rattle.image_mount.specs.Looks.{IsSoundArea}
use Rattle.image_mount.specs.declared.listing.Named.{Named}
use Rattle.image_mount.proofs.Causes.{linear_of}
use Rattle.image_mount.proofs.Looks.{linear_sized}
use Rattle.image_mount.proofs.Records.{all_records, area_in, area_of, counted, has_directory, records_of}
use Rattle.image_mount.proofs.Sound.{linear_sound, sound_area}
use Rattle.image_mount.proofs.Stops.{passed, stopped}
use Rattle.image_mount.proofs.Wanted.{wanted}
use Rattle.image_mount.proofs.listing.list_records.Goals as goal

pub returns-in_err-bytes-clause-stops : goal.returns-in_err-bytes-clause-stops
returns-in_err-bytes-clause-stops c im read is =
    passed im _ _ c.from_residual.ensures.1 (wanted im c.args.inode.now.block c.args.inode.now.from is.owner _ c.in_err-bytes.ensures.stops is.claimed is.is_inode is.format is.from_reached is.file)

pub returns-in_err-records-clause-stops : goal.returns-in_err-records-clause-stops
returns-in_err-records-clause-stops c im read is =
    let a = c.args.inode.now.block in
    let area = area_of im a c.in_ok-bytes.bytes.now _ (read.same _ _ c.in_ok-bytes.ensures.bytes) refl in
    stopped im _ _ c.from_residual-in_err-records.ensures.1
    (c.in_err-records.ensures.refused im a is.format is.reached (area_in im a _ (has_directory im c.args.inode.now c.args.parent is) (linear_of im a _ is.dinode c.requires.linear) area))

pub returns-in_err-check_records-clause-stops : goal.returns-in_err-check_records-clause-stops
returns-in_err-check_records-clause-stops c im read is =
    let a = c.args.inode.now.block in
    let area = area_of im a c.in_ok-bytes.bytes.now _ (read.same _ _ c.in_ok-bytes.ensures.bytes) refl in
    let are = records_of im a _ _ (has_directory im c.args.inode.now c.args.parent is) (linear_of im a _ is.dinode c.requires.linear) area c.in_ok-records.ensures.found in
    stopped im _ _ c.from_residual-in_err-check_records.ensures.1
    (c.in_err-check_records.ensures.refused im is (subst (λ rs. AreRecordsOf im a (map said rs)) (sym c.deref.ensures.value) are)
    (subst (λ rs. All (λ (n : Named). n.block ≡ a) rs) (sym c.deref.ensures.value) c.in_ok-records.ensures.here))

pub returns-clause-found : goal.returns-clause-found
returns-clause-found c im read is =
    let a = c.args.inode.now.block in
    let area = area_of im a c.in_ok-bytes.bytes.now _ (read.same _ _ c.in_ok-bytes.ensures.bytes) refl in
    records_of im a _ _ (has_directory im c.args.inode.now c.args.parent is) (linear_of im a _ is.dinode c.requires.linear) area c.in_ok-records.ensures.found

pub returns-clause-sized : goal.returns-clause-sized
returns-clause-sized c im read is =
    linear_sized im c.args.inode.now.block c.block_size.result c.args.inode.now.dinode is.dinode (c.block_size.ensures.value ∙ read.size) c.requires.linear c.in_ok-check_linear.ensures.linear

pub returns-clause-sound : goal.returns-clause-sound
returns-clause-sound c im read is =
    let inode = c.args.inode.now in
    let a = inode.block in
    let items = c.in_ok-records.records.items in
    let area = area_of im a c.in_ok-bytes.bytes.now _ (read.same _ _ c.in_ok-bytes.ensures.bytes) refl in
    let are = records_of im a _ _ (has_directory im inode c.args.parent is) (linear_of im a _ is.dinode c.requires.linear) area c.in_ok-records.ensures.found in
    let checked = c.in_ok-check_records.ensures in
    let named : All HasItsOwnName items = subst (All HasItsOwnName) c.deref.ensures.value checked.named in
    let rows : AreRowsOf inode c.args.parent items = subst (AreRowsOf inode c.args.parent) c.deref.ensures.value checked.rows in
    let distinct : AreDistinct (map said items) = subst (λ rs. AreDistinct (map said rs)) c.deref.ensures.value checked.distinct in
    linear_sound im inode c.args.parent items is.dinode are (all_records im a items is.reached are c.in_ok-records.ensures.here) (counted im a items are) c.in_ok-records.ensures.here
    (subst IsSoundArea area (sound_area _ items c.in_ok-records.ensures.filled c.in_ok-records.ensures.found named distinct)) distinct rows

pub returns-in_err-check_linear-clause-stops : goal.returns-in_err-check_linear-clause-stops
returns-in_err-check_linear-clause-stops c im read is =
    stopped im _ _ c.from_residual-in_err-check_linear.ensures.1
    (c.in_err-check_linear.ensures.refused im is.dinode (c.block_size.ensures.value ∙ read.size) is.format is.reached (has_directory im c.args.inode.now c.args.parent is))
