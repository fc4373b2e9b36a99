use Rattle.std.proofs.Common.{◌≡◌, true, None, sym, ap, subst, ◌∙◌, arith}
use Rattle.std.specs.Prelude.{map}
use Rattle.std.specs.Option.{option_map}
use Rattle.std.proofs.lemmas.Bool.{both_ways}
use Rattle.gfs2_layout.specs.Inode.{is_hashed_in}
use Rattle.gfs2_layout.specs.Records.{Record}
use Rattle.image_model.specs.Claims.{every}
use Rattle.image_mount.specs.Found.{first_other}
use Rattle.image_mount.specs.Listing.{said, is_hashed_by, AreAllRecords}
use Rattle.image_mount.specs.System.{ArePlainRecords}
use Rattle.image_mount.proofs.Causes.{hashed_as}
use Rattle.image_mount.proofs.Records.{all_records}
use Rattle.image_mount.proofs.Stops.{passed, stopped}
use Rattle.image_mount.proofs.SystemFiles.{master_directory, other_master, no_other, plain_items}
use Rattle.image_mount.proofs.system.system_files.Goals as goal

pub returns-in_err-files-clause-stops : goal.returns-in_err-files-clause-stops
returns-in_err-files-clause-stops c im read is plain =
    let hashed : is_hashed_by c.args.inode.now.dinode ≡ true = sym c.is_hashed.ensures ∙ c.if-is_hashed.true in
    stopped im _ _ c.from_residual.ensures.1
    (c.in_err-files.ensures.refused im is.format is.reached (plain (hashed_as im c.args.inode.now.block _ true is.dinode hashed)).all is.block)

pub returns-then-is_hashed-clause-found : goal.returns-then-is_hashed-clause-found
returns-then-is_hashed-clause-found c im read is plain =
    let hashed : is_hashed_by c.args.inode.now.dinode ≡ true = sym c.is_hashed.ensures ∙ c.if-is_hashed.true in
    c.in_ok-files.ensures.found im (plain (hashed_as im c.args.inode.now.block _ true is.dinode hashed)) is.block

pub returns-in_err-records-clause-stops : goal.returns-in_err-records-clause-stops
returns-in_err-records-clause-stops c im read is plain = passed im _ _ c.from_residual-in_err-records.ensures.1 (c.in_err-records.ensures.stops im read (master_directory im c.args.inode.now is))

pub returns-in-Some-clause-stops : goal.returns-in-Some-clause-stops
returns-in-Some-clause-stops c im read is plain =
    let a = c.args.inode.now.block in
    let items = c.in_ok-records.records.items in
    let are = c.in_ok-records.ensures.found im read (master_directory im c.args.inode.now is) in
    let found = c.first_other.ensures ∙ ap (λ xs. option_map (λ (r : Record). r.address) (first_other (map said xs))) c.deref.ensures.value in
    other_master im _ a c.in-Some.other items c.first_other.result c.outside.ensures is.format (record { dinode = is.right; sized = c.in_ok-records.ensures.sized im read (master_directory im c.args.inode.now is) }) is.block are found c.in-Some.is

pub returns-in_err-files-2-clause-stops : goal.returns-in_err-files-2-clause-stops
returns-in_err-files-2-clause-stops c im read is plain =
    let a = c.args.inode.now.block in
    let items = c.in_ok-records.records.items in
    let are = c.in_ok-records.ensures.found im read (master_directory im c.args.inode.now is) in
    let all = all_records im a items is.reached are c.in_ok-records.ensures.here in
    stopped im _ _ c.from_residual-in_err-files-2.ensures.1
    (c.in_err-files-2.ensures.refused im is.format is.reached (subst (AreAllRecords im a) (sym c.deref-2.ensures.value) all) is.block)

pub returns-clause-found : goal.returns-clause-found
returns-clause-found c im read is plain =
    let a = c.args.inode.now.block in
    let items = c.in_ok-records.records.items in
    let are = c.in_ok-records.ensures.found im read (master_directory im c.args.inode.now is) in
    let found = c.first_other.ensures ∙ ap (λ xs. option_map (λ (r : Record). r.address) (first_other (map said xs))) c.deref.ensures.value in
    let none : c.first_other.result ≡ None = grind (arith, c.in_default.not-Some) in
    let plain_here : ArePlainRecords im a items = record {
      all = all_records im a items is.reached are c.in_ok-records.ensures.here;
      distinct = c.in_ok-records.ensures.distinct;
      plain = plain_items items (no_other items c.first_other.result found none);
    } in
    c.in_ok-files-2.ensures.found im (subst (ArePlainRecords im a) (sym c.deref-2.ensures.value) plain_here) is.block

pub returns-then-is_hashed-clause-sized : goal.returns-then-is_hashed-clause-sized
returns-then-is_hashed-clause-sized c im read is plain =
    let hashed : is_hashed_by c.args.inode.now.dinode ≡ true = sym c.is_hashed.ensures ∙ c.if-is_hashed.true in
    absurd (both_ways (is_hashed_in (every im c.args.inode.now.block)) plain (hashed_as im c.args.inode.now.block _ true is.dinode hashed))

pub returns-clause-sized : goal.returns-clause-sized
returns-clause-sized c im read is plain = c.in_ok-records.ensures.sized im read (master_directory im c.args.inode.now is)

pub returns-then-is_hashed-clause-sound : goal.returns-then-is_hashed-clause-sound
returns-then-is_hashed-clause-sound c im read is plain =
    let hashed : is_hashed_by c.args.inode.now.dinode ≡ true = sym c.is_hashed.ensures ∙ c.if-is_hashed.true in
    absurd (both_ways (is_hashed_in (every im c.args.inode.now.block)) plain (hashed_as im c.args.inode.now.block _ true is.dinode hashed))

pub returns-clause-sound : goal.returns-clause-sound
returns-clause-sound c im read is plain = c.in_ok-records.ensures.sound im read (master_directory im c.args.inode.now is)
