use Rattle.std.proofs.Common.{◌≡◌, false, sym, subst}
use Rattle.std.specs.Prelude.{map}
use Rattle.std.proofs.lemmas.Bool.{both_ways}
use Rattle.gfs2_layout.specs.Inode.{is_hashed_in}
use Rattle.image_model.specs.Claims.{every}
use Rattle.image_mount.specs.Listing.{said}
use Rattle.image_mount.specs.Looks.{IsLookedAt, IsSoundDirectory}
use Rattle.image_mount.specs.System.{AreJournalsAmong, AreRecordsAnew}
use Rattle.image_mount.proofs.Causes.{hashed_as}
use Rattle.image_mount.proofs.Jindexes.{linear_anew}
use Rattle.image_mount.proofs.Numbered.{journals_of, linear_names}
use Rattle.image_mount.proofs.Records.{all_records}
use Rattle.image_mount.proofs.Stops.{passed, stopped}
use Rattle.image_mount.proofs.jindex.list_linear.Goals as goal

pub returns-in_err-records-clause-stops : goal.returns-in_err-records-clause-stops
returns-in_err-records-clause-stops c im read is = passed im _ _ c.from_residual.ensures.1 (c.in_err-records.ensures.stops im read is.of.directory)

pub returns-in_err-journals-clause-stops : goal.returns-in_err-journals-clause-stops
returns-in_err-journals-clause-stops c im read is =
    let items = c.in_ok-records.records.items in
    let anew = subst (λ a. AreRecordsAnew im a (map said items)) (sym is.layout_is) (linear_anew im c.args.inode.now.block items (c.in_ok-records.ensures.found im read is.of.directory)) in
    let looked : IsLookedAt im c.args.inode.now.block = record { dinode = is.of.right; sized = c.in_ok-records.ensures.sized im read is.of.directory } in
    stopped im _ _ c.from_residual-in_err-journals.ensures.1 (c.in_err-journals.ensures.refused im is.layout is.groups (subst (IsLookedAt im) (sym is.layout_is) looked) (subst (λ xs. AreRecordsAnew im is.layout.jindex (map said xs)) (sym c.deref.ensures.value) anew))

pub returns-clause-found : goal.returns-clause-found
returns-clause-found c im read is =
    let a = c.args.inode.now.block in
    let items = c.in_ok-records.records.items in
    let directory = is.of.directory in
    let are = c.in_ok-records.ensures.found im read directory in
    let among = subst (λ xs. AreJournalsAmong xs c.in_ok-journals.journals.items) c.deref.ensures.value c.in_ok-journals.ensures.found in
    let linear : is_hashed_in (every im a) ≡ false = hashed_as im a c.args.inode.now.dinode false directory.dinode c.requires.linear in
    journals_of im a items c.in_ok-journals.journals.items (record { dinode = is.of.right; sized = c.in_ok-records.ensures.sized im read directory }) (subst (IsSoundDirectory im a) is.of.master_is (c.in_ok-records.ensures.sound im read directory))
    (λ hashed. absurd (both_ways (is_hashed_in (every im a)) linear hashed)) (all_records im a items directory.reached are c.in_ok-records.ensures.here) c.in_ok-records.ensures.distinct
    (linear_names im a items c.in_ok-journals.journals.items are among) among
