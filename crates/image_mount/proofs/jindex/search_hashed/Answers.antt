use Rattle.std.proofs.Common.{◌≡◌, ◌+◌, true, length, sym, ap, subst, ◌∙◌, arith}
use Rattle.std.specs.Prelude.{map}
use Rattle.image_mount.specs.Found.{name_count}
use Rattle.image_mount.specs.Listing.{said, AreAllRecords, AreCountedIn, AreRowsOf}
use Rattle.image_mount.specs.Looks.{IsLookedAt, IsSoundDirectory}
use Rattle.image_mount.specs.System.{AreJournalsAmong, AreRecordsAnew}
use Rattle.image_mount.proofs.Causes.{hashed_as}
use Rattle.image_mount.proofs.Jindexes.{beside_told, hashed_anew, hashed_names, looks_for_journals, walk_all, walk_counted}
use Rattle.image_mount.proofs.Looks.{hashed_looked}
use Rattle.image_mount.proofs.Masters.{jindex_directory_of}
use Rattle.image_mount.proofs.Numbered.{journals_of}
use Rattle.image_mount.proofs.SoundLeaves.{hashed_sound}
use Rattle.image_mount.proofs.Stops.{refused}
use Rattle.image_mount.proofs.jindex.search_hashed.Goals as goal

pub returns-in_err-walk-clause-refused : goal.returns-in_err-walk-clause-refused
returns-in_err-walk-clause-refused g c im shows is known =
    let inode = c.args.inode.now in
    refused im _ _ c.from_residual.ensures.1
    (c.in_err-walk.ensures.refused im shows (jindex_directory_of im c.args.master inode is.of) (hashed_as im inode.block _ true is.of.directory.dinode c.requires.hashed) (looks_for_journals im inode.block) known)

pub returns-then-walk-gt0-clause-refused : goal.returns-then-walk-gt0-clause-refused
returns-then-walk-gt0-clause-refused g c im shows is known =
    let inode = c.args.inode.now in
    let over = c.in_ok-walk.ensures.found im shows (jindex_directory_of im c.args.master inode is.of) (hashed_as im inode.block _ true is.of.directory.dinode c.requires.hashed) (looks_for_journals im inode.block) known in
    beside_told im inode.block c.in_ok-walk.walk over (hashed_looked im inode.block is.of.right (hashed_as im inode.block _ true is.of.directory.dinode c.requires.hashed) over.sized) is.layout _ _ c.in_ok-walk.ensures.names is.groups is.layout_is c.if-walk-gt0.true
    (ap (λ n. n + c.in_ok-walk.walk.others) (c.count_names.ensures ∙ ap (λ xs. name_count (map said xs)) c.deref.ensures.value)) c.outside.ensures

pub returns-in_err-check_hashed-clause-refused : goal.returns-in_err-check_hashed-clause-refused
returns-in_err-check_hashed-clause-refused g c im shows is known =
    let inode = c.args.inode.now in
    let walk = c.in_ok-walk.walk in
    let over = c.in_ok-walk.ensures.found im shows (jindex_directory_of im c.args.master inode is.of) (hashed_as im inode.block _ true is.of.directory.dinode c.requires.hashed) (looks_for_journals im inode.block) known in
    let none : walk.others ≡ 0 = omega (arith, c.if-walk-gt0.false) in
    refused im _ _ c.from_residual-in_err-check_hashed.ensures.1
    (c.in_err-check_hashed.ensures.refused im is.of.directory (subst (AreAllRecords im inode.block) (sym c.deref-2.ensures.value) (walk_all im inode.block walk over none))
    (subst (λ xs. AreCountedIn im inode.block (map said xs)) (sym c.deref-2.ensures.value) (walk_counted im inode.block walk over none)))

pub returns-in_err-journals-clause-refused : goal.returns-in_err-journals-clause-refused
returns-in_err-journals-clause-refused g c im shows is known =
    let inode = c.args.inode.now in
    let walk = c.in_ok-walk.walk in
    let over = c.in_ok-walk.ensures.found im shows (jindex_directory_of im c.args.master inode is.of) (hashed_as im inode.block _ true is.of.directory.dinode c.requires.hashed) (looks_for_journals im inode.block) known in
    let none : walk.others ≡ 0 = omega (arith, c.if-walk-gt0.false) in
    refused im _ _ c.from_residual-in_err-journals.ensures.1
    (c.in_err-journals.ensures.refused im is.layout is.groups (subst (IsLookedAt im) (sym is.layout_is) (hashed_looked im inode.block is.of.right (hashed_as im inode.block _ true is.of.directory.dinode c.requires.hashed) over.sized))
    (subst (λ xs. AreRecordsAnew im is.layout.jindex (map said xs)) (sym c.deref-3.ensures.value) (subst (λ a. AreRecordsAnew im a (map said walk.records.items)) (sym is.layout_is) (hashed_anew im inode.block walk over none))))

pub returns-clause-found : goal.returns-clause-found
returns-clause-found g c im shows is known =
    let inode = c.args.inode.now in
    let walk = c.in_ok-walk.walk in
    let hashed = hashed_as im inode.block _ true is.of.directory.dinode c.requires.hashed in
    let over = c.in_ok-walk.ensures.found im shows (jindex_directory_of im c.args.master inode is.of) hashed (looks_for_journals im inode.block) known in
    let none : walk.others ≡ 0 = omega (arith, c.if-walk-gt0.false) in
    let all = walk_all im inode.block walk over none in
    let sound = hashed_sound im inode c.args.master walk is.of.directory.dinode over.hashed over.walked over.all none all (walk_counted im inode.block walk over none) (subst (AreRowsOf inode c.args.master) c.deref-2.ensures.value c.in_ok-check_hashed.ensures.rows) in
    let among = subst (λ xs. AreJournalsAmong xs c.in_ok-journals.journals.items) c.deref-3.ensures.value c.in_ok-journals.ensures.found in
    journals_of im inode.block walk.records.items c.in_ok-journals.journals.items (hashed_looked im inode.block is.of.right hashed over.sized) (subst (IsSoundDirectory im inode.block) is.of.master_is sound) (λ yes. over.leaves) all over.walked.distinct
    (hashed_names im inode.block walk over (length c.in_ok-journals.journals.items) none among.named) among

pub returns-clause-searched : goal.returns-clause-searched
returns-clause-searched g c im shows is known =
    let inode = c.args.inode.now in
    c.in_ok-walk.ensures.searched im shows (jindex_directory_of im c.args.master inode is.of) (hashed_as im inode.block _ true is.of.directory.dinode c.requires.hashed) (looks_for_journals im inode.block) known

pub returns-clause-read : goal.returns-clause-read
returns-clause-read g c im shows is known hashed = c.in_ok-walk.ensures.read im shows (jindex_directory_of im c.args.master c.args.inode.now is.of) hashed (looks_for_journals im c.args.inode.now.block) known
