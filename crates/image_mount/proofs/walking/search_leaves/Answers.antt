use Rattle.std.proofs.Common.{ap, arith}
use Rattle.shared_disk.specs.Disk.{DiskState}
use Rattle.image_mount.proofs.LeafWalks.{gone_over}
use Rattle.image_mount.proofs.Marked.{grown_on}
use Rattle.image_mount.proofs.Marks.{shows_now}
use Rattle.image_mount.proofs.Stops.{refused}
use Rattle.image_mount.proofs.walking.search_leaves.Goals as goal

pub returns-in_err-pointers-clause-refused : goal.returns-in_err-pointers-clause-refused
returns-in_err-pointers-clause-refused g c im shows is hashed for known = refused im _ _ c.from_residual.ensures.1 (c.in_err-pointers.ensures.refused im shows is hashed known)

pub returns-in_err-walk-clause-refused : goal.returns-in_err-walk-clause-refused
returns-in_err-walk-clause-refused g c im shows is hashed for known =
    let p = c.in_ok-pointers.ensures in
    refused im _ _ c.from_residual-in_err-walk.ensures.1
    (c.in_err-walk.ensures.refused im (shows_now _ _ im p.reads.same shows) (p.found im shows is hashed known) for (p.searched im shows is hashed known))

pub returns-clause-found : goal.returns-clause-found
returns-clause-found g c im shows is hashed for known =
    let p = c.in_ok-pointers.ensures in
    let of = p.found im shows is hashed known in
    let walk = c.in_ok-walk.ensures.found im (shows_now _ _ im p.reads.same shows) of for (p.searched im shows is hashed known) in
    gone_over im c.args.inode.now c.in_ok-pointers.pointers c.in_ok-walk.walk of walk c.in_ok-walk.ensures.ended

pub returns-clause-searched : goal.returns-clause-searched
returns-clause-searched g c im shows is hashed for known =
    let p = c.in_ok-pointers.ensures in
    c.in_ok-walk.ensures.searched im (shows_now _ _ im p.reads.same shows) (p.found im shows is hashed known) for (p.searched im shows is hashed known)

pub returns-clause-read : goal.returns-clause-read
returns-clause-read g c im shows is hashed for known =
    let p = c.in_ok-pointers.ensures in
    let of = p.found im shows is hashed known in
    let walk = c.in_ok-walk.ensures.found im (shows_now _ _ im p.reads.same shows) of for (p.searched im shows is hashed known) in
    let over = gone_over im c.args.inode.now c.in_ok-pointers.pointers c.in_ok-walk.walk of walk c.in_ok-walk.ensures.ended in
    record {
      content = λ q j level first b leads within. c.in_ok-walk.ensures.grown.stays b (p.kept im shows is hashed known q j level first b leads within);
      leaves = λ by x hash place claim. c.in_ok-walk.ensures.read x hash place (over.all by x hash place claim);
    }

pub returns-clause-grown : goal.returns-clause-grown
returns-clause-grown g c = grown_on c.args.table.now c.search_pointers.new.table c.walk_leaves.new.table c.in_ok-pointers.ensures.grown c.in_ok-walk.ensures.grown

pub returns-clause-few : goal.returns-clause-few
returns-clause-few g c = omega (arith, c.in_ok-walk.walk.many, c.in_ok-walk.ensures.count, ap (λ (s : DiskState). s.count) c.in_ok-pointers.ensures.reads.same, c.requires.few)
