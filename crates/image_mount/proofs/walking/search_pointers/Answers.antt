use Rattle.std.proofs.Common.{[]}
use Rattle.image_mount.proofs.Marked.{grown_on}
use Rattle.image_mount.proofs.Marks.{go_refused, read_shown}
use Rattle.image_mount.proofs.Stops.{refused}
use Rattle.shared_disk.proofs.ReadLaws.{reads_on}
use Rattle.image_mount.proofs.walking.search_pointers.Goals as goal

pub loop-pointers-preserved : goal.loop-pointers-preserved
loop-pointers-preserved g c =
    let inv = c.loop-pointers.invariant in
    let next = c.in_ok-go_on-in-Err.ensures in
    record {
      work = next.work;
      grown = grown_on _ _ _ inv.grown next.grown;
      searched = λ im shows is hashed known.
          let known' = inv.searched im shows is hashed known in
          next.searched im [] 0 0 (c.in-Err.ensures.stops im (read_shown _ _ im [] 0 0 _ inv.reads.same inv.work shows known') is hashed) known';
      reads = reads_on inv.reads next.reads;
    }

pub returns-in_err-go_on-in-Err-clause-refused : goal.returns-in_err-go_on-in-Err-clause-refused
returns-in_err-go_on-in-Err-clause-refused g c im shows is hashed known =
    let inv = c.loop-pointers.invariant in
    let known' = inv.searched im shows is hashed known in
    refused im _ _ c.from_residual.ensures.1
    (go_refused _ _ im _ _ _ [] 0 0 inv.reads.same c.in_err-go_on-in-Err.ensures.refused shows (c.in-Err.ensures.stops im (read_shown _ _ im [] 0 0 _ inv.reads.same inv.work shows known') is hashed) known')

pub returns-in-Ok-clause-found : goal.returns-in-Ok-clause-found
returns-in-Ok-clause-found g c im shows is hashed known =
    let inv = c.loop-pointers.invariant in
    let known' = inv.searched im shows is hashed known in
    c.in-Ok.ensures.found im (read_shown _ _ im [] 0 0 _ inv.reads.same inv.work shows known') is hashed

pub returns-in-Ok-clause-kept : goal.returns-in-Ok-clause-kept
returns-in-Ok-clause-kept g c im shows is hashed known =
    let inv = c.loop-pointers.invariant in
    let known' = inv.searched im shows is hashed known in
    c.in-Ok.ensures.kept im (read_shown _ _ im [] 0 0 _ inv.reads.same inv.work shows known') is hashed
