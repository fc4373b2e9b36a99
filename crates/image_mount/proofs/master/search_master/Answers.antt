use Rattle.std.proofs.Common.{[], ap, subst, ◌∙◌}
use Rattle.image_mount.proofs.Marked.{grown_on}
use Rattle.image_mount.proofs.Marks.{few_shown, go_refused, read_shown}
use Rattle.image_mount.proofs.Stops.{refused}
use Rattle.shared_disk.proofs.ReadLaws.{reads_on}
use Rattle.gfs2_layout.specs.Device.{superblock_place}
use Rattle.image_mount.specs.Marked.{IsKept}
use Rattle.shared_disk.specs.Disk.{DiskState}
use Rattle.image_mount.proofs.master.search_master.Goals as goal

pub loop-master-preserved : goal.loop-master-preserved
loop-master-preserved g c =
    let inv = c.loop-master.invariant in
    let next = c.in_ok-go_on-in-Err.ensures in
    record {
      work = next.work;
      grown = grown_on _ _ _ inv.grown next.grown;
      searched = λ im shows few known.
          let known' = inv.searched im shows few known in
          next.searched im [] 0 0 (c.in-Err.ensures.stops im (read_shown _ _ im [] 0 0 _ inv.reads.same inv.work shows known') (few_shown _ im shows few)) known';
      reads = reads_on inv.reads next.reads;
    }

pub returns-in_err-go_on-in-Err-clause-refused : goal.returns-in_err-go_on-in-Err-clause-refused
returns-in_err-go_on-in-Err-clause-refused g c im shows few known =
    let inv = c.loop-master.invariant in
    let known' = inv.searched im shows few known in
    refused im _ _ c.from_residual.ensures.1
    (go_refused _ _ im _ _ _ [] 0 0 inv.reads.same c.in_err-go_on-in-Err.ensures.refused shows (c.in-Err.ensures.stops im (read_shown _ _ im [] 0 0 _ inv.reads.same inv.work shows known') (few_shown _ im shows few)) known')

pub returns-in-Ok-clause-found : goal.returns-in-Ok-clause-found
returns-in-Ok-clause-found g c im shows few known =
    let inv = c.loop-master.invariant in
    let known' = inv.searched im shows few known in
    c.in-Ok.ensures.found im (read_shown _ _ im [] 0 0 _ inv.reads.same inv.work shows known') (few_shown _ im shows few)

pub returns-in-Ok-clause-superblock : goal.returns-in-Ok-clause-superblock
returns-in-Ok-clause-superblock g c =
    let inv = c.loop-master.invariant in
    subst (λ n. IsKept c.loop-master.table (superblock_place n)) (inv.work.size ∙ ap (λ (s : DiskState). s.size) inv.reads.same) c.in-Ok.ensures.superblock
