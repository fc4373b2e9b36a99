use Rattle.std.proofs.Common.{[], sym, ◌∙◌}
use Rattle.image_mount.proofs.Marked.{grown_on}
use Rattle.image_mount.proofs.Marks.{go_refused, read_shown}
use Rattle.image_mount.proofs.Stops.{refused}
use Rattle.shared_disk.proofs.ReadLaws.{reads_on}
use Rattle.image_mount.proofs.mounting.search_groundwork.Goals as goal

pub loop-ground-preserved : goal.loop-ground-preserved
loop-ground-preserved g c =
    let inv = c.loop-ground.invariant in
    let next = c.in_ok-go_on-in-Err.ensures in
    record {
      work = next.work;
      grown = grown_on _ _ _ inv.grown next.grown;
      searched = λ im shows is named known.
          let known' = inv.searched im shows is named known in
          next.searched im [] 0 0 (c.in-Err.ensures.stops im (read_shown _ _ im [] 0 0 _ inv.reads.same inv.work shows known') (c.blocks-count.ensures.value ∙ sym shows.count) is named) known';
      reads = reads_on inv.reads next.reads;
    }

pub returns-in_err-go_on-in-Err-clause-refused : goal.returns-in_err-go_on-in-Err-clause-refused
returns-in_err-go_on-in-Err-clause-refused g c im shows is named known =
    let inv = c.loop-ground.invariant in
    let known' = inv.searched im shows is named known in
    refused im _ _ c.from_residual.ensures.1
    (go_refused _ _ im _ _ _ [] 0 0 inv.reads.same c.in_err-go_on-in-Err.ensures.refused shows (c.in-Err.ensures.stops im (read_shown _ _ im [] 0 0 _ inv.reads.same inv.work shows known') (c.blocks-count.ensures.value ∙ sym shows.count) is named) known')

pub returns-in-Ok-clause-found : goal.returns-in-Ok-clause-found
returns-in-Ok-clause-found g c im shows is named known =
    let inv = c.loop-ground.invariant in
    let known' = inv.searched im shows is named known in
    c.in-Ok.ensures.found im (read_shown _ _ im [] 0 0 _ inv.reads.same inv.work shows known') (c.blocks-count.ensures.value ∙ sym shows.count) is named

pub returns-in-Ok-clause-content : goal.returns-in-Ok-clause-content
returns-in-Ok-clause-content g c im shows is named known =
    let inv = c.loop-ground.invariant in
    let known' = inv.searched im shows is named known in
    c.in-Ok.ensures.content im (read_shown _ _ im [] 0 0 _ inv.reads.same inv.work shows known')
