use Rattle.std.proofs.Common.{◌∙◌}
use Rattle.image_mount.proofs.Marked.{grown_on}
use Rattle.image_mount.proofs.Marks.{go_refused, read_shown}
use Rattle.image_mount.proofs.Stops.{refused}
use Rattle.shared_disk.proofs.ReadLaws.{reads_on}
use Rattle.image_mount.proofs.journals.count_places.Goals as goal

pub loop-places-preserved : goal.loop-places-preserved
loop-places-preserved g c =
    let inv = c.loop-places.invariant in
    let next = c.in_ok-go_on-in-Err.ensures in
    record {
      work = next.work;
      grown = grown_on _ _ _ inv.grown next.grown;
      places = next.places ∙ inv.places;
      searched = λ done d n im shows of known.
          let known' = inv.searched done d n im shows of known in
          next.searched im done d n (c.in-Err.ensures.stops im (read_shown _ _ im done d n _ inv.reads.same inv.work shows known') of) known';
      reads = reads_on inv.reads next.reads;
    }

pub returns-in_err-go_on-in-Err-clause-refused : goal.returns-in_err-go_on-in-Err-clause-refused
returns-in_err-go_on-in-Err-clause-refused g c done d n im shows of known =
    let inv = c.loop-places.invariant in
    let known' = inv.searched done d n im shows of known in
    refused im _ _ c.from_residual.ensures.1
    (go_refused _ _ im _ _ _ done d n inv.reads.same c.in_err-go_on-in-Err.ensures.refused shows (c.in-Err.ensures.stops im (read_shown _ _ im done d n _ inv.reads.same inv.work shows known') of) known')

pub returns-in-Ok-clause-found : goal.returns-in-Ok-clause-found
returns-in-Ok-clause-found g c done d n im shows of known =
    let inv = c.loop-places.invariant in
    let known' = inv.searched done d n im shows of known in
    c.in-Ok.ensures.found im (read_shown _ _ im done d n _ inv.reads.same inv.work shows known')

pub returns-in-Ok-clause-repeats : goal.returns-in-Ok-clause-repeats
returns-in-Ok-clause-repeats g c done d n im shows of known =
    let inv = c.loop-places.invariant in
    let known' = inv.searched done d n im shows of known in
    c.in-Ok.ensures.repeats im (read_shown _ _ im done d n _ inv.reads.same inv.work shows known')
