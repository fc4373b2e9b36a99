use Rattle.std.proofs.Common.{◌∙◌}
use Rattle.image_mount.proofs.Marked.{grown_on}
use Rattle.image_mount.proofs.Marks.{go_refused, read_shown}
use Rattle.image_mount.proofs.Stops.{refused}
use Rattle.shared_disk.proofs.ReadLaws.{reads_on}
use Rattle.image_mount.proofs.journals.find_block.Goals as goal

pub loop-located-preserved : goal.loop-located-preserved
loop-located-preserved g c =
    let inv = c.loop-located.invariant in
    let next = c.in_ok-go_on-in-Err.ensures in
    record {
      work = next.work;
      grown = grown_on _ _ _ inv.grown next.grown;
      places = next.places ∙ inv.places;
      searched = λ done d n places im shows of has low known.
          let known' = inv.searched done d n places im shows of has low known in
          next.searched im done d n (c.in-Err.ensures.stops im places (read_shown _ _ im done d n _ inv.reads.same inv.work shows known') of has low) known';
      reads = reads_on inv.reads next.reads;
    }

pub returns-in_err-go_on-in-Err-clause-refused : goal.returns-in_err-go_on-in-Err-clause-refused
returns-in_err-go_on-in-Err-clause-refused g c done d n places im shows of has low known =
    let inv = c.loop-located.invariant in
    let known' = inv.searched done d n places im shows of has low known in
    refused im _ _ c.from_residual.ensures.1
    (go_refused _ _ im _ _ _ done d n inv.reads.same c.in_err-go_on-in-Err.ensures.refused shows (c.in-Err.ensures.stops im places (read_shown _ _ im done d n _ inv.reads.same inv.work shows known') of has low) known')

pub returns-in-Ok-clause-found : goal.returns-in-Ok-clause-found
returns-in-Ok-clause-found g c done d n places im shows of has low known =
    let inv = c.loop-located.invariant in
    let known' = inv.searched done d n places im shows of has low known in
    c.in-Ok.ensures.found im (read_shown _ _ im done d n _ inv.reads.same inv.work shows known')

pub returns-in-Ok-clause-ways : goal.returns-in-Ok-clause-ways
returns-in-Ok-clause-ways g c done d n places im shows of has low known kept =
    let inv = c.loop-located.invariant in
    let known' = inv.searched done d n places im shows of has low known in
    c.in-Ok.ensures.ways im (read_shown _ _ im done d n _ inv.reads.same inv.work shows known') (inv.grown.stays c.args.journal.now.entry.addr kept)
