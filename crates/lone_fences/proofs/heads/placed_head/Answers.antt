use Rattle.std.proofs.Common.{◌≡◌, ◌<◌, ap, subst, sym}
use Rattle.journal_scan.specs.Images.{ring_of}
use Rattle.log_layout.specs.Journal.{head_in}
use Rattle.lone_fences.specs.Heads.{accepted_as}
use Rattle.lone_fences.proofs.Found.{head_is, no_head}
use Rattle.lone_fences.proofs.heads.placed_head.Goals as goal

pub bounds-blocks-head : goal.bounds-blocks-head
bounds-blocks-head c =
    let ring = ring_of c.args.journal.now in
    let low = (c.heads_are_accepted.ensures ring c.in-Ok.head (head_is (head_in ring) _ c.in-Ok.head c.in-Ok.ensures)).0 in
    subst (λ n. c.in-Ok.head.blkno < n) c.requires.long low

pub returns-in-Ok : goal.returns-in-Ok
returns-in-Ok c = sym (ap (accepted_as c.args.blocks.now) (head_is (head_in (ring_of c.args.journal.now)) _ c.in-Ok.head c.in-Ok.ensures))

pub returns-in-Err : goal.returns-in-Err
returns-in-Err c = sym (ap (accepted_as c.args.blocks.now) (no_head (head_in (ring_of c.args.journal.now)) _ _ c.in-Err.ensures))
