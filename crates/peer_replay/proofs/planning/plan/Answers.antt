use Rattle.log_layout.specs.Journal.{head_in}
use Rattle.journal_scan.specs.Images.{ring_of}
use Rattle.peer_replay.proofs.Entries.{head_found}
use Rattle.peer_replay.proofs.planning.plan.Goals as goal

pub clean_header-requires : goal.clean_header-requires
clean_header-requires c =
    let ring = ring_of c.args.j.now in
    (c.heads_are_accepted.ensures (ring_of c.args.j.now) c.in_ok-head.head (head_found (head_in (ring_of c.args.j.now)) c.in_ok-head.head c.in_ok-head.ensures)).0
