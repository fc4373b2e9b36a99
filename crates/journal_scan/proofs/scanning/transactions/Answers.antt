use Rattle.journal_scan.specs.Images.{ring_of}
use Rattle.journal_scan.proofs.scanning.transactions.Goals as goal

pub refuses_tail-requires : goal.refuses_tail-requires
refuses_tail-requires c = (c.heads_are_accepted.ensures (ring_of c.args.j.now) c.args.head.now c.requires.headed).0

pub places_between-count-requires-clause-to_in : goal.places_between-count-requires-clause-to_in
places_between-count-requires-clause-to_in c = (c.heads_are_accepted.ensures (ring_of c.args.j.now) c.args.head.now c.requires.headed).0
