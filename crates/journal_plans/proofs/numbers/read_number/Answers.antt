use Rattle.std.proofs.Common.{sym, ◌∙◌}
use Rattle.log_layout.specs.Journal.{head_in}
use Rattle.log_layout.proofs.SamePlaces.{says_the_same}
use Rattle.journal_reads.specs.Reading.{ring_read}
use Rattle.journal_scan.specs.Images.{ring_of}
use Rattle.journal_scan.specs.declared.fault.ScanFault.TheVariants.{NoHeader}
use Rattle.peer_replay.proofs.Entries.{head_found}
use Rattle.journal_plans.proofs.Numbered.{is_found, no_head, number_is, place_low, tail_low}
use Rattle.journal_plans.proofs.numbers.read_number.Goals as goal

pub returns-in_default-clause-why : goal.returns-in_default-clause-why
returns-in_default-clause-why g c tells readable bytes live =
    sym (says_the_same (ring_of c.in-Ok.journal) (ring_read (g.D.SharedDisk.state c.args.disk.now) c.args.node c.args.blocks.now) (c.in-Ok.ensures.says tells)).head
    ∙ no_head (head_in (ring_of c.in-Ok.journal)) c.find_head.result c.in_default.field-0 NoHeader c.in_default.is c.find_head.ensures

pub returns-then-head-journal-clause-why : goal.returns-then-head-journal-clause-why
returns-then-head-journal-clause-why g c tells readable bytes live =
    let headed = head_found (head_in (ring_of c.in-Ok.journal)) c.in-Ok-find_head.head c.in-Ok-find_head.ensures in
    absurd (tail_low (ring_of c.in-Ok.journal) (ring_read (g.D.SharedDisk.state c.args.disk.now) c.args.node c.args.blocks.now) (c.in-Ok.ensures.says tells) c.live_blocks_have_numbers.ensures readable c.args.number bytes live
    c.in-Ok-find_head.head headed c.if-head-journal.true)

pub returns-in_default-find_number-clause-why : goal.returns-in_default-find_number-clause-why
returns-in_default-find_number-clause-why g c tells readable bytes live =
    let headed = head_found (head_in (ring_of c.in-Ok.journal)) c.in-Ok-find_head.head c.in-Ok-find_head.ensures in
    absurd (is_found (ring_of c.in-Ok.journal) (ring_read (g.D.SharedDisk.state c.args.disk.now) c.args.node c.args.blocks.now) (c.in-Ok.ensures.says tells) c.live_blocks_have_numbers.ensures readable c.args.number bytes live
    c.in-Ok-find_head.head headed (sym c.find_number.ensures ∙ c.in_default-find_number.is))

pub returns-then-place-journal-clause-why : goal.returns-then-place-journal-clause-why
returns-then-place-journal-clause-why g c tells readable bytes live =
    let headed = head_found (head_in (ring_of c.in-Ok.journal)) c.in-Ok-find_head.head c.in-Ok-find_head.ensures in
    absurd (place_low (ring_of c.in-Ok.journal) (ring_read (g.D.SharedDisk.state c.args.disk.now) c.args.node c.args.blocks.now) (c.in-Ok.ensures.says tells) c.live_blocks_have_numbers.ensures readable c.args.number bytes live
    c.in-Ok-find_head.head headed c.in-Some.place (sym c.find_number.ensures ∙ c.in-Some.is) c.if-place-journal.true)

pub returns-clause-number : goal.returns-clause-number
returns-clause-number g c tells readable bytes live =
    let headed = head_found (head_in (ring_of c.in-Ok.journal)) c.in-Ok-find_head.head c.in-Ok-find_head.ensures in
    number_is (ring_of c.in-Ok.journal) (ring_read (g.D.SharedDisk.state c.args.disk.now) c.args.node c.args.blocks.now) (c.in-Ok.ensures.says tells) c.live_blocks_have_numbers.ensures readable c.args.number bytes live
    c.in-Ok-find_head.head headed c.in-Some.place (sym c.find_number.ensures ∙ c.in-Some.is)
