use Rattle.std.proofs.Common.{◌+◌, ◌<◌, ◌≤◌, ◌-◌, [], None, Ok, refl, sym, ◌∙◌, arith}
use Rattle.std.specs.Prelude.{map}
use Rattle.log_layout.specs.Chunks.{nothing}
use Rattle.log_layout.specs.Journal.{blocks_from}
use Rattle.log_layout.specs.Transactions.{reading}
use Rattle.journal_scan.specs.Images.{ring_of}
use Rattle.journal_scan.specs.Said.{IsFaultOf, says_at}
use Rattle.journal_scan.specs.declared.fault.ScanFault.{ScanFault}
use Rattle.journal_scan.proofs.Steps.{on_start, on_more, on_bad, on_end, handed_on}
use Rattle.journal_scan.proofs.scanning.scan_from.Goals as goal

pub loop-taken-init : goal.loop-taken-init
loop-taken-init c =
    on_start c.args.j.now c.args.tail c.args.count c.new-scan.result c.requires.inside (c.new-scan.ensures.fit c.args.j.now.block_size) (c.new-scan.ensures.start c.args.j.now.block_size)

pub returns-in_err-take-clause-bad : goal.returns-in_err-take-clause-bad
returns-in_err-take-clause-bad c =
    let less : c.loop-taken.taken < c.args.count + 1 = omega (arith, c.loop-taken-test.true) in
    let P : ScanFault → Type 0 = λ f. IsFaultOf f (reading c.args.j.now.block_size [] None nothing (blocks_from (ring_of c.args.j.now) c.args.tail (c.args.count + 1))) in
    handed_on c.from_residual.result _ P c.from_residual.ensures.1
    (on_bad c.args.j.now c.args.tail c.args.count c.loop-taken.place c.loop-taken.taken c.loop-taken.scan c.block-block.result.now (c.args.count - c.loop-taken.taken) _
    c.loop-taken.invariant less c.block-block.ensures.block c.block-block.ensures.size refl c.in_err-take.ensures.bad)

pub loop-taken-preserved : goal.loop-taken-preserved
loop-taken-preserved c =
    let less : c.loop-taken.taken < c.args.count + 1 = omega (arith, c.loop-taken-test.true) in
    on_more c.args.j.now c.args.tail c.args.count c.loop-taken.place c.loop-taken.taken c.loop-taken.scan c.take.new.self c.block-block.result.now c.next_place-place.result (c.loop-taken.taken + 1) (c.args.count - c.loop-taken.taken)
    c.loop-taken.invariant less c.block-block.ensures.block c.block-block.ensures.size refl c.next_place-place.ensures.value c.next_place-place.ensures.inside refl c.in_ok-take.ensures.takes c.in_ok-take.ensures.fit

pub returns-clause-read : goal.returns-clause-read
returns-clause-read c =
    let all : c.args.count + 1 ≤ c.loop-taken.taken = omega (arith, c.loop-taken-test.false) in
    on_end c.args.j.now c.args.tail c.args.count c.loop-taken.place c.loop-taken.taken c.loop-taken.scan c.loop-taken.invariant all
    ∙ (λ t. Ok (map says_at (sym c.into_done.ensures t).items))
