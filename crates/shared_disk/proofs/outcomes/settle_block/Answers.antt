use Rattle.std.proofs.Common.{◌≡◌, ◌-◌, ◌+◌, ◌*◌, List, ℕ, length, take, drop, ap, ◌∙◌, arith}
use Rattle.shared_disk.specs.Blocks.{block_in}
use Rattle.shared_disk.specs.Disk.{with_value}
use Rattle.shared_disk.specs.Outcomes.{fate}
use Rattle.shared_disk.proofs.BlockLaws.{block_put, block_length}
use Rattle.shared_disk.proofs.outcomes.settle_block.Goals as goal

pub returns : goal.returns
returns c = λ k.
    let row = c.args.row.now in
    let size = c.args.size in
    let block = c.args.block in
    let new = c.settle.new.block in
    let e : block * size + size - block * size ≡ size = omega arith in
    let settled : new ≡ fate c.args.order c.args.outcomes.now (block_in size row block) c.args.new.now =
    c.settle.ensures
    ∙ ap (λ (n : ℕ). fate c.args.order c.args.outcomes.now (take n (drop (block * size) row)) c.args.new.now) e in
    let same : length new ≡ size = c.settle.auto.block ∙ ap (λ (n : ℕ). length (take n (drop (block * size) row))) e ∙ block_length block size row c.requires.within in
    block_put block size (block * size + size - block * size) row new c.requires.within same e k
    ∙ ap (λ (b : List ℕ). with_value (block_in size row) block b k) settled
