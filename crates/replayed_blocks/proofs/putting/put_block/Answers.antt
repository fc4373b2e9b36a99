use Rattle.std.proofs.Common.{◌≡◌, List, ℕ, length, ap, ◌∙◌, arith}
use Rattle.shared_disk.specs.Blocks.{block_in}
use Rattle.shared_disk.specs.Disk.{with_value}
use Rattle.shared_disk.proofs.BlockLaws.{block_put}
use Rattle.replayed_blocks.proofs.putting.put_block.Goals as goal

pub returns-clause-blocks : goal.returns-clause-blocks
returns-clause-blocks c = λ k.
    let new = c.args.new.now in
    let copied : c.copy_from_slice.new.self ≡ new = c.copy_from_slice.ensures.after in
    block_put c.args.block c.args.size _ c.args.row.now c.copy_from_slice.new.self c.requires.within (ap length copied ∙ c.requires.size) (omega arith) k
    ∙ ap (λ (b : List ℕ). with_value (block_in c.args.size c.args.row.now) c.args.block b k) copied
