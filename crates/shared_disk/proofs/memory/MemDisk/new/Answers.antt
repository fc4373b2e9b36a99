use Rattle.std.proofs.Common.{ℕ, ◌≡◌, ◌*◌, ◌/◌, length, sym, ap, ◌∙◌, subst, arith}
use Rattle.shared_disk.specs.Nodes.{NodeStates}
use Rattle.shared_disk.specs.Outcomes.{AreOfSize}
use Rattle.shared_disk.proofs.BlockLaws.{whole_blocks}
use Rattle.shared_disk.proofs.memory.MemDisk.new.Goals as goal

pub invariant_of-result : goal.invariant_of-result
invariant_of-result c =
    let n = c.in_ok-new.field-0 in
    let made = c.in_ok-new.ensures in
    let kept = c.in_ok-no_operations.ensures in
    let len : c.len.result ≡ length c.args.bytes.items = omega (arith, c.len.ensures, c.args.bytes.ok) in
    let size : n.size ≡ c.args.block_size = ap (λ (v : NodeStates). v.size) made in
    let count : n.count ≡ length c.args.bytes.items / c.args.block_size = ap (λ (v : NodeStates). v.count) made ∙ ap (λ (k : ℕ). k / c.args.block_size) len in
    let P : ℕ → Type 0 = λ k. AreOfSize k c.args.outcomes.items in (
      count ∙ ap (λ (k : ℕ). length c.args.bytes.items / k) (sym size),
      ap (λ (v : NodeStates). v.count * v.size) made ∙ ap (λ (k : ℕ). k / c.args.block_size * c.args.block_size) len ∙ whole_blocks (length c.args.bytes.items) c.args.block_size c.requires.size c.requires.whole,
      omega arith,
      subst P (sym size) c.requires.outcomes,
      kept.kept,
      kept.size ∙ sym size,
    )
