-- The bytes of blocks that are made from what stands behind a dinode.
use Rattle.std.proofs.Common.{◌≡◌, ℕ, ◌+◌, ◌-◌, ◌≤◌, List, ◌++◌, length, take, drop, sym, ap, ap₂, ◌∙◌, arith}
use Rattle.std.proofs.lemmas.List.{length-take, length-drop, drop-replicate}
use Rattle.std.proofs.Math.Seq.{take-length}
use Rattle.std.specs.Prelude.{replicate}
use Rattle.gfs2_layout.specs.Bytes.{put_at}
use Rattle.gfs2_layout.specs.Structures.{dinode_length}
use Rattle.growth_steps.specs.Heights.{moved_bytes, raised_bytes}
use Rattle.growth_steps.specs.New.{new_bytes}

pub moved_made : (size n : ℕ) (block zeros : List ℕ) → dinode_length + size ≤ length block → n ≡ size → zeros ≡ replicate (length block) 0
    → put_at 0 (take n (drop dinode_length block)) zeros ≡ moved_bytes size block
moved_made size n block zeros fits same are =
    let part = take size (drop dinode_length block) in
    let long : length (take size (drop dinode_length block)) ≡ size = omega (arith, length-take size (drop dinode_length block), length-drop dinode_length block, fits) in
    let end : 0 + length (take size (drop dinode_length block)) ≡ size = omega (arith, long) in
    (λ t. put_at 0 (take (same t) (drop dinode_length block)) (are t))
    ∙ ap (λ k. take size (drop dinode_length block) ++ drop k (replicate (length block) 0)) end ∙ ap (λ xs. take size (drop dinode_length block) ++ xs) (drop-replicate size (length block) 0)

pub raised_made : (n : ℕ) (block made : List ℕ) → n ≡ length block - dinode_length → made ≡ new_bytes (length block) 1
    → put_at 24 (take n (drop dinode_length block)) made ≡ raised_bytes block
raised_made n block made same are =
    let whole : n ≡ length (drop dinode_length block) = same ∙ sym (length-drop dinode_length block) in
    ap₂ (put_at 24) (ap (λ k. take k (drop dinode_length block)) whole ∙ take-length (drop dinode_length block)) are
