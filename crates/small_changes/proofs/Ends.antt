-- The block of content with a file's last byte.
use Rattle.std.proofs.Common.{◌≡◌, ◌+◌, ◌-◌, ◌/◌, ◌<◌, ◌≤◌, ℕ, ap, ◌∙◌, arith}
use Rattle.std.proofs.Math.Nat.{div-lt_iff_lt-mul}
use Rattle.std.proofs.lemmas.Nat.{le-div}
use Rattle.gfs2_layout.specs.Holding.{Holding}
use Rattle.gfs2_layout.specs.Inode.{content_block}
use Rattle.growth_laws.specs.Files.{IsFile}
use Rattle.image_model.proofs.Lengths.{size_large}
use Rattle.file_changes.proofs.Tails.{block_of_placed}
use Rattle.file_changes.specs.Grown.{IsUnclear}

-- the index of the block with the last of so many bytes
abbrev pub last_index : Holding → ℕ → ℕ
last_index h bytes = (bytes - 1) / h.size

pub last_is : (h : Holding) → IsFile h → (bytes b : ℕ) → IsUnclear h bytes b → content_block h (last_index h bytes) ≡ b
last_is h file bytes b u =
    let large : 0 < h.size = (let wide = size_large h.size file.block_size in omega (arith, wide)) in
    let low : last_index h bytes < u.index + 1 = (div-lt_iff_lt-mul large).1 (omega (arith, u.ends, u.some, u.within)) in
    let high : u.index ≤ last_index h bytes = le-div u.index (bytes - 1) h.size large (omega (arith, u.ends, u.some)) in
    ap (content_block h) (omega (arith, low, high)) ∙ block_of_placed h b u.index file u.placed
