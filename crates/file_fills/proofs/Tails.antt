-- What the last block of content carries behind the end.
use Rattle.std.proofs.Common.{◌≡◌, ◌≢◌, ◌⊎◌, inl, inr, Option, ℕ, ◌+◌, ◌-◌, ◌*◌, ◌<◌, ◌≤◌, List, ◌++◌, length, take, drop, replicate, refl, sym, ap, subst, ◌∙◌, arith}
use Rattle.std.proofs.lemmas.List.{drop_at, drop-drop, drop-replicate, length-take}
use Rattle.gfs2_layout.specs.Bytes.{put_at}
use Rattle.gfs2_layout.specs.Holding.{Cell, Holding, bytes_at}
use Rattle.gfs2_layout.specs.Inode.{content_block, content_count, height_in}
use Rattle.growth_laws.specs.Files.{IsFile, IsPlaced, block_on, with_cells}
use Rattle.growth_laws.specs.Steps.{IsClearFrom}
use Rattle.growth_laws.proofs.Contents.{content_part}
use Rattle.growth_laws.proofs.Parts.{some_part}
use Rattle.growth_laws.proofs.Places.{content_is_level_zero, place_of_part}
use Rattle.growth_laws.proofs.Trees.{part_within}

-- a block placed on the level of content is the block of content there
pub block_of_placed : (h : Holding) (c i : ℕ) → IsFile h → IsPlaced h c 0 i → content_block h i ≡ c
block_of_placed h c i file placed =
    let found = place_of_part h file c 0 i placed in
    let same : i ≡ found.0 = omega (arith, found.1) in
    content_is_level_zero h i ∙ ap (block_on h 0) same ∙ found.3

-- Where each block of content has behind a place what it had, or is a block of zeros, a file that was clear from before that place on is clear from there on.
pub clear_along : (h : Holding) (cell : ℕ → Option Cell) (from to : ℕ) → IsFile h → IsFile (with_cells h cell) → height_in (with_cells h cell) ≢ 0 → from ≤ to → IsClearFrom h from
    → ((c i : ℕ) → IsPlaced (with_cells h cell) c 0 i
    → (IsPlaced h c 0 i × (drop (to - i * h.size) (bytes_at (with_cells h cell) c) ≡ drop (to - i * h.size) (bytes_at h c))) ⊎ (bytes_at (with_cells h cell) c ≡ replicate h.size 0))
    → IsClearFrom (with_cells h cell) to
clear_along h cell from to file file' high up clear each i some low past = elim (each (content_block (with_cells h cell) i) i (content_part (with_cells h cell) file' high i low some)) [
  | inl (was, same) ↦
      let here : content_block h i ≡ content_block (with_cells h cell) i = block_of_placed h (content_block (with_cells h cell) i) i file was in
      let inside : i < content_count h = part_within h file (content_block (with_cells h cell) i) was.0 was.1 0 i was.2 in
      let zeros = clear i (λ none. some (sym here ∙ none)) inside (omega (arith, past, up)) in
      same ∙ ap (λ c. drop (to - i * h.size) (bytes_at h c)) (sym here) ∙ further (bytes_at h (content_block h i)) (from - i * h.size) (to - i * h.size) (omega (arith, up)) zeros
  | inr zeros ↦ ap (drop (to - i * h.size)) zeros ∙ drop-replicate (to - i * h.size) h.size 0
]
  where
    further : (xs : List ℕ) (a b : ℕ) → a ≤ b → drop a xs ≡ replicate (h.size - a) 0 → drop b xs ≡ replicate (h.size - b) 0
    further xs a b least zeros =
        let sum : b ≡ a + (b - a) = omega (arith, least) in
        let rest : h.size - a - (b - a) ≡ h.size - b = omega (arith, least) in
        ap (λ n. drop n xs) sum ∙ sym (drop-drop (b - a) a xs) ∙ ap (drop (b - a)) zeros ∙ drop-replicate (b - a) (h.size - a) 0 ∙ ap (λ n. replicate n 0) rest

-- bytes that are put over others leave those behind them
pub put_leaves : (off n : ℕ) (piece bytes : List ℕ) → off ≤ length bytes → off + length piece ≤ n → drop n (put_at off piece bytes) ≡ drop n bytes
put_leaves off n piece bytes low far =
    let at : length (take off bytes) ≡ off = omega (arith, length-take off bytes, low) in
    let sum : n ≡ off + (length piece + (n - (off + length piece))) = omega (arith, far) in
    let back : off + length piece + (n - (off + length piece)) ≡ n = omega (arith, far) in
    ap (λ m. drop m (put_at off piece bytes)) sum ∙ sym (drop-drop (length piece + (n - (off + length piece))) off (put_at off piece bytes))
    ∙ ap (drop (length piece + (n - (off + length piece)))) (drop_at (take off bytes) (piece ++ drop (off + length piece) bytes) off at)
    ∙ sym (drop-drop (n - (off + length piece)) (length piece) (piece ++ drop (off + length piece) bytes))
    ∙ ap (drop (n - (off + length piece))) (drop_at piece (drop (off + length piece) bytes) (length piece) refl)
    ∙ drop-drop (n - (off + length piece)) (off + length piece) bytes ∙ ap (λ m. drop m bytes) back
