-- What stands past the end of a file.
use Rattle.std.proofs.Common.{◌≡◌, ◌≢◌, ℕ, suc, ◌+◌, ◌-◌, ◌*◌, ◌/◌, ◌%◌, ◌<◌, ◌≤◌, inl, inr, length, drop, sym, ap, ◌∙◌, arith}
use Rattle.std.proofs.lemmas.Bool.{cases_eq, cases_lt}
use Rattle.std.proofs.lemmas.List.{get_or-take, drop_at}
use Rattle.std.proofs.lemmas.Nat.{div-add-mod'}
use Rattle.std.proofs.Math.Nat.{div-lt_iff_lt-mul, mul-le-mul_right}
use Rattle.std.specs.Prelude.{replicate}
use Rattle.gfs2_layout.specs.Holding.{Holding, bytes_at}
use Rattle.gfs2_layout.specs.Inode.{dinode_in, height_in, carried, content_block, pieces, content_count, content_of}
use Rattle.growth_laws.specs.Files.{IsFile, with_cells, block_on, IsPlaced}
use Rattle.growth_laws.specs.Growing.{PutsPastTheEnd, ZerosAreClear, WholeFilesAreClear, HolesAreClear, RisesStayClear, MovedContentIsClear, BareFilesAreClear}
use Rattle.growth_laws.proofs.Bare as bare
use Rattle.growth_laws.proofs.Bytes.{byte, same_bytes}
use Rattle.growth_laws.proofs.Contents.{whole_unit, content_part, content_length, content_byte, carried_block}
use Rattle.growth_laws.proofs.Parts.{same_first}
use Rattle.growth_laws.proofs.Places.{size_large, place_of_part, content_is_level_zero}
use Rattle.growth_laws.proofs.Puts as puts
use Rattle.growth_laws.proofs.Raises as raised
use Rattle.growth_laws.proofs.Unstuffing as unstuffed

pub puts_past_the_end : PutsPastTheEnd
puts_past_the_end h cell i new file put same = (puts.file_after h cell i new file put, same_bytes _ _ (puts.content_length_after h cell i new file put ∙ sym (content_length h file put.in_blocks)) each)
  where
    here : (n : ℕ) → n < (dinode_in h).size → n / h.size ≡ i → byte (content_of (with_cells h cell)) n ≡ byte (content_of h) n
    here n low is =
        let split : n / h.size * h.size + n % h.size ≡ n = div-add-mod' n h.size in
        let place : i * h.size + n % h.size ≡ n = ap (λ q. q * h.size + n % h.size) (sym is) ∙ split in
        let inside : n % h.size < (dinode_in h).size - i * h.size = omega (arith, place, low) in
        let now : byte (content_of (with_cells h cell)) n ≡ byte new (n % h.size)
        = puts.content_byte_after h cell i new file put n low ∙ ap (λ q. byte (carried (with_cells h cell) (content_block (with_cells h cell) q)) (n % h.size)) is ∙ ap (λ xs. byte xs (n % h.size)) (puts.carried_here h cell i new file put) in
        let was : byte (content_of h) n ≡ byte (bytes_at h (content_block h i)) (n % h.size)
        = (content_byte h file put.in_blocks n low).1 ∙ ap (λ q. byte (carried h (content_block h q)) (n % h.size)) is ∙ ap (λ xs. byte xs (n % h.size)) (carried_block h (content_block h i) file.regular put.there) in
        now ∙ sym (get_or-take ((dinode_in h).size - i * h.size) new (n % h.size) 0 inside) ∙ ap (λ xs. byte xs (n % h.size)) same
        ∙ get_or-take ((dinode_in h).size - i * h.size) (bytes_at h (content_block h i)) (n % h.size) 0 inside ∙ sym was

    elsewhere : (n : ℕ) → n < (dinode_in h).size → n / h.size ≢ i → byte (content_of (with_cells h cell)) n ≡ byte (content_of h) n
    elsewhere n low other =
        let was = content_byte h file put.in_blocks n low in
        puts.content_byte_after h cell i new file put n low ∙ ap (λ xs. byte xs (n % h.size)) (puts.carried_other h cell i new file put (n / h.size) was.0 other) ∙ sym was.1

    each : (n : ℕ) → n < length (content_of (with_cells h cell)) → byte (content_of (with_cells h cell)) n ≡ byte (content_of h) n
    each n low =
        let less : n < (dinode_in h).size = omega (arith, low, puts.content_length_after h cell i new file put) in
        elim (cases_eq (n / h.size) i) [ inl is ↦ here n less is | inr other ↦ elsewhere n less other ]

-- a piece begins before the end
piece_begins : (i size u : ℕ) → 0 < u → i < pieces size u → i * u < size
piece_begins i size u some low = elim (cases_lt (i * u) size) [
  | inl less ↦ less
  | inr far ↦ let few : pieces size u < suc i = (div-lt_iff_lt-mul some).1 (let short : size + u - 1 < suc i * u = omega (arith, far, some) in short) in absurd (omega (arith, few, low))
]

-- the last one alone ends past it
last_alone : (h : Holding) (i j : ℕ) → IsFile h → i + 1 ≡ content_count h → j < content_count h → (dinode_in h).size < (j + 1) * h.size → j ≡ i
last_alone h i j file last low past = elim (cases_lt j i) [
  | inl less ↦
      let some : 0 < h.size = omega (arith, size_large h.size file.block_size) in
      let count : content_count h ≡ pieces (dinode_in h).size h.size = ap (pieces (dinode_in h).size) (whole_unit h file.regular) in
      let begins : i * h.size < (dinode_in h).size = piece_begins i (dinode_in h).size h.size some (omega (arith, last, count)) in
      let up : (j + 1) * h.size ≤ i * h.size = mul-le-mul_right h.size (let next : j + 1 ≤ i = omega (arith, less) in next) in
      absurd (omega (arith, begins, up, past))
  | inr far ↦ omega (arith, far, last, low)
]

pub zeros_are_clear : ZerosAreClear
zeros_are_clear h cell i new file put last clear j some low past =
    let file' = puts.file_after h cell i new file put in
    let sizes : (dinode_in (with_cells h cell)).size ≡ (dinode_in h).size = puts.size_same h cell i new file put in
    let counts : content_count (with_cells h cell) ≡ content_count h = puts.count_same h cell i new file put in
    let same : j ≡ i = last_alone h i j file last (omega (arith, low, counts)) past in
    let here : content_block (with_cells h cell) j ≡ content_block h i = ap (content_block (with_cells h cell)) same ∙ puts.block_same h cell i new file put i put.within in
    let bytes : bytes_at (with_cells h cell) (content_block (with_cells h cell) j) ≡ new = ap (bytes_at (with_cells h cell)) here ∙ put.bytes in
    (λ t. drop ((dinode_in h).size - same t * h.size) (bytes t)) ∙ clear ∙ sym (ap (λ k. replicate (h.size - ((dinode_in h).size - k * h.size)) 0) same)

pub whole_files_are_clear : WholeFilesAreClear
whole_files_are_clear h file whole j some low past =
    let up : (j + 1) * h.size ≤ content_count h * h.size = mul-le-mul_right h.size (let next : j + 1 ≤ content_count h = omega (arith, low) in next) in
    absurd (omega (arith, whole, up, past))

pub holes_are_clear : HolesAreClear
holes_are_clear h i file last hole j some low past = absurd (some (ap (content_block h) (last_alone h i j file last low past) ∙ hole))

-- ---- higher files

-- a block placed on the level of content is the block of content there
block_of_placed : (h : Holding) (c i : ℕ) → IsFile h → IsPlaced h c 0 i → content_block h i ≡ c
block_of_placed h c i file placed =
    let found = place_of_part h file c 0 i placed in
    let same : i ≡ found.0 = omega (arith, found.1) in
    content_is_level_zero h i ∙ ap (block_on h 0) same ∙ found.3

pub rises_stay_clear : RisesStayClear
rises_stay_clear h cell level b from file f clear i some low past =
    let file' = raised.file_after h cell level b file f in
    let high : height_in h ≢ 0 = λ e. omega (arith, e, f.high) in
    let high' : height_in (with_cells h cell) ≢ 0 = λ e. omega (arith, e, raised.height_is h cell level b file f) in
    let counts : content_count (with_cells h cell) ≡ content_count h = raised.count_same h cell level b file f in
    let placed' : IsPlaced (with_cells h cell) (content_block (with_cells h cell) i) 0 i = content_part (with_cells h cell) file' high' i low some in
    let placed : IsPlaced h (content_block (with_cells h cell) i) 0 i = raised.placed_back h cell level b file f (content_block (with_cells h cell) i) 0 i (omega arith) placed' in
    let same : content_block h i ≡ content_block (with_cells h cell) i = block_of_placed h (content_block (with_cells h cell) i) i file placed in
    let bytes : bytes_at (with_cells h cell) (content_block (with_cells h cell) i) ≡ bytes_at h (content_block h i)
    = raised.bytes_stay h cell level b file f (content_block (with_cells h cell) i) placed.0 placed.1 0 i placed.2 ∙ ap (bytes_at h) (sym same) in
    ap (drop (from - i * h.size)) bytes ∙ clear i (λ none. some (sym same ∙ none)) (omega (arith, low, counts)) past

pub moved_content_is_clear : MovedContentIsClear
moved_content_is_clear h cell b file f i some low past =
    let file' = unstuffed.file_after h cell b file f in
    let high' : height_in (with_cells h cell) ≢ 0 = λ e. omega (arith, e, unstuffed.height_is h cell b file f) in
    let placed : IsPlaced (with_cells h cell) (content_block (with_cells h cell) i) 0 i = content_part (with_cells h cell) file' high' i low some in
    let new = unstuffed.only_new h cell b file f (content_block (with_cells h cell) i) placed.0 placed.1 0 i placed.2 in
    let none : i ≡ 0 = same_first new.1 in
    let at : (dinode_in h).size - i * h.size ≡ (dinode_in h).size = nothing (dinode_in h).size i h.size none in
    let bytes : bytes_at (with_cells h cell) (content_block (with_cells h cell) i) ≡ _ = ap (bytes_at (with_cells h cell)) new.0 ∙ f.bytes in
    (λ t. drop (at t) (bytes t)) ∙ drop_at (content_of h) (replicate (h.size - (dinode_in h).size) 0) (dinode_in h).size (unstuffed.content_size h cell b file f)
    ∙ sym (ap (λ n. replicate (h.size - n) 0) at)
  where
    nothing : (n i u : ℕ) → i ≡ 0 → n - i * u ≡ n
    nothing n i u none = ap (λ k. n - k * u) none ∙ omega arith

pub bare_files_are_clear : BareFilesAreClear
bare_files_are_clear h cell height from file f high i some low past =
    let file' = bare.bare_file h cell height file f in
    let high' : height_in (with_cells h cell) ≢ 0 = λ e. high (sym (bare.height_is h cell height file f) ∙ e) in
    let placed : IsPlaced (with_cells h cell) (content_block (with_cells h cell) i) 0 i = content_part (with_cells h cell) file' high' i low some in
    absurd (f.bare _ _ _ _ _ (sym (f.parts _) ∙ placed.2))
