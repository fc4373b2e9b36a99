-- One block that is put into a row of blocks.
use Rattle.std.proofs.Common.{◌≡◌, ℕ, ◌+◌, ◌*◌, ◌/◌, ◌%◌, ◌<◌, ◌≤◌, List, ◌++◌, length, take, drop, refl, ap, ◌∙◌, inl, inr, subst, arith, suc}
use Rattle.std.proofs.lemmas.List.{take_at, drop_at, take-append-le, drop-append-le, take-append-drop, length-drop, length-take-le}
use Rattle.std.proofs.lemmas.Slice.{drop-put_mid}
use Rattle.std.proofs.lemmas.Bool.{cases_lt}
use Rattle.std.proofs.Math.Nat.{mul-le-mul_right, div-mul-le_self, mod-eq-sub-div-mul}
use borrow.Rule.Slice.PartMut.{put_mid, post_of}
use Rattle.shared_disk.specs.Blocks.{block_in}
use Rattle.shared_disk.specs.Disk.{with_value}
use Rattle.shared_disk.proofs.FlightLaws.{equal, not_equal}

pub next_block : (k block size : ℕ) → k < block → k * size + size ≤ block * size
next_block k block size h =
    let step : suc k * size ≤ block * size = mul-le-mul_right size (omega arith) in
    omega arith

-- a block below the count lies in the row
pub block_within : (block size total : ℕ) → block < total / size → block * size + size ≤ total
block_within block size total h =
    let step = next_block block (total / size) size h in
    let all : total / size * size ≤ total = div-mul-le_self total size in
    omega arith

pub same_front : {X : Type 0} (n size : ℕ) (front xs ys : List X) → n + size ≤ length front → take size (drop n (front ++ xs)) ≡ take size (drop n (front ++ ys))
same_front n size front xs ys h =
    let left : n ≤ length front = omega arith in
    let room : size ≤ length (drop n front) = omega (arith, length-drop n front) in
    rw (drop-append-le n front xs left, drop-append-le n front ys left, take-append-le size (drop n front) xs room, take-append-le size (drop n front) ys room) refl

pub put_same : (block size e : ℕ) (row new : List ℕ) → block * size ≤ length row → length new ≡ size → block_in size (put_mid (block * size) e row new) block ≡ new
put_same block size e row new within is =
    rw (drop_at (take (block * size) row) (new ++ post_of (block * size) e row) (block * size) (length-take-le (block * size) row within), take_at new (post_of (block * size) e row) size is) refl

pub put_before : (k block size e : ℕ) (row new : List ℕ) → k < block → block * size ≤ length row → block_in size (put_mid (block * size) e row new) k ≡ block_in size row k
put_before k block size e row new before within =
    let step = next_block k block size before in
    let n : length (take (block * size) row) ≡ block * size = length-take-le (block * size) row within in
    same_front (k * size) size (take (block * size) row) (new ++ post_of (block * size) e row) (drop (block * size) row) (omega arith)
    ∙ ap (λ l. take size (drop (k * size) l)) (take-append-drop (block * size) row)

pub put_after : (k block size e : ℕ) (row new : List ℕ) → block < k → block * size ≤ length row → length new ≡ e → e ≡ size → block_in size (put_mid (block * size) e row new) k ≡ block_in size row k
put_after k block size e row new after within is same =
    let step = next_block block k size after in
    ap (take size) (drop-put_mid (block * size) e row new (k * size) (omega arith) within is)

-- the k-th block is the new one, and every other stays
pub block_put : (block size e : ℕ) (row new : List ℕ) → block < length row / size → length new ≡ size → e ≡ size → (k : ℕ) → block_in size (put_mid (block * size) e row new) k ≡ with_value (block_in size row) block new k
block_put block size e row new below is same k =
    let within = block_within block size (length row) below in
    elim (cases_lt k block) [
      | inl before ↦ rw (not_equal k block (λ at. omega (arith, at))) (put_before k block size e row new before (omega arith))
      | inr here_on ↦ elim (cases_lt block k) [
        | inl after ↦ rw (not_equal k block (λ at. omega (arith, at))) (put_after k block size e row new after (omega arith) (omega arith) same)
        | inr here ↦
            let at : block ≡ k = omega arith in
            let P : ℕ → Type 0 = λ i. block_in size (put_mid (block * size) e row new) i ≡ with_value (block_in size row) block new i in
            subst P at (rw (equal block block refl) (put_same block size e row new (omega arith) is))
      ]
    ]

pub block_length : (k size : ℕ) (row : List ℕ) → k < length row / size → length (block_in size row k) ≡ size
block_length k size row below =
    let within = block_within k size (length row) below in
    length-take-le size (drop (k * size) row) (omega (arith, length-drop (k * size) row))

-- whole blocks fill the row
pub whole_blocks : (total size : ℕ) → 1 ≤ size → total % size ≡ 0 → total / size * size ≡ total
whole_blocks total size some whole = omega (arith, mod-eq-sub-div-mul total size, div-mul-le_self total size)
