-- The bytes of a table that is twice as long, as they are read and put together.
use Rattle.std.proofs.Common.{◌≡◌, ℕ, zero, suc, ◌+◌, ◌-◌, ◌*◌, ◌/◌, ◌^◌, ◌<◌, ◌≤◌, min, List, length, take, drop, refl, ap, ◌∙◌, arith}
use Rattle.gfs2_layout.specs.Bytes.{u64_at}
use Rattle.gfs2_layout.specs.Holding.{Holding}
use Rattle.gfs2_layout.specs.Inode.{content_of, dinode_in, entry, pieces, table_count}
use Rattle.glock_names.specs.Views.{Seen}
use Rattle.dinode_tree.specs.Reading.{content_range}
use Rattle.table_files.specs.Files.{AreDoubledPointers}
use Rattle.table_files.proofs.Entries.{in_front, u64_same}
use Rattle.table_files.proofs.Pieces.{piece_begins}
use Rattle.table_files.specs.TreePointers.{IsTableOf}
use Rattle.table_files.specs.tree_table.TreeTable.{TreeTable}

-- the blocks of the longest table are short
pub bytes_short : (size n : ℕ) → 512 ≤ size → size ≤ 4096 → n ≤ 524288 → pieces n (size - 24) * size ≤ 67108864
bytes_short size n large small few = by (pieces n (size - 24)) refl
  where
    u : ℕ
    u = size - 24

    by : (m : ℕ) → pieces n (size - 24) ≡ m → m * size ≤ 67108864
    by zero none = omega arith
    by (suc m) some =
        let begins : m * (size - 24) < n = piece_begins n (size - 24) m (omega (arith, large)) (omega (arith, some)) in
        let wide : m ≤ m * (size - 24) = widen m (size - 24) (omega (arith, large)) in
        let size_is : size ≡ size - 24 + 24 = omega (arith, large) in
        let spread : suc m * (size - 24 + 24) ≡ m * (size - 24) + (size - 24) + 24 * suc m = spreads m (size - 24) in
        let all : suc m * size ≡ m * (size - 24) + (size - 24) + 24 * suc m = ap (λ s. suc m * s) size_is ∙ spread in
        omega (arith, all, begins, wide, few, small)
      where
        widen : (a b : ℕ) → 1 ≤ b → a ≤ a * b
        widen zero b some' = omega arith
        widen (suc a) b some' = let rest = widen a b some' in let step : suc a * b ≡ a * b + b = omega arith in omega (arith, rest, step, some')

        spreads : (a b : ℕ) → suc a * (b + 24) ≡ a * b + b + 24 * suc a
        spreads a b = omega arith

-- the pointers that were read, each of them twice
pub doubled_pointers : (t : TreeTable) (v : Seen) (h : Holding) (content pointers : List ℕ) (len : ℕ) → IsTableOf t v h → len ≡ 8 * 2 ^ t.depth → content ≡ content_range h 0 len → length content ≡ min len ((dinode_in h).size - 0)
    → length pointers ≡ 8 * (2 * (length content / 8)) → ((i : ℕ) → i < 2 * (length content / 8) → u64_at (8 * i) pointers ≡ u64_at (8 * (i / 2)) content) → AreDoubledPointers h pointers
doubled_pointers t v h content pointers len table all is long twice each = record {
  long = twice ∙ ap (λ n. 8 * (2 * n)) half;
  each = λ i low. each i (omega (arith, low, half)) ∙ read (i / 2) (omega (arith, low));
}
  where
    count_is : 2 ^ t.depth ≡ table_count h
    count_is = ap (λ n. 2 ^ n) table.depth

    half : length content / 8 ≡ table_count h
    half = let eight : length content ≡ 8 * table_count h = omega (arith, long, all, table.size, count_is) in omega (arith, eight)

    read : (i : ℕ) → i < table_count h → u64_at (8 * i) content ≡ entry h i
    read i low = ap (u64_at (8 * i)) is ∙ u64_same (8 * i) (8 * i) (take len (drop 0 (content_of h))) (content_of h) (in_front len (8 * i) (content_of h) (omega (arith, all, count_is, low)))
