-- What the blocks of a sound directory are to those that write them.
use Rattle.std.proofs.Common.{◌≡◌, ◌≢◌, ℕ, zero, suc, ◌+◌, ◌^◌, ◌<◌, ◌≤◌, List, [], length, drop, Option, None, Some, Ok, refl, ap, subst, true, length-drop, arith}
use Rattle.std.specs.Prelude.{filter, IsSome, is_some}
use Rattle.std.specs.List.{range_with_len}
use Rattle.std.proofs.lemmas.Bool.Decides.{nat_tests}
use Rattle.std.proofs.lemmas.List.{length-map}
use Rattle.std.proofs.lemmas.List.FromFn.{length-range_with_len}
use Rattle.std.proofs.lemmas.List.Sums.{count_by-le-length, length-filter}
use Rattle.gfs2_layout.specs.Area.{Slot, slots_of, slots_within}
use Rattle.gfs2_layout.specs.Device.{IsBlockSize}
use Rattle.gfs2_layout.specs.Headers.{HasHeader}
use Rattle.gfs2_layout.specs.Holding.{Holding, Cell, Itself, InChain, part_at, bytes_at}
use Rattle.gfs2_layout.specs.Inode.{IsLeaf, block_count, dinode_in, is_hashed_in, leaf_area, leaf_length}
use Rattle.gfs2_layout.specs.Records.{record_of, records_in}
use Rattle.gfs2_layout.specs.Structures.{answer, dinode_length, dinode_of, dinode_read, header_fault, is_in_use, leaf_of}
use Rattle.gfs2_layout.specs.declared.dinode.Dinode.{Dinode}
use Rattle.gfs2_layout.specs.declared.fault.LayoutFault.{LayoutFault}
use Rattle.linear_dirs.specs.Reading.{told_in}
use Rattle.hash_steps.specs.Shown.{IsSound}
use Rattle.hash_steps.proofs.Chained.{rules}
use Rattle.hash_steps.proofs.ChainLeaves.{read_well}
use Rattle.hash_steps.specs.Leaves.{has_room_for}
use Rattle.pointer_tables.specs.Directories.{IsTreeSound, IsPlaced}
use Rattle.hash_inserts.specs.Drafting.{with_block}
use Rattle.hash_inserts.proofs.Blocks.{counts_more}
use Rattle.hash_inserts.specs.Writing.{CanCount, CanTake, IsLeafBlock}

-- ---- there are few records in an area, and few blocks

few_within : (most : ℕ) (bytes : List ℕ) → length (slots_within most bytes) ≤ most
few_within zero bytes = omega arith
few_within (suc most) bytes = grind (arith, few_within most)

few_slots : (area : List ℕ) → length (slots_of area) ≤ length area
unfolding slots_of
few_slots area = few_within (length area) area

few_told : (slots : List Slot) → length (told_in slots) ≤ length slots
few_told slots = omega (arith, length-map (filter (λ (s : Slot). is_in_use s.head) slots) record_of, length-filter (λ (s : Slot). is_in_use s.head) slots, count_by-le-length (λ (s : Slot). is_in_use s.head) slots)

few_in : (area : List ℕ) → length (records_in area) ≤ length area
unfolding records_in
few_in area = omega (arith, few_told (slots_of area), few_slots area)

pub few_blocks : (h : Holding) → block_count h ≤ h.count
unfolding block_count
few_blocks h = omega (arith, count_by-le-length (λ b. is_some (h.cell b)) (range_with_len 0 h.count), length-range_with_len 0 h.count)

pub size_bounds : (n : ℕ) → IsBlockSize n → (512 ≤ n) × (n ≤ 4096)
size_bounds n is = (omega arith, omega arith)

-- ---- a leaf's block

rest_long : (bytes : List ℕ) → length (drop leaf_length bytes) ≤ length bytes
rest_long bytes = omega (arith, length-drop leaf_length bytes)

module _ (h : Holding) (sound : IsSound h) (hashed : is_hashed_in h ≡ true) (x hash place : ℕ) (part : part_at h x ≡ Some (InChain hash place)) where
  long : length (bytes_at h x) ≡ h.size
  long = sound.inode.whole x (InChain hash place) part

  leaf : IsLeaf h hash x
  leaf = (rules h sound hashed).leaves x hash place part

  pub leaf_block : IsLeafBlock (bytes_at h x)
  leaf_block =
      let bounds = size_bounds h.size sound.block_size in
      let large : leaf_length ≤ length (bytes_at h x) = omega (arith, long, bounds.0) in
      record {
        long = large;
        short = omega (arith, long, bounds.1);
        read = read_well (bytes_at h x) large leaf.header leaf.records_format;
        area = leaf.area.fills;
      }

  few_there : (leaf_of (bytes_at h x)).entries ≤ 4096
  few_there = omega (arith, leaf.entries, few_in (leaf_area h x), rest_long (bytes_at h x), leaf_block.short)

  pub can_take : (len : ℕ) → has_room_for len (slots_of (leaf_area h x)) ≡ true → CanTake (bytes_at h x) len
  can_take len room = record { block = leaf_block; room = room; counts = omega (arith, few_there) }

-- ---- the dinode's

header_well : (bytes : List ℕ) → dinode_length ≤ length bytes → HasHeader 4 400 bytes → header_fault dinode_length 4 400 bytes ≡ None
header_well bytes long header = grind (arith, nat_tests, header.magic_is, header.kind_is, header.format_is)

module _ (h : Holding) (large : IsBlockSize h.size) (tree : IsTreeSound h) (placed : IsPlaced h) where
  pub own_read : dinode_read (bytes_at h h.own) ≡ Ok (dinode_of (bytes_at h h.own))
  own_read = ap (λ (o : Option LayoutFault). answer o (dinode_of (bytes_at h h.own)))
      (header_well (bytes_at h h.own) (omega (arith, tree.whole h.own Itself placed.own, (size_bounds h.size large).0)) tree.header)

  pub dinode_own : dinode_in h ≡ dinode_of (bytes_at h h.own)
  unfolding dinode_in
  dinode_own = refl

  pub can_count : (records links blocks : ℕ) → (1 ≤ records → (dinode_in h).entries + records < 2 ^ 32) → (1 ≤ links → (dinode_in h).nlink + links < 2 ^ 32) → (1 ≤ blocks → (dinode_in h).blocks + blocks < 2 ^ 64) → CanCount (bytes_at h h.own) records links blocks
  can_count records links blocks a b c = record {
    read = own_read;
    records_fit = subst (λ (d : Dinode). 1 ≤ records → d.entries + records < 2 ^ 32) dinode_own a;
    links_fit = subst (λ (d : Dinode). 1 ≤ links → d.nlink + links < 2 ^ 32) dinode_own b;
    blocks_fit = subst (λ (d : Dinode). 1 ≤ blocks → d.blocks + blocks < 2 ^ 64) dinode_own c;
  }

  -- a block more can be counted
  pub can_grow : (b : ℕ) → h.cell b ≡ None → b < h.count → h.count < 2 ^ 64 → CanCount (bytes_at h h.own) 0 0 1
  can_grow b new inside few = can_count 0 0 1 (λ some. absurd (none some)) (λ some. absurd (none some))
      (λ _. omega (arith, tree.blocks, counts_more h b Itself [] new inside, few_blocks (with_block h b Itself []), few))
    where
      none : 1 ≤ 0 → ⊥
      none some = omega arith

  pub few_counted : (dinode_in h).blocks ≤ h.count
  few_counted = omega (arith, tree.blocks, few_blocks h)

-- ---- blocks that a directory hasn't, and those that it has

pub free_apart : (h : Holding) (b x : ℕ) → h.cell b ≡ None → IsSome (h.cell x) → x ≢ b
free_apart h b x new some is = no (h.cell b) new (subst (λ y. IsSome (h.cell y)) is some)
  where
    no : (c : Option Cell) → c ≡ None → IsSome c → ⊥
    no None e s = cc
    no (Some c) e s = cc

pub same_some : (x y : ℕ) → Some x ≡ Some y → x ≡ y
same_some x y e = cc
