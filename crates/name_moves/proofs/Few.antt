-- In an image that the view may be of: a directory's dinode can count one record more, since the image is small.
use Rattle.std.proofs.Common.{◌≡◌, ◌⊎◌, inl, inr, ℕ, zero, suc, ◌-◌, ◌*◌, ◌<◌, ◌≤◌, true, List, [], ◌∷◌, length, Option, None, Some, refl, sym, ap, subst, arith, length-append, length-drop}
use Rattle.std.proofs.lemmas.Bool.{cases_Bool, cases_lt, cond-true, cond-false}
use Rattle.std.proofs.lemmas.List.{length-map}
use Rattle.std.proofs.lemmas.List.FromFn.{length-range_with_len}
use Rattle.std.proofs.lemmas.List.Sums.{count_by-le-length, length-filter}
use Rattle.std.specs.Prelude.{◌&&◌, ◌==◌, not, filter, flat_map}
use Rattle.std.specs.List.{AllByRecursion, range_with_len}
use Rattle.file_tree.specs.Tree.{Tree}
use Rattle.gfs2_layout.specs.Area.{Slot, slots_of, slots_within}
use Rattle.gfs2_layout.specs.Device.{IsBlockSize, superblock_place}
use Rattle.gfs2_layout.specs.Exchanges.{directory_count}
use Rattle.gfs2_layout.specs.Holding.{Cell, Holding, bytes_at, cell_bytes, cell_part, part_at}
use Rattle.gfs2_layout.specs.Inode.{IsInode, dinode_in, is_hashed_in, is_leaf_part, leaf_area, leaf_length, leaves_of, linear_area, records_of}
use Rattle.gfs2_layout.specs.Records.{Record, is_dots, record_of, records_in}
use Rattle.gfs2_layout.specs.Structures.{dinode_length, is_in_use}
use Rattle.glock_names.specs.Views.{Seen, IsView, end_of, group_of_entry}
use Rattle.image_model.specs.Flat.{Path}
use Rattle.image_model.specs.Image.{Image}
use Rattle.image_model.specs.Owners.{Owners, holding}
use Rattle.image_model.specs.Stands.{Layout}
use Rattle.image_model.proofs.Members.{IsIn, is_in}
use Rattle.image_changes.specs.Does.{IsOf}
use Rattle.image_changes.specs.Instances.{IsAt, is_directory_at}
use Rattle.draft_changes.proofs.Views.{groups_are_listed}
use Rattle.name_drafts.proofs.Images.{is_inode, is_sound}

-- ---- there are few records in an area

few_within : (most : ℕ) (bytes : List ℕ) → length (slots_within most bytes) ≤ most
few_within zero bytes = omega arith
few_within (suc most) bytes = grind (arith, few_within most)

few_slots : (area : List ℕ) → length (slots_of area) ≤ length area
unfolding slots_of
few_slots area = few_within (length area) area

few_in : (area : List ℕ) → length (records_in area) ≤ length area
unfolding records_in
few_in area = omega (
  arith,
  length-map (filter (λ (s : Slot). is_in_use s.head) (slots_of area)) record_of,
  length-filter (λ (s : Slot). is_in_use s.head) (slots_of area),
  count_by-le-length (λ (s : Slot). is_in_use s.head) (slots_of area),
  few_slots area,
)

few_joined : {X Y : Type 0} (f : X → List Y) (xs : List X) → ((x : X) → length (f x) ≤ 4096) → length (flat_map f xs) ≤ 4096 * length xs
few_joined f [] few = omega arith
few_joined f (x ∷ xs) few = omega (arith, few_joined f xs few, length-append (f x) (flat_map f xs), few x)

-- no block of an inode has more bytes than a block
short_block : (h : Holding) (x most : ℕ) → IsInode h → h.size ≤ most → length (bytes_at h x) ≤ most
short_block h x most sound small = by (h.cell x) refl
  where
    by : (c : Option Cell) → h.cell x ≡ c → length (bytes_at h x) ≤ most
    by None e = let none : length (bytes_at h x) ≡ 0 = ap (λ o. length (cell_bytes o)) e in omega (arith, none)
    by (Some c) e = let whole : length (bytes_at h x) ≡ h.size = sound.whole x c.part (ap cell_part e) in omega (arith, whole, small)

-- so the records of a small directory are fewer than a count has numbers
few_records : (h : Holding) → IsInode h → h.size ≤ 4096 → h.count ≤ 262144 → length (records_of h) ≤ 1073741824
unfolding records_of
few_records h sound small few = elim (cases_Bool (is_hashed_in h)) [
  | inr plain ↦ subst (λ (xs : List Record). length xs ≤ 1073741824) (sym (cond-false _ _ _ plain))
      (omega (arith, few_in (linear_area h), length-drop dinode_length (bytes_at h h.own), short_block h h.own 4096 sound small))
  | inl hashed ↦ subst (λ (xs : List Record). length xs ≤ 1073741824) (sym (cond-true _ _ _ hashed)) in_leaves
]
  where
    in_leaf : (x : ℕ) → length (records_in (leaf_area h x)) ≤ 4096
    in_leaf x = omega (arith, few_in (leaf_area h x), length-drop leaf_length (bytes_at h x), short_block h x 4096 sound small)

    in_leaves : length (flat_map (λ x. records_in (leaf_area h x)) (leaves_of h)) ≤ 1073741824
    in_leaves = omega (
      arith,
      few_joined (λ x. records_in (leaf_area h x)) (leaves_of h) in_leaf,
      length-filter (λ x. is_leaf_part (part_at h x)) (range_with_len 0 h.count),
      count_by-le-length (λ x. is_leaf_part (part_at h x)) (range_with_len 0 h.count),
      length-range_with_len 0 h.count,
      few,
    )

few_directories : (records : List Record) → directory_count records ≤ length records
few_directories records = count_by-le-length (λ (r : Record). not (is_dots r.name) && r.kind == 4) records

-- ---- an image whose groups a view has is a small one

place_low : (size : ℕ) → IsBlockSize size → superblock_place size ≤ 128
place_low size (inl e) = subst (λ n. superblock_place n ≤ 128) (sym e) (omega arith)
place_low size (inr (inl e)) = subst (λ n. superblock_place n ≤ 128) (sym e) (omega arith)
place_low size (inr (inr (inl e))) = subst (λ n. superblock_place n ≤ 128) (sym e) (omega arith)
place_low size (inr (inr (inr e))) = subst (λ n. superblock_place n ≤ 128) (sym e) (omega arith)

size_low : (size : ℕ) → IsBlockSize size → size ≤ 4096
size_low size is = omega arith

all_at : {X : Type 0} (P : X → Type 0) (xs : List X) (x : X) → AllByRecursion P xs → IsIn x xs → P x
all_at P [] x all at = elim at [ ]
all_at P (y ∷ ys) x all (inl e) = subst P (sym e) all.0
all_at P (y ∷ ys) x all (inr later) = all_at P ys x all.1 later

module _ (v : Seen) (im : Image) (o : Owners) (l : Layout) (t : Tree) (of : IsOf v im o l t) (view : IsView v) where
  pub few_blocks : im.count ≤ 262144
  few_blocks = elim (cases_lt (superblock_place im.size) (im.count - 1)) [
    | inr low ↦ omega (arith, low, place_low im.size of.stands.laid.image.block_size)
    | inl high ↦ near high (cases_lt (im.count - 1) im.count)
  ]
    where
      near : superblock_place im.size < im.count - 1 → (im.count - 1 < im.count) ⊎ (im.count ≤ im.count - 1) → im.count ≤ 262144
      near high (inr none) = omega (arith, none)
      near high (inl within) =
          let g = of.stands.laid.fit.rest (im.count - 1) high within in
          let has = (groups_are_listed v im o l t (group_of_entry g.0) of).1 (g.0, g.1, refl) in
          let ends : end_of (group_of_entry g.0) ≤ 131072 = all_at (λ k. end_of k ≤ 131072) v.groups (group_of_entry g.0) view.groups.end (is_in (group_of_entry g.0) v.groups has) in
          omega (arith, g.2.high, ends)

  -- its counts are far below what they may be
  pub few_counts : (path : Path) (a : ℕ) → IsAt im o l path a → is_directory_at im o a ≡ true → ((dinode_in (holding im o a)).entries ≤ 1073741824) × ((dinode_in (holding im o a)).nlink ≤ 1073741826)
  few_counts path a at dir =
      let is = of.stands.laid.directories a (is_inode v im o l t of path a at) dir in
      let few = few_records (holding im o a) (is_sound v im o l t of path a at) (size_low im.size of.stands.laid.image.block_size) few_blocks in
      let down = few_directories (records_of (holding im o a)) in
      (omega (arith, is.entries, few), omega (arith, is.links, few, down))
