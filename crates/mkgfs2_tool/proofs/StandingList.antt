-- The list of groups of a new image, read from its file.
use Rattle.std.proofs.Common.{ℕ, zero, suc, ◌≡◌, ◌+◌, ◌-◌, ◌*◌, ◌/◌, ◌<◌, ◌≤◌, inl, inr, List, ◌++◌, length, take, drop, replicate, map, refl, sym, ap, ap₂, ◌∙◌, subst, arith}
use Rattle.std.specs.Prelude.{◌%◌, ◌==◌, if◌then◌else◌, flat_map}
use Rattle.std.specs.List.{AllByRecursion, range_with_len}
use Rattle.std.proofs.lemmas.Bool.{cases_eq, cond-true, cond-false, eq-eqb, ne_eqb}
use Rattle.std.proofs.lemmas.List.{take_at}
use Rattle.std.proofs.lemmas.List.FromFn.{length-range_with_len, get_or-range_with_len}
use Rattle.std.proofs.Math.Nat.{mul-div_cancel, mul-mod_left}
use Rattle.gfs2_layout.specs.Bytes.{slice}
use Rattle.gfs2_layout.specs.Fields.{HasItsWidth}
use Rattle.gfs2_layout.specs.Structures.{dinode_length, rindex_of, length_fault}
use Rattle.gfs2_layout.specs.Writing.{rindex_fields, rindex_put}
use Rattle.image_model.specs.Groups.{groups_in}
use Rattle.image_model.specs.Image.{Blocks}
use Rattle.gfs2_layout.specs.Inode.{height_in, carried, content_block, content_count, content_of}
use Rattle.gfs2_layout.specs.Holding.{Holding, bytes_at}
use Rattle.image_model.specs.Stands.{IsGroupList}
use Rattle.mkgfs2_tool.specs.Groups.{last_group, group_address, group_blocks, headers_of, first_data, data_blocks}
use Rattle.mkgfs2_tool.specs.Files.{content_blocks, height}
use Rattle.mkgfs2_tool.specs.Blocks.{used_block, group_entry, group_entries, group_list_block}
use Rattle.mkgfs2_tool.specs.Making.{IsFitting}
use Rattle.mkgfs2_tool.specs.declared.plan.Plan.{Plan}
use Rattle.mkgfs2_tool.proofs.StandingLists.{IsIn, from_range, map_same, flat_map_same}
use Rattle.mkgfs2_tool.proofs.StandingShapes.{parts_cover}
use Rattle.mkgfs2_tool.proofs.StandingGiven.{Given, Known, zeros_are_bytes}
use Rattle.mkgfs2_tool.proofs.StandingBytes.{filled, joined_again, slice_piece, answer_ok}
use Rattle.mkgfs2_tool.proofs.StandingGround.{group_ends}
use Rattle.mkgfs2_tool.proofs.StandingPlan.{ground, ground_is}
use Rattle.mkgfs2_tool.proofs.StandingOwners.{file_shape, spot}
use Rattle.mkgfs2_tool.proofs.StandingFiles.{file_behind, file_dinode_is, behind_list, length_entries, large}
use Rattle.mkgfs2_tool.proofs.StandingInodes.{AreMade, held, own_bytes, file_height, file_size, unit_is, count_is}
use Rattle.mkgfs2_tool.proofs.StandingRings.{content_some, content_bytes}

-- the numbers of a group are small
pub record AreSmall (a h f d : ℕ) : Type 0 where
  pub address : a ≤ 131072
  pub length : h ≤ 131072
  pub data0 : f ≤ 131072
  pub data_blocks : d ≤ 131072

are_small : (a b h d c : ℕ) → a + b ≤ c → h + d ≤ b → c ≤ 131072 → AreSmall a h (a + h) d
are_small a b h d c ends held few = record { address = omega (arith, ends, few); length = omega (arith, ends, held, few); data0 = omega (arith, ends, held, few); data_blocks = omega (arith, ends, held, few) }

widths_of : (a h f d : ℕ) → AreSmall a h f d → AllByRecursion HasItsWidth (rindex_fields (record { address = a; length = h; data0 = f; data_blocks = d; bitbytes = d / 4 }))
widths_of a h f d small = (omega (arith, small.address), (omega (arith, small.length), (omega (arith, small.data0), (omega (arith, small.data_blocks), (omega (arith, small.data_blocks), tt)))))

module _ (p : Plan) (fit : IsFitting p) where
  pub small_group : (g : ℕ) → g ≤ last_group p → AreSmall (group_address p g) (headers_of p g) (first_data p g) (data_blocks p g)
  small_group g ok = are_small (group_address p g) (group_blocks p g) (headers_of p g) (data_blocks p g) p.count (group_ends (ground p) (ground_is p fit) g ok) ((ground_is p fit).held g ok) fit.count

  pub entry_back : (given : Given) (g : ℕ) → g ≤ last_group p → rindex_of (rindex_put (group_entry p g) (replicate 96 0)) ≡ group_entry p g
  entry_back given g ok = (answer_ok (length_fault 96 bytes) (rindex_of bytes) (group_entry p g)
      (given.structures.rindex.back (group_entry p g) (replicate 96 0) (omega arith) (zeros_are_bytes 96) tt (widths_of (group_address p g) (headers_of p g) (first_data p g) (data_blocks p g) (small_group g ok)))).1
    where
      bytes : List ℕ
      bytes = rindex_put (group_entry p g) (replicate 96 0)

  pub group_low : (g : ℕ) → g < p.groups → g ≤ last_group p
  group_low g low = under g p.groups low
    where
      under : (g n : ℕ) → g < n → g ≤ n - 1
      under g n low = omega (arith, low)

  pub entries_back : Given → length (group_entries p) ≡ 96 * p.groups → groups_in (group_entries p) ≡ map (group_entry p) (range_with_len 0 p.groups)
  unfolding groups_in group_entries
  entries_back given long =
      ap (λ n. map (λ i. rindex_of (slice (96 * i) 96 (group_entries p))) (range_with_len 0 n)) (ap (λ n. n / 96) (long ∙ turn p.groups) ∙ mul-div_cancel p.groups (omega arith))
      ∙ map_same (λ i. rindex_of (slice (96 * i) 96 (group_entries p))) (group_entry p) (range_with_len 0 p.groups) each
    where
      turn : (n : ℕ) → 96 * n ≡ n * 96
      turn n = omega arith

      at : (i : ℕ) → i < p.groups → slice (96 * i) 96 (group_entries p) ≡ rindex_put (group_entry p i) (replicate 96 0)
      at i low =
          slice_piece (λ g. rindex_put (group_entry p g) (replicate 96 0)) 96 (range_with_len 0 p.groups) i 0 (λ g. given.structures.rindex.as_long (group_entry p g) (replicate 96 0) (omega arith) tt) (subst (λ n. i < n) (sym (length-range_with_len 0 p.groups)) low)
          ∙ ap (λ g. rindex_put (group_entry p g) (replicate 96 0)) (get_or-range_with_len 0 p.groups i 0 low ∙ none i)
        where
          none : (n : ℕ) → 0 + n ≡ n
          none n = omega arith

      low_in : (i : ℕ) → IsIn i (range_with_len 0 p.groups) → i < p.groups
      low_in i there = under i p.groups (from_range 0 p.groups i there).1
        where
          under : (i n : ℕ) → i < 0 + n → i < n
          under i n low = omega (arith, low)

      each : (i : ℕ) → IsIn i (range_with_len 0 p.groups) → rindex_of (slice (96 * i) 96 (group_entries p)) ≡ group_entry p i
      each i there = ap rindex_of (at i (low_in i there)) ∙ entry_back given i (group_low i (low_in i there))

module _ (p : Plan) (fit : IsFitting p) (known : Known p) (at : Blocks) (made : AreMade p at) where
  abbrev h : Holding
  h = held p at (spot p 0 0)

  none_ok : 0 ≤ p.journals
  none_ok = omega arith

  abbrev stuffed : List ℕ
  stuffed = drop dinode_length (bytes_at h h.own)

  abbrev in_blocks : List ℕ
  in_blocks = flat_map (λ i. carried h (content_block h i)) (range_with_len 0 (content_count h))

  content_low : height (file_shape p 0) ≡ 0 → take (96 * p.groups) stuffed ≡ group_entries p
  content_low e =
      ap (λ (b : List ℕ). take (96 * p.groups) (drop 232 b)) (own_bytes p fit known at made 0 none_ok)
      ∙ ap (take (96 * p.groups)) ((file_dinode_is p fit known 0 none_ok).rest ∙ ap (λ (b : List ℕ). b ++ replicate (p.size - 232 - length (file_behind p 0)) 0) (behind_list p fit known e))
      ∙ take_at (group_entries p) (replicate (p.size - 232 - length (file_behind p 0)) 0) (96 * p.groups) (length_entries p fit known)

  carried_is : 1 ≤ height (file_shape p 0) → (x : ℕ) → x < content_blocks (file_shape p 0) → carried h (content_block h x) ≡ filled p.size (slice (x * p.size) p.size (group_entries p))
  unfolding group_list_block used_block
  carried_is high x inside =
      cond-false _ _ _ (ne_eqb (content_block h x) 0 (content_some p fit known at made 0 none_ok x high inside))
      ∙ ap₂ drop (ap (λ n. p.size - n) (unit_is p fit known at made 0 none_ok) ∙ none p.size) (content_bytes p fit known at made 0 none_ok x high inside)
    where
      none : (n : ℕ) → n - n ≡ 0
      none n = omega arith

  content_high : 1 ≤ height (file_shape p 0) → take (96 * p.groups) in_blocks ≡ group_entries p
  content_high high =
      ap (λ n. take (96 * p.groups) (flat_map (λ i. carried h (content_block h i)) (range_with_len 0 n))) (count_is p fit known at made 0 none_ok)
      ∙ ap (take (96 * p.groups)) (flat_map_same (λ i. carried h (content_block h i)) (λ i. filled p.size (slice (i * p.size) p.size (group_entries p))) (range_with_len 0 (content_blocks (file_shape p 0)))
      (λ x there. carried_is high x (under x (content_blocks (file_shape p 0)) (from_range 0 (content_blocks (file_shape p 0)) x there).1)))
      ∙ ap (λ n. take n (flat_map (λ i. filled p.size (slice (i * p.size) p.size (group_entries p))) (range_with_len 0 (content_blocks (file_shape p 0))))) (sym (length_entries p fit known) ∙ less_none (length (group_entries p)) p.size)
      ∙ joined_again p.size (group_entries p) 0 (content_blocks (file_shape p 0)) enough
      ∙ ap (λ n. drop n (group_entries p)) (none p.size)
    where
      under : (x n : ℕ) → x < 0 + n → x < n
      under x n low = omega (arith, low)

      less_none : (n s : ℕ) → n ≡ n - 0 * s
      less_none n s = omega arith

      none : (s : ℕ) → 0 * s ≡ 0
      none s = omega arith

      enough : length (group_entries p) ≤ (0 + content_blocks (file_shape p 0)) * p.size
      enough = through (length (group_entries p)) (96 * p.groups) (content_blocks (file_shape p 0)) p.size (length_entries p fit known) (parts_cover (96 * p.groups) p.size (some_size p.size (large p fit known)))
        where
          some_size : (n : ℕ) → 512 ≤ n → 0 < n
          some_size n large = omega (arith, large)

          through : (e n c s : ℕ) → e ≡ n → n ≤ c * s → e ≤ (0 + c) * s
          through e n c s is le = let same : (0 + c) * s ≡ c * s = ap (λ m. m * s) (let z : 0 + c ≡ c = omega arith in z) in omega (arith, is, le, same)

  -- the list of groups is the content of its file
  pub list_content : content_of h ≡ group_entries p
  unfolding content_of
  list_content = ap (λ n. take n (if height_in h == 0 then stuffed else in_blocks)) (file_size p fit known at made 0 none_ok) ∙ elim (cases_eq (height (file_shape p 0)) 0) [
    | inl e ↦ ap (take (96 * p.groups)) (cond-true _ stuffed in_blocks (eq-eqb (height_in h) 0 (file_height p fit known at made 0 none_ok ∙ e))) ∙ content_low e
    | inr d ↦ ap (take (96 * p.groups)) (cond-false _ stuffed in_blocks (ne_eqb (height_in h) 0 (λ e. d (sym (file_height p fit known at made 0 none_ok) ∙ e)))) ∙ content_high (positive (height (file_shape p 0)) d)
  ]
    where
      positive : (n : ℕ) → (n ≡ 0 → ⊥) → 1 ≤ n
      positive zero d = absurd (d refl)
      positive (suc n) d = omega arith

  pub list_is : IsGroupList (map (group_entry p) (range_with_len 0 p.groups)) (group_entries p)
  list_is = record {
    whole = ap (λ n. n % 96) (length_entries p fit known ∙ turn p.groups) ∙ mul-mod_left p.groups 96;
    listed = entries_back p fit known.given (length_entries p fit known);
  }
    where
      turn : (n : ℕ) → 96 * n ≡ n * 96
      turn n = omega arith
