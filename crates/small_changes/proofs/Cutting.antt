-- A file that is cut: few blocks are written.
use Rattle.std.proofs.Common.{◌≡◌, ◌+◌, ◌*◌, ◌/◌, ◌<◌, ◌≤◌, ◌⊎◌, ℕ, suc, inl, inr, Bool, false, List, ◌∷◌, ◌++◌, length, map, Some, sym, ap, subst, ◌∙◌, arith}
use Rattle.std.specs.Prelude.{Contains}
use Rattle.std.specs.FinMap.{FinMap, empty, get, get-empty, insert}
use Rattle.std.specs.List.{range_with_len}
use Rattle.std.specs.Ordering.{nat_cmp}
use Rattle.std.proofs.Math.ListN.{length-append, length-map}
use Rattle.std.proofs.Math.Nat.{div-lt_iff_lt-mul, mul-le-mul_right}
use Rattle.std.proofs.lemmas.Bool.{cases_lt}
use Rattle.std.proofs.lemmas.List.FromFn.{length-range_with_len}
use Rattle.std.proofs.lemmas.Nat.{le-div}
use Rattle.profile_limits.specs.Limits.{most_group_blocks}
use Rattle.file_tree.specs.Tree.{Tree}
use Rattle.glock_names.specs.Views.{Seen}
use Rattle.glock_names.specs.declared.LockName.{LockName}
use Rattle.drafts.specs.Fates.{seen_with}
use Rattle.drafts.specs.declared.change.Change.{Change}
use Rattle.drafts.specs.declared.fate.Fate.{Fate}
use Rattle.drafts.specs.declared.fate.Fate.TheVariants.{Put, Freed}
use Rattle.gfs2_layout.specs.Holding.{Holding, Pointed, part_at}
use Rattle.gfs2_layout.specs.Inode.{IsPointed, by_block, by_dinode, content_block, fan, header_length, span}
use Rattle.dinode_tree.specs.Reading.{inode_lock}
use Rattle.growth_laws.specs.Files.{IsFile, block_on}
use Rattle.growth_laws.specs.Laws.{InodesAreFiles}
use Rattle.growth_laws.proofs.Places.{place_of_part}
use Rattle.image_model.specs.Flat.{Path}
use Rattle.image_model.specs.Image.{Image}
use Rattle.image_model.specs.Owners.{Owners, holding}
use Rattle.image_model.specs.Stands.{Layout}
use Rattle.image_model.proofs.Lengths.{size_large}
use Rattle.image_model.proofs.Members.{IsIn, in_left, in_range, in_right}
use Rattle.image_changes.specs.Instances.{IsAt}
use Rattle.group_locks.proofs.Images.{is_shown}
use Rattle.file_changes.specs.Cut.{HasCut, IsCut, IsCutBlock, end_of}
use Rattle.file_changes.specs.Causes.{LeadsToOne}
use Rattle.file_changes.specs.Drafting.{IsCutDraft, IsFreedAndDone}
use Rattle.file_changes.specs.Making.{CanBeCut}
use Rattle.file_changes.proofs.Cutting.{can_cut}
use Rattle.small_changes.specs.Counting.{CutsAreSmall, IsOfProfile}
use Rattle.small_changes.proofs.Counting.{after_insert, headers, in_headers, in_or_not, not_none, puts_few}
use Rattle.small_changes.proofs.Ends.{last_index, last_is}
use Rattle.small_changes.proofs.Need.{span_some}
use Rattle.small_changes.proofs.Removing.{headers_of}
use Rattle.small_changes.proofs.Writing.{in_map}

module _ (h g : Holding) (size : ℕ) (freed : List ℕ) (file : IsFile h) (cut : IsCut h g size freed) where
  abbrev end : ℕ
  end = end_of h size

  -- the block of a level that stands over the end
  abbrev edge : ℕ → ℕ
  edge level = block_on h level (end / span h.size level)

  abbrev edges : List ℕ
  edges = map edge (range_with_len 1 10)

  wide : 512 ≤ h.size
  wide = size_large h.size file.block_size

  module _ (b : ℕ) (stays : Contains freed b → ⊥) where
    -- an indirect block that stays, with a pointer to one that is freed
    at_edge : (c k level first above j start : ℕ) → Contains freed c → part_at h c ≡ Some (Pointed b k level first) → part_at h b ≡ Some (Pointed above j (suc level) start) → k < fan h.size header_length
        → first ≡ start + k * span h.size level → IsIn b edges
    at_edge c k level first above j start gone part its low begins =
        let past : end < first + span h.size level = (cut.exactly c b k level first part).0 gone c level first (b, k, part) (omega arith) (omega arith) (let some = span_some h.size level wide in omega (arith, some)) in
        let inside : (k + 1) * span h.size level ≤ fan h.size header_length * span h.size level = mul-le-mul_right (span h.size level) (omega (arith, low)) in
        let below : end < start + span h.size (suc level) = omega (arith, past, inside, begins) in
        let up : start ≤ end = elim (cases_lt end start) [
          | inr not ↦ not
          | inl over ↦ absurd (stays ((cut.exactly b above j (suc level) start its).1 (λ x l f placed lower from until. omega (arith, over, from))))
        ] in
        let place = place_of_part h file b (suc level) start (above, j, its) in
        let some : 0 < span h.size (suc level) = (let one = span_some h.size (suc level) wide in omega (arith, one)) in
        let under : end / span h.size (suc level) < place.0 + 1 = (div-lt_iff_lt-mul some).1 (omega (arith, below, place.1)) in
        let over : place.0 ≤ end / span h.size (suc level) = le-div place.0 end (span h.size (suc level)) some (omega (arith, up, place.1)) in
        let same : end / span h.size (suc level) ≡ place.0 = omega (arith, under, over) in
        let high = file.tree.below b above j (suc level) start its in
        let there : IsIn (edge (suc level)) edges = in_map edge (suc level) (range_with_len 1 10) (in_range 1 10 (suc level) (omega arith) (omega (arith, high, file.fits.low))) in
        subst (λ z. IsIn z edges) (ap (block_on h (suc level)) same ∙ place.3) there

    leads_in : LeadsToOne h freed b → (b ≡ h.own) ⊎ IsIn b edges
    leads_in (c, k, level, first, gone, part) = by (file.tree.pointed c b k level first part)
      where
        by : IsPointed h c b k level first → (b ≡ h.own) ⊎ IsIn b edges
        by (by_dinode own high low to begins) = inl own
        by (by_block above j start its low to begins) = inr (at_edge c k level first above j start gone part its low begins)

    cut_in : IsCutBlock h size freed b → (b ≡ h.own) ⊎ IsIn b (content_block h (last_index h size) ∷ edges)
    cut_in (inl own) = inl own
    cut_in (inr (inl gone)) = absurd (stays gone)
    cut_in (inr (inr (inl leads))) = elim (leads_in leads) [ inl own ↦ inl own | inr at ↦ inr (inr at) ]
    cut_in (inr (inr (inr unclear))) = inr (inl (sym (last_is h file size b unclear)))

module _ (v : Seen) (im : Image) (o : Owners) (l : Layout) (t : Tree) (path : Path) (a size time : ℕ) (freed : List ℕ) (fates : FinMap nat_cmp Fate) (change : Change) (of : IsOfProfile v im o l t)
    (there : IsAt im o l path a) (files : InodesAreFiles) (is : IsCutDraft v a size time freed fates) (done : IsFreedAndDone v fates freed change) (can : CanBeCut im o a size) where
  abbrev its : HasCut (seen_with v is.first) empty is.first (holding im o a) size freed
  its = is.is_cut (holding im o a) (is_shown v im o l t of.is path a there) (can_cut v im o l t path of.is a there files size can)

  abbrev file : IsFile (holding im o a)
  file = (can_cut v im o l t path of.is a there files size can).counted.file

  abbrev mine : List ℕ
  mine = content_block (holding im o a) (last_index (holding im o a) size) ∷ edges (holding im o a) its.g size freed file its.is_cut

  abbrev list : List ℕ
  list = a ∷ (mine ++ headers v.groups)

  module _ (b : ℕ) (lock : LockName) (plain : Bool) (bytes : List ℕ) (put : get done.last b ≡ Some (Put lock plain bytes)) where
    stays : Contains freed b → ⊥
    stays gone = freed_put (sym (done.frees.frees.freed b gone) ∙ put)
      where
        freed_put : Some Freed ≡ Some (Put lock plain bytes) → ⊥
        freed_put e = cc

    in_file : get is.first b ≡ Some (Put lock plain bytes) → IsIn b list
    in_file first = elim (its.changes b) [
      | inl still ↦ absurd (not_none (get is.first b) (get empty b) (Put lock plain bytes) still (get-empty nat_cmp b) first)
      | inr cut ↦ elim (cut_in (holding im o a) its.g size freed file its.is_cut b stays cut) [ inl own ↦ inl own | inr at ↦ inr (in_left b mine (headers v.groups) at) ]
    ]

    off_groups : (IsIn b (headers v.groups) → ⊥) → IsIn b list
    off_groups off =
        let kept : get done.last b ≡ get fates b = done.frees.rest.others b stays (λ g has some head. off (in_headers v.groups g b has head)) in
        let second : get fates b ≡ get (insert is.first a (Put (inode_lock a) false is.timed.bytes)) b = ap (λ (m : FinMap nat_cmp Fate). get m b) is.timed.put in
        elim (after_insert is.first a b (Put (inode_lock a) false is.timed.bytes)) [ inl same ↦ inl same | inr first ↦ in_file (sym first ∙ sym second ∙ sym kept ∙ put) ]

    in_list : IsIn b list
    in_list = elim (in_or_not (headers v.groups) b) [ inl head ↦ inr (in_right b mine (headers v.groups) head) | inr off ↦ off_groups off ]

  pub few : length change.blocks.items ≤ 12 + most_group_blocks
  few =
      let all = puts_few done.last change done.finished list in_list in
      let both = length-append mine (headers v.groups) in
      let many : length (edges (holding im o a) its.g size freed file its.is_cut) ≡ length (range_with_len 1 10) = length-map (range_with_len 1 10) (edge (holding im o a) its.g size freed file its.is_cut) in
      omega (arith, all, both, many, length-range_with_len 1 10, headers_of v im o l t of, of.few)

pub cuts_are_small : InodesAreFiles → CutsAreSmall
cuts_are_small files v im o l t path a size time freed fates change of there is done can = few v im o l t path a size time freed fates change of there files is done can
