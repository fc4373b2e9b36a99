-- A call that writes bytes into a file writes few blocks.
use Rattle.std.proofs.Common.{◌≡◌, ◌+◌, ◌/◌, ◌<◌, ◌≤◌, ◌⊎◌, ℕ, inl, inr, Bool, false, List, [], ◌∷◌, ◌++◌, length, map, Option, None, Some, sym, ap, subst, ◌∙◌, arith}
use Rattle.std.specs.FinMap.{FinMap, empty, get, get-empty, insert}
use Rattle.std.specs.List.{range_with_len}
use Rattle.std.specs.Ordering.{nat_cmp}
use Rattle.std.proofs.Math.ListN.{length-append, length-map}
use Rattle.std.proofs.Math.Nat.{div-lt_iff_lt-mul}
use Rattle.std.proofs.lemmas.List.FromFn.{length-range_with_len}
use Rattle.file_tree.specs.Tree.{Tree}
use Rattle.glock_names.specs.Views.{Seen, IsView}
use Rattle.glock_names.specs.declared.LockName.{LockName}
use Rattle.profile_limits.specs.Limits.{most_group_blocks}
use Rattle.drafts.specs.Fates.{seen_with}
use Rattle.drafts.specs.declared.change.Change.{Change}
use Rattle.drafts.specs.declared.fate.Fate.{Fate}
use Rattle.drafts.specs.declared.fate.Fate.TheVariants.{Put}
use Rattle.gfs2_layout.specs.Holding.{Holding, InChain, Itself, Part, Pointed, part_at}
use Rattle.gfs2_layout.specs.Inode.{content_block, dinode_in}
use Rattle.growth_laws.specs.Files.{IsFile}
use Rattle.growth_laws.specs.Laws.{FilesAreInodes, InodesAreFiles}
use Rattle.growth_laws.specs.Need.{needed}
use Rattle.image_model.specs.Flat.{Path}
use Rattle.image_model.specs.Image.{Image}
use Rattle.image_model.specs.Owners.{Owners, holding}
use Rattle.image_model.specs.Stands.{Layout}
use Rattle.image_model.proofs.Lengths.{size_large}
use Rattle.image_model.proofs.Members.{IsIn, in_left, in_range, in_right, is_in}
use Rattle.image_changes.specs.Instances.{IsAt}
use Rattle.file_changes.proofs.Tails.{block_of_placed}
use Rattle.draft_changes.proofs.Saying.{free_blocks_are_new}
use Rattle.file_changes.proofs.Writing.{can_write, has_written}
use Rattle.file_changes.specs.Making.{IsRoomIn}
use Rattle.dinode_tree.specs.Reading.{inode_lock}
use Rattle.file_changes.specs.Written.{HasWritten, IsWrittenAt}
use Rattle.file_changes.specs.Drafting.{IsWriteDraft}
use Rattle.small_changes.specs.Counting.{IsOfProfile, WritesAreSmall}
use Rattle.small_changes.proofs.Counting.{after_insert, headers, in_headers, in_or_not, not_none, puts_few}
use Rattle.small_changes.proofs.Ends.{last_index, last_is}
use Rattle.small_changes.proofs.Need.{few_needed, over}
use Rattle.small_changes.proofs.Removing.{headers_of}

-- the block with the pointer to a block
abbrev above : Option Part → ℕ
above (Some (Pointed from k level first)) = from
above (Some Itself) = 0
above (Some (InChain hash place)) = 0
above None = 0

pub in_map : (f : ℕ → ℕ) (x : ℕ) (xs : List ℕ) → IsIn x xs → IsIn (f x) (map f xs)
in_map f x [] there = elim there [ ]
in_map f x (y ∷ ys) (inl e) = inl (ap f e)
in_map f x (y ∷ ys) (inr later) = inr (in_map f x ys later)

module _ (h g : Holding) (at len : ℕ) (taken : List ℕ) (file : IsFile h) (file' : IsFile g) where
  -- what a write does something to, beside the dinode
  abbrev blocks : List ℕ
  blocks = taken ++ (map (λ c. above (part_at g c)) taken ++ (map (content_block g) (range_with_len (at / g.size) (len / g.size + 2)) ++ (content_block h (last_index h (dinode_in h).size) ∷ [])))

  some : 0 < g.size
  some = let wide = size_large g.size file'.block_size in omega (arith, wide)

  written_in : (b : ℕ) → IsWrittenAt h g at (at + len) taken b → (b ≡ h.own) ⊎ IsIn b blocks
  written_in b (inl own) = inl own
  written_in b (inr (inl (inl new))) = inr (in_left b taken _ (is_in b taken new))
  written_in b (inr (inl (inr (inl (c, k, level, first, new, part))))) =
      inr (in_right b taken _ (in_left b (map (λ x. above (part_at g x)) taken) _ (subst (λ z. IsIn z (map (λ x. above (part_at g x)) taken)) (ap above part) (in_map (λ x. above (part_at g x)) c taken (is_in c taken new)))))
  written_in b (inr (inl (inr (inr (i, has, placed))))) =
      let places = over at len g.size i some has.ends has.begins in
      let there : IsIn (content_block g i) (map (content_block g) (range_with_len (at / g.size) (len / g.size + 2))) = in_map (content_block g) i _ (in_range (at / g.size) (len / g.size + 2) i places.0 places.1) in
      inr (in_right b taken _ (in_right b (map (λ x. above (part_at g x)) taken) _ (in_left b (map (content_block g) (range_with_len (at / g.size) (len / g.size + 2))) _
      (subst (λ z. IsIn z (map (content_block g) (range_with_len (at / g.size) (len / g.size + 2)))) (block_of_placed g b i file' placed) there))))
  written_in b (inr (inr (less, unclear))) =
      inr (in_right b taken _ (in_right b (map (λ x. above (part_at g x)) taken) _ (in_right b (map (content_block g) (range_with_len (at / g.size) (len / g.size + 2))) _ (inl (sym (last_is h file (dinode_in h).size b unclear))))))

  blocks_many : length blocks ≡ length taken + (length taken + (len / g.size + 2 + 1))
  blocks_many =
      let one = length-append taken (map (λ x. above (part_at g x)) taken ++ (map (content_block g) (range_with_len (at / g.size) (len / g.size + 2)) ++ (content_block h (last_index h (dinode_in h).size) ∷ []))) in
      let two = length-append (map (λ x. above (part_at g x)) taken) (map (content_block g) (range_with_len (at / g.size) (len / g.size + 2)) ++ (content_block h (last_index h (dinode_in h).size) ∷ [])) in
      let three = length-append (map (content_block g) (range_with_len (at / g.size) (len / g.size + 2))) (content_block h (last_index h (dinode_in h).size) ∷ []) in
      omega (arith, one, two, three, length-map taken (λ x. above (part_at g x)), length-map (range_with_len (at / g.size) (len / g.size + 2)) (content_block g), length-range_with_len (at / g.size) (len / g.size + 2))

  blocks_few : 512 ≤ h.size → len ≤ 16384 → length taken ≡ needed h at len → length blocks ≤ 159
  blocks_few wide short as_many =
      let need = few_needed h wide at len short file.fits.low in
      let large = size_large g.size file'.block_size in
      let content : len / g.size < 33 = (div-lt_iff_lt-mul some).1 (omega (arith, short, large)) in
      omega (arith, blocks_many, need, as_many, content)

module _ (v : Seen) (im : Image) (o : Owners) (l : Layout) (t : Tree) (path : Path) (a at : ℕ) (new : List ℕ) (time : ℕ) (room : List ℕ) (change : Change) (of : IsOfProfile v im o l t) (view : IsView v)
    (there : IsAt im o l path a) (files : InodesAreFiles) (inodes : FilesAreInodes) (is : IsWriteDraft v a at new time room change) (can : IsRoomIn im o l a at (length new) room) where
  abbrev its : HasWritten (seen_with v is.writes.first) empty is.writes.first room [] (holding im o a) at new
  its =
      has_written v im o l t of.is view path a there files inodes free_blocks_are_new at new time room can is.writes.first is.writes.second is.writes.written is.writes.timed

  abbrev file : IsFile (holding im o a)
  file = (can_write v im o l t of.is view path a there files free_blocks_are_new at (length new) room can).counted.file

  abbrev list : List ℕ
  list = a ∷ (blocks (holding im o a) its.g at (length new) its.taken file its.written.sound.file ++ headers v.groups)

  module _ (b : ℕ) (lock : LockName) (plain : Bool) (bytes : List ℕ) (put : get is.last b ≡ Some (Put lock plain bytes)) where
    in_file : get is.writes.first b ≡ Some (Put lock plain bytes) → IsIn b list
    in_file first = elim (its.changes b) [
      | inl still ↦ absurd (not_none (get is.writes.first b) (get empty b) (Put lock plain bytes) still (get-empty nat_cmp b) first)
      | inr done ↦ elim (written_in (holding im o a) its.g at (length new) its.taken file its.written.sound.file b done) [ inl own ↦ inl own | inr in_blocks ↦ inr (in_left b _ (headers v.groups) in_blocks) ]
    ]

    off_groups : (IsIn b (headers v.groups) → ⊥) → IsIn b list
    off_groups off =
        let kept : get is.last b ≡ get is.writes.second b = is.writes.taken.rest.others b (λ g has some head. off (in_headers v.groups g b has head)) in
        let second : get is.writes.second b ≡ get (insert is.writes.first a (Put (inode_lock a) false is.writes.timed.bytes)) b = ap (λ (m : FinMap nat_cmp Fate). get m b) is.writes.timed.put in
        elim (after_insert is.writes.first a b (Put (inode_lock a) false is.writes.timed.bytes)) [ inl same ↦ inl same | inr first ↦ in_file (sym first ∙ sym second ∙ sym kept ∙ put) ]

    in_list : IsIn b list
    in_list = elim (in_or_not (headers v.groups) b) [
      | inl head ↦ inr (in_right b (blocks (holding im o a) its.g at (length new) its.taken file its.written.sound.file) (headers v.groups) head)
      | inr off ↦ off_groups off
    ]

  pub few : length new ≤ 16384 → length change.blocks.items ≤ 160 + most_group_blocks
  few short =
      let all = puts_few is.last change is.finished list in_list in
      let wide : 512 ≤ (holding im o a).size = size_large im.size of.is.stands.laid.image.block_size in
      let its_own = blocks_few (holding im o a) its.g at (length new) its.taken file its.written.sound.file wide short its.as_many in
      let both = length-append (blocks (holding im o a) its.g at (length new) its.taken file its.written.sound.file) (headers v.groups) in
      omega (arith, all, its_own, both, headers_of v im o l t of, of.few)

pub writes_are_small : InodesAreFiles → FilesAreInodes → WritesAreSmall
writes_are_small files inodes v im o l t path a at new time room change of view there is can short = few v im o l t path a at new time room change of view there files inodes is can short
