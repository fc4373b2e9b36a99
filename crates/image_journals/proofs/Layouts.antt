-- The system of an image that stands, as an image with the same blocks of it in memory shows it.
use Rattle.std.proofs.Common.{◌≡◌, ◌⊎◌, inl, inr, ◌<◌, ◌≤◌, ◌+◌, ◌/◌, ℕ, zero, suc, List, [], ◌∷◌, ◌++◌, length, None, Some, Result, Ok, refl, sym, ap, subst, subst₂, ◌∙◌, arith}
use Rattle.std.proofs.lemmas.Bool.{cond-true, lt-ltb, cases_lt}
use Rattle.std.proofs.lemmas.List.{length-append}
use Rattle.std.proofs.lemmas.Option.{slice_get-get_or, slice_get_within}
use Rattle.std.specs.Prelude.{codes, get_or, slice_get}
use Rattle.gfs2_layout.specs.Device.{superblock_place}
use Rattle.gfs2_layout.specs.Headers.{HasHeader}
use Rattle.gfs2_layout.specs.Structures.{superblock_of, superblock_read}
use Rattle.gfs2_layout.specs.declared.fault.LayoutFault.{LayoutFault}
use Rattle.gfs2_layout.specs.declared.superblock.SuperBlock.{SuperBlock}
use Rattle.glock_names.specs.Views.{Seen}
use Rattle.image_model.specs.Claims.{Claims, HasJournal, below}
use Rattle.image_model.specs.Image.{Image, image_in}
use Rattle.image_model.specs.Journals.{journal_name}
use Rattle.image_model.specs.Owners.{Below, Chained, Owner, Owners}
use Rattle.image_model.specs.Stands.{IsJournalAt, IsLaid, Layout, flat_of}
use Rattle.image_model.specs.SystemFiles.{IsSystemBlock, of_content, of_dinode, of_leaf, of_superblock}
use Rattle.image_model.proofs.Facts.{claimed_used, master_is}
use Rattle.image_model.proofs.Held.{none_some, some_same}
use Rattle.image_model.proofs.Reach.{used_low}
use Rattle.image_model.proofs.Replaying.{journals_of_standing}
use Rattle.image_model.proofs.SystemStays.{file_inode}
use Rattle.shared_disk.specs.Blocks.{block_in}
use Rattle.shared_disk.proofs.BlockLaws.{block_length}
use Rattle.image_journals.specs.Blocks.{seen_in, seen_of}
use Rattle.image_journals.specs.Found.{AreJournals}
use Rattle.image_journals.specs.Frames.{HasSameFrame}
use Rattle.image_journals.specs.Shown.{AreItsBlocks, ShowsFrame}
use Rattle.image_journals.specs.declared.blocks.ImageBlocks.{ImageBlocks}
use Rattle.image_journals.specs.declared.finding.JournalPlaces.{JournalPlaces}
use Rattle.image_journals.proofs.Frames.{super_off}
use Rattle.image_journals.proofs.Read.{superblock_reads}

-- ---- the view of an image in memory that has the frame

module _ (r : Image) (o : Owners) (l : Layout) (laid : IsLaid r o l) where
  claimed_low : (by b : ℕ) (p : Owner) → Claims r by b p → b < r.count
  claimed_low by b p claim = used_low r o l laid b (claimed_used r o l laid by b p claim)

  system_low : (b : ℕ) → IsSystemBlock r b → b < r.count
  system_low b (of_superblock e) = subst (λ n. n < r.count) (sym e) laid.super.inside
  system_low b (of_dinode file) = let has = file_inode r b file in claimed_low has.1.by b has.0 has.1.claimed
  system_low b (of_content d p k level first file leads within) =
      let has = file_inode r d file in
      claimed_low p b (Below d p k level first) (below has.1.by d has.0 p k level first b has.1.claimed has.1.dinode leads)
  system_low b (of_leaf d by hash place file claim) = claimed_low by b (Chained d hash place) claim

  pub shows : (size count : ℕ) (bytes : List ℕ) → count ≡ length bytes / size → HasSameFrame r (image_in size bytes) → ShowsFrame (seen_in size count bytes) r o l
  shows size count bytes counted same = record {
    laid = laid;
    size = same.size;
    whole = λ b of. (block_in size bytes b, there b of, block_length b size bytes (subst (λ n. b < n) counted (low b of)));
    same = λ b of off. there b of ∙ ap Some (same.same b of off);
  }
    where
      low : (b : ℕ) → IsSystemBlock r b → b < count
      low b of = let inside = system_low b of in omega (arith, inside, counted, same.count)

      there : (b : ℕ) → IsSystemBlock r b → (seen_in size count bytes).block_at b ≡ Some (block_in size bytes b)
      there b of = cond-true _ (Some (block_in size bytes b)) None (lt-ltb b count (low b of))

-- the view that the code has of these bytes
pub shown_by : (r : Image) (o : Owners) (l : Layout) (size : ℕ) (bytes : List ℕ) (b : ImageBlocks) → b.size ≡ size → b.bytes.now ≡ bytes → HasSameFrame r (image_in size bytes) → IsLaid r o l → ShowsFrame (seen_of b) r o l
shown_by r o l size bytes b sized are same laid =
    shows r o l laid b.size b.count b.bytes.now b.counted (subst₂ (λ (n : ℕ) (bs : List ℕ). HasSameFrame r (image_in n bs)) (sym sized) (sym are) same)

-- ---- what is found in it

ok_same : {A E : Type 0} {x y : A} → ◌≡◌ {A = Result A E} (Ok x) (Ok y) → x ≡ y
ok_same e = cc

module _ (v : Seen) (r : Image) (o : Owners) (l : Layout) (s : ShowsFrame v r o l) where
  super_same : v.block_at (superblock_place r.size) ≡ Some (r.at (superblock_place r.size))
  super_same = s.same (superblock_place r.size) (of_superblock refl) (super_off r o l s.laid (superblock_place r.size) refl)

  -- the superblock is there, and is read
  pub super_there : (place size : ℕ) → place ≡ superblock_place size → size ≡ r.size → v.block_at place ≡ Some (r.at (superblock_place r.size))
  super_there place size is same = ap v.block_at (is ∙ ap superblock_place same) ∙ super_same

  pub super_reads : (bytes : List ℕ) (result : Result SuperBlock LayoutFault) → v.block_at (superblock_place r.size) ≡ Some bytes → 512 ≤ length bytes → result ≡ superblock_read bytes → result ≡ Ok (superblock_of bytes)
  super_reads bytes result there long is =
      let same : r.at (superblock_place r.size) ≡ bytes = some_same (sym super_same ∙ there) in
      is ∙ superblock_reads bytes (omega (arith, long)) (subst (HasHeader 1 100) same s.laid.super.header)

  pub super_is : (bytes : List ℕ) (result : Result SuperBlock LayoutFault) (read : SuperBlock) → v.block_at (superblock_place r.size) ≡ Some bytes → 512 ≤ length bytes → result ≡ superblock_read bytes → result ≡ Ok read → read ≡ superblock_of (r.at (superblock_place r.size))
  super_is bytes result read there long is found =
      let same : r.at (superblock_place r.size) ≡ bytes = some_same (sym super_same ∙ there) in
      ok_same (sym found ∙ super_reads bytes result there long is) ∙ ap superblock_of (sym same)

  pub master_at : (read : SuperBlock) → read ≡ superblock_of (r.at (superblock_place r.size)) → read.master.address ≡ l.master
  master_at read is = ap (λ (x : SuperBlock). x.master.address) is ∙ master_is r o l s.laid

  pub jindex_child : (read : SuperBlock) → read ≡ superblock_of (r.at (superblock_place r.size)) → (flat_of r o read.master.address).child (codes "jindex") ≡ Some l.jindex
  jindex_child read is = ap (λ a. (flat_of r o a).child (codes "jindex")) (master_at read is) ∙ s.laid.system.jindex

-- so many journals were found, the first of the layout's
pub record AreFirst (r : Image) (l : Layout) (number : ℕ) (journals : List JournalPlaces) : Type 0 where
  pub count : length journals ≡ number
  pub few : number ≤ length l.journals
  pub each : (j : ℕ) (found : JournalPlaces) → slice_get journals j ≡ Some found → IsJournalAt l j found.dinode
  pub blocks : (j : ℕ) (found : JournalPlaces) → slice_get journals j ≡ Some found → AreItsBlocks r found.dinode found.blocks.items

pub none_yet : (r : Image) (l : Layout) → AreFirst r l 0 []
none_yet r l = record {
  count = refl;
  few = omega arith;
  each = λ j found at. absurd (none_some at);
  blocks = λ j found at. absurd (none_some at);
}

in_row : {A : Type 0} (xs : List A) (x y : A) (j : ℕ) → slice_get (xs ++ x ∷ []) j ≡ Some y → (slice_get xs j ≡ Some y) ⊎ ((j ≡ length xs) × (x ≡ y))
in_row [] x y zero at = inr (refl, some_same at)
in_row [] x y (suc j) at = absurd (none_some at)
in_row (z ∷ xs) x y zero at = inl at
in_row (z ∷ xs) x y (suc j) at = elim (in_row xs x y j at) [ inl there ↦ inl there | inr last ↦ inr (ap suc last.0, last.1) ]

module _ (r : Image) (o : Owners) (l : Layout) (laid : IsLaid r o l) (d number : ℕ) (journals : List JournalPlaces) (are : AreFirst r l number journals) (same : d ≡ l.jindex) where
  -- a name that leads on is the next journal's
  pub next_at : (dinode : ℕ) → Some dinode ≡ (flat_of r o d).child (journal_name number) → IsJournalAt l number dinode
  next_at dinode found = elim (cases_lt number (length l.journals)) [
    | inl low ↦
        let at = slice_get-get_or l.journals number 0 low in
        at ∙ sym (found ∙ ap (λ a. (flat_of r o a).child (journal_name number)) same ∙ laid.system.journals number (get_or l.journals number 0) at)
    | inr high ↦
        let last : number ≡ length l.journals = (let few = are.few in omega (arith, few, high)) in
        absurd (none_some (sym (found ∙ ap (λ a. (flat_of r o a).child (journal_name number)) same ∙ ap (λ n. (flat_of r o l.jindex).child (journal_name n)) last ∙ laid.system.last)))
  ]

  pub has_next : (dinode : ℕ) → Some dinode ≡ (flat_of r o d).child (journal_name number) → HasJournal r number dinode
  has_next dinode found = (journals_of_standing r o l laid).there number dinode (next_at dinode found)

  pub one_more : (x : JournalPlaces) (news : List JournalPlaces) → Some x.dinode ≡ (flat_of r o d).child (journal_name number) → AreItsBlocks r x.dinode x.blocks.items → news ≡ journals ++ x ∷ [] → AreFirst r l (number + 1) news
  one_more x news found its added = subst (AreFirst r l (number + 1)) (sym added) (record {
    count = length-append journals (x ∷ []) ∙ ap (λ n. n + 1) are.count;
    few = let inside = slice_get_within l.journals number x.dinode (next_at x.dinode found) in omega (arith, inside);
    each = λ j y at. elim (in_row journals x y j at) [
      | inl there ↦ are.each j y there
      | inr last ↦ subst (λ (z : JournalPlaces). IsJournalAt l j z.dinode) last.1 (subst (λ n. IsJournalAt l n x.dinode) (sym (last.0 ∙ are.count)) (next_at x.dinode found))
    ];
    blocks = λ j y at. elim (in_row journals x y j at) [
      | inl there ↦ are.blocks j y there
      | inr last ↦ subst (λ (z : JournalPlaces). AreItsBlocks r z.dinode z.blocks.items) last.1 its
    ];
  })

  -- where there is no next name they are all
  pub no_more : None ≡ (flat_of r o d).child (journal_name number) → AreJournals r l journals
  no_more found = record {
    count = elim (cases_lt number (length l.journals)) [
      | inl low ↦
          let at = slice_get-get_or l.journals number 0 low in
          absurd (none_some (found ∙ ap (λ a. (flat_of r o a).child (journal_name number)) same ∙ laid.system.journals number (get_or l.journals number 0) at))
      | inr high ↦ let few = are.few in let count = are.count in omega (arith, few, high, count)
    ];
    each = are.each;
    blocks = are.blocks;
  }
