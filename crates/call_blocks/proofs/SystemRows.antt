-- Where the blocks of the system files stand in an image that stands: under the master directory, and so not under the root.
use Rattle.std.proofs.Common.{◌≡◌, ◌≢◌, ◌<◌, ◌⊎◌, ℕ, zero, suc, inl, inr, Bool, true, false, List, [], ◌∷◌, None, Some, refl, sym, ap, subst, ◌∙◌, arith, slice_get, true≢false}
use Rattle.std.specs.Prelude.{◌==◌, ◌||◌, codes, if◌then◌else◌}
use Rattle.std.specs.List.{list_any}
use Rattle.std.proofs.lemmas.Bool.{eq-eqb}
use Rattle.gfs2_layout.specs.Device.{superblock_place}
use Rattle.gfs2_layout.specs.Inode.{content_block}
use Rattle.gfs2_layout.specs.declared.rindex.Rindex.{Rindex}
use Rattle.log_layout.specs.Journal.{ring_of}
use Rattle.glock_names.specs.declared.LockName.{LockName}
use Rattle.image_model.specs.Claims.{every, LeadsTo}
use Rattle.image_model.specs.Flat.{Path, follow}
use Rattle.image_model.specs.Groups.{IsDataOf, IsListed}
use Rattle.image_model.specs.Image.{Image}
use Rattle.image_model.specs.Journals.{journal_name}
use Rattle.image_model.specs.Owners.{Below, Chained, Free, InGroup, Master, Named, Nobody, Owner, Owners, Root, Super, is_dinode, IsUsed, IsWithin}
use Rattle.image_model.specs.Stands.{IsJournalAt, IsLaid, Layout, flat_of}
use Rattle.image_model.specs.SystemFiles.{IsSystemBlock, IsSystemFile, is_jindex, is_journal, is_master, is_rindex, of_content, of_dinode, of_leaf, of_superblock}
use Rattle.image_model.proofs.Facts.{has_dinode, jindex_is, leads_child_of, master_is, rindex_is}
use Rattle.image_model.proofs.Held.{none_some, pointed_owner, some_same}
use Rattle.image_model.proofs.Rows.{claim_row, leads_child}
use Rattle.image_model.proofs.SystemStays.{file_inode}
use Rattle.image_changes.specs.Changes.{cover, inode_lock, inode_of}
use Rattle.image_changes.proofs.Frame.{dinode_its, inode_cover}
use Rattle.image_changes.proofs.Laid.{apart}
use Rattle.lone_logs.proofs.SameFiles.{place_row}
use Rattle.call_blocks.specs.Replaying.{IsOfTree}

free_no_dinode : (g : ℕ) (x : Owner) → x ≡ Free g → is_dinode x ≡ true → ⊥
free_no_dinode g x e d = true≢false (sym d ∙ ap is_dinode e)

-- a block of an inode is used
its_used : (b a : ℕ) (x : Owner) → inode_of b x ≡ Some a → IsUsed x
its_used b a Root e = tt
its_used b a Master e = tt
its_used b a (Named p name) e = tt
its_used b a (Below d p k level first) e = tt
its_used b a (Chained d hash place) e = tt
its_used b a Super e = absurd (none_some e)
its_used b a (InGroup g) e = absurd (none_some e)
its_used b a (Free g) e = absurd (none_some e)
its_used b a Nobody e = absurd (none_some e)

-- a block of an inode is its dinode, or within it
its_dinode : (b a : ℕ) (x : Owner) → inode_of b x ≡ Some a → ((a ≡ b) × (is_dinode x ≡ true)) ⊎ IsWithin a x
its_dinode b a Root e = inl (sym (some_same e), refl)
its_dinode b a Master e = inl (sym (some_same e), refl)
its_dinode b a (Named p name) e = inl (sym (some_same e), refl)
its_dinode b a (Below d p k level first) e = inr (some_same e)
its_dinode b a (Chained d hash place) e = inr (some_same e)
its_dinode b a Super e = absurd (none_some e)
its_dinode b a (InGroup g) e = absurd (none_some e)
its_dinode b a (Free g) e = absurd (none_some e)
its_dinode b a Nobody e = absurd (none_some e)

or_true : (t : Bool) → (t || true) ≡ true
or_true true = refl
or_true false = refl

is_listed : (ds : List ℕ) (j d : ℕ) → slice_get ds j ≡ Some d → list_any (λ z. z == d) ds ≡ true
is_listed [] j d at = absurd (none_some at)
is_listed (x ∷ ds) zero d at = ap (λ t. t || list_any (λ z. z == d) ds) (eq-eqb x d (some_same at))
is_listed (x ∷ ds) (suc j) d at = ap (λ t. (x == d) || t) (is_listed ds j d at) ∙ or_true (x == d)

module _ (im : Image) (o : Owners) (l : Layout) (laid : IsLaid im o l) where
  -- each system file is found from the master directory
  pub file_path : (d : ℕ) → IsSystemFile im d → (path : Path) × (follow (flat_of im o) l.master path ≡ Some d)
  file_path d (is_master e) = ([], ap Some (sym (e ∙ master_is im o l laid)))
  file_path d (is_rindex way) = (codes "rindex" ∷ [], rw laid.system.rindex (ap Some (sym (rindex_is im o l laid d way))))
  file_path d (is_jindex way) = (codes "jindex" ∷ [], rw laid.system.jindex (ap Some (sym (jindex_is im o l laid d way))))
  file_path d (is_journal j has) =
      let way : LeadsTo im l.jindex (journal_name j) d = subst (λ a. LeadsTo im a (journal_name j) d) (jindex_is im o l laid has.0 has.1) has.2 in
      (codes "jindex" ∷ journal_name j ∷ [], rw (laid.system.jindex, leads_child_of im o l laid l.jindex (journal_name j) d way) refl)

  pub file_dinode : (d : ℕ) → IsSystemFile im d → is_dinode (o d) ≡ true
  file_dinode d file = has_dinode im o l laid d (file_inode im d file)

  -- the inode of a block is there
  pub inode_there : (b a : ℕ) → inode_of b (o b) ≡ Some a → is_dinode (o a) ≡ true
  inode_there b a e = elim (its_dinode b a (o b) e) [
    | inl own ↦ ap (λ z. is_dinode (o z)) own.0 ∙ own.1
    | inr within ↦ laid.within b a within
  ]

  -- the block of an inode is a data block of a group
  pub inode_placed : (b a : ℕ) → inode_of b (o b) ≡ Some a → (g : Rindex) × IsListed l.groups g × IsDataOf g b
  inode_placed b a e = laid.zoned.placed b (its_used b a (o b) e)

  -- a block of the system files is the superblock, or one of the inode of such a file
  pub system_row : (b : ℕ) → IsSystemBlock im b → (o b ≡ Super) ⊎ ((d : ℕ) × IsSystemFile im d × (inode_of b (o b) ≡ Some d))
  system_row b (of_superblock e) = inl (ap o e ∙ laid.zoned.low (superblock_place im.size) (omega arith))
  system_row b (of_dinode file) = inr (b, file, dinode_its b (o b) (file_dinode b file))
  system_row b (of_content d p k level first file leads within) =
      inr (d, file, ap (inode_of b) (pointed_owner im o d b p k level first (leads_child im o l laid d (file_dinode d file) p k level first b leads).part))
  system_row b (of_leaf d by hash place file claim) = inr (d, file, ap (inode_of b) (claim_row im o l laid by b (Chained d hash place) claim))

  -- a block of no inode, and not the superblock's, is none of the system files
  pub apart_alone : (b : ℕ) → inode_of b (o b) ≡ None → (o b ≡ Super → ⊥) → IsSystemBlock im b → ⊥
  apart_alone b none low is = elim (system_row b is) [ inl super ↦ low super | inr row ↦ none_some (sym none ∙ row.2) ]

  -- nor is a block of an inode that is found from the root, or that isn't there yet
  pub apart_tree : (b a : ℕ) → inode_of b (o b) ≡ Some a → IsOfTree im o l a → IsSystemBlock im b → ⊥
  apart_tree b a its (inr free) is = free_no_dinode free.0 (o a) free.1 (inode_there b a its)
  apart_tree b a its (inl found) is = elim (system_row b is) [
    | inl super ↦ none_some (ap (inode_of b) (sym super) ∙ its)
    | inr row ↦
        let way = file_path row.0 row.1 in
        let same : row.0 ≡ a = some_same (sym row.2 ∙ its) in
        apart im o l laid found.0 way.0 a found.1 (subst (λ z. follow (flat_of im o) l.master way.0 ≡ Some z) same way.1)
  ]

  -- the lock of an inode is that of its number
  numbered : (a : ℕ) (lock : LockName) → inode_lock l a ≡ Some lock → lock ≡ record { kind = 2; number = a }
  numbered a lock = by (list_any (λ d. d == a) l.journals)
    where
      by : (t : Bool) → (if t then None else Some (record { kind = 2; number = a })) ≡ Some lock → lock ≡ record { kind = 2; number = a }
      by true e = absurd (none_some e)
      by false e = sym (some_same e)

  -- a block that a lock covers is none of the system files where that lock is no inode's, or that of one that is found from the root or isn't there yet
  pub covered_apart : (b : ℕ) (lock : LockName) → cover l b (o b) ≡ Some lock → ((a : ℕ) → inode_of b (o b) ≡ Some a → lock ≡ record { kind = 2; number = a } → IsOfTree im o l a) → IsSystemBlock im b → ⊥
  covered_apart b lock covers tree = by (o b) refl
    where
      low : (x : Owner) → o b ≡ x → (x ≡ Super → ⊥) → o b ≡ Super → ⊥
      low x e not super = not (sym e ∙ super)

      alone : (x : Owner) → o b ≡ x → inode_of b x ≡ None → (x ≡ Super → ⊥) → IsSystemBlock im b → ⊥
      alone x e none not = apart_alone b (ap (inode_of b) e ∙ none) (low x e not)

      of_inode : (x : Owner) (a : ℕ) → o b ≡ x → inode_of b x ≡ Some a → IsSystemBlock im b → ⊥
      of_inode x a e its =
          let row : inode_of b (o b) ≡ Some a = ap (inode_of b) e ∙ its in
          apart_tree b a row (tree a row (numbered a lock (sym (inode_cover l b (o b) a row) ∙ covers)))

      by : (x : Owner) → o b ≡ x → IsSystemBlock im b → ⊥
      by Super e = absurd (none_some (ap (cover l b) (sym e) ∙ covers))
      by Nobody e = absurd (none_some (ap (cover l b) (sym e) ∙ covers))
      by (InGroup g) e = alone (InGroup g) e refl (λ same. cc)
      by (Free g) e = alone (Free g) e refl (λ same. cc)
      by Root e = of_inode Root b e refl
      by Master e = of_inode Master b e refl
      by (Named p name) e = of_inode (Named p name) b e refl
      by (Below d p k level first) e = of_inode (Below d p k level first) d e refl
      by (Chained d hash place) e = of_inode (Chained d hash place) d e refl

  -- no lock covers a place of a journal
  pub covered_no_place : (b : ℕ) (lock : LockName) → cover l b (o b) ≡ Some lock → (j d p : ℕ) → IsJournalAt l j d → p < (ring_of (every im d)).places → content_block (every im d) p ≢ b
  covered_no_place b lock covers j d p at low e =
      let row = place_row im o l laid j d at p low in
      let its : inode_of b (o b) ≡ Some d = ap (λ z. inode_of b (o z)) (sym e) ∙ ap (inode_of b) row.3 in
      none_some (sym (ap (λ t. if t then None else Some (record { kind = 2; number = d })) (is_listed l.journals j d at)) ∙ sym (inode_cover l b (o b) d its) ∙ covers)
