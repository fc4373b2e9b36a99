-- The heads of journals in an image that calls have left: where it stands for a tree, they are as they were.
use Rattle.std.proofs.Common.{◌≡◌, ◌⊎◌, inl, inr, ℕ, zero, suc, ◌<◌, ◌≤◌, true, List, [], ◌∷◌, length, Some, refl, sym, ap, ◌∙◌, subst, arith}
use Rattle.std.specs.Prelude.{slice_get}
use Rattle.gfs2_layout.specs.Device.{IsBlockSize}
use Rattle.gfs2_layout.specs.Holding.{Holding}
use Rattle.log_layout.specs.Journal.{IsClean, ring_of, head_in}
use Rattle.image_model.specs.Claims.{every, LeadsTo}
use Rattle.image_model.specs.Image.{Image}
use Rattle.image_model.specs.Journals.{journal_name}
use Rattle.image_model.specs.Owners.{Owners, is_dinode, holding}
use Rattle.image_model.specs.Stands.{Layout, IsJournalAt, IsLaid, flat_of}
use Rattle.image_model.proofs.Facts.{jindex_is, leads_row, leads_child_of, child_leads}
use Rattle.image_model.proofs.Held.{none_some, some_same}
use Rattle.image_model.proofs.Lengths.{head_same, places_same}
use Rattle.image_mount.specs.Mounted.{Journal, MountedValue, IsMounted, IsJournalOf}
use Rattle.cluster_program.specs.Mounting.{AreClean, is_clean_head}

-- ---- places of a list

some_at : (xs : List ℕ) (k j d : ℕ) → slice_get xs j ≡ Some d → k ≤ j → (c : ℕ) × (slice_get xs k ≡ Some c)
some_at [] k j d is low = cc
some_at (x ∷ xs) zero j d is low = (x, refl)
some_at (x ∷ xs) (suc k) zero d is low = absurd (omega (arith, low))
some_at (x ∷ xs) (suc k) (suc j) d is low = some_at xs k j d is (omega (arith, low))

pub is_there : {A : Type 0} (xs : List A) (j : ℕ) → ((c : A) × (slice_get xs j ≡ Some c)) ⊎ (length xs ≤ j)
is_there [] j = inr (omega arith)
is_there (x ∷ xs) zero = inl (x, refl)
is_there (x ∷ xs) (suc j) = elim (is_there xs j) [ inl it ↦ inl it | inr past ↦ inr (omega (arith, past)) ]

pub below_end : {A : Type 0} (xs : List A) (j : ℕ) (x : A) → slice_get xs j ≡ Some x → j < length xs
below_end [] j x is = cc
below_end (y ∷ ys) zero x is = omega arith
below_end (y ∷ ys) (suc j) x is = let low = below_end ys j x is in omega (arith, low)

large : (n : ℕ) → IsBlockSize n → 512 ≤ n
large n (inl is) = omega (arith, is)
large n (inr (inl is)) = omega (arith, is)
large n (inr (inr (inl is))) = omega (arith, is)
large n (inr (inr (inr is))) = omega (arith, is)

-- ---- the head and the places of a journal by its own blocks, and by every block

module _ (im : Image) (o : Owners) (l : Layout) (laid : IsLaid im o l) (j d : ℕ) (at : IsJournalAt l j d) where
  dinode : is_dinode (o d) ≡ true
  dinode = ap is_dinode (leads_row im o l laid l.jindex (journal_name j) d (child_leads im o l laid l.jindex (journal_name j) d (laid.system.journals j d at)))

  own_places : (ring_of (holding im o d)).places ≡ (ring_of (every im d)).places
  own_places = places_same im o (large im.size laid.image.block_size) d dinode (laid.inodes d dinode) (laid.system.rings j d (laid.system.journals j d at))

  by_own : head_in (ring_of (holding im o d)) ≡ head_in (ring_of (every im d))
  by_own = head_same im o (large im.size laid.image.block_size) d dinode (laid.inodes d dinode) (laid.system.rings j d (laid.system.journals j d at))

-- ---- what was mounted

module _ (im : Image) (o : Owners) (l : Layout) (laid : IsLaid im o l) (m : MountedValue) (mounted : IsMounted im m) where
  jindex : mounted.layout.jindex ≡ l.jindex
  jindex = jindex_is im o l laid mounted.layout.jindex mounted.found.groups.list.master.jindex

  child : (j d : ℕ) → IsJournalAt mounted.layout j d → (flat_of im o l.jindex).child (journal_name j) ≡ Some d
  child j d at = leads_child_of im o l laid l.jindex (journal_name j) d (subst (λ a. LeadsTo im a (journal_name j) d) jindex (mounted.found.there j d at))

  -- a journal that was mounted is one of the layout
  pub of_layout : (j d : ℕ) → IsJournalAt mounted.layout j d → IsJournalAt l j d
  of_layout j d at = elim (is_there l.journals j) [
    | inl it ↦ subst (IsJournalAt l j) (some_same (sym (laid.system.journals j it.0 it.1) ∙ child j d at)) it.1
    | inr past ↦ let more = some_at mounted.layout.journals (length l.journals) j d at past in absurd (none_some (sym laid.system.last ∙ child (length l.journals) more.0 more.1))
  ]

  -- a journal of the layout was mounted, in an image of the profile
  pub of_mounted : (j d : ℕ) → IsJournalAt l j d → (k : ℕ) × (journal : Journal) × (slice_get m.journals k ≡ Some journal) × IsJournalOf im d journal
  of_mounted j d at =
      let it = mounted.profile.journals.others (journal_name j) d (subst (λ a. LeadsTo im a (journal_name j) d) (sym jindex) (child_leads im o l laid l.jindex (journal_name j) d (laid.system.journals j d at))) in
      elim (is_there m.journals it.0) [
        | inl found ↦ (it.0, found.0, found.1, mounted.journals it.0 d found.0 it.1 found.1)
        | inr past ↦ let low = below_end mounted.layout.journals it.0 d it.1 in absurd (omega (arith, low, past, mounted.count))
      ]

-- where the journals of an image's layout are clean, each journal that is mounted of it is
module _ (im : Image) (o : Owners) (l : Layout) (laid : IsLaid im o l) where
  pub clean_again : ((j a : ℕ) → IsJournalAt l j a → IsClean (ring_of (every im a))) → AreClean im
  clean_again clean m mounted j journal there = elim (is_there mounted.layout.journals j) [
    | inl it ↦
        let is = mounted.journals j it.0 journal it.1 there in
        let (head, head_is, is_clean) = clean j it.0 (of_layout im o l laid m mounted j it.0 it.1) in
        ap is_clean_head (sym is.head ∙ head_is) ∙ is_clean
    | inr past ↦ let low = below_end m.journals j journal there in absurd (omega (arith, low, past, mounted.count))
  ]
