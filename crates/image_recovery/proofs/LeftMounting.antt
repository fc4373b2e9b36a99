-- What is mounted of the image that a replay leaves.
use Rattle.std.proofs.Common.{◌≡◌, ℕ, zero, suc, ◌≤◌, ◌<◌, true, length, map, Some, sym, ap, subst, ◌∙◌, arith}
use Rattle.std.specs.Prelude.{slice_get}
use Rattle.std.specs.List.{range_with_len}
use Rattle.std.proofs.lemmas.Option.{slice_get_within}
use Rattle.file_tree.specs.Tree.{Tree}
use Rattle.gfs2_layout.specs.Device.{superblock_place}
use Rattle.gfs2_layout.specs.Inode.{content_block}
use Rattle.gfs2_layout.specs.Structures.{superblock_of}
use Rattle.gfs2_layout.proofs.StatePuts.{map_same}
use Rattle.glock_names.specs.Views.{group_of_entry}
use Rattle.image_model.specs.Claims.{every}
use Rattle.image_model.specs.Image.{Image}
use Rattle.image_model.specs.Owners.{Owners}
use Rattle.image_model.specs.Stands.{IsJournalAt, IsLaid, Layout, Stands}
use Rattle.image_model.proofs.Replaying.{journals_of_standing, one_replay, same_journals}
use Rattle.image_changes.specs.Contents.{PlacesDoNotMatter}
use Rattle.image_mount.specs.Mounted.{IsMounted, Journal, MountedValue}
use Rattle.image_mount.proofs.Layouts.{as_mounted}
use Rattle.image_replays.proofs.System.{its_journals, some_at}
use Rattle.log_layout.specs.Journal.{ring_of}
use Rattle.log_layout.specs.declared.log_header.LogHeader.{LogHeader}
use Rattle.image_recovery.specs.Left.{IsLeft, IsMountedClean, LeftMounts}
use Rattle.image_recovery.proofs.LeftStanding.{back, list_stays, stands_by, super_stays, there}

some_is : {A : Type 0} {x y : A} → Some x ≡ Some y → x ≡ y
some_is e = cc

-- a list of which each index is one of another is no longer
no_longer : (a b : ℕ) → ((j : ℕ) → j < a → j < b) → a ≤ b
no_longer zero b all = omega arith
no_longer (suc n) b all = let last : n < b = all n (omega arith) in omega (arith, last)

module _ (im left : Image) (before m : MountedValue) (is : IsMounted im before) (x : IsLeft im is.layout left) (o : Owners) (l : Layout) (laid : IsLaid x.replayed o l) (laid_left : IsLaid left o l) (mounted : IsMounted left m) where
  -- the layout that is found has the journals of the first one
  forth : (j d : ℕ) → IsJournalAt is.layout j d → IsJournalAt mounted.layout j d
  forth j d at = same_journals left l mounted.layout (journals_of_standing left o l laid_left) (its_journals left m mounted) j d (there im left before is x o l laid j d at)

  home : (j d : ℕ) → IsJournalAt mounted.layout j d → IsJournalAt is.layout j d
  home j d at = back im left before is x o l laid j d (same_journals left mounted.layout l (its_journals left m mounted) (journals_of_standing left o l laid_left) j d at)

  as_long : length mounted.layout.journals ≡ length is.layout.journals
  as_long =
      let less = no_longer (length mounted.layout.journals) (length is.layout.journals) (λ j low. let d = some_at mounted.layout.journals j low in slice_get_within is.layout.journals j d.0 (home j d.0 d.1)) in
      let more = no_longer (length is.layout.journals) (length mounted.layout.journals) (λ j low. let d = some_at is.layout.journals j low in slice_get_within mounted.layout.journals j d.0 (forth j d.0 d.1)) in
      omega (arith, less, more)

  -- a journal of both
  dinode_of_journal : (j : ℕ) (y : Journal) → slice_get m.journals j ≡ Some y → (d : ℕ) × IsJournalAt mounted.layout j d
  dinode_of_journal j y at = some_at mounted.layout.journals j (subst (λ n. j < n) mounted.count (slice_get_within m.journals j y at))

  dinodes : (j : ℕ) (u y : Journal) → slice_get before.journals j ≡ Some u → slice_get m.journals j ≡ Some y → y.dinode ≡ u.dinode
  dinodes j u y at at' =
      let d = dinode_of_journal j y at' in
      (mounted.journals j d.0 y d.1 at').dinode ∙ sym (is.journals j d.0 u (home j d.0 d.1) at).dinode

  same_places : (j : ℕ) (u y : Journal) → slice_get before.journals j ≡ Some u → slice_get m.journals j ≡ Some y → y.blocks ≡ u.blocks
  same_places j u y at at' =
      let d = dinode_of_journal j y at' in
      let first = home j d.0 d.1 in
      let n = (ring_of (every im d.0)).places in
      (mounted.journals j d.0 y d.1 at').blocks
      ∙ ap (λ k. map (content_block (every left d.0)) (range_with_len 0 k)) (x.as_many j d.0 first)
      ∙ map_same (content_block (every left d.0)) (content_block (every im d.0)) 0 n (λ p low high. x.places j d.0 p first (omega (arith, high)))
      ∙ sym (is.journals j d.0 u first at).blocks

  clean : (j : ℕ) (y : Journal) → slice_get m.journals j ≡ Some y → y.head.clean ≡ true
  clean j y at =
      let d = dinode_of_journal j y at in
      let ended = x.clean j d.0 (home j d.0 d.1) in
      let same : y.head ≡ ended.0 = some_is (sym (mounted.journals j d.0 y d.1 at).head ∙ ended.1) in
      ap (λ (h : LogHeader). h.clean) same ∙ ended.2

  superblock_same : m.superblock ≡ before.superblock
  superblock_same =
      mounted.superblock
      ∙ ap (λ n. superblock_of (left.at (superblock_place n))) x.size
      ∙ ap superblock_of (super_stays im left before is x o l laid)
      ∙ sym is.superblock

  groups_same : m.groups ≡ before.groups
  groups_same =
      (as_mounted left m o l mounted laid_left).1
      ∙ ap (map group_of_entry) (sym (list_stays im left before is x o l laid) ∙ is.found.groups.list.listed)
      ∙ sym is.groups

  pub again : IsMountedClean before m
  again = record {
    same = record { superblock = superblock_same; groups = groups_same; count = mounted.count ∙ as_long ∙ sym is.count; dinodes = dinodes; places = same_places };
    clean = clean;
  }

mounts_left : PlacesDoNotMatter → (im left : Image) (before m : MountedValue) (is : IsMounted im before) (t : Tree) (x : IsLeft im is.layout left) → Stands x.replayed t → IsMounted left m → IsMountedClean before m
mounts_left given im left before m is t x s mounted =
    let by = stands_by im left before is x s.owners s.layout s.laid given t (record { laid = s.laid; reads = s.reads }) in
    again im left before m is x s.owners s.layout s.laid by.laid mounted

pub left_mounts : PlacesDoNotMatter → LeftMounts
left_mounts given im left before m is t x replayed mounted =
    mounts_left given im left before m is t x (subst (λ r. Stands r t) (one_replay im replayed.replayed x.replayed replayed.layout is.layout replayed.is x.is) replayed.stands) mounted
