-- The first journal of a mounted image.
use Rattle.std.proofs.Common.{◌≡◌, ℕ, ◌<◌, List, length, get_or, None, Some, refl, sym, subst, ◌∙◌, arith}
use Rattle.std.specs.FinMap.{empty, get, get-empty}
use Rattle.std.specs.Ordering.{nat_cmp}
use Rattle.std.specs.Prelude.{slice_get}
use Rattle.std.proofs.lemmas.Option.{slice_get_within}
use Rattle.gfs2_layout.specs.Inode.{content_block}
use Rattle.image_model.specs.Claims.{every}
use Rattle.image_model.specs.Image.{Image, image_of}
use Rattle.image_model.specs.Stands.{IsJournalAt}
use Rattle.image_model.specs.SystemFiles.{is_journal, of_dinode}
use Rattle.image_replays.specs.MountedImages.{IsJournalOf, IsMounted, Journal, MountedValue}
use Rattle.image_replays.proofs.System.{block_at_place, has_journal, same_ring, some_at}
use Rattle.journal_reads.specs.Reading.{ring_read}
use Rattle.log_layout.specs.Journal.{ring_of}
use Rattle.log_layout.specs.Laws.{HasSamePlaces}
use Rattle.shared_disk.specs.Disk.{DiskState, IsIdle}
use Rattle.mounted_views.specs.Laws.{MountedJournalsArePlaced}

-- of no block is anything kept
pub nothing_kept : (b : ℕ) (bytes : List ℕ) → get (empty {K = ℕ} {X = List ℕ} {R = nat_cmp}) b ≡ Some bytes → ⊥
nothing_kept b bytes has = let never : None ≡ Some bytes = sym (get-empty {K = ℕ} {X = List ℕ} nat_cmp b) ∙ has in cc

module _ (disk : DiskState) (m : MountedValue) (own : Journal) (idle : IsIdle disk) (is : IsMounted (image_of disk) m) (first : slice_get m.journals 0 ≡ Some own) where
  abbrev im : Image
  im = image_of disk

  -- it is the first of the layout
  pub its : IsJournalAt is.layout 0 own.dinode × IsJournalOf im own.dinode own
  its =
      let d = some_at is.layout.journals 0 (subst (λ n. 0 < n) is.count (slice_get_within m.journals 0 own first)) in
      let one = is.journals 0 d.0 own d.1 first in
      (subst (IsJournalAt is.layout 0) (sym one.dinode) d.1, subst (λ e. IsJournalOf im e own) (sym one.dinode) one)

  -- its blocks are those of the journal's places
  pub its_ring : HasSamePlaces (ring_read disk 1 own.blocks) (ring_of (every im own.dinode))
  its_ring = same_ring disk 1 idle own.dinode own its.1

  pub its_place : (p : ℕ) → p < (ring_of (every im own.dinode)).places → get_or own.blocks p 0 ≡ content_block (every im own.dinode) p
  its_place p low = block_at_place disk 1 idle own.dinode own its.1 p low

  in_ring : (p : ℕ) → p < length own.blocks → p < (ring_of (every im own.dinode)).places
  in_ring p low = subst (λ n. p < n) its_ring.places low

  inside : (p : ℕ) → p < length own.blocks → get_or own.blocks p 0 < disk.count
  inside p low =
      let place = its_place p (in_ring p low) in
      let group = is.looked.places 0 p (content_block (every im own.dinode) p) (record { dinode = own.dinode; at = its.0; low = in_ring p low; is = refl }) in
      let fits = is.found.groups.fit.each group.0 group.1 in
      let high = group.2.high in
      let within = fits.inside in
      omega (arith, place, high, within)

  apart : (p q : ℕ) → p < length own.blocks → q < length own.blocks → get_or own.blocks p 0 ≡ get_or own.blocks q 0 → p ≡ q
  apart p q low low' same = (is.looked.apart 0 0 p q (content_block (every im own.dinode) p)
      (record { dinode = own.dinode; at = its.0; low = in_ring p low; is = refl })
      (record { dinode = own.dinode; at = its.0; low = in_ring q low'; is = sym (its_place q (in_ring q low')) ∙ sym same ∙ its_place p (in_ring p low) })).1

  dinode_inside : own.dinode < disk.count
  dinode_inside = is.inside own.dinode (of_dinode (is_journal 0 (has_journal im m is 0 own.dinode its.0)))

pub mounted_journals_are_placed : MountedJournalsArePlaced
mounted_journals_are_placed disk m own frames time idle is first =
    (record { inside = inside disk m own idle is first; apart = apart disk m own idle is first; dinode = dinode_inside disk m own idle is first }, is.profile.device)
