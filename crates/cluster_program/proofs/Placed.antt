-- The journals of a mounted image are in blocks of the disk.
use Rattle.std.proofs.Common.{◌≡◌, ℕ, suc, ◌+◌, ◌<◌, ◌≤◌, ◌^◌, List, [], ◌∷◌, length, get_or, None, Some, refl, sym, ◌∙◌, subst, arith}
use Rattle.std.specs.Prelude.{slice_get}
use Rattle.std.specs.List.{All, AllByRecursion}
use Rattle.std.proofs.lemmas.Option.{slice_get_within}
use Rattle.std.proofs.lemmas.List.{get_or_default}
use Rattle.gfs2_layout.specs.Inode.{content_block}
use Rattle.image_model.specs.Claims.{every}
use Rattle.image_model.specs.Image.{image_of}
use Rattle.image_model.specs.Stands.{IsJournalAt}
use Rattle.image_mount.specs.Mounted.{IsJournalOf, IsMounted, Journal, MountedValue}
use Rattle.image_replays.proofs.System.{block_at_place, same_ring, some_at}
use Rattle.journal_reads.specs.Reading.{ring_read}
use Rattle.log_layout.specs.Journal.{ring_of}
use Rattle.log_layout.specs.Laws.{HasSamePlaces}
use Rattle.shared_disk.specs.Disk.{DiskState, IsIdle}
use Rattle.cluster_program.specs.Mounting.{ArePlaced}

module _ (disk : DiskState) (m : MountedValue) (idle : IsIdle disk) (is : IsMounted (image_of disk) m) where
  module _ (j : ℕ) (own : Journal) (at : slice_get m.journals j ≡ Some own) where
    -- it is that of the layout at this slot
    its : IsJournalAt is.layout j own.dinode × IsJournalOf (image_of disk) own.dinode own
    its =
        let d = some_at is.layout.journals j (subst (λ n. j < n) is.count (slice_get_within m.journals j own at)) in
        let one = is.journals j d.0 own d.1 at in
        (subst (IsJournalAt is.layout j) (sym one.dinode) d.1, subst (λ e. IsJournalOf (image_of disk) e own) (sym one.dinode) one)

    ring : HasSamePlaces (ring_read disk 1 own.blocks) (ring_of (every (image_of disk) own.dinode))
    ring = same_ring disk 1 idle own.dinode own its.1

    inside : All (λ b. b < disk.count) own.blocks
    inside p d low =
        let there : p < (ring_of (every (image_of disk) own.dinode)).places = subst (λ n. p < n) ring.places low in
        let place = block_at_place disk 1 idle own.dinode own its.1 p there in
        let group = is.looked.places j p (content_block (every (image_of disk) own.dinode) p) (record { dinode = own.dinode; at = its.0; low = there; is = refl }) in
        let fits = (is.found.groups.fit.each group.0 group.1).inside in
        let high = group.2.high in
        let same = get_or_default own.blocks p d 0 low in
        subst (λ b. b < disk.count) (sym same) (omega (arith, place, high, fits))

    few : length own.blocks < 2 ^ 32
    few =
        let long = ring.places in
        let most = (is.profile.journal j own.dinode its.0).1 in omega (arith, long, most)

  -- each of a list of journals is, that are mounted from some slot on
  all_placed : (js : List Journal) (from : ℕ) → ((k : ℕ) (x : Journal) → slice_get js k ≡ Some x → slice_get m.journals (from + k) ≡ Some x) → ArePlaced disk.count js
  all_placed [] from there = tt
  all_placed (x ∷ js) from there =
      let here : slice_get m.journals (from + 0) ≡ Some x = there 0 x refl in
      ((few (from + 0) x here, inside (from + 0) x here), all_placed js (from + 1) (λ k y is_y. subst (λ n. slice_get m.journals n ≡ Some y) (omega arith) (there (suc k) y is_y)))

  pub are_placed : ArePlaced disk.count m.journals
  are_placed = all_placed m.journals 0 (λ k x at. let none : 0 + k ≡ k = omega arith in subst (λ n. slice_get m.journals n ≡ Some x) (sym none) at)
