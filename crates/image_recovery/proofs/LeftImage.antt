-- The image that is on a disk once all journals of a mounted image are replayed.
use Rattle.std.proofs.Common.{◌≡◌, ◌⊎◌, inl, inr, ℕ, suc, ◌+◌, ◌/◌, ◌%◌, ◌≤◌, ◌<◌, List, [], ◌∷◌, length, get_or, true, Option, None, Some, refl, sym, ap, subst, ◌∙◌, arith}
use Rattle.std.specs.Prelude.{IsTrue, slice_get}
use Rattle.std.proofs.lemmas.Bool.{cond-true}
use Rattle.std.proofs.lemmas.Option.{slice_get_within}
use Rattle.disk_turns.specs.Turns.{Moment}
use Rattle.gfs2_layout.specs.Device.{IsBlockSize}
use Rattle.gfs2_layout.specs.Inode.{Leads, content_block, content_count, height_in, pointer, span}
use Rattle.gfs2_layout.specs.Structures.{dinode_length}
use Rattle.gfs2_layout.specs.declared.dinode.Dinode.{Dinode}
use Rattle.image_model.specs.Claims.{every}
use Rattle.image_model.specs.Image.{Image, image_of}
use Rattle.image_model.specs.Stands.{IsJournalAt}
use Rattle.image_model.specs.SystemFiles.{IsSystemBlock, IsSystemFile, is_journal, of_content, of_dinode}
use Rattle.image_model.proofs.Lengths.{size_large}
use Rattle.image_model.proofs.SystemStays.{replay_keeps}
use Rattle.image_mount.specs.Looks.{IsOffDown, IsPlaceOf, of_journal}
use Rattle.image_mount.specs.Mounted.{IsJournalOf, IsMounted, Journal, MountedValue}
use Rattle.image_replays.specs.Replays.{ArePlans, put_over}
use Rattle.image_replays.proofs.System.{block_at_place, has_journal, mounted_at, same_ring, some_at}
use Rattle.journal_reads.specs.Reading.{ring_read}
use Rattle.log_layout.specs.Journal.{IsClean, Ring, head_in, ring_of}
use Rattle.log_layout.specs.Laws.{HasSamePlaces, HeadersReadBack}
use Rattle.log_layout.proofs.SamePlaces.{says_the_same}
use Rattle.peer_replay.specs.Plans.{clean_after, clean_header}
use Rattle.peer_replay.specs.declared.planned.Plan.{Plan}
use Rattle.shared_disk.specs.Disk.{IsIdle}
use Rattle.trace_text.specs.declared.item.TraceItem.{TraceItem}
use Rattle.image_recovery.specs.Ended.{HasEnded, head_left}
use Rattle.image_recovery.specs.Left.{HasHeadsLeft, HeadsAreLeft, HoldsPlace, IsLeft, IsMountedAs, ReplayLeaves}
use Rattle.image_recovery.specs.Recoveries.{AreHeadersRead, AreReplays, CanReplayAll}
use Rattle.image_recovery.proofs.Alike.{dinode_same, place_same}
use Rattle.image_recovery.proofs.Ending.{HaveOwnPlaces, read_is, replayed_have_ended, rests_all, some_is}
use Rattle.image_recovery.proofs.Headers.{IsHeaderIn, header_all, header_long, header_or_not, places_one}
use Rattle.image_recovery.proofs.JournalPlaces.{place_high, place_within}
use Rattle.image_recovery.proofs.Left.{replayed_is_left}
use Rattle.image_recovery.proofs.Mapped.{apart, once, place_at, theirs}
use Rattle.image_recovery.proofs.Recovered.{can_at}
use Rattle.journal_replays.specs.Replays.{IsReplayWith}
use Rattle.drafts.specs.declared.change.Written.{Written}
use Rattle.log_layout.specs.declared.log_header.LogHeader.{LogHeader}

-- ---- the disk has as many blocks

count_one : (node slot dinode : ℕ) (blocks : List ℕ) (time : ℕ) (before after : Moment) (home : List Written) (c : Option LogHeader) (items : List TraceItem) → IsReplayWith node slot dinode blocks time before after home c items
    → after.disk.count ≡ before.disk.count
count_one node slot dinode blocks time before after home None items is = ap (λ (m : Moment). m.disk.count) is.0
count_one node slot dinode blocks time before after home (Some h) items is = is.headed.written.count ∙ is.homes.written.count

count_all : (node slot time : ℕ) (before after : Moment) (js : List Journal) (ps : List Plan) (items : List TraceItem) → AreReplays node slot time before js ps after items → after.disk.count ≡ before.disk.count
count_all node slot time before after [] [] items (same, none) = ap (λ (m : Moment). m.disk.count) same
count_all node slot time before after [] (p ∷ ps) items so = absurd so
count_all node slot time before after (j ∷ js) [] items so = absurd so
count_all node slot time before after (j ∷ js) (p ∷ ps) items (mid, first, later, are, one, rest) =
    count_all node (slot + 1) time mid after js ps later rest ∙ count_one node slot j.dinode j.blocks time before mid p.home.items p.clean first one

clean_same : (r t : Ring) → HasSamePlaces r t → IsClean r → IsClean t
clean_same r t same clean = (clean.0, sym (says_the_same r t same).head ∙ clean.1, clean.2)

-- ---- the image

module _ (given : HeadersReadBack) (node time : ℕ) (before after : Moment) (m : MountedValue) (plans : List Plan) (added : List TraceItem) (tells : IsTrue before.disk.tells) (idle : IsIdle before.disk)
    (sized : IsBlockSize before.disk.size) (is : IsMounted (image_of before.disk) m) (are : ArePlans (image_of before.disk) is.layout plans) (can : CanReplayAll before.disk m.journals plans)
    (read : AreHeadersRead before.disk.size 1 time m.journals plans) (so : AreReplays node 1 time before m.journals plans after added) where
  abbrev im : Image
  im = image_of before.disk

  abbrev replayed : Image
  replayed = put_over im plans

  -- the image that is left, with the numbers of the first one
  abbrev other : Image
  other = record { size = before.disk.size; count = before.disk.count; at = after.disk.block_at }

  large : 512 ≤ im.size
  large = size_large im.size sized

  rests : (after.disk.size ≡ before.disk.size) × (after.disk.in_flight node ≡ [])
  rests = rests_all node 1 time before after m.journals plans added (idle.none_in_flight node) so

  other_is : other ≡ image_of after.disk
  other_is = λ i. record { size = (sym rests.0) i; count = (sym (count_all node 1 time before after m.journals plans added so)) i; at = after.disk.block_at }

  places : HaveOwnPlaces m.journals plans
  places i j p at_j at_p = (can_at before.disk m.journals plans i j p can at_j at_p).place

  ended : (i : ℕ) (j : Journal) (p : Plan) → slice_get m.journals i ≡ Some j → slice_get plans i ≡ Some p → HasEnded before.disk after.disk node (i + 1) time j p
  ended =
      replayed_have_ended node time before after m.journals plans added tells (idle.none_in_flight node) can (theirs before.disk node idle m is plans are) (apart before.disk node idle m is plans are) read so

  -- ---- its blocks

  holds : (b : ℕ) → IsHeaderIn m.journals plans b → HoldsPlace im other is.layout b
  holds b h = record {
    journal = h.index;
    place = h.header.blkno;
    is = subst (IsPlaceOf im is.layout h.index h.header.blkno) h.block (place_at before.disk node idle m is h.index h.journal h.at_journal h.header.blkno inside);
    whole = subst (λ x. length (after.disk.block_at x) ≡ before.disk.size) h.block (
        ap length (header_all node time 1 before after m.journals plans added tells places (apart before.disk node idle m is plans are) so h.index h.journal h.plan h.header h.at_journal h.at_plan h.is)
        ∙ header_long given before.disk.size (get_or h.journal.blocks h.header.blkno 0) (1 + h.index) h.journal.dinode time h.header (let low : 512 ≤ before.disk.size = large in omega (arith, low)));
  }
    where
      inside : h.header.blkno < length h.journal.blocks
      inside = places_one h.journal.blocks h.plan.clean h.header h.is (places h.index h.journal h.plan h.at_journal h.at_plan)

  blocks : (b : ℕ) → (other.at b ≡ replayed.at b) ⊎ HoldsPlace im other is.layout b
  blocks b = elim (header_or_not m.journals plans b) [
    | inl h ↦ inr (holds b h)
    | inr off ↦ inl (replayed_is_left node time before after m.journals plans added tells (theirs before.disk node idle m is plans are) (once before.disk node idle m is plans are) so b off)
  ]

  -- a block of the system files that is no place is as it was
  system_stays : (b : ℕ) → IsSystemBlock im b → ((i p : ℕ) → IsPlaceOf im is.layout i p b → ⊥) → im.at b ≡ other.at b
  system_stays b system none = elim (blocks b) [
    | inl same ↦ sym (same ∙ (replay_keeps im replayed is.layout are.replayed).same b system)
    | inr holds ↦ absurd (none holds.journal holds.place holds.is)
  ]

  -- ---- its journals

  module _ (j d : ℕ) (at : IsJournalAt is.layout j d) where
    file : IsSystemFile im d
    file = is_journal j (has_journal im m is j d at)

    own : im.at d ≡ other.at d
    own = system_stays d (of_dinode file) (λ i p place. is.looked.beside i p d place (of_journal j d at))

    -- no place is on the way
    abbrev IsOff : ℕ → ℕ → ℕ → Type 0
    IsOff level c i = (x k p : ℕ) → IsPlaceOf im is.layout k p x → IsOffDown x (every im d) level c i

    ways : (p k level first c i : ℕ) → Leads (every im d) p k (suc level) first c → first < content_count (every im d) → IsOff (suc level) c i → im.at c ≡ other.at c
    ways p k level first c i leads within off = system_stays c (of_content d p k (suc level) first file leads within) (λ n q place. (off c n q place).0 refl)

    module _ (p : ℕ) (low : p < (ring_of (every im d)).places) where
      high : (level : ℕ) × (height_in (every im d) ≡ suc level)
      high = place_high im m is large j d at p low

      off_way : IsOff high.0 (pointer (every im d) dinode_length d (p / span im.size high.0)) (p % span im.size high.0)
      off_way x k q place =
          subst (λ level. IsOffDown x (every im d) level (pointer (every im d) dinode_length d (p / span im.size level)) (p % span im.size level)) (let e : height_in (every im d) ≡ suc high.0 = high.1 in omega (arith, e))
          (is.looked.clear k q x place j d p at low)

      place_stays : content_block (every other d) p ≡ content_block (every im d) p
      place_stays =
          sym (place_same before.disk.size before.disk.count before.disk.block_at after.disk.block_at d (is.looked.journals j d at).dinode.fits own IsOff (λ level c i off x k q place. (off x k q place).1) ways
          high.0 high.1 p (place_within im m is large j d at p low) off_way).0

    as_many : (ring_of (every other d)).places ≡ (ring_of (every im d)).places
    as_many =
        ap (λ (x : Dinode). x.size / before.disk.size)
        (sym (dinode_same before.disk.size before.disk.count before.disk.block_at after.disk.block_at d (is.looked.journals j d at).dinode.fits own IsOff (λ level c i off x k q place. (off x k q place).1) ways))

    mounted : (y : Journal) × (slice_get m.journals j ≡ Some y) × IsJournalOf im d y
    mounted = mounted_at im m is j d at

    planned : (p : Plan) × (slice_get plans j ≡ Some p)
    planned = let many : length plans ≡ length is.layout.journals = are.count in some_at plans j (subst (λ n. j < n) (sym many) (slice_get_within is.layout.journals j d at))

    has_ended : HasEnded before.disk after.disk node (j + 1) time mounted.0 planned.0
    has_ended = ended j mounted.0 planned.0 mounted.1 planned.1

    first_ring : HasSamePlaces (ring_read before.disk node mounted.0.blocks) (ring_of (every im d))
    first_ring = same_ring before.disk node idle d mounted.0 mounted.2

    left_ring : HasSamePlaces (ring_read after.disk node mounted.0.blocks) (ring_of (every other d))
    left_ring = record {
      size = rests.0;
      places = let many : length mounted.0.blocks ≡ (ring_of (every im d)).places = first_ring.places in many ∙ sym as_many;
      blocks = λ p low.
          let inside : p < (ring_of (every im d)).places = subst (λ n. p < n) first_ring.places low in
          read_is after.disk node (get_or mounted.0.blocks p 0) rests.1
          ∙ ap after.disk.block_at (block_at_place before.disk node idle d mounted.0 mounted.2 p inside ∙ sym (place_stays p inside));
    }

    clean : IsClean (ring_of (every other d))
    clean = clean_same (ring_read after.disk node mounted.0.blocks) (ring_of (every other d)) left_ring has_ended.clean

    still : (head now : LogHeader) → head_in (ring_of (every im d)) ≡ Some head → head_in (ring_of (every other d)) ≡ Some now → head.clean ≡ true → now ≡ head
    still head now headed ends clean_head =
        let read_head : head_in (ring_read before.disk node mounted.0.blocks) ≡ Some head = (says_the_same (ring_read before.disk node mounted.0.blocks) (ring_of (every im d)) first_ring).head ∙ headed in
        let plan = (theirs before.disk node idle m is plans are).plan j mounted.0 planned.0 mounted.1 planned.1 in
        let its : plan.clean.0 ≡ head = some_is (sym plan.clean.1 ∙ read_head) in
        let none : planned.0.clean ≡ None = plan.clean.2 ∙ ap (clean_header (length mounted.0.blocks)) its ∙ cond-true head.clean None (Some (clean_after (length mounted.0.blocks) head)) clean_head in
        let left_is = has_ended.headed head read_head ∙ ap (λ c. Some (head_left before.disk.size (j + 1) time mounted.0 c head)) none in
        some_is (sym ends ∙ sym (says_the_same (ring_read after.disk node mounted.0.blocks) (ring_of (every other d)) left_ring).head ∙ left_is)

    sequence : (head now : LogHeader) → head_in (ring_of (every im d)) ≡ Some head → head_in (ring_of (every other d)) ≡ Some now → now.sequence ≤ head.sequence + 1
    sequence head now headed ends =
        has_ended.sequence head now ((says_the_same (ring_read before.disk node mounted.0.blocks) (ring_of (every im d)) first_ring).head ∙ headed)
        ((says_the_same (ring_read after.disk node mounted.0.blocks) (ring_of (every other d)) left_ring).head ∙ ends)

  -- the head of a journal that was mounted
  left_head : (j d : ℕ) → IsJournalAt is.layout j d → (y : Journal) (p : Plan) → slice_get m.journals j ≡ Some y → slice_get plans j ≡ Some p
      → head_in (ring_of (every other d)) ≡ Some (head_left before.disk.size (j + 1) time y p.clean y.head)
  left_head j d at y p at_y at_p =
      let of = is.journals j d y at at_y in
      let same : (mounted j d at).0 ≡ y = some_is (sym (mounted j d at).1 ∙ at_y) in
      let first = same_ring before.disk node idle d y of in
      let headed : head_in (ring_read before.disk node y.blocks) ≡ Some y.head = (says_the_same (ring_read before.disk node y.blocks) (ring_of (every im d)) first).head ∙ of.head in
      let ring : HasSamePlaces (ring_read after.disk node y.blocks) (ring_of (every other d)) = subst (λ (z : Journal). HasSamePlaces (ring_read after.disk node z.blocks) (ring_of (every other d))) same (left_ring j d at) in
      sym (says_the_same (ring_read after.disk node y.blocks) (ring_of (every other d)) ring).head ∙ (ended j y p at_y at_p).headed y.head headed

  -- what is mounted with them
  pub mounted_as : (m' : MountedValue) → HasHeadsLeft before.disk.size time plans m m' → IsMountedAs (image_of after.disk) m m'
  mounted_as m' told = subst (λ i. IsMountedAs i m m') other_is (record {
    same = told.same;
    system = told.system;
    heads = λ j y at_y.
        let x = some_at m.journals j (subst (λ n. j < n) told.same.count (slice_get_within m'.journals j y at_y)) in
        let d = some_at is.layout.journals j (subst (λ n. j < n) is.count (slice_get_within m.journals j x.0 x.1)) in
        let p = planned j d.0 d.1 in
        let dinode : y.dinode ≡ d.0 = told.same.dinodes j x.0 y x.1 at_y ∙ (is.journals j d.0 x.0 d.1 x.1).dinode in
        ap (λ a. head_in (ring_of (every other a))) dinode ∙ left_head j d.0 d.1 x.0 p.0 x.1 p.1 ∙ ap Some (sym (told.heads j x.0 y p.0 x.1 at_y p.1));
  })

  left : IsLeft im is.layout (image_of after.disk)
  left = subst (IsLeft im is.layout) other_is (record {
    replayed = replayed;
    is = are.replayed;
    size = refl;
    count = refl;
    blocks = blocks;
    as_many = as_many;
    places = λ j d p at low. place_stays j d at p low;
    clean = clean;
    still = λ j d head now at. still j d at head now;
    sequence = λ j d head now at. sequence j d at head now;
  })

pub replay_leaves : HeadersReadBack → ReplayLeaves
replay_leaves given node time before after m plans items items' tells idle sized is are can read have = left given node time before after m plans have.added tells idle sized is are can read have.replays

pub heads_left : HeadersReadBack → HeadsAreLeft
heads_left given node time before after m m' plans items items' tells idle sized is are can read have told =
    mounted_as given node time before after m plans have.added tells idle sized is are can read have.replays m' told
