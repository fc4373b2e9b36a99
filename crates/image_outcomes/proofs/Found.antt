-- Images beside one whose journals are replayed: those that differ in places of journals and in live blocks find what it finds.
use Rattle.std.proofs.Common.{◌≡◌, ◌⊎◌, ℕ, zero, suc, ◌<◌, ◌≤◌, List, [], ◌∷◌, length, get_or, Option, None, Some, refl, sym, ap, subst, ◌∙◌, inl, inr, arith}
use Rattle.std.specs.Prelude.{◌↔◌, slice_get, unwrap_or}
use Rattle.std.proofs.lemmas.Bool.{cases_lt}
use Rattle.std.proofs.lemmas.Option.{slice_get-get_or, slice_get_within}
use Rattle.file_tree.specs.Tree.{Tree}
use Rattle.gfs2_layout.specs.Inode.{content_block}
use Rattle.gfs2_layout.specs.declared.rindex.Rindex.{Rindex}
use Rattle.image_model.specs.Claims.{every, HasGroup}
use Rattle.image_model.specs.Image.{Image}
use Rattle.image_model.specs.Owners.{Below, Owners}
use Rattle.image_model.specs.Replays.{HasItsJournals, Replayed, live_at}
use Rattle.image_model.specs.Stands.{IsJournalAt, Layout}
use Rattle.image_model.specs.SystemFiles.{HasSameSystem, IsSystemBlock}
use Rattle.image_model.proofs.Held.{none_some, some_same}
use Rattle.image_model.proofs.Replaying.{same_journals}
use Rattle.image_model.proofs.SystemStays.{replay_keeps, system_back}
use Rattle.image_changes.specs.Changes.{IsRingPlace}
use Rattle.image_changes.specs.Contents.{IsAsLarge}
use Rattle.image_changes.specs.Instances.{StandsBy}
use Rattle.journal_outcomes.specs.Images.{IsPlaceIn, ring_at}
use Rattle.log_layout.specs.Laws.{HasSamePlaces}
use Rattle.log_layout.specs.Live.{IsReadable}
use Rattle.log_layout.proofs.SamePlaces.{says_the_same}
use Rattle.image_outcomes.specs.CutShort.{ring_left}
use Rattle.image_outcomes.specs.Outcomes.{IsLiveIn}
use Rattle.image_outcomes.proofs.SameFiles.{HasSameFiles, fits, place_row, same_files}
use Rattle.image_outcomes.proofs.OtherPlaces.{many_still, place_still, ring_by, stands_still, system_by_table}

-- ---- what is live in some journal

abbrev pub or_later : Option (List ℕ) → Option (List ℕ) → Option (List ℕ)
or_later None later = later
or_later (Some bytes) later = Some bytes

abbrev pub live_among : Image → List ℕ → ℕ → Option (List ℕ)
live_among im [] b = None
live_among im (d ∷ ds) b = or_later (live_at im d b) (live_among im ds b)

-- one of the journals has it
record HasLive (im : Image) (ds : List ℕ) (b : ℕ) (bytes : List ℕ) : Type 0 where
  index : ℕ
  dinode : ℕ
  at : slice_get ds index ≡ Some dinode
  live : live_at im dinode b ≡ Some bytes

live_from : (im : Image) (ds : List ℕ) (b : ℕ) (bytes : List ℕ) → live_among im ds b ≡ Some bytes → HasLive im ds b bytes
live_from im [] b bytes is = absurd (none_some is)
live_from im (d ∷ ds) b bytes is = each (λ e. live_from im ds b bytes e) (live_at im d b) refl is
  where
    each : (live_among im ds b ≡ Some bytes → HasLive im ds b bytes) → (x : Option (List ℕ)) → live_at im d b ≡ x → or_later x (live_among im ds b) ≡ Some bytes → HasLive im (d ∷ ds) b bytes
    each more (Some its) e same = record { index = 0; dinode = d; at = refl; live = e ∙ same }
    each more None e later = let has = more later in record { index = suc has.index; dinode = has.dinode; at = has.at; live = has.live }

pub none_live : (im : Image) (ds : List ℕ) (b : ℕ) → live_among im ds b ≡ None → (j d : ℕ) → slice_get ds j ≡ Some d → live_at im d b ≡ None
none_live im [] b none j d at = absurd (none_some at)
none_live im (c ∷ ds) b none j d at = each (λ e. none_live im ds b e) (live_at im c b) refl none j at
  where
    each : (live_among im ds b ≡ None → (j d : ℕ) → slice_get ds j ≡ Some d → live_at im d b ≡ None) → (x : Option (List ℕ)) → live_at im c b ≡ x → or_later x (live_among im ds b) ≡ None
        → (j : ℕ) → slice_get (c ∷ ds) j ≡ Some d → live_at im d b ≡ None
    each more (Some its) e none j at = absurd (none_some (sym none))
    each more None e none zero at = ap (λ n. live_at im n b) (sym (some_same at)) ∙ e
    each more None e none (suc i) at = more none i d at

pub live_is : (im : Image) (l : Layout) (b : ℕ) (bytes : List ℕ) → live_among im l.journals b ≡ Some bytes → (is : IsLiveIn im l b) × (is.bytes ≡ bytes)
live_is im l b bytes e = let has = live_from im l.journals b bytes e in (record { journal = has.index; dinode = has.dinode; bytes = bytes; at = has.at; live = has.live }, refl)

-- ---- an image and its replayed image, which stands

-- The other image finds the journals of this layout, and groups and system files where the first one has them; each journal has its places there.
pub record FindsTheSame (im : Image) (l : Layout) (other : Image) : Type 0 where
  pub size : other.size ≡ im.size
  pub count : other.count ≡ im.count
  pub journals : HasItsJournals other l
  pub groups : (r : Rindex) → HasGroup other r ↔ HasGroup im r
  pub system : (b : ℕ) → IsSystemBlock other b ↔ IsSystemBlock im b
  pub many : (j d : ℕ) → IsJournalAt l j d → (ring_at other d).places ≡ (ring_at im d).places
  pub place : (j d p : ℕ) → IsJournalAt l j d → p < (ring_at im d).places → content_block (every other d) p ≡ content_block (every im d) p

module _ (im : Image) (l : Layout) (journals : HasItsJournals im l) (r : Image) (replayed : Replayed im l r) (o : Owners) (m : Layout) (t : Tree) (by : StandsBy r o m t) where
  kept : HasSameSystem im r
  kept = replay_keeps im r l replayed

  system_first : HasSameSystem r im
  system_first = record {
    size = sym replayed.size;
    count = sym replayed.count;
    same = λ b of. sym (kept.same b (system_back im r kept (λ d here there. inr (fits r o m by.laid d there)) b of));
  }

  pub first : HasSameFiles r m im
  first = same_files r o m by.laid im system_first

  pub there : (j d : ℕ) → IsJournalAt l j d → IsJournalAt m j d
  there = same_journals im l m journals first.journals

  pub back : (j d : ℕ) → IsJournalAt m j d → IsJournalAt l j d
  back = same_journals im m l first.journals journals

  pub many_first : (j d : ℕ) → IsJournalAt l j d → (ring_at im d).places ≡ (ring_at r d).places
  many_first j d at = first.many j d (there j d at)

  pub place_first : (j d p : ℕ) → IsJournalAt l j d → p < (ring_at im d).places → content_block (every im d) p ≡ content_block (every r d) p
  place_first j d p at low = first.place j d p (there j d at) (subst (λ n. p < n) (many_first j d at) low)

  -- a place is one of its journal's blocks of content
  pub row_first : (j d p : ℕ) → IsJournalAt l j d → p < (ring_at im d).places → (above k start : ℕ) × (o (content_block (every im d) p) ≡ Below d above k 0 start)
  row_first j d p at low =
      let row = place_row r o m by.laid j d (there j d at) p (subst (λ n. p < n) (many_first j d at) low) in
      (row.0, row.1, row.2, ap o (place_first j d p at low) ∙ row.3)

  pub ring_place : (b : ℕ) → IsPlaceIn im l b → IsRingPlace o m b
  ring_place b place =
      let row = row_first place.journal place.dinode place.place place.at place.low in
      (place.journal, place.dinode, row.0, row.1, row.2, there place.journal place.dinode place.at, ap o (sym place.is) ∙ row.3)

  -- a live block is no place, and none of the system's
  pub live_no_place : (b : ℕ) → IsLiveIn im l b → IsPlaceIn im l b → ⊥
  live_no_place b is place = (replayed.replayable.inside is.journal is.dinode b is.bytes is.at is.live).no_place place.journal place.dinode place.place place.at place.low place.is

  live_no_system : (b : ℕ) → IsLiveIn im l b → IsSystemBlock r b → ⊥
  live_no_system b is of = (replayed.replayable.inside is.journal is.dinode b is.bytes is.at is.live).apart ((first.system b).1 of)

  -- a place has the bytes in the replayed image that it has
  pub place_whole : (b : ℕ) → b < im.count → IsPlaceIn im l b → length (im.at b) ≡ im.size
  place_whole b low place =
      let same : r.at b ≡ im.at b = replayed.others b (λ j d at. none (live_at im d b) j d at refl) in
      ap length (sym same) ∙ by.laid.image.whole b (subst (λ n. b < n) (sym replayed.count) low) ∙ replayed.size
    where
      none : (x : Option (List ℕ)) (j d : ℕ) → IsJournalAt l j d → live_at im d b ≡ x → live_at im d b ≡ None
      none None j d at e = e
      none (Some bytes) j d at e = absurd (live_no_place b (record { journal = j; dinode = d; bytes = bytes; at = at; live = e }) place)

  no_more : length l.journals ≤ length m.journals
  no_more = elim (cases_lt (length m.journals) (length l.journals)) [
    | inl less ↦
        let d = get_or l.journals (length m.journals) 0 in
        let low = slice_get_within m.journals (length m.journals) d (there (length m.journals) d (slice_get-get_or l.journals (length m.journals) 0 less)) in
        absurd (omega (arith, low))
    | inr not ↦ omega (arith, not)
  ]

  -- ---- another image

  module _ (left : Image) (size : left.size ≡ im.size) (count : left.count ≡ im.count) (blocks : (b : ℕ) → (left.at b ≡ im.at b) ⊎ (IsPlaceIn im l b ⊎ IsLiveIn im l b))
      (whole : (b : ℕ) → b < im.count → IsPlaceIn im l b → length (left.at b) ≡ im.size) (readable : (j d : ℕ) → IsJournalAt l j d → IsReadable (ring_left im left d)) where
    -- with what is live in the first image put home
    put : Image
    put = record { size = im.size; count = im.count; at = λ b. unwrap_or (live_among im l.journals b) (left.at b) }

    put_live : (b : ℕ) (bytes : List ℕ) → live_among im l.journals b ≡ Some bytes → put.at b ≡ r.at b
    unfolding put
    put_live b bytes e =
        let is = live_is im l b bytes e in
        ap (λ x. unwrap_or x (left.at b)) e ∙ sym (replayed.live is.0.journal is.0.dinode b is.0.bytes is.0.at is.0.live ∙ is.1)

    put_other : (b : ℕ) → live_among im l.journals b ≡ None → put.at b ≡ left.at b
    unfolding put
    put_other b e = ap (λ x. unwrap_or x (left.at b)) e

    put_place : (b : ℕ) → IsPlaceIn im l b → put.at b ≡ left.at b
    put_place b place = each (live_among im l.journals b) refl
      where
        each : (x : Option (List ℕ)) → live_among im l.journals b ≡ x → put.at b ≡ left.at b
        each None e = put_other b e
        each (Some bytes) e = absurd (live_no_place b (live_is im l b bytes e).0 place)

    put_blocks : (b : ℕ) → (put.at b ≡ r.at b) ⊎ IsPlaceIn im l b
    put_blocks b = each (live_among im l.journals b) refl
      where
        each : (x : Option (List ℕ)) → live_among im l.journals b ≡ x → (put.at b ≡ r.at b) ⊎ IsPlaceIn im l b
        each (Some bytes) e = inl (put_live b bytes e)
        each None e = elim (blocks b) [
          | inl same ↦ inl (put_other b e ∙ same ∙ sym (replayed.others b (none_live im l.journals b e)))
          | inr (inl place) ↦ inr place
          | inr (inr live) ↦ absurd (none_some (sym (none_live im l.journals b e live.journal live.dinode live.at) ∙ live.live))
        ]

    large : IsAsLarge r put
    unfolding put
    large = record {
      size = sym replayed.size;
      count = sym replayed.count;
      whole = λ b low. elim (put_blocks b) [
        | inl same ↦ ap length same ∙ by.laid.image.whole b low
        | inr place ↦ ap length (put_place b place) ∙ whole b (subst (λ n. b < n) replayed.count low) place ∙ sym replayed.size
      ];
    }

    bytes : (b : ℕ) → (put.at b ≡ r.at b) ⊎ IsRingPlace o m b
    bytes b = elim (put_blocks b) [ inl same ↦ inl same | inr place ↦ inr (ring_place b place) ]

    put_ring : (j d : ℕ) → IsJournalAt l j d → HasSamePlaces (ring_left im left d) (ring_by r put o m t by large bytes d)
    put_ring j d at = record {
      size = sym replayed.size;
      places = many_first j d at;
      blocks = λ p low.
          let place : IsPlaceIn im l (content_block (every im d) p) = record { journal = j; dinode = d; place = p; at = at; low = low; is = refl } in
          sym (put_place (content_block (every im d) p) place) ∙ ap put.at (place_first j d p at low);
    }

    put_readable : (j d : ℕ) → IsJournalAt m j d → IsReadable (ring_by r put o m t by large bytes d)
    put_readable j d at = (says_the_same (ring_left im left d) (ring_by r put o m t by large bytes d) (put_ring j d (back j d at))).readable (readable j d (back j d at))

    put_stands : StandsBy put o m t
    put_stands = stands_still r put o m t by large bytes put_readable

    put_size : put.size ≡ r.size
    put_size = large.size

    system_second : HasSameSystem put left
    unfolding put
    system_second = record { size = size; count = count; same = λ b of. sym (each b of (live_among im l.journals b) refl) }
      where
        each : (b : ℕ) → IsSystemBlock put b → (x : Option (List ℕ)) → live_among im l.journals b ≡ x → put.at b ≡ left.at b
        each b of None e = put_other b e
        each b of (Some bytes) e = absurd (live_no_system b (live_is im l b bytes e).0 (system_by_table r put o m by.laid put_stands.laid put_size b of))

    second : HasSameFiles put m left
    second = same_files put o m put_stands.laid left system_second

    many_second : (j d : ℕ) → IsJournalAt l j d → (ring_at left d).places ≡ (ring_at im d).places
    many_second j d at = second.many j d (there j d at) ∙ many_still r put o m t by large bytes put_readable j d (there j d at) ∙ sym (many_first j d at)

    place_second : (j d p : ℕ) → IsJournalAt l j d → p < (ring_at im d).places → content_block (every left d) p ≡ content_block (every im d) p
    place_second j d p at low =
        let low' = subst (λ n. p < n) (many_first j d at) low in
        let many = many_still r put o m t by large bytes put_readable j d (there j d at) in
        second.place j d p (there j d at) (subst (λ n. p < n) (sym many) low') ∙ place_still r put o m t by large bytes put_readable j d p (there j d at) low' ∙ sym (place_first j d p at low)

    pub finds : FindsTheSame im l left
    finds = record {
      size = size;
      count = count;
      journals = record {
        there = λ j d at. second.journals.there j d (there j d at);
        all = λ j d has most. back j d (second.journals.all j d has (omega (arith, most, no_more)));
      };
      groups = λ g. (λ has. (first.groups g).1 ((second.groups g).0 has), λ has. (second.groups g).1 ((first.groups g).0 has));
      system = λ b. (
        λ of. (first.system b).1 (system_by_table r put o m by.laid put_stands.laid put_size b ((second.system b).0 of)),
        λ of. (second.system b).1 (system_by_table put r o m put_stands.laid by.laid (sym put_size) b ((first.system b).0 of)),
      );
      many = many_second;
      place = place_second;
    }

    -- a journal of the other image is read at the places that the first one has for it
    pub ring_is : (j d : ℕ) → IsJournalAt l j d → HasSamePlaces (ring_at left d) (ring_left im left d)
    ring_is j d at = record { size = size; places = many_second j d at; blocks = λ p low. ap left.at (place_second j d p at (subst (λ n. p < n) (many_second j d at) low)) }
