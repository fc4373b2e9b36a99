-- Two images beside one that stands, replayed: where what is live in one is live in the other or home there, they have replayed images that are alike.
use Rattle.std.proofs.Common.{◌≡◌, ◌⊎◌, ℕ, ◌<◌, List, length, Option, None, Some, refl, sym, ap, subst, ◌∙◌, inl, inr}
use Rattle.std.specs.Prelude.{slice_get}
use Rattle.file_tree.specs.Tree.{Tree}
use Rattle.gfs2_layout.specs.Inode.{content_block}
use Rattle.image_model.specs.Claims.{every}
use Rattle.image_model.specs.Image.{Image}
use Rattle.image_model.specs.Replays.{IsReplayable, MayChange, Replayed, StandsReplayed, live_at}
use Rattle.image_model.specs.Stands.{IsJournalAt, Layout}
use Rattle.image_model.proofs.Held.{none_some, some_same}
use Rattle.image_model.proofs.Replaying.{replayed_by_any, replayed_is_there}
use Rattle.image_changes.specs.Contents.{IsAsLarge}
use Rattle.image_changes.specs.Changes.{IsRingPlace}
use Rattle.image_changes.specs.Instances.{StandsBy}
use Rattle.journal_outcomes.specs.Images.{IsPlaceIn, ring_at}
use Rattle.log_layout.specs.Laws.{HasSamePlaces}
use Rattle.log_layout.specs.Live.{IsReadable}
use Rattle.log_layout.proofs.SamePlaces.{says_the_same}
use Rattle.image_outcomes.specs.Outcomes.{AreAlikeBeside, IsLiveIn}
use Rattle.image_outcomes.proofs.Found.{FindsTheSame, back, live_among, live_is, many_first, none_live, place_first, ring_place}
use Rattle.image_outcomes.proofs.OtherPlaces.{ring_by, stands_still}

-- the first image has the same live of the block in this journal, or nothing, and what the other one has is home
abbrev pub IsLiveOrHome : Image → Image → ℕ → ℕ → Type 0
IsLiveOrHome x y d b = (live_at x d b ≡ live_at y d b) ⊎ ((live_at x d b ≡ None) × ((bytes : List ℕ) → live_at y d b ≡ Some bytes → x.at b ≡ bytes))

module _ (im : Image) (l : Layout) (x y : Image) (fx : FindsTheSame im l x) (fy : FindsTheSame im l y) (live : (j d b : ℕ) → IsJournalAt l j d → IsLiveOrHome x y d b)
    (readable : (j d : ℕ) → IsJournalAt l j d → IsReadable (ring_at y d) → IsReadable (ring_at x d)) where
  -- a place of the first image is the same block in the other one
  place_in : (j d p : ℕ) → IsJournalAt l j d → p < (ring_at x d).places → (p < (ring_at y d).places) × (content_block (every y d) p ≡ content_block (every x d) p)
  place_in j d p at low =
      let inside : p < (ring_at im d).places = subst (λ n. p < n) (fx.many j d at) low in
      (subst (λ n. p < n) (sym (fy.many j d at)) inside, fy.place j d p at inside ∙ sym (fx.place j d p at inside))

  -- what is live in the first is live in the other one
  live_there : (j d b : ℕ) (bytes : List ℕ) → IsJournalAt l j d → live_at x d b ≡ Some bytes → live_at y d b ≡ Some bytes
  live_there j d b bytes at its = elim (live j d b at) [ inl same ↦ sym same ∙ its | inr gone ↦ absurd (none_some (sym gone.0 ∙ its)) ]

  none_there : (j d b : ℕ) → IsJournalAt l j d → live_at y d b ≡ None → live_at x d b ≡ None
  none_there j d b at none = elim (live j d b at) [ inl same ↦ same ∙ none | inr gone ↦ gone.0 ]

  may_change : (b : ℕ) → MayChange y l b → MayChange x l b
  may_change b may = record {
    there = subst (λ n. b < n) (fy.count ∙ sym fx.count) may.there;
    group = (may.group.0, (fx.groups may.group.0).1 ((fy.groups may.group.0).0 may.group.1), may.group.2);
    no_place = λ j d p at low e. (let its = place_in j d p at low in may.no_place j d p at its.0 (its.1 ∙ e));
    apart = λ of. may.apart ((fy.system b).1 ((fx.system b).0 of));
  }

  pub replayable : IsReplayable y l → IsReplayable x l
  replayable is = record {
    journals = fx.journals;
    readable = λ j d at. readable j d at (is.readable j d at);
    once = λ i j b both. is.once i j b (record {
      first = both.first;
      second = both.second;
      first_at = both.first_at;
      second_at = both.second_at;
      one = both.one;
      other = both.other;
      one_live = live_there i both.first b both.one both.first_at both.one_live;
      other_live = live_there j both.second b both.other both.second_at both.other_live;
    });
    inside = λ j d b bytes at its. may_change b (is.inside j d b bytes at (live_there j d b bytes at its));
  }

  -- ---- where both differ only in places and in what is live

  module _ (blocks : (b : ℕ) → (x.at b ≡ y.at b) ⊎ (IsPlaceIn im l b ⊎ IsLiveIn y l b)) where
    pub alike : (r r' : Image) → Replayed y l r → Replayed x l r' → AreAlikeBeside im l r' r
    alike r r' is is' = record { size = is'.size ∙ fx.size ∙ sym fy.size ∙ sym is.size; count = is'.count ∙ fx.count ∙ sym fy.count ∙ sym is.count; blocks = λ b. each b (live_among y l.journals b) refl }
      where
        -- no other journal has it
        alone : (b : ℕ) (its : IsLiveIn y l b) → live_at x its.dinode b ≡ None → (j d : ℕ) → IsJournalAt l j d → (o : Option (List ℕ)) → live_at x d b ≡ o → live_at x d b ≡ None
        alone b its gone j d at None e = e
        alone b its gone j d at (Some other) e =
            let there = live_there j d b other at e in
            let one : j ≡ its.journal = is.replayable.once j its.journal b (record { first = d; second = its.dinode; first_at = at; second_at = its.at; one = other; other = its.bytes; one_live = there; other_live = its.live }) in
            let same : d ≡ its.dinode = some_same (sym at ∙ ap (slice_get l.journals) one ∙ its.at) in
            ap (λ n. live_at x n b) same ∙ gone

        home : (b : ℕ) (its : IsLiveIn y l b) → r'.at b ≡ its.bytes
        home b its = elim (live its.journal its.dinode b its.at) [
          | inl same ↦ is'.live its.journal its.dinode b its.bytes its.at (same ∙ its.live)
          | inr gone ↦ is'.others b (λ j d at. alone b its gone.0 j d at (live_at x d b) refl) ∙ gone.1 its.bytes its.live
        ]

        each : (b : ℕ) (o : Option (List ℕ)) → live_among y l.journals b ≡ o → (r'.at b ≡ r.at b) ⊎ IsPlaceIn im l b
        each b (Some bytes) e =
            let its = (live_is y l b bytes e).0 in
            inl (home b its ∙ sym (is.live its.journal its.dinode b its.bytes its.at its.live))
        each b None e =
            let none = none_live y l.journals b e in
            let in_y = is.others b none in
            let in_x = is'.others b (λ j d at. none_there j d b at (none j d at)) in
            elim (blocks b) [
              | inl same ↦ inl (in_x ∙ same ∙ sym in_y)
              | inr (inl place) ↦ inr place
              | inr (inr its) ↦ absurd (none_some (sym (none its.journal its.dinode its.at) ∙ its.live))
            ]

    pub replayed_there : (r : Image) → Replayed y l r → (r' : Image) × Replayed x l r' × AreAlikeBeside im l r' r
    replayed_there r is = let its = replayed_is_there x l (replayable is.replayable) in (its.0, its.1, alike r its.0 is its.1)

    -- ---- and it stands for the same tree

    module _ (whole : (b : ℕ) → b < im.count → IsPlaceIn im l b → length (x.at b) ≡ im.size) (t : Tree) (stands : StandsReplayed y t) where
      is : Replayed y l stands.replayed
      is = replayed_by_any y stands.replayed l stands.layout fy.journals stands.is

      by : StandsBy stands.replayed stands.stands.owners stands.stands.layout t
      by = record { laid = stands.stands.laid; reads = stands.stands.reads }

      other : (r' : Image) × Replayed x l r' × AreAlikeBeside im l r' stands.replayed
      other = replayed_there stands.replayed is

      -- a place stays as it is
      in_y : (b : ℕ) → IsPlaceIn im l b → IsPlaceIn y l b
      in_y b place = record {
        journal = place.journal;
        dinode = place.dinode;
        place = place.place;
        at = place.at;
        low = subst (λ n. place.place < n) (sym (fy.many place.journal place.dinode place.at)) place.low;
        is = fy.place place.journal place.dinode place.place place.at place.low ∙ place.is;
      }

      place_stays : (b : ℕ) → IsPlaceIn im l b → other.0.at b ≡ x.at b
      place_stays b place = other.1.others b (λ j d at. none j d at (live_at x d b) refl)
        where
          none : (j d : ℕ) → IsJournalAt l j d → (o : Option (List ℕ)) → live_at x d b ≡ o → live_at x d b ≡ None
          none j d at None e = e
          none j d at (Some bytes) e =
              let low : place.place < (ring_at x place.dinode).places = subst (λ n. place.place < n) (sym (fx.many place.journal place.dinode place.at)) place.low in
              absurd ((other.1.replayable.inside j d b bytes at e).no_place place.journal place.dinode place.place place.at low (fx.place place.journal place.dinode place.place place.at place.low ∙ place.is))

      large : IsAsLarge stands.replayed other.0
      large = record {
        size = other.2.size;
        count = other.2.count;
        whole = λ b low. elim (other.2.blocks b) [
          | inl same ↦ ap length same ∙ stands.stands.laid.image.whole b low
          | inr place ↦
              ap length (place_stays b place) ∙ whole b (subst (λ n. b < n) (is.count ∙ fy.count) low) place ∙ sym fy.size ∙ sym is.size
        ];
      }

      bytes : (b : ℕ) → (other.0.at b ≡ stands.replayed.at b) ⊎ IsRingPlace stands.stands.owners stands.stands.layout b
      bytes b = elim (other.2.blocks b) [
        | inl same ↦ inl same
        | inr place ↦ inr (ring_place y l fy.journals stands.replayed is stands.stands.owners stands.stands.layout t by b (in_y b place))
      ]

      in_l : (j d : ℕ) → IsJournalAt stands.stands.layout j d → IsJournalAt l j d
      in_l = back y l fy.journals stands.replayed is stands.stands.owners stands.stands.layout t by

      ring : (j d : ℕ) → IsJournalAt l j d → HasSamePlaces (ring_at x d) (ring_by stands.replayed other.0 stands.stands.owners stands.stands.layout t by large bytes d)
      ring j d at = record {
        size = fx.size ∙ sym fy.size ∙ sym is.size;
        places = fx.many j d at ∙ sym (fy.many j d at) ∙ many_first y l fy.journals stands.replayed is stands.stands.owners stands.stands.layout t by j d at;
        blocks = λ p low.
            let inside : p < (ring_at im d).places = subst (λ n. p < n) (fx.many j d at) low in
            let place : IsPlaceIn im l (content_block (every x d) p) = record { journal = j; dinode = d; place = p; at = at; low = inside; is = sym (fx.place j d p at inside) } in
            let its = place_in j d p at low in
            sym (place_stays (content_block (every x d) p) place)
            ∙ ap other.0.at (sym its.1 ∙ place_first y l fy.journals stands.replayed is stands.stands.owners stands.stands.layout t by j d p at its.0);
      }

      readable_by : (j d : ℕ) → IsJournalAt stands.stands.layout j d → IsReadable (ring_by stands.replayed other.0 stands.stands.owners stands.stands.layout t by large bytes d)
      readable_by j d at =
          let at' = in_l j d at in
          (says_the_same (ring_at x d) (ring_by stands.replayed other.0 stands.stands.owners stands.stands.layout t by large bytes d) (ring j d at')).readable (other.1.replayable.readable j d at')

      stands_other : StandsBy other.0 stands.stands.owners stands.stands.layout t
      stands_other = stands_still stands.replayed other.0 stands.stands.owners stands.stands.layout t by large bytes readable_by

      pub stands_too : StandsReplayed x t
      stands_too = record {
        layout = l;
        replayed = other.0;
        is = other.1;
        stands = record { owners = stands.stands.owners; layout = stands.stands.layout; laid = stands_other.laid; reads = stands_other.reads };
      }
