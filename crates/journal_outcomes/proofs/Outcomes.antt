-- What becomes of writes in flight to a journal.
use Rattle.std.proofs.Common.{◌≡◌, ◌≢◌, ◌⊎◌, ℕ, ◌+◌, ◌<◌, List, length, Option, None, Some, refl, sym, ap, subst, ◌∙◌, inl, inr, arith}
use Rattle.std.specs.Prelude.{unwrap_or}
use Rattle.std.proofs.lemmas.Bool.{cases_eq}
use Rattle.gfs2_layout.specs.declared.log_header.LogHeader.{LogHeader as Front}
use Rattle.log_layout.specs.Journal.{Ring, accepted, head_in}
use Rattle.log_layout.specs.declared.log_header.LogHeader.{LogHeader}
use Rattle.log_layout.proofs.BestHeaders.{accepted_tells, head_there}
use Rattle.journal_outcomes.specs.Rings.{ChunksFly, HeaderFlies, InFlight, IsFree, ReadsAs, ReadsAsEither, SaysAs, landed}
use Rattle.journal_outcomes.specs.Laws.{LandedChunksSayNothing, LandedHeadersHead, OldAndNewAreOutcomes, OutcomesSayOne}
use Rattle.journal_outcomes.proofs.Heads.{behind_head, head_is_first, none_is, some_is}
use Rattle.journal_outcomes.proofs.Blocks.{says}

-- a ring of the same sizes with other blocks
abbrev with_places : Ring → (ℕ → List ℕ) → Ring
with_places ring f = record { size = ring.size; places = ring.places; at = f }

as_itself : (h : LogHeader) → ReadsAs h h
as_itself h = record { front = refl; later = λ fields e. e }

sequence_front : {h g : LogHeader} → ReadsAs h g → h.sequence ≡ g.sequence
sequence_front reads = ap (λ (x : Front). x.sequence) reads.front

module _ (ring : Ring) (flying : InFlight) (head : LogHeader) (headed : head_in ring ≡ Some head) where
  its_place : (head.blkno < ring.places) × (accepted head.blkno (ring.at head.blkno) ≡ Some head)
  its_place = head_there ring head headed

  -- ---- the head stays

  -- all writes go to free places, those that don't fly are as they were, and what is accepted somewhere was there, with its sequence
  module _ (f : ℕ → List ℕ) (free : (p : ℕ) (bytes : List ℕ) → p < ring.places → flying p ≡ Some bytes → IsFree ring.places head p)
      (still : (p : ℕ) → p < ring.places → flying p ≡ None → f p ≡ ring.at p)
      (each : (q : ℕ) (h : LogHeader) → q < ring.places → accepted q (f q) ≡ Some h → (g : LogHeader) × (accepted q (ring.at q) ≡ Some g) × (h.sequence ≡ g.sequence)) where
    still_or_free : (p : ℕ) → p < ring.places → (f p ≡ ring.at p) ⊎ IsFree ring.places head p
    still_or_free p low = by (flying p) refl
      where
        by : (o : Option (List ℕ)) → flying p ≡ o → (f p ≡ ring.at p) ⊎ IsFree ring.places head p
        by None e = inl (still p low e)
        by (Some bytes) e = inr (free p bytes low e)

    head_still : f head.blkno ≡ ring.at head.blkno
    head_still = elim (still_or_free head.blkno its_place.0) [ inl is ↦ is | inr far ↦ absurd (omega (arith, far)) ]

    head_reads : accepted head.blkno (f head.blkno) ≡ Some head
    head_reads = ap (accepted head.blkno) head_still ∙ its_place.1

    head_now : head_in (with_places ring f) ≡ Some head
    head_now = head_is_first (with_places ring f) head its_place.0 head_reads (λ r h low is.
        let old = each r h low is in
        let behind = behind_head ring head headed r old.0 low old.1 in
        record { most = omega (arith, behind.most, old.2); first = λ before. (let less = behind.first before in omega (arith, less, old.2)) })

    old_says : SaysAs (with_places ring f) ring
    old_says = says ring.size ring.places f ring.at head head head_now headed its_place.0 head_reads its_place.1 (as_itself head) (λ x low off. still_or_free x low)

  -- ---- a header comes

  module _ (one : HeaderFlies ring head flying) where
    -- with a header behind the old head in its place, and else what was, it is the head
    header_heads : (f : ℕ → List ℕ) (k : LogHeader) → ((p : ℕ) → p < ring.places → p ≢ one.place → f p ≡ ring.at p) → accepted one.place (f one.place) ≡ Some k → k.sequence ≡ head.sequence + 1
        → head_in (with_places ring f) ≡ Some k
    header_heads f k others here newer =
        let tells : k.blkno ≡ one.place = accepted_tells one.place (f one.place) k here in
        let low = one.inside in
        head_is_first (with_places ring f) k (omega (arith, tells, low)) (ap (λ q. accepted q (f q)) tells ∙ here) (λ r h inside is. elim (cases_eq r one.place) [
          | inl at ↦
              let same : h ≡ k = some_is (sym is ∙ ap (λ q. accepted q (f q)) at ∙ here) in
              let sequence : h.sequence ≡ k.sequence = ap (λ (x : LogHeader). x.sequence) same in
              record { most = omega (arith, sequence); first = λ before. absurd (omega (arith, before, at, tells)) }
          | inr off ↦
              let behind = behind_head ring head headed r h inside (ap (accepted r) (sym (others r inside off)) ∙ is) in
              record { most = omega (arith, behind.most, newer); first = λ before. omega (arith, behind.most, newer) }
        ])

    landed_others : (p : ℕ) → p < ring.places → p ≢ one.place → (landed ring flying).at p ≡ ring.at p
    landed_others p low off = ap (λ o. unwrap_or o (ring.at p)) (one.alone p low off)

    landed_there : accepted one.place ((landed ring flying).at one.place) ≡ Some one.header
    landed_there = ap (λ o. accepted one.place (unwrap_or o (ring.at one.place))) one.flies ∙ one.reads

    pub header_landed : head_in (landed ring flying) ≡ Some one.header
    header_landed = header_heads (landed ring flying).at one.header landed_others landed_there one.next

    new_says : (f : ℕ → List ℕ) (h : LogHeader) → ((p : ℕ) → p < ring.places → p ≢ one.place → f p ≡ ring.at p) → accepted one.place (f one.place) ≡ Some h → ReadsAs h one.header
        → SaysAs (with_places ring f) (landed ring flying)
    new_says f h others here reads =
        let tells : h.blkno ≡ one.place = accepted_tells one.place (f one.place) h here in
        let tells' : one.header.blkno ≡ one.place = accepted_tells one.place one.bytes one.header one.reads in
        let low = one.inside in
        says ring.size ring.places f (landed ring flying).at h one.header (header_heads f h others here (sequence_front reads ∙ one.next)) header_landed (omega (arith, tells, low))
        (ap (λ q. accepted q (f q)) tells ∙ here) (ap (λ q. accepted q ((landed ring flying).at q)) tells' ∙ landed_there) reads
        (λ x inside off. let apart : x ≢ one.place = λ e. off (e ∙ sym tells) in inl (others x inside apart ∙ sym (landed_others x inside apart)))

  -- ---- any outcome

  module _ (f : ℕ → List ℕ) (still : (p : ℕ) → p < ring.places → flying p ≡ None → f p ≡ ring.at p)
      (either : (p : ℕ) (bytes : List ℕ) → p < ring.places → flying p ≡ Some bytes → ReadsAsEither p (ring.at p) bytes (f p)) where
    abbrev WasThere : ℕ → LogHeader → Type 0
    WasThere q h = (g : LogHeader) × (accepted q (ring.at q) ≡ Some g) × (h.sequence ≡ g.sequence)

    still_there : (q : ℕ) (h : LogHeader) → q < ring.places → accepted q (f q) ≡ Some h → flying q ≡ None → WasThere q h
    still_there q h low is none = (h, ap (accepted q) (sym (still q low none)) ∙ is, refl)

    chunks_say : ChunksFly ring head flying → SaysAs (with_places ring f) ring
    chunks_say chunks = old_says f chunks.free still (λ q h low is. by q h low is (flying q) refl)
      where
        by : (q : ℕ) (h : LogHeader) → q < ring.places → accepted q (f q) ≡ Some h → (o : Option (List ℕ)) → flying q ≡ o → WasThere q h
        by q h low is None e = still_there q h low is e
        by q h low is (Some bytes) e = elim (either q bytes low e h is) [
          | inl old ↦ (old.0, old.1, sequence_front old.2)
          | inr new ↦ absurd (none_is (sym (chunks.no_header q bytes low e) ∙ new.1))
        ]

    module _ (one : HeaderFlies ring head flying) where
      header_free : (p : ℕ) (bytes : List ℕ) → p < ring.places → flying p ≡ Some bytes → IsFree ring.places head p
      header_free p bytes low flies = elim (cases_eq p one.place) [
        | inl at ↦ subst (IsFree ring.places head) (sym at) one.free
        | inr off ↦ absurd (none_is (sym (one.alone p low off) ∙ flies))
      ]

      -- what is accepted in its place was there
      stays : ((h : LogHeader) → accepted one.place (f one.place) ≡ Some h → WasThere one.place h) → SaysAs (with_places ring f) ring
      stays was = old_says f header_free still (λ q h low is. elim (cases_eq q one.place) [
        | inl at ↦ subst (λ p. WasThere p h) (sym at) (was h (ap (λ p. accepted p (f p)) (sym at) ∙ is))
        | inr off ↦ still_there q h low is (one.alone q low off)
      ])

      header_says : SaysAs (with_places ring f) ring ⊎ (HeaderFlies ring head flying × SaysAs (with_places ring f) (landed ring flying))
      header_says = by (accepted one.place (f one.place)) refl
        where
          by : (o : Option LogHeader) → accepted one.place (f one.place) ≡ o → SaysAs (with_places ring f) ring ⊎ (HeaderFlies ring head flying × SaysAs (with_places ring f) (landed ring flying))
          by None none = inl (stays (λ h is. absurd (none_is (sym none ∙ is))))
          by (Some h) is = elim (either one.place one.bytes one.inside one.flies h is) [
            | inl old ↦ inl (stays (λ h' is'.
                let same : h ≡ h' = some_is (sym is ∙ is') in
                (old.0, old.1, ap (λ (x : LogHeader). x.sequence) (sym same) ∙ sequence_front old.2)))
            | inr new ↦
                let its : new.0 ≡ one.header = some_is (sym new.1 ∙ one.reads) in
                inr (one, new_says one f h (λ p low off. still p low (one.alone p low off)) is (subst (ReadsAs h) its new.2))
          ]

-- ---- the laws

as_sized : (ring left : Ring) → left.size ≡ ring.size → left.places ≡ ring.places → with_places ring left.at ≡ left
as_sized ring left size places = λ i. record { size = sym size i; places = sym places i; at = left.at }

pub outcomes_say_one : OutcomesSayOne
outcomes_say_one ring flying left may outcome =
    subst (λ x. SaysAs x ring ⊎ (HeaderFlies ring may.head flying × SaysAs x (landed ring flying))) (as_sized ring left outcome.size outcome.places) (elim may.writes [
      | inl chunks ↦ inl (chunks_say ring flying may.head may.headed left.at outcome.still outcome.either chunks)
      | inr one ↦ header_says ring flying may.head may.headed left.at outcome.still outcome.either one
    ])

-- where all writes have landed
landed_either : (ring : Ring) (flying : InFlight) (p : ℕ) (bytes : List ℕ) → flying p ≡ Some bytes → ReadsAsEither p (ring.at p) bytes ((landed ring flying).at p)
landed_either ring flying p bytes flies h is = inr (h, ap (λ o. accepted p (unwrap_or o (ring.at p))) (sym flies) ∙ is, as_itself h)

landed_still : (ring : Ring) (flying : InFlight) (p : ℕ) → flying p ≡ None → (landed ring flying).at p ≡ ring.at p
landed_still ring flying p none = ap (λ o. unwrap_or o (ring.at p)) none

pub landed_chunks : LandedChunksSayNothing
landed_chunks ring flying may chunks =
    chunks_say ring flying may.head may.headed (landed ring flying).at (λ p low none. landed_still ring flying p none) (λ p bytes low flies. landed_either ring flying p bytes flies) chunks

pub landed_header : LandedHeadersHead
landed_header ring flying may one = header_landed ring flying may.head may.headed one

pub old_and_new : OldAndNewAreOutcomes
old_and_new ring flying = record {
  all_old = λ whole. record {
    size = refl;
    places = refl;
    still = λ p low none. refl;
    whole = λ p bytes low flies. whole p low;
    either = λ p bytes low flies h is. inl (h, is, as_itself h);
  };
  all_new = λ whole. record {
    size = refl;
    places = refl;
    still = λ p low none. landed_still ring flying p none;
    whole = λ p bytes low flies. ap (λ o. length (unwrap_or o (ring.at p))) flies ∙ whole p bytes low flies;
    either = λ p bytes low flies. landed_either ring flying p bytes flies;
  };
}
