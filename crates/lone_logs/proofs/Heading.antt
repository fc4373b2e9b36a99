-- The header of a flush is in flight: what it makes live.
use Rattle.std.proofs.Common.{◌≡◌, ◌⊎◌, ℕ, ◌<◌, inl, inr, Bool, true, false, List, length, Option, None, Some, refl, sym, ap, subst, ◌∙◌, is_some, true≢false, arith}
use Rattle.std.specs.Prelude.{if◌then◌else◌, nat_lt}
use Rattle.std.specs.FinMap as table
use Rattle.std.specs.Option.{option_map}
use Rattle.std.proofs.lemmas.Bool.{cases_Bool}
use Rattle.std.proofs.lemmas.Bool.Decides.{nat_tests}
use Rattle.cluster_laws.specs.Mirror.{Head}
use Rattle.cluster_laws.specs.World.{World}
use Rattle.image_machine.specs.Volumes.{IsPlace, Volume}
use Rattle.image_model.proofs.Held.{some_same}
use Rattle.journal_outcomes.specs.Images.{ring_at, to_journal}
use Rattle.journal_outcomes.specs.Rings.{InFlight}
use Rattle.log_layout.specs.Journal.{Ring}
use Rattle.log_layout.specs.Live.{live_in}
use Rattle.log_rings.specs.Flights.{AreWritten, left_live, live_with, logged_bytes}
use Rattle.log_tables.specs.Kept.{is_home}
use Rattle.log_tables.specs.Versions.{Way}
use Rattle.log_tables.specs.Versions.Way.{Home, Away, Flying}
use Rattle.log_values.specs.Blocks as set
use Rattle.log_values.specs.Flushing.{IsNeeded, IsTail, at_stage, behind_tail, flush_chunks, left_from, settled_way}
use Rattle.log_values.specs.Flushing.IsTail.{of_itself, of_none, of_oldest}
use Rattle.log_values.specs.Log.{Entry, Flush, LogValue, Stage, Version}
use Rattle.log_values.specs.Log.Stage.{Ending}
use Rattle.log_values.specs.Sound.{IsBehindBarrier}
use Rattle.lone_machine.specs.Alone.{Begun, begins_header, head_of}
use Rattle.lone_machine.specs.Laws.{StaysAlone}
use Rattle.lone_machine.specs.Versions.{AreVersions, IsLiveAfter}
use Rattle.lone_machine.proofs.Logging.{header_begins}
use Rattle.lone_logs.specs.States.{FliesAs, FliesToJournal, HasVersions, IsHeaded, IsLoggedNode, NodeState, bytes_of, flies_home, trees_on}
use Rattle.lone_logs.specs.States.FliesAs.{ends}
use Rattle.lone_logs.proofs.Living.{at_sea, live_head, live_none, off_entry}
use Rattle.lone_logs.proofs.Stages.{ending_headed, same_flush}

-- ---- a flush whose header is told is one with the tail that it had

pub tail_back : (log : LogValue) (f : Flush) (stage : Stage) (t : ℕ) → IsTail (at_stage log f stage) (record f { stage = stage }) t → IsTail log f t
tail_back log f stage t (of_oldest b e needed least) = of_oldest b e (record { live = needed.live; away = needed.away; unlogged = needed.unlogged; unrevoked = needed.unrevoked })
    (λ c d other. least c d (record { live = other.live; away = other.away; unlogged = other.unlogged; unrevoked = other.unrevoked }))
tail_back log f stage t (of_itself none some) = of_itself (λ b e other. none b e (record { live = other.live; away = other.away; unlogged = other.unlogged; unrevoked = other.unrevoked })) some
tail_back log f stage t (of_none none empty) = of_none (λ b e other. none b e (record { live = other.live; away = other.away; unlogged = other.unlogged; unrevoked = other.unrevoked })) empty

-- what a tail leaves out isn't needed
dropped_needs : (log : LogValue) (f : Flush) (t b : ℕ) (e : Entry) → IsTail log f t → behind_tail log e.first < behind_tail log t → IsNeeded log f b e → ⊥
dropped_needs log f t b e (of_oldest c d needed least) below other = (let least_is = least b e other in omega (arith, below, least_is))
dropped_needs log f t b e (of_itself none some) below other = none b e other
dropped_needs log f t b e (of_none none empty) below other = none b e other

is_there : (w : Way) → is_home w ≡ true → w ≡ Home
is_there Home e = refl
is_there (Away bytes) e = absurd (true≢false (sym e))
is_there (Flying bytes) e = absurd (true≢false (sym e))

pub rests_home : (e : Entry) → settled_way e.way ≡ e.way → flies_home (Some e) ≡ None
rests_home e same = by e.way same
  where
    home_flying : (bytes : List ℕ) → Home ≡ Flying bytes → ⊥
    home_flying bytes e = cc

    by : (w : Way) → settled_way w ≡ w → flies_home (Some (record e { way = w })) ≡ None
    by Home same = refl
    by (Away bytes) same = refl
    by (Flying bytes) same = absurd (home_flying bytes same)

module _ (v : Volume) (s : Begun (trees_on v)) (w : World (trees_on v)) (d : ℕ) (st : NodeState) (f : Flush) (is : IsLoggedNode v s w d st) (some : st.log.flush ≡ Some f) (tail : ℕ)
    (stage : f.stage ≡ Ending) (tells : IsTail st.log f tail) where
  abbrev ring : Ring
  ring = ring_at st.image d

  abbrev was : InFlight
  was = to_journal st.image d st.flying

  pub unheaded : IsHeaded st.log.flush → ⊥
  unheaded h = ending_headed h.1 (sym stage ∙ ap (λ (x : Flush). x.stage) (same_flush (sym some ∙ h.2)) ∙ h.3)

  pub one : head_of (trees_on v) s w true ≡ head_of (trees_on v) s w false
  one = is.heads.one unheaded

  ended : FliesAs ring was st.log f Ending
  ended = subst (FliesAs ring was st.log f) stage (subst (FliesToJournal ring was st.log) some is.flies)

  pub chunks_stand : AreWritten ring st.log f (length (flush_chunks st.log f))
  chunks_stand = by ended
    where
      by : FliesAs ring was st.log f Ending → AreWritten ring st.log f (length (flush_chunks st.log f))
      by (ends written none) = written

  pub none_flies : (p : ℕ) → p < ring.places → was p ≡ None
  none_flies = by ended
    where
      by : FliesAs ring was st.log f Ending → (p : ℕ) → p < ring.places → was p ≡ None
      by (ends written none) = none

  -- nothing is on its way home
  pub none_homeward : (b : ℕ) → (IsPlace v b → ⊥) → st.flying b ≡ None
  none_homeward b off = is.homeward b off ∙ by (table.get st.log.live b) refl
    where
      by : (o : Option Entry) → table.get st.log.live b ≡ o → flies_home o ≡ None
      by None e = refl
      by (Some x) e = rests_home x (is.sound.rests f b x some (subst IsBehindBarrier (sym stage) tt) e)

  none_at_sea : (b : ℕ) → w.disk.flight s.node b ≡ None
  none_at_sea = at_sea v s w d st is none_homeward

  -- ---- the head that it tells

  abbrev pub new_head : Head (trees_on v)
  new_head = record { cut = st.numbers.begun; live = λ b. live_with ring st.log f tail b }

  live_after : IsLiveAfter (trees_on v) w.disk s.node (bytes_of f.versions) (set.contains f.revokes) (new_head.live)
  live_after b = by (table.get f.versions b) refl (set.contains f.revokes b) refl (table.get st.log.live b) refl
    where
      abbrev_live : Option Version → Bool → Option Entry → Option (List ℕ)
      abbrev_live o c e = logged_bytes o (if c then None else left_live (left_from st.log tail e) (live_in ring b))

      left_or : (e : Entry) → table.get f.versions b ≡ None → set.contains f.revokes b ≡ false → table.get st.log.live b ≡ Some e
          → (t : Bool) → nat_lt (behind_tail st.log e.first) (behind_tail st.log tail) ≡ t
          → (left_live (if t then None else Some e) (live_in ring b) ≡ (head_of (trees_on v) s w false).live b)
          ⊎ ((left_live (if t then None else Some e) (live_in ring b) ≡ None) × ((bytes : List ℕ) → (head_of (trees_on v) s w false).live b ≡ Some bytes → w.disk.blocks b ≡ bytes))
      left_or e none kept at false less = inl (sym (live_head v s w d st is b))
      left_or e none kept at true less = inr (
        refl,
        λ bytes lives.
            let below : behind_tail st.log e.first < behind_tail st.log tail = grind (arith, nat_tests, less) in
            let home : e.way ≡ Home = elim (cases_Bool (is_home e.way)) [
              | inl there ↦ is_there e.way there
              | inr away ↦ absurd (dropped_needs st.log f tail b e tells below (record { live = at; away = away; unlogged = ap is_some none; unrevoked = kept }))
            ] in
            is.disk.blocks b (off_entry v s w d st is b e at) ∙ some_same (sym (is.home b e at home) ∙ sym (live_head v s w d st is b) ∙ lives),
      )

      by : (o : Option Version) → table.get f.versions b ≡ o → (c : Bool) → set.contains f.revokes b ≡ c → (x : Option Entry) → table.get st.log.live b ≡ x
          → ((bytes : List ℕ) × (bytes_of f.versions b ≡ Some bytes) × (live_with ring st.log f tail b ≡ Some bytes))
          ⊎ ((bytes_of f.versions b ≡ None) × ((live_with ring st.log f tail b ≡ (head_of (trees_on v) s w false).live b)
          ⊎ ((live_with ring st.log f tail b ≡ None) × (((bytes : List ℕ) → (head_of (trees_on v) s w false).live b ≡ Some bytes → w.disk.blocks b ≡ bytes) ⊎ (set.contains f.revokes b ≡ true)))))
      by (Some x) e c g y h = inl (x.bytes, ap (option_map (λ (z : Version). z.bytes)) e, ap (λ o. abbrev_live o (set.contains f.revokes b) (table.get st.log.live b)) e)
      by None e true g y h = inr (ap (option_map (λ (z : Version). z.bytes)) e, inr ((λ i. abbrev_live (e i) (g i) (table.get st.log.live b)), inr g))
      by None e false g None h = inr (ap (option_map (λ (z : Version). z.bytes)) e, inl ((λ i. abbrev_live (e i) (g i) (h i)) ∙ sym (live_none v s w d st is b h) ∙ sym (live_head v s w d st is b)))
      by None e false g (Some y) h = inr (
        ap (option_map (λ (z : Version). z.bytes)) e,
        elim (left_or y e g h (nat_lt (behind_tail st.log y.first) (behind_tail st.log tail)) refl) [
          | inl same ↦ inl ((λ i. abbrev_live (e i) (g i) (h i)) ∙ same)
          | inr out ↦ inr ((λ i. abbrev_live (e i) (g i) (h i)) ∙ out.0, inl out.1)
        ],
      )

  versions : AreVersions (trees_on v) w.book s.node (w.book.low s.node) (st.numbers.begun) (bytes_of f.versions) (set.contains f.revokes)
  versions = subst (λ n. AreVersions (trees_on v) w.book s.node n st.numbers.begun (bytes_of f.versions) (set.contains f.revokes)) (sym is.numbers.low) (by (subst (HasVersions v s w st.log st.numbers) some is.versions))
    where
      by : HasVersions v s w st.log st.numbers (Some f) → AreVersions (trees_on v) w.book s.node st.numbers.low st.numbers.begun (bytes_of f.versions) (set.contains f.revokes)
      by are = are.0

  pub begins : StaysAlone (trees_on v) s w (begins_header (trees_on v) s w new_head)
  begins = header_begins (trees_on v) s w new_head (bytes_of f.versions) (set.contains f.revokes) is.alone one none_at_sea (let b = is.numbers.begun in let l = is.numbers.low in omega (arith, b.0, l))
      (let b = is.numbers.begun in let a = is.numbers.answered in omega (arith, b.1, a)) versions live_after
