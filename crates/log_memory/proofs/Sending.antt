-- Live blocks that go home.
use Rattle.std.proofs.Common.{◌≡◌, ◌≢◌, ℕ, ◌<◌, ◌≤◌, ◌&&◌, Bool, true, false, List, length, Option, None, Some, ◌⊎◌, inl, inr, refl, sym, ap, subst, ◌∙◌, true≢false, is_some, slice_get, get_or, arith}
use Rattle.std.proofs.lemmas.Option.{get_or_from_slice_get}
use Rattle.std.proofs.lemmas.Bool.{cases_lt}
use Rattle.std.specs.Option.{option_map}
use Rattle.std.specs.Ordering.{nat_cmp}
use Rattle.std.specs.FinMap as table
use Rattle.log_tables.specs.Kept.{Kept, away_bytes, flown, is_home, place_of_way, sent}
use Rattle.log_tables.specs.declared.reads.Whereabouts.{Whereabouts}
use Rattle.log_tables.specs.declared.reads.Whereabouts.TheVariants as at
use Rattle.log_tables.proofs.Reading.{row_gets}
use Rattle.log_values.specs.Log.{Entry, LogValue, Way}
use Rattle.log_tables.specs.Versions.Way.{Home, Away, Flying}
use Rattle.log_tables.proofs.Steps.{same_some}
use Rattle.fixed_tables.proofs.Rows.{rising}
use Rattle.glock_names.specs.declared.LockName.{LockName}
use Rattle.glock_names.specs.LockMaps.{same_lock}
use Rattle.glock_names.proofs.LockMapLaws.{same_lock_tells}
use Rattle.log_values.specs.Homing.{IsAwayUnder}
use Rattle.log_values.proofs.Homing.{and_tells, way_sound}
use Rattle.log_values.proofs.Landing.{no_some}
use Rattle.log_memory.specs.Inside.{IsLog, log_in}
use Rattle.log_memory.specs.Rows.{IsFirstThatGoes, NoneGoes, goes_home, is_away}
use Rattle.log_memory.proofs.Revoking.{row_of}
use Rattle.log_memory.specs.declared.log.Log.TheInside.{Inside}
use Rattle.log_memory.proofs.NewLogs.{Gives}

abbrev pub tells_away : Whereabouts → Bool
tells_away at.Home = false
tells_away at.Away = true
tells_away at.Flying = false

pub away_is : (w : Way) → tells_away (place_of_way w) ≡ is_away w
away_is Home = refl
away_is (Away bytes) = refl
away_is (Flying bytes) = refl

-- the content of one that is away
pub away_with : (w : Way) → is_away w ≡ true → (bytes : List ℕ) × (w ≡ Away bytes)
away_with Home is = absurd (true≢false (sym is))
away_with (Away bytes) is = (bytes, refl)
away_with (Flying bytes) is = absurd (true≢false (sym is))

pub bytes_away : (w : Way) (bytes : List ℕ) → Some bytes ≡ away_bytes w → w ≡ Away bytes
bytes_away Home bytes is = cc
bytes_away (Away at) bytes is = cc
bytes_away (Flying at) bytes is = cc

pub none_away : (w : Way) → is_away w ≡ true → None ≡ away_bytes w → ⊥
none_away Home away is = true≢false (sym away)
none_away (Away at) away is = cc
none_away (Flying at) away is = true≢false (sym away)

-- ---- a log with a block on its way home

module _ (l : Inside) (h : IsLog l) (e : ℕ × Entry) (at : table.get l.tables.live e.0 ≡ Some e.1) (bytes : List ℕ) (away : e.1.way ≡ Away bytes) where
  abbrev pub on_its_way : table.FinMap nat_cmp Entry
  on_its_way = table.insert l.tables.live e.0 (record e.1 { way = Flying bytes })

  flown_is : flown l.tables.live e.0 (table.get l.tables.live e.0) ≡ on_its_way
  flown_is =
      ap (flown l.tables.live e.0) at
      ∙ ap (λ (w : Way). table.insert l.tables.live e.0 (record e.1 { way = w })) (ap sent away)

  pub sends : (tables : Kept) → (log_in l).flush ≡ None → tables ≡ record l.tables { live = flown l.tables.live e.0 (table.get l.tables.live e.0) }
      → Gives (record l { tables = tables }) (record (log_in l) { live = on_its_way })
  sends tables none is =
      subst (λ (k : Kept). Gives (record l { tables = k }) (record (log_in l) { live = on_its_way })) (sym (is ∙ ap (λ (m : table.FinMap nat_cmp Entry). let k : Kept = record l.tables { live = m } in k) flown_is))
      (sound, refl)
    where
      sound : IsLog (record l { tables = record l.tables { live = on_its_way } })
      sound = record {
        sound = way_sound (log_in l) e.0 (Flying bytes) e.1 h.sound at (ap is_home away) (λ f is behind. no_some f (sym is ∙ none));
        idle = h.idle;
        few_changes = h.few_changes;
        size = h.size;
        frames = h.frames;
        places = h.places;
        gone_room = h.gone_room;
        revoked_room = h.revoked_room;
        revokes_room = h.revokes_room;
        content_room = h.content_room;
        metadata_room = h.metadata_room;
        revokes = h.revokes;
        kinds = record { content_inside = h.kinds.content_inside; metadata_inside = h.kinds.metadata_inside; content_are = h.kinds.content_are; metadata_are = h.kinds.metadata_are };
      }

-- ---- the first that goes home

pub begun_is_some : {A B : Type 0} (f : A → B) (o : Option A) → is_some o ≡ true → option_map f o ≡ None → ⊥
begun_is_some f None some none = true≢false (sym some)
begun_is_some f (Some x) some none = no_some (f x) none

pub none_begun : {A B : Type 0} (f : A → B) (o : Option A) → is_some o ≡ false → option_map f o ≡ None
none_begun f None none = refl
none_begun f (Some x) none = absurd (true≢false none)

module _ (log : LogValue) (lock : LockName) where
  -- the row of a block that is away under the lock
  goes_there : (b : ℕ) (bytes : List ℕ) → IsAwayUnder log lock b bytes
      → (i : ℕ) × (d : ℕ × Entry) × ((i < length (table.entries log.live)) × (slice_get (table.entries log.live) i ≡ Some d) × (d.0 ≡ b) × (goes_home lock d.1 ≡ true))
  goes_there b bytes is =
      let row = row_of (table.entries log.live) b (ap is_some (sym (table.get-entries log.live b) ∙ is.live)) in
      let same : is.entry ≡ row.1.1 = same_some (table.get log.live b) is.entry row.1.1 is.live (ap (table.get log.live) (sym row.2.2) ∙ row_gets log.live row.0 row.1 row.2.1) in
      (row.0, row.1, (row.2.0, row.2.1, row.2.2, subst (λ (x : Entry). goes_home lock x ≡ true) same (goes is.entry is.under is.away)))
    where
      goes : (e : Entry) → e.lock ≡ lock → e.way ≡ Away bytes → goes_home lock e ≡ true
      goes e under away = ap (λ (w : Way). same_lock lock e.lock && is_away w) away ∙ ap (λ (k : LockName). same_lock lock k && true) under ∙ ap (λ (t : Bool). t && true) (itself (same_lock_tells lock lock))
        where
          itself : ((same_lock lock lock ≡ true) × (lock ≡ lock)) ⊎ ((same_lock lock lock ≡ false) × (lock ≢ lock)) → same_lock lock lock ≡ true
          itself (inl is) = is.0
          itself (inr is) = absurd (is.1 refl)

  pub none_goes : NoneGoes lock (table.entries log.live) (table.len log.live) → (b : ℕ) (bytes : List ℕ) → IsAwayUnder log lock b bytes → ⊥
  none_goes none b bytes is =
      let row = goes_there b bytes is in
      let within = table.len-entries log.live in
      true≢false (sym row.2.3 ∙ none row.0 row.1 (omega (arith, row.2.0)) row.2.1)

  module _ (place : ℕ) (first : IsFirstThatGoes lock (table.entries log.live) place) where
    pub under_it : first.entry.1.lock ≡ lock
    under_it = by (same_lock_tells lock first.entry.1.lock)
      where
        by : ((same_lock lock first.entry.1.lock ≡ true) × (lock ≡ first.entry.1.lock)) ⊎ ((same_lock lock first.entry.1.lock ≡ false) × (lock ≢ first.entry.1.lock)) → first.entry.1.lock ≡ lock
        by (inl is) = sym is.1
        by (inr is) = absurd (true≢false (sym (and_tells (same_lock lock first.entry.1.lock) (is_away first.entry.1.way) first.goes).0 ∙ is.0))

    pub is_away_there : is_away first.entry.1.way ≡ true
    is_away_there = (and_tells (same_lock lock first.entry.1.lock) (is_away first.entry.1.way) first.goes).1

    abbrev pub away_under : (bytes : List ℕ) → first.entry.1.way ≡ Away bytes → IsAwayUnder log lock first.entry.0 bytes
    away_under bytes away = record { entry = first.entry.1; live = row_gets log.live place first.entry first.here; under = under_it; away = away }

    pub least : (c : ℕ) (bytes : List ℕ) → IsAwayUnder log lock c bytes → first.entry.0 ≤ c
    least c bytes is = by (goes_there c bytes is)
      where
        by : (i : ℕ) × (d : ℕ × Entry) × ((i < length (table.entries log.live)) × (slice_get (table.entries log.live) i ≡ Some d) × (d.0 ≡ c) × (goes_home lock d.1 ≡ true)) → first.entry.0 ≤ c
        by row = by_place (cases_lt row.0 place) (cases_lt place row.0)
          where
            here : get_or (table.entries log.live) place row.1 ≡ first.entry
            here = get_or_from_slice_get (table.entries log.live) place first.entry row.1 first.here

            there : get_or (table.entries log.live) row.0 row.1 ≡ row.1
            there = get_or_from_slice_get (table.entries log.live) row.0 row.1 row.1 row.2.1

            by_place : (row.0 < place) ⊎ (place ≤ row.0) → (place < row.0) ⊎ (row.0 ≤ place) → first.entry.0 ≤ c
            by_place (inl before) after = absurd (true≢false (sym row.2.3 ∙ first.first row.0 row.1 before row.2.1))
            by_place (inr at_or) (inl behind) =
                let rise = rising (table.entries log.live) (table.entries_sorted log.live) place row.0 row.1 behind row.2.0 in
                let a : (get_or (table.entries log.live) place row.1).0 ≡ first.entry.0 = ap (λ (x : ℕ × Entry). x.0) here in
                let b : (get_or (table.entries log.live) row.0 row.1).0 ≡ c = ap (λ (x : ℕ × Entry). x.0) there ∙ row.2.2 in
                omega arith
            by_place (inr at_or) (inr at) =
                let same : place ≡ row.0 = omega arith in
                let both : first.entry.0 ≡ c = ap (λ (x : ℕ × Entry). x.0) (sym here ∙ ap (λ (i : ℕ). get_or (table.entries log.live) i row.1) same ∙ there) ∙ row.2.2 in
                omega arith
