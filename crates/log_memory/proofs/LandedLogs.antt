-- A log whose flush is in the journal.
use Rattle.std.proofs.Common.{◌≡◌, ℕ, ◌+◌, ◌≤◌, not, false, true, List, [], map, filter, None, Some, refl, sym, ap, subst, ◌∙◌, vec_capacity, Vec, Global}
use Rattle.std.specs.Ordering.{nat_cmp}
use Rattle.std.specs.FinMap as table
use Rattle.fixed_tables.specs.Fixed.{Fixed, left_by}
use Rattle.log_layout.specs.Chunks.{Logged}
use Rattle.log_layout.specs.Transactions.{after}
use Rattle.log_tables.specs.Kept.{Kept, is_home}
use Rattle.log_values.specs.Log.{Entry, Flush, LogValue, Version}
use Rattle.log_values.specs.Log.Stage.{Headed}
use Rattle.log_values.specs.Flushing.{FlushStep, IsTail, first_place, head_place}
use Rattle.log_values.specs.Flushing.FlushStep.{the_last}
use Rattle.log_values.specs.Transactions.{live_among, logged_as}
use Rattle.log_values.specs.declared.steps.LogStep.TheVariants as step
use Rattle.log_values.proofs.Going.{step_sound}
use Rattle.log_values.proofs.Landing.{no_entries, no_items}
use Rattle.log_values.proofs.Tails.{landing_fits}
use Rattle.log_memory.specs.Flushing.{stays, with_flush}
use Rattle.log_memory.specs.Inside.{AreKinds, IsLog, flush_in, log_in}
use Rattle.log_memory.specs.Rows.{row_of}
use Rattle.log_memory.specs.declared.log.Log.TheInside.{Inside}
use Rattle.log_memory.proofs.Counts.{its_parts}
use Rattle.log_memory.proofs.LandingAll.{with_both}
use Rattle.log_memory.proofs.Left.{home_then, lives_then}
use Rattle.log_memory.proofs.NewLogs.{none_inside}

abbrev Live : Type 0
Live = table.FinMap nat_cmp Entry

-- tables of which nothing is flushed
kinds_of_none : (k : Kept) (live : Live) (content metadata : List ℕ) → content ≡ [] → metadata ≡ [] → AreKinds (with_both k table.empty live) content metadata
kinds_of_none k live content metadata no_content no_metadata = record {
  content_inside = none_inside _ content no_content;
  metadata_inside = none_inside _ metadata no_metadata;
  content_are = ap (map (row_of (with_both k table.empty live))) no_content ∙ sym (ap (λ es. filter (λ (e : Logged). e.plain) (map (λ (e : ℕ × Version). logged_as e.0 e.1) es)) no_entries);
  metadata_are = ap (map (row_of (with_both k table.empty live))) no_metadata ∙ sym (ap (λ es. filter (λ (e : Logged). not e.plain) (map (λ (e : ℕ × Version). logged_as e.0 e.1) es)) no_entries);
}

module _ (l : Inside) (h : IsLog l) (log : LogValue) (same : log_in l ≡ log) (f : Flush) (is : log.flush ≡ Some f) (tail : ℕ) (at : f.stage ≡ Headed tail) (first : ℕ) (first_is : first ≡ first_place log) where
  -- the flush, by the fields
  abbrev f0 : Flush
  f0 = record { versions = l.tables.flushed; revokes = l.revoked.at; stage = Headed tail }

  here : flush_in l ≡ Some f
  here = ap (λ (x : LogValue). x.flush) same ∙ is

  f_is : f ≡ f0
  f_is = let parts = its_parts l h f here in (λ i. record { versions = parts.0 i; revokes = parts.1 i; stage = at i })

  is0 : flush_in l ≡ Some f0
  is0 = here ∙ ap Some f_is

  tells0 : IsTail (log_in l) f0 tail
  tells0 = h.sound.told f0 tail is0 refl

  first0 : first ≡ first_place (log_in l)
  first0 = first_is ∙ ap first_place (sym same)

  pub room_to_land : table.len l.tables.live + table.len l.tables.flushed ≤ l.tables.places
  room_to_land = subst (λ n. table.len l.tables.live + table.len l.tables.flushed ≤ n) (sym h.places) (landing_fits (log_in l) f0 h.sound is0)

  pub home_to_drop : (b : ℕ) (e : Entry) → with_flush l.revoked.at l.tables.flushed first l.tables.live b ≡ Some e → stays l.revoked.at l.journal.length l.tail tail b e.first ≡ false → is_home e.way ≡ true
  home_to_drop =
      subst (λ n. (b : ℕ) (e : Entry) → with_flush l.revoked.at l.tables.flushed n l.tables.live b ≡ Some e → stays l.revoked.at l.journal.length l.tail tail b e.first ≡ false → is_home e.way ≡ true) (sym first0)
      (home_then (log_in l) f0 tail h.sound is0 tells0)

  module _ (head sequence : ℕ) (head_is : (g : Flush) → log.flush ≡ Some g → head ≡ head_place log g) (sequence_is : sequence ≡ after l.sequence) (live : Live)
      (lives : (b : ℕ) → table.get live b ≡ left_by (λ (e : Entry). stays l.revoked.at l.journal.length l.tail tail b e.first) (with_flush l.revoked.at l.tables.flushed first l.tables.live b)) where
    abbrev pub with_parts : Kept → Fixed (Unit {0}) → Fixed (Unit {0}) → Vec ℕ Global → Vec ℕ Global → Vec ℕ Global → Inside
    with_parts tables gone revoked revokes content metadata = record {
      journal = l.journal;
      head = head;
      tail = tail;
      sequence = sequence;
      clean = false;
      tables = tables;
      gone = gone;
      stage = None;
      revoked = revoked;
      revokes = revokes;
      content = content;
      metadata = metadata;
    }

    abbrev new_tables : Kept
    new_tables = with_both l.tables table.empty live

    abbrev new_gone : Fixed (Unit {0})
    new_gone = record l.gone { at = live_among live l.gone.at }

    abbrev new_revoked : Fixed (Unit {0})
    new_revoked = record l.revoked { at = table.empty }

    -- what it stands for
    abbrev new_log : LogValue
    new_log = record (log_in l) { head = head; tail = tail; sequence = sequence; clean = false; gone = live_among live l.gone.at; flush = None; live = live }

    head0 : head ≡ head_place (log_in l) f0
    head0 = subst (λ (x : LogValue). x.flush ≡ Some f0 → head ≡ head_place x f0) (sym same) (head_is f0) is0

    last_step : (bytes : List ℕ) → FlushStep (log_in l) new_log f0 bytes step.Barrier
    last_step bytes =
        the_last tail refl (λ i. record (log_in l) { head = head0 i; tail = tail; sequence = sequence_is i; clean = false; gone = live_among live l.gone.at; flush = None; live = live })
        (λ b. lives b ∙ ap (λ n. left_by (λ (e : Entry). stays l.revoked.at l.journal.length l.tail tail b e.first) (with_flush l.revoked.at l.tables.flushed n l.tables.live b)) first0
        ∙ lives_then (log_in l) f0 tail h.sound is0 tells0 b)

    module _ (revokes content metadata : Vec ℕ Global) (no_revokes : revokes.items ≡ []) (no_content : content.items ≡ []) (no_metadata : metadata.items ≡ [])
        (revokes_room : vec_capacity revokes ≡ vec_capacity l.revokes) (content_room : vec_capacity content ≡ vec_capacity l.content) (metadata_room : vec_capacity metadata ≡ vec_capacity l.metadata) where
      stays_so : IsLog (with_parts new_tables new_gone new_revoked revokes content metadata)
      stays_so = record {
        sound = step_sound (log_in l) new_log f0 [] step.Barrier h.sound is0 (last_step []);
        idle = λ none. (refl, refl);
        few_changes = h.few_changes;
        size = h.size;
        frames = h.frames;
        places = h.places;
        gone_room = h.gone_room;
        revoked_room = h.revoked_room;
        revokes_room = subst (λ n. l.journal.frames + l.journal.length ≤ n) (sym revokes_room) h.revokes_room;
        content_room = subst (λ n. l.journal.frames ≤ n) (sym content_room) h.content_room;
        metadata_room = subst (λ n. l.journal.frames ≤ n) (sym metadata_room) h.metadata_room;
        revokes = no_revokes ∙ sym no_items;
        kinds = kinds_of_none l.tables live content.items metadata.items no_content no_metadata;
      }

      module _ (tables : Kept) (gone revoked : Fixed (Unit {0})) (tables_are : tables ≡ new_tables) (gone_is : gone ≡ new_gone) (revoked_is : revoked ≡ new_revoked) where
        parts_are : with_parts tables gone revoked revokes content metadata ≡ with_parts new_tables new_gone new_revoked revokes content metadata
        parts_are = λ i. with_parts (tables_are i) (gone_is i) (revoked_is i) revokes content metadata

        pub lands_so : IsLog (with_parts tables gone revoked revokes content metadata)
        lands_so = subst IsLog (sym parts_are) stays_so

        pub lands_step : (bytes : List ℕ) → FlushStep log (log_in (with_parts tables gone revoked revokes content metadata)) f bytes step.Barrier
        lands_step bytes =
            subst (λ (x : Inside). FlushStep log (log_in x) f bytes step.Barrier) (sym parts_are)
            (subst (λ (x : LogValue). FlushStep x new_log f bytes step.Barrier) same (subst (λ (g : Flush). FlushStep (log_in l) new_log g bytes step.Barrier) (sym f_is) (last_step bytes)))
