-- A log whose flush begins.
use Rattle.std.proofs.Common.{◌≡◌, ℕ, ◌<◌, ◌≤◌, not, true, false, List, [], length, map, filter, Option, None, Some, refl, sym, ap, subst, ◌∙◌, true≢false, is_some, slice_index, vec_capacity, Vec, Global, arith}
use Rattle.std.proofs.lemmas.List.{length-map}
use Rattle.std.specs.Ordering.{nat_cmp}
use Rattle.std.specs.FinMap as table
use Rattle.fixed_tables.specs.Fixed.{Fixed}
use Rattle.log_layout.specs.Chunks.{Logged}
use Rattle.log_tables.specs.Kept.{Kept}
use Rattle.log_values.specs.Blocks as set
use Rattle.log_values.specs.Log.{LogValue, Version}
use Rattle.log_values.specs.Log.Stage.{Writing, Ending as ending}
use Rattle.log_values.specs.Flushing.{Begins, HasRoom, IsDue, begun, begun_alone}
use Rattle.log_values.specs.Flushing.Begins.{with_all}
use Rattle.log_values.specs.Sound.{IsSoundLog}
use Rattle.log_values.specs.Transactions.{due, logged_as}
use Rattle.log_values.proofs.Fitting.{gone_fits}
use Rattle.log_values.proofs.Going.{begins_sound}
use Rattle.log_values.proofs.Landing.{no_entries, no_items, no_list}
use Rattle.log_memory.specs.Flushing.{is_of_kind}
use Rattle.log_memory.specs.Inside.{AreKinds, IsLog, log_in}
use Rattle.log_memory.specs.Rows.{row_of, rows}
use Rattle.log_memory.specs.declared.kinds.Stage.{Stage}
use Rattle.log_memory.specs.declared.kinds.Stage.TheVariants as held
use Rattle.log_memory.specs.declared.log.Log.TheInside.{Inside}
use Rattle.log_memory.proofs.Counts.{flush_with}
use Rattle.log_memory.proofs.Stages.{staged}

module _ (l : Inside) (h : IsLog l) (log : LogValue) (same : log_in l ≡ log) (none : log.flush ≡ None) where
  none_staged : l.stage ≡ None
  none_staged = by l.stage refl
    where
      by : (o : Option Stage) → l.stage ≡ o → l.stage ≡ None
      by None is = is
      by (Some s) is = absurd (true≢false (ap is_some (sym (flush_with l h s is) ∙ ap (λ (x : LogValue). x.flush) same ∙ none)))

  abbrev idle : (l.tables.flushed ≡ table.empty) × (l.revoked.at ≡ set.empty)
  idle = h.idle none_staged

  sound : IsSoundLog log
  sound = subst IsSoundLog same h.sound

  -- ---- a header alone

  pub alone_is : log_in (staged l held.Ending) ≡ begun_alone log
  alone_is = (λ i. record (log_in l) { flush = Some (record { versions = idle.0 i; revokes = idle.1 i; stage = ending }) }) ∙ ap begun_alone same

  pub alone_stays : Begins log (begun_alone log) → IsLog (staged l held.Ending)
  alone_stays begins = record {
    sound = subst IsSoundLog (sym alone_is) (begins_sound log (begun_alone log) sound begins);
    idle = λ no_stage. absurd (true≢false (ap is_some no_stage));
    few_changes = h.few_changes;
    size = h.size;
    frames = h.frames;
    places = h.places;
    gone_room = h.gone_room;
    revoked_room = h.revoked_room;
    revokes_room = h.revokes_room;
    content_room = h.content_room;
    metadata_room = h.metadata_room;
    revokes = h.revokes;
    kinds = record { content_inside = h.kinds.content_inside; metadata_inside = h.kinds.metadata_inside; content_are = h.kinds.content_are; metadata_are = h.kinds.metadata_are };
  }

  -- ---- all that is due

  pub no_revokes : l.revokes.items ≡ []
  no_revokes = h.revokes ∙ ap set.items idle.1 ∙ no_items

  none_logged : map (λ (e : ℕ × Version). logged_as e.0 e.1) (table.entries l.tables.flushed) ≡ []
  none_logged = ap (λ (m : table.FinMap nat_cmp Version). map (λ (e : ℕ × Version). logged_as e.0 e.1) (table.entries m)) idle.0 ∙ ap (map (λ (e : ℕ × Version). logged_as e.0 e.1)) no_entries

  unmapped : (places : List ℕ) → map (row_of l.tables) places ≡ [] → places ≡ []
  unmapped places none_there = no_list places (sym (length-map places (row_of l.tables)) ∙ ap length none_there)

  pub no_content : l.content.items ≡ []
  no_content = unmapped l.content.items (h.kinds.content_are ∙ ap (filter (λ (e : Logged). e.plain)) none_logged)

  pub no_metadata : l.metadata.items ≡ []
  no_metadata = unmapped l.metadata.items (h.kinds.metadata_are ∙ ap (filter (λ (e : Logged). not e.plain)) none_logged)

  pub room_to_list : (revoked : Fixed (Unit {0})) → revoked ≡ l.gone → table.len revoked.at ≤ vec_capacity l.revokes
  room_to_list revoked is =
      let many = ap (λ (g : Fixed (Unit {0})). table.len g.at) is in
      let fits = gone_fits (log_in l) h.sound in
      let room = h.revokes_room in
      omega arith

  abbrev pub beginning_with : Kept → Fixed (Unit {0}) → Fixed (Unit {0}) → Vec ℕ Global → Vec ℕ Global → Vec ℕ Global → Inside
  beginning_with tables gone revoked revokes content metadata = record l {
    tables = tables;
    gone = gone;
    stage = Some (held.Writing 0);
    revoked = revoked;
    revokes = revokes;
    content = content;
    metadata = metadata;
  }

  abbrev new_tables : Kept
  new_tables = record l.tables { fresh = table.empty; flushed = l.tables.fresh }

  module _ (revokes content metadata : Vec ℕ Global) where
    begun_is : log_in (beginning_with new_tables l.revoked l.gone revokes content metadata) ≡ begun log
    begun_is = (λ i. record (log_in l) { fresh = table.empty; gone = idle.1 i; flush = Some (record { versions = l.tables.fresh; revokes = l.gone.at; stage = Writing 0 }) }) ∙ ap begun same

    module _ (is_due : IsDue log) (room : HasRoom log (due log)) (tables : Kept) (gone revoked : Fixed (Unit {0})) (tables_are : tables ≡ new_tables) (gone_is : gone ≡ l.revoked) (revoked_is : revoked ≡ l.gone)
        (revokes_are : revokes.items ≡ set.items revoked.at) (revokes_room : vec_capacity l.revokes ≤ vec_capacity revokes)
        (content_inside : (i : ℕ) → i < length content.items → slice_index content.items i < table.len tables.flushed)
        (content_are : map (row_of tables) content.items ≡ filter (is_of_kind true) (rows tables)) (content_room : vec_capacity l.content ≤ vec_capacity content)
        (metadata_inside : (i : ℕ) → i < length metadata.items → slice_index metadata.items i < table.len tables.flushed)
        (metadata_are : map (row_of tables) metadata.items ≡ filter (is_of_kind false) (rows tables)) (metadata_room : vec_capacity l.metadata ≤ vec_capacity metadata) where
      parts_are : beginning_with tables gone revoked revokes content metadata ≡ beginning_with new_tables l.revoked l.gone revokes content metadata
      parts_are = λ i. beginning_with (tables_are i) (gone_is i) (revoked_is i) revokes content metadata

      pub begins_is : log_in (beginning_with tables gone revoked revokes content metadata) ≡ begun log
      begins_is = ap log_in parts_are ∙ begun_is

      kinds : AreKinds tables content.items metadata.items
      kinds = record { content_inside = content_inside; metadata_inside = metadata_inside; content_are = content_are; metadata_are = metadata_are }

      pub begins_stays : IsLog (beginning_with tables gone revoked revokes content metadata)
      begins_stays = record {
        sound = subst IsSoundLog (sym begins_is) (begins_sound log (begun log) sound (with_all none is_due room));
        idle = λ no_stage. absurd (true≢false (ap is_some no_stage));
        few_changes = (let same = ap (λ (k : Kept). table.len k.fresh) tables_are in let zero = table.len-empty nat_cmp Version in omega arith);
        size = ap (λ (k : Kept). k.size) tables_are ∙ h.size;
        frames = ap (λ (k : Kept). k.frames) tables_are ∙ h.frames;
        places = ap (λ (k : Kept). k.places) tables_are ∙ h.places;
        gone_room = ap (λ (g : Fixed (Unit {0})). g.room) gone_is ∙ h.revoked_room;
        revoked_room = ap (λ (g : Fixed (Unit {0})). g.room) revoked_is ∙ h.gone_room;
        revokes_room = (let old = h.revokes_room in omega arith);
        content_room = (let old = h.content_room in omega arith);
        metadata_room = (let old = h.metadata_room in omega arith);
        revokes = revokes_are;
        kinds = kinds;
      }
