-- A log with one block freed, or written.
use Rattle.std.proofs.Common.{◌≡◌, ℕ, ◌+◌, ◌-◌, ◌<◌, ◌≤◌, ◌||◌, Bool, true, false, cond, [], ◌∷◌, Option, None, Some, refl, sym, ap, subst, ◌∙◌, is_some, arith}
use Rattle.std.proofs.lemmas.List.Elements.{All-cons, All-nil}
use Rattle.std.proofs.lemmas.Cmp.{nat_cmp_total}
use Rattle.std.specs.Ordering.{nat_cmp}
use Rattle.std.specs.FinMap as table
use Rattle.drafts.specs.declared.change.Written.{Written}
use Rattle.glock_names.specs.declared.LockName.{LockName}
use Rattle.journal_scan.specs.Said.{logged}
use Rattle.node_journal.specs.Written.{IsLoggable}
use Rattle.fixed_tables.specs.Fixed.{Fixed}
use Rattle.log_tables.specs.Kept.{Kept, frames_taken as kept_taken}
use Rattle.log_tables.proofs.Counting.{gone, insert_removed, len_with}
use Rattle.log_values.specs.Blocks as set
use Rattle.log_values.specs.Log.{LogValue, Version}
use Rattle.log_values.specs.Changes.{flushed_count, frames_taken, has_entry, is_flushed, most_unflushed, version_of, with_freed}
use Rattle.log_values.proofs.Changing.{lists_sound}
use Rattle.log_values.proofs.Fitting.{gone_fits}
use Rattle.log_memory.specs.Inside.{IsLog, flush_in, log_in}
use Rattle.log_memory.specs.declared.kinds.Stage.{Stage}
use Rattle.log_memory.specs.declared.log.Log.TheInside.{Inside}
use Rattle.log_memory.proofs.NewLogs.{Gives}

module _ (l : Inside) (h : IsLog l) where
  -- whether the flush logs a block, by the table
  pub flushed_is : (b : ℕ) → is_flushed (flush_in l) b ≡ table.contains_key l.tables.flushed b
  flushed_is b = by l.stage refl
    where
      by : (o : Option Stage) → l.stage ≡ o → is_flushed (flush_in l) b ≡ table.contains_key l.tables.flushed b
      by None is =
          ap (λ (o : Option Stage). is_flushed (flush_in (record l { stage = o })) b) is
          ∙ sym (ap (λ (m : table.FinMap nat_cmp Version). table.contains_key m b) (h.idle is).0 ∙ ap is_some (table.get-empty nat_cmp b))
      by (Some s) is = ap (λ (o : Option Stage). is_flushed (flush_in (record l { stage = o })) b) is

  pub entry_is : (b : ℕ) → has_entry (log_in l) b ≡ (table.contains_key l.tables.live b || table.contains_key l.tables.flushed b)
  entry_is b = ap (λ (x : Bool). table.contains_key l.tables.live b || x) (flushed_is b)

  pub flushed_counted : flushed_count (flush_in l) ≡ table.len l.tables.flushed
  flushed_counted = by l.stage refl
    where
      by : (o : Option Stage) → l.stage ≡ o → flushed_count (flush_in l) ≡ table.len l.tables.flushed
      by None is =
          ap (λ (o : Option Stage). flushed_count (flush_in (record l { stage = o }))) is
          ∙ sym (ap (λ (m : table.FinMap nat_cmp Version). table.len m) (h.idle is).0 ∙ table.len-empty nat_cmp Version)
      by (Some s) is = ap (λ (o : Option Stage). flushed_count (flush_in (record l { stage = o }))) is

  -- how many frames are taken, by the tables
  pub frames_are : (fresh : table.FinMap nat_cmp Version) → frames_taken (record (log_in l) { fresh = fresh }) ≡ kept_taken (record l.tables { fresh = fresh })
  frames_are fresh = let same = flushed_counted in omega arith

  pub room_for_gone : table.len l.gone.at < l.gone.room
  room_for_gone = let fits = gone_fits (log_in l) h.sound in let room = h.gone_room in omega arith

  -- other changes, and other blocks that are to be revoked
  abbrev pub changed : Kept → Fixed (Unit {0}) → Inside
  changed tables gone = record l { tables = tables; gone = gone }

  beside : (fresh : table.FinMap nat_cmp Version) (gone : set.Blocks) → IsLog (changed (record l.tables { fresh = fresh }) (record l.gone { at = gone })) → (tables : Kept) (revoked : Fixed (Unit {0}))
      → tables ≡ record l.tables { fresh = fresh } → revoked ≡ record l.gone { at = gone } → Gives (changed tables revoked) (record (log_in l) { fresh = fresh; gone = gone })
  beside fresh gone sound tables revoked tables_are gone_is =
      subst (λ (k : Kept). Gives (changed k revoked) (record (log_in l) { fresh = fresh; gone = gone })) (sym tables_are)
      (subst (λ (g : Fixed (Unit {0})). Gives (changed (record l.tables { fresh = fresh }) g) (record (log_in l) { fresh = fresh; gone = gone })) (sym gone_is) (sound, refl))

  fewer : (b : ℕ) → table.len (table.remove l.tables.fresh b) ≤ table.len l.tables.fresh
  fewer b = by (table.contains_key l.tables.fresh b) (table.len-remove nat_cmp_total l.tables.fresh b)
    where
      by : (t : Bool) → table.len (table.remove l.tables.fresh b) ≡ cond t (table.len l.tables.fresh - 1) (table.len l.tables.fresh) → table.len (table.remove l.tables.fresh b) ≤ table.len l.tables.fresh
      by true is = omega arith
      by false is = omega arith

  pub freed_gives : (b : ℕ) (tables : Kept) (revoked : Fixed (Unit {0})) → tables ≡ record l.tables { fresh = table.remove l.tables.fresh b }
      → revoked ≡ record l.gone { at = with_freed (has_entry (log_in l)) (b ∷ []) l.gone.at }
      → Gives (changed tables revoked) (record (log_in l) { fresh = table.remove l.tables.fresh b; gone = with_freed (has_entry (log_in l)) (b ∷ []) l.gone.at })
  freed_gives b = beside (table.remove l.tables.fresh b) (with_freed (has_entry (log_in l)) (b ∷ []) l.gone.at) sound
    where
      sound : IsLog (changed (record l.tables { fresh = table.remove l.tables.fresh b }) (record l.gone { at = with_freed (has_entry (log_in l)) (b ∷ []) l.gone.at }))
      sound = record {
        sound = lists_sound (log_in l) [] [] (b ∷ []) h.sound refl (All-nil (λ (w : Written). IsLoggable l.journal.block_size (logged w))) (let less = fewer b in let frames = h.sound.frames in omega arith);
        idle = h.idle;
        few_changes = (let less = fewer b in let few = h.few_changes in omega arith);
        size = h.size;
        frames = h.frames;
        places = h.places;
        gone_room = h.gone_room;
        revoked_room = h.revoked_room;
        revokes_room = h.revokes_room;
        content_room = h.content_room;
        metadata_room = h.metadata_room;
        revokes = h.revokes;
        kinds = record { content_inside = h.kinds.content_inside; metadata_inside = h.kinds.metadata_inside; content_are = h.kinds.content_are; metadata_are = h.kinds.metadata_are };
      }

  with_one : (b : ℕ) (v : Version) → table.len (table.insert l.tables.fresh b v) ≡ table.len (table.remove l.tables.fresh b) + 1
  with_one b v = ap (λ (m : table.FinMap nat_cmp Version). table.len m) (sym (insert_removed l.tables.fresh b v)) ∙ len_with (table.remove l.tables.fresh b) b v (gone l.tables.fresh b)

  pub put_gives : (w : Written) (lock : LockName) (tables : Kept) (revoked : Fixed (Unit {0})) → IsLoggable l.journal.block_size (logged w)
      → table.len (table.remove l.tables.fresh w.block) + 1 < most_unflushed → frames_taken (record (log_in l) { fresh = table.remove l.tables.fresh w.block }) < l.journal.frames → tables ≡ record l.tables { fresh = table.insert l.tables.fresh w.block (version_of w lock) }
      → revoked ≡ record l.gone { at = set.remove l.gone.at w.block }
      → Gives (changed tables revoked) (record (log_in l) { fresh = table.insert l.tables.fresh w.block (version_of w lock); gone = set.remove l.gone.at w.block })
  put_gives w lock tables revoked may few room = beside (table.insert l.tables.fresh w.block (version_of w lock)) (set.remove l.gone.at w.block) sound tables revoked
    where
      sound : IsLog (changed (record l.tables { fresh = table.insert l.tables.fresh w.block (version_of w lock) }) (record l.gone { at = set.remove l.gone.at w.block }))
      sound = record {
        sound = lists_sound (log_in l) (w ∷ []) (lock ∷ []) [] h.sound refl
            (All-cons (λ (x : Written). IsLoggable l.journal.block_size (logged x)) w [] may (All-nil (λ (x : Written). IsLoggable l.journal.block_size (logged x))))
            (let more = with_one w.block (version_of w lock) in omega arith);
        idle = h.idle;
        few_changes = (let more = with_one w.block (version_of w lock) in omega arith);
        size = h.size;
        frames = h.frames;
        places = h.places;
        gone_room = h.gone_room;
        revoked_room = h.revoked_room;
        revokes_room = h.revokes_room;
        content_room = h.content_room;
        metadata_room = h.metadata_room;
        revokes = h.revokes;
        kinds = record { content_inside = h.kinds.content_inside; metadata_inside = h.kinds.metadata_inside; content_are = h.kinds.content_are; metadata_are = h.kinds.metadata_are };
      }

  -- the frame of one more version is there
  pub frame_left : (log : LogValue) (b : ℕ) → log_in l ≡ log → frames_taken (record log { fresh = table.remove log.fresh b }) < log.journal.frames
      → kept_taken (record l.tables { fresh = table.remove l.tables.fresh b }) < l.tables.frames
  frame_left log b is room =
      let here : frames_taken (record (log_in l) { fresh = table.remove l.tables.fresh b }) < l.journal.frames =
      subst (λ (x : LogValue). frames_taken (record x { fresh = table.remove x.fresh b }) < x.journal.frames) (sym is) room in
      let same = frames_are (table.remove l.tables.fresh b) in
      let frames = h.frames in
      omega arith
