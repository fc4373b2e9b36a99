-- A log that is new.
use Rattle.std.proofs.Common.{◌≡◌, ℕ, ◌+◌, ◌<◌, ◌≤◌, true, List, [], length, map, filter, not, None, refl, sym, ap, subst, ◌∙◌, vec_capacity, Vec, Global, arith}
use Rattle.std.specs.Ordering.{nat_cmp}
use Rattle.std.specs.FinMap as table
use Rattle.fixed_tables.specs.Fixed.{Fixed}
use Rattle.log_tables.specs.Kept.{Kept, nothing_kept}
use Rattle.log_layout.specs.Chunks.{Logged}
use Rattle.log_values.specs.Log.{LogValue, Version}
use Rattle.log_values.specs.Laws.{IsJournal, empty_log}
use Rattle.log_values.specs.Transactions.{logged_as}
use Rattle.log_values.proofs.Keeping.{empty_sound}
use Rattle.log_values.proofs.Landing.{no_entries}
use Rattle.log_memory.specs.Empty.{no_rows}
use Rattle.log_memory.specs.Inside.{AreKinds, IsLog, log_in}
use Rattle.log_memory.specs.Rows.{row_of}
use Rattle.log_memory.specs.Journals.{journal_in}
use Rattle.log_memory.specs.declared.journal.Journal.{Journal}
use Rattle.log_memory.specs.declared.log.Log.TheInside.{Inside}

-- the log is sound, and stands for this
abbrev pub Gives : Inside → LogValue → Type 0
Gives l log = IsLog l × (log_in l ≡ log)

pub none_inside : (P : ℕ → Type 0) (xs : List ℕ) → xs ≡ [] → (i : ℕ) → i < length xs → P i
none_inside P xs none i inside = absurd (impossible (subst (λ ys. i < length ys) none inside))
  where
    impossible : i < 0 → ⊥
    impossible less = omega arith

no_kinds : (size frames places : ℕ) (content metadata : List ℕ) → content ≡ [] → metadata ≡ [] → AreKinds (nothing_kept size frames places) content metadata
no_kinds size frames places content metadata no_content no_metadata = record {
  content_inside = none_inside _ content no_content;
  metadata_inside = none_inside _ metadata no_metadata;
  content_are = ap (map (row_of (nothing_kept size frames places))) no_content ∙ sym (ap (λ es. filter (λ (e : Logged). e.plain) (map (λ (e : ℕ × Version). logged_as e.0 e.1) es)) no_entries);
  metadata_are = ap (map (row_of (nothing_kept size frames places))) no_metadata ∙ sym (ap (λ es. filter (λ (e : Logged). not e.plain) (map (λ (e : ℕ × Version). logged_as e.0 e.1) es)) no_entries);
}

module _ (journal : Journal) (head sequence : ℕ) (revokes content metadata : Vec ℕ Global) where
  abbrev pub log_with : Kept → Fixed (Unit {0}) → Fixed (Unit {0}) → Inside
  log_with tables gone revoked = record {
    journal = journal;
    head = head;
    tail = head;
    sequence = sequence;
    clean = true;
    tables = tables;
    gone = gone;
    stage = None;
    revoked = revoked;
    revokes = revokes;
    content = content;
    metadata = metadata;
  }

  pub new_gives : (tables : Kept) (gone revoked : Fixed (Unit {0})) → IsJournal (journal_in journal) → head < journal.length
      → tables ≡ nothing_kept journal.block_size journal.frames journal.length → gone ≡ no_rows (journal.frames + journal.length) → revoked ≡ no_rows (journal.frames + journal.length)
      → revokes.items ≡ [] → journal.frames + journal.length ≤ vec_capacity revokes → content.items ≡ [] → journal.frames ≤ vec_capacity content → metadata.items ≡ [] → journal.frames ≤ vec_capacity metadata
      → Gives (log_with tables gone revoked) (empty_log (journal_in journal) head sequence)
  new_gives tables gone revoked is inside tables_are gone_is revoked_is no_revokes revokes_room no_content content_room no_metadata metadata_room =
      subst (λ (k : Kept). Gives (log_with k gone revoked) empty) (sym tables_are)
      (subst (λ (g : Fixed (Unit {0})). Gives (log_with nothing g revoked) empty) (sym gone_is)
      (subst (λ (r : Fixed (Unit {0})). Gives (log_with nothing (no_rows room) r) empty) (sym revoked_is)
      (sound, refl)))
    where
      room : ℕ
      room = journal.frames + journal.length

      nothing : Kept
      nothing = nothing_kept journal.block_size journal.frames journal.length

      empty : LogValue
      empty = empty_log (journal_in journal) head sequence

      sound : IsLog (log_with nothing (no_rows room) (no_rows room))
      sound = record {
        sound = empty_sound (journal_in journal) head sequence is inside;
        idle = λ _. (refl, refl);
        few_changes = (let zero = table.len-empty nat_cmp Version in omega arith);
        size = refl;
        frames = refl;
        places = refl;
        gone_room = refl;
        revoked_room = refl;
        revokes_room = revokes_room;
        content_room = content_room;
        metadata_room = metadata_room;
        revokes = no_revokes ∙ sym (ap (λ es. map (λ (e : ℕ × Unit {0}). e.0) es) no_entries);
        kinds = no_kinds journal.block_size journal.frames journal.length content.items metadata.items no_content no_metadata;
      }
