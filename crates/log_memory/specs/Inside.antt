-- What the fields of a log stand for, and what always holds of them.
use Rattle.std.specs.Prelude.{◌≡◌, ◌+◌, ◌<◌, ◌≤◌, ℕ, List, map, length, slice_index, Option, None, option_map, vec_capacity}
use Rattle.std.specs.FinMap as table
use Rattle.node_journal.specs.Encoding.{content_of, metadata_of}
use Rattle.log_tables.specs.Kept.{Kept}
use Rattle.log_values.specs.Blocks as set
use Rattle.log_values.specs.Log.{Flush, LogValue, Stage}
use Rattle.log_values.specs.Log.Stage.{Ending, Headed, Writing}
use Rattle.log_values.specs.Changes.{most_unflushed}
use Rattle.log_values.specs.Sound.{IsSoundLog}
use Rattle.log_values.specs.Transactions.{transaction}
use Rattle.log_memory.specs.Journals.{journal_in}
use Rattle.log_memory.specs.Rows.{row_of}
use Rattle.log_memory.specs.declared.kinds.Stage.{Stage as Held}
use Rattle.log_memory.specs.declared.kinds.Stage.TheVariants as held
use Rattle.log_memory.specs.declared.log.Log.TheInside.{Inside}

abbrev pub stage_of : Held → Stage
stage_of (held.Writing done) = Writing done
stage_of held.Ending = Ending
stage_of (held.Headed tail) = Headed tail

abbrev pub flush_in : Inside → Option Flush
flush_in l = option_map (λ stage. record { versions = l.tables.flushed; revokes = l.revoked.at; stage = stage_of stage }) l.stage

abbrev pub log_in : Inside → LogValue
log_in l = record {
  journal = journal_in l.journal;
  head = l.head;
  tail = l.tail;
  sequence = l.sequence;
  clean = l.clean;
  fresh = l.tables.fresh;
  gone = l.gone.at;
  flush = flush_in l;
  live = l.tables.live;
}

-- the places of the flush's rows of each kind, in their order
pub record AreKinds (k : Kept) (content metadata : List ℕ) : Type 0 where
  pub content_inside : (i : ℕ) → i < length content → slice_index content i < table.len k.flushed
  pub metadata_inside : (i : ℕ) → i < length metadata → slice_index metadata i < table.len k.flushed
  pub content_are : map (row_of k) content ≡ content_of (transaction k.flushed set.empty)
  pub metadata_are : map (row_of k) metadata ≡ metadata_of (transaction k.flushed set.empty)

pub record IsLog (l : Inside) : Type 0 where
  pub sound : IsSoundLog (log_in l)
  -- where no flush was begun, none logs or revokes
  pub idle : l.stage ≡ None → (l.tables.flushed ≡ table.empty) × (l.revoked.at ≡ set.empty)
  -- fewer blocks are changed than the part that isn't flushed may take of the journal, so an empty journal has room for them
  pub few_changes : table.len l.tables.fresh < most_unflushed
  -- the tables are of the journal
  pub size : l.tables.size ≡ l.journal.block_size
  pub frames : l.tables.frames ≡ l.journal.frames
  pub places : l.tables.places ≡ l.journal.length
  -- each list has room for whatever may come into it
  pub gone_room : l.gone.room ≡ l.journal.frames + l.journal.length
  pub revoked_room : l.revoked.room ≡ l.journal.frames + l.journal.length
  pub revokes_room : l.journal.frames + l.journal.length ≤ vec_capacity l.revokes
  pub content_room : l.journal.frames ≤ vec_capacity l.content
  pub metadata_room : l.journal.frames ≤ vec_capacity l.metadata
  -- the flush that was begun, as it is written
  pub revokes : l.revokes.items ≡ set.items l.revoked.at
  pub kinds : AreKinds l.tables l.content.items l.metadata.items
