-- How a node begins.
use Rattle.std.specs.Prelude.{ℕ, ◌≡◌, ◌<◌, ◌≤◌, false, List, [], length, Some}
use Rattle.std.specs.FinMap as table
use Rattle.std.specs.List.{AllByRecursion}
use Rattle.glock_names.specs.Views.{end_of}
use Rattle.log_values.specs.Flushing.{block_at}
use Rattle.log_values.specs.Log.{Journal}
use Rattle.log_widths.specs.Widths.{HasJournalWidths}
use Rattle.lone_view.specs.Seeing.{Lone}
use Rattle.shared_disk.specs.Disk.{DiskState}
use Rattle.logged_node.specs.declared.node.CallNumbers.{CallNumbers}

-- no call yet
abbrev pub no_calls : CallNumbers
no_calls = record { answered = 0; changed = 0; low = 0; begun = 0 }

-- On this disk a node may begin that keeps this and has this journal: both are of the disk's size; the journal's numbers are within their widths, its places are blocks of the disk, each another one, and
-- so are the groups and the blocks that are kept; nothing of the node is in flight, and it isn't fenced.
pub record MayBeginOn (d : DiskState) (view : Lone) (journal : Journal) : Type 0 where
  pub view_size : view.size ≡ d.size
  pub size : journal.size ≡ d.size
  pub widths : HasJournalWidths journal
  pub places : (p : ℕ) → p < journal.length → block_at journal p < d.count
  pub apart : (p q : ℕ) → p < journal.length → q < journal.length → block_at journal p ≡ block_at journal q → p ≡ q
  pub some : 1 ≤ length view.groups
  pub groups : AllByRecursion (λ g. end_of g ≤ d.count) view.groups
  pub kept : (b : ℕ) (bytes : List ℕ) → table.get view.blocks b ≡ Some bytes → b < d.count
  pub unfenced : d.is_fenced 1 ≡ false
  pub none : d.in_flight 1 ≡ []
