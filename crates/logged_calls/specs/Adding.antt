-- The change of a call comes into a node's log.
use Rattle.std.specs.Prelude.{ℕ, ◌≡◌, ◌≢◌, ◌+◌, ◌≤◌, true, List, [], length, Option, Ok}
use Rattle.std.specs.List.{All}
use Rattle.drafts.specs.declared.change.Change.{Change}
use Rattle.drafts.specs.declared.change.Written.{Written}
use Rattle.gfs2_layout.specs.Structures.{header_read}
use Rattle.gfs2_layout.specs.declared.header.MetaHeader.{MetaHeader}
use Rattle.profile_limits.specs.Limits.{most_blocks}
use Rattle.log_values.specs.Changes.{CanBeAdded, Suffices, with_change}
use Rattle.log_values.specs.Flushing.{NothingIsLive}
use Rattle.log_values.specs.Laws.{IsAtRest}
use Rattle.log_values.specs.Log.{LogValue}
use Rattle.shared_disk.specs.Disk.{DiskState, Operation}
use Rattle.logged_node.specs.Nodes.{IsResting}
use Rattle.logged_node.specs.declared.node.Node.{Node}
use Rattle.logged_calls.specs.Calls.{HasMoved}

-- a change that a log takes where it has room, and with which something is due
pub record IsLoggable (size : ℕ) (change : Change) : Type 0 where
  pub can : CanBeAdded size change
  pub some : change.blocks.items ≢ []

-- ---- whether it is one, of those that calls answer

-- content of a file; or metadata, which begins with the magic, and is no log header
pub data IsBlockOfLog (w : Written) : Type 0 where
  content : w.plain ≡ true → IsBlockOfLog w
  metadata : (h : MetaHeader) → header_read w.bytes ≡ Ok h → h.kind ≢ 8 → IsBlockOfLog w

-- it writes a block, writes and frees no more blocks than there may be, and each that it writes may be logged
pub record MayBeLogged (change : Change) : Type 0 where
  pub some : change.blocks.items ≢ []
  pub few : length change.blocks.items + length change.freed.items ≤ most_blocks
  pub blocks : All IsBlockOfLog change.blocks.items

-- ---- room for it

-- the log has no room for it, though all that was changed is flushed and home, and nothing live
pub record IsCrowded (log : LogValue) (change : Change) : Type 0 where
  pub crowded : Suffices (with_change log change) → ⊥
  pub rest : IsAtRest log
  pub empty : NothingIsLive log

-- room was made, by so many headers at most, and the log has the change
pub record HasAdded (most : ℕ) (change : Change) (d : DiskState) (list : Option (List Operation)) (n : Node) (d' : DiskState) (list' : Option (List Operation)) (n' : Node) : Type 0 where
  pub roomy : Node
  pub moved : HasMoved most d list n d' list' roomy
  pub fits : Suffices (with_change roomy.log change)
  pub node : n' ≡ record roomy { log = with_change roomy.log change }
  pub resting : IsResting d' n'

-- all the room was made that can be had
pub record HasNoPlace (most : ℕ) (change : Change) (d : DiskState) (list : Option (List Operation)) (n : Node) (d' : DiskState) (list' : Option (List Operation)) (n' : Node) : Type 0 where
  pub moved : HasMoved most d list n d' list' n'
  pub crowded : IsCrowded n'.log change
