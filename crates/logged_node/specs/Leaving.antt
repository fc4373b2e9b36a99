-- How a node unmounts.
use Rattle.std.specs.Prelude.{ℕ, ◌≡◌, ◌≢◌, ◌⊎◌, ◌≤◌, ◌+◌, ◌++◌, true, false, List, [], ◌∷◌, Option, None, Some}
use Rattle.log_layout.specs.Headers.{log_put}
use Rattle.log_layout.specs.Transactions.{after}
use Rattle.log_memory.specs.Ending.{last_header}
use Rattle.log_values.specs.Flushing.{AllAreHome, IsDue}
use Rattle.logged_steps.specs.NodeEnds.{IsDone, IsLastHeader}
use Rattle.node_journal.specs.Encoding.{zeros}
use Rattle.shared_disk.specs.Disk.{Barrier, DiskState, Gains, Operation, Write, after_barrier}
use Rattle.trace_text.specs.declared.item.TraceItem.{TraceItem}
use Rattle.trace_text.specs.declared.item.TraceItem.TheVariants as trace
use Rattle.logged_steps.specs.Ends.{EndsTo, FliesClean, clean_item, last_block, with_clean}
use Rattle.logged_steps.specs.Fails.{FailsTo}
use Rattle.logged_steps.specs.Points.{Point, state_of}
use Rattle.logged_steps.specs.Steps.{Steps}
use Rattle.logged_node.specs.Ends.{FailedAt, IsOfDisk}
use Rattle.logged_node.specs.Flushing.{GoesBySteps}
use Rattle.logged_node.specs.Homing.{HasGoneHome, RestsAsDue, SentSoFar}
use Rattle.logged_node.specs.Nodes.{IsBeforeCrash, IsResting, KeepsCallsAt, KeepsView, StopsBehind, StopsByCrash, crash_at, point_of}
use Rattle.logged_node.specs.Rooms.{HasBroughtIn, SentForRoom}
use Rattle.logged_node.specs.declared.ends.Stop.{Stop}
use Rattle.logged_node.specs.declared.ends.Stop.TheVariants as stop
use Rattle.logged_node.specs.declared.node.Node.{Node}

-- ---- until nothing more is to be written

-- from now on it answers no call, and the item tells so
pub record HasLeft (n n' : Node) : Type 0 where
  pub node : n' ≡ record n { items = n'.items; unmounts = true }
  pub told : n'.items.items ≡ n.items.items ++ trace.Unmount 1 ∷ []

-- It left; then all that was due came into its journal.
pub record HasLeftWithAll (d : DiskState) (list : Option (List Operation)) (n : Node) (d' : DiskState) (list' : Option (List Operation)) (n' : Node) : Type 0 where
  pub left : Node
  pub leaves : HasLeft n left
  pub brought : HasBroughtIn d list left d' list' n'
  pub sent : SentForRoom left n'.items.items

-- Then all that is live went home, and the node rests: nothing more is to be written.
pub record IsReady (d : DiskState) (list : Option (List Operation)) (n : Node) (d' : DiskState) (list' : Option (List Operation)) (n' : Node) : Type 0 where
  pub flushed_disk : DiskState
  pub flushed_list : Option (List Operation)
  pub flushed : Node
  pub first : HasLeftWithAll d list n flushed_disk flushed_list flushed
  pub homes : HasGoneHome flushed_disk flushed_list flushed d' list' n'
  pub rests : RestsAsDue flushed.items.items n'.items.items
  pub goes : GoesBySteps d list n d' list' n'
  pub resting : IsResting d' n'
  pub done : IsDone (state_of (point_of d' list' n'))
  pub kept : KeepsView first.left n'
  pub unmounts : n'.unmounts ≡ true
  pub none : IsDue n'.log → ⊥
  pub home : AllAreHome n'.log
  pub answered : n'.numbers.answered ≡ n.numbers.answered
  pub sequence : n'.log.sequence ≤ n.log.sequence + 2

-- ---- its last header

-- it is in flight, on the disk of the point, and nothing else
pub record FliesLastHeader (last : Point) (bytes : List ℕ) (d : DiskState) (list : Option (List Operation)) : Type 0 where
  pub put : bytes ≡ log_put (last_header last.log) (zeros last.log.journal.size)
  pub is : IsLastHeader last.log bytes
  pub flies : FliesClean last bytes
  pub disk : d ≡ with_clean last bytes
  pub gains : Gains last.list list (Write 1 (last_block last) bytes ∷ [])

-- it is in the journal, by a barrier
pub record HasLastHeader (last : Point) (d : DiskState) (list : Option (List Operation)) (items : List TraceItem) : Type 0 where
  pub bytes : List ℕ
  pub written : DiskState
  pub told : Option (List Operation)
  pub flies : FliesLastHeader last bytes written told
  pub disk : d ≡ after_barrier written 1
  pub gains : Gains told list (Barrier 1 ∷ [])
  pub tells : items ≡ last.items ++ (clean_item last ∷ trace.Barrier 1 ∷ [])

-- it isn't written; or it may be in flight, where the disk failed in its write, of which no item tells; or it is in flight, and the node crashed behind it, or the disk failed in the barrier
pub data StopsAtHeader (last : Point) (crash : Option ℕ) (d : DiskState) (list : Option (List Operation)) (items : List TraceItem) (why : Stop) : Type 0 where
  before_it : d ≡ last.disk → list ≡ last.list → items ≡ last.items → why ≢ stop.Crashed → FailedAt why (Some (last_block last)) → IsBeforeCrash crash items → StopsAtHeader last crash d list items why
  in_it : (bytes : List ℕ) → FliesLastHeader last bytes d list → items ≡ last.items → IsOfDisk why → FailedAt why (Some (last_block last)) → IsBeforeCrash crash items → StopsAtHeader last crash d list items why
  behind_it : (bytes : List ℕ) → FliesLastHeader last bytes d list → items ≡ last.items ++ clean_item last ∷ [] → why ≢ stop.NoMemory → FailedAt why None → StopsByCrash crash items why → StopsAtHeader last crash d list items why

-- ---- what comes of an unmount

-- The journal was never written to, and its clean header stands; or there is a new one, whose sequence is at most three more than that of the head was.
pub data HasUnmounted (d : DiskState) (list : Option (List Operation)) (n : Node) (d' : DiskState) (list' : Option (List Operation)) (items : List TraceItem) : Type 0 where
  clean_still : (m : Node) → IsReady d list n d' list' m → m.log.clean ≡ true → items ≡ m.items.items → HasUnmounted d list n d' list' items
  with_header : (e : DiskState) (k : Option (List Operation)) (m : Node) → IsReady d list n e k m → m.log.clean ≡ false → HasLastHeader (point_of e k m) d' list' items → after m.log.sequence ≤ n.log.sequence + 3
      → HasUnmounted d list n d' list' items

-- Where it stops: before anything was done, for want of memory; while what is due comes into the journal; while what is live goes home; or at the last header.
pub data StopsLeaving (d : DiskState) (list : Option (List Operation)) (n : Node) (d' : DiskState) (list' : Option (List Operation)) (items : List TraceItem) (why : Stop) : Type 0 where
  at_first : why ≡ stop.NoMemory → d' ≡ d → list' ≡ list → items ≡ n.items.items → StopsLeaving d list n d' list' items why
  bringing_in : (m : Node) → HasLeft n m → StopsBehind 2 d list m d' list' items why → SentForRoom m items → StopsLeaving d list n d' list' items why
  going_home : (e : DiskState) (k : Option (List Operation)) (m : Node) → HasLeftWithAll d list n e k m → StopsBehind 0 e k m d' list' items why → SentSoFar m.log m.items.items items → StopsLeaving d list n d' list' items why
  at_the_end : (e : DiskState) (k : Option (List Operation)) (m : Node) → IsReady d list n e k m → m.log.clean ≡ false → StopsAtHeader (point_of e k m) (crash_at n) d' list' items why → StopsLeaving d list n d' list' items why

-- Whatever came of it: by steps to a point, and from that, on the disk, by the list and the items that are left, as a run fails or ends.
pub record LeavesBySteps (d : DiskState) (list : Option (List Operation)) (n : Node) (d' : DiskState) (list' : Option (List Operation)) (items : List TraceItem) : Type 0 where
  pub last : Point
  pub left : Point
  pub steps : (time : ℕ) → Steps time (point_of d list n) last
  pub ends : (time : ℕ) → FailsTo time last left ⊎ EndsTo last left
  pub disk : left.disk ≡ d'
  pub listed : left.list ≡ list'
  pub told : left.items ≡ items
  pub kept : KeepsCallsAt n last
  pub sequence : last.log.sequence ≤ n.log.sequence + 2
