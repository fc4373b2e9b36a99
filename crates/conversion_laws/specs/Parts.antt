-- The lock manager of one lock in one view: its master's table, what each node holds, and what is under way between them.
use Rattle.std.specs.Prelude.{ℕ, ◌≤◌, Bool, List, [], ◌∷◌, ◌++◌, Option, None, Some, option_to_list, if◌then◌else◌}
use Rattle.std.specs.List.{AllByRecursion, filter_map}
use Rattle.glock_names.specs.declared.LockName.{LockName}
use Rattle.glock_names.specs.LockMaps.{same_lock}
use Rattle.dlm_modes.specs.declared.Mode.{Mode}
use Rattle.dlm_modes.specs.declared.ValueBlock.{ValueBlock}
use Rattle.mail_queues.specs.declared.Message.{Message}
use Rattle.mail_queues.specs.declared.Body.{Body}
use Rattle.mail_queues.specs.declared.Body.TheVariants.{Request, Convert, Down, Grant, Callback, Report, End, View}
use Rattle.dlm_holder.specs.Holdings.{Holdings, mode_in}
use Rattle.dlm_master.specs.Claims.{mode_of_node, mode_at}
use Rattle.dlm_master.specs.LockState.{LockState}
use Rattle.dlm_master.specs.Tables.{MasterState, lock_of}
use Rattle.dlm_rebuild.specs.Rebuilding.{RebuildState}
use Rattle.lock_steps.specs.Parts.{Post, way}
use Rattle.lock_steps.specs.Ties.{in_view, grants}

pub record LockParts : Type 0 where
  -- the node that is the lock's master in the view, and its table: that of a rebuild, and then of the master that it became
  pub master : ℕ
  pub table : MasterState
  -- whether it is a rebuild's; the members of the view, and those of them that have told all that they hold
  pub rebuilding : Bool
  pub members : ℕ
  pub ended : ℕ
  -- what each node holds, and whether it has taken the view
  pub holders : ℕ → Holdings
  pub taken : ℕ → Bool
  pub post : Post

-- the table while it is made anew
abbrev pub rebuild_of : LockParts → RebuildState
rebuild_of p = record { members = p.members; ended = p.ended; master = p.table }

-- the message of the view that says this
abbrev pub now_says : LockParts → Body → Message
now_says p body = record { generation = p.table.generation; body = body }

-- what a node tells the lock's master, or asks of it: each makes a call there
pub data Tell : Type 0 where
  Reports : Mode → Tell
  Ends : Tell
  Lowers : Mode → Option (List ℕ) → Tell
  Requests : Mode → Tell
  Converts : Mode → Tell

-- what a message tells of the lock, if it does
abbrev pub tell_of : LockName → Body → Option Tell
tell_of lock (Request other mode) = if same_lock lock other then Some (Requests mode) else None
tell_of lock (Convert other mode) = if same_lock lock other then Some (Converts mode) else None
tell_of lock (Down other mode value) = if same_lock lock other then Some (Lowers mode value) else None
tell_of lock (Report other mode value) = if same_lock lock other then Some (Reports mode) else None
tell_of lock End = Some Ends
tell_of lock (Grant other mode value) = None
tell_of lock (Callback other mode) = None
tell_of lock View = None

-- the grant of the lock that a message of its master makes, if it makes one: the mode, and the lock's value
abbrev pub grant_of : LockName → Body → Option (Mode × ValueBlock)
grant_of lock (Grant other mode value) = if same_lock lock other then Some (mode, value) else None
grant_of lock (Request other mode) = None
grant_of lock (Convert other mode) = None
grant_of lock (Down other mode value) = None
grant_of lock (Callback other mode) = None
grant_of lock (Report other mode value) = None
grant_of lock End = None
grant_of lock View = None

-- what is coming from a node, the first one first
abbrev pub tells_coming : LockName → LockParts → ℕ → List Tell
tells_coming lock p k = filter_map (in_view p.table.generation (tell_of lock)) (way p.post k p.master)

-- the modes that are granted to a node and on their way
abbrev pub grants_coming : LockName → LockParts → ℕ → List Mode
grants_coming lock p k = filter_map (in_view p.table.generation (grants lock)) (way p.post p.master k)

-- each with the value that it brings
abbrev pub valued_grants : LockName → LockParts → ℕ → List (Mode × ValueBlock)
valued_grants lock p k = filter_map (in_view p.table.generation (grant_of lock)) (way p.post p.master k)

-- the lock in the table, and what the table has of a node
abbrev pub lock_in_table : LockName → LockParts → LockState
lock_in_table lock p = lock_of p.table lock

abbrev pub table_mode : LockName → LockParts → ℕ → Mode
table_mode lock p k = mode_at (lock_in_table lock p).held k

-- the mode for which a node waits, if it does
abbrev pub waiting_mode : LockName → LockParts → ℕ → Option Mode
waiting_mode lock p k = mode_of_node ((lock_in_table lock p).conversions ++ (lock_in_table lock p).requests) k

-- the modes that these ask for
abbrev pub asked_in : List Tell → List Mode
asked_in [] = []
asked_in (Requests mode ∷ tells) = mode ∷ asked_in tells
asked_in (Converts mode ∷ tells) = mode ∷ asked_in tells
asked_in (Reports mode ∷ tells) = asked_in tells
asked_in (Ends ∷ tells) = asked_in tells
asked_in (Lowers mode value ∷ tells) = asked_in tells

-- the asks of a node: those that come to the master, that waits there, and that is granted and on its way
abbrev pub asks_of : LockName → LockParts → ℕ → List Mode
asks_of lock p k = asked_in (tells_coming lock p k) ++ option_to_list (waiting_mode lock p k) ++ grants_coming lock p k

-- what a node holds, and what is granted to it and on its way
abbrev pub held_or_coming : LockName → LockParts → ℕ → List Mode
held_or_coming lock p k = mode_in (p.holders k) lock ∷ grants_coming lock p k

-- nothing is under way that is newer than the view
abbrev pub NoneNewer : LockParts → Type 0
NoneNewer p = (i k : ℕ) → i ≤ 8 → k ≤ 8 → AllByRecursion (λ m. m.generation ≤ p.table.generation) (way p.post i k)
