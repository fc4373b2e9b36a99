-- What of a lock the parts and the machine have in common.
use Rattle.std.specs.Prelude.{ℕ, ◌≡◌, ◌≤◌, ◌<◌, ◌==◌, Bool, true, false, List, [], Option, None, Some, is_some, unwrap_or, option_map, option_to_list, map, if◌then◌else◌}
use Rattle.std.specs.List.{AllByRecursion, filter_map}
use Rattle.glock_names.specs.declared.LockName.{LockName}
use Rattle.glock_names.specs.LockMaps.{same_lock}
use Rattle.glock_names.specs.States.{mode_for}
use Rattle.dlm_modes.specs.declared.Mode.{Mode}
use Rattle.dlm_modes.specs.declared.Mode.TheVariants.{Nl}
use Rattle.dlm_modes.specs.Modes.{is_at_least}
use Rattle.fencing.specs.NodeSets.{has}
use Rattle.mail_queues.specs.declared.Message.{Message}
use Rattle.mail_queues.specs.declared.Body.{Body}
use Rattle.mail_queues.specs.declared.Body.TheVariants.{Request, Convert, Down, Grant, Callback, Report, End, View}
use Rattle.dlm_holder.specs.Holdings.{mode_in, wanted_in}
use Rattle.dlm_master.specs.Claims.{mode_of_node, OneEach, NeverNull}
use Rattle.dlm_master.specs.LockState.{LockState}
use Rattle.dlm_master.specs.Tables.{lock_of}
use Rattle.lock_laws.specs.Lock.{State, Un, Node, eff}
use Rattle.lock_laws.specs.Lock as lock_laws
use Rattle.lock_steps.specs.Parts.{Parts, way}

-- ---- what messages tell of a lock

-- what a node tells the lock's master
pub data Tell : Type 0 where
  Reports : Mode → Tell
  Ends : Tell
  Lowers : Mode → Tell
  Asks : Mode → Tell

-- the machine's messages
abbrev pub tell_of : lock_laws.Message → Tell
tell_of (lock_laws.Report s) = Reports (mode_for s)
tell_of lock_laws.End = Ends
tell_of (lock_laws.Lowered s) = Lowers (mode_for s)
tell_of (lock_laws.Asked s) = Asks (mode_for s)

-- the mail's, where they are of this lock. No conversion is told: glocks never convert
abbrev pub tells : LockName → Body → Option Tell
tells lock (Request other mode) = if same_lock lock other then Some (Asks mode) else None
tells lock (Down other mode value) = if same_lock lock other then Some (Lowers mode) else None
tells lock (Report other mode value) = if same_lock lock other then Some (Reports mode) else None
tells lock End = Some Ends
tells lock (Convert other mode) = None
tells lock (Grant other mode value) = None
tells lock (Callback other mode) = None
tells lock View = None

-- and what its master grants
abbrev pub grants : LockName → Body → Option Mode
grants lock (Grant other mode value) = if same_lock lock other then Some mode else None
grants lock (Request other mode) = None
grants lock (Convert other mode) = None
grants lock (Down other mode value) = None
grants lock (Callback other mode) = None
grants lock (Report other mode value) = None
grants lock End = None
grants lock View = None

-- a message of an older view says nothing
abbrev pub in_view : {A : Type 0} → ℕ → (Body → Option A) → Message → Option A
in_view g says m = if m.generation == g then says m.body else None

-- ---- one node

-- what the parts have of a lock and a node
pub record Sight : Type 0 where
  pub member : Bool
  pub fresh : Bool
  pub waits : Bool
  pub roll : Bool
  pub taken : Bool
  pub mode : Mode
  pub asked : Bool
  pub table : Mode
  pub heard : Bool
  pub wants : Option Mode
  pub up : List Tell
  pub down : List Mode

-- the lock in the table of the present master
abbrev pub present : Parts → LockName → LockState
present p lock = lock_of p.table.master lock

abbrev pub sight : LockName → Parts → ℕ → Sight
sight lock p k = record {
  member = has p.membership.members k;
  fresh = p.fresh k;
  waits = has p.membership.waiting k;
  roll = has p.table.members k;
  taken = p.taken k;
  mode = mode_in (p.holders k) lock;
  asked = is_some (wanted_in (p.holders k) lock);
  table = unwrap_or (mode_of_node (present p lock).held k) Nl;
  heard = has p.table.ended k;
  wants = mode_of_node (present p lock).requests k;
  up = filter_map (in_view p.membership.generation (tells lock)) (way p.post k p.master);
  down = filter_map (in_view p.membership.generation (grants lock)) (way p.post p.master k);
}

-- the machine's node is what the parts have; of a stopped node the holder has that state, or less
pub record Fits (s : Sight) (n : Node) : Type 0 where
  pub member : s.member ≡ n.member
  pub fresh : s.fresh ≡ n.fresh
  pub waits : s.waits ≡ n.waits
  pub roll : s.roll ≡ n.roll
  pub taken : s.taken ≡ n.taken
  pub mode : s.member ≡ true → s.mode ≡ mode_for (eff n)
  pub left : s.member ≡ false → is_at_least (mode_for (n.state)) s.mode ≡ true
  pub asked : s.member ≡ true → s.asked ≡ n.asked
  pub table : s.table ≡ mode_for n.table
  pub heard : s.heard ≡ n.heard
  pub wants : s.wants ≡ option_map mode_for n.wants
  pub up : s.up ≡ map tell_of n.up
  pub down : s.down ≡ option_to_list (option_map mode_for n.down)

-- no node of the cluster
pub record IsNobody (n : Node) : Type 0 where
  pub member : n.member ≡ false
  pub waits : n.waits ≡ false
  pub roll : n.roll ≡ false
  pub table : n.table ≡ Un

-- ---- the lock's table

pub record IsTable (t : LockState) : Type 0 where
  -- glocks never convert
  pub never_converted : t.conversions ≡ []
  pub held_once : OneEach t.held
  pub never_null : NeverNull t.held
  pub asked_once : OneEach t.requests
  pub nodes : AllByRecursion (λ c. c.node ≤ 8) t.requests

-- ---- all of it

-- the parts, the nodes 0 to 8, and the machine's state of the lock are one
pub record Tied (lock : LockName) (p : Parts) (l : ℕ → Node) : Type 0 where
  pub nodes : (k : ℕ) → k ≤ 8 → Fits (sight lock p k) (l k)
  pub others : (k : ℕ) → 8 < k → IsNobody (l k)
  pub master : p.master ≤ 8
  pub table : IsTable (present p lock)
  -- a master that isn't rebuilt any more has heard every member of the view
  pub done : p.table.master.rebuild ≡ false → (k : ℕ) → k ≤ 8 → has p.table.members k ≡ true → has p.table.ended k ≡ true
  -- of a node that hasn't taken the present view nothing is in the table
  pub unheard : (k : ℕ) → k ≤ 8 → p.taken k ≡ false → (sight lock p k).table ≡ Nl
  -- nothing is under way that is newer than the present view
  pub mail : (i k : ℕ) → i ≤ 8 → k ≤ 8 → AllByRecursion (λ m. m.generation ≤ p.membership.generation) (way p.post i k)
