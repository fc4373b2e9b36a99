-- What holds of a lock after every list of calls, conversions in all six modes among them.
use Rattle.std.specs.Prelude.{ℕ, ◌≡◌, ◌≢◌, ◌≤◌, ◌<◌, ◌⊎◌, true, false, List, [], ◌∷◌, ◌++◌, Option, None, Some}
use Rattle.std.specs.List.{AllByRecursion}
use Rattle.glock_names.specs.declared.LockName.{LockName}
use Rattle.dlm_modes.specs.declared.Mode.{Mode}
use Rattle.dlm_modes.specs.declared.Mode.TheVariants.{Nl, Pw}
use Rattle.dlm_modes.specs.declared.ValueBlock.{ValueBlock}
use Rattle.dlm_modes.specs.Modes.{go_together, is_at_least}
use Rattle.mail_queues.specs.declared.Message.{Message}
use Rattle.mail_queues.specs.declared.Body.TheVariants.{Request, Convert, Down, Grant, Report, End}
use Rattle.dlm_holder.specs.Holdings.{knows, mode_in, wanted_in}
use Rattle.dlm_master.specs.Claims.{Together}
use Rattle.dlm_master.specs.Laws.{IsSound, IsBlocked}
use Rattle.dlm_master.specs.Runs.{run_of}
use Rattle.dlm_master.specs.Locks.{free_lock}
use Rattle.dlm_master.specs.Tables.{HoldsNone, IsIdle, IsCovered, IsAbove}
use Rattle.dlm_rebuild.specs.Rebuilding.{begun}
use Rattle.fencing.specs.NodeSets.{has}
use Rattle.conversion_laws.specs.Parts.{LockParts, NoneNewer, rebuild_of, now_says, Reports, tells_coming, grants_coming, valued_grants, lock_in_table, table_mode, asks_of, held_or_coming}
use Rattle.conversion_laws.specs.Calls.{Call, Calls, DropNone}

-- a node at the start: a member of a view whose table is made anew, which has nothing told yet; or one that holds nothing and asks for
-- nothing, as each does in the first view
pub data BeginsNode (lock : LockName) (p : LockParts) (k : ℕ) : Type 0 where
  IsToTell : p.rebuilding ≡ true → has p.members k ≡ true → has p.ended k ≡ false → p.taken k ≡ false → BeginsNode lock p k
  HasNothing : p.taken k ≡ true → mode_in (p.holders k) lock ≡ Nl → wanted_in (p.holders k) lock ≡ None → BeginsNode lock p k

-- the start of a view: nothing of the lock is in the table or under way, and what nodes hold goes together. So it is at the first view,
-- and where another view follows (`ViewsFollow`)
pub record Begins (lock : LockName) (p : LockParts) : Type 0 where
  pub master : p.master ≤ 8
  pub table : lock_in_table lock p ≡ free_lock
  pub rebuild : p.rebuilding ≡ true → p.table.rebuild ≡ true
  pub nodes : (k : ℕ) → k ≤ 8 → BeginsNode lock p k
  pub together : (i k : ℕ) → i ≤ 8 → k ≤ 8 → i ≢ k → go_together (mode_in (p.holders i) lock) (mode_in (p.holders k) lock) ≡ true
  pub tells : (k : ℕ) → k ≤ 8 → tells_coming lock p k ≡ []
  pub grants : (k : ℕ) → k ≤ 8 → grants_coming lock p k ≡ []
  pub mail : NoneNewer p

-- ---- the table, and what nodes hold

-- the table isn't made anew any more, or the node has ended
abbrev pub HasTold : LockParts → ℕ → Type 0
HasTold p k = (p.rebuilding ≡ false) ⊎ (has p.ended k ≡ true)

pub record AreRight (lock : LockName) (p : LockParts) : Type 0 where
  -- the table has nobody twice, and its modes go together
  pub sound : IsSound (lock_in_table lock p)
  pub together : Together (lock_in_table lock p).held
  -- of a node that has told all the table has at least what it holds, and what is granted to it and on its way
  pub covers : (k : ℕ) → k ≤ 8 → HasTold p k → AllByRecursion (λ mode. is_at_least (table_mode lock p k) mode ≡ true) (held_or_coming lock p k)
  -- what one node holds or is granted goes with what another holds or is granted
  pub compatible : (i k : ℕ) → i ≤ 8 → k ≤ 8 → i ≢ k
      → AllByRecursion (λ a. AllByRecursion (λ b. go_together a b ≡ true) (held_or_coming lock p k)) (held_or_coming lock p i)
  -- at most one ask of a node is in progress, and it is the one that its holder has
  pub one_ask : (k : ℕ) → k ≤ 8 → (asks_of lock p k ≡ []) ⊎ ((mode : Mode) × (asks_of lock p k ≡ mode ∷ []) × (wanted_in (p.holders k) lock ≡ Some mode))
  -- of a node that has told all, asks for nothing, and of which nothing is coming, the table has just what it holds
  pub exact : (k : ℕ) → k ≤ 8 → HasTold p k → wanted_in (p.holders k) lock ≡ None → tells_coming lock p k ≡ [] → table_mode lock p k ≡ mode_in (p.holders k) lock
  pub mail : NoneNewer p

abbrev pub EveryListIsRight : Type 0
EveryListIsRight = (lock : LockName) (p q : LockParts) → Begins lock p → Calls lock p q → AreRight lock q

-- ---- no ask is lost

-- where no grant is dropped the ask of a node that has taken the view is in progress: it comes to the master, waits there, also while the
-- table is made anew, or is granted and on its way
abbrev pub NoAskIsLost : Type 0
NoAskIsLost = (lock : LockName) (p q : LockParts) (calls : Calls lock p q) → Begins lock p → DropNone lock p q calls
    → (k : ℕ) → k ≤ 8 → q.taken k ≡ true → (mode : Mode) → wanted_in (q.holders k) lock ≡ Some mode → asks_of lock q k ≡ mode ∷ []

-- ---- nobody is granted anything while the master is blocked

-- the node's report comes to the table
pub record IsReported (lock : LockName) (p q : LockParts) (k : ℕ) : Type 0 where
  pub mode : Mode
  pub first : tells_coming lock p k ≡ Reports mode ∷ tells_coming lock q k
  pub table : table_mode lock q k ≡ mode

-- a call leaves the table no more of the node than it had, or than it reports; and it sets no grant on its way to the node: those that
-- were are, all or all but the first ones
pub record GrantsNothing (lock : LockName) (p q : LockParts) (k : ℕ) : Type 0 where
  pub table : (is_at_least (table_mode lock p k) (table_mode lock q k) ≡ true) ⊎ IsReported lock p q k
  pub gone : List (Mode × ValueBlock)
  pub letters : valued_grants lock p k ≡ gone ++ valued_grants lock q k

-- so does each call, after every list of calls, while a rebuild isn't done or a slot waits
abbrev pub NoneWhileBlocked : Type 0
NoneWhileBlocked = (lock : LockName) (a p q : LockParts) (k : ℕ) → Begins lock a → Calls lock a p → IsBlocked (run_of p.table lock) → Call lock p q → k ≤ 8 → GrantsNothing lock p q k

-- ---- a grant brings the lock's value

-- the grants on their way to the node after a call: of those that were all, or all but the first ones; and those that the call sets on
-- their way, each of which brings the value that the lock has at its master then, valid or not
pub record BringsValue (lock : LockName) (p q : LockParts) (k : ℕ) : Type 0 where
  pub gone : List (Mode × ValueBlock)
  pub kept : List (Mode × ValueBlock)
  pub fresh : List (Mode × ValueBlock)
  pub before : valued_grants lock p k ≡ gone ++ kept
  pub after : valued_grants lock q k ≡ kept ++ fresh
  pub value : AllByRecursion (λ (grant : Mode × ValueBlock). grant.1 ≡ (lock_in_table lock p).value) fresh

-- so does each call, after every list of calls
abbrev pub GrantsBringTheValue : Type 0
GrantsBringTheValue = (lock : LockName) (a p q : LockParts) (k : ℕ) → Begins lock a → Calls lock a p → Call lock p q → k ≤ 8 → BringsValue lock p q k

-- ---- a view follows another

-- the start of a view, behind these parts of the old one: each node holds what it held or less, as nothing in a new life; the table is a
-- new rebuild's, and no member has taken the view; who is no member holds nothing
pub record FollowsView (lock : LockName) (p q : LockParts) : Type 0 where
  pub master : q.master ≤ 8
  pub rebuilding : q.rebuilding ≡ true
  pub anew : rebuild_of q ≡ begun q.table.generation q.members
  pub kept : (k : ℕ) → k ≤ 8 → is_at_least (mode_in (p.holders k) lock) (mode_in (q.holders k) lock) ≡ true
  pub members : (k : ℕ) → k ≤ 8 → has q.members k ≡ true → q.taken k ≡ false
  pub others : (k : ℕ) → k ≤ 8 → has q.members k ≡ false → (q.taken k ≡ true) × (mode_in (q.holders k) lock ≡ Nl) × (wanted_in (q.holders k) lock ≡ None)
  -- what was under way still is, and the view has a greater number
  pub post : q.post ≡ p.post
  pub later : p.table.generation < q.table.generation

abbrev pub ViewsFollow : Type 0
ViewsFollow = (lock : LockName) (p q : LockParts) → AreRight lock p → FollowsView lock p q → Begins lock q

-- ---- a holder is never stronger than granted

-- a call leaves a node what it holds or less; or it takes the grant that was on its way, and leaves it that
pub data RisesByGrant (lock : LockName) (p q : LockParts) (k : ℕ) : Type 0 where
  Rises : grants_coming lock p k ≡ mode_in (q.holders k) lock ∷ grants_coming lock q k → RisesByGrant lock p q k
  Keeps : is_at_least (mode_in (p.holders k) lock) (mode_in (q.holders k) lock) ≡ true → RisesByGrant lock p q k

abbrev pub HoldersRiseByGrants : Type 0
HoldersRiseByGrants = (lock : LockName) (p q : LockParts) (k : ℕ) → Call lock p q → RisesByGrant lock p q k

-- ---- a message in hand meets what the call requires that it makes

pub record MeetCalls (lock : LockName) (p : LockParts) : Type 0 where
  -- who requests the lock holds nothing by the table, and waits for nothing
  pub requests : (k : ℕ) (mode : Mode) (rest : List Message) → k ≤ 8 → p.post.took k p.master ≡ now_says p (Request lock mode) ∷ rest
      → HoldsNone (lock_in_table lock p) k × IsIdle (lock_in_table lock p) k
  -- who converts it holds a mode by the table that the new one covers, and waits for nothing
  pub conversions : (k : ℕ) (mode : Mode) (rest : List Message) → k ≤ 8 → p.post.took k p.master ≡ now_says p (Convert lock mode) ∷ rest
      → IsCovered (lock_in_table lock p) k mode × IsIdle (lock_in_table lock p) k
  -- who lowers it holds a mode above that by the table, or just that mode; and waits for nothing
  pub lowers : (k : ℕ) (mode : Mode) (value : Option (List ℕ)) (rest : List Message) → k ≤ 8 → p.post.took k p.master ≡ now_says p (Down lock mode value) ∷ rest
      → (IsAbove (lock_in_table lock p) k mode ⊎ (table_mode lock p k ≡ mode)) × IsIdle (lock_in_table lock p) k
  -- who reports it is heard by a rebuild, and waits for nothing
  pub reports : (k : ℕ) (mode : Mode) (value : ValueBlock) (rest : List Message) → k ≤ 8 → p.post.took k p.master ≡ now_says p (Report lock mode value) ∷ rest
      → (p.rebuilding ≡ true) × IsIdle (lock_in_table lock p) k
  -- and so is who has told all
  pub ends : (k : ℕ) (rest : List Message) → k ≤ 8 → p.post.took k p.master ≡ now_says p End ∷ rest → p.rebuilding ≡ true
  -- who is granted it has asked for it, in this mode; and where the mode goes with none that may write the value, the grant brings the
  -- value that the table has
  pub grants : (k : ℕ) (mode : Mode) (value : ValueBlock) (rest : List Message) → k ≤ 8 → p.post.took p.master k ≡ now_says p (Grant lock mode value) ∷ rest
      → (knows (p.holders k) lock ≡ true) × (wanted_in (p.holders k) lock ≡ Some mode) × (go_together mode Pw ≡ false → value ≡ (lock_in_table lock p).value)

abbrev pub MessagesMeetCalls : Type 0
MessagesMeetCalls = (lock : LockName) (p q : LockParts) → Begins lock p → Calls lock p q → MeetCalls lock q
