-- Each call of the lock manager's parts is a step of the lock, or a few, or none.
use Rattle.std.specs.Prelude.{ℕ, ◌≡◌, ◌≢◌, ◌≤◌, ◌⊎◌, Bool, true, false, List, [], ◌∷◌, ◌++◌, Some}
use Rattle.std.specs.List.{AllByRecursion}
use Rattle.glock_names.specs.declared.LockName.{LockName}
use Rattle.dlm_modes.specs.declared.Mode.{Mode}
use Rattle.dlm_modes.specs.Modes.{go_together, is_at_least}
use Rattle.fencing.specs.NodeSets.{has}
use Rattle.fencing.specs.Members.{stopped, recovered_too, admitted, in_next_view}
use Rattle.dlm_holder.specs.Holdings.{mode_in}
use Rattle.dlm_master.specs.Locks.{free_lock}
use Rattle.dlm_rebuild.specs.Rebuilding.{begun, master_for}
use Rattle.lock_laws.specs.Lock.{Un, Node, Sound, at, anew, starting}
use Rattle.lock_steps.specs.Runs.{Steps}
use Rattle.lock_steps.specs.Parts.{Parts, Post, way}
use Rattle.lock_steps.specs.Ties.{Tied, sight, present}
use Rattle.lock_steps.specs.Calls.{NoneWaits, left_of, MailCall, HolderCall, TableCall, MemberCall}

-- the parts after a call are the machine after a list of its steps
pub record Follows (lock : LockName) (l : ℕ → Node) (p : Parts) : Type 0 where
  pub state : ℕ → Node
  pub steps : Steps l state
  pub tied : Tied lock p state

abbrev pub MailIsNoStep : Type 0
MailIsNoStep = (lock : LockName) (p : Parts) (post : Post) (l : ℕ → Node) → MailCall p.post post → Tied lock p l → Tied lock (record p { post = post }) l

abbrev pub HolderCallsAreSteps : Type 0
HolderCallsAreSteps = (lock : LockName) (p q : Parts) (l : ℕ → Node) → HolderCall lock p q → Sound l → Tied lock p l → Follows lock l q

abbrev pub TableCallsAreSteps : Type 0
TableCallsAreSteps = (lock : LockName) (p q : Parts) (l : ℕ → Node) → TableCall lock p q → Sound l → Tied lock p l → Follows lock l q

abbrev pub MemberCallsAreSteps : Type 0
MemberCallsAreSteps = (lock : LockName) (p q : Parts) (l : ℕ → Node) → MemberCall lock p q → Sound l → Tied lock p l → Follows lock l q

-- Which step it is where it is one of all locks at once: whatever the lock, the step of the call's name.
pub record MoveAllLocks (lock : LockName) (p : Parts) (l : ℕ → Node) : Type 0 where
  pub stops : (k : ℕ) → k ≤ 8 → Tied lock (record p { membership = stopped p.membership k }) (at l k (record (l k) { member = false; waits = true }))
  pub recovered : (k : ℕ) → k ≤ 8 → has p.membership.waiting k ≡ true
      → Tied lock (record p { membership = recovered_too p.membership k; holders = at p.holders k (left_of p k) }) (at l k (record (l k) { waits = false; state = Un }))
  pub joins : (k : ℕ) → k ≤ 8 → has p.membership.members k ≡ false
      → Tied lock (record p { membership = admitted p.membership k; holders = at p.holders k []; fresh = at p.fresh k true }) (at l k (record (l k) { member = true; fresh = true; asked = false }))
  pub view : (master : ℕ) → master ≤ 8 → master_for p.membership.members lock ≡ Some master
      → Tied lock (record p {
        membership = in_next_view p.membership;
        master = master;
        table = begun (in_next_view p.membership).generation p.membership.members;
        fresh = λ k. false;
        taken = λ k. false;
      }) (λ k. anew (l k))

abbrev pub MemberCallsMoveAllLocks : Type 0
MemberCallsMoveAllLocks = (lock : LockName) (p : Parts) (l : ℕ → Node) → Sound l → Tied lock p l → MoveAllLocks lock p l

-- ---- every list of calls

pub data Call (lock : LockName) (p : Parts) : Parts → Type 0 where
  OfMail : (post : Post) → MailCall p.post post → Call lock p (record p { post = post })
  OfHolder : (q : Parts) → HolderCall lock p q → Call lock p q
  OfTable : (q : Parts) → TableCall lock p q → Call lock p q
  OfMembers : (q : Parts) → MemberCall lock p q → Call lock p q

pub data Calls (lock : LockName) (p : Parts) : Parts → Type 0 where
  NoCall : Calls lock p p
  AndCall : (q r : Parts) → Calls lock p q → Call lock q r → Calls lock p r

-- the start: nothing is asked for, held or under way, and the master of the first view needs no reports
pub record Begins (lock : LockName) (p : Parts) : Type 0 where
  pub master : p.master ≤ 8
  pub holders : (k : ℕ) → k ≤ 8 → p.holders k ≡ []
  pub table : present p lock ≡ free_lock
  pub members : (k : ℕ) → k ≤ 8 → has p.table.members k ≡ has p.membership.members k
  pub ended : (k : ℕ) → k ≤ 8 → has p.table.ended k ≡ has p.membership.members k
  pub fresh : (k : ℕ) → k ≤ 8 → p.fresh k ≡ false
  pub taken : (k : ℕ) → k ≤ 8 → p.taken k ≡ has p.membership.members k
  pub mail : (i k : ℕ) → i ≤ 8 → k ≤ 8 → way p.post i k ≡ []

abbrev pub EveryListIsSteps : Type 0
EveryListIsSteps = (lock : LockName) (p q : Parts) → Begins lock p → Calls lock p q
    → (runs : ℕ → Bool) × (waits : ℕ → Bool) × (l : ℕ → Node) × Steps (λ k. starting (runs k) (waits k)) l × Tied lock q l

-- what a node holds, a stopped one until its slot is recovered, and what is granted to it and on its way
abbrev pub held_or_coming : LockName → Parts → ℕ → List Mode
held_or_coming lock p k = mode_in (p.holders k) lock ∷ (sight lock p k).down

-- what holds of the parts after every list of calls
pub record AreRight (lock : LockName) (p : Parts) : Type 0 where
  -- what one node holds or is granted goes with what another holds or is granted
  pub compatible : (i k : ℕ) → i ≤ 8 → k ≤ 8 → i ≢ k
      → AllByRecursion (λ a. AllByRecursion (λ b. go_together a b ≡ true) (held_or_coming lock p k)) (held_or_coming lock p i)
  -- at most one grant is on its way to a node
  pub one_grant : (k : ℕ) → k ≤ 8 → ((sight lock p k).down ≡ []) ⊎ ((mode : Mode) × ((sight lock p k).down ≡ mode ∷ []))
  -- of a member whose reports have ended the table has at least what it holds, and what is granted to it and on its way
  pub covers : (k : ℕ) → k ≤ 8 → has p.membership.members k ≡ true → p.taken k ≡ true → has p.table.ended k ≡ true
      → is_at_least ((sight lock p k).table) (mode_in (p.holders k) lock) ≡ true
  pub covers_grants : (k : ℕ) → k ≤ 8 → p.taken k ≡ true → has p.table.ended k ≡ true
      → AllByRecursion (λ mode. is_at_least ((sight lock p k).table) mode ≡ true) (sight lock p k).down

abbrev pub EveryListIsRight : Type 0
EveryListIsRight = (lock : LockName) (p q : Parts) → Begins lock p → Calls lock p q → AreRight lock q

-- the table is no rebuild's any more, every member of the view has told all, and no slot waits
pub record MayGrant (p : Parts) : Type 0 where
  pub rebuilt : p.table.master.rebuild ≡ false
  pub heard : (i : ℕ) → i ≤ 8 → has p.table.members i ≡ true → has p.table.ended i ≡ true
  pub runs : NoneWaits p

-- a call sets no grant on its way to the node: those that were are, all or all but the first ones
pub record SetsNone (lock : LockName) (p q : Parts) (k : ℕ) : Type 0 where
  pub gone : List Mode
  pub grants : (sight lock p k).down ≡ gone ++ (sight lock q k).down

-- after every list of calls, whichever call then sets a grant on its way, behind others or none, makes it only where that may be
abbrev pub GrantsWait : Type 0
GrantsWait = (lock : LockName) (a p q : Parts) (k : ℕ) → Begins lock a → Calls lock a p → Call lock p q → k ≤ 8 → SetsNone lock p q k ⊎ MayGrant p
