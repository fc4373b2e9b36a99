-- The calls of the lock manager's parts on one lock, each with what its contract says.
use Rattle.std.specs.Prelude.{ℕ, ◌≡◌, ◌≢◌, ◌≤◌, true, false, List, [], ◌∷◌, ◌++◌, Option, None, Some, fold, if◌then◌else◌}
use Rattle.std.specs.List.{AllByRecursion, filter_map}
use Rattle.glock_names.specs.declared.LockName.{LockName}
use Rattle.glock_names.specs.LockMaps.{with_lock}
use Rattle.glock_names.specs.States.{mode_for}
use Rattle.dlm_modes.specs.declared.Mode.{Mode}
use Rattle.dlm_modes.specs.declared.Mode.TheVariants.{Nl}
use Rattle.dlm_modes.specs.declared.ValueBlock.{ValueBlock}
use Rattle.dlm_modes.specs.Modes.{is_at_least}
use Rattle.fencing.specs.NodeSets.{has}
use Rattle.fencing.specs.Members.{stopped, fenced_too, recovered_too, admitted, in_next_view}
use Rattle.mail_queues.specs.declared.Message.{Message}
use Rattle.mail_queues.specs.declared.Body.TheVariants.{Request, Down, Grant, Report, End}
use Rattle.mail_queues.specs.State.{QueueState}
use Rattle.mail_queues.specs.Queues.{messages_of, IsQueueNow}
use Rattle.dlm_holder.specs.declared.Holding.{Holding}
use Rattle.dlm_holder.specs.Holdings.{Holdings, mode_in, wanted_in, asked_for, granted_to, lowered_to, ask_dropped}
use Rattle.dlm_master.specs.declared.claims.Answer.{Answer}
use Rattle.dlm_master.specs.declared.claims.Answer.TheVariants.{Granted, Waiting}
use Rattle.dlm_master.specs.LockState.{LockState}
use Rattle.dlm_master.specs.Locks.{answer_by}
use Rattle.dlm_master.specs.Tables.{held_by, waits_for, holds_above, request_waits, with_state, after_down, next_of, after_next}
use Rattle.dlm_rebuild.specs.Rebuilding.{begun, with_report, with_end, after_request_in, is_done, master_after, master_for}
use Rattle.lock_laws.specs.Lock.{State, at}
use Rattle.lock_steps.specs.Parts.{Parts, Post, now_says, at_pair, with_letters, with_left}
use Rattle.lock_steps.specs.Ties.{Reports, Ends, tells, grants, in_view, present, sight}

-- no node's slot waits
abbrev pub NoneWaits : Parts → Type 0
NoneWaits p = (k : ℕ) → k ≤ 8 → has p.membership.waiting k ≡ false

-- a master that isn't rebuilt any more has been told of every slot that waits
abbrev pub KnowsSlots : Parts → Type 0
KnowsSlots p = p.table.master.rebuild ≡ false → (k : ℕ) → k ≤ 8 → has p.membership.waiting k ≡ true → has p.table.master.waiting k ≡ true

-- ---- the mail

pub data MailCall (p : Post) : Post → Type 0 where
  -- `Mail::send`, `send_reserved`: the first node sends what it has in hand
  Sends : (from to : ℕ) (m : Message) (rest : List Message) (mail : List QueueState) → from ≤ 8 → to ≤ 8 → p.sends from to ≡ m ∷ rest
      → IsQueueNow p.mail mail from to (messages_of p.mail from to ++ m ∷ [])
      → MailCall p (record p { mail = mail; sends = at_pair p.sends from to rest })
  -- `Mail::receive`: the second has the message in hand
  Receives : (from to : ℕ) (m : Message) (mail : List QueueState) → from ≤ 8 → to ≤ 8 → messages_of p.mail from to ≡ m ∷ messages_of mail from to
      → IsQueueNow p.mail mail from to (messages_of mail from to)
      → MailCall p (record p { mail = mail; took = at_pair p.took from to (p.took from to ++ m ∷ []) })
  -- `Mail::reserve`, and a send for which there is no memory
  Keeps : (from to : ℕ) (mail : List QueueState) → IsQueueNow p.mail mail from to (messages_of p.mail from to) → from ≤ 8 → to ≤ 8
      → MailCall p (record p { mail = mail })
  -- what a node tells itself isn't mailed
  TellsItself : (k : ℕ) (m : Message) (rest : List Message) → k ≤ 8 → p.sends k k ≡ m ∷ rest → messages_of p.mail k k ≡ []
      → MailCall p (record p { took = at_pair p.took k k (p.took k k ++ m ∷ []); sends = at_pair p.sends k k rest })

-- ---- a node's holder

-- a member that has taken the present view, and whose slot doesn't wait
pub record Acts (p : Parts) (k : ℕ) : Type 0 where
  pub node : k ≤ 8
  pub member : has p.membership.members k ≡ true
  pub settled : p.fresh k ≡ false
  pub taken : p.taken k ≡ true
  pub runs : has p.membership.waiting k ≡ false

-- glocks never convert: a node asks only for a lock of which it holds nothing, and has one ask at a time
pub record AsksFromNothing (lock : LockName) (p : Parts) (k : ℕ) : Type 0 where
  pub nothing : mode_in (p.holders k) lock ≡ Nl
  pub idle : wanted_in (p.holders k) lock ≡ None

pub data HolderCall (lock : LockName) (p : Parts) : Parts → Type 0 where
  -- `Holder::asked`, in the mode of a glock's state
  Asks : (k : ℕ) (s : State) → Acts p k → AsksFromNothing lock p k
      → HolderCall lock p (record p {
        holders = at p.holders k (asked_for (p.holders k) lock (mode_for s));
        post = with_letters p.post k p.master (now_says p (Request lock (mode_for s)) ∷ []);
      })
  -- `Holder::granted`, while no slot waits
  IsGranted : (k : ℕ) (mode : Mode) (value : ValueBlock) (rest : List Message) → Acts p k → NoneWaits p → p.post.took p.master k ≡ now_says p (Grant lock mode value) ∷ rest
      → HolderCall lock p (record p { holders = at p.holders k (granted_to (p.holders k) lock mode value); post = with_left p.post p.master k rest })
  -- `Holder::down`
  Lowers : (k : ℕ) (s : State) (value : Option (List ℕ)) → Acts p k → is_at_least (mode_in (p.holders k) lock) (mode_for s) ≡ true → mode_in (p.holders k) lock ≢ Nl
      → wanted_in (p.holders k) lock ≡ None
      → HolderCall lock p (record p {
        holders = at p.holders k (lowered_to (p.holders k) lock (mode_for s));
        post = with_letters p.post k p.master (now_says p (Down lock (mode_for s) value) ∷ []);
      })
  -- a message is dropped that tells this lock's master nothing in the present view: one of an older view, of another lock, a
  -- callback; or a grant, which may always be dropped
  Drops : (from to : ℕ) (m : Message) (rest : List Message) → from ≤ 8 → to ≤ 8 → p.post.took from to ≡ m ∷ rest
      → (to ≡ p.master → in_view p.membership.generation (tells lock) m ≡ None)
      → HolderCall lock p (record p { post = with_left p.post from to rest })
  -- letters are written that say nothing of this lock, to its master or from it: of other locks, callbacks, and all that goes between
  -- other nodes
  Writes : (from to : ℕ) (letters : List Message) → from ≤ 8 → to ≤ 8 → AllByRecursion (λ m. m.generation ≤ p.membership.generation) letters
      → (to ≡ p.master → filter_map (in_view p.membership.generation (tells lock)) letters ≡ [])
      → (from ≡ p.master → filter_map (in_view p.membership.generation (grants lock)) letters ≡ [])
      → HolderCall lock p (record p { post = with_letters p.post from to letters })
  -- a call on another lock
  HoldsElsewhere : (k : ℕ) (other : LockName) (holding : Holding) → lock ≢ other
      → HolderCall lock p (record p { holders = at p.holders k (with_lock (p.holders k) other holding) })

-- ---- the lock's table, of a master or of a rebuild

-- the letter to a node that is granted the lock in this mode, with this value
abbrev pub grant_letter : Parts → LockName → Post → ℕ × Mode × ValueBlock → Post
grant_letter p lock post grant = with_letters post p.master grant.0 (now_says p (Grant lock grant.1 grant.2) ∷ [])

-- it goes to a node whose answer is a grant
abbrev pub reply : Parts → LockName → ℕ → Mode → Answer → Post → Post
reply p lock k mode (Granted value) post = grant_letter p lock post (k, mode, value)
reply p lock k mode (Waiting cause) post = post

-- of the value that the message of a lower gives a master keeps all, and a rebuild nothing
abbrev pub kept_value : Parts → Option (List ℕ) → Option (List ℕ)
kept_value p said = if p.table.master.rebuild then None else said

pub data TableCall (lock : LockName) (p : Parts) : Parts → Type 0 where
  -- `Rebuild::request`; and `Master::request`, of a master that knows which slots wait
  Requested : (k : ℕ) (mode : Mode) (rest : List Message) → k ≤ 8 → p.post.took k p.master ≡ now_says p (Request lock mode) ∷ rest
      → held_by p.table.master k lock ≡ None → waits_for p.table.master k lock ≡ false → KnowsSlots p
      → TableCall lock p (record p {
        table = after_request_in p.table k lock mode;
        post = reply p lock k mode (answer_by (request_waits p.table.master k lock mode) (present p lock)) (with_left p.post k p.master rest);
      })
  -- `Master::down`, `Rebuild::down`
  Lowered : (k : ℕ) (mode : Mode) (said : Option (List ℕ)) (rest : List Message) → k ≤ 8 → p.post.took k p.master ≡ now_says p (Down lock mode said) ∷ rest
      → holds_above (held_by p.table.master k lock) mode ≡ true → waits_for p.table.master k lock ≡ false
      → TableCall lock p (record p { table = record p.table { master = after_down p.table.master k lock mode (kept_value p said) }; post = with_left p.post k p.master rest })
  -- a node lowers the lock to what the table has of it already: nothing is called
  LoweredAlready : (k : ℕ) (mode : Mode) (said : Option (List ℕ)) (rest : List Message) → k ≤ 8 → p.post.took k p.master ≡ now_says p (Down lock mode said) ∷ rest
      → (sight lock p k).table ≡ mode
      → TableCall lock p (record p { post = with_left p.post k p.master rest })
  -- `Rebuild::report`
  Reported : (k : ℕ) (mode : Mode) (value : ValueBlock) (rest : List Message) → k ≤ 8 → p.post.took k p.master ≡ now_says p (Report lock mode value) ∷ rest
      → p.table.master.rebuild ≡ true → waits_for p.table.master k lock ≡ false
      → TableCall lock p (record p { table = with_report p.table k lock mode; post = with_left p.post k p.master rest })
  -- `Rebuild::end`
  Ended : (k : ℕ) (rest : List Message) → k ≤ 8 → p.post.took k p.master ≡ now_says p End ∷ rest
      → TableCall lock p (record p { table = with_end p.table k; post = with_left p.post k p.master rest })
  -- `Master::next_grants`, of a master that knows which slots wait, and a letter to each who is granted
  GrantsNext : KnowsSlots p → TableCall lock p (record p {
    table = record p.table { master = after_next p.table.master lock };
    post = fold (grant_letter p lock) p.post (next_of p.table.master lock);
  })
  -- `Rebuild::complete`
  Completes : is_done p.table ≡ true → TableCall lock p (record p { table = record p.table { master = master_after p.table } })
  -- `Rebuild::blocked`, `Master::blocked`. A master whose rebuild is done is told of slots alone
  Blocks : (waiting : ℕ) → TableCall lock p (record p { table = record p.table { master = record p.table.master { waiting = waiting } } })
  -- a call on another lock
  TableElsewhere : (other : LockName) (t : LockState) → lock ≢ other
      → TableCall lock p (record p { table = record p.table { master = with_state p.table.master other t } })

-- ---- members and views

-- a node's ask for the lock is over: by `Holder::drop_ask`, or there was none
pub data AskOver (lock : LockName) (h : Holdings) : Holdings → Type 0 where
  Dropped : AskOver lock h (ask_dropped h lock)
  NoAsk : wanted_in h lock ≡ None → AskOver lock h h

-- what a node tells the master when it takes a view: what it holds, where it holds any, and that this is all
pub data SaysAll (lock : LockName) (p : Parts) (k : ℕ) (letters : List Message) : Type 0 where
  TellsHeld : filter_map (in_view p.membership.generation (tells lock)) letters ≡ Reports (mode_in (p.holders k) lock) ∷ Ends ∷ [] → SaysAll lock p k letters
  TellsNone : mode_in (p.holders k) lock ≡ Nl → filter_map (in_view p.membership.generation (tells lock)) letters ≡ Ends ∷ [] → SaysAll lock p k letters

-- of a node that is no member nothing is left once its slot is recovered
abbrev pub left_of : Parts → ℕ → Holdings
left_of p k = if has p.membership.members k then p.holders k else []

pub data MemberCall (lock : LockName) (p : Parts) : Parts → Type 0 where
  -- `Membership::stop`. The lock's master is told later, in a call of its own
  Stops : (k : ℕ) → k ≤ 8 → MemberCall lock p (record p { membership = stopped p.membership k })
  -- `Membership::fence`
  Fences : (k : ℕ) → MemberCall lock p (record p { membership = fenced_too p.membership k })
  -- `Membership::recovered`
  IsRecovered : (k : ℕ) → k ≤ 8 → has p.membership.waiting k ≡ true → MemberCall lock p (record p { membership = recovered_too p.membership k; holders = at p.holders k (left_of p k) })
  -- `Membership::admit`, with a holder that has asked for nothing
  Joins : (k : ℕ) → k ≤ 8 → has p.membership.members k ≡ false
      → MemberCall lock p (record p { membership = admitted p.membership k; holders = at p.holders k []; fresh = at p.fresh k true })
  -- `Membership::change`: a new master, with a rebuild that has heard nobody
  Changes : (master : ℕ) → master ≤ 8 → master_for p.membership.members lock ≡ Some master
      → MemberCall lock p (record p {
        membership = in_next_view p.membership;
        master = master;
        table = begun (in_next_view p.membership).generation p.membership.members;
        fresh = λ k. false;
        taken = λ k. false;
      })
  -- a node takes the present view: its ask is over, and it tells what it holds
  TakesView : (k : ℕ) (h : Holdings) (letters : List Message) → AskOver lock (p.holders k) h → k ≤ 8 → has p.membership.members k ≡ true → has p.table.members k ≡ true → p.taken k ≡ false
      → AllByRecursion (λ m. m.generation ≤ p.membership.generation) letters → SaysAll lock p k letters
      → filter_map (in_view p.membership.generation (grants lock)) letters ≡ []
      → MemberCall lock p (record p {
        holders = at p.holders k h;
        post = with_letters p.post k p.master letters;
        taken = at p.taken k true;
      })
