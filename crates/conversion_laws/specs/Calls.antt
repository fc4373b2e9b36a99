-- The calls on one lock in one view, each with the definition that its contract cites.
use Rattle.std.specs.Prelude.{ℕ, ◌≡◌, ◌≢◌, ◌≤◌, ⊤, true, false, Bool, List, [], ◌∷◌, Option, None, fold, if◌then◌else◌}
use Rattle.std.specs.List.{AllByRecursion, filter_map}
use Rattle.glock_names.specs.declared.LockName.{LockName}
use Rattle.glock_names.specs.LockMaps.{with_lock}
use Rattle.dlm_modes.specs.declared.Mode.{Mode}
use Rattle.dlm_modes.specs.declared.Mode.TheVariants.{Nl}
use Rattle.dlm_modes.specs.declared.ValueBlock.{ValueBlock}
use Rattle.dlm_modes.specs.Modes.{is_at_least}
use Rattle.mail_queues.specs.declared.Message.{Message}
use Rattle.mail_queues.specs.declared.Body.{Body}
use Rattle.mail_queues.specs.declared.Body.TheVariants.{Request, Convert, Down, Grant, Report, End}
use Rattle.dlm_holder.specs.declared.Holding.{Holding}
use Rattle.dlm_holder.specs.Holdings.{Holdings, knows, mode_in, wanted_in, asked_for, granted_to, lowered_to}
use Rattle.dlm_master.specs.declared.claims.Answer.{Answer}
use Rattle.dlm_master.specs.declared.claims.Answer.TheVariants.{Granted, Waiting}
use Rattle.dlm_master.specs.LockState.{LockState}
use Rattle.dlm_master.specs.Locks.{answer_by}
use Rattle.dlm_master.specs.Tables.{held_by, holds_above, request_waits, convert_waits, with_state, after_request, after_convert, after_down, after_report, next_of, after_next}
use Rattle.dlm_rebuild.specs.Rebuilding.{with_end, is_done, master_after}
use Rattle.lock_laws.specs.Lock.{at}
use Rattle.lock_steps.specs.Parts.{Post, with_letters, with_left}
use Rattle.lock_steps.specs.Ties.{in_view, grants}
use Rattle.lock_steps.specs.Calls.{MailCall, AskOver}
use Rattle.conversion_laws.specs.Parts.{LockParts, rebuild_of, now_says, Reports, Ends, tell_of, lock_in_table, table_mode}

-- ---- a node. Its asks and lowers have conditions on its own holder alone, and on whether it has taken the view; what is dropped and
-- written besides makes no call at the master and is no grant of it

-- the node has this now, and writes this to the lock's master
abbrev pub tells : LockParts → ℕ → Holdings → Body → LockParts
tells p k h body = record p { holders = at p.holders k h; post = with_letters p.post k p.master (now_says p body ∷ []) }

-- what a node tells the master when it takes a view: what it holds, where it holds any, and that this is all
pub data SaysAll (lock : LockName) (p : LockParts) (k : ℕ) (letters : List Message) : Type 0 where
  TellsHeld : filter_map (in_view p.table.generation (tell_of lock)) letters ≡ Reports (mode_in (p.holders k) lock) ∷ Ends ∷ [] → SaysAll lock p k letters
  TellsNone : mode_in (p.holders k) lock ≡ Nl → filter_map (in_view p.table.generation (tell_of lock)) letters ≡ Ends ∷ [] → SaysAll lock p k letters

pub data NodeCall (lock : LockName) (p : LockParts) : LockParts → Type 0 where
  -- `Holder::asked`: a node that holds nothing of the lock, and has no other ask for it, requests it
  Asks : (k : ℕ) (mode : Mode) → k ≤ 8 → p.taken k ≡ true → mode_in (p.holders k) lock ≡ Nl → wanted_in (p.holders k) lock ≡ None
      → NodeCall lock p (tells p k (asked_for (p.holders k) lock mode) (Request lock mode))
  -- `Holder::asked`: a node that holds the lock asks for a mode that covers what it holds, in a conversion
  Raises : (k : ℕ) (mode : Mode) → k ≤ 8 → p.taken k ≡ true → mode_in (p.holders k) lock ≢ Nl → is_at_least mode (mode_in (p.holders k) lock) ≡ true → wanted_in (p.holders k) lock ≡ None
      → NodeCall lock p (tells p k (asked_for (p.holders k) lock mode) (Convert lock mode))
  -- `Holder::down`: a node of which no ask stands lowers it
  Lowers : (k : ℕ) (mode : Mode) (value : Option (List ℕ)) → k ≤ 8 → p.taken k ≡ true → knows (p.holders k) lock ≡ true → is_at_least (mode_in (p.holders k) lock) mode ≡ true → wanted_in (p.holders k) lock ≡ None
      → NodeCall lock p (tells p k (lowered_to (p.holders k) lock mode) (Down lock mode value))
  -- `Holder::down`: one that hasn't taken the view lowers it. What it writes is of an older view
  LowersBefore : (k : ℕ) (mode : Mode) → k ≤ 8 → p.taken k ≡ false → is_at_least (mode_in (p.holders k) lock) mode ≡ true
      → NodeCall lock p (record p { holders = at p.holders k (lowered_to (p.holders k) lock mode) })
  -- a node takes the view: its ask is over (`Holder::drop_ask`), and it tells what it holds
  TakesView : (k : ℕ) (h : Holdings) (letters : List Message) → AskOver lock (p.holders k) h → k ≤ 8 → p.taken k ≡ false
      → AllByRecursion (λ m. m.generation ≤ p.table.generation) letters → SaysAll lock p k letters
      → filter_map (in_view p.table.generation (grants lock)) letters ≡ []
      → NodeCall lock p (record p { holders = at p.holders k h; taken = at p.taken k true; post = with_letters p.post k p.master letters })
  -- `Holder::granted`
  IsGranted : (k : ℕ) (mode : Mode) (value : ValueBlock) (rest : List Message) → k ≤ 8 → p.post.took p.master k ≡ now_says p (Grant lock mode value) ∷ rest
      → NodeCall lock p (record p { holders = at p.holders k (granted_to (p.holders k) lock mode value); post = with_left p.post p.master k rest })
  -- a grant is dropped
  DropsGrant : (k : ℕ) (mode : Mode) (value : ValueBlock) (rest : List Message) → k ≤ 8 → p.post.took p.master k ≡ now_says p (Grant lock mode value) ∷ rest
      → NodeCall lock p (record p { post = with_left p.post p.master k rest })
  -- a message is dropped that makes no call at the lock's master and is no grant of it: one of another view or lock, or a callback
  Drops : (from to : ℕ) (m : Message) (rest : List Message) → from ≤ 8 → to ≤ 8 → p.post.took from to ≡ m ∷ rest
      → (to ≡ p.master → in_view p.table.generation (tell_of lock) m ≡ None)
      → (from ≡ p.master → in_view p.table.generation (grants lock) m ≡ None)
      → NodeCall lock p (record p { post = with_left p.post from to rest })
  -- letters are written that say nothing of this lock, to its master or from it: of other locks, callbacks, and all that goes between
  -- other nodes
  Writes : (from to : ℕ) (letters : List Message) → from ≤ 8 → to ≤ 8 → AllByRecursion (λ m. m.generation ≤ p.table.generation) letters
      → (to ≡ p.master → filter_map (in_view p.table.generation (tell_of lock)) letters ≡ [])
      → (from ≡ p.master → filter_map (in_view p.table.generation (grants lock)) letters ≡ [])
      → NodeCall lock p (record p { post = with_letters p.post from to letters })
  -- a call on another lock
  HoldsElsewhere : (k : ℕ) (other : LockName) (holding : Holding) → lock ≢ other
      → NodeCall lock p (record p { holders = at p.holders k (with_lock (p.holders k) other holding) })

-- ---- the lock's master

-- the letter to a node that is granted the lock in this mode, with this value
abbrev pub grant_letter : LockParts → LockName → Post → ℕ × Mode × ValueBlock → Post
grant_letter p lock post grant = with_letters post p.master grant.0 (now_says p (Grant lock grant.1 grant.2) ∷ [])

-- it goes to a node whose answer is a grant
abbrev pub reply : LockParts → LockName → ℕ → Mode → Answer → Post → Post
reply p lock k mode (Granted value) post = grant_letter p lock post (k, mode, value)
reply p lock k mode (Waiting cause) post = post

-- of the value that the message of a lower gives a master keeps all, and a rebuild nothing
abbrev pub kept_value : LockParts → Option (List ℕ) → Option (List ℕ)
kept_value p said = if p.rebuilding then None else said

-- on a message in hand. That it meets what the call requires is a law: `MeetCalls`
pub data MasterCall (lock : LockName) (p : LockParts) : LockParts → Type 0 where
  -- `Master::request`, `Rebuild::request`
  Requested : (k : ℕ) (mode : Mode) (rest : List Message) → k ≤ 8 → p.post.took k p.master ≡ now_says p (Request lock mode) ∷ rest
      → MasterCall lock p (record p {
        table = after_request p.table k lock mode;
        post = reply p lock k mode (answer_by (request_waits p.table k lock mode) (lock_in_table lock p)) (with_left p.post k p.master rest);
      })
  -- `Master::convert`, `Rebuild::convert`
  Converted : (k : ℕ) (mode : Mode) (rest : List Message) → k ≤ 8 → p.post.took k p.master ≡ now_says p (Convert lock mode) ∷ rest
      → MasterCall lock p (record p {
        table = after_convert p.table k lock mode;
        post = reply p lock k mode (answer_by (convert_waits p.table k lock mode) (lock_in_table lock p)) (with_left p.post k p.master rest);
      })
  -- `Master::down`, `Rebuild::down`
  Lowered : (k : ℕ) (mode : Mode) (value : Option (List ℕ)) (rest : List Message) → k ≤ 8 → p.post.took k p.master ≡ now_says p (Down lock mode value) ∷ rest
      → holds_above (held_by p.table k lock) mode ≡ true
      → MasterCall lock p (record p { table = after_down p.table k lock mode (kept_value p value); post = with_left p.post k p.master rest })
  -- a node lowers the lock to what the table has of it already: nothing is called
  LoweredAlready : (k : ℕ) (mode : Mode) (value : Option (List ℕ)) (rest : List Message) → k ≤ 8 → p.post.took k p.master ≡ now_says p (Down lock mode value) ∷ rest
      → table_mode lock p k ≡ mode
      → MasterCall lock p (record p { post = with_left p.post k p.master rest })
  -- `Rebuild::report`
  Reported : (k : ℕ) (mode : Mode) (value : ValueBlock) (rest : List Message) → k ≤ 8 → p.post.took k p.master ≡ now_says p (Report lock mode value) ∷ rest → p.rebuilding ≡ true
      → MasterCall lock p (record p { table = after_report p.table k lock mode; post = with_left p.post k p.master rest })
  -- `Rebuild::end`
  Ended : (k : ℕ) (rest : List Message) → k ≤ 8 → p.post.took k p.master ≡ now_says p End ∷ rest → p.rebuilding ≡ true
      → MasterCall lock p (record p { ended = (with_end (rebuild_of p) k).ended; post = with_left p.post k p.master rest })
  -- `Rebuild::complete`
  Completes : p.rebuilding ≡ true → is_done (rebuild_of p) ≡ true → MasterCall lock p (record p { table = master_after (rebuild_of p); rebuilding = false })
  -- `Master::next_grants`, and a letter to each who is granted. A rebuild grants nothing
  GrantsNext : MasterCall lock p (record p {
    table = after_next p.table lock;
    post = fold (grant_letter p lock) p.post (next_of p.table lock);
  })
  -- `Master::blocked`; and `Rebuild::blocked`, whose rebuild stays undone
  Blocks : (rebuild : Bool) (waiting : ℕ) → (p.rebuilding ≡ true → rebuild ≡ true) → MasterCall lock p (record p { table = record p.table { rebuild = rebuild; waiting = waiting } })
  -- a call on another lock
  TableElsewhere : (other : LockName) (t : LockState) → lock ≢ other → MasterCall lock p (record p { table = with_state p.table other t })

-- ---- lists of calls

pub data Call (lock : LockName) (p : LockParts) : LockParts → Type 0 where
  OfMail : (post : Post) → MailCall p.post post → Call lock p (record p { post = post })
  OfNode : (q : LockParts) → NodeCall lock p q → Call lock p q
  OfMaster : (q : LockParts) → MasterCall lock p q → Call lock p q

pub data Calls (lock : LockName) (p : LockParts) : LockParts → Type 0 where
  NoCall : Calls lock p p
  AndCall : (q r : LockParts) → Calls lock p q → Call lock q r → Calls lock p r

-- no grant is dropped: by this call of a node, by this call, by these calls
abbrev pub NodeDropsNone : (lock : LockName) (p q : LockParts) → NodeCall lock p q → Type 0
NodeDropsNone lock p _ (DropsGrant k mode value rest small hand) = ⊥
NodeDropsNone lock p _ call = ⊤

abbrev pub CallDropsNone : (lock : LockName) (p q : LockParts) → Call lock p q → Type 0
CallDropsNone lock p _ (OfNode q call) = NodeDropsNone lock p q call
CallDropsNone lock p _ call = ⊤

abbrev pub DropNone : (lock : LockName) (p q : LockParts) → Calls lock p q → Type 0
DropNone lock p _ NoCall = ⊤
DropNone lock p _ (AndCall q r before call) = DropNone lock p q before × CallDropsNone lock q r call
