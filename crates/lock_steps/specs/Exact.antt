-- What a table has of a node once all that is under way has come.
use Rattle.std.specs.Prelude.{ℕ, ◌≡◌, ◌≢◌, ◌≤◌, true, false, List, [], ◌∷◌, Option, None}
use Rattle.glock_names.specs.declared.LockName.{LockName}
use Rattle.dlm_modes.specs.declared.Mode.{Mode}
use Rattle.dlm_modes.specs.declared.Mode.TheVariants.{Nl}
use Rattle.dlm_modes.specs.declared.ValueBlock.{ValueBlock}
use Rattle.dlm_modes.specs.Modes.{is_at_least}
use Rattle.fencing.specs.NodeSets.{has}
use Rattle.mail_queues.specs.declared.Message.{Message}
use Rattle.mail_queues.specs.declared.Body.TheVariants.{Request, Down, Report, End}
use Rattle.dlm_holder.specs.Holdings.{mode_in, wanted_in}
use Rattle.dlm_master.specs.Tables.{held_by, waits_for}
use Rattle.lock_steps.specs.Parts.{Parts, now_says}
use Rattle.lock_steps.specs.Ties.{Tell, Reports, Ends, Lowers, Asks, sight}
use Rattle.lock_steps.specs.Laws.{Begins, Calls}

-- what the table, which has t now, has of a node after these messages of it: what it told last
abbrev pub told_last : List Tell → Mode → Mode
told_last [] t = t
told_last (Reports mode ∷ q) t = told_last q mode
told_last (Lowers mode ∷ q) t = told_last q mode
told_last (Ends ∷ q) t = told_last q t
told_last (Asks mode ∷ q) t = told_last q t

-- of a node that has taken the present view, and no ask of which stands, the table has in the end exactly what it holds
abbrev pub TablesAreExact : Type 0
TablesAreExact = (lock : LockName) (p q : Parts) (k : ℕ) → Begins lock p → Calls lock p q → k ≤ 8
    → has q.membership.members k ≡ true → q.fresh k ≡ false → q.taken k ≡ true → wanted_in (q.holders k) lock ≡ None
    → told_last ((sight lock q k).up) ((sight lock q k).table) ≡ mode_in (q.holders k) lock

-- so a call on a message meets its contract: who asks holds nothing by the table and waits for nothing
abbrev pub RequestsFindNothing : Type 0
RequestsFindNothing = (lock : LockName) (p q : Parts) (k : ℕ) (mode : Mode) (rest : List Message) → Begins lock p → Calls lock p q → k ≤ 8
    → q.post.took k q.master ≡ now_says q (Request lock mode) ∷ rest
    → (held_by q.table.master k lock ≡ None) × (waits_for q.table.master k lock ≡ false)

-- and who lowers the lock has at least that by the table and waits for nothing
abbrev pub LowersOnlyLower : Type 0
LowersOnlyLower = (lock : LockName) (p q : Parts) (k : ℕ) (mode : Mode) (value : Option (List ℕ)) (rest : List Message) → Begins lock p → Calls lock p q → k ≤ 8
    → q.post.took k q.master ≡ now_says q (Down lock mode value) ∷ rest
    → (is_at_least ((sight lock q k).table) mode ≡ true) × (waits_for q.table.master k lock ≡ false)

-- and who reports waits for nothing, and is heard while the rebuild isn't done
abbrev pub ReportsFindARebuild : Type 0
ReportsFindARebuild = (lock : LockName) (p q : Parts) (k : ℕ) (mode : Mode) (value : ValueBlock) (rest : List Message) → Begins lock p → Calls lock p q → k ≤ 8
    → q.post.took k q.master ≡ now_says q (Report lock mode value) ∷ rest
    → (q.table.master.rebuild ≡ true) × (waits_for q.table.master k lock ≡ false)

-- and so is who has told all
abbrev pub EndsFindARebuild : Type 0
EndsFindARebuild = (lock : LockName) (p q : Parts) (k : ℕ) (rest : List Message) → Begins lock p → Calls lock p q → k ≤ 8
    → q.post.took k q.master ≡ now_says q End ∷ rest → q.table.master.rebuild ≡ true

-- at a node too: of a member that holds the lock no ask stands, so that it may lower it
abbrev pub HoldersAskForNothing : Type 0
HoldersAskForNothing = (lock : LockName) (p q : Parts) (k : ℕ) → Begins lock p → Calls lock p q → k ≤ 8 → has q.membership.members k ≡ true
    → mode_in (q.holders k) lock ≢ Nl → wanted_in (q.holders k) lock ≡ None
