-- How a call ends: as it is answered, or why it isn't.
use Rattle.std.specs.Prelude.{ℕ, ⊤, ◌≡◌, ◌<◌, ◌≤◌, ◌==◌, if◌then◌else◌, None}
use Rattle.std.specs.FinMap.{get}
use Rattle.fault_counts.specs.declared.Rise.{Rise}
use Rattle.file_tree.specs.declared.call.Call.{Call}
use Rattle.file_tree.specs.declared.reply.Reply.{Reply}
use Rattle.gfs2_layout.specs.Device.{superblock_place}
use Rattle.glock_names.specs.Views.{Seen, HasBlock}
use Rattle.glock_names.specs.declared.steps.CallFault.{CallFault}
use Rattle.glock_names.specs.declared.steps.CallFault.TheVariants as fault
use Rattle.glock_names.specs.declared.steps.Missing.{Missing}
use Rattle.drafts.specs.declared.change.Change.{Change}
use Rattle.file_calls.specs.Calls.{IsDamage, IsNeededFor}
use Rattle.lone_view.specs.Seeing.{Lone, seen_alone}
use Rattle.lone_answers.specs.Answers.{IsAsked}
use Rattle.lone_answers.specs.declared.answers.Answered.{Answered}
use Rattle.lone_answers.specs.declared.answers.Answered.TheVariants.{Done, Full}
use Rattle.lone_answers.specs.declared.answers.Unanswered.{Unanswered}
use Rattle.lone_answers.specs.declared.answers.Unanswered.TheVariants as why

-- ---- which end

-- a fact of the reply and of what changes
abbrev pub IfDone : Answered → (Reply → Change → Type 0) → Type 0
IfDone (Done reply change) P = P reply change
IfDone (Full need free) P = ⊤

-- a fact of how many blocks are needed, and how many are free
abbrev pub IfFull : Answered → (ℕ → ℕ → Type 0) → Type 0
IfFull (Done reply change) P = ⊤
IfFull (Full need free) P = P need free

-- a fact where the disk failed, of the block and of the count's rise
abbrev pub IfFailed : Unanswered → (ℕ → Rise → Type 0) → Type 0
IfFailed (why.DiskFailed block rise) P = P block rise
IfFailed w P = ⊤

-- a fact of a block and the rule that it breaks
abbrev pub IfDamaged : Unanswered → (ℕ → ℕ → Type 0) → Type 0
IfDamaged (why.Damaged block rule) P = P block rule
IfDamaged w P = ⊤

-- a fact where the call isn't built
abbrev pub IfNotBuilt : Unanswered → Type 0 → Type 0
IfNotBuilt why.NotBuilt P = P
IfNotBuilt w P = ⊤

-- why a call isn't answered that has this fault
abbrev pub fault_at : CallFault → Unanswered
fault_at (fault.Damaged block rule) = why.Damaged block rule
fault_at fault.NoMemory = why.NoMemory

-- ---- their causes

-- a block of a disk of so many, without which the call isn't answered, and which isn't kept
pub record IsLackedBlock (n : Lone) (count : ℕ) (call : Call) (b : ℕ) : Type 0 where
  pub missing : Missing
  pub is : missing.block ≡ b
  pub needed : IsNeededFor (seen_alone n) call 1 missing
  pub asked : IsAsked n b missing.lock
  pub absent : get n.blocks b ≡ None
  pub inside : b < count

-- the block that has the number of a missing one: the superblock's has that of the root, which is asked for by itself
abbrev pub source_of : ℕ → Missing → ℕ
source_of size m = if m.from == m.block then superblock_place size else m.from

-- A block of the view breaks this rule, as far as it shows; or (2) the number of a block that the call needs, which stands in this block,
-- leads out of a device of so many blocks.
pub data IsDamagedFor (v : Seen) (count : ℕ) (call : Call) : ℕ → ℕ → Type 0 where
  as_shown : (b rule : ℕ) → HasBlock v b → IsDamage v call 1 rule b → IsDamagedFor v count call b rule
  leads_out : (m : Missing) → IsNeededFor v call 1 m → count ≤ m.block → IsDamagedFor v count call (source_of v.size m) 2
