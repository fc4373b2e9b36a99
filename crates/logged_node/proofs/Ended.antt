-- A flush from its first step to its end: what it has come to, and how a node stops on the way.
use Rattle.std.proofs.Common.{◌≡◌, ◌≤◌, ◌<◌, ℕ, List, Option, None, Some, sym, subst, ◌∙◌, arith}
use Rattle.std.specs.Prelude.{IfSome}
use Rattle.log_values.specs.Log.{Flush}
use Rattle.logged_steps.proofs.Telling.{steps_go_on}
use Rattle.shared_disk.specs.Disk.{DiskState, Operation}
use Rattle.logged_node.specs.declared.ends.Stop.{Stop}
use Rattle.logged_node.specs.declared.ends.Stop.TheVariants as stop
use Rattle.logged_node.specs.declared.node.Node.{Node}
use Rattle.logged_node.specs.Ends.{HasCause}
use Rattle.logged_node.specs.Flushing.{GoesBySteps, HasComeTo, HasFlushed, IsFlushing, in_journal, under_way}
use Rattle.logged_node.specs.Nodes.{KeepsView, point_of}
use Rattle.logged_node.proofs.Blocks.{none_some}
use Rattle.logged_node.proofs.Disks.{same_on}

pub goes_behind : (d e f : DiskState) (l m k : Option (List Operation)) (a b c : Node) → GoesBySteps d l a e m b → GoesBySteps e m b f k c → GoesBySteps d l a f k c
goes_behind d e f l m k a b c x y = record { steps = λ time. steps_go_on time (point_of d l a) (point_of e m b) (point_of f k c) (x.steps time) (y.steps time); disk = same_on d e f x.disk y.disk; armed = y.armed ∙ x.armed }

-- it is under way where the log says so
pub still_under_way : (start : Node) (d : DiskState) (n : Node) → HasComeTo start d n → (n.log.flush ≡ None → ⊥) → (f : Flush) × IsFlushing start d n f
still_under_way start d n (under_way f at) some = (f, at)
still_under_way start d n (in_journal has) some = absurd (some has.resting.idle)

-- and in the journal where it says that none is
pub now_in_journal : (start : Node) (d : DiskState) (n : Node) → HasComeTo start d n → n.log.flush ≡ None → HasFlushed start d n
now_in_journal start d n (under_way f at) none = absurd (none_some (sym none ∙ at.is))
now_in_journal start d n (in_journal has) none = has

pub kept_come : (start : Node) (d : DiskState) (n : Node) → HasComeTo start d n → KeepsView start n
kept_come start d n (under_way f at) = at.kept
kept_come start d n (in_journal has) = has.kept

-- ---- causes

below_still : (count count' : ℕ) (block : Option ℕ) → count' ≡ count → IfSome block (λ b. b < count') → IfSome block (λ b. b < count)
below_still count count' None same low = tt
below_still count count' (Some b) same low = subst (λ (c : ℕ). b < c) same low

-- what is a cause later is one of all that was done
pub cause_of_all : (count count' : ℕ) (before mid now : ℕ → ℕ) (why : Stop) → count' ≡ count → before 1 ≤ mid 1 → HasCause count' mid now why → HasCause count before now why
cause_of_all count count' before mid now (stop.DiskFailed block rise) same later cause =
    (record { from = (let low = cause.0.from in omega (arith, later, low)); rose = cause.0.rose; to = cause.0.to }, below_still count count' block same cause.1)
cause_of_all count count' before mid now stop.Crashed same later cause = tt
cause_of_all count count' before mid now stop.NoMemory same later cause = tt
