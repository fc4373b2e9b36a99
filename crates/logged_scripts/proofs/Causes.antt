-- The causes of a halt.
use Rattle.std.proofs.Common.{◌≡◌, ◌≤◌, ◌<◌, ℕ, List, Option, None, Some, subst, arith}
use Rattle.std.specs.Prelude.{IfSome}
use Rattle.logged_calls.specs.LoggedNodeEnds as node
use Rattle.logged_calls.specs.logged_node_ends.Stop.{Stop}
use Rattle.logged_calls.specs.logged_node_ends.Stop.TheVariants as stop
use Rattle.logged_calls.specs.Ends as calls
use Rattle.logged_calls.specs.declared.ends.CallEnd.{CallEnd}
use Rattle.logged_calls.specs.declared.ends.CallEnd.TheVariants as call_end
use Rattle.logged_scripts.specs.declared.halts.Halt.{Halt}
use Rattle.logged_scripts.specs.declared.halts.Halt.TheVariants as halt
use Rattle.logged_scripts.specs.Ends.{HasCause, IfEnded, halt_at, halt_of}
use Rattle.logged_scripts.proofs.Fenced.{cause_on}

below : (count count' : ℕ) (block : Option ℕ) → count' ≡ count → IfSome block (λ b. b < count') → IfSome block (λ b. b < count)
below count count' None same low = tt
below count count' (Some b) same low = subst (λ (c : ℕ). b < c) same low

pub cause_of_stop : (count count' : ℕ) (blocks : List ℕ) (before now : ℕ → ℕ) (why : Stop) → count' ≡ count → node.HasCause count' before now why → IfEnded (halt_of why) (HasCause count blocks before now)
cause_of_stop count count' blocks before now (stop.DiskFailed block rise) same cause = (cause.0, below count count' block same cause.1)
cause_of_stop count count' blocks before now stop.Crashed same cause = tt
cause_of_stop count count' blocks before now stop.NoMemory same cause = tt

pub cause_of_call : (count count' line : ℕ) (blocks : List ℕ) (before now : ℕ → ℕ) (end : CallEnd) → count' ≡ count → calls.HasCause count' before now end → IfEnded (halt_at line end) (HasCause count blocks before now)
cause_of_call count count' line blocks before now (call_end.Stopped why) same cause = cause_of_stop count count' blocks before now why same cause
cause_of_call count count' line blocks before now (call_end.ReadFailed block rise) same cause = (cause.0, subst (λ (c : ℕ). block < c) same cause.1)
cause_of_call count count' line blocks before now (call_end.Damaged block rule) same cause = tt
cause_of_call count count' line blocks before now call_end.NotBuilt same cause = tt
cause_of_call count count' line blocks before now call_end.LogTooSmall same cause = tt
cause_of_call count count' line blocks before now call_end.NotLoggable same cause = tt

-- since then no count fell
pub cause_since : (count : ℕ) (blocks : List ℕ) (before mid now : ℕ → ℕ) (h : Halt) → ((i : ℕ) → before i ≤ mid i) → IfEnded h (HasCause count blocks mid now) → IfEnded h (HasCause count blocks before now)
cause_since count blocks before mid now halt.Unmounted low cause = tt
cause_since count blocks before mid now halt.AtLine low cause = tt
cause_since count blocks before mid now halt.AtWrite low cause = tt
cause_since count blocks before mid now (halt.Ended e) low cause = cause_on count blocks before mid now now e low (λ i. omega arith) cause
