-- Which states the calls of a node want of one lock.
use Rattle.std.specs.Prelude.{Bool, false, not, ◌&&◌, ◌||◌}
use Rattle.glock_names.specs.declared.State.{State}
use Rattle.glock_names.specs.declared.State.TheVariants.{Un, Sh, Df, Ex}
use Rattle.glock_names.specs.StateOrder.{leq}
use Rattle.glock_machine.specs.declared.wants.Wants.{Wants}

-- a call wants it in this state
abbrev pub is_wanted : Wants → State → Bool
is_wanted w Un = false
is_wanted w Sh = w.shared
is_wanted w Df = w.deferred
is_wanted w Ex = w.exclusive

-- with this state among them, or without it
abbrev pub with_want : Wants → State → Bool → Wants
with_want w Un is = w
with_want w Sh is = record w { shared = is }
with_want w Df is = record w { deferred = is }
with_want w Ex is = record w { exclusive = is }

-- a call wants it in this state, and a lock that is held so doesn't serve it
abbrev pub is_unserved : State → Wants → State → Bool
is_unserved held w state = is_wanted w state && not (leq state held)

-- those that a lock that is held so doesn't serve
abbrev pub unserved : State → Wants → Wants
unserved held w = record { shared = is_unserved held w Sh; deferred = is_unserved held w Df; exclusive = is_unserved held w Ex }

abbrev pub any_unserved : State → Wants → Bool
any_unserved held w = is_unserved held w Sh || (is_unserved held w Df || is_unserved held w Ex)
