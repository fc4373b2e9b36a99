-- What a node holds: a finite map from the locks that it has asked for, in the order in which it first asked for each.
use Rattle.std.specs.Prelude.{Bool, List, Option, None, Some, is_some, unwrap_or}
use Rattle.glock_names.specs.declared.LockName.{LockName}
use Rattle.glock_names.specs.LockMaps.{at_lock, with_lock}
use Rattle.dlm_modes.specs.declared.Mode.{Mode}
use Rattle.dlm_modes.specs.declared.Mode.TheVariants.{Nl}
use Rattle.dlm_modes.specs.declared.ValueBlock.{ValueBlock}
use Rattle.dlm_modes.specs.Modes.{not_valid}
use Rattle.dlm_holder.specs.declared.Holding.{Holding}

abbrev pub Holdings : Type 0
Holdings = List (LockName × Holding)

-- whether the node has asked for the lock
abbrev pub knows : Holdings → LockName → Bool
knows h lock = is_some (at_lock h lock)

-- what a node has of a lock for which it never asked
abbrev pub nothing : Holding
nothing = record { mode = Nl; wanted = None; value = not_valid }

abbrev pub holding_of : Holdings → LockName → Holding
holding_of h lock = unwrap_or (at_lock h lock) nothing

abbrev pub mode_in : Holdings → LockName → Mode
mode_in h lock = (holding_of h lock).mode

abbrev pub wanted_in : Holdings → LockName → Option Mode
wanted_in h lock = (holding_of h lock).wanted

abbrev pub value_in : Holdings → LockName → ValueBlock
value_in h lock = (holding_of h lock).value

-- the node asks for the lock in this mode, and holds what it held
abbrev pub asked_for : Holdings → LockName → Mode → Holdings
asked_for h lock mode = with_lock h lock (record (holding_of h lock) { wanted = Some mode })

-- the ask is over: the node holds the lock in this mode, with this value
abbrev pub granted_to : Holdings → LockName → Mode → ValueBlock → Holdings
granted_to h lock mode value = with_lock h lock (record { mode = mode; wanted = None; value = value })

-- the node holds the lock in this mode only
abbrev pub lowered_to : Holdings → LockName → Mode → Holdings
lowered_to h lock mode = with_lock h lock (record (holding_of h lock) { mode = mode })

-- the ask is over without a grant
abbrev pub ask_dropped : Holdings → LockName → Holdings
ask_dropped h lock = with_lock h lock (record (holding_of h lock) { wanted = None })
