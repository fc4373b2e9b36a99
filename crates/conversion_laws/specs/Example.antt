-- That the calls can be made: a list after which the nodes 0 and 1 hold a lock in Pr, and node 0, its master, waits for Ex in a
-- conversion; and one that goes on from there, in which node 1 lowers the lock and node 0 is granted it.
use Rattle.std.specs.Prelude.{◌≡◌, ◌==◌, true, false, not, [], ◌∷◌, None, Some, replicate, if◌then◌else◌}
use Rattle.glock_names.specs.declared.LockName.{LockName}
use Rattle.dlm_modes.specs.declared.Mode.TheVariants.{Nl, Pr, Ex}
use Rattle.dlm_modes.specs.Modes.{not_valid}
use Rattle.fencing.specs.NodeSets.{has}
use Rattle.dlm_rebuild.specs.Rebuilding.{begun}
use Rattle.dlm_holder.specs.Holdings.{mode_in}
use Rattle.dlm_master.specs.Claims.{mode_of_node}
use Rattle.conversion_laws.specs.Parts.{LockParts, lock_in_table}
use Rattle.conversion_laws.specs.Calls.{Calls}
use Rattle.conversion_laws.specs.Laws.{Begins}

abbrev pub a_lock : LockName
a_lock = record { kind = 2; number = 24 }

abbrev pub all_new : LockParts
all_new = record {
  master = 0;
  table = record { generation = 1; rebuild = false; waiting = 0; table = [] };
  rebuilding = false;
  members = 0;
  ended = 0;
  holders = λ k. [];
  taken = λ k. true;
  post = record { mail = replicate 81 (record { messages = []; room = 0 }); took = λ i k. []; sends = λ i k. [] };
}

abbrev pub ListCanBeMade : Type 0
ListCanBeMade = (q : LockParts) × (p : LockParts) × Begins a_lock all_new
    × Calls a_lock all_new q × (mode_in (q.holders 0) a_lock ≡ Pr) × (mode_in (q.holders 1) a_lock ≡ Pr)
    × (mode_of_node (lock_in_table a_lock q).conversions 0 ≡ Some Ex)
    × Calls a_lock q p × (mode_in (p.holders 0) a_lock ≡ Ex) × (mode_in (p.holders 1) a_lock ≡ Nl)

-- and, in a view whose table is made anew, one after which node 1, which held the lock in Pr, waits for Ex in a conversion at a table
-- that isn't done; and one that goes on from there, in which both members have told all, and node 1 is granted it
abbrev pub next_view : LockParts
next_view = record {
  master = 0;
  table = (begun 2 3).master;
  rebuilding = true;
  members = 3;
  ended = 0;
  holders = λ k. if k == 1 then (a_lock, record { mode = Pr; wanted = None; value = not_valid }) ∷ [] else [];
  taken = λ k. not (has 3 k);
  post = record { mail = replicate 81 (record { messages = []; room = 0 }); took = λ i k. []; sends = λ i k. [] };
}

abbrev pub RebuildCanBeMade : Type 0
RebuildCanBeMade = (q : LockParts) × (p : LockParts) × Begins a_lock next_view
    × Calls a_lock next_view q × (q.rebuilding ≡ true) × (mode_of_node (lock_in_table a_lock q).conversions 1 ≡ Some Ex)
    × Calls a_lock q p × (p.rebuilding ≡ false) × (mode_in (p.holders 1) a_lock ≡ Ex)
