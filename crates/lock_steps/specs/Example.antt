-- That the calls can be made: a cluster of the nodes 0 and 1, of which node 0 is the lock's master, at its start; a list of calls
-- after which node 0 holds the lock exclusive; and one that goes on from there, through the stop of node 1, its fence, the next view, a rebuild
-- in which node 0 tells what it holds, and the recovery of node 1's slot, after which node 0 has let the lock go and holds it shared.
use Rattle.std.specs.Prelude.{◌≡◌, false, []}
use Rattle.glock_names.specs.declared.LockName.{LockName}
use Rattle.dlm_modes.specs.declared.Mode.TheVariants.{Ex, Pr}
use Rattle.fencing.specs.NodeSets.{has}
use Rattle.dlm_holder.specs.Holdings.{mode_in}
use Rattle.lock_steps.specs.Parts.{Parts}
use Rattle.lock_steps.specs.Laws.{Begins, Calls}

abbrev pub a_lock : LockName
a_lock = record { kind = 2; number = 24 }

abbrev pub two_nodes : Parts
two_nodes = record {
  membership = record { generation = 1; members = 3; fenced = 0; waiting = 0 };
  master = 0;
  table = record { members = 3; ended = 3; master = record { generation = 1; rebuild = false; waiting = 0; table = [] } };
  holders = λ k. [];
  post = record { mail = []; took = λ i k. []; sends = λ i k. [] };
  fresh = λ k. false;
  taken = λ k. has 3 k;
}

abbrev pub ListCanBeMade : Type 0
ListCanBeMade = (q : Parts) × (p : Parts) × Begins a_lock two_nodes
    × Calls a_lock two_nodes q × (mode_in (q.holders 0) a_lock ≡ Ex)
    × Calls a_lock q p × (p.membership ≡ record { generation = 2; members = 1; fenced = 2; waiting = 0 })
    × (p.table.master.rebuild ≡ false) × (mode_in (p.holders 0) a_lock ≡ Pr)
