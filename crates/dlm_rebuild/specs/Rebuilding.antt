-- A table of locks that is made anew.
use Rattle.std.specs.Prelude.{ℕ, ◌≡◌, ◌==◌, ◌%◌, ◌||◌, Bool, true, false, not, [], Option, None, length, slice_get, if◌then◌else◌}
use Rattle.std.specs.List.{list_all}
use Rattle.crc_words.specs.Remainder.{crc32_of}
use Rattle.glock_names.specs.declared.LockName.{LockName}
use Rattle.glock_names.specs.Names.{name_bytes}
use Rattle.dlm_modes.specs.declared.Mode.{Mode}
use Rattle.dlm_modes.specs.Modes.{not_valid}
use Rattle.fencing.specs.NodeSets.{has, with_node, nodes_of, all_nodes}
use Rattle.dlm_master.specs.declared.claims.Answer.{Answer}
use Rattle.dlm_master.specs.declared.claims.Answer.TheVariants.{Waiting}
use Rattle.dlm_master.specs.declared.claims.Cause.TheVariants.{Rebuild}
use Rattle.dlm_master.specs.Tables.{MasterState, lock_of, after_request, after_convert, after_down, after_report}

-- the members of the view, those that have told all that they hold, and what was told so far
pub record RebuildState : Type 0 where
  pub members : ℕ
  pub ended : ℕ
  pub master : MasterState

-- no lock's value is valid
abbrev pub NoneValid : MasterState → Type 0
NoneValid m = (lock : LockName) → (lock_of m lock).value ≡ not_valid

-- a rebuild that isn't done: what reports bring of values isn't kept
abbrev pub IsUnderWay : MasterState → Type 0
IsUnderWay m = (m.rebuild ≡ true) × NoneValid m

-- nobody has told anything, nor which slots wait, so that each counts as one that does
abbrev pub begun : ℕ → ℕ → RebuildState
begun generation members = record {
  members = members;
  ended = 0;
  master = record { generation = generation; rebuild = true; waiting = 65535; table = [] };
}

abbrev pub with_report : RebuildState → ℕ → LockName → Mode → RebuildState
with_report r node lock mode = record r { master = after_report r.master node lock mode }

abbrev pub with_end : RebuildState → ℕ → RebuildState
with_end r node = record r { ended = with_node r.ended node }

-- these slots wait from now on
abbrev pub with_waiting : RebuildState → ℕ → RebuildState
with_waiting r waiting = record r { master = record r.master { waiting = waiting } }

-- the answer to each who asks meanwhile: it waits for the rebuild
abbrev pub not_yet : Answer
not_yet = Waiting Rebuild

abbrev pub after_request_in : RebuildState → ℕ → LockName → Mode → RebuildState
after_request_in r node lock mode = record r { master = after_request r.master node lock mode }

abbrev pub after_convert_in : RebuildState → ℕ → LockName → Mode → RebuildState
after_convert_in r node lock mode = record r { master = after_convert r.master node lock mode }

abbrev pub after_down_in : RebuildState → ℕ → LockName → Mode → RebuildState
after_down_in r node lock mode = record r { master = after_down r.master node lock mode None }

-- every member has ended
abbrev pub is_done : RebuildState → Bool
is_done r = list_all (λ node. not (has r.members node) || has r.ended node) all_nodes

-- the table that was told, and of what keeps its master from granting only the slots that wait
abbrev pub master_after : RebuildState → MasterState
master_after r = record r.master { rebuild = false }

-- the member at the place of the name's CRC-32, modulo how many members there are, in rising order
abbrev pub master_for : ℕ → LockName → Option ℕ
master_for members lock =
    if length (nodes_of members) == 0 then None
    else slice_get (nodes_of members) (crc32_of (name_bytes lock) % length (nodes_of members))
