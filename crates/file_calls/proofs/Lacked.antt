-- A lock that a call lacks isn't held so strongly.
use Rattle.std.proofs.Common.{◌≡◌, ℕ, List, false, ap, ◌∙◌}
use Rattle.std.specs.Prelude.{Result, Ok, Err}
use Rattle.drafts.specs.declared.attempt.Attempt.{Attempt}
use Rattle.drafts.specs.declared.attempt.Attempt.TheVariants as attempts
use Rattle.file_tree.specs.declared.call.Call.{Call}
use Rattle.file_tree.specs.declared.call.Call.TheVariants as calls
use Rattle.glock_names.specs.Views.{Seen}
use Rattle.glock_names.specs.declared.LockName.{LockName}
use Rattle.glock_names.specs.declared.State.{State}
use Rattle.glock_names.specs.declared.State.TheVariants.{Ex}
use Rattle.glock_names.specs.declared.steps.CallFault.{CallFault}
use Rattle.call_locks.specs.WantLaws.{path_of}
use Rattle.call_locks.specs.Wants.{wanted}
use Rattle.call_locks.specs.declared.want.Want.{Want}
use Rattle.image_model.specs.Flat.{Path}
use Rattle.read_calls.specs.Answers.{IfNeedLock}
use Rattle.read_calls.specs.Holds.{holds}
use Rattle.read_calls.specs.Walks.{IsLacked}
use Rattle.making_calls.specs.Making as making
use Rattle.move_calls.specs.Answering as moving
use Rattle.move_calls.specs.Carrying as carrying
use Rattle.move_calls.specs.MoveEnds as ends
use Rattle.move_calls.specs.PairWalks as pairs
use Rattle.move_calls.specs.PairWalks.{IsPairLacked}
use Rattle.removing_calls.specs.Removing as removing
use Rattle.writing_calls.specs.Writing as writing
use Rattle.file_calls.specs.Calls.{IsLackedFor}

abbrev IsNotHeld : Seen → LockName → State → Type 0
IsNotHeld v lock state = holds v (record { lock = lock; state = state }) ≡ false

walk_lacks : (v : Seen) (wants : List Want) (path : Path) (lock : LockName) (state : State) → IsLacked v wants path lock state → IsNotHeld v lock state
walk_lacks v wants path lock state is = ap (holds v) is.is ∙ is.lacks

make_lacks : (v : Seen) (call : Call) (node : ℕ) (lock : LockName) (state : State) → making.IsLackedFor v call node lock state → IsNotHeld v lock state
make_lacks v call node lock state (making.on_path is) = walk_lacks v (wanted call) (making.directory_path call) lock state is
make_lacks v call node lock state (making.of_block own need needs is lacks first) = lacks

remove_lacks : (v : Seen) (call : Call) (lock : LockName) (state : State) → removing.IsLackedFor v call lock state → IsNotHeld v lock state
remove_lacks v call lock state (removing.on_path s is) = walk_lacks v (wanted call) (path_of call false) lock s is
remove_lacks v call lock state (removing.of_group a blocks taken all is) = ap (λ (l : LockName). holds v (record { lock = l; state = Ex })) is.is ∙ is.lacks

write_lacks : (v : Seen) (call : Call) (node : ℕ) (lock : LockName) (state : State) → writing.IsLackedFor v call node lock state → IsNotHeld v lock state
write_lacks v call node lock state (writing.on_path is) = walk_lacks v (wanted call) (path_of call false) lock state is
write_lacks v call node lock state (writing.of_room a at new need own changes puts needs of_node lacks first) = lacks
write_lacks v call node lock state (writing.of_freed a size time freed fates changes cuts draft is exclusive) =
    ap (λ (s : State). holds v (record { lock = lock; state = s })) exclusive ∙ ap (λ (l : LockName). holds v (record { lock = l; state = Ex })) is.is ∙ is.lacks

pair_lacks : (v : Seen) (p q : Path) (first second : List Want) (lock : LockName) (state : State) → IsPairLacked v p q first second lock state → IsNotHeld v lock state
pair_lacks v p q first second _ _ (pairs.on_first i j a w passed is wanted goes lacks) = lacks
pair_lacks v p q first second _ _ (pairs.on_second i j a x passed is wanted goes lacks) = lacks
pair_lacks v p q first second _ _ (pairs.on_both i j a w x passed one other is also lacks) = lacks

move_lacks : (v : Seen) (call : Call) (node : ℕ) (lock : LockName) (state : State) → moving.IsLackedFor v call node lock state → IsNotHeld v lock state
move_lacks v call node lock state (moving.on_paths (ends.of_order some other is exclusive lacks)) =
    ap (λ (s : State). holds v (record { lock = lock; state = s })) exclusive ∙ ap (λ (l : LockName). holds v (record { lock = l; state = Ex })) is ∙ lacks
move_lacks v call node lock state (moving.on_paths (ends.on_paths begun is)) = pair_lacks v (ends.from_path call) (ends.to_path call) (ends.first_wants call) (ends.second_wants call) lock state is
move_lacks v call node lock state (moving.of_group m to (carrying.of_first need needs first exclusive)) =
    ap (λ (s : State). holds v (record { lock = lock; state = s })) exclusive ∙ ap (λ (l : LockName). holds v (record { lock = l; state = Ex })) first.lacks.is ∙ first.lacks.lacks
move_lacks v call node lock state (moving.of_group m to (carrying.of_room need counted lacks first)) = lacks

lacks_by : (v : Seen) (call : Call) (node : ℕ) (lock : LockName) (state : State) → IsLackedFor v call node lock state → IsNotHeld v lock state
lacks_by v (calls.Create path) node lock state is = make_lacks v (calls.Create path) node lock state is
lacks_by v (calls.Mkdir path) node lock state is = make_lacks v (calls.Mkdir path) node lock state is
lacks_by v (calls.Unlink path) node lock state is = remove_lacks v (calls.Unlink path) lock state is
lacks_by v (calls.Rmdir path) node lock state is = remove_lacks v (calls.Rmdir path) lock state is
lacks_by v (calls.Read path at count) node lock state is = walk_lacks v (wanted (calls.Read path at count)) path lock state is
lacks_by v (calls.Dread path at count) node lock state is = walk_lacks v (wanted (calls.Dread path at count)) path lock state is
lacks_by v (calls.Write path at new) node lock state is = write_lacks v (calls.Write path at new) node lock state is
lacks_by v (calls.Truncate path size) node lock state is = write_lacks v (calls.Truncate path size) node lock state is
lacks_by v (calls.Stat path) node lock state is = walk_lacks v (wanted (calls.Stat path)) path lock state is
lacks_by v (calls.List path) node lock state is = walk_lacks v (wanted (calls.List path)) path lock state is
lacks_by v (calls.Rename path to) node lock state is = move_lacks v (calls.Rename path to) node lock state is
lacks_by v calls.Sync node lock state is = walk_lacks v (wanted calls.Sync) (path_of calls.Sync false) lock state is

pub lacked_lacks : (v : Seen) (call : Call) (node : ℕ) (result : Result Attempt CallFault) → IfNeedLock result (IsLackedFor v call node) → IfNeedLock result (IsNotHeld v)
lacked_lacks v call node (Ok (attempts.NeedLock lock state)) is = lacks_by v call node lock state is
lacked_lacks v call node (Ok (attempts.Done r change)) is = is
lacked_lacks v call node (Ok (attempts.NeedBlock m)) is = is
lacked_lacks v call node (Ok (attempts.NoSpace need free)) is = is
lacked_lacks v call node (Ok attempts.NotBuilt) is = is
lacked_lacks v call node (Err fault) is = is
