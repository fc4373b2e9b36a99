-- The node's own run, as it failed or ended.
use Rattle.std.proofs.Common.{◌≡◌, ℕ, inl, inr, false, true, true≢false, List, [], length, ◌++◌, Option, None, Some, sym, ap, ◌∙◌, subst}
use Rattle.std.specs.Prelude.{slice_get}
use Rattle.std.specs.List.{AllByRecursion}
use Rattle.lone_scripts.specs.Runs.{Runs}
use Rattle.script_lang.specs.Script.{ScriptValue}
use Rattle.script_lang.specs.declared.script.Line.TheVariants as line
use Rattle.shared_disk.specs.Disk.{Gains, Operation}
use Rattle.whole_runs.specs.StepEnds.{EndsTo}
use Rattle.whole_runs.specs.Fails.{FailsTo}
use Rattle.whole_runs.specs.Points.{Point}
use Rattle.whole_runs.specs.Steps.{Steps}
use Rattle.whole_runs.proofs.LoggedRunsTelling.{append_assoc}
use Rattle.whole_runs.specs.Wholes.{ends_with}
use Rattle.logged_calls.proofs.Disks.{same_on}
use Rattle.logged_calls.proofs.Untold.{failed_tells}
use Rattle.trace_text.specs.declared.item.TraceItem.{TraceItem}
use Rattle.logged_scripts.specs.Runs.{GoesTo}
use Rattle.logged_scripts.proofs.Disks.{same_ending, same_failing, same_steps}
use Rattle.logged_scripts.proofs.Lists.{all_front}
use Rattle.logged_scripts.proofs.Untouched.{IsFresh, IsQuiet, still, still_clean, still_failing}

-- nothing is in flight, if the next line is a crash
abbrev pub RestsAtCrash : ScriptValue → ℕ → Point → Type 0
RestsAtCrash s count left = (nodes : ℕ) → slice_get s.lines count ≡ Some (line.Crash nodes) → left.disk.in_flight 1 ≡ []

-- it unmounts behind all lines alone
abbrev pub LeavesAtEnd : ScriptValue → ℕ → Point → Type 0
LeavesAtEnd s count last = last.unmounts ≡ true → count ≡ length s.lines

-- so does one that doesn't unmount
pub still_mounted : (s : ScriptValue) (count : ℕ) (last : Point) → last.unmounts ≡ false → LeavesAtEnd s count last
still_mounted s count last mounted unmounts = absurd (true≢false (sym unmounts ∙ mounted))

module _ (s : ScriptValue) (time : ℕ) (a : Point) (count : ℕ) (last left : Point) (fresh : IsFresh a) (steps : Steps time a last) (runs : Runs s count left.items) (leaves : LeavesAtEnd s count last)
    (rests : RestsAtCrash s count left) where
  -- where a write failed, or none did
  pub goes_failing : FailsTo time last left → GoesTo s time a count last left
  goes_failing fails = record {
    steps = steps;
    goes = inl fails;
    runs = runs;
    leaves = leaves;
    same = same_on a.disk last.disk left.disk (same_steps time a last steps) (same_failing time last left fails);
    untouched = λ quiet. still_failing a fresh time last left (still a fresh time last steps (subst (AllByRecursion IsQuiet) (failed_tells time last left fails) quiet)) fails quiet;
    rests = rests;
  }

  -- where it ended, with a journal that was written to
  pub goes_ending : (more : List TraceItem) → left.items ≡ last.items ++ more → last.log.clean ≡ false → last.unmounts ≡ true → (ends : EndsTo last left) → Gains last.list left.list (ends_with last left ends) → GoesTo s time a count last left
  goes_ending more are written unmounts ends gains = record {
    steps = steps;
    goes = inr (unmounts, ends, gains);
    runs = runs;
    leaves = leaves;
    same = same_on a.disk last.disk left.disk (same_steps time a last steps) (same_ending last left ends);
    untouched = λ quiet. absurd (true≢false (sym (still_clean a fresh last (still a fresh time last steps (all_front IsQuiet last.items more (subst (AllByRecursion IsQuiet) are quiet)))) ∙ written));
    rests = rests;
  }

-- ---- the list of operations

pub gains_both : (a b c : Option (List Operation)) (xs ys : List Operation) → Gains a b xs → Gains b c ys → Gains a c (xs ++ ys)
gains_both a b None xs ys first second = tt
gains_both None None (Some c) xs ys first second = absurd second
gains_both (Some a) None (Some c) xs ys first second = absurd second
gains_both None (Some b) (Some c) xs ys first second = absurd first
gains_both (Some a) (Some b) (Some c) xs ys first second = second ∙ ap (λ (zs : List Operation). zs ++ ys) first ∙ append_assoc a xs ys
