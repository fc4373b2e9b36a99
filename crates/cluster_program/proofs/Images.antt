-- How mkfs ends, as the top call tells it.
use Rattle.std.proofs.Common.{◌≡◌, ℕ, ◌≤◌, true, List, refl, sym, ap, ◌∙◌, subst, arith}
use Rattle.profile_limits.specs.Limits.{most_blocks}
use Rattle.std.specs.Prelude.{Option, None, Some, Result, Ok, Err}
use Rattle.std.proofs.lemmas.Bool.Decides.{nat_tests}
use Rattle.shared_disk.specs.Disk.{DiskState, Operation}
use Rattle.command_words.specs.Limits.{IsMakeWithin}
use Rattle.command_words.specs.declared.command.MakeWords.{MakeWords}
use Rattle.mkgfs2_tool.specs.Making.{bad_option, is_between, plan_of, IsFaultOf}
use Rattle.mkgfs2_tool.specs.Outcomes.{Ending, IsRefused, IsTooSmall, IsTried, LacksMemory, HasFailed, HasMade, IsUntouched}
use Rattle.mkgfs2_tool.specs.declared.options.MakeOptions.{MakeOptions}
use Rattle.mkgfs2_tool.specs.declared.options.Opt.{Opt}
use Rattle.mkgfs2_tool.specs.declared.options.MakeFault.{MakeFault}
use Rattle.mkgfs2_tool.specs.declared.options.MakeFault.TheVariants as fault
use Rattle.cluster_program.specs.Course as course
use Rattle.cluster_program.specs.Course.{Makes, options_of}
use Rattle.cluster_program.specs.World.{inputs, KeepsScript}
use Rattle.run_reports.specs.declared.status.Status.{Status}
use Rattle.run_reports.specs.declared.status.Status.TheVariants as status
use Rattle.cluster_program.proofs.Made.{made_mountable}

-- the status that a result is told by; within the limits of the words no number is a bad option
abbrev pub status_of : Result (Unit {0}) MakeFault → Status
status_of (Ok t) = status.Done
status_of (Err (fault.TooSmall needed found)) = status.TooSmall needed found
status_of (Err (fault.DeviceFault block x y)) = status.DeviceFault 0 block x y
status_of (Err (fault.BadOption opt)) = status.NoMemory
status_of (Err fault.NoMemory) = status.NoMemory

between : (low high n : ℕ) → low ≤ n → n ≤ high → is_between low high n ≡ true
between low high n above below = grind (arith, nat_tests, above, below)

good : (w : MakeWords) → IsMakeWithin w → bad_option (options_of w) ≡ None
good w within =
    rw (between 1 8 w.journals within.journals.0 within.journals.1, between 512 65536 w.journal_blocks within.journal_blocks.0 within.journal_blocks.1, between 1 64 w.groups within.groups.0 within.groups.1) refl

module _ (w : MakeWords) (s s' : DiskState) (l l' : Option (List Operation)) (f f' : ℕ → ℕ) (within : IsMakeWithin w) where
  never_bad : (opt : Opt) → bad_option (options_of w) ≡ Some opt → ⊥
  never_bad opt bad = let both : None ≡ Some opt = sym (good w within) ∙ bad in cc

  pub is_never_bad : (r : Result (Unit {0}) MakeFault) (opt : Opt) → Ending (options_of w) s s' l l' f f' r → r ≡ Err (fault.BadOption opt) → ⊥
  is_never_bad r opt (IsRefused opt' bad untouched) is = never_bad opt' bad
  is_never_bad r opt (IsTooSmall needed fine lacks least untouched) is = let both : Err (fault.TooSmall needed s.count) ≡ Err (fault.BadOption opt) = is in cc
  is_never_bad r opt (IsTried r' fine room (LacksMemory untouched)) is = let both : Err fault.NoMemory ≡ Err (fault.BadOption opt) = is in cc
  is_never_bad r opt (IsTried r' fine room (HasFailed told cause begun)) is = let same : told ≡ fault.BadOption opt = cc in subst (IsFaultOf s.count f f') same cause
  is_never_bad r opt (IsTried r' fine room (HasMade made)) is = let both : Ok tt ≡ Err (fault.BadOption opt) = is in cc

  untouched_inputs : (left : Option (List ℕ)) (failed : ℕ) → IsUntouched s s' l l' f f' → inputs s' l' f' left failed ≡ inputs s l f left failed
  untouched_inputs left failed same =
      ap (λ t. inputs t l' f' left failed) same.state_is ∙ ap (λ list. inputs s list f' left failed) same.list_is ∙ ap (λ faults. inputs s l faults left failed) same.faults_are

  kept : (left : Option (List ℕ)) (failed : ℕ) → KeepsScript (inputs s l f left failed) (inputs s' l' f' left failed)
  kept left failed = record { left = refl; faults = refl }

  pub makes : (r : Result (Unit {0}) MakeFault) (left : Option (List ℕ)) (failed : ℕ) → s.count ≤ most_blocks → Ending (options_of w) s s' l l' f f' r
      → Makes w (inputs s l f left failed) (inputs s' l' f' left failed) (status_of r)
  makes r left failed few (IsRefused opt bad untouched) = absurd (never_bad opt bad)
  makes r left failed few (IsTooSmall needed fine lacks least untouched) = course.IsTooSmall needed few lacks least (untouched_inputs left failed untouched)
  makes r left failed few (IsTried r' fine room (LacksMemory untouched)) = course.LacksMemory few room (untouched_inputs left failed untouched)
  makes r left failed few (IsTried r' fine room (HasFailed (fault.DeviceFault block x y) cause begun)) = course.HasFailed block x y few room cause.0 cause.1 begun (kept left failed)
  makes r left failed few (IsTried r' fine room (HasFailed (fault.TooSmall needed found) cause begun)) = absurd cause
  makes r left failed few (IsTried r' fine room (HasFailed (fault.BadOption opt) cause begun)) = absurd cause
  makes r left failed few (IsTried r' fine room (HasFailed fault.NoMemory cause begun)) = absurd cause
  makes r left failed few (IsTried r' fine room (HasMade made)) = course.HasMade few room made (λ tells. made_mountable s' (plan_of s.size s.count (options_of w)) (made.rest.tells ∙ tells) (made.stands tells)) (kept left failed)

-- the same, of a result and options that are known by equations
pub makes_so : (w : MakeWords) (o : MakeOptions) (s s' : DiskState) (l l' : Option (List Operation)) (f f' : ℕ → ℕ) (r : Result (Unit {0}) MakeFault) (answer : Status) → IsMakeWithin w → o ≡ options_of w
    → s.count ≤ most_blocks → Ending o s s' l l' f f' r → status_of r ≡ answer → (left : Option (List ℕ)) (failed : ℕ) → Makes w (inputs s l f left failed) (inputs s' l' f' left failed) answer
makes_so w o s s' l l' f f' r answer within is few ending answer_is left failed =
    subst (Makes w (inputs s l f left failed) (inputs s' l' f' left failed)) answer_is
    (makes w s s' l l' f f' within r left failed few (subst (λ p. Ending p s s' l l' f f' r) is ending))

pub never_bad_so : (w : MakeWords) (o : MakeOptions) (s s' : DiskState) (l l' : Option (List Operation)) (f f' : ℕ → ℕ) (r : Result (Unit {0}) MakeFault) (opt : Opt) → IsMakeWithin w → o ≡ options_of w
    → Ending o s s' l l' f f' r → r ≡ Err (fault.BadOption opt) → ⊥
never_bad_so w o s s' l l' f f' r opt within is ending bad = is_never_bad w s s' l l' f f' within r opt (subst (λ p. Ending p s s' l l' f f' r) is ending) bad
