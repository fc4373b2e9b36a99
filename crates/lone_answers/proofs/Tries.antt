-- What a try of a call tells, as of node 1 with its view.
use Rattle.std.proofs.Common.{◌≡◌, ◌<◌, ℕ, List, false, None, Some, Ok, subst, arith}
use Rattle.std.specs.Prelude.{◌≢◌}
use Rattle.fault_counts.specs.declared.Rise.{Rise}
use Rattle.file_tree.specs.Apply.{TakesSpace}
use Rattle.file_tree.specs.Tree.{Tree}
use Rattle.file_tree.specs.declared.call.Call.{Call}
use Rattle.file_tree.specs.declared.call.Call.TheVariants as calls
use Rattle.file_tree.specs.declared.reply.Reply.{Reply}
use Rattle.file_tree.specs.declared.reply.Reply.TheVariants as replies
use Rattle.glock_names.specs.Views.{Seen, IsOfView}
use Rattle.glock_names.specs.Steps.{TellsOf}
use Rattle.glock_names.specs.declared.steps.CallFault.{CallFault}
use Rattle.glock_names.specs.declared.steps.CallFault.TheVariants as fault
use Rattle.glock_names.specs.declared.steps.Missing.{Missing}
use Rattle.drafts.specs.declared.attempt.Attempt.{Attempt}
use Rattle.drafts.specs.declared.attempt.Attempt.TheVariants as attempts
use Rattle.drafts.specs.declared.change.Change.{Change}
use Rattle.image_model.specs.Image.{Image}
use Rattle.image_model.specs.Owners.{Owners}
use Rattle.image_model.specs.Stands.{Layout}
use Rattle.image_changes.specs.Changes.{cover, is_free}
use Rattle.image_changes.specs.Does.{AreInside, Does, IsOf}
use Rattle.file_calls.specs.AnswerParts.{IfDone, IfNeedBlock, IfNoSpace}
use Rattle.file_calls.specs.Answers.{IsAnswered, IsFullFor, IsMadeIn}
use Rattle.file_calls.specs.Calls.{IsDamage, IsNeededFor, IsSoOfList, IsTooFew, IsUnderItsLocks}
use Rattle.file_calls.specs.Holds.{Hold, IsAskedFor}
use Rattle.lone_view.specs.Seeing.{Lone, seen_alone}
use Rattle.lone_answers.specs.Answers.{IsAsked, IsDoneBy, IsSpaceless}
use Rattle.lone_answers.specs.Faults as faults
use Rattle.lone_answers.specs.Faults.{IsDamagedFor, as_shown, fault_at}
use Rattle.lone_answers.specs.declared.answers.Unanswered.{Unanswered}
use Rattle.lone_answers.specs.declared.answers.Unanswered.TheVariants as why

-- ---- one fact of an end for another

pub failed_so : (w : Unanswered) (P Q : ℕ → Rise → Type 0) → ((b : ℕ) (rise : Rise) → P b rise → Q b rise) → faults.IfFailed w P → faults.IfFailed w Q
failed_so (why.DiskFailed block rise) P Q f is = f block rise is
failed_so (why.Damaged block rule) P Q f is = tt
failed_so why.NotBuilt P Q f is = tt
failed_so why.NoMemory P Q f is = tt

pub damaged_so : (w : Unanswered) (P Q : ℕ → ℕ → Type 0) → ((b rule : ℕ) → P b rule → Q b rule) → faults.IfDamaged w P → faults.IfDamaged w Q
damaged_so (why.DiskFailed block rise) P Q f is = tt
damaged_so (why.Damaged block rule) P Q f is = f block rule is
damaged_so why.NotBuilt P Q f is = tt
damaged_so why.NoMemory P Q f is = tt

pub unbuilt_so : (w : Unanswered) {P Q : Type 0} → (P → Q) → faults.IfNotBuilt w P → faults.IfNotBuilt w Q
unbuilt_so (why.DiskFailed block rise) f is = tt
unbuilt_so (why.Damaged block rule) f is = tt
unbuilt_so why.NotBuilt f is = f is
unbuilt_so why.NoMemory f is = tt

-- ---- the answers

module _ (view : Lone) (call : Call) (node time : ℕ) (one : node ≡ 1) where
  abbrev v : Seen
  v = seen_alone view

  -- a call is answered by this change
  pub is_done : (a : Attempt) (r : Reply) (change : Change) → a ≡ attempts.Done r change → IfDone (Ok a) (Does v call) → IfDone (Ok a) (λ reply change. AreInside v change)
      → ((im : Image) (o : Owners) (l : Layout) (t : Tree) → IsOf v im o l t → IfDone (Ok a) (λ reply change. IsUnderItsLocks v im o l t call node change))
      → IfDone (Ok a) (λ reply change. reply ≢ replies.NoSpace) → IfDone (Ok a) (IsAnswered seen_alone view call node time)
      → ((im : Image) (o : Owners) (l : Layout) (t : Tree) → IsOf v im o l t → IfDone (Ok a) (IsMadeIn im o l call node time)) → IsDoneBy view time call r change
  is_done a r change is does inside under spaced answered made = record {
    does = subst (λ x. IfDone (Ok x) (Does v call)) is does;
    inside = subst (λ x. IfDone (Ok x) (λ reply change. AreInside v change)) is inside;
    under = λ im o l t of. subst (λ k. IsUnderItsLocks v im o l t call k change) one (subst (λ x. IfDone (Ok x) (λ reply change. IsUnderItsLocks v im o l t call node change)) is (under im o l t of));
    spaced = subst (λ x. IfDone (Ok x) (λ reply change. reply ≢ replies.NoSpace)) is spaced;
    answered = subst (λ k. IsAnswered seen_alone view call k time r change) one (subst (λ x. IfDone (Ok x) (IsAnswered seen_alone view call node time)) is answered);
    made = λ im o l t of. subst (λ k. IsMadeIn im o l call k time r change) one (subst (λ x. IfDone (Ok x) (IsMadeIn im o l call node time)) is (made im o l t of));
  }

  -- too few blocks are free for it
  pub is_spaceless : (a : Attempt) (need free : ℕ) → a ≡ attempts.NoSpace need free → IfNoSpace (Ok a) (λ need free. TakesSpace call) → IfNoSpace (Ok a) (λ need free. free < need)
      → IfNoSpace (Ok a) (IsFullFor v call node) → ((im : Image) (o : Owners) (l : Layout) (t : Tree) → IsOf v im o l t → IfNoSpace (Ok a) (IsTooFew v im o l t call)) → IsSpaceless view call need free
  is_spaceless a need free is takes fewer shown few = record {
    takes = subst (λ x. IfNoSpace (Ok x) (λ need free. TakesSpace call)) is takes;
    fewer = subst (λ x. IfNoSpace (Ok x) (λ need free. free < need)) is fewer;
    shown = subst (λ k. IsFullFor v call k need free) one (subst (λ x. IfNoSpace (Ok x) (IsFullFor v call node)) is shown);
    few = λ im o l t of. subst (λ x. IfNoSpace (Ok x) (IsTooFew v im o l t call)) is (few im o l t of);
  }

  -- ---- a block that is asked for

  pub is_needed : (a : Attempt) (m : Missing) → a ≡ attempts.NeedBlock m → IfNeedBlock (Ok a) (IsNeededFor v call node) → IsNeededFor v call 1 m
  is_needed a m is needed = subst (λ k. IsNeededFor v call k m) one (subst (λ x. IfNeedBlock (Ok x) (IsNeededFor v call node)) is needed)

  pub is_absent : (a : Attempt) (m : Missing) → a ≡ attempts.NeedBlock m → IfNeedBlock (Ok a) (λ n. v.block_at n.block ≡ None) → v.block_at m.block ≡ None
  is_absent a m is absent = subst (λ x. IfNeedBlock (Ok x) (λ n. v.block_at n.block ≡ None)) is absent

  -- what holds by each list of locks holds of a call that moves a name
  by_list : {A : Type 0} (x y : A) (p q : List (List ℕ)) (im : Image) (o : Owners) (l : Layout) (t : Tree) (P : List Hold → Type 0) → ((list : List Hold) → P list → x ≡ y)
      → IsSoOfList im o l t (calls.Rename p q) node P → x ≡ y
  by_list x y p q im o l t P so is = grind (arith, so)

  -- whatever list of locks covers it, in each image it is under this lock, and not free
  covered : (c : Call) (m : Missing) (im : Image) (o : Owners) (l : Layout) (t : Tree) → IsSoOfList im o l t c node (λ list. IsAskedFor v im o l list m)
      → (cover l m.block (o m.block) ≡ Some m.lock) × (is_free (o m.block) ≡ false)
  covered (calls.Rename p q) m im o l t so = (
    by_list (cover l m.block (o m.block)) (Some m.lock) p q im o l t (λ list. IsAskedFor v im o l list m) (λ list asked. asked.covered) so,
    by_list (is_free (o m.block)) false p q im o l t (λ list. IsAskedFor v im o l list m) (λ list asked. asked.used) so,
  )
  covered (calls.Create path) m im o l t so = (so.2.covered, so.2.used)
  covered (calls.Mkdir path) m im o l t so = (so.2.covered, so.2.used)
  covered (calls.Unlink path) m im o l t so = (so.2.covered, so.2.used)
  covered (calls.Rmdir path) m im o l t so = (so.2.covered, so.2.used)
  covered (calls.Write path place new) m im o l t so = (so.2.covered, so.2.used)
  covered (calls.Truncate path size) m im o l t so = (so.2.covered, so.2.used)
  covered (calls.Read path place count) m im o l t so = (so.2.covered, so.2.used)
  covered (calls.Dread path place count) m im o l t so = (so.2.covered, so.2.used)
  covered (calls.Stat path) m im o l t so = (so.2.covered, so.2.used)
  covered (calls.List path) m im o l t so = (so.2.covered, so.2.used)
  covered calls.Sync m im o l t so = (so.2.covered, so.2.used)

  pub is_asked : (a : Attempt) (m : Missing) → a ≡ attempts.NeedBlock m
      → ((im : Image) (o : Owners) (l : Layout) (t : Tree) → IsOf v im o l t → IfNeedBlock (Ok a) (λ n. IsSoOfList im o l t call node (λ list. IsAskedFor v im o l list n))) → IsAsked view m.block m.lock
  is_asked a m is asked im o l t of = covered call m im o l t (subst (λ x. IfNeedBlock (Ok x) (λ n. IsSoOfList im o l t call node (λ list. IsAskedFor v im o l list n))) is (asked im o l t of))

  -- ---- a fault

  -- it is damage as the view shows it
  pub shown_damage : (count : ℕ) (f : CallFault) → TellsOf (IsOfView v) f → TellsOf (IsDamage v call node) f → faults.IfDamaged (fault_at f) (IsDamagedFor v count call)
  shown_damage count (fault.Damaged block rule) has is = as_shown block rule has (subst (λ k. IsDamage v call k rule block) one is)
  shown_damage count fault.NoMemory has is = tt
