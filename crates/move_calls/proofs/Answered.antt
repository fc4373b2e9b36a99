-- What follows of each answer, as it is told.
use Rattle.std.proofs.Common.{◌≡◌, ◌^◌, ◌<◌, ◌++◌, ℕ, true, false, List, [], Option, None, Result, Ok, Err, refl, sym, ap, ◌∙◌, subst}
use Rattle.std.specs.List.{AllByRecursion}
use Rattle.std.specs.Prelude.{not, IfOk}
use Rattle.crc_words.specs.Remainder.{crc32_of}
use Rattle.file_tree.specs.Names.{is_same_path, last_of}
use Rattle.file_tree.specs.Tree.{Tree}
use Rattle.file_tree.specs.declared.call.Call.{Call}
use Rattle.file_tree.specs.declared.call.Call.TheVariants as call
use Rattle.file_tree.specs.declared.reply.Reply.{Reply}
use Rattle.file_tree.specs.declared.reply.Reply.TheVariants as reply
use Rattle.cluster_history.specs.Changes.{Changes}
use Rattle.drafts.specs.declared.attempt.Attempt.{Attempt}
use Rattle.drafts.specs.declared.attempt.Attempt.TheVariants.{Done, NeedBlock, NeedLock, NoSpace, NotBuilt}
use Rattle.drafts.specs.declared.change.Change.{Change}
use Rattle.glock_names.specs.Views.{Seen, IsView}
use Rattle.glock_names.specs.declared.LockName.{LockName}
use Rattle.glock_names.specs.declared.State.{State}
use Rattle.glock_names.specs.declared.steps.CallFault.{CallFault}
use Rattle.glock_names.specs.declared.steps.Missing.{Missing}
use Rattle.call_locks.specs.declared.want.Want.{Want}
use Rattle.image_model.specs.Flat.{Path}
use Rattle.image_model.specs.Image.{Image}
use Rattle.image_model.specs.Owners.{Owners}
use Rattle.image_model.specs.Stands.{Layout}
use Rattle.image_changes.specs.Does.{AreInside, Does, IsInside, IsOf}
use Rattle.move_ends.specs.Answers.{HasSpace, IfDone, IfNeedBlock, IfNeedLock, IfNoSpace, IfNotBuilt}
use Rattle.move_ends.specs.Holds.{holds}
use Rattle.move_ends.specs.walk.Place.{Place}
use Rattle.move_ends.specs.PairWalks.{IsPairLacked}
use Rattle.move_ends.specs.Ends.{AreEnds, IsLackedOnPaths, IsRenaming, IsTarget, MovesIn, first_wants, from_path, second_wants, to_path}
use Rattle.resource_groups.specs.Freeing as freeing
use Rattle.name_moves.specs.Moving.{CanBeMoved, IsNeededIn, Move, freed_by}
use Rattle.move_calls.specs.Answering.{IsAnswerAtEnds, IsAnswerOf, IsAnswered, IsFullFor, IsLackedFor, IsNeededFor, IsUnbuilt, the_move}
use Rattle.move_calls.specs.Carrying.{IsCarried, LacksLock, NeedsBlock}
use Rattle.move_calls.specs.Checks.{IsNeededToSee}
use Rattle.move_calls.specs.Moved.{IsMovedIn}
use Rattle.move_calls.proofs.Doing.{does, moved_in}
use Rattle.move_calls.proofs.Sound.{not_stuck}

-- ---- a name that is carried

module _ (v : Seen) (c : Call) (from to : Place) (replaced : Option (List ℕ)) (node time : ℕ) (view : IsView v) (renaming : IsRenaming c) (ends : AreEnds v c from to) (target : IsTarget v c from to replaced)
    (can : CanBeMoved v (the_move c from to replaced)) (hash : crc32_of (last_of (to_path c)) < 2 ^ 32) (images : (im : Image) (o : Owners) (l : Layout) (t : Tree) → IsOf v im o l t → MovesIn v im o l t c from to replaced) where
  pub carried_does : (r : Result Attempt CallFault) → IfOk r (IsCarried v node time (the_move c from to replaced)) → IfDone r (Does v c)
  carried_does (Ok (Done r change)) (same, out) = subst (λ x. Does v c x change) (sym same) (does v c from to replaced node time change view ends target can hash images out renaming)
  carried_does (Ok (NeedLock lock state)) is = tt
  carried_does (Ok (NeedBlock n)) is = tt
  carried_does (Ok (NoSpace need free)) is = tt
  carried_does (Ok NotBuilt) is = tt
  carried_does (Err f) is = tt

  pub carried_moved : (im : Image) (o : Owners) (l : Layout) (t : Tree) → IsOf v im o l t → (r : Result Attempt CallFault) → IfOk r (IsCarried v node time (the_move c from to replaced))
      → IfDone r (λ reply change. IsMovedIn im o l c node time change)
  carried_moved im o l t of (Ok (Done r change)) (same, out) = moved_in v c from to replaced node time change view ends target can hash images out im o l t of
  carried_moved im o l t of (Ok (NeedLock lock state)) is = tt
  carried_moved im o l t of (Ok (NeedBlock n)) is = tt
  carried_moved im o l t of (Ok (NoSpace need free)) is = tt
  carried_moved im o l t of (Ok NotBuilt) is = tt
  carried_moved im o l t of (Err f) is = tt

  pub carried_built : (im : Image) (o : Owners) (l : Layout) (t : Tree) → IsOf v im o l t → (r : Result Attempt CallFault) → IfOk r (IsCarried v node time (the_move c from to replaced)) → IfNotBuilt r ⊥
  carried_built im o l t of (Ok (Done r change)) is = tt
  carried_built im o l t of (Ok (NeedLock lock state)) is = tt
  carried_built im o l t of (Ok (NeedBlock n)) is = tt
  carried_built im o l t of (Ok (NoSpace need free)) is = tt
  carried_built im o l t of (Ok NotBuilt) stuck = not_stuck v im o l t of c from to replaced ends (images im o l t of) can node view hash stuck
  carried_built im o l t of (Err f) is = tt

pub done_so : (P Q : Reply → Change → Type 0) → ((r : Reply) (change : Change) → P r change → Q r change) → (r : Result Attempt CallFault) → IfDone r P → IfDone r Q
done_so P Q so (Ok (Done r change)) is = so r change is
done_so P Q so (Ok (NeedLock lock state)) is = tt
done_so P Q so (Ok (NeedBlock n)) is = tt
done_so P Q so (Ok (NoSpace need free)) is = tt
done_so P Q so (Ok NotBuilt) is = tt
done_so P Q so (Err f) is = tt

-- a name that stays changes nothing
pub staying : (c : Call) → IsRenaming c → is_same_path (from_path c) (to_path c) ≡ true → Changes (record { call = c; reply = reply.Ok }) ≡ false
staying (call.Rename p q) is same = ap not same
staying (call.Create p) is same = absurd is
staying (call.Mkdir p) is same = absurd is
staying (call.Unlink p) is same = absurd is
staying (call.Rmdir p) is same = absurd is
staying (call.Read p at count) is same = absurd is
staying (call.Dread p at count) is same = absurd is
staying (call.Write p at new) is same = absurd is
staying (call.Truncate p size) is same = absurd is
staying (call.Stat p) is same = absurd is
staying (call.List p) is same = absurd is
staying call.Sync is same = absurd is

-- ---- of each answer, as far as the view shows

module _ (v : Seen) (c : Call) (node time : ℕ) where
  of_nothing : (change : Change) → change.blocks.items ≡ [] → AreInside v change
  of_nothing change none = subst (AllByRecursion (IsInside v)) (sym none) tt

  inside_of : (r : Reply) (change : Change) → IsAnswered v c node time r change → AreInside v change
  inside_of _ _ (IsAnswered.refused r change is none) = of_nothing change none.blocks
  inside_of _ _ (IsAnswered.stays change is none) = of_nothing change none.blocks
  inside_of _ _ (IsAnswered.moved m change moves out) = out.is.inside

  answered_of : (r : Reply) (change : Change) → IsAnswerOf v c node time (Done r change) → IsAnswered v c node time r change
  answered_of _ _ (IsAnswerOf.by_ends (IsAnswerAtEnds.refused r change at none)) = IsAnswered.refused r change at.told none
  answered_of _ _ (IsAnswerOf.by_ends (IsAnswerAtEnds.stays change at none)) = IsAnswered.stays change at.told none
  answered_of r change (IsAnswerOf.to_see m n meant needed e) = absurd (let same : Done r change ≡ NeedBlock n = e in cc)
  answered_of r change (IsAnswerOf.unfit m meant fit e) = absurd (let same : Done r change ≡ NotBuilt = e in cc)
  answered_of r change (IsAnswerOf.carried m moves (same, out)) = subst (λ x. IsAnswered v c node time x change) (sym same) (IsAnswered.moved m change moves out)

  spaceless_of : (r : Reply) (change : Change) → IsAnswerOf v c node time (Done r change) → HasSpace r
  spaceless_of r change (IsAnswerOf.by_ends (IsAnswerAtEnds.refused _ _ at none)) = at.refusal.1
  spaceless_of r change (IsAnswerOf.by_ends (IsAnswerAtEnds.stays _ at none)) = tt
  spaceless_of r change (IsAnswerOf.to_see m n meant needed e) = absurd (let same : Done r change ≡ NeedBlock n = e in cc)
  spaceless_of r change (IsAnswerOf.unfit m meant fit e) = absurd (let same : Done r change ≡ NotBuilt = e in cc)
  spaceless_of r change (IsAnswerOf.carried m moves (same, out)) = subst HasSpace (sym same) tt

  lacked_of : (lock : LockName) (state : State) → IsAnswerOf v c node time (NeedLock lock state) → IsLackedFor v c node lock state
  lacked_of _ _ (IsAnswerOf.by_ends (IsAnswerAtEnds.lacks lock state at)) = IsLackedFor.on_paths at.told
  lacked_of lock state (IsAnswerOf.to_see m n meant needed e) = absurd (let same : NeedLock lock state ≡ NeedBlock n = e in cc)
  lacked_of lock state (IsAnswerOf.unfit m meant fit e) = absurd (let same : NeedLock lock state ≡ NotBuilt = e in cc)
  lacked_of lock state (IsAnswerOf.carried m moves lacks) = IsLackedFor.of_group m moves lacks

  -- the lock that is told isn't held so strongly

  pair_lacks : (p q : Path) (first second : List Want) (lock : LockName) (state : State) → IsPairLacked v p q first second lock state → holds v (record { lock = lock; state = state }) ≡ false
  pair_lacks p q first second _ _ (IsPairLacked.on_first i j a w passed is wanted goes lacks) = lacks
  pair_lacks p q first second _ _ (IsPairLacked.on_second i j a x passed is wanted goes lacks) = lacks
  pair_lacks p q first second _ _ (IsPairLacked.on_both i j a w x passed on_first on_second wanted wanted' lacks) = lacks

  path_lacks : (lock : LockName) (state : State) → IsLackedOnPaths v c lock state → holds v (record { lock = lock; state = state }) ≡ false
  path_lacks lock state (IsLackedOnPaths.of_order some some' is strong lacks) = (λ i. holds v (record { lock = is i; state = strong i })) ∙ lacks
  path_lacks lock state (IsLackedOnPaths.on_paths begun is) = pair_lacks (from_path c) (to_path c) (first_wants c) (second_wants c) lock state is

  group_lacks : (m : Move) (lock : LockName) (state : State) → LacksLock v node m lock state → holds v (record { lock = lock; state = state }) ≡ false
  group_lacks m lock state (LacksLock.of_first need needs first strong) = (λ i. holds v (record { lock = first.lacks.is i; state = strong i })) ∙ first.lacks.lacks
  group_lacks m lock state (LacksLock.of_room need counted lacks first) = lacks

  lacks_of : (lock : LockName) (state : State) → IsLackedFor v c node lock state → holds v (record { lock = lock; state = state }) ≡ false
  lacks_of lock state (IsLackedFor.on_paths is) = path_lacks lock state is
  lacks_of lock state (IsLackedFor.of_group m moves is) = group_lacks m lock state is

  needed_of : (a : Attempt) → IsAnswerOf v c node time a → (n : Missing) → a ≡ NeedBlock n → IsNeededFor v c node n
  needed_of a (IsAnswerOf.to_see m k meant needed is) n e = subst (IsNeededFor v c node) (let same : NeedBlock k ≡ NeedBlock n = sym is ∙ e in cc) (IsNeededFor.to_see m meant needed)
  needed_of a (IsAnswerOf.unfit m meant fit is) n e = absurd (let same : NotBuilt ≡ NeedBlock n = sym is ∙ e in cc)
  needed_of _ (IsAnswerOf.by_ends (IsAnswerAtEnds.needs k at)) n e = subst (IsNeededFor v c node) (let same : NeedBlock k ≡ NeedBlock n = e in cc) (IsNeededFor.at_ends at.told)
  needed_of _ (IsAnswerOf.by_ends (IsAnswerAtEnds.refused r change at none)) n e = cc
  needed_of _ (IsAnswerOf.by_ends (IsAnswerAtEnds.stays change at none)) n e = cc
  needed_of _ (IsAnswerOf.by_ends (IsAnswerAtEnds.lacks lock state at)) n e = cc
  needed_of (NeedBlock k) (IsAnswerOf.carried m moves needs) n e = subst (IsNeededFor v c node) (let same : NeedBlock k ≡ NeedBlock n = e in cc) (IsNeededFor.to_move m moves needs)
  needed_of (Done r change) (IsAnswerOf.carried m moves is) n e = cc
  needed_of (NeedLock lock state) (IsAnswerOf.carried m moves is) n e = cc
  needed_of (NoSpace need free) (IsAnswerOf.carried m moves is) n e = cc
  needed_of NotBuilt (IsAnswerOf.carried m moves is) n e = cc

  absent_in : (m : Move) (blocks : List ℕ) (n : Missing) → IsNeededIn v m blocks n → v.block_at n.block ≡ None
  absent_in m blocks n (IsNeededIn.to_go dir names name absent one needed) = absent.absent
  absent_in m blocks n (IsNeededIn.to_come absent needed) = absent.absent
  absent_in m blocks n (IsNeededIn.in_group (g, has, some)) = some.3.block.absent

  group_absent : (blocks : List ℕ) (n : Missing) → freeing.IsNeededFor v blocks n → v.block_at n.block ≡ None
  group_absent blocks n (g, has, some) = some.3.block.absent

  absent_so : (m : Move) (n : Missing) → NeedsBlock v node m n → v.block_at n.block ≡ None
  absent_so m n (NeedsBlock.to_look absent needed) = absent
  absent_so m n (NeedsBlock.of_freed need counted needed) = group_absent (freed_by m) n needed
  absent_so m n (NeedsBlock.of_room need counted needed blocks) = needed.missing.absent
  absent_so m n (NeedsBlock.on_way need room has on) = on.absent
  absent_so m n (NeedsBlock.to_draft need room has none needed) = absent_in m (room ++ freed_by m) n needed
  absent_so m n (NeedsBlock.to_say need room has needed) = group_absent (room ++ freed_by m) n needed
  absent_so m n (NeedsBlock.once_gone gone needed inside) = absent_in m [] n needed

  see_absent : (m : Move) (n : Missing) → IsNeededToSee v m n → v.block_at n.block ≡ None
  see_absent m n (IsNeededToSee.for_parent moved needs absent) = absent
  see_absent m n (IsNeededToSee.on_way on) = on.absent

  absent_of : (a : Attempt) → IsAnswerOf v c node time a → IfNeedBlock (Ok a) (λ n. v.block_at n.block ≡ None)
  absent_of a (IsAnswerOf.to_see m n meant needed e) = subst (λ x. IfNeedBlock (Ok x) (λ n. v.block_at n.block ≡ None)) (sym e) (see_absent m n needed)
  absent_of a (IsAnswerOf.unfit m meant fit e) = subst (λ x. IfNeedBlock (Ok x) (λ n. v.block_at n.block ≡ None)) (sym e) tt
  absent_of _ (IsAnswerOf.by_ends (IsAnswerAtEnds.needs n at)) = at.absent
  absent_of _ (IsAnswerOf.by_ends (IsAnswerAtEnds.refused r change at none)) = tt
  absent_of _ (IsAnswerOf.by_ends (IsAnswerAtEnds.stays change at none)) = tt
  absent_of _ (IsAnswerOf.by_ends (IsAnswerAtEnds.lacks lock state at)) = tt
  absent_of (NeedBlock n) (IsAnswerOf.carried m moves needs) = absent_so m n needs
  absent_of (Done r change) (IsAnswerOf.carried m moves is) = tt
  absent_of (NeedLock lock state) (IsAnswerOf.carried m moves is) = tt
  absent_of (NoSpace need free) (IsAnswerOf.carried m moves is) = tt
  absent_of NotBuilt (IsAnswerOf.carried m moves is) = tt

  full_of : (need free : ℕ) → IsAnswerOf v c node time (NoSpace need free) → IsFullFor v c node need free
  full_of need free (IsAnswerOf.by_ends at) = elim at [ ]
  full_of need free (IsAnswerOf.to_see m n meant needed e) = absurd (let same : NoSpace need free ≡ NeedBlock n = e in cc)
  full_of need free (IsAnswerOf.unfit m meant fit e) = absurd (let same : NoSpace need free ≡ NotBuilt = e in cc)
  full_of need free (IsAnswerOf.carried m moves full) = record { move = m; moves = moves; full = full }

  unbuilt_of : IsAnswerOf v c node time NotBuilt → IsUnbuilt v c node
  unbuilt_of (IsAnswerOf.by_ends at) = elim at [ ]
  unbuilt_of (IsAnswerOf.to_see m n meant needed e) = absurd (let same : NotBuilt ≡ NeedBlock n = e in cc)
  unbuilt_of (IsAnswerOf.unfit m meant fit e) = IsUnbuilt.unfit m meant fit
  unbuilt_of (IsAnswerOf.carried m moves stuck) = IsUnbuilt.stuck m moves stuck

  -- ---- of a result

  pub answered : (r : Result Attempt CallFault) → IfOk r (IsAnswerOf v c node time) → IfDone r (IsAnswered v c node time)
  answered (Ok (Done r change)) is = answered_of r change is
  answered (Ok (NeedLock lock state)) is = tt
  answered (Ok (NeedBlock n)) is = tt
  answered (Ok (NoSpace need free)) is = tt
  answered (Ok NotBuilt) is = tt
  answered (Err f) is = tt

  pub inside : (r : Result Attempt CallFault) → IfOk r (IsAnswerOf v c node time) → IfDone r (λ reply change. AreInside v change)
  inside r is = done_so (IsAnswered v c node time) (λ reply change. AreInside v change) inside_of r (answered r is)

  pub spaceless : (r : Result Attempt CallFault) → IfOk r (IsAnswerOf v c node time) → IfDone r (λ reply change. HasSpace reply)
  spaceless (Ok (Done r change)) is = spaceless_of r change is
  spaceless (Ok (NeedLock lock state)) is = tt
  spaceless (Ok (NeedBlock n)) is = tt
  spaceless (Ok (NoSpace need free)) is = tt
  spaceless (Ok NotBuilt) is = tt
  spaceless (Err f) is = tt

  pub lacked : (r : Result Attempt CallFault) → IfOk r (IsAnswerOf v c node time) → IfNeedLock r (IsLackedFor v c node)
  lacked (Ok (NeedLock lock state)) is = lacked_of lock state is
  lacked (Ok (Done r change)) is = tt
  lacked (Ok (NeedBlock n)) is = tt
  lacked (Ok (NoSpace need free)) is = tt
  lacked (Ok NotBuilt) is = tt
  lacked (Err f) is = tt

  pub lacks : (r : Result Attempt CallFault) → IfOk r (IsAnswerOf v c node time) → IfNeedLock r (λ lock state. holds v (record { lock = lock; state = state }) ≡ false)
  lacks (Ok (NeedLock lock state)) is = lacks_of lock state (lacked_of lock state is)
  lacks (Ok (Done r change)) is = tt
  lacks (Ok (NeedBlock n)) is = tt
  lacks (Ok (NoSpace need free)) is = tt
  lacks (Ok NotBuilt) is = tt
  lacks (Err f) is = tt

  pub needed : (r : Result Attempt CallFault) → IfOk r (IsAnswerOf v c node time) → IfNeedBlock r (IsNeededFor v c node)
  needed (Ok (NeedBlock n)) is = needed_of (NeedBlock n) is n refl
  needed (Ok (Done r change)) is = tt
  needed (Ok (NeedLock lock state)) is = tt
  needed (Ok (NoSpace need free)) is = tt
  needed (Ok NotBuilt) is = tt
  needed (Err f) is = tt

  pub absent : (r : Result Attempt CallFault) → IfOk r (IsAnswerOf v c node time) → IfNeedBlock r (λ n. v.block_at n.block ≡ None)
  absent (Ok a) is = absent_of a is
  absent (Err f) is = tt

  pub full : (r : Result Attempt CallFault) → IfOk r (IsAnswerOf v c node time) → IfNoSpace r (IsFullFor v c node)
  full (Ok (NoSpace need free)) is = full_of need free is
  full (Ok (Done r change)) is = tt
  full (Ok (NeedLock lock state)) is = tt
  full (Ok (NeedBlock n)) is = tt
  full (Ok NotBuilt) is = tt
  full (Err f) is = tt

  pub fewer : (r : Result Attempt CallFault) → IfOk r (IsAnswerOf v c node time) → IfNoSpace r (λ need free. free < need)
  fewer (Ok (NoSpace need free)) is = (full_of need free is).full.fewer
  fewer (Ok (Done r change)) is = tt
  fewer (Ok (NeedLock lock state)) is = tt
  fewer (Ok (NeedBlock n)) is = tt
  fewer (Ok NotBuilt) is = tt
  fewer (Err f) is = tt

  pub unbuilt : (r : Result Attempt CallFault) → IfOk r (IsAnswerOf v c node time) → IfNotBuilt r (IsUnbuilt v c node)
  unbuilt (Ok NotBuilt) is = unbuilt_of is
  unbuilt (Ok (Done r change)) is = tt
  unbuilt (Ok (NeedLock lock state)) is = tt
  unbuilt (Ok (NeedBlock n)) is = tt
  unbuilt (Ok (NoSpace need free)) is = tt
  unbuilt (Err f) is = tt
