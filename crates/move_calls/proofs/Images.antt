-- What follows of each answer in an image that the view may be of: the locks, and that too few blocks are free.
use Rattle.std.proofs.Common.{◌≡◌, ◌≢◌, ◌&&◌, ◌^◌, ◌<◌, ℕ, Bool, true, false, true≢false, List, [], Some, Result, Ok, Err, append-nil, refl, sym, ap, ◌∙◌, subst}
use Rattle.std.specs.List.{list_any}
use Rattle.std.specs.Prelude.{Contains, IfOk, if◌then◌else◌, not, ◌==◌}
use Rattle.crc_words.specs.Remainder.{crc32_of}
use Rattle.file_tree.specs.Apply.{apply}
use Rattle.file_tree.specs.Names.{is_same_path, last_of}
use Rattle.file_tree.specs.Tree.{Tree}
use Rattle.file_tree.specs.declared.call.Call.{Call}
use Rattle.file_tree.specs.declared.reply.Reply.{Reply}
use Rattle.cluster_history.specs.Changes.{is_ok}
use Rattle.drafts.specs.declared.attempt.Attempt.{Attempt}
use Rattle.drafts.specs.declared.attempt.Attempt.TheVariants.{Done, NeedBlock, NeedLock, NoSpace, NotBuilt}
use Rattle.drafts.specs.declared.change.Change.{Change}
use Rattle.glock_names.specs.Views.{Seen, IsView}
use Rattle.glock_names.specs.declared.LockName.{LockName}
use Rattle.glock_names.specs.declared.State.{State}
use Rattle.glock_names.specs.declared.steps.CallFault.{CallFault}
use Rattle.glock_names.specs.declared.steps.Missing.{Missing}
use Rattle.image_model.specs.Image.{Image}
use Rattle.image_model.specs.Owners.{Owners}
use Rattle.image_model.specs.Stands.{Layout}
use Rattle.image_model.proofs.Members.{is_in}
use Rattle.image_changes.specs.Changes.{cover}
use Rattle.image_changes.specs.Does.{IsOf}
use Rattle.move_ends.specs.Answers.{IfDone, IfNeedBlock, IfNeedLock, IfNoSpace}
use Rattle.move_ends.specs.Holds.{Hold, AreHeld, IsAskedFor, IsFirstLack, IsUnder}
use Rattle.move_ends.proofs.Longer.{asked_before, lack_before}
use Rattle.move_ends.specs.Ends.{from_path, inode_holds, to_path}
use Rattle.name_moves.specs.Moving.{CanBeMoved, Move}
use Rattle.move_calls.specs.Answering.{IsAnswerAtEnds, IsAnswerOf, IsMeant, IsNothing, IsToMove}
use Rattle.move_calls.specs.Carrying.{IsCarriedOut, IsFull, LacksLock, NeedsBlock}
use Rattle.move_calls.specs.Checks.{IsNeededOnWays, IsNeededToSee}
use Rattle.move_calls.specs.Locks.{IsNeed, IsSoOfList, IsTooFew, block_holds, call_holds, moves_in}
use Rattle.move_calls.proofs.Asked.{see_asked}
use Rattle.move_calls.proofs.Locking.{among_inode, block_asks, block_listed, done_held, done_under, full_there, lock_lacks, lock_listed, not_moving, ways_asked}

stays_false : (x : Bool) → (x && false) ≡ false
stays_false true = refl
stays_false false = refl

nothing_under : (o : Owners) (list : List Hold) (change : Change) → IsNothing change → IsUnder o list change
nothing_under o list change none = record {
  written = λ lock has. elim (is_in lock [] (subst (λ xs. Contains xs lock) none.locks has)) [ ];
  freed = λ b a gone its. absurd (true≢false (sym gone ∙ ap (list_any (λ f. f == b)) none.freed));
}

module _ (v : Seen) (c : Call) (node time : ℕ) (view : IsView v) (hash : to_path c ≢ [] → crc32_of (last_of (to_path c)) < 2 ^ 32) (im : Image) (o : Owners) (l : Layout) (t : Tree) (of : IsOf v im o l t) where
  -- the list behind those of the inodes
  abbrev rest : ℕ → List Hold
  rest need = if moves_in t c then block_holds im o l c node need else []

  -- where the tree refuses the call or the name stays, there is no more
  held_alone : (need : ℕ) → moves_in t c ≡ false → AreHeld v (inode_holds im o l c) → AreHeld v (call_holds im o l t c node need)
  held_alone need stays held = subst (AreHeld v) (sym (not_moving im o l t c node need stays ∙ append-nil (inode_holds im o l c))) held

  refused_not : (r : Reply) → (apply c t).reply ≡ r → is_ok r ≡ false → moves_in t c ≡ false
  refused_not r is fails = ap (λ x. x && not (is_same_path (from_path c) (to_path c))) (ap is_ok is ∙ fails)

  stays_not : is_same_path (from_path c) (to_path c) ≡ true → moves_in t c ≡ false
  stays_not same = ap (λ x. is_ok (apply c t).reply && not x) same ∙ stays_false (is_ok (apply c t).reply)

  -- ---- a name that moves

  module _ (m : Move) (meant : IsMeant v c m) where
    n_hash : crc32_of (last_of (to_path c)) < 2 ^ 32
    n_hash = hash meant.ends.begun.to

    see_inodes : (n : Missing) → IsNeededToSee v m n → IsAskedFor v im o l (inode_holds im o l c) n
    see_inodes n (IsNeededToSee.for_parent moved needs absent) =
        let r = meant.images im o l t of in
        see_asked v im o l t of (inode_holds im o l c) m (from_path c) r.0.source.at r.0.source.dinode
        (among_inode v im o l t of c m.moved m.to m.replaced meant.ends n_hash r.0 r.1 node) n moved needs absent
    see_inodes n (IsNeededToSee.on_way on) =
        let r = meant.images im o l t of in
        ways_asked v im o l t of c m.moved m.to m.replaced meant.ends n_hash r.0 r.1 node n (subst (λ x. IsNeededOnWays v x n) meant.is on)

    see_there : (n : Missing) (need : ℕ) → IsNeededToSee v m n → IsAskedFor v im o l (call_holds im o l t c node need) n
    see_there n need needs = asked_before v im o l (inode_holds im o l c) (rest need) n (see_inodes n needs)

  module _ (m : Move) (moves : IsToMove v c m) where
    lock_there : (lock : LockName) (state : State) (need : ℕ) → LacksLock v node m lock state → IsNeed im o l t c need → IsFirstLack v (call_holds im o l t c node need) lock state
    lock_there lock state need lacks =
        let meant = moves.meant in
        let r = meant.images im o l t of in
        lock_lacks v im o l t of c m.moved m.to m.replaced meant.ends (hash meant.ends.begun.to) r.0 r.1 node lock state need (subst (λ x. LacksLock v node x lock state) meant.is lacks)

    block_there : (n : Missing) (need : ℕ) → NeedsBlock v node m n → IsNeed im o l t c need → IsAskedFor v im o l (call_holds im o l t c node need) n
    block_there n need needs =
        let meant = moves.meant in
        let r = meant.images im o l t of in
        block_asks v im o l t of c m.moved m.to m.replaced meant.ends (hash meant.ends.begun.to) r.0 r.1 node view (subst (CanBeMoved v) meant.is moves.can) n need (subst (λ x. NeedsBlock v node x n) meant.is needs)

    lock_where : (lock : LockName) (state : State) → LacksLock v node m lock state → IsSoOfList im o l t c node (λ list. IsFirstLack v list lock state)
    lock_where lock state lacks =
        let meant = moves.meant in
        let r = meant.images im o l t of in
        lock_listed v im o l t of c m.moved m.to m.replaced meant.ends (hash meant.ends.begun.to) r.0 r.1 node lock state (subst (λ x. LacksLock v node x lock state) meant.is lacks)

    block_where : (n : Missing) → NeedsBlock v node m n → IsSoOfList im o l t c node (λ list. IsAskedFor v im o l list n)
    block_where n needs =
        let meant = moves.meant in
        let r = meant.images im o l t of in
        block_listed v im o l t of c m.moved m.to m.replaced meant.ends (hash meant.ends.begun.to) r.0 r.1 node view (subst (CanBeMoved v) meant.is moves.can) n (subst (λ x. NeedsBlock v node x n) meant.is needs)

    full_in : (need free : ℕ) → IsFull v node m need free → IsTooFew v im o l t c need free
    full_in need free full =
        let meant = moves.meant in
        let r = meant.images im o l t of in
        full_there v im o l t of c m.moved m.to m.replaced meant.ends (hash meant.ends.begun.to) r.0 r.1 node meant.target need free (subst (λ x. IsFull v node x need free) meant.is full)

    held_in : (change : Change) → IsCarriedOut v node time m change → (need : ℕ) × (IsNeed im o l t c need × AreHeld v (call_holds im o l t c node need))
    held_in change out =
        let meant = moves.meant in
        let r = meant.images im o l t of in
        done_held v im o l t of c m.moved m.to m.replaced meant.ends (hash meant.ends.begun.to) r.0 r.1 node view (subst (CanBeMoved v) meant.is moves.can) time change
        (subst (λ x. IsCarriedOut v node time x change) meant.is out)

    under_in : (change : Change) (need : ℕ) → IsCarriedOut v node time m change → IsNeed im o l t c need → IsUnder o (call_holds im o l t c node need) change
    under_in change need out =
        let meant = moves.meant in
        let r = meant.images im o l t of in
        done_under v im o l t of c m.moved m.to m.replaced meant.ends (hash meant.ends.begun.to) r.0 r.1 node view (subst (CanBeMoved v) meant.is moves.can) time change
        (subst (λ x. IsCarriedOut v node time x change) meant.is out) need

  -- ---- of each answer

  held_of : (r : Reply) (change : Change) → IsAnswerOf v c node time (Done r change) → (need : ℕ) × (IsNeed im o l t c need × AreHeld v (call_holds im o l t c node need))
  held_of _ _ (IsAnswerOf.by_ends (IsAnswerAtEnds.refused r change at none)) =
      let f = at.found im o l t of in
      (0, (IsNeed.refused (ap is_ok f.0 ∙ at.refusal.0), held_alone 0 (refused_not r f.0 at.refusal.0) f.1))
  held_of _ _ (IsAnswerOf.by_ends (IsAnswerAtEnds.stays change at none)) =
      (0, (IsNeed.stays at.told.same, held_alone 0 (stays_not at.told.same) (at.found im o l t of).1))
  held_of r change (IsAnswerOf.to_see m n meant needed e) = absurd (let same : Done r change ≡ NeedBlock n = e in cc)
  held_of r change (IsAnswerOf.unfit m meant fit e) = absurd (let same : Done r change ≡ NotBuilt = e in cc)
  held_of r change (IsAnswerOf.carried m moves (same, out)) = held_in m moves change out

  under_of : (r : Reply) (change : Change) (need : ℕ) → IsNeed im o l t c need → IsAnswerOf v c node time (Done r change) → IsUnder o (call_holds im o l t c node need) change
  under_of _ _ need is (IsAnswerOf.by_ends (IsAnswerAtEnds.refused r change at none)) = nothing_under o (call_holds im o l t c node need) change none
  under_of _ _ need is (IsAnswerOf.by_ends (IsAnswerAtEnds.stays change at none)) = nothing_under o (call_holds im o l t c node need) change none
  under_of r change need is (IsAnswerOf.to_see m n meant needed e) = absurd (let same : Done r change ≡ NeedBlock n = e in cc)
  under_of r change need is (IsAnswerOf.unfit m meant fit e) = absurd (let same : Done r change ≡ NotBuilt = e in cc)
  under_of r change need is (IsAnswerOf.carried m moves (same, out)) = under_in m moves change need out is

  lock_of : (lock : LockName) (state : State) (need : ℕ) → IsNeed im o l t c need → IsAnswerOf v c node time (NeedLock lock state) → IsFirstLack v (call_holds im o l t c node need) lock state
  lock_of _ _ need is (IsAnswerOf.by_ends (IsAnswerAtEnds.lacks lock state at)) = lack_before v (inode_holds im o l c) (rest need) lock state (at.found im o l t of)
  lock_of lock state need is (IsAnswerOf.to_see m n meant needed e) = absurd (let same : NeedLock lock state ≡ NeedBlock n = e in cc)
  lock_of lock state need is (IsAnswerOf.unfit m meant fit e) = absurd (let same : NeedLock lock state ≡ NotBuilt = e in cc)
  lock_of lock state need is (IsAnswerOf.carried m moves lacks) = lock_there m moves lock state need lacks is

  block_of : (a : Attempt) (need : ℕ) → IsNeed im o l t c need → IsAnswerOf v c node time a → IfNeedBlock (Ok a) (IsAskedFor v im o l (call_holds im o l t c node need))
  block_of a need is (IsAnswerOf.to_see m n meant needed e) = subst (λ x. IfNeedBlock (Ok x) (IsAskedFor v im o l (call_holds im o l t c node need))) (sym e) (see_there m meant n need needed)
  block_of a need is (IsAnswerOf.unfit m meant fit e) = subst (λ x. IfNeedBlock (Ok x) (IsAskedFor v im o l (call_holds im o l t c node need))) (sym e) tt
  block_of _ need is (IsAnswerOf.by_ends (IsAnswerAtEnds.needs n at)) = asked_before v im o l (inode_holds im o l c) (rest need) n (at.found im o l t of)
  block_of _ need is (IsAnswerOf.by_ends (IsAnswerAtEnds.refused r change at none)) = tt
  block_of _ need is (IsAnswerOf.by_ends (IsAnswerAtEnds.stays change at none)) = tt
  block_of _ need is (IsAnswerOf.by_ends (IsAnswerAtEnds.lacks lock state at)) = tt
  block_of (NeedBlock n) need is (IsAnswerOf.carried m moves needs) = block_there m moves n need needs is
  block_of (Done r change) need is (IsAnswerOf.carried m moves so) = tt
  block_of (NeedLock lock state) need is (IsAnswerOf.carried m moves so) = tt
  block_of (NoSpace wants free) need is (IsAnswerOf.carried m moves so) = tt
  block_of NotBuilt need is (IsAnswerOf.carried m moves so) = tt

  first_of : (lock : LockName) (state : State) → IsAnswerOf v c node time (NeedLock lock state) → IsSoOfList im o l t c node (λ list. IsFirstLack v list lock state)
  first_of _ _ (IsAnswerOf.by_ends (IsAnswerAtEnds.lacks lock state at)) = IsSoOfList.of_inodes (at.found im o l t of)
  first_of lock state (IsAnswerOf.to_see m n meant needed e) = absurd (let same : NeedLock lock state ≡ NeedBlock n = e in cc)
  first_of lock state (IsAnswerOf.unfit m meant fit e) = absurd (let same : NeedLock lock state ≡ NotBuilt = e in cc)
  first_of lock state (IsAnswerOf.carried m moves lacks) = lock_where m moves lock state lacks

  -- where a block stands in the list that is asked for
  abbrev Stands : Missing → Type 0
  Stands n = IsSoOfList im o l t c node (λ list. IsAskedFor v im o l list n)

  asked_of : (a : Attempt) → IsAnswerOf v c node time a → IfNeedBlock (Ok a) Stands
  asked_of a (IsAnswerOf.to_see m n meant needed e) = subst (λ x. IfNeedBlock (Ok x) Stands) (sym e) (IsSoOfList.of_inodes (see_inodes m meant n needed))
  asked_of a (IsAnswerOf.unfit m meant fit e) = subst (λ x. IfNeedBlock (Ok x) Stands) (sym e) tt
  asked_of _ (IsAnswerOf.by_ends (IsAnswerAtEnds.needs n at)) = IsSoOfList.of_inodes (at.found im o l t of)
  asked_of _ (IsAnswerOf.by_ends (IsAnswerAtEnds.refused r change at none)) = tt
  asked_of _ (IsAnswerOf.by_ends (IsAnswerAtEnds.stays change at none)) = tt
  asked_of _ (IsAnswerOf.by_ends (IsAnswerAtEnds.lacks lock state at)) = tt
  asked_of (NeedBlock n) (IsAnswerOf.carried m moves needs) = block_where m moves n needs
  asked_of (Done r change) (IsAnswerOf.carried m moves so) = tt
  asked_of (NeedLock lock state) (IsAnswerOf.carried m moves so) = tt
  asked_of (NoSpace need free) (IsAnswerOf.carried m moves so) = tt
  asked_of NotBuilt (IsAnswerOf.carried m moves so) = tt

  space_of : (need free : ℕ) → IsAnswerOf v c node time (NoSpace need free) → IsTooFew v im o l t c need free
  space_of need free (IsAnswerOf.by_ends at) = elim at [ ]
  space_of need free (IsAnswerOf.to_see m n meant needed e) = absurd (let same : NoSpace need free ≡ NeedBlock n = e in cc)
  space_of need free (IsAnswerOf.unfit m meant fit e) = absurd (let same : NoSpace need free ≡ NotBuilt = e in cc)
  space_of need free (IsAnswerOf.carried m moves full) = full_in m moves need free full

  -- ---- of a result

  pub held : (r : Result Attempt CallFault) → IfOk r (IsAnswerOf v c node time) → IfDone r (λ reply change. (need : ℕ) × (IsNeed im o l t c need × AreHeld v (call_holds im o l t c node need)))
  held (Ok (Done r change)) is = held_of r change is
  held (Ok (NeedLock lock state)) is = tt
  held (Ok (NeedBlock n)) is = tt
  held (Ok (NoSpace need free)) is = tt
  held (Ok NotBuilt) is = tt
  held (Err f) is = tt

  pub under : (need : ℕ) → IsNeed im o l t c need → (r : Result Attempt CallFault) → IfOk r (IsAnswerOf v c node time) → IfDone r (λ reply change. IsUnder o (call_holds im o l t c node need) change)
  under need so (Ok (Done r change)) is = under_of r change need so is
  under need so (Ok (NeedLock lock state)) is = tt
  under need so (Ok (NeedBlock n)) is = tt
  under need so (Ok (NoSpace wants free)) is = tt
  under need so (Ok NotBuilt) is = tt
  under need so (Err f) is = tt

  pub lock : (need : ℕ) → IsNeed im o l t c need → (r : Result Attempt CallFault) → IfOk r (IsAnswerOf v c node time) → IfNeedLock r (IsFirstLack v (call_holds im o l t c node need))
  lock need so (Ok (NeedLock name state)) is = lock_of name state need so is
  lock need so (Ok (Done r change)) is = tt
  lock need so (Ok (NeedBlock n)) is = tt
  lock need so (Ok (NoSpace wants free)) is = tt
  lock need so (Ok NotBuilt) is = tt
  lock need so (Err f) is = tt

  pub first : (r : Result Attempt CallFault) → IfOk r (IsAnswerOf v c node time) → IfNeedLock r (λ lock state. IsSoOfList im o l t c node (λ list. IsFirstLack v list lock state))
  first (Ok (NeedLock name state)) is = first_of name state is
  first (Ok (Done r change)) is = tt
  first (Ok (NeedBlock n)) is = tt
  first (Ok (NoSpace wants free)) is = tt
  first (Ok NotBuilt) is = tt
  first (Err f) is = tt

  pub asked : (r : Result Attempt CallFault) → IfOk r (IsAnswerOf v c node time) → IfNeedBlock r Stands
  asked (Ok a) is = asked_of a is
  asked (Err f) is = tt

  covers : (n : Missing) → Stands n → cover l n.block (o n.block) ≡ Some n.lock
  covers n (IsSoOfList.of_inodes asked) = asked.covered
  covers n (IsSoOfList.of_all need is asked) = asked.covered

  pub covered : (r : Result Attempt CallFault) → IfOk r (IsAnswerOf v c node time) → IfNeedBlock r (λ n. cover l n.block (o n.block) ≡ Some n.lock)
  covered (Ok (NeedBlock n)) is = covers n (asked_of (NeedBlock n) is)
  covered (Ok (Done r change)) is = tt
  covered (Ok (NeedLock lock state)) is = tt
  covered (Ok (NoSpace wants free)) is = tt
  covered (Ok NotBuilt) is = tt
  covered (Err f) is = tt

  pub block : (need : ℕ) → IsNeed im o l t c need → (r : Result Attempt CallFault) → IfOk r (IsAnswerOf v c node time) → IfNeedBlock r (IsAskedFor v im o l (call_holds im o l t c node need))
  block need so (Ok a) is = block_of a need so is
  block need so (Err f) is = tt

  pub space : (r : Result Attempt CallFault) → IfOk r (IsAnswerOf v c node time) → IfNoSpace r (IsTooFew v im o l t c)
  space (Ok (NoSpace need free)) is = space_of need free is
  space (Ok (Done r change)) is = tt
  space (Ok (NeedLock name state)) is = tt
  space (Ok (NeedBlock n)) is = tt
  space (Ok NotBuilt) is = tt
  space (Err f) is = tt
