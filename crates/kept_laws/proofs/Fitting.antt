-- Cells and the states of their locks, call by call.
use Rattle.std.proofs.Common.{◌≡◌, ◌⊎◌, inl, inr, ◌∙◌, ℕ, ◌≤◌, Bool, true, false, cond, not, List, [], ◌∷◌, Option, None, Some, refl, sym, ap, subst, true≢false, arith}
use Rattle.std.specs.Prelude.{◌&&◌, ◌||◌, unwrap_or}
use Rattle.std.specs.List.{list_any}
use Rattle.std.specs.Ordering.{nat_cmp, eq_by_cmp}
use Rattle.std.specs.Cmp.{nat_cmp_total}
use Rattle.std.specs.FinMap.{get, empty, get-empty, get-insert, get-remove}
use Rattle.glock_names.specs.declared.LockName.{LockName}
use Rattle.glock_names.specs.declared.State.{State}
use Rattle.glock_names.specs.declared.State.TheVariants.{Un, Sh, Df, Ex}
use Rattle.glock_names.specs.LockMaps.{same_lock}
use Rattle.glock_names.specs.StateOrder.{may_cache}
use Rattle.glock_names.proofs.LockMapLaws.{same_lock_tells}
use Rattle.block_cache.specs.declared.cache.Cell.{Cell}
use Rattle.block_cache.specs.Cells.{Cells, kept_if, stays, DropsLock}
use Rattle.block_cache.specs.Calls as cache
use Rattle.demotion.specs.declared.stages.Under.{Under}
use Rattle.demotion.specs.declared.stages.Stage.TheVariants.{Release}
use Rattle.demotion.specs.Stages.{stage_of}
use Rattle.demotion.proofs.Staging.{safe}
use Rattle.glock_machine.specs.declared.glock.Glock.{Glock}
use Rattle.glock_machine.specs.Table.{Table, glock_of}
use Rattle.glock_machine.specs.Calls as glocks
use Rattle.glock_machine.proofs.Standing.{stand_apart, state_stays, touches_stay}
use Rattle.kept_laws.specs.Kept.{Kept, Call, OnLocks, OnCache, Flushes, AllFit, Fits, Minds, Leaves, Goes, on_locks}

-- ---- a call on the locks

-- a cell stays one that may be cached, where its lock is the one that the call is on
fits_on : (lock : LockName) (deed : glocks.Deed) (k : Kept) (b : ℕ) (cell : Cell) → get k.cells b ≡ Some cell → cell.lock ≡ lock
    → Minds (OnLocks (glocks.On lock deed)) k → glocks.MayBeDone deed (glock_of k.locks lock) → may_cache (glock_of k.locks lock).state cell.plain ≡ true
    → may_cache (glocks.done deed (glock_of k.locks lock)).state cell.plain ≡ true
fits_on lock (glocks.Want state) k b cell at e minds may h = subst (λ s. may_cache s cell.plain ≡ true) (sym (state_stays (glocks.Want state) (glock_of k.locks lock) refl refl)) h
fits_on lock (glocks.Unwant state) k b cell at e minds may h = h
fits_on lock glocks.Pin k b cell at e minds may h = h
fits_on lock glocks.Unpin k b cell at e minds may h = h
fits_on lock (glocks.Granted state) k b cell at e minds may h = absurd (true≢false (sym h ∙ ap (λ s. may_cache s cell.plain) may.0))
fits_on lock (glocks.Callback keep) k b cell at e minds may h = subst (λ s. may_cache s cell.plain ≡ true) (sym (state_stays (glocks.Callback keep) (glock_of k.locks lock) refl refl)) h
fits_on lock (glocks.Down to) k b cell at e minds may h = minds.0 b cell at e
fits_on lock (glocks.Touch number) k b cell at e minds may h = h

act_fits : (act : glocks.Act) (k : Kept) → Minds (OnLocks act) k → glocks.MayCome act k.locks → AllFit k
    → (b : ℕ) (cell : Cell) → get k.cells b ≡ Some cell → may_cache (glock_of (glocks.after act k.locks) cell.lock).state cell.plain ≡ true
act_fits glocks.Unmount k minds may fit b cell at = fit b cell at
act_fits (glocks.On lock deed) k minds may fit b cell at =
    subst (λ (g : Glock). may_cache g.state cell.plain ≡ true) (sym (stand_apart cell.lock (glocks.On lock deed ∷ []) k.locks)) (by (same_lock_tells lock cell.lock))
  where
    by : ((same_lock lock cell.lock ≡ true) × (lock ≡ cell.lock)) ⊎ ((same_lock lock cell.lock ≡ false) × (lock ≡ cell.lock → ⊥))
        → may_cache (glocks.all_done (cond (same_lock lock cell.lock) (deed ∷ []) []) (glock_of k.locks cell.lock)).state cell.plain ≡ true
    by (inl e) = subst (λ t. may_cache (glocks.all_done (cond t (deed ∷ []) []) (glock_of k.locks cell.lock)).state cell.plain ≡ true) (sym e.0)
        (subst (λ l. may_cache (glocks.done deed (glock_of k.locks l)).state cell.plain ≡ true) e.1
        (fits_on lock deed k b cell at (sym e.1) minds may (subst (λ l. may_cache (glock_of k.locks l).state cell.plain ≡ true) (sym e.1) (fit b cell at))))
    by (inr n) = subst (λ t. may_cache (glocks.all_done (cond t (deed ∷ []) []) (glock_of k.locks cell.lock)).state cell.plain ≡ true) (sym n.0) (fit b cell at)

-- ---- a call on the cache

kept_was : (test : Cell → Bool) (o : Option Cell) (cell : Cell) → kept_if test o ≡ Some cell → o ≡ Some cell
kept_was test None cell e = cc
kept_was test (Some c) cell e = by (test c) e
  where
    by : (t : Bool) → cond t (Some c) None ≡ Some cell → Some c ≡ Some cell
    by true e' = e'
    by false e' = cc

kept_passes : (test : Cell → Bool) (o : Option Cell) (cell : Cell) → kept_if test o ≡ Some cell → test cell ≡ true
kept_passes test None cell e = cc
kept_passes test (Some c) cell e = by (test c) refl e
  where
    by : (t : Bool) → test c ≡ t → cond t (Some c) None ≡ Some cell → test cell ≡ true
    by true is e' = ap test (sym (ap (λ o. unwrap_or o c) e')) ∙ is
    by false is e' = cc

cache_fits : (act : cache.Act) (k : Kept) (cells : Cells) → Minds (OnCache act) k → cache.Leaves act k.cells cells → AllFit k
    → (b : ℕ) (cell : Cell) → get cells b ≡ Some cell → may_cache (glock_of k.locks cell.lock).state cell.plain ≡ true
cache_fits (cache.Put block new) k cells minds is fit b cell at =
    by (eq_by_cmp nat_cmp b block) (sym (get-insert nat_cmp_total k.cells block new b) ∙ sym (ap (λ m. get m b) is) ∙ at)
  where
    by : (t : Bool) → cond t (Some new) (get k.cells b) ≡ Some cell → may_cache (glock_of k.locks cell.lock).state cell.plain ≡ true
    by true e = subst (λ (c : Cell). may_cache (glock_of k.locks c.lock).state c.plain ≡ true) (ap (λ o. unwrap_or o new) e) minds
    by false e = fit b cell e
cache_fits (cache.DropLock lock keep_meta) k cells minds is fit b cell at = fit b cell (kept_was (stays lock keep_meta) (get k.cells b) cell (sym (is b) ∙ at))
cache_fits (cache.DropBlock block) k cells minds is fit b cell at =
    by (eq_by_cmp nat_cmp b block) (sym (get-remove nat_cmp_total k.cells block b) ∙ sym (ap (λ m. get m b) is) ∙ at)
  where
    by : (t : Bool) → cond t None (get k.cells b) ≡ Some cell → may_cache (glock_of k.locks cell.lock).state cell.plain ≡ true
    by true e = cc
    by false e = fit b cell e

-- ---- lists of calls

one_fits : (call : Call) (old new : Kept) → Minds call old → Leaves call old new → AllFit old → AllFit new
one_fits (OnLocks act) old new minds leaves fit b cell at =
    subst (λ (k : Kept). may_cache (glock_of k.locks cell.lock).state cell.plain ≡ true) (sym leaves.1)
    (act_fits act old minds leaves.0 fit b cell (sym (ap (λ (k : Kept). get k.cells b) leaves.1) ∙ at))
one_fits (OnCache act) old new minds leaves fit b cell at =
    subst (λ (k : Kept). may_cache (glock_of k.locks cell.lock).state cell.plain ≡ true) (sym leaves.1)
    (cache_fits act old new.cells minds leaves.0 fit b cell at)
one_fits (Flushes number) old new minds leaves fit b cell at = subst AllFit (sym leaves.1) fit b cell at

pub all_fit : (calls : List Call) (old new : Kept) → AllFit old → Goes calls old new → AllFit new
all_fit [] old new fit goes = subst AllFit (sym goes) fit
all_fit (call ∷ calls) old new fit goes = all_fit calls goes.0 new (one_fits call old goes.0 goes.1 goes.2 fit) goes.3

pub none_fit : (locks : Table) (flushed : ℕ) → AllFit (record { locks = locks; cells = empty; flushed = flushed })
none_fit locks flushed b cell at = let no : None ≡ Some cell = sym (get-empty nat_cmp b) ∙ at in cc

-- ---- what a state that may cache nothing, or no content, says of a cell

pub none_unlocked : (calls : List Call) (old new : Kept) → AllFit old → Goes calls old new
    → (b : ℕ) (cell : Cell) → get new.cells b ≡ Some cell → (glock_of new.locks cell.lock).state ≡ Un → ⊥
none_unlocked calls old new fit goes b cell at un = true≢false (sym (all_fit calls old new fit goes b cell at) ∙ ap (λ s. may_cache s cell.plain) un)

not_content : (plain : Bool) → not plain ≡ true → plain ≡ false
not_content true h = absurd (true≢false (sym h))
not_content false h = refl

pub none_plain : (calls : List Call) (old new : Kept) → AllFit old → Goes calls old new
    → (b : ℕ) (cell : Cell) → get new.cells b ≡ Some cell → (glock_of new.locks cell.lock).state ≡ Df → cell.plain ≡ false
none_plain calls old new fit goes b cell at df = not_content cell.plain (sym (ap (λ s. may_cache s cell.plain) df) ∙ all_fit calls old new fit goes b cell at)

-- ---- drops

own : (a b : LockName) → b ≡ a → same_lock a b ≡ true
own a b e = by (same_lock_tells a b)
  where
    by : ((same_lock a b ≡ true) × (a ≡ b)) ⊎ ((same_lock a b ≡ false) × (a ≡ b → ⊥)) → same_lock a b ≡ true
    by (inl h) = h.0
    by (inr n) = absurd (n.1 (sym e))

pub dropped_all : (old new : Cells) (lock : LockName) → DropsLock old new lock false → Fits new lock Un
dropped_all old new lock drops b cell at e =
    absurd (true≢false (sym (sym (ap (λ t. not t || (false && not cell.plain)) (own lock cell.lock e)) ∙ kept_passes (stays lock false) (get old b) cell (sym (drops b) ∙ at))))

pub dropped_plain : (old new : Cells) (lock : LockName) → DropsLock old new lock true → Fits new lock Df
dropped_plain old new lock drops b cell at e =
    sym (ap (λ t. not t || (true && not cell.plain)) (own lock cell.lock e)) ∙ kept_passes (stays lock true) (get old b) cell (sym (drops b) ∙ at)

pub shared_fits : (cells : Cells) (lock : LockName) → Fits cells lock Sh
shared_fits cells lock b cell at e = refl

-- ---- flushed before the release

locks_then : (calls : List Call) (old new : Kept) → Goes calls old new → new.locks ≡ glocks.after_all (on_locks calls) old.locks
locks_then [] old new goes = ap (λ (k : Kept). k.locks) goes
locks_then (OnLocks act ∷ calls) old new goes = locks_then calls goes.0 new goes.3 ∙ ap (λ (k : Kept). glocks.after_all (on_locks calls) k.locks) goes.2.1
locks_then (OnCache act ∷ calls) old new goes = locks_then calls goes.0 new goes.3 ∙ ap (λ (k : Kept). glocks.after_all (on_locks calls) k.locks) goes.2.1
locks_then (Flushes number ∷ calls) old new goes = locks_then calls goes.0 new goes.3 ∙ ap (λ (k : Kept). glocks.after_all (on_locks calls) k.locks) goes.2.1

pub go_flushed : (lock : LockName) (number : ℕ) (to : State) (calls : List Call) (old touched now : Kept)
    → Leaves (OnLocks (glocks.On lock (glocks.Touch number))) old touched → Goes calls touched now
    → list_any glocks.is_grant (glocks.deeds_on lock (on_locks calls)) ≡ false
    → (glock_of now.locks lock).state ≡ Ex → Minds (OnLocks (glocks.On lock (glocks.Down to))) now → number ≤ now.flushed
go_flushed lock number to calls old touched now leaves goes none ex minds =
    let u : Under = minds.1.0 in
    let at : now.locks ≡ glocks.after_all (glocks.On lock (glocks.Touch number) ∷ on_locks calls) old.locks =
    locks_then calls touched now goes ∙ ap (λ (k : Kept). glocks.after_all (on_locks calls) k.locks) leaves.1 in
    let kept : number ≤ (glock_of now.locks lock).touched =
    subst (λ (t : Table). number ≤ (glock_of t lock).touched) (sym at) (touches_stay lock number (on_locks calls) old.locks none) in
    let tells : u.touched ≡ (glock_of now.locks lock).touched = minds.1.1 in
    let head : u.flushed ≡ now.flushed = minds.1.2 in
    let flushed : u.touched ≤ u.flushed = (safe Ex u (subst (λ s. stage_of s u ≡ Release) ex minds.1.3)).flushed refl in
    omega arith
