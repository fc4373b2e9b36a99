-- What a node keeps of its glocks, its cache, and how far its journal has come: all of it after a list of calls, the first of them first.
use Rattle.std.specs.Prelude.{◌≡◌, ℕ, ◌≤◌, true, List, [], ◌∷◌, Some, ⊤}
use Rattle.std.specs.FinMap.{get}
use Rattle.glock_names.specs.declared.LockName.{LockName}
use Rattle.glock_names.specs.declared.State.{State}
use Rattle.glock_names.specs.StateOrder.{may_cache}
use Rattle.block_cache.specs.declared.cache.Cell.{Cell}
use Rattle.block_cache.specs.Cells.{Cells}
use Rattle.block_cache.specs.Calls as cache
use Rattle.demotion.specs.declared.stages.Under.{Under}
use Rattle.demotion.specs.declared.stages.Stage.TheVariants.{Release}
use Rattle.demotion.specs.Stages.{stage_of}
use Rattle.glock_machine.specs.Table.{Table, glock_of}
use Rattle.glock_machine.specs.Calls as glocks

pub record Kept : Type 0 where
  pub locks : Table
  pub cells : Cells
  -- the number of the last call in the accepted head of the node's journal
  pub flushed : ℕ

-- every cell is one that a node may cache which holds its lock as this node does
abbrev pub AllFit : Kept → Type 0
AllFit k = (b : ℕ) (cell : Cell) → get k.cells b ≡ Some cell → may_cache (glock_of k.locks cell.lock).state cell.plain ≡ true

-- every cell of the lock is one that a node may cache which holds the lock so
abbrev pub Fits : Cells → LockName → State → Type 0
Fits cells lock state = (b : ℕ) (cell : Cell) → get cells b ≡ Some cell → cell.lock ≡ lock → may_cache state cell.plain ≡ true

pub data Call : Type 0 where
  OnLocks : (act : glocks.Act) → Call
  OnCache : (act : cache.Act) → Call
  Flushes : (number : ℕ) → Call

-- the lock's demotion has come to its release, with the numbers that the node keeps: of the last call that touched the lock, and of the last in the
-- journal's head. What is live, away or on its way under the lock is as the log and the disk have it, which is not kept here
abbrev pub IsReleased : LockName → Kept → Type 0
IsReleased lock k = (u : Under) × (u.touched ≡ (glock_of k.locks lock).touched) × (u.flushed ≡ k.flushed) × (stage_of (glock_of k.locks lock).state u ≡ Release)

-- what a node minds: a block is put only under a lock that is held so that it may be cached, and a lock goes down only at its release, and only to
-- a state in which what is cached under it may stay
abbrev pub Minds : Call → Kept → Type 0
Minds (OnLocks (glocks.On lock (glocks.Down to))) k = Fits k.cells lock to × IsReleased lock k
Minds (OnLocks _) k = ⊤
Minds (OnCache (cache.Put block cell)) k = may_cache (glock_of k.locks cell.lock).state cell.plain ≡ true
Minds (OnCache _) k = ⊤
Minds (Flushes number) k = ⊤

-- what a call leaves. A flush leaves a head that has no fewer calls
abbrev pub Leaves : Call → Kept → Kept → Type 0
Leaves (OnLocks act) old new = glocks.MayCome act old.locks × (new ≡ record old { locks = glocks.after act old.locks })
Leaves (OnCache act) old new = cache.Leaves act old.cells new.cells × (new ≡ record old { cells = new.cells })
Leaves (Flushes number) old new = (old.flushed ≤ number) × (new ≡ record old { flushed = number })

abbrev pub Goes : List Call → Kept → Kept → Type 0
Goes [] old new = new ≡ old
Goes (call ∷ calls) old new = (next : Kept) × Minds call old × Leaves call old next × Goes calls next new

-- those of the calls that are on the locks
abbrev pub on_locks : List Call → List glocks.Act
on_locks [] = []
on_locks (OnLocks act ∷ calls) = act ∷ on_locks calls
on_locks (_ ∷ calls) = on_locks calls
