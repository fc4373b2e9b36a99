-- The order of the states of a glock: unlocked below shared and deferred, which stand side by side, below exclusive.
use Rattle.std.specs.Prelude.{Bool, true, false, not, ◌&&◌}
use Rattle.glock_names.specs.declared.State.{State}
use Rattle.glock_names.specs.declared.State.TheVariants.{Un, Sh, Df, Ex}

-- whether a lock that is held in the second state serves who wants it in the first
abbrev pub leq : State → State → Bool
leq Un b = true
leq a Ex = true
leq Sh Sh = true
leq Df Df = true
leq _ _ = false

-- the first is weaker than the second
abbrev pub is_below : State → State → Bool
is_below a b = leq a b && not (leq b a)

-- what a node may cache of the blocks under a lock that it holds so: all of them where it is shared or exclusive, and where it is deferred
-- those that aren't plain content of files
abbrev pub may_cache : State → Bool → Bool
may_cache Un plain = false
may_cache Sh plain = true
may_cache Df plain = not plain
may_cache Ex plain = true
