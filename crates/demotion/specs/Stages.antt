-- The stages of a demotion, and which of them a lock needs.
use Rattle.std.specs.Prelude.{◌≡◌, ℕ, ◌≤◌, Bool, true, false, not, ◌&&◌, nat_lt, if◌then◌else◌, ⊤}
use Rattle.glock_names.specs.declared.State.{State}
use Rattle.glock_names.specs.declared.State.TheVariants.{Un, Sh, Df, Ex}
use Rattle.demotion.specs.declared.stages.Stage.{Stage}
use Rattle.demotion.specs.declared.stages.Stage.TheVariants.{Flush, Home, Barrier, Revoke, Release}
use Rattle.demotion.specs.declared.stages.Under.{Under}

-- the place of a stage in their order
abbrev pub rank : Stage → ℕ
rank Flush = 0
rank Home = 1
rank Barrier = 2
rank Revoke = 3
rank Release = 4

-- only under an exclusive lock a node has anything in its log
abbrev pub is_exclusive : State → Bool
is_exclusive Ex = true
is_exclusive Df = false
is_exclusive Sh = false
is_exclusive Un = false

-- a call that isn't in the journal touched the lock
abbrev pub is_unflushed : Under → Bool
is_unflushed u = nat_lt u.flushed u.touched

-- a live block isn't home, and isn't on its way
abbrev pub has_away : Under → Bool
has_away u = u.live && u.away

-- the first stage that is needed: the flush of what isn't in the journal, the way home, the barrier that ends it, the revokes of what
-- is live; nothing is left then but to let the lock go
abbrev pub stage_of : State → Under → Stage
stage_of held u =
    if not (is_exclusive held) then Release else
    if is_unflushed u then Flush else
    if has_away u then Home else
    if u.in_flight then Barrier else
    if u.live then Revoke else Release

-- what the stages before this one leave under an exclusive lock: past the flush no call that touched it is missing in the journal, past the way
-- home no live block is away, past the barrier none is on its way, past the revokes none is live; and no stage is past the release
abbrev pub IsPast : Stage → Under → Type 0
IsPast Flush u = u.touched ≤ u.flushed
IsPast Home u = has_away u ≡ false
IsPast Barrier u = u.in_flight ≡ false
IsPast Revoke u = u.live ≡ false
IsPast Release u = ⊥

abbrev pub AreDoneBefore : Stage → Under → Type 0
AreDoneBefore Flush u = ⊤
AreDoneBefore Home u = IsPast Flush u
AreDoneBefore Barrier u = IsPast Flush u × IsPast Home u
AreDoneBefore Revoke u = IsPast Flush u × IsPast Home u × IsPast Barrier u
AreDoneBefore Release u = IsPast Flush u × IsPast Home u × IsPast Barrier u × IsPast Revoke u

-- the lock may go: it isn't held exclusive, or no change under it is unflushed, none of its blocks is live, and none is on its way home
pub record MayGo (held : State) (u : Under) : Type 0 where
  pub flushed : is_exclusive held ≡ true → u.touched ≤ u.flushed
  pub not_live : is_exclusive held ≡ true → u.live ≡ false
  pub settled : is_exclusive held ≡ true → u.in_flight ≡ false
