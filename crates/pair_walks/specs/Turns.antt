-- One turn of a walk along two paths.
use Rattle.std.specs.Prelude.{ℕ, ◌≡◌, ◌⊎◌, ◌<◌, Bool, true, false, None}
use Rattle.gfs2_layout.specs.Holding.{Holding}
use Rattle.glock_names.specs.Views.{Seen, HasBlock}
use Rattle.glock_names.specs.declared.State.{State}
use Rattle.dinode_tree.specs.Broken.{IsBroken}
use Rattle.dinode_tree.specs.Shown.{IsShown}
use Rattle.dinode_tree.specs.Walking.{missing_dinode}
use Rattle.image_model.specs.Flat.{Path}
use Rattle.path_walks.specs.Holds.{hold_of, holds}
use Rattle.path_walks.specs.Walks.{IsReadAt}
use Rattle.path_walks.specs.declared.walk.Place.{Place}
use Rattle.pair_walks.specs.Ahead.{IsAheadOf, IsDamageAhead, IsNeededAhead}
use Rattle.pair_walks.specs.declared.next.Next.{Next}
use Rattle.pair_walks.specs.declared.next.Next.TheVariants as next
use Rattle.pair_walks.specs.declared.turns.Turn.{Turn}
use Rattle.pair_walks.specs.declared.turns.Turn.TheVariants as turn
use Rattle.pair_walks.specs.declared.walk.End.TheVariants as end
use Rattle.pair_walks.specs.declared.walk.PairWalk.{PairWalk}
use Rattle.pair_walks.specs.declared.walk.PairWalk.TheVariants as pair

-- ---- which way goes on

-- an inode with this number comes before what is next on the other way
abbrev pub IsBefore : ℕ → Next → Type 0
IsBefore b (next.Inode c above) = b < c
IsBefore b (next.Ended e) = Unit {0}

-- the first way lets an inode of the second go first: it comes before its own, or the first way has ended at an inode, and that doesn't decide
abbrev pub LetsSecond : ℕ → Bool → Next → Type 0
LetsSecond b ends (next.Inode c above) = b < c
LetsSecond b ends (next.Ended (end.At p)) = ends ≡ false
LetsSecond b ends (next.Ended e) = ⊥

-- whether a first way has ended so that the second one doesn't matter
abbrev pub decides : Bool → Next → Bool
decides ends (next.Inode b above) = false
decides ends (next.Ended (end.At p)) = ends
decides ends (next.Ended e) = true

-- a way has ended at a directory that hasn't a name
abbrev pub IsNowhere : Next → Type 0
IsNowhere (next.Ended (end.Lacks p)) = Unit {0}
IsNowhere (next.Ended end.NotFound) = Unit {0}
IsNowhere n = ⊥

-- the walk ends so
abbrev pub IsOver : Next → Next → Bool → PairWalk → Type 0
IsOver one two ends pair.NotFound = IsNowhere one
IsOver one two ends pair.NotDir = one ≡ next.Ended end.NotDir
IsOver one two ends (pair.Within p) = (one ≡ next.Ended (end.At p)) × (ends ≡ true)
IsOver one two ends (pair.Apart p e) = (one ≡ next.Ended (end.At p)) × (two ≡ next.Ended e) × (ends ≡ false)
IsOver one two ends w = ⊥

abbrev pub IsTurn : Next → Next → Bool → Turn → Type 0
IsTurn one two ends (turn.First b above) = (one ≡ next.Inode b above) × IsBefore b two
IsTurn one two ends (turn.Second b above) = (two ≡ next.Inode b above) × LetsSecond b ends one
IsTurn one two ends (turn.Both b above beside) = (one ≡ next.Inode b above) × (two ≡ next.Inode b beside)
IsTurn one two ends (turn.Over w) = IsOver one two ends w

-- ---- past an inode

-- the inode in this block, to which so many names of the path lead, was read with its lock held, and this comes behind it
pub record IsPassed (v : Seen) (path : Path) (depth a above : ℕ) (state : State) (n : Next) : Type 0 where
  pub place : Place
  pub read : IsReadAt v a above state place
  pub ahead : IsAheadOf v place path depth n

-- Its lock isn't held so strongly; or it is, and the view hasn't the dinode, or a block without which it isn't told what comes behind it.
abbrev pub IsHindered : Seen → Path → ℕ → ℕ → State → PairWalk → Type 0
IsHindered v path depth a state (pair.NeedLock lock s) = (record { kind = 2; number = a } ≡ lock) × (state ≡ s) × (holds v (hold_of a state) ≡ false)
IsHindered v path depth a state (pair.NeedBlock m) = (holds v (hold_of a state) ≡ true) × (((m ≡ missing_dinode a) × (v.block_at a ≡ None)) ⊎ (HasBlock v a × IsNeededAhead v a path depth m))
IsHindered v path depth a state w = ⊥

-- with its lock held, it is damaged, or the next name is
abbrev pub IsDamagedAt : Seen → Path → ℕ → ℕ → State → ℕ → ℕ → Type 0
IsDamagedAt v path depth a state rule b = (holds v (hold_of a state) ≡ true) × (((h : Holding) → IsShown v a h → IsBroken h rule b) ⊎ IsDamageAhead v a path depth rule b)
