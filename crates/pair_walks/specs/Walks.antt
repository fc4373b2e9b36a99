-- Where a walk along two paths ends: as far as a view shows, and in an image that the view may be of.
use Rattle.std.specs.Prelude.{ℕ, ◌≡◌, ◌≢◌, ◌⊎◌, ◌+◌, ◌<◌, true, false, List, [], ◌∷◌, ◌++◌, length, slice_get, None, Some}
use Rattle.file_tree.specs.Tree.{Tree}
use Rattle.file_tree.specs.Names.{last_of, leads_to, parent_of}
use Rattle.file_tree.specs.Apply.{Refused}
use Rattle.file_tree.specs.Apply as tree
use Rattle.file_tree.specs.declared.reply.Reply.TheVariants.{NotFound, NotDir}
use Rattle.gfs2_layout.specs.Inode.{is_directory_in}
use Rattle.gfs2_layout.specs.Records.{child_named}
use Rattle.glock_names.specs.Views.{Seen, HasBlock}
use Rattle.glock_names.specs.declared.LockName.{LockName}
use Rattle.glock_names.specs.declared.State.{State}
use Rattle.glock_names.specs.declared.steps.Missing.{Missing}
use Rattle.call_locks.specs.declared.want.Want.{Want}
use Rattle.dinode_tree.specs.Walking.{missing_dinode}
use Rattle.image_model.specs.Flat.{Path}
use Rattle.image_model.specs.Image.{Image}
use Rattle.image_model.specs.Owners.{Owners}
use Rattle.image_model.specs.Stands.{Layout}
use Rattle.image_changes.specs.Instances.{is_directory_at, records_at}
use Rattle.path_walks.specs.Holds.{AreHeld, IsAskedFor, IsFirstLack, hold_of, holds}
use Rattle.path_walks.specs.Walks.{IsAbsent, IsHeldAt, IsNeededIn, IsNext, IsOnTheWay, IsPlaceOf, IsSeenAt, LacksName, LeadsTo}
use Rattle.path_walks.specs.Walks as path
use Rattle.path_walks.specs.declared.walk.Place.{Place}
use Rattle.pair_walks.specs.Orders.{pair_holds, stronger}
use Rattle.pair_walks.specs.declared.walk.End.{End}
use Rattle.pair_walks.specs.declared.walk.End.TheVariants as end
use Rattle.pair_walks.specs.declared.walk.PairWalk.{PairWalk}
use Rattle.pair_walks.specs.declared.walk.PairWalk.TheVariants as pair

-- ---- as far as a view shows

-- Where the second path ends: it leads to this inode; all but its last name lead to this directory, which hasn't that; a directory before has no such
-- name; or a name is asked of a file.
abbrev pub IsEndOf : Seen → List Want → Path → End → Type 0
IsEndOf v wants q (end.At p) = IsSeenAt v wants q p
IsEndOf v wants q (end.Lacks p) = (q ≢ []) × IsSeenAt v wants (parent_of q) p × LacksName v p.inode (last_of q)
IsEndOf v wants q end.NotFound = IsAbsent v wants (parent_of q)
IsEndOf v wants q end.NotDir = (a : ℕ) × IsOnTheWay v wants q a (λ h. is_directory_in h ≡ false)

-- and so many of its inodes are there
abbrev pub IsEndAt : Seen → List Want → Path → ℕ → End → Type 0
IsEndAt v wants q count (end.At p) = IsSeenAt v wants q p × (count ≡ length q + 1)
IsEndAt v wants q count (end.Lacks p) = (q ≢ []) × IsSeenAt v wants (parent_of q) p × LacksName v p.inode (last_of q) × (count ≡ length q)
IsEndAt v wants q count end.NotFound = (absent : IsAbsent v wants (parent_of q)) × (count ≡ length absent.front + 1)
IsEndAt v wants q count end.NotDir = (a : ℕ) × (way : IsOnTheWay v wants q a (λ h. is_directory_in h ≡ false)) × (count ≡ length way.front + 1)

-- ---- which way goes on

-- An inode of the first way goes first: behind so many inodes of the second that comes next there which has a greater number, or the second has ended.
pub data GoesFirst (v : Seen) (q : Path) (second : List Want) (j a : ℕ) : Type 0 where
  comes_later : (c : ℕ) → IsNext v second q j c → a < c → GoesFirst v q second j a
  ended : (e : End) → IsEndAt v second q j e → GoesFirst v q second j a

-- So one of the second way: behind so many inodes of the first that comes next there which has a greater number, or the first path has led to its inode, and the second doesn't go on from there.
-- So once the first path is seen to lead nowhere, none of the second does.
pub data GoesSecond (v : Seen) (p q : Path) (first : List Want) (i a : ℕ) : Type 0 where
  comes_later : (c : ℕ) → IsNext v first p i c → a < c → GoesSecond v p q first i a
  at_end : (from : Place) → IsSeenAt v first p from → i ≡ length p + 1 → leads_to p q ≡ false → GoesSecond v p q first i a

-- So many inodes of each of two ways are passed, as far as the view shows: of those that come next always that with the least number, and one that is next on both at once.
pub data ArePassed (v : Seen) (p q : Path) (first second : List Want) : ℕ → ℕ → Type 0 where
  none : ArePassed v p q first second 0 0
  of_first : (i j a : ℕ) → ArePassed v p q first second i j → IsNext v first p i a → GoesFirst v q second j a → ArePassed v p q first second (i + 1) j
  of_second : (i j a : ℕ) → ArePassed v p q first second i j → IsNext v second q j a → GoesSecond v p q first i a → ArePassed v p q first second i (j + 1)
  of_both : (i j a : ℕ) → ArePassed v p q first second i j → IsNext v first p i a → IsNext v second q j a → ArePassed v p q first second (i + 1) (j + 1)

-- This lock isn't held so strongly: so many inodes of each way are passed, and it is that of the inode that comes next on one of them, which goes first, as it is wanted there; or on both, in the
-- stronger of the states.
pub data IsPairLacked (v : Seen) (p q : Path) (first second : List Want) : LockName → State → Type 0 where
  on_first : (i j a : ℕ) (w : Want) → ArePassed v p q first second i j → IsNext v first p i a → slice_get first i ≡ Some w → GoesFirst v q second j a
      → holds v (hold_of a w.state) ≡ false → IsPairLacked v p q first second (record { kind = 2; number = a }) w.state
  on_second : (i j a : ℕ) (x : Want) → ArePassed v p q first second i j → IsNext v second q j a → slice_get second j ≡ Some x → GoesSecond v p q first i a
      → holds v (hold_of a x.state) ≡ false → IsPairLacked v p q first second (record { kind = 2; number = a }) x.state
  on_both : (i j a : ℕ) (w x : Want) → ArePassed v p q first second i j → IsNext v first p i a → IsNext v second q j a → slice_get first i ≡ Some w → slice_get second j ≡ Some x
      → holds v (hold_of a (stronger w.state x.state)) ≡ false → IsPairLacked v p q first second (record { kind = 2; number = a }) (stronger w.state x.state)

-- Of the inode in this block, which comes next on the path behind so many, the view hasn't this block: its dinode, once its lock is held; or one without which it isn't told where the next name leads.
pub data IsUnreadOf (v : Seen) (wants : List Want) (path : Path) (depth a : ℕ) (m : Missing) : Type 0 where
  a_dinode : IsNext v wants path depth a → IsHeldAt v wants depth a → v.block_at a ≡ None → m ≡ missing_dinode a → IsUnreadOf v wants path depth a m
  in_directory : (front back : Path) (name : List ℕ) → IsNext v wants path depth a → path ≡ front ++ name ∷ back → depth ≡ length front → LeadsTo v wants front a → HasBlock v a
      → IsNeededIn v a name m → IsUnreadOf v wants path depth a m

-- The view hasn't this block: so many inodes of each way are passed, and one of the walks doesn't go on without it from the inode that comes next there, which goes first, or comes next on both.
pub data IsPairUnread (v : Seen) (p q : Path) (first second : List Want) (m : Missing) : Type 0 where
  on_first : (i j a : ℕ) → ArePassed v p q first second i j → IsUnreadOf v first p i a m → GoesFirst v q second j a ⊎ IsNext v second q j a → IsPairUnread v p q first second m
  on_second : (i j a : ℕ) → ArePassed v p q first second i j → IsUnreadOf v second q j a m → GoesSecond v p q first i a ⊎ IsNext v first p i a → IsPairUnread v p q first second m

-- what is told of two walks; of where the second ends nothing where the first one's end decides, but a block on it may be asked for before that is seen
abbrev pub IsPairTold : Seen → Path → Path → List Want → List Want → PairWalk → Type 0
IsPairTold v p q first second pair.NotFound = IsAbsent v first p
IsPairTold v p q first second pair.NotDir = (a : ℕ) × IsOnTheWay v first p a (λ h. is_directory_in h ≡ false)
IsPairTold v p q first second (pair.Within from) = (leads_to p q ≡ true) × IsSeenAt v first p from
IsPairTold v p q first second (pair.Apart from to) = (leads_to p q ≡ false) × IsSeenAt v first p from × IsEndOf v second q to
IsPairTold v p q first second (pair.NeedLock lock state) = IsPairLacked v p q first second lock state
IsPairTold v p q first second (pair.NeedBlock m) = IsPairUnread v p q first second m

-- the block breaks this rule: on one of the paths
abbrev pub IsPairDamage : Seen → Path → Path → List Want → List Want → ℕ → ℕ → Type 0
IsPairDamage v p q first second rule b = path.IsDamage v first p rule b ⊎ path.IsDamage v second q rule b

-- ---- in one image

-- where the second path ends
abbrev pub IsEndIn : Seen → Image → Owners → Layout → Tree → Path → End → Type 0
IsEndIn v im o l t q (end.At p) = IsPlaceOf v im o l q p
IsEndIn v im o l t q (end.Lacks p) = IsPlaceOf v im o l (parent_of q) p × (is_directory_at im o p.inode ≡ true) × (child_named (records_at im o p.inode) (last_of q) ≡ None)
IsEndIn v im o l t q end.NotFound = tree.walk t (parent_of q) ≡ Refused NotFound
IsEndIn v im o l t q end.NotDir = tree.walk t q ≡ Refused NotDir

-- where the two walks end, and that every lock of the list is held; or the first lock of it that isn't, or a block that the view hasn't
abbrev pub IsPairWalked : Seen → Image → Owners → Layout → Tree → Path → Path → List Want → List Want → PairWalk → Type 0
IsPairWalked v im o l t p q first second pair.NotFound = (tree.walk t p ≡ Refused NotFound) × AreHeld v (pair_holds im o l p q first second)
IsPairWalked v im o l t p q first second pair.NotDir = (tree.walk t p ≡ Refused NotDir) × AreHeld v (pair_holds im o l p q first second)
IsPairWalked v im o l t p q first second (pair.Within from) = (leads_to p q ≡ true) × IsPlaceOf v im o l p from × AreHeld v (pair_holds im o l p q first second)
IsPairWalked v im o l t p q first second (pair.Apart from to) = (leads_to p q ≡ false) × IsPlaceOf v im o l p from × IsEndIn v im o l t q to × AreHeld v (pair_holds im o l p q first second)
IsPairWalked v im o l t p q first second (pair.NeedLock lock state) = IsFirstLack v (pair_holds im o l p q first second) lock state
IsPairWalked v im o l t p q first second (pair.NeedBlock m) = IsAskedFor v im o l (pair_holds im o l p q first second) m
