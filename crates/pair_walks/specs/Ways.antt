-- How far a walk along each of two paths came: as far as a view shows, and in an image that the view may be of.
use Rattle.std.specs.Prelude.{ℕ, false, ◌≡◌, ◌≢◌, ◌+◌, ◌-◌, ◌≤◌, List, [], ◌∷◌, ◌++◌, length, take, drop}
use Rattle.file_tree.specs.Names.{IsName, leads_to, parent_of}
use Rattle.file_tree.specs.Tree.{Tree}
use Rattle.glock_names.specs.Views.{Seen}
use Rattle.call_locks.specs.declared.want.Want.{Want}
use Rattle.image_model.specs.Flat.{Path}
use Rattle.image_model.specs.Image.{Image}
use Rattle.image_model.specs.Owners.{Owners}
use Rattle.image_model.specs.Stands.{Layout, flat_of}
use Rattle.image_changes.specs.Does.{IsOf}
use Rattle.image_changes.specs.Instances.{IsAt}
use Rattle.resource_groups.specs.Putting.{HasDataBlock}
use Rattle.path_walks.specs.Holds.{Hold, AreHeld, holds_in}
use Rattle.path_walks.specs.Walks.{AreInOrder, LeadsTo, Names}
use Rattle.pair_walks.specs.Orders.{ends_both, left_after, merged, pair_holds}
use Rattle.pair_walks.specs.Turns.{decides}
use Rattle.pair_walks.specs.Walks.{ArePassed, IsEndAt, IsEndIn}
use Rattle.pair_walks.specs.declared.next.Next.{Next}
use Rattle.pair_walks.specs.declared.next.Next.TheVariants as next
use Rattle.pair_walks.specs.declared.turns.Way.{Way}

-- ---- as far as a view shows

-- The inode in this block comes next on the path, behind so many names, with the one above it: the root, which is above itself, or that of the last of these
-- names in a directory to which those before lead.
pub data IsComing (v : Seen) (wants : List Want) (path : Path) : ℕ → ℕ → ℕ → Type 0 where
  the_root : IsComing v wants path 0 v.root v.root
  the_child : (front back : Path) (dir b : ℕ) (name : List ℕ) → path ≡ front ++ name ∷ back → LeadsTo v wants front dir → IsName name → Names v dir name b → HasDataBlock v b
      → IsComing v wants path (length front + 1) b dir

-- an inode comes next, or the path has ended so, all its inodes being passed
abbrev pub IsCome : Seen → List Want → Path → ℕ → Next → Type 0
IsCome v wants path depth (next.Inode b above) = IsComing v wants path depth b above
IsCome v wants path depth (next.Ended e) = IsEndAt v wants path depth e

-- the walk along a path with a want for each inode, behind so many names
pub record IsOnWay (v : Seen) (wants : List Want) (path : Path) (depth : ℕ) (n : Next) : Type 0 where
  pub names : path ≢ []
  pub as_many : length wants ≡ length path + 1
  pub order : AreInOrder wants
  pub come : IsCome v wants path depth n

-- the same names and wants
pub record IsSameWay (w x : Way) : Type 0 where
  pub names : x.names.now ≡ w.names.now
  pub wants : x.wants.now ≡ w.wants.now

-- the inodes that are yet to come on the way, at most
abbrev pub left_on : Way → ℕ
left_on w = length w.names.now + 1 - w.depth

-- ---- in one image

-- the locks of the path that are yet to be taken, from this depth on
abbrev pub holds_from : Image → Owners → Layout → Path → List Want → ℕ → List Hold
holds_from im o l path wants depth = holds_in im o l path (drop depth wants)

-- the root is above itself; any other inode of a path has the one before it above it
abbrev pub IsAboveIn : Image → Owners → Layout → Path → ℕ → ℕ → Type 0
IsAboveIn im o l path depth above = IsAt im o l (parent_of (take depth path)) above

-- the inode that comes next is that of the path so far, and the one above it; or the path ends so, and no more of it is there
abbrev pub IsComeIn : Seen → Image → Owners → Layout → Tree → List Want → Path → ℕ → Next → Type 0
IsComeIn v im o l t wants path depth (next.Inode b above) = (depth ≤ length path) × IsAt im o l (take depth path) b × IsAboveIn im o l path depth above
IsComeIn v im o l t wants path depth (next.Ended e) = IsEndIn v im o l t path e × (holds_from im o l path wants depth ≡ [])

-- this is what is left of the list of locks, once each before it is held
pub record IsLeft (v : Seen) (list later : List Hold) : Type 0 where
  pub taken : List Hold
  pub held : AreHeld v taken
  pub whole : list ≡ taken ++ later

-- of two ways, with so many locks taken of each, those that are yet to be taken
abbrev pub left_of : Image → Owners → Layout → Path → Path → List Want → List Want → ℕ → ℕ → List Hold
left_of im o l p q first second i j = merged (left_after (ends_both (flat_of im o) l.root p q)) (holds_from im o l p first i) (holds_from im o l q second j)

-- Both ways came so far, and that is what is left of their locks; where the first way's end decides, nothing is.
pub record AreAlong (v : Seen) (im : Image) (o : Owners) (l : Layout) (t : Tree) (p q : Path) (first second : List Want) (i j : ℕ) (m n : Next) : Type 0 where
  pub on_first : IsComeIn v im o l t first p i m
  pub on_second : IsComeIn v im o l t second q j n
  pub left : IsLeft v (pair_holds im o l p q first second) (left_of im o l p q first second i j)

-- ---- how far both came

-- As far as the view shows, and in each image that it may be of. Where the first way's end decides, what is passed of the second doesn't matter.
pub record AreOnTheirWays (v : Seen) (p q : Path) (first second : List Want) (i j : ℕ) (m n : Next) : Type 0 where
  pub on_first : IsOnWay v first p i m
  pub on_second : IsOnWay v second q j n
  pub passed : decides (leads_to p q) m ≡ false → ArePassed v p q first second i j
  pub images : (im : Image) (o : Owners) (l : Layout) (t : Tree) → IsOf v im o l t → AreAlong v im o l t p q first second i j m n

abbrev pub AreUnderway : Seen → Way → Way → Type 0
AreUnderway v one two = AreOnTheirWays v one.names.now two.names.now one.wants.now two.wants.now one.depth two.depth one.next two.next
