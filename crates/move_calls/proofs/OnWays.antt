-- The ways of a move that can be made.
use Rattle.std.proofs.Common.{◌≡◌, ◌≢◌, ℕ, true, List, [], Option, None, Some, Result, Ok, Err, refl, sym, ap, ◌∙◌}
use Rattle.std.specs.Prelude.{Contains, IfNone, IfSome, codes}
use Rattle.gfs2_layout.specs.Holding.{Holding}
use Rattle.gfs2_layout.specs.Structures.{is_directory}
use Rattle.glock_names.specs.Steps.{IfDamaged, IfIs, IfNeedBlock, OnlyDamaged}
use Rattle.glock_names.specs.Views.{Seen, IsView}
use Rattle.glock_names.specs.declared.steps.CallFault.{CallFault}
use Rattle.glock_names.specs.declared.steps.CallFault.TheVariants.{Damaged, NoMemory}
use Rattle.glock_names.specs.declared.steps.Step.{Step}
use Rattle.glock_names.specs.declared.steps.Step.TheVariants.{Is, NeedBlock}
use Rattle.move_ends.proofs.Forms.{is_directory_here, some_directory}
use Rattle.move_ends.specs.Shown.{IsShown}
use Rattle.image_model.proofs.Rows.{and_left}
use Rattle.name_moves.specs.Inserting.{IsNeededForName, IsWrongForName}
use Rattle.name_moves.specs.Way.{IsOnWay, IsRightWay}
use Rattle.name_moves.specs.Moving.{CanBeMoved, Move, freed_by, is_reparented}
use Rattle.move_ends.specs.Walks.{IsDirectoryAt}
use Rattle.move_calls.specs.Checks.{IsNeededOnWays, IsOffItsWays, IsOnItsWay, IsWayOf, IsWrongOnWays}

module _ (v : Seen) (m : Move) (can : CanBeMoved v m) where
  source_directory : IsDirectoryAt v m.from
  source_directory h shown = is_directory_here v m.from h can.source can.source_there shown

  target_directory : IsDirectoryAt v m.to.inode
  target_directory h shown = is_directory_here v m.to.inode h can.target can.target_there shown

  moved_directory : is_reparented m ≡ true → IsDirectoryAt v m.moved.inode
  moved_directory moves h shown = sym (ap is_directory (can.inode_read h shown)) ∙ and_left (is_directory m.moved.dinode) _ moves

  pub old_way : IsWayOf v m m.from m.name
  old_way = IsWayOf.to_old source_directory

  pub new_way : IsWayOf v m m.to.inode m.new_name
  new_way = IsWayOf.to_new target_directory

  pub parent_way : is_reparented m ≡ true → IsWayOf v m m.moved.inode (codes "..")
  parent_way moves = IsWayOf.to_parent moves (moved_directory moves)

  -- no directory of them goes
  pub way_stays : (dir : ℕ) (name : List ℕ) → IsWayOf v m dir name → ¬ (Contains (freed_by m) dir)
  way_stays _ _ (IsWayOf.to_old is) goes = (can.others m.from goes).0 refl
  way_stays _ _ (IsWayOf.to_new is) goes = (can.others m.to.inode goes).1 refl
  way_stays _ _ (IsWayOf.to_parent moves is) goes = (can.others m.moved.inode goes).2 refl

-- ---- what a walk to a name answers that looks for some blocks

module _ (v : Seen) (dir : ℕ) (name blocks : List ℕ) (view : IsView v) (r : Result (Step (Option ℕ)) CallFault) where
  pub found_on : (m : Move) → IsWayOf v m dir name → ((h : Holding) → IsShown v dir h → IfIs r (λ found. IfSome found (λ b. Contains blocks b × IsOnWay h name b)))
      → IfIs r (λ found. IfSome found (λ b. Contains blocks b × IsOnItsWay v m b))
  found_on m way on = by r on
    where
      by : (r : Result (Step (Option ℕ)) CallFault) → ((h : Holding) → IsShown v dir h → IfIs r (λ found. IfSome found (λ b. Contains blocks b × IsOnWay h name b)))
          → IfIs r (λ found. IfSome found (λ b. Contains blocks b × IsOnItsWay v m b))
      by (Ok (Is (Some b))) on =
          let s = some_directory v dir view in
          ((on s.0 s.1).0, record { directory = dir; name = name; way = way; on = λ h shown. (on h shown).1 })
      by (Ok (Is None)) on = tt
      by (Ok (NeedBlock n)) on = tt
      by (Err f) on = tt

  pub none_on : ((h : Holding) → IsShown v dir h → IfIs r (λ found. IfNone found (IsRightWay v h name blocks)))
      → IfIs r (λ found. IfNone found ((b : ℕ) → Contains blocks b → (h : Holding) → IsShown v dir h → IsOnWay h name b → ⊥))
  none_on right = by r right
    where
      by : (r : Result (Step (Option ℕ)) CallFault) → ((h : Holding) → IsShown v dir h → IfIs r (λ found. IfNone found (IsRightWay v h name blocks)))
          → IfIs r (λ found. IfNone found ((b : ℕ) → Contains blocks b → (h : Holding) → IsShown v dir h → IsOnWay h name b → ⊥))
      by (Ok (Is None)) right = λ b there h shown on. (right h shown).apart b there on
      by (Ok (Is (Some b))) right = tt
      by (Ok (NeedBlock n)) right = tt
      by (Err f) right = tt

  pub right_on : (h : Holding) → IfIs r (λ found. IfNone found (IsRightWay v h name blocks)) → IfIs r (λ found. IfNone found (blocks ≢ [] → IsRightWay v h name blocks))
  right_on h right = by r right
    where
      by : (r : Result (Step (Option ℕ)) CallFault) → IfIs r (λ found. IfNone found (IsRightWay v h name blocks)) → IfIs r (λ found. IfNone found (blocks ≢ [] → IsRightWay v h name blocks))
      by (Ok (Is None)) right = λ some. right
      by (Ok (Is (Some b))) right = tt
      by (Ok (NeedBlock n)) right = tt
      by (Err f) right = tt

  pub needed_on : (m : Move) → IsWayOf v m dir name → ((h : Holding) → IsShown v dir h → IfNeedBlock r (IsNeededForName v h name)) → IfNeedBlock r (λ n. v.block_at n.block ≡ None) → IfNeedBlock r (IsNeededOnWays v m)
  needed_on m way needs absent = by r needs absent
    where
      by : (r : Result (Step (Option ℕ)) CallFault) → ((h : Holding) → IsShown v dir h → IfNeedBlock r (IsNeededForName v h name)) → IfNeedBlock r (λ n. v.block_at n.block ≡ None) → IfNeedBlock r (IsNeededOnWays v m)
      by (Ok (NeedBlock n)) needs absent = record { directory = dir; name = name; way = way; needed = needs; absent = absent }
      by (Ok (Is found)) needs absent = tt
      by (Err f) needs absent = tt

  pub wrong_on : (m : Move) → IsWayOf v m dir name → ((h : Holding) → IsShown v dir h → OnlyDamaged r (IsWrongForName v h)) → IfDamaged r (IsWrongOnWays v m)
  wrong_on m way wrong = by r wrong
    where
      by : (r : Result (Step (Option ℕ)) CallFault) → ((h : Holding) → IsShown v dir h → OnlyDamaged r (IsWrongForName v h)) → IfDamaged r (IsWrongOnWays v m)
      by (Err (Damaged b rule)) wrong = record { directory = dir; name = name; way = way; wrong = wrong }
      by (Err NoMemory) wrong = tt
      by (Ok found) wrong = tt

-- ---- the three of them

module _ (v : Seen) (m : Move) (blocks : List ℕ) where
  abbrev Off : ℕ → List ℕ → Type 0
  Off dir name = (b : ℕ) → Contains blocks b → (h : Holding) → IsShown v dir h → IsOnWay h name b → ⊥

  -- what is on none of the three is on no way
  pub off_all : Off m.from m.name → Off m.to.inode m.new_name → (is_reparented m ≡ true → Off m.moved.inode (codes "..")) → (b : ℕ) → Contains blocks b → IsOffItsWays v m b
  off_all old new parent b there _ _ (IsWayOf.to_old is) = old b there
  off_all old new parent b there _ _ (IsWayOf.to_new is) = new b there
  off_all old new parent b there _ _ (IsWayOf.to_parent moves is) = parent moves b there

-- what is so in any case is so where a block is found, or none
pub any_none : (Q : Type 0) → Q → (r : Result (Step (Option ℕ)) CallFault) → IfIs r (λ found. IfNone found Q)
any_none Q is (Ok (Is None)) = is
any_none Q is (Ok (Is (Some b))) = tt
any_none Q is (Ok (NeedBlock n)) = tt
any_none Q is (Err f) = tt

pub none_as : (P Q : Type 0) → (P → Q) → (r : Result (Step (Option ℕ)) CallFault) → IfIs r (λ found. IfNone found P) → IfIs r (λ found. IfNone found Q)
none_as P Q so (Ok (Is None)) is = so is
none_as P Q so (Ok (Is (Some b))) is = tt
none_as P Q so (Ok (NeedBlock n)) is = tt
none_as P Q so (Err f) is = tt
