-- The blocks that were found for a move.
use Rattle.std.proofs.Common.{◌≡◌, ◌≢◌, ◌⊎◌, ◌<◌, inl, inr, ℕ, true, true≢false, List, [], ◌∷◌, ◌++◌, Option, None, Some, Vec, Global, sym, subst, arith}
use Rattle.std.proofs.lemmas.List.Elements.{Contains-append_cases}
use Rattle.std.specs.Prelude.{Contains, IfNone, IfSome, is_some}
use Rattle.glock_names.specs.Steps.{TellsOf}
use Rattle.glock_names.specs.Views.{Seen, IsView}
use Rattle.glock_names.specs.declared.LockName.{LockName}
use Rattle.glock_names.specs.declared.State.{State}
use Rattle.glock_names.specs.declared.steps.CallFault.{CallFault}
use Rattle.glock_names.specs.declared.steps.CallFault.TheVariants.{Damaged, NoMemory}
use Rattle.glock_names.specs.declared.steps.Missing.{Missing}
use Rattle.glock_names.specs.declared.views.Group.{Group}
use Rattle.growth_drafts.specs.Taken.{IsDistinct}
use Rattle.name_moves.specs.Groups.{GroupsAreHeld}
use Rattle.image_model.proofs.Counts.{all_in}
use Rattle.image_model.proofs.Members.{is_in}
use Rattle.image_model.proofs.Rising.{Rising, rising}
use Rattle.move_ends.specs.Holds.{hold_of_group, holds}
use Rattle.resource_groups.specs.Putting.{HasDataBlock}
use Rattle.resource_groups.specs.Shown.{said}
use Rattle.resource_groups.proofs.Apart.{one_group}
use Rattle.room_search.specs.Blocks.{group_of_node}
use Rattle.room_search.specs.Searches.{AreHeldBlocks, AreShown, IsRoomOf, IsTakenOf, IsTold, IsUnder}
use Rattle.room_search.specs.declared.search.Taken.{Taken}
use Rattle.room_search.specs.declared.search.Taken.TheVariants as taken
use Rattle.room_search.specs.declared.search.Locked.{Locked}
use Rattle.room_search.specs.declared.search.Locked.TheVariants as locked
use Rattle.room_search.proofs.Room.{all_listed}
use Rattle.room_search.proofs.Shown.{bytes_shown}
use Rattle.name_moves.specs.Moving.{IsPlaceOfMove, Move, freed_by}
use Rattle.move_calls.specs.Carrying.{HasRoom, IsCounted, IsFull, LacksLock, NeedsBlock, first_groups, locks_of_room}

-- numbers that rise stand once each
distinct : (xs : List ℕ) → Rising xs → IsDistinct xs
distinct [] r = tt
distinct (x ∷ xs) r = ((λ has. let less : x < x = all_in (λ y. x < y) x xs r.0 (is_in x xs has) in absurd (omega (arith, less))), distinct xs r.1)

pub one_there : {A : Type 0} (P : A → Type 0) (x : Option A) → is_some x ≡ true → IfSome x P → (a : A) × P a
one_there P None some is = absurd (true≢false (sym some))
one_there P (Some a) some is = (a, is)

pub some_map : {A : Type 0} (P Q : A → Type 0) (x : Option A) → ((a : A) → P a → Q a) → IfSome x P → IfSome x Q
some_map P Q None so is = tt
some_map P Q (Some a) so is = so a is

pub none_map : {A : Type 0} (P Q : Type 0) (x : Option A) → (P → Q) → IfNone x P → IfNone x Q
none_map P Q None so is = so is
none_map P Q (Some a) so is = tt

pub at_some : {A : Type 0} (P : A → Type 0) (x : Option A) (a : A) → x ≡ Some a → IfSome x P → P a
at_some P x a is some = subst (λ y. IfSome y P) is some

pub at_none : {A : Type 0} (P : Type 0) (x : Option A) → x ≡ None → IfNone x P → P
at_none P x is none = subst (λ y. IfNone y P) is none

-- ---- blocks that aren't of the move

pub place_of : (m : Move) (b : ℕ) → (b ≡ m.from) ⊎ ((b ≡ m.to.inode) ⊎ (b ≡ m.moved.inode)) → IsPlaceOfMove m b
place_of m b (inl e) = IsPlaceOfMove.of_source e
place_of m b (inr (inl e)) = IsPlaceOfMove.of_target e
place_of m b (inr (inr e)) = IsPlaceOfMove.of_inode e

pub off_room : (m : Move) (room : List ℕ) → ((b : ℕ) → Contains room b → (b ≢ m.from) × (b ≢ m.to.inode) × (b ≢ m.moved.inode)) → ((b : ℕ) → Contains room b → Contains (freed_by m) b → ⊥)
    → (b : ℕ) → Contains room b → IsPlaceOfMove m b → ⊥
off_room m room dinodes goes b has (IsPlaceOfMove.of_source e) = (dinodes b has).0 e
off_room m room dinodes goes b has (IsPlaceOfMove.of_target e) = (dinodes b has).1 e
off_room m room dinodes goes b has (IsPlaceOfMove.of_inode e) = (dinodes b has).2 e
off_room m room dinodes goes b has (IsPlaceOfMove.of_replaced there) = goes b has there

-- ---- the blocks

module _ (v : Seen) (node need : ℕ) (m : Move) (room : List ℕ) (has : HasRoom v node m need room) where
  pub room_inside : (b : ℕ) → Contains room b → HasDataBlock v b
  room_inside b there = let is = has.blocks.each b there in (is.group, is.has, is.data_block)

  pub room_once : IsDistinct room
  room_once = distinct room (rising room has.blocks.rise)

  -- with what goes
  pub all_groups : IsView v → GroupsAreHeld v (room ++ freed_by m)
  all_groups view g listed (b, there, lies) = elim (Contains-append_cases room (freed_by m) b there) [
    | inl in_room ↦
        let is = has.blocks.each b in_room in
        subst (λ k. holds v (hold_of_group k) ≡ true) (one_group v b is.group g view is.has is.data_block listed lies) is.held
    | inr goes ↦ has.counted.first.held g listed (inr (b, goes, lies))
  ]

-- ---- what a search for them tells

-- where none is needed nothing is told
pub told_asked : (need : ℕ) (P : ℕ → ℕ → Type 0) (f : CallFault) → (need ≡ 0 → TellsOf (λ rule b. ⊥) f) → TellsOf P f → TellsOf (λ rule b. (need ≢ 0) × P rule b) f
told_asked need P (Damaged b rule) never is = (never, is)
told_asked need P NoMemory never is = tt

abbrev pub Finds : Seen → ℕ → Move → ℕ → Locked Taken → Type 0
Finds v node m need r = (at : ℕ → List ℕ) (own : Group) → AreShown v at → group_of_node v.groups node ≡ Some own
    → IsUnder v (locks_of_room v at own need m) (IsTakenOf v (said at) v.groups (first_groups v own need m) need) r

module _ (v : Seen) (node need : ℕ) (m : Move) (counted : IsCounted v node m need) (r : Locked Taken) (finds : Finds v node m need r) (told : IsTold v need r) where
  abbrev first : List Group
  first = first_groups v counted.first.own need m

  under : (r' : Locked Taken) → r ≡ r' → (at : ℕ → List ℕ) → AreShown v at → IsUnder v (locks_of_room v at counted.first.own need m) (IsTakenOf v (said at) v.groups first need) r'
  under r' is at shown = subst (Finds v node m need) is finds at counted.first.own shown counted.first.of_node.of_node

  pub room_found : (blocks : Vec ℕ Global) (room : List ℕ) → room ≡ blocks.items → r ≡ locked.Is (taken.Is blocks) → HasRoom v node m need room
  room_found blocks room are is = record {
    counted = counted;
    blocks = subst (AreHeldBlocks v need) (sym are) (subst (IsTold v need) is told);
    are = λ at shown. subst (IsRoomOf v (said at) v.groups first need) (sym are) (under (locked.Is (taken.Is blocks)) is at shown).1;
    held = λ at shown. (under (locked.Is (taken.Is blocks)) is at shown).0;
  }

  pub too_few_found : (free : ℕ) → IsView v → r ≡ locked.Is (taken.TooFew free) → IsFull v node m need free
  too_few_found free view is =
      let at = bytes_shown v view in
      let f = under (locked.Is (taken.TooFew free)) is at.0 (λ g has. at.1 g) in
      record {
        counted = counted;
        held = all_listed v (said at.0) first need f.1.fewer_first f.0;
        free_are = λ other shown. (under (locked.Is (taken.TooFew free)) is other shown).1.free_are;
        fewer = subst (IsTold v need) is told;
      }

  pub lock_found : (lock : LockName) (state : State) → r ≡ locked.NeedLock lock state → LacksLock v node m lock state
  lock_found lock state is = LacksLock.of_room need counted (subst (IsTold v need) is told) (under (locked.NeedLock lock state) is)

  pub block_found : (n : Missing) → r ≡ locked.NeedBlock n → NeedsBlock v node m n
  block_found n is = NeedsBlock.of_room need counted (subst (IsTold v need) is told) (under (locked.NeedBlock n) is)
