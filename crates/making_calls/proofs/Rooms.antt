-- The blocks that were found for a new name, over a view and in an image that it may be of.
use Rattle.std.proofs.Common.{◌≡◌, ℕ, ◌-◌, ◌%◌, ◌<◌, ◌≤◌, true, List, [], ◌∷◌, length, get_or, map, Some, refl, sym, ap, ◌∙◌, subst, arith}
use Rattle.std.specs.Prelude.{Contains}
use Rattle.std.proofs.Math.Nat.{mod-lt}
use Rattle.std.proofs.lemmas.List.Elements.{Contains-append_right}
use Rattle.std.proofs.lemmas.Option.{slice_get-get_or}
use Rattle.file_tree.specs.Tree.{Tree}
use Rattle.glock_names.specs.Views.{Seen, IsView, HasGroup, group_of_entry}
use Rattle.glock_names.specs.declared.State.TheVariants.{Ex}
use Rattle.glock_names.specs.declared.steps.Missing.{Missing}
use Rattle.glock_names.specs.declared.views.Group.{Group}
use Rattle.growth_drafts.specs.Taken.{IsDistinct}
use Rattle.resource_groups.specs.Putting.{HasDataBlock}
use Rattle.resource_groups.specs.Shown.{IsDataOf, said}
use Rattle.resource_groups.proofs.Apart.{one_group}
use Rattle.image_model.specs.Image.{Image}
use Rattle.image_model.specs.Owners.{Owners, is_dinode}
use Rattle.image_model.specs.Stands.{Layout}
use Rattle.image_model.proofs.Counts.{all_in}
use Rattle.image_model.proofs.Members.{is_in}
use Rattle.image_model.proofs.Rising.{Rising, rising}
use Rattle.image_changes.specs.Does.{IsOf}
use Rattle.image_changes.proofs.Frame.{dinode_its}
use Rattle.draft_changes.proofs.Rows.{its_used}
use Rattle.draft_changes.proofs.Views.{groups_are_listed}
use Rattle.name_drafts.specs.Holds.{AreHeld, holds, hold_of, hold_for, hold_of_group}
use Rattle.room_search.specs.Blocks.{group_holds, group_of_node, states_by}
use Rattle.room_search.specs.Searches.{AreShown, IsGroupNeeded, IsHeldBlock, IsUnder}
use Rattle.room_search.specs.declared.search.Locked.{Locked}
use Rattle.room_search.specs.declared.search.Locked.TheVariants as locked
use Rattle.room_search.proofs.Holds.{group_needed, held_before, held_behind, held_in, read_group}
use Rattle.room_search.proofs.Room.{all_listed}
use Rattle.room_search.proofs.Shown.{bytes_shown}
use Rattle.making_calls.specs.Blocks.{block_holds, holds_from, new_holds}
use Rattle.making_calls.specs.Making.{TakesBlocks}
use Rattle.making_calls.specs.Searches.{IsTaken, blocks_of}
use Rattle.making_calls.specs.declared.blocks.Room.{Room}
use Rattle.making_calls.specs.declared.blocks.NewRoom.{NewRoom}
use Rattle.making_calls.specs.declared.blocks.NewRoom.TheVariants as taken
use Rattle.making_calls.proofs.Holds.{first_is}
use Rattle.making_calls.proofs.InImage.{block_holds_said}

-- ---- a view shows all of its groups, and a node has one of its own

pub own_of : (v : Seen) (node : ℕ) → 1 ≤ length v.groups → 1 ≤ node → (own : Group) × (group_of_node v.groups node ≡ Some own) × HasGroup v own
own_of v node some first =
    let i : ℕ = (node - 1) % length v.groups in
    let low : i < length v.groups = mod-lt (node - 1) (omega (arith, some)) in
    let nobody : Group = record { addr = 0; length = 0; first = 0; count = 0 } in
    (get_or v.groups i nobody, slice_get-get_or v.groups i nobody low, read_group v.groups i nobody low)

-- numbers that rise stand once each
pub distinct : (xs : List ℕ) → Rising xs → IsDistinct xs
distinct [] r = tt
distinct (x ∷ xs) r = ((λ has. let less : x < x = all_in (λ y. x < y) x xs r.0 (is_in x xs has) in absurd (omega (arith, less))), distinct xs r.1)

-- the rest are of the blocks
pub later_one : (r : Room) (b : ℕ) → Contains r.rest.items b → Contains (blocks_of r) b
later_one r b there = Contains-append_right (r.new.block ∷ []) r.rest.items b there

-- what a search tells, as far as the view shows
abbrev pub IsSearched : Seen → ℕ → ℕ → Locked NewRoom → Type 0
IsSearched v node need r = (at : ℕ → List ℕ) (own : Group) → AreShown v at → group_of_node v.groups node ≡ Some own → IsUnder v (block_holds (said at) v.groups own need) (IsTaken v (said at) own need) r

module _ (v : Seen) (node need : ℕ) (view : IsView v) (some : 1 ≤ length v.groups) (first : 1 ≤ node) where
  -- ---- the blocks

  -- they lie in groups, whose locks are held, as that of the new inode is, and whose bits call them free
  pub record IsHeldRoom (r : Room) : Type 0 where
    pub has : HasGroup v r.new.group
    pub data_block : IsDataOf r.new.group r.new.block
    pub inode_held : holds v (hold_of r.new.block Ex) ≡ true
    pub each : (b : ℕ) → Contains (blocks_of r) b → IsHeldBlock v b
    pub free : (b : ℕ) (k : Group) → Contains (blocks_of r) b → HasGroup v k → IsDataOf k b → (at : ℕ → List ℕ) → AreShown v at → said at k b ≡ 0
    pub once : IsDistinct (blocks_of r)
    pub takes : TakesBlocks v node need r

  pub room_held : (r : Room) → IsSearched v node need (locked.Is (taken.Is r)) → IsHeldRoom r
  room_held r found =
      let at = bytes_shown v view in
      let own = own_of v node some first in
      let f = found at.0 own.0 (λ g has. at.1 g) own.1 in
      record {
        has = f.1.has;
        data_block = f.1.data_block;
        inode_held = subst (AreHeld v) (ap (λ x. hold_for x Ex) (first_is v (said at.0) own.0 need r f.1)) (held_behind v (group_holds (said at.0) v.groups own.0 need) _ f.0) 0 (hold_of r.new.block Ex) (omega arith);
        each = λ b there.
            let e = f.1.room.each b there in
            record {
              group = e.group;
              has = e.has;
              data_block = e.data_block;
              held = held_in v (group_holds (said at.0) v.groups own.0 need) (hold_of_group e.group) (held_before v (group_holds (said at.0) v.groups own.0 need) _ f.0) e.listed;
            };
        free = λ b k there has lies at shown.
            let e = (found at own.0 shown own.1).1.room.each b there in
            subst (λ g. said at g b ≡ 0) (one_group v b e.group k view e.has e.data_block has lies) e.free;
        once = distinct (blocks_of r) (rising (blocks_of r) f.1.room.rise);
        takes = record {
          own = own.0;
          of_node = own.1;
          first = λ at shown. (found at own.0 shown own.1).1;
          held = λ at shown. (found at own.0 shown own.1).0;
        };
      }

  -- what stands in the way of the search

  pub block_way : (m : Missing) → IsSearched v node need (locked.NeedBlock m) → IsGroupNeeded v m
  block_way m found =
      let at = bytes_shown v view in
      let own = own_of v node some first in
      group_needed v (block_holds (said at.0) v.groups own.0 need) m (found at.0 own.0 (λ g has. at.1 g) own.1)

  pub few_way : (free : ℕ) → IsSearched v node need (locked.Is (taken.TooFew free)) → free < need
  few_way free found = let at = bytes_shown v view in let own = own_of v node some first in (found at.0 own.0 (λ g has. at.1 g) own.1).1.fewer

  -- and then each group was looked through, under its lock
  pub all_locks : (free : ℕ) → IsSearched v node need (locked.Is (taken.TooFew free)) → AreHeld v (map hold_of_group v.groups)
  all_locks free found =
      let at = bytes_shown v view in
      let own = own_of v node some first in
      let f = found at.0 own.0 (λ g has. at.1 g) own.1 in
      all_listed v (said at.0) (own.0 ∷ []) need f.1.fewer_first (held_before v (group_holds (said at.0) v.groups own.0 need) _ f.0)

-- ---- in an image

module _ (v : Seen) (im : Image) (o : Owners) (l : Layout) (t : Tree) (of : IsOf v im o l t) where
  -- the locks by what the bits say
  pub new_are : (node need : ℕ) (own : Group) → group_of_node v.groups node ≡ Some own → HasGroup v own → new_holds o l node need ≡ block_holds (said im.at) v.groups own need
  new_are node need own is has =
      ap (λ k. holds_from (states_by o) (map group_of_entry l.groups) k need) (ap (λ gs. group_of_node gs node) of.groups ∙ is) ∙ sym (block_holds_said v im o l t of own need has)

  -- an inode's dinode is a data block of a group
  pub dinode_inside : (a : ℕ) → is_dinode (o a) ≡ true → HasDataBlock v a
  dinode_inside a so =
      let placed = of.stands.laid.zoned.placed a (its_used a a (o a) (dinode_its a (o a) so)).0 in
      (group_of_entry placed.0, (groups_are_listed v im o l t (group_of_entry placed.0) of).1 (placed.0, placed.1, refl), record { low = placed.2.low; high = placed.2.high })
