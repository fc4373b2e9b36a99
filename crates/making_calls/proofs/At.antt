-- The directory at the place to which the walk came, as far as the view shows it.
use Rattle.std.proofs.Common.{◌≡◌, ℕ, ◌+◌, ◌≤◌, true, false, List, [], ◌∷◌, ◌++◌, length, Option, None, Ok, refl, sym, ap, ◌∙◌, subst}
use Rattle.std.specs.Prelude.{Contains, IfNone}
use Rattle.file_tree.specs.Names.{parent_of, last_of}
use Rattle.file_tree.specs.declared.call.Call.{Call}
use Rattle.file_tree.proofs.WalkLaws.{last_front}
use Rattle.gfs2_layout.specs.Holding.{Holding}
use Rattle.glock_names.specs.Views.{Seen, IsView}
use Rattle.glock_names.specs.Steps.{IfIs}
use Rattle.glock_names.specs.declared.steps.Missing.{Missing}
use Rattle.glock_names.specs.declared.steps.Step.{Step}
use Rattle.glock_names.specs.declared.steps.Step.TheVariants.{Is}
use Rattle.glock_names.proofs.StepLaws.{answer_at}
use Rattle.call_locks.specs.Wants.{wanted}
use Rattle.call_locks.specs.WantLaws.{path_of}
use Rattle.name_drafts.specs.DirectoryShown.{IsShown}
use Rattle.resource_groups.proofs.Apart.{one_group}
use Rattle.image_changes.specs.Flats.{in_directory}
use Rattle.name_drafts.specs.Holds.{holds, hold_of_group}
use Rattle.name_drafts.specs.Walks.{IsLastOf, IsSeenAt, LacksName}
use Rattle.name_drafts.specs.walk.Place.{Place}
use Rattle.name_drafts.proofs.Leads.{no_end}
use Rattle.name_drafts.proofs.Lists.{parent_of_next}
use Rattle.name_drafts.specs.Inserting.{IsNeededForName, IsWrongForName}
use Rattle.name_drafts.specs.Way.{IsOnWay}
use Rattle.name_drafts.specs.Drafting as drafting
use Rattle.name_drafts.specs.Drafting.{IsNeededIn, IsWrongIn}
use Rattle.making_calls.specs.Making.{IsDamage, IsNeededFor, IsToGetName, NeedsBlocks, TakesForName, directory_path, name_in}
use Rattle.making_calls.specs.Making as damage
use Rattle.making_calls.specs.Searches.{blocks_of}
use Rattle.making_calls.specs.declared.blocks.Room.{Room}
use Rattle.making_calls.proofs.Rooms.{IsHeldRoom}

-- what holds where nothing was found
pub none_at : (step : Step (Option ℕ)) (o : Option ℕ) (P : Type 0) → step ≡ Is o → o ≡ None → IfIs (Ok step) (λ found. IfNone found P) → P
none_at step o P is none holds = subst (λ found. IfNone found P) none (answer_at step o (λ found. IfNone found P) is holds)

module _ (c : Call) (name : List ℕ) (last : IsLastOf (path_of c false) name) where
  pub own_name : name_in c ≡ name
  own_name = ap last_of last.1 ∙ last_front last.0 name

  -- the path is the directory's with the name
  pub whole_path : in_directory (directory_path c) name ≡ path_of c false
  whole_path = ap (λ q. q ++ name ∷ []) (ap parent_of last.1 ∙ parent_of_next last.0 name) ∙ sym last.1

  pub below_root : path_of c false ≡ [] → ⊥
  below_root root = no_end last.0 name (sym root ∙ last.1)

  module _ (v : Seen) (p : Place) (seen : IsSeenAt v (wanted c) (directory_path c) p) (lacks : LacksName v p.inode name) where
    -- it is to get the name
    abbrev pub to_get : IsToGetName v c
    to_get = record {
      below = below_root;
      directory = p.inode;
      leads = seen.leads;
      there = seen.there;
      lacks = subst (LacksName v p.inode) (sym own_name) lacks;
    }

    abbrev pub needs_blocks : (more : ℕ) → TakesForName v p.inode name more → NeedsBlocks v c (more + 1)
    needs_blocks more takes = record { gets = to_get; more = more; takes = subst (λ n. TakesForName v p.inode n more) (sym own_name) takes; all = refl }

    pub insert_needs : (m : Missing) → v.block_at m.block ≡ None → ((h : Holding) → IsShown v p.inode h → IsNeededForName v h name m) → IsNeededFor v c m
    insert_needs m absent needs = damage.to_insert to_get absent (λ h shown. subst (λ n. IsNeededForName v h n m) (sym own_name) (needs h shown))

    pub name_damage : (rule b : ℕ) → ((h : Holding) → IsShown v p.inode h → IsWrongForName v h rule b) → IsDamage v c rule b
    name_damage rule b wrong = damage.for_name rule b to_get wrong

    module _ (node more : ℕ) (view : IsView v) (some : 1 ≤ length v.groups) (first : 1 ≤ node) (r : Room) (room : IsHeldRoom v node (more + 1) view some first r) where
      -- the group's bits call a block free that is on the way to the name
      pub free_damage : (b : ℕ) → Contains (blocks_of r) b → ((h : Holding) → IsShown v p.inode h → IsOnWay h name b) → IsDamage v c 5 b
      free_damage b there on =
          let h = room.each b there in
          damage.called_free b to_get (λ k shown. subst (λ n. IsOnWay k n b) (sym own_name) (on k shown)) (record { group = h.group; has = h.has; data_block = h.data_block; held = h.held; free = room.free b h.group there h.has h.data_block })

      -- what the draft asks for, and tells
      pub addition_needs : (m : Missing) → IsNeededIn v p.inode name (blocks_of r) m → IsNeededFor v c m
      addition_needs m (drafting.IsNeededIn.in_directory absent needs) = insert_needs m absent needs
      addition_needs m (drafting.IsNeededIn.in_group asks) = damage.IsNeededFor.of_group to_get (record {
        group = asks.0;
        has = asks.1;
        held = let h = room.each asks.2.0 asks.2.1 in subst (λ g. holds v (hold_of_group g) ≡ true) (one_group v asks.2.0 h.group asks.0 view h.has h.data_block asks.1 asks.2.2) h.held;
        missing = asks.2.3.block;
      })

      pub addition_damage : (rule b : ℕ) → IsWrongIn v p.inode (blocks_of r) rule b → IsDamage v c rule b
      addition_damage rule b (drafting.IsWrongIn.in_directory q d wrong) = name_damage q d wrong
      addition_damage rule b (drafting.IsWrongIn.in_group q d breaks) = damage.in_group q d to_get (record {
        group = breaks.0;
        has = breaks.1;
        held = let h = room.each breaks.2.0 breaks.2.1 in subst (λ g. holds v (hold_of_group g) ≡ true) (one_group v breaks.2.0 h.group breaks.0 view h.has h.data_block breaks.1 breaks.2.2) h.held;
        broken = breaks.3;
      })
