-- The directory above the inode at a path's end, as the view has it.
use Rattle.std.proofs.Common.{◌≡◌, ℕ, true, List, [], ◌∷◌, ◌++◌, Option, None, Some, refl, sym, ap, ◌∙◌, subst}
use Rattle.std.specs.Prelude.{option_map}
use Rattle.file_tree.specs.Names.{IsName, parent_of}
use Rattle.gfs2_layout.specs.Holding.{Holding}
use Rattle.gfs2_layout.specs.Inode.{is_directory_in}
use Rattle.gfs2_layout.specs.Records.{Record}
use Rattle.gfs2_layout.specs.Structures.{is_directory}
use Rattle.glock_names.specs.Views.{Seen, IsView}
use Rattle.call_locks.specs.declared.want.Want.{Want}
use Rattle.dinode_tree.specs.Shown.{IsShown}
use Rattle.dinode_tree.proofs.Sound.{some_is_shown}
use Rattle.linear_dirs.proofs.Looked.{dinode_there}
use Rattle.resource_groups.specs.Putting.{HasDataBlock}
use Rattle.image_model.specs.Flat.{Path}
use Rattle.image_model.proofs.Held.{none_some}
use Rattle.image_changes.proofs.FlatPaths.{last_name}
use Rattle.directories.specs.Shown.{IsDirectoryIn}
use Rattle.directories.specs.Taking.{HasNameIn}
use Rattle.path_walks.specs.Walks.{LeadsTo, at_root, by_name, Names, IsSeenAt, IsLastOf}
use Rattle.path_walks.specs.declared.walk.Place.{Place}
use Rattle.path_walks.proofs.Leads.{leads_once}
use Rattle.path_walks.proofs.Lists.{parent_of_next}

no_end : {A : Type 0} (front : List A) (x : A) → [] ≡ front ++ x ∷ [] → ⊥
no_end [] x e = cc
no_end (y ∷ front) x e = cc

-- the last step of a path
pub record IsLastStep (v : Seen) (wants : List Want) (front : Path) (name : List ℕ) (a : ℕ) : Type 0 where
  pub dir : ℕ
  pub leads : LeadsTo v wants front dir
  pub is_name : IsName name
  pub names : Names v dir name a
  pub inside : HasDataBlock v a

last_step : (v : Seen) (wants : List Want) (path : Path) (a : ℕ) → LeadsTo v wants path a → (front : Path) (name : List ℕ) → path ≡ front ++ name ∷ [] → IsLastStep v wants front name a
last_step v wants [] a (at_root held) front name e = absurd (no_end front name e)
last_step v wants path a (by_name f dir a' n leads is_name named inside held) front name e =
    let same_front : f ≡ front = sym (parent_of_next f n) ∙ ap parent_of e ∙ parent_of_next front name in
    let same_name : n ≡ name = last_name f front n name e in
    record {
      dir = dir;
      leads = subst (λ p. LeadsTo v wants p dir) same_front leads;
      is_name = subst IsName same_name is_name;
      names = subst (λ m. Names v dir m a') same_name named;
      inside = inside;
    }

-- the name of the inode at a place is one of the directory above it
pub above_names : (v : Seen) (wants : List Want) (path : Path) (p : Place) (name : List ℕ) → IsView v → IsSeenAt v wants path p → IsLastOf path name → Names v p.above name p.inode
above_names v wants path p name view seen last =
    let step = last_step v wants path p.inode seen.leads last.0 name last.1 in
    let same : step.dir ≡ p.above = leads_once v wants last.0 (parent_of path) step.dir p.above view step.leads seen.above (sym (ap parent_of last.1 ∙ parent_of_next last.0 name)) in
    subst (λ d. Names v d name p.inode) same step.names

pub inode_inside : (v : Seen) (wants : List Want) (path : Path) (p : Place) (name : List ℕ) → IsSeenAt v wants path p → IsLastOf path name → HasDataBlock v p.inode
inode_inside v wants path p name seen last = (last_step v wants path p.inode seen.leads last.0 name last.1).inside

-- the record that leads to a child
pub record_of_child : (x : Option Record) (b : ℕ) → option_map (λ (r : Record). r.address) x ≡ Some b → (r : Record) × (x ≡ Some r)
record_of_child None b e = absurd (none_some e)
record_of_child (Some r) b e = (r, refl)

-- the directory, in the block that the view has
pub directory_block : (v : Seen) (dir : ℕ) → ((h : Holding) → IsShown v dir h → is_directory_in h ≡ true) → IsDirectoryIn v dir
directory_block v dir is bytes there =
    let s = some_is_shown v dir in
    ap is_directory (sym (dinode_there v s.0 dir bytes s.1.0 there)) ∙ is s.0 s.1.0

pub names_it : (v : Seen) (dir b : ℕ) (name : List ℕ) → Names v dir name b → HasNameIn v dir name
names_it v dir b name names h shown = let has = names.child h shown in (has.entry, has.says)
