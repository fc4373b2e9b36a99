-- What is needed, or broken, over a draft, is so of the view below it.
use Rattle.std.proofs.Common.{ℕ, List}
use Rattle.std.specs.Ordering.{nat_cmp}
use Rattle.std.specs.FinMap.{FinMap}
use Rattle.drafts.specs.Fates.{seen_with}
use Rattle.drafts.specs.declared.fate.Fate.{Fate}
use Rattle.gfs2_layout.specs.Holding.{Holding}
use Rattle.gfs2_layout.specs.Inode.{entry_block}
use Rattle.glock_names.specs.Views.{Seen, HasBlock}
use Rattle.glock_names.specs.declared.steps.Missing.{Missing}
use Rattle.dinode_tree.specs.Reading.{IsNeeded}
use Rattle.hash_dirs.specs.Broken as leaves
use Rattle.hash_dirs.specs.Shown as hashed
use Rattle.directories.specs.Shown as dirs
use Rattle.name_drafts.specs.HashInserting as inserting
use Rattle.name_drafts.specs.Inserting.{IsNeededForName, IsWrongForName, SeesForName}
use Rattle.name_drafts.specs.Inserting as naming
use Rattle.name_drafts.specs.Needing.{SeesToInsert}
use Rattle.name_drafts.proofs.Fates.{absent_below}

module _ (v : Seen) (fates : FinMap nat_cmp Fate) where
  abbrev w : Seen
  w = seen_with v fates

  tree_below : (h : Holding) (wanted : ℕ → Type 0) (least : ℕ) (m : Missing) → IsNeeded w h wanted least m → IsNeeded v h wanted least m
  tree_below h wanted least m is = record { lock = is.lock; absent = absent_below v fates m.block is.absent; way = is.way }

  chain_below : (h : Holding) (wanted : ℕ → Type 0) (m : Missing) → hashed.IsNeededFor w h wanted m → hashed.IsNeededFor v h wanted m
  chain_below h wanted m (hashed.IsNeededFor.of_table i is needed) = hashed.IsNeededFor.of_table i is (tree_below h _ 0 m needed)
  chain_below h wanted m (hashed.IsNeededFor.a_leaf i is leads inside lock plain absent) = hashed.IsNeededFor.a_leaf i is leads inside lock plain (absent_below v fates m.block absent)

  pub needed_below : (h : Holding) (name : List ℕ) (m : Missing) → dirs.IsNeededFor w h name m → dirs.IsNeededFor v h name m
  needed_below h name m (dirs.IsNeededFor.the_dinode is absent) = dirs.IsNeededFor.the_dinode is (absent_below v fates h.own absent)
  needed_below h name m (dirs.IsNeededFor.in_hashed is needed) = dirs.IsNeededFor.in_hashed is (chain_below h _ m needed)

  leaf_below : (h : Holding) (rule b : ℕ) → leaves.IsWrongIn w h rule b → leaves.IsWrongIn v h rule b
  leaf_below h rule b (leaves.IsWrongIn.breaks _ _ broken) = leaves.IsWrongIn.breaks rule b broken
  leaf_below h _ b (leaves.IsWrongIn.outside i from x leads some away) = leaves.IsWrongIn.outside i from x leads some away
  leaf_below h _ b (leaves.IsWrongIn.stray i from x r leads some there low away) = leaves.IsWrongIn.stray i from x r leads some there low away

  pub broken_below : (h : Holding) (rule b : ℕ) → dirs.IsBroken w h rule b → dirs.IsBroken v h rule b
  broken_below h rule b (dirs.IsBroken.of_inode broken) = dirs.IsBroken.of_inode broken
  broken_below h rule b (dirs.IsBroken.in_linear is plain broken) = dirs.IsBroken.in_linear is plain broken
  broken_below h rule b (dirs.IsBroken.in_hashed is wrong) = dirs.IsBroken.in_hashed is (leaf_below h rule b wrong)

  insert_below : (h : Holding) (name : List ℕ) (m : Missing) → inserting.IsNeededToInsert w h name m → inserting.IsNeededToInsert v h name m
  insert_below h name m (inserting.IsNeededToInsert.of_chain needed) = inserting.IsNeededToInsert.of_chain (chain_below h _ m needed)
  insert_below h name m (inserting.IsNeededToInsert.of_table full one needed) = inserting.IsNeededToInsert.of_table full one (tree_below h _ 0 m needed)

  pub name_needed_below : (h : Holding) (name : List ℕ) (m : Missing) → IsNeededForName w h name m → IsNeededForName v h name m
  name_needed_below h name m (naming.IsNeededForName.the_dinode is absent) = naming.IsNeededForName.the_dinode is (absent_below v fates h.own absent)
  name_needed_below h name m (naming.IsNeededForName.in_hashed is needed) = naming.IsNeededForName.in_hashed is (insert_below h name m needed)

  wrong_insert_below : (h : Holding) (rule b : ℕ) → inserting.IsWrongToInsert w h rule b → inserting.IsWrongToInsert v h rule b
  wrong_insert_below h rule b (inserting.IsWrongToInsert.in_directory _ _ wrong) = inserting.IsWrongToInsert.in_directory rule b (leaf_below h rule b wrong)
  wrong_insert_below h _ b (inserting.IsWrongToInsert.stray_pointer from c led away) = inserting.IsWrongToInsert.stray_pointer from c led away

  pub name_wrong_below : (h : Holding) (rule b : ℕ) → IsWrongForName w h rule b → IsWrongForName v h rule b
  name_wrong_below h rule b (naming.IsWrongForName.of_directory broken) = naming.IsWrongForName.of_directory (broken_below h rule b broken)
  name_wrong_below h rule b (naming.IsWrongForName.in_hashed is wrong) = naming.IsWrongForName.in_hashed is (wrong_insert_below h rule b wrong)

  -- what is looked at over a draft the view has, where the draft sees no more blocks than it
  module _ (sees : (b : ℕ) → HasBlock w b → HasBlock v b) (h : Holding) (name : List ℕ) where
    insert_seen_below : SeesToInsert w h name → SeesToInsert v h name
    insert_seen_below is = record {
      own = sees h.own is.own;
      pointer = sees (entry_block h (hashed.index_for h name)) is.pointer;
      leaves = λ place x chain. sees x (is.leaves place x chain);
      table = λ full one. let tree = is.table full one in record { own = sees h.own tree.own; below = λ b under. sees b (tree.below b under) };
    }

    pub name_seen_below : SeesForName w h name → SeesForName v h name
    name_seen_below is = record { dinode = sees h.own is.dinode; in_hashed = λ hashed. insert_seen_below (is.in_hashed hashed) }
