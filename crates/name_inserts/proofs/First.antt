-- A directory that has just become a hashed one: its table, its one leaf, and that it can get a name.
use Rattle.std.proofs.Common.{◌≡◌, ◌⊎◌, inl, inr, ℕ, suc, ◌*◌, ◌/◌, ◌^◌, ◌<◌, ◌≤◌, true, false, List, ◌∷◌, Some, sym, ap, ◌∙◌, subst, arith}
use Rattle.std.specs.Prelude.{◌==◌}
use Rattle.std.specs.FinMap.{FinMap}
use Rattle.std.specs.Ordering.{nat_cmp}
use Rattle.std.proofs.lemmas.Bool.{cond-true, eq-eqb}
use Rattle.crc_words.specs.Remainder.{crc32_of}
use Rattle.drafts.specs.declared.fate.Fate.{Fate}
use Rattle.drafts.specs.declared.fate.Fate.TheVariants.{Put}
use Rattle.dinode_tree.specs.Reading.{inode_lock}
use Rattle.gfs2_layout.specs.Holding.{Holding}
use Rattle.gfs2_layout.specs.Inode.{Leads, depth_in, from_block, from_dinode, height_in, is_directory_in, is_hashed_in, leaf_in, table_count}
use Rattle.gfs2_layout.specs.declared.dinode.Dinode.{Dinode}
use Rattle.gfs2_layout.specs.declared.leaf.Leaf.{Leaf}
use Rattle.glock_names.specs.Views.{HasBlock, Seen}
use Rattle.dinode_tree.specs.Shown as inode
use Rattle.dinode_tree.proofs.Sound.{sound_is_whole}
use Rattle.resource_groups.specs.Putting.{HasDataBlock}
use Rattle.hash_inserts.specs.Shown.{IsShown, IsSound, index_for}
use Rattle.hash_inserts.proofs.Chained.{index_low, rules}
use Rattle.hash_inserts.specs.Steps.{IsConverted, first_count}
use Rattle.hash_inserts.specs.Finding.{IsOnlyLeaf}
use Rattle.hash_inserts.specs.Inserting.{ConvertsWithin, MayChange, StaysInside, a_data_block, a_taken_one, the_dinode}
use Rattle.directories.specs.Pointers.{IsTableOf}
use Rattle.directories.specs.tree_table.TreeTable.{TreeTable}
use Rattle.name_inserts.proofs.Converted.{depth_is}

-- no block stands below a dinode of height 0
pub none_below : (h : Holding) → height_in h ≡ 0 → (from k level first b : ℕ) → Leads h from k level first b → ⊥
none_below h zero_high from k level first b (from_dinode _ _ high low some) = absurd (omega (arith, high, zero_high))
none_below h zero_high from k level first b (from_block above _ _ _ _ _ leads low some) = none_below h zero_high above _ _ _ _ leads

module _ (h m : Holding) (b : ℕ) (sound : IsSound h) (directory : is_directory_in h ≡ true) (linear : is_hashed_in h ≡ false) (is : IsConverted h m b) (after : IsSound m) where
  stuffed : height_in m ≡ 0
  stuffed = ap (λ (d : Dinode). d.height) is.dinode ∙ (sound.inode.linear directory linear).stuffed

  pub table_of : (v : Seen) (dir : ℕ) (t : TreeTable) → t.directory ≡ dir → 2 ^ t.depth ≡ first_count h.size → IsShown v dir m → IsTableOf t v m
  table_of v dir t at deep shown =
      let count : 2 ^ t.depth ≡ table_count m = deep ∙ sym is.count in
      record {
        shown = subst (λ a. inode.IsShown v a m) (sym at) shown.inode;
        hashed = is.hashed;
        depth = depth_is h.size t.depth sound.block_size deep ∙ sym (depth_is h.size (depth_in m) sound.block_size is.count);
        least = subst (λ n. m.size / 16 ≤ n) (sym count) ((rules m after is.hashed).least);
        size = (rules m after is.hashed).size ∙ ap (λ n. 8 * n) (sym count);
        whole = λ place. sound_is_whole m place after.block_size after.inode;
      }

  pub only_leaf : (v : Seen) (name : List ℕ) (leaf : ℕ) → crc32_of name < 2 ^ 32 → leaf ≡ b → HasBlock v m.own → HasBlock v b → HasDataBlock v b → IsOnlyLeaf v m name leaf
  only_leaf v name leaf small same own there data_block =
      let low = index_low m after is.hashed name small in
      let leads = is.entries (index_for m name) low in
      record {
        leads = same ∙ sym leads;
        behind = cond-true (height_in m == 0) _ _ (eq-eqb (height_in m) 0 stuffed);
        one = ap (λ x. (leaf_in m x).next) leads ∙ ap (λ (l : Leaf). l.next) is.leaf.head_is;
        sees = (subst (HasBlock v) (sym same) there, subst (HasDataBlock v) (sym same) data_block);
        own = own;
        none_below = λ x below. none_below m stuffed below.0 below.1 below.2 below.3 x below.4;
      }

-- ---- nothing becomes of any other block

pub both_inside : (v w : Seen) (old mid new : FinMap nat_cmp Fate) (room between left : List ℕ) (dir : ℕ) (h : Holding) → h.own ≡ dir → ((b : ℕ) → HasDataBlock w b → HasDataBlock v b)
    → ConvertsWithin old mid room between h → StaysInside w mid new between left dir → StaysInside v old new room left dir
both_inside v w old mid new room between left dir h own data_blocks first second = record {
  taken = first.block ∷ second.taken;
  front = first.front ∙ ap (λ l. first.block ∷ l) second.front;
  changes = λ b. elim (second.changes b) [
    | inl same ↦ elim (first.changes b) [
      | inl before ↦ inl (same ∙ before)
      | inr put ↦ inr (which b put.0, (put.1.0, same ∙ put.1.1 ∙ ap (λ n. Some (Put (inode_lock n) false put.1.0)) own))
    ]
    | inr put ↦ inr (wider b put.0, put.1)
  ];
}
  where
    which : (b : ℕ) → (b ≡ h.own) ⊎ (b ≡ first.block) → MayChange v dir (first.block ∷ second.taken) b
    which b (inl at_own) = the_dinode (at_own ∙ own)
    which b (inr at_leaf) = a_taken_one (0, omega arith, sym at_leaf)

    wider : (b : ℕ) → MayChange w dir second.taken b → MayChange v dir (first.block ∷ second.taken) b
    wider b (the_dinode at) = the_dinode at
    wider b (a_taken_one there) = a_taken_one (suc there.0, omega (arith, there.1), there.2)
    wider b (a_data_block data_block) = a_data_block (data_blocks b data_block)
