-- The way to a name: what is seen of a leaf's bytes, and leaf by leaf along a chain.
use Rattle.std.proofs.Common.{◌≡◌, ◌≢◌, ◌⊎◌, ℕ, ◌+◌, ◌*◌, ◌/◌, ◌^◌, ◌<◌, ◌≤◌, inl, inr, false, true≢false, List, Contains, Option, None, Some, Result, Ok, sym, ap, ◌∙◌, subst, arith}
use Rattle.std.specs.Prelude.{◌==◌, IfNone, IfSome}
use Rattle.std.proofs.lemmas.Bool.{cases_Bool, cond-false, eqb-true}
use Rattle.gfs2_layout.specs.Bytes.{u32_at}
use Rattle.gfs2_layout.specs.Holding.{Holding, bytes_at}
use Rattle.gfs2_layout.specs.Inode.{depth_in, is_hashed_in, leaf_in, table_count}
use Rattle.gfs2_layout.specs.Structures.{header_fault, leaf_of, leaf_read, or_else, records_fault}
use Rattle.gfs2_layout.specs.declared.fault.LayoutFault.{LayoutFault}
use Rattle.gfs2_layout.specs.declared.fault.LayoutFault.TheVariants.{Value}
use Rattle.gfs2_layout.specs.declared.leaf.Leaf.{Leaf}
use Rattle.gfs2_layout.proofs.HeaderLaws.{answer_ok, some_none}
use Rattle.glock_names.specs.Views.{Seen}
use Rattle.resource_groups.specs.Putting.{HasDataBlock}
use Rattle.hash_inserts.specs.Broken.{IsBroken, leaf_entries, no_header as lacks_header, records_format, unfilled as not_filled}
use Rattle.hash_inserts.specs.Shown.{IsInChain, IsShown, LeadsToLeaf, index_for}
use Rattle.hash_inserts.specs.ChainWalking.{IsLeafOf}
use Rattle.hash_inserts.specs.chains.LeafAt.{LeafAt}
use Rattle.hash_inserts.proofs.Along.{chain_one, ended}
use Rattle.hash_inserts.proofs.ChainLeaves.{bytes_there}
use Rattle.directories.specs.Pointers.{IsTableOf}
use Rattle.directories.specs.tree_table.TreeTable.{TreeTable}
use Rattle.name_inserts.specs.Way.{AreOfLeaf, AreRightAlong, AreRightBefore, BreaksLeaf, IsOnWay, IsRightBehind, IsRightLeaf, IsRightTable, its_dinode, its_leaf, its_pointer, no_header, other_count, other_format, unfilled}

-- ---- a leaf's bytes

later_none : (a b : Option LayoutFault) → or_else a b ≡ None → b ≡ None
later_none None b e = e
later_none (Some f) b e = absurd (some_none f e)

-- a head that was read says the format of the records
pub format_read : (bytes : List ℕ) (head : Leaf) (result : Result Leaf LayoutFault) → result ≡ leaf_read bytes → result ≡ Ok head → u32_at 28 bytes ≡ 1200
format_read bytes head result read is =
    let none : records_fault bytes ≡ None = later_none (header_fault 104 6 600 bytes) (records_fault bytes) (answer_ok (or_else (header_fault 104 6 600 bytes) (records_fault bytes)) (leaf_of bytes) head (sym read ∙ is)).0 in
    elim (cases_Bool (u32_at 28 bytes == 1200)) [
      | inl same ↦ eqb-true (u32_at 28 bytes) 1200 same
      | inr other ↦ absurd (some_none (Value 28 (u32_at 28 bytes)) (sym (cond-false (u32_at 28 bytes == 1200) _ _ other) ∙ none))
    ]

-- what breaks a rule by its bytes breaks it in the directory
pub breaks_leaf : (h : Holding) (i from x rule : ℕ) (bytes : List ℕ) → LeadsToLeaf h i from x → x ≢ 0 → bytes_at h x ≡ bytes → BreaksLeaf bytes rule → IsBroken h rule x
breaks_leaf h i from x rule bytes leads some at breaks = by rule (subst (λ b. BreaksLeaf b rule) (sym at) breaks)
  where
    by : (rule : ℕ) → BreaksLeaf (bytes_at h x) rule → IsBroken h rule x
    by _ (no_header lacks) = lacks_header i from x leads some lacks
    by _ (other_format other) = records_format i from x leads some other
    by _ (unfilled lacks) = not_filled i from x leads some lacks
    by _ (other_count other) = leaf_entries i from x leads some other

-- one that was looked at is right
pub right_leaf : (v : Seen) (dir : ℕ) (h : Holding) (i from x depth : ℕ) (leaf : LeafAt) (bytes : List ℕ) → IsShown v dir h → LeadsToLeaf h i from x → x ≢ 0 → v.block_at x ≡ Some bytes → HasDataBlock v x
    → AreOfLeaf bytes → IsLeafOf h x leaf → depth ≡ depth_in h → leaf.head.depth ≤ depth → IsRightLeaf v h x
right_leaf v dir h i from x depth leaf bytes shown leads some there inside of_leaf is deep low = record {
  inside = inside;
  there = (bytes, there);
  bytes = subst AreOfLeaf (sym (bytes_there v dir h i from x bytes shown leads some there)) of_leaf;
  depth = let same : leaf.head.depth ≡ (leaf_in h x).depth = ap (λ (l : Leaf). l.depth) is.head in omega (arith, low, same, deep);
}

-- a table that was read is right
pub right_table : (h : Holding) (name : List ℕ) (t : TreeTable) (v : Seen) → index_for h name < table_count h → IsTableOf t v h → IsRightTable h name
right_table h name t v low is = record {
  low = low;
  least = subst (λ d. h.size / 16 ≤ 2 ^ d) is.depth is.least;
  size = is.size ∙ ap (λ d. 8 * 2 ^ d) is.depth;
}

-- ---- what was found, or not

pub some_so : (o : Option ℕ) (P Q : ℕ → Type 0) → ((x : ℕ) → P x → Q x) → IfSome o P → IfSome o Q
some_so (Some x) P Q so is = so x is
some_so None P Q so is = tt

pub none_so : (o : Option ℕ) (P Q : Type 0) → (P → Q) → IfNone o P → IfNone o Q
none_so (Some x) P Q so is = tt
none_so None P Q so is = so is

-- ---- along a chain

last_or : (earlier place : ℕ) → earlier < place + 1 → (earlier < place) ⊎ (earlier ≡ place)
last_or earlier place low = grind arith

up_to_or : (k place : ℕ) → (k < place + 1) ⊎ (place < k)
up_to_or k place = grind arith

module _ (v : Seen) (h : Holding) (i place link : ℕ) (blocks : List ℕ) (chain : IsInChain h i place link) where
  -- one more leaf is right
  pub right_more : IsRightLeaf v h link → (Contains blocks link → ⊥) → AreRightBefore v h i blocks place → AreRightBefore v h i blocks (place + 1)
  right_more right apart was earlier x before there = elim (last_or earlier place before) [
    | inl low ↦ was earlier x low there
    | inr top ↦ subst (λ y. IsRightLeaf v h y × (Contains blocks y → ⊥)) (chain_one h i place link x chain (subst (λ n. IsInChain h i n x) top there)) (right, apart)
  ]

  -- and it was the last
  pub right_all : (leaf_in h link).next ≡ 0 → AreRightBefore v h i blocks (place + 1) → AreRightAlong v h i blocks
  right_all ends were k x there = elim (up_to_or k place) [
    | inl low ↦ were k x low there
    | inr behind ↦ absurd (ended h i place link k x chain ends behind there)
  ]

-- ---- the way

-- a block that is none of these isn't on the way, of a hashed directory
pub hashed_apart : (v : Seen) (h : Holding) (name blocks : List ℕ) → (Contains blocks h.own → ⊥) → IsRightBehind v h name blocks → (b : ℕ) → Contains blocks b → IsOnWay h name b → ⊥
hashed_apart v h name blocks own behind b has (its_dinode is) = own (subst (Contains blocks) is has)
hashed_apart v h name blocks own behind b has (its_pointer hashed below is) = behind.pointer (subst (Contains blocks) is has)
hashed_apart v h name blocks own behind b has (its_leaf place hashed there) = (behind.leaves place b there).1 has

-- and of a linear one
pub linear_apart : (h : Holding) (name blocks : List ℕ) → is_hashed_in h ≡ false → (Contains blocks h.own → ⊥) → (b : ℕ) → Contains blocks b → IsOnWay h name b → ⊥
linear_apart h name blocks plain own b has (its_dinode is) = own (subst (Contains blocks) is has)
linear_apart h name blocks plain own b has (its_pointer hashed below is) = absurd (true≢false (sym hashed ∙ plain))
linear_apart h name blocks plain own b has (its_leaf place hashed there) = absurd (true≢false (sym hashed ∙ plain))
