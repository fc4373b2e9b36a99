-- What a sound directory says is what its records say, and nothing of it is broken.
use Rattle.std.proofs.Common.{◌≡◌, ◌⊎◌, inl, inr, true≢false, ℕ, ◌+◌, ◌<◌, true, false, List, [], ◌∷◌, length, Option, Some, refl, sym, ap, ◌∙◌, subst, arith}
use Rattle.std.proofs.lemmas.List.Sorted.{length_permutation}
use Rattle.std.specs.Prelude.{Contains, IsSome}
use Rattle.std.specs.Option.{option_map}
use Rattle.file_tree.specs.Names.{IsName}
use Rattle.gfs2_layout.specs.Exchanges.{directory_count}
use Rattle.gfs2_layout.specs.Holding.{Holding, InChain, part_at}
use Rattle.gfs2_layout.specs.Inode.{IsLeaf, dinode_in, first_hash, is_directory_in, is_hashed_in, leaf_area, leaves_of, records_of}
use Rattle.gfs2_layout.specs.Records.{Record, is_dots, record_named, records_in}
use Rattle.image_model.proofs.Held.{none_some}
use Rattle.image_model.proofs.Members.{IsIn, contained, in_flat_map, is_in}
use Rattle.glock_names.specs.declared.steps.Entry.{Entry}
use Rattle.dinode_tree.proofs.Sound.{sound_breaks_nothing}
use Rattle.linear_dirs.specs.Broken as linear
use Rattle.linear_dirs.specs.Shown.{entry_of}
use Rattle.tree_tables.specs.Directories.{IsInChain, chain_head, chain_next}
use Rattle.tree_tables.specs.Broken as leaves
use Rattle.tree_tables.specs.Finding.{IsFirstNamed, IsNamedLater, in_leaf, named_in, nowhere}
use Rattle.tree_tables.specs.Shown.{IsSound, LeadsToLeaf, by_leaf, by_pointer, index_for}
use Rattle.tree_tables.specs.Leaves.{records_among}
use Rattle.tree_tables.proofs.Along.{chain_one}
use Rattle.glock_names.specs.Views.{Seen}
use Rattle.resource_groups.specs.Putting.{HasDataBlock}
use Rattle.tree_tables.proofs.Chained.{cell_some, head_some, in_chain, in_leaves, rules, same_hash}
use Rattle.tree_tables.proofs.InAll.{all_records}
use Rattle.tree_tables.proofs.Named.{records_are, tells}
use Rattle.directories.specs.Shown.{HasName, IsBroken, Says}
use Rattle.directories.specs.Shown as directory

-- ---- names

pub says_sound : (h : Holding) (name : List ℕ) (found : Option Entry) → IsSound h → Says h name found → found ≡ option_map entry_of (record_named (records_of h) name)
says_sound h name _ sound (directory.Says.in_linear plain) = refl
says_sound h name _ sound (directory.Says.in_hashed found hashed small by) = by.leads ∙ ap (option_map entry_of) (tells h name sound hashed small by.named by.first)

-- ---- leaves

module _ (h : Holding) (sound : IsSound h) (hashed : is_hashed_in h ≡ true) where
  -- what leads to a leaf leads along a chain
  led_chain : (i from x : ℕ) → LeadsToLeaf h i from x → (place : ℕ) × IsInChain h i place x
  led_chain i _ _ (by_pointer low) = (0, chain_head low (head_some h sound hashed i low))
  led_chain i _ _ (by_leaf place x chain more) = (place + 1, chain_next place x chain more)

  pub leaf_part : (i from x : ℕ) → LeadsToLeaf h i from x → (place : ℕ) × (part_at h x ≡ Some (InChain (first_hash h i) place))
  leaf_part i from x leads = let c = led_chain i from x leads in (c.0, in_chain h sound hashed i c.0 x c.1)

  is_leaf : (i from x : ℕ) → LeadsToLeaf h i from x → IsLeaf h (first_hash h i) x
  is_leaf i from x leads = let p = leaf_part i from x leads in (rules h sound hashed).leaves x (first_hash h i) p.0 p.1

  record_of_leaf : (i from x : ℕ) (r : Record) → LeadsToLeaf h i from x → Contains (records_in (leaf_area h x)) r → IsIn r (records_of h)
  record_of_leaf i from x r leads there =
      let p = leaf_part i from x leads in
      subst (IsIn r) (sym (records_are h hashed)) (in_flat_map (λ y. records_in (leaf_area h y)) x r (leaves_of h) (in_leaves h sound hashed x (first_hash h i) p.0 p.1) (is_in r (records_in (leaf_area h x)) there))

  module _ (down : (r : Record) → Contains (records_of h) r → is_dots r.name ≡ false → IsName r.name)
      (entries : (dinode_in h).entries ≡ length (records_of h)) (links : (dinode_in h).nlink ≡ 2 + directory_count (records_of h)) where
    some_record : (r : Record) (records : List Record) → IsIn r records → length records ≡ 0 → ⊥
    some_record r [] at none = at
    some_record r (x ∷ xs) at none = omega (arith, none)

    pub hashed_unbroken : (rule b : ℕ) → leaves.IsBroken h rule b → ⊥
    hashed_unbroken rule b (leaves.of_inode r c broken) = sound_breaks_nothing h r c sound.inode broken
    hashed_unbroken rule b (leaves.no_header i from x leads some other) = other (is_leaf i from x leads).header
    hashed_unbroken rule b (leaves.unfilled i from x leads some other) = other (is_leaf i from x leads).area.fills
    hashed_unbroken rule b (leaves.no_name i from x r leads some there low other) = other (down r (contained r (records_of h) (record_of_leaf i from x r leads there)) low)
    hashed_unbroken rule b (leaves.no_entries i from x r leads some there none) = some_record r (records_of h) (record_of_leaf i from x r leads there) (sym entries ∙ none)
    hashed_unbroken rule b (leaves.wrong_entries leaves are other) = other (entries ∙ length_permutation (records_among h leaves) (records_of h) (all_records h leaves sound hashed are))
    hashed_unbroken rule b (leaves.no_links none) = omega (arith, links, none)
    hashed_unbroken rule b (leaves.table_too_small small) = let least = (rules h sound hashed).least in omega (arith, small, least)
    hashed_unbroken rule b (leaves.table_too_large large) = let greatest = (rules h sound hashed).greatest in omega (arith, large, greatest)
    hashed_unbroken rule b (leaves.table_size other) = other (rules h sound hashed).size
    hashed_unbroken rule b (leaves.no_leaf i low none) = none_some (sym sound.placed.nobody ∙ ap (part_at h) (sym none) ∙ (rules h sound hashed).leads i low)
    hashed_unbroken rule b (leaves.records_format i from x leads some other) = other (is_leaf i from x leads).records_format
    hashed_unbroken rule b (leaves.too_deep i from x leads some deep) = let low = (is_leaf i from x leads).depth in omega (arith, deep, low)
    hashed_unbroken rule b (leaves.leaf_entries i from x leads some other) = other (is_leaf i from x leads).entries
    hashed_unbroken rule b (leaves.comes_again i place later x first second before) =
        let same = (same_hash (first_hash h i) (first_hash h i) place later (sym (in_chain h sound hashed i place x first) ∙ in_chain h sound hashed i later x second)).1 in
        omega (arith, before, same)

-- ---- nothing is broken

module _ (v : Seen) (h : Holding) (sound : IsSound h) (is : is_directory_in h ≡ true) (inside : (x : ℕ) → IsSome (h.cell x) → HasDataBlock v x)
    (below : (r : Record) → Contains (records_of h) r → is_dots r.name ≡ false → HasDataBlock v r.address)
    (down : (r : Record) → Contains (records_of h) r → is_dots r.name ≡ false → IsName r.name) (entries : (dinode_in h).entries ≡ length (records_of h)) (links : (dinode_in h).nlink ≡ 2 + directory_count (records_of h)) where
  linear_unbroken : is_hashed_in h ≡ false → (rule b : ℕ) → linear.IsBroken h rule b → ⊥
  linear_unbroken plain rule b (linear.of_inode r c broken) = sound_breaks_nothing h r c sound.inode broken
  linear_unbroken plain rule b (linear.not_stuffed high) = high (sound.inode.linear is plain).stuffed
  linear_unbroken plain rule b (linear.not_filled other) = other (sound.inode.linear is plain).size
  linear_unbroken plain rule b (linear.no_area other) = other (sound.inode.linear is plain).area.fills
  linear_unbroken plain rule b (linear.no_name r has low other) = other (down r has low)
  linear_unbroken plain rule b (linear.wrong_entries other) = other entries
  linear_unbroken plain rule b (linear.wrong_links other) = other links

  pub unbroken : (rule b : ℕ) → IsBroken v h rule b → ⊥
  unbroken rule b (directory.IsBroken.of_inode broken) = sound_breaks_nothing h rule b sound.inode broken
  unbroken rule b (directory.IsBroken.in_linear dir plain broken) = linear_unbroken plain rule b broken
  unbroken rule b (directory.IsBroken.in_hashed hashed (leaves.IsWrongIn.breaks r c broken)) = hashed_unbroken h sound hashed down entries links r c broken
  unbroken rule b (directory.IsBroken.in_hashed hashed (leaves.IsWrongIn.outside i from x leads some away)) =
      let p = leaf_part h sound hashed i from x leads in
      away (inside x (cell_some (h.cell x) _ p.1))
  unbroken rule b (directory.IsBroken.in_hashed hashed (leaves.IsWrongIn.stray i from x r leads some there low away)) =
      away (below r (contained r (records_of h) (record_of_leaf h sound hashed i from x r leads there)) low)

-- ---- a directory says one thing of a name

module _ (h : Holding) (i : ℕ) (name : List ℕ) where
  before_other : (place place' x x' : ℕ) (r r' : Record) → IsInChain h i place x → named_in h name x ≡ Some r → IsInChain h i place' x' → named_in h name x' ≡ Some r' → IsNamedLater h i name place' → place < place' → ⊥
  before_other place place' x x' r r' chain is chain' is' later low = none_some (sym (later place x low chain) ∙ is)

  first_once : (a b : Option Record) → IsFirstNamed h i name a → IsFirstNamed h i name b → a ≡ b
  first_once _ _ (in_leaf place x r chain is later heads) (in_leaf place' x' r' chain' is' later' heads') = elim (which place place') [
    | inl low ↦ absurd (before_other place place' x x' r r' chain is chain' is' later' low)
    | inr (inl same) ↦ sym is ∙ ap (named_in h name) (chain_one h i place x x' chain (subst (λ n. IsInChain h i n x') (sym same) chain')) ∙ is'
    | inr (inr high) ↦ absurd (before_other place' place x' x r' r chain' is' chain is later high)
  ]
    where
      which : (a b : ℕ) → (a < b) ⊎ ((a ≡ b) ⊎ (b < a))
      which a b = grind arith
  first_once _ _ (in_leaf place x r chain is later heads) (nowhere ends none heads') = absurd (none_some (sym (none (place + 1) place x (omega arith) chain) ∙ is))
  first_once _ _ (nowhere ends none heads) (in_leaf place x r chain is later heads') = absurd (none_some (sym (none (place + 1) place x (omega arith) chain) ∙ is))
  first_once _ _ (nowhere ends none heads) (nowhere ends' none' heads') = refl

pub says_once : (h : Holding) (name : List ℕ) (a b : Option Entry) → Says h name a → Says h name b → a ≡ b
says_once h name _ _ (directory.Says.in_linear plain) (directory.Says.in_linear plain') = refl
says_once h name _ _ (directory.Says.in_linear plain) (directory.Says.in_hashed found hashed small by) = absurd (true≢false (sym hashed ∙ plain))
says_once h name _ _ (directory.Says.in_hashed found hashed small by) (directory.Says.in_linear plain) = absurd (true≢false (sym hashed ∙ plain))
says_once h name _ _ (directory.Says.in_hashed found hashed small by) (directory.Says.in_hashed found' hashed' small' by') =
    by.leads ∙ ap (option_map entry_of) (first_once h (index_for h name) name by.named by'.named by.first by'.first) ∙ sym by'.leads
