-- What is told of a leaf that was looked at.
use Rattle.std.proofs.Common.{◌≡◌, ◌≢◌, ℕ, ◌^◌, ◌<◌, ◌≤◌, inl, inr, List, length, drop, Option, None, Some, Result, Ok, sym, ap, subst, ◌∙◌, arith}
use Rattle.std.specs.Prelude.{◌+◌, ◌==◌, IfSome, IsSome}
use Rattle.std.proofs.lemmas.Bool.{cases_Bool, cond-false, cond-true, eq-eqb, eqb-true}
use Rattle.std.proofs.lemmas.Bool.Decides.{nat_tests}
use Rattle.gfs2_layout.specs.Area.{IsArea}
use Rattle.gfs2_layout.specs.Bytes.{u32_at}
use Rattle.gfs2_layout.specs.Headers.{HasHeader}
use Rattle.gfs2_layout.specs.Holding.{Holding, bytes_at}
use Rattle.gfs2_layout.specs.Inode.{depth_in, entry, entry_block, leaf_in, leaf_length, table_count, top_bits}
use Rattle.gfs2_layout.specs.Structures.{answer, or_else, header_fault, records_fault, leaf_of, leaf_read}
use Rattle.gfs2_layout.specs.declared.fault.LayoutFault.{LayoutFault}
use Rattle.gfs2_layout.specs.declared.fault.LayoutFault.TheVariants.{Value}
use Rattle.image_model.proofs.Held.{none_some}
use Rattle.gfs2_layout.specs.declared.leaf.Leaf.{Leaf}
use Rattle.gfs2_layout.proofs.HeaderLaws.{answer_ok}
use Rattle.glock_names.specs.Steps.{IfIs, IsDamage, TellsOf}
use Rattle.glock_names.specs.declared.steps.Step.{Step}
use Rattle.glock_names.specs.declared.steps.Step.TheVariants.{Is}
use Rattle.glock_names.proofs.StepLaws.{answer_at}
use Rattle.glock_names.specs.declared.steps.CallFault.{CallFault}
use Rattle.glock_names.specs.declared.steps.CallFault.TheVariants.{Damaged}
use Rattle.glock_names.specs.declared.steps.CallFault.TheVariants.{NoMemory}
use Rattle.glock_names.specs.Views.{Seen, HasBlock, IsOfView}
use Rattle.dinode_tree.specs.Shown.{IsAtBlock}
use Rattle.dinode_tree.specs.Broken as inode
use Rattle.pointer_tables.specs.declared.pointer.Pointer.{Pointer}
use Rattle.hash_dirs.specs.Broken.{IsBroken, IsWrongIn, breaks, no_header, records_format, too_deep, unfilled, no_leaf, of_inode}
use Rattle.hash_dirs.specs.Finding.{IsLeafHead}
use Rattle.hash_dirs.specs.Shown.{IsNeededFor, IsShown, LeadsToLeaf, a_leaf, by_pointer, by_leaf, index_for, of_table}
use Rattle.dinode_tree.specs.Reading.{inode_lock, the_dinode}
use Rattle.dinode_tree.specs.Walking.{missing_dinode}
use Rattle.crc_words.specs.Remainder.{crc32_of}
use Rattle.glock_names.specs.declared.steps.Missing.{Missing}
use Rattle.pointer_tables.specs.Directories.{IsInChain, chain_head, chain_next}
use Rattle.hash_dirs.specs.Walking.{IsHead, IsLeafOf}
use Rattle.hash_dirs.specs.declared.chains.LeafAt.{LeafAt}

pub told : (h : Holding) (fault : CallFault) (b rule : ℕ) → fault ≡ Damaged b rule → IsBroken h rule b → IsDamage (IsBroken h) fault
told h fault b rule is broken = subst (IsDamage (IsBroken h)) (sym is) broken

-- what breaks a rule of inodes breaks one of hashed directories
pub wrong_of : (v : Seen) (h : Holding) (fault : CallFault) → IsDamage (IsBroken h) fault → IsDamage (IsWrongIn v h) fault
wrong_of v h (Damaged b rule) damage = breaks rule b damage
wrong_of v h NoMemory damage = damage

pub wrong_tells : (v : Seen) (h : Holding) (fault : CallFault) → TellsOf (IsBroken h) fault → TellsOf (IsWrongIn v h) fault
wrong_tells v h (Damaged b rule) tells = breaks rule b tells
wrong_tells v h NoMemory tells = tt

pub damage_of : (h : Holding) (fault : CallFault) → IsDamage (inode.IsBroken h) fault → IsDamage (IsBroken h) fault
damage_of h (Damaged block rule) broken = of_inode rule block broken
damage_of h NoMemory broken = broken

-- what is needed for one pointer is needed for all
pub needed_within : (v : Seen) (h : Holding) (i : ℕ) (wanted : ℕ → Type 0) (m : Missing) → wanted i → IsNeededFor v h (λ k. k ≡ i) m → IsNeededFor v h wanted m
needed_within v h i wanted m is (of_table k same needed) = of_table k (subst wanted (sym same) is) needed
needed_within v h i wanted m is (a_leaf k same leads inside lock plain absent) = a_leaf k (subst wanted (sym same) is) leads inside lock plain absent

-- a pointer that the table gave for an index
pub head_of : (h : Holding) (index i : ℕ) (p : Pointer) → index ≡ i → index < table_count h → (p.leaf ≡ entry h index) × (p.from ≡ entry_block h index) → IsHead h i p
head_of h index i p same low is = record {
  low = subst (λ n. n < table_count h) same low;
  leaf = is.0 ∙ ap (entry h) same;
  from = is.1 ∙ ap (entry_block h) same;
}

-- the index of a name as it was computed, and the pointer that was found for it
pub index_is : (h : Holding) (name : List ℕ) (depth hash index : ℕ) → index ≡ top_bits depth hash → depth ≡ depth_in h → hash ≡ crc32_of name → index ≡ index_for h name
index_is h name depth hash index is deep of = is ∙ ap (λ n. top_bits n hash) deep ∙ ap (top_bits (depth_in h)) of

pub head_at : (h : Holding) (name : List ℕ) (depth hash index : ℕ) (p : Pointer) → index ≡ top_bits depth hash → depth ≡ depth_in h → hash ≡ crc32_of name → index < 2 ^ depth
    → (p.leaf ≡ entry h index) × (p.from ≡ entry_block h index) → IsHead h (index_for h name) p
head_at h name depth hash index p is deep of low found = head_of h index (index_for h name) p (index_is h name depth hash index is deep of) (subst (λ n. index < 2 ^ n) deep low) found

-- the dinode's block is needed
pub dinode_needed : (v : Seen) (h : Holding) (dir i : ℕ) (wanted : ℕ → Type 0) (m : Missing) → h.own ≡ dir → wanted i → m ≡ missing_dinode dir → v.block_at dir ≡ None → IsNeededFor v h wanted m
dinode_needed v h dir i wanted m own is missing absent = of_table i is (record {
  lock = ap (λ (x : Missing). x.lock) missing ∙ ap inode_lock (sym own);
  absent = ap (λ (x : Missing). v.block_at x.block) missing ∙ absent;
  way = the_dinode (ap (λ (x : Missing). x.block) missing ∙ sym own) (ap (λ (x : Missing). x.from) missing ∙ sym own) (ap (λ (x : Missing). x.plain) missing);
})

-- a leaf of a chain is led to
pub led_to : (h : Holding) (i place x : ℕ) → IsInChain h i place x → (from : ℕ) × LeadsToLeaf h i from x
led_to h i _ _ (chain_head low some) = (entry_block h i, by_pointer low)
led_to h i _ _ (chain_next place x chain more) = (x, by_leaf place x chain more)

-- what holds of what was found
pub found_at : {A : Type 0} (step : Step (Option A)) (o : Option A) (a : A) (P : A → Type 0) → step ≡ Is o → o ≡ Some a → IfIs (Ok step) (λ found. IfSome found P) → P a
found_at step o a P is some holds = subst (λ found. IfSome found P) some (answer_at step o (λ found. IfSome found P) is holds)

-- ---- a leaf that is led to

pub cell_there : (v : Seen) (dir : ℕ) (h : Holding) (i from x : ℕ) → IsShown v dir h → LeadsToLeaf h i from x → x ≢ 0 → IsSome (h.cell x)
cell_there v dir h i _ _ shown (by_pointer low) some = shown.leaves i 0 _ (chain_head low some) some
cell_there v dir h i _ _ shown (by_leaf place x chain more) some = shown.leaves i (place + 1) _ (chain_next place x chain more) some

pub bytes_there : (v : Seen) (dir : ℕ) (h : Holding) (i from x : ℕ) (bytes : List ℕ) → IsShown v dir h → LeadsToLeaf h i from x → x ≢ 0 → v.block_at x ≡ Some bytes → bytes_at h x ≡ bytes
bytes_there v dir h i from x bytes shown leads some there = shown.inode.same x bytes (cell_there v dir h i from x shown leads some) there

pub no_leaf_there : (h : Holding) (i from x : ℕ) → LeadsToLeaf h i from x → x ≡ 0 → IsBroken h 14 from
no_leaf_there h i _ _ (by_pointer low) zero = no_leaf i low zero
no_leaf_there h i _ _ (by_leaf place x chain some) zero = absurd (some zero)

-- a fault at a block that the view has
pub seen_at : (v : Seen) (fault : CallFault) (b : ℕ) → HasBlock v b → IsDamage (IsAtBlock b) fault → IsDamage (IsOfView v) fault
seen_at v (Damaged block rule) b has at = subst (HasBlock v) (sym at) has
seen_at v NoMemory b has at = at

-- ---- the head

header_well : (bytes : List ℕ) → leaf_length ≤ length bytes → HasHeader 6 600 bytes → header_fault leaf_length 6 600 bytes ≡ None
header_well bytes long header = grind (arith, nat_tests, header.magic_is, header.kind_is, header.format_is)

records_well : (bytes : List ℕ) → u32_at 28 bytes ≡ 1200 → records_fault bytes ≡ None
records_well bytes is = cond-true _ _ _ (eq-eqb (u32_at 28 bytes) 1200 is)

pub read_well : (bytes : List ℕ) → leaf_length ≤ length bytes → HasHeader 6 600 bytes → u32_at 28 bytes ≡ 1200 → leaf_read bytes ≡ Ok (leaf_of bytes)
read_well bytes long header is =
    ap (λ (o : Option LayoutFault). answer (or_else o (records_fault bytes)) (leaf_of bytes)) (header_well bytes long header)
    ∙ ap (λ (o : Option LayoutFault). answer o (leaf_of bytes)) (records_well bytes is)

pub head_is : (bytes : List ℕ) (head : Leaf) (result : Result Leaf LayoutFault) → result ≡ leaf_read bytes → result ≡ Ok head → head ≡ leaf_of bytes
head_is bytes head result read is = sym (answer_ok (or_else (header_fault leaf_length 6 600 bytes) (records_fault bytes)) (leaf_of bytes) head (sym read ∙ is)).1

-- what was read has the format of records
later_none : (o later : Option LayoutFault) → or_else o later ≡ None → later ≡ None
later_none None later e = e
later_none (Some f) later e = cc

format_of : (bytes : List ℕ) → records_fault bytes ≡ None → u32_at 28 bytes ≡ 1200
format_of bytes e = elim (cases_Bool (u32_at 28 bytes == 1200)) [
  | inl same ↦ eqb-true (u32_at 28 bytes) 1200 same
  | inr other ↦ absurd (none_some (sym e ∙ cond-false (u32_at 28 bytes == 1200) None (Some (Value 28 (u32_at 28 bytes))) other))
]

pub read_format : (bytes : List ℕ) (head : Leaf) (result : Result Leaf LayoutFault) → result ≡ leaf_read bytes → result ≡ Ok head → u32_at 28 bytes ≡ 1200
read_format bytes head result read is =
    let whole = answer_ok (or_else (header_fault leaf_length 6 600 bytes) (records_fault bytes)) (leaf_of bytes) head (sym read ∙ is) in
    format_of bytes (later_none (header_fault leaf_length 6 600 bytes) (records_fault bytes) whole.0)

pub leaf_headed : (h : Holding) (x : ℕ) (bytes : List ℕ) (leaf : LeafAt) (depth : ℕ) → bytes_at h x ≡ bytes → leaf.head ≡ leaf_of bytes → HasHeader 6 600 bytes → u32_at 28 bytes ≡ 1200 → leaf.head.depth ≤ depth
    → depth ≡ depth_in h → IsLeafHead h x
leaf_headed h x bytes leaf depth at head header format low is = record {
  header = subst (HasHeader 6 600) (sym at) header;
  format = ap (u32_at 28) at ∙ format;
  low = let there : (leaf_in h x).depth ≡ leaf.head.depth = ap (λ (l : Leaf). l.depth) (ap leaf_of at ∙ sym head) in omega (arith, there, low, is);
}

-- ---- what is broken, of a leaf with these bytes

module _ (h : Holding) (i from x : ℕ) (bytes : List ℕ) (at : bytes_at h x ≡ bytes) (leads : LeadsToLeaf h i from x) (some : x ≢ 0) (fault : CallFault) where
  pub lacks_header : ¬ (HasHeader 6 600 bytes) → fault ≡ Damaged x 1 → IsDamage (IsBroken h) fault
  lacks_header lacks is = told h fault x 1 is (no_header i from x leads some (subst (λ b. ¬ (HasHeader 6 600 b)) (sym at) lacks))

  pub other_format : leaf_length ≤ length bytes → HasHeader 6 600 bytes → (result : Result Leaf LayoutFault) → result ≡ leaf_read bytes → ((l : Leaf) → result ≡ Ok l → ⊥) → fault ≡ Damaged x 14
      → IsDamage (IsBroken h) fault
  other_format long header result read wrong is =
      told h fault x 14 is (records_format i from x leads some (λ e. wrong (leaf_of bytes) (read ∙ read_well bytes long header (ap (u32_at 28) (sym at) ∙ e))))

  pub deeper : (depth : ℕ) (head : Leaf) → depth ≡ depth_in h → head ≡ leaf_of bytes → depth < head.depth → fault ≡ Damaged x 14 → IsDamage (IsBroken h) fault
  deeper depth head depth_is head_is deep is =
      let there : head.depth ≡ (leaf_in h x).depth = ap (λ (l : Leaf). l.depth) (head_is ∙ ap leaf_of (sym at)) in
      told h fault x 14 is (too_deep i from x leads some (omega (arith, there, depth_is, deep)))

  pub not_filled : (area : List ℕ) → area ≡ drop leaf_length bytes → ¬ (IsArea area) → fault ≡ Damaged x 9 → IsDamage (IsBroken h) fault
  not_filled area area_is lacks is =
      told h fault x 9 is (unfilled i from x leads some (subst (λ a. ¬ (IsArea a)) (area_is ∙ ap (drop leaf_length) (sym at)) lacks))

-- what was read of it
pub leaf_of_bytes : (h : Holding) (x : ℕ) (bytes : List ℕ) (leaf : LeafAt) → bytes_at h x ≡ bytes → leaf.head ≡ leaf_of bytes → leaf.area.now ≡ drop leaf_length bytes → IsLeafOf h x leaf
leaf_of_bytes h x bytes leaf at head area = record { head = head ∙ ap leaf_of (sym at); area = area ∙ ap (drop leaf_length) (sym at) }
