-- The pointer that was read, of a directory and of the view alone.
use Rattle.std.proofs.Common.{◌≡◌, ◌≢◌, ℕ, suc, ◌+◌, ◌-◌, ◌*◌, ◌/◌, ◌%◌, ◌^◌, ◌<◌, ◌≤◌, inl, inr, Bool, true, false, List, None, Some, Result, Ok, Err, refl, sym, ap, ◌∙◌, subst, arith}
use Rattle.std.specs.Prelude.{◌==◌, IsSome, nat_lt, option_map, if◌then◌else◌}
use Rattle.std.proofs.lemmas.Bool.{cases_Bool, cases_eq, cond-true, cond-false, eq-eqb, ne_eqb, eqb-true, lt-ltb}
use Rattle.gfs2_layout.specs.Bytes.{u64_at}
use Rattle.gfs2_layout.specs.Device.{IsBlockSize}
use Rattle.gfs2_layout.specs.Headers.{HasHeader}
use Rattle.gfs2_layout.specs.Holding.{Holding, bytes_at}
use Rattle.gfs2_layout.specs.Inode.{Fits, Leads, content_block, dinode_in, entry, entry_block, header_length, height_in, is_directory_in, has_hash_flag, unit}
use Rattle.gfs2_layout.specs.Structures.{dinode_length, file_type, is_regular}
use Rattle.image_model.proofs.Held.{none_some, some_same}
use Rattle.image_model.proofs.Rows.{and_left}
use Rattle.glock_names.specs.Steps.{IfIs, IfNeedBlock, IsDamage, OnlyDamaged}
use Rattle.glock_names.specs.Views.{Seen, HasBlock}
use Rattle.glock_names.specs.declared.steps.CallFault.{CallFault}
use Rattle.glock_names.specs.declared.steps.CallFault.TheVariants.{Damaged, NoMemory}
use Rattle.glock_names.specs.declared.steps.Missing.{Missing}
use Rattle.glock_names.specs.declared.steps.Step.{Step}
use Rattle.glock_names.specs.declared.steps.Step.TheVariants.{Is, NeedBlock}
use Rattle.dinode_tree.specs.Broken as broken
use Rattle.dinode_tree.specs.Reading.{IsNeeded, block_at, inode_lock, led_to, reach, target}
use Rattle.dinode_tree.specs.Shown as inode
use Rattle.hash_dirs.proofs.Looked.{bytes_of}
use Rattle.hash_dirs.specs.pointer.Pointer.{Pointer}
use Rattle.tree_tables.specs.Pointers.{IsTableOf, block_of, bytes_or_none, carries, or_zero, pointer_at, pointer_in, seen_as, table_block}
use Rattle.tree_tables.specs.declared.tree_table.TreeTable.{TreeTable}
use Rattle.tree_tables.proofs.Entries.{entry_in_block, entry_in_hole, entry_stuffed, within}

-- what is known of a block where there is an answer
pub where_there : {A : Type 0} (v : Seen) (b : ℕ) (result : Result (Step A) CallFault) (F : List ℕ → A → Type 0) (Q : A → Type 0) → IfIs result (λ a. HasBlock v b)
    → ((bytes : List ℕ) → v.block_at b ≡ Some bytes → IfIs result (F bytes)) → ((a : A) (bytes : List ℕ) → v.block_at b ≡ Some bytes → F bytes a → Q a) → IfIs result Q
where_there v b (Ok (Is a)) F Q has so next = next a has.0 has.1 (so has.0 has.1)
where_there v b (Ok (NeedBlock m)) F Q has so next = tt
where_there v b (Err fault) F Q has so next = tt

-- what follows from two things that are said of a block that is needed
pub needed_with : {A : Type 0} (result : Result (Step A) CallFault) (P O Q : Missing → Type 0) → ((m : Missing) → P m → O m → Q m) → IfNeedBlock result P → IfNeedBlock result O → IfNeedBlock result Q
needed_with (Ok (Is a)) P O Q so first other = tt
needed_with (Ok (NeedBlock m)) P O Q so first other = so m first other
needed_with (Err fault) P O Q so first other = tt

broken_from : (P Q : ℕ → ℕ → Type 0) → ((rule b : ℕ) → P rule b → Q rule b) → (fault : CallFault) → IsDamage P fault → IsDamage Q fault
broken_from P Q so (Damaged block rule) is = so rule block is
broken_from P Q so NoMemory is = absurd is

-- what follows from a rule that is told
pub broken_so : {A : Type 0} (result : Result A CallFault) (P Q : ℕ → ℕ → Type 0) → ((rule b : ℕ) → P rule b → Q rule b) → OnlyDamaged result P → OnlyDamaged result Q
broken_so (Ok a) P Q so is = tt
broken_so (Err fault) P Q so is = broken_from P Q so fault is

-- what a view has of a table block is what the directory has
pub bytes_led : (v : Seen) (h : Holding) (a from k index b : ℕ) (bytes : List ℕ) → inode.IsShown v a h → Leads h from k 0 index b → v.block_at b ≡ Some bytes → bytes_at h b ≡ bytes
bytes_led v h a from k index b bytes shown leads at = shown.same b bytes (shown.led_to from k 0 index b leads) at

-- what two numbers determine is the same for the same two
pub by_two : {A : Type 0} (F : ℕ → ℕ → A) (a b c d : ℕ) → a ≡ b → c ≡ d → F a c ≡ F b d
by_two F a b c d e g = ap (λ n. F n c) e ∙ ap (λ n. F b n) g

pub one_less : (n : ℕ) → n ≢ 0 → n ≡ suc (n - 1)
one_less n some = elim (cases_eq n 0) [
  | inl none ↦ absurd (some none)
  | inr more ↦ omega (arith, more)
]

-- ---- which block has the pointer

pub some_block : (h : Holding) (i b : ℕ) → block_at h i ≡ Some b → (content_block h i ≡ b) × (b ≢ 0)
some_block h i b is = by (nat_lt i (reach h.size (height_in h))) (content_block h i) is
  where
    targets : (p : ℕ) → target p ≡ Some b → (p ≡ b) × (b ≢ 0)
    targets p e = elim (cases_eq p 0) [
      | inl zero_is ↦ absurd (none_some (sym (cond-true (p == 0) None (Some p) (eq-eqb p 0 zero_is)) ∙ e))
      | inr some ↦ let same : p ≡ b = some_same (sym (cond-false (p == 0) None (Some p) (ne_eqb p 0 some)) ∙ e) in (same, λ z. some (same ∙ z))
    ]

    by : (t : Bool) (p : ℕ) → (if t then target p else None) ≡ Some b → (p ≡ b) × (b ≢ 0)
    by true p e = targets p e
    by false p e = absurd (none_some e)

no_block : (h : Holding) (i : ℕ) → i < reach h.size (height_in h) → block_at h i ≡ None → content_block h i ≡ 0
no_block h i low is = elim (cases_eq (content_block h i) 0) [
  | inl none ↦ none
  | inr some ↦ absurd (none_some (sym is ∙ cond-true (nat_lt i (reach h.size (height_in h))) (target (content_block h i)) None (low_is i (reach h.size (height_in h)) low)
      ∙ cond-false (content_block h i == 0) None (Some (content_block h i)) (ne_eqb (content_block h i) 0 some)))
]
  where
    low_is : (a b : ℕ) → a < b → nat_lt a b ≡ true
    low_is a b less = lt-ltb a b less

-- a directory is no regular file
pub directory_no_file : (h : Holding) → is_directory_in h ≡ true → is_regular (dinode_in h) ≡ false
directory_no_file h directory = elim (cases_Bool (is_regular (dinode_in h))) [
  | inl file ↦ absurd (both (file_type (dinode_in h).mode) (eqb-true _ 4 directory) (eqb-true _ 8 file))
  | inr none ↦ none
]
  where
    both : (n : ℕ) → n ≡ 4 → n ≡ 8 → ⊥
    both n e g = omega (arith, e, g)

-- ---- of the view alone

pub seen_shown : ((v : Seen) (h : Holding) → h.size ≡ v.size → ((b : ℕ) → IsSome (h.cell b)) → inode.IsAsSeen v h → inode.IsShown v h.own h) → (v : Seen) (a : ℕ) → inode.IsShown v a (seen_as v a)
seen_shown law v a = law v (seen_as v a) refl (λ b. refl) (λ b bytes some at. ap bytes_or_none at)

module _ (t : TreeTable) (v : Seen) (i : ℕ) where
  abbrev s : Holding
  s = seen_as v t.directory

  told_by : (leaf from : ℕ) (bytes : List ℕ) → pointer_at s i ≡ leaf → block_of s i ≡ from → v.block_at from ≡ Some bytes → pointer_in t v i ≡ Some (record { leaf = leaf; from = from })
  told_by leaf from bytes leaf_is from_is at =
      ap (option_map (λ b. record { leaf = pointer_at s i; from = block_of s i })) (ap v.block_at from_is ∙ at)
      ∙ ap (λ (n : ℕ). Some (record { leaf = n; from = block_of s i })) leaf_is ∙ ap (λ (n : ℕ). Some (record { leaf = leaf; from = n })) from_is

  pub told_stuffed : (p : Pointer) (bytes : List ℕ) → height_in s ≡ 0 → v.block_at t.directory ≡ Some bytes → p.leaf ≡ u64_at (dinode_length + 8 * i) bytes → p.from ≡ t.directory → pointer_in t v i ≡ Some p
  told_stuffed p bytes none at leaf from =
      let own : bytes_at s t.directory ≡ bytes = ap bytes_or_none at in
      told_by p.leaf p.from bytes (cond-true (height_in s == 0) _ _ (eq-eqb (height_in s) 0 none) ∙ ap (u64_at (dinode_length + 8 * i)) own ∙ sym leaf)
      (cond-true (height_in s == 0) _ _ (eq-eqb (height_in s) 0 none) ∙ sym from) (ap v.block_at from ∙ at)

  pub told_block : (p : Pointer) (b : ℕ) (bytes : List ℕ) → height_in s ≢ 0 → block_at s (8 * i / carries s) ≡ Some b → v.block_at b ≡ Some bytes → p.leaf ≡ u64_at (header_length + 8 * i % carries s) bytes → p.from ≡ b → pointer_in t v i ≡ Some p
  told_block p b bytes high is at leaf from =
      let block : table_block s i ≡ b = ap or_zero is in
      let some : table_block s i ≢ 0 = λ z. (some_block s (8 * i / carries s) b is).1 (sym block ∙ z) in
      let here : bytes_at s (table_block s i) ≡ bytes = ap (bytes_at s) block ∙ ap bytes_or_none at in
      told_by p.leaf p.from bytes (cond-false (height_in s == 0) _ _ (ne_eqb (height_in s) 0 high) ∙ cond-false (table_block s i == 0) _ _ (ne_eqb (table_block s i) 0 some) ∙ ap (u64_at (header_length + 8 * i % carries s)) here ∙ sym leaf)
      (cond-false (height_in s == 0) _ _ (ne_eqb (height_in s) 0 high) ∙ cond-false (table_block s i == 0) _ _ (ne_eqb (table_block s i) 0 some) ∙ block ∙ sym from) (ap v.block_at from ∙ at)

  pub told_hole : (bytes : List ℕ) → height_in s ≢ 0 → block_at s (8 * i / carries s) ≡ None → v.block_at t.directory ≡ Some bytes → pointer_in t v i ≡ Some (record { leaf = 0; from = t.directory })
  told_hole bytes high is at =
      let block : table_block s i ≡ 0 = ap or_zero is in
      told_by 0 t.directory bytes (cond-false (height_in s == 0) _ _ (ne_eqb (height_in s) 0 high) ∙ cond-true (table_block s i == 0) _ _ (eq-eqb (table_block s i) 0 block))
      (cond-false (height_in s == 0) _ _ (ne_eqb (height_in s) 0 high) ∙ cond-true (table_block s i == 0) _ _ (eq-eqb (table_block s i) 0 block)) at

-- ---- of a directory

module _ (t : TreeTable) (v : Seen) (h : Holding) (i : ℕ) (table : IsTableOf t v h) (block_size : IsBlockSize v.size) (fits : Fits h) (low : i < 2 ^ t.depth) where
  inside : 8 * i + 8 ≤ (dinode_in h).size
  inside = omega (arith, table.size, low)

  directory : is_directory_in h ≡ true
  directory = and_left (is_directory_in h) (has_hash_flag (dinode_in h)) table.hashed

  size_h : IsBlockSize h.size
  size_h = subst IsBlockSize (sym table.shown.size) block_size

  pub unit_carries : unit h ≡ v.size - header_length
  unit_carries = cond-true (is_directory_in h) (h.size - header_length) h.size directory ∙ ap (λ n. n - header_length) table.shown.size

  pub found_stuffed : (p : Pointer) (bytes : List ℕ) → height_in h ≡ 0 → v.block_at t.directory ≡ Some bytes → p.leaf ≡ u64_at (dinode_length + 8 * i) bytes → p.from ≡ t.directory → (p.leaf ≡ entry h i) × (p.from ≡ entry_block h i)
  found_stuffed p bytes none at leaf from = (
    leaf ∙ ap (u64_at (dinode_length + 8 * i)) (sym (bytes_of v h t.directory bytes table.shown at)) ∙ sym (entry_stuffed h i inside none),
    from ∙ sym table.shown.own ∙ sym (cond-true (height_in h == 0) _ _ (eq-eqb (height_in h) 0 none)),
  )

  module _ (level : ℕ) (high : height_in h ≡ suc level) where
    not_zero : height_in h ≢ 0
    not_zero e = absurd (omega (arith, e, high))

    pub found_block : (p : Pointer) (b : ℕ) (bytes : List ℕ) → block_at h (8 * i / unit h) ≡ Some b → bytes_at h b ≡ bytes → p.leaf ≡ u64_at (header_length + 8 * i % unit h) bytes → p.from ≡ b → (p.leaf ≡ entry h i) × (p.from ≡ entry_block h i)
    found_block p b bytes is at leaf from =
        let block = some_block h (8 * i / unit h) b is in
        let some : content_block h (8 * i / unit h) ≢ 0 = λ z. block.1 (sym block.0 ∙ z) in (
          leaf ∙ ap (u64_at (header_length + 8 * i % unit h)) (sym at ∙ ap (bytes_at h) (sym block.0)) ∙ sym (entry_in_block h level size_h directory high fits table.whole i inside some),
          from ∙ sym block.0 ∙ sym (cond-false (height_in h == 0) _ _ (ne_eqb (height_in h) 0 not_zero) ∙ cond-false (content_block h (8 * i / unit h) == 0) _ _ (ne_eqb (content_block h (8 * i / unit h)) 0 some)),
        )

    pub found_hole : block_at h (8 * i / unit h) ≡ None → (0 ≡ entry h i) × (t.directory ≡ entry_block h i)
    found_hole is =
        let reached : 8 * i / unit h < reach h.size (height_in h) = subst (λ n. 8 * i / unit h < reach h.size n) (sym high) (omega (arith, within h level size_h directory high fits table.whole i inside, fits.under level high)) in
        let none = no_block h (8 * i / unit h) reached is in (
          sym (entry_in_hole h level size_h directory high fits table.whole i inside none),
          sym table.shown.own ∙ sym (cond-false (height_in h == 0) _ _ (ne_eqb (height_in h) 0 not_zero) ∙ cond-true (content_block h (8 * i / unit h) == 0) _ _ (eq-eqb (content_block h (8 * i / unit h)) 0 none)),
        )

  -- ---- what is asked for, and what is broken

  no_file : is_regular (dinode_in h) ≡ false
  no_file = directory_no_file h directory

  pub block_needed : (m : Missing) (from b k index : ℕ) → m ≡ record { lock = inode_lock t.directory; block = b; plain = false; from = from } → v.block_at b ≡ None → Leads h from k 0 index b → IsNeeded v h (λ j. j ≡ index) 0 m
  block_needed m from b k index is absent leads = subst (IsNeeded v h (λ j. j ≡ index) 0) (sym is) (record {
    lock = ap inode_lock (sym table.shown.own);
    absent = absent;
    way = led_to index k 0 index refl (omega arith) leads (omega arith) (omega arith) (sym no_file);
  })

  pub no_table_header : (from b k index : ℕ) (bytes : List ℕ) → Leads h from k 0 index b → bytes_at h b ≡ bytes → ¬ (HasHeader 7 700 bytes) → broken.IsBroken h 1 b
  no_table_header from b k index bytes leads at lacks = broken.no_header b 7 700 (broken.of_table from k index b leads directory) (subst (λ x. ¬ (HasHeader 7 700 x)) (sym at) lacks)
