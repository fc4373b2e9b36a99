-- A split as a step of an insertion.
use Rattle.std.proofs.Common.{◌≡◌, ◌⊎◌, ℕ, ◌+◌, ◌-◌, ◌*◌, ◌/◌, ◌^◌, ◌<◌, ◌≤◌, inl, inr, true, List, [], ◌∷◌, length, Option, None, Some, refl, sym, ap, ap₂, ◌∙◌, subst, subst₂, arith}
use Rattle.std.specs.Prelude.{IsSome, Contains}
use Rattle.std.specs.FinMap.{FinMap}
use Rattle.std.specs.Ordering.{nat_cmp}
use Rattle.std.proofs.lemmas.Bool.{cases_eq}
use Rattle.std.proofs.lemmas.List.Elements.{Contains-append_right}
use Rattle.drafts.specs.Fates.{seen_with}
use Rattle.drafts.specs.declared.fate.Fate.{Fate}
use Rattle.gfs2_layout.specs.Area.{slots_of}
use Rattle.gfs2_layout.specs.Holding.{Holding, InChain, Pointed, part_at}
use Rattle.gfs2_layout.specs.Inode.{depth_in, entry, first_hash, is_leaf_part, leaf_area, leaf_in, table_count}
use Rattle.glock_names.specs.Views.{Seen, HasBlock}
use Rattle.hash_steps.specs.Shown.{IsInChain, IsShown, index_for}
use Rattle.pointer_tables.specs.Directories.{chain_head, chain_next}
use Rattle.table_changes.specs.Pointers.{HasPointerOf, IsWithin}
use Rattle.hash_steps.proofs.Chained.{cell_some, head_some, index_low}
use Rattle.hash_steps.specs.Laws.{Stays}
use Rattle.hash_steps.specs.Leaves.{HasOneLeaf, first_of, has_room_for, leaf_depth, middle_hash, run_of}
use Rattle.hash_inserts.specs.Advancing.{CanInsert, IsAtLeaf, IsFullLeaf, StepsOn, StepsTo}
use Rattle.hash_inserts.specs.Drafting.{SplitsLeaf}
use Rattle.hash_inserts.specs.Inserting as ins
use Rattle.hash_inserts.specs.Inserting.{HasNoRoom, HasOneLeafFor, IsInsertedAt, IsSplitAt, a_leaf_with_room, after_split, depth_for, one_taken, the_last_leaf, the_leaf, the_new_one}
use Rattle.hash_inserts.proofs.Blockwise.{size_bounds}
use Rattle.hash_inserts.proofs.Chosen.{chosen, depth_same, index_same, needs_less}
use Rattle.hash_inserts.proofs.Pointing.{half_less, pointer_of_more, run_inside, run_low}
use Rattle.hash_inserts.proofs.Onward.{came_there, can_still, table_still}

-- ---- a chain with one leaf

pub only_head : (k : Holding) (i : ℕ) → HasOneLeaf k i → (place x : ℕ) → IsInChain k i place x → x ≡ entry k i
only_head k i one _ _ (chain_head low some) = refl
only_head k i one _ _ (chain_next place x chain more) = absurd (more (ap (λ y. (leaf_in k y).next) (only_head k i one place x chain) ∙ one))

pub none_has_room : (h : Holding) (name : List ℕ) (leaf : ℕ) → leaf ≡ entry h (index_for h name) → HasOneLeafFor h name → IsFullLeaf h name leaf → HasNoRoom h name
none_has_room h name leaf is one full place x chain = ap (λ y. has_room_for (length name) (slots_of (leaf_area h y))) (only_head h (index_for h name) one place x chain ∙ sym is) ∙ full

pub here : (x : ℕ) (xs : List ℕ) → Contains (x ∷ xs) x
here x xs = (0, omega arith, refl)

module _ (v : Seen) (old new : FinMap nat_cmp Fate) (room left : List ℕ) (dir : ℕ) (name : List ℕ) (need b leaf : ℕ) (h m : Holding) (can : CanInsert (seen_with v old) dir h name room need) (at : IsAtLeaf (seen_with v old) h name leaf)
    (full : IsFullLeaf h name leaf) (less : depth_for h name < depth_in h) (splits : SplitsLeaf v old new h m (index_for h name) b) (stays : Stays h m) (front : room ≡ b ∷ left) where
  abbrev i : ℕ
  i = index_for h name

  no_room : HasNoRoom h name
  no_room = none_has_room h name leaf at.leaf_is at.one full

  low : i < table_count h
  low = index_low h can.sound can.shown.hashed name can.small

  first_leaf : (x : ℕ) (g : Holding) (taken : List ℕ) → x ≡ entry h i → IsInsertedAt h g name taken x
  first_leaf x g taken is = subst (IsInsertedAt h g name taken) (sym is) (the_last_leaf 0 no_room (chain_head low (head_some h can.sound can.shown.hashed i low)) at.one)

  one_after : HasOneLeafFor m name
  one_after =
      let new_one = chosen h m name b can.sound can.shown.hashed can.small less splits.is in
      ap (λ x. (leaf_in m x).next) new_one.leads ∙ new_one.next

  -- what is done to a leaf of the name's chain afterwards is done to the new one, or to the one that it had
  of_leaf : (place x : ℕ) (g : Holding) (taken : List ℕ) → IsInChain m (index_for m name) place x → IsInsertedAt h g name (b ∷ taken) x
  of_leaf place x g taken chain =
      let new_one = chosen h m name b can.sound can.shown.hashed can.small less splits.is in
      let is : x ≡ new_one.leaf = only_head m (index_for m name) one_after place x chain ∙ new_one.leads in
      elim new_one.which [
        | inl new_is ↦ one_taken (subst (Contains (b ∷ taken)) (sym (is ∙ new_is)) (here b taken))
        | inr old_is ↦ first_leaf x g (b ∷ taken) (is ∙ old_is)
      ]

  in_chain_only : (x from k level first hash place : ℕ) → part_at m x ≡ Some (InChain hash place) → part_at m x ≡ Some (Pointed from k level first) → ⊥
  in_chain_only x from k level first hash place one two = no (sym one ∙ two)
    where
      no : Some (InChain hash place) ≡ Some (Pointed from k level first) → ⊥
      no e = cc

  -- what has a pointer to the name's leaf has had one to the leaf before
  deep_same : depth_in m ≡ depth_in h
  deep_same = depth_same h m name b can.sound can.shown.hashed can.small less splits.is

  pointer_before : (x : ℕ) → HasPointerOf m (first_of m (index_for m name)) (run_of m (depth_for m name)) x → HasPointerOf h (first_of h i) (run_of h (leaf_depth h i)) x
  pointer_before x pointer =
      let new_one = chosen h m name b can.sound can.shown.hashed can.small less splits.is in
      let half : ℕ = run_of h (leaf_depth h i + 1) in
      let deep_is : depth_for m name ≡ leaf_depth h i + 1 = ap (λ y. (leaf_in m y).depth) new_one.leads ∙ new_one.depth in
      let run_is : run_of m (depth_for m name) ≡ run_of h (leaf_depth h i + 1) = ap₂ (λ n k. 2 ^ (n - k)) deep_same deep_is in
      let first_is : first_of m (index_for m name) ≡ i / run_of h (leaf_depth h i + 1) * run_of h (leaf_depth h i + 1) = ap₂ (λ n r. n / r * r) (index_same h m name b can.sound can.shown.hashed can.small less splits.is) run_is in
      let inside = run_inside h i less in
      let j : ℕ = pointer.0 in
      let within : IsWithin (i / run_of h (leaf_depth h i + 1) * run_of h (leaf_depth h i + 1)) (run_of h (leaf_depth h i + 1)) j = subst₂ (λ f n. IsWithin f n j) first_is run_is pointer.1 in
      let low_j : j < table_count h = omega (arith, within.high, inside.1, run_low h i can.sound can.shown.hashed low) in
      pointer_of_more h (i / half * half) half (first_of h i) (run_of h (leaf_depth h i)) x inside.0 inside.1 (j, within, pointer.2 ∙ splits.blocks j low_j)

  later : (x : ℕ) (g : Holding) (taken : List ℕ) → depth_in m ≤ depth_in g → IsInsertedAt m g name taken x → IsInsertedAt h g name (b ∷ taken) x
  later x g taken on (ins.IsInsertedAt.its_dinode is) = ins.IsInsertedAt.its_dinode (is ∙ splits.is.same.own)
  later x g taken on (a_leaf_with_room place chain none room_there) = of_leaf place x g taken chain
  later x g taken on (the_last_leaf place none chain ends) = of_leaf place x g taken chain
  later x g taken on (one_taken came) = one_taken (Contains-append_right (b ∷ []) taken x came)
  later x g taken on (ins.IsInsertedAt.of_pointers none one again pointer) = ins.IsInsertedAt.of_pointers no_room at.one less (pointer_before x pointer)
  later x g taken on (ins.IsInsertedAt.of_table above k level first none one deeper part) = elim (cases_eq x b) [
    | inl is ↦ absurd (in_chain_only x above k level first (first_hash h i) 0 (ap (part_at m) is ∙ splits.is.new_part) part)
    | inr not_new ↦ elim (cases_eq x (entry h i)) [
      | inl is ↦ absurd (in_chain_only x above k level first (middle_hash h i) 0 (ap (part_at m) is ∙ splits.is.old_part) part)
      | inr other ↦ ins.IsInsertedAt.of_table above k level first no_room at.one (omega (arith, deeper, deep_same)) (sym (splits.is.parts x not_new other) ∙ part)
    ]
  ]

  by_split : (x : ℕ) → IsSplitAt h i b x → IsInsertedAt h m name (b ∷ []) x
  by_split x (ins.IsSplitAt.its_dinode is) = ins.IsInsertedAt.its_dinode is
  by_split x (the_leaf chain) = the_last_leaf 0 no_room chain (ap (λ y. (leaf_in h y).next) (only_head h i at.one 0 x chain) ∙ at.one)
  by_split x (the_new_one is) = one_taken (subst (Contains (b ∷ [])) (sym is) (here b []))
  by_split x (ins.IsSplitAt.of_pointers pointer) =
      ins.IsInsertedAt.of_pointers no_room at.one less
      (pointer_of_more h (first_of h i) (run_of h (leaf_depth h i + 1)) (first_of h i) (run_of h (leaf_depth h i)) x (omega arith) (omega (arith, half_less h i less)) pointer)

  steps : StepsTo v old new name h m (b ∷ [])
  steps = record {
    puts = splits.puts;
    has = splits.has;
    stays = stays;
    deep = omega (arith, deep_same);
    changes = λ x. elim (splits.only x) [
      | inl same ↦ inl same
      | inr done ↦ inr (by_split x done)
    ];
    later = later;
    goes_on = λ e g taken inserted. after_split h m g b taken no_room at.one less splits.is stays.sound inserted;
  }

  leaves : (x : ℕ) → IsSome (h.cell x) → is_leaf_part (part_at h x) ≡ true → is_leaf_part (part_at m x) ≡ true
  leaves x some is_leaf = elim (cases_eq x b) [
    | inl is ↦ ap is_leaf_part (ap (part_at m) is ∙ splits.is.new_part)
    | inr not_new ↦ elim (cases_eq x (entry h i)) [
      | inl is ↦ ap is_leaf_part (ap (part_at m) is ∙ splits.is.old_part)
      | inr other ↦ ap is_leaf_part (splits.is.parts x not_new other) ∙ is_leaf
    ]
  ]

  large : 512 ≤ m.size
  large = (size_bounds m.size stays.sound.block_size).0

  chosen_some : (x : ℕ) → (x ≡ b) ⊎ (x ≡ entry h i) → IsSome (m.cell x)
  chosen_some x (inl is) = cell_some (m.cell x) (InChain (first_hash h i) 0) (ap (part_at m) is ∙ splits.is.new_part)
  chosen_some x (inr is) = cell_some (m.cell x) (InChain (middle_hash h i) 0) (ap (part_at m) is ∙ splits.is.old_part)

  chosen_had : (x : ℕ) → (x ≡ b) ⊎ (x ≡ entry h i) → IsSome (h.cell x) → HasBlock (seen_with v old) x
  chosen_had x (inl is) some = absurd (no (h.cell x) (ap h.cell is ∙ splits.is.new) some)
    where
      no : {A : Type 0} (o : Option A) → o ≡ None → IsSome o → ⊥
      no None e some = cc
      no (Some c) e some = cc
  chosen_had x (inr is) some = subst (HasBlock (seen_with v old)) (at.leaf_is ∙ sym is) at.there

  pub split_on : IsShown (seen_with v new) dir m → (next : ℕ) → next ≡ entry m (index_for m name) → StepsOn v (seen_with v new) old new room left dir name need next h m
  split_on shown next next_is =
      let new_one = chosen h m name b can.sound can.shown.hashed can.small less splits.is in
      let which : (next ≡ b) ⊎ (next ≡ entry h i) = subst (λ x. (x ≡ b) ⊎ (x ≡ entry h i)) (sym (next_is ∙ new_one.leads)) new_one.which in
      let fewer = needs_less h m name b can.sound can.shown.hashed can.small less splits.is need at.one (ap (λ x. has_room_for (length name) (slots_of (leaf_area h x))) (sym at.leaf_is) ∙ full) can.takes in
      let all : need ≡ 1 + fewer.0 = omega (arith, fewer.1) in
      record {
        more = b ∷ [];
        rest = fewer.0;
        steps = steps;
        front = front;
        all = all;
        can = can_still (seen_with v old) (seen_with v new) dir h m name (b ∷ []) room left need fewer.0 can shown stays splits.has front all fewer.2;
        at = record {
          leaf_is = next_is;
          one = one_after;
          sees = table_still v old new h m splits.puts large stays.sound.inode leaves at.sees;
          there = came_there v old new h m splits.puts large stays.sound.inode.whole next (chosen_some next which) (chosen_had next which);
        };
        deeper = omega (arith, ap (λ x. (leaf_in m x).depth) new_one.leads, new_one.depth, depth_same h m name b can.sound can.shown.hashed can.small less splits.is);
      }
