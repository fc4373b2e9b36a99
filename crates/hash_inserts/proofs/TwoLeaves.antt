-- A new leaf comes to a directory, another one changes, and the dinode counts a block more.
use Rattle.std.proofs.Common.{◌≡◌, ◌≢◌, ◌⊎◌, ℕ, ◌+◌, ◌<◌, ◌≤◌, inl, inr, List, [], ◌∷◌, length, drop, Option, None, Some, refl, sym, ap, ◌∙◌, subst, false, arith}
use Rattle.std.specs.Prelude.{Contains, IsSome}
use Rattle.std.proofs.lemmas.Bool.{cases_eq}
use Rattle.std.specs.FinMap.{FinMap, get, insert}
use Rattle.std.specs.Ordering.{nat_cmp}
use Rattle.drafts.specs.Fates.{block_with, seen_with}
use Rattle.drafts.specs.declared.fate.Fate.{Fate}
use Rattle.drafts.specs.declared.fate.Fate.TheVariants.{Put}
use Rattle.gfs2_layout.specs.Holding.{Holding, Cell, Part, Itself, cell_part, part_at, bytes_at}
use Rattle.gfs2_layout.specs.Inode.{block_count, dinode_in, entry}
use Rattle.gfs2_layout.specs.Structures.{dinode_length}
use Rattle.glock_names.specs.Views.{Seen, HasBlock}
use Rattle.dinode_tree.specs.Pads.{KeepsPads}
use Rattle.dinode_tree.specs.Reading.{inode_lock}
use Rattle.growth_drafts.specs.Taken.{HasTaken}
use Rattle.growth_drafts.proofs.Rooms.{only_in}
use Rattle.pointer_tables.specs.Directories.{IsPlaced, IsTreeSound}
use Rattle.hash_steps.proofs.Chained.{cell_some}
use Rattle.hash_inserts.specs.Drafting.{Puts, with_block}
use Rattle.hash_inserts.specs.Writing.{IsDinodeWritten, counting}
use Rattle.hash_inserts.proofs.Blocks.{bytes_apart, bytes_here, counts_more, counts_same, fate_apart, fate_here, one_put, part_apart, part_here, puts_then, some_before, some_here, some_still}
use Rattle.hash_inserts.proofs.Settled.{behind_now, dinode_now, keeps_now, pads_now, placed_now, sound_now}
use Rattle.hash_inserts.proofs.Trees.{IsWhole, KeepsTree, entry_same, in_tree, keeps_then, leaf_keeps, whole_of, whole_with}

-- block b is new, with these bytes in this part; and leaf x has others
pub record AreLeaves (h : Holding) (b x : ℕ) (part part' : Part) (new changed : List ℕ) : Type 0 where
  pub fresh : h.cell b ≡ None
  pub some : b ≢ 0
  pub inside : b < h.count
  pub there : IsSome (h.cell x)
  pub a_leaf : in_tree (part_at h x) ≡ None
  pub in_chain : in_tree (Some part) ≡ None
  pub in_chain' : in_tree (Some part') ≡ None
  pub long : length new ≡ h.size
  pub long' : length changed ≡ h.size

module _ (h : Holding) (b x : ℕ) (part part' : Part) (new changed dinode : List ℕ) (tree : IsTreeSound h) (placed : IsPlaced h) (are : AreLeaves h b x part part' new changed)
    (written : IsDinodeWritten (bytes_at h h.own) dinode (counting (dinode_in h) 0 0 1)) where
  no_cell : (z : ℕ) → IsSome (h.cell z) → z ≢ b
  no_cell z there is = no (h.cell b) are.fresh (subst (λ y. IsSome (h.cell y)) is there)
    where
      no : (c : Option Cell) → c ≡ None → IsSome c → ⊥
      no None e s = cc
      no (Some c) e s = cc

  some_own : IsSome (h.cell h.own)
  some_own = cell_some (h.cell h.own) Itself placed.own

  pub own_apart : h.own ≢ b
  own_apart = no_cell h.own some_own

  pub x_apart : x ≢ b
  x_apart = no_cell x are.there

  pub x_own : x ≢ h.own
  x_own is = no (sym are.a_leaf ∙ ap (λ z. in_tree (part_at h z)) is ∙ ap in_tree placed.own)
    where
      no : ◌≡◌ {A = Option Part} None (Some Itself) → ⊥
      no e = cc

  pub x_some : x ≢ 0
  x_some is = no (h.cell 0) placed.nobody (subst (λ z. IsSome (h.cell z)) is are.there)
    where
      no : (c : Option Cell) → cell_part c ≡ None → IsSome c → ⊥
      no None e s = cc
      no (Some c) e s = cc

  abbrev pub one : Holding
  one = with_block h b part new

  abbrev pub two : Holding
  two = with_block one x part' changed

  abbrev pub grown : Holding
  grown = with_block two h.own Itself dinode

  fresh_in_tree : in_tree (part_at h b) ≡ None
  fresh_in_tree = ap (λ c. in_tree (cell_part c)) are.fresh

  keeps_one : KeepsTree h one.cell
  keeps_one = leaf_keeps h b part new fresh_in_tree are.in_chain (λ is. own_apart (sym is))

  keeps_two : KeepsTree h two.cell
  keeps_two = keeps_then h one.cell two.cell keeps_one (leaf_keeps one x part' changed (ap in_tree (part_apart h b part new x x_apart) ∙ are.a_leaf) are.in_chain' x_own)

  whole_two : IsWhole two
  whole_two = whole_with one x part' changed
      (whole_with h b part new (whole_of h tree placed) are.long are.some are.inside (λ is. absurd (own_apart (sym is))))
      are.long' x_some (placed.inside x are.there) (λ is. absurd (x_own is))

  own_two : bytes_at two h.own ≡ bytes_at h h.own
  own_two = bytes_apart one x part' changed h.own (λ is. x_own (sym is)) ∙ bytes_apart h b part new h.own own_apart

  counts_two : block_count two ≡ block_count h + 1
  counts_two = counts_same one x part' changed (some_still h b part new x are.there) ∙ counts_more h b part new are.fresh are.inside

  pub sound_grown : IsTreeSound grown
  sound_grown = sound_now h two.cell dinode 0 0 1 tree placed keeps_two whole_two own_two counts_two written

  pub placed_grown : IsPlaced grown
  placed_grown = placed_now h two.cell dinode 0 0 1 tree placed keeps_two whole_two own_two counts_two written

  pub keeps_grown : KeepsTree h grown.cell
  keeps_grown = keeps_now h two.cell dinode 0 0 1 tree placed keeps_two whole_two own_two counts_two written

  pub dinode_grown : dinode_in grown ≡ counting (dinode_in h) 0 0 1
  dinode_grown = dinode_now h two.cell dinode 0 0 1 tree placed keeps_two whole_two own_two counts_two written

  pub behind_grown : drop dinode_length (bytes_at grown h.own) ≡ drop dinode_length (bytes_at h h.own)
  behind_grown = behind_now h two.cell dinode 0 0 1 tree placed keeps_two whole_two own_two counts_two written

  pub pads_grown : KeepsPads (bytes_at h h.own) (bytes_at grown h.own)
  pads_grown = pads_now h two.cell dinode 0 0 1 tree placed keeps_two whole_two own_two counts_two written

  pub entry_grown : 512 ≤ h.size → (i : ℕ) → entry grown i ≡ entry h i
  entry_grown large i = entry_same h grown.cell keeps_grown tree large i

  -- ---- block by block

  pub new_bytes : bytes_at grown b ≡ new
  new_bytes = bytes_apart two h.own Itself dinode b (λ is. own_apart (sym is)) ∙ bytes_apart one x part' changed b (λ is. x_apart (sym is)) ∙ bytes_here h b part new

  pub changed_bytes : bytes_at grown x ≡ changed
  changed_bytes = bytes_apart two h.own Itself dinode x x_own ∙ bytes_here one x part' changed

  pub other_bytes : (y : ℕ) → y ≢ h.own → y ≢ b → y ≢ x → bytes_at grown y ≡ bytes_at h y
  other_bytes y a c d = bytes_apart two h.own Itself dinode y a ∙ bytes_apart one x part' changed y d ∙ bytes_apart h b part new y c

  pub new_part : part_at grown b ≡ Some part
  new_part = part_apart two h.own Itself dinode b (λ is. own_apart (sym is)) ∙ part_apart one x part' changed b (λ is. x_apart (sym is)) ∙ part_here h b part new

  pub changed_part : part_at grown x ≡ Some part'
  changed_part = part_apart two h.own Itself dinode x x_own ∙ part_here one x part' changed

  pub other_parts : (y : ℕ) → y ≢ b → y ≢ x → part_at grown y ≡ part_at h y
  other_parts y c d = elim (cases_eq y h.own) [
    | inl own ↦ ap (part_at grown) own ∙ part_here two h.own Itself dinode ∙ sym placed.own ∙ ap (part_at h) (sym own)
    | inr a ↦ part_apart two h.own Itself dinode y a ∙ part_apart one x part' changed y d ∙ part_apart h b part new y c
  ]

  pub has_taken : HasTaken h grown (b ∷ [])
  has_taken = record { count = refl; blocks = λ y. (before y, after y) }
    where
      before : (y : ℕ) → IsSome (grown.cell y) → IsSome (h.cell y) ⊎ Contains (b ∷ []) y
      before y some = elim (some_before two h.own Itself dinode y some) [
        | inl own ↦ inl (subst (λ z. IsSome (h.cell z)) (sym own) some_own)
        | inr in_two ↦ elim (some_before one x part' changed y in_two) [
          | inl here ↦ inl (subst (λ z. IsSome (h.cell z)) (sym here) are.there)
          | inr in_one ↦ elim (some_before h b part new y in_one) [
            | inl taken ↦ inr (subst (Contains (b ∷ [])) (sym taken) (0, omega arith, refl))
            | inr was ↦ inl was
          ]
        ]
      ]

      still : (y : ℕ) → IsSome (one.cell y) → IsSome (grown.cell y)
      still y some = some_still two h.own Itself dinode y (some_still one x part' changed y some)

      after : (y : ℕ) → IsSome (h.cell y) ⊎ Contains (b ∷ []) y → IsSome (grown.cell y)
      after y (inl was) = still y (some_still h b part new y was)
      after y (inr taken) = subst (λ z. IsSome (grown.cell z)) (sym (only_in b y taken)) (still b (some_here h b part new))

  -- ---- in a draft

  abbrev pub first_fates : FinMap nat_cmp Fate → FinMap nat_cmp Fate
  first_fates fates = insert fates b (Put (inode_lock h.own) false new)

  abbrev pub second_fates : FinMap nat_cmp Fate → FinMap nat_cmp Fate
  second_fates fates = insert (insert fates b (Put (inode_lock h.own) false new)) x (Put (inode_lock h.own) false changed)

  abbrev pub grown_fates : FinMap nat_cmp Fate → FinMap nat_cmp Fate
  grown_fates fates = insert (insert (insert fates b (Put (inode_lock h.own) false new)) x (Put (inode_lock h.own) false changed)) h.own (Put (inode_lock h.own) false dinode)

  pub puts_grown : (v : Seen) (fates : FinMap nat_cmp Fate) → Puts v fates (grown_fates fates) h grown
  puts_grown v fates =
      puts_then v fates (second_fates fates) (grown_fates fates) h two grown
      (puts_then v fates (first_fates fates) (second_fates fates) h one two (one_put v fates h b part new) (one_put v (first_fates fates) one x part' changed))
      (one_put v (second_fates fates) two h.own Itself dinode)

  pub only_grown : (fates : FinMap nat_cmp Fate) (y : ℕ) → (get (grown_fates fates) y ≡ get fates y) ⊎ ((y ≡ h.own) ⊎ ((y ≡ x) ⊎ (y ≡ b)))
  only_grown fates y = elim (cases_eq y h.own) [
    | inl own ↦ inr (inl own)
    | inr a ↦ elim (cases_eq y x) [
      | inl here ↦ inr (inr (inl here))
      | inr d ↦ elim (cases_eq y b) [
        | inl taken ↦ inr (inr (inr taken))
        | inr c ↦ inl (fate_apart (second_fates fates) h.own (Put (inode_lock h.own) false dinode) y a ∙ fate_apart (first_fates fates) x (Put (inode_lock h.own) false changed) y d
            ∙ fate_apart fates b (Put (inode_lock h.own) false new) y c)
      ]
    ]
  ]

  pub sees_new : (v : Seen) (fates : FinMap nat_cmp Fate) → HasBlock (seen_with v (grown_fates fates)) b
  sees_new v fates = (
    new,
    ap (λ f. block_with f (v.block_at b)) (fate_apart (second_fates fates) h.own (Put (inode_lock h.own) false dinode) b (λ e. own_apart (sym e))
        ∙ fate_apart (first_fates fates) x (Put (inode_lock h.own) false changed) b (λ e. x_apart (sym e)) ∙ fate_here fates b (Put (inode_lock h.own) false new)),
  )
