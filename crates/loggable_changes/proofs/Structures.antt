-- What stands on the blocks of an image.
use Rattle.std.proofs.Common.{◌≡◌, ◌+◌, ◌-◌, ◌<◌, ◌⊎◌, ℕ, zero, suc, inl, inr, Bool, true, false, List, [], ◌∷◌, slice_get, Some, refl, sym, ap, subst, ◌∙◌, true≢false, arith}
use Rattle.std.specs.Prelude.{slice_index_or}
use Rattle.std.proofs.lemmas.Bool.{cases_lt}
use Rattle.std.proofs.lemmas.List.FromFn.{get_or-map-range_with_len}
use Rattle.gfs2_layout.specs.Device.{superblock_place}
use Rattle.gfs2_layout.specs.Headers.{HasHeader}
use Rattle.gfs2_layout.specs.Holding.{Pointed}
use Rattle.gfs2_layout.specs.Inode.{IsInode, dinode_in, is_directory_in, is_hashed_in}
use Rattle.gfs2_layout.specs.Structures.{is_regular}
use Rattle.gfs2_layout.specs.declared.rindex.Rindex.{Rindex}
use Rattle.glock_names.specs.declared.LockName.{LockName}
use Rattle.image_model.specs.Groups.{IsDataOf, IsHeaderOf, IsListed, group_blocks}
use Rattle.image_model.specs.Image.{Image}
use Rattle.image_model.specs.Owners.{Owner, Owners, Super, InGroup, Free, Nobody, Root, Master, Named, Below, Chained, IsUsed, IsWithin, holding, is_dinode}
use Rattle.image_model.specs.Stands.{IsLaid, Layout}
use Rattle.image_model.proofs.Held.{block_same, chained_part, none_some, own_block, pointed_part, some_same}
use Rattle.image_changes.specs.Changes.{cover, is_free}
use Rattle.image_changes.specs.Does.{is_content_of}
use Rattle.loggable_changes.specs.Loggable.{CoveredBlocksAreStructures, IsStructure}

-- a header of another kind than that of a journal's header
structure : (kind format : ℕ) (bytes : List ℕ) → HasHeader kind format bytes → (kind ≡ 8 → ⊥) → IsStructure bytes
structure kind format bytes h other = record { magic = h.magic_is; other = λ e. other (sym h.kind_is ∙ e) }

-- ---- in which group a block is

module _ (b : ℕ) where
  abbrev pub IsGroups : Rindex → Type 0
  IsGroups g = IsHeaderOf g b ⊎ IsDataOf g b

  abbrev pub OfSome : List Rindex → Type 0
  OfSome gs = (g : Rindex) × IsListed gs g × IsGroups g

  of_one : (g : Rindex) → IsGroups g ⊎ ((IsHeaderOf g b → ⊥) × (IsDataOf g b → ⊥))
  of_one g = elim (cases_lt b g.address) [
    | inl under ↦ data_or_none (λ (h : IsHeaderOf g b). let low = h.low in omega (arith, low, under))
    | inr over ↦ elim (cases_lt b (g.address + g.length)) [
      | inl inside ↦ inl (inl (record { low = over; high = inside }))
      | inr past ↦ data_or_none (λ (h : IsHeaderOf g b). let high = h.high in omega (arith, high, past))
    ]
  ]
    where
      data_or_none : (IsHeaderOf g b → ⊥) → IsGroups g ⊎ ((IsHeaderOf g b → ⊥) × (IsDataOf g b → ⊥))
      data_or_none off = elim (cases_lt b g.data0) [
        | inl under ↦ inr (off, λ (h : IsDataOf g b). let low = h.low in omega (arith, low, under))
        | inr over ↦ elim (cases_lt b (g.data0 + g.data_blocks)) [
          | inl inside ↦ inl (inr (record { low = over; high = inside }))
          | inr past ↦ inr (off, λ (h : IsDataOf g b). let high = h.high in omega (arith, high, past))
        ]
      ]

  in_groups : (gs : List Rindex) → OfSome gs ⊎ ((g : Rindex) → IsListed gs g → (IsHeaderOf g b → ⊥) × (IsDataOf g b → ⊥))
  in_groups [] = inr (λ g listed. absurd (none_some listed.1))
  in_groups (g ∷ gs) = elim (of_one g) [
    | inl here ↦ inl (g, (0, refl), here)
    | inr off ↦ elim (in_groups gs) [
      | inl later ↦ inl (later.0, (suc later.1.0, later.1.1), later.2)
      | inr none ↦ inr (λ h listed. either off none h listed.0 listed.1)
    ]
  ]
    where
      either : (IsHeaderOf g b → ⊥) × (IsDataOf g b → ⊥) → ((h : Rindex) → IsListed gs h → (IsHeaderOf h b → ⊥) × (IsDataOf h b → ⊥))
          → (h : Rindex) (i : ℕ) → slice_get (g ∷ gs) i ≡ Some h → (IsHeaderOf h b → ⊥) × (IsDataOf h b → ⊥)
      either off none h zero e = subst (λ k. (IsHeaderOf k b → ⊥) × (IsDataOf k b → ⊥)) (some_same e) off
      either off none h (suc i) e = none h (i, e)

-- ---- whose blocks a lock covers

module _ (im : Image) (o : Owners) (l : Layout) (laid : IsLaid im o l) (b : ℕ) where
  not_super : (lock : LockName) → cover l b (o b) ≡ Some lock → o b ≡ Super → ⊥
  not_super lock covered e = none_some (sym (ap (cover l b) e) ∙ covered)

  not_nobody : (lock : LockName) → cover l b (o b) ≡ Some lock → o b ≡ Nobody → ⊥
  not_nobody lock covered e = none_some (sym (ap (cover l b) e) ∙ covered)

  -- a block that a lock covers is one of a group
  pub covered_of_group : (lock : LockName) → cover l b (o b) ≡ Some lock → OfSome b l.groups
  covered_of_group lock covered = elim (cases_lt (superblock_place im.size) b) [
    | inr low ↦ absurd (not_super lock covered (laid.zoned.low b low))
    | inl above ↦ elim (in_groups b l.groups) [
      | inl some ↦ some
      | inr none ↦ absurd (not_nobody lock covered (laid.zoned.between b above none))
    ]
  ]

  -- and so one of the device
  pub group_inside : OfSome b l.groups → b < im.count
  group_inside (g, listed, inl head) = let fits = laid.fit.each g listed in omega (arith, head.high, fits.first, fits.inside)
  group_inside (g, listed, inr data_block) = let fits = laid.fit.each g listed in omega (arith, data_block.high, fits.inside)

  -- ---- what they have

  in_header : (g : Rindex) → IsListed l.groups g → IsHeaderOf g b → IsStructure (im.at b)
  in_header g listed head = by (b - g.address) (let low = head.low in omega (arith, low)) (let low = head.low in let high = head.high in omega (arith, low, high))
    where
      its : (k : ℕ) → b ≡ g.address + k → k < g.length → slice_index_or (group_blocks im.at g) k [] ≡ im.at b
      its k e low = get_or-map-range_with_len im.at g.address g.length k (g.address + k) [] low refl ∙ ap im.at (sym e)

      by : (k : ℕ) → b ≡ g.address + k → k < g.length → IsStructure (im.at b)
      by zero e low = structure 2 200 (im.at b) (subst (HasHeader 2 200) (its zero e low) (laid.groups g listed).header) (λ z. omega (arith, z))
      by (suc k) e low = structure 3 300 (im.at b) (subst (HasHeader 3 300) (its (suc k) e low) ((laid.groups g listed).more (suc k) (omega arith) low)) (λ z. omega (arith, z))

  in_dinode : is_dinode (o b) ≡ true → IsStructure (im.at b)
  in_dinode is = structure 4 400 (im.at b) (subst (HasHeader 4 400) (own_block im o b is) (laid.inodes b is).header) (λ z. omega (arith, z))

  module _ (a : ℕ) (is : is_dinode (o a) ≡ true) where
    sound : IsInode (holding im o a)
    sound = laid.inodes a is

    indirect : (from k level first : ℕ) → o b ≡ Below a from k (suc level) first → IsStructure (im.at b)
    indirect from k level first row =
        let part = pointed_part im o a b from k (suc level) first row in
        structure 5 500 (im.at b) (subst (HasHeader 5 500) (block_same im o a b (Pointed from k (suc level) first) part) (sound.tree.indirect b from k level first part)) (λ z. omega (arith, z))

    -- content that is no file's is a directory's table
    in_table : (from k first : ℕ) → o b ≡ Below a from k 0 first → is_regular (dinode_in (holding im o a)) ≡ false → IsStructure (im.at b)
    in_table from k first row plain =
        let part = pointed_part im o a b from k 0 first row in
        structure 7 700 (im.at b) (subst (HasHeader 7 700) (block_same im o a b (Pointed from k 0 first) part) (sound.tree.table b from k first directory part)) (λ z. omega (arith, z))
      where
        directory : is_directory_in (holding im o a) ≡ true
        directory = elim sound.mode [ inl so ↦ so | inr regular ↦ absurd (true≢false (sym regular ∙ plain)) ]

    in_chain : (hash place : ℕ) → o b ≡ Chained a hash place → IsStructure (im.at b)
    in_chain hash place row = by (is_hashed_in (holding im o a)) refl
      where
        by : (t : Bool) → is_hashed_in (holding im o a) ≡ t → IsStructure (im.at b)
        by true e =
            let part = chained_part im o a b hash place row in
            structure 6 600 (im.at b) (subst (HasHeader 6 600) (block_same im o a b _ part) ((sound.hashed e).leaves b hash place part).header) (λ z. omega (arith, z))
        by false e = absurd (sound.leafless e b hash place (chained_part im o a b hash place row))

  in_use : (x : Owner) → o b ≡ x → IsUsed x → is_content_of im o x ≡ false → IsStructure (im.at b)
  in_use Root e used plain = in_dinode (ap is_dinode e)
  in_use Master e used plain = in_dinode (ap is_dinode e)
  in_use (Named parent name) e used plain = in_dinode (ap is_dinode e)
  in_use (Below a from k zero first) e used plain = in_table a (laid.within b a (subst (IsWithin a) (sym e) refl)) from k first e plain
  in_use (Below a from k (suc level) first) e used plain = indirect a (laid.within b a (subst (IsWithin a) (sym e) refl)) from k level first e
  in_use (Chained a hash place) e used plain = in_chain a (laid.within b a (subst (IsWithin a) (sym e) refl)) hash place e
  in_use Super e used plain = elim used [ ]
  in_use (InGroup g) e used plain = elim used [ ]
  in_use (Free g) e used plain = elim used [ ]
  in_use Nobody e used plain = elim used [ ]

  pub structured : (lock : LockName) → cover l b (o b) ≡ Some lock → is_free (o b) ≡ false → is_content_of im o (o b) ≡ false → IsStructure (im.at b)
  structured lock covered used plain = by (covered_of_group lock covered)
    where
      by : OfSome b l.groups → IsStructure (im.at b)
      by (g, listed, inl head) = in_header g listed head
      by (g, listed, inr data_block) = elim (laid.zoned.data_blocks g listed b data_block) [
        | inl free ↦ absurd (true≢false (sym (ap is_free free) ∙ used))
        | inr some ↦ in_use (o b) refl some plain
      ]

pub covered_blocks_are_structures : CoveredBlocksAreStructures
covered_blocks_are_structures im o l b lock laid covered used plain = structured im o l laid b lock covered used plain
