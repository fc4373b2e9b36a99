-- A block of a file that a draft frees.
use Rattle.std.proofs.Common.{◌≡◌, ◌≢◌, inl, inr, true, false, Option, None, Some, ℕ, suc, ◌<◌, List, [], ◌∷◌, take, refl, sym, ap, subst, ◌∙◌, arith}
use Rattle.std.proofs.lemmas.Bool.{cases_eq, cond-true, cond-false, eq-eqb, ne_eqb}
use Rattle.std.specs.Cmp.{nat_cmp_total}
use Rattle.std.specs.Prelude.{Contains, IsSome, is_some}
use Rattle.std.specs.FinMap.{FinMap, get, insert, nat_cmp-IsAntisymmetric}
use Rattle.std.specs.Ordering.{nat_cmp}
use Rattle.drafts.specs.declared.fate.Fate.{Fate}
use Rattle.drafts.specs.declared.fate.Fate.TheVariants.{Freed, Put}
use Rattle.finite_maps.proofs.Keys.{inserted_at, inserted_apart}
use Rattle.gfs2_layout.specs.Holding.{Part, Pointed, Cell, Holding, cell_bytes, part_at, bytes_at}
use Rattle.gfs2_layout.specs.Inode.{header_length, fan, pointer, IsPointed, by_dinode, by_block}
use Rattle.dinode_tree.specs.Reading.{inode_lock}
use Rattle.dinode_tree.proofs.Sound.{is_there}
use Rattle.growth_laws.specs.Blocks.{start_in, with_pointer, rewritten, freed_cells}
use Rattle.growth_laws.specs.Files.{IsFile, with_cells}
use Rattle.growth_laws.specs.Steps.{IsFreed}
use Rattle.growth_laws.proofs.Fills.{some_by_part}
use Rattle.growth_laws.proofs.Parts.{not_itself, same_level}
use Rattle.growth_laws.proofs.Pointing.{cleared_pointers_free, rewritten_bytes}
use Rattle.growth_drafts.specs.Taken.{DraftsFile, HasFreed, IsContentIn, IsPutFor}
use Rattle.growth_drafts.proofs.Rooms.{none_some, only_in}
use Rattle.growth_drafts.proofs.Shown.{from_there}
use Rattle.growth_laws.proofs.Places.{size_large}
use Rattle.file_cuts.proofs.Heads.{pointer_behind, start_low}

module _ (old : FinMap nat_cmp Fate) (g : Holding) (from k level first b start : ℕ) (bytes : List ℕ) (file : IsFile g) (part : part_at g b ≡ Some (Pointed from k level first)) (inside : b < g.count)
    (nowhere : (below j : ℕ) → level ≡ suc below → j < fan g.size header_length → pointer g header_length b j ≡ 0) (start_is : start_in g from ≡ start) (seen : bytes_at g from ≡ bytes) where
  abbrev cells : ℕ → Option Cell
  cells = freed_cells g from k b

  pub freed : IsFreed g cells from k level first b
  freed = cleared_pointers_free g from k level first b file part inside nowhere

  pointed : IsPointed g b from k level first
  pointed = file.tree.pointed b from k level first part

  from_part : (p : Part) × (part_at g from ≡ Some p)
  from_part = from_there g b from k level first file pointed

  apart : from ≢ b
  apart e = each pointed
    where
      each : IsPointed g b from k level first → ⊥
      each (by_dinode own high near is first_is) = not_itself _ _ _ _ (sym file.own ∙ ap (part_at g) (sym own ∙ e) ∙ part)
      each (by_block above j start' part' near is first_is) = omega (arith, same_level (sym part' ∙ ap (part_at g) e ∙ part))

  cell_b : cells b ≡ None
  cell_b = cond-true _ _ _ (eq-eqb b b refl)

  cell_from : cells from ≡ rewritten (with_pointer (start_in g from) k 0) (g.cell from)
  cell_from = cond-false _ _ _ (ne_eqb from b apart) ∙ cond-true _ _ _ (eq-eqb from from refl)

  cell_else : (x : ℕ) → x ≢ b → x ≢ from → cells x ≡ g.cell x
  cell_else x other other' = cond-false _ _ _ (ne_eqb x b other) ∙ cond-false _ _ _ (ne_eqb x from other')

  some_same : (x : ℕ) → x ≢ b → is_some (cells x) ≡ is_some (g.cell x)
  some_same x other = some_by_part (g.cell x) (cells x) (freed.stays.parts x other)

  not_content : IsContentIn (with_cells g cells) from → ⊥
  not_content (above, j, first', part'') = each pointed (sym (freed.stays.parts from apart) ∙ part'')
    where
      each : IsPointed g b from k level first → part_at g from ≡ Some (Pointed above j 0 first') → ⊥
      each (by_dinode own high near is first_is) part' = not_itself _ _ _ _ (sym file.own ∙ ap (part_at g) (sym own) ∙ part')
      each (by_block above' j' start' part0 near is first_is) part' = omega (arith, same_level (sym part0 ∙ part'))

  abbrev put : Fate
  put = Put (inode_lock g.own) false (with_pointer start k 0 bytes)

  abbrev puts : FinMap nat_cmp Fate
  puts = insert (insert old from (Put (inode_lock g.own) false (with_pointer start k 0 bytes))) b Freed

  fate_b : get puts b ≡ Some Freed
  fate_b = inserted_at nat_cmp_total nat_cmp-IsAntisymmetric (insert old from put) b Freed

  fate_from : get puts from ≡ Some put
  fate_from = inserted_apart nat_cmp_total nat_cmp-IsAntisymmetric (insert old from put) b Freed from apart ∙ inserted_at nat_cmp_total nat_cmp-IsAntisymmetric old from put

  fate_else : (x : ℕ) → x ≢ b → x ≢ from → get puts x ≡ get old x
  fate_else x other other' = inserted_apart nat_cmp_total nat_cmp-IsAntisymmetric (insert old from put) b Freed x other ∙ inserted_apart nat_cmp_total nat_cmp-IsAntisymmetric old from put x other'

  bytes_from : bytes_at (with_cells g cells) from ≡ with_pointer start k 0 bytes
  bytes_from = ap cell_bytes cell_from ∙ rewritten_bytes (with_pointer (start_in g from) k 0) (g.cell from) from_part.0 from_part.1 ∙ (λ t. with_pointer (start_is t) k 0 (seen t))

  here : (x : ℕ) → IsSome (cells x) → x ≢ b
  here x there e = none_some (cells x) (ap cells e ∙ cell_b) there

  pub free_has : HasFreed g (with_cells g cells) (b ∷ [])
  free_has = record {
    count = refl;
    were = λ x is. subst (λ y. IsSome (g.cell y)) (sym (only_in b x is)) (is_there (g.cell b) _ part);
    kept = λ x. (
      λ there. (sym (some_same x (here x there)) ∙ there, λ is. here x there (only_in b x is)),
      λ had. some_same x (λ e. had.1 (subst (Contains (b ∷ [])) (sym e) (0, omega arith, refl))) ∙ had.0,
    );
  }

  pub free_drafted : DraftsFile old puts g (with_cells g cells) (b ∷ [])
  free_drafted = record {
    own = λ x there. elim (cases_eq x from) [
      | inl e ↦ inr (subst (IsPutFor puts (with_cells g cells)) (sym e) (record {
        plain = false;
        fate = fate_from ∙ ap (λ xs. Some (Put (inode_lock g.own) false xs)) (sym bytes_from);
        content = (λ wrong. let both : false ≡ true = wrong in absurd (cc), λ is. absurd (not_content is));
      }))
      | inr other ↦
          let other_b = here x there in
          inl (record {
            fate = fate_else x other_b other;
            had = sym (some_same x other_b) ∙ there;
            bytes = ap cell_bytes (cell_else x other_b other);
            content = (
              λ is. (is.0, is.1, is.2, sym (freed.stays.parts x other_b) ∙ is.3),
              λ is. (is.0, is.1, is.2, freed.stays.parts x other_b ∙ is.3),
            );
          })
    ];
    frees = λ x is. ap (get puts) (only_in b x is) ∙ fate_b;
    others = λ x none not.
        fate_else x (λ e. not (subst (Contains (b ∷ [])) (sym e) (0, omega arith, refl)))
        (λ e. none (subst (λ y. IsSome (cells y)) (sym e) (some_same from apart ∙ is_there (g.cell from) from_part.0 from_part.1)));
  }

  -- what stands before the pointers of a block stays
  pub free_fronts : (x : ℕ) → IsSome (cells x) → take (start_in g x) (bytes_at (with_cells g cells) x) ≡ take (start_in g x) (bytes_at g x)
  free_fronts x there = elim (cases_eq x from) [
    | inl e ↦ subst (λ y. take (start_in g y) (bytes_at (with_cells g cells) y) ≡ take (start_in g y) (bytes_at g y)) (sym e)
        (ap (take (start_in g from)) (ap cell_bytes cell_from ∙ rewritten_bytes (with_pointer (start_in g from) k 0) (g.cell from) from_part.0 from_part.1)
        ∙ pointer_behind (start_in g from) k 0 (bytes_at g from) (omega (arith, start_low g from, file.whole from from_part.0 from_part.1, size_large g.size file.block_size)))
    | inr other ↦ ap (take (start_in g x)) (ap cell_bytes (cell_else x (here x there) other))
  ]
