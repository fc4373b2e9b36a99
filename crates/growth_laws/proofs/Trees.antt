-- Trees whose blocks keep their parts.
use Rattle.std.proofs.Common.{◌≡◌, ◌≢◌, ℕ, suc, ◌+◌, ◌-◌, ◌*◌, ◌<◌, true, false, Option, Some, sym, ap, subst, ◌∙◌, arith}
use Rattle.gfs2_layout.specs.Bytes.{u64_at}
use Rattle.gfs2_layout.specs.Headers.{HasHeader}
use Rattle.gfs2_layout.specs.Holding.{Part, Pointed, Cell, Holding, part_at, bytes_at}
use Rattle.gfs2_layout.specs.Inode.{dinode_in, height_in, header_length, fan, span, pointer, content_block, content_count, IsChild, IsPointed, by_dinode, by_block, HasTree}
use Rattle.gfs2_layout.specs.Structures.{dinode_length, is_regular}
use Rattle.growth_laws.specs.Files.{IsFile, with_cells, places_on}
use Rattle.growth_laws.proofs.Contents.{no_directory, same_place}
use Rattle.growth_laws.proofs.Parts.{some_part}
use Rattle.growth_laws.proofs.Places.{content_is_level_zero}

-- content below a block of a file begins before the file's end
pub part_within : (h : Holding) → IsFile h → (x from k level first : ℕ) → part_at h x ≡ Some (Pointed from k level first) → first < content_count h
part_within h file x from k level first part = by (file.tree.pointed x from k level first part)
  where
    some : x ≢ 0
    some = some_part h x _ file.nobody part

    by : IsPointed h x from k level first → first < content_count h
    by (by_dinode own high low is first_is) =
        let led : pointer h dinode_length h.own k ≢ 0 = λ none. some (sym is ∙ ap (λ y. pointer h dinode_length y k) own ∙ none) in
        subst (λ n. n < content_count h) (sym first_is) (file.tree.top level high k low led).within
    by (by_block above j start over low is first_is) =
        subst (λ n. n < content_count h) (sym first_is) (file.tree.inner from above j level start over k low (λ none. some (sym is ∙ none))).within

module _ (h : Holding) (cell : ℕ → Option Cell) (file : IsFile h) (heights : height_in (with_cells h cell) ≡ height_in h) (regular : is_regular (dinode_in (with_cells h cell)) ≡ true)
    (parts : (x : ℕ) → part_at (with_cells h cell) x ≡ part_at h x)
    (of_dinode : (j : ℕ) → pointer (with_cells h cell) dinode_length h.own j ≡ pointer h dinode_length h.own j)
    (of_blocks : (x above j l s : ℕ) → part_at h x ≡ Some (Pointed above j (suc l) s) → bytes_at (with_cells h cell) x ≡ bytes_at h x)
    (within : (x above j l s : ℕ) → part_at h x ≡ Some (Pointed above j l s) → s < content_count (with_cells h cell)) where
  was : (x : ℕ) (p : Part) → part_at (with_cells h cell) x ≡ Some p → part_at h x ≡ Some p
  was x p part = sym (parts x) ∙ part

  child : (x j l s c : ℕ) → IsChild h x j l s c → IsChild (with_cells h cell) x j l s c
  child x j l s c is = record { part = parts c ∙ is.part; within = within c x j l s is.part }

  pub tree_same : HasTree (with_cells h cell)
  tree_same = record {
    top = λ l high j low some. subst (IsChild (with_cells h cell) h.own j l (j * span h.size l)) (sym (of_dinode j))
        (child h.own j l (j * span h.size l) _ (file.tree.top l (sym heights ∙ high) j low (λ none. some (of_dinode j ∙ none))));
    inner = λ x a i l s part j low some.
        let same : pointer (with_cells h cell) header_length x j ≡ pointer h header_length x j = ap (u64_at (header_length + 8 * j)) (of_blocks x a i l s (was x _ part)) in
        subst (IsChild (with_cells h cell) x j l (s + j * span h.size l)) (sym same)
        (child x j l (s + j * span h.size l) _ (file.tree.inner x a i l s (was x _ part) j low (λ none. some (same ∙ none))));
    pointed = λ x a j l s part. by x a j l s (file.tree.pointed x a j l s (was x _ part));
    below = λ x a j l s part. omega (arith, heights, file.tree.below x a j l s (was x _ part));
    indirect = λ x a j l s part. subst (HasHeader 5 500) (sym (of_blocks x a j l s (was x _ part))) (file.tree.indirect x a j l s (was x _ part));
    table = λ x a j s directory part. let both : true ≡ false = sym directory ∙ no_directory (with_cells h cell) regular in absurd (cc);
  }
    where
      by : (x a j l s : ℕ) → IsPointed h x a j l s → IsPointed (with_cells h cell) x a j l s
      by x a j l s (by_dinode own high low is first_is) =
          by_dinode own (heights ∙ high) low (ap (λ y. pointer (with_cells h cell) dinode_length y j) own ∙ of_dinode j ∙ ap (λ y. pointer h dinode_length y j) (sym own) ∙ is) first_is
      by x a j l s (by_block above i start over low is first_is) =
          by_block above i start (parts a ∙ over) low (ap (u64_at (header_length + 8 * j)) (of_blocks a above i l start over) ∙ is) first_is

-- the places are the same
module _ (h : Holding) (cell : ℕ → Option Cell) (file : IsFile h) (file' : IsFile (with_cells h cell)) (heights : height_in (with_cells h cell) ≡ height_in h)
    (parts : (x : ℕ) → part_at (with_cells h cell) x ≡ part_at h x) where
  pub content_block_same : (i : ℕ) → 0 < height_in h → i < places_on h 0 → content_block (with_cells h cell) i ≡ content_block h i
  content_block_same i low less =
      let places : places_on (with_cells h cell) 0 ≡ places_on h 0 = ap (λ n. fan h.size dinode_length * span h.size (n - 1 - 0)) heights in
      content_is_level_zero (with_cells h cell) i
      ∙ same_place h (with_cells h cell) 0 i file file' low (omega (arith, low, heights)) less (omega (arith, less, places))
      (λ c placed. (placed.0, placed.1, parts c ∙ placed.2)) (λ c placed. (placed.0, placed.1, sym (parts c) ∙ placed.2))
      ∙ sym (content_is_level_zero h i)

-- a file without blocks beside its dinode's has no tree
pub bare_tree : (g : Holding) → ((x from k level first : ℕ) → part_at g x ≢ Some (Pointed from k level first))
    → ((level : ℕ) → height_in g ≡ suc level → (j : ℕ) → j < fan g.size dinode_length → pointer g dinode_length g.own j ≡ 0) → HasTree g
bare_tree g bare nowhere = record {
  top = λ l high j low some. absurd (some (nowhere l high j low));
  inner = λ x a i l s part j low some. absurd (bare x a i (suc l) s part);
  pointed = λ x a j l s part. absurd (bare x a j l s part);
  below = λ x a j l s part. absurd (bare x a j l s part);
  indirect = λ x a j l s part. absurd (bare x a j (suc l) s part);
  table = λ x a j s directory part. absurd (bare x a j 0 s part);
}
