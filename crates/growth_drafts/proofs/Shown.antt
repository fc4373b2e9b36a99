-- What a draft shows of a file after one step.
use Rattle.std.proofs.Common.{◌≡◌, ◌≢◌, ℕ, suc, Bool, inl, inr, List, Option, None, Some, refl, sym, ap, ◌∙◌, subst}
use Rattle.std.proofs.lemmas.Bool.{cases_eq, cond-true, cond-false, eq-eqb, ne_eqb}
use Rattle.std.specs.Prelude.{IsSome}
use Rattle.std.specs.Cmp.{nat_cmp_total}
use Rattle.std.specs.Ordering.{nat_cmp}
use Rattle.std.specs.FinMap.{FinMap, insert, nat_cmp-IsAntisymmetric}
use Rattle.finite_maps.proofs.Keys.{inserted_at, inserted_apart}
use Rattle.drafts.specs.Fates.{block_with, seen_with}
use Rattle.drafts.specs.declared.fate.Fate.{Fate}
use Rattle.drafts.specs.declared.fate.Fate.TheVariants.{Put, Freed}
use Rattle.gfs2_layout.specs.Holding.{Part, Itself, Pointed, Cell, Holding, cell_bytes, part_at, bytes_at}
use Rattle.gfs2_layout.specs.Inode.{IsPointed, by_dinode, by_block}
use Rattle.glock_names.specs.Views.{Seen}
use Rattle.glock_names.specs.declared.LockName.{LockName}
use Rattle.dinode_tree.specs.Shown.{IsAsSeen}
use Rattle.dinode_tree.proofs.Sound.{is_there, part_of_led}
use Rattle.growth_laws.specs.Blocks.{start_in, with_pointer, repointed, rewritten_cells, filled_cells, freed_cells}
use Rattle.growth_laws.specs.Files.{IsFile, with_cells}
use Rattle.growth_laws.proofs.Fills.{fills_keep_files}
use Rattle.growth_laws.proofs.Frees.{frees_keep_files}
use Rattle.growth_laws.proofs.Pointing.{rewritten_bytes, put_pointers_fill, cleared_pointers_free, rewrites_keep_the_rest}
use Rattle.growth_drafts.specs.Steps.{FilesAreShown, PutsAreSeen, FillsAreShown, FreesAreShown, RewritesAreShown}

pub files_are_shown : FilesAreShown
files_are_shown v h file size same = record {
  own = refl;
  size = size;
  dinode = is_there (h.cell h.own) Itself file.own;
  led_to = λ b k level first c leads. is_there (h.cell c) (Pointed b k level first) (part_of_led h b k level first c file.tree leads);
  same = same;
}

-- ---- what is seen after one more fate

seen_at : (v : Seen) (m : FinMap nat_cmp Fate) (x : ℕ) (fate : Fate) → (seen_with v (insert m x fate)).block_at x ≡ block_with (Some fate) (v.block_at x)
seen_at v m x fate = ap (λ f. block_with f (v.block_at x)) (inserted_at nat_cmp_total nat_cmp-IsAntisymmetric m x fate)

seen_apart : (v : Seen) (m : FinMap nat_cmp Fate) (x y : ℕ) (fate : Fate) → y ≢ x → (seen_with v (insert m x fate)).block_at y ≡ (seen_with v m).block_at y
seen_apart v m x y fate other = ap (λ f. block_with f (v.block_at y)) (inserted_apart nat_cmp_total nat_cmp-IsAntisymmetric m x fate y other)

some_same : (xs ys : List ℕ) → Some xs ≡ Some ys → xs ≡ ys
some_same xs ys e = cc

pub puts_are_seen : PutsAreSeen
puts_are_seen v fates h cell x lock plain bytes seen here rest y found there is = elim (cases_eq y x) [
  | inl same ↦ ap (bytes_at (with_cells h cell)) same ∙ here ∙ some_same bytes found (sym (seen_at v fates x (Put lock plain bytes)) ∙ ap (seen_with v (insert fates x (Put lock plain bytes))).block_at (sym same) ∙ is)
  | inr other ↦
      ap cell_bytes (rest y other) ∙ seen y found (subst IsSome (rest y other) there) (sym (seen_apart v fates x y (Put lock plain bytes) other) ∙ is)
]

-- the block with the pointer, after it was put
module _ (h : Holding) (from k to : ℕ) (p : Part) (part : part_at h from ≡ Some p) where
  bytes_from : cell_bytes (repointed h from k to from) ≡ with_pointer (start_in h from) k to (bytes_at h from)
  bytes_from = ap cell_bytes (cond-true _ _ _ (eq-eqb from from refl)) ∙ rewritten_bytes (with_pointer (start_in h from) k to) (h.cell from) p part

  pub repointed_seen : (v : Seen) (fates : FinMap nat_cmp Fate) (bytes : List ℕ) (lock : LockName) (plain : Bool) → IsAsSeen (seen_with v fates) h → bytes ≡ with_pointer (start_in h from) k to (bytes_at h from)
      → IsAsSeen (seen_with v (insert fates from (Put lock plain bytes))) (with_cells h (repointed h from k to))
  repointed_seen v fates bytes lock plain seen is =
      puts_are_seen v fates h (repointed h from k to) from lock plain bytes seen (bytes_from ∙ sym is) (λ y other. cond-false _ _ _ (ne_eqb y from other))

pub from_there : (h : Holding) (x from k level first : ℕ) → IsFile h → IsPointed h x from k level first → (p : Part) × (part_at h from ≡ Some p)
from_there h x from k level first file (by_dinode own high low is first_is) = (Itself, ap (part_at h) own ∙ file.own)
from_there h x from k level first file (by_block above j start part low is first_is) = (Pointed above j (suc level) start, part)

pub fills_are_shown : FillsAreShown
fills_are_shown v fates h from k level first b bytes new lock lock' plain plain' file shown hole within unused some inside low block is =
    files_are_shown _ (with_cells h (filled_cells h from k level first b new))
    (fills_keep_files h (filled_cells h from k level first b new) from k level first b file (put_pointers_fill h from k level first b new file hole within unused some inside low block)) shown.size
    (puts_are_seen v (insert fates from (Put lock plain bytes)) (with_cells h (repointed h from k b)) (filled_cells h from k level first b new) b lock' plain' new
    (repointed_seen h from k b there.0 there.1 v fates bytes lock plain shown.same is) (ap cell_bytes (cond-true _ _ _ (eq-eqb b b refl))) (λ y other. cond-false _ _ _ (ne_eqb y b other)))
  where
    there : (p : Part) × (part_at h from ≡ Some p)
    there = from_there h 0 from k level first file hole

pub frees_are_shown : FreesAreShown
frees_are_shown v fates h from k level first b bytes lock plain file shown part inside nowhere is =
    files_are_shown _ (with_cells h (freed_cells h from k b))
    (frees_keep_files h (freed_cells h from k b) from k level first b file (cleared_pointers_free h from k level first b file part inside nowhere)) shown.size seen
  where
    there : (p : Part) × (part_at h from ≡ Some p)
    there = from_there h b from k level first file (file.tree.pointed b from k level first part)

    not_some : (o : Option Cell) → o ≡ None → IsSome o → ⊥
    not_some None e some = cc
    not_some (Some c) e some = cc

    seen : IsAsSeen (seen_with v (insert (insert fates from (Put lock plain bytes)) b Freed)) (with_cells h (freed_cells h from k b))
    seen y found some has = elim (cases_eq y b) [
      | inl same ↦ absurd (not_some _ (cond-true _ _ _ (eq-eqb y b same)) some)
      | inr other ↦
          let kept : freed_cells h from k b y ≡ repointed h from k 0 y = cond-false _ _ _ (ne_eqb y b other) in
          ap cell_bytes kept
          ∙ repointed_seen h from k 0 there.0 there.1 v fates bytes lock plain shown.same is y found (subst IsSome kept some) (sym (seen_apart v (insert fates from (Put lock plain bytes)) b y Freed other) ∙ has)
    ]

pub rewrites_are_shown : RewritesAreShown
rewrites_are_shown v fates h x p bytes lock plain file shown part file' =
    files_are_shown _ (with_cells h (rewritten_cells h x bytes)) file' shown.size
    (puts_are_seen v fates h (rewritten_cells h x bytes) x lock plain bytes shown.same (rewrites_keep_the_rest h x p bytes part).1 (λ y other. cond-false _ _ _ (ne_eqb y x other)))
