-- Shelves and cells go together, whatever is put and dropped.
use Rattle.std.proofs.Common.{◌≡◌, ◌≢◌, ℕ, Bool, true, false, cond, not, ◌&&◌, ◌||◌, ◌==◌, eqb, List, [], ◌∷◌, ◌++◌, Option, Some, None, refl, sym, ap, ◌∙◌, ◌⊎◌, inl, inr}
use Rattle.std.proofs.lemmas.Bool.Decides.{eqb_tells}
use Rattle.std.specs.Map.{lookup}
use Rattle.finite_maps.proofs.Seen.{get-numbers}
use mathlib.Core.Bool.{beq}
use Rattle.glock_names.specs.declared.LockName.{LockName}
use Rattle.glock_names.specs.LockMaps.{same_lock}
use Rattle.block_cache.specs.declared.cache.Cell.{Cell}
use Rattle.block_cache.specs.declared.shelves.ShelfName.{ShelfName}
use Rattle.block_cache.specs.Cells.{kept_if, stays}
use Rattle.block_cache.specs.Shelving.{has, same_shelf, Shelved, on_shelf, Adds, Removes}
use Rattle.block_cache.specs.Tie.{cell_at, shelf_of, belongs, leaves, Tied}
use Rattle.block_cache.proofs.Shelving.{same_shelf_tells}

abbrev Entries : Type 0
Entries = List (ℕ × Cell)

-- a write of the table, as the map sees it
pub sets_cell : (es es' : Entries) (k : ℕ) (w : Option Cell) → ((q : ℕ) → lookup (eqb q) es' ≡ cond (eqb k q) w (lookup (eqb q) es))
    → (b : ℕ) → cell_at es' b ≡ cond (k == b) w (cell_at es b)
sets_cell es es' k w is b = get-numbers es' b ∙ is b ∙ ap (cond (k == b) w) (sym (get-numbers es b))

pub same_shelf_turned : (a b : ShelfName) → same_shelf a b ≡ same_shelf b a
same_shelf_turned a b = elim (same_shelf_tells a b) [
  | inl e ↦ elim (same_shelf_tells b a) [ inl f ↦ e.0 ∙ sym f.0 | inr f ↦ absurd (f.1 (sym e.1)) ]
  | inr e ↦ elim (same_shelf_tells b a) [ inl f ↦ absurd (e.1 (sym f.1)) | inr f ↦ e.0 ∙ sym f.0 ]
]

same : (a b : ShelfName) → a ≡ b → same_shelf a b ≡ true
same a b e = elim (same_shelf_tells a b) [ inl f ↦ f.0 | inr f ↦ absurd (f.1 e) ]

other : (a b : ShelfName) → a ≢ b → same_shelf a b ≡ false
other a b ne = elim (same_shelf_tells a b) [ inl f ↦ absurd (ne f.1) | inr f ↦ f.0 ]

and_false : (t : Bool) → t && false ≡ false
and_false true = refl
and_false false = refl

and_true : (t : Bool) → t && true ≡ t
and_true true = refl
and_true false = refl

if_same : {X : Type 0} (t : Bool) (x : X) → cond t x x ≡ x
if_same true x = refl
if_same false x = refl

-- at the block itself: what a shelf has once it was put on the shelf n, and left that of its old cell
put_there : (before : Option Cell) (n s : ShelfName) → cond (leaves before n s) false (cond (same_shelf n s) true (belongs s before)) ≡ same_shelf s n
put_there None n s = elim (same_shelf_tells n s) [
  | inl e ↦ rw e.0 (sym (same s n (sym e.1)))
  | inr e ↦ rw e.0 (sym (other s n (λ p. e.1 (sym p))))
]
put_there (Some c) n s =
    let o = shelf_of c in
    elim (same_shelf_tells n s) [
      | inl e ↦ elim (same_shelf_tells o s) [
        | inl f ↦ rw (e.0, f.0, same n o (e.1 ∙ sym f.1), same s n (sym e.1)) refl
        | inr f ↦ rw (e.0, f.0, same s n (sym e.1)) (ap (λ t. cond t false true) (and_false (not (same_shelf n o))))
      ]
      | inr e ↦ elim (same_shelf_tells s o) [
        | inl f ↦ rw (e.0, f.0, other n o (λ p. e.1 (p ∙ sym f.1)), same o s (sym f.1), other s n (λ p. e.1 (sym p))) refl
        | inr f ↦ rw (e.0, f.0, other s n (λ p. e.1 (sym p))) (if_same (not (same_shelf n o) && same_shelf o s) false)
      ]
    ]

module _ (es es' : Entries) (old : Shelved) (tied : Tied es old) where
  pub put_tied : (more new : Shelved) (cell : Cell) (block : ℕ) (before : Option Cell) → Adds old more (shelf_of cell) block
      → ((b : ℕ) → cell_at es' b ≡ cond (block == b) (Some cell) (cell_at es b)) → before ≡ cell_at es block
      → ((s : ShelfName) (b : ℕ) → on_shelf new s b ≡ cond (leaves before (shelf_of cell) s && (block == b)) false (on_shelf more s b)) → Tied es' new
  put_tied more new cell block before adds cells was left s b = by (eqb_tells block b)
    where
      n : ShelfName
      n = shelf_of cell

      by : ((eqb block b ≡ true) × (block ≡ b)) ⊎ ((eqb block b ≡ false) × (block ≢ b)) → on_shelf new s b ≡ belongs s (cell_at es' b)
      by (inl e) =
          let before_is : belongs s before ≡ on_shelf old s b = ap (belongs s) (was ∙ ap (cell_at es) e.1) ∙ sym (tied s b) in
          left s b ∙ ap (λ t. cond (leaves before n s && t) false (on_shelf more s b)) e.0 ∙ ap (λ t. cond t false (on_shelf more s b)) (and_true (leaves before n s))
          ∙ ap (cond (leaves before n s) false) (adds s b ∙ ap (λ t. cond (same_shelf n s && t) true (on_shelf old s b)) e.0 ∙ ap (λ t. cond t true (on_shelf old s b)) (and_true (same_shelf n s)) ∙ ap (cond (same_shelf n s) true) (sym before_is))
          ∙ put_there before n s ∙ sym (ap (belongs s) (cells b ∙ ap (λ t. cond t (Some cell) (cell_at es b)) e.0))
      by (inr e) =
          left s b ∙ ap (λ t. cond (leaves before n s && t) false (on_shelf more s b)) e.0 ∙ ap (λ t. cond t false (on_shelf more s b)) (and_false (leaves before n s))
          ∙ adds s b ∙ ap (λ t. cond (same_shelf n s && t) true (on_shelf old s b)) e.0 ∙ ap (λ t. cond t true (on_shelf old s b)) (and_false (same_shelf n s))
          ∙ tied s b ∙ sym (ap (belongs s) (cells b ∙ ap (λ t. cond t (Some cell) (cell_at es b)) e.0))

  -- the block's cell is gone, and it left its shelf
  pub gone_tied : (new : Shelved) (cell : Cell) (block : ℕ) → Some cell ≡ cell_at es block → ((b : ℕ) → cell_at es' b ≡ cond (block == b) None (cell_at es b))
      → Removes old new (shelf_of cell) block → Tied es' new
  gone_tied new cell block was cells left s b = by (eqb_tells block b)
    where
      by : ((eqb block b ≡ true) × (block ≡ b)) ⊎ ((eqb block b ≡ false) × (block ≢ b)) → on_shelf new s b ≡ belongs s (cell_at es' b)
      by (inl e) =
          let on : on_shelf old s b ≡ same_shelf (shelf_of cell) s = tied s b ∙ ap (belongs s) (sym (was ∙ ap (cell_at es) e.1)) ∙ same_shelf_turned s (shelf_of cell) in
          left s b ∙ ap (λ t. cond (same_shelf (shelf_of cell) s && t) false (on_shelf old s b)) e.0 ∙ ap (λ t. cond t false (on_shelf old s b)) (and_true (same_shelf (shelf_of cell) s))
          ∙ ap (cond (same_shelf (shelf_of cell) s) false) on ∙ itself (same_shelf (shelf_of cell) s) ∙ sym (ap (belongs s) (cells b ∙ ap (λ t. cond t None (cell_at es b)) e.0))
        where
          itself : (t : Bool) → cond t false t ≡ false
          itself true = refl
          itself false = refl
      by (inr e) =
          left s b ∙ ap (λ t. cond (same_shelf (shelf_of cell) s && t) false (on_shelf old s b)) e.0 ∙ ap (λ t. cond t false (on_shelf old s b)) (and_false (same_shelf (shelf_of cell) s))
          ∙ tied s b ∙ sym (ap (belongs s) (cells b ∙ ap (λ t. cond t None (cell_at es b)) e.0))

  -- a whole shelf is gone, and the cells of its blocks
  module _ (new : Shelved) (n : ShelfName) (shelf : List ℕ) (taken : (b : ℕ) → has shelf b ≡ on_shelf old n b)
      (gone : (s : ShelfName) (b : ℕ) → on_shelf new s b ≡ cond (same_shelf n s) false (on_shelf old s b))
      (cells : (b : ℕ) → cell_at es' b ≡ cond (has shelf b) None (cell_at es b)) where
    left_cell : (b : ℕ) → cell_at es' b ≡ cond (belongs n (cell_at es b)) None (cell_at es b)
    left_cell b = cells b ∙ ap (λ t. cond t None (cell_at es b)) (taken b ∙ tied n b)

    pub shelf_dropped : (b : ℕ) → cell_at es' b ≡ kept_if (λ c. not (same_shelf n (shelf_of c))) (cell_at es b)
    shelf_dropped b = left_cell b ∙ by (cell_at es b)
      where
        turned : (t : Bool) (c : Cell) → cond t None (Some c) ≡ cond (not t) (Some c) None
        turned true c = refl
        turned false c = refl

        by : (o : Option Cell) → cond (belongs n o) None o ≡ kept_if (λ c. not (same_shelf n (shelf_of c))) o
        by None = refl
        by (Some c) = turned (same_shelf n (shelf_of c)) c

    pub shelf_tied : Tied es' new
    shelf_tied s b = gone s b ∙ ap (cond (same_shelf n s) false) (tied s b) ∙ by (cell_at es b) ∙ sym (ap (belongs s) (left_cell b))
      where
        by : (o : Option Cell) → cond (same_shelf n s) false (belongs s o) ≡ belongs s (cond (belongs n o) None o)
        by None = if_same (same_shelf n s) false
        by (Some c) = elim (same_shelf_tells n s) [
          | inl e ↦ elim (same_shelf_tells n (shelf_of c)) [
            | inl f ↦ rw (e.0, f.0) refl
            | inr f ↦ rw (e.0, f.0) (sym (other s (shelf_of c) (λ p. f.1 (e.1 ∙ p))))
          ]
          | inr e ↦ elim (same_shelf_tells n (shelf_of c)) [
            | inl f ↦ rw (e.0, f.0) (other s (shelf_of c) (λ p. e.1 (f.1 ∙ sym p)))
            | inr f ↦ rw (e.0, f.0) refl
          ]
        ]

or_false : (t : Bool) → t || false ≡ t
or_false true = refl
or_false false = refl

has-last : (rest : List ℕ) (block b : ℕ) → has (rest ++ block ∷ []) b ≡ has rest b || (b == block)
has-last [] block b = or_false (b == block)
has-last (x ∷ rest) block b = ap (λ t. (b == x) || t) (has-last rest block b) ∙ by (b == x)
  where
    by : (t : Bool) → t || (has rest b || (b == block)) ≡ (t || has rest b) || (b == block)
    by true = refl
    by false = refl

-- of the blocks whose cells go, the last one's is gone
pub one_less : (es es' : Entries) (shelf rest : List ℕ) (block : ℕ) → shelf ≡ rest ++ block ∷ [] → ((b : ℕ) → cell_at es' b ≡ cond (block == b) None (cell_at es b))
    → (b : ℕ) → cond (has shelf b) None (cell_at es b) ≡ cond (has rest b) None (cell_at es' b)
one_less es es' shelf rest block is cells b =
    ap (λ l. cond (has l b) None (cell_at es b)) is ∙ ap (λ t. cond t None (cell_at es b)) (has-last rest block b) ∙ by (eqb_tells b block) ∙ ap (cond (has rest b) None) (sym (cells b))
  where
    none : (t : Bool) (o : Option Cell) → cond (t || true) None o ≡ cond t None None
    none true o = refl
    none false o = refl

    turned : (b ≢ block) → eqb block b ≡ false
    turned ne = elim (eqb_tells block b) [ inl f ↦ absurd (ne (sym f.1)) | inr f ↦ f.0 ]

    there : (b ≡ block) → eqb block b ≡ true
    there e = elim (eqb_tells block b) [ inl f ↦ f.0 | inr f ↦ absurd (f.1 (sym e)) ]

    by : ((eqb b block ≡ true) × (b ≡ block)) ⊎ ((eqb b block ≡ false) × (b ≢ block))
        → cond (has rest b || (b == block)) None (cell_at es b) ≡ cond (has rest b) None (cond (block == b) None (cell_at es b))
    by (inl e) = ap (λ t. cond (has rest b || t) None (cell_at es b)) e.0 ∙ none (has rest b) (cell_at es b)
        ∙ sym (ap (λ t. cond (has rest b) None (cond t None (cell_at es b))) (there e.1))
    by (inr e) = ap (λ t. cond (has rest b || t) None (cell_at es b)) e.0 ∙ ap (λ t. cond t None (cell_at es b)) (or_false (has rest b))
        ∙ sym (ap (λ t. cond (has rest b) None (cond t None (cell_at es b))) (turned e.1))

abbrev pub off : LockName → Bool → Cell → Bool
off lock plain c = not (same_shelf (record { lock = lock; plain = plain }) (shelf_of c))

-- what stays where the shelf of a lock's content goes
pub plain_goes : (lock : LockName) (o : Option Cell) → kept_if (off lock true) o ≡ kept_if (stays lock true) o
plain_goes lock None = refl
plain_goes lock (Some c) = by (same_lock lock c.lock) c.plain
  where
    by : (i p : Bool) → cond (not (i && beq true p)) (Some c) None ≡ cond (not i || (true && not p)) (Some c) None
    by true true = refl
    by true false = refl
    by false true = refl
    by false false = refl

-- and where the other goes too
pub both_go : (lock : LockName) (o : Option Cell) → kept_if (off lock false) (kept_if (off lock true) o) ≡ kept_if (stays lock false) o
both_go lock None = refl
both_go lock (Some c) = by (same_lock lock c.lock) c.plain refl refl
  where
    by : (i p : Bool) → same_lock lock c.lock ≡ i → c.plain ≡ p → kept_if (off lock false) (cond (not (i && beq true p)) (Some c) None) ≡ cond (not i || (false && not p)) (Some c) None
    by true true h k = refl
    by true false h k = rw (h, k) refl
    by false true h k = rw (h, k) refl
    by false false h k = rw (h, k) refl
