-- What a row of a flush logs.
use Rattle.std.proofs.Common.{◌≡◌, ℕ, ◌<◌, ◌≤◌, List, map, length, Option, None, Some, ◌⊎◌, inl, inr, sym, ap, subst, ◌∙◌, slice_get, get_or, unwrap_or, arith}
use Rattle.std.proofs.lemmas.Option.{get_or_from_slice_get, slice_get-get_or, slice_get-map, slice_get_cases}
use Rattle.std.specs.Option.{option_map}
use Rattle.std.specs.FinMap as table
use Rattle.log_layout.specs.Chunks.{Logged}
use Rattle.log_tables.specs.Kept.{Kept}
use Rattle.log_values.specs.Log.{Version}
use Rattle.log_values.specs.Transactions.{logged_as}
use Rattle.log_memory.specs.Rows.{row_of, rows}

-- the entry at a place that there is
pub entry_at : {A : Type 0} (xs : List A) (i : ℕ) → i < length xs → (x : A) × (slice_get xs i ≡ Some x)
entry_at {A} xs i inside = by (slice_get_cases xs i).1
  where
    by : ((x : A) × (i < length xs) × (slice_get xs i ≡ Some x) × (get_or xs i x ≡ x)) ⊎ ((length xs ≤ i) × (slice_get xs i ≡ None)) → (x : A) × (slice_get xs i ≡ Some x)
    by (inl (x, less, here, at)) = (x, here)
    by (inr (past, none)) = absurd (omega arith)

-- what the row at a place of the list is
pub row_at : (k : Kept) (places : List ℕ) (place : ℕ) (e : Logged) → place < length places → slice_get (map (row_of k) places) place ≡ Some e → row_of k (get_or places place 0) ≡ e
row_at k places place e inside at =
    let both : Some (row_of k (get_or places place 0)) ≡ Some e = sym (slice_get-map (row_of k) places place ∙ ap (option_map (row_of k)) (slice_get-get_or places place 0 inside)) ∙ at in
    ap (λ (o : Option Logged). unwrap_or o e) both

pub row_is : (k : Kept) (i : ℕ) (x : ℕ × Version) → slice_get (table.entries k.flushed) i ≡ Some x → row_of k i ≡ logged_as x.0 x.1
row_is k i x here =
    get_or_from_slice_get (rows k) i (logged_as x.0 x.1) _ (slice_get-map (λ (e : ℕ × Version). logged_as e.0 e.1) (table.entries k.flushed) i ∙ ap (option_map (λ (e : ℕ × Version). logged_as e.0 e.1)) here)

pub flushed_entry : (k : Kept) (i : ℕ) → i < table.len k.flushed → (x : ℕ × Version) × (slice_get (table.entries k.flushed) i ≡ Some x)
flushed_entry k i inside = entry_at (table.entries k.flushed) i (subst (λ n. i < n) (table.len-entries k.flushed) inside)
