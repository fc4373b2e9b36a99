-- The lists of a flush, row by row.
use Rattle.std.proofs.Common.{◌≡◌, ℕ, zero, suc, ◌+◌, ◌<◌, ◌≤◌, Bool, true, false, List, [], ◌∷◌, ◌++◌, take, filter, map, length, Some, refl, sym, ap, subst, ◌∙◌, slice_get, if◌then◌else◌, arith}
use Rattle.std.specs.List.{All}
use Rattle.std.proofs.lemmas.List.{length-map, map-append}
use Rattle.std.proofs.lemmas.List.Elements.{All-append, All-cons, All-nil, filter-append}
use Rattle.std.proofs.lemmas.Option.{slice_get-map}
use Rattle.std.specs.Option.{option_map}
use Rattle.std.specs.FinMap as table
use Rattle.log_layout.specs.Chunks.{Logged}
use Rattle.log_tables.specs.Kept.{Kept}
use Rattle.log_values.specs.Blocks as set
use Rattle.log_values.specs.Log.{Version}
use Rattle.log_values.specs.Transactions.{logged_as}
use Rattle.log_memory.specs.Flushing.{is_of_kind}
use Rattle.log_memory.specs.Rows.{row_of, rows}
use Rattle.log_memory.proofs.RowsRead.{entry_at, row_is}

-- the first so many, and one more
pub take_one : {A : Type 0} (xs : List A) (n : ℕ) (x : A) → slice_get xs n ≡ Some x → take (n + 1) xs ≡ take n xs ++ x ∷ []
take_one {A} xs n x at = shifted n ∙ by xs n at
  where
    shifted : (m : ℕ) → take (m + 1) xs ≡ take (suc m) xs
    shifted m = ap (λ k. take k xs) (let e : m + 1 ≡ suc m = omega arith in e)

    same : (y : A) → Some y ≡ Some x → y ≡ x
    same y is = cc

    by : (ys : List A) (m : ℕ) → slice_get ys m ≡ Some x → take (suc m) ys ≡ take m ys ++ x ∷ []
    by [] m is = absurd (none m is)
      where
        none : (k : ℕ) → slice_get [] k ≡ Some x → ⊥
        none k e = cc
    by (y ∷ ys) zero is = ap (λ z. z ∷ []) (same y is)
    by (y ∷ ys) (suc m) is = ap (λ zs. y ∷ zs) (by ys m is)

pub take_enough : {A : Type 0} (xs : List A) (n : ℕ) → length xs ≤ n → take n xs ≡ xs
take_enough [] zero less = refl
take_enough [] (suc n) less = refl
take_enough (x ∷ xs) zero less = absurd (omega arith)
take_enough (x ∷ xs) (suc n) less = ap (λ ys. x ∷ ys) (take_enough xs n (omega arith))

-- ---- blocks of a set

abbrev pub number : ℕ × Unit {0} → ℕ
number e = e.0

pub one_listed : (s : set.Blocks) (place : ℕ) (old new : List ℕ) (row : ℕ × Unit {0}) → old ≡ map number (take place (table.entries s)) → slice_get (table.entries s) place ≡ Some row → new ≡ old ++ row.0 ∷ []
    → new ≡ map number (take (place + 1) (table.entries s))
one_listed s place old new row so_far at is =
    is ∙ ap (λ xs. xs ++ row.0 ∷ []) so_far ∙ sym (map-append number (take place (table.entries s)) (row ∷ [])) ∙ ap (map number) (sym (take_one (table.entries s) place row at))

pub all_listed : (s : set.Blocks) (place : ℕ) (now : List ℕ) → now ≡ map number (take place (table.entries s)) → table.len s ≤ place → now ≡ set.items s
all_listed s place now so_far all = so_far ∙ ap (map number) (take_enough (table.entries s) place (subst (λ n. n ≤ place) (table.len-entries s) all))

-- ---- rows of a kind

pub record IsListedUpTo (k : Kept) (plain : Bool) (places : List ℕ) (count : ℕ) : Type 0 where
  pub few : length places ≤ count
  pub inside : All (λ p. p < table.len k.flushed) places
  pub are : map (row_of k) places ≡ filter (is_of_kind plain) (take count (rows k))

module _ (k : Kept) (plain : Bool) (places : List ℕ) (count : ℕ) (h : IsListedUpTo k plain places count) (less : count < table.len k.flushed) where
  pub row : (e : ℕ × Version) × (slice_get (table.entries k.flushed) count ≡ Some e)
  row = entry_at (table.entries k.flushed) count (subst (λ n. count < n) (table.len-entries k.flushed) less)

  abbrev pub said : Logged
  said = logged_as row.0.0 row.0.1

  there : slice_get (rows k) count ≡ Some said
  there = slice_get-map (λ (e : ℕ × Version). logged_as e.0 e.1) (table.entries k.flushed) count ∙ ap (option_map (λ (e : ℕ × Version). logged_as e.0 e.1)) row.1

  its_row : row_of k count ≡ said
  its_row = row_is k count row.0 row.1

  taken : filter (is_of_kind plain) (take (count + 1) (rows k)) ≡ filter (is_of_kind plain) (take count (rows k)) ++ filter (is_of_kind plain) (said ∷ [])
  taken = ap (filter (is_of_kind plain)) (take_one (rows k) count said there) ∙ filter-append (is_of_kind plain) (take count (rows k)) (said ∷ [])

  pub kind_taken : (new : List ℕ) → is_of_kind plain said ≡ true → new ≡ places ++ count ∷ [] → IsListedUpTo k plain new (count + 1)
  kind_taken new of_it is =
      subst (λ ps. IsListedUpTo k plain ps (count + 1)) (sym is)
      (record {
        few = (let more = longer places in let few = h.few in omega arith);
        inside = All-append (λ p. p < table.len k.flushed) places (count ∷ []) h.inside (All-cons (λ p. p < table.len k.flushed) count [] less (All-nil (λ p. p < table.len k.flushed)));
        are = map-append (row_of k) places (count ∷ []) ∙ (λ i. h.are i ++ its_row i ∷ []) ∙ ap (λ (b : Bool). filter (is_of_kind plain) (take count (rows k)) ++ (if b then said ∷ [] else [])) (sym of_it) ∙ sym taken;
      })
    where
      longer : (xs : List ℕ) → length (xs ++ count ∷ []) ≡ length xs + 1
      longer [] = refl
      longer (x ∷ xs) = let rest = longer xs in omega arith

  pub kind_passed : is_of_kind plain said ≡ false → IsListedUpTo k plain places (count + 1)
  kind_passed other = record {
    few = (let few = h.few in omega arith);
    inside = h.inside;
    are = h.are ∙ sym (none_more (filter (is_of_kind plain) (take count (rows k)))) ∙ ap (λ (b : Bool). filter (is_of_kind plain) (take count (rows k)) ++ (if b then said ∷ [] else [])) (sym other) ∙ sym taken;
  }
    where
      none_more : (xs : List Logged) → xs ++ [] ≡ xs
      none_more [] = refl
      none_more (x ∷ xs) = ap (λ ys. x ∷ ys) (none_more xs)

pub all_rows : (k : Kept) (plain : Bool) (places : List ℕ) (count : ℕ) → IsListedUpTo k plain places count → table.len k.flushed ≤ count → map (row_of k) places ≡ filter (is_of_kind plain) (rows k)
all_rows k plain places count h all =
    h.are ∙ ap (filter (is_of_kind plain)) (take_enough (rows k) count (let a = length-map (table.entries k.flushed) (λ (e : ℕ × Version). logged_as e.0 e.1) in let b = table.len-entries k.flushed in omega arith))
