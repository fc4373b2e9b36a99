-- What is live behind one more transaction.
use Rattle.std.proofs.Common.{◌≡◌, ◌+◌, ◌<◌, ◌++◌, ℕ, suc, Bool, true, false, List, [], ◌∷◌, map, filter, Option, None, Some, refl, sym, ap, ◌∙◌, inl, inr, arith, subst}
use Rattle.std.specs.Prelude.{slice_index, ◌⊎◌, ◌==◌, ◌&&◌, ◌||◌, not, nat_lt, if◌then◌else◌, find}
use Rattle.std.specs.List.{AllByRecursion, flat_map, last_or, list_any}
use Rattle.std.specs.List.Sorted.{IsStrictlyIncreasing}
use Rattle.std.proofs.lemmas.Bool.{cases_Bool, cond-true, cond-false, eqb-true, ne_eqb}
use Rattle.std.proofs.lemmas.Bool.Decides.{nat_tests}
use Rattle.std.proofs.lemmas.Grind.{flat_map-append}
use Rattle.std.proofs.lemmas.List.{append-nil}
use Rattle.std.proofs.lemmas.List.Elements.{filter-append}
use Rattle.std.proofs.lemmas.List.Folds.{list_any-append}
use Rattle.log_layout.specs.Chunks.{Logged, Transaction}
use Rattle.log_layout.specs.Live.{counting, entries_in, is_cancelled, live_entry}
use Rattle.log_layout.specs.Transactions.{Sequenced}
use Rattle.node_journal.specs.Encoding.{content_of, metadata_of}
use Rattle.written_journals.specs.Saying.{as_written, or_before}

-- ---- the entries of one block in a transaction

abbrev pub to_list : Option Logged → List Logged
to_list None = []
to_list (Some e) = e ∷ []

-- of numbers that rise none comes again
rising_on : (b : ℕ) (bs : List ℕ) → IsStrictlyIncreasing (b ∷ bs) → IsStrictlyIncreasing bs
rising_on b bs rise = λ k h.
    let P : ℕ → Type 0 = λ n. slice_index bs k < slice_index (b ∷ bs) n in
    let i : suc k + 1 ≡ suc (k + 1) = omega arith in
    subst P i (rise (suc k) (omega (arith, h)))

above : (b : ℕ) (es : List Logged) → IsStrictlyIncreasing (b ∷ map (λ (e : Logged). e.block) es) → AllByRecursion (λ (e : Logged). b < e.block) es
above b [] rise = tt
above b (e ∷ es) rise =
    let first : b < e.block = rise 0 (omega arith) in
    (first, wider e.block es (above e.block es (rising_on b (e.block ∷ map (λ (e : Logged). e.block) es) rise)) first)
  where
    wider : (c : ℕ) (ds : List Logged) → AllByRecursion (λ (e : Logged). c < e.block) ds → b < c → AllByRecursion (λ (e : Logged). b < e.block) ds
    wider c [] all less = tt
    wider c (d ∷ ds) all less = (omega (arith, all.0, less), wider c ds all.1 less)

none_above : (b : ℕ) (es : List Logged) → AllByRecursion (λ (e : Logged). b < e.block) es → filter (λ (e : Logged). e.block == b) es ≡ []
none_above b [] all = refl
none_above b (e ∷ es) all = cond-false _ _ _ (ne_eqb e.block b (λ same. omega (arith, same, all.0))) ∙ none_above b es all.1

-- there is at most one
pub one_entry : (b : ℕ) (es : List Logged) → IsStrictlyIncreasing (map (λ (e : Logged). e.block) es) → filter (λ (e : Logged). e.block == b) es ≡ to_list (find (λ (e : Logged). e.block == b) es)
one_entry b [] rise = refl
one_entry b (e ∷ es) rise = elim (cases_Bool (e.block == b)) [
  | inl is ↦
      let same : e.block ≡ b = eqb-true e.block b is in
      let rest = ap (λ c. filter (λ (e : Logged). e.block == c) es) (sym same) ∙ none_above e.block es (above e.block es rise) in
      cond-true _ _ _ is ∙ ap (λ xs. e ∷ xs) rest ∙ ap to_list (sym (cond-true _ (Some e) (find (λ (e : Logged). e.block == b) es) is))
  | inr off ↦ cond-false _ _ _ off ∙ one_entry b es (rising_on e.block (map (λ (e : Logged). e.block) es) rise) ∙ ap to_list (sym (cond-false _ (Some e) (find (λ (e : Logged). e.block == b) es) off))
]

filter_yes : {A : Type 0} (p : A → Bool) (x : A) (xs : List A) → p x ≡ true → filter p (x ∷ xs) ≡ x ∷ filter p xs
filter_yes p x xs e = cond-true _ _ _ e

filter_no : {A : Type 0} (p : A → Bool) (x : A) (xs : List A) → p x ≡ false → filter p (x ∷ xs) ≡ filter p xs
filter_no p x xs e = cond-false _ _ _ e

-- two tests in either order
filter_both : {A : Type 0} (p q : A → Bool) (xs : List A) → filter p (filter q xs) ≡ filter q (filter p xs)
filter_both p q [] = refl
filter_both p q (x ∷ xs) = elim (cases_Bool (q x)) [
  | inl b ↦ ap (filter p) (filter_yes q x xs b) ∙ elim (cases_Bool (p x)) [
    | inl a ↦ filter_yes p x (filter q xs) a ∙ ap (λ ys. x ∷ ys) (filter_both p q xs) ∙ sym (filter_yes q x (filter p xs) b) ∙ ap (filter q) (sym (filter_yes p x xs a))
    | inr a ↦ filter_no p x (filter q xs) a ∙ filter_both p q xs ∙ ap (filter q) (sym (filter_no p x xs a))
  ]
  | inr b ↦ ap (filter p) (filter_no q x xs b) ∙ filter_both p q xs ∙ elim (cases_Bool (p x)) [
    | inl a ↦ sym (filter_no q x (filter p xs) b) ∙ ap (filter q) (sym (filter_yes p x xs a))
    | inr a ↦ ap (filter q) (sym (filter_no p x xs a))
  ]
]

-- an entry is content or isn't
of_either_kind : (o : Option Logged) → filter (λ (e : Logged). e.plain) (to_list o) ++ filter (λ (e : Logged). not e.plain) (to_list o) ≡ to_list o
of_either_kind None = refl
of_either_kind (Some e) = elim (cases_Bool e.plain) [
  | inl is ↦ (λ i. (if is i then e ∷ [] else []) ++ (if not (is i) then e ∷ [] else []))
  | inr off ↦ (λ i. (if off i then e ∷ [] else []) ++ (if not (off i) then e ∷ [] else []))
]

-- the entry of a block, as the transaction is written
pub entries_written : (t : Transaction) (b : ℕ) → IsStrictlyIncreasing (map (λ (e : Logged). e.block) t.blocks) → entries_in b (as_written t) ≡ to_list (find (λ (e : Logged). e.block == b) t.blocks)
entries_written t b rise =
    let test : Logged → Bool = λ (e : Logged). e.block == b in
    filter-append test (content_of t) (metadata_of t)
    ∙ (λ i. filter_both test (λ (e : Logged). e.plain) t.blocks i ++ filter_both test (λ (e : Logged). not e.plain) t.blocks i)
    ∙ ap (λ es. filter (λ (e : Logged). e.plain) es ++ filter (λ (e : Logged). not e.plain) es) (one_entry b t.blocks rise)
    ∙ of_either_kind (find test t.blocks)

-- ---- behind transactions of lower sequences

or_false : (x : Bool) → (x || false) ≡ x
or_false true = refl
or_false false = refl

or_true : (x : Bool) → (x || true) ≡ true
or_true true = refl
or_true false = refl

and_false : (x : Bool) → (x && false) ≡ false
and_false true = refl
and_false false = refl

last_append : (d : Option Logged) (xs ys : List Logged) → last_or d (xs ++ ys) ≡ last_or (last_or d xs) ys
last_append d [] ys = refl
last_append d (x ∷ xs) ys = last_append (Some x) xs ys

module _ (before : List Sequenced) (n : Sequenced) (b : ℕ) where
  abbrev all : List Sequenced
  all = before ++ n ∷ []

  abbrev revoked : Bool
  revoked = list_any (λ r. r == b) n.transaction.revokes

  abbrev of_all : Sequenced → List Logged
  of_all t = if is_cancelled all b t.sequence then [] else entries_in b t.transaction

  abbrev of_before : Sequenced → List Logged
  of_before t = if is_cancelled before b t.sequence then [] else entries_in b t.transaction

  cancelled : (q : ℕ) → is_cancelled all b q ≡ (is_cancelled before b q || (nat_lt q n.sequence && revoked))
  cancelled q =
      list_any-append (λ (t : Sequenced). nat_lt q t.sequence && list_any (λ r. r == b) t.transaction.revokes) before (n ∷ [])
      ∙ ap (λ x. is_cancelled before b q || x) (or_false (nat_lt q n.sequence && revoked))

  none_later : (ts : List Sequenced) → AllByRecursion (λ (t : Sequenced). t.sequence < n.sequence) ts → list_any (λ (t : Sequenced). nat_lt n.sequence t.sequence && list_any (λ r. r == b) t.transaction.revokes) ts ≡ false
  none_later [] low = refl
  none_later (t ∷ ts) low =
      let less : nat_lt n.sequence t.sequence ≡ false = grind (arith, nat_tests, low.0) in
      λ i. (less i && list_any (λ r. r == b) t.transaction.revokes) || none_later ts low.1 i

  last_stays : AllByRecursion (λ (t : Sequenced). t.sequence < n.sequence) before → is_cancelled all b n.sequence ≡ false
  last_stays low =
      let less : nat_lt n.sequence n.sequence ≡ false = grind (arith, nat_tests) in
      cancelled n.sequence ∙ (λ i. none_later before low i || (less i && revoked))

  all_revoked : revoked ≡ true → (ts : List Sequenced) → AllByRecursion (λ (t : Sequenced). t.sequence < n.sequence) ts → flat_map of_all ts ≡ []
  all_revoked is [] low = refl
  all_revoked is (t ∷ ts) low =
      let less : nat_lt t.sequence n.sequence ≡ true = grind (arith, nat_tests, low.0) in
      let gone : is_cancelled all b t.sequence ≡ true = cancelled t.sequence ∙ (λ i. is_cancelled before b t.sequence || (less i && is i)) ∙ or_true (is_cancelled before b t.sequence) in
      λ i. cond-true (is_cancelled all b t.sequence) [] (entries_in b t.transaction) gone i ++ all_revoked is ts low.1 i

  none_revoked : revoked ≡ false → (ts : List Sequenced) → flat_map of_all ts ≡ flat_map of_before ts
  none_revoked off [] = refl
  none_revoked off (t ∷ ts) =
      let same : is_cancelled all b t.sequence ≡ is_cancelled before b t.sequence =
      cancelled t.sequence ∙ (λ i. is_cancelled before b t.sequence || (nat_lt t.sequence n.sequence && off i)) ∙ ap (λ x. is_cancelled before b t.sequence || x) (and_false (nat_lt t.sequence n.sequence)) ∙ or_false (is_cancelled before b t.sequence) in
      λ i. (if same i then [] else entries_in b t.transaction) ++ none_revoked off ts i

  counted : AllByRecursion (λ (t : Sequenced). t.sequence < n.sequence) before → counting all b ≡ flat_map of_all before ++ entries_in b n.transaction
  counted low =
      flat_map-append of_all before (n ∷ [])
      ∙ ap (λ xs. flat_map of_all before ++ xs) (append-nil (of_all n) ∙ cond-false (is_cancelled all b n.sequence) [] (entries_in b n.transaction) (last_stays low))

  -- what is live is the entry of the last transaction, or nothing where that revokes the block, or what was
  pub live_behind : (o : Option Logged) → AllByRecursion (λ (t : Sequenced). t.sequence < n.sequence) before → entries_in b n.transaction ≡ to_list o
      → live_entry (before ++ n ∷ []) b ≡ or_before o (list_any (λ r. r == b) n.transaction.revokes) (live_entry before b)
  live_behind o low entries =
      ap (last_or None) (counted low ∙ ap (λ xs. flat_map of_all before ++ xs) entries) ∙ last_append None (flat_map of_all before) (to_list o) ∙ by o (cases_Bool revoked)
    where
      by : (p : Option Logged) → (revoked ≡ true) ⊎ (revoked ≡ false) → last_or (last_or None (flat_map of_all before)) (to_list p) ≡ or_before p revoked (live_entry before b)
      by (Some e) which = refl
      by None (inl is) = ap (last_or None) (all_revoked is before low) ∙ sym (cond-true _ None (live_entry before b) is)
      by None (inr off) = ap (last_or None) (none_revoked off before) ∙ sym (cond-false _ None (live_entry before b) off)
