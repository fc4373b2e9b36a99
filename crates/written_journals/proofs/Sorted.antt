-- A transaction that may be written, by kind.
use Rattle.std.proofs.Common.{◌≡◌, ◌<◌, ◌≤◌, ◌^◌, ℕ, suc, Bool, List, [], ◌∷◌, length, filter, sym, ap, subst, inl, inr, arith}
use Rattle.std.specs.Prelude.{not}
use Rattle.std.specs.List.{All, AllByRecursion}
use Rattle.std.proofs.lemmas.Bool.{cases_Bool, cond-true, cond-false}
use Rattle.gfs2_layout.specs.Bytes.{u32_at}
use Rattle.log_layout.specs.Chunks.{Logged, Transaction}
use Rattle.node_journal.specs.Encoding.{metadata_of}
use Rattle.node_journal.specs.Written.{AreNumbers, IsLoggable, IsLoggableAll}
use Rattle.node_journal.specs.declared.place.Place.{Place}
use Rattle.written_journals.proofs.NumbersBack.{AreLow}
use Rattle.written_journals.proofs.ChunksRead.{IsContent, IsMetadata}
use Rattle.written_journals.proofs.AllRead.{IsSorted}

record IsBlock (size : ℕ) (e : Logged) : Type 0 where
  loggable : IsLoggable size e
  low : All (λ byte. byte < 256) e.bytes
  block : e.block < 2 ^ 64

each_of : {A : Type 0} (P : A → Type 0) (xs : List A) → All P xs → AllByRecursion P xs
each_of P [] all = tt
each_of P (x ∷ xs) all = (all 0 x (omega arith), each_of P xs (λ k d h. all (suc k) d (omega (arith, h))))

each_block : (size : ℕ) (es : List Logged) → All (IsLoggable size) es → All (λ (e : Logged). All (λ byte. byte < 256) e.bytes) es → All (λ (e : Logged). e.block < 2 ^ 64) es → AllByRecursion (IsBlock size) es
each_block size es loggable low block = each_of (IsBlock size) es (λ k d h. record { loggable = loggable k d h; low = low k d h; block = block k d h })

low_of : (ns : List ℕ) → All (λ n. n < 2 ^ 64) ns → AreLow ns
low_of [] all = tt
low_of (n ∷ ns) all = (all 0 n (omega arith), low_of ns (λ k d h. all (suc k) d (omega (arith, h))))

contents : (size : ℕ) (es : List Logged) → AllByRecursion (IsBlock size) es → AllByRecursion (IsContent size) (filter (λ (e : Logged). e.plain) es)
contents size [] all = tt
contents size (e ∷ es) all =
    let Q : List Logged → Type 0 = λ ds. AllByRecursion (IsContent size) ds in
    let rest = contents size es all.1 in
    elim (cases_Bool e.plain) [
      | inl is ↦ subst Q (sym (cond-true e.plain (e ∷ filter (λ (e : Logged). e.plain) es) _ is)) (record { whole = all.0.loggable.whole; low = all.0.low; plain = is; block = all.0.block }, rest)
      | inr off ↦ subst Q (sym (cond-false e.plain (e ∷ filter (λ (e : Logged). e.plain) es) _ off)) rest
    ]

abbrev is_metadata : Logged → Bool
is_metadata e = not e.plain

metadatas : (size : ℕ) (es : List Logged) → AllByRecursion (IsBlock size) es → AllByRecursion IsMetadata (filter is_metadata es)
metadatas size [] all = tt
metadatas size (e ∷ es) all =
    let Q : List Logged → Type 0 = λ ds. AllByRecursion IsMetadata ds in
    let rest = metadatas size es all.1 in
    elim (cases_Bool e.plain) [
      | inl is ↦ subst Q (sym (cond-false (not e.plain) (e ∷ filter is_metadata es) _ (ap not is))) rest
      | inr off ↦ subst Q (sym (cond-true (not e.plain) (e ∷ filter is_metadata es) _ (ap not off))) (record { plain = off; magic = all.0.loggable.magic off; block = all.0.block }, rest)
    ]

others : (size : ℕ) (es : List Logged) → AllByRecursion (IsBlock size) es → AllByRecursion (λ (e : Logged). u32_at 4 e.bytes ≡ 8 → ⊥) (filter is_metadata es)
others size [] all = tt
others size (e ∷ es) all =
    let Q : List Logged → Type 0 = λ ds. AllByRecursion (λ (e : Logged). u32_at 4 e.bytes ≡ 8 → ⊥) ds in
    let rest = others size es all.1 in
    elim (cases_Bool e.plain) [
      | inl is ↦ subst Q (sym (cond-false (not e.plain) (e ∷ filter is_metadata es) _ (ap not is))) rest
      | inr off ↦ subst Q (sym (cond-true (not e.plain) (e ∷ filter is_metadata es) _ (ap not off))) (all.0.loggable.other off, rest)
    ]

fewer : {A : Type 0} (p : A → Bool) (xs : List A) → length (filter p xs) ≤ length xs
fewer p [] = omega arith
fewer p (x ∷ xs) = elim (cases_Bool (p x)) [
  | inl is ↦ (let e : length (filter p (x ∷ xs)) ≡ suc (length (filter p xs)) = ap length (cond-true (p x) (x ∷ filter p xs) (filter p xs) is) in omega (arith, e, fewer p xs))
  | inr off ↦ (let e : length (filter p (x ∷ xs)) ≡ length (filter p xs) = ap length (cond-false (p x) (x ∷ filter p xs) (filter p xs) off) in omega (arith, e, fewer p xs))
]

module _ (size : ℕ) (at : Place) (t : Transaction) (all : IsLoggableAll size t) (numbers : AreNumbers at t) where
  blocks : AllByRecursion (IsBlock size) t.blocks
  blocks = each_block size t.blocks all.blocks numbers.bytes numbers.blocks

  pub sorted : IsSorted size t
  sorted = record {
    content = contents size t.blocks blocks;
    metadata = metadatas size t.blocks blocks;
    revokes = low_of t.revokes numbers.revokes;
    few_content = omega (arith, fewer (λ (e : Logged). e.plain) t.blocks, all.few);
    few_metadata = omega (arith, fewer is_metadata t.blocks, all.few);
    few_revokes = omega (arith, all.few);
  }

  pub of_other_kind : AllByRecursion (λ (e : Logged). u32_at 4 e.bytes ≡ 8 → ⊥) (metadata_of t)
  of_other_kind = others size t.blocks blocks
