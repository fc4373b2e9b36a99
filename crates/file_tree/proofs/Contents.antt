-- What is written over a file's bytes.
use Rattle.std.proofs.Common.{◌≡◌, ℕ, ◌+◌, ◌-◌, ◌≤◌, inl, inr, List, [], ◌++◌, length, take, drop, sym, ap, ◌∙◌, arith}
use Rattle.std.specs.Prelude.{if◌then◌else◌, nat_lt, replicate}
use Rattle.std.proofs.lemmas.Bool.{cases_lt, lt-ltb, le-ltb, cond-true, cond-false}
use Rattle.std.proofs.lemmas.List.{append-nil, take_all, drop_all, take-append-le, take-replicate, length-append, length-replicate}
use Rattle.std.proofs.Math.Seq.{take-append-add}
use Rattle.file_tree.specs.Apply.{resized, overwritten}

no_more : (m n : ℕ) → m ≤ n → replicate {A = ℕ} (m - n) 0 ≡ []
no_more m n small = let none : m - n ≡ 0 = omega (arith, small) in ap (λ k. replicate k 0) none

-- the front of what grew is the front made as long as it is wanted
front_is : (old : List ℕ) (at end : ℕ) → at ≤ end → take at (old ++ replicate (end - length old) 0) ≡ resized at old
front_is old at end within = elim (cases_lt (length old) at) [
  | inl short ↦
      let more : at ≡ length old + (at - length old) = omega (arith, short) in
      let less : at - length old ≤ end - length old = omega (arith, within) in
      ap (λ n. take n (old ++ replicate (end - length old) 0)) more ∙ take-append-add old (replicate (end - length old) 0) (at - length old)
      ∙ ap (λ zs. old ++ zs) (take-replicate (at - length old) (end - length old) 0 less)
      ∙ ap (λ xs. xs ++ replicate (at - length old) 0) (sym (take_all at old (omega (arith, short))))
  | inr long ↦
      take-append-le at old (replicate (end - length old) 0) long ∙ sym (append-nil (take at old)) ∙ ap (λ zs. take at old ++ zs) (sym (no_more at (length old) long))
]

grown_is : (old : List ℕ) (end : ℕ) → (if nat_lt (length old) end then resized end old else old) ≡ old ++ replicate (end - length old) 0
grown_is old end = elim (cases_lt (length old) end) [
  | inl short ↦ cond-true (nat_lt (length old) end) _ _ (lt-ltb (length old) end short) ∙ ap (λ xs. xs ++ replicate (end - length old) 0) (take_all end old (omega (arith, short)))
  | inr long ↦ cond-false (nat_lt (length old) end) _ _ (le-ltb (length old) end long) ∙ sym (append-nil old) ∙ ap (λ zs. old ++ zs) (sym (no_more end (length old) long))
]

-- behind what is written stands what stood there
back_is : (old : List ℕ) (end : ℕ) → drop end (old ++ replicate (end - length old) 0) ≡ drop end old
back_is old end = elim (cases_lt (length old) end) [
  | inl short ↦
      let size : length (old ++ replicate (end - length old) 0) ≤ end = omega (arith, short, length-append old (replicate (end - length old) 0), length-replicate {A = ℕ} (end - length old) 0) in
      drop_all end (old ++ replicate (end - length old) 0) size ∙ sym (drop_all end old (omega (arith, short)))
  | inr long ↦ ap (drop end) (ap (λ zs. old ++ zs) (no_more end (length old) long) ∙ append-nil old)
]

pub overwritten_is : (old new : List ℕ) (at : ℕ) (grown : List ℕ) → grown ≡ (if nat_lt (length old) (at + length new) then resized (at + length new) old else old)
    → take at grown ++ new ++ drop (at + length new) grown ≡ overwritten at new old
overwritten_is old new at grown e =
    let end = at + length new in
    let is = e ∙ grown_is old end in
    ap (λ g. take at g ++ new ++ drop end g) is
    ∙ (λ i. front_is old at end (omega arith) i ++ new ++ back_is old end i)
