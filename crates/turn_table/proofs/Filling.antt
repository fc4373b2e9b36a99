-- Values that fill slots: a list of options of which each is `Some`.
use Rattle.std.proofs.Common.{◌≡◌, ℕ, zero, suc, ◌+◌, ◌<◌, List, [], ◌∷◌, ◌++◌, map, reverse, take, length, get_or, set, get_or-set_same, get_or-set_other, Bool, false, Option, Some, refl, sym, ap, ◌∙◌, arith}
use Rattle.std.proofs.lemmas.List.{append_assoc, map-append, reverse-append}
use native.Mathlib.Nat.{suc-add}
use native.Mathlib.Decide.{ℕ_discrete}
use mathlib.Core.Option.{some, some-injective}
use mathlib.Core.Option as maybe
use lib.ListN.{get_elem?}

module _ {V : Type 0} where
  pub last_full : (values : List V) (rest : List (Option V)) (o : Option V) → rest ++ o ∷ [] ≡ map Some values → (values' : List V) × (v : V) × (rest ≡ map Some values') × (o ≡ Some v)
  last_full [] [] o e = absurd (cc)
  last_full [] (r ∷ rs) o e = absurd (cc)
  last_full (v ∷ vs) [] o e = ([], v, refl, cc)
  last_full (v ∷ vs) (r ∷ rs) o e =
      let head : r ≡ Some v = cc in let tail : rs ++ o ∷ [] ≡ map Some vs = cc in
      let more = last_full vs rs o tail in (v ∷ more.0, more.1, (λ i. head i ∷ more.2 i), more.3)

  pub at_full : (values : List V) (k : ℕ) (o : Option V) → get_elem? (map Some values) k ≡ some o → (v : V) × (o ≡ Some v)
  at_full [] k o e = absurd (maybe.some-ne-none o (sym e))
  at_full (v ∷ vs) zero o e = (v, sym (some-injective (Some v) o e))
  at_full (v ∷ vs) (suc k) o e = at_full vs k o e

  -- values that fill the same slots are the same
  pub one_filling : (xs ys : List V) → map Some xs ≡ map Some ys → xs ≡ ys
  one_filling [] [] e = refl
  one_filling [] (y ∷ ys) e = absurd (cc)
  one_filling (x ∷ xs) [] e = absurd (cc)
  one_filling (x ∷ xs) (y ∷ ys) e = let head : Some x ≡ Some y = cc in let same : x ≡ y = cc in let more = one_filling xs ys (cc) in (λ i. same i ∷ more i)

pub map-reverse : {A B : Type 0} (f : A → B) (xs : List A) → map f (reverse xs) ≡ reverse (map f xs)
map-reverse f [] = refl
map-reverse f (x ∷ xs) =
    ap (map f) (reverse-append (x ∷ []) xs) ∙ (map-append f (reverse xs) (x ∷ []) ∙ (ap (λ ys. ys ++ f x ∷ []) (map-reverse f xs) ∙ sym (reverse-append (f x ∷ []) (map f xs))))

module _ {V : Type 0} where
  -- the last slot's value goes behind the values that were moved out
  pub shifted : (slots rest start : List (Option V)) (o : Option V) (v : V) (parts parts' : List V) → slots ≡ rest ++ o ∷ [] → o ≡ Some v → slots ++ reverse (map Some parts) ≡ start → parts' ≡ parts ++ v ∷ []
      → rest ++ reverse (map Some parts') ≡ start
  shifted slots rest start o v parts parts' e is whole more =
      let a : map Some parts' ≡ map Some parts ++ Some v ∷ [] = ap (map Some) more ∙ map-append Some parts (v ∷ []) in
      let b : reverse (map Some parts') ≡ Some v ∷ reverse (map Some parts) = ap reverse a ∙ reverse-append (map Some parts) (Some v ∷ []) in
      let d : slots ≡ rest ++ Some v ∷ [] = e ∙ ap (λ (x : Option V). rest ++ x ∷ []) is in
      ap (λ (r : List (Option V)). rest ++ r) b ∙ (sym (append_assoc rest (Some v ∷ []) (reverse (map Some parts))) ∙ (ap (λ (l : List (Option V)). l ++ reverse (map Some parts)) (sym d) ∙ whole))

  -- in the end the values are those of the slots, last first
  pub turned : (slots start : List (Option V)) (parts parts' : List V) → slots ≡ [] → slots ++ reverse (map Some parts) ≡ start → parts' ≡ reverse parts → map Some parts' ≡ start
  turned slots start parts parts' none whole is =
      ap (map Some) is ∙ (map-reverse Some parts ∙ (ap (λ (l : List (Option V)). l ++ reverse (map Some parts)) (sym none) ∙ whole))

pub take_next : {A : Type 0} (xs : List A) (k : ℕ) (a : A) → get_elem? xs k ≡ some a → take (k + 1) xs ≡ take k xs ++ a ∷ []
take_next [] k a e = absurd (maybe.some-ne-none a (sym e))
take_next (x ∷ xs) zero a e = λ i. some-injective x a e i ∷ []
take_next {A} (x ∷ xs) (suc k) a e = rw (suc-add k 1) (ap (λ (ys : List A). x ∷ ys) (take_next xs k a e))

-- after the place i is emptied, the places up to it are empty and those behind it are as they were
pub emptied_to : (filled : List Bool) (i : ℕ) → i < length filled → ((k : ℕ) → k < i → get_or filled k false ≡ false) → (k : ℕ) → k < i + 1 → get_or (set filled i false) k false ≡ false
emptied_to filled i near before k below = go (ℕ_discrete k i)
  where
    go : Dec (k ≡ i) → get_or (set filled i false) k false ≡ false
    go (yes e) = ap (λ (j : ℕ). get_or (set filled i false) j false) e ∙ get_or-set_same filled i false false near
    go (no m) = get_or-set_other filled i k false false m ∙ before k (omega arith)
