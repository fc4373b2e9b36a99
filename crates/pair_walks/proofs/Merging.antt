-- Two lists of locks as one, by which comes first.
use Rattle.std.proofs.Common.{◌≡◌, ◌<◌, List, [], ◌∷◌, refl, sym, ◌∙◌, subst, arith}
use Rattle.std.proofs.lemmas.Bool.{cond-true, cond-false, eq-eqb, lt-ltb, le-ltb}
use Rattle.path_walks.specs.Holds.{Hold}
use Rattle.path_walks.proofs.Steps.{differs}
use Rattle.pair_walks.specs.Orders.{in_both, merged}

pub first_alone : (left : List Hold → List Hold) (x : Hold) (xs ys : List Hold) → ys ≡ [] → merged left (x ∷ xs) ys ≡ x ∷ merged left xs ys
first_alone left x xs ys none = subst (λ zs. merged left (x ∷ xs) zs ≡ x ∷ merged left xs zs) (sym none) refl

pub first_before : (left : List Hold → List Hold) (x y : Hold) (xs ys ys' : List Hold) → ys ≡ y ∷ ys' → x.lock.number < y.lock.number → merged left (x ∷ xs) ys ≡ x ∷ merged left xs ys
first_before left x y xs ys ys' is low =
    subst (λ zs. merged left (x ∷ xs) zs ≡ x ∷ merged left xs zs) (sym is)
    (cond-false _ _ _ (differs x.lock.number y.lock.number (λ e. omega (arith, e))) ∙ cond-true _ _ _ (lt-ltb x.lock.number y.lock.number low))

pub second_before : (left : List Hold → List Hold) (x y : Hold) (xs xs' ys : List Hold) → xs ≡ x ∷ xs' → y.lock.number < x.lock.number → merged left xs (y ∷ ys) ≡ y ∷ merged left xs ys
second_before left x y xs xs' ys is low =
    subst (λ zs. merged left zs (y ∷ ys) ≡ y ∷ merged left zs ys) (sym is)
    (cond-false _ _ _ (differs x.lock.number y.lock.number (λ e. omega (arith, e))) ∙ cond-false _ _ _ (le-ltb x.lock.number y.lock.number (omega (arith, low))))

pub both_next : (left : List Hold → List Hold) (x y : Hold) (xs ys : List Hold) → x.lock.number ≡ y.lock.number → merged left (x ∷ xs) (y ∷ ys) ≡ in_both x y ∷ merged left xs ys
both_next left x y xs ys same = cond-true _ _ _ (eq-eqb x.lock.number y.lock.number same)
