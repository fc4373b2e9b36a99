-- Names in a row, in byte order.
use Rattle.std.proofs.Common.{◌≡◌, ℕ, ◌+◌, ◌<◌, List, ◌∷◌, ◌++◌, length, take, drop, get_or, refl, sym, ap, ◌∙◌}
use Rattle.std.proofs.lemmas.List.{drop_more, take-append-drop}
use Rattle.std.specs.declared.cmp.Ordering.{Ordering}
use Rattle.std.specs.declared.cmp.Ordering.TheVariants.{Less, Equal, Greater}
use Rattle.file_tree.specs.Tree.{Tree, Entries, none, entry, name_order, by_order, set, names_in, with_name}
use Rattle.file_tree.proofs.MapLaws.{same_order}

by_each : (m n : List ℕ) (t u : Tree) (es : Entries) (o : Ordering) → names_in (set es m t) ≡ with_name (names_in es) m
    → names_in (by_order o (entry m t (entry n u es)) (entry m t es) (entry n u (set es m t))) ≡ by_order o (m ∷ n ∷ names_in es) (m ∷ names_in es) (n ∷ with_name (names_in es) m)
by_each m n t u es Less more = refl
by_each m n t u es Equal more = refl
by_each m n t u es Greater more = ap (λ (ns : List (List ℕ)). n ∷ ns) more

-- a set name is in its place among the names
pub names_in-set : (es : Entries) (m : List ℕ) (t : Tree) → names_in (set es m t) ≡ with_name (names_in es) m
names_in-set none m t = refl
names_in-set (entry n u es) m t = by_each m n t u es (name_order m n) (names_in-set es m t)

-- a name that is among them changes nothing
pub there : (names : List (List ℕ)) (i : ℕ) (m d : List ℕ) → i < length names → name_order m (get_or names i d) ≡ Equal → with_name names m ≡ take i names ++ with_name (drop i names) m → with_name names m ≡ names
there names i m d below equal split =
    let front : drop i names ≡ get_or names i d ∷ drop (i + 1) names = drop_more names i d below in
    let at_front : with_name (get_or names i d ∷ drop (i + 1) names) m ≡ get_or names i d ∷ drop (i + 1) names =
    rw equal (ap (λ (n : List ℕ). n ∷ drop (i + 1) names) (same_order m (get_or names i d) equal)) in
    split ∙ ap (λ (ns : List (List ℕ)). take i names ++ ns) (ap (λ (ns : List (List ℕ)). with_name ns m) front ∙ at_front ∙ sym front) ∙ take-append-drop i names
