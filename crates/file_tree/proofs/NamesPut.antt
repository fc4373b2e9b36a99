-- Names put in their places one after another, in whatever order, are those of a directory that has each of them once.
use Rattle.std.proofs.Common.{◌≡◌, ℕ, zero, suc, ◌+◌, ◌≤◌, Bool, true, false, List, [], ◌∷◌, length, Option, None, Some, refl, sym, ap, ◌∙◌, arith, cond}
use Rattle.std.specs.Prelude.{count_by}
use Rattle.std.specs.Str.{bytes_eq}
use Rattle.std.specs.declared.cmp.Ordering.{Ordering}
use Rattle.std.specs.declared.cmp.Ordering.TheVariants.{Less, Equal, Greater}
use Rattle.std.proofs.lemmas.Bool.{cond-true}
use Rattle.std.proofs.lemmas.List.Sums.{sum_by-cons}
use Rattle.std.proofs.lemmas.Slice.Eq.{bytes_eq-Decides}
use Rattle.file_tree.specs.Tree.{Tree, Entries, file, none, entry, name_order, if_equal, by_order, look, set, names_in, all_put, count_in, IsBelowFirst}
use Rattle.file_tree.specs.Held.{NamesRise}
use Rattle.file_tree.proofs.MapLaws.{look-set}
use Rattle.file_tree.proofs.NameLists.{names_in-set}
use Rattle.file_tree.proofs.Directories.{same_entries}
use Rattle.file_tree.proofs.Places.{rises_set}

-- ---- directories that have the same names

-- the directory with an empty file for each tree
abbrev emptied : Entries → Entries
emptied none = none
emptied (entry n t es) = entry n (file []) (emptied es)

names_emptied : (es : Entries) → names_in (emptied es) ≡ names_in es
names_emptied none = refl
names_emptied (entry n t es) = ap (λ (ns : List (List ℕ)). n ∷ ns) (names_emptied es)

below_emptied : (es : Entries) (n : List ℕ) → IsBelowFirst n es → IsBelowFirst n (emptied es)
below_emptied none n low = tt
below_emptied (entry m t es) n low = low

rises_emptied : (es : Entries) → NamesRise es → NamesRise (emptied es)
rises_emptied none rise = tt
rises_emptied (entry n t es) rise = (below_emptied es n rise.0, rises_emptied es rise.1)

-- how often a name is there
abbrev pub times_there : Option Tree → ℕ
times_there None = 0
times_there (Some t) = 1

abbrev of_times : ℕ → Option Tree
of_times zero = None
of_times (suc k) = Some (file [])

look-emptied : (es : Entries) (n : List ℕ) → look (emptied es) n ≡ of_times (times_there (look es n))
look-emptied none n = refl
look-emptied (entry m t es) n = each (name_order n m) (look-emptied es n)
  where
    each : (o : Ordering) → look (emptied es) n ≡ of_times (times_there (look es n))
        → if_equal o (Some (file [])) (look (emptied es) n) ≡ of_times (times_there (if_equal o (Some t) (look es n)))
    each Less more = more
    each Equal more = refl
    each Greater more = more

pub same_names : (es fs : Entries) → NamesRise es → NamesRise fs → ((n : List ℕ) → times_there (look es n) ≡ times_there (look fs n)) → names_in es ≡ names_in fs
same_names es fs rise rise' same =
    sym (names_emptied es)
    ∙ ap names_in (same_entries (emptied es) (emptied fs) (rises_emptied es rise) (rises_emptied fs rise') (λ n. look-emptied es n ∙ ap of_times (same n) ∙ sym (look-emptied fs n)))
    ∙ names_emptied fs

-- ---- names that are set one after another

-- how often a name is among these
abbrev pub times_in : List (List ℕ) → List ℕ → ℕ
times_in names n = count_by (bytes_eq n) names

pub times_in-cons : (m : List ℕ) (names : List (List ℕ)) (n : List ℕ) → times_in (m ∷ names) n ≡ cond (bytes_eq n m) 1 0 + times_in names n
times_in-cons m names n = sum_by-cons (λ k. cond (bytes_eq n k) 1 0) m names

not_there : (o : Option Tree) → times_there o ≤ 0 → o ≡ None
not_there None low = refl
not_there (Some t) low = absurd (omega (arith, low))

times_set : (es : Entries) (m : List ℕ) (t : Tree) (n : List ℕ) → look es m ≡ None → times_there (look (set es m t) n) ≡ cond (bytes_eq n m) 1 0 + times_there (look es n)
times_set es m t n lacks = ap times_there (look-set es m t n) ∙ each (bytes_eq n m) refl
  where
    each : (b : Bool) → bytes_eq n m ≡ b → times_there (cond b (Some t) (look es n)) ≡ cond b 1 0 + times_there (look es n)
    each true is = omega (arith, ap times_there (ap (look es) ((bytes_eq-Decides n m).0 is) ∙ lacks))
    each false is = omega arith

-- a name that isn't there makes the directory one longer
count_set : (es : Entries) (m : List ℕ) (t : Tree) → look es m ≡ None → count_in (set es m t) ≡ 1 + count_in es
count_set none m t lacks = refl
count_set (entry k u es) m t lacks = each (name_order m k) lacks (count_set es m t)
  where
    each : (o : Ordering) → if_equal o (Some u) (look es m) ≡ None → (look es m ≡ None → count_in (set es m t) ≡ 1 + count_in es)
        → count_in (by_order o (entry m t (entry k u es)) (entry m t es) (entry k u (set es m t))) ≡ 1 + count_in (entry k u es)
    each Less e more = refl
    each Equal e more = cc
    each Greater e more = ap (λ (c : ℕ). 1 + c) (more e)

abbrev all_set : Entries → List (List ℕ) → Entries
all_set es [] = es
all_set es (m ∷ names) = all_set (set es m (file [])) names

names_all_set : (es : Entries) (names : List (List ℕ)) → names_in (all_set es names) ≡ all_put (names_in es) names
names_all_set es [] = refl
names_all_set es (m ∷ names) = names_all_set (set es m (file [])) names ∙ ap (λ (ns : List (List ℕ)). all_put ns names) (names_in-set es m (file []))

rises_all_set : (es : Entries) (names : List (List ℕ)) → NamesRise es → NamesRise (all_set es names)
rises_all_set es [] rise = rise
rises_all_set es (m ∷ names) rise = rises_all_set (set es m (file [])) names (rises_set es m (file []) rise)

-- what the names leave, where none is given twice, nor was there before
record AreSet (es : Entries) (names : List (List ℕ)) : Type 0 where
  there : (n : List ℕ) → times_there (look (all_set es names) n) ≡ times_in names n + times_there (look es n)
  count : count_in (all_set es names) ≡ length names + count_in es

are_set : (es : Entries) (names : List (List ℕ)) → ((n : List ℕ) → times_in names n + times_there (look es n) ≤ 1) → AreSet es names
are_set es [] once = record { there = λ n. omega arith; count = omega arith }
are_set es (m ∷ names) once = behind (are_set (set es m (file [])) names)
  where
    lacks : look es m ≡ None
    lacks = not_there (look es m) (omega (arith, cond-true {A = ℕ} _ 1 0 ((bytes_eq-Decides m m).1 refl), times_in-cons m names m, once m))

    set_times : (n : List ℕ) → times_there (look (set es m (file [])) n) ≡ cond (bytes_eq n m) 1 0 + times_there (look es n)
    set_times n = times_set es m (file []) n lacks

    behind : (((n : List ℕ) → times_in names n + times_there (look (set es m (file [])) n) ≤ 1) → AreSet (set es m (file [])) names) → AreSet es (m ∷ names)
    behind more =
        let are = more (λ n. omega (arith, once n, set_times n, times_in-cons m names n)) in
        record { there = λ n. omega (arith, are.there n, set_times n, times_in-cons m names n); count = omega (arith, are.count, count_set es m (file []) lacks) }

-- ---- the names of a directory

count_names : (es : Entries) → length (names_in es) ≡ count_in es
count_names none = refl
count_names (entry n t es) = omega (arith, count_names es)

-- each name is as often among them as it is there: then put in their places they are the directory's, and as many
pub record AreThose (es : Entries) (names : List (List ℕ)) : Type 0 where
  pub put : all_put [] names ≡ names_in es
  pub count : length names ≡ count_in es

pub are_those : (es : Entries) (names : List (List ℕ)) → NamesRise es → ((n : List ℕ) → times_in names n ≡ times_there (look es n)) → AreThose es names
are_those es names rise as_often = record {
  put = sym (names_all_set none names) ∙ same;
  count = omega (arith, are.count, count_names (all_set none names), ap length same, count_names es);
}
  where
    at_most : (o : Option Tree) → times_there o ≤ 1
    at_most None = omega arith
    at_most (Some t) = omega arith

    are : AreSet none names
    are = are_set none names (λ n. omega (arith, as_often n, at_most (look es n)))

    same : names_in (all_set none names) ≡ names_in es
    same = same_names (all_set none names) es (rises_all_set none names tt) rise (λ n. omega (arith, are.there n, as_often n))
