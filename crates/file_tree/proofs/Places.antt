-- The place of a name among names that rise.
use Rattle.std.proofs.Common.{◌≡◌, ◌≢◌, ℕ, zero, suc, ◌+◌, ◌<◌, ◌≤◌, List, [], ◌∷◌, length, get_or, Option, Result, Ok, Err, Some, None, IfOk, IfErr, refl, ap, subst, ◌∙◌, arith}
use Rattle.std.specs.List.Sorted.{IsSearchInRange, IsBinarySearchResult, IsNonDecreasingBy, IsSortedBy}
use Rattle.std.specs.Ordering.{ordering_index, ordering_reverse, is_lt}
use Rattle.std.specs.Cmp.Lexicographic.{nat_list_cmp_total}
use Rattle.std.specs.declared.cmp.Ordering.{Ordering}
use Rattle.std.specs.declared.cmp.Ordering.TheVariants.{Less, Equal, Greater}
use Rattle.std.proofs.lemmas.List.Sorted.{searchable_from_sorted}
use Rattle.file_tree.specs.Tree.{Tree, Entries, none, entry, name_order, if_equal, look, set, IsBelowFirst, IsTree, AreEntries}
use Rattle.file_tree.specs.Names.{IsName}
use Rattle.file_tree.specs.Held.{entries_held, IsPlace, IsEntryAt, NamesRise}
use Rattle.file_tree.specs.declared.tree.Entry.{Entry}
use Rattle.file_tree.proofs.MapLaws.{same_order}

reversed : (n m : List ℕ) (o : Ordering) → name_order n m ≡ o → name_order m n ≡ ordering_reverse o
reversed n m o is = nat_list_cmp_total.antisymm m n ∙ ap ordering_reverse is

-- ---- names that rise

pub below_rest : (es : Entries) (m n : List ℕ) → IsBelowFirst m es → name_order n m ≡ Less → IsBelowFirst n es
below_rest none m n low less = tt
below_rest (entry k u es) m n low less = nat_list_cmp_total.trans n m k less low

-- those of a well-formed directory rise
pub rises : (es : Entries) → AreEntries es → NamesRise es
rises none are = tt
rises (entry n t es) are = (are.1, rises es are.3)

-- a name below the first is not there
pub below_all : (es : Entries) (n : List ℕ) → IsBelowFirst n es → NamesRise es → look es n ≡ None
below_all none n low rise = refl
below_all (entry m t es) n low rise = rw low (below_all es n (below_rest es m n rise.0 low) rise.1)

-- nor is a name with a place of its own
pub absent_at : (es : List Entry) (place : ℕ) (n : List ℕ) → NamesRise (entries_held es) → IsPlace es place n → look (entries_held es) n ≡ None
absent_at [] place n rise here = refl
absent_at (e ∷ es) zero n rise here = below_all (entries_held (e ∷ es)) n here rise
absent_at (e ∷ es) (suc place) n rise here = rw here.0 (absent_at es place n rise.1 here.1)

-- a name that some entry has is there
pub there_at : (es : List Entry) (i : ℕ) (n : List ℕ) → i < length es → ((d : Entry) → name_order (get_or es i d).name n ≡ Equal) → look (entries_held es) n ≢ None
there_at [] i n below is = absurd (omega arith)
there_at (e ∷ es) zero n below is = let same : name_order n e.name ≡ Equal = reversed e.name n Equal (is e) in rw same (λ none. cc)
there_at (e ∷ es) (suc i) n below is = by_first (name_order n e.name) (look (entries_held es) n) (there_at es i n (omega arith) is)
  where
    by_first : (o : Ordering) (rest : Option Tree) → rest ≢ None → if_equal o (Some e.tree) rest ≢ None
    by_first Less rest some = some
    by_first Equal rest some = λ none. cc
    by_first Greater rest some = some

-- a name below the first is below each
below_each : (es : List Entry) (i : ℕ) (m : List ℕ) (d : Entry) → IsBelowFirst m (entries_held es) → NamesRise (entries_held es) → i < length es
    → name_order m (get_or es i d).name ≡ Less
below_each [] i m d low rise below = absurd (omega arith)
below_each (e ∷ es) zero m d low rise below = low
below_each (e ∷ es) (suc i) m d low rise below = below_each es i m d (below_rest (entries_held es) e.name m rise.0 low) rise.1 (omega arith)

-- where an entry has the name, all before it have lower ones
entry_at : (es : List Entry) (i : ℕ) (n : List ℕ) (d : Entry) → NamesRise (entries_held es) → i < length es → name_order (get_or es i d).name n ≡ Equal → IsEntryAt es i n
entry_at [] i n d rise below is = absurd (omega arith)
entry_at (e ∷ es) zero n d rise below is = reversed e.name n Equal is
entry_at (e ∷ es) (suc i) n d rise below is = (
  reversed e.name n Less (subst (λ m. name_order e.name m ≡ Less) (same_order (get_or es i d).name n is) (below_each es i e.name d rise.0 rise.1 (omega arith))),
  entry_at es i n d rise.1 (omega arith) is,
)

-- between those below it and those above it is its place
pub place_between : (es : List Entry) (i : ℕ) (n : List ℕ) → i ≤ length es
    → ((k : ℕ) (d : Entry) → k < i → name_order (get_or es k d).name n ≡ Less)
    → ((k : ℕ) (d : Entry) → i ≤ k → k < length es → name_order (get_or es k d).name n ≡ Greater) → IsPlace es i n
place_between [] zero n within less greater = tt
place_between [] (suc i) n within less greater = absurd (omega arith)
place_between (e ∷ es) zero n within less greater = reversed e.name n Greater (greater 0 e (omega arith) (omega arith))
place_between (e ∷ es) (suc i) n within less greater = (
  reversed e.name n Less (less 0 e (omega arith)),
  place_between es i n (omega arith) (λ k d below. less (suc k) d (omega arith)) (λ k d from below. greater (suc k) d (omega arith) (omega arith)),
)

-- ---- a search

next_above : (es : List Entry) (k : ℕ) (d : Entry) → NamesRise (entries_held es) → suc k < length es → name_order (get_or es k d).name (get_or es (suc k) d).name ≡ Less
next_above [] k d rise below = absurd (omega arith)
next_above (e ∷ []) k d rise below = absurd (omega arith)
next_above (e ∷ f ∷ es) zero d rise below = rise.0
next_above (e ∷ f ∷ es) (suc k) d rise below = next_above (f ∷ es) k d rise.1 (omega arith)

pub sorted : (es : List Entry) → NamesRise (entries_held es) → IsSortedBy (λ a b. is_lt (name_order a.name b.name)) es
sorted es rise k d from below =
    let next : suc k ≡ k + 1 = omega arith in
    let above = subst (λ (j : ℕ). name_order (get_or es k d).name (get_or es j d).name ≡ Less) next (next_above es k d rise (omega arith)) in
    ap is_lt (reversed (get_or es k d).name (get_or es (k + 1) d).name Less above)

abbrev order_to : List ℕ → Entry → Ordering
order_to n e = name_order e.name n

comparisons_rise : (es : List Entry) (n : List ℕ) → NamesRise (entries_held es) → IsNonDecreasingBy (λ e. ordering_index (order_to n e)) es
comparisons_rise es n rise = searchable_from_sorted nat_list_cmp_total (λ (e : Entry). e.name) es n (sorted es rise)

-- what a binary search by name answers
pub record IsSearched (es : List Entry) (n : List ℕ) (r : Result ℕ ℕ) : Type 0 where
  pub there : IfOk r (λ i. look (entries_held es) n ≢ None)
  pub at : IfOk r (λ i. IsEntryAt es i n)
  pub inside : IfOk r (λ i. i < length es)
  pub absent : IfErr r (λ i. look (entries_held es) n ≡ None)
  pub place : IfErr r (λ i. IsPlace es i n)
  pub within : IfErr r (λ i. i ≤ length es)

pub searched : (es : List Entry) (n : List ℕ) (r : Result ℕ ℕ) → NamesRise (entries_held es) → IsSearchInRange r (length es) → IsBinarySearchResult (order_to n) es r → IsSearched es n r
searched es n (Ok i) rise range equal = record { there = there_at es i n range equal; at = first es rise range equal; inside = range; absent = tt; place = tt; within = tt }
  where
    first : (es : List Entry) → NamesRise (entries_held es) → i < length es → ((d : Entry) → name_order (get_or es i d).name n ≡ Equal) → IsEntryAt es i n
    first [] rise below is = absurd (omega arith)
    first (e ∷ es) rise below is = entry_at (e ∷ es) i n e rise below (is e)
searched es n (Err i) rise range parted =
    let parts = parted (comparisons_rise es n rise) in
    let place : IsPlace es i n = place_between es i n range (λ k d below. parts.0 k d (omega arith) below) (λ k d from below. parts.1 k d from below) in
    record { there = tt; at = tt; inside = tt; absent = absent_at es i n rise place; place = place; within = range }

-- ---- a name that is set

below_set : (es : Entries) (m n : List ℕ) (t : Tree) → IsBelowFirst m es → name_order m n ≡ Less → IsBelowFirst m (set es n t)
below_set none m n t low less = less
below_set (entry k u es) m n t low less = by_place (name_order n k) refl
  where
    by_place : (o : Ordering) → name_order n k ≡ o → IsBelowFirst m (set (entry k u es) n t)
    by_place Less is = rw is less
    by_place Equal is = rw is less
    by_place Greater is = rw is low

below_equal : (es : Entries) (n k : List ℕ) → name_order n k ≡ Equal → IsBelowFirst k es → IsBelowFirst n es
below_equal none n k same low = tt
below_equal (entry m w fs) n k same low = nat_list_cmp_total.congr n k m same ∙ low

pub rises_set : (es : Entries) (n : List ℕ) (t : Tree) → NamesRise es → NamesRise (set es n t)
rises_set none n t rise = (tt, tt)
rises_set (entry k u es) n t rise = by_place (name_order n k) refl (rises_set es n t rise.1)
  where
    by_place : (o : Ordering) → name_order n k ≡ o → NamesRise (set es n t) → NamesRise (set (entry k u es) n t)
    by_place Less is more = rw is (is, rise)
    by_place Equal is more = rw is (below_equal es n k is rise.0, rise.1)
    by_place Greater is more = rw is (below_set es k n t rise.0 (reversed n k Greater is), more)

-- a well-formed directory stays so when a name is set to a well-formed tree
pub well_formed_set : (es : Entries) (n : List ℕ) (t : Tree) → AreEntries es → IsName n → IsTree t → AreEntries (set es n t)
well_formed_set none n t are name tree = (name, tt, tree, tt)
well_formed_set (entry k u es) n t are name tree = by_place (name_order n k) refl (well_formed_set es n t are.3 name tree)
  where
    by_place : (o : Ordering) → name_order n k ≡ o → AreEntries (set es n t) → AreEntries (set (entry k u es) n t)
    by_place Less is more = rw is (name, is, tree, are)
    by_place Equal is more = rw is (name, below_equal es n k is are.1, tree, are.3)
    by_place Greater is more = rw is (are.0, below_set es k n t are.1 (reversed n k Greater is), are.2, more)
