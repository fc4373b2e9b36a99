-- Directories whose records go and come.
use Rattle.std.proofs.Common.{◌≡◌, ◌≢◌, ℕ, ◌+◌, ◌≤◌, ◌⊎◌, inl, inr, Bool, true, false, List, [], ◌∷◌, ◌++◌, Option, None, Some, refl, sym, ap, ◌∙◌, subst, arith, length-append, cond, length, true≢false}
use Rattle.std.specs.Prelude.{codes, Contains, not, ◌&&◌, ◌==◌}
use Rattle.std.specs.Option.{option_map}
use Rattle.std.specs.Str.{bytes_eq}
use Rattle.std.specs.List.Sorted.{IsPermutation}
use Rattle.std.proofs.lemmas.Bool.{cases_Bool, cond-true, cond-false}
use Rattle.std.proofs.lemmas.Slice.Eq.{bytes_eq-Decides}
use Rattle.std.proofs.lemmas.List.Sorted.{IsPermutation-sym, Contains-permutation, sum_by-IsPermutation, length_permutation}
use Rattle.std.proofs.lemmas.List.Sums.{sum_by-cons, sum_by-append}
use Rattle.gfs2_layout.specs.declared.dinode.Dinode.{Dinode}
use Rattle.gfs2_layout.specs.Exchanges.{directory_count, IsExchanged, IsCounted}
use Rattle.gfs2_layout.specs.Inode.{Head}
use Rattle.gfs2_layout.specs.Records.{Record, is_dots, record_named, child_named}
use Rattle.image_model.specs.Owners.{Owners, parent_of}
use Rattle.image_model.specs.Stands.{kind_of, IsRecordOf, HasRecord, LeadsDown, name_count, IsDirectory}
use Rattle.image_model.proofs.Members.{IsIn, contained, is_in, in_right, in_either}
use Rattle.image_model.proofs.Counts.{count_some}
use Rattle.image_model.proofs.Order.{child_any_order}
use Rattle.image_changes.specs.Directories.{LooksAtNames, RecordsGoAndCome, OtherParent}

-- ---- heads and owners that agree

pub same_record : (heads heads' : ℕ → Head) (b : ℕ) (r : Record) → heads' b ≡ heads b → IsRecordOf heads b r → IsRecordOf heads' b r
same_record heads heads' b r same is = record { address = is.address; number = is.number ∙ ap (λ (h : Head). h.number) (sym same); kind = is.kind ∙ ap kind_of (sym same) }

pub same_has : (heads heads' : ℕ → Head) (records : List Record) (name : List ℕ) (b : ℕ) → heads' b ≡ heads b → HasRecord heads records name b → HasRecord heads' records name b
same_has heads heads' records name b same has = record { entry = has.entry; there = has.there; named = has.named; true_of = same_record heads heads' b has.entry same has.true_of }

pub same_down : (heads heads' : ℕ → Head) (o o' : Owners) (a : ℕ) (r : Record) → o' r.address ≡ o r.address → heads' r.address ≡ heads r.address → LeadsDown heads o a r → LeadsDown heads' o' a r
same_down heads heads' o o' a r row same down = record { name = down.name; owner = row ∙ down.owner; true_of = same_record heads heads' r.address r same down.true_of }

pub looks_at_names : LooksAtNames
looks_at_names heads heads' o o' a records d own parent above agree is = record {
  dot = same_has heads heads' records (codes ".") a own is.dot;
  dots = subst (λ b. HasRecord heads' records (codes "..") b) (sym parent) (same_has heads heads' records (codes "..") (parent_of a (o a)) above is.dots);
  once = is.once;
  down = λ r at plain. same_down heads heads' o o' a r (agree r at plain).0 (agree r at plain).1 (is.down r at plain);
  entries = is.entries;
  links = is.links;
}

-- ---- records that go and come

abbrev is_subdirectory : Record → Bool
is_subdirectory r = not (is_dots r.name) && r.kind == 4

directories_append : (rs ss : List Record) → directory_count (rs ++ ss) ≡ directory_count rs + directory_count ss
directories_append rs ss = sum_by-append (λ r. cond (is_subdirectory r) 1 0) rs ss

pub directories_any_order : (rs ss : List Record) → IsPermutation rs ss → directory_count rs ≡ directory_count ss
directories_any_order rs ss order = sym (sum_by-IsPermutation (λ r. cond (is_subdirectory r) 1 0) rs ss order)

-- the same with `.`, `..` and the names given
pub go_and_come : (heads heads' : ℕ → Head) (o o' : Owners) (a : ℕ) (old new gone come : List Record) (d d' : Dinode) → IsDirectory heads o a old d
    → (exchanged : IsExchanged old new gone come) → IsCounted d d' gone come
    → HasRecord heads' new (codes ".") a → HasRecord heads' new (codes "..") (parent_of a (o' a)) → ((name : List ℕ) → name_count new name ≤ 1)
    → ((r : Record) → Contains come r → is_dots r.name ≡ false → LeadsDown heads' o' a r)
    → ((r : Record) → Contains exchanged.rest r → is_dots r.name ≡ false → (o' r.address ≡ o r.address) × (heads' r.address ≡ heads r.address))
    → IsDirectory heads' o' a new d'
go_and_come heads heads' o o' a old new gone come d d' is exchanged counted dot dots once down agree = record {
  dot = dot;
  dots = dots;
  once = once;
  down = λ r at plain. each r plain (in_either r come exchanged.rest (is_in r _ (Contains-permutation new (come ++ exchanged.rest) r exchanged.after at)));
  entries = omega (
    arith,
    is.entries,
    counted.entries,
    length_permutation old (gone ++ exchanged.rest) exchanged.before,
    length_permutation new (come ++ exchanged.rest) exchanged.after,
    length-append gone exchanged.rest,
    length-append come exchanged.rest,
  );
  links = omega (
    arith,
    is.links,
    counted.links,
    directories_any_order old (gone ++ exchanged.rest) exchanged.before,
    directories_any_order new (come ++ exchanged.rest) exchanged.after,
    directories_append gone exchanged.rest,
    directories_append come exchanged.rest,
  );
}
  where
    each : (r : Record) → is_dots r.name ≡ false → IsIn r come ⊎ IsIn r exchanged.rest → LeadsDown heads' o' a r
    each r plain (inl at) = down r (contained r come at) plain
    each r plain (inr at) =
        let old_at = Contains-permutation (gone ++ exchanged.rest) old r (IsPermutation-sym old _ exchanged.before) (contained r _ (in_right r gone exchanged.rest at)) in
        same_down heads heads' o o' a r (agree r (contained r _ at) plain).0 (agree r (contained r _ at) plain).1 (is.down r old_at plain)

-- ---- how many records have a name, and where it leads

abbrev has_name : List ℕ → Record → Bool
has_name name r = bytes_eq name r.name

pub named_itself : (name : List ℕ) → bytes_eq name name ≡ true
named_itself name = (bytes_eq-Decides name name).1 refl

pub named_other : (name m : List ℕ) → name ≢ m → bytes_eq name m ≡ false
named_other name m d = elim (cases_Bool (bytes_eq name m)) [ inl so ↦ absurd (d ((bytes_eq-Decides name m).0 so)) | inr non ↦ non ]

pub names_append : (rs ss : List Record) (name : List ℕ) → name_count (rs ++ ss) name ≡ name_count rs name + name_count ss name
names_append rs ss name = sum_by-append (λ r. cond (has_name name r) 1 0) rs ss

pub names_cons : (r : Record) (rs : List Record) (name : List ℕ) → name_count (r ∷ rs) name ≡ cond (bytes_eq name r.name) 1 0 + name_count rs name
names_cons r rs name = sum_by-cons (λ s. cond (has_name name s) 1 0) r rs

pub names_any_order : (rs ss : List Record) (name : List ℕ) → IsPermutation rs ss → name_count rs name ≡ name_count ss name
names_any_order rs ss name order = sym (sum_by-IsPermutation (λ r. cond (has_name name r) 1 0) rs ss order)

-- no record has the name
abbrev pub Lacks : List Record → List ℕ → Type 0
Lacks rs name = name_count rs name ≡ 0

pub lacks_first : (r : Record) (rs : List Record) (name : List ℕ) → Lacks (r ∷ rs) name → (bytes_eq name r.name ≡ false) × Lacks rs name
lacks_first r rs name none = elim (cases_Bool (bytes_eq name r.name)) [
  | inl so ↦ absurd (omega (arith, none, names_cons r rs name, cond-true {A = ℕ} (bytes_eq name r.name) 1 0 so))
  | inr non ↦ (non, omega (arith, none, names_cons r rs name, cond-false {A = ℕ} (bytes_eq name r.name) 1 0 non))
]

pub lacks_child : (rs : List Record) (name : List ℕ) → Lacks rs name → child_named rs name ≡ None
lacks_child [] name none = refl
lacks_child (r ∷ rs) name none =
    let h = lacks_first r rs name none in
    ap (option_map (λ (s : Record). s.address)) (cond-false _ (Some r) (record_named rs name) h.0) ∙ lacks_child rs name h.1

pub child_lacks : (rs : List Record) (name : List ℕ) → child_named rs name ≡ None → Lacks rs name
child_lacks [] name e = refl
child_lacks (r ∷ rs) name e = elim (cases_Bool (bytes_eq name r.name)) [
  | inl so ↦ absurd (some_no (sym (ap (option_map (λ (s : Record). s.address)) (cond-true _ (Some r) (record_named rs name) so)) ∙ e))
  | inr non ↦
      let more = child_lacks rs name (sym (ap (option_map (λ (s : Record). s.address)) (cond-false _ (Some r) (record_named rs name) non)) ∙ e) in
      omega (arith, names_cons r rs name, cond-false {A = ℕ} (bytes_eq name r.name) 1 0 non, more)
]
  where
    some_no : {X : Type 0} {x : X} → ◌≡◌ {A = Option X} (Some x) None → ⊥
    some_no e = cc

-- records that lack the name don't matter to it
pub child_behind : (rs ss : List Record) (name : List ℕ) → Lacks rs name → child_named (rs ++ ss) name ≡ child_named ss name
child_behind [] ss name none = refl
child_behind (r ∷ rs) ss name none =
    let h = lacks_first r rs name none in
    ap (option_map (λ (s : Record). s.address)) (cond-false _ (Some r) (record_named (rs ++ ss) name) h.0) ∙ child_behind rs ss name h.1

pub child_first : (r : Record) (rs : List Record) → child_named (r ∷ rs) r.name ≡ Some r.address
child_first r rs = ap (option_map (λ (s : Record). s.address)) (cond-true _ (Some r) (record_named rs r.name) (named_itself r.name))

pub one_lacks : (r : Record) (name : List ℕ) → name ≢ r.name → Lacks (r ∷ []) name
one_lacks r name d = omega (arith, names_cons r [] name, cond-false {A = ℕ} (bytes_eq name r.name) 1 0 (named_other name r.name d))

module _ (old new gone come : List Record) (exchanged : IsExchanged old new gone come) (once : (name : List ℕ) → name_count old name ≤ 1) (once' : (name : List ℕ) → name_count new name ≤ 1) where
  old_child : (name : List ℕ) → child_named old name ≡ child_named (gone ++ exchanged.rest) name
  old_child = child_any_order old (gone ++ exchanged.rest) exchanged.before once

  new_child : (name : List ℕ) → child_named new name ≡ child_named (come ++ exchanged.rest) name
  new_child = child_any_order new (come ++ exchanged.rest) exchanged.after once'

  -- a name of which nothing goes and nothing comes leads where it led
  pub child_stays : (name : List ℕ) → Lacks gone name → Lacks come name → child_named new name ≡ child_named old name
  child_stays name none none' = new_child name ∙ child_behind come exchanged.rest name none' ∙ sym (child_behind gone exchanged.rest name none) ∙ sym (old_child name)

  -- a name that goes and doesn't come leads nowhere
  pub child_goes : (r : Record) → IsIn r gone → Lacks come r.name → child_named new r.name ≡ None
  child_goes r at none =
      let one = count_some (has_name r.name) r gone at (named_itself r.name) in
      let left : Lacks exchanged.rest r.name = omega (arith, one, once r.name, names_any_order old _ r.name exchanged.before, names_append gone exchanged.rest r.name) in
      new_child r.name ∙ child_behind come exchanged.rest r.name none ∙ lacks_child exchanged.rest r.name left

-- a name that comes leads to what its record has
pub child_comes : (old new gone : List Record) (r : Record) → IsExchanged old new gone (r ∷ []) → ((name : List ℕ) → name_count new name ≤ 1) → child_named new r.name ≡ Some r.address
child_comes old new gone r exchanged once' = child_any_order new (r ∷ exchanged.rest) exchanged.after once' r.name ∙ child_first r exchanged.rest

-- ---- no name stands twice afterwards

-- where one record comes, and what is left lacks its name
pub once_more : (old new gone : List Record) (r : Record) → (exchanged : IsExchanged old new gone (r ∷ [])) → ((name : List ℕ) → name_count old name ≤ 1)
    → Lacks exchanged.rest r.name → (name : List ℕ) → name_count new name ≤ 1
once_more old new gone r exchanged once none name = elim (cases_Bool (bytes_eq name r.name)) [
  | inl so ↦
      let e : name ≡ r.name = (bytes_eq-Decides name r.name).0 so in
      omega (arith, names_any_order new (r ∷ exchanged.rest) name exchanged.after, names_cons r exchanged.rest name, cond-true {A = ℕ} (bytes_eq name r.name) 1 0 so, ap (name_count exchanged.rest) e, none)
  | inr non ↦
      omega (
        arith,
        names_any_order new (r ∷ exchanged.rest) name exchanged.after,
        names_cons r exchanged.rest name,
        cond-false {A = ℕ} (bytes_eq name r.name) 1 0 non,
        once name,
        names_any_order old _ name exchanged.before,
        names_append gone exchanged.rest name,
      )
]

-- where none comes
pub once_less : (old new gone : List Record) → IsExchanged old new gone [] → ((name : List ℕ) → name_count old name ≤ 1) → (name : List ℕ) → name_count new name ≤ 1
once_less old new gone exchanged once name =
    omega (arith, names_any_order new exchanged.rest name exchanged.after, once name, names_any_order old _ name exchanged.before, names_append gone exchanged.rest name)

-- what isn't gone is there
pub has_stays : (heads : ℕ → Head) (old new gone come : List Record) (name : List ℕ) (b : ℕ) → IsExchanged old new gone come → Lacks gone name → HasRecord heads old name b → HasRecord heads new name b
has_stays heads old new gone come name b exchanged none has = record { entry = has.entry; there = there; named = has.named; true_of = has.true_of }
  where
    in_rest : IsIn has.entry gone ⊎ IsIn has.entry exchanged.rest → IsIn has.entry exchanged.rest
    in_rest (inr at) = at
    in_rest (inl at) = absurd (omega (arith, none, count_some (has_name name) has.entry gone at ((bytes_eq-Decides name has.entry.name).1 (sym has.named))))

    there : Contains new has.entry
    there = Contains-permutation (come ++ exchanged.rest) new has.entry (IsPermutation-sym new _ exchanged.after)
        (contained has.entry _ (in_right has.entry come exchanged.rest (in_rest (in_either has.entry gone exchanged.rest (is_in has.entry _ (Contains-permutation old (gone ++ exchanged.rest) has.entry exchanged.before has.there))))))

-- ---- the two laws

-- a record has the name, or the list lacks it
has_or_lacks : (rs : List Record) (name : List ℕ) → Lacks rs name ⊎ ((r : Record) × IsIn r rs × (r.name ≡ name))
has_or_lacks [] name = inl refl
has_or_lacks (r ∷ rs) name = elim (cases_Bool (bytes_eq name r.name)) [
  | inl so ↦ inr (r, inl refl, sym ((bytes_eq-Decides name r.name).0 so))
  | inr non ↦ elim (has_or_lacks rs name) [
    | inl none ↦ inl (omega (arith, names_cons r rs name, cond-false {A = ℕ} (bytes_eq name r.name) 1 0 non, none))
    | inr some ↦ inr (some.0, inr some.1, some.2)
  ]
]

lacks_all : (rs : List Record) (name : List ℕ) → ((r : Record) → IsIn r rs → r.name ≢ name) → Lacks rs name
lacks_all rs name each = elim (has_or_lacks rs name) [ inl none ↦ none | inr some ↦ absurd (each some.0 some.1 some.2) ]

once_after : (old new gone come : List Record) (exchanged : IsExchanged old new gone come) → ((name : List ℕ) → name_count old name ≤ 1) → ((name : List ℕ) → name_count come name ≤ 1)
    → ((r s : Record) → Contains come r → Contains exchanged.rest s → r.name ≢ s.name) → (name : List ℕ) → name_count new name ≤ 1
once_after old new gone come exchanged once come_once apart name = elim (has_or_lacks come name) [
  | inl none ↦ omega (
    arith,
    none,
    names_any_order new (come ++ exchanged.rest) name exchanged.after,
    names_append come exchanged.rest name,
    once name,
    names_any_order old (gone ++ exchanged.rest) name exchanged.before,
    names_append gone exchanged.rest name,
  )
  | inr some ↦
      let left : Lacks exchanged.rest name = lacks_all exchanged.rest name (λ s at e. apart some.0 s (contained some.0 come some.1) (contained s exchanged.rest at) (some.2 ∙ sym e)) in
      omega (arith, left, come_once name, names_any_order new (come ++ exchanged.rest) name exchanged.after, names_append come exchanged.rest name)
]

dots_lack : (gone : List Record) (name : List ℕ) → is_dots name ≡ true → ((r : Record) → Contains gone r → is_dots r.name ≡ false) → Lacks gone name
dots_lack gone name dots plain = lacks_all gone name (λ r at e. true≢false (sym (ap is_dots e ∙ dots) ∙ plain r (contained r gone at)))

pub records_go_and_come : RecordsGoAndCome
records_go_and_come heads heads' o o' a old new gone come d d' is exchanged counted own parent above plain come_once apart down agree =
    go_and_come heads heads' o o' a old new gone come d d' is exchanged counted
    (has_stays heads' old new gone come (codes ".") a exchanged (dots_lack gone (codes ".") refl plain) (same_has heads heads' old (codes ".") a own is.dot))
    (subst (λ b. HasRecord heads' new (codes "..") b) (sym parent)
    (has_stays heads' old new gone come (codes "..") (parent_of a (o a)) exchanged (dots_lack gone (codes "..") refl plain) (same_has heads heads' old (codes "..") (parent_of a (o a)) above is.dots)))
    (once_after old new gone come exchanged is.once come_once apart) down agree

pub other_parent : OtherParent
other_parent heads heads' o o' a old new dots dots' d d' is exchanged counted named named' true_of own agree =
    go_and_come heads heads' o o' a old new (dots ∷ []) (dots' ∷ []) d d' is exchanged counted
    (has_stays heads' old new (dots ∷ []) (dots' ∷ []) (codes ".") a exchanged (one_lacks dots (codes ".") (λ e. apart (e ∙ named))) (same_has heads heads' old (codes ".") a own is.dot))
    (record {
      entry = dots';
      there = Contains-permutation (dots' ∷ exchanged.rest) new dots' (IsPermutation-sym _ _ exchanged.after) (contained dots' (dots' ∷ exchanged.rest) (inl refl));
      named = named';
      true_of = true_of;
    })
    (once_more old new (dots ∷ []) dots' exchanged is.once left)
    (λ r at plain. absurd (come r plain (is_in r (dots' ∷ []) at))) agree
  where
    apart : codes "." ≡ codes ".." → ⊥
    apart e = absurd (omega (arith, ap length e))

    left : Lacks exchanged.rest dots'.name
    left = omega (
      arith,
      names_any_order old (dots ∷ exchanged.rest) dots'.name exchanged.before,
      names_cons dots exchanged.rest dots'.name,
      is.once dots'.name,
      cond-true {A = ℕ} (bytes_eq dots'.name dots.name) 1 0 (subst (λ m. bytes_eq dots'.name m ≡ true) (named' ∙ sym named) (named_itself dots'.name)),
    )

    come : (r : Record) → is_dots r.name ≡ false → IsIn r (dots' ∷ []) → ⊥
    come r plain (inl e) = true≢false (sym (ap is_dots (ap (λ (s : Record). s.name) e ∙ named')) ∙ plain)
    come r plain (inr h) = h
