-- The names of a new image: what they lead to.
use Rattle.std.proofs.Common.{ℕ, zero, suc, ◌≡◌, ◌+◌, ◌<◌, ◌≤◌, inl, inr, Bool, false, List, [], ◌∷◌, ◌++◌, length, map, get_or, Some, codes, cond, refl, sym, ap, ◌∙◌, arith}
use Rattle.std.specs.Prelude.{◌==◌, ◌&&◌, not, slice_get}
use Rattle.std.specs.List.{AllByRecursion, range_with_len, find}
use Rattle.std.specs.Str.{bytes_eq}
use Rattle.std.proofs.lemmas.Bool.{cases_eq, cases_Bool, cond-true, cond-false, true≢false, false_from_ne_true}
use Rattle.std.proofs.lemmas.List.{length-map}
use Rattle.std.proofs.lemmas.List.FromFn.{length-range_with_len}
use Rattle.std.proofs.lemmas.List.Sums.{sum_by-cons}
use Rattle.std.proofs.lemmas.Fmt.{decimal_digit}
use Rattle.std.proofs.lemmas.Slice.Eq.{bytes_eq-Decides}
use Rattle.file_tree.specs.Names.{IsName, IsNameByte}
use Rattle.image_model.specs.Journals.{journal_name}
use Rattle.gfs2_layout.specs.Exchanges.{directory_count}
use Rattle.gfs2_layout.specs.Records.{Record, is_dots}
use Rattle.image_model.specs.Stands.{name_count}
use Rattle.mkgfs2_tool.proofs.StandingLists.{IsIn, all_in}
use Rattle.mkgfs2_tool.specs.Directories.{name_bytes, journal_entry}
use Rattle.mkgfs2_tool.specs.declared.directory.Name.TheVariants as name
use Rattle.mkgfs2_tool.specs.declared.plan.Plan.{Plan}
use Rattle.mkgfs2_tool.proofs.StandingRecords.{entry_record}

-- ---- the names of journals

abbrev pub record_name : ℕ → List ℕ
record_name j = name_bytes (name.Journal j)

pub name_is : (j : ℕ) → j < 8 → record_name j ≡ journal_name j
name_is j low = ap (λ (d : List ℕ). codes "journal" ++ d) (sym (decimal_digit j (omega (arith, low))))

pub names_apart : (j k : ℕ) → record_name j ≡ record_name k → j ≡ k
names_apart j k e = omega (arith, ap (λ (xs : List ℕ). get_or xs 7 0) e)

pub is_journal_name : (j : ℕ) → j < 8 → IsName (record_name j)
is_journal_name j low = record {
  some = omega arith;
  short = omega arith;
  plain = (
    byte 106 (omega arith) (omega arith),
    (
      byte 111 (omega arith) (omega arith),
      (
        byte 117 (omega arith) (omega arith),
        (
          byte 114 (omega arith) (omega arith),
          (
            byte 110 (omega arith) (omega arith),
            (byte 97 (omega arith) (omega arith), (byte 108 (omega arith) (omega arith), (byte (48 + j) (omega arith) (omega arith), tt))),
          ),
        ),
      ),
    ),
  );
  not_dots = refl;
}
  where
    byte : (b : ℕ) → 1 ≤ b → 48 ≤ b → IsNameByte b
    byte b some far = ((λ e. absurd (omega (arith, some, e))), (λ e. absurd (omega (arith, far, e))))

pub is_jindex_name : IsName (codes "jindex")
is_jindex_name = record {
  some = omega arith;
  short = omega arith;
  plain = (byte 106 (omega arith), (byte 105 (omega arith), (byte 110 (omega arith), (byte 100 (omega arith), (byte 101 (omega arith), (byte 120 (omega arith), tt))))));
  not_dots = refl;
}
  where
    byte : (b : ℕ) → 48 ≤ b → IsNameByte b
    byte b far = ((λ e. absurd (omega (arith, far, e))), (λ e. absurd (omega (arith, far, e))))

pub is_rindex_name : IsName (codes "rindex")
is_rindex_name = record {
  some = omega arith;
  short = omega arith;
  plain = (byte 114 (omega arith), (byte 105 (omega arith), (byte 110 (omega arith), (byte 100 (omega arith), (byte 101 (omega arith), (byte 120 (omega arith), tt))))));
  not_dots = refl;
}
  where
    byte : (b : ℕ) → 48 ≤ b → IsNameByte b
    byte b far = ((λ e. absurd (omega (arith, far, e))), (λ e. absurd (omega (arith, far, e))))

-- ---- records of different names

abbrev pub AreApart : List Record → Type 0
AreApart [] = Unit {0}
AreApart (r ∷ rs) = AllByRecursion (λ (s : Record). bytes_eq r.name s.name ≡ false) rs × AreApart rs

one_if : Bool → ℕ
one_if b = cond b 1 0

none_named : (name : List ℕ) (r : Record) (rs : List Record) → name ≡ r.name → AllByRecursion (λ (s : Record). bytes_eq r.name s.name ≡ false) rs → name_count rs name ≡ 0
none_named name r [] e all = refl
none_named name r (s ∷ rs) e all =
    sum_by-cons (λ (t : Record). cond (bytes_eq name t.name) 1 0) s rs ∙ both (cond (bytes_eq name s.name) 1 0) (name_count rs name) (cond-false _ 1 0 (ap (λ (n : List ℕ). bytes_eq n s.name) e ∙ all.0)) (none_named name r rs e all.1)
  where
    both : (a b : ℕ) → a ≡ 0 → b ≡ 0 → a + b ≡ 0
    both a b x y = omega (arith, x, y)

pub named_once : (rs : List Record) → AreApart rs → (name : List ℕ) → name_count rs name ≤ 1
named_once [] all name = omega arith
named_once (r ∷ rs) all name = elim (cases_Bool (bytes_eq name r.name)) [
  | inl so ↦ one (cond (bytes_eq name r.name) 1 0) (name_count rs name) (name_count (r ∷ rs) name) (sum_by-cons (λ (t : Record). cond (bytes_eq name t.name) 1 0) r rs) (cond-true _ 1 0 so)
      (none_named name r rs ((bytes_eq-Decides name r.name).0 so) all.0)
  | inr non ↦ rest (cond (bytes_eq name r.name) 1 0) (name_count rs name) (name_count (r ∷ rs) name) (sum_by-cons (λ (t : Record). cond (bytes_eq name t.name) 1 0) r rs) (cond-false _ 1 0 non) (named_once rs all.1 name)
]
  where
    one : (a b n : ℕ) → n ≡ a + b → a ≡ 1 → b ≡ 0 → n ≤ 1
    one a b n e x y = omega (arith, e, x, y)

    rest : (a b n : ℕ) → n ≡ a + b → a ≡ 0 → b ≤ 1 → n ≤ 1
    rest a b n e x y = omega (arith, e, x, y)

-- ---- the records of journals

abbrev pub journal_records : Plan → ℕ → ℕ → List Record
journal_records p start n = map entry_record (map (journal_entry p) (range_with_len start n))

-- a journal has another name than later ones
pub later_apart : (p : Plan) (j from n : ℕ) → j < from → AllByRecursion (λ (s : Record). bytes_eq (record_name j) s.name ≡ false) (journal_records p from n)
later_apart p j from zero less = tt
later_apart p j from (suc n) less =
    (false_from_ne_true (bytes_eq (record_name j) (record_name from)) (λ e. absurd (omega (arith, less, names_apart j from ((bytes_eq-Decides (record_name j) (record_name from)).0 e)))), later_apart p j (from + 1) n (omega (arith, less)))

pub journals_apart : (p : Plan) (start n : ℕ) → AreApart (journal_records p start n)
journals_apart p start zero = tt
journals_apart p start (suc n) = (later_apart p start (start + 1) n (omega arith), journals_apart p (start + 1) n)

pub dots_apart : (b : List ℕ) (p : Plan) (start n : ℕ) → ((j : ℕ) → bytes_eq b (record_name j) ≡ false) → AllByRecursion (λ (s : Record). bytes_eq b s.name ≡ false) (journal_records p start n)
dots_apart b p start zero off = tt
dots_apart b p start (suc n) off = (off start, dots_apart b p (start + 1) n off)

pub journal_in : (p : Plan) (start n j : ℕ) → start ≤ j → j < start + n → IsIn (entry_record (journal_entry p j)) (journal_records p start n)
journal_in p start zero j low high = absurd (omega (arith, low, high))
journal_in p start (suc n) j low high = elim (cases_eq j start) [
  | inl e ↦ inl (ap (λ k. entry_record (journal_entry p k)) e)
  | inr d ↦ inr (journal_in p (start + 1) n j (omega (arith, low, d)) (omega (arith, high)))
]

-- of records of different names each is found by its own
pub found_apart : (rs : List Record) → AreApart rs → (r : Record) → IsIn r rs → find (λ (s : Record). bytes_eq r.name s.name) rs ≡ Some r
found_apart [] all r there = elim there [ ]
found_apart (x ∷ rs) all r (inl e) = cond-true _ _ _ ((bytes_eq-Decides r.name x.name).1 (ap (λ (s : Record). s.name) e)) ∙ ap Some (sym e)
found_apart (x ∷ rs) all r (inr h) =
    cond-false _ _ _ (false_from_ne_true (bytes_eq r.name x.name) (λ e. absurd (true≢false (sym ((bytes_eq-Decides x.name r.name).1 (sym ((bytes_eq-Decides r.name x.name).0 e))) ∙ all_in (λ (s : Record). bytes_eq x.name s.name ≡ false) r rs all.0 h))))
    ∙ found_apart rs all.1 r h

-- a record of a journal
pub record IsOfJournal (p : Plan) (n : ℕ) (r : Record) : Type 0 where
  pub j : ℕ
  pub low : j < n
  pub is : r ≡ entry_record (journal_entry p j)

pub of_journal : (p : Plan) (start n all : ℕ) (r : Record) → start + n ≤ all → IsIn r (journal_records p start n) → IsOfJournal p all r
of_journal p start zero all r few there = elim there [ ]
of_journal p start (suc n) all r few (inl e) = record { j = start; low = omega (arith, few); is = e }
of_journal p start (suc n) all r few (inr h) = of_journal p (start + 1) n all r (omega (arith, few)) h

pub length_journals : (p : Plan) (start n : ℕ) → length (journal_records p start n) ≡ n
length_journals p start n = length-map (map (journal_entry p) (range_with_len start n)) entry_record ∙ length-map (range_with_len start n) (journal_entry p) ∙ length-range_with_len start n

pub no_directories : (p : Plan) (start n : ℕ) → directory_count (journal_records p start n) ≡ 0
no_directories p start zero = refl
no_directories p start (suc n) = none (directory_count (journal_records p start (suc n))) (directory_count (journal_records p (start + 1) n))
    (sum_by-cons (λ (r : Record). cond (not (is_dots r.name) && r.kind == 4) 1 0) (entry_record (journal_entry p start)) (journal_records p (start + 1) n)) (no_directories p (start + 1) n)
  where
    none : (a b : ℕ) → a ≡ 0 + b → b ≡ 0 → a ≡ 0
    none a b e z = omega (arith, e, z)

-- ---- places in a list over a range

pub got_at : {X : Type 0} (f : ℕ → X) (start n j : ℕ) (x : X) → slice_get (map f (range_with_len start n)) j ≡ Some x → (j < n) × (x ≡ f (start + j))
got_at f start zero j x e = cc
got_at f start (suc n) zero x e = (omega arith, some_is x (f start) e ∙ ap f (none start))
  where
    some_is : {X : Type 0} (x y : X) → Some y ≡ Some x → x ≡ y
    some_is x y e = cc

    none : (n : ℕ) → n ≡ n + 0
    none n = omega arith
got_at f start (suc n) (suc j) x e = let rest = got_at f (start + 1) n j x e in (omega (arith, rest.0), rest.1 ∙ ap f (let s : start + 1 + j ≡ start + suc j = omega arith in s))

pub get_at : {X : Type 0} (f : ℕ → X) (start n j : ℕ) → j < n → slice_get (map f (range_with_len start n)) j ≡ Some (f (start + j))
get_at f start zero j low = absurd (omega (arith, low))
get_at f start (suc n) zero low = ap (λ k. Some (f k)) (let s : start ≡ start + 0 = omega arith in s)
get_at f start (suc n) (suc j) low = get_at f (start + 1) n j (omega (arith, low)) ∙ ap (λ k. Some (f k)) (let s : start + 1 + j ≡ start + suc j = omega arith in s)
