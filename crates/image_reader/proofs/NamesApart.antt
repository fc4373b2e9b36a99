-- A set of the names of entries, as it grows; and two records of one name.
use Rattle.std.proofs.Common.{◌≡◌, Bool, true, false, ℕ, ◌+◌, ◌<◌, ◌≤◌, List, [], length, inl, inr, refl, sym, ap, subst, ◌∙◌, arith, BTreeSet, Bor, Ordering}
use Rattle.std.proofs.lemmas.Bool.{cond-true, cond-false, true≢false}
use Rattle.std.proofs.lemmas.Map.Text.{is_eq-slice_cmp}
use Rattle.std.proofs.lemmas.Slice.Eq.{bytes_eq-Decides}
use Rattle.std.specs.BTreeSet.{contains}
use Rattle.std.specs.Cmp.Lexicographic.{slice_cmp}
use Rattle.std.specs.Ordering.{nat_cmp}
use Rattle.std.specs.BTreeMap.{is_at}
use Rattle.std.specs.Prelude.{if◌then◌else◌, not}
use Rattle.image_reader.specs.Found.{IsEntryAt}
use Rattle.image_reader.specs.Untouched.{AreNamedApart}
use Rattle.image_reader.specs.declared.directory.Found.{Found}
use Rattle.image_reader.proofs.Listed.{got_low, got_one}
use Rattle.image_reader.proofs.WalkFaults.{same_or_not}

-- the order of names: that of their bytes
abbrev pub by_bytes : Bor (List ℕ) → Bor (List ℕ) → Ordering
by_bytes a b = slice_cmp nat_cmp a.now b.now

-- one of the entries from the first on and before this place has the name
pub record IsNameBefore (first place : ℕ) (found : List Found) (name : List ℕ) : Type 0 where
  pub index : ℕ
  pub entry : Found
  pub low : first ≤ index
  pub before : index < place
  pub there : IsEntryAt found index entry
  pub named : name ≡ entry.name

-- the set has the names of those entries, and no two of them have one name
pub record AreNames (first place : ℕ) (found : List Found) (names : BTreeSet (Bor (List ℕ))) : Type 0 where
  pub low : first ≤ place
  pub all : (q : Bor (List ℕ)) → IsNameBefore first place found q.now → contains by_bytes names q ≡ true
  pub only : (q : Bor (List ℕ)) → contains by_bytes names q ≡ true → IsNameBefore first place found q.now
  pub apart : (i j : ℕ) (f g : Found) → first ≤ i → first ≤ j → i < place → j < place → IsEntryAt found i f → IsEntryAt found j g → f.name ≡ g.name → i ≡ j

at_same : (k q : Bor (List ℕ)) → k.now ≡ q.now → is_at (by_bytes k) q ≡ true
at_same k q same = is_eq-slice_cmp k.now q.now ∙ (bytes_eq-Decides k.now q.now).1 same

same_at : (k q : Bor (List ℕ)) → is_at (by_bytes k) q ≡ true → k.now ≡ q.now
same_at k q at = (bytes_eq-Decides k.now q.now).0 (sym (is_eq-slice_cmp k.now q.now) ∙ at)

pub no_names : (first : ℕ) (found : List Found) (names : BTreeSet (Bor (List ℕ))) → names.keys ≡ [] → AreNames first first found names
no_names first found names empty = record {
  low = omega arith;
  all = λ q is. absurd (omega (arith, is.low, is.before));
  only = λ q has. let none : contains by_bytes names q ≡ false = rw empty refl in absurd (true≢false (sym has ∙ none));
  apart = λ i j f g low lower before other there too named. absurd (omega (arith, low, before));
}

module _ (first place : ℕ) (found : List Found) (names : BTreeSet (Bor (List ℕ))) (are : AreNames first place found names) (f : Found) (there : IsEntryAt found place f) (key : Bor (List ℕ)) (key_is : key.now ≡ f.name) where
  -- a name that was there already
  pub twin_at : contains by_bytes names key ≡ true → IsNameBefore first place found f.name
  twin_at has = subst (IsNameBefore first place found) key_is (are.only key has)

  later : (name : List ℕ) → IsNameBefore first place found name → IsNameBefore first (place + 1) found name
  later name is = record { index = is.index; entry = is.entry; low = is.low; before = omega (arith, is.before); there = is.there; named = is.named }

  module _ (more : BTreeSet (Bor (List ℕ))) (new : contains by_bytes names key ≡ false) (updates : (q : Bor (List ℕ)) → contains by_bytes more q ≡ (if is_at (by_bytes key) q then true else contains by_bytes names q)) where
    has_name : (q : Bor (List ℕ)) (b : Bool) → is_at (by_bytes key) q ≡ b → IsNameBefore first (place + 1) found q.now → contains by_bytes more q ≡ true
    has_name q true at is = updates q ∙ cond-true _ _ _ at
    has_name q false at is = elim (same_or_not is.index place) [
      | inl here ↦
          let entry : is.entry ≡ f = got_one found is.index place is.entry f here is.there there in
          absurd (true≢false (sym (at_same key q (key_is ∙ ap (λ (g : Found). g.name) (sym entry) ∙ sym is.named)) ∙ at))
      | inr other ↦
          updates q ∙ cond-false _ _ _ at
          ∙ are.all q (record { index = is.index; entry = is.entry; low = is.low; before = omega (arith, is.before, other); there = is.there; named = is.named })
    ]

    of_name : (q : Bor (List ℕ)) (b : Bool) → is_at (by_bytes key) q ≡ b → contains by_bytes more q ≡ true → IsNameBefore first (place + 1) found q.now
    of_name q true at has = record { index = place; entry = f; low = are.low; before = omega arith; there = there; named = sym (same_at key q at) ∙ key_is }
    of_name q false at has = later q.now (are.only q (sym (updates q ∙ cond-false _ _ _ at) ∙ has))

    -- the new name is no other's
    no_other : (i : ℕ) (g : Found) → first ≤ i → i < place → IsEntryAt found i g → g.name ≡ f.name → ⊥
    no_other i g low before at named =
        true≢false (sym (are.all key (record { index = i; entry = g; low = low; before = before; there = at; named = key_is ∙ sym named })) ∙ new)

    pub one_name_more : AreNames first (place + 1) found more
    one_name_more = record {
      low = omega (arith, are.low);
      all = λ q is. has_name q (is_at (by_bytes key) q) refl is;
      only = λ q has. of_name q (is_at (by_bytes key) q) refl has;
      apart = λ i j g h low lower before other at too named. elim (same_or_not i place) [
        | inl here ↦ elim (same_or_not j place) [
          | inl both ↦ here ∙ sym both
          | inr apart ↦
              let g_is = got_one found i place g f here at there in
              absurd (no_other j h lower (omega (arith, other, apart)) too (sym named ∙ ap (λ (e : Found). e.name) g_is))
        ]
        | inr here ↦ elim (same_or_not j place) [
          | inl there_too ↦
              let h_is = got_one found j place h f there_too too there in
              absurd (no_other i g low (omega (arith, before, here)) at (named ∙ ap (λ (e : Found). e.name) h_is))
          | inr apart ↦ are.apart i j g h low lower (omega (arith, before, here)) (omega (arith, other, apart)) at too named
        ]
      ];
    }

-- what was added was not there
pub was_there : (added had : Bool) → added ≡ not had → added ≡ false → had ≡ true
was_there added true is new = refl
was_there added false is new = absurd (true≢false (sym is ∙ new))

pub was_new : (added had : Bool) → added ≡ not had → added ≡ true → had ≡ false
was_new added false is new = refl
was_new added true is new = absurd (true≢false (sym new ∙ is))

pub all_apart : (first place : ℕ) (found : List Found) (names : BTreeSet (Bor (List ℕ))) → AreNames first place found names → length found ≤ place → AreNamedApart first found
all_apart first place found names are past i j f g low lower there other named =
    are.apart i j f g low lower (omega (arith, past, got_low found i f there)) (omega (arith, past, got_low found j g other)) there other named
