-- How many records have the names of journals.
use Rattle.std.proofs.Common.{◌≡◌, ◌≢◌, inl, inr, ℕ, zero, suc, ◌+◌, ◌<◌, ◌≤◌, ◌||◌, Bool, true, false, List, [], ◌∷◌, refl, sym, ap, ◌∙◌, arith, cond}
use Rattle.std.specs.Prelude.{count_by, not, Contains}
use Rattle.std.specs.Str.{bytes_eq}
use Rattle.std.proofs.lemmas.Bool.{true≢false, cases_Bool}
use Rattle.std.proofs.lemmas.List.Sums.{sum_by-cons}
use Rattle.std.proofs.lemmas.Slice.Eq.{bytes_eq-Decides}
use Rattle.gfs2_layout.specs.Records.{Record, is_dots}
use Rattle.image_model.specs.Journals.{journal_name}
use Rattle.image_model.specs.Stands.{name_count as times}
use Rattle.image_model.proofs.Counts.{count_some}
use Rattle.image_model.proofs.JournalNames.{one_number}
use Rattle.image_model.proofs.Members.{IsIn, is_in, contained}
use Rattle.image_mount.specs.Found.{name_count}

pub name_leads : (j : ℕ) → is_dots (journal_name j) ≡ false
name_leads j = refl

-- the name is one of the first so many
abbrev pub is_among : ℕ → List ℕ → Bool
is_among zero name = false
is_among (suc n) name = bytes_eq (journal_name n) name || is_among n name

among_of : (n : ℕ) (name : List ℕ) → is_among n name ≡ true → (j : ℕ) × (j < n) × (name ≡ journal_name j)
among_of zero name e = absurd (true≢false (sym e))
among_of (suc n) name e = elim (cases_Bool (bytes_eq (journal_name n) name)) [
  | inl so ↦ (n, omega arith, sym ((bytes_eq-Decides (journal_name n) name).0 so))
  | inr non ↦ let more = among_of n name (sym (ap (λ b. b || is_among n name) non) ∙ e) in (more.0, omega (arith, more.1), more.2)
]

of_among : (n : ℕ) (name : List ℕ) (j : ℕ) → j < n → name ≡ journal_name j → is_among n name ≡ true
of_among zero name j low is = absurd (omega (arith, low))
of_among (suc n) name j low is = elim (cases_Bool (bytes_eq (journal_name n) name)) [
  | inl so ↦ ap (λ b. b || is_among n name) so
  | inr non ↦
      let apart : j ≢ n = λ e. true≢false (sym ((bytes_eq-Decides (journal_name n) name).1 (ap journal_name (sym e) ∙ sym is)) ∙ non) in
      ap (λ b. b || is_among n name) non ∙ of_among n name j (omega (arith, low, apart)) is
]

both_cond : (p q : Bool) → (p ≡ true → q ≡ true → ⊥) → cond (p || q) 1 0 ≡ cond p 1 0 + cond q 1 0
both_cond true true apart = absurd (apart refl refl)
both_cond true false apart = refl
both_cond false true apart = refl
both_cond false false apart = refl

module _ {X : Type 0} where
  -- two tests that agree on each element
  pub count_same : (p q : X → Bool) (xs : List X) → ((x : X) → IsIn x xs → p x ≡ q x) → count_by p xs ≡ count_by q xs
  count_same p q [] same = refl
  count_same p q (x ∷ xs) same =
      sum_by-cons (λ y. cond (p y) 1 0) x xs
      ∙ ap (λ b. cond b 1 0 + count_by p xs) (same x (inl refl))
      ∙ ap (λ n. cond (q x) 1 0 + n) (count_same p q xs (λ y there. same y (inr there)))
      ∙ sym (sum_by-cons (λ y. cond (q y) 1 0) x xs)

  -- two tests that no element passes both
  pub count_either : (p q : X → Bool) (xs : List X) → ((x : X) → IsIn x xs → p x ≡ true → q x ≡ true → ⊥) → count_by (λ x. p x || q x) xs ≡ count_by p xs + count_by q xs
  count_either p q [] apart = refl
  count_either p q (x ∷ xs) apart =
      let step = count_either p q xs (λ y there. apart y (inr there)) in
      let head = both_cond (p x) (q x) (apart x (inl refl)) in
      let all = sum_by-cons (λ y. cond (p y || q y) 1 0) x xs in
      let left = sum_by-cons (λ y. cond (p y) 1 0) x xs in
      let right = sum_by-cons (λ y. cond (q y) 1 0) x xs in
      omega (arith, step, head, all, left, right)

  pub count_none : (xs : List X) → count_by (λ x. false) xs ≡ 0
  count_none [] = refl
  count_none (x ∷ xs) =
      let step : count_by (λ (y : X). false) (x ∷ xs) ≡ 0 + count_by (λ (y : X). false) xs = sum_by-cons (λ y. cond false 1 0) x xs in
      omega (arith, step, count_none xs)

-- records of which each name is there once, and which have the names of so many journals
pub count_named : (records : List Record) (n : ℕ) → n ≤ 8 → ((name : List ℕ) → times records name ≤ 1) → ((j : ℕ) → j < n → (r : Record) × Contains records r × (r.name ≡ journal_name j))
    → ((r : Record) → Contains records r → is_dots r.name ≡ false → (j : ℕ) × (j < n) × (r.name ≡ journal_name j)) → name_count records ≡ n
count_named records n few once there only =
    count_same (λ r. not (is_dots r.name)) (λ r. is_among n r.name) records agree ∙ among n (omega arith)
  where
    agree : (r : Record) → IsIn r records → not (is_dots r.name) ≡ is_among n r.name
    agree r here = elim (cases_Bool (is_dots r.name)) [
      | inl dots ↦ elim (cases_Bool (is_among n r.name)) [
        | inl so ↦ let of = among_of n r.name so in absurd (true≢false (sym dots ∙ ap is_dots of.2 ∙ name_leads of.0))
        | inr non ↦ ap not dots ∙ sym non
      ]
      | inr leads ↦ let of = only r (contained r records here) leads in ap not leads ∙ sym (of_among n r.name of.0 of.1 of.2)
    ]

    among : (m : ℕ) → m ≤ n → count_by (λ (r : Record). is_among m r.name) records ≡ m
    among zero low = count_none records
    among (suc m) low =
        let before = among m (omega (arith, low)) in
        let apart : (r : Record) → IsIn r records → bytes_eq (journal_name m) r.name ≡ true → is_among m r.name ≡ true → ⊥ = λ r here so among.
        let of = among_of m r.name among in
        let is = (bytes_eq-Decides (journal_name m) r.name).0 so in
        let same : m ≡ of.0 = one_number m of.0 (omega (arith, low, few)) (omega (arith, low, few, of.1)) (is ∙ of.2) in
        absurd (omega (arith, same, of.1)) in
        let split = count_either (λ (r : Record). bytes_eq (journal_name m) r.name) (λ (r : Record). is_among m r.name) records apart in
        let at = there m (omega (arith, low)) in
        let some : 1 ≤ times records (journal_name m) = count_some (λ (r : Record). bytes_eq (journal_name m) r.name) at.0 records (is_in at.0 records at.1) ((bytes_eq-Decides (journal_name m) at.0.name).1 (sym at.2)) in
        let most = once (journal_name m) in
        omega (arith, split, before, some, most)
