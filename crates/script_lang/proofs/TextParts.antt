-- The first line of a text, and the first word of a line.
use Rattle.std.proofs.Common.{◌≡◌, ℕ, suc, ◌+◌, ◌-◌, ◌<◌, ◌≤◌, min, Bool, true, false, not, ◌==◌, ltb, List, [], ◌∷◌, length, take, drop, get_or, inl, inr, refl, sym, ap, ◌∙◌, arith, unwrap_or}
use Rattle.std.specs.List.{position, position_or_len, onto_first, slice_split}
use Rattle.std.proofs.lemmas.Bool.{ltb-false, cases_lt}
use Rattle.std.proofs.lemmas.List.{take_rest, take_all, drop_all, drop_min, drop_more, length-drop, length-take}
use Rattle.std.proofs.lemmas.List.Sums.{prefix_len-le-length}
use Rattle.std.proofs.lemmas.List.Splits.{slice_split_first}
use Rattle.script_lang.specs.Words.{lines_in, parts_behind}

pub place_or_all : (p : ℕ → Bool) (xs : List ℕ) → unwrap_or (position p xs) (length xs) ≡ position_or_len p xs
place_or_all p xs = by_test _ refl
  where
    by_test : (b : Bool) → ltb (position_or_len p xs) (length xs) ≡ b → unwrap_or (position p xs) (length xs) ≡ position_or_len p xs
    by_test true e = rw e refl
    by_test false e = let most = prefix_len-le-length (λ x. not (p x)) xs in let past = ltb-false (position_or_len p xs) (length xs) e in rw e (omega (arith, most, past))

abbrev newline : ℕ → Bool
newline b = b == 10

abbrev pub end_of : List ℕ → ℕ
end_of text = position_or_len newline text

one_more : (b : ℕ) (xs : List ℕ) (n : ℕ) → onto_first b (take n xs ∷ lines_in (drop (n + 1) xs)) ≡ take (1 + n) (b ∷ xs) ∷ lines_in (drop (1 + n + 1) (b ∷ xs))
one_more b xs n = let two : 1 + n + 1 ≡ suc (n + 1) = omega arith in let one : 1 + n ≡ suc n = omega arith in rw (two, one) refl

-- a line ends at the first newline, or with the text
pub lines_in-first : (text : List ℕ) → 0 < length text → lines_in text ≡ take (end_of text) text ∷ lines_in (drop (end_of text + 1) text)
lines_in-first [] some = absurd (omega arith)
lines_in-first (b ∷ []) some = by_test (newline b) refl
  where
    by_test : (t : Bool) → newline b ≡ t → lines_in (b ∷ []) ≡ take (end_of (b ∷ [])) (b ∷ []) ∷ lines_in (drop (end_of (b ∷ []) + 1) (b ∷ []))
    by_test true e = rw e refl
    by_test false e = rw e refl
lines_in-first (b ∷ c ∷ cs) some = by_test (lines_in-first (c ∷ cs) (omega arith)) (newline b) refl
  where
    by_test : lines_in (c ∷ cs) ≡ take (end_of (c ∷ cs)) (c ∷ cs) ∷ lines_in (drop (end_of (c ∷ cs) + 1) (c ∷ cs)) → (t : Bool) → newline b ≡ t
        → lines_in (b ∷ c ∷ cs) ≡ take (end_of (b ∷ c ∷ cs)) (b ∷ c ∷ cs) ∷ lines_in (drop (end_of (b ∷ c ∷ cs) + 1) (b ∷ c ∷ cs))
    by_test more true e = rw e refl
    by_test more false e = rw e (ap (onto_first b) more ∙ one_more b (c ∷ cs) (end_of (c ∷ cs)))

pub first_line : (text : List ℕ) (e n : ℕ) → 0 < length text → e ≡ end_of text → n ≡ min (e + 1) (length text)
    → lines_in text ≡ take e text ∷ lines_in (take (length text - n) (drop n text))
first_line text e n some end next =
    let rest : take (length text - n) (drop n text) ≡ drop n text = take_rest text n in
    let past : drop n text ≡ drop (e + 1) text = ap (λ (k : ℕ). drop k text) next ∙ drop_min (e + 1) text in
    lines_in-first text some ∙ (λ i. take (sym end i) text ∷ lines_in (drop (sym end i + 1) text)) ∙ ap (λ (l : List ℕ). take e text ∷ lines_in l) (sym past ∙ sym rest)

-- how long the line and the lines behind it are
pub line_place : (text : List ℕ) (e n : ℕ) → 0 < length text → e ≤ length text → n ≡ min (e + 1) (length text)
    → (length (take e text) ≤ length text) × (length (take (length text - n) (drop n text)) < length text)
    × (0 < length (take (length text - n) (drop n text)) → length (take e text) + 1 + length (take (length text - n) (drop n text)) ≡ length text)
line_place text e n some within next =
    let front : length (take e text) ≡ e = omega (arith, length-take e text) in
    let rest : length (take (length text - n) (drop n text)) ≡ length text - n = ap length (take_rest text n) ∙ length-drop n text in
    (omega (arith, front), omega (arith, rest, next), λ more. omega (arith, front, rest, next))

-- ---- the parts of a text between bytes of one kind

module _ (separator : ℕ) where
  abbrev here : ℕ → Bool
  here b = b == separator

  pub first_part : (text : List ℕ) (e : ℕ) → e ≡ position_or_len here text → e < length text
      → slice_split here text ≡ take e text ∷ slice_split here (take (length text - (e + 1)) (drop (e + 1) text))
  first_part text e end within =
      let inside : position_or_len here text < length text = omega (arith, end) in
      slice_split_first here text 0 inside
      ∙ (λ i. take (sym end i) text ∷ slice_split here (drop (sym end i + 1) text)) ∙ ap (λ (l : List ℕ). take e text ∷ slice_split here l) (sym (take_rest text (e + 1)))

  pub last_part : (text : List ℕ) → length text ≤ position_or_len here text → slice_split here text ≡ text ∷ []
  last_part [] none = refl
  last_part (b ∷ bs) none = by_test (last_part bs) (here b) refl
    where
      by_test : (length bs ≤ position_or_len here bs → slice_split here bs ≡ bs ∷ []) → (t : Bool) → here b ≡ t → slice_split here (b ∷ bs) ≡ (b ∷ bs) ∷ []
      by_test more true e = let zero_at : position_or_len here (b ∷ bs) ≡ 0 = rw e refl in absurd (omega (arith, zero_at))
      by_test more false e = let one_on : position_or_len here (b ∷ bs) ≡ 1 + position_or_len here bs = rw e refl in rw e (ap (onto_first b) (more (omega (arith, one_on))))

  -- the first part, and what stands behind it with its separator
  pub part_and_rest : (text : List ℕ) (e : ℕ) → e ≡ position_or_len here text → e ≤ length text
      → slice_split here text ≡ take e text ∷ parts_behind separator (take (length text - e) (drop e text))
  part_and_rest text e end within = elim (cases_lt e (length text)) [
    | inl inside ↦
        let rest : take (length text - e) (drop e text) ≡ get_or text e 0 ∷ drop (e + 1) text = take_rest text e ∙ drop_more text e 0 inside in
        first_part text e end inside
        ∙ ap (λ (l : List ℕ). take e text ∷ slice_split here l) (take_rest text (e + 1)) ∙ ap (λ (l : List ℕ). take e text ∷ parts_behind separator l) (sym rest)
    | inr past ↦
        let none : drop e text ≡ [] = drop_all e text past in
        let all : take e text ≡ text = take_all e text past in
        last_part text (omega (arith, end)) ∙ ap (λ (l : List ℕ). l ∷ []) (sym all) ∙ ap (λ (l : List ℕ). take e text ∷ parts_behind separator l) (sym (take_rest text e ∙ none))
  ]
