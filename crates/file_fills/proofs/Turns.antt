-- Blocks that are taken in an order.
use Rattle.std.proofs.Common.{◌≡◌, ◌≢◌, ◌⊎◌, inl, inr, Option, ℕ, ◌+◌, ◌-◌, ◌*◌, ◌/◌, ◌<◌, ◌≤◌, List, [], ◌∷◌, ◌++◌, refl, sym, ap, subst, ◌∙◌, arith}
use Rattle.std.proofs.lemmas.Bool.{cases_eq, cases_lt}
use Rattle.std.proofs.lemmas.List.Elements.{Contains-append_left, Contains-append_right, Contains-append_cases}
use Rattle.std.specs.Prelude.{Contains}
use Rattle.gfs2_layout.specs.Holding.{Cell, Holding}
use Rattle.gfs2_layout.specs.Inode.{height_in, span}
use Rattle.dinode_tree.proofs.Spans.{span_some}
use Rattle.growth_laws.specs.Files.{IsFile, IsPlaced, block_on, places_on}
use Rattle.growth_laws.proofs.Parts.{some_part}
use Rattle.growth_laws.proofs.Places.{part_of_place, place_of_part, pointer_low, size_large}
use Rattle.growth_drafts.proofs.Rooms.{none_in}
use Rattle.file_walks.specs.Walks.{place_above}
use Rattle.file_walks.proofs.Above.{above_above, span_times}
use Rattle.file_walks.proofs.Steps.{hole_above}
use Rattle.file_fills.specs.Turns.{IsMetBefore, StandIn}
use Rattle.file_fills.proofs.Seeing.{place_at}

-- ---- lists in an order

pub stand_one : (Before : ℕ → ℕ → ℕ → ℕ → Type 0) (g : Holding) (b : ℕ) → StandIn Before g (b ∷ [])
stand_one Before g b = (λ c level first level' first' has. absurd (none_in c has), tt)

-- seen in another file, in which these blocks stand where they stood; and an order that says no more
pub stand_as : (Before Before' : ℕ → ℕ → ℕ → ℕ → Type 0) (g g' : Holding) (xs : List ℕ) → ((b level first : ℕ) → Contains xs b → IsPlaced g' b level first → IsPlaced g b level first)
    → ((b c level first level' first' : ℕ) → Contains xs b → Contains xs c → IsPlaced g b level first → IsPlaced g c level' first' → Before level first level' first' → Before' level first level' first')
    → StandIn Before g xs → StandIn Before' g' xs
stand_as Before Before' g g' [] back weaker stand = tt
stand_as Before Before' g g' (x ∷ xs) back weaker stand = (
  λ c level first level' first' has at at'.
      let here : Contains (x ∷ xs) x = (0, omega arith, refl) in
      let later = Contains-append_right (x ∷ []) xs c has in
      weaker x c level first level' first' here later (back x level first here at) (back c level' first' later at') (stand.0 c level first level' first' has (back x level first here at) (back c level' first' later at')),
  stand_as Before Before' g g' xs (λ b level first has. back b level first (Contains-append_right (x ∷ []) xs b has))
      (λ b c level first level' first' has has'. weaker b c level first level' first' (Contains-append_right (x ∷ []) xs b has) (Contains-append_right (x ∷ []) xs c has')) stand.1,
)

-- one list behind another
pub stand_then : (Before : ℕ → ℕ → ℕ → ℕ → Type 0) (g : Holding) (xs ys : List ℕ) → StandIn Before g xs → StandIn Before g ys
    → ((b c level first level' first' : ℕ) → Contains xs b → Contains ys c → IsPlaced g b level first → IsPlaced g c level' first' → Before level first level' first')
    → StandIn Before g (xs ++ ys)
stand_then Before g [] ys early late across = late
stand_then Before g (x ∷ xs) ys early late across = (
  λ c level first level' first' has at at'. elim (Contains-append_cases xs ys c has) [
    | inl near ↦ early.0 c level first level' first' near at at'
    | inr far ↦ (let here : Contains (x ∷ xs) x = (0, omega arith, refl) in across x c level first level' first' here far at at')
  ],
  stand_then Before g xs ys early.1 late (λ b c level first level' first' has. across b c level first level' first' (Contains-append_right (x ∷ []) xs b has)),
)

-- ---- which of two is met first

-- Of a block that is there and begins no later than a place of content, and a place above that where none is: the block is met first.
pub met_before : (h : Holding) (file : IsFile h) (b l f l' j' i : ℕ) → IsPlaced h b l f → f ≤ i → l' < height_in h → j' < places_on h l' → j' * span h.size l' ≤ i → i < j' * span h.size l' + span h.size l'
    → ((c : ℕ) → IsPlaced h c l' (j' * span h.size l') → ⊥) → IsMetBefore l f l' (j' * span h.size l')
met_before h file b l f l' j' i placed before low within from until none = elim (cases_lt f (j' * span h.size l')) [
  | inl less ↦ inl less
  | inr behind ↦ inr (elim (cases_lt l' l) [
    | inl below ↦ (same_place_on below behind, below)
    | inr above ↦ absurd (is_there above behind)
  ])
]
  where
    large : 512 ≤ h.size
    large = size_large h.size file.block_size

    at : (j : ℕ) × (f ≡ j * span h.size l) × (j < places_on h l) × (block_on h l j ≡ b)
    at = place_of_part h file b l f placed

    under : f < j' * span h.size l' + span h.size l'
    under = omega (arith, before, until)

    same_place_on : l' < l → j' * span h.size l' ≤ f → f ≡ j' * span h.size l'
    same_place_on below behind =
        let sum : l - l' + l' ≡ l = omega (arith, below) in
        let whole : at.0 * (span h.size (l - l') * span h.size l') ≡ at.0 * span h.size (l - l') * span h.size l' = omega arith in
        let is : f ≡ at.0 * span h.size (l - l') * span h.size l' = at.1 ∙ ap (λ n. at.0 * span h.size n) (sym sum) ∙ ap (λ n. at.0 * n) (span_times h.size (l - l') l') ∙ whole in
        let some : 1 ≤ span h.size l' = span_some h.size l' large in
        let same : at.0 * span h.size (l - l') ≡ j' = sym (place_at h.size f l' (at.0 * span h.size (l - l')) (omega (arith, is)) (omega (arith, is, some))) ∙ place_at h.size f l' j' behind under in
        is ∙ ap (λ n. n * span h.size l') same

    is_there : l ≤ l' → j' * span h.size l' ≤ f → ⊥
    is_there above behind =
        let some : 1 ≤ span h.size l = span_some h.size l large in
        let here : place_above h.size 0 f l ≡ at.0 = place_at h.size f l at.0 (omega (arith, at.1)) (omega (arith, at.1, some)) in
        let up : at.0 / span h.size (l' - l) ≡ j' = ap (λ n. n / span h.size (l' - l)) (sym here) ∙ above_above h.size f l l' above ∙ place_at h.size f l' j' behind under in
        let sum : l + (l' - l) ≡ l' = omega (arith, above) in
        let b_some : b ≢ 0 = some_part h b _ file.nobody placed.2 in
        elim (cases_eq (block_on h l' j') 0) [
          | inl hole ↦ b_some (sym at.3 ∙ hole_above h file (l' - l) l at.0 (omega (arith, sum, low)) at.2 ((λ t. block_on h (sum t) (up t)) ∙ hole))
          | inr there ↦ none (block_on h l' j') (part_of_place h file l' j' low within there)
        ]
