-- The column of a word in its line.
use Rattle.std.proofs.Common.{◌≡◌, ℕ, zero, suc, ◌+◌, ◌-◌, ◌≤◌, Bool, true, false, ◌==◌, if◌then◌else◌, List, [], ◌∷◌, length, refl, arith}
use Rattle.std.specs.List.{onto_first}
use Rattle.script_lang.specs.Words.{words_in, column_of}

pub column_of-step : (k : ℕ) (w : List ℕ) (ws : List (List ℕ)) → 1 ≤ k → column_of k (w ∷ ws) ≡ length w + 1 + column_of (k - 1) ws
column_of-step zero w ws some = absurd (omega arith)
column_of-step (suc k) w ws some = let less : suc k - 1 ≡ k = omega arith in rw less refl

onto_first-le : (k b n : ℕ) (ws : List (List ℕ)) → 1 ≤ n → column_of k ws ≤ n → column_of k (onto_first b ws) ≤ 1 + n
onto_first-le zero b n [] some short = omega arith
onto_first-le (suc k) b n [] some short = omega arith
onto_first-le zero b n (w ∷ ws) some short = omega arith
onto_first-le (suc k) b n (w ∷ ws) some short = omega (arith, short)

-- no word begins past the line's end
pub column_of-le : (k : ℕ) (line : List ℕ) → column_of k (words_in line) ≤ length line + 1
column_of-le zero [] = omega arith
column_of-le (suc k) [] = omega arith
column_of-le k (b ∷ bs) = by_test (λ j. column_of-le j bs) (b == 32) refl k
  where
    by_test : ((j : ℕ) → column_of j (words_in bs) ≤ length bs + 1) → (t : Bool) → (b == 32) ≡ t → (j : ℕ) → column_of j (if t then [] ∷ words_in bs else onto_first b (words_in bs)) ≤ length (b ∷ bs) + 1
    by_test less true is zero = omega arith
    by_test less true is (suc j) = omega (arith, less j)
    by_test less false is j = let more = onto_first-le j b (length bs + 1) (words_in bs) (omega arith) (less j) in omega (arith, more)
