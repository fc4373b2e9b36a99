-- Lines of a text in pieces.
use Rattle.std.proofs.Common.{◌≡◌, ℕ, List, ◌++◌, ap, ◌∙◌, append_assoc}

-- a piece behind two pieces that stand behind an old text
pub behind_two : (old now one two three : List ℕ) → now ≡ old ++ (one ++ two) → now ++ three ≡ old ++ (one ++ two ++ three)
behind_two old now one two three e = ap (λ (l : List ℕ). l ++ three) e ∙ append_assoc old (one ++ two) three
