-- Texts of replies.
use Rattle.std.proofs.Common.{◌≡◌, ℕ, ◌≤◌, List, [], ◌∷◌, ◌++◌, length, refl, arith}
use Rattle.std.specs.Prelude.{codes}
use Rattle.hex.specs.Hex.{encode_lower}
use Rattle.file_tree.specs.CallText.{data_text}

pub data_text-some : (bytes : List ℕ) → 1 ≤ length bytes → data_text bytes ≡ codes "data " ++ encode_lower bytes
data_text-some [] some = absurd (omega arith)
data_text-some (b ∷ bytes) some = refl
