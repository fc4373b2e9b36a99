-- Numbers that are put one behind the other.
use Rattle.std.proofs.Common.{◌≡◌, ◌<◌, ◌≤◌, ℕ, List, [], ◌∷◌, ◌+◌, ◌*◌, length, get_or, drop, refl, ap, ◌∙◌, arith}
use Rattle.std.specs.Int.{w64}
use Rattle.std.proofs.lemmas.List.{drop_more}
use Rattle.gfs2_layout.specs.Bytes.{with_number}
use Rattle.node_journal.specs.Encoding.{with_numbers}
use Rattle.node_journal.proofs.Pieces.{none_left}

pub with_none : (at : ℕ) (bytes : List ℕ) → with_numbers at [] bytes ≡ bytes
unfolding with_numbers
with_none at bytes = refl

pub with_one_more : (at n : ℕ) (ns bytes : List ℕ) → with_numbers at (n ∷ ns) bytes ≡ with_numbers (at + 8) ns (with_number w64 at n bytes)
unfolding with_numbers
with_one_more at n ns bytes = refl

-- the first of those that are left, and then the others
pub with_next : (at : ℕ) (ns : List ℕ) (i : ℕ) (bytes : List ℕ) → i < length ns
    → with_numbers (at + 8 * i) (drop i ns) bytes ≡ with_numbers (at + 8 * (i + 1)) (drop (i + 1) ns) (with_number w64 (at + 8 * i) (get_or ns i 0) bytes)
with_next at ns i bytes h =
    let further : (at + 8 * i) + 8 ≡ at + 8 * (i + 1) = omega arith in
    ap (λ (ms : List ℕ). with_numbers (at + 8 * i) ms bytes) (drop_more ns i 0 h)
    ∙ with_one_more (at + 8 * i) (get_or ns i 0) (drop (i + 1) ns) bytes
    ∙ ap (λ m. with_numbers m (drop (i + 1) ns) (with_number w64 (at + 8 * i) (get_or ns i 0) bytes)) further

pub with_none_left : (at : ℕ) (ns : List ℕ) (i : ℕ) (bytes : List ℕ) → length ns ≤ i → with_numbers at (drop i ns) bytes ≡ bytes
with_none_left at ns i bytes h = ap (λ (ms : List ℕ). with_numbers at ms bytes) (none_left ns i h) ∙ with_none at bytes
