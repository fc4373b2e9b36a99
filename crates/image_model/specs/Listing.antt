-- Groups one behind the other, as the list of groups is gone over.
use Rattle.std.specs.Prelude.{ℕ, ◌≤◌, ⊤, List, [], ◌∷◌}
use Rattle.gfs2_layout.specs.declared.rindex.Rindex.{Rindex}
use Rattle.image_model.specs.Groups.{GroupFits, end_of}
use Rattle.image_model.specs.Image.{Image}

-- each fits, and begins no earlier than the one before it ends, the first of them at this block or later
abbrev pub RiseFrom : Image → ℕ → List Rindex → Type 0
RiseFrom im end [] = ⊤
RiseFrom im end (g ∷ gs) = GroupFits im g × (end ≤ g.address) × RiseFrom im (end_of g) gs

-- where the last of them ends, and this block where there is none
abbrev pub end_after : ℕ → List Rindex → ℕ
end_after end [] = end
end_after end (g ∷ gs) = end_after (end_of g) gs
