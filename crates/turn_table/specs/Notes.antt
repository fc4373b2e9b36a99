-- Notes are pairs of a part's number and something about that part, newest first.
use Rattle.std.specs.Prelude.{ℕ, ◌==◌, ◌<◌, List, [], ◌∷◌, map, Option, Some, None, if◌then◌else◌}

module _ {X : Type 0} where
  -- what the newest note on the part says, if there is one
  abbrev pub noted : ℕ → List (ℕ × X) → Option X
  noted p [] = None
  noted p (t ∷ ts) = if t.0 == p then Some t.1 else noted p ts

  -- the notes without the newest one on the part
  abbrev pub without : ℕ → List (ℕ × X) → List (ℕ × X)
  without p [] = []
  without p (t ∷ ts) = if t.0 == p then ts else t ∷ without p ts

  -- the newest note on the part comes to the front
  abbrev pub brought : ℕ → List (ℕ × X) → List (ℕ × X)
  brought p ts = fronted p (noted p ts) ts
    where
      fronted : ℕ → Option X → List (ℕ × X) → List (ℕ × X)
      fronted p None ts = ts
      fronted p (Some x) ts = (p, x) ∷ without p ts

-- of each note the part alone, with no value
abbrev pub emptied : {V : Type 0} → List (ℕ × V) → List (ℕ × Option V)
emptied ts = map (λ t. (t.0, None)) ts

-- the parts that the notes are on
abbrev pub keys : {X : Type 0} → List (ℕ × X) → List ℕ
keys ts = map (λ t. t.0) ts

-- each note is on a part below n
abbrev pub AllBelow : {X : Type 0} → ℕ → List (ℕ × X) → Type 0
AllBelow n [] = Unit {0}
AllBelow n (t ∷ ts) = (t.0 < n) × AllBelow n ts
