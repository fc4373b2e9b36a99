-- What a contract sees of a table of turns, of a seat at it and of a value that was handed out.
use Rattle.std.specs.Prelude.{◌≡◌, ◌≢◌, ℕ, List, [], length, Some, slice_get, Contains}
use Rattle.atomic_table.specs.Seated.{TableId}
use Rattle.turn_table.specs.Notes.{noted}

-- how many parts the table has
abbrev pub part_count : TableId → ℕ
part_count z = z.words

-- A seat: its table, its share, each value that it has seen of a part, and each part whose turn it holds, with the value that the seat declares for it.
pub record Sitting (V : Type 0) : Type 0 where
  pub table : TableId
  pub share : ℕ
  pub seen : List (ℕ × V)
  pub turns : List (ℕ × V)

-- A value that was handed out: its part, what it was at `enter`, and what it is now.
pub record Handed (V : Type 0) : Type 0 where
  pub part : ℕ
  pub opening : V
  pub value : V

module _ {V : Type 0} where
  -- the seat has seen this value of this part
  abbrev pub HasSeen : Sitting V → ℕ → V → Type 0
  HasSeen s p x = Contains s.seen (p, x)

  -- the seat entered the part, was handed this value, and holds the turn still
  abbrev pub HoldsTurn : Sitting V → Handed V → Type 0
  HoldsTurn s h = noted h.part s.turns ≡ Some h.opening

  -- the seat holds both turns, which are those of two parts
  abbrev pub HoldsTurns : Sitting V → Handed V → Handed V → Type 0
  HoldsTurns s h k = HoldsTurn s h × HoldsTurn s k × (h.part ≢ k.part)

  -- the values of these turns are parts of one list of this length, which meets the rule
  abbrev pub AreLegal : (List V → Type 0) → ℕ → List (ℕ × V) → Type 0
  AreLegal holds count turns = (parts : List V) × (length parts ≡ count) × holds parts × ((p : ℕ) (v : V) → noted p turns ≡ Some v → slice_get parts p ≡ Some v)

  -- a seat at the same table with the same share, which holds no turn
  abbrev pub SameSeat : Sitting V → Sitting V → Type 0
  SameSeat old new = (new.table ≡ old.table) × (new.share ≡ old.share) × (new.turns ≡ [])
