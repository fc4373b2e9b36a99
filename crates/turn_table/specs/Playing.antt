-- What each step on the table tells the seat that makes it.
use Rattle.std.specs.Prelude.{◌≡◌, ◌≢◌, ℕ, ◌+◌, ◌-◌, ◌==◌, ◌^◌, List, [], ◌∷◌, ◌++◌, Option, Some, Contains, MatchBool}
use Rattle.std.specs.List.{enumerate_from}
use Rattle.atomic_table.specs.Table.{Me, Step}
use Rattle.turn_table.specs.declared.standing.Standing.{Standing}
use Rattle.turn_table.specs.Notes.{brought}
use Rattle.turn_table.specs.Sitting.{AreLegal}

abbrev pub Sat : Type 0 → Type 0
Sat V = Me (Option V) (Standing V)

module _ {V : Type 0} where
  abbrev pub standing : ℕ → List (ℕ × V) → List (ℕ × V) → Standing V
  standing share seen turns = record { share = share; seen = seen; turns = turns }

  -- the first seat: it has the whole share, and has seen the parts
  abbrev pub founder : List V → Standing V
  founder parts = standing (2 ^ 32) (enumerate_from 0 parts) []

  -- the turn of p is held, the value v is declared and was seen
  abbrev pub entered : ℕ → V → Standing V → Standing V
  entered p v w = standing w.share ((p, v) ∷ w.seen) ((p, v) ∷ w.turns)

  -- the turn and the slot of p are taken, with the value v in the slot. It has grown from all that was seen of it, and is legal beside the values of the turns that the seat held
  abbrev pub Took : (List V → Type 0) → (V → V → Type 0) → ℕ → ℕ → V → Sat V → Sat V → Type 0
  Took holds grows count p v m n = (n ≡ (entered p v m.0, (p, Some v) ∷ m.1)) × ((x : V) → Contains m.0.seen (p, x) → grows x v) × AreLegal holds count ((p, v) ∷ m.0.turns)

  -- a turn that was free is taken, and nothing changes where it was taken
  abbrev pub Takes : (List V → Type 0) → (V → V → Type 0) → Step (Option V) → Sat V → ℕ → Sat V → Type 0
  Takes holds grows s m found n = MatchBool (found == 0) ((v : V) × Took holds grows s.slots s.word v m n) (n ≡ m)

  -- the slot comes to the front of those that the seat has, and its turn to the front of the turns
  abbrev pub Brings : Step (Option V) → Sat V → ℕ → Sat V → Type 0
  Brings s m found n = n ≡ (standing m.0.share m.0.seen (brought s.word m.0.turns), brought s.word m.1)

  -- the turn at the front is dropped, and the value y that was put back is noted as seen
  abbrev pub left : ℕ → V → List (ℕ × V) → Standing V → Standing V
  left p y turns w = standing w.share ((p, y) ∷ w.seen) turns

  -- the slot in front is given back with its value, and so is its turn
  abbrev pub Gave : Sat V → Sat V → Type 0
  Gave m n = (p : ℕ) (v y : V) (turns : List (ℕ × V)) (more : List (ℕ × Option V)) → m.0.turns ≡ (p, v) ∷ turns → m.1 ≡ (p, Some y) ∷ more → n ≡ (left p y turns m.0, more)

  -- the same, and of the turn behind it the value in its slot is declared from now on
  abbrev pub GaveSecond : Sat V → Sat V → Type 0
  GaveSecond m n = (p q : ℕ) (v w y x : V) (turns : List (ℕ × V)) (more : List (ℕ × Option V))
      → m.0.turns ≡ (p, v) ∷ (q, w) ∷ turns → m.1 ≡ (p, Some y) ∷ (q, Some x) ∷ more → n ≡ (left p y ((q, x) ∷ turns) m.0, (q, Some x) ∷ more)

  abbrev pub Gives : Step (Option V) → Sat V → ℕ → Sat V → Type 0
  Gives s m found n = Gave m n

  abbrev pub GivesSecond : Step (Option V) → Sat V → ℕ → Sat V → Type 0
  GivesSecond s m found n = GaveSecond m n

  -- the front slot may be given back: its turn is in front too, and the change of its value is allowed alone
  abbrev pub MayGive : (V → V → Type 0) → ℕ → Sat V → Type 0
  MayGive alone p m = (v y : V) × (turns : List (ℕ × V)) × (more : List (ℕ × Option V)) × (m.0.turns ≡ (p, v) ∷ turns) × (m.1 ≡ (p, Some y) ∷ more) × alone v y

  -- the front slot may be given back together with a change of the slot behind it: the two changes are allowed paired
  abbrev pub MayGiveSecond : (V → V → V → V → Type 0) → ℕ → Sat V → Type 0
  MayGiveSecond paired p m = (q : ℕ) × (v w y x : V) × (turns : List (ℕ × V)) × (more : List (ℕ × Option V)) × (q ≢ p) × (m.0.turns ≡ (p, v) ∷ (q, w) ∷ turns) × (m.1 ≡ (p, Some y) ∷ (q, Some x) ∷ more) × paired w v x y

  -- a seat is split: its share falls by one, and the new seat has share 1 and has seen the same
  abbrev pub parting : Standing V → Standing V
  parting w = standing (w.share - 1) w.seen w.turns

  abbrev pub newcomer : Standing V → Standing V
  newcomer w = standing 1 w.seen []

  -- a seat takes in another: it has the shares and has seen what either saw. The other is spent
  abbrev pub joined : Standing V → Standing V → Standing V
  joined w u = standing (w.share + u.share) (w.seen ++ u.seen) w.turns

  abbrev pub spent : Standing V
  spent = standing 0 [] []
