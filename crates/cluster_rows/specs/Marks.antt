-- Which head a loss's number is that of; and that a run passes each front of its items.
use Rattle.std.specs.Prelude.{ℕ, suc, ◌≡◌, ◌≤◌, ◌⊎◌, Bool, true, if◌then◌else◌, List, [], ◌∷◌, ◌++◌, length, take}
use Rattle.cluster_laws.specs.Files.{Files}
use Rattle.cluster_laws.specs.Book.{at}
use Rattle.cluster_laws.specs.History.{Gone}
use Rattle.cluster_laws.specs.World.{World, Run}
use Rattle.cluster_laws.specs.World as world
use Rattle.cluster_events.specs.Cluster.{Cluster, BookOf, acts, Starts, Event, Works, Stops, Joins, Events, Done, Then}

-- Of each node the numbers of its present life: those of the headers that its journal began, the newest first, and last the base, the number of the node's last call
-- before this life. And the same of its lives that have ended and have no loss yet, the earliest first.
pub record Marks : Type 0 where
  pub now : ℕ → List ℕ
  pub ended : ℕ → List (List ℕ)

abbrev pub rest_of : List (List ℕ) → List (List ℕ)
rest_of [] = []
rest_of (ms ∷ mss) = mss

-- a replay's clean header is none of the life
abbrev pub marked : (F : Files) (c c' : Cluster F) → Event F c c' → Marks → Marks
marked F c _ (Works _ (world.Begins i h single heads) may) m = record m { now = at (m.now) i (if c.waits i then m.now i else (h.cut ∷ m.now i)) }
marked F c _ (Works _ (world.Loses i k all above below calm next none single) may) m = record m { ended = at (m.ended) i (rest_of (m.ended i)) }
marked F c _ (Stops i here runs all) m = record m { ended = at (m.ended) i (m.ended i ++ (m.now i ∷ [])) }
marked F c _ (Joins i here out fenced waits) m = record m { now = at (m.now) i ((BookOf F c).answered i ∷ []) }
marked F c _ _ m = m

abbrev pub marks_of : (F : Files) (a c : Cluster F) → Events F a c → Marks → Marks
marks_of F a _ (Done _) m = m
marks_of F a c (Then _ b _ event events) m = marks_of F b c events (marked F a b event m)

abbrev pub starting_marks : Marks
starting_marks = record { now = λ i. 0 ∷ []; ended = λ i. [] }

abbrev pub IsOneOf : ℕ → List ℕ → Type 0
IsOneOf n [] = ⊥
IsOneOf n (m ∷ ms) = (n ≡ m) ⊎ IsOneOf n ms

abbrev pub IsOneOfFirst : ℕ → List (List ℕ) → Type 0
IsOneOfFirst n [] = ⊥
IsOneOfFirst n (ms ∷ mss) = IsOneOf n ms

-- of a member whose slot doesn't wait, each head's number is that of a header of this life, or the base
abbrev pub HeadsAreMarked : Files → Type 0
HeadsAreMarked F = (a c : Cluster F) (events : Events F a c) (i : ℕ) (d : Bool) → Starts F a → acts F c i ≡ true
    → IsOneOf ((((c.world).disk).heads i d).cut) ((marks_of F a c events starting_marks).now i)

-- and of one that has a life that ended and has no loss yet, that of a header of its earliest such life, or the base of that life: so is what stands for it at a stop
-- of everything
abbrev pub EndedHeadsAreMarked : Files → Type 0
EndedHeadsAreMarked F = (a c : Cluster F) (events : Events F a c) (i m : ℕ) (d : Bool) → Starts F a → c.unlost i ≡ suc m
    → IsOneOfFirst ((((c.world).disk).heads i d).cut) ((marks_of F a c events starting_marks).ended i)

-- Whichever event adds a loss: it is that of the node's earliest life that has ended and has none; its number is that of the accepted head, and this is a header of
-- that life, or its base.
abbrev pub LossesAreMarked : Files → Type 0
LossesAreMarked F = (a b c : Cluster F) (events : Events F a b) (event : Event F b c) (i upto k : ℕ) → Starts F a
    → (c.world).items ≡ (b.world).items ++ (Gone i upto k ∷ [])
    → (upto ≡ (BookOf F b).low i) × IsOneOfFirst upto ((marks_of F a b events starting_marks).ended i)

-- ---- a front of the items

-- each step adds at most one item, so what holds after every step holds at every front of the items
pub record Passes (F : Files) (u w : World F) (n : ℕ) : Type 0 where
  pub between : World F
  pub before : Run F u between
  pub after : Run F between w
  pub items : between.items ≡ take n (w.items)

abbrev pub EveryFrontIsPassed : Files → Type 0
EveryFrontIsPassed F = (u w : World F) (n : ℕ) → Run F u w → length (u.items) ≤ n → n ≤ length (w.items) → Passes F u w n
