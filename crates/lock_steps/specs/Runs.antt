-- Lists of steps of a lock.
use Rattle.std.specs.Prelude.{ℕ, ◌≡◌, Bool, true, Some}
use Rattle.lock_laws.specs.Lock.{State, Node, Step, starting, leq, eff, Compatible}

-- the lock after a list of steps, whatever they are and in whatever order
pub data Steps (l : ℕ → Node) : (ℕ → Node) → Type 0 where
  Stays : Steps l l
  AndThen : (m n : ℕ → Node) → Steps l m → Step m n → Steps l n

-- over every list of steps from the start held states go together, those of stopped nodes until they are recovered among them
abbrev pub EveryRunIsCompatible : Type 0
EveryRunIsCompatible = (runs waits : ℕ → Bool) (l : ℕ → Node) → Steps (λ k. starting (runs k) (waits k)) l → Compatible l

-- the master's table is at least what the node's present life holds, and at least what is granted to it and on its way
pub record IsCovered (n : Node) : Type 0 where
  pub held : leq (eff n) (n.table) ≡ true
  pub granted : (s : State) → n.down ≡ Some s → leq s (n.table) ≡ true

-- over every list of steps from the start a node is covered once its reports have ended
abbrev pub EveryTableCovers : Type 0
EveryTableCovers = (runs waits : ℕ → Bool) (l : ℕ → Node) (k : ℕ) → Steps (λ i. starting (runs i) (waits i)) l
    → (l k).taken ≡ true → (l k).heard ≡ true → IsCovered (l k)
