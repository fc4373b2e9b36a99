-- One lock, its master in the present view, and the nodes. Messages of older views are dropped where they come, so they aren't here.
use Rattle.std.specs.Prelude.{ℕ, ◌≡◌, ◌⊎◌, ⊤, Bool, true, false, ◌==◌, if◌then◌else◌, Option, None, Some, List, [], ◌∷◌, ◌++◌}
pub use Rattle.glock_names.specs.declared.State.{State}
pub use Rattle.glock_names.specs.declared.State.TheVariants.{Un, Sh, Df, Ex}
pub use Rattle.glock_names.specs.StateOrder.{leq}

-- whether both may be held at once
abbrev pub goes : State → State → Bool
goes Un b = true
goes a Un = true
goes Sh Sh = true
goes Df Df = true
goes _ _ = false

-- from a node to the master
pub data Message : Type 0 where
  Report : State → Message
  End : Message
  Lowered : State → Message
  Asked : State → Message

-- a node, and what the present master has of it
pub record Node : Type 0 where
  -- joined and not stopped
  pub member : Bool
  -- joined by a join line since the last view: it takes no message, asks for nothing
  pub fresh : Bool
  -- its slot waits for replay
  pub waits : Bool
  -- of the members of the present view
  pub roll : Bool
  -- has taken the present view
  pub taken : Bool
  -- what its last grant or down says; of a stopped node until its slot is recovered
  pub state : State
  -- an ask of it stands without grant
  pub asked : Bool
  -- the master's: what the node holds at most, whether its reports have ended, what it waits for
  pub table : State
  pub heard : Bool
  pub wants : Option State
  -- under way to the master, in order, and a grant under way from it
  pub up : List Message
  pub down : Option State

-- what the node's present life holds
abbrev pub eff : Node → State
eff n = if n.waits then Un else n.state

-- ---- lists of messages

abbrev pub has_report : List Message → Bool
has_report [] = false
has_report (Report s ∷ q) = true
has_report (End ∷ q) = has_report q
has_report (Lowered s ∷ q) = has_report q
has_report (Asked s ∷ q) = has_report q

abbrev pub has_down : List Message → Bool
has_down [] = false
has_down (Lowered s ∷ q) = true
has_down (End ∷ q) = has_down q
has_down (Report s ∷ q) = has_down q
has_down (Asked s ∷ q) = has_down q

abbrev pub has_ask : List Message → Bool
has_ask [] = false
has_ask (Asked s ∷ q) = true
has_ask (End ∷ q) = has_ask q
has_ask (Report s ∷ q) = has_ask q
has_ask (Lowered s ∷ q) = has_ask q

-- reports come before all else, and no down and no ask after an ask
abbrev pub InOrder : List Message → Type 0
InOrder [] = ⊤
InOrder (Report s ∷ q) = InOrder q
InOrder (End ∷ q) = (has_report q ≡ false) × InOrder q
InOrder (Lowered s ∷ q) = (has_report q ≡ false) × InOrder q
InOrder (Asked s ∷ q) = (has_report q ≡ false) × (has_down q ≡ false) × (has_ask q ≡ false) × InOrder q

-- after these messages the table, which has t now, is at least what the node holds and what is granted to it; downs only lower it
abbrev pub Ok : State → Option State → State → List Message → Type 0
Ok held granted t [] = (leq held t ≡ true) × ((s : State) → granted ≡ Some s → leq s t ≡ true)
Ok held granted t (Report s ∷ q) = Ok held granted s q
Ok held granted t (End ∷ q) = Ok held granted t q
Ok held granted t (Lowered s ∷ q) = (leq s t ≡ true) × Ok held granted s q
Ok held granted t (Asked s ∷ q) = Ok held granted t q

-- what is said of a node somewhere
abbrev pub Said : List Message → State → Type 0
Said [] a = ⊥
Said (Report s ∷ q) a = (s ≡ a) ⊎ Said q a
Said (Lowered s ∷ q) a = (s ≡ a) ⊎ Said q a
Said (End ∷ q) a = Said q a
Said (Asked s ∷ q) a = Said q a

pub data Claim (n : Node) : State → Type 0 where
  Holds : Claim n (n.state)
  Listed : Claim n (n.table)
  Granted : (a : State) → n.down ≡ Some a → Claim n a
  Sent : (a : State) → Said (n.up) a → Claim n a

-- ---- the invariant

pub record Fine (n : Node) : Type 0 where
  pub ok : n.taken ≡ true → Ok (eff n) (n.down) (n.table) (n.up)
  pub bare : n.taken ≡ false → (n.up ≡ []) × (n.down ≡ None) × (n.wants ≡ None) × (n.heard ≡ false)
  pub heard : n.heard ≡ true → has_report (n.up) ≡ false
  pub in_order : InOrder (n.up)
  pub outside : n.roll ≡ false → ((n.waits ≡ true) ⊎ (n.state ≡ Un)) × (n.taken ≡ false)
  pub member : n.member ≡ true → n.fresh ≡ false → n.roll ≡ true
  pub stopped : n.member ≡ false → (n.waits ≡ true) ⊎ (n.state ≡ Un)
  pub asking : has_ask (n.up) ≡ true → (eff n ≡ Un) × (n.down ≡ None) × (n.wants ≡ None)
  pub wanting : (s : State) → n.wants ≡ Some s → (has_down (n.up) ≡ false) × (has_ask (n.up) ≡ false) × (eff n ≡ Un) × (n.down ≡ None)
  pub granted : (s : State) → n.down ≡ Some s → (has_down (n.up) ≡ false) × (has_ask (n.up) ≡ false) × (eff n ≡ Un) × (n.wants ≡ None)
  pub idle : n.asked ≡ false → n.fresh ≡ false → (has_ask (n.up) ≡ false) × (n.wants ≡ None) × (n.down ≡ None)
  pub asked : n.asked ≡ true → eff n ≡ Un

abbrev pub Apart : Node → Node → Type 0
Apart n m = (a b : State) → Claim n a → Claim m b → goes a b ≡ true

pub record Sound (l : ℕ → Node) : Type 0 where
  pub fine : (k : ℕ) → Fine (l k)
  pub apart : (i k : ℕ) → (i ≡ k → ⊥) → Apart (l i) (l k)

-- ---- events

-- a function with one value given anew
abbrev pub at : {A : Type 0} → (ℕ → A) → ℕ → A → ℕ → A
at f j x i = if i == j then x else f i

-- those of one node alone
pub data Move (n : Node) : Node → Type 0 where
  Asks : (s : State) → n.member ≡ true → n.fresh ≡ false → n.taken ≡ true → n.waits ≡ false → n.state ≡ Un → n.asked ≡ false
      → Move n (record n { asked = true; up = n.up ++ (Asked s ∷ []) })
  -- the master takes the node's first message
  HearsReport : (s : State) (q : List Message) → n.up ≡ Report s ∷ q → Move n (record n { table = s; up = q })
  HearsEnd : (q : List Message) → n.up ≡ End ∷ q → Move n (record n { heard = true; up = q })
  HearsDown : (s : State) (q : List Message) → n.up ≡ Lowered s ∷ q → Move n (record n { table = s; up = q })
  HearsAsk : (s : State) (q : List Message) → n.up ≡ Asked s ∷ q → Move n (record n { wants = Some s; up = q })
  -- the node takes a grant, or drops it: as a fresh node, or because a slot waits
  Receives : (s : State) → n.down ≡ Some s → n.member ≡ true → n.fresh ≡ false → n.waits ≡ false → Move n (record n { state = s; asked = false; down = None })
  Drops : (s : State) → n.down ≡ Some s → Move n (record n { down = None })
  Lowers : (s : State) → n.member ≡ true → n.fresh ≡ false → n.taken ≡ true → n.waits ≡ false → leq s (n.state) ≡ true → (n.state ≡ Un → ⊥)
      → Move n (record n { state = s; up = n.up ++ (Lowered s ∷ []) })
  -- the node takes the present view, and reports
  TakesView : n.member ≡ true → n.roll ≡ true → n.taken ≡ false → Move n (record n { taken = true; asked = false; up = Report (eff n) ∷ (End ∷ []) })
  Stops : Move n (record n { member = false; waits = true })
  IsRecovered : n.waits ≡ true → Move n (record n { waits = false; state = Un })
  Joins : n.member ≡ false → Move n (record n { member = true; fresh = true; asked = false })

-- a new view
abbrev pub anew : Node → Node
anew n = record n { fresh = false; roll = n.member; taken = false; table = Un; heard = false; wants = None; up = []; down = None }

pub data Step (l : ℕ → Node) : (ℕ → Node) → Type 0 where
  Moves : (k : ℕ) (n : Node) → Move (l k) n → Step l (at l k n)
  Changes : Step l (λ k. anew (l k))
  -- the master grants what a node waits for: all members of the view have reported, no slot waits, and it goes with the table
  Grants : (k : ℕ) (s : State) → ((i : ℕ) → (l i).roll ≡ true → (l i).heard ≡ true) → ((i : ℕ) → (l i).waits ≡ false)
      → (l k).wants ≡ Some s → ((i : ℕ) → (i ≡ k → ⊥) → goes s ((l i).table) ≡ true)
      → Step l (at l k (record (l k) { table = s; wants = None; down = Some s }))

-- held states go together, those of stopped nodes until they are recovered among them
abbrev pub Compatible : (ℕ → Node) → Type 0
Compatible l = (i k : ℕ) → (i ≡ k → ⊥) → goes ((l i).state) ((l k).state) ≡ true

abbrev pub StepKeeps : Type 0
StepKeeps = (l l' : ℕ → Node) → Step l l' → Sound l → Sound l' × Compatible l'

-- at the start: every node of the run has joined and holds nothing; a slot may wait, its journal being dirty
abbrev pub starting : Bool → Bool → Node
starting runs waits = record {
  member = runs;
  fresh = false;
  waits = waits;
  roll = runs;
  taken = runs;
  state = Un;
  asked = false;
  table = Un;
  heard = runs;
  wants = None;
  up = [];
  down = None;
}

abbrev pub StartsSound : Type 0
StartsSound = (runs waits : ℕ → Bool) → Sound (λ k. starting (runs k) (waits k))

-- where one holds it exclusive no other holds it at all
abbrev pub ExAlone : Type 0
ExAlone = (l : ℕ → Node) (i k : ℕ) → Sound l → (l i).state ≡ Ex → ((l k).state ≡ Un → ⊥) → i ≡ k

-- states that come one after another, in all of which slot k waits
pub data Since (k : ℕ) (l : ℕ → Node) : (ℕ → Node) → Type 0 where
  Here : Since k l l
  Later : (m n : ℕ → Node) → Since k l m → Step m n → (n k).waits ≡ true → Since k l n

-- while a slot waits since the start, no node holds the lock and no grant is under way: the past may hold it exclusive
abbrev pub NothingHeld : Type 0
NothingHeld = (runs waits : ℕ → Bool) (k : ℕ) (l : ℕ → Node) → waits k ≡ true → Since k (λ i. starting (runs i) (waits i)) l
    → (i : ℕ) → ((l i).state ≡ Un) × ((l i).down ≡ None)
