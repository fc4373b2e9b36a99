-- A step of the lock manager at some locks, one at each, is among the cluster's events.
use Rattle.std.specs.Prelude.{ℕ, ◌≡◌, ◌⊎◌, ⊤}
use Rattle.cluster_laws.specs.Files.{Files}
use Rattle.cluster_events.specs.Cluster.{Cluster, Receives, Weakens, Event, Stops, Views, Joins, Recovers, PastEnds, Together}
use Rattle.lock_laws.specs.Lock.{Node}
use Rattle.lock_laws.specs.Lock as lock

-- a message that is sent or heard, a view that is taken, a grant that is dropped, or one that the master gives
abbrev pub IsMail : (l n : ℕ → Node) → lock.Step l n → Type 0
IsMail l _ (lock.Moves k _ (lock.Asks s member fresh taken waits un asked)) = ⊤
IsMail l _ (lock.Moves k _ (lock.HearsReport s q up)) = ⊤
IsMail l _ (lock.Moves k _ (lock.HearsEnd q up)) = ⊤
IsMail l _ (lock.Moves k _ (lock.HearsDown s q up)) = ⊤
IsMail l _ (lock.Moves k _ (lock.HearsAsk s q up)) = ⊤
IsMail l _ (lock.Moves k _ (lock.Drops s down)) = ⊤
IsMail l _ (lock.Moves k _ (lock.TakesView member roll taken)) = ⊤
IsMail l _ (lock.Grants k s heard none wants goes) = ⊤
IsMail l _ _ = ⊥

-- node i takes a grant
abbrev pub IsTaken : ℕ → (l n : ℕ → Node) → lock.Step l n → Type 0
IsTaken i l _ (lock.Moves k _ (lock.Receives s down member fresh waits)) = k ≡ i
IsTaken i l _ _ = ⊥

-- node i's state goes down
abbrev pub IsLowered : ℕ → (l n : ℕ → Node) → lock.Step l n → Type 0
IsLowered i l _ (lock.Moves k _ (lock.Lowers s member fresh taken waits weaker held)) = (k ≡ i) × (s ≡ (l k).state → ⊥)
IsLowered i l _ _ = ⊥

-- at each lock such a step, or nothing
abbrev pub AtEach : (F : Files) → Cluster F → (F.Lock → ℕ → Node) → ((l n : ℕ → Node) → lock.Step l n → Type 0) → Type 0
AtEach F c locks Is = (l : F.Lock) → (locks l ≡ c.locks l) ⊎ ((step : lock.Step (c.locks l) (locks l)) × Is (c.locks l) (locks l) step)

-- Messages are an event as they are; grants and downs are what the events of those names ask of each lock.
pub record StepsAreOfEvents (F : Files) (c : Cluster F) (locks : F.Lock → ℕ → Node) : Type 0 where
  pub mail : AtEach F c locks IsMail → Event F c (record c { locks = locks })
  pub taken : (i : ℕ) → AtEach F c locks (IsTaken i) → (l : F.Lock) → Receives i (c.locks l) (locks l)
  pub lowered : (i : ℕ) → AtEach F c locks (IsLowered i) → (l : F.Lock) → Weakens i (c.locks l) (locks l)

abbrev pub LockStepsFit : Files → Type 0
LockStepsFit F = (c : Cluster F) (locks : F.Lock → ℕ → Node) → StepsAreOfEvents F c locks

-- ---- what is of all locks at once: a stop, a view, a join and a recovery

abbrev pub IsStop : ℕ → (l n : ℕ → Node) → lock.Step l n → Type 0
IsStop i l _ (lock.Moves k _ lock.Stops) = k ≡ i
IsStop i l _ _ = ⊥

abbrev pub IsView : (l n : ℕ → Node) → lock.Step l n → Type 0
IsView l _ lock.Changes = ⊤
IsView l _ _ = ⊥

abbrev pub IsJoin : ℕ → (l n : ℕ → Node) → lock.Step l n → Type 0
IsJoin i l _ (lock.Moves k _ (lock.Joins out)) = k ≡ i
IsJoin i l _ _ = ⊥

abbrev pub IsRecovery : ℕ → (l n : ℕ → Node) → lock.Step l n → Type 0
IsRecovery i l _ (lock.Moves k _ (lock.IsRecovered waits)) = k ≡ i
IsRecovery i l _ _ = ⊥

-- each lock makes such a step
abbrev pub EachMakes : (F : Files) (c c' : Cluster F) → ((l n : ℕ → Node) → lock.Step l n → Type 0) → Type 0
EachMakes F c c' Is = (l : F.Lock) → (step : lock.Step (c.locks l) (c'.locks l)) × Is (c.locks l) (c'.locks l) step

abbrev pub AllMake : (F : Files) (c c' : Cluster F) → Event F c c' → Type 0
AllMake F c c' (Stops i here runs all) = EachMakes F c c' (IsStop i)
AllMake F c c' Views = EachMakes F c c' IsView
AllMake F c c' (Joins i here out fenced waits) = EachMakes F c c' (IsJoin i)
AllMake F c c' (Recovers i here wait nothing_left unheaded told) = EachMakes F c c' (IsRecovery i)
AllMake F c c' (PastEnds wait nothing_left unheaded) = EachMakes F c c' (IsRecovery (c.past))
AllMake F c c' _ = ⊤

-- in each of these events each lock makes the step of that name
abbrev pub LocksMakeSteps : Files → Type 0
LocksMakeSteps F = (c c' : Cluster F) (event : Event F c c') → Together F c → AllMake F c c' event
