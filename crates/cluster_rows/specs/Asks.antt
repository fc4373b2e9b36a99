-- Of a grant: that the node asked for this state.
use Rattle.std.specs.Prelude.{ℕ, ◌≡◌, Option, None, Some}
use Rattle.cluster_laws.specs.Files.{Files, State}
use Rattle.cluster_laws.specs.Book.{at}
use Rattle.lock_laws.specs.Lock.{Node}
use Rattle.lock_laws.specs.Lock as lock
use Rattle.cluster_events.specs.Cluster.{Cluster, Sends, OfOne, Starts, Event, Mails, Events, Done, Then}

-- of one lock, per node, the state that it last asked for
abbrev pub asked_in : (l n : ℕ → Node) → Sends l n → (ℕ → Option State) → ℕ → Option State
asked_in l _ (OfOne k _ (lock.Asks s member fresh taken waits un asked) state slot same) asks = at asks k (Some s)
asked_in l _ _ asks = asks

abbrev pub asked : (F : Files) (c c' : Cluster F) → Event F c c' → (F.Lock → ℕ → Option State) → F.Lock → ℕ → Option State
asked F c _ (Mails locks h) asks = λ l. asked_in (c.locks l) (locks l) (h l) (asks l)
asked F c _ _ asks = asks

abbrev pub asks_of : (F : Files) (a c : Cluster F) → Events F a c → (F.Lock → ℕ → Option State) → F.Lock → ℕ → Option State
asks_of F a _ (Done _) asks = asks
asks_of F a c (Then _ b _ event events) asks = asks_of F b c events (asked F a b event asks)

-- a grant that is under way, and so one that is taken, is of the state that the node last asked for
abbrev pub GrantsAreAsked : Files → Type 0
GrantsAreAsked F = (a c : Cluster F) (events : Events F a c) (l : F.Lock) (i : ℕ) (s : State) → Starts F a → (c.locks l i).down ≡ Some s
    → asks_of F a c events (λ l k. None) l i ≡ Some s
