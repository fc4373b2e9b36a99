-- What a trace has to tell of each event of a cluster, and which items come without one.
use Rattle.std.specs.Prelude.{ℕ, suc, ◌≡◌, ◌≤◌, ◌⊎◌, ◌+◌, ⊤, Bool, true, false, ◌&&◌, not, None, Some, List, [], ◌∷◌, ◌++◌, length, take, drop, if◌then◌else◌}
use Rattle.trace_text.specs.declared.item.TraceItem.{TraceItem}
use Rattle.trace_text.specs.declared.item.TraceItem.TheVariants as trace
use Rattle.script_lang.specs.declared.script.Client.{Client}
use Rattle.run_rules.specs.Follows as run
use Rattle.run_rules.specs.Lives.{Life, AcceptedHead, recovered_behind, fenced_behind, lives_of, losses_of, life_at}
use Rattle.run_rules.specs.Recoveries.{Place, Slots, is_recovering, slots_after, recoveries_are_told, at_start}
use Rattle.cluster_laws.specs.Book.{at}
use Rattle.cluster_laws.specs.Mirror.{either}
use Rattle.cluster_laws.specs.World as world
use Rattle.cluster_events.specs.Cluster.{Cluster, Together, Event, Works, Stops, Fences, Joins, Recovers}
use Rattle.tree_histories.specs.Trees.{Images, Trees, history_of}
use Rattle.head_laws.specs.Laws.{lives_count}
use Rattle.head_laws.specs.Journals.{present, head_item, unnamed_upto, IsEnd, IsFirst, EachIsFenced, NoHeadMatters}
use Rattle.head_laws.specs.Traces.{Traced, journal_of, TracedStep, TracedSteps, Begins, MayLand}

-- what there is beside the cluster: the names of heads, who is silent, and the items
pub record Beside : Type 0 where
  pub names : ℕ → Bool → AcceptedHead
  pub silent : ℕ → Bool
  pub items : List TraceItem

abbrev pub traced_of : (I : Images) → Cluster (Trees I) → Beside → Traced I
traced_of I c b = record { cluster = c; names = b.names; silent = b.silent; items = b.items }

-- it is this now, and these items came
pub record Changed (I : Images) (t : Traced I) (u : Beside) (names : ℕ → Bool → AcceptedHead) (silent : ℕ → Bool) (more : List TraceItem) : Type 0 where
  pub named : u.names ≡ names
  pub silenced : u.silent ≡ silent
  pub said : u.items ≡ t.items ++ more

-- where the items are
abbrev pub place_of : List TraceItem → Place
place_of items = (slots_after (at_start (λ i. false)) items).place

-- who is a member, and whose slot waits and isn't being told to be recovered
abbrev pub slots_of : (I : Images) → Traced I → Slots
slots_of I t = record { members = (t.cluster).runs; waits = λ i. (t.cluster).waits i && not (is_recovering i (place_of (t.items))); place = place_of (t.items) }

-- With these items recoveries are told as they have to be; and from the item that a slot is recovered on, until it is, only its losses come.
pub record GoesOn (I : Images) (t : Traced I) (next : List TraceItem) : Type 0 where
  pub more : List TraceItem
  pub said : next ≡ t.items ++ more
  pub told : recoveries_are_told (slots_of I t) more ≡ true
  pub through : (i : ℕ) → (t.cluster).waits i ≡ true → is_recovering i (place_of (t.items)) ≡ true → is_recovering i (place_of next) ≡ true

-- the header that goes in flight for a journal behind its accepted one
abbrev pub with_name : (I : Images) → Traced I → ℕ → AcceptedHead → ℕ → Bool → AcceptedHead
with_name I t i h = at (t.names) i (either (t.names i false) h)

abbrev pub next_name : (I : Images) → Traced I → ℕ → Bool → ℕ → AcceptedHead
next_name I t i clean block = record { block = block; sequence = suc ((t.names i false).sequence); is_clean = clean }

-- a header begins
pub data BeginTold (I : Images) (t : Traced I) (u : Beside) (i cut : ℕ) : Type 0 where
  -- of a node's own journal, with its item; or without, as the last that the node writes in this life: then it has the calls that the items tell
  Own : (clean : Bool) (block : ℕ) → (t.cluster).waits i ≡ false → t.silent i ≡ false
      → Changed I t u (with_name I t i (next_name I t i clean block)) (t.silent) (head_item clean i block (suc ((t.names i false).sequence)) cut ∷ []) → BeginTold I t u i cut
  OwnLast : (clean : Bool) (block : ℕ) → (t.cluster).waits i ≡ false → t.silent i ≡ false
      → ((l : Life) → present i (journal_of I t i) (t.items) ≡ Some l → cut ≡ unnamed_upto clean i ((((t.cluster).world).book).published i) l (t.items))
      → Changed I t u (with_name I t i (next_name I t i clean block)) (at (t.silent) i true) [] → BeginTold I t u i cut
  -- of a replay, once each life of the node without a loss is fenced, as of the past, which has none
  Replay : (h : AcceptedHead) → (t.cluster).waits i ≡ true → EachIsFenced (journal_of I t i) → Changed I t u (with_name I t i h) (t.silent) [] → BeginTold I t u i cut

-- a header is on the disk or never will be: not one without an item while its node runs; with a commit, which has its numbers, it is the node's own
pub data EndTold (I : Images) (t : Traced I) (u : Beside) (i : ℕ) (d : Bool) : Type 0 where
  Settled : ((t.cluster).runs i ≡ true → t.silent i ≡ false) → Changed I t u (at (t.names) i (λ e. t.names i d)) (t.silent) [] → EndTold I t u i d
  Committed : (sequence upto : ℕ) → (t.cluster).runs i ≡ true → (t.cluster).waits i ≡ false → t.silent i ≡ false → d ≡ true
      → sequence ≡ (t.names i true).sequence → upto ≡ ((((t.cluster).world).disk).heads i true).cut
      → Changed I t u (at (t.names) i (λ e. t.names i d)) (t.silent) (trace.Commit i sequence upto ∷ []) → EndTold I t u i d

-- a call's item; it comes behind no clean header without an item
pub record CallTold (I : Images) (clients : List Client) (t : Traced I) (u : Beside) (i : ℕ) : Type 0 where
  pub name : List ℕ
  pub client : run.place_of clients name ≡ ((((t.cluster).world).book).told i (suc ((((t.cluster).world).book).published i))).client
  pub dirty : t.silent i ≡ true → (t.names i true).is_clean ≡ false
  pub changed : Changed I t u (t.names) (t.silent)
      (trace.Call i name (suc ((((t.cluster).world).book).published i)) (((((t.cluster).world).book).told i (suc ((((t.cluster).world).book).published i))).call)
      (((((t.cluster).world).book).told i (suc ((((t.cluster).world).book).published i))).reply) ∷ [])

-- what the trace has of an event; of most nothing that tells of calls, heads and lives
abbrev pub Tells : (I : Images) (clients : List Client) (behind : ℕ → ℕ → AcceptedHead) (t : Traced I) (u : Beside) (d : Cluster (Trees I)) → Event (Trees I) (t.cluster) d → Type 0
Tells I clients behind t u _ (Works _ (world.Publishes i some) may) = CallTold I clients t u i
Tells I clients behind t u _ (Works _ (world.Begins i h single heads) may) = BeginTold I t u i (h.cut)
Tells I clients behind t u _ (Works _ (world.Ends i d) may) = EndTold I t u i d
Tells I clients behind t u _ (Works _ (world.Loses i k all above below calm next none single) may) = Changed I t u (t.names) (t.silent) (trace.Lost i k ∷ [])
Tells I clients behind t u _ (Stops i here runs all) = (x : TraceItem) × IsEnd i x × Changed I t u (t.names) (at (t.silent) i false) (x ∷ [])
-- the disk right behind the fence, and at a join
Tells I clients behind t u _ (Fences i out unfenced idle) = (behind i (suc (length (t.items))) ≡ t.names i false) × Changed I t u (t.names) (t.silent) (trace.Fence i ∷ [])
Tells I clients behind t u _ (Joins i here out fenced waits) =
    (behind i (length (t.items)) ≡ t.names i false) × Changed I t u (t.names) (t.silent) (trace.Join i ∷ [])
-- the item stands that the slot is recovered, and its losses; the accepted head of its journal is clean; of a node that runs the disk is told behind this item
Tells I clients behind t u _ (Recovers i here wait nothing unheaded told) =
    (is_recovering i (place_of (t.items)) ≡ true) × ((t.names i false).is_clean ≡ true) × IsFirst i (behind i) (journal_of I t i) (t.items) × Changed I t u (t.names) (t.silent) []
Tells I clients behind t u _ _ = Changed I t u (t.names) (t.silent) []

-- an item without an event. That a slot is recovered is said while it waits, and not of the past's
abbrev pub MaySay : (I : Images) → Traced I → TraceItem → Type 0
MaySay I t (trace.WriteLog i block) = t.silent i ≡ false
MaySay I t (trace.Recovered i r) = ((t.cluster).waits i ≡ true) × (i ≡ (t.cluster).past → ⊥)
MaySay I t (trace.Join i) = ⊥
MaySay I t (trace.WriteHead i block sequence upto) = ⊥
MaySay I t (trace.WriteClean i block sequence upto) = ⊥
MaySay I t (trace.Commit i sequence upto) = ⊥
MaySay I t (trace.Call i name number call reply) = ⊥
MaySay I t (trace.Crash i) = ⊥
MaySay I t (trace.Withdraw i before after) = ⊥
MaySay I t (trace.Fence i) = ⊥
MaySay I t (trace.Lost i kept) = ⊥
MaySay I t _ = ⊤

-- a run, with all that its trace has of it
pub data Tellings (I : Images) (clients : List Client) (behind : ℕ → ℕ → AcceptedHead) (a : Traced I) : Traced I → Type 0 where
  Nothing : Tellings I clients behind a a
  AnEvent : (t : Traced I) (u : Beside) (d : Cluster (Trees I)) (event : Event (Trees I) (t.cluster) d) → Tellings I clients behind a t → Tells I clients behind t u d event
      → GoesOn I t (u.items) → Tellings I clients behind a (traced_of I d u)
  AnItem : (t : Traced I) (x : TraceItem) → Tellings I clients behind a t → MaySay I t x → GoesOn I t (t.items ++ x ∷ []) → Tellings I clients behind a (record t { items = t.items ++ x ∷ [] })
  Lands : (t : Traced I) (i : ℕ) (h : AcceptedHead) → Tellings I clients behind a t → MayLand I t i → Tellings I clients behind a (record t { names = at (t.names) i (λ d. h) })

-- So each event of the cluster, and each such item, is a step of each journal; and every run is a list of steps.
pub record TellingIsStep (I : Images) : Type 0 where
  pub event : (clients : List Client) (behind : ℕ → ℕ → AcceptedHead) (t : Traced I) (u : Beside) (d : Cluster (Trees I)) (event : Event (Trees I) (t.cluster) d) → Together (Trees I) (t.cluster)
      → run.history_of clients (t.items) ≡ history_of I (((t.cluster).world).items) → Tells I clients behind t u d event → TracedStep I clients behind t (traced_of I d u)
  pub item : (clients : List Client) (behind : ℕ → ℕ → AcceptedHead) (t : Traced I) (x : TraceItem) → run.history_of clients (t.items) ≡ history_of I (((t.cluster).world).items)
      → MaySay I t x → TracedStep I clients behind t (record t { items = t.items ++ x ∷ [] })
  pub past : (clients : List Client) (behind : ℕ → ℕ → AcceptedHead) (t : Traced I) (i : ℕ) (h : AcceptedHead) → run.history_of clients (t.items) ≡ history_of I (((t.cluster).world).items)
      → MayLand I t i → TracedStep I clients behind t (record t { names = at (t.names) i (λ d. h) })
  pub every : (clients : List Client) (behind : ℕ → ℕ → AcceptedHead) (a t : Traced I) → Begins I clients behind a → Tellings I clients behind a t → TracedSteps I clients behind a t

-- of these items the earliest life of the node that has no loss has its fence
abbrev pub HasFence : ℕ → List TraceItem → Type 0
HasFence i items = (l : Life) × (life_at i (losses_of i items) (lives_of items) ≡ Some l) × ((p : ℕ) × (fenced_behind i (l.join + 1) (drop (l.join + 1) items) ≡ Some p))

-- So, by the items alone, each recovery is told by one item of the least member, and each loss stands behind it or at the run's end. By them the members are those that run,
-- and a slot waits that does, but while its recovery is being told; one that doesn't wait doesn't by the items: its recovery was told.
pub record RecoveriesAreTold (I : Images) : Type 0 where
  pub items : (clients : List Client) (behind : ℕ → ℕ → AcceptedHead) (a t : Traced I) → Begins I clients behind a → Tellings I clients behind a t
      → recoveries_are_told (at_start ((a.cluster).waits)) (t.items) ≡ true
  pub members : (clients : List Client) (behind : ℕ → ℕ → AcceptedHead) (a t : Traced I) (i : ℕ) → Begins I clients behind a → Tellings I clients behind a t
      → (slots_after (at_start ((a.cluster).waits)) (t.items)).members i ≡ (t.cluster).runs i
  pub waits : (clients : List Client) (behind : ℕ → ℕ → AcceptedHead) (a t : Traced I) (i : ℕ) → Begins I clients behind a → Tellings I clients behind a t → (t.cluster).waits i ≡ true
      → ((slots_after (at_start ((a.cluster).waits)) (t.items)).waits i ≡ true) ⊎ (is_recovering i (place_of (t.items)) ≡ true)
  pub slots : (clients : List Client) (behind : ℕ → ℕ → AcceptedHead) (a t : Traced I) (i : ℕ) → Begins I clients behind a → Tellings I clients behind a t → (i ≡ (t.cluster).past → ⊥)
      → (t.cluster).waits i ≡ false → (slots_after (at_start ((a.cluster).waits)) (t.items)).waits i ≡ false
  -- and each life of such a node that ended has its loss
  pub losses : (clients : List Client) (behind : ℕ → ℕ → AcceptedHead) (a t : Traced I) (i : ℕ) → Begins I clients behind a → Tellings I clients behind a t → (t.cluster).waits i ≡ false
      → lives_count i (lives_of (t.items)) ≡ losses_of i (t.items) + (if (t.cluster).runs i then 1 else 0)
  -- Each loss is that of a life that has its fence before it.
  pub fenced : (clients : List Client) (behind : ℕ → ℕ → AcceptedHead) (a t : Traced I) (i kept : ℕ) (before after : List TraceItem) → Begins I clients behind a → Tellings I clients behind a t
      → t.items ≡ before ++ trace.Lost i kept ∷ after → HasFence i before

-- A slot that waited at the start waits until its recovery is told, and until then no head of its journal matters: any may come to the disk, at whatever instant.
abbrev pub StartSlotsStayOpen : Images → Type 0
StartSlotsStayOpen I = (clients : List Client) (behind : ℕ → ℕ → AcceptedHead) (a t : Traced I) (i : ℕ) → Begins I clients behind a → Tellings I clients behind a t → (i ≡ (t.cluster).past → ⊥)
    → (a.cluster).waits i ≡ true → recovered_behind i 0 (t.items) ≡ None → ((t.cluster).waits i ≡ true) × NoHeadMatters i (journal_of I t i) (t.items)

-- a front of the items is that of a run, from which this one goes on
pub record IsPassed (I : Images) (clients : List Client) (behind : ℕ → ℕ → AcceptedHead) (a t : Traced I) (n : ℕ) : Type 0 where
  pub between : Traced I
  pub before : Tellings I clients behind a between
  pub after : Tellings I clients behind between t
  pub items : between.items ≡ take n (t.items)

-- So what holds of every run with its trace holds at each front of the items behind the first joins.
abbrev pub FrontsArePassed : Images → Type 0
FrontsArePassed I = (clients : List Client) (behind : ℕ → ℕ → AcceptedHead) (a t : Traced I) (n : ℕ) → Begins I clients behind a → Tellings I clients behind a t
    → length (a.items) ≤ n → n ≤ length (t.items) → IsPassed I clients behind a t n
