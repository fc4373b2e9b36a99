-- A node's journal as the disk has it, the node's lives, and the items of a trace that tell of them.
use Rattle.std.specs.Prelude.{ℕ, suc, ◌≡◌, ◌≢◌, ◌⊎◌, ◌+◌, ◌-◌, ⊤, Bool, true, false, Option, None, Some, List, ◌∷◌, [], ◌++◌, length, drop}
use Rattle.file_tree.specs.declared.call.Call.{Call}
use Rattle.file_tree.specs.declared.reply.Reply.{Reply}
use Rattle.trace_text.specs.declared.item.TraceItem.{TraceItem}
use Rattle.trace_text.specs.declared.item.TraceItem.TheVariants as trace
use Rattle.run_rules.specs.Lives.{Life, AcceptedHead, items_of, base_of, own_from, unnamed, lives_of, losses_of, life_at}
use Rattle.cluster_laws.specs.Mirror.{either}

pub record Journal : Type 0 where
  -- the node has joined and not stopped; its slot waits for replay; it was fenced since its stop
  pub runs : Bool
  pub waits : Bool
  pub fenced : Bool
  -- how many of its lives have ended and have no loss yet
  pub unlost : ℕ
  -- the number of its last call
  pub last : ℕ
  -- of the accepted head (false) and of the one in flight (true), the number of the last call that it has, and its name; where none is in flight both are one
  pub cut : Bool → ℕ
  pub name : Bool → AcceptedHead
  -- who has a header for it in flight
  pub flies : Option ℕ
  -- the node's last write in this life has no item
  pub silent : Bool

-- the node's present life
abbrev pub present : ℕ → Journal → List TraceItem → Option Life
present node j items = life_at node (losses_of node items + j.unlost) (lives_of items)

-- a header's item
abbrev pub head_item : Bool → ℕ → ℕ → ℕ → ℕ → TraceItem
head_item true node block sequence upto = trace.WriteClean node block sequence upto
head_item false node block sequence upto = trace.WriteHead node block sequence upto

-- what a header of this life without an item has: a clean one all calls, another those before the first write to the log behind the last header
abbrev pub unnamed_upto : Bool → ℕ → ℕ → Life → List TraceItem → ℕ
unnamed_upto true node last life items = last
unnamed_upto false node last life items = unnamed node (record { upto = base_of life items; is_logged = false; last = base_of life items }) (items_of life items)

-- the item says nothing of the node's calls, headers and lives
abbrev pub IsOther : ℕ → TraceItem → Type 0
IsOther node (trace.Join i) = i ≢ node
IsOther node (trace.WriteLog i block) = i ≢ node
IsOther node (trace.WriteHead i block sequence upto) = i ≢ node
IsOther node (trace.WriteClean i block sequence upto) = i ≢ node
IsOther node (trace.Commit i sequence upto) = i ≢ node
IsOther node (trace.Call i name number call reply) = i ≢ node
IsOther node (trace.Crash i) = i ≢ node
IsOther node (trace.Withdraw i before after) = i ≢ node
IsOther node (trace.Fence i) = i ≢ node
IsOther node (trace.Lost i kept) = i ≢ node
IsOther node (trace.Recovered i r) = i ≢ node
IsOther node _ = ⊤

-- the item ends a life of the node
abbrev pub IsEnd : ℕ → TraceItem → Type 0
IsEnd node (trace.Crash i) = i ≡ node
IsEnd node (trace.Withdraw i before after) = i ≡ node
IsEnd node _ = ⊥

-- each life that ended and has no loss was fenced: the node was since its stop, or runs again, or there is none, as before its first join
abbrev pub EachIsFenced : Journal → Type 0
EachIsFenced j = (j.fenced ≡ true) ⊎ ((j.runs ≡ true) ⊎ (j.unlost ≡ 0))

-- neither a call nor a header of the node
abbrev pub DoesNothing : ℕ → List TraceItem → Type 0
DoesNothing node [] = ⊤
DoesNothing node (trace.Call i name number call reply ∷ is) = (i ≡ node → ⊥) × DoesNothing node is
DoesNothing node (trace.WriteHead i block sequence upto ∷ is) = (i ≡ node → ⊥) × DoesNothing node is
DoesNothing node (trace.WriteClean i block sequence upto ∷ is) = (i ≡ node → ⊥) × DoesNothing node is
DoesNothing node (x ∷ is) = DoesNothing node is

-- the node's last life that ended
abbrev pub last_ended : ℕ → Journal → List TraceItem → Option Life
last_ended node j items = life_at node (losses_of node items + j.unlost - 1) (lives_of items)

-- Which head the journal has matters to no life that ended and has no loss: each was fenced; or the last wasn't yet, but from its join on the node did nothing, as where its
-- slot waited all along.
abbrev pub NoHeadMatters : ℕ → Journal → List TraceItem → Type 0
NoHeadMatters node j items = EachIsFenced j ⊎ ((l : Life) → last_ended node j items ≡ Some l → DoesNothing node (drop l.join items))

-- where the node runs, the journal's head is the one that the disk had where the present life's own headers begin
abbrev pub IsFirst : ℕ → (ℕ → AcceptedHead) → Journal → List TraceItem → Type 0
IsFirst node behind j items = j.runs ≡ true → (l : Life) → present node j items ≡ Some l → behind (own_from l items) ≡ j.name false

-- One thing happens to the journal, or one item of the trace says something; behind so many items the accepted head of the node's journal is this on the disk.
pub data JournalEvent (node : ℕ) (behind : ℕ → AcceptedHead) (j : Journal) (items : List TraceItem) : Journal → List TraceItem → Type 0 where
  -- an item of something else; a write to the log; that the slot is recovered
  Says : (x : TraceItem) → IsOther node x → JournalEvent node behind j items j (items ++ x ∷ [])
  WritesLog : (block : ℕ) → j.silent ≡ false → JournalEvent node behind j items j (items ++ trace.WriteLog node block ∷ [])
  SaysRecovered : (r : ℕ) → j.waits ≡ true → JournalEvent node behind j items j (items ++ trace.Recovered node r ∷ [])
  -- a call is answered, and not behind a clean header
  Answers : (name : List ℕ) (number : ℕ) (call : Call) (reply : Reply) → j.runs ≡ true → j.waits ≡ false → (j.silent ≡ true → (j.name true).is_clean ≡ false)
      → JournalEvent node behind j items (record j { last = number }) (items ++ trace.Call node name number call reply ∷ [])
  -- the node begins a header, with its item, or as the last that it does in this life
  Begins : (clean : Bool) (block upto : ℕ) → j.runs ≡ true → j.waits ≡ false → j.silent ≡ false → j.flies ≡ None
      → JournalEvent node behind j items (record j {
        cut = either (j.cut false) upto;
        name = either (j.name false) (record { block = block; sequence = suc (j.name false).sequence; is_clean = clean });
        flies = Some node;
      }) (items ++ head_item clean node block (suc (j.name false).sequence) upto ∷ [])
  BeginsLast : (clean : Bool) (block upto : ℕ) → j.runs ≡ true → j.waits ≡ false → j.silent ≡ false → j.flies ≡ None
      → ((l : Life) → present node j items ≡ Some l → upto ≡ unnamed_upto clean node j.last l items)
      → JournalEvent node behind j items (record j {
        cut = either (j.cut false) upto;
        name = either (j.name false) (record { block = block; sequence = suc (j.name false).sequence; is_clean = clean });
        flies = Some node;
        silent = true;
      }) items
  -- a header of a replay, by whomever, with an item or without, once each life without a loss is fenced
  Replays : (r : ℕ) (h : AcceptedHead) → j.waits ≡ true → EachIsFenced j → j.flies ≡ None
      → JournalEvent node behind j items (record j { cut = either (j.cut false) (j.cut false); name = either (j.name false) h; flies = Some r }) items
  -- where the slot waits since the start: such a header of the ring that speaks for the past comes to the disk, at the latest by the fence
  ReplaysPast : (h : AcceptedHead) → j.waits ≡ true → NoHeadMatters node j items → j.flies ≡ None → JournalEvent node behind j items (record j { name = λ d. h }) items
  -- a header is on the disk, or never will be; a commit says the first of the node's own, with that header's numbers
  Ends : (d : Bool) → (j.runs ≡ true → (j.silent ≡ false) × (j.waits ≡ false → d ≡ true))
      → JournalEvent node behind j items (record j { cut = λ e. j.cut d; name = λ e. j.name d; flies = None }) items
  Commits : (sequence upto : ℕ) → j.runs ≡ true → j.waits ≡ false → j.silent ≡ false → j.flies ≡ Some node
      → sequence ≡ (j.name true).sequence → upto ≡ j.cut true
      → JournalEvent node behind j items (record j { cut = λ e. j.cut true; name = λ e. j.name true; flies = None }) (items ++ trace.Commit node sequence upto ∷ [])
  -- the node stops, and is fenced
  Stops : (x : TraceItem) → IsEnd node x → j.runs ≡ true
      → JournalEvent node behind j items (record j { runs = false; waits = true; fenced = false; unlost = suc j.unlost; silent = false }) (items ++ x ∷ [])
  IsFenced : j.runs ≡ false → j.fenced ≡ false → (j.flies ≡ Some node → ⊥) → behind (suc (length items)) ≡ j.name false
      → JournalEvent node behind j items (record j { fenced = true }) (items ++ trace.Fence node ∷ [])
  -- it joins. A header of its journal may be in flight, while its slot waits
  Joins : j.runs ≡ false → (j.fenced ≡ true) ⊎ (j.unlost ≡ 0) → (j.flies ≡ None) ⊎ (j.waits ≡ true) → behind (length items) ≡ j.name false
      → JournalEvent node behind j items (record j { runs = true; fenced = false }) (items ++ trace.Join node ∷ [])
  -- a life that ended is lost; the journal counts as having all calls that are left. With the last of them the slot is recovered
  Loses : (m kept : ℕ) → j.waits ≡ true → j.unlost ≡ suc m → (j.runs ≡ true) ⊎ (j.fenced ≡ true)
      → JournalEvent node behind j items (record j { unlost = m; cut = λ d. j.last }) (items ++ trace.Lost node kept ∷ [])
  IsRecovered : j.waits ≡ true → j.unlost ≡ 0 → j.flies ≡ None → IsFirst node behind j items → JournalEvent node behind j items (record j { waits = false }) items

pub data JournalEvents (node : ℕ) (behind : ℕ → AcceptedHead) (j : Journal) (items : List TraceItem) : Journal → List TraceItem → Type 0 where
  Done : JournalEvents node behind j items j items
  Then : (k l : Journal) (more most : List TraceItem) → JournalEvents node behind j items k more → JournalEvent node behind k more l most → JournalEvents node behind j items l most

-- before the first join: the node has answered nothing, and its journal has one head
pub record IsNew (j : Journal) : Type 0 where
  pub runs : j.runs ≡ false
  pub unlost : j.unlost ≡ 0
  pub last : j.last ≡ 0
  pub cut : (d : Bool) → j.cut d ≡ 0
  pub name : j.name true ≡ j.name false
  pub flies : j.flies ≡ None
  pub silent : j.silent ≡ false
