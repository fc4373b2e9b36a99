-- The lives of a node in a trace, and which of its calls the journal of a stopped one has: the number that the accepted head says, told by the items.
use Rattle.std.specs.Prelude.{ℕ, suc, ◌≡◌, ◌+◌, ◌-◌, ◌==◌, ◌&&◌, nat_lt, Bool, true, false, if◌then◌else◌, Option, None, Some, List, [], ◌∷◌, ◌++◌, take, drop, slice_get}
use Rattle.cluster_history.specs.declared.Item.{Item}
use Rattle.cluster_history.specs.declared.Item.TheVariants as item
use Rattle.cluster_history.specs.Losses.{LossIsRight}
use Rattle.trace_text.specs.declared.item.TraceItem.{TraceItem}
use Rattle.trace_text.specs.declared.item.TraceItem.TheVariants as trace
use Rattle.script_lang.specs.declared.script.Client.{Client}
use Rattle.run_rules.specs.Follows.{history_of}

-- a life of a node begins with this join
pub record Life : Type 0 where
  pub node : ℕ
  pub join : ℕ

-- the accepted head of a node's journal, as a disk has it
pub record AcceptedHead : Type 0 where
  pub block : ℕ
  pub sequence : ℕ
  pub is_clean : Bool

-- What disks say of a trace: each node's accepted head on the run's disk behind so many items, and on the disk that is asked of, an outcome there. What is said below
-- of heads and losses is nothing without a tie to these disks; whoever cites it gives that.
pub record DiskHeads : Type 0 where
  pub behind : ℕ → ℕ → AcceptedHead
  pub now : ℕ → AcceptedHead

-- the number of the node's last call in these items, where that before them was this
abbrev pub last_number : ℕ → ℕ → List TraceItem → ℕ
last_number node now [] = now
last_number node now (trace.Call i name number call reply ∷ is) = last_number node (if i == node then number else now) is
last_number node now (_ ∷ is) = last_number node now is

-- up to the node's next crash or withdraw
abbrev pub to_its_end : ℕ → List TraceItem → List TraceItem
to_its_end node [] = []
to_its_end node (trace.Crash i ∷ is) = if i == node then [] else trace.Crash i ∷ to_its_end node is
to_its_end node (trace.Withdraw i before after ∷ is) = if i == node then [] else trace.Withdraw i before after ∷ to_its_end node is
to_its_end node (x ∷ is) = x ∷ to_its_end node is

-- the items of the life, behind its join
abbrev pub items_of : Life → List TraceItem → List TraceItem
items_of life items = to_its_end life.node (drop (life.join + 1) items)

-- the number of the node's last call before this life
abbrev pub base_of : Life → List TraceItem → ℕ
base_of life items = last_number life.node 0 (take life.join items)

-- ---- the head that a life left

-- how many items stand up to and with the node's next fence, where so many stood before these
abbrev pub fenced_behind : ℕ → ℕ → List TraceItem → Option ℕ
fenced_behind node p [] = None
fenced_behind node p (trace.Fence i ∷ is) = if i == node then Some (suc p) else fenced_behind node (suc p) is
fenced_behind node p (_ ∷ is) = fenced_behind node (suc p) is

abbrev pub head_behind : Option ℕ → DiskHeads → ℕ → AcceptedHead
head_behind (Some p) disks node = disks.behind node p
head_behind None disks node = disks.now node

-- on the disk right after the fence that ended the life, or, where no such fence stands, on the disk that is asked of
abbrev pub head_of : DiskHeads → Life → List TraceItem → AcceptedHead
head_of disks life items = head_behind (fenced_behind life.node (life.join + 1) (drop (life.join + 1) items)) disks life.node

-- how many items stand up to and with the first `recovered` of the node, where so many stood before these
abbrev pub recovered_behind : ℕ → ℕ → List TraceItem → Option ℕ
recovered_behind node p [] = None
recovered_behind node p (trace.Recovered i r ∷ is) = if i == node then Some (suc p) else recovered_behind node (suc p) is
recovered_behind node p (_ ∷ is) = recovered_behind node (suc p) is

abbrev pub or_else : Option ℕ → ℕ → ℕ
or_else (Some p) join = p
or_else None join = join

-- From where on headers are the life's own: behind the recovery of its slot, where that is in the life, and else at its join. Until then a header of the node's journal
-- is one of an earlier life, or of a replay.
abbrev pub own_from : Life → List TraceItem → ℕ
own_from life items = or_else (recovered_behind life.node (life.join + 1) (items_of life items)) life.join

-- the head was written in this life, by the node's own journal: its sequence is above that of the head which the disk had then
abbrev pub is_own : AcceptedHead → DiskHeads → Life → List TraceItem → Bool
is_own h disks life items = nat_lt (disks.behind life.node (own_from life items)).sequence h.sequence

-- ---- the first case: an item tells it

-- what the life's item says that wrote this head
abbrev pub named : ℕ → AcceptedHead → List TraceItem → Option ℕ
named node h [] = None
named node h (trace.WriteHead i block sequence upto ∷ is) = if (i == node) && ((block == h.block) && (sequence == h.sequence)) then Some upto else named node h is
named node h (trace.WriteClean i block sequence upto ∷ is) = if (i == node) && ((block == h.block) && (sequence == h.sequence)) then Some upto else named node h is
named node h (_ ∷ is) = named node h is

-- ---- the second: a head of this life without an item, that isn't clean. It was written as the last operation before a withdraw, or at the end of a run

-- what such a head has: what the last head had, or, from the first write to the log behind that on, all calls before this write
pub record Unnamed : Type 0 where
  pub upto : ℕ
  pub is_logged : Bool
  pub last : ℕ

abbrev pub unnamed : ℕ → Unnamed → List TraceItem → ℕ
unnamed node s [] = s.upto
unnamed node s (trace.Call i name number call reply ∷ is) = unnamed node (if i == node then record s { last = number } else s) is
unnamed node s (trace.WriteHead i block sequence upto ∷ is) = unnamed node (if i == node then record s { upto = upto; is_logged = false } else s) is
unnamed node s (trace.WriteLog i block ∷ is) =
    unnamed node (if i == node then (if s.is_logged then s else record s { upto = s.last; is_logged = true }) else s) is
unnamed node s (_ ∷ is) = unnamed node s is

-- ---- the number

abbrev pub upto_by : Option ℕ → AcceptedHead → DiskHeads → Life → List TraceItem → ℕ
upto_by (Some upto) h disks life items = upto
upto_by None h disks life items =
    if is_own h disks life items then (if h.is_clean then last_number life.node 0 items
    else unnamed life.node (record { upto = base_of life items; is_logged = false; last = base_of life items }) (items_of life items))
    else base_of life items

-- the number of the last call that the head has which the life left: what its item says; without an item what went before it; and the base where no head of this
-- life is accepted
abbrev pub upto_of : DiskHeads → Life → List TraceItem → ℕ
upto_of disks life items = upto_by (named life.node (head_of disks life items) (items_of life items)) (head_of disks life items) disks life items

-- ---- lives and their losses

abbrev pub lives_from : ℕ → List TraceItem → List Life
lives_from p [] = []
lives_from p (trace.Join i ∷ is) = record { node = i; join = p } ∷ lives_from (suc p) is
lives_from p (_ ∷ is) = lives_from (suc p) is

-- all lives, by their joins
abbrev pub lives_of : List TraceItem → List Life
lives_of items = lives_from 0 items

abbrev pub losses_of : ℕ → List TraceItem → ℕ
losses_of node [] = 0
losses_of node (trace.Lost i kept ∷ is) = (if i == node then 1 else 0) + losses_of node is
losses_of node (_ ∷ is) = losses_of node is

-- the node's life of this number among its lives
abbrev pub life_at : ℕ → ℕ → List Life → Option Life
life_at node n [] = None
life_at node n (l ∷ ls) = if l.node == node then (if n == 0 then Some l else life_at node (n - 1) ls) else life_at node n ls

-- the life that a loss is for: its node's earliest that has none
abbrev pub life_lost : ℕ → List TraceItem → Option Life
life_lost node before = life_at node (losses_of node before) (lives_of before)

-- each loss is that of a life, and keeps what the head had that this life left, and, beyond that, calls that change nothing
abbrev pub TraceKeptRight : List Client → (ℕ → ℕ → AcceptedHead) → List TraceItem → Type 0
TraceKeptRight clients behind items = (p node kept : ℕ) → slice_get items p ≡ Some (trace.Lost node kept)
    → (life : Life) × (life_lost node (take p items) ≡ Some life)
    × LossIsRight (history_of clients (take p items)) node (upto_of (record { behind = behind; now = λ i. behind i p }) life (take p items)) kept

-- ---- what remains of the items at a stop of everything

-- the lives that have no loss, in their order; the number of losses of each node that are still to be passed over is what its items have
abbrev pub without_loss : (ℕ → ℕ) → List Life → List Life
without_loss left [] = []
without_loss left (l ∷ ls) =
    if left l.node == 0 then l ∷ without_loss left ls else without_loss (λ i. if i == l.node then left i - 1 else left i) ls

abbrev pub losses_for : (Life → ℕ) → List Life → List Item
losses_for upto [] = []
losses_for upto (l ∷ ls) = item.Lost l.node (upto l) ∷ losses_for upto ls

-- the history of the items, with a loss for each life that has none, which keeps what its journal has
abbrev pub remains : List Client → DiskHeads → List TraceItem → List Item
remains clients disks items =
    history_of clients items ++ losses_for (λ l. upto_of disks l items) (without_loss (λ i. losses_of i items) (lives_of items))
