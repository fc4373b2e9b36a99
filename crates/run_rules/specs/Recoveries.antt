-- How items tell that slots are recovered, and of the losses with this.
use Rattle.std.specs.Prelude.{ℕ, zero, suc, ◌==◌, ◌&&◌, ◌||◌, not, Bool, true, false, if◌then◌else◌, List, [], ◌∷◌}
use Rattle.trace_text.specs.declared.item.TraceItem.{TraceItem}
use Rattle.trace_text.specs.declared.item.TraceItem.TheVariants as trace

-- Where the items are: behind the item that a node's slot is recovered, and losses of this node alone; behind other losses, which only come at a run's end; or elsewhere.
pub data Place : Type 0 where
  Recovering : ℕ → Place
  Ending : Place
  Elsewhere : Place

-- What the items so far say: who is a member, and whose slot waits: from its crash or withdraw, or from the start where its journal is dirty, to the item that it is recovered.
pub record Slots : Type 0 where
  pub members : ℕ → Bool
  pub waits : ℕ → Bool
  pub place : Place

abbrev pub is_recovering : ℕ → Place → Bool
is_recovering node (Recovering i) = i == node
is_recovering node _ = false

abbrev pub is_ending : Place → Bool
is_ending Ending = true
is_ending _ = false

-- what was said of each node, but for this one
abbrev pub set : (ℕ → Bool) → ℕ → Bool → ℕ → Bool
set f i b node = if node == i then b else f node

abbrev pub after_item : Slots → TraceItem → Slots
after_item s (trace.Join i) = record { members = set s.members i true; waits = s.waits; place = Elsewhere }
after_item s (trace.Crash i) = record { members = set s.members i false; waits = set s.waits i true; place = Elsewhere }
after_item s (trace.Withdraw i before now) = record { members = set s.members i false; waits = set s.waits i true; place = Elsewhere }
after_item s (trace.Recovered i r) = record { members = s.members; waits = set s.waits i false; place = Recovering i }
after_item s (trace.Lost i kept) = record { members = s.members; waits = s.waits; place = if is_recovering i s.place then s.place else Ending }
after_item s _ = record { members = s.members; waits = s.waits; place = Elsewhere }

abbrev pub slots_after : Slots → List TraceItem → Slots
slots_after s [] = s
slots_after s (x ∷ xs) = slots_after (after_item s x) xs

abbrev pub none_below : (ℕ → Bool) → ℕ → Bool
none_below members zero = true
none_below members (suc n) = not (members n) && none_below members n

-- A slot that waits is recovered, by the least member. A loss comes directly behind this, or while the slot waits, at the run's end: then only losses come.
abbrev pub may_come : Slots → TraceItem → Bool
may_come s (trace.Recovered i r) = not (is_ending s.place) && (s.waits i && (s.members r && none_below s.members r))
may_come s (trace.Lost i kept) = is_recovering i s.place || s.waits i
may_come s _ = not (is_ending s.place)

-- Each recovery is told by one item, and a loss comes directly behind its node's, or at the run's end. That each life has its loss isn't said here.
abbrev pub recoveries_are_told : Slots → List TraceItem → Bool
recoveries_are_told s [] = true
recoveries_are_told s (x ∷ xs) = may_come s x && recoveries_are_told (after_item s x) xs

-- nobody is a member, and these slots wait
abbrev pub at_start : (ℕ → Bool) → Slots
at_start dirty = record { members = λ node. false; waits = dirty; place = Elsewhere }
