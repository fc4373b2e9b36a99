-- The change of a call in the log, or no room for it.
use Rattle.std.proofs.Common.{◌≡◌, ◌<◌, ◌≤◌, ℕ, Bool, true, false, List, Option, Ok, Err, sym, subst, ◌∙◌, true≢false, arith}
use Rattle.std.specs.Prelude.{IfErr, Result}
use Rattle.std.specs.List.{All}
use Rattle.drafts.specs.declared.change.Change.{Change}
use Rattle.drafts.specs.declared.change.Written.{Written}
use Rattle.log_values.specs.Changes.{Suffices, with_change}
use Rattle.log_values.specs.Flushing.{IsDue, NothingIsLive}
use Rattle.log_values.proofs.Landing.{none_in}
use Rattle.shared_disk.specs.Disk.{DiskState, Operation}
use Rattle.trace_text.specs.declared.item.TraceItem.{TraceItem}
use Rattle.logged_node.specs.declared.ends.Stop.{Stop}
use Rattle.logged_node.specs.declared.node.Node.{Node}
use Rattle.logged_node.specs.Nodes.{IsResting, StopsBehind}
use Rattle.logged_node.specs.Rooms.{HasBroughtIn, IsCounted}
use Rattle.logged_calls.specs.Adding.{HasAdded, HasNoPlace}
use Rattle.logged_calls.specs.Calls.{HasMoved, IsReady}
use Rattle.logged_calls.proofs.Moved.{brought_moved, moved_on, stops_moved}

pub ok_is : {a b : Bool} → ◌≡◌ {A = Result Bool Stop} (Ok a) (Ok b) → a ≡ b
ok_is is = cc

module _ (d e : DiskState) (l k : Option (List Operation)) (n m o : Node) (c : Change) (taken : Bool) where
  pub added_by : (most : ℕ) → HasMoved most d l n e k m → All (λ (w : Written). w.block < e.count) c.blocks.items → taken ≡ true → (taken ≡ true → o ≡ record m { log = with_change m.log c }) → (taken ≡ true → Suffices (with_change m.log c))
      → (IsResting e m → All (λ (w : Written). w.block < e.count) c.blocks.items → IsResting e o) → HasAdded most c d l n e k o
  added_by most moved low is node fits rests = record { roomy = m; moved = moved; fits = fits is; node = node is; resting = rests moved.ready.resting low }

  pub no_place_by : (most : ℕ) → HasMoved most d l n e k m → (IsDue m.log → ⊥) → NothingIsLive m.log → taken ≡ false → (taken ≡ false → o ≡ m) → (Suffices (with_change m.log c) → taken ≡ true) → HasNoPlace most c d l n e k o
  no_place_by most moved none empty is kept takes = subst (λ (x : Node). HasNoPlace most c d l n e k x) (sym (kept is)) (record {
    moved = moved;
    crowded = record {
      crowded = λ fits. true≢false (sym (takes fits) ∙ is);
      rest = record { flushed = none; idle = moved.ready.resting.idle; home = λ b x at. absurd (none_in m.log.live b x empty at) };
      empty = empty;
    };
  })

-- on the same disk all is within it still
pub low_still : (d e : DiskState) (c : Change) → e.count ≡ d.count → All (λ (w : Written). w.block < d.count) c.blocks.items → All (λ (w : Written). w.block < e.count) c.blocks.items
low_still d e c same low = subst (λ (count : ℕ). All (λ (w : Written). w.block < count) c.blocks.items) (sym same) low

pub added_behind : (d e : DiskState) (l k : Option (List Operation)) (n m o : Node) (c : Change) → HasMoved 1 d l n e k m → All (λ (w : Written). w.block < d.count) c.blocks.items → (taken : Bool) → taken ≡ true
    → (taken ≡ true → o ≡ record m { log = with_change m.log c }) → (taken ≡ true → Suffices (with_change m.log c)) → (IsResting e m → All (λ (w : Written). w.block < e.count) c.blocks.items → IsResting e o) → HasAdded 1 c d l n e k o
added_behind d e l k n m o c moved low taken is node fits rests = added_by d e l k n m o c taken 1 moved (low_still d e c moved.goes.disk.count low) is node fits rests

pub no_place_behind : (d e : DiskState) (l k : Option (List Operation)) (n m o : Node) (c : Change) → HasMoved 1 d l n e k m → (IsDue m.log → ⊥) → NothingIsLive m.log → (taken : Bool) → taken ≡ false → (taken ≡ false → o ≡ m)
    → (Suffices (with_change m.log c) → taken ≡ true) → HasNoPlace 1 c d l n e k o
no_place_behind d e l k n m o c moved none empty taken is kept takes = no_place_by d e l k n m o c taken 1 moved none empty is kept takes

-- ---- behind what was due

pub map_end : {A E : Type 0} (r : Result A E) (P Q : E → Type 0) → ((why : E) → P why → Q why) → IfErr r P → IfErr r Q
map_end (Ok _) P Q so is = tt
map_end (Err why) P Q so is = so why is

module _ (d e : DiskState) (l k : Option (List Operation)) (n a b m : Node) (ready : IsReady d n) (as_before : a ≡ n) (brought : HasBroughtIn d l a e k b) (synced : IsCounted a → b.numbers.changed ≤ b.numbers.low) where
  pub brought_to : HasMoved 2 d l n e k b
  brought_to = subst (λ (x : Node). HasMoved 2 d l x e k b) as_before
      (let is : IsReady d a = subst (IsReady d) (sym as_before) ready in brought_moved d e l k a b is brought (synced is.counted))

  module _ (still : m ≡ b) where
    pub may_go_on : IsReady e m
    may_go_on = subst (IsReady e) (sym still) brought_to.ready

    pub none_is_due : IsDue m.log → ⊥
    none_is_due = subst (λ (x : Node). IsDue x.log → ⊥) (sym still) brought.none

    there : HasMoved 2 d l n e k m
    there = subst (HasMoved 2 d l n e k) (sym still) brought_to

    pub added_then : (f : DiskState) (h : Option (List Operation)) (o : Node) (c : Change) → HasAdded 1 c e k m f h o → HasAdded 3 c d l n f h o
    added_then f h o c is = record { roomy = is.roomy; moved = moved_on 2 1 3 d e f l k h n m is.roomy (omega arith) there is.moved; fits = is.fits; node = is.node; resting = is.resting }

    pub no_place_then : (f : DiskState) (h : Option (List Operation)) (o : Node) (c : Change) → HasNoPlace 1 c e k m f h o → HasNoPlace 3 c d l n f h o
    no_place_then f h o c is = record { moved = moved_on 2 1 3 d e f l k h n m o (omega arith) there is.moved; crowded = is.crowded }

    pub stops_then : (f : DiskState) (h : Option (List Operation)) (items : List TraceItem) (why : Stop) → StopsBehind 1 e k m f h items why → StopsBehind 3 d l n f h items why
    stops_then f h items why stops = stops_moved 2 1 3 d e f l k h n m items why (omega arith) there stops
