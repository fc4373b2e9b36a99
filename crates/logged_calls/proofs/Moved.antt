-- A node that has flushed, or made room, may take a call still; and how it stops there.
use Rattle.std.proofs.Common.{◌≡◌, ◌≢◌, ◌<◌, ◌≤◌, ◌+◌, ℕ, inl, inr, List, [], Option, refl, sym, ap, subst, ◌∙◌, arith}
use Rattle.std.specs.FinMap as table
use Rattle.std.specs.Ordering.{nat_cmp}
use Rattle.log_values.specs.Blocks as set
use Rattle.log_values.specs.Flushing.{IsDue}
use Rattle.log_values.specs.Log.{LogValue, Version}
use Rattle.log_values.specs.Transactions.{due, transaction}
use Rattle.log_values.proofs.Landing.{no_items}
use Rattle.lone_answers.specs.Reading.{HasRead, Nothing}
use Rattle.lone_view.specs.Seeing.{Lone}
use Rattle.shared_disk.specs.Disk.{DiskState, Operation}
use Rattle.trace_text.specs.declared.item.TraceItem.{TraceItem}
use Rattle.logged_answers.specs.Fails.{AsItWas}
use Rattle.logged_answers.specs.Steps.{Here}
use Rattle.logged_node.specs.declared.ends.Stop.{Stop}
use Rattle.logged_node.specs.declared.ends.Stop.TheVariants as stop
use Rattle.logged_node.specs.declared.node.Node.{Node}
use Rattle.logged_node.specs.Flushing.{HasCome, IsDone}
use Rattle.logged_node.specs.Flushing as came
use Rattle.logged_node.specs.Nodes.{IsBeforeCrash, KeepsView, StopsBehind, crash_at, point_of}
use Rattle.logged_node.specs.Rooms.{HasBroughtIn, IsCounted}
use Rattle.logged_node.proofs.Arming.{before_crash}
use Rattle.logged_node.proofs.Disks.{same_disk}
use Rattle.logged_node.proofs.Ended.{goes_behind}
use Rattle.logged_node.proofs.Going.{kept_on}
use Rattle.logged_node.proofs.Onward.{stops_on}
use Rattle.logged_calls.specs.Calls.{HasMoved, IsReady, TellsNoCall, most_headers}
use Rattle.logged_calls.specs.Ends.{EndsUntold, StopsUntold}
use Rattle.logged_calls.proofs.Untold.{failed_tells, quiet_steps}

-- ---- it may take a call still

same_blocks : (log new : LogValue) → new.fresh ≡ log.fresh → (due new).blocks ≡ (due log).blocks
same_blocks log new fresh = ap (λ (m : table.FinMap nat_cmp Version). (transaction m set.empty).blocks) fresh

few_changed : (n m : Node) → IsCounted n → KeepsView n m → m.numbers.changed ≤ m.numbers.answered
few_changed n m counted kept = let few = counted.changed in let a = kept.answered in let c = kept.changed in omega (arith, few, a, c)

none_less : (a b : ℕ) → a ≤ b → b < a → ⊥
none_less a b low high = omega (arith, low, high)

pub still_here : (most : ℕ) (d : DiskState) (l : Option (List Operation)) (n : Node) → IsReady d n → HasMoved most d l n d l n
still_here most d l n ready = record {
  goes = record { steps = λ time. Here; disk = same_disk d; armed = refl };
  ready = ready;
  kept = record { view = refl; answered = refl; changed = refl; journal = refl; unmounts = refl };
  sequence = omega arith;
}

pub brought_moved : (d e : DiskState) (l k : Option (List Operation)) (n m : Node) → IsReady d n → HasBroughtIn d l n e k m → m.numbers.changed ≤ m.numbers.low → HasMoved 2 d l n e k m
brought_moved d e l k n m ready brought synced = record {
  goes = brought.goes;
  ready = record {
    resting = brought.resting;
    counted = record { changed = few_changed n m ready.counted brought.kept; owing = λ owes. absurd (none_less m.numbers.changed m.numbers.low synced owes) };
    mounted = brought.kept.unmounts ∙ ready.mounted;
  };
  kept = brought.kept;
  sequence = brought.sequence;
}

still_counted : (n m : Node) → IsCounted n → KeepsView n m → IsDone n m → IsCounted m
still_counted n m counted kept (came.all roomy low fresh) = record {
  changed = few_changed n m counted kept;
  owing = λ owes. absurd (none_less m.numbers.changed m.numbers.low (let few = counted.changed in let c = kept.changed in omega (arith, few, c, low)) owes);
}
still_counted n m counted kept (came.none stuck low fresh empty) = record {
  changed = few_changed n m counted kept;
  owing = λ owes. subst (λ ws. ws ≢ []) (sym (same_blocks n.log m.log fresh)) (counted.owing (let c = kept.changed in omega (arith, owes, c, low)));
}

pub come_moved : (d e : DiskState) (l k : Option (List Operation)) (n m : Node) → IsReady d n → HasCome d l n e k m → HasMoved 1 d l n e k m
come_moved d e l k n m ready come = record {
  goes = come.goes;
  ready = record {
    resting = come.flushed.resting;
    counted = still_counted n m ready.counted come.flushed.kept come.flushed.done;
    mounted = come.flushed.kept.unmounts ∙ ready.mounted;
  };
  kept = come.flushed.kept;
  sequence = (let is = come.flushed.sequence in omega (arith, is));
}

-- where nothing was due, a header alone came, and nothing is due
due_is : (log new : LogValue) → new.fresh ≡ log.fresh → new.gone ≡ set.empty → (IsDue log → ⊥) → IsDue new → ⊥
due_is log new fresh gone none (inl some) = none (inl (subst (λ ws. ws ≢ []) (same_blocks log new fresh) some))
due_is log new fresh gone none (inr some) = some (ap set.items gone ∙ no_items)

pub none_due : (d e : DiskState) (l k : Option (List Operation)) (n m : Node) → (IsDue n.log → ⊥) → HasCome d l n e k m → IsDue m.log → ⊥
none_due d e l k n m none come = by come.flushed.done
  where
    by : IsDone n m → IsDue m.log → ⊥
    by (came.all roomy low fresh) is = none roomy.0
    by (came.none stuck low fresh empty) is = due_is n.log m.log fresh come.flushed.gone none is

-- ---- one behind the other

pub moved_on : (few more most : ℕ) (d e f : DiskState) (l k h : Option (List Operation)) (n m o : Node) → few + more ≤ most → HasMoved few d l n e k m → HasMoved more e k m f h o → HasMoved most d l n f h o
moved_on few more most d e f l k h n m o low x y = record {
  goes = goes_behind d e f l k h n m o x.goes y.goes;
  ready = y.ready;
  kept = kept_on n m o x.kept y.kept;
  sequence = (let a = x.sequence in let b = y.sequence in omega (arith, a, b, low));
}

pub moved_few : (few most : ℕ) (d e : DiskState) (l k : Option (List Operation)) (n m : Node) → few ≤ most → HasMoved few d l n e k m → HasMoved most d l n e k m
moved_few few most d e l k n m low x = record { goes = x.goes; ready = x.ready; kept = x.kept; sequence = (let a = x.sequence in omega (arith, a, low)) }

pub stops_moved : (few more most : ℕ) (d e f : DiskState) (l k h : Option (List Operation)) (n m : Node) (items : List TraceItem) (why : Stop) → few + more ≤ most → HasMoved few d l n e k m → StopsBehind more e k m f h items why
    → StopsBehind most d l n f h items why
stops_moved few more most d e f l k h n m items why low x stops =
    stops_on d e f l k h n m items why more most (let a = x.sequence in omega (arith, a, low)) x.goes.steps x.goes.armed x.kept stops

-- ---- how it ends

-- a view that is the same was read by nothing
read_same : (d : DiskState) (v w : Lone) → w ≡ v → HasRead d v w
read_same d v w same = subst (HasRead d v) (sym same) Nothing

pub stops_untold : (most : ℕ) (d e : DiskState) (l k : Option (List Operation)) (n : Node) (items : List TraceItem) (why : Stop) → most ≤ most_headers → IsReady d n → StopsBehind most d l n e k items why → StopsUntold d l n e k items why
stops_untold most d e l k n items why low ready stops = record {
  last = stops.last;
  left = stops.left;
  steps = stops.steps;
  fails = stops.fails;
  exactly = stops.exactly;
  disk = stops.disk;
  listed = stops.listed;
  told = stops.told;
  read = read_same d n.view stops.last.view stops.kept.view;
  answered = stops.kept.answered;
  next = stops.kept.next;
  unmounts = stops.unmounts ∙ ready.mounted;
  tells = subst (TellsNoCall n.items.items) (sym (failed_tells 0 stops.last stops.left (stops.fails 0)) ∙ stops.told) (quiet_steps 0 (point_of d l n) stops.last (stops.steps 0) stops.kept.answered);
  sequence = (let a = stops.sequence in omega (arith, a, low));
  crashes = stops.crashes;
}

-- for want of memory, where it had come to
pub stops_there : (d e : DiskState) (l k : Option (List Operation)) (n m : Node) (items : List TraceItem) → HasMoved most_headers d l n e k m → items ≡ m.items.items → StopsUntold d l n e k items stop.NoMemory
stops_there d e l k n m items moved same = record {
  last = point_of e k m;
  left = point_of e k m;
  steps = moved.goes.steps;
  fails = λ time. AsItWas;
  exactly = refl;
  disk = refl;
  listed = refl;
  told = sym same;
  read = read_same d n.view m.view moved.kept.view;
  answered = moved.kept.answered;
  next = refl;
  unmounts = moved.ready.mounted;
  tells = subst (TellsNoCall n.items.items) (sym same) (quiet_steps 0 (point_of d l n) (point_of e k m) (moved.goes.steps 0) moved.kept.answered);
  sequence = moved.sequence;
  crashes = subst (λ xs. IsBeforeCrash (crash_at n) xs) (sym same) (subst (λ (c : Option ℕ). IsBeforeCrash c m.items.items) moved.goes.armed (before_crash m.armed m.items.items moved.ready.resting.on.awaits));
}

pub ends_untold : (d e : DiskState) (l k : Option (List Operation)) (n m : Node) → HasMoved most_headers d l n e k m → EndsUntold d l n e k m
ends_untold d e l k n m moved = record {
  goes = moved.goes;
  ready = moved.ready;
  read = read_same d n.view m.view moved.kept.view;
  answered = moved.kept.answered;
  tells = quiet_steps 0 (point_of d l n) (point_of e k m) (moved.goes.steps 0) moved.kept.answered;
  sequence = moved.sequence;
}
