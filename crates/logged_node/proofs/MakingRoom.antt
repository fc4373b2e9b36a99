-- Room in the journal, and what is due in it.
use Rattle.std.proofs.Common.{◌≡◌, ◌≢◌, ◌≤◌, ◌<◌, ◌+◌, ◌↔◌, ℕ, zero, suc, ◌⊎◌, inl, inr, List, [], ◌∷◌, Option, None, Some, refl, sym, ap, ap₂, subst, ◌∙◌, arith}
use Rattle.std.specs.FinMap as table
use Rattle.std.specs.Ordering.{nat_cmp}
use Rattle.log_values.specs.Blocks as set
use Rattle.log_values.specs.Flushing.{AllAreHome, IsDue, NothingIsLive}
use Rattle.log_values.specs.Log.{Entry, LogValue, Version}
use Rattle.log_values.specs.Transactions.{due, transaction}
use Rattle.log_values.proofs.Landing.{all_none, none_in, nothing_is}
use Rattle.log_values.proofs.Rooms.{changed_fewer, empty_has_room}
use Rattle.log_layout.specs.Chunks.{Transaction}
use Rattle.shared_disk.specs.Disk.{DiskState, Operation}
use Rattle.trace_text.specs.declared.item.TraceItem.{TraceItem}
use Rattle.logged_steps.specs.Points.{Point}
use Rattle.logged_steps.specs.Steps.{Here, Steps}
use Rattle.logged_node.specs.declared.flushing.Flushed.{Flushed}
use Rattle.logged_node.specs.declared.flushing.Flushed.TheVariants as flushed
use Rattle.logged_node.specs.declared.node.Node.{Node}
use Rattle.logged_node.specs.Flushing.{CanFlush, HasCome, HasNoRoom, HasNothingToFlush, HasRoomForDue, IsAsItWas, IsDone}
use Rattle.logged_node.specs.Flushing as came
use Rattle.logged_node.specs.Homing.{HasGoneHome, MovesHome, SentSoFar, at_home, homes_in}
use Rattle.logged_node.specs.Nodes.{IsResting, KeepsView, crash_at, crash_of, point_of}
use Rattle.logged_node.specs.Rooms.{HasBroughtIn, HasCalls, IsCounted, SentForRoom}
use Rattle.logged_node.specs.Rooms as rooms
use Rattle.logged_node.proofs.Blocks.{none_some}
use Rattle.logged_node.proofs.Disks.{same_disk}
use Rattle.logged_node.proofs.Ended.{goes_behind}
use Rattle.logged_node.proofs.Going.{kept_on}
use Rattle.logged_node.proofs.Ordering.{so_far_none, so_far_then}

-- ---- what going home leaves

moved_log : (n m : Node) → MovesHome n m → (P : LogValue → Type 0) → P (record n.log { live = m.log.live }) → P m.log
moved_log n m moves P is = subst P (sym moves.log) is

pub moved_kept : (n m : Node) → MovesHome n m → KeepsView n m
moved_kept n m moves = record {
  view = moves.view;
  answered = ap (λ x. x.answered) moves.numbers;
  changed = ap (λ x. x.changed) moves.numbers;
  journal = ap (λ (l : LogValue). l.journal) moves.log;
  unmounts = moves.unmounts;
}

-- room for what is due is what it was
was_roomy : (n m : Node) → MovesHome n m → HasRoomForDue m.log → HasRoomForDue n.log
was_roomy n m moves roomy = subst HasRoomForDue moves.log roomy

pub was_due : (n m : Node) → MovesHome n m → IsDue m.log → IsDue n.log
was_due n m moves is = subst IsDue moves.log is

-- so is whether anything is live
was_empty : (n m : Node) → MovesHome n m → NothingIsLive m.log → NothingIsLive n.log
was_empty n m moves empty = all_none n.log.live none
  where
    gone : (o : Option Entry) (e : Entry) → at_home o ≡ at_home (Some e) → (x : Entry) × (o ≡ Some x)
    gone None e is = absurd (none_some is)
    gone (Some x) e is = (x, refl)

    none : (b : ℕ) (e : Entry) → table.get n.log.live b ≡ Some e → ⊥
    none b e at = (let it = gone (table.get m.log.live b) e (moves.live b ∙ ap at_home at) in none_in m.log.live b it.0 empty it.1)

-- ---- a header alone, behind which the journal is empty

module _ (d e f : DiskState) (l k h : Option (List Operation)) (n m o : Node) (home : HasGoneHome d l n e k m) (stuck : HasRoomForDue n.log → ⊥) (some : NothingIsLive n.log → ⊥) where
  its_end : IsDone m o → IsDone n o × NothingIsLive o.log
  its_end (came.all roomy low fresh) = absurd (stuck (was_roomy n m home.moves roomy))
  its_end (came.none off low fresh empty) = (came.none stuck (low ∙ ap (λ x. x.low) home.moves.numbers) (fresh ∙ ap (λ (x : LogValue). x.fresh) home.moves.log) empty, empty)

  has_come : HasCome e k m f h o → HasCome d l n f h o × NothingIsLive o.log
  has_come come = (
    record {
      goes = goes_behind d e f l k h n m o home.goes come.goes;
      flushed = record {
        resting = come.flushed.resting;
        kept = kept_on n m o (moved_kept n m home.moves) come.flushed.kept;
        gone = come.flushed.gone;
        sequence = come.flushed.sequence ∙ ap (λ (x : LogValue). x.sequence + 1) home.moves.log;
        done = (its_end come.flushed.done).0;
      };
    },
    (its_end come.flushed.done).1,
  )

  -- whatever the flush says, it has come
  pub made_room : (x : Flushed) → (x ≡ flushed.Done → HasCome e k m f h o) → (x ≡ flushed.Nothing → HasNothingToFlush m.log) → (x ≡ flushed.NoRoom → HasNoRoom m.log) → HasCome d l n f h o × NothingIsLive o.log
  made_room flushed.Done done nothing no_room = has_come (done refl)
  made_room flushed.Nothing done nothing no_room = absurd (by (nothing refl).1)
    where
      by : NothingIsLive m.log ⊎ (AllAreHome m.log → ⊥) → ⊥
      by (inl empty) = some (was_empty n m home.moves empty)
      by (inr away) = away home.home
  made_room flushed.NoRoom done nothing no_room = absurd ((no_room refl).2 home.home)

-- ---- a node that is as it was

pub still_goes : (d e : DiskState) (l k : Option (List Operation)) (n m : Node) → IsAsItWas d l n e k m → (time : ℕ) → Steps time (point_of d l n) (point_of e k m)
still_goes d e l k n m is time = subst (Steps time (point_of d l n)) (sym is.point) Here

pub still_armed : (d e : DiskState) (l k : Option (List Operation)) (n m : Node) → IsAsItWas d l n e k m → crash_at m ≡ crash_at n
still_armed d e l k n m is = ap₂ crash_of is.armed (ap (λ (x : Point). x.items) is.point)

pub still_kept : (d e : DiskState) (l k : Option (List Operation)) (n m : Node) → IsAsItWas d l n e k m → KeepsView n m
still_kept d e l k n m is = record {
  view = ap (λ (x : Point). x.view) is.point;
  answered = ap (λ (x : Point). x.numbers.answered) is.point;
  changed = ap (λ (x : Point). x.numbers.changed) is.point;
  journal = ap (λ (x : Point). x.log.journal) is.point;
  unmounts = ap (λ (x : Point). x.unmounts) is.point;
}

-- what is sent from it then is sent from here
pub still_sent : (d e : DiskState) (l k : Option (List Operation)) (n m : Node) (items : List TraceItem) → IsAsItWas d l n e k m → SentSoFar m.log m.items.items items → SentSoFar n.log n.items.items items
still_sent d e l k n m items is so = subst (λ (x : Point). SentSoFar x.log x.items items) is.point so

-- ---- a flush is made where it can be

nothing_off : (log : LogValue) → CanFlush log → HasNothingToFlush log → ⊥
nothing_off log (inl room) none = none.0 room.0
nothing_off log (inr alone) none = by none.1
  where
    by : NothingIsLive log ⊎ (AllAreHome log → ⊥) → ⊥
    by (inl empty) = alone.2 empty
    by (inr away) = away alone.1

room_off : (log : LogValue) → CanFlush log → HasNoRoom log → ⊥
room_off log (inl room) none = none.1 room.1
room_off log (inr alone) none = none.2 alone.1

-- what it answers is told by the log
pub done_exactly : (log : LogValue) (x : Flushed) → (x ≡ flushed.Done → CanFlush log) → (x ≡ flushed.Nothing → HasNothingToFlush log) → (x ≡ flushed.NoRoom → HasNoRoom log) → (x ≡ flushed.Done) ↔ CanFlush log
done_exactly log flushed.Done can nothing no_room = (can, λ so. refl)
done_exactly log flushed.Nothing can nothing no_room = (can, λ so. absurd (nothing_off log so (nothing refl)))
done_exactly log flushed.NoRoom can nothing no_room = (can, λ so. absurd (room_off log so (no_room refl)))

pub nothing_exactly : (log : LogValue) (x : Flushed) → (x ≡ flushed.Done → CanFlush log) → (x ≡ flushed.Nothing → HasNothingToFlush log) → (x ≡ flushed.NoRoom → HasNoRoom log) → (x ≡ flushed.Nothing) ↔ HasNothingToFlush log
nothing_exactly log flushed.Done can nothing no_room = (nothing, λ so. absurd (nothing_off log (can refl) so))
nothing_exactly log flushed.Nothing can nothing no_room = (nothing, λ so. refl)
nothing_exactly log flushed.NoRoom can nothing no_room = (nothing, λ so. absurd (so.0 (no_room refl).0))

pub room_exactly : (log : LogValue) (x : Flushed) → (x ≡ flushed.Done → CanFlush log) → (x ≡ flushed.Nothing → HasNothingToFlush log) → (x ≡ flushed.NoRoom → HasNoRoom log) → (x ≡ flushed.NoRoom) ↔ HasNoRoom log
room_exactly log flushed.Done can nothing no_room = (no_room, λ so. absurd (room_off log (can refl) so))
room_exactly log flushed.Nothing can nothing no_room = (no_room, λ so. absurd ((nothing refl).0 so.0))
room_exactly log flushed.NoRoom can nothing no_room = (no_room, λ so. refl)

-- ---- what is due

none_due : (log : LogValue) → log.fresh ≡ table.empty → log.gone ≡ set.empty → IsDue log → ⊥
none_due log fresh gone is = by is
  where
    nothing : due log ≡ record { blocks = []; revokes = [] }
    nothing = (λ i. transaction (fresh i) (gone i)) ∙ nothing_is

    by : IsDue log → ⊥
    by (inl some) = some (ap (λ (t : Transaction). t.blocks) nothing)
    by (inr some) = some (ap (λ (t : Transaction). t.revokes) nothing)

no_list : {A : Type 0} (xs : List A) → (xs ≢ [] → ⊥) → xs ≡ []
no_list [] none = refl
no_list (x ∷ xs) none = absurd (none (λ is. (cc)))

no_blocks : (log : LogValue) → (IsDue log → ⊥) → (due log).blocks ≡ []
no_blocks log none = no_list (due log).blocks (λ some. none (inl some))

same_blocks : (log new : LogValue) → new.fresh ≡ log.fresh → (due new).blocks ≡ (due log).blocks
same_blocks log new fresh = ap (λ (m : table.FinMap nat_cmp Version). (transaction m set.empty).blocks) fresh

-- ---- all that is due is in the journal

pub none_brought : (d : DiskState) (l : Option (List Operation)) (n : Node) → IsResting d n → (IsDue n.log → ⊥) → HasBroughtIn d l n d l n
none_brought d l n rest none = record {
  goes = record { steps = λ time. Here; disk = same_disk d; armed = refl };
  resting = rest;
  kept = record { view = refl; answered = refl; changed = refl; journal = refl; unmounts = refl };
  sequence = omega arith;
  none = none;
  calls = rooms.no_change (no_blocks n.log none) refl;
}

pub once_brought : (d e : DiskState) (l k : Option (List Operation)) (n m : Node) → HasCome d l n e k m → (IsDue m.log → ⊥) → HasBroughtIn d l n e k m
once_brought d e l k n m come none = record {
  goes = come.goes;
  resting = come.flushed.resting;
  kept = come.flushed.kept;
  sequence = (let is = come.flushed.sequence in omega (arith, is));
  none = none;
  calls = by come.flushed.done;
}
  where
    by : IsDone n m → HasCalls n m
    by (came.all roomy low fresh) = rooms.all low
    by (came.none stuck low fresh empty) = rooms.no_change (sym (same_blocks n.log m.log fresh) ∙ no_blocks m.log none) low

-- behind a header alone there is room for what is due still
pub room_then : (d e : DiskState) (l k : Option (List Operation)) (n m : Node) → HasCome d l n e k m → IsDue m.log → HasRoomForDue m.log
room_then d e l k n m first is_due = by first.flushed.done
  where
    by : IsDone n m → HasRoomForDue m.log
    by (came.all room low fresh) = absurd (none_due m.log fresh first.flushed.gone is_due)
    by (came.none stuck low fresh empty) = (is_due, empty_has_room m.log first.flushed.resting.on.sound first.flushed.resting.idle empty (changed_fewer m.log m.log.journal.size 400 first.flushed.resting.small))

pub twice_brought : (d e f : DiskState) (l k h : Option (List Operation)) (n m o : Node) → HasCome d l n e k m → IsDue m.log → HasCome e k m f h o → HasBroughtIn d l n f h o
twice_brought d e f l k h n m o first is_due second = record {
  goes = goes_behind d e f l k h n m o first.goes second.goes;
  resting = second.flushed.resting;
  kept = kept_on n m o first.flushed.kept second.flushed.kept;
  sequence = (let a = first.flushed.sequence in let b = second.flushed.sequence in omega (arith, a, b));
  none = (by first.flushed.done second.flushed.done).1;
  calls = rooms.all (by first.flushed.done second.flushed.done).0;
}
  where
    ends : NothingIsLive m.log → IsDone m o → (o.numbers.low ≡ n.numbers.answered) × (IsDue o.log → ⊥)
    ends empty (came.all room low fresh) = (low ∙ first.flushed.kept.answered, none_due o.log fresh second.flushed.gone)
    ends empty (came.none stuck low fresh gone) = absurd (stuck (room_then d e l k n m first is_due))

    by : IsDone n m → IsDone m o → (o.numbers.low ≡ n.numbers.answered) × (IsDue o.log → ⊥)
    by (came.all room low fresh) then = absurd (none_due m.log fresh first.flushed.gone is_due)
    by (came.none stuck low fresh empty) then = ends empty then

-- so blocks go home once at most
pub sent_twice : (d e : DiskState) (l k : Option (List Operation)) (n m : Node) (items : List TraceItem) → HasCome d l n e k m → IsDue m.log → SentForRoom n m.items.items → SentForRoom m items → SentForRoom n items
sent_twice d e l k n m items first is_due before behind =
    let same = behind.room (room_then d e l k n m first is_due) in
    record { order = so_far_then n.log n.items.items m.items.items items before.order same; room = λ has. same ∙ before.room has }

pub sent_none : (n : Node) (items : List TraceItem) → homes_in items ≡ homes_in n.items.items → SentForRoom n items
sent_none n items same = record { order = so_far_none n.log n.items.items items same; room = λ has. same }

at_most : (a b : ℕ) → (a < b → ⊥) → b ≤ a
at_most a b off = by (dec b a)
  where
    dec : (x y : ℕ) → (x ≤ y) ⊎ (y < x)
    dec zero y = inl (omega arith)
    dec (suc x) zero = inr (omega arith)
    dec (suc x) (suc y) = elim (dec x y) [ inl h ↦ inl (omega (arith, h)) | inr h ↦ inr (omega (arith, h)) ]

    by : (b ≤ a) ⊎ (a < b) → b ≤ a
    by (inl is) = is
    by (inr is) = absurd (off is)

-- so a sync may be answered
pub in_sync : (d e : DiskState) (l k : Option (List Operation)) (n m : Node) → HasBroughtIn d l n e k m → IsCounted n → m.numbers.changed ≤ m.numbers.low
in_sync d e l k n m brought counted = by brought.calls
  where
    by : HasCalls n m → m.numbers.changed ≤ m.numbers.low
    by (rooms.all low) = (let changed = brought.kept.changed in let few = counted.changed in omega (arith, low, changed, few))
    by (rooms.no_change blocks low) = (
        let changed = brought.kept.changed in
        let none = at_most n.numbers.low n.numbers.changed (λ owes. counted.owing owes blocks) in
        omega (arith, low, changed, none)
        )

-- ---- by how much the sequence grew

pub come_grows : (d e : DiskState) (l k : Option (List Operation)) (n m : Node) → HasCome d l n e k m → m.log.sequence ≤ n.log.sequence + 1
come_grows d e l k n m come = (let is = come.flushed.sequence in omega (arith, is))

pub still_grows : (d e : DiskState) (l k : Option (List Operation)) (n m : Node) → IsAsItWas d l n e k m → m.log.sequence ≤ n.log.sequence + 1
still_grows d e l k n m is = (let same : m.log.sequence ≡ n.log.sequence = ap (λ (x : Point). x.log.sequence) is.point in omega (arith, same))

pub still_no_more : (d e : DiskState) (l k : Option (List Operation)) (n m : Node) → IsAsItWas d l n e k m → m.log.sequence + 1 ≤ n.log.sequence + 1
still_no_more d e l k n m is = (let same : m.log.sequence ≡ n.log.sequence = ap (λ (x : Point). x.log.sequence) is.point in omega (arith, same))
