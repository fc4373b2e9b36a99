-- How a step of a flush was carried out, by a write or by a barrier.
use Rattle.std.proofs.Common.{◌≡◌, ◌≢◌, ◌+◌, ℕ, suc, true, List, [], ◌∷◌, ◌++◌, length, Option, None, Some, Ok, Err, refl, ap, ◌∙◌, arith}
use Rattle.std.proofs.lemmas.List.{append_assoc}
use Rattle.std.specs.Prelude.{IfErr, OnOk, Result}
use Rattle.log_values.specs.declared.steps.LogStep.TheVariants as step
use Rattle.run_rules.specs.Follows.{is_write_of}
use Rattle.shared_disk.specs.Disk.{DiskState, Operation}
use Rattle.logged_steps.specs.Points.{Point}
use Rattle.logged_steps.specs.Steps.{GainsBarrier, with_barrier, with_write}
use Rattle.trace_text.specs.declared.item.TraceItem.{TraceItem}
use Rattle.trace_text.specs.declared.item.TraceItem.TheVariants as trace
use Rattle.logged_node.specs.declared.ends.Stop.{Stop}
use Rattle.logged_node.specs.declared.ends.Stop.TheVariants as stop
use Rattle.logged_node.specs.declared.node.Node.{Node}
use Rattle.logged_node.specs.Ends.{IfCrashed, IfMade, IsOfDisk}
use Rattle.logged_node.specs.Flushing.{IsCarried}
use Rattle.logged_node.specs.Flushing as carried
use Rattle.logged_node.specs.Nodes.{IsAtCrash, crash_at, crash_of, numbers_of, point_of, writes_in}
use Rattle.logged_node.proofs.Arming.{crash_stays}
use Rattle.logged_node.proofs.Disks.{length_with}

-- ---- facts of what was made

pub made_both : (r : Result (Unit {0}) Stop) (P Q R : Type 0) → (P → Q → R) → IfMade r P → IfMade r Q → IfMade r R
made_both (Ok _) P Q R so p q = so p q
made_both (Err stop.Crashed) P Q R so p q = so p q
made_both (Err (stop.DiskFailed block rise)) P Q R so p q = tt
made_both (Err stop.NoMemory) P Q R so p q = absurd p

pub made_ok : (r : Result (Unit {0}) Stop) (P Q : Type 0) → (P → Q) → IfMade r P → OnOk r Q
made_ok (Ok _) P Q so p = so p
made_ok (Err why) P Q so p = tt

-- what was made, with all that is so where it went well
pub ok_of_all : (r : Result (Unit {0}) Stop) (P A B C D Q : Type 0) → (P → A → B → C → D → Q) → IfMade r P → OnOk r A → OnOk r B → OnOk r C → OnOk r D → OnOk r Q
ok_of_all (Ok _) P A B C D Q so p a b c d = so p a b c d
ok_of_all (Err why) P A B C D Q so p a b c d = tt

pub ok_map : (r : Result (Unit {0}) Stop) (P Q : Type 0) → (P → Q) → OnOk r P → OnOk r Q
ok_map (Ok _) P Q so p = so p
ok_map (Err why) P Q so p = tt

pub ok_both : (r : Result (Unit {0}) Stop) (P A B Q : Type 0) → (P → A → B → Q) → OnOk r P → OnOk r A → OnOk r B → OnOk r Q
ok_both (Ok _) P A B Q so p a b = so p a b
ok_both (Err why) P A B Q so p a b = tt

pub ok_of_write : (r : Result (Unit {0}) Stop) (P G A B C Q : Type 0) → (P → G → A → B → C → Q) → IfMade r P → IfMade r G → IfMade r A → OnOk r B → OnOk r C → OnOk r Q
ok_of_write (Ok _) P G A B C Q so p g a b c = so p g a b c
ok_of_write (Err why) P G A B C Q so p g a b c = tt

-- ---- a write

pub one_more_flies : (d d' : DiskState) (l l' : Option (List Operation)) (n n' : Node) (b : ℕ) (bytes : List ℕ) (item : TraceItem) → n.flying ≡ length (d.in_flight 1) → n'.flying ≡ n.flying + 1
    → point_of d' l' n' ≡ with_write (point_of d l n) b bytes l' n.log item → n'.flying ≡ length (d'.in_flight 1)
one_more_flies d d' l l' n n' b bytes item was more made = (
    let long : length (d'.in_flight 1) ≡ suc (length (d.in_flight 1)) = ap (λ (x : Point). length (x.disk.in_flight 1)) made ∙ length_with (d.in_flight 1) (record { block = b; bytes = bytes }) in
    omega (arith, was, more, long)
    )

-- where it crashed that write is its last item
pub at_crash : (d d' : DiskState) (l l' : Option (List Operation)) (n n' : Node) (b : ℕ) (bytes : List ℕ) (item : TraceItem) (r : Result (Unit {0}) Stop) → is_write_of 1 item ≡ true
    → IfMade r (point_of d' l' n' ≡ with_write (point_of d l n) b bytes l' n.log item) → IfErr r (λ why. IfCrashed why (crash_at n ≡ Some (writes_in n'.items.items))) → IfErr r (λ why. IfCrashed why (IsAtCrash (crash_at n) n'.items.items))
at_crash d d' l l' n n' b bytes item (Ok _) write made crashed = tt
at_crash d d' l l' n n' b bytes item (Err stop.Crashed) write made crashed = record { before = n.items.items; it = item; told = ap (λ (x : Point). x.items) made; write = write; is = crashed }
at_crash d d' l l' n n' b bytes item (Err (stop.DiskFailed block rise)) write made crashed = tt
at_crash d d' l l' n n' b bytes item (Err stop.NoMemory) write made crashed = tt

-- ---- a barrier

-- it doesn't crash there
pub no_crash : (r : Result (Unit {0}) Stop) (P : Type 0) → IfErr r IsOfDisk → IfErr r (λ why. IfCrashed why P)
no_crash (Ok _) P of = tt
no_crash (Err stop.Crashed) P of = absurd of
no_crash (Err (stop.DiskFailed block rise)) P of = tt
no_crash (Err stop.NoMemory) P of = tt

abbrev committed : Point → Point
committed x = record x { items = x.items ++ trace.Commit 1 x.log.sequence x.numbers.begun ∷ []; numbers = record x.numbers { low = x.numbers.begun } }

-- the last one, behind which it is committed
pub last_carried : (d d' : DiskState) (l l' : Option (List Operation)) (n m k : Node) (bytes : List ℕ) → point_of d' l' m ≡ with_barrier (point_of d l n) l' n.log → GainsBarrier (point_of d l n) l' → n.log.flush ≡ None
    → k ≡ record m { items = k.items; numbers = record m.numbers { low = m.numbers.begun } } → k.items.items ≡ m.items.items ++ trace.Commit 1 m.log.sequence m.numbers.begun ∷ [] → IsCarried bytes (point_of d l n) (point_of d' l' k) step.Barrier
last_carried d d' l l' n m k bytes made gains none k_is items = carried.the_last l' none gains (
    ap (point_of d' l') k_is
    ∙ ap (λ (is : List TraceItem). record (point_of d' l' m) { numbers = numbers_of (record m.numbers { low = m.numbers.begun }); items = is }) items
    ∙ ap committed made
    ∙ ap (λ (is : List TraceItem). record (with_barrier (point_of d l n) l' n.log) { numbers = record (numbers_of n.numbers) { low = n.numbers.begun }; items = is })
    (append_assoc n.items.items (trace.Barrier 1 ∷ []) (trace.Commit 1 n.log.sequence n.numbers.begun ∷ []))
    )

-- one while it goes on
pub barrier_carried : (d d' : DiskState) (l l' : Option (List Operation)) (n m : Node) (bytes : List ℕ) → point_of d' l' m ≡ with_barrier (point_of d l n) l' n.log → GainsBarrier (point_of d l n) l' → n.log.flush ≢ None
    → IsCarried bytes (point_of d l n) (point_of d' l' m) step.Barrier
barrier_carried d d' l l' n m bytes made gains some = carried.a_barrier l' some gains made

-- it is to crash where it was
pub armed_behind : (d d' : DiskState) (l l' : Option (List Operation)) (n m : Node) → m.armed ≡ n.armed → point_of d' l' m ≡ with_barrier (point_of d l n) l' n.log → crash_at m ≡ crash_at n
armed_behind d d' l l' n m armed made = ap (λ (a : Option ℕ). crash_of a m.items.items) armed ∙ crash_stays n.armed n.items.items m.items.items (trace.Barrier 1) refl (ap (λ (x : Point). x.items) made)

pub armed_committed : (n m k : Node) → crash_at m ≡ crash_at n → k.armed ≡ m.armed → k.items.items ≡ m.items.items ++ trace.Commit 1 m.log.sequence m.numbers.begun ∷ [] → crash_at k ≡ crash_at n
armed_committed n m k was armed items =
    ap (λ (a : Option ℕ). crash_of a k.items.items) armed ∙ crash_stays m.armed m.items.items k.items.items (trace.Commit 1 m.log.sequence m.numbers.begun) refl items ∙ was
