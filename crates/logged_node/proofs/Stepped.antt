-- The next step of a flush, from the room for its items on: what a node has come to behind it, and how it stops at it.
use Rattle.std.proofs.Common.{◌≡◌, ◌<◌, ◌+◌, ◌^◌, List, length, Option, None, Some, sym, ap, subst, ◌∙◌}
use Rattle.std.specs.Prelude.{◌≢◌, IfErr, Result}
use Rattle.log_values.specs.Flushing.{FlushAnswer, FlushStep}
use Rattle.log_values.specs.Log.{Flush, LogValue}
use Rattle.log_values.specs.declared.steps.LogStep.{LogStep}
use Rattle.log_values.specs.declared.steps.LogStep.TheVariants as step
use Rattle.log_widths.specs.Laws.{WidthsAreNumbers}
use Rattle.shared_disk.specs.Disk.{DiskState, Operation}
use Rattle.logged_node.specs.declared.ends.Stop.{Stop}
use Rattle.logged_node.specs.declared.node.Node.{Node}
use Rattle.logged_node.specs.Ends.{FailedAt, IfCrashed, IfFailed, IfMade}
use Rattle.logged_node.specs.Flushing.{FailsAt, GoesOn, HasBegun, IsCarried, IsFlushing, IsUnderWay, MayCarry, block_of, number_of}
use Rattle.logged_node.specs.Homing.{homes_in}
use Rattle.logged_node.specs.Nodes.{Awaits, IsAtCrash, IsResting, StopsBehind, crash_at, point_of}
use Rattle.logged_node.proofs.Beginning as beginning
use Rattle.logged_node.proofs.Flushes.{may_carry, no_answer, step_of}
use Rattle.logged_node.proofs.Onward as onward

-- with room for its items, and a step that the log has made
pub with_step : (n r m : Node) → r ≡ record n { items = r.items } → m ≡ record r { log = m.log; block = m.block } → m ≡ record n { log = m.log; items = m.items; block = m.block }
with_step n r m r_is m_is =
    m_is ∙ ap (λ (x : Node). record x { log = m.log; block = m.block }) r_is ∙ ap (λ (x : Node). record n { log = m.log; items = x.items; block = m.block }) (sym m_is)

pub same_items : (n r m : Node) → m ≡ record r { log = m.log; block = m.block } → r.items.items ≡ n.items.items → m.items.items ≡ n.items.items
same_items n r m m_is same = ap (λ (x : Node). x.items.items) m_is ∙ same

pub as_long : (n r m : Node) → r ≡ record n { items = r.items } → length m.block.items ≡ length r.block.items → length m.block.items ≡ length n.block.items
as_long n r m r_is long = long ∙ ap (λ (x : Node). length x.block.items) r_is

pub answers : (n r m : Node) (s : Option LogStep) → r ≡ record n { items = r.items } → FlushAnswer r.log m.log m.block.items s → FlushAnswer n.log m.log m.block.items s
answers n r m s r_is answer = subst (λ (x : LogValue). FlushAnswer x m.log m.block.items s) (ap (λ (x : Node). x.log) r_is) answer

-- a flush that is under way has a next step
pub has_step : (d : DiskState) (n r m : Node) → IsUnderWay d n → r ≡ record n { items = r.items } → FlushAnswer r.log m.log m.block.items None → ⊥
has_step d n r m under r_is answer = no_answer n.log m.log m.block.items under.1 under.2.is (answers n r m None r_is answer)

module _ (law : WidthsAreNumbers) (d d' : DiskState) (l l' : Option (List Operation)) (n r m n' : Node) (s : LogStep) (more : n.log.sequence + 1 < 2 ^ 64) (r_is : r ≡ record n { items = r.items }) (same : r.items.items ≡ n.items.items)
    (m_is : m ≡ record r { log = m.log; block = m.block }) (long : length m.block.items ≡ length r.block.items) (answer : FlushAnswer r.log m.log m.block.items (Some s)) where
  abbrev Carried : Type 0
  Carried = IsCarried m.block.items (point_of d l m) (point_of d' l' n') s

  module _ (start : Node) (f : Flush) (at : IsFlushing start d n f) where
    made : FlushStep n.log m.log f m.block.items s
    made = step_of n.log m.log m.block.items s f at.is (answers n r m (Some s) r_is answer)

  pub may_go_on : IsUnderWay d n → MayCarry d s
  may_go_on under = may_carry under.0 d n under.1 under.2 m.log m.block.items s (made under.0 under.1 under.2)

  pub has_gone_on : IsUnderWay d n → n' ≡ record m { items = n'.items; flying = n'.flying; numbers = record m.numbers { low = n'.numbers.low }; armed = n'.armed } → n'.flying ≡ length (d'.in_flight 1) → Awaits n'.armed → crash_at n' ≡ crash_at m
      → Carried → GoesOn d l n d' l' n'
  has_gone_on under n'_is flying awaits armed done = record {
    goes = record {
      steps = onward.steps law under.0 d d' l l' n m n' under.1 s under.2 more (with_step n r m r_is m_is) (same_items n r m m_is same) (as_long n r m r_is long) (made under.0 under.1 under.2) done;
      disk = onward.disk_same law under.0 d d' l l' n m n' under.1 s under.2 more (with_step n r m r_is m_is) (same_items n r m m_is same) (as_long n r m r_is long) (made under.0 under.1 under.2) done;
      armed = armed ∙ onward.armed_still law under.0 d d' l l' n m n' under.1 s under.2 more (with_step n r m r_is m_is) (same_items n r m m_is same) (as_long n r m r_is long) (made under.0 under.1 under.2);
    };
    to = λ start f at. (onward.comes law start d d' l l' n m n' f s at more (with_step n r m r_is m_is) (same_items n r m m_is same) (as_long n r m r_is long) (made start f at) n'_is flying awaits done).0;
    fewer = (onward.comes law under.0 d d' l l' n m n' under.1 s under.2 more (with_step n r m r_is m_is) (same_items n r m m_is same) (as_long n r m r_is long) (made under.0 under.1 under.2) n'_is flying awaits done).1;
  }

  pub stops_going_on : IsUnderWay d n → (x : Result (Unit {0}) Stop) → IfMade x Carried → IfErr x (λ why. IfCrashed why (IsAtCrash (crash_at m) n'.items.items)) → IfErr x (λ why. IfFailed why (FailsAt m.block.items (point_of d l m) d' l' s))
      → IfErr x (λ why. FailedAt why (block_of s)) → IfErr x (λ why. IfFailed why (n'.items.items ≡ m.items.items)) → IfErr x (λ why. StopsBehind 1 d l n d' l' n'.items.items why)
  stops_going_on under x done crashed failed failed_at kept =
      onward.stops law under.0 d d' l l' n m n' under.1 s under.2 more (with_step n r m r_is m_is) (same_items n r m m_is same) (as_long n r m r_is long) (made under.0 under.1 under.2) x done crashed failed failed_at kept

  pub homes_going_on : IsUnderWay d n → (x : Result (Unit {0}) Stop) → IfMade x Carried → IfErr x (λ why. IfFailed why (n'.items.items ≡ m.items.items)) → homes_in n'.items.items ≡ homes_in n.items.items
  homes_going_on under x done kept = onward.homes law under.0 d d' l l' n m n' under.1 s under.2 more (with_step n r m r_is m_is) (same_items n r m m_is same) (as_long n r m r_is long) (made under.0 under.1 under.2) x done kept

-- ---- a flush begins

-- with the number of its calls
pub with_number : (n r m k : Node) (s : LogStep) → r ≡ record n { items = r.items } → m ≡ record r { log = m.log; block = m.block } → k ≡ record m { numbers = record m.numbers { begun = number_of m.numbers s } }
    → k ≡ record n { log = k.log; items = k.items; block = k.block; numbers = record n.numbers { begun = number_of n.numbers s } }
with_number n r m k s r_is m_is k_is =
    k_is ∙ ap (λ (x : Node). record x { numbers = record x.numbers { begun = number_of x.numbers s } }) (with_step n r m r_is m_is)
    ∙ ap (λ (x : Node). record n { log = x.log; items = x.items; block = x.block; numbers = record n.numbers { begun = number_of n.numbers s } }) (sym k_is)

module _ (law : WidthsAreNumbers) (d d' : DiskState) (l l' : Option (List Operation)) (n r m k n' : Node) (s : LogStep) (rest : IsResting d n) (more : n.log.sequence + 1 < 2 ^ 64) (r_is : r ≡ record n { items = r.items })
    (same : r.items.items ≡ n.items.items) (m_is : m ≡ record r { log = m.log; block = m.block }) (long : length m.block.items ≡ length r.block.items) (answer : FlushAnswer r.log m.log m.block.items (Some s)) (off : s ≢ step.NoRoom)
    (k_is : k ≡ record m { numbers = record m.numbers { begun = number_of m.numbers s } }) where
  abbrev Begun : Type 0
  Begun = IsCarried k.block.items (point_of d l k) (point_of d' l' n') s

  k_items : k.items.items ≡ n.items.items
  k_items = ap (λ (x : Node). x.items.items) k_is ∙ same_items n r m m_is same

  k_long : length k.block.items ≡ length n.block.items
  k_long = ap (λ (x : Node). length x.block.items) k_is ∙ as_long n r m r_is long

  its_answer : FlushAnswer n.log k.log k.block.items (Some s)
  its_answer = subst (λ (x : Node). FlushAnswer n.log x.log x.block.items (Some s)) (sym k_is) (answers n r m (Some s) r_is answer)

  pub may_begin : MayCarry d s
  may_begin = beginning.may_begin law d d' l l' n k n' s rest more (with_number n r m k s r_is m_is k_is) k_items k_long its_answer off

  pub has_begun : n' ≡ record k { items = n'.items; flying = n'.flying; numbers = record k.numbers { low = n'.numbers.low }; armed = n'.armed } → n'.flying ≡ length (d'.in_flight 1) → Awaits n'.armed → crash_at n' ≡ crash_at k → Begun → HasBegun d l n d' l' n'
  has_begun n'_is flying awaits armed done = beginning.has_begun law d d' l l' n k n' s rest more (with_number n r m k s r_is m_is k_is) k_items k_long its_answer off n'_is flying awaits armed done

  pub stops_beginning : (x : Result (Unit {0}) Stop) → IfMade x Begun → IfErr x (λ why. IfCrashed why (IsAtCrash (crash_at k) n'.items.items)) → IfErr x (λ why. IfFailed why (FailsAt k.block.items (point_of d l k) d' l' s))
      → IfErr x (λ why. FailedAt why (block_of s)) → IfErr x (λ why. IfFailed why (n'.items.items ≡ k.items.items)) → IfErr x (λ why. StopsBehind 1 d l n d' l' n'.items.items why)
  stops_beginning x done crashed failed failed_at kept = beginning.stops_beginning law d d' l l' n k n' s rest more (with_number n r m k s r_is m_is k_is) k_items k_long its_answer off x done crashed failed failed_at kept

  pub homes_begun : (x : Result (Unit {0}) Stop) → IfMade x Begun → IfErr x (λ why. IfFailed why (n'.items.items ≡ k.items.items)) → homes_in n'.items.items ≡ homes_in n.items.items
  homes_begun x done kept = beginning.homes_beginning law d d' l l' n k n' s rest more (with_number n r m k s r_is m_is k_is) k_items k_long its_answer off x done kept
