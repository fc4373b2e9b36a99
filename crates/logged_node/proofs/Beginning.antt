-- A flush begins, and makes its first step; or it doesn't, and the node is as it was.
use Rattle.std.proofs.Common.{◌≡◌, ◌≢◌, ◌≤◌, ◌<◌, ◌+◌, ◌^◌, ℕ, inl, inr, List, length, Option, None, Some, refl, sym, ap, ap₂, subst, ◌∙◌, arith}
use Rattle.std.specs.Prelude.{IfErr, Result}
use Rattle.std.specs.FinMap as table
use Rattle.log_values.specs.Blocks as set
use Rattle.log_values.specs.Flushing.{AllAreHome, Begins, FlushAnswer, FlushStep, HasRoom, IsDue, NothingIsLive, a_barrier, a_block, a_header, a_step, alone, begun, begun_alone, goes_on, no_room, the_last, with_all}
use Rattle.log_values.specs.Flushing as answers
use Rattle.log_values.specs.Log.{Flush, LogValue}
use Rattle.log_values.specs.Log.Stage.{Ending, Headed, Writing}
use Rattle.log_values.specs.Sound.{IsSoundLog}
use Rattle.log_values.specs.Transactions.{due}
use Rattle.log_values.specs.declared.steps.LogStep.{LogStep}
use Rattle.log_values.specs.declared.steps.LogStep.TheVariants as step
use Rattle.log_values.proofs.Going.{begins_sound}
use Rattle.log_values.proofs.Landing.{alone_takes}
use Rattle.log_widths.specs.Laws.{WidthsAreNumbers}
use Rattle.log_widths.specs.Widths.{HasLogWidths}
use Rattle.log_widths.proofs.Staying.{beginning_keeps_widths}
use Rattle.node_journal.proofs.Lengths.{chunks_length}
use Rattle.logged_steps.specs.Steps.{BeginsFlush, BeginsHeader, Here, Steps, Then}
use Rattle.logged_steps.proofs.Chunks.{due_is_some}
use Rattle.logged_steps.proofs.Telling.{steps_go_on}
use Rattle.shared_disk.specs.Disk.{DiskState, Operation, flight_to}
use Rattle.trace_text.specs.declared.item.TraceItem.{TraceItem}
use Rattle.logged_node.specs.declared.ends.Stop.{Stop}
use Rattle.logged_node.specs.declared.node.Node.{Node}
use Rattle.logged_node.specs.Ends.{FailedAt, IfCrashed, IfFailed, IfMade}
use Rattle.logged_node.specs.Flushing.{CanFlush, FailsAt, HasBegun, HasNoRoom, HasNothingToFlush, IsAsItWas, IsCarried, IsFlushing, MayCarry, block_of, number_of, of_all, of_none}
use Rattle.logged_node.specs.Homing.{homes_in}
use Rattle.logged_node.specs.Nodes.{Awaits, IsAtCrash, IsLogOf, IsNodeOn, IsResting, IsSmall, KeepsView, NoneGoesHome, StopsBehind, crash_at, point_of}
use Rattle.logged_node.proofs.Blocks.{blocks_begin, none_some, some_same}
use Rattle.logged_node.proofs.Disks.{same_disk}
use Rattle.logged_node.proofs.Flushes.{may_carry}
use Rattle.logged_node.proofs.Going.{on_still}
use Rattle.logged_node.proofs.Onward as onward
use Rattle.logged_node.proofs.Onward.{map_err, stops_on}

-- ---- answers

-- no step of a flush is want of room
is_step : (log new : LogValue) (f : Flush) (bytes : List ℕ) (s : LogStep) → FlushStep log new f bytes s → s ≢ step.NoRoom
is_step log new f bytes _ (a_block k stage block new_is) e = cc
is_step log new f bytes _ (a_barrier stage new_is lives) e = cc
is_step log new f bytes _ (a_header tail stage tells bytes_are new_is) e = cc
is_step log new f bytes _ (the_last tail stage new_is lives) e = cc

pub nothing_is : (log new : LogValue) (bytes : List ℕ) → FlushAnswer log new bytes None → HasNothingToFlush log × (new ≡ log)
nothing_is log new bytes (answers.nothing none due live same) = ((due, live), same)

pub no_room_is : (log new : LogValue) (bytes : List ℕ) → FlushAnswer log new bytes (Some step.NoRoom) → HasNoRoom log × (new ≡ log)
no_room_is log new bytes (no_room none due stuck home same) = ((due, stuck, home), same)
no_room_is log new bytes (a_step m f _ begins flush made) = absurd (is_step m new f bytes step.NoRoom made refl)

-- where a flush begins that wasn't begun before
pub can_flush : (log new : LogValue) (bytes : List ℕ) (s : LogStep) → log.flush ≡ None → FlushAnswer log new bytes (Some s) → s ≢ step.NoRoom → CanFlush log
can_flush log new bytes _ idle (no_room none due stuck home same) off = absurd (off refl)
can_flush log new bytes s idle (a_step m f _ begins flush made) off = by m begins
  where
    by : (x : LogValue) → Begins log x → CanFlush log
    by _ (with_all none due room) = inl (due, room)
    by _ (alone none home some stuck) = inr ((λ both. stuck both.0 both.1), home, some)
    by _ (goes_on g there) = absurd (none_some (sym idle ∙ there))

-- what began, and its first step
record Started (log new : LogValue) (bytes : List ℕ) (s : LogStep) : Type 0 where
  first : LogValue
  flush : Flush
  begins : Begins log first
  is : first.flush ≡ Some flush
  made : FlushStep first new flush bytes s

started : (log new : LogValue) (bytes : List ℕ) (s : LogStep) → FlushAnswer log new bytes (Some s) → s ≢ step.NoRoom → Started log new bytes s
started log new bytes _ (no_room none due stuck home same) off = absurd (off refl)
started log new bytes s (a_step m f _ begins flush made) off = record { first = m; flush = f; begins = begins; is = flush; made = made }

-- ---- the node is as it was

pub as_it_was_left : (d : DiskState) (l : Option (List Operation)) (n m : Node) → IsResting d n → m ≡ record n { log = m.log; items = m.items; block = m.block } → m.log ≡ n.log → m.items.items ≡ n.items.items → length m.block.items ≡ length n.block.items
    → IsAsItWas d l n d l m
as_it_was_left d l n m rest m_is log items long = record {
  point = ap (point_of d l) m_is ∙ ap₂ (λ (x : LogValue) (is : List TraceItem). record (point_of d l n) { log = x; items = is }) log items;
  resting = record {
    on = on_still d d n m rest.on (same_disk d) (subst IsSoundLog (sym log) rest.on.sound) (subst HasLogWidths (sym log) rest.on.widths) (subst (IsLogOf d.count) (sym log) rest.on.blocks) (ap (λ (x : LogValue). x.journal) log)
        (ap (λ (x : Node). x.view) m_is) long (ap (λ (x : Node). x.flying) m_is ∙ rest.on.flying) (subst (λ (k : ℕ). k ≤ 512) (sym (ap (λ (x : Node). x.flying) m_is)) rest.on.few) (subst Awaits (sym (ap (λ (x : Node). x.armed) m_is)) rest.on.awaits);
    idle = ap (λ (x : LogValue). x.flush) log ∙ rest.idle;
    none = rest.none;
    home = subst NoneGoesHome (sym log) rest.home;
    small = subst IsSmall (sym log) rest.small;
  };
  armed = ap (λ (x : Node). x.armed) m_is;
}

-- ---- a flush begins

module _ (d : DiskState) (l : Option (List Operation)) (n : Node) (rest : IsResting d n) where
  abbrev begun_at : LogValue → ℕ → Node
  begun_at m k = record n { log = m; numbers = record n.numbers { begun = k } }

  its_journal : (m : LogValue) → Begins n.log m → m.journal ≡ n.log.journal
  its_journal _ (with_all none due room) = refl
  its_journal _ (alone none home some stuck) = refl
  its_journal _ (goes_on f flush) = refl

  on_begun : (m : LogValue) (k : ℕ) → Begins n.log m → IsNodeOn d (begun_at m k)
  on_begun m k begins =
      on_still d d n (begun_at m k) rest.on (same_disk d) (begins_sound n.log m rest.on.sound begins) (beginning_keeps_widths n.log m rest.on.widths begins) (blocks_begin d.count n.log rest.on.blocks m begins) (its_journal m begins) refl refl
      rest.on.flying rest.on.few rest.on.awaits

  none_flies : (b : ℕ) (bytes : List ℕ) → flight_to (d.in_flight 1) b ≡ Some bytes → ⊥
  none_flies b bytes is = none_some (ap (λ fs. flight_to fs b) (sym rest.none) ∙ is)

  none_fly : length (d.in_flight 1) ≡ 0
  none_fly = ap length rest.none

  kept_begun : (m : LogValue) (k : ℕ) → Begins n.log m → KeepsView n (begun_at m k)
  kept_begun m k begins = record { view = refl; answered = refl; changed = refl; journal = its_journal m begins; unmounts = refl }

  -- with all that is due
  abbrev flush_all : Flush
  flush_all = record { versions = n.log.fresh; revokes = n.log.gone; stage = Writing 0 }

  flushes_all : (none : n.log.flush ≡ None) (is_due : IsDue n.log) (room : HasRoom n.log (due n.log)) → IsFlushing n d (begun_at (begun n.log) n.numbers.answered) flush_all
  flushes_all none is_due room = record {
    on = on_begun (begun n.log) n.numbers.answered (with_all none is_due room);
    kept = kept_begun (begun n.log) n.numbers.answered (with_all none is_due room);
    low = refl;
    sequence = refl;
    is = refl;
    small = (let long = chunks_length n.log.journal.size n.log.journal.jid (due n.log) rest.on.sound.size in let few = rest.small in omega (arith, long, few));
    flies = λ b bytes is. absurd (none_flies b bytes is);
    many = none_fly;
    some = due_is_some n.log rest.on.sound.size is_due;
    home = rest.home;
    told = tt;
    kind = of_all (is_due, room) refl refl refl;
  }

  -- a header alone
  abbrev flush_none : Flush
  flush_none = record { versions = table.empty; revokes = set.empty; stage = Ending }

  flushes_none : n.log.flush ≡ None → AllAreHome n.log → (NothingIsLive n.log → ⊥) → (IsDue n.log → HasRoom n.log (due n.log) → ⊥) → IsFlushing n d (begun_at (begun_alone n.log) n.numbers.low) flush_none
  flushes_none none home some stuck = record {
    on = on_begun (begun_alone n.log) n.numbers.low (alone none home some stuck);
    kept = kept_begun (begun_alone n.log) n.numbers.low (alone none home some stuck);
    low = refl;
    sequence = refl;
    is = refl;
    small = (let long = alone_takes n.log.journal.size n.log.journal.jid flush_none rest.on.sound.size refl refl in omega (arith, long));
    flies = λ b bytes is. absurd (none_flies b bytes is);
    many = none_fly;
    some = tt;
    home = rest.home;
    told = tt;
    kind = of_none (λ both. stuck both.0 both.1) some refl refl refl refl home rest.small;
  }

  -- a flush is under way, of these calls
  record IsBegun (m : LogValue) (f : Flush) (k : ℕ) : Type 0 where
    flushing : IsFlushing n d (begun_at m k) f
    steps : (time : ℕ) → Steps time (point_of d l n) (point_of d l (begun_at m k))

  module _ (new : LogValue) (bytes : List ℕ) where
    number_all : (s : LogStep) → FlushStep (begun n.log) new flush_all bytes s → number_of n.numbers s ≡ n.numbers.answered
    number_all _ (a_block k stage block new_is) = refl
    number_all _ (a_barrier stage new_is lives) = refl
    number_all _ (a_header tail stage tells bytes_are new_is) = absurd (let e : Writing 0 ≡ Ending = stage in cc)
    number_all _ (the_last tail stage new_is lives) = absurd (let e : Writing 0 ≡ Headed tail = stage in cc)

    number_none : (s : LogStep) → FlushStep (begun_alone n.log) new flush_none bytes s → number_of n.numbers s ≡ n.numbers.low
    number_none _ (a_block k stage block new_is) = absurd (let e : Ending ≡ Writing k = stage in cc)
    number_none _ (a_barrier stage new_is lives) = absurd (let e : Ending ≡ Writing _ = stage in cc)
    number_none _ (a_header tail stage tells bytes_are new_is) = refl
    number_none _ (the_last tail stage new_is lives) = absurd (let e : Ending ≡ Headed tail = stage in cc)

    is_begun : (m : LogValue) (f : Flush) (s : LogStep) → Begins n.log m → m.flush ≡ Some f → FlushStep m new f bytes s → IsBegun m f (number_of n.numbers s)
    is_begun _ f s (with_all none is_due room) flush made =
        subst (λ (g : Flush). FlushStep (begun n.log) new g bytes s → IsBegun (begun n.log) g (number_of n.numbers s)) (some_same flush)
        (λ first. subst (IsBegun (begun n.log) flush_all) (sym (number_all s first)) (record { flushing = flushes_all none is_due room; steps = λ time. Then (point_of d l n) _ Here (BeginsFlush refl none is_due room) }))
        made
    is_begun _ f s (alone none home some stuck) flush made =
        subst (λ (g : Flush). FlushStep (begun_alone n.log) new g bytes s → IsBegun (begun_alone n.log) g (number_of n.numbers s)) (some_same flush)
        (λ first. subst (IsBegun (begun_alone n.log) flush_none) (sym (number_none s first)) (record { flushing = flushes_none none home some stuck; steps = λ time. Then (point_of d l n) _ Here (BeginsHeader refl none home some stuck) }))
        made
    is_begun _ f s (goes_on g there) flush made = absurd (none_some (sym rest.idle ∙ there))

-- ---- and makes its first step

module _ (law : WidthsAreNumbers) (d d' : DiskState) (l l' : Option (List Operation)) (n m n' : Node) (s : LogStep) (rest : IsResting d n) (more : n.log.sequence + 1 < 2 ^ 64)
    (m_is : m ≡ record n { log = m.log; items = m.items; block = m.block; numbers = record n.numbers { begun = number_of n.numbers s } }) (items : m.items.items ≡ n.items.items)
    (long : length m.block.items ≡ length n.block.items) (answer : FlushAnswer n.log m.log m.block.items (Some s)) (off : s ≢ step.NoRoom) where
  its_start : Started n.log m.log m.block.items s
  its_start = started n.log m.log m.block.items s answer off

  its_begin : IsBegun d l n rest its_start.first its_start.flush (number_of n.numbers s)
  its_begin = is_begun d l n rest m.log m.block.items its_start.first its_start.flush s its_start.begins its_start.is its_start.made

  abbrev one : Node
  one = record n { log = its_start.first; numbers = record n.numbers { begun = number_of n.numbers s } }

  flushing : IsFlushing n d one its_start.flush
  flushing = its_begin.flushing

  more_still : one.log.sequence + 1 < 2 ^ 64
  more_still = subst (λ (k : ℕ). k + 1 < 2 ^ 64) (sym flushing.sequence) more

  pub may_begin : MayCarry d s
  may_begin = may_carry n d one its_start.flush flushing m.log m.block.items s its_start.made

  abbrev Carried : Type 0
  Carried = IsCarried m.block.items (point_of d l m) (point_of d' l' n') s

  pub has_begun : n' ≡ record m { items = n'.items; flying = n'.flying; numbers = record m.numbers { low = n'.numbers.low }; armed = n'.armed } → n'.flying ≡ length (d'.in_flight 1) → Awaits n'.armed → crash_at n' ≡ crash_at m → Carried
      → HasBegun d l n d' l' n'
  has_begun n'_is flying awaits armed done = record {
    goes = record {
      steps = λ time. steps_go_on time (point_of d l n) (point_of d l one) (point_of d' l' n') (its_begin.steps time)
          (onward.steps law n d d' l l' one m n' its_start.flush s flushing more_still m_is items long its_start.made done time);
      disk = onward.disk_same law n d d' l l' one m n' its_start.flush s flushing more_still m_is items long its_start.made done;
      armed = armed ∙ onward.armed_still law n d d' l l' one m n' its_start.flush s flushing more_still m_is items long its_start.made;
    };
    to = (onward.comes law n d d' l l' one m n' its_start.flush s flushing more_still m_is items long its_start.made n'_is flying awaits done).0;
  }

  pub stops_beginning : (r : Result (Unit {0}) Stop) → IfMade r Carried → IfErr r (λ why. IfCrashed why (IsAtCrash (crash_at m) n'.items.items)) → IfErr r (λ why. IfFailed why (FailsAt m.block.items (point_of d l m) d' l' s))
      → IfErr r (λ why. FailedAt why (block_of s)) → IfErr r (λ why. IfFailed why (n'.items.items ≡ m.items.items)) → IfErr r (λ why. StopsBehind 1 d l n d' l' n'.items.items why)
  stops_beginning r done crashed failed failed_at kept =
      map_err r (StopsBehind 1 d l one d' l' n'.items.items) (StopsBehind 1 d l n d' l' n'.items.items) (λ why stops. stops_on d d d' l l l' n one n'.items.items why 1 1 (let same = flushing.sequence in omega (arith, same)) its_begin.steps refl (kept_begun d l n rest its_start.first (number_of n.numbers s) its_start.begins) stops)
      (onward.stops law n d d' l l' one m n' its_start.flush s flushing more_still m_is items long its_start.made r done crashed failed failed_at kept)

  pub homes_beginning : (r : Result (Unit {0}) Stop) → IfMade r Carried → IfErr r (λ why. IfFailed why (n'.items.items ≡ m.items.items)) → homes_in n'.items.items ≡ homes_in n.items.items
  homes_beginning r done kept = onward.homes law n d d' l l' one m n' its_start.flush s flushing more_still m_is items long its_start.made r done kept
