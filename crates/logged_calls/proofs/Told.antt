-- A call that changes nothing is told, behind what had to be done for it.
use Rattle.std.proofs.Common.{◌≡◌, ◌≤◌, ◌+◌, ℕ, suc, Bool, true, false, List, [], ◌∷◌, ◌++◌, Option, refl, sym, ap, subst, ◌∙◌, arith}
use Rattle.file_tree.specs.declared.call.Call.{Call}
use Rattle.file_tree.specs.declared.call.Call.TheVariants as calls
use Rattle.file_tree.specs.declared.reply.Reply.{Reply}
use Rattle.file_tree.specs.declared.reply.Reply.TheVariants as replies
use Rattle.drafts.specs.declared.change.Change.{Change}
use Rattle.image_changes.specs.Does.{is_nothing}
use Rattle.lone_answers.specs.Answers.{IsDoneBy}
use Rattle.lone_answers.specs.Reading.{Nothing}
use Rattle.lone_view.specs.Seeing.{Lone}
use Rattle.shared_disk.specs.Disk.{DiskState, Operation}
use Rattle.trace_text.specs.declared.item.TraceItem.{TraceItem}
use Rattle.trace_text.specs.declared.item.TraceItem.TheVariants as trace
use Rattle.logged_answers.specs.Points.{Point, call_item}
use Rattle.logged_answers.specs.Steps.{AnswersQuietly, Step, Syncs, Then, with_quiet_answer}
use Rattle.logged_node.specs.declared.node.Node.{Node}
use Rattle.logged_node.specs.Nodes.{IsBeforeCrash, IsResting, crash_at, crash_of, numbers_of, point_of}
use Rattle.logged_node.specs.Rooms.{IsCounted}
use Rattle.logged_node.proofs.Arming.{before_crash, crash_stays}
use Rattle.logged_calls.specs.Calls.{HasMoved, HasTaken, as_done, most_headers}
use Rattle.logged_calls.specs.Telling.{with_call}
use Rattle.logged_calls.proofs.Untold.{quiet_steps}

-- ---- other items and numbers

pub rests_told : (e : DiskState) (m n' : Node) (b : Bool) → n' ≡ record m { items = n'.items; numbers = with_call m.numbers b } → IsResting e m → IsResting e n'
rests_told e m n' b is rest = subst (IsResting e) (sym is) (record {
  on = record {
    sound = rest.on.sound;
    widths = rest.on.widths;
    blocks = rest.on.blocks;
    block = rest.on.block;
    journal = rest.on.journal;
    view = rest.on.view;
    places = rest.on.places;
    apart = rest.on.apart;
    some = rest.on.some;
    groups = rest.on.groups;
    kept = rest.on.kept;
    unfenced = rest.on.unfenced;
    flying = rest.on.flying;
    few = rest.on.few;
    awaits = rest.on.awaits;
  };
  idle = rest.idle;
  none = rest.none;
  home = rest.home;
  small = rest.small;
})

-- with a call that changed nothing the numbers are right as before
pub counted_quietly : (m n' : Node) → n' ≡ record m { items = n'.items; numbers = with_call m.numbers false } → IsCounted m → IsCounted n'
counted_quietly m n' is counted = subst IsCounted (sym is) (record { changed = (let low = counted.changed in omega (arith, low)); owing = counted.owing })

-- ---- the call is told

module _ (time : ℕ) (name : List ℕ) (call : Call) (reply : Reply) (change : Change) (d e : DiskState) (l k : Option (List Operation)) (n m r n' : Node) (moved : HasMoved most_headers d l n e k m) (done : IsDoneBy n.view time call reply change)
    (nothing : is_nothing change ≡ true) (r_is : r ≡ record m { items = r.items }) (same : r.items.items ≡ m.items.items) (n'_is : n' ≡ record r { items = n'.items; numbers = with_call r.numbers false })
    (item : TraceItem) (item_is : item ≡ trace.Call 1 name (m.numbers.answered + 1) call reply) (told : n'.items.items ≡ r.items.items ++ item ∷ []) where
  is : n' ≡ record m { items = n'.items; numbers = with_call m.numbers false }
  is = n'_is ∙ ap (λ (x : Node). record x { items = n'.items; numbers = with_call x.numbers false }) r_is

  sum : m.numbers.answered + 1 ≡ suc m.numbers.answered
  sum = omega arith

  items_are : n'.items.items ≡ m.items.items ++ trace.Call 1 name (suc m.numbers.answered) call reply ∷ []
  items_are = told ∙ (λ i. same i ++ (item_is ∙ ap (λ (a : ℕ). trace.Call 1 name a call reply) sum) i ∷ [])

  abbrev at : Point
  at = point_of e k m

  point_is : point_of e k n' ≡ with_quiet_answer at (call_item at name call reply)
  point_is = ap (λ (x : Node). record (point_of e k x) { items = n'.items.items }) is
      ∙ (λ i. record at { numbers = record (numbers_of m.numbers) { answered = next i }; items = items_are i })
    where
      next : m.numbers.answered + 1 ≡ suc m.numbers.answered
      next = omega arith

  its_view : IsDoneBy m.view time call reply change
  its_view = subst (λ (v : Lone). IsDoneBy v time call reply change) (sym moved.kept.view) done

  step_of : (b : Bool) → (b ≡ true → (call ≡ calls.Sync) × (reply ≡ replies.Ok)) → ((call ≡ calls.Sync) × (reply ≡ replies.Ok) → b ≡ true) → (b ≡ true → m.numbers.changed ≤ m.numbers.low)
      → Step time at (with_quiet_answer at (call_item at name call reply))
  step_of true so back synced =
      let it = so refl in
      subst (λ (x : Call). Step time at (with_quiet_answer at (call_item at name x reply))) (sym it.0) (subst (λ (x : Reply). Step time at (with_quiet_answer at (call_item at name calls.Sync x))) (sym it.1)
      (Syncs (moved.ready.resting.idle, refl, moved.ready.mounted) name (synced refl)))
  step_of false so back synced = AnswersQuietly (moved.ready.resting.idle, refl, moved.ready.mounted) name call reply change its_view nothing (λ it. absurd (let e : false ≡ true = back it in cc))

  pub quietly_taken : (b : Bool) → (b ≡ true → (call ≡ calls.Sync) × (reply ≡ replies.Ok)) → ((call ≡ calls.Sync) × (reply ≡ replies.Ok) → b ≡ true) → (b ≡ true → m.numbers.changed ≤ m.numbers.low) → HasTaken time name call d l n e k n'
  quietly_taken b so back synced = record {
    steps = Then at (point_of e k n') (moved.goes.steps time) (subst (Step time at) (sym point_is) (step_of b so back synced));
    disk = moved.goes.disk;
    ready = record { resting = rests; counted = counted_quietly m n' is moved.ready.counted; mounted = ap (λ (x : Node). x.unmounts) is ∙ moved.ready.mounted };
    armed = armed;
    before = subst (λ (c : Option ℕ). IsBeforeCrash c n'.items.items) armed (before_crash n'.armed n'.items.items rests.on.awaits);
    view = n.view;
    read = Nothing;
    tells = record {
      before = m.items.items;
      did = quiet_steps time (point_of d l n) at (moved.goes.steps time) moved.kept.answered;
      last = trace.Call 1 name (suc n.numbers.answered) call reply ∷ [];
      answer = as_done reply change done;
      told = items_are ∙ ap (λ (a : ℕ). m.items.items ++ trace.Call 1 name (suc a) call reply ∷ []) moved.kept.answered;
    };
    answered = ap (λ (x : Node). x.numbers.answered) is ∙ (let a = moved.kept.answered in omega (arith, a));
    journal = ap (λ (x : Node). x.log.journal) is ∙ moved.kept.journal;
    sequence = subst (λ (s : ℕ). s ≤ n.log.sequence + most_headers) (sym (ap (λ (x : Node). x.log.sequence) is)) moved.sequence;
  }
    where
      rests : IsResting e n'
      rests = rests_told e m n' false is moved.ready.resting

      armed : crash_at n' ≡ crash_at n
      armed = ap (λ (x : Node). crash_of x.armed n'.items.items) is ∙ crash_stays m.armed m.items.items n'.items.items (trace.Call 1 name (suc m.numbers.answered) call reply) refl items_are ∙ moved.goes.armed
