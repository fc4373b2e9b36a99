-- A call that changes something is told, behind its change in the log.
use Rattle.std.proofs.Common.{◌≡◌, ◌≢◌, ◌<◌, ◌≤◌, ◌+◌, ℕ, suc, inl, inr, Bool, true, false, List, [], ◌∷◌, ◌++◌, length, Option, None, Some, refl, sym, ap, subst, ◌∙◌, arith}
use Rattle.std.specs.Prelude.{◌==◌, if◌then◌else◌}
use Rattle.std.specs.FinMap as table
use Rattle.std.specs.List.{All, AllByRecursion}
use Rattle.std.specs.Option.{option_map}
use Rattle.std.specs.Ordering.{nat_cmp}
use Rattle.std.proofs.lemmas.Bool.{cases_Bool, cond-false, cond-true, eq-eqb, eqb-true}
use Rattle.std.proofs.lemmas.List.Elements.{recursion_from_All}
use Rattle.std.proofs.Math.ListN.{length-map}
use Rattle.file_tree.specs.declared.call.Call.{Call}
use Rattle.file_tree.specs.declared.reply.Reply.{Reply}
use Rattle.drafts.specs.declared.change.Change.{Change}
use Rattle.drafts.specs.declared.change.Written.{Written}
use Rattle.gfs2_layout.proofs.HeaderLaws.{some_none}
use Rattle.glock_names.specs.Views.{end_of}
use Rattle.image_changes.specs.Does.{IsFormed, bytes_for, frees, is_nothing}
use Rattle.log_values.specs.Changes.{CanBeAdded, with_change}
use Rattle.log_values.specs.Log.{LogValue, Version}
use Rattle.log_values.specs.Transactions.{due, logged_as}
use Rattle.lone_logs.specs.States.{bytes_of}
use Rattle.lone_logs.proofs.Adding.{fresh_with}
use Rattle.lone_answers.specs.Answers.{IsDoneBy}
use Rattle.lone_answers.specs.Reading.{Nothing}
use Rattle.lone_images.specs.Lone.{version_with}
use Rattle.lone_view.specs.Seeing.{Lone}
use Rattle.shared_disk.specs.Disk.{DiskState, Operation}
use Rattle.trace_text.specs.declared.item.TraceItem.{TraceItem}
use Rattle.trace_text.specs.declared.item.TraceItem.TheVariants as trace
use Rattle.logged_answers.specs.Points.{Point, call_item}
use Rattle.logged_answers.specs.Steps.{Answers, Step, Then, with_answer}
use Rattle.logged_node.specs.declared.node.Node.{Node}
use Rattle.logged_node.specs.Nodes.{IsBeforeCrash, IsResting, crash_at, crash_of, numbers_of, point_of}
use Rattle.logged_node.specs.Rooms.{IsCounted}
use Rattle.logged_node.proofs.Arming.{before_crash, crash_stays}
use Rattle.logged_calls.specs.Adding.{HasAdded}
use Rattle.logged_calls.specs.Calls.{HasTaken, IsReady, as_done, most_headers}
use Rattle.logged_calls.specs.Telling.{with_call}
use Rattle.logged_calls.proofs.Untold.{quiet_steps}

-- ---- what is kept behind it

written_on : (count : ℕ) (ws : List Written) (b : ℕ) (bytes : List ℕ) → AllByRecursion (λ (w : Written). w.block < count) ws → bytes_for ws b ≡ Some bytes → b < count
written_on count [] b bytes all is = absurd (some_none bytes (sym is))
written_on count (w ∷ ws) b bytes all is = elim (cases_Bool (w.block == b)) [
  | inl at ↦ subst (λ (n : ℕ). n < count) (eqb-true w.block b at) all.0
  | inr off ↦ written_on count ws b bytes all.1 (sym (cond-false (w.block == b) (Some w.bytes) (bytes_for ws b) off) ∙ is)
]

version_on : (count : ℕ) (change : Change) (versions : ℕ → Option (List ℕ)) → All (λ (w : Written). w.block < count) change.blocks.items → ((b : ℕ) (bytes : List ℕ) → versions b ≡ Some bytes → b < count)
    → (b : ℕ) (bytes : List ℕ) → version_with change versions b ≡ Some bytes → b < count
version_on count change versions low on b bytes given = by (bytes_for change.blocks.items b) refl
  where
    of_old : (t : Bool) → (if t then None else versions b) ≡ Some bytes → b < count
    of_old true e = absurd (some_none bytes (sym e))
    of_old false e = on b bytes e

    by : (o : Option (List ℕ)) → bytes_for change.blocks.items b ≡ o → b < count
    by None e = of_old (frees change b) (sym (ap (λ (z : Option (List ℕ)). elim z [ Some x ↦ Some x | None ↦ if frees change b then None else versions b ]) e) ∙ given)
    by (Some x) e = written_on count change.blocks.items b x (recursion_from_All (λ (w : Written). w.block < count) change.blocks.items low) e

-- with other blocks kept, items and numbers it rests still
rests_with : (e : DiskState) (q n' : Node) (v : Lone) → n' ≡ record q { view = v; items = n'.items; numbers = with_call q.numbers true } → v ≡ record q.view { blocks = v.blocks }
    → ((b : ℕ) (bytes : List ℕ) → table.get v.blocks b ≡ Some bytes → b < e.count) → IsResting e q → IsResting e n'
rests_with e q n' v is view kept rest = subst (IsResting e) (sym is) (record {
  on = record {
    sound = rest.on.sound;
    widths = rest.on.widths;
    blocks = rest.on.blocks;
    block = rest.on.block;
    journal = rest.on.journal;
    view = ap (λ (x : Lone). x.size) view ∙ rest.on.view;
    places = rest.on.places;
    apart = rest.on.apart;
    some = subst (λ gs. 1 ≤ length gs) (sym (ap (λ (x : Lone). x.groups) view)) rest.on.some;
    groups = subst (AllByRecursion (λ g. end_of g ≤ e.count)) (sym (ap (λ (x : Lone). x.groups) view)) rest.on.groups;
    kept = kept;
    unfenced = rest.on.unfenced;
    flying = rest.on.flying;
    few = rest.on.few;
    awaits = rest.on.awaits;
  };
  idle = rest.idle;
  none = rest.none;
  home = rest.home;
  small = rest.small;
})

-- ---- what is due behind it

-- a change that writes a block leaves one that is due
module _ (log : LogValue) (change : Change) where
  abbrev fresh : table.FinMap nat_cmp Version
  fresh = (with_change log change).fresh

  nothing_at : (due (with_change log change)).blocks ≡ [] → (b : ℕ) → bytes_of fresh b ≡ None
  nothing_at none b =
      let is_empty : fresh ≡ table.empty = table.empty_of_len fresh (table.len-entries fresh ∙ sym (length-map (table.entries fresh) (λ e. logged_as e.0 e.1)) ∙ ap length none) in
      ap (λ (m : table.FinMap nat_cmp Version). bytes_of m b) is_empty ∙ ap (option_map (λ (x : Version). x.bytes)) (table.get-empty nat_cmp b)

  some_due : IsFormed change → change.blocks.items ≢ [] → (due (with_change log change)).blocks ≢ []
  some_due form some none = by change.blocks.items refl
    where
      by : (ws : List Written) → change.blocks.items ≡ ws → ⊥
      by [] e = some e
      by (w ∷ ws) e =
          let has : bytes_for change.blocks.items w.block ≡ Some w.bytes = ap (λ xs. bytes_for xs w.block) e ∙ cond-true (w.block == w.block) (Some w.bytes) (bytes_for ws w.block) (eq-eqb w.block w.block refl) in
          let told : version_with change (bytes_of log.fresh) w.block ≡ Some w.bytes = ap (λ (z : Option (List ℕ)). elim z [ Some x ↦ Some x | None ↦ if frees change w.block then None else bytes_of log.fresh w.block ]) has in
          some_none w.bytes (sym told ∙ fresh_with log change form w.block ∙ nothing_at none w.block)

-- ---- the call is told

module _ (time : ℕ) (name : List ℕ) (call : Call) (reply : Reply) (change : Change) (d e : DiskState) (l k : Option (List Operation)) (n q r n' : Node) (added : HasAdded most_headers change d l n e k q) (done : IsDoneBy n.view time call reply change)
    (changes : is_nothing change ≡ false) (can : CanBeAdded n.log.journal.size change) (kept : (b : ℕ) → table.get r.view.blocks b ≡ version_with change (table.get q.view.blocks) b) (view : r.view ≡ record q.view { blocks = r.view.blocks })
    (r_is : r ≡ record q { view = r.view; items = r.items }) (same : r.items.items ≡ q.items.items) (n'_is : n' ≡ record r { items = n'.items; numbers = with_call r.numbers true })
    (item : TraceItem) (item_is : item ≡ trace.Call 1 name (q.numbers.answered + 1) call reply) (told : n'.items.items ≡ r.items.items ++ item ∷ []) where
  abbrev m : Node
  m = added.roomy

  abbrev at : Point
  at = point_of e k m

  is : n' ≡ record m { log = with_change m.log change; view = r.view; items = n'.items; numbers = with_call m.numbers true }
  is = n'_is ∙ ap (λ (x : Node). record x { items = n'.items; numbers = with_call x.numbers true }) r_is ∙ ap (λ (x : Node). record x { view = r.view; items = n'.items; numbers = with_call x.numbers true }) added.node

  its_view : r.view ≡ record m.view { blocks = r.view.blocks }
  its_view = view ∙ ap (λ (x : Node). record x.view { blocks = r.view.blocks }) added.node

  sum : q.numbers.answered + 1 ≡ suc m.numbers.answered
  sum = let a : q.numbers.answered ≡ m.numbers.answered = ap (λ (x : Node). x.numbers.answered) added.node in omega (arith, a)

  items_are : n'.items.items ≡ m.items.items ++ trace.Call 1 name (suc m.numbers.answered) call reply ∷ []
  items_are = told ∙ (λ i. (same ∙ ap (λ (x : Node). x.items.items) added.node) i ++ (item_is ∙ ap (λ (a : ℕ). trace.Call 1 name a call reply) sum) i ∷ [])

  point_is : point_of e k n' ≡ with_answer at change r.view.blocks (call_item at name call reply)
  point_is = ap (λ (x : Node). record (point_of e k x) { items = n'.items.items }) is
      ∙ (λ i. record at { log = with_change m.log change; view = its_view i; numbers = record (numbers_of m.numbers) { answered = next i; changed = next i }; items = items_are i })
    where
      next : m.numbers.answered + 1 ≡ suc m.numbers.answered
      next = omega arith

  step : Step time at (with_answer at change r.view.blocks (call_item at name call reply))
  step = Answers (added.moved.ready.resting.idle, refl, added.moved.ready.mounted) name call reply change r.view.blocks (subst (λ (v : Lone). IsDoneBy v time call reply change) (sym added.moved.kept.view) done) changes
      (subst (λ (size : ℕ). CanBeAdded size change) (ap (λ x. x.size) (sym added.moved.kept.journal)) can) added.fits (λ b. kept b ∙ ap (λ (x : Node). version_with change (table.get x.view.blocks) b) added.node)

  armed : crash_at n' ≡ crash_at n
  armed = ap (λ (x : Node). crash_of x.armed n'.items.items) is ∙ crash_stays m.armed m.items.items n'.items.items (trace.Call 1 name (suc m.numbers.answered) call reply) refl items_are ∙ added.moved.goes.armed

  -- a node that is ready for the next call has taken this one
  pub taken : IsReady e n' → HasTaken time name call d l n e k n'
  taken ready = record {
    steps = Then at (point_of e k n') (added.moved.goes.steps time) (subst (Step time at) (sym point_is) step);
    disk = added.moved.goes.disk;
    ready = ready;
    armed = armed;
    before = subst (λ (c : Option ℕ). IsBeforeCrash c n'.items.items) armed (before_crash n'.armed n'.items.items ready.resting.on.awaits);
    view = n.view;
    read = Nothing;
    tells = record {
      before = m.items.items;
      did = quiet_steps time (point_of d l n) at (added.moved.goes.steps time) added.moved.kept.answered;
      last = trace.Call 1 name (suc n.numbers.answered) call reply ∷ [];
      answer = as_done reply change done;
      told = items_are ∙ ap (λ (a : ℕ). m.items.items ++ trace.Call 1 name (suc a) call reply ∷ []) added.moved.kept.answered;
    };
    answered = ap (λ (x : Node). x.numbers.answered) is ∙ (let a = added.moved.kept.answered in omega (arith, a));
    journal = ap (λ (x : Node). x.log.journal) is ∙ added.moved.kept.journal;
    sequence = subst (λ (s : ℕ). s ≤ n.log.sequence + most_headers) (sym (ap (λ (x : Node). x.log.sequence) is)) added.moved.sequence;
  }

  -- and it is, where what is kept lies on the disk, and something is due
  pub ready : IsFormed change → change.blocks.items ≢ [] → All (λ (w : Written). w.block < e.count) change.blocks.items → IsReady e n'
  ready form some low = record {
    resting = rests_with e q n' r.view (n'_is ∙ ap (λ (x : Node). record x { items = n'.items; numbers = with_call x.numbers true }) r_is) view
        (λ b bytes at. version_on e.count change (table.get q.view.blocks) low added.resting.on.kept b bytes (sym (kept b) ∙ at)) added.resting;
    counted = subst IsCounted (sym is) (record { changed = omega arith; owing = λ owes. some_due m.log change form some });
    mounted = ap (λ (x : Node). x.unmounts) is ∙ added.moved.ready.mounted;
  }
