-- A call for which too few blocks are free is told, behind how many are.
use Rattle.std.proofs.Common.{◌≡◌, ◌≤◌, ◌+◌, ℕ, suc, false, List, [], ◌∷◌, ◌++◌, Option, refl, sym, ap, subst, ◌∙◌, arith}
use Rattle.file_tree.specs.declared.call.Call.{Call}
use Rattle.file_tree.specs.declared.reply.Reply.TheVariants as replies
use Rattle.lone_answers.specs.Answers.{IsSpaceless}
use Rattle.lone_answers.specs.Reading.{Nothing}
use Rattle.lone_view.specs.Seeing.{Lone}
use Rattle.shared_disk.specs.Disk.{DiskState, Operation}
use Rattle.trace_text.specs.declared.item.TraceItem.{TraceItem}
use Rattle.trace_text.specs.declared.item.TraceItem.TheVariants as trace
use Rattle.logged_answers.specs.Points.{ItsNoSpace, Point, call_item, telling}
use Rattle.logged_answers.specs.Points as points
use Rattle.logged_answers.specs.Steps.{HasNoSpace, Step, TellsFull, Then, with_quiet_answer}
use Rattle.logged_node.specs.declared.node.Node.{Node}
use Rattle.logged_node.specs.Nodes.{IsBeforeCrash, IsResting, crash_at, crash_of, numbers_of, point_of}
use Rattle.logged_node.proofs.Arming.{before_crash, crash_stays}
use Rattle.logged_calls.specs.Calls.{HasMoved, HasTaken, most_headers, no_space}
use Rattle.logged_calls.specs.Telling.{with_call}
use Rattle.logged_calls.proofs.Untold.{behind_both, quiet_steps}
use Rattle.logged_calls.proofs.Told.{counted_quietly, rests_told}

module _ (time : ℕ) (name : List ℕ) (call : Call) (need free : ℕ) (d e : DiskState) (l k : Option (List Operation)) (n m r f n' : Node) (moved : HasMoved most_headers d l n e k m) (synced : m.numbers.changed ≤ m.numbers.low)
    (less : IsSpaceless n.view call need free) (r_is : r ≡ record m { items = r.items }) (same : r.items.items ≡ m.items.items) (f_is : f ≡ record r { items = f.items }) (first : f.items.items ≡ r.items.items ++ trace.Full 1 need free ∷ [])
    (n'_is : n' ≡ record f { items = n'.items; numbers = with_call f.numbers false })
    (its : TraceItem) (its_is : its ≡ trace.Call 1 name (m.numbers.answered + 1) call replies.NoSpace) (told : n'.items.items ≡ f.items.items ++ its ∷ []) where
  f_was : f ≡ record m { items = f.items }
  f_was = f_is ∙ ap (λ (x : Node). record x { items = f.items }) r_is

  is : n' ≡ record m { items = n'.items; numbers = with_call m.numbers false }
  is = n'_is ∙ ap (λ (x : Node). record x { items = n'.items; numbers = with_call x.numbers false }) f_was

  sum : m.numbers.answered + 1 ≡ suc m.numbers.answered
  sum = omega arith

  between : f.items.items ≡ m.items.items ++ trace.Full 1 need free ∷ []
  between = first ∙ ap (λ (xs : List TraceItem). xs ++ trace.Full 1 need free ∷ []) same

  abbrev item : TraceItem
  item = trace.Call 1 name (suc m.numbers.answered) call replies.NoSpace

  items_are : n'.items.items ≡ (m.items.items ++ trace.Full 1 need free ∷ []) ++ item ∷ []
  items_are = told ∙ (λ i. between i ++ (its_is ∙ ap (λ (a : ℕ). trace.Call 1 name a call replies.NoSpace) sum) i ∷ [])

  abbrev at : Point
  at = point_of e k m

  abbrev full : Point
  full = record at { items = telling at (trace.Full 1 need free); next = ItsNoSpace call need free }

  point_is : point_of e k n' ≡ record (with_quiet_answer full (call_item full name call replies.NoSpace)) { next = points.Anything }
  point_is = ap (λ (x : Node). record (point_of e k x) { items = n'.items.items }) is ∙ (λ i. record at { numbers = record (numbers_of m.numbers) { answered = next i }; items = items_are i })
    where
      next : m.numbers.answered + 1 ≡ suc m.numbers.answered
      next = omega arith

  here : IsSpaceless m.view call need free
  here = subst (λ (v : Lone). IsSpaceless v call need free) (sym moved.kept.view) less

  pub no_space_taken : HasTaken time name call d l n e k n'
  no_space_taken = record {
    steps = Then full (point_of e k n') (Then at full (moved.goes.steps time) (TellsFull (moved.ready.resting.idle, refl, moved.ready.mounted) call need free here synced))
        (subst (Step time full) (sym point_is) (HasNoSpace name call need free refl here (m.items.items, refl)));
    disk = moved.goes.disk;
    ready = record { resting = rests; counted = counted_quietly m n' is moved.ready.counted; mounted = ap (λ (x : Node). x.unmounts) is ∙ moved.ready.mounted };
    armed = armed;
    before = subst (λ (c : Option ℕ). IsBeforeCrash c n'.items.items) armed (before_crash n'.armed n'.items.items rests.on.awaits);
    view = n.view;
    read = Nothing;
    tells = record {
      before = m.items.items;
      did = quiet_steps time (point_of d l n) at (moved.goes.steps time) moved.kept.answered;
      last = trace.Full 1 need free ∷ trace.Call 1 name (suc n.numbers.answered) call replies.NoSpace ∷ [];
      answer = no_space need free less;
      told = items_are ∙ behind_both m.items.items (trace.Full 1 need free ∷ []) (item ∷ []) ∙ ap (λ (a : ℕ). m.items.items ++ trace.Full 1 need free ∷ trace.Call 1 name (suc a) call replies.NoSpace ∷ []) moved.kept.answered;
    };
    answered = ap (λ (x : Node). x.numbers.answered) is ∙ (let a = moved.kept.answered in omega (arith, a));
    journal = ap (λ (x : Node). x.log.journal) is ∙ moved.kept.journal;
    sequence = subst (λ (s : ℕ). s ≤ n.log.sequence + most_headers) (sym (ap (λ (x : Node). x.log.sequence) is)) moved.sequence;
  }
    where
      rests : IsResting e n'
      rests = rests_told e m n' false is moved.ready.resting

      armed : crash_at n' ≡ crash_at n
      armed = ap (λ (x : Node). crash_of x.armed n'.items.items) is ∙ crash_stays m.armed (m.items.items ++ trace.Full 1 need free ∷ []) n'.items.items item refl items_are
          ∙ crash_stays m.armed m.items.items (m.items.items ++ trace.Full 1 need free ∷ []) (trace.Full 1 need free) refl refl ∙ moved.goes.armed
