-- How a call ends that changes something.
use Rattle.std.proofs.Common.{◌≡◌, ◌+◌, ◌^◌, ◌<◌, ℕ, false, List, length, Option, sym, ap, subst, ◌∙◌}
use Rattle.std.specs.List.{All, AllByRecursion}
use Rattle.file_tree.specs.declared.call.Call.{Call}
use Rattle.file_tree.specs.declared.reply.Reply.{Reply}
use Rattle.drafts.specs.declared.change.Change.{Change}
use Rattle.drafts.specs.declared.change.Written.{Written}
use Rattle.image_changes.specs.Does.{AreInside, is_nothing}
use Rattle.lone_answers.specs.Answers.{IsDoneBy}
use Rattle.lone_view.specs.Seeing.{Lone, seen_alone}
use Rattle.shared_disk.specs.Disk.{DiskState, Operation}
use Rattle.trace_text.specs.declared.item.TraceItem.{TraceItem}
use Rattle.logged_node.specs.Nodes.{point_of}
use Rattle.logged_node.specs.declared.ends.Stop.TheVariants as stop
use Rattle.logged_node.specs.declared.node.Node.{Node}
use Rattle.logged_calls.specs.Adding.{HasAdded, HasNoPlace, IsLoggable, MayBeLogged}
use Rattle.logged_calls.specs.Calls.{IsReady, most_headers}
use Rattle.logged_calls.specs.Ends.{IsTooSmallFor, IsUnloggableFor, StopsUntold}
use Rattle.logged_calls.proofs.Testing.{are_on, are_whole, loggable_passes, passed_is_loggable}
use Rattle.logged_calls.proofs.Moved.{stops_there}

module _ (d : DiskState) (l : Option (List Operation)) (n : Node) (time : ℕ) (call : Call) (reply : Reply) (change : Change) (ready : IsReady d n) (done : IsDoneBy n.view time call reply change) where
  whole_there : AllByRecursion (λ (w : Written). length w.bytes ≡ n.log.journal.size) change.blocks.items
  whole_there = subst (λ (size : ℕ). AllByRecursion (λ (w : Written). length w.bytes ≡ size) change.blocks.items) (ready.resting.on.view ∙ sym ready.resting.on.journal) (are_whole (seen_alone n.view) change.blocks.items done.inside)

  -- its change is one that the log takes, where it passes the test, and else none
  pub passes : MayBeLogged change → IsLoggable n.log.journal.size change
  passes = passed_is_loggable n.log.journal.size change ready.resting.on.sound.size whole_there done.does.form

  pub unloggable : is_nothing change ≡ false → (MayBeLogged change → ⊥) → IsUnloggableFor (point_of d l n) time call
  unloggable changes not = record { reply = reply; change = change; done = done; changes = changes; not = λ is. not (loggable_passes n.log.journal.size change ready.resting.on.sound.size whole_there is) }

  -- it writes blocks of the disk
  pub low_there : All (λ (w : Written). w.block < d.count) change.blocks.items
  low_there = are_on (seen_alone n.view) d.count change ready.resting.on.groups done.inside

  pub too_small : (e : DiskState) (k : Option (List Operation)) (m : Node) → HasNoPlace most_headers change d l n e k m → IsTooSmallFor (point_of e k m) time call
  too_small e k m none = record { reply = reply; change = change; done = subst (λ (v : Lone). IsDoneBy v time call reply change) (sym none.moved.kept.view) done; crowded = none.crowded }

  module _ (e : DiskState) (k : Option (List Operation)) (q : Node) (added : HasAdded most_headers change d l n e k q) where
    same_view : q.view ≡ n.view
    same_view = ap (λ (x : Node). x.view) added.node ∙ added.moved.kept.view

    pub number_there : n.numbers.answered + 1 < 2 ^ 64 → q.numbers.answered + 1 < 2 ^ 64
    number_there low = subst (λ (a : ℕ). a + 1 < 2 ^ 64) (sym (ap (λ (x : Node). x.numbers.answered) added.node ∙ added.moved.kept.answered)) low

    pub inside_there : AreInside (seen_alone q.view) change
    inside_there = subst (λ (v : Lone). AreInside (seen_alone v) change) (sym same_view) done.inside

    -- for want of memory it stops before it has told the call
    pub stops_unkept : (items : List TraceItem) → items ≡ q.items.items → StopsUntold d l n e k items stop.NoMemory
    stops_unkept items same = stops_there d e l k n added.roomy items added.moved (same ∙ ap (λ (x : Node). x.items.items) added.node)
