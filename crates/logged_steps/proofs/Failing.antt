-- Where a write failed that may be in flight without an item the node is still one alone on an image with its log.
use Rattle.std.proofs.Common.{◌≡◌, ℕ, List, [], ◌∷◌, None, Some, refl, sym, ◌∙◌}
use Rattle.disk_items.specs.Deeds.{Wrote, deed_told}
use Rattle.run_rules.specs.Follows as run
use Rattle.script_lang.specs.declared.script.Client.{Client}
use Rattle.trace_text.specs.declared.item.TraceItem.{TraceItem}
use Rattle.trace_text.specs.declared.item.TraceItem.TheVariants as trace
use Rattle.logged_steps.specs.Fails.{AsItWas, InAWrite}
use Rattle.logged_steps.specs.Laws.{FailedWritesKeep, IsLoggedAt, StepsKeep}
use Rattle.logged_steps.specs.Steps.{Here, Then, with_write}
use Rattle.logged_steps.proofs.Histories.{with_other}

none_some : {A : Type 0} {a : A} → None ≡ Some a → ⊥
none_some e = cc

-- an item that tells of a write is no call
says_nothing : (clients : List Client) (item : TraceItem) (node b : ℕ) → deed_told item ≡ Some (Wrote node b) → run.history_of clients (item ∷ []) ≡ []
says_nothing clients (trace.Call i name number call reply) node b e = absurd (none_some e)
says_nothing clients (trace.Lost i kept) node b e = absurd (none_some e)
says_nothing clients x node b e = refl

pub failed_writes_keep : StepsKeep → FailedWritesKeep
failed_writes_keep keep v s d clients time p q at AsItWas = at
failed_writes_keep keep v s d clients time p q at (InAWrite b bytes list log item told step) =
    let then : IsLoggedAt v s d clients (with_write p b bytes list log item) = keep v s d clients time p (with_write p b bytes list log item) at (Then p (with_write p b bytes list log item) Here step) in
    record {
      tells = then.tells;
      sound = then.sound;
      others = then.others;
      world = then.world;
      is = then.is;
      volume = then.volume;
      history = sym (with_other clients p.items item (says_nothing clients item 1 b told)) ∙ then.history;
      may = then.may;
    }
