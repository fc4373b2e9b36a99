-- The history of a run's items has as many calls as the node answered.
use Rattle.std.proofs.Common.{◌≡◌, ℕ, suc, ◌+◌, List, [], ◌∷◌, ◌++◌, refl, sym, ap, subst, ◌∙◌, arith}
use Rattle.cluster_history.specs.History.{IsNumbered, Legal, calls_of}
use Rattle.cluster_history.specs.declared.Item.{Item}
use Rattle.cluster_history.specs.declared.Item.TheVariants as item
use Rattle.file_tree.specs.declared.call.Call.{Call}
use Rattle.file_tree.specs.declared.call.Call.TheVariants as calls
use Rattle.file_tree.specs.declared.reply.Reply.{Reply}
use Rattle.file_tree.specs.declared.reply.Reply.TheVariants as replies
use Rattle.image_machine.specs.Volumes.{images_of}
use Rattle.logged_steps.specs.LoggedLaws.{ItsHistoryIsLegal}
use Rattle.logged_steps.specs.States.{Numbers}
use Rattle.run_rules.specs.Follows.{history_of}
use Rattle.script_lang.specs.declared.script.Client.{Client}
use Rattle.trace_text.specs.declared.item.TraceItem.{TraceItem}
use Rattle.trace_text.specs.declared.item.TraceItem.TheVariants as trace
use Rattle.tree_histories.specs.Trees.{TreeHeadline}
use Rattle.logged_steps.specs.Laws.{IsLoggedAt, StepsKeep}
use Rattle.logged_steps.specs.Points.{Point, call_item, state_of}
use Rattle.logged_steps.specs.Steps.{Answers, AnswersQuietly, BeginsFlush, BeginsHeader, Commits, EndsBlocks, EndsFlush, GoesHome, HasNoSpace, Here, Reads, Rests, Step, Steps, Syncs, TellsFull, Then, Unmounts, WritesHead, WritesLog}
use Rattle.logged_steps.proofs.Histories.{history_on, with_other}
use Rattle.logged_runs.specs.Laws.{CallsAreCounted}
use Rattle.logged_runs.proofs.Starting.{no_calls}

-- ---- calls

pub calls_on : (node : ℕ) (xs ys : List Item) → calls_of node (xs ++ ys) ≡ calls_of node xs + calls_of node ys
calls_on node [] ys = omega arith
calls_on node (item.Lost i kept ∷ xs) ys = calls_on node xs ys
calls_on node (item.Call i client number call reply ∷ xs) ys = let rest = calls_on node xs ys in omega (arith, rest)

-- ---- a step

-- the node answered so many calls, which the items have
abbrev Counted : List Client → Point → Type 0
Counted clients p = calls_of 1 (history_of clients p.items) ≡ p.numbers.answered

module _ (clients : List Client) (p : Point) (counted : Counted clients p) where
  other : (x : TraceItem) → history_of clients (x ∷ []) ≡ [] → calls_of 1 (history_of clients (p.items ++ x ∷ [])) ≡ p.numbers.answered
  other x silent = ap (calls_of 1) (with_other clients p.items x silent) ∙ counted

  one_more : (name : List ℕ) (call : Call) (reply : Reply) → calls_of 1 (history_of clients (p.items ++ call_item p name call reply ∷ [])) ≡ suc p.numbers.answered
  one_more name call reply =
      ap (calls_of 1) (history_on clients p.items (call_item p name call reply ∷ []))
      ∙ calls_on 1 (history_of clients p.items) (history_of clients (call_item p name call reply ∷ []))
      ∙ ap (λ n. n + 1) counted ∙ omega arith

step : (clients : List Client) (time : ℕ) (p q : Point) → Step time p q → Counted clients p → Counted clients q
step clients time p q (Reads answering b lock bytes asked none whole told) counted = counted
step clients time p q (Answers answering name call reply change kept done some fits room are) counted = one_more clients p counted name call reply
step clients time p q (AnswersQuietly answering name call reply change done none no_sync) counted = one_more clients p counted name call reply
step clients time p q (Syncs answering name low) counted = one_more clients p counted name calls.Sync replies.Ok
step clients time p q (TellsFull answering call need free none low) counted = other clients p counted (trace.Full 1 need free) refl
step clients time p q (HasNoSpace name call need free next none ends) counted = one_more clients p counted name call replies.NoSpace
step clients time p q (BeginsFlush any idle due room) counted = counted
step clients time p q (BeginsHeader any idle home live room) counted = counted
step clients time p q (WritesLog new f b bytes list some numbers flushes may gains) counted = other clients p counted (trace.WriteLog 1 b) refl
step clients time p q (EndsBlocks new f done bytes list some stage flushes flies gains) counted = other clients p counted (trace.Barrier 1) refl
step clients time p q (WritesHead new f b sequence bytes list some numbers flushes may gains) counted = other clients p counted (trace.WriteHead 1 b sequence p.numbers.begun) refl
step clients time p q (EndsFlush new f tail bytes list some numbers stage flushes flies gains) counted = other clients p counted (trace.Barrier 1) refl
step clients time p q (Commits b next ends) counted = other clients p counted (trace.Commit 1 p.log.sequence p.numbers.low) refl
step clients time p q (GoesHome any new lock b bytes list home may gains) counted = other clients p counted (trace.WriteHome 1 b) refl
step clients time p q (Rests new list any no_header settles flies gains) counted = other clients p counted (trace.Barrier 1) refl
step clients time p q (Unmounts answering) counted = other clients p counted (trace.Unmount 1) refl

steps : (clients : List Client) (time : ℕ) (p q : Point) → Steps time p q → Counted clients p → Counted clients q
steps clients time p q Here counted = counted
steps clients time p q (Then m r before last) counted = step clients time m q last (steps clients time p m before counted)

-- ---- a run

pub calls_are_counted : StepsKeep → ItsHistoryIsLegal → CallsAreCounted
calls_are_counted keep legal v s d clients time a p begins run = record {
  numbered = subst IsNumbered (sym at.history) told.numbered;
  legal = subst (Legal (history_of clients p.items)) at.is.start (subst (λ is. Legal is at.world.book.start) (sym at.history) told.legal);
  count = steps clients time a p run first;
}
  where
    at : IsLoggedAt v s d clients p
    at = keep v s d clients time a p begins.at run

    told : TreeHeadline (images_of v) at.world
    told = legal v s at.world d (state_of p) at.is

    first : Counted clients a
    first = ap (λ is. calls_of 1 (history_of clients is)) begins.items ∙ ap (calls_of 1) (no_calls clients begins.replays begins.of_replay) ∙ sym (ap (λ (n : Numbers). n.answered) begins.numbers)
