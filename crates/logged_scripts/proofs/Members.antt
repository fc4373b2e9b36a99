-- Items of steps, and how a run goes on by them.
use Rattle.std.proofs.Common.{◌≡◌, ℕ, zero, suc, ◌+◌, List, [], ◌∷◌, ◌++◌, length, get_or, Some, refl, sym, ap, ◌∙◌, subst, arith, ◌<◌}
use Rattle.std.specs.Prelude.{slice_get}
use Rattle.std.specs.List.{AllByRecursion, filter}
use Rattle.std.proofs.lemmas.List.Elements.{filter-append}
use Rattle.cluster_history.specs.History.{calls_of}
use Rattle.cluster_history.specs.declared.Item.{Item}
use Rattle.disk_items.proofs.Going.{goes_on}
use Rattle.file_tree.specs.declared.call.Call.{Call}
use Rattle.file_tree.specs.declared.reply.Reply.{Reply}
use Rattle.file_tree.specs.declared.reply.Reply.TheVariants as replies
use Rattle.run_rules.specs.Follows.{history_of}
use Rattle.script_lang.specs.Script.{ScriptValue}
use Rattle.script_lang.specs.declared.script.Client.{Client}
use Rattle.script_lang.specs.declared.script.Line.TheVariants as line
use Rattle.trace_text.specs.declared.item.TraceItem.{TraceItem}
use Rattle.trace_text.specs.declared.item.TraceItem.TheVariants as trace
use Rattle.lone_scripts.specs.Runs.{IsNotPast, IsOfMember, Runs, is_call, name_at}
use Rattle.lone_scripts.specs.Scripts.{IsForOne}
use Rattle.lone_scripts.proofs.GoingOn.{calls_go_on, other_items_go_on}
use Rattle.lone_scripts.proofs.Told.{history_filter, history_of-append}
use Rattle.lone_view.specs.Seeing.{Lone}
use Rattle.whole_runs.proofs.Counting.{calls_on}
use Rattle.whole_runs.specs.Points.{IsOfRun, Point}
use Rattle.whole_runs.specs.Steps.{Steps}
use Rattle.whole_runs.proofs.LoggedRunsTelling.{append_assoc, left_same, steps_are_told}
use Rattle.logged_calls.specs.Calls.{IsAnswer, TellsCall, TellsNoCall, as_done, no_space}
use Rattle.logged_scripts.proofs.Lists.{all_front, all_to}

-- ---- members

member_item : (x : TraceItem) → IsOfRun x → IsOfMember x
member_item (trace.Join node) is = absurd is
member_item (trace.Crash node) is = absurd is
member_item (trace.Withdraw node before after) is = absurd is
member_item (trace.Lost node kept) is = absurd is
member_item _ is = tt

-- what steps tell is of a member
pub of_members : (time : ℕ) (p q : Point) (more : List TraceItem) → Steps time p q → q.items ≡ p.items ++ more → AllByRecursion IsOfMember more
of_members time p q more steps are =
    let told = steps_are_told goes_on time p q steps in
    subst (AllByRecursion IsOfMember) (left_same p.items told.more more (sym told.items ∙ are)) (all_to IsOfRun IsOfMember (λ x is. member_item x is) told.more told.of_run)

-- ---- a run goes on

-- by steps that tell no call
pub runs_still : (s : ScriptValue) (time count : ℕ) (p q : Point) → Steps time p q → Runs s count p.items → TellsNoCall p.items q.items → AllByRecursion (IsNotPast q.items) s.armed → Runs s count q.items
runs_still s time count p q steps runs tells past =
    subst (Runs s count) (sym tells.told) (other_items_go_on s count p.items tells.more runs (of_members time p q tells.more steps tells.told) tells.none
    (subst (λ (is : List TraceItem). AllByRecursion (IsNotPast is) s.armed) tells.told past))

-- the item of a call's answer is the last, and none before it is a call
pub record IsLast (name : List ℕ) (call : Call) (number : ℕ) (items items' : List TraceItem) : Type 0 where
  pub more : List TraceItem
  pub reply : Reply
  pub are : items' ≡ (items ++ more) ++ trace.Call 1 name number call reply ∷ []
  pub none : filter is_call more ≡ []

no_calls_both : (xs ys : List TraceItem) → filter is_call xs ≡ [] → filter is_call ys ≡ [] → filter is_call (xs ++ ys) ≡ []
no_calls_both xs ys none more = filter-append is_call xs ys ∙ ap (λ (zs : List TraceItem). zs ++ filter is_call ys) none ∙ more

answer_last : (view : Lone) (time : ℕ) (name : List ℕ) (call : Call) (number : ℕ) (items before last : List TraceItem) → TellsNoCall items before → IsAnswer view time name call number last → IsLast name call number items (before ++ last)
answer_last view time name call number items before _ did (as_done reply change done) = record {
  more = did.more;
  reply = reply;
  are = ap (λ (is : List TraceItem). is ++ trace.Call 1 name number call reply ∷ []) did.told;
  none = did.none;
}
answer_last view time name call number items before _ did (no_space need free few) = record {
  more = did.more ++ trace.Full 1 need free ∷ [];
  reply = replies.NoSpace;
  are =
      ap (λ (is : List TraceItem). is ++ trace.Full 1 need free ∷ trace.Call 1 name number call replies.NoSpace ∷ []) did.told
      ∙ sym (append_assoc (items ++ did.more) (trace.Full 1 need free ∷ []) (trace.Call 1 name number call replies.NoSpace ∷ []))
      ∙ ap (λ (is : List TraceItem). is ++ trace.Call 1 name number call replies.NoSpace ∷ []) (append_assoc items did.more (trace.Full 1 need free ∷ []));
  none = no_calls_both did.more (trace.Full 1 need free ∷ []) did.none refl;
}

pub call_last : (view : Lone) (time : ℕ) (name : List ℕ) (call : Call) (number : ℕ) (items items' : List TraceItem) → TellsCall view time name call number items items' → IsLast name call number items items'
call_last view time name call number items items' tells =
    subst (IsLast name call number items) (sym tells.told) (answer_last view time name call number items tells.before tells.last tells.did tells.answer)

-- no call is in the history of items of a member without one
silent : (clients : List Client) (more : List TraceItem) → AllByRecursion IsOfMember more → filter is_call more ≡ [] → history_of clients more ≡ []
silent clients more of none = sym (history_filter clients more of) ∙ ap (history_of clients) none

-- By the answer to the next line, with the number behind those of the calls so far.
module _ (s : ScriptValue) (time count client number : ℕ) (p q : Point) (call : Call) (form : IsForOne s) (steps : Steps time p q) (runs : Runs s count p.items) (next : slice_get s.lines count ≡ Some (line.Call client call))
    (numbered : number ≡ calls_of 1 (history_of s.clients p.items)) (past : AllByRecursion (IsNotPast q.items) s.armed) (name : List ℕ) (named : name ≡ name_at s.clients client) (last : IsLast name call (suc number) p.items q.items) where
  abbrev its_item : List ℕ → ℕ → TraceItem
  its_item named_so n = trace.Call 1 named_so (suc n) call last.reply

  whole : q.items ≡ p.items ++ (last.more ++ its_item name number ∷ [])
  whole = last.are ∙ append_assoc p.items last.more (its_item name number ∷ [])

  of : AllByRecursion IsOfMember last.more
  of = all_front IsOfMember last.more (its_item name number ∷ []) (of_members time p q (last.more ++ its_item name number ∷ []) steps whole)

  as_law : q.items ≡ (p.items ++ last.more) ++ its_item (name_at s.clients client) (calls_of 1 (history_of s.clients p.items)) ∷ []
  as_law = last.are ∙ (λ i. (p.items ++ last.more) ++ its_item (named i) (numbered i) ∷ [])

  pub runs_on : Runs s (suc count) q.items
  runs_on =
      subst (Runs s (suc count)) (sym as_law)
      (calls_go_on s count client p.items last.more call last.reply form runs next of last.none (subst (λ (is : List TraceItem). AllByRecursion (IsNotPast is) s.armed) as_law past))

  abbrev last_history : List Item
  last_history = history_of s.clients (its_item name number ∷ [])

  history_is : history_of s.clients q.items ≡ history_of s.clients p.items ++ last_history
  history_is =
      ap (history_of s.clients) last.are ∙ sym (history_of-append s.clients (p.items ++ last.more) (its_item name number ∷ []))
      ∙ ap (λ (h : List Item). h ++ last_history) (sym (history_of-append s.clients p.items last.more) ∙ ap (λ (h : List Item). history_of s.clients p.items ++ h) (silent s.clients last.more of last.none) ∙ nothing_behind (history_of s.clients p.items))
    where
      nothing_behind : (h : List Item) → h ++ [] ≡ h
      nothing_behind [] = refl
      nothing_behind (x ∷ xs) = ap (λ (ys : List Item). x ∷ ys) (nothing_behind xs)

  -- and the calls are counted
  pub numbered_on : suc number ≡ calls_of 1 (history_of s.clients q.items)
  numbered_on =
      more number (calls_of 1 (history_of s.clients p.items)) numbered ∙ sym (calls_on 1 (history_of s.clients p.items) last_history) ∙ ap (calls_of 1) (sym history_is)
    where
      more : (a b : ℕ) → a ≡ b → suc a ≡ b + 1
      more a b e = omega (arith, e)

-- ---- names

pub name_is : (cs : List Client) (k : ℕ) (other : Client) → k < length cs → (get_or cs k other).name ≡ name_at cs k
name_is [] k other low = absurd (omega (arith, low))
name_is (c ∷ cs) zero other low = refl
name_is (c ∷ cs) (suc k) other low = name_is cs k other (omega (arith, low))
