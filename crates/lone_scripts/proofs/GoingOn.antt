-- A run goes on.
use Rattle.std.proofs.Common.{◌≡◌, ℕ, suc, ◌+◌, List, [], ◌∷◌, ◌++◌, length, take, map, Some, refl, sym, ap, ◌∙◌, subst, arith}
use Rattle.std.specs.Prelude.{slice_get}
use Rattle.std.specs.List.{AllByRecursion, filter}
use Rattle.std.proofs.lemmas.List.{append-nil}
use Rattle.std.proofs.lemmas.List.Elements.{filter-append}
use Rattle.cluster_history.specs.History.{calls_of}
use Rattle.cluster_history.specs.declared.Item.{Item}
use Rattle.file_tree.specs.declared.call.Call.{Call}
use Rattle.file_tree.specs.declared.reply.Reply.{Reply}
use Rattle.run_rules.specs.Follows.{history_of}
use Rattle.script_lang.specs.Script.{ScriptValue}
use Rattle.script_lang.specs.declared.script.Client.{Client}
use Rattle.script_lang.specs.declared.script.Line.{Line}
use Rattle.script_lang.specs.declared.script.Line.TheVariants as line
use Rattle.trace_text.specs.declared.item.TraceItem.{TraceItem}
use Rattle.trace_text.specs.declared.item.TraceItem.TheVariants as trace
use Rattle.lone_scripts.specs.Laws.{CallsGoOn, LoneRunsBegin, OtherItemsGoOn, WaitsGoOn}
use Rattle.lone_scripts.specs.Runs.{Answered, GoesOn, IsMember, IsOfMember, Runs, TakesLines, calls_from, is_call, is_call_line, line_of, name_at}
use Rattle.lone_scripts.specs.Scripts.{IsForOne}
use Rattle.lone_scripts.proofs.Lists.{all_both, take_next}
use Rattle.lone_scripts.proofs.Runs.{history_is}
use Rattle.lone_scripts.proofs.Told.{hist}

pub lone_runs_begin : LoneRunsBegin
lone_runs_begin s armed = record {
  member = record { more = []; are = refl; stays = tt };
  takes = record { answered = []; lines = refl; told = refl; on = tt };
  armed = armed;
}

-- ---- items that are no calls

member_more : (items more : List TraceItem) → IsMember items → AllByRecursion IsOfMember more → IsMember (items ++ more)
member_more items more member of = record {
  more = member.more ++ more;
  are = ap (λ (is : List TraceItem). is ++ more) member.are;
  stays = all_both IsOfMember member.more more member.stays of;
}

pub other_items_go_on : OtherItemsGoOn
other_items_go_on s count items more runs of none armed = record {
  member = member_more items more runs.member of;
  takes = record {
    answered = runs.takes.answered;
    lines = runs.takes.lines;
    told = filter-append is_call items more ∙ ap (λ (is : List TraceItem). filter is_call items ++ is) none ∙ append-nil (filter is_call items) ∙ runs.takes.told;
    on = runs.takes.on;
  };
  armed = armed;
}

-- ---- the next line

goes_on_to : (s : ScriptValue) (count : ℕ) (x : Line) → slice_get s.lines count ≡ Some x → GoesOn x → AllByRecursion GoesOn (take count s.lines) → AllByRecursion GoesOn (take (suc count) s.lines)
goes_on_to s count x at on all = subst (AllByRecursion GoesOn) (sym (take_next count s.lines x at)) (all_both GoesOn (take count s.lines) (x ∷ []) all (on, tt))

lines_to : (s : ScriptValue) (count : ℕ) (x : Line) → slice_get s.lines count ≡ Some x → filter is_call_line (take (suc count) s.lines) ≡ filter is_call_line (take count s.lines) ++ filter is_call_line (x ∷ [])
lines_to s count x at = ap (filter is_call_line) (take_next count s.lines x at) ∙ filter-append is_call_line (take count s.lines) (x ∷ [])

pub waits_go_on : WaitsGoOn
waits_go_on s count items runs at = record {
  member = runs.member;
  takes = record {
    answered = runs.takes.answered;
    lines = runs.takes.lines ∙ sym (lines_to s count line.Wait at ∙ append-nil (filter is_call_line (take count s.lines)));
    told = runs.takes.told;
    on = goes_on_to s count line.Wait at tt runs.takes.on;
  };
  armed = runs.armed;
}

-- ---- an answer

length_hist : (n : ℕ) (rs : List Answered) → calls_of 1 (hist n rs) ≡ length rs
length_hist n [] = refl
length_hist n (r ∷ rs) = let more = length_hist (n + 1) rs in omega (arith, more)

calls_next : (clients : List Client) (n : ℕ) (rs : List Answered) (r : Answered)
    → calls_from clients n (rs ++ r ∷ []) ≡ calls_from clients n rs ++ trace.Call 1 (name_at clients r.client) (n + length rs) r.call r.reply ∷ []
calls_next clients n [] r = ap (λ (m : ℕ). trace.Call 1 (name_at clients r.client) m r.call r.reply ∷ []) here
  where
    here : n ≡ n + 0
    here = omega arith
calls_next clients n (s ∷ rs) r =
    ap (λ (is : List TraceItem). trace.Call 1 (name_at clients s.client) n s.call s.reply ∷ is)
    (calls_next clients (n + 1) rs r ∙ ap (λ (m : ℕ). calls_from clients (n + 1) rs ++ trace.Call 1 (name_at clients r.client) m r.call r.reply ∷ []) next)
  where
    next : n + 1 + length rs ≡ n + suc (length rs)
    next = omega arith

map_next : (rs : List Answered) (r : Answered) → map line_of (rs ++ r ∷ []) ≡ map line_of rs ++ line_of r ∷ []
map_next [] r = refl
map_next (s ∷ rs) r = ap (λ (ls : List Line). line_of s ∷ ls) (map_next rs r)

module _ (s : ScriptValue) (count client : ℕ) (items more : List TraceItem) (call : Call) (reply : Reply) (form : IsForOne s) (runs : Runs s count items) (at : slice_get s.lines count ≡ Some (line.Call client call))
    (of : AllByRecursion IsOfMember more) (none : filter is_call more ≡ []) where
  abbrev answer : Answered
  answer = record { client = client; call = call; reply = reply }

  abbrev now : TraceItem
  now = trace.Call 1 (name_at s.clients client) (suc (calls_of 1 (history_of s.clients items))) call reply

  abbrev rs : List Answered
  rs = runs.takes.answered

  number_is : suc (calls_of 1 (history_of s.clients items)) ≡ 1 + length rs
  number_is =
      let same = ap (λ (h : List Item). calls_of 1 h) (history_is s form count items runs) in
      let long = length_hist 1 rs in
      omega (arith, same, long)

  told_next : filter is_call (items ++ more ++ now ∷ []) ≡ calls_from s.clients 1 (rs ++ answer ∷ [])
  told_next =
      filter-append is_call (items ++ more) (now ∷ [])
      ∙ ap (λ (is : List TraceItem). is ++ now ∷ []) (filter-append is_call items more ∙ ap (λ (is : List TraceItem). filter is_call items ++ is) none ∙ append-nil (filter is_call items) ∙ runs.takes.told)
      ∙ ap (λ (m : ℕ). calls_from s.clients 1 rs ++ trace.Call 1 (name_at s.clients client) m call reply ∷ []) number_is ∙ sym (calls_next s.clients 1 rs answer)

  pub takes_next : TakesLines s (suc count) (items ++ more ++ now ∷ [])
  takes_next = record {
    answered = rs ++ answer ∷ [];
    lines = map_next rs answer ∙ ap (λ (ls : List Line). ls ++ line.Call client call ∷ []) runs.takes.lines ∙ sym (lines_to s count (line.Call client call) at);
    told = told_next;
    on = goes_on_to s count (line.Call client call) at tt runs.takes.on;
  }

pub calls_go_on : CallsGoOn
calls_go_on s count client items more call reply form runs at of none armed = record {
  member = member_more (items ++ more) (now s count client items more call reply form runs at of none ∷ []) (member_more items more runs.member of) (tt, tt);
  takes = takes_next s count client items more call reply form runs at of none;
  armed = armed;
}
