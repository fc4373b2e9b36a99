-- In which order blocks go home.
use Rattle.std.proofs.Common.{◌≡◌, ◌≤◌, ◌<◌, ◌+◌, ℕ, List, [], ◌∷◌, ◌++◌, Some, sym, ap, subst, ◌∙◌, arith}
use Rattle.std.specs.Prelude.{◌==◌}
use Rattle.std.proofs.lemmas.Bool.{cond-false, ne_eqb}
use Rattle.std.proofs.lemmas.List.{append_assoc, append-nil}
use Rattle.std.proofs.lemmas.List.Elements.{filter_map-append}
use Rattle.glock_names.specs.declared.LockName.{LockName}
use Rattle.log_memory.specs.Locks.{IsNextLock}
use Rattle.log_values.specs.Homing.{HomeAnswer, Settles}
use Rattle.log_values.specs.Log.{LogValue}
use Rattle.log_values.specs.declared.steps.LogStep.TheVariants as step
use Rattle.trace_text.specs.declared.item.TraceItem.{TraceItem}
use Rattle.trace_text.specs.declared.item.TraceItem.TheVariants as trace
use Rattle.logged_node.specs.declared.node.Node.{Node}
use Rattle.logged_node.specs.Homing.{AreSent, RestsAsDue, RestsSoFar, SendsInOrder, SendsOne, SentSoFar, home_told, homes_in, last_rest}
use Rattle.logged_node.specs.Homing as sent

-- items that send none home
pub homes_more : (items more : List TraceItem) → homes_in more ≡ [] → homes_in (items ++ more) ≡ homes_in items
homes_more items more none = filter_map-append home_told items more ∙ ap (λ (bs : List ℕ). homes_in items ++ bs) none ∙ append-nil (homes_in items)

-- one after the other
are_sent_on : (a b c : LogValue) (xs ys : List ℕ) → AreSent a b xs → AreSent b c ys → AreSent a c (xs ++ ys)
are_sent_on a b _ xs _ first sent.none = subst (AreSent a b) (sym (append-nil xs)) first
are_sent_on a b c xs _ first (sent.one mid _ before lock k bytes more next answer) = subst (AreSent a c) (append_assoc xs before (k ∷ [])) (sent.one mid c (xs ++ before) lock k bytes (are_sent_on a b mid xs before first more) next answer)
are_sent_on a b c xs ys first (sent.settled mid _ _ more settles) = sent.settled mid c (xs ++ ys) (are_sent_on a b mid xs ys first more) settles

pub order_none : (n : Node) → SendsInOrder n n
order_none n = record { blocks = []; are = sent.none; told = sym (append-nil (homes_in n.items.items)) }

pub order_on : (a b c : Node) → SendsInOrder a b → SendsInOrder b c → SendsInOrder a c
order_on a b c x y = record {
  blocks = x.blocks ++ y.blocks;
  are = are_sent_on a.log b.log c.log x.blocks y.blocks x.are y.are;
  told = y.told ∙ ap (λ (bs : List ℕ). bs ++ y.blocks) x.told ∙ append_assoc (homes_in a.items.items) x.blocks y.blocks;
}

-- ---- so far

pub so_far_none : (log : LogValue) (items items' : List TraceItem) → homes_in items' ≡ homes_in items → SentSoFar log items items'
so_far_none log items items' same = record { new = log; blocks = []; are = sent.none; told = same ∙ sym (append-nil (homes_in items)) }

pub so_far_same : (log : LogValue) (items items' : List TraceItem) → items' ≡ items → SentSoFar log items items'
so_far_same log items items' same = so_far_none log items items' (ap homes_in same)

pub so_far_order : (n n' : Node) → SendsInOrder n n' → SentSoFar n.log n.items.items n'.items.items
so_far_order n n' order = record { new = n'.log; blocks = order.blocks; are = order.are; told = order.told }

-- and then
pub so_far_on : (n m : Node) (items : List TraceItem) → SendsInOrder n m → SentSoFar m.log m.items.items items → SentSoFar n.log n.items.items items
so_far_on n m items order more = record {
  new = more.new;
  blocks = order.blocks ++ more.blocks;
  are = are_sent_on n.log m.log more.new order.blocks more.blocks order.are more.are;
  told = more.told ∙ ap (λ (bs : List ℕ). bs ++ more.blocks) order.told ∙ append_assoc (homes_in n.items.items) order.blocks more.blocks;
}

pub so_far_then : (log : LogValue) (items mid items' : List TraceItem) → SentSoFar log items mid → homes_in items' ≡ homes_in mid → SentSoFar log items items'
so_far_then log items mid items' so same = record { new = so.new; blocks = so.blocks; are = so.are; told = same ∙ so.told }

-- ---- steps

pub so_far_sent : (log new : LogValue) (items items' : List TraceItem) (lock : LockName) (b : ℕ) (bytes : List ℕ) → IsNextLock log lock → HomeAnswer log new lock bytes (Some (step.Write b)) → items' ≡ items ++ trace.WriteHome 1 b ∷ []
    → SentSoFar log items items'
so_far_sent log new items items' lock b bytes next answer more = record {
  new = new;
  blocks = b ∷ [];
  are = sent.one log new [] lock b bytes sent.none next answer;
  told = ap homes_in more ∙ filter_map-append home_told items (trace.WriteHome 1 b ∷ []);
}

pub order_sent : (n n' : Node) (lock : LockName) (b : ℕ) (bytes : List ℕ) → IsNextLock n.log lock → HomeAnswer n.log n'.log lock bytes (Some (step.Write b)) → n'.items.items ≡ n.items.items ++ trace.WriteHome 1 b ∷ [] → SendsInOrder n n'
order_sent n n' lock b bytes next answer items = record {
  blocks = b ∷ [];
  are = sent.one n.log n'.log [] lock b bytes sent.none next answer;
  told = ap homes_in items ∙ filter_map-append home_told n.items.items (trace.WriteHome 1 b ∷ []);
}

pub order_settled : (n n' : Node) → Settles n.log n'.log → n'.items.items ≡ n.items.items ++ trace.Barrier 1 ∷ [] → SendsInOrder n n'
order_settled n n' settles items = record {
  blocks = [];
  are = sent.settled n.log n'.log [] sent.none settles;
  told = ap homes_in items ∙ filter_map-append home_told n.items.items (trace.Barrier 1 ∷ []);
}

-- ---- with which barriers

pub rests_none : (items : List TraceItem) (flying : ℕ) → flying ≡ 0 → RestsSoFar items items flying
rests_none items flying none = subst (RestsSoFar items items) (sym none) (record { sent = []; are = sent.begins; told = sym (append-nil items) })

pub rests_one : (items : List TraceItem) (n n' : Node) → RestsSoFar items n.items.items n.flying → SendsOne n n' → RestsSoFar items n'.items.items n'.flying
rests_one items n n' so (sent.flies b told flying few) = subst (RestsSoFar items n'.items.items) (sym flying) (record {
  sent = so.sent ++ trace.WriteHome 1 b ∷ [];
  are = sent.sends n.flying b so.sent so.are few;
  told = told ∙ ap (λ (is : List TraceItem). is ++ trace.WriteHome 1 b ∷ []) so.told ∙ append_assoc items so.sent (trace.WriteHome 1 b ∷ []);
})
rests_one items n n' so (sent.rests b told flying full) = subst (RestsSoFar items n'.items.items) (sym flying) (record {
  sent = so.sent ++ (trace.WriteHome 1 b ∷ trace.Barrier 1 ∷ []);
  are = sent.fills n.flying b so.sent so.are full;
  told = told ∙ ap (λ (is : List TraceItem). is ++ (trace.WriteHome 1 b ∷ trace.Barrier 1 ∷ [])) so.told ∙ append_assoc items so.sent (trace.WriteHome 1 b ∷ trace.Barrier 1 ∷ []);
})

pub rests_due : (items mid items' : List TraceItem) (flying : ℕ) → RestsSoFar items mid flying → items' ≡ mid ++ last_rest flying → RestsAsDue items items'
rests_due items mid items' flying so told = record {
  flying = flying;
  sent = so.sent;
  are = so.are;
  told = told ∙ ap (λ (is : List TraceItem). is ++ last_rest flying) so.told ∙ append_assoc items so.sent (last_rest flying);
}

-- with 512 in flight, or fewer
pub sends_one : (n m : Node) → n.flying < 512 → (b : ℕ) × (m.items.items ≡ n.items.items ++ trace.WriteHome 1 b ∷ []) → m.flying ≡ n.flying + 1 → m.flying < 512 → SendsOne n m
sends_one n m few told flying less = sent.flies told.0 told.1 flying (let is = flying in omega (arith, is, less))

pub sends_last : (n m k : Node) → n.flying < 512 → (b : ℕ) × (m.items.items ≡ n.items.items ++ trace.WriteHome 1 b ∷ []) → m.flying ≡ n.flying + 1 → 512 ≤ m.flying → k.items.items ≡ m.items.items ++ trace.Barrier 1 ∷ [] → k.flying ≡ 0 → SendsOne n k
sends_last n m k few told flying full rested none = sent.rests told.0 (
    rested ∙ ap (λ (is : List TraceItem). is ++ trace.Barrier 1 ∷ []) told.1 ∙ append_assoc n.items.items (trace.WriteHome 1 told.0 ∷ []) (trace.Barrier 1 ∷ [])
    ) none (let is = flying in omega (arith, is, few, full))

-- where nothing is in flight none is made
pub no_rest : (items : List TraceItem) (flying : ℕ) → flying ≤ 0 → items ≡ items ++ last_rest flying
no_rest items flying none = sym (append-nil items) ∙ ap (λ (k : ℕ). items ++ last_rest k) (sym (let is = none in zero_of flying is))
  where
    zero_of : (k : ℕ) → k ≤ 0 → k ≡ 0
    zero_of k low = omega (arith, low)

pub one_rest : (items items' : List TraceItem) (flying : ℕ) → 0 < flying → items' ≡ items ++ trace.Barrier 1 ∷ [] → items' ≡ items ++ last_rest flying
one_rest items items' flying some told = told ∙ ap (λ (is : List TraceItem). items ++ is) (sym (cond-false (flying == 0) [] (trace.Barrier 1 ∷ []) (ne_eqb flying 0 (λ is. (omega (arith, some, is))))))
