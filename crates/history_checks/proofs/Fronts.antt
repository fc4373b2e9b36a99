-- Calls that are answered one by one.
use Rattle.std.proofs.Common.{◌≡◌, ◌<◌, ◌↔◌, List, ◌∷◌, length, get_or, drop, sym, ap, subst, ◌∙◌}
use Rattle.std.specs.Prelude.{ℕ, ◌+◌}
use Rattle.std.specs.Result.{IfOk}
use Rattle.std.specs.Prelude.{Result, Ok, Err}
use Rattle.std.proofs.lemmas.List.{drop_more}
use Rattle.file_tree.specs.Tree.{Tree}
use Rattle.file_tree.specs.declared.call.Call.{Call}
use Rattle.file_tree.specs.declared.reply.Reply.{Reply}
use Rattle.cluster_history.specs.declared.Item.{Item}
use Rattle.cluster_history.specs.declared.Item.TheVariants as item
use Rattle.cluster_history.specs.History.{AllAnswer}
use Rattle.cluster_history.specs.Losses.{replied}
use Rattle.history_checks.specs.Checks.{MayAnswer, tree_after}

-- what follows of the value that is answered
pub if_ok : {T E : Type 0} (r : Result T E) (P Q : T → Type 0) → ((x : T) → P x → Q x) → IfOk r P → IfOk r Q
if_ok (Ok x) P Q f h = f x h
if_ok (Err e) P Q f h = h

-- the items from a place on answer so
abbrev pub AllFrom : List Item → ℕ → Tree → Type 0
AllFrom is n t = AllAnswer (replied (drop n is)) t

-- the first of them is a call: it answers, and the rest behind it
pub at_call : (is : List Item) (n : ℕ) (t : Tree) (node client number : ℕ) (call : Call) (reply : Reply) → n < length is
    → get_or is n (item.Call node client number call reply) ≡ item.Call node client number call reply
    → AllFrom is n t ↔ (MayAnswer call reply t × AllFrom is (n + 1) (tree_after call reply t))
at_call is n t node client number call reply h e =
    let P : List Item → Type 0 = λ (js : List Item). AllAnswer (replied js) t ↔ (MayAnswer call reply t × AllFrom is (n + 1) (tree_after call reply t)) in
    subst P (sym (drop_more is n (item.Call node client number call reply) h ∙ ap (λ (i : Item). i ∷ drop (n + 1) is) e)) (λ a. a, λ a. a)

-- it is a loss
pub at_loss : (is : List Item) (n : ℕ) (t : Tree) (node kept : ℕ) → n < length is → get_or is n (item.Lost node kept) ≡ item.Lost node kept
    → AllFrom is n t ↔ AllFrom is (n + 1) t
at_loss is n t node kept h e =
    let P : List Item → Type 0 = λ (js : List Item). AllAnswer (replied js) t ↔ AllFrom is (n + 1) t in
    subst P (sym (drop_more is n (item.Lost node kept) h ∙ ap (λ (i : Item). i ∷ drop (n + 1) is) e)) (λ a. a, λ a. a)
