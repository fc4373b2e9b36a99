-- The history of items with one more.
use Rattle.std.proofs.Common.{◌≡◌, ℕ, suc, List, [], ◌∷◌, ◌++◌, refl, sym, ap, ap₂, ◌∙◌}
use Rattle.std.proofs.lemmas.List.{map-append}
use Rattle.cluster_history.specs.declared.Item.{Item}
use Rattle.cluster_history.specs.declared.Item.TheVariants as item
use Rattle.cluster_laws.specs.World.{World}
use Rattle.file_tree.specs.declared.call.Call.{Call}
use Rattle.file_tree.specs.declared.reply.Reply.{Reply}
use Rattle.image_machine.specs.Volumes.{Volume, images_of}
use Rattle.lone_ends.specs.States.{trees_on}
use Rattle.lone_machine.specs.Alone.{Begun, next_item}
use Rattle.run_rules.specs.Follows as run
use Rattle.script_lang.specs.declared.script.Client.{Client}
use Rattle.trace_text.specs.declared.item.TraceItem.{TraceItem}
use Rattle.trace_text.specs.declared.item.TraceItem.TheVariants as trace
use Rattle.tree_histories.specs.Trees.{history_of, item_of}

pub history_on : (clients : List Client) (xs ys : List TraceItem) → run.history_of clients (xs ++ ys) ≡ run.history_of clients xs ++ run.history_of clients ys
history_on clients [] ys = refl
history_on clients (trace.Call node name number call reply ∷ xs) ys = ap (λ (is : List Item). item.Call node (run.place_of clients name) number call reply ∷ is) (history_on clients xs ys)
history_on clients (trace.Lost node kept ∷ xs) ys = ap (λ (is : List Item). item.Lost node kept ∷ is) (history_on clients xs ys)
history_on clients (x ∷ xs) ys = history_on clients xs ys

append_nil : {A : Type 0} (xs : List A) → xs ++ [] ≡ xs
append_nil [] = refl
append_nil (x ∷ xs) = ap (λ ys. x ∷ ys) (append_nil xs)

-- an item that is neither a call nor a loss says nothing
pub with_other : (clients : List Client) (xs : List TraceItem) (x : TraceItem) → run.history_of clients (x ∷ []) ≡ [] → run.history_of clients (xs ++ x ∷ []) ≡ run.history_of clients xs
with_other clients xs x none = history_on clients xs (x ∷ []) ∙ ap (λ (ys : List Item). run.history_of clients xs ++ ys) none ∙ append_nil (run.history_of clients xs)

-- the item of the node's next call
pub with_next : (v : Volume) (s : Begun (trees_on v)) (w w' : World (trees_on v)) (clients : List Client) (xs : List TraceItem) (name : List ℕ) (call : Call) (reply : Reply) (number : ℕ)
    → s.node ≡ 1 → w.book.answered s.node ≡ number → run.history_of clients xs ≡ history_of (images_of v) w.items
    → w'.items ≡ w.items ++ (next_item (trees_on v) s w (record { client = run.place_of clients name; call = call; reply = reply }) ∷ [])
    → run.history_of clients (xs ++ trace.Call 1 name (suc number) call reply ∷ []) ≡ history_of (images_of v) w'.items
with_next v s w w' clients xs name call reply number one is before items =
    history_on clients xs (trace.Call 1 name (suc number) call reply ∷ [])
    ∙ ap₂ (λ (ys zs : List Item). ys ++ zs) before
    (ap₂ (λ (i n : ℕ). item.Call i (run.place_of clients name) (suc n) call reply ∷ []) (sym one) (sym is))
    ∙ sym (map-append (item_of (images_of v)) w.items (next_item (trees_on v) s w (record { client = run.place_of clients name; call = call; reply = reply }) ∷ []))
    ∙ sym (ap (history_of (images_of v)) items)
