-- The items of operations tell them.
use Rattle.std.proofs.Common.{◌≡◌, ℕ, ◌+◌, ◌<◌, List, [], ◌∷◌, ◌++◌, length, take, get_or, refl, sym, ap, subst, ◌∙◌}
use Rattle.std.proofs.lemmas.List.{append_assoc, append-nil, map-append, map_push}
use Rattle.drafts.specs.declared.change.Written.{Written}
use Rattle.shared_disk.specs.Disk.{Operation, Write, Barrier, Fence}
use Rattle.trace_text.specs.declared.item.TraceItem.{TraceItem}
use Rattle.trace_text.specs.declared.item.TraceItem.TheVariants as trace
use Rattle.disk_items.specs.Deeds.{AreDoneBy, Deed, deed_of}
use Rattle.disk_items.proofs.Going.{goes_on}
use Rattle.disk_turns.specs.Turns.{turn_of, writes_of}
use Rattle.disk_turns.proofs.Gaining.{writes_more}
use Rattle.journal_replays.specs.Items.{item_of, items_of}

pub done_items : (operations : List Operation) → AreDoneBy (items_of operations) operations
done_items [] = refl
done_items (Write node block bytes ∷ operations) = ap (λ (ds : List Deed). deed_of (Write node block bytes) ∷ ds) (done_items operations)
done_items (Barrier node ∷ operations) = ap (λ (ds : List Deed). deed_of (Barrier node) ∷ ds) (done_items operations)
done_items (Fence node became ∷ operations) = ap (λ (ds : List Deed). deed_of (Fence node became) ∷ ds) (done_items operations)

-- those of some, of others, and that the journal is recovered
pub done_recovered : (node slot : ℕ) (xs ys : List Operation) → AreDoneBy (items_of xs ++ (items_of ys ++ trace.Recovered slot node ∷ [])) (xs ++ ys)
done_recovered node slot xs ys =
    goes_on (items_of xs) (items_of ys ++ trace.Recovered slot node ∷ []) xs ys (done_items xs)
    (subst (AreDoneBy (items_of ys ++ trace.Recovered slot node ∷ [])) (append-nil ys) (goes_on (items_of ys) (trace.Recovered slot node ∷ []) ys [] (done_items ys) refl))

pub items_on : (xs ys : List Operation) → items_of (xs ++ ys) ≡ items_of xs ++ items_of ys
items_on xs ys = map-append item_of xs ys

-- one more write
pub items_more : (node : ℕ) (ws : List Written) (i : ℕ) (w e : Written) → i < length ws → w ≡ get_or ws i e
    → items_of (writes_of node (take i ws)) ++ trace.WriteReplay node w.block ∷ [] ≡ items_of (writes_of node (take (i + 1) ws))
items_more node ws i w e low is = sym (map_push item_of (writes_of node (take i ws)) (Write node w.block w.bytes)) ∙ ap items_of (writes_more node ws i w e low is)

-- one more turn
pub turn_more : (node : ℕ) (some : List Written) (left : List Operation) (items : List TraceItem)
    → items ++ items_of (turn_of node some ++ left) ≡ ((items ++ items_of (writes_of node some)) ++ trace.Barrier node ∷ []) ++ items_of left
turn_more node some left items =
    ap (λ (is : List TraceItem). items ++ is) (items_on (turn_of node some) left ∙ ap (λ (is : List TraceItem). is ++ items_of left) (items_on (writes_of node some) (Barrier node ∷ [])))
    ∙ sym (append_assoc items (items_of (writes_of node some) ++ trace.Barrier node ∷ []) (items_of left))
    ∙ ap (λ (is : List TraceItem). is ++ items_of left) (sym (append_assoc items (items_of (writes_of node some)) (trace.Barrier node ∷ [])))
