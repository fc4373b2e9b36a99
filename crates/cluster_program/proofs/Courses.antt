-- A command that ran no script, or shows nothing.
use Rattle.std.proofs.Common.{◌≡◌, ℕ, List, [], subst, sym}
use Rattle.trace_text.specs.declared.item.TraceItem.{TraceItem}
use Rattle.script_lang.specs.Script.{ScriptValue}
use Rattle.script_lang.specs.Grammar.{nothing}
use Rattle.run_reports.specs.declared.output.Listing.{Listing}
use Rattle.run_reports.specs.declared.output.Listing.TheVariants.{Clients}
use Rattle.run_reports.specs.declared.status.Status.{Status}
use Rattle.cluster_program.specs.World.{Inputs}
use Rattle.run_reports.specs.Laws.{NothingIsOfOneNode}
use Rattle.run_reports.specs.OneNode.{IsOfOneNode}
use Rattle.cluster_program.specs.Course.{Course}

pub course_of : (words : List (List ℕ)) (given left : Inputs) {listing : Listing} {s : ScriptValue} {items : List TraceItem} {lines told_lines : List ℕ} {own told : Status}
    → listing ≡ Clients → s ≡ nothing → items ≡ [] → told_lines ≡ lines → told ≡ own → Course words given left Clients nothing [] lines own → Course words given left listing s items told_lines told
course_of words given left {listing} {s} {items} {lines} {told_lines} {own} {told} listed script none shown same course =
    subst (λ (x : Listing). Course words given left x s items told_lines told) (sym listed)
    (subst (λ (x : ScriptValue). Course words given left Clients x items told_lines told) (sym script)
    (subst (λ (is : List TraceItem). Course words given left Clients nothing is told_lines told) (sym none)
    (subst (λ (ls : List ℕ). Course words given left Clients nothing [] ls told) (sym shown) (subst (Course words given left Clients nothing [] lines) (sym same) course))))

-- a command that ran a script, and shows nothing
pub as_carried : (words : List (List ℕ)) (given left : Inputs) {listing told_listing : Listing} {s told : ScriptValue} {items : List TraceItem} {lines : List ℕ} {own told_own : Status}
    → told_listing ≡ listing → told ≡ s → lines ≡ [] → told_own ≡ own → Course words given left listing s items [] own → Course words given left told_listing told items lines told_own
as_carried words given left {listing} {told_listing} {s} {told} {items} {lines} {own} {told_own} listed script none same course =
    subst (λ (x : Listing). Course words given left x told items lines told_own) (sym listed)
    (subst (λ (x : ScriptValue). Course words given left listing x items lines told_own) (sym script)
    (subst (λ (ls : List ℕ). Course words given left listing s items ls told_own) (sym none) (subst (Course words given left listing s items []) (sym same) course)))

-- a command that ran nothing has no items to tell, and no journals to count
pub of_one_nothing : NothingIsOfOneNode → {s : ScriptValue} {items : List TraceItem} → s ≡ nothing → items ≡ [] → IsOfOneNode s items
of_one_nothing law {s} {items} script none = subst (λ x. IsOfOneNode x items) (sym script) (subst (IsOfOneNode nothing) (sym none) law)
