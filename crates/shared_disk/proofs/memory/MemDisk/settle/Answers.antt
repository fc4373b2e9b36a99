use Rattle.std.proofs.Common.{ℕ, ◌≡◌, ◌*◌, ◌/◌, ◌+◌, ◌++◌, List, length, take, drop, min, sym, ap, ◌∙◌, subst, arith}
use Rattle.std.proofs.lemmas.List.{drop_min, drop-drop, length-append, length-take, length-drop}
use Rattle.shared_disk.specs.Nodes.{NodeStates}
use Rattle.shared_disk.specs.Outcomes.{AreOfSize, IsOfSize}
use Rattle.shared_disk.specs.declared.outcomes.Outcome.{Outcome}
use Rattle.shared_disk.proofs.FlightLaws.{all_drop}
use Rattle.shared_disk.proofs.memory.MemDisk.settle.Goals as goal

pub invariant_of-self : goal.invariant_of-self
invariant_of-self c =
    let i = c.self.inside in
    let n = c.set_fenced.new.self in
    let row' = c.settle_row-count.new.row in
    let size : n.size ≡ i.nodes.size = ap (λ (m : NodeStates). m.size) c.set_fenced.ensures ∙ ap (λ (m : NodeStates). m.size) c.clear.ensures in
    let count : n.count ≡ i.nodes.count = ap (λ (m : NodeStates). m.count) c.set_fenced.ensures ∙ ap (λ (m : NodeStates). m.count) c.clear.ensures in
    let was = c.self.invariant in
    let row = take i.bytes.len (row' ++ drop (length row') i.bytes.items) in
    let long : length row' ≡ length i.bytes.items = c.settle_row-count.auto.row ∙ ap (λ (l : List ℕ). length l) c.deref_mut.ensures.value in
    let same : length row ≡ length i.bytes.items = omega (arith, i.bytes.ok, long, length-take i.bytes.len (row' ++ drop (length row') i.bytes.items), length-append row' (drop (length row') i.bytes.items), length-drop (length row') i.bytes.items) in
    let many : c.len.result ≡ length i.outcomes.items = omega (arith, c.len.ensures, i.outcomes.ok) in
    let left : drop c.min-self-inside.result i.outcomes.items ≡ drop c.settle_row-count.result (drop i.settled i.outcomes.items) =
    ap (λ (k : ℕ). drop k i.outcomes.items) (c.min-self-inside.ensures ∙ ap (λ (k : ℕ). min (i.settled + c.settle_row-count.result) k) many) ∙ drop_min (i.settled + c.settle_row-count.result) i.outcomes.items ∙ sym (drop-drop c.settle_row-count.result i.settled i.outcomes.items) in
    let P : List Outcome → Type 0 = λ l. AreOfSize n.size l in
    let Q : ℕ → Type 0 = λ k. AreOfSize k (drop c.settle_row-count.result (drop i.settled i.outcomes.items)) in (
      count ∙ was.0 ∙ ap (λ (k : ℕ). length i.bytes.items / k) (sym size) ∙ ap (λ (k : ℕ). k / n.size) (sym same),
      ap (λ (k : ℕ). k * n.size) count ∙ ap (λ (k : ℕ). i.nodes.count * k) size ∙ was.1 ∙ sym same,
      omega arith,
      subst P (sym left) (subst Q (sym size) (all_drop (IsOfSize i.nodes.size) c.settle_row-count.result (drop i.settled i.outcomes.items) was.3)),
      c.settle_row-count.ensures.kept,
      c.settle_row-count.ensures.room.size ∙ was.5 ∙ sym size,
    )
