use Rattle.std.proofs.Common.{◌≡◌, ℕ, suc, ◌+◌, ◌&&◌, ◌<◌, Bool, true, false, Some, refl, sym, ap, ap₂, ◌∙◌, List, ◌∷◌, length, drop, get_or, arith}
use Rattle.std.proofs.lemmas.List.{drop_all}
use Rattle.std.proofs.lemmas.Option.{slice_get-get_or}
use Rattle.std.specs.Prelude.{not}
use Rattle.std.specs.Str.{bytes_eq}
use Rattle.file_tree.specs.Names.{leads_to}
use Rattle.lost_calls.proofs.Fronts.{drop_next}
use Rattle.lost_calls.proofs.kept.goes_on.Goals as goal

at : (path : List (List ℕ)) (k : ℕ) (n : List ℕ) → k < length path → n ≡ get_or path k n → drop k path ≡ n ∷ drop (suc k) path
at path k n low is = drop_next path k n (slice_get-get_or path k n low ∙ ap Some (sym is))

differ : (b : Bool) → true ≡ not b → b ≡ false
differ true e = cc
differ false e = refl

same : (b : Bool) → false ≡ not b → b ≡ true
same true e = refl
same false e = cc

-- both go on with a name
step : (p q : List (List ℕ)) (k : ℕ) (n m : List ℕ) → k < length p → n ≡ get_or p k n → k < length q → m ≡ get_or q k m → leads_to p q ≡ leads_to (drop k p) (drop k q)
    → leads_to p q ≡ (bytes_eq n m && leads_to (drop (suc k) p) (drop (suc k) q))
step p q k n m low is low' is' so = so ∙ ap₂ leads_to (at p k n low is) (at q k m low' is')

pub loop-depth-init : goal.loop-depth-init
loop-depth-init c = refl

pub returns-in_default : goal.returns-in_default
returns-in_default c =
    let k = c.loop-depth.depth in
    sym (c.loop-depth.invariant ∙ ap₂ leads_to (at c.args.first.now k c.index-first-depth.result c.loop-depth-test.true c.index-first-depth.is) (drop_all k c.args.second.now c.in_default.ensures.lookup.3))

pub returns-then-ne : goal.returns-then-ne
returns-then-ne c =
    let k = c.loop-depth.depth in
    let n = c.index-first-depth.result in
    let m = c.in-Some.other.now in
    let apart : bytes_eq n m ≡ false = sym (ap₂ bytes_eq c.bytes.ensures.bytes c.bytes-in-loop-depth.ensures.bytes) ∙ differ _ (sym c.if-ne.true ∙ c.ne.ensures) in
    sym (step c.args.first.now c.args.second.now k n m c.loop-depth-test.true c.index-first-depth.is c.in-Some.ensures.lookup.3.0 c.in-Some.ensures.lookup.1 c.loop-depth.invariant
    ∙ ap (λ b. b && leads_to (drop (suc k) c.args.first.now) (drop (suc k) c.args.second.now)) apart)

pub loop-depth-preserved : goal.loop-depth-preserved
loop-depth-preserved c =
    let k = c.loop-depth.depth in
    let n = c.index-first-depth.result in
    let m = c.in-Some.other.now in
    let alike : bytes_eq n m ≡ true = sym (ap₂ bytes_eq c.bytes.ensures.bytes c.bytes-in-loop-depth.ensures.bytes) ∙ same _ (sym c.if-ne.false ∙ c.ne.ensures) in
    let e : suc k ≡ k + 1 = omega arith in
    step c.args.first.now c.args.second.now k n m c.loop-depth-test.true c.index-first-depth.is c.in-Some.ensures.lookup.3.0 c.in-Some.ensures.lookup.1 c.loop-depth.invariant
    ∙ ap (λ b. b && leads_to (drop (suc k) c.args.first.now) (drop (suc k) c.args.second.now)) alike
    ∙ ap (λ j. leads_to (drop j c.args.first.now) (drop j c.args.second.now)) e

pub returns : goal.returns
returns c = sym (c.loop-depth.invariant ∙ ap (λ p. leads_to p (drop c.loop-depth.depth c.args.second.now)) (drop_all c.loop-depth.depth c.args.first.now c.loop-depth-test.false))
