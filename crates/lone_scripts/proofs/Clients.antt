-- The clients of one node, and their names.
use Rattle.std.proofs.Common.{◌≡◌, ℕ, zero, suc, ◌<◌, true, false, List, [], ◌∷◌, length, Some, refl, ap, arith, Bool}
use Rattle.std.specs.Prelude.{slice_get, ◌≢◌}
use Rattle.std.specs.List.{AllByRecursion}
use Rattle.std.specs.Str.{bytes_eq}
use Rattle.std.proofs.lemmas.Slice.Eq.{bytes_eq-Decides}
use Rattle.script_lang.specs.declared.script.Client.{Client}
use Rattle.script_lang.specs.OneNode.{HaveOwnClientNames}
use Rattle.run_rules.specs.Follows.{place_of}
use Rattle.lone_scripts.specs.Runs.{name_at}

false_from : (b : Bool) → (b ≡ true → ⊥) → b ≡ false
false_from true h = absurd (h refl)
false_from false h = refl

same_bytes : (name : List ℕ) → bytes_eq name name ≡ true
same_bytes name = (bytes_eq-Decides name name).1 refl

-- no later client has the name
has_other : (name : List ℕ) (cs : List Client) (k : ℕ) → AllByRecursion (λ (d : Client). name ≢ d.name) cs → k < length cs → bytes_eq name (name_at cs k) ≡ false
has_other name [] k own below = absurd (omega (arith, below))
has_other name (c ∷ cs) zero own below = false_from (bytes_eq name c.name) (λ e. own.0 ((bytes_eq-Decides name c.name).0 e))
has_other name (c ∷ cs) (suc k) own below = has_other name cs k own.1 (omega (arith, below))

-- a client's place is found by its name
pub place_is : (clients : List Client) (k : ℕ) → HaveOwnClientNames clients → k < length clients → place_of clients (name_at clients k) ≡ k
place_is [] k own below = absurd (omega (arith, below))
place_is (c ∷ cs) zero own below = rw (same_bytes c.name) refl
place_is (c ∷ cs) (suc k) own below = rw (has_other c.name cs k own.0 (omega (arith, below))) (ap suc (place_is cs k own.1 (omega (arith, below))))

pub client_at : (clients : List Client) (k : ℕ) → AllByRecursion (λ (c : Client). c.node ≡ 1) clients → k < length clients
    → (c : Client) × (slice_get clients k ≡ Some c) × (c.node ≡ 1)
client_at [] k ones below = absurd (omega (arith, below))
client_at (c ∷ cs) zero ones below = (c, refl, ones.0)
client_at (c ∷ cs) (suc k) ones below = client_at cs k ones.1 (omega (arith, below))
