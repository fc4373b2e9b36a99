-- The nodes that hold a lock, or wait for it, each with a mode.
use Rattle.std.specs.Prelude.{ℕ, ◌≡◌, ◌≢◌, ◌==◌, ◌&&◌, ⊤, Bool, true, false, not, List, [], ◌∷◌, Option, option_map, unwrap_or, find, if◌then◌else◌}
use Rattle.std.specs.List.{AllByRecursion}
use Rattle.dlm_modes.specs.declared.Mode.{Mode}
use Rattle.dlm_modes.specs.declared.Mode.TheVariants.{Nl}
use Rattle.dlm_modes.specs.Modes.{go_together}
use Rattle.dlm_master.specs.declared.claims.Claim.{Claim}

abbrev pub is_of : ℕ → Claim → Bool
is_of node c = c.node == node

-- the mode that the node has there, if it has one
abbrev pub mode_of_node : List Claim → ℕ → Option Mode
mode_of_node cs node = option_map (λ c. c.mode) (find (is_of node) cs)

-- and Nl where it has none
abbrev pub mode_at : List Claim → ℕ → Mode
mode_at cs node = unwrap_or (mode_of_node cs node) Nl

-- with this claim in the place of the one that its node had, or last
abbrev pub with_claim : List Claim → Claim → List Claim
with_claim [] c = c ∷ []
with_claim (x ∷ xs) c = if is_of c.node x then c ∷ xs else x ∷ with_claim xs c

-- without the node's claim
abbrev pub without_claim : List Claim → ℕ → List Claim
without_claim [] node = []
without_claim (x ∷ xs) node = if is_of node x then xs else x ∷ without_claim xs node

abbrev pub is_null : Mode → Bool
is_null Nl = true
is_null mode = false

-- the node holds this mode now: in Nl it holds none
abbrev pub now_holding : List Claim → ℕ → Mode → List Claim
now_holding cs node mode = if is_null mode then without_claim cs node else with_claim cs (record { node = node; mode = mode })

-- the claim of another node, in a mode that doesn't go with this one
abbrev pub stands_in_way : ℕ → Mode → Claim → Bool
stands_in_way node mode c = not (is_of node c) && not (go_together c.mode mode)

-- the first node that stands in the way of this node in this mode
abbrev pub in_way : List Claim → ℕ → Mode → Option ℕ
in_way cs node mode = option_map (λ c. c.node) (find (stands_in_way node mode) cs)

-- no claim is of this node
abbrev pub Absent : ℕ → List Claim → Type 0
Absent node cs = AllByRecursion (λ d. is_of node d ≡ false) cs

-- no two claims are of one node
abbrev pub OneEach : List Claim → Type 0
OneEach [] = ⊤
OneEach (c ∷ cs) = Absent c.node cs × OneEach cs

-- nobody holds it in Nl
abbrev pub NeverNull : List Claim → Type 0
NeverNull cs = AllByRecursion (λ c. is_null c.mode ≡ false) cs

-- whichever two nodes hold the lock, their modes go together
abbrev pub Together : List Claim → Type 0
Together [] = ⊤
Together (c ∷ cs) = AllByRecursion (λ d. c.node ≢ d.node → go_together c.mode d.mode ≡ true) cs × Together cs
