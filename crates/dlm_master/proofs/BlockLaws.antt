-- While a master is blocked nobody is granted anything.
use Rattle.std.proofs.Common.{ℕ, ◌≡◌, ◌||◌, ◌<◌, ◌⊎◌, ◌^◌, Bool, true, false, nat_eq, List, [], Option, None, Some, cond, inl, inr, refl, sym, ap, ◌∙◌}
use Rattle.std.specs.Prelude.{◌==◌, ◌&&◌, not, option_map, unwrap_or}
use Rattle.std.specs.Int.Bits.{and_zero_l}
use Rattle.std.proofs.lemmas.Bool.Decides.{eqb_tells}
use Rattle.dlm_modes.specs.declared.Mode.{Mode}
use Rattle.dlm_modes.specs.declared.Mode.TheVariants.{Nl}
use Rattle.dlm_modes.specs.Modes.{is_at_least}
use Rattle.dlm_modes.proofs.ModeLaws.{covers-itself}
use Rattle.fencing.specs.NodeSets.{has, least_of}
use Rattle.fencing.proofs.LeastLaws.{least-none}
use Rattle.dlm_master.specs.declared.claims.Claim.{Claim}
use Rattle.dlm_master.specs.declared.claims.Cause.{Cause}
use Rattle.dlm_master.specs.declared.claims.Cause.TheVariants.{Held, Behind, Rebuild, Slot}
use Rattle.dlm_master.specs.Claims.{mode_of_node, mode_at, now_holding, in_way}
use Rattle.dlm_master.specs.Locks.{or_else, cause_of, requested, converted, after_grants}
use Rattle.dlm_master.specs.Tables.{holds_above}
use Rattle.dlm_master.specs.Runs.{Requests, Converts, Lowers, Grants, Blocks, Run, after}
use Rattle.dlm_master.specs.Laws.{IsBlocked, NoneWhileBlocked}
use Rattle.dlm_master.proofs.ClaimLaws.{mode-away, mode-here}

no-way : {A : Type 0} → false ≡ true → A
no-way e = absurd (let f : false ≡ true = e in cc)

-- who asks then waits
pub blocked-cause : (rebuild : Bool) (waiting : ℕ) (held conversions requests : List Claim) (n : ℕ) (m : Mode)
    → (rebuild ≡ true) ⊎ ((node : ℕ) × (node < 16) × (has waiting node ≡ true)) → (cause : Cause) × (cause_of rebuild waiting held conversions requests n m ≡ Some cause)
blocked-cause true waiting held conversions requests n m blocked = (Rebuild, refl)
blocked-cause false waiting held conversions requests n m (inl e) = no-way e
blocked-cause false waiting held conversions requests n m (inr (node, small, there)) = by (least_of waiting) refl
  where
    by : (o : Option ℕ) → least_of waiting ≡ o → (cause : Cause) × (cause_of false waiting held conversions requests n m ≡ Some cause)
    by None e = no-way (sym (least-none waiting node e small) ∙ there)
    by (Some slot) e = (Slot slot, ap (λ (o : Option ℕ). or_else (option_map Slot o) (or_else (option_map Held (in_way held n m)) (or_else (option_map Behind (in_way conversions n m)) (option_map Behind (in_way requests n m))))) e)

-- and no turns are taken
pub blocked-turns : (r : Run) → IsBlocked r → (r.rebuild || not (r.waiting == 0)) ≡ true
blocked-turns r (inl e) = ap (λ b. b || not (r.waiting == 0)) e
blocked-turns r (inr (node, small, there)) = elim (eqb_tells r.waiting 0) [
  | inl zero ↦ no-way (sym (ap (λ (n : ℕ). has n node) zero.1 ∙ ap (λ (n : ℕ). not (nat_eq n 0)) (and_zero_l (2 ^ node))) ∙ there)
  | inr some ↦ by r.rebuild (ap not some.0)
]
  where
    by : (a : Bool) → not (r.waiting == 0) ≡ true → (a || not (r.waiting == 0)) ≡ true
    by true e = refl
    by false e = e

same : (cs ds : List Claim) (node : ℕ) → ds ≡ cs → is_at_least (mode_at cs node) (mode_at ds node) ≡ true
same cs ds node e = ap (λ (l : List Claim). is_at_least (mode_at cs node) (mode_at l node)) e ∙ covers-itself (mode_at cs node)

first-true : (a b : Bool) → (a && b) ≡ true → a ≡ true
first-true true b e = refl
first-true false b e = no-way e

pub none-while-blocked : NoneWhileBlocked
none-while-blocked r (Requests n m) node blocked may one =
    let c = blocked-cause r.rebuild r.waiting r.lock.held r.lock.conversions r.lock.requests n m blocked in
    same r.lock.held (after r (Requests n m)).lock.held node (ap (λ (o : Option Cause). (requested o r.lock n m).held) c.1)
none-while-blocked r (Converts n m) node blocked may one =
    let c = blocked-cause r.rebuild r.waiting r.lock.held r.lock.conversions [] n m blocked in
    same r.lock.held (after r (Converts n m)).lock.held node (ap (λ (o : Option Cause). (converted o r.lock n m).held) c.1)
none-while-blocked r (Lowers n m value) node blocked may one = elim (eqb_tells node n) [
  | inl is ↦ ap (λ (k : ℕ). is_at_least (mode_at r.lock.held k) (mode_at (now_holding r.lock.held n m) k)) is.1
      ∙ (ap (is_at_least (mode_at r.lock.held n)) (mode-here r.lock.held n m one) ∙ had (mode_of_node r.lock.held n) may.0)
  | inr away ↦ ap (λ (o : Option Mode). is_at_least (mode_at r.lock.held node) (unwrap_or o Nl)) (mode-away r.lock.held n m node away.1) ∙ covers-itself (mode_at r.lock.held node)
]
  where
    had : (o : Option Mode) → holds_above o m ≡ true → is_at_least (unwrap_or o Nl) m ≡ true
    had None e = no-way e
    had (Some h) e = first-true _ _ e
none-while-blocked r Grants node blocked may one =
    same r.lock.held (after r Grants).lock.held node (ap (λ b. (cond b r (let n : Run = record r { lock = after_grants r.lock } in n)).lock.held) (blocked-turns r blocked))
none-while-blocked r (Blocks rebuild waiting) node blocked may one = covers-itself (mode_at r.lock.held node)
