-- Only a node's own lower takes from it what the table has of it.
use Rattle.std.proofs.Common.{ℕ, ◌≡◌, ◌||◌, Bool, true, false, List, [], ◌∷◌, ◌++◌, Option, None, Some, cond, inl, inr, sym, ap, ◌∙◌}
use Rattle.std.specs.Prelude.{◌==◌, not, fold, unwrap_or}
use Rattle.std.proofs.lemmas.Bool.Decides.{eqb_tells}
use Rattle.dlm_modes.specs.declared.Mode.{Mode}
use Rattle.dlm_modes.specs.declared.Mode.TheVariants.{Nl}
use Rattle.dlm_modes.specs.Modes.{is_at_least}
use Rattle.dlm_modes.proofs.ModeLaws.{covers-itself, covers-through}
use Rattle.dlm_master.specs.declared.claims.Claim.{Claim}
use Rattle.dlm_master.specs.declared.claims.Cause.{Cause}
use Rattle.dlm_master.specs.Claims.{mode_of_node, mode_at, now_holding, OneEach}
use Rattle.dlm_master.specs.LockState.{LockState}
use Rattle.dlm_master.specs.Locks.{request_cause, convert_cause, requested, converted, conversion_turns, all_turns, after_grants}
use Rattle.dlm_master.specs.Tables.{holds_covered}
use Rattle.dlm_master.specs.Runs.{Requests, Converts, Lowers, Grants, Blocks, Run}
use Rattle.dlm_master.specs.Laws.{IsSound, OnlyLowersTake}
use Rattle.dlm_master.proofs.ClaimLaws.{one-now, mode-away, mode-here, all-join, of-not}
use Rattle.dlm_master.proofs.TurnLaws.{Rise, rise-now, rise-of, rise-none, covers-null, split-on, split-all, split-one, fold-on, all-turned}

-- a node that takes a mode which covers what it holds leaves each node what it has
now-covers : (held : List Claim) (n : ℕ) (mode : Mode) (node : ℕ) → OneEach held → is_at_least mode (mode_at held n) ≡ true
    → is_at_least (mode_at (now_holding held n mode) node) (mode_at held node) ≡ true
now-covers held n mode node one covers = elim (eqb_tells node n) [
  | inl is ↦ ap (λ (k : ℕ). is_at_least (mode_at (now_holding held n mode) k) (mode_at held k)) is.1
      ∙ (ap (λ (m : Mode). is_at_least m (mode_at held n)) (mode-here held n mode one) ∙ covers)
  | inr away ↦ ap (λ (o : Option Mode). is_at_least (unwrap_or o Nl) (mode_at held node)) (mode-away held n mode node away.1) ∙ covers-itself (mode_at held node)
]

given-covers : (held given : List Claim) (node : ℕ) → OneEach held → OneEach given → Rise held given
    → is_at_least (mode_at (fold (λ cs w. now_holding cs w.node w.mode) held given) node) (mode_at held node) ≡ true
given-covers held [] node one apart rise = covers-itself (mode_at held node)
given-covers held (v ∷ given) node one apart rise =
    covers-through (mode_at (fold (λ cs w. now_holding cs w.node w.mode) (now_holding held v.node v.mode) given) node) (mode_at (now_holding held v.node v.mode) node) (mode_at held node)
    (given-covers (now_holding held v.node v.mode) given node (one-now held v.node v.mode one) apart.1 (rise-now held v given apart.0 rise.1))
    (now-covers held v.node v.mode node one rise.0)

grants-cover : (l : LockState) (node : ℕ) → IsSound l → is_at_least (mode_at (after_grants l).held node) (mode_at l.held node) ≡ true
grants-cover l node s =
    let t = all-turned l in
    let given = t.first ++ t.second in
    let left = (conversion_turns l).staying ++ (all_turns l).staying in
    let held : (all_turns l).held ≡ fold (λ cs w. now_holding cs w.node w.mode) l.held given =
    t.held ∙ (ap (λ (h : List Claim). fold (λ cs w. now_holding cs w.node w.mode) h t.second) t.between ∙ sym (fold-on l.held t.first t.second)) in
    let split = split-on l.conversions l.requests t.first t.second (conversion_turns l).staying (all_turns l).staying t.conversions t.requests in
    let rise : Rise l.held (l.conversions ++ l.requests) =
    all-join (λ v. is_at_least v.mode (mode_at l.held v.node) ≡ true) l.conversions l.requests (rise-of l.held l.conversions s.raises) (rise-none l.held l.requests s.holds_none) in
    ap (λ (h : List Claim). is_at_least (mode_at h node) (mode_at l.held node)) held
    ∙ given-covers l.held given node s.held_once (split-one (l.conversions ++ l.requests) given left split s.waits_once).0
    (split-all (λ v. is_at_least v.mode (mode_at l.held v.node) ≡ true) (l.conversions ++ l.requests) given left split rise).0

requested-covers : (cause : Option Cause) (l : LockState) (n : ℕ) (mode : Mode) (node : ℕ) → mode_of_node l.held n ≡ None → IsSound l
    → is_at_least (mode_at (requested cause l n mode).held node) (mode_at l.held node) ≡ true
requested-covers None l n mode node none s =
    now-covers l.held n mode node s.held_once (ap (λ (o : Option Mode). is_at_least mode (unwrap_or o Nl)) none ∙ covers-null mode)
requested-covers (Some c) l n mode node none s = covers-itself (mode_at l.held node)

converted-covers : (cause : Option Cause) (l : LockState) (n : ℕ) (mode : Mode) (node : ℕ) → holds_covered (mode_of_node l.held n) mode ≡ true → IsSound l
    → is_at_least (mode_at (converted cause l n mode).held node) (mode_at l.held node) ≡ true
converted-covers None l n mode node covers s = now-covers l.held n mode node s.held_once (had (mode_of_node l.held n) covers)
  where
    had : (o : Option Mode) → holds_covered o mode ≡ true → is_at_least mode (unwrap_or o Nl) ≡ true
    had None e = covers-null mode
    had (Some h) e = e
converted-covers (Some c) l n mode node covers s = covers-itself (mode_at l.held node)

pub only-lowers-take : OnlyLowersTake
only-lowers-take r (Requests n mode) node may s other = requested-covers (request_cause r.rebuild r.waiting r.lock n mode) r.lock n mode node may.0 s
only-lowers-take r (Converts n mode) node may s other = converted-covers (convert_cause r.rebuild r.waiting r.lock n mode) r.lock n mode node may.0 s
only-lowers-take r (Lowers n mode value) node may s other =
    ap (λ (o : Option Mode). is_at_least (unwrap_or o Nl) (mode_at r.lock.held node)) (mode-away r.lock.held n mode node (λ e. of-not n node other (sym e)))
    ∙ covers-itself (mode_at r.lock.held node)
only-lowers-take r Grants node may s other = by (r.rebuild || not (r.waiting == 0))
  where
    by : (b : Bool) → is_at_least (mode_at (cond b r (let n : Run = record r { lock = after_grants r.lock } in n)).lock.held node) (mode_at r.lock.held node) ≡ true
    by true = covers-itself (mode_at r.lock.held node)
    by false = grants-cover r.lock node s
only-lowers-take r (Blocks rebuild waiting) node may s other = covers-itself (mode_at r.lock.held node)
