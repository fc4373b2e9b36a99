-- Lists of claims.
use Rattle.std.proofs.Common.{ℕ, ◌≡◌, inl, inr, Bool, true, false, Option, None, Some, List, [], ◌∷◌, ◌++◌, refl, sym, ap, ◌∙◌, subst}
use Rattle.std.specs.Prelude.{◌==◌, ◌&&◌, not, option_map, unwrap_or, is_none}
use Rattle.std.specs.List.{AllByRecursion}
use Rattle.std.proofs.lemmas.Bool.Decides.{eqb_tells}
use Rattle.dlm_modes.specs.declared.Mode.{Mode}
use Rattle.dlm_modes.specs.declared.Mode.TheVariants.{Nl}
use Rattle.dlm_modes.specs.Modes.{go_together}
use Rattle.dlm_modes.proofs.ModeLaws.{together-turned}
use Rattle.fencing.specs.NodeSets.{least_of}
use Rattle.dlm_master.specs.declared.claims.Claim.{Claim}
use Rattle.dlm_master.specs.declared.claims.Cause.{Cause}
use Rattle.dlm_master.specs.declared.claims.Cause.TheVariants.{Held, Rebuild, Slot}
use Rattle.dlm_master.specs.Claims.{is_of, mode_of_node, mode_at, now_holding, stands_in_way, in_way, OneEach}
use Rattle.dlm_master.specs.Locks.{or_else, cause_of}
use Rattle.dlm_master.proofs.ClaimLaws.{absent-mode, mode-here, mode-away}
use Rattle.lock_steps.proofs.Basics.{true-false, eqb-self, eqb-other}

-- ---- what a node holds

pub now-here : (cs : List Claim) (k : ℕ) (mode : Mode) → OneEach cs → mode_at (now_holding cs k mode) k ≡ mode
now-here cs k mode one = mode-here cs k mode one

pub now-away : (cs : List Claim) (k : ℕ) (mode : Mode) (i : ℕ) → (i ≡ k → ⊥) → mode_at (now_holding cs k mode) i ≡ mode_at cs i
now-away cs k mode i ne = ap (λ (o : Option Mode). unwrap_or o Nl) (mode-away cs k mode i ne)

-- ---- waiters

-- a claim in a list is of its node where no earlier one is
pub among-here : (xs ys : List Claim) (w : Claim) → OneEach (xs ++ w ∷ ys) → mode_of_node (xs ++ w ∷ ys) w.node ≡ Some w.mode
among-here [] ys w one = rw (eqb-self w.node) refl
among-here (x ∷ xs) ys w one = rw (not-first xs one.0) (among-here xs ys w one.1)
  where
    not-first : (xs : List Claim) → AllByRecursion (λ d. is_of x.node d ≡ false) (xs ++ w ∷ ys) → (x.node == w.node) ≡ false
    not-first [] all = elim (eqb_tells x.node w.node) [
      | inl e ↦ true-false (subst (λ (n : ℕ). (w.node == n) ≡ true) (sym e.1) (eqb-self w.node)) all.0
      | inr ne ↦ ne.0
    ]
    not-first (y ∷ xs) all = not-first xs all.1

pub among-away : (xs ys : List Claim) (w : Claim) (i : ℕ) → (i ≡ w.node → ⊥) → mode_of_node (xs ++ w ∷ ys) i ≡ mode_of_node (xs ++ ys) i
among-away [] ys w i ne = rw (eqb-other w.node i (λ e. ne (sym e))) refl
among-away (x ∷ xs) ys w i ne = by (x.node == i) refl (among-away xs ys w i ne)
  where
    by : (b : Bool) → (x.node == i) ≡ b → mode_of_node (xs ++ w ∷ ys) i ≡ mode_of_node (xs ++ ys) i → mode_of_node (x ∷ (xs ++ w ∷ ys)) i ≡ mode_of_node (x ∷ (xs ++ ys)) i
    by true e rest = rw e refl
    by false e rest = rw e rest

-- and where it is gone, its node has none
pub among-gone : (xs ys : List Claim) (w : Claim) → OneEach (xs ++ w ∷ ys) → mode_of_node (xs ++ ys) w.node ≡ None
among-gone [] ys w one = absent-mode ys w.node one.0
among-gone (x ∷ xs) ys w one = rw (not-first xs one.0) (among-gone xs ys w one.1)
  where
    not-first : (xs : List Claim) → AllByRecursion (λ d. is_of x.node d ≡ false) (xs ++ w ∷ ys) → (x.node == w.node) ≡ false
    not-first [] all = elim (eqb_tells x.node w.node) [
      | inl e ↦ true-false (subst (λ (n : ℕ). (w.node == n) ≡ true) (sym e.1) (eqb-self w.node)) all.0
      | inr ne ↦ ne.0
    ]
    not-first (y ∷ xs) all = not-first xs all.1

pub all-less : (P : Claim → Type 0) (xs ys : List Claim) (w : Claim) → AllByRecursion P (xs ++ w ∷ ys) → AllByRecursion P (xs ++ ys)
all-less P [] ys w all = all.1
all-less P (x ∷ xs) ys w all = (all.0, all-less P xs ys w all.1)

pub all-at : (P : Claim → Type 0) (xs ys : List Claim) (w : Claim) → AllByRecursion P (xs ++ w ∷ ys) → P w
all-at P [] ys w all = all.0
all-at P (x ∷ xs) ys w all = all-at P xs ys w all.1

pub one-less : (xs ys : List Claim) (w : Claim) → OneEach (xs ++ w ∷ ys) → OneEach (xs ++ ys)
one-less [] ys w one = one.1
one-less (x ∷ xs) ys w one = (all-less (λ d. is_of x.node d ≡ false) xs ys w one.0, one-less xs ys w one.1)

pub all-more : (P : Claim → Type 0) (xs : List Claim) (w : Claim) → AllByRecursion P xs → P w → AllByRecursion P (xs ++ w ∷ [])
all-more P [] w all here = (here, tt)
all-more P (x ∷ xs) w all here = (all.0, all-more P xs w all.1 here)

no-claim : (c : Claim) (cs : List Claim) (n : ℕ) → mode_of_node (c ∷ cs) n ≡ None → (is_of n c ≡ false) × (mode_of_node cs n ≡ None)
no-claim c cs n e = by (is_of n c) refl
  where
    by : (b : Bool) → is_of n c ≡ b → (is_of n c ≡ false) × (mode_of_node cs n ≡ None)
    by true h = absurd (let f : Some c.mode ≡ None = rw h at e in cc)
    by false h = (h, rw h at e)

pub one-more : (xs : List Claim) (w : Claim) → OneEach xs → mode_of_node xs w.node ≡ None → OneEach (xs ++ w ∷ [])
one-more [] w one none = (tt, tt)
one-more (x ∷ xs) w one none =
    let first = no-claim x xs w.node none in (
      all-more (λ d. is_of x.node d ≡ false) xs w one.0 (eqb-other w.node x.node (λ e. true-false (subst (λ (n : ℕ). (x.node == n) ≡ true) (sym e) (eqb-self x.node)) first.0)),
      one-more xs w one.1 first.1,
    )

-- ---- what is in the way

turn-not : (g : Bool) → not g ≡ false → g ≡ true
turn-not true e = refl
turn-not false e = true-false refl e

with-null : (mode : Mode) → go_together mode Nl ≡ true
with-null mode = together-turned Nl mode refl

-- where no holder is in the way, the mode goes with what each other node holds
pub way-goes : (cs : List Claim) (node : ℕ) (mode : Mode) (i : ℕ) → in_way cs node mode ≡ None → (i ≡ node → ⊥) → go_together mode (mode_at cs i) ≡ true
way-goes [] node mode i e ne = with-null mode
way-goes (x ∷ xs) node mode i e ne = by (stands_in_way node mode x) refl (way-goes xs node mode i)
  where
    by : (b : Bool) → stands_in_way node mode x ≡ b → (in_way xs node mode ≡ None → (i ≡ node → ⊥) → go_together mode (mode_at xs i) ≡ true) → go_together mode (mode_at (x ∷ xs) i) ≡ true
    by true h rest = absurd (let f : Some x.node ≡ None = rw h at e in cc)
    by false h rest = elim (eqb_tells x.node i) [
      | inl here ↦ rw here.0 (together-turned x.mode mode (turn-not (go_together x.mode mode)
          (sym (ap (λ t. not t && not (go_together x.mode mode)) (eqb-other x.node node (λ q. ne (sym here.1 ∙ q)))) ∙ h)))
      | inr away ↦ rw away.0 (rest (rw h at e) ne)
    ]

or-none : (a b : Option Cause) → or_else a b ≡ None → (a ≡ None) × (b ≡ None)
or-none None b e = (refl, e)
or-none (Some c) b e = absurd (let f : Some c ≡ None = e in cc)

held-none : (o : Option ℕ) → option_map Held o ≡ None → o ≡ None
held-none None e = refl
held-none (Some n) e = absurd (let f : Some (Held n) ≡ None = e in cc)

slot-none : (o : Option ℕ) → option_map Slot o ≡ None → o ≡ None
slot-none None e = refl
slot-none (Some n) e = absurd (let f : Some (Slot n) ≡ None = e in cc)

-- where a node needn't wait
pub no-cause : (rebuild : Bool) (waiting : ℕ) (held conversions requests : List Claim) (node : ℕ) (mode : Mode)
    → cause_of rebuild waiting held conversions requests node mode ≡ None → (rebuild ≡ false) × (least_of waiting ≡ None) × (in_way held node mode ≡ None)
no-cause true waiting held conversions requests node mode e = absurd (let f : Some Rebuild ≡ None = e in cc)
no-cause false waiting held conversions requests node mode e =
    let slots = or-none (option_map Slot (least_of waiting)) _ e in
    (refl, slot-none _ slots.0, held-none _ (or-none (option_map Held (in_way held node mode)) _ slots.1).0)

pub none-is : (o : Option ℕ) → is_none o ≡ true → o ≡ None
none-is None e = refl
none-is (Some n) e = true-false e refl

pub first-true : (a b : Bool) → (a && b) ≡ true → a ≡ true
first-true true b e = refl
first-true false b e = e
