-- What the parts and the machine have in common after a call at one node.
use Rattle.std.proofs.Common.{ℕ, ◌≡◌, ◌≢◌, ◌≤◌, ◌<◌, inl, inr, Bool, true, false, Option, None, Some, [], ◌∷◌, refl, sym, ap, ◌∙◌, subst, arith}
use Rattle.std.specs.Prelude.{unwrap_or}
use Rattle.std.specs.List.{AllByRecursion, filter_map}
use Rattle.std.proofs.lemmas.Bool.{cases_eq, cases_Bool, cond-true, cond-false}
use Rattle.glock_names.specs.declared.LockName.{LockName}
use Rattle.glock_names.specs.LockMaps.{with_lock}
use Rattle.glock_names.proofs.LockMapLaws.{at_lock-with_same, at_lock-with_other}
use Rattle.glock_names.specs.States.{mode_for}
use Rattle.dlm_modes.specs.Modes.{is_at_least}
use Rattle.dlm_modes.proofs.ModeLaws.{covers-itself}
use Rattle.mail_queues.specs.declared.Message.{Message}
use Rattle.mail_queues.specs.declared.Body.{Body}
use Rattle.dlm_holder.specs.Holdings.{Holdings, nothing, holding_of}
use Rattle.dlm_holder.specs.declared.Holding.{Holding}
use Rattle.lock_laws.specs.Lock.{State, Un, Node, eff, at}
use Rattle.lock_steps.specs.Parts.{Parts, Post, way}
use Rattle.lock_steps.specs.Ties.{Sight, sight, Fits, IsNobody, Tied, in_view, tells, grants}
use Rattle.lock_steps.proofs.Modes.{cover-as-modes}
use Rattle.lock_steps.proofs.Basics.{eqb-self, at-here, at-away}

-- ---- messages

module _ {A : Type 0} (says : Body → Option A) (g : ℕ) (b : Body) where
  pub now-says : in_view g says (let m : Message = record { generation = g; body = b } in m) ≡ says b
  now-says = cond-true _ _ _ (eqb-self g)

pub says-one : {A : Type 0} (says : Message → Option A) (m : Message) (x : A) → says m ≡ Some x → filter_map says (m ∷ []) ≡ x ∷ []
says-one says m x e = rw e refl

pub says-none : {A : Type 0} (says : Message → Option A) (m : Message) → says m ≡ None → filter_map says (m ∷ []) ≡ []
says-none says m e = rw e refl

-- ---- holders

pub holding-is : (h : Holdings) (lock : LockName) (x : Holding) → holding_of (with_lock h lock x) lock ≡ x
holding-is h lock x = ap (λ (o : Option Holding). unwrap_or o nothing) (at_lock-with_same h lock x)

-- ---- nodes

pub eff-runs : (n : Node) → n.waits ≡ false → eff n ≡ n.state
eff-runs n e = cond-false _ _ _ e

pub eff-waits : (n : Node) → n.waits ≡ true → eff n ≡ Un
eff-waits n e = cond-true _ _ _ e

-- what a holder has is at most the machine's state
pub fits-at-most : {s : Sight} {n : Node} → Fits s n → is_at_least (mode_for (n.state)) s.mode ≡ true
fits-at-most {s} {n} f = elim (cases_Bool (s.member)) [
  | inl m ↦ ap (is_at_least (mode_for (n.state))) (f.mode m) ∙ elim (cases_Bool (n.waits)) [
    | inl w ↦ ap (λ (a : State). is_at_least (mode_for (n.state)) (mode_for a)) (eff-waits n w) ∙ sym (cover-as-modes Un (n.state))
    | inr r ↦ ap (λ (a : State). is_at_least (mode_for (n.state)) (mode_for a)) (eff-runs n r) ∙ covers-itself (mode_for (n.state))
  ]
  | inr out ↦ f.left out
]

-- a node's sight where holders, letters and views taken change
pub same-sight : (lock : LockName) (p : Parts) (holders : ℕ → Holdings) (post : Post) (taken : ℕ → Bool) (i : ℕ) → holders i ≡ p.holders i → taken i ≡ p.taken i
    → filter_map (in_view p.membership.generation (tells lock)) (way post i p.master) ≡ (sight lock p i).up
    → filter_map (in_view p.membership.generation (grants lock)) (way post p.master i) ≡ (sight lock p i).down
    → sight lock p i ≡ sight lock (record p { holders = holders; post = post; taken = taken }) i
same-sight lock p holders post taken i h v up down t =
    let old : Parts = record p { holders = λ k. sym h t; taken = λ k. sym v t } in
    record (sight lock old i) { up = sym up t; down = sym down t }

module _ (lock : LockName) (p q : Parts) (l : ℕ → Node) (k : ℕ) (n : Node) (within : k ≤ 8) (tied : Tied lock p l) where
  -- node k is another one, and nothing is seen of that at other nodes
  pub one-node : Fits (sight lock q k) n → ((i : ℕ) → i ≤ 8 → (i ≡ k → ⊥) → sight lock p i ≡ sight lock q i) → (j : ℕ) → j ≤ 8 → Fits (sight lock q j) (at l k n j)
  one-node fits same j x = elim (cases_eq j k) [
    | inl e ↦ subst (λ (i : ℕ). Fits (sight lock q i) (at l k n i)) (sym e) (subst (Fits (sight lock q k)) (sym (at-here l k n)) fits)
    | inr ne ↦ subst (Fits (sight lock q j)) (sym (at-away l k n j ne)) (subst (λ (s : Sight). Fits s (l j)) (same j x ne) (tied.nodes j x))
  ]

  pub no-other : (j : ℕ) → 8 < j → IsNobody (at l k n j)
  no-other j x = subst IsNobody (sym (at-away l k n j (λ e. absurd (omega (arith, e))))) (tied.others j x)

-- no step: what is on its way says the same
pub no-step : (lock : LockName) (p : Parts) (post : Post) (l : ℕ → Node) → Tied lock p l
    → ((i : ℕ) → i ≤ 8 → filter_map (in_view p.membership.generation (tells lock)) (way post i p.master) ≡ filter_map (in_view p.membership.generation (tells lock)) (way p.post i p.master))
    → ((i : ℕ) → i ≤ 8 → filter_map (in_view p.membership.generation (grants lock)) (way post p.master i) ≡ filter_map (in_view p.membership.generation (grants lock)) (way p.post p.master i))
    → ((i k : ℕ) → i ≤ 8 → k ≤ 8 → AllByRecursion (λ m. m.generation ≤ p.membership.generation) (way post i k))
    → Tied lock (record p { post = post }) l
no-step lock p post l tied up down mail = record {
  nodes = λ k x. subst (λ (s : Sight). Fits s (l k)) (same-sight lock p p.holders post p.taken k refl refl (up k x) (down k x)) (tied.nodes k x);
  others = tied.others;
  master = tied.master;
  table = tied.table;
  done = tied.done;
  unheard = tied.unheard;
  mail = mail;
}

-- ---- calls on other locks

pub holding-away : (h : Holdings) (lock other : LockName) (x : Holding) → lock ≢ other → holding_of (with_lock h other x) lock ≡ holding_of h lock
holding-away h lock other x ne = ap (λ (o : Option Holding). unwrap_or o nothing) (at_lock-with_other h other lock x ne)
