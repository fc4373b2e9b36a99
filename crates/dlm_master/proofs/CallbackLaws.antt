-- Who is called back, and how far.
use Rattle.std.proofs.Common.{ℕ, zero, suc, ◌≡◌, Bool, true, false, List, [], ◌∷◌, ◌++◌, Option, None, Some, cond, refl, sym, ap, ◌∙◌, subst, arith}
use Rattle.std.specs.Prelude.{◌==◌, ◌&&◌, not, fold, filter, map, Contains}
use Rattle.std.specs.List.{list_all, filter_map, cons_option}
use Rattle.dlm_modes.specs.declared.Mode.{Mode}
use Rattle.dlm_modes.specs.declared.Mode.TheVariants.{Nl, Cr, Cw, Pr, Pw, Ex}
use Rattle.dlm_modes.specs.Modes.{go_together, is_at_least}
use Rattle.dlm_modes.proofs.ModeLaws.{covers-itself, covers-through}
use Rattle.dlm_master.specs.declared.claims.Claim.{Claim}
use Rattle.dlm_master.specs.Claims.{is_of, Absent, OneEach}
use Rattle.dlm_master.specs.LockState.{LockState}
use Rattle.dlm_master.specs.Locks.{claim, most_beside, most_below, kept_beside, may_keep, callback_to}
use Rattle.dlm_master.specs.Laws.{other_waiters, GoesWithAll, IsMostKept, IsCalledRightly, CallbacksAreDue}
use Rattle.dlm_master.proofs.ClaimLaws.{of-not}

no-way : {A : Type 0} → false ≡ true → A
no-way e = absurd (let f : false ≡ true = e in cc)

-- ---- modes

-- a mode goes with another exactly where the strongest beside that covers it
beside : (w m : Mode) → is_at_least (most_beside w) m ≡ go_together m w
beside Nl Nl = refl
beside Nl Cr = refl
beside Nl Cw = refl
beside Nl Pr = refl
beside Nl Pw = refl
beside Nl Ex = refl
beside Cr Nl = refl
beside Cr Cr = refl
beside Cr Cw = refl
beside Cr Pr = refl
beside Cr Pw = refl
beside Cr Ex = refl
beside Cw Nl = refl
beside Cw Cr = refl
beside Cw Cw = refl
beside Cw Pr = refl
beside Cw Pw = refl
beside Cw Ex = refl
beside Pr Nl = refl
beside Pr Cr = refl
beside Pr Cw = refl
beside Pr Pr = refl
beside Pr Pw = refl
beside Pr Ex = refl
beside Pw Nl = refl
beside Pw Cr = refl
beside Pw Cw = refl
beside Pw Pr = refl
beside Pw Pw = refl
beside Pw Ex = refl
beside Ex Nl = refl
beside Ex Cr = refl
beside Ex Cw = refl
beside Ex Pr = refl
beside Ex Pw = refl
beside Ex Ex = refl

-- of two that don't cover each other
apart : (a b m : Mode) → is_at_least a b ≡ false → is_at_least b a ≡ false → is_at_least Cr m ≡ (is_at_least a m && is_at_least b m)
apart Nl Nl m p q = no-way (sym p)
apart Nl Cr m p q = no-way (sym q)
apart Nl Cw m p q = no-way (sym q)
apart Nl Pr m p q = no-way (sym q)
apart Nl Pw m p q = no-way (sym q)
apart Nl Ex m p q = no-way (sym q)
apart Cr Nl m p q = no-way (sym p)
apart Cr Cr m p q = no-way (sym p)
apart Cr Cw m p q = no-way (sym q)
apart Cr Pr m p q = no-way (sym q)
apart Cr Pw m p q = no-way (sym q)
apart Cr Ex m p q = no-way (sym q)
apart Cw Nl m p q = no-way (sym p)
apart Cw Cr m p q = no-way (sym p)
apart Cw Cw m p q = no-way (sym p)
apart Cw Pr Nl p q = refl
apart Cw Pr Cr p q = refl
apart Cw Pr Cw p q = refl
apart Cw Pr Pr p q = refl
apart Cw Pr Pw p q = refl
apart Cw Pr Ex p q = refl
apart Cw Pw m p q = no-way (sym q)
apart Cw Ex m p q = no-way (sym q)
apart Pr Nl m p q = no-way (sym p)
apart Pr Cr m p q = no-way (sym p)
apart Pr Cw Nl p q = refl
apart Pr Cw Cr p q = refl
apart Pr Cw Cw p q = refl
apart Pr Cw Pr p q = refl
apart Pr Cw Pw p q = refl
apart Pr Cw Ex p q = refl
apart Pr Pr m p q = no-way (sym p)
apart Pr Pw m p q = no-way (sym q)
apart Pr Ex m p q = no-way (sym q)
apart Pw Nl m p q = no-way (sym p)
apart Pw Cr m p q = no-way (sym p)
apart Pw Cw m p q = no-way (sym p)
apart Pw Pr m p q = no-way (sym p)
apart Pw Pw m p q = no-way (sym p)
apart Pw Ex m p q = no-way (sym q)
apart Ex Nl m p q = no-way (sym p)
apart Ex Cr m p q = no-way (sym p)
apart Ex Cw m p q = no-way (sym p)
apart Ex Pr m p q = no-way (sym p)
apart Ex Pw m p q = no-way (sym p)
apart Ex Ex m p q = no-way (sym p)

-- where one covers the other
within : (a b m : Mode) → is_at_least a b ≡ true → is_at_least b m ≡ (is_at_least a m && is_at_least b m)
within a b m covers = by (is_at_least b m) refl (is_at_least a m) refl
  where
    by : (y : Bool) → is_at_least b m ≡ y → (x : Bool) → is_at_least a m ≡ x → y ≡ (x && y)
    by y e true h = refl
    by false e false h = refl
    by true e false h = no-way (sym h ∙ covers-through a b m covers e)

and-turned : (x y : Bool) → (x && y) ≡ (y && x)
and-turned true true = refl
and-turned true false = refl
and-turned false true = refl
and-turned false false = refl

-- the strongest that both cover covers exactly what both cover
both : (a b m : Mode) → is_at_least (most_below a b) m ≡ (is_at_least a m && is_at_least b m)
both a b m = by (is_at_least a b) refl (is_at_least b a) refl
  where
    by : (x : Bool) → is_at_least a b ≡ x → (y : Bool) → is_at_least b a ≡ y → is_at_least (cond x b (cond y a Cr)) m ≡ (is_at_least a m && is_at_least b m)
    by true p y q = within a b m p
    by false p true q = within b a m q ∙ and-turned (is_at_least b m) (is_at_least a m)
    by false p false q = apart a b m p q

-- ---- beside all waiters

and-through : (x y z : Bool) → ((x && y) && z) ≡ (x && (y && z))
and-through true y z = refl
and-through false y z = refl

-- what may be kept covers exactly what the holder's mode covers and goes with each other waiter
keeps : (node : ℕ) (ws : List Claim) (had m : Mode)
    → is_at_least (fold (kept_beside node) had ws) m ≡ (is_at_least had m && list_all (λ w. go_together m w.mode) (filter (λ w. not (is_of node w)) ws))
keeps node [] had m = by (is_at_least had m)
  where
    by : (b : Bool) → b ≡ (b && true)
    by true = refl
    by false = refl
keeps node (w ∷ ws) had m = by (is_of node w) refl (keeps node ws (kept_beside node had w) m)
  where
    all : List Claim → Bool
    all = list_all (λ (w : Claim). go_together m w.mode)

    others : List Claim
    others = filter (λ (w : Claim). not (is_of node w)) ws

    by : (b : Bool) → is_of node w ≡ b → is_at_least (fold (kept_beside node) (kept_beside node had w) ws) m ≡ (is_at_least (kept_beside node had w) m && list_all (λ (w : Claim). go_together m w.mode) (filter (λ (w : Claim). not (is_of node w)) ws))
        → is_at_least (fold (kept_beside node) (kept_beside node had w) ws) m ≡ (is_at_least had m && list_all (λ (w : Claim). go_together m w.mode) (filter (λ (w : Claim). not (is_of node w)) (w ∷ ws)))
    by true own rest =
        rest ∙ (ap (λ (k : Mode). is_at_least k m && list_all (λ (w : Claim). go_together m w.mode) (filter (λ (w : Claim). not (is_of node w)) ws)) (own-keeps own)
        ∙ ap (λ (l : List Claim). is_at_least had m && list_all (λ (w : Claim). go_together m w.mode) l) (sym (passed own)))
      where
        own-keeps : is_of node w ≡ true → kept_beside node had w ≡ had
        own-keeps e = ap (λ b. cond b had (most_below had (most_beside w.mode))) e

        passed : is_of node w ≡ true → filter (λ (w : Claim). not (is_of node w)) (w ∷ ws) ≡ filter (λ (w : Claim). not (is_of node w)) ws
        passed e = ap (λ b. cond (not b) (w ∷ filter (λ (w : Claim). not (is_of node w)) ws) (filter (λ (w : Claim). not (is_of node w)) ws)) e
    by false other rest =
        rest ∙ (ap (λ (k : Mode). is_at_least k m && list_all (λ (w : Claim). go_together m w.mode) (filter (λ (w : Claim). not (is_of node w)) ws)) (less other)
        ∙ (ap (λ x. x && list_all (λ (w : Claim). go_together m w.mode) (filter (λ (w : Claim). not (is_of node w)) ws)) (both had (most_beside w.mode) m ∙ ap (λ x. is_at_least had m && x) (beside w.mode m))
        ∙ (and-through (is_at_least had m) (go_together m w.mode) (list_all (λ (w : Claim). go_together m w.mode) (filter (λ (w : Claim). not (is_of node w)) ws))
        ∙ ap (λ (l : List Claim). is_at_least had m && list_all (λ (w : Claim). go_together m w.mode) l) (sym (among other)))))
      where
        less : is_of node w ≡ false → kept_beside node had w ≡ most_below had (most_beside w.mode)
        less e = ap (λ b. cond b had (most_below had (most_beside w.mode))) e

        among : is_of node w ≡ false → filter (λ (w : Claim). not (is_of node w)) (w ∷ ws) ≡ w ∷ filter (λ (w : Claim). not (is_of node w)) ws
        among e = ap (λ b. cond (not b) (w ∷ filter (λ (w : Claim). not (is_of node w)) ws) (filter (λ (w : Claim). not (is_of node w)) ws)) e

fold-on : (node : ℕ) (had : Mode) (xs ys : List Claim) → fold (kept_beside node) had (xs ++ ys) ≡ fold (kept_beside node) (fold (kept_beside node) had xs) ys
fold-on node had [] ys = refl
fold-on node had (x ∷ xs) ys = fold-on node (kept_beside node had x) xs ys

pub may-keep : (l : LockState) (c : Claim) (m : Mode) → is_at_least (may_keep l c) m ≡ (is_at_least c.mode m && list_all (λ w. go_together m w.mode) (other_waiters l c.node))
may-keep l c m = ap (λ (k : Mode). is_at_least k m) (sym (fold-on c.node c.mode l.conversions l.requests)) ∙ keeps c.node (l.conversions ++ l.requests) c.mode m

-- ---- callbacks

goes-all : (ws : List Claim) (m : Mode) → list_all (λ w. go_together m w.mode) ws ≡ true → GoesWithAll ws m
goes-all [] m e = tt
goes-all (w ∷ ws) m e = by (go_together m w.mode) refl (goes-all ws m)
  where
    by : (b : Bool) → go_together m w.mode ≡ b → (list_all (λ w. go_together m w.mode) ws ≡ true → GoesWithAll ws m) → GoesWithAll (w ∷ ws) m
    by true h rest = (h, rest (rw h at e))
    by false h rest = no-way (rw h at e)

all-goes : (ws : List Claim) (m : Mode) → GoesWithAll ws m → list_all (λ w. go_together m w.mode) ws ≡ true
all-goes [] m all = refl
all-goes (w ∷ ws) m all = rw all.0 (all-goes ws m all.1)

two : (a b : Bool) → (a && b) ≡ true → (a ≡ true) × (b ≡ true)
two true b e = (refl, e)
two false b e = no-way e

-- what is said of a holder's callback
record IsSaid (l : LockState) (c : Claim) : Type 0 where
  spared : GoesWithAll (other_waiters l c.node) c.mode → callback_to l c ≡ None
  called : (GoesWithAll (other_waiters l c.node) c.mode → ⊥) → callback_to l c ≡ Some (c.node, may_keep l c)
  most : IsMostKept c.mode (may_keep l c) (other_waiters l c.node)

is-said : (l : LockState) (c : Claim) → IsSaid l c
is-said l c = record {
  spared = λ all. ap (λ b. cond b None (Some (c.node, may_keep l c))) (covers-all all);
  called = λ not_all. ap (λ b. cond b None (Some (c.node, may_keep l c))) (covers-less not_all);
  most = most;
}
  where
    at-own : is_at_least (may_keep l c) c.mode ≡ list_all (λ (w : Claim). go_together c.mode w.mode) (other_waiters l c.node)
    at-own = may-keep l c c.mode ∙ ap (λ b. b && list_all (λ (w : Claim). go_together c.mode w.mode) (other_waiters l c.node)) (covers-itself c.mode)

    covers-all : GoesWithAll (other_waiters l c.node) c.mode → is_at_least (may_keep l c) c.mode ≡ true
    covers-all all = at-own ∙ all-goes (other_waiters l c.node) c.mode all

    covers-less : (GoesWithAll (other_waiters l c.node) c.mode → ⊥) → is_at_least (may_keep l c) c.mode ≡ false
    covers-less not_all = by (is_at_least (may_keep l c) c.mode) refl
      where
        by : (b : Bool) → is_at_least (may_keep l c) c.mode ≡ b → b ≡ false
        by true e = absurd (not_all (goes-all (other_waiters l c.node) c.mode (sym at-own ∙ e)))
        by false e = refl

    kept : (is_at_least c.mode (may_keep l c) ≡ true) × (list_all (λ (w : Claim). go_together (may_keep l c) w.mode) (other_waiters l c.node) ≡ true)
    kept = two _ _ (sym (may-keep l c (may_keep l c)) ∙ covers-itself (may_keep l c))

    most : IsMostKept c.mode (may_keep l c) (other_waiters l c.node)
    most = record {
      covered = kept.0;
      goes = goes-all (other_waiters l c.node) (may_keep l c) kept.1;
      most = λ mode below all. may-keep l c mode ∙ (ap (λ b. b && list_all (λ (w : Claim). go_together mode w.mode) (other_waiters l c.node)) below ∙ all-goes (other_waiters l c.node) mode all);
    }

-- ---- all who are called back

-- a holder is called back as itself
as-itself : (l : LockState) (c : Claim) (b : ℕ × Mode) → callback_to l c ≡ Some b → b.0 ≡ c.node
as-itself l c b e = by (is_at_least (may_keep l c) c.mode) e
  where
    by : (x : Bool) → cond x None (Some (c.node, may_keep l c)) ≡ Some b → b.0 ≡ c.node
    by true e = absurd (let f : None ≡ Some b = e in cc)
    by false e = let same : (c.node, may_keep l c) ≡ b = cc in sym (ap (λ (b : ℕ × Mode). b.0) same)

-- what is called is told to some holder
from-holder : (l : LockState) (cs : List Claim) (b : ℕ × Mode) → Contains (filter_map (callback_to l) cs) b → (c : Claim) × Contains cs c × (callback_to l c ≡ Some b)
from-holder l [] b (k, h, e) = absurd (omega arith)
from-holder l (c ∷ cs) b there = by (callback_to l c) refl there (from-holder l cs b)
  where
    later : (d : Claim) × Contains cs d × (callback_to l d ≡ Some b) → (d : Claim) × Contains (c ∷ cs) d × (callback_to l d ≡ Some b)
    later (d, (k, h, e), said) = (d, (suc k, omega arith, e), said)

    by : (o : Option (ℕ × Mode)) → callback_to l c ≡ o → Contains (cons_option o (filter_map (callback_to l) cs)) b
        → (Contains (filter_map (callback_to l) cs) b → (d : Claim) × Contains cs d × (callback_to l d ≡ Some b)) → (d : Claim) × Contains (c ∷ cs) d × (callback_to l d ≡ Some b)
    by None said there rest = later (rest there)
    by (Some a) said (zero, h, e) rest = (c, (0, omega arith, refl), said ∙ ap (λ (b : ℕ × Mode). Some b) e)
    by (Some a) said (suc k, h, e) rest = later (rest (k, omega arith, e))

-- each holder's callback is among them
to-holder : (l : LockState) (cs : List Claim) (c : Claim) (b : ℕ × Mode) → Contains cs c → callback_to l c ≡ Some b → Contains (filter_map (callback_to l) cs) b
to-holder l [] c b (k, h, e) said = absurd (omega arith)
to-holder l (d ∷ ds) c b (zero, h, e) said = subst (λ (o : Option (ℕ × Mode)). Contains (cons_option o (filter_map (callback_to l) ds)) b) (sym (ap (callback_to l) e ∙ said)) (0, omega arith, refl)
to-holder l (d ∷ ds) c b (suc k, h, e) said = by (callback_to l d) (to-holder l ds c b (k, omega arith, e) said)
  where
    by : (o : Option (ℕ × Mode)) → Contains (filter_map (callback_to l) ds) b → Contains (cons_option o (filter_map (callback_to l) ds)) b
    by None there = there
    by (Some a) (k, h, e) = (suc k, omega arith, e)

-- a node that isn't there
not-there : (cs : List Claim) (c : Claim) → Absent c.node cs → Contains cs c → ⊥
not-there [] c all (k, h, e) = omega arith
not-there (d ∷ ds) c all (zero, h, e) = of-not d.node c.node all.0 (ap (λ (c : Claim). c.node) e)
not-there (d ∷ ds) c all (suc k, h, e) = not-there ds c all.1 (k, omega arith, e)

-- of a node there is one claim
one-claim : (cs : List Claim) (c d : Claim) → OneEach cs → Contains cs c → Contains cs d → c.node ≡ d.node → c ≡ d
one-claim [] c d one (k, h, e) there same = absurd (omega arith)
one-claim (x ∷ xs) c d one (zero, h, e) (zero, g, f) same = sym e ∙ f
one-claim (x ∷ xs) c d one (zero, h, e) (suc k, g, f) same =
    absurd (not-there xs d (subst (λ (n : ℕ). Absent n xs) (ap (λ (c : Claim). c.node) e ∙ same) one.0) (k, omega arith, f))
one-claim (x ∷ xs) c d one (suc k, h, e) (zero, g, f) same =
    absurd (not-there xs c (subst (λ (n : ℕ). Absent n xs) (ap (λ (c : Claim). c.node) f ∙ sym same) one.0) (k, omega arith, e))
one-claim (x ∷ xs) c d one (suc k, h, e) (suc j, g, f) same = one-claim xs c d one.1 (k, omega arith, e) (j, omega arith, f) same

abbrev as_claims : List (ℕ × Mode) → List Claim
as_claims = map (λ b. claim b.0 b.1)

called-absent : (l : LockState) (cs : List Claim) (node : ℕ) → Absent node cs → Absent node (as_claims (filter_map (callback_to l) cs))
called-absent l [] node all = tt
called-absent l (c ∷ cs) node all = by (callback_to l c) refl (called-absent l cs node all.1)
  where
    by : (o : Option (ℕ × Mode)) → callback_to l c ≡ o → Absent node (as_claims (filter_map (callback_to l) cs)) → Absent node (as_claims (cons_option o (filter_map (callback_to l) cs)))
    by None said rest = rest
    by (Some b) said rest = (ap (λ (n : ℕ). n == node) (as-itself l c b said) ∙ all.0, rest)

called-once : (l : LockState) (cs : List Claim) → OneEach cs → OneEach (as_claims (filter_map (callback_to l) cs))
called-once l [] one = tt
called-once l (c ∷ cs) one = by (callback_to l c) refl (called-once l cs one.1)
  where
    by : (o : Option (ℕ × Mode)) → callback_to l c ≡ o → OneEach (as_claims (filter_map (callback_to l) cs)) → OneEach (as_claims (cons_option o (filter_map (callback_to l) cs)))
    by None said rest = rest
    by (Some b) said rest = (subst (λ (n : ℕ). Absent n (as_claims (filter_map (callback_to l) cs))) (sym (as-itself l c b said)) (called-absent l cs c.node one.0), rest)

rightly : (l : LockState) (c : Claim) → OneEach l.held → Contains l.held c → IsCalledRightly l c
rightly l c one there =
    let said = is-said l c in
    record {
      spared = λ all keep called. let from = from-holder l l.held (c.node, keep) called in
          let same : c ≡ from.0 = one-claim l.held c from.0 one there from.1 (as-itself l from.0 (c.node, keep) from.2) in
          absurd (let f : None ≡ Some (c.node, keep) = sym (said.spared all) ∙ (ap (callback_to l) same ∙ from.2) in cc);
      called = λ not_all. (may_keep l c, to-holder l l.held c (c.node, may_keep l c) there (said.called not_all), said.most);
    }

pub callbacks-are-due : CallbacksAreDue
callbacks-are-due = record {
  holders = rightly;
  once = λ l one. called-once l l.held one;
  only = λ l node all. called-absent l l.held node all;
}
