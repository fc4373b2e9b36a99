-- The modes in which a lock is held go together.
use Rattle.std.proofs.Common.{ℕ, ◌≡◌, ◌≢◌, ◌||◌, Bool, true, false, List, [], ◌∷◌, ◌++◌, Option, None, Some, cond, refl, sym, ap, ◌∙◌, subst, inl, inr, ◌⊎◌, eq-eqb}
use Rattle.std.specs.Prelude.{◌==◌, ◌&&◌, not, find, fold, option_map, unwrap_or, is_none}
use Rattle.std.specs.List.{AllByRecursion}
use Rattle.std.proofs.lemmas.Bool.Decides.{eqb_tells}
use Rattle.dlm_modes.specs.declared.Mode.{Mode}
use Rattle.dlm_modes.specs.declared.Mode.TheVariants.{Nl}
use Rattle.dlm_modes.specs.Modes.{go_together, is_at_least}
use Rattle.dlm_modes.proofs.ModeLaws.{together-turned, together-weaker}
use Rattle.fencing.specs.NodeSets.{least_of}
use Rattle.dlm_master.specs.declared.claims.Claim.{Claim}
use Rattle.dlm_master.specs.declared.claims.Cause.{Cause}
use Rattle.dlm_master.specs.declared.claims.Cause.TheVariants.{Held, Rebuild, Slot}
use Rattle.dlm_master.specs.Claims.{is_of, is_null, mode_of_node, mode_at, with_claim, without_claim, now_holding, stands_in_way, in_way, OneEach, Together}
use Rattle.dlm_master.specs.LockState.{LockState, TurnState}
use Rattle.dlm_master.proofs.ClaimLaws.{absent-mode, absent-along, turned, all-with, all-without, all-both}
use Rattle.dlm_master.specs.Locks.{claim, or_else, cause_of, request_cause, convert_cause, requested, converted, lowered, is_free, turn, conversion_turns, after_grants}
use Rattle.dlm_master.specs.Tables.{holds_above}
use Rattle.dlm_master.specs.Runs.{Call, Requests, Converts, Lowers, Grants, Blocks, Run, after, MayCall, after_all, MayCallAll}
use Rattle.dlm_master.specs.Laws.{GrantsKeepTogether}

no-way : {A : Type 0} → false ≡ true → A
no-way e = absurd (let f : false ≡ true = e in cc)

-- what others hold goes with this mode of a node
abbrev pub Goes : ℕ → Mode → List Claim → Type 0
Goes node mode cs = AllByRecursion (λ d. node ≢ d.node → go_together mode d.mode ≡ true) cs

-- a claim that goes with the others may be put
together-with : (cs : List Claim) (c : Claim) → Together cs → Goes c.node c.mode cs → Together (with_claim cs c)
together-with [] c all goes = (tt, tt)
together-with (x ∷ xs) c all goes = by (is_of c.node x) (together-with xs c all.1 goes.1)
  where
    by : (b : Bool) → Together (with_claim xs c) → Together (cond b (c ∷ xs) (x ∷ with_claim xs c))
    by true rest = (goes.1, all.1)
    by false rest = (
      all-with (λ d. x.node ≢ d.node → go_together x.mode d.mode ≡ true) xs c all.0
          (λ ne. together-turned c.mode x.mode (goes.0 (λ e. ne (sym e)))),
      rest,
    )

together-without : (cs : List Claim) (node : ℕ) → Together cs → Together (without_claim cs node)
together-without [] node all = tt
together-without (x ∷ xs) node all = by (is_of node x) (together-without xs node all.1)
  where
    by : (b : Bool) → Together (without_claim xs node) → Together (cond b xs (x ∷ without_claim xs node))
    by true rest = all.1
    by false rest = (all-without (λ d. x.node ≢ d.node → go_together x.mode d.mode ≡ true) xs node all.0, rest)

together-now : (cs : List Claim) (node : ℕ) (mode : Mode) → Together cs → Goes node mode cs → Together (now_holding cs node mode)
together-now cs node mode all goes = by (is_null mode)
  where
    by : (b : Bool) → Together (cond b (without_claim cs node) (with_claim cs (claim node mode)))
    by true = together-without cs node all
    by false = together-with cs (claim node mode) all goes

-- where nothing is in the way, the mode goes with what others hold
pub way-goes : (cs : List Claim) (node : ℕ) (mode : Mode) → in_way cs node mode ≡ None → Goes node mode cs
way-goes [] node mode e = tt
way-goes (x ∷ xs) node mode e = by (stands_in_way node mode x) refl (way-goes xs node mode)
  where
    by : (b : Bool) → stands_in_way node mode x ≡ b → (in_way xs node mode ≡ None → Goes node mode xs) → Goes node mode (x ∷ xs)
    by true h rest = absurd (let f : Some x.node ≡ None = rw h at e in cc)
    by false h rest = ((λ ne. goes-if ne), rest (rw h at e))
      where
        goes-if : node ≢ x.node → go_together mode x.mode ≡ true
        goes-if ne = elim (eqb_tells x.node node) [
          | inl same ↦ absurd (ne (sym same.1))
          | inr other ↦ together-turned x.mode mode (turned (go_together x.mode mode) (sym (ap (λ t. not t && not (go_together x.mode mode)) other.0) ∙ h))
        ]
          where
            turned : (g : Bool) → not g ≡ false → g ≡ true
            turned true p = refl
            turned false p = no-way (sym p)

-- the claim of a node that has one
at-node : (P : Claim → Type 0) (cs : List Claim) (node : ℕ) (mode : Mode) → AllByRecursion P cs → mode_of_node cs node ≡ Some mode
    → (d : Claim) × P d × (d.node ≡ node) × (d.mode ≡ mode)
at-node P [] node mode all e = absurd (let f : None ≡ Some mode = e in cc)
at-node P (x ∷ xs) node mode all e = by (eqb_tells x.node node) (at-node P xs node mode all.1)
  where
    inside : {a b : Mode} → Some a ≡ Some b → a ≡ b
    inside p = cc

    by : (((x.node == node) ≡ true) × (x.node ≡ node)) ⊎ (((x.node == node) ≡ false) × (x.node ≢ node)) → (mode_of_node xs node ≡ Some mode → (d : Claim) × P d × (d.node ≡ node) × (d.mode ≡ mode))
        → (d : Claim) × P d × (d.node ≡ node) × (d.mode ≡ mode)
    by (inl same) rest = (x, all.0, same.1, inside (rw same.0 at e))
    by (inr other) rest = rest (rw other.0 at e)

all-map : (P Q : Claim → Type 0) → ((d : Claim) → P d → Q d) → (cs : List Claim) → AllByRecursion P cs → AllByRecursion Q cs
all-map P Q f [] all = tt
all-map P Q f (x ∷ xs) all = (f x all.0, all-map P Q f xs all.1)

-- what a node holds goes with what others hold
held-goes : (cs : List Claim) (node : ℕ) (mode : Mode) → Together cs → mode_of_node cs node ≡ Some mode → Goes node mode cs
held-goes [] node mode all e = tt
held-goes (x ∷ xs) node mode all e = by (eqb_tells x.node node) (held-goes xs node mode all.1)
  where
    inside : {a b : Mode} → Some a ≡ Some b → a ≡ b
    inside p = cc

    by : (((x.node == node) ≡ true) × (x.node ≡ node)) ⊎ (((x.node == node) ≡ false) × (x.node ≢ node)) → (mode_of_node xs node ≡ Some mode → Goes node mode xs) → Goes node mode (x ∷ xs)
    by (inl same) rest =
        let is : x.mode ≡ mode = inside (rw same.0 at e) in (
          (λ ne. absurd (ne (sym same.1))),
          all-map (λ d. x.node ≢ d.node → go_together x.mode d.mode ≡ true) (λ d. node ≢ d.node → go_together mode d.mode ≡ true)
              (λ d p ne. subst (λ (m : Mode). go_together m d.mode ≡ true) is (p (λ q. ne (sym same.1 ∙ q)))) xs all.0,
        )
    by (inr other) rest =
        let there : mode_of_node xs node ≡ Some mode = rw other.0 at e in
        let d = at-node (λ d. x.node ≢ d.node → go_together x.mode d.mode ≡ true) xs node mode all.0 there in
        ((λ ne. together-turned x.mode mode (subst (λ (m : Mode). go_together x.mode m ≡ true) d.3 (d.1 (λ q. other.1 (q ∙ d.2))))), rest there)

-- the mode of a node of a list is that of the first claim, or of the others
first-mode : (x : Claim) (xs : List Claim) → mode_at (x ∷ xs) x.node ≡ x.mode
first-mode x xs = ap (λ b. unwrap_or (option_map (λ (c : Claim). c.mode) (cond b (Some x) (find (is_of x.node) xs))) Nl) (eq-eqb x.node x.node refl)

later-mode : (x : Claim) (xs : List Claim) (node : ℕ) → is_of node x ≡ false → mode_at (x ∷ xs) node ≡ mode_at xs node
later-mode x xs node e = ap (λ b. unwrap_or (option_map (λ (c : Claim). c.mode) (cond b (Some x) (find (is_of node) xs))) Nl) e

each-mode : (cs : List Claim) → OneEach cs → AllByRecursion (λ d. mode_at cs d.node ≡ d.mode) cs
each-mode [] one = tt
each-mode (x ∷ xs) one = (
  first-mode x xs,
  all-both (λ d. is_of x.node d ≡ false) (λ d. mode_at xs d.node ≡ d.mode) (λ d. mode_at (x ∷ xs) d.node ≡ d.mode)
      (λ d away e. later-mode x xs d.node (turned d.node x.node away) ∙ e) xs one.0 (each-mode xs one.1),
)

-- where what each two nodes hold goes together, all does
pub together-of : (cs : List Claim) → OneEach cs → ((i k : ℕ) → i ≢ k → go_together (mode_at cs i) (mode_at cs k) ≡ true) → Together cs
together-of [] one goes = tt
together-of (x ∷ xs) one goes = (
  all-both (λ d. is_of x.node d ≡ false) (λ d. mode_at xs d.node ≡ d.mode) (λ d. x.node ≢ d.node → go_together x.mode d.mode ≡ true)
      (λ d away e ne. ap (λ (m : Mode). go_together m d.mode) (sym (first-mode x xs))
      ∙ (ap (go_together (mode_at (x ∷ xs) x.node)) (sym (later-mode x xs d.node (turned d.node x.node away) ∙ e)) ∙ goes x.node d.node ne)) xs one.0 (each-mode xs one.1),
  together-of xs one.1 (λ i k ne. rest i k ne),
)
  where
    without-first : (i : ℕ) → ((mode_at xs i ≡ Nl) ⊎ (mode_at (x ∷ xs) i ≡ mode_at xs i))
    without-first i = elim (eqb_tells x.node i) [
      | inl same ↦ inl (ap (λ (o : Option Mode). unwrap_or o Nl) (absent-mode xs i (absent-along xs x.node i same.1 one.0)))
      | inr other ↦ inr (later-mode x xs i other.0)
    ]

    rest : (i k : ℕ) → i ≢ k → go_together (mode_at xs i) (mode_at xs k) ≡ true
    rest i k ne = elim (without-first i) [
      | inl none ↦ ap (λ (m : Mode). go_together m (mode_at xs k)) none
      | inr first ↦ elim (without-first k) [
        | inl none ↦ together-turned (mode_at xs k) (mode_at xs i) (ap (λ (m : Mode). go_together m (mode_at xs i)) none)
        | inr second ↦ ap (λ (m : Mode). go_together m (mode_at xs k)) (sym first) ∙ (ap (go_together (mode_at (x ∷ xs) i)) (sym second) ∙ goes i k ne)
      ]
    ]

-- and back
pub together-at : (cs : List Claim) → Together cs → (i k : ℕ) → i ≢ k → go_together (mode_at cs i) (mode_at cs k) ≡ true
together-at cs all i k ne = by (mode_of_node cs i) refl (mode_of_node cs k) refl
  where
    by : (a : Option Mode) → mode_of_node cs i ≡ a → (b : Option Mode) → mode_of_node cs k ≡ b → go_together (mode_at cs i) (mode_at cs k) ≡ true
    by None e b f = ap (λ (o : Option Mode). go_together (unwrap_or o Nl) (mode_at cs k)) e
    by (Some m) e None f = together-turned (mode_at cs k) (mode_at cs i) (ap (λ (o : Option Mode). go_together (unwrap_or o Nl) (mode_at cs i)) f)
    by (Some m) e (Some n) f =
        let d = at-node (λ d. i ≢ d.node → go_together m d.mode ≡ true) cs k n (held-goes cs i m all e) f in
        ap (λ (o : Option Mode). go_together (unwrap_or o Nl) (mode_at cs k)) e
        ∙ (ap (λ (o : Option Mode). go_together m (unwrap_or o Nl)) f
        ∙ (ap (go_together m) (sym d.3) ∙ d.1 (λ q. ne (q ∙ d.2))))

-- ---- why a node needn't wait

or-none : (a b : Option Cause) → or_else a b ≡ None → (a ≡ None) × (b ≡ None)
or-none None b e = (refl, e)
or-none (Some c) b e = absurd (let f : Some c ≡ None = e in cc)

map-none : (o : Option ℕ) → option_map Held o ≡ None → o ≡ None
map-none None e = refl
map-none (Some n) e = absurd (let f : Some (Held n) ≡ None = e in cc)

cause-none : (rebuild : Bool) (waiting : ℕ) (held conversions requests : List Claim) (node : ℕ) (mode : Mode)
    → cause_of rebuild waiting held conversions requests node mode ≡ None → in_way held node mode ≡ None
cause-none true waiting held conversions requests node mode e = absurd (let f : Some Rebuild ≡ None = e in cc)
cause-none false waiting held conversions requests node mode e =
    map-none _ (or-none (option_map Held (in_way held node mode)) _ (or-none (option_map Slot (least_of waiting)) _ e).1).0

pub none-is : (o : Option ℕ) → is_none o ≡ true → o ≡ None
none-is None e = refl
none-is (Some n) e = no-way e

first-true : (a b : Bool) → (a && b) ≡ true → a ≡ true
first-true true b e = refl
first-true false b e = no-way e

-- ---- turns

turn-keeps : (before : List Claim) (t : TurnState) (w : Claim) → Together t.held → Together (turn before t w).held
turn-keeps before t w all = by (is_free before t w) refl
  where
    by : (b : Bool) → is_free before t w ≡ b
        → Together (cond b (let s : TurnState = record { held = now_holding t.held w.node w.mode; staying = t.staying; granted = t.granted ++ w ∷ [] } in s) (let s : TurnState = record { held = t.held; staying = t.staying ++ w ∷ []; granted = t.granted } in s)).held
    by true h = together-now t.held w.node w.mode all (way-goes t.held w.node w.mode (none-is _ (first-true _ _ (first-true _ _ h))))
    by false h = all

turns-keep : (before : List Claim) (t : TurnState) (ws : List Claim) → Together t.held → Together (fold (turn before) t ws).held
turns-keep before t [] all = all
turns-keep before t (w ∷ ws) all = turns-keep before (turn before t w) ws (turn-keeps before t w all)

pub grants-keep : (l : LockState) → Together l.held → Together (after_grants l).held
grants-keep l all =
    turns-keep (conversion_turns l).staying (record { held = (conversion_turns l).held; staying = []; granted = (conversion_turns l).granted }) l.requests
    (turns-keep [] (record { held = l.held; staying = []; granted = [] }) l.conversions all)

-- ---- calls

pub requested-keeps : (cause : Option Cause) (l : LockState) (node : ℕ) (mode : Mode) → (cause ≡ None → in_way l.held node mode ≡ None) → Together l.held → Together (requested cause l node mode).held
requested-keeps None l node mode free all = together-now l.held node mode all (way-goes l.held node mode (free refl))
requested-keeps (Some c) l node mode free all = all

pub converted-keeps : (cause : Option Cause) (l : LockState) (node : ℕ) (mode : Mode) → (cause ≡ None → in_way l.held node mode ≡ None) → Together l.held → Together (converted cause l node mode).held
converted-keeps None l node mode free all = together-now l.held node mode all (way-goes l.held node mode (free refl))
converted-keeps (Some c) l node mode free all = all

lower-goes : (cs : List Claim) (node : ℕ) (had mode : Mode) → is_at_least had mode ≡ true → Goes node had cs → Goes node mode cs
lower-goes cs node had mode covers all =
    all-map (λ d. node ≢ d.node → go_together had d.mode ≡ true) (λ d. node ≢ d.node → go_together mode d.mode ≡ true)
    (λ d p ne. together-turned d.mode mode (together-weaker d.mode had mode (together-turned had d.mode (p ne)) covers)) cs all

pub lowered-keeps : (l : LockState) (node : ℕ) (mode : Mode) (value : Option (List ℕ)) → holds_above (mode_of_node l.held node) mode ≡ true → Together l.held → Together (lowered l node mode value).held
lowered-keeps l node mode value above all = by (mode_of_node l.held node) refl
  where
    by : (o : Option Mode) → mode_of_node l.held node ≡ o → Together (now_holding l.held node mode)
    by None e = no-way (ap (λ (o : Option Mode). holds_above o mode) (sym e) ∙ above)
    by (Some had) e =
        let covers = first-true _ _ (ap (λ (o : Option Mode). holds_above o mode) (sym e) ∙ above) in
        together-now l.held node mode all (lower-goes l.held node had mode covers (held-goes l.held node had all e))

call-keeps : (r : Run) (call : Call) → MayCall r call → Together r.lock.held → Together (after r call).lock.held
call-keeps r (Requests node mode) may all =
    requested-keeps (request_cause r.rebuild r.waiting r.lock node mode) r.lock node mode (cause-none r.rebuild r.waiting r.lock.held r.lock.conversions r.lock.requests node mode) all
call-keeps r (Converts node mode) may all =
    converted-keeps (convert_cause r.rebuild r.waiting r.lock node mode) r.lock node mode (cause-none r.rebuild r.waiting r.lock.held r.lock.conversions [] node mode) all
call-keeps r (Lowers node mode value) may all = lowered-keeps r.lock node mode value may.0 all
call-keeps r Grants may all = by (r.rebuild || not (r.waiting == 0))
  where
    by : (b : Bool) → Together (cond b r (let s : Run = record r { lock = after_grants r.lock } in s)).lock.held
    by true = all
    by false = grants-keep r.lock all
call-keeps r (Blocks rebuild waiting) may all = all

calls-keep : (calls : List Call) (r : Run) → MayCallAll r calls → Together r.lock.held → Together (after_all r calls).lock.held
calls-keep [] r may all = all
calls-keep (call ∷ calls) r may all = calls-keep calls (after r call) may.1 (call-keeps r call may.0 all)

pub grants-keep-together : GrantsKeepTogether
grants-keep-together r calls may all = calls-keep calls r may all
