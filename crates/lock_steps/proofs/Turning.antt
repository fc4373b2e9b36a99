-- The calls of a master or of a rebuild.
use Rattle.std.proofs.Common.{ℕ, ◌≡◌, ◌≤◌, inl, inr, Bool, true, false, Option, None, Some, List, [], ◌∷◌, ◌++◌, cond, refl, sym, ap, ◌∙◌, subst, append_assoc}
use Rattle.std.specs.Prelude.{◌==◌, not, fold, map, is_none, is_some, unwrap_or}
use Rattle.std.specs.List.{filter_map}
use Rattle.std.proofs.lemmas.Bool.{cases_eq, cases_Bool, or_parts}
use Rattle.std.proofs.lemmas.Bool.Decides.{eqb_tells}
use Rattle.std.proofs.lemmas.List.{append-nil}
use Rattle.std.proofs.lemmas.List.Sums.{fold-append}
use Rattle.glock_names.specs.declared.LockName.{LockName}
use Rattle.glock_names.specs.LockMaps.{at_lock}
use Rattle.glock_names.proofs.LockMapLaws.{at_lock-with_other}
use Rattle.dlm_modes.specs.declared.Mode.{Mode}
use Rattle.dlm_modes.specs.declared.ValueBlock.{ValueBlock}
use Rattle.fencing.specs.NodeSets.{has, with_node}
use Rattle.fencing.proofs.NodeSetLaws.{adds-one}
use Rattle.mail_queues.specs.declared.Message.{Message}
use Rattle.mail_queues.specs.declared.Body.TheVariants.{End}
use Rattle.dlm_master.specs.declared.claims.Claim.{Claim}
use Rattle.dlm_master.specs.declared.claims.Cause.{Cause}
use Rattle.dlm_master.specs.Claims.{mode_of_node, now_holding, in_way}
use Rattle.dlm_master.specs.LockState.{LockState, TurnState}
use Rattle.dlm_master.specs.Locks.{free_lock, claim, requested, value_after, is_free, turn, all_turns, after_grants, grants_of, answer_by}
use Rattle.dlm_master.specs.Tables.{MasterState, lock_of, with_state, is_blocked, request_waits, after_turns}
use Rattle.dlm_master.proofs.RunTables.{written, turned-lock}
use Rattle.dlm_rebuild.specs.Rebuilding.{with_end}
use Rattle.lock_laws.specs.Lock.{State, Node, at, Sound, Step, Moves}
use Rattle.lock_laws.specs.Lock as machine
use Rattle.lock_laws.proofs.Keeping.{step_keeps}
use Rattle.lock_steps.specs.Runs.{Steps, Stays, AndThen}
use Rattle.lock_steps.specs.Parts.{Parts, Post, way, with_left}
use Rattle.lock_steps.specs.Ties.{Sight, sight, Fits, IsNobody, Tied, in_view, tells, grants, present}
use Rattle.lock_steps.specs.Ties as ties
use Rattle.lock_steps.specs.Calls.{KnowsSlots, Requested, Lowered, Reported, Ended, GrantsNext, Completes, Blocks, LoweredAlready, TableElsewhere, reply, grant_letter, kept_value}
use Rattle.lock_steps.specs.Laws.{Follows, TableCallsAreSteps}
use Rattle.lock_steps.proofs.Running.{one-step, steps-join}
use Rattle.lock_steps.proofs.Basics.{true-false, up-to}
use Rattle.lock_steps.proofs.Tying.{one-node, no-other}
use Rattle.lock_steps.proofs.Claims.{no-cause, none-is, first-true}
use Rattle.lock_steps.proofs.Sets.{least-none, zero-has, all-ended}
use Rattle.lock_steps.proofs.Tabling.{TiedOf, tied-of, tied-with, first, down-left, up-left, mail-left, is-end, Reaches, hears-ask, hears-down, hears-no-change, hears-report, claim_letter, is-granted}

-- a call that writes the lock and takes one step
wrote : (lock : LockName) (p : Parts) (l : ℕ → Node) (t : LockState) (post : Post) → Tied lock p l → Reaches lock p t post l
    → Follows lock l (record p { table = record p.table { master = with_state p.table.master lock t }; post = post })
wrote lock p l t post tied r = record {
  state = r.state;
  steps = one-step l r.state r.step;
  tied = tied-with lock p (record p.table { master = with_state p.table.master lock t }) post l r.state tied
      (subst (λ (u : LockState). TiedOf lock p u post r.state) (sym (written p.table.master lock t)) r.tied) refl refl refl;
}

-- ---- who may grant

module _ (lock : LockName) (p : Parts) (l : ℕ → Node) (tied : Tied lock p l) (done : p.table.master.rebuild ≡ false) (t : LockState) (post : Post) (l' : ℕ → Node) (now : TiedOf lock p t post l') where
  all-heard : (i : ℕ) → (l' i).roll ≡ true → (l' i).heard ≡ true
  all-heard i e = elim (up-to i) [
    | inl x ↦ let f = now.nodes i x in sym f.heard ∙ tied.done done i x (f.roll ∙ e)
    | inr x ↦ true-false e (now.others i x).roll
  ]

  none-waits : KnowsSlots p → ((i : ℕ) → i ≤ 8 → has p.table.master.waiting i ≡ false) → (i : ℕ) → (l' i).waits ≡ false
  none-waits knows none i = elim (up-to i) [
    | inl x ↦ sym (now.nodes i x).waits ∙ elim (cases_Bool (has p.membership.waiting i)) [
      | inl waits ↦ true-false (knows done i x waits) (none i x)
      | inr runs ↦ runs
    ]
    | inr x ↦ (now.others i x).waits
  ]

-- ---- turns

-- the lock while the waiters take their turns: who still waits, and who has had no turn
abbrev turning : ValueBlock → TurnState → List Claim → LockState
turning value t ws = record { held = t.held; conversions = []; requests = t.staying ++ ws; value = value }

record Turned (lock : LockName) (p : Parts) (value : ValueBlock) (t : TurnState) (l : ℕ → Node) : Type 0 where
  state : ℕ → Node
  steps : Steps l state
  tied : TiedOf lock p (turning value t []) (fold (claim_letter p lock) p.post t.granted) state

module _ (lock : LockName) (p : Parts) (l0 : ℕ → Node) (base : Tied lock p l0) (knows : KnowsSlots p) (done : p.table.master.rebuild ≡ false)
    (none : (i : ℕ) → i ≤ 8 → has p.table.master.waiting i ≡ false) (value : ValueBlock) where
  turns : (ws : List Claim) (t : TurnState) (l : ℕ → Node) → Sound l → TiedOf lock p (turning value t ws) (fold (claim_letter p lock) p.post t.granted) l
      → Turned lock p value (fold (turn []) t ws) l
  turns [] t l sound tied = record { state = l; steps = Stays; tied = tied }
  turns (w ∷ ws) t l sound tied = by (is_free [] t w) refl (turns ws)
    where
      by : (b : Bool) → is_free [] t w ≡ b
          → ((t : TurnState) (l : ℕ → Node) → Sound l → TiedOf lock p (turning value t ws) (fold (claim_letter p lock) p.post t.granted) l → Turned lock p value (fold (turn []) t ws) l)
          → Turned lock p value (fold (turn []) (cond b (let s : TurnState = record { held = now_holding t.held w.node w.mode; staying = t.staying; granted = t.granted ++ w ∷ [] } in s)
          (let s : TurnState = record { held = t.held; staying = t.staying ++ w ∷ []; granted = t.granted } in s)) ws) l
      by true free rest =
          let r = is-granted lock p (turning value t (w ∷ ws)) (fold (claim_letter p lock) p.post t.granted) l t.staying ws w base.master tied sound refl
          (none-is (in_way t.held w.node w.mode) (first-true _ _ (first-true _ _ free)))
          (all-heard lock p l0 base done (turning value t (w ∷ ws)) (fold (claim_letter p lock) p.post t.granted) l tied)
          (none-waits lock p l0 base done (turning value t (w ∷ ws)) (fold (claim_letter p lock) p.post t.granted) l tied knows none) in
          let next : TurnState = record { held = now_holding t.held w.node w.mode; staying = t.staying; granted = t.granted ++ w ∷ [] } in
          let more = rest next r.state (step_keeps l r.state r.step sound).0
          (subst (λ (q : Post). TiedOf lock p (turning value next ws) q r.state) (sym (fold-append (claim_letter p lock) p.post t.granted (w ∷ []))) r.tied) in
          record { state = more.state; steps = steps-join l r.state more.state (one-step l r.state r.step) more.steps; tied = more.tied }
      by false held rest =
          let next : TurnState = record { held = t.held; staying = t.staying ++ w ∷ []; granted = t.granted } in
          rest next l sound (subst (λ (cs : List Claim). TiedOf lock p (record (turning value t []) { requests = cs }) (fold (claim_letter p lock) p.post t.granted) l)
          (sym (append_assoc t.staying (w ∷ []) ws)) tied)

-- the letters to all who are granted the lock
granted-letters : (lock : LockName) (p : Parts) (ws : List Claim) (post : Post)
    → fold (grant_letter p lock) post (map (λ c. (c.node, c.mode, (present p lock).value)) ws) ≡ fold (claim_letter p lock) post ws
granted-letters lock p [] post = refl
granted-letters lock p (w ∷ ws) post = granted-letters lock p ws (claim_letter p lock post w)

-- ---- where the waiters have taken their turns

turned-rebuild : (m : MasterState) (lock : LockName) → (after_turns m lock).rebuild ≡ m.rebuild
turned-rebuild m lock = by (is_none (at_lock m.table lock))
  where
    by : (b : Bool) → (cond b m (with_state m lock (after_grants (lock_of m lock)))).rebuild ≡ m.rebuild
    by true = refl
    by false = refl

pub not-zero : (n : ℕ) → not (n == 0) ≡ false → n ≡ 0
not-zero n e = elim (eqb_tells n 0) [ inl z ↦ z.1 | inr ne ↦ true-false refl (sym (ap not ne.0) ∙ e) ]

grants-next : (lock : LockName) (p : Parts) (l : ℕ → Node) → Sound l → Tied lock p l → KnowsSlots p → is_blocked p.table.master ≡ false
    → Follows lock l (record p {
      table = record p.table { master = after_turns p.table.master lock };
      post = fold (claim_letter p lock) p.post (all_turns (present p lock)).granted;
    })
grants-next lock p l sound tied knows free =
    let m : MasterState = p.table.master in
    let t : LockState = present p lock in
    let u : LockState = record t { conversions = [] } in
    let same : t ≡ u = λ i. record t { conversions = (tied.table).never_converted i } in
    let start : TurnState = record { held = t.held; staying = []; granted = [] } in
    let parts = or_parts m.rebuild (not (m.waiting == 0)) free in
    let r = turns lock p l tied knows parts.0 (λ i x. ap (λ (n : ℕ). has n i) (not-zero m.waiting parts.1) ∙ zero-has i) t.value t.requests start l sound
    (subst (λ (v : LockState). TiedOf lock p v p.post l) same (tied-of lock p l tied)) in
    let plain : TiedOf lock p (after_grants u) (fold (claim_letter p lock) p.post (all_turns u).granted) r.state =
    subst (λ (cs : List Claim). TiedOf lock p (record (after_grants u) { requests = cs }) (fold (claim_letter p lock) p.post (all_turns u).granted) r.state)
    (append-nil (all_turns u).staying) r.tied in
    let real : TiedOf lock p (after_grants t) (fold (claim_letter p lock) p.post (all_turns t).granted) r.state =
    subst (λ (v : LockState). TiedOf lock p (after_grants v) (fold (claim_letter p lock) p.post (all_turns v).granted) r.state) (sym same) plain in
    record {
      state = r.state;
      steps = r.steps;
      tied = tied-with lock p (record p.table { master = after_turns m lock }) (fold (claim_letter p lock) p.post (all_turns t).granted) l r.state tied
          (subst (λ (v : LockState). TiedOf lock p v (fold (claim_letter p lock) p.post (all_turns t).granted) r.state) (sym (turned-lock m lock)) real)
          refl refl (turned-rebuild m lock);
    }

-- a node whose reports have ended changes nothing at another
ended-other : (lock : LockName) (p : Parts) (k : ℕ) (rest : List Message) (i : ℕ) → (i ≡ k → ⊥)
    → filter_map (in_view p.membership.generation (tells lock)) (way (with_left p.post k p.master rest) i p.master) ≡ (sight lock p i).up
    → filter_map (in_view p.membership.generation (grants lock)) (way (with_left p.post k p.master rest) p.master i) ≡ (sight lock p i).down
    → sight lock p i ≡ sight lock (record p { table = with_end p.table k; post = with_left p.post k p.master rest }) i
ended-other lock p k rest i ne up down j = record (sight lock p i) { heard = sym ((adds-one p.table.ended k i).1 ne) j; up = sym up j; down = sym down j }

-- ---- the calls

pub table-steps : TableCallsAreSteps
table-steps lock p _ l (Requested k mode rest x hand new idle knows) sound tied = by (request_waits p.table.master k lock mode) refl
  where
    none : mode_of_node (present p lock).requests k ≡ None
    none = is-nothing (mode_of_node (present p lock).requests k) (or_parts (is_some (mode_of_node (present p lock).conversions k)) (is_some (mode_of_node (present p lock).requests k)) idle).1
      where
        is-nothing : (o : Option Mode) → is_some o ≡ false → o ≡ None
        is-nothing None e = refl
        is-nothing (Some m) e = true-false refl e

    by : (c : Option Cause) → request_waits p.table.master k lock mode ≡ c
        → Follows lock l (record p {
          table = record p.table { master = with_state p.table.master lock (requested c (present p lock) k mode) };
          post = reply p lock k mode (answer_by c (present p lock)) (with_left p.post k p.master rest);
        })
    by (Some cause) e = wrote lock p l (requested (Some cause) (present p lock) k mode) (with_left p.post k p.master rest) tied
        (hears-ask lock p (present p lock) p.post l k mode rest (tied-of lock p l tied) sound x hand none)
    by None e =
        let free = no-cause p.table.master.rebuild p.table.master.waiting (present p lock).held (present p lock).conversions (present p lock).requests k mode e in
        let a = hears-ask lock p (present p lock) p.post l k mode rest (tied-of lock p l tied) sound x hand none in
        let t : LockState = record (present p lock) { requests = (present p lock).requests ++ claim k mode ∷ [] } in
        let g = is-granted lock p t (with_left p.post k p.master rest) a.state (present p lock).requests [] (claim k mode) tied.master a.tied (step_keeps l a.state a.step sound).0 refl free.2
        (all-heard lock p l tied free.0 t (with_left p.post k p.master rest) a.state a.tied)
        (none-waits lock p l tied free.0 t (with_left p.post k p.master rest) a.state a.tied knows (least-none p.table.master.waiting free.1)) in
        let u : LockState = record (present p lock) { held = now_holding (present p lock).held k mode } in
        record {
          state = g.state;
          steps = AndThen a.state g.state (one-step l a.state a.step) g.step;
          tied = tied-with lock p (record p.table { master = with_state p.table.master lock u }) (claim_letter p lock (with_left p.post k p.master rest) (claim k mode)) l g.state tied
              (subst (λ (v : LockState). TiedOf lock p v (claim_letter p lock (with_left p.post k p.master rest) (claim k mode)) g.state) (sym (written p.table.master lock u))
              (subst (λ (cs : List Claim). TiedOf lock p (record (present p lock) { held = now_holding (present p lock).held k mode; requests = cs })
              (claim_letter p lock (with_left p.post k p.master rest) (claim k mode)) g.state) (append-nil (present p lock).requests) g.tied))
              refl refl refl;
        }
table-steps lock p _ l (Lowered k mode said rest x hand above idle) sound tied =
    wrote lock p l (record (present p lock) { held = now_holding (present p lock).held k mode; value = value_after (mode_of_node (present p lock).held k) (kept_value p said) (present p lock).value })
    (with_left p.post k p.master rest) tied
    (hears-down lock p (present p lock) (value_after (mode_of_node (present p lock).held k) (kept_value p said) (present p lock).value) p.post l k mode said rest (tied-of lock p l tied) sound x hand)
table-steps lock p _ l (LoweredAlready k mode said rest x hand already) sound tied =
    let r = hears-no-change lock p (present p lock) p.post l k mode said rest (tied-of lock p l tied) sound x hand already in
    record {
      state = r.state;
      steps = one-step l r.state r.step;
      tied = tied-with lock p p.table (with_left p.post k p.master rest) l r.state tied r.tied refl refl refl;
    }
table-steps lock p _ l (Reported k mode value rest x hand under idle) sound tied =
    wrote lock p l (record (present p lock) { held = now_holding (present p lock).held k mode }) (with_left p.post k p.master rest) tied
    (hears-report lock p (present p lock) p.post l k mode value rest (tied-of lock p l tied) sound x hand)
table-steps lock p _ l (Ended k rest x hand) sound tied =
    let same = tied-of lock p l tied in
    let c = first lock p (present p lock) p.post l k End ties.Ends rest same sound x hand refl refl in
    let f = tied.nodes k x in
    let n : Node = record (l k) { heard = true; up = c.1 } in
    let q : Parts = record p { table = with_end p.table k; post = with_left p.post k p.master rest } in
    let down : (i : ℕ) → filter_map (in_view p.membership.generation (grants lock)) (way (with_left p.post k p.master rest) p.master i) ≡ (sight lock p i).down =
    down-left lock p (present p lock) p.post l k End ties.Ends rest same sound x hand refl refl in
    record {
      state = at l k n;
      steps = one-step l (at l k n) (Moves k n (machine.HearsEnd c.1 (c.2 ∙ ap (λ (m : machine.Message). m ∷ c.1) (is-end c.0 c.3))));
      tied = record {
        nodes = one-node lock p q l k n x tied (record {
          member = f.member;
          fresh = f.fresh;
          waits = f.waits;
          roll = f.roll;
          taken = f.taken;
          mode = f.mode;
          left = f.left;
          asked = f.asked;
          table = f.table;
          heard = (adds-one p.table.ended k k).0;
          wants = f.wants;
          up = c.4;
          down = down k ∙ f.down;
        })
            (λ i y ne. ended-other lock p k rest i ne (up-left lock p (present p lock) p.post l k End ties.Ends rest same sound x hand refl refl i ne) (down i));
        others = no-other lock p q l k n x tied;
        master = tied.master;
        table = tied.table;
        done = λ e i y m. elim (cases_eq i k) [
          | inl is ↦ subst (λ (j : ℕ). has (with_node p.table.ended k) j ≡ true) (sym is) (adds-one p.table.ended k k).0
          | inr ne ↦ (adds-one p.table.ended k i).1 ne ∙ tied.done e i y m
        ];
        unheard = tied.unheard;
        mail = mail-left lock p (present p lock) p.post l k End ties.Ends rest same sound x hand refl refl;
      };
    }
table-steps lock p _ l (GrantsNext knows) sound tied = by (is_blocked p.table.master) refl
  where
    by : (b : Bool) → is_blocked p.table.master ≡ b
        → Follows lock l (record p {
          table = record p.table { master = cond b p.table.master (after_turns p.table.master lock) };
          post = fold (grant_letter p lock) p.post (cond b [] (grants_of (present p lock)));
        })
    by true e = record { state = l; steps = Stays; tied = tied }
    by false e = subst (λ (post : Post). Follows lock l (record p { table = record p.table { master = after_turns p.table.master lock }; post = post }))
        (sym (granted-letters lock p (all_turns (present p lock)).granted p.post)) (grants-next lock p l sound tied knows e)
table-steps lock p _ l (Completes ended) sound tied = record {
  state = l;
  steps = Stays;
  tied = record {
    nodes = tied.nodes;
    others = tied.others;
    master = tied.master;
    table = tied.table;
    done = λ e. all-ended p.table.members p.table.ended ended;
    unheard = tied.unheard;
    mail = tied.mail;
  };
}
table-steps lock p _ l (Blocks waiting) sound tied = record {
  state = l;
  steps = Stays;
  tied = record {
    nodes = tied.nodes;
    others = tied.others;
    master = tied.master;
    table = tied.table;
    done = tied.done;
    unheard = tied.unheard;
    mail = tied.mail;
  };
}
table-steps lock p _ l (TableElsewhere other t ne) sound tied =
    let same : lock_of (with_state p.table.master other t) lock ≡ present p lock = ap (λ (o : Option LockState). unwrap_or o free_lock) (at_lock-with_other p.table.master.table other lock t ne) in
    record {
      state = l;
      steps = Stays;
      tied = tied-with lock p (record p.table { master = with_state p.table.master other t }) p.post l l tied
          (subst (λ (u : LockState). TiedOf lock p u p.post l) (sym same) (tied-of lock p l tied)) refl refl refl;
    }
