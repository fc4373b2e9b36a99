-- Members and views.
use Rattle.std.proofs.Common.{ℕ, ◌≡◌, ◌≤◌, ◌<◌, ◌+◌, inl, inr, Bool, true, false, Option, None, is_some, List, [], ◌∷◌, ◌++◌, map, cond, refl, sym, ap, ◌∙◌, subst, arith}
use Rattle.std.specs.Prelude.{◌==◌}
use Rattle.std.specs.List.{AllByRecursion, filter_map}
use Rattle.std.proofs.lemmas.Bool.{cases_eq, cases_Bool, cond-true, cond-false}
use Rattle.glock_names.specs.declared.LockName.{LockName}
use Rattle.glock_names.specs.States.{mode_for}
use Rattle.dlm_modes.specs.declared.Mode.{Mode}
use Rattle.dlm_modes.specs.declared.Mode.TheVariants.{Nl}
use Rattle.dlm_modes.specs.Modes.{is_at_least}
use Rattle.fencing.specs.NodeSets.{has, with_node, without_node}
use Rattle.fencing.specs.Members.{stopped, recovered_too, admitted}
use Rattle.fencing.proofs.NodeSetLaws.{adds-one, takes-one}
use Rattle.mail_queues.specs.declared.Message.{Message}
use Rattle.mail_queues.specs.declared.Body.{Body}
use Rattle.dlm_holder.specs.Holdings.{Holdings, holding_of, mode_in, wanted_in}
use Rattle.dlm_holder.specs.declared.Holding.{Holding}
use Rattle.lock_laws.specs.Lock.{State, Un, Node, eff, at, anew, Sound, Step, Moves, Move}
use Rattle.lock_laws.specs.Lock as machine
use Rattle.lock_steps.specs.Runs.{Steps, Stays, AndThen}
use Rattle.lock_steps.specs.Parts.{Parts, way, with_letters}
use Rattle.lock_steps.specs.Ties.{Tell, tell_of, Sight, sight, Fits, IsNobody, Tied, in_view, tells, grants}
use Rattle.lock_steps.specs.Ties as ties
use Rattle.lock_steps.specs.Calls.{left_of, Stops, Fences, IsRecovered, Joins, Changes, TakesView, AskOver, Dropped, NoAsk, SaysAll, TellsHeld, TellsNone}
use Rattle.lock_steps.specs.Laws.{Follows, MemberCallsAreSteps, MemberCallsMoveAllLocks}
use Rattle.lock_steps.proofs.Running.{one-step}
use Rattle.lock_steps.proofs.Basics.{true-false, eqb-other, at-here, at-away}
use Rattle.lock_steps.proofs.Ways.{letters-say, letters-mute, letters-away, letters-all}
use Rattle.lock_steps.proofs.Sets.{zero-has}
use Rattle.lock_steps.proofs.Tying.{holding-is, eff-runs, eff-waits, fits-at-most, same-sight, one-node, no-other}

small : (k : ℕ) → k ≤ 8 → k < 16
small k x = omega arith

-- ---- sets

without-here : (set k : ℕ) → k ≤ 8 → has (without_node set k) k ≡ false
without-here set k x = (takes-one set k k (small k x) (small k x)).0

without-away : (set k i : ℕ) → k ≤ 8 → i ≤ 8 → (i ≡ k → ⊥) → has (without_node set k) i ≡ has set i
without-away set k i x y ne = (takes-one set k i (small k x) (small i y)).1 ne

pub with-node-here : (set k : ℕ) → has (with_node set k) k ≡ true
with-node-here set k = (adds-one set k k).0

pub with-node-away : (set k i : ℕ) → (i ≡ k → ⊥) → has (with_node set k) i ≡ has set i
with-node-away set k i ne = (adds-one set k i).1 ne

-- ---- a new view

-- nothing that is under way is of it
pub none-newer : {A : Type 0} (says : Body → Option A) (g h : ℕ) → g < h → (ms : List Message) → AllByRecursion (λ m. m.generation ≤ g) ms → filter_map (in_view h says) ms ≡ []
none-newer says g h later [] old = refl
none-newer says g h later (m ∷ ms) old =
    let ne : (m.generation == h) ≡ false = eqb-other m.generation h (λ e. absurd (let x : m.generation ≤ g = old.0 in omega (arith, e, later))) in
    rw ne (none-newer says g h later ms old.1)

pub none-new : {A : Type 0} (says : Body → Option A) (g : ℕ) (ms : List Message) → AllByRecursion (λ m. m.generation ≤ g) ms → filter_map (in_view (g + 1) says) ms ≡ []
none-new says g ms old = none-newer says g (g + 1) (omega arith) ms old

pub all-older : (g h : ℕ) → g ≤ h → (ms : List Message) → AllByRecursion (λ m. m.generation ≤ g) ms → AllByRecursion (λ m. m.generation ≤ h) ms
all-older g h later [] old = tt
all-older g h later (m ∷ ms) old = ((let x : m.generation ≤ g = old.0 in omega (arith, later)), all-older g h later ms old.1)

-- ---- a node changed twice is one changed once

twice : (l : ℕ → Node) (k : ℕ) (n m : Node) → at (at l k n) k m ≡ at l k m
twice l k n m t j = by (j == k) t
  where
    by : (b : Bool) → cond b m (cond b n (l j)) ≡ cond b m (l j)
    by true = refl
    by false = refl

-- ---- a view is taken

kept : (lock : LockName) (g h : Holdings) → AskOver lock g h → mode_in h lock ≡ mode_in g lock
kept lock g _ Dropped = ap (λ (y : Holding). y.mode) (holding-is g lock (record (holding_of g lock) { wanted = None }))
kept lock g _ (NoAsk none) = refl

no-ask : (lock : LockName) (g h : Holdings) → AskOver lock g h → is_some (wanted_in h lock) ≡ false
no-ask lock g _ Dropped = ap (λ (y : Holding). is_some y.wanted) (holding-is g lock (record (holding_of g lock) { wanted = None }))
no-ask lock g _ (NoAsk none) = ap is_some none

module _ (lock : LockName) (p : Parts) (l : ℕ → Node) (k : ℕ) (h : Holdings) (letters : List Message) (over : AskOver lock (p.holders k) h) (x : k ≤ 8) (untaken : p.taken k ≡ false)
    (old : AllByRecursion (λ m. m.generation ≤ p.membership.generation) letters) (mute : filter_map (in_view p.membership.generation (grants lock)) letters ≡ [])
    (sound : Sound l) (tied : Tied lock p l) where
  abbrev viewed : Parts
  viewed = record p {
    holders = at p.holders k h;
    post = with_letters p.post k p.master letters;
    taken = at p.taken k true;
  }

  mode-kept : mode_in (at p.holders k h k) lock ≡ mode_in (p.holders k) lock
  mode-kept = ap (λ (y : Holdings). mode_in y lock) (at-here p.holders k h) ∙ kept lock (p.holders k) h over

  ask-over : is_some (wanted_in (at p.holders k h k) lock) ≡ false
  ask-over = ap (λ (y : Holdings). is_some (wanted_in y lock)) (at-here p.holders k h) ∙ no-ask lock (p.holders k) h over

  nothing-before : (sight lock p k).up ≡ []
  nothing-before = (tied.nodes k x).up ∙ ap (map tell_of) ((sound.fine k).bare (sym (tied.nodes k x).taken ∙ untaken)).0

  says-only : (tells' : List Tell) → filter_map (in_view p.membership.generation (tells lock)) letters ≡ tells' → (sight lock viewed k).up ≡ tells'
  says-only tells' said = letters-say (in_view p.membership.generation (tells lock)) p.post k p.master letters
      ∙ (ap (λ (t : List Tell). t ++ filter_map (in_view p.membership.generation (tells lock)) letters) nothing-before ∙ said)

  takes : (n : Node) → Fits (sight lock viewed k) n → Tied lock viewed (at l k n)
  takes n fits = record {
    nodes = one-node lock p viewed l k n x tied fits
        (λ i y ne. same-sight lock p (at p.holders k h) (with_letters p.post k p.master letters) (at p.taken k true) i
        (at-away p.holders k h i ne) (at-away p.taken k true i ne)
        (ap (filter_map (in_view p.membership.generation (tells lock))) (letters-away p.post k p.master letters i p.master (λ e f. ne e)))
        (letters-mute (in_view p.membership.generation (grants lock)) p.post k p.master letters p.master i mute));
    others = no-other lock p viewed l k n x tied;
    master = tied.master;
    table = tied.table;
    done = tied.done;
    unheard = λ i y e. elim (cases_eq i k) [
      | inl is ↦ true-false (ap (at p.taken k true) is ∙ at-here p.taken k true) e
      | inr ne ↦ tied.unheard i y (sym (at-away p.taken k true i ne) ∙ e)
    ];
    mail = λ i j y z. letters-all (λ m. m.generation ≤ p.membership.generation) p.post k p.master letters i j old (tied.mail i j y z);
  }

-- ---- what is left of a stopped node

left-member : (p : Parts) (k : ℕ) → has p.membership.members k ≡ true → left_of p k ≡ p.holders k
left-member p k e = cond-true _ _ _ e

left-other : (p : Parts) (k : ℕ) → has p.membership.members k ≡ false → left_of p k ≡ []
left-other p k e = cond-false _ _ _ e

-- ---- the calls

pub member-steps : MemberCallsAreSteps
member-steps lock p _ l (Stops k x) sound tied =
    let f = tied.nodes k x in
    let n : Node = record (l k) { member = false; waits = true } in
    let q : Parts = record p { membership = stopped p.membership k } in
    record {
      state = at l k n;
      steps = one-step l (at l k n) (Moves k n machine.Stops);
      tied = record {
        nodes = one-node lock p q l k n x tied (record {
          member = without-here p.membership.members k x;
          fresh = f.fresh;
          waits = with-node-here p.membership.waiting k;
          roll = f.roll;
          taken = f.taken;
          mode = λ m. true-false m (without-here p.membership.members k x);
          left = λ m. fits-at-most f;
          asked = λ m. true-false m (without-here p.membership.members k x);
          table = f.table;
          heard = f.heard;
          wants = f.wants;
          up = f.up;
          down = f.down;
        })
            (λ i y ne t. record (sight lock p i) {
              member = sym (without-away p.membership.members k i x y ne) t;
              waits = sym (with-node-away p.membership.waiting k i ne) t;
            });
        others = no-other lock p q l k n x tied;
        master = tied.master;
        table = tied.table;
        done = tied.done;
        unheard = tied.unheard;
        mail = tied.mail;
      };
    }
member-steps lock p _ l (Fences k) sound tied = record {
  state = l;
  steps = Stays;
  tied = record {
    nodes = tied.nodes;
    others = tied.others;
    master = tied.master;
    table = tied.table;
    done = tied.done;
    unheard = tied.unheard;
    mail = tied.mail;
  };
}
member-steps lock p _ l (IsRecovered k x waits) sound tied =
    let f = tied.nodes k x in
    let n : Node = record (l k) { waits = false; state = Un } in
    let q : Parts = record p { membership = recovered_too p.membership k; holders = at p.holders k (left_of p k) } in
    let now : at p.holders k (left_of p k) k ≡ left_of p k = at-here p.holders k (left_of p k) in
    let w : (l k).waits ≡ true = sym f.waits ∙ waits in
    record {
      state = at l k n;
      steps = one-step l (at l k n) (Moves k n (machine.IsRecovered w));
      tied = record {
        nodes = one-node lock p q l k n x tied (record {
          member = f.member;
          fresh = f.fresh;
          waits = without-here p.membership.waiting k x;
          roll = f.roll;
          taken = f.taken;
          mode = λ m. ap (λ (h : Holdings). mode_in h lock) (now ∙ left-member p k m) ∙ (f.mode m ∙ ap mode_for (eff-waits (l k) w));
          left = λ m. ap (λ (h : Holdings). is_at_least Nl (mode_in h lock)) (now ∙ left-other p k m);
          asked = λ m. ap (λ (h : Holdings). is_some (wanted_in h lock)) (now ∙ left-member p k m) ∙ f.asked m;
          table = f.table;
          heard = f.heard;
          wants = f.wants;
          up = f.up;
          down = f.down;
        })
            (λ i y ne t. record (sight lock p i) {
              waits = sym (without-away p.membership.waiting k i x y ne) t;
              mode = mode_in (sym (at-away p.holders k (left_of p k) i ne) t) lock;
              asked = is_some (wanted_in (sym (at-away p.holders k (left_of p k) i ne) t) lock);
            });
        others = no-other lock p q l k n x tied;
        master = tied.master;
        table = tied.table;
        done = tied.done;
        unheard = tied.unheard;
        mail = tied.mail;
      };
    }
member-steps lock p _ l (Joins k x out) sound tied =
    let f = tied.nodes k x in
    let n : Node = record (l k) { member = true; fresh = true; asked = false } in
    let q : Parts = record p { membership = admitted p.membership k; holders = at p.holders k []; fresh = at p.fresh k true } in
    let gone : (l k).member ≡ false = sym f.member ∙ out in
    let un : eff (l k) ≡ Un = elim ((sound.fine k).stopped gone) [
      | inl w ↦ eff-waits (l k) w
      | inr e ↦ elim (cases_Bool ((l k).waits)) [ inl w ↦ eff-waits (l k) w | inr runs ↦ eff-runs (l k) runs ∙ e ]
    ] in
    record {
      state = at l k n;
      steps = one-step l (at l k n) (Moves k n (machine.Joins gone));
      tied = record {
        nodes = one-node lock p q l k n x tied (record {
          member = with-node-here p.membership.members k;
          fresh = at-here p.fresh k true;
          waits = f.waits;
          roll = f.roll;
          taken = f.taken;
          mode = λ m. ap (λ (h : Holdings). mode_in h lock) (at-here p.holders k []) ∙ sym (ap mode_for un);
          left = λ m. true-false (with-node-here p.membership.members k) m;
          asked = λ m. ap (λ (h : Holdings). is_some (wanted_in h lock)) (at-here p.holders k []);
          table = f.table;
          heard = f.heard;
          wants = f.wants;
          up = f.up;
          down = f.down;
        })
            (λ i y ne t. record (sight lock p i) {
              member = sym (with-node-away p.membership.members k i ne) t;
              fresh = sym (at-away p.fresh k true i ne) t;
              mode = mode_in (sym (at-away p.holders k [] i ne) t) lock;
              asked = is_some (wanted_in (sym (at-away p.holders k [] i ne) t) lock);
            });
        others = no-other lock p q l k n x tied;
        master = tied.master;
        table = tied.table;
        done = tied.done;
        unheard = tied.unheard;
        mail = tied.mail;
      };
    }
member-steps lock p _ l (Changes master x is) sound tied = record {
  state = λ i. anew (l i);
  steps = one-step l (λ i. anew (l i)) machine.Changes;
  tied = record {
    nodes = λ i y. (let f = tied.nodes i y in record {
      member = f.member;
      fresh = refl;
      waits = f.waits;
      roll = f.member;
      taken = refl;
      mode = f.mode;
      left = f.left;
      asked = f.asked;
      table = refl;
      heard = zero-has i;
      wants = refl;
      up = none-new (tells lock) p.membership.generation (way p.post i master) (tied.mail i master y x);
      down = none-new (grants lock) p.membership.generation (way p.post master i) (tied.mail master i x y);
    });
    others = λ i y. (let o = tied.others i y in record { member = o.member; waits = o.waits; roll = o.member; table = refl });
    master = x;
    table = record { never_converted = refl; held_once = tt; never_null = tt; asked_once = tt; nodes = tt };
    done = λ e. true-false refl e;
    unheard = λ i y e. refl;
    mail = λ i k y z. all-older p.membership.generation (p.membership.generation + 1) (omega arith) (way p.post i k) (tied.mail i k y z);
  };
}
member-steps lock p _ l (TakesView k h letters over x member roll untaken old says mute) sound tied = by says
  where
    takes-view : Step l (at l k (record (l k) { taken = true; asked = false; up = machine.Report (eff (l k)) ∷ machine.End ∷ [] }))
    takes-view = (let f = tied.nodes k x in
        Moves k (record (l k) { taken = true; asked = false; up = machine.Report (eff (l k)) ∷ machine.End ∷ [] })
        (machine.TakesView (sym f.member ∙ member) (sym f.roll ∙ roll) (sym f.taken ∙ untaken)))

    by : SaysAll lock p k letters → Follows lock l (record p {
      holders = at p.holders k h;
      post = with_letters p.post k p.master letters;
      taken = at p.taken k true;
    })
    by (TellsHeld said) =
        let f = tied.nodes k x in
        let n : Node = record (l k) { taken = true; asked = false; up = machine.Report (eff (l k)) ∷ machine.End ∷ [] } in
        record {
          state = at l k n;
          steps = one-step l (at l k n) takes-view;
          tied = takes lock p l k h letters over x untaken old mute sound tied n (record {
            member = f.member;
            fresh = f.fresh;
            waits = f.waits;
            roll = f.roll;
            taken = at-here p.taken k true;
            mode = λ m. mode-kept lock p l k h letters over x untaken old mute sound tied ∙ f.mode m;
            left = λ m. true-false member m;
            asked = λ m. ask-over lock p l k h letters over x untaken old mute sound tied;
            table = f.table;
            heard = f.heard;
            wants = f.wants;
            up = says-only lock p l k h letters over x untaken old mute sound tied _ said ∙ ap (λ (m : Mode). ties.Reports m ∷ ties.Ends ∷ []) (f.mode member);
            down = letters-mute (in_view p.membership.generation (grants lock)) p.post k p.master letters p.master k mute ∙ f.down;
          });
        }
    by (TellsNone nl said) =
        let f = tied.nodes k x in
        let n : Node = record (l k) { taken = true; asked = false; up = machine.Report (eff (l k)) ∷ machine.End ∷ [] } in
        let m : Node = record n { table = eff (l k); up = machine.End ∷ [] } in
        let hears : Move (at l k n k) m = subst (λ (y : Node). Move y m) (sym (at-here l k n)) (machine.HearsReport (eff (l k)) (machine.End ∷ []) refl) in
        let both : Steps l (at (at l k n) k m) = AndThen (at l k n) (at (at l k n) k m) (one-step l (at l k n) takes-view) (Moves k m hears) in
        record {
          state = at l k m;
          steps = subst (Steps l) (twice l k n m) both;
          tied = takes lock p l k h letters over x untaken old mute sound tied m (record {
            member = f.member;
            fresh = f.fresh;
            waits = f.waits;
            roll = f.roll;
            taken = at-here p.taken k true;
            mode = λ e. mode-kept lock p l k h letters over x untaken old mute sound tied ∙ f.mode e;
            left = λ m. true-false member m;
            asked = λ e. ask-over lock p l k h letters over x untaken old mute sound tied;
            table = tied.unheard k x untaken ∙ (sym nl ∙ f.mode member);
            heard = f.heard;
            wants = f.wants;
            up = says-only lock p l k h letters over x untaken old mute sound tied _ said;
            down = letters-mute (in_view p.membership.generation (grants lock)) p.post k p.master letters p.master k mute ∙ f.down;
          });
        }

-- the step that each lock makes
pub move-all : MemberCallsMoveAllLocks
unfolding member-steps
move-all lock p l sound tied = record {
  stops = λ k x. (member-steps lock p _ l (Stops k x) sound tied).tied;
  recovered = λ k x waits. (member-steps lock p _ l (IsRecovered k x waits) sound tied).tied;
  joins = λ k x out. (member-steps lock p _ l (Joins k x out) sound tied).tied;
  view = λ master x is. (member-steps lock p _ l (Changes master x is) sound tied).tied;
}
