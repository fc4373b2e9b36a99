-- The calls of a node's holder.
use Rattle.std.proofs.Common.{ℕ, ◌≡◌, ◌≤◌, ◌⊎◌, inl, inr, true, false, Option, None, Some, is_some, List, [], ◌∷◌, ◌++◌, map, refl, sym, ap, ◌∙◌, subst, arith}
use Rattle.std.specs.Prelude.{option_map, option_to_list}
use Rattle.std.specs.List.{AllByRecursion, filter_map}
use Rattle.std.proofs.lemmas.Bool.{cases_eq, cond-true}
use Rattle.std.proofs.lemmas.List.{map-append}
use Rattle.glock_names.specs.declared.LockName.{LockName}
use Rattle.glock_names.specs.LockMaps.{with_lock}
use Rattle.glock_names.specs.States.{mode_for}
use Rattle.dlm_modes.specs.declared.Mode.{Mode}
use Rattle.dlm_modes.specs.declared.ValueBlock.{ValueBlock}
use Rattle.dlm_modes.specs.Modes.{is_at_least}
use Rattle.mail_queues.specs.declared.Message.{Message}
use Rattle.mail_queues.specs.declared.Body.{Body}
use Rattle.mail_queues.specs.declared.Body.TheVariants.{Request, Down, Grant, Report}
use Rattle.dlm_holder.specs.Holdings.{Holdings, holding_of, mode_in, wanted_in, asked_for, granted_to, lowered_to}
use Rattle.dlm_holder.specs.declared.Holding.{Holding}
use Rattle.lock_laws.specs.Lock.{State, Un, Node, eff, at, leq, Sound, Moves}
use Rattle.lock_laws.specs.Lock as machine
use Rattle.lock_steps.specs.Runs.{Stays}
use Rattle.lock_steps.specs.Parts.{Parts, Post, way, now_says, with_letters, with_left}
use Rattle.lock_steps.specs.Ties.{Tell, tell_of, Sight, sight, Fits, Tied, in_view, tells, grants}
use Rattle.lock_steps.specs.Ties as ties
use Rattle.lock_steps.specs.Calls.{Acts, AsksFromNothing, HolderCall}
use Rattle.lock_steps.specs.Calls as calls
use Rattle.lock_steps.specs.Laws.{Follows, HolderCallsAreSteps}
use Rattle.lock_steps.proofs.Modes.{cover-as-modes, modes-of-their-own}
use Rattle.lock_steps.proofs.Running.{one-step}
use Rattle.lock_steps.proofs.Basics.{true-false, same-self, at-here, at-away}
use Rattle.lock_steps.proofs.Ways.{letters-say, letters-mute, letters-away, letters-all, letters-quiet-to, letters-quiet-from, left-quiet-to, left-says, left-mute, left-away, left-all}
use Rattle.lock_steps.proofs.Tying.{now-says, says-one, says-none, holding-is, holding-away, eff-runs, same-sight, one-node, no-other, no-step}

-- ---- what the messages say

pub says-request : (lock : LockName) (m : Mode) → tells lock (Request lock m) ≡ Some (ties.Asks m)
says-request lock m = cond-true _ _ _ (same-self lock)

pub says-down : (lock : LockName) (m : Mode) (v : Option (List ℕ)) → tells lock (Down lock m v) ≡ Some (ties.Lowers m)
says-down lock m v = cond-true _ _ _ (same-self lock)

pub says-report : (lock : LockName) (m : Mode) (v : ValueBlock) → tells lock (Report lock m v) ≡ Some (ties.Reports m)
says-report lock m v = cond-true _ _ _ (same-self lock)

says-grant : (lock : LockName) (m : Mode) (v : ValueBlock) → grants lock (Grant lock m v) ≡ Some m
says-grant lock m v = cond-true _ _ _ (same-self lock)

-- what a node holds that acts
held-state : (lock : LockName) (p : Parts) (l : ℕ → Node) (k : ℕ) → Acts p k → Tied lock p l → mode_in (p.holders k) lock ≡ mode_for ((l k).state)
held-state lock p l k acts tied =
    let f = tied.nodes k acts.node in f.mode acts.member ∙ ap mode_for (eff-runs (l k) (sym f.waits ∙ acts.runs))

-- ---- one message more for the master, whatever the holder has

module _ (lock : LockName) (p : Parts) (l : ℕ → Node) (k : ℕ) (h : Holdings) (b : Body) (tell : Tell) (m : machine.Message) (n : Node)
    (acts : Acts p k) (tied : Tied lock p l) (said : tells lock b ≡ Some tell) (is : tell ≡ tell_of m) (mute : grants lock b ≡ None) where
  letters : Post
  letters = with_letters p.post k p.master (now_says p b ∷ [])

  view : ℕ
  view = p.membership.generation

  no-grant : filter_map (in_view p.membership.generation (grants lock)) (now_says p b ∷ []) ≡ []
  no-grant = says-none (in_view p.membership.generation (grants lock)) (now_says p b) (now-says (grants lock) p.membership.generation b ∙ mute)

  up-more : (up : List machine.Message) → (sight lock p k).up ≡ map tell_of up
      → filter_map (in_view p.membership.generation (tells lock)) (way (with_letters p.post k p.master (now_says p b ∷ [])) k p.master) ≡ map tell_of (up ++ m ∷ [])
  up-more up e =
      letters-say (in_view p.membership.generation (tells lock)) p.post k p.master (now_says p b ∷ [])
      ∙ (ap (λ (t : List Tell). (sight lock p k).up ++ t) (says-one (in_view p.membership.generation (tells lock)) (now_says p b) tell (now-says (tells lock) p.membership.generation b ∙ said))
      ∙ (ap (λ (t : List Tell). t ++ tell ∷ []) e
      ∙ (ap (λ (t : Tell). map tell_of up ++ t ∷ []) is
      ∙ sym (map-append tell_of up (m ∷ [])))))

  sent : Fits (sight lock (record p { holders = at p.holders k h; post = with_letters p.post k p.master (now_says p b ∷ []) }) k) n
      → Tied lock (record p { holders = at p.holders k h; post = with_letters p.post k p.master (now_says p b ∷ []) }) (at l k n)
  sent fits = record {
    nodes = one-node lock p (record p { holders = at p.holders k h; post = with_letters p.post k p.master (now_says p b ∷ []) }) l k n acts.node tied fits
        (λ i x ne. same-sight lock p (at p.holders k h) (with_letters p.post k p.master (now_says p b ∷ [])) p.taken i (at-away p.holders k h i ne) refl
        (ap (filter_map (in_view p.membership.generation (tells lock))) (letters-away p.post k p.master (now_says p b ∷ []) i p.master (λ e f. ne e)))
        (letters-mute (in_view p.membership.generation (grants lock)) p.post k p.master (now_says p b ∷ []) p.master i no-grant));
    others = no-other lock p (record p { holders = at p.holders k h; post = with_letters p.post k p.master (now_says p b ∷ []) }) l k n acts.node tied;
    master = tied.master;
    table = tied.table;
    done = tied.done;
    unheard = tied.unheard;
    mail = λ i j x y. letters-all (λ m. m.generation ≤ p.membership.generation) p.post k p.master (now_says p b ∷ []) i j (omega arith, tt) (tied.mail i j x y);
  }

-- ---- a grant that comes

pub under-way : (o : Option State) (m : Mode) (rest : List Mode) → m ∷ rest ≡ option_to_list (option_map mode_for o) → (s : State) × (o ≡ Some s) × (m ≡ mode_for s) × (rest ≡ [])
under-way None m rest e = absurd (let f : m ∷ rest ≡ [] = e in cc)
under-way (Some s) m rest e = let f : m ∷ rest ≡ mode_for s ∷ [] = e in (s, refl, (cc), (cc))

-- where the message in hand grants the lock, a grant of it is under way, and no other
module _ (lock : LockName) (p : Parts) (l : ℕ → Node) (k : ℕ) (within : k ≤ 8) (m : Message) (mode : Mode) (rest : List Message)
    (tied : Tied lock p l) (hand : p.post.took p.master k ≡ m ∷ rest) (grant : in_view p.membership.generation (grants lock) m ≡ Some mode) where
  coming : (s : State) × ((l k).down ≡ Some s) × (mode ≡ mode_for s)
      × (filter_map (in_view p.membership.generation (grants lock)) (way (with_left p.post p.master k rest) p.master k) ≡ [])
  coming = under-way ((l k).down) mode _
      (sym (left-says (in_view p.membership.generation (grants lock)) p.post p.master k m rest mode hand grant) ∙ (tied.nodes k within).down)

  -- after that
  taken-in : (h : Holdings) (n : Node) → in_view p.membership.generation (tells lock) m ≡ None
      → Fits (sight lock (record p { holders = at p.holders k h; post = with_left p.post p.master k rest }) k) n
      → Tied lock (record p { holders = at p.holders k h; post = with_left p.post p.master k rest }) (at l k n)
  taken-in h n mute fits = record {
    nodes = one-node lock p (record p { holders = at p.holders k h; post = with_left p.post p.master k rest }) l k n within tied fits
        (λ i x ne. same-sight lock p (at p.holders k h) (with_left p.post p.master k rest) p.taken i (at-away p.holders k h i ne) refl
        (left-mute (in_view p.membership.generation (tells lock)) p.post p.master k m rest i p.master hand mute)
        (ap (filter_map (in_view p.membership.generation (grants lock))) (left-away p.post p.master k rest p.master i (λ e f. ne f))));
    others = no-other lock p (record p { holders = at p.holders k h; post = with_left p.post p.master k rest }) l k n within tied;
    master = tied.master;
    table = tied.table;
    done = tied.done;
    unheard = tied.unheard;
    mail = λ i j x y. left-all (λ m. m.generation ≤ p.membership.generation) p.post p.master k m rest i j hand (tied.mail i j x y);
  }

-- ---- the calls

pub holder-steps : HolderCallsAreSteps
holder-steps lock p _ l (calls.Asks k s acts from) sound tied =
    let f = tied.nodes k acts.node in
    let runs : (l k).waits ≡ false = sym f.waits ∙ acts.runs in
    let un : (l k).state ≡ Un = modes-of-their-own ((l k).state) Un (sym (held-state lock p l k acts tied) ∙ from.nothing) in
    let idle : (l k).asked ≡ false = sym (f.asked acts.member) ∙ ap is_some from.idle in
    let n : Node = record (l k) { asked = true; up = (l k).up ++ machine.Asked s ∷ [] } in
    let b : Body = Request lock (mode_for s) in
    let h : Holdings = asked_for (p.holders k) lock (mode_for s) in
    let now : holding_of h lock ≡ record (holding_of (p.holders k) lock) { wanted = Some (mode_for s) } = holding-is (p.holders k) lock (record (holding_of (p.holders k) lock) { wanted = Some (mode_for s) }) in
    record {
      state = at l k n;
      steps = one-step l (at l k n) (Moves k n (machine.Asks s (sym f.member ∙ acts.member) (sym f.fresh ∙ acts.settled) (sym f.taken ∙ acts.taken) runs un idle));
      tied = sent lock p l k h b (ties.Asks (mode_for s)) (machine.Asked s) n acts tied (says-request lock (mode_for s)) refl refl (record {
        member = f.member;
        fresh = f.fresh;
        waits = f.waits;
        roll = f.roll;
        taken = f.taken;
        mode = λ m. ap (λ (x : Holdings). mode_in x lock) (at-here p.holders k h) ∙ (ap (λ (x : Holding). x.mode) now ∙ f.mode m);
        left = λ m. true-false (acts.member) m;
        asked = λ m. ap (λ (x : Holdings). is_some (wanted_in x lock)) (at-here p.holders k h) ∙ ap (λ (x : Holding). is_some x.wanted) now;
        table = f.table;
        heard = f.heard;
        wants = f.wants;
        up = up-more lock p l k h b (ties.Asks (mode_for s)) (machine.Asked s) n acts tied (says-request lock (mode_for s)) refl refl ((l k).up) f.up;
        down = letters-mute (in_view p.membership.generation (grants lock)) p.post k p.master (now_says p b ∷ []) p.master k
            (no-grant lock p l k h b (ties.Asks (mode_for s)) (machine.Asked s) n acts tied (says-request lock (mode_for s)) refl refl) ∙ f.down;
      });
    }
holder-steps lock p _ l (calls.IsGranted k mode value rest acts none hand) sound tied =
    let f = tied.nodes k acts.node in
    let runs : (l k).waits ≡ false = sym f.waits ∙ acts.runs in
    let msg : Message = now_says p (Grant lock mode value) in
    let grant : in_view p.membership.generation (grants lock) msg ≡ Some mode = now-says (grants lock) p.membership.generation (Grant lock mode value) ∙ says-grant lock mode value in
    let mute : in_view p.membership.generation (tells lock) msg ≡ None = now-says (tells lock) p.membership.generation (Grant lock mode value) in
    let c = coming lock p l k acts.node msg mode rest tied hand grant in
    let n : Node = record (l k) { state = c.0; asked = false; down = None } in
    let h : Holdings = granted_to (p.holders k) lock mode value in
    let now : holding_of h lock ≡ record { mode = mode; wanted = None; value = value } = holding-is (p.holders k) lock (record { mode = mode; wanted = None; value = value }) in
    record {
      state = at l k n;
      steps = one-step l (at l k n) (Moves k n (machine.Receives c.0 c.1 (sym f.member ∙ acts.member) (sym f.fresh ∙ acts.settled) runs));
      tied = taken-in lock p l k acts.node msg mode rest tied hand grant h n mute (record {
        member = f.member;
        fresh = f.fresh;
        waits = f.waits;
        roll = f.roll;
        taken = f.taken;
        mode = λ m. ap (λ (x : Holdings). mode_in x lock) (at-here p.holders k h) ∙ (ap (λ (x : Holding). x.mode) now ∙ (c.2 ∙ sym (ap mode_for (eff-runs n runs))));
        left = λ m. true-false (acts.member) m;
        asked = λ m. ap (λ (x : Holdings). is_some (wanted_in x lock)) (at-here p.holders k h) ∙ ap (λ (x : Holding). is_some x.wanted) now;
        table = f.table;
        heard = f.heard;
        wants = f.wants;
        up = left-mute (in_view p.membership.generation (tells lock)) p.post p.master k msg rest k p.master hand mute ∙ f.up;
        down = c.3;
      });
    }
holder-steps lock p _ l (calls.Lowers k s value acts covered some idle) sound tied =
    let f = tied.nodes k acts.node in
    let runs : (l k).waits ≡ false = sym f.waits ∙ acts.runs in
    let is : mode_in (p.holders k) lock ≡ mode_for ((l k).state) = held-state lock p l k acts tied in
    let low : leq s ((l k).state) ≡ true = cover-as-modes s ((l k).state) ∙ (ap (λ (x : Mode). is_at_least x (mode_for s)) (sym is) ∙ covered) in
    let held : (l k).state ≡ Un → ⊥ = λ (e : (l k).state ≡ Un). some (is ∙ ap mode_for e) in
    let n : Node = record (l k) { state = s; up = (l k).up ++ machine.Lowered s ∷ [] } in
    let b : Body = Down lock (mode_for s) value in
    let h : Holdings = lowered_to (p.holders k) lock (mode_for s) in
    let now : holding_of h lock ≡ record (holding_of (p.holders k) lock) { mode = mode_for s } = holding-is (p.holders k) lock (record (holding_of (p.holders k) lock) { mode = mode_for s }) in
    record {
      state = at l k n;
      steps = one-step l (at l k n) (Moves k n (machine.Lowers s (sym f.member ∙ acts.member) (sym f.fresh ∙ acts.settled) (sym f.taken ∙ acts.taken) runs low held));
      tied = sent lock p l k h b (ties.Lowers (mode_for s)) (machine.Lowered s) n acts tied (says-down lock (mode_for s) value) refl refl (record {
        member = f.member;
        fresh = f.fresh;
        waits = f.waits;
        roll = f.roll;
        taken = f.taken;
        mode = λ m. ap (λ (x : Holdings). mode_in x lock) (at-here p.holders k h) ∙ (ap (λ (x : Holding). x.mode) now ∙ sym (ap mode_for (eff-runs n runs)));
        left = λ m. true-false (acts.member) m;
        asked = λ m. ap (λ (x : Holdings). is_some (wanted_in x lock)) (at-here p.holders k h) ∙ (ap (λ (x : Holding). is_some x.wanted) now ∙ f.asked m);
        table = f.table;
        heard = f.heard;
        wants = f.wants;
        up = up-more lock p l k h b (ties.Lowers (mode_for s)) (machine.Lowered s) n acts tied (says-down lock (mode_for s) value) refl refl ((l k).up) f.up;
        down = letters-mute (in_view p.membership.generation (grants lock)) p.post k p.master (now_says p b ∷ []) p.master k
            (no-grant lock p l k h b (ties.Lowers (mode_for s)) (machine.Lowered s) n acts tied (says-down lock (mode_for s) value) refl refl) ∙ f.down;
      });
    }
holder-steps lock p _ l (calls.Drops from to m rest x y hand mute) sound tied = by (in_view p.membership.generation (grants lock) m) refl (cases_eq from p.master)
  where
    all-old : (i j : ℕ) → i ≤ 8 → j ≤ 8 → AllByRecursion (λ m. m.generation ≤ p.membership.generation) (way (with_left p.post from to rest) i j)
    all-old i j u v = left-all (λ m. m.generation ≤ p.membership.generation) p.post from to m rest i j hand (tied.mail i j u v)

    rests : ((i : ℕ) → i ≤ 8 → filter_map (in_view p.membership.generation (grants lock)) (way (with_left p.post from to rest) p.master i) ≡ filter_map (in_view p.membership.generation (grants lock)) (way p.post p.master i))
        → Follows lock l (record p { post = with_left p.post from to rest })
    rests down = record {
      state = l;
      steps = Stays;
      tied = no-step lock p (with_left p.post from to rest) l tied
          (λ i u. left-quiet-to (in_view p.membership.generation (tells lock)) p.post from to m rest i p.master hand mute) down all-old;
    }

    drops : (mode : Mode) → in_view p.membership.generation (grants lock) m ≡ Some mode → p.post.took p.master to ≡ m ∷ rest
        → Follows lock l (record p { post = with_left p.post p.master to rest })
    drops mode grant hand =
        let f = tied.nodes to y in
        let c = coming lock p l to y m mode rest tied hand grant in
        let n : Node = record (l to) { down = None } in
        let q : Parts = record p { post = with_left p.post p.master to rest } in
        record {
          state = at l to n;
          steps = one-step l (at l to n) (Moves to n (machine.Drops c.0 c.1));
          tied = record {
            nodes = one-node lock p q l to n y tied (record {
              member = f.member;
              fresh = f.fresh;
              waits = f.waits;
              roll = f.roll;
              taken = f.taken;
              mode = f.mode;
              left = f.left;
              asked = f.asked;
              table = f.table;
              heard = f.heard;
              wants = f.wants;
              up = left-quiet-to (in_view p.membership.generation (tells lock)) p.post p.master to m rest to p.master hand mute ∙ f.up;
              down = c.3;
            })
                (λ i x ne. same-sight lock p p.holders (with_left p.post p.master to rest) p.taken i refl refl
                (left-quiet-to (in_view p.membership.generation (tells lock)) p.post p.master to m rest i p.master hand mute)
                (ap (filter_map (in_view p.membership.generation (grants lock))) (left-away p.post p.master to rest p.master i (λ e f. ne f))));
            others = no-other lock p q l to n y tied;
            master = tied.master;
            table = tied.table;
            done = tied.done;
            unheard = tied.unheard;
            mail = λ i j u v. left-all (λ m. m.generation ≤ p.membership.generation) p.post p.master to m rest i j hand (tied.mail i j u v);
          };
        }

    by : (o : Option Mode) → in_view p.membership.generation (grants lock) m ≡ o → (from ≡ p.master) ⊎ (from ≡ p.master → ⊥) → Follows lock l (record p { post = with_left p.post from to rest })
    by None e which = rests (λ i u. left-mute (in_view p.membership.generation (grants lock)) p.post from to m rest p.master i hand e)
    by (Some mode) e (inl here) = subst (λ (a : ℕ). Follows lock l (record p { post = with_left p.post a to rest })) (sym here)
        (drops mode e (subst (λ (a : ℕ). p.post.took a to ≡ m ∷ rest) here hand))
    by (Some mode) e (inr ne) = rests (λ i u. ap (filter_map (in_view p.membership.generation (grants lock))) (left-away p.post from to rest p.master i (λ a b. ne (sym a))))
holder-steps lock p _ l (calls.Writes from to letters x y old up down) sound tied = record {
  state = l;
  steps = Stays;
  tied = no-step lock p (with_letters p.post from to letters) l tied
      (λ i u. letters-quiet-to (in_view p.membership.generation (tells lock)) p.post from to letters i p.master up)
      (λ i u. letters-quiet-from (in_view p.membership.generation (grants lock)) p.post from to letters p.master i down)
      (λ i k u v. letters-all (λ m. m.generation ≤ p.membership.generation) p.post from to letters i k old (tied.mail i k u v));
}
holder-steps lock p _ l (calls.HoldsElsewhere k other holding ne) sound tied = record {
  state = l;
  steps = Stays;
  tied = record {
    nodes = λ i x. subst (λ (s : Sight). Fits s (l i)) (same i) (tied.nodes i x);
    others = tied.others;
    master = tied.master;
    table = tied.table;
    done = tied.done;
    unheard = tied.unheard;
    mail = tied.mail;
  };
}
  where
    held : (i : ℕ) → holding_of (at p.holders k (with_lock (p.holders k) other holding) i) lock ≡ holding_of (p.holders i) lock
    held i = elim (cases_eq i k) [
      | inl e ↦ subst (λ (j : ℕ). holding_of (at p.holders k (with_lock (p.holders k) other holding) j) lock ≡ holding_of (p.holders j) lock) (sym e)
          (ap (λ (h : Holdings). holding_of h lock) (at-here p.holders k (with_lock (p.holders k) other holding)) ∙ holding-away (p.holders k) lock other holding ne)
      | inr away ↦ ap (λ (h : Holdings). holding_of h lock) (at-away p.holders k (with_lock (p.holders k) other holding) i away)
    ]

    same : (i : ℕ) → sight lock p i ≡ sight lock (record p { holders = at p.holders k (with_lock (p.holders k) other holding) }) i
    same i t = record (sight lock p i) { mode = (sym (held i) t).mode; asked = is_some (sym (held i) t).wanted }
