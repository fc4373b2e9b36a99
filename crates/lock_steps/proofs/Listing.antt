-- Lists of calls.
use Rattle.std.proofs.Common.{ℕ, ◌≡◌, ◌≤◌, ◌<◌, ◌⊎◌, inl, inr, Bool, true, false, nat_lt, Option, None, Some, List, [], ◌∷◌, refl, sym, ap, ◌∙◌, subst, arith}
use Rattle.std.specs.Prelude.{◌&&◌, option_map, option_to_list, unwrap_or, is_some}
use Rattle.std.specs.List.{AllByRecursion, filter_map}
use Rattle.std.proofs.lemmas.Bool.{lt-ltb, le-ltb}
use Rattle.glock_names.specs.declared.LockName.{LockName}
use Rattle.glock_names.specs.States.{mode_for}
use Rattle.dlm_modes.specs.declared.Mode.{Mode}
use Rattle.dlm_modes.specs.declared.Mode.TheVariants.{Nl}
use Rattle.dlm_modes.specs.Modes.{go_together, is_at_least}
use Rattle.dlm_modes.proofs.ModeLaws.{covers-itself, together-turned, together-weaker}
use Rattle.fencing.specs.NodeSets.{has}
use Rattle.dlm_holder.specs.Holdings.{Holdings, mode_in, wanted_in}
use Rattle.dlm_master.specs.LockState.{LockState}
use Rattle.dlm_master.specs.Claims.{mode_of_node}
use Rattle.lock_laws.specs.Lock.{State, Un, Node, eff, goes, Sound, Holds, Granted, starting}
use Rattle.lock_laws.proofs.Keeping.{starts}
use Rattle.lock_steps.specs.Runs.{Stays}
use Rattle.lock_steps.specs.Parts.{Parts}
use Rattle.lock_steps.specs.Ties.{sight, IsTable, Tied, in_view, tells, grants}
use Rattle.lock_steps.specs.Laws.{Follows, Call, OfMail, OfHolder, OfTable, OfMembers, Calls, NoCall, AndCall, Begins, EveryListIsSteps, held_or_coming, AreRight, EveryListIsRight}
use Rattle.lock_steps.proofs.Modes.{go-as-modes, cover-as-modes}
use Rattle.lock_steps.proofs.Running.{steps-sound, steps-join, sound-covers}
use Rattle.lock_steps.proofs.Tying.{fits-at-most}
use Rattle.lock_steps.proofs.Mailing.{mail-is-none}
use Rattle.lock_steps.proofs.Holding.{holder-steps}
use Rattle.lock_steps.proofs.Turning.{table-steps}
use Rattle.lock_steps.proofs.Membering.{member-steps}

pub call-steps : (lock : LockName) (p q : Parts) (l : ℕ → Node) → Call lock p q → Sound l → Tied lock p l → Follows lock l q
call-steps lock p _ l (OfMail post call) sound tied = record { state = l; steps = Stays; tied = mail-is-none lock p post l call tied }
call-steps lock p _ l (OfHolder q call) sound tied = holder-steps lock p q l call sound tied
call-steps lock p _ l (OfTable q call) sound tied = table-steps lock p q l call sound tied
call-steps lock p _ l (OfMembers q call) sound tied = member-steps lock p q l call sound tied

calls-steps : (lock : LockName) (p q : Parts) (l : ℕ → Node) → Calls lock p q → Sound l → Tied lock p l → Follows lock l q
calls-steps lock p _ l NoCall sound tied = record { state = l; steps = Stays; tied = tied }
calls-steps lock p _ l (AndCall q r calls call) sound tied =
    let before = calls-steps lock p q l calls sound tied in
    let after = call-steps lock q r before.state call (steps-sound l before.state before.steps sound) before.tied in
    record { state = after.state; steps = steps-join l before.state after.state before.steps after.steps; tied = after.tied }

-- ---- the start

-- of the nodes 0 to 8
among : ℕ → ℕ → Bool
among set k = nat_lt k 9 && has set k

among-here : (set k : ℕ) → k ≤ 8 → among set k ≡ has set k
unfolding among
among-here set k x = ap (λ (b : Bool). b && has set k) (lt-ltb k 9 (omega arith))

among-away : (set k : ℕ) → 8 < k → among set k ≡ false
unfolding among
among-away set k x = ap (λ (b : Bool). b && has set k) (le-ltb k 9 (omega arith))

starting-eff : (runs waits : Bool) → eff (starting runs waits) ≡ Un
starting-eff runs true = refl
starting-eff runs false = refl

begins-tied : (lock : LockName) (p : Parts) → Begins lock p → Tied lock p (λ k. starting (among p.membership.members k) (among p.membership.waiting k))
begins-tied lock p b = record {
  nodes = λ k x. record {
    member = sym (among-here p.membership.members k x);
    fresh = b.fresh k x;
    waits = sym (among-here p.membership.waiting k x);
    roll = b.members k x ∙ sym (among-here p.membership.members k x);
    taken = b.taken k x ∙ sym (among-here p.membership.members k x);
    mode = λ m. ap (λ (h : Holdings). mode_in h lock) (b.holders k x) ∙ sym (ap mode_for (starting-eff (among p.membership.members k) (among p.membership.waiting k)));
    left = λ m. ap (λ (h : Holdings). is_at_least Nl (mode_in h lock)) (b.holders k x);
    asked = λ m. ap (λ (h : Holdings). is_some (wanted_in h lock)) (b.holders k x);
    table = ap (λ (t : LockState). unwrap_or (mode_of_node t.held k) Nl) b.table;
    heard = b.ended k x ∙ sym (among-here p.membership.members k x);
    wants = ap (λ (t : LockState). mode_of_node t.requests k) b.table;
    up = ap (filter_map (in_view p.membership.generation (tells lock))) (b.mail k p.master x b.master);
    down = ap (filter_map (in_view p.membership.generation (grants lock))) (b.mail p.master k b.master x);
  };
  others = λ k x. record {
    member = among-away p.membership.members k x;
    waits = among-away p.membership.waiting k x;
    roll = among-away p.membership.members k x;
    table = refl;
  };
  master = b.master;
  table = subst IsTable (sym b.table) (record { never_converted = refl; held_once = tt; never_null = tt; asked_once = tt; nodes = tt });
  done = λ e k x m. b.ended k x ∙ (sym (b.members k x) ∙ m);
  unheard = λ k x e. ap (λ (t : LockState). unwrap_or (mode_of_node t.held k) Nl) b.table;
  mail = λ i k x y. subst (AllByRecursion (λ m. m.generation ≤ p.membership.generation)) (sym (b.mail i k x y)) tt;
}

pub list-steps : EveryListIsSteps
list-steps lock p q b calls =
    let runs : ℕ → Bool = among p.membership.members in
    let waits : ℕ → Bool = among p.membership.waiting in
    let r = calls-steps lock p q (λ k. starting (runs k) (waits k)) calls (starts runs waits) (begins-tied lock p b) in
    (runs, waits, r.state, r.steps, r.tied)

-- ---- what holds then

-- lower modes go together where higher ones do
lower-go : (a b : State) (c d : Mode) → goes a b ≡ true → is_at_least (mode_for a) c ≡ true → is_at_least (mode_for b) d ≡ true → go_together c d ≡ true
lower-go a b c d e x y =
    let first : go_together (mode_for a) d ≡ true = together-weaker (mode_for a) (mode_for b) d (sym (go-as-modes a b) ∙ e) y in
    together-turned d c (together-weaker d (mode_for a) c (together-turned (mode_for a) d first) x)

-- of a list that is nothing or one thing
each : (P : Mode → Type 0) (o : Option State) (ms : List Mode) → ms ≡ option_to_list (option_map mode_for o) → ((s : State) → o ≡ Some s → P (mode_for s)) → AllByRecursion P ms
each P None ms e all = subst (AllByRecursion P) (sym e) tt
each P (Some s) ms e all = subst (AllByRecursion P) (sym e) (all s refl, tt)

at-most-one : (o : Option State) (ms : List Mode) → ms ≡ option_to_list (option_map mode_for o) → (ms ≡ []) ⊎ ((mode : Mode) × (ms ≡ mode ∷ []))
at-most-one None ms e = inl e
at-most-one (Some s) ms e = inr (mode_for s, e)

pub are-right : (lock : LockName) (p : Parts) (l : ℕ → Node) → Sound l → Tied lock p l → AreRight lock p
are-right lock p l sound tied = record {
  compatible = λ i k x y ne. (let f = tied.nodes i x in let g = tied.nodes k y in (
    (
      lower-go ((l i).state) ((l k).state) _ _ (sound.apart i k ne _ _ Holds Holds) (fits-at-most f) (fits-at-most g),
      each (λ b. go_together (mode_in (p.holders i) lock) b ≡ true) ((l k).down) _ g.down
          (λ s e. lower-go ((l i).state) s _ _ (sound.apart i k ne _ _ Holds (Granted s e)) (fits-at-most f) (covers-itself (mode_for s))),
    ),
    each (λ a. AllByRecursion (λ b. go_together a b ≡ true) (held_or_coming lock p k)) ((l i).down) _ f.down
        (λ s e. (
          lower-go s ((l k).state) _ _ (sound.apart i k ne _ _ (Granted s e) Holds) (covers-itself (mode_for s)) (fits-at-most g),
          each (λ b. go_together (mode_for s) b ≡ true) ((l k).down) _ g.down
              (λ t h. sym (go-as-modes s t) ∙ sound.apart i k ne _ _ (Granted s e) (Granted t h)),
        )),
  ));
  one_grant = λ k x. at-most-one ((l k).down) _ (tied.nodes k x).down;
  covers = λ k x m taken ended. (let f = tied.nodes k x in
      ap (λ (a : Mode). is_at_least a (mode_in (p.holders k) lock)) f.table
      ∙ (ap (is_at_least (mode_for ((l k).table))) (f.mode m)
      ∙ (sym (cover-as-modes (eff (l k)) ((l k).table)) ∙ (sound-covers l sound k (sym f.taken ∙ taken) (sym f.heard ∙ ended)).held)));
  covers_grants = λ k x taken ended. (let f = tied.nodes k x in
      each (λ mode. is_at_least ((sight lock p k).table) mode ≡ true) ((l k).down) _ f.down
      (λ s e. ap (λ (a : Mode). is_at_least a (mode_for s)) f.table
      ∙ (sym (cover-as-modes s ((l k).table)) ∙ (sound-covers l sound k (sym f.taken ∙ taken) (sym f.heard ∙ ended)).granted s e)));
}

pub list-right : EveryListIsRight
list-right lock p q b calls =
    let runs : ℕ → Bool = among p.membership.members in
    let waits : ℕ → Bool = among p.membership.waiting in
    let start : Sound (λ k. starting (runs k) (waits k)) = starts runs waits in
    let r = calls-steps lock p q (λ k. starting (runs k) (waits k)) calls start (begins-tied lock p b) in
    are-right lock q r.state (steps-sound (λ k. starting (runs k) (waits k)) r.state r.steps start) r.tied
