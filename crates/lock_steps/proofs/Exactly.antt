-- What a table has of a node once all that is under way has come, over the steps of a lock.
use Rattle.std.proofs.Common.{ℕ, ◌≡◌, inl, inr, Bool, true, false, Option, None, Some, is_some, List, [], ◌∷◌, ◌++◌, map, refl, sym, ap, ◌∙◌, subst}
use Rattle.std.specs.Prelude.{⊤, ◌||◌, option_map}
use Rattle.std.proofs.lemmas.Bool.{cases_eq, cases_Bool}
use Rattle.glock_names.specs.declared.LockName.{LockName}
use Rattle.glock_names.specs.States.{mode_for}
use Rattle.dlm_modes.specs.declared.Mode.{Mode}
use Rattle.dlm_modes.specs.Modes.{is_at_least}
use Rattle.dlm_holder.specs.Holdings.{wanted_in}
use Rattle.mail_queues.specs.declared.Body.TheVariants.{Request, Down}
use Rattle.mail_queues.specs.declared.Body.TheVariants as body
use Rattle.dlm_master.specs.declared.claims.Claim.{Claim}
use Rattle.dlm_master.specs.Claims.{mode_of_node}
use Rattle.dlm_master.specs.LockState.{LockState}
use Rattle.dlm_master.specs.Locks.{is_waiting}
use Rattle.dlm_master.proofs.SoundLaws.{null-none}
use Rattle.lock_laws.specs.Lock.{State, Un, Node, Report, End, Lowered, Asked, eff, leq, has_report, has_down, has_ask, Ok, Fine, Sound, at, Move, Asks, HearsReport, HearsEnd, HearsDown, HearsAsk, Receives, Drops, Lowers, TakesView, Stops, IsRecovered, Joins, anew, Step, Moves, Changes, Grants, starting}
use Rattle.lock_laws.specs.Lock as machine
use Rattle.lock_laws.proofs.Keeping.{starts}
use Rattle.lock_steps.specs.Runs.{Steps, Stays, AndThen}
use Rattle.lock_steps.specs.Parts.{Parts}
use Rattle.lock_steps.specs.Ties.{Tell, tell_of, Fits, Tied, tells, grants, sight, present}
use Rattle.lock_steps.specs.Ties as ties
use Rattle.lock_steps.specs.Laws.{Begins, Calls}
use Rattle.lock_steps.specs.Exact.{told_last, TablesAreExact, RequestsFindNothing, LowersOnlyLower, ReportsFindARebuild, EndsFindARebuild, HoldersAskForNothing}
use Rattle.lock_steps.proofs.Modes.{cover-as-modes}
use Rattle.lock_steps.proofs.Running.{steps-sound}
use Rattle.lock_steps.proofs.Basics.{true-false, at-here, at-away}
use Rattle.lock_steps.proofs.Tying.{eff-runs, eff-waits}
use Rattle.lock_steps.proofs.Tabling.{tied-of, first, has-taken, is-ask, is-down, is-report, is-end}
use Rattle.lock_steps.proofs.Holding.{says-request, says-down, says-report}
use Rattle.lock_steps.proofs.Listing.{list-steps}

some-none : {A : Type 0} {o : Option State} {s : State} → o ≡ None → o ≡ Some s → A
some-none {A} {o} {s} e f = absurd (let h : None ≡ Some s = sym e ∙ f in cc)

-- ---- messages

abbrev settled : List machine.Message → State → State
settled [] t = t
settled (Report s ∷ q) t = settled q s
settled (Lowered s ∷ q) t = settled q s
settled (End ∷ q) t = settled q t
settled (Asked s ∷ q) t = settled q t

settled-ask : (q : List machine.Message) (t s : State) → settled (q ++ Asked s ∷ []) t ≡ settled q t
settled-ask [] t s = refl
settled-ask (Report u ∷ q) t s = settled-ask q u s
settled-ask (Lowered u ∷ q) t s = settled-ask q u s
settled-ask (End ∷ q) t s = settled-ask q t s
settled-ask (Asked u ∷ q) t s = settled-ask q t s

settled-down : (q : List machine.Message) (t s : State) → settled (q ++ Lowered s ∷ []) t ≡ s
settled-down [] t s = refl
settled-down (Report u ∷ q) t s = settled-down q u s
settled-down (Lowered u ∷ q) t s = settled-down q u s
settled-down (End ∷ q) t s = settled-down q t s
settled-down (Asked u ∷ q) t s = settled-down q t s

settled-same : (q : List machine.Message) (t : State) → has_report q ≡ false → has_down q ≡ false → settled q t ≡ t
settled-same [] t r d = refl
settled-same (Report u ∷ q) t r d = true-false refl r
settled-same (Lowered u ∷ q) t r d = true-false refl d
settled-same (End ∷ q) t r d = settled-same q t r d
settled-same (Asked u ∷ q) t r d = settled-same q t r d

report-ask : (q : List machine.Message) (s : State) → has_report (q ++ Asked s ∷ []) ≡ has_report q
report-ask [] s = refl
report-ask (Report t ∷ q) s = refl
report-ask (End ∷ q) s = report-ask q s
report-ask (Lowered t ∷ q) s = report-ask q s
report-ask (Asked t ∷ q) s = report-ask q s

report-down : (q : List machine.Message) (s : State) → has_report (q ++ Lowered s ∷ []) ≡ has_report q
report-down [] s = refl
report-down (Report t ∷ q) s = refl
report-down (End ∷ q) s = report-down q s
report-down (Lowered t ∷ q) s = report-down q s
report-down (Asked t ∷ q) s = report-down q s

ask-down : (q : List machine.Message) (s : State) → has_ask (q ++ Lowered s ∷ []) ≡ has_ask q
ask-down [] s = refl
ask-down (Report t ∷ q) s = ask-down q s
ask-down (End ∷ q) s = ask-down q s
ask-down (Lowered t ∷ q) s = ask-down q s
ask-down (Asked t ∷ q) s = refl

-- at most one of them ends the reports, and none where they have ended
abbrev EndsOnce : Bool → List machine.Message → Type 0
EndsOnce heard [] = ⊤
EndsOnce heard (End ∷ q) = (heard ≡ false) × EndsOnce true q
EndsOnce heard (Report s ∷ q) = EndsOnce heard q
EndsOnce heard (Lowered s ∷ q) = EndsOnce heard q
EndsOnce heard (Asked s ∷ q) = EndsOnce heard q

ends-more : (heard : Bool) (q : List machine.Message) (m : machine.Message) → (m ≡ End → ⊥) → EndsOnce heard q → EndsOnce heard (q ++ m ∷ [])
ends-more heard [] End other once = absurd (other refl)
ends-more heard [] (Report t) other once = tt
ends-more heard [] (Lowered t) other once = tt
ends-more heard [] (Asked t) other once = tt
ends-more heard (End ∷ q) m other once = (once.0, ends-more true q m other once.1)
ends-more heard (Report t ∷ q) m other once = ends-more heard q m other once
ends-more heard (Lowered t ∷ q) m other once = ends-more heard q m other once
ends-more heard (Asked t ∷ q) m other once = ends-more heard q m other once

settled-told : (q : List machine.Message) (t : State) → told_last (map tell_of q) (mode_for t) ≡ mode_for (settled q t)
settled-told [] t = refl
settled-told (Report s ∷ q) t = settled-told q s
settled-told (Lowered s ∷ q) t = settled-told q s
settled-told (End ∷ q) t = settled-told q t
settled-told (Asked s ∷ q) t = settled-told q t

-- ---- a node

record Exact (n : Node) : Type 0 where
  idle : n.member ≡ true → n.fresh ≡ false → n.taken ≡ true → n.asked ≡ false → settled (n.up) (n.table) ≡ eff n
  asking : has_ask (n.up) ≡ true → settled (n.up) (n.table) ≡ Un
  wanting : (s : State) → n.wants ≡ Some s → settled (n.up) (n.table) ≡ Un
  granted : (s : State) → n.down ≡ Some s → settled (n.up) (n.table) ≡ s
  reported : (s : State) → n.wants ≡ Some s → has_report (n.up) ≡ false
  ends : EndsOnce (n.heard) (n.up)

-- a message that was taken changes nothing of it
heard-same : (n : Node) (m : machine.Message) (q : List machine.Message) (table : State) (heard : Bool) → n.up ≡ m ∷ q → settled q table ≡ settled (m ∷ q) (n.table) → has_ask q ≡ has_ask (m ∷ q)
    → (has_report (m ∷ q) ≡ false → has_report q ≡ false) → EndsOnce heard q → Exact n → Exact (record n { table = table; heard = heard; up = q })
heard-same n m q table heard e same asks told once x = record {
  idle = λ a b c d. along ∙ x.idle a b c d;
  asking = λ a. along ∙ x.asking (ap has_ask e ∙ (sym asks ∙ a));
  wanting = λ s w. along ∙ x.wanting s w;
  granted = λ s w. along ∙ x.granted s w;
  reported = λ s w. told (sym (ap has_report e) ∙ x.reported s w);
  ends = once;
}
  where
    along : settled q table ≡ settled (n.up) (n.table)
    along = same ∙ sym (ap (λ (u : List machine.Message). settled u (n.table)) e)

move-exact : (n n' : Node) → Move n n' → Fine n → Exact n → Exact n'
move-exact n _ (Asks s member fresh taken runs un idle) f x = record {
  idle = λ a b c d. true-false refl d;
  asking = λ a. settled-ask (n.up) (n.table) s ∙ (x.idle member fresh taken idle ∙ (eff-runs n runs ∙ un));
  wanting = λ t w. settled-ask (n.up) (n.table) s ∙ x.wanting t w;
  granted = λ t w. settled-ask (n.up) (n.table) s ∙ x.granted t w;
  reported = λ t w. report-ask (n.up) s ∙ x.reported t w;
  ends = ends-more (n.heard) (n.up) (Asked s) (λ e. absurd (let f : Asked s ≡ End = e in cc)) x.ends;
}
move-exact n _ (HearsReport s q e) f x = heard-same n (Report s) q s (n.heard) e refl refl (λ r. true-false refl r) (subst (EndsOnce (n.heard)) e x.ends) x
move-exact n _ (HearsEnd q e) f x = heard-same n End q (n.table) true e refl refl (λ r. r) (let once : EndsOnce (n.heard) (End ∷ q) = subst (EndsOnce (n.heard)) e x.ends in once.1) x
move-exact n _ (HearsDown s q e) f x = heard-same n (Lowered s) q s (n.heard) e refl refl (λ r. r) (subst (EndsOnce (n.heard)) e x.ends) x
move-exact n _ (HearsAsk s q e) f x = record {
  idle = λ a b c d. along ∙ x.idle a b c d;
  asking = λ a. along ∙ x.asking (ap has_ask e);
  wanting = λ t w. along ∙ x.asking (ap has_ask e);
  granted = λ t w. along ∙ x.granted t w;
  reported = λ t w. order.0;
  ends = subst (EndsOnce (n.heard)) e x.ends;
}
  where
    order : machine.InOrder (Asked s ∷ q)
    order = subst machine.InOrder e f.in_order

    along : settled q (n.table) ≡ settled (n.up) (n.table)
    along = sym (ap (λ (u : List machine.Message). settled u (n.table)) e)
move-exact n _ (Receives s e member fresh runs) f x = record {
  idle = λ a b c d. x.granted s e ∙ sym (eff-runs (record n { state = s; asked = false; down = None }) runs);
  asking = x.asking;
  wanting = x.wanting;
  granted = λ t w. some-none refl w;
  reported = x.reported;
  ends = x.ends;
}
move-exact n _ (Drops s e) f x = record { idle = x.idle; asking = x.asking; wanting = x.wanting; granted = λ t w. some-none refl w; reported = x.reported; ends = x.ends }
move-exact n _ (Lowers s member fresh taken runs low held) f x = record {
  idle = λ a b c d. settled-down (n.up) (n.table) s ∙ sym (eff-runs (record n { state = s; up = n.up ++ Lowered s ∷ [] }) runs);
  asking = λ a. true-false (sym (ask-down (n.up) s) ∙ a) quiet.0;
  wanting = λ t w. some-none quiet.1 w;
  granted = λ t w. some-none quiet.2 w;
  reported = λ t w. some-none quiet.1 w;
  ends = ends-more (n.heard) (n.up) (Lowered s) (λ e. absurd (let f : Lowered s ≡ End = e in cc)) x.ends;
}
  where
    not-asked : n.asked ≡ false
    not-asked = elim (cases_Bool (n.asked)) [ inl was ↦ absurd (held (sym (eff-runs n runs) ∙ f.asked was)) | inr idle ↦ idle ]

    quiet : (has_ask (n.up) ≡ false) × (n.wants ≡ None) × (n.down ≡ None)
    quiet = f.idle not-asked fresh
move-exact n _ (TakesView member roll untaken) f x = record {
  idle = λ a b c d. refl;
  asking = λ a. true-false a refl;
  wanting = λ t w. some-none (f.bare untaken).2 w;
  granted = λ t w. some-none (f.bare untaken).1 w;
  reported = λ t w. some-none (f.bare untaken).2 w;
  ends = ((f.bare untaken).3, tt);
}
move-exact n _ Stops f x = record { idle = λ a b c d. true-false a refl; asking = x.asking; wanting = x.wanting; granted = x.granted; reported = x.reported; ends = x.ends }
move-exact n _ (IsRecovered waits) f x = record { idle = λ a b c d. x.idle a b c d ∙ eff-waits n waits; asking = x.asking; wanting = x.wanting; granted = x.granted; reported = x.reported; ends = x.ends }
move-exact n _ (Joins out) f x = record { idle = λ a b c d. true-false refl b; asking = x.asking; wanting = x.wanting; granted = x.granted; reported = x.reported; ends = x.ends }

anew-exact : (n : Node) → Exact (anew n)
anew-exact n = record {
  idle = λ a b c d. true-false c refl;
  asking = λ a. true-false a refl;
  wanting = λ t w. some-none refl w;
  granted = λ t w. some-none refl w;
  reported = λ t w. some-none refl w;
  ends = tt;
}

granted-exact : (n : Node) (s : State) → Fine n → (n.roll ≡ true → n.heard ≡ true) → n.wants ≡ Some s → EndsOnce (n.heard) (n.up) → Exact (record n { table = s; wants = None; down = Some s })
granted-exact n s f ready w once = record {
  idle = λ a b c d. some-none (f.idle d b).1 w;
  asking = λ a. true-false a (f.wanting s w).1;
  wanting = λ t v. some-none refl v;
  granted = λ t v. settled-same (n.up) s no-report (f.wanting s w).0 ∙ inside v;
  reported = λ t v. some-none refl v;
  ends = once;
}
  where
    inside : {a b : State} → Some a ≡ Some b → a ≡ b
    inside e = cc

    taken : n.taken ≡ true
    taken = elim (cases_Bool (n.taken)) [ inl was ↦ was | inr not-yet ↦ some-none (f.bare not-yet).2 w ]

    no-report : has_report (n.up) ≡ false
    no-report = elim (cases_Bool (n.roll)) [ inl roll ↦ f.heard (ready roll) | inr out ↦ true-false taken (f.outside out).1 ]

at-all : (P : Node → Type 0) (l : ℕ → Node) (k : ℕ) (n : Node) → P n → ((i : ℕ) → P (l i)) → (i : ℕ) → P (at l k n i)
at-all P l k n here there i = elim (cases_eq i k) [
  | inl e ↦ subst (λ (j : ℕ). P (at l k n j)) (sym e) (subst P (sym (at-here l k n)) here)
  | inr ne ↦ subst P (sym (at-away l k n i ne)) (there i)
]

step-exact : (l l' : ℕ → Node) → Step l l' → Sound l → ((i : ℕ) → Exact (l i)) → (i : ℕ) → Exact (l' i)
step-exact l _ (Moves k n move) sound all = at-all Exact l k n (move-exact (l k) n move (sound.fine k) (all k)) all
step-exact l _ Changes sound all = λ i. anew-exact (l i)
step-exact l _ (Grants k s ready runs wants goes_all) sound all =
    at-all Exact l k (record (l k) { table = s; wants = None; down = Some s }) (granted-exact (l k) s (sound.fine k) (ready k) wants (all k).ends) all

steps-exact : (l l' : ℕ → Node) → Steps l l' → Sound l → ((i : ℕ) → Exact (l i)) → (i : ℕ) → Exact (l' i)
steps-exact l _ Stays sound all = all
steps-exact l _ (AndThen m n before step) sound all = step-exact m n step (steps-sound l m before sound) (steps-exact l m before sound all)

starting-eff : (runs waits : Bool) → Un ≡ eff (starting runs waits)
starting-eff runs true = refl
starting-eff runs false = refl

starts-exact : (runs waits : Bool) → Exact (starting runs waits)
starts-exact runs waits = record {
  idle = λ a b c d. starting-eff runs waits;
  asking = λ a. true-false a refl;
  wanting = λ t w. some-none refl w;
  granted = λ t w. some-none refl w;
  reported = λ t w. some-none refl w;
  ends = tt;
}

-- ---- the parts

record Ends (lock : LockName) (q : Parts) : Type 0 where
  state : ℕ → Node
  sound : Sound state
  exact : (i : ℕ) → Exact (state i)
  tied : Tied lock q state

ends : (lock : LockName) (p q : Parts) → Begins lock p → Calls lock p q → Ends lock q
ends lock p q b calls =
    let r = list-steps lock p q b calls in
    let start : Sound (λ k. starting (r.0 k) (r.1 k)) = starts r.0 r.1 in
    record {
      state = r.2;
      sound = steps-sound (λ k. starting (r.0 k) (r.1 k)) r.2 r.3 start;
      exact = steps-exact (λ k. starting (r.0 k) (r.1 k)) r.2 r.3 start (λ i. starts-exact (r.0 i) (r.1 i));
      tied = r.4;
    }

-- who has lowered the lock wants nothing of it
wants-none : (n : Node) → Fine n → has_down (n.up) ≡ true → n.wants ≡ None
wants-none n f down = by (n.wants) refl
  where
    by : (o : Option State) → n.wants ≡ o → n.wants ≡ None
    by None e = e
    by (Some s) e = true-false down (f.wanting s e).0

-- where nobody converts, who has no request waits for nothing
waits-not : (t : LockState) (k : ℕ) → t.conversions ≡ [] → mode_of_node t.requests k ≡ None → is_waiting t k ≡ false
waits-not t k none e =
    ap (λ (cs : List Claim). is_some (mode_of_node cs k) || is_some (mode_of_node t.requests k)) none ∙ ap is_some e

pub tables-exact : TablesAreExact
tables-exact lock p q k b calls x member settled' taken none =
    let e = ends lock p q b calls in
    let f = (e.tied).nodes k x in
    let n : Node = e.state k in
    ap (λ (u : List Tell). told_last u ((sight lock q k).table)) f.up
    ∙ (ap (told_last (map tell_of (n.up))) f.table
    ∙ (settled-told (n.up) (n.table)
    ∙ (ap mode_for ((e.exact k).idle (sym f.member ∙ member) (sym f.fresh ∙ settled') (sym f.taken ∙ taken) (sym (f.asked member) ∙ ap is_some none)) ∙ sym (f.mode member))))

pub requests-find : RequestsFindNothing
requests-find lock p q k mode rest b calls x hand =
    let e = ends lock p q b calls in
    let f = (e.tied).nodes k x in
    let n : Node = e.state k in
    let c = first lock q (present q lock) q.post e.state k (Request lock mode) (ties.Asks mode) rest (tied-of lock q e.state e.tied) e.sound x hand (says-request lock mode) refl in
    let a = is-ask c.0 mode c.3 in
    let up : n.up ≡ Asked a.0 ∷ c.1 = c.2 ∙ ap (λ (m : machine.Message). m ∷ c.1) a.1 in
    let asks : has_ask (n.up) ≡ true = ap has_ask up in
    let order : machine.InOrder (Asked a.0 ∷ c.1) = subst machine.InOrder up ((e.sound).fine k).in_order in
    let nothing : settled (n.up) (n.table) ≡ Un = (e.exact k).asking asks in
    let table : n.table ≡ Un = sym (settled-same c.1 (n.table) order.0 order.1) ∙ (sym (ap (λ (u : List machine.Message). settled u (n.table)) up) ∙ nothing) in (
      null-none (present q lock).held k (e.tied).table.never_null (f.table ∙ ap mode_for table),
      waits-not (present q lock) k (e.tied).table.never_converted (f.wants ∙ ap (option_map mode_for) (((e.sound).fine k).asking asks).2),
    )

pub lowers-lower : LowersOnlyLower
lowers-lower lock p q k mode value rest b calls x hand =
    let e = ends lock p q b calls in
    let f = (e.tied).nodes k x in
    let n : Node = e.state k in
    let same = tied-of lock q e.state e.tied in
    let c = first lock q (present q lock) q.post e.state k (Down lock mode value) (ties.Lowers mode) rest same e.sound x hand (says-down lock mode value) refl in
    let a = is-down c.0 mode c.3 in
    let up : n.up ≡ Lowered a.0 ∷ c.1 = c.2 ∙ ap (λ (m : machine.Message). m ∷ c.1) a.1 in
    let taken : q.taken k ≡ true = has-taken lock q (present q lock) q.post e.state k (Down lock mode value) (ties.Lowers mode) rest same e.sound x hand (says-down lock mode value) refl in
    let ok : Ok (eff n) (n.down) (n.table) (Lowered a.0 ∷ c.1) = subst (Ok (eff n) (n.down) (n.table)) up (((e.sound).fine k).ok (sym f.taken ∙ taken)) in (
      ap (λ (t : Mode). is_at_least t mode) f.table ∙ (ap (is_at_least (mode_for (n.table))) a.2 ∙ (sym (cover-as-modes a.0 (n.table)) ∙ ok.0)),
      waits-not (present q lock) k (e.tied).table.never_converted (f.wants ∙ ap (option_map mode_for) (wants-none n ((e.sound).fine k) (ap has_down up))),
    )

-- of whom a report is under way the machine wants nothing
reports-want-none : (n : Node) → Exact n → has_report (n.up) ≡ true → n.wants ≡ None
reports-want-none n x report = by (n.wants) refl
  where
    by : (o : Option State) → n.wants ≡ o → n.wants ≡ None
    by None e = e
    by (Some s) e = true-false report (x.reported s e)

pub reports-find : ReportsFindARebuild
reports-find lock p q k mode value rest b calls x hand =
    let e = ends lock p q b calls in
    let f = (e.tied).nodes k x in
    let n : Node = e.state k in
    let fine : Fine n = (e.sound).fine k in
    let same = tied-of lock q e.state e.tied in
    let c = first lock q (present q lock) q.post e.state k (body.Report lock mode value) (ties.Reports mode) rest same e.sound x hand (says-report lock mode value) refl in
    let a = is-report c.0 mode c.3 in
    let up : n.up ≡ Report a.0 ∷ c.1 = c.2 ∙ ap (λ (m : machine.Message). m ∷ c.1) a.1 in
    let report : has_report (n.up) ≡ true = ap has_report up in
    let taken : q.taken k ≡ true = has-taken lock q (present q lock) q.post e.state k (body.Report lock mode value) (ties.Reports mode) rest same e.sound x hand (says-report lock mode value) refl in
    let roll : n.roll ≡ true = elim (cases_Bool (n.roll)) [ inl is ↦ is | inr out ↦ true-false (sym f.taken ∙ taken) (fine.outside out).1 ] in (
      elim (cases_Bool (q.table.master.rebuild)) [
        | inl is ↦ is
        | inr done ↦ true-false report (fine.heard (sym f.heard ∙ (e.tied).done done k x (f.roll ∙ roll)))
      ],
      waits-not (present q lock) k (e.tied).table.never_converted (f.wants ∙ ap (option_map mode_for) (reports-want-none n (e.exact k) report)),
    )

pub ends-find : EndsFindARebuild
ends-find lock p q k rest b calls x hand =
    let e = ends lock p q b calls in
    let f = (e.tied).nodes k x in
    let n : Node = e.state k in
    let fine : Fine n = (e.sound).fine k in
    let same = tied-of lock q e.state e.tied in
    let c = first lock q (present q lock) q.post e.state k body.End ties.Ends rest same e.sound x hand refl refl in
    let up : n.up ≡ End ∷ c.1 = c.2 ∙ ap (λ (m : machine.Message). m ∷ c.1) (is-end c.0 c.3) in
    let once : EndsOnce (n.heard) (End ∷ c.1) = subst (EndsOnce (n.heard)) up (e.exact k).ends in
    let taken : q.taken k ≡ true = has-taken lock q (present q lock) q.post e.state k body.End ties.Ends rest same e.sound x hand refl refl in
    let roll : n.roll ≡ true = elim (cases_Bool (n.roll)) [ inl is ↦ is | inr out ↦ true-false (sym f.taken ∙ taken) (fine.outside out).1 ] in
    elim (cases_Bool (q.table.master.rebuild)) [
      | inl is ↦ is
      | inr done ↦ true-false (sym f.heard ∙ (e.tied).done done k x (f.roll ∙ roll)) once.0
    ]

pub holders-ask-nothing : HoldersAskForNothing
holders-ask-nothing lock p q k b calls x member holds =
    let e = ends lock p q b calls in
    let f = (e.tied).nodes k x in
    by f ((e.sound).fine k) (wanted_in (q.holders k) lock) refl
  where
    by : {n : Node} → Fits (sight lock q k) n → Fine n → (o : Option Mode) → wanted_in (q.holders k) lock ≡ o → wanted_in (q.holders k) lock ≡ None
    by f fine None none = none
    by f fine (Some mode) some = absurd (holds (f.mode member ∙ ap mode_for (fine.asked (sym (f.asked member) ∙ ap is_some some))))
