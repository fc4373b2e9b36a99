-- Each event keeps what holds of the cluster, and is a list of the machine's steps.
use Rattle.std.proofs.Common.{ℕ, ◌≡◌, ◌<◌, ◌⊎◌, inl, inr, suc, Bool, true, false, ◌&&◌, None, Some, refl, sym, ap, ◌∙◌, subst, arith}
use Rattle.std.specs.Prelude.{not, ◌-◌}
use Rattle.std.proofs.lemmas.Bool.{cases_eq, cases_Bool, cond-true, cond-false}
use Rattle.cluster_laws.specs.Files.{Files, CellOf, Part, LockOf, Un, Ex}
use Rattle.cluster_laws.specs.Book.{at, taken, relocked}
use Rattle.cluster_laws.specs.Mirror.{Head, either}
use Rattle.cluster_laws.specs.Locks as book
use Rattle.cluster_laws.specs.World.{World, nothing, BeginsAt, Run, Stop, Goes}
use Rattle.cluster_laws.specs.World as world
use Rattle.cluster_laws.proofs.Cells.{split, inside, none-some, at-same, at-other, at-cases}
use Rattle.cluster_laws.proofs.Trying.{free_or_ours}
use Rattle.cluster_laws.proofs.Running.{step_keeps, every_run, sound_start}
use Rattle.lock_laws.specs.Lock.{Node, Holds, starting, Compatible}
use Rattle.lock_laws.specs.Lock as lock
use Rattle.lock_laws.proofs.Keeping.{alone, starts}
use Rattle.cluster_events.specs.Cluster.{Cluster, IsIdle, headers_after, unlost_after, worked, HeadersFlyAlone, acts, BookOf, Sends, Receives, Weakens, MayWork, with_book, restated, NothingUnder, stopped, freed, joined, Works, Mails, IsGranted, GoesDown, Stops, Fences, Views, Joins, Recovers, PastEnds, Events, Done, Then, Together, StartIsTogether, EventKeeps, EventIsSteps, EveryCluster}
use Rattle.cluster_events.proofs.Locking.{un-or-held, un-ex, makes-sound, makes-idle, sends-makes, sends-state, sends-waits, sends-member, receives-makes, receives-same, receives-other, receives-held, weakens-makes, weakens-same, weakens-other, weakens-ex, weakens-un}

true-false : {b : Bool} → b ≡ true → b ≡ false → ⊥
true-false e f = cc

pub waits-acts : (runs waits : Bool) → waits ≡ true → (runs && not waits) ≡ false
waits-acts true waits e = ap not e
waits-acts false waits e = refl

pub stopped-acts : (runs waits : Bool) → runs ≡ false → (runs && not waits) ≡ false
stopped-acts runs waits e = ap (λ b. b && not waits) e

acts-runs : (runs waits : Bool) → (runs && not waits) ≡ false → waits ≡ false → runs ≡ false
acts-runs true waits a w = sym (ap not w) ∙ a
acts-runs false waits a w = refl

-- ---- what a step of nodes, journals and disk does to those that don't act

module _ (F : Files) (c : Cluster F) (t : Together F c) where
  abbrev w : World F
  w = c.world

  abbrev IsQuiet : World F → ℕ → Type 0
  IsQuiet v i = ((v.book).published i ≡ (v.book).answered i) × ((b : ℕ) → (v.book).cache i b ≡ None)

  differ : (j i : ℕ) → acts F c j ≡ true → acts F c i ≡ false → i ≡ j → ⊥
  differ j i a idle e = true-false (subst (λ k. acts F c k ≡ true) (sym e) a) idle

  answering : (j i n : ℕ) (cache : Part F) → acts F c j ≡ true → acts F c i ≡ false
      → ((w.book).published i ≡ at ((w.book).answered) j n i) × ((b : ℕ) → at ((w.book).cache) j cache i b ≡ None)
  answering j i n cache a idle = let q = t.quiet i idle in (
    q.0 ∙ sym (at-other ((w.book).answered) j n i (differ j i a idle)),
    λ b. ap (λ f. f b) (at-other ((w.book).cache) j cache i (differ j i a idle)) ∙ q.1 b,
  )

  quiet-step : (v : World F) (step : world.Step F w v) → MayWork F c v step → (i : ℕ) → acts F c i ≡ false
      → ((v.book).published i ≡ (v.book).answered i) × ((b : ℕ) → (v.book).cache i b ≡ None)
  quiet-step _ (world.Answers j said view change cache no_sync a) may i idle = answering j i (suc ((w.book).answered j)) cache may idle
  quiet-step _ (world.Syncs j said does still calm) may i idle = answering j i (suc ((w.book).answered j)) ((w.book).cache j) may idle
  quiet-step _ (world.Publishes k some) may i idle = let q = t.quiet i idle in (
    at-other ((w.book).published) k _ i (λ e. (let less : (w.book).published i < (w.book).answered i = subst (λ z. (w.book).published z < (w.book).answered z) (sym e) some in let same = q.0 in absurd (omega arith))) ∙ q.0,
    q.1,
  )
  quiet-step _ (world.Begins k h single heads) may i idle = t.quiet i idle
  quiet-step _ (world.Ends k b) may i idle = t.quiet i idle
  quiet-step _ (world.Writes r b v k live) may i idle = t.quiet i idle
  quiet-step _ (world.Lands r x settles) may i idle = t.quiet i idle
  quiet-step _ (world.Settles k p all own one dead) may i idle = t.quiet i idle
  quiet-step _ (world.Lower k state cache lowers) may i idle = absurd may
  quiet-step _ (world.Grants k state raises) may i idle = absurd may
  quiet-step _ (world.Reads j b held) may i idle = let q = t.quiet i idle in
      (q.0, λ k. ap (λ f. f k) (at-other ((w.book).cache) j _ i (differ j i (may.0) idle)) ∙ q.1 k)
  quiet-step _ (world.Shrinks k cache forgets) may i idle = let q = t.quiet i idle in (
    q.0,
    λ b. elim (split (cache i b)) [
      | inl none ↦ none
      | inr some ↦ absurd (none-some (q.1 b) (had i b (some.0) (some.1)))
    ],
  )
    where
      had : (i b : ℕ) (x : CellOf F) → cache i b ≡ Some x → (w.book).cache i b ≡ Some x
      had i b x h = elim (cases_eq i k) [
        | inl e ↦ subst (λ i. cache i b ≡ Some x → (w.book).cache i b ≡ Some x) (sym e) (forgets.cached b x) h
        | inr ne ↦ sym (ap (λ f. f b) (forgets.others i ne)) ∙ h
      ]
  quiet-step _ (world.Loses k m all above below calm next none single) may i idle = t.quiet i idle

  flight-step : (v : World F) (step : world.Step F w v) → MayWork F c v step → (i b : ℕ) → c.runs i ≡ false → ((w.disk).flight i b ≡ None) → (v.disk).flight i b ≡ None
  flight-step _ (world.Answers j said view change cache no_sync a) may i b idle none = none
  flight-step _ (world.Syncs j said does still calm) may i b idle none = none
  flight-step _ (world.Publishes k some) may i b idle none = none
  flight-step _ (world.Begins k h single heads) may i b idle none = none
  flight-step _ (world.Ends k x) may i b idle none = none
  flight-step _ (world.Writes r x v k live) may i b idle none =
      ap (λ f. f b) (at-other ((w.disk).flight) r _ i (λ e. true-false (subst (λ z. c.runs z ≡ true) (sym e) (may.0).0) idle)) ∙ none
  flight-step _ (world.Lands r x settles) may i b idle none = at-cases (λ f. f b ≡ None) ((w.disk).flight) r (λ b. None) i (λ e. refl) (λ ne. none)
  flight-step _ (world.Settles k p all own one dead) may i b idle none = none
  flight-step _ (world.Lower k state cache lowers) may i b idle none = absurd may
  flight-step _ (world.Grants k state raises) may i b idle none = absurd may
  flight-step _ (world.Reads j x held) may i b idle none = none
  flight-step _ (world.Shrinks k cache forgets) may i b idle none = none
  flight-step _ (world.Loses k m all above below calm next empty single) may i b idle none = none

  pub state-step : (v : World F) (step : world.Step F w v) → MayWork F c v step → (v.book).state ≡ (w.book).state
  state-step _ (world.Answers j said view change cache no_sync a) may = refl
  state-step _ (world.Syncs j said does still calm) may = refl
  state-step _ (world.Publishes k some) may = refl
  state-step _ (world.Begins k h single heads) may = refl
  state-step _ (world.Ends k b) may = refl
  state-step _ (world.Writes r b v k live) may = refl
  state-step _ (world.Lands r x settles) may = refl
  state-step _ (world.Settles k p all own one dead) may = refl
  state-step _ (world.Lower k state cache lowers) may = absurd may
  state-step _ (world.Grants k state raises) may = absurd may
  state-step _ (world.Reads j b held) may = refl
  state-step _ (world.Shrinks k cache forgets) may = refl
  state-step _ (world.Loses k m all above below calm next none single) may = refl

  -- ---- who has what in flight

  -- what is in flight has an owner, and so has it after a change of another node
  flying-owner : (r b : ℕ) (v : F.Content) → (w.disk).flight r b ≡ Some v → (k : ℕ) × ((w.book).owner b ≡ Some k)
  flying-owner r b v f = let l = ((t.world).mirror).flights r b v f in (l.0, ((t.world).mirror).lives (l.0) false b v ((l.1) false))

  tried-owner : (j : ℕ) (change : Part F) → ((b : ℕ) (x : CellOf F) → change b ≡ Some x → ((w.book).owner b ≡ None) ⊎ ((w.book).owner b ≡ Some j))
      → (i r b : ℕ) (v : F.Content) → (w.disk).flight r b ≡ Some v → taken j (change b) ((w.book).owner b) ≡ Some i → (w.book).owner b ≡ Some i
  tried-owner j change ours i r b v f own = elim (split (change b)) [
    | inl none ↦ sym (ap (λ o. taken j o ((w.book).owner b)) none) ∙ own
    | inr some ↦ elim (ours b (some.0) (some.1)) [
      | inl nobody ↦ absurd (none-some nobody (flying-owner r b v f).1)
      | inr mine ↦ mine ∙ sym (ap (λ o. taken j o ((w.book).owner b)) (some.1)) ∙ own
    ]
  ]

  alone-step : (v : World F) (step : world.Step F w v) (may : MayWork F c v step) → HeadersFlyAlone F (worked F c v step may)
  alone-step _ (world.Answers j said view change cache no_sync a) may i r b u f own = t.alone i r b u f
      (tried-owner j change (free_or_ours F (w.book) ((t.world).whole) j said view change cache (a.sees) (a.does) (a.guards) (a.caches) (a.tells) (a.tracks)) i r b u f own)
  alone-step _ (world.Syncs j said does still calm) may i r b u f own = t.alone i r b u f own
  alone-step _ (world.Publishes k some) may i r b u f own = t.alone i r b u f own
  alone-step _ (world.Begins k h single heads) may i r b u f own = let was = t.alone i r b u f own in
      (at-other (c.header_of) k _ i (λ e. may.2 r b u f (subst (λ z. (w.book).owner b ≡ Some z) e own)) ∙ was.0, was.1)
  alone-step _ (world.Ends k d) may i r b u f own = let was = t.alone i r b u f own in
      (at-cases (λ z. z ≡ None) (c.header_of) k None i (λ e. refl) (λ ne. was.0), was.1)
  alone-step _ (world.Writes q y x k live) may i r b u f own = at-cases (λ g. g b ≡ Some u → (c.header_of i ≡ None) × ((r ≡ i) ⊎ (c.waits i ≡ true))) ((w.disk).flight) q
      (at ((w.disk).flight q) y (Some x)) r
      (λ e. at-cases (λ o. o ≡ Some u → (c.header_of i ≡ None) × ((r ≡ i) ⊎ (c.waits i ≡ true))) ((w.disk).flight q) y (Some x) b
      (λ same g. here e (inside (sym (((t.world).mirror).lives k false b x (subst (λ z. ((w.disk).heads k false).live z ≡ Some x) (sym same) (live false))) ∙ own)))
      (λ other g. t.alone i r b u (subst (λ z. (w.disk).flight z b ≡ Some u) (sym e) g) own))
      (λ ne g. t.alone i r b u g own) f
    where
      here : r ≡ q → k ≡ i → (c.header_of i ≡ None) × ((r ≡ i) ⊎ (c.waits i ≡ true))
      here e same = subst (λ z. (c.header_of z ≡ None) × ((r ≡ z) ⊎ (c.waits z ≡ true))) same
          (may.1, elim ((may.0).1) [ inl own ↦ inl (e ∙ own) | inr waits ↦ inr waits ])
  alone-step _ (world.Lands q x settles) may i r b u f own = t.alone i r b u
      (at-cases (λ g. g b ≡ Some u → (w.disk).flight r b ≡ Some u) ((w.disk).flight) q (λ b. None) r (λ e g. absurd (none-some refl g)) (λ ne g. g) f) own
  alone-step _ (world.Settles k p all mine untouched dead) may i r b u f own = t.alone i r b u f (elim (cases_Bool (p b)) [
    | inl e ↦ absurd (none-some (cond-true _ _ _ e) own)
    | inr e ↦ sym (cond-false _ _ _ e) ∙ own
  ])
  alone-step _ (world.Lower k state cache lowers) may i r b u f own = absurd may
  alone-step _ (world.Grants k state raises) may i r b u f own = absurd may
  alone-step _ (world.Reads j y held) may i r b u f own = t.alone i r b u f own
  alone-step _ (world.Shrinks j cache forgets) may i r b u f own = t.alone i r b u f own
  alone-step _ (world.Loses k m all above below calm next none single) may i r b u f own = t.alone i r b u f own

  headers-step : (v : World F) (step : world.Step F w v) (may : MayWork F c v step) → (i : ℕ) → headers_after F c v step may i ≡ None → (v.disk).heads i true ≡ (v.disk).heads i false
  headers-step _ (world.Answers j said view change cache no_sync a) may i none = t.headers i none
  headers-step _ (world.Syncs j said does still calm) may i none = t.headers i none
  headers-step _ (world.Publishes k some) may i none = t.headers i none
  headers-step _ (world.Begins k h single heads) may i none = elim (cases_eq i k) [
    | inl e ↦ absurd (none-some none (subst (λ z. at (c.header_of) k (Some ((may.0).0)) z ≡ Some ((may.0).0)) (sym e) (at-same (c.header_of) k _)))
    | inr ne ↦ subst (λ f. f true ≡ f false) (sym (at-other ((w.disk).heads) k _ i ne)) (t.headers i (sym (at-other (c.header_of) k _ i ne) ∙ none))
  ]
  headers-step _ (world.Ends k d) may i none = at-cases (λ f. f true ≡ f false) ((w.disk).heads) k (either ((w.disk).heads k d) ((w.disk).heads k d)) i (λ e. refl)
      (λ ne. t.headers i (sym (at-other (c.header_of) k _ i ne) ∙ none))
  headers-step _ (world.Writes r b v k live) may i none = t.headers i none
  headers-step _ (world.Lands r x settles) may i none = t.headers i none
  headers-step _ (world.Settles k p all own one dead) may i none = t.headers i none
  headers-step _ (world.Lower k state cache lowers) may i none = absurd may
  headers-step _ (world.Grants k state raises) may i none = absurd may
  headers-step _ (world.Reads j b held) may i none = t.headers i none
  headers-step _ (world.Shrinks k cache forgets) may i none = t.headers i none
  headers-step _ (world.Loses k m all above below calm next empty single) may i none =
      at-cases (λ f. f true ≡ f false) ((w.disk).heads) k (λ d. record { cut = (w.book).answered k; live = ((w.disk).heads k d).live }) i
      (λ e. ap (λ (z : Head F). record { cut = (w.book).answered k; live = z.live }) (t.headers k (subst (λ z. c.header_of z ≡ None) e none))) (λ ne. t.headers i none)

  writers-step : (v : World F) (step : world.Step F w v) (may : MayWork F c v step) → (i r : ℕ) → headers_after F c v step may i ≡ Some r → (r ≡ i) ⊎ (c.waits i ≡ true)
  writers-step _ (world.Answers j said view change cache no_sync a) may i r has = t.writers i r has
  writers-step _ (world.Syncs j said does still calm) may i r has = t.writers i r has
  writers-step _ (world.Publishes k some) may i r has = t.writers i r has
  writers-step _ (world.Begins k h single heads) may i r has = elim (cases_eq i k) [
    | inl e ↦ (let is : (may.0).0 ≡ r = inside (sym (subst (λ z. at (c.header_of) k (Some ((may.0).0)) z ≡ Some ((may.0).0)) (sym e) (at-same (c.header_of) k _)) ∙ has) in
        elim ((may.0).1).1 [ inl own ↦ inl (sym is ∙ own ∙ sym e) | inr waits ↦ inr (subst (λ z. c.waits z ≡ true) (sym e) waits) ])
    | inr ne ↦ t.writers i r (sym (at-other (c.header_of) k _ i ne) ∙ has)
  ]
  writers-step _ (world.Ends k d) may i r has = at-cases (λ z. z ≡ Some r → (r ≡ i) ⊎ (c.waits i ≡ true)) (c.header_of) k None i (λ e has. absurd (none-some refl has)) (λ ne has. t.writers i r has) has
  writers-step _ (world.Writes q b v k live) may i r has = t.writers i r has
  writers-step _ (world.Lands q x settles) may i r has = t.writers i r has
  writers-step _ (world.Settles k p all own one dead) may i r has = t.writers i r has
  writers-step _ (world.Lower k state cache lowers) may i r has = absurd may
  writers-step _ (world.Grants k state raises) may i r has = absurd may
  writers-step _ (world.Reads j b held) may i r has = t.writers i r has
  writers-step _ (world.Shrinks k cache forgets) may i r has = t.writers i r has
  writers-step _ (world.Loses k m all above below calm next none single) may i r has = t.writers i r has

  -- who has stopped begins no header
  unheaded-step : (v : World F) (step : world.Step F w v) (may : MayWork F c v step) → (i : ℕ) → c.runs i ≡ false → ((k : ℕ) → c.header_of k ≡ Some i → ⊥)
      → (k : ℕ) → headers_after F c v step may k ≡ Some i → ⊥
  unheaded-step _ (world.Answers j said view change cache no_sync a) may i idle none k has = none k has
  unheaded-step _ (world.Syncs j said does still calm) may i idle none k has = none k has
  unheaded-step _ (world.Publishes j some) may i idle none k has = none k has
  unheaded-step _ (world.Begins j h single heads) may i idle none k has = at-cases (λ z. z ≡ Some i → ⊥) (c.header_of) j (Some ((may.0).0)) k
      (λ e has. true-false (subst (λ z. c.runs z ≡ true) (inside has) (((may.0).1).0)) idle) (λ ne has. none k has) has
  unheaded-step _ (world.Ends j d) may i idle none k has = at-cases (λ z. z ≡ Some i → ⊥) (c.header_of) j None k (λ e has. none-some refl has) (λ ne has. none k has) has
  unheaded-step _ (world.Writes q b v j live) may i idle none k has = none k has
  unheaded-step _ (world.Lands q x settles) may i idle none k has = none k has
  unheaded-step _ (world.Settles j p all own one dead) may i idle none k has = none k has
  unheaded-step _ (world.Lower j state cache lowers) may i idle none k has = absurd may
  unheaded-step _ (world.Grants j state raises) may i idle none k has = absurd may
  unheaded-step _ (world.Reads j b held) may i idle none k has = none k has
  unheaded-step _ (world.Shrinks j cache forgets) may i idle none k has = none k has
  unheaded-step _ (world.Loses j m all above below calm next empty single) may i idle none k has = none k has

  -- the past has no life to lose
  lifeless-step : (v : World F) (step : world.Step F w v) → MayWork F c v step → unlost_after F c v step (c.past) ≡ 0
  lifeless-step _ (world.Loses k m all above below calm next none single) may =
      at-cases (λ z. z ≡ 0) (c.unlost) k (c.unlost k - 1) (c.past) (λ e. (let n : c.unlost k ≡ 0 = ap (c.unlost) (sym e) ∙ t.lifeless in omega (arith, n))) (λ ne. t.lifeless)
  lifeless-step _ (world.Answers j said view change cache no_sync a) may = t.lifeless
  lifeless-step _ (world.Syncs j said does still calm) may = t.lifeless
  lifeless-step _ (world.Publishes k some) may = t.lifeless
  lifeless-step _ (world.Begins k h single heads) may = t.lifeless
  lifeless-step _ (world.Ends k b) may = t.lifeless
  lifeless-step _ (world.Writes r b v k live) may = t.lifeless
  lifeless-step _ (world.Lands r x settles) may = t.lifeless
  lifeless-step _ (world.Settles k p all own one dead) may = t.lifeless
  lifeless-step _ (world.Lower k state cache lowers) may = t.lifeless
  lifeless-step _ (world.Grants k state raises) may = t.lifeless
  lifeless-step _ (world.Reads j b held) may = t.lifeless
  lifeless-step _ (world.Shrinks k cache forgets) may = t.lifeless

  pub works : (v : World F) (step : world.Step F w v) (may : MayWork F c v step) → Together F (worked F c v step may)
  works v step may = record {
    world = step_keeps F w v step (t.world);
    locks = t.locks;
    tied = λ i l ne. ap (λ f. f i l) (state-step v step may) ∙ t.tied i l ne;
    members = t.members;
    waiting = t.waiting;
    gone = t.gone;
    lifeless = lifeless-step v step may;
    idle = t.idle;
    ended = λ none l. ap (λ f. f (c.past) l) (state-step v step may) ∙ t.ended none l;
    quiet = quiet-step v step may;
    settled = λ i f. (let h = t.settled i f in (h.0, (λ b. flight-step v step may i b (h.0) ((h.1).0 b), unheaded-step v step may i (h.0) ((h.1).1))));
    headers = headers-step v step may;
    writers = writers-step v step may;
    alone = alone-step v step may;
  }

  pub mails : (locks : F.Lock → ℕ → Node) → ((l : F.Lock) → Sends (c.locks l) (locks l)) → Together F (record c { locks = locks })
  mails locks h = record {
    world = t.world;
    locks = λ l. makes-sound _ _ (sends-makes _ _ (h l)) (t.locks l);
    tied = λ i l ne. t.tied i l ne ∙ sym (sends-state _ _ (h l) i);
    members = λ i l. sends-member _ _ (h l) i ∙ t.members i l;
    waiting = λ i l. sends-waits _ _ (h l) i ∙ t.waiting i l;
    gone = t.gone;
    lifeless = t.lifeless;
    idle = λ wait l. makes-idle (c.past) _ _ (sends-makes _ _ (h l)) (sends-waits _ _ (h l) (c.past) ∙ t.waiting (c.past) l ∙ wait) (t.idle wait l);
    ended = t.ended;
    quiet = t.quiet;
    settled = t.settled;
    headers = t.headers;
    writers = t.writers;
    alone = t.alone;
  }

  pub views : Together F (record c { locks = λ l k. lock.anew (c.locks l k) })
  views = record {
    world = t.world;
    locks = λ l. makes-sound _ _ (inr lock.Changes) (t.locks l);
    tied = t.tied;
    members = t.members;
    waiting = t.waiting;
    gone = t.gone;
    lifeless = t.lifeless;
    idle = λ wait l i. ((t.idle wait l i).0, refl);
    ended = t.ended;
    quiet = t.quiet;
    settled = t.settled;
    headers = t.headers;
    writers = t.writers;
    alone = t.alone;
  }

  -- ---- a grant there is a grant here

  module _ (i : ℕ) (locks : F.Lock → ℕ → Node) (here : i ≡ c.past → ⊥) (h : (l : F.Lock) → Receives i (c.locks l) (locks l)) where
    sound' : (l : F.Lock) → lock.Sound (locks l)
    sound' l = makes-sound _ _ (receives-makes i _ _ (h l)) (t.locks l)

    waits' : (k : ℕ) (l : F.Lock) → (locks l k).waits ≡ c.waits k
    waits' k l = receives-same (λ n. n.waits) (λ n s. refl) i _ _ (h l) k ∙ t.waiting k l

    idle' : c.waits (c.past) ≡ true → (l : F.Lock) (k : ℕ) → ((locks l k).state ≡ Un) × ((locks l k).down ≡ None)
    idle' wait l = makes-idle (c.past) _ _ (receives-makes i _ _ (h l)) (waits' (c.past) l ∙ wait) (t.idle wait l)

    now : (l : F.Lock) → restated F c i locks i l ≡ (locks l i).state
    now l = ap (λ f. f l) (at-same ((BookOf F c).state) i _)

    other : (j : ℕ) (l : F.Lock) → (j ≡ i → ⊥) → (j ≡ c.past → ⊥) → (BookOf F c).state j l ≡ (locks l j).state
    other j l ne out = t.tied j l out ∙ sym (receives-other i _ _ (h l) j ne)

    exclusive : (j k : ℕ) (l : F.Lock) → (j ≡ k → ⊥) → (locks l j).state ≡ Ex → (locks l k).state ≡ Un
    exclusive j k l ne ex = elim (un-or-held ((locks l k).state)) [ inl un ↦ un | inr held ↦ absurd (ne (alone (locks l) j k (sound' l) ex held)) ]

    goes-running : (j : ℕ) (l : F.Lock) → (j ≡ i → ⊥) → (j ≡ c.past → ⊥)
        → (restated F c i locks i l ≡ Ex → (BookOf F c).state j l ≡ Un) × ((BookOf F c).state j l ≡ Ex → restated F c i locks i l ≡ Un)
    goes-running j l ne out = (
      λ ex. other j l ne out ∙ exclusive i j l (λ e. ne (sym e)) (sym (now l) ∙ ex),
      λ ex. now l ∙ exclusive j i l ne (sym (other j l ne out) ∙ ex),
    )

    goes-past : (l : F.Lock) → (restated F c i locks i l ≡ Ex → (BookOf F c).state (c.past) l ≡ Un) × ((BookOf F c).state (c.past) l ≡ Ex → restated F c i locks i l ≡ Un)
    goes-past l = elim (cases_Bool (c.waits (c.past))) [
      | inl wait ↦ (λ ex. absurd (un-ex (idle' wait l i).0 (sym (now l) ∙ ex)), λ ex. now l ∙ (idle' wait l i).0)
      | inr over ↦ (λ ex. t.ended over l, λ ex. absurd (un-ex (t.ended over l) ex))
    ]

    raises : book.Raises F (BookOf F c) i (restated F c i locks)
    raises = record {
      others = λ j ne. at-other ((BookOf F c).state) i _ j ne;
      stays = λ l held. now l ∙ receives-held i _ _ (h l) (t.locks l) (λ un. held (t.tied i l here ∙ un)) ∙ sym (t.tied i l here);
      goes = λ j l ne. elim (cases_eq j (c.past)) [
        | inl e ↦ subst (λ j. (restated F c i locks i l ≡ Ex → (BookOf F c).state j l ≡ Un) × ((BookOf F c).state j l ≡ Ex → restated F c i locks i l ≡ Un)) (sym e) (goes-past l)
        | inr out ↦ goes-running j l ne out
      ];
    }

    abbrev After : World F
    After = with_book F c (relocked F (BookOf F c) (restated F c i locks) ((BookOf F c).cache))

    pub grant : world.Step F w After
    grant = world.Grants i (restated F c i locks) raises

    pub is_granted : Together F (record c { world = After; locks = locks })
    is_granted = record {
      world = step_keeps F w After grant (t.world);
      locks = sound';
      tied = λ j l out. elim (cases_eq j i) [
        | inl e ↦ subst (λ j. restated F c i locks j l ≡ (locks l j).state) (sym e) (now l)
        | inr ne ↦ ap (λ f. f l) (at-other ((BookOf F c).state) i _ j ne) ∙ other j l ne out
      ];
      members = λ k l. receives-same (λ n. n.member) (λ n s. refl) i _ _ (h l) k ∙ t.members k l;
      waiting = waits';
      gone = t.gone;
      lifeless = t.lifeless;
      idle = idle';
      ended = λ over l. ap (λ f. f l) (at-other ((BookOf F c).state) i _ (c.past) (λ e. here (sym e))) ∙ t.ended over l;
      quiet = t.quiet;
      settled = t.settled;
      headers = t.headers;
      writers = t.writers;
      alone = t.alone;
    }

  -- ---- a state that goes down there goes down here

  module _ (i : ℕ) (locks : F.Lock → ℕ → Node) (cache : Part F) (here : i ≡ c.past → ⊥) (h : (l : F.Lock) → Weakens i (c.locks l) (locks l))
      (all : (BookOf F c).published i ≡ (BookOf F c).answered i)
      (clean : (l : F.Lock) → (c.locks l i).state ≡ Ex → ((locks l i).state ≡ Ex) ⊎ NothingUnder F (BookOf F c) i l)
      (cached : (b : ℕ) (x : CellOf F) → cache b ≡ Some x → ((BookOf F c).cache i b ≡ Some x) × ((locks (LockOf F x) i).state ≡ Un → ⊥)) where
    down-waits : (k : ℕ) (l : F.Lock) → (locks l k).waits ≡ c.waits k
    down-waits k l = weakens-same (λ n. n.waits) (λ n m a b. b) i _ _ (h l) k ∙ t.waiting k l

    down-now : (l : F.Lock) → restated F c i locks i l ≡ (locks l i).state
    down-now l = ap (λ f. f l) (at-same ((BookOf F c).state) i _)

    lowers : book.Lowers F (BookOf F c) i (restated F c i locks) (at ((BookOf F c).cache) i cache)
    lowers = record {
      others = λ j ne. (at-other ((BookOf F c).state) i _ j ne, at-other ((BookOf F c).cache) i cache j ne);
      all_published = all;
      clean = λ l ex. elim (clean l (sym (t.tied i l here) ∙ ex)) [ inl still ↦ inl (down-now l ∙ still) | inr none ↦ inr none ];
      weaker = λ l. (
        λ ex. t.tied i l here ∙ weakens-ex i _ _ (h l) (sym (down-now l) ∙ ex),
        λ un. down-now l ∙ weakens-un i _ _ (h l) (sym (t.tied i l here) ∙ un),
      );
      cached = λ b x e. (let k = cached b x (sym (ap (λ f. f b) (at-same ((BookOf F c).cache) i cache)) ∙ e) in (k.0, λ un. k.1 (sym (down-now (LockOf F x)) ∙ un)));
    }

    abbrev Below : World F
    Below = with_book F c (relocked F (BookOf F c) (restated F c i locks) (at ((BookOf F c).cache) i cache))

    pub lower : world.Step F w Below
    lower = world.Lower i (restated F c i locks) (at ((BookOf F c).cache) i cache) lowers

    pub goes_down : Together F (record c { world = Below; locks = locks })
    goes_down = record {
      world = step_keeps F w Below lower (t.world);
      locks = λ l. makes-sound _ _ (weakens-makes i _ _ (h l)) (t.locks l);
      tied = λ j l out. elim (cases_eq j i) [
        | inl e ↦ subst (λ j. restated F c i locks j l ≡ (locks l j).state) (sym e) (down-now l)
        | inr ne ↦ ap (λ f. f l) (at-other ((BookOf F c).state) i _ j ne) ∙ t.tied j l out ∙ sym (weakens-other i _ _ (h l) j ne)
      ];
      members = λ k l. weakens-same (λ n. n.member) (λ n m a b. a) i _ _ (h l) k ∙ t.members k l;
      waiting = down-waits;
      gone = t.gone;
      lifeless = t.lifeless;
      idle = λ wait l. makes-idle (c.past) _ _ (weakens-makes i _ _ (h l)) (down-waits (c.past) l ∙ wait) (t.idle wait l);
      ended = λ over l. ap (λ f. f l) (at-other ((BookOf F c).state) i _ (c.past) (λ e. here (sym e))) ∙ t.ended over l;
      quiet = λ k idle. (let q = t.quiet k idle in (
        q.0,
        λ b. at-cases (λ f. f b ≡ None) ((BookOf F c).cache) i cache k
            (λ e. elim (split (cache b)) [
              | inl none ↦ none
              | inr some ↦ absurd (none-some (q.1 b) (subst (λ z. (BookOf F c).cache z b ≡ Some (some.0)) (sym e) (cached b (some.0) (some.1)).0))
            ])
            (λ ne. q.1 b),
      ));
      settled = t.settled;
      headers = t.headers;
      writers = t.writers;
      alone = t.alone;
    }

  -- ---- stops, fences, joins

  module _ (i : ℕ) (here : i ≡ c.past → ⊥) where
    abbrev Uncached : World F
    Uncached = with_book F c (relocked F (BookOf F c) ((BookOf F c).state) (at ((BookOf F c).cache) i (nothing F)))

    pub shrink : world.Step F w Uncached
    shrink = world.Shrinks i (at ((BookOf F c).cache) i (nothing F)) (record {
      others = λ j ne. at-other ((BookOf F c).cache) i _ j ne;
      cached = λ b x e. absurd (none-some (ap (λ f. f b) (at-same ((BookOf F c).cache) i (nothing F))) e);
    })

    pub stops : (BookOf F c).published i ≡ (BookOf F c).answered i
        → Together F (record c { world = Uncached; locks = λ l. at (c.locks l) i (stopped (c.locks l i)); runs = at (c.runs) i false; waits = at (c.waits) i true; fenced = at (c.fenced) i false; unlost = at (c.unlost) i (suc (c.unlost i)) })
    stops all = record {
      world = step_keeps F w Uncached shrink (t.world);
      locks = λ l. makes-sound _ _ (inr (lock.Moves i _ lock.Stops)) (t.locks l);
      tied = λ j l out. t.tied j l out ∙ at-cases (λ n. (c.locks l j).state ≡ n.state) (c.locks l) i (stopped (c.locks l i)) j (λ e. ap (λ z. (c.locks l z).state) e) (λ ne. refl);
      members = λ j l. at-both (λ n m. n.member ≡ m) (c.locks l) (stopped (c.locks l i)) (c.runs) false j refl (t.members j l);
      waiting = λ j l. at-both (λ n m. n.waits ≡ m) (c.locks l) (stopped (c.locks l i)) (c.waits) true j refl (t.waiting j l);
      gone = at-cases (λ z. z ≡ false) (c.runs) i false (c.past) (λ e. refl) (λ ne. t.gone);
      lifeless = at-other (c.unlost) i (suc (c.unlost i)) (c.past) (λ e. here (sym e)) ∙ t.lifeless;
      idle = λ wait l k. (let q = t.idle (sym (at-other (c.waits) i true (c.past) (λ e. here (sym e))) ∙ wait) l in
          at-cases (λ n. (n.state ≡ Un) × (n.down ≡ None)) (c.locks l) i (stopped (c.locks l i)) k (λ e. q i) (λ ne. q k));
      ended = λ over l. t.ended (sym (at-other (c.waits) i true (c.past) (λ e. here (sym e))) ∙ over) l;
      quiet = λ k idle. elim (cases_eq k i) [
        | inl e ↦ (
          subst (λ k. (BookOf F c).published k ≡ (BookOf F c).answered k) (sym e) all,
          λ b. at-cases (λ f. f b ≡ None) ((BookOf F c).cache) i (nothing F) k (λ e. refl) (λ ne. absurd (ne e)),
        )
        | inr ne ↦ (let q = t.quiet k (sym (still k ne) ∙ idle) in
            (q.0, λ b. ap (λ f. f b) (at-other ((BookOf F c).cache) i (nothing F) k ne) ∙ q.1 b))
      ];
      settled = λ k f. elim (cases_eq k i) [
        | inl e ↦ absurd (true-false f (subst (λ k. at (c.fenced) i false k ≡ false) (sym e) (at-same (c.fenced) i false)))
        | inr ne ↦ (let h = t.settled k (sym (at-other (c.fenced) i false k ne) ∙ f) in (at-other (c.runs) i false k ne ∙ h.0, h.1))
      ];
      headers = t.headers;
      writers = λ k r has. elim (t.writers k r has) [ inl own ↦ inl own | inr waits ↦ inr (waits-on k waits) ];
      alone = λ k r b v f own. (let was = t.alone k r b v f own in (was.0, elim (was.1) [ inl own ↦ inl own | inr waits ↦ inr (waits-on k waits) ]));
    }
      where
        waits-on : (k : ℕ) → c.waits k ≡ true → at (c.waits) i true k ≡ true
        waits-on k waits = at-cases (λ z. z ≡ true) (c.waits) i true k (λ e. refl) (λ ne. waits)

        still : (k : ℕ) → (k ≡ i → ⊥) → (at (c.runs) i false k && not (at (c.waits) i true k)) ≡ acts F c k
        still k ne = ap (λ b. b && not (at (c.waits) i true k)) (at-other (c.runs) i false k ne) ∙ ap (λ b. c.runs k && not b) (at-other (c.waits) i true k ne)

        at-both : {A B : Type 0} (P : A → B → Type 0) (f : ℕ → A) (x : A) (g : ℕ → B) (y : B) (k : ℕ) → P x y → P (f k) (g k) → P (at f i x k) (at g i y k)
        at-both P f x g y k here there = elim (cases_eq k i) [
          | inl e ↦ subst (λ k. P (at f i x k) (at g i y k)) (sym e) (subst (λ z. P z (at g i y i)) (sym (at-same f i x)) (subst (λ z. P x z) (sym (at-same g i y)) here))
          | inr ne ↦ subst (λ z. P z (at g i y k)) (sym (at-other f i x k ne)) (subst (λ z. P (f k) z) (sym (at-other g i y k ne)) there)
        ]

  pub fences : (i : ℕ) → c.runs i ≡ false → IsIdle F c i → Together F (record c { fenced = at (c.fenced) i true })
  fences i out none = record {
    world = t.world;
    locks = t.locks;
    tied = t.tied;
    members = t.members;
    waiting = t.waiting;
    gone = t.gone;
    lifeless = t.lifeless;
    idle = t.idle;
    ended = t.ended;
    quiet = t.quiet;
    settled = λ k f. elim (cases_eq k i) [
      | inl e ↦ subst (λ k. (c.runs k ≡ false) × IsIdle F c k) (sym e) (out, none)
      | inr ne ↦ t.settled k (sym (at-other (c.fenced) i true k ne) ∙ f)
    ];
    headers = t.headers;
    writers = t.writers;
    alone = t.alone;
  }

  module _ (i : ℕ) (here : i ≡ c.past → ⊥) (out : c.runs i ≡ false) where
    pub joins : Together F (record c { locks = λ l. at (c.locks l) i (joined (c.locks l i)); runs = at (c.runs) i true; fenced = at (c.fenced) i false })
    joins = record {
      world = t.world;
      locks = λ l. makes-sound _ _ (inr (lock.Moves i _ (lock.Joins (t.members i l ∙ out)))) (t.locks l);
      tied = λ j l ne. t.tied j l ne ∙ at-cases (λ n. (c.locks l j).state ≡ n.state) (c.locks l) i (joined (c.locks l i)) j (λ e. ap (λ z. (c.locks l z).state) e) (λ ne. refl);
      members = λ j l. elim (cases_eq j i) [
        | inl e ↦ subst (λ j. (at (c.locks l) i (joined (c.locks l i)) j).member ≡ at (c.runs) i true j) (sym e)
            (ap (λ (n : Node). n.member) (at-same (c.locks l) i (joined (c.locks l i))) ∙ sym (at-same (c.runs) i true))
        | inr ne ↦ ap (λ (n : Node). n.member) (at-other (c.locks l) i (joined (c.locks l i)) j ne) ∙ t.members j l ∙ sym (at-other (c.runs) i true j ne)
      ];
      waiting = λ j l. at-cases (λ n. n.waits ≡ c.waits j) (c.locks l) i (joined (c.locks l i)) j (λ e. ap (λ z. (c.locks l z).waits) (sym e) ∙ t.waiting j l) (λ ne. t.waiting j l);
      gone = at-other (c.runs) i true (c.past) (λ e. here (sym e)) ∙ t.gone;
      lifeless = t.lifeless;
      idle = λ wait l k. (let q = t.idle wait l in
          at-cases (λ n. (n.state ≡ Un) × (n.down ≡ None)) (c.locks l) i (joined (c.locks l i)) k (λ e. q i) (λ ne. q k));
      ended = t.ended;
      quiet = λ k idle. elim (cases_eq k i) [
        | inl e ↦ subst (λ k. ((BookOf F c).published k ≡ (BookOf F c).answered k) × ((b : ℕ) → (BookOf F c).cache k b ≡ None)) (sym e)
            (t.quiet i (stopped-acts (c.runs i) (c.waits i) out))
        | inr ne ↦ t.quiet k (ap (λ b. b && not (c.waits k)) (sym (at-other (c.runs) i true k ne)) ∙ idle)
      ];
      settled = λ k f. elim (cases_eq k i) [
        | inl e ↦ absurd (true-false f (subst (λ k. at (c.fenced) i false k ≡ false) (sym e) (at-same (c.fenced) i false)))
        | inr ne ↦ (let h = t.settled k (sym (at-other (c.fenced) i false k ne) ∙ f) in (at-other (c.runs) i true k ne ∙ h.0, h.1))
      ];
      headers = t.headers;
      writers = t.writers;
      alone = t.alone;
    }

  -- ---- the locks of a node that doesn't act end

  module _ (i : ℕ) (idle : acts F c i ≡ false) (nothing_left : (b : ℕ) → (BookOf F c).owner b ≡ Some i → ⊥) where
    abbrev Ended : World F
    Ended = with_book F c (relocked F (BookOf F c) (at ((BookOf F c).state) i (λ l. Un)) ((BookOf F c).cache))

    un-now : (l : F.Lock) → at ((BookOf F c).state) i (λ l. Un) i l ≡ Un
    un-now l = ap (λ f. f l) (at-same ((BookOf F c).state) i (λ l. Un))

    pub end : world.Step F w Ended
    end = world.Lower i (at ((BookOf F c).state) i (λ l. Un)) ((BookOf F c).cache) (record {
      others = λ j ne. (at-other ((BookOf F c).state) i _ j ne, refl);
      all_published = (t.quiet i idle).0;
      clean = λ l ex. inr (λ k b own low high e. nothing_left b own);
      weaker = λ l. (λ ex. absurd (un-ex (un-now l) ex), λ un. un-now l);
      cached = λ b x e. absurd (none-some ((t.quiet i idle).1 b) e);
    })

    module _ (wait : c.waits i ≡ true) (unheaded : c.header_of i ≡ None) where
      waits-other : (k : ℕ) → at (c.waits) i false k ≡ false → (k ≡ i → ⊥) → c.waits k ≡ false
      waits-other k e ne = sym (at-other (c.waits) i false k ne) ∙ e

      pub frees : Together F (record c { world = Ended; locks = λ l. at (c.locks l) i (freed (c.locks l i)); waits = at (c.waits) i false })
      frees = record {
        world = step_keeps F w Ended end (t.world);
        locks = λ l. makes-sound _ _ (inr (lock.Moves i _ (lock.IsRecovered (t.waiting i l ∙ wait)))) (t.locks l);
        tied = λ j l out. elim (cases_eq j i) [
          | inl e ↦ subst (λ j. at ((BookOf F c).state) i (λ l. Un) j l ≡ (at (c.locks l) i (freed (c.locks l i)) j).state) (sym e)
              (un-now l ∙ sym (ap (λ (n : Node). n.state) (at-same (c.locks l) i (freed (c.locks l i)))))
          | inr ne ↦ ap (λ f. f l) (at-other ((BookOf F c).state) i _ j ne) ∙ t.tied j l out
              ∙ sym (ap (λ (n : Node). n.state) (at-other (c.locks l) i (freed (c.locks l i)) j ne))
        ];
        members = λ j l. at-cases (λ n. n.member ≡ c.runs j) (c.locks l) i (freed (c.locks l i)) j (λ e. ap (λ z. (c.locks l z).member) (sym e) ∙ t.members j l) (λ ne. t.members j l);
        waiting = λ j l. elim (cases_eq j i) [
          | inl e ↦ subst (λ j. (at (c.locks l) i (freed (c.locks l i)) j).waits ≡ at (c.waits) i false j) (sym e)
              (ap (λ (n : Node). n.waits) (at-same (c.locks l) i (freed (c.locks l i))) ∙ sym (at-same (c.waits) i false))
          | inr ne ↦ ap (λ (n : Node). n.waits) (at-other (c.locks l) i (freed (c.locks l i)) j ne) ∙ t.waiting j l ∙ sym (at-other (c.waits) i false j ne)
        ];
        gone = t.gone;
        lifeless = t.lifeless;
        idle = λ past l k. elim (cases_eq (c.past) i) [
          | inl e ↦ absurd (true-false past (subst (λ z. at (c.waits) i false z ≡ false) (sym e) (at-same (c.waits) i false)))
          | inr ne ↦ (let q = t.idle (sym (at-other (c.waits) i false (c.past) ne) ∙ past) l in
              at-cases (λ n. (n.state ≡ Un) × (n.down ≡ None)) (c.locks l) i (freed (c.locks l i)) k (λ e. (refl, (q i).1)) (λ ne. q k))
        ];
        ended = λ over l. elim (cases_eq (c.past) i) [
          | inl e ↦ subst (λ z. at ((BookOf F c).state) i (λ l. Un) z l ≡ Un) (sym e) (un-now l)
          | inr ne ↦ ap (λ f. f l) (at-other ((BookOf F c).state) i _ (c.past) ne) ∙ t.ended (waits-other (c.past) over ne) l
        ];
        quiet = λ k q. elim (cases_eq k i) [
          | inl e ↦ subst (λ k. ((BookOf F c).published k ≡ (BookOf F c).answered k) × ((b : ℕ) → (BookOf F c).cache k b ≡ None)) (sym e) (t.quiet i idle)
          | inr ne ↦ t.quiet k (ap (λ b. c.runs k && not b) (sym (at-other (c.waits) i false k ne)) ∙ q)
        ];
        settled = t.settled;
        headers = t.headers;
        writers = λ k r has. elim (t.writers k r has) [
          | inl own ↦ inl own
          | inr waits ↦ inr (at-other (c.waits) i false k (λ e. none-some unheaded (subst (λ z. c.header_of z ≡ Some r) e has)) ∙ waits)
        ];
        alone = λ k r b v f own. (let was = t.alone k r b v f own in (
          was.0,
          elim (was.1) [
            | inl own ↦ inl own
            | inr waits ↦ inr (at-other (c.waits) i false k (λ e. nothing_left b (subst (λ z. (BookOf F c).owner b ≡ Some z) e own)) ∙ waits)
          ],
        ));
      }

-- ---- events

pub event_keeps : (F : Files) → EventKeeps F
event_keeps F c _ (Works w step may) t = works F c t w step may
event_keeps F c _ (Mails locks h) t = mails F c t locks h
event_keeps F c _ (IsGranted i locks here none h) t = is_granted F c t i locks here h
event_keeps F c _ (GoesDown i locks cache here h all clean cached) t = goes_down F c t i locks cache here h all clean cached
event_keeps F c _ (Stops i here runs all) t = stops F c t i here all
event_keeps F c _ (Fences i out unfenced none) t = fences F c t i out none
event_keeps F c _ Views t = views F c t
event_keeps F c _ (Joins i here out fenced waits) t = joins F c t i here out
event_keeps F c _ (Recovers i here wait nothing_left unheaded told) t = frees F c t i (waits-acts (c.runs i) (c.waits i) wait) nothing_left wait unheaded
event_keeps F c _ (PastEnds wait nothing_left unheaded) t = frees F c t (c.past) (waits-acts (c.runs (c.past)) (c.waits (c.past)) wait) nothing_left wait unheaded

abbrev once : (F : Files) (u v : World F) → world.Step F u v → Run F u v
once F u v step = Goes u v v step (Stop v)

pub event_is_steps : (F : Files) → EventIsSteps F
event_is_steps F c _ (Works w step may) t = once F (c.world) w step
event_is_steps F c _ (Mails locks h) t = Stop (c.world)
event_is_steps F c _ (IsGranted i locks here none h) t = once F (c.world) _ (grant F c t i locks here h)
event_is_steps F c _ (GoesDown i locks cache here h all clean cached) t = once F (c.world) _ (lower F c t i locks cache here h all clean cached)
event_is_steps F c _ (Stops i here runs all) t = once F (c.world) _ (shrink F c t i here)
event_is_steps F c _ (Fences i out unfenced none) t = Stop (c.world)
event_is_steps F c _ Views t = Stop (c.world)
event_is_steps F c _ (Joins i here out fenced waits) t = Stop (c.world)
event_is_steps F c _ (Recovers i here wait nothing_left unheaded told) t = once F (c.world) _ (end F c t i (waits-acts (c.runs i) (c.waits i) wait) nothing_left)
event_is_steps F c _ (PastEnds wait nothing_left unheaded) t = once F (c.world) _ (end F c t (c.past) (waits-acts (c.runs (c.past)) (c.waits (c.past)) wait) nothing_left)

pub run-append : (F : Files) (u v w : World F) → Run F u v → Run F v w → Run F u w
run-append F u _ w (Stop _) r = r
run-append F u v w (Goes _ m _ step run) r = Goes u m w step (run-append F m v w run r)

pub events_keep : (F : Files) (a c : Cluster F) → Events F a c → Together F a → Together F c
events_keep F a _ (Done _) t = t
events_keep F a c (Then _ b _ event events) t = events_keep F b c events (event_keeps F a b event t)

pub events_are_steps : (F : Files) (a c : Cluster F) → Events F a c → Together F a → Run F (a.world) (c.world)
events_are_steps F a _ (Done _) t = Stop (a.world)
events_are_steps F a c (Then _ b _ event events) t =
    run-append F (a.world) (b.world) (c.world) (event_is_steps F a b event t) (events_are_steps F b c events (event_keeps F a b event t))

-- ---- the start

pub starts_together : (F : Files) → StartIsTogether F
starts_together F c s = record {
  world = sound_start F (c.world) (s.world);
  locks = λ l. subst (λ z. lock.Sound z) (λ k i. sym (s.locks l i) k) (starts (c.runs) (c.waits));
  tied = λ i l out. s.unheld i l out ∙ sym (ap (λ (n : Node). n.state) (s.locks l i));
  members = λ i l. ap (λ (n : Node). n.member) (s.locks l i);
  waiting = λ i l. ap (λ (n : Node). n.waits) (s.locks l i);
  gone = s.gone;
  lifeless = s.unlost (c.past);
  idle = λ wait l i. (ap (λ (n : Node). n.state) (s.locks l i), ap (λ (n : Node). n.down) (s.locks l i));
  ended = s.clean;
  quiet = λ i idle. (let n = (s.world).numbers i in (n.1 ∙ sym (n.2), λ b. (s.world).uncached i b));
  settled = λ i f. absurd (true-false f (s.fenced i));
  headers = λ i none. (s.headers i).1;
  writers = λ i r has. absurd (none-some (s.headers i).0 has);
  alone = λ i r b v f own. absurd (none-some (s.resting r b) f);
}

pub every_cluster : (F : Files) → EveryCluster F
every_cluster F a c s events =
    let t0 = starts_together F a s in
    let t = events_keep F a c events t0 in
    (t, every_run F (a.world) (c.world) (s.world) (events_are_steps F a c events t0), λ l i k ne. (((t.locks l).apart i k ne) _ _ Holds Holds))
