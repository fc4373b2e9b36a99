-- A slot is recovered, as a list of events.
use Rattle.std.proofs.Common.{ℕ, zero, suc, ◌+◌, ◌-◌, ◌≡◌, ◌≤◌, ◌<◌, ◌⊎◌, inl, inr, Bool, true, false, ◌&&◌, None, Some, refl, sym, ap, ◌∙◌, subst, arith}
use Rattle.std.specs.Prelude.{not}
use Rattle.std.proofs.lemmas.Bool.{cases_eq, cases_Bool, cond-true, cond-false}
use Rattle.cluster_laws.specs.Files.{Files, LockOf}
use Rattle.cluster_laws.specs.Book.{at, Book, settled, lost}
use Rattle.cluster_laws.specs.Mirror.{Head, renumbered}
use Rattle.cluster_laws.specs.Log.{Calm}
use Rattle.cluster_laws.specs.World.{World, Loses, Settles}
use Rattle.cluster_laws.specs.World as world
use Rattle.cluster_laws.proofs.Cells.{none-some, ex-held, at-same, at-other}
use Rattle.cluster_laws.proofs.Ringing.{ring_goes_over}
use Rattle.cluster_laws.proofs.Logging.{owned_by, owned_by-true, owned_by-false, given_back, given, stays}
use Rattle.cluster_events.specs.Cluster.{Cluster, BookOf, acts, MayWork, Event, Events, Works, Mails, IsGranted, GoesDown, Stops, Fences, Views, Joins, Recovers, PastEnds, Done, Then, Together}
use Rattle.cluster_events.proofs.Eventing.{event_keeps, events_keep, starts_together}
use Rattle.event_lists.proofs.Stopping.{events-append}
use Rattle.event_lists.specs.Stops.{with_world, after_loss, KeptIsFound, LossIsEvents, RecoveryIsEvents, PastIsSilent, StartRecoveryIsEvents, PastIsEvents}

waits-acts : (runs waits : Bool) → waits ≡ true → (runs && not waits) ≡ false
waits-acts true waits e = ap not e
waits-acts false waits e = refl

module _ (F : Files) where
  -- ---- the number that the loss keeps

  find : (B : Book F) (i d lo : ℕ) → lo + d ≡ B.answered i
      → (k : ℕ) × (lo ≤ k) × (k ≤ B.answered i) × Calm F B i lo k × ((k ≡ B.answered i) ⊎ (F.Changes (B.told i (suc k)) ≡ true))
  find B i zero lo e = (lo, omega arith, omega (arith, e), (λ n low high. absurd (omega arith)), inl (omega (arith, e)))
  find B i (suc d) lo e = elim (cases_Bool (F.Changes (B.told i (suc lo)))) [
    | inl changes ↦ (lo, omega arith, omega (arith, e), (λ n low high. absurd (omega arith)), inr changes)
    | inr calm ↦ (let r = find B i d (suc lo) (omega (arith, e)) in let p = r.1 in (
      r.0,
      omega arith,
      r.2,
      (λ n low high. elim (cases_eq n lo) [
        | inl same ↦ subst (λ m. F.Changes (B.told i (suc m)) ≡ false) (sym same) calm
        | inr other ↦ r.3 n (omega arith) high
      ]),
      r.4,
    ))
  ]

  pub kept_found : KeptIsFound F
  kept_found c i t =
      let p = ((t.world).whole).low_published i in let q = ((t.world).whole).published_answered i in
      let r = find (BookOf F c) i ((BookOf F c).answered i - (BookOf F c).low i) ((BookOf F c).low i) (omega arith) in
      (r.0, record { above = r.1; below = r.2; calm = r.3; next = r.4 })

  -- ---- a slot whose life ended in this run

  abbrev its : Book F → ℕ → ℕ → Bool
  its B i b = owned_by (B.owner b) i

  its-none : (B : Book F) (i b : ℕ) → (settled F B i (its B i)).owner b ≡ Some i → ⊥
  its-none B i b h = elim (cases_Bool (its B i b)) [
    | inl e ↦ none-some (cond-true _ _ _ e) h
    | inr e ↦ owned_by-false (B.owner b) i e (sym (cond-false _ _ _ e) ∙ h)
  ]

  pub loss : LossIsEvents F
  loss c i k t ended keeps unheaded =
      let q = t.quiet i (waits-acts (c.runs i) (c.waits i) (ended.waits)) in
      let cut : (((c.world).disk).heads i true).cut ≡ (BookOf F c).low i = ap (λ (z : Head F). z.cut) (t.headers i unheaded) ∙ ((t.world).mirror).alone i in
      let event : Event F c (after_loss F c i k) = Works ((after_loss F c i k).world) (Loses i k (q.0) (keeps.above) (keeps.below) (keeps.calm) (keeps.next) (q.1) cut)
      (ended.waits, ended.over, (ended.lives, ended.unlost)) in
      Then c (after_loss F c i k) _ event (Done (after_loss F c i k))

  abbrev after_settled : Cluster F → ℕ → (ℕ → Bool) → Cluster F
  after_settled c i p = with_world F c (record (c.world) { book = settled F (BookOf F c) i p })

  pub recovery : RecoveryIsEvents F
  recovery c i k t here ended last keeps unheaded dead = record {
    back = its (BookOf F c) i;
    gives = record {
      own = λ b e. owned_by-true ((BookOf F c).owner b) i e;
      unlive = dead';
      untouched = λ b e n. untouched n b e;
      rest = λ b e own. absurd (owned_by-false ((BookOf F c).owner b) i e own);
    };
    events = events-append F c (after_loss F c i k) _ (loss c i k t ended keeps unheaded)
        (Then (after_loss F c i k) (after_settled (after_loss F c i k) i (its (BookOf F c) i)) _
        (Works _ (Settles i (its (BookOf F c) i) (q.0) (λ b e. owned_by-true ((BookOf F c).owner b) i e) untouched dead') tt)
        (Then (after_settled (after_loss F c i k) i (its (BookOf F c) i)) _ _ (Recovers i here (ended.waits) nothing_left unheaded told) (Done _)));
    blocks = nothing_left;
  }
    where
      q : ((BookOf F c).published i ≡ (BookOf F c).answered i) × ((b : ℕ) → (BookOf F c).cache i b ≡ None)
      q = t.quiet i (waits-acts (c.runs i) (c.waits i) (ended.waits))

      told : at (c.unlost) i (c.unlost i - 1) i ≡ 0
      told = at-same (c.unlost) i (c.unlost i - 1) ∙ (let u = ended.unlost in omega (arith, u, last))

      untouched : (n b : ℕ) → its (BookOf F c) i b ≡ true → at ((BookOf F c).low) i ((BookOf F c).answered i) i ≤ n → n < (BookOf F c).answered i → (BookOf F c).change i (suc n) b ≡ None
      untouched n b e low high = let low' : (BookOf F c).answered i ≤ n = subst (λ z. z ≤ n) (at-same ((BookOf F c).low) i ((BookOf F c).answered i)) low in absurd (omega arith)

      dead' : (d : Bool) (b : ℕ) → its (BookOf F c) i b ≡ true → ((renumbered F ((c.world).disk) i ((BookOf F c).answered i)).heads i d).live b ≡ None
      dead' d b e = subst (λ f. (f d).live b ≡ None) (sym (at-same (((c.world).disk).heads) i _)) (dead d b)

      nothing_left : (b : ℕ) → (settled F (lost F (BookOf F c) i k) i (its (BookOf F c) i)).owner b ≡ Some i → ⊥
      nothing_left b h = its-none (BookOf F c) i b h

  -- ---- a slot that waited since the start

  -- the past answers nothing
  no-try : (c : Cluster F) (j n : ℕ) → Together F c → acts F c j ≡ true → (BookOf F c).answered (c.past) ≡ zero → at ((BookOf F c).answered) j n (c.past) ≡ zero
  no-try c j n t busy none = at-other ((BookOf F c).answered) j n (c.past) (λ e. both (ap (λ b. b && not (c.waits (c.past))) (t.gone)) (subst (λ z. acts F c z ≡ true) (sym e) busy)) ∙ none
    where
      both : {b : Bool} → b ≡ false → b ≡ true → ⊥
      both e f = cc

  silent-step : (c : Cluster F) (v : World F) (step : world.Step F (c.world) v) → MayWork F c v step → Together F c → (BookOf F c).answered (c.past) ≡ zero → (v.book).answered (c.past) ≡ zero
  silent-step c _ (world.Answers j said view change cache no_sync a) may t none = no-try c j _ t may none
  silent-step c _ (world.Syncs j said does still calm) may t none = no-try c j _ t may none
  silent-step c _ (world.Publishes k some) may t none = none
  silent-step c _ (world.Begins k h single heads) may t none = none
  silent-step c _ (world.Ends k d) may t none = none
  silent-step c _ (world.Writes r b v k live) may t none = none
  silent-step c _ (world.Lands r x settles) may t none = none
  silent-step c _ (world.Settles k p all own one dead) may t none = none
  silent-step c _ (world.Lower k state cache lowers) may t none = none
  silent-step c _ (world.Grants k state raises) may t none = none
  silent-step c _ (world.Reads j b held) may t none = none
  silent-step c _ (world.Shrinks k cache forgets) may t none = none
  silent-step c _ (world.Loses k m all above below calm next empty single) may t none = none

  silent-event : (c c' : Cluster F) → Event F c c' → Together F c → (BookOf F c).answered (c.past) ≡ zero → (BookOf F c').answered (c'.past) ≡ zero
  silent-event c _ (Works v step may) t none = silent-step c v step may t none
  silent-event c _ (Mails locks h) t none = none
  silent-event c _ (IsGranted k locks here no_wait h) t none = none
  silent-event c _ (GoesDown k locks cache here h all clean cached) t none = none
  silent-event c _ (Stops k here runs all) t none = none
  silent-event c _ (Fences k out unfenced idle) t none = none
  silent-event c _ Views t none = none
  silent-event c _ (Joins k here out fenced waits) t none = none
  silent-event c _ (Recovers k here wait nothing_left unheaded told) t none = none
  silent-event c _ (PastEnds wait nothing_left unheaded) t none = none

  silent-events : (a c : Cluster F) → Events F a c → Together F a → (BookOf F a).answered (a.past) ≡ zero → (BookOf F c).answered (c.past) ≡ zero
  silent-events a _ (Done _) t none = none
  silent-events a c (Then _ b _ event events) t none = silent-events b c events (event_keeps F a b event t) (silent-event a b event t none)

  pub past_silent : PastIsSilent F
  past_silent a c s events =
      let t = starts_together F a s in let u = events_keep F a c events t in
      let none = silent-events a c events t (((s.world).numbers (a.past)).2) in
      let p = ((u.world).whole).low_published (c.past) in let q = ((u.world).whole).published_answered (c.past) in
      omega (arith, none, p, q)

  -- while the past holds its locks no other node has a block
  none-owned : (c : Cluster F) (i b : ℕ) → Together F c → (i ≡ c.past → ⊥) → c.waits (c.past) ≡ true → (BookOf F c).owner b ≡ Some i → ⊥
  none-owned c i b t here past own =
      let p = ((t.world).whole).low_published i in let q = ((t.world).whole).published_answered i in
      let l = LockOf F ((BookOf F c).says i ((BookOf F c).low i) b) in
      ex-held (((t.world).whole).owned i ((BookOf F c).low i) b own (omega arith) (omega arith)) (t.tied i l here ∙ (t.idle past l i).0)

  pub start_recovery : StartRecoveryIsEvents F
  start_recovery c R k i t here wait past speaks none_live alone unheaded told flushed = record {
    slot = record {
      back = back;
      gives = record { own = λ b e. (gave b e).0; unlive = dead; untouched = λ b e. (gave b e).3; rest = stays F (BookOf F c) ((c.world).disk) ((t.world).whole) ((t.world).mirror) (c.past) };
      events = Then c (after_settled c (c.past) back) _
          (Works _ (Settles (c.past) back all (λ b e. (gave b e).0) (λ n b e. (gave b e).3 n) dead) tt)
          (Then (after_settled c (c.past) back) _ _ (Recovers i here wait still_empty unheaded told) (Done _));
      blocks = still_empty;
    };
    past = left;
    rings = ring_goes_over F ((c.world).disk) R k i none_live alone;
  }
    where
      back : ℕ → Bool
      back = given_back F (BookOf F c) ((c.world).disk) ((t.world).whole) ((t.world).mirror) (c.past)

      gave : (b : ℕ) → given_back F (BookOf F c) ((c.world).disk) ((t.world).whole) ((t.world).mirror) (c.past) b ≡ true
          → ((BookOf F c).owner b ≡ Some (c.past)) × ((((c.world).disk).heads (c.past) false).live b ≡ None) × ((((c.world).disk).heads (c.past) true).live b ≡ None)
          × ((n : ℕ) → (BookOf F c).low (c.past) ≤ n → n < (BookOf F c).answered (c.past) → (BookOf F c).change (c.past) (suc n) b ≡ None)
      gave = given F (BookOf F c) ((c.world).disk) ((t.world).whole) ((t.world).mirror) (c.past)

      all : (BookOf F c).published (c.past) ≡ (BookOf F c).answered (c.past)
      all = (t.quiet (c.past) (ap (λ b. b && not (c.waits (c.past))) (t.gone))).0

      dead : (d : Bool) (b : ℕ) → given_back F (BookOf F c) ((c.world).disk) ((t.world).whole) ((t.world).mirror) (c.past) b ≡ true → (((c.world).disk).heads (c.past) d).live b ≡ None
      dead false b e = (gave b e).1
      dead true b e = (gave b e).2

      still_empty : (b : ℕ) → (settled F (BookOf F c) (c.past) (given_back F (BookOf F c) ((c.world).disk) ((t.world).whole) ((t.world).mirror) (c.past))).owner b ≡ Some i → ⊥
      still_empty b h = elim (cases_Bool (given_back F (BookOf F c) ((c.world).disk) ((t.world).whole) ((t.world).mirror) (c.past) b)) [
        | inl e ↦ none-some (cond-true _ _ _ e) h
        | inr e ↦ none-owned c i b t here past (sym (cond-false _ _ _ e) ∙ h)
      ]

      left : (b : ℕ) → (settled F (BookOf F c) (c.past) (given_back F (BookOf F c) ((c.world).disk) ((t.world).whole) ((t.world).mirror) (c.past))).owner b ≡ Some (c.past)
          → (d : Bool) × (v : F.Content) × ((((c.world).disk).heads (c.past) d).live b ≡ Some v)
      left b h = elim (cases_Bool (given_back F (BookOf F c) ((c.world).disk) ((t.world).whole) ((t.world).mirror) (c.past) b)) [
        | inl e ↦ absurd (none-some (cond-true _ _ _ e) h)
        | inr e ↦ elim (stays F (BookOf F c) ((c.world).disk) ((t.world).whole) ((t.world).mirror) (c.past) b e (sym (cond-false _ _ _ e) ∙ h)) [
          | inl live ↦ live
          | inr touch ↦ (let x = touch.2 in let y = touch.3 in absurd (omega (arith, flushed)))
        ]
      ]

  pub past_ends : PastIsEvents F
  past_ends c t wait flushed unheaded dead = record {
    back = its (BookOf F c) (c.past);
    gives = record {
      own = λ b e. owned_by-true ((BookOf F c).owner b) (c.past) e;
      unlive = λ d b e. dead d b;
      untouched = λ b e n low high. absurd (omega (arith, flushed, low, high));
      rest = λ b e own. absurd (owned_by-false ((BookOf F c).owner b) (c.past) e own);
    };
    events = Then c (after_settled c (c.past) (its (BookOf F c) (c.past))) _
        (Works _ (Settles (c.past) (its (BookOf F c) (c.past)) all (λ b e. owned_by-true ((BookOf F c).owner b) (c.past) e) (λ n b e low high. absurd (omega (arith, flushed, low, high))) (λ d b e. dead d b)) tt)
        (Then (after_settled c (c.past) (its (BookOf F c) (c.past))) _ _ (PastEnds wait (its-none (BookOf F c) (c.past)) unheaded) (Done _));
    blocks = its-none (BookOf F c) (c.past);
  }
    where
      all : (BookOf F c).published (c.past) ≡ (BookOf F c).answered (c.past)
      all = (t.quiet (c.past) (ap (λ b. b && not (c.waits (c.past))) (t.gone))).0
