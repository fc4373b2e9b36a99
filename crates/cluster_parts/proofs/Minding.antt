-- What is cached stays under a state that may cache it.
use Rattle.std.proofs.Common.{ℕ, ◌≡◌, ◌⊎◌, inl, inr, Bool, true, false, ◌&&◌, Some, refl, sym, ap, ◌∙◌, subst}
use Rattle.std.specs.Prelude.{not}
use Rattle.std.proofs.lemmas.Bool.{cases_eq}
use Rattle.cluster_laws.specs.Files.{Files, CellOf, Part, LockOf, Agrees, State, Un, Ex}
use Rattle.cluster_laws.specs.Book.{at, Book, W}
use Rattle.cluster_laws.specs.Locks.{read_into}
use Rattle.cluster_laws.specs.World.{World, nothing}
use Rattle.cluster_laws.specs.World as world
use Rattle.cluster_laws.proofs.Cells.{none-some, at-same, at-other, at-cases, seen_in, full}
use Rattle.cluster_events.specs.Cluster.{Cluster, acts, BookOf, restated, MayWork, Event, Works, Mails, IsGranted, GoesDown, Stops, Fences, Views, Joins, Recovers, PastEnds, Together}
use Rattle.cluster_events.proofs.Locking.{receives-held}
use Rattle.glock_names.specs.StateOrder.{may_cache}
use Rattle.cluster_parts.specs.Parts.{CachesAllow, KeptFrom, StateMindedKeeps, StartAllows}

un-may : {A : Type 0} (s : State) (plain : Bool) → may_cache s plain ≡ true → s ≡ Un → A
un-may s plain may e = absurd (let f : false ≡ true = subst (λ z. may_cache z plain ≡ true) e may in cc)

waits-acts : (runs waits : Bool) → waits ≡ true → (runs && not waits) ≡ false
waits-acts true waits e = ap not e
waits-acts false waits e = refl

module _ (F : Files) (plain : CellOf F → Bool) (own : ℕ → Part F) (c : Cluster F) (t : Together F c) (allow : CachesAllow F plain own c) where
  abbrev B : Book F
  B = BookOf F c

  abbrev Allowed : ℕ → CellOf F → Type 0
  Allowed j x = may_cache (B.state j (LockOf F x)) (plain x) ≡ true

  works : (v : World F) (step : world.Step F (c.world) v) (may : MayWork F c v step) (j b : ℕ) (x : CellOf F) → KeptFrom F plain own c _ (Works v step may) j b x
      → may_cache ((v.book).state j (LockOf F x)) (plain x) ≡ true
  works _ (world.Answers k said view change cache no_sync a) may j b x from = elim from [
    | inl old ↦ (allow j b x (old.1)).1
    | inr mine ↦ elim (mine.2) [
      | inl old ↦ (allow j b x old).1
      | inr new ↦ subst (λ j. Allowed j x) (sym (mine.0)) (subst (λ z. may_cache z (plain x) ≡ true) (sym (exclusive new)) refl)
    ]
  ]
    where
      agrees : Agrees F view (W F B (B.answered))
      agrees b y e = seen_in F B k (B.answered k) b y (B.answered) (a.sees b y e) refl

      exclusive : change b ≡ Some x → B.state k (LockOf F x) ≡ Ex
      exclusive e = let s = ((t.world).whole).stands (B.answered) (full F B ((t.world).whole)) in (a.guards (W F B (B.answered)) (s.0) b x agrees (s.1) e).1
  works _ (world.Syncs k said does still calm) may j b x old = (allow j b x old).1
  works _ (world.Publishes k some) may j b x old = (allow j b x old).1
  works _ (world.Begins k head single heads) may j b x old = (allow j b x old).1
  works _ (world.Ends k which) may j b x old = (allow j b x old).1
  works _ (world.Writes r y v k live) may j b x old = (allow j b x old).1
  works _ (world.Lands r y settles) may j b x old = (allow j b x old).1
  works _ (world.Settles k p all owns one dead) may j b x old = (allow j b x old).1
  works _ (world.Lower k state cache lowers) may j b x old = absurd may
  works _ (world.Grants k state raises) may j b x old = absurd may
  works _ (world.Reads k y has) may j b x from = elim from [ inl old ↦ (allow j b x old).1 | inr new ↦ new.3 ]
  works _ (world.Shrinks k cache forgets) may j b x from = (allow j b x (from.0)).1
  works _ (world.Loses k m all above below calm next none single) may j b x old = (allow j b x old).1

  -- a node that doesn't act has nothing cached
  ends : (i : ℕ) → acts F c i ≡ false → (j b : ℕ) (x : CellOf F) → own j b ≡ Some x → may_cache (at (B.state) i (λ l. Un) j (LockOf F x)) (plain x) ≡ true
  ends i idle j b x h = at-cases (λ f. may_cache (f (LockOf F x)) (plain x) ≡ true) (B.state) i (λ l. Un) j
      (λ e. absurd (none-some ((t.quiet i idle).1 b) (subst (λ j. B.cache j b ≡ Some x) e (allow j b x h).0))) (λ ne. (allow j b x h).1)

  keeps : (c' : Cluster F) (event : Event F c c') (j b : ℕ) (x : CellOf F) → KeptFrom F plain own c c' event j b x → may_cache ((BookOf F c').state j (LockOf F x)) (plain x) ≡ true
  keeps _ (Works w step may) j b x from = works w step may j b x from
  keeps _ (Mails locks h) j b x old = (allow j b x old).1
  keeps _ (IsGranted i locks here none h) j b x old = at-cases (λ f. may_cache (f (LockOf F x)) (plain x) ≡ true) (B.state) i (λ l. (locks l i).state) j
      (λ e. (let was : Allowed i x = subst (λ j. Allowed j x) e (allow j b x old).1 in
      subst (λ z. may_cache z (plain x) ≡ true)
      (t.tied i (LockOf F x) here ∙ sym (receives-held i _ _ (h (LockOf F x)) (t.locks (LockOf F x)) (λ un. un-may _ (plain x) was (t.tied i (LockOf F x) here ∙ un)))) was))
      (λ ne. (allow j b x old).1)
  keeps _ (GoesDown i locks cache here h all clean cached) j b x from = elim (cases_eq j i) [
    | inl same ↦ subst (λ j. may_cache (restated F c i locks j (LockOf F x)) (plain x) ≡ true) (sym same)
        (subst (λ z. may_cache z (plain x) ≡ true) (sym (ap (λ f. f (LockOf F x)) (at-same (B.state) i _))) (from.1 same).1)
    | inr ne ↦ subst (λ z. may_cache z (plain x) ≡ true) (sym (ap (λ f. f (LockOf F x)) (at-other (B.state) i _ j ne))) (allow j b x (from.0)).1
  ]
  keeps _ (Stops i here runs all) j b x from = (allow j b x (from.0)).1
  keeps _ (Fences i out unfenced none) j b x old = (allow j b x old).1
  keeps _ Views j b x old = (allow j b x old).1
  keeps _ (Joins i here out fenced waits) j b x old = (allow j b x old).1
  keeps _ (Recovers i here wait nothing_left unheaded told) j b x h = ends i (waits-acts (c.runs i) (c.waits i) wait) j b x h
  keeps _ (PastEnds wait nothing_left unheaded) j b x h = ends (c.past) (waits-acts (c.runs (c.past)) (c.waits (c.past)) wait) j b x h

  -- ---- and it is in the cache of the book

  cached-at : (i : ℕ) (part : Part F) (j b : ℕ) (x : CellOf F) → own j b ≡ Some x → (j ≡ i → part b ≡ Some x) → at (B.cache) i part j b ≡ Some x
  cached-at i part j b x old here = at-cases (λ f. f b ≡ Some x) (B.cache) i part j here (λ ne. (allow j b x old).0)

  -- what is cached is what the image has in which the node lives, so another read of it changes nothing
  same-cell : (j b : ℕ) (x : CellOf F) → B.cache j b ≡ Some x → W F B (B.answered) b ≡ x
  same-cell j b x has = seen_in F B j (B.answered j) b x (B.answered) (((t.world).whole).cached j b x has) refl

  read-in : (k n j b : ℕ) (x : CellOf F) → (own j b ≡ Some x)
      ⊎ ((j ≡ k) × (b ≡ n) × (x ≡ W F B (B.answered) n) × (may_cache (B.state j (LockOf F x)) (plain x) ≡ true)) → read_into F B k n j b ≡ Some x
  read-in k n j b x from = at-cases (λ f. f b ≡ Some x) (B.cache) k (at (B.cache k) n (Some (W F B (B.answered) n))) j
      (λ e. at-cases (λ o. o ≡ Some x) (B.cache k) n (Some (W F B (B.answered) n)) b
      (λ same. ap (λ z. Some z) (elim from [
        | inl old ↦ ap (W F B (B.answered)) (sym same) ∙ same-cell j b x (allow j b x old).0
        | inr new ↦ sym (new.2)
      ]))
      (λ other. elim from [
        | inl old ↦ subst (λ j. B.cache j b ≡ Some x) e (allow j b x old).0
        | inr new ↦ absurd (other (new.1))
      ]))
      (λ ne. elim from [ inl old ↦ (allow j b x old).0 | inr new ↦ absurd (ne (new.0)) ])

  works-in : (v : World F) (step : world.Step F (c.world) v) (may : MayWork F c v step) (j b : ℕ) (x : CellOf F) → KeptFrom F plain own c _ (Works v step may) j b x
      → (v.book).cache j b ≡ Some x
  works-in _ (world.Answers k said view change cache no_sync a) may j b x from = at-cases (λ f. f b ≡ Some x) (B.cache) k cache j
      (λ e. elim from [ inl old ↦ absurd (old.0 e) | inr mine ↦ mine.1 ])
      (λ ne. elim from [ inl old ↦ (allow j b x (old.1)).0 | inr mine ↦ absurd (ne (mine.0)) ])
  works-in _ (world.Syncs k said does still calm) may j b x old = cached-at k (B.cache k) j b x old (λ e. subst (λ j. B.cache j b ≡ Some x) e (allow j b x old).0)
  works-in _ (world.Publishes k some) may j b x old = (allow j b x old).0
  works-in _ (world.Begins k head single heads) may j b x old = (allow j b x old).0
  works-in _ (world.Ends k which) may j b x old = (allow j b x old).0
  works-in _ (world.Writes r y v k live) may j b x old = (allow j b x old).0
  works-in _ (world.Lands r y settles) may j b x old = (allow j b x old).0
  works-in _ (world.Settles k p all owns one dead) may j b x old = (allow j b x old).0
  works-in _ (world.Lower k state cache lowers) may j b x old = absurd may
  works-in _ (world.Grants k state raises) may j b x old = absurd may
  works-in _ (world.Reads k n has) may j b x from = read-in k n j b x from
  works-in _ (world.Shrinks k cache forgets) may j b x from = elim (cases_eq j k) [
    | inl e ↦ from.1 e
    | inr ne ↦ ap (λ f. f b) (forgets.others j ne) ∙ (allow j b x (from.0)).0
  ]
  works-in _ (world.Loses k m all above below calm next none single) may j b x old = (allow j b x old).0

  keeps-in : (c' : Cluster F) (event : Event F c c') (j b : ℕ) (x : CellOf F) → KeptFrom F plain own c c' event j b x → (BookOf F c').cache j b ≡ Some x
  keeps-in _ (Works w step may) j b x from = works-in w step may j b x from
  keeps-in _ (Mails locks h) j b x old = (allow j b x old).0
  keeps-in _ (IsGranted i locks here none h) j b x old = (allow j b x old).0
  keeps-in _ (GoesDown i locks cache here h all clean cached) j b x from = cached-at i cache j b x (from.0) (λ e. (from.1 e).0)
  keeps-in _ (Stops i here runs all) j b x from = cached-at i (nothing F) j b x (from.0) (λ e. absurd (from.1 e))
  keeps-in _ (Fences i out unfenced none) j b x old = (allow j b x old).0
  keeps-in _ Views j b x old = (allow j b x old).0
  keeps-in _ (Joins i here out fenced waits) j b x old = (allow j b x old).0
  keeps-in _ (Recovers i here wait nothing_left unheaded told) j b x old = (allow j b x old).0
  keeps-in _ (PastEnds wait nothing_left unheaded) j b x old = (allow j b x old).0

pub minded : (F : Files) → StateMindedKeeps F
minded F plain own own' c c' event t minds allow j b x has =
    let from = minds j b x has in (keeps-in F plain own c t allow c' event j b x from, keeps F plain own c t allow c' event j b x from)

pub start_allows : (F : Files) → StartAllows F
start_allows F plain c j b x has = absurd (none-some refl has)
