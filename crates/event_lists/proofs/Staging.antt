-- A demotion's stages stay but at what sets them back.
use Rattle.std.proofs.Common.{ℕ, suc, ◌≡◌, ◌≤◌, ◌<◌, ◌⊎◌, inl, inr, Bool, true, false, None, Some, refl, sym, ap, ◌∙◌, subst, arith}
use Rattle.std.proofs.lemmas.Bool.{cases_eq}
use Rattle.cluster_laws.specs.Files.{Files, CellOf, Part, LockOf, Touches}
use Rattle.cluster_laws.specs.Book.{at, Book, Whole, tried, flushed}
use Rattle.cluster_laws.specs.Mirror.{Head, Disk, either, headed}
use Rattle.cluster_laws.specs.Log.{Untouched, Last, IsHeader, IsFlushed, IsRevoked, MayGo}
use Rattle.cluster_laws.specs.World.{World, Answering, nothing, Sound}
use Rattle.cluster_laws.specs.World as world
use Rattle.cluster_laws.proofs.Cells.{inside, none-some, at-other, at-cases, whose-some}
use Rattle.cluster_laws.proofs.Logging.{steady, last-says, never_under}
use Rattle.cluster_laws.proofs.Trying.{says-old}
use Rattle.cluster_laws.proofs.Running.{step_keeps, sync_answers}
use Rattle.cluster_laws.proofs.Numbering.{own-answered, own-change, last-change}
use Rattle.cluster_events.specs.Cluster.{Cluster, BookOf, MayWork, Event, Works, Mails, IsGranted, GoesDown, Stops, Fences, Views, Joins, Recovers, PastEnds, Together}
use Rattle.event_lists.specs.Gives.{DiskOf}
use Rattle.event_lists.specs.Demotions.{IsAtHome}
use Rattle.event_lists.specs.Stages.{TouchesLock, HeaderMinds, WritesHomeUnder, StagesStay}

-- ---- what a try leaves

module _ (F : Files) (B : Book F) (whole : Whole F B) (j : ℕ) (said : F.Said) (v c cache : Part F) (a : Answering F B j said v c cache) where
  abbrev After : Book F
  After = tried F B j said v c cache

  says-same : (i n b : ℕ) → B.owner b ≡ Some i → n ≤ B.answered i → After.says i n b ≡ B.says i n b
  says-same i n b own high = elim (cases_eq i j) [
    | inl e ↦ subst (λ i. B.owner b ≡ Some i → n ≤ B.answered i → After.says i n b ≡ B.says i n b) (sym e)
        (λ own high. says-old F B whole j said v c cache (a.sees) (a.does) (a.guards) (a.caches) (a.tells) (a.tracks) n b high ∙ whose-some _ _ own) own high
    | inr ne ↦ ap (λ f. f n b) (at-other (B.says) j _ i ne)
  ]

  still-flushed : (whole' : Whole F After) (i : ℕ) (l : F.Lock) → ((j ≡ i) × Touches F c l → ⊥) → IsFlushed F B i l → IsFlushed F After i l
  still-flushed whole' i l untouched flushed n b x low high change = elim (cases_eq i j) [
    | inl e ↦ subst (λ i. ((j ≡ i) × Touches F c l → ⊥) → IsFlushed F B i l → B.low i ≤ n → n < After.answered i → After.change i (suc n) b ≡ Some x
        → (LockOf F x ≡ l → ⊥) × (LockOf F (After.says i n b) ≡ l → ⊥)) (sym e) here untouched flushed low high change
    | inr ne ↦ (let none = flushed n b x low (subst (λ z. n < z) (at-other (B.answered) j _ i ne) high) (sym (ap (λ f. f (suc n) b) (at-other (B.change) j _ i ne)) ∙ change) in
        (none.0, λ e. none.1 (ap (LockOf F) (sym (ap (λ f. f n b) (at-other (B.says) j _ i ne))) ∙ e)))
  ]
    where
      here : ((j ≡ j) × Touches F c l → ⊥) → IsFlushed F B j l → B.low j ≤ n → n < After.answered j → After.change j (suc n) b ≡ Some x
          → (LockOf F x ≡ l → ⊥) × (LockOf F (After.says j n b) ≡ l → ⊥)
      here untouched flushed low high change = elim (cases_eq n (B.answered j)) [
        | inl e ↦ (let tracks = (whole'.logged j n low high).tracks b x change in
            let is : After.change j (suc n) ≡ c = ap (λ z. After.change j (suc z)) e ∙ last-change F B whole j said v c cache a in (
              λ under. untouched (refl, subst (λ f. Touches F f l) is (subst (λ z. Touches F (After.change j (suc n)) z) under (tracks.1))),
              λ under. untouched (refl, subst (λ f. Touches F f l) is (subst (λ z. Touches F (After.change j (suc n)) z) under (tracks.0))),
            ))
        | inr ne ↦ (let top = own-answered F B whole j said v c cache a in let below : n < B.answered j = omega (arith, ne, top, high) in
            let was = sym (ap (λ f. f b) (own-change F B whole j said v c cache a n below)) ∙ change in
            let none = flushed n b x low below was in
            (none.0, λ under. none.1 (ap (LockOf F) (sym (says-same j n b ((whole.logged j n low below).touched b x was) (omega arith))) ∙ under)))
      ]

module _ (F : Files) (c : Cluster F) (t : Together F c) (i : ℕ) (l : F.Lock) (awake : c.waits i ≡ false) where
  abbrev B : Book F
  B = BookOf F c

  abbrev D : Disk F
  D = DiskOf F c

  asleep : (k : ℕ) → c.waits k ≡ true → i ≡ k → ⊥
  asleep k waits e = absurd (let f : c.waits i ≡ true = subst (λ z. c.waits z ≡ true) (sym e) waits in let g = sym awake ∙ f in cc)

  -- ---- the flush

  flushed-same : (B' : Book F) → B'.low i ≡ B.low i → B'.answered i ≡ B.answered i → B'.change i ≡ B.change i → B'.says i ≡ B.says i → IsFlushed F B i l → IsFlushed F B' i l
  flushed-same B' low answered change says flushed n b x lo hi is = let none = flushed n b x (omega arith) (omega arith) (sym (ap (λ f. f (suc n) b) change) ∙ is) in
      (none.0, λ e. none.1 (ap (LockOf F) (sym (ap (λ f. f n b) says)) ∙ e))

  flushed-on : (v : World F) (step : world.Step F (c.world) v) (may : MayWork F c v step) → (TouchesLock F c _ (Works v step may) i l → ⊥) → IsFlushed F B i l → IsFlushed F (v.book) i l
  flushed-on v (world.Answers j said view change cache no_sync a) may free flushed = still-flushed F B ((t.world).whole) j said view change cache a
      ((step_keeps F (c.world) v (world.Answers j said view change cache no_sync a) (t.world)).whole) i l free flushed
  flushed-on v (world.Syncs j said does still calm) may free flushed = still-flushed F B ((t.world).whole) j said (nothing F) (nothing F) (B.cache j)
      (sync_answers F (c.world) (t.world) j said does still) ((step_keeps F (c.world) v (world.Syncs j said does still calm) (t.world)).whole) i l
      (λ h. none-some refl ((h.1).2)) flushed
  flushed-on v (world.Publishes k some) may free flushed = flushed-same (v.book) refl refl refl refl flushed
  flushed-on v (world.Begins k h single heads) may free flushed = flushed
  flushed-on v (world.Ends k d) may free flushed = λ n b x lo hi is. flushed n b x (was n lo) hi is
    where
      was : (n : ℕ) → at (B.low) k ((D.heads k d).cut) i ≤ n → B.low i ≤ n
      was n = at-cases (λ z. z ≤ n → B.low i ≤ n) (B.low) k ((D.heads k d).cut) i
          (λ e low. (let p = (((t.world).mirror).cuts k d).0 in let q : B.low i ≡ B.low k = ap (B.low) e in omega arith)) (λ ne low. low)
  flushed-on v (world.Writes r b y k live) may free flushed = flushed
  flushed-on v (world.Lands r x settles) may free flushed = flushed
  flushed-on v (world.Settles k p all own one dead) may free flushed = flushed-same (v.book) refl refl refl refl flushed
  flushed-on v (world.Lower k state cache lowers) may free flushed = absurd may
  flushed-on v (world.Grants k state raises) may free flushed = absurd may
  flushed-on v (world.Reads j b held) may free flushed = flushed-same (v.book) refl refl refl refl flushed
  flushed-on v (world.Shrinks k cache forgets) may free flushed = flushed-same (v.book) refl refl refl refl flushed
  flushed-on v (world.Loses k m all above below calm next none single) may free flushed =
      flushed-same (v.book) (at-other (B.low) k (B.answered k) i (asleep k (may.0))) refl refl (at-other (B.says) k (λ n. λ b. B.says k m b) i (asleep k (may.0))) flushed

  flushed-event : (c' : Cluster F) (event : Event F c c') → (TouchesLock F c c' event i l → ⊥) → IsFlushed F B i l → IsFlushed F (BookOf F c') i l
  flushed-event _ (Works v step may) free flushed = flushed-on v step may free flushed
  flushed-event _ (Mails locks h) free flushed = flushed
  flushed-event c' (IsGranted k locks here none h) free flushed = flushed-same (BookOf F c') refl refl refl refl flushed
  flushed-event c' (GoesDown k locks cache here h all clean cached) free flushed = flushed-same (BookOf F c') refl refl refl refl flushed
  flushed-event c' (Stops k here runs all) free flushed = flushed-same (BookOf F c') refl refl refl refl flushed
  flushed-event _ (Fences k out unfenced none) free flushed = flushed
  flushed-event _ Views free flushed = flushed
  flushed-event _ (Joins k here out fenced waits) free flushed = flushed
  flushed-event c' (Recovers k here wait nothing_left unheaded told) free flushed = flushed-same (BookOf F c') refl refl refl refl flushed
  flushed-event c' (PastEnds wait nothing_left unheaded) free flushed = flushed-same (BookOf F c') refl refl refl refl flushed

  -- ---- what heads say of the node's blocks

  -- each head was one before, or is that of a header that begins; the accepted number was that of a head; and the calls up to it say what they said
  record Kin (w : World F) : Type 0 where
    heads : (d : Bool) → ((e : Bool) × ((w.disk).heads i d ≡ D.heads i e)) ⊎ ((u : ℕ) × IsHeader F B D i u ((w.disk).heads i d))
    low : (e : Bool) × ((w.book).low i ≡ (D.heads i e).cut)
    says : (n b : ℕ) → B.owner b ≡ Some i → n ≤ B.answered i → (w.book).says i n b ≡ B.says i n b

  low-is : B.low i ≡ (D.heads i false).cut
  low-is = sym (((t.world).mirror).alone i)

  same-kin : (w : World F) → (w.disk).heads i ≡ D.heads i → (w.book).low i ≡ B.low i → (w.book).says i ≡ B.says i → Kin w
  same-kin w heads low says = record { heads = λ d. inl (d, ap (λ f. f d) heads); low = (false, low ∙ low-is); says = λ n b own top. ap (λ f. f n b) says }

  try-kin : (j : ℕ) (said : F.Said) (view change cache : Part F) (a : Answering F B j said view change cache) (sure : ℕ → ℕ)
      → Kin (record (c.world) { book = tried F B j said view change cache; sure = sure })
  try-kin j said view change cache a sure = record {
    heads = λ d. inl (d, refl);
    low = (false, low-is);
    says = λ n b own top. says-same F B ((t.world).whole) j said view change cache a i n b own top;
  }

  kin-on : (v : World F) (step : world.Step F (c.world) v) (may : MayWork F c v step) → HeaderMinds F c _ (Works v step may) i → Kin v
  kin-on _ (world.Answers j said view change cache no_sync a) may minds = try-kin j said view change cache a ((c.world).sure)
  kin-on _ (world.Syncs j said does still calm) may minds = try-kin j said (nothing F) (nothing F) (B.cache j) (sync_answers F (c.world) (t.world) j said does still) _
  kin-on _ (world.Publishes k some) may minds = same-kin _ refl refl refl
  kin-on _ (world.Begins k h alone heads) may minds = elim (cases_eq i k) [
    | inl e ↦ record { heads = begun e; low = (false, low-is); says = λ n b own top. refl }
    | inr ne ↦ same-kin _ (at-other (D.heads) k _ i ne) refl refl
  ]
    where
      begun : i ≡ k → (d : Bool) → ((e : Bool) × ((headed F D k h).heads i d ≡ D.heads i e)) ⊎ ((u : ℕ) × IsHeader F B D i u ((headed F D k h).heads i d))
      begun e false = inl (
        false,
        ap (λ f. f false) (at-cases (λ f. f ≡ either (D.heads i false) h) (D.heads) k (either (D.heads k false) h) i
            (λ s. ap (λ z. either (D.heads z false) h) (sym s)) (λ ne. absurd (ne e))),
      )
      begun e true = inr ((minds (sym e)).0, subst (λ z. IsHeader F B D i ((minds (sym e)).0) z) (sym new) ((minds (sym e)).1))
        where
          new : (headed F D k h).heads i true ≡ h
          new = ap (λ f. f true) (at-cases (λ f. f ≡ either (D.heads i false) h) (D.heads) k (either (D.heads k false) h) i
              (λ s. ap (λ z. either (D.heads z false) h) (sym s)) (λ ne. absurd (ne e)))
  kin-on _ (world.Ends k d) may minds = elim (cases_eq i k) [
    | inl e ↦ record {
      heads = λ x. inl (d, at-cases (λ f. f x ≡ D.heads i d) (D.heads) k (either (D.heads k d) (D.heads k d)) i (λ s. one x ∙ ap (λ z. D.heads z d) (sym s)) (λ ne. absurd (ne e)));
      low = (d, at-cases (λ z. z ≡ (D.heads i d).cut) (B.low) k ((D.heads k d).cut) i (λ s. ap (λ z. (D.heads z d).cut) (sym s)) (λ ne. absurd (ne e)));
      says = λ n b own top. refl;
    }
    | inr ne ↦ same-kin _ (at-other (D.heads) k _ i ne) (at-other (B.low) k _ i ne) refl
  ]
    where
      one : (x : Bool) → either (D.heads k d) (D.heads k d) x ≡ D.heads k d
      one true = refl
      one false = refl
  kin-on _ (world.Writes r b v k live) may minds = same-kin _ refl refl refl
  kin-on _ (world.Lands r x settles) may minds = same-kin _ refl refl refl
  kin-on _ (world.Settles k p all own one dead) may minds = same-kin _ refl refl refl
  kin-on _ (world.Lower k state cache lowers) may minds = absurd may
  kin-on _ (world.Grants k state raises) may minds = absurd may
  kin-on _ (world.Reads j b held) may minds = same-kin _ refl refl refl
  kin-on _ (world.Shrinks k cache forgets) may minds = same-kin _ refl refl refl
  kin-on _ (world.Loses k m all above below calm next none alone) may minds =
      same-kin _ (at-other (D.heads) k _ i (asleep k (may.0))) (at-other (B.low) k _ i (asleep k (may.0))) (at-other (B.says) k _ i (asleep k (may.0)))

  kin : (c' : Cluster F) (event : Event F c c') → HeaderMinds F c c' event i → Kin (c'.world)
  kin _ (Works v step may) minds = kin-on v step may minds
  kin _ (Mails locks h) minds = same-kin _ refl refl refl
  kin _ (IsGranted k locks here none h) minds = same-kin _ refl refl refl
  kin _ (GoesDown k locks cache here h all clean cached) minds = same-kin _ refl refl refl
  kin _ (Stops k here runs all) minds = same-kin _ refl refl refl
  kin _ (Fences k out unfenced none) minds = same-kin _ refl refl refl
  kin _ Views minds = same-kin _ refl refl refl
  kin _ (Joins k here out fenced waits) minds = same-kin _ refl refl refl
  kin _ (Recovers k here wait nothing_left unheaded told) minds = same-kin _ refl refl refl
  kin _ (PastEnds wait nothing_left unheaded) minds = same-kin _ refl refl refl

  low-published : B.low i ≤ B.published i
  low-published = ((t.world).whole).low_published i

  cut-high : (e : Bool) → (D.heads i e).cut ≤ B.answered i
  cut-high e = let p = (((t.world).mirror).cuts i e).1 in let q = ((t.world).whole).published_answered i in omega arith

  owns : (e : Bool) (b : ℕ) (v : F.Content) → (D.heads i e).live b ≡ Some v → B.owner b ≡ Some i
  owns e b v live = ((t.world).mirror).lives i e b v live

  -- ---- the revokes

  revoked-on : (w : World F) → Kin w → IsFlushed F B i l → IsRevoked F B D i l → IsRevoked F (w.book) (w.disk) i l
  revoked-on w k flushed revoked d b v live under = elim (k.heads d) [
    | inl old ↦ of-old (old.0) (sym (ap (λ (z : Head F). z.live b) (old.1)) ∙ live)
    | inr new ↦ elim ((new.1).each b) [
      | inl same ↦ elim (same.1) [ inl was ↦ of-old false (sym was ∙ live) | inr gone ↦ none-some (gone.0) live ]
      | inr last ↦ of-new (new.0) (new.1) (last.0)
    ]
  ]
    where
      may : MayGo F B D i l
      may = record { unlive = revoked; untouched = flushed }

      cut : ℕ
      cut = (D.heads i ((k.low).0)).cut

      never : (own : B.owner b ≡ Some i) → ((c : Bool) × (v : F.Content) × ((D.heads i c).live b ≡ Some v))
          ⊎ ((n : ℕ) × (x : CellOf F) × (B.low i ≤ n) × (n < B.answered i) × (B.change i (suc n) b ≡ Some x)) → ⊥
      never own how = never_under F B D ((t.world).whole) ((t.world).mirror) i l may b own how ((D.heads i ((k.low).0)).cut) ((((t.world).mirror).cuts i ((k.low).0)).0) (cut-high ((k.low).0))
          (ap (LockOf F) (sym (k.says ((D.heads i ((k.low).0)).cut) b own (cut-high ((k.low).0))) ∙ ap (λ z. (w.book).says i z b) (sym ((k.low).1))) ∙ under)

      of-old : (e : Bool) → (D.heads i e).live b ≡ Some v → ⊥
      of-old e was = never (owns e b v was) (inl (e, v, was))

      of-new : (u : ℕ) → IsHeader F B D i u ((w.disk).heads i d) → Last F B i (B.low i) u b → ⊥
      of-new u header last =
          let lo = last.above in let hi = last.below in let p = (header.range).1 in let q = ((t.world).whole).published_answered i in
          let high : last.call < B.answered i = omega arith in
          never ((((t.world).whole).logged i (last.call) lo high).touched b (last.cell) (last.changes)) (inr (last.call, last.cell, lo, high, last.changes))

  -- ---- the barrier

  abbrev Rests : World F → Type 0
  Rests w = (e : Bool) (b : ℕ) (v : F.Content) → (D.heads i e).live b ≡ Some v → LockOf F (B.says i ((D.heads i e).cut) b) ≡ l → (D.blocks b ≡ v) × ((r : ℕ) → D.flight r b ≡ None)
      → ((w.disk).blocks b ≡ v) × ((r : ℕ) → (w.disk).flight r b ≡ None)

  rests-on : (v : World F) (step : world.Step F (c.world) v) (may : MayWork F c v step) → (WritesHomeUnder F c _ (Works v step may) i l → ⊥) → Rests v
  rests-on _ (world.Answers j said view change cache no_sync a) may free e b v live under home = home
  rests-on _ (world.Syncs j said does still calm) may free e b v live under home = home
  rests-on _ (world.Publishes k some) may free e b v live under home = home
  rests-on _ (world.Begins k h alone heads) may free e b v live under home = home
  rests-on _ (world.Ends k d) may free e b v live under home = home
  rests-on _ (world.Writes r n y k alive) may free e b v live under home = (
    home.0,
    λ q. at-cases (λ f. f b ≡ None) (D.flight) r (at (D.flight r) n (Some y)) q
        (λ e. at-cases (λ o. o ≡ None) (D.flight r) n (Some y) b (λ same. absurd (free (whose same, subst (λ z. LockOf F (B.says i (B.low i) z) ≡ l) same (at-low same)))) (λ other. home.1 r))
        (λ ne. home.1 q),
  )
    where
      whose : b ≡ n → k ≡ i
      whose same = inside (sym (((t.world).mirror).lives k false n y (alive false)) ∙ subst (λ z. B.owner z ≡ Some i) same (owns e b v live))

      -- no header of the journal is in flight
      one : b ≡ n → (e : Bool) → (D.heads i e).cut ≡ B.low i
      one same false = ((t.world).mirror).alone i
      one same true = ap (λ (z : Head F). z.cut) (t.headers i (subst (λ z. c.header_of z ≡ None) (whose same) (may.1))) ∙ ((t.world).mirror).alone i

      at-low : b ≡ n → LockOf F (B.says i (B.low i) b) ≡ l
      at-low same = ap (λ z. LockOf F (B.says i z b)) (sym (one same e)) ∙ under
  rests-on _ (world.Lands r x settles) may free e b v live under home = (
    elim (settles b) [ inl same ↦ same ∙ home.0 | inr flies ↦ absurd (none-some (home.1 r) (flies.1)) ],
    λ q. at-cases (λ f. f b ≡ None) (D.flight) r (λ b. None) q (λ e. refl) (λ ne. home.1 q),
  )
  rests-on _ (world.Settles k p all own one dead) may free e b v live under home = home
  rests-on _ (world.Lower k state cache lowers) may free e b v live under home = absurd may
  rests-on _ (world.Grants k state raises) may free e b v live under home = absurd may
  rests-on _ (world.Reads j n held) may free e b v live under home = home
  rests-on _ (world.Shrinks k cache forgets) may free e b v live under home = home
  rests-on _ (world.Loses k m all above below calm next none alone) may free e b v live under home = home

  rests : (c' : Cluster F) (event : Event F c c') → (WritesHomeUnder F c c' event i l → ⊥) → Rests (c'.world)
  rests _ (Works v step may) free = rests-on v step may free
  rests _ (Mails locks h) free = λ e b v live under home. home
  rests _ (IsGranted k locks here none h) free = λ e b v live under home. home
  rests _ (GoesDown k locks cache here h all clean cached) free = λ e b v live under home. home
  rests _ (Stops k here runs all) free = λ e b v live under home. home
  rests _ (Fences k out unfenced none) free = λ e b v live under home. home
  rests _ Views free = λ e b v live under home. home
  rests _ (Joins k here out fenced waits) free = λ e b v live under home. home
  rests _ (Recovers k here wait nothing_left unheaded told) free = λ e b v live under home. home
  rests _ (PastEnds wait nothing_left unheaded) free = λ e b v live under home. home

  home-on : (w : World F) → Kin w → Rests w → IsFlushed F B i l → IsAtHome F B D i l → IsAtHome F (w.book) (w.disk) i l
  home-on w k rest flushed home d b v live under = elim (k.heads d) [
    | inl old ↦ (let was : (D.heads i (old.0)).live b ≡ Some v = sym (ap (λ (z : Head F). z.live b) (old.1)) ∙ live in
        let on = place (old.0) was (ap (λ (z : Head F). z.cut) (old.1)) in rest (old.0) b v was on (home (old.0) b v was on))
    | inr new ↦ elim ((new.1).each b) [
      | inl same ↦ elim (same.1) [
        | inl was ↦ (let is : (D.heads i false).live b ≡ Some v = sym was ∙ live in let on = at-low (new.0) (new.1) (same.0) is in rest false b v is on (home false b v is on))
        | inr gone ↦ absurd (none-some (gone.0) live)
      ]
      | inr last ↦ absurd (touched (new.0) (new.1) (last.0))
    ]
  ]
    where
      place : (e : Bool) → (D.heads i e).live b ≡ Some v → ((w.disk).heads i d).cut ≡ (D.heads i e).cut → LockOf F (B.says i ((D.heads i e).cut) b) ≡ l
      place e was cut = ap (LockOf F) (sym (k.says ((D.heads i e).cut) b (owns e b v was) (cut-high e)) ∙ ap (λ z. (w.book).says i z b) (sym cut)) ∙ under

      top : (u : ℕ) → IsHeader F B D i u ((w.disk).heads i d) → u ≤ B.answered i
      top u header = let p = (header.range).1 in let q = ((t.world).whole).published_answered i in omega arith

      says-there : (u : ℕ) (header : IsHeader F B D i u ((w.disk).heads i d)) → B.owner b ≡ Some i → LockOf F (B.says i u b) ≡ l
      says-there u header own = ap (LockOf F) (sym (k.says u b own (top u header)) ∙ ap (λ z. (w.book).says i z b) (sym (header.cut))) ∙ under

      at-low : (u : ℕ) → IsHeader F B D i u ((w.disk).heads i d) → Untouched F B i (B.low i) u b → (D.heads i false).live b ≡ Some v
          → LockOf F (B.says i ((D.heads i false).cut) b) ≡ l
      at-low u header untouched is =
          let own = owns false b v is in let p = top u header in
          ap (λ z. LockOf F (B.says i z b)) (sym low-is)
          ∙ ap (LockOf F) (sym (steady F B ((t.world).whole) i b own (B.low i) u (omega arith) ((header.range).0) p untouched)) ∙ says-there u header own

      touched : (u : ℕ) → IsHeader F B D i u ((w.disk).heads i d) → Last F B i (B.low i) u b → ⊥
      touched u header last =
          let lo = last.above in let hi = last.below in let p = top u header in
          let high : last.call < B.answered i = omega arith in
          let own = (((t.world).whole).logged i (last.call) lo high).touched b (last.cell) (last.changes) in
          (flushed (last.call) b (last.cell) lo high (last.changes)).0
          (ap (LockOf F) (sym (last-says F B ((t.world).whole) i b own (B.low i) u (omega arith) p last)) ∙ says-there u header own)

pub stay : (F : Files) → StagesStay F
stay F c c' event i l t awake = record {
  flushed = λ free flushed. flushed-event F c t i l awake c' event free flushed;
  at_home = λ minds unwritten flushed home. home-on F c t i l awake (c'.world) (kin F c t i l awake c' event minds) (rests F c t i l awake c' event unwritten) flushed home;
  revoked = λ minds flushed revoked. revoked-on F c t i l awake (c'.world) (kin F c t i l awake c' event minds) flushed revoked;
}
