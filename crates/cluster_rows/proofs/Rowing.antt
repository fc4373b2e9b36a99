-- Each event meets the row of its item.
use Rattle.std.proofs.Common.{ℕ, suc, ◌≡◌, ◌≤◌, ◌<◌, ◌⊎◌, inl, inr, Bool, true, false, ◌&&◌, Some, [], refl, sym, ap, ◌∙◌, subst, arith}
use Rattle.std.specs.Prelude.{not}
use Rattle.std.proofs.lemmas.Bool.{cases_eq, cases_Bool}
use Rattle.cluster_laws.specs.Files.{Files, LockOf, State, Un, Sh, Df, Ex}
use Rattle.cluster_laws.specs.Book.{Book, W, Seen}
use Rattle.cluster_laws.specs.History.{Gone}
use Rattle.cluster_laws.specs.World.{World, Sound}
use Rattle.cluster_laws.specs.World as world
use Rattle.cluster_laws.proofs.Cells.{split, none-some, ex-held, at-same, at-other, at-cases, whose-none, whose-some}
use Rattle.cluster_events.proofs.Locking.{receives-held}
use Rattle.cluster_events.proofs.Eventing.{state-step, waits-acts}
use Rattle.cluster_laws.proofs.Logging.{steady}
use Rattle.cluster_laws.proofs.Locking.{seen_by_lock}
use Rattle.cluster_laws.proofs.Running.{step_keeps, told-kept}
use Rattle.lock_laws.specs.Lock.{Node, goes, leq, Holds}
use Rattle.lock_laws.specs.Lock as lock
use Rattle.cluster_events.specs.Cluster.{Cluster, BookOf, acts, Sends, Rests, OfOne, Granted, Receives, NoGrant, Takes, Weakens, Keeps, GoesTo, NothingUnder, Event, Works, Mails, IsGranted, GoesDown, Stops, Fences, Views, Joins, Recovers, PastEnds, Together}
use Rattle.cluster_rows.specs.Rows.{InEach, AnswerRow, AsksRow, DownRow, GrantsRow, Row, RowsHold, HeldStays, CleanRow, ViewsAreSeen, CalmStays}

true-false : {b : Bool} → b ≡ true → b ≡ false → ⊥
true-false e f = cc

acting : (runs waits : Bool) → (runs && not waits) ≡ true → (runs ≡ true) × (waits ≡ false)
acting true true e = absurd (let f : false ≡ true = e in cc)
acting true false e = (refl, refl)
acting false waits e = absurd (let f : false ≡ true = e in cc)

goes-un : (s : State) → goes s Un ≡ true
goes-un Un = refl
goes-un Sh = refl
goes-un Df = refl
goes-un Ex = refl

module _ (F : Files) (c : Cluster F) (t : Together F c) where
  abbrev B : Book F
  B = BookOf F c

  answer : (j : ℕ) → acts F c j ≡ true → AnswerRow F c j
  answer j a = acting (c.runs j) (c.waits j) a

  -- a block of a node is under locks that it holds exclusive, in every cut
  exclusive : (i b : ℕ) → B.owner b ≡ Some i → InEach F c b (λ l. B.state i l ≡ Ex)
  exclusive i b own cut box = subst (λ x. B.state i (LockOf F x) ≡ Ex) (sym (whose-some _ _ own)) (((t.world).whole).owned i (cut i) b own (box i).0 (box i).1)

  reads : (j b : ℕ) → (B.state j (LockOf F (W F B (B.answered) b)) ≡ Un → ⊥) → InEach F c b (λ l. B.state j l ≡ Un → ⊥)
  reads j b held cut box = elim ((seen_by_lock F B ((t.world).whole) j b held).owner) [
    | inl nobody ↦ subst (λ x. B.state j (LockOf F x) ≡ Un → ⊥) (whose-none _ _ nobody ∙ sym (whose-none _ _ nobody)) held
    | inr own ↦ ex-held (exclusive j b own cut box)
  ]

  grants : (i : ℕ) (l : F.Lock) (n : ℕ → Node) (h : Receives i (c.locks l) n) → (i ≡ c.past → ⊥) → ((k : ℕ) → c.waits k ≡ false) → GrantsRow F c i l n h
  grants i l _ NoGrant here none = tt
  grants i l _ (Takes s down member fresh runs) here none = record {
    asked = elim (cases_Bool ((c.locks l i).asked)) [
      | inl e ↦ e
      | inr e ↦ absurd (none-some (((t.locks l).fine i).idle e fresh).2 down)
    ];
    none_waits = none;
    others = λ j ne. elim (cases_eq j (c.past)) [
      | inl e ↦ subst (λ j. goes s (B.state j l) ≡ true) (sym e) (subst (λ z. goes s z ≡ true) (sym (t.ended (none (c.past)) l)) (goes-un s))
      | inr out ↦ subst (λ z. goes s z ≡ true) (sym (t.tied j l out)) (((t.locks l).apart i j (λ e. ne (sym e))) s _ (lock.Granted s down) Holds)
    ];
  }

  module _ (i : ℕ) (locks : F.Lock → ℕ → Node) (here : i ≡ c.past → ⊥) (l : F.Lock) (h : Weakens i (c.locks l) (locks l))
      (clean : (c.locks l i).state ≡ Ex → ((locks l i).state ≡ Ex) ⊎ NothingUnder F B i l) where
    nothing_under : (c.locks l i).state ≡ Ex → ((locks l i).state ≡ Ex → ⊥) → NothingUnder F B i l
    nothing_under ex not_ex = elim (clean ex) [ inl still ↦ absurd (not_ex still) | inr under ↦ under ]

    under-none : (b : ℕ) → NothingUnder F B i l → B.owner b ≡ Some i → InEach F c b (λ m. m ≡ l → ⊥)
    under-none b under own cut box = subst (λ x. LockOf F x ≡ l → ⊥) (sym (whose-some _ _ own)) (under (cut i) b own (box i).0 (box i).1)

    weaker : (n : ℕ → Node) → Weakens i (c.locks l) n → ((n i).state ≡ (c.locks l i).state)
        ⊎ ((leq ((n i).state) ((c.locks l i).state) ≡ true) × ((n i).state ≡ (c.locks l i).state → ⊥) × ((c.locks l i).state ≡ Un → ⊥))
    weaker _ Keeps = inl refl
    weaker _ (GoesTo s member fresh taken runs low held less) = inr (
      subst (λ (z : Node). leq (z.state) ((c.locks l i).state) ≡ true) (sym (at-same (c.locks l) i _)) low,
      λ e. less (sym (ap (λ (z : Node). z.state) (at-same (c.locks l) i _)) ∙ e),
      held,
    )

    down : DownRow F c i locks l
    down = record {
      weaker = weaker (locks l) h;
      unlive = λ ex not_ex d b v live. under-none b (nothing_under ex not_ex) (((t.world).mirror).lives i d b v live);
      landed = λ ex not_ex b v flight. of-flight ex not_ex b (((t.world).mirror).flights i b v flight).0
          (((t.world).mirror).lives (((t.world).mirror).flights i b v flight).0 false b v ((((t.world).mirror).flights i b v flight).1 false));
    }
      where
        -- what a replay puts home is under a lock that its slot holds exclusive, and so not under this one
        of-flight : (c.locks l i).state ≡ Ex → ((locks l i).state ≡ Ex → ⊥) → (b k : ℕ) → B.owner b ≡ Some k → InEach F c b (λ m. m ≡ l → ⊥)
        of-flight ex not_ex b k own cut box e = elim (cases_eq k i) [
          | inl same ↦ under-none b (nothing_under ex not_ex) (subst (λ k. B.owner b ≡ Some k) same own) cut box e
          | inr ne ↦ ne (((t.world).whole).apart k i l (subst (λ m. B.state k m ≡ Ex) e (exclusive k b own cut box)) (ex-held (t.tied i l here ∙ ex)))
        ]

  -- who has an answered call that isn't published acts
  publishing : (i : ℕ) → B.published i < B.answered i → AnswerRow F c i
  publishing i some = elim (cases_Bool (acts F c i)) [
    | inl a ↦ answer i a
    | inr idle ↦ absurd (let q = (t.quiet i idle).0 in omega arith)
  ]

  asks : (l : F.Lock) (n : ℕ → Node) (h : Sends (c.locks l) n) → AsksRow F c l n h
  asks l _ (OfOne k _ (lock.Asks s member fresh taken waits un asked) state slot same) = record {
    member = sym (t.members k l) ∙ member;
    slot = sym (t.waiting k l) ∙ waits;
    settled = fresh;
    un = un;
    none_stands = asked;
  }
  asks l _ (OfOne k _ (lock.HearsReport s q e) state slot same) = tt
  asks l _ (OfOne k _ (lock.HearsEnd q e) state slot same) = tt
  asks l _ (OfOne k _ (lock.HearsDown s q e) state slot same) = tt
  asks l _ (OfOne k _ (lock.HearsAsk s q e) state slot same) = tt
  asks l _ (OfOne k _ (lock.Receives s d m f w) state slot same) = tt
  asks l _ (OfOne k _ (lock.Drops s d) state slot same) = tt
  asks l _ (OfOne k _ (lock.Lowers s m f t w le un) state slot same) = tt
  asks l _ (OfOne k _ (lock.TakesView m r n) state slot same) = tt
  asks l _ (OfOne k _ lock.Stops state slot same) = tt
  asks l _ (OfOne k _ (lock.IsRecovered w) state slot same) = tt
  asks l _ (OfOne k _ (lock.Joins m) state slot same) = tt
  asks l _ Rests = tt
  asks l _ (Granted k s ready runs wants all) = tt

  -- ---- what is held exclusive, while a call isn't published

  busy : (i k : ℕ) → B.published i < B.answered i → B.published k ≡ B.answered k → i ≡ k → ⊥
  busy i k some all e = let p = ap (B.published) e in let q = ap (B.answered) e in absurd (omega arith)

  held-stays : (c' : Cluster F) (event : Event F c c') (i : ℕ) (l : F.Lock) → B.published i < B.answered i → B.state i l ≡ Ex → (BookOf F c').state i l ≡ Ex
  held-stays _ (Works v step may) i l some ex = ap (λ f. f i l) (state-step F c t v step may) ∙ ex
  held-stays _ (Mails locks h) i l some ex = ex
  held-stays _ (IsGranted k locks here none h) i l some ex = at-cases (λ f. f l ≡ Ex) (B.state) k (λ m. (locks m k).state) i
      (λ e. (let was : (c.locks l k).state ≡ Ex = sym (t.tied k l here) ∙ subst (λ z. B.state z l ≡ Ex) e ex in
      receives-held k _ _ (h l) (t.locks l) (ex-held was) ∙ was)) (λ ne. ex)
  held-stays _ (GoesDown k locks cache here h all clean cached) i l some ex = ap (λ f. f l) (at-other (B.state) k _ i (busy i k some all)) ∙ ex
  held-stays _ (Stops k here runs all) i l some ex = ex
  held-stays _ (Fences k out unfenced none) i l some ex = ex
  held-stays _ Views i l some ex = ex
  held-stays _ (Joins k here out fenced waits) i l some ex = ex
  held-stays _ (Recovers k here wait nothing_left unheaded told) i l some ex =
      ap (λ f. f l) (at-other (B.state) k _ i (busy i k some (t.quiet k (waits-acts (c.runs k) (c.waits k) wait)).0)) ∙ ex
  held-stays _ (PastEnds wait nothing_left unheaded) i l some ex =
      ap (λ f. f l) (at-other (B.state) (c.past) _ i (busy i (c.past) some (t.quiet (c.past) (waits-acts (c.runs (c.past)) (c.waits (c.past)) wait)).0)) ∙ ex

  rows : (c' : Cluster F) (event : Event F c c') → Row F c c' event
  rows _ (Works _ (world.Answers j said v change cache no_sync a) may) = answer j may
  rows _ (Works _ (world.Syncs j said does still calm) may) = answer j may
  rows _ (Works _ (world.Publishes i some) may) = (publishing i some, ap suc ((t.world).counted i))
  rows _ (Works _ (world.Begins i h single heads) may) = record {
    writer = ((may.0).0, at-same (c.header_of) i (Some ((may.0).0)), (may.0).1, (may.0).2);
    risen = (let e = ((t.world).mirror).alone i in let p = (heads.cut).0 in omega (arith, e));
    within = (let e = (t.world).counted i in let p = (heads.cut).1 in omega (arith, e));
  }
  rows _ (Works _ (world.Ends i d) may) = tt
  rows _ (Works _ (world.Writes r b v i live) may) = record {
    member = (may.0).0;
    whose = (may.0).1;
    live = live;
    exclusive = exclusive i b (((t.world).mirror).lives i false b v (live false));
  }
  rows _ (Works _ (world.Lands r x settles) may) = tt
  rows _ (Works _ (world.Settles i p all own one dead) may) = tt
  rows _ (Works _ (world.Lower i state cache lowers) may) = absurd may
  rows _ (Works _ (world.Grants i state raises) may) = absurd may
  rows _ (Works _ (world.Reads j b held) may) = (answer j (may.0), reads j b held)
  rows _ (Works _ (world.Shrinks j cache forgets) may) = tt
  rows _ (Works v (world.Loses i k all above below calm next none single) may) = record {
    waits = may.0;
    over = may.1;
    ended = may.2;
    right = (step_keeps F (c.world) v (world.Loses i k all above below calm next none single) (t.world)).fits ((c.world).items) [] (Gone i (B.low i) k) refl;
  }
  rows _ (Mails locks h) = λ l. asks l (locks l) (h l)
  rows _ (IsGranted i locks here none h) = λ l. grants i l (locks l) (h l) here none
  rows _ (GoesDown i locks cache here h all clean cached) = λ l. down i locks here l (h l) (clean l)
  rows _ (Stops i here runs all) = runs
  rows _ (Fences i out unfenced none) = (out, unfenced)
  rows _ Views = tt
  rows _ (Joins i here out fenced waits) = (out, fenced, waits)
  rows _ (Recovers i here wait nothing_left unheaded told) = record {
    waits = wait;
    unheaded = unheaded;
    clean = λ d b. elim (split ((((c.world).disk).heads i d).live b)) [
      | inl none ↦ none
      | inr some ↦ absurd (nothing_left b (((t.world).mirror).lives i d b (some.0) (some.1)))
    ];
    told = told;
  }
  rows _ (PastEnds wait nothing_left unheaded) = tt

pub held_stays : (F : Files) → HeldStays F
held_stays F c c' event i l t some ex = held-stays F c t c' event i l some ex

pub rows_hold : (F : Files) → RowsHold F
rows_hold F c c' event t = rows F c t c' event

pub clean_row : (F : Files) → CleanRow F
clean_row F w i u h header none untouched b v live = elim (header.each b) [
  | inl same ↦ elim (same.1) [
    | inl as_was ↦ absurd (none-some (sym as_was ∙ none b) live)
    | inr home ↦ home.1 v live
  ]
  | inr last ↦ (let l = last.0 in absurd (none-some (untouched b (l.call) (l.above) (l.below)) (l.changes)))
]

-- ---- full

pub views_seen : (F : Files) → ViewsAreSeen F
views_seen F w i n b x s low high calm view cut box early = elim (seen.owner) [
  | inl nobody ↦ whose-none _ _ nobody ∙ sym (whose-none _ _ nobody) ∙ seen.cell
  | inr own ↦ whose-some _ _ own
      ∙ sym (steady F (w.book) (s.whole) i b own (cut i) n (box i).0 early (omega arith) (λ m lo hi. (((s.whole).logged i m (let p = (box i).0 in omega arith) (omega arith)).tells).empty (calm m (let p = (box i).0 in omega arith) hi) b))
      ∙ sym (whose-some _ _ own) ∙ seen.cell
]
  where
    seen : Seen F (w.book) i n b x
    seen = ((s.whole).past i n low high).seen b x view

pub calm_stays : (F : Files) → CalmStays F
calm_stays F w _ i n (world.Answers j said v c cache no_sync a) s high calm m low below = ap (F.Changes) (told-kept F (w.book) j said i (suc m) (omega arith)) ∙ calm m low below
calm_stays F w _ i n (world.Syncs j said does still quiet) s high calm m low below = ap (F.Changes) (told-kept F (w.book) j said i (suc m) (omega arith)) ∙ calm m low below
calm_stays F w _ i n (world.Publishes k some) s high calm m low below = calm m low below
calm_stays F w _ i n (world.Begins k h single heads) s high calm m low below = calm m low below
calm_stays F w _ i n (world.Ends k c) s high calm m low below = calm m (at-cases (λ z. z ≤ m → (w.book).low i ≤ m) ((w.book).low) k (((w.disk).heads k c).cut) i
    (λ e lo. (let p = ((s.mirror).cuts k c).0 in let q : (w.book).low i ≡ (w.book).low k = ap ((w.book).low) e in omega (arith, p, q, lo))) (λ ne lo. lo) low) below
calm_stays F w _ i n (world.Writes r b v k live) s high calm m low below = calm m low below
calm_stays F w _ i n (world.Lands r x settles) s high calm m low below = calm m low below
calm_stays F w _ i n (world.Settles k p all own one dead) s high calm m low below = calm m low below
calm_stays F w _ i n (world.Lower k state cache lowers) s high calm m low below = calm m low below
calm_stays F w _ i n (world.Grants k state raises) s high calm m low below = calm m low below
calm_stays F w _ i n (world.Reads j b held) s high calm m low below = calm m low below
calm_stays F w _ i n (world.Shrinks j cache forgets) s high calm m low below = calm m low below
calm_stays F w _ i n (world.Loses k o all above under quiet next none single) s high calm m low below =
    calm m (at-cases (λ z. z ≤ m → (w.book).low i ≤ m) ((w.book).low) k ((w.book).answered k) i
    (λ e lo. (let p = (s.whole).low_published k in let p' = (s.whole).published_answered k in let q : (w.book).low i ≡ (w.book).low k = ap ((w.book).low) e in omega (arith, p, p', q, lo))) (λ ne lo. lo) low) below
