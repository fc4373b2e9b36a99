-- Writes home with their barrier, a demotion and an unmount, as lists of events.
use Rattle.std.proofs.Common.{ℕ, ◌≡◌, ◌⊎◌, inl, inr, Bool, true, false, None, Some, List, [], ◌∷◌, refl, sym, ap, ◌∙◌, subst, arith, ◌||◌}
use Rattle.std.specs.Prelude.{◌==◌}
use Rattle.std.proofs.lemmas.Bool.{cases_eq, cases_Bool, cond-true, cond-false, eq-eqb, eqb-true}
use Rattle.cluster_laws.specs.Files.{Files, LockOf, Part, Ex, laid}
use Rattle.cluster_laws.specs.Book.{at}
use Rattle.cluster_laws.specs.Mirror.{Head, Disk, flown, ended}
use Rattle.cluster_laws.specs.Log.{Untouched, IsHeader, MayGo}
use Rattle.cluster_laws.specs.World.{Writes, Lands}
use Rattle.cluster_laws.proofs.Cells.{split, none-some, at-same, at-other, at-cases, laid-none, laid-some}
use Rattle.cluster_laws.proofs.Logging.{steady}
use Rattle.cluster_events.specs.Cluster.{WritesFor, Cluster, BookOf, Weakens, Works, Events, Done, Then, Together}
use Rattle.cluster_events.proofs.Eventing.{events_keep}
use Rattle.lock_laws.specs.Lock.{Node}
use Rattle.event_lists.specs.Gives.{DiskOf, released, IsReleased}
use Rattle.event_lists.specs.Stops.{IsIn}
use Rattle.event_lists.specs.Demotions.{committed, KeepsCache}
use Rattle.event_lists.specs.Homes.{with_disk, AreLive, IsWrittenHome, HomeIsEvents, AreUnder, HomeIsAtHome, ByHeader, IsNeedless, IsAtRest, LeavesNone, FlushedIsReleased, IsDown, is_in, revoking, clean, DemotionIsEvents, UnmountIsEvents}
use Rattle.event_lists.proofs.Stopping.{events-append}
use Rattle.event_lists.proofs.Demoting.{commit, flushes, home_revoked, releases, clean_header}

module _ (F : Files) where
  never : {A : Type 0} {b : Bool} → b ≡ false → b ≡ true → A
  never e f = cc

  -- ---- writes home

  -- the blocks are in flight
  record Flown (c : Cluster F) (r i : ℕ) (bs : List ℕ) (d : Disk F) : Type 0 where
    events : Events F c (with_disk F c d)
    blocks : d.blocks ≡ (DiskOf F c).blocks
    heads : d.heads ≡ (DiskOf F c).heads
    flights : (q : ℕ) → (q ≡ r → ⊥) → d.flight q ≡ (DiskOf F c).flight q
    up : (b : ℕ) (v : F.Content) → ((DiskOf F c).flight r b ≡ Some v) ⊎ IsIn b bs → ((DiskOf F c).heads i false).live b ≡ Some v → d.flight r b ≡ Some v
    rest : (b : ℕ) → (IsIn b bs → ⊥) → d.flight r b ≡ (DiskOf F c).flight r b

  fly : (c : Cluster F) (r i : ℕ) (bs : List ℕ) → WritesFor F c r i → c.header_of i ≡ None → (DiskOf F c).heads i true ≡ (DiskOf F c).heads i false
      → AreLive F ((DiskOf F c).heads i false) bs → (d : Disk F) × Flown c r i bs d
  fly c r i [] writer unheaded single live = (
    DiskOf F c,
    record {
      events = Done c;
      blocks = refl;
      heads = refl;
      flights = λ q ne. refl;
      up = λ b v here is. elim here [ inl flies ↦ flies | inr none ↦ absurd none ];
      rest = λ b out. refl;
    },
  )
  fly c r i (b ∷ bs) writer unheaded single live =
      let v = (live.0).0 in
      let one = flown F (DiskOf F c) r b v in
      let next = fly (with_disk F c one) r i bs writer unheaded single (live.1) in
      let n = next.1 in (
        next.0,
        record {
          events = Then c (with_disk F c one) _ (Works (record (c.world) { disk = one }) (Writes r b v i both) (writer, unheaded)) (n.events);
          blocks = n.blocks;
          heads = n.heads;
          flights = λ q ne. n.flights q ne ∙ at-other ((DiskOf F c).flight) r _ q ne;
          up = λ k w here is. n.up k w (put k w here is) is;
          rest = λ k out. n.rest k (λ is. out (inr is)) ∙ ap (λ f. f k) (at-same ((DiskOf F c).flight) r _) ∙ at-other ((DiskOf F c).flight r) b (Some v) k (λ e. out (inl e));
        },
      )
    where
      both : (d : Bool) → ((DiskOf F c).heads i d).live b ≡ Some ((live.0).0)
      both false = (live.0).1
      both true = ap (λ (z : Head F). z.live b) single ∙ (live.0).1

      put : (k : ℕ) (w : F.Content) → ((DiskOf F c).flight r k ≡ Some w) ⊎ IsIn k (b ∷ bs) → ((DiskOf F c).heads i false).live k ≡ Some w
          → ((flown F (DiskOf F c) r b ((live.0).0)).flight r k ≡ Some w) ⊎ IsIn k bs
      put k w here is = elim (cases_eq k b) [
        | inl e ↦ inl (ap (λ f. f k) (at-same ((DiskOf F c).flight) r _)
            ∙ at-cases (λ o. o ≡ Some w) ((DiskOf F c).flight r) b (Some ((live.0).0)) k (λ e. sym ((live.0).1) ∙ ap (((DiskOf F c).heads i false).live) (sym e) ∙ is) (λ ne. absurd (ne e)))
        | inr ne ↦ elim here [
          | inl flies ↦ inl (ap (λ f. f k) (at-same ((DiskOf F c).flight) r _) ∙ at-other ((DiskOf F c).flight r) b (Some ((live.0).0)) k ne ∙ flies)
          | inr among ↦ elim among [ inl e ↦ absurd (ne e) | inr later ↦ inr later ]
        ]
      ]

  pub home_events : HomeIsEvents F
  home_events c r i bs t writer unheaded live =
      let up = fly c r i bs writer unheaded (t.headers i unheaded) live in
      let d = up.0 in
      let f = up.1 in
      let x : ℕ → F.Content = λ (b : ℕ). laid (d.flight r b) (d.blocks b) in
      let landed = ended F d r x in (
        landed,
        record {
          events = events-append F c (with_disk F c d) (with_disk F c landed) (f.events)
              (Then (with_disk F c d) (with_disk F c landed) _ (Works (record (c.world) { disk = landed }) (Lands r x (λ b. settles d r b)) (inl (λ b. refl))) (Done (with_disk F c landed)));
          home = λ b v here is. laid-some _ (f.up b v (inr here) is);
          others = λ b out. ap (λ o. laid o (d.blocks b)) (f.rest b out) ∙ ap (λ g. laid ((DiskOf F c).flight r b) (g b)) (f.blocks);
          landed = λ b. ap (λ g. g b) (at-same (d.flight) r _);
          flights = λ q ne. at-other (d.flight) r _ q ne ∙ f.flights q ne;
          heads = f.heads;
        },
      )
    where
      settles : (d : Disk F) (r b : ℕ) → (laid (d.flight r b) (d.blocks b) ≡ d.blocks b) ⊎ ((v : F.Content) × (d.flight r b ≡ Some v))
      settles d r b = elim (split (d.flight r b)) [ inl none ↦ inl (laid-none _ none) | inr some ↦ inr some ]

  -- only the node itself writes blocks of its journal home while its slot doesn't wait
  no-other : (c : Cluster F) (i : ℕ) → Together F c → c.waits i ≡ false → (r b : ℕ) (v : F.Content) → (r ≡ i → ⊥) → (DiskOf F c).flight r b ≡ Some v
      → (BookOf F c).owner b ≡ Some i → ⊥
  no-other c i t awake r b v ne flies own = elim ((t.alone i r b v flies own).1) [ inl same ↦ ne same | inr waits ↦ (let f = sym awake ∙ waits in cc) ]

  pub home_at_home : HomeIsAtHome F
  home_at_home c i l bs d t awake unheaded under home e b v live here =
      let live' : ((DiskOf F c).heads i false).live b ≡ Some v = sym (ap (λ (z : Head F). z.live b) (old e)) ∙ live in
      let here' : LockOf F ((BookOf F c).says i ((BookOf F c).low i) b) ≡ l =
      ap (λ z. LockOf F ((BookOf F c).says i z b)) (sym (ap (λ (z : Head F). z.cut) (old e) ∙ ((t.world).mirror).alone i)) ∙ here in
      let own = ((t.world).mirror).lives i false b v live' in (
        home.home b v (under.every b v live' here') live',
        λ r. elim (cases_eq r i) [
          | inl e ↦ subst (λ z. d.flight z b ≡ None) (sym e) (home.landed b)
          | inr ne ↦ elim (split (d.flight r b)) [
            | inl none ↦ none
            | inr some ↦ absurd (no-other c i t awake r b (some.0) ne (sym (ap (λ f. f b) (home.flights r ne)) ∙ some.1) own)
          ]
        ],
      )
    where
      old : (e : Bool) → d.heads i e ≡ (DiskOf F c).heads i false
      old false = ap (λ f. f i false) (home.heads)
      old true = ap (λ f. f i true) (home.heads) ∙ t.headers i unheaded

  -- ---- lists, decided

  or-true : (a b : Bool) → (a || b) ≡ true → (a ≡ true) ⊎ (b ≡ true)
  or-true true b e = inl refl
  or-true false b e = inr e

  is_in-true : (b : ℕ) (ks : List ℕ) → is_in b ks ≡ true → IsIn b ks
  is_in-true b [] e = absurd (let f : false ≡ true = e in cc)
  is_in-true b (k ∷ ks) e = elim (or-true (b == k) (is_in b ks) e) [ inl here ↦ inl (eqb-true b k here) | inr later ↦ inr (is_in-true b ks later) ]

  in-is_in : (b : ℕ) (ks : List ℕ) → IsIn b ks → is_in b ks ≡ true
  in-is_in b [] h = absurd h
  in-is_in b (k ∷ ks) (inl e) = ap (λ z. z || is_in b ks) (eq-eqb b k e)
  in-is_in b (k ∷ ks) (inr h) = or-right (b == k) (is_in b ks) (in-is_in b ks h)
    where
      or-right : (a b : Bool) → b ≡ true → (a || b) ≡ true
      or-right true b e = refl
      or-right false b e = e

  live-in : (h : Head F) (bs : List ℕ) (b : ℕ) → AreLive F h bs → IsIn b bs → (v : F.Content) × (h.live b ≡ Some v)
  live-in h [] b live is = absurd is
  live-in h (k ∷ ks) b live (inl e) = subst (λ z. (v : F.Content) × (h.live z ≡ Some v)) (sym e) (live.0)
  live-in h (k ∷ ks) b live (inr later) = live-in h ks b (live.1) later

  -- ---- what comes before a release

  released-after : (c c1 c2 : Cluster F) (i : ℕ) (locks : F.Lock → ℕ → Node) (cache : Part F) → Events F c c1 → IsReleased F c1 c2 i locks cache → IsReleased F c c2 i locks cache
  released-after c c1 c2 i locks cache first r = record {
    back = r.back;
    gives = r.gives;
    events = events-append F c c1 (released F c2 i (r.back) locks cache) first (r.events);
  }

  down-after : (c c1 c2 : Cluster F) (i : ℕ) (bs : List ℕ) (h : Head F) (locks : F.Lock → ℕ → Node) (cache : Part F) → Events F c c1 → IsDown F c1 c2 i bs h locks cache
      → IsDown F c c2 i bs h locks cache
  down-after c c1 c2 i bs h locks cache first down = record {
    disk = down.disk;
    home = down.home;
    release = released-after c c1 (committed F (with_disk F c2 (down.disk)) i h) i locks cache first (down.release);
  }

  -- behind a header with the last call's number a lock may go of which it leaves nothing
  may-commit : (c : Cluster F) (i : ℕ) (h : Head F) (m : F.Lock) → h.cut ≡ (BookOf F c).answered i
      → ((b : ℕ) (v : F.Content) → h.live b ≡ Some v → LockOf F ((BookOf F c).says i ((BookOf F c).answered i) b) ≡ m → ⊥)
      → MayGo F (BookOf F (committed F c i h)) (DiskOf F (committed F c i h)) i m
  may-commit c i h m top none = record {
    unlive = λ d b v live under. none b v (sym (ap (λ f. (f d).live b) (at-same ((DiskOf F c).heads) i (λ d. h))) ∙ live)
        (ap (λ z. LockOf F ((BookOf F c).says i z b)) (sym low) ∙ under);
    untouched = λ n b x lo high change. absurd (let e = low in omega arith);
  }
    where
      low : at ((BookOf F c).low) i (h.cut) i ≡ (BookOf F c).answered i
      low = at-same ((BookOf F c).low) i (h.cut) ∙ top

  flushed-first : (c : Cluster F) (i : ℕ) (h : Head F) → Together F c → IsAtRest F c i → IsHeader F (BookOf F c) (DiskOf F c) i ((BookOf F c).answered i) h
      → Events F c (committed F c i h) × Together F (committed F c i h) × IsAtRest F (committed F c i h) i
      × ((b : ℕ) → Untouched F (BookOf F (committed F c i h)) i ((BookOf F (committed F c i h)).low i) ((BookOf F c).answered i) b)
      × ((DiskOf F (committed F c i h)).heads i false ≡ h)
  flushed-first c i h t rest header =
      let events = commit F c i ((BookOf F c).answered i) h t (rest.unheaded) (i, (rest.runs, inl refl), rest.idle) (never (rest.awake)) header in (
        events,
        events_keep F c (committed F c i h) events t,
        record {
          here = rest.here;
          runs = rest.runs;
          all = rest.all;
          awake = rest.awake;
          unheaded = at-same (c.header_of) i None;
          idle = ((rest.idle).0, λ k has. at-cases (λ z. z ≡ Some i → ⊥) (c.header_of) i None k (λ e has. none-some refl has) (λ ne has. (rest.idle).1 k has) has);
        },
        λ b n low high. absurd (let e = at-same ((BookOf F c).low) i (h.cut) in let f = header.cut in omega arith),
        head false,
      )
    where
      head : (d : Bool) → at ((DiskOf F c).heads) i (λ d. h) i d ≡ h
      head d = ap (λ f. f d) (at-same ((DiskOf F c).heads) i (λ d. h))

  -- a block of the node that no call touched is in one place
  same-place : (c : Cluster F) (i : ℕ) → Together F c → ((b : ℕ) → Untouched F (BookOf F c) i ((BookOf F c).low i) ((BookOf F c).answered i) b)
      → (b : ℕ) → (BookOf F c).owner b ≡ Some i → LockOf F ((BookOf F c).says i ((BookOf F c).answered i) b) ≡ LockOf F ((BookOf F c).says i ((BookOf F c).low i) b)
  same-place c i t untouched b own = let p = ((t.world).whole).low_published i in let q = ((t.world).whole).published_answered i in
      ap (LockOf F) (steady F (BookOf F c) ((t.world).whole) i b own ((BookOf F c).low i) ((BookOf F c).answered i) (omega arith) (omega arith) (omega arith) (untouched b))

  pub flushed_release : FlushedIsReleased F
  flushed_release c i _ locks cache t rest (ByHeader h header) weakens leaves cached =
      let f = flushed-first c i h t rest header in
      released-after c (committed F c i h) (committed F c i h) i locks cache (f.0)
      (releases F (committed F c i h) i locks cache (f.1) (rest.here) weakens (rest.all)
      (λ m ex. elim (leaves m ex) [ inl stays ↦ inl stays | inr none ↦ inr (may-commit c i h m (header.cut) none) ]) cached)
  flushed_release c i _ locks cache t rest (IsNeedless untouched) weakens leaves cached =
      releases F c i locks cache t (rest.here) weakens (rest.all) (λ m ex. elim (leaves m ex) [ inl stays ↦ inl stays | inr none ↦ inr (may m none) ]) cached
    where
      old : (d : Bool) → (DiskOf F c).heads i d ≡ (DiskOf F c).heads i false
      old false = refl
      old true = t.headers i (rest.unheaded)

      may : (m : F.Lock) → ((b : ℕ) (v : F.Content) → ((DiskOf F c).heads i false).live b ≡ Some v → LockOf F ((BookOf F c).says i ((BookOf F c).answered i) b) ≡ m → ⊥)
          → MayGo F (BookOf F c) (DiskOf F c) i m
      may m none = record {
        unlive = λ d b v live under. (let was : ((DiskOf F c).heads i false).live b ≡ Some v = sym (ap (λ (z : Head F). z.live b) (old d)) ∙ live in
            none b v was (same-place c i t untouched b (((t.world).mirror).lives i false b v was) ∙ under));
        untouched = flushes F (BookOf F c) i m untouched;
      }

  -- ---- a demotion

  -- where nothing is unflushed, the journal's head with the last call's number is a header
  still : (c : Cluster F) (i : ℕ) (d : Disk F) → Together F c → (BookOf F c).published i ≡ (BookOf F c).answered i
      → ((b : ℕ) → Untouched F (BookOf F c) i ((BookOf F c).low i) ((BookOf F c).answered i) b) → d.heads ≡ (DiskOf F c).heads
      → ((r b : ℕ) (v : F.Content) → d.flight r b ≡ Some v → (BookOf F c).owner b ≡ Some i → ⊥)
      → IsHeader F (BookOf F c) d i ((BookOf F c).answered i) (record { cut = (BookOf F c).answered i; live = ((DiskOf F c).heads i false).live })
  still c i d t all untouched heads none_flying = let p = ((t.world).whole).low_published i in record {
    cut = refl;
    range = (omega (arith, all, p), omega (arith, all));
    each = λ b. inl (untouched b, inl (sym (ap (λ f. (f i false).live b) heads)));
    none_flying = none_flying;
  }

  module _ (c : Cluster F) (i : ℕ) (t : Together F c) (rest : IsAtRest F c i)
      (untouched : (b : ℕ) → Untouched F (BookOf F c) i ((BookOf F c).low i) ((BookOf F c).answered i) b) (bs : List ℕ) (live : AreLive F ((DiskOf F c).heads i false) bs)
      (locks : F.Lock → ℕ → Node) (cache : Part F) (weakens : (m : F.Lock) → Weakens i (c.locks m) (locks m)) (cached : KeepsCache F c i locks cache) where
    at_home : (d : Disk F) × IsWrittenHome F c i i bs d
    at_home = home_events c i i bs t (rest.runs, inl refl) (rest.unheaded) live

    none_flying : (r b : ℕ) (v : F.Content) → (at_home.0).flight r b ≡ Some v → (BookOf F c).owner b ≡ Some i → ⊥
    none_flying r b v flies own = elim (cases_eq r i) [
      | inl e ↦ none-some ((at_home.1).landed b) (subst (λ z. (at_home.0).flight z b ≡ Some v) e flies)
      | inr ne ↦ no-other c i t (rest.awake) r b v ne (sym (ap (λ f. f b) ((at_home.1).flights r ne)) ∙ flies) own
    ]

    -- a header goes, with its barrier, and then the locks of which it leaves nothing
    goes : (h : Head F) → IsHeader F (BookOf F c) (at_home.0) i ((BookOf F c).answered i) h → LeavesNone F c i h locks → IsDown F c c i bs h locks cache
    goes h header left =
        let first = (at_home.1).events in
        let c1 = with_disk F c (at_home.0) in
        let t1 = events_keep F c c1 first t in
        let second = commit F c1 i ((BookOf F c).answered i) h t1 (rest.unheaded) (i, (rest.runs, inl refl), ((at_home.1).landed, (rest.idle).1)) (never (rest.awake)) header in
        let c2 = committed F c1 i h in
        let t2 = events_keep F c1 c2 second t1 in
        let end = releases F c2 i locks cache t2 (rest.here) weakens (rest.all)
        (λ m ex. elim (left m ex) [ inl stays ↦ inl stays | inr none ↦ inr (may-commit c1 i h m (header.cut) none) ]) cached in record {
          disk = at_home.0;
          home = at_home.1;
          release = released-after c c2 c2 i locks cache (events-append F c c1 c2 first second) end;
        }

  demote : (c : Cluster F) (i : ℕ) (l : F.Lock) (bs : List ℕ) (locks : F.Lock → ℕ → Node) (cache : Part F) → Together F c → IsAtRest F c i
      → ((b : ℕ) → Untouched F (BookOf F c) i ((BookOf F c).low i) ((BookOf F c).answered i) b)
      → AreUnder F (BookOf F c) i ((BookOf F c).answered i) l ((DiskOf F c).heads i false) bs → ((m : F.Lock) → Weakens i (c.locks m) (locks m))
      → ((m : F.Lock) → (c.locks m i).state ≡ Ex → ((locks m i).state ≡ Ex) ⊎ (m ≡ l)) → KeepsCache F c i locks cache
      → IsDown F c c i bs (revoking F c i ((DiskOf F c).heads i false) bs) locks cache
  demote c i l bs locks cache t rest untouched under weakens lone cached =
      let home = at_home c i t rest untouched bs (under.live) locks cache weakens cached in
      let d = home.0 in
      let flying = none_flying c i t rest untouched bs (under.live) locks cache weakens cached in
      let base = still c i d t (rest.all) untouched ((home.1).heads) flying in
      let h0 : Head F = record { cut = (BookOf F c).answered i; live = ((DiskOf F c).heads i false).live } in
      let there = home_at_home c i l bs d t (rest.awake) (rest.unheaded) before (home.1) in
      let cut : (d.heads i false).cut ≡ (BookOf F c).low i = ap (λ f. (f i false).cut) ((home.1).heads) ∙ ((t.world).mirror).alone i in
      let header = home_revoked F (BookOf F c) d i ((BookOf F c).answered i) h0 (λ b. is_in b bs) l base there (λ b e. untouched b)
      (λ b v e is. ap (λ z. LockOf F ((BookOf F c).says i z b)) cut ∙ before.under b (is_in-true b bs e)) in
      goes c i t rest untouched bs (under.live) locks cache weakens cached (revoking F c i ((DiskOf F c).heads i false) bs) header
      (λ m ex. elim (lone m ex) [ inl stays ↦ inl stays | inr is ↦ inr (λ b v live on. left b v live (on ∙ is)) ])
    where
      place : (b : ℕ) (v : F.Content) → ((DiskOf F c).heads i false).live b ≡ Some v
          → LockOf F ((BookOf F c).says i ((BookOf F c).answered i) b) ≡ LockOf F ((BookOf F c).says i ((BookOf F c).low i) b)
      place b v live = same-place c i t untouched b (((t.world).mirror).lives i false b v live)

      before : AreUnder F (BookOf F c) i ((BookOf F c).low i) l ((DiskOf F c).heads i false) bs
      before = record {
        live = under.live;
        under = λ b is. (let v = live-in ((DiskOf F c).heads i false) bs b (under.live) is in sym (place b (v.0) (v.1)) ∙ under.under b is);
        every = λ b v live on. under.every b v live (place b v live ∙ on);
      }

      left : (b : ℕ) (v : F.Content) → (revoking F c i ((DiskOf F c).heads i false) bs).live b ≡ Some v → LockOf F ((BookOf F c).says i ((BookOf F c).answered i) b) ≡ l → ⊥
      left b v live on = elim (cases_Bool (is_in b bs)) [
        | inl e ↦ none-some (cond-true _ _ _ e) live
        | inr e ↦ never e (in-is_in b bs (under.every b v (sym (cond-false _ _ _ e) ∙ live) on))
      ]

  unmount : (c : Cluster F) (i : ℕ) (bs : List ℕ) (locks : F.Lock → ℕ → Node) (cache : Part F) → Together F c → IsAtRest F c i
      → ((b : ℕ) → Untouched F (BookOf F c) i ((BookOf F c).low i) ((BookOf F c).answered i) b) → AreLive F ((DiskOf F c).heads i false) bs
      → ((b : ℕ) (v : F.Content) → ((DiskOf F c).heads i false).live b ≡ Some v → IsIn b bs) → ((m : F.Lock) → Weakens i (c.locks m) (locks m)) → KeepsCache F c i locks cache
      → IsDown F c c i bs (clean F c i) locks cache
  unmount c i bs locks cache t rest untouched live every weakens cached =
      let home = at_home c i t rest untouched bs live locks cache weakens cached in
      let flying = none_flying c i t rest untouched bs live locks cache weakens cached in
      let p = ((t.world).whole).low_published i in let all = rest.all in
      let header = clean_header F (BookOf F c) (home.0) i ((BookOf F c).answered i) (omega (arith, p, all), omega (arith, all)) untouched
      (λ b v is. let was = sym (ap (λ f. (f i false).live b) ((home.1).heads)) ∙ is in (home.1).home b v (every b v was) was) flying in
      goes c i t rest untouched bs live locks cache weakens cached (clean F c i) header (λ m ex. inr (λ b v is on. none-some refl is))

  -- ---- with a flush before, where one is needed

  pub demotion : DemotionIsEvents F
  demotion c i l _ bs locks cache t rest (IsNeedless untouched) under weakens lone cached = demote c i l bs locks cache t rest untouched under weakens lone cached
  demotion c i l _ bs locks cache t rest (ByHeader h header) under weakens lone cached =
      let f = flushed-first c i h t rest header in
      let c1 = committed F c i h in
      let under' : AreUnder F (BookOf F c1) i ((BookOf F c1).answered i) l ((DiskOf F c1).heads i false) bs =
      subst (λ z. AreUnder F (BookOf F c1) i ((BookOf F c1).answered i) l z bs) (sym (f.4)) (record { live = under.live; under = under.under; every = under.every }) in
      subst (λ z. IsDown F c c1 i bs (revoking F c i z bs) locks cache) (f.4)
      (down-after c c1 c1 i bs (revoking F c1 i ((DiskOf F c1).heads i false) bs) locks cache (f.0) (demote c1 i l bs locks cache (f.1) (f.2) (f.3) under' weakens lone cached))

  pub unmounts : UnmountIsEvents F
  unmounts c i _ bs locks cache t rest (IsNeedless untouched) live every weakens cached = unmount c i bs locks cache t rest untouched live every weakens cached
  unmounts c i _ bs locks cache t rest (ByHeader h header) live every weakens cached =
      let f = flushed-first c i h t rest header in
      let c1 = committed F c i h in
      down-after c c1 c1 i bs (clean F c i) locks cache (f.0)
      (unmount c1 i bs locks cache (f.1) (f.2) (f.3) (subst (λ z. AreLive F z bs) (sym (f.4)) live)
      (λ b v is. every b v (ap (λ (z : Head F). z.live b) (sym (f.4)) ∙ is)) weakens cached)
