-- A crash of a set of nodes, and a fence, as lists of events.
use Rattle.std.proofs.Common.{ℕ, zero, suc, ◌+◌, ◌-◌, ◌≡◌, ◌≤◌, inl, inr, true, false, None, Some, List, [], ◌∷◌, refl, sym, ap, ◌∙◌, subst, arith}
use Rattle.cluster_laws.specs.Files.{Files}
use Rattle.cluster_laws.specs.Book.{at, flushed}
use Rattle.cluster_laws.specs.Mirror.{ended, chosen, either}
use Rattle.cluster_laws.specs.World.{Publishes, Lands, Ends}
use Rattle.cluster_laws.proofs.Cells.{none-some, at-same, at-other, at-cases}
use Rattle.cluster_events.specs.Cluster.{Cluster, BookOf, worked, Event, Works, Stops, Fences, Events, Done, Then, Together}
use Rattle.cluster_events.proofs.Eventing.{event_keeps, events_keep}
use Rattle.cluster_parts.specs.Parts.{published_one, published_next, published_of}
use Rattle.cluster_parts.proofs.Stopping.{next-published, same-next}
use Rattle.event_lists.specs.Stops.{with_world, halted, crashed, NoneIs, AreMembers, IsIn, CrashIsEvents, CrashAfterWrite, Header, decided, after_fence, IsDecided, AreHeadersOf, FenceIsEvents}

pub events-append : (F : Files) (a b c : Cluster F) → Events F a b → Events F b c → Events F a c
events-append F a _ c (Done _) more = more
events-append F a b c (Then _ m _ event events) more = Then a m c event (events-append F m b c events more)

module _ (F : Files) where
  next-events : (n i : ℕ) (c : Cluster F) → (BookOf F c).published i + n ≤ (BookOf F c).answered i → Events F c (with_world F c (published_next F n i (c.world)))
  next-events zero i c h = Done c
  next-events (suc n) i c h =
      let s = at-same ((BookOf F c).published) i (suc ((BookOf F c).published i)) in
      Then c (with_world F c (published_one F i (c.world))) _ (Works (published_one F i (c.world)) (Publishes i (omega arith)) tt)
      (next-events n i (with_world F c (published_one F i (c.world))) (omega (arith, s, h)))

  pub published-events : (c : Cluster F) (i : ℕ) → Together F c → Events F c (with_world F c (published_of F i (c.world)))
  published-events c i t = let p = ((t.world).whole).published_answered i in next-events ((BookOf F c).answered i - (BookOf F c).published i) i c (omega arith)

  pub all-published : (c : Cluster F) (i : ℕ) → Together F c → ((published_of F i (c.world)).book).published i ≡ ((published_of F i (c.world)).book).answered i
  all-published c i t =
      let p = ((t.world).whole).published_answered i in
      let n = next-published F ((BookOf F c).answered i - (BookOf F c).published i) i (c.world) in
      let a = ap (λ f. f i) ((same-next F ((BookOf F c).answered i - (BookOf F c).published i) i (c.world)).answered) in omega (arith, n, a)

  halted-events : (c : Cluster F) (i : ℕ) → Together F c → (i ≡ c.past → ⊥) → c.runs i ≡ true → Events F c (halted F c i)
  halted-events c i t here runs = events-append F c (with_world F c (published_of F i (c.world))) (halted F c i) (published-events c i t)
      (Then (with_world F c (published_of F i (c.world))) (halted F c i) (halted F c i) (Stops i here runs (all-published c i t)) (Done (halted F c i)))

  crash-events : (c : Cluster F) (is : List ℕ) → Together F c → NoneIs (c.past) is → AreMembers F c is → Events F c (crashed F c is)
  crash-events c [] t none members = Done c
  crash-events c (i ∷ is) t none members =
      let e = halted-events c i t (none.0) (members.0) in
      events-append F c (halted F c i) (crashed F (halted F c i) is) e (crash-events (halted F c i) is (events_keep F c (halted F c i) e t) (none.1) (members.1))

  stays : (c : Cluster F) (is : List ℕ) (i : ℕ) → (c.runs i ≡ false) × (c.waits i ≡ true) → ((crashed F c is).runs i ≡ false) × ((crashed F c is).waits i ≡ true)
  stays c [] i h = h
  stays c (j ∷ js) i h = stays (halted F c j) js i (at-cases (λ z. z ≡ false) (c.runs) j false i (λ e. refl) (λ ne. h.0), at-cases (λ z. z ≡ true) (c.waits) j true i (λ e. refl) (λ ne. h.1))

  stopped-in : (c : Cluster F) (is : List ℕ) (i : ℕ) → IsIn i is → ((crashed F c is).runs i ≡ false) × ((crashed F c is).waits i ≡ true)
  stopped-in c [] i h = absurd h
  stopped-in c (j ∷ js) i (inl e) = stays (halted F c j) js i (
    subst (λ z. at (c.runs) j false z ≡ false) (sym e) (at-same (c.runs) j false),
    subst (λ z. at (c.waits) j true z ≡ true) (sym e) (at-same (c.waits) j true),
  )
  stopped-in c (j ∷ js) i (inr h) = stopped-in (halted F c j) js i h

  crash-disk : (c : Cluster F) (is : List ℕ) → ((crashed F c is).world).disk ≡ (c.world).disk
  crash-disk c [] = refl
  crash-disk c (i ∷ is) = crash-disk (halted F c i) is ∙ (same-next F ((BookOf F c).answered i - (BookOf F c).published i) i (c.world)).disk

  crash-state : (c : Cluster F) (is : List ℕ) → (BookOf F (crashed F c is)).state ≡ (BookOf F c).state
  crash-state c [] = refl
  crash-state c (i ∷ is) = crash-state (halted F c i) is ∙ (same-next F ((BookOf F c).answered i - (BookOf F c).published i) i (c.world)).state

  pub crash : CrashIsEvents F
  crash c is t none members = record { events = crash-events c is t none members; stopped = stopped-in c is; disk = crash-disk c is; states = crash-state c is }

  pub crash_after : CrashAfterWrite F
  crash_after c v step i t here runs may =
      let event : Event F c (worked F c v step may) = Works v step may in
      Then c (worked F c v step may) _ event (crash-events (worked F c v step may) (i ∷ []) (event_keeps F c (worked F c v step may) event t) (here, tt) (runs, tt))

  -- ---- fences

  abbrev one : Cluster F → Header → Cluster F
  one c h = record c {
    world = record (c.world) {
      book = flushed F (BookOf F c) (h.journal) ((((c.world).disk).heads (h.journal) (h.is_new)).cut);
      disk = chosen F ((c.world).disk) (h.journal) (h.is_new);
    };
    header_of = at (c.header_of) (h.journal) None;
  }

  decided-events : (c : Cluster F) (i : ℕ) (hs : List Header) → c.runs i ≡ false → AreHeadersOf i (c.header_of) hs → Events F c (decided F c hs)
  decided-events c i [] out of = Done c
  decided-events c i (h ∷ hs) out of =
      let event : Event F c (one c h) = Works ((one c h).world) (Ends (h.journal) (h.is_new)) (i, of.0, inr out) in
      Then c (one c h) _ event (decided-events (one c h) i hs out (of.1))

  decided-flight : (c : Cluster F) (hs : List Header) → (((decided F c hs).world).disk).flight ≡ ((c.world).disk).flight
  decided-flight c [] = refl
  decided-flight c (h ∷ hs) = decided-flight (one c h) hs

  decided-runs : (c : Cluster F) (hs : List Header) → ((decided F c hs).runs ≡ c.runs) × ((decided F c hs).fenced ≡ c.fenced)
  decided-runs c [] = (refl, refl)
  decided-runs c (h ∷ hs) = decided-runs (one c h) hs

  decided-stays : (c : Cluster F) (hs : List Header) (k : ℕ) → ((c.world).disk).heads k true ≡ ((c.world).disk).heads k false
      → (((decided F c hs).world).disk).heads k true ≡ (((decided F c hs).world).disk).heads k false
  decided-stays c [] k e = e
  decided-stays c (h ∷ hs) k e = decided-stays (one c h) hs k
      (at-cases (λ f. f true ≡ f false) (((c.world).disk).heads) (h.journal) (either (((c.world).disk).heads (h.journal) (h.is_new)) (((c.world).disk).heads (h.journal) (h.is_new))) k (λ s. refl) (λ ne. e))

  decided-heads : (c : Cluster F) (hs : List Header) (k : ℕ) → IsDecided k hs → (((decided F c hs).world).disk).heads k true ≡ (((decided F c hs).world).disk).heads k false
  decided-heads c [] k h = absurd h
  decided-heads c (h ∷ hs) k (inl e) = decided-stays (one c h) hs k
      (at-cases (λ f. f true ≡ f false) (((c.world).disk).heads) (h.journal) (either (((c.world).disk).heads (h.journal) (h.is_new)) (((c.world).disk).heads (h.journal) (h.is_new))) k (λ s. refl) (λ ne. absurd (ne e)))
  decided-heads c (h ∷ hs) k (inr more) = decided-heads (one c h) hs k more

  -- a header that is still in flight was so before, and is none of these
  decided-of : (c : Cluster F) (hs : List Header) (k i : ℕ) → (decided F c hs).header_of k ≡ Some i → (c.header_of k ≡ Some i) × (IsDecided k hs → ⊥)
  decided-of c [] k i has = (has, λ none. none)
  decided-of c (h ∷ hs) k i has =
      let was = decided-of (one c h) hs k i has in
      let other : k ≡ h.journal → ⊥ = (λ e. none-some (subst (λ z. at (c.header_of) (h.journal) None z ≡ None) (sym e) (at-same (c.header_of) (h.journal) None)) (was.0)) in
      (sym (at-other (c.header_of) (h.journal) None k other) ∙ was.0, λ among. elim among [ inl e ↦ other e | inr more ↦ was.1 more ])

  pub fence : FenceIsEvents F
  fence c i x headers out unfenced outcome of all =
      let c1 : Cluster F = record c { world = record (c.world) { disk = ended F ((c.world).disk) i x } } in
      let c2 = decided F c1 headers in
      let still = decided-runs c1 headers in
      let none : (b : ℕ) → ((c2.world).disk).flight i b ≡ None = (λ b. ap (λ f. f i b) (decided-flight c1 headers) ∙ ap (λ f. f b) (at-same (((c.world).disk).flight) i (λ b. None))) in
      let unheaded : (k : ℕ) → c2.header_of k ≡ Some i → ⊥ = (λ k has. (let was = decided-of c1 headers k i has in was.1 (all k (was.0)))) in
      let first : Event F c c1 = Works (c1.world) (Lands i x outcome) (inr out) in
      let last : Event F c2 (record c2 { fenced = at (c2.fenced) i true }) = Fences i (ap (λ f. f i) (still.0) ∙ out) (ap (λ f. f i) (still.1) ∙ unfenced) (none, unheaded) in
      let same : record c2 { fenced = at (c2.fenced) i true } ≡ after_fence F c i x headers = ap (λ f. record c2 { fenced = at f i true }) (still.1) in
      record {
        events = Then c c1 _ first (events-append F c1 c2 (after_fence F c i x headers) (decided-events c1 i headers out of)
            (subst (λ z. Events F c2 z) same (Then c2 (record c2 { fenced = at (c2.fenced) i true }) _ last (Done _))));
        flight = none;
        heads = decided-heads c1 headers;
        unheaded = unheaded;
      }
