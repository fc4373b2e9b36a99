-- Tries touch one node; what turns allow keeps what holds.
use Rattle.std.proofs.Common.{ℕ, zero, suc, ◌≡◌, ◌≤◌, ◌<◌, ◌⊎◌, inl, inr, None, Some, List, [], ◌∷◌, refl, sym, ap, ◌∙◌, subst, arith}
use Rattle.std.specs.Prelude.{slice_get, slice_set, length}
use Rattle.std.proofs.lemmas.Bool.{cases_eq, cases_lt}
use Rattle.cluster_laws.specs.Files.{Files, CellOf, Part}
use Rattle.cluster_laws.specs.Book.{at, taken, tried}
use Rattle.cluster_laws.specs.World.{World, Headline, nothing, Step, Answers, Syncs, Publishes, Begins, Ends, Writes, Lands, Settles, Lower, Grants, Reads, Shrinks, Loses, Run, Stop, Goes}
use Rattle.cluster_laws.proofs.Cells.{split, inside, none-some, at-other, at-cases}
use Rattle.cluster_laws.proofs.Trying.{free_or_ours}
use Rattle.cluster_laws.proofs.Running.{told-kept}
use Rattle.cluster_events.specs.Cluster.{Cluster, BookOf, Starts, Done, Together}
use Rattle.lock_laws.specs.Lock.{Compatible}
use Rattle.cluster_events.proofs.Eventing.{every_cluster, events_are_steps}
use Rattle.event_lists.proofs.Stopping.{events-append}
use Rattle.cluster_rows.proofs.Marking.{run-grows}
use Rattle.cluster_turns.specs.Turns.{SameNode, OnlyOf, TriesAreAlone, Machine, RunsGoOn, Reached, clusters, Ties, AreLocal, Holds, AreTied, MayPaired, Alone, Paired, TurnsKeep, StartHolds, HeldIsRight, EventsGrow}

-- ---- tries

module _ (F : Files) (c : Cluster F) (j : ℕ) (said : F.Said) (v change cache : Part F) (sure : ℕ → ℕ)
    (ours : (b : ℕ) (x : CellOf F) → change b ≡ Some x → ((BookOf F c).owner b ≡ None) ⊎ ((BookOf F c).owner b ≡ Some j))
    (same_sure : (i : ℕ) → (i ≡ j → ⊥) → sure i ≡ (c.world).sure i) where
  abbrev After : Cluster F
  After = record c { world = record (c.world) { book = tried F (BookOf F c) j said v change cache; sure = sure } }

  of-other : (i : ℕ) → (i ≡ j → ⊥) → SameNode F i c After
  of-other i ne = record {
    keeps = λ b own. elim (split (change b)) [
      | inl none ↦ ap (λ o. taken j o ((BookOf F c).owner b)) none ∙ own
      | inr some ↦ elim (ours b (some.0) (some.1)) [
        | inl nobody ↦ absurd (none-some nobody own)
        | inr mine ↦ absurd (ne (inside (sym own ∙ mine)))
      ]
    ];
    no_more = λ b own. elim (split (change b)) [
      | inl none ↦ sym (ap (λ o. taken j o ((BookOf F c).owner b)) none) ∙ own
      | inr some ↦ absurd (ne (inside (sym own ∙ ap (λ o. taken j o ((BookOf F c).owner b)) (some.1))))
    ];
    says = at-other ((BookOf F c).says) j _ i ne;
    low = refl;
    published = refl;
    answered = at-other ((BookOf F c).answered) j _ i ne;
    told = at-other ((BookOf F c).told) j _ i ne;
    view = at-other ((BookOf F c).view) j _ i ne;
    change = at-other ((BookOf F c).change) j _ i ne;
    state = refl;
    cache = at-other ((BookOf F c).cache) j cache i ne;
    sure = same_sure i ne;
  }

  pub only : OnlyOf F j c After
  only = record {
    wire = record { disk = refl; items = refl; kept = refl; published = refl; start = refl; locks = refl; runs = refl; waits = refl; fenced = refl; header_of = refl; unlost = refl; past = refl };
    others = of-other;
  }

pub tries_alone : (F : Files) → TriesAreAlone F
tries_alone F = record {
  answers = λ c j said v change cache t a. only F c j said v change cache ((c.world).sure)
      (λ b x e. free_or_ours F (BookOf F c) ((t.world).whole) j said v change cache (a.sees) (a.does) (a.guards) (a.caches) (a.tells) (a.tracks) b x e)
      (λ i ne. refl);
  syncs = λ c j said sure t same. only F c j said (nothing F) (nothing F) ((BookOf F c).cache j) sure (λ b x e. absurd (none-some refl e)) same;
  shrinks = λ c j cache forgets. record {
    wire = record { disk = refl; items = refl; kept = refl; published = refl; start = refl; locks = refl; runs = refl; waits = refl; fenced = refl; header_of = refl; unlost = refl; past = refl };
    others = λ i ne. record {
      keeps = λ b own. own;
      no_more = λ b own. own;
      says = refl;
      low = refl;
      published = refl;
      answered = refl;
      told = refl;
      view = refl;
      change = refl;
      state = refl;
      cache = forgets.others i ne;
      sure = refl;
    };
  };
}

-- ---- values of a list

set-other : {V : Type 0} (xs : List V) (p q : ℕ) (y : V) → (q ≡ p → ⊥) → slice_get (slice_set xs p y) q ≡ slice_get xs q
set-other [] p q y ne = refl
set-other (x ∷ xs) zero zero y ne = absurd (ne refl)
set-other (x ∷ xs) zero (suc q) y ne = refl
set-other (x ∷ xs) (suc p) zero y ne = refl
set-other (x ∷ xs) (suc p) (suc q) y ne = set-other xs p q y (λ e. ne (ap suc e))

set-same : {V : Type 0} (xs : List V) (p : ℕ) (y v : V) → slice_get (slice_set xs p y) p ≡ Some v → y ≡ v
set-same [] p y v e = absurd (none-some refl e)
set-same (x ∷ xs) zero y v e = inside e
set-same (x ∷ xs) (suc p) y v e = set-same xs p y v e

set-length : {V : Type 0} (xs : List V) (p : ℕ) (y : V) → length (slice_set xs p y) ≡ length xs
set-length [] p y = refl
set-length (x ∷ xs) zero y = refl
set-length (x ∷ xs) (suc p) y = ap suc (set-length xs p y)

set-back : {V : Type 0} (xs : List V) (p : ℕ) (y : V) → slice_get xs p ≡ Some y → slice_set xs p y ≡ xs
set-back [] p y e = refl
set-back (x ∷ xs) zero y e = ap (λ z. z ∷ xs) (sym (inside e))
set-back (x ∷ xs) (suc p) y e = ap (λ zs. x ∷ zs) (set-back xs p y e)

get-below : {V : Type 0} (xs : List V) (p : ℕ) (v : V) → slice_get xs p ≡ Some v → p < length xs
get-below [] p v e = absurd (none-some refl e)
get-below (x ∷ xs) zero v e = omega arith
get-below (x ∷ xs) (suc p) v e = let h = get-below xs p v e in omega arith

get-some : {V : Type 0} (xs : List V) (p : ℕ) → p < length xs → (v : V) × (slice_get xs p ≡ Some v)
get-some [] p h = absurd (omega arith)
get-some (x ∷ xs) zero h = (x, refl)
get-some (x ∷ xs) (suc p) h = get-some xs p (omega arith)

-- ---- turns

module _ (M : Machine) (T : Ties M) (L : AreLocal M T) (goes-on : RunsGoOn M) where
  -- whose value stands at a place
  node-place : (parts : List T.Value) (p i : ℕ) (v : T.Value) → Holds M T parts → slice_get parts p ≡ Some v → T.which v ≡ Some i → p ≡ i
  node-place parts p i v h got is =
      let short = get-below parts p v got in let count = (h.fits).count in
      elim (cases_lt p (T.nodes)) [
        | inl below ↦ inside (sym (L.is_node p (h.state) (h.shown) v ((h.fits).node p v below got)) ∙ is)
        | inr not_below ↦ absurd (none-some (L.is_wire (h.state) (h.shown) v ((h.fits).wire v (subst (λ z. slice_get parts z ≡ Some v) (omega arith) got))) is)
      ]

  wire-place : (parts : List T.Value) (p : ℕ) (v : T.Value) → Holds M T parts → slice_get parts p ≡ Some v → T.which v ≡ None → p ≡ T.nodes
  wire-place parts p v h got is =
      let short = get-below parts p v got in let count = (h.fits).count in
      elim (cases_lt p (T.nodes)) [
        | inl below ↦ absurd (none-some is (L.is_node p (h.state) (h.shown) v ((h.fits).node p v below got)))
        | inr not_below ↦ omega arith
      ]

  all-tied : (parts : List T.Value) (h : Holds M T parts) → AreTied M T (h.state) (h.shown)
  all-tied parts h j below = let count = (h.fits).count in let got = get-some parts j (omega arith) in (got.0, (h.fits).node j (got.0) below (got.1))

  alone : (parts : List T.Value) (p : ℕ) (old new : T.Value) → Holds M T parts → slice_get parts p ≡ Some old → Alone M T old new → Holds M T (slice_set parts p new)
  alone parts p old new h got (inl same) = subst (λ z. Holds M T (slice_set parts p z)) same (subst (Holds M T) (sym (set-back parts p old got)) h)
  alone parts p old new h got (inr may) =
      let i = may.0 in
      let is_i = node-place parts p i old h got (may.1) in
      let here : slice_get parts i ≡ Some old = subst (λ z. slice_get parts z ≡ Some old) is_i got in
      let below : i < T.nodes = may.2 in
      let m = may.3 (h.state) (h.shown) (h.reached) ((h.fits).node i old below here) in
      subst (λ z. Holds M T (slice_set parts z new)) (sym is_i) (record {
        state = m.0;
        shown = h.shown;
        reached = goes-on (h.state) (m.0) (h.reached) (m.1);
        fits = record {
          count = set-length parts i new ∙ (h.fits).count;
          node = λ j v low e. elim (cases_eq j i) [
            | inl same ↦ subst (λ z. T.IsNode z (m.0) (h.shown) v) (sym same)
                (subst (λ z. T.IsNode i (m.0) (h.shown) z) (set-same parts i new v (subst (λ z. slice_get (slice_set parts i new) z ≡ Some v) same e)) (m.3))
            | inr ne ↦ L.node_local j i (h.state) (m.0) (h.shown) v ne (m.2) ((h.fits).node j v low (sym (set-other parts i j new ne) ∙ e))
          ];
          wire = λ v e. L.wire_local i (h.state) (m.0) (h.shown) v (m.2)
              ((h.fits).wire v (sym (set-other parts i (T.nodes) new (λ same. absurd (omega (arith, same, below)))) ∙ e));
        };
      })

  -- of any parts that have the new values at these places, and the old ones elsewhere
  paired : (parts after : List T.Value) (i : ℕ) (old old_wire new new_wire : T.Value) → i < T.nodes → Holds M T parts
      → slice_get parts i ≡ Some old → slice_get parts (T.nodes) ≡ Some old_wire → MayPaired M T i old old_wire new new_wire
      → length after ≡ length parts
      → ((v : T.Value) → slice_get after i ≡ Some v → new ≡ v) → ((v : T.Value) → slice_get after (T.nodes) ≡ Some v → new_wire ≡ v)
      → ((j : ℕ) → (j ≡ i → ⊥) → (j ≡ T.nodes → ⊥) → slice_get after j ≡ slice_get parts j) → Holds M T after
  paired parts after i old old_wire new new_wire below h got got_wire may long at_i at_wire rest =
      let m = may (h.state) (h.shown) (h.reached) (all-tied parts h) ((h.fits).node i old below got) ((h.fits).wire old_wire got_wire) in
      record {
        state = m.0;
        shown = m.1;
        reached = goes-on (h.state) (m.0) (h.reached) (m.2);
        fits = record {
          count = long ∙ (h.fits).count;
          node = λ j v low e. elim (cases_eq j i) [
            | inl same ↦ subst (λ z. T.IsNode z (m.0) (m.1) v) (sym same)
                (subst (λ z. T.IsNode i (m.0) (m.1) z) (at_i v (subst (λ z. slice_get after z ≡ Some v) same e)) (m.4))
            | inr ne ↦ m.3 j v low ne ((h.fits).node j v low (sym (rest j ne (λ same. absurd (omega (arith, same, low)))) ∙ e))
          ];
          wire = λ v e. subst (λ z. T.IsWire (m.0) (m.1) z) (at_wire v e) (m.5);
        };
      }

  -- the value at a place that was set first, and another after it
  under : (parts : List T.Value) (a b : ℕ) (x y v : T.Value) → (a ≡ b → ⊥) → slice_get (slice_set (slice_set parts a x) b y) a ≡ Some v → x ≡ v
  under parts a b x y v ne e = set-same parts a x v (sym (set-other (slice_set parts a x) b a y ne) ∙ e)

  both : (parts : List T.Value) (a b : ℕ) (old_a old_b new_a new_b : T.Value) → (a ≡ b → ⊥) → Holds M T parts
      → slice_get parts a ≡ Some old_a → slice_get parts b ≡ Some old_b → Paired M T old_a old_b new_a new_b → Holds M T (slice_set (slice_set parts a new_a) b new_b)
  both parts a b old_a old_b new_a new_b ne h got_a got_b (inl m) =
      let wire = m.0 in let i = (m.3).0 in let is = (m.3).1 in let below = (m.3).2 in let may = (m.3).3 in
      let is_i : a ≡ i = node-place parts a i old_a h got_a is in
      let is_wire : b ≡ T.nodes = wire-place parts b old_b h got_b wire in
      paired parts _ i old_a old_b new_a new_b below h (subst (λ z. slice_get parts z ≡ Some old_a) is_i got_a) (subst (λ z. slice_get parts z ≡ Some old_b) is_wire got_b) may
      (set-length (slice_set parts a new_a) b new_b ∙ set-length parts a new_a)
      (λ v e. under parts a b new_a new_b v ne (subst (λ z. slice_get (slice_set (slice_set parts a new_a) b new_b) z ≡ Some v) (sym is_i) e))
      (λ v e. set-same (slice_set parts a new_a) b new_b v (subst (λ z. slice_get (slice_set (slice_set parts a new_a) b new_b) z ≡ Some v) (sym is_wire) e))
      (λ j no_i no_wire. set-other (slice_set parts a new_a) b j new_b (λ e. no_wire (e ∙ is_wire)) ∙ set-other parts a j new_a (λ e. no_i (e ∙ is_i)))
  both parts a b old_a old_b new_a new_b ne h got_a got_b (inr m) =
      let wire = m.0 in let i = (m.3).0 in let is = (m.3).1 in let below = (m.3).2 in let may = (m.3).3 in
      let is_i : b ≡ i = node-place parts b i old_b h got_b is in
      let is_wire : a ≡ T.nodes = wire-place parts a old_a h got_a wire in
      paired parts _ i old_b old_a new_b new_a below h (subst (λ z. slice_get parts z ≡ Some old_b) is_i got_b) (subst (λ z. slice_get parts z ≡ Some old_a) is_wire got_a) may
      (set-length (slice_set parts a new_a) b new_b ∙ set-length parts a new_a)
      (λ v e. set-same (slice_set parts a new_a) b new_b v (subst (λ z. slice_get (slice_set (slice_set parts a new_a) b new_b) z ≡ Some v) (sym is_i) e))
      (λ v e. under parts a b new_a new_b v ne (subst (λ z. slice_get (slice_set (slice_set parts a new_a) b new_b) z ≡ Some v) (sym is_wire) e))
      (λ j no_i no_wire. set-other (slice_set parts a new_a) b j new_b (λ e. no_i (e ∙ is_i)) ∙ set-other parts a j new_a (λ e. no_wire (e ∙ is_wire)))

  alone-grows : (old new : T.Value) → Alone M T old new → T.Grows old new
  alone-grows old new (inl same) = subst (λ z. T.Grows old z) same (L.grows_reflexive old)
  alone-grows old new (inr may) = may.4

  paired-grows : (old_a old_b new_a new_b : T.Value) → Paired M T old_a old_b new_a new_b → T.Grows old_a new_a × T.Grows old_b new_b
  paired-grows old_a old_b new_a new_b (inl with_wire) = (with_wire.1, with_wire.2)
  paired-grows old_a old_b new_a new_b (inr with_wire) = (with_wire.2, with_wire.1)

pub turns : (M : Machine) → RunsGoOn M → (T : Ties M) → TurnsKeep M T
turns M goes-on T local = record {
  alone_keeps = alone M T local goes-on;
  paired_keeps = both M T local goes-on;
  unchanged_alone = λ v. inl refl;
  alone_grows = alone-grows M T local goes-on;
  paired_grows = paired-grows M T local goes-on;
  grows_reflexive = local.grows_reflexive;
  grows_transitive = local.grows_transitive;
}

-- events after events
pub clusters-go-on : (F : Files) → RunsGoOn (clusters F)
clusters-go-on F c c' r events = record { begin = r.begin; starts = r.starts; events = events-append F (r.begin) c c' (r.events) events }

pub cluster-turns : (F : Files) (T : Ties (clusters F)) → TurnsKeep (clusters F) T
cluster-turns F T = turns (clusters F) (clusters-go-on F) T

pub right : (F : Files) (c : Cluster F) → Reached F c → Together F c × Headline F (c.world) × ((l : F.Lock) → Compatible (c.locks l))
right F c r = every_cluster F (r.begin) c (r.starts) (r.events)

pub reached-start : (F : Files) (c : Cluster F) → Starts F c → Reached F c
reached-start F c starts = record { begin = c; starts = starts; events = Done c }

pub start-holds : (F : Files) (T : Ties (clusters F)) → StartHolds F T
start-holds F T c shown parts starts fits = record { state = c; shown = shown; reached = reached-start F c starts; fits = fits }

pub held-right : (F : Files) (T : Ties (clusters F)) → HeldIsRight F T
held-right F T parts h = right F (h.state) (h.reached)

-- ---- what grows

module _ (F : Files) where
  record Kept (u w : World F) : Type 0 where
    answered : (i : ℕ) → (u.book).answered i ≤ (w.book).answered i
    told : (i n : ℕ) → n ≤ (u.book).answered i → (w.book).told i n ≡ (u.book).told i n
    start : (w.book).start ≡ (u.book).start

  same : (u w : World F) → (w.book).answered ≡ (u.book).answered → (w.book).told ≡ (u.book).told → (w.book).start ≡ (u.book).start → Kept u w
  same u w a t s = record {
    answered = λ i. (let e = ap (λ f. f i) a in omega arith);
    told = λ i n low. ap (λ f. f i n) t;
    start = s;
  }

  of-try : (u : World F) (j : ℕ) (said : F.Said) (i : ℕ) → (u.book).answered i ≤ at ((u.book).answered) j (suc ((u.book).answered j)) i
  of-try u j said i = at-cases (λ z. (u.book).answered i ≤ z) ((u.book).answered) j (suc ((u.book).answered j)) i
      (λ e. (let q = ap ((u.book).answered) e in omega arith)) (λ ne. omega arith)

  step-grows : (u w : World F) → Step F u w → Kept u w
  step-grows u _ (Answers j said v change cache no_sync a) = record { answered = of-try u j said; told = λ i n low. told-kept F (u.book) j said i n low; start = refl }
  step-grows u _ (Syncs j said does still calm) = record { answered = of-try u j said; told = λ i n low. told-kept F (u.book) j said i n low; start = refl }
  step-grows u w (Publishes k some) = same u _ refl refl refl
  step-grows u _ (Begins k h single heads) = same u _ refl refl refl
  step-grows u _ (Ends k which) = same u _ refl refl refl
  step-grows u _ (Writes r b v k live) = same u _ refl refl refl
  step-grows u _ (Lands r x settles) = same u _ refl refl refl
  step-grows u _ (Settles k p all own one dead) = same u _ refl refl refl
  step-grows u _ (Lower k state cache lowers) = same u _ refl refl refl
  step-grows u _ (Grants k state raises) = same u _ refl refl refl
  step-grows u _ (Reads j b held) = same u _ refl refl refl
  step-grows u _ (Shrinks j cache forgets) = same u _ refl refl refl
  step-grows u _ (Loses k m all above below calm next none single) = same u _ refl refl refl

  run-keeps : (u w : World F) → Run F u w → Kept u w
  run-keeps u _ (Stop _) = same u u refl refl refl
  run-keeps u w (Goes _ v _ step run) = let p = step-grows u v step in let q = run-keeps v w run in record {
    answered = λ i. (let a = p.answered i in let b = q.answered i in omega arith);
    told = λ i n low. q.told i n (let a = p.answered i in omega arith) ∙ p.told i n low;
    start = q.start ∙ p.start;
  }

  pub events_grow : EventsGrow F
  events_grow c c' events t =
      let run = events_are_steps F c c' events t in
      let k = run-keeps (c.world) (c'.world) run in
      record { items = run-grows F (c.world) (c'.world) run; answered = k.answered; told = k.told; start = k.start }
