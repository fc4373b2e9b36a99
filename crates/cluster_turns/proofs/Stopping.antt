-- Counts are ties, and with them all nodes may stop at once.
use Rattle.std.proofs.Common.{ℕ, zero, suc, ◌+◌, ◌≡◌, ◌<◌, inl, inr, true, false, Bool, None, Some, List, [], ◌∷◌, refl, sym, ap, ◌∙◌, subst, arith, not, ◌&&◌}
use Rattle.cluster_laws.specs.Files.{Files, Does}
use Rattle.cluster_laws.specs.Book.{at, tried, relocked}
use Rattle.cluster_laws.specs.World.{nothing, Syncs}
use Rattle.cluster_events.specs.Cluster.{Cluster, BookOf, Starts, acts, with_book, stopped, Together, Event, Works, Stops, Events, Done, Then}
use Rattle.cluster_laws.specs.Log.{Calm}
use Rattle.cluster_laws.proofs.Cells.{at-same, at-other, inside}
use Rattle.std.specs.Prelude.{slice_get, length}
use Rattle.cluster_laws.proofs.Running.{told-kept}
use Rattle.std.proofs.lemmas.Bool.{cases_eq}
use Rattle.cluster_turns.proofs.Turning.{tries_alone, right, start-holds}
use Rattle.cluster_turns.specs.Turns.{MayAlone, OnlyOf, clusters, Holds, AreLocal, MayPaired}
use Rattle.cluster_turns.specs.Counting.{Count, OfNode, OfWire, node_of, CountsWire, IsCountOfNode, IsCountOfWire, AreBelow, running, AllRun, counting, CountsAreTies}

module _ (F : Files) (nodes : ℕ) where
  of-node : (i : ℕ) (c : Cluster F) (s : ℕ → ℕ) (v : Count) → IsCountOfNode F i c s v → node_of v ≡ Some i
  of-node i c s (OfNode k answered shown) is = ap Some (is.node)
  of-node i c s (OfWire shown published runs) is = elim is [ ]

  of-wire : (c : Cluster F) (s : ℕ → ℕ) (v : Count) → IsCountOfWire F nodes c s v → node_of v ≡ None
  of-wire c s (OfNode node answered shown) is = elim is [ ]
  of-wire c s (OfWire shown published runs) is = refl

  -- that is said of the node's calls alone
  calm-same : (c c' : Cluster F) (i : ℕ) → (BookOf F c').low i ≡ (BookOf F c).low i → (BookOf F c').answered i ≡ (BookOf F c).answered i
      → (BookOf F c').told i ≡ (BookOf F c).told i → Calm F (BookOf F c) i ((BookOf F c).low i) ((BookOf F c).answered i)
      → Calm F (BookOf F c') i ((BookOf F c').low i) ((BookOf F c').answered i)
  calm-same c c' i low answered told calm n lo hi = ap (λ f. F.Changes (f (suc n))) told ∙ calm n (omega arith) (omega arith)

  node-stays : (i j : ℕ) (c c' : Cluster F) (s : ℕ → ℕ) (v : Count) → (i ≡ j → ⊥) → OnlyOf F j c c' → IsCountOfNode F i c s v → IsCountOfNode F i c' s v
  node-stays i j c c' s (OfWire shown published runs) ne only is = elim is [ ]
  node-stays i j c c' s (OfNode k answered shown) ne only is = record {
    node = is.node;
    answered = is.answered ∙ sym ((only.others i ne).answered);
    shown = is.shown;
    order = is.order;
    acting = elim (is.acting) [
      | inl all ↦ inl all
      | inr acting ↦ inr (ap (λ f. f i && not (c'.waits i)) ((only.wire).runs) ∙ ap (λ f. c.runs i && not (f i)) ((only.wire).waits) ∙ acting)
    ];
    calm = calm-same c c' i ((only.others i ne).low) ((only.others i ne).answered) ((only.others i ne).told) (is.calm);
  }

  wire-stays : (j : ℕ) (c c' : Cluster F) (s : ℕ → ℕ) (v : Count) → OnlyOf F j c c' → IsCountOfWire F nodes c s v → IsCountOfWire F nodes c' s v
  wire-stays j c c' s (OfNode node answered shown) only is = elim is [ ]
  wire-stays j c c' s (OfWire shown published runs) only is = record {
    shown = is.shown;
    published = is.published ∙ sym ((only.wire).published);
    runs = is.runs ∙ sym ((only.wire).runs);
    past = λ i below e. is.past i below (e ∙ (only.wire).past);
  }

  local : AreLocal (clusters F) (counting F nodes)
  local = record {
    is_node = of-node;
    is_wire = of-wire;
    node_local = node-stays;
    wire_local = wire-stays;
    grows_reflexive = λ v. refl;
    grows_transitive = λ u v w first second. first ∙ second;
  }

  -- all these nodes stop
  record IsStopped (c : Cluster F) (is : List ℕ) (c' : Cluster F) : Type 0 where
    events : Events F c c'
    answered : (BookOf F c').answered ≡ (BookOf F c).answered
    low : (BookOf F c').low ≡ (BookOf F c).low
    told : (BookOf F c').told ≡ (BookOf F c).told
    published : (BookOf F c').published ≡ (BookOf F c).published
    runs : c'.runs ≡ running (c.runs) is
    past : c'.past ≡ c.past

  abbrev halt : Cluster F → ℕ → Cluster F
  halt c i = record c {
    world = with_book F c (relocked F (BookOf F c) ((BookOf F c).state) (at ((BookOf F c).cache) i (nothing F)));
    locks = λ l. at (c.locks l) i (stopped (c.locks l i));
    runs = at (c.runs) i false;
    waits = at (c.waits) i true;
    fenced = at (c.fenced) i false;
    unlost = at (c.unlost) i (suc (c.unlost i));
  }

  stop : (c : Cluster F) (is : List ℕ) → ((k : ℕ) → k < nodes → (BookOf F c).published k ≡ (BookOf F c).answered k) → ((k : ℕ) → k < nodes → k ≡ c.past → ⊥)
      → AreBelow nodes is → AllRun (c.runs) is → (c' : Cluster F) × IsStopped c is c'
  stop c [] all here below run = (c, record { events = Done c; answered = refl; low = refl; told = refl; published = refl; runs = refl; past = refl })
  stop c (i ∷ is) all here below run =
      let event : Event F c (halt c i) = Stops i (here i (below.0)) (run.0) (all i (below.0)) in
      let next = stop (halt c i) is all here (below.1) (run.1) in
      let n = next.1 in
      (next.0, record { events = Then c (halt c i) (next.0) event (n.events); answered = n.answered; low = n.low; told = n.told; published = n.published; runs = n.runs; past = n.past })

  -- who has answered no more than is published has answered all that it was shown
  counted : (c : Cluster F) (s shown : ℕ → ℕ) (runs : ℕ → Bool) (k : ℕ) → Together F c → CountsWire F nodes c s shown shown runs → (v : Count) → IsCountOfNode F k c s v
      → ((BookOf F c).published k ≡ (BookOf F c).answered k) × ((BookOf F c).answered k ≡ s k)
  counted c s shown runs k t wire (OfWire seen published others) is = elim is [ ]
  counted c s shown runs k t wire (OfNode node answered seen) is =
      let a = is.answered in let m = is.shown in let o = is.order in
      let p : shown k ≡ (BookOf F c).published k = ap (λ f. f k) (wire.published) in
      let q : shown k ≡ s k = ap (λ f. f k) (wire.shown) in
      let b = ((t.world).whole).published_answered k in
      ((omega arith), (omega arith))

  -- what is said of a node stays where it has answered all that it was shown
  still : (c c' : Cluster F) (s : ℕ → ℕ) (k : ℕ) (v : Count) → (BookOf F c').answered ≡ (BookOf F c).answered → (BookOf F c').low ≡ (BookOf F c).low
      → (BookOf F c').told ≡ (BookOf F c).told → (BookOf F c).answered k ≡ s k
      → IsCountOfNode F k c s v → IsCountOfNode F k c' s v
  still c c' s k (OfWire shown published runs) same low told all is = elim is [ ]
  still c c' s k (OfNode node answered shown) same low told all is = record {
    node = is.node;
    answered = is.answered ∙ sym (ap (λ f. f k) same);
    shown = is.shown;
    order = is.order;
    acting = inl (is.answered ∙ all ∙ sym (is.shown));
    calm = calm-same c c' k (ap (λ f. f k) low) (ap (λ f. f k) same) (ap (λ f. f k) told) (is.calm);
  }

  all-stop : (i : ℕ) (own : Count) (is : List ℕ) (shown : ℕ → ℕ) (runs : ℕ → Bool) → i < nodes → AreBelow nodes is → AllRun runs is
      → MayPaired (clusters F) (counting F nodes) i own (OfWire shown shown runs) own (OfWire shown shown (running runs is))
  all-stop i own is shown runs low below run c s reached tied is_own wire =
      let t = (right F c reached).0 in
      let known = λ (k : ℕ) (l : k < nodes). counted c s shown runs k t wire ((tied k l).0) ((tied k l).1) in
      let end = stop c is (λ k l. (known k l).0) (wire.past) below (subst (λ f. AllRun f is) (wire.runs) run) in
      let e = end.1 in (
        end.0,
        s,
        e.events,
        (λ j v l ne h. still c (end.0) s j v (e.answered) (e.low) (e.told) ((known j l).1) h),
        still c (end.0) s i own (e.answered) (e.low) (e.told) ((known i low).1) is_own,
        record {
          shown = wire.shown;
          published = wire.published ∙ sym (e.published);
          runs = ap (λ f. running f is) (wire.runs) ∙ sym (e.runs);
          past = λ k l same. wire.past k l (same ∙ e.past);
        },
      )

  -- ---- a start

  -- the values of so many nodes from this one on, that have answered nothing, and the wire's
  abbrev counts-from : (ℕ → ℕ) → (ℕ → Bool) → ℕ → ℕ → List Count
  counts-from published runs i zero = OfWire (λ k. 0) published runs ∷ []
  counts-from published runs i (suc n) = OfNode i 0 0 ∷ counts-from published runs (suc i) n

  counts-length : (published : ℕ → ℕ) (runs : ℕ → Bool) (i n : ℕ) → length (counts-from published runs i n) ≡ suc n
  counts-length published runs i zero = refl
  counts-length published runs i (suc n) = ap suc (counts-length published runs (suc i) n)

  a-node : (published : ℕ → ℕ) (runs : ℕ → Bool) (i n k : ℕ) (v : Count) → k < n → slice_get (counts-from published runs i n) k ≡ Some v → OfNode (i + k) 0 0 ≡ v
  a-node published runs i zero k v low e = absurd (omega arith)
  a-node published runs i (suc n) zero v low e = subst (λ (m : ℕ). OfNode m 0 0 ≡ v) (omega arith) (inside e)
  a-node published runs i (suc n) (suc k) v low e = subst (λ (m : ℕ). OfNode m 0 0 ≡ v) (omega arith) (a-node published runs (suc i) n k v (omega arith) e)

  a-wire : (published : ℕ → ℕ) (runs : ℕ → Bool) (i n : ℕ) (v : Count) → slice_get (counts-from published runs i n) n ≡ Some v → OfWire (λ k. 0) published runs ≡ v
  a-wire published runs i zero v e = inside e
  a-wire published runs i (suc n) v e = a-wire published runs (suc i) n v e

  at-start : (c : Cluster F) → Starts F c → ((i : ℕ) → i < nodes → i ≡ c.past → ⊥) → (parts : List Count) × Holds (clusters F) (counting F nodes) parts
  at-start c starts here = (
    counts-from ((BookOf F c).published) (c.runs) 0 nodes,
    start-holds F (counting F nodes) c (λ k. 0) (counts-from ((BookOf F c).published) (c.runs) 0 nodes) starts (record {
      count = counts-length ((BookOf F c).published) (c.runs) 0 nodes;
      node = λ i v low e. subst (IsCountOfNode F i c (λ k. 0)) (a-node ((BookOf F c).published) (c.runs) 0 nodes i v low e) (new i);
      wire = λ v e. subst (IsCountOfWire F nodes c (λ k. 0)) (a-wire ((BookOf F c).published) (c.runs) 0 nodes v e) wire;
    }),
  )
    where
      new : (i : ℕ) → IsCountOfNode F i c (λ k. 0) (OfNode (0 + i) 0 0)
      new i = let n = (starts.world).numbers i in record {
        node = omega arith;
        answered = sym (n.2);
        shown = refl;
        order = omega arith;
        acting = inl refl;
        calm = λ m low high. (let none = n.2 in absurd (omega (arith, none, high)));
      }

      wire : IsCountOfWire F nodes c (λ k. 0) (OfWire (λ k. 0) ((BookOf F c).published) (c.runs))
      wire = record { shown = refl; published = refl; runs = refl; past = here }

  -- ---- a sync alone

  sync-alone : (i a n : ℕ) (said : F.Said) → i < nodes → Does F (nothing F) said (nothing F) → F.Changes said ≡ false → a < n
      → MayAlone (clusters F) (counting F nodes) i (OfNode i a n) (OfNode i (suc a) n)
  sync-alone i a n said below does still unanswered c s reached is = (
    after,
    Then c after after event (Done after),
    (tries_alone F).syncs c i said (at ((c.world).sure) i (suc ((BookOf F c).answered i))) ((right F c reached).0) (λ k ne. at-other ((c.world).sure) i _ k ne),
    record {
      node = refl;
      answered = ap suc (is.answered) ∙ sym (at-same ((BookOf F c).answered) i (suc ((BookOf F c).answered i)));
      shown = is.shown;
      order = omega arith;
      acting = inr acting;
      calm = calm';
    },
  )
    where
      after : Cluster F
      after = record c {
        world = record (c.world) {
          book = tried F (BookOf F c) i said (nothing F) (nothing F) ((BookOf F c).cache i);
          sure = at ((c.world).sure) i (suc ((BookOf F c).answered i));
        };
      }

      acting : acts F c i ≡ true
      acting = elim (is.acting) [ inl all ↦ absurd (omega arith) | inr may ↦ may ]

      event : Event F c after
      event = Works (after.world) (Syncs i said does still (is.calm)) acting

      calm' : Calm F (BookOf F after) i ((BookOf F c).low i) ((BookOf F after).answered i)
      calm' m low high =
          let top = at-same ((BookOf F c).answered) i (suc ((BookOf F c).answered i)) in
          elim (cases_eq m ((BookOf F c).answered i)) [
            | inl e ↦ ap (λ f. F.Changes (f (suc m))) (at-same ((BookOf F c).told) i _)
                ∙ ap (F.Changes) (ap (λ z. at ((BookOf F c).told i) (suc ((BookOf F c).answered i)) said (suc z)) e ∙ at-same ((BookOf F c).told i) (suc ((BookOf F c).answered i)) said) ∙ still
            | inr ne ↦ ap (F.Changes) (told-kept F (BookOf F c) i said i (suc m) (omega (arith, ne, top, high))) ∙ is.calm m low (omega (arith, ne, top, high))
          ]

pub counts_are_ties : (F : Files) (nodes : ℕ) → CountsAreTies F nodes
counts_are_ties F nodes = record { starts = at-start F nodes; local = local F nodes; sync_alone = sync-alone F nodes; crash_all = all-stop F nodes }
