-- A run of two nodes, event by event.
use Rattle.std.proofs.Common.{ℕ, suc, ◌≡◌, ◌≤◌, ◌<◌, inl, inr, Bool, true, false, Option, None, Some, List, [], ◌∷◌, ◌++◌, refl, sym, ap, ◌∙◌, subst, arith}
use Rattle.std.specs.Prelude.{◌==◌, ◌||◌, if◌then◌else◌}
use Rattle.std.proofs.lemmas.Bool.{cases_eq}
use Rattle.file_tree.specs.Tree.{Tree}
use Rattle.file_tree.specs.declared.call.Call.TheVariants as calls
use Rattle.file_tree.specs.declared.reply.Reply.TheVariants as replies
use Rattle.trace_text.specs.declared.item.TraceItem.{TraceItem}
use Rattle.trace_text.specs.declared.item.TraceItem.TheVariants as trace
use Rattle.script_lang.specs.declared.script.Client.{Client}
use Rattle.run_rules.specs.Lives.{AcceptedHead}
use Rattle.run_rules.specs.Recoveries.{is_recovering, recoveries_are_told}
use Rattle.cluster_laws.specs.Files.{Files, Image, Un, Does}
use Rattle.head_laws.specs.Example.{head, clean}
use Rattle.cluster_laws.specs.Book.{at, tried, publish, flushed, relocked, lost}
use Rattle.cluster_laws.specs.Mirror.{Head, either, headed, chosen, renumbered}
use Rattle.cluster_laws.specs.History.{Called, Gone}
use Rattle.cluster_laws.specs.World as world
use Rattle.cluster_laws.specs.World.{World}
use Rattle.cluster_events.specs.Cluster.{Cluster, Event, BookOf, with_book, freed, stopped, joined}
use Rattle.cluster_events.specs.Cluster as cluster
use Rattle.event_lists.specs.Begins.{IsStart}
use Rattle.event_lists.proofs.Beginning.{dirty_start as starts}
use Rattle.tree_histories.specs.Trees as trees
use Rattle.tree_histories.specs.Trees.{Images, Trees}
use Rattle.head_laws.specs.Journals.{Journal, JournalEvents, IsNew, Says, Joins, Done, Then}
use Rattle.head_laws.specs.Traces.{Traced, journal_of, Begins}
use Rattle.head_laws.specs.Tellings.{Beside, traced_of, place_of, slots_of, GoesOn, Changed, Own, Replay, Settled, Committed, Tellings, Nothing, AnEvent, AnItem}
use Rattle.head_laws.specs.TwoNodes.{synced, two_start, two_begin, two_run, two_disk, TwoNodesAreTold}
use Rattle.head_laws.proofs.Items.{eqb-other}

no-way : {A : Type 0} → false ≡ true → A
no-way e = absurd (let f : false ≡ true = e in cc)

none-some : {A : Type 0} {B : Type 0} {o : Option A} {x : A} → o ≡ None → o ≡ Some x → B
none-some {A} {B} {o} {x} e f = absurd (let g : None ≡ Some x = sym e ∙ f in cc)

module _ (I : Images) (clients : List Client) (name : List ℕ) (m : Image (Trees I)) (t : Tree) (said : trees.Told) where
  abbrev F : Files
  F = Trees I

  abbrev a : Traced I
  a = two_begin I m t said

  abbrev c0 : Cluster F
  c0 = a.cluster

  -- ---- the start

  is-start : F.Stands m t → IsStart F (two_start I m t said)
  is-start stands = record {
    stands = stands;
    replayed = λ b v e. none-some refl e;
    rest = λ b e. refl;
    gone = refl;
    clean = λ e b. refl;
  }

  begun : (i : ℕ) → (j : Journal) × IsNew j × JournalEvents i (two_disk i) j [] (journal_of I a i) (trace.Join 1 ∷ trace.Join 2 ∷ [])
  begun i = elim (cases_eq i 1) [
    | inl e ↦ subst (λ (k : ℕ). (j : Journal) × IsNew j × JournalEvents k (two_disk k) j [] (journal_of I a k) (trace.Join 1 ∷ trace.Join 2 ∷ [])) (sym e) (
      record (journal_of I a 1) { runs = false },
      record { runs = refl; unlost = refl; last = refl; cut = λ c. refl; name = refl; flies = refl; silent = refl },
      Then _ _ _ _ (Then _ _ _ _ Done (Joins refl (inr refl) (inl refl) refl)) (Says (trace.Join 2) (λ f. absurd (omega (arith, f)))),
    )
    | inr ne ↦ elim (cases_eq i 2) [
      | inl e ↦ subst (λ (k : ℕ). (j : Journal) × IsNew j × JournalEvents k (two_disk k) j [] (journal_of I a k) (trace.Join 1 ∷ trace.Join 2 ∷ [])) (sym e) (
        record (journal_of I a 2) { runs = false },
        record { runs = refl; unlost = refl; last = refl; cut = λ c. refl; name = refl; flies = refl; silent = refl },
        Then _ _ _ _ (Then _ _ _ _ Done (Says (trace.Join 1) (λ f. absurd (omega (arith, f))))) (Joins refl (inr refl) (inl refl) refl),
      )
      | inr other ↦ (
        journal_of I a i,
        record { runs = ap (λ (q : Bool). q || (i == 2)) (eqb-other i 1 ne) ∙ eqb-other i 2 other; unlost = refl; last = refl; cut = λ c. refl; name = refl; flies = refl; silent = refl },
        Then _ _ _ _ (Then _ _ _ _ Done (Says (trace.Join 1) (λ f. ne (sym f)))) (Says (trace.Join 2) (λ f. other (sym f))),
      )
    ]
  ]

  begins : F.Stands m t → Begins I clients two_disk a
  begins stands = record { starts = starts F (two_start I m t said) (is-start stands); joined = begun; joins = tt }

  -- ---- what comes

  abbrev sync : trees.Told
  sync = synced clients name

  abbrev w1 : World F
  w1 = record (c0.world) { book = tried F (BookOf F c0) 1 sync (world.nothing F) (world.nothing F) ((BookOf F c0).cache 1); sure = at ((c0.world).sure) 1 1 }

  abbrev c1 : Cluster F
  c1 = record c0 { world = w1 }

  abbrev w2 : World F
  w2 = record w1 {
    book = publish F (w1.book) 1;
    items = w1.items ++ (Called (record { node = 1; number = suc ((w1.book).published 1); said = (w1.book).told 1 (suc ((w1.book).published 1)) }) ∷ []);
  }

  abbrev c2 : Cluster F
  c2 = record c0 { world = w2 }

  -- a header with the one call and nothing live, in flight and on the disk
  abbrev h : Head F
  h = record { cut = 1; live = λ b. None }

  abbrev wh : World F
  wh = record w2 { disk = headed F (w2.disk) 1 h }

  abbrev ch : Cluster F
  ch = record c2 { world = wh; header_of = at (c2.header_of) 1 (Some 1) }

  abbrev wd : World F
  wd = record wh { book = flushed F (wh.book) 1 1; disk = chosen F (wh.disk) 1 true }

  abbrev cd : Cluster F
  cd = record ch { world = wd; header_of = at (ch.header_of) 1 None }

  abbrev c3 : Cluster F
  c3 = record cd {
    world = with_book F cd (relocked F (BookOf F cd) ((BookOf F cd).state) (at ((BookOf F cd).cache) 1 (world.nothing F)));
    locks = λ l. at (cd.locks l) 1 (stopped (cd.locks l 1));
    runs = at (cd.runs) 1 false;
    waits = at (cd.waits) 1 true;
    fenced = at (cd.fenced) 1 false;
    unlost = at (cd.unlost) 1 (suc (cd.unlost 1));
  }

  abbrev cf : Cluster F
  cf = record c3 { fenced = at (c3.fenced) 1 true }

  -- and such a one of node 2 for that journal, which is clean then
  abbrev wr : World F
  wr = record (cf.world) { disk = headed F ((cf.world).disk) 1 h }

  abbrev cr : Cluster F
  cr = record cf { world = wr; header_of = at (cf.header_of) 1 (Some 2) }

  abbrev w4 : World F
  w4 = record wr { book = flushed F (wr.book) 1 1; disk = chosen F (wr.disk) 1 true }

  abbrev c4 : Cluster F
  c4 = record cr { world = w4; header_of = at (cr.header_of) 1 None }

  abbrev w5 : World F
  w5 = record (c4.world) {
    book = lost F ((c4.world).book) 1 1;
    disk = renumbered F ((c4.world).disk) 1 (((c4.world).book).answered 1);
    items = (c4.world).items ++ (Gone 1 (((c4.world).book).low 1) 1 ∷ []);
  }

  calm : (n : ℕ) → 1 ≤ n → n < 1 → F.Changes (((c4.world).book).told 1 (suc n)) ≡ false
  calm n low high = absurd (omega (arith, low, high))

  abbrev loses : world.Step F (c4.world) w5
  loses = world.Loses 1 1 refl (omega arith) (omega arith) calm (inl refl) (λ b. refl) refl

  abbrev may-lose : cluster.MayWork F c4 w5 loses
  may-lose = (refl, inr refl, (0, refl))

  abbrev c5 : Cluster F
  c5 = cluster.worked F c4 w5 loses may-lose

  abbrev c6 : Cluster F
  c6 = record c5 {
    world = with_book F c5 (relocked F (BookOf F c5) (at ((BookOf F c5).state) 1 (λ l. Un)) ((BookOf F c5).cache));
    locks = λ l. at (c5.locks l) 1 (freed (c5.locks l 1));
    waits = at (c5.waits) 1 false;
  }

  abbrev c7 : Cluster F
  c7 = record c6 { locks = λ l. at (c6.locks l) 1 (joined (c6.locks l 1)); runs = at (c6.runs) 1 true; fenced = at (c6.fenced) 1 false }

  -- ---- the events

  does : Does F (world.nothing F) sync (world.nothing F)
  does image tree agrees stands = (stands, inl refl)

  abbrev answers : Event F c0 c1
  answers = cluster.Works w1 (world.Syncs 1 sync does refl (λ n low high. absurd (omega (arith, high)))) refl

  abbrev publishes : Event F c1 c2
  publishes = cluster.Works w2 (world.Publishes 1 (omega arith)) tt

  abbrev begins-header : Event F c2 ch
  begins-header = cluster.Works wh
      (world.Begins 1 h refl (record { cut = (omega arith, omega arith); lives = λ b x e. none-some refl e; owned = λ b own. none-some refl own; flights = λ r b x e own. none-some refl e }))
      ((1, (refl, inl refl), ((λ b. refl), (λ k e. none-some refl e))), refl, (λ r b x e own. none-some refl e), (λ waits. no-way waits))

  abbrev ends-header : Event F ch cd
  ends-header = cluster.Works wd (world.Ends 1 true) (1, refl, inl refl)

  -- no header is in flight
  unheaded : (k : ℕ) (q : ℕ) → (cd.header_of k) ≡ Some q → ⊥
  unheaded k q e = by (k == 1) e
    where
      by : (b : Bool) → (if b then None else (if b then Some 1 else None)) ≡ Some q → ⊥
      by true f = none-some refl f
      by false f = none-some refl f

  abbrev begins-clean : Event F cf cr
  begins-clean = cluster.Works wr
      (world.Begins 1 h refl (record { cut = (omega arith, omega arith); lives = λ b x e. none-some refl e; owned = λ b own. none-some refl own; flights = λ r b x e own. none-some refl e }))
      ((2, (refl, inr refl), ((λ b. refl), (λ k e. unheaded k 2 e))), refl, (λ r b x e own. none-some refl e), (λ waits. refl))

  abbrev ends-clean : Event F cr c4
  ends-clean = cluster.Works w4 (world.Ends 1 true) (2, refl, inl refl)

  abbrev crashes : Event F cd c3
  crashes = cluster.Stops 1 (λ e. absurd (omega (arith, e))) refl refl

  abbrev fences : Event F c3 cf
  fences = cluster.Fences 1 refl refl ((λ b. refl), (λ k e. unheaded k 1 e))

  abbrev is-lost : Event F c4 c5
  is-lost = cluster.Works w5 loses may-lose

  abbrev recovers : Event F c5 c6
  recovers = cluster.Recovers 1 (λ e. absurd (omega (arith, e))) refl (λ b own. none-some refl own) refl refl

  abbrev joins : Event F c6 c7
  joins = cluster.Joins 1 (λ e. absurd (omega (arith, e))) refl refl (inl refl)

  -- ---- what is told of them

  -- these items come
  abbrev with : Traced I → List TraceItem → Beside
  with v more = record { names = v.names; silent = v.silent; items = v.items ++ more }

  abbrev is_said : Traced I → TraceItem → Traced I
  is_said v x = record v { items = v.items ++ x ∷ [] }

  abbrev t1 : Traced I
  t1 = traced_of I c1 (with a [])

  abbrev t2 : Traced I
  t2 = traced_of I c2 (with t1 (trace.Call 1 name 1 calls.Sync replies.Ok ∷ []))

  -- the header's name beside the one before it, and then it alone
  abbrev uh : Beside
  uh = record { names = at (t2.names) 1 (either (t2.names 1 false) (head 21 4)); silent = t2.silent; items = t2.items ++ trace.WriteHead 1 21 4 1 ∷ [] }

  abbrev th : Traced I
  th = is_said (traced_of I ch uh) (trace.Barrier 1)

  abbrev ud : Beside
  ud = record { names = at (th.names) 1 (λ e. th.names 1 true); silent = th.silent; items = th.items ++ trace.Commit 1 4 1 ∷ [] }

  abbrev td : Traced I
  td = traced_of I cd ud

  -- who crashes has no header without an item any more
  abbrev u3 : Beside
  u3 = record { names = td.names; silent = at (td.silent) 1 false; items = td.items ++ trace.Crash 1 ∷ [] }

  abbrev t3 : Traced I
  t3 = traced_of I c3 u3

  abbrev tf : Traced I
  tf = is_said (traced_of I cf (with t3 (trace.Fence 1 ∷ []))) (trace.WriteReplay 2 22)

  abbrev ur : Beside
  ur = record { names = at (tf.names) 1 (either (tf.names 1 false) (clean 22 5)); silent = tf.silent; items = tf.items ++ [] }

  abbrev tr : Traced I
  tr = is_said (traced_of I cr ur) (trace.Barrier 2)

  abbrev u4 : Beside
  u4 = record { names = at (tr.names) 1 (λ e. tr.names 1 true); silent = tr.silent; items = tr.items ++ [] }

  abbrev t4 : Traced I
  t4 = is_said (traced_of I c4 u4) (trace.Recovered 1 2)

  abbrev t5 : Traced I
  t5 = traced_of I c5 (with t4 (trace.Lost 1 1 ∷ []))

  abbrev t6 : Traced I
  t6 = traced_of I c6 (with t5 [])

  abbrev t7 : Traced I
  t7 = traced_of I c7 (with t6 (trace.Join 1 ∷ []))

  changed : (v : Traced I) (more : List TraceItem) → Changed I v (with v more) (v.names) (v.silent) more
  changed v more = record { named = refl; silenced = refl; said = refl }

  goes : (v : Traced I) (more : List TraceItem) → recoveries_are_told (slots_of I v) more ≡ true
      → ((i : ℕ) → (v.cluster).waits i ≡ true → is_recovering i (place_of (v.items)) ≡ true → is_recovering i (place_of (v.items ++ more)) ≡ true) → GoesOn I v (v.items ++ more)
  goes v more told through = record { more = more; said = refl; told = told; through = through }

  nobody-waits : {A : Type 0} (i : ℕ) → (c6.waits i) ≡ true → A
  nobody-waits i w = by (i == 1) w
    where
      by : {A : Type 0} (q : Bool) → (if q then false else (if q then true else false)) ≡ true → A
      by true e = no-way e
      by false e = no-way e

  named : (v : Traced I) (names : ℕ → Bool → AcceptedHead) (more : List TraceItem) → Changed I v (record { names = names; silent = v.silent; items = v.items ++ more }) names (v.silent) more
  named v names more = record { named = refl; silenced = refl; said = refl }

  committed : Tellings I clients two_disk a td
  committed =
      AnEvent th ud cd ends-header
      (AnItem _ (trace.Barrier 1)
      (AnEvent t2 uh ch begins-header
      (AnEvent t1 (with t1 (trace.Call 1 name 1 calls.Sync replies.Ok ∷ [])) c2 publishes
      (AnEvent a (with a []) c1 answers Nothing
      (changed a []) (goes a [] refl (λ i w e. e)))
      (record { name = name; client = refl; dirty = λ s. no-way s; changed = changed t1 _ }) (goes t1 (trace.Call 1 name 1 calls.Sync replies.Ok ∷ []) refl (λ i w e. no-way e)))
      (Own false 21 refl refl (named t2 _ _)) (goes t2 (trace.WriteHead 1 21 4 1 ∷ []) refl (λ i w e. no-way e)))
      tt (goes (traced_of I ch uh) (trace.Barrier 1 ∷ []) refl (λ i w e. no-way e)))
      (Committed 4 1 refl refl refl refl refl refl (named th _ _)) (goes th (trace.Commit 1 4 1 ∷ []) refl (λ i w e. no-way e))

  so_far : Tellings I clients two_disk a t4
  so_far =
      AnItem _ (trace.Recovered 1 2)
      (AnEvent tr u4 c4 ends-clean
      (AnItem _ (trace.Barrier 2)
      (AnEvent tf ur cr begins-clean
      (AnItem _ (trace.WriteReplay 2 22)
      (AnEvent t3 (with t3 (trace.Fence 1 ∷ [])) cf fences
      (AnEvent td u3 c3 crashes committed
      (trace.Crash 1, refl, record { named = refl; silenced = refl; said = refl }) (goes td (trace.Crash 1 ∷ []) refl (λ i w e. no-way e)))
      (refl, changed t3 _) (goes t3 (trace.Fence 1 ∷ []) refl (λ i w e. no-way e)))
      tt (goes (traced_of I cf (with t3 (trace.Fence 1 ∷ []))) (trace.WriteReplay 2 22 ∷ []) refl (λ i w e. no-way e)))
      (Replay (clean 22 5) refl (inl refl) (named tf _ [])) (goes tf [] refl (λ i w e. e)))
      tt (goes (traced_of I cr ur) (trace.Barrier 2 ∷ []) refl (λ i w e. no-way e)))
      (Settled (λ runs. refl) (named tr _ [])) (goes tr [] refl (λ i w e. e)))
      (refl, (λ e. absurd (omega (arith, e)))) (goes (traced_of I c4 u4) (trace.Recovered 1 2 ∷ []) refl (λ i w e. no-way e))

  is_told : Tellings I clients two_disk a t7
  is_told =
      AnEvent t6 (with t6 (trace.Join 1 ∷ [])) c7 joins
      (AnEvent t5 (with t5 []) c6 recovers
      (AnEvent t4 (with t4 (trace.Lost 1 1 ∷ [])) c5 is-lost so_far
      (changed t4 _) (goes t4 (trace.Lost 1 1 ∷ []) refl (λ i w e. e)))
      (refl, refl, (λ r l is. no-way r), changed t5 []) (goes t5 [] refl (λ i w e. e)))
      (refl, changed t6 _) (goes t6 (trace.Join 1 ∷ []) refl (λ i w e. nobody-waits i w))

  pub two-nodes : F.Stands m t → Begins I clients two_disk a
      × ((e : Traced I) × Tellings I clients two_disk a e × (e.items ≡ two_run name) × ((e.cluster).runs 1 ≡ true) × ((e.cluster).waits 1 ≡ false) × ((e.cluster).unlost 1 ≡ 0))
  two-nodes stands = (begins stands, (t7, is_told, refl, refl, refl, refl))

pub two-nodes-are-told : (I : Images) → TwoNodesAreTold I
two-nodes-are-told I clients name m t said stands = two-nodes I clients name m t said stands
