-- A changing call, event by event.
use Rattle.std.proofs.Common.{ℕ, suc, ◌≡◌, inl, inr, Bool, true, false, Option, None, Some, List, [], ◌∷◌, ◌++◌, refl, sym, ap, ◌∙◌, subst, arith}
use Rattle.std.specs.Prelude.{◌==◌, if◌then◌else◌}
use Rattle.std.proofs.lemmas.Bool.{cases_eq}
use Rattle.file_tree.specs.Tree.{Tree}
use Rattle.file_tree.specs.Apply.{apply}
use Rattle.file_tree.specs.declared.call.Call.{Call}
use Rattle.file_tree.specs.declared.reply.Reply.{Reply}
use Rattle.file_tree.specs.declared.reply.Reply.TheVariants as replies
use Rattle.trace_text.specs.declared.item.TraceItem.{TraceItem}
use Rattle.trace_text.specs.declared.item.TraceItem.TheVariants as trace
use Rattle.script_lang.specs.declared.script.Client.{Client}
use Rattle.run_rules.specs.Recoveries.{is_recovering}
use Rattle.cluster_history.specs.Changes.{may_change}
use Rattle.lock_laws.specs.Lock.{Node, Asked, starting, goes}
use Rattle.lock_laws.specs.Lock as lock
use Rattle.cluster_laws.specs.Files.{Files, CellOf, Part, Un, Ex, Does}
use Rattle.cluster_laws.specs.Book.{at, tried, publish, relocked, Seen, W}
use Rattle.cluster_laws.specs.Locks.{read_into}
use Rattle.cluster_laws.specs.History.{Called}
use Rattle.cluster_laws.specs.World as world
use Rattle.cluster_laws.specs.World.{World, Answering}
use Rattle.cluster_events.specs.Cluster.{Cluster, Event, BookOf, with_book, restated}
use Rattle.cluster_events.specs.Cluster as cluster
use Rattle.event_lists.specs.Begins.{IsStart}
use Rattle.event_lists.proofs.Beginning.{dirty_start as starts}
use Rattle.tree_histories.specs.Trees as trees
use Rattle.tree_histories.specs.Trees.{Trees}
use Rattle.head_laws.specs.Journals.{Journal, JournalEvents, IsNew, Says, Joins, Done, Then}
use Rattle.head_laws.specs.Traces.{Traced, journal_of, Begins}
use Rattle.head_laws.specs.Tellings.{Beside, traced_of, place_of, GoesOn, Changed, Tellings, Nothing, AnEvent}
use Rattle.head_laws.specs.Changing.{one_block, answered_ok, one_start, one_begin, one_disk, ChangingCallIsTold}
use Rattle.head_laws.proofs.Items.{true-false, eqb-other}

no-way : {A : Type 0} → false ≡ true → A
no-way e = absurd (let f : false ≡ true = e in cc)

inside : {A : Type 0} {a b : A} → Some a ≡ Some b → a ≡ b
inside e = cc

none-some : {A : Type 0} {B : Type 0} {o : Option A} {x : A} → o ≡ None → o ≡ Some x → B
none-some {A} {B} {o} {x} e f = absurd (let g : None ≡ Some x = sym e ∙ f in cc)

not-un : Ex ≡ Un → ⊥
not-un e = cc

abbrev F : Files
F = Trees one_block

-- a part of one block
abbrev only : CellOf F → Part F
only x = at (λ b. None) 0 (Some x)

only-is : (x y : CellOf F) (b : ℕ) → only x b ≡ Some y → (b ≡ 0) × (x ≡ y)
only-is x y b e = elim (cases_eq b 0) [
  | inl is ↦ (is, inside (subst (λ (k : ℕ). only x k ≡ Some y) is e))
  | inr ne ↦ none-some (ap (λ (q : Bool). if q then Some x else None) (eqb-other b 0 ne)) e
]

module _ (clients : List Client) (name : List ℕ) (call : Call) (t : Tree) (said : trees.Told) (ok : (apply call t).reply ≡ replies.Ok) (may : may_change call ≡ true) where
  abbrev a : Traced one_block
  a = one_begin t said

  abbrev c0 : Cluster F
  c0 = a.cluster

  -- ---- the start

  is-start : IsStart F (one_start t said)
  is-start = record { stands = refl; replayed = λ b v e. none-some refl e; rest = λ b e. refl; gone = refl; clean = λ e b. refl }

  begun : (i : ℕ) → (j : Journal) × IsNew j × JournalEvents i (one_disk i) j [] (journal_of one_block a i) (trace.Join 1 ∷ [])
  begun i = elim (cases_eq i 1) [
    | inl e ↦ subst (λ (k : ℕ). (j : Journal) × IsNew j × JournalEvents k (one_disk k) j [] (journal_of one_block a k) (trace.Join 1 ∷ [])) (sym e) (
      record (journal_of one_block a 1) { runs = false },
      record { runs = refl; unlost = refl; last = refl; cut = λ c. refl; name = refl; flies = refl; silent = refl },
      Then _ _ _ _ Done (Joins refl (inr refl) (inl refl) refl),
    )
    | inr ne ↦ (
      journal_of one_block a i,
      record { runs = eqb-other i 1 ne; unlost = refl; last = refl; cut = λ c. refl; name = refl; flies = refl; silent = refl },
      Then _ _ _ _ Done (Says (trace.Join 1) (λ e. ne (sym e))),
    )
  ]

  begins : Begins one_block clients one_disk a
  begins = record { starts = starts F (one_start t said) is-start; joined = begun; joins = tt }

  -- ---- the lock: it is asked for, heard of, granted, and taken

  abbrev n1 : Node
  n1 = record (starting true false) { asked = true; up = Asked Ex ∷ [] }

  abbrev n2 : Node
  n2 = record n1 { wants = Some Ex; up = [] }

  abbrev n3 : Node
  n3 = record n2 { table = Ex; wants = None; down = Some Ex }

  abbrev n4 : Node
  n4 = record n3 { state = Ex; asked = false; down = None }

  abbrev l0 : ℕ → Node
  l0 i = starting (i == 1) false

  abbrev l1 : ℕ → Node
  l1 = at l0 1 n1

  abbrev l2 : ℕ → Node
  l2 = at l1 1 n2

  abbrev l3 : ℕ → Node
  l3 = at l2 1 n3

  abbrev l4 : ℕ → Node
  l4 = at l3 1 n4

  abbrev c1 : Cluster F
  c1 = record c0 { locks = λ l. l1 }

  abbrev c2 : Cluster F
  c2 = record c1 { locks = λ l. l2 }

  abbrev c3 : Cluster F
  c3 = record c2 { locks = λ l. l3 }

  abbrev c4 : Cluster F
  c4 = record c3 { world = with_book F c3 (relocked F (BookOf F c3) (restated F c3 1 (λ l. l4)) ((BookOf F c3).cache)); locks = λ l. l4 }

  abbrev asks : Event F c0 c1
  asks = cluster.Mails (λ l. l1) (λ l. cluster.OfOne 1 n1 (lock.Asks Ex refl refl refl refl refl refl) refl refl refl)

  abbrev hears : Event F c1 c2
  hears = cluster.Mails (λ l. l2) (λ l. cluster.OfOne 1 n2 (lock.HearsAsk Ex [] refl) refl refl refl)

  abbrev heard-of : Bool → Node
  heard-of q = if q then n2 else (if q then n1 else starting q false)

  heard : (q : Bool) → (heard-of q).roll ≡ true → (heard-of q).heard ≡ true
  heard true e = refl
  heard false e = no-way e

  awake : (q : Bool) → (heard-of q).waits ≡ false
  awake true = refl
  awake false = refl

  free : (q : Bool) → goes Ex ((heard-of q).table) ≡ true
  free true = refl
  free false = refl

  abbrev grants : Event F c2 c3
  grants = cluster.Mails (λ l. l3) (λ l. cluster.Granted 1 Ex (λ i. heard (i == 1)) (λ i. awake (i == 1)) refl (λ i ne. free (i == 1)))

  abbrev takes : Event F c3 c4
  takes = cluster.IsGranted 1 (λ l. l4) (λ e. absurd (omega (arith, e))) (λ k. refl) (λ l. cluster.Takes Ex refl refl refl refl)

  -- ---- the block is read

  abbrev w5 : World F
  w5 = record (c4.world) { book = relocked F (BookOf F c4) ((BookOf F c4).state) (read_into F (BookOf F c4) 1 0) }

  abbrev c5 : Cluster F
  c5 = record c4 { world = w5 }

  abbrev reads : Event F c4 c5
  reads = cluster.Works w5 (world.Reads 1 0 (λ e. not-un e)) (refl, inl refl)

  -- ---- the call is answered and published

  abbrev it : trees.Told
  it = answered_ok clients name call

  abbrev before : CellOf F
  before = record { content = t; place = tt }

  abbrev after : CellOf F
  after = record { content = (apply call t).tree; place = tt }

  answers-it : (u : Tree) → t ≡ u → F.Answers it u
  answers-it u e = subst (λ (v : Tree). F.Answers it v) e (inl (ap (λ (r : Reply). record { reply = r; tree = (apply call t).tree }) ok))

  does : Does F (only before) it (only after)
  does image tree agrees stands =
      let same : t ≡ tree = ap (λ (x : CellOf F). x.content) (sym (agrees 0 before refl)) ∙ stands in
      (ap (λ (u : Tree). (apply call u).tree) same, answers-it tree same)

  answering : Answering F (w5.book) 1 it (only before) (only after) (only after)
  answering = record {
    sees = λ b x e. (let is = only-is before x b e in
        subst (λ (k : ℕ). Seen F (w5.book) 1 ((w5.book).answered 1) k x) (sym (is.0)) (record { owner = inl refl; cell = is.1; held = λ f. not-un f }));
    does = does;
    guards = λ image tree b y agrees stands e. (refl, refl);
    caches = λ b x e. inl e;
    tells = record { empty = λ none. true-false may none; some = λ changes. (0, after, refl) };
    tracks = λ image tree b y agrees stands e. ((0, after, refl, inl ((λ f. f), refl)), (0, after, refl, inl ((λ f. f), refl)));
  }

  no-sync : F.IsSync it → ⊥
  no-sync (is, done) = true-false may (ap may_change is)

  abbrev w6 : World F
  w6 = record w5 { book = tried F (w5.book) 1 it (only before) (only after) (only after) }

  abbrev c6 : Cluster F
  c6 = record c5 { world = w6 }

  abbrev w7 : World F
  w7 = record w6 {
    book = publish F (w6.book) 1;
    items = w6.items ++ (Called (record { node = 1; number = suc ((w6.book).published 1); said = (w6.book).told 1 (suc ((w6.book).published 1)) }) ∷ []);
  }

  abbrev c7 : Cluster F
  c7 = record c6 { world = w7 }

  abbrev answers : Event F c5 c6
  answers = cluster.Works w6 (world.Answers 1 it (only before) (only after) (only after) no-sync answering) refl

  abbrev publishes : Event F c6 c7
  publishes = cluster.Works w7 (world.Publishes 1 (omega arith)) tt

  -- ---- what is told of them

  abbrev with : Traced one_block → List TraceItem → Beside
  with v more = record { names = v.names; silent = v.silent; items = v.items ++ more }

  abbrev t1 : Traced one_block
  t1 = traced_of one_block c1 (with a [])

  abbrev t2 : Traced one_block
  t2 = traced_of one_block c2 (with t1 [])

  abbrev t3 : Traced one_block
  t3 = traced_of one_block c3 (with t2 [])

  abbrev t4 : Traced one_block
  t4 = traced_of one_block c4 (with t3 [])

  abbrev t5 : Traced one_block
  t5 = traced_of one_block c5 (with t4 [])

  abbrev t6 : Traced one_block
  t6 = traced_of one_block c6 (with t5 [])

  abbrev its : List TraceItem
  its = trace.Call 1 name 1 call replies.Ok ∷ []

  abbrev t7 : Traced one_block
  t7 = traced_of one_block c7 (with t6 its)

  changed : (v : Traced one_block) (more : List TraceItem) → Changed one_block v (with v more) (v.names) (v.silent) more
  changed v more = record { named = refl; silenced = refl; said = refl }

  -- no item comes
  rests : (v : Traced one_block) → (v.items ++ []) ≡ v.items → GoesOn one_block v (v.items ++ [])
  rests v same = record { more = []; said = refl; told = refl; through = λ i w e. ap (λ (xs : List TraceItem). is_recovering i (place_of xs)) same ∙ e }

  is_told : Tellings one_block clients one_disk a t7
  is_told =
      AnEvent t6 (with t6 its) c7 publishes
      (AnEvent t5 (with t5 []) c6 answers
      (AnEvent t4 (with t4 []) c5 reads
      (AnEvent t3 (with t3 []) c4 takes
      (AnEvent t2 (with t2 []) c3 grants
      (AnEvent t1 (with t1 []) c2 hears
      (AnEvent a (with a []) c1 asks Nothing
      (changed a []) (rests a refl))
      (changed t1 []) (rests t1 refl))
      (changed t2 []) (rests t2 refl))
      (changed t3 []) (rests t3 refl))
      (changed t4 []) (rests t4 refl))
      (changed t5 []) (rests t5 refl))
      (record { name = name; client = refl; dirty = λ s. no-way s; changed = changed t6 its })
      (record { more = its; said = refl; told = refl; through = λ i w e. no-way e })

  pub changing-call : Begins one_block clients one_disk a
      × ((e : Traced one_block) × Tellings one_block clients one_disk a e
      × (e.items ≡ trace.Join 1 ∷ trace.Call 1 name 1 call replies.Ok ∷ [])
      × ((W F (((e.cluster).world).book) ((((e.cluster).world).book).answered) 0).content ≡ (apply call t).tree))
  changing-call = (begins, (t7, is_told, refl, refl))

pub changing-call-is-told : ChangingCallIsTold
changing-call-is-told clients name call t said ok may = changing-call clients name call t said ok may
