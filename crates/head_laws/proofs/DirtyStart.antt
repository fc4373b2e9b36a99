-- A run from a dirty start, event by event.
use Rattle.std.proofs.Common.{ℕ, ◌≡◌, ◌⊎◌, inl, inr, Bool, true, false, Option, None, Some, List, [], ◌∷◌, ◌++◌, refl, sym, ap, ◌∙◌, subst, arith}
use Rattle.std.specs.Prelude.{◌==◌, ◌||◌, if◌then◌else◌}
use Rattle.std.proofs.lemmas.Bool.{cases_eq}
use Rattle.file_tree.specs.Tree.{Tree}
use Rattle.trace_text.specs.declared.item.TraceItem.{TraceItem}
use Rattle.trace_text.specs.declared.item.TraceItem.TheVariants as trace
use Rattle.script_lang.specs.declared.script.Client.{Client}
use Rattle.run_rules.specs.Lives.{Life, AcceptedHead, own_from}
use Rattle.run_rules.specs.Recoveries.{is_recovering, recoveries_are_told}
use Rattle.cluster_laws.specs.Files.{Files, Image, Un, laid}
use Rattle.cluster_laws.specs.Book.{at, flushed, settled, relocked}
use Rattle.cluster_laws.specs.Mirror.{Head, Heads, either, ended, flown, headed, chosen}
use Rattle.cluster_laws.specs.World as world
use Rattle.cluster_laws.specs.World.{World}
use Rattle.cluster_events.specs.Cluster.{Cluster, Event, BookOf, with_book, freed}
use Rattle.cluster_events.specs.Cluster as cluster
use Rattle.event_lists.specs.Begins.{IsStart, owner_of}
use Rattle.event_lists.proofs.Beginning.{dirty_start as starts}
use Rattle.tree_histories.specs.Trees as trees
use Rattle.tree_histories.specs.Trees.{Images, Trees}
use Rattle.head_laws.specs.Example.{clean}
use Rattle.head_laws.specs.Journals.{Journal, JournalEvents, IsNew, IsFirst, Says, Joins, Done, Then}
use Rattle.head_laws.specs.Traces.{Traced, journal_of, Begins}
use Rattle.head_laws.specs.Tellings.{Beside, traced_of, place_of, slots_of, GoesOn, Changed, Replay, Settled, Tellings, Nothing, AnEvent, AnItem, Lands}
use Rattle.head_laws.specs.DirtyStart.{dirty_start, disk_heads, dirty_begin, dirty_run, DirtyStartIsTold}
use Rattle.head_laws.proofs.Items.{eqb-other}

no-way : {A : Type 0} → false ≡ true → A
no-way e = absurd (let f : false ≡ true = e in cc)

inside : {A : Type 0} {a b : A} → Some a ≡ Some b → a ≡ b
inside e = cc

none-some : {A : Type 0} {B : Type 0} {o : Option A} {x : A} → o ≡ None → o ≡ Some x → B
none-some {A} {B} {o} {x} e f = absurd (let g : None ≡ Some x = sym e ∙ f in cc)

module _ (I : Images) (clients : List Client) (m : Image (Trees I)) (t : Tree) (d : I.Content) (said : trees.Told) where
  abbrev F : Files
  F = Trees I

  abbrev v : I.Content
  v = (m 5).content

  abbrev a : Traced I
  a = dirty_begin I m t d said

  abbrev c0 : Cluster F
  c0 = a.cluster

  -- ---- the start

  is-start : F.Stands m t → IsStart F (dirty_start I m t d said)
  is-start stands = record {
    stands = stands;
    replayed = λ b w e. replayed b w (cases_eq b 5) e;
    rest = λ b e. rest b (b == 5) (cases_eq b 5) e;
    gone = refl;
    clean = λ e. no-way (sym e);
  }
    where
      replayed : (b : ℕ) (w : I.Content) → (b ≡ 5) ⊎ (b ≡ 5 → ⊥) → at (λ k. None) 5 (Some v) b ≡ Some w → (m b).content ≡ w
      replayed b w (inl e) is = ap (λ (k : ℕ). (m k).content) e ∙ inside (subst (λ (k : ℕ). at {A = Option I.Content} (λ k. None) 5 (Some v) k ≡ Some w) e is)
      replayed b w (inr ne) is = none-some (ap (λ (q : Bool). if q then Some v else None) (eqb-other b 5 ne)) is

      rest : (b : ℕ) (q : Bool) → (b ≡ 5) ⊎ (b ≡ 5 → ⊥) → at {A = Option I.Content} (λ k. None) 5 (Some v) b ≡ None → (m b).content ≡ at (λ k. (m k).content) 5 d b
      rest b q (inl e) is = none-some (subst (λ (k : ℕ). at {A = Option I.Content} (λ k. None) 5 (Some v) k ≡ None) e is) refl
      rest b q (inr ne) is = sym (ap (λ (q : Bool). if q then d else (m b).content) (eqb-other b 5 ne))

  joined : (i : ℕ) → (j : Journal) × IsNew j × JournalEvents i (disk_heads i) j [] (journal_of I a i) (trace.Join 1 ∷ [])
  joined i = elim (cases_eq i 1) [
    | inl e ↦ subst (λ (k : ℕ). (j : Journal) × IsNew j × JournalEvents k (disk_heads k) j [] (journal_of I a k) (trace.Join 1 ∷ [])) (sym e) (
      record (journal_of I a 1) { runs = false },
      record { runs = refl; unlost = refl; last = refl; cut = λ c. refl; name = refl; flies = refl; silent = refl },
      Then _ _ _ _ Done (Joins refl (inr refl) (inl refl) refl),
    )
    | inr ne ↦ (
      journal_of I a i,
      record { runs = eqb-other i 1 ne; unlost = refl; last = refl; cut = λ c. refl; name = refl; flies = refl; silent = refl },
      Then _ _ _ _ Done (Says (trace.Join 1) (λ e. ne (sym e))),
    )
  ]

  begins : F.Stands m t → Begins I clients disk_heads a
  begins stands = record { starts = starts F (dirty_start I m t d said) (is-start stands); joined = joined; joins = tt }

  -- ---- what comes, where the past has this header and these blocks go home

  abbrev h : Head F
  h = record { cut = 0; live = λ b. None }

  abbrev w1 : World F
  w1 = record (c0.world) { disk = flown F ((c0.world).disk) 1 5 v }

  abbrev c1 : Cluster F
  c1 = record c0 { world = w1 }

  abbrev home : ℕ → I.Content
  home b = laid ((w1.disk).flight 1 b) ((w1.disk).blocks b)

  abbrev w2 : World F
  w2 = record w1 { disk = ended F (w1.disk) 1 home }

  abbrev c2 : Cluster F
  c2 = record c0 { world = w2 }

  abbrev w3 : World F
  w3 = record w2 { disk = headed F (w2.disk) 9 h }

  abbrev c3 : Cluster F
  c3 = record c0 { world = w3; header_of = at (c0.header_of) 9 (Some 1) }

  abbrev w4 : World F
  w4 = record w3 { book = flushed F (w3.book) 9 0; disk = chosen F (w3.disk) 9 true }

  abbrev c4 : Cluster F
  c4 = record c0 { world = w4; header_of = at (c3.header_of) 9 None }

  abbrev w5 : World F
  w5 = record w4 { book = settled F (w4.book) 9 (λ b. b == 5) }

  abbrev c5 : Cluster F
  c5 = record c4 { world = w5 }

  -- slot i doesn't wait any more
  abbrev rid : Cluster F → ℕ → Cluster F
  rid c i = record c {
    world = with_book F c (relocked F (BookOf F c) (at ((BookOf F c).state) i (λ l. Un)) ((BookOf F c).cache));
    locks = λ l. at (c.locks l) i (freed (c.locks l i));
    waits = at (c.waits) i false;
  }

  abbrev c6 : Cluster F
  c6 = rid c5 1

  abbrev c7 : Cluster F
  c7 = rid c6 9

  -- ---- the events

  abbrev writes : Event F c0 c1
  writes = cluster.Works w1 (world.Writes 1 5 v 9 (λ e. refl)) ((refl, inr refl), refl)

  abbrev lands : Event F c1 c2
  lands = cluster.Works w2 (world.Lands 1 home (λ b. by ((w1.disk).flight 1 b) ((w1.disk).blocks b))) (inl (λ b. refl))
    where
      by : (o : Option I.Content) (x : I.Content) → (laid o x ≡ x) ⊎ ((y : I.Content) × (o ≡ Some y))
      by None x = inl refl
      by (Some y) x = inr (y, refl)

  abbrev nothing : ℕ → Option I.Content
  nothing b = None

  -- nothing is in flight then
  nothing-flies : (r b : ℕ) → (w2.disk).flight r b ≡ None
  nothing-flies r b = by (r == 1)
    where
      by : (q : Bool) → (if q then nothing else (if q then at nothing 5 (Some v) else nothing)) b ≡ None
      by true = refl
      by false = refl

  is-home : (b : ℕ) → (m b).content ≡ home b
  is-home b = elim (cases_eq b 5) [
    | inl e ↦ subst (λ (k : ℕ). (m k).content ≡ home k) (sym e) refl
    | inr ne ↦ sym (ap (λ (q : Bool). laid (if q then Some v else None) (if q then d else (m b).content)) (eqb-other b 5 ne))
  ]

  heads : Heads F (w2.book) (w2.disk) 9 h
  heads = record {
    cut = (omega arith, omega arith);
    lives = λ b x e. none-some refl e;
    owned = λ b own. inl (is-home b);
    flights = λ r b x e own. none-some (nothing-flies r b) e;
  }

  abbrev begins-clean : Event F c2 c3
  begins-clean = cluster.Works w3 (world.Begins 9 h refl heads)
      ((1, (refl, inr refl), ((λ b. refl), (λ k e. none-some refl e))), refl, (λ r b x e own. none-some (nothing-flies r b) e), (λ waits. refl))

  abbrev ends-clean : Event F c3 c4
  ends-clean = cluster.Works w4 (world.Ends 9 true) (1, refl, inl refl)

  abbrev settles : Event F c4 c5
  settles = cluster.Works w5 (world.Settles 9 (λ b. b == 5) refl owned (λ n b p low high. absurd (omega (arith, high))) unlive) tt
    where
      owned : (b : ℕ) → (b == 5) ≡ true → owner_of 9 (at {A = Option I.Content} (λ k. None) 5 (Some v) b) ≡ Some 9
      owned b p = ap (λ (q : Bool). owner_of {A = I.Content} 9 (if q then Some v else None)) p

      unlive : (e : Bool) (b : ℕ) → (b == 5) ≡ true → ((w4.disk).heads 9 e).live b ≡ None
      unlive false b p = refl
      unlive true b p = refl

  unowned : (i b : ℕ) → (w5.book).owner b ≡ Some i → ⊥
  unowned i b own = none-some (by (b == 5)) own
    where
      by : (q : Bool) → (if q then None else owner_of {A = I.Content} 9 (if q then Some v else None)) ≡ None
      by true = refl
      by false = refl

  abbrev recovers : Event F c5 c6
  recovers = cluster.Recovers 1 (λ e. absurd (omega (arith, e))) refl (unowned 1) refl refl

  abbrev past-ends : Event F c6 c7
  past-ends = cluster.PastEnds refl (unowned 9) refl

  -- ---- what is told of them

  abbrev is_said : Traced I → TraceItem → Traced I
  is_said t x = record t { items = t.items ++ x ∷ [] }

  -- no item comes
  abbrev untold : Traced I → (ℕ → Bool → AcceptedHead) → Beside
  untold t names = record { names = names; silent = t.silent; items = t.items }

  abbrev t1 : Traced I
  t1 = is_said a (trace.WriteReplay 1 5)

  abbrev t2 : Traced I
  t2 = is_said (traced_of I c1 (untold t1 (t1.names))) (trace.Barrier 1)

  abbrev t3 : Traced I
  t3 = is_said (traced_of I c2 (untold t2 (t2.names))) (trace.WriteReplay 1 31)

  abbrev names4 : ℕ → Bool → AcceptedHead
  names4 = at (t3.names) 9 (either (t3.names 9 false) (clean 31 9))

  abbrev t4 : Traced I
  t4 = is_said (traced_of I c3 (untold t3 names4)) (trace.Barrier 1)

  abbrev names5 : ℕ → Bool → AcceptedHead
  names5 = at names4 9 (λ e. names4 9 true)

  abbrev t5 : Traced I
  t5 = traced_of I c4 (untold t4 names5)

  -- it is the header of node 1's journal
  abbrev t6 : Traced I
  t6 = record t5 { names = at names5 1 (λ e. clean 31 9) }

  abbrev t7 : Traced I
  t7 = is_said (traced_of I c5 (untold t6 (t6.names))) (trace.Recovered 1 1)

  abbrev t8 : Traced I
  t8 = traced_of I c6 (untold t7 (t7.names))

  abbrev t9 : Traced I
  t9 = traced_of I c7 (untold t8 (t8.names))

  unsaid : (t : Traced I) (names : ℕ → Bool → AcceptedHead) → t.items ≡ t.items ++ [] → Changed I t (untold t names) names (t.silent) []
  unsaid t names same = record { named = refl; silenced = refl; said = same }

  -- no slot's recovery is being told, or it goes on
  goes : (t : Traced I) (more : List TraceItem) → recoveries_are_told (slots_of I t) more ≡ true
      → ((i : ℕ) → is_recovering i (place_of (t.items)) ≡ true → is_recovering i (place_of (t.items ++ more)) ≡ true) → GoesOn I t (t.items ++ more)
  goes t more told through = record { more = more; said = refl; told = told; through = λ i waits is. through i is }

  at_home : Tellings I clients disk_heads a t3
  at_home =
      AnItem _ (trace.WriteReplay 1 31)
      (AnEvent t2 (untold t2 (t2.names)) c2 lands
      (AnItem _ (trace.Barrier 1)
      (AnEvent t1 (untold t1 (t1.names)) c1 writes
      (AnItem a (trace.WriteReplay 1 5) Nothing tt (goes a (trace.WriteReplay 1 5 ∷ []) refl (λ i e. no-way e)))
      (unsaid t1 (t1.names) refl) (goes t1 [] refl (λ i e. e))) tt (goes (traced_of I c1 (untold t1 (t1.names))) (trace.Barrier 1 ∷ []) refl (λ i e. no-way e)))
      (unsaid t2 (t2.names) refl) (goes t2 [] refl (λ i e. e))) tt (goes (traced_of I c2 (untold t2 (t2.names))) (trace.WriteReplay 1 31 ∷ []) refl (λ i e. no-way e))

  is_clean : Tellings I clients disk_heads a t6
  is_clean =
      Lands t5 1 (clean 31 9)
      (AnEvent t4 (untold t4 names5) c4 ends-clean
      (AnItem _ (trace.Barrier 1)
      (AnEvent t3 (untold t3 names4) c3 begins-clean at_home
      (Replay (clean 31 9) refl (inr (inr refl)) (unsaid t3 names4 refl)) (goes t3 [] refl (λ i e. e)))
      tt (goes (traced_of I c3 (untold t3 names4)) (trace.Barrier 1 ∷ []) refl (λ i e. no-way e)))
      (Settled (λ runs. refl) (unsaid t4 names5 refl)) (goes t4 [] refl (λ i e. e)))
      (record { waits = refl; over = inl (inr (inl refl)); alone = refl })

  -- behind the item that the slot is recovered the disk has the clean header
  its-first : IsFirst 1 (disk_heads 1) (journal_of I t7 1) (t7.items)
  its-first runs l is = subst (λ (k : Life). disk_heads 1 (own_from k (t7.items)) ≡ clean 31 9) (inside is) refl

  is_told : Tellings I clients disk_heads a t9
  is_told =
      AnEvent t8 (untold t8 (t8.names)) c7 past-ends
      (AnEvent t7 (untold t7 (t7.names)) c6 recovers
      (AnItem _ (trace.Recovered 1 1)
      (AnEvent t6 (untold t6 (t6.names)) c5 settles is_clean (unsaid t6 (t6.names) refl) (goes t6 [] refl (λ i e. e)))
      (refl, (λ e. absurd (omega (arith, e)))) (goes (traced_of I c5 (untold t6 (t6.names))) (trace.Recovered 1 1 ∷ []) refl (λ i e. no-way e)))
      (refl, refl, its-first, unsaid t7 (t7.names) refl) (goes t7 [] refl (λ i e. e)))
      (unsaid t8 (t8.names) refl) (goes t8 [] refl (λ i e. e))

  nobody-waits : (i : ℕ) → (c7.waits i) ≡ false
  nobody-waits i = by (i == 1) (i == 9)
    where
      by : (p q : Bool) → (if q then false else (if p then false else (p || q))) ≡ false
      by p true = refl
      by true false = refl
      by false false = refl

  pub dirty-start : F.Stands m t → Begins I clients disk_heads a
      × ((e : Traced I) × Tellings I clients disk_heads a e × (e.items ≡ dirty_run) × ((i : ℕ) → (e.cluster).waits i ≡ false) × (e.names 1 false ≡ clean 31 9))
  dirty-start stands = (begins stands, (t9, is_told, refl, nobody-waits, refl))

pub dirty-start-is-told : (I : Images) → DirtyStartIsTold I
dirty-start-is-told I clients m t d said stands = dirty-start I clients m t d said stands
