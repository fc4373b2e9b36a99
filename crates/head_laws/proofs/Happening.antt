-- Each event of a cluster, with what the trace tells of it, is a step of each journal.
use Rattle.std.proofs.Common.{ℕ, suc, ◌≡◌, ◌<◌, ◌≤◌, ◌⊎◌, inl, inr, Bool, true, false, Option, None, Some, List, [], ◌∷◌, ◌++◌, refl, sym, ap, ◌∙◌, subst, arith, length, take, append-nil, length-append}
use Rattle.std.specs.Prelude.{◌-◌, ◌&&◌, not, nat_lt}
use Rattle.std.proofs.lemmas.Bool.{cases_eq, cases_Bool, ltb-true, ltb-false}
use Rattle.std.proofs.lemmas.List.{take-append-le}
use Rattle.std.proofs.Math.Seq.{take-append_seam}
use Rattle.cluster_history.specs.declared.Item.{Item}
use Rattle.cluster_history.specs.declared.Item.TheVariants as item
use Rattle.trace_text.specs.declared.item.TraceItem.{TraceItem}
use Rattle.trace_text.specs.declared.item.TraceItem.TheVariants as trace
use Rattle.script_lang.specs.declared.script.Client.{Client}
use Rattle.run_rules.specs.Follows as run
use Rattle.run_rules.specs.Lives.{AcceptedHead}
use Rattle.cluster_laws.specs.Book.{at, flushed}
use Rattle.cluster_laws.specs.Mirror.{Head, Heads, either, headed, chosen}
use Rattle.cluster_laws.specs.History.{Called, Gone}
use Rattle.cluster_laws.specs.History as machine
use Rattle.cluster_laws.specs.World as world
use Rattle.cluster_laws.proofs.Cells.{at-same, at-other}
use Rattle.cluster_events.specs.Cluster.{Cluster, Together, Event, acts}
use Rattle.cluster_events.specs.Cluster as cluster
use Rattle.tree_histories.specs.Trees.{Images, Trees, item_of, history_of}
use Rattle.head_laws.specs.Journals.{Journal, head_item, IsEnd, IsOther}
use Rattle.head_laws.specs.Journals as journals
use Rattle.head_laws.specs.Traces.{Traced, journal_of, Happens, Rests, Does, TracedStep, TracedSteps, Done, Then, Begins, MayLand}
use Rattle.head_laws.specs.Tellings.{Beside, traced_of, Changed, next_name, BeginTold, Own, OwnLast, Replay, EndTold, Settled, Committed, Tells, MaySay, TellingIsStep, Tellings, AnEvent, AnItem, IsPassed, FrontsArePassed}
use Rattle.head_laws.specs.Tellings as tellings
use Rattle.head_laws.proofs.Items.{true-false}
use Rattle.head_laws.proofs.Tracing.{history-on, history-more, history-is, events-of, grows}
use Rattle.cluster_events.proofs.Eventing.{every_cluster}

inside : {A : Type 0} {a b : A} → Some a ≡ Some b → a ≡ b
inside e = cc

same-journal : (a b : Journal) → a.runs ≡ b.runs → a.waits ≡ b.waits → a.fenced ≡ b.fenced → a.unlost ≡ b.unlost → a.last ≡ b.last → a.cut ≡ b.cut → a.name ≡ b.name → a.flies ≡ b.flies → a.silent ≡ b.silent → a ≡ b
same-journal a b runs waits fenced unlost last cut name flies silent =
    λ t. record { runs = runs t; waits = waits t; fenced = fenced t; unlost = unlost t; last = last t; cut = cut t; name = name t; flies = flies t; silent = silent t }

-- of two cuts of heads
cut-of : {F : Type 0} (f : F → ℕ) (a b : F) → (λ (d : Bool). f (either a b d)) ≡ either (f a) (f b)
cut-of f a b = λ t d. by d t
  where
    by : (d : Bool) → f (either a b d) ≡ either (f a) (f b) d
    by false = refl
    by true = refl

one-of : {A : Type 0} (a : A) → either a a ≡ (λ (d : Bool). a)
one-of a = λ t d. by d t
  where
    by : (d : Bool) → either a a d ≡ a
    by false = refl
    by true = refl

module _ (I : Images) (behind : ℕ → ℕ → AcceptedHead) (t : Traced I) (u : Beside) (names : ℕ → Bool → AcceptedHead) (silent : ℕ → Bool) (more : List TraceItem) (ch : Changed I t u names silent more)
    (d : Cluster (Trees I)) (k : ℕ) where
  -- the journal, with these names
  abbrev now : Journal
  now = journal_of I (traced_of I d (record { names = names; silent = silent; items = u.items })) k

  arrives : Happens k (behind k) (journal_of I t k) (t.items) now (t.items ++ more) → Happens k (behind k) (journal_of I t k) (t.items) (journal_of I (traced_of I d u) k) (u.items)
  arrives h =
      let p : (let b : Beside = record { names = names; silent = silent; items = u.items } in b) ≡ u = λ s. record { names = sym ch.named s; silent = sym ch.silenced s; items = u.items } in
      subst (λ (is : List TraceItem). Happens k (behind k) (journal_of I t k) (t.items) (journal_of I (traced_of I d u) k) is) (sym ch.said)
      (subst (λ (b : Beside). Happens k (behind k) (journal_of I t k) (t.items) (journal_of I (traced_of I d b) k) (t.items ++ more)) p h)

  does : (j : Journal) → j ≡ now → journals.JournalEvent k (behind k) (journal_of I t k) (t.items) j (t.items ++ more) → Happens k (behind k) (journal_of I t k) (t.items) (journal_of I (traced_of I d u) k) (u.items)
  does j e event = arrives (subst (λ (j : Journal). Happens k (behind k) (journal_of I t k) (t.items) j (t.items ++ more)) e (Does j (t.items ++ more) event))

  rests : journal_of I t k ≡ now → more ≡ [] → Happens k (behind k) (journal_of I t k) (t.items) (journal_of I (traced_of I d u) k) (u.items)
  rests e none = arrives (subst (λ (j : Journal). Happens k (behind k) (journal_of I t k) (t.items) j (t.items ++ more)) e
      (subst (λ (is : List TraceItem). Happens k (behind k) (journal_of I t k) (t.items) (journal_of I t k) is) (sym (ap (λ (m : List TraceItem). t.items ++ m) none ∙ append-nil (t.items))) Rests))

  -- an event that has no item
  silently : (j : Journal) → j ≡ now → more ≡ [] → journals.JournalEvent k (behind k) (journal_of I t k) (t.items) j (t.items) → Happens k (behind k) (journal_of I t k) (t.items) (journal_of I (traced_of I d u) k) (u.items)
  silently j e none event =
      does j e (subst (λ (is : List TraceItem). journals.JournalEvent k (behind k) (journal_of I t k) (t.items) j is) (sym (ap (λ (m : List TraceItem). t.items ++ m) none ∙ append-nil (t.items))) event)

-- ---- the history

module _ (I : Images) (clients : List Client) (t : Traced I) (u : Beside) (names : ℕ → Bool → AcceptedHead) (silent : ℕ → Bool) (more : List TraceItem) (ch : Changed I t u names silent more)
    (base : run.history_of clients (t.items) ≡ history_of I (((t.cluster).world).items)) where
  same-history : (d : Cluster (Trees I)) → run.history_of clients more ≡ [] → ((d.world).items ≡ ((t.cluster).world).items) → run.history_of clients (u.items) ≡ history_of I ((d.world).items)
  same-history d none same =
      ap (run.history_of clients) ch.said ∙ (history-on clients (t.items) more ∙ (ap (λ (h : List Item). run.history_of clients (t.items) ++ h) none
      ∙ (append-nil (run.history_of clients (t.items)) ∙ (base ∙ sym (ap (history_of I) same)))))

  one-more : (d : Cluster (Trees I)) (x : Item) (w : machine.Item (Trees I)) → run.history_of clients more ≡ x ∷ [] → item_of I w ≡ x → ((d.world).items ≡ ((t.cluster).world).items ++ (w ∷ []))
      → run.history_of clients (u.items) ≡ history_of I ((d.world).items)
  one-more d x w one is grown =
      ap (run.history_of clients) ch.said ∙ (history-on clients (t.items) more ∙ (ap (λ (h : List Item). run.history_of clients (t.items) ++ h) one
      ∙ (ap (λ (h : List Item). h ++ x ∷ []) base ∙ (ap (λ (y : Item). history_of I (((t.cluster).world).items) ++ y ∷ []) (sym is)
      ∙ (sym (history-more I (((t.cluster).world).items) (w ∷ [])) ∙ sym (ap (history_of I) grown))))))

-- ---- events of which no item tells

module _ (I : Images) (clients : List Client) (behind : ℕ → ℕ → AcceptedHead) (t : Traced I) (u : Beside) (base : run.history_of clients (t.items) ≡ history_of I (((t.cluster).world).items)) where
  quiet : (d : Cluster (Trees I)) → Event (Trees I) (t.cluster) d → Changed I t u (t.names) (t.silent) []
      → ((k : ℕ) → journal_of I t k ≡ journal_of I (traced_of I d (record { names = t.names; silent = t.silent; items = u.items })) k) → ((d.world).items ≡ ((t.cluster).world).items)
      → TracedStep I clients behind t (traced_of I d u)
  quiet d event ch same items = record {
    event = inr event;
    journals = λ k. rests I behind t u (t.names) (t.silent) [] ch d k (same k) refl;
    history = same-history I clients t u (t.names) (t.silent) [] ch base d refl items;
  }

-- one node's journal, and the others'
by-node : (I : Images) (clients : List Client) (behind : ℕ → ℕ → AcceptedHead) (t : Traced I) (u : Beside) (d : Cluster (Trees I)) (i : ℕ)
    → Happens i (behind i) (journal_of I t i) (t.items) (journal_of I (traced_of I d u) i) (u.items)
    → ((k : ℕ) → (k ≡ i → ⊥) → Happens k (behind k) (journal_of I t k) (t.items) (journal_of I (traced_of I d u) k) (u.items))
    → (k : ℕ) → Happens k (behind k) (journal_of I t k) (t.items) (journal_of I (traced_of I d u) k) (u.items)
by-node I clients behind t u d i here away k = elim (cases_eq k i) [
  | inl e ↦ subst (λ (k : ℕ). Happens k (behind k) (journal_of I t k) (t.items) (journal_of I (traced_of I d u) k) (u.items)) (sym e) here
  | inr ne ↦ away k ne
]

both : (a b : Bool) → (a && not b) ≡ true → (a ≡ true) × (b ≡ false)
both true false e = (refl, refl)
both true true e = true-false e refl
both false b e = true-false e refl

-- who has more answered than published acts
who-acts : (I : Images) (c : Cluster (Trees I)) → Together (Trees I) c → (i : ℕ) → ((c.world).book).published i < ((c.world).book).answered i → (c.runs i ≡ true) × (c.waits i ≡ false)
who-acts I c t i some = elim (cases_Bool (acts (Trees I) c i)) [
  | inl e ↦ both (c.runs i) (c.waits i) e
  | inr e ↦ absurd (let q = ((t.quiet i e).0) in omega (arith, some, q))
]

end-other : (i k : ℕ) (x : TraceItem) → IsEnd i x → (k ≡ i → ⊥) → IsOther k x
end-other i k (trace.Crash j) e ne = λ f. ne (sym f ∙ e)
end-other i k (trace.Withdraw j before after) e ne = λ f. ne (sym f ∙ e)
end-other i k x e ne = absurd e

end-history : (clients : List Client) (i : ℕ) (x : TraceItem) → IsEnd i x → run.history_of clients (x ∷ []) ≡ []
end-history clients i (trace.Crash j) e = refl
end-history clients i (trace.Withdraw j before after) e = refl
end-history clients i x e = absurd e

head-other : (clean : Bool) (i k block sequence upto : ℕ) → (k ≡ i → ⊥) → IsOther k (head_item clean i block sequence upto)
head-other true i k block sequence upto ne = λ e. ne (sym e)
head-other false i k block sequence upto ne = λ e. ne (sym e)

head-history : (clients : List Client) (clean : Bool) (i block sequence upto : ℕ) → run.history_of clients (head_item clean i block sequence upto ∷ []) ≡ []
head-history clients true i block sequence upto = refl
head-history clients false i block sequence upto = refl

-- ---- the events

abbrev node_journal : (I : Images) → Cluster (Trees I) → (ℕ → Bool → AcceptedHead) → (ℕ → Bool) → ℕ → Journal
node_journal I d names silent k = journal_of I (traced_of I d (record { names = names; silent = silent; items = [] })) k

-- what another node sees of the items
data Away (k : ℕ) : List TraceItem → Type 0 where
  Nothing : Away k []
  Other : (x : TraceItem) → IsOther k x → Away k (x ∷ [])

-- an event that has no item
unspoken : (k : ℕ) (behind : ℕ → AcceptedHead) (j l : Journal) (items : List TraceItem) → journals.JournalEvent k behind j items l items → journals.JournalEvent k behind j items l (items ++ [])
unspoken k behind j l items event = subst (λ (is : List TraceItem). journals.JournalEvent k behind j items l is) (sym (append-nil items)) event

module _ (I : Images) (clients : List Client) (behind : ℕ → ℕ → AcceptedHead) (t : Traced I) (u : Beside) (d : Cluster (Trees I)) (event : Event (Trees I) (t.cluster) d) (i : ℕ)
    (names : ℕ → Bool → AcceptedHead) (silent : ℕ → Bool) (more : List TraceItem) (ch : Changed I t u names silent more) where
  step-by : (j : Journal) → j ≡ node_journal I d names silent i → journals.JournalEvent i (behind i) (journal_of I t i) (t.items) j (t.items ++ more)
      → ((k : ℕ) → (k ≡ i → ⊥) → journal_of I t k ≡ node_journal I d names silent k) → ((k : ℕ) → (k ≡ i → ⊥) → Away k more) → run.history_of clients (u.items) ≡ history_of I ((d.world).items)
      → TracedStep I clients behind t (traced_of I d u)
  step-by j here what same away history = record {
    event = inr event;
    journals = by-node I clients behind t u d i (does I behind t u names silent more ch d i j here what) (λ k ne. others k (same k ne) more (away k ne) ch);
    history = history;
  }
    where
      others : (k : ℕ) → journal_of I t k ≡ node_journal I d names silent k → (more : List TraceItem) → Away k more → Changed I t u names silent more
          → Happens k (behind k) (journal_of I t k) (t.items) (journal_of I (traced_of I d u) k) (u.items)
      others k e _ Nothing ch = rests I behind t u names silent [] ch d k e refl
      others k e _ (Other x o) ch = does I behind t u names silent (x ∷ []) ch d k (journal_of I t k) e (journals.Says x o)

  -- with no item of the history, or one
  step-same : run.history_of clients (t.items) ≡ history_of I (((t.cluster).world).items) → run.history_of clients more ≡ [] → ((d.world).items ≡ ((t.cluster).world).items)
      → (j : Journal) → j ≡ node_journal I d names silent i → journals.JournalEvent i (behind i) (journal_of I t i) (t.items) j (t.items ++ more)
      → ((k : ℕ) → (k ≡ i → ⊥) → journal_of I t k ≡ node_journal I d names silent k) → ((k : ℕ) → (k ≡ i → ⊥) → Away k more) → TracedStep I clients behind t (traced_of I d u)
  step-same base none items j here what same away = step-by j here what same away (same-history I clients t u names silent more ch base d none items)

  step-one : run.history_of clients (t.items) ≡ history_of I (((t.cluster).world).items) → (x : Item) (w : machine.Item (Trees I)) → run.history_of clients more ≡ x ∷ [] → item_of I w ≡ x
      → ((d.world).items ≡ ((t.cluster).world).items ++ (w ∷ []))
      → (j : Journal) → j ≡ node_journal I d names silent i → journals.JournalEvent i (behind i) (journal_of I t i) (t.items) j (t.items ++ more)
      → ((k : ℕ) → (k ≡ i → ⊥) → journal_of I t k ≡ node_journal I d names silent k) → ((k : ℕ) → (k ≡ i → ⊥) → Away k more) → TracedStep I clients behind t (traced_of I d u)
  step-one base x w one is grown j here what same away = step-by j here what same away (one-more I clients t u names silent more ch base d x w one is grown)

module _ (I : Images) (clients : List Client) (behind : ℕ → ℕ → AcceptedHead) (t : Traced I) (u : Beside) (together : Together (Trees I) (t.cluster))
    (base : run.history_of clients (t.items) ≡ history_of I (((t.cluster).world).items)) where
  abbrev c : Cluster (Trees I)
  c = t.cluster

  -- the numbers of a journal's heads, and those of others
  abbrev cuts_of : (Bool → Head (Trees I)) → Bool → ℕ
  cuts_of f e = (f e).cut

  cut-here : (i : ℕ) (hs : Bool → Head (Trees I)) → cuts_of hs ≡ cuts_of (at (((c.world).disk).heads) i hs i)
  cut-here i hs = ap cuts_of (sym (at-same (((c.world).disk).heads) i hs))

  cut-away : (i : ℕ) (hs : Bool → Head (Trees I)) (k : ℕ) → (k ≡ i → ⊥) → cuts_of (((c.world).disk).heads k) ≡ cuts_of (at (((c.world).disk).heads) i hs k)
  cut-away i hs k ne = ap cuts_of (sym (at-other (((c.world).disk).heads) i hs k ne))

  minus-one : (n m : ℕ) → n ≡ suc m → m ≡ n - 1
  minus-one n m e = omega (arith, e)

  -- ---- a header begins

  module _ (i : ℕ) (h : Head (Trees I)) (single : ((c.world).disk).heads i true ≡ ((c.world).disk).heads i false) (heads : Heads (Trees I) ((c.world).book) ((c.world).disk) i h)
      (may : cluster.MayWork (Trees I) c (record (c.world) { disk = headed (Trees I) ((c.world).disk) i h }) (world.Begins i h single heads)) where
    abbrev flown : Cluster (Trees I)
    flown = cluster.worked (Trees I) c (record (c.world) { disk = headed (Trees I) ((c.world).disk) i h }) (world.Begins i h single heads) may

    abbrev begun : Event (Trees I) c flown
    begun = cluster.Works (record (c.world) { disk = headed (Trees I) ((c.world).disk) i h }) (world.Begins i h single heads) may

    own-writer : c.waits i ≡ false → (may.0).0 ≡ i
    own-writer acts = elim (((may.0).1).1) [ inl e ↦ e | inr w ↦ true-false w acts ]

    writer-runs : (may.0).0 ≡ i → c.runs i ≡ true
    writer-runs e = ap (c.runs) (sym e) ∙ ((may.0).1).0

    cuts : either (((c.world).disk).heads i false).cut (h.cut) ≡ cuts_of (at (((c.world).disk).heads) i (either (((c.world).disk).heads i false) h) i)
    cuts = sym (cut-of (λ (x : Head (Trees I)). x.cut) (((c.world).disk).heads i false) h) ∙ cut-here i (either (((c.world).disk).heads i false) h)

    flies : (r : ℕ) → (may.0).0 ≡ r → Some r ≡ at (c.header_of) i (Some ((may.0).0)) i
    flies r e = ap (λ (n : ℕ). Some n) (sym e) ∙ sym (at-same (c.header_of) i (Some ((may.0).0)))

    away : (names : Bool → AcceptedHead) (silent : ℕ → Bool) → ((k : ℕ) → (k ≡ i → ⊥) → t.silent k ≡ silent k) → (k : ℕ) → (k ≡ i → ⊥) → journal_of I t k ≡ node_journal I flown (at (t.names) i names) silent k
    away names silent same k ne = same-journal _ _ refl refl refl refl refl (cut-away i (either (((c.world).disk).heads i false) h) k ne) (sym (at-other (t.names) i names k ne))
        (sym (at-other (c.header_of) i (Some ((may.0).0)) k ne)) (same k ne)

    -- a replay's has the calls of the accepted one
    replayed-cut : c.waits i ≡ true → (((c.world).disk).heads i false).cut ≡ h.cut
    replayed-cut waits = ((together.world).mirror).alone i ∙ sym ((may.3) waits)

    begins : BeginTold I t u i (h.cut) → TracedStep I clients behind t (traced_of I flown u)
    begins (Own clean block acts loud ch) =
        step-by I clients behind t u flown begun i _ _ _ ch
        (record (journal_of I t i) { cut = either (((c.world).disk).heads i false).cut (h.cut); name = either (t.names i false) (next_name I t i clean block); flies = Some i })
        (same-journal _ _ refl refl refl refl refl cuts (sym (at-same (t.names) i (either (t.names i false) (next_name I t i clean block)))) (flies i (own-writer acts)) refl)
        (journals.Begins clean block (h.cut) (writer-runs (own-writer acts)) acts loud (may.1))
        (away (either (t.names i false) (next_name I t i clean block)) (t.silent) (λ k ne. refl))
        (λ k ne. Other (head_item clean i block (suc ((t.names i false).sequence)) (h.cut)) (head-other clean i k block (suc ((t.names i false).sequence)) (h.cut) ne))
        (same-history I clients t u _ _ _ ch base flown (head-history clients clean i block (suc ((t.names i false).sequence)) (h.cut)) refl)
    begins (OwnLast clean block acts loud told ch) =
        step-by I clients behind t u flown begun i _ _ [] ch
        (record (journal_of I t i) { cut = either (((c.world).disk).heads i false).cut (h.cut); name = either (t.names i false) (next_name I t i clean block); flies = Some i; silent = true })
        (same-journal _ _ refl refl refl refl refl cuts (sym (at-same (t.names) i (either (t.names i false) (next_name I t i clean block)))) (flies i (own-writer acts)) (sym (at-same (t.silent) i true)))
        (unspoken i (behind i) (journal_of I t i) _ (t.items) (journals.BeginsLast clean block (h.cut) (writer-runs (own-writer acts)) acts loud (may.1) told))
        (away (either (t.names i false) (next_name I t i clean block)) (at (t.silent) i true) (λ k ne. sym (at-other (t.silent) i true k ne)))
        (λ k ne. Nothing)
        (same-history I clients t u _ _ [] ch base flown refl refl)
    begins (Replay name waits who ch) =
        step-by I clients behind t u flown begun i _ _ [] ch
        (record (journal_of I t i) { cut = either (((c.world).disk).heads i false).cut (((c.world).disk).heads i false).cut; name = either (t.names i false) name; flies = Some ((may.0).0) })
        (same-journal _ _ refl refl refl refl refl (ap (either (((c.world).disk).heads i false).cut) (replayed-cut waits) ∙ cuts) (sym (at-same (t.names) i (either (t.names i false) name))) (flies ((may.0).0) refl) refl)
        (unspoken i (behind i) (journal_of I t i) _ (t.items) (journals.Replays ((may.0).0) name waits who (may.1)))
        (away (either (t.names i false) name) (t.silent) (λ k ne. refl))
        (λ k ne. Nothing)
        (same-history I clients t u _ _ [] ch base flown refl refl)

  -- ---- a header ends

  module _ (i : ℕ) (d : Bool) (may : cluster.MayWork (Trees I) c (record (c.world) { book = flushed (Trees I) ((c.world).book) i ((((c.world).disk).heads i d).cut); disk = chosen (Trees I) ((c.world).disk) i d }) (world.Ends i d)) where
    abbrev settled : Cluster (Trees I)
    settled = cluster.worked (Trees I) c (record (c.world) { book = flushed (Trees I) ((c.world).book) i ((((c.world).disk).heads i d).cut); disk = chosen (Trees I) ((c.world).disk) i d }) (world.Ends i d) may

    abbrev over : Event (Trees I) c settled
    over = cluster.Works (record (c.world) { book = flushed (Trees I) ((c.world).book) i ((((c.world).disk).heads i d).cut); disk = chosen (Trees I) ((c.world).disk) i d }) (world.Ends i d) may

    own-header : c.waits i ≡ false → may.0 ≡ i
    own-header acts = elim (together.writers i (may.0) (may.1)) [ inl e ↦ e | inr w ↦ true-false w acts ]

    lands : c.runs i ≡ true → c.waits i ≡ false → d ≡ true
    lands runs acts = elim (may.2) [ inl e ↦ e | inr stopped ↦ true-false runs (ap (c.runs) (sym (own-header acts)) ∙ stopped) ]

    chosen-cuts : (λ (e : Bool). (((c.world).disk).heads i d).cut) ≡ cuts_of (at (((c.world).disk).heads) i (either (((c.world).disk).heads i d) (((c.world).disk).heads i d)) i)
    chosen-cuts = sym (cut-of (λ (x : Head (Trees I)). x.cut) (((c.world).disk).heads i d) (((c.world).disk).heads i d) ∙ one-of (((c.world).disk).heads i d).cut)
        ∙ cut-here i (either (((c.world).disk).heads i d) (((c.world).disk).heads i d))

    others : (k : ℕ) → (k ≡ i → ⊥) → journal_of I t k ≡ node_journal I settled (at (t.names) i (λ e. t.names i d)) (t.silent) k
    others k ne = same-journal _ _ refl refl refl refl refl (cut-away i (either (((c.world).disk).heads i d) (((c.world).disk).heads i d)) k ne) (sym (at-other (t.names) i (λ e. t.names i d) k ne))
        (sym (at-other (c.header_of) i None k ne)) refl

    ends : EndTold I t u i d → TracedStep I clients behind t (traced_of I settled u)
    ends (Settled loud ch) =
        step-by I clients behind t u settled over i _ _ [] ch
        (record (journal_of I t i) { cut = λ e. (((c.world).disk).heads i d).cut; name = λ e. t.names i d; flies = None })
        (same-journal _ _ refl refl refl refl refl chosen-cuts (sym (at-same (t.names) i (λ e. t.names i d))) (sym (at-same (c.header_of) i None)) refl)
        (unspoken i (behind i) (journal_of I t i) _ (t.items) (journals.Ends d (λ runs. (loud runs, lands runs))))
        others (λ k ne. Nothing)
        (same-history I clients t u _ _ [] ch base settled refl refl)
    ends (Committed sequence upto runs acts loud on-disk named counted ch) =
        step-by I clients behind t u settled over i _ _ _ ch
        (record (journal_of I t i) { cut = λ e. (((c.world).disk).heads i true).cut; name = λ e. t.names i true; flies = None })
        (same-journal _ _ refl refl refl refl refl (ap {B = Bool → ℕ} (λ (b : Bool) (e : Bool). (((c.world).disk).heads i b).cut) (sym on-disk) ∙ chosen-cuts)
        (ap {B = Bool → AcceptedHead} (λ (b : Bool) (e : Bool). t.names i b) (sym on-disk) ∙ sym (at-same (t.names) i (λ e. t.names i d))) (sym (at-same (c.header_of) i None)) refl)
        (journals.Commits sequence upto runs acts loud (may.1 ∙ ap (λ (n : ℕ). Some n) (own-header acts)) named counted)
        others (λ k ne. Other (trace.Commit i sequence upto) (λ e. ne (sym e)))
        (same-history I clients t u _ _ _ ch base settled refl refl)

  -- who is fenced has no header in flight; another has one for its journal only while its slot waits
  unflown : (i : ℕ) → c.fenced i ≡ true → (c.header_of i ≡ None) ⊎ (c.waits i ≡ true)
  unflown i fenced = by (c.header_of i) refl
    where
      by : (o : Option ℕ) → c.header_of i ≡ o → (c.header_of i ≡ None) ⊎ (c.waits i ≡ true)
      by None e = inl e
      by (Some r) e = elim (together.writers i r e) [
        | inl own ↦ absurd (((together.settled i fenced).1).1 i (e ∙ ap (λ (n : ℕ). Some n) own))
        | inr waits ↦ inr waits
      ]

  pub steps : (d : Cluster (Trees I)) (event : Event (Trees I) (t.cluster) d) → Tells I clients behind t u d event → TracedStep I clients behind t (traced_of I d u)
  steps _ (cluster.Works w (world.Answers j said v change cache no_sync a) may) ch = quiet I clients behind t u base _ (cluster.Works w (world.Answers j said v change cache no_sync a) may) ch (λ k. refl) refl
  steps _ (cluster.Works w (world.Syncs j said does still calm) may) ch = quiet I clients behind t u base _ (cluster.Works w (world.Syncs j said does still calm) may) ch (λ k. refl) refl
  steps _ (cluster.Works w (world.Writes r b v i live) may) ch = quiet I clients behind t u base _ (cluster.Works w (world.Writes r b v i live) may) ch (λ k. refl) refl
  steps _ (cluster.Works w (world.Lands r x settles) may) ch = quiet I clients behind t u base _ (cluster.Works w (world.Lands r x settles) may) ch (λ k. refl) refl
  steps _ (cluster.Works w (world.Settles i p all owned untouched unlive) may) ch = quiet I clients behind t u base _ (cluster.Works w (world.Settles i p all owned untouched unlive) may) ch (λ k. refl) refl
  steps _ (cluster.Works w (world.Lower i state cache lowers) may) ch = absurd may
  steps _ (cluster.Works w (world.Grants i state raises) may) ch = absurd may
  steps _ (cluster.Works w (world.Reads j b held) may) ch = quiet I clients behind t u base _ (cluster.Works w (world.Reads j b held) may) ch (λ k. refl) refl
  steps _ (cluster.Works w (world.Shrinks j cache forgets) may) ch = quiet I clients behind t u base _ (cluster.Works w (world.Shrinks j cache forgets) may) ch (λ k. refl) refl
  steps _ (cluster.Mails locks sent) ch = quiet I clients behind t u base _ (cluster.Mails locks sent) ch (λ k. refl) refl
  steps _ (cluster.IsGranted i locks here none taken) ch = quiet I clients behind t u base _ (cluster.IsGranted i locks here none taken) ch (λ k. refl) refl
  steps _ (cluster.GoesDown i locks cache here weakens all clean cached) ch = quiet I clients behind t u base _ (cluster.GoesDown i locks cache here weakens all clean cached) ch (λ k. refl) refl
  steps _ cluster.Views ch = quiet I clients behind t u base _ cluster.Views ch (λ k. refl) refl
  steps _ (cluster.Recovers i here wait nothing_left unheaded told) (said, is-clean, its-first, ch) =
      step-same I clients behind t u _ (cluster.Recovers i here wait nothing_left unheaded told) i (t.names) (t.silent) [] ch base refl refl (record (journal_of I t i) { waits = false })
      (same-journal _ _ refl (sym (at-same (c.waits) i false)) refl refl refl refl refl refl refl)
      (unspoken i (behind i) (journal_of I t i) _ (t.items) (journals.IsRecovered wait told unheaded its-first))
      (λ k ne. same-journal _ _ refl (sym (at-other (c.waits) i false k ne)) refl refl refl refl refl refl refl) (λ k ne. Nothing)
  steps _ (cluster.PastEnds wait nothing_left unheaded) ch =
      step-same I clients behind t u _ (cluster.PastEnds wait nothing_left unheaded) (c.past) (t.names) (t.silent) [] ch base refl refl (record (journal_of I t (c.past)) { waits = false })
      (same-journal _ _ refl (sym (at-same (c.waits) (c.past) false)) refl refl refl refl refl refl refl)
      (unspoken (c.past) (behind (c.past)) (journal_of I t (c.past)) _ (t.items) (journals.IsRecovered wait together.lifeless unheaded (λ runs l is. true-false runs together.gone)))
      (λ k ne. same-journal _ _ refl (sym (at-other (c.waits) (c.past) false k ne)) refl refl refl refl refl refl refl) (λ k ne. Nothing)
  steps _ (cluster.Stops i here runs all) (x, is-end, ch) =
      step-same I clients behind t u _ (cluster.Stops i here runs all) i (t.names) (at (t.silent) i false) (x ∷ []) ch base (end-history clients i x is-end) refl
      (record (journal_of I t i) { runs = false; waits = true; fenced = false; unlost = suc (c.unlost i); silent = false })
      (same-journal _ _ (sym (at-same (c.runs) i false)) (sym (at-same (c.waits) i true)) (sym (at-same (c.fenced) i false)) (sym (at-same (c.unlost) i (suc (c.unlost i)))) refl refl refl refl
      (sym (at-same (t.silent) i false))) (journals.Stops x is-end runs)
      (λ k ne. same-journal _ _ (sym (at-other (c.runs) i false k ne)) (sym (at-other (c.waits) i true k ne)) (sym (at-other (c.fenced) i false k ne)) (sym (at-other (c.unlost) i (suc (c.unlost i)) k ne)) refl refl refl refl
      (sym (at-other (t.silent) i false k ne))) (λ k ne. Other x (end-other i k x is-end ne))
  steps _ (cluster.Fences i out unfenced idle) (disk, ch) =
      step-same I clients behind t u _ (cluster.Fences i out unfenced idle) i (t.names) (t.silent) (trace.Fence i ∷ []) ch base refl refl (record (journal_of I t i) { fenced = true })
      (same-journal _ _ refl refl (sym (at-same (c.fenced) i true)) refl refl refl refl refl refl) (journals.IsFenced out unfenced (idle.1 i) disk)
      (λ k ne. same-journal _ _ refl refl (sym (at-other (c.fenced) i true k ne)) refl refl refl refl refl refl) (λ k ne. Other (trace.Fence i) (λ e. ne (sym e)))
  steps _ (cluster.Joins i here out fenced waits) (disk, ch) =
      step-same I clients behind t u _ (cluster.Joins i here out fenced waits) i (t.names) (t.silent) (trace.Join i ∷ []) ch base refl refl (record (journal_of I t i) { runs = true; fenced = false })
      (same-journal _ _ (sym (at-same (c.runs) i true)) refl (sym (at-same (c.fenced) i false)) refl refl refl refl refl refl) (journals.Joins out (inl fenced) (unflown i fenced) disk)
      (λ k ne. same-journal _ _ (sym (at-other (c.runs) i true k ne)) refl (sym (at-other (c.fenced) i false k ne)) refl refl refl refl refl refl) (λ k ne. Other (trace.Join i) (λ e. ne (sym e)))
  steps _ (cluster.Works w (world.Publishes i some) may) told =
      let who = who-acts I c together i some in
      let n : ℕ = suc (((c.world).book).published i) in
      step-one I clients behind t u _ (cluster.Works w (world.Publishes i some) may) i (t.names) (t.silent) _ (told.changed) base (item.Call i (run.place_of clients (told.name)) n ((((c.world).book).told i n).call) ((((c.world).book).told i n).reply))
      (Called (record { node = i; number = n; said = ((c.world).book).told i n })) refl
      (ap (λ (p : ℕ). item.Call i p n ((((c.world).book).told i n).call) ((((c.world).book).told i n).reply)) (sym (told.client))) refl (record (journal_of I t i) { last = n })
      (same-journal _ _ refl refl refl refl (sym (at-same (((c.world).book).published) i n)) refl refl refl refl)
      (journals.Answers (told.name) n ((((c.world).book).told i n).call) ((((c.world).book).told i n).reply) who.0 who.1 (told.dirty))
      (λ k ne. same-journal _ _ refl refl refl refl (sym (at-other (((c.world).book).published) i n k ne)) refl refl refl refl)
      (λ k ne. Other (trace.Call i (told.name) n ((((c.world).book).told i n).call) ((((c.world).book).told i n).reply)) (λ e. ne (sym e)))
  steps _ (cluster.Works w (world.Loses i k all above below calm next none single) may) ch =
      let m : ℕ = (may.2).0 in
      let hs : Bool → Head (Trees I) = λ e. record { cut = ((c.world).book).answered i; live = (((c.world).disk).heads i e).live } in
      step-one I clients behind t u _ (cluster.Works w (world.Loses i k all above below calm next none single) may) i (t.names) (t.silent) (trace.Lost i k ∷ []) ch base (item.Lost i k) (Gone i (((c.world).book).low i) k) refl refl refl
      (record (journal_of I t i) { unlost = m; cut = λ e. ((c.world).book).published i })
      (same-journal _ _ refl refl refl (minus-one (c.unlost i) m (may.2).1 ∙ sym (at-same (c.unlost) i (c.unlost i - 1))) refl
      (ap {B = Bool → ℕ} (λ (n : ℕ) (e : Bool). n) all ∙ cut-here i hs) refl refl refl)
      (journals.Loses m k (may.0) ((may.2).1) (may.1))
      (λ n ne. same-journal _ _ refl refl refl (sym (at-other (c.unlost) i (c.unlost i - 1) n ne)) refl (cut-away i hs n ne) refl refl refl) (λ n ne. Other (trace.Lost i k) (λ e. ne (sym e)))
  steps _ (cluster.Works w (world.Begins i h single heads) may) told = begins i h single heads may told
  steps _ (cluster.Works w (world.Ends i d) may) told = ends i d may told

-- ---- items without an event

module _ (I : Images) (clients : List Client) (behind : ℕ → ℕ → AcceptedHead) (t : Traced I) where
  log-says : (i block : ℕ) → t.silent i ≡ false → (k : ℕ) → Happens k (behind k) (journal_of I t k) (t.items) (journal_of I t k) (t.items ++ trace.WriteLog i block ∷ [])
  log-says i block loud k = elim (cases_eq k i) [
    | inl e ↦ subst (λ (k : ℕ). Happens k (behind k) (journal_of I t k) (t.items) (journal_of I t k) (t.items ++ trace.WriteLog i block ∷ [])) (sym e) (Does _ _ (journals.WritesLog block loud))
    | inr ne ↦ Does _ _ (journals.Says (trace.WriteLog i block) (λ e. ne (sym e)))
  ]

  recovered-says : (i r : ℕ) → (t.cluster).waits i ≡ true → (k : ℕ) → Happens k (behind k) (journal_of I t k) (t.items) (journal_of I t k) (t.items ++ trace.Recovered i r ∷ [])
  recovered-says i r waits k = elim (cases_eq k i) [
    | inl e ↦ subst (λ (k : ℕ). Happens k (behind k) (journal_of I t k) (t.items) (journal_of I t k) (t.items ++ trace.Recovered i r ∷ [])) (sym e) (Does _ _ (journals.SaysRecovered r waits))
    | inr ne ↦ Does _ _ (journals.Says (trace.Recovered i r) (λ e. ne (sym e)))
  ]

  says : (x : TraceItem) → MaySay I t x → (k : ℕ) → Happens k (behind k) (journal_of I t k) (t.items) (journal_of I t k) (t.items ++ x ∷ [])
  says (trace.WriteLog i block) may k = log-says i block may k
  says (trace.Recovered i r) may k = recovered-says i r (may.0) k
  says (trace.Join i) may k = absurd may
  says (trace.WriteHead i block sequence upto) may k = absurd may
  says (trace.WriteClean i block sequence upto) may k = absurd may
  says (trace.Commit i sequence upto) may k = absurd may
  says (trace.Call i name number call reply) may k = absurd may
  says (trace.Crash i) may k = absurd may
  says (trace.Withdraw i before after) may k = absurd may
  says (trace.Fence i) may k = absurd may
  says (trace.Lost i kept) may k = absurd may
  says x may k = Does _ _ (journals.Says x tt)

  no-history : (x : TraceItem) → MaySay I t x → run.history_of clients (x ∷ []) ≡ []
  no-history (trace.Call i name number call reply) may = absurd may
  no-history (trace.Lost i kept) may = absurd may
  no-history x may = refl

-- ---- a header of the past's ring

pub past-lands : (I : Images) (clients : List Client) (behind : ℕ → ℕ → AcceptedHead) (t : Traced I) (i : ℕ) (h : AcceptedHead) → run.history_of clients (t.items) ≡ history_of I (((t.cluster).world).items)
    → MayLand I t i → TracedStep I clients behind t (record t { names = at (t.names) i (λ d. h) })
past-lands I clients behind t i h base may = record {
  event = inl refl;
  journals = λ k. elim (cases_eq k i) [
    | inl e ↦ subst (λ (k : ℕ). Happens k (behind k) (journal_of I t k) (t.items) (journal_of I (record t { names = at (t.names) i (λ d. h) }) k) (t.items)) (sym e)
        (subst (λ (f : Bool → AcceptedHead). Happens i (behind i) (journal_of I t i) (t.items) (record (journal_of I t i) { name = f }) (t.items)) (sym (at-same (t.names) i (λ d. h)))
        (Does _ _ (journals.ReplaysPast h may.waits may.over may.alone)))
    | inr ne ↦ subst (λ (f : Bool → AcceptedHead). Happens k (behind k) (journal_of I t k) (t.items) (record (journal_of I t k) { name = f }) (t.items)) (sym (at-other (t.names) i (λ d. h) k ne)) Rests
  ];
  history = base;
}

pub item-step : (I : Images) (clients : List Client) (behind : ℕ → ℕ → AcceptedHead) (t : Traced I) (x : TraceItem) → run.history_of clients (t.items) ≡ history_of I (((t.cluster).world).items)
    → MaySay I t x → TracedStep I clients behind t (record t { items = t.items ++ x ∷ [] })
item-step I clients behind t x base may = record {
  event = inl refl;
  journals = says I clients behind t x may;
  history = history-on clients (t.items) (x ∷ []) ∙ (ap (λ (h : List Item). run.history_of clients (t.items) ++ h) (no-history I clients behind t x may) ∙ (append-nil (run.history_of clients (t.items)) ∙ base));
}

-- ---- every run

pub every-run : (I : Images) (clients : List Client) (behind : ℕ → ℕ → AcceptedHead) (a t : Traced I) → Begins I clients behind a → Tellings I clients behind a t → TracedSteps I clients behind a t
every-run I clients behind a _ begins tellings.Nothing = Done
every-run I clients behind a _ begins (AnEvent t u d event before told goes) =
    let so_far = every-run I clients behind a t begins before in
    let together = (every_cluster (Trees I) (a.cluster) (t.cluster) (begins.starts) (events-of I clients behind a t so_far)).0 in
    Then t (traced_of I d u) so_far (steps I clients behind t u together (history-is I clients behind a t begins so_far) d event told)
every-run I clients behind a _ begins (AnItem t x before may goes) =
    let so_far = every-run I clients behind a t begins before in
    Then t _ so_far (item-step I clients behind t x (history-is I clients behind a t begins so_far) may)
every-run I clients behind a _ begins (tellings.Lands t i h before may) =
    let so_far = every-run I clients behind a t begins before in
    Then t _ so_far (past-lands I clients behind t i h (history-is I clients behind a t begins so_far) may)

pub telling-is-step : (I : Images) → TellingIsStep I
telling-is-step I = record {
  event = λ clients behind t u d event together base told. steps I clients behind t u together base d event told;
  item = λ clients behind t x base may. item-step I clients behind t x base may;
  past = λ clients behind t i h base may. past-lands I clients behind t i h base may;
  every = λ clients behind a t begins tellings. every-run I clients behind a t begins tellings;
}

-- ---- each front

take-all : (n : ℕ) (xs : List TraceItem) → n ≡ length xs → xs ≡ take n xs
take-all n xs e = sym (ap (λ (m : ℕ). take m xs) e ∙ (ap (take (length xs)) (sym (append-nil xs)) ∙ take-append_seam xs []))

module _ (I : Images) (clients : List Client) (behind : ℕ → ℕ → AcceptedHead) (a : Traced I) where
  -- a run with one thing more
  more-passed : (t v : Traced I) (n : ℕ) → (n ≤ length (t.items) → IsPassed I clients behind a t n) → Tellings I clients behind a v
      → ((b : Traced I) → Tellings I clients behind b t → Tellings I clients behind b v)
      → (v.items ≡ t.items) ⊎ ((x : TraceItem) × (v.items ≡ t.items ++ x ∷ [])) → n ≤ length (v.items) → IsPassed I clients behind a v n
  more-passed t v n passed whole on (inl same) high =
      let p = passed (let e = ap length same in omega (arith, e, high)) in
      record { between = p.between; before = p.before; after = on (p.between) (p.after); items = p.items ∙ ap (take n) (sym same) }
  more-passed t v n passed whole on (inr (x, more)) high = elim (cases_Bool (nat_lt (length (t.items)) n)) [
    | inl above ↦
        let low = ltb-true (length (t.items)) n above in
        let size = ap length more ∙ length-append (t.items) (x ∷ []) in
        record { between = v; before = whole; after = tellings.Nothing; items = take-all n (v.items) (omega (arith, low, size, high)) }
    | inr below ↦
        let low = ltb-false (length (t.items)) n below in
        let p = passed low in
        record {
          between = p.between;
          before = p.before;
          after = on (p.between) (p.after);
          items = p.items ∙ (sym (take-append-le n (t.items) (x ∷ []) low) ∙ ap (take n) (sym more));
        }
  ]

  passes : (t : Traced I) (n : ℕ) → Begins I clients behind a → Tellings I clients behind a t → length (a.items) ≤ n → n ≤ length (t.items) → IsPassed I clients behind a t n
  passes _ n begins tellings.Nothing low high =
      record { between = a; before = tellings.Nothing; after = tellings.Nothing; items = take-all n (a.items) (omega (arith, low, high)) }
  passes _ n begins (AnEvent t u d event before told goes) low high =
      let so_far = every-run I clients behind a t begins before in
      let together = (every_cluster (Trees I) (a.cluster) (t.cluster) (begins.starts) (events-of I clients behind a t so_far)).0 in
      let step = steps I clients behind t u together (history-is I clients behind a t begins so_far) d event told in
      more-passed t (traced_of I d u) n (λ h. passes t n begins before low h) (AnEvent t u d event before told goes) (λ b run. AnEvent t u d event run told goes)
      (grows I 0 (behind 0) (journal_of I t 0) (journal_of I (traced_of I d u) 0) (t.items) (u.items) (step.journals 0)) high
  passes _ n begins (AnItem t x before may goes) low high =
      more-passed t (record t { items = t.items ++ x ∷ [] }) n (λ h. passes t n begins before low h) (AnItem t x before may goes) (λ b run. AnItem t x run may goes) (inr (x, refl)) high
  passes _ n begins (tellings.Lands t i h before may) low high =
      more-passed t (record t { names = at (t.names) i (λ d. h) }) n (λ g. passes t n begins before low g) (tellings.Lands t i h before may) (λ b run. tellings.Lands t i h run may) (inl refl) high

pub fronts-passed : (I : Images) → FrontsArePassed I
fronts-passed I clients behind a t n begins run low high = passes I clients behind a t n begins run low high
