-- A run that goes on behind turns: what the disk had behind the items that there were doesn't change.
use Rattle.std.proofs.Common.{ℕ, zero, suc, ◌≡◌, ◌<◌, ◌≤◌, ◌+◌, inl, inr, Bool, true, false, cond, Option, None, Some, List, [], ◌∷◌, length, drop, refl, sym, ap, ◌∙◌, subst, arith, length-append}
use Rattle.std.specs.Prelude.{◌==◌, ◌-◌}
use Rattle.trace_text.specs.declared.item.TraceItem.{TraceItem}
use Rattle.trace_text.specs.declared.item.TraceItem.TheVariants as trace
use Rattle.script_lang.specs.declared.script.Client.{Client}
use Rattle.run_rules.specs.Lives.{Life, AcceptedHead, to_its_end, items_of, recovered_behind, or_else, own_from, lives_from, life_at}
use Rattle.cluster_laws.specs.World as world
use Rattle.cluster_events.specs.Cluster.{Cluster, Event}
use Rattle.cluster_events.specs.Cluster as cluster
use Rattle.cluster_turns.specs.Turns.{Ties, RunsGoOn}
use Rattle.cluster_turns.proofs.Turning.{turns}
use Rattle.tree_histories.specs.Trees.{Images, Trees}
use Rattle.head_laws.specs.Journals.{Journal, JournalEvent, JournalEvents, IsFirst, Done, Then}
use Rattle.head_laws.specs.Journals as journals
use Rattle.head_laws.specs.Traces.{Traced, journal_of, Does, Begins}
use Rattle.head_laws.specs.Tellings.{Beside, Tells, Tellings, AnEvent, AnItem}
use Rattle.head_laws.specs.Tellings as tellings
use Rattle.head_laws.specs.Turns.{told_clusters, ToldTurnsKeep}
use Rattle.head_laws.proofs.Tracing.{grows, losses-right}
use Rattle.head_laws.proofs.Happening.{every-run}

-- ---- places within the items

inside : {A : Type 0} {a b : A} → Some a ≡ Some b → a ≡ b
inside e = cc

recovered-within : (i p : ℕ) (xs : List TraceItem) (q : ℕ) → recovered_behind i p xs ≡ Some q → q ≤ p + length xs
recovered-within i p [] q e = absurd (let f : None ≡ Some q = e in cc)
recovered-within i p (trace.Recovered k r ∷ xs) q e = by (k == i) e (recovered-within i (suc p) xs q)
  where
    by : (b : Bool) → cond b (Some (suc p)) (recovered_behind i (suc p) xs) ≡ Some q → (recovered_behind i (suc p) xs ≡ Some q → q ≤ suc p + length xs) → q ≤ p + suc (length xs)
    by true f on = let same : suc p ≡ q = inside f in omega (arith, same)
    by false f on = let h = on f in omega (arith, h)
recovered-within i p (x ∷ xs) q e = let h = recovered-within i (suc p) xs q e in omega (arith, h)

end-short : (i : ℕ) (xs : List TraceItem) → length (to_its_end i xs) ≤ length xs
end-short i [] = omega arith
end-short i (trace.Crash k ∷ xs) = by (k == i) (end-short i xs)
  where
    by : (b : Bool) → length (to_its_end i xs) ≤ length xs → length (cond b [] (trace.Crash k ∷ to_its_end i xs)) ≤ suc (length xs)
    by true h = omega arith
    by false h = omega (arith, h)
end-short i (trace.Withdraw k before now ∷ xs) = by (k == i) (end-short i xs)
  where
    by : (b : Bool) → length (to_its_end i xs) ≤ length xs → length (cond b [] (trace.Withdraw k before now ∷ to_its_end i xs)) ≤ suc (length xs)
    by true h = omega arith
    by false h = omega (arith, h)
end-short i (x ∷ xs) = let h = end-short i xs in omega (arith, h)

drop-length : (n : ℕ) (xs : List TraceItem) → n ≤ length xs → n + length (drop n xs) ≡ length xs
drop-length zero xs h = omega arith
drop-length (suc n) [] h = absurd (omega (arith, h))
drop-length (suc n) (x ∷ xs) h = let e = drop-length n xs (omega (arith, h)) in omega (arith, e)

life-within : (i n p : ℕ) (xs : List TraceItem) (l : Life) → life_at i n (lives_from p xs) ≡ Some l → l.join < p + length xs
life-within i n p [] l e = absurd (let f : None ≡ Some l = e in cc)
life-within i n p (trace.Join k ∷ xs) l e = by (k == i) (n == 0) e (life-within i (n - 1) (suc p) xs l) (life-within i n (suc p) xs l)
  where
    by : (b c : Bool) → cond b (cond c (Some (record { node = k; join = p })) (life_at i (n - 1) (lives_from (suc p) xs))) (life_at i n (lives_from (suc p) xs)) ≡ Some l
        → (life_at i (n - 1) (lives_from (suc p) xs) ≡ Some l → l.join < suc p + length xs) → (life_at i n (lives_from (suc p) xs) ≡ Some l → l.join < suc p + length xs)
        → l.join < p + suc (length xs)
    by true true f before same = subst (λ (m : Life). m.join < p + suc (length xs)) (inside f) (omega arith)
    by true false f before same = let h = before f in omega (arith, h)
    by false c f before same = let h = same f in omega (arith, h)
life-within i n p (x ∷ xs) l e = let h = life-within i n (suc p) xs l e in omega (arith, h)

own-within : (l : Life) (items : List TraceItem) → l.join < length items → own_from l items ≤ length items
own-within l items low = by (recovered_behind l.node (l.join + 1) (items_of l items)) refl
  where
    by : (o : Option ℕ) → recovered_behind l.node (l.join + 1) (items_of l items) ≡ o → or_else o l.join ≤ length items
    by None e = omega (arith, low)
    by (Some q) e =
        let a = recovered-within l.node (l.join + 1) (items_of l items) q e in
        let b = end-short l.node (drop (l.join + 1) items) in
        let c = drop-length (l.join + 1) items (omega (arith, low)) in
        omega (arith, a, b, c)

-- ---- one journal

shorter : (I : Images) (i : ℕ) (behind : ℕ → AcceptedHead) (j : Journal) (xs : List TraceItem) (k : Journal) (ys : List TraceItem) → JournalEvent i behind j xs k ys → length xs ≤ length ys
shorter I i behind j xs k ys event = elim (grows I i behind j k xs ys (Does k ys event)) [
  | inl same ↦ let e = ap length same in omega (arith, e)
  | inr more ↦ let e = ap length (more.1) in let n = length-append xs (more.0 ∷ []) in omega (arith, e, n)
]

module _ (I : Images) (i : ℕ) (behind after : ℕ → AcceptedHead) (n : ℕ) (same : (p : ℕ) → p ≤ n → behind p ≡ after p) where
  first-too : (j : Journal) (items : List TraceItem) → length items ≤ n → IsFirst i behind j items → IsFirst i after j items
  first-too j items short first runs l is =
      let there : l.join < length items = (let e = life-within i _ 0 items l is in omega (arith, e)) in
      let low = own-within l items there in
      sym (same (own_from l items) (omega (arith, short, low))) ∙ first runs l is

  event-too : (j : Journal) (xs : List TraceItem) (k : Journal) (ys : List TraceItem) → JournalEvent i behind j xs k ys → length xs ≤ n → length ys ≤ n → JournalEvent i after j xs k ys
  event-too j xs _ _ (journals.Says x other) short long = journals.Says x other
  event-too j xs _ _ (journals.WritesLog block loud) short long = journals.WritesLog block loud
  event-too j xs _ _ (journals.SaysRecovered r waits) short long = journals.SaysRecovered r waits
  event-too j xs _ _ (journals.Answers name number call reply runs acts dirty) short long = journals.Answers name number call reply runs acts dirty
  event-too j xs _ _ (journals.Begins clean block upto runs acts loud alone) short long = journals.Begins clean block upto runs acts loud alone
  event-too j xs _ _ (journals.BeginsLast clean block upto runs acts loud alone told) short long = journals.BeginsLast clean block upto runs acts loud alone told
  event-too j xs _ _ (journals.Replays r h waits who alone) short long = journals.Replays r h waits who alone
  event-too j xs _ _ (journals.ReplaysPast h waits who alone) short long = journals.ReplaysPast h waits who alone
  event-too j xs _ _ (journals.Ends d may) short long = journals.Ends d may
  event-too j xs _ _ (journals.Commits sequence upto runs acts loud flies named counted) short long = journals.Commits sequence upto runs acts loud flies named counted
  event-too j xs _ _ (journals.Stops x end runs) short long = journals.Stops x end runs
  event-too j xs _ _ (journals.IsFenced stopped unfenced resting there) short long =
      journals.IsFenced stopped unfenced resting (sym (same (suc (length xs)) (let e = length-append xs (trace.Fence i ∷ []) in omega (arith, e, long))) ∙ there)
  event-too j xs _ _ (journals.Joins stopped free alone there) short long = journals.Joins stopped free alone (sym (same (length xs) short) ∙ there)
  event-too j xs _ _ (journals.Loses m kept waits some over) short long = journals.Loses m kept waits some over
  event-too j xs _ _ (journals.IsRecovered waits none alone its-first) short long = journals.IsRecovered waits none alone (first-too j xs short its-first)

  events-too : (j : Journal) (xs : List TraceItem) (k : Journal) (ys : List TraceItem) → JournalEvents i behind j xs k ys → length ys ≤ n → JournalEvents i after j xs k ys
  events-too j xs _ _ Done long = Done
  events-too j xs l most (Then k _ more _ before event) long =
      let step = shorter I i behind k more l most event in
      let short : length more ≤ n = omega (arith, long, step) in
      Then k l more most (events-too j xs k more before short) (event-too k more l most event short long)

-- ---- a run

module _ (I : Images) (clients : List Client) where
  module _ (behind after : ℕ → ℕ → AcceptedHead) (n : ℕ) (same : (i p : ℕ) → p ≤ n → behind i p ≡ after i p) where
    tells-too : (t : Traced I) (u : Beside) (d : Cluster (Trees I)) (event : Event (Trees I) (t.cluster) d) → length (t.items) ≤ n → length (u.items) ≤ n
        → Tells I clients behind t u d event → Tells I clients after t u d event
    tells-too t u _ (cluster.Works _ (world.Answers j said v change cache no_sync a) may) short long told = told
    tells-too t u _ (cluster.Works _ (world.Syncs j said does still calm) may) short long told = told
    tells-too t u _ (cluster.Works _ (world.Publishes i some) may) short long told = told
    tells-too t u _ (cluster.Works _ (world.Begins i h single heads) may) short long told = told
    tells-too t u _ (cluster.Works _ (world.Ends i b) may) short long told = told
    tells-too t u _ (cluster.Works _ (world.Writes r b v i live) may) short long told = told
    tells-too t u _ (cluster.Works _ (world.Lands r x settles) may) short long told = told
    tells-too t u _ (cluster.Works _ (world.Settles i p all owned untouched unlive) may) short long told = told
    tells-too t u _ (cluster.Works _ (world.Lower i state cache lowers) may) short long told = told
    tells-too t u _ (cluster.Works _ (world.Grants i state raises) may) short long told = told
    tells-too t u _ (cluster.Works _ (world.Reads j b held) may) short long told = told
    tells-too t u _ (cluster.Works _ (world.Shrinks j cache forgets) may) short long told = told
    tells-too t u _ (cluster.Works _ (world.Loses i k all above below calm next none single) may) short long told = told
    tells-too t u _ (cluster.Mails locks sent) short long told = told
    tells-too t u _ (cluster.IsGranted i locks here none taken) short long told = told
    tells-too t u _ (cluster.GoesDown i locks cache here weakens all clean cached) short long told = told
    tells-too t u _ (cluster.Stops i here runs all) short long told = told
    tells-too t u _ (cluster.Fences i out unfenced idle) short long (there, ch) =
        (sym (same i (suc (length (t.items))) (let e = ap length (ch.said) in let m = length-append (t.items) (trace.Fence i ∷ []) in omega (arith, e, m, long))) ∙ there, ch)
    tells-too t u _ cluster.Views short long told = told
    tells-too t u _ (cluster.Joins i here out fenced waits) short long (there, ch) = (sym (same i (length (t.items)) short) ∙ there, ch)
    tells-too t u _ (cluster.Recovers i here wait nothing_left unheaded none) short long (said, is-clean, its-first, ch) =
        (said, is-clean, first-too I i (behind i) (after i) n (same i) (journal_of I t i) (t.items) short its-first, ch)
    tells-too t u _ (cluster.PastEnds wait nothing_left unheaded) short long told = told

    run-too : (a t : Traced I) → Tellings I clients behind a t → length (t.items) ≤ n → Tellings I clients after a t
    run-too a _ tellings.Nothing long = tellings.Nothing
    run-too a _ (AnEvent t u d event before told goes) long =
        let e = ap length (goes.said) in let m = length-append (t.items) (goes.more) in
        let short : length (t.items) ≤ n = omega (arith, e, m, long) in
        AnEvent t u d event (run-too a t before short) (tells-too t u d event short long told) goes
    run-too a _ (AnItem t x before may goes) long =
        let m = length-append (t.items) (x ∷ []) in
        AnItem t x (run-too a t before (omega (arith, m, long))) may goes
    run-too a _ (tellings.Lands t i h before may) long = tellings.Lands t i h (run-too a t before long) may

    begins-too : (a : Traced I) → length (a.items) ≤ n → Begins I clients behind a → Begins I clients after a
    begins-too a short begins = record {
      starts = begins.starts;
      joined = λ i. (let r = begins.joined i in (r.0, r.1, events-too I i (behind i) (after i) n (same i) (r.0) [] _ (a.items) (r.2) short));
      joins = begins.joins;
    }

  -- one run after another
  run-on : (behind : ℕ → ℕ → AcceptedHead) (a t v : Traced I) → Tellings I clients behind a t → Tellings I clients behind t v → Tellings I clients behind a v
  run-on behind a t _ first tellings.Nothing = first
  run-on behind a t _ first (AnEvent v u d event before told goes) = AnEvent v u d event (run-on behind a t v first before) told goes
  run-on behind a t _ first (AnItem v x before may goes) = AnItem v x (run-on behind a t v first before) may goes
  run-on behind a t _ first (tellings.Lands v i h before may) = tellings.Lands v i h (run-on behind a t v first before) may

  no-shorter : (behind : ℕ → ℕ → AcceptedHead) (a t : Traced I) → Tellings I clients behind a t → length (a.items) ≤ length (t.items)
  no-shorter behind a _ tellings.Nothing = omega arith
  no-shorter behind a _ (AnEvent t u d event before told goes) =
      let h = no-shorter behind a t before in let e = ap length (goes.said) in let m = length-append (t.items) (goes.more) in omega (arith, h, e, m)
  no-shorter behind a _ (AnItem t x before may goes) = let h = no-shorter behind a t before in let m = length-append (t.items) (x ∷ []) in omega (arith, h, m)
  no-shorter behind a _ (tellings.Lands t i h before may) = no-shorter behind a t before

  runs-go-on : RunsGoOn (told_clusters I clients)
  runs-go-on s u reached leads = record {
    begin = reached.begin;
    begins = begins-too (s.behind) (u.behind) (length ((s.traced).items)) (leads.disk) (reached.begin) (no-shorter (s.behind) (reached.begin) (s.traced) (reached.run)) (reached.begins);
    run = run-on (u.behind) (reached.begin) (s.traced) (u.traced)
        (run-too (s.behind) (u.behind) (length ((s.traced).items)) (leads.disk) (reached.begin) (s.traced) (reached.run) (omega arith)) (leads.run);
  }

pub told-turns : (I : Images) (clients : List Client) (T : Ties (told_clusters I clients)) → ToldTurnsKeep I clients T
told-turns I clients T = record {
  turns = turns (told_clusters I clients) (runs-go-on I clients) T;
  starts = λ a shown parts begins fits. record { state = a; shown = shown; reached = record { begin = a.traced; begins = begins; run = tellings.Nothing }; fits = fits };
  losses = λ parts h. losses-right I clients ((h.state).behind) ((h.reached).begin) ((h.state).traced) ((h.reached).begins)
      (every-run I clients ((h.state).behind) ((h.reached).begin) ((h.state).traced) ((h.reached).begins) ((h.reached).run));
}
