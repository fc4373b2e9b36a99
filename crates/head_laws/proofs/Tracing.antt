-- The losses of a trace.
use Rattle.std.proofs.Common.{ℕ, zero, suc, ◌≡◌, ◌<◌, ◌+◌, ◌⊎◌, inl, inr, true, false, Option, None, Some, List, [], ◌∷◌, ◌++◌, length, take, drop, refl, sym, ap, ◌∙◌, subst, arith, length-append}
use Rattle.std.specs.Prelude.{nat_lt, slice_get}
use Rattle.std.proofs.lemmas.Bool.{ltb-true, ltb-false, cases_Bool}
use Rattle.std.proofs.lemmas.Option.{slice_get_within}
use Rattle.std.proofs.lemmas.List.{take-append-le}
use Rattle.std.proofs.Math.Seq.{take-append_seam}
use Rattle.cluster_history.specs.declared.Item.{Item}
use Rattle.cluster_history.specs.declared.Item.TheVariants as item
use Rattle.cluster_history.specs.Losses.{LossIsRight}
use Rattle.trace_text.specs.declared.item.TraceItem.{TraceItem}
use Rattle.trace_text.specs.declared.item.TraceItem.TheVariants as trace
use Rattle.script_lang.specs.declared.script.Client.{Client}
use Rattle.run_rules.specs.Follows as run
use Rattle.run_rules.specs.Lives.{Life, AcceptedHead, DiskHeads, upto_of, upto_by, head_of, head_behind, fenced_behind, items_of, named, losses_of, lives_of, life_lost, TraceKeptRight}
use Rattle.cluster_laws.specs.Book.{Kept}
use Rattle.cluster_laws.specs.History.{Called, Gone}
use Rattle.cluster_laws.specs.History as machine
use Rattle.cluster_laws.specs.World as world
use Rattle.cluster_events.specs.Cluster.{Cluster, BookOf, Starts, Together}
use Rattle.cluster_events.specs.Cluster as cluster
use Rattle.cluster_events.proofs.Eventing.{every_cluster}
use Rattle.tree_histories.specs.Trees.{Images, Trees, item_of, history_of, upto_at}
use Rattle.tree_histories.proofs.Joining.{every_tree_cluster}
use Rattle.head_laws.specs.Journals.{Journal, JournalEvent, JournalEvents, IsNew}
use Rattle.head_laws.specs.Journals as journals
use Rattle.head_laws.specs.Laws.{with_head, AreTold}
use Rattle.head_laws.specs.Traces.{Traced, journal_of, Happens, Rests, Does, TracedStep, TracedSteps, Done, Then, AreJoins, Begins, LossesAreRight}
use Rattle.head_laws.proofs.Items.{life-there}
use Rattle.head_laws.proofs.Telling.{heads-are-told}

-- ---- lists

-- what is there in a longer list
pub get-old : {A : Type 0} (xs ys : List A) (p : ℕ) → p < length xs → slice_get (xs ++ ys) p ≡ slice_get xs p
get-old [] ys p h = absurd (omega arith)
get-old (x ∷ xs) ys zero h = refl
get-old (x ∷ xs) ys (suc p) h = get-old xs ys p (omega arith)

pub get-new : {A : Type 0} (xs : List A) (y : A) → slice_get (xs ++ y ∷ []) (length xs) ≡ Some y
get-new [] y = refl
get-new (x ∷ xs) y = get-new xs y

inside : {A : Type 0} {a b : A} → Some a ≡ Some b → a ≡ b
inside e = cc

-- two lists that are one and have one front
pub same-last : {A : Type 0} (xs : List A) (a b : A) → xs ++ a ∷ [] ≡ xs ++ b ∷ [] → a ≡ b
same-last {A} xs a b e = inside (sym (get-new xs a) ∙ (ap (λ (l : List A). slice_get l (length xs)) e ∙ get-new xs b))

pub no-more : {A : Type 0} {B : Type 0} (xs : List A) (a : A) → xs ≡ xs ++ a ∷ [] → B
no-more xs a e = absurd (let n = ap length e in let m = length-append xs (a ∷ []) in omega (arith, n, m))

-- ---- the history

pub history-on : (clients : List Client) (xs ys : List TraceItem) → run.history_of clients (xs ++ ys) ≡ run.history_of clients xs ++ run.history_of clients ys
history-on clients [] ys = refl
history-on clients (trace.Call node name number call reply ∷ xs) ys = ap (λ (is : List Item). item.Call node (run.place_of clients name) number call reply ∷ is) (history-on clients xs ys)
history-on clients (trace.Lost node kept ∷ xs) ys = ap (λ (is : List Item). item.Lost node kept ∷ is) (history-on clients xs ys)
history-on clients (x ∷ xs) ys = history-on clients xs ys

-- joins are no part of it
join-history : (clients : List Client) (xs : List TraceItem) → AreJoins xs → run.history_of clients xs ≡ []
join-history clients [] joins = refl
join-history clients (trace.Join i ∷ xs) joins = join-history clients xs joins
join-history clients (x ∷ xs) joins = absurd joins

no-losses : {B : Type 0} (clients : List Client) (xs : List TraceItem) (p node kept : ℕ) → run.history_of clients xs ≡ [] → slice_get xs p ≡ Some (trace.Lost node kept) → B
no-losses clients [] p node kept none is = absurd (let f : None ≡ Some (trace.Lost node kept) = is in cc)
no-losses clients (trace.Call i name number call reply ∷ xs) p node kept none is =
    absurd (let f : item.Call i (run.place_of clients name) number call reply ∷ run.history_of clients xs ≡ [] = none in cc)
no-losses clients (trace.Lost i k ∷ xs) p node kept none is = absurd (let f : item.Lost i k ∷ run.history_of clients xs ≡ [] = none in cc)
no-losses clients (x ∷ xs) zero node kept none is = absurd (let f : x ≡ trace.Lost node kept = inside is in never x none f)
  where
    never : (x : TraceItem) → run.history_of clients (x ∷ xs) ≡ [] → x ≡ trace.Lost node kept → ⊥
    never x none f = let g : item.Lost node kept ∷ run.history_of clients xs ≡ [] = subst (λ (y : TraceItem). run.history_of clients (y ∷ xs) ≡ []) f none in cc
no-losses clients (x ∷ xs) (suc p) node kept none is = no-losses clients xs p node kept none is

-- ---- what an event of the cluster adds

module _ (I : Images) where
  pub data Adds (c d : Cluster (Trees I)) : Type 0 where
    Nothing : ((d.world).items ≡ (c.world).items) → Adds c d
    ACall : (k : Kept (Trees I)) → ((d.world).items ≡ (c.world).items ++ (Called k ∷ [])) → Adds c d
    ALoss : (i m k : ℕ) → ((d.world).items ≡ (c.world).items ++ (Gone i ((BookOf (Trees I) c).low i) k ∷ [])) → c.unlost i ≡ suc m → (c.runs i ≡ true) ⊎ (c.fenced i ≡ true) → Adds c d

  adds : (c d : Cluster (Trees I)) → cluster.Event (Trees I) c d → Adds c d
  adds c _ (cluster.Works _ (world.Publishes i some) may) = ACall _ refl
  adds c _ (cluster.Works _ (world.Loses i k all above below calm next none single) may) = ALoss i ((may.2).0) k refl ((may.2).1) (may.1)
  adds c _ (cluster.Works _ (world.Answers j said v change cache no_sync a) may) = Nothing refl
  adds c _ (cluster.Works _ (world.Syncs j said does still calm) may) = Nothing refl
  adds c _ (cluster.Works _ (world.Begins i h single heads) may) = Nothing refl
  adds c _ (cluster.Works _ (world.Ends i b) may) = Nothing refl
  adds c _ (cluster.Works _ (world.Writes r b v i live) may) = Nothing refl
  adds c _ (cluster.Works _ (world.Lands r x settles) may) = Nothing refl
  adds c _ (cluster.Works _ (world.Settles i p all owned untouched unlive) may) = Nothing refl
  adds c _ (cluster.Works _ (world.Lower i state cache lowers) may) = Nothing refl
  adds c _ (cluster.Works _ (world.Grants i state raises) may) = Nothing refl
  adds c _ (cluster.Works _ (world.Reads j b held) may) = Nothing refl
  adds c _ (cluster.Works _ (world.Shrinks j cache forgets) may) = Nothing refl
  adds c _ (cluster.Mails locks sent) = Nothing refl
  adds c _ (cluster.IsGranted i locks here none taken) = Nothing refl
  adds c _ (cluster.GoesDown i locks cache here weakens all clean cached) = Nothing refl
  adds c _ (cluster.Stops i here runs all) = Nothing refl
  adds c _ (cluster.Fences i out unfenced idle) = Nothing refl
  adds c _ cluster.Views = Nothing refl
  adds c _ (cluster.Joins i here out fenced waits) = Nothing refl
  adds c _ (cluster.Recovers i here wait nothing_left unheaded told) = Nothing refl
  adds c _ (cluster.PastEnds wait nothing_left unheaded) = Nothing refl

  pub step-adds : (c d : Cluster (Trees I)) → (d ≡ c) ⊎ cluster.Event (Trees I) c d → Adds c d
  step-adds c d (inl e) = Nothing (ap (λ (x : Cluster (Trees I)). (x.world).items) e)
  step-adds c d (inr event) = adds c d event

  pub history-more : (xs ys : List (machine.Item (Trees I))) → history_of I (xs ++ ys) ≡ history_of I xs ++ history_of I ys
  history-more [] ys = refl
  history-more (x ∷ xs) ys = ap (λ (is : List Item). item_of I x ∷ is) (history-more xs ys)

  pub upto-new : (xs : List (machine.Item (Trees I))) (i u k : ℕ) → upto_at I (xs ++ (Gone i u k ∷ [])) (length (history_of I xs)) ≡ u
  upto-new [] i u k = refl
  upto-new (Called c ∷ xs) i u k = upto-new xs i u k
  upto-new (Gone j v m ∷ xs) i u k = upto-new xs i u k

  -- ---- steps

  more-events : (a b c : Cluster (Trees I)) → cluster.Events (Trees I) a b → cluster.Event (Trees I) b c → cluster.Events (Trees I) a c
  more-events a _ c (cluster.Done _) event = cluster.Then a c c event (cluster.Done c)
  more-events a b c (cluster.Then _ m _ first rest) event = cluster.Then a m c first (more-events m b c rest event)

  pub events-of : (clients : List Client) (behind : ℕ → ℕ → AcceptedHead) (a t : Traced I) → TracedSteps I clients behind a t → cluster.Events (Trees I) (a.cluster) (t.cluster)
  events-of clients behind a _ Done = cluster.Done (a.cluster)
  events-of clients behind a v (Then u _ before step) = by (step.event) (events-of clients behind a u before)
    where
      by : ((v.cluster) ≡ (u.cluster)) ⊎ cluster.Event (Trees I) (u.cluster) (v.cluster) → cluster.Events (Trees I) (a.cluster) (u.cluster) → cluster.Events (Trees I) (a.cluster) (v.cluster)
      by (inl e) events = subst (λ (c : Cluster (Trees I)). cluster.Events (Trees I) (a.cluster) c) (sym e) events
      by (inr event) events = more-events (a.cluster) (u.cluster) (v.cluster) events event

  -- what happened to a node's journal since nobody had joined it
  then-more : (i : ℕ) (behind : ℕ → AcceptedHead) (j k l : Journal) (xs ys zs : List TraceItem) → JournalEvents i behind j xs k ys → Happens i behind k ys l zs → JournalEvents i behind j xs l zs
  then-more i behind j k _ xs ys _ events Rests = events
  then-more i behind j k l xs ys zs events (Does _ _ event) = journals.Then k l ys zs events event

  pub journal-events : (clients : List Client) (behind : ℕ → ℕ → AcceptedHead) (a t : Traced I) → Begins I clients behind a → TracedSteps I clients behind a t → (i : ℕ)
      → (j : Journal) × IsNew j × JournalEvents i (behind i) j [] (journal_of I t i) (t.items)
  journal-events clients behind a _ begins Done i = begins.joined i
  journal-events clients behind a v begins (Then u _ before step) i =
      let r = journal-events clients behind a u begins before i in
      (r.0, r.1, then-more i (behind i) (r.0) (journal_of I u i) (journal_of I v i) [] (u.items) (v.items) (r.2) (step.journals i))

  pub told : (clients : List Client) (behind : ℕ → ℕ → AcceptedHead) (a t : Traced I) → Begins I clients behind a → TracedSteps I clients behind a t → (i : ℕ) → AreTold i behind (journal_of I t i) (t.items)
  told clients behind a t begins steps i = let r = journal-events clients behind a t begins steps i in heads-are-told i behind (r.0) (journal_of I t i) (t.items) (r.1) (r.2)

  pub history-is : (clients : List Client) (behind : ℕ → ℕ → AcceptedHead) (a t : Traced I) → Begins I clients behind a → TracedSteps I clients behind a t
      → run.history_of clients (t.items) ≡ history_of I (((t.cluster).world).items)
  history-is clients behind a _ begins Done = join-history clients (a.items) (begins.joins) ∙ sym (ap (history_of I) (((begins.starts).world).unheard).0)
  history-is clients behind a v begins (Then u _ before step) = step.history

  -- one item more at most
  pub grows : (i : ℕ) (behind : ℕ → AcceptedHead) (j k : Journal) (xs ys : List TraceItem) → Happens i behind j xs k ys → (ys ≡ xs) ⊎ ((x : TraceItem) × (ys ≡ xs ++ x ∷ []))
  grows i behind j _ xs _ Rests = inl refl
  grows i behind j _ xs _ (Does _ _ (journals.Says x o)) = inr (x, refl)
  grows i behind j _ xs _ (Does _ _ (journals.WritesLog block loud)) = inr (_, refl)
  grows i behind j _ xs _ (Does _ _ (journals.SaysRecovered r waits)) = inr (_, refl)
  grows i behind j _ xs _ (Does _ _ (journals.Answers name number call reply runs acts dirty)) = inr (_, refl)
  grows i behind j _ xs _ (Does _ _ (journals.Begins clean block upto runs acts loud alone)) = inr (_, refl)
  grows i behind j _ xs _ (Does _ _ (journals.BeginsLast clean block upto runs acts loud alone told)) = inl refl
  grows i behind j _ xs _ (Does _ _ (journals.Replays r h waits who alone)) = inl refl
  grows i behind j _ xs _ (Does _ _ (journals.ReplaysPast h waits who alone)) = inl refl
  grows i behind j _ xs _ (Does _ _ (journals.Ends d may)) = inl refl
  grows i behind j _ xs _ (Does _ _ (journals.Commits sequence upto runs acts loud flies named counted)) = inr (_, refl)
  grows i behind j _ xs _ (Does _ _ (journals.Stops x is runs)) = inr (x, refl)
  grows i behind j _ xs _ (Does _ _ (journals.IsFenced stopped unfenced resting at)) = inr (_, refl)
  grows i behind j _ xs _ (Does _ _ (journals.Joins stopped free alone at)) = inr (_, refl)
  grows i behind j _ xs _ (Does _ _ (journals.Loses m kept waits some over)) = inr (_, refl)
  grows i behind j _ xs _ (Does _ _ (journals.IsRecovered waits none alone its-first)) = inl refl

-- ---- the number on any disks

upto-any : (o : Option ℕ) (k : AcceptedHead) (disks : DiskHeads) (h : AcceptedHead) (l : Life) (items : List TraceItem) → upto_by o k disks l items ≡ upto_by o k (with_head disks.behind h) l items
upto-any (Some u) k disks h l items = refl
upto-any None k disks h l items = refl

pub upto-now : (disks : DiskHeads) (l : Life) (items : List TraceItem) → upto_of disks l items ≡ upto_of (with_head disks.behind (disks.now l.node)) l items
upto-now disks l items =
    ap (λ (k : AcceptedHead). upto_by (named l.node k (items_of l items)) k disks l items) (by (fenced_behind l.node (l.join + 1) (drop (l.join + 1) items)))
    ∙ upto-any (named l.node (head_of (with_head disks.behind (disks.now l.node)) l items) (items_of l items)) (head_of (with_head disks.behind (disks.now l.node)) l items) disks (disks.now l.node) l items
  where
    by : (o : Option ℕ) → head_behind o disks l.node ≡ head_behind o (with_head disks.behind (disks.now l.node)) l.node
    by (Some p) = refl
    by None = refl

-- ---- each loss is right

abbrev Right : List Client → (ℕ → ℕ → AcceptedHead) → ℕ → ℕ → ℕ → List TraceItem → Type 0
Right clients behind p node kept before = (life : Life) × (life_lost node before ≡ Some life)
    × LossIsRight (run.history_of clients before) node (upto_of (record { behind = behind; now = λ i. behind i p }) life before) kept

module _ (I : Images) (clients : List Client) (behind : ℕ → ℕ → AcceptedHead) (a u v : Traced I) (begins : Begins I clients behind a) (before : TracedSteps I clients behind a u) (step : TracedStep I clients behind u v)
    (node kept : ℕ) (grown : v.items ≡ u.items ++ trace.Lost node kept ∷ []) where
  abbrev now : List Item
  now = history_of I (((u.cluster).world).items)

  longer-history : history_of I (((v.cluster).world).items) ≡ now ++ item.Lost node kept ∷ []
  longer-history =
      sym (step.history) ∙ (ap (run.history_of clients) grown ∙ (history-on clients (u.items) (trace.Lost node kept ∷ [])
      ∙ ap (λ (h : List Item). h ++ item.Lost node kept ∷ []) (history-is I clients behind a u begins before)))

  new-loss : (p : ℕ) → Adds I (u.cluster) (v.cluster) → Right clients behind p node kept (u.items)
  new-loss p (Nothing same) = no-more now (item.Lost node kept) (sym (ap (history_of I) same) ∙ longer-history)
  new-loss p (ACall k more) =
      absurd (let e : item_of I (Called k) ≡ item.Lost node kept = same-last now (item_of I (Called k)) (item.Lost node kept)
      (sym (history-more I (((u.cluster).world).items) (Called k ∷ [])) ∙ (sym (ap (history_of I) more) ∙ longer-history)) in
      let f : item.Call (k.node) (k.said.client) (k.number) (k.said.call) (k.said.reply) ≡ item.Lost node kept = e in cc)
  new-loss p (ALoss i m k more some who) =
      let same : item.Lost i k ≡ item.Lost node kept = same-last now (item.Lost i k) (item.Lost node kept)
      (sym (history-more I (((u.cluster).world).items) (Gone i ((BookOf (Trees I) (u.cluster)).low i) k ∷ [])) ∙ (sym (ap (history_of I) more) ∙ longer-history)) in
      let is : i ≡ node = cc in
      let left : (u.cluster).unlost node ≡ suc m = ap ((u.cluster).unlost) (sym is) ∙ some in
      let t = told I clients behind a u begins before node in
      let there = life-there node (losses_of node (u.items)) (lives_of (u.items)) (let c = t.count in omega (arith, c, left)) in
      let life : Life = there.0 in
      let fixed : upto_of (with_head behind (behind life.node p)) life (u.items) ≡ ((((u.cluster).world).disk).heads node false).cut =
      t.fixed life (behind life.node p) (λ none. absurd (omega (arith, none, left)))
      (subst (λ (n : ℕ). ((u.cluster).runs n ≡ true) ⊎ ((u.cluster).fenced n ≡ true)) is who) (there.1) in
      let events = events-of I clients behind a u before in
      let low : ((((u.cluster).world).disk).heads node false).cut ≡ (BookOf (Trees I) (u.cluster)).low node =
      (((((every_cluster (Trees I) (a.cluster) (u.cluster) (begins.starts) events).0).world).mirror).alone) node in
      let number : upto_of (record { behind = behind; now = λ i. behind i p }) life (u.items) ≡ (BookOf (Trees I) (u.cluster)).low i =
      upto-now (record { behind = behind; now = λ i. behind i p }) life (u.items) ∙ (fixed ∙ (low ∙ ap ((BookOf (Trees I) (u.cluster)).low) (sym is))) in
      let right = (every_tree_cluster I (a.cluster) (v.cluster) (begins.starts) (events-of I clients behind a v (Then u v before step))).kept_right
      (length now) node kept (ap (λ (h : List Item). slice_get h (length now)) longer-history ∙ get-new now (item.Lost node kept)) in
      let history : take (length now) (history_of I (((v.cluster).world).items)) ≡ run.history_of clients (u.items) =
      ap (take (length now)) longer-history ∙ (take-append_seam now (item.Lost node kept ∷ []) ∙ sym (history-is I clients behind a u begins before)) in
      let upto : upto_at I (((v.cluster).world).items) (length now) ≡ (BookOf (Trees I) (u.cluster)).low i =
      ap (λ (xs : List (machine.Item (Trees I))). upto_at I xs (length now)) more ∙ upto-new I (((u.cluster).world).items) i ((BookOf (Trees I) (u.cluster)).low i) k in (
        life,
        there.1,
        subst (λ (h : List Item). LossIsRight h node (upto_of (record { behind = behind; now = λ i. behind i p }) life (u.items)) kept) history
            (subst (λ (n : ℕ). LossIsRight (take (length now) (history_of I (((v.cluster).world).items))) node n kept) (upto ∙ sym number) right),
      )

pub losses-right : (I : Images) → LossesAreRight I
losses-right I clients behind a _ begins Done = λ p node kept is. no-losses clients (a.items) p node kept (join-history clients (a.items) (begins.joins)) is
losses-right I clients behind a v begins (Then u _ before step) =
    by (grows I 0 (behind 0) (journal_of I u 0) (journal_of I v 0) (u.items) (v.items) (step.journals 0)) (losses-right I clients behind a u begins before)
  where
    by : (v.items ≡ u.items) ⊎ ((x : TraceItem) × (v.items ≡ u.items ++ x ∷ [])) → TraceKeptRight clients behind (u.items) → TraceKeptRight clients behind (v.items)
    by (inl same) old = subst (TraceKeptRight clients behind) (sym same) old
    by (inr (x, more)) old = λ p node kept is.
        let there : slice_get (u.items ++ x ∷ []) p ≡ Some (trace.Lost node kept) = ap (λ (xs : List TraceItem). slice_get xs p) (sym more) ∙ is in
        subst (λ (xs : List TraceItem). Right clients behind p node kept (take p xs)) (sym more) (elim (cases_Bool (nat_lt p (length (u.items)))) [
          | inl below ↦
              let low = ltb-true p (length (u.items)) below in
              subst (Right clients behind p node kept) (sym (take-append-le p (u.items) (x ∷ []) (omega (arith, low)))) (old p node kept (sym (get-old (u.items) (x ∷ []) p low) ∙ there))
          | inr above ↦
              let high = ltb-false p (length (u.items)) above in
              let within = slice_get_within (u.items ++ x ∷ []) p (trace.Lost node kept) there in
              let size = length-append (u.items) (x ∷ []) in
              let last : p ≡ length (u.items) = omega (arith, high, within, size) in
              let lost : x ≡ trace.Lost node kept = inside (sym (get-new (u.items) x) ∙ (ap (slice_get (u.items ++ x ∷ [])) (sym last) ∙ there)) in
              subst (λ (n : ℕ). Right clients behind p node kept (take n (u.items ++ x ∷ []))) (sym last)
              (subst (Right clients behind p node kept) (sym (take-append_seam (u.items) (x ∷ [])))
              (new-loss I clients behind a u v begins before step node kept (more ∙ ap (λ (y : TraceItem). u.items ++ y ∷ []) lost) p (step-adds I (u.cluster) (v.cluster) (step.event))))
        ])
