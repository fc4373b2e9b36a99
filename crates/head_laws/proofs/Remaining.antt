-- What remains of a trace.
use Rattle.std.proofs.Common.{ℕ, suc, ◌≡◌, ◌<◌, ◌≤◌, ◌+◌, ◌⊎◌, inl, inr, Bool, true, false, cond, None, Some, List, [], ◌∷◌, ◌++◌, refl, sym, ap, ◌∙◌, subst, arith}
use Rattle.std.specs.Prelude.{◌==◌, ◌-◌, ⊤, nat_lt, slice_get}
use Rattle.std.proofs.lemmas.Bool.{ltb-true, ltb-false, cases_Bool}
use Rattle.std.proofs.lemmas.Bool.Decides.{eqb_tells}
use Rattle.cluster_history.specs.declared.Item.{Item}
use Rattle.cluster_history.specs.declared.Item.TheVariants as item
use Rattle.cluster_history.specs.History.{Legal, tree_of}
use Rattle.script_lang.specs.declared.script.Client.{Client}
use Rattle.run_rules.specs.Follows as run
use Rattle.run_rules.specs.Lives.{Life, AcceptedHead, DiskHeads, upto_of, losses_of, lives_of, life_at, without_loss, losses_for, remains}
use Rattle.cluster_laws.specs.Book.{W}
use Rattle.cluster_laws.specs.Contents.{places}
use Rattle.cluster_laws.specs.History.{Loss, gones, Above, HasLife, AreLives}
use Rattle.cluster_laws.specs.Laws.{head_cuts}
use Rattle.cluster_events.specs.Cluster.{Cluster}
use Rattle.cluster_events.proofs.Eventing.{every_cluster}
use Rattle.tree_histories.specs.Trees.{Images, Trees, history_of}
use Rattle.tree_histories.proofs.Joining.{every_tree_cluster}
use Rattle.head_laws.specs.Laws.{lives_count, with_head, MayBe}
use Rattle.head_laws.specs.Traces.{Traced, journal_of, Begins, TracedSteps, HeadsMayBe, SyncsStand, RemainsStand}
use Rattle.head_laws.proofs.Items.{eqb-other, life-there}
use Rattle.head_laws.proofs.Tracing.{history-is, history-more, events-of, told, upto-now}

-- ---- the lives without a loss

abbrev All : (Life → Type 0) → List Life → Type 0
All P [] = ⊤
All P (l ∷ ls) = P l × All P ls

-- what holds of each node's lives from a number on holds of those without a loss
without-all : (P : Life → Type 0) (left : ℕ → ℕ) (ls : List Life) → ((n : ℕ) (l : Life) → life_at l.node n ls ≡ Some l → left l.node ≤ n → P l) → All P (without_loss left ls)
without-all P left [] each = tt
without-all P left (m ∷ ls) each = by (eqb_tells (left m.node) 0) (without-all P left ls) (without-all P (λ i. cond (i == m.node) (left i - 1) (left i)) ls)
  where
    self : (m.node == m.node) ≡ true
    self = elim (eqb_tells m.node m.node) [ inl e ↦ e.0 | inr ne ↦ absurd (ne.1 refl) ]

    less-one : (n : ℕ) → suc n - 1 ≡ n
    less-one n = omega arith

    -- the next life of a node is one more behind this one, where this one is its own
    behind : (n : ℕ) (l : Life) → life_at l.node n ls ≡ Some l → ((l.node ≡ m.node) × (life_at l.node (suc n) (m ∷ ls) ≡ Some l)) ⊎ ((l.node ≡ m.node → ⊥) × (life_at l.node n (m ∷ ls) ≡ Some l))
    behind n l is = elim (eqb_tells m.node l.node) [
      | inl e ↦ inl (
        sym e.1,
        rw e.0 (ap (λ (t : Bool). cond t (Some m) (life_at l.node (suc n - 1) ls)) (eqb-other (suc n) 0 (λ q. absurd (omega (arith, q))))
            ∙ (ap (λ (k : ℕ). life_at l.node k ls) (less-one n) ∙ is)),
      )
      | inr ne ↦ inr ((λ e. ne.1 (sym e)), rw ne.0 is)
    ]

    by : (((left m.node == 0) ≡ true) × (left m.node ≡ 0)) ⊎ (((left m.node == 0) ≡ false) × (left m.node ≡ 0 → ⊥))
        → (((n : ℕ) (l : Life) → life_at l.node n ls ≡ Some l → left l.node ≤ n → P l) → All P (without_loss left ls))
        → (((n : ℕ) (l : Life) → life_at l.node n ls ≡ Some l → cond (l.node == m.node) (left l.node - 1) (left l.node) ≤ n → P l) → All P (without_loss (λ i. cond (i == m.node) (left i - 1) (left i)) ls))
        → All P (cond (left m.node == 0) (m ∷ without_loss left ls) (without_loss (λ i. cond (i == m.node) (left i - 1) (left i)) ls))
    by (inl none) same less = rw none.0 (
      each 0 m (rw self refl) (let z = none.1 in omega (arith, z)),
      same (λ n l is low. elim (behind n l is) [
        | inl b ↦ each (suc n) l b.1 (omega (arith, low))
        | inr b ↦ each n l b.1 low
      ]),
    )
    by (inr some) same less = rw some.0 (less (λ n l is low. elim (behind n l is) [
      | inl b ↦ each (suc n) l b.1 (let low' : left l.node - 1 ≤ n = subst (λ (t : Bool). cond t (left l.node - 1) (left l.node) ≤ n) (node-is l m b.0) low in omega (arith, low'))
      | inr b ↦ each n l b.1 (subst (λ (t : Bool). cond t (left l.node - 1) (left l.node) ≤ n) (eqb-other l.node m.node b.0) low)
    ]))
      where
        node-is : (l m : Life) → l.node ≡ m.node → (l.node == m.node) ≡ true
        node-is l m e = elim (eqb_tells l.node m.node) [ inl h ↦ h.0 | inr ne ↦ absurd (ne.1 e) ]

abbrev In : Life → List Life → Type 0
In l [] = ⊥
In l (m ∷ ms) = (m ≡ l) ⊎ In l ms

-- and the first of these of a node is among them
first-in : (left : ℕ → ℕ) (ls : List Life) (i : ℕ) (l : Life) → life_at i (left i) ls ≡ Some l → In l (without_loss left ls)
first-in left [] i l is = absurd (let f : None ≡ Some l = is in cc)
first-in left (m ∷ ls) i l is = by (eqb_tells m.node i) (eqb_tells (left m.node) 0) (first-in left ls i l) (first-in (λ k. cond (k == m.node) (left k - 1) (left k)) ls i l)
  where
    inside : {a b : Life} → Some a ≡ Some b → a ≡ b
    inside e = cc

    by : (((m.node == i) ≡ true) × (m.node ≡ i)) ⊎ (((m.node == i) ≡ false) × (m.node ≡ i → ⊥))
        → (((left m.node == 0) ≡ true) × (left m.node ≡ 0)) ⊎ (((left m.node == 0) ≡ false) × (left m.node ≡ 0 → ⊥))
        → (life_at i (left i) ls ≡ Some l → In l (without_loss left ls))
        → (life_at i (cond (i == m.node) (left i - 1) (left i)) ls ≡ Some l → In l (without_loss (λ k. cond (k == m.node) (left k - 1) (left k)) ls))
        → In l (cond (left m.node == 0) (m ∷ without_loss left ls) (without_loss (λ k. cond (k == m.node) (left k - 1) (left k)) ls))
    by (inl here) (inl none) same less = rw none.0 (inl (inside (
        let z : (left i == 0) ≡ true = ap (λ (n : ℕ). left n == 0) (sym here.1) ∙ none.0 in
        let e : cond (left i == 0) (Some m) (life_at i (left i - 1) ls) ≡ Some l = rw here.0 at is in
        rw z at e)))
    by (inl here) (inr some) same less = rw some.0 (less (
        let z : (left i == 0) ≡ false = ap (λ (n : ℕ). left n == 0) (sym here.1) ∙ some.0 in
        let e : cond (left i == 0) (Some m) (life_at i (left i - 1) ls) ≡ Some l = rw here.0 at is in
        let f : life_at i (left i - 1) ls ≡ Some l = rw z at e in
        ap (λ (t : Bool). life_at i (cond t (left i - 1) (left i)) ls) (turned i m here.1) ∙ f))
      where
        turned : (i : ℕ) (m : Life) → m.node ≡ i → (i == m.node) ≡ true
        turned i m e = elim (eqb_tells i m.node) [ inl h ↦ h.0 | inr ne ↦ absurd (ne.1 (sym e)) ]
    by (inr away) (inl none) same less = rw none.0 (inr (same (rw away.0 at is)))
    by (inr away) (inr some) same less = rw some.0 (less (
        ap (λ (t : Bool). life_at i (cond t (left i - 1) (left i)) ls) (eqb-other i m.node (λ e. away.1 (sym e))) ∙ (rw away.0 at is)))

-- ---- their losses

abbrev losses_with : (Life → ℕ) → List Life → List Loss
losses_with upto [] = []
losses_with upto (l ∷ ls) = (let x : Loss = record { node = l.node; kept = upto l } in x) ∷ losses_with upto ls

gones-are : (I : Images) (upto : Life → ℕ) (ls : List Life) → history_of I (gones (Trees I) (losses_with upto ls)) ≡ losses_for upto ls
gones-are I upto [] = refl
gones-are I upto (l ∷ ls) = ap (λ (is : List Item). item.Lost l.node (upto l) ∷ is) (gones-are I upto ls)

above-all : (cut : ℕ → ℕ) (upto : Life → ℕ) (ls : List Life) → All (λ l. cut l.node ≤ upto l) ls → Above cut (losses_with upto ls)
above-all cut upto [] all = tt
above-all cut upto (l ∷ ls) all = (all.0, above-all cut upto ls all.1)

has-one : (cut : ℕ → ℕ) (upto : Life → ℕ) (ls : List Life) (i : ℕ) (l : Life) → In l ls → l.node ≡ i → upto l ≡ cut i → HasLife cut i (losses_with upto ls)
has-one cut upto [] i l is node e = absurd is
has-one cut upto (m ∷ ms) i l (inl here) node e = inl (ap (λ (x : Life). x.node) here ∙ node, ap upto here ∙ e)
has-one cut upto (m ∷ ms) i l (inr there) node e = inr (has-one cut upto ms i l there node e)

node-of : (i n : ℕ) (ls : List Life) (l : Life) → life_at i n ls ≡ Some l → l.node ≡ i
node-of i n [] l is = absurd (let f : None ≡ Some l = is in cc)
node-of i n (m ∷ ls) l is = by (eqb_tells m.node i) (node-of i (n - 1) ls l) (node-of i n ls l)
  where
    inside : {a b : Life} → Some a ≡ Some b → a ≡ b
    inside e = cc

    by : (((m.node == i) ≡ true) × (m.node ≡ i)) ⊎ (((m.node == i) ≡ false) × (m.node ≡ i → ⊥)) → (life_at i (n - 1) ls ≡ Some l → l.node ≡ i) → (life_at i n ls ≡ Some l → l.node ≡ i) → l.node ≡ i
    by (inl here) before same = elim (eqb_tells n 0) [
      | inl first ↦ (let e : cond (n == 0) (Some m) (life_at i (n - 1) ls) ≡ Some l = rw here.0 at is in ap (λ (x : Life). x.node) (sym (inside (rw first.0 at e))) ∙ here.1)
      | inr later ↦ (let e : cond (n == 0) (Some m) (life_at i (n - 1) ls) ≡ Some l = rw here.0 at is in before (rw later.0 at e))
    ]
    by (inr away) before same = same (rw away.0 at is)

-- ---- what remains

may-be : (I : Images) (t : Traced I) (choice : ℕ → Bool) (now : ℕ → AcceptedHead) → HeadsMayBe I t choice now → (i : ℕ) → MayBe i (journal_of I t i) (t.items) (choice i) (now i)
may-be I t choice now heads i = elim (heads i) [ inl e ↦ inl e | inr m ↦ inr (m.waits, m.over) ]

module _ (I : Images) (clients : List Client) (behind : ℕ → ℕ → AcceptedHead) (a t : Traced I) (begins : Begins I clients behind a) (steps : TracedSteps I clients behind a t)
    (choice : ℕ → Bool) (now : ℕ → AcceptedHead) (heads : HeadsMayBe I t choice now) where
  abbrev c : Cluster (Trees I)
  c = t.cluster

  abbrev disks : DiskHeads
  disks = record { behind = behind; now = now }

  abbrev upto : Life → ℕ
  upto l = upto_of (record { behind = behind; now = now }) l (t.items)

  abbrev cut : ℕ → ℕ
  cut = head_cuts (Trees I) ((c.world).disk) choice

  -- the number that the items tell is that of the journal's head, or of the node's last call
  first-is : (i : ℕ) (l : Life) → l.node ≡ i → life_at i (losses_of i (t.items)) (lives_of (t.items)) ≡ Some l → upto l ≡ cut i
  first-is i l node is =
      upto-now disks l (t.items) ∙ (ap (λ (k : ℕ). upto_of (with_head behind (now k)) l (t.items)) node
      ∙ (told I clients behind a t begins steps i).first l (choice i) (now i) (may-be I t choice now heads i) is)

  later-is : (l : Life) (n : ℕ) → losses_of l.node (t.items) < n → life_at l.node n (lives_of (t.items)) ≡ Some l → upto l ≡ ((c.world).book).published l.node
  later-is l n later is =
      upto-now disks l (t.items)
      ∙ (told I clients behind a t begins steps l.node).later n l (choice l.node) (now l.node) (may-be I t choice now heads l.node) later is

  pub keeps-cut : (l : Life) (n : ℕ) → losses_of l.node (t.items) ≤ n → life_at l.node n (lives_of (t.items)) ≡ Some l → cut l.node ≤ upto l
  keeps-cut l n low is = elim (cases_Bool (nat_lt (losses_of l.node (t.items)) n)) [
    | inl later ↦
        let e = later-is l n (ltb-true (losses_of l.node (t.items)) n later) is in
        let sound = ((every_cluster (Trees I) (a.cluster) c (begins.starts) (events-of I clients behind a t steps)).0).world in
        let h = ((sound.mirror).cuts l.node (choice l.node)).1 in omega (arith, e, h)
    | inr first ↦
        let same : n ≡ losses_of l.node (t.items) = (let h = ltb-false (losses_of l.node (t.items)) n first in omega (arith, h, low)) in
        let e = first-is l.node l refl (ap (λ (m : ℕ). life_at l.node m (lives_of (t.items))) (sym same) ∙ is) in
        omega (arith, e)
  ]

pub syncs-stand : (I : Images) → SyncsStand I
syncs-stand I clients behind a t begins steps choice now heads p q n client other number earlier call reply l low is sync is-call above below =
    let events = events-of I clients behind a t steps in
    let same = history-is I clients behind a t begins steps in
    let h = keeps-cut I clients behind a t begins steps choice now heads l n low is in
    (every_tree_cluster I (a.cluster) (t.cluster) (begins.starts) events).synced choice p q l.node client other number earlier call reply
    (ap (λ (xs : List Item). slice_get xs p) (sym same) ∙ sync) (ap (λ (xs : List Item). slice_get xs q) (sym same) ∙ is-call) (omega (arith, h, above)) below

pub remains-stand : (I : Images) → RemainsStand I
remains-stand I clients behind a t begins steps free rings choice now heads x r full outcome replay good near =
    let c : Cluster (Trees I) = t.cluster in
    let events = events-of I clients behind a t steps in
    let headline = every_tree_cluster I (a.cluster) c (begins.starts) events in
    let disks : DiskHeads = record { behind = behind; now = now } in
    let upto : Life → ℕ = λ l. upto_of disks l (t.items) in
    let left : ℕ → ℕ = λ i. losses_of i (t.items) in
    let ls = without_loss left (lives_of (t.items)) in
    let cut : ℕ → ℕ = head_cuts (Trees I) ((c.world).disk) choice in
    let published : ℕ → ℕ = ((c.world).book).published in
    let lives : AreLives published cut (losses_with upto ls) = record {
      above = above-all cut upto ls (without-all (λ l. cut l.node ≤ upto l) left (lives_of (t.items)) (λ n l is low. keeps-cut I clients behind a t begins steps choice now heads l n low is));
      every = λ i.
          let tells = told I clients behind a t begins steps i in
          elim (cases_Bool (nat_lt (left i) (lives_count i (lives_of (t.items))))) [
            | inl some ↦
                let there = life-there i (left i) (lives_of (t.items)) (ltb-true (left i) (lives_count i (lives_of (t.items))) some) in
                let node : (there.0).node ≡ i = node-of i (left i) (lives_of (t.items)) (there.0) (there.1) in
                inr (has-one cut upto ls i (there.0) (first-in left (lives_of (t.items)) i (there.0) (there.1)) node
                (first-is I clients behind a t begins steps choice now heads i (there.0) node (there.1)))
            | inr none ↦
                let h = ltb-false (left i) (lives_count i (lives_of (t.items))) none in
                let count = tells.count in
                let runs : c.runs i ≡ false = stopped (c.runs i) (c.unlost i) (left i) (lives_count i (lives_of (t.items))) h count in
                let unlost : c.unlost i ≡ 0 = omega (arith, h, count) in
                inl (let e : cut i ≡ published i = tells.rests unlost runs (choice i) in omega (arith, e))
          ];
    } in
    let all = headline.remains free rings choice x r full (losses_with upto ls) outcome replay good near lives in
    let is : history_of I (((c.world).items) ++ gones (Trees I) (losses_with upto ls)) ≡ remains clients disks (t.items) =
    history-more I ((c.world).items) (gones (Trees I) (losses_with upto ls))
    ∙ (ap (λ (h : List Item). h ++ history_of I (gones (Trees I) (losses_with upto ls))) (sym (history-is I clients behind a t begins steps))
    ∙ ap (λ (h : List Item). run.history_of clients (t.items) ++ h) (gones-are I upto ls)) in (
      subst (λ (h : List Item). Legal h (((c.world).book).start)) is (all.0),
      subst (λ (h : List Item). I.StandsFor full (places (W (Trees I) ((c.world).book) (head_cuts (Trees I) ((c.world).disk) choice))) (tree_of h (((c.world).book).start))) is (all.1),
    )
  where
    stopped : (runs : Bool) (unlost left count : ℕ) → count ≤ left → count ≡ left + (unlost + cond runs 1 0) → runs ≡ false
    stopped false unlost left count low e = refl
    stopped true unlost left count low e = absurd (omega (arith, low, e))
