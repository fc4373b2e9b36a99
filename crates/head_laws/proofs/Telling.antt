-- The law over every list of events.
use Rattle.std.proofs.Common.{ℕ, ◌≡◌, ◌<◌, ◌≤◌, ◌+◌, inl, inr, Bool, true, false, cond, None, Some, List, [], sym, ap, ◌∙◌, arith}
use Rattle.std.specs.Prelude.{nat_lt}
use Rattle.std.proofs.lemmas.Bool.{ltb-true, ltb-false, cases_Bool}
use Rattle.std.proofs.lemmas.Bool.Decides.{eqb_tells}
use Rattle.trace_text.specs.declared.item.TraceItem.{TraceItem}
use Rattle.run_rules.specs.Lives.{Life, AcceptedHead, lives_of, losses_of, life_at}
use Rattle.head_laws.specs.Journals.{Journal, JournalEvent, JournalEvents, Done, Then, IsNew}
use Rattle.head_laws.specs.Journals as journals
use Rattle.head_laws.specs.Laws.{lives_count, MayBe, AreTold, HeadsAreTold}
use Rattle.head_laws.proofs.Items.{true-false, eqb-other, eqb-self}
use Rattle.head_laws.proofs.Values.{value, value-is}
use Rattle.head_laws.proofs.Goods.{Closed, Inv, open-runs}
use Rattle.head_laws.proofs.Saying.{says, writes-log, says-recovered, answers, begins, begins-last, commits}
use Rattle.head_laws.proofs.Ending.{waits-value, fenced-value, any-value, replays, replays-past, ends, stops, is-fenced, joins, loses, is-recovered}

-- ---- the invariant

starts : (i : ℕ) (behind : ℕ → AcceptedHead) (j : Journal) → IsNew j → Inv i behind j []
starts i behind j new = record {
  number = sym new.last;
  count = let u : j.unlost ≡ 0 = new.unlost in let r : cond {A = ℕ} j.runs 1 0 ≡ 0 = ap (λ (b : Bool). cond b 1 0) new.runs in omega (arith, u, r);
  settled = λ e. new.unlost;
  single = λ e. (new.cut true ∙ sym (new.cut false), new.name);
  others = λ r e ne. new.cut true ∙ sym (new.cut false);
  even = λ u why d. new.cut d ∙ sym new.last;
  silent = λ s. true-false s new.silent;
  lives = λ n l is low. absurd (let f : None ≡ Some l = is in cc);
}

event-keeps : (i : ℕ) (behind : ℕ → AcceptedHead) (j k : Journal) (items more : List TraceItem) → JournalEvent i behind j items k more → Inv i behind j items → Inv i behind k more
event-keeps i behind j _ items _ (journals.Says x o) inv = says i behind j items x o inv
event-keeps i behind j _ items _ (journals.WritesLog block loud) inv = writes-log i behind j items block loud inv
event-keeps i behind j _ items _ (journals.SaysRecovered r waits) inv = says-recovered i behind j items r waits inv
event-keeps i behind j _ items _ (journals.Answers name number call reply runs acts dirty) inv = answers i behind j items name number call reply runs acts dirty inv
event-keeps i behind j _ items _ (journals.Begins clean block upto runs acts loud alone) inv = begins i behind j items clean block upto runs acts loud alone inv
event-keeps i behind j _ items _ (journals.BeginsLast clean block upto runs acts loud alone told) inv = begins-last i behind j items clean block upto runs acts loud alone told inv
event-keeps i behind j _ items _ (journals.Replays r h waits who alone) inv = replays i behind j items r h waits who alone inv
event-keeps i behind j _ items _ (journals.ReplaysPast h waits who alone) inv = replays-past i behind j items h waits who alone inv
event-keeps i behind j _ items _ (journals.Ends d may) inv = ends i behind j items d may inv
event-keeps i behind j _ items _ (journals.Commits sequence upto runs acts loud flies named counted) inv = commits i behind j items sequence upto runs acts loud flies inv
event-keeps i behind j _ items _ (journals.Stops x is runs) inv = stops i behind j items x is runs inv
event-keeps i behind j _ items _ (journals.IsFenced stopped unfenced resting at) inv = is-fenced i behind j items stopped resting at inv
event-keeps i behind j _ items _ (journals.Joins stopped free alone at) inv = joins i behind j items stopped free alone at inv
event-keeps i behind j _ items _ (journals.Loses m kept waits some over) inv = loses i behind j items m kept waits some inv
event-keeps i behind j _ items _ (journals.IsRecovered waits none alone its-first) inv = is-recovered i behind j items waits none alone its-first inv

events-keep : (i : ℕ) (behind : ℕ → AcceptedHead) (j : Journal) (items : List TraceItem) (k : Journal) (more : List TraceItem) → JournalEvents i behind j items k more → Inv i behind j items → Inv i behind k more
events-keep i behind j items _ _ Done inv = inv
events-keep i behind j items l most (Then k _ more _ before event) inv = event-keeps i behind k l more most event (events-keep i behind j items k more before inv)

-- ---- what it says

-- where the slot doesn't wait, the accepted head is one of the two
is-one : (i : ℕ) (j : Journal) (items : List TraceItem) (d : Bool) (h : AcceptedHead) → MayBe i j items d h → j.waits ≡ false → h ≡ j.name d
is-one i j items d h (inl e) acts = e
is-one i j items d h (inr landing) acts = true-false (landing.0) acts

-- a life that ended has the same number with any head that may be accepted
may-value : (i : ℕ) (behind : ℕ → AcceptedHead) (j : Journal) (items : List TraceItem) (n : ℕ) (l : Life) (d : Bool) (h : AcceptedHead) → MayBe i j items d h
    → life_at i n (lives_of items) ≡ Some l → losses_of i items ≤ n → n < losses_of i items + j.unlost → Closed i behind j items n l → value i behind l items h ≡ value i behind l items (j.name d)
may-value i behind j items n l d h (inl e) is low high c = ap (value i behind l items) e
may-value i behind j items n l d h (inr landing) is low high c = any-value i behind j items n l h (j.name d) (landing.1) is low high c

pub are-told : (i : ℕ) (behind : ℕ → ℕ → AcceptedHead) (j : Journal) (items : List TraceItem) → Inv i (behind i) j items → AreTold i behind j items
are-told i behind j items inv = record {
  first = λ l d h may is.
      let g = inv.lives (losses_of i items) l is (omega arith) in
      value-is i behind l items h g.node ∙ elim (eqb_tells j.unlost 0) [
        | inl none ↦ let o = g.present (let u = none.1 in omega (arith, u)) in elim (cases_Bool j.waits) [
          | inl w ↦ waits-value i (behind i) j items l h g.within inv.number o (o.waiting w) ∙ sym (inv.even none.1 (inr w) d)
          | inr a ↦ ap (value i (behind i) l items) (is-one i j items d h may a) ∙ (o.acting a).told d
        ]
        | inr some ↦
            let high : losses_of i items < losses_of i items + j.unlost = (let u = some.1 in omega (arith, u)) in
            may-value i (behind i) j items (losses_of i items) l d h may is (omega arith) high (g.closed high)
            ∙ ((g.closed high).told d ∙ ap (λ (b : Bool). cond b (j.cut d) j.last) (eqb-self (losses_of i items)))
      ];
  later = λ n l d h may low is.
      let g = inv.lives n l is (omega (arith, low)) in
      value-is i behind l items h g.node ∙ elim (cases_Bool (nat_lt n (losses_of i items + j.unlost))) [
        | inl below ↦
            let high = ltb-true n (losses_of i items + j.unlost) below in
            may-value i (behind i) j items n l d h may is (omega (arith, low)) high (g.closed high)
            ∙ ((g.closed high).told d ∙ ap (λ (b : Bool). cond b (j.cut d) j.last) (eqb-other n (losses_of i items) (λ q. absurd (omega (arith, low, q)))))
        | inr above ↦
            let at = ltb-false n (losses_of i items + j.unlost) above in
            let o = g.present at in
            let m : n ≡ losses_of i items + j.unlost = (open-runs i (behind i) j items inv n l is at).1 in
            elim (cases_Bool j.waits) [
              | inl w ↦ waits-value i (behind i) j items l h g.within inv.number o (o.waiting w)
              | inr a ↦ absurd (let u : j.unlost ≡ 0 = inv.settled a in omega (arith, low, m, u))
            ]
      ];
  fixed = λ l h some who is.
      let g = inv.lives (losses_of i items) l is (omega arith) in
      let c = g.closed (elim (eqb_tells j.unlost 0) [ inl none ↦ absurd (some none.1) | inr some ↦ let u = some.1 in omega (arith, u) ]) in
      let f = c.fenced (inr who) in
      value-is i behind l items h g.node ∙ (fenced-value i (behind i) l items h (j.name false) f.0 f.1
      ∙ (c.told false ∙ ap (λ (b : Bool). cond b (j.cut false) j.last) (eqb-self (losses_of i items))));
  rests = λ none stopped d. inv.even none (inl stopped) d;
  count = inv.count;
  lost = λ acts. (let c : lives_count i (lives_of items) ≡ losses_of i items + (j.unlost + cond j.runs 1 0) = inv.count in let u : j.unlost ≡ 0 = inv.settled acts in
      c ∙ omega (arith, u));
  fence = λ l some who is.
      let g = inv.lives (losses_of i items) l is (omega arith) in
      (g.closed (elim (eqb_tells j.unlost 0) [ inl none ↦ absurd (some none.1) | inr more ↦ let u = more.1 in omega (arith, u) ])).fenced (inr who);
}

pub heads-are-told : HeadsAreTold
heads-are-told i behind a j items new events = are-told i behind j items (events-keep i (behind i) a [] j items events (starts i (behind i) a new))
