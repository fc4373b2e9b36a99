-- Recoveries are told as they have to be.
use Rattle.std.proofs.Common.{ℕ, zero, suc, ◌≡◌, ◌⊎◌, inl, inr, Bool, true, false, cond, None, Some, List, [], ◌∷◌, ◌++◌, length, refl, sym, ap, ◌∙◌, subst, append-nil, drop}
use Rattle.std.specs.Prelude.{◌==◌, ◌&&◌, ◌||◌, not}
use Rattle.std.proofs.lemmas.Bool.{cases_eq, cases_Bool}
use Rattle.std.proofs.lemmas.Bool.Decides.{eqb_tells}
use Rattle.trace_text.specs.declared.item.TraceItem.{TraceItem}
use Rattle.trace_text.specs.declared.item.TraceItem.TheVariants as trace
use Rattle.script_lang.specs.declared.script.Client.{Client}
use Rattle.run_rules.specs.Lives.{AcceptedHead, recovered_behind}
use Rattle.run_rules.specs.Recoveries.{Place, Ending, Slots, is_recovering, is_ending, after_item, slots_after, none_below, may_come, recoveries_are_told, at_start}
use Rattle.cluster_laws.specs.Book.{at}
use Rattle.cluster_laws.proofs.Cells.{at-same, at-other}
use Rattle.cluster_events.specs.Cluster.{Cluster}
use Rattle.cluster_events.specs.Cluster as cluster
use Rattle.cluster_events.proofs.Eventing.{every_cluster}
use Rattle.tree_histories.specs.Trees.{Images, Trees}
use Rattle.head_laws.specs.Journals.{Journal, JournalEvent, JournalEvents, IsNew, IsOther, IsEnd, head_item, Done, Then, DoesNothing}
use Rattle.head_laws.specs.Journals as journals
use Rattle.head_laws.specs.Traces.{Traced, journal_of, Happens, Rests, Does, TracedStep, AreJoins, Begins}
use Rattle.head_laws.specs.Tellings.{Beside, traced_of, place_of, slots_of, GoesOn, Tells, MaySay, Tellings, AnEvent, AnItem, RecoveriesAreTold, StartSlotsStayOpen}
use Rattle.head_laws.specs.Tellings as tellings
use Rattle.head_laws.proofs.Values.{none-on}
use Rattle.head_laws.proofs.Saying.{other-idle}
use Rattle.head_laws.proofs.Items.{true-false, eqb-other, eqb-self}
use Rattle.head_laws.proofs.Tracing.{same-last, no-more, grows, told, journal-events, history-is, events-of}
use Rattle.head_laws.proofs.Lost.{each-fenced}
use Rattle.head_laws.proofs.Happening.{steps, item-step, every-run}

-- ---- lists of items

slots-on : (s : Slots) (xs ys : List TraceItem) → slots_after s (xs ++ ys) ≡ slots_after (slots_after s xs) ys
slots-on s [] ys = refl
slots-on s (x ∷ xs) ys = slots-on (after_item s x) xs ys

told-on : (s : Slots) (xs ys : List TraceItem) → recoveries_are_told s xs ≡ true → recoveries_are_told (slots_after s xs) ys ≡ true → recoveries_are_told s (xs ++ ys) ≡ true
told-on s [] ys told more = more
told-on s (x ∷ xs) ys told more = by (may_come s x) told (λ e. told-on (after_item s x) xs ys e more)
  where
    by : (b : Bool) → (b && recoveries_are_told (after_item s x) xs) ≡ true
        → (recoveries_are_told (after_item s x) xs ≡ true → recoveries_are_told (after_item s x) (xs ++ ys) ≡ true) → (b && recoveries_are_told (after_item s x) (xs ++ ys)) ≡ true
    by true e on = on e
    by false e on = e

abbrev rest : List TraceItem → List TraceItem
rest [] = []
rest (x ∷ xs) = xs

too-long : (xs : List TraceItem) (y z : TraceItem) (zs : List TraceItem) (x : TraceItem) → xs ++ y ∷ z ∷ zs ≡ xs ++ x ∷ [] → ⊥
too-long [] y z zs x e = let n : suc (suc (length zs)) ≡ 1 = ap length e in cc
too-long (w ∷ xs) y z zs x e = too-long xs y z zs x (ap rest e)

both : (a b : Bool) → (a && b) ≡ true → (a ≡ true) × (b ≡ true)
both true b e = (refl, e)
both false b e = true-false e refl

one-of : (a b : Bool) → (a || b) ≡ true → (a ≡ true) ⊎ (b ≡ true)
one-of true b e = inl refl
one-of false b e = inr e

is-not : (b : Bool) → not b ≡ true → b ≡ false
is-not true e = sym e
is-not false e = refl

-- where the items are is told by them alone
place-after : (s r : Slots) (x : TraceItem) → s.place ≡ r.place → (after_item s x).place ≡ (after_item r x).place
place-after s r (trace.Join i) e = refl
place-after s r (trace.Crash i) e = refl
place-after s r (trace.Withdraw i before now) e = refl
place-after s r (trace.Recovered i k) e = refl
place-after s r (trace.Lost i kept) e = ap (λ (p : Place). cond (is_recovering i p) p Ending) e
place-after s r x e = refl

place-same : (s r : Slots) (xs : List TraceItem) → s.place ≡ r.place → (slots_after s xs).place ≡ (slots_after r xs).place
place-same s r [] e = e
place-same s r (x ∷ xs) e = place-same (after_item s x) (after_item r x) xs (place-after s r x e)

-- behind its item a slot doesn't wait
abbrev Quiet : ℕ → Slots → Type 0
Quiet i s = is_recovering i s.place ≡ true → s.waits i ≡ false

none-is : {A : Type 0} → false ≡ true → A
none-is e = true-false e refl

quiet-after : (i : ℕ) (s : Slots) (x : TraceItem) → Quiet i s → Quiet i (after_item s x)
quiet-after i s (trace.Join k) quiet is = none-is is
quiet-after i s (trace.Crash k) quiet is = none-is is
quiet-after i s (trace.Withdraw k before now) quiet is = none-is is
quiet-after i s (trace.Recovered k r) quiet is = elim (eqb_tells k i) [
  | inl h ↦ ap (λ (b : Bool). cond b false (s.waits i)) (ap (λ (m : ℕ). i == m) h.1 ∙ eqb-self i)
  | inr h ↦ true-false is (h.0)
]
quiet-after i s (trace.Lost k kept) quiet is = by (is_recovering k s.place) is
  where
    by : (b : Bool) → is_recovering i (cond b s.place Ending) ≡ true → s.waits i ≡ false
    by true e = quiet e
    by false e = none-is e
quiet-after i s x quiet is = none-is is

quiet-on : (i : ℕ) (s : Slots) (xs : List TraceItem) → Quiet i s → Quiet i (slots_after s xs)
quiet-on i s [] quiet = quiet
quiet-on i s (x ∷ xs) quiet = quiet-on i (after_item s x) xs (quiet-after i s x quiet)

-- joins leave slots as they were
joins-leave : (s : Slots) (xs : List TraceItem) (i : ℕ) → AreJoins xs → (slots_after s xs).waits i ≡ s.waits i
joins-leave s [] i joins = refl
joins-leave s (trace.Join k ∷ xs) i joins = joins-leave (after_item s (trace.Join k)) xs i joins
joins-leave s (x ∷ xs) i joins = absurd joins

joins-told : (s : Slots) (xs : List TraceItem) → is_ending s.place ≡ false → AreJoins xs → recoveries_are_told s xs ≡ true
joins-told s [] still joins = refl
joins-told s (trace.Join k ∷ xs) still joins =
    ap (λ (b : Bool). not b && recoveries_are_told (after_item s (trace.Join k)) xs) still ∙ joins-told (after_item s (trace.Join k)) xs refl joins
joins-told s (x ∷ xs) still joins = absurd joins

-- ---- what one node's items say

other-members : (i : ℕ) (s : Slots) (x : TraceItem) → IsOther i x → (after_item s x).members i ≡ s.members i
other-members i s (trace.Join k) o = ap (λ (b : Bool). cond b true (s.members i)) (eqb-other i k (λ e. o (sym e)))
other-members i s (trace.Crash k) o = ap (λ (b : Bool). cond b false (s.members i)) (eqb-other i k (λ e. o (sym e)))
other-members i s (trace.Withdraw k before now) o = ap (λ (b : Bool). cond b false (s.members i)) (eqb-other i k (λ e. o (sym e)))
other-members i s (trace.Recovered k r) o = refl
other-members i s (trace.Lost k kept) o = refl
other-members i s x o = refl

other-waits : (i : ℕ) (s : Slots) (x : TraceItem) → IsOther i x → (after_item s x).waits i ≡ s.waits i
other-waits i s (trace.Join k) o = refl
other-waits i s (trace.Crash k) o = ap (λ (b : Bool). cond b true (s.waits i)) (eqb-other i k (λ e. o (sym e)))
other-waits i s (trace.Withdraw k before now) o = ap (λ (b : Bool). cond b true (s.waits i)) (eqb-other i k (λ e. o (sym e)))
other-waits i s (trace.Recovered k r) o = ap (λ (b : Bool). cond b false (s.waits i)) (eqb-other i k (λ e. o (sym e)))
other-waits i s (trace.Lost k kept) o = refl
other-waits i s x o = refl

head-leaves : (s : Slots) (i : ℕ) (clean : Bool) (node block sequence upto : ℕ)
    → ((after_item s (head_item clean node block sequence upto)).members i ≡ s.members i) × ((after_item s (head_item clean node block sequence upto)).waits i ≡ s.waits i)
head-leaves s i true node block sequence upto = (refl, refl)
head-leaves s i false node block sequence upto = (refl, refl)

-- What a node's journal and the items say of it is one: whether it is a member; and, where P holds of it, whether its slot waits, but for one whose recovery is being told.
record Agrees (P : Type 0) (i : ℕ) (s : Slots) (j : Journal) : Type 0 where
  members : s.members i ≡ j.runs
  waits : j.waits ≡ true → (s.waits i ≡ true) ⊎ (is_recovering i s.place ≡ true)
  told : P → s.waits i ≡ true → j.waits ≡ true

module _ (P : Type 0) (s0 : Slots) (i : ℕ) where
  abbrev S : List TraceItem → Slots
  S items = slots_after s0 items

  -- an item that says nothing of either
  leaves : (j : Journal) (k : Journal) (items : List TraceItem) (x : TraceItem) → k.runs ≡ j.runs → k.waits ≡ j.waits → (after_item (S items) x).members i ≡ (S items).members i
      → (after_item (S items) x).waits i ≡ (S items).waits i → (j.waits ≡ true → is_recovering i ((S items).place) ≡ true → is_recovering i ((S (items ++ x ∷ [])).place) ≡ true)
      → Agrees P i (S items) j → Agrees P i (S (items ++ x ∷ [])) k
  leaves j k items x runs waits members slots through a = record {
    members = ap (λ (s : Slots). s.members i) (slots-on s0 items (x ∷ [])) ∙ (members ∙ (a.members ∙ sym runs));
    waits = λ w. elim (a.waits (sym waits ∙ w)) [
      | inl e ↦ inl (ap (λ (s : Slots). s.waits i) (slots-on s0 items (x ∷ [])) ∙ (slots ∙ e))
      | inr e ↦ inr (through (sym waits ∙ w) e)
    ];
    told = λ p w. waits ∙ a.told p (sym slots ∙ (sym (ap (λ (s : Slots). s.waits i) (slots-on s0 items (x ∷ []))) ∙ w));
  }

  more-is : (items : List TraceItem) (x : TraceItem) (k : Journal) → Agrees P i (after_item (S items) x) k → Agrees P i (S (items ++ x ∷ [])) k
  more-is items x k a = subst (λ (s : Slots). Agrees P i s k) (sym (slots-on s0 items (x ∷ []))) a

  stops-agrees : (j : Journal) (items : List TraceItem) (x : TraceItem) → IsEnd i x
      → Agrees P i (S (items ++ x ∷ [])) (record j { runs = false; waits = true; fenced = false; unlost = suc j.unlost; silent = false })
  stops-agrees j items x is = more-is items x _ (record { members = (by x is).0; waits = λ w. inl ((by x is).1); told = λ p w. refl })
    where
      by : (x : TraceItem) → IsEnd i x → ((after_item (S items) x).members i ≡ false) × ((after_item (S items) x).waits i ≡ true)
      by (trace.Crash k) e = let q = ap (λ (m : ℕ). i == m) e ∙ eqb-self i in (ap (λ (b : Bool). cond b false ((S items).members i)) q, ap (λ (b : Bool). cond b true ((S items).waits i)) q)
      by (trace.Withdraw k before now) e = let q = ap (λ (m : ℕ). i == m) e ∙ eqb-self i in (ap (λ (b : Bool). cond b false ((S items).members i)) q, ap (λ (b : Bool). cond b true ((S items).waits i)) q)
      by x e = absurd e

  event-agrees : (behind : ℕ → AcceptedHead) (j k : Journal) (items more : List TraceItem) → JournalEvent i behind j items k more
      → (j.waits ≡ true → is_recovering i ((S items).place) ≡ true → is_recovering i ((S more).place) ≡ true)
      → (P → j.waits ≡ true → k.waits ≡ false → (S items).waits i ≡ false) → Agrees P i (S items) j → Agrees P i (S more) k
  event-agrees behind j _ items _ (journals.Says x o) through recovered a = leaves j j items x refl refl (other-members i (S items) x o) (other-waits i (S items) x o) through a
  event-agrees behind j _ items _ (journals.WritesLog block loud) through recovered a = leaves j j items (trace.WriteLog i block) refl refl refl refl through a
  event-agrees behind j _ items _ (journals.SaysRecovered r waits) through recovered a =
      more-is items (trace.Recovered i r) j (record {
        members = a.members;
        waits = λ w. inr (eqb-self i);
        told = λ p w. waits;
      })
  event-agrees behind j _ items _ (journals.Answers name number call reply runs acts dirty) through recovered a =
      leaves j _ items (trace.Call i name number call reply) refl refl refl refl through a
  event-agrees behind j _ items _ (journals.Begins clean block upto runs acts loud alone) through recovered a =
      let l = head-leaves (S items) i clean i block (suc (j.name false).sequence) upto in
      leaves j _ items (head_item clean i block (suc (j.name false).sequence) upto) refl refl (l.0) (l.1) through a
  event-agrees behind j _ items _ (journals.BeginsLast clean block upto runs acts loud alone told) through recovered a = record { members = a.members; waits = a.waits; told = a.told }
  event-agrees behind j _ items _ (journals.Replays r h waits who alone) through recovered a = record { members = a.members; waits = a.waits; told = a.told }
  event-agrees behind j _ items _ (journals.ReplaysPast h waits who alone) through recovered a = record { members = a.members; waits = a.waits; told = a.told }
  event-agrees behind j _ items _ (journals.Ends d may) through recovered a = record { members = a.members; waits = a.waits; told = a.told }
  event-agrees behind j _ items _ (journals.Commits sequence upto runs acts loud flies named counted) through recovered a = leaves j _ items (trace.Commit i sequence upto) refl refl refl refl through a
  event-agrees behind j _ items _ (journals.Stops x is runs) through recovered a = stops-agrees j items x is
  event-agrees behind j _ items _ (journals.IsFenced stopped unfenced resting there) through recovered a = leaves j _ items (trace.Fence i) refl refl refl refl through a
  event-agrees behind j _ items _ (journals.Joins stopped free alone there) through recovered a =
      record {
        members = ap (λ (s : Slots). s.members i) (slots-on s0 items (trace.Join i ∷ [])) ∙ ap (λ (b : Bool). cond b true ((S items).members i)) (eqb-self i);
        waits = λ w. elim (a.waits w) [
          | inl e ↦ inl (ap (λ (s : Slots). s.waits i) (slots-on s0 items (trace.Join i ∷ [])) ∙ e)
          | inr e ↦ inr (through w e)
        ];
        told = λ p w. a.told p (sym (ap (λ (s : Slots). s.waits i) (slots-on s0 items (trace.Join i ∷ []))) ∙ w);
      }
  event-agrees behind j _ items _ (journals.Loses m kept waits some over) through recovered a = leaves j _ items (trace.Lost i kept) refl refl refl refl through a
  event-agrees behind j _ items _ (journals.IsRecovered waits none alone its-first) through recovered a = record {
    members = a.members;
    waits = λ w. none-is w;
    told = λ p w. true-false w (recovered p waits refl);
  }

  happens-agrees : (behind : ℕ → AcceptedHead) (j k : Journal) (items more : List TraceItem) → Happens i behind j items k more
      → (j.waits ≡ true → is_recovering i ((S items).place) ≡ true → is_recovering i ((S more).place) ≡ true)
      → (P → j.waits ≡ true → k.waits ≡ false → (S items).waits i ≡ false) → Agrees P i (S items) j → Agrees P i (S more) k
  happens-agrees behind j _ items _ Rests through recovered a = a
  happens-agrees behind j k items more (Does _ _ event) through recovered a = event-agrees behind j k items more event through recovered a

-- ---- from a journal that nobody has joined: who is a member

event-members : (s0 : Slots) (i : ℕ) (behind : ℕ → AcceptedHead) (j k : Journal) (items more : List TraceItem) → JournalEvent i behind j items k more
    → (slots_after s0 items).members i ≡ j.runs → (slots_after s0 more).members i ≡ k.runs
event-members s0 i behind j k items more event e = by j k items more event e
  where
    on : (items : List TraceItem) (x : TraceItem) (b : Bool) → (after_item (slots_after s0 items) x).members i ≡ b → (slots_after s0 (items ++ x ∷ [])).members i ≡ b
    on items x b is = ap (λ (s : Slots). s.members i) (slots-on s0 items (x ∷ [])) ∙ is

    end : (s : Slots) (x : TraceItem) → IsEnd i x → (after_item s x).members i ≡ false
    end s (trace.Crash k) e = ap (λ (b : Bool). cond b false (s.members i)) (ap (λ (m : ℕ). i == m) e ∙ eqb-self i)
    end s (trace.Withdraw k before now) e = ap (λ (b : Bool). cond b false (s.members i)) (ap (λ (m : ℕ). i == m) e ∙ eqb-self i)
    end s x e = absurd e

    by : (j k : Journal) (items more : List TraceItem) → JournalEvent i behind j items k more → (slots_after s0 items).members i ≡ j.runs → (slots_after s0 more).members i ≡ k.runs
    by j _ items _ (journals.Says x o) e = on items x (j.runs) (other-members i (slots_after s0 items) x o ∙ e)
    by j _ items _ (journals.WritesLog block loud) e = on items (trace.WriteLog i block) (j.runs) e
    by j _ items _ (journals.SaysRecovered r waits) e = on items (trace.Recovered i r) (j.runs) e
    by j _ items _ (journals.Answers name number call reply runs acts dirty) e = on items (trace.Call i name number call reply) (j.runs) e
    by j _ items _ (journals.Begins clean block upto runs acts loud alone) e =
        on items (head_item clean i block (suc (j.name false).sequence) upto) (j.runs) ((head-leaves (slots_after s0 items) i clean i block (suc (j.name false).sequence) upto).0 ∙ e)
    by j _ items _ (journals.BeginsLast clean block upto runs acts loud alone told) e = e
    by j _ items _ (journals.Replays r h waits who alone) e = e
    by j _ items _ (journals.ReplaysPast h waits who alone) e = e
    by j _ items _ (journals.Ends d may) e = e
    by j _ items _ (journals.Commits sequence upto runs acts loud flies named counted) e = on items (trace.Commit i sequence upto) (j.runs) e
    by j _ items _ (journals.Stops x is runs) e = on items x false (end (slots_after s0 items) x is)
    by j _ items _ (journals.IsFenced stopped unfenced resting there) e = on items (trace.Fence i) (j.runs) e
    by j _ items _ (journals.Joins stopped free alone there) e = on items (trace.Join i) true (ap (λ (b : Bool). cond b true ((slots_after s0 items).members i)) (eqb-self i))
    by j _ items _ (journals.Loses m kept waits some over) e = on items (trace.Lost i kept) (j.runs) e
    by j _ items _ (journals.IsRecovered waits none alone its-first) e = e

events-members : (s0 : Slots) (i : ℕ) (behind : ℕ → AcceptedHead) (j : Journal) (items : List TraceItem) (k : Journal) (more : List TraceItem) → JournalEvents i behind j items k more
    → (slots_after s0 items).members i ≡ j.runs → (slots_after s0 more).members i ≡ k.runs
events-members s0 i behind j items _ _ Done e = e
events-members s0 i behind j items l most (Then k _ more _ before event) e = event-members s0 i behind k l more most event (events-members s0 i behind j items k more before e)

-- ---- what may come by the machine may come by the items

none-same : (f g : ℕ → Bool) (n : ℕ) → ((i : ℕ) → f i ≡ g i) → none_below f n ≡ none_below g n
none-same f g zero same = refl
none-same f g (suc n) same = ap (λ (b : Bool). not b && none_below f n) (same n) ∙ ap (λ (b : Bool). not (g n) && b) (none-same f g n same)

-- slots that agree, and of which those wait that wait here
record Allows (m s : Slots) : Type 0 where
  members : (i : ℕ) → s.members i ≡ m.members i
  place : s.place ≡ m.place
  waits : (i : ℕ) → m.waits i ≡ true → s.waits i ≡ true

and : (a b : Bool) → a ≡ true → b ≡ true → (a && b) ≡ true
and a b e f = ap (λ (c : Bool). c && b) e ∙ f

may-come : (m s : Slots) (x : TraceItem) → Allows m s → may_come m x ≡ true → may_come s x ≡ true
may-come m s (trace.Recovered i r) a may =
    let p = both (not (is_ending m.place)) (m.waits i && (m.members r && none_below m.members r)) may in
    let q = both (m.waits i) (m.members r && none_below m.members r) (p.1) in
    and (not (is_ending s.place)) (s.waits i && (s.members r && none_below s.members r)) (ap (λ (p : Place). not (is_ending p)) a.place ∙ p.0)
    (and (s.waits i) (s.members r && none_below s.members r) (a.waits i (q.0))
    (ap (λ (b : Bool). b && none_below s.members r) (a.members r) ∙ (ap (λ (b : Bool). m.members r && b) (none-same s.members m.members r a.members) ∙ q.1)))
may-come m s (trace.Lost i kept) a may = elim (one-of (is_recovering i m.place) (m.waits i) may) [
  | inl e ↦ ap (λ (b : Bool). b || s.waits i) (ap (is_recovering i) a.place ∙ e)
  | inr e ↦ by (is_recovering i s.place) (a.waits i e)
]
  where
    by : (b : Bool) → s.waits i ≡ true → (b || s.waits i) ≡ true
    by true e = refl
    by false e = e
may-come m s x a may = ap (λ (p : Place). not (is_ending p)) a.place ∙ may

-- ---- one event, or one item

module _ (I : Images) (clients : List Client) (behind : ℕ → ℕ → AcceptedHead) where
  past-same : (c d : Cluster (Trees I)) → cluster.Event (Trees I) c d → d.past ≡ c.past
  past-same c _ (cluster.Works w step may) = refl
  past-same c _ (cluster.Mails locks sent) = refl
  past-same c _ (cluster.IsGranted i locks here none taken) = refl
  past-same c _ (cluster.GoesDown i locks cache here weakens all clean cached) = refl
  past-same c _ (cluster.Stops i here runs all) = refl
  past-same c _ (cluster.Fences i out unfenced idle) = refl
  past-same c _ cluster.Views = refl
  past-same c _ (cluster.Joins i here out fenced waits) = refl
  past-same c _ (cluster.Recovers i here wait nothing_left unheaded told) = refl
  past-same c _ (cluster.PastEnds wait nothing_left unheaded) = refl

  -- a slot ends to wait where its recovery is told, or it is the past's
  ends-to-wait : (t : Traced I) (u : Beside) (d : Cluster (Trees I)) (event : cluster.Event (Trees I) (t.cluster) d) → Tells I clients behind t u d event → (i : ℕ) → (t.cluster).waits i ≡ true
      → d.waits i ≡ false → (is_recovering i (place_of (t.items)) ≡ true) ⊎ (i ≡ (t.cluster).past)
  ends-to-wait t u _ (cluster.Works w step may) told i w0 f = true-false w0 f
  ends-to-wait t u _ (cluster.Mails locks sent) told i w f = true-false w f
  ends-to-wait t u _ (cluster.IsGranted k locks here none taken) told i w f = true-false w f
  ends-to-wait t u _ (cluster.GoesDown k locks cache here weakens all clean cached) told i w f = true-false w f
  ends-to-wait t u _ (cluster.Stops k here runs all) told i w f = elim (cases_eq i k) [
    | inl e ↦ true-false (ap (at ((t.cluster).waits) k true) e ∙ at-same ((t.cluster).waits) k true) f
    | inr ne ↦ true-false (at-other ((t.cluster).waits) k true i ne ∙ w) f
  ]
  ends-to-wait t u _ (cluster.Fences k out unfenced idle) told i w f = true-false w f
  ends-to-wait t u _ cluster.Views told i w f = true-false w f
  ends-to-wait t u _ (cluster.Joins k here out fenced waits) told i w f = true-false w f
  ends-to-wait t u _ (cluster.Recovers k here wait nothing_left unheaded none) told i w f = elim (cases_eq i k) [
    | inl e ↦ inl (ap (λ (m : ℕ). is_recovering m (place_of (t.items))) e ∙ told.0)
    | inr ne ↦ true-false (at-other ((t.cluster).waits) k false i ne ∙ w) f
  ]
  ends-to-wait t u _ (cluster.PastEnds wait nothing_left unheaded) told i w f = elim (cases_eq i ((t.cluster).past)) [
    | inl e ↦ inr e
    | inr ne ↦ true-false (at-other ((t.cluster).waits) ((t.cluster).past) false i ne ∙ w) f
  ]

  module _ (a : Traced I) (begins : Begins I clients behind a) where
    abbrev s0 : Slots
    s0 = at_start ((a.cluster).waits)

    abbrev SlotsOf : Traced I → Slots
    SlotsOf t = slots_after s0 (t.items)

    record Inv (t : Traced I) : Type 0 where
      past : (t.cluster).past ≡ (a.cluster).past
      told : recoveries_are_told s0 (t.items) ≡ true
      agrees : (i : ℕ) → Agrees (i ≡ (a.cluster).past → ⊥) i (SlotsOf t) (journal_of I t i)

    its-place : (items : List TraceItem) → (slots_after s0 items).place ≡ place_of items
    its-place items = place-same s0 (at_start (λ i. false)) items refl

    starts : Inv a
    starts = record {
      past = refl;
      told = joins-told s0 (a.items) refl (begins.joins);
      agrees = λ i. record {
        members = let j = begins.joined i in events-members s0 i (behind i) (j.0) [] (journal_of I a i) (a.items) (j.2) (sym ((j.1).runs));
        waits = λ w. inl (joins-leave s0 (a.items) i (begins.joins) ∙ w);
        told = λ p w. sym (joins-leave s0 (a.items) i (begins.joins)) ∙ w;
      };
    }

    -- the machine's slots and the items'
    allows : (t : Traced I) → Inv t → Allows (slots_of I t) (SlotsOf t)
    allows t inv = record {
      members = λ i. (inv.agrees i).members;
      place = its-place (t.items);
      waits = λ i w.
          let b = both ((t.cluster).waits i) (not (is_recovering i (place_of (t.items)))) w in
          elim ((inv.agrees i).waits (b.0)) [
            | inl e ↦ e
            | inr e ↦ true-false (sym (ap (is_recovering i) (its-place (t.items))) ∙ e) (is-not (is_recovering i (place_of (t.items))) (b.1))
          ];
    }

    -- at most one item comes
    next-told : (t : Traced I) (next : List TraceItem) → Inv t → GoesOn I t next → (next ≡ t.items) ⊎ ((x : TraceItem) × (next ≡ t.items ++ x ∷ [])) → recoveries_are_told s0 next ≡ true
    next-told t next inv goes (inl same) = ap (recoveries_are_told s0) same ∙ inv.told
    next-told t next inv goes (inr (x, more)) =
        ap (recoveries_are_told s0) more
        ∙ told-on s0 (t.items) (x ∷ []) inv.told (and (may_come (SlotsOf t) x) true (may-come (slots_of I t) (SlotsOf t) x (allows t inv) may) refl)
      where
        one : (ys : List TraceItem) → t.items ++ ys ≡ t.items ++ x ∷ [] → recoveries_are_told (slots_of I t) ys ≡ true → may_come (slots_of I t) x ≡ true
        one [] e told = no-more (t.items) x (sym (append-nil (t.items)) ∙ e)
        one (y ∷ []) e told = ap (may_come (slots_of I t)) (sym (same-last (t.items) y x e)) ∙ (both (may_come (slots_of I t) y) true told).0
        one (y ∷ z ∷ zs) e told = absurd (too-long (t.items) y z zs x e)

        may : may_come (slots_of I t) x ≡ true
        may = one (goes.more) (sym (goes.said) ∙ more) (goes.told)

    next : (t u : Traced I) → Inv t → GoesOn I t (u.items) → TracedStep I clients behind t u → (u.cluster).past ≡ (t.cluster).past
        → ((i : ℕ) → (t.cluster).waits i ≡ true → (u.cluster).waits i ≡ false → (is_recovering i (place_of (t.items)) ≡ true) ⊎ (i ≡ (t.cluster).past)) → Inv u
    next t u inv goes step past ends = record {
      past = past ∙ inv.past;
      told = next-told t (u.items) inv goes (grows I 0 (behind 0) (journal_of I t 0) (journal_of I u 0) (t.items) (u.items) (step.journals 0));
      agrees = λ i. happens-agrees (i ≡ (a.cluster).past → ⊥) s0 i (behind i) (journal_of I t i) (journal_of I u i) (t.items) (u.items) (step.journals i)
          (λ w is. ap (is_recovering i) (its-place (u.items)) ∙ goes.through i w (sym (ap (is_recovering i) (its-place (t.items))) ∙ is))
          (λ p w f. elim (ends i w f) [
            | inl is ↦ quiet-on i s0 (t.items) (λ e. none-is e) (ap (is_recovering i) (its-place (t.items)) ∙ is)
            | inr e ↦ absurd (p (e ∙ inv.past))
          ])
          (inv.agrees i);
    }

    every : (t : Traced I) → Tellings I clients behind a t → Inv t
    every _ tellings.Nothing = starts
    every _ (AnEvent t u d event before told goes) =
        let so_far = every-run I clients behind a t begins before in
        let together = (every_cluster (Trees I) (a.cluster) (t.cluster) (begins.starts) (events-of I clients behind a t so_far)).0 in
        next t (traced_of I d u) (every t before) goes (steps I clients behind t u together (history-is I clients behind a t begins so_far) d event told)
        (past-same (t.cluster) d event) (ends-to-wait t u d event told)
    every _ (AnItem t x before may goes) =
        let so_far = every-run I clients behind a t begins before in
        next t (record t { items = t.items ++ x ∷ [] }) (every t before) goes (item-step I clients behind t x (history-is I clients behind a t begins so_far) may) refl (λ i w f. true-false w f)
    every _ (tellings.Lands t i h before may) = let inv = every t before in record {
      past = inv.past;
      told = inv.told;
      agrees = λ k. let g = inv.agrees k in record { members = g.members; waits = g.waits; told = g.told };
    }

pub recoveries-told : (I : Images) → RecoveriesAreTold I
recoveries-told I = record {
  items = λ clients behind a t begins run. (every I clients behind a begins t run).told;
  members = λ clients behind a t i begins run. ((every I clients behind a begins t run).agrees i).members;
  waits = λ clients behind a t i begins run waits. elim (((every I clients behind a begins t run).agrees i).waits waits) [
    | inl e ↦ inl e
    | inr e ↦ inr (sym (ap (is_recovering i) (its-place I clients behind a begins (t.items))) ∙ e)
  ];
  slots = λ clients behind a t i begins run here free. still-waits I clients behind a t i begins run here free;
  losses = λ clients behind a t i begins run acts. (told I clients behind a t begins (every-run I clients behind a t begins run) i).lost acts;
  fenced = λ clients behind a t i kept before after begins run is.
      let r = journal-events I clients behind a t begins (every-run I clients behind a t begins run) i in
      each-fenced I i behind (r.0) (r.1) (journal_of I t i) (t.items) (r.2) before after kept is;
}
  where
    still-waits : (I : Images) (clients : List Client) (behind : ℕ → ℕ → AcceptedHead) (a t : Traced I) (i : ℕ) → Begins I clients behind a → Tellings I clients behind a t
        → (i ≡ (t.cluster).past → ⊥) → (t.cluster).waits i ≡ false → (slots_after (at_start ((a.cluster).waits)) (t.items)).waits i ≡ false
    still-waits I clients behind a t i begins run here free =
        let inv = every I clients behind a begins t run in
        elim (cases_Bool ((slots_after (at_start ((a.cluster).waits)) (t.items)).waits i)) [
          | inl w ↦ true-false ((inv.agrees i).told (λ e. here (e ∙ sym inv.past)) w) free
          | inr f ↦ f
        ]

-- ---- a slot that waits since the start

none-front : (i p : ℕ) (xs ys : List TraceItem) → recovered_behind i p (xs ++ ys) ≡ None → recovered_behind i p xs ≡ None
none-front i p [] ys none = refl
none-front i p (trace.Recovered k r ∷ xs) ys none = by (k == i) none (none-front i (suc p) xs ys)
  where
    by : (b : Bool) → cond b (Some (suc p)) (recovered_behind i (suc p) (xs ++ ys)) ≡ None → (recovered_behind i (suc p) (xs ++ ys) ≡ None → recovered_behind i (suc p) xs ≡ None)
        → cond b (Some (suc p)) (recovered_behind i (suc p) xs) ≡ None
    by true e on = e
    by false e on = on e
none-front i p (x ∷ xs) ys none = none-front i (suc p) xs ys none

waits-on : (i p : ℕ) (s : Slots) (xs : List TraceItem) → recovered_behind i p xs ≡ None → s.waits i ≡ true → (slots_after s xs).waits i ≡ true
waits-on i p s [] none w = w
waits-on i p s (trace.Join k ∷ xs) none w = waits-on i (suc p) (after_item s (trace.Join k)) xs none w
waits-on i p s (trace.Crash k ∷ xs) none w = waits-on i (suc p) (after_item s (trace.Crash k)) xs none (by (i == k))
  where
    by : (b : Bool) → cond b true (s.waits i) ≡ true
    by true = refl
    by false = w
waits-on i p s (trace.Withdraw k before now ∷ xs) none w = waits-on i (suc p) (after_item s (trace.Withdraw k before now)) xs none (by (i == k))
  where
    by : (b : Bool) → cond b true (s.waits i) ≡ true
    by true = refl
    by false = w
waits-on i p s (trace.Recovered k r ∷ xs) none w = elim (eqb_tells k i) [
  | inl h ↦ absurd (let f : cond (k == i) (Some (suc p)) (recovered_behind i (suc p) xs) ≡ None = none in none-some (sym (ap (λ (b : Bool). cond b (Some (suc p)) (recovered_behind i (suc p) xs)) (h.0)) ∙ f))
  | inr h ↦ waits-on i (suc p) (after_item s (trace.Recovered k r)) xs (sym (ap (λ (b : Bool). cond b (Some (suc p)) (recovered_behind i (suc p) xs)) (h.0)) ∙ none)
      (ap (λ (b : Bool). cond b false (s.waits i)) (eqb-other i k (λ e. h.1 (sym e))) ∙ w)
]
  where
    none-some : {n : ℕ} → Some n ≡ None → ⊥
    none-some e = cc
waits-on i p s (trace.Lost k kept ∷ xs) none w = waits-on i (suc p) (after_item s (trace.Lost k kept)) xs none w
waits-on i p s (x ∷ xs) none w = waits-on i (suc p) (after_item s x) xs none w

joins-nothing : (i : ℕ) (xs : List TraceItem) → AreJoins xs → DoesNothing i xs
joins-nothing i [] joins = tt
joins-nothing i (trace.Join k ∷ xs) joins = joins-nothing i xs joins
joins-nothing i (x ∷ xs) joins = absurd joins

nothing-drop : (i n : ℕ) (xs : List TraceItem) → DoesNothing i xs → DoesNothing i (drop n xs)
nothing-drop i zero xs none = none
nothing-drop i (suc n) [] none = tt
nothing-drop i (suc n) (trace.Call k name number call reply ∷ xs) none = nothing-drop i n xs none.1
nothing-drop i (suc n) (trace.WriteHead k block sequence upto ∷ xs) none = nothing-drop i n xs none.1
nothing-drop i (suc n) (trace.WriteClean k block sequence upto ∷ xs) none = nothing-drop i n xs none.1
nothing-drop i (suc n) (x ∷ xs) none = nothing-drop i n xs none

-- while the slot waits the node neither calls nor writes a header
happens-nothing : (i : ℕ) (behind : ℕ → AcceptedHead) (j k : Journal) (items more : List TraceItem) → Happens i behind j items k more → j.waits ≡ true → DoesNothing i items → DoesNothing i more
happens-nothing i behind j _ items _ Rests w none = none
happens-nothing i behind j _ items _ (Does _ _ (journals.Says x o)) w none = none-on i items (x ∷ []) none (other-idle i x o)
happens-nothing i behind j _ items _ (Does _ _ (journals.WritesLog block loud)) w none = none-on i items (trace.WriteLog i block ∷ []) none tt
happens-nothing i behind j _ items _ (Does _ _ (journals.SaysRecovered r waits)) w none = none-on i items (trace.Recovered i r ∷ []) none tt
happens-nothing i behind j _ items _ (Does _ _ (journals.Answers name number call reply runs acts dirty)) w none = true-false w acts
happens-nothing i behind j _ items _ (Does _ _ (journals.Begins clean block upto runs acts loud alone)) w none = true-false w acts
happens-nothing i behind j _ items _ (Does _ _ (journals.BeginsLast clean block upto runs acts loud alone told)) w none = none
happens-nothing i behind j _ items _ (Does _ _ (journals.Replays r h waits who alone)) w none = none
happens-nothing i behind j _ items _ (Does _ _ (journals.ReplaysPast h waits who alone)) w none = none
happens-nothing i behind j _ items _ (Does _ _ (journals.Ends d may)) w none = none
happens-nothing i behind j _ items _ (Does _ _ (journals.Commits sequence upto runs acts loud flies named counted)) w none = none-on i items (trace.Commit i sequence upto ∷ []) none tt
happens-nothing i behind j _ items _ (Does _ _ (journals.Stops x is runs)) w none = none-on i items (x ∷ []) none (by x is)
  where
    by : (x : TraceItem) → IsEnd i x → DoesNothing i (x ∷ [])
    by (trace.Crash k) e = tt
    by (trace.Withdraw k before now) e = tt
    by x e = absurd e
happens-nothing i behind j _ items _ (Does _ _ (journals.IsFenced stopped unfenced resting there)) w none = none-on i items (trace.Fence i ∷ []) none tt
happens-nothing i behind j _ items _ (Does _ _ (journals.Joins stopped free alone there)) w none = none-on i items (trace.Join i ∷ []) none tt
happens-nothing i behind j _ items _ (Does _ _ (journals.Loses m kept waits some over)) w none = none-on i items (trace.Lost i kept ∷ []) none tt
happens-nothing i behind j _ items _ (Does _ _ (journals.IsRecovered waits none alone its-first)) w nothing = nothing

module _ (I : Images) (clients : List Client) (behind : ℕ → ℕ → AcceptedHead) (a : Traced I) (begins : Begins I clients behind a) (i : ℕ) (dirty : (a.cluster).waits i ≡ true) where
  start-waits : (t : Traced I) → Tellings I clients behind a t → (i ≡ (t.cluster).past → ⊥) → recovered_behind i 0 (t.items) ≡ None → (t.cluster).waits i ≡ true
  start-waits t run here none =
      let inv = every I clients behind a begins t run in
      (inv.agrees i).told (λ e. here (e ∙ sym inv.past)) (waits-on i 0 (at_start ((a.cluster).waits)) (t.items) none dirty)

  -- none stands in what was before
  was-none : (t u : Traced I) → TracedStep I clients behind t u → recovered_behind i 0 (u.items) ≡ None → recovered_behind i 0 (t.items) ≡ None
  was-none t u step none = by (grows I 0 (behind 0) (journal_of I t 0) (journal_of I u 0) (t.items) (u.items) (step.journals 0))
    where
      by : (u.items ≡ t.items) ⊎ ((x : TraceItem) × (u.items ≡ t.items ++ x ∷ [])) → recovered_behind i 0 (t.items) ≡ None
      by (inl same) = sym (ap (recovered_behind i 0) same) ∙ none
      by (inr (x, more)) = none-front i 0 (t.items) (x ∷ []) (sym (ap (recovered_behind i 0) more) ∙ none)

  start-nothing : (t : Traced I) → Tellings I clients behind a t → (i ≡ (t.cluster).past → ⊥) → recovered_behind i 0 (t.items) ≡ None → DoesNothing i (t.items)
  start-nothing _ tellings.Nothing here none = joins-nothing i (a.items) (begins.joins)
  start-nothing _ (AnEvent t u d event before told goes) here none =
      let so_far = every-run I clients behind a t begins before in
      let together = (every_cluster (Trees I) (a.cluster) (t.cluster) (begins.starts) (events-of I clients behind a t so_far)).0 in
      let step = steps I clients behind t u together (history-is I clients behind a t begins so_far) d event told in
      let there : i ≡ (t.cluster).past → ⊥ = λ e. here (e ∙ sym (past-same I clients behind (t.cluster) d event)) in
      let was = was-none t (traced_of I d u) step none in
      happens-nothing i (behind i) (journal_of I t i) (journal_of I (traced_of I d u) i) (t.items) (u.items) (step.journals i) (start-waits t before there was) (start-nothing t before there was)
  start-nothing _ (AnItem t x before may goes) here none =
      let so_far = every-run I clients behind a t begins before in
      let step = item-step I clients behind t x (history-is I clients behind a t begins so_far) may in
      let was = was-none t (record t { items = t.items ++ x ∷ [] }) step none in
      happens-nothing i (behind i) (journal_of I t i) (journal_of I t i) (t.items) (t.items ++ x ∷ []) (step.journals i) (start-waits t before here was) (start-nothing t before here was)
  start-nothing _ (tellings.Lands t k h before may) here none = start-nothing t before here none

pub start-slots-open : (I : Images) → StartSlotsStayOpen I
start-slots-open I clients behind a t i begins run here dirty none = (
  start-waits I clients behind a begins i dirty t run here none,
  inr (λ l is. nothing-drop i l.join (t.items) (start-nothing I clients behind a begins i dirty t run here none)),
)
