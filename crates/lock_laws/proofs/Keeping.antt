-- Each event keeps the invariant of a lock.
use Rattle.std.proofs.Common.{ℕ, ◌≡◌, ◌⊎◌, inl, inr, Bool, true, false, Option, None, Some, List, [], ◌∷◌, ◌++◌, refl, sym, ap, ◌∙◌, subst}
use Rattle.std.specs.Prelude.{◌==◌}
use Rattle.std.proofs.lemmas.Bool.{cases_eq, cases_Bool, cond-true, cond-false, eq-eqb}
use Rattle.std.proofs.lemmas.Bool.Decides.{eqb_tells}
use Rattle.lock_laws.specs.Lock.{State, Un, Sh, Df, Ex, goes, leq, Message, Report, End, Lowered, Asked, Node, eff, has_report, has_down, has_ask, InOrder, Ok, Said, Claim, Holds, Listed, Granted, Sent, Fine, Apart, Sound, at, Move, Asks, HearsReport, HearsEnd, HearsDown, HearsAsk, Receives, Drops, Lowers, TakesView, Stops, IsRecovered, Joins, anew, Step, Moves, Changes, Grants, StepKeeps, starting, StartsSound, ExAlone, Here, Later, NothingHeld}

-- ---- states

goes-sym : (a b : State) → goes a b ≡ true → goes b a ≡ true
goes-sym Un Un e = refl
goes-sym Un Sh e = refl
goes-sym Un Df e = refl
goes-sym Un Ex e = refl
goes-sym Sh Un e = refl
goes-sym Sh Sh e = refl
goes-sym Sh Df e = e
goes-sym Sh Ex e = e
goes-sym Df Un e = refl
goes-sym Df Sh e = e
goes-sym Df Df e = refl
goes-sym Df Ex e = e
goes-sym Ex Un e = refl
goes-sym Ex Sh e = e
goes-sym Ex Df e = e
goes-sym Ex Ex e = e

no-way : {A : Type 0} → false ≡ true → A
no-way e = absurd (let f : false ≡ true = e in cc)

goes-leq : (a c b : State) → leq a c ≡ true → goes c b ≡ true → goes a b ≡ true
goes-leq Un c b p q = refl
goes-leq Sh Un b p q = no-way p
goes-leq Sh Sh b p q = q
goes-leq Sh Df b p q = no-way p
goes-leq Sh Ex Un p q = refl
goes-leq Sh Ex Sh p q = refl
goes-leq Sh Ex Df p q = q
goes-leq Sh Ex Ex p q = q
goes-leq Df Un b p q = no-way p
goes-leq Df Sh b p q = no-way p
goes-leq Df Df b p q = q
goes-leq Df Ex Un p q = refl
goes-leq Df Ex Sh p q = q
goes-leq Df Ex Df p q = refl
goes-leq Df Ex Ex p q = q
goes-leq Ex Un b p q = no-way p
goes-leq Ex Sh b p q = no-way p
goes-leq Ex Df b p q = no-way p
goes-leq Ex Ex b p q = q

leq-refl : (a : State) → leq a a ≡ true
leq-refl Un = refl
leq-refl Sh = refl
leq-refl Df = refl
leq-refl Ex = refl

leq-trans : (a b c : State) → leq a b ≡ true → leq b c ≡ true → leq a c ≡ true
leq-trans Un b c p q = refl
leq-trans Sh Un c p q = no-way p
leq-trans Sh Sh c p q = q
leq-trans Sh Df c p q = no-way p
leq-trans Sh Ex Un p q = no-way q
leq-trans Sh Ex Sh p q = refl
leq-trans Sh Ex Df p q = no-way q
leq-trans Sh Ex Ex p q = refl
leq-trans Df Un c p q = no-way p
leq-trans Df Sh c p q = no-way p
leq-trans Df Df c p q = q
leq-trans Df Ex Un p q = no-way q
leq-trans Df Ex Sh p q = no-way q
leq-trans Df Ex Df p q = refl
leq-trans Df Ex Ex p q = refl
leq-trans Ex Un c p q = no-way p
leq-trans Ex Sh c p q = no-way p
leq-trans Ex Df c p q = no-way p
leq-trans Ex Ex c p q = q

true-false : {b : Bool} → b ≡ true → b ≡ false → ⊥
true-false e f = cc

inside : {x y : State} → Some x ≡ Some y → x ≡ y
inside e = cc

none-some : {o : Option State} {x : State} → o ≡ None → o ≡ Some x → ⊥
none-some e f = cc

-- ---- messages

report-ask : (q : List Message) (s : State) → has_report (q ++ (Asked s ∷ [])) ≡ has_report q
report-ask [] s = refl
report-ask (Report t ∷ q) s = refl
report-ask (End ∷ q) s = report-ask q s
report-ask (Lowered t ∷ q) s = report-ask q s
report-ask (Asked t ∷ q) s = report-ask q s

report-down : (q : List Message) (s : State) → has_report (q ++ (Lowered s ∷ [])) ≡ has_report q
report-down [] s = refl
report-down (Report t ∷ q) s = refl
report-down (End ∷ q) s = report-down q s
report-down (Lowered t ∷ q) s = report-down q s
report-down (Asked t ∷ q) s = report-down q s

ask-down : (q : List Message) (s : State) → has_ask (q ++ (Lowered s ∷ [])) ≡ has_ask q
ask-down [] s = refl
ask-down (Report t ∷ q) s = ask-down q s
ask-down (End ∷ q) s = ask-down q s
ask-down (Lowered t ∷ q) s = ask-down q s
ask-down (Asked t ∷ q) s = refl

in_order-ask : (q : List Message) (s : State) → InOrder q → has_ask q ≡ false → InOrder (q ++ (Asked s ∷ []))
in_order-ask [] s p no_ask = (refl, refl, refl, tt)
in_order-ask (Report t ∷ q) s p no_ask = in_order-ask q s p no_ask
in_order-ask (End ∷ q) s p no_ask = (report-ask q s ∙ p.0, in_order-ask q s (p.1) no_ask)
in_order-ask (Lowered t ∷ q) s p no_ask = (report-ask q s ∙ p.0, in_order-ask q s (p.1) no_ask)
in_order-ask (Asked t ∷ q) s p no_ask = absurd (true-false refl no_ask)

in_order-down : (q : List Message) (s : State) → InOrder q → has_ask q ≡ false → InOrder (q ++ (Lowered s ∷ []))
in_order-down [] s p no_ask = (refl, tt)
in_order-down (Report t ∷ q) s p no_ask = in_order-down q s p no_ask
in_order-down (End ∷ q) s p no_ask = (report-down q s ∙ p.0, in_order-down q s (p.1) no_ask)
in_order-down (Lowered t ∷ q) s p no_ask = (report-down q s ∙ p.0, in_order-down q s (p.1) no_ask)
in_order-down (Asked t ∷ q) s p no_ask = absurd (true-false refl no_ask)

said-append : (q r : List Message) (a : State) → Said (q ++ r) a → Said q a ⊎ Said r a
said-append [] r a p = inr p
said-append (Report s ∷ q) r a (inl e) = inl (inl e)
said-append (Report s ∷ q) r a (inr p) = elim (said-append q r a p) [ inl x ↦ inl (inr x) | inr y ↦ inr y ]
said-append (Lowered s ∷ q) r a (inl e) = inl (inl e)
said-append (Lowered s ∷ q) r a (inr p) = elim (said-append q r a p) [ inl x ↦ inl (inr x) | inr y ↦ inr y ]
said-append (End ∷ q) r a p = said-append q r a p
said-append (Asked s ∷ q) r a p = said-append q r a p

ok-ask : (h : State) (g : Option State) (t s : State) (q : List Message) → Ok h g t q → Ok h g t (q ++ (Asked s ∷ []))
ok-ask h g t s [] p = p
ok-ask h g t s (Report u ∷ q) p = ok-ask h g u s q p
ok-ask h g t s (End ∷ q) p = ok-ask h g t s q p
ok-ask h g t s (Lowered u ∷ q) p = (p.0, ok-ask h g u s q (p.1))
ok-ask h g t s (Asked u ∷ q) p = ok-ask h g t s q p

ok-down : (h : State) (g : Option State) (t s : State) (q : List Message) → g ≡ None → leq s h ≡ true → Ok h g t q → Ok s g t (q ++ (Lowered s ∷ []))
ok-down h g t s [] none low p = (leq-trans s h t low (p.0), (leq-refl s, λ a e. absurd (none-some none e)))
ok-down h g t s (Report u ∷ q) none low p = ok-down h g u s q none low p
ok-down h g t s (End ∷ q) none low p = ok-down h g t s q none low p
ok-down h g t s (Lowered u ∷ q) none low p = (p.0, ok-down h g u s q none low (p.1))
ok-down h g t s (Asked u ∷ q) none low p = ok-down h g t s q none low p

-- less is held, less is under way
ok-less : (h h' : State) (g g' : Option State) (t : State) (q : List Message) → ((t : State) → leq h t ≡ true → ((s : State) → g ≡ Some s → leq s t ≡ true) → leq h' t ≡ true)
    → ((s : State) → g' ≡ Some s → g ≡ Some s) → Ok h g t q → Ok h' g' t q
ok-less h h' g g' t [] held under p = (held t (p.0) (p.1), λ s e. p.1 s (under s e))
ok-less h h' g g' t (Report u ∷ q) held under p = ok-less h h' g g' u q held under p
ok-less h h' g g' t (End ∷ q) held under p = ok-less h h' g g' t q held under p
ok-less h h' g g' t (Lowered u ∷ q) held under p = (p.0, ok-less h h' g g' u q held under (p.1))
ok-less h h' g g' t (Asked u ∷ q) held under p = ok-less h h' g g' t q held under p

ok-granted : (h : State) (s : State) (q : List Message) → has_report q ≡ false → has_down q ≡ false → h ≡ Un → Ok h (Some s) s q
ok-granted h s [] r d un = (subst (λ z. leq z s ≡ true) (sym un) refl, λ a e. subst (λ z. leq z s ≡ true) (inside e) (leq-refl s))
ok-granted h s (Report u ∷ q) r d un = absurd (true-false refl r)
ok-granted h s (End ∷ q) r d un = ok-granted h s q r d un
ok-granted h s (Lowered u ∷ q) r d un = absurd (true-false refl d)
ok-granted h s (Asked u ∷ q) r d un = ok-granted h s q r d un

pub dominated : (h : State) (g : Option State) (t : State) (q : List Message) → has_report q ≡ false → Ok h g t q
    → (leq h t ≡ true) × ((s : State) → g ≡ Some s → leq s t ≡ true) × ((a : State) → Said q a → leq a t ≡ true)
dominated h g t [] r p = (p.0, p.1, λ a x. absurd x)
dominated h g t (Report u ∷ q) r p = absurd (true-false refl r)
dominated h g t (End ∷ q) r p = dominated h g t q r p
dominated h g t (Lowered u ∷ q) r p = let d = dominated h g u q r (p.1) in
    (leq-trans h u t (d.0) (p.0), (λ s e. leq-trans s u t (d.1 s e) (p.0)), λ a x. below d a x)
  where
    below : (leq h u ≡ true) × ((s : State) → g ≡ Some s → leq s u ≡ true) × ((a : State) → Said q a → leq a u ≡ true) → (a : State) → (u ≡ a) ⊎ Said q a → leq a t ≡ true
    below d a (inl e) = subst (λ z. leq z t ≡ true) e (p.0)
    below d a (inr x) = leq-trans a u t (d.2 a x) (p.0)
dominated h g t (Asked u ∷ q) r p = dominated h g t q r p

-- ---- moves of one node

Weaker : Node → Node → Type 0
Weaker n' n = (a : State) → Claim n' a → (b : State) × Claim n b × (leq a b ≡ true)

eff-runs : (n : Node) → n.waits ≡ false → eff n ≡ n.state
eff-runs n e = cond-false _ _ _ e

eff-waits : (n : Node) → n.waits ≡ true → eff n ≡ Un
eff-waits n e = cond-true _ _ _ e

no-un : {A : Type 0} (n : Node) → n.waits ≡ false → eff n ≡ Un → (n.state ≡ Un → ⊥) → A
no-un n runs un not_un = absurd (not_un (sym (eff-runs n runs) ∙ un))

-- what the first message taken leaves in order
rest-order : (m : Message) (q : List Message) → InOrder (m ∷ q) → InOrder q
rest-order (Report s) q p = p
rest-order (End) q p = p.1
rest-order (Lowered s) q p = p.1
rest-order (Asked s) q p = p.3

ask-rest : (m : Message) (q : List Message) → has_ask q ≡ true → has_ask (m ∷ q) ≡ true
ask-rest (Report s) q e = e
ask-rest (End) q e = e
ask-rest (Lowered s) q e = e
ask-rest (Asked s) q e = refl

ask-none : (m : Message) (q : List Message) → has_ask (m ∷ q) ≡ false → has_ask q ≡ false
ask-none (Report s) q e = e
ask-none (End) q e = e
ask-none (Lowered s) q e = e
ask-none (Asked s) q e = absurd (true-false refl e)

down-none : (m : Message) (q : List Message) → has_down (m ∷ q) ≡ false → has_down q ≡ false
down-none (Report s) q e = e
down-none (End) q e = e
down-none (Lowered s) q e = absurd (true-false refl e)
down-none (Asked s) q e = e

report-none : (m : Message) (q : List Message) → has_report (m ∷ q) ≡ false → has_report q ≡ false
report-none (Report s) q e = absurd (true-false refl e)
report-none (End) q e = e
report-none (Lowered s) q e = e
report-none (Asked s) q e = e

said-rest : (m : Message) (q : List Message) (a : State) → Said q a → Said (m ∷ q) a
said-rest (Report s) q a x = inr x
said-rest (End) q a x = x
said-rest (Lowered s) q a x = inr x
said-rest (Asked s) q a x = x

cons-nil : {m : Message} {q : List Message} {A : Type 0} → m ∷ q ≡ [] → A
cons-nil e = absurd cc

-- the master takes a message that changes its table, or tells it that the reports have ended
heard-message : (n : Node) (m : Message) (q : List Message) (table : State) (heard : Bool) → Fine n → n.up ≡ m ∷ q
    → ((h : State) (g : Option State) → Ok h g (n.table) (m ∷ q) → Ok h g table q)
    → (heard ≡ true → has_report q ≡ false) → Fine (record n { table = table; heard = heard; up = q })
heard-message n m q table heard f e ok ended = record {
  ok = λ t. ok (eff n) (n.down) (subst (Ok (eff n) (n.down) (n.table)) e (f.ok t));
  bare = λ t. cons-nil (sym e ∙ (f.bare t).0);
  heard = ended;
  in_order = rest-order m q (subst InOrder e (f.in_order));
  outside = f.outside;
  member = f.member;
  stopped = f.stopped;
  asking = λ a. f.asking (ap has_ask e ∙ ask-rest m q a);
  wanting = λ s w. (let x = f.wanting s w in (down-none m q (sym (ap has_down e) ∙ x.0), ask-none m q (sym (ap has_ask e) ∙ x.1), x.2, x.3));
  granted = λ s w. (let x = f.granted s w in (down-none m q (sym (ap has_down e) ∙ x.0), ask-none m q (sym (ap has_ask e) ∙ x.1), x.2, x.3));
  idle = λ a r. (let x = f.idle a r in (ask-none m q (sym (ap has_ask e) ∙ x.0), x.1, x.2));
  asked = f.asked;
}

move_fine : (n n' : Node) → Move n n' → Fine n → Fine n'
move_fine n _ (Asks s member fresh taken runs un idle) f = record {
  ok = λ t. ok-ask (eff n) (n.down) (n.table) s (n.up) (f.ok t);
  bare = λ t. absurd (true-false taken t);
  heard = λ h. report-ask (n.up) s ∙ f.heard h;
  in_order = in_order-ask (n.up) s (f.in_order) (f.idle idle fresh).0;
  outside = f.outside;
  member = f.member;
  stopped = f.stopped;
  asking = λ a. (eff-runs n runs ∙ un, (f.idle idle fresh).2, (f.idle idle fresh).1);
  wanting = λ a w. absurd (none-some (f.idle idle fresh).1 w);
  granted = λ a w. absurd (none-some (f.idle idle fresh).2 w);
  idle = λ a r. absurd (true-false refl a);
  asked = λ a. eff-runs n runs ∙ un;
}
move_fine n _ (HearsReport s q e) f = heard-message n (Report s) q s (n.heard) f e (λ h g p. p) (λ h. absurd (true-false refl (sym (ap has_report e) ∙ f.heard h)))
move_fine n _ (HearsEnd q e) f = heard-message n End q (n.table) true f e (λ h g p. p) (λ h. (subst InOrder e (f.in_order)).0)
move_fine n _ (HearsDown s q e) f = heard-message n (Lowered s) q s (n.heard) f e (λ h g p. p.1) (λ h. sym (ap has_report e) ∙ f.heard h)
move_fine n _ (HearsAsk s q e) f = record {
  ok = λ t. subst (Ok (eff n) (n.down) (n.table)) e (f.ok t);
  bare = λ t. cons-nil (sym e ∙ (f.bare t).0);
  heard = λ h. sym (ap has_report e) ∙ f.heard h;
  in_order = (subst InOrder e (f.in_order)).3;
  outside = f.outside;
  member = f.member;
  stopped = f.stopped;
  asking = λ a. absurd (true-false a no_more);
  wanting = λ a w. ((subst InOrder e (f.in_order)).1, no_more, (f.asking here).0, (f.asking here).1);
  granted = λ a w. absurd (none-some (f.asking here).1 w);
  idle = λ a r. absurd (true-false here (f.idle a r).0);
  asked = f.asked;
}
  where
    here : has_ask (n.up) ≡ true
    here = ap has_ask e

    no_more : has_ask q ≡ false
    no_more = (subst InOrder e (f.in_order)).2
move_fine n _ (Receives s e member fresh runs) f = record {
  ok = λ t. ok-less (eff n) (eff (record n { state = s; asked = false; down = None })) (n.down) None (n.table) (n.up)
      (λ t held under. subst (λ z. leq z t ≡ true) (sym now) (under s e)) (λ a none. absurd (none-some refl none)) (f.ok t);
  bare = λ t. absurd (none-some (f.bare t).1 e);
  heard = f.heard;
  in_order = f.in_order;
  outside = λ r. absurd (none-some (f.bare (f.outside r).1).1 e);
  member = f.member;
  stopped = λ out. absurd (true-false member out);
  asking = λ a. absurd (true-false a (f.granted s e).1);
  wanting = λ a w. absurd (none-some (f.granted s e).3 w);
  granted = λ a w. absurd (none-some refl w);
  idle = λ a r. ((f.granted s e).1, (f.granted s e).3, refl);
  asked = λ a. absurd (true-false a refl);
}
  where
    now : eff (record n { state = s; asked = false; down = None }) ≡ s
    now = cond-false _ _ _ runs
move_fine n _ (Drops s e) f = record {
  ok = λ t. ok-less (eff n) (eff n) (n.down) None (n.table) (n.up) (λ t held under. held) (λ a none. absurd (none-some refl none)) (f.ok t);
  bare = λ t. (let b = f.bare t in (b.0, refl, b.2, b.3));
  heard = f.heard;
  in_order = f.in_order;
  outside = f.outside;
  member = f.member;
  stopped = f.stopped;
  asking = λ a. (let x = f.asking a in (x.0, refl, x.2));
  wanting = λ a w. (let x = f.wanting a w in (x.0, x.1, x.2, refl));
  granted = λ a w. absurd (none-some refl w);
  idle = λ a r. (let x = f.idle a r in (x.0, x.1, refl));
  asked = f.asked;
}
move_fine n _ (Lowers s member fresh taken runs low held) f = record {
  ok = λ t. subst (λ h. Ok h (n.down) (n.table) (n.up ++ (Lowered s ∷ []))) (sym now)
      (ok-down (eff n) (n.down) (n.table) s (n.up) (quiet).2 (subst (λ z. leq s z ≡ true) (sym (eff-runs n runs)) low) (f.ok t));
  bare = λ t. absurd (true-false taken t);
  heard = λ h. report-down (n.up) s ∙ f.heard h;
  in_order = in_order-down (n.up) s (f.in_order) (quiet).0;
  outside = λ r. absurd (true-false taken (f.outside r).1);
  member = f.member;
  stopped = λ out. absurd (true-false member out);
  asking = λ a. absurd (true-false (sym (ask-down (n.up) s) ∙ a) (quiet).0);
  wanting = λ a w. absurd (none-some (quiet).1 w);
  granted = λ a w. absurd (none-some (quiet).2 w);
  idle = λ a r. (ask-down (n.up) s ∙ (quiet).0, (quiet).1, (quiet).2);
  asked = λ a. absurd (true-false a not_asked);
}
  where
    now : eff (record n { state = s; up = n.up ++ (Lowered s ∷ []) }) ≡ s
    now = cond-false _ _ _ runs

    not_asked : n.asked ≡ false
    not_asked = elim (cases_Bool (n.asked)) [ inl yes_asked ↦ no-un n runs (f.asked yes_asked) held | inr idle ↦ idle ]

    quiet : (has_ask (n.up) ≡ false) × (n.wants ≡ None) × (n.down ≡ None)
    quiet = f.idle not_asked fresh
move_fine n _ (TakesView member roll taken) f = record {
  ok = λ t. (leq-refl (eff n), λ a e. absurd (none-some (f.bare taken).1 e));
  bare = λ t. absurd (true-false refl t);
  heard = λ h. absurd (true-false h (f.bare taken).3);
  in_order = (refl, tt);
  outside = λ r. absurd (true-false roll r);
  member = f.member;
  stopped = f.stopped;
  asking = λ a. absurd (true-false a refl);
  wanting = λ a w. absurd (none-some (f.bare taken).2 w);
  granted = λ a w. absurd (none-some (f.bare taken).1 w);
  idle = λ a r. (refl, (f.bare taken).2, (f.bare taken).1);
  asked = λ a. absurd (true-false a refl);
}
move_fine n _ Stops f = record {
  ok = λ t. ok-less (eff n) Un (n.down) (n.down) (n.table) (n.up) (λ t held under. refl) (λ a e. e) (f.ok t);
  bare = f.bare;
  heard = f.heard;
  in_order = f.in_order;
  outside = λ r. (inl refl, (f.outside r).1);
  member = λ m. absurd (true-false m refl);
  stopped = λ out. inl refl;
  asking = λ a. (let x = f.asking a in (refl, x.1, x.2));
  wanting = λ a w. (let x = f.wanting a w in (x.0, x.1, refl, x.3));
  granted = λ a w. (let x = f.granted a w in (x.0, x.1, refl, x.3));
  idle = f.idle;
  asked = λ a. refl;
}
move_fine n _ (IsRecovered waits) f = record {
  ok = λ t. ok-less (eff n) Un (n.down) (n.down) (n.table) (n.up) (λ t held under. refl) (λ a e. e) (f.ok t);
  bare = f.bare;
  heard = f.heard;
  in_order = f.in_order;
  outside = λ r. (inr refl, (f.outside r).1);
  member = f.member;
  stopped = λ out. inr refl;
  asking = λ a. (let x = f.asking a in (refl, x.1, x.2));
  wanting = λ a w. (let x = f.wanting a w in (x.0, x.1, refl, x.3));
  granted = λ a w. (let x = f.granted a w in (x.0, x.1, refl, x.3));
  idle = f.idle;
  asked = λ a. refl;
}
move_fine n _ (Joins out) f = record {
  ok = f.ok;
  bare = f.bare;
  heard = f.heard;
  in_order = f.in_order;
  outside = f.outside;
  member = λ m r. absurd (true-false refl r);
  stopped = λ o. absurd (true-false refl o);
  asking = f.asking;
  wanting = f.wanting;
  granted = f.granted;
  idle = λ a r. absurd (true-false refl r);
  asked = λ a. absurd (true-false a refl);
}

same-claim : (n : Node) (a : State) → Claim n a → (b : State) × Claim n b × (leq a b ≡ true)
same-claim n a x = (a, x, leq-refl a)

move_weaker : (n n' : Node) → Move n n' → Fine n → (a : State) → Claim n' a → (b : State) × Claim n b × (leq a b ≡ true)
move_weaker n _ (Asks s member fresh taken runs un idle) f _ Holds = same-claim n _ Holds
move_weaker n _ (Asks s member fresh taken runs un idle) f _ Listed = same-claim n _ Listed
move_weaker n _ (Asks s member fresh taken runs un idle) f a (Granted _ e) = same-claim n a (Granted a e)
move_weaker n _ (Asks s member fresh taken runs un idle) f a (Sent _ x) = elim (said-append (n.up) (Asked s ∷ []) a x) [ inl old ↦ same-claim n a (Sent a old) | inr new ↦ absurd new ]
move_weaker n _ (HearsReport s q e) f _ Holds = same-claim n _ Holds
move_weaker n _ (HearsReport s q e) f _ Listed = same-claim n s (Sent s (subst (λ z. Said z s) (sym e) (inl refl)))
move_weaker n _ (HearsReport s q e) f a (Granted _ g) = same-claim n a (Granted a g)
move_weaker n _ (HearsReport s q e) f a (Sent _ x) = same-claim n a (Sent a (subst (λ z. Said z a) (sym e) (inr x)))
move_weaker n _ (HearsEnd q e) f _ Holds = same-claim n _ Holds
move_weaker n _ (HearsEnd q e) f _ Listed = same-claim n _ Listed
move_weaker n _ (HearsEnd q e) f a (Granted _ g) = same-claim n a (Granted a g)
move_weaker n _ (HearsEnd q e) f a (Sent _ x) = same-claim n a (Sent a (subst (λ z. Said z a) (sym e) x))
move_weaker n _ (HearsDown s q e) f _ Holds = same-claim n _ Holds
move_weaker n _ (HearsDown s q e) f _ Listed = same-claim n s (Sent s (subst (λ z. Said z s) (sym e) (inl refl)))
move_weaker n _ (HearsDown s q e) f a (Granted _ g) = same-claim n a (Granted a g)
move_weaker n _ (HearsDown s q e) f a (Sent _ x) = same-claim n a (Sent a (subst (λ z. Said z a) (sym e) (inr x)))
move_weaker n _ (HearsAsk s q e) f _ Holds = same-claim n _ Holds
move_weaker n _ (HearsAsk s q e) f _ Listed = same-claim n _ Listed
move_weaker n _ (HearsAsk s q e) f a (Granted _ g) = same-claim n a (Granted a g)
move_weaker n _ (HearsAsk s q e) f a (Sent _ x) = same-claim n a (Sent a (subst (λ z. Said z a) (sym e) x))
move_weaker n _ (Receives s e member fresh runs) f _ Holds = same-claim n s (Granted s e)
move_weaker n _ (Receives s e member fresh runs) f _ Listed = same-claim n _ Listed
move_weaker n _ (Receives s e member fresh runs) f a (Granted _ g) = absurd (none-some refl g)
move_weaker n _ (Receives s e member fresh runs) f a (Sent _ x) = same-claim n a (Sent a x)
move_weaker n _ (Drops s e) f _ Holds = same-claim n _ Holds
move_weaker n _ (Drops s e) f _ Listed = same-claim n _ Listed
move_weaker n _ (Drops s e) f a (Granted _ g) = absurd (none-some refl g)
move_weaker n _ (Drops s e) f a (Sent _ x) = same-claim n a (Sent a x)
move_weaker n _ (Lowers s member fresh taken runs low held) f _ Holds = (n.state, Holds, low)
move_weaker n _ (Lowers s member fresh taken runs low held) f _ Listed = same-claim n _ Listed
move_weaker n _ (Lowers s member fresh taken runs low held) f a (Granted _ g) = same-claim n a (Granted a g)
move_weaker n _ (Lowers s member fresh taken runs low held) f a (Sent _ x) = elim (said-append (n.up) (Lowered s ∷ []) a x) [
  | inl old ↦ same-claim n a (Sent a old)
  | inr new ↦ elim new [ inl e ↦ (n.state, Holds, subst (λ z. leq z (n.state) ≡ true) e low) | inr none ↦ absurd none ]
]
move_weaker n _ (TakesView member roll taken) f _ Holds = same-claim n _ Holds
move_weaker n _ (TakesView member roll taken) f _ Listed = same-claim n _ Listed
move_weaker n _ (TakesView member roll taken) f a (Granted _ g) = same-claim n a (Granted a g)
move_weaker n _ (TakesView member roll taken) f a (Sent _ x) = elim x [
  | inl e ↦ (
    n.state,
    Holds,
    subst (λ z. leq z (n.state) ≡ true) e (elim (cases_Bool (n.waits)) [
      | inl w ↦ subst (λ z. leq z (n.state) ≡ true) (sym (eff-waits n w)) refl
      | inr w ↦ subst (λ z. leq z (n.state) ≡ true) (sym (eff-runs n w)) (leq-refl (n.state))
    ]),
  )
  | inr none ↦ absurd none
]
move_weaker n _ Stops f _ Holds = same-claim n _ Holds
move_weaker n _ Stops f _ Listed = same-claim n _ Listed
move_weaker n _ Stops f a (Granted _ g) = same-claim n a (Granted a g)
move_weaker n _ Stops f a (Sent _ x) = same-claim n a (Sent a x)
move_weaker n _ (IsRecovered waits) f _ Holds = (n.state, Holds, refl)
move_weaker n _ (IsRecovered waits) f _ Listed = same-claim n _ Listed
move_weaker n _ (IsRecovered waits) f a (Granted _ g) = same-claim n a (Granted a g)
move_weaker n _ (IsRecovered waits) f a (Sent _ x) = same-claim n a (Sent a x)
move_weaker n _ (Joins out) f _ Holds = same-claim n _ Holds
move_weaker n _ (Joins out) f _ Listed = same-claim n _ Listed
move_weaker n _ (Joins out) f a (Granted _ g) = same-claim n a (Granted a g)
move_weaker n _ (Joins out) f a (Sent _ x) = same-claim n a (Sent a x)

-- ---- a new view

anew_fine : (n : Node) → Fine n → Fine (anew n)
anew_fine n f = record {
  ok = λ t. absurd (true-false t refl);
  bare = λ t. (refl, refl, refl, refl);
  heard = λ h. refl;
  in_order = tt;
  outside = λ r. (f.stopped r, refl);
  member = λ m r. m;
  stopped = f.stopped;
  asking = λ a. absurd (true-false a refl);
  wanting = λ a w. absurd (none-some refl w);
  granted = λ a w. absurd (none-some refl w);
  idle = λ a r. (refl, refl, refl);
  asked = f.asked;
}

anew_weaker : (n : Node) (a : State) → Claim (anew n) a → (b : State) × Claim n b × (leq a b ≡ true)
anew_weaker n _ Holds = same-claim n _ Holds
anew_weaker n _ Listed = (n.state, Holds, refl)
anew_weaker n a (Granted _ g) = absurd (none-some refl g)
anew_weaker n a (Sent _ x) = absurd x

-- ---- all nodes

apart-weaker : (n n' m m' : Node) → ((a : State) → Claim n' a → (b : State) × Claim n b × (leq a b ≡ true)) → ((a : State) → Claim m' a → (b : State) × Claim m b × (leq a b ≡ true))
    → Apart n m → Apart n' m'
apart-weaker n n' m m' p q apart a b x y =
    let u = p a x in let v = q b y in
    goes-leq a (u.0) b (u.2) (goes-sym b (u.0) (goes-leq b (v.0) (u.0) (v.2) (goes-sym (u.0) (v.0) (apart (u.0) (v.0) (u.1) (v.1)))))

eqb-false : (i j : ℕ) → (i ≡ j → ⊥) → (i == j) ≡ false
eqb-false i j ne = elim (eqb_tells i j) [ inl h ↦ absurd (ne h.1) | inr h ↦ h.0 ]

at-cases : {A : Type 0} (P : A → Type 0) (f : ℕ → A) (j : ℕ) (x : A) (i : ℕ) → (i ≡ j → P x) → ((i ≡ j → ⊥) → P (f i)) → P (at f j x i)
at-cases P f j x i here there = elim (cases_eq i j) [
  | inl e ↦ subst P (sym (cond-true (i == j) x (f i) (eq-eqb i j e))) (here e)
  | inr ne ↦ subst P (sym (cond-false (i == j) x (f i) (eqb-false i j ne))) (there ne)
]

moves : (l : ℕ → Node) (k : ℕ) (n : Node) → Fine n → ((i : ℕ) → (i ≡ k → ⊥) → Apart n (l i)) → Sound l → Sound (at l k n)
moves l k n fine apart s = record {
  fine = λ i. at-cases Fine l k n i (λ e. fine) (λ ne. s.fine i);
  apart = λ i m ne. at-cases (λ x. Apart x (at l k n m)) l k n i
      (λ e. at-cases (λ y. Apart n y) l k n m (λ e'. absurd (ne (e ∙ sym e'))) (λ nm. apart m nm))
      (λ ni. at-cases (λ y. Apart (l i) y) l k n m (λ e'. (λ a b x y. goes-sym b a (apart i ni b a y x))) (λ nm. s.apart i m ne));
}

-- what a master that may grant has in its table is at least what is said anywhere
under-table : (n : Node) → Fine n → (n.roll ≡ true → n.heard ≡ true) → n.waits ≡ false → (s : State) → goes s (n.table) ≡ true → (b : State) → Claim n b → goes s b ≡ true
under-table n f ready runs s goes_table b claim = elim (cases_Bool (n.taken)) [
  | inl taken ↦ of-taken taken b claim
  | inr untaken ↦ of-untaken untaken b claim
]
  where
    less : (b : State) → leq b (n.table) ≡ true → goes s b ≡ true
    less b low = goes-sym b s (goes-leq b (n.table) s low (goes-sym s (n.table) goes_table))

    no_report : n.taken ≡ true → has_report (n.up) ≡ false
    no_report taken = elim (cases_Bool (n.roll)) [ inl roll ↦ f.heard (ready roll) | inr out ↦ absurd (true-false taken (f.outside out).1) ]

    of-taken : n.taken ≡ true → (b : State) → Claim n b → goes s b ≡ true
    of-taken taken _ Holds = less (n.state) (subst (λ z. leq z (n.table) ≡ true) (eff-runs n runs) (dominated (eff n) (n.down) (n.table) (n.up) (no_report taken) (f.ok taken)).0)
    of-taken taken _ Listed = goes_table
    of-taken taken b (Granted _ g) = less b ((dominated (eff n) (n.down) (n.table) (n.up) (no_report taken) (f.ok taken)).1 b g)
    of-taken taken b (Sent _ x) = less b ((dominated (eff n) (n.down) (n.table) (n.up) (no_report taken) (f.ok taken)).2 b x)

    is-un : n.taken ≡ false → n.state ≡ Un
    is-un untaken = elim (cases_Bool (n.roll)) [
      | inl roll ↦ absurd (true-false (ready roll) (f.bare untaken).3)
      | inr out ↦ elim (f.outside out).0 [ inl w ↦ absurd (true-false w runs) | inr un ↦ un ]
    ]

    of-untaken : n.taken ≡ false → (b : State) → Claim n b → goes s b ≡ true
    of-untaken untaken _ Holds = subst (λ z. goes s z ≡ true) (sym (is-un untaken)) (goes-sym Un s refl)
    of-untaken untaken _ Listed = goes_table
    of-untaken untaken b (Granted _ g) = absurd (none-some (f.bare untaken).1 g)
    of-untaken untaken b (Sent _ x) = absurd (subst (λ z. Said z b) (f.bare untaken).0 x)

granted_fine : (n : Node) (s : State) → Fine n → (n.roll ≡ true → n.heard ≡ true) → n.wants ≡ Some s → Fine (record n { table = s; wants = None; down = Some s })
granted_fine n s f ready w = record {
  ok = λ t. ok-granted (eff n) s (n.up) (no_report t) (f.wanting s w).0 (f.wanting s w).2;
  bare = λ t. absurd (none-some (f.bare t).2 w);
  heard = f.heard;
  in_order = f.in_order;
  outside = f.outside;
  member = f.member;
  stopped = f.stopped;
  asking = λ a. absurd (true-false a (f.wanting s w).1);
  wanting = λ a x. absurd (none-some refl x);
  granted = λ a x. ((f.wanting s w).0, (f.wanting s w).1, (f.wanting s w).2, refl);
  idle = λ a r. absurd (none-some (f.idle a r).1 w);
  asked = f.asked;
}
  where
    no_report : n.taken ≡ true → has_report (n.up) ≡ false
    no_report taken = elim (cases_Bool (n.roll)) [ inl roll ↦ f.heard (ready roll) | inr out ↦ absurd (true-false taken (f.outside out).1) ]

granted_apart : (n m : Node) (s : State) → Apart n m → ((b : State) → Claim m b → goes s b ≡ true) → Apart (record n { table = s; wants = None; down = Some s }) m
granted_apart n m s apart new _ b Holds y = apart _ b Holds y
granted_apart n m s apart new _ b Listed y = new b y
granted_apart n m s apart new a b (Granted _ g) y = subst (λ z. goes z b ≡ true) (inside g) (new b y)
granted_apart n m s apart new a b (Sent _ x) y = apart a b (Sent a x) y

sound_step : (l l' : ℕ → Node) → Step l l' → Sound l → Sound l'
sound_step l _ (Moves k n move) s = moves l k n (move_fine (l k) n move (s.fine k))
    (λ i ne. apart-weaker (l k) n (l i) (l i) (move_weaker (l k) n move (s.fine k)) (same-claim (l i)) (s.apart k i (λ e. ne (sym e)))) s
sound_step l _ Changes s = record {
  fine = λ k. anew_fine (l k) (s.fine k);
  apart = λ i k ne. apart-weaker (l i) (anew (l i)) (l k) (anew (l k)) (anew_weaker (l i)) (anew_weaker (l k)) (s.apart i k ne);
}
sound_step l _ (Grants k t ready runs wants goes_all) s = moves l k (record (l k) { table = t; wants = None; down = Some t })
    (granted_fine (l k) t (s.fine k) (ready k) wants)
    (λ i ne. granted_apart (l k) (l i) t (s.apart k i (λ e. ne (sym e))) (under-table (l i) (s.fine i) (ready i) (runs i) t (goes_all i ne))) s

pub step_keeps : StepKeeps
step_keeps l l' step s = let s' = sound_step l l' step s in (s', λ i k ne. (s'.apart i k ne) _ _ Holds Holds)

-- ---- the start

starting-eff : (runs waits : Bool) → eff (starting runs waits) ≡ Un
starting-eff runs true = refl
starting-eff runs false = refl

starting-claim : (runs waits : Bool) (a : State) → Claim (starting runs waits) a → a ≡ Un
starting-claim runs waits _ Holds = refl
starting-claim runs waits _ Listed = refl
starting-claim runs waits a (Granted _ g) = absurd (none-some refl g)
starting-claim runs waits a (Sent _ x) = absurd x

pub starts : StartsSound
starts runs waits = record {
  fine = λ k. record {
    ok = λ t. (subst (λ z. leq z Un ≡ true) (sym (starting-eff (runs k) (waits k))) refl, λ s e. absurd (none-some refl e));
    bare = λ t. (refl, refl, refl, t);
    heard = λ h. refl;
    in_order = tt;
    outside = λ r. (inr refl, r);
    member = λ m r. m;
    stopped = λ o. inr refl;
    asking = λ a. absurd (true-false a refl);
    wanting = λ a w. absurd (none-some refl w);
    granted = λ a w. absurd (none-some refl w);
    idle = λ a r. (refl, refl, refl);
    asked = λ a. starting-eff (runs k) (waits k);
  };
  apart = λ i k ne a b x y. subst (λ z. goes z b ≡ true) (sym (starting-claim (runs i) (waits i) a x)) refl;
}

ex-goes : (s : State) → goes Ex s ≡ true → s ≡ Un
ex-goes Un e = refl
ex-goes Sh e = no-way e
ex-goes Df e = no-way e
ex-goes Ex e = no-way e

pub alone : ExAlone
alone l i k s ex held = elim (cases_eq i k) [
  | inl e ↦ e
  | inr ne ↦ absurd (held (ex-goes ((l k).state) (subst (λ z. goes z ((l k).state) ≡ true) ex ((s.apart i k ne) _ _ Holds Holds))))
]

-- ---- while a slot waits since the start

idle-move : (n n' : Node) → Move n n' → (n.state ≡ Un) × (n.down ≡ None) → (n'.state ≡ Un) × (n'.down ≡ None)
idle-move n _ (Asks s a b c d e f) h = h
idle-move n _ (HearsReport s q e) h = h
idle-move n _ (HearsEnd q e) h = h
idle-move n _ (HearsDown s q e) h = h
idle-move n _ (HearsAsk s q e) h = h
idle-move n _ (Receives s e a b c) h = absurd (none-some (h.1) e)
idle-move n _ (Drops s e) h = (h.0, refl)
idle-move n _ (Lowers s a b c d e f) h = absurd (f (h.0))
idle-move n _ (TakesView a b c) h = h
idle-move n _ Stops h = h
idle-move n _ (IsRecovered e) h = (refl, h.1)
idle-move n _ (Joins e) h = h

pub idle-step : (k : ℕ) (l l' : ℕ → Node) → Step l l' → (l' k).waits ≡ true → ((i : ℕ) → ((l i).state ≡ Un) × ((l i).down ≡ None))
    → (i : ℕ) → ((l' i).state ≡ Un) × ((l' i).down ≡ None)
idle-step k l _ (Moves j n move) w h i = at-cases (λ m. (m.state ≡ Un) × (m.down ≡ None)) l j n i (λ e. idle-move (l j) n move (h j)) (λ ne. h i)
idle-step k l _ Changes w h i = ((h i).0, refl)
idle-step k l _ (Grants j s ready runs wants goes_all) w h i =
    absurd (true-false w (at-cases (λ m. m.waits ≡ false) l j (record (l j) { table = s; wants = None; down = Some s }) k (λ e. runs j) (λ ne. runs k)))

pub nothing_held : NothingHeld
nothing_held runs waits k l waiting Here i = (refl, refl)
nothing_held runs waits k l waiting (Later m n since step still) i = idle-step k m n step still (nothing_held runs waits k m waiting since) i
