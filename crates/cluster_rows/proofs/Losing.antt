-- Each loss counts from a header of its life.
use Rattle.std.proofs.Common.{ℕ, zero, suc, ◌≡◌, inl, inr, Bool, true, false, ◌&&◌, List, [], ◌∷◌, ◌++◌, length, refl, sym, ap, ◌∙◌, subst, arith}
use Rattle.std.specs.Prelude.{not, if◌then◌else◌}
use Rattle.std.proofs.lemmas.Bool.{cases_eq, cases_Bool, cond-true, cond-false}
use Rattle.cluster_laws.specs.Files.{Files}
use Rattle.cluster_laws.specs.Book.{at}
use Rattle.cluster_laws.specs.Mirror.{either}
use Rattle.cluster_laws.specs.History.{Item, Called, Gone}
use Rattle.cluster_laws.specs.World.{World}
use Rattle.cluster_laws.specs.World as world
use Rattle.cluster_laws.proofs.Cells.{at-same, at-other, at-cases}
use Rattle.cluster_events.specs.Cluster.{Cluster, BookOf, acts, worked, MayWork, Starts, Together, Event, Works, Mails, IsGranted, GoesDown, Stops, Fences, Views, Joins, Recovers, PastEnds, Events, Done, Then}
use Rattle.cluster_events.proofs.Eventing.{event_keeps, events_keep, starts_together, waits-acts, stopped-acts}
use Rattle.cluster_rows.specs.Marks.{Marks, rest_of, marked, marks_of, starting_marks, IsOneOf, IsOneOfFirst, HeadsAreMarked, EndedHeadsAreMarked, LossesAreMarked}

-- ---- lists of marks

abbrev AllHave : ℕ → List (List ℕ) → Type 0
AllHave n [] = Unit {0}
AllHave n (ms ∷ mss) = IsOneOf n ms × AllHave n mss

-- the heads have numbers of the first of these lives, and each later one has the node's last number; without one the heads have that
abbrev Queue : ℕ → (Bool → ℕ) → List (List ℕ) → Type 0
Queue n cut [] = (d : Bool) → cut d ≡ n
Queue n cut (ms ∷ mss) = ((d : Bool) → IsOneOf (cut d) ms) × AllHave n mss

all-more : (n : ℕ) (mss : List (List ℕ)) (ms : List ℕ) → AllHave n mss → IsOneOf n ms → AllHave n (mss ++ (ms ∷ []))
all-more n [] ms all one = (one, tt)
all-more n (x ∷ xs) ms all one = (all.0, all-more n xs ms (all.1) one)

queue-more : (n : ℕ) (cut : Bool → ℕ) (mss : List (List ℕ)) (ms : List ℕ) → Queue n cut mss → IsOneOf n ms → Queue n cut (mss ++ (ms ∷ []))
queue-more n cut [] ms all one = (λ d. subst (λ z. IsOneOf z ms) (sym (all d)) one, tt)
queue-more n cut (x ∷ xs) ms q one = (q.0, all-more n xs ms (q.1) one)

-- the first of them has its loss: the heads count as having all calls
queue-less : (n : ℕ) (cut cut' : Bool → ℕ) (mss : List (List ℕ)) → ((d : Bool) → cut' d ≡ n) → Queue n cut mss → Queue n cut' (rest_of mss)
queue-less n cut cut' [] now q = now
queue-less n cut cut' (ms ∷ []) now q = now
queue-less n cut cut' (ms ∷ (x ∷ xs)) now q = (λ d. subst (λ z. IsOneOf z x) (sym (now d)) ((q.1).0), (q.1).1)

-- heads that are all among the old ones
queue-among : (n : ℕ) (cut cut' : Bool → ℕ) (mss : List (List ℕ)) → ((d : Bool) → (e : Bool) × (cut' d ≡ cut e)) → Queue n cut mss → Queue n cut' mss
queue-among n cut cut' [] among q = λ d. (among d).1 ∙ q ((among d).0)
queue-among n cut cut' (ms ∷ mss) among q = (λ d. subst (λ z. IsOneOf z ms) (sym (among d).1) (q.0 ((among d).0)), q.1)

queue-none : (n : ℕ) (cut : Bool → ℕ) (mss : List (List ℕ)) → mss ≡ [] → Queue n cut mss → (d : Bool) → cut d ≡ n
queue-none n cut [] e q = q
queue-none n cut (ms ∷ mss) e q = absurd (let f = ap length e in cc)

queue-first : (n k : ℕ) (cut : Bool → ℕ) (mss : List (List ℕ)) → length mss ≡ suc k → Queue n cut mss → (d : Bool) → IsOneOfFirst (cut d) mss
queue-first n k cut [] e q d = absurd (let f : 0 ≡ suc k = e in cc)
queue-first n k cut (ms ∷ mss) e q d = q.0 d

no-length : (mss : List (List ℕ)) → length mss ≡ 0 → mss ≡ []
no-length [] e = refl
no-length (ms ∷ mss) e = absurd (let f : suc (length mss) ≡ 0 = e in cc)

length-more : (mss : List (List ℕ)) (ms : List ℕ) → length (mss ++ (ms ∷ [])) ≡ suc (length mss)
length-more [] ms = refl
length-more (x ∷ xs) ms = ap suc (length-more xs ms)

length-less : (mss : List (List ℕ)) (k : ℕ) → length mss ≡ suc k → length (rest_of mss) ≡ k
length-less [] k e = absurd (let f : 0 ≡ suc k = e in cc)
length-less (ms ∷ mss) k e = let f : suc (length mss) ≡ suc k = e in omega (arith, f)

never : {A : Type 0} {b : Bool} → b ≡ true → b ≡ false → A
never e f = cc

-- ---- what is known of a node's marks

module _ (F : Files) where
  abbrev cuts : Cluster F → ℕ → Bool → ℕ
  cuts c i d = (((c.world).disk).heads i d).cut

  record Known (c : Cluster F) (m : Marks) (i : ℕ) : Type 0 where
    running : c.waits i ≡ false → c.runs i ≡ true → (d : Bool) → IsOneOf (cuts c i d) (m.now i)
    gone : c.waits i ≡ false → c.runs i ≡ false → (d : Bool) → cuts c i d ≡ (BookOf F c).answered i
    none : c.waits i ≡ false → m.ended i ≡ []
    waiting : c.waits i ≡ true → Queue ((BookOf F c).answered i) (cuts c i) (m.ended i)
    again : c.waits i ≡ true → c.runs i ≡ true → IsOneOf ((BookOf F c).answered i) (m.now i)
    count : c.unlost i ≡ length (m.ended i)

  -- of a node that an event leaves alone, but for which of its heads is accepted, and for a call that it answers
  frame : (c c' : Cluster F) (m m' : Marks) (i : ℕ) → c'.waits i ≡ c.waits i → c'.runs i ≡ c.runs i → c'.unlost i ≡ c.unlost i
      → ((d : Bool) → (e : Bool) × (cuts c' i d ≡ cuts c i e)) → (acts F c i ≡ false → (BookOf F c').answered i ≡ (BookOf F c).answered i)
      → m'.now i ≡ m.now i → m'.ended i ≡ m.ended i → Known c m i → Known c' m' i
  frame c c' m m' i waits runs unlost among answered now ended k = record {
    running = λ w r d. subst (λ z. IsOneOf (cuts c' i d) z) (sym now) (subst (λ z. IsOneOf z (m.now i)) (sym (among d).1) (k.running (sym waits ∙ w) (sym runs ∙ r) ((among d).0)));
    gone = λ w r d. (among d).1 ∙ k.gone (sym waits ∙ w) (sym runs ∙ r) ((among d).0) ∙ sym (answered (stopped-acts (c.runs i) (c.waits i) (sym runs ∙ r)));
    none = λ w. ended ∙ k.none (sym waits ∙ w);
    waiting = λ w. subst (λ z. Queue ((BookOf F c').answered i) (cuts c' i) z) (sym ended)
        (subst (λ n. Queue n (cuts c' i) (m.ended i)) (sym (answered (waits-acts (c.runs i) (c.waits i) (sym waits ∙ w))))
        (queue-among ((BookOf F c).answered i) (cuts c i) (cuts c' i) (m.ended i) among (k.waiting (sym waits ∙ w))));
    again = λ w r. subst (λ z. IsOneOf ((BookOf F c').answered i) z) (sym now)
        (subst (λ n. IsOneOf n (m.now i)) (sym (answered (waits-acts (c.runs i) (c.waits i) (sym waits ∙ w)))) (k.again (sym waits ∙ w) (sym runs ∙ r)));
    count = unlost ∙ k.count ∙ ap length (sym ended);
  }

  record Inv (c : Cluster F) (m : Marks) : Type 0 where
    known : (i : ℕ) → Known c m i
    past : m.ended (c.past) ≡ []

  module _ (c : Cluster F) (t : Together F c) (m : Marks) (inv : Inv c m) where
    same : (c' : Cluster F) (m' : Marks) (i : ℕ) → c'.waits i ≡ c.waits i → c'.runs i ≡ c.runs i → c'.unlost i ≡ c.unlost i
        → ((d : Bool) → (e : Bool) × (cuts c' i d ≡ cuts c i e)) → (acts F c i ≡ false → (BookOf F c').answered i ≡ (BookOf F c).answered i)
        → m'.now i ≡ m.now i → m'.ended i ≡ m.ended i → Known c' m' i
    same c' m' i waits runs unlost among answered now ended = frame c c' m m' i waits runs unlost among answered now ended (inv.known i)

    still : (d : Bool) (i : ℕ) → (e : Bool) × (cuts c i d ≡ cuts c i e)
    still d i = (d, refl)

    other-answered : (j i n : ℕ) → acts F c j ≡ true → acts F c i ≡ false → at ((BookOf F c).answered) j n i ≡ (BookOf F c).answered i
    other-answered j i n a idle = at-other ((BookOf F c).answered) j n i (λ e. never (subst (λ z. acts F c z ≡ true) (sym e) a) idle)

    works : (v : World F) (step : world.Step F (c.world) v) (may : MayWork F c v step) → Inv (worked F c v step may) (marked F c _ (Works v step may) m)
    works _ (world.Answers j said view change cache no_sync a) may = record {
      known = λ i. same _ m i refl refl refl (λ d. still d i) (λ idle. other-answered j i _ may idle) refl refl;
      past = inv.past;
    }
    works _ (world.Syncs j said does quiet calm) may = record {
      known = λ i. same _ m i refl refl refl (λ d. still d i) (λ idle. other-answered j i _ may idle) refl refl;
      past = inv.past;
    }
    works _ (world.Publishes k some) may = record { known = λ i. same _ m i refl refl refl (λ d. still d i) (λ idle. refl) refl refl; past = inv.past }
    works _ (world.Begins k h single heads) may = record {
      known = λ i. elim (cases_eq i k) [
        | inl e ↦ subst (λ z. Known (worked F c _ (world.Begins k h single heads) may) (marked F c _ (Works _ (world.Begins k h single heads) may) m) z) (sym e) here
        | inr ne ↦ same _ (marked F c _ (Works _ (world.Begins k h single heads) may) m) i refl refl refl
            (λ d. (d, ap (λ f. (f d).cut) (at-other (((c.world).disk).heads) k (either (((c.world).disk).heads k false) h) i ne))) (λ idle. refl) (at-other (m.now) k _ i ne) refl
      ];
      past = inv.past;
    }
      where
        new : (d : Bool) → cuts (worked F c _ (world.Begins k h single heads) may) k d ≡ (either (((c.world).disk).heads k false) h d).cut
        new d = ap (λ f. (f d).cut) (at-same (((c.world).disk).heads) k (either (((c.world).disk).heads k false) h))

        now-is : at (m.now) k (if c.waits k then m.now k else (h.cut ∷ m.now k)) k ≡ (if c.waits k then m.now k else (h.cut ∷ m.now k))
        now-is = at-same (m.now) k _

        runs-here : c.waits k ≡ false → c.runs k ≡ true
        runs-here awake = elim (((may.0).1).1) [
          | inl own ↦ subst (λ z. c.runs z ≡ true) own (((may.0).1).0)
          | inr waits ↦ never waits awake
        ]

        in-life : c.waits k ≡ false → (d : Bool) → IsOneOf ((either (((c.world).disk).heads k false) h d).cut) (h.cut ∷ m.now k)
        in-life awake false = inr ((inv.known k).running awake (runs-here awake) false)
        in-life awake true = inl refl

        by-replay : c.waits k ≡ true → (d : Bool) → (e : Bool) × ((either (((c.world).disk).heads k false) h d).cut ≡ cuts c k e)
        by-replay waits false = (false, refl)
        by-replay waits true = (false, may.3 waits ∙ sym (((t.world).mirror).alone k))

        here : Known (worked F c _ (world.Begins k h single heads) may) (marked F c _ (Works _ (world.Begins k h single heads) may) m) k
        here = elim (cases_Bool (c.waits k)) [
          | inl waits ↦ same _ (marked F c _ (Works _ (world.Begins k h single heads) may) m) k refl refl refl
              (λ d. ((by-replay waits d).0, new d ∙ (by-replay waits d).1)) (λ idle. refl) (now-is ∙ cond-true _ _ _ waits) refl
          | inr awake ↦ record {
            running = λ w r d. subst (λ z. IsOneOf (cuts (worked F c _ (world.Begins k h single heads) may) k d) z) (sym (now-is ∙ cond-false _ _ _ awake))
                (subst (λ z. IsOneOf z (h.cut ∷ m.now k)) (sym (new d)) (in-life awake d));
            gone = λ w r d. never (runs-here awake) r;
            none = λ w. (inv.known k).none w;
            waiting = λ w. never w awake;
            again = λ w r. never w awake;
            count = (inv.known k).count;
          }
        ]
    works _ (world.Ends k which) may = record {
      known = λ i. same _ m i refl refl refl (λ d. ended i d) (λ idle. refl) refl refl;
      past = inv.past;
    }
      where
        ended : (i : ℕ) (d : Bool) → (e : Bool) × ((at (((c.world).disk).heads) k (either (((c.world).disk).heads k which) (((c.world).disk).heads k which)) i d).cut ≡ cuts c i e)
        ended i d = at-cases (λ f. (e : Bool) × ((f d).cut ≡ cuts c i e)) (((c.world).disk).heads) k (either (((c.world).disk).heads k which) (((c.world).disk).heads k which)) i
            (λ e. (which, one d ∙ ap (λ z. cuts c z which) (sym e))) (λ ne. (d, refl))
          where
            one : (d : Bool) → (either (((c.world).disk).heads k which) (((c.world).disk).heads k which) d).cut ≡ cuts c k which
            one false = refl
            one true = refl
    works _ (world.Writes r b v k live) may = record { known = λ i. same _ m i refl refl refl (λ d. still d i) (λ idle. refl) refl refl; past = inv.past }
    works _ (world.Lands r x settles) may = record { known = λ i. same _ m i refl refl refl (λ d. still d i) (λ idle. refl) refl refl; past = inv.past }
    works _ (world.Settles k p all own one dead) may = record { known = λ i. same _ m i refl refl refl (λ d. still d i) (λ idle. refl) refl refl; past = inv.past }
    works _ (world.Lower k state cache lowers) may = absurd may
    works _ (world.Grants k state raises) may = absurd may
    works _ (world.Reads j b held) may = record { known = λ i. same _ m i refl refl refl (λ d. still d i) (λ idle. refl) refl refl; past = inv.past }
    works _ (world.Shrinks j cache forgets) may = record { known = λ i. same _ m i refl refl refl (λ d. still d i) (λ idle. refl) refl refl; past = inv.past }
    works _ (world.Loses k n all above below calm next empty single) may = record {
      known = λ i. elim (cases_eq i k) [
        | inl e ↦ subst (λ z. Known (worked F c _ (world.Loses k n all above below calm next empty single) may) (record m { ended = at (m.ended) k (rest_of (m.ended k)) }) z) (sym e) here
        | inr ne ↦ same (worked F c _ (world.Loses k n all above below calm next empty single) may) (record m { ended = at (m.ended) k (rest_of (m.ended k)) }) i refl refl (at-other (c.unlost) k _ i ne)
            (λ d. (d, ap (λ f. (f d).cut) (at-other (((c.world).disk).heads) k _ i ne))) (λ idle. refl) refl (at-other (m.ended) k _ i ne)
      ];
      past = at-cases (λ z. z ≡ []) (m.ended) k (rest_of (m.ended k)) (c.past)
          (λ e. ap rest_of (ap (m.ended) (sym e) ∙ inv.past)) (λ ne. inv.past);
    }
      where
        cut' : (d : Bool) → cuts (worked F c _ (world.Loses k n all above below calm next empty single) may) k d ≡ (BookOf F c).answered k
        cut' d = ap (λ f. (f d).cut) (at-same (((c.world).disk).heads) k (λ c'. record { cut = (BookOf F c).answered k; live = (((c.world).disk).heads k c').live }))

        lives : length (m.ended k) ≡ suc ((may.2).0)
        lives = sym ((inv.known k).count) ∙ (may.2).1

        ended' : at (m.ended) k (rest_of (m.ended k)) k ≡ rest_of (m.ended k)
        ended' = at-same (m.ended) k _

        here : Known (worked F c _ (world.Loses k n all above below calm next empty single) may) (record m { ended = at (m.ended) k (rest_of (m.ended k)) }) k
        here = record {
          running = λ w r d. never (may.0) w;
          gone = λ w r d. never (may.0) w;
          none = λ w. never (may.0) w;
          waiting = λ w. subst (λ z. Queue ((BookOf F c).answered k) (cuts (worked F c _ (world.Loses k n all above below calm next empty single) may) k) z) (sym ended')
              (queue-less ((BookOf F c).answered k) (cuts c k) (cuts (worked F c _ (world.Loses k n all above below calm next empty single) may) k) (m.ended k) cut' ((inv.known k).waiting w));
          again = λ w r. (inv.known k).again w r;
          count = at-same (c.unlost) k _ ∙ (let a = (may.2).1 in let b = length-less (m.ended k) ((may.2).0) lives in omega (arith, a, b)) ∙ ap length (sym ended');
        }

    -- ---- the other events

    halts : (k : ℕ) (here : k ≡ c.past → ⊥) (runs : c.runs k ≡ true) (all : (BookOf F c).published k ≡ (BookOf F c).answered k) (c' : Cluster F) (event : Event F c c')
        → c'.waits ≡ at (c.waits) k true → c'.runs ≡ at (c.runs) k false → c'.unlost ≡ at (c.unlost) k (suc (c.unlost k)) → ((i : ℕ) (d : Bool) → cuts c' i d ≡ cuts c i d)
        → (BookOf F c').answered ≡ (BookOf F c).answered → c'.past ≡ c.past
        → Inv c' (record m { ended = at (m.ended) k (m.ended k ++ (m.now k ∷ [])) })
    halts k here runs all c' event waits' runs' unlost' heads' answered' past' = record {
      known = λ i. elim (cases_eq i k) [
        | inl e ↦ subst (λ z. Known c' (record m { ended = at (m.ended) k (m.ended k ++ (m.now k ∷ [])) }) z) (sym e) stopped
        | inr ne ↦ same c' (record m { ended = at (m.ended) k (m.ended k ++ (m.now k ∷ [])) }) i
            (ap (λ f. f i) waits' ∙ at-other (c.waits) k true i ne) (ap (λ f. f i) runs' ∙ at-other (c.runs) k false i ne) (ap (λ f. f i) unlost' ∙ at-other (c.unlost) k _ i ne)
            (λ d. (d, heads' i d)) (λ idle. ap (λ f. f i) answered') refl (at-other (m.ended) k _ i ne)
      ];
      past = subst (λ z. at (m.ended) k (m.ended k ++ (m.now k ∷ [])) z ≡ []) (sym past') (at-other (m.ended) k _ (c.past) (λ e. here (sym e)) ∙ inv.past);
    }
      where
        ended' : at (m.ended) k (m.ended k ++ (m.now k ∷ [])) k ≡ m.ended k ++ (m.now k ∷ [])
        ended' = at-same (m.ended) k _

        off : c'.runs k ≡ false
        off = ap (λ f. f k) runs' ∙ at-same (c.runs) k false

        on : c'.waits k ≡ true
        on = ap (λ f. f k) waits' ∙ at-same (c.waits) k true

        queue : Queue ((BookOf F c).answered k) (cuts c k) (m.ended k ++ (m.now k ∷ []))
        queue = elim (cases_Bool (c.waits k)) [
          | inl w ↦ queue-more ((BookOf F c).answered k) (cuts c k) (m.ended k) (m.now k) ((inv.known k).waiting w) ((inv.known k).again w runs)
          | inr awake ↦ subst (λ z. Queue ((BookOf F c).answered k) (cuts c k) (z ++ (m.now k ∷ []))) (sym ((inv.known k).none awake)) ((inv.known k).running awake runs, tt)
        ]

        stopped : Known c' (record m { ended = at (m.ended) k (m.ended k ++ (m.now k ∷ [])) }) k
        stopped = record {
          running = λ w r d. never r off;
          gone = λ w r d. never on w;
          none = λ w. never on w;
          waiting = λ w. subst (λ z. Queue ((BookOf F c').answered k) (cuts c' k) z) (sym ended')
              (subst (λ f. Queue (f k) (cuts c' k) (m.ended k ++ (m.now k ∷ []))) (sym answered')
              (queue-among ((BookOf F c).answered k) (cuts c k) (cuts c' k) (m.ended k ++ (m.now k ∷ [])) (λ d. (d, heads' k d)) queue));
          again = λ w r. never r off;
          count = ap (λ f. f k) unlost' ∙ at-same (c.unlost) k _ ∙ ap suc ((inv.known k).count) ∙ sym (length-more (m.ended k) (m.now k)) ∙ ap length (sym ended');
        }

    -- a slot is recovered, or the past ends: no life of the node is without its loss
    frees : (k : ℕ) → c.waits k ≡ true → m.ended k ≡ [] → (c' : Cluster F) → c'.waits ≡ at (c.waits) k false → c'.runs ≡ c.runs → c'.unlost ≡ c.unlost
        → ((i : ℕ) (d : Bool) → cuts c' i d ≡ cuts c i d) → (BookOf F c').answered ≡ (BookOf F c).answered → c'.past ≡ c.past → Inv c' m
    frees k wait told c' waits' runs' unlost' heads' answered' past' = record {
      known = λ i. elim (cases_eq i k) [
        | inl e ↦ subst (λ z. Known c' m z) (sym e) freed
        | inr ne ↦ same c' m i (ap (λ f. f i) waits' ∙ at-other (c.waits) k false i ne) (ap (λ f. f i) runs') (ap (λ f. f i) unlost') (λ d. (d, heads' i d))
            (λ idle. ap (λ f. f i) answered') refl refl
      ];
      past = ap (m.ended) past' ∙ inv.past;
    }
      where
        off : c'.waits k ≡ false
        off = ap (λ f. f k) waits' ∙ at-same (c.waits) k false

        last : (d : Bool) → cuts c' k d ≡ (BookOf F c).answered k
        last d = heads' k d ∙ queue-none ((BookOf F c).answered k) (cuts c k) (m.ended k) told ((inv.known k).waiting wait) d

        freed : Known c' m k
        freed = record {
          running = λ w r d. subst (λ z. IsOneOf z (m.now k)) (sym (last d)) ((inv.known k).again wait (sym (ap (λ f. f k) runs') ∙ r));
          gone = λ w r d. last d ∙ ap (λ f. f k) (sym answered');
          none = λ w. told;
          waiting = λ w. never w off;
          again = λ w r. never w off;
          count = ap (λ f. f k) unlost' ∙ (inv.known k).count;
        }

    joins : (k : ℕ) → c.runs k ≡ false → (c' : Cluster F) → c'.waits ≡ c.waits → c'.runs ≡ at (c.runs) k true → c'.unlost ≡ c.unlost
        → ((i : ℕ) (d : Bool) → cuts c' i d ≡ cuts c i d) → (BookOf F c').answered ≡ (BookOf F c).answered → c'.past ≡ c.past
        → Inv c' (record m { now = at (m.now) k ((BookOf F c).answered k ∷ []) })
    joins k out c' waits' runs' unlost' heads' answered' past' = record {
      known = λ i. elim (cases_eq i k) [
        | inl e ↦ subst (λ z. Known c' (record m { now = at (m.now) k ((BookOf F c).answered k ∷ []) }) z) (sym e) joined
        | inr ne ↦ same c' (record m { now = at (m.now) k ((BookOf F c).answered k ∷ []) }) i (ap (λ f. f i) waits') (ap (λ f. f i) runs' ∙ at-other (c.runs) k true i ne)
            (ap (λ f. f i) unlost') (λ d. (d, heads' i d)) (λ idle. ap (λ f. f i) answered') (at-other (m.now) k _ i ne) refl
      ];
      past = ap (m.ended) past' ∙ inv.past;
    }
      where
        now' : at (m.now) k ((BookOf F c).answered k ∷ []) k ≡ (BookOf F c).answered k ∷ []
        now' = at-same (m.now) k _

        on : c'.runs k ≡ true
        on = ap (λ f. f k) runs' ∙ at-same (c.runs) k true

        joined : Known c' (record m { now = at (m.now) k ((BookOf F c).answered k ∷ []) }) k
        joined = record {
          running = λ w r d. subst (λ z. IsOneOf (cuts c' k d) z) (sym now') (inl (heads' k d ∙ (inv.known k).gone (sym (ap (λ f. f k) waits') ∙ w) out d));
          gone = λ w r d. never on r;
          none = λ w. (inv.known k).none (sym (ap (λ f. f k) waits') ∙ w);
          waiting = λ w. subst (λ f. Queue (f k) (cuts c' k) (m.ended k)) (sym answered')
              (queue-among ((BookOf F c).answered k) (cuts c k) (cuts c' k) (m.ended k) (λ d. (d, heads' k d)) ((inv.known k).waiting (sym (ap (λ f. f k) waits') ∙ w)));
          again = λ w r. subst (λ z. IsOneOf ((BookOf F c').answered k) z) (sym now') (inl (ap (λ f. f k) answered'));
          count = ap (λ f. f k) unlost' ∙ (inv.known k).count;
        }

    keeps : (c' : Cluster F) (event : Event F c c') → Inv c' (marked F c c' event m)
    keeps _ (Works v step may) = works v step may
    keeps c' (Mails locks h) = record { known = λ i. same c' m i refl refl refl (λ d. still d i) (λ idle. refl) refl refl; past = inv.past }
    keeps c' (IsGranted k locks here none h) = record { known = λ i. same c' m i refl refl refl (λ d. still d i) (λ idle. refl) refl refl; past = inv.past }
    keeps c' (GoesDown k locks cache here h all clean cached) = record { known = λ i. same c' m i refl refl refl (λ d. still d i) (λ idle. refl) refl refl; past = inv.past }
    keeps c' (Stops k here runs all) = halts k here runs all c' (Stops k here runs all) refl refl refl (λ i d. refl) refl refl
    keeps c' (Fences k out unfenced none) = record { known = λ i. same c' m i refl refl refl (λ d. still d i) (λ idle. refl) refl refl; past = inv.past }
    keeps c' Views = record { known = λ i. same c' m i refl refl refl (λ d. still d i) (λ idle. refl) refl refl; past = inv.past }
    keeps c' (Joins k here out fenced waits) = joins k out c' refl refl refl (λ i d. refl) refl refl
    keeps c' (Recovers k here wait nothing_left unheaded told) = frees k wait (no-length (m.ended k) (sym ((inv.known k).count) ∙ told)) c' refl refl refl (λ i d. refl) refl refl
    keeps c' (PastEnds wait nothing_left unheaded) = frees (c.past) wait (inv.past) c' refl refl refl (λ i d. refl) refl refl

  run-keeps : (a c : Cluster F) (events : Events F a c) (m : Marks) → Together F a → Inv a m → Inv c (marks_of F a c events m)
  run-keeps a _ (Done _) m t inv = inv
  run-keeps a c (Then _ b _ event events) m t inv = run-keeps b c events (marked F a b event m) (event_keeps F a b event t) (keeps a t m inv b event)

  start-known : (a : Cluster F) → Starts F a → Inv a starting_marks
  start-known a s = record {
    known = λ i. record {
      running = λ w r d. inl (cut i d);
      gone = λ w r d. cut i d ∙ sym (((s.world).numbers i).2);
      none = λ w. refl;
      waiting = λ w. queue i;
      again = λ w r. inl (((s.world).numbers i).2);
      count = s.unlost i;
    };
    past = refl;
  }
    where
      t : Together F a
      t = starts_together F a s

      cut : (i : ℕ) (d : Bool) → cuts a i d ≡ 0
      cut i d = let n = (s.world).numbers i in let p = (((t.world).mirror).cuts i d).1 in let q = n.1 in omega (arith, p, q)

      queue : (i : ℕ) → Queue ((BookOf F a).answered i) (cuts a i) []
      queue i = λ d. cut i d ∙ sym (((s.world).numbers i).2)

  acting : (runs waits : Bool) → (runs && not waits) ≡ true → (runs ≡ true) × (waits ≡ false)
  acting true true e = absurd (let f : false ≡ true = e in cc)
  acting true false e = (refl, refl)
  acting false waits e = absurd (let f : false ≡ true = e in cc)

  pub heads_marked : HeadsAreMarked F
  heads_marked a c events i d s a' =
      let inv = run-keeps a c events starting_marks (starts_together F a s) (start-known a s) in
      let w = acting (c.runs i) (c.waits i) a' in (inv.known i).running (w.1) (w.0) d

  pub ended_marked : EndedHeadsAreMarked F
  ended_marked a c events i m d s lives =
      let inv = run-keeps a c events starting_marks (starts_together F a s) (start-known a s) in
      let some : length ((marks_of F a c events starting_marks).ended i) ≡ suc m = sym ((inv.known i).count) ∙ lives in
      elim (cases_Bool (c.waits i)) [
        | inl waits ↦ queue-first ((BookOf F c).answered i) m (cuts c i) ((marks_of F a c events starting_marks).ended i) some ((inv.known i).waiting waits) d
        | inr awake ↦ absurd (let e : 0 ≡ suc m = sym (ap length ((inv.known i).none awake)) ∙ some in cc)
      ]

  -- ---- which event adds a loss

  no-more : (xs : List (Item F)) (x : Item F) → xs ≡ xs ++ (x ∷ []) → ⊥
  no-more [] x e = nothing-one (ap (λ (z : List (Item F)). length z) e)
    where
      nothing-one : zero ≡ suc zero → ⊥
      nothing-one f = cc
  no-more (y ∷ ys) x e = no-more ys x (ap tail_of e)
    where
      tail_of : List (Item F) → List (Item F)
      tail_of [] = []
      tail_of (z ∷ zs) = zs

  last-same : (xs : List (Item F)) (x y : Item F) → xs ++ (x ∷ []) ≡ xs ++ (y ∷ []) → x ≡ y
  last-same [] x y e = ap (first_or x) e
    where
      first_or : Item F → List (Item F) → Item F
      first_or o [] = o
      first_or o (z ∷ zs) = z
  last-same (z ∷ zs) x y e = last-same zs x y (ap tail_of e)
    where
      tail_of : List (Item F) → List (Item F)
      tail_of [] = []
      tail_of (w ∷ ws) = ws

  abbrev node_in : Item F → ℕ
  node_in (Called k) = 0
  node_in (Gone i upto kept) = i

  abbrev upto_in : Item F → ℕ
  upto_in (Called k) = 0
  upto_in (Gone i upto kept) = upto

  abbrev is_loss : Item F → Bool
  is_loss (Called k) = false
  is_loss (Gone i upto kept) = true

  module _ (b : Cluster F) (t : Together F b) (m : Marks) (inv : Inv b m) (i upto k : ℕ) where
    loss : (c : Cluster F) (event : Event F b c) → (c.world).items ≡ (b.world).items ++ (Gone i upto k ∷ []) → (upto ≡ (BookOf F b).low i) × IsOneOfFirst upto (m.ended i)
    loss _ (Works _ (world.Answers j said view change cache no_sync a) may) e = absurd (no-more _ _ e)
    loss _ (Works _ (world.Syncs j said does quiet calm) may) e = absurd (no-more _ _ e)
    loss _ (Works _ (world.Publishes j some) may) e = absurd (let f : false ≡ true = ap is_loss (last-same _ _ _ e) in cc)
    loss _ (Works _ (world.Begins j h single heads) may) e = absurd (no-more _ _ e)
    loss _ (Works _ (world.Ends j which) may) e = absurd (no-more _ _ e)
    loss _ (Works _ (world.Writes r x v j live) may) e = absurd (no-more _ _ e)
    loss _ (Works _ (world.Lands r x settles) may) e = absurd (no-more _ _ e)
    loss _ (Works _ (world.Settles j p all own one dead) may) e = absurd (no-more _ _ e)
    loss _ (Works _ (world.Lower j state cache lowers) may) e = absurd may
    loss _ (Works _ (world.Grants j state raises) may) e = absurd may
    loss _ (Works _ (world.Reads j x held) may) e = absurd (no-more _ _ e)
    loss _ (Works _ (world.Shrinks j cache forgets) may) e = absurd (no-more _ _ e)
    loss _ (Works _ (world.Loses j n all above below calm next empty single) may) e =
        let same = last-same _ _ _ e in
        let node : j ≡ i = ap node_in same in
        let number : (BookOf F b).low j ≡ upto = ap upto_in same in
        let first : IsOneOfFirst (cuts b j false) (m.ended j) = queue-first ((BookOf F b).answered j) ((may.2).0) (cuts b j) (m.ended j)
        (sym ((inv.known j).count) ∙ (may.2).1) ((inv.known j).waiting (may.0)) false in (
          sym number ∙ ap ((BookOf F b).low) node,
          subst (λ z. IsOneOfFirst upto (m.ended z)) node (subst (λ z. IsOneOfFirst z (m.ended j)) (((t.world).mirror).alone j ∙ number) first),
        )
    loss _ (Mails locks h) e = absurd (no-more _ _ e)
    loss _ (IsGranted j locks here none h) e = absurd (no-more _ _ e)
    loss _ (GoesDown j locks cache here h all clean cached) e = absurd (no-more _ _ e)
    loss _ (Stops j here runs all) e = absurd (no-more _ _ e)
    loss _ (Fences j out unfenced none) e = absurd (no-more _ _ e)
    loss _ Views e = absurd (no-more _ _ e)
    loss _ (Joins j here out fenced waits) e = absurd (no-more _ _ e)
    loss _ (Recovers j here wait nothing_left unheaded told) e = absurd (no-more _ _ e)
    loss _ (PastEnds wait nothing_left unheaded) e = absurd (no-more _ _ e)

  pub losses_marked : LossesAreMarked F
  losses_marked a b c events event i upto k s e =
      let t0 = starts_together F a s in
      loss b (events_keep F a b events t0) (marks_of F a b events starting_marks) (run-keeps a b events starting_marks t0 (start-known a s)) i upto k c event e
