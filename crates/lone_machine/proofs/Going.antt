-- One node alone: its start, its calls and its reads.
use Rattle.std.proofs.Common.{ℕ, ◌≡◌, ◌<◌, ◌⊎◌, inl, inr, suc, true, Some, [], ◌∷◌, ◌++◌, refl, sym, ap, ◌∙◌, subst, arith}
use Rattle.std.specs.Prelude.{◌==◌, if◌then◌else◌}
use Rattle.std.proofs.lemmas.Bool.{cases_Bool, cond-true, cond-false, eq-eqb, eqb-true}
use Rattle.cluster_laws.specs.Files.{Files, CellOf, Part, LockOf, Guards, State, Un, Ex}
use Rattle.cluster_laws.specs.Book.{at, Seen, taken, tried}
use Rattle.cluster_laws.specs.History.{Called}
use Rattle.cluster_laws.specs.Notes.{Caches, CachesAfter}
use Rattle.cluster_laws.specs.World.{Answering, Answers, BeginsAt, Goes, Publishes, Reads, Run, Shrinks, Sound, Step, Stop, Syncs, World, nothing}
use Rattle.cluster_laws.proofs.Cells.{split, inside, none-some, at-same, at-other}
use Rattle.cluster_laws.proofs.Locking.{seen_by_lock}
use Rattle.cluster_laws.proofs.Minding.{step_keeps_notes}
use Rattle.cluster_laws.proofs.Noting.{noted_reads}
use Rattle.cluster_laws.proofs.Running.{run_keeps, sound_start, step_keeps, sync_answers}
use Rattle.cluster_laws.proofs.Trying.{all_calls}
use Rattle.lone_machine.specs.Alone.{Begun, IsAlone, IsBegun, MayAnswer, begun, forgets, now, publishes, reads}
use Rattle.lone_machine.specs.Laws.{AnswersAlone, BeginsAlone, ForgetsAlone, GoesOnWith, ReadsAlone, SyncsAlone}

-- a step more
pub run_on : (F : Files) (u v w : World F) → Run F u v → Step F v w → Run F u w
run_on F u _ w (Stop _) step = Goes u w w step (Stop w)
run_on F u v w (Goes _ x _ first rest) step = Goes u x w first (run_on F x v w rest step)

pub sound : (F : Files) (s : Begun F) (w : World F) → IsAlone F s w → Sound F w
sound F s w a = run_keeps F (begun F s) w a.run (sound_start F (begun F s) a.begins)

-- ---- the start

module _ (F : Files) (s : Begun F) (is : IsBegun F s) where
  holds : (j : ℕ) (l : F.Lock) → (if j == s.node then s.held l else Un) ≡ Un ⊎ (j ≡ s.node)
  holds j l = elim (cases_Bool (j == s.node)) [ inl e ↦ inr (eqb-true j s.node e) | inr e ↦ inl (cond-false _ (s.held l) Un e) ]

  ex_no : {z : State} → z ≡ Ex → z ≡ Un → ⊥
  ex_no e f = cc

  begins : BeginsAt F (begun F s)
  begins = record {
    numbers = λ i. (refl, refl, refl, refl);
    uncached = λ i b. refl;
    unheard = (refl, refl);
    stands = is.stands;
    owned = λ i b own. absurd (none-some refl own);
    apart = λ i j l ex held. elim (holds i l) [
      | inl un ↦ absurd (ex_no ex un)
      | inr here ↦ elim (holds j l) [ inl un ↦ absurd (held un) | inr there ↦ here ∙ sym there ]
    ];
    mirror = record {
      cuts = λ i c. (omega arith, omega arith);
      alone = λ i. refl;
      lives = λ i c b v e. absurd (none-some refl e);
      nobody = λ b none. is.same b;
      owned = λ i c b own. absurd (none-some refl own);
      flights = λ r b v e. absurd (none-some refl e);
    };
  }

  its_start : IsAlone F s (begun F s)
  its_start = record {
    begins = begins;
    run = Stop (begun F s);
    held = λ i l. cond-true (s.node == s.node) (s.held l) Un (eq-eqb s.node s.node refl) i;
    told = refl;
    owners = λ b j own. absurd (none-some refl own);
    silent = λ j other. refl;
    writes = λ r b other. refl;
  }

pub begins_alone : (F : Files) → BeginsAlone F
begins_alone F s is = its_start F s is

-- ---- what the node sees

module _ (F : Files) (s : Begun F) (w : World F) (a : IsAlone F s w) where
  held_here : (x : CellOf F) → (s.held (LockOf F x) ≡ Un → ⊥) → w.book.state s.node (LockOf F x) ≡ Un → ⊥
  held_here x h un = h (sym (ap (λ f. f (LockOf F x)) a.held) ∙ un)

  pub sees : (b : ℕ) (x : CellOf F) → now F w b ≡ x → (s.held (LockOf F x) ≡ Un → ⊥) → Seen F w.book s.node (w.book.answered s.node) b x
  sees b x e h =
      let un : w.book.state s.node (LockOf F (now F w b)) ≡ Un → ⊥ = held_here (now F w b) (λ un. h (ap (λ z. s.held (LockOf F z)) (sym e) ∙ un)) in
      subst (Seen F w.book s.node (w.book.answered s.node) b) e (seen_by_lock F w.book ((sound F s w a).whole) s.node b un)

  answering : (said : F.Said) (view change cache : Part F) → MayAnswer F s w said view change cache → Answering F w.book s.node said view change cache
  answering said view change cache may = record {
    sees = λ b x h. (let v = may.sees b x h in sees b x v.0 v.1);
    does = may.does;
    guards = subst (λ f. Guards F f view change) (sym a.held) may.guards;
    caches = λ b x h. elim (may.cached b x h) [ inl new ↦ inl new | inr old ↦ inr (old.0, sees b x old.1 old.2) ];
    tells = may.tells;
    tracks = may.tracks;
  }

  -- ---- an answered call is published

  module _ (said : F.Said) (view change cache : Part F) (sure : ℕ → ℕ) (ans : Answering F w.book s.node said view change cache)
      (step : Step F w (record w { book = tried F w.book s.node said view change cache; sure = sure })) where
    abbrev answered_world : World F
    answered_world = record w { book = tried F w.book s.node said view change cache; sure = sure }

    more : answered_world.book.published s.node < answered_world.book.answered s.node
    more = omega (arith, a.told, at-same (w.book.answered) s.node (suc (w.book.answered s.node)))

    publishing : Step F answered_world (publishes F s.node answered_world)
    publishing = Publishes s.node more

    its_said : answered_world.book.told s.node (suc (answered_world.book.published s.node)) ≡ said
    its_said =
        ap (λ f. f (suc (w.book.published s.node))) (at-same (w.book.told) s.node (at (w.book.told s.node) (suc (w.book.answered s.node)) said))
        ∙ ap (at (w.book.told s.node) (suc (w.book.answered s.node)) said) (ap suc a.told)
        ∙ at-same (w.book.told s.node) (suc (w.book.answered s.node)) said

    owners : (b j : ℕ) → taken s.node (change b) (w.book.owner b) ≡ Some j → j ≡ s.node
    owners b j e = elim (split (change b)) [
      | inl none ↦ a.owners b j (sym (ap (λ o. taken s.node o (w.book.owner b)) none) ∙ e)
      | inr some ↦ inside (sym e ∙ ap (λ o. taken s.node o (w.book.owner b)) (some.1))
    ]

    goes_on : GoesOnWith F s w (publishes F s.node answered_world) said change
    goes_on = record {
      alone = record {
        begins = a.begins;
        run = run_on F (begun F s) answered_world (publishes F s.node answered_world) (run_on F (begun F s) w answered_world a.run step) publishing;
        held = a.held;
        told = at-same (w.book.published) s.node (suc (w.book.published s.node)) ∙ ap suc a.told ∙ sym (at-same (w.book.answered) s.node (suc (w.book.answered s.node)));
        owners = owners;
        silent = λ j other. at-other (w.book.answered) s.node (suc (w.book.answered s.node)) j other ∙ a.silent j other;
        writes = a.writes;
      };
      now = λ b. all_calls F w.book ((sound F s w a).whole) s.node said view change cache (ans.sees) (ans.does) (ans.guards) (ans.caches) (ans.tells) (ans.tracks) b;
      answered = at-same (w.book.answered) s.node (suc (w.book.answered s.node));
      changes = at-same (w.book.change) s.node (at (w.book.change s.node) (suc (w.book.answered s.node)) change);
      items = λ i. w.items ++ (Called (record { node = s.node; number = suc (a.told i); said = its_said i }) ∷ []);
      disk = refl;
      low = refl;
    }

  -- ---- reads

  reading : (b : ℕ) → (s.held (LockOf F (now F w b)) ≡ Un → ⊥) → Step F w (reads F s w b)
  reading b h = Reads s.node b (held_here (now F w b) h)

pub answers_alone : (F : Files) → AnswersAlone F
answers_alone F s w said view change cache a no_sync may = (goes_on F s w a said view change cache (w.sure) ans step, λ after caches. published (mid after caches))
  where
    ans : Answering F w.book s.node said view change cache
    ans = answering F s w a said view change cache may

    step : Step F w (record w { book = tried F w.book s.node said view change cache })
    step = Answers s.node said view change cache no_sync ans

    mid : CachesAfter F w.book w.disk s.node change cache → Caches F w.book w.disk s.node → Caches F (tried F w.book s.node said view change cache) w.disk s.node
    mid after caches = (step_keeps_notes F w (record w { book = tried F w.book s.node said view change cache }) (Answers s.node said view change cache no_sync ans) s.node (sound F s w a)).0 (λ same. after) caches

    published : Caches F (tried F w.book s.node said view change cache) w.disk s.node
        → Caches F (publishes F s.node (record w { book = tried F w.book s.node said view change cache })).book w.disk s.node
    published caches =
        (step_keeps_notes F (record w { book = tried F w.book s.node said view change cache }) (publishes F s.node (record w { book = tried F w.book s.node said view change cache }))
        (Publishes s.node (more F s w a said view change cache (w.sure) ans step)) s.node
        (step_keeps F w (record w { book = tried F w.book s.node said view change cache }) step (sound F s w a))).0 tt caches

pub syncs_alone : (F : Files) → SyncsAlone F
syncs_alone F s w said a does still calm =
    goes_on F s w a said (nothing F) (nothing F) (w.book.cache s.node) (at w.sure s.node (suc (w.book.answered s.node))) (sync_answers F w (sound F s w a) s.node said does still)
    (Syncs s.node said does still calm)

pub reads_alone : (F : Files) → ReadsAlone F
unfolding reading
reads_alone F s w b a caches uncached held used = (
  (noted_reads F w.book w.disk s.node (λ l. true) (record { block = b; lock = LockOf F (now F w b) }) ((sound F s w a).whole) ((sound F s w a).mirror) caches
      (record { lock = refl; held = held_here F s w a (now F w b) held; is_pinned = refl; used = used; uncached = inl uncached })).1,
  record {
    alone = record {
      begins = a.begins;
      run = run_on F (begun F s) w (reads F s w b) a.run (reading F s w a b held);
      held = a.held;
      told = a.told;
      owners = a.owners;
      silent = a.silent;
      writes = a.writes;
    };
    now = refl;
    cached = (step_keeps_notes F w (reads F s w b) (reading F s w a b held) s.node (sound F s w a)).0 tt;
    items = refl;
  },
)

pub forgets_alone : (F : Files) → ForgetsAlone F
forgets_alone F s w cache a smaller others = record {
  begins = a.begins;
  run = run_on F (begun F s) w (forgets F w cache) a.run (Shrinks s.node cache (record { others = others; cached = cached }));
  held = a.held;
  told = a.told;
  owners = a.owners;
  silent = a.silent;
  writes = a.writes;
}
  where
    cached : (b : ℕ) (x : CellOf F) → cache s.node b ≡ Some x → w.book.cache s.node b ≡ Some x
    cached b x e = elim (smaller b) [ inl none ↦ absurd (none-some none e) | inr same ↦ sym same ∙ e ]
