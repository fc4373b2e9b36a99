-- A disk whose journals may be dirty is a start.
use Rattle.std.proofs.Common.{ℕ, ◌≡◌, inl, inr, true, ◌&&◌, Option, None, Some, refl, sym, ap, ◌∙◌, subst, arith}
use Rattle.std.specs.Prelude.{◌==◌, if◌then◌else◌}
use Rattle.std.proofs.lemmas.Bool.{cases_eq, cases_Bool, cond-true, cond-false, eqb-true, eq-eqb}
use Rattle.cluster_laws.specs.Files.{Files, State, Un, Ex, laid}
use Rattle.cluster_laws.specs.Book.{W, whose}
use Rattle.cluster_laws.specs.Mirror.{Mirror}
use Rattle.cluster_laws.proofs.Cells.{split, inside, none-some, eqb-false}
use Rattle.cluster_events.specs.Cluster.{Starts}
use Rattle.event_lists.specs.Begins.{Start, IsStart, owner_of, starting_book, starting_disk, started, StartsFromDisk}

module _ (F : Files) (s : Start F) (is : IsStart F s) where
  owner-some : (b i : ℕ) → owner_of (s.past) (s.live b) ≡ Some i → (i ≡ s.past) × ((v : F.Content) × (s.live b ≡ Some v))
  owner-some b i e = elim (split (s.live b)) [
    | inl none ↦ absurd (none-some (ap (owner_of (s.past)) none) e)
    | inr some ↦ (inside (sym e ∙ ap (owner_of (s.past)) (some.1)), some)
  ]

  owner-none : (b : ℕ) → owner_of (s.past) (s.live b) ≡ None → s.live b ≡ None
  owner-none b e = elim (split (s.live b)) [
    | inl none ↦ none
    | inr some ↦ absurd (none-some e (ap (owner_of (s.past)) (some.1)))
  ]

  past-waits : (b : ℕ) (v : F.Content) → s.live b ≡ Some v → s.waits (s.past) ≡ true
  past-waits b v e = elim (cases_Bool (s.waits (s.past))) [ inl wait ↦ wait | inr clean ↦ absurd (none-some (is.clean clean b) e) ]

  held-by : (i : ℕ) → ((if (i == s.past) && s.waits i then Ex else Un) ≡ Un → ⊥) → i ≡ s.past
  held-by i held = elim (cases_Bool (i == s.past)) [
    | inl e ↦ eqb-true i (s.past) e
    | inr e ↦ absurd (held (ap (λ z. if z && s.waits i then Ex else Un) e))
  ]

  not-un : {z : State} → z ≡ Ex → z ≡ Un → ⊥
  not-un e f = cc

  image : (cut : ℕ → ℕ) → W F (starting_book F s) cut ≡ s.image
  image cut = λ k b. one b (s.live b) k
    where
      one : (b : ℕ) (o : Option F.Content) → whose (owner_of (s.past) o) (s.image b) (λ i. s.image b) ≡ s.image b
      one b None = refl
      one b (Some v) = refl

  content : (b : ℕ) → laid (s.live b) (s.blocks b) ≡ (s.image b).content
  content b = elim (split (s.live b)) [
    | inl none ↦ ap (λ o. laid o (s.blocks b)) none ∙ sym (is.rest b none)
    | inr some ↦ ap (λ o. laid o (s.blocks b)) (some.1) ∙ sym (is.replayed b (some.0) (some.1))
  ]

  mirror : Mirror F (starting_book F s) (starting_disk F s)
  mirror = record {
    cuts = λ i c. (omega arith, omega arith);
    alone = λ i. refl;
    lives = λ i c b v e. elim (cases_eq i (s.past)) [
      | inl same ↦ ap (owner_of (s.past)) (sym (cond-true (i == s.past) (s.live b) None (eq-eqb i (s.past) same)) ∙ e) ∙ ap (λ k. Some k) (sym same)
      | inr ne ↦ absurd (none-some (cond-false (i == s.past) (s.live b) None (eqb-false i (s.past) ne)) e)
    ];
    nobody = λ b none. inl (is.rest b (owner-none b none));
    owned = λ i c b own. inl (sym (ap (λ o. laid o (s.blocks b)) (cond-true (i == s.past) (s.live b) None (eq-eqb i (s.past) (owner-some b i own).0)) ∙ content b));
    flights = λ r b v e. absurd (none-some refl e);
  }

  pub starts : Starts F (started F s)
  starts = record {
    world = record {
      numbers = λ i. (refl, refl, refl, refl);
      uncached = λ i b. refl;
      unheard = (refl, refl);
      stands = subst (λ m. F.Stands m (s.tree)) (sym (image (λ i. 0))) (is.stands);
      owned = λ i b own. (let o = owner-some b i own in
          subst (λ k. (if (k == s.past) && s.waits k then Ex else Un) ≡ Ex) (sym (o.0))
          (ap (λ z. if z && s.waits (s.past) then Ex else Un) (eq-eqb (s.past) (s.past) refl) ∙ ap (λ z. if z then Ex else Un) (past-waits b (o.1).0 (o.1).1)));
      apart = λ i j l ex held. held-by i (not-un ex) ∙ sym (held-by j held);
      mirror = mirror;
    };
    locks = λ l i. refl;
    unheld = λ i l out. ap (λ z. if z && s.waits i then Ex else Un) (eqb-false i (s.past) out);
    gone = is.gone;
    clean = λ clean l. ap (λ z. if z && s.waits (s.past) then Ex else Un) (eq-eqb (s.past) (s.past) refl) ∙ ap (λ z. if z then Ex else Un) clean;
    fenced = λ i. refl;
    resting = λ r b. refl;
    headers = λ i. (refl, refl);
    unlost = λ i. refl;
  }

pub dirty_start : (F : Files) → StartsFromDisk F
dirty_start F s is = starts F s is
