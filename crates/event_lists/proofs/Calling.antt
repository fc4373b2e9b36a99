-- Steps of the lock manager as events.
use Rattle.std.proofs.Common.{ℕ, inl, inr, false, None, [], ◌∷◌, ◌++◌, refl, sym, ◌∙◌, subst}
use Rattle.cluster_laws.specs.Files.{Files}
use Rattle.cluster_events.specs.Cluster.{Sends, Rests, OfOne, Granted, Receives, NoGrant, Takes, Weakens, Keeps, GoesTo, Works, Mails, IsGranted, GoesDown, Stops, Fences, Views, Joins, Recovers, PastEnds}
use Rattle.lock_laws.specs.Lock.{Node}
use Rattle.lock_laws.specs.Lock as lock
use Rattle.event_lists.specs.Calls.{IsMail, IsTaken, IsLowered, LockStepsFit, LocksMakeSteps}

sends : (l n : ℕ → Node) (step : lock.Step l n) → IsMail l n step → Sends l n
sends l _ (lock.Moves k _ (lock.Asks s member fresh taken waits un asked)) is = OfOne k _ (lock.Asks s member fresh taken waits un asked) refl refl refl
sends l _ (lock.Moves k _ (lock.HearsReport s q up)) is = OfOne k _ (lock.HearsReport s q up) refl refl refl
sends l _ (lock.Moves k _ (lock.HearsEnd q up)) is = OfOne k _ (lock.HearsEnd q up) refl refl refl
sends l _ (lock.Moves k _ (lock.HearsDown s q up)) is = OfOne k _ (lock.HearsDown s q up) refl refl refl
sends l _ (lock.Moves k _ (lock.HearsAsk s q up)) is = OfOne k _ (lock.HearsAsk s q up) refl refl refl
sends l _ (lock.Moves k _ (lock.Receives s down member fresh waits)) is = absurd is
sends l _ (lock.Moves k _ (lock.Drops s down)) is = OfOne k _ (lock.Drops s down) refl refl refl
sends l _ (lock.Moves k _ (lock.Lowers s member fresh taken waits weaker held)) is = absurd is
sends l _ (lock.Moves k _ (lock.TakesView member roll taken)) is = OfOne k _ (lock.TakesView member roll taken) refl refl refl
sends l _ (lock.Moves k _ lock.Stops) is = absurd is
sends l _ (lock.Moves k _ (lock.IsRecovered waits)) is = absurd is
sends l _ (lock.Moves k _ (lock.Joins member)) is = absurd is
sends l _ lock.Changes is = absurd is
sends l _ (lock.Grants k s heard none wants goes) is = Granted k s heard none wants goes

takes : (i : ℕ) (l n : ℕ → Node) (step : lock.Step l n) → IsTaken i l n step → Receives i l n
takes i l _ (lock.Moves k _ (lock.Asks s member fresh taken waits un asked)) is = absurd is
takes i l _ (lock.Moves k _ (lock.HearsReport s q up)) is = absurd is
takes i l _ (lock.Moves k _ (lock.HearsEnd q up)) is = absurd is
takes i l _ (lock.Moves k _ (lock.HearsDown s q up)) is = absurd is
takes i l _ (lock.Moves k _ (lock.HearsAsk s q up)) is = absurd is
takes i l _ (lock.Moves k _ (lock.Receives s down member fresh waits)) is =
    subst (λ z. Receives z l (lock.at l k (record (l k) { state = s; asked = false; down = None }))) is (Takes s down member fresh waits)
takes i l _ (lock.Moves k _ (lock.Drops s down)) is = absurd is
takes i l _ (lock.Moves k _ (lock.Lowers s member fresh taken waits weaker held)) is = absurd is
takes i l _ (lock.Moves k _ (lock.TakesView member roll taken)) is = absurd is
takes i l _ (lock.Moves k _ lock.Stops) is = absurd is
takes i l _ (lock.Moves k _ (lock.IsRecovered waits)) is = absurd is
takes i l _ (lock.Moves k _ (lock.Joins member)) is = absurd is
takes i l _ lock.Changes is = absurd is
takes i l _ (lock.Grants k s heard none wants goes) is = absurd is

lowers : (i : ℕ) (l n : ℕ → Node) (step : lock.Step l n) → IsLowered i l n step → Weakens i l n
lowers i l _ (lock.Moves k _ (lock.Asks s member fresh taken waits un asked)) is = absurd is
lowers i l _ (lock.Moves k _ (lock.HearsReport s q up)) is = absurd is
lowers i l _ (lock.Moves k _ (lock.HearsEnd q up)) is = absurd is
lowers i l _ (lock.Moves k _ (lock.HearsDown s q up)) is = absurd is
lowers i l _ (lock.Moves k _ (lock.HearsAsk s q up)) is = absurd is
lowers i l _ (lock.Moves k _ (lock.Receives s down member fresh waits)) is = absurd is
lowers i l _ (lock.Moves k _ (lock.Drops s down)) is = absurd is
lowers i l _ (lock.Moves k _ (lock.Lowers s member fresh taken waits weaker held)) is =
    subst (λ z. Weakens z l (lock.at l k (record (l k) { state = s; up = (l k).up ++ (lock.Lowered s ∷ []) }))) (is.0) (GoesTo s member fresh taken waits weaker held (is.1))
lowers i l _ (lock.Moves k _ (lock.TakesView member roll taken)) is = absurd is
lowers i l _ (lock.Moves k _ lock.Stops) is = absurd is
lowers i l _ (lock.Moves k _ (lock.IsRecovered waits)) is = absurd is
lowers i l _ (lock.Moves k _ (lock.Joins member)) is = absurd is
lowers i l _ lock.Changes is = absurd is
lowers i l _ (lock.Grants k s heard none wants goes) is = absurd is

pub lock_steps_fit : (F : Files) → LockStepsFit F
lock_steps_fit F c locks = record {
  mail = λ each. Mails locks (λ l. elim (each l) [
    | inl same ↦ subst (λ z. Sends (c.locks l) z) (sym same) Rests
    | inr one ↦ sends (c.locks l) (locks l) (one.0) (one.1)
  ]);
  taken = λ i each l. elim (each l) [
    | inl same ↦ subst (λ z. Receives i (c.locks l) z) (sym same) NoGrant
    | inr one ↦ takes i (c.locks l) (locks l) (one.0) (one.1)
  ];
  lowered = λ i each l. elim (each l) [
    | inl same ↦ subst (λ z. Weakens i (c.locks l) z) (sym same) Keeps
    | inr one ↦ lowers i (c.locks l) (locks l) (one.0) (one.1)
  ];
}

-- ---- events of all locks at once

pub locks_make : (F : Files) → LocksMakeSteps F
locks_make F c _ (Stops i here runs all) t = λ l. (lock.Moves i _ lock.Stops, refl)
locks_make F c _ Views t = λ l. (lock.Changes, tt)
locks_make F c _ (Joins i here out fenced waits) t = λ l. (lock.Moves i _ (lock.Joins (t.members i l ∙ out)), refl)
locks_make F c _ (Recovers i here wait nothing_left unheaded told) t = λ l. (lock.Moves i _ (lock.IsRecovered (t.waiting i l ∙ wait)), refl)
locks_make F c _ (PastEnds wait nothing_left unheaded) t = λ l. (lock.Moves (c.past) _ (lock.IsRecovered (t.waiting (c.past) l ∙ wait)), refl)
locks_make F c _ (Works w step may) t = tt
locks_make F c _ (Mails locks sent) t = tt
locks_make F c _ (IsGranted i locks here none taken) t = tt
locks_make F c _ (GoesDown i locks cache here weakens all clean cached) t = tt
locks_make F c _ (Fences i out unfenced idle) t = tt
