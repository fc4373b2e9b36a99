-- What an event does to one lock.
use Rattle.std.proofs.Common.{ℕ, ◌≡◌, ◌⊎◌, inl, inr, true, false, None, Some, refl, sym, ap, ◌∙◌, subst}
use Rattle.std.proofs.lemmas.Bool.{cond-false}
use Rattle.cluster_laws.specs.Files.{State, Un, Sh, Df, Ex}
use Rattle.cluster_laws.proofs.Cells.{at-same, at-other, at-cases}
use Rattle.lock_laws.specs.Lock.{Node, leq, eff, Fine, ExAlone}
use Rattle.lock_laws.specs.Lock as lock
use Rattle.lock_laws.proofs.Keeping.{step_keeps, idle-step}
use Rattle.cluster_events.specs.Cluster.{Sends, Rests, OfOne, Granted, Receives, NoGrant, Takes, Weakens, Keeps, GoesTo}

pub un-or-held : (s : State) → (s ≡ Un) ⊎ (s ≡ Un → ⊥)
un-or-held Un = inl refl
un-or-held Sh = inr (λ e. cc)
un-or-held Df = inr (λ e. cc)
un-or-held Ex = inr (λ e. cc)

pub un-ex : {s : State} → s ≡ Un → s ≡ Ex → ⊥
un-ex e f = cc

abbrev pub Makes : (ℕ → Node) → (ℕ → Node) → Type 0
Makes l l' = (l' ≡ l) ⊎ lock.Step l l'

pub makes-sound : (l l' : ℕ → Node) → Makes l l' → lock.Sound l → lock.Sound l'
makes-sound l l' (inl e) s = subst (λ z. lock.Sound z) (sym e) s
makes-sound l l' (inr step) s = (step_keeps l l' step s).0

abbrev pub IsIdle : (ℕ → Node) → Type 0
IsIdle l = (i : ℕ) → ((l i).state ≡ Un) × ((l i).down ≡ None)

pub makes-idle : (k : ℕ) (l l' : ℕ → Node) → Makes l l' → (l' k).waits ≡ true → IsIdle l → IsIdle l'
makes-idle k l l' (inl e) w h = subst (λ z. IsIdle z) (sym e) h
makes-idle k l l' (inr step) w h = idle-step k l l' step w h

-- ---- messages

pub sends-makes : (l l' : ℕ → Node) → Sends l l' → Makes l l'
sends-makes l _ Rests = inl refl
sends-makes l _ (OfOne k n move s w m) = inr (lock.Moves k n move)
sends-makes l _ (Granted k s ready runs wants all) = inr (lock.Grants k s ready runs wants all)

pub sends-same : {A : Type 0} (f : Node → A) → ((n : Node) (s : State) → f (record n { table = s; wants = None; down = Some s }) ≡ f n)
    → ((l : ℕ → Node) (k : ℕ) (n : Node) → n.state ≡ (l k).state → n.waits ≡ (l k).waits → n.member ≡ (l k).member → f n ≡ f (l k))
    → (l l' : ℕ → Node) → Sends l l' → (i : ℕ) → f (l' i) ≡ f (l i)
sends-same f grant one l _ Rests i = refl
sends-same f grant one l _ (OfOne k n move s w m) i = at-cases (λ z. f z ≡ f (l i)) l k n i (λ e. one l k n s w m ∙ ap (λ z. f (l z)) (sym e)) (λ ne. refl)
sends-same f grant one l _ (Granted k s ready runs wants all) i = at-cases (λ z. f z ≡ f (l i)) l k (record (l k) { table = s; wants = None; down = Some s }) i
    (λ e. grant (l k) s ∙ ap (λ z. f (l z)) (sym e)) (λ ne. refl)

pub sends-state : (l l' : ℕ → Node) → Sends l l' → (i : ℕ) → (l' i).state ≡ (l i).state
sends-state = sends-same (λ n. n.state) (λ n s. refl) (λ l k n s w m. s)

pub sends-waits : (l l' : ℕ → Node) → Sends l l' → (i : ℕ) → (l' i).waits ≡ (l i).waits
sends-waits = sends-same (λ n. n.waits) (λ n s. refl) (λ l k n s w m. w)

pub sends-member : (l l' : ℕ → Node) → Sends l l' → (i : ℕ) → (l' i).member ≡ (l i).member
sends-member = sends-same (λ n. n.member) (λ n s. refl) (λ l k n s w m. m)

-- ---- a grant is taken

pub receives-makes : (i : ℕ) (l l' : ℕ → Node) → Receives i l l' → Makes l l'
receives-makes i l _ NoGrant = inl refl
receives-makes i l _ (Takes s down member fresh runs) = inr (lock.Moves i _ (lock.Receives s down member fresh runs))

pub receives-same : {A : Type 0} (f : Node → A) → ((n : Node) (s : State) → f (record n { state = s; asked = false; down = None }) ≡ f n)
    → (i : ℕ) (l l' : ℕ → Node) → Receives i l l' → (k : ℕ) → f (l' k) ≡ f (l k)
receives-same f same i l _ NoGrant k = refl
receives-same f same i l _ (Takes s down member fresh runs) k = at-cases (λ z. f z ≡ f (l k)) l i (record (l i) { state = s; asked = false; down = None }) k
    (λ e. same (l i) s ∙ ap (λ z. f (l z)) (sym e)) (λ ne. refl)

pub receives-other : (i : ℕ) (l l' : ℕ → Node) → Receives i l l' → (k : ℕ) → (k ≡ i → ⊥) → (l' k).state ≡ (l k).state
receives-other i l _ NoGrant k ne = refl
receives-other i l _ (Takes s down member fresh runs) k ne = ap (λ (n : Node). n.state) (at-other l i (record (l i) { state = s; asked = false; down = None }) k ne)

pub receives-held : (i : ℕ) (l l' : ℕ → Node) → Receives i l l' → lock.Sound l → ((l i).state ≡ Un → ⊥) → (l' i).state ≡ (l i).state
receives-held i l _ NoGrant s held = refl
receives-held i l _ (Takes t down member fresh runs) s held = absurd (held (sym (cond-false _ _ _ runs) ∙ ((s.fine i).granted t down).2))

-- ---- a state goes down

pub weakens-makes : (i : ℕ) (l l' : ℕ → Node) → Weakens i l l' → Makes l l'
weakens-makes i l _ Keeps = inl refl
weakens-makes i l _ (GoesTo s member fresh taken runs low held less) = inr (lock.Moves i _ (lock.Lowers s member fresh taken runs low held))

pub weakens-same : {A : Type 0} (f : Node → A) → ((n m : Node) → m.member ≡ n.member → m.waits ≡ n.waits → f m ≡ f n)
    → (i : ℕ) (l l' : ℕ → Node) → Weakens i l l' → (k : ℕ) → f (l' k) ≡ f (l k)
weakens-same f same i l _ Keeps k = refl
weakens-same f same i l _ (GoesTo s member fresh taken runs low held less) k = at-cases (λ z. f z ≡ f (l k)) l i _ k
    (λ e. same (l i) _ refl refl ∙ ap (λ z. f (l z)) (sym e)) (λ ne. refl)

pub weakens-other : (i : ℕ) (l l' : ℕ → Node) → Weakens i l l' → (k : ℕ) → (k ≡ i → ⊥) → (l' k).state ≡ (l k).state
weakens-other i l _ Keeps k ne = refl
weakens-other i l _ (GoesTo s member fresh taken runs low held less) k ne = ap (λ (n : Node). n.state) (at-other l i _ k ne)

leq-ex : (s t : State) → leq s t ≡ true → s ≡ Ex → t ≡ Ex
leq-ex Un t p e = absurd cc
leq-ex Sh t p e = absurd cc
leq-ex Df t p e = absurd cc
leq-ex Ex Un p e = absurd (let f : false ≡ true = p in cc)
leq-ex Ex Sh p e = absurd (let f : false ≡ true = p in cc)
leq-ex Ex Df p e = absurd (let f : false ≡ true = p in cc)
leq-ex Ex Ex p e = refl

pub weakens-ex : (i : ℕ) (l l' : ℕ → Node) → Weakens i l l' → (l' i).state ≡ Ex → (l i).state ≡ Ex
weakens-ex i l _ Keeps ex = ex
weakens-ex i l _ (GoesTo s member fresh taken runs low held less) ex = leq-ex s ((l i).state) low (sym (ap (λ (n : Node). n.state) (at-same l i _)) ∙ ex)

pub weakens-un : (i : ℕ) (l l' : ℕ → Node) → Weakens i l l' → (l i).state ≡ Un → (l' i).state ≡ Un
weakens-un i l _ Keeps un = un
weakens-un i l _ (GoesTo s member fresh taken runs low held less) un = absurd (held un)
