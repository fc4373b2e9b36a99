-- The invariant, and what the mail and the nodes do to it.
use Rattle.std.proofs.Common.{ℕ, ◌≡◌, ◌≢◌, ◌⊎◌, ◌<◌, ◌≤◌, inl, inr, Bool, true, false, None, Some, List, [], ◌∷◌, ◌++◌, refl, sym, ap, ◌∙◌, subst}
use Rattle.std.specs.List.{filter_map}
use Rattle.std.proofs.lemmas.Bool.{cases_eq, cond-true}
use Rattle.glock_names.specs.declared.LockName.{LockName}
use Rattle.glock_names.specs.LockMaps.{with_lock}
use Rattle.dlm_modes.specs.declared.Mode.{Mode}
use Rattle.dlm_modes.specs.declared.Mode.TheVariants.{Nl}
use Rattle.dlm_modes.specs.Modes.{go_together, is_at_least}
use Rattle.dlm_modes.proofs.ModeLaws.{covers-itself, together-turned, together-weaker}
use Rattle.fencing.specs.NodeSets.{has}
use Rattle.mail_queues.specs.declared.Message.{Message}
use Rattle.mail_queues.specs.declared.Body.{Body}
use Rattle.mail_queues.specs.declared.Body.TheVariants.{Request, Convert, Down, Grant}
use Rattle.dlm_holder.specs.declared.Holding.{Holding}
use Rattle.dlm_holder.specs.Holdings.{Holdings, holding_of, mode_in, wanted_in, asked_for, granted_to, lowered_to}
use Rattle.dlm_master.specs.Claims.{mode_of_node, mode_at, Together}
use Rattle.dlm_master.specs.Laws.{IsSound}
use Rattle.lock_laws.specs.Lock.{at}
use Rattle.lock_steps.specs.Parts.{Post, way, with_letters, with_left}
use Rattle.lock_steps.specs.Ties.{in_view, grants}
use Rattle.lock_steps.specs.Calls.{MailCall, AskOver, Dropped, NoAsk}
use Rattle.lock_steps.proofs.Basics.{same-self, at-here, at-away, pairs}
use Rattle.lock_steps.proofs.Tying.{now-says, says-one, says-none, holding-is, holding-away}
use Rattle.lock_steps.proofs.Ways.{letters-say, letters-mute, letters-away, left-says, left-mute, left-away, letters-quiet-from, mail-keeps}
use Rattle.conversion_laws.specs.Parts.{LockParts, now_says, Tell, Reports, Ends, Lowers, Requests, Converts, tell_of, tells_coming, grants_coming, lock_in_table, table_mode}
use Rattle.conversion_laws.specs.Calls.{SaysAll, TellsHeld, TellsNone, NodeCall, NodeDropsNone, tells}
use Rattle.conversion_laws.specs.Calls as calls
use Rattle.conversion_laws.proofs.Stages.{Sight, Stage, sees, stands_by, stands, stands-more, stands-held}
use Rattle.conversion_laws.proofs.Stages as stages

abbrev pub sight : LockName → LockParts → ℕ → Sight
sight lock p k = record {
  taken = p.taken k;
  member = has p.members k;
  ended = has p.ended k;
  wanted = wanted_in (p.holders k) lock;
  mode = mode_in (p.holders k) lock;
  table = table_mode lock p k;
  waits = mode_of_node ((lock_in_table lock p).conversions ++ (lock_in_table lock p).requests) k;
  coming = tells_coming lock p k;
  granted = grants_coming lock p k;
}

-- the table is made anew
pub record UnderWay (lock : LockName) (p : LockParts) : Type 0 where
  pub rebuild : p.table.rebuild ≡ true
  -- it has nothing of others than the nodes 0 to 8
  pub far : (j : ℕ) → 8 < j → mode_at (lock_in_table lock p).held j ≡ Nl
  -- what nodes stand for goes together
  pub apart : (i k : ℕ) → i ≤ 8 → k ≤ 8 → i ≢ k → go_together (stands (sight lock p i)) (stands (sight lock p k)) ≡ true

-- only while the table is made anew may a node still be to report
abbrev pub StageOf : Type 0 → LockParts → Sight → Type 0
StageOf lossy p s = Stage lossy (p.rebuilding ≡ true) s

pub record Inv (lossy : Type 0) (lock : LockName) (p : LockParts) : Type 0 where
  pub master : p.master ≤ 8
  pub sound : IsSound (lock_in_table lock p)
  pub together : Together (lock_in_table lock p).held
  pub stages : (k : ℕ) → k ≤ 8 → StageOf lossy p (sight lock p k)
  pub under : p.rebuilding ≡ true → UnderWay lock p

-- a node is at a stage, and stands for no more than it stood for, while the table is made anew
abbrev pub Kept : Type 0 → LockParts → Sight → Sight → Type 0
Kept lossy p a b = StageOf lossy p b × (p.rebuilding ≡ true → is_at_least (stands a) (stands b) ≡ true)

pub as-same : (p : LockParts) (a b : Sight) → stands b ≡ stands a → p.rebuilding ≡ true → is_at_least (stands a) (stands b) ≡ true
as-same p a b e under = ap (λ (t : Mode). is_at_least (stands a) t) e ∙ covers-itself (stands a)

-- and so it does where what is seen of it is the same
pub kept-as : {lossy : Type 0} (p : LockParts) (a b c : Sight) → (b.taken ≡ c.taken) × (b.member ≡ c.member) × (b.ended ≡ c.ended) → b.wanted ≡ c.wanted → b.mode ≡ c.mode → b.table ≡ c.table → b.waits ≡ c.waits
    → b.coming ≡ c.coming → b.granted ≡ c.granted → Kept lossy p a b → Kept lossy p a c
kept-as {lossy} p a b c still wanted mode table waits coming granted kept = (
  sees b c still wanted mode table waits coming granted kept.0,
  λ r. ap (is_at_least (stands a)) (λ i. stands_by (sym still.0 i) (sym mode i) (sym table i) (sym coming i)) ∙ kept.1 r,
)

-- what is seen of it is what was
pub as-before : {lossy : Type 0} (p : LockParts) (a b : Sight) → (a.taken ≡ b.taken) × (a.member ≡ b.member) × (a.ended ≡ b.ended) → a.wanted ≡ b.wanted → a.mode ≡ b.mode → a.table ≡ b.table → a.waits ≡ b.waits
    → a.coming ≡ b.coming → a.granted ≡ b.granted → StageOf lossy p a → Kept lossy p a b
as-before {lossy} p a b still wanted mode table waits coming granted stage = (
  sees a b still wanted mode table waits coming granted stage,
  as-same p a b (λ i. stands_by (sym still.0 i) (sym mode i) (sym table i) (sym coming i)),
)

pub fades : (old new : ℕ → Mode) → ((k : ℕ) → k ≤ 8 → is_at_least (old k) (new k) ≡ true) → (i k : ℕ) → i ≤ 8 → k ≤ 8 → go_together (old i) (old k) ≡ true → go_together (new i) (new k) ≡ true
fades old new less i k x y goes =
    together-turned (new k) (new i) (together-weaker (new k) (old i) (new i) (together-turned (old i) (new k) (together-weaker (old i) (old k) (new k) goes (less k y))) (less i x))

-- the table stays as it is
pub unchanged : {lossy : Type 0} (lock : LockName) (p : LockParts) (holders : ℕ → Holdings) (taken : ℕ → Bool) (ended : ℕ) (post : Post) → Inv lossy lock p
    → ((k : ℕ) → k ≤ 8 → Kept lossy p (sight lock p k) (sight lock (record p { holders = holders; taken = taken; ended = ended; post = post }) k))
    → Inv lossy lock (record p { holders = holders; taken = taken; ended = ended; post = post })
unchanged {lossy} lock p holders taken ended post inv kept = record {
  master = inv.master;
  sound = inv.sound;
  together = inv.together;
  stages = λ k x. (kept k x).0;
  under = λ r. record {
    rebuild = (inv.under r).rebuild;
    far = (inv.under r).far;
    apart = λ i k x y ne. fades (λ j. stands (sight lock p j)) (λ j. stands (sight lock (record p { holders = holders; taken = taken; ended = ended; post = post }) j)) (λ j z. (kept j z).1 r) i k x y ((inv.under r).apart i k x y ne);
  };
}

-- ---- the mail

pub mail-keeps-inv : {lossy : Type 0} (lock : LockName) (p : LockParts) (post : Post) → MailCall p.post post → Inv lossy lock p → Inv lossy lock (record p { post = post })
mail-keeps-inv {lossy} lock p post call inv = unchanged lock p p.holders p.taken p.ended post inv (λ k x.
    as-before p (sight lock p k) (sight lock (record p { post = post }) k) (refl, refl, refl) refl refl refl refl
    (ap (filter_map (in_view p.table.generation (tell_of lock))) (sym (mail-keeps p.post post call k p.master x inv.master)))
    (ap (filter_map (in_view p.table.generation (grants lock))) (sym (mail-keeps p.post post call p.master k inv.master x)))
    (inv.stages k x))

-- ---- a node writes to the master

module _ {lossy : Type 0} (lock : LockName) (p : LockParts) (k : ℕ) (h : Holdings) (b : Body) (c : Tell) (inv : Inv lossy lock p) (taken : p.taken k ≡ true) (said : tell_of lock b ≡ Some c)
    (other : (m : Mode) → c ≡ Reports m → ⊥) (mute : grants lock b ≡ None) where
  abbrev letters : List Message
  letters = now_says p b ∷ []

  no-grants : filter_map (in_view p.table.generation (grants lock)) letters ≡ []
  no-grants = says-none (in_view p.table.generation (grants lock)) (now_says p b) (now-says (grants lock) p.table.generation b ∙ mute)

  comes-last : tells_coming lock (tells p k h b) k ≡ tells_coming lock p k ++ c ∷ []
  comes-last =
      letters-say (in_view p.table.generation (tell_of lock)) p.post k p.master letters
      ∙ ap (λ (cs : List Tell). tells_coming lock p k ++ cs)
      (says-one (in_view p.table.generation (tell_of lock)) (now_says p b) c (now-says (tell_of lock) p.table.generation b ∙ said))

  told-here : StageOf lossy p (record (sight lock p k) { wanted = wanted_in h lock; mode = mode_in h lock; coming = tells_coming lock p k ++ c ∷ [] }) → StageOf lossy p (sight lock (tells p k h b) k)
  told-here = sees _ (sight lock (tells p k h b) k) (refl, refl, refl)
      (ap (λ (h : Holdings). wanted_in h lock) (sym (at-here p.holders k h)))
      (ap (λ (h : Holdings). mode_in h lock) (sym (at-here p.holders k h)))
      refl refl (sym comes-last)
      (sym (letters-mute (in_view p.table.generation (grants lock)) p.post k p.master letters p.master k no-grants))

  -- it stands for what it stood for
  told-stands : stands (sight lock (tells p k h b) k) ≡ stands (sight lock p k)
  told-stands =
      let g : Mode = mode_in (p.holders k) lock in
      let m : Mode = mode_in (at p.holders k h k) lock in
      let t : Mode = table_mode lock p k in
      let q : List Tell = tells_coming lock p k in
      ap (λ (cs : List Tell). stands_by (p.taken k) m t cs) comes-last
      ∙ (ap (λ (b : Bool). stands_by b m t (q ++ c ∷ [])) taken ∙ (stands-more m g t q c other ∙ ap (λ (b : Bool). stands_by b g t q) (sym taken)))

  told-away : (j : ℕ) → j ≤ 8 → (j ≡ k → ⊥) → Kept lossy p (sight lock p j) (sight lock (tells p k h b) j)
  told-away j x ne = as-before p (sight lock p j) (sight lock (tells p k h b) j) (refl, refl, refl)
      (ap (λ (h : Holdings). wanted_in h lock) (sym (at-away p.holders k h j ne)))
      (ap (λ (h : Holdings). mode_in h lock) (sym (at-away p.holders k h j ne)))
      refl refl
      (ap (filter_map (in_view p.table.generation (tell_of lock))) (sym (letters-away p.post k p.master letters j p.master (λ e f. ne e))))
      (sym (letters-mute (in_view p.table.generation (grants lock)) p.post k p.master letters p.master j no-grants))
      (inv.stages j x)

  told : StageOf lossy p (record (sight lock p k) { wanted = wanted_in h lock; mode = mode_in h lock; coming = tells_coming lock p k ++ c ∷ [] }) → Inv lossy lock (tells p k h b)
  told stage = unchanged lock p (at p.holders k h) p.taken p.ended (with_letters p.post k p.master letters) inv (λ j x. elim (cases_eq j k) [
    | inl e ↦ subst (λ (i : ℕ). Kept lossy p (sight lock p i) (sight lock (tells p k h b) i)) (sym e) (told-here stage, as-same p (sight lock p k) (sight lock (tells p k h b) k) told-stands)
    | inr ne ↦ told-away j x ne
  ])

-- ---- a grant is taken, or any message dropped

abbrev less : LockParts → ℕ → ℕ → List Message → LockParts
less p from to rest = record p { post = with_left p.post from to rest }

module _ (lock : LockName) (p : LockParts) (from to : ℕ) (m : Message) (rest : List Message) (hand : p.post.took from to ≡ m ∷ rest)
    (quiet : to ≡ p.master → in_view p.table.generation (tell_of lock) m ≡ None) where
  -- the calls that come are the same
  pub calls-left : (j : ℕ) → filter_map (in_view p.table.generation (tell_of lock)) (way (with_left p.post from to rest) j p.master) ≡ tells_coming lock p j
  calls-left j = elim (pairs j p.master from to) [
    | inl e ↦ left-mute (in_view p.table.generation (tell_of lock)) p.post from to m rest j p.master hand
        (subst (λ (i : ℕ). in_view p.table.generation (tell_of lock) m ≡ None) (sym e.0) (quiet (sym e.1)))
    | inr ne ↦ ap (filter_map (in_view p.table.generation (tell_of lock))) (left-away p.post from to rest j p.master ne)
  ]

module _ (lock : LockName) (p : LockParts) (k : ℕ) (m : Message) (rest : List Message) (mode : Mode) (hand : p.post.took p.master k ≡ m ∷ rest)
    (grant : in_view p.table.generation (grants lock) m ≡ Some mode) where
  abbrev left : List Mode
  left = filter_map (in_view p.table.generation (grants lock)) (way (with_left p.post p.master k rest) p.master k)

  pub grant-first : grants_coming lock p k ≡ mode ∷ left
  grant-first = left-says (in_view p.table.generation (grants lock)) p.post p.master k m rest mode hand grant

  -- another node sees nothing of it
  away : {lossy : Type 0} (h : Holdings) (j : ℕ) → (j ≡ k → ⊥) → (k ≡ p.master → in_view p.table.generation (tell_of lock) m ≡ None)
      → StageOf lossy p (sight lock p j) → Kept lossy p (sight lock p j) (sight lock (record p { holders = at p.holders k h; post = with_left p.post p.master k rest }) j)
  away {lossy} h j ne quiet = as-before p (sight lock p j) (sight lock (record p { holders = at p.holders k h; post = with_left p.post p.master k rest }) j) (refl, refl, refl)
      (ap (λ (h : Holdings). wanted_in h lock) (sym (at-away p.holders k h j ne)))
      (ap (λ (h : Holdings). mode_in h lock) (sym (at-away p.holders k h j ne)))
      refl refl (sym (calls-left lock p p.master k m rest hand quiet j))
      (ap (filter_map (in_view p.table.generation (grants lock))) (sym (left-away p.post p.master k rest p.master j (λ e f. ne f))))

-- ---- a node takes the view

abbrev viewed : LockName → LockParts → ℕ → Holdings → List Message → LockParts
viewed lock p k h letters = record p { holders = at p.holders k h; taken = at p.taken k true; post = with_letters p.post k p.master letters }

-- its ask is over, and it holds what it held
over-wanted : (lock : LockName) (g h : Holdings) → AskOver lock g h → wanted_in h lock ≡ None
over-wanted lock g _ Dropped = ap (λ (x : Holding). x.wanted) (holding-is g lock (record (holding_of g lock) { wanted = None }))
over-wanted lock g _ (NoAsk none) = none

pub over-mode : (lock : LockName) (g h : Holdings) → AskOver lock g h → mode_in h lock ≡ mode_in g lock
over-mode lock g _ Dropped = ap (λ (x : Holding). x.mode) (holding-is g lock (record (holding_of g lock) { wanted = None }))
over-mode lock g _ (NoAsk none) = refl

module _ {lossy : Type 0} (lock : LockName) (p : LockParts) (k : ℕ) (h : Holdings) (letters : List Message) (over : AskOver lock (p.holders k) h) (not : p.taken k ≡ false)
    (says : SaysAll lock p k letters) (mute : filter_map (in_view p.table.generation (grants lock)) letters ≡ []) (stage : StageOf lossy p (sight lock p k)) where
  abbrev said : List Tell
  said = filter_map (in_view p.table.generation (tell_of lock)) letters

  comes : tells_coming lock (viewed lock p k h letters) k ≡ tells_coming lock p k ++ said
  comes = letters-say (in_view p.table.generation (tell_of lock)) p.post k p.master letters

  holds : mode_in (at p.holders k h k) lock ≡ mode_in (p.holders k) lock
  holds = ap (λ (x : Holdings). mode_in x lock) (at-here p.holders k h) ∙ over-mode lock (p.holders k) h over

  tells-all : (said ≡ Reports (mode_in (p.holders k) lock) ∷ Ends ∷ []) ⊎ ((mode_in (p.holders k) lock ≡ Nl) × (said ≡ Ends ∷ []))
  tells-all = by says
    where
      by : SaysAll lock p k letters → (said ≡ Reports (mode_in (p.holders k) lock) ∷ Ends ∷ []) ⊎ ((mode_in (p.holders k) lock ≡ Nl) × (said ≡ Ends ∷ []))
      by (TellsHeld e) = inl e
      by (TellsNone null e) = inr (null, e)

  -- it stands for what it holds, before and after
  viewed-stands : stands (sight lock (viewed lock p k h letters) k) ≡ stands (sight lock p k)
  viewed-stands =
      let m : Mode = mode_in (at p.holders k h k) lock in
      let g : Mode = mode_in (p.holders k) lock in
      let t : Mode = table_mode lock p k in
      let u = stages.untaken (sight lock p k) stage not in
      let here : stands (sight lock p k) ≡ g = ap (λ (b : Bool). stands_by b g t (tells_coming lock p k)) not in
      let there : tells_coming lock (viewed lock p k h letters) k ≡ said = comes ∙ ap (λ (cs : List Tell). cs ++ said) u.4 in
      ap (λ (b : Bool). stands_by b m t (tells_coming lock (viewed lock p k h letters) k)) (at-here p.taken k true)
      ∙ (ap (stands_by true m t) there ∙ (elim tells-all [
        | inl held ↦ ap (stands_by true m t) held
        | inr none ↦ ap (stands_by true m t) none.1 ∙ (u.3 ∙ sym none.0)
      ] ∙ sym here))

  view-taken : Kept lossy p (sight lock p k) (sight lock (viewed lock p k h letters) k)
  view-taken = (
    sees _ (sight lock (viewed lock p k h letters) k) (sym (at-here p.taken k true), refl, refl)
        (sym (ap (λ (x : Holdings). wanted_in x lock) (at-here p.holders k h) ∙ over-wanted lock (p.holders k) h over)) (sym holds) refl refl (sym comes)
        (sym (letters-mute (in_view p.table.generation (grants lock)) p.post k p.master letters p.master k mute))
        (stages.takes-view (sight lock p k) said stage not tells-all),
    as-same p (sight lock p k) (sight lock (viewed lock p k h letters) k) viewed-stands,
  )

-- ---- the calls

pub node-keeps : {lossy : Type 0} (lock : LockName) (p q : LockParts) (call : NodeCall lock p q) → lossy ⊎ NodeDropsNone lock p q call → Inv lossy lock p → Inv lossy lock q
node-keeps {lossy} lock p _ (calls.Asks k mode x t null none) may inv =
    let h : Holdings = asked_for (p.holders k) lock mode in
    let now : holding_of h lock ≡ record (holding_of (p.holders k) lock) { wanted = Some mode } = holding-is (p.holders k) lock (record (holding_of (p.holders k) lock) { wanted = Some mode }) in
    told lock p k h (Request lock mode) (Requests mode) inv t (cond-true _ _ _ (same-self lock)) (λ m e. absurd (let f : Requests mode ≡ Reports m = e in cc)) refl
    (sees _ _ (refl, refl, refl) (ap (λ (x : Holding). x.wanted) (sym now)) (ap (λ (x : Holding). x.mode) (sym now)) refl refl refl refl (stages.asks (sight lock p k) mode (inv.stages k x) t none null))
node-keeps {lossy} lock p _ (calls.Raises k mode x t some covers none) may inv =
    let h : Holdings = asked_for (p.holders k) lock mode in
    let now : holding_of h lock ≡ record (holding_of (p.holders k) lock) { wanted = Some mode } = holding-is (p.holders k) lock (record (holding_of (p.holders k) lock) { wanted = Some mode }) in
    told lock p k h (Convert lock mode) (Converts mode) inv t (cond-true _ _ _ (same-self lock)) (λ m e. absurd (let f : Converts mode ≡ Reports m = e in cc)) refl
    (sees _ _ (refl, refl, refl) (ap (λ (x : Holding). x.wanted) (sym now)) (ap (λ (x : Holding). x.mode) (sym now)) refl refl refl refl (stages.raises (sight lock p k) mode (inv.stages k x) t none some covers))
node-keeps {lossy} lock p _ (calls.Lowers k mode value x t known covers none) may inv =
    let h : Holdings = lowered_to (p.holders k) lock mode in
    let now : holding_of h lock ≡ record (holding_of (p.holders k) lock) { mode = mode } = holding-is (p.holders k) lock (record (holding_of (p.holders k) lock) { mode = mode }) in
    told lock p k h (Down lock mode value) (Lowers mode value) inv t (cond-true _ _ _ (same-self lock)) (λ m e. absurd (let f : Lowers mode value ≡ Reports m = e in cc)) refl
    (sees _ _ (refl, refl, refl) (ap (λ (x : Holding). x.wanted) (sym now)) (ap (λ (x : Holding). x.mode) (sym now)) refl refl refl refl (stages.lowers (sight lock p k) mode value (inv.stages k x) t none covers))
node-keeps {lossy} lock p _ (calls.LowersBefore k mode x not covers) may inv =
    let h : Holdings = lowered_to (p.holders k) lock mode in
    let now : holding_of h lock ≡ record (holding_of (p.holders k) lock) { mode = mode } = holding-is (p.holders k) lock (record (holding_of (p.holders k) lock) { mode = mode }) in
    let q : LockParts = record p { holders = at p.holders k h } in
    let held : mode_in (q.holders k) lock ≡ mode = ap (λ (h : Holdings). mode_in h lock) (at-here p.holders k h) ∙ ap (λ (x : Holding). x.mode) now in
    unchanged lock p (at p.holders k h) p.taken p.ended p.post inv (λ j y. elim (cases_eq j k) [
      | inl e ↦ subst (λ (i : ℕ). Kept lossy p (sight lock p i) (sight lock q i)) (sym e) (
        stages.still-untaken (sight lock p k) (wanted_in (q.holders k) lock) (mode_in (q.holders k) lock) (inv.stages k x) not,
        λ r. ap (λ (t : Mode). is_at_least t (stands (sight lock q k))) (ap (λ (b : Bool). stands_by b (mode_in (p.holders k) lock) (table_mode lock p k) (tells_coming lock p k)) not)
            ∙ (ap (λ (t : Mode). is_at_least (mode_in (p.holders k) lock) t) (ap (λ (b : Bool). stands_by b (mode_in (q.holders k) lock) (table_mode lock p k) (tells_coming lock p k)) not ∙ held) ∙ covers),
      )
      | inr ne ↦ as-before p (sight lock p j) (sight lock q j) (refl, refl, refl)
          (ap (λ (h : Holdings). wanted_in h lock) (sym (at-away p.holders k h j ne))) (ap (λ (h : Holdings). mode_in h lock) (sym (at-away p.holders k h j ne))) refl refl refl refl (inv.stages j y)
    ])
node-keeps {lossy} lock p _ (calls.TakesView k h letters over x not old says mute) may inv =
    unchanged lock p (at p.holders k h) (at p.taken k true) p.ended (with_letters p.post k p.master letters) inv (λ j y. elim (cases_eq j k) [
      | inl e ↦ subst (λ (i : ℕ). Kept lossy p (sight lock p i) (sight lock (viewed lock p k h letters) i)) (sym e) (view-taken lock p k h letters over not says mute (inv.stages k x))
      | inr ne ↦ as-before p (sight lock p j) (sight lock (viewed lock p k h letters) j) (sym (at-away p.taken k true j ne), refl, refl)
          (ap (λ (h : Holdings). wanted_in h lock) (sym (at-away p.holders k h j ne))) (ap (λ (h : Holdings). mode_in h lock) (sym (at-away p.holders k h j ne))) refl refl
          (ap (filter_map (in_view p.table.generation (tell_of lock))) (sym (letters-away p.post k p.master letters j p.master (λ e f. ne e))))
          (sym (letters-mute (in_view p.table.generation (grants lock)) p.post k p.master letters p.master j mute)) (inv.stages j y)
    ])
node-keeps {lossy} lock p _ (calls.IsGranted k mode value rest x hand) may inv =
    let m : Message = now_says p (Grant lock mode value) in
    let grant : in_view p.table.generation (grants lock) m ≡ Some mode = now-says (grants lock) p.table.generation (Grant lock mode value) ∙ cond-true _ _ _ (same-self lock) in
    let h : Holdings = granted_to (p.holders k) lock mode value in
    let now : holding_of h lock ≡ record { mode = mode; wanted = None; value = value } = holding-is (p.holders k) lock (record { mode = mode; wanted = None; value = value }) in
    let q : LockParts = record p { holders = at p.holders k h; post = with_left p.post p.master k rest } in
    let quiet : (from : ℕ) → in_view p.table.generation (tell_of lock) m ≡ None = λ from. now-says (tell_of lock) p.table.generation (Grant lock mode value) in
    let first = grant-first lock p k m rest mode hand grant in
    unchanged lock p (at p.holders k h) p.taken p.ended (with_left p.post p.master k rest) inv (λ j y. elim (cases_eq j k) [
      | inl e ↦ subst (λ (i : ℕ). Kept lossy p (sight lock p i) (sight lock q i)) (sym e) (
        sees _ (sight lock q k) (refl, refl, refl)
            (ap (λ (x : Holding). x.wanted) (sym now) ∙ ap (λ (h : Holdings). wanted_in h lock) (sym (at-here p.holders k h)))
            (ap (λ (x : Holding). x.mode) (sym now) ∙ ap (λ (h : Holdings). mode_in h lock) (sym (at-here p.holders k h)))
            refl refl (sym (calls-left lock p p.master k m rest hand (λ e. quiet p.master) k)) refl
            (stages.takes (sight lock p k) mode _ (inv.stages k x) first),
        as-same p (sight lock p k) (sight lock q k)
            (ap (stands_by (p.taken k) (mode_in (q.holders k) lock) (table_mode lock p k)) (calls-left lock p p.master k m rest hand (λ e. quiet p.master) k)
            ∙ stands-held (p.taken k) (mode_in (q.holders k) lock) (mode_in (p.holders k) lock) (table_mode lock p k) (tells_coming lock p k) (stages.was-asked (sight lock p k) mode _ (inv.stages k x) first).0),
      )
      | inr ne ↦ away lock p k m rest mode hand grant h j ne (λ e. quiet p.master) (inv.stages j y)
    ])
node-keeps {lossy} lock p _ (calls.DropsGrant k mode value rest x hand) may inv =
    unchanged lock p p.holders p.taken p.ended (with_left p.post p.master k rest) inv (λ j y. elim (cases_eq j k) [
      | inl e ↦ subst (λ (i : ℕ). Kept lossy p (sight lock p i) (sight lock q i)) (sym e) (
        sees _ (sight lock q k) (refl, refl, refl) refl refl refl refl (sym (calls-left lock p p.master k m rest hand (λ e. quiet p.master) k)) refl
            (stages.drops (lost-it may) (sight lock p k) mode (grants_coming lock q k) (inv.stages k x) (grant-first lock p k m rest mode hand grant)),
        as-same p (sight lock p k) (sight lock q k) (ap (stands_by (p.taken k) (mode_in (p.holders k) lock) (table_mode lock p k)) (calls-left lock p p.master k m rest hand (λ e. quiet p.master) k)),
      )
      | inr ne ↦ as-before p (sight lock p j) (sight lock q j) (refl, refl, refl) refl refl refl refl (sym (calls-left lock p p.master k m rest hand (λ e. quiet p.master) j))
          (ap (filter_map (in_view p.table.generation (grants lock))) (sym (left-away p.post p.master k rest p.master j (λ e f. ne f)))) (inv.stages j y)
    ])
  where
    m : Message
    m = now_says p (Grant lock mode value)

    grant : in_view p.table.generation (grants lock) m ≡ Some mode
    grant = now-says (grants lock) p.table.generation (Grant lock mode value) ∙ cond-true _ _ _ (same-self lock)

    quiet : (from : ℕ) → in_view p.table.generation (tell_of lock) m ≡ None
    quiet from = now-says (tell_of lock) p.table.generation (Grant lock mode value)

    q : LockParts
    q = less p p.master k rest

    lost-it : lossy ⊎ ⊥ → lossy
    lost-it (inl l) = l
    lost-it (inr n) = absurd n
node-keeps {lossy} lock p _ (calls.Drops from to m rest x y hand quiet mute) may inv =
    unchanged lock p p.holders p.taken p.ended (with_left p.post from to rest) inv (λ j z.
    as-before p (sight lock p j) (sight lock (less p from to rest) j) (refl, refl, refl) refl refl refl refl (sym (calls-left lock p from to m rest hand quiet j)) (sym (same j)) (inv.stages j z))
  where
    -- no grant is dropped
    same : (j : ℕ) → grants_coming lock (less p from to rest) j ≡ grants_coming lock p j
    same j = elim (cases_eq from p.master) [
      | inl is ↦ left-mute (in_view p.table.generation (grants lock)) p.post from to m rest p.master j hand (mute is)
      | inr ne ↦ ap (filter_map (in_view p.table.generation (grants lock))) (left-away p.post from to rest p.master j (λ a b. ne (sym a)))
    ]
node-keeps {lossy} lock p _ (calls.Writes from to letters x y old calls grants') may inv =
    unchanged lock p p.holders p.taken p.ended (with_letters p.post from to letters) inv (λ j z.
    as-before p (sight lock p j) (sight lock (record p { post = with_letters p.post from to letters }) j) (refl, refl, refl) refl refl refl refl (sym (same j))
    (sym (letters-quiet-from (in_view p.table.generation (grants lock)) p.post from to letters p.master j grants')) (inv.stages j z))
  where
    same : (j : ℕ) → filter_map (in_view p.table.generation (tell_of lock)) (way (with_letters p.post from to letters) j p.master) ≡ tells_coming lock p j
    same j = elim (pairs j p.master from to) [
      | inl e ↦ letters-mute (in_view p.table.generation (tell_of lock)) p.post from to letters j p.master
          (subst (λ (i : ℕ). filter_map (in_view p.table.generation (tell_of lock)) letters ≡ []) (sym e.0) (calls (sym e.1)))
      | inr ne ↦ ap (filter_map (in_view p.table.generation (tell_of lock))) (letters-away p.post from to letters j p.master ne)
    ]
node-keeps {lossy} lock p _ (calls.HoldsElsewhere k other holding ne) may inv =
    unchanged lock p (at p.holders k (with_lock (p.holders k) other holding)) p.taken p.ended p.post inv (λ j x.
    as-before p (sight lock p j) (sight lock (record p { holders = at p.holders k (with_lock (p.holders k) other holding) }) j) (refl, refl, refl)
    (ap (λ (x : Holding). x.wanted) (sym (held j))) (ap (λ (x : Holding). x.mode) (sym (held j))) refl refl refl refl (inv.stages j x))
  where
    held : (i : ℕ) → holding_of (at p.holders k (with_lock (p.holders k) other holding) i) lock ≡ holding_of (p.holders i) lock
    held i = elim (cases_eq i k) [
      | inl e ↦ subst (λ (j : ℕ). holding_of (at p.holders k (with_lock (p.holders k) other holding) j) lock ≡ holding_of (p.holders j) lock) (sym e)
          (ap (λ (h : Holdings). holding_of h lock) (at-here p.holders k (with_lock (p.holders k) other holding)) ∙ holding-away (p.holders k) lock other holding ne)
      | inr away ↦ ap (λ (h : Holdings). holding_of h lock) (at-away p.holders k (with_lock (p.holders k) other holding) i away)
    ]
