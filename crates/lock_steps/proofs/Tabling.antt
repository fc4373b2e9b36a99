-- The lock in a master's table, as what it has of each node.
use Rattle.std.proofs.Common.{ℕ, ◌≡◌, ◌≤◌, ◌<◌, ◌⊎◌, inl, inr, true, false, Option, None, Some, List, [], ◌∷◌, ◌++◌, map, refl, sym, ap, ◌∙◌, subst, arith}
use Rattle.std.specs.Prelude.{option_map, option_to_list}
use Rattle.std.specs.List.{AllByRecursion, filter_map}
use Rattle.std.proofs.lemmas.Bool.{cases_eq, cases_Bool, cond-true}
use Rattle.std.proofs.lemmas.List.{append-nil}
use Rattle.glock_names.specs.declared.LockName.{LockName}
use Rattle.glock_names.specs.States.{mode_for}
use Rattle.dlm_modes.specs.declared.Mode.{Mode}
use Rattle.dlm_modes.specs.declared.Mode.TheVariants.{Nl}
use Rattle.dlm_modes.specs.declared.ValueBlock.{ValueBlock}
use Rattle.dlm_modes.specs.Modes.{go_together}
use Rattle.dlm_modes.proofs.ModeLaws.{together-turned}
use Rattle.fencing.specs.NodeSets.{has}
use Rattle.mail_queues.specs.declared.Message.{Message}
use Rattle.mail_queues.specs.declared.Body.{Body}
use Rattle.mail_queues.specs.declared.Body.TheVariants.{Request, Down, Grant, Report}
use Rattle.dlm_master.specs.declared.claims.Claim.{Claim}
use Rattle.dlm_master.specs.Claims.{mode_of_node, mode_at, now_holding, in_way, OneEach, NeverNull}
use Rattle.dlm_master.proofs.ClaimLaws.{one-now}
use Rattle.dlm_master.proofs.SoundLaws.{null-now}
use Rattle.dlm_master.specs.LockState.{LockState}
use Rattle.dlm_master.specs.Locks.{claim}
use Rattle.dlm_master.specs.Tables.{lock_of}
use Rattle.dlm_rebuild.specs.Rebuilding.{RebuildState}
use Rattle.lock_laws.specs.Lock.{State, Un, Node, eff, at, goes, has_ask, Sound, Step, Moves, Grants, Move}
use Rattle.lock_laws.specs.Lock as machine
use Rattle.lock_steps.specs.Parts.{Parts, Post, way, now_says, with_left}
use Rattle.lock_steps.specs.Ties.{Tell, tell_of, Sight, sight, Fits, IsNobody, IsTable, Tied, in_view, tells, grants, present}
use Rattle.lock_steps.specs.Ties as ties
use Rattle.lock_steps.specs.Calls.{grant_letter}
use Rattle.lock_steps.proofs.Modes.{go-as-modes}
use Rattle.lock_steps.proofs.Basics.{up-to, true-false, same-self, at-here, at-away}
use Rattle.lock_steps.proofs.Ways.{letters-say, letters-mute, letters-away, letters-all, left-says, left-mute, left-away, left-all}
use Rattle.lock_steps.proofs.Tying.{now-says, says-one, says-none}
use Rattle.lock_steps.proofs.Claims.{now-here, now-away, among-here, among-away, among-gone, all-less, all-at, all-more, one-less, one-more, way-goes}

-- what is seen of node i where this is the lock in the table and this is on its way
abbrev pub sight_of : LockName → Parts → LockState → Post → ℕ → Sight
sight_of lock p t post i = record (sight lock p i) {
  table = mode_at t.held i;
  wants = mode_of_node t.requests i;
  up = filter_map (in_view p.membership.generation (tells lock)) (way post i p.master);
  down = filter_map (in_view p.membership.generation (grants lock)) (way post p.master i);
}

-- the same tie, with these
pub record TiedOf (lock : LockName) (p : Parts) (t : LockState) (post : Post) (l : ℕ → Node) : Type 0 where
  pub nodes : (i : ℕ) → i ≤ 8 → Fits (sight_of lock p t post i) (l i)
  pub others : (i : ℕ) → 8 < i → IsNobody (l i)
  pub table : IsTable t
  pub unheard : (i : ℕ) → i ≤ 8 → p.taken i ≡ false → mode_at t.held i ≡ Nl
  pub mail : (i k : ℕ) → i ≤ 8 → k ≤ 8 → AllByRecursion (λ m. m.generation ≤ p.membership.generation) (way post i k)

pub tied-of : (lock : LockName) (p : Parts) (l : ℕ → Node) → Tied lock p l → TiedOf lock p (present p lock) p.post l
tied-of lock p l tied = record { nodes = tied.nodes; others = tied.others; table = tied.table; unheard = tied.unheard; mail = tied.mail }

-- and back, where only the lock has changed in the table
pub tied-with : (lock : LockName) (p : Parts) (r : RebuildState) (post : Post) (l l' : ℕ → Node) → Tied lock p l → TiedOf lock p (lock_of r.master lock) post l'
    → r.members ≡ p.table.members → r.ended ≡ p.table.ended → r.master.rebuild ≡ p.table.master.rebuild
    → Tied lock (record p { table = r; post = post }) l'
tied-with lock p r post l l' tied now members ended rebuild = record {
  nodes = λ i x. subst (λ (s : Sight). Fits s (l' i)) (same i) (now.nodes i x);
  others = now.others;
  master = tied.master;
  table = now.table;
  done = λ e i x m. ap (λ (n : ℕ). has n i) ended ∙ tied.done (sym rebuild ∙ e) i x (ap (λ (n : ℕ). has n i) (sym members) ∙ m);
  unheard = now.unheard;
  mail = now.mail;
}
  where
    same : (i : ℕ) → sight_of lock p (lock_of r.master lock) post i ≡ sight lock (record p { table = r; post = post }) i
    same i t = record (sight_of lock p (lock_of r.master lock) post i) { roll = has (sym members t) i; heard = has (sym ended t) i }

-- ---- one node

module _ (lock : LockName) (p : Parts) (t u : LockState) (post now : Post) (l : ℕ → Node) (k : ℕ) (n : Node) (tied : TiedOf lock p t post l) (within : k ≤ 8) where
  -- node k is another one, and nothing is seen of that at other nodes
  pub one-of : Fits (sight_of lock p u now k) n → IsTable u → mode_at u.held k ≡ Nl ⊎ (p.taken k ≡ true)
      → ((i : ℕ) → (i ≡ k → ⊥) → mode_at u.held i ≡ mode_at t.held i) → ((i : ℕ) → (i ≡ k → ⊥) → mode_of_node u.requests i ≡ mode_of_node t.requests i)
      → ((i : ℕ) → i ≤ 8 → (i ≡ k → ⊥) → (sight_of lock p u now i).up ≡ (sight_of lock p t post i).up)
      → ((i : ℕ) → i ≤ 8 → (i ≡ k → ⊥) → (sight_of lock p u now i).down ≡ (sight_of lock p t post i).down)
      → ((i j : ℕ) → i ≤ 8 → j ≤ 8 → AllByRecursion (λ m. m.generation ≤ p.membership.generation) (way now i j))
      → TiedOf lock p u now (at l k n)
  one-of fits table here held requests up down mail = record {
    nodes = λ i x. elim (cases_eq i k) [
      | inl e ↦ subst (λ (j : ℕ). Fits (sight_of lock p u now j) (at l k n j)) (sym e) (subst (Fits (sight_of lock p u now k)) (sym (at-here l k n)) fits)
      | inr ne ↦ subst (Fits (sight_of lock p u now i)) (sym (at-away l k n i ne)) (subst (λ (s : Sight). Fits s (l i)) (same i x ne) (tied.nodes i x))
    ];
    others = λ i x. subst IsNobody (sym (at-away l k n i (λ e. absurd (omega (arith, e))))) (tied.others i x);
    table = table;
    unheard = λ i x e. elim (cases_eq i k) [
      | inl is ↦ elim here [
        | inl nl ↦ ap (mode_at u.held) is ∙ nl
        | inr taken ↦ true-false (ap p.taken is ∙ taken) e
      ]
      | inr ne ↦ held i ne ∙ tied.unheard i x e
    ];
    mail = mail;
  }
    where
      same : (i : ℕ) → i ≤ 8 → (i ≡ k → ⊥) → sight_of lock p t post i ≡ sight_of lock p u now i
      same i x ne j = record (sight_of lock p t post i) { table = sym (held i ne) j; wants = sym (requests i ne) j; up = sym (up i x ne) j; down = sym (down i x ne) j }

-- ---- what the first message of a node says

first-up : (ups : List machine.Message) (tell : Tell) (rest : List Tell) → tell ∷ rest ≡ map tell_of ups → (m : machine.Message) × (q : List machine.Message) × (ups ≡ m ∷ q) × (tell ≡ tell_of m) × (rest ≡ map tell_of q)
first-up [] tell rest e = absurd (let f : tell ∷ rest ≡ [] = e in cc)
first-up (m ∷ q) tell rest e = let f : tell ∷ rest ≡ tell_of m ∷ map tell_of q = e in (m, q, refl, (cc), (cc))

pub is-ask : (m : machine.Message) (mode : Mode) → ties.Asks mode ≡ tell_of m → (s : State) × (m ≡ machine.Asked s) × (mode ≡ mode_for s)
is-ask (machine.Asked s) mode e = let f : ties.Asks mode ≡ ties.Asks (mode_for s) = e in (s, refl, (cc))
is-ask (machine.Report s) mode e = absurd (let f : ties.Asks mode ≡ ties.Reports (mode_for s) = e in cc)
is-ask (machine.Lowered s) mode e = absurd (let f : ties.Asks mode ≡ ties.Lowers (mode_for s) = e in cc)
is-ask machine.End mode e = absurd (let f : ties.Asks mode ≡ ties.Ends = e in cc)

pub is-down : (m : machine.Message) (mode : Mode) → ties.Lowers mode ≡ tell_of m → (s : State) × (m ≡ machine.Lowered s) × (mode ≡ mode_for s)
is-down (machine.Lowered s) mode e = let f : ties.Lowers mode ≡ ties.Lowers (mode_for s) = e in (s, refl, (cc))
is-down (machine.Report s) mode e = absurd (let f : ties.Lowers mode ≡ ties.Reports (mode_for s) = e in cc)
is-down (machine.Asked s) mode e = absurd (let f : ties.Lowers mode ≡ ties.Asks (mode_for s) = e in cc)
is-down machine.End mode e = absurd (let f : ties.Lowers mode ≡ ties.Ends = e in cc)

pub is-report : (m : machine.Message) (mode : Mode) → ties.Reports mode ≡ tell_of m → (s : State) × (m ≡ machine.Report s) × (mode ≡ mode_for s)
is-report (machine.Report s) mode e = let f : ties.Reports mode ≡ ties.Reports (mode_for s) = e in (s, refl, (cc))
is-report (machine.Lowered s) mode e = absurd (let f : ties.Reports mode ≡ ties.Lowers (mode_for s) = e in cc)
is-report (machine.Asked s) mode e = absurd (let f : ties.Reports mode ≡ ties.Asks (mode_for s) = e in cc)
is-report machine.End mode e = absurd (let f : ties.Reports mode ≡ ties.Ends = e in cc)

pub is-end : (m : machine.Message) → ties.Ends ≡ tell_of m → m ≡ machine.End
is-end machine.End e = refl
is-end (machine.Lowered s) e = absurd (let f : ties.Ends ≡ ties.Lowers (mode_for s) = e in cc)
is-end (machine.Asked s) e = absurd (let f : ties.Ends ≡ ties.Asks (mode_for s) = e in cc)
is-end (machine.Report s) e = absurd (let f : ties.Ends ≡ ties.Reports (mode_for s) = e in cc)

module _ (lock : LockName) (p : Parts) (t : LockState) (post : Post) (l : ℕ → Node) (k : ℕ) (b : Body) (tell : Tell) (rest : List Message)
    (tied : TiedOf lock p t post l) (sound : Sound l) (within : k ≤ 8) (hand : post.took k p.master ≡ now_says p b ∷ rest) (said : tells lock b ≡ Some tell) (mute : grants lock b ≡ None) where
  -- the machine has it too
  pub first : (m : machine.Message) × (q : List machine.Message) × ((l k).up ≡ m ∷ q) × (tell ≡ tell_of m)
      × (filter_map (in_view p.membership.generation (tells lock)) (way (with_left post k p.master rest) k p.master) ≡ map tell_of q)
  first = first-up ((l k).up) tell _
      (sym (left-says (in_view p.membership.generation (tells lock)) post k p.master (now_says p b) rest tell hand (now-says (tells lock) p.membership.generation b ∙ said)) ∙ (tied.nodes k within).up)

  pub down-left : (i : ℕ) → filter_map (in_view p.membership.generation (grants lock)) (way (with_left post k p.master rest) p.master i)
      ≡ filter_map (in_view p.membership.generation (grants lock)) (way post p.master i)
  down-left i = left-mute (in_view p.membership.generation (grants lock)) post k p.master (now_says p b) rest p.master i hand (now-says (grants lock) p.membership.generation b ∙ mute)

  pub up-left : (i : ℕ) → (i ≡ k → ⊥) → filter_map (in_view p.membership.generation (tells lock)) (way (with_left post k p.master rest) i p.master)
      ≡ filter_map (in_view p.membership.generation (tells lock)) (way post i p.master)
  up-left i ne = ap (filter_map (in_view p.membership.generation (tells lock))) (left-away post k p.master rest i p.master (λ e f. ne e))

  pub mail-left : (i j : ℕ) → i ≤ 8 → j ≤ 8 → AllByRecursion (λ m. m.generation ≤ p.membership.generation) (way (with_left post k p.master rest) i j)
  mail-left i j x y = left-all (λ m. m.generation ≤ p.membership.generation) post k p.master (now_says p b) rest i j hand (tied.mail i j x y)

  -- who has something on its way has taken the view
  pub has-taken : p.taken k ≡ true
  has-taken = elim (cases_Bool (p.taken k)) [
    | inl was ↦ was
    | inr not_yet ↦ absurd (let f : first.0 ∷ first.1 ≡ [] = sym first.2 ∙ ((sound.fine k).bare (sym (tied.nodes k within).taken ∙ not_yet)).0 in cc)
  ]

-- ---- a step that comes to this

pub record Reaches (lock : LockName) (p : Parts) (t : LockState) (post : Post) (l : ℕ → Node) : Type 0 where
  pub state : ℕ → Node
  pub step : Step l state
  pub tied : TiedOf lock p t post state

-- the master takes an ask, and the node waits
pub hears-ask : (lock : LockName) (p : Parts) (t : LockState) (post : Post) (l : ℕ → Node) (k : ℕ) (mode : Mode) (rest : List Message)
    → TiedOf lock p t post l → Sound l → k ≤ 8 → post.took k p.master ≡ now_says p (Request lock mode) ∷ rest → mode_of_node t.requests k ≡ None
    → Reaches lock p (record t { requests = t.requests ++ claim k mode ∷ [] }) (with_left post k p.master rest) l
hears-ask lock p t post l k mode rest tied sound x hand none =
    let said : tells lock (Request lock mode) ≡ Some (ties.Asks mode) = cond-true _ _ _ (same-self lock) in
    let c = first lock p t post l k (Request lock mode) (ties.Asks mode) rest tied sound x hand said refl in
    let a = is-ask c.0 mode c.3 in
    let f = tied.nodes k x in
    let n : Node = record (l k) { wants = Some a.0; up = c.1 } in
    let one : OneEach (t.requests ++ claim k mode ∷ []) = one-more t.requests (claim k mode) (tied.table).asked_once none in
    record {
      state = at l k n;
      step = Moves k n (machine.HearsAsk a.0 c.1 (c.2 ∙ ap (λ (m : machine.Message). m ∷ c.1) a.1));
      tied = one-of lock p t (record t { requests = t.requests ++ claim k mode ∷ [] }) post (with_left post k p.master rest) l k n tied x
          (record {
            member = f.member;
            fresh = f.fresh;
            waits = f.waits;
            roll = f.roll;
            taken = f.taken;
            mode = f.mode;
            left = f.left;
            asked = f.asked;
            table = f.table;
            heard = f.heard;
            wants = among-here t.requests [] (claim k mode) one ∙ ap (λ (m : Mode). Some m) a.2;
            up = c.4;
            down = down-left lock p t post l k (Request lock mode) (ties.Asks mode) rest tied sound x hand said refl k ∙ f.down;
          })
          (record {
            never_converted = (tied.table).never_converted;
            held_once = (tied.table).held_once;
            never_null = (tied.table).never_null;
            asked_once = one;
            nodes = all-more (λ c. c.node ≤ 8) t.requests (claim k mode) (tied.table).nodes x;
          })
          (inr (has-taken lock p t post l k (Request lock mode) (ties.Asks mode) rest tied sound x hand said refl))
          (λ i ne. refl)
          (λ i ne. among-away t.requests [] (claim k mode) i ne ∙ ap (λ (cs : List Claim). mode_of_node cs i) (append-nil t.requests))
          (λ i y ne. up-left lock p t post l k (Request lock mode) (ties.Asks mode) rest tied sound x hand said refl i ne)
          (λ i y ne. down-left lock p t post l k (Request lock mode) (ties.Asks mode) rest tied sound x hand said refl i)
          (mail-left lock p t post l k (Request lock mode) (ties.Asks mode) rest tied sound x hand said refl);
    }

-- the table has this of the node, from a report or from a down of it
pub now-has : (lock : LockName) (p : Parts) (t : LockState) (held : List Claim) (value : ValueBlock) (post : Post) (l : ℕ → Node) (k : ℕ) (s : State) (q : List machine.Message) (b : Body) (tell : Tell) (rest : List Message)
    → TiedOf lock p t post l → Sound l → k ≤ 8 → post.took k p.master ≡ now_says p b ∷ rest → tells lock b ≡ Some tell → grants lock b ≡ None
    → filter_map (in_view p.membership.generation (tells lock)) (way (with_left post k p.master rest) k p.master) ≡ map tell_of q
    → Move (l k) (record (l k) { table = s; up = q })
    → mode_at held k ≡ mode_for s → ((i : ℕ) → (i ≡ k → ⊥) → mode_at held i ≡ mode_at t.held i) → OneEach held → NeverNull held
    → Reaches lock p (record t { held = held; value = value }) (with_left post k p.master rest) l
now-has lock p t held value post l k s q b tell rest tied sound x hand said mute ups move here away one null =
    let f = tied.nodes k x in
    let n : Node = record (l k) { table = s; up = q } in
    record {
      state = at l k n;
      step = Moves k n move;
      tied = one-of lock p t (record t { held = held; value = value }) post (with_left post k p.master rest) l k n tied x
          (record {
            member = f.member;
            fresh = f.fresh;
            waits = f.waits;
            roll = f.roll;
            taken = f.taken;
            mode = f.mode;
            left = f.left;
            asked = f.asked;
            table = here;
            heard = f.heard;
            wants = f.wants;
            up = ups;
            down = down-left lock p t post l k b tell rest tied sound x hand said mute k ∙ f.down;
          })
          (record {
            never_converted = (tied.table).never_converted;
            held_once = one;
            never_null = null;
            asked_once = (tied.table).asked_once;
            nodes = (tied.table).nodes;
          })
          (inr (has-taken lock p t post l k b tell rest tied sound x hand said mute))
          away
          (λ i ne. refl)
          (λ i y ne. up-left lock p t post l k b tell rest tied sound x hand said mute i ne)
          (λ i y ne. down-left lock p t post l k b tell rest tied sound x hand said mute i)
          (mail-left lock p t post l k b tell rest tied sound x hand said mute);
    }

pub hears-down : (lock : LockName) (p : Parts) (t : LockState) (value : ValueBlock) (post : Post) (l : ℕ → Node) (k : ℕ) (mode : Mode) (said : Option (List ℕ)) (rest : List Message)
    → TiedOf lock p t post l → Sound l → k ≤ 8 → post.took k p.master ≡ now_says p (Down lock mode said) ∷ rest
    → Reaches lock p (record t { held = now_holding t.held k mode; value = value }) (with_left post k p.master rest) l
hears-down lock p t value post l k mode bytes rest tied sound x hand =
    let said : tells lock (Down lock mode bytes) ≡ Some (ties.Lowers mode) = cond-true _ _ _ (same-self lock) in
    let c = first lock p t post l k (Down lock mode bytes) (ties.Lowers mode) rest tied sound x hand said refl in
    let a = is-down c.0 mode c.3 in
    subst (λ (m : Mode). Reaches lock p (record t { held = now_holding t.held k m; value = value }) (with_left post k p.master rest) l) (sym a.2)
    (now-has lock p t (now_holding t.held k (mode_for a.0)) value post l k a.0 c.1 (Down lock mode bytes) (ties.Lowers mode) rest tied sound x hand said refl c.4
    (machine.HearsDown a.0 c.1 (c.2 ∙ ap (λ (m : machine.Message). m ∷ c.1) a.1))
    (now-here t.held k (mode_for a.0) (tied.table).held_once) (λ i ne. now-away t.held k (mode_for a.0) i ne)
    (one-now t.held k (mode_for a.0) (tied.table).held_once) (null-now t.held k (mode_for a.0) (tied.table).never_null))

-- the same where the table has it already
pub hears-no-change : (lock : LockName) (p : Parts) (t : LockState) (post : Post) (l : ℕ → Node) (k : ℕ) (mode : Mode) (said : Option (List ℕ)) (rest : List Message)
    → TiedOf lock p t post l → Sound l → k ≤ 8 → post.took k p.master ≡ now_says p (Down lock mode said) ∷ rest → mode_at t.held k ≡ mode
    → Reaches lock p t (with_left post k p.master rest) l
hears-no-change lock p t post l k mode bytes rest tied sound x hand already =
    let said : tells lock (Down lock mode bytes) ≡ Some (ties.Lowers mode) = cond-true _ _ _ (same-self lock) in
    let c = first lock p t post l k (Down lock mode bytes) (ties.Lowers mode) rest tied sound x hand said refl in
    let a = is-down c.0 mode c.3 in
    now-has lock p t t.held t.value post l k a.0 c.1 (Down lock mode bytes) (ties.Lowers mode) rest tied sound x hand said refl c.4
    (machine.HearsDown a.0 c.1 (c.2 ∙ ap (λ (m : machine.Message). m ∷ c.1) a.1)) (already ∙ a.2) (λ i ne. refl) (tied.table).held_once (tied.table).never_null

pub hears-report : (lock : LockName) (p : Parts) (t : LockState) (post : Post) (l : ℕ → Node) (k : ℕ) (mode : Mode) (value : ValueBlock) (rest : List Message)
    → TiedOf lock p t post l → Sound l → k ≤ 8 → post.took k p.master ≡ now_says p (Report lock mode value) ∷ rest
    → Reaches lock p (record t { held = now_holding t.held k mode }) (with_left post k p.master rest) l
hears-report lock p t post l k mode value rest tied sound x hand =
    let said : tells lock (Report lock mode value) ≡ Some (ties.Reports mode) = cond-true _ _ _ (same-self lock) in
    let c = first lock p t post l k (Report lock mode value) (ties.Reports mode) rest tied sound x hand said refl in
    let a = is-report c.0 mode c.3 in
    subst (λ (m : Mode). Reaches lock p (record t { held = now_holding t.held k m }) (with_left post k p.master rest) l) (sym a.2)
    (now-has lock p t (now_holding t.held k (mode_for a.0)) t.value post l k a.0 c.1 (Report lock mode value) (ties.Reports mode) rest tied sound x hand said refl c.4
    (machine.HearsReport a.0 c.1 (c.2 ∙ ap (λ (m : machine.Message). m ∷ c.1) a.1))
    (now-here t.held k (mode_for a.0) (tied.table).held_once) (λ i ne. now-away t.held k (mode_for a.0) i ne)
    (one-now t.held k (mode_for a.0) (tied.table).held_once) (null-now t.held k (mode_for a.0) (tied.table).never_null))

-- ---- a grant

wanted-state : (o : Option State) (mode : Mode) → Some mode ≡ option_map mode_for o → (s : State) × (o ≡ Some s) × (mode ≡ mode_for s)
wanted-state None mode e = absurd (let f : Some mode ≡ None = e in cc)
wanted-state (Some s) mode e = let f : Some mode ≡ Some (mode_for s) = e in (s, refl, (cc))

no-state : (o : Option State) → o ≡ None → option_to_list (option_map mode_for o) ≡ []
no-state o e = ap (λ (x : Option State). option_to_list (option_map mode_for x)) e

-- the letter to a waiter
abbrev pub claim_letter : Parts → LockName → Post → Claim → Post
claim_letter p lock post w = grant_letter p lock post (w.node, w.mode, (present p lock).value)

-- a waiter whom no holder is in the way of is granted what it waits for
pub is-granted : (lock : LockName) (p : Parts) (t : LockState) (post : Post) (l : ℕ → Node) (before after : List Claim) (w : Claim)
    → p.master ≤ 8 → TiedOf lock p t post l → Sound l → t.requests ≡ before ++ w ∷ after → in_way t.held w.node w.mode ≡ None
    → ((i : ℕ) → (l i).roll ≡ true → (l i).heard ≡ true) → ((i : ℕ) → (l i).waits ≡ false)
    → Reaches lock p (record t { held = now_holding t.held w.node w.mode; requests = before ++ after }) (claim_letter p lock post w) l
is-granted lock p t post l before after w m8 tied sound is free ready runs =
    let k : ℕ = w.node in
    let one : OneEach (before ++ w ∷ after) = subst OneEach is (tied.table).asked_once in
    let all8 : AllByRecursion (λ c. c.node ≤ 8) (before ++ w ∷ after) = subst (AllByRecursion (λ c. c.node ≤ 8)) is (tied.table).nodes in
    let x : k ≤ 8 = all-at (λ c. c.node ≤ 8) before after w all8 in
    let f = tied.nodes k x in
    let want = wanted-state ((l k).wants) w.mode (sym (ap (λ (cs : List Claim). mode_of_node cs k) is ∙ among-here before after w one) ∙ f.wants) in
    let s : State = want.0 in
    let fine = sound.fine k in
    let empty : (l k).down ≡ None = (fine.wanting s want.1).3 in
    let n : Node = record (l k) { table = s; wants = None; down = Some s } in
    let letter : List Message = now_says p (Grant lock w.mode (present p lock).value) ∷ [] in
    let says : filter_map (in_view p.membership.generation (grants lock)) letter ≡ w.mode ∷ [] =
    says-one (in_view p.membership.generation (grants lock)) (now_says p (Grant lock w.mode (present p lock).value)) w.mode
    (now-says (grants lock) p.membership.generation (Grant lock w.mode (present p lock).value) ∙ cond-true _ _ _ (same-self lock)) in
    let mute : filter_map (in_view p.membership.generation (tells lock)) letter ≡ [] =
    says-none (in_view p.membership.generation (tells lock)) (now_says p (Grant lock w.mode (present p lock).value))
    (now-says (tells lock) p.membership.generation (Grant lock w.mode (present p lock).value)) in
    let taken : p.taken k ≡ true = elim (cases_Bool (p.taken k)) [
      | inl was ↦ was
      | inr not_yet ↦ absurd (let g : None ≡ Some s = sym (fine.bare (sym f.taken ∙ not_yet)).2 ∙ want.1 in cc)
    ] in
    record {
      state = at l k n;
      step = Grants k s ready runs want.1 (λ i ne. goes-with i ne s want.2);
      tied = one-of lock p t (record t { held = now_holding t.held w.node w.mode; requests = before ++ after }) post (claim_letter p lock post w) l k n tied x
          (record {
            member = f.member;
            fresh = f.fresh;
            waits = f.waits;
            roll = f.roll;
            taken = f.taken;
            mode = f.mode;
            left = f.left;
            asked = f.asked;
            table = now-here t.held k w.mode (tied.table).held_once ∙ want.2;
            heard = f.heard;
            wants = among-gone before after w one;
            up = letters-mute (in_view p.membership.generation (tells lock)) post p.master k letter k p.master mute ∙ f.up;
            down = letters-say (in_view p.membership.generation (grants lock)) post p.master k letter
                ∙ (ap (λ (q : List Mode). q ++ filter_map (in_view p.membership.generation (grants lock)) letter) (f.down ∙ no-state ((l k).down) empty)
                ∙ (says ∙ ap (λ (m : Mode). m ∷ []) want.2));
          })
          (record {
            never_converted = (tied.table).never_converted;
            held_once = one-now t.held k w.mode (tied.table).held_once;
            never_null = null-now t.held k w.mode (tied.table).never_null;
            asked_once = one-less before after w one;
            nodes = all-less (λ c. c.node ≤ 8) before after w all8;
          })
          (inr taken)
          (λ i ne. now-away t.held k w.mode i ne)
          (λ i ne. sym (ap (λ (cs : List Claim). mode_of_node cs i) is ∙ among-away before after w i ne))
          (λ i y ne. letters-mute (in_view p.membership.generation (tells lock)) post p.master k letter i p.master mute)
          (λ i y ne. ap (filter_map (in_view p.membership.generation (grants lock))) (letters-away post p.master k letter p.master i (λ a b. ne b)))
          (λ i j y z. letters-all (λ m. m.generation ≤ p.membership.generation) post p.master k letter i j (omega arith, tt) (tied.mail i j y z));
    }
  where
    goes-with : (i : ℕ) → (i ≡ w.node → ⊥) → (s : State) → w.mode ≡ mode_for s → goes s ((l i).table) ≡ true
    goes-with i ne s e = go-as-modes s ((l i).table) ∙ elim (up-to i) [
      | inl x ↦ ap (λ (m : Mode). go_together (mode_for s) m) (sym (tied.nodes i x).table)
          ∙ (ap (λ (m : Mode). go_together m (mode_at t.held i)) (sym e) ∙ way-goes t.held w.node w.mode i free ne)
      | inr x ↦ ap (λ (u : State). go_together (mode_for s) (mode_for u)) (tied.others i x).table ∙ together-turned Nl (mode_for s) refl
    ]
