-- The laws over every list of calls.
use Rattle.std.proofs.Common.{ℕ, ◌≡◌, ◌≢◌, ◌⊎◌, ◌<◌, ◌≤◌, arith, inl, inr, Bool, true, false, Option, None, Some, List, [], ◌∷◌, ◌++◌, is_some, refl, sym, ap, ◌∙◌, subst}
use Rattle.std.specs.Prelude.{⊤, unwrap_or}
use Rattle.std.specs.List.{AllByRecursion, filter_map}
use Rattle.std.proofs.lemmas.Bool.{cases_eq, cond-true}
use Rattle.glock_names.specs.declared.LockName.{LockName}
use Rattle.glock_names.specs.LockMaps.{at_lock, with_lock}
use Rattle.dlm_modes.specs.declared.Mode.{Mode}
use Rattle.dlm_modes.specs.declared.Mode.TheVariants.{Nl, Pw}
use Rattle.dlm_modes.specs.Modes.{go_together, is_at_least}
use Rattle.dlm_modes.proofs.ModeLaws.{covers-itself, together-turned, together-weaker}
use Rattle.dlm_modes.specs.declared.ValueBlock.{ValueBlock}
use Rattle.mail_queues.specs.declared.Message.{Message}
use Rattle.mail_queues.specs.declared.Body.{Body}
use Rattle.mail_queues.specs.declared.Body.TheVariants.{Grant}
use Rattle.dlm_holder.specs.declared.Holding.{Holding}
use Rattle.dlm_holder.specs.Holdings.{Holdings, nothing, holding_of, knows, mode_in, wanted_in, asked_for, granted_to, lowered_to}
use Rattle.dlm_master.specs.Claims.{mode_of_node, mode_at, Together}
use Rattle.dlm_master.specs.LockState.{LockState}
use Rattle.dlm_master.specs.Laws.{IsSound}
use Rattle.dlm_master.proofs.RunLaws.{together-at}
use Rattle.dlm_rebuild.specs.Rebuilding.{RebuildState}
use Rattle.dlm_master.specs.Tables.{lock_of}
use Rattle.dlm_master.proofs.SoundLaws.{sound-locks-stay-sound}
use Rattle.fencing.specs.NodeSets.{has}
use Rattle.lock_steps.proofs.Sets.{zero-has}
use Rattle.lock_laws.specs.Lock.{at}
use Rattle.lock_steps.specs.Parts.{Post, way}
use Rattle.lock_steps.specs.Ties.{in_view, grants}
use Rattle.lock_steps.proofs.Membering.{none-newer, all-older}
use Rattle.lock_steps.proofs.Basics.{true-false, same-self, at-here, at-away}
use Rattle.lock_steps.proofs.Ways.{left-says}
use Rattle.lock_steps.proofs.Tying.{now-says, holding-is, holding-away}
use Rattle.conversion_laws.specs.Parts.{LockParts, NoneNewer, now_says, Tell, tell_of, tells_coming, grant_of, grants_coming, valued_grants, lock_in_table, table_mode, held_or_coming}
use Rattle.conversion_laws.specs.Calls.{NodeCall, Call, OfMail, OfNode, OfMaster, Calls, NoCall, AndCall, CallDropsNone, DropNone}
use Rattle.conversion_laws.specs.Calls as calls
use Rattle.conversion_laws.specs.Laws.{BeginsNode, IsToTell, HasNothing, Begins, HasTold, AreRight, EveryListIsRight, NoAskIsLost, NoneWhileBlocked, GrantsBringTheValue, ViewsFollow, RisesByGrant, Rises, Keeps, HoldersRiseByGrants, MeetCalls, MessagesMeetCalls}
use Rattle.conversion_laws.proofs.Stages.{Leads, Untaken, Tells, stands_by, stands, Stands, AsHeld, AsReported, AsListed, how-it-stands, stands-covered, covered, exact, one-ask, still-asked, was-asked}
use Rattle.conversion_laws.proofs.Nodes.{sight, StageOf, Inv, over-mode, mail-keeps-inv, node-keeps, grant-first}
use Rattle.conversion_laws.proofs.Blocking.{grants-nothing}
use Rattle.conversion_laws.proofs.Values.{Valued, none-of-map, modes-of, brings-value, valued-keeps, first-valued}
use Rattle.conversion_laws.proofs.Mail.{none-newer-after}
use Rattle.conversion_laws.proofs.Ending.{Ending, ending-keeps, nothing-ends, meets-end}
use Rattle.conversion_laws.proofs.Masters.{master-keeps, meets-request, meets-conversion, meets-lower, meets-report}

-- ---- the invariant

-- a node at the start
starts-node : {lossy : Type 0} (lock : LockName) (p : LockParts) → Begins lock p → (k : ℕ) → k ≤ 8 → BeginsNode lock p k
    → StageOf lossy p (sight lock p k) × (stands (sight lock p k) ≡ mode_in (p.holders k) lock)
starts-node {lossy} lock p b k x (IsToTell r member ended taken) = (
  Untaken r taken member ended (ap (λ (l : LockState). mode_at l.held k) b.table) (b.tells k x) (ap (λ (l : LockState). mode_of_node (l.conversions ++ l.requests) k) b.table) (b.grants k x),
  ap (λ (t : Bool). stands_by t (mode_in (p.holders k) lock) (table_mode lock p k) (tells_coming lock p k)) taken,
)
starts-node {lossy} lock p b k x (HasNothing taken null none) =
    let empty : table_mode lock p k ≡ Nl = ap (λ (l : LockState). mode_at l.held k) b.table in (
      Tells taken (subst (λ (cs : List Tell). Leads (wanted_in (p.holders k) lock) (table_mode lock p k) cs (mode_in (p.holders k) lock)) (sym (b.tells k x)) (none, empty ∙ sym null))
          (ap (λ (l : LockState). mode_of_node (l.conversions ++ l.requests) k) b.table) (b.grants k x),
      ap (λ (t : Bool). stands_by t (mode_in (p.holders k) lock) (table_mode lock p k) (tells_coming lock p k)) taken
          ∙ (ap (stands_by true (mode_in (p.holders k) lock) (table_mode lock p k)) (b.tells k x) ∙ (empty ∙ sym null)),
    )

starts : {lossy : Type 0} (lock : LockName) (p : LockParts) → Begins lock p → Inv lossy lock p
starts {lossy} lock p b = record {
  master = b.master;
  sound = subst IsSound (sym b.table) sound-locks-stay-sound.free;
  together = subst (λ (l : LockState). Together l.held) (sym b.table) tt;
  stages = λ k x. (starts-node lock p b k x (b.nodes k x)).0;
  under = λ r. record {
    rebuild = b.rebuild r;
    far = λ j y. ap (λ (l : LockState). mode_at l.held j) b.table;
    apart = λ i k x y ne. ap (λ (m : Mode). go_together m (stands (sight lock p k))) (starts-node {lossy = lossy} lock p b i x (b.nodes i x)).1
        ∙ (ap (go_together (mode_in (p.holders i) lock)) (starts-node {lossy = lossy} lock p b k y (b.nodes k y)).1 ∙ b.together i k x y ne);
  };
}

call-keeps : {lossy : Type 0} (lock : LockName) (p q : LockParts) (call : Call lock p q) → lossy ⊎ CallDropsNone lock p q call → Inv lossy lock p → Inv lossy lock q
call-keeps {lossy} lock p _ (OfMail post call) may inv = mail-keeps-inv lock p post call inv
call-keeps {lossy} lock p q (OfNode _ call) may inv = node-keeps lock p q call may inv
call-keeps {lossy} lock p q (OfMaster _ call) may inv = master-keeps lock p q call inv

calls-keep : {lossy : Type 0} (lock : LockName) (p q : LockParts) (calls : Calls lock p q) → lossy ⊎ DropNone lock p q calls → Inv lossy lock p → Inv lossy lock q
calls-keep {lossy} lock p _ NoCall may inv = inv
calls-keep {lossy} lock p _ (AndCall q r before call) may inv = call-keeps lock q r call (last may) (calls-keep lock p q before (first may) inv)
  where
    last : lossy ⊎ (DropNone lock p q before × CallDropsNone lock q r call) → lossy ⊎ CallDropsNone lock q r call
    last (inl l) = inl l
    last (inr both) = inr both.1

    first : lossy ⊎ (DropNone lock p q before × CallDropsNone lock q r call) → lossy ⊎ DropNone lock p q before
    first (inl l) = inl l
    first (inr both) = inr both.0

-- grants may be lost
reaches : (lock : LockName) (p q : LockParts) → Calls lock p q → Begins lock p → Inv ⊤ lock q
reaches lock p q calls b = calls-keep lock p q calls (inl tt) (starts lock p b)

-- the grants on their way bring the lock's value
valued-after : (lock : LockName) (p q : LockParts) → Calls lock p q → Begins lock p → Valued lock q
valued-after lock p _ NoCall b = λ k x. subst (AllByRecursion (λ (g : Mode × ValueBlock). go_together g.0 Pw ≡ false → g.1 ≡ (lock_in_table lock p).value)) (sym (none-of-map (λ (g : Mode × ValueBlock). g.0) (valued_grants lock p k) (sym (modes-of lock p k) ∙ b.grants k x))) tt
valued-after lock p _ (AndCall q r before call) b = valued-keeps lock q r (reaches lock p q before b) call (valued-after lock p q before b)

-- each node ends once
ending-after : (lock : LockName) (p q : LockParts) → Calls lock p q → Begins lock p → Ending lock q
ending-after lock p _ NoCall b = nothing-ends lock p b.tells
ending-after lock p _ (AndCall q r before call) b = ending-keeps lock q r (reaches lock p q before b) call (ending-after lock p q before b)

-- ---- the table, and what nodes hold

go-all : (t u : Mode) (ns bs : List Mode) → go_together t u ≡ true → AllByRecursion (λ m. is_at_least t m ≡ true) ns → AllByRecursion (λ m. is_at_least u m ≡ true) bs
    → AllByRecursion (λ a. AllByRecursion (λ b. go_together a b ≡ true) bs) ns
go-all t u [] bs goes all more = tt
go-all t u (a ∷ ns) bs goes all more = (each bs more, go-all t u ns bs goes all.1 more)
  where
    each : (bs : List Mode) → AllByRecursion (λ m. is_at_least u m ≡ true) bs → AllByRecursion (λ b. go_together a b ≡ true) bs
    each [] more = tt
    each (b ∷ bs) more = (
      together-weaker a u b (together-turned u a (together-weaker u t a (together-turned t u goes) all.0)) more.0,
      each bs more.1,
    )

-- a node that has told all isn't to report
told-all : (p : LockParts) (k : ℕ) → HasTold p k → p.rebuilding ≡ true → has p.ended k ≡ true
told-all p k (inl over) r = true-false r over
told-all p k (inr ended) r = ended

-- what two nodes stand for goes together
stand-apart : {lossy : Type 0} (lock : LockName) (p : LockParts) → Inv lossy lock p → (i k : ℕ) → i ≤ 8 → k ≤ 8 → i ≢ k → go_together (stands (sight lock p i)) (stands (sight lock p k)) ≡ true
stand-apart {lossy} lock p inv i k x y ne = by p.rebuilding refl
  where
    listed : p.rebuilding ≡ false → (j : ℕ) → Stands lossy (p.rebuilding ≡ true) (sight lock p j) → stands (sight lock p j) ≡ table_mode lock p j
    listed e j (AsHeld r same null none) = true-false r e
    listed e j (AsReported r covers null none) = true-false r e
    listed e j (AsListed same) = same

    by : (b : Bool) → p.rebuilding ≡ b → go_together (stands (sight lock p i)) (stands (sight lock p k)) ≡ true
    by true r = (inv.under r).apart i k x y ne
    by false e = ap (λ (m : Mode). go_together m (stands (sight lock p k))) (listed e i (how-it-stands (sight lock p i) (inv.stages i x)))
        ∙ (ap (go_together (table_mode lock p i)) (listed e k (how-it-stands (sight lock p k) (inv.stages k y))) ∙ together-at (lock_in_table lock p).held inv.together i k ne)

are-right : {lossy : Type 0} (lock : LockName) (p : LockParts) → Inv lossy lock p → NoneNewer p → AreRight lock p
are-right {lossy} lock p inv mail = record {
  sound = inv.sound;
  together = inv.together;
  covers = λ k x told. covered (sight lock p k) (inv.stages k x) (told-all p k told);
  compatible = λ i k x y ne. go-all (stands (sight lock p i)) (stands (sight lock p k)) (held_or_coming lock p i) (held_or_coming lock p k)
      (stand-apart lock p inv i k x y ne) (stands-covered (sight lock p i) (inv.stages i x)) (stands-covered (sight lock p k) (inv.stages k y));
  one_ask = λ k x. one-ask (sight lock p k) (inv.stages k x);
  exact = λ k x told none empty. exact (sight lock p k) (inv.stages k x) (told-all p k told) none empty;
  mail = mail;
}

pub every-list : EveryListIsRight
every-list lock p q b calls = are-right lock q (reaches lock p q calls b) (none-newer-after lock p q calls b.mail)

pub no-ask-is-lost : NoAskIsLost
no-ask-is-lost lock p q calls b none k x taken mode e =
    let inv : Inv ⊥ lock q = calls-keep lock p q calls (inr none) (starts lock p b) in
    still-asked (sight lock q k) (inv.stages k x) taken mode e

-- ---- views

pub views-follow : ViewsFollow
views-follow lock p q right f = record {
  master = f.master;
  table = ap (λ (r : RebuildState). lock_of r.master lock) f.anew;
  rebuild = λ r. ap (λ (r : RebuildState). r.master.rebuild) f.anew;
  nodes = λ k x. node k x (has q.members k) refl;
  together = λ i k x y ne.
      let a : Mode = mode_in (p.holders i) lock in
      let b : Mode = mode_in (p.holders k) lock in
      let c : Mode = mode_in (q.holders i) lock in
      let one : go_together c b ≡ true = together-turned b c (together-weaker b a c (together-turned a b (right.compatible i k x y ne).0.0) (f.kept i x)) in
      together-weaker c b (mode_in (q.holders k) lock) one (f.kept k y);
  tells = λ k x. silent (tell_of lock) k q.master x f.master;
  grants = λ k x. silent (grants lock) q.master k f.master x;
  mail = λ i k x y. subst (λ (post : Post). AllByRecursion (λ m. m.generation ≤ q.table.generation) (way post i k)) (sym f.post)
      (all-older p.table.generation q.table.generation (let later : p.table.generation < q.table.generation = f.later in omega (arith, later)) (way p.post i k) (right.mail i k x y));
}
  where
    -- what was under way says nothing in the new view
    silent : {A : Type 0} (says : Body → Option A) (i k : ℕ) → i ≤ 8 → k ≤ 8 → filter_map (in_view q.table.generation says) (way q.post i k) ≡ []
    silent says i k x y = ap (λ (post : Post). filter_map (in_view q.table.generation says) (way post i k)) f.post
        ∙ none-newer says p.table.generation q.table.generation f.later (way p.post i k) (right.mail i k x y)

    node : (k : ℕ) → k ≤ 8 → (b : Bool) → has q.members k ≡ b → BeginsNode lock q k
    node k x true e = IsToTell f.rebuilding e (ap (λ (r : RebuildState). has r.ended k) f.anew ∙ zero-has k) (f.members k x e)
    node k x false e = let o = f.others k x e in HasNothing o.0 o.1 o.2

-- ---- messages in hand

knows-it : (h : Holdings) (lock : LockName) (mode : Mode) → wanted_in h lock ≡ Some mode → knows h lock ≡ true
knows-it h lock mode e = by (at_lock h lock) refl
  where
    by : (o : Option Holding) → at_lock h lock ≡ o → knows h lock ≡ true
    by None f = absurd (let g : None ≡ Some mode = sym (ap (λ (o : Option Holding). (unwrap_or o nothing).wanted) f) ∙ e in cc)
    by (Some x) f = ap is_some f

meet-calls : {lossy : Type 0} (lock : LockName) (p : LockParts) → Inv lossy lock p → Valued lock p → Ending lock p → MeetCalls lock p
meet-calls {lossy} lock p inv valued ending = record {
  requests = λ k mode rest x hand. meets-request lock p k mode rest inv x hand;
  conversions = λ k mode rest x hand. meets-conversion lock p k mode rest inv x hand;
  lowers = λ k mode value rest x hand. meets-lower lock p k mode value rest inv x hand;
  reports = λ k mode value rest x hand. meets-report lock p k mode value rest inv x hand;
  ends = λ k rest x hand. meets-end lock p k rest ending x hand;
  grants = λ k mode value rest x hand.
      let m : Message = now_says p (Grant lock mode value) in
      let grant : in_view p.table.generation (grants lock) m ≡ Some mode = now-says (grants lock) p.table.generation (Grant lock mode value) ∙ cond-true _ _ _ (same-self lock) in
      let asked : wanted_in (p.holders k) lock ≡ Some mode = (was-asked (sight lock p k) mode _ (inv.stages k x) (grant-first lock p k m rest mode hand grant)).1 in (
        knows-it (p.holders k) lock mode asked,
        asked,
        first-valued lock p k (mode, value) _ valued x (left-says (in_view p.table.generation (grant_of lock)) p.post p.master k m rest (mode, value) hand
            (now-says (grant_of lock) p.table.generation (Grant lock mode value) ∙ cond-true _ _ _ (same-self lock))),
      );
}

pub messages-meet : MessagesMeetCalls
messages-meet lock p q b calls = meet-calls lock q (reaches lock p q calls b) (valued-after lock p q calls b) (ending-after lock p q calls b)

pub grants-bring-the-value : GrantsBringTheValue
grants-bring-the-value lock a p q k b calls call x = brings-value lock p q k (reaches lock a p calls b) call x

pub none-while-blocked : NoneWhileBlocked
none-while-blocked lock a p q k b calls blocked call x = grants-nothing lock p q k (reaches lock a p calls b) blocked call x

-- ---- holders rise by grants

-- a node whose holding changes in this way, at a call of a node
changes : (lock : LockName) (p : LockParts) (holders : ℕ → Holdings) (k : ℕ) → holders k ≡ p.holders k → is_at_least (mode_in (p.holders k) lock) (mode_in (holders k) lock) ≡ true
changes lock p holders k e = ap (λ (h : Holdings). is_at_least (mode_in (p.holders k) lock) (mode_in h lock)) e ∙ covers-itself (mode_in (p.holders k) lock)

-- one node's holding changes, and another's stays as it is
keeps-at : (lock : LockName) (p q : LockParts) (j : ℕ) (h : Holdings) (k : ℕ) → q.holders ≡ at p.holders j h → is_at_least (mode_in (p.holders j) lock) (mode_in h lock) ≡ true → RisesByGrant lock p q k
keeps-at lock p q j h k is low = Keeps (ap (λ (f : ℕ → Holdings). is_at_least (mode_in (p.holders k) lock) (mode_in (f k) lock)) is ∙ elim (cases_eq k j) [
  | inl e ↦ subst (λ (i : ℕ). is_at_least (mode_in (p.holders i) lock) (mode_in (at p.holders j h i) lock) ≡ true) (sym e)
      (ap (λ (x : Holdings). is_at_least (mode_in (p.holders j) lock) (mode_in x lock)) (at-here p.holders j h) ∙ low)
  | inr ne ↦ changes lock p (at p.holders j h) k (at-away p.holders j h k ne)
])

same-mode : (lock : LockName) (h : Holdings) (x : Holding) → x.mode ≡ mode_in h lock → is_at_least (mode_in h lock) (mode_in (with_lock h lock x) lock) ≡ true
same-mode lock h x e = ap (λ (y : Holding). is_at_least (mode_in h lock) y.mode) (holding-is h lock x) ∙ (ap (is_at_least (mode_in h lock)) e ∙ covers-itself (mode_in h lock))

node-rises : (lock : LockName) (p q : LockParts) (k : ℕ) → NodeCall lock p q → RisesByGrant lock p q k
node-rises lock p q k (calls.Asks j mode x t null none) = keeps-at lock p q j (asked_for (p.holders j) lock mode) k refl (same-mode lock (p.holders j) (record (holding_of (p.holders j) lock) { wanted = Some mode }) refl)
node-rises lock p q k (calls.Raises j mode x t some covers none) = keeps-at lock p q j (asked_for (p.holders j) lock mode) k refl (same-mode lock (p.holders j) (record (holding_of (p.holders j) lock) { wanted = Some mode }) refl)
node-rises lock p q k (calls.Lowers j mode value x t known covers none) = keeps-at lock p q j (lowered_to (p.holders j) lock mode) k refl
    (ap (λ (y : Holding). is_at_least (mode_in (p.holders j) lock) y.mode) (holding-is (p.holders j) lock (record (holding_of (p.holders j) lock) { mode = mode })) ∙ covers)
node-rises lock p q k (calls.LowersBefore j mode x not covers) = keeps-at lock p q j (lowered_to (p.holders j) lock mode) k refl
    (ap (λ (y : Holding). is_at_least (mode_in (p.holders j) lock) y.mode) (holding-is (p.holders j) lock (record (holding_of (p.holders j) lock) { mode = mode })) ∙ covers)
node-rises lock p q k (calls.TakesView j h letters over x not old says mute) = keeps-at lock p q j h k refl
    (ap (is_at_least (mode_in (p.holders j) lock)) (over-mode lock (p.holders j) h over) ∙ covers-itself (mode_in (p.holders j) lock))
node-rises lock p q k (calls.IsGranted j mode value rest x hand) = elim (cases_eq k j) [
  | inl e ↦ subst (RisesByGrant lock p q) (sym e) (Rises (grant-first lock p j (now_says p (Grant lock mode value)) rest mode hand
      (now-says (grants lock) p.table.generation (Grant lock mode value) ∙ cond-true _ _ _ (same-self lock))
      ∙ ap (λ (m : Mode). m ∷ grants_coming lock q j) (sym (ap (λ (h : Holdings). mode_in h lock) (at-here p.holders j (granted_to (p.holders j) lock mode value))
      ∙ ap (λ (y : Holding). y.mode) (holding-is (p.holders j) lock (record { mode = mode; wanted = None; value = value }))))))
  | inr ne ↦ Keeps (changes lock p q.holders k (at-away p.holders j (granted_to (p.holders j) lock mode value) k ne))
]
node-rises lock p q k (calls.DropsGrant j mode value rest x hand) = Keeps (covers-itself (mode_in (p.holders k) lock))
node-rises lock p q k (calls.Drops from to m rest x y hand quiet mute) = Keeps (covers-itself (mode_in (p.holders k) lock))
node-rises lock p q k (calls.Writes from to letters x y old calls grants) = Keeps (covers-itself (mode_in (p.holders k) lock))
node-rises lock p q k (calls.HoldsElsewhere j other holding ne) = keeps-at lock p q j (with_lock (p.holders j) other holding) k refl
    (ap (λ (y : Holding). is_at_least (mode_in (p.holders j) lock) y.mode) (holding-away (p.holders j) lock other holding ne) ∙ covers-itself (mode_in (p.holders j) lock))

pub holders-rise : HoldersRiseByGrants
holders-rise lock p q k (OfMail post call) = Keeps (covers-itself (mode_in (p.holders k) lock))
holders-rise lock p q k (OfNode _ call) = node-rises lock p q k call
holders-rise lock p q k (OfMaster _ (calls.Requested j mode rest x hand)) = Keeps (covers-itself (mode_in (p.holders k) lock))
holders-rise lock p q k (OfMaster _ (calls.Converted j mode rest x hand)) = Keeps (covers-itself (mode_in (p.holders k) lock))
holders-rise lock p q k (OfMaster _ (calls.Lowered j mode value rest x hand above)) = Keeps (covers-itself (mode_in (p.holders k) lock))
holders-rise lock p q k (OfMaster _ (calls.LoweredAlready j mode value rest x hand already)) = Keeps (covers-itself (mode_in (p.holders k) lock))
holders-rise lock p q k (OfMaster _ calls.GrantsNext) = Keeps (covers-itself (mode_in (p.holders k) lock))
holders-rise lock p q k (OfMaster _ (calls.Reported j mode value rest x hand r)) = Keeps (covers-itself (mode_in (p.holders k) lock))
holders-rise lock p q k (OfMaster _ (calls.Ended j rest x hand r)) = Keeps (covers-itself (mode_in (p.holders k) lock))
holders-rise lock p q k (OfMaster _ (calls.Completes r done)) = Keeps (covers-itself (mode_in (p.holders k) lock))
holders-rise lock p q k (OfMaster _ (calls.Blocks rebuild waiting stays)) = Keeps (covers-itself (mode_in (p.holders k) lock))
holders-rise lock p q k (OfMaster _ (calls.TableElsewhere other t ne)) = Keeps (covers-itself (mode_in (p.holders k) lock))
