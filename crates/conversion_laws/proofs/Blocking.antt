-- While the master is blocked no call grants anything.
use Rattle.std.proofs.Common.{ℕ, ◌≡◌, ◌⊎◌, ◌≤◌, inl, inr, Bool, true, false, Option, Some, None, List, [], ◌∷◌, cond, refl, sym, ap, ◌∙◌, subst}
use Rattle.std.specs.Prelude.{◌==◌, fold, option_map, unwrap_or}
use Rattle.std.specs.List.{filter_map}
use Rattle.std.proofs.lemmas.Bool.{cases_eq, cond-true}
use Rattle.glock_names.specs.declared.LockName.{LockName}
use Rattle.glock_names.specs.LockMaps.{same_lock}
use Rattle.glock_names.proofs.LockMapLaws.{at_lock-with_other}
use Rattle.dlm_modes.specs.declared.Mode.{Mode}
use Rattle.dlm_modes.specs.declared.ValueBlock.{ValueBlock}
use Rattle.dlm_modes.specs.Modes.{is_at_least}
use Rattle.dlm_modes.proofs.ModeLaws.{covers-itself}
use Rattle.mail_queues.specs.declared.Message.{Message}
use Rattle.mail_queues.specs.declared.Body.{Body}
use Rattle.mail_queues.specs.declared.Body.TheVariants.{Request, Convert, Down, Grant, Callback, Report, End, View}
use Rattle.dlm_holder.specs.Holdings.{Holdings}
use Rattle.dlm_master.specs.declared.claims.Cause.{Cause}
use Rattle.dlm_master.specs.Claims.{mode_at}
use Rattle.dlm_master.specs.LockState.{LockState}
use Rattle.dlm_master.specs.Locks.{free_lock, reported, answer_by, grants_of}
use Rattle.dlm_master.specs.Tables.{MasterState, is_blocked, after_request, after_convert, after_down, after_report, after_turns}
use Rattle.dlm_master.specs.Runs.{Run, run_of}
use Rattle.dlm_master.specs.Runs as runs
use Rattle.dlm_master.specs.Laws.{IsBlocked}
use Rattle.dlm_master.proofs.BlockLaws.{blocked-cause, blocked-turns, none-while-blocked}
use Rattle.dlm_master.proofs.RunTables.{written, tables-are-runs}
use Rattle.lock_steps.proofs.Claims.{now-here, now-away}
use Rattle.lock_steps.specs.Parts.{Post, way, with_letters, with_left}
use Rattle.lock_steps.specs.Ties.{in_view, grants}
use Rattle.lock_steps.proofs.Basics.{same-self}
use Rattle.lock_steps.proofs.Tying.{now-says, says-none}
use Rattle.lock_steps.proofs.Ways.{letters-mute, left-says, left-mute, left-away, letters-quiet-from, mail-keeps}
use Rattle.conversion_laws.specs.Parts.{LockParts, now_says, Reports, grant_of, valued_grants, table_mode}
use Rattle.conversion_laws.specs.Calls.{NodeCall, MasterCall, Call, OfMail, OfNode, OfMaster, kept_value, grant_letter, reply}
use Rattle.conversion_laws.specs.Calls as calls
use Rattle.conversion_laws.specs.Laws.{GrantsNothing, IsReported}
use Rattle.conversion_laws.proofs.Nodes.{Inv}
use Rattle.conversion_laws.proofs.Masters.{call-first, meets-request, meets-conversion, meets-lower}

-- ---- what brings no mode brings no value

pub mode-is : (g : ℕ) (lock : LockName) (m : Message) → in_view g (grants lock) m ≡ option_map (λ (x : Mode × ValueBlock). x.0) (in_view g (grant_of lock) m)
mode-is g lock m = by (m.generation == g)
  where
    body : (b : Body) → grants lock b ≡ option_map (λ (x : Mode × ValueBlock). x.0) (grant_of lock b)
    body (Grant other mode value) = here (same_lock lock other)
      where
        here : (c : Bool) → cond c (Some mode) None ≡ option_map (λ (x : Mode × ValueBlock). x.0) (cond {A = Option (Mode × ValueBlock)} c (Some (mode, value)) None)
        here true = refl
        here false = refl
    body (Request other mode) = refl
    body (Convert other mode) = refl
    body (Down other mode value) = refl
    body (Callback other mode) = refl
    body (Report other mode value) = refl
    body End = refl
    body View = refl

    by : (c : Bool) → cond c (grants lock m.body) None ≡ option_map (λ (x : Mode × ValueBlock). x.0) (cond c (grant_of lock m.body) None)
    by true = body m.body
    by false = refl

mute-too : (g : ℕ) (lock : LockName) (m : Message) → in_view g (grants lock) m ≡ None → in_view g (grant_of lock) m ≡ None
mute-too g lock m e = by (in_view g (grant_of lock) m) (sym (mode-is g lock m) ∙ e)
  where
    by : (o : Option (Mode × ValueBlock)) → option_map (λ (x : Mode × ValueBlock). x.0) o ≡ None → o ≡ None
    by None f = refl
    by (Some x) f = absurd (let h : Some x.0 ≡ None = f in cc)

mute-all : (g : ℕ) (lock : LockName) (ms : List Message) → filter_map (in_view g (grants lock)) ms ≡ [] → filter_map (in_view g (grant_of lock)) ms ≡ []
mute-all g lock [] e = refl
mute-all g lock (m ∷ ms) e = by (in_view g (grants lock) m) refl (mute-all g lock ms)
  where
    by : (o : Option Mode) → in_view g (grants lock) m ≡ o → (filter_map (in_view g (grants lock)) ms ≡ [] → filter_map (in_view g (grant_of lock)) ms ≡ [])
        → filter_map (in_view g (grant_of lock)) (m ∷ ms) ≡ []
    by None f rest = rw (mute-too g lock m f) (rest (rw f at e))
    by (Some mode) f rest = absurd (let h : mode ∷ filter_map (in_view g (grants lock)) ms ≡ [] = rw f at e in cc)

-- ---- the mail and the nodes

-- nothing of the table changes, and the grants on their way are the same
pub same : (lock : LockName) (p : LockParts) (holders : ℕ → Holdings) (post : Post) (k : ℕ)
    → filter_map (in_view p.table.generation (grant_of lock)) (way post p.master k) ≡ valued_grants lock p k → GrantsNothing lock p (record p { holders = holders; post = post }) k
same lock p holders post k e = record { table = inl (covers-itself (table_mode lock p k)); gone = []; letters = sym e }

-- a grant that was on its way to a node is taken or dropped
less : (lock : LockName) (p : LockParts) (holders : ℕ → Holdings) (j : ℕ) (brought : Mode × ValueBlock) (m : Message) (rest : List Message) (k : ℕ) → p.post.took p.master j ≡ m ∷ rest
    → in_view p.table.generation (grant_of lock) m ≡ Some brought → GrantsNothing lock p (record p { holders = holders; post = with_left p.post p.master j rest }) k
less lock p holders j brought m rest k hand grant = elim (cases_eq k j) [
  | inl e ↦ subst (GrantsNothing lock p (record p { holders = holders; post = with_left p.post p.master j rest })) (sym e)
      (record { table = inl (covers-itself (table_mode lock p j)); gone = brought ∷ []; letters = left-says (in_view p.table.generation (grant_of lock)) p.post p.master j m rest brought hand grant })
  | inr ne ↦ same lock p holders (with_left p.post p.master j rest) k
      (ap (filter_map (in_view p.table.generation (grant_of lock))) (left-away p.post p.master j rest p.master k (λ e f. ne f)))
]

-- a node writes to the master
wrote-to : (lock : LockName) (p : LockParts) (j : ℕ) (h : Holdings) (b : Body) (k : ℕ) → grant_of lock b ≡ None → GrantsNothing lock p (calls.tells p j h b) k
wrote-to lock p j h b k mute = same lock p _ (with_letters p.post j p.master (now_says p b ∷ [])) k
    (letters-mute (in_view p.table.generation (grant_of lock)) p.post j p.master (now_says p b ∷ []) p.master k
    (says-none (in_view p.table.generation (grant_of lock)) (now_says p b) (now-says (grant_of lock) p.table.generation b ∙ mute)))

grant-says : (lock : LockName) (p : LockParts) (mode : Mode) (value : ValueBlock) → in_view p.table.generation (grant_of lock) (now_says p (Grant lock mode value)) ≡ Some (mode, value)
grant-says lock p mode value = now-says (grant_of lock) p.table.generation (Grant lock mode value) ∙ cond-true _ _ _ (same-self lock)

pub node-grants-nothing : (lock : LockName) (p q : LockParts) (k : ℕ) → NodeCall lock p q → GrantsNothing lock p q k
node-grants-nothing lock p _ k (calls.Asks j mode x t null none) = wrote-to lock p j _ (Request lock mode) k refl
node-grants-nothing lock p _ k (calls.Raises j mode x t some covers none) = wrote-to lock p j _ (Convert lock mode) k refl
node-grants-nothing lock p _ k (calls.Lowers j mode value x t known covers none) = wrote-to lock p j _ (Down lock mode value) k refl
node-grants-nothing lock p _ k (calls.LowersBefore j mode x not covers) = same lock p _ p.post k refl
node-grants-nothing lock p _ k (calls.TakesView j h letters over x not old says mute) = record {
  table = inl (covers-itself (table_mode lock p k));
  gone = [];
  letters = sym (letters-mute (in_view p.table.generation (grant_of lock)) p.post j p.master letters p.master k (mute-all p.table.generation lock letters mute));
}
node-grants-nothing lock p _ k (calls.IsGranted j mode value rest x hand) = less lock p _ j (mode, value) _ rest k hand (grant-says lock p mode value)
node-grants-nothing lock p _ k (calls.DropsGrant j mode value rest x hand) = less lock p _ j (mode, value) _ rest k hand (grant-says lock p mode value)
node-grants-nothing lock p _ k (calls.Drops from to m rest x y hand quiet mute) = same lock p _ (with_left p.post from to rest) k (elim (cases_eq from p.master) [
  | inl is ↦ left-mute (in_view p.table.generation (grant_of lock)) p.post from to m rest p.master k hand (mute-too p.table.generation lock m (mute is))
  | inr ne ↦ ap (filter_map (in_view p.table.generation (grant_of lock))) (left-away p.post from to rest p.master k (λ a b. ne (sym a)))
])
node-grants-nothing lock p _ k (calls.Writes from to letters x y old calls mute) =
    same lock p _ (with_letters p.post from to letters) k (letters-quiet-from (in_view p.table.generation (grant_of lock)) p.post from to letters p.master k (λ is. mute-all p.table.generation lock letters (mute is)))
node-grants-nothing lock p _ k (calls.HoldsElsewhere j other holding ne) = same lock p _ p.post k refl

-- ---- the master

-- what a call of the master leaves of a node in the table
less-held : {lossy : Type 0} (lock : LockName) (p : LockParts) (t : MasterState) (call : runs.Call) (k : ℕ) → Inv lossy lock p → IsBlocked (run_of p.table lock) → runs.MayCall (run_of p.table lock) call
    → run_of t lock ≡ runs.after (run_of p.table lock) call → is_at_least (table_mode lock p k) (table_mode lock (record p { table = t }) k) ≡ true
less-held lock p t call k inv blocked may is =
    ap (λ (r : Run). is_at_least (table_mode lock p k) (mode_at r.lock.held k)) is ∙ none-while-blocked (run_of p.table lock) call k blocked may inv.sound.held_once

-- a message that grants nothing was in hand
pub left-over : (lock : LockName) (p : LockParts) (j : ℕ) (b : Body) (rest : List Message) (k : ℕ) → p.post.took j p.master ≡ now_says p b ∷ rest → grant_of lock b ≡ None
    → valued_grants lock p k ≡ filter_map (in_view p.table.generation (grant_of lock)) (way (with_left p.post j p.master rest) p.master k)
left-over lock p j b rest k hand mute = sym (left-mute (in_view p.table.generation (grant_of lock)) p.post j p.master (now_says p b) rest p.master k hand (now-says (grant_of lock) p.table.generation b ∙ mute))

-- a report comes to the table
reported-table : {lossy : Type 0} (lock : LockName) (p : LockParts) (j : ℕ) (mode : Mode) (value : ValueBlock) (rest : List Message) (k : ℕ) → Inv lossy lock p
    → p.post.took j p.master ≡ now_says p (Report lock mode value) ∷ rest
    → (is_at_least (table_mode lock p k) (table_mode lock (record p { table = after_report p.table j lock mode; post = with_left p.post j p.master rest }) k) ≡ true)
    ⊎ IsReported lock p (record p { table = after_report p.table j lock mode; post = with_left p.post j p.master rest }) k
reported-table {lossy} lock p j mode value rest k inv hand = elim (cases_eq k j) [
  | inl e ↦ subst (λ (i : ℕ). (is_at_least (table_mode lock p i) (table_mode lock q i) ≡ true) ⊎ IsReported lock p q i) (sym e) (inr (record {
    mode = mode;
    first = call-first lock p j (Report lock mode value) (Reports mode) rest hand (cond-true _ _ _ (same-self lock)) refl;
    table = ap (λ (u : LockState). mode_at u.held j) (written p.table lock (reported l j mode)) ∙ now-here l.held j mode inv.sound.held_once;
  }))
  | inr ne ↦ inl (ap (λ (u : LockState). is_at_least (table_mode lock p k) (mode_at u.held k)) (written p.table lock (reported l j mode))
      ∙ (ap (is_at_least (table_mode lock p k)) (now-away l.held j mode k ne) ∙ covers-itself (table_mode lock p k)))
]
  where
    l : LockState
    l = (run_of p.table lock).lock

    q : LockParts
    q = record p { table = after_report p.table j lock mode; post = with_left p.post j p.master rest }

master-grants-nothing : {lossy : Type 0} (lock : LockName) (p q : LockParts) (k : ℕ) → Inv lossy lock p → IsBlocked (run_of p.table lock) → MasterCall lock p q → GrantsNothing lock p q k
master-grants-nothing {lossy} lock p _ k inv blocked (calls.Requested j mode rest x hand) =
    let l : LockState = (run_of p.table lock).lock in
    let c = blocked-cause p.table.rebuild p.table.waiting l.held l.conversions l.requests j mode blocked in
    record {
      table = inl (less-held lock p (after_request p.table j lock mode) (runs.Requests j mode) k inv blocked (meets-request lock p j mode rest inv x hand) (tables-are-runs.requests p.table j lock mode));
      gone = [];
      letters = left-over lock p j (Request lock mode) rest k hand refl
          ∙ sym (ap (λ (o : Option Cause). filter_map (in_view p.table.generation (grant_of lock)) (way (reply p lock j mode (answer_by o l) (with_left p.post j p.master rest)) p.master k)) c.1);
    }
master-grants-nothing {lossy} lock p _ k inv blocked (calls.Converted j mode rest x hand) =
    let l : LockState = (run_of p.table lock).lock in
    let c = blocked-cause p.table.rebuild p.table.waiting l.held l.conversions [] j mode blocked in
    record {
      table = inl (less-held lock p (after_convert p.table j lock mode) (runs.Converts j mode) k inv blocked (meets-conversion lock p j mode rest inv x hand) (tables-are-runs.converts p.table j lock mode));
      gone = [];
      letters = left-over lock p j (Convert lock mode) rest k hand refl
          ∙ sym (ap (λ (o : Option Cause). filter_map (in_view p.table.generation (grant_of lock)) (way (reply p lock j mode (answer_by o l) (with_left p.post j p.master rest)) p.master k)) c.1);
    }
master-grants-nothing {lossy} lock p _ k inv blocked (calls.Lowered j mode value rest x hand above) = record {
  table = inl (less-held lock p (after_down p.table j lock mode (kept_value p value)) (runs.Lowers j mode (kept_value p value)) k inv blocked (above, (meets-lower lock p j mode value rest inv x hand).1)
      (tables-are-runs.lowers p.table j lock mode (kept_value p value)));
  gone = [];
  letters = left-over lock p j (Down lock mode value) rest k hand refl;
}
master-grants-nothing {lossy} lock p _ k inv blocked (calls.LoweredAlready j mode value rest x hand already) =
    record { table = inl (covers-itself (table_mode lock p k)); gone = []; letters = left-over lock p j (Down lock mode value) rest k hand refl }
master-grants-nothing {lossy} lock p _ k inv blocked (calls.Reported j mode value rest x hand r) = record {
  table = reported-table lock p j mode value rest k inv hand;
  gone = [];
  letters = left-over lock p j (Report lock mode value) rest k hand refl;
}
master-grants-nothing {lossy} lock p _ k inv blocked (calls.Ended j rest x hand r) =
    record { table = inl (covers-itself (table_mode lock p k)); gone = []; letters = left-over lock p j End rest k hand refl }
master-grants-nothing {lossy} lock p _ k inv blocked (calls.Completes r done) = record { table = inl (covers-itself (table_mode lock p k)); gone = []; letters = refl }
master-grants-nothing {lossy} lock p _ k inv blocked calls.GrantsNext = by (is_blocked p.table) (blocked-turns (run_of p.table lock) blocked)
  where
    by : (b : Bool) → b ≡ true → GrantsNothing lock p (record p {
      table = cond b p.table (after_turns p.table lock);
      post = fold (grant_letter p lock) p.post (cond b [] (grants_of (run_of p.table lock).lock));
    }) k
    by true e = record { table = inl (covers-itself (table_mode lock p k)); gone = []; letters = refl }
    by false e = absurd (let f : false ≡ true = e in cc)
master-grants-nothing {lossy} lock p _ k inv blocked (calls.Blocks rebuild waiting stays) = record { table = inl (covers-itself (table_mode lock p k)); gone = []; letters = refl }
master-grants-nothing {lossy} lock p _ k inv blocked (calls.TableElsewhere other t ne) = record {
  table = inl (ap (λ (o : Option LockState). is_at_least (table_mode lock p k) (mode_at (unwrap_or o free_lock).held k)) (at_lock-with_other p.table.table other lock t ne)
      ∙ covers-itself (table_mode lock p k));
  gone = [];
  letters = refl;
}

pub grants-nothing : {lossy : Type 0} (lock : LockName) (p q : LockParts) (k : ℕ) → Inv lossy lock p → IsBlocked (run_of p.table lock) → Call lock p q → k ≤ 8 → GrantsNothing lock p q k
grants-nothing {lossy} lock p _ k inv blocked (OfMail post call) x =
    same lock p p.holders post k (ap (filter_map (in_view p.table.generation (grant_of lock))) (mail-keeps p.post post call p.master k inv.master x))
grants-nothing {lossy} lock p q k inv blocked (OfNode _ call) x = node-grants-nothing lock p q k call
grants-nothing {lossy} lock p q k inv blocked (OfMaster _ call) x = master-grants-nothing lock p q k inv blocked call
