-- A grant waits for every report and every slot.
use Rattle.std.proofs.Common.{ℕ, ◌≡◌, ◌≤◌, ◌⊎◌, inl, inr, Bool, true, false, Option, None, Some, List, [], ◌∷◌, ◌++◌, cond, refl, sym, ap, ◌∙◌}
use Rattle.std.specs.Prelude.{◌==◌, not, fold}
use Rattle.std.specs.List.{filter_map}
use Rattle.std.proofs.lemmas.Bool.{cases_Bool, or_parts}
use Rattle.std.proofs.lemmas.List.{append-nil}
use Rattle.glock_names.specs.declared.LockName.{LockName}
use Rattle.glock_names.specs.States.{mode_for}
use Rattle.fencing.specs.NodeSets.{has}
use Rattle.dlm_modes.specs.declared.Mode.{Mode}
use Rattle.mail_queues.specs.declared.Message.{Message}
use Rattle.mail_queues.specs.declared.Body.{Body}
use Rattle.mail_queues.specs.declared.Body.TheVariants.{Request, Down}
use Rattle.dlm_master.specs.declared.claims.Cause.{Cause}
use Rattle.dlm_master.specs.Locks.{answer_by, grants_of}
use Rattle.dlm_master.specs.Tables.{is_blocked, request_waits, after_next}
use Rattle.dlm_rebuild.specs.Rebuilding.{after_request_in}
use Rattle.lock_laws.specs.Lock.{Node}
use Rattle.lock_steps.specs.Parts.{Parts, way, now_says, with_left}
use Rattle.lock_steps.specs.Ties.{sight, Tied, in_view, grants, present}
use Rattle.lock_steps.specs.Calls.{KnowsSlots, MailCall, HolderCall, TableCall, MemberCall, reply, grant_letter}
use Rattle.lock_steps.specs.Calls as calls
use Rattle.lock_steps.specs.Laws.{Call, OfMail, OfHolder, OfTable, OfMembers, MayGrant, SetsNone, GrantsWait}
use Rattle.lock_steps.proofs.Basics.{true-false}
use Rattle.lock_steps.proofs.Ways.{letters-mute, letters-quiet-from, left-rest, mail-keeps}
use Rattle.lock_steps.proofs.Claims.{no-cause}
use Rattle.lock_steps.proofs.Sets.{least-none, zero-has}
use Rattle.lock_steps.proofs.Tying.{now-says, says-none}
use Rattle.lock_steps.proofs.Turning.{not-zero}
use Rattle.lock_steps.proofs.Membering.{none-new}
use Rattle.lock_steps.proofs.Listing.{list-steps}

same-grants : (lock : LockName) (p q : Parts) (k : ℕ) → (sight lock q k).down ≡ (sight lock p k).down → SetsNone lock p q k
same-grants lock p q k e = record { gone = []; grants = sym e }

-- a message in hand is dealt with, and nothing is written
takes-one : (lock : LockName) (p q : Parts) (a b : ℕ) (m : Message) (rest : List Message) (k : ℕ) → p.post.took a b ≡ m ∷ rest
    → (sight lock q k).down ≡ filter_map (in_view p.membership.generation (grants lock)) (way (with_left p.post a b rest) p.master k) → SetsNone lock p q k
takes-one lock p q a b m rest k hand e =
    let less = left-rest (in_view p.membership.generation (grants lock)) p.post a b m rest p.master k hand in
    record { gone = less.0; grants = less.1 ∙ ap (λ (ms : List Mode). less.0 ++ ms) (sym e) }

-- a master that may grant
may-grant : (lock : LockName) (p : Parts) (l : ℕ → Node) → Tied lock p l → KnowsSlots p → p.table.master.rebuild ≡ false → ((i : ℕ) → i ≤ 8 → has p.table.master.waiting i ≡ false) → MayGrant p
may-grant lock p l tied knows done none = record {
  rebuilt = done;
  heard = tied.done done;
  runs = λ i x. elim (cases_Bool (has p.membership.waiting i)) [ inl waits ↦ true-false (knows done i x waits) (none i x) | inr runs ↦ runs ];
}

mute-one : (lock : LockName) (p : Parts) (b : Body) → grants lock b ≡ None → filter_map (in_view p.membership.generation (grants lock)) (now_says p b ∷ []) ≡ []
mute-one lock p b e = says-none (in_view p.membership.generation (grants lock)) (now_says p b) (now-says (grants lock) p.membership.generation b ∙ e)

holder-waits : (lock : LockName) (p q : Parts) (k : ℕ) → HolderCall lock p q → SetsNone lock p q k
holder-waits lock p _ k (calls.Asks j s acts from) = same-grants lock p _ k
    (letters-mute (in_view p.membership.generation (grants lock)) p.post j p.master (now_says p (Request lock (mode_for s)) ∷ []) p.master k (mute-one lock p (Request lock (mode_for s)) refl))
holder-waits lock p _ k (calls.IsGranted j mode value rest acts runs hand) = takes-one lock p _ p.master j _ rest k hand refl
holder-waits lock p _ k (calls.Lowers j s value acts covered some idle) = same-grants lock p _ k
    (letters-mute (in_view p.membership.generation (grants lock)) p.post j p.master (now_says p (Down lock (mode_for s) value) ∷ []) p.master k (mute-one lock p (Down lock (mode_for s) value) refl))
holder-waits lock p _ k (calls.Drops from to m rest x y hand mute) = takes-one lock p _ from to m rest k hand refl
holder-waits lock p _ k (calls.Writes from to letters x y old up down) = same-grants lock p _ k
    (letters-quiet-from (in_view p.membership.generation (grants lock)) p.post from to letters p.master k down)
holder-waits lock p _ k (calls.HoldsElsewhere j other holding ne) = same-grants lock p _ k refl

member-waits : (lock : LockName) (p q : Parts) (l : ℕ → Node) (k : ℕ) → k ≤ 8 → Tied lock p l → MemberCall lock p q → SetsNone lock p q k
member-waits lock p _ l k x tied (calls.Stops j y) = same-grants lock p _ k refl
member-waits lock p _ l k x tied (calls.Fences j) = same-grants lock p _ k refl
member-waits lock p _ l k x tied (calls.IsRecovered j y waits) = same-grants lock p _ k refl
member-waits lock p _ l k x tied (calls.Joins j y out) = same-grants lock p _ k refl
member-waits lock p _ l k x tied (calls.Changes master y is) = record {
  gone = (sight lock p k).down;
  grants = sym (ap (λ (ms : List Mode). (sight lock p k).down ++ ms) (none-new (grants lock) p.membership.generation (way p.post master k) (tied.mail master k y x)) ∙ append-nil (sight lock p k).down);
}
member-waits lock p _ l k x tied (calls.TakesView j h letters over y member roll untaken old says mute) = same-grants lock p _ k
    (letters-mute (in_view p.membership.generation (grants lock)) p.post j p.master letters p.master k mute)

table-waits : (lock : LockName) (p q : Parts) (l : ℕ → Node) (k : ℕ) → Tied lock p l → TableCall lock p q → SetsNone lock p q k ⊎ MayGrant p
table-waits lock p _ l k tied (calls.Requested j mode rest x hand new idle knows) = by (request_waits p.table.master j lock mode) refl
  where
    by : (c : Option Cause) → request_waits p.table.master j lock mode ≡ c
        → SetsNone lock p (record p {
          table = after_request_in p.table j lock mode;
          post = reply p lock j mode (answer_by c (present p lock)) (with_left p.post j p.master rest);
        }) k ⊎ MayGrant p
    by None e =
        let free = no-cause p.table.master.rebuild p.table.master.waiting (present p lock).held (present p lock).conversions (present p lock).requests j mode e in
        inr (may-grant lock p l tied knows free.0 (least-none p.table.master.waiting free.1))
    by (Some cause) e = inl (takes-one lock p _ j p.master _ rest k hand refl)
table-waits lock p _ l k tied (calls.Lowered j mode said rest x hand above idle) = inl (takes-one lock p _ j p.master _ rest k hand refl)
table-waits lock p _ l k tied (calls.LoweredAlready j mode said rest x hand already) = inl (takes-one lock p _ j p.master _ rest k hand refl)
table-waits lock p _ l k tied (calls.TableElsewhere other t ne) = inl (same-grants lock p _ k refl)
table-waits lock p _ l k tied (calls.Reported j mode value rest x hand under idle) = inl (takes-one lock p _ j p.master _ rest k hand refl)
table-waits lock p _ l k tied (calls.Ended j rest x hand) = inl (takes-one lock p _ j p.master _ rest k hand refl)
table-waits lock p _ l k tied (calls.GrantsNext knows) = by (is_blocked p.table.master) refl
  where
    by : (b : Bool) → is_blocked p.table.master ≡ b
        → SetsNone lock p (record p {
          table = record p.table { master = after_next p.table.master lock };
          post = fold (grant_letter p lock) p.post (cond b [] (grants_of (present p lock)));
        }) k ⊎ MayGrant p
    by true e = inl (same-grants lock p _ k refl)
    by false e =
        let parts = or_parts p.table.master.rebuild (not (p.table.master.waiting == 0)) e in
        inr (may-grant lock p l tied knows parts.0 (λ i x. ap (λ (n : ℕ). has n i) (not-zero p.table.master.waiting parts.1) ∙ zero-has i))
table-waits lock p _ l k tied (calls.Completes ended) = inl (same-grants lock p _ k refl)
table-waits lock p _ l k tied (calls.Blocks waiting) = inl (same-grants lock p _ k refl)

call-waits : (lock : LockName) (p q : Parts) (l : ℕ → Node) (k : ℕ) → Tied lock p l → Call lock p q → k ≤ 8 → SetsNone lock p q k ⊎ MayGrant p
call-waits lock p _ l k tied (OfMail post call) x = inl (same-grants lock p _ k
    (ap (filter_map (in_view p.membership.generation (grants lock))) (mail-keeps p.post post call p.master k tied.master x)))
call-waits lock p _ l k tied (OfHolder q call) x = inl (holder-waits lock p q k call)
call-waits lock p _ l k tied (OfTable q call) x = table-waits lock p q l k tied call
call-waits lock p _ l k tied (OfMembers q call) x = inl (member-waits lock p q l k x tied call)

pub grants-wait : GrantsWait
grants-wait lock a p q k begins before call = let r = list-steps lock a p begins before in call-waits lock p q r.2 k r.4 call
