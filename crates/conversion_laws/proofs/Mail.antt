-- Nothing is under way that is newer than the view.
use Rattle.std.proofs.Common.{ℕ, ◌≡◌, ◌≤◌, Bool, true, false, Option, None, Some, List, [], ◌∷◌, cond, sym, subst, arith}
use Rattle.std.specs.Prelude.{fold, is_none}
use Rattle.std.specs.List.{AllByRecursion}
use Rattle.glock_names.specs.declared.LockName.{LockName}
use Rattle.glock_names.specs.LockMaps.{at_lock}
use Rattle.dlm_modes.specs.declared.Mode.{Mode}
use Rattle.dlm_modes.specs.declared.ValueBlock.{ValueBlock}
use Rattle.mail_queues.specs.declared.Message.{Message}
use Rattle.mail_queues.specs.declared.Body.TheVariants.{Request, Convert, Down, Grant}
use Rattle.dlm_master.specs.declared.claims.Cause.{Cause}
use Rattle.dlm_master.specs.Locks.{answer_by, after_grants, grants_of}
use Rattle.dlm_master.specs.Tables.{with_state, is_blocked, request_waits, convert_waits}
use Rattle.lock_steps.specs.Parts.{Post, way, with_left}
use Rattle.lock_steps.proofs.Ways.{letters-all, left-all, mail-keeps}
use Rattle.conversion_laws.specs.Parts.{LockParts, NoneNewer, now_says, lock_in_table}
use Rattle.conversion_laws.specs.Calls.{NodeCall, MasterCall, Call, OfMail, OfNode, OfMaster, Calls, NoCall, AndCall, grant_letter, reply}
use Rattle.conversion_laws.specs.Calls as calls

-- the same of this mail
abbrev AllOld : LockParts → Post → Type 0
AllOld p post = (i k : ℕ) → i ≤ 8 → k ≤ 8 → AllByRecursion (λ m. m.generation ≤ p.table.generation) (way post i k)

module _ (lock : LockName) (p : LockParts) where
  abbrev IsOld : Message → Type 0
  IsOld m = m.generation ≤ p.table.generation

  letter-old : (post : Post) (grant : ℕ × Mode × ValueBlock) → AllOld p post → AllOld p (grant_letter p lock post grant)
  letter-old post grant old i k x y = letters-all IsOld post p.master grant.0 (now_says p (Grant lock grant.1 grant.2) ∷ []) i k (omega arith, tt) (old i k x y)

  letters-old : (gs : List (ℕ × Mode × ValueBlock)) (post : Post) → AllOld p post → AllOld p (fold (grant_letter p lock) post gs)
  letters-old [] post old = old
  letters-old (g ∷ gs) post old = letters-old gs (grant_letter p lock post g) (letter-old post g old)

  reply-old : (j : ℕ) (mode : Mode) (o : Option Cause) (post : Post) → AllOld p post → AllOld p (reply p lock j mode (answer_by o (lock_in_table lock p)) post)
  reply-old j mode None post old = letter-old post (j, mode, (lock_in_table lock p).value) old
  reply-old j mode (Some cause) post old = old

  left-old : (from to : ℕ) (m : Message) (rest : List Message) → p.post.took from to ≡ m ∷ rest → NoneNewer p → AllOld p (with_left p.post from to rest)
  left-old from to m rest hand old i k x y = left-all IsOld p.post from to m rest i k hand (old i k x y)

node-old : (lock : LockName) (p q : LockParts) → NodeCall lock p q → NoneNewer p → NoneNewer q
node-old lock p _ (calls.Asks j mode x t null none) old = λ i k y z. letters-all (IsOld lock p) p.post j p.master (now_says p (Request lock mode) ∷ []) i k (omega arith, tt) (old i k y z)
node-old lock p _ (calls.Raises j mode x t some covers none) old = λ i k y z. letters-all (IsOld lock p) p.post j p.master (now_says p (Convert lock mode) ∷ []) i k (omega arith, tt) (old i k y z)
node-old lock p _ (calls.Lowers j mode value x t known covers none) old =
    λ i k y z. letters-all (IsOld lock p) p.post j p.master (now_says p (Down lock mode value) ∷ []) i k (omega arith, tt) (old i k y z)
node-old lock p _ (calls.LowersBefore j mode x not covers) old = old
node-old lock p _ (calls.TakesView j h letters over x not none says mute) old = λ i k y z. letters-all (IsOld lock p) p.post j p.master letters i k none (old i k y z)
node-old lock p _ (calls.IsGranted j mode value rest x hand) old = left-old lock p p.master j _ rest hand old
node-old lock p _ (calls.DropsGrant j mode value rest x hand) old = left-old lock p p.master j _ rest hand old
node-old lock p _ (calls.Drops from to m rest x y hand quiet mute) old = left-old lock p from to m rest hand old
node-old lock p _ (calls.Writes from to letters x y none calls mute) old = λ i k u v. letters-all (IsOld lock p) p.post from to letters i k none (old i k u v)
node-old lock p _ (calls.HoldsElsewhere j other holding ne) old = old

master-old : (lock : LockName) (p q : LockParts) → MasterCall lock p q → NoneNewer p → NoneNewer q
master-old lock p _ (calls.Requested j mode rest x hand) old =
    reply-old lock p j mode (request_waits p.table j lock mode) (with_left p.post j p.master rest) (left-old lock p j p.master _ rest hand old)
master-old lock p _ (calls.Converted j mode rest x hand) old =
    reply-old lock p j mode (convert_waits p.table j lock mode) (with_left p.post j p.master rest) (left-old lock p j p.master _ rest hand old)
master-old lock p _ (calls.Lowered j mode value rest x hand above) old = left-old lock p j p.master _ rest hand old
master-old lock p _ (calls.LoweredAlready j mode value rest x hand already) old = left-old lock p j p.master _ rest hand old
master-old lock p _ (calls.Reported j mode value rest x hand r) old = left-old lock p j p.master _ rest hand old
master-old lock p _ (calls.Ended j rest x hand r) old = left-old lock p j p.master _ rest hand old
master-old lock p _ (calls.Completes r done) old = old
master-old lock p _ calls.GrantsNext old = by (is_blocked p.table) (is_none (at_lock p.table.table lock))
  where
    by : (b c : Bool) → NoneNewer (record p {
      table = cond b p.table (cond c p.table (with_state p.table lock (after_grants (lock_in_table lock p))));
      post = fold (grant_letter p lock) p.post (cond b [] (grants_of (lock_in_table lock p)));
    })
    by true c = old
    by false true = letters-old lock p (grants_of (lock_in_table lock p)) p.post old
    by false false = letters-old lock p (grants_of (lock_in_table lock p)) p.post old
master-old lock p _ (calls.Blocks rebuild waiting stays) old = old
master-old lock p _ (calls.TableElsewhere other t ne) old = old

call-old : (lock : LockName) (p q : LockParts) → Call lock p q → NoneNewer p → NoneNewer q
call-old lock p _ (OfMail post call) old = λ i k x y. subst (AllByRecursion (IsOld lock p)) (sym (mail-keeps p.post post call i k x y)) (old i k x y)
call-old lock p q (OfNode _ call) old = node-old lock p q call old
call-old lock p q (OfMaster _ call) old = master-old lock p q call old

pub none-newer-after : (lock : LockName) (p q : LockParts) → Calls lock p q → NoneNewer p → NoneNewer q
none-newer-after lock p _ NoCall old = old
none-newer-after lock p _ (AndCall q r before call) old = call-old lock q r call (none-newer-after lock p q before old)
