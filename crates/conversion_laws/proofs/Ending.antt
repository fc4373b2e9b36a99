-- Of each node at most one end comes, and only while the table is made anew and the node hasn't ended.
use Rattle.std.proofs.Common.{ℕ, ◌≡◌, ◌≤◌, inl, inr, Bool, true, false, Option, None, Some, List, [], ◌∷◌, ◌++◌, cond, refl, sym, ap, ◌∙◌, subst}
use Rattle.std.specs.Prelude.{⊤, fold, is_none}
use Rattle.std.specs.List.{filter_map}
use Rattle.std.proofs.lemmas.Bool.{cases_eq, cond-true}
use Rattle.glock_names.specs.declared.LockName.{LockName}
use Rattle.glock_names.specs.LockMaps.{at_lock}
use Rattle.dlm_modes.specs.declared.Mode.{Mode}
use Rattle.dlm_modes.specs.declared.ValueBlock.{ValueBlock}
use Rattle.fencing.specs.NodeSets.{has, with_node}
use Rattle.mail_queues.specs.declared.Message.{Message}
use Rattle.mail_queues.specs.declared.Body.{Body}
use Rattle.mail_queues.specs.declared.Body.TheVariants.{Request, Convert, Down, Grant, End}
use Rattle.dlm_holder.specs.Holdings.{Holdings, asked_for, lowered_to}
use Rattle.dlm_master.specs.declared.claims.Cause.{Cause}
use Rattle.dlm_master.specs.Locks.{answer_by, after_grants, grants_of}
use Rattle.dlm_master.specs.Tables.{with_state, is_blocked, request_waits, convert_waits}
use Rattle.lock_steps.specs.Parts.{Post, way, with_letters, with_left}
use Rattle.lock_steps.specs.Ties.{in_view}
use Rattle.lock_steps.proofs.Basics.{true-false, same-self}
use Rattle.lock_steps.proofs.Sets.{all-ended}
use Rattle.lock_steps.proofs.Membering.{with-node-away}
use Rattle.lock_steps.proofs.Tying.{now-says, says-one, says-none}
use Rattle.lock_steps.proofs.Ways.{letters-say, letters-mute, letters-away, letters-quiet-to, left-away, left-rest, mail-keeps}
use Rattle.conversion_laws.specs.Parts.{LockParts, now_says, Tell, Reports, Ends, Lowers, Requests, Converts, tell_of, tells_coming, lock_in_table}
use Rattle.conversion_laws.specs.Calls.{SaysAll, TellsHeld, TellsNone, NodeCall, MasterCall, Call, OfMail, OfNode, OfMaster, grant_letter, reply}
use Rattle.conversion_laws.specs.Calls as calls
use Rattle.conversion_laws.proofs.Stages.{untaken}
use Rattle.conversion_laws.proofs.Nodes.{sight, Inv}
use Rattle.conversion_laws.proofs.Masters.{call-first}

abbrev EndsOnce : Type 0 → List Tell → Type 0
EndsOnce may [] = ⊤
EndsOnce may (Ends ∷ q) = may × EndsOnce ⊥ q
EndsOnce may (Reports m ∷ q) = EndsOnce may q
EndsOnce may (Lowers m v ∷ q) = EndsOnce may q
EndsOnce may (Requests m ∷ q) = EndsOnce may q
EndsOnce may (Converts m ∷ q) = EndsOnce may q

-- a member is to end a table that is made anew
abbrev IsToEnd : LockParts → ℕ → Type 0
IsToEnd p k = (p.rebuilding ≡ true) × (has p.members k ≡ true) × (has p.ended k ≡ false)

abbrev pub Ending : LockName → LockParts → Type 0
Ending lock p = (k : ℕ) → k ≤ 8 → EndsOnce (IsToEnd p k) (tells_coming lock p k)

-- ---- lists

ends-wider : (may more : Type 0) → (may → more) → (q : List Tell) → EndsOnce may q → EndsOnce more q
ends-wider may more f [] once = tt
ends-wider may more f (Ends ∷ q) once = (f once.0, once.1)
ends-wider may more f (Reports m ∷ q) once = ends-wider may more f q once
ends-wider may more f (Lowers m v ∷ q) once = ends-wider may more f q once
ends-wider may more f (Requests m ∷ q) once = ends-wider may more f q once
ends-wider may more f (Converts m ∷ q) once = ends-wider may more f q once

ends-behind : (may : Type 0) (gone q : List Tell) → EndsOnce may (gone ++ q) → EndsOnce may q
ends-behind may [] q once = once
ends-behind may (Ends ∷ gone) q once = ends-wider ⊥ may (λ never. absurd never) q (ends-behind ⊥ gone q once.1)
ends-behind may (Reports m ∷ gone) q once = ends-behind may gone q once
ends-behind may (Lowers m v ∷ gone) q once = ends-behind may gone q once
ends-behind may (Requests m ∷ gone) q once = ends-behind may gone q once
ends-behind may (Converts m ∷ gone) q once = ends-behind may gone q once

ends-more : (may : Type 0) (q : List Tell) (c : Tell) → (c ≡ Ends → ⊥) → EndsOnce may q → EndsOnce may (q ++ c ∷ [])
ends-more may [] Ends other once = absurd (other refl)
ends-more may [] (Reports m) other once = tt
ends-more may [] (Lowers m v) other once = tt
ends-more may [] (Requests m) other once = tt
ends-more may [] (Converts m) other once = tt
ends-more may (Ends ∷ q) c other once = (once.0, ends-more ⊥ q c other once.1)
ends-more may (Reports m ∷ q) c other once = ends-more may q c other once
ends-more may (Lowers m v ∷ q) c other once = ends-more may q c other once
ends-more may (Requests m ∷ q) c other once = ends-more may q c other once
ends-more may (Converts m ∷ q) c other once = ends-more may q c other once

-- ---- the mail

-- what comes from a node, by this mail
abbrev told : LockName → LockParts → Post → ℕ → List Tell
told lock p post k = filter_map (in_view p.table.generation (tell_of lock)) (way post k p.master)

abbrev EndsBy : LockName → LockParts → Post → Type 0
EndsBy lock p post = (k : ℕ) → k ≤ 8 → EndsOnce (IsToEnd p k) (told lock p post k)

-- the node writes to the master
wrote-more : (lock : LockName) (p : LockParts) (j : ℕ) (h : Holdings) (b : Body) (c : Tell) → j ≤ 8 → tell_of lock b ≡ Some c → (c ≡ Ends → ⊥) → Ending lock p → Ending lock (calls.tells p j h b)
wrote-more lock p j h b c small said other ending k x = elim (cases_eq k j) [
  | inl e ↦ subst (λ (i : ℕ). EndsOnce (IsToEnd p i) (told lock p (with_letters p.post j p.master (now_says p b ∷ [])) i)) (sym e)
      (subst (EndsOnce (IsToEnd p j)) (sym (letters-say (in_view p.table.generation (tell_of lock)) p.post j p.master (now_says p b ∷ [])
      ∙ ap (λ (cs : List Tell). tells_coming lock p j ++ cs) (says-one (in_view p.table.generation (tell_of lock)) (now_says p b) c (now-says (tell_of lock) p.table.generation b ∙ said))))
      (ends-more (IsToEnd p j) (tells_coming lock p j) c other (ending j small)))
  | inr ne ↦ subst (EndsOnce (IsToEnd p k)) (sym (ap (filter_map (in_view p.table.generation (tell_of lock))) (letters-away p.post j p.master (now_says p b ∷ []) k p.master (λ e f. ne e)))) (ending k x)
]

-- a message in hand is dealt with
took-one : (lock : LockName) (p : LockParts) (from to : ℕ) (m : Message) (rest : List Message) → p.post.took from to ≡ m ∷ rest → Ending lock p → EndsBy lock p (with_left p.post from to rest)
took-one lock p from to m rest hand ending k x =
    let less = left-rest (in_view p.table.generation (tell_of lock)) p.post from to m rest k p.master hand in
    ends-behind (IsToEnd p k) less.0 _ (subst (EndsOnce (IsToEnd p k)) less.1 (ending k x))

-- letters that grant tell the master nothing
module _ (lock : LockName) (p : LockParts) where
  letter-ends : (post : Post) (grant : ℕ × Mode × ValueBlock) → EndsBy lock p post → EndsBy lock p (grant_letter p lock post grant)
  letter-ends post grant ends k x = subst (EndsOnce (IsToEnd p k))
      (sym (letters-mute (in_view p.table.generation (tell_of lock)) post p.master grant.0 (now_says p (Grant lock grant.1 grant.2) ∷ []) k p.master
      (says-none (in_view p.table.generation (tell_of lock)) (now_says p (Grant lock grant.1 grant.2)) (now-says (tell_of lock) p.table.generation (Grant lock grant.1 grant.2)))))
      (ends k x)

  letters-end : (gs : List (ℕ × Mode × ValueBlock)) (post : Post) → EndsBy lock p post → EndsBy lock p (fold (grant_letter p lock) post gs)
  letters-end [] post ends = ends
  letters-end (g ∷ gs) post ends = letters-end gs (grant_letter p lock post g) (letter-ends post g ends)

  reply-ends : (j : ℕ) (mode : Mode) (o : Option Cause) (post : Post) → EndsBy lock p post → EndsBy lock p (reply p lock j mode (answer_by o (lock_in_table lock p)) post)
  reply-ends j mode None post ends = letter-ends post (j, mode, (lock_in_table lock p).value) ends
  reply-ends j mode (Some cause) post ends = ends

-- ---- the calls

-- a member that takes the view tells once that this is all
view-ends : {lossy : Type 0} (lock : LockName) (p : LockParts) (j : ℕ) (letters : List Message) → Inv lossy lock p → j ≤ 8 → p.taken j ≡ false → SaysAll lock p j letters
    → Ending lock p → EndsBy lock p (with_letters p.post j p.master letters)
view-ends {lossy} lock p j letters inv small not says ending k x =
    let u = untaken (sight lock p j) (inv.stages j small) not in
    elim (cases_eq k j) [
      | inl e ↦ subst (λ (i : ℕ). EndsOnce (IsToEnd p i) (told lock p (with_letters p.post j p.master letters) i)) (sym e)
          (subst (EndsOnce (IsToEnd p j)) (sym (letters-say (in_view p.table.generation (tell_of lock)) p.post j p.master letters
          ∙ ap (λ (cs : List Tell). cs ++ filter_map (in_view p.table.generation (tell_of lock)) letters) u.4)) (by says (u.0, u.1, u.2)))
      | inr ne ↦ subst (EndsOnce (IsToEnd p k)) (sym (ap (filter_map (in_view p.table.generation (tell_of lock))) (letters-away p.post j p.master letters k p.master (λ e f. ne e)))) (ending k x)
    ]
  where
    by : SaysAll lock p j letters → IsToEnd p j → EndsOnce (IsToEnd p j) (filter_map (in_view p.table.generation (tell_of lock)) letters)
    by (TellsHeld e) is = subst (EndsOnce (IsToEnd p j)) (sym e) (is, tt)
    by (TellsNone null e) is = subst (EndsOnce (IsToEnd p j)) (sym e) (is, tt)

node-ends : {lossy : Type 0} (lock : LockName) (p q : LockParts) → Inv lossy lock p → NodeCall lock p q → Ending lock p → Ending lock q
node-ends {lossy} lock p _ inv (calls.Asks j mode x t null none) ending =
    wrote-more lock p j (asked_for (p.holders j) lock mode) (Request lock mode) (Requests mode) x (cond-true _ _ _ (same-self lock)) (λ e. absurd (let f : Requests mode ≡ Ends = e in cc)) ending
node-ends {lossy} lock p _ inv (calls.Raises j mode x t some covers none) ending =
    wrote-more lock p j (asked_for (p.holders j) lock mode) (Convert lock mode) (Converts mode) x (cond-true _ _ _ (same-self lock)) (λ e. absurd (let f : Converts mode ≡ Ends = e in cc)) ending
node-ends {lossy} lock p _ inv (calls.Lowers j mode value x t known covers none) ending =
    wrote-more lock p j (lowered_to (p.holders j) lock mode) (Down lock mode value) (Lowers mode value) x (cond-true _ _ _ (same-self lock)) (λ e. absurd (let f : Lowers mode value ≡ Ends = e in cc)) ending
node-ends {lossy} lock p _ inv (calls.LowersBefore j mode x not covers) ending = ending
node-ends {lossy} lock p _ inv (calls.TakesView j h letters over x not old says mute) ending = view-ends lock p j letters inv x not says ending
node-ends {lossy} lock p _ inv (calls.IsGranted j mode value rest x hand) ending = took-one lock p p.master j _ rest hand ending
node-ends {lossy} lock p _ inv (calls.DropsGrant j mode value rest x hand) ending = took-one lock p p.master j _ rest hand ending
node-ends {lossy} lock p _ inv (calls.Drops from to m rest x y hand quiet mute) ending = took-one lock p from to m rest hand ending
node-ends {lossy} lock p _ inv (calls.Writes from to letters x y old calls mute) ending = λ k z.
    subst (EndsOnce (IsToEnd p k)) (sym (letters-quiet-to (in_view p.table.generation (tell_of lock)) p.post from to letters k p.master calls)) (ending k z)
node-ends {lossy} lock p _ inv (calls.HoldsElsewhere j other holding ne) ending = ending

-- the node has ended, and no end of it comes any more
ended-ends : (lock : LockName) (p : LockParts) (j : ℕ) (rest : List Message) → j ≤ 8 → p.post.took j p.master ≡ now_says p End ∷ rest → Ending lock p
    → Ending lock (record p { ended = with_node p.ended j; post = with_left p.post j p.master rest })
ended-ends lock p j rest small hand ending k x = elim (cases_eq k j) [
  | inl e ↦ subst (λ (i : ℕ). EndsOnce (IsToEnd q i) (told lock p (with_left p.post j p.master rest) i)) (sym e)
      (let once : EndsOnce (IsToEnd p j) (Ends ∷ told lock p (with_left p.post j p.master rest) j) =
      subst (EndsOnce (IsToEnd p j)) (call-first lock p j End Ends rest hand refl refl) (ending j small) in
      ends-wider ⊥ (IsToEnd q j) (λ never. absurd never) (told lock p (with_left p.post j p.master rest) j) once.1)
  | inr ne ↦ subst (EndsOnce (IsToEnd q k)) (sym (ap (filter_map (in_view p.table.generation (tell_of lock))) (left-away p.post j p.master rest k p.master (λ e f. ne e))))
      (ends-wider (IsToEnd p k) (IsToEnd q k) (λ m. (m.0, m.1, with-node-away p.ended j k ne ∙ m.2)) (tells_coming lock p k) (ending k x))
]
  where
    q : LockParts
    q = record p { ended = with_node p.ended j; post = with_left p.post j p.master rest }

master-ends : (lock : LockName) (p q : LockParts) → MasterCall lock p q → Ending lock p → Ending lock q
master-ends lock p _ (calls.Requested j mode rest x hand) ending =
    reply-ends lock p j mode (request_waits p.table j lock mode) (with_left p.post j p.master rest) (took-one lock p j p.master _ rest hand ending)
master-ends lock p _ (calls.Converted j mode rest x hand) ending =
    reply-ends lock p j mode (convert_waits p.table j lock mode) (with_left p.post j p.master rest) (took-one lock p j p.master _ rest hand ending)
master-ends lock p _ (calls.Lowered j mode value rest x hand above) ending = took-one lock p j p.master _ rest hand ending
master-ends lock p _ (calls.LoweredAlready j mode value rest x hand already) ending = took-one lock p j p.master _ rest hand ending
master-ends lock p _ (calls.Reported j mode value rest x hand r) ending = took-one lock p j p.master _ rest hand ending
master-ends lock p _ (calls.Ended j rest x hand r) ending = ended-ends lock p j rest x hand ending
master-ends lock p _ (calls.Completes r done) ending = λ k x.
    ends-wider (IsToEnd p k) (IsToEnd (record p { rebuilding = false }) k) (λ m. true-false (all-ended p.members p.ended done k x m.1) m.2) (tells_coming lock p k) (ending k x)
master-ends lock p _ calls.GrantsNext ending = by (is_blocked p.table) (is_none (at_lock p.table.table lock))
  where
    by : (b c : Bool) → Ending lock (record p {
      table = cond b p.table (cond c p.table (with_state p.table lock (after_grants (lock_in_table lock p))));
      post = fold (grant_letter p lock) p.post (cond b [] (grants_of (lock_in_table lock p)));
    })
    by true c = ending
    by false true = letters-end lock p (grants_of (lock_in_table lock p)) p.post ending
    by false false = letters-end lock p (grants_of (lock_in_table lock p)) p.post ending
master-ends lock p _ (calls.Blocks rebuild waiting stays) ending = ending
master-ends lock p _ (calls.TableElsewhere other t ne) ending = ending

pub ending-keeps : {lossy : Type 0} (lock : LockName) (p q : LockParts) → Inv lossy lock p → Call lock p q → Ending lock p → Ending lock q
ending-keeps {lossy} lock p _ inv (OfMail post call) ending = λ k x.
    subst (EndsOnce (IsToEnd p k)) (sym (ap (filter_map (in_view p.table.generation (tell_of lock))) (mail-keeps p.post post call k p.master x inv.master))) (ending k x)
ending-keeps {lossy} lock p q inv (OfNode _ call) ending = node-ends lock p q inv call ending
ending-keeps {lossy} lock p q inv (OfMaster _ call) ending = master-ends lock p q call ending

-- where nothing comes nothing ends
pub nothing-ends : (lock : LockName) (p : LockParts) → ((k : ℕ) → k ≤ 8 → tells_coming lock p k ≡ []) → Ending lock p
nothing-ends lock p none k x = subst (EndsOnce (IsToEnd p k)) (sym (none k x)) tt

-- an end in hand finds a rebuild
pub meets-end : (lock : LockName) (p : LockParts) (k : ℕ) (rest : List Message) → Ending lock p → k ≤ 8 → p.post.took k p.master ≡ now_says p End ∷ rest → p.rebuilding ≡ true
meets-end lock p k rest ending x hand = (subst (EndsOnce (IsToEnd p k)) (call-first lock p k End Ends rest hand refl refl) (ending k x)).0.0
