-- A grant brings the lock's value.
use Rattle.std.proofs.Common.{ℕ, ◌≡◌, ◌≤◌, inl, inr, Bool, true, false, Option, Some, None, List, [], ◌∷◌, ◌++◌, cond, refl, sym, ap, ◌∙◌, subst, append_assoc, append-nil}
use Rattle.std.specs.Prelude.{fold, map, is_none, option_map, unwrap_or}
use Rattle.std.specs.List.{AllByRecursion, filter_map}
use Rattle.std.proofs.lemmas.Bool.{cases_eq, cond-true}
use Rattle.glock_names.specs.declared.LockName.{LockName}
use Rattle.glock_names.specs.LockMaps.{at_lock}
use Rattle.glock_names.proofs.LockMapLaws.{at_lock-with_other}
use Rattle.dlm_modes.specs.declared.Mode.{Mode}
use Rattle.dlm_modes.specs.declared.Mode.TheVariants.{Nl, Cr, Cw, Pr, Pw, Ex}
use Rattle.dlm_modes.specs.declared.ValueBlock.{ValueBlock}
use Rattle.dlm_modes.specs.Modes.{go_together, is_at_least}
use Rattle.dlm_modes.proofs.ModeLaws.{covers-itself, together-turned, together-weaker}
use Rattle.mail_queues.specs.declared.Message.{Message}
use Rattle.mail_queues.specs.declared.Body.TheVariants.{Request, Convert, Down, Grant, Report, End}
use Rattle.dlm_master.specs.declared.claims.Claim.{Claim}
use Rattle.dlm_master.specs.declared.claims.Cause.{Cause}
use Rattle.dlm_master.specs.Claims.{mode_of_node}
use Rattle.dlm_master.specs.LockState.{LockState}
use Rattle.dlm_master.specs.Locks.{free_lock, answer_by, writes_value, value_after, lowered, all_turns, after_grants, grants_of}
use Rattle.dlm_master.specs.Tables.{MasterState, lock_of, with_state, is_blocked, request_waits, convert_waits, after_turns}
use Rattle.dlm_master.proofs.RunLaws.{together-at}
use Rattle.dlm_master.proofs.ValueLaws.{request-value, convert-value}
use Rattle.dlm_master.proofs.RunTables.{written, turned-lock}
use Rattle.lock_steps.specs.Parts.{Post, way, with_left}
use Rattle.lock_steps.specs.Ties.{in_view, grants}
use Rattle.lock_steps.proofs.Basics.{true-false, same-self}
use Rattle.lock_steps.proofs.Tying.{now-says, says-one}
use Rattle.lock_steps.proofs.Ways.{letters-say, letters-away, mail-keeps}
use Rattle.conversion_laws.specs.Parts.{LockParts, now_says, grant_of, grants_coming, valued_grants, lock_in_table, table_mode}
use Rattle.conversion_laws.specs.Calls.{NodeCall, MasterCall, Call, OfMail, OfNode, OfMaster, kept_value, grant_letter, reply}
use Rattle.conversion_laws.specs.Calls as calls
use Rattle.conversion_laws.specs.Laws.{GrantsNothing, BringsValue}
use Rattle.conversion_laws.proofs.Stages.{covered}
use Rattle.conversion_laws.proofs.Nodes.{sight, Inv}
use Rattle.conversion_laws.proofs.Masters.{no-grant-behind}
use Rattle.conversion_laws.proofs.Blocking.{mode-is, same, node-grants-nothing, left-over}

-- ---- letters that grant

-- the grants of the lock that come from its master, by this mail
abbrev brought : LockName → LockParts → Post → ℕ → List (Mode × ValueBlock)
brought lock p post k = filter_map (in_view p.table.generation (grant_of lock)) (way post p.master k)

abbrev AllBring : ValueBlock → List (Mode × ValueBlock) → Type 0
AllBring value gs = AllByRecursion (λ (g : Mode × ValueBlock). g.1 ≡ value) gs

-- letters that bring this value were added
record Added (lock : LockName) (p : LockParts) (before after : Post) (k : ℕ) (value : ValueBlock) : Type 0 where
  fresh : List (Mode × ValueBlock)
  more : brought lock p after k ≡ brought lock p before k ++ fresh
  all : AllBring value fresh

none-added : (lock : LockName) (p : LockParts) (post : Post) (k : ℕ) (value : ValueBlock) → Added lock p post post k value
none-added lock p post k value = record { fresh = []; more = sym (append-nil _); all = tt }

letter-added : (lock : LockName) (p : LockParts) (post : Post) (grant : ℕ × Mode × ValueBlock) (k : ℕ) (value : ValueBlock) → grant.2 ≡ value → Added lock p post (grant_letter p lock post grant) k value
letter-added lock p post grant k value brings = elim (cases_eq k grant.0) [
  | inl e ↦ subst (λ (i : ℕ). Added lock p post (grant_letter p lock post grant) i value) (sym e) (record {
    fresh = (grant.1, grant.2) ∷ [];
    more = letters-say (in_view p.table.generation (grant_of lock)) post p.master grant.0 (now_says p (Grant lock grant.1 grant.2) ∷ [])
        ∙ ap (λ (gs : List (Mode × ValueBlock)). brought lock p post grant.0 ++ gs)
        (says-one (in_view p.table.generation (grant_of lock)) (now_says p (Grant lock grant.1 grant.2)) (grant.1, grant.2)
        (now-says (grant_of lock) p.table.generation (Grant lock grant.1 grant.2) ∙ cond-true _ _ _ (same-self lock)));
    all = (brings, tt);
  })
  | inr ne ↦ record {
    fresh = [];
    more = ap (filter_map (in_view p.table.generation (grant_of lock))) (letters-away post p.master grant.0 (now_says p (Grant lock grant.1 grant.2) ∷ []) p.master k (λ e f. ne f))
        ∙ sym (append-nil _);
    all = tt;
  }
]

all-on : (value : ValueBlock) (xs ys : List (Mode × ValueBlock)) → AllBring value xs → AllBring value ys → AllBring value (xs ++ ys)
all-on value [] ys a b = b
all-on value (x ∷ xs) ys a b = (a.0, all-on value xs ys a.1 b)

letters-added : (lock : LockName) (p : LockParts) (post : Post) (gs : List (ℕ × Mode × ValueBlock)) (k : ℕ) (value : ValueBlock) → AllByRecursion (λ (g : ℕ × Mode × ValueBlock). g.2 ≡ value) gs
    → Added lock p post (fold (grant_letter p lock) post gs) k value
letters-added lock p post [] k value all = none-added lock p post k value
letters-added lock p post (g ∷ gs) k value all =
    let one = letter-added lock p post g k value all.0 in
    let rest = letters-added lock p (grant_letter p lock post g) gs k value all.1 in
    record {
      fresh = one.fresh ++ rest.fresh;
      more = rest.more ∙ (ap (λ (t : List (Mode × ValueBlock)). t ++ rest.fresh) one.more ∙ append_assoc (brought lock p post k) one.fresh rest.fresh);
      all = all-on value one.fresh rest.fresh one.all rest.all;
    }

claims-bring : (value : ValueBlock) (ws : List Claim) → AllByRecursion (λ (g : ℕ × Mode × ValueBlock). g.2 ≡ value) (map (λ (c : Claim). (c.node, c.mode, value)) ws)
claims-bring value [] = tt
claims-bring value (w ∷ ws) = (refl, claims-bring value ws)

-- ---- a call

-- a call that sets nothing on its way
brings-nothing : (lock : LockName) (p q : LockParts) (k : ℕ) → GrantsNothing lock p q k → BringsValue lock p q k
brings-nothing lock p q k n = record { gone = n.gone; kept = valued_grants lock q k; fresh = []; before = n.letters; after = sym (append-nil _); value = tt }

-- a call of the master, which had a message in hand or none
brings-more : (lock : LockName) (p : LockParts) (t : MasterState) (left post : Post) (k : ℕ) → t.generation ≡ p.table.generation → valued_grants lock p k ≡ brought lock p left k
    → Added lock p left post k (lock_in_table lock p).value → BringsValue lock p (record p { table = t; post = post }) k
brings-more lock p t left post k view before a = record {
  gone = [];
  kept = brought lock p left k;
  fresh = a.fresh;
  before = before;
  after = ap (λ (g : ℕ). filter_map (in_view g (grant_of lock)) (way post p.master k)) view ∙ a.more;
  value = a.all;
}

reply-added : (lock : LockName) (p : LockParts) (j : ℕ) (mode : Mode) (o : Option Cause) (left : Post) (k : ℕ)
    → Added lock p left (reply p lock j mode (answer_by o (lock_in_table lock p)) left) k (lock_in_table lock p).value
reply-added lock p j mode None left k = letter-added lock p left (j, mode, (lock_in_table lock p).value) k (lock_in_table lock p).value refl
reply-added lock p j mode (Some cause) left k = none-added lock p left k (lock_in_table lock p).value

master-brings : (lock : LockName) (p q : LockParts) (k : ℕ) → MasterCall lock p q → BringsValue lock p q k
master-brings lock p _ k (calls.Requested j mode rest x hand) =
    brings-more lock p _ (with_left p.post j p.master rest) _ k refl (left-over lock p j (Request lock mode) rest k hand refl) (reply-added lock p j mode (request_waits p.table j lock mode) (with_left p.post j p.master rest) k)
master-brings lock p _ k (calls.Converted j mode rest x hand) =
    brings-more lock p _ (with_left p.post j p.master rest) _ k refl (left-over lock p j (Convert lock mode) rest k hand refl) (reply-added lock p j mode (convert_waits p.table j lock mode) (with_left p.post j p.master rest) k)
master-brings lock p _ k (calls.Lowered j mode value rest x hand above) =
    brings-more lock p _ (with_left p.post j p.master rest) _ k refl (left-over lock p j (Down lock mode value) rest k hand refl) (none-added lock p _ k _)
master-brings lock p _ k (calls.LoweredAlready j mode value rest x hand already) =
    brings-more lock p _ (with_left p.post j p.master rest) _ k refl (left-over lock p j (Down lock mode value) rest k hand refl) (none-added lock p _ k _)
master-brings lock p _ k (calls.Reported j mode value rest x hand r) =
    brings-more lock p _ (with_left p.post j p.master rest) _ k refl (left-over lock p j (Report lock mode value) rest k hand refl) (none-added lock p _ k _)
master-brings lock p _ k (calls.Ended j rest x hand r) =
    brings-nothing lock p _ k (record { table = inl (covers-itself (table_mode lock p k)); gone = []; letters = left-over lock p j End rest k hand refl })
master-brings lock p _ k (calls.Completes r done) =
    brings-nothing lock p _ k (record { table = inl (covers-itself (table_mode lock p k)); gone = []; letters = refl })
master-brings lock p _ k calls.GrantsNext = by (is_blocked p.table) (is_none (at_lock p.table.table lock))
  where
    by : (b c : Bool) → BringsValue lock p (record p {
      table = cond b p.table (cond c p.table (with_state p.table lock (after_grants (lock_in_table lock p))));
      post = fold (grant_letter p lock) p.post (cond b [] (grants_of (lock_in_table lock p)));
    }) k
    by true c = brings-more lock p _ p.post _ k refl refl (none-added lock p _ k _)
    by false true = brings-more lock p _ p.post _ k refl refl (letters-added lock p p.post (grants_of (lock_in_table lock p)) k _ (claims-bring _ (all_turns (lock_in_table lock p)).granted))
    by false false = brings-more lock p _ p.post _ k refl refl (letters-added lock p p.post (grants_of (lock_in_table lock p)) k _ (claims-bring _ (all_turns (lock_in_table lock p)).granted))
master-brings lock p _ k (calls.Blocks rebuild waiting stays) = brings-more lock p _ p.post _ k refl refl (none-added lock p _ k _)
master-brings lock p _ k (calls.TableElsewhere other t ne) = brings-more lock p _ p.post _ k refl refl (none-added lock p _ k _)

pub brings-value : {lossy : Type 0} (lock : LockName) (p q : LockParts) (k : ℕ) → Inv lossy lock p → Call lock p q → k ≤ 8 → BringsValue lock p q k
brings-value {lossy} lock p _ k inv (OfMail post call) x =
    brings-nothing lock p _ k (same lock p p.holders post k (ap (filter_map (in_view p.table.generation (grant_of lock))) (mail-keeps p.post post call p.master k inv.master x)))
brings-value {lossy} lock p q k inv (OfNode _ call) x = brings-nothing lock p q k (node-grants-nothing lock p q k call)
brings-value {lossy} lock p q k inv (OfMaster _ call) x = master-brings lock p q k call

-- ---- a grant that goes with no writer brings what the table has

abbrev IsValued : ValueBlock → Mode × ValueBlock → Type 0
IsValued value g = go_together g.0 Pw ≡ false → g.1 ≡ value

abbrev AllValued : ValueBlock → List (Mode × ValueBlock) → Type 0
AllValued value gs = AllByRecursion (IsValued value) gs

abbrev pub Valued : LockName → LockParts → Type 0
Valued lock p = (k : ℕ) → k ≤ 8 → AllByRecursion (λ (g : Mode × ValueBlock). go_together g.0 Pw ≡ false → g.1 ≡ (lock_in_table lock p).value) (valued_grants lock p k)

all-behind : (value : ValueBlock) (xs ys : List (Mode × ValueBlock)) → AllValued value (xs ++ ys) → AllValued value ys
all-behind value [] ys a = a
all-behind value (x ∷ xs) ys a = all-behind value xs ys a.1

all-with-fresh : (value : ValueBlock) (xs ys : List (Mode × ValueBlock)) → AllValued value xs → AllBring value ys → AllValued value (xs ++ ys)
all-with-fresh value [] [] a b = tt
all-with-fresh value [] (y ∷ ys) a b = ((λ goes. b.0), all-with-fresh value [] ys tt b.1)
all-with-fresh value (x ∷ xs) ys a b = (a.0, all-with-fresh value xs ys a.1 b)

-- a call that leaves the value
valued-still : (lock : LockName) (p q : LockParts) (k : ℕ) → (lock_in_table lock q).value ≡ (lock_in_table lock p).value → BringsValue lock p q k
    → AllValued (lock_in_table lock p).value (valued_grants lock p k) → AllValued (lock_in_table lock q).value (valued_grants lock q k)
valued-still lock p q k is b all =
    let v : ValueBlock = (lock_in_table lock p).value in
    subst (λ (w : ValueBlock). AllValued w (valued_grants lock q k)) (sym is)
    (subst (AllValued v) (sym b.after) (all-with-fresh v b.kept b.fresh (all-behind v b.gone b.kept (subst (AllValued v) b.before all)) b.value))

-- the modes of the grants
module _ {X A B : Type 0} (f : X → Option A) (h : X → Option B) (part : B → A) (each : (x : X) → f x ≡ option_map part (h x)) where
  parts-of : (xs : List X) → filter_map f xs ≡ map part (filter_map h xs)
  parts-of [] = refl
  parts-of (x ∷ xs) = by (h x) refl (parts-of xs)
    where
      by : (o : Option B) → h x ≡ o → filter_map f xs ≡ map part (filter_map h xs) → filter_map f (x ∷ xs) ≡ map part (filter_map h (x ∷ xs))
      by None e rest = rw (e, each x ∙ ap (option_map part) e) rest
      by (Some b) e rest = rw (e, each x ∙ ap (option_map part) e) (ap (λ (l : List A). part b ∷ l) rest)

pub modes-of : (lock : LockName) (p : LockParts) (k : ℕ) → grants_coming lock p k ≡ map (λ (g : Mode × ValueBlock). g.0) (valued_grants lock p k)
modes-of lock p k = parts-of (in_view p.table.generation (grants lock)) (in_view p.table.generation (grant_of lock)) (λ (g : Mode × ValueBlock). g.0) (mode-is p.table.generation lock) (way p.post p.master k)

-- ---- a lower

writes-strong : (had : Option Mode) → writes_value had ≡ true → is_at_least (unwrap_or had Nl) Pw ≡ true
writes-strong None e = e
writes-strong (Some Nl) e = e
writes-strong (Some Cr) e = e
writes-strong (Some Cw) e = e
writes-strong (Some Pr) e = e
writes-strong (Some Pw) e = refl
writes-strong (Some Ex) e = refl

value-stays : (had : Option Mode) (given : Option (List ℕ)) (v : ValueBlock) → writes_value had ≡ false → value_after had given v ≡ v
value-stays had None v e = refl
value-stays had (Some bytes) v e = ap (λ (b : Bool). cond b (let w : ValueBlock = record { bytes = bytes; valid = true } in w) v) e

-- beside who may write the value only modes that go with that are granted
beside-writer : (t writer : Mode) (v : ValueBlock) (gs : List (Mode × ValueBlock)) → AllByRecursion (λ mode. is_at_least t mode ≡ true) (map (λ (g : Mode × ValueBlock). g.0) gs)
    → go_together t writer ≡ true → is_at_least writer Pw ≡ true → AllValued v gs
beside-writer t writer v [] covers goes strong = tt
beside-writer t writer v (g ∷ gs) covers goes strong = (
  λ apart. true-false (together-turned Pw g.0 (together-weaker Pw t g.0 (together-turned t Pw (together-weaker t writer Pw goes strong)) covers.0)) apart,
  beside-writer t writer v gs covers.1 goes strong,
)

pub none-of-map : {A B : Type 0} (f : A → B) (xs : List A) → map f xs ≡ [] → xs ≡ []
none-of-map f [] e = refl
none-of-map {A} {B} f (x ∷ xs) e = absurd (let h : f x ∷ map f xs ≡ [] = e in cc)

lowered-valued : {lossy : Type 0} (lock : LockName) (p : LockParts) (j : ℕ) (mode : Mode) (value : Option (List ℕ)) (rest : List Message) → Inv lossy lock p → j ≤ 8
    → p.post.took j p.master ≡ now_says p (Down lock mode value) ∷ rest → (p.rebuilding ≡ true → ⊥) → (given : Option (List ℕ)) (k : ℕ) → k ≤ 8 → AllValued (lock_in_table lock p).value (valued_grants lock p k)
    → AllValued (value_after (mode_of_node (lock_in_table lock p).held j) given (lock_in_table lock p).value) (valued_grants lock p k)
lowered-valued {lossy} lock p j mode value rest inv x hand calm given k y all = by (writes_value (mode_of_node l.held j)) refl
  where
    l : LockState
    l = lock_in_table lock p

    after : ValueBlock
    after = value_after (mode_of_node l.held j) given l.value

    by : (b : Bool) → writes_value (mode_of_node l.held j) ≡ b → AllValued after (valued_grants lock p k)
    by false e = subst (λ (w : ValueBlock). AllValued w (valued_grants lock p k)) (sym (value-stays (mode_of_node l.held j) given l.value e)) all
    by true e = elim (cases_eq k j) [
      | inl is ↦ subst (AllValued after) (sym (none-of-map (λ (g : Mode × ValueBlock). g.0) (valued_grants lock p k) (sym (modes-of lock p k)
          ∙ (ap (grants_coming lock p) is ∙ no-grant-behind lock p j mode value rest inv x hand)))) tt
      | inr ne ↦ beside-writer (table_mode lock p k) (table_mode lock p j) after (valued_grants lock p k)
          (subst (λ (ms : List Mode). AllByRecursion (λ mode. is_at_least (table_mode lock p k) mode ≡ true) ms) (modes-of lock p k) (covered (sight lock p k) (inv.stages k y) (λ r. absurd (calm r))).1)
          (together-at l.held inv.together k j ne) (writes-strong (mode_of_node l.held j) e)
    ]

-- ---- the calls

node-leaves : (lock : LockName) (p q : LockParts) → NodeCall lock p q → (lock_in_table lock q).value ≡ (lock_in_table lock p).value
node-leaves lock p _ (calls.Asks j mode x t null none) = refl
node-leaves lock p _ (calls.Raises j mode x t some covers none) = refl
node-leaves lock p _ (calls.Lowers j mode value x t known covers none) = refl
node-leaves lock p _ (calls.LowersBefore j mode x not covers) = refl
node-leaves lock p _ (calls.TakesView j h letters over x not old says mute) = refl
node-leaves lock p _ (calls.IsGranted j mode value rest x hand) = refl
node-leaves lock p _ (calls.DropsGrant j mode value rest x hand) = refl
node-leaves lock p _ (calls.Drops from to m rest x y hand quiet mute) = refl
node-leaves lock p _ (calls.Writes from to letters x y old calls mute) = refl
node-leaves lock p _ (calls.HoldsElsewhere j other holding ne) = refl

value-of : (a b : LockState) → a ≡ b → a.value ≡ b.value
value-of a b e = ap (λ (l : LockState). l.value) e

pub valued-keeps : {lossy : Type 0} (lock : LockName) (p q : LockParts) → Inv lossy lock p → Call lock p q → Valued lock p → Valued lock q
valued-keeps {lossy} lock p _ inv (OfMail post call) all k y = valued-still lock p _ k refl (brings-value lock p _ k inv (OfMail post call) y) (all k y)
valued-keeps {lossy} lock p q inv (OfNode _ call) all k y = valued-still lock p q k (node-leaves lock p q call) (brings-value lock p q k inv (OfNode q call) y) (all k y)
valued-keeps {lossy} lock p _ inv (OfMaster _ (calls.Requested j mode rest x hand)) all k y =
    valued-still lock p _ k (value-of _ _ (written p.table lock _) ∙ request-value (request_waits p.table j lock mode) (lock_in_table lock p) j mode)
    (master-brings lock p _ k (calls.Requested j mode rest x hand)) (all k y)
valued-keeps {lossy} lock p _ inv (OfMaster _ (calls.Converted j mode rest x hand)) all k y =
    valued-still lock p _ k (value-of _ _ (written p.table lock _) ∙ convert-value (convert_waits p.table j lock mode) (lock_in_table lock p) j mode)
    (master-brings lock p _ k (calls.Converted j mode rest x hand)) (all k y)
valued-keeps {lossy} lock p _ inv (OfMaster _ (calls.Lowered j mode value rest x hand above)) all k y =
    subst (λ (w : ValueBlock). AllValued w (brought lock p (with_left p.post j p.master rest) k)) (sym (value-of _ _ (written p.table lock (lowered (lock_in_table lock p) j mode (kept_value p value)))))
    (subst (AllValued (lowered (lock_in_table lock p) j mode (kept_value p value)).value) (left-over lock p j (Down lock mode value) rest k hand refl)
    (by p.rebuilding refl))
  where
    by : (b : Bool) → p.rebuilding ≡ b → AllValued (value_after (mode_of_node (lock_in_table lock p).held j) (cond b None value) (lock_in_table lock p).value) (valued_grants lock p k)
    by true e = all k y
    by false e = lowered-valued lock p j mode value rest inv x hand (λ r. true-false r e) value k y (all k y)
valued-keeps {lossy} lock p _ inv (OfMaster _ (calls.LoweredAlready j mode value rest x hand already)) all k y =
    valued-still lock p _ k refl (master-brings lock p _ k (calls.LoweredAlready j mode value rest x hand already)) (all k y)
valued-keeps {lossy} lock p _ inv (OfMaster _ (calls.Reported j mode value rest x hand r)) all k y =
    valued-still lock p _ k (value-of _ _ (written p.table lock _)) (master-brings lock p _ k (calls.Reported j mode value rest x hand r)) (all k y)
valued-keeps {lossy} lock p _ inv (OfMaster _ (calls.Ended j rest x hand r)) all k y = valued-still lock p _ k refl (master-brings lock p _ k (calls.Ended j rest x hand r)) (all k y)
valued-keeps {lossy} lock p _ inv (OfMaster _ (calls.Completes r done)) all k y = valued-still lock p _ k refl (master-brings lock p _ k (calls.Completes r done)) (all k y)
valued-keeps {lossy} lock p _ inv (OfMaster _ calls.GrantsNext) all k y = valued-still lock p _ k (by (is_blocked p.table)) (master-brings lock p _ k calls.GrantsNext) (all k y)
  where
    by : (b : Bool) → (lock_of (cond b p.table (after_turns p.table lock)) lock).value ≡ (lock_in_table lock p).value
    by true = refl
    by false = value-of _ _ (turned-lock p.table lock)
valued-keeps {lossy} lock p _ inv (OfMaster _ (calls.Blocks rebuild waiting stays)) all k y = valued-still lock p _ k refl (master-brings lock p _ k (calls.Blocks rebuild waiting stays)) (all k y)
valued-keeps {lossy} lock p _ inv (OfMaster _ (calls.TableElsewhere other t ne)) all k y =
    valued-still lock p _ k (ap (λ (o : Option LockState). (unwrap_or o free_lock).value) (at_lock-with_other p.table.table other lock t ne)) (master-brings lock p _ k (calls.TableElsewhere other t ne)) (all k y)

-- the first of them
pub first-valued : (lock : LockName) (p : LockParts) (k : ℕ) (g : Mode × ValueBlock) (gs : List (Mode × ValueBlock)) → Valued lock p → k ≤ 8 → valued_grants lock p k ≡ g ∷ gs
    → go_together g.0 Pw ≡ false → g.1 ≡ (lock_in_table lock p).value
first-valued lock p k g gs all x e = (subst (AllValued (lock_in_table lock p).value) e (all k x)).0
