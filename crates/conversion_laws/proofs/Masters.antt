-- What the master does to the invariant.
use Rattle.std.proofs.Common.{ℕ, ◌≡◌, ◌≢◌, ◌⊎◌, ◌<◌, ◌≤◌, arith, inl, inr, Bool, true, false, Option, None, Some, List, [], ◌∷◌, ◌++◌, cond, refl, sym, ap, ◌∙◌, subst, append_assoc, append-nil}
use Rattle.std.specs.Prelude.{◌||◌, ◌==◌, not, fold, map, is_none, is_some, option_to_list, unwrap_or}
use Rattle.std.specs.List.{AllByRecursion, filter_map}
use Rattle.std.proofs.lemmas.Bool.{cases_eq, cond-true}
use Rattle.std.proofs.lemmas.Bool.Decides.{eqb_tells}
use Rattle.glock_names.specs.declared.LockName.{LockName}
use Rattle.glock_names.specs.LockMaps.{at_lock}
use Rattle.glock_names.proofs.LockMapLaws.{at_lock-with_other}
use Rattle.dlm_modes.specs.declared.Mode.{Mode}
use Rattle.dlm_modes.specs.declared.Mode.TheVariants.{Nl, Cr, Cw, Pr, Pw, Ex}
use Rattle.dlm_modes.specs.declared.ValueBlock.{ValueBlock}
use Rattle.dlm_modes.specs.Modes.{go_together, is_at_least, is_above}
use Rattle.dlm_modes.proofs.ModeLaws.{covers-itself, together-turned}
use Rattle.fencing.specs.NodeSets.{with_node}
use Rattle.mail_queues.specs.declared.Message.{Message}
use Rattle.mail_queues.specs.declared.Body.{Body}
use Rattle.mail_queues.specs.declared.Body.TheVariants.{Request, Convert, Down, Grant, Report, End}
use Rattle.dlm_master.specs.declared.claims.Claim.{Claim}
use Rattle.dlm_master.specs.declared.claims.Cause.{Cause}
use Rattle.dlm_master.specs.Claims.{is_of, mode_of_node, mode_at, now_holding, Absent, OneEach, Together}
use Rattle.dlm_master.specs.LockState.{LockState}
use Rattle.dlm_master.specs.Locks.{free_lock, claim, is_waiting, requested, converted, lowered, reported, answer_by, all_turns, after_grants, grants_of}
use Rattle.dlm_master.specs.Tables.{holds_above, holds_covered, lock_of, with_state, is_blocked, request_waits, convert_waits, after_turns}
use Rattle.dlm_master.specs.Runs.{run_of}
use Rattle.dlm_master.specs.Runs as runs
use Rattle.dlm_master.specs.Laws.{IsSound, IsSplit, Nobody, IsGranted, Stays, LosesNobody}
use Rattle.dlm_master.proofs.ClaimLaws.{one-now, absent-mode, absent-along, all-left, all-right, none-of}
use Rattle.dlm_master.proofs.BlockLaws.{blocked-cause}
use Rattle.dlm_master.proofs.RunLaws.{together-of, together-at, grants-keep, grants-keep-together}
use Rattle.dlm_master.proofs.SoundLaws.{null-none, sound-now, sound-grants, sound-locks-stay-sound}
use Rattle.dlm_master.proofs.TableLaws.{lock-free}
use Rattle.dlm_master.proofs.TurnLaws.{split-on, split-all, split-one, no-waiter-is-lost}
use Rattle.lock_steps.specs.Parts.{Post, way, with_left}
use Rattle.lock_steps.specs.Ties.{in_view, grants}
use Rattle.lock_steps.proofs.Basics.{true-false, up-to, same-self}
use Rattle.lock_steps.proofs.Sets.{all-ended}
use Rattle.lock_steps.proofs.Membering.{with-node-here, with-node-away}
use Rattle.lock_steps.proofs.Tying.{now-says, says-one, says-none}
use Rattle.lock_steps.proofs.Ways.{letters-say, letters-mute, letters-away, left-says, left-mute, left-away}
use Rattle.lock_steps.proofs.Claims.{now-here, now-away, among-here, among-away}
use Rattle.dlm_master.proofs.RunTables.{written}
use Rattle.conversion_laws.specs.Parts.{LockParts, now_says, Tell, Reports, Ends, Lowers, Requests, Converts, tell_of, tells_coming, grants_coming, lock_in_table, table_mode}
use Rattle.conversion_laws.specs.Calls.{MasterCall, kept_value, grant_letter, reply}
use Rattle.conversion_laws.specs.Calls as calls
use Rattle.conversion_laws.proofs.Stages.{Sight, IsHeard, IsRead, sees, stands}
use Rattle.conversion_laws.proofs.Stages as stages
use Rattle.conversion_laws.proofs.Nodes.{sight, Inv, StageOf, Kept, as-same, as-before, kept-as, fades, unchanged}

-- ---- what is seen where this is the lock in the table, and this is under way

abbrev seen : LockName → LockParts → LockState → Post → ℕ → Sight
seen lock p l post j = record (sight lock p j) {
  table = mode_at l.held j;
  waits = mode_of_node (l.conversions ++ l.requests) j;
  coming = filter_map (in_view p.table.generation (tell_of lock)) (way post j p.master);
  granted = filter_map (in_view p.table.generation (grants lock)) (way post p.master j);
}

wrote : {lossy : Type 0} (lock : LockName) (p : LockParts) (l : LockState) (post : Post) → Inv lossy lock p → IsSound l × Together l.held
    → (p.rebuilding ≡ true → (j : ℕ) → 8 < j → mode_at l.held j ≡ Nl) → ((j : ℕ) → j ≤ 8 → Kept lossy p (sight lock p j) (seen lock p l post j))
    → Inv lossy lock (record p { table = with_state p.table lock l; post = post })
wrote {lossy} lock p l post inv good far kept =
    let is : lock_of (with_state p.table lock l) lock ≡ l = written p.table lock l in
    record {
      master = inv.master;
      sound = subst IsSound (sym is) good.0;
      together = subst (λ (u : LockState). Together u.held) (sym is) good.1;
      stages = λ j x. subst (λ (u : LockState). StageOf lossy p (seen lock p u post j)) (sym is) (kept j x).0;
      under = λ r. record {
        rebuild = (inv.under r).rebuild;
        far = λ j y. subst (λ (u : LockState). mode_at u.held j ≡ Nl) (sym is) (far r j y);
        apart = λ i k x y ne. subst (λ (u : LockState). go_together (stands (seen lock p u post i)) (stands (seen lock p u post k)) ≡ true) (sym is)
            (fades (λ j. stands (sight lock p j)) (λ j. stands (seen lock p l post j)) (λ j z. (kept j z).1 r) i k x y ((inv.under r).apart i k x y ne));
      };
    }

-- ---- what the master's calls keep

kept : {lossy : Type 0} (lock : LockName) (p : LockParts) (call : runs.Call) → Inv lossy lock p → runs.MayCall (run_of p.table lock) call
    → IsSound (runs.after (run_of p.table lock) call).lock × Together (runs.after (run_of p.table lock) call).lock.held
kept {lossy} lock p call inv may = (
  sound-locks-stay-sound.stays (run_of p.table lock) (call ∷ []) (may, tt) inv.sound,
  grants-keep-together (run_of p.table lock) (call ∷ []) (may, tt) inv.together,
)

-- ---- what the table has of a node

waits-not : (l : LockState) (k : ℕ) → mode_of_node (l.conversions ++ l.requests) k ≡ None → is_waiting l k ≡ false
waits-not l k e =
    let away : Absent k (l.conversions ++ l.requests) = none-of (l.conversions ++ l.requests) k e in
    ap (λ (o : Option Mode). is_some o || is_some (mode_of_node l.requests k))
    (absent-mode l.conversions k (all-left (λ d. is_of k d ≡ false) l.conversions l.requests away))
    ∙ ap is_some (absent-mode l.requests k (all-right (λ d. is_of k d ≡ false) l.conversions l.requests away))

covers-it : (o : Option Mode) (mode : Mode) → unwrap_or o Nl ≢ Nl → is_at_least mode (unwrap_or o Nl) ≡ true → holds_covered o mode ≡ true
covers-it None mode some covers = absurd (some refl)
covers-it (Some had) mode some covers = covers

above-or-is : (a b : Mode) → is_at_least a b ≡ true → (is_above a b ≡ true) ⊎ (a ≡ b)
above-or-is Nl Nl e = inr refl
above-or-is Cr Cr e = inr refl
above-or-is Cw Cw e = inr refl
above-or-is Pr Pr e = inr refl
above-or-is Pw Pw e = inr refl
above-or-is Ex Ex e = inr refl
above-or-is a b e = inl e

above-or-same : (o : Option Mode) (mode : Mode) → is_at_least (unwrap_or o Nl) mode ≡ true → (holds_above o mode ≡ true) ⊎ (unwrap_or o Nl ≡ mode)
above-or-same None mode covers = elim (above-or-is Nl mode covers) [
  | inl above ↦ true-false above (never mode)
  | inr same ↦ inr same
]
  where
    never : (mode : Mode) → is_above Nl mode ≡ false
    never Nl = refl
    never Cr = refl
    never Cw = refl
    never Pr = refl
    never Pw = refl
    never Ex = refl
above-or-same (Some had) mode covers = above-or-is had mode covers

-- ---- a message in hand

module _ (lock : LockName) (p : LockParts) (k : ℕ) (b : Body) (c : Tell) (rest : List Message) (hand : p.post.took k p.master ≡ now_says p b ∷ rest)
    (said : tell_of lock b ≡ Some c) (mute : grants lock b ≡ None) where
  abbrev pub left : Post
  left = with_left p.post k p.master rest

  abbrev pub calls_left : List Tell
  calls_left = filter_map (in_view p.table.generation (tell_of lock)) (way left k p.master)

  pub call-first : tells_coming lock p k ≡ c ∷ calls_left
  call-first =
      left-says (in_view p.table.generation (tell_of lock)) p.post k p.master (now_says p b) rest c hand (now-says (tell_of lock) p.table.generation b ∙ said)

  pub grants-same : (j : ℕ) → filter_map (in_view p.table.generation (grants lock)) (way left p.master j) ≡ grants_coming lock p j
  grants-same j =
      left-mute (in_view p.table.generation (grants lock)) p.post k p.master (now_says p b) rest p.master j hand (now-says (grants lock) p.table.generation b ∙ mute)

  pub calls-same : (j : ℕ) → (j ≡ k → ⊥) → filter_map (in_view p.table.generation (tell_of lock)) (way left j p.master) ≡ tells_coming lock p j
  calls-same j ne = ap (filter_map (in_view p.table.generation (tell_of lock))) (left-away p.post k p.master rest j p.master (λ e f. ne e))

-- ---- a letter that grants

-- to a waiter
abbrev claim_letter : LockParts → LockName → Post → Claim → Post
claim_letter p lock post w = grant_letter p lock post (w.node, w.mode, (lock_in_table lock p).value)

-- and to each who is granted
granted-letters : (lock : LockName) (p : LockParts) (ws : List Claim) (post : Post)
    → fold (grant_letter p lock) post (map (λ c. (c.node, c.mode, (lock_in_table lock p).value)) ws) ≡ fold (claim_letter p lock) post ws
granted-letters lock p [] post = refl
granted-letters lock p (w ∷ ws) post = granted-letters lock p ws (claim_letter p lock post w)

module _ (lock : LockName) (p : LockParts) (post : Post) (w : Claim) where
  abbrev letter : List Message
  letter = now_says p (Grant lock w.mode (lock_in_table lock p).value) ∷ []

  grant-says : filter_map (in_view p.table.generation (grants lock)) (way (claim_letter p lock post w) p.master w.node)
      ≡ filter_map (in_view p.table.generation (grants lock)) (way post p.master w.node) ++ w.mode ∷ []
  grant-says =
      letters-say (in_view p.table.generation (grants lock)) post p.master w.node letter
      ∙ ap (λ (ms : List Mode). filter_map (in_view p.table.generation (grants lock)) (way post p.master w.node) ++ ms)
      (says-one (in_view p.table.generation (grants lock)) (now_says p (Grant lock w.mode (lock_in_table lock p).value)) w.mode
      (now-says (grants lock) p.table.generation (Grant lock w.mode (lock_in_table lock p).value) ∙ cond-true _ _ _ (same-self lock)))

  grant-away : (j : ℕ) → (j ≡ w.node → ⊥) → filter_map (in_view p.table.generation (grants lock)) (way (claim_letter p lock post w) p.master j)
      ≡ filter_map (in_view p.table.generation (grants lock)) (way post p.master j)
  grant-away j ne = ap (filter_map (in_view p.table.generation (grants lock))) (letters-away post p.master w.node letter p.master j (λ e f. ne f))

  grant-mute : (j : ℕ) → filter_map (in_view p.table.generation (tell_of lock)) (way (claim_letter p lock post w) j p.master)
      ≡ filter_map (in_view p.table.generation (tell_of lock)) (way post j p.master)
  grant-mute j = letters-mute (in_view p.table.generation (tell_of lock)) post p.master w.node letter j p.master
      (says-none (in_view p.table.generation (tell_of lock)) (now_says p (Grant lock w.mode (lock_in_table lock p).value))
      (now-says (tell_of lock) p.table.generation (Grant lock w.mode (lock_in_table lock p).value)))

-- ---- an ask that comes to the table

module _ {lossy : Type 0} (lock : LockName) (p : LockParts) (k : ℕ) (mode : Mode) (b : Body) (c : Tell) (rest : List Message) (inv : Inv lossy lock p) (within : k ≤ 8)
    (hand : p.post.took k p.master ≡ now_says p b ∷ rest) (said : tell_of lock b ≡ Some c) (mute : grants lock b ≡ None)
    (heard : IsHeard (sight lock p k) mode (calls_left lock p k b c rest hand said mute)) where
  abbrev l : LockState
  l = lock_in_table lock p

  abbrev behind : Post
  behind = with_left p.post k p.master rest

  -- it is granted at once
  pub granted-now : (p.rebuilding ≡ true → ⊥) → IsSound (record l { held = now_holding l.held k mode }) × Together (now_holding l.held k mode)
      → Inv lossy lock (record p { table = with_state p.table lock (record l { held = now_holding l.held k mode }); post = claim_letter p lock behind (claim k mode) })
  granted-now calm good = wrote lock p (record l { held = now_holding l.held k mode }) (claim_letter p lock behind (claim k mode)) inv good (λ r. absurd (calm r)) (λ j x. elim (cases_eq j k) [
    | inl e ↦ subst (λ (i : ℕ). Kept lossy p (sight lock p i) (seen lock p (record l { held = now_holding l.held k mode }) (claim_letter p lock behind (claim k mode)) i)) (sym e) (
      sees _ (seen lock p (record l { held = now_holding l.held k mode }) (claim_letter p lock behind (claim k mode)) k) (refl, refl, refl) refl refl
          (sym (now-here l.held k mode inv.sound.held_once)) refl (sym (grant-mute lock p behind (claim k mode) k))
          (sym (grant-says lock p behind (claim k mode) ∙ ap (λ (ms : List Mode). ms ++ mode ∷ []) (grants-same lock p k b c rest hand said mute k)))
          (stages.then-granted (sight lock p k) mode _ heard),
      λ r. absurd (calm r),
    )
    | inr ne ↦ as-before p (sight lock p j) (seen lock p (record l { held = now_holding l.held k mode }) (claim_letter p lock behind (claim k mode)) j) (refl, refl, refl) refl refl
        (sym (now-away l.held k mode j ne)) refl
        (sym (grant-mute lock p behind (claim k mode) j ∙ calls-same lock p k b c rest hand said mute j ne))
        (sym (grant-away lock p behind (claim k mode) j ne ∙ grants-same lock p k b c rest hand said mute j))
        (inv.stages j x)
  ])

  -- it waits
  pub waits-now : (conversions requests : List Claim) → IsSound (record l { conversions = conversions; requests = requests }) × Together l.held
      → mode_of_node (conversions ++ requests) k ≡ Some mode → ((j : ℕ) → (j ≡ k → ⊥) → mode_of_node (conversions ++ requests) j ≡ mode_of_node (l.conversions ++ l.requests) j)
      → Inv lossy lock (record p { table = with_state p.table lock (record l { conversions = conversions; requests = requests }); post = behind })
  waits-now conversions requests good here away = wrote lock p (record l { conversions = conversions; requests = requests }) behind inv good (λ r. (inv.under r).far) (λ j x. elim (cases_eq j k) [
    | inl e ↦ subst (λ (i : ℕ). Kept lossy p (sight lock p i) (seen lock p (record l { conversions = conversions; requests = requests }) behind i)) (sym e) (
      sees _ (seen lock p (record l { conversions = conversions; requests = requests }) behind k) (refl, refl, refl) refl refl refl (sym here) refl
          (sym (grants-same lock p k b c rest hand said mute k)) (stages.then-waits (sight lock p k) mode _ heard),
      as-same p (sight lock p k) (seen lock p (record l { conversions = conversions; requests = requests }) behind k) (stages.then-stands (sight lock p k) mode _ heard),
    )
    | inr ne ↦ as-before p (sight lock p j) (seen lock p (record l { conversions = conversions; requests = requests }) behind j) (refl, refl, refl) refl refl refl (sym (away j ne))
        (sym (calls-same lock p k b c rest hand said mute j ne)) (sym (grants-same lock p k b c rest hand said mute j)) (inv.stages j x)
  ])

-- ---- what the messages in hand find

record Finds (lock : LockName) (p : LockParts) (k : ℕ) (mode : Mode) (b : Body) (c : Tell) (a : runs.Call) (rest : List Message) (hand : p.post.took k p.master ≡ now_says p b ∷ rest)
    (said : tell_of lock b ≡ Some c) (mute : grants lock b ≡ None) : Type 0 where
  heard : IsHeard (sight lock p k) mode (calls_left lock p k b c rest hand said mute)
  may : runs.MayCall (run_of p.table lock) a

finds-request : {lossy : Type 0} (lock : LockName) (p : LockParts) (k : ℕ) (mode : Mode) (rest : List Message) → Inv lossy lock p → k ≤ 8 → (hand : p.post.took k p.master ≡ now_says p (Request lock mode) ∷ rest)
    → Finds lock p k mode (Request lock mode) (Requests mode) (runs.Requests k mode) rest hand (cond-true _ _ _ (same-self lock)) refl
finds-request {lossy} lock p k mode rest inv x hand =
    let h = stages.hears-request (sight lock p k) mode _ (inv.stages k x) (call-first lock p k (Request lock mode) (Requests mode) rest hand (cond-true _ _ _ (same-self lock)) refl) in
    record { heard = h.0; may = (null-none (lock_in_table lock p).held k inv.sound.never_null h.1, waits-not (lock_in_table lock p) k h.0.waits) }

finds-conversion : {lossy : Type 0} (lock : LockName) (p : LockParts) (k : ℕ) (mode : Mode) (rest : List Message) → Inv lossy lock p → k ≤ 8 → (hand : p.post.took k p.master ≡ now_says p (Convert lock mode) ∷ rest)
    → Finds lock p k mode (Convert lock mode) (Converts mode) (runs.Converts k mode) rest hand (cond-true _ _ _ (same-self lock)) refl
finds-conversion {lossy} lock p k mode rest inv x hand =
    let h = stages.hears-conversion (sight lock p k) mode _ (inv.stages k x) (call-first lock p k (Convert lock mode) (Converts mode) rest hand (cond-true _ _ _ (same-self lock)) refl) in
    record {
      heard = h.0;
      may = (
        covers-it (mode_of_node (lock_in_table lock p).held k) mode h.1 (ap (is_at_least mode) h.0.same ∙ h.0.covers),
        waits-not (lock_in_table lock p) k h.0.waits,
      );
    }

-- a request or a conversion that is met
pub meets-request : {lossy : Type 0} (lock : LockName) (p : LockParts) (k : ℕ) (mode : Mode) (rest : List Message) → Inv lossy lock p → k ≤ 8 → p.post.took k p.master ≡ now_says p (Request lock mode) ∷ rest
    → runs.MayCall (run_of p.table lock) (runs.Requests k mode)
meets-request {lossy} lock p k mode rest inv x hand = (finds-request lock p k mode rest inv x hand).may

pub meets-conversion : {lossy : Type 0} (lock : LockName) (p : LockParts) (k : ℕ) (mode : Mode) (rest : List Message) → Inv lossy lock p → k ≤ 8 → p.post.took k p.master ≡ now_says p (Convert lock mode) ∷ rest
    → runs.MayCall (run_of p.table lock) (runs.Converts k mode)
meets-conversion {lossy} lock p k mode rest inv x hand = (finds-conversion lock p k mode rest inv x hand).may

-- a lower
record FindsLower (lossy : Type 0) (lock : LockName) (p : LockParts) (k : ℕ) (mode : Mode) (q : List Tell) : Type 0 where
  covers : is_at_least (table_mode lock p k) mode ≡ true
  idle : is_waiting (lock_in_table lock p) k ≡ false
  stage : StageOf lossy p (record (sight lock p k) { table = mode; coming = q })
  granted : grants_coming lock p k ≡ []
  less : is_at_least (stands (sight lock p k)) (stands (record (sight lock p k) { table = mode; coming = q })) ≡ true

finds-lower : {lossy : Type 0} (lock : LockName) (p : LockParts) (k : ℕ) (mode : Mode) (value : Option (List ℕ)) (rest : List Message) → Inv lossy lock p → k ≤ 8
    → p.post.took k p.master ≡ now_says p (Down lock mode value) ∷ rest
    → FindsLower lossy lock p k mode (filter_map (in_view p.table.generation (tell_of lock)) (way (with_left p.post k p.master rest) k p.master))
finds-lower {lossy} lock p k mode value rest inv x hand =
    let h = stages.hears-lower (sight lock p k) mode value _ (inv.stages k x) (call-first lock p k (Down lock mode value) (Lowers mode value) rest hand (cond-true _ _ _ (same-self lock)) refl) in
    record { covers = h.0; idle = waits-not (lock_in_table lock p) k h.1; stage = h.2; granted = h.3; less = h.4 }

pub meets-lower : {lossy : Type 0} (lock : LockName) (p : LockParts) (k : ℕ) (mode : Mode) (value : Option (List ℕ)) (rest : List Message) → Inv lossy lock p → k ≤ 8
    → p.post.took k p.master ≡ now_says p (Down lock mode value) ∷ rest
    → ((holds_above (mode_of_node (lock_in_table lock p).held k) mode ≡ true) ⊎ (table_mode lock p k ≡ mode)) × (is_waiting (lock_in_table lock p) k ≡ false)
meets-lower {lossy} lock p k mode value rest inv x hand =
    let f = finds-lower lock p k mode value rest inv x hand in
    (above-or-same (mode_of_node (lock_in_table lock p).held k) mode f.covers, f.idle)

-- no grant is behind it
pub no-grant-behind : {lossy : Type 0} (lock : LockName) (p : LockParts) (k : ℕ) (mode : Mode) (value : Option (List ℕ)) (rest : List Message) → Inv lossy lock p → k ≤ 8
    → p.post.took k p.master ≡ now_says p (Down lock mode value) ∷ rest → grants_coming lock p k ≡ []
no-grant-behind {lossy} lock p k mode value rest inv x hand = (finds-lower lock p k mode value rest inv x hand).granted

-- a report
finds-report : {lossy : Type 0} (lock : LockName) (p : LockParts) (k : ℕ) (mode : Mode) (value : ValueBlock) (rest : List Message) → Inv lossy lock p → k ≤ 8
    → p.post.took k p.master ≡ now_says p (Report lock mode value) ∷ rest
    → IsRead lossy (p.rebuilding ≡ true) (sight lock p k) mode (filter_map (in_view p.table.generation (tell_of lock)) (way (with_left p.post k p.master rest) k p.master))
finds-report {lossy} lock p k mode value rest inv x hand =
    stages.hears-report (sight lock p k) mode _ (inv.stages k x) (call-first lock p k (Report lock mode value) (Reports mode) rest hand (cond-true _ _ _ (same-self lock)) refl)

pub meets-report : {lossy : Type 0} (lock : LockName) (p : LockParts) (k : ℕ) (mode : Mode) (value : ValueBlock) (rest : List Message) → Inv lossy lock p → k ≤ 8
    → p.post.took k p.master ≡ now_says p (Report lock mode value) ∷ rest → (p.rebuilding ≡ true) × (is_waiting (lock_in_table lock p) k ≡ false)
meets-report {lossy} lock p k mode value rest inv x hand = let h = finds-report lock p k mode value rest inv x hand in (h.under, waits-not (lock_in_table lock p) k h.waits)

null-goes : (mode : Mode) → go_together mode Nl ≡ true
null-goes mode = together-turned Nl mode refl

-- what a node reports goes with what the table has of each other
module _ {lossy : Type 0} (lock : LockName) (p : LockParts) (k : ℕ) (mode : Mode) (inv : Inv lossy lock p) (x : k ≤ 8) (r : p.rebuilding ≡ true) (is : stands (sight lock p k) ≡ mode) where
  abbrev held : List Claim
  held = (lock_in_table lock p).held

  goes-near : (i : ℕ) → i ≤ 8 → i ≢ k → go_together mode (mode_at held i) ≡ true
  goes-near i y ne = by (stages.how-it-stands (sight lock p i) (inv.stages i y))
    where
      goes : go_together mode (stands (sight lock p i)) ≡ true
      goes = ap (λ (t : Mode). go_together t (stands (sight lock p i))) (sym is) ∙ (inv.under r).apart k i x y (λ e. ne (sym e))

      by : stages.Stands lossy (p.rebuilding ≡ true) (sight lock p i) → go_together mode (mode_at held i) ≡ true
      by (stages.AsHeld o same null none) = ap (go_together mode) null ∙ null-goes mode
      by (stages.AsReported o covers null none) = ap (go_together mode) null ∙ null-goes mode
      by (stages.AsListed same) = ap (go_together mode) (sym same) ∙ goes

  goes-with : (i : ℕ) → i ≢ k → go_together mode (mode_at held i) ≡ true
  goes-with i ne = elim (up-to i) [
    | inl y ↦ goes-near i y ne
    | inr y ↦ ap (go_together mode) ((inv.under r).far i y) ∙ null-goes mode
  ]

  reported-together : Together (now_holding held k mode)
  reported-together = together-of (now_holding held k mode) (one-now held k mode inv.sound.held_once) (λ i j ne. elim (cases_eq i k) [
    | inl e ↦ subst (λ (a : ℕ). go_together (mode_at (now_holding held k mode) a) (mode_at (now_holding held k mode) j) ≡ true) (sym e)
        (ap (λ (m : Mode). go_together m (mode_at (now_holding held k mode) j)) (now-here held k mode inv.sound.held_once)
        ∙ (ap (go_together mode) (now-away held k mode j (λ f. ne (e ∙ sym f))) ∙ goes-with j (λ f. ne (e ∙ sym f))))
    | inr away ↦ ap (λ (m : Mode). go_together m (mode_at (now_holding held k mode) j)) (now-away held k mode i away) ∙ elim (cases_eq j k) [
      | inl e ↦ subst (λ (a : ℕ). go_together (mode_at held i) (mode_at (now_holding held k mode) a) ≡ true) (sym e)
          (ap (go_together (mode_at held i)) (now-here held k mode inv.sound.held_once) ∙ together-turned mode (mode_at held i) (goes-with i away))
      | inr also ↦ ap (go_together (mode_at held i)) (now-away held k mode j also) ∙ together-at held inv.together i j ne
    ]
  ])

-- ---- the waiters take their turns

-- who is granted waited for that, and waits no more; all others wait as before
split-node : {passed : List Claim} (ws granted staying : List Claim) → IsSplit passed ws granted staying → OneEach ws → (k : ℕ)
    → (mode_of_node granted k ≡ None → mode_of_node staying k ≡ mode_of_node ws k)
    × ((mode : Mode) → mode_of_node granted k ≡ Some mode → (mode_of_node ws k ≡ Some mode) × (mode_of_node staying k ≡ None))
split-node _ _ _ (Nobody passed) one k = ((λ e. refl), (λ mode e. absurd (let f : None ≡ Some mode = e in cc)))
split-node _ _ _ (IsGranted passed w ws granted staying goes r) one k = by (eqb_tells w.node k) (split-node ws granted staying r one.1 k)
  where
    by : (((w.node == k) ≡ true) × (w.node ≡ k)) ⊎ (((w.node == k) ≡ false) × (w.node ≢ k))
        → (mode_of_node granted k ≡ None → mode_of_node staying k ≡ mode_of_node ws k)
        × ((mode : Mode) → mode_of_node granted k ≡ Some mode → (mode_of_node ws k ≡ Some mode) × (mode_of_node staying k ≡ None))
        → (mode_of_node (w ∷ granted) k ≡ None → mode_of_node staying k ≡ mode_of_node (w ∷ ws) k)
        × ((mode : Mode) → mode_of_node (w ∷ granted) k ≡ Some mode → (mode_of_node (w ∷ ws) k ≡ Some mode) × (mode_of_node staying k ≡ None))
    by (inl is) old = (
      (λ e. absurd (let f : Some w.mode ≡ None = rw is.0 at e in cc)),
      (λ mode e. (
        rw is.0 (rw is.0 at e),
        absent-mode staying k (absent-along staying w.node k is.1 (split-all (λ d. is_of w.node d ≡ false) ws granted staying r one.0).1),
      )),
    )
    by (inr ne) old = rw ne.0 old
split-node _ _ _ (Stays passed w ws granted staying r) one k = by (eqb_tells w.node k) (split-node ws granted staying r one.1 k)
  where
    by : (((w.node == k) ≡ true) × (w.node ≡ k)) ⊎ (((w.node == k) ≡ false) × (w.node ≢ k))
        → (mode_of_node granted k ≡ None → mode_of_node staying k ≡ mode_of_node ws k)
        × ((mode : Mode) → mode_of_node granted k ≡ Some mode → (mode_of_node ws k ≡ Some mode) × (mode_of_node staying k ≡ None))
        → (mode_of_node granted k ≡ None → mode_of_node (w ∷ staying) k ≡ mode_of_node (w ∷ ws) k)
        × ((mode : Mode) → mode_of_node granted k ≡ Some mode → (mode_of_node (w ∷ ws) k ≡ Some mode) × (mode_of_node (w ∷ staying) k ≡ None))
    by (inl is) old = (
      (λ e. rw is.0 refl),
      (λ mode e. absurd (let f : None ≡ Some mode =
          sym (absent-mode granted k (absent-along granted w.node k is.1 (split-all (λ d. is_of w.node d ≡ false) ws granted staying r one.0).0)) ∙ e in cc)),
    )
    by (inr ne) old = rw ne.0 old

-- what is held is what was granted
given-node : (held granted : List Claim) (k : ℕ) (mode : Mode) → AllByRecursion (λ w. mode_at held w.node ≡ w.mode) granted → mode_of_node granted k ≡ Some mode → mode_at held k ≡ mode
given-node held [] k mode all e = absurd (let f : None ≡ Some mode = e in cc)
given-node held (w ∷ ws) k mode all e = by (eqb_tells w.node k) (given-node held ws k mode all.1)
  where
    by : (((w.node == k) ≡ true) × (w.node ≡ k)) ⊎ (((w.node == k) ≡ false) × (w.node ≢ k)) → (mode_of_node ws k ≡ Some mode → mode_at held k ≡ mode) → mode_at held k ≡ mode
    by (inl is) rest = let f : Some w.mode ≡ Some mode = rw is.0 at e in ap (mode_at held) (sym is.1) ∙ (all.0 ∙ inside f)
      where
        inside : {a b : Mode} → Some a ≡ Some b → a ≡ b
        inside f = cc
    by (inr ne) rest = rest (rw ne.0 at e)

-- the letters to all who are granted
module _ (lock : LockName) (p : LockParts) (j : ℕ) where
  letters-mute-all : (ws : List Claim) (post : Post) → filter_map (in_view p.table.generation (tell_of lock)) (way (fold (claim_letter p lock) post ws) j p.master)
      ≡ filter_map (in_view p.table.generation (tell_of lock)) (way post j p.master)
  letters-mute-all [] post = refl
  letters-mute-all (w ∷ ws) post = letters-mute-all ws (claim_letter p lock post w) ∙ grant-mute lock p post w j

  letters-say-all : (ws : List Claim) (post : Post) → OneEach ws → filter_map (in_view p.table.generation (grants lock)) (way (fold (claim_letter p lock) post ws) p.master j)
      ≡ filter_map (in_view p.table.generation (grants lock)) (way post p.master j) ++ option_to_list (mode_of_node ws j)
  letters-say-all [] post one = sym (append-nil _)
  letters-say-all (w ∷ ws) post one = letters-say-all ws (claim_letter p lock post w) one.1 ∙ by (eqb_tells w.node j)
    where
      by : (((w.node == j) ≡ true) × (w.node ≡ j)) ⊎ (((w.node == j) ≡ false) × (w.node ≢ j))
          → filter_map (in_view p.table.generation (grants lock)) (way (claim_letter p lock post w) p.master j) ++ option_to_list (mode_of_node ws j)
          ≡ filter_map (in_view p.table.generation (grants lock)) (way post p.master j) ++ option_to_list (mode_of_node (w ∷ ws) j)
      by (inl is) =
          ap (λ (o : Option Mode). filter_map (in_view p.table.generation (grants lock)) (way (claim_letter p lock post w) p.master j) ++ option_to_list o)
          (absent-mode ws j (absent-along ws w.node j is.1 one.0))
          ∙ (append-nil _
          ∙ (subst (λ (i : ℕ). filter_map (in_view p.table.generation (grants lock)) (way (claim_letter p lock post w) p.master i)
          ≡ filter_map (in_view p.table.generation (grants lock)) (way post p.master i) ++ w.mode ∷ []) is.1 (grant-says lock p post w)
          ∙ rw is.0 refl))
      by (inr ne) = ap (λ (ms : List Mode). ms ++ option_to_list (mode_of_node ws j)) (grant-away lock p post w j (λ e. ne.1 (sym e))) ∙ rw ne.0 refl

module _ {lossy : Type 0} (lock : LockName) (p : LockParts) (inv : Inv lossy lock p) (calm : p.rebuilding ≡ true → ⊥) where
  abbrev now : LockState
  now = lock_in_table lock p

  abbrev given : List Claim
  given = (all_turns now).granted

  lost : LosesNobody now
  lost = no-waiter-is-lost now

  split : IsSplit [] (now.conversions ++ now.requests) given ((after_grants now).conversions ++ (after_grants now).requests)
  split = subst (λ (g : List Claim). IsSplit [] (now.conversions ++ now.requests) g ((after_grants now).conversions ++ (after_grants now).requests)) (sym lost.granted)
      (split-on now.conversions now.requests lost.converted lost.requested (after_grants now).conversions (after_grants now).requests lost.conversions lost.requests)

  turned : (j : ℕ) → j ≤ 8 → StageOf lossy p (seen lock p (after_grants now) (fold (claim_letter p lock) p.post given) j)
  turned j x = by (mode_of_node given j) refl
    where
      tells : (mode_of_node given j ≡ None → mode_of_node ((after_grants now).conversions ++ (after_grants now).requests) j ≡ mode_of_node (now.conversions ++ now.requests) j)
          × ((mode : Mode) → mode_of_node given j ≡ Some mode
          → (mode_of_node (now.conversions ++ now.requests) j ≡ Some mode) × (mode_of_node ((after_grants now).conversions ++ (after_grants now).requests) j ≡ None))
      tells = split-node (now.conversions ++ now.requests) given ((after_grants now).conversions ++ (after_grants now).requests) split inv.sound.waits_once j

      one : OneEach given
      one = (split-one (now.conversions ++ now.requests) given ((after_grants now).conversions ++ (after_grants now).requests) split inv.sound.waits_once).0

      by : (o : Option Mode) → mode_of_node given j ≡ o → StageOf lossy p (seen lock p (after_grants now) (fold (claim_letter p lock) p.post given) j)
      by None e = sees (sight lock p j) (seen lock p (after_grants now) (fold (claim_letter p lock) p.post given) j) (refl, refl, refl) refl refl
          (sym (ap (λ (o : Option Mode). unwrap_or o Nl) (lost.others j (none-of given j e))))
          (sym (tells.0 e)) (sym (letters-mute-all lock p j given p.post))
          (sym (letters-say-all lock p j given p.post one ∙ (ap (λ (o : Option Mode). grants_coming lock p j ++ option_to_list o) e ∙ append-nil _)))
          (inv.stages j x)
      by (Some mode) e = sees _ (seen lock p (after_grants now) (fold (claim_letter p lock) p.post given) j) (refl, refl, refl) refl refl
          (sym (given-node (after_grants now).held given j mode (lost.given inv.sound) e))
          (sym (tells.1 mode e).1) (sym (letters-mute-all lock p j given p.post))
          (sym (letters-say-all lock p j given p.post one ∙ ap (λ (o : Option Mode). grants_coming lock p j ++ option_to_list o) e))
          (stages.is-granted (sight lock p j) mode (inv.stages j x) (tells.1 mode e).0)

  grants-next : Inv lossy lock (record p { table = after_turns p.table lock; post = fold (claim_letter p lock) p.post given })
  grants-next = by (at_lock p.table.table lock) refl
    where
      good : IsSound (after_grants now) × Together (after_grants now).held
      good = (sound-grants now inv.sound, grants-keep now inv.together)

      by : (o : Option LockState) → at_lock p.table.table lock ≡ o
          → Inv lossy lock (record p { table = cond (is_none (at_lock p.table.table lock)) p.table (with_state p.table lock (after_grants now)); post = fold (claim_letter p lock) p.post given })
      by (Some t) e = subst (λ (b : Bool). Inv lossy lock (record p { table = cond b p.table (with_state p.table lock (after_grants now)); post = fold (claim_letter p lock) p.post given }))
          (sym (ap is_none e)) (wrote lock p (after_grants now) (fold (claim_letter p lock) p.post given) inv good (λ r. absurd (calm r)) (λ j x. (turned j x, λ r. absurd (calm r))))
      by None e =
          let free : now ≡ free_lock = lock-free p.table.table lock e in
          let same : after_grants now ≡ now = ap after_grants free ∙ sym free in
          subst (λ (b : Bool). Inv lossy lock (record p { table = cond b p.table (with_state p.table lock (after_grants now)); post = fold (claim_letter p lock) p.post given }))
          (sym (ap is_none e)) (record {
            master = inv.master;
            sound = inv.sound;
            together = inv.together;
            under = λ r. absurd (calm r);
            stages = λ j x. subst (λ (u : LockState). StageOf lossy p (seen lock p u (fold (claim_letter p lock) p.post given) j)) same (turned j x);
          })

-- ---- the calls

not-none : {A : Type 0} {o : Option Cause} → ((cause : Cause) × (o ≡ Some cause)) → o ≡ None → A
not-none some none = absurd (let f : Some some.0 ≡ None = sym some.1 ∙ none in cc)

-- a node that is no node of the cluster is another
far-from : (j k : ℕ) → k ≤ 8 → 8 < j → j ≡ k → ⊥
far-from j k x y e = absurd (let f : k < j = omega (arith, x, y) in omega (arith, f, e))

pub master-keeps : {lossy : Type 0} (lock : LockName) (p q : LockParts) → MasterCall lock p q → Inv lossy lock p → Inv lossy lock q
master-keeps {lossy} lock p _ (calls.Requested k mode rest x hand) inv = by (request_waits p.table k lock mode) refl (kept lock p (runs.Requests k mode) inv f.may)
  where
    f : Finds lock p k mode (Request lock mode) (Requests mode) (runs.Requests k mode) rest hand (cond-true _ _ _ (same-self lock)) refl
    f = finds-request lock p k mode rest inv x hand

    by : (c : Option Cause) → request_waits p.table k lock mode ≡ c → IsSound (requested c (lock_in_table lock p) k mode) × Together (requested c (lock_in_table lock p) k mode).held
        → Inv lossy lock (record p { table = with_state p.table lock (requested c (lock_in_table lock p) k mode); post = reply p lock k mode (answer_by c (lock_in_table lock p)) (with_left p.post k p.master rest) })
    by None e good = granted-now lock p k mode (Request lock mode) (Requests mode) rest inv x hand (cond-true _ _ _ (same-self lock)) refl f.heard
        (λ r. not-none (blocked-cause p.table.rebuild p.table.waiting (lock_in_table lock p).held (lock_in_table lock p).conversions (lock_in_table lock p).requests k mode (inl (inv.under r).rebuild)) e) good
    by (Some cause) e good =
        let joined = append_assoc (lock_in_table lock p).conversions (lock_in_table lock p).requests (claim k mode ∷ []) in
        waits-now lock p k mode (Request lock mode) (Requests mode) rest inv x hand (cond-true _ _ _ (same-self lock)) refl f.heard (lock_in_table lock p).conversions ((lock_in_table lock p).requests ++ claim k mode ∷ []) good
        (subst (λ (cs : List Claim). mode_of_node cs k ≡ Some mode) joined (among-here ((lock_in_table lock p).conversions ++ (lock_in_table lock p).requests) [] (claim k mode) (subst OneEach (sym joined) good.0.waits_once)))
        (λ j ne. subst (λ (cs : List Claim). mode_of_node cs j ≡ mode_of_node ((lock_in_table lock p).conversions ++ (lock_in_table lock p).requests) j) joined
        (among-away ((lock_in_table lock p).conversions ++ (lock_in_table lock p).requests) [] (claim k mode) j ne ∙ ap (λ (cs : List Claim). mode_of_node cs j) (append-nil ((lock_in_table lock p).conversions ++ (lock_in_table lock p).requests))))
master-keeps {lossy} lock p _ (calls.Converted k mode rest x hand) inv = by (convert_waits p.table k lock mode) refl (kept lock p (runs.Converts k mode) inv f.may)
  where
    f : Finds lock p k mode (Convert lock mode) (Converts mode) (runs.Converts k mode) rest hand (cond-true _ _ _ (same-self lock)) refl
    f = finds-conversion lock p k mode rest inv x hand

    by : (c : Option Cause) → convert_waits p.table k lock mode ≡ c → IsSound (converted c (lock_in_table lock p) k mode) × Together (converted c (lock_in_table lock p) k mode).held
        → Inv lossy lock (record p { table = with_state p.table lock (converted c (lock_in_table lock p) k mode); post = reply p lock k mode (answer_by c (lock_in_table lock p)) (with_left p.post k p.master rest) })
    by None e good = granted-now lock p k mode (Convert lock mode) (Converts mode) rest inv x hand (cond-true _ _ _ (same-self lock)) refl f.heard
        (λ r. not-none (blocked-cause p.table.rebuild p.table.waiting (lock_in_table lock p).held (lock_in_table lock p).conversions [] k mode (inl (inv.under r).rebuild)) e) good
    by (Some cause) e good =
        let joined = append_assoc (lock_in_table lock p).conversions (claim k mode ∷ []) (lock_in_table lock p).requests in
        waits-now lock p k mode (Convert lock mode) (Converts mode) rest inv x hand (cond-true _ _ _ (same-self lock)) refl f.heard ((lock_in_table lock p).conversions ++ claim k mode ∷ []) (lock_in_table lock p).requests good
        (subst (λ (cs : List Claim). mode_of_node cs k ≡ Some mode) (sym joined) (among-here (lock_in_table lock p).conversions (lock_in_table lock p).requests (claim k mode) (subst OneEach joined good.0.waits_once)))
        (λ j ne. subst (λ (cs : List Claim). mode_of_node cs j ≡ mode_of_node ((lock_in_table lock p).conversions ++ (lock_in_table lock p).requests) j) (sym joined) (among-away (lock_in_table lock p).conversions (lock_in_table lock p).requests (claim k mode) j ne))
master-keeps {lossy} lock p _ (calls.Lowered k mode value rest x hand above) inv =
    let l : LockState = lock_in_table lock p in
    let f = finds-lower lock p k mode value rest inv x hand in
    let u : LockState = lowered l k mode (kept_value p value) in
    let post : Post = with_left p.post k p.master rest in
    wrote lock p u post inv (kept lock p (runs.Lowers k mode (kept_value p value)) inv (above, f.idle))
    (λ r j y. now-away l.held k mode j (far-from j k x y) ∙ (inv.under r).far j y) (λ j y. elim (cases_eq j k) [
      | inl e ↦ subst (λ (i : ℕ). Kept lossy p (sight lock p i) (seen lock p u post i)) (sym e)
          (kept-as p (sight lock p k) _ (seen lock p u post k) (refl, refl, refl) refl refl (sym (now-here l.held k mode inv.sound.held_once)) refl refl
          (sym (grants-same lock p k (Down lock mode value) (Lowers mode value) rest hand (cond-true _ _ _ (same-self lock)) refl k)) (f.stage, λ r. f.less))
      | inr ne ↦ as-before p (sight lock p j) (seen lock p u post j) (refl, refl, refl) refl refl (sym (now-away l.held k mode j ne)) refl
          (sym (calls-same lock p k (Down lock mode value) (Lowers mode value) rest hand (cond-true _ _ _ (same-self lock)) refl j ne))
          (sym (grants-same lock p k (Down lock mode value) (Lowers mode value) rest hand (cond-true _ _ _ (same-self lock)) refl j)) (inv.stages j y)
    ])
master-keeps {lossy} lock p _ (calls.LoweredAlready k mode value rest x hand already) inv =
    let f = finds-lower lock p k mode value rest inv x hand in
    let q : LockParts = record p { post = with_left p.post k p.master rest } in
    unchanged lock p p.holders p.taken p.ended (with_left p.post k p.master rest) inv (λ j y. elim (cases_eq j k) [
      | inl e ↦ subst (λ (i : ℕ). Kept lossy p (sight lock p i) (sight lock q i)) (sym e)
          (kept-as p (sight lock p k) _ (sight lock q k) (refl, refl, refl) refl refl (sym already) refl refl
          (sym (grants-same lock p k (Down lock mode value) (Lowers mode value) rest hand (cond-true _ _ _ (same-self lock)) refl k)) (f.stage, λ r. f.less))
      | inr ne ↦ as-before p (sight lock p j) (sight lock q j) (refl, refl, refl) refl refl refl refl
          (sym (calls-same lock p k (Down lock mode value) (Lowers mode value) rest hand (cond-true _ _ _ (same-self lock)) refl j ne))
          (sym (grants-same lock p k (Down lock mode value) (Lowers mode value) rest hand (cond-true _ _ _ (same-self lock)) refl j)) (inv.stages j y)
    ])
master-keeps {lossy} lock p _ (calls.Reported k mode value rest x hand r) inv =
    let l : LockState = lock_in_table lock p in
    let f = finds-report lock p k mode value rest inv x hand in
    let u : LockState = reported l k mode in
    let post : Post = with_left p.post k p.master rest in
    wrote lock p u post inv (sound-now l k mode l.value (waits-not l k f.waits) inv.sound, reported-together lock p k mode inv x r f.before)
    (λ r j y. now-away l.held k mode j (far-from j k x y) ∙ (inv.under r).far j y) (λ j y. elim (cases_eq j k) [
      | inl e ↦ subst (λ (i : ℕ). Kept lossy p (sight lock p i) (seen lock p u post i)) (sym e)
          (kept-as p (sight lock p k) _ (seen lock p u post k) (refl, refl, refl) refl refl (sym (now-here l.held k mode inv.sound.held_once)) refl refl
          (sym (grants-same lock p k (Report lock mode value) (Reports mode) rest hand (cond-true _ _ _ (same-self lock)) refl k)) (f.stage, λ s. ap (is_at_least (stands (sight lock p k))) (f.after ∙ sym f.before) ∙ covers-itself (stands (sight lock p k))))
      | inr ne ↦ as-before p (sight lock p j) (seen lock p u post j) (refl, refl, refl) refl refl (sym (now-away l.held k mode j ne)) refl
          (sym (calls-same lock p k (Report lock mode value) (Reports mode) rest hand (cond-true _ _ _ (same-self lock)) refl j ne))
          (sym (grants-same lock p k (Report lock mode value) (Reports mode) rest hand (cond-true _ _ _ (same-self lock)) refl j)) (inv.stages j y)
    ])
master-keeps {lossy} lock p _ (calls.Ended k rest x hand r) inv =
    let q : LockParts = record p { ended = with_node p.ended k; post = with_left p.post k p.master rest } in
    let f = stages.hears-end (sight lock p k) _ (inv.stages k x) (call-first lock p k End Ends rest hand refl refl) in
    unchanged lock p p.holders p.taken (with_node p.ended k) (with_left p.post k p.master rest) inv (λ j y. elim (cases_eq j k) [
      | inl e ↦ subst (λ (i : ℕ). Kept lossy p (sight lock p i) (sight lock q i)) (sym e)
          (kept-as p (sight lock p k) _ (sight lock q k) (refl, refl, sym (with-node-here p.ended k)) refl refl refl refl refl
          (sym (grants-same lock p k End Ends rest hand refl refl k)) (f.0, λ s. ap (is_at_least (stands (sight lock p k))) f.1 ∙ covers-itself (stands (sight lock p k))))
      | inr ne ↦ as-before p (sight lock p j) (sight lock q j) (refl, refl, sym (with-node-away p.ended k j ne)) refl refl refl refl
          (sym (calls-same lock p k End Ends rest hand refl refl j ne)) (sym (grants-same lock p k End Ends rest hand refl refl j)) (inv.stages j y)
    ])
master-keeps {lossy} lock p _ (calls.Completes r done) inv = record {
  master = inv.master;
  sound = inv.sound;
  together = inv.together;
  stages = λ k x. stages.closes (sight lock p k) (inv.stages k x) (all-ended p.members p.ended done k x) (false ≡ true);
  under = λ never. true-false never refl;
}
master-keeps {lossy} lock p _ calls.GrantsNext inv = by (is_blocked p.table) refl
  where
    by : (b : Bool) → is_blocked p.table ≡ b → Inv lossy lock (record p {
      table = cond b p.table (after_turns p.table lock);
      post = fold (grant_letter p lock) p.post (cond b [] (grants_of (lock_in_table lock p)));
    })
    by true e = inv
    by false e = subst (λ (post : Post). Inv lossy lock (record p { table = after_turns p.table lock; post = post }))
        (sym (granted-letters lock p (all_turns (lock_in_table lock p)).granted p.post)) (grants-next lock p inv (λ r. true-false (ap (λ (b : Bool). b || not (p.table.waiting == 0)) (inv.under r).rebuild) e))
master-keeps {lossy} lock p _ (calls.Blocks rebuild waiting stays) inv = record {
  master = inv.master;
  sound = inv.sound;
  together = inv.together;
  stages = inv.stages;
  under = λ r. record { rebuild = stays r; far = (inv.under r).far; apart = (inv.under r).apart };
}
master-keeps {lossy} lock p _ (calls.TableElsewhere other t ne) inv =
    let same : lock_of (with_state p.table other t) lock ≡ lock_in_table lock p = ap (λ (o : Option LockState). unwrap_or o free_lock) (at_lock-with_other p.table.table other lock t ne) in
    record {
      master = inv.master;
      sound = subst IsSound (sym same) inv.sound;
      together = subst (λ (u : LockState). Together u.held) (sym same) inv.together;
      stages = λ j x. subst (λ (u : LockState). StageOf lossy p (seen lock p u p.post j)) (sym same) (inv.stages j x);
      under = λ r. record {
        rebuild = (inv.under r).rebuild;
        far = λ j y. subst (λ (u : LockState). mode_at u.held j ≡ Nl) (sym same) ((inv.under r).far j y);
        apart = λ i k x y ne. subst (λ (u : LockState). go_together (stands (seen lock p u p.post i)) (stands (seen lock p u p.post k)) ≡ true) (sym same) ((inv.under r).apart i k x y ne);
      };
    }
