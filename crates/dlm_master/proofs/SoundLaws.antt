-- What calls leave of a lock.
use Rattle.std.proofs.Common.{ℕ, ◌≡◌, ◌||◌, Bool, true, false, List, [], ◌∷◌, ◌++◌, Option, None, Some, cond, refl, sym, ap, ◌∙◌, subst, append_assoc, append-nil}
use Rattle.std.specs.Prelude.{◌==◌, not, fold, is_some}
use Rattle.std.specs.List.{AllByRecursion}
use Rattle.dlm_modes.specs.declared.Mode.{Mode}
use Rattle.dlm_modes.specs.declared.Mode.TheVariants.{Nl}
use Rattle.dlm_modes.specs.declared.ValueBlock.{ValueBlock}
use Rattle.dlm_master.specs.declared.claims.Claim.{Claim}
use Rattle.dlm_master.specs.declared.claims.Cause.{Cause}
use Rattle.dlm_master.specs.Claims.{is_of, is_null, mode_of_node, mode_at, with_claim, without_claim, now_holding, Absent, OneEach, NeverNull}
use Rattle.dlm_master.specs.LockState.{LockState}
use Rattle.dlm_master.specs.Locks.{claim, value_after, is_waiting, request_cause, convert_cause, requested, converted, conversion_turns, all_turns, after_grants}
use Rattle.dlm_master.specs.Tables.{holds_covered}
use Rattle.dlm_master.specs.Runs.{Call, Requests, Converts, Lowers, Grants, Blocks, Run, after, MayCall, after_all, MayCallAll}
use Rattle.dlm_master.specs.Laws.{IsSound, SoundLocksStaySound}
use Rattle.dlm_master.proofs.ClaimLaws.{one-now, mode-away, all-with, all-without, all-left, all-right, all-join, all-both, of-not, none-of, one-put}
use Rattle.dlm_master.proofs.TurnLaws.{split-on, split-all, split-one, split-apart, held-away, held-once, fold-on, all-turned}

no-way : {A : Type 0} → false ≡ true → A
no-way e = absurd (let f : false ≡ true = e in cc)

-- ---- nobody holds the lock in Nl

pub null-now : (cs : List Claim) (node : ℕ) (mode : Mode) → NeverNull cs → NeverNull (now_holding cs node mode)
null-now cs node mode all = by (is_null mode) refl
  where
    by : (b : Bool) → is_null mode ≡ b → NeverNull (cond b (without_claim cs node) (with_claim cs (claim node mode)))
    by true e = all-without (λ c. is_null c.mode ≡ false) cs node all
    by false e = all-with (λ c. is_null c.mode ≡ false) cs (claim node mode) all e

null-held : (held given : List Claim) → NeverNull held → NeverNull (fold (λ cs w. now_holding cs w.node w.mode) held given)
null-held held [] all = all
null-held held (v ∷ given) all = null-held (now_holding held v.node v.mode) given (null-now held v.node v.mode all)

pub null-none : (cs : List Claim) (node : ℕ) → NeverNull cs → mode_at cs node ≡ Nl → mode_of_node cs node ≡ None
null-none [] node all e = refl
null-none (x ∷ xs) node all e = by (is_of node x) refl (null-none xs node all.1)
  where
    by : (b : Bool) → is_of node x ≡ b → (mode_at xs node ≡ Nl → mode_of_node xs node ≡ None) → mode_of_node (x ∷ xs) node ≡ None
    by true h rest = no-way (sym all.0 ∙ ap is_null (let here : x.mode ≡ Nl = rw h at e in here))
    by false h rest = rw h (rest (rw h at e))

-- ---- a node that waits for nothing

or-none : (a b : Bool) → (a || b) ≡ false → (a ≡ false) × (b ≡ false)
or-none true b e = no-way (sym e)
or-none false b e = (refl, e)

not-some : (o : Option Mode) → is_some o ≡ false → o ≡ None
not-some None e = refl
not-some (Some m) e = no-way (sym e)

idle : (l : LockState) (node : ℕ) → is_waiting l node ≡ false → Absent node l.conversions × Absent node l.requests
idle l node e =
    let two = or-none (is_some (mode_of_node l.conversions node)) (is_some (mode_of_node l.requests node)) e in
    (none-of l.conversions node (not-some _ two.0), none-of l.requests node (not-some _ two.1))

-- what others hold doesn't change
raises-now : (held : List Claim) (node : ℕ) (mode : Mode) (ws : List Claim) → Absent node ws → AllByRecursion (λ w. holds_covered (mode_of_node held w.node) w.mode ≡ true) ws
    → AllByRecursion (λ w. holds_covered (mode_of_node (now_holding held node mode) w.node) w.mode ≡ true) ws
raises-now held node mode ws =
    all-both (λ d. is_of node d ≡ false) (λ w. holds_covered (mode_of_node held w.node) w.mode ≡ true) (λ w. holds_covered (mode_of_node (now_holding held node mode) w.node) w.mode ≡ true)
    (λ w away e. ap (λ (o : Option Mode). holds_covered o w.mode) (mode-away held node mode w.node (of-not w.node node away)) ∙ e) ws

none-now : (held : List Claim) (node : ℕ) (mode : Mode) (ws : List Claim) → Absent node ws → AllByRecursion (λ w. mode_of_node held w.node ≡ None) ws
    → AllByRecursion (λ w. mode_of_node (now_holding held node mode) w.node ≡ None) ws
none-now held node mode ws =
    all-both (λ d. is_of node d ≡ false) (λ w. mode_of_node held w.node ≡ None) (λ w. mode_of_node (now_holding held node mode) w.node ≡ None)
    (λ w away e. mode-away held node mode w.node (of-not w.node node away) ∙ e) ws

-- a node that waits for nothing holds another mode
pub sound-now : (l : LockState) (node : ℕ) (mode : Mode) (value : ValueBlock) → is_waiting l node ≡ false → IsSound l
    → IsSound (record { held = now_holding l.held node mode; conversions = l.conversions; requests = l.requests; value = value })
sound-now l node mode value waits s =
    let away = idle l node waits in record {
      held_once = one-now l.held node mode s.held_once;
      never_null = null-now l.held node mode s.never_null;
      waits_once = s.waits_once;
      raises = raises-now l.held node mode l.conversions away.0 s.raises;
      holds_none = none-now l.held node mode l.requests away.1 s.holds_none;
    }

pub sound-requested : (cause : Option Cause) (l : LockState) (node : ℕ) (mode : Mode) → mode_of_node l.held node ≡ None → is_waiting l node ≡ false → IsSound l → IsSound (requested cause l node mode)
sound-requested None l node mode none waits s = sound-now l node mode l.value waits s
sound-requested (Some c) l node mode none waits s =
    let away = idle l node waits in record {
      held_once = s.held_once;
      never_null = s.never_null;
      waits_once =
          subst OneEach (append_assoc l.conversions l.requests (claim node mode ∷ []))
          (one-put (l.conversions ++ l.requests) [] (claim node mode) (subst OneEach (sym (append-nil (l.conversions ++ l.requests))) s.waits_once)
          (all-join (λ d. is_of node d ≡ false) l.conversions l.requests away.0 away.1) tt);
      raises = s.raises;
      holds_none = all-join (λ w. mode_of_node l.held w.node ≡ None) l.requests (claim node mode ∷ []) s.holds_none (none, tt);
    }

pub sound-converted : (cause : Option Cause) (l : LockState) (node : ℕ) (mode : Mode) → holds_covered (mode_of_node l.held node) mode ≡ true → is_waiting l node ≡ false → IsSound l → IsSound (converted cause l node mode)
sound-converted None l node mode covers waits s = sound-now l node mode l.value waits s
sound-converted (Some c) l node mode covers waits s =
    let away = idle l node waits in record {
      held_once = s.held_once;
      never_null = s.never_null;
      waits_once =
          subst OneEach (sym (append_assoc l.conversions (claim node mode ∷ []) l.requests))
          (one-put l.conversions l.requests (claim node mode) s.waits_once away.0 away.1);
      raises = all-join (λ w. holds_covered (mode_of_node l.held w.node) w.mode ≡ true) l.conversions (claim node mode ∷ []) s.raises (covers, tt);
      holds_none = s.holds_none;
    }

-- ---- the waiters' turns

still : (held given ws : List Claim) → AllByRecursion (λ w. Absent w.node given) ws → AllByRecursion (λ w. holds_covered (mode_of_node held w.node) w.mode ≡ true) ws
    → AllByRecursion (λ w. holds_covered (mode_of_node (fold (λ cs w. now_holding cs w.node w.mode) held given) w.node) w.mode ≡ true) ws
still held given ws =
    all-both (λ w. Absent w.node given) (λ w. holds_covered (mode_of_node held w.node) w.mode ≡ true) (λ w. holds_covered (mode_of_node (fold (λ cs w. now_holding cs w.node w.mode) held given) w.node) w.mode ≡ true)
    (λ w away e. ap (λ (o : Option Mode). holds_covered o w.mode) (held-away held given w.node away) ∙ e) ws

still-none : (held given ws : List Claim) → AllByRecursion (λ w. Absent w.node given) ws → AllByRecursion (λ w. mode_of_node held w.node ≡ None) ws
    → AllByRecursion (λ w. mode_of_node (fold (λ cs w. now_holding cs w.node w.mode) held given) w.node ≡ None) ws
still-none held given ws =
    all-both (λ w. Absent w.node given) (λ w. mode_of_node held w.node ≡ None) (λ w. mode_of_node (fold (λ cs w. now_holding cs w.node w.mode) held given) w.node ≡ None)
    (λ w away e. held-away held given w.node away ∙ e) ws

pub sound-grants : (l : LockState) → IsSound l → IsSound (after_grants l)
sound-grants l s =
    let t = all-turned l in
    let given = t.first ++ t.second in
    let left = (conversion_turns l).staying ++ (all_turns l).staying in
    let held : fold (λ cs w. now_holding cs w.node w.mode) l.held given ≡ (all_turns l).held =
    sym (t.held ∙ (ap (λ (h : List Claim). fold (λ cs w. now_holding cs w.node w.mode) h t.second) t.between ∙ sym (fold-on l.held t.first t.second))) in
    let split = split-on l.conversions l.requests t.first t.second (conversion_turns l).staying (all_turns l).staying t.conversions t.requests in
    let apart = split-apart (l.conversions ++ l.requests) given left split s.waits_once in
    record {
      held_once = subst OneEach held (held-once l.held given s.held_once);
      never_null = subst (λ (h : List Claim). AllByRecursion (λ c. is_null c.mode ≡ false) h) held (null-held l.held given s.never_null);
      waits_once = (split-one (l.conversions ++ l.requests) given left split s.waits_once).1;
      raises = subst (λ (h : List Claim). AllByRecursion (λ w. holds_covered (mode_of_node h w.node) w.mode ≡ true) (conversion_turns l).staying) held
          (still l.held given (conversion_turns l).staying
          (all-left (λ w. Absent w.node given) (conversion_turns l).staying (all_turns l).staying apart)
          (split-all (λ w. holds_covered (mode_of_node l.held w.node) w.mode ≡ true) l.conversions t.first (conversion_turns l).staying t.conversions s.raises).1);
      holds_none = subst (λ (h : List Claim). AllByRecursion (λ w. mode_of_node h w.node ≡ None) (all_turns l).staying) held
          (still-none l.held given (all_turns l).staying
          (all-right (λ w. Absent w.node given) (conversion_turns l).staying (all_turns l).staying apart)
          (split-all (λ w. mode_of_node l.held w.node ≡ None) l.requests t.second (all_turns l).staying t.requests s.holds_none).1);
    }

-- ---- calls

sound-after : (r : Run) (call : Call) → MayCall r call → IsSound r.lock → IsSound (after r call).lock
sound-after r (Requests node mode) may s = sound-requested (request_cause r.rebuild r.waiting r.lock node mode) r.lock node mode may.0 may.1 s
sound-after r (Converts node mode) may s = sound-converted (convert_cause r.rebuild r.waiting r.lock node mode) r.lock node mode may.0 may.1 s
sound-after r (Lowers node mode value) may s = sound-now r.lock node mode (value_after (mode_of_node r.lock.held node) value r.lock.value) may.1 s
sound-after r Grants may s = by (r.rebuild || not (r.waiting == 0))
  where
    by : (b : Bool) → IsSound (cond b r (let n : Run = record r { lock = after_grants r.lock } in n)).lock
    by true = s
    by false = sound-grants r.lock s
sound-after r (Blocks rebuild waiting) may s = s

sound-all : (calls : List Call) (r : Run) → MayCallAll r calls → IsSound r.lock → IsSound (after_all r calls).lock
sound-all [] r may s = s
sound-all (call ∷ calls) r may s = sound-all calls (after r call) may.1 (sound-after r call may.0 s)

pub sound-locks-stay-sound : SoundLocksStaySound
sound-locks-stay-sound = record {
  free = record { held_once = tt; never_null = tt; waits_once = tt; raises = tt; holds_none = tt };
  stays = λ r calls may s. sound-all calls r may s;
}
