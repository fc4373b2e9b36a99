-- The waiters of a lock take their turns.
use Rattle.std.proofs.Common.{ℕ, ◌≡◌, ◌≢◌, ◌||◌, Bool, true, false, List, [], ◌∷◌, ◌++◌, Option, None, Some, cond, refl, sym, ap, ◌∙◌, subst, inl, inr, ◌⊎◌, append_assoc, append-nil}
use Rattle.std.specs.Prelude.{◌==◌, ◌&&◌, ⊤, not, find, fold, option_map, unwrap_or, is_none, is_some}
use Rattle.std.specs.List.{AllByRecursion}
use Rattle.std.proofs.lemmas.Bool.Decides.{eqb_tells}
use Rattle.dlm_modes.specs.declared.Mode.{Mode}
use Rattle.dlm_modes.specs.declared.Mode.TheVariants.{Nl, Cr, Cw, Pr, Pw, Ex}
use Rattle.dlm_modes.specs.Modes.{go_together, is_at_least}
use Rattle.dlm_modes.proofs.ModeLaws.{together-turned, together-weaker}
use Rattle.dlm_master.specs.declared.claims.Claim.{Claim}
use Rattle.dlm_master.specs.declared.claims.Cause.{Cause}
use Rattle.dlm_master.specs.declared.claims.Cause.TheVariants.{Held, Behind}
use Rattle.dlm_master.specs.Claims.{is_of, is_null, mode_of_node, mode_at, with_claim, without_claim, now_holding, stands_in_way, in_way, Absent, OneEach}
use Rattle.dlm_master.specs.LockState.{LockState, TurnState}
use Rattle.dlm_master.specs.Locks.{claim, is_free, turn, conversion_turns, all_turns, after_grants}
use Rattle.dlm_master.specs.Tables.{holds_covered}
use Rattle.dlm_master.specs.Laws.{IsSo, IsSound, IsSplit, Nobody, IsGranted, Stays, EachWaits, NoWaiterIsLost}
use Rattle.dlm_master.proofs.ClaimLaws.{one-now, mode-away, mode-here, all-both, of-not, turned, all-join, one-left, one-right, one-apart}
use Rattle.dlm_master.proofs.RunLaws.{way-goes, none-is}
use Rattle.dlm_master.proofs.CauseLaws.{way-so}

no-way : {A : Type 0} → false ≡ true → A
no-way e = absurd (let f : false ≡ true = e in cc)

-- ---- splits

pub split-on : {passed : List Claim} (xs ys granted more staying behind : List Claim) → IsSplit passed xs granted staying → IsSplit (passed ++ staying) ys more behind
    → IsSplit passed (xs ++ ys) (granted ++ more) (staying ++ behind)
split-on _ ys _ more _ behind (Nobody passed) s = subst (λ (p : List Claim). IsSplit p ys more behind) (append-nil passed) s
split-on _ ys _ more _ behind (IsGranted passed x xs granted staying goes r) s =
    IsGranted passed x (xs ++ ys) (granted ++ more) (staying ++ behind) goes (split-on xs ys granted more staying behind r s)
split-on _ ys _ more _ behind (Stays passed x xs granted staying r) s =
    Stays passed x (xs ++ ys) (granted ++ more) (staying ++ behind)
    (split-on xs ys granted more staying behind r (subst (λ (p : List Claim). IsSplit p ys more behind) (sym (append_assoc passed (x ∷ []) staying)) s))

-- what holds of all who wait holds of those who are granted and of those who stay
pub split-all : (P : Claim → Type 0) {passed : List Claim} (ws granted staying : List Claim) → IsSplit passed ws granted staying → AllByRecursion P ws → AllByRecursion P granted × AllByRecursion P staying
split-all P _ _ _ (Nobody passed) all = (tt, tt)
split-all P _ _ _ (IsGranted passed w ws granted staying goes r) all = let rest = split-all P ws granted staying r all.1 in ((all.0, rest.0), rest.1)
split-all P _ _ _ (Stays passed w ws granted staying r) all = let rest = split-all P ws granted staying r all.1 in (rest.0, (all.0, rest.1))

pub split-one : {passed : List Claim} (ws granted staying : List Claim) → IsSplit passed ws granted staying → OneEach ws → OneEach granted × OneEach staying
split-one _ _ _ (Nobody passed) one = (tt, tt)
split-one _ _ _ (IsGranted passed w ws granted staying goes r) one =
    let rest = split-one ws granted staying r one.1 in
    (((split-all (λ d. is_of w.node d ≡ false) ws granted staying r one.0).0, rest.0), rest.1)
split-one _ _ _ (Stays passed w ws granted staying r) one =
    let rest = split-one ws granted staying r one.1 in
    (rest.0, ((split-all (λ d. is_of w.node d ≡ false) ws granted staying r one.0).1, rest.1))

-- who stays is another node than who is granted
pub split-apart : {passed : List Claim} (ws granted staying : List Claim) → IsSplit passed ws granted staying → OneEach ws → AllByRecursion (λ w. Absent w.node granted) staying
split-apart _ _ _ (Nobody passed) one = tt
split-apart _ _ _ (IsGranted passed w ws granted staying goes r) one =
    all-both (λ d. is_of w.node d ≡ false) (λ d. Absent d.node granted) (λ d. Absent d.node (w ∷ granted)) (λ d e rest. (turned d.node w.node e, rest)) staying
    (split-all (λ d. is_of w.node d ≡ false) ws granted staying r one.0).1 (split-apart ws granted staying r one.1)
split-apart _ _ _ (Stays passed w ws granted staying r) one = (
  (split-all (λ d. is_of w.node d ≡ false) ws granted staying r one.0).0,
  split-apart ws granted staying r one.1,
)

-- ---- turns

abbrev grant : TurnState → Claim → TurnState
grant t w = record { held = now_holding t.held w.node w.mode; staying = t.staying; granted = t.granted ++ w ∷ [] }

abbrev stay : TurnState → Claim → TurnState
stay t w = record { held = t.held; staying = t.staying ++ w ∷ []; granted = t.granted }

-- what holds of both outcomes of a turn holds of it
turn-either : (P : TurnState → Type 0) (before : List Claim) (t : TurnState) (w : Claim) → (is_free before t w ≡ true → P (grant t w)) → (is_free before t w ≡ false → P (stay t w)) → P (turn before t w)
turn-either P before t w granted stays = by (is_free before t w) refl
  where
    by : (b : Bool) → is_free before t w ≡ b → P (cond b (grant t w) (stay t w))
    by true e = granted e
    by false e = stays e

-- who is granted goes with those who stay before it
free-goes : (before : List Claim) (t : TurnState) (w : Claim) → is_free before t w ≡ true
    → AllByRecursion (λ v. w.node ≢ v.node → go_together w.mode v.mode ≡ true) (before ++ t.staying)
free-goes before t w e =
    let first = two _ _ e in
    let second = two _ _ first.0 in
    all-join (λ v. w.node ≢ v.node → go_together w.mode v.mode ≡ true) before t.staying
    (way-goes before w.node w.mode (none-is _ second.1)) (way-goes t.staying w.node w.mode (none-is _ first.1))
  where
    two : (a b : Bool) → (a && b) ≡ true → (a ≡ true) × (b ≡ true)
    two true b e = (refl, e)
    two false b e = no-way e

-- what the turns of these waiters do, before whom those stay
pub record Turned (before : List Claim) (t u : TurnState) (ws : List Claim) : Type 0 where
  pub given : List Claim
  pub left : List Claim
  pub grants : u.granted ≡ t.granted ++ given
  pub stays : u.staying ≡ t.staying ++ left
  pub holds : u.held ≡ fold (λ cs w. now_holding cs w.node w.mode) t.held given
  pub split : IsSplit (before ++ t.staying) ws given left

pub turns : (before : List Claim) (t : TurnState) (ws : List Claim) → Turned before t (fold (turn before) t ws) ws
turns before t [] = record { given = []; left = []; grants = sym (append-nil t.granted); stays = sym (append-nil t.staying); holds = refl; split = Nobody (before ++ t.staying) }
turns before t (w ∷ ws) =
    turn-either (λ u. Turned before t (fold (turn before) u ws) (w ∷ ws)) before t w
    (λ e. let r = turns before (grant t w) ws in record {
      given = w ∷ r.given;
      left = r.left;
      grants = r.grants ∙ append_assoc t.granted (w ∷ []) r.given;
      stays = r.stays;
      holds = r.holds;
      split = IsGranted (before ++ t.staying) w ws r.given r.left (free-goes before t w e) r.split;
    })
    (λ e. let r = turns before (stay t w) ws in record {
      given = r.given;
      left = w ∷ r.left;
      grants = r.grants;
      stays = r.stays ∙ append_assoc t.staying (w ∷ []) r.left;
      holds = r.holds;
      split = Stays (before ++ t.staying) w ws r.given r.left (subst (λ (p : List Claim). IsSplit p ws r.given r.left) (sym (append_assoc before t.staying (w ∷ []))) r.split);
    })

-- ---- who is in the way

null-is : (mode : Mode) → is_null mode ≡ true → mode ≡ Nl
null-is Nl e = refl
null-is Cr e = no-way e
null-is Cw e = no-way e
null-is Pr e = no-way e
null-is Pw e = no-way e
null-is Ex e = no-way e

null-least : (mode : Mode) → is_at_least Nl mode ≡ true → mode ≡ Nl
null-least Nl e = refl
null-least Cr e = no-way e
null-least Cw e = no-way e
null-least Pr e = no-way e
null-least Pw e = no-way e
null-least Ex e = no-way e

not-and : (a b : Bool) → (not a && not b) ≡ true → (a ≡ false) × (b ≡ false)
not-and false false e = (refl, refl)
not-and false true e = no-way e
not-and true b e = no-way e

way-cons : (x : Claim) (xs : List Claim) (n : ℕ) (m : Mode) → is_some (in_way (x ∷ xs) n m) ≡ (stands_in_way n m x || is_some (in_way xs n m))
way-cons x xs n m = by (stands_in_way n m x)
  where
    by : (b : Bool) → is_some (option_map (λ (c : Claim). c.node) (cond b (Some x) (find (stands_in_way n m) xs))) ≡ (b || is_some (in_way xs n m))
    by true = refl
    by false = refl

or-false : (a b : Bool) → a ≡ false → (a || b) ≡ b
or-false true b e = no-way (sym e)
or-false false b e = refl

or-true : (a b : Bool) → b ≡ true → (a || b) ≡ true
or-true true b e = refl
or-true false b e = e

way-more : (x : Claim) (xs : List Claim) (n : ℕ) (m : Mode) → is_some (in_way xs n m) ≡ true → is_some (in_way (x ∷ xs) n m) ≡ true
way-more x xs n m e = way-cons x xs n m ∙ or-true (stands_in_way n m x) (is_some (in_way xs n m)) e

way-both : (xs ys : List Claim) (n : ℕ) (m : Mode) → is_some (in_way (xs ++ ys) n m) ≡ (is_some (in_way xs n m) || is_some (in_way ys n m))
way-both [] ys n m = refl
way-both (x ∷ xs) ys n m =
    way-cons x (xs ++ ys) n m ∙ (ap (λ b. stands_in_way n m x || b) (way-both xs ys n m)
    ∙ (through (stands_in_way n m x) (is_some (in_way xs n m)) (is_some (in_way ys n m)) ∙ ap (λ b. b || is_some (in_way ys n m)) (sym (way-cons x xs n m))))
  where
    through : (a b c : Bool) → (a || (b || c)) ≡ ((a || b) || c)
    through true b c = refl
    through false b c = refl

-- a mode that covers one in the way is in the way too
stronger-stands : (n : ℕ) (m : Mode) (x c : Claim) → x.node ≡ c.node → is_at_least c.mode x.mode ≡ true → stands_in_way n m x ≡ true → stands_in_way n m c ≡ true
stronger-stands n m x c same covers e =
    let two = not-and (is_of n x) (go_together x.mode m) e in
    ap (λ b. not b && not (go_together c.mode m)) (ap (λ (k : ℕ). k == n) (sym same) ∙ two.0) ∙ ap not (apart two.1)
  where
    apart : go_together x.mode m ≡ false → go_together c.mode m ≡ false
    apart less = by (go_together c.mode m) refl
      where
        by : (b : Bool) → go_together c.mode m ≡ b → b ≡ false
        by true h = no-way (sym less ∙ together-turned m x.mode (together-weaker m c.mode x.mode (together-turned c.mode m h) covers))
        by false h = refl

-- who is in the way stays so when a node takes a mode that covers what it holds
way-with : (cs : List Claim) (c : Claim) (n : ℕ) (m : Mode) → is_at_least c.mode (mode_at cs c.node) ≡ true → is_some (in_way cs n m) ≡ true → is_some (in_way (with_claim cs c) n m) ≡ true
way-with [] c n m covers e = no-way e
way-with (x ∷ xs) c n m covers e = by (eqb_tells x.node c.node) (way-with xs c n m)
  where
    by : (((x.node == c.node) ≡ true) × (x.node ≡ c.node)) ⊎ (((x.node == c.node) ≡ false) × (x.node ≢ c.node))
        → (is_at_least c.mode (mode_at xs c.node) ≡ true → is_some (in_way xs n m) ≡ true → is_some (in_way (with_claim xs c) n m) ≡ true)
        → is_some (in_way (with_claim (x ∷ xs) c) n m) ≡ true
    by (inl same) rest = rw same.0 (first (stands_in_way n m x) refl)
      where
        first : (b : Bool) → stands_in_way n m x ≡ b → is_some (in_way (c ∷ xs) n m) ≡ true
        first true h =
            let raised : is_at_least c.mode x.mode ≡ true = rw same.0 at covers in
            way-cons c xs n m ∙ ap (λ b. b || is_some (in_way xs n m)) (stronger-stands n m x c same.1 raised h)
        first false h = way-more c xs n m (sym (or-false (stands_in_way n m x) (is_some (in_way xs n m)) h) ∙ (sym (way-cons x xs n m) ∙ e))
    by (inr apart) rest = rw apart.0 (later (stands_in_way n m x) refl)
      where
        later : (b : Bool) → stands_in_way n m x ≡ b → is_some (in_way (x ∷ with_claim xs c) n m) ≡ true
        later true h = way-cons x (with_claim xs c) n m ∙ ap (λ b. b || is_some (in_way (with_claim xs c) n m)) h
        later false h =
            let raised : is_at_least c.mode (mode_at xs c.node) ≡ true = rw apart.0 at covers in
            way-more x (with_claim xs c) n m (rest raised (sym (or-false (stands_in_way n m x) (is_some (in_way xs n m)) h) ∙ (sym (way-cons x xs n m) ∙ e)))

way-without : (cs : List Claim) (node n : ℕ) (m : Mode) → is_at_least Nl (mode_at cs node) ≡ true → is_some (in_way cs n m) ≡ true → is_some (in_way (without_claim cs node) n m) ≡ true
way-without [] node n m covers e = e
way-without (x ∷ xs) node n m covers e = by (is_of node x) refl (way-without xs node n m)
  where
    rest-is : stands_in_way n m x ≡ false → is_some (in_way xs n m) ≡ true
    rest-is h = sym (or-false (stands_in_way n m x) (is_some (in_way xs n m)) h) ∙ (sym (way-cons x xs n m) ∙ e)

    by : (b : Bool) → is_of node x ≡ b → (is_at_least Nl (mode_at xs node) ≡ true → is_some (in_way xs n m) ≡ true → is_some (in_way (without_claim xs node) n m) ≡ true)
        → is_some (in_way (without_claim (x ∷ xs) node) n m) ≡ true
    by true h rest =
        let null : x.mode ≡ Nl = null-least x.mode (rw h at covers) in
        rw h (rest-is (ap (λ (k : Mode). not (is_of n x) && not (go_together k m)) null ∙ never (is_of n x)))
      where
        never : (b : Bool) → (not b && false) ≡ false
        never true = refl
        never false = refl
    by false h rest = rw h (later (stands_in_way n m x) refl)
      where
        later : (b : Bool) → stands_in_way n m x ≡ b → is_some (in_way (x ∷ without_claim xs node) n m) ≡ true
        later true s = way-cons x (without_claim xs node) n m ∙ ap (λ b. b || is_some (in_way (without_claim xs node) n m)) s
        later false s = way-more x (without_claim xs node) n m (rest (rw h at covers) (rest-is s))

way-now : (cs : List Claim) (v : Claim) (n : ℕ) (m : Mode) → is_at_least v.mode (mode_at cs v.node) ≡ true → is_some (in_way cs n m) ≡ true
    → is_some (in_way (now_holding cs v.node v.mode) n m) ≡ true
way-now cs v n m covers e = by (is_null v.mode) refl
  where
    by : (b : Bool) → is_null v.mode ≡ b → is_some (in_way (cond b (without_claim cs v.node) (with_claim cs (claim v.node v.mode))) n m) ≡ true
    by true h = way-without cs v.node n m (ap (λ (k : Mode). is_at_least k (mode_at cs v.node)) (sym (null-is v.mode h)) ∙ covers) e
    by false h = way-with cs v n m covers e

-- ---- each waits for somebody

abbrev waits : List Claim → List Claim → Claim → Bool
waits held earlier w = is_some (in_way held w.node w.mode) || is_some (in_way earlier w.node w.mode)

abbrev AllWait : List Claim → List Claim → List Claim → Type 0
AllWait held earlier [] = ⊤
AllWait held earlier (w ∷ ws) = (waits held earlier w ≡ true) × AllWait held (earlier ++ w ∷ []) ws

-- each covers what its node holds
abbrev pub Rise : List Claim → List Claim → Type 0
Rise held ws = AllByRecursion (λ v. is_at_least v.mode (mode_at held v.node) ≡ true) ws

mode_at-away : (held : List Claim) (v w : Claim) → is_of v.node w ≡ false → mode_at (now_holding held v.node v.mode) w.node ≡ mode_at held w.node
mode_at-away held v w e = ap (λ (o : Option Mode). unwrap_or o Nl) (mode-away held v.node v.mode w.node (of-not w.node v.node e))

pub rise-now : (held : List Claim) (v : Claim) (ws : List Claim) → Absent v.node ws → Rise held ws → Rise (now_holding held v.node v.mode) ws
rise-now held v ws =
    all-both (λ d. is_of v.node d ≡ false) (λ d. is_at_least d.mode (mode_at held d.node) ≡ true) (λ d. is_at_least d.mode (mode_at (now_holding held v.node v.mode) d.node) ≡ true)
    (λ d away covers. ap (is_at_least d.mode) (mode_at-away held v d away) ∙ covers) ws

or-left : (a b c : Bool) → (a ≡ true → c ≡ true) → (a || b) ≡ true → (c || b) ≡ true
or-left true b c f e = ap (λ x. x || b) (f refl)
or-left false b true f e = refl
or-left false b false f e = e

all-wait-now : (held earlier : List Claim) (v : Claim) (ws : List Claim) → is_at_least v.mode (mode_at held v.node) ≡ true → AllWait held earlier ws → AllWait (now_holding held v.node v.mode) earlier ws
all-wait-now held earlier v [] covers all = tt
all-wait-now held earlier v (w ∷ ws) covers all = (
  or-left (is_some (in_way held w.node w.mode)) (is_some (in_way earlier w.node w.mode)) (is_some (in_way (now_holding held v.node v.mode) w.node w.mode)) (way-now held v w.node w.mode covers) all.0,
  all-wait-now held (earlier ++ w ∷ []) v ws covers all.1,
)

-- when these are granted, who waited still waits
pub all-wait-held : (held earlier given ws : List Claim) → OneEach given → Rise held given → AllWait held earlier ws → AllWait (fold (λ cs w. now_holding cs w.node w.mode) held given) earlier ws
all-wait-held held earlier [] ws one rise all = all
all-wait-held held earlier (v ∷ given) ws one rise all =
    all-wait-held (now_holding held v.node v.mode) earlier given ws one.1 (rise-now held v given one.0 rise.1) (all-wait-now held earlier v ws rise.0 all)

-- one more at the end
all-wait-more : (held earlier ws : List Claim) (w : Claim) → AllWait held earlier ws → waits held (earlier ++ ws) w ≡ true → AllWait held earlier (ws ++ w ∷ [])
all-wait-more held earlier [] w all here = (ap (λ (l : List Claim). waits held l w) (sym (append-nil earlier)) ∙ here, tt)
all-wait-more held earlier (x ∷ ws) w all here = (
  all.0,
  all-wait-more held (earlier ++ x ∷ []) ws w all.1 (ap (λ (l : List Claim). waits held l w) (append_assoc earlier (x ∷ []) ws) ∙ here),
)

pub all-wait-join : (held earlier xs ys : List Claim) → AllWait held earlier xs → AllWait held (earlier ++ xs) ys → AllWait held earlier (xs ++ ys)
all-wait-join held earlier [] ys all more = subst (λ (l : List Claim). AllWait held l ys) (append-nil earlier) more
all-wait-join held earlier (x ∷ xs) ys all more = (
  all.0,
  all-wait-join held (earlier ++ x ∷ []) xs ys all.1 (subst (λ (l : List Claim). AllWait held l ys) (sym (append_assoc earlier (x ∷ []) xs)) more),
)

-- who isn't free waits
not-free : (before : List Claim) (t : TurnState) (w : Claim) → is_free before t w ≡ false → waits t.held (before ++ t.staying) w ≡ true
not-free before t w e =
    ap (λ b. is_some (in_way t.held w.node w.mode) || b) (way-both before t.staying w.node w.mode)
    ∙ by (in_way t.held w.node w.mode) (in_way before w.node w.mode) (in_way t.staying w.node w.mode) e
  where
    by : (a b c : Option ℕ) → ((is_none a && is_none b) && is_none c) ≡ false → (is_some a || (is_some b || is_some c)) ≡ true
    by (Some n) b c e = refl
    by None (Some n) c e = refl
    by None None (Some n) e = refl
    by None None None e = no-way (sym e)

pub waits-turns : (before : List Claim) (t : TurnState) (ws : List Claim) → OneEach ws → Rise t.held ws → AllWait t.held before t.staying
    → AllWait (fold (turn before) t ws).held before (fold (turn before) t ws).staying
waits-turns before t [] one rise all = all
waits-turns before t (w ∷ ws) one rise all =
    turn-either (λ u. AllWait (fold (turn before) u ws).held before (fold (turn before) u ws).staying) before t w
    (λ e. waits-turns before (grant t w) ws one.1 (rise-now t.held w ws one.0 rise.1) (all-wait-now t.held before w t.staying rise.0 all))
    (λ e. waits-turns before (stay t w) ws one.1 rise.1 (all-wait-more t.held before t.staying w all (not-free before t w e)))

-- ---- what is held after grants

pub held-away : (held given : List Claim) (node : ℕ) → Absent node given → mode_of_node (fold (λ cs w. now_holding cs w.node w.mode) held given) node ≡ mode_of_node held node
held-away held [] node away = refl
held-away held (v ∷ given) node away =
    held-away (now_holding held v.node v.mode) given node away.1 ∙ mode-away held v.node v.mode node (λ q. of-not v.node node away.0 (sym q))

pub held-once : (held given : List Claim) → OneEach held → OneEach (fold (λ cs w. now_holding cs w.node w.mode) held given)
held-once held [] one = one
held-once held (v ∷ given) one = held-once (now_holding held v.node v.mode) given (one-now held v.node v.mode one)

pub held-given : (held given : List Claim) → OneEach held → OneEach given → AllByRecursion (λ w. mode_at (fold (λ cs w. now_holding cs w.node w.mode) held given) w.node ≡ w.mode) given
held-given held [] one apart = tt
held-given held (v ∷ given) one apart = (
  ap (λ (o : Option Mode). unwrap_or o Nl) (held-away (now_holding held v.node v.mode) given v.node apart.0) ∙ mode-here held v.node v.mode one,
  held-given (now_holding held v.node v.mode) given (one-now held v.node v.mode one) apart.1,
)

-- ---- all turns of a lock

pub fold-on : (held xs ys : List Claim) → fold (λ cs w. now_holding cs w.node w.mode) held (xs ++ ys)
    ≡ fold (λ cs w. now_holding cs w.node w.mode) (fold (λ cs w. now_holding cs w.node w.mode) held xs) ys
fold-on held [] ys = refl
fold-on held (x ∷ xs) ys = fold-on (now_holding held x.node x.mode) xs ys

pub record AllTurned (l : LockState) : Type 0 where
  pub first : List Claim
  pub second : List Claim
  pub granted : (all_turns l).granted ≡ first ++ second
  pub between : (conversion_turns l).held ≡ fold (λ cs w. now_holding cs w.node w.mode) l.held first
  pub held : (all_turns l).held ≡ fold (λ cs w. now_holding cs w.node w.mode) (conversion_turns l).held second
  pub conversions : IsSplit [] l.conversions first (conversion_turns l).staying
  pub requests : IsSplit (conversion_turns l).staying l.requests second (all_turns l).staying

pub all-turned : (l : LockState) → AllTurned l
all-turned l =
    let a = turns [] (record { held = l.held; staying = []; granted = [] }) l.conversions in
    let b = turns (conversion_turns l).staying (record { held = (conversion_turns l).held; staying = []; granted = (conversion_turns l).granted }) l.requests in
    record {
      first = a.given;
      second = b.given;
      granted = b.grants ∙ ap (λ (g : List Claim). g ++ b.given) a.grants;
      between = a.holds;
      held = b.holds;
      conversions = subst (λ (s : List Claim). IsSplit [] l.conversions a.given s) (sym a.stays) a.split;
      requests = subst (λ (s : List Claim). IsSplit (conversion_turns l).staying l.requests b.given s) (sym b.stays)
          (subst (λ (p : List Claim). IsSplit p l.requests b.given b.left) (append-nil (conversion_turns l).staying) b.split);
    }

pub rise-of : (held cs : List Claim) → AllByRecursion (λ w. holds_covered (mode_of_node held w.node) w.mode ≡ true) cs → Rise held cs
rise-of held [] all = tt
rise-of held (c ∷ cs) all = (by (mode_of_node held c.node) all.0, rise-of held cs all.1)
  where
    by : (o : Option Mode) → holds_covered o c.mode ≡ true → is_at_least c.mode (unwrap_or o Nl) ≡ true
    by None e = no-way e
    by (Some had) e = e

pub covers-null : (mode : Mode) → is_at_least mode Nl ≡ true
covers-null Nl = refl
covers-null Cr = refl
covers-null Cw = refl
covers-null Pr = refl
covers-null Pw = refl
covers-null Ex = refl

pub rise-none : (held cs : List Claim) → AllByRecursion (λ w. mode_of_node held w.node ≡ None) cs → Rise held cs
rise-none held [] all = tt
rise-none held (c ∷ cs) all = (ap (λ (o : Option Mode). is_at_least c.mode (unwrap_or o Nl)) all.0 ∙ covers-null c.mode, rise-none held cs all.1)

-- claims of other nodes than those who are granted are what they were
rise-given : (held given ws : List Claim) → AllByRecursion (λ w. Absent w.node given) ws → Rise held ws → Rise (fold (λ cs w. now_holding cs w.node w.mode) held given) ws
rise-given held given ws =
    all-both (λ w. Absent w.node given) (λ w. is_at_least w.mode (mode_at held w.node) ≡ true) (λ w. is_at_least w.mode (mode_at (fold (λ cs w. now_holding cs w.node w.mode) held given) w.node) ≡ true)
    (λ w away covers. ap (λ (o : Option Mode). is_at_least w.mode (unwrap_or o Nl)) (held-away held given w.node away) ∙ covers) ws

absent-given : {passed : List Claim} (ws granted staying requests : List Claim) → IsSplit passed ws granted staying → AllByRecursion (λ d. Absent d.node ws) requests → AllByRecursion (λ d. Absent d.node granted) requests
absent-given ws granted staying [] split all = tt
absent-given ws granted staying (r ∷ requests) split all =
    ((split-all (λ d. is_of r.node d ≡ false) ws granted staying split all.0).0, absent-given ws granted staying requests split all.1)

waits-all : (l : LockState) → IsSound l → AllWait (after_grants l).held [] ((after_grants l).conversions ++ (after_grants l).requests)
waits-all l sound =
    let t = all-turned l in
    let rise : Rise l.held l.conversions = rise-of l.held l.conversions sound.raises in
    let apart = one-apart l.conversions l.requests sound.waits_once in
    let later : Rise (conversion_turns l).held l.requests =
    subst (λ (h : List Claim). Rise h l.requests) (sym t.between)
    (rise-given l.held t.first l.requests (absent-given l.conversions t.first (conversion_turns l).staying l.requests t.conversions apart) (rise-none l.held l.requests sound.holds_none)) in
    let first : AllWait (conversion_turns l).held [] (conversion_turns l).staying =
    waits-turns [] (record { held = l.held; staying = []; granted = [] }) l.conversions (one-left l.conversions l.requests sound.waits_once) rise tt in
    let second : AllWait (all_turns l).held (conversion_turns l).staying (all_turns l).staying =
    waits-turns (conversion_turns l).staying (record { held = (conversion_turns l).held; staying = []; granted = (conversion_turns l).granted }) l.requests (one-right l.conversions l.requests sound.waits_once) later tt in
    let given_once = (split-one l.requests t.second (all_turns l).staying t.requests (one-right l.conversions l.requests sound.waits_once)).0 in
    let given_rise = (split-all (λ v. is_at_least v.mode (mode_at (conversion_turns l).held v.node) ≡ true) l.requests t.second (all_turns l).staying t.requests later).0 in
    all-wait-join (all_turns l).held [] (conversion_turns l).staying (all_turns l).staying
    (subst (λ (h : List Claim). AllWait h [] (conversion_turns l).staying) (sym t.held)
    (all-wait-held (conversion_turns l).held [] t.second (conversion_turns l).staying given_once given_rise first))
    second

each-waits : (held earlier ws : List Claim) → AllWait held earlier ws → EachWaits held earlier ws
each-waits held earlier [] all = tt
each-waits held earlier (w ∷ ws) all = (by (in_way held w.node w.mode) refl (in_way earlier w.node w.mode) refl all.0, each-waits held (earlier ++ w ∷ []) ws all.1)
  where
    by : (a : Option ℕ) → in_way held w.node w.mode ≡ a → (b : Option ℕ) → in_way earlier w.node w.mode ≡ b → (is_some a || is_some b) ≡ true → (cause : Cause) × IsSo false 0 held earlier w cause
    by (Some n) e b f h = (Held n, way-so held w n e)
    by None e (Some n) f h = (Behind n, way-so earlier w n f)
    by None e None f h = no-way h

pub no-waiter-is-lost : NoWaiterIsLost
no-waiter-is-lost l =
    let t = all-turned l in
    let held : (after_grants l).held ≡ fold (λ cs w. now_holding cs w.node w.mode) l.held (t.first ++ t.second) =
    t.held ∙ (ap (λ (h : List Claim). fold (λ cs w. now_holding cs w.node w.mode) h t.second) t.between ∙ sym (fold-on l.held t.first t.second)) in
    record {
      converted = t.first;
      requested = t.second;
      granted = t.granted;
      conversions = t.conversions;
      requests = t.requests;
      given = λ sound. subst (λ (g : List Claim). AllByRecursion (λ w. mode_at (after_grants l).held w.node ≡ w.mode) g) (sym t.granted)
          (subst (λ (h : List Claim). AllByRecursion (λ w. mode_at h w.node ≡ w.mode) (t.first ++ t.second)) (sym held)
          (held-given l.held (t.first ++ t.second) sound.held_once
          (split-one (l.conversions ++ l.requests) (t.first ++ t.second) ((conversion_turns l).staying ++ (all_turns l).staying)
          (split-on l.conversions l.requests t.first t.second (conversion_turns l).staying (all_turns l).staying t.conversions t.requests) sound.waits_once).0));
      others = λ node away. ap (λ (h : List Claim). mode_of_node h node) held
          ∙ held-away l.held (t.first ++ t.second) node (subst (λ (g : List Claim). Absent node g) t.granted away);
      waits = λ sound. each-waits (after_grants l).held [] ((after_grants l).conversions ++ (after_grants l).requests) (waits-all l sound);
    }
