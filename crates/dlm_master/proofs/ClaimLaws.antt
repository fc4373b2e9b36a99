-- A node's claim in a list: where it stands, and what a write there makes.
use Rattle.std.proofs.Common.{ℕ, zero, suc, ◌≡◌, ◌≢◌, ◌<◌, ◌≤◌, Bool, true, false, cond, List, [], ◌∷◌, ◌++◌, length, get_or, set, Option, Some, None, position, is_some, refl, sym, ap, ◌∙◌, subst, inl, inr, ◌⊎◌, eq-eqb, arith}
use Rattle.std.specs.Prelude.{◌==◌, option_map, unwrap_or, find, remove}
use Rattle.std.specs.List.{position_or_len, AllByRecursion}
use Rattle.std.proofs.lemmas.Bool.{ltb-false}
use Rattle.std.proofs.lemmas.Bool.Decides.{eqb_tells}
use Rattle.std.proofs.lemmas.List.Quantifiers.{position-Some}
use Rattle.dlm_modes.specs.declared.Mode.{Mode}
use Rattle.dlm_modes.specs.declared.Mode.TheVariants.{Nl, Cr, Cw, Pr, Pw, Ex}
use Rattle.dlm_master.specs.declared.claims.Claim.{Claim}
use Rattle.dlm_master.specs.Claims.{is_of, is_null, mode_of_node, mode_at, with_claim, without_claim, now_holding, Absent, OneEach}
use Rattle.dlm_master.specs.Locks.{claim}

no-way : {A : Type 0} → false ≡ true → A
no-way e = absurd (let f : false ≡ true = e in cc)

-- a write at the node's first claim puts it there
set-with : (cs : List Claim) (i : ℕ) (c d : Claim) → i < length cs → is_of c.node (get_or cs i d) ≡ true
    → ((k : ℕ) → k < i → is_of c.node (get_or cs k d) ≡ false) → set cs i c ≡ with_claim cs c
set-with [] i c d within here before = absurd (omega arith)
set-with (x ∷ xs) zero c d within here before = rw here refl
set-with (x ∷ xs) (suc i) c d within here before =
    rw (before 0 (omega arith)) (ap (λ (l : List Claim). x ∷ l) (set-with xs i c d (omega arith) here (λ k h. before (suc k) (omega arith))))

pub set-with_claim : (cs : List Claim) (i : ℕ) (c : Claim) → position (is_of c.node) cs ≡ Some i → set cs i c ≡ with_claim cs c
set-with_claim cs i c e = let p = position-Some (is_of c.node) cs i c e in set-with cs i c c p.0 p.1 p.2

-- its removal takes it away
remove-without : (cs : List Claim) (i node : ℕ) (d : Claim) → i < length cs → is_of node (get_or cs i d) ≡ true
    → ((k : ℕ) → k < i → is_of node (get_or cs k d) ≡ false) → remove cs i ≡ without_claim cs node
remove-without [] i node d within here before = absurd (omega arith)
remove-without (x ∷ xs) zero node d within here before = rw here refl
remove-without (x ∷ xs) (suc i) node d within here before =
    rw (before 0 (omega arith)) (ap (λ (l : List Claim). x ∷ l) (remove-without xs i node d (omega arith) here (λ k h. before (suc k) (omega arith))))

pub remove-without_claim : (cs : List Claim) (i node : ℕ) (d : Claim) → position (is_of node) cs ≡ Some i → remove cs i ≡ without_claim cs node
remove-without_claim cs i node d e = let p = position-Some (is_of node) cs i d e in remove-without cs i node d p.0 p.1 p.2

-- where the node has no claim, a new one goes last
past : (n : ℕ) (b : Bool) → cond b (Some n) None ≡ None → b ≡ false
past n true e = absurd (let f : Some n ≡ None = e in cc)
past n false e = refl

push-with : (cs : List Claim) (c : Claim) → length cs ≤ position_or_len (is_of c.node) cs → cs ++ c ∷ [] ≡ with_claim cs c
push-with [] c h = refl
push-with (x ∷ xs) c h = by (is_of c.node x) refl (push-with xs c)
  where
    by : (b : Bool) → is_of c.node x ≡ b → (length xs ≤ position_or_len (is_of c.node) xs → xs ++ c ∷ [] ≡ with_claim xs c) → (x ∷ xs) ++ c ∷ [] ≡ with_claim (x ∷ xs) c
    by true e rest = absurd (let bad : length (x ∷ xs) ≤ 0 = rw e at h in omega arith)
    by false e rest = rw e (ap (λ (l : List Claim). x ∷ l) (rest (let good = rw e at h in omega arith)))

pub push-with_claim : (cs : List Claim) (c : Claim) → position (is_of c.node) cs ≡ None → cs ++ c ∷ [] ≡ with_claim cs c
push-with_claim cs c e = push-with cs c (ltb-false (position_or_len (is_of c.node) cs) (length cs) (past _ _ e))

-- a node that has a claim has a place
none-absent : (cs : List Claim) (node : ℕ) → length cs ≤ position_or_len (is_of node) cs → mode_of_node cs node ≡ None
none-absent [] node h = refl
none-absent (x ∷ xs) node h = by (is_of node x) refl (none-absent xs node)
  where
    by : (b : Bool) → is_of node x ≡ b → (length xs ≤ position_or_len (is_of node) xs → mode_of_node xs node ≡ None) → mode_of_node (x ∷ xs) node ≡ None
    by true e rest = absurd (let bad : length (x ∷ xs) ≤ 0 = rw e at h in omega arith)
    by false e rest = rw e (rest (let good = rw e at h in omega arith))

pub no-place : (cs : List Claim) (node : ℕ) {A : Type 0} → position (is_of node) cs ≡ None → is_some (mode_of_node cs node) ≡ true → A
no-place cs node e there = no-way (sym (ap is_some (none-absent cs node (ltb-false (position_or_len (is_of node) cs) (length cs) (past _ _ e)))) ∙ there)

-- where the node has no claim, none is taken away
without-none : (cs : List Claim) (node : ℕ) → length cs ≤ position_or_len (is_of node) cs → cs ≡ without_claim cs node
without-none [] node h = refl
without-none (x ∷ xs) node h = by (is_of node x) refl (without-none xs node)
  where
    by : (b : Bool) → is_of node x ≡ b → (length xs ≤ position_or_len (is_of node) xs → xs ≡ without_claim xs node) → x ∷ xs ≡ without_claim (x ∷ xs) node
    by true e rest = absurd (let bad : length (x ∷ xs) ≤ 0 = rw e at h in omega arith)
    by false e rest = rw e (ap (λ (l : List Claim). x ∷ l) (rest (let good = rw e at h in omega arith)))

pub without_claim-none : (cs : List Claim) (node : ℕ) → position (is_of node) cs ≡ None → cs ≡ without_claim cs node
without_claim-none cs node e = without-none cs node (ltb-false (position_or_len (is_of node) cs) (length cs) (past _ _ e))

-- ---- one claim a node

pub absent-mode : (cs : List Claim) (node : ℕ) → Absent node cs → mode_of_node cs node ≡ None
absent-mode [] node all = refl
absent-mode (x ∷ xs) node all = rw all.0 (absent-mode xs node all.1)

pub absent-with : (cs : List Claim) (c : Claim) (node : ℕ) → is_of node c ≡ false → Absent node cs → Absent node (with_claim cs c)
absent-with [] c node ne all = (ne, tt)
absent-with (x ∷ xs) c node ne all = by (is_of c.node x) (absent-with xs c node ne all.1)
  where
    by : (b : Bool) → Absent node (with_claim xs c) → Absent node (cond b (c ∷ xs) (x ∷ with_claim xs c))
    by true rest = (ne, all.1)
    by false rest = (all.0, rest)

pub absent-without : (cs : List Claim) (other node : ℕ) → Absent node cs → Absent node (without_claim cs other)
absent-without [] other node all = tt
absent-without (x ∷ xs) other node all = by (is_of other x) (absent-without xs other node all.1)
  where
    by : (b : Bool) → Absent node (without_claim xs other) → Absent node (cond b xs (x ∷ without_claim xs other))
    by true rest = all.1
    by false rest = (all.0, rest)

-- absence is of nodes that are equal
pub absent-along : (cs : List Claim) (a b : ℕ) → a ≡ b → Absent a cs → Absent b cs
absent-along cs a b e all = subst (λ (n : ℕ). Absent n cs) e all

pub turned : (a b : ℕ) → (a == b) ≡ false → (b == a) ≡ false
turned a b e = elim (eqb_tells b a) [
  | inl same ↦ absurd (let f : true ≡ false = sym (eq-eqb a b (sym same.1)) ∙ e in cc)
  | inr other ↦ other.0
]

pub one-with : (cs : List Claim) (c : Claim) → OneEach cs → OneEach (with_claim cs c)
one-with [] c all = (tt, tt)
one-with (x ∷ xs) c all = by (eqb_tells x.node c.node) (one-with xs c all.1)
  where
    by : (((x.node == c.node) ≡ true) × (x.node ≡ c.node)) ⊎ (((x.node == c.node) ≡ false) × (x.node ≢ c.node)) → OneEach (with_claim xs c) → OneEach (with_claim (x ∷ xs) c)
    by (inl same) rest = rw same.0 (absent-along xs x.node c.node same.1 all.0, all.1)
    by (inr other) rest = rw other.0 (absent-with xs c x.node (turned x.node c.node other.0) all.0, rest)

one-without : (cs : List Claim) (node : ℕ) → OneEach cs → OneEach (without_claim cs node)
one-without [] node all = tt
one-without (x ∷ xs) node all = by (is_of node x) (one-without xs node all.1)
  where
    by : (b : Bool) → OneEach (without_claim xs node) → OneEach (cond b xs (x ∷ without_claim xs node))
    by true rest = all.1
    by false rest = (absent-without xs node x.node all.0, rest)

-- the mode of a node after a claim was put
pub mode-with : (cs : List Claim) (c : Claim) (node : ℕ) → mode_of_node (with_claim cs c) node ≡ cond (c.node == node) (Some c.mode) (mode_of_node cs node)
mode-with [] c node = by (c.node == node) refl
  where
    by : (b : Bool) → (c.node == node) ≡ b → mode_of_node (c ∷ []) node ≡ cond b (Some c.mode) None
    by true e = rw e refl
    by false e = rw e refl
mode-with (x ∷ xs) c node = by (eqb_tells x.node c.node) (mode-with xs c node)
  where
    first : (b : Bool) → (c.node == node) ≡ b → x.node ≡ c.node → mode_of_node (c ∷ xs) node ≡ cond b (Some c.mode) (mode_of_node (x ∷ xs) node)
    first true e same = rw e refl
    first false e same = rw e (let f : (x.node == node) ≡ false = rw same e in rw f refl)

    other-first : (b : Bool) → (x.node == node) ≡ b → x.node ≢ c.node → mode_of_node (with_claim xs c) node ≡ cond (c.node == node) (Some c.mode) (mode_of_node xs node)
        → mode_of_node (x ∷ with_claim xs c) node ≡ cond (c.node == node) (Some c.mode) (mode_of_node (x ∷ xs) node)
    other-first true e ne rest = elim (eqb_tells x.node node) [
      | inl here ↦
          let f : (c.node == node) ≡ false = elim (eqb_tells c.node node) [ inl q ↦ absurd (ne (here.1 ∙ sym q.1)) | inr q ↦ q.0 ] in
          rw (e, f) refl
      | inr away ↦ absurd (let f : true ≡ false = sym e ∙ away.0 in cc)
    ]
    other-first false e ne rest = rw e rest

    by : (((x.node == c.node) ≡ true) × (x.node ≡ c.node)) ⊎ (((x.node == c.node) ≡ false) × (x.node ≢ c.node)) → mode_of_node (with_claim xs c) node ≡ cond (c.node == node) (Some c.mode) (mode_of_node xs node)
        → mode_of_node (with_claim (x ∷ xs) c) node ≡ cond (c.node == node) (Some c.mode) (mode_of_node (x ∷ xs) node)
    by (inl same) rest = rw same.0 (first (c.node == node) refl same.1)
    by (inr other) rest = rw other.0 (other-first (x.node == node) refl other.1 rest)

-- and after the claim of a node was taken away
mode-without : (cs : List Claim) (other node : ℕ) → OneEach cs → mode_of_node (without_claim cs other) node ≡ cond (other == node) None (mode_of_node cs node)
mode-without [] other node all = by (other == node)
  where
    by : (b : Bool) → mode_of_node [] node ≡ cond b None (mode_of_node [] node)
    by true = refl
    by false = refl
mode-without (x ∷ xs) other node all = by (eqb_tells x.node other) (mode-without xs other node all.1)
  where
    gone : (b : Bool) → (other == node) ≡ b → x.node ≡ other → mode_of_node xs node ≡ cond b None (mode_of_node (x ∷ xs) node)
    gone true e same = elim (eqb_tells other node) [
      | inl is ↦ absent-mode xs node (absent-along xs x.node node (same ∙ is.1) all.0)
      | inr away ↦ absurd (let f : true ≡ false = sym e ∙ away.0 in cc)
    ]
    gone false e same = let f : (x.node == node) ≡ false = rw same e in rw f refl

    stays : (b : Bool) → (x.node == node) ≡ b → x.node ≢ other → mode_of_node (without_claim xs other) node ≡ cond (other == node) None (mode_of_node xs node)
        → mode_of_node (x ∷ without_claim xs other) node ≡ cond (other == node) None (mode_of_node (x ∷ xs) node)
    stays true e ne rest = elim (eqb_tells x.node node) [
      | inl here ↦
          let f : (other == node) ≡ false = elim (eqb_tells other node) [ inl q ↦ absurd (ne (here.1 ∙ sym q.1)) | inr q ↦ q.0 ] in
          rw (e, f) refl
      | inr away ↦ absurd (let f : true ≡ false = sym e ∙ away.0 in cc)
    ]
    stays false e ne rest = rw e rest

    by : (((x.node == other) ≡ true) × (x.node ≡ other)) ⊎ (((x.node == other) ≡ false) × (x.node ≢ other)) → mode_of_node (without_claim xs other) node ≡ cond (other == node) None (mode_of_node xs node)
        → mode_of_node (without_claim (x ∷ xs) other) node ≡ cond (other == node) None (mode_of_node (x ∷ xs) node)
    by (inl same) rest = rw same.0 (gone (other == node) refl same.1)
    by (inr there) rest = rw there.0 (stays (x.node == node) refl there.1 rest)

-- the mode of a node after one told what it holds
pub mode-now : (cs : List Claim) (other : ℕ) (mode : Mode) (node : ℕ) → OneEach cs → mode_of_node (now_holding cs other mode) node ≡ cond (other == node) (cond (is_null mode) None (Some mode)) (mode_of_node cs node)
mode-now cs other mode node all = by (is_null mode)
  where
    by : (b : Bool) → mode_of_node (cond b (without_claim cs other) (with_claim cs (claim other mode))) node ≡ cond (other == node) (cond b None (Some mode)) (mode_of_node cs node)
    by true = mode-without cs other node all
    by false = mode-with cs (claim other mode) node

pub one-now : (cs : List Claim) (node : ℕ) (mode : Mode) → OneEach cs → OneEach (now_holding cs node mode)
one-now cs node mode all = by (is_null mode)
  where
    by : (b : Bool) → OneEach (cond b (without_claim cs node) (with_claim cs (claim node mode)))
    by true = one-without cs node all
    by false = one-with cs (claim node mode) all

-- the mode of another node
without-away : (cs : List Claim) (other node : ℕ) → (node ≡ other → ⊥) → mode_of_node (without_claim cs other) node ≡ mode_of_node cs node
without-away [] other node ne = refl
without-away (x ∷ xs) other node ne = by (eqb_tells x.node other) (without-away xs other node ne)
  where
    by : (((x.node == other) ≡ true) × (x.node ≡ other)) ⊎ (((x.node == other) ≡ false) × (x.node ≢ other)) → mode_of_node (without_claim xs other) node ≡ mode_of_node xs node
        → mode_of_node (without_claim (x ∷ xs) other) node ≡ mode_of_node (x ∷ xs) node
    by (inl same) rest =
        let away : (x.node == node) ≡ false = elim (eqb_tells x.node node) [ inl q ↦ absurd (ne (sym q.1 ∙ same.1)) | inr q ↦ q.0 ] in
        rw (same.0, away) refl
    by (inr apart) rest = rw apart.0 (stays (x.node == node))
      where
        stays : (b : Bool) → option_map (λ (c : Claim). c.mode) (cond b (Some x) (find (is_of node) (without_claim xs other))) ≡ option_map (λ (c : Claim). c.mode) (cond b (Some x) (find (is_of node) xs))
        stays true = refl
        stays false = rest

pub mode-away : (cs : List Claim) (other : ℕ) (mode : Mode) (node : ℕ) → (node ≡ other → ⊥) → mode_of_node (now_holding cs other mode) node ≡ mode_of_node cs node
mode-away cs other mode node ne = by (is_null mode)
  where
    by : (b : Bool) → mode_of_node (cond b (without_claim cs other) (with_claim cs (claim other mode))) node ≡ mode_of_node cs node
    by true = without-away cs other node ne
    by false =
        let off : (other == node) ≡ false = elim (eqb_tells other node) [ inl q ↦ absurd (ne (sym q.1)) | inr q ↦ q.0 ] in
        mode-with cs (claim other mode) node ∙ ap (λ b. cond b (Some mode) (mode_of_node cs node)) off

-- and of the node itself
null-or : (mode : Mode) → unwrap_or (cond (is_null mode) None (Some mode)) Nl ≡ mode
null-or Nl = refl
null-or Cr = refl
null-or Cw = refl
null-or Pr = refl
null-or Pw = refl
null-or Ex = refl

pub mode-here : (cs : List Claim) (node : ℕ) (mode : Mode) → OneEach cs → mode_at (now_holding cs node mode) node ≡ mode
mode-here cs node mode one =
    ap (λ (o : Option Mode). unwrap_or o Nl) (mode-now cs node mode node one ∙ ap (λ b. cond b (cond (is_null mode) None (Some mode)) (mode_of_node cs node)) (eq-eqb node node refl)) ∙ null-or mode

-- ---- all claims

pub all-left : (P : Claim → Type 0) (xs ys : List Claim) → AllByRecursion P (xs ++ ys) → AllByRecursion P xs
all-left P [] ys all = tt
all-left P (x ∷ xs) ys all = (all.0, all-left P xs ys all.1)

pub all-right : (P : Claim → Type 0) (xs ys : List Claim) → AllByRecursion P (xs ++ ys) → AllByRecursion P ys
all-right P [] ys all = all
all-right P (x ∷ xs) ys all = all-right P xs ys all.1

pub all-join : (P : Claim → Type 0) (xs ys : List Claim) → AllByRecursion P xs → AllByRecursion P ys → AllByRecursion P (xs ++ ys)
all-join P [] ys all more = more
all-join P (x ∷ xs) ys all more = (all.0, all-join P xs ys all.1 more)

pub all-both : (P Q R : Claim → Type 0) → ((c : Claim) → P c → Q c → R c) → (cs : List Claim) → AllByRecursion P cs → AllByRecursion Q cs → AllByRecursion R cs
all-both P Q R f [] all more = tt
all-both P Q R f (x ∷ xs) all more = (f x all.0 more.0, all-both P Q R f xs all.1 more.1)

pub all-with : (P : Claim → Type 0) (cs : List Claim) (c : Claim) → AllByRecursion P cs → P c → AllByRecursion P (with_claim cs c)
all-with P [] c all here = (here, tt)
all-with P (x ∷ xs) c all here = by (is_of c.node x) (all-with P xs c all.1 here)
  where
    by : (b : Bool) → AllByRecursion P (with_claim xs c) → AllByRecursion P (cond b (c ∷ xs) (x ∷ with_claim xs c))
    by true rest = (here, all.1)
    by false rest = (all.0, rest)

pub all-without : (P : Claim → Type 0) (cs : List Claim) (node : ℕ) → AllByRecursion P cs → AllByRecursion P (without_claim cs node)
all-without P [] node all = tt
all-without P (x ∷ xs) node all = by (is_of node x) (all-without P xs node all.1)
  where
    by : (b : Bool) → AllByRecursion P (without_claim xs node) → AllByRecursion P (cond b xs (x ∷ without_claim xs node))
    by true rest = all.1
    by false rest = (all.0, rest)

-- ---- nodes apart

pub not-of : (a b : ℕ) → (a ≡ b → ⊥) → (a == b) ≡ false
not-of a b ne = elim (eqb_tells a b) [ inl q ↦ absurd (ne q.1) | inr q ↦ q.0 ]

pub of-not : (a b : ℕ) → (a == b) ≡ false → a ≡ b → ⊥
of-not a b e same = elim (eqb_tells a b) [ inl q ↦ no-way (sym e ∙ q.0) | inr q ↦ q.1 same ]

pub none-of : (cs : List Claim) (node : ℕ) → mode_of_node cs node ≡ None → Absent node cs
none-of [] node e = tt
none-of (x ∷ xs) node e = by (is_of node x) refl (none-of xs node)
  where
    by : (b : Bool) → is_of node x ≡ b → (mode_of_node xs node ≡ None → Absent node xs) → Absent node (x ∷ xs)
    by true h rest = absurd (let f : Some x.mode ≡ None = rw h at e in cc)
    by false h rest = (h, rest (rw h at e))

pub one-left : (xs ys : List Claim) → OneEach (xs ++ ys) → OneEach xs
one-left [] ys one = tt
one-left (x ∷ xs) ys one = (all-left (λ d. is_of x.node d ≡ false) xs ys one.0, one-left xs ys one.1)

pub one-right : (xs ys : List Claim) → OneEach (xs ++ ys) → OneEach ys
one-right [] ys one = one
one-right (x ∷ xs) ys one = one-right xs ys one.1

pub one-put : (xs ys : List Claim) (c : Claim) → OneEach (xs ++ ys) → Absent c.node xs → Absent c.node ys → OneEach (xs ++ c ∷ ys)
one-put [] ys c one before behind = (behind, one)
one-put (x ∷ xs) ys c one before behind = (
  all-join (λ d. is_of x.node d ≡ false) xs (c ∷ ys) (all-left (λ d. is_of x.node d ≡ false) xs ys one.0)
      (turned x.node c.node before.0, all-right (λ d. is_of x.node d ≡ false) xs ys one.0),
  one-put xs ys c one.1 before.1 behind,
)

-- those behind are of other nodes than those before
pub one-apart : (xs ys : List Claim) → OneEach (xs ++ ys) → AllByRecursion (λ d. Absent d.node xs) ys
one-apart [] ys one = every ys
  where
    every : (cs : List Claim) → AllByRecursion (λ d. Absent d.node []) cs
    every [] = tt
    every (c ∷ cs) = (tt, every cs)
one-apart (x ∷ xs) ys one =
    all-both (λ d. is_of x.node d ≡ false) (λ d. Absent d.node xs) (λ d. Absent d.node (x ∷ xs)) (λ d e rest. (turned d.node x.node e, rest)) ys
    (all-right (λ d. is_of x.node d ≡ false) xs ys one.0) (one-apart xs ys one.1)
