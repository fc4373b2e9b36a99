-- A cause that is named is so, and where none is named none is.
use Rattle.std.proofs.Common.{ℕ, zero, suc, ◌≡◌, ◌≢◌, ◌<◌, Bool, true, false, List, [], ◌∷◌, ◌++◌, length, Option, None, Some, inl, inr, ◌⊎◌, refl, sym, ap, ◌∙◌, subst, append-nil, arith}
use Rattle.std.specs.Prelude.{◌&&◌, not, find, option_map, Contains, slice_index_or}
use Rattle.std.proofs.lemmas.Bool.Decides.{eqb_tells}
use Rattle.dlm_modes.specs.Modes.{go_together}
use Rattle.fencing.specs.NodeSets.{least_of}
use Rattle.fencing.proofs.LeastLaws.{least-none, least-some}
use Rattle.dlm_master.specs.declared.claims.Claim.{Claim}
use Rattle.dlm_master.specs.declared.claims.Cause.{Cause}
use Rattle.dlm_master.specs.declared.claims.Cause.TheVariants.{Held, Behind, Rebuild, Slot}
use Rattle.dlm_master.specs.Claims.{is_of, stands_in_way, in_way}
use Rattle.dlm_master.specs.Locks.{claim, or_else, cause_of, convert_cause}
use Rattle.dlm_master.specs.Laws.{IsInWay, IsSo, IsRightCause, CauseIsSo}

no-way : {A : Type 0} → false ≡ true → A
no-way e = absurd (let f : false ≡ true = e in cc)

inside : {A : Type 0} {a b : A} → Some a ≡ Some b → a ≡ b
inside e = cc

some-none : {A X : Type 0} {x : X} → Some x ≡ None → A
some-none {A} {X} {x} e = absurd (let f : Some x ≡ None = e in cc)

-- ---- elements of lists

contains-more : {X : Type 0} (x : X) (xs : List X) (y : X) → Contains xs y → Contains (x ∷ xs) y
contains-more x xs y (k, h, e) = (suc k, omega arith, e)

pub contains-left : {X : Type 0} (xs ys : List X) (y : X) → Contains xs y → Contains (xs ++ ys) y
contains-left [] ys y (k, h, e) = absurd (omega arith)
contains-left (x ∷ xs) ys y (zero, h, e) = (0, omega arith, e)
contains-left (x ∷ xs) ys y (suc k, h, e) = contains-more x (xs ++ ys) y (contains-left xs ys y (k, omega arith, e))

pub contains-right : {X : Type 0} (xs ys : List X) (y : X) → Contains ys y → Contains (xs ++ ys) y
contains-right [] ys y c = c
contains-right (x ∷ xs) ys y c = contains-more x (xs ++ ys) y (contains-right xs ys y c)

pub contains-of : {X : Type 0} (xs ys : List X) (y : X) → Contains (xs ++ ys) y → Contains xs y ⊎ Contains ys y
contains-of [] ys y c = inr c
contains-of (x ∷ xs) ys y (zero, h, e) = inl (0, omega arith, e)
contains-of (x ∷ xs) ys y (suc k, h, e) = elim (contains-of xs ys y (k, omega arith, e)) [
  | inl c ↦ inl (contains-more x xs y c)
  | inr c ↦ inr c
]

pub found-in : {X : Type 0} (p : X → Bool) (xs : List X) (y : X) → find p xs ≡ Some y → Contains xs y × (p y ≡ true)
found-in p [] y e = absurd (let f : None ≡ Some y = e in cc)
found-in p (x ∷ xs) y e = by (p x) refl (found-in p xs y)
  where
    by : (b : Bool) → p x ≡ b → (find p xs ≡ Some y → Contains xs y × (p y ≡ true)) → Contains (x ∷ xs) y × (p y ≡ true)
    by true h rest = let same : x ≡ y = inside (rw h at e) in ((0, omega arith, same), sym (ap p same) ∙ h)
    by false h rest = let r = rest (rw h at e) in (contains-more x xs y r.0, r.1)

pub none-in : {X : Type 0} (p : X → Bool) (xs : List X) (y : X) → find p xs ≡ None → Contains xs y → p y ≡ false
none-in p [] y e (k, h, at) = absurd (omega arith)
none-in p (x ∷ xs) y e (k, h, at) = by (p x) refl k h at (none-in p xs y)
  where
    by : (b : Bool) → p x ≡ b → (k : ℕ) → k < length (x ∷ xs) → slice_index_or (x ∷ xs) k y ≡ y → (find p xs ≡ None → Contains xs y → p y ≡ false) → p y ≡ false
    by true here k h at rest = some-none (rw here at e)
    by false here zero h at rest = sym (ap p at) ∙ here
    by false here (suc k) h at rest = rest (rw here at e) (k, omega arith, at)

-- ---- claims in the way

both-true : (a b : Bool) → (a && b) ≡ true → (a ≡ true) × (b ≡ true)
both-true true b e = (refl, e)
both-true false b e = no-way e

not-true : (b : Bool) → not b ≡ true → b ≡ false
not-true true e = no-way e
not-true false e = refl

-- a claim that stands in the way
stands : (asker c : Claim) → stands_in_way asker.node asker.mode c ≡ true → (c.node ≢ asker.node) × (go_together c.mode asker.mode ≡ false)
stands asker c e =
    let two = both-true _ _ e in
    (λ same. no-way (sym (not-true _ two.0) ∙ is-own same), not-true _ two.1)
  where
    is-own : c.node ≡ asker.node → is_of asker.node c ≡ true
    is-own same = elim (eqb_tells c.node asker.node) [ inl y ↦ y.0 | inr n ↦ absurd (n.1 same) ]

pub way-so : (cs : List Claim) (asker : Claim) (n : ℕ) → in_way cs asker.node asker.mode ≡ Some n → IsInWay cs n asker
way-so cs asker n e = by (find (stands_in_way asker.node asker.mode) cs) refl
  where
    by : (o : Option Claim) → find (stands_in_way asker.node asker.mode) cs ≡ o → IsInWay cs n asker
    by None h = absurd (let f : None ≡ Some n = sym (ap (option_map (λ (c : Claim). c.node)) h) ∙ e in cc)
    by (Some c) h = here (found-in (stands_in_way asker.node asker.mode) cs c h) (inside (sym (ap (option_map (λ (c : Claim). c.node)) h) ∙ e))
      where
        here : Contains cs c × (stands_in_way asker.node asker.mode c ≡ true) → c.node ≡ n → IsInWay cs n asker
        here r same = let s = stands asker c r.1 in
            subst (λ (k : ℕ). IsInWay cs k asker) same (c.mode, r.0, s.0, s.1)

pub way-none : (cs : List Claim) (asker : Claim) (n : ℕ) → in_way cs asker.node asker.mode ≡ None → IsInWay cs n asker → ⊥
way-none cs asker n e (mode, there, ne, apart) = by (find (stands_in_way asker.node asker.mode) cs) refl
  where
    off : is_of asker.node (claim n mode) ≡ false
    off = elim (eqb_tells n asker.node) [ inl y ↦ absurd (ne y.1) | inr m ↦ m.0 ]

    in-way : stands_in_way asker.node asker.mode (claim n mode) ≡ true
    in-way = ap (λ b. not b && not (go_together mode asker.mode)) off ∙ ap not apart

    by : (o : Option Claim) → find (stands_in_way asker.node asker.mode) cs ≡ o → ⊥
    by None h = no-way (sym (none-in (stands_in_way asker.node asker.mode) cs (claim n mode) h there) ∙ in-way)
    by (Some c) h = some-none (sym (ap (option_map (λ (c : Claim). c.node)) h) ∙ e)

-- ---- causes

-- the first of four that there is
pub first-cause : (P : Cause → Type 0) (slot held before behind : Option ℕ) (cause : Cause)
    → or_else (option_map Slot slot) (or_else (option_map Held held) (or_else (option_map Behind before) (option_map Behind behind))) ≡ Some cause
    → ((n : ℕ) → slot ≡ Some n → P (Slot n)) → ((n : ℕ) → held ≡ Some n → P (Held n)) → ((n : ℕ) → before ≡ Some n → P (Behind n))
    → ((n : ℕ) → behind ≡ Some n → P (Behind n)) → P cause
first-cause P (Some n) held before behind cause e s h b l = subst P (inside e) (s n refl)
first-cause P None (Some n) before behind cause e s h b l = subst P (inside e) (h n refl)
first-cause P None None (Some n) behind cause e s h b l = subst P (inside e) (b n refl)
first-cause P None None None (Some n) cause e s h b l = subst P (inside e) (l n refl)
first-cause P None None None None cause e s h b l = absurd (let f : None ≡ Some cause = e in cc)

pub no-cause : (slot held before behind : Option ℕ) → or_else (option_map Slot slot) (or_else (option_map Held held) (or_else (option_map Behind before) (option_map Behind behind))) ≡ None
    → (slot ≡ None) × (held ≡ None) × (before ≡ None) × (behind ≡ None)
no-cause (Some n) held before behind e = some-none e
no-cause None (Some n) before behind e = some-none e
no-cause None None (Some n) behind e = some-none e
no-cause None None None (Some n) e = some-none e
no-cause None None None None e = (refl, refl, refl, refl)

way-left : (xs ys : List Claim) (n : ℕ) (asker : Claim) → IsInWay xs n asker → IsInWay (xs ++ ys) n asker
way-left xs ys n asker (mode, there, ne, apart) = (mode, contains-left xs ys (claim n mode) there, ne, apart)

way-right : (xs ys : List Claim) (n : ℕ) (asker : Claim) → IsInWay ys n asker → IsInWay (xs ++ ys) n asker
way-right xs ys n asker (mode, there, ne, apart) = (mode, contains-right xs ys (claim n mode) there, ne, apart)

-- whoever asks, before whom these convert and these wait
right-cause : (rebuild : Bool) (waiting : ℕ) (held conversions requests : List Claim) (asker : Claim)
    → IsRightCause rebuild waiting held (conversions ++ requests) asker (cause_of rebuild waiting held conversions requests asker.node asker.mode)
right-cause true waiting held conversions requests asker = record {
  so = λ cause e. subst (IsSo true waiting held (conversions ++ requests) asker) (inside e) refl;
  all = λ e. some-none e;
}
right-cause false waiting held conversions requests asker = record { so = so; all = all }
  where
    so : (cause : Cause) → cause_of false waiting held conversions requests asker.node asker.mode ≡ Some cause → IsSo false waiting held (conversions ++ requests) asker cause
    so cause e =
        first-cause (IsSo false waiting held (conversions ++ requests) asker) (least_of waiting) (in_way held asker.node asker.mode)
        (in_way conversions asker.node asker.mode) (in_way requests asker.node asker.mode) cause e
        (λ n h. least-some waiting n h)
        (λ n h. way-so held asker n h)
        (λ n h. way-left conversions requests n asker (way-so conversions asker n h))
        (λ n h. way-right conversions requests n asker (way-so requests asker n h))

    all : cause_of false waiting held conversions requests asker.node asker.mode ≡ None → (cause : Cause) → IsSo false waiting held (conversions ++ requests) asker cause → ⊥
    all e = by (no-cause (least_of waiting) (in_way held asker.node asker.mode) (in_way conversions asker.node asker.mode) (in_way requests asker.node asker.mode) e)
      where
        by : (least_of waiting ≡ None) × (in_way held asker.node asker.mode ≡ None) × (in_way conversions asker.node asker.mode ≡ None) × (in_way requests asker.node asker.mode ≡ None)
            → (cause : Cause) → IsSo false waiting held (conversions ++ requests) asker cause → ⊥
        by (slot, holds, before, behind) Rebuild is = no-way is
        by (slot, holds, before, behind) (Slot n) is = no-way (sym (least-none waiting n slot is.0) ∙ is.1)
        by (slot, holds, before, behind) (Held n) is = way-none held asker n holds is
        by (slot, holds, before, behind) (Behind n) (mode, there, ne, apart) = elim (contains-of conversions requests (claim n mode) there) [
          | inl c ↦ way-none conversions asker n before (mode, c, ne, apart)
          | inr c ↦ way-none requests asker n behind (mode, c, ne, apart)
        ]

pub cause-is-so : CauseIsSo
cause-is-so = record {
  requests = λ rebuild waiting l asker. right-cause rebuild waiting l.held l.conversions l.requests asker;
  converts = λ rebuild waiting l asker. subst (λ (cs : List Claim). IsRightCause rebuild waiting l.held cs asker (convert_cause rebuild waiting l asker.node asker.mode))
      (append-nil l.conversions) (right-cause rebuild waiting l.held l.conversions [] asker);
}
