-- Lists of writes, plans and journals.
use Rattle.std.proofs.Common.{◌≡◌, ◌<◌, ◌⊎◌, ℕ, zero, suc, Bool, true, false, List, [], ◌∷◌, ◌++◌, length, Option, None, Some, get_or, refl, sym, ap, subst, ◌∙◌, inl, inr, arith}
use Rattle.std.specs.Prelude.{◌==◌, ◌||◌, ◌&&◌, nat_lt, find, slice_get}
use Rattle.std.specs.List.{AllByRecursion, list_any, list_all}
use Rattle.std.specs.Option.{option_map}
use Rattle.std.proofs.lemmas.Bool.{cases_Bool, cond-false, eqb-true}
use Rattle.std.proofs.lemmas.Bool.Decides.{nat_tests}
use Rattle.drafts.specs.declared.change.Written.{Written}
use Rattle.journal_scan.specs.Said.{logged}
use Rattle.log_layout.specs.Chunks.{Logged}
use Rattle.peer_replay.specs.Plans.{put_home}
use Rattle.replay_marks.specs.Marking.{has_block}
use Rattle.replay_marks.specs.declared.marks.Mark.{Mark}
use Rattle.replay_marks.specs.declared.marks.Mark.TheVariants.{Barred, Live, Open}

pub some_is : {A : Type 0} {x y : A} → ◌≡◌ {A = Option A} (Some x) (Some y) → x ≡ y
some_is e = cc

pub none_some : {A : Type 0} (x : A) → ◌≡◌ {A = Option A} None (Some x) → ⊥
none_some x e = cc

pub false_true : false ≡ true → ⊥
false_true e = cc

pub live_open : ◌≡◌ {A = Mark} Live Open → ⊥
live_open e = cc

pub barred_open : ◌≡◌ {A = Mark} Barred Open → ⊥
barred_open e = cc

pub live_barred : ◌≡◌ {A = Mark} Live Barred → ⊥
live_barred e = cc

pub open_barred : ◌≡◌ {A = Mark} Open Barred → ⊥
open_barred e = cc

pub open_live : ◌≡◌ {A = Mark} Open Live → ⊥
open_live e = cc

pub barred_live : ◌≡◌ {A = Mark} Barred Live → ⊥
barred_live e = cc

-- one more at the end
pub get_more : {X : Type 0} (xs : List X) (x : X) (j : ℕ) (y : X) → slice_get (xs ++ x ∷ []) j ≡ Some y → (slice_get xs j ≡ Some y) ⊎ ((j ≡ length xs) × (x ≡ y))
get_more [] x zero y is = inr (refl, some_is is)
get_more [] x (suc j) y is = absurd (none_some y is)
get_more (z ∷ xs) x zero y is = inl is
get_more (z ∷ xs) x (suc j) y is = elim (get_more xs x j y is) [
  | inl old ↦ inl old
  | inr new ↦ inr (let e : j ≡ length xs = new.0 in omega (arith, e), new.1)
]

pub any_at : {X : Type 0} (p : X → Bool) (xs : List X) (j : ℕ) (x : X) → slice_get xs j ≡ Some x → p x ≡ true → list_any p xs ≡ true
any_at p [] j x is passes = absurd (none_some x is)
any_at p (y ∷ xs) zero x is passes = ap (λ b. b || list_any p xs) (ap p (some_is is) ∙ passes)
any_at p (y ∷ xs) (suc j) x is passes = ap (λ b. p y || b) (any_at p xs j x is passes) ∙ or_true (p y)
  where
    or_true : (b : Bool) → (b || true) ≡ true
    or_true true = refl
    or_true false = refl

-- which one passes
pub record Passes {X : Type 0} (p : X → Bool) (xs : List X) : Type 0 where
  pub index : ℕ
  pub one : X
  pub there : slice_get xs index ≡ Some one
  pub passes : p one ≡ true

pub any_is : {X : Type 0} (p : X → Bool) (xs : List X) → list_any p xs ≡ true → Passes p xs
any_is p [] is = absurd (false_true is)
any_is p (x ∷ xs) is = elim (cases_Bool (p x)) [
  | inl here ↦ record { index = 0; one = x; there = refl; passes = here }
  | inr off ↦ let rest = any_is p xs (ap (λ b. b || list_any p xs) (sym off) ∙ is) in record { index = suc rest.index; one = rest.one; there = rest.there; passes = rest.passes }
]

pub any_append : {X : Type 0} (p : X → Bool) (xs : List X) (x : X) → list_any p (xs ++ x ∷ []) ≡ (list_any p xs || p x)
any_append p [] x = or_false (p x)
  where
    or_false : (b : Bool) → (b || false) ≡ b
    or_false true = refl
    or_false false = refl
any_append p (y ∷ xs) x = ap (λ b. p y || b) (any_append p xs x) ∙ shifted (p y) (list_any p xs) (p x)
  where
    shifted : (a b c : Bool) → (a || (b || c)) ≡ ((a || b) || c)
    shifted true b c = refl
    shifted false b c = refl

pub all_more : {X : Type 0} (P : X → Type 0) (xs : List X) (x : X) → AllByRecursion P xs → P x → AllByRecursion P (xs ++ x ∷ [])
all_more P [] x all one = (one, tt)
all_more P (y ∷ xs) x all one = (all.0, all_more P xs x all.1 one)

pub all_first : {X : Type 0} (P Q : X → Type 0) (xs : List X) → AllByRecursion (λ x. P x × Q x) xs → AllByRecursion P xs
all_first P Q [] all = tt
all_first P Q (x ∷ xs) all = (all.0.0, all_first P Q xs all.1)

-- what holds of each block that is written holds of one that is there
pub home_all : (P : ℕ → Type 0) (ws : List Written) (b : ℕ) → AllByRecursion (λ (w : Written). P w.block) ws → has_block ws b ≡ true → P b
home_all P [] b all is = absurd (false_true is)
home_all P (w ∷ ws) b all is = elim (cases_Bool (w.block == b)) [
  | inl same ↦ subst P (eqb-true w.block b same) all.0
  | inr other ↦ home_all P ws b all.1 (ap (λ t. t || has_block ws b) (sym other) ∙ is)
]

-- a block that something goes to is there
pub put_is_there : (ws : List Written) (b : ℕ) (e : Logged) → put_home ws b ≡ Some e → has_block ws b ≡ true
put_is_there [] b e is = absurd (none_some e is)
put_is_there (w ∷ ws) b e is = elim (cases_Bool (w.block == b)) [
  | inl same ↦ ap (λ t. t || has_block ws b) same
  | inr other ↦
      let rest = put_is_there ws b e (sym (ap (option_map logged) (cond-false (w.block == b) (Some w) (find (λ (v : Written). v.block == b) ws) other)) ∙ is) in
      ap (λ t. t || has_block ws b) other ∙ rest
]

and_first : (p q : Bool) → (p && q) ≡ true → p ≡ true
and_first true q e = refl
and_first false q e = absurd (false_true e)

and_second : (p q : Bool) → (p && q) ≡ true → q ≡ true
and_second true q e = e
and_second false q e = absurd (false_true e)

pub all_inside : (bs : List ℕ) (n : ℕ) → ((k d : ℕ) → k < length bs → get_or bs k d < n) → list_all (λ b. nat_lt b n) bs ≡ true
all_inside [] n each = refl
all_inside (b ∷ bs) n each =
    let low : b < n = each 0 0 (omega arith) in
    let test : nat_lt b n ≡ true = grind (arith, nat_tests, low) in
    ap (λ t. t && list_all (λ c. nat_lt c n) bs) test ∙ all_inside bs n (λ k d less. each (suc k) d (omega (arith, less)))

pub inside_each : (bs : List ℕ) (n : ℕ) → list_all (λ b. nat_lt b n) bs ≡ true → (k : ℕ) → k < length bs → get_or bs k 0 < n
inside_each [] n all k less = absurd (omega (arith, less))
inside_each (b ∷ bs) n all zero less = let here : nat_lt b n ≡ true = and_first (nat_lt b n) (list_all (λ c. nat_lt c n) bs) all in grind (arith, nat_tests, here)
inside_each (b ∷ bs) n all (suc k) less = inside_each bs n (and_second (nat_lt b n) (list_all (λ c. nat_lt c n) bs) all) k (omega (arith, less))
