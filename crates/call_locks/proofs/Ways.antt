-- What holds of each want on a way, and which wants are on it.
use Rattle.std.proofs.Common.{◌≡◌, ℕ, zero, suc, ◌<◌, Bool, List, [], ◌∷◌, ◌++◌, inl, inr, subst, arith}
use Rattle.std.specs.Prelude.{All, Contains}
use Rattle.std.proofs.lemmas.Bool.{cases_lt}
use Rattle.std.proofs.lemmas.List.Elements.{All-nil, All-push, Contains-append_left, Contains-push}
use Rattle.glock_names.specs.declared.State.{State}
use Rattle.glock_names.specs.declared.State.TheVariants.{Sh, Ex}
use Rattle.call_locks.specs.declared.want.Want.{Want}
use Rattle.call_locks.specs.Wants.{want, shared_above, way_to}

-- ---- all of them

pub shared_all : (P : Want → Type 0) (s : Bool) (d : ℕ) → ((k : ℕ) → k < d → P (want s k Sh)) → All P (shared_above s d)
shared_all P s zero f = All-nil P
shared_all P s (suc d) f = All-push P (shared_above s d) (want s d Sh) (shared_all P s d (λ k h. f k (omega arith))) (f d (omega arith))

pub way_all : (P : Want → Type 0) (s : Bool) (d : ℕ) (st : State) → ((k : ℕ) → k < d → P (want s k Sh)) → P (want s d st) → All P (way_to s d st)
way_all P s d st f end = All-push P (shared_above s d) (want s d st) (shared_all P s d f) end

pub old_all : (P : Want → Type 0) (s : Bool) (d e : ℕ) → ((k : ℕ) → k < d → P (want s k Sh)) → P (want s d Ex) → P (want s e Ex) → All P (way_to s d Ex ++ want s e Ex ∷ [])
old_all P s d e f parent end = All-push P (way_to s d Ex) (want s e Ex) (way_all P s d Ex f parent) end

-- ---- one of them

pub shared_has : (s : Bool) (d k : ℕ) → k < d → Contains (shared_above s d) (want s k Sh)
shared_has s zero k h = absurd (omega arith)
shared_has s (suc d) k h = elim (cases_lt k d) [
  | inl l ↦ Contains-append_left (shared_above s d) (want s d Sh ∷ []) (want s k Sh) (shared_has s d k l)
  | inr g ↦ let e : d ≡ k = omega arith in subst (λ x. Contains (shared_above s d ++ want s d Sh ∷ []) (want s x Sh)) e (Contains-push (shared_above s d) (want s d Sh))
]

pub way_has : (s : Bool) (d : ℕ) (st : State) (k : ℕ) → k < d → Contains (way_to s d st) (want s k Sh)
way_has s d st k h = Contains-append_left (shared_above s d) (want s d st ∷ []) (want s k Sh) (shared_has s d k h)

pub way_end : (s : Bool) (d : ℕ) (st : State) → Contains (way_to s d st) (want s d st)
way_end s d st = Contains-push (shared_above s d) (want s d st)

pub old_parent : (s : Bool) (d e : ℕ) → Contains (way_to s d Ex ++ want s e Ex ∷ []) (want s d Ex)
old_parent s d e = Contains-append_left (way_to s d Ex) (want s e Ex ∷ []) (want s d Ex) (way_end s d Ex)

pub old_end : (s : Bool) (d e : ℕ) → Contains (way_to s d Ex ++ want s e Ex ∷ []) (want s e Ex)
old_end s d e = Contains-push (way_to s d Ex) (want s e Ex)

-- ---- none

pub push_some : (xs : List Want) (x : Want) → xs ++ x ∷ [] ≡ [] → ⊥
push_some [] x e = cc
push_some (y ∷ xs) x e = cc

pub append_some : (xs ys : List Want) (x : Want) → xs ++ (ys ++ x ∷ []) ≡ [] → ⊥
append_some [] ys x e = push_some ys x e
append_some (y ∷ xs) ys x e = cc
