-- Parents come first.
use Rattle.std.proofs.Common.{◌≡◌, ℕ, zero, suc, ◌+◌, ◌-◌, ◌<◌, Bool, true, false, List, [], ◌∷◌, ◌++◌, length, get_or, inl, inr, refl, sym, subst, arith}
use Rattle.std.specs.Prelude.{All, AllPairs}
use Rattle.std.proofs.lemmas.Bool.{cases_lt}
use Rattle.std.proofs.lemmas.List.{get_or_append_left, get_or-append_right, length-append}
use Rattle.std.proofs.lemmas.List.Quantifiers.{all_pairs_push}
use Rattle.file_tree.specs.Names.{parent_of}
use Rattle.file_tree.specs.declared.call.Call.TheVariants as call
use Rattle.glock_names.specs.declared.State.{State}
use Rattle.glock_names.specs.declared.State.TheVariants.{Sh, Df, Ex}
use Rattle.call_locks.specs.declared.want.Want.{Want}
use Rattle.call_locks.specs.Wants.{want, shared_above, way_to, at_new_name, at_old_name, at_move}
use Rattle.call_locks.specs.WantLaws.{ComesBefore, ParentsComeFirst}
use Rattle.call_locks.proofs.Ways.{shared_all, way_all, old_all}
use Rattle.call_locks.proofs.Paths.{parent_length}

pairs_none : AllPairs ComesBefore []
pairs_none i j d h k = absurd (omega arith)

pairs_append : (R : Want → Want → Type 0) (xs ys : List Want) → AllPairs R xs → AllPairs R ys → All (λ x. All (R x) ys) xs → AllPairs R (xs ++ ys)
pairs_append R xs ys f g h i j d lt below =
    let all : length (xs ++ ys) ≡ length xs + length ys = length-append xs ys in
    elim (cases_lt j (length xs)) [
      | inl a ↦
          let b : i < length xs = omega arith in
          subst (λ x. R x (get_or (xs ++ ys) j d)) (sym (get_or_append_left xs ys d i b))
          (subst (R (get_or xs i d)) (sym (get_or_append_left xs ys d j a)) (f i j d lt a))
      | inr a ↦
          let m : j - length xs < length ys = omega arith in
          subst (R (get_or (xs ++ ys) i d)) (sym (get_or-append_right xs ys (length xs) j d refl a)) (elim (cases_lt i (length xs)) [
            | inl b ↦ subst (λ x. R x (get_or ys (j - length xs) d)) (sym (get_or_append_left xs ys d i b)) (h i d b (j - length xs) d m)
            | inr b ↦ subst (λ x. R x (get_or ys (j - length xs) d)) (sym (get_or-append_right xs ys (length xs) i d refl b)) (g (i - length xs) (j - length xs) d (omega arith) m)
          ])
    ]

shared_rise : (s : Bool) (d : ℕ) → AllPairs ComesBefore (shared_above s d)
shared_rise s zero = pairs_none
shared_rise s (suc d) = all_pairs_push ComesBefore (shared_above s d) (want s d Sh) (shared_rise s d) (shared_all (λ w. ComesBefore w (want s d Sh)) s d (λ k h. inr (refl, h)))

way_rise : (s : Bool) (d : ℕ) (st : State) → AllPairs ComesBefore (way_to s d st)
way_rise s d st = all_pairs_push ComesBefore (shared_above s d) (want s d st) (shared_rise s d) (shared_all (λ w. ComesBefore w (want s d st)) s d (λ k h. inr (refl, h)))

old_rise : (s : Bool) (d e : ℕ) → d < e → AllPairs ComesBefore (way_to s d Ex ++ want s e Ex ∷ [])
old_rise s d e lt = all_pairs_push ComesBefore (way_to s d Ex) (want s e Ex) (way_rise s d Ex)
    (way_all (λ w. ComesBefore w (want s e Ex)) s d Ex (λ k h. inr (refl, omega arith)) (inr (refl, lt)))

at_rise : (s : Bool) (p : List (List ℕ)) → AllPairs ComesBefore (at_old_name s p)
at_rise s [] = pairs_none
at_rise s (n ∷ ns) = old_rise s (length (parent_of (n ∷ ns))) (length (n ∷ ns)) (omega (arith, parent_length n ns))

new_rise : (p : List (List ℕ)) → AllPairs ComesBefore (at_new_name p)
new_rise [] = pairs_none
new_rise (n ∷ ns) = way_rise false (length (parent_of (n ∷ ns))) Ex

-- the first path's before the second's
before : (k : ℕ) (st : State) (m : List ℕ) (ms : List (List ℕ)) → All (ComesBefore (want false k st)) (at_old_name true (m ∷ ms))
before k st m ms = old_all (ComesBefore (want false k st)) true (length (parent_of (m ∷ ms))) (length (m ∷ ms)) (λ l h. inl (refl, refl)) (inl (refl, refl)) (inl (refl, refl))

move_rise : (p q : List (List ℕ)) → AllPairs ComesBefore (at_move p q)
move_rise [] q = pairs_none
move_rise (n ∷ ns) [] = pairs_none
move_rise (n ∷ ns) (m ∷ ms) = pairs_append ComesBefore (at_old_name false (n ∷ ns)) (at_old_name true (m ∷ ms)) (at_rise false (n ∷ ns)) (at_rise true (m ∷ ms))
    (old_all (λ x. All (ComesBefore x) (at_old_name true (m ∷ ms))) false (length (parent_of (n ∷ ns))) (length (n ∷ ns)) (λ k h. before k Sh m ms) (before (length (parent_of (n ∷ ns))) Ex m ms) (before (length (n ∷ ns)) Ex m ms))

pub parents_first : ParentsComeFirst
parents_first (call.Create p) = new_rise p
parents_first (call.Mkdir p) = new_rise p
parents_first (call.Unlink p) = at_rise false p
parents_first (call.Rmdir p) = at_rise false p
parents_first (call.Read p at count) = way_rise false (length p) Sh
parents_first (call.Dread p at count) = way_rise false (length p) Df
parents_first (call.Write p at new) = way_rise false (length p) Ex
parents_first (call.Truncate p size) = way_rise false (length p) Ex
parents_first (call.Stat p) = way_rise false (length p) Sh
parents_first (call.List p) = way_rise false (length p) Sh
parents_first (call.Rename p q) = move_rise p q
parents_first call.Sync = pairs_none
