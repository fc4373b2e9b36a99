-- The wants at a name, by how many names its path has; and that wants lie on paths.
use Rattle.std.proofs.Common.{◌≡◌, ℕ, suc, ◌-◌, ◌<◌, ◌≤◌, Bool, true, false, List, [], ◌∷◌, ◌++◌, length, refl, sym, ap, ◌∙◌, arith, append-nil, append_assoc, Result, Ok, Err}
use Rattle.std.specs.Prelude.{All, OnOk}
use Rattle.std.proofs.lemmas.List.Elements.{All-nil, All-append}
use Rattle.file_tree.specs.Names.{parent_of, path_length}
use Rattle.file_tree.specs.declared.call.Call.{Call}
use Rattle.file_tree.specs.declared.call.Call.TheVariants as call
use Rattle.glock_names.specs.declared.State.TheVariants.{Sh, Df, Ex}
use Rattle.call_locks.specs.declared.want.Want.{Want}
use Rattle.call_locks.specs.Wants.{want, way_to, at_new_name, at_old_name, at_move}
use Rattle.call_locks.specs.WantLaws.{path_of, LieOnPaths}
use Rattle.call_locks.proofs.Ways.{way_all, old_all}

-- a directory's path has one name less than that of a name in it
pub parent_length : (n : List ℕ) (ns : List (List ℕ)) → length (parent_of (n ∷ ns)) ≡ length ns
parent_length n [] = refl
parent_length n (m ∷ ns) = ap suc (parent_length m ns)

-- a path has no more names than bytes
pub few_names : (p : List (List ℕ)) → length p ≤ path_length p
few_names [] = omega arith
few_names (n ∷ ns) = omega (arith, few_names ns)

-- ---- what the code puts behind what it has

some_new : (p : List (List ℕ)) (old new : List Want) (d : ℕ) → d ≡ length p → (d ≡ 0 → ⊥) → new ≡ old ++ way_to false (d - 1) Ex → new ≡ old ++ at_new_name p
some_new [] old new d is h e = absurd (h is)
some_new (n ∷ ns) old new d is h e =
    let same : d - 1 ≡ length (parent_of (n ∷ ns)) = omega (arith, parent_length n ns) in
    e ∙ ap (λ k. old ++ way_to false k Ex) same

pub ok_new : {A E : Type 0} (r : Result A E) (p : List (List ℕ)) (old new : List Want) (d : ℕ) → d ≡ length p → (d ≡ 0 → ⊥) → OnOk r (new ≡ old ++ way_to false (d - 1) Ex) → OnOk r (new ≡ old ++ at_new_name p)
ok_new (Ok a) p old new d is h e = some_new p old new d is h e
ok_new (Err f) p old new d is h e = e

pub some_old : (s : Bool) (p : List (List ℕ)) (old : List Want) (d : ℕ) → d ≡ length p → (d ≡ 0 → ⊥) → (old ++ way_to s (d - 1) Ex) ++ want s d Ex ∷ [] ≡ old ++ at_old_name s p
some_old s [] old d is h = absurd (h is)
some_old s (n ∷ ns) old d is h =
    let same : d - 1 ≡ length (parent_of (n ∷ ns)) = omega (arith, parent_length n ns) in
    append_assoc old (way_to s (d - 1) Ex) (want s d Ex ∷ []) ∙ ap (λ k. old ++ (way_to s k Ex ++ want s d Ex ∷ [])) same
    ∙ ap (λ k. old ++ (way_to s (length (parent_of (n ∷ ns))) Ex ++ want s k Ex ∷ [])) is

pub no_from : (p q : List (List ℕ)) (old : List Want) → length p ≡ 0 → old ≡ old ++ at_move p q
no_from [] q old h = sym (append-nil old)
no_from (n ∷ ns) q old h = absurd (omega arith)

pub no_to : (p q : List (List ℕ)) (old : List Want) → length q ≡ 0 → old ≡ old ++ at_move p q
no_to [] q old h = sym (append-nil old)
no_to (n ∷ ns) [] old h = sym (append-nil old)
no_to (n ∷ ns) (m ∷ ms) old h = absurd (omega arith)

pub some_move : (p q : List (List ℕ)) (old : List Want) → 0 < length p → 0 < length q → (old ++ at_old_name false p) ++ at_old_name true q ≡ old ++ at_move p q
some_move [] q old h k = absurd (omega arith)
some_move (n ∷ ns) [] old h k = absurd (omega arith)
some_move (n ∷ ns) (m ∷ ms) old h k = append_assoc old (at_old_name false (n ∷ ns)) (at_old_name true (m ∷ ms))

-- ---- wants lie on paths

abbrev OnPath : Call → Want → Type 0
OnPath c w = w.depth ≤ length (path_of c w.second)

on_new : (c : Call) (p : List (List ℕ)) → path_of c false ≡ p → All (OnPath c) (at_new_name p)
on_new c [] is = All-nil (OnPath c)
on_new c (n ∷ ns) is = way_all (OnPath c) false (length (parent_of (n ∷ ns))) Ex (λ k h. omega (arith, parent_length n ns, ap length is)) (omega (arith, parent_length n ns, ap length is))

on_old : (c : Call) (s : Bool) (p : List (List ℕ)) → path_of c s ≡ p → All (OnPath c) (at_old_name s p)
on_old c s [] is = All-nil (OnPath c)
on_old c s (n ∷ ns) is = old_all (OnPath c) s (length (parent_of (n ∷ ns))) (length (n ∷ ns))
    (λ k h. omega (arith, parent_length n ns, ap length is)) (omega (arith, parent_length n ns, ap length is)) (omega (arith, ap length is))

on_move : (c : Call) (p q : List (List ℕ)) → path_of c false ≡ p → path_of c true ≡ q → All (OnPath c) (at_move p q)
on_move c [] q is js = All-nil (OnPath c)
on_move c (n ∷ ns) [] is js = All-nil (OnPath c)
on_move c (n ∷ ns) (m ∷ ms) is js = All-append (OnPath c) (at_old_name false (n ∷ ns)) (at_old_name true (m ∷ ms)) (on_old c false (n ∷ ns) is) (on_old c true (m ∷ ms) js)

pub lie_on_paths : LieOnPaths
lie_on_paths (call.Create p) = on_new (call.Create p) p refl
lie_on_paths (call.Mkdir p) = on_new (call.Mkdir p) p refl
lie_on_paths (call.Unlink p) = on_old (call.Unlink p) false p refl
lie_on_paths (call.Rmdir p) = on_old (call.Rmdir p) false p refl
lie_on_paths (call.Read p at count) = way_all (OnPath (call.Read p at count)) false (length p) Sh (λ k h. omega arith) (omega arith)
lie_on_paths (call.Dread p at count) = way_all (OnPath (call.Dread p at count)) false (length p) Df (λ k h. omega arith) (omega arith)
lie_on_paths (call.Write p at new) = way_all (OnPath (call.Write p at new)) false (length p) Ex (λ k h. omega arith) (omega arith)
lie_on_paths (call.Truncate p size) = way_all (OnPath (call.Truncate p size)) false (length p) Ex (λ k h. omega arith) (omega arith)
lie_on_paths (call.Stat p) = way_all (OnPath (call.Stat p)) false (length p) Sh (λ k h. omega arith) (omega arith)
lie_on_paths (call.List p) = way_all (OnPath (call.List p)) false (length p) Sh (λ k h. omega arith) (omega arith)
lie_on_paths (call.Rename p q) = on_move (call.Rename p q) p q refl refl
lie_on_paths call.Sync = All-nil (OnPath call.Sync)
