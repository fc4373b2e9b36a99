-- With an inode each above it is wanted.
use Rattle.std.proofs.Common.{◌≡◌, ℕ, ◌+◌, ◌<◌, ◌≤◌, Bool, true, false, List, [], ◌∷◌, ◌++◌, length, inl, inr, subst, arith}
use Rattle.std.specs.Prelude.{All, Contains}
use Rattle.std.proofs.lemmas.Bool.{cases_lt}
use Rattle.std.proofs.lemmas.List.Elements.{All-nil, All-append, All-contains, Contains-append_left, Contains-append_right}
use Rattle.file_tree.specs.Names.{parent_of}
use Rattle.file_tree.specs.declared.call.Call.{Call}
use Rattle.file_tree.specs.declared.call.Call.TheVariants as call
use Rattle.glock_names.specs.declared.State.{State}
use Rattle.glock_names.specs.declared.State.TheVariants.{Sh, Df, Ex}
use Rattle.call_locks.specs.declared.want.Want.{Want}
use Rattle.call_locks.specs.Wants.{want, way_to, at_new_name, at_old_name, at_move, wanted}
use Rattle.call_locks.specs.WantLaws.{WaysAreWhole}
use Rattle.call_locks.proofs.Ways.{way_all, old_all, way_has, old_parent}
use Rattle.call_locks.proofs.Paths.{parent_length}

-- every inode above a depth is wanted
abbrev Reaches : List Want → Bool → ℕ → Type 0
Reaches xs s d = (k : ℕ) → k < d → (state : State) × Contains xs (want s k state)

abbrev IsWhole : List Want → Want → Type 0
IsWhole xs w = (k : ℕ) → k < w.depth → (state : State) × Contains xs (want w.second k state)

on_left : (xs ys : List Want) (s : Bool) (d : ℕ) → Reaches xs s d → Reaches (xs ++ ys) s d
on_left xs ys s d r k h = let e : (state : State) × Contains xs (want s k state) = r k h in (e.0, Contains-append_left xs ys (want s k e.0) e.1)

on_right : (xs ys : List Want) (s : Bool) (d : ℕ) → Reaches ys s d → Reaches (xs ++ ys) s d
on_right xs ys s d r k h = let e : (state : State) × Contains ys (want s k state) = r k h in (e.0, Contains-append_right xs ys (want s k e.0) e.1)

way_reaches : (s : Bool) (d : ℕ) (st : State) → Reaches (way_to s d st) s d
way_reaches s d st k h = (Sh, way_has s d st k h)

old_reaches : (s : Bool) (d e : ℕ) → e ≤ d + 1 → Reaches (way_to s d Ex ++ want s e Ex ∷ []) s e
old_reaches s d e le k h = elim (cases_lt k d) [
  | inl l ↦ on_left (way_to s d Ex) (want s e Ex ∷ []) s d (way_reaches s d Ex) k l
  | inr g ↦ let same : d ≡ k = omega arith in (Ex, subst (λ x. Contains (way_to s d Ex ++ want s e Ex ∷ []) (want s x Ex)) same (old_parent s d e))
]

each_way : (xs : List Want) (s : Bool) (d : ℕ) (st : State) → Reaches xs s d → All (IsWhole xs) (way_to s d st)
each_way xs s d st r = way_all (IsWhole xs) s d st (λ k h l lt. r l (omega arith)) r

each_old : (xs : List Want) (s : Bool) (d e : ℕ) → d ≤ e → Reaches xs s e → All (IsWhole xs) (way_to s d Ex ++ want s e Ex ∷ [])
each_old xs s d e le r = old_all (IsWhole xs) s d e (λ k h l lt. r l (omega arith)) (λ l lt. r l (omega arith)) r

way_whole : (s : Bool) (d : ℕ) (st : State) → All (IsWhole (way_to s d st)) (way_to s d st)
way_whole s d st = each_way (way_to s d st) s d st (way_reaches s d st)

at_whole : (xs : List Want) (s : Bool) (n : List ℕ) (ns : List (List ℕ)) → Reaches xs s (length (n ∷ ns)) → All (IsWhole xs) (at_old_name s (n ∷ ns))
at_whole xs s n ns r = each_old xs s (length (parent_of (n ∷ ns))) (length (n ∷ ns)) (omega (arith, parent_length n ns)) r

at_reaches : (s : Bool) (n : List ℕ) (ns : List (List ℕ)) → Reaches (at_old_name s (n ∷ ns)) s (length (n ∷ ns))
at_reaches s n ns = old_reaches s (length (parent_of (n ∷ ns))) (length (n ∷ ns)) (omega (arith, parent_length n ns))

new_whole : (p : List (List ℕ)) → All (IsWhole (at_new_name p)) (at_new_name p)
new_whole [] = All-nil (IsWhole [])
new_whole (n ∷ ns) = way_whole false (length (parent_of (n ∷ ns))) Ex

old_whole : (s : Bool) (p : List (List ℕ)) → All (IsWhole (at_old_name s p)) (at_old_name s p)
old_whole s [] = All-nil (IsWhole [])
old_whole s (n ∷ ns) = at_whole (at_old_name s (n ∷ ns)) s n ns (at_reaches s n ns)

move_whole : (p q : List (List ℕ)) → All (IsWhole (at_move p q)) (at_move p q)
move_whole [] q = All-nil (IsWhole [])
move_whole (n ∷ ns) [] = All-nil (IsWhole [])
move_whole (n ∷ ns) (m ∷ ms) =
    let xs = at_old_name false (n ∷ ns) in
    let ys = at_old_name true (m ∷ ms) in
    All-append (IsWhole (xs ++ ys)) xs ys (at_whole (xs ++ ys) false n ns (on_left xs ys false (length (n ∷ ns)) (at_reaches false n ns)))
    (at_whole (xs ++ ys) true m ms (on_right xs ys true (length (m ∷ ms)) (at_reaches true m ms)))

each_whole : (c : Call) → All (IsWhole (wanted c)) (wanted c)
each_whole (call.Create p) = new_whole p
each_whole (call.Mkdir p) = new_whole p
each_whole (call.Unlink p) = old_whole false p
each_whole (call.Rmdir p) = old_whole false p
each_whole (call.Read p at count) = way_whole false (length p) Sh
each_whole (call.Dread p at count) = way_whole false (length p) Df
each_whole (call.Write p at new) = way_whole false (length p) Ex
each_whole (call.Truncate p size) = way_whole false (length p) Ex
each_whole (call.Stat p) = way_whole false (length p) Sh
each_whole (call.List p) = way_whole false (length p) Sh
each_whole (call.Rename p q) = move_whole p q
each_whole call.Sync = All-nil (IsWhole [])

pub ways_whole : WaysAreWhole
ways_whole c w depth has lt = All-contains (IsWhole (wanted c)) (wanted c) w (each_whole c) has depth lt
