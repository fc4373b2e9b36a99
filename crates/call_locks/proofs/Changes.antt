-- What is wanted exclusive, and what a call changes.
use Rattle.std.proofs.Common.{◌≡◌, ◌≢◌, ℕ, Bool, true, false, List, [], ◌∷◌, length, get_or, refl, ap, arith, lit<}
use Rattle.std.specs.Prelude.{All, Contains}
use Rattle.std.proofs.lemmas.List.Elements.{All-nil, All-cons, All-append, All-contains, Contains-append_left, Contains-append_right, Contains-get_or}
use Rattle.file_tree.specs.Names.{parent_of}
use Rattle.file_tree.specs.Apply.{Answer}
use Rattle.file_tree.specs.declared.call.Call.{Call}
use Rattle.file_tree.specs.declared.call.Call.TheVariants as call
use Rattle.file_tree.specs.declared.reply.Reply.TheVariants as reply
use Rattle.glock_names.specs.declared.State.{State}
use Rattle.glock_names.specs.declared.State.TheVariants.{Sh, Df, Ex}
use Rattle.call_locks.specs.declared.want.Want.{Want}
use Rattle.call_locks.specs.Wants.{want, way_to, at_new_name, at_old_name, at_move, wanted}
use Rattle.call_locks.specs.WantLaws.{changed_by, IsExclusive, IsChangedAt, OnlyChanges, ReadersShare, AllExclusive, AllChanges, NeedsNoTree}
use Rattle.call_locks.proofs.Ways.{way_all, old_all, way_end, old_parent, old_end, push_some, append_some}

-- ---- nothing else is wanted exclusive

abbrev IsRight : Call → Want → Type 0
IsRight c w = w.state ≡ Ex → IsChangedAt c w

not_shared : Sh ≡ Ex → ⊥
not_shared e = cc

not_deferred : Df ≡ Ex → ⊥
not_deferred e = cc

ends : (c : Call) (s : Bool) (path : List (List ℕ)) (st : State) → Contains (changed_by c) (s, path) → IsRight c (want s (length path) st)
ends c s path st has e = (path, has, refl)

right_way : (c : Call) (s : Bool) (path : List (List ℕ)) → Contains (changed_by c) (s, path) → All (IsRight c) (way_to s (length path) Ex)
right_way c s path has = way_all (IsRight c) s (length path) Ex (λ k h e. absurd (not_shared e)) (ends c s path Ex has)

shared_way : (c : Call) (s : Bool) (d : ℕ) → All (IsRight c) (way_to s d Sh)
shared_way c s d = way_all (IsRight c) s d Sh (λ k h e. absurd (not_shared e)) (λ e. absurd (not_shared e))

right_new : (c : Call) (p : List (List ℕ)) → Contains (changed_by c) (false, parent_of p) → All (IsRight c) (at_new_name p)
right_new c [] has = All-nil (IsRight c)
right_new c (n ∷ ns) has = right_way c false (parent_of (n ∷ ns)) has

right_old : (c : Call) (s : Bool) (p : List (List ℕ)) → Contains (changed_by c) (s, parent_of p) → Contains (changed_by c) (s, p) → All (IsRight c) (at_old_name s p)
right_old c s [] parent end = All-nil (IsRight c)
right_old c s (n ∷ ns) parent end = old_all (IsRight c) s (length (parent_of (n ∷ ns))) (length (n ∷ ns)) (λ k h e. absurd (not_shared e))
    (ends c s (parent_of (n ∷ ns)) Ex parent) (ends c s (n ∷ ns) Ex end)

right_move : (p q : List (List ℕ)) → All (IsRight (call.Rename p q)) (at_move p q)
right_move [] q = All-nil (IsRight (call.Rename [] q))
right_move (n ∷ ns) [] = All-nil (IsRight (call.Rename (n ∷ ns) []))
right_move (n ∷ ns) (m ∷ ms) =
    let c = call.Rename (n ∷ ns) (m ∷ ms) in
    All-append (IsRight c) (at_old_name false (n ∷ ns)) (at_old_name true (m ∷ ms))
    (right_old c false (n ∷ ns) (0, lit< tt, refl) (1, lit< tt, refl)) (right_old c true (m ∷ ms) (2, lit< tt, refl) (3, lit< tt, refl))

each_right : (c : Call) → All (IsRight c) (wanted c)
each_right (call.Create p) = right_new (call.Create p) p (0, lit< tt, refl)
each_right (call.Mkdir p) = right_new (call.Mkdir p) p (0, lit< tt, refl)
each_right (call.Unlink p) = right_old (call.Unlink p) false p (0, lit< tt, refl) (1, lit< tt, refl)
each_right (call.Rmdir p) = right_old (call.Rmdir p) false p (0, lit< tt, refl) (1, lit< tt, refl)
each_right (call.Read p at count) = shared_way (call.Read p at count) false (length p)
each_right (call.Dread p at count) = way_all (IsRight (call.Dread p at count)) false (length p) Df (λ k h e. absurd (not_shared e)) (λ e. absurd (not_deferred e))
each_right (call.Write p at new) = right_way (call.Write p at new) false p (0, lit< tt, refl)
each_right (call.Truncate p size) = right_way (call.Truncate p size) false p (0, lit< tt, refl)
each_right (call.Stat p) = shared_way (call.Stat p) false (length p)
each_right (call.List p) = shared_way (call.List p) false (length p)
each_right (call.Rename p q) = right_move p q
each_right call.Sync = All-nil (IsRight call.Sync)

pub only_changes : OnlyChanges
only_changes c w has e = All-contains (IsRight c) (wanted c) w (each_right c) has e

pub readers_share : ReadersShare
readers_share c none k d lt e =
    let at : IsChangedAt c (get_or (wanted c) k d) = only_changes c (get_or (wanted c) k d) (Contains-get_or (wanted c) k d lt) e in
    nowhere (changed_by c) none ((get_or (wanted c) k d).second, at.0) at.1
  where
    nowhere : (xs : List (Bool × List (List ℕ))) → xs ≡ [] → (x : Bool × List (List ℕ)) → Contains xs x → ⊥
    nowhere [] is x has = omega (arith, has.1)
    nowhere (y ∷ xs) is x has = cc

-- ---- who wants anything wants all exclusive that it changes

one : (c : Call) (x : Bool × List (List ℕ)) → IsExclusive c x → All (IsExclusive c) (x ∷ [])
one c x is = All-cons (IsExclusive c) x [] is (All-nil (IsExclusive c))

two : (c : Call) (x y : Bool × List (List ℕ)) → IsExclusive c x → IsExclusive c y → All (IsExclusive c) (x ∷ y ∷ [])
two c x y is ys = All-cons (IsExclusive c) x (y ∷ []) is (one c y ys)

new_changes : (c : Call) (p : List (List ℕ)) → wanted c ≡ at_new_name p → wanted c ≢ [] → All (IsExclusive c) ((false, parent_of p) ∷ [])
new_changes c [] is some = absurd (some is)
new_changes c (n ∷ ns) is some = one c (false, parent_of (n ∷ ns)) (rw is (way_end false (length (parent_of (n ∷ ns))) Ex))

old_changes : (c : Call) (p : List (List ℕ)) → wanted c ≡ at_old_name false p → wanted c ≢ [] → All (IsExclusive c) ((false, parent_of p) ∷ (false, p) ∷ [])
old_changes c [] is some = absurd (some is)
old_changes c (n ∷ ns) is some =
    let d = length (parent_of (n ∷ ns)) in
    two c (false, parent_of (n ∷ ns)) (false, n ∷ ns) (rw is (old_parent false d (length (n ∷ ns)))) (rw is (old_end false d (length (n ∷ ns))))

move_changes : (p q : List (List ℕ)) → wanted (call.Rename p q) ≢ [] → All (IsExclusive (call.Rename p q)) (changed_by (call.Rename p q))
move_changes [] q some = absurd (some refl)
move_changes (n ∷ ns) [] some = absurd (some refl)
move_changes (n ∷ ns) (m ∷ ms) some =
    let c = call.Rename (n ∷ ns) (m ∷ ms) in
    let d = length (parent_of (n ∷ ns)) in
    let e = length (parent_of (m ∷ ms)) in
    let xs = at_old_name false (n ∷ ns) in
    let ys = at_old_name true (m ∷ ms) in
    All-append (IsExclusive c) ((false, parent_of (n ∷ ns)) ∷ (false, n ∷ ns) ∷ []) ((true, parent_of (m ∷ ms)) ∷ (true, m ∷ ms) ∷ [])
    (two c (false, parent_of (n ∷ ns)) (false, n ∷ ns) (Contains-append_left xs ys (want false d Ex) (old_parent false d (length (n ∷ ns))))
    (Contains-append_left xs ys (want false (length (n ∷ ns)) Ex) (old_end false d (length (n ∷ ns)))))
    (two c (true, parent_of (m ∷ ms)) (true, m ∷ ms) (Contains-append_right xs ys (want true e Ex) (old_parent true e (length (m ∷ ms))))
    (Contains-append_right xs ys (want true (length (m ∷ ms)) Ex) (old_end true e (length (m ∷ ms)))))

pub all_exclusive : AllExclusive
all_exclusive (call.Create p) some = new_changes (call.Create p) p refl some
all_exclusive (call.Mkdir p) some = new_changes (call.Mkdir p) p refl some
all_exclusive (call.Unlink p) some = old_changes (call.Unlink p) p refl some
all_exclusive (call.Rmdir p) some = old_changes (call.Rmdir p) p refl some
all_exclusive (call.Read p at count) some = All-nil (IsExclusive (call.Read p at count))
all_exclusive (call.Dread p at count) some = All-nil (IsExclusive (call.Dread p at count))
all_exclusive (call.Write p at new) some = one (call.Write p at new) (false, p) (way_end false (length p) Ex)
all_exclusive (call.Truncate p size) some = one (call.Truncate p size) (false, p) (way_end false (length p) Ex)
all_exclusive (call.Stat p) some = All-nil (IsExclusive (call.Stat p))
all_exclusive (call.List p) some = All-nil (IsExclusive (call.List p))
all_exclusive (call.Rename p q) some = move_changes p q some
all_exclusive call.Sync some = All-nil (IsExclusive call.Sync)

-- ---- who wants nothing needs no tree

pub needs_no_tree : NeedsNoTree
needs_no_tree (call.Create []) none = (reply.Exists, λ t. refl)
needs_no_tree (call.Create (n ∷ ns)) none = absurd (push_some _ _ none)
needs_no_tree (call.Mkdir []) none = (reply.Exists, λ t. refl)
needs_no_tree (call.Mkdir (n ∷ ns)) none = absurd (push_some _ _ none)
needs_no_tree (call.Unlink []) none = (reply.IsDir, λ t. refl)
needs_no_tree (call.Unlink (n ∷ ns)) none = absurd (push_some _ _ none)
needs_no_tree (call.Rmdir []) none = (reply.Inside, λ t. refl)
needs_no_tree (call.Rmdir (n ∷ ns)) none = absurd (push_some _ _ none)
needs_no_tree (call.Read p at count) none = absurd (push_some _ _ none)
needs_no_tree (call.Dread p at count) none = absurd (push_some _ _ none)
needs_no_tree (call.Write p at new) none = absurd (push_some _ _ none)
needs_no_tree (call.Truncate p size) none = absurd (push_some _ _ none)
needs_no_tree (call.Stat p) none = absurd (push_some _ _ none)
needs_no_tree (call.List p) none = absurd (push_some _ _ none)
needs_no_tree (call.Rename [] q) none = (reply.Inside, λ t. refl)
needs_no_tree (call.Rename (n ∷ ns) []) none = (reply.Exists, λ t. refl)
needs_no_tree (call.Rename (n ∷ ns) (m ∷ ms)) none = absurd (append_some _ _ _ none)
needs_no_tree call.Sync none = (reply.Ok, λ t. refl)

-- so where the tree isn't as before all that changes is wanted exclusive
pub all_changes : AllChanges
all_changes c t changes = all_exclusive c (λ none. changes (ap (λ (a : Answer). a.tree) ((needs_no_tree c none).1 t)))
