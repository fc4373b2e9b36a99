-- A tree never answers that there is no room.
use Rattle.std.proofs.Common.{◌≡◌, ap, inl, inr, refl, List, [], ◌∷◌, Option, None, Some, Bool, true, false}
use Rattle.std.specs.Prelude.{ℕ, ⊤, ◌↔◌, if◌then◌else◌}
use Rattle.file_tree.specs.Tree.{Tree, file, dir, none, entry, look}
use Rattle.file_tree.specs.Names.{is_same_path, last_of, leads_to, parent_of}
use Rattle.file_tree.specs.Apply.{Answer, TakesSpace, Walked, Found, Refused, add, add_to, apply, found_or, list_reply, move_from, move_into, move_unless, put_at, read_reply, refusal_at, refusal_over, refuse, rename, rmdir, rmdir_at, stat_reply, step_to, truncate_at, unlink, unlink_at, walk, walk_from, write_at}
use Rattle.file_tree.specs.declared.call.Call.{Call}
use Rattle.file_tree.specs.declared.call.Call.TheVariants as call
use Rattle.file_tree.specs.declared.reply.Reply.{Reply}
use Rattle.file_tree.specs.declared.reply.Reply.TheVariants as reply
use Rattle.history_checks.specs.Checks.{MayAnswer}

-- another reply
abbrev pub IsOther : Reply → Type 0
IsOther r = r ≡ reply.NoSpace → ⊥

abbrev HasOther : Walked → Type 0
HasOther (Found t) = ⊤
HasOther (Refused r) = IsOther r

abbrev MayHaveOther : Option Reply → Type 0
MayHaveOther None = ⊤
MayHaveOther (Some r) = IsOther r

not_found : IsOther reply.NotFound
not_found e = cc

not_dir : IsOther reply.NotDir
not_dir e = cc

is_dir : IsOther reply.IsDir
is_dir e = cc

exists : IsOther reply.Exists
exists e = cc

not_empty : IsOther reply.NotEmpty
not_empty e = cc

inside : IsOther reply.Inside
inside e = cc

too_big : IsOther reply.TooBig
too_big e = cc

ok : IsOther reply.Ok
ok e = cc

-- ---- walks

found-other : (o : Option Tree) → HasOther (found_or reply.NotFound o)
found-other None = not_found
found-other (Some t) = tt

step-other : (w : Walked) (name : List ℕ) → HasOther w → HasOther (step_to w name)
step-other (Refused r) name h = h
step-other (Found (file bytes)) name h = not_dir
step-other (Found (dir es)) name h = found-other (look es name)

walk_from-other : (w : Walked) (path : List (List ℕ)) → HasOther w → HasOther (walk_from w path)
walk_from-other w [] h = h
walk_from-other w (n ∷ ns) h = walk_from-other (step_to w n) ns (step-other w n h)

walk-other : (t : Tree) (path : List (List ℕ)) → HasOther (walk t path)
walk-other t path = walk_from-other (Found t) path tt

-- ---- the rows of the table

abbrev put_or : Tree → List (List ℕ) → Tree → Option Tree → Answer
put_or t path new o = elim o [ None ↦ record { reply = reply.Ok; tree = put_at path new t } | Some there ↦ refuse reply.Exists t ]

add_there : (t : Tree) (path : List (List ℕ)) (new : Tree) (o : Option Tree) → IsOther (put_or t path new o).reply
add_there t path new None = ok
add_there t path new (Some u) = exists

add_to-other : (w : Walked) (t : Tree) (path : List (List ℕ)) (new : Tree) → HasOther w → IsOther (add_to w t path new).reply
add_to-other (Refused r) t path new h = h
add_to-other (Found (file bytes)) t path new h = not_dir
add_to-other (Found (dir es)) t path new h = add_there t path new (look es (last_of path))

add-other : (t : Tree) (path : List (List ℕ)) (new : Tree) → IsOther (add t path new).reply
add-other t [] new = exists
add-other t (n ∷ ns) new = add_to-other (walk t (parent_of (n ∷ ns))) t (n ∷ ns) new (walk-other t (parent_of (n ∷ ns)))

unlink_at-other : (w : Walked) (t : Tree) (path : List (List ℕ)) → HasOther w → IsOther (unlink_at w t path).reply
unlink_at-other (Refused r) t path h = h
unlink_at-other (Found (file bytes)) t path h = ok
unlink_at-other (Found (dir es)) t path h = is_dir

unlink-other : (t : Tree) (path : List (List ℕ)) → IsOther (unlink t path).reply
unlink-other t [] = is_dir
unlink-other t (n ∷ ns) = unlink_at-other (walk t (n ∷ ns)) t (n ∷ ns) (walk-other t (n ∷ ns))

rmdir_at-other : (w : Walked) (t : Tree) (path : List (List ℕ)) → HasOther w → IsOther (rmdir_at w t path).reply
rmdir_at-other (Refused r) t path h = h
rmdir_at-other (Found (file bytes)) t path h = not_dir
rmdir_at-other (Found (dir none)) t path h = ok
rmdir_at-other (Found (dir (entry n u es))) t path h = not_empty

rmdir-other : (t : Tree) (path : List (List ℕ)) → IsOther (rmdir t path).reply
rmdir-other t [] = inside
rmdir-other t (n ∷ ns) = rmdir_at-other (walk t (n ∷ ns)) t (n ∷ ns) (walk-other t (n ∷ ns))

read-other : (w : Walked) (at count : ℕ) → HasOther w → IsOther (read_reply w at count)
read-other (Refused r) at count h = h
read-other (Found (file bytes)) at count h = λ e. cc
read-other (Found (dir es)) at count h = is_dir

-- either answer is another
either : (b : Bool) (a c : Answer) → IsOther a.reply → IsOther c.reply → IsOther (if b then a else c).reply
either true a c h k = h
either false a c h k = k

write_at-other : (w : Walked) (t : Tree) (path : List (List ℕ)) (at : ℕ) (new : List ℕ) → HasOther w → IsOther (write_at w t path at new).reply
write_at-other (Refused r) t path at new h = h
write_at-other (Found (dir es)) t path at new h = is_dir
write_at-other (Found (file bytes)) t path at new h = either _ _ _ too_big ok

truncate_at-other : (w : Walked) (t : Tree) (path : List (List ℕ)) (size : ℕ) → HasOther w → IsOther (truncate_at w t path size).reply
truncate_at-other (Refused r) t path size h = h
truncate_at-other (Found (dir es)) t path size h = is_dir
truncate_at-other (Found (file bytes)) t path size h = either _ _ _ too_big ok

stat-other : (w : Walked) → HasOther w → IsOther (stat_reply w)
stat-other (Refused r) h = h
stat-other (Found (file bytes)) h = λ e. cc
stat-other (Found (dir es)) h = λ e. cc

list-other : (w : Walked) → HasOther w → IsOther (list_reply w)
list-other (Refused r) h = h
list-other (Found (file bytes)) h = not_dir
list-other (Found (dir es)) h = λ e. cc

refusal_over-other : (moved there : Tree) → MayHaveOther (refusal_over moved there)
refusal_over-other (file bytes) (file old) = tt
refusal_over-other (file bytes) (dir es) = is_dir
refusal_over-other (dir fs) (file old) = not_dir
refusal_over-other (dir fs) (dir none) = tt
refusal_over-other (dir fs) (dir (entry n u es)) = not_empty

refusal_at-other : (moved : Tree) (there : Option Tree) → MayHaveOther (refusal_at moved there)
refusal_at-other moved None = tt
refusal_at-other moved (Some there) = refusal_over-other moved there

move_unless-other : (o : Option Reply) (t : Tree) (from to : List (List ℕ)) (moved : Tree) → MayHaveOther o → IsOther (move_unless o t from to moved).reply
move_unless-other None t from to moved h = ok
move_unless-other (Some r) t from to moved h = h

move_into-other : (w : Walked) (t : Tree) (from to : List (List ℕ)) (moved : Tree) → HasOther w → IsOther (move_into w t from to moved).reply
move_into-other (Refused r) t from to moved h = h
move_into-other (Found (file bytes)) t from to moved h = not_dir
move_into-other (Found (dir es)) t from to moved h =
    move_unless-other (refusal_at moved (look es (last_of to))) t from to moved (refusal_at-other moved (look es (last_of to)))

move_from-other : (w : Walked) (t : Tree) (from to : List (List ℕ)) → HasOther w → IsOther (move_from w t from to).reply
move_from-other (Refused r) t from to h = h
move_from-other (Found moved) t from to h =
    either (is_same_path from to) _ _ ok (either (leads_to from to) _ _ inside (move_into-other (walk t (parent_of to)) t from to moved (walk-other t (parent_of to))))

rename-other : (t : Tree) (from to : List (List ℕ)) → IsOther (rename t from to).reply
rename-other t [] to = inside
rename-other t (n ∷ ns) [] = exists
rename-other t (n ∷ ns) (m ∷ ms) = move_from-other (walk t (n ∷ ns)) t (n ∷ ns) (m ∷ ms) (walk-other t (n ∷ ns))

-- no call on a tree is answered that there is no room
pub never_full : (c : Call) (t : Tree) → IsOther (apply c t).reply
never_full (call.Create p) t = add-other t p (file [])
never_full (call.Mkdir p) t = add-other t p (dir none)
never_full (call.Unlink p) t = unlink-other t p
never_full (call.Rmdir p) t = rmdir-other t p
never_full (call.Read p at count) t = read-other (walk t p) at count (walk-other t p)
never_full (call.Dread p at count) t = read-other (walk t p) at count (walk-other t p)
never_full (call.Write p at new) t = write_at-other (walk t p) t p at new (walk-other t p)
never_full (call.Truncate p size) t = truncate_at-other (walk t p) t p size (walk-other t p)
never_full (call.Stat p) t = stat-other (walk t p) (walk-other t p)
never_full (call.List p) t = list-other (walk t p) (walk-other t p)
never_full (call.Rename p q) t = rename-other t p q
never_full call.Sync t = ok

-- a call that may find no room may answer so exactly where the tree would take it
pub lacks : (c : Call) (t : Tree) → TakesSpace c → ((apply c t).reply ≡ reply.Ok) ↔ MayAnswer c reply.NoSpace t
lacks c t takes = (
  λ e. inr (record { no_room = refl; same = refl; taken = e; takes = takes }),
  λ a. elim a [
    | inl e ↦ absurd (never_full c t (ap (λ (b : Answer). b.reply) e))
    | inr l ↦ l.taken
  ],
)

-- and no other call may
pub never_lacks : (c : Call) (t : Tree) → (TakesSpace c → ⊥) → MayAnswer c reply.NoSpace t → ⊥
never_lacks c t other a = elim a [
  | inl e ↦ never_full c t (ap (λ (b : Answer). b.reply) e)
  | inr l ↦ other l.takes
]
