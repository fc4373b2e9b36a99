-- A call that doesn't change the tree by call and reply leaves it.
use Rattle.std.proofs.Common.{ℕ, ◌+◌, length, ◌≡◌, ◌⊎◌, inl, inr, Bool, true, false, ◌&&◌, List, [], ◌∷◌, Option, None, Some, refl, sym, ap, ◌∙◌, subst}
use Rattle.std.specs.Prelude.{not, if◌then◌else◌, nat_lt}
use Rattle.std.proofs.lemmas.Bool.{cond-true}
use Rattle.file_tree.specs.Tree.{Tree, file, dir, none, entry, look}
use Rattle.file_tree.specs.Names.{parent_of, last_of, leads_to, is_same_path}
use Rattle.file_tree.specs.Apply.{Answer, Walked, Found, Refused, walk, refuse, file_limit, put_at, overwritten, resized, add, add_to, unlink, unlink_at, rmdir, rmdir_at, write_at, truncate_at, rename, move_from, move_into, move_unless, refusal_at, apply}
use Rattle.file_tree.specs.declared.call.Call.{Call}
use Rattle.file_tree.specs.declared.call.Call.TheVariants as calls
use Rattle.file_tree.specs.declared.reply.Reply.{Reply}
use Rattle.file_tree.specs.declared.reply.Reply.TheVariants as replies
use Rattle.cluster_history.specs.Changes.{may_change, is_ok, OthersLeaveTheTree}

-- the tree is left, or the answer is Ok
abbrev Leaves : Answer → Tree → Type 0
Leaves a t = (a.tree ≡ t) ⊎ (a.reply ≡ replies.Ok)

added : (o : Option Tree) (t t' : Tree) → Leaves (elim o [ None ↦ record { reply = replies.Ok; tree = t' } | Some there ↦ refuse replies.Exists t ]) t
added None t t' = inr refl
added (Some u) t t' = inl refl

either : (b : Bool) (x y : Answer) (t : Tree) → Leaves x t → Leaves y t → Leaves (if b then x else y) t
either true x y t p q = p
either false x y t p q = q

add_to-leaves : (w : Walked) (t : Tree) (path : List (List ℕ)) (new : Tree) → Leaves (add_to w t path new) t
add_to-leaves (Refused r) t path new = inl refl
add_to-leaves (Found (file bytes)) t path new = inl refl
add_to-leaves (Found (dir es)) t path new = added (look es (last_of path)) t _

add-leaves : (t : Tree) (path : List (List ℕ)) (new : Tree) → Leaves (add t path new) t
add-leaves t [] new = inl refl
add-leaves t (n ∷ ns) new = add_to-leaves (walk t (parent_of (n ∷ ns))) t (n ∷ ns) new

unlink_at-leaves : (w : Walked) (t : Tree) (path : List (List ℕ)) → Leaves (unlink_at w t path) t
unlink_at-leaves (Refused r) t path = inl refl
unlink_at-leaves (Found (file bytes)) t path = inr refl
unlink_at-leaves (Found (dir es)) t path = inl refl

unlink-leaves : (t : Tree) (path : List (List ℕ)) → Leaves (unlink t path) t
unlink-leaves t [] = inl refl
unlink-leaves t (n ∷ ns) = unlink_at-leaves (walk t (n ∷ ns)) t (n ∷ ns)

rmdir_at-leaves : (w : Walked) (t : Tree) (path : List (List ℕ)) → Leaves (rmdir_at w t path) t
rmdir_at-leaves (Refused r) t path = inl refl
rmdir_at-leaves (Found (file bytes)) t path = inl refl
rmdir_at-leaves (Found (dir none)) t path = inr refl
rmdir_at-leaves (Found (dir (entry n u es))) t path = inl refl

rmdir-leaves : (t : Tree) (path : List (List ℕ)) → Leaves (rmdir t path) t
rmdir-leaves t [] = inl refl
rmdir-leaves t (n ∷ ns) = rmdir_at-leaves (walk t (n ∷ ns)) t (n ∷ ns)

write_at-leaves : (w : Walked) (t : Tree) (path : List (List ℕ)) (at : ℕ) (new : List ℕ) → Leaves (write_at w t path at new) t
write_at-leaves (Refused r) t path at new = inl refl
write_at-leaves (Found (dir es)) t path at new = inl refl
write_at-leaves (Found (file bytes)) t path at new = either (nat_lt file_limit (at + length new)) (refuse replies.TooBig t)
    (record { reply = replies.Ok; tree = put_at path (file (overwritten at new bytes)) t }) t (inl refl) (inr refl)

truncate_at-leaves : (w : Walked) (t : Tree) (path : List (List ℕ)) (size : ℕ) → Leaves (truncate_at w t path size) t
truncate_at-leaves (Refused r) t path size = inl refl
truncate_at-leaves (Found (dir es)) t path size = inl refl
truncate_at-leaves (Found (file bytes)) t path size = either (nat_lt file_limit size) (refuse replies.TooBig t)
    (record { reply = replies.Ok; tree = put_at path (file (resized size bytes)) t }) t (inl refl) (inr refl)

move_unless-leaves : (o : Option Reply) (t : Tree) (from to : List (List ℕ)) (m : Tree) → Leaves (move_unless o t from to m) t
move_unless-leaves None t from to m = inr refl
move_unless-leaves (Some r) t from to m = inl refl

move_into-leaves : (w : Walked) (t : Tree) (from to : List (List ℕ)) (m : Tree) → Leaves (move_into w t from to m) t
move_into-leaves (Refused r) t from to m = inl refl
move_into-leaves (Found (file bytes)) t from to m = inl refl
move_into-leaves (Found (dir es)) t from to m = move_unless-leaves (refusal_at m (look es (last_of to))) t from to m

move_from-leaves : (w : Walked) (t : Tree) (from to : List (List ℕ)) → Leaves (move_from w t from to) t
move_from-leaves (Refused r) t from to = inl refl
move_from-leaves (Found m) t from to = either (is_same_path from to) (refuse replies.Ok t)
    (if leads_to from to then refuse replies.Inside t else move_into (walk t (parent_of to)) t from to m) t (inl refl)
    (either (leads_to from to) (refuse replies.Inside t) (move_into (walk t (parent_of to)) t from to m) t (inl refl) (move_into-leaves (walk t (parent_of to)) t from to m))

rename-leaves : (t : Tree) (from to : List (List ℕ)) → Leaves (rename t from to) t
rename-leaves t [] to = inl refl
rename-leaves t (n ∷ ns) [] = inl refl
rename-leaves t (n ∷ ns) (m ∷ ms) = move_from-leaves (walk t (n ∷ ns)) t (n ∷ ns) (m ∷ ms)

apply-leaves : (c : Call) (t : Tree) → Leaves (apply c t) t
apply-leaves (calls.Create p) t = add-leaves t p (file [])
apply-leaves (calls.Mkdir p) t = add-leaves t p (dir none)
apply-leaves (calls.Unlink p) t = unlink-leaves t p
apply-leaves (calls.Rmdir p) t = rmdir-leaves t p
apply-leaves (calls.Read p at count) t = inl refl
apply-leaves (calls.Dread p at count) t = inl refl
apply-leaves (calls.Write p at new) t = write_at-leaves (walk t p) t p at new
apply-leaves (calls.Truncate p size) t = truncate_at-leaves (walk t p) t p size
apply-leaves (calls.Stat p) t = inl refl
apply-leaves (calls.List p) t = inl refl
apply-leaves (calls.Rename p q) t = rename-leaves t p q
apply-leaves calls.Sync t = inl refl

-- ---- a call that can't change the tree

not-false : (b : Bool) → not b ≡ false → b ≡ true
not-false true e = refl
not-false false e = sym e

never : {A : Type 0} → true ≡ false → A
never e = absurd (let f : true ≡ false = e in cc)

same_path : (w : Walked) (t : Tree) (from to : List (List ℕ)) → is_same_path from to ≡ true → (move_from w t from to).tree ≡ t
same_path (Refused r) t from to e = refl
same_path (Found m) t from to e = ap (λ (a : Answer). a.tree) (cond-true (is_same_path from to) _ _ e)

to_itself : (t : Tree) (from to : List (List ℕ)) → is_same_path from to ≡ true → (rename t from to).tree ≡ t
to_itself t [] to e = refl
to_itself t (n ∷ ns) [] e = refl
to_itself t (n ∷ ns) (m ∷ ms) e = same_path (walk t (n ∷ ns)) t (n ∷ ns) (m ∷ ms) e

still : (c : Call) (t : Tree) → may_change c ≡ false → (apply c t).tree ≡ t
still (calls.Create p) t e = never e
still (calls.Mkdir p) t e = never e
still (calls.Unlink p) t e = never e
still (calls.Rmdir p) t e = never e
still (calls.Read p at count) t e = refl
still (calls.Dread p at count) t e = refl
still (calls.Write p at new) t e = never e
still (calls.Truncate p size) t e = never e
still (calls.Stat p) t e = refl
still (calls.List p) t e = refl
still (calls.Rename p q) t e = to_itself t p q (not-false (is_same_path p q) e)
still calls.Sync t e = refl

pub others_leave : OthersLeaveTheTree
others_leave call reply t t' (inr lacks) e = lacks.same
others_leave call reply t t' (inl told) e = sym (ap (λ (a : Answer). a.tree) told) ∙ (elim (apply-leaves call t) [
  | inl left ↦ left
  | inr ok ↦ still call t (subst (λ r. (is_ok r && may_change call) ≡ false) (sym (ap (λ (a : Answer). a.reply) told) ∙ ok) e)
])
