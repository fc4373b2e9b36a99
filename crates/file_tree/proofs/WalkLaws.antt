-- Walks, and trees with another tree at a path or without what stood there.
use Rattle.std.proofs.Common.{◌≡◌, ℕ, ◌+◌, ◌≤◌, length, List, [], ◌∷◌, ◌++◌, Option, Some, None, refl, sym, ap, subst, ◌∙◌}
use Rattle.std.specs.Prelude.{nat_lt}
use Rattle.std.proofs.lemmas.Bool.{cond-false, le-ltb}
use Rattle.file_tree.specs.Tree.{Tree, file, dir, look, set, without}
use Rattle.file_tree.specs.Names.{parent_of, last_of}
use Rattle.file_tree.specs.Apply.{Answer, Walked, Found, Refused, found_or, step_to, walk_from, walk, entries_of, child_of, put_at, remove_at, file_limit, overwritten, resized, refuse, add, add_to, write_at, truncate_at}
use Rattle.file_tree.specs.Walks.{IsThere, IsRoomThere, bytes_of, exists_already, file_refusal, new_refusal}
use Rattle.file_tree.specs.declared.reply.Reply.{Reply}
use Rattle.file_tree.specs.declared.reply.Reply.TheVariants as reply
use Rattle.file_tree.proofs.Directories.{look-set_same, set_again}

-- ---- walks

pub walk_on : (w : Walked) (p q : List (List ℕ)) → walk_from w (p ++ q) ≡ walk_from (walk_from w p) q
walk_on w [] q = refl
walk_on w (n ∷ p) q = walk_on (step_to w n) p q

pub refused_on : (r : Reply) (p : List (List ℕ)) → walk_from (Refused r) p ≡ Refused r
refused_on r [] = refl
refused_on r (n ∷ p) = refused_on r p

pub not_found : (r : Reply) (t : Tree) → ◌≡◌ {A = Walked} (Refused r) (Found t) → ⊥
not_found r t e = cc

pub found_same : (t u : Tree) → Found t ≡ Found u → t ≡ u
found_same t u e = cc

-- where a walk went on, it had come there
pub there_first : (w : Walked) (p : List (List ℕ)) → IsThere (walk_from w p) → IsThere w
there_first (Found t) p there = tt
there_first (Refused r) p there = subst IsThere (refused_on r p) there

pub there_found : (w : Walked) (t : Tree) → w ≡ Found t → IsThere w
there_found w t e = subst IsThere (sym e) tt

-- what stands one name below
pub child_is : (t : Tree) (n : List ℕ) (u : Tree) → step_to (Found t) n ≡ Found u → child_of (look (entries_of t) n) ≡ u
child_is (file bytes) n u e = absurd (not_found _ _ e)
child_is (dir es) n u e = each (look es n) e
  where
    each : (o : Option Tree) → found_or reply.NotFound o ≡ Found u → child_of o ≡ u
    each None e = absurd (not_found _ _ e)
    each (Some v) e = found_same v u e

pub set_there : (t : Tree) (n : List ℕ) (u : Tree) → step_to (Found (dir (set (entries_of t) n u))) n ≡ Found u
set_there t n u = ap (found_or reply.NotFound) (look-set_same (entries_of t) n u)

-- a first step on a walk
pub record Steps (t : Tree) (n : List ℕ) (p : List (List ℕ)) (u : Tree) : Type 0 where
  pub below : Tree
  pub step : step_to (Found t) n ≡ Found below
  pub rest : walk below p ≡ Found u

pub steps : (t : Tree) (n : List ℕ) (p : List (List ℕ)) (u : Tree) → walk t (n ∷ p) ≡ Found u → Steps t n p u
steps t n p u e = each (step_to (Found t) n) refl e
  where
    each : (w : Walked) → step_to (Found t) n ≡ w → walk_from w p ≡ Found u → Steps t n p u
    each (Refused r) is e = absurd (not_found r u (sym (refused_on r p) ∙ e))
    each (Found c) is e = record { below = c; step = is; rest = e }

-- ---- a tree with another one at a path

pub walk_put : (p : List (List ℕ)) (u t : Tree) → walk (put_at p u t) p ≡ Found u
walk_put [] u t = refl
walk_put (n ∷ p) u t =
    let new = put_at p u (child_of (look (entries_of t) n)) in
    ap (λ w. walk_from w p) (set_there t n new) ∙ walk_put p u (child_of (look (entries_of t) n))

-- the last one that is put there stands there
pub put_again : (p : List (List ℕ)) (u v t : Tree) → put_at p v (put_at p u t) ≡ put_at p v t
put_again [] u v t = refl
put_again (n ∷ p) u v t =
    let c = child_of (look (entries_of t) n) in
    let es = set (entries_of t) n (put_at p u c) in
    ap (λ z. dir (set es n (put_at p v (child_of z)))) (look-set_same (entries_of t) n (put_at p u c))
    ∙ ap (λ z. dir (set es n z)) (put_again p u v c) ∙ ap dir (set_again (entries_of t) n (put_at p u c) (put_at p v c))

pub put_step : (t : Tree) (n : List ℕ) (p : List (List ℕ)) (u c : Tree) → step_to (Found t) n ≡ Found c → put_at (n ∷ p) u t ≡ dir (set (entries_of t) n (put_at p u c))
put_step t n p u c e = ap (λ z. dir (set (entries_of t) n (put_at p u z))) (child_is t n c e)

-- along a walk
pub put_on : (p q : List (List ℕ)) (u d t : Tree) → walk t p ≡ Found d → put_at (p ++ q) u t ≡ put_at p (put_at q u d) t
put_on [] q u d t e = ap (put_at q u) (found_same t d e)
put_on (n ∷ p) q u d t e =
    let s = steps t n p d e in
    put_step t n (p ++ q) u s.below s.step ∙ ap (λ z. dir (set (entries_of t) n z)) (put_on p q u d s.below s.rest) ∙ sym (put_step t n p (put_at q u d) s.below s.step)

remove_deeper : (m : List ℕ) (q : List (List ℕ)) (n : List ℕ) (t : Tree)
    → remove_at (m ∷ q ++ n ∷ []) t ≡ dir (set (entries_of t) m (remove_at (q ++ n ∷ []) (child_of (look (entries_of t) m))))
remove_deeper m [] n t = refl
remove_deeper m (k ∷ q) n t = refl

pub remove_on : (p : List (List ℕ)) (n : List ℕ) (d t : Tree) → walk t p ≡ Found d → remove_at (p ++ n ∷ []) t ≡ put_at p (dir (without (entries_of d) n)) t
remove_on [] n d t e = ap (λ z. dir (without (entries_of z) n)) (found_same t d e)
remove_on (m ∷ p) n d t e =
    let s = steps t m p d e in
    remove_deeper m p n t ∙ ap (λ z. dir (set (entries_of t) m (remove_at (p ++ n ∷ []) z))) (child_is t m s.below s.step)
    ∙ ap (λ z. dir (set (entries_of t) m z)) (remove_on p n d s.below s.rest) ∙ sym (put_step t m p (dir (without (entries_of d) n)) s.below s.step)

-- ---- a child that is taken out, changed and put back

pub rest_there : (t : Tree) (n : List ℕ) (p : List (List ℕ)) (c : Tree) → step_to (Found t) n ≡ Found c → IsThere (walk t (n ∷ p)) → IsThere (walk c p)
rest_there t n p c e there = subst (λ w. IsThere (walk_from w p)) e there

pub put_below : (t : Tree) (n : List ℕ) (p : List (List ℕ)) (u x c : Tree) → step_to (Found t) n ≡ Found c
    → dir (set (entries_of (dir (set (entries_of t) n x))) n (put_at p u c)) ≡ put_at (n ∷ p) u t
put_below t n p u x c e = ap dir (set_again (entries_of t) n x (put_at p u c)) ∙ sym (put_step t n p u c e)

pub back_below : (t : Tree) (n : List ℕ) (p : List (List ℕ)) (u c : Tree) → step_to (Found t) n ≡ Found c
    → put_at p u c ≡ c → dir (set (entries_of t) n c) ≡ t → put_at (n ∷ p) u t ≡ t
back_below t n p u c e below back = put_step t n p u c e ∙ ap (λ z. dir (set (entries_of t) n z)) below ∙ back

-- a child that comes back as it was
pub exchange_back : (t : Tree) (n : List ℕ) (x c : Tree) → dir (set (entries_of t) n c) ≡ t → dir (set (entries_of (dir (set (entries_of t) n x))) n c) ≡ t
exchange_back t n x c back = ap dir (set_again (entries_of t) n x c) ∙ back

-- ---- a path and its last name

pub parent_front : (p : List (List ℕ)) (n : List ℕ) → parent_of (p ++ n ∷ []) ≡ p
parent_front [] n = refl
parent_front (m ∷ []) n = refl
parent_front (m ∷ k ∷ p) n = ap (λ z. m ∷ z) (parent_front (k ∷ p) n)

pub last_front : (p : List (List ℕ)) (n : List ℕ) → last_of (p ++ n ∷ []) ≡ n
last_front [] n = refl
last_front (m ∷ []) n = refl
last_front (m ∷ k ∷ p) n = last_front (k ∷ p) n

-- what stands at a path stands at its last name in what stands at its front
pub last_step : (t : Tree) (p : List (List ℕ)) (n : List ℕ) (d : Tree) → walk t p ≡ Found d → walk t (p ++ n ∷ []) ≡ step_to (Found d) n
last_step t p n d e = walk_on (Found t) p (n ∷ []) ∙ ap (λ w. step_to w n) e

pub front_there : (t : Tree) (p : List (List ℕ)) (n : List ℕ) → IsThere (walk t (p ++ n ∷ [])) → IsThere (walk t p)
front_there t p n there = there_first (walk t p) (n ∷ []) (subst IsThere (walk_on (Found t) p (n ∷ [])) there)

-- ---- a directory that is taken out, gets a name or loses one, and is put back

pub room_there : (w : Walked) (n : List ℕ) → IsRoomThere w n → IsThere w
room_there (Found t) n room = tt
room_there (Refused r) n room = absurd room

pub put_new_is : (t : Tree) (p : List (List ℕ)) (n : List ℕ) (d u x : Tree) → walk t p ≡ Found d → put_at p (dir (set (entries_of d) n u)) (put_at p x t) ≡ put_at (p ++ n ∷ []) u t
put_new_is t p n d u x e = put_again p x (dir (set (entries_of d) n u)) t ∙ sym (put_on p (n ∷ []) u d t e)

pub put_back : (t : Tree) (p : List (List ℕ)) (d x : Tree) → put_at p d t ≡ t → put_at p d (put_at p x t) ≡ t
put_back t p d x back = put_again p x d t ∙ back

pub remove_is : (t : Tree) (p : List (List ℕ)) (n : List ℕ) (d x : Tree) → walk t p ≡ Found d → put_at p (dir (without (entries_of d) n)) (put_at p x t) ≡ remove_at (p ++ n ∷ []) t
remove_is t p n d x e = put_again p x (dir (without (entries_of d) n)) t ∙ sym (remove_on p n d t e)

-- ---- a file that is taken out, changed and put back

no_refusal : (r : Reply) → Some r ≡ None → ⊥
no_refusal r e = cc

pub file_there : (w : Walked) → file_refusal w ≡ None → IsThere w
file_there (Refused r) e = absurd (no_refusal r e)
file_there (Found t) e = tt

pub write_is : (t : Tree) (p : List (List ℕ)) (at : ℕ) (new : List ℕ) (d x t' : Tree) → walk t p ≡ Found d → file_refusal (walk t p) ≡ None → at + length new ≤ file_limit
    → t' ≡ put_at p (file (overwritten at new (bytes_of d))) (put_at p x t) → write_at (walk t p) t p at new ≡ record { reply = reply.Ok; tree = t' }
write_is t p at new (dir es) x t' is none fits e = absurd (no_refusal reply.IsDir (sym (ap file_refusal is) ∙ none))
write_is t p at new (file bytes) x t' is none fits e =
    ap (λ w. write_at w t p at new) is ∙ cond-false (nat_lt file_limit (at + length new)) _ _ (le-ltb file_limit (at + length new) fits)
    ∙ (λ i. record { reply = reply.Ok; tree = sym (e ∙ put_again p x (file (overwritten at new bytes)) t) i })

pub truncate_is : (t : Tree) (p : List (List ℕ)) (size : ℕ) (d x t' : Tree) → walk t p ≡ Found d → file_refusal (walk t p) ≡ None → size ≤ file_limit
    → t' ≡ put_at p (file (resized size (bytes_of d))) (put_at p x t) → truncate_at (walk t p) t p size ≡ record { reply = reply.Ok; tree = t' }
truncate_is t p size (dir es) x t' is none fits e = absurd (no_refusal reply.IsDir (sym (ap file_refusal is) ∙ none))
truncate_is t p size (file bytes) x t' is none fits e =
    ap (λ w. truncate_at w t p size) is ∙ cond-false (nat_lt file_limit size) _ _ (le-ltb file_limit size fits)
    ∙ (λ i. record { reply = reply.Ok; tree = sym (e ∙ put_again p x (file (resized size bytes)) t) i })

-- ---- a new name

new_refused : (w : Walked) (t new : Tree) (p : List (List ℕ)) (r : Reply) → new_refusal w (last_of p) ≡ Some r → add_to w t p new ≡ refuse r t
new_refused (Refused s) t new p r e = ap (λ z. refuse z t) (inside e)
  where
    inside : Some s ≡ Some r → s ≡ r
    inside e = cc
new_refused (Found (file bytes)) t new p r e = ap (λ z. refuse z t) (inside e)
  where
    inside : Some reply.NotDir ≡ Some r → reply.NotDir ≡ r
    inside e = cc
new_refused (Found (dir es)) t new p r e = each (look es (last_of p)) e
  where
    each : (o : Option Tree) → exists_already o ≡ Some r → ◌≡◌ {A = Answer} (elim o [ None ↦ record { reply = reply.Ok; tree = put_at p new t } | Some there ↦ refuse reply.Exists t ]) (refuse r t)
    each None e = cc
    each (Some u) e = ap (λ z. refuse z t) (inside e)
      where
        inside : Some reply.Exists ≡ Some r → reply.Exists ≡ r
        inside e = cc

new_taken : (w : Walked) (t new : Tree) (p : List (List ℕ)) → new_refusal w (last_of p) ≡ None → add_to w t p new ≡ record { reply = reply.Ok; tree = put_at p new t }
new_taken (Refused r) t new p e = absurd (no_refusal r e)
new_taken (Found (file bytes)) t new p e = absurd (no_refusal _ e)
new_taken (Found (dir es)) t new p e = each (look es (last_of p)) e
  where
    each : (o : Option Tree) → exists_already o ≡ None
        → ◌≡◌ {A = Answer} (elim o [ None ↦ record { reply = reply.Ok; tree = put_at p new t } | Some there ↦ refuse reply.Exists t ]) (record { reply = reply.Ok; tree = put_at p new t })
    each None e = refl
    each (Some u) e = cc

pub new_room : (w : Walked) (n : List ℕ) → new_refusal w n ≡ None → IsRoomThere w n
new_room (Refused r) n e = absurd (no_refusal r e)
new_room (Found (file bytes)) n e = absurd (no_refusal _ e)
new_room (Found (dir es)) n e = each (look es n) e
  where
    each : (o : Option Tree) → exists_already o ≡ None → o ≡ None
    each None e = refl
    each (Some u) e = cc

add_path : (t new : Tree) (p : List (List ℕ)) (n : List ℕ) → add t (p ++ n ∷ []) new ≡ add_to (walk t p) t (p ++ n ∷ []) new
add_path t new [] n = refl
add_path t new (m ∷ p) n = ap (λ q. add_to (walk t q) t (m ∷ p ++ n ∷ []) new) (parent_front (m ∷ p) n)

pub add_refused : (t new : Tree) (path p : List (List ℕ)) (n : List ℕ) (r : Reply) → path ≡ p ++ n ∷ [] → new_refusal (walk t p) n ≡ Some r → add t path new ≡ refuse r t
add_refused t new path p n r is e =
    ap (λ q. add t q new) is ∙ add_path t new p n ∙ new_refused (walk t p) t new (p ++ n ∷ []) r (ap (new_refusal (walk t p)) (last_front p n) ∙ e)

pub add_taken : (t new t' : Tree) (path p : List (List ℕ)) (n : List ℕ) → path ≡ p ++ n ∷ [] → new_refusal (walk t p) n ≡ None → t' ≡ put_at (p ++ n ∷ []) new t
    → add t path new ≡ record { reply = reply.Ok; tree = t' }
add_taken t new t' path p n is e put =
    ap (λ q. add t q new) is ∙ add_path t new p n ∙ new_taken (walk t p) t new (p ++ n ∷ []) (ap (new_refusal (walk t p)) (last_front p n) ∙ e)
    ∙ (λ i. record { reply = reply.Ok; tree = sym put i })
