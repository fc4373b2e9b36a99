-- What a move comes to: step by step down to where its paths part, and there.
use Rattle.std.proofs.Common.{◌≡◌, ◌≢◌, ℕ, true, false, List, [], ◌∷◌, ◌++◌, Option, Some, None, refl, sym, ap, subst, ◌∙◌, ◌&&◌}
use Rattle.std.proofs.lemmas.Slice.Eq.{bytes_eq-Decides}
use Rattle.std.specs.Prelude.{MatchOption}
use Rattle.std.specs.Str.{bytes_eq}
use Rattle.file_tree.specs.Tree.{Tree, Entries, file, dir, none, entry, look, set, without}
use Rattle.file_tree.specs.Held.{NamesRise}
use Rattle.file_tree.specs.Names.{parent_of, last_of, leads_to}
use Rattle.file_tree.specs.Apply.{Walked, Found, Refused, found_or, step_to, walk_from, walk, entries_of, child_of, put_at, remove_at, refusal_over, refusal_at, refuse, move_unless, move_into, move_from, rename}
use Rattle.file_tree.specs.Walks.{IsThere, IsDirThere, IsRoomThere, HasRoom, stands, made, MayMove, PartAtOnce, is_there, empty_refusal, target_refusal}
use Rattle.file_tree.specs.declared.reply.Reply.{Reply}
use Rattle.file_tree.specs.declared.reply.Reply.TheVariants as reply
use Rattle.file_tree.proofs.Directories.{look-set_same, look-set_other, look-without_other, set_again, set_past_without, set_past_set}
use Rattle.file_tree.proofs.WalkLaws.{child_is, rest_there, put_again, walk_put, refused_on, not_found, found_same, there_found, walk_on, parent_front, last_front}

-- ---- the paths part at once

-- what stands at the first path stands there with another tree at the second one
pub apart_walk : (es : Entries) (n m : List ℕ) (p q : List (List ℕ)) (x : Tree) → m ≢ n → walk (put_at (m ∷ q) x (dir es)) (n ∷ p) ≡ walk (dir es) (n ∷ p)
apart_walk es n m p q x d =
    ap (λ o. walk_from (found_or reply.NotFound o) p) (look-set_other es m n (put_at q x (child_of (look es m))) (λ e. d (sym e)))

-- and what stands at the second one with the first one's taken out
pub removed_walk : (es : Entries) (n m : List ℕ) (p q : List (List ℕ)) → m ≢ n → walk (remove_at (n ∷ p) (dir es)) (m ∷ q) ≡ walk (dir es) (m ∷ q)
removed_walk es n m [] q d = ap (λ o. walk_from (found_or reply.NotFound o) q) (look-without_other es n m d)
removed_walk es n m (k ∷ p) q d =
    ap (λ o. walk_from (found_or reply.NotFound o) q) (look-set_other es n m (remove_at (k ∷ p) (child_of (look es n))) d)

-- what is put at the second path to make room doesn't matter
pub put_past_remove : (es : Entries) (n m : List ℕ) (p q : List (List ℕ)) (x u : Tree) → NamesRise es → m ≢ n
    → put_at (m ∷ q) u (remove_at (n ∷ p) (put_at (m ∷ q) x (dir es))) ≡ put_at (m ∷ q) u (remove_at (n ∷ p) (dir es))
put_past_remove es n m [] q x u rise d =
    let c = child_of (look es m) in
    let a = put_at q x c in
    let more = without (set es m a) n in
    ap (λ o. dir (set more m (put_at q u (child_of o)))) (look-without_other (set es m a) n m d ∙ look-set_same es m a)
    ∙ ap (λ z. dir (set more m z)) (put_again q x u c)
    ∙ ap dir (set_past_without es n m a (put_at q u c) rise d)
    ∙ sym (ap (λ o. dir (set (without es n) m (put_at q u (child_of o)))) (look-without_other es n m d))
put_past_remove es n m (k ∷ p) q x u rise d =
    let c = child_of (look es m) in
    let a = put_at q x c in
    let b = remove_at (k ∷ p) (child_of (look es n)) in
    let more = set (set es m a) n b in
    ap (λ o. put_at (m ∷ q) u (dir (set (set es m a) n (remove_at (k ∷ p) (child_of o))))) (look-set_other es m n a (λ e. d (sym e)))
    ∙ ap (λ o. dir (set more m (put_at q u (child_of o)))) (look-set_other (set es m a) n m b d ∙ look-set_same es m a)
    ∙ ap (λ z. dir (set more m z)) (put_again q x u c)
    ∙ ap dir (set_past_set es n m a b (put_at q u c) rise d)
    ∙ sym (ap (λ o. dir (set (set es n b) m (put_at q u (child_of o)))) (look-set_other es n m b d))

-- ---- the paths go on together

true_false : true ≡ false → ⊥
true_false e = cc

-- a move one name further down is a move there
pub move_step : (t : Tree) (n : List ℕ) (p q : List (List ℕ)) (u x c : Tree) → step_to (Found t) n ≡ Found c → leads_to p q ≡ false
    → dir (set (entries_of (dir (set (entries_of t) n x))) n (put_at q u (remove_at p c))) ≡ put_at (n ∷ q) u (remove_at (n ∷ p) t)
move_step t n [] q u x c e apart = absurd (true_false apart)
move_step t n (k ∷ p) q u x c e apart =
    let es = entries_of t in
    let gone = remove_at (k ∷ p) c in
    ap dir (set_again es n x (put_at q u gone))
    ∙ sym (ap dir (set_again es n gone (put_at q u gone)))
    ∙ sym (ap (λ o. dir (set (set es n gone) n (put_at q u (child_of o)))) (look-set_same es n gone))
    ∙ sym (ap (λ z. put_at (n ∷ q) u (dir (set es n (remove_at (k ∷ p) z)))) (child_is t n c e))

same_names : (n : List ℕ) → bytes_eq n n ≡ true
same_names n = (bytes_eq-Decides n n).1 refl

-- something stands below a directory alone
dir_above : (c : Tree) (k : List ℕ) (p : List (List ℕ)) → IsThere (walk c (k ∷ p)) → IsDirThere (Found c)
dir_above (dir es) k p there = tt
dir_above (file bytes) k p there = absurd (subst IsThere (refused_on reply.NotDir p) there)

parent_below : (t : Tree) (n : List ℕ) (p q : List (List ℕ)) (c : Tree) → step_to (Found t) n ≡ Found c → leads_to p q ≡ false → IsThere (walk c p)
    → IsDirThere (walk t (parent_of (n ∷ q))) → IsDirThere (walk c (parent_of q))
parent_below t n [] q c e apart there is = absurd (true_false apart)
parent_below t n (k ∷ p) [] c e apart there is = dir_above c k p there
parent_below t n (k ∷ p) (m ∷ q) c e apart there is = subst (λ w. IsDirThere (walk_from w (parent_of (m ∷ q)))) e is

pub may_below : (t : Tree) (n : List ℕ) (p q : List (List ℕ)) (c : Tree) → step_to (Found t) n ≡ Found c → MayMove t (n ∷ p) (n ∷ q) → MayMove c p q
may_below t n p q c e may =
    let there = rest_there t n p c e may.there in
    let apart : leads_to p q ≡ false = sym (ap (λ b. b && leads_to p q) (same_names n)) ∙ may.apart in
    record {
      there = there;
      apart = apart;
      parent = parent_below t n p q c e apart there may.parent;
      free = λ moved stood f g. may.free moved stood (ap (λ w. walk_from w p) e ∙ f) (ap (λ w. walk_from w q) e ∙ g);
    }

-- two paths that go on with one name
pub record GoOn (t : Tree) (from to : List (List ℕ)) (n : List ℕ) (p q : List (List ℕ)) (c : Tree) : Type 0 where
  pub source : from ≡ n ∷ p
  pub target : to ≡ n ∷ q
  pub step : step_to (Found t) n ≡ Found c
  pub may : MayMove t from to

pub go_below : {t : Tree} {from to : List (List ℕ)} {n : List ℕ} {p q : List (List ℕ)} {c : Tree} → GoOn t from to n p q c → MayMove c p q
go_below {t = t} {to = to} {n = n} {p = p} {q = q} {c = c} on =
    may_below t n p q c on.step (subst (λ x. MayMove t (n ∷ p) x) on.target (subst (λ x. MayMove t x to) on.source on.may))

pub go_found : {t : Tree} {from to : List (List ℕ)} {n : List ℕ} {p q : List (List ℕ)} {c : Tree} → GoOn t from to n p q c → (u : Tree) → walk t from ≡ Found u → walk c p ≡ Found u
go_found {t = t} {p = p} on u e = sym (ap (walk t) on.source ∙ ap (λ w. walk_from w p) on.step) ∙ e

pub go_moved : {t : Tree} {from to : List (List ℕ)} {n : List ℕ} {p q : List (List ℕ)} {c : Tree} → GoOn t from to n p q c → (u x : Tree)
    → dir (set (entries_of (dir (set (entries_of t) n x))) n (put_at q u (remove_at p c))) ≡ put_at to u (remove_at from t)
go_moved {t = t} {n = n} {p = p} {q = q} {c = c} on u x =
    move_step t n p q u x c on.step (go_below on).apart ∙ (λ i. put_at (sym on.target i) u (remove_at (sym on.source i) t))

-- ---- nothing is moved over what it lies in

pub found_there : (w : Walked) → IsThere w → (t : Tree) × (w ≡ Found t)
found_there (Found t) there = (t, refl)
found_there (Refused r) there = absurd there

refused_over : (moved : Tree) (n : List ℕ) (u : Tree) (es : Entries) → refusal_over moved (dir (entry n u es)) ≡ None → ⊥
refused_over (file bytes) n u es e = cc
refused_over (dir fs) n u es e = cc

not_over : (t : Tree) (n : List ℕ) (p : List (List ℕ)) (moved : Tree) → walk t (n ∷ p) ≡ Found moved → refusal_over moved t ≡ None → ⊥
not_over (file bytes) n p moved e free = not_found _ _ (sym (refused_on reply.NotDir p) ∙ e)
not_over (dir none) n p moved e free = not_found _ _ (sym (refused_on reply.NotFound p) ∙ e)
not_over (dir (entry m u es)) n p moved e free = refused_over moved m u es free

pub no_move_up : (t : Tree) (p : List (List ℕ)) → MayMove t p [] → ⊥
no_move_up t [] may = true_false may.apart
no_move_up t (n ∷ p) may = let found = found_there (walk t (n ∷ p)) may.there in not_over t n p found.0 found.1 (may.free found.0 t found.1 refl)

pub some_from : (t : Tree) (q : List (List ℕ)) → MayMove t [] q → ⊥
some_from t q may = true_false may.apart

-- ---- where the paths part

-- below a file nothing stands
file_below : (bytes : List ℕ) (n : List ℕ) (p : List (List ℕ)) → IsThere (walk (file bytes) (n ∷ p)) → ⊥
file_below bytes n p there = subst IsThere (refused_on reply.NotDir p) there

pub room_walk : (t t' : Tree) (from to : List (List ℕ)) → MayMove t from to → PartAtOnce from to → HasRoom t t' to → walk t' from ≡ walk t from
room_walk t t' [] to may part room = absurd part
room_walk t t' (n ∷ p) [] may part room = absurd part
room_walk t t' (n ∷ p) (m ∷ q) may part (stands there e) = ap (λ u. walk u (n ∷ p)) e
room_walk (file bytes) t' (n ∷ p) (m ∷ q) may part (made x e) = absurd (file_below bytes n p may.there)
room_walk (dir es) t' (n ∷ p) (m ∷ q) may part (made x e) = ap (λ u. walk u (n ∷ p)) e ∙ apart_walk es n m p q x part

pub room_take : (t t' : Tree) (from to : List (List ℕ)) → MayMove t from to → PartAtOnce from to → HasRoom t t' to → IsThere (walk (remove_at from t') to)
room_take t t' [] to may part room = absurd part
room_take t t' (n ∷ p) [] may part room = absurd part
room_take (file bytes) t' (n ∷ p) (m ∷ q) may part room = absurd (file_below bytes n p may.there)
room_take (dir es) t' (n ∷ p) (m ∷ q) may part (stands there e) =
    subst (λ u. IsThere (walk (remove_at (n ∷ p) u) (m ∷ q))) (sym e) (subst IsThere (sym (removed_walk es n m p q part)) there)
room_take (dir es) t' (n ∷ p) (m ∷ q) may part (made x e) =
    let put = set es m (put_at q x (child_of (look es m))) in
    subst (λ u. IsThere (walk (remove_at (n ∷ p) u) (m ∷ q))) (sym e) (there_found _ x (removed_walk put n m p q part ∙ walk_put (m ∷ q) x (dir es)))

pub room_result : (t t' u : Tree) (from to : List (List ℕ)) → NamesRise (entries_of t) → MayMove t from to → PartAtOnce from to → HasRoom t t' to
    → put_at to u (remove_at from t') ≡ put_at to u (remove_at from t)
room_result t t' u [] to rise may part room = absurd part
room_result t t' u (n ∷ p) [] rise may part room = absurd part
room_result t t' u (n ∷ p) (m ∷ q) rise may part (stands there e) = ap (λ z. put_at (m ∷ q) u (remove_at (n ∷ p) z)) e
room_result (file bytes) t' u (n ∷ p) (m ∷ q) rise may part (made x e) = absurd (file_below bytes n p may.there)
room_result (dir es) t' u (n ∷ p) (m ∷ q) rise may part (made x e) =
    ap (λ z. put_at (m ∷ q) u (remove_at (n ∷ p) z)) e ∙ put_past_remove es n m p q x u rise part

-- ---- room is made

is_there_true : (w : Walked) → is_there w ≡ true → IsThere w
is_there_true (Found t) e = tt
is_there_true (Refused r) e = absurd (true_false (sym e))

pub room_stands : (t : Tree) (to : List (List ℕ)) → is_there (walk t to) ≡ true → HasRoom t t to
room_stands t to e = stands (is_there_true (walk t to) e) refl

absent_child : (o : Option Tree) → is_there (found_or reply.NotFound o) ≡ false → o ≡ None
absent_child None e = refl
absent_child (Some t) e = absurd (true_false e)

room_in : (w : Walked) (n : List ℕ) → IsDirThere w → is_there (step_to w n) ≡ false → IsRoomThere w n
room_in (Refused r) n is e = absurd is
room_in (Found (file bytes)) n is e = absurd is
room_in (Found (dir es)) n is e = absent_child (look es n) e

pub room_new : (t : Tree) (p : List (List ℕ)) (n : List ℕ) → IsDirThere (walk t p) → is_there (walk t (p ++ n ∷ [])) ≡ false → IsRoomThere (walk t p) n
room_new t p n is e = room_in (walk t p) n is (ap is_there (sym (walk_on (Found t) p (n ∷ []))) ∙ e)

-- ---- what a rename answers

not_nil : (n : List ℕ) (p : List (List ℕ)) → n ∷ p ≢ []
not_nil n p e = cc

pub split_path : (p : List (List ℕ)) → p ≢ [] → p ≡ parent_of p ++ last_of p ∷ []
split_path [] some = absurd (some refl)
split_path (n ∷ []) some = refl
split_path (n ∷ m ∷ p) some = ap (λ z. n ∷ z) (split_path (m ∷ p) (not_nil m p))

-- a target that refuses
target_refuses : (w : Walked) (t moved : Tree) (from to : List (List ℕ)) (r : Reply) → target_refusal w moved (last_of to) ≡ Some r → move_into w t from to moved ≡ refuse r t
target_refuses (Refused s) t moved from to r e = ap (λ z. refuse z t) (inside e)
  where
    inside : Some s ≡ Some r → s ≡ r
    inside e = cc
target_refuses (Found (file bytes)) t moved from to r e = ap (λ z. refuse z t) (inside e)
  where
    inside : Some reply.NotDir ≡ Some r → reply.NotDir ≡ r
    inside e = cc
target_refuses (Found (dir es)) t moved from to r e = ap (λ z. move_unless z t from to moved) e

-- and one that doesn't
target_parent : (w : Walked) (moved : Tree) (n : List ℕ) → target_refusal w moved n ≡ None → IsDirThere w
target_parent (Refused r) moved n e = absurd (some_no r e)
  where
    some_no : (r : Reply) → Some r ≡ None → ⊥
    some_no r e = cc
target_parent (Found (file bytes)) moved n e = absurd (some_no reply.NotDir e)
  where
    some_no : (r : Reply) → Some r ≡ None → ⊥
    some_no r e = cc
target_parent (Found (dir es)) moved n e = tt

target_free : (w : Walked) (moved stood : Tree) (n : List ℕ) → target_refusal w moved n ≡ None → step_to w n ≡ Found stood → refusal_over moved stood ≡ None
target_free (Refused r) moved stood n e f = absurd (not_found r stood f)
target_free (Found (file bytes)) moved stood n e f = absurd (not_found _ stood f)
target_free (Found (dir es)) moved stood n e f = each (look es n) e f
  where
    each : (o : Option Tree) → refusal_at moved o ≡ None → found_or reply.NotFound o ≡ Found stood → refusal_over moved stood ≡ None
    each None e f = absurd (not_found _ stood f)
    each (Some u) e f = ap (refusal_over moved) (sym (found_same u stood f)) ∙ e

pub may_move : (t moved : Tree) (from to : List (List ℕ)) → walk t from ≡ Found moved → to ≢ [] → leads_to from to ≡ false
    → target_refusal (walk t (parent_of to)) moved (last_of to) ≡ None → MayMove t from to
may_move t moved from to is some apart free = record {
  there = there_found _ moved is;
  apart = apart;
  parent = target_parent (walk t (parent_of to)) moved (last_of to) free;
  free = λ other stood e f. subst (λ u. refusal_over u stood ≡ None) (found_same moved other (sym is ∙ e))
      (target_free (walk t (parent_of to)) moved stood (last_of to) free
      (sym (walk_on (Found t) (parent_of to) (last_of to ∷ [])) ∙ ap (walk t) (sym (split_path to some)) ∙ f));
}

pub move_refused : (t moved : Tree) (from to : List (List ℕ)) (r : Reply) → leads_to from to ≡ false
    → target_refusal (walk t (parent_of to)) moved (last_of to) ≡ Some r → move_from (Found moved) t from to ≡ refuse r t
move_refused t moved from to r apart e = rw apart (target_refuses (walk t (parent_of to)) t moved from to r e)

pub move_same : (t moved : Tree) (from to : List (List ℕ)) → leads_to from to ≡ true → leads_to to from ≡ true → move_from (Found moved) t from to ≡ refuse reply.Ok t
move_same t moved from to e f = rw (e, f) refl

pub move_inside : (t moved : Tree) (from to : List (List ℕ)) → leads_to from to ≡ true → leads_to to from ≡ false → move_from (Found moved) t from to ≡ refuse reply.Inside t
move_inside t moved from to e f = rw (e, f) refl

moves_into : (w : Walked) (t moved : Tree) (from to : List (List ℕ)) → IsDirThere w → ((stood : Tree) → step_to w (last_of to) ≡ Found stood → refusal_over moved stood ≡ None)
    → move_into w t from to moved ≡ record { reply = reply.Ok; tree = put_at to moved (remove_at from t) }
moves_into (Refused r) t moved from to is free = absurd is
moves_into (Found (file bytes)) t moved from to is free = absurd is
moves_into (Found (dir es)) t moved from to is free = each (look es (last_of to)) (λ stood e. free stood (ap (found_or reply.NotFound) e))
  where
    each : (o : Option Tree) → ((stood : Tree) → o ≡ Some stood → refusal_over moved stood ≡ None)
        → move_unless (refusal_at moved o) t from to moved ≡ record { reply = reply.Ok; tree = put_at to moved (remove_at from t) }
    each None free = refl
    each (Some stood) free = ap (λ z. move_unless z t from to moved) (free stood refl)

pub rename_is : (t moved : Tree) (from to : List (List ℕ)) → MayMove t from to → walk t from ≡ Found moved
    → rename t from to ≡ record { reply = reply.Ok; tree = put_at to moved (remove_at from t) }
rename_is t moved [] to may is = absurd (some_from t to may)
rename_is t moved (n ∷ p) [] may is = absurd (no_move_up t (n ∷ p) may)
rename_is t moved (n ∷ p) (m ∷ q) may is =
    let to = m ∷ q in
    ap (λ w. move_from w t (n ∷ p) to) is
    ∙ rw may.apart (moves_into (walk t (parent_of to)) t moved (n ∷ p) to may.parent (λ stood e. may.free moved stood is
    (ap (walk t) (split_path to (not_nil m q)) ∙ walk_on (Found t) (parent_of to) (last_of to ∷ []) ∙ e)))

pub target_path : (t moved : Tree) (to p : List (List ℕ)) (n : List ℕ) → to ≡ p ++ n ∷ [] → target_refusal (walk t (parent_of to)) moved (last_of to) ≡ target_refusal (walk t p) moved n
target_path t moved to p n e =
    ap (λ q. target_refusal (walk t (parent_of q)) moved (last_of q)) e ∙ (λ i. target_refusal (walk t (parent_front p n i)) moved (last_front p n i))

pub over_names : (fs es : Entries) → refusal_over (dir fs) (dir es) ≡ empty_refusal (Found (dir es))
over_names fs none = refl
over_names fs (entry n u es) = refl

pub found_match : (t moved : Tree) (from to : List (List ℕ)) (o : Option Reply) → o ≡ target_refusal (walk t (parent_of to)) moved (last_of to) → walk t from ≡ Found moved → to ≢ []
    → leads_to from to ≡ false → MatchOption o (MayMove t from to) (λ r. move_from (Found moved) t from to ≡ refuse r t)
found_match t moved from to None e is some apart = may_move t moved from to is some apart (sym e)
found_match t moved from to (Some r) e is some apart = move_refused t moved from to r apart (sym e)
