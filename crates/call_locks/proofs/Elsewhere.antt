-- What a call leaves as it stands.
use Rattle.std.proofs.Common.{◌≡◌, ◌≢◌, ℕ, ◌+◌, ◌⊎◌, inl, inr, Bool, true, false, List, [], ◌∷◌, ◌++◌, length, lit<, Option, Some, None, refl, sym, ap, subst, ◌∙◌}
use Rattle.std.specs.Prelude.{◌&&◌, nat_lt, if◌then◌else◌, Contains}
use Rattle.std.proofs.lemmas.Bool.{cases_Bool}
use Rattle.std.specs.Str.{bytes_eq}
use Rattle.std.proofs.lemmas.Slice.Eq.{bytes_eq-Decides}
use Rattle.file_tree.specs.Tree.{Tree, Entries, file, dir, none, entry, look, set}
use Rattle.file_tree.specs.Names.{parent_of, last_of, leads_to, is_same_path}
use Rattle.file_tree.specs.Apply.{Answer, Walked, Found, Refused, step_to, walk_from, walk, entries_of, put_at, remove_at, file_limit, overwritten, resized, refuse, add_to, unlink_at, rmdir_at, write_at, truncate_at, refusal_at, move_unless, move_into, move_from, apply}
use Rattle.file_tree.specs.Walks.{IsDirThere, is_there}
use Rattle.file_tree.specs.declared.call.Call.{Call}
use Rattle.file_tree.specs.declared.call.Call.TheVariants as call
use Rattle.file_tree.specs.declared.reply.Reply.{Reply}
use Rattle.file_tree.specs.declared.reply.Reply.TheVariants as reply
use Rattle.file_tree.proofs.Directories.{same_or_not}
use Rattle.file_tree.proofs.WalkLaws.{refused_on, not_found, steps, child_is, set_there, put_step, walk_put, parent_front}
use Rattle.file_tree.proofs.MoveLaws.{apart_walk, removed_walk}
use Rattle.call_locks.specs.WantLaws.{path_of, changed_by, bare, IsElsewhere, OthersStay, NamesStay}

abbrev Path : Type 0
Path = List (List ℕ)

true_false : true ≡ false → ⊥
true_false e = cc

-- ---- directories on the way

bare_dir : (w : Walked) → IsDirThere w → IsDirThere (bare w)
bare_dir (Refused r) is = is
bare_dir (Found (file bytes)) is = is
bare_dir (Found (dir es)) is = tt

dir_bare : (w : Walked) → IsDirThere (bare w) → IsDirThere w
dir_bare (Refused r) is = is
dir_bare (Found (file bytes)) is = is
dir_bare (Found (dir es)) is = tt

alike_dir : (w v : Walked) → bare w ≡ bare v → IsDirThere v → IsDirThere w
alike_dir w v e is = dir_bare w (subst IsDirThere (sym e) (bare_dir v is))

found_dir : (w : Walked) → IsDirThere w → (es : Entries) × (w ≡ Found (dir es))
found_dir (Refused r) is = absurd is
found_dir (Found (file bytes)) is = absurd is
found_dir (Found (dir es)) is = (es, refl)

dir_there : (w : Walked) (es : Entries) → w ≡ Found (dir es) → IsDirThere w
dir_there w es e = subst IsDirThere (sym e) tt

no_file : (n : List ℕ) (p : Path) (bytes : List ℕ) → IsDirThere (walk (file bytes) (parent_of (n ∷ p))) → ⊥
no_file n [] bytes is = is
no_file n (k ∷ p) bytes is = subst IsDirThere (refused_on reply.NotDir (parent_of (k ∷ p))) is

step_dir : (t : Tree) (n : List ℕ) (u : Tree) → step_to (Found t) n ≡ Found u → IsDirThere (Found t)
step_dir (file bytes) n u e = absurd (not_found _ _ e)
step_dir (dir es) n u e = tt

-- what is found is in a directory
parent_dir : (n : List ℕ) (p : Path) (t u : Tree) → walk t (n ∷ p) ≡ Found u → IsDirThere (walk t (parent_of (n ∷ p)))
parent_dir n [] t u e = step_dir t n u e
parent_dir n (k ∷ p) t u e =
    let s = steps t n (k ∷ p) u e in
    subst (λ w. IsDirThere (walk_from w (parent_of (k ∷ p)))) (sym s.step) (parent_dir k p s.below u s.rest)

-- ---- a path leads to another

apart_rest : (n m : List ℕ) (p r : Path) → n ≡ m → leads_to (n ∷ p) (m ∷ r) ≡ false → leads_to p r ≡ false
apart_rest n m p r e h = sym (ap (λ b. b && leads_to p r) ((bytes_eq-Decides n m).1 e)) ∙ h

and_false : (a b c : Bool) → (b ≡ false → c ≡ false) → (a && b) ≡ false → (a && c) ≡ false
and_false true b c f h = f h
and_false false b c f h = refl

apart_parent : (p q : Path) → leads_to p q ≡ false → leads_to p (parent_of q) ≡ false
apart_parent [] q h = absurd (true_false h)
apart_parent (n ∷ p) [] h = refl
apart_parent (n ∷ p) (m ∷ []) h = refl
apart_parent (n ∷ p) (m ∷ k ∷ q) h = and_false (bytes_eq n m) (leads_to p (k ∷ q)) (leads_to p (parent_of (k ∷ q))) (apart_parent p (k ∷ q)) h

-- ---- a tree that is put, or taken out, elsewhere

same_step : (t : Tree) (n : List ℕ) (c x : Tree) (r : Path) → step_to (Found t) n ≡ Found c → bare (walk x r) ≡ bare (walk c r)
    → bare (walk (dir (set (entries_of t) n x)) (n ∷ r)) ≡ bare (walk t (n ∷ r))
same_step t n c x r step h = ap (λ w. bare (walk_from w r)) (set_there t n x) ∙ h ∙ sym (ap (λ w. bare (walk_from w r)) step)

put_elsewhere : (p r : Path) (u t : Tree) → IsDirThere (walk t (parent_of p)) → leads_to p r ≡ false → bare (walk (put_at p u t) r) ≡ bare (walk t r)
put_elsewhere [] r u t is h = absurd (true_false h)
put_elsewhere (n ∷ p) r u (file bytes) is h = absurd (no_file n p bytes is)
put_elsewhere (n ∷ p) [] u (dir es) is h = refl
put_elsewhere (n ∷ []) (m ∷ r) u (dir es) is h = elim (same_or_not n m) [
  | inl e ↦ absurd (true_false (apart_rest n m [] r e h))
  | inr d ↦ ap bare (apart_walk es m n r [] u d)
]
put_elsewhere (n ∷ k ∷ p) (m ∷ r) u (dir es) is h = elim (same_or_not n m) [
  | inl e ↦
      let f : (fs : Entries) × (walk (dir es) (n ∷ parent_of (k ∷ p)) ≡ Found (dir fs)) = found_dir (walk (dir es) (n ∷ parent_of (k ∷ p))) is in
      let s = steps (dir es) n (parent_of (k ∷ p)) (dir f.0) f.1 in
      subst (λ z. bare (walk (put_at (n ∷ k ∷ p) u (dir es)) (z ∷ r)) ≡ bare (walk (dir es) (z ∷ r))) e
      (ap (λ z. bare (walk z (n ∷ r))) (put_step (dir es) n (k ∷ p) u s.below s.step)
      ∙ same_step (dir es) n s.below (put_at (k ∷ p) u s.below) r s.step
      (put_elsewhere (k ∷ p) r u s.below (dir_there (walk s.below (parent_of (k ∷ p))) f.0 s.rest) (apart_rest n m (k ∷ p) r e h)))
  | inr d ↦ ap bare (apart_walk es m n r (k ∷ p) u d)
]

remove_elsewhere : (p r : Path) (t : Tree) → IsDirThere (walk t (parent_of p)) → leads_to p r ≡ false → bare (walk (remove_at p t) r) ≡ bare (walk t r)
remove_elsewhere [] r t is h = refl
remove_elsewhere (n ∷ p) r (file bytes) is h = absurd (no_file n p bytes is)
remove_elsewhere (n ∷ []) [] (dir es) is h = refl
remove_elsewhere (n ∷ k ∷ p) [] (dir es) is h = refl
remove_elsewhere (n ∷ []) (m ∷ r) (dir es) is h = elim (same_or_not n m) [
  | inl e ↦ absurd (true_false (apart_rest n m [] r e h))
  | inr d ↦ ap bare (removed_walk es n m [] r (λ e. d (sym e)))
]
remove_elsewhere (n ∷ k ∷ p) (m ∷ r) (dir es) is h = elim (same_or_not n m) [
  | inl e ↦
      let f : (fs : Entries) × (walk (dir es) (n ∷ parent_of (k ∷ p)) ≡ Found (dir fs)) = found_dir (walk (dir es) (n ∷ parent_of (k ∷ p))) is in
      let s = steps (dir es) n (parent_of (k ∷ p)) (dir f.0) f.1 in
      subst (λ z. bare (walk (remove_at (n ∷ k ∷ p) (dir es)) (z ∷ r)) ≡ bare (walk (dir es) (z ∷ r))) e
      (ap (λ c. bare (walk (dir (set es n (remove_at (k ∷ p) c))) (n ∷ r))) (child_is (dir es) n s.below s.step)
      ∙ same_step (dir es) n s.below (remove_at (k ∷ p) s.below) r s.step
      (remove_elsewhere (k ∷ p) r s.below (dir_there (walk s.below (parent_of (k ∷ p))) f.0 s.rest) (apart_rest n m (k ∷ p) r e h)))
  | inr d ↦ ap bare (removed_walk es n m (k ∷ p) r (λ e. d (sym e)))
]

-- ---- call by call

abbrev Stays : Tree → Path → Answer → Type 0
Stays t r a = bare (walk a.tree r) ≡ bare (walk t r)

either : (P : Answer → Type 0) (b : Bool) (x y : Answer) → (b ≡ true → P x) → (b ≡ false → P y) → P (if b then x else y)
either P true x y f g = f refl
either P false x y f g = g refl

add_stays : (n : List ℕ) (p r : Path) (new t : Tree) → leads_to (n ∷ p) r ≡ false → (w : Walked) → walk t (parent_of (n ∷ p)) ≡ w → Stays t r (add_to w t (n ∷ p) new)
add_stays n p r new t h (Refused s) e = refl
add_stays n p r new t h (Found (file bytes)) e = refl
add_stays n p r new t h (Found (dir es)) e = each (look es (last_of (n ∷ p)))
  where
    each : (o : Option Tree) → Stays t r (elim o [ None ↦ record { reply = reply.Ok; tree = put_at (n ∷ p) new t } | Some there ↦ refuse reply.Exists t ])
    each None = put_elsewhere (n ∷ p) r new t (dir_there _ es e) h
    each (Some u) = refl

unlink_stays : (n : List ℕ) (p r : Path) (t : Tree) → leads_to (n ∷ p) r ≡ false → (w : Walked) → walk t (n ∷ p) ≡ w → Stays t r (unlink_at w t (n ∷ p))
unlink_stays n p r t h (Refused s) e = refl
unlink_stays n p r t h (Found (file bytes)) e = remove_elsewhere (n ∷ p) r t (parent_dir n p t (file bytes) e) h
unlink_stays n p r t h (Found (dir es)) e = refl

rmdir_stays : (n : List ℕ) (p r : Path) (t : Tree) → leads_to (n ∷ p) r ≡ false → (w : Walked) → walk t (n ∷ p) ≡ w → Stays t r (rmdir_at w t (n ∷ p))
rmdir_stays n p r t h (Refused s) e = refl
rmdir_stays n p r t h (Found (file bytes)) e = refl
rmdir_stays n p r t h (Found (dir none)) e = remove_elsewhere (n ∷ p) r t (parent_dir n p t (dir none) e) h
rmdir_stays n p r t h (Found (dir (entry m u es))) e = refl

write_stays : (n : List ℕ) (p r : Path) (t : Tree) (at : ℕ) (new : List ℕ) → leads_to (n ∷ p) r ≡ false → (w : Walked) → walk t (n ∷ p) ≡ w → Stays t r (write_at w t (n ∷ p) at new)
write_stays n p r t at new h (Refused s) e = refl
write_stays n p r t at new h (Found (dir es)) e = refl
write_stays n p r t at new h (Found (file bytes)) e =
    let u = file (overwritten at new bytes) in
    either (Stays t r) (nat_lt file_limit (at + length new)) (refuse reply.TooBig t) (record { reply = reply.Ok; tree = put_at (n ∷ p) u t })
    (λ _. refl) (λ _. put_elsewhere (n ∷ p) r u t (parent_dir n p t (file bytes) e) h)

truncate_stays : (n : List ℕ) (p r : Path) (t : Tree) (size : ℕ) → leads_to (n ∷ p) r ≡ false → (w : Walked) → walk t (n ∷ p) ≡ w → Stays t r (truncate_at w t (n ∷ p) size)
truncate_stays n p r t size h (Refused s) e = refl
truncate_stays n p r t size h (Found (dir es)) e = refl
truncate_stays n p r t size h (Found (file bytes)) e =
    let u = file (resized size bytes) in
    either (Stays t r) (nat_lt file_limit size) (refuse reply.TooBig t) (record { reply = reply.Ok; tree = put_at (n ∷ p) u t })
    (λ _. refl) (λ _. put_elsewhere (n ∷ p) r u t (parent_dir n p t (file bytes) e) h)

module _ (n : List ℕ) (p : Path) (m : List ℕ) (q r : Path) (t moved : Tree) (found : walk t (n ∷ p) ≡ Found moved) (from : leads_to (n ∷ p) r ≡ false) (to : leads_to (m ∷ q) r ≡ false) where
  -- the first path's tree is taken out, and put at the second one
  both_stay : (es : Entries) → walk t (parent_of (m ∷ q)) ≡ Found (dir es) → leads_to (n ∷ p) (m ∷ q) ≡ false → bare (walk (put_at (m ∷ q) moved (remove_at (n ∷ p) t)) r) ≡ bare (walk t r)
  both_stay es e apart =
      let is : IsDirThere (walk t (parent_of (n ∷ p))) = parent_dir n p t moved found in
      let there : IsDirThere (walk (remove_at (n ∷ p) t) (parent_of (m ∷ q))) =
      alike_dir (walk (remove_at (n ∷ p) t) (parent_of (m ∷ q))) (walk t (parent_of (m ∷ q)))
      (remove_elsewhere (n ∷ p) (parent_of (m ∷ q)) t is (apart_parent (n ∷ p) (m ∷ q) apart)) (dir_there (walk t (parent_of (m ∷ q))) es e) in
      put_elsewhere (m ∷ q) r moved (remove_at (n ∷ p) t) there to ∙ remove_elsewhere (n ∷ p) r t is from

  unless_stays : (es : Entries) → walk t (parent_of (m ∷ q)) ≡ Found (dir es) → leads_to (n ∷ p) (m ∷ q) ≡ false → (o : Option Reply) → Stays t r (move_unless o t (n ∷ p) (m ∷ q) moved)
  unless_stays es e apart (Some s) = refl
  unless_stays es e apart None = both_stay es e apart

  into_stays : leads_to (n ∷ p) (m ∷ q) ≡ false → (w : Walked) → walk t (parent_of (m ∷ q)) ≡ w → Stays t r (move_into w t (n ∷ p) (m ∷ q) moved)
  into_stays apart (Refused s) e = refl
  into_stays apart (Found (file bytes)) e = refl
  into_stays apart (Found (dir es)) e = unless_stays es e apart (refusal_at moved (look es (last_of (m ∷ q))))

  found_stays : Stays t r (move_from (Found moved) t (n ∷ p) (m ∷ q))
  found_stays =
      let inside : Answer = refuse reply.Inside t in
      let into : Answer = move_into (walk t (parent_of (m ∷ q))) t (n ∷ p) (m ∷ q) moved in
      either (Stays t r) (is_same_path (n ∷ p) (m ∷ q)) (refuse reply.Ok t) (if leads_to (n ∷ p) (m ∷ q) then inside else into)
      (λ _. refl) (λ _. either (Stays t r) (leads_to (n ∷ p) (m ∷ q)) inside into (λ _. refl) (λ apart. into_stays apart (walk t (parent_of (m ∷ q))) refl))

move_stays : (n : List ℕ) (p : Path) (m : List ℕ) (q r : Path) (t : Tree) → leads_to (n ∷ p) r ≡ false → leads_to (m ∷ q) r ≡ false → (w : Walked) → walk t (n ∷ p) ≡ w
    → Stays t r (move_from w t (n ∷ p) (m ∷ q))
move_stays n p m q r t from to (Refused s) e = refl
move_stays n p m q r t from to (Found moved) e = found_stays n p m q r t moved e from to

others : (c : Call) (t : Tree) (r : Path) → leads_to (path_of c false) r ≡ false → leads_to (path_of c true) r ≡ false → Stays t r (apply c t)
others (call.Create []) t r h k = refl
others (call.Create (n ∷ p)) t r h k = add_stays n p r (file []) t h (walk t (parent_of (n ∷ p))) refl
others (call.Mkdir []) t r h k = refl
others (call.Mkdir (n ∷ p)) t r h k = add_stays n p r (dir none) t h (walk t (parent_of (n ∷ p))) refl
others (call.Unlink []) t r h k = refl
others (call.Unlink (n ∷ p)) t r h k = unlink_stays n p r t h (walk t (n ∷ p)) refl
others (call.Rmdir []) t r h k = refl
others (call.Rmdir (n ∷ p)) t r h k = rmdir_stays n p r t h (walk t (n ∷ p)) refl
others (call.Read p at count) t r h k = refl
others (call.Dread p at count) t r h k = refl
others (call.Write [] at new) t r h k = absurd (true_false h)
others (call.Write (n ∷ p) at new) t r h k = write_stays n p r t at new h (walk t (n ∷ p)) refl
others (call.Truncate [] size) t r h k = absurd (true_false h)
others (call.Truncate (n ∷ p) size) t r h k = truncate_stays n p r t size h (walk t (n ∷ p)) refl
others (call.Stat p) t r h k = refl
others (call.List p) t r h k = refl
others (call.Rename [] q) t r h k = refl
others (call.Rename (n ∷ p) []) t r h k = refl
others (call.Rename (n ∷ p) (m ∷ q)) t r h k = move_stays n p m q r t h k (walk t (n ∷ p)) refl
others call.Sync t r h k = refl

pub others_stay : OthersStay
others_stay c t r apart = others c t r (apart false) (apart true)

-- ---- names

differ : (k n : List ℕ) → k ≢ n → bytes_eq k n ≡ false
differ k n d = elim (cases_Bool (bytes_eq k n)) [ inl e ↦ absurd (d ((bytes_eq-Decides k n).0 e)) | inr e ↦ e ]

and_no : (b : Bool) → (b && false) ≡ false
and_no true = refl
and_no false = refl

-- a path that doesn't lead to a directory leads to a name in it only where it is that name's
leads_name : (p d : Path) (n : List ℕ) → leads_to p d ≡ false → (leads_to p (d ++ n ∷ []) ≡ false) ⊎ (p ≡ d ++ n ∷ [])
leads_name [] d n h = absurd (true_false h)
leads_name (k ∷ []) [] n h = elim (same_or_not k n) [
  | inl e ↦ inr (ap (λ z. z ∷ []) e)
  | inr x ↦ inl (ap (λ b. b && true) (differ k n x))
]
leads_name (k ∷ l ∷ p) [] n h = inl (and_no (bytes_eq k n))
leads_name (k ∷ p) (m ∷ d) n h = elim (same_or_not k m) [
  | inl e ↦ elim (leads_name p d n (apart_rest k m p d e h)) [
    | inl f ↦ inl (ap (λ b. bytes_eq k m && b) f ∙ and_no (bytes_eq k m))
    | inr f ↦ inr (λ i. e i ∷ f i)
  ]
  | inr x ↦ inl (ap (λ b. b && leads_to p (d ++ n ∷ [])) (differ k m x))
]

there_bare : (w : Walked) → is_there (bare w) ≡ is_there w
there_bare (Refused r) = refl
there_bare (Found (file bytes)) = refl
there_bare (Found (dir es)) = refl

same_there : (w v : Walked) → bare w ≡ bare v → is_there w ≡ is_there v
same_there w v e = sym (there_bare w) ∙ ap is_there e ∙ there_bare v

module _ (c : Call) (t : Tree) (d : Path) (n : List ℕ) (apart : IsElsewhere c d) where
  -- where the call changes the directories of its paths, and this is none of them
  names_apart : ((s : Bool) → (s' : Bool) × Contains (changed_by c) (s', parent_of (path_of c s))) → ((x : Bool × Path) → Contains (changed_by c) x → d ≢ x.1)
      → is_there (walk (apply c t).tree (d ++ n ∷ [])) ≡ is_there (walk t (d ++ n ∷ []))
  names_apart has other = same_there (walk (apply c t).tree (d ++ n ∷ [])) (walk t (d ++ n ∷ [])) (others_stay c t (d ++ n ∷ []) aside)
    where
      aside : IsElsewhere c (d ++ n ∷ [])
      aside s = elim (leads_name (path_of c s) d n (apart s)) [
        | inl f ↦ f
        | inr e ↦ absurd (other ((has s).0, parent_of (path_of c s)) (has s).1 (sym (ap parent_of e ∙ parent_front d n)))
      ]

  -- where the call leaves what its path leads to there
  names_there : (p : Path) → path_of c false ≡ p → path_of c true ≡ p → is_there (walk (apply c t).tree p) ≡ is_there (walk t p)
      → is_there (walk (apply c t).tree (d ++ n ∷ [])) ≡ is_there (walk t (d ++ n ∷ []))
  names_there p is js there = elim (leads_name p d n (subst (λ z. leads_to z d ≡ false) is (apart false))) [
    | inl f ↦ same_there (walk (apply c t).tree (d ++ n ∷ [])) (walk t (d ++ n ∷ []))
        (others c t (d ++ n ∷ []) (subst (λ z. leads_to z (d ++ n ∷ []) ≡ false) (sym is) f) (subst (λ z. leads_to z (d ++ n ∷ []) ≡ false) (sym js) f))
    | inr e ↦ subst (λ z. is_there (walk (apply c t).tree z) ≡ is_there (walk t z)) e there
  ]

put_there : (p : Path) (t u v : Tree) → walk t p ≡ Found v → is_there (walk (put_at p u t) p) ≡ is_there (walk t p)
put_there p t u v e = ap is_there (walk_put p u t) ∙ sym (ap is_there e)

write_there : (p : Path) (t : Tree) (at : ℕ) (new : List ℕ) (w : Walked) → walk t p ≡ w → is_there (walk (write_at w t p at new).tree p) ≡ is_there (walk t p)
write_there p t at new (Refused s) e = refl
write_there p t at new (Found (dir es)) e = refl
write_there p t at new (Found (file bytes)) e =
    let u = file (overwritten at new bytes) in
    either (λ a. is_there (walk a.tree p) ≡ is_there (walk t p)) (nat_lt file_limit (at + length new)) (refuse reply.TooBig t) (record { reply = reply.Ok; tree = put_at p u t })
    (λ _. refl) (λ _. put_there p t u (file bytes) e)

truncate_there : (p : Path) (t : Tree) (size : ℕ) (w : Walked) → walk t p ≡ w → is_there (walk (truncate_at w t p size).tree p) ≡ is_there (walk t p)
truncate_there p t size (Refused s) e = refl
truncate_there p t size (Found (dir es)) e = refl
truncate_there p t size (Found (file bytes)) e =
    let u = file (resized size bytes) in
    either (λ a. is_there (walk a.tree p) ≡ is_there (walk t p)) (nat_lt file_limit size) (refuse reply.TooBig t) (record { reply = reply.Ok; tree = put_at p u t })
    (λ _. refl) (λ _. put_there p t u (file bytes) e)

both_parents : (p q : Path) (s : Bool) → (s' : Bool) × Contains (changed_by (call.Rename p q)) (s', parent_of (path_of (call.Rename p q) s))
both_parents p q false = (false, (0, lit< tt, refl))
both_parents p q true = (true, (2, lit< tt, refl))

pub names_stay : NamesStay
names_stay (call.Create p) t d n apart other = names_apart (call.Create p) t d n apart (λ s. (false, (0, lit< tt, refl))) other
names_stay (call.Mkdir p) t d n apart other = names_apart (call.Mkdir p) t d n apart (λ s. (false, (0, lit< tt, refl))) other
names_stay (call.Unlink p) t d n apart other = names_apart (call.Unlink p) t d n apart (λ s. (false, (0, lit< tt, refl))) other
names_stay (call.Rmdir p) t d n apart other = names_apart (call.Rmdir p) t d n apart (λ s. (false, (0, lit< tt, refl))) other
names_stay (call.Read p at count) t d n apart other = refl
names_stay (call.Dread p at count) t d n apart other = refl
names_stay (call.Write p at new) t d n apart other = names_there (call.Write p at new) t d n apart p refl refl (write_there p t at new (walk t p) refl)
names_stay (call.Truncate p size) t d n apart other = names_there (call.Truncate p size) t d n apart p refl refl (truncate_there p t size (walk t p) refl)
names_stay (call.Stat p) t d n apart other = refl
names_stay (call.List p) t d n apart other = refl
names_stay (call.Rename p q) t d n apart other = names_apart (call.Rename p q) t d n apart (both_parents p q) other
names_stay call.Sync t d n apart other = refl
