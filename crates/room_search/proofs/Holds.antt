-- Locks of a longer list, and what stands in the way under them.
use Rattle.std.proofs.Common.{◌≡◌, inl, inr, ℕ, suc, ◌+◌, ◌<◌, true, false, List, [], ◌∷◌, ◌++◌, length, get_or, map, take, drop, slice_get, Some, refl, sym, ap, subst, ◌∙◌, arith}
use Rattle.std.specs.Prelude.{Contains}
use Rattle.std.proofs.Math.Numerals.{add-one}
use Rattle.std.proofs.lemmas.List.{append_assoc, get_or_append_left, length-append, map-append}
use Rattle.std.proofs.lemmas.List.Elements.{All-append, All-push, All-nil}
use Rattle.std.proofs.lemmas.Option.{slice_get_within, get_or_from_slice_get, slice_get-get_or}
use Rattle.glock_names.specs.Views.{Seen, HasGroup}
use Rattle.glock_names.specs.declared.LockName.{LockName}
use Rattle.glock_names.specs.declared.State.{State}
use Rattle.glock_names.specs.declared.State.TheVariants.{Ex}
use Rattle.glock_names.specs.declared.steps.Missing.{Missing}
use Rattle.glock_names.specs.declared.views.Group.{Group}
use Rattle.resource_groups.specs.Shown.{IsMissing}
use Rattle.image_model.proofs.Members.{IsIn, contained, is_in}
use Rattle.path_walks.proofs.Lists.{split_at, take_next}
use Rattle.path_walks.proofs.Longer.{lack_before, lack_behind}
use Rattle.path_walks.specs.Holds.{Hold, AreHeld, IsFirstLack, holds, hold_of_group}
use Rattle.room_search.specs.Searches.{IsGroupBlock, IsGroupNeeded}

-- ---- more locks behind and before

pub block_before : (v : Seen) (list more : List Hold) (m : Missing) → IsGroupBlock v list m → IsGroupBlock v (list ++ more) m
block_before v list more m is = record {
  group = is.group;
  has = is.has;
  missing = is.missing;
  front = is.front;
  back = is.back ++ more;
  split = ap (λ xs. xs ++ more) is.split ∙ append_assoc is.front (record { lock = m.lock; state = Ex } ∷ is.back) more;
  held = is.held;
}

pub block_behind : (v : Seen) (list more : List Hold) (m : Missing) → AreHeld v list → IsGroupBlock v more m → IsGroupBlock v (list ++ more) m
block_behind v list more m held is = record {
  group = is.group;
  has = is.has;
  missing = is.missing;
  front = list ++ is.front;
  back = is.back;
  split = ap (λ xs. list ++ xs) is.split ∙ sym (append_assoc list is.front (record { lock = m.lock; state = Ex } ∷ is.back));
  held = subst (AreHeld v) (sym (append_assoc list is.front (record { lock = m.lock; state = Ex } ∷ [])))
      (All-append (λ h. holds v h ≡ true) list (is.front ++ record { lock = m.lock; state = Ex } ∷ []) held is.held);
}

-- the one lock isn't held
pub lack_one : (v : Seen) (h : Hold) → holds v h ≡ false → IsFirstLack v (h ∷ []) h.lock h.state
lack_one v h lacks = record { front = []; back = []; split = refl; held = All-nil (λ x. holds v x ≡ true); lacks = lacks }

pub held_one : (v : Seen) (h : Hold) → holds v h ≡ true → AreHeld v (h ∷ [])
held_one v h held = All-push (λ x. holds v x ≡ true) [] h (All-nil (λ x. holds v x ≡ true)) held

-- a group's block under its lock alone
pub block_one : (v : Seen) (g : Group) (m : Missing) → HasGroup v g → IsMissing v g m → holds v (hold_of_group g) ≡ true → IsGroupBlock v (hold_of_group g ∷ []) m
block_one v g m has missing held = record {
  group = g;
  has = has;
  missing = missing;
  front = [];
  back = [];
  split = ap (λ (l : LockName). record { lock = l; state = Ex } ∷ []) (sym missing.lock);
  held = subst (λ (l : LockName). AreHeld v (record { lock = l; state = Ex } ∷ [])) (sym missing.lock) (held_one v (hold_of_group g) held);
}

-- ---- held locks

pub held_in : (v : Seen) (xs : List Hold) (h : Hold) → AreHeld v xs → Contains xs h → holds v h ≡ true
held_in v xs h held there = subst (λ x. holds v x ≡ true) there.2 (held there.0 h there.1)

pub held_before : (v : Seen) (xs ys : List Hold) → AreHeld v (xs ++ ys) → AreHeld v xs
held_before v xs ys held k d low = subst (λ x. holds v x ≡ true) (get_or_append_left xs ys d k low) (held k d (omega (arith, length-append xs ys, low)))

pub held_behind : (v : Seen) (xs ys : List Hold) → AreHeld v (xs ++ ys) → AreHeld v ys
held_behind v [] ys held = held
held_behind v (x ∷ xs) ys held = held_behind v xs ys (λ k d low. held (suc k) d (omega (arith, low)))

-- a list up to one of its elements
split_there : (xs : List Hold) (h : Hold) → IsIn h xs → (front : List Hold) × ((back : List Hold) × (xs ≡ front ++ h ∷ back))
split_there [] h at = elim at [ ]
split_there (x ∷ xs) h (inl e) = ([], (xs, ap (λ y. y ∷ xs) (sym e)))
split_there (x ∷ xs) h (inr later) = let s = split_there xs h later in (x ∷ s.0, (s.1.0, ap (λ ys. x ∷ ys) s.1.1))

-- a block of a group whose lock is of the list, all of which is held
pub block_under : (v : Seen) (list : List Hold) (g : Group) (m : Missing) → AreHeld v list → Contains list (hold_of_group g) → HasGroup v g → IsMissing v g m → IsGroupBlock v list m
block_under v list g m held there has missing =
    let s = split_there list (hold_of_group g) (is_in (hold_of_group g) list there) in
    let same : hold_of_group g ≡ record { lock = m.lock; state = Ex } = ap (λ l. record { lock = l; state = Ex }) (sym missing.lock) in
    record {
      group = g;
      has = has;
      missing = missing;
      front = s.0;
      back = s.1.0;
      split = s.1.1 ∙ ap (λ x. s.0 ++ x ∷ s.1.0) same;
      held = subst (λ x. AreHeld v (s.0 ++ x ∷ [])) same (held_before v (s.0 ++ hold_of_group g ∷ []) s.1.0 (subst (AreHeld v) (s.1.1 ∙ sym (append_assoc s.0 (hold_of_group g ∷ []) s.1.0)) held));
    }

-- a block of a group that is asked for under locks is needed
pub group_needed : (v : Seen) (list : List Hold) (m : Missing) → IsGroupBlock v list m → IsGroupNeeded v m
group_needed v list m is = record {
  group = is.group;
  has = is.has;
  held = subst (λ l. holds v (record { lock = l; state = Ex }) ≡ true) is.missing.lock
      (held_behind v is.front (record { lock = m.lock; state = Ex } ∷ []) is.held 0 (record { lock = m.lock; state = Ex }) (omega arith));
  missing = is.missing;
}

-- ---- the locks of groups

in_map : (k : Group) (gs : List Group) → IsIn k gs → IsIn (hold_of_group k) (map hold_of_group gs)
in_map k [] h = elim h [ ]
in_map k (x ∷ gs) (inl e) = inl (ap hold_of_group e)
in_map k (x ∷ gs) (inr h) = inr (in_map k gs h)

pub group_listed : (gs : List Group) (k : Group) → Contains gs k → Contains (map hold_of_group gs) (hold_of_group k)
group_listed gs k has = contained (hold_of_group k) (map hold_of_group gs) (in_map k gs (is_in k gs has))

-- ---- one group after another

list_at : (gs : List Group) (i : ℕ) (x : Group) → slice_get gs i ≡ Some x → map hold_of_group gs ≡ (map hold_of_group (take i gs) ++ hold_of_group x ∷ []) ++ map hold_of_group (drop (suc i) gs)
list_at gs i x at =
    ap (map hold_of_group) (split_at gs i x at) ∙ map-append hold_of_group (take i gs) (x ∷ drop (suc i) gs)
    ∙ sym (append_assoc (map hold_of_group (take i gs)) (hold_of_group x ∷ []) (map hold_of_group (drop (suc i) gs)))

-- a group that is read from a list of them
pub read_group : (gs : List Group) (i : ℕ) (d : Group) → i < length gs → Contains gs (get_or gs i d)
read_group gs i d low = let at = slice_get-get_or gs i d low in (i, slice_get_within gs i (get_or gs i d) at, get_or_from_slice_get gs i (get_or gs i d) (get_or gs i d) at)

module _ (v : Seen) (gs : List Group) (i : ℕ) (d : Group) (low : i < length gs) (held : AreHeld v (map hold_of_group (take i gs))) where
  pub next_held : AreHeld v (hold_of_group (get_or gs i d) ∷ []) → AreHeld v (map hold_of_group (take (i + 1) gs))
  next_held now =
      let x : Group = get_or gs i d in
      subst (λ n. AreHeld v (map hold_of_group (take n gs))) (sym (add-one i))
      (subst (AreHeld v) (sym (ap (map hold_of_group) (take_next gs i x (slice_get-get_or gs i d low)) ∙ map-append hold_of_group (take i gs) (x ∷ [])))
      (All-append (λ h. holds v h ≡ true) (map hold_of_group (take i gs)) (hold_of_group x ∷ []) held now))

  pub next_lack : (lock : LockName) (state : State) → IsFirstLack v (hold_of_group (get_or gs i d) ∷ []) lock state → IsFirstLack v (map hold_of_group gs) lock state
  next_lack lock state is =
      let x : Group = get_or gs i d in
      subst (λ list. IsFirstLack v list lock state) (sym (list_at gs i x (slice_get-get_or gs i d low)))
      (lack_before v (map hold_of_group (take i gs) ++ hold_of_group x ∷ []) (map hold_of_group (drop (suc i) gs)) lock state (lack_behind v (map hold_of_group (take i gs)) (hold_of_group x ∷ []) lock state held is))

  pub next_block : (m : Missing) → IsGroupBlock v (hold_of_group (get_or gs i d) ∷ []) m → IsGroupBlock v (map hold_of_group gs) m
  next_block m is =
      let x : Group = get_or gs i d in
      subst (λ list. IsGroupBlock v list m) (sym (list_at gs i x (slice_get-get_or gs i d low)))
      (block_before v (map hold_of_group (take i gs) ++ hold_of_group x ∷ []) (map hold_of_group (drop (suc i) gs)) m (block_behind v (map hold_of_group (take i gs)) (hold_of_group x ∷ []) m held is))
