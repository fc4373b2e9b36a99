-- The list of the locks of a call that moves a name: that which puts renames in order, and those of the inodes on both paths.
use Rattle.std.proofs.Common.{◌≡◌, ◌≢◌, inl, inr, ℕ, suc, true, false, List, [], ◌∷◌, ◌++◌, length, take, drop, slice_get, get_or, Option, None, Some, refl, sym, ap, ◌∙◌, subst, arith}
use Rattle.std.proofs.lemmas.Bool.{cases_Bool, cond-true, cond-false}
use Rattle.std.proofs.lemmas.List.Elements.{All-cons, All-head, All-nil, All-tail}
use Rattle.std.proofs.lemmas.Option.{slice_get-get_or}
use Rattle.std.proofs.Math.Seq.{take-length}
use Rattle.std.specs.Prelude.{◌==◌, ◌||◌, is_none, nat_lt}
use Rattle.file_tree.specs.Names.{leads_to}
use Rattle.glock_names.specs.Views.{Seen}
use Rattle.glock_names.specs.declared.LockName.{LockName}
use Rattle.glock_names.specs.declared.State.{State}
use Rattle.glock_names.specs.declared.State.TheVariants.{Un}
use Rattle.glock_names.specs.declared.steps.Missing.{Missing}
use Rattle.std.proofs.lemmas.Bool.{eqb-true}
use Rattle.file_tree.specs.declared.call.Call.{Call}
use Rattle.call_locks.specs.declared.want.Want.{Want}
use Rattle.image_model.specs.Flat.{Flat, Path, follow}
use Rattle.image_model.specs.Image.{Image}
use Rattle.image_model.specs.Owners.{Owners}
use Rattle.image_model.specs.Stands.{Layout, flat_of}
use Rattle.image_changes.specs.Instances.{IsAt}
use Rattle.pair_walks.specs.Holds.{Hold, AreHeld, IsAskedFor, IsFirstLack, hold_for, hold_of, holds, holds_in, holds_on}
use Rattle.pair_walks.specs.OnePath.{AreInOrder}
use Rattle.pair_walks.proofs.Asked.{IsAmong}
use Rattle.pair_walks.proofs.Lists.{made_at}
use Rattle.pair_walks.proofs.Longer.{asked_behind, lack_behind}
use Rattle.pair_walks.specs.Orders.{beside, ends_both, in_both, left_after, merged, pair_holds}
use Rattle.move_ends.specs.Ends.{first_wants, from_path, inode_holds, is_empty, order_hold, second_wants, to_path}

-- ---- the list

has_names : (p : Path) → p ≢ [] → is_empty p ≡ false
has_names [] some = absurd (some refl)
has_names (n ∷ ns) some = refl

pub no_list : (im : Image) (o : Owners) (l : Layout) (c : Call) → from_path c ≡ [] → inode_holds im o l c ≡ []
no_list im o l c e = cond-true _ _ _ (ap is_empty e)

pub no_list_either : (im : Image) (o : Owners) (l : Layout) (c : Call) → from_path c ≢ [] → to_path c ≡ [] → inode_holds im o l c ≡ []
no_list_either im o l c some e = cond-false _ _ _ (has_names (from_path c) some) ∙ cond-true _ _ _ (ap is_empty e)

module _ (v : Seen) (im : Image) (o : Owners) (l : Layout) (c : Call) (some : from_path c ≢ []) (some' : to_path c ≢ []) where
  abbrev paths : List Hold
  paths = pair_holds im o l (from_path c) (to_path c) (first_wants c) (second_wants c)

  pub list_is : inode_holds im o l c ≡ order_hold ∷ paths
  list_is = cond-false _ _ _ (has_names (from_path c) some) ∙ cond-false _ _ _ (has_names (to_path c) some')

  pub order_lacks : holds v order_hold ≡ false → IsFirstLack v (inode_holds im o l c) order_hold.lock order_hold.state
  order_lacks lacks = record { front = []; back = paths; split = list_is; held = All-nil (λ h. holds v h ≡ true); lacks = lacks }

  order_held : holds v order_hold ≡ true → AreHeld v (order_hold ∷ [])
  order_held held = All-cons (λ h. holds v h ≡ true) order_hold [] held (All-nil (λ h. holds v h ≡ true))

  pub all_held : holds v order_hold ≡ true → AreHeld v paths → AreHeld v (inode_holds im o l c)
  all_held held rest = subst (AreHeld v) (sym list_is) (All-cons (λ h. holds v h ≡ true) order_hold paths held rest)

  pub path_lacks : holds v order_hold ≡ true → (lock : LockName) (state : State) → IsFirstLack v paths lock state → IsFirstLack v (inode_holds im o l c) lock state
  path_lacks held lock state lacks = subst (λ xs. IsFirstLack v xs lock state) (sym list_is) (lack_behind v (order_hold ∷ []) paths lock state (order_held held) lacks)

  pub path_asks : holds v order_hold ≡ true → (m : Missing) → IsAskedFor v im o l paths m → IsAskedFor v im o l (inode_holds im o l c) m
  path_asks held m asked = subst (λ xs. IsAskedFor v im o l xs m) (sym list_is) (asked_behind v im o l (order_hold ∷ []) paths m (order_held held) asked)

-- ---- a lock of the second way is of the list, in one state or another

pub record IsListed (list : List Hold) (lock : LockName) : Type 0 where
  pub state : State
  pub front : List Hold
  pub back : List Hold
  pub split : list ≡ front ++ record { lock = lock; state = state } ∷ back

one_more : (x : Hold) (list : List Hold) (lock : LockName) → IsListed list lock → IsListed (x ∷ list) lock
one_more x list lock is = record { state = is.state; front = x ∷ is.front; back = is.back; split = ap (λ xs. x ∷ xs) is.split }

equal_so : (xs ys : List Hold) (lock : LockName) → xs ≡ ys → IsListed ys lock → IsListed xs lock
equal_so xs ys lock e = subst (λ zs. IsListed zs lock) (sym e)

-- the locks of inodes with the same number are one
abbrev pub AreInodes : List Hold → Type 0
AreInodes [] = Unit {0}
AreInodes (x ∷ xs) = (x.lock.kind ≡ 2) × AreInodes xs

pub same_lock : (a b : LockName) → a.kind ≡ 2 → b.kind ≡ 2 → a.number ≡ b.number → a ≡ b
same_lock a b e f g = λ i. record { kind = (e ∙ sym f) i; number = g i }

module _ (y : Hold) (kind : y.lock.kind ≡ 2) where
  in_beside : (x : Hold) → x.lock.kind ≡ 2 → (later : List Hold → List Hold) → ((front back : List Hold) → IsListed (later (front ++ y ∷ back)) y.lock)
      → (front back : List Hold) → IsListed (beside x later (front ++ y ∷ back)) y.lock
  in_beside x its later so [] back = elim (cases_Bool (x.lock.number == y.lock.number)) [
    | inl same ↦ equal_so _ _ y.lock (cond-true _ _ _ same) (record {
      state = (in_both x y).state;
      front = [];
      back = later back;
      split = ap (λ k. record { lock = k; state = (in_both x y).state } ∷ later back) (same_lock x.lock y.lock its kind (eqb-true x.lock.number y.lock.number same));
    })
    | inr other ↦ elim (cases_Bool (nat_lt x.lock.number y.lock.number)) [
      | inl low ↦ equal_so _ _ y.lock (cond-false _ _ _ other ∙ cond-true _ _ _ low) (one_more x (later (y ∷ back)) y.lock (so [] back))
      | inr high ↦ equal_so _ _ y.lock (cond-false _ _ _ other ∙ cond-false _ _ _ high) (record { state = y.state; front = []; back = beside x later back; split = refl })
    ]
  ]
  in_beside x its later so (z ∷ front) back = elim (cases_Bool (x.lock.number == z.lock.number)) [
    | inl same ↦ equal_so _ _ y.lock (cond-true _ _ _ same) (one_more (in_both x z) (later (front ++ y ∷ back)) y.lock (so front back))
    | inr other ↦ elim (cases_Bool (nat_lt x.lock.number z.lock.number)) [
      | inl low ↦ equal_so _ _ y.lock (cond-false _ _ _ other ∙ cond-true _ _ _ low) (one_more x (later (z ∷ (front ++ y ∷ back))) y.lock (so (z ∷ front) back))
      | inr high ↦ equal_so _ _ y.lock (cond-false _ _ _ other ∙ cond-false _ _ _ high) (one_more z (beside x later (front ++ y ∷ back)) y.lock (in_beside x its later so front back))
    ]
  ]

  in_merged : (xs : List Hold) → AreInodes xs → (front back : List Hold) → IsListed (merged (left_after false) xs (front ++ y ∷ back)) y.lock
  in_merged [] are front back = record { state = y.state; front = front; back = back; split = refl }
  in_merged (x ∷ xs) are front back = in_beside x are.0 (λ zs. merged (left_after false) xs zs) (in_merged xs are.1) front back

pub are_inodes : (f : Flat) (root : ℕ) (path : Path) (wants : List Want) → AreInodes (holds_on f root path wants)
are_inodes f root path [] = tt
are_inodes f root path (w ∷ ws) = each (follow f root (take w.depth path)) (are_inodes f root path ws)
  where
    each : (x : Option ℕ) → AreInodes (holds_on f root path ws) → AreInodes (hold_for x w.state ++ holds_on f root path ws)
    each None are = are
    each (Some a) are = (refl, are)

upto : (v : Seen) (front back : List Hold) (x : Hold) → AreHeld v (front ++ x ∷ back) → AreHeld v (front ++ x ∷ [])
upto v [] back x held = All-cons (λ h. holds v h ≡ true) x [] (All-head (λ h. holds v h ≡ true) x back held) (All-nil (λ h. holds v h ≡ true))
upto v (z ∷ front) back x held =
    All-cons (λ h. holds v h ≡ true) z (front ++ x ∷ []) (All-head (λ h. holds v h ≡ true) z (front ++ x ∷ back) held) (upto v front back x (All-tail (λ h. holds v h ≡ true) z (front ++ x ∷ back) held))

-- the inode at a path with a want for each inode has its lock there
own_lock : (im : Image) (o : Owners) (l : Layout) (path : Path) (wants : List Want) (a : ℕ) (w : Want) → AreInOrder wants → slice_get wants (length path) ≡ Some w → IsAt im o l path a
    → holds_in im o l path wants ≡ holds_on (flat_of im o) l.root path (take (length path) wants) ++ hold_of a w.state ∷ holds_on (flat_of im o) l.root path (drop (suc (length path)) wants)
own_lock im o l path wants a w order wanted at =
    made_at (λ (x : Want). hold_for (follow (flat_of im o) l.root (take x.depth path)) x.state) wants (length path) w wanted
    ∙ ap (λ x. holds_on (flat_of im o) l.root path (take (length path) wants) ++ (hold_for x w.state ++ holds_on (flat_of im o) l.root path (drop (suc (length path)) wants)))
    (ap (λ k. follow (flat_of im o) l.root (take k path)) (order (length path) w wanted) ∙ ap (follow (flat_of im o) l.root) (take-length path) ∙ at)

module _ (v : Seen) (im : Image) (o : Owners) (l : Layout) (p q : Path) (first second : List Want) (order : AreInOrder second) (many : suc (length q) ≡ length second) where
  abbrev front_of : List Hold
  front_of = holds_on (flat_of im o) l.root q (take (length q) second)

  abbrev back_of : List Hold
  back_of = holds_on (flat_of im o) l.root q (drop (suc (length q)) second)

  listed : (a b : ℕ) (w : Want) → IsAt im o l p a → leads_to p q ≡ false → IsAt im o l q b → slice_get second (length q) ≡ Some w → IsListed (pair_holds im o l p q first second) (record { kind = 2; number = b })
  listed a b w at apart at' wanted =
      let goes : ends_both (flat_of im o) l.root p q ≡ false = ap (λ x. is_none x || leads_to p q) at ∙ apart in
      equal_so (pair_holds im o l p q first second) (merged (left_after false) (holds_in im o l p first) (front_of ++ hold_of b w.state ∷ back_of)) (record { kind = 2; number = b })
      (ap (λ e. merged (left_after e) (holds_in im o l p first) (holds_in im o l q second)) goes ∙ ap (merged (left_after false) (holds_in im o l p first)) (own_lock im o l q second b w order wanted at'))
      (in_merged (hold_of b w.state) refl (holds_in im o l p first) (are_inodes (flat_of im o) l.root p first) front_of back_of)

  pub second_among : (a b : ℕ) → IsAt im o l p a → leads_to p q ≡ false → IsAt im o l q b → AreHeld v (pair_holds im o l p q first second) → IsAmong v (pair_holds im o l p q first second) b
  second_among a b at apart at' held =
      let none : Want = record { second = false; depth = 0; state = Un } in
      let is = listed a b (get_or second (length q) none) at apart at' (slice_get-get_or second (length q) none (omega (arith, many))) in
      record {
        state = is.state;
        front = is.front;
        back = is.back;
        split = is.split;
        held = upto v is.front is.back (hold_of b is.state) (subst (AreHeld v) is.split held);
      }
