-- The locks of two paths as one list: which comes next, and what is left once it is held, in an image that the view may be of.
use Rattle.std.proofs.Common.{◌≡◌, ◌≢◌, inl, inr, ℕ, ◌+◌, ◌<◌, Bool, true, false, List, [], ◌∷◌, ◌++◌, length, take, slice_get, get_or, None, Some, refl, sym, ap, ap₂, subst, ◌∙◌, arith}
use Rattle.std.proofs.lemmas.List.{append_assoc, append-nil}
use Rattle.std.proofs.lemmas.List.Elements.{All-push}
use Rattle.std.proofs.lemmas.Option.{slice_get-get_or}
use Rattle.std.specs.Prelude.{◌||◌, is_none}
use Rattle.file_tree.specs.Names.{leads_to}
use Rattle.file_tree.specs.Tree.{Tree}
use Rattle.file_tree.specs.declared.reply.Reply.TheVariants.{NotFound, NotDir}
use Rattle.glock_names.specs.Views.{Seen}
use Rattle.glock_names.specs.declared.State.{State}
use Rattle.glock_names.specs.declared.State.TheVariants.{Un}
use Rattle.glock_names.specs.declared.steps.Missing.{Missing}
use Rattle.call_locks.specs.declared.want.Want.{Want}
use Rattle.dinode_tree.specs.Walking.{missing_dinode}
use Rattle.image_model.specs.Flat.{Path, follow}
use Rattle.image_model.specs.Image.{Image}
use Rattle.image_model.specs.Owners.{Owners, holding}
use Rattle.image_model.specs.Stands.{Layout, flat_of}
use Rattle.image_changes.specs.Does.{IsOf}
use Rattle.image_changes.specs.Instances.{IsAt}
use Rattle.path_walks.specs.Holds.{Hold, AreHeld, IsAskedFor, IsFirstLack, hold_of, holds}
use Rattle.path_walks.specs.Walks.{AreInOrder, IsNeededIn}
use Rattle.path_walks.proofs.Asked.{IsAmong, name_asked}
use Rattle.path_walks.proofs.Images.{dinode_plain, dinode_used, is_inode, is_shown, lock_of_inode, shown_directory}
use Rattle.pair_walks.specs.Orders.{ends_both, left_after, merged, pair_holds, stronger}
use Rattle.pair_walks.specs.Turns.{IsBefore, IsHindered, IsNowhere, IsOver, LetsSecond, decides}
use Rattle.pair_walks.specs.Walks.{IsPairWalked}
use Rattle.pair_walks.specs.Ways.{AreAlong, IsComeIn, IsLeft, holds_from, left_of}
use Rattle.pair_walks.specs.declared.next.Next.{Next}
use Rattle.pair_walks.specs.declared.next.Next.TheVariants as next
use Rattle.pair_walks.specs.declared.walk.End.{End}
use Rattle.pair_walks.specs.declared.walk.End.TheVariants as end
use Rattle.pair_walks.specs.declared.walk.PairWalk.{PairWalk}
use Rattle.pair_walks.specs.declared.walk.PairWalk.TheVariants as pair
use Rattle.pair_walks.proofs.ComingIn.{lacks_last, leads_nowhere, lock_next, refused_longer}
use Rattle.pair_walks.proofs.Merging.{both_next, first_alone, first_before, second_before}

-- one lock more of what is left is held
pub one_held : (v : Seen) (list later : List Hold) (h : Hold) → IsLeft v list (h ∷ later) → holds v h ≡ true → IsLeft v list later
one_held v list later h left held = record {
  taken = left.taken ++ h ∷ [];
  held = All-push (λ x. holds v x ≡ true) left.taken h left.held held;
  whole = left.whole ∙ sym (append_assoc left.taken (h ∷ []) later);
}

-- nothing is left
pub all_held : (v : Seen) (list : List Hold) → IsLeft v list [] → AreHeld v list
all_held v list left = subst (AreHeld v) (sym (left.whole ∙ append-nil left.taken)) left.held

module _ (v : Seen) (im : Image) (o : Owners) (l : Layout) (t : Tree) (of : IsOf v im o l t) where
  -- ---- the next lock of the list

  module _ (list later : List Hold) (names : Path) (depth a : ℕ) (at : IsAt im o l (take depth names) a) (state : State) (left : IsLeft v list (hold_of a state ∷ later)) where
    among : holds v (hold_of a state) ≡ true → IsAmong v list a
    among held = record {
      state = state;
      front = left.taken;
      back = later;
      split = left.whole;
      held = All-push (λ x. holds v x ≡ true) left.taken (hold_of a state) left.held held;
    }

    pub lacks_first : holds v (hold_of a state) ≡ false → IsFirstLack v list (record { kind = 2; number = a }) state
    lacks_first lacks = record { front = left.taken; back = later; split = left.whole; held = left.held; lacks = lacks }

    pub asks_dinode : holds v (hold_of a state) ≡ true → v.block_at a ≡ None → IsAskedFor v im o l list (missing_dinode a)
    asks_dinode held absent = record {
      absent = absent;
      covered = lock_of_inode v im o l t of (take depth names) a at;
      used = dinode_used (o a) (is_inode v im o l t of (take depth names) a at);
      plain = sym (dinode_plain im o (o a) (is_inode v im o l t of (take depth names) a at));
      state = state;
      front = left.taken;
      back = later;
      split = left.whole;
      held = All-push (λ x. holds v x ≡ true) left.taken (hold_of a state) left.held held;
    }

    asks_name : holds v (hold_of a state) ≡ true → (n : List ℕ) (m : Missing) → IsNeededIn v a n m → IsAskedFor v im o l list m
    asks_name held n m needs =
        let dir = needs.directory (holding im o a) (is_shown v im o l t of (take depth names) a at) in
        name_asked v im o l t of (take depth names) a at list (among held) dir n m (needs.needed (holding im o a) (shown_directory v im o l t of (take depth names) a at dir))

    -- what stands in the way
    pub hindered_in : (p q : Path) (first second : List Want) → pair_holds im o l p q first second ≡ list → (w : PairWalk) → IsHindered v names depth a state w → IsPairWalked v im o l t p q first second w
    hindered_in p q first second is (pair.NeedLock lock s) (same, same', lacks) =
        subst (λ xs. IsFirstLack v xs lock s) (sym is) (subst (λ k. IsFirstLack v list k s) same (subst (IsFirstLack v list (record { kind = 2; number = a })) same' (lacks_first lacks)))
    hindered_in p q first second is (pair.NeedBlock m) (held, inl dinode) =
        subst (λ xs. IsAskedFor v im o l xs m) (sym is) (subst (IsAskedFor v im o l list) (sym dinode.0) (asks_dinode held dinode.1))
    hindered_in p q first second is (pair.NeedBlock m) (held, inr ahead) =
        subst (λ xs. IsAskedFor v im o l xs m) (sym is) (asks_name held ahead.1.0 m ahead.1.1.2)
    hindered_in p q first second is pair.NotFound none = absurd none
    hindered_in p q first second is pair.NotDir none = absurd none
    hindered_in p q first second is (pair.Within from) none = absurd none
    hindered_in p q first second is (pair.Apart from to) none = absurd none

  -- ---- ends

  module _ (p q : Path) where
    decided_by_first : follow (flat_of im o) l.root p ≡ None → ends_both (flat_of im o) l.root p q ≡ true
    decided_by_first none = ap (λ x. is_none x || leads_to p q) none

    decided_by_second : leads_to p q ≡ true → ends_both (flat_of im o) l.root p q ≡ true
    decided_by_second leads = ap (λ b. is_none (follow (flat_of im o) l.root p) || b) leads ∙ with_true (is_none (follow (flat_of im o) l.root p))
      where
        with_true : (b : Bool) → (b || true) ≡ true
        with_true true = refl
        with_true false = refl

    undecided : (a : ℕ) → IsAt im o l p a → leads_to p q ≡ false → ends_both (flat_of im o) l.root p q ≡ false
    undecided a at apart = ap (λ x. is_none x || leads_to p q) at ∙ apart

    -- the first way has ended so that it decides
    pub decided : p ≢ [] → (m : Next) (first : List Want) (i : ℕ) → IsComeIn v im o l t first p i m → decides (leads_to p q) m ≡ true → ends_both (flat_of im o) l.root p q ≡ true
    decided some (next.Inode b above) first i come is = cc
    decided some (next.Ended (end.At r)) first i come is = decided_by_second is
    decided some (next.Ended (end.Lacks r)) first i come is = decided_by_first (leads_nowhere v im o l t of NotFound p (lacks_last v im o l t of p r some come.0))
    decided some (next.Ended end.NotFound) first i come is = decided_by_first (leads_nowhere v im o l t of NotFound p (refused_longer t NotFound p some come.0))
    decided some (next.Ended end.NotDir) first i come is = decided_by_first (leads_nowhere v im o l t of NotDir p come.0)

    -- then nothing is left
    pub none_left : (first second : List Want) (i j : ℕ) → holds_from im o l p first i ≡ [] → ends_both (flat_of im o) l.root p q ≡ true → left_of im o l p q first second i j ≡ []
    none_left first second i j none is =
        ap (λ xs. merged (left_after (ends_both (flat_of im o) l.root p q)) xs (holds_from im o l q second j)) none ∙ ap (λ b. left_after b (holds_from im o l q second j)) is

    -- nor where both have ended
    pub none_of_both : (first second : List Want) (i j : ℕ) → holds_from im o l p first i ≡ [] → holds_from im o l q second j ≡ [] → left_of im o l p q first second i j ≡ []
    none_of_both first second i j none none' =
        ap₂ (λ xs ys. merged (left_after (ends_both (flat_of im o) l.root p q)) xs ys) none none' ∙ nothing (ends_both (flat_of im o) l.root p q)
      where
        nothing : (b : Bool) → left_after b [] ≡ []
        nothing true = refl
        nothing false = refl

    -- ---- which lock comes next

    module _ (first second : List Want) (first_many : length first ≡ length p + 1) (second_many : length second ≡ length q + 1) (first_order : AreInOrder first) (second_order : AreInOrder second) (i j : ℕ) (m n : Next) (along : AreAlong v im o l t p q first second i j m n) where
      abbrev L : List Hold → List Hold
      L = left_after (ends_both (flat_of im o) l.root p q)

      wanted : (ws : List Want) (k : ℕ) → k < length ws → (w : Want) × (slice_get ws k ≡ Some w)
      wanted ws k low = (get_or ws k (record { second = false; depth = 0; state = Un }), slice_get-get_or ws k (record { second = false; depth = 0; state = Un }) low)

      pub on_first_next : (a above : ℕ) (w : Want) → slice_get first i ≡ Some w → m ≡ next.Inode a above → IsBefore a n
          → IsLeft v (pair_holds im o l p q first second) (hold_of a w.state ∷ left_of im o l p q first second (i + 1) j)
      on_first_next a above w at is before = record {
        taken = along.left.taken;
        held = along.left.held;
        whole = along.left.whole ∙ ap (λ xs. along.left.taken ++ xs) (ap (λ xs. merged L xs (holds_from im o l q second j)) mine ∙ each n along.on_second before);
      }
        where
          come : IsComeIn v im o l t first p i (next.Inode a above)
          come = subst (IsComeIn v im o l t first p i) is along.on_first

          mine : holds_from im o l p first i ≡ hold_of a w.state ∷ holds_from im o l p first (i + 1)
          mine = lock_next v im o l t of first p first_many first_order i w a at come.1

          each : (x : Next) → IsComeIn v im o l t second q j x → IsBefore a x
              → merged L (hold_of a w.state ∷ holds_from im o l p first (i + 1)) (holds_from im o l q second j) ≡ hold_of a w.state ∷ left_of im o l p q first second (i + 1) j
          each (next.Ended e) come' before' = first_alone L (hold_of a w.state) (holds_from im o l p first (i + 1)) (holds_from im o l q second j) come'.1
          each (next.Inode b up) come' low =
              let x = wanted second j (omega (arith, second_many, come'.0)) in
              first_before L (hold_of a w.state) (hold_of b x.0.state) (holds_from im o l p first (i + 1)) (holds_from im o l q second j) (holds_from im o l q second (j + 1))
              (lock_next v im o l t of second q second_many second_order j x.0 b x.1 come'.1) low

      pub on_second_next : (a above : ℕ) (x : Want) → slice_get second j ≡ Some x → n ≡ next.Inode a above → LetsSecond a (leads_to p q) m
          → IsLeft v (pair_holds im o l p q first second) (hold_of a x.state ∷ left_of im o l p q first second i (j + 1))
      on_second_next a above x at is lets = record {
        taken = along.left.taken;
        held = along.left.held;
        whole = along.left.whole ∙ ap (λ xs. along.left.taken ++ xs) (ap (λ ys. merged L (holds_from im o l p first i) ys) its ∙ each m along.on_first lets);
      }
        where
          come : IsComeIn v im o l t second q j (next.Inode a above)
          come = subst (IsComeIn v im o l t second q j) is along.on_second

          its : holds_from im o l q second j ≡ hold_of a x.state ∷ holds_from im o l q second (j + 1)
          its = lock_next v im o l t of second q second_many second_order j x a at come.1

          each : (y : Next) → IsComeIn v im o l t first p i y → LetsSecond a (leads_to p q) y
              → merged L (holds_from im o l p first i) (hold_of a x.state ∷ holds_from im o l q second (j + 1)) ≡ hold_of a x.state ∷ left_of im o l p q first second i (j + 1)
          each (next.Inode b up) come' low =
              let w = wanted first i (omega (arith, first_many, come'.0)) in
              second_before L (hold_of b w.0.state) (hold_of a x.state) (holds_from im o l p first i) (holds_from im o l p first (i + 1)) (holds_from im o l q second (j + 1))
              (lock_next v im o l t of first p first_many first_order i w.0 b w.1 come'.1) low
          each (next.Ended (end.At r)) come' apart = second_alone (holds_from im o l p first i) come'.1
            where
              goes : ends_both (flat_of im o) l.root p q ≡ false
              goes = undecided r.inode come'.0.at apart

              second_alone : (xs : List Hold) → xs ≡ [] → merged L xs (hold_of a x.state ∷ holds_from im o l q second (j + 1)) ≡ hold_of a x.state ∷ merged L xs (holds_from im o l q second (j + 1))
              second_alone xs none = subst (λ zs. merged L zs (hold_of a x.state ∷ holds_from im o l q second (j + 1)) ≡ hold_of a x.state ∷ merged L zs (holds_from im o l q second (j + 1))) (sym none)
                  (ap (λ b. left_after b (hold_of a x.state ∷ holds_from im o l q second (j + 1))) goes ∙ ap (λ b. hold_of a x.state ∷ left_after b (holds_from im o l q second (j + 1))) (sym goes))
          each (next.Ended (end.Lacks r)) come' lets' = absurd lets'
          each (next.Ended end.NotFound) come' lets' = absurd lets'
          each (next.Ended end.NotDir) come' lets' = absurd lets'

      pub on_both_next : (a above beside : ℕ) (w x : Want) → slice_get first i ≡ Some w → slice_get second j ≡ Some x → m ≡ next.Inode a above → n ≡ next.Inode a beside
          → IsLeft v (pair_holds im o l p q first second) (hold_of a (stronger w.state x.state) ∷ left_of im o l p q first second (i + 1) (j + 1))
      on_both_next a above beside w x at at' is is' = record {
        taken = along.left.taken;
        held = along.left.held;
        whole = along.left.whole ∙ ap (λ xs. along.left.taken ++ xs) (
            ap₂ (λ xs ys. merged L xs ys)
            (lock_next v im o l t of first p first_many first_order i w a at (subst (IsComeIn v im o l t first p i) is along.on_first).1)
            (lock_next v im o l t of second q second_many second_order j x a at' (subst (IsComeIn v im o l t second q j) is' along.on_second).1)
            ∙ both_next L (hold_of a w.state) (hold_of a x.state) (holds_from im o l p first (i + 1)) (holds_from im o l q second (j + 1)) refl
            );
      }

      -- ---- how the walk is over

      all_taken : p ≢ [] → (x : Next) (e : End) → x ≡ next.Ended e → IsComeIn v im o l t first p i x → decides (leads_to p q) x ≡ true → AreHeld v (pair_holds im o l p q first second)
      all_taken some x e is come decides' =
          let ended = subst (IsComeIn v im o l t first p i) is come in
          all_held v (pair_holds im o l p q first second)
          (subst (IsLeft v (pair_holds im o l p q first second)) (none_left first second i j ended.1 (decided some x first i come decides')) along.left)

      pub over_in : p ≢ [] → (e : PairWalk) → IsOver m n (leads_to p q) e → IsPairWalked v im o l t p q first second e
      over_in some pair.NotFound over = nowhere m along.on_first over
        where
          nowhere : (x : Next) → IsComeIn v im o l t first p i x → IsNowhere x → IsPairWalked v im o l t p q first second pair.NotFound
          nowhere (next.Inode b above) come is = absurd is
          nowhere (next.Ended (end.At r)) come is = absurd is
          nowhere (next.Ended end.NotDir) come is = absurd is
          nowhere (next.Ended (end.Lacks r)) come is = (lacks_last v im o l t of p r some come.0, all_taken some (next.Ended (end.Lacks r)) (end.Lacks r) refl come refl)
          nowhere (next.Ended end.NotFound) come is = (refused_longer t NotFound p some come.0, all_taken some (next.Ended end.NotFound) end.NotFound refl come refl)
      over_in some pair.NotDir over =
          let come = subst (IsComeIn v im o l t first p i) over along.on_first in
          (come.0, all_taken some (next.Ended end.NotDir) end.NotDir refl come refl)
      over_in some (pair.Within r) over =
          let come = subst (IsComeIn v im o l t first p i) over.0 along.on_first in
          (over.1, come.0, all_taken some (next.Ended (end.At r)) (end.At r) refl come over.1)
      over_in some (pair.Apart r e) over =
          let come = subst (IsComeIn v im o l t first p i) over.0 along.on_first in
          let come' = subst (IsComeIn v im o l t second q j) over.1 along.on_second in
          (over.2, come.0, come'.0, all_held v (pair_holds im o l p q first second) (subst (IsLeft v (pair_holds im o l p q first second)) (none_of_both first second i j come.1 come'.1) along.left))
      over_in some (pair.NeedLock lock state) over = absurd over
      over_in some (pair.NeedBlock missing) over = absurd over
