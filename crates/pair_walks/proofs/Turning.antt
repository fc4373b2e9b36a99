-- One turn: past the inode that comes next on the first way, on the second, or on both.
use Rattle.std.proofs.Common.{◌≡◌, inl, inr, ℕ, ◌+◌, true, false, true≢false, List, [], ◌∷◌, refl, sym, ap, subst, ◌∙◌}
use Rattle.file_tree.specs.Names.{leads_to}
use Rattle.file_tree.specs.Tree.{Tree}
use Rattle.glock_names.specs.Views.{Seen}
use Rattle.glock_names.specs.declared.State.{State}
use Rattle.call_locks.specs.declared.want.Want.{Want}
use Rattle.image_model.specs.Flat.{Path}
use Rattle.image_model.specs.Image.{Image}
use Rattle.image_model.specs.Owners.{Owners}
use Rattle.image_model.specs.Stands.{Layout}
use Rattle.image_changes.specs.Does.{IsOf}
use Rattle.path_walks.specs.Holds.{hold_of, holds}
use Rattle.path_walks.specs.Walks.{IsHeldAt, IsNext}
use Rattle.path_walks.proofs.Walking.{IsWantedAt, held_at}
use Rattle.pair_walks.specs.Orders.{pair_holds, stronger}
use Rattle.pair_walks.specs.Turns.{IsBefore, IsDamagedAt, IsHindered, IsNowhere, IsOver, IsPassed, LetsSecond, decides}
use Rattle.pair_walks.specs.Walks.{ArePassed, GoesFirst, GoesSecond, IsPairDamage, IsPairLacked, IsPairTold, IsPairUnread, IsPairWalked}
use Rattle.pair_walks.specs.Ways.{AreAlong, AreOnTheirWays, IsCome, IsComeIn, IsComing, IsLeft, IsOnWay, left_of}
use Rattle.pair_walks.specs.declared.next.Next.{Next}
use Rattle.pair_walks.specs.declared.next.Next.TheVariants as next
use Rattle.pair_walks.specs.declared.walk.End.TheVariants as end
use Rattle.pair_walks.specs.declared.walk.PairWalk.{PairWalk}
use Rattle.pair_walks.specs.declared.walk.PairWalk.TheVariants as pair
use Rattle.pair_walks.proofs.Along.{decided, hindered_in, none_left, on_both_next, on_first_next, on_second_next, one_held, over_in}
use Rattle.pair_walks.proofs.Coming.{absent_last, absent_longer, comes, damaged, end_of, is_next, unread_ahead, unread_dinode}
use Rattle.pair_walks.proofs.ComingIn.{comes_in, is_sound}
use Rattle.pair_walks.proofs.States.{held_first, held_second}

-- the way behind the inode that came next
further : (v : Seen) (wants : List Want) (names : Path) (depth a above : ℕ) (state : State) (m : Next) → IsOnWay v wants names depth m → m ≡ next.Inode a above → IsHeldAt v wants depth a
    → (m' : Next) → IsPassed v names depth a above state m' → IsOnWay v wants names (depth + 1) m'
further v wants names depth a above state m on is held m' passed = record {
  names = on.names;
  as_many = on.as_many;
  order = on.order;
  come = comes v wants names depth a above (subst (IsCome v wants names depth) is on.come) held state m' passed;
}

module _ (v : Seen) (p q : Path) (first second : List Want) (i j : ℕ) (m n : Next) (on : AreOnTheirWays v p q first second i j m n) where
  coming_first : (a above : ℕ) → m ≡ next.Inode a above → IsComing v first p i a above
  coming_first a above is = subst (IsCome v first p i) is on.on_first.come

  coming_second : (a above : ℕ) → n ≡ next.Inode a above → IsComing v second q j a above
  coming_second a above is = subst (IsCome v second q j) is on.on_second.come

  -- ---- which way goes on

  goes_first : (a : ℕ) → IsBefore a n → GoesFirst v q second j a
  goes_first a = by n on.on_second.come
    where
      by : (x : Next) → IsCome v second q j x → IsBefore a x → GoesFirst v q second j a
      by (next.Inode c up) come before = GoesFirst.comes_later c (is_next v second q j c up come) before
      by (next.Ended e) come before = GoesFirst.ended e come

  goes_second : (a : ℕ) → LetsSecond a (leads_to p q) m → GoesSecond v p q first i a
  goes_second a = by m on.on_first.come
    where
      by : (x : Next) → IsCome v first p i x → LetsSecond a (leads_to p q) x → GoesSecond v p q first i a
      by (next.Inode c up) come lets = GoesSecond.comes_later c (is_next v first p i c up come) lets
      by (next.Ended (end.At r)) come lets = GoesSecond.at_end r come.0 come.1 lets
      by (next.Ended (end.Lacks r)) come lets = absurd lets
      by (next.Ended end.NotFound) come lets = absurd lets
      by (next.Ended end.NotDir) come lets = absurd lets

  -- so many are passed, since the first way hasn't ended, or not so that it decides
  passed_first : (a above : ℕ) → m ≡ next.Inode a above → ArePassed v p q first second i j
  passed_first a above is = on.passed (ap (decides (leads_to p q)) is)

  passed_second : (a : ℕ) → LetsSecond a (leads_to p q) m → ArePassed v p q first second i j
  passed_second a lets = on.passed (by m lets)
    where
      by : (x : Next) → LetsSecond a (leads_to p q) x → decides (leads_to p q) x ≡ false
      by (next.Inode c up) lets = refl
      by (next.Ended (end.At r)) lets = lets
      by (next.Ended (end.Lacks r)) lets = absurd lets
      by (next.Ended end.NotFound) lets = absurd lets
      by (next.Ended end.NotDir) lets = absurd lets

  -- ---- over

  pub over_told : (e : PairWalk) → IsOver m n (leads_to p q) e → IsPairTold v p q first second e
  over_told pair.NotFound over = nowhere m on.on_first.come over
    where
      nowhere : (x : Next) → IsCome v first p i x → IsNowhere x → IsPairTold v p q first second pair.NotFound
      nowhere (next.Inode b above) come is = absurd is
      nowhere (next.Ended (end.At r)) come is = absurd is
      nowhere (next.Ended end.NotDir) come is = absurd is
      nowhere (next.Ended (end.Lacks r)) come is = absent_last v first p r on.on_first.names come.1 come.2
      nowhere (next.Ended end.NotFound) come is = absent_longer v first p on.on_first.names come.0
  over_told pair.NotDir over = end_of v first p i end.NotDir (subst (IsCome v first p i) over on.on_first.come)
  over_told (pair.Within r) over = (over.1, (subst (IsCome v first p i) over.0 on.on_first.come).0)
  over_told (pair.Apart r e) over = (over.2, (subst (IsCome v first p i) over.0 on.on_first.come).0, end_of v second q j e (subst (IsCome v second q j) over.1 on.on_second.come))
  over_told (pair.NeedLock lock state) over = absurd over
  over_told (pair.NeedBlock missing) over = absurd over

  module _ (im : Image) (o : Owners) (l : Layout) (t : Tree) (of : IsOf v im o l t) where
    along : AreAlong v im o l t p q first second i j m n
    along = on.images im o l t of

    pub over_walked : (e : PairWalk) → IsOver m n (leads_to p q) e → IsPairWalked v im o l t p q first second e
    over_walked e over = over_in v im o l t of p q first second on.on_first.as_many on.on_second.as_many on.on_first.order on.on_second.order i j m n along on.on_first.names e over

    come_first : (a above : ℕ) → m ≡ next.Inode a above → IsComeIn v im o l t first p i (next.Inode a above)
    come_first a above is = subst (IsComeIn v im o l t first p i) is along.on_first

    come_second : (a above : ℕ) → n ≡ next.Inode a above → IsComeIn v im o l t second q j (next.Inode a above)
    come_second a above is = subst (IsComeIn v im o l t second q j) is along.on_second

    pub first_sound : (a above : ℕ) (s : State) → m ≡ next.Inode a above → (rule b : ℕ) → IsDamagedAt v p i a s rule b → ⊥
    first_sound a above s is rule b = is_sound v im o l t of first p on.on_first.as_many on.on_first.order i a (come_first a above is).1 s rule b

    pub second_sound : (a above : ℕ) (s : State) → n ≡ next.Inode a above → (rule b : ℕ) → IsDamagedAt v q j a s rule b → ⊥
    second_sound a above s is rule b = is_sound v im o l t of second q on.on_second.as_many on.on_second.order j a (come_second a above is).1 s rule b

    first_left : (a above : ℕ) (s : State) (wanted : IsWantedAt first i s) → m ≡ next.Inode a above → IsBefore a n
        → IsLeft v (pair_holds im o l p q first second) (hold_of a s ∷ left_of im o l p q first second (i + 1) j)
    first_left a above s wanted is before =
        subst (λ x. IsLeft v (pair_holds im o l p q first second) (hold_of a x ∷ left_of im o l p q first second (i + 1) j)) wanted.is
        (on_first_next v im o l t of p q first second on.on_first.as_many on.on_second.as_many on.on_first.order on.on_second.order i j m n along a above wanted.want wanted.at is before)

    second_left : (a above : ℕ) (s : State) (wanted : IsWantedAt second j s) → n ≡ next.Inode a above → LetsSecond a (leads_to p q) m
        → IsLeft v (pair_holds im o l p q first second) (hold_of a s ∷ left_of im o l p q first second i (j + 1))
    second_left a above s wanted is lets =
        subst (λ x. IsLeft v (pair_holds im o l p q first second) (hold_of a x ∷ left_of im o l p q first second i (j + 1))) wanted.is
        (on_second_next v im o l t of p q first second on.on_first.as_many on.on_second.as_many on.on_first.order on.on_second.order i j m n along a above wanted.want wanted.at is lets)

    both_left : (a above beside : ℕ) (r s : State) (wanted : IsWantedAt first i r) (wanted' : IsWantedAt second j s) → m ≡ next.Inode a above → n ≡ next.Inode a beside
        → IsLeft v (pair_holds im o l p q first second) (hold_of a (stronger r s) ∷ left_of im o l p q first second (i + 1) (j + 1))
    both_left a above beside r s wanted wanted' is is' =
        subst (λ y. IsLeft v (pair_holds im o l p q first second) (hold_of a (stronger r y) ∷ left_of im o l p q first second (i + 1) (j + 1))) wanted'.is
        (subst (λ x. IsLeft v (pair_holds im o l p q first second) (hold_of a (stronger x wanted'.want.state) ∷ left_of im o l p q first second (i + 1) (j + 1))) wanted.is
        (on_both_next v im o l t of p q first second on.on_first.as_many on.on_second.as_many on.on_first.order on.on_second.order i j m n along a above beside wanted.want wanted'.want wanted.at wanted'.at is is'))

  -- ---- on the first way

  module _ (a above : ℕ) (s : State) (is : m ≡ next.Inode a above) (wanted : IsWantedAt first i s) where
    pub first_damaged : (rule b : ℕ) → IsDamagedAt v p i a s rule b → IsPairDamage v p q first second rule b
    first_damaged rule b hurt = inl (damaged v first p i a above (coming_first a above is) (held_at v first i a s wanted hurt.0) s rule b hurt)

    pub first_told : IsBefore a n → (w : PairWalk) → IsHindered v p i a s w → IsPairTold v p q first second w
    first_told before (pair.NeedLock lock x) (same, same', lacks) =
        subst (λ k. IsPairLacked v p q first second k x) same (subst (IsPairLacked v p q first second (record { kind = 2; number = a })) same'
        (subst (IsPairLacked v p q first second (record { kind = 2; number = a })) wanted.is
        (IsPairLacked.on_first i j a wanted.want (passed_first a above is) (is_next v first p i a above (coming_first a above is)) wanted.at (goes_first a before) (ap (λ x. holds v (hold_of a x)) wanted.is ∙ lacks))))
    first_told before (pair.NeedBlock x) (held, inl dinode) =
        subst (IsPairUnread v p q first second) (sym dinode.0)
        (IsPairUnread.on_first i j a (passed_first a above is) (unread_dinode v first p i a above (coming_first a above is) (held_at v first i a s wanted held) dinode.1) (inl (goes_first a before)))
    first_told before (pair.NeedBlock x) (held, inr ahead) =
        IsPairUnread.on_first i j a (passed_first a above is) (unread_ahead v first p i a above (coming_first a above is) (held_at v first i a s wanted held) x ahead.0 ahead.1) (inl (goes_first a before))
    first_told before pair.NotFound none = absurd none
    first_told before pair.NotDir none = absurd none
    first_told before (pair.Within from) none = absurd none
    first_told before (pair.Apart from to) none = absurd none

    pub first_walked : IsBefore a n → (w : PairWalk) → IsHindered v p i a s w → (im : Image) (o : Owners) (l : Layout) (t : Tree) → IsOf v im o l t → IsPairWalked v im o l t p q first second w
    first_walked before w hindered im o l t of =
        hindered_in v im o l t of (pair_holds im o l p q first second) (left_of im o l p q first second (i + 1) j) p i a (come_first im o l t of a above is).1 s
        (first_left im o l t of a above s wanted is before) p q first second refl w hindered

    pub first_goes : IsBefore a n → (m' : Next) → IsPassed v p i a above s m' → AreOnTheirWays v p q first second (i + 1) j m' n
    first_goes before m' passed = record {
      passed = λ undecided. ArePassed.of_first i j a (passed_first a above is) (is_next v first p i a above (coming_first a above is)) (goes_first a before);
      on_first = further v first p i a above s m on.on_first is (held_at v first i a s wanted passed.read.held) m' passed;
      on_second = on.on_second;
      images = λ im o l t of. record {
        on_first = comes_in v im o l t of first p on.on_first.as_many on.on_first.order i a above (come_first im o l t of a above is).1 (come_first im o l t of a above is).2 passed.place s passed.read m' passed.ahead;
        on_second = (along im o l t of).on_second;
        left = one_held v (pair_holds im o l p q first second) (left_of im o l p q first second (i + 1) j) (hold_of a s) (first_left im o l t of a above s wanted is before) passed.read.held;
      };
    }

  -- ---- on the second way

  module _ (a above : ℕ) (s : State) (is : n ≡ next.Inode a above) (wanted : IsWantedAt second j s) where
    pub second_damaged : (rule b : ℕ) → IsDamagedAt v q j a s rule b → IsPairDamage v p q first second rule b
    second_damaged rule b hurt = inr (damaged v second q j a above (coming_second a above is) (held_at v second j a s wanted hurt.0) s rule b hurt)

    pub second_told : LetsSecond a (leads_to p q) m → (w : PairWalk) → IsHindered v q j a s w → IsPairTold v p q first second w
    second_told lets (pair.NeedLock lock x) (same, same', lacks) =
        subst (λ k. IsPairLacked v p q first second k x) same (subst (IsPairLacked v p q first second (record { kind = 2; number = a })) same'
        (subst (IsPairLacked v p q first second (record { kind = 2; number = a })) wanted.is
        (IsPairLacked.on_second i j a wanted.want (passed_second a lets) (is_next v second q j a above (coming_second a above is)) wanted.at (goes_second a lets) (ap (λ x. holds v (hold_of a x)) wanted.is ∙ lacks))))
    second_told lets (pair.NeedBlock x) (held, inl dinode) =
        subst (IsPairUnread v p q first second) (sym dinode.0)
        (IsPairUnread.on_second i j a (passed_second a lets) (unread_dinode v second q j a above (coming_second a above is) (held_at v second j a s wanted held) dinode.1) (inl (goes_second a lets)))
    second_told lets (pair.NeedBlock x) (held, inr ahead) =
        IsPairUnread.on_second i j a (passed_second a lets) (unread_ahead v second q j a above (coming_second a above is) (held_at v second j a s wanted held) x ahead.0 ahead.1) (inl (goes_second a lets))
    second_told lets pair.NotFound none = absurd none
    second_told lets pair.NotDir none = absurd none
    second_told lets (pair.Within from) none = absurd none
    second_told lets (pair.Apart from to) none = absurd none

    pub second_walked : LetsSecond a (leads_to p q) m → (w : PairWalk) → IsHindered v q j a s w → (im : Image) (o : Owners) (l : Layout) (t : Tree) → IsOf v im o l t → IsPairWalked v im o l t p q first second w
    second_walked lets w hindered im o l t of =
        hindered_in v im o l t of (pair_holds im o l p q first second) (left_of im o l p q first second i (j + 1)) q j a (come_second im o l t of a above is).1 s
        (second_left im o l t of a above s wanted is lets) p q first second refl w hindered

    pub second_goes : LetsSecond a (leads_to p q) m → (n' : Next) → IsPassed v q j a above s n' → AreOnTheirWays v p q first second i (j + 1) m n'
    second_goes lets n' passed = record {
      passed = λ undecided. ArePassed.of_second i j a (passed_second a lets) (is_next v second q j a above (coming_second a above is)) (goes_second a lets);
      on_first = on.on_first;
      on_second = further v second q j a above s n on.on_second is (held_at v second j a s wanted passed.read.held) n' passed;
      images = λ im o l t of. record {
        on_first = (along im o l t of).on_first;
        on_second = comes_in v im o l t of second q on.on_second.as_many on.on_second.order j a above (come_second im o l t of a above is).1 (come_second im o l t of a above is).2 passed.place s passed.read n' passed.ahead;
        left = one_held v (pair_holds im o l p q first second) (left_of im o l p q first second i (j + 1)) (hold_of a s) (second_left im o l t of a above s wanted is lets) passed.read.held;
      };
    }

  -- ---- on both

  module _ (a above beside : ℕ) (r s : State) (is : m ≡ next.Inode a above) (is' : n ≡ next.Inode a beside) (wanted : IsWantedAt first i r) (wanted' : IsWantedAt second j s) where
    first_held : holds v (hold_of a (stronger r s)) ≡ true → IsHeldAt v first i a
    first_held held = held_at v first i a r wanted (held_first v a r s held)

    second_held : holds v (hold_of a (stronger r s)) ≡ true → IsHeldAt v second j a
    second_held held = held_at v second j a s wanted' (held_second v a r s held)

    pub both_damaged : (rule b : ℕ) → IsDamagedAt v p i a (stronger r s) rule b → IsPairDamage v p q first second rule b
    both_damaged rule b hurt = inl (damaged v first p i a above (coming_first a above is) (first_held hurt.0) (stronger r s) rule b hurt)

    pub both_damaged_beside : (rule b : ℕ) → IsDamagedAt v q j a (stronger r s) rule b → IsPairDamage v p q first second rule b
    both_damaged_beside rule b hurt = inr (damaged v second q j a beside (coming_second a beside is') (second_held hurt.0) (stronger r s) rule b hurt)

    lacked_on_both : holds v (hold_of a (stronger r s)) ≡ false → IsPairLacked v p q first second (record { kind = 2; number = a }) (stronger r s)
    lacked_on_both lacks =
        subst (λ y. IsPairLacked v p q first second (record { kind = 2; number = a }) (stronger r y)) wanted'.is
        (subst (λ x. IsPairLacked v p q first second (record { kind = 2; number = a }) (stronger x wanted'.want.state)) wanted.is
        (IsPairLacked.on_both i j a wanted.want wanted'.want (passed_first a above is) (is_next v first p i a above (coming_first a above is)) (is_next v second q j a beside (coming_second a beside is')) wanted.at wanted'.at
        (ap (λ x. holds v (hold_of a (stronger x wanted'.want.state))) wanted.is ∙ ap (λ y. holds v (hold_of a (stronger r y))) wanted'.is ∙ lacks)))

    next_first : IsNext v first p i a
    next_first = is_next v first p i a above (coming_first a above is)

    next_second : IsNext v second q j a
    next_second = is_next v second q j a beside (coming_second a beside is')

    pub both_told : (w : PairWalk) → IsHindered v p i a (stronger r s) w → IsPairTold v p q first second w
    both_told (pair.NeedLock lock x) (same, same', lacks) =
        subst (λ k. IsPairLacked v p q first second k x) same (subst (IsPairLacked v p q first second (record { kind = 2; number = a })) same' (lacked_on_both lacks))
    both_told (pair.NeedBlock x) (held, inl dinode) =
        subst (IsPairUnread v p q first second) (sym dinode.0) (IsPairUnread.on_first i j a (passed_first a above is) (unread_dinode v first p i a above (coming_first a above is) (first_held held) dinode.1) (inr next_second))
    both_told (pair.NeedBlock x) (held, inr ahead) = IsPairUnread.on_first i j a (passed_first a above is) (unread_ahead v first p i a above (coming_first a above is) (first_held held) x ahead.0 ahead.1) (inr next_second)
    both_told pair.NotFound none = absurd none
    both_told pair.NotDir none = absurd none
    both_told (pair.Within from) none = absurd none
    both_told (pair.Apart from to) none = absurd none

    pub both_told_beside : (w : PairWalk) → IsHindered v q j a (stronger r s) w → IsPairTold v p q first second w
    both_told_beside (pair.NeedLock lock x) (same, same', lacks) =
        subst (λ k. IsPairLacked v p q first second k x) same (subst (IsPairLacked v p q first second (record { kind = 2; number = a })) same' (lacked_on_both lacks))
    both_told_beside (pair.NeedBlock x) (held, inl dinode) =
        subst (IsPairUnread v p q first second) (sym dinode.0) (IsPairUnread.on_second i j a (passed_first a above is) (unread_dinode v second q j a beside (coming_second a beside is') (second_held held) dinode.1) (inr next_first))
    both_told_beside (pair.NeedBlock x) (held, inr ahead) = IsPairUnread.on_second i j a (passed_first a above is) (unread_ahead v second q j a beside (coming_second a beside is') (second_held held) x ahead.0 ahead.1) (inr next_first)
    both_told_beside pair.NotFound none = absurd none
    both_told_beside pair.NotDir none = absurd none
    both_told_beside (pair.Within from) none = absurd none
    both_told_beside (pair.Apart from to) none = absurd none

    pub both_walked : (w : PairWalk) → IsHindered v p i a (stronger r s) w → (im : Image) (o : Owners) (l : Layout) (t : Tree) → IsOf v im o l t → IsPairWalked v im o l t p q first second w
    both_walked w hindered im o l t of =
        hindered_in v im o l t of (pair_holds im o l p q first second) (left_of im o l p q first second (i + 1) (j + 1)) p i a (come_first im o l t of a above is).1 (stronger r s)
        (both_left im o l t of a above beside r s wanted wanted' is is') p q first second refl w hindered

    pub both_walked_beside : (w : PairWalk) → IsHindered v q j a (stronger r s) w → (im : Image) (o : Owners) (l : Layout) (t : Tree) → IsOf v im o l t → IsPairWalked v im o l t p q first second w
    both_walked_beside w hindered im o l t of =
        hindered_in v im o l t of (pair_holds im o l p q first second) (left_of im o l p q first second (i + 1) (j + 1)) q j a (come_second im o l t of a beside is').1 (stronger r s)
        (both_left im o l t of a above beside r s wanted wanted' is is') p q first second refl w hindered

    module _ (m' : Next) (passed : IsPassed v p i a above (stronger r s) m') where
      on_first_further : IsOnWay v first p (i + 1) m'
      on_first_further = further v first p i a above (stronger r s) m on.on_first is (first_held passed.read.held) m' passed

      first_in : (im : Image) (o : Owners) (l : Layout) (t : Tree) → IsOf v im o l t → IsComeIn v im o l t first p (i + 1) m'
      first_in im o l t of =
          comes_in v im o l t of first p on.on_first.as_many on.on_first.order i a above (come_first im o l t of a above is).1 (come_first im o l t of a above is).2 passed.place (stronger r s) passed.read m' passed.ahead

      left_then : (im : Image) (o : Owners) (l : Layout) (t : Tree) → IsOf v im o l t → IsLeft v (pair_holds im o l p q first second) (left_of im o l p q first second (i + 1) (j + 1))
      left_then im o l t of =
          one_held v (pair_holds im o l p q first second) (left_of im o l p q first second (i + 1) (j + 1)) (hold_of a (stronger r s)) (both_left im o l t of a above beside r s wanted wanted' is is') passed.read.held

      -- the first way has ended, and so nothing is left of either
      pub both_end : decides (leads_to p q) m' ≡ true → AreOnTheirWays v p q first second (i + 1) j m' n
      both_end ends = record {
        passed = λ undecided. absurd (true≢false (sym ends ∙ undecided));
        on_first = on_first_further;
        on_second = on.on_second;
        images = λ im o l t of. record {
          on_first = first_in im o l t of;
          on_second = (along im o l t of).on_second;
          left = subst (IsLeft v (pair_holds im o l p q first second))
              (gone im o l t of m' (first_in im o l t of) ends (j + 1) ∙ sym (gone im o l t of m' (first_in im o l t of) ends j)) (left_then im o l t of);
        };
      }
        where
          gone : (im : Image) (o : Owners) (l : Layout) (t : Tree) → IsOf v im o l t → (x : Next) → IsComeIn v im o l t first p (i + 1) x → decides (leads_to p q) x ≡ true
              → (k : ℕ) → left_of im o l p q first second (i + 1) k ≡ []
          gone im o l t of (next.Inode b up) come is k = cc
          gone im o l t of (next.Ended e) come is k = none_left v im o l t of p q first second (i + 1) k come.1 (decided v im o l t of p q on.on_first.names (next.Ended e) first (i + 1) come is)

      pub both_go : (n' : Next) → IsPassed v q j a beside (stronger r s) n' → AreOnTheirWays v p q first second (i + 1) (j + 1) m' n'
      both_go n' passed' = record {
        passed = λ undecided. ArePassed.of_both i j a (passed_first a above is) next_first next_second;
        on_first = on_first_further;
        on_second = further v second q j a beside (stronger r s) n on.on_second is' (second_held passed'.read.held) n' passed';
        images = λ im o l t of. record {
          on_first = first_in im o l t of;
          on_second = comes_in v im o l t of second q on.on_second.as_many on.on_second.order j a beside (come_second im o l t of a beside is').1 (come_second im o l t of a beside is').2 passed'.place (stronger r s) passed'.read n' passed'.ahead;
          left = left_then im o l t of;
        };
      }
