-- What a turn answers, from what going past an inode answers.
use Rattle.std.proofs.Common.{◌≡◌, ℕ, ◌+◌, ◌<◌, ◌≤◌, List, length, Option, None, Some, Result, Ok, Err, refl, sym, ap, subst, arith}
use Rattle.std.specs.Prelude.{IfNone, IfOk, IfSome, slice_get}
use Rattle.glock_names.specs.Views.{Seen}
use Rattle.glock_names.specs.declared.State.{State}
use Rattle.glock_names.specs.declared.steps.CallFault.{CallFault}
use Rattle.call_locks.specs.declared.want.Want.{Want}
use Rattle.image_model.specs.Flat.{Path}
use Rattle.path_walks.proofs.Walking.{IsWantedAt, wanted_at}
use Rattle.pair_walks.specs.Ways.{AreOnTheirWays, AreUnderway, IsCome, IsOnWay, IsSameWay, left_on}
use Rattle.pair_walks.specs.declared.next.Next.{Next}
use Rattle.pair_walks.specs.declared.next.Next.TheVariants as next
use Rattle.pair_walks.specs.declared.turns.Way.{Way}
use Rattle.pair_walks.specs.declared.walk.PairWalk.{PairWalk}
use Rattle.pair_walks.proofs.Coming.{is_low}

-- ---- of each answer

pub none_so : (P Q R : Type 0) (r : Result (Option PairWalk) CallFault) → (P → Q → R) → IfOk r (λ s. IfNone s P) → IfOk r (λ s. IfNone s Q) → IfOk r (λ s. IfNone s R)
none_so P Q R (Ok None) so p q = so p q
none_so P Q R (Ok (Some w)) so p q = tt
none_so P Q R (Err e) so p q = tt

pub some_so : (P Q : PairWalk → Type 0) (r : Result (Option PairWalk) CallFault) → ((w : PairWalk) → P w → Q w) → IfOk r (λ s. IfSome s P) → IfOk r (λ s. IfSome s Q)
some_so P Q (Ok None) so p = tt
some_so P Q (Ok (Some w)) so p = so w p
some_so P Q (Err e) so p = tt

-- ---- what is so of two paths and their wants is so of equal ones

pub so_of : (P : Path → Path → List Want → List Want → Type 0) (p q p' q' : Path) (ws xs ws' xs' : List Want) → p ≡ p' → q ≡ q' → ws ≡ ws' → xs ≡ xs' → P p q ws xs → P p' q' ws' xs'
so_of P p q p' q' ws xs ws' xs' e f g h is = subst (λ x. P p' q' ws' x) h (subst (λ w. P p' q' w xs) g (subst (λ y. P p' y ws xs) f (subst (λ y. P y q ws xs) e is)))

-- ---- a way that went on

on_first : (v : Seen) (one : Way) (p q : Path) (ws xs : List Want) (i j : ℕ) (m n : Next) → one.names.now ≡ p → one.wants.now ≡ ws → one.depth ≡ i → one.next ≡ m
    → AreOnTheirWays v p q ws xs i j m n → AreOnTheirWays v one.names.now q one.wants.now xs one.depth j one.next n
on_first v one p q ws xs i j m n e f g h on =
    subst (λ y. AreOnTheirWays v y q one.wants.now xs one.depth j one.next n) (sym e)
    (subst (λ y. AreOnTheirWays v p q y xs one.depth j one.next n) (sym f)
    (subst (λ y. AreOnTheirWays v p q ws xs y j one.next n) (sym g)
    (subst (λ y. AreOnTheirWays v p q ws xs i j y n) (sym h) on)))

on_second : (v : Seen) (two : Way) (p q : Path) (ws xs : List Want) (i j : ℕ) (m n : Next) → two.names.now ≡ q → two.wants.now ≡ xs → two.depth ≡ j → two.next ≡ n
    → AreOnTheirWays v p q ws xs i j m n → AreOnTheirWays v p two.names.now ws two.wants.now i two.depth m two.next
on_second v two p q ws xs i j m n e f g h on =
    subst (λ y. AreOnTheirWays v p y ws two.wants.now i two.depth m two.next) (sym e)
    (subst (λ y. AreOnTheirWays v p q ws y i two.depth m two.next) (sym f)
    (subst (λ y. AreOnTheirWays v p q ws xs i y m two.next) (sym g)
    (subst (λ y. AreOnTheirWays v p q ws xs i j m y) (sym h) on)))

pub both_on : (v : Seen) (one two : Way) (p q : Path) (ws xs : List Want) (i j : ℕ) (m n : Next) → one.names.now ≡ p → one.wants.now ≡ ws → one.depth ≡ i → one.next ≡ m
    → two.names.now ≡ q → two.wants.now ≡ xs → two.depth ≡ j → two.next ≡ n → AreOnTheirWays v p q ws xs i j m n → AreUnderway v one two
both_on v one two p q ws xs i j m n e f g h e' f' g' h' on =
    on_first v one p two.names.now ws two.wants.now i two.depth m two.next e f g h (on_second v two p q ws xs i j m n e' f' g' h' on)

module _ (v : Seen) (one two one' : Way) (same : IsSameWay one one') (deeper : one'.depth ≡ one.depth + 1) where
  pub first_went : AreOnTheirWays v one.names.now two.names.now one.wants.now two.wants.now (one.depth + 1) two.depth one'.next two.next → AreUnderway v one' two
  first_went = on_first v one' one.names.now two.names.now one.wants.now two.wants.now (one.depth + 1) two.depth one'.next two.next same.names same.wants deeper refl

  pub second_went : AreOnTheirWays v two.names.now one.names.now two.wants.now one.wants.now two.depth (one.depth + 1) two.next one'.next → AreUnderway v two one'
  second_went = on_second v one' two.names.now one.names.now two.wants.now one.wants.now two.depth (one.depth + 1) two.next one'.next same.names same.wants deeper refl

  pub less_left : one.depth ≤ length one.names.now → left_on one' < left_on one
  less_left low = omega (arith, low, deeper, ap length same.names)

pub both_went : (v : Seen) (one two one' two' : Way) → IsSameWay one one' → IsSameWay two two' → one'.depth ≡ one.depth + 1 → two'.depth ≡ two.depth + 1
    → AreOnTheirWays v one.names.now two.names.now one.wants.now two.wants.now (one.depth + 1) (two.depth + 1) one'.next two'.next → AreUnderway v one' two'
both_went v one two one' two' same same' deeper deeper' =
    both_on v one' two' one.names.now two.names.now one.wants.now two.wants.now (one.depth + 1) (two.depth + 1) one'.next two'.next same.names same.wants deeper refl same'.names same'.wants deeper' refl

-- fewer on one way, or on both, are fewer in all
pub sum_less : (a b a' b' : ℕ) → a' < a → b' < b → a' + b' < a + b
sum_less a b a' b' low low' = omega (arith, low, low')

pub sum_first : (a b a' : ℕ) → a' < a → a' + b < a + b
sum_first a b a' low = omega (arith, low)

pub sum_second : (a b b' : ℕ) → b' < b → a + b' < a + b
sum_second a b b' low = omega (arith, low)

-- ---- the want of the inode that comes next

pub low_at : (v : Seen) (wants : List Want) (path : Path) (depth a above : ℕ) (n : Next) → IsOnWay v wants path depth n → n ≡ next.Inode a above → depth ≤ length path
low_at v wants path depth a above n on is = is_low v wants path depth a above (subst (IsCome v wants path depth) is on.come)

pub want_at : (v : Seen) (wants : List Want) (path : Path) (depth a above : ℕ) (n : Next) → IsOnWay v wants path depth n → n ≡ next.Inode a above → depth < length wants
want_at v wants path depth a above n on is = let low = low_at v wants path depth a above n on is in omega (arith, low, on.as_many)

pub wanted_next : (v : Seen) (wants : List Want) (path : Path) (depth a above : ℕ) (n : Next) → IsOnWay v wants path depth n → n ≡ next.Inode a above → (s : State)
    → ((w : Want) → slice_get wants depth ≡ Some w → w.state ≡ s) → IsWantedAt wants depth s
wanted_next v wants path depth a above n on is s so = wanted_at wants depth s (want_at v wants path depth a above n on is) so
