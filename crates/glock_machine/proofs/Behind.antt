-- The locks behind one, of those that go down.
use Rattle.std.proofs.Common.{◌≡◌, ◌∙◌, ℕ, Bool, true, false, cond, List, Option, None, Some, is_some, refl, sym, ap, true≢false}
use Rattle.std.specs.declared.cmp.Ordering.{Ordering}
use Rattle.std.specs.declared.cmp.Ordering.TheVariants.{Less, Equal, Greater}
use Rattle.std.specs.Ordering.{is_eq, is_lt}
use Rattle.std.specs.Prelude.{option_and_then, IsSome}
use Rattle.std.specs.FinMap.{from_entries}
use Rattle.std.specs.List.Sorted.{IsStrictlySortedBy}
use Rattle.std.specs.Map.{lookup, keys_of}
use Rattle.glock_names.specs.declared.LockName.{LockName}
use Rattle.glock_names.specs.declared.State.{State}
use Rattle.glock_machine.specs.declared.glock.Glock.{Glock}
use Rattle.glock_machine.specs.Keys.{Key, key_of, key_cmp, lock_cmp}
use Rattle.glock_machine.specs.Table.{Table, down_of, goes_to}
use Rattle.glock_machine.proofs.Locks.{down_behind, first_down, get-locks, goes_at, least_at, nothing_at}

behind_by : (b u : Bool) (to : State) (o : Option Glock) → option_and_then (λ g. cond b (down_of u g) None) o ≡ Some to → (b ≡ true) × (option_and_then (down_of u) o ≡ Some to)
behind_by true u to o e = (refl, e)
behind_by false u to None e = cc
behind_by false u to (Some g) e = cc

from_less : (o : Ordering) → is_lt o ≡ true → o ≡ Less
from_less Less h = refl
from_less Equal h = absurd (true≢false (sym h))
from_less Greater h = absurd (true≢false (sym h))

goes_behind : (after q : Key) (u : Bool) (to : State) (o : Option Glock) → option_and_then (down_behind after u q) o ≡ Some to
    → (key_cmp after q ≡ Less) × (option_and_then (down_of u) o ≡ Some to)
goes_behind after q u to o e =
    let split : (is_lt (key_cmp after q) ≡ true) × (option_and_then (down_of u) o ≡ Some to) = behind_by (is_lt (key_cmp after q)) u to o e in
    (from_less (key_cmp after q) split.0, split.1)

same_behind : (after q : Key) (u : Bool) (o : Option Glock) → key_cmp after q ≡ Less → option_and_then (down_behind after u q) o ≡ option_and_then (down_of u) o
same_behind after q u o less = ap (λ c. option_and_then (λ g. cond (is_lt c) (down_of u g) None) o) less

-- ---- the first of the entries behind it that goes down

module _ (after : LockName) (u : Bool) (es : List (Key × Glock)) where
  abbrev seen : Table
  seen = record { locks = from_entries es; unmounting = u }

  at : (q : Key) → option_and_then (down_of u) (lookup (λ k. is_eq (key_cmp q k)) es) ≡ goes_to seen (record { kind = q.0; number = q.1 })
  at q = sym (ap (option_and_then (down_of u)) (get-locks es q))

  module _ (sorted : IsStrictlySortedBy key_cmp (keys_of es)) (k : Key) (to : State) (first : first_down (down_behind (key_of after) u) es ≡ Some (k, to)) where
    both : (key_cmp (key_of after) k ≡ Less) × (option_and_then (down_of u) (lookup (λ x. is_eq (key_cmp k x)) es) ≡ Some to)
    both = goes_behind (key_of after) k u to (lookup (λ x. is_eq (key_cmp k x)) es) (goes_at (down_behind (key_of after) u) es sorted k to first)

    pub first_goes : goes_to seen (record { kind = k.0; number = k.1 }) ≡ Some to
    first_goes = sym (at k) ∙ both.1

    pub first_behind : lock_cmp after (record { kind = k.0; number = k.1 }) ≡ Less
    first_behind = both.0

    pub first_least : (lock : LockName) → lock_cmp after lock ≡ Less → IsSome (goes_to seen lock) → key_cmp (key_of lock) k ≡ Less → ⊥
    first_least lock less goes = least_at (down_behind (key_of after) u) es sorted k to first (key_of lock)
        (ap is_some (same_behind (key_of after) (key_of lock) u (lookup (λ x. is_eq (key_cmp (key_of lock) x)) es) less ∙ at (key_of lock)) ∙ goes)

  pub none_behind : first_down (down_behind (key_of after) u) es ≡ None → (lock : LockName) → lock_cmp after lock ≡ Less → goes_to seen lock ≡ None
  none_behind none lock less = sym (at (key_of lock)) ∙ sym (same_behind (key_of after) (key_of lock) u (lookup (λ x. is_eq (key_cmp (key_of lock) x)) es) less)
      ∙ nothing_at (down_behind (key_of after) u) es none (key_of lock)
