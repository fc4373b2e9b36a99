-- Locks by kind, and then by number.
use Rattle.std.specs.Prelude.{ℕ}
use Rattle.std.specs.declared.cmp.Ordering.{Ordering}
use Rattle.std.specs.Ordering.{nat_cmp, ordering_then}
use Rattle.glock_names.specs.declared.LockName.{LockName}

abbrev pub Key : Type 0
Key = ℕ × ℕ

abbrev pub key_of : LockName → Key
key_of lock = (lock.kind, lock.number)

abbrev pub key_cmp : Key → Key → Ordering
key_cmp a b = ordering_then (nat_cmp a.0 b.0) (nat_cmp a.1 b.1)

abbrev pub lock_cmp : LockName → LockName → Ordering
lock_cmp a b = key_cmp (key_of a) (key_of b)
