-- How many changes there are once blocks are freed and written.
use Rattle.std.proofs.Common.{◌≡◌, ℕ, ◌+◌, ◌-◌, ◌≤◌, Bool, true, false, cond, List, [], ◌∷◌, length, sym, ap, ◌∙◌, arith}
use Rattle.std.proofs.lemmas.Cmp.{nat_cmp_total}
use Rattle.std.specs.Ordering.{nat_cmp}
use Rattle.std.specs.FinMap as table
use Rattle.drafts.specs.declared.change.Written.{Written}
use Rattle.glock_names.specs.declared.LockName.{LockName}
use Rattle.log_tables.proofs.Counting.{gone, insert_removed, len_with}
use Rattle.log_values.specs.Log.{Version}
use Rattle.log_values.specs.Changes.{version_of, with_written, without_all}

abbrev Versions : Type 0
Versions = table.FinMap nat_cmp Version

pub one_fewer : {V : Type 0} (m : table.FinMap nat_cmp V) (b : ℕ) → table.len (table.remove m b) ≤ table.len m
one_fewer m b = by (table.contains_key m b) (table.len-remove nat_cmp_total m b)
  where
    by : (t : Bool) → table.len (table.remove m b) ≡ cond t (table.len m - 1) (table.len m) → table.len (table.remove m b) ≤ table.len m
    by true is = omega arith
    by false is = omega arith

pub freed_fewer : (bs : List ℕ) (m : Versions) → table.len (without_all bs m) ≤ table.len m
freed_fewer [] m = omega arith
freed_fewer (b ∷ bs) m = let rest = freed_fewer bs (table.remove m b) in let less = one_fewer m b in omega arith

pub inserted_len : (m : Versions) (b : ℕ) (v : Version) → table.len (table.insert m b v) ≡ table.len (table.remove m b) + 1
inserted_len m b v = ap (λ (n : Versions). table.len n) (sym (insert_removed m b v)) ∙ len_with (table.remove m b) b v (gone m b)

-- each block that is written is at most one more, and none is one less
pub written_within : (ws : List Written) (ls : List LockName) (m : Versions) → table.len (with_written ws ls m) ≤ table.len m + length ws
written_within [] ls m = omega arith
written_within (w ∷ ws) [] m = omega arith
written_within (w ∷ ws) (l ∷ ls) m =
    let rest = written_within ws ls (table.insert m w.block (version_of w l)) in
    let more = inserted_len m w.block (version_of w l) in
    let less = one_fewer m w.block in
    omega arith

pub written_grows : (ws : List Written) (ls : List LockName) (m : Versions) → table.len m ≤ table.len (with_written ws ls m)
written_grows [] ls m = omega arith
written_grows (w ∷ ws) [] m = omega arith
written_grows (w ∷ ws) (l ∷ ls) m =
    let rest = written_grows ws ls (table.insert m w.block (version_of w l)) in
    let more = by (table.contains_key m w.block) (table.len-insert nat_cmp_total m w.block (version_of w l)) in
    omega arith
  where
    by : (t : Bool) → table.len (table.insert m w.block (version_of w l)) ≡ cond t (table.len m) (table.len m + 1) → table.len m ≤ table.len (table.insert m w.block (version_of w l))
    by true is = omega arith
    by false is = omega arith
