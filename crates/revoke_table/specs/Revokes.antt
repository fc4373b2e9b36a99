-- A table of revokes: a finite map from blocks to the greatest sequence of a transaction that revokes them.
use Rattle.std.specs.Prelude.{ℕ, Bool, false, List, [], ◌∷◌, max, nat_lt, unwrap_or}
use Rattle.std.specs.Option.{option_map_or}
use Rattle.std.specs.Ordering.{nat_cmp}
use Rattle.std.specs.FinMap.{FinMap, empty, get, insert}

abbrev pub Greatest : Type 0
Greatest = FinMap nat_cmp ℕ

-- the table, once the transaction of this sequence has revoked the block too
abbrev pub with_revoke : Greatest → ℕ → ℕ → Greatest
with_revoke table block sequence = insert table block (max sequence (unwrap_or (get table block) 0))

-- an entry of the block, in the transaction of this sequence, doesn't count
abbrev pub is_cancelled : Greatest → ℕ → ℕ → Bool
is_cancelled table block sequence = option_map_or (λ greatest. nat_lt sequence greatest) (get table block) false

-- the table of these revokes, each a block and a sequence, the last of them first
abbrev pub all_revoked : List (ℕ × ℕ) → Greatest
all_revoked [] = empty
all_revoked (r ∷ rs) = with_revoke (all_revoked rs) r.0 r.1
