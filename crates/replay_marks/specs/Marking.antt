-- The marks of blocks, by their numbers.
use Rattle.std.specs.Prelude.{ℕ, ◌≡◌, ◌==◌, ◌&&◌, nat_le, nat_lt, Bool, true, List, get_or, replicate}
use Rattle.std.specs.List.{list_any}
use Rattle.drafts.specs.declared.change.Written.{Written}
use Rattle.replay_marks.specs.declared.marks.Hindrance.{Hindrance}
use Rattle.replay_marks.specs.declared.marks.Hindrance.TheVariants.{Astray, Twice}
use Rattle.replay_marks.specs.declared.marks.Mark.{Mark}
use Rattle.replay_marks.specs.declared.marks.Mark.TheVariants.{Barred, Live}

-- a block's mark; a block that the device doesn't have may not be written
abbrev pub mark_of : List Mark → ℕ → Mark
mark_of marks block = get_or marks block Barred

abbrev pub are_all_barred : ℕ → List Mark
are_all_barred count = replicate count Barred

abbrev pub is_between : ℕ → ℕ → ℕ → Bool
is_between from to block = nat_le from block && nat_lt block to

abbrev pub is_among : List ℕ → ℕ → Bool
is_among blocks block = list_any (λ b. b == block) blocks

-- one of these goes to the block
abbrev pub has_block : List Written → ℕ → Bool
has_block home block = list_any (λ (w : Written). w.block == block) home

-- what stands in the way at this block, by the marks
abbrev pub IsHinderedAt : List Mark → ℕ → Hindrance → Type 0
IsHinderedAt marks block (Astray b) = (b ≡ block) × (mark_of marks block ≡ Barred)
IsHinderedAt marks block (Twice b) = (b ≡ block) × (mark_of marks block ≡ Live)

-- and at one of these
abbrev pub HasHindrance : List Mark → List Written → Hindrance → Type 0
HasHindrance marks home (Astray b) = (has_block home b ≡ true) × (mark_of marks b ≡ Barred)
HasHindrance marks home (Twice b) = (has_block home b ≡ true) × (mark_of marks b ≡ Live)
