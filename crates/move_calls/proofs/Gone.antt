-- What is asked for once names have gone: a group's block, or one of a directory.
use Rattle.std.proofs.Common.{◌≡◌, ◌≢◌, ◌⊎◌, inl, inr, ℕ, List, [], Option, None, Some, ap, arith}
use Rattle.std.specs.Prelude.{Contains, IfNone, IsSome}
use Rattle.drafts.specs.declared.change.Change.{Change}
use Rattle.gfs2_layout.specs.Holding.{Holding}
use Rattle.glock_names.specs.Views.{Seen}
use Rattle.glock_names.specs.declared.LockName.{LockName}
use Rattle.glock_names.specs.declared.steps.Missing.{Missing}
use Rattle.dinode_tree.specs.Reading.{inode_lock}
use Rattle.resource_groups.specs.Freeing.{IsNeededFor}
use Rattle.resource_groups.specs.Putting.{HasDataBlock}
use Rattle.name_moves.specs.Moving.{AreApart, IsNeededIn, Move, lost_there}
use Rattle.move_calls.specs.Carrying.{HasRoom, IsOffWay, IsStuck, NeedsBlock}

pub none_in : (b : ℕ) → Contains [] b → ⊥
none_in b there = omega (arith, there.1)

not_both : (n : Missing) (dir : ℕ) → n.lock ≡ inode_lock dir → n.lock.kind ≡ 3 → ⊥
not_both n dir of_inode of_group = omega (arith, of_group, ap (λ (k : LockName). k.kind) of_inode)

module _ (v : Seen) (m : Move) (blocks : List ℕ) (n : Missing) where
  of_directory : IsNeededIn v m blocks n → n.lock.kind ≢ 3 → IsNeededIn v m [] n
  of_directory (IsNeededIn.to_go dir names name under one after) not = IsNeededIn.to_go dir names name under one after
  of_directory (IsNeededIn.to_come under after) not = IsNeededIn.to_come under after
  of_directory (IsNeededIn.in_group (g, has, some)) not = absurd (not (ap (λ (k : LockName). k.kind) some.3.block.lock))

-- a move of which no draft was made in its blocks
pub stuck_in : (v : Seen) (node : ℕ) (m : Move) (need : ℕ) (room : List ℕ) → HasRoom v node m need room → IsOffWay v m room → (done : Option Change)
    → ((source target inode : Holding) → AreApart v m room source target inode → IsSome done) → IfNone done (IsStuck v node m)
stuck_in v node m need room has off None able = IsStuck.not_apart need room has off (λ source target inode apart. none (able source target inode apart))
  where
    none : IsSome {T = Change} None → ⊥
    none e = cc
stuck_in v node m need room has off (Some change) able = tt

module _ (v : Seen) (node : ℕ) (m : Move) (n : Missing) (gone : lost_there m ≢ []) where
  pub astray : (blocks : List ℕ) → IsNeededIn v m blocks n → (n.lock.kind ≢ 3) × (¬ (HasDataBlock v n.block)) → IsStuck v node m
  astray blocks needed not = IsStuck.leads_astray n gone (of_directory v m blocks n needed not.0) not.1

  pub within : (blocks : List ℕ) → (IsNeededFor v blocks n → NeedsBlock v node m n) → IsNeededIn v m blocks n → (n.lock.kind ≡ 3) ⊎ HasDataBlock v n.block → NeedsBlock v node m n
  within blocks groups (IsNeededIn.to_go dir names name under one after) (inl is) = absurd (not_both n dir under.lock is)
  within blocks groups (IsNeededIn.to_come under after) (inl is) = absurd (not_both n m.to.inode under.lock is)
  within blocks groups (IsNeededIn.in_group needed) is = groups needed
  within blocks groups (IsNeededIn.to_go dir names name under one after) (inr inside) = NeedsBlock.once_gone gone (IsNeededIn.to_go dir names name under one after) inside
  within blocks groups (IsNeededIn.to_come under after) (inr inside) = NeedsBlock.once_gone gone (IsNeededIn.to_come under after) inside
