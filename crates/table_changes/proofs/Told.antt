-- What is told of a table.
use Rattle.std.proofs.Common.{◌≡◌, ℕ, sym, subst}
use Rattle.gfs2_layout.specs.Holding.{Holding}
use Rattle.glock_names.specs.Steps.{IsDamage}
use Rattle.glock_names.specs.declared.steps.CallFault.{CallFault}
use Rattle.glock_names.specs.declared.steps.CallFault.TheVariants.{Damaged, NoMemory}
use Rattle.dinode_tree.specs.Broken as inode
use Rattle.table_files.specs.Pointers.{IsTableBroken, of_inode}

-- what an inode breaks its table does
pub table_damage : (h : Holding) (fault : CallFault) → IsDamage (inode.IsBroken h) fault → IsDamage (IsTableBroken h) fault
table_damage h (Damaged block rule) broken = of_inode rule block broken
table_damage h NoMemory broken = broken

pub table_told : (h : Holding) (fault : CallFault) (b rule : ℕ) → fault ≡ Damaged b rule → IsTableBroken h rule b → IsDamage (IsTableBroken h) fault
table_told h fault b rule is broken = subst (IsDamage (IsTableBroken h)) (sym is) broken
