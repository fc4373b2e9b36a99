-- What is told of a directory's dinode.
use Rattle.std.proofs.Common.{◌≡◌, ℕ, sym, subst}
use Rattle.gfs2_layout.specs.Holding.{Holding}
use Rattle.glock_names.specs.Steps.{IsDamage}
use Rattle.glock_names.specs.declared.steps.CallFault.{CallFault}
use Rattle.glock_names.specs.declared.steps.CallFault.TheVariants.{Damaged}
use Rattle.hash_dirs.specs.Broken.{IsBroken}

pub told_own : (h : Holding) (fault : CallFault) (b rule : ℕ) → h.own ≡ b → fault ≡ Damaged b rule → IsBroken h rule h.own → IsDamage (IsBroken h) fault
told_own h fault b rule own is broken = subst (IsDamage (IsBroken h)) (sym is) (subst (IsBroken h rule) own broken)
