-- Faults that are handed on.
use Rattle.std.proofs.Common.{◌≡◌, ℕ, Result, Ok, Err, sym, subst}
use Rattle.std.specs.Prelude.{IsErrAnd}
use Rattle.gfs2_layout.specs.Holding.{Holding}
use Rattle.glock_names.specs.Steps.{IfDamaged, IsDamage, TellsOf}
use Rattle.glock_names.specs.Views.{Seen}
use Rattle.glock_names.specs.declared.steps.CallFault.{CallFault}
use Rattle.glock_names.specs.declared.steps.CallFault.TheVariants.{Damaged, NoMemory}
use Rattle.dinode_tree.specs.Shown.{IsShown}

pub told_on : {B : Type 0} (Q : ℕ → ℕ → Type 0) (r : Result B CallFault) (f : CallFault) → IsErrAnd r (λ g. g ≡ f) → TellsOf Q f → IfDamaged r Q
told_on Q (Ok answer) f is tells = tt
told_on Q (Err g) f is tells = subst (TellsOf Q) (sym is) tells

-- damage of one kind that is damage of another
pub tells_so : (P Q : ℕ → ℕ → Type 0) → ((rule b : ℕ) → P rule b → Q rule b) → (f : CallFault) → TellsOf P f → TellsOf Q f
tells_so P Q so NoMemory tells = tt
tells_so P Q so (Damaged b rule) tells = so rule b tells

-- damage of all that a view shows
pub tells_all : (v : Seen) (a : ℕ) (P : Holding → ℕ → ℕ → Type 0) (f : CallFault) → ((h : Holding) → IsShown v a h → TellsOf (P h) f) → TellsOf (λ rule b. (h : Holding) → IsShown v a h → P h rule b) f
tells_all v a P NoMemory tells = tt
tells_all v a P (Damaged b rule) tells = tells

-- of a call's answer
pub damaged_so : {A : Type 0} (P Q : ℕ → ℕ → Type 0) → ((rule b : ℕ) → P rule b → Q rule b) → (r : Result A CallFault) → IfDamaged r P → IfDamaged r Q
damaged_so P Q so (Ok answer) told = tt
damaged_so P Q so (Err f) told = tells_so P Q so f told

-- a fault of a call that takes no memory
pub only_so : (P Q : ℕ → ℕ → Type 0) → ((rule b : ℕ) → P rule b → Q rule b) → (f : CallFault) → IsDamage P f → TellsOf Q f
only_so P Q so (Damaged b rule) told = so rule b told
only_so P Q so NoMemory told = tt

-- damage of all directories that a view shows
pub tells_each : (S : Holding → Type 0) (P : Holding → ℕ → ℕ → Type 0) (f : CallFault) → ((h : Holding) → S h → TellsOf (P h) f) → TellsOf (λ rule b. (h : Holding) → S h → P h rule b) f
tells_each S P NoMemory tells = tt
tells_each S P (Damaged b rule) tells = tells
