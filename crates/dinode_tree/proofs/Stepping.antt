-- A call's answer, where it is known which one it is.
use Rattle.std.proofs.Common.{◌≡◌, ◌∙◌, ℕ, List, Option, Some, IfSome, Result, Ok, Err, sym, ap, subst}
use Rattle.std.specs.Prelude.{IsErrAnd}
use Rattle.glock_names.specs.declared.steps.CallFault.{CallFault}
use Rattle.glock_names.specs.declared.steps.CallFault.TheVariants.{Damaged, NoMemory}
use Rattle.glock_names.specs.Steps.{TellsOf, IfDamaged, IsDamage, OnlyDamaged}
use Rattle.glock_names.specs.Views.{Seen, IsOfView}
use Rattle.dinode_tree.specs.Shown.{IsAtBlock}
pub use Rattle.glock_names.proofs.StepLaws.{needed_at, answer_at, answer_so, needed_so}

-- ---- a fault tells of a block that the view has

kept : (v : Seen) (a : ℕ) (bytes : List ℕ) (fault : CallFault) → v.block_at a ≡ Some bytes → IsDamage (IsAtBlock a) fault → IsDamage (IsOfView v) fault
kept v a bytes (Damaged block rule) at own = (bytes, ap v.block_at own ∙ at)
kept v a bytes NoMemory at own = absurd own

pub handed_kept : {A : Type 0} (result : Result A CallFault) (v : Seen) (a : ℕ) (bytes : List ℕ) (fault : CallFault) → IsErrAnd result (λ f. f ≡ fault) → v.block_at a ≡ Some bytes
    → IsDamage (IsAtBlock a) fault → OnlyDamaged result (IsOfView v)
handed_kept (Ok answer) v a bytes fault is at own = tt
handed_kept (Err f) v a bytes fault is at own = subst (IsDamage (IsOfView v)) (sym is) (kept v a bytes fault at own)

-- the same where memory may have been what lacked
pub tells : (P : ℕ → ℕ → Type 0) (fault : CallFault) → IsDamage P fault → TellsOf P fault
tells P (Damaged block rule) told = told
tells P NoMemory told = tt

pub handed : {A : Type 0} (result : Result A CallFault) (fault : CallFault) (P : ℕ → ℕ → Type 0) → IsErrAnd result (λ f. f ≡ fault) → TellsOf P fault → IfDamaged result P
handed (Ok answer) fault P is told = tt
handed (Err f) fault P is told = subst (TellsOf P) (sym is) told

own_kept : (v : Seen) (a : ℕ) (bytes : List ℕ) (fault : CallFault) → v.block_at a ≡ Some bytes → TellsOf (IsAtBlock a) fault → TellsOf (IsOfView v) fault
own_kept v a bytes (Damaged block rule) at own = (bytes, ap v.block_at own ∙ at)
own_kept v a bytes NoMemory at own = tt

pub handed_own : {A : Type 0} (result : Result A CallFault) (v : Seen) (a : ℕ) (bytes : List ℕ) (fault : CallFault) → IsErrAnd result (λ f. f ≡ fault) → v.block_at a ≡ Some bytes
    → TellsOf (IsAtBlock a) fault → IfDamaged result (IsOfView v)
handed_own result v a bytes fault is at own = handed result fault (IsOfView v) is (own_kept v a bytes fault at own)

-- what holds of an element that is there
pub some_at : {A : Type 0} (o : Option A) (x : A) (P : A → Type 0) → o ≡ Some x → IfSome o P → P x
some_at o x P is all = subst (λ o. IfSome o P) is all
