-- Answers that say more.
use Rattle.std.proofs.Common.{◌≡◌, Bool, true, false, sym, ◌∙◌, subst}
use Rattle.std.specs.Prelude.{IfOk, IsSomeAnd, Option, Some, Result, Ok, Err}

pub ok_map : {A E : Type 0} (result : Result A E) (P Q : A → Type 0) → ((a : A) → P a → Q a) → IfOk result P → IfOk result Q
ok_map (Ok a) P Q more holds = more a holds
ok_map (Err e) P Q more holds = holds

pub some_and : {A : Type 0} (o : Option A) (x : A) (P : A → Type 0) → o ≡ Some x → P x → IsSomeAnd o P
some_and o x P is holds = subst (λ q. IsSomeAnd q P) (sym is) holds

pub contradict : {A : Type 0} (b : Bool) → b ≡ true → b ≡ false → A
contradict b holds fails = let both : true ≡ false = sym holds ∙ fails in absurd (cc)
