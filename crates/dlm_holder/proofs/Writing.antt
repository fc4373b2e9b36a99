-- What a write of the map does to the holdings.
use Rattle.std.proofs.Common.{◌≡◌, List, true, false, Option, None, Some, Result, Ok, Err, OnOk, OnErr, is_some, refl, sym, ap, ◌∙◌}
use Rattle.std.specs.Prelude.{unwrap_or}
use Rattle.std.specs.Option.{option_copied_mut}
use Rattle.std.specs.Map.{set_value}
use Rattle.indexmap.specs.IndexMap.{insert_entry}
use denote.MutBor.{MutBor}
use Rattle.glock_names.specs.declared.LockName.{LockName}
use Rattle.glock_names.specs.LockMaps.{same_lock, at_lock, with_lock}
use Rattle.dlm_holder.specs.Holdings.{nothing, knows}
use Rattle.glock_names.proofs.LockMapLaws.{with_lock-unique, set_value-with_lock}
use Rattle.dlm_holder.specs.declared.Holding.{Holding}

pub writes : (h : List (LockName × Holding)) (lock : LockName) (x : Holding) → insert_entry same_lock h lock x ≡ with_lock h lock x
writes = with_lock-unique (insert_entry same_lock) (λ lock x. refl) (λ e es lock x. refl)

-- a write at a lock that the map has, or that succeeds, writes
pub written : {E : Type 0} (r : Result (Option Holding) E) (before now later : List (LockName × Holding)) (lock : LockName) (x : Holding)
    → before ≡ now → OnOk r (later ≡ insert_entry same_lock before lock x) → OnErr r (at_lock before lock ≡ None) → knows now lock ≡ true
    → later ≡ with_lock now lock x
written (Ok old) before now later lock x e entries absent known =
    entries ∙ (writes before lock x ∙ ap (λ (h : List (LockName × Holding)). with_lock h lock x) e)
written (Err fault) before now later lock x e entries absent known =
    absurd (let f : false ≡ true = sym (ap is_some absent) ∙ (ap (λ (h : List (LockName × Holding)). knows h lock) e ∙ known) in cc)

-- a write through what `get_mut` lent
pub put-back : (before now later : List (LockName × Holding)) (lock : LockName) (r : Option (MutBor Holding)) (found : MutBor Holding) (change : Holding → Holding)
    → before ≡ now → option_copied_mut r ≡ at_lock before lock → r ≡ Some found → later ≡ set_value (same_lock lock) before (change found.now)
    → later ≡ with_lock now lock (change (unwrap_or (at_lock now lock) nothing))
put-back before now later lock r found change e value is w =
    let there : at_lock before lock ≡ Some found.now = sym value ∙ ap option_copied_mut is in
    w ∙ (set_value-with_lock before lock found.now (change found.now) there
    ∙ (ap (λ (h : List (LockName × Holding)). with_lock h lock (change found.now)) e
    ∙ ap (λ (o : Option Holding). with_lock now lock (change (unwrap_or o nothing))) (sym there ∙ ap (λ (h : List (LockName × Holding)). at_lock h lock) e)))
