-- What a write of the map of locks does to a master's state.
use Rattle.std.proofs.Common.{◌≡◌, Bool, true, false, List, [], ◌∷◌, length, take, Option, None, Some, Result, Ok, Err, OnOk, OnErr, is_some, refl, sym, ap, ◌∙◌}
use Rattle.std.specs.Prelude.{unwrap_or}
use Rattle.std.proofs.Math.Seq.{take-length}
use Rattle.std.specs.Option.{option_copied_mut}
use Rattle.std.specs.Map.{set_value}
use Rattle.indexmap.specs.IndexMap.{insert_entry}
use denote.MutBor.{MutBor}
use Rattle.glock_names.specs.declared.LockName.{LockName}
use Rattle.glock_names.specs.LockMaps.{same_lock, at_lock, with_lock}
use Rattle.glock_names.proofs.LockMapLaws.{with_lock-unique, set_value-with_lock, set_value-same}
use Rattle.dlm_master.specs.LockState.{LockState}
use Rattle.dlm_master.specs.Locks.{free_lock, known_or_free}
use Rattle.dlm_modes.specs.declared.Mode.{Mode}
use Rattle.dlm_master.specs.Tables.{MasterState, with_state, holds_above}

abbrev pub Table : Type 0
Table = List (LockName × LockState)

-- what `get_mut` lent is what the map has
pub lent : (es : Table) (lock : LockName) (r : Option (MutBor LockState)) (found : MutBor LockState) → option_copied_mut r ≡ at_lock es lock → r ≡ Some found
    → at_lock es lock ≡ Some found.now
lent es lock r found value is = sym value ∙ ap option_copied_mut is

pub absent : (es : Table) (lock : LockName) (r : Option (MutBor LockState)) → option_copied_mut r ≡ at_lock es lock → r ≡ None → at_lock es lock ≡ None
absent es lock r value is = sym value ∙ ap option_copied_mut is

pub lock-found : (es : Table) (lock : LockName) (x : LockState) → at_lock es lock ≡ Some x → unwrap_or (at_lock es lock) free_lock ≡ x
lock-found es lock x e = ap (λ (o : Option LockState). unwrap_or o free_lock) e

pub lock-free : (es : Table) (lock : LockName) → at_lock es lock ≡ None → unwrap_or (at_lock es lock) free_lock ≡ free_lock
lock-free es lock e = ap (λ (o : Option LockState). unwrap_or o free_lock) e

-- the state after a write through what was lent
pub put-back : (m now : MasterState) (lock : LockName) (old new : LockState) (later : Table) → m ≡ now → at_lock m.table lock ≡ Some old
    → later ≡ set_value (same_lock lock) m.table new → (let s : MasterState = record m { table = later } in s) ≡ with_state now lock new
put-back m now lock old new later e there w =
    ap (λ (t : Table). let s : MasterState = record m { table = t } in s) (w ∙ set_value-with_lock m.table lock old new there)
    ∙ ap (λ (n : MasterState). with_state n lock new) e

pub put-same : (m now : MasterState) (lock : LockName) (old new : LockState) (later : Table) → m ≡ now → at_lock m.table lock ≡ Some old → new ≡ old
    → later ≡ set_value (same_lock lock) m.table new → (let s : MasterState = record m { table = later } in s) ≡ now
put-same m now lock old new later e there same w =
    ap (λ (t : Table). let s : MasterState = record m { table = t } in s) (w ∙ (ap (set_value (same_lock lock) m.table) same ∙ set_value-same m.table lock old there)) ∙ e

-- what `insert` writes
writes : (es : Table) (lock : LockName) (x : LockState) → insert_entry same_lock es lock x ≡ with_lock es lock x
writes = with_lock-unique (insert_entry same_lock) (λ lock x. refl) (λ e es lock x. refl)

-- so a write through the lock's entry, of what is made of the lock that the map had, or of a free one
pub made-of : (es later : Table) (lock : LockName) (had : Option LockState) (fresh found new : LockState) (make : LockState → LockState) → found ≡ unwrap_or had fresh → had ≡ at_lock es lock → fresh ≡ free_lock
    → later ≡ insert_entry same_lock es lock new → new ≡ make found → later ≡ with_lock es lock (make (known_or_free es lock))
made-of es later lock had fresh found new make value there free wrote is =
    wrote ∙ (writes es lock new
    ∙ ap (λ (l : LockState). with_lock es lock l) (is ∙ ap make (value ∙ (ap (λ (o : Option LockState). unwrap_or o fresh) there ∙ ap (unwrap_or (at_lock es lock)) free))))

-- after a write of what the map had of the lock, or of a free one, the entries that it had are as they were
pub taken-back : (es : Table) (lock : LockName) → take (length es) (with_lock es lock (known_or_free es lock)) ≡ es
taken-back [] lock = refl
taken-back (e ∷ es) lock = by (same_lock lock e.0) refl (taken-back es lock)
  where
    by : (b : Bool) → same_lock lock e.0 ≡ b → take (length es) (with_lock es lock (known_or_free es lock)) ≡ es → take (length (e ∷ es)) (with_lock (e ∷ es) lock (known_or_free (e ∷ es) lock)) ≡ e ∷ es
    by true h rest = rw h (ap (λ (t : Table). e ∷ t) (take-length es))
    by false h rest = rw h (ap (λ (t : Table). e ∷ t) rest)

pub on-ok : {A E : Type 0} (r : Result A E) (P Q : Type 0) → (P → Q) → OnOk r P → OnOk r Q
on-ok (Ok x) P Q f p = f p
on-ok (Err y) P Q f p = p

pub on-err : {A E : Type 0} (r : Result A E) (P Q : Type 0) → (P → Q) → OnErr r P → OnErr r Q
on-err (Ok x) P Q f p = p
on-err (Err y) P Q f p = f p

-- who holds a mode above another holds one
pub holds-some : (held : Option Mode) (mode : Mode) → holds_above held mode ≡ true → is_some held ≡ true
holds-some None mode e = absurd (let f : false ≡ true = e in cc)
holds-some (Some m) mode e = refl
