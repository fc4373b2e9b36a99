-- Where a node is to crash at a write, and what its writes in flight become then.
use Rattle.std.specs.Prelude.{ℕ, ◌-◌, ◌==◌, if◌then◌else◌, min, List, [], ◌∷◌, Option, None, Some}
use Rattle.script_lang.specs.declared.script.Armed.{Armed}
use Rattle.script_lang.specs.declared.script.Fate.{Fate}
use Rattle.script_lang.specs.declared.script.Fate.TheVariants as fate
use Rattle.shared_disk.specs.declared.disk.Settle.{Settle}
use Rattle.shared_disk.specs.declared.disk.Settle.TheVariants as settle

-- ---- the first crash

-- the lesser of two numbers, as far as they are there
abbrev pub sooner : Option ℕ → Option ℕ → Option ℕ
sooner None b = b
sooner (Some a) None = Some a
sooner (Some a) (Some b) = Some (min a b)

-- the least write at which one of these crashes is to come
abbrev pub first_crash : List Armed → Option ℕ
first_crash [] = None
first_crash (a ∷ later) = sooner (Some a.write) (first_crash later)

-- how many writes are left until it, that one among them, where so many were made
abbrev pub left_until : Option ℕ → ℕ → Option ℕ
left_until None made = None
left_until (Some write) made = Some (write - made)

-- ---- what is in flight then

abbrev pub settle_of : Fate → Settle
settle_of fate.Old = settle.Old
settle_of fate.New = settle.New
settle_of (fate.Torn bytes) = settle.Torn bytes

-- as the first crash says that is to come at this write
abbrev pub fate_at : List Armed → ℕ → Settle
fate_at [] write = settle.Old
fate_at (a ∷ later) write = if a.write == write then settle_of a.fate else fate_at later write

-- of these crashes the first to come
abbrev pub fate_of : List Armed → Option ℕ → Settle
fate_of armed None = settle.Old
fate_of armed (Some write) = fate_at armed write
