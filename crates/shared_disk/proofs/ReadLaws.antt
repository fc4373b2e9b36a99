-- Calls that only read, one after another.
use Rattle.std.proofs.Common.{ℕ, List, Option, refl, ◌∙◌, arith}
use Rattle.shared_disk.specs.Disk.{DiskState, Operation, ReadsOnly}

pub reads_none : {s : DiskState} {l : Option (List Operation)} {f : ℕ → ℕ} → ReadsOnly s s l l f f
reads_none = record { same = refl; list = refl; later = λ j. omega arith }

pub reads_on : {s t u : DiskState} {l m n : Option (List Operation)} {f g h : ℕ → ℕ} → ReadsOnly s t l m f g → ReadsOnly t u m n g h → ReadsOnly s u l n f h
reads_on first later = record { same = later.same ∙ first.same; list = later.list ∙ first.list; later = λ j. omega (arith, first.later j, later.later j) }
