use Rattle.std.proofs.Common.{◌≡◌, ◌<◌, ℕ, false, Some}
use Rattle.std.specs.Prelude.{slice_get}
use Rattle.gfs2_layout.specs.Records.{is_dots}
use Rattle.image_model.specs.Journals.{journal_name}
use Rattle.image_mount.specs.declared.listing.Named.{Named}
use Rattle.image_mount.proofs.jindex.are_journal_names.Given as goal

abbrev pub invariant-loop-record : goal.invariant-loop-record
invariant-loop-record l = (i : ℕ) (n : Named) → i < l.record-index → slice_get l.records i ≡ Some n → is_dots n.name.now ≡ false → (j : ℕ) × (j < l.count) × (n.name.now ≡ journal_name j)
