-- The blocks of an image in memory, as a view.
use Rattle.std.specs.Prelude.{ℕ, if◌then◌else◌, nat_lt, List, [], None, Some}
use Rattle.glock_names.specs.Views.{Seen}
use Rattle.glock_names.specs.declared.State.TheVariants.{Un}
use Rattle.shared_disk.specs.Blocks.{block_in}
use Rattle.image_journals.specs.declared.blocks.ImageBlocks.{ImageBlocks}

-- the view has each block of these bytes
abbrev pub seen_in : (size count : ℕ) → List ℕ → Seen
seen_in size count bytes = record { size = size; root = 0; groups = []; state_of = λ lock. Un; block_at = λ b. if nat_lt b count then Some (block_in size bytes b) else None }

abbrev pub seen_of : ImageBlocks → Seen
seen_of blocks = seen_in blocks.size blocks.count blocks.bytes.now
