use Rattle.std.proofs.Common.{ℕ, ◌≡◌, ◌≢◌, ◌*◌, ◌<◌, length, take}
use Rattle.gfs2_layout.specs.Bytes.{slice}
use Rattle.gfs2_layout.specs.Holding.{Holding, bytes_at}
use Rattle.gfs2_layout.specs.Inode.{content_block, height_in}
use Rattle.pointer_tables.specs.Directories.{IsTreeSound}
use Rattle.table_files.specs.TreePointers.{IsTableOf}
use Rattle.table_changes.proofs.reading.read_headers.Given as goal

abbrev pub invariant-loop-index : goal.invariant-loop-index
invariant-loop-index g l = record {
  long : length l.headers.items ≡ l.index * 24;
  each : (h : Holding) → IsTableOf l.table (g.V.View.seen l.view) h → IsTreeSound h → height_in h ≢ 0 → (j : ℕ) → j < l.index → slice (j * 24) 24 l.headers.items ≡ take 24 (bytes_at h (content_block h j));
}
