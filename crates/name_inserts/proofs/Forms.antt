-- A hashed directory is one of any form.
use Rattle.std.proofs.Common.{ℕ}
use Rattle.gfs2_layout.specs.Holding.{Holding}
use Rattle.glock_names.specs.Views.{Seen}
use Rattle.dinode_tree.proofs.Sound.{sound_is_whole}
use Rattle.hash_inserts.specs.Shown as hashed
use Rattle.hash_inserts.specs.Shown.{IsSound}
use Rattle.directories.specs.Shown.{IsShown}

-- a sound one that is shown with its leaves has whole blocks
pub any_shown : (v : Seen) (a : ℕ) (h : Holding) → hashed.IsShown v a h → IsSound h → IsShown v a h
any_shown v a h shown sound = record { inode = shown.inode; leaves = λ is. shown.leaves; whole = λ is at. sound_is_whole h at sound.block_size sound.inode }
