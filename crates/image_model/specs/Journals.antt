-- The journals among the inodes.
use Rattle.std.specs.Prelude.{ℕ, ◌≡◌, ◌≢◌, ◌%◌, ◌<◌, true, List, ◌++◌, codes, decimal}
use Rattle.gfs2_layout.specs.Structures.{is_regular}
use Rattle.gfs2_layout.specs.Holding.{Holding}
use Rattle.gfs2_layout.specs.Inode.{dinode_in, content_block}
use Rattle.log_layout.specs.Journal.{ring_of}
use Rattle.log_layout.specs.Live.{IsReadable}

-- the name of journal j
abbrev pub journal_name : ℕ → List ℕ
journal_name j = codes "journal" ++ decimal j

-- a journal's inode: a regular file of whole blocks without a hole, that can be read: it has an accepted header, and no chunk from its tail to
-- its head is bad
pub record IsJournal (h : Holding) : Type 0 where
  pub file : is_regular (dinode_in h) ≡ true
  pub whole : (dinode_in h).size % h.size ≡ 0
  pub filled : (p : ℕ) → p < (ring_of h).places → content_block h p ≢ 0
  pub readable : IsReadable (ring_of h)
