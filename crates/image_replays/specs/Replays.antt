-- What a replay of a mounted image puts home, and what stops it.
use Rattle.std.specs.Prelude.{ℕ, ◌≡◌, ◌<◌, ⊤, false, List, [], ◌∷◌, Contains, length, map, get_or, slice_get, unwrap_or, IfSome, Option, None, Some, Err}
use Rattle.std.specs.List.{AllByRecursion}
use Rattle.std.specs.List.Sorted.{IsStrictlyIncreasing}
use Rattle.drafts.specs.declared.change.Written.{Written}
use Rattle.fault_counts.specs.Causes.{WentUp}
use Rattle.gfs2_layout.specs.Inode.{content_block}
use Rattle.image_model.specs.Claims.{every}
use Rattle.image_model.specs.Image.{Image}
use Rattle.image_model.specs.Replays.{IsLiveTwice, MayChange, Replayed, live_at}
use Rattle.image_model.specs.Stands.{Layout, IsJournalAt}
use Rattle.image_mount.specs.Mounted.{Journal}
use Rattle.journal_plans.specs.Plans.{IsPlanOf, bytes_put}
use Rattle.journal_scan.specs.Numbers.{IsNumberAt}
use Rattle.log_layout.specs.Journal.{head_in, ring_of}
use Rattle.log_layout.specs.Transactions.{transactions_of}
use Rattle.log_layout.specs.declared.log_header.LogHeader.{LogHeader}
use Rattle.peer_replay.specs.declared.planned.Plan.{Plan}
use Rattle.replay_looks.specs.declared.faults.LookFault.{LookFault}
use Rattle.replay_looks.specs.declared.faults.LookFault.TheVariants.{Damaged, DiskFailed, NoMemory}
use Rattle.shared_disk.specs.Disk.{DiskState}

-- Rule 2, of what is live: block b, of a journal, has the number of a block that is live in this journal, and that a replay may not change.
pub record IsLiveAstray (im : Image) (l : Layout) (b : ℕ) : Type 0 where
  pub journal : ℕ
  pub dinode : ℕ
  pub at : IsJournalAt l journal dinode
  pub number : ℕ
  pub bytes : List ℕ
  pub live : live_at im dinode number ≡ Some bytes
  pub barred : ¬ (MayChange im l number)
  pub place : ℕ
  pub numbered : IsNumberAt (ring_of (every im dinode)) number place
  pub is : content_block (every im dinode) place ≡ b

-- What stops the replay of an image with this layout: in block b of a journal a chunk is bad (17); or it has the number of a live block that may not be changed
-- (2); or it is live in two journals (20). That the image breaks other rules as it lies stops no replay: it may be in the midst of what the journals say.
pub data Stops (im : Image) (l : Layout) : ℕ → ℕ → Type 0 where
  bad_chunk : (j d place : ℕ) (head : LogHeader) → IsJournalAt l j d → head_in (ring_of (every im d)) ≡ Some head → transactions_of (ring_of (every im d)) head ≡ Err place
      → Stops im l 17 (content_block (every im d) place)
  astray : (b : ℕ) → IsLiveAstray im l b → Stops im l 2 b
  twice : (b : ℕ) → IsLiveTwice im l b → Stops im l 20 b

-- ---- what is put home

-- the first of two, where there is one
abbrev pub first_of_both : Option (List ℕ) → Option (List ℕ) → Option (List ℕ)
first_of_both (Some bytes) later = Some bytes
first_of_both None later = later

-- the bytes that one of these plans puts in a block's place
abbrev pub put_by : List Plan → ℕ → Option (List ℕ)
put_by [] block = None
put_by (p ∷ ps) block = first_of_both (bytes_put p block) (put_by ps block)

-- the image with all of it in its place
abbrev pub put_over : Image → List Plan → Image
put_over im plans = record { size = im.size; count = im.count; at = λ b. unwrap_or (put_by plans b) (im.at b) }

-- The plans of the image's journals, in their order: each journal's own, and with all that they put home the image is the replayed one.
pub record ArePlans (im : Image) (l : Layout) (plans : List Plan) : Type 0 where
  pub count : length plans ≡ length l.journals
  pub each : (j d : ℕ) (p : Plan) → IsJournalAt l j d → slice_get plans j ≡ Some p → IsPlanOf (ring_of (every im d)) p
  pub replayed : Replayed im l (put_over im plans)

-- what a plan writes can be written: whole blocks of the disk, by rising number
pub record IsWritable (s : DiskState) (p : Plan) : Type 0 where
  pub rise : IsStrictlyIncreasing (map (λ (w : Written). w.block) p.home.items)
  pub whole : AllByRecursion (λ (w : Written). length w.bytes ≡ s.size) p.home.items
  pub inside : AllByRecursion (λ (w : Written). w.block < s.count) p.home.items

-- a header that is written has a place, in a journal with these blocks at its places: it is one of them, and its block is one of the disk
pub record HasPlace (s : DiskState) (blocks : List ℕ) (h : LogHeader) : Type 0 where
  pub place : h.blkno < length blocks
  pub inside : get_or blocks h.blkno 0 < s.count

-- there is a plan for each journal, and the header that it writes, where it writes one, has a place in that journal
pub record HavePlaces (s : DiskState) (journals : List Journal) (plans : List Plan) : Type 0 where
  pub count : length plans ≡ length journals
  pub each : (i : ℕ) (j : Journal) (p : Plan) → slice_get journals i ≡ Some j → slice_get plans i ≡ Some p → IfSome p.clean (HasPlace s j.blocks)

-- a fact for the block that is told, with its rule
abbrev pub IfDamaged : LookFault → (ℕ → ℕ → Type 0) → Type 0
IfDamaged (Damaged block rule) P = P block rule
IfDamaged (DiskFailed block rise) P = ⊤
IfDamaged NoMemory P = ⊤

-- ---- where the disk fails

-- the block is at a place of one of these journals, which wasn't left clean
pub record IsReadPlace (journals : List Journal) (block : ℕ) : Type 0 where
  pub index : ℕ
  pub journal : Journal
  pub at : slice_get journals index ≡ Some journal
  pub unclean : journal.head.clean ≡ false
  pub is : Contains journal.blocks block

-- a failing disk, of so many blocks, is told only with one of them at such a place, where the node's count rose so
abbrev pub HasCause : (journals : List Journal) (count before now : ℕ) → LookFault → Type 0
HasCause journals count before now (DiskFailed block rise) = WentUp before now rise.before rise.after × (block < count) × IsReadPlace journals block
HasCause journals count before now _ = ⊤
