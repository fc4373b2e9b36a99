-- A demotion in its stages, and an unmount in its.
use Rattle.std.specs.Prelude.{ℕ, ◌≡◌, ◌≤◌, ◌⊎◌, Bool, true, false, if◌then◌else◌, None, Some}
use Rattle.cluster_laws.specs.Files.{Files, CellOf, Part, LockOf, Un, Ex}
use Rattle.cluster_laws.specs.Book.{at, Book, Whole, flushed}
use Rattle.cluster_laws.specs.Mirror.{Head, Disk, Mirror}
use Rattle.cluster_laws.specs.Log.{Untouched, IsHeader, IsFlushed, IsRevoked, MayGo}
use Rattle.cluster_events.specs.Cluster.{HasIdleWriter, Cluster, BookOf, Weakens, Events, Together}
use Rattle.lock_laws.specs.Lock.{Node}
use Rattle.event_lists.specs.Gives.{DiskOf, IsReleased}

-- ---- the stages: past its flush (`IsFlushed`), at home, past its revokes (`IsRevoked`)

-- past its barrier: every live block under it is home, whichever header of the journal is accepted, and nothing is in flight to it
abbrev pub IsAtHome : (F : Files) → Book F → Disk F → ℕ → F.Lock → Type 0
IsAtHome F B D i l = (c : Bool) (b : ℕ) (v : F.Content) → (D.heads i c).live b ≡ Some v → LockOf F (B.says i ((D.heads i c).cut) b) ≡ l
    → (D.blocks b ≡ v) × ((r : ℕ) → D.flight r b ≡ None)

-- ---- a header with its barrier: of a flush, of revokes, alone, or clean

-- the journal then has the calls that the header says, and this head
abbrev pub committed : (F : Files) → Cluster F → ℕ → Head F → Cluster F
committed F c i h = record c {
  world = record (c.world) { book = flushed F (BookOf F c) i (h.cut); disk = record (DiskOf F c) { heads = at ((DiskOf F c).heads) i (λ d. h) } };
  header_of = at (c.header_of) i None;
}

abbrev pub CommitIsEvents : Files → Type 0
CommitIsEvents F = (c : Cluster F) (i u : ℕ) (h : Head F) → Together F c → c.header_of i ≡ None → HasIdleWriter F c i
    → (c.waits i ≡ true → u ≡ (BookOf F c).low i) → IsHeader F (BookOf F c) (DiskOf F c) i u h → Events F c (committed F c i h)

-- a journal without whose calls no block was touched is past the flush of every lock: so it is behind a flush up to the last call, and stays with reads and syncs
-- that are answered later (calls that change no tree touch no block). Where other calls were answered since, the number that the node keeps of the lock tells it
-- (`a_number_tells`)
abbrev pub FlushFlushes : Files → Type 0
FlushFlushes F = (B : Book F) (i : ℕ) (l : F.Lock) → ((b : ℕ) → Untouched F B i (B.low i) (B.answered i) b) → IsFlushed F B i l

-- past its flush no call that isn't in the journal touched a block under the lock
abbrev pub FlushedIsUntouched : Files → Type 0
FlushedIsUntouched F = (B : Book F) (i u b : ℕ) (l : F.Lock) → Whole F B → IsFlushed F B i l → B.owner b ≡ Some i → LockOf F (B.says i (B.low i) b) ≡ l
    → u ≤ B.answered i → Untouched F B i (B.low i) u b

-- so a header that begins, whatever it is for, has live under the lock, at the old number or at its own, only what the journal has live under it
abbrev pub HeaderKeepsStages : Files → Type 0
HeaderKeepsStages F = (B : Book F) (D : Disk F) (i u : ℕ) (h : Head F) (l : F.Lock) → Whole F B → Mirror F B D → IsHeader F B D i u h → IsFlushed F B i l
    → (b : ℕ) (v : F.Content) → h.live b ≡ Some v → (LockOf F (B.says i (B.low i) b) ≡ l) ⊎ (LockOf F (B.says i u b) ≡ l)
    → ((D.heads i false).live b ≡ Some v) × (LockOf F (B.says i (B.low i) b) ≡ l)

-- the head without these blocks
abbrev pub without_live : (F : Files) → Head F → (ℕ → Bool) → Head F
without_live F h p = record { cut = h.cut; live = λ b. if p b then None else h.live b }

-- Revokes: where a header with the calls up to u may go, so may one that leaves out blocks that are home and that none of these calls touches
abbrev pub RevokesAreHeader : Files → Type 0
RevokesAreHeader F = (B : Book F) (D : Disk F) (i u : ℕ) (h : Head F) (p : ℕ → Bool) → IsHeader F B D i u h
    → ((b : ℕ) → p b ≡ true → Untouched F B i (B.low i) u b)
    → ((b : ℕ) (v : F.Content) → p b ≡ true → (D.heads i false).live b ≡ Some v → D.blocks b ≡ v)
    → IsHeader F B D i u (without_live F h p)

-- past its barrier so may the live blocks under the lock be left out
abbrev pub HomeIsRevoked : Files → Type 0
HomeIsRevoked F = (B : Book F) (D : Disk F) (i u : ℕ) (h : Head F) (p : ℕ → Bool) (l : F.Lock) → IsHeader F B D i u h → IsAtHome F B D i l
    → ((b : ℕ) → p b ≡ true → Untouched F B i (B.low i) u b)
    → ((b : ℕ) (v : F.Content) → p b ≡ true → (D.heads i false).live b ≡ Some v → LockOf F (B.says i ((D.heads i false).cut) b) ≡ l)
    → IsHeader F B D i u (without_live F h p)

-- and behind such a header no block is live under a lock all of whose live blocks were left out
abbrev pub RevokesRevoke : Files → Type 0
RevokesRevoke F = (c : Cluster F) (i : ℕ) (h : Head F) (p : ℕ → Bool) (l : F.Lock)
    → ((b : ℕ) (v : F.Content) → h.live b ≡ Some v → LockOf F ((BookOf F c).says i (h.cut) b) ≡ l → p b ≡ true)
    → IsRevoked F (BookOf F (committed F c i (without_live F h p))) (DiskOf F (committed F c i (without_live F h p))) i l

-- past flush and revokes the lock may go
abbrev pub StagesRelease : Files → Type 0
StagesRelease F = (B : Book F) (D : Disk F) (i : ℕ) (l : F.Lock) → IsFlushed F B i l → IsRevoked F B D i l → MayGo F B D i l

-- ---- the release

-- what is left of the cache is under locks that the node still holds
abbrev pub KeepsCache : (F : Files) → Cluster F → ℕ → (F.Lock → ℕ → Node) → Part F → Type 0
KeepsCache F c i locks cache = (b : ℕ) (x : CellOf F) → cache b ≡ Some x → ((BookOf F c).cache i b ≡ Some x) × ((locks (LockOf F x) i).state ≡ Un → ⊥)

abbrev pub ReleaseIsEvents : Files → Type 0
ReleaseIsEvents F = (c : Cluster F) (i : ℕ) (locks : F.Lock → ℕ → Node) (cache : Part F) → Together F c → (i ≡ c.past → ⊥)
    → ((l : F.Lock) → Weakens i (c.locks l) (locks l)) → (BookOf F c).published i ≡ (BookOf F c).answered i
    → ((l : F.Lock) → (c.locks l i).state ≡ Ex → ((locks l i).state ≡ Ex) ⊎ MayGo F (BookOf F c) (DiskOf F c) i l)
    → KeepsCache F c i locks cache → IsReleased F c c i locks cache

-- ---- an unmount

-- The clean header carries a number up to which the calls that aren't in the journal touch no block: in an unmount that of the node's last call, in a replay that of
-- the accepted head. Every live block is home. With it no block is live, and every lock may go.
abbrev pub CleanIsHeader : Files → Type 0
CleanIsHeader F = (B : Book F) (D : Disk F) (i u : ℕ) → (B.low i ≤ u) × (u ≤ B.published i) → ((b : ℕ) → Untouched F B i (B.low i) u b)
    → ((b : ℕ) (v : F.Content) → (D.heads i false).live b ≡ Some v → D.blocks b ≡ v)
    → ((r b : ℕ) (v : F.Content) → D.flight r b ≡ Some v → B.owner b ≡ Some i → ⊥)
    → IsHeader F B D i u (record { cut = u; live = λ b. None })

abbrev pub CleanReleases : Files → Type 0
CleanReleases F = (B : Book F) (D : Disk F) (i : ℕ) (l : F.Lock) → ((b : ℕ) → Untouched F B i (B.low i) (B.answered i) b) → ((d : Bool) (b : ℕ) → (D.heads i d).live b ≡ None)
    → MayGo F B D i l
