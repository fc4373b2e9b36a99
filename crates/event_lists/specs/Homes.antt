-- Writes home with their barrier; and a demotion and an unmount, each whole, as lists of events.
use Rattle.std.specs.Prelude.{ℕ, ◌≡◌, ◌⊎◌, ⊤, Bool, true, false, ◌==◌, ◌||◌, None, Some, List, [], ◌∷◌}
use Rattle.cluster_laws.specs.Files.{Files, Part, LockOf, Ex, laid}
use Rattle.cluster_laws.specs.Book.{Book}
use Rattle.cluster_laws.specs.Mirror.{Head, Disk}
use Rattle.cluster_laws.specs.Log.{Untouched, IsHeader}
use Rattle.cluster_events.specs.Cluster.{WritesFor, IsIdle, Cluster, BookOf, Weakens, Events, Together}
use Rattle.event_lists.specs.Gives.{DiskOf, IsReleased}
use Rattle.event_lists.specs.Stops.{IsIn}
use Rattle.event_lists.specs.Demotions.{IsAtHome, committed, without_live, KeepsCache}
use Rattle.lock_laws.specs.Lock.{Node}

abbrev pub with_disk : (F : Files) → Cluster F → Disk F → Cluster F
with_disk F c d = record c { world = record (c.world) { disk = d } }

-- each is live in the head
abbrev pub AreLive : (F : Files) → Head F → List ℕ → Type 0
AreLive F h [] = ⊤
AreLive F h (b ∷ bs) = ((v : F.Content) × (h.live b ≡ Some v)) × AreLive F h bs

-- ---- writes home

-- node r has put these blocks of journal i home and made a barrier: the disk is then this one, and all else is as it was
pub record IsWrittenHome (F : Files) (c : Cluster F) (r i : ℕ) (bs : List ℕ) (d : Disk F) : Type 0 where
  pub events : Events F c (with_disk F c d)
  pub home : (b : ℕ) (v : F.Content) → IsIn b bs → ((DiskOf F c).heads i false).live b ≡ Some v → d.blocks b ≡ v
  -- what the node had in flight before has landed too
  pub others : (b : ℕ) → (IsIn b bs → ⊥) → d.blocks b ≡ laid ((DiskOf F c).flight r b) ((DiskOf F c).blocks b)
  pub landed : (b : ℕ) → d.flight r b ≡ None
  pub flights : (q : ℕ) → (q ≡ r → ⊥) → d.flight q ≡ (DiskOf F c).flight q
  pub heads : d.heads ≡ (DiskOf F c).heads

abbrev pub HomeIsEvents : Files → Type 0
HomeIsEvents F = (c : Cluster F) (r i : ℕ) (bs : List ℕ) → Together F c → WritesFor F c r i → c.header_of i ≡ None
    → AreLive F ((DiskOf F c).heads i false) bs → (d : Disk F) × IsWrittenHome F c r i bs d

-- the node's live blocks under the lock, at the number n of its calls
pub record AreUnder (F : Files) (B : Book F) (i n : ℕ) (l : F.Lock) (h : Head F) (bs : List ℕ) : Type 0 where
  pub live : AreLive F h bs
  pub under : (b : ℕ) → IsIn b bs → LockOf F (B.says i n b) ≡ l
  pub every : (b : ℕ) (v : F.Content) → h.live b ≡ Some v → LockOf F (B.says i n b) ≡ l → IsIn b bs

-- where these were put home, the node, whose slot doesn't wait, is past its barrier with the lock, whatever it answered since
abbrev pub HomeIsAtHome : Files → Type 0
HomeIsAtHome F = (c : Cluster F) (i : ℕ) (l : F.Lock) (bs : List ℕ) (d : Disk F) → Together F c → c.waits i ≡ false → c.header_of i ≡ None
    → AreUnder F (BookOf F c) i ((BookOf F c).low i) l ((DiskOf F c).heads i false) bs → IsWrittenHome F c i i bs d → IsAtHome F (BookOf F c) d i l

-- ---- a demotion and an unmount

-- a flush of all calls, by this header; or none is needed, since no call that isn't in the journal touched a block
pub data FlushesTo (F : Files) (c : Cluster F) (i : ℕ) : Head F → Type 0 where
  ByHeader : (h : Head F) → IsHeader F (BookOf F c) (DiskOf F c) i ((BookOf F c).answered i) h → FlushesTo F c i h
  IsNeedless : ((b : ℕ) → Untouched F (BookOf F c) i ((BookOf F c).low i) ((BookOf F c).answered i) b) → FlushesTo F c i ((DiskOf F c).heads i false)

abbrev pub after_flush : (F : Files) (c : Cluster F) (i : ℕ) (h : Head F) → FlushesTo F c i h → Cluster F
after_flush F c i _ (ByHeader h header) = committed F c i h
after_flush F c i _ (IsNeedless untouched) = c

-- the node is a member whose slot doesn't wait, that has published all that it answered and has nothing in flight
pub record IsAtRest (F : Files) (c : Cluster F) (i : ℕ) : Type 0 where
  pub here : i ≡ c.past → ⊥
  pub runs : c.runs i ≡ true
  pub all : (BookOf F c).published i ≡ (BookOf F c).answered i
  pub awake : c.waits i ≡ false
  pub unheaded : c.header_of i ≡ None
  pub idle : IsIdle F c i

-- of the locks that go down from exclusive the head has no block live
abbrev pub LeavesNone : (F : Files) → Cluster F → ℕ → Head F → (F.Lock → ℕ → Node) → Type 0
LeavesNone F c i h locks = (m : F.Lock) → (c.locks m i).state ≡ Ex → ((locks m i).state ≡ Ex)
    ⊎ ((b : ℕ) (v : F.Content) → h.live b ≡ Some v → LockOf F ((BookOf F c).says i ((BookOf F c).answered i) b) ≡ m → ⊥)

-- Then the locks go right behind the flush; and where nothing was unflushed either, without any header.
abbrev pub FlushedIsReleased : Files → Type 0
FlushedIsReleased F = (c : Cluster F) (i : ℕ) (h : Head F) (locks : F.Lock → ℕ → Node) (cache : Part F) → Together F c → IsAtRest F c i → (flush : FlushesTo F c i h)
    → ((m : F.Lock) → Weakens i (c.locks m) (locks m)) → LeavesNone F c i h locks → KeepsCache F c i locks cache
    → IsReleased F c (after_flush F c i h flush) i locks cache

-- Else writes home with their barrier, a header, and the release follow: each place where the cluster comes to is told.
pub record IsDown (F : Files) (c c1 : Cluster F) (i : ℕ) (bs : List ℕ) (h : Head F) (locks : F.Lock → ℕ → Node) (cache : Part F) : Type 0 where
  pub disk : Disk F
  pub home : IsWrittenHome F c1 i i bs disk
  pub release : IsReleased F c (committed F (with_disk F c1 disk) i h) i locks cache

-- whether a number is in a list
abbrev pub is_in : ℕ → List ℕ → Bool
is_in b [] = false
is_in b (k ∷ ks) = (b == k) || is_in b ks

-- the head of revokes, and the clean one, with the number of the node's last call
abbrev pub revoking : (F : Files) → Cluster F → ℕ → Head F → List ℕ → Head F
revoking F c i h bs = without_live F (record { cut = (BookOf F c).answered i; live = h.live }) (λ b. is_in b bs)

abbrev pub clean : (F : Files) → Cluster F → ℕ → Head F
clean F c i = record { cut = (BookOf F c).answered i; live = λ b. None }

-- A demotion: a flush, where one is needed; the live blocks under the lock go home; a header revokes them; and the lock goes down, alone among those that are
-- exclusive.
abbrev pub DemotionIsEvents : Files → Type 0
DemotionIsEvents F = (c : Cluster F) (i : ℕ) (l : F.Lock) (h : Head F) (bs : List ℕ) (locks : F.Lock → ℕ → Node) (cache : Part F) → Together F c → IsAtRest F c i
    → (flush : FlushesTo F c i h) → AreUnder F (BookOf F c) i ((BookOf F c).answered i) l h bs → ((m : F.Lock) → Weakens i (c.locks m) (locks m))
    → ((m : F.Lock) → (c.locks m i).state ≡ Ex → ((locks m i).state ≡ Ex) ⊎ (m ≡ l)) → KeepsCache F c i locks cache
    → IsDown F c (after_flush F c i h flush) i bs (revoking F c i h bs) locks cache

-- An unmount: a flush, where one is needed; all live blocks go home; a clean header; and all locks go down. No block of the journal is live then.
abbrev pub UnmountIsEvents : Files → Type 0
UnmountIsEvents F = (c : Cluster F) (i : ℕ) (h : Head F) (bs : List ℕ) (locks : F.Lock → ℕ → Node) (cache : Part F) → Together F c → IsAtRest F c i
    → (flush : FlushesTo F c i h) → AreLive F h bs → ((b : ℕ) (v : F.Content) → h.live b ≡ Some v → IsIn b bs) → ((m : F.Lock) → Weakens i (c.locks m) (locks m))
    → KeepsCache F c i locks cache
    → IsDown F c (after_flush F c i h flush) i bs (clean F c i) locks cache
