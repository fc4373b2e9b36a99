-- Crashes, fences and what ends a life, as lists of events.
use Rattle.std.specs.Prelude.{ℕ, suc, ◌-◌, ◌≡◌, ◌≤◌, ◌⊎◌, ⊤, Bool, true, false, Option, None, Some, List, [], ◌∷◌, ◌++◌}
use Rattle.cluster_laws.specs.Files.{Files}
use Rattle.cluster_laws.specs.Book.{at, Book, relocked, flushed, lost}
use Rattle.cluster_laws.specs.Mirror.{ended, chosen, renumbered}
use Rattle.cluster_laws.specs.Rings.{Rings}
use Rattle.cluster_laws.specs.History.{Gone}
use Rattle.cluster_laws.specs.Log.{Calm}
use Rattle.cluster_laws.specs.World.{World, nothing}
use Rattle.cluster_laws.specs.World as world
use Rattle.cluster_events.specs.Cluster.{Cluster, BookOf, MayWork, worked, stopped, Starts, Events, Together}
use Rattle.cluster_parts.specs.Parts.{published_of}
use Rattle.event_lists.specs.Gives.{recovered, IsRecovered}

-- ---- a crash: all that the node answered is published, its cache is gone, and its slot waits

abbrev pub with_world : (F : Files) → Cluster F → World F → Cluster F
with_world F c w = record c { world = w }

abbrev pub halted : (F : Files) → Cluster F → ℕ → Cluster F
halted F c i = record c {
  world = record (published_of F i (c.world)) {
    book = relocked F ((published_of F i (c.world)).book) (((published_of F i (c.world)).book).state) (at (((published_of F i (c.world)).book).cache) i (nothing F));
  };
  locks = λ l. at (c.locks l) i (stopped (c.locks l i));
  runs = at (c.runs) i false;
  waits = at (c.waits) i true;
  fenced = at (c.fenced) i false;
  unlost = at (c.unlost) i (suc (c.unlost i));
}

-- of these nodes, one after the other
abbrev pub crashed : (F : Files) → Cluster F → List ℕ → Cluster F
crashed F c [] = c
crashed F c (i ∷ is) = crashed F (halted F c i) is

abbrev pub NoneIs : ℕ → List ℕ → Type 0
NoneIs past [] = ⊤
NoneIs past (i ∷ is) = (i ≡ past → ⊥) × NoneIs past is

-- each is a member when it is stopped
abbrev pub AreMembers : (F : Files) → Cluster F → List ℕ → Type 0
AreMembers F c [] = ⊤
AreMembers F c (i ∷ is) = (c.runs i ≡ true) × AreMembers F (halted F c i) is

abbrev pub IsIn : ℕ → List ℕ → Type 0
IsIn i [] = ⊥
IsIn i (j ∷ js) = (i ≡ j) ⊎ IsIn i js

-- the disk is as it was, with all that was in flight; so are the states of locks
pub record IsCrash (F : Files) (c : Cluster F) (is : List ℕ) (c' : Cluster F) : Type 0 where
  pub events : Events F c c'
  pub stopped : (i : ℕ) → IsIn i is → (c'.runs i ≡ false) × (c'.waits i ≡ true)
  pub disk : (c'.world).disk ≡ (c.world).disk
  pub states : (BookOf F c').state ≡ (BookOf F c).state

abbrev pub CrashIsEvents : Files → Type 0
CrashIsEvents F = (c : Cluster F) (is : List ℕ) → Together F c → NoneIs (c.past) is → AreMembers F c is → IsCrash F c is (crashed F c is)

-- an armed crash stands behind its node's write, and so does a withdraw behind the last write of its node, where it had one
abbrev pub CrashAfterWrite : Files → Type 0
CrashAfterWrite F = (c : Cluster F) (v : World F) (step : world.Step F (c.world) v) (i : ℕ) → Together F c → (i ≡ c.past → ⊥) → c.runs i ≡ true
    → (may : MayWork F c v step) → Events F c (crashed F (worked F c v step may) (i ∷ []))

-- ---- a fence: each write home in flight becomes what it becomes, and each header is on the disk or never will be

pub record Header : Type 0 where
  pub journal : ℕ
  pub is_new : Bool

abbrev pub decided : (F : Files) → Cluster F → List Header → Cluster F
decided F c [] = c
decided F c (h ∷ hs) = decided F (record c {
  world = record (c.world) {
    book = flushed F (BookOf F c) (h.journal) ((((c.world).disk).heads (h.journal) (h.is_new)).cut);
    disk = chosen F ((c.world).disk) (h.journal) (h.is_new);
  };
  header_of = at (c.header_of) (h.journal) None;
}) hs

-- the node's own header and the clean header that it had in flight for a slot are decided
abbrev pub after_fence : (F : Files) → Cluster F → ℕ → (ℕ → F.Content) → List Header → Cluster F
after_fence F c i x headers = record (decided F (record c { world = record (c.world) { disk = ended F ((c.world).disk) i x } }) headers) { fenced = at (c.fenced) i true }

abbrev pub IsDecided : ℕ → List Header → Type 0
IsDecided i [] = ⊥
IsDecided i (h ∷ hs) = (i ≡ h.journal) ⊎ IsDecided i hs

-- each is a header that node i has in flight, once
abbrev pub AreHeadersOf : ℕ → (ℕ → Option ℕ) → List Header → Type 0
AreHeadersOf i of [] = ⊤
AreHeadersOf i of (h ∷ hs) = (of (h.journal) ≡ Some i) × AreHeadersOf i (at of (h.journal) None) hs

pub record IsFence (F : Files) (c : Cluster F) (i : ℕ) (headers : List Header) (c' : Cluster F) : Type 0 where
  pub events : Events F c c'
  pub flight : (b : ℕ) → ((c'.world).disk).flight i b ≡ None
  pub heads : (k : ℕ) → IsDecided k headers → ((c'.world).disk).heads k true ≡ ((c'.world).disk).heads k false
  pub unheaded : (k : ℕ) → c'.header_of k ≡ Some i → ⊥

-- whatever becomes of each write home, and of each header that the node has in flight
abbrev pub FenceIsEvents : Files → Type 0
FenceIsEvents F = (c : Cluster F) (i : ℕ) (x : ℕ → F.Content) (headers : List Header) → c.runs i ≡ false → c.fenced i ≡ false
    → ((b : ℕ) → (x b ≡ ((c.world).disk).blocks b) ⊎ ((v : F.Content) × (((c.world).disk).flight i b ≡ Some v)))
    → AreHeadersOf i (c.header_of) headers → ((k : ℕ) → c.header_of k ≡ Some i → IsDecided k headers)
    → IsFence F c i headers (after_fence F c i x headers)

-- ---- a slot is recovered: its journal was replayed and is clean

-- the number that the loss keeps: one less than the first call above the head's that changes anything, or the last number
pub record Keeps (F : Files) (B : Book F) (i k : ℕ) : Type 0 where
  pub above : B.low i ≤ k
  pub below : k ≤ B.answered i
  pub calm : Calm F B i (B.low i) k
  pub next : (k ≡ B.answered i) ⊎ (F.Changes (B.told i (suc k)) ≡ true)

abbrev pub KeptIsFound : Files → Type 0
KeptIsFound F = (c : Cluster F) (i : ℕ) → Together F c → (k : ℕ) × Keeps F (BookOf F c) i k

-- a life of the node has ended, was fenced, and has no loss yet
pub record HasEndedLife (F : Files) (c : Cluster F) (i : ℕ) : Type 0 where
  pub waits : c.waits i ≡ true
  pub over : (c.runs i ≡ true) ⊎ (c.fenced i ≡ true)
  pub lives : ℕ
  pub unlost : c.unlost i ≡ suc lives

-- its loss is told
abbrev pub after_loss : (F : Files) → Cluster F → ℕ → ℕ → Cluster F
after_loss F c i k = record c {
  world = record (c.world) {
    book = lost F (BookOf F c) i k;
    disk = renumbered F ((c.world).disk) i ((BookOf F c).answered i);
    items = (c.world).items ++ (Gone i ((BookOf F c).low i) k ∷ []);
  };
  unlost = at (c.unlost) i (c.unlost i - 1);
}

abbrev pub LossIsEvents : Files → Type 0
LossIsEvents F = (c : Cluster F) (i k : ℕ) → Together F c → HasEndedLife F c i → Keeps F (BookOf F c) i k → c.header_of i ≡ None → Events F c (after_loss F c i k)

-- with the loss of its last life that ended; those before it had theirs. The node's blocks are nobody's then
abbrev pub RecoveryIsEvents : Files → Type 0
RecoveryIsEvents F = (c : Cluster F) (i k : ℕ) → Together F c → (i ≡ c.past → ⊥) → (ended : HasEndedLife F c i) → ended.lives ≡ 0 → Keeps F (BookOf F c) i k
    → c.header_of i ≡ None
    → ((d : Bool) (b : ℕ) → (((c.world).disk).heads i d).live b ≡ None)
    → IsRecovered F c (after_loss F c i k) i i

-- a slot that waited since the start has no loss: what its journal, ring k, had is the past's. No block is live in it any more, so it goes over to its node. The past
-- keeps no block that isn't live in its journals
pub record IsStartRecovered (F : Files) (c : Cluster F) (R : Rings F ((c.world).disk)) (k i : ℕ) : Type 0 where
  pub slot : IsRecovered F c c (c.past) i
  pub past : (b : ℕ) → (BookOf F (recovered F c (c.past) i (slot.back))).owner b ≡ Some (c.past)
      → (d : Bool) × (v : F.Content) × ((((c.world).disk).heads (c.past) d).live b ≡ Some v)
  pub rings : (R' : Rings F ((c.world).disk)) × (R'.speaks k ≡ i) × ((r : ℕ) → (r ≡ k → ⊥) → R'.speaks r ≡ R.speaks r) × (R'.live ≡ R.live) × (R'.one ≡ R.one)

-- the past answers no call, so its journal has all
abbrev pub PastIsSilent : Files → Type 0
PastIsSilent F = (a c : Cluster F) → Starts F a → Events F a c → (BookOf F c).low (c.past) ≡ (BookOf F c).answered (c.past)

-- while a slot waits since the start the past's does
abbrev pub StartRecoveryIsEvents : Files → Type 0
StartRecoveryIsEvents F = (c : Cluster F) (R : Rings F ((c.world).disk)) (k i : ℕ) → Together F c → (i ≡ c.past → ⊥) → c.waits i ≡ true → c.waits (c.past) ≡ true
    → R.speaks k ≡ c.past → ((d : Bool) (b : ℕ) → R.live k d b ≡ None) → ((r : ℕ) → R.speaks r ≡ i → r ≡ k)
    → c.header_of i ≡ None → c.unlost i ≡ 0
    → (BookOf F c).low (c.past) ≡ (BookOf F c).answered (c.past)
    → IsStartRecovered F c R k i

-- with the last of them the past ends, where no journal has a block live for it
abbrev pub PastIsEvents : Files → Type 0
PastIsEvents F = (c : Cluster F) → Together F c → c.waits (c.past) ≡ true → (BookOf F c).low (c.past) ≡ (BookOf F c).answered (c.past)
    → c.header_of (c.past) ≡ None
    → ((d : Bool) (b : ℕ) → (((c.world).disk).heads (c.past) d).live b ≡ None)
    → IsRecovered F c c (c.past) (c.past)
