-- The disk's journals, which the machine sees as heads alone: the places of their rings, and which journal speaks for whom.
use Rattle.std.specs.Prelude.{ℕ, ◌≡◌, ◌⊎◌, Bool, true, false, Option, None, Some}
use Rattle.cluster_laws.specs.Files.{Files, RightTo, State, Un}
use Rattle.cluster_laws.specs.Book.{W, kept_by, settled, relocked, at}
use Rattle.cluster_laws.specs.Mirror.{Disk, IsOutcome, IsReplay, Head, headed, chosen, either}
use Rattle.cluster_laws.specs.History.{living}
use Rattle.cluster_laws.specs.World.{World, BeginsAt, Run, Sound}
use Rattle.cluster_laws.specs.Contents.{Rules, files_of, places, FreeDoesNotMatter}

-- ---- ring places: what the disk has there doesn't matter. A call changes none (`rings` of `Did`)

abbrev pub RingsDoNotMatter : Rules → Type 0
RingsDoNotMatter R = (im im' : ℕ → R.Content) (at : ℕ → R.Place) (t : R.Tree) → R.StandsFor im at t → R.RingsAreGood im'
    → ((b : ℕ) → (im b ≡ im' b) ⊎ R.IsRing b) → R.StandsFor im' at t

-- the disk with its rings as they are, replayed, stands for what remains
abbrev pub EveryDisk : Rules → Type 0
EveryDisk R = (u w : World (files_of R)) → BeginsAt (files_of R) u → Run (files_of R) u w → FreeDoesNotMatter R → RingsDoNotMatter R
    → (choice : ℕ → Bool) (x r full : ℕ → R.Content) → IsOutcome (files_of R) (w.disk) x → IsReplay (files_of R) (w.disk) choice x r
    → R.RingsAreGood full → ((b : ℕ) → (r b ≡ full b) ⊎ R.IsRing b)
    → (t : R.Tree) × R.StandsFor full (places (W (files_of R) (w.book) (λ i. ((w.disk).heads i (choice i)).cut))) t
    × RightTo (files_of R) (kept_by (files_of R) (λ i. ((w.disk).heads i (choice i)).cut) (living (files_of R) (w.items))) ((w.book).start) t

-- ---- which journal speaks for which node. Journals that wait since the start speak for the past, all for one

pub record Rings (F : Files) (D : Disk F) : Type 0 where
  pub speaks : ℕ → ℕ
  -- several journals speak for the past alone
  pub past : ℕ
  pub lone : (r k : ℕ) → speaks r ≡ speaks k → (speaks r ≡ past → ⊥) → r ≡ k
  -- the live blocks of each journal, by the old head and by the one in flight
  pub live : ℕ → Bool → ℕ → Option F.Content
  -- no block is live in two journals
  pub apart : (r k : ℕ) (c d : Bool) (b : ℕ) (u v : F.Content) → live r c b ≡ Some u → live k d b ≡ Some v → r ≡ k
  -- of those that speak for one node at most this has a header in flight
  pub one : ℕ → ℕ
  pub single : (r : ℕ) → (one (speaks r) ≡ r → ⊥) → live r true ≡ live r false
  -- together they have what the node's head has
  pub parted : (i : ℕ) (c : Bool) (b : ℕ) (v : F.Content) → (D.heads i c).live b ≡ Some v → (r : ℕ) × (speaks r ≡ i) × (live r c b ≡ Some v)
  pub joined : (r : ℕ) (c : Bool) (b : ℕ) (v : F.Content) → live r c b ≡ Some v → (D.heads (speaks r) c).live b ≡ Some v

-- the live blocks of the journals put in their places, by a choice for each journal
abbrev pub IsReplayOfRings : (F : Files) (D : Disk F) → Rings F D → (ℕ → Bool) → (ℕ → F.Content) → (ℕ → F.Content) → Type 0
IsReplayOfRings F D R choice x r = (b : ℕ) → ((k : ℕ) × (v : F.Content) × (R.live k (choice k) b ≡ Some v) × (r b ≡ v))
    ⊎ (((k : ℕ) → R.live k (choice k) b ≡ None) × (r b ≡ x b))

-- a choice for each journal is one for each node
abbrev pub RingsReplay : Files → Type 0
RingsReplay F = (D : Disk F) (R : Rings F D) (choice : ℕ → Bool) (x r : ℕ → F.Content) → IsReplayOfRings F D R choice x r → IsReplay F D (λ i. choice (R.one i)) x r

-- a journal that has nothing live goes over to another node, which has none yet: a slot is recovered that waited since the start
abbrev pub RingGoesOver : Files → Type 0
RingGoesOver F = (D : Disk F) (R : Rings F D) (k i : ℕ) → ((c : Bool) (b : ℕ) → R.live k c b ≡ None) → ((r : ℕ) → R.speaks r ≡ i → r ≡ k)
    → (R' : Rings F D) × (R'.speaks k ≡ i) × ((r : ℕ) → (r ≡ k → ⊥) → R'.speaks r ≡ R.speaks r) × (R'.live ≡ R.live) × (R'.one ≡ R.one)

-- a header for journal k begins, and no other of its node's is in flight: it is a header of the node, with what the new head and the node's
-- other journals have live; what the new head has live no other journal has. For the past so is the clean header of a replay
abbrev pub RingBegins : Files → Type 0
RingBegins F = (D : Disk F) (R : Rings F D) (k : ℕ) (new : ℕ → Option F.Content) (h : Head F)
    → ((r : ℕ) → R.speaks r ≡ R.speaks k → R.live r true ≡ R.live r false)
    → ((b : ℕ) (v : F.Content) → h.live b ≡ Some v → (new b ≡ Some v) ⊎ ((r : ℕ) × (r ≡ k → ⊥) × (R.speaks r ≡ R.speaks k) × (R.live r false b ≡ Some v)))
    → ((b : ℕ) (v : F.Content) → new b ≡ Some v → h.live b ≡ Some v)
    → ((r b : ℕ) (v : F.Content) → (r ≡ k → ⊥) → R.speaks r ≡ R.speaks k → R.live r false b ≡ Some v → h.live b ≡ Some v)
    → ((r b : ℕ) (c : Bool) (u v : F.Content) → (r ≡ k → ⊥) → new b ≡ Some u → R.live r c b ≡ Some v → ⊥)
    → (R' : Rings F (headed F D (R.speaks k) h)) × (R'.speaks ≡ R.speaks) × (R'.live ≡ at (R.live) k (either (R.live k false) new))

-- a header of node i ends: each of its journals is as it turned out
abbrev pub RingEnds : Files → Type 0
RingEnds F = (D : Disk F) (R : Rings F D) (i : ℕ) (c : Bool)
    → (R' : Rings F (chosen F D i c)) × (R'.speaks ≡ R.speaks) × ((r : ℕ) → R.speaks r ≡ i → (d : Bool) → R'.live r d ≡ R.live r c)
    × ((r : ℕ) → (R.speaks r ≡ i → ⊥) → R'.live r ≡ R.live r)

-- a slot is recovered that waited since the start: the past p gives back what no journal has live any more, and the journal goes over
abbrev pub StartSlotRecovered : Files → Type 0
StartSlotRecovered F = (w : World F) (R : Rings F (w.disk)) (p k i : ℕ) → Sound F w → (w.book).published p ≡ (w.book).answered p → (w.book).low p ≡ (w.book).answered p
    → ((c : Bool) (b : ℕ) → R.live k c b ≡ None) → ((r : ℕ) → R.speaks r ≡ i → r ≡ k)
    → (q : ℕ → Bool) × Sound F (record w { book = settled F (w.book) p q })
    × ((b : ℕ) → (settled F (w.book) p q).owner b ≡ Some p → (c : Bool) × (v : F.Content) × (((w.disk).heads p c).live b ≡ Some v))
    × ((R' : Rings F (w.disk)) × (R'.speaks k ≡ i) × ((r : ℕ) → (r ≡ k → ⊥) → R'.speaks r ≡ R.speaks r) × (R'.live ≡ R.live) × (R'.one ≡ R.one))

-- where the past has no block any more, its locks end
abbrev pub PastEnds : Files → Type 0
PastEnds F = (w : World F) (p : ℕ) (state : ℕ → F.Lock → State) → Sound F w → (w.book).published p ≡ (w.book).answered p
    → ((b : ℕ) → (w.book).owner b ≡ Some p → ⊥) → ((b : ℕ) → (w.book).cache p b ≡ None)
    → ((l : F.Lock) → state p l ≡ Un) → ((j : ℕ) → (j ≡ p → ⊥) → state j ≡ (w.book).state j)
    → Sound F (record w { book = relocked F (w.book) state ((w.book).cache) })
