-- The whole machine: its events, and what holds after every list of them.
use Rattle.std.specs.Prelude.{false, ℕ, ◌≡◌, ◌≤◌, ◌<◌, ◌⊎◌, suc, Bool, true, None, Some, List, [], ◌∷◌, ◌++◌}
use Rattle.cluster_laws.specs.Files.{Files, CellOf, Part, LockOf, Does, Guards, Tells, Tracks, RightTo, State, Un, Ex}
use Rattle.cluster_laws.specs.Book.{at, Book, W, Seen, Whole, kept_by, tried, publish, flushed, settled, relocked, lost}
use Rattle.cluster_laws.specs.Locks.{Lowers, Raises, Forgets, read_into}
use Rattle.cluster_laws.specs.Mirror.{Head, Disk, Mirror, IsOutcome, IsReplay, placed, FreeIsFree, ended, flown, headed, chosen, Heads, renumbered}
use Rattle.cluster_laws.specs.History.{Item, Called, Gone, living, Legal, KeepsSynced, Each, calls_of, Fitting, IsNumbered, KeptRight}
use Rattle.cluster_laws.specs.Log.{Calm}

pub record World (F : Files) : Type 0 where
  pub book : Book F
  pub disk : Disk F
  pub items : List (Item F)
  -- per node the last sync that it answered
  pub sure : ℕ → ℕ

-- what a node has to show of an answer
pub record Answering (F : Files) (B : Book F) (j : ℕ) (said : F.Said) (v c cache : Part F) : Type 0 where
  pub sees : (b : ℕ) (x : CellOf F) → v b ≡ Some x → Seen F B j (B.answered j) b x
  pub does : Does F v said c
  pub guards : Guards F (B.state j) v c
  pub caches : (b : ℕ) (x : CellOf F) → cache b ≡ Some x → (c b ≡ Some x) ⊎ ((c b ≡ None) × Seen F B j (B.answered j) b x)
  pub tells : Tells F said c
  pub tracks : Tracks F v c

abbrev pub nothing : (F : Files) → Part F
nothing F b = None

pub data Step (F : Files) (w : World F) : World F → Type 0 where
  -- node j answers a call that is no sync
  Answers : (j : ℕ) (said : F.Said) (v c cache : Part F) → (F.IsSync said → ⊥) → Answering F (w.book) j said v c cache
      → Step F w (record w { book = tried F (w.book) j said v c cache })
  -- node j has nothing unflushed and answers a sync
  Syncs : (j : ℕ) (said : F.Said) → Does F (nothing F) said (nothing F) → F.Changes said ≡ false → Calm F (w.book) j ((w.book).low j) ((w.book).answered j)
      → Step F w (record w { book = tried F (w.book) j said (nothing F) (nothing F) ((w.book).cache j); sure = at (w.sure) j (suc ((w.book).answered j)) })
  Publishes : (i : ℕ) → (w.book).published i < (w.book).answered i
      → Step F w (record w {
        book = publish F (w.book) i;
        items = w.items ++ (Called (record { node = i; number = suc ((w.book).published i); said = (w.book).told i (suc ((w.book).published i)) }) ∷ []);
      })
  -- a header for i's journal goes in flight, and none is: of a flush, of revokes, alone, or clean
  Begins : (i : ℕ) (h : Head F) → (w.disk).heads i true ≡ (w.disk).heads i false → Heads F (w.book) (w.disk) i h → Step F w (record w { disk = headed F (w.disk) i h })
  -- it is on the disk (true: its barrier, or a fence), or never will be (false: a fence)
  Ends : (i : ℕ) (c : Bool) → Step F w (record w { book = flushed F (w.book) i (((w.disk).heads i c).cut); disk = chosen F (w.disk) i c })
  -- node r writes a block of i's journal home
  Writes : (r b : ℕ) (v : F.Content) (i : ℕ) → ((c : Bool) → ((w.disk).heads i c).live b ≡ Some v) → Step F w (record w { disk = flown F (w.disk) r b v })
  -- node r's writes home in flight are settled: by a barrier as they were written, by a fence as any bytes
  Lands : (r : ℕ) (x : ℕ → F.Content) → ((b : ℕ) → (x b ≡ (w.disk).blocks b) ⊎ ((v : F.Content) × ((w.disk).flight r b ≡ Some v)))
      → Step F w (record w { disk = ended F (w.disk) r x })
  -- blocks that are neither live nor touched are no longer i's
  Settles : (i : ℕ) (p : ℕ → Bool) → (w.book).published i ≡ (w.book).answered i
      → ((b : ℕ) → p b ≡ true → (w.book).owner b ≡ Some i)
      → ((n b : ℕ) → p b ≡ true → (w.book).low i ≤ n → n < (w.book).answered i → (w.book).change i (suc n) b ≡ None)
      → ((c : Bool) (b : ℕ) → p b ≡ true → ((w.disk).heads i c).live b ≡ None)
      → Step F w (record w { book = settled F (w.book) i p })
  Lower : (i : ℕ) (state : ℕ → F.Lock → State) (cache : ℕ → Part F) → Lowers F (w.book) i state cache → Step F w (record w { book = relocked F (w.book) state cache })
  Grants : (i : ℕ) (state : ℕ → F.Lock → State) → Raises F (w.book) i state → Step F w (record w { book = relocked F (w.book) state ((w.book).cache) })
  Reads : (j b : ℕ) → ((w.book).state j (LockOf F (W F (w.book) ((w.book).answered) b)) ≡ Un → ⊥)
      → Step F w (record w { book = relocked F (w.book) ((w.book).state) (read_into F (w.book) j b) })
  -- a cache gets smaller: a content kept beside a call is dropped
  Shrinks : (j : ℕ) (cache : ℕ → Part F) → Forgets F (w.book) j cache → Step F w (record w { book = relocked F (w.book) ((w.book).state) cache })
  -- the end of a life of i takes its calls above k out: the first above low that changes anything, and all later ones
  Loses : (i k : ℕ) → (w.book).published i ≡ (w.book).answered i → (w.book).low i ≤ k → k ≤ (w.book).answered i
      → Calm F (w.book) i ((w.book).low i) k → (k ≡ (w.book).answered i) ⊎ (F.Changes ((w.book).told i (suc k)) ≡ true)
      → ((b : ℕ) → (w.book).cache i b ≡ None)
      → ((w.disk).heads i true).cut ≡ (w.book).low i
      → Step F w (record w { book = lost F (w.book) i k; disk = renumbered F (w.disk) i ((w.book).answered i); items = w.items ++ (Gone i ((w.book).low i) k ∷ []) })

-- each sync that was published is at most its node's last
abbrev pub SyncsBelow : (F : Files) → (ℕ → ℕ) → List (Item F) → Type 0
SyncsBelow F sure items = Each F (λ k. F.IsSync (k.said) → k.number ≤ sure (k.node)) items

pub record Sound (F : Files) (w : World F) : Type 0 where
  pub whole : Whole F (w.book)
  pub mirror : Mirror F (w.book) (w.disk)
  pub told : living F (w.items) ≡ (w.book).kept
  pub legal : Legal F (w.items) ((w.book).start)
  pub keeps : KeepsSynced F (w.items)
  pub syncs : SyncsBelow F (w.sure) (w.items)
  pub unpublished : (i n : ℕ) → (w.book).published i ≤ n → n < (w.book).answered i → F.IsSync ((w.book).told i (suc n)) → suc n ≤ w.sure i
  pub sure_answered : (i : ℕ) → w.sure i ≤ (w.book).answered i
  -- where it is above low, no call up to the last sync changes anything
  pub sure_calm : (i : ℕ) → Calm F (w.book) i ((w.book).low i) (w.sure i)
  -- published calls are what was answered, and have the numbers up to the last published
  pub heard : Each F (λ k. (k.number ≤ (w.book).published (k.node)) × (k.said ≡ (w.book).told (k.node) (k.number))) (w.items)
  pub counted : (i : ℕ) → (w.book).published i ≡ calls_of F i (w.items)
  pub fits : Fitting F (w.items)

pub data Run (F : Files) : World F → World F → Type 0 where
  Stop : (w : World F) → Run F w w
  Goes : (u v w : World F) → Step F u v → Run F v w → Run F u w

-- a cluster that begins: nobody has answered a call or cached a block. A block that is live in a journal of an earlier run
-- is owned by a node that stands for the past, holds its locks exclusive and is none of those that run
pub record BeginsAt (F : Files) (w : World F) : Type 0 where
  pub numbers : (i : ℕ) → ((w.book).low i ≡ 0) × ((w.book).published i ≡ 0) × ((w.book).answered i ≡ 0) × (w.sure i ≡ 0)
  pub uncached : (i b : ℕ) → (w.book).cache i b ≡ None
  pub unheard : (w.items ≡ []) × ((w.book).kept ≡ [])
  pub stands : F.Stands (W F (w.book) (λ i. 0)) ((w.book).start)
  pub owned : (i b : ℕ) → (w.book).owner b ≡ Some i → (w.book).state i (LockOf F ((w.book).says i 0 b)) ≡ Ex
  pub apart : (i j : ℕ) (l : F.Lock) → (w.book).state i l ≡ Ex → ((w.book).state j l ≡ Un → ⊥) → i ≡ j
  pub mirror : Mirror F (w.book) (w.disk)

-- what the trace and the disk then are
pub record Headline (F : Files) (w : World F) : Type 0 where
  pub legal : Legal F (w.items) ((w.book).start)
  pub keeps_synced : KeepsSynced F (w.items)
  pub numbered : IsNumbered F (w.items)
  pub kept_right : KeptRight F (w.items)
  -- whichever heads the journals turn out to have: no call that isn't in one changes anything up to a sync of its node
  pub synced : (choice : ℕ → Bool) → Each F (λ s. F.IsSync (s.said) → Each F (λ k. k.node ≡ s.node → ((w.disk).heads (s.node) (choice (s.node))).cut < k.number
      → k.number ≤ s.number → F.Changes (k.said) ≡ false) (w.items)) (w.items)
  -- whatever becomes of the writes in flight, and whichever heads the journals turn out to have: replayed it stands for what remains
  pub remains : FreeIsFree F → (choice : ℕ → Bool) (x r : ℕ → F.Content) → IsOutcome F (w.disk) x → IsReplay F (w.disk) choice x r
      → (t : F.Tree) × F.Stands (placed F r (W F (w.book) (λ i. ((w.disk).heads i (choice i)).cut))) t
      × RightTo F (kept_by F (λ i. ((w.disk).heads i (choice i)).cut) (living F (w.items))) ((w.book).start) t

abbrev pub EveryRun : Files → Type 0
EveryRun F = (u w : World F) → BeginsAt F u → Run F u w → Headline F w
