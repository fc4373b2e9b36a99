-- The laws, each as one statement.
use Rattle.std.specs.Prelude.{false, true, Some, ℕ, ◌≡◌, ◌≤◌, ◌<◌, ◌⊎◌, ⊤, suc, Bool, List, ◌++◌, None, [], ◌∷◌}
use Rattle.cluster_laws.specs.Files.{Files, Part, LockOf, RightTo, State, Un, Ex, laid, CellOf, Touches}
use Rattle.cluster_laws.specs.Book.{Book, Whole, W, Seen, tried, publish, flushed, settled, relocked, kept_by, lost}
use Rattle.cluster_laws.specs.Locks.{Lowers, Raises, read_into}
use Rattle.cluster_laws.specs.Mirror.{Near, Head, Heads, Disk, Mirror, IsOutcome, IsReplay, FreeIsFree, placed, renumbered}
use Rattle.cluster_laws.specs.History.{Legal, living, saids, Each, Loss, gones, cut_at, Above, AreLives, Gone}
use Rattle.cluster_laws.specs.Log.{Untouched, Calm, IsHeader, IsFlushed, IsRevoked, MayGo, NumbersStand, GoOn, GoesDown}
use Rattle.cluster_laws.specs.Notes.{Note, NoteStands, Caches, CachesAfter, CacheMinds, NoteMinds, NeedsBlock}
use Rattle.cluster_laws.specs.World.{World, Answering, Step, Answers, Sound}

-- one node answers a call, from its view alone: the book keeps Whole, for every cut
abbrev pub TryKeeps : Files → Type 0
TryKeeps F = (B : Book F) (j : ℕ) (said : F.Said) (v c cache : Part F) → Whole F B → Answering F B j said v c cache → Whole F (tried F B j said v c cache)

abbrev pub PublishKeeps : Files → Type 0
PublishKeeps F = (B : Book F) (i : ℕ) → Whole F B → B.published i < B.answered i → Whole F (publish F B i)

abbrev pub FlushKeeps : Files → Type 0
FlushKeeps F = (B : Book F) (i u : ℕ) → Whole F B → B.low i ≤ u → u ≤ B.published i → Whole F (flushed F B i u)

abbrev pub DownKeeps : Files → Type 0
DownKeeps F = (B : Book F) (i : ℕ) (state : ℕ → F.Lock → State) (cache : ℕ → Part F) → Whole F B → Lowers F B i state cache → Whole F (relocked F B state cache)

abbrev pub GrantKeeps : Files → Type 0
GrantKeeps F = (B : Book F) (i : ℕ) (state : ℕ → F.Lock → State) → Whole F B → Raises F B i state → Whole F (relocked F B state (B.cache))

-- a block under a lock that j holds has one cell in all images that have j's calls
abbrev pub ReadSees : Files → Type 0
ReadSees F = (B : Book F) (j b : ℕ) → Whole F B → (B.state j (LockOf F (W F B (B.answered) b)) ≡ Un → ⊥) → Seen F B j (B.answered j) b (W F B (B.answered) b)

-- whatever becomes of the writes in flight and of the headers in flight
abbrev pub Remains : Files → Type 0
Remains F = (B : Book F) (D : Disk F) (choice : ℕ → Bool) (x r : ℕ → F.Content) → Whole F B → Mirror F B D → FreeIsFree F
    → IsOutcome F D x → IsReplay F D choice x r
    → (t : F.Tree) × F.Stands (placed F r (W F B (λ i. (D.heads i (choice i)).cut))) t × RightTo F (kept_by F (λ i. (D.heads i (choice i)).cut) (B.kept)) (B.start) t

abbrev pub StepKeeps : Files → Type 0
StepKeeps F = (w w' : World F) → Step F w w' → Sound F w → Sound F w'

abbrev pub HeaderHeads : Files → Type 0
HeaderHeads F = (B : Book F) (D : Disk F) (i u : ℕ) (h : Head F) → Whole F B → Mirror F B D → IsHeader F B D i u h → Heads F B D i h

-- a demotion's last stage: the blocks that are neither live nor touched are given back, and the lock goes
abbrev pub ReleaseKeeps : Files → Type 0
ReleaseKeeps F = (B : Book F) (D : Disk F) (i : ℕ) (state : ℕ → F.Lock → State) (cache : ℕ → Part F) → Whole F B → Mirror F B D → GoesDown F B D i state cache
    → (p : ℕ → Bool) × Whole F (relocked F (settled F B i p) state cache) × Mirror F (relocked F (settled F B i p) state cache) D

-- the test that a node makes: the last call since its grant that touched the lock is in the journal, so the lock is past its flush, whatever calls were answered since
abbrev pub NumberFlushes : Files → Type 0
NumberFlushes F = (B : Book F) (i : ℕ) (l : F.Lock) (since last : F.Lock → ℕ) → Whole F B → NumbersStand F B i since last → last l ≤ B.low i → IsFlushed F B i l

-- and where no live block is under it, it may go
abbrev pub NumberTells : Files → Type 0
NumberTells F = (B : Book F) (D : Disk F) (i : ℕ) (l : F.Lock) (since last : F.Lock → ℕ) → Whole F B → NumbersStand F B i since last
    → IsRevoked F B D i l → last l ≤ B.low i → MayGo F B D i l

-- calls that change no tree touch no block
abbrev pub CalmIsUntouched : Files → Type 0
CalmIsUntouched F = (B : Book F) (i lo hi b : ℕ) → Whole F B → B.low i ≤ lo → hi ≤ B.answered i → Calm F B i lo hi → Untouched F B i lo hi b

-- of a block that j doesn't have in its log, or has home, the disk has what the images have that j's calls are in
abbrev pub ReadIsRight : Files → Type 0
ReadIsRight F = (B : Book F) (D : Disk F) (j b : ℕ) → Whole F B → Mirror F B D → (B.state j (LockOf F (W F B (B.answered) b)) ≡ Un → ⊥)
    → (B.owner b ≡ Some j → Untouched F B j (B.low j) (B.answered j) b × ((v : F.Content) → (D.heads j false).live b ≡ Some v → D.blocks b ≡ v))
    → Near F (D.blocks b) (W F B (B.answered) b)

-- the history with losses of any lives, several of one node among them, is legal, and keeps what the cut that is left keeps
abbrev pub RemainsLegal : Files → Type 0
RemainsLegal F = (w : World F) (ls : List Loss) → Sound F w → Above ((w.book).low) ls
    → Legal F (w.items ++ gones F ls) ((w.book).start)
    × (saids F (living F (w.items ++ gones F ls)) ≡ kept_by F (cut_at ((w.book).published) ls) ((w.book).kept))

-- a slot is recovered: its journal was replayed and is clean, its calls above k are lost, its blocks are given back and its locks end
abbrev pub RecoveredKeeps : Files → Type 0
RecoveredKeeps F = (w : World F) (i k : ℕ) (state : ℕ → F.Lock → State) → Sound F w
    → (w.book).published i ≡ (w.book).answered i → (w.book).low i ≤ k → k ≤ (w.book).answered i
    → Calm F (w.book) i ((w.book).low i) k → (k ≡ (w.book).answered i) ⊎ (F.Changes ((w.book).told i (suc k)) ≡ true)
    → ((b : ℕ) → (w.book).cache i b ≡ None)
    → ((w.disk).heads i true).cut ≡ (w.book).low i
    → ((c : Bool) (b : ℕ) → ((w.disk).heads i c).live b ≡ None)
    → ((l : F.Lock) → state i l ≡ Un) → ((j : ℕ) → (j ≡ i → ⊥) → state j ≡ (w.book).state j)
    → (p : ℕ → Bool) × Sound F (record w {
      book = relocked F (settled F (lost F (w.book) i k) i p) state ((w.book).cache);
      disk = renumbered F (w.disk) i ((w.book).answered i);
      items = w.items ++ (Gone i ((w.book).low i) k ∷ []);
    })

-- a client's note stands: what the disk gives the node, its own write in flight first, is what the images have, and the lock is the note's
abbrev pub NotedReads : Files → Type 0
NotedReads F = (B : Book F) (D : Disk F) (j : ℕ) (pinned : F.Lock → Bool) (n : Note F) → Whole F B → Mirror F B D → Caches F B D j → NoteStands F B j pinned n
    → (B.state j (LockOf F (W F B (B.answered) (n.block))) ≡ Un → ⊥)
    × (laid (D.flight j (n.block)) (D.blocks (n.block)) ≡ (W F B (B.answered) (n.block)).content)
    × (LockOf F (W F B (B.answered) (n.block)) ≡ n.lock)

-- a try of node j keeps what is said of its cache, each note of its other clients whose block it doesn't write or free, and all that is
-- said of other nodes
abbrev pub TryKeepsNotes : Files → Type 0
TryKeepsNotes F = (B : Book F) (D : Disk F) (j : ℕ) (said : F.Said) (v c cache : Part F) → Whole F B → Answering F B j said v c cache → CachesAfter F B D j c cache
    → (Caches F B D j → Caches F (tried F B j said v c cache) D j)
    × ((pinned : F.Lock → Bool) (n : Note F) → c (n.block) ≡ None → NoteStands F B j pinned n → NoteStands F (tried F B j said v c cache) j pinned n)
    × ((i : ℕ) → (i ≡ j → ⊥) → Caches F B D i → Caches F (tried F B j said v c cache) D i)
    × ((i : ℕ) (pinned : F.Lock → Bool) (n : Note F) → (i ≡ j → ⊥) → NoteStands F B i pinned n → NoteStands F (tried F B j said v c cache) i pinned n)

-- a read of node j keeps all notes but those of the block that it reads under an exclusive lock, which are met
abbrev pub ReadKeepsNotes : Files → Type 0
ReadKeepsNotes F = (B : Book F) (D : Disk F) (j b : ℕ) → Whole F B
    → ((i : ℕ) → Caches F B D i → Caches F (relocked F B (B.state) (read_into F B j b)) D i)
    × ((i : ℕ) (pinned : F.Lock → Bool) (n : Note F) → (i ≡ j → (n.block ≡ b → ⊥) ⊎ (B.state i (n.lock) ≡ Ex → ⊥)) → NoteStands F B i pinned n
    → NoteStands F (relocked F B (B.state) (read_into F B j b)) i pinned n)

-- every event keeps what is said of a running node's cache and notes, where the node minds what it has to
abbrev pub StepKeepsNotes : Files → Type 0
StepKeepsNotes F = (w w' : World F) (step : Step F w w') (i : ℕ) → Sound F w
    → (CacheMinds F w w' step i → Caches F (w.book) (w.disk) i → Caches F (w'.book) (w'.disk) i)
    × ((pinned : F.Lock → Bool) (n : Note F) → NoteMinds F w w' step i pinned n → NoteStands F (w.book) i pinned n → NoteStands F (w'.book) i pinned n)

-- what a try that ends without an answer notes stands
abbrev pub NotesStand : Files → Type 0
NotesStand F = (B : Book F) (j : ℕ) (v : Part F) (pinned : F.Lock → Bool) (n : Note F) → Whole F B
    → ((b : ℕ) (x : CellOf F) → v b ≡ Some x → Seen F B j (B.answered j) b x) → NeedsBlock F v (n.block) (n.lock)
    → (B.state j (n.lock) ≡ Un → ⊥) → pinned (n.lock) ≡ true → (B.cache j (n.block) ≡ None) ⊎ (B.state j (n.lock) ≡ Ex → ⊥) → NoteStands F B j pinned n

-- a call that node i answers raises the number of each lock that it touches
abbrev pub TouchMinds : (F : Files) (w w' : World F) → Step F w w' → ℕ → (F.Lock → ℕ) → Type 0
TouchMinds F w _ (Answers j said v c cache no_sync a) i last' = i ≡ j → (l : F.Lock) → Touches F c l → suc ((w.book).answered j) ≤ last' l
TouchMinds F w _ _ i last' = ⊤

-- every event keeps the numbers of a node's locks: a grant, at which they begin anew, a try that touches them, headers, and the end of a life
abbrev pub NumbersKeep : Files → Type 0
NumbersKeep F = (w w' : World F) (step : Step F w w') (i : ℕ) (since last since' last' : F.Lock → ℕ) → Sound F w → GoOn F (w.book) i since last since' last'
    → TouchMinds F w w' step i last' → NumbersStand F (w.book) i since last → NumbersStand F (w'.book) i since' last'

-- what the heads of a choice have
abbrev pub head_cuts : (F : Files) → Disk F → (ℕ → Bool) → ℕ → ℕ
head_cuts F D choice i = (D.heads i (choice i)).cut

-- of this node the losses of one life keep what the rule of losses keeps: the number that the cut has, or more that changes nothing
abbrev pub HasLoss : (F : Files) → Book F → (ℕ → ℕ) → ℕ → List Loss → Type 0
HasLoss F B cut i [] = ⊥
HasLoss F B cut i (l ∷ ls) = ((l.node ≡ i) × (l.kept ≤ B.answered i) × Calm F B i (cut i) (l.kept)) ⊎ HasLoss F B cut i ls

-- a loss for each node that has published more than the cut keeps, by the rule; several of one node among them, in any order
pub record AreLosses (F : Files) (B : Book F) (published cut : ℕ → ℕ) (ls : List Loss) : Type 0 where
  pub above : Above cut ls
  pub every : (i : ℕ) → (published i ≤ cut i) ⊎ HasLoss F B cut i ls

-- the prefix clause: whatever becomes of the writes in flight and of the headers, the history with a loss for each life that has none is legal, and
-- the disk, its journals replayed, stands for the tree at its end
abbrev pub PrefixClause : Files → Type 0
PrefixClause F = (w : World F) (choice : ℕ → Bool) (x r : ℕ → F.Content) (ls : List Loss) → Sound F w → FreeIsFree F
    → IsOutcome F (w.disk) x → IsReplay F (w.disk) choice x r → AreLives ((w.book).published) (head_cuts F (w.disk) choice) ls
    → Legal F (w.items ++ gones F ls) ((w.book).start)
    × ((t : F.Tree) × F.Stands (placed F r (W F (w.book) (head_cuts F (w.disk) choice))) t × RightTo F (saids F (living F (w.items ++ gones F ls))) ((w.book).start) t)

-- no published call behind the number of its node's head changes anything, whichever heads these are
abbrev pub NothingIsUnflushed : (F : Files) → World F → (ℕ → Bool) → Type 0
NothingIsUnflushed F w choice = Each F (λ k. head_cuts F (w.disk) choice (k.node) < k.number → F.Changes (k.said) ≡ false) (w.items)

-- Then there is nothing to lose: each outcome of the disk, replayed, stands for the tree of the history as it is. So it is where each node unmounted or only read; that
-- a run ends so is for its core to show.
abbrev pub AtTheEnd : Files → Type 0
AtTheEnd F = (w : World F) (choice : ℕ → Bool) (x r : ℕ → F.Content) → Sound F w → FreeIsFree F → NothingIsUnflushed F w choice
    → IsOutcome F (w.disk) x → IsReplay F (w.disk) choice x r
    → (t : F.Tree) × F.Stands (placed F r (W F (w.book) ((w.book).published))) t × RightTo F (saids F (living F (w.items))) ((w.book).start) t

-- and with nothing live and nothing in flight it is the image on the disk itself
abbrev pub ImageAtTheEnd : Files → Type 0
ImageAtTheEnd F = (w : World F) (choice : ℕ → Bool) → Sound F w → FreeIsFree F → NothingIsUnflushed F w choice → ((r b : ℕ) → (w.disk).flight r b ≡ None)
    → ((i b : ℕ) → ((w.disk).heads i (choice i)).live b ≡ None)
    → (t : F.Tree) × F.Stands (placed F ((w.disk).blocks) (W F (w.book) ((w.book).published))) t × RightTo F (saids F (living F (w.items))) ((w.book).start) t
