-- The book of cuts: what each block has, as a function of how many calls of its owner are kept.
pub use Rattle.lock_laws.specs.Lock.{at}
use Rattle.std.specs.Prelude.{ℕ, ◌≡◌, ◌≤◌, ◌<◌, ◌⊎◌, ⊤, suc, Bool, ◌==◌, ◌&&◌, nat_lt, if◌then◌else◌, Option, None, Some, List, [], ◌∷◌, ◌++◌}
use Rattle.cluster_laws.specs.Files.{Files, CellOf, Image, Part, LockOf, laid, Does, Tells, Touches, RightTo, State, Un, Ex}

-- a published call
pub record Kept (F : Files) : Type 0 where
  pub node : ℕ
  pub number : ℕ
  pub said : F.Said

pub record Book (F : Files) : Type 0 where
  -- who has the block: live in its journal, or touched by its calls
  pub owner : ℕ → Option ℕ
  -- what blocks without owner have
  pub unowned : ℕ → CellOf F
  -- what the owner's cut has: node, number of the last call that is kept, block
  pub says : ℕ → ℕ → ℕ → CellOf F
  -- per node the last call in its journal's head, the last published, the last answered
  pub low : ℕ → ℕ
  pub published : ℕ → ℕ
  pub answered : ℕ → ℕ
  -- the states of locks
  pub state : ℕ → F.Lock → State
  pub cache : ℕ → Part F
  -- of each call of a node that isn't in its journal: what it said, the view that it was answered from, its change
  pub told : ℕ → ℕ → F.Said
  pub view : ℕ → ℕ → Part F
  pub change : ℕ → ℕ → Part F
  -- the tree at the start, and the published calls that no published loss has dropped
  pub start : F.Tree
  pub kept : List (Kept F)

-- the cell of a block whose owner is o
abbrev pub whose : {A : Type 0} → Option ℕ → A → (ℕ → A) → A
whose None g s = g
whose (Some i) g s = s i

-- the image of a cut
abbrev pub W : (F : Files) → Book F → (ℕ → ℕ) → Image F
W F B cut b = whose (B.owner b) (B.unowned b) (λ i. B.says i (cut i) b)

-- what node j has there at its cut k, of blocks that are its own or nobody's
abbrev pub mine : (F : Files) → Book F → ℕ → ℕ → Image F
mine F B j k b = whose (B.owner b) (B.unowned b) (λ i. B.says j k b)

abbrev pub InBox : (F : Files) → Book F → (ℕ → ℕ) → Type 0
InBox F B cut = (i : ℕ) → (B.low i ≤ cut i) × (cut i ≤ B.answered i)

-- the calls that a cut keeps
abbrev pub kept_by : (F : Files) → (ℕ → ℕ) → List (Kept F) → List F.Said
kept_by F cut [] = []
kept_by F cut (k ∷ ks) = if nat_lt (cut (k.node)) (k.number) then kept_by F cut ks else (k.said ∷ kept_by F cut ks)

abbrev pub Numbered : (F : Files) → (ℕ → ℕ) → List (Kept F) → Type 0
Numbered F last [] = ⊤
Numbered F last (k ∷ ks) = (k.number ≤ last (k.node)) × Numbered F last ks

-- j's cut n has the cell x at b, and nobody else can change it
pub record Seen (F : Files) (B : Book F) (j n b : ℕ) (x : CellOf F) : Type 0 where
  pub owner : (B.owner b ≡ None) ⊎ (B.owner b ≡ Some j)
  pub cell : mine F B j n b ≡ x
  pub held : B.state j (LockOf F x) ≡ Un → ⊥

-- of the call after n, which isn't published
pub record Past (F : Files) (B : Book F) (i n : ℕ) : Type 0 where
  pub does : Does F (B.view i (suc n)) (B.told i (suc n)) (B.change i (suc n))
  pub seen : (b : ℕ) (x : CellOf F) → B.view i (suc n) b ≡ Some x → Seen F B i n b x

-- of the call after n, which isn't in the journal
pub record Logged (F : Files) (B : Book F) (i n : ℕ) : Type 0 where
  pub touched : (b : ℕ) (x : CellOf F) → B.change i (suc n) b ≡ Some x → B.owner b ≡ Some i
  pub says : (b : ℕ) → B.owner b ≡ Some i → B.says i (suc n) b ≡ laid (B.change i (suc n) b) (B.says i n b)
  pub tells : Tells F (B.told i (suc n)) (B.change i (suc n))
  -- the locks of its blocks, before and after, are those that it touches
  pub tracks : (b : ℕ) (x : CellOf F) → B.change i (suc n) b ≡ Some x
      → Touches F (B.change i (suc n)) (LockOf F (B.says i n b)) × Touches F (B.change i (suc n)) (LockOf F x)

pub record Whole (F : Files) (B : Book F) : Type 0 where
  pub low_published : (i : ℕ) → B.low i ≤ B.published i
  pub published_answered : (i : ℕ) → B.published i ≤ B.answered i
  pub stands : (cut : ℕ → ℕ) → InBox F B cut → (t : F.Tree) × F.Stands (W F B cut) t
  pub right : (cut : ℕ → ℕ) → InBox F B cut → ((i : ℕ) → cut i ≤ B.published i)
      → (t : F.Tree) × F.Stands (W F B cut) t × RightTo F (kept_by F cut (B.kept)) (B.start) t
  pub numbered : Numbered F (B.published) (B.kept)
  pub owned : (i k b : ℕ) → B.owner b ≡ Some i → B.low i ≤ k → k ≤ B.answered i → B.state i (LockOf F (B.says i k b)) ≡ Ex
  pub apart : (i j : ℕ) (l : F.Lock) → B.state i l ≡ Ex → (B.state j l ≡ Un → ⊥) → i ≡ j
  pub cached : (j b : ℕ) (x : CellOf F) → B.cache j b ≡ Some x → Seen F B j (B.answered j) b x
  pub past : (i n : ℕ) → B.published i ≤ n → n < B.answered i → Past F B i n
  pub logged : (i n : ℕ) → B.low i ≤ n → n < B.answered i → Logged F B i n

-- ---- events on the book

-- a block that j's change has becomes j's
abbrev pub taken : {A : Type 0} → ℕ → Option A → Option ℕ → Option ℕ
taken j None o = o
taken j (Some x) o = Some j

-- node j answers its next call from a view, by a change, and has this cache afterwards
abbrev pub tried : (F : Files) → Book F → ℕ → F.Said → Part F → Part F → Part F → Book F
tried F B j said view change cache = record {
  owner = λ b. taken j (change b) (B.owner b);
  unowned = B.unowned;
  says = at (B.says) j (λ k. λ b. if nat_lt (B.answered j) k then laid (change b) (mine F B j (B.answered j) b) else mine F B j k b);
  low = B.low;
  published = B.published;
  answered = at (B.answered) j (suc (B.answered j));
  state = B.state;
  cache = at (B.cache) j cache;
  told = at (B.told) j (at (B.told j) (suc (B.answered j)) said);
  view = at (B.view) j (at (B.view j) (suc (B.answered j)) view);
  change = at (B.change) j (at (B.change j) (suc (B.answered j)) change);
  start = B.start;
  kept = B.kept;
}

-- node i's next call is published
abbrev pub publish : (F : Files) → Book F → ℕ → Book F
publish F B i = record B {
  published = at (B.published) i (suc (B.published i));
  kept = B.kept ++ (record { node = i; number = suc (B.published i); said = B.told i (suc (B.published i)) } ∷ []);
}

-- node i's journal has the calls up to u
abbrev pub flushed : (F : Files) → Book F → ℕ → ℕ → Book F
flushed F B i u = record B { low = at (B.low) i u }

-- blocks of node i that no cut of the box tells apart are given back to the unowned
abbrev pub settled : (F : Files) → Book F → ℕ → (ℕ → Bool) → Book F
settled F B i p = record B {
  owner = λ b. if p b then None else B.owner b;
  unowned = λ b. if p b then B.says i (B.answered i) b else B.unowned b;
}

-- other locks, other caches
abbrev pub relocked : (F : Files) → Book F → (ℕ → F.Lock → State) → (ℕ → Part F) → Book F
relocked F B state cache = record B { state = state; cache = cache }

-- the kept calls without node i's above k
abbrev pub dropped : (F : Files) → ℕ → ℕ → List (Kept F) → List (Kept F)
dropped F i k [] = []
dropped F i k (x ∷ xs) = if (i == x.node) && nat_lt k (x.number) then dropped F i k xs else (x ∷ dropped F i k xs)

-- the end of a life of node i has taken its calls above k out
abbrev pub lost : (F : Files) → Book F → ℕ → ℕ → Book F
lost F B i k = record B {
  says = at (B.says) i (λ m. λ b. B.says i k b);
  low = at (B.low) i (B.answered i);
  kept = dropped F i k (B.kept);
}
