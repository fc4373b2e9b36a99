-- What a node's log has to say: which live blocks a header leaves, and which locks may go down.
use Rattle.std.specs.Prelude.{ℕ, ◌≡◌, ◌≤◌, ◌<◌, ◌⊎◌, suc, Bool, false, None, Some}
use Rattle.cluster_laws.specs.Files.{Files, CellOf, Part, LockOf, Touches, State, Un, Ex}
use Rattle.cluster_laws.specs.Book.{Book}
use Rattle.cluster_laws.specs.Mirror.{Head, Disk}

-- no call of node i above lo up to hi changes or frees the block
abbrev pub Untouched : (F : Files) → Book F → ℕ → ℕ → ℕ → ℕ → Type 0
Untouched F B i lo hi b = (n : ℕ) → lo ≤ n → n < hi → B.change i (suc n) b ≡ None

-- the last of these calls that does is call n + 1, and leaves the cell x
pub record Last (F : Files) (B : Book F) (i lo hi b : ℕ) : Type 0 where
  pub call : ℕ
  pub cell : CellOf F
  pub above : lo ≤ call
  pub below : call < hi
  pub changes : B.change i (suc call) b ≡ Some cell
  pub none_later : Untouched F B i (suc call) hi b

-- no call of node i above lo up to hi changes the tree
abbrev pub Calm : (F : Files) → Book F → ℕ → ℕ → ℕ → Type 0
Calm F B i lo hi = (n : ℕ) → lo ≤ n → n < hi → F.Changes (B.told i (suc n)) ≡ false

-- a header for the journal, which then has the calls up to u. A block that they don't touch is live as it was, or is home and
-- not live any more. Of one that they do, the last content is live, or it is free (and its old entry is revoked, or stands).
-- u is the last number in a flush, also in one for revokes, and in an unmount's clean header; it is low in a header alone and in a replay's clean header
pub record IsHeader (F : Files) (B : Book F) (D : Disk F) (i u : ℕ) (h : Head F) : Type 0 where
  pub cut : h.cut ≡ u
  pub range : (B.low i ≤ u) × (u ≤ B.published i)
  pub each : (b : ℕ) → (Untouched F B i (B.low i) u b × ((h.live b ≡ (D.heads i false).live b)
      ⊎ ((h.live b ≡ None) × ((v : F.Content) → (D.heads i false).live b ≡ Some v → D.blocks b ≡ v))))
      ⊎ ((l : Last F B i (B.low i) u b) × ((h.live b ≡ Some ((l.cell).content)) ⊎ F.IsFree ((l.cell).place)))
  pub none_flying : (r b : ℕ) (v : F.Content) → D.flight r b ≡ Some v → B.owner b ≡ Some i → ⊥

-- the lock is past its flush: no call that isn't in the journal changed or freed a block that was under it before the call or is after it
abbrev pub IsFlushed : (F : Files) → Book F → ℕ → F.Lock → Type 0
IsFlushed F B i l = (n b : ℕ) (x : CellOf F) → B.low i ≤ n → n < B.answered i → B.change i (suc n) b ≡ Some x
    → (LockOf F x ≡ l → ⊥) × (LockOf F (B.says i n b) ≡ l → ⊥)

-- it is past its revokes: no live block is under it, whichever header is accepted
abbrev pub IsRevoked : (F : Files) → Book F → Disk F → ℕ → F.Lock → Type 0
IsRevoked F B D i l = (c : Bool) (b : ℕ) (v : F.Content) → (D.heads i c).live b ≡ Some v → LockOf F (B.says i (B.low i) b) ≡ l → ⊥

-- past both the lock may go down from exclusive
pub record MayGo (F : Files) (B : Book F) (D : Disk F) (i : ℕ) (l : F.Lock) : Type 0 where
  pub unlive : IsRevoked F B D i l
  pub untouched : IsFlushed F B i l

-- What a node keeps of each lock that it holds: the number of the last call since its grant that touched it. `since` is the number of the node's last call at that
-- grant, which the node needn't keep.
pub record NumbersStand (F : Files) (B : Book F) (i : ℕ) (since last : F.Lock → ℕ) : Type 0 where
  pub answered : (l : F.Lock) → since l ≤ B.answered i
  pub touched : (n : ℕ) (l : F.Lock) → B.low i ≤ n → since l ≤ n → n < B.answered i → Touches F (B.change i (suc n)) l → suc n ≤ last l
  -- no call before the grant that isn't in the journal changed or freed a block that was under the lock before it or is after it
  pub none_before : (n b : ℕ) (x : CellOf F) (l : F.Lock) → B.low i ≤ n → n < since l → B.change i (suc n) b ≡ Some x
      → (LockOf F x ≡ l → ⊥) × (LockOf F (B.says i n b) ≡ l → ⊥)

-- of a lock that the node doesn't hold the numbers may begin anew, as they do at a grant; else the last call may only rise
abbrev pub GoOn : (F : Files) → Book F → ℕ → (F.Lock → ℕ) → (F.Lock → ℕ) → (F.Lock → ℕ) → (F.Lock → ℕ) → Type 0
GoOn F B i since last since' last' = (l : F.Lock) → ((B.state i l ≡ Un) × (since' l ≡ B.answered i)) ⊎ ((since' l ≡ since l) × (last l ≤ last' l))

pub record GoesDown (F : Files) (B : Book F) (D : Disk F) (i : ℕ) (state : ℕ → F.Lock → State) (cache : ℕ → Part F) : Type 0 where
  pub others : (j : ℕ) → (j ≡ i → ⊥) → (state j ≡ B.state j) × (cache j ≡ B.cache j)
  pub all_published : B.published i ≡ B.answered i
  pub clean : (l : F.Lock) → B.state i l ≡ Ex → (state i l ≡ Ex) ⊎ MayGo F B D i l
  pub weaker : (l : F.Lock) → (state i l ≡ Ex → B.state i l ≡ Ex) × (B.state i l ≡ Un → state i l ≡ Un)
  pub cached : (b : ℕ) (x : CellOf F) → cache i b ≡ Some x → (B.cache i b ≡ Some x) × (state i (LockOf F x) ≡ Un → ⊥)
