-- From images of contents, with a table of where each block belongs, to images of cells: what a call's answer has to say, and what free blocks.
use Rattle.std.specs.Prelude.{ℕ, ◌≡◌, ◌⊎◌, Bool, Option, None, Some}
use Rattle.cluster_laws.specs.Files.{Cell, Files, State, Ex, Does, Guards, Tells, Tracks}
use Rattle.cluster_laws.specs.Mirror.{FreeIsFree}

pub record Rules : Type 1 where
  pub Content : Type 0
  pub Place : Type 0
  pub Lock : Type 0
  pub Tree : Type 0
  pub Said : Type 0
  pub lock_of : Place → Lock
  pub IsFree : Place → Type 0
  -- the contents stand for the tree, and this is where each block belongs
  pub StandsFor : (ℕ → Content) → (ℕ → Place) → Tree → Type 0
  pub after : Said → Tree → Tree
  pub Answers : Said → Tree → Type 0
  pub IsSync : Said → Type 0
  pub Changes : Said → Bool
  pub inode : ℕ → Lock
  -- the block is a place of a journal's ring; each journal has an accepted head and no bad chunk
  pub IsRing : ℕ → Type 0
  pub RingsAreGood : (ℕ → Content) → Type 0

abbrev pub contents : {C P : Type 0} → (ℕ → Cell C P) → ℕ → C
contents m b = (m b).content

abbrev pub places : {C P : Type 0} → (ℕ → Cell C P) → ℕ → P
places m b = (m b).place

abbrev pub files_of : Rules → Files
files_of R = record {
  Content = R.Content;
  Place = R.Place;
  Lock = R.Lock;
  Tree = R.Tree;
  Said = R.Said;
  lock_of = R.lock_of;
  IsFree = R.IsFree;
  Stands = λ m t. R.StandsFor (contents m) (places m) t;
  after = R.after;
  Answers = R.Answers;
  IsSync = R.IsSync;
  Changes = R.Changes;
  inode = R.inode;
}

abbrev pub written : {C P : Type 0} → Option (Cell C P) → C → C
written None d = d
written (Some x) d = x.content

abbrev pub moved : {C P : Type 0} → Option (Cell C P) → P → P
moved None p = p
moved (Some x) p = x.place

-- the change has a block that it writes, under the lock
abbrev pub WritesUnder : (R : Rules) → (ℕ → Option (Cell R.Content R.Place)) → R.Lock → Type 0
WritesUnder R c l = (n : ℕ) × (y : Cell R.Content R.Place) × (c n ≡ Some y) × (R.IsFree (y.place) → ⊥) × (R.lock_of (y.place) ≡ l)

-- it has the dinode of the lock's inode: frees it, or writes it, and then it is under that lock
abbrev pub HasInode : (R : Rules) → (ℕ → Option (Cell R.Content R.Place)) → R.Lock → Type 0
HasInode R c l = (n : ℕ) × (y : Cell R.Content R.Place) × (c n ≡ Some y) × (l ≡ R.inode n)
    × (R.IsFree (y.place) ⊎ ((R.IsFree (y.place) → ⊥) × (R.lock_of (y.place) ≡ R.inode n)))

-- a block that is freed was under the lock of an inode whose dinode the same change frees or writes, and its group's bitmap is written;
-- one that is written stays under its lock, or was free, and its group's bitmap is written
abbrev pub Tracked : (R : Rules) → (ℕ → Option (Cell R.Content R.Place)) → R.Lock → R.Place → Type 0
Tracked R c was p = (R.IsFree p × HasInode R c was × WritesUnder R c (R.lock_of p))
    ⊎ ((R.IsFree p → ⊥) × ((was ≡ R.lock_of p) ⊎ WritesUnder R c was))

-- what a call's answer has to say, of one image that agrees with the view's blocks and stands for a tree
pub record Did (R : Rules) (held : R.Lock → State) (said : R.Said) (c : ℕ → Option (Cell R.Content R.Place)) (im : ℕ → R.Content) (at : ℕ → R.Place) (t : R.Tree) : Type 0 where
  -- with the change it stands for the tree after, and no block but the change's belongs elsewhere than it did
  pub stands : R.StandsFor (λ b. written (c b) (im b)) (λ b. moved (c b) (at b)) (R.after said t)
  pub answers : R.Answers said t
  -- the locks of the change's blocks, before and after, are held exclusive
  pub before : (b : ℕ) (y : Cell R.Content R.Place) → c b ≡ Some y → held (R.lock_of (at b)) ≡ Ex
  pub behind : (b : ℕ) (y : Cell R.Content R.Place) → c b ≡ Some y → held (R.lock_of (y.place)) ≡ Ex
  pub tracked : (b : ℕ) (y : Cell R.Content R.Place) → c b ≡ Some y → Tracked R c (R.lock_of (at b)) (y.place)
  -- no block of it is a place of a journal's ring
  pub rings : (b : ℕ) (y : Cell R.Content R.Place) → c b ≡ Some y → R.IsRing b → ⊥

abbrev pub AnswersByView : (R : Rules) → (R.Lock → State) → (ℕ → Option (Cell R.Content R.Place)) → R.Said → (ℕ → Option (Cell R.Content R.Place)) → Type 0
AnswersByView R held v said c = Tells (files_of R) said c × ((im : ℕ → R.Content) (at : ℕ → R.Place) (t : R.Tree)
    → ((b : ℕ) (x : Cell R.Content R.Place) → v b ≡ Some x → im b ≡ x.content) → R.StandsFor im at t → Did R held said c im at t)

-- the contents of free blocks don't matter
abbrev pub FreeDoesNotMatter : Rules → Type 0
FreeDoesNotMatter R = (im im' : ℕ → R.Content) (at : ℕ → R.Place) (t : R.Tree) → R.StandsFor im at t
    → ((b : ℕ) → (im b ≡ im' b) ⊎ R.IsFree (at b)) → R.StandsFor im' at t

abbrev pub AnswersAreDone : Rules → Type 0
AnswersAreDone R = (held : R.Lock → State) (v c : ℕ → Option (Cell R.Content R.Place)) (said : R.Said) → AnswersByView R held v said c
    → Does (files_of R) v said c × Guards (files_of R) held v c × Tells (files_of R) said c × Tracks (files_of R) v c

abbrev pub FreeCells : Rules → Type 0
FreeCells R = FreeDoesNotMatter R → FreeIsFree (files_of R)
