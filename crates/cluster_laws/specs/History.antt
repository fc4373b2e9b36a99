-- Histories of published calls and of what the ends of lives took out.
use Rattle.std.specs.Prelude.{ℕ, ◌≡◌, ◌≤◌, ◌<◌, ◌⊎◌, ⊤, suc, Bool, true, false, ◌==◌, ◌&&◌, ◌||◌, nat_lt, if◌then◌else◌, List, [], ◌∷◌, ◌++◌, length, take}
use Rattle.cluster_laws.specs.Files.{Files, RightTo}
use Rattle.cluster_laws.specs.Book.{at, Kept}

pub data Item (F : Files) : Type 0 where
  Called : Kept F → Item F
  -- what the end of a life of a node took out: its calls so far above a number. Before it stands the number of the last call in the
  -- journal's accepted head, which the machine alone sees
  Gone : ℕ → ℕ → ℕ → Item F

abbrev pub drops : (F : Files) → ℕ → ℕ → Item F → Bool
drops F node number (Called k) = false
drops F node number (Gone i upto kept) = (i == node) && nat_lt kept number

abbrev pub any_drops : (F : Files) → ℕ → ℕ → List (Item F) → Bool
any_drops F node number [] = false
any_drops F node number (i ∷ is) = drops F node number i || any_drops F node number is

-- the calls, without each that a later loss of its node takes out
abbrev pub living : (F : Files) → List (Item F) → List (Kept F)
living F [] = []
living F (Gone i upto kept ∷ is) = living F is
living F (Called k ∷ is) = if any_drops F (k.node) (k.number) is then living F is else (k ∷ living F is)

abbrev pub saids : (F : Files) → List (Kept F) → List F.Said
saids F [] = []
saids F (k ∷ ks) = k.said ∷ saids F ks

abbrev pub Right : (F : Files) → List F.Said → F.Tree → Type 0
Right F ss t = (u : F.Tree) × RightTo F ss t u

-- in each prefix the calls that are alive there, taken one by one, answer their replies
abbrev pub Legal : (F : Files) → List (Item F) → F.Tree → Type 0
Legal F items start = (n : ℕ) → n ≤ length items → Right F (saids F (living F (take n items))) start

-- no later loss takes the call out
abbrev pub Stays : (F : Files) → Kept F → List (Item F) → Type 0
Stays F k [] = ⊤
Stays F k (Called a ∷ is) = Stays F k is
Stays F k (Gone i upto kept ∷ is) = (i ≡ k.node → k.number ≤ kept) × Stays F k is

abbrev pub KeepsSynced : (F : Files) → List (Item F) → Type 0
KeepsSynced F [] = ⊤
KeepsSynced F (Called k ∷ is) = (F.IsSync (k.said) → Stays F k is) × KeepsSynced F is
KeepsSynced F (Gone i upto kept ∷ is) = KeepsSynced F is

-- ---- numbers, and which calls a loss takes out

-- what holds of each call
abbrev pub Each : (F : Files) → (Kept F → Type 0) → List (Item F) → Type 0
Each F P [] = ⊤
Each F P (Called k ∷ is) = P k × Each F P is
Each F P (Gone i upto kept ∷ is) = Each F P is

-- how many calls the node has
abbrev pub calls_of : (F : Files) → ℕ → List (Item F) → ℕ
calls_of F i [] = 0
calls_of F i (Called k ∷ is) = if k.node == i then suc (calls_of F i is) else calls_of F i is
calls_of F i (Gone j upto kept ∷ is) = calls_of F i is

-- a loss keeps at least what the journal had, no more than there is, nothing that changes anything beyond what the journal had, and takes
-- out a changing call first
pub record LossIsRight (F : Files) (before : List (Item F)) (i upto kept : ℕ) : Type 0 where
  pub order : upto ≤ kept
  pub below : kept ≤ calls_of F i before
  pub between : Each F (λ k. k.node ≡ i → upto < k.number → k.number ≤ kept → F.Changes (k.said) ≡ false) before
  pub next : Each F (λ k. k.node ≡ i → k.number ≡ suc kept → F.Changes (k.said) ≡ true) before

-- of an item that comes after these
abbrev pub Fits : (F : Files) → List (Item F) → Item F → Type 0
Fits F before (Called k) = k.number ≡ suc (calls_of F (k.node) before)
Fits F before (Gone i upto kept) = LossIsRight F before i upto kept

abbrev pub Fitting : (F : Files) → List (Item F) → Type 0
Fitting F items = (before after : List (Item F)) (x : Item F) → items ≡ before ++ (x ∷ after) → Fits F before x

-- the numbers of a node's calls rise by one from 1
abbrev pub IsNumbered : (F : Files) → List (Item F) → Type 0
IsNumbered F items = (before after : List (Item F)) (k : Kept F) → items ≡ before ++ (Called k ∷ after) → k.number ≡ suc (calls_of F (k.node) before)

abbrev pub KeptRight : (F : Files) → List (Item F) → Type 0
KeptRight F items = (before after : List (Item F)) (i upto kept : ℕ) → items ≡ before ++ (Gone i upto kept ∷ after) → LossIsRight F before i upto kept

-- ---- what remains where lives are cut off

-- a loss for each life that ended, with its node and the number that is kept
pub record Loss : Type 0 where
  pub node : ℕ
  pub kept : ℕ

abbrev pub gones : (F : Files) → List Loss → List (Item F)
gones F [] = []
gones F (l ∷ ls) = Gone (l.node) (l.kept) (l.kept) ∷ gones F ls

abbrev pub least : ℕ → ℕ → ℕ
least a b = if nat_lt b a then b else a

-- the cut that is left. A second life of a node that keeps no less than is left changes nothing
abbrev pub cut_at : (ℕ → ℕ) → List Loss → ℕ → ℕ
cut_at now [] = now
cut_at now (l ∷ ls) = cut_at (at now (l.node) (least (now (l.node)) (l.kept))) ls

-- each keeps what its node's journal has
abbrev pub Above : (ℕ → ℕ) → List Loss → Type 0
Above low [] = ⊤
Above low (l ∷ ls) = (low (l.node) ≤ l.kept) × Above low ls

-- of this node the losses of one life keep exactly what the cut has
abbrev pub HasLife : (ℕ → ℕ) → ℕ → List Loss → Type 0
HasLife cut i [] = ⊥
HasLife cut i (l ∷ ls) = ((l.node ≡ i) × (l.kept ≡ cut i)) ⊎ HasLife cut i ls

-- lives whose losses leave exactly what the cut has, of nodes that have published so much: in any order, several of one node among them
pub record AreLives (published cut : ℕ → ℕ) (ls : List Loss) : Type 0 where
  pub above : Above cut ls
  pub every : (i : ℕ) → (published i ≤ cut i) ⊎ HasLife cut i ls
