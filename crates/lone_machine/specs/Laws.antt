-- Laws of one node that runs alone: one for each of its steps, and what remains of it.
use Rattle.std.specs.Prelude.{ℕ, ◌≡◌, ◌≤◌, ◌⊎◌, ◌++◌, suc, Bool, true, false, [], ◌∷◌, Option, None, Some}
use Rattle.cluster_laws.specs.Files.{Files, Part, LockOf, RightTo, Un, Does, laid}
use Rattle.cluster_laws.specs.Book.{at, Book, W}
use Rattle.cluster_laws.specs.Log.{Calm}
use Rattle.cluster_laws.specs.Mirror.{FreeIsFree, Head, IsOutcome, placed}
use Rattle.cluster_laws.specs.History.{Gone, Legal, living, saids}
use Rattle.cluster_laws.specs.Notes.{Caches, CachesAfter}
use Rattle.cluster_laws.specs.Rings.{Rings}
use Rattle.cluster_laws.specs.World.{World, nothing}
use Rattle.lone_machine.specs.Alone.{Begun, IsAlone, IsBegun, IsReplayAlone, MayAnswer, MaySettle, answers, begins_header, begun, ends_header, forgets, head_of, loses, next_item, now, reads, settles, syncs, writes_home}
use Rattle.lone_machine.specs.Versions.{AreVersions, IsLiveAfter, IsWithChange}

-- ---- the start

abbrev pub BeginsAlone : Files → Type 0
BeginsAlone F = (s : Begun F) → IsBegun F s → IsAlone F s (begun F s)

-- what isn't home is cached, as it was
abbrev pub KeepsCached : (F : Files) → Begun F → World F → World F → Type 0
KeepsCached F s w w' = Caches F w.book w.disk s.node → Caches F w'.book w'.disk s.node

-- The node goes on alone, works on the image that it worked on, and has what isn't home cached.
pub record StaysAlone (F : Files) (s : Begun F) (w w' : World F) : Type 0 where
  pub alone : IsAlone F s w'
  pub now : now F w' ≡ now F w
  pub cached : KeepsCached F s w w'
  pub items : w'.items ≡ w.items

-- ---- calls

-- The node goes on alone, with one more call, which has this change, and works on the image with it. Nothing is different on the disk, and its journal has what it had.
pub record GoesOnWith (F : Files) (s : Begun F) (w w' : World F) (said : F.Said) (change : Part F) : Type 0 where
  pub alone : IsAlone F s w'
  pub now : (b : ℕ) → now F w' b ≡ laid (change b) (now F w b)
  pub answered : w'.book.answered s.node ≡ suc (w.book.answered s.node)
  pub changes : w'.book.change s.node ≡ at (w.book.change s.node) (suc (w.book.answered s.node)) change
  pub items : w'.items ≡ w.items ++ (next_item F s w said ∷ [])
  pub disk : w'.disk ≡ w.disk
  pub low : w'.book.low ≡ w.book.low

-- it answers a call that is no sync, and publishes it; what isn't home stays cached, where the cache is what it should be after an answer
abbrev pub AnswersAlone : Files → Type 0
AnswersAlone F = (s : Begun F) (w : World F) (said : F.Said) (view change cache : Part F) → IsAlone F s w → (F.IsSync said → ⊥) → MayAnswer F s w said view change cache
    → GoesOnWith F s w (answers F s w said view change cache) said change
    × (CachesAfter F w.book w.disk s.node change cache → KeepsCached F s w (answers F s w said view change cache))

-- it answers a sync where no call that isn't in its journal changes anything
abbrev pub SyncsAlone : Files → Type 0
SyncsAlone F = (s : Begun F) (w : World F) (said : F.Said) → IsAlone F s w → Does F (nothing F) said (nothing F) → F.Changes said ≡ false
    → Calm F w.book s.node (w.book.low s.node) (w.book.answered s.node) → GoesOnWith F s w (syncs F s w said) said (nothing F)

-- ---- what it reads

-- Where it caches what isn't home, a block that it hasn't cached, under a lock that it holds, has on the disk what it works on, unless it is free: its own write in flight
-- first. It may cache it.
abbrev pub ReadsAlone : Files → Type 0
ReadsAlone F = (s : Begun F) (w : World F) (b : ℕ) → IsAlone F s w → Caches F w.book w.disk s.node → w.book.cache s.node b ≡ None
    → (s.held (LockOf F (now F w b)) ≡ Un → ⊥) → (F.IsFree ((now F w b).place) → ⊥)
    → (laid (w.disk.flight s.node b) (w.disk.blocks b) ≡ (now F w b).content) × StaysAlone F s w (reads F s w b)

-- its cache may get smaller, and end
abbrev pub ForgetsAlone : Files → Type 0
ForgetsAlone F = (s : Begun F) (w : World F) (cache : ℕ → Part F) → IsAlone F s w → ((b : ℕ) → (cache s.node b ≡ None) ⊎ (cache s.node b ≡ w.book.cache s.node b))
    → ((j : ℕ) → (j ≡ s.node → ⊥) → cache j ≡ w.book.cache j) → IsAlone F s (forgets F w cache)

-- ---- its log

-- what no call leaves, and what the calls leave with one more
abbrev pub VersionsGrow : Files → Type 0
VersionsGrow F = (B B' : Book F) (i lo hi : ℕ) (change : Part F) (versions versions' : ℕ → Option F.Content) (gone gone' : ℕ → Bool) → lo ≤ hi → B'.change i ≡ at (B.change i) (suc hi) change
    → AreVersions F B i lo hi versions gone → IsWithChange F change versions versions' gone gone' → AreVersions F B' i lo (suc hi) versions' gone'

abbrev pub NoVersions : Files → Type 0
NoVersions F = (B : Book F) (i lo : ℕ) → AreVersions F B i lo lo (λ b. None) (λ b. false)

-- A header may begin that has the calls up to u, where these are the versions that the calls up to u leave, nothing is in flight, and what it makes live is as it should.
abbrev pub HeaderBeginsAlone : Files → Type 0
HeaderBeginsAlone F = (s : Begun F) (w : World F) (h : Head F) (versions : ℕ → Option F.Content) (gone : ℕ → Bool) → IsAlone F s w → head_of F s w true ≡ head_of F s w false
    → ((b : ℕ) → w.disk.flight s.node b ≡ None) → w.book.low s.node ≤ h.cut → h.cut ≤ w.book.answered s.node
    → AreVersions F w.book s.node (w.book.low s.node) (h.cut) versions gone → IsLiveAfter F w.disk s.node versions gone (h.live)
    → StaysAlone F s w (begins_header F s w h)

-- it ends, either way: on the disk by its barrier, or as a fence finds it
abbrev pub HeaderEndsAlone : Files → Type 0
HeaderEndsAlone F = (s : Begun F) (w : World F) (c : Bool) → IsAlone F s w → StaysAlone F s w (ends_header F s w c)

-- a block goes home with what is live of it, whichever header counts, where it is cached unless it is free
abbrev pub WritesHomeAlone : Files → Type 0
WritesHomeAlone F = (s : Begun F) (w : World F) (b : ℕ) (v : F.Content) → IsAlone F s w → ((c : Bool) → (head_of F s w c).live b ≡ Some v)
    → ((F.IsFree ((now F w b).place) → ⊥) → w.book.cache s.node b ≡ Some (now F w b)) → StaysAlone F s w (writes_home F s w b v)

-- a barrier settles its writes, or a fence
abbrev pub SettlesAlone : Files → Type 0
SettlesAlone F = (s : Begun F) (w : World F) (x : ℕ → F.Content) → IsAlone F s w → MaySettle F s w x → StaysAlone F s w (settles F s w x)

-- ---- its journal among the disk's

-- Journal j is that of node j + 1: so each journal's live blocks are those of a node's heads, and of one that runs alone no other journal has any.
pub record AreOwnRings (F : Files) (w : World F) (rings : Rings F w.disk) : Type 0 where
  pub speaks : (j : ℕ) → rings.speaks j ≡ suc j
  pub one : (j : ℕ) → rings.one (suc j) ≡ j
  pub live : (j b : ℕ) (c : Bool) → rings.live j c b ≡ (w.disk.heads (suc j) c).live b

abbrev pub RingsAlone : Files → Type 0
RingsAlone F = (s : Begun F) (w : World F) (j : ℕ) → IsAlone F s w → s.node ≡ suc j → (rings : Rings F w.disk) × AreOwnRings F w rings

-- ---- what remains

-- Whatever becomes of its writes in flight, and whichever head counts: the disk, its journal replayed, stands for the tree of the history with a loss that keeps what this
-- head has, or more that changes nothing; and that history is legal.
abbrev pub RemainsAlone : Files → Type 0
RemainsAlone F = (s : Begun F) (w : World F) (c : Bool) (k : ℕ) (x r : ℕ → F.Content) → IsAlone F s w → FreeIsFree F → IsOutcome F w.disk x → IsReplayAlone F s w c x r
    → (head_of F s w c).cut ≤ k → k ≤ w.book.answered s.node → Calm F w.book s.node ((head_of F s w c).cut) k
    → Legal F (w.items ++ (Gone s.node k k ∷ [])) w.book.start
    × ((t : F.Tree) × F.Stands (placed F r (W F w.book (at w.book.answered s.node k))) t × RightTo F (saids F (living F (w.items ++ (Gone s.node k k ∷ [])))) w.book.start t)

-- Where its life ended, no header is in flight and it has no cache, its loss takes out what the rule says: from the first call behind the head's that changes anything on.
abbrev pub LosesAlone : Files → Type 0
LosesAlone F = (s : Begun F) (w : World F) (k : ℕ) → IsAlone F s w → ((b : ℕ) → w.book.cache s.node b ≡ None) → head_of F s w true ≡ head_of F s w false
    → w.book.low s.node ≤ k → k ≤ w.book.answered s.node → Calm F w.book s.node (w.book.low s.node) k
    → (k ≡ w.book.answered s.node) ⊎ (F.Changes (w.book.told s.node (suc k)) ≡ true) → IsAlone F s (loses F s w k)
