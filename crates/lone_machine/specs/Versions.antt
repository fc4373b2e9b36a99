-- What a node's log has of its calls, block by block, and the header that may then begin.
use Rattle.std.specs.Prelude.{ℕ, ◌≡◌, ◌⊎◌, Bool, true, false, Option, None, Some}
use Rattle.cluster_laws.specs.Files.{Files, Part, CellOf}
use Rattle.cluster_laws.specs.Book.{Book}
use Rattle.cluster_laws.specs.Log.{Last, Untouched}
use Rattle.cluster_laws.specs.Mirror.{Disk}

-- What the node's calls above one number up to another leave of a block: nothing, where none of them changes or frees it; or of the last that does: what it writes; or nothing
-- again where it frees the block, which then is one of those that have gone.
abbrev pub IsVersion : (F : Files) → Book F → (i lo hi b : ℕ) → Option F.Content → Bool → Type 0
IsVersion F B i lo hi b version gone = (Untouched F B i lo hi b × (version ≡ None) × (gone ≡ false))
    ⊎ ((l : Last F B i lo hi b) × ((F.IsFree (l.cell.place) × (version ≡ None))
    ⊎ ((F.IsFree (l.cell.place) → ⊥) × (version ≡ Some (l.cell.content)) × (gone ≡ false))))

-- so it is with each block: these are the versions that the calls leave, and which blocks have gone, as far as it is told: who has nothing to revoke needn't tell it
abbrev pub AreVersions : (F : Files) → Book F → (i lo hi : ℕ) → (ℕ → Option F.Content) → (ℕ → Bool) → Type 0
AreVersions F B i lo hi versions gone = (b : ℕ) → IsVersion F B i lo hi b (versions b) (gone b)

-- with one more change: what it writes is a version, what it frees is none, and may have gone, and each other block is as before
abbrev pub IsWithChange : (F : Files) → Part F → (versions versions' : ℕ → Option F.Content) → (gone gone' : ℕ → Bool) → Type 0
IsWithChange F change versions versions' gone gone' = (b : ℕ) → ((change b ≡ None) × (versions' b ≡ versions b) × (gone' b ≡ gone b))
    ⊎ ((x : CellOf F) × (change b ≡ Some x) × ((F.IsFree (x.place) × (versions' b ≡ None))
    ⊎ ((F.IsFree (x.place) → ⊥) × (versions' b ≡ Some (x.content)) × (gone' b ≡ false))))

-- What a header makes live, of the versions that it ends: each version; of another block what was live, or nothing, where that is home or the block has gone.
abbrev pub IsLiveAfter : (F : Files) → Disk F → (i : ℕ) → (versions : ℕ → Option F.Content) (gone : ℕ → Bool) (live : ℕ → Option F.Content) → Type 0
IsLiveAfter F D i versions gone live = (b : ℕ) → ((v : F.Content) × (versions b ≡ Some v) × (live b ≡ Some v))
    ⊎ ((versions b ≡ None) × ((live b ≡ (D.heads i false).live b)
    ⊎ ((live b ≡ None) × (((v : F.Content) → (D.heads i false).live b ≡ Some v → D.blocks b ≡ v) ⊎ (gone b ≡ true)))))
