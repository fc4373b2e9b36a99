-- Which blocks a walk may touch.
use Rattle.std.proofs.Common.{◌≡◌, ◌≢◌, ◌⊎◌, inl, inr, ℕ, List, ◌∷◌, ◌++◌, [], ◌∙◌, sym, subst}
use Rattle.std.proofs.lemmas.Bool.{cases_eq}
use Rattle.std.proofs.lemmas.List.Elements.{Contains-append_right}
use Rattle.std.specs.Prelude.{Contains}
use Rattle.gfs2_layout.specs.Holding.{Holding}
use Rattle.glock_names.specs.Views.{Seen}
use Rattle.dinode_tree.specs.Below.{IsBelow}
use Rattle.dinode_tree.specs.Shown.{IsShown}
use Rattle.growth_drafts.specs.Touched.{IsReached}
use Rattle.file_walks.specs.Walks.{IsOfInode, LeadsOn}
use Rattle.file_walks.specs.declared.walks.Stop.{Stop}

-- the block in which the pointer of a stop stands
pub reached_from : (v : Seen) (inode : ℕ) (room : List ℕ) (b : ℕ) → ((h : Holding) → IsShown v inode h → IsOfInode h b) → IsReached v inode room b
reached_from v inode room b of = elim (cases_eq b inode) [
  | inl own ↦ inl own
  | inr apart ↦ inr (inr (λ h shown. below h shown (of h shown) apart))
]
  where
    below : (h : Holding) → IsShown v inode h → IsOfInode h b → b ≢ inode → IsBelow h b
    below h shown (inl own) apart = absurd (apart (own ∙ shown.own))
    below h shown (inr led) apart = led

-- the block to which it leads
pub reached_block : (v : Seen) (inode : ℕ) (room : List ℕ) (index : ℕ) (stop : Stop) → stop.block ≢ 0 → ((h : Holding) → IsShown v inode h → LeadsOn h 0 index stop) → IsReached v inode room stop.block
reached_block v inode room index stop some leads = inr (inr (λ h shown. (stop.pointer.from, stop.pointer.index, stop.level, _, leads h shown some)))

-- what is behind the first is in the list
pub behind : (x : ℕ) (xs : List ℕ) (b : ℕ) → Contains xs b → Contains (x ∷ xs) b
behind x xs b has = Contains-append_right (x ∷ []) xs b has
