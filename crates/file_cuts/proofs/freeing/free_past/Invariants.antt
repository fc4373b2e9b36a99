use Rattle.std.proofs.Common.{◌≡◌, ◌⊎◌, ℕ, ◌/◌, ◌<◌, ◌≤◌, List}
use Rattle.std.specs.Prelude.{Contains}
use Rattle.drafts.specs.Fates.{seen_in}
use Rattle.gfs2_layout.specs.Holding.{Holding}
use Rattle.gfs2_layout.specs.Inode.{content_count, height_in, span}
use Rattle.dinode_tree.specs.Shown.{IsShown}
use Rattle.growth_drafts.specs.Touched.{Follows}
use Rattle.file_cuts.specs.Cut.{WasLedTo}
use Rattle.file_cuts.specs.Progress.{CanFree, HasCutTo, IsSeenOver}
use Rattle.file_cuts.proofs.freeing.free_past.Given as goal

abbrev pub invariant-loop-level : goal.invariant-loop-level
invariant-loop-level g l = record {
  view : l.draft.view ≡ l.fn.draft.view;
  within : (room : List ℕ) → Follows (g.V.View.seen l.fn.draft.view) l.inode room l.fn.draft.fates l.draft.fates;
  led : (b : ℕ) → Contains l.freed.items b → WasLedTo (g.V.View.seen l.fn.draft.view) l.inode l.fn.draft.fates l.draft.fates b;
  gone : (h : Holding) → CanFree h l.inode → l.height ≡ height_in h → l.count ≡ content_count h → IsShown (seen_in g.V.View.seen l.fn.draft) l.inode h
      → ((i : ℕ) → l.end ≤ i → (i ≡ l.end) ⊎ (i < content_count h) → IsSeenOver (seen_in g.V.View.seen l.fn.draft) h i)
      → HasCutTo (g.V.View.seen l.draft.view) l.fn.draft.fates l.draft.fates h l.end l.level (l.end / span h.size l.level) l.freed.items;
}
