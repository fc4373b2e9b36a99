use Rattle.std.proofs.Common.{◌≡◌, ◌⊎◌, ℕ, ◌-◌, ◌/◌, ◌<◌, ◌≤◌, List}
use Rattle.std.specs.Prelude.{Contains}
use Rattle.std.specs.FinMap.{FinMap}
use Rattle.std.specs.Ordering.{nat_cmp}
use Rattle.drafts.specs.declared.fate.Fate.{Fate}
use Rattle.gfs2_layout.specs.Holding.{Holding}
use Rattle.gfs2_layout.specs.Inode.{content_count, height_in, span}
use Rattle.growth_drafts.specs.Touched.{Follows}
use Rattle.file_cuts.specs.Cut.{WasLedTo}
use Rattle.file_cuts.specs.Progress.{CanFree, HasCutTo}
use Rattle.file_cuts.proofs.freeing.free_on.Given as goal

abbrev pub invariant-places : goal.invariant-places
invariant-places g l = record {
  view : l.draft.view ≡ l.fn.draft.view;
  least : l.end / span l.size l.level ≤ l.place;
  within : (room : List ℕ) → Follows (g.V.View.seen l.fn.draft.view) l.inode room l.fn.draft.fates l.draft.fates;
  led : (b : ℕ) → Contains l.freed.items b → Contains l.fn.freed.items b ⊎ WasLedTo (g.V.View.seen l.fn.draft.view) l.inode l.fn.draft.fates l.draft.fates b;
  gone : (h : Holding) (old : FinMap nat_cmp Fate) → CanFree h l.inode → l.count ≡ content_count h → l.level < height_in h
      → HasCutTo (g.V.View.seen l.fn.draft.view) old l.fn.draft.fates h l.end l.level (l.end / span h.size l.level) l.fn.freed.items
      → HasCutTo (g.V.View.seen l.draft.view) old l.draft.fates h l.end l.level l.place l.freed.items;
}

abbrev pub decreases-places : goal.decreases-places
decreases-places g l = l.count - l.place
