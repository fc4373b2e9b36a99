use Rattle.std.proofs.Common.{◌≡◌, ◌-◌, ◌≤◌}
use Rattle.std.specs.Prelude.{not, count_by}
use Rattle.std.specs.List.{range_with_len}
use Rattle.gfs2_layout.specs.Holding.{Holding}
use Rattle.dinode_tree.specs.Shown.{IsShown}
use Rattle.growth_laws.specs.Files.{IsFile}
use Rattle.growth_laws.specs.Need.{is_there}
use Rattle.file_fills.proofs.needing.count_lacking.Given as goal

abbrev pub invariant-loop-place : goal.invariant-loop-place
invariant-loop-place g l = record {
  few : l.lacking ≤ l.place - l.first;
  found : (h : Holding) → IsFile h → IsShown (g.V.View.seen l.view) l.write.inode h → l.lacking ≡ count_by (λ j. not (is_there h l.level j)) (range_with_len l.first (l.place - l.first));
}
