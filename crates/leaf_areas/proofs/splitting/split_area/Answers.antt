use Rattle.std.proofs.Common.{◌+◌, ◌∙◌}
use Rattle.gfs2_layout.specs.Area.{slots_of}
use Rattle.leaf_areas.proofs.Cuts.{halves_count}
use Rattle.leaf_areas.proofs.splitting.split_area.Goals as goal

pub returns-clause-all : goal.returns-clause-all
returns-clause-all c = (λ i. c.pack-lower.ensures.count i + c.cut_lower-upper.ensures.count i) ∙ halves_count c.args.depth (slots_of c.args.old.now)
