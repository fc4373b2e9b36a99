use Rattle.std.proofs.Common.{◌≡◌, length, rules}
use Rattle.gfs2_layout.proofs.BitmapLaws.{packed_four}
use Rattle.gfs2_layout.proofs.bitmap.pack.Goals as goal

pub returns : goal.returns
returns c = let four : length c.args.states ≡ 4 = search rules in packed_four c.args.states four
