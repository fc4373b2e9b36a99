use Rattle.drafts.specs.Fates.{seen_in}
use Rattle.file_fills.proofs.Steps.{seen_dinode}
use Rattle.file_heights.proofs.heights.carries.Goals as goal

pub returns : goal.returns
returns g c h shown d_is =
    c.goes_along.ensures h (seen_dinode (seen_in g.V.View.seen c.args.draft.now) h c.args.inode c.in-Some.bytes.now shown c.in-Some.ensures.some c.in-Some.ensures.size) d_is
