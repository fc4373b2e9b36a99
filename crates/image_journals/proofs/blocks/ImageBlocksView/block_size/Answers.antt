use Rattle.image_journals.proofs.Sizes.{is_view}
use Rattle.image_journals.proofs.blocks.ImageBlocksView.block_size.Goals as goal

pub returns-clause-view : goal.returns-clause-view
returns-clause-view c = is_view c.args.self.now.size c.args.self.now.count c.args.self.now.bytes.now c.args.self.now.four c.args.self.now.counted
