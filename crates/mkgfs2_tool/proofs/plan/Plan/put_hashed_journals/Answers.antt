use Rattle.std.proofs.Common.{sym, ap, ◌∙◌}
use Rattle.std.proofs.lemmas.Bool.{cond-true}
use Rattle.gfs2_layout.specs.Bytes.{put_at}
use Rattle.gfs2_layout.specs.Writing.{dinode_put}
use Rattle.mkgfs2_tool.specs.Order.{journals_place}
use Rattle.mkgfs2_tool.specs.Hashing.{table_bytes}
use Rattle.mkgfs2_tool.specs.Blocks.{dinode, dinode_block, journals_block, zeros}
use Rattle.mkgfs2_tool.proofs.plan.Plan.put_hashed_journals.Goals as goal

pub returns : goal.returns
unfolding journals_block dinode_block
returns c =
    c.put_table.ensures
    ∙ ap (put_at 232 (table_bytes c.args.self.now)) c.put_dinode.ensures
    ∙ ap (λ d. put_at 232 (table_bytes c.args.self.now) (dinode_put d (zeros c.args.self.now)))
    (c.dinode-dinode.ensures ∙ ap (λ k. dinode c.args.self.now 4 k c.hashed_directory.result) c.journals_place.ensures.value ∙ ap (dinode c.args.self.now 4 (journals_place c.args.self.now)) c.hashed_directory.ensures)
    ∙ sym (cond-true _ _ _ c.requires.hashed)
