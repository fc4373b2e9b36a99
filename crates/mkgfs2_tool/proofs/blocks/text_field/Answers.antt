use Rattle.std.proofs.Common.{◌∙◌}
use Rattle.mkgfs2_tool.proofs.PutLaws.{put_first}
use Rattle.mkgfs2_tool.proofs.blocks.text_field.Goals as goal

pub returns : goal.returns
returns c = c.put_bytes.ensures ∙ put_first 64 c.args.text.now
