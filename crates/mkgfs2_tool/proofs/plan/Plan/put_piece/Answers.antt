use Rattle.std.proofs.Common.{ℕ, ◌≡◌, List, ap, ◌∙◌}
use Rattle.gfs2_layout.specs.Bytes.{put_at}
use Rattle.mkgfs2_tool.specs.Blocks.{padded, zeros}
use Rattle.mkgfs2_tool.specs.declared.plan.Plan.{Plan}
use Rattle.mkgfs2_tool.proofs.PutLaws.{put_first}
use Rattle.mkgfs2_tool.proofs.plan.Plan.put_piece.Goals as goal

over_zeros : (p : Plan) (block cleared part wanted : List ℕ) → block ≡ put_at 0 part cleared → cleared ≡ zeros p → part ≡ wanted → block ≡ padded p wanted
over_zeros p block cleared part wanted put zero is = put ∙ ap (put_at 0 part) zero ∙ put_first p.size part ∙ ap (padded p) is

pub returns : goal.returns
returns c = over_zeros c.args.self.now c.put_bytes.new.bytes c.clear.new.block c.piece_of-piece.result.now _ c.put_bytes.ensures c.clear.ensures c.piece_of-piece.ensures.value
