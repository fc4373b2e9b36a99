use Rattle.std.proofs.Common.{ℕ, ◌≡◌, ◌-◌, List, length, refl, ap, ◌∙◌, rules}
use borrow.Rule.Slice.PartMut.{put_mid}
use Rattle.gfs2_layout.specs.Writing.{dinode_put}
use Rattle.gfs2_layout.specs.declared.dinode.Dinode.{Dinode}
use Rattle.mkgfs2_tool.specs.Directories.{records}
use Rattle.mkgfs2_tool.specs.Blocks.{dinode_block, zeros}
use Rattle.mkgfs2_tool.specs.declared.plan.Plan.{Plan}
use Rattle.mkgfs2_tool.proofs.PutLaws.{put_part}
use Rattle.mkgfs2_tool.proofs.plan.Plan.put_directory.Goals as goal

put_behind : (p : Plan) (d : Dinode) (bytes area written : List ℕ) (k : ℕ) → bytes ≡ dinode_put d (zeros p) → area ≡ written → length area ≡ k → put_mid 232 k bytes area ≡ dinode_block p d written
unfolding dinode_block
put_behind p d bytes area written k bytes_are area_is long = put_part 232 k bytes area long ∙ rw (bytes_are, area_is) refl

pub returns : goal.returns
returns c =
    let long : length c.put_records.new.area ≡ length c.put_dinode.new.block - 232 = search rules in
    let size : length c.put_dinode.new.block ≡ c.args.self.now.size = search rules in
    put_behind c.args.self.now c.args.dinode c.put_dinode.new.block c.put_records.new.area _ (length c.put_dinode.new.block - 232) c.put_dinode.ensures
    (c.put_records.ensures ∙ ap (λ room. records room c.args.entries.now) (search (rules, size))) long
