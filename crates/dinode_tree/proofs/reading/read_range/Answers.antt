use Rattle.std.proofs.Common.{◌≡◌, ◌+◌, ◌-◌, ◌∙◌, sym, ap, subst, length}
use Rattle.std.specs.Prelude.{min}
use Rattle.gfs2_layout.specs.Inode.{dinode_in}
use Rattle.dinode_tree.specs.Reading.{AreHeaded}
use Rattle.dinode_tree.specs.Shown.{IsShown}
use Rattle.dinode_tree.specs.Walking.{IsIn}
use Rattle.dinode_tree.proofs.Dinodes.{size_same}
use Rattle.dinode_tree.proofs.ReadDinodes.{shown_in}
use Rattle.dinode_tree.proofs.Stepping.{answer_at, answer_so}
use Rattle.dinode_tree.proofs.reading.read_range.Goals as goal

pub returns-in-Is-clause-length : goal.returns-in-Is-clause-length
returns-in-Is-clause-length g c h shown =
    let v = g.V.View.seen c.args.view.now in
    let at = answer_at c.in_ok-inode.field-0 c.in-Is.inode (λ inode. inode.block ≡ c.args.dinode) c.in-Is.is c.in_ok-inode.ensures.block in
    let there = answer_at c.in_ok-inode.field-0 c.in-Is.inode (λ inode. IsIn v inode) c.in-Is.is c.in_ok-inode.ensures.seen in
    let size = size_same h c.in-Is.inode (shown_in v h c.args.dinode c.in-Is.inode at shown there) in
    answer_so c.range_in.result (λ bytes. length bytes.items ≡ min c.args.len (c.in-Is.inode.dinode.size - c.args.at)) (λ bytes. length bytes.items ≡ min c.args.len (_ - c.args.at))
    (λ bytes is. is ∙ ap (λ n. min c.args.len (n - c.args.at)) size) c.range_in.ensures.length

pub returns-in-Is-clause-headed : goal.returns-in-Is-clause-headed
returns-in-Is-clause-headed g c h shown =
    let v = g.V.View.seen c.args.view.now in
    let at = answer_at c.in_ok-inode.field-0 c.in-Is.inode (λ inode. inode.block ≡ c.args.dinode) c.in-Is.is c.in_ok-inode.ensures.block in
    let there = answer_at c.in_ok-inode.field-0 c.in-Is.inode (λ inode. IsIn v inode) c.in-Is.is c.in_ok-inode.ensures.seen in
    let size = size_same h c.in-Is.inode (shown_in v h c.args.dinode c.in-Is.inode at shown there) in
    answer_so c.range_in.result (λ bytes. AreHeaded h c.args.at (min (c.args.at + c.args.len) c.in-Is.inode.dinode.size)) (λ bytes. AreHeaded h c.args.at (min (c.args.at + c.args.len) (dinode_in h).size))
    (λ bytes all. subst (λ n. AreHeaded h c.args.at (min (c.args.at + c.args.len) n)) size all) (c.range_in.ensures.headed h (subst (λ b. IsShown v b h) (sym at) shown))
