use Rattle.std.proofs.Common.{◌≡◌, ◌∙◌, List, ℕ, ap, drop, subst, sym}
use Rattle.gfs2_layout.specs.Area.{IsArea}
use Rattle.gfs2_layout.specs.Holding.{bytes_at}
use Rattle.gfs2_layout.specs.Structures.{leaf_of}
use Rattle.gfs2_layout.specs.declared.leaf.Leaf.{Leaf}
use Rattle.dinode_tree.proofs.Dinodes.{lacks}
use Rattle.hash_dirs.proofs.Leaves.{head_is}
use Rattle.image_model.proofs.Held.{some_same}
use Rattle.linear_dirs.proofs.Looked.{rest_is}
use Rattle.image_journals.proofs.leaves.read_leaf.Goals as goal

pub returns-then-not-is_area-clause-read : goal.returns-then-not-is_area-clause-read
returns-then-not-is_area-clause-read c h hash at leaf =
    let same : c.in-Some.bytes.now ≡ bytes_at h c.args.leaf = some_same (sym c.in-Some.ensures.some ∙ at) in
    lacks c.is_area.result c.is_area.ensures c.if-not-is_area.true (subst IsArea (sym (rest_is 104 c.in-Some.bytes.now)) (subst (λ (bs : List ℕ). IsArea (drop 104 bs)) (sym same) leaf.area.fills))

pub returns-clause-read : goal.returns-clause-read
returns-clause-read c h hash at leaf =
    let same : c.in-Some.bytes.now ≡ bytes_at h c.args.leaf = some_same (sym c.in-Some.ensures.some ∙ at) in
    (rest_is 104 c.in-Some.bytes.now ∙ ap (drop 104) same, ap (λ (l : Leaf). l.next) (head_is c.in-Some.bytes.now c.in-Ok.head c.read.result c.read.ensures c.in-Ok.is) ∙ ap (λ bs. (leaf_of bs).next) same)
