use Rattle.std.proofs.Common.{refl, sym, subst}
use Rattle.std.proofs.lemmas.Bool.{true≢false}
use Rattle.gfs2_layout.specs.Area.{IsArea}
use Rattle.gfs2_layout.specs.Inode.{leaf_length}
use Rattle.linear_dirs.proofs.Looked.{rest_is}
use Rattle.hash_inserts.proofs.writing.fill_leaf.Goals as goal

pub returns-then-not-is_area : goal.returns-then-not-is_area
returns-then-not-is_area c can = absurd (true≢false (sym (c.if-not-is_area.ensures.1 (subst IsArea (sym (rest_is leaf_length c.args.bytes.now)) can.block.area))))

pub fill-requires-clause-area : goal.fill-requires-clause-area
fill-requires-clause-area c = subst IsArea (rest_is leaf_length c.args.bytes.now) (c.if-not-is_area.ensures.0 refl)
