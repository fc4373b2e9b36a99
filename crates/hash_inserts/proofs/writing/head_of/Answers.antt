use Rattle.std.proofs.Common.{rules, ◌∙◌, Ok, refl, sym, ap, subst}
use Rattle.std.proofs.lemmas.Bool.{true≢false}
use Rattle.gfs2_layout.specs.Area.{IsArea}
use Rattle.gfs2_layout.specs.Inode.{leaf_length}
use Rattle.linear_dirs.proofs.Looked.{rest_is}
use Rattle.hash_steps.proofs.ChainLeaves.{head_is}
use Rattle.hash_inserts.proofs.writing.head_of.Goals as goal

pub returns-then-not-is_area-clause-is : goal.returns-then-not-is_area-clause-is
returns-then-not-is_area-clause-is c block = absurd (true≢false (sym (c.if-not-is_area.ensures.1 (subst IsArea (sym (rest_is leaf_length c.args.bytes.now)) block.area))))

pub returns-clause-block : goal.returns-clause-block
returns-clause-block c short = record {
  long = search rules;
  short = short;
  read = sym c.read.ensures ∙ c.in-Ok.is ∙ ap Ok (head_is c.args.bytes.now c.in-Ok.leaf c.read.result c.read.ensures c.in-Ok.is);
  area = subst IsArea (rest_is leaf_length c.args.bytes.now) (c.if-not-is_area.ensures.0 refl);
}
