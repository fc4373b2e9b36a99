use Rattle.std.proofs.Common.{◌∙◌, length, refl, sym, ap, subst, arith}
use Rattle.gfs2_layout.specs.Area.{IsArea}
use Rattle.gfs2_layout.specs.Records.{records_in}
use Rattle.gfs2_layout.specs.Structures.{leaf_of}
use Rattle.gfs2_layout.specs.declared.leaf.Leaf.{Leaf}
use Rattle.dinode_tree.proofs.Dinodes.{lacks}
use Rattle.linear_dirs.proofs.Looked.{rest_is}
use Rattle.hash_inserts.proofs.ChainLeaves.{head_is, read_well}
use Rattle.name_inserts.specs.Way.{no_header, other_count, other_format, unfilled}
use Rattle.name_inserts.proofs.OnWay.{format_read}
use Rattle.name_inserts.proofs.way.broken_rule.Goals as goal

pub returns-then-not-has_header-clause-some : goal.returns-then-not-has_header-clause-some
returns-then-not-has_header-clause-some c = no_header (lacks c.has_header.result c.has_header.ensures c.if-not-has_header.true)

pub returns-in_default-clause-some : goal.returns-in_default-clause-some
returns-in_default-clause-some c =
    other_format (λ e. c.in_default.not-Ok (leaf_of c.args.bytes.now) (c.read.ensures ∙ read_well c.args.bytes.now (omega arith) (c.if-not-has_header.ensures.0 refl) e))

pub returns-then-not-is_area-clause-some : goal.returns-then-not-is_area-clause-some
returns-then-not-is_area-clause-some c = unfilled (λ has. lacks c.is_area.result c.is_area.ensures c.if-not-is_area.true (subst IsArea (sym (rest_is 104 c.args.bytes.now)) has))

pub returns-then-from-count_records-clause-some : goal.returns-then-from-count_records-clause-some
returns-then-from-count_records-clause-some c =
    other_count (λ e. c.if-from-count_records.true (c.from.ensures ∙ ap (λ (l : Leaf). l.entries) (head_is c.args.bytes.now c.in-Ok.head c.read.result c.read.ensures c.in-Ok.is) ∙ e ∙ sym (c.count_records.ensures ∙ ap (λ a. length (records_in a)) (rest_is 104 c.args.bytes.now))))

pub returns-clause-none : goal.returns-clause-none
returns-clause-none c = record {
  header = c.if-not-has_header.ensures.0 refl;
  format = format_read c.args.bytes.now c.in-Ok.head c.read.result c.read.ensures c.in-Ok.is;
  filled = subst IsArea (rest_is 104 c.args.bytes.now) (c.if-not-is_area.ensures.0 refl);
  entries = sym (ap (λ (l : Leaf). l.entries) (head_is c.args.bytes.now c.in-Ok.head c.read.result c.read.ensures c.in-Ok.is)) ∙ sym c.from.ensures ∙ c.if-from-count_records.false ∙ c.count_records.ensures ∙ ap (λ a. length (records_in a)) (rest_is 104 c.args.bytes.now);
}
