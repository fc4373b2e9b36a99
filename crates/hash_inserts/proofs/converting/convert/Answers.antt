use Rattle.std.proofs.Common.{◌≡◌, ◌∙◌, ◌<◌, Result, Ok, length, drop, refl, sym, ap, subst}
use Rattle.std.proofs.lemmas.Bool.{true≢false}
use Rattle.std.proofs.lemmas.List.{get_or_default}
use Rattle.gfs2_layout.specs.Area.{IsArea}
use Rattle.gfs2_layout.specs.Structures.{dinode_length, dinode_of}
use Rattle.gfs2_layout.specs.declared.dinode.Dinode.{Dinode}
use Rattle.gfs2_layout.specs.declared.fault.LayoutFault.{LayoutFault}
use Rattle.linear_dirs.proofs.Looked.{rest_is}
use Rattle.hash_inserts.specs.Converting.{IsFirstLeaf, IsTableWritten, hashed_dinode}
use Rattle.hash_inserts.proofs.converting.convert.Goals as goal

pub returns-then-not-is_area : goal.returns-then-not-is_area
returns-then-not-is_area c can = absurd (true≢false (sym (c.if-not-is_area.ensures.1 (subst IsArea (sym (rest_is dinode_length c.args.bytes.now)) can.area))))

same_ok : (a b : Dinode) → ◌≡◌ {A = Result Dinode LayoutFault} (Ok a) (Ok b) → a ≡ b
same_ok a b e = cc

pub returns : goal.returns
returns c can =
    let old = c.args.bytes.now in
    let dinode = same_ok c.in-Ok.dinode (dinode_of old) (sym c.in-Ok.is ∙ c.read.ensures ∙ can.read) in
    let said = c.in-Some.ensures.some ∙ ap (λ d. hashed_dinode d (length old) c.in-Some.hashed.depth) dinode in
    let first = subst (λ a. IsFirstLeaf a c.args.new.now c.write_first.new.bytes) (rest_is dinode_length old) c.write_first.ensures in (
      refl,
      record {
        depth = c.in-Some.hashed.depth;
        deep = c.in-Some.ensures.deep;
        written = subst (λ d. IsTableWritten old c.write_table.new.bytes d c.args.leaf) said c.write_table.ensures;
        first = subst (λ over. IsFirstLeaf (drop dinode_length old) over c.write_first.new.bytes) c.requires.zeros first;
        bytes = λ k d low. subst (λ n. n < 256) (get_or_default c.write_first.new.bytes k 0 d low) (c.type_inv.new k).fits;
      },
    )
