use borrow.Rule.Slice.PartMut.{same_len_mid}
use Rattle.std.proofs.Common.{◌∙◌, ◌-◌, [], ◌∷◌, length, ap, subst, length-drop, arith}
use Rattle.gfs2_layout.specs.Inode.{leaf_length}
use Rattle.leaf_areas.specs.Moving.{unused}
use Rattle.linear_dirs.proofs.Looked.{rest_is}
use Rattle.hash_inserts.specs.Writing.{IsLeafWritten}
use Rattle.hash_inserts.proofs.LeafBytes.{written_by}
use Rattle.hash_inserts.proofs.writing.begin_leaf.Goals as goal

pub returns : goal.returns
returns c =
    let old = c.args.bytes.now in
    let slots = c.clear_area.ensures.slots ∙ ap (λ n. unused n ∷ []) (ap length (rest_is leaf_length old) ∙ length-drop leaf_length old) in
    subst (IsLeafWritten old c.write.new.bytes (record { depth = c.args.depth; entries = 0; next = 0 })) slots
    (written_by old c.clear_area.new.area c.write.new.bytes (record { depth = c.args.depth; entries = 0; next = 0 }) (omega (arith, c.requires.long))
    (same_len_mid leaf_length (length old - leaf_length) old c.clear_area.new.area c.clear_area.auto.area) c.write.ensures.bytes c.write.ensures.read c.write.ensures.behind c.clear_area.ensures.filled)
