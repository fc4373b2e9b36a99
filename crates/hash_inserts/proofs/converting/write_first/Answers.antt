use borrow.Rule.Slice.PartMut.{same_len_mid}
use Rattle.std.proofs.Common.{◌∙◌, ◌-◌, ℕ, length, ap, subst, length-drop, arith}
use Rattle.gfs2_layout.specs.Area.{slots_of}
use Rattle.gfs2_layout.specs.Inode.{leaf_length}
use Rattle.gfs2_layout.specs.declared.leaf.Leaf.{Leaf}
use Rattle.leaf_areas.specs.Moving.{in_use, packed}
use Rattle.linear_dirs.proofs.Looked.{rest_is}
use Rattle.hash_inserts.specs.Writing.{IsLeafWritten}
use Rattle.hash_inserts.proofs.LeafBytes.{written_by}
use Rattle.hash_inserts.proofs.converting.write_first.Goals as goal

pub returns : goal.returns
returns c =
    let old = c.args.bytes.now in
    let used = in_use (slots_of c.args.area.now) in
    let head : ℕ → Leaf = λ n. record { depth = 0; entries = n; next = 0 } in
    let moved = c.move_records-entries in
    let slots = moved.ensures.slots ∙ ap (λ n. packed n used) (ap length (rest_is leaf_length old) ∙ length-drop leaf_length old) in
    subst (λ n. IsLeafWritten old c.write.new.bytes (head n) (packed (length old - leaf_length) used)) moved.ensures.count
    (subst (IsLeafWritten old c.write.new.bytes (head moved.result)) slots
    (written_by old moved.new.into c.write.new.bytes (head moved.result) (omega (arith, c.requires.large)) (same_len_mid leaf_length (length old - leaf_length) old moved.new.into moved.auto.into)
    c.write.ensures.bytes c.write.ensures.read c.write.ensures.behind moved.ensures.filled))
