use borrow.Rule.Slice.PartMut.{same_len_mid}
use Rattle.std.proofs.Common.{◌∙◌, ◌-◌, length, take, ap, sym, subst}
use Rattle.std.specs.Prelude.{Ok}
use Rattle.gfs2_layout.specs.Area.{IsArea, IsRecordAt, slots_of}
use Rattle.gfs2_layout.specs.Cutting.{slots_without}
use Rattle.gfs2_layout.specs.Inode.{leaf_length}
use Rattle.gfs2_layout.specs.Writing.{leaf_put}
use Rattle.gfs2_layout.specs.declared.leaf.Leaf.{Leaf}
use Rattle.linear_dirs.proofs.Looked.{rest_is, rest_put}
use Rattle.hash_dirs.proofs.LeafHeads.{front_anew}
use Rattle.hash_dirs.proofs.removing.cut_in_leaf.Goals as goal

pub cut_record-requires-clause-area : goal.cut_record-requires-clause-area
cut_record-requires-clause-area c = subst IsArea (sym (rest_is 104 c.args.bytes.now)) c.requires.area

pub cut_record-requires-clause-record : goal.cut_record-requires-clause-record
cut_record-requires-clause-record c = subst (λ a. IsRecordAt a c.args.at) (sym (rest_is 104 c.args.bytes.now)) c.requires.place

pub returns : goal.returns
returns c =
    let behind = c.write.ensures.behind ∙ rest_put 104 c.args.bytes.now c.cut_record.new.area c.requires.long in
    record {
      cut = record {
        front = front_anew (record c.args.head.now { entries = c.args.head.now.entries - 1 }) c.args.bytes.now c.cut_record.new.area c.write.new.bytes c.requires.long
            (same_len_mid leaf_length (length c.args.bytes.now - leaf_length) c.args.bytes.now c.cut_record.new.area c.cut_record.auto.area) c.write.ensures.bytes
            ∙ ap (λ (l : Leaf). take leaf_length (leaf_put (record l { entries = l.entries - 1 }) c.args.bytes.now)) c.requires.head;
        head = c.write.ensures.read ∙ ap (λ (l : Leaf). Ok (record l { entries = l.entries - 1 })) c.requires.head;
        slots = ap slots_of behind ∙ c.cut_record.ensures.slots ∙ ap (slots_without c.args.at) (rest_is 104 c.args.bytes.now);
        filled = subst IsArea (sym behind) c.cut_record.ensures.area;
      };
    }
