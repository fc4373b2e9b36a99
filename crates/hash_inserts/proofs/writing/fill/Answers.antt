use borrow.Rule.Slice.PartMut.{same_len_mid}
use Rattle.std.proofs.Common.{rules, ◌∙◌, ◌-◌, ℕ, length, List, refl, sym, ap, subst}
use Rattle.std.proofs.lemmas.Bool.{true≢false}
use Rattle.std.specs.List.{list_any}
use Rattle.gfs2_layout.specs.Area.{IsArea, slots_of}
use Rattle.gfs2_layout.specs.Inode.{leaf_length}
use Rattle.gfs2_layout.specs.Putting.{has_room, least_length, put_slot}
use Rattle.linear_dirs.proofs.Looked.{rest_is}
use Rattle.hash_inserts.proofs.LeafBytes.{filled_by}
use Rattle.hash_inserts.proofs.writing.fill.Goals as goal

pub put_record-requires-clause-area : goal.put_record-requires-clause-area
put_record-requires-clause-area c = subst IsArea (sym (rest_is leaf_length c.args.bytes.now)) c.requires.area

pub returns-then-not-put_record : goal.returns-then-not-put_record
returns-then-not-put_record c can =
    absurd (true≢false (sym can.room ∙ sym (c.if-not-put_record.ensures.room ∙ ap (λ (area : List ℕ). list_any (has_room (least_length (length c.args.name.now))) (slots_of area)) (rest_is leaf_length c.args.bytes.now))))

pub returns : goal.returns
returns c can = (
  refl,
  filled_by c.args.bytes.now c.put_record.new.area c.write.new.bytes c.args.leaf.now c.in-Some.entries c.args.entry.now c.args.name.now can c.requires.head (search rules)
      (ap (λ (area : List ℕ). put_slot c.args.entry.now c.args.name.now (slots_of area)) (sym (rest_is leaf_length c.args.bytes.now)) ∙ c.if-not-put_record.ensures.put refl)
      c.put_record.ensures.area (same_len_mid leaf_length (length c.args.bytes.now - leaf_length) c.args.bytes.now c.put_record.new.area c.put_record.auto.area) c.write.ensures.bytes c.write.ensures.read c.write.ensures.behind,
)
