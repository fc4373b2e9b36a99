use borrow.Rule.Slice.PartMut.{same_len_mid}
use Rattle.std.proofs.lemmas.List.{length-replicate}
use Rattle.std.proofs.Common.{◌∙◌, ◌+◌, ◌-◌, ℕ, List, length, drop, ap, sym, subst, length-drop, arith}
use Rattle.std.specs.Prelude.{filter, replicate}
use Rattle.gfs2_layout.specs.Area.{IsArea, slots_of}
use Rattle.gfs2_layout.specs.Inode.{leaf_length}
use Rattle.gfs2_layout.specs.declared.leaf.Leaf.{Leaf}
use Rattle.leaf_areas.specs.Moving.{in_use}
use Rattle.leaf_areas.specs.Splitting.{is_lower, lower_half, upper_half}
use Rattle.linear_dirs.proofs.Looked.{rest_is}
use Rattle.hash_inserts.specs.Writing.{IsLeafWritten}
use Rattle.hash_inserts.proofs.LeafBytes.{upper_many, written_by}
use Rattle.hash_inserts.proofs.writing.halve_leaf.Goals as goal

pub split_area-halves-requires-clause-area : goal.split_area-halves-requires-clause-area
split_area-halves-requires-clause-area c = subst IsArea (sym (rest_is leaf_length c.args.old.now)) c.requires.block.area

pub returns : goal.returns
returns c =
    let old = c.args.old.now in
    let new = c.args.new.now in
    let d = c.args.depth in
    let area = rest_is leaf_length old in
    let halves = c.split_area-halves in
    let many = halves.ensures.many ∙ ap (λ (a : List ℕ). length (filter (is_lower d) (slots_of a))) area in
    let all = halves.ensures.all ∙ ap (λ (a : List ℕ). length (in_use (slots_of a))) area in
    let lower = halves.ensures.lower ∙ ap (λ (a : List ℕ). lower_half (length a) d (slots_of a)) area ∙ ap (λ n. lower_half n d (slots_of (drop leaf_length old))) (length-drop leaf_length old) in
    let upper = halves.ensures.upper ∙ ap (λ (a : List ℕ). upper_half d (slots_of a)) area in
    let low_head : ℕ → Leaf = λ n. record { depth = d + 1; entries = n; next = 0 } in
    let low_written = written_by new halves.new.new c.write.new.bytes (low_head halves.result.lower) (omega (arith, c.requires.block.long, ap length c.requires.zeros, (let z : ℕ = 0 in length-replicate (length old) z))) (same_len_mid leaf_length (length new - leaf_length) new halves.new.new halves.auto.new) c.write.ensures.bytes c.write.ensures.read c.write.ensures.behind halves.ensures.new_filled in
    let high_written = written_by old halves.new.old c.write-2.new.bytes (low_head halves.result.upper) c.requires.block.long (same_len_mid leaf_length (length old - leaf_length) old halves.new.old halves.auto.old) c.write-2.ensures.bytes c.write-2.ensures.read c.write-2.ensures.behind halves.ensures.old_filled in
    record {
      low = subst (λ x. IsLeafWritten (replicate (length old) 0) c.write.new.bytes (low_head x) (lower_half (length old - leaf_length) d (slots_of (drop leaf_length old)))) many
          (subst (IsLeafWritten (replicate (length old) 0) c.write.new.bytes (low_head halves.result.lower)) lower
          (subst (λ o. IsLeafWritten o c.write.new.bytes (low_head halves.result.lower) (slots_of halves.new.new)) c.requires.zeros low_written));
      high = subst (λ x. IsLeafWritten old c.write-2.new.bytes (low_head x) (upper_half d (slots_of (drop leaf_length old)))) (upper_many d halves.result.lower halves.result.upper (slots_of (drop leaf_length old)) many all)
          (subst (IsLeafWritten old c.write-2.new.bytes (low_head halves.result.upper)) upper high_written);
    }
