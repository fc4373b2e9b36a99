use Rattle.std.proofs.Common.{◌≡◌, ◌∙◌, ◌+◌, ◌-◌, [], ◌∷◌, length, take, drop, refl, sym, ap, ap₂, subst, length-drop, arith}
use Rattle.std.proofs.lemmas.Bool.{true≢false}
use Rattle.std.proofs.lemmas.List.{take_at}
use Rattle.gfs2_layout.specs.Area.{IsArea, slots_of}
use Rattle.gfs2_layout.specs.Holding.{bytes_at}
use Rattle.gfs2_layout.specs.Inode.{leaf_length, linear_area}
use Rattle.gfs2_layout.specs.Structures.{dinode_length}
use Rattle.glock_names.specs.Steps.{TellsOf}
use Rattle.leaf_areas.specs.Moving.{in_use, packed}
use Rattle.linear_dirs.specs.Broken.{IsBroken, no_area}
use Rattle.linear_dirs.proofs.Looked.{rest_is}
use Rattle.hash_steps.specs.Steps.{first_count}
use Rattle.hash_inserts.specs.Counting.{chain_with}
use Rattle.hash_inserts.specs.Needing.{Needs}
use Rattle.hash_inserts.specs.declared.counting.OneLeaf.{OneLeaf}
use Rattle.hash_inserts.proofs.firsts.need_first.Goals as goal

pub returns-then-not-is_area-clause-damaged : goal.returns-then-not-is_area-clause-damaged
returns-then-not-is_area-clause-damaged g c h shown =
    let v = g.V.View.seen c.args.view.now in
    let bytes = c.in-Some.bytes.now in
    let at : bytes_at h h.own ≡ bytes = shown.same h.own bytes shown.dinode (ap v.block_at shown.own ∙ c.in-Some.ensures.some) in
    let behind : linear_area h ≡ take (length bytes - dinode_length) (drop dinode_length bytes) = ap (drop dinode_length) at ∙ sym (rest_is dinode_length bytes) in
    subst (TellsOf (IsBroken h)) (sym c.damaged.ensures)
    (subst (IsBroken h 9) shown.own (no_area (λ area. true≢false (sym (c.is_area.ensures.1 (subst IsArea behind area)) ∙ c.if-not-is_area.true))))

pub count_needs-requires-clause-filled : goal.count_needs-requires-clause-filled
count_needs-requires-clause-filled g c =
    let new = c.write_first.new.bytes in
    let is : c.deref.result.now ≡ new = c.deref.ensures.value ∙ take_at new (drop (length new) c.in_ok-first.first.items) c.in_ok-first.first.len (c.write_first.auto.bytes ∙ c.deref_mut.ensures.len) in
    subst IsArea (sym (rest_is leaf_length c.deref.result.now ∙ ap (drop leaf_length) is)) c.write_first.ensures.filled

pub returns-clause-need : goal.returns-clause-need
returns-clause-need g c h shown =
    let v = g.V.View.seen c.args.view.now in
    let bytes = c.in-Some.bytes.now in
    let new = c.write_first.new.bytes in
    let over = c.deref_mut.result.now in
    let at : bytes_at h h.own ≡ bytes = shown.same h.own bytes shown.dinode (ap v.block_at shown.own ∙ c.in-Some.ensures.some) in
    let behind : take (length bytes - dinode_length) (drop dinode_length bytes) ≡ linear_area h = rest_is dinode_length bytes ∙ ap (drop dinode_length) (sym at) in
    let long : length bytes ≡ h.size = sym (shown.size ∙ c.in-Some.ensures.size) in
    let long_over : length over ≡ h.size = omega (arith, c.deref_mut.ensures.len, c.in_ok-first.ensures.len, long) in
    let is : c.deref.result.now ≡ new = c.deref.ensures.value ∙ take_at new (drop (length new) c.in_ok-first.first.items) c.in_ok-first.first.len (c.write_first.auto.bytes ∙ c.deref_mut.ensures.len) in
    let slice = take (length c.deref.result.now - leaf_length) (drop leaf_length c.deref.result.now) in
    let given : slice ≡ drop leaf_length new = rest_is leaf_length c.deref.result.now ∙ ap (drop leaf_length) is in
    let one : OneLeaf = record { height = 0; table = c.first_depth.result; depth = 0 } in
    let chain = chain_with (length slice + leaf_length) one (slots_of slice) in
    record {
      chain = chain;
      is = record {
        size = omega (arith, ap length given, length-drop leaf_length new, c.write_first.ensures.long, long_over, long, c.in-Some.ensures.least);
        height = refl;
        table = c.first_depth.ensures.count ∙ ap first_count long;
        depth = refl;
        leaves = ap (λ s. s ∷ []) (ap slots_of given ∙ c.write_first.ensures.records ∙ ap₂ (λ n a. packed (n - leaf_length) (in_use (slots_of a))) long_over behind);
      };
      more = c.in_ok-more.more;
      needs = subst (λ hash. Needs (length c.args.name.now) hash chain c.in_ok-more.more) c.crc32.ensures c.in_ok-more.ensures.needs;
      all = refl;
    }
