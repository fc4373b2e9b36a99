use Rattle.std.proofs.Common.{◌≡◌, ◌∙◌, Some, List, ℕ, drop, sym, ap, subst}
use Rattle.std.proofs.lemmas.List.{take_rest}
use Rattle.gfs2_layout.specs.Area.{IsArea, slots_of}
use Rattle.gfs2_layout.specs.Inode.{leaf_length}
use Rattle.hash_steps.specs.Leaves.{has_room_for}
use Rattle.hash_inserts.proofs.finding.has_room_in.Goals as goal

pub area_has_room-requires : goal.area_has_room-requires
area_has_room-requires g c = subst IsArea (sym (take_rest c.in_ok-bytes.bytes.now 104)) (c.in_ok-_head.ensures.block c.in_ok-bytes.ensures.most).area

one_list : (xs ys : List ℕ) → Some xs ≡ Some ys → xs ≡ ys
one_list xs ys e = cc

pub returns : goal.returns
returns g c bytes there block =
    let same : c.in_ok-bytes.bytes.now ≡ bytes = one_list _ _ (sym c.in_ok-bytes.ensures.some ∙ there) in
    ap Some (c.area_has_room.ensures ∙ ap (λ a. has_room_for c.args.len (slots_of a)) (take_rest c.in_ok-bytes.bytes.now 104 ∙ ap (drop leaf_length) same))
