use Rattle.std.proofs.Common.{◌≡◌, ◌∙◌, Bool, None, Some, Option, drop, length, sym, ap, subst}
use Rattle.drafts.specs.Fates.{seen_in}
use Rattle.gfs2_layout.specs.Area.{slots_of}
use Rattle.gfs2_layout.specs.Inode.{leaf_area, leaf_length}
use Rattle.hash_steps.specs.Leaves.{has_room_for}
use Rattle.hash_inserts.specs.Finding.{IsChainFound}
use Rattle.hash_inserts.specs.declared.finding.Found.{Found}
use Rattle.hash_inserts.specs.declared.walking.Walked.{Walked}
use Rattle.pointer_tables.specs.declared.pointer.Pointer.{Pointer}
use Rattle.hash_inserts.proofs.Only.{only_at, only_found, sees_all}
use Rattle.hash_inserts.proofs.Past.{seen_block, seen_bytes, sees_own}
use Rattle.hash_inserts.proofs.inserting.insert_first.Goals as goal

none_is_some : (x : Bool) → ◌≡◌ {A = Option Bool} None (Some x) → ⊥
none_is_some x e = cc

one_bool : (x y : Bool) → Some x ≡ Some y → x ≡ y
one_bool x y e = cc

found_eq : (f : Found) (p : Pointer) (w : Walked) → f.head ≡ p → f.chain ≡ w → f ≡ record { head = p; chain = w }
found_eq f p w e e' = λ i. record { head = e i; chain = e' i }

pub returns-in_default-clause-put : goal.returns-in_default-clause-put
returns-in_default-clause-put g c h need can shows only =
    let v = seen_in g.V.View.seen c.args.draft.now in
    let name = c.args.name.now in
    let led = c.sound_pointers_are_parts.ensures.led in
    let at = only_at led v c.args.dir h name c.args.room.now.items need c.args.leaf can only in
    let is = c.has_room_in.ensures at.there.0 at.there.1 (seen_block v c.args.dir h name c.args.room.now.items need c.args.leaf can at) in
    absurd (c.in_default.not-Some _ is)

pub returns-clause-put : goal.returns-clause-put
returns-clause-put g c h need can shows only =
    let v = seen_in g.V.View.seen c.args.draft.now in
    let name = c.args.name.now in
    let led = c.sound_pointers_are_parts.ensures.led in
    let room = c.args.room.now.items in
    let at = only_at led v c.args.dir h name room need c.args.leaf can only in
    let is = c.has_room_in.ensures at.there.0 at.there.1 (seen_block v c.args.dir h name room need c.args.leaf can at) in
    let flag : c.in-Some.has_room ≡ has_room_for (length name) (slots_of (leaf_area h c.args.leaf)) = one_bool _ _ (sym c.in-Some.is ∙ is)
    ∙ ap (λ y. has_room_for (length name) (slots_of (drop leaf_length y))) (sym (seen_bytes v c.args.dir h name room need c.args.leaf can at)) in
    let found = only_found led v c.args.dir h name room need c.args.leaf can only c.in-Some.has_room flag in
    c.insert_whole.ensures.put h need can shows (subst (IsChainFound v h name) (sym (found_eq c.only_leaf-found.result _ _ c.only_leaf-found.ensures.head c.only_leaf-found.ensures.chain)) found)
    (sees_own v c.args.dir h name room need c.args.leaf can at) (λ full one. sees_all led v c.args.dir h name room need c.args.leaf can only)
