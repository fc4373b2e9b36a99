use Rattle.std.proofs.Common.{◌≡◌, ◌+◌, ◌<◌, ◌≤◌, ◌^◌, ℕ, List, None, Some, refl, sym, ap, ◌∙◌, subst, arith}
use Rattle.std.specs.Prelude.{Contains, slice_get}
use Rattle.std.proofs.lemmas.List.Elements.{All-from_get_or}
use Rattle.drafts.specs.Fates.{seen_in}
use Rattle.glock_names.specs.Views.{HasBlock, Seen}
use Rattle.glock_names.proofs.StepLaws.{answer_at}
use Rattle.dinode_tree.proofs.Sound.{some_is_shown}
use Rattle.resource_groups.specs.Putting.{HasDataBlock}
use Rattle.hash_inserts.specs.Steps.{first_count}
use Rattle.hash_inserts.specs.Advancing.{CanInsert}
use Rattle.name_inserts.specs.Need.{need_in_hashed}
use Rattle.name_inserts.proofs.First.{both_inside, only_leaf, table_of}
use Rattle.name_inserts.proofs.Forms.{any_shown}
use Rattle.name_inserts.proofs.Needed.{takes_need}
use Rattle.name_inserts.proofs.Puts.{absent_on, counts_on, enough_on, few_on, free_on, need_full, puts_converted}
use Rattle.name_inserts.proofs.putting.put_converted.Goals as goal

some_same : (x y : ℕ) → Some x ≡ Some y → x ≡ y
some_same x y e = cc

none_is_some : (x : ℕ) → None ≡ Some x → ⊥
none_is_some x e = cc

-- the draft has the groups of its view
data_block_in : (v w : Seen) (b : ℕ) → w.groups ≡ v.groups → HasDataBlock v b → HasDataBlock w b
data_block_in v w b same has = (has.0, subst (λ gs. Contains gs has.0) (sym same) has.1, has.2)

enough_room : (n k room : ℕ) → n ≡ k + 1 → n ≤ room → 1 ≤ room
enough_room n k room e le = omega (arith, e, le)

pub returns-in_default-clause-put : goal.returns-in_default-clause-put
returns-in_default-clause-put g c h shown plain full can =
    let name = c.args.name.now in
    let made = answer_at _ _ _ c.in-Is.is (c.in_ok-hashed.ensures.put h shown can.sound can.directory plain can.few can.free (enough_room _ _ _ (need_full h name plain full) can.enough)) in
    let is = made.1.2.0 in
    absurd (c.in_default.not-Some is.block (c.first_block-first.ensures ∙ ap (λ (l : List ℕ). slice_get l 0) is.takes.front))

pub returns-clause-put : goal.returns-clause-put
returns-clause-put g c h shown plain full can =
    let seen = g.V.View.seen in
    let old = c.args.draft.now in
    let mid = c.to_hashed.new.draft in
    let v = seen_in seen old in
    let w = seen_in seen mid in
    let dir = c.args.dir in
    let name = c.args.name.now in
    let between = c.to_hashed.new.room.items in
    let small = c.checksums_have_32_bits.ensures name (All-from_get_or (λ byte. byte < 256) name 0 (λ i inside. (c.type_inv.name i).fits)) in
    let made = answer_at _ _ _ c.in-Is.is (c.in_ok-hashed.ensures.put h shown can.sound can.directory plain can.few can.free (enough_room _ _ _ (need_full h name plain full) can.enough)) in
    let m = made.1.0 in
    let shown_m = made.1.1 in
    let is = made.1.2.0 in
    let own_there = made.1.2.1 in
    let leaf_there = made.1.2.2 in
    let sound = is.stays.sound in
    let same : c.in-Some.leaf ≡ is.block = some_same _ _ (sym c.in-Some.is ∙ c.first_block-first.ensures ∙ ap (λ (l : List ℕ). slice_get l 0) is.takes.front) in
    let can_insert : CanInsert w dir m name between (need_in_hashed m name) = record {
      shown = shown_m;
      sound = sound;
      counts = counts_on old.fates mid.fates c.args.room.now.items between name h m plain full can is small;
      small = small;
      fresh = absent_on old.fates mid.fates c.args.room.now.items between name h m plain full can is small;
      few = few_on old.fates mid.fates c.args.room.now.items between name h m plain full can is small;
      free = free_on old.fates mid.fates c.args.room.now.items between name h m plain full can is small;
      takes = takes_need m name sound is.converted.hashed small;
      enough = enough_on old.fates mid.fates c.args.room.now.items between name h m plain full can is small;
    } in
    let view : (seen mid.view) ≡ (seen old.view) = ap seen c.in_ok-hashed.ensures.view in
    let deep : 2 ^ c.first_depth.result ≡ first_count h.size = c.first_depth.ensures.count ∙ ap first_count (c.block_size.ensures.value ∙ ap (λ (s : Seen). s.size) view ∙ sym shown.size) in
    let data_block = data_block_in v w is.block (ap (λ (s : Seen). s.groups) view) (c.requires.room is.block (subst (λ l. Contains l is.block) (sym is.takes.front) (0, omega arith, refl))) in
    let only = only_leaf h m is.block can.sound can.directory plain is.converted sound w name c.in-Some.leaf small same (subst (HasBlock w) (sym is.converted.same.own) own_there) leaf_there data_block in
    let done = c.in_ok-done.ensures.put m (need_in_hashed m name) can_insert (table_of h m is.block can.sound can.directory plain is.converted sound w dir _ refl deep shown_m) only in
    let k = done.1.0 in
    let inserts = done.1.3 in
    let own : k.own ≡ m.own = done.1.1.inode.own ∙ sym shown_m.inode.own in (
      done.0,
      (
        k,
        any_shown (seen_in seen c.insert_first.new.draft) dir k done.1.1 inserts.sound,
        puts_converted old.fates mid.fates c.args.room.now.items between name h m plain full can is small c.insert_first.new.draft.fates c.insert_first.new.room.items c.args.entry k inserts own,
      ),
    )

pub returns-clause-inside : goal.returns-clause-inside
returns-clause-inside g c done =
    let seen = g.V.View.seen in
    let v = seen_in seen c.args.draft.now in
    let w = seen_in seen c.to_hashed.new.draft in
    let s = some_is_shown v c.args.dir in
    let view : (seen c.to_hashed.new.draft.view) ≡ (seen c.args.draft.now.view) = ap seen c.in_ok-hashed.ensures.view in
    both_inside v w c.args.draft.now.fates c.to_hashed.new.draft.fates c.insert_first.new.draft.fates c.args.room.now.items c.to_hashed.new.room.items c.insert_first.new.room.items c.args.dir s.0 s.1.0.own
    (λ b has. data_block_in w v b (sym (ap (λ (x : Seen). x.groups) view)) has) (answer_at _ _ _ c.in-Is.is (c.in_ok-hashed.ensures.inside s.0 s.1.0) c.if-not-hashed.false) (c.in_ok-done.ensures.inside done)
