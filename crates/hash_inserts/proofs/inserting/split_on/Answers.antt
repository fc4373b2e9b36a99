use Rattle.std.proofs.Common.{◌≡◌, ◌∙◌, ◌∷◌, ◌<◌, refl, sym, ap, ap₂, subst, arith}
use Rattle.std.proofs.lemmas.Bool.{true≢false}
use Rattle.drafts.specs.Fates.{seen_in, seen_with}
use Rattle.gfs2_layout.specs.Inode.{depth_in, entry, table_count, top_bits}
use Rattle.hash_steps.specs.Shown.{IsShown, index_for}
use Rattle.hash_steps.proofs.Chained.{head_some, index_low}
use Rattle.hash_steps.specs.Leaves.{HasOneLeaf, leaf_depth}
use Rattle.hash_inserts.specs.Advancing.{StepsOn}
use Rattle.hash_inserts.specs.Drafting.{SplitsLeaf}
use Rattle.hash_inserts.proofs.Looks.{free_front}
use Rattle.hash_inserts.proofs.Needed.{needs_some}
use Rattle.hash_inserts.proofs.Onward.{by_pointers}
use Rattle.hash_inserts.proofs.Results.{some_and}
use Rattle.hash_inserts.proofs.SplitOn.{none_has_room, split_on}
use Rattle.hash_inserts.proofs.inserting.split_on.Goals as goal

pub returns-in_default-clause-split : goal.returns-in_default-clause-split
returns-in_default-clause-split g c h need can shows at full depth_is less =
    let name = c.args.name.now in
    let low = index_low h can.sound can.shown.hashed name can.small in
    let some = needs_some h name need can.takes (none_has_room h name c.args.leaf at.leaf_is at.one full) less low (head_some h can.sound can.shown.hashed (index_for h name) low) in
    absurd (omega (arith, some, can.enough, c.in_default.ensures))

pub returns-then-not-done-clause-split : goal.returns-then-not-done-clause-split
returns-then-not-done-clause-split g c h need can shows at full depth_is less =
    let v = seen_in g.V.View.seen c.args.draft.now in
    let name = c.args.name.now in
    let low = index_low h can.sound can.shown.hashed name can.small in
    let index : c.index_of-index.result ≡ index_for h name = c.index_of-index.ensures.value ∙ ap₂ (λ n x. top_bits n x) (c.depth.ensures.value ∙ g.met.T.PointerTable.deep_in c.args.table.now v h shows) c.crc32.ensures in
    let free = free_front h c.in-Some.lower c.args.room.now.items c.pop_front.new.self.items c.in-Some.ensures.items can.free in
    let done = c.in_ok-done.ensures.put h can.shown shows can.sound can.few (subst (λ i. i < table_count h) (sym index) low) (subst (λ i. c.args.leaf ≡ entry h i) (sym index) at.leaf_is) (subst (HasOneLeaf h) (sym index) at.one)
    (subst (λ i. c.args.depth ≡ leaf_depth h i) (sym index) depth_is) (subst (λ i. leaf_depth h i < depth_in h) (sym index) less) (by_pointers c.sound_pointers_are_parts.ensures.parts v h can.sound at.sees) at.there free in
    absurd (true≢false (sym done.0 ∙ c.if-not-done.true))

pub returns-clause-split : goal.returns-clause-split
returns-clause-split g c h need can shows at full depth_is less =
    let seen = g.V.View.seen in
    let old = c.args.draft.now in
    let now = c.split_leaf.new.draft in
    let v = seen_in seen old in
    let dir = c.args.dir in
    let name = c.args.name.now in
    let low = index_low h can.sound can.shown.hashed name can.small in
    let index : c.index_of-index.result ≡ index_for h name = c.index_of-index.ensures.value ∙ ap₂ (λ n x. top_bits n x) (c.depth.ensures.value ∙ g.met.T.PointerTable.deep_in c.args.table.now v h shows) c.crc32.ensures in
    let front : c.args.room.now.items ≡ c.in-Some.lower ∷ c.pop_front.new.self.items = c.in-Some.ensures.items in
    let free = free_front h c.in-Some.lower c.args.room.now.items c.pop_front.new.self.items front can.free in
    let done = c.in_ok-done.ensures.put h can.shown shows can.sound can.few (subst (λ i. i < table_count h) (sym index) low) (subst (λ i. c.args.leaf ≡ entry h i) (sym index) at.leaf_is) (subst (HasOneLeaf h) (sym index) at.one)
    (subst (λ i. c.args.depth ≡ leaf_depth h i) (sym index) depth_is) (subst (λ i. leaf_depth h i < depth_in h) (sym index) less) (by_pointers c.sound_pointers_are_parts.ensures.parts v h can.sound at.sees) at.there free in
    let m = done.1.0 in
    let splits = subst (λ i. SplitsLeaf (seen old.view) old.fates now.fates h m i c.in-Some.lower) index done.1.1 in
    let shown = done.1.2 in
    let seen_now : seen_in seen now ≡ seen_with (seen old.view) now.fates = ap (λ y. seen_with (seen y) now.fates) c.in_ok-done.ensures.view in
    let on = split_on (seen old.view) old.fates now.fates c.args.room.now.items c.pop_front.new.self.items dir name need c.in-Some.lower c.args.leaf h m can at full less splits done.1.4 front
    (subst (λ w. IsShown w dir m) seen_now shown) (entry m (index_for m name)) refl in
    let next = subst (λ w. StepsOn (seen old.view) w old.fates now.fates c.args.room.now.items c.pop_front.new.self.items dir name need (entry m (index_for m name)) h m) (sym seen_now) on in
    some_and c.leaf_for.result (entry m (index_for m name)) _ (c.leaf_for.ensures m (subst (λ a. IsShown (seen_in seen now) a m) (sym shown.inode.own) shown) done.1.3 next.can.sound
    (by_pointers c.sound_pointers_are_parts.ensures.parts (seen_in seen now) m next.can.sound next.at.sees)) (m, done.1.3, next)
