use Rattle.std.proofs.Common.{◌≡◌, ◌∙◌, [], ◌∷◌, refl, sym, ap, subst}
use Rattle.std.specs.Prelude.{Contains}
use Rattle.drafts.specs.Fates.{Drafted, seen_in, seen_with}
use Rattle.glock_names.specs.Views.{HasBlock}
use Rattle.hash_steps.specs.Shown.{IsShown}
use Rattle.hash_inserts.specs.Committing.{HasSplit}
use Rattle.hash_inserts.specs.Drafting.{SeesTree, SplitsLeaf}
use Rattle.hash_inserts.proofs.Over.{seen_fresh, whole_put}
use Rattle.hash_inserts.proofs.Results.{contradict}
use Rattle.hash_inserts.proofs.splitting.split_blocks.Goals as goal

pub returns-then-not-done-clause-split : goal.returns-then-not-done-clause-split
returns-then-not-done-clause-split g c h shown shows sound count small leaf_is one depth_is less sees there free =
    let seen = g.V.View.seen in
    let dir = c.args.dir in
    let fresh : seen_in seen c.new-draft.result ≡ seen c.args.view.now = ap (seen_in seen) c.new-draft.ensures ∙ seen_fresh (seen c.args.view.now) in
    let done = c.in_ok-done.ensures.put h (subst (λ w. IsShown w dir h) (sym fresh) shown) (subst (λ w. g.T.PointerTable.shows c.args.table.now w h) (sym fresh) shows) sound count small leaf_is one depth_is less
    (subst (λ w. SeesTree w h) (sym fresh) sees) (subst (λ w. HasBlock w c.args.leaf) (sym fresh) there) free in
    contradict c.in_ok-done.done done.0 c.if-not-done.true

pub returns-then-not-are_whole-clause-split : goal.returns-then-not-are_whole-clause-split
returns-then-not-are_whole-clause-split g c h shown shows sound count small leaf_is one depth_is less sees there free =
    let seen = g.V.View.seen in
    let v = seen c.args.view.now in
    let now = c.split_leaf.new.draft in
    let dir = c.args.dir in
    let b = c.args.lower in
    let fresh : seen_in seen c.new-draft.result ≡ seen c.args.view.now = ap (seen_in seen) c.new-draft.ensures ∙ seen_fresh (seen c.args.view.now) in
    let done = c.in_ok-done.ensures.put h (subst (λ w. IsShown w dir h) (sym fresh) shown) (subst (λ w. g.T.PointerTable.shows c.args.table.now w h) (sym fresh) shows) sound count small leaf_is one depth_is less
    (subst (λ w. SeesTree w h) (sym fresh) sees) (subst (λ w. HasBlock w c.args.leaf) (sym fresh) there) free in
    let k = done.1.0 in
    let seen_now : seen_in seen now ≡ seen_with v now.fates = ap (λ y. seen_with (seen y) now.fates) (c.in_ok-done.ensures.view ∙ ap (λ (d : Drafted _). d.view) c.new-draft.ensures) in
    let splits = subst (λ f. SplitsLeaf (seen c.new-draft.result.view) f now.fates h k c.args.index b) (ap (λ (d : Drafted _). d.fates) c.new-draft.ensures) done.1.1 in
    let has : HasSplit v now.fates c.in_ok-change.change.blocks.items dir c.args.index b h k = record {
      put = record {
        written = c.in_ok-change.ensures.blocks;
        shown = subst (λ w. IsShown w dir k) seen_now done.1.2;
        sound = done.1.4.sound;
        takes = record { front = refl; has = splits.has; drafted = splits.puts.drafted; changes = splits.only };
      };
      split = splits.is;
      stays = done.1.4;
    } in
    contradict c.are_whole.result (c.are_whole.ensures.1 (λ w there'. whole_put v now.fates c.in_ok-change.change.blocks.items dir (b ∷ []) [] (b ∷ []) _ h k has.put c.puts_are_seen_alike.ensures.told w (subst (λ xs. Contains xs w) c.deref.ensures.value there')
    ∙ sym c.block_size-size.ensures.value)) c.if-not-are_whole.true

pub returns-clause-split : goal.returns-clause-split
returns-clause-split g c h shown shows sound count small leaf_is one depth_is less sees there free =
    let seen = g.V.View.seen in
    let v = seen c.args.view.now in
    let now = c.split_leaf.new.draft in
    let dir = c.args.dir in
    let b = c.args.lower in
    let fresh : seen_in seen c.new-draft.result ≡ seen c.args.view.now = ap (seen_in seen) c.new-draft.ensures ∙ seen_fresh (seen c.args.view.now) in
    let done = c.in_ok-done.ensures.put h (subst (λ w. IsShown w dir h) (sym fresh) shown) (subst (λ w. g.T.PointerTable.shows c.args.table.now w h) (sym fresh) shows) sound count small leaf_is one depth_is less
    (subst (λ w. SeesTree w h) (sym fresh) sees) (subst (λ w. HasBlock w c.args.leaf) (sym fresh) there) free in
    let k = done.1.0 in
    let seen_now : seen_in seen now ≡ seen_with v now.fates = ap (λ y. seen_with (seen y) now.fates) (c.in_ok-done.ensures.view ∙ ap (λ (d : Drafted _). d.view) c.new-draft.ensures) in
    let splits = subst (λ f. SplitsLeaf (seen c.new-draft.result.view) f now.fates h k c.args.index b) (ap (λ (d : Drafted _). d.fates) c.new-draft.ensures) done.1.1 in
    let has : HasSplit v now.fates c.in_ok-change.change.blocks.items dir c.args.index b h k = record {
      put = record {
        written = c.in_ok-change.ensures.blocks;
        shown = subst (λ w. IsShown w dir k) seen_now done.1.2;
        sound = done.1.4.sound;
        takes = record { front = refl; has = splits.has; drafted = splits.puts.drafted; changes = splits.only };
      };
      split = splits.is;
      stays = done.1.4;
    } in
    (now.fates, (k, subst (λ w. g.T.PointerTable.shows c.split_leaf.new.table w k) seen_now done.1.3, has))
