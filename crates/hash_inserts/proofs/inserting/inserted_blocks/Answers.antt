use Rattle.std.proofs.Common.{◌≡◌, ◌∙◌, sym, ap, subst}
use Rattle.std.specs.Prelude.{Contains}
use Rattle.drafts.specs.Fates.{Drafted, seen_in, seen_with}
use Rattle.glock_names.specs.Views.{HasBlock}
use Rattle.hash_steps.specs.Shown.{IsShown}
use Rattle.hash_inserts.specs.Advancing.{CanInsert}
use Rattle.hash_inserts.specs.Committing.{HasInserted}
use Rattle.hash_inserts.specs.Drafting.{SeesTree}
use Rattle.hash_inserts.specs.Finding.{IsChainFound}
use Rattle.hash_inserts.specs.Inserting.{Inserts}
use Rattle.hash_inserts.proofs.Over.{put_of, seen_fresh, whole_put}
use Rattle.hash_inserts.proofs.Results.{contradict}
use Rattle.hash_inserts.proofs.inserting.inserted_blocks.Goals as goal

pub returns-then-not-done-clause-put : goal.returns-then-not-done-clause-put
returns-then-not-done-clause-put g c h need can shows found own tree =
    let seen = g.V.View.seen in
    let dir = c.args.dir in
    let name = c.args.name.now in
    let fresh : seen_in seen c.new-draft.result ≡ seen c.args.view.now = ap (seen_in seen) c.new-draft.ensures ∙ seen_fresh (seen c.args.view.now) in
    let done = c.in_ok-done.ensures.put h need (subst (λ w. CanInsert w dir h name c.args.room.now.items need) (sym fresh) can) (subst (λ w. g.T.PointerTable.shows c.args.table.now w h) (sym fresh) shows)
    (subst (λ w. IsChainFound w h name c.args.found.now) (sym fresh) found) (subst (λ w. HasBlock w dir) (sym fresh) own) (λ none one. subst (λ w. SeesTree w h) (sym fresh) (tree none one)) in
    contradict c.in_ok-done.done done.0 c.if-not-done.true

pub returns-then-not-are_whole-clause-put : goal.returns-then-not-are_whole-clause-put
returns-then-not-are_whole-clause-put g c h need can shows found own tree =
    let seen = g.V.View.seen in
    let v = seen c.args.view.now in
    let now = c.insert_found.new.draft in
    let dir = c.args.dir in
    let name = c.args.name.now in
    let fresh : seen_in seen c.new-draft.result ≡ seen c.args.view.now = ap (seen_in seen) c.new-draft.ensures ∙ seen_fresh (seen c.args.view.now) in
    let done = c.in_ok-done.ensures.put h need (subst (λ w. CanInsert w dir h name c.args.room.now.items need) (sym fresh) can) (subst (λ w. g.T.PointerTable.shows c.args.table.now w h) (sym fresh) shows)
    (subst (λ w. IsChainFound w h name c.args.found.now) (sym fresh) found) (subst (λ w. HasBlock w dir) (sym fresh) own) (λ none one. subst (λ w. SeesTree w h) (sym fresh) (tree none one)) in
    let k = done.1.0 in
    let seen_now : seen_in seen now ≡ seen_with v now.fates = ap (λ y. seen_with (seen y) now.fates) (c.in_ok-done.ensures.view ∙ ap (λ (d : Drafted _). d.view) c.new-draft.ensures) in
    let has : HasInserted v now.fates c.in_ok-change.change.blocks.items dir c.args.room.now.items c.insert_found.new.room.items need name c.args.entry h k = record {
      written = c.in_ok-change.ensures.blocks;
      shown = subst (λ w. IsShown w dir k) seen_now done.1.1;
      inserts = subst (λ f. Inserts f now.fates c.args.room.now.items c.insert_found.new.room.items need name c.args.entry h k) (ap (λ (d : Drafted _). d.fates) c.new-draft.ensures) done.1.3;
    } in
    contradict c.are_whole.result (c.are_whole.ensures.1 (λ w there. whole_put v now.fates c.in_ok-change.change.blocks.items dir c.args.room.now.items c.insert_found.new.room.items has.inserts.taken _ h k
    (put_of v now.fates c.in_ok-change.change.blocks.items dir c.args.room.now.items c.insert_found.new.room.items need name c.args.entry h k has) c.puts_are_seen_alike.ensures.told w (subst (λ xs. Contains xs w) c.deref.ensures.value there)
    ∙ sym c.block_size-size.ensures.value)) c.if-not-are_whole.true

pub returns-clause-put : goal.returns-clause-put
returns-clause-put g c h need can shows found own tree =
    let seen = g.V.View.seen in
    let v = seen c.args.view.now in
    let now = c.insert_found.new.draft in
    let dir = c.args.dir in
    let name = c.args.name.now in
    let fresh : seen_in seen c.new-draft.result ≡ seen c.args.view.now = ap (seen_in seen) c.new-draft.ensures ∙ seen_fresh (seen c.args.view.now) in
    let done = c.in_ok-done.ensures.put h need (subst (λ w. CanInsert w dir h name c.args.room.now.items need) (sym fresh) can) (subst (λ w. g.T.PointerTable.shows c.args.table.now w h) (sym fresh) shows)
    (subst (λ w. IsChainFound w h name c.args.found.now) (sym fresh) found) (subst (λ w. HasBlock w dir) (sym fresh) own) (λ none one. subst (λ w. SeesTree w h) (sym fresh) (tree none one)) in
    let k = done.1.0 in
    let seen_now : seen_in seen now ≡ seen_with v now.fates = ap (λ y. seen_with (seen y) now.fates) (c.in_ok-done.ensures.view ∙ ap (λ (d : Drafted _). d.view) c.new-draft.ensures) in
    let has : HasInserted v now.fates c.in_ok-change.change.blocks.items dir c.args.room.now.items c.insert_found.new.room.items need name c.args.entry h k = record {
      written = c.in_ok-change.ensures.blocks;
      shown = subst (λ w. IsShown w dir k) seen_now done.1.1;
      inserts = subst (λ f. Inserts f now.fates c.args.room.now.items c.insert_found.new.room.items need name c.args.entry h k) (ap (λ (d : Drafted _). d.fates) c.new-draft.ensures) done.1.3;
    } in
    (now.fates, (k, subst (λ w. g.T.PointerTable.shows c.insert_found.new.table w k) seen_now done.1.2, has))
