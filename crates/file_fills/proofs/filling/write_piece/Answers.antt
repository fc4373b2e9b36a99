use Rattle.std.proofs.Common.{◌≡◌, ◌+◌, ◌*◌, ◌/◌, ◌%◌, ◌<◌, length, refl, sym, ap, subst, ◌∙◌, arith, IfSome}
use Rattle.std.proofs.lemmas.Nat.{div-add-mod'}
use Rattle.std.proofs.Math.Nat.{mod-lt}
use Rattle.std.specs.Prelude.{IsSomeAnd}
use Rattle.drafts.specs.Fates.{Drafted, seen_in, seen_with}
use Rattle.file_tree.specs.Apply.{overwritten}
use Rattle.gfs2_layout.specs.Inode.{content_of}
use Rattle.glock_names.specs.Views.{HasBlock}
use Rattle.growth_laws.specs.Files.{with_cells}
use Rattle.growth_laws.proofs.Places.{size_large}
use Rattle.growth_drafts.specs.Taken.{HasBytes}
use Rattle.growth_drafts.specs.Touched.{IsReached}
use Rattle.growth_drafts.proofs.Following.{follows_draft, follows_one, follows_then}
use Rattle.file_fills.specs.Filling.{IsSeenWay}
use Rattle.file_fills.specs.Progress.{HasBlockAt}
use Rattle.file_fills.proofs.Pieces.{block_then, bytes_at_place, put_one}
use Rattle.file_fills.proofs.Stepped.{before_end, ready_after}
use Rattle.file_fills.proofs.filling.write_piece.Goals as goal

pub returns-clause-view : goal.returns-clause-view
returns-clause-view g c =
    let there = subst (λ made. IfSome made (λ block. HasBlock (seen_in g.V.View.seen c.make_way.new.draft) block)) c.in-Some.is c.in_ok-block.ensures.there in
    ap (λ (d : Drafted _). d.view) (c.in_ok-put_content.ensures.put there.0 there.1) ∙ c.in_ok-block.ensures.view

pub returns-clause-within : goal.returns-clause-within
returns-clause-within g c =
    let there = subst (λ made. IfSome made (λ block. HasBlock (seen_in g.V.View.seen c.make_way.new.draft) block)) c.in-Some.is c.in_ok-block.ensures.there in
    let reached = subst (λ made. IfSome made (IsReached (seen_in g.V.View.seen c.make_way.new.draft) c.args.inode c.args.room.now.items)) c.in-Some.is c.in_ok-block.ensures.reached in
    follows_then (g.V.View.seen c.args.draft.now.view) c.args.inode c.args.room.now.items _ _ _ c.in_ok-block.ensures.within
    (follows_draft (g.V.View.seen c.args.draft.now.view) c.args.inode c.args.room.now.items c.make_way.new.draft c.put_content.new.draft _ (c.in_ok-put_content.ensures.put there.0 there.1)
    (follows_one (g.V.View.seen c.args.draft.now.view) c.args.inode c.args.room.now.items c.make_way.new.draft.fates c.in-Some.block _
    (subst (λ v. IsReached (seen_with (g.V.View.seen v) c.make_way.new.draft.fates) c.args.inode c.args.room.now.items c.in-Some.block) c.in_ok-block.ensures.view reached)))

pub returns-clause-written : goal.returns-clause-written
returns-clause-written g c h from end shown r low high way =
    let size : c.from-size.result ≡ h.size = c.from-size.ensures ∙ c.block_size.ensures.value ∙ sym shown.size in
    let some : 0 < h.size = omega (arith, size_large h.size r.file.block_size) in
    let index : c.args.at / c.from-size.result ≡ c.args.at / h.size = ap (λ n. c.args.at / n) size in
    let has : HasBytes h.size from end (c.args.at / c.from-size.result)
    = subst (HasBytes h.size from end) (sym index) (bytes_at_place h.size from end c.args.at (length c.args.piece.now) some low c.requires.some high) in
    let made = subst
    (λ made. IsSomeAnd made (λ block. HasBlockAt (seen_in g.V.View.seen c.make_way.new.draft) c.args.draft.now.fates c.make_way.new.draft.fates c.args.room.now.items c.make_way.new.room.items h from end (c.args.at / c.from-size.result) block (content_of h)))
    c.in-Some.is (c.in_ok-block.ensures.made h from end shown r has (subst (IsSeenWay (seen_in g.V.View.seen c.args.draft.now) h) (sym index) way)) in
    let come = made.come in
    let there = subst (λ made. IfSome made (λ block. HasBlock (seen_in g.V.View.seen c.make_way.new.draft) block)) c.in-Some.is c.in_ok-block.ensures.there in
    let ready = ready_after g.V.View.seen c.args.draft.now c.make_way.new.draft c.args.inode c.args.room.now.items c.make_way.new.room.items h from end (content_of h) c.in_ok-block.ensures.view shown r come in
    let place : c.args.at / c.from-size.result * h.size + c.args.at % c.from-size.result ≡ c.args.at
    = ap (λ n. c.args.at / c.from-size.result * n + c.args.at % c.from-size.result) (sym size) ∙ div-add-mod' c.args.at c.from-size.result in
    let inside = ready.0.within in
    let written = c.in_ok-put_content.ensures.written (with_cells h come.cell) (c.args.at / c.from-size.result) ready.0.file ready.1 ready.0.in_blocks (before_end (with_cells h come.cell) from end (c.args.at / c.from-size.result) ready.0.file ready.0.within has)
    made.is made.there (omega (arith, place, inside, high)) in
    let one = put_one g.V.View.seen c.make_way.new.draft c.put_content.new.draft c.args.inode (with_cells h come.cell) from end (c.args.at / c.from-size.result) c.in-Some.block (c.args.at % c.from-size.result) c.args.piece.now there.0 c.make_way.new.room.items there.1
    ready.1 ready.0 has (omega (arith, place, high)) (omega (arith, mod-lt c.args.at (let wide : 0 < c.from-size.result = omega (arith, some, size) in wide), size)) made.is made.there (c.in_ok-put_content.ensures.put there.0 there.1) written in
    let both = block_then (seen_in g.V.View.seen c.make_way.new.draft) (seen_in g.V.View.seen c.put_content.new.draft) c.args.draft.now.fates c.make_way.new.draft.fates c.put_content.new.draft.fates c.args.room.now.items c.make_way.new.room.items c.make_way.new.room.items
    h from end (c.args.at / c.from-size.result) c.in-Some.block (content_of h) _ (record { come = come; above = made.above }) one in (
      refl,
      (
        c.in-Some.block,
        subst (λ n. HasBlockAt (seen_in g.V.View.seen c.put_content.new.draft) c.args.draft.now.fates c.put_content.new.draft.fates c.args.room.now.items c.make_way.new.room.items h from end n c.in-Some.block (overwritten c.args.at c.args.piece.now (content_of h))) index
            (subst (λ bytes. HasBlockAt (seen_in g.V.View.seen c.put_content.new.draft) c.args.draft.now.fates c.put_content.new.draft.fates c.args.room.now.items c.make_way.new.room.items h from end (c.args.at / c.from-size.result) c.in-Some.block bytes)
            (λ t. overwritten (place t) c.args.piece.now (come.content t)) both),
      ),
    )
