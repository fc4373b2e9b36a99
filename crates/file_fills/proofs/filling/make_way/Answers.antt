use Rattle.std.proofs.Common.{◌≡◌, [], ◌∷◌, ◌<◌, length, Contains, refl, sym, subst, ◌∙◌, arith}
use Rattle.drafts.specs.Fates.{seen_in}
use Rattle.gfs2_layout.specs.Inode.{content_of}
use Rattle.dinode_tree.specs.Shown.{IsShown}
use Rattle.growth_laws.specs.Files.{with_cells}
use Rattle.growth_drafts.specs.Touched.{Follows, as_it_was}
use Rattle.growth_drafts.proofs.Following.{follows_then}
use Rattle.growth_drafts.proofs.Rooms.{none_in}
use Rattle.file_fills.specs.Filling.{IsRoomFor}
use Rattle.file_fills.specs.Progress.{HasGone}
use Rattle.file_fills.proofs.Further.{further_none}
use Rattle.file_fills.proofs.Stepped.{content_at_stop, gone_then, place_of_bytes, ready_after, room_left}
use Rattle.file_fills.proofs.Touching.{behind, reached_block, reached_from}
use Rattle.file_fills.proofs.filling.make_way.Goals as goal

pub loop-stop-init : goal.loop-stop-init
loop-stop-init g c = record {
  view = refl;
  left = λ b has. has;
  within = as_it_was c.args.draft.now.fates;
  come = λ h at end shown r has way. record {
    come = record {
      cell = h.cell;
      taken = [];
      shown = subst (λ a. IsShown (seen_in g.V.View.seen c.args.draft.now) a h) (sym shown.own) shown;
      further = further_none c.args.draft.now.fates h at end r.file;
      from_front = refl;
      content = refl;
    };
    above = λ b level first none. absurd (none_in b none);
  };
}

pub returns-then-stop-ne0-clause-made : goal.returns-then-stop-ne0-clause-made
returns-then-stop-ne0-clause-made g c h at end shown r has way =
    let gone = c.loop-stop.invariant.come h at end shown r has way in
    let come = gone.come in
    let ready = ready_after g.V.View.seen c.args.draft.now c.loop-stop.draft c.args.inode c.args.room.now.items c.loop-stop.room.items h at end (content_of h) c.loop-stop.invariant.view shown r come in
    let place = place_of_bytes (with_cells h come.cell) at end c.args.index ready.0.file ready.0.in_blocks ready.0.within has in
    let stopped = c.in-Some.ensures.found (with_cells h come.cell) ready.0.file ready.1 place (ready.2 c.args.index way) in
    record { come = come; above = gone.above; there = c.if-stop-ne0.true; is = content_at_stop (with_cells h come.cell) c.args.index c.in-Some.stop stopped c.if-stop-ne0.true }

pub returns-in_default-pop_front-clause-made : goal.returns-in_default-pop_front-clause-made
returns-in_default-pop_front-clause-made g c h at end shown r has way =
    let gone = c.loop-stop.invariant.come h at end shown r has way in
    let come = gone.come in
    let ready = ready_after g.V.View.seen c.args.draft.now c.loop-stop.draft c.args.inode c.args.room.now.items c.loop-stop.room.items h at end (content_of h) c.loop-stop.invariant.view shown r come in
    let place = place_of_bytes (with_cells h come.cell) at end c.args.index ready.0.file ready.0.in_blocks ready.0.within has in
    let stopped = c.in-Some.ensures.found (with_cells h come.cell) ready.0.file ready.1 place (ready.2 c.args.index way) in
    let some : 0 < length c.loop-stop.room.items = room_left (with_cells h come.cell) at end c.args.index c.in-Some.stop c.loop-stop.room.items ready.0 has stopped c.if-stop-ne0.false in
    omega (arith, some, c.in_default-pop_front.ensures.cases.0)

pub loop-stop-preserved : goal.loop-stop-preserved
loop-stop-preserved g c = record {
  view = c.in_ok-fill_one.ensures.view ∙ c.loop-stop.invariant.view;
  left = λ b has. c.loop-stop.invariant.left b (subst (λ xs. Contains xs b) (sym c.in-Some-pop_front.ensures.items) (behind c.in-Some-pop_front.block c.pop_front.new.self.items b has));
  within =
      let items : c.loop-stop.room.items ≡ c.in-Some-pop_front.block ∷ c.pop_front.new.self.items = c.in-Some-pop_front.ensures.items in
      let first : Contains c.loop-stop.room.items c.in-Some-pop_front.block = subst (λ xs. Contains xs c.in-Some-pop_front.block) (sym items) (0, omega arith, refl) in
      follows_then (g.V.View.seen c.args.draft.now.view) c.args.inode c.args.room.now.items _ _ _ c.loop-stop.invariant.within
      (subst (λ v. Follows (g.V.View.seen v) c.args.inode c.args.room.now.items c.loop-stop.draft.fates c.fill_one.new.draft.fates) c.loop-stop.invariant.view
      (c.in_ok-fill_one.ensures.within c.args.room.now.items (reached_from (seen_in g.V.View.seen c.loop-stop.draft) c.args.inode c.args.room.now.items c.in-Some.stop.pointer.from c.in-Some.ensures.from) (c.loop-stop.invariant.left c.in-Some-pop_front.block first)));
  come = λ h at end shown r has way.
      let gone = c.loop-stop.invariant.come h at end shown r has way in
      let come = gone.come in
      let ready = ready_after g.V.View.seen c.args.draft.now c.loop-stop.draft c.args.inode c.args.room.now.items c.loop-stop.room.items h at end (content_of h) c.loop-stop.invariant.view shown r come in
      let place = place_of_bytes (with_cells h come.cell) at end c.args.index ready.0.file ready.0.in_blocks ready.0.within has in
      let stopped = c.in-Some.ensures.found (with_cells h come.cell) ready.0.file ready.1 place (ready.2 c.args.index way) in
      let items : c.loop-stop.room.items ≡ c.in-Some-pop_front.block ∷ c.pop_front.new.self.items = c.in-Some-pop_front.ensures.items in
      let one = c.in_ok-fill_one.ensures.filled (with_cells h come.cell) at end c.args.index c.pop_front.new.self.items ready.1 (subst (IsRoomFor (with_cells h come.cell) at end) items ready.0) has stopped c.if-stop-ne0.false in
      let then_one = subst (λ xs. HasGone (seen_in g.V.View.seen c.fill_one.new.draft) c.loop-stop.draft.fates c.fill_one.new.draft.fates xs c.pop_front.new.self.items (with_cells h come.cell) at end c.args.index (content_of (with_cells h come.cell))) (sym items) one in
      subst (λ bytes. HasGone (seen_in g.V.View.seen c.fill_one.new.draft) c.args.draft.now.fates c.fill_one.new.draft.fates c.args.room.now.items c.pop_front.new.self.items h at end c.args.index bytes) come.content
      (gone_then (seen_in g.V.View.seen c.loop-stop.draft) (seen_in g.V.View.seen c.fill_one.new.draft) c.args.draft.now.fates c.loop-stop.draft.fates c.fill_one.new.draft.fates c.args.room.now.items c.loop-stop.room.items c.pop_front.new.self.items
      h at end c.args.index (content_of h) (content_of (with_cells h come.cell)) gone then_one);
}

pub returns-clause-made : goal.returns-clause-made
returns-clause-made g c h at end shown r has way =
    let gone = c.loop-stop.invariant.come h at end shown r has way in
    let come = gone.come in
    let ready = ready_after g.V.View.seen c.args.draft.now c.loop-stop.draft c.args.inode c.args.room.now.items c.loop-stop.room.items h at end (content_of h) c.loop-stop.invariant.view shown r come in
    let place = place_of_bytes (with_cells h come.cell) at end c.args.index ready.0.file ready.0.in_blocks ready.0.within has in
    c.in_default.ensures.found (with_cells h come.cell) ready.0.file ready.1 place (ready.2 c.args.index way)

pub returns-then-stop-ne0-clause-reached : goal.returns-then-stop-ne0-clause-reached
returns-then-stop-ne0-clause-reached g c =
    reached_block (seen_in g.V.View.seen c.loop-stop.draft) c.args.inode c.args.room.now.items c.args.index c.in-Some.stop c.if-stop-ne0.true c.in-Some.ensures.leads
