use Rattle.std.proofs.Common.{◌≡◌, ◌+◌, ◌-◌, ◌%◌, ◌≤◌, length, min, true, false, refl, sym, ap, subst, ◌∙◌, arith}
use Rattle.drafts.specs.Fates.{seen_in}
use Rattle.growth_drafts.specs.Touched.{Follows, as_it_was}
use Rattle.growth_drafts.proofs.Following.{follows_then, follows_wider}
use Rattle.file_fills.proofs.Pieces.{piece_step, pieces_done, pieces_none}
use Rattle.file_fills.proofs.filling.write_pieces.Goals as goal

pub loop-written-init : goal.loop-written-init
loop-written-init g c = record {
  view = refl;
  left = λ b has. has;
  touched = as_it_was c.args.draft.now.fates;
  within = (let low : 0 ≤ length c.args.bytes.now = omega arith in low);
  so_far = λ h shown r ways.
      pieces_none g.V.View.seen c.args.draft.now c.args.inode c.args.room.now.items h c.args.at (c.args.at + length c.args.bytes.now) c.args.bytes.now shown r (let low : c.args.at ≤ c.args.at + length c.args.bytes.now = omega arith in low);
}

pub returns-then-not-branch-clause-written : goal.returns-then-not-branch-clause-written
returns-then-not-branch-clause-written g c h shown r ways =
    let size : c.block_size-size.result ≡ h.size = c.block_size-size.ensures.value ∙ sym shown.size in
    let step = piece_step g.V.View.seen c.args.draft.now c.loop-written.draft c.write_piece.new.draft c.args.inode c.args.room.now.items c.loop-written.room.items c.write_piece.new.room.items h c.args.at c.loop-written.written c.min-next.result c.args.bytes.now _
    c.in_ok-write_piece.field-0 c.loop-written.invariant.view shown r ways c.loop-written-test.true
    (c.min-next.ensures ∙ ap (λ m. min (length c.args.bytes.now) (c.loop-written.written + (m - (c.args.at + c.loop-written.written) % m))) size) refl (c.loop-written.invariant.so_far h shown r ways) c.in_ok-write_piece.ensures.written in
    let both : true ≡ false = sym step.0 ∙ c.if-not-branch.true in
    absurd (cc)

pub loop-written-preserved : goal.loop-written-preserved
loop-written-preserved g c = record {
  view = c.in_ok-write_piece.ensures.view ∙ c.loop-written.invariant.view;
  within = omega (arith, c.min-next.ensures);
  left = λ b has. c.loop-written.invariant.left b (c.in_ok-write_piece.ensures.room b has);
  touched = follows_then (g.V.View.seen c.args.draft.now.view) c.args.inode c.args.room.now.items _ _ _ c.loop-written.invariant.touched
      (subst (λ v. Follows (g.V.View.seen v) c.args.inode c.args.room.now.items c.loop-written.draft.fates c.write_piece.new.draft.fates) c.loop-written.invariant.view
      (follows_wider (g.V.View.seen c.loop-written.draft.view) c.args.inode c.loop-written.room.items c.args.room.now.items _ _ c.loop-written.invariant.left c.in_ok-write_piece.ensures.within));
  so_far = λ h shown r ways.
      let size : c.block_size-size.result ≡ h.size = c.block_size-size.ensures.value ∙ sym shown.size in
      (piece_step g.V.View.seen c.args.draft.now c.loop-written.draft c.write_piece.new.draft c.args.inode c.args.room.now.items c.loop-written.room.items c.write_piece.new.room.items h c.args.at c.loop-written.written c.min-next.result c.args.bytes.now _
      c.in_ok-write_piece.field-0 c.loop-written.invariant.view shown r ways c.loop-written-test.true
      (c.min-next.ensures ∙ ap (λ m. min (length c.args.bytes.now) (c.loop-written.written + (m - (c.args.at + c.loop-written.written) % m))) size) refl (c.loop-written.invariant.so_far h shown r ways) c.in_ok-write_piece.ensures.written).1;
}

pub returns-clause-written : goal.returns-clause-written
returns-clause-written g c h shown r ways = (
  refl,
  pieces_done (seen_in g.V.View.seen c.loop-written.draft) c.args.draft.now.fates c.loop-written.draft.fates c.args.room.now.items c.loop-written.room.items h c.args.at c.loop-written.written (c.args.at + length c.args.bytes.now) c.args.bytes.now
      r refl (let all : c.loop-written.written ≡ length c.args.bytes.now = omega (arith, c.loop-written.invariant.within, c.loop-written-test.false) in all) (c.loop-written.invariant.so_far h shown r ways),
)

pub returns-then-not-branch-clause-within : goal.returns-then-not-branch-clause-within
returns-then-not-branch-clause-within g c =
    follows_then (g.V.View.seen c.args.draft.now.view) c.args.inode c.args.room.now.items _ _ _ c.loop-written.invariant.touched
    (subst (λ v. Follows (g.V.View.seen v) c.args.inode c.args.room.now.items c.loop-written.draft.fates c.write_piece.new.draft.fates) c.loop-written.invariant.view
    (follows_wider (g.V.View.seen c.loop-written.draft.view) c.args.inode c.loop-written.room.items c.args.room.now.items _ _ c.loop-written.invariant.left c.in_ok-write_piece.ensures.within))
