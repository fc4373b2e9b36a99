use Rattle.std.proofs.Common.{◌≡◌, ◌+◌, ◌≤◌, ◌∷◌, length, refl, sym, ap, subst, ◌∙◌, arith}
use Rattle.std.proofs.lemmas.List.Elements.{Contains-append_right}
use Rattle.std.specs.Prelude.{Contains, []}
use Rattle.drafts.specs.Fates.{seen_in}
use Rattle.gfs2_layout.specs.Holding.{Holding}
use Rattle.gfs2_layout.specs.declared.dinode.Dinode.{Dinode}
use Rattle.dinode_tree.specs.Shown.{IsShown}
use Rattle.growth_laws.specs.Files.{with_cells}
use Rattle.growth_drafts.specs.Taken.{AreFreeFor}
use Rattle.growth_drafts.specs.Touched.{Follows, as_it_was}
use Rattle.growth_drafts.proofs.Following.{follows_then, follows_wider}
use Rattle.file_heights.specs.Grown.{HasRisen}
use Rattle.file_heights.proofs.Joining.{has_risen_none, has_risen_then, room_left}
use Rattle.file_heights.proofs.Rising.{first_is_new}
use Rattle.file_heights.proofs.heights.raise_to.Goals as goal

pub loop-high-init : goal.loop-high-init
loop-high-init g c = record {
  view = refl;
  still = c.requires.there;
  same = refl;
  least = omega arith;
  most = c.requires.higher;
  levels = refl;
  left = λ b has. has;
  within = as_it_was c.args.draft.now.fates;
  come = λ h file shown d_is has free. has_risen_none (seen_in g.V.View.seen c.args.draft.now) c.args.draft.now.fates c.args.inode c.args.room.now.items h c.args.dinode.now file shown d_is;
}

pub loop-high-preserved : goal.loop-high-preserved
loop-high-preserved g c =
    let items : c.loop-high.room.items ≡ c.in-Some.block ∷ c.pop_front.new.self.items = c.in-Some.ensures.items in
    let long : length c.loop-high.room.items ≡ length c.pop_front.new.self.items + 1 = ap length items ∙ (let one : length (c.in-Some.block ∷ c.pop_front.new.self.items) ≡ length c.pop_front.new.self.items + 1 = omega arith in one) in
    record {
      view = c.in_ok-raise_once.ensures.view ∙ c.loop-high.invariant.view;
      still = c.in_ok-raise_once.ensures.still;
      same = ap (λ (d : Dinode). record d { height = c.loop-high.high.height + 1 }) c.loop-high.invariant.same;
      least = omega (arith, c.loop-high.invariant.least);
      most = omega (arith, c.loop-high-test.true);
      levels = omega (arith, long, c.loop-high.invariant.levels);
      left = λ b has. c.loop-high.invariant.left b (subst (λ xs. Contains xs b) (sym items) (Contains-append_right (c.in-Some.block ∷ []) c.pop_front.new.self.items b has));
      within = follows_then (g.V.View.seen c.args.draft.now.view) c.args.inode c.args.room.now.items _ _ _ c.loop-high.invariant.within
          (subst (λ v. Follows (g.V.View.seen v) c.args.inode c.args.room.now.items c.loop-high.draft.fates c.raise_once.new.draft.fates) c.loop-high.invariant.view
          (follows_wider (g.V.View.seen c.loop-high.draft.view) c.args.inode (c.in-Some.block ∷ c.pop_front.new.self.items) c.args.room.now.items _ _ (λ b has. c.loop-high.invariant.left b (subst (λ xs. Contains xs b) (sym items) has))
          (c.in_ok-raise_once.ensures.within c.pop_front.new.self.items)));
      come = λ h file shown d_is has free.
          let come = c.loop-high.invariant.come h file shown d_is has free in
          let mid : Holding = with_cells h come.cell in
          let free_mid : AreFreeFor (with_cells h come.cell) (c.in-Some.block ∷ c.pop_front.new.self.items) = subst (AreFreeFor (with_cells h come.cell)) items (room_left _ _ _ _ _ h _ _ free come) in
          let shown_mid = subst (λ a. IsShown (seen_in g.V.View.seen c.loop-high.draft) a (with_cells h come.cell)) shown.own come.shown in
          let one = c.in_ok-raise_once.ensures.risen (with_cells h come.cell) c.pop_front.new.self.items come.risen.grown.file shown_mid come.dinode (come.risen.along ∙ has) (first_is_new (with_cells h come.cell) c.in-Some.block c.pop_front.new.self.items free_mid) in
          has_risen_then (seen_in g.V.View.seen c.loop-high.draft) (seen_in g.V.View.seen c.raise_once.new.draft) c.args.draft.now.fates c.loop-high.draft.fates c.raise_once.new.draft.fates c.args.room.now.items c.loop-high.room.items c.pop_front.new.self.items h
          c.loop-high.high.height (c.loop-high.high.height + 1) c.loop-high.high _ (omega (arith, c.loop-high.invariant.least, ap (λ (d : Dinode). d.height) d_is)) (let up : c.loop-high.high.height ≤ c.loop-high.high.height + 1 = omega arith in up) come
          (subst (λ xs. HasRisen (seen_in g.V.View.seen c.raise_once.new.draft) c.loop-high.draft.fates c.raise_once.new.draft.fates xs c.pop_front.new.self.items (with_cells h come.cell) (c.loop-high.high.height + 1) (record c.loop-high.high { height = c.loop-high.high.height + 1 })) (sym items) one);
    }

pub returns-clause-risen : goal.returns-clause-risen
returns-clause-risen g c h file shown d_is has free enough =
    let top : c.loop-high.high.height ≡ c.args.height = omega (arith, c.loop-high.invariant.most, c.loop-high-test.false) in
    subst (λ n. HasRisen (seen_in g.V.View.seen c.loop-high.draft) c.args.draft.now.fates c.loop-high.draft.fates c.args.room.now.items c.loop-high.room.items h n c.loop-high.high) top
    (c.loop-high.invariant.come h file shown d_is has free)
