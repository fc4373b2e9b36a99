use Rattle.std.proofs.Common.{◌≡◌, ◌-◌, suc, [], refl, sym, subst, ◌∙◌, arith}
use Rattle.std.specs.Prelude.{Contains}
use Rattle.gfs2_layout.specs.Inode.{height_in}
use Rattle.glock_names.specs.Views.{HasBlock}
use Rattle.dinode_tree.specs.Below.{HasRows, AreAdded, IsUnderRow}
use Rattle.dinode_tree.specs.Broken.{IsBroken}
use Rattle.dinode_tree.specs.declared.below.Below.{Below}
use Rattle.dinode_tree.specs.declared.ways.Link.{Link}
use Rattle.dinode_tree.proofs.Dinodes.{height_same}
use Rattle.dinode_tree.proofs.Pointers.{shown_of}
use Rattle.dinode_tree.proofs.Rows.{leads_top, none_in, rows_first, rows_next, rows_done, none_below, none_seen, row_above, seen_first, seen_next}
use Rattle.dinode_tree.proofs.Stepping.{answer_at, needed_at, handed, handed_own}
use Rattle.dinode_tree.proofs.below.below_in.Goals as goal

pub returns-then-inode-eq0-clause-led : goal.returns-then-inode-eq0-clause-led
returns-then-inode-eq0-clause-led g c h shown p has = absurd (none_in _ p c.new.ensures.items has)

pub returns-then-inode-eq0-clause-all : goal.returns-then-inode-eq0-clause-all
returns-then-inode-eq0-clause-all g c h shown =
    let o = shown_of (g.V.View.seen c.args.view.now) h c.args.inode.now shown c.requires.seen in
    none_below h _ (sym (height_same h c.args.inode.now o) ∙ c.if-inode-eq0.true)

pub returns-then-inode-eq0-clause-there : goal.returns-then-inode-eq0-clause-there
returns-then-inode-eq0-clause-there g c = none_seen (g.V.View.seen c.args.view.now) _ c.new.ensures.items

pub returns-in_err-add_pointers-clause-damaged : goal.returns-in_err-add_pointers-clause-damaged
returns-in_err-add_pointers-clause-damaged g c h shown =
    let o = shown_of (g.V.View.seen c.args.view.now) h c.args.inode.now shown c.requires.seen in
    let high : height_in h ≡ suc (c.args.inode.now.dinode.height - 1) = sym (height_same h c.args.inode.now o) ∙ omega (arith, c.if-inode-eq0.false) in
    handed c.from_residual.result _ (IsBroken h) c.from_residual.ensures.1
    (c.in_err-add_pointers.ensures.damaged h o (λ k low some. leads_top h c.args.inode.now (c.args.inode.now.dinode.height - 1) k o high low some))

pub returns-in_err-add_pointers-clause-kept : goal.returns-in_err-add_pointers-clause-kept
returns-in_err-add_pointers-clause-kept g c =
    handed_own c.from_residual.result (g.V.View.seen c.args.view.now) c.args.inode.now.block c.args.inode.now.bytes.now _ c.from_residual.ensures.1 c.requires.seen.bytes c.in_err-add_pointers.ensures.own

pub loop-level-init : goal.loop-level-init
loop-level-init g c = record {
  low = omega (arith, c.if-inode-eq0.false);
  above = row_above _ _ _ c.new-2.ensures.items c.in_ok-add_pointers.ensures.added;
  seen = seen_first (g.V.View.seen c.args.view.now) _ _ _ _ _ c.new.ensures.items (c.args.inode.now.bytes.now, c.requires.seen.bytes) c.in_ok-add_pointers.ensures.added;
  rows = λ h shown.
      let o = shown_of (g.V.View.seen c.args.view.now) h c.args.inode.now shown c.requires.seen in
      let high : height_in h ≡ suc (c.args.inode.now.dinode.height - 1) = sym (height_same h c.args.inode.now o) ∙ omega (arith, c.if-inode-eq0.false) in
      rows_first h c.args.inode.now (c.args.inode.now.dinode.height - 1) o high _ _ c.new.ensures.items c.new-2.ensures.items c.in_ok-add_pointers.ensures.added;
}

-- the links that are gone over are among those that were found last
pub add_row-requires-clause-above : goal.add_row-requires-clause-above
add_row-requires-clause-above g c l has =
    let same : c.deref.result.now ≡ c.in_ok-row.row.items = c.deref.ensures.value in
    let was : c.replace.result.items ≡ c.loop-level.below.row.items = cc (c.replace.ensures.value) in
    let only : (l : Link) → Contains c.deref.result.now l → Contains c.loop-level.below.row.items l =
    λ m there. subst (λ xs. Contains xs m) was (c.in_ok-row.ensures.only m (subst (λ xs. Contains xs m) same there)) in
    c.loop-level.invariant.above l (only l has)

pub returns-in_err-add_row-clause-damaged : goal.returns-in_err-add_row-clause-damaged
returns-in_err-add_row-clause-damaged g c h shown =
    let same : c.deref.result.now ≡ c.in_ok-row.row.items = c.deref.ensures.value in
    let was : c.replace.result.items ≡ c.loop-level.below.row.items = cc (c.replace.ensures.value) in
    let only : (l : Link) → Contains c.deref.result.now l → Contains c.loop-level.below.row.items l =
    λ l has. subst (λ xs. Contains xs l) was (c.in_ok-row.ensures.only l (subst (λ xs. Contains xs l) same has)) in
    handed c.from_residual-in_err-add_row.result _ (IsBroken h) c.from_residual-in_err-add_row.ensures.1
    (c.in_err-add_row.ensures.damaged h shown (λ l has. ((c.loop-level.invariant.rows h shown).led l (only l has)).0))

pub returns-in-NeedBlock-clause-needed : goal.returns-in-NeedBlock-clause-needed
returns-in-NeedBlock-clause-needed g c h shown =
    let same : c.deref.result.now ≡ c.in_ok-row.row.items = c.deref.ensures.value in
    let was : c.replace.result.items ≡ c.loop-level.below.row.items = cc (c.replace.ensures.value) in
    let only : (l : Link) → Contains c.deref.result.now l → Contains c.loop-level.below.row.items l =
    λ l has. subst (λ xs. Contains xs l) was (c.in_ok-row.ensures.only l (subst (λ xs. Contains xs l) same has)) in
    needed_at c.in_ok-add_row.field-0 c.in-NeedBlock.missing _ c.in-NeedBlock.is
    (c.in_ok-add_row.ensures.needed h shown (λ l has. ((c.loop-level.invariant.rows h shown).led l (only l has)).0))

pub loop-level-preserved : goal.loop-level-preserved
loop-level-preserved g c =
    let v = g.V.View.seen c.args.view.now in
    let same : c.deref.result.now ≡ c.in_ok-row.row.items = c.deref.ensures.value in
    let was : c.replace.result.items ≡ c.loop-level.below.row.items = cc (c.replace.ensures.value) in
    let only : (l : Link) → Contains c.deref.result.now l → Contains c.loop-level.below.row.items l =
    λ l has. subst (λ xs. Contains xs l) was (c.in_ok-row.ensures.only l (subst (λ xs. Contains xs l) same has)) in
    let each : (l : Link) → Contains c.loop-level.below.row.items l → (m : Link) × Contains c.deref.result.now m × (m.block ≡ l.block) =
    λ l has.
    let found = c.in_ok-row.ensures.each l (subst (λ xs. Contains xs l) (sym was) has) in
    (found.0, subst (λ xs. Contains xs found.0) (sym same) found.1, found.2) in
    let empty : c.replace.new.dest.items ≡ [] = cc (c.replace.ensures.after, c.new-in-loop-level.ensures.items) in
    let before : Below = record { found = c.loop-level.below.found; row = c.replace.new.dest } in
    let added : AreAdded before c.add_row.new.below (IsUnderRow v c.deref.result.now) = answer_at _ _ _ c.in-Is.is c.in_ok-add_row.ensures.added in
    let there : (l : Link) → Contains c.deref.result.now l → HasBlock v l.block = answer_at _ _ _ c.in-Is.is c.in_ok-add_row.ensures.there in
    record {
      low = omega (arith, c.loop-level.invariant.low);
      above = row_above before c.add_row.new.below (IsUnderRow v c.deref.result.now) empty added;
      seen = seen_next v before c.add_row.new.below c.deref.result.now c.loop-level.invariant.seen added;
      rows = λ h shown.
          let o = shown_of v h c.args.inode.now shown c.requires.seen in
          rows_next v h c.args.inode.now.block c.loop-level.level c.loop-level.below c.deref.result.now shown c.block_size-size.ensures.view (omega (arith, c.loop-level-test.true))
          (omega (arith, c.loop-level.invariant.low, height_same h c.args.inode.now o)) (c.loop-level.invariant.rows h shown) only each there before c.add_row.new.below refl empty added;
    }

pub returns-clause-led : goal.returns-clause-led
returns-clause-led g c h shown = (c.loop-level.invariant.rows h shown).only

pub returns-clause-all : goal.returns-clause-all
returns-clause-all g c h shown =
    let done : c.loop-level.level ≡ 0 = omega (arith, c.loop-level-test.false) in
    rows_done h c.loop-level.below (subst (λ n. HasRows h n c.loop-level.below) done (c.loop-level.invariant.rows h shown))
