use Rattle.std.proofs.Common.{◌≡◌, ◌+◌, ◌*◌, ℕ, suc, sym, subst, ◌∙◌, arith}
use Rattle.gfs2_layout.specs.Inode.{span}
use Rattle.growth_laws.specs.Files.{with_cells}
use Rattle.growth_drafts.proofs.Following.{follows_draft, follows_two}
use Rattle.file_walks.specs.Walks.{LeadsNowhere}
use Rattle.file_cuts.specs.Progress.{HasCutTo}
use Rattle.file_cuts.proofs.Steps.{inside, one_freed, part_here, shown_now, start_here}
use Rattle.file_cuts.proofs.freeing.free_one.Goals as goal

pub returns-clause-gone : goal.returns-clause-gone
returns-clause-gone g c h old end level place a can reach stopped same some leads nowhere =
    let nowhere' : (low : ℕ) → level ≡ suc low → LeadsNowhere (with_cells h a.cell) c.args.stop.block = λ low e. nowhere low (e ∙ (let one : suc low ≡ low + 1 = omega arith in one)) in
    let shown = c.in_ok-free_block.ensures.freed (with_cells h a.cell) level (place * span h.size level) a.cut.file
    (shown_now g.V.View.seen old c.args.draft.now c.free_block.new.draft c.args.inode h end level place c.args.freed.now.items can reach a c.args.stop stopped same some leads)
    (start_here g.V.View.seen old c.args.draft.now c.free_block.new.draft c.args.inode h end level place c.args.freed.now.items can reach a c.args.stop stopped same some leads)
    (part_here g.V.View.seen old c.args.draft.now c.free_block.new.draft c.args.inode h end level place c.args.freed.now.items can reach a c.args.stop stopped same some leads)
    (inside g.V.View.seen old c.args.draft.now c.free_block.new.draft c.args.inode h end level place c.args.freed.now.items can reach a c.args.stop stopped same some leads)
    (λ below j up near. nowhere below up j near) in
    let one = one_freed g.V.View.seen old c.args.draft.now c.free_block.new.draft c.args.inode h end level place c.args.freed.now.items can reach a c.args.stop stopped same some leads nowhere' c.requires.there.0 c.requires.there.1
    (c.in_ok-free_block.ensures.put c.requires.there.0 c.requires.there.1) shown in
    subst (λ v. HasCutTo (g.V.View.seen v) old c.free_block.new.draft.fates h end level (place + 1) c.push.new.self.items) (sym c.in_ok-free_block.ensures.view)
    (subst (λ xs. HasCutTo (g.V.View.seen c.args.draft.now.view) old c.free_block.new.draft.fates h end level (place + 1) xs) (sym c.in_ok-push.ensures.items) one)

pub returns-clause-within : goal.returns-clause-within
returns-clause-within g c room from block =
    follows_draft (g.V.View.seen c.args.draft.now.view) c.args.inode room c.args.draft.now c.free_block.new.draft _ (c.in_ok-free_block.ensures.put c.requires.there.0 c.requires.there.1)
    (follows_two (g.V.View.seen c.args.draft.now.view) c.args.inode room c.args.draft.now.fates c.args.stop.pointer.from c.args.stop.block _ _ from block)

pub returns-clause-freed : goal.returns-clause-freed
returns-clause-freed g c = c.in_ok-push.ensures.items
