use Rattle.std.proofs.Common.{◌≡◌, ℕ, sym, subst, ◌∙◌}
use Rattle.std.specs.Prelude.{Contains}
use Rattle.glock_names.specs.Views.{HasBlock}
use Rattle.dinode_tree.specs.Below.{IsBelow, IsLedFrom, TellsOfBlock}
use Rattle.dinode_tree.specs.declared.below.PointedBlock.{PointedBlock}
use Rattle.dinode_tree.specs.Shown.{IsShown}
use Rattle.dinode_tree.proofs.Stepping.{answer_at, needed_at}
use Rattle.dinode_tree.proofs.below.blocks_below.Goals as goal

pub returns-in_ok-rising-in-Is-2-clause-led : goal.returns-in_ok-rising-in-Is-2-clause-led
returns-in_ok-rising-in-Is-2-clause-led g c h shown p has =
    let at = answer_at c.in_ok-inode.field-0 c.in-Is.inode (λ inode. inode.block ≡ c.args.dinode) c.in-Is.is c.in_ok-inode.ensures.block in
    let shown_there = subst (λ a. IsShown (g.V.View.seen c.args.view.now) a h) (sym at) shown in
    answer_at c.in_ok-found.field-0 c.in-Is-2.found (λ blocks. (q : PointedBlock) → Contains blocks.items q → IsLedFrom h q.from q.block) c.in-Is-2.is (c.in_ok-found.ensures.led h shown_there) p
    (c.in_ok-rising-in-Is-2.ensures.only p has)

pub returns-in_ok-rising-in-Is-2-clause-all : goal.returns-in_ok-rising-in-Is-2-clause-all
returns-in_ok-rising-in-Is-2-clause-all g c h shown b below =
    let at = answer_at c.in_ok-inode.field-0 c.in-Is.inode (λ inode. inode.block ≡ c.args.dinode) c.in-Is.is c.in_ok-inode.ensures.block in
    let shown_there = subst (λ a. IsShown (g.V.View.seen c.args.view.now) a h) (sym at) shown in
    let told : TellsOfBlock c.in-Is-2.found.items b =
    answer_at c.in_ok-found.field-0 c.in-Is-2.found (λ blocks. (b : ℕ) → IsBelow h b → TellsOfBlock blocks.items b) c.in-Is-2.is (c.in_ok-found.ensures.all h shown_there) b below in
    let kept = c.in_ok-rising-in-Is-2.ensures.each told.0 told.1 in
    (kept.0, kept.1, kept.2 ∙ told.2)

pub returns-in_ok-rising-in-Is-2-clause-there : goal.returns-in_ok-rising-in-Is-2-clause-there
returns-in_ok-rising-in-Is-2-clause-there g c p has =
    answer_at c.in_ok-found.field-0 c.in-Is-2.found (λ blocks. (q : PointedBlock) → Contains blocks.items q → HasBlock (g.V.View.seen c.args.view.now) q.from) c.in-Is-2.is c.in_ok-found.ensures.there p
    (c.in_ok-rising-in-Is-2.ensures.only p has)

pub returns-in-NeedBlock-2-clause-needed : goal.returns-in-NeedBlock-2-clause-needed
returns-in-NeedBlock-2-clause-needed g c h shown =
    let at = answer_at c.in_ok-inode.field-0 c.in-Is.inode (λ inode. inode.block ≡ c.args.dinode) c.in-Is.is c.in_ok-inode.ensures.block in
    let shown_there = subst (λ a. IsShown (g.V.View.seen c.args.view.now) a h) (sym at) shown in
    needed_at c.in_ok-found.field-0 c.in-NeedBlock-2.missing _ c.in-NeedBlock-2.is (c.in_ok-found.ensures.needed h shown_there)
