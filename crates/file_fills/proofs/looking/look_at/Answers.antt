use Rattle.std.proofs.Common.{◌≡◌, ◌⊎◌, ◌≤◌, IfSome, subst, sym, arith}
use Rattle.glock_names.specs.Views.{HasBlock}
use Rattle.glock_names.proofs.StepLaws.{answer_at, needed_at}
use Rattle.file_walks.specs.Walks.{AreSeenAbove, IsWalk, LeadsOn}
use Rattle.file_walks.specs.declared.walks.Stop.{Stop}
use Rattle.file_fills.proofs.Seeing.{needed_content, needed_wider, seen_nowhere, seen_way, under_self}
use Rattle.file_fills.proofs.looking.look_at.Goals as goal

pub returns-then-lacks-clause-needed : goal.returns-then-lacks-clause-needed
returns-then-lacks-clause-needed g c h shown regular =
    let leads = subst (λ found. IfSome found (LeadsOn h 0 c.args.index)) c.in-Is-Some.field-0-is
    (answer_at c.in_ok-stop.field-0 c.in-Is-Some.field-0 (λ found. IfSome found (LeadsOn h 0 c.args.index)) c.in-Is-Some.is (c.in_ok-stop.ensures.leads h shown)) in
    let ended = subst (λ found. IfSome found (λ (stop : Stop). (stop.level ≡ 0) ⊎ (stop.block ≡ 0))) c.in-Is-Some.field-0-is
    (answer_at c.in_ok-stop.field-0 c.in-Is-Some.field-0 (λ found. IfSome found (λ (stop : Stop). (stop.level ≡ 0) ⊎ (stop.block ≡ 0))) c.in-Is-Some.is c.in_ok-stop.ensures.ended) in
    needed_content (g.V.View.seen c.args.view.now) h c.args.inode c.args.index c.in-Is-Some.stop c.args.regular c.missing_content.result shown leads ended
    (c.lacks.ensures.some c.if-lacks.true) (c.lacks.ensures.absent c.if-lacks.true) regular c.missing_content.ensures

pub returns-else-lacks-clause-seen : goal.returns-else-lacks-clause-seen
returns-else-lacks-clause-seen g c h file shown =
    let found = subst (IsWalk h 0 c.args.index) c.in-Is-Some.field-0-is (answer_at c.in_ok-stop.field-0 c.in-Is-Some.field-0 (IsWalk h 0 c.args.index) c.in-Is-Some.is (c.in_ok-stop.ensures.found h file shown)) in
    let above = subst (λ found. IfSome found (AreSeenAbove (g.V.View.seen c.args.view.now) h 0 c.args.index)) c.in-Is-Some.field-0-is
    (answer_at c.in_ok-stop.field-0 c.in-Is-Some.field-0 (λ found. IfSome found (AreSeenAbove (g.V.View.seen c.args.view.now) h 0 c.args.index)) c.in-Is-Some.is (c.in_ok-stop.ensures.seen h file shown)) in
    let dinode = answer_at c.in_ok-stop.field-0 c.in-Is-Some.field-0 (λ found. HasBlock (g.V.View.seen c.args.view.now) c.args.inode) c.in-Is-Some.is c.in_ok-stop.ensures.dinode in
    seen_way (g.V.View.seen c.args.view.now) h c.args.index c.in-Is-Some.stop file (subst (HasBlock (g.V.View.seen c.args.view.now)) (sym shown.own) dinode) found.0 found.1 above
    (c.lacks.ensures.seen c.if-lacks.false)

pub returns-in-Is-None-clause-seen : goal.returns-in-Is-None-clause-seen
returns-in-Is-None-clause-seen g c h file shown =
    let found = subst (IsWalk h 0 c.args.index) c.in-Is-None.field-0-is (answer_at c.in_ok-stop.field-0 c.in-Is-None.field-0 (IsWalk h 0 c.args.index) c.in-Is-None.is (c.in_ok-stop.ensures.found h file shown)) in
    let dinode = answer_at c.in_ok-stop.field-0 c.in-Is-None.field-0 (λ found. HasBlock (g.V.View.seen c.args.view.now) c.args.inode) c.in-Is-None.is c.in_ok-stop.ensures.dinode in
    seen_nowhere (g.V.View.seen c.args.view.now) h c.args.index file (subst (HasBlock (g.V.View.seen c.args.view.now)) (sym shown.own) dinode) found

pub returns-in-NeedBlock-clause-needed : goal.returns-in-NeedBlock-clause-needed
returns-in-NeedBlock-clause-needed g c h shown regular =
    needed_wider (g.V.View.seen c.args.view.now) h (λ x. x ≡ c.args.index) (λ x. x ≡ c.args.index) 1 0 (λ i e. e) (let low : 0 ≤ 1 = omega arith in low) _
    (needed_at c.in_ok-stop.field-0 c.in-NeedBlock.missing _ c.in-NeedBlock.is (c.in_ok-stop.ensures.needed h c.args.index shown (under_self h c.args.index)))
