use Rattle.std.proofs.Common.{◌≢◌, ℕ, [], ◌∷◌, sym, subst}
use Rattle.std.specs.Prelude.{Contains, IfNone, IfSome}
use Rattle.gfs2_layout.specs.Holding.{Holding}
use Rattle.glock_names.specs.Steps.{IfIs}
use Rattle.move_ends.specs.Shown.{IsShown}
use Rattle.name_moves.specs.Way.{IsOnWay, IsRightWay}
use Rattle.move_calls.specs.Checks.{IsOnItsWay}
use Rattle.move_calls.proofs.OnWays.{found_on, needed_on, none_on, right_on, wrong_on}
use Rattle.move_calls.proofs.ways.block_on.Goals as goal

pub returns-clause-some : goal.returns-clause-some
returns-clause-some g c m way =
    let v = g.V.View.seen c.args.view.now in
    let r = c.block_on_way.result in
    subst (λ xs. IfIs r (λ found. IfSome found (λ b. Contains xs b × IsOnItsWay v m b))) (sym c.in-Some.ensures.cases.0)
    (found_on v c.args.dir c.args.name.now (c.in-Some.first.now ∷ c.in-Some.rest.now) c.is_a_view.ensures r m way c.block_on_way.ensures.some)

pub returns-clause-none : goal.returns-clause-none
returns-clause-none g c =
    let v = g.V.View.seen c.args.view.now in
    let r = c.block_on_way.result in
    subst (λ xs. IfIs r (λ found. IfNone found ((b : ℕ) → Contains xs b → (h : Holding) → IsShown v c.args.dir h → IsOnWay h c.args.name.now b → ⊥))) (sym c.in-Some.ensures.cases.0)
    (none_on v c.args.dir c.args.name.now (c.in-Some.first.now ∷ c.in-Some.rest.now) c.is_a_view.ensures r c.block_on_way.ensures.none)

pub returns-clause-right : goal.returns-clause-right
returns-clause-right g c h shown =
    let v = g.V.View.seen c.args.view.now in
    let r = c.block_on_way.result in
    subst (λ xs. IfIs r (λ found. IfNone found (xs ≢ [] → IsRightWay v h c.args.name.now xs))) (sym c.in-Some.ensures.cases.0)
    (right_on v c.args.dir c.args.name.now (c.in-Some.first.now ∷ c.in-Some.rest.now) c.is_a_view.ensures r h (c.block_on_way.ensures.none h shown))

pub returns-clause-needed : goal.returns-clause-needed
returns-clause-needed g c m way =
    needed_on (g.V.View.seen c.args.view.now) c.args.dir c.args.name.now c.args.blocks.now c.is_a_view.ensures c.block_on_way.result m way c.block_on_way.ensures.needed c.block_on_way.ensures.absent

pub returns-clause-damaged : goal.returns-clause-damaged
returns-clause-damaged g c m way = wrong_on (g.V.View.seen c.args.view.now) c.args.dir c.args.name.now c.args.blocks.now c.is_a_view.ensures c.block_on_way.result m way c.block_on_way.ensures.damaged
