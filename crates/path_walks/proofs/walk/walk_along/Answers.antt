use Rattle.std.proofs.Common.{◌≡◌, suc, ◌+◌, refl, sym, ap, subst, ◌∙◌, length, Some, slice_get, arith}
use Rattle.std.proofs.lemmas.Option.{slice_get-get_or}
use Rattle.dinode_tree.specs.Broken as inode
use Rattle.path_walks.specs.Walks.{IsVisited, IsStepped, IsDamage}
use Rattle.path_walks.proofs.Steps.{handed, fault_so, fault_all, fault_both}
use Rattle.path_walks.proofs.Walking.{IsAfter, wanted_at, begins, stops_at_root, root_tells, root_damages, root_sound, goes_on, ends, tells, damages, no_damage, arrives, arrival_tells}
use Rattle.path_walks.proofs.walk.walk_along.Goals as goal

pub returns-in_err-end-clause-sound : goal.returns-in_err-end-clause-sound
returns-in_err-end-clause-sound g c im o l t of =
    let v = g.V.View.seen c.args.view.now in
    handed _ _ _ c.from_residual.ensures.1 (fault_so _ (λ rule b. ⊥) (root_sound v im o l t of c.root-root.result c.root-root.ensures) c.in_err-end.field-0.0
    (fault_all v c.root-root.result inode.IsBroken c.in_err-end.field-0.0 c.in_err-end.ensures.damaged))

pub returns-in_err-end-clause-damaged : goal.returns-in_err-end-clause-damaged
returns-in_err-end-clause-damaged g c =
    let v = g.V.View.seen c.args.view.now in
    let wanted = wanted_at c.args.wants.now 0 c.state_at.result (omega (arith, c.requires.as_many)) c.state_at.ensures in
    handed _ _ _ c.from_residual.ensures.1 (fault_so _ (IsDamage v c.args.wants.now c.args.names.now)
    (root_damages v c.args.names.now c.args.wants.now c.requires.order c.state_at.result c.root-root.result wanted c.root-root.ensures) c.in_err-end.field-0.0
    (fault_both _ _ c.in_err-end.field-0.0 (fault_all v c.root-root.result inode.IsBroken c.in_err-end.field-0.0 c.in_err-end.ensures.damaged) c.in_err-end.ensures.held))

pub returns-in_default : goal.returns-in_default
returns-in_default g c =
    let v = g.V.View.seen c.args.view.now in
    let wanted = wanted_at c.args.wants.now 0 c.state_at.result (omega (arith, c.requires.as_many)) c.state_at.ensures in
    record {
      walked = stops_at_root v c.args.names.now c.args.wants.now c.requires.order c.state_at.result c.root-root.result c.in_ok-end.end wanted c.root-root.ensures c.in_ok-end.ensures.visited c.in_default.not-At;
      told = root_tells v c.args.names.now c.args.wants.now c.requires.order c.state_at.result c.root-root.result c.in_ok-end.end wanted c.root-root.ensures c.in_ok-end.ensures.visited c.in_default.not-At;
      sound = λ im o l t of. tt;
      damaged = tt;
      kept = tt;
    }

pub loop-name-init : goal.loop-name-init
loop-name-init g c =
    let v = g.V.View.seen c.args.view.now in
    record {
      depth = refl;
      after = begins v c.args.names.now c.args.wants.now c.requires.order c.state_at.result c.root-root.result c.in-At.place
          (wanted_at c.args.wants.now 0 c.state_at.result (omega (arith, c.requires.as_many)) c.state_at.ensures) c.root-root.ensures
          (subst (IsVisited v c.root-root.result c.root-root.result c.state_at.result) c.in-At.is c.in_ok-end.ensures.visited);
    }

pub returns-in_err-end-2-clause-sound : goal.returns-in_err-end-2-clause-sound
returns-in_err-end-2-clause-sound g c im o l t of =
    let v = g.V.View.seen c.args.view.now in
    let i = c.loop-name.name-index in
    let named = slice_get-get_or c.args.names.now i c.name-item.result c.loop-name-test.true ∙ ap Some (sym c.name-item.is) in
    handed _ _ _ c.from_residual-in_err-end-2.ensures.1 (fault_so _ (λ rule b. ⊥)
    (no_damage v c.args.names.now c.args.wants.now c.requires.order i c.name-item.result c.loop-name.place named c.loop-name.invariant.after c.in_err-end-2.ensures.named im o l t of
    c.state_at-in-loop-name.result)
    c.in_err-end-2.field-0.0 c.in_err-end-2.ensures.ahead)

pub returns-in_err-end-2-clause-damaged : goal.returns-in_err-end-2-clause-damaged
returns-in_err-end-2-clause-damaged g c =
    let v = g.V.View.seen c.args.view.now in
    let i = c.loop-name.name-index in
    let named = slice_get-get_or c.args.names.now i c.name-item.result c.loop-name-test.true ∙ ap Some (sym c.name-item.is) in
    let depth : c.loop-name.depth ≡ suc i = omega (arith, c.loop-name.invariant.depth) in
    let wanted = wanted_at c.args.wants.now (suc i) c.state_at-in-loop-name.result (omega (arith, c.requires.as_many, c.loop-name-test.true))
    (λ w at. c.state_at-in-loop-name.ensures w (ap (slice_get c.args.wants.now) depth ∙ at)) in
    handed _ _ _ c.from_residual-in_err-end-2.ensures.1 (fault_so _ (IsDamage v c.args.wants.now c.args.names.now)
    (damages v c.args.names.now c.args.wants.now c.requires.order i c.name-item.result c.loop-name.place named c.loop-name.invariant.after c.in_err-end-2.ensures.named
    c.state_at-in-loop-name.result wanted)
    c.in_err-end-2.field-0.0 c.in_err-end-2.ensures.ahead)

pub returns-in_default-2 : goal.returns-in_default-2
returns-in_default-2 g c =
    let v = g.V.View.seen c.args.view.now in
    let i = c.loop-name.name-index in
    let named = slice_get-get_or c.args.names.now i c.name-item.result c.loop-name-test.true ∙ ap Some (sym c.name-item.is) in
    let depth : c.loop-name.depth ≡ suc i = omega (arith, c.loop-name.invariant.depth) in
    let wanted = wanted_at c.args.wants.now (suc i) c.state_at-in-loop-name.result (omega (arith, c.requires.as_many, c.loop-name-test.true))
    (λ w at. c.state_at-in-loop-name.ensures w (ap (slice_get c.args.wants.now) depth ∙ at)) in
    record {
      walked = ends v c.args.names.now c.args.wants.now c.requires.order i c.name-item.result c.loop-name.place named c.loop-name.invariant.after c.in_ok-end-2.ensures.named
          c.state_at-in-loop-name.result c.in_ok-end-2.end wanted c.in_ok-end-2.ensures.stepped c.in_default-2.not-At;
      told = tells v c.args.names.now c.args.wants.now c.requires.order i c.name-item.result c.loop-name.place named c.loop-name.invariant.after c.in_ok-end-2.ensures.named
          c.state_at-in-loop-name.result c.in_ok-end-2.end wanted c.in_ok-end-2.ensures.stepped c.in_default-2.not-At;
      sound = λ im o l t of. tt;
      damaged = tt;
      kept = tt;
    }

pub loop-name-preserved : goal.loop-name-preserved
loop-name-preserved g c =
    let v = g.V.View.seen c.args.view.now in
    let i = c.loop-name.name-index in
    let named = slice_get-get_or c.args.names.now i c.name-item.result c.loop-name-test.true ∙ ap Some (sym c.name-item.is) in
    let depth : c.loop-name.depth ≡ suc i = omega (arith, c.loop-name.invariant.depth) in
    let next : suc i ≡ i + 1 = omega arith in
    let wanted = wanted_at c.args.wants.now (suc i) c.state_at-in-loop-name.result (omega (arith, c.requires.as_many, c.loop-name-test.true))
    (λ w at. c.state_at-in-loop-name.ensures w (ap (slice_get c.args.wants.now) depth ∙ at)) in
    record {
      depth = omega (arith, c.loop-name.invariant.depth);
      after = subst (λ n. IsAfter v c.args.names.now c.args.wants.now n c.in-At-2.place) next
          (goes_on v c.args.names.now c.args.wants.now c.requires.order i c.name-item.result c.loop-name.place named c.loop-name.invariant.after c.in_ok-end-2.ensures.named
          c.state_at-in-loop-name.result c.in-At-2.place wanted
          (subst (IsStepped v c.loop-name.place.inode c.name-item.result c.state_at-in-loop-name.result) c.in-At-2.is c.in_ok-end-2.ensures.stepped));
    }

pub returns-clause-walked : goal.returns-clause-walked
returns-clause-walked g c im o l t of =
    let v = g.V.View.seen c.args.view.now in
    let all : c.loop-name.name-index ≡ length c.args.names.now = omega (arith, c.loop-name-test.false, c.loop-name.auto.name-index-end) in
    arrives v c.args.names.now c.args.wants.now c.requires.order c.loop-name.place c.requires.as_many
    (subst (λ i. IsAfter v c.args.names.now c.args.wants.now i c.loop-name.place) all c.loop-name.invariant.after) im o l t of

pub returns-clause-told : goal.returns-clause-told
returns-clause-told g c =
    let v = g.V.View.seen c.args.view.now in
    let all : c.loop-name.name-index ≡ length c.args.names.now = omega (arith, c.loop-name-test.false, c.loop-name.auto.name-index-end) in
    arrival_tells v c.args.names.now c.args.wants.now c.requires.order c.loop-name.place (subst (λ i. IsAfter v c.args.names.now c.args.wants.now i c.loop-name.place) all c.loop-name.invariant.after)
