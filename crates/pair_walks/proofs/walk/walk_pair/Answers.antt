use Rattle.std.proofs.Common.{◌+◌, ◌<◌, ap₂, sym, subst, ◌∙◌}
use Rattle.std.specs.Prelude.{IfNone, IfSome}
use Rattle.file_tree.specs.Names.{leads_to}
use Rattle.path_walks.proofs.Steps.{fault_so, handed}
use Rattle.pair_walks.specs.Walks.{IsPairDamage, IsPairTold, IsPairWalked}
use Rattle.pair_walks.specs.Ways.{AreUnderway, left_on}
use Rattle.pair_walks.specs.declared.next.Next.TheVariants as next
use Rattle.pair_walks.proofs.Beginning.{begun}
use Rattle.pair_walks.proofs.Telling.{both_on, so_of}
use Rattle.pair_walks.proofs.walk.walk_pair.Goals as goal

pub loop-end-init : goal.loop-end-init
loop-end-init g c =
    let v = g.V.View.seen c.args.view.now in
    let at_root = ap₂ next.Inode c.root-root.ensures c.root-root.ensures in
    record {
      underway = both_on v c.begin-one.result c.begin-two.result c.args.first.now c.args.second.now c.args.first_wants.now c.args.second_wants.now 0 0 (next.Inode v.root v.root) (next.Inode v.root v.root)
          c.begin-one.ensures.names c.begin-one.ensures.wants c.begin-one.ensures.depth (c.begin-one.ensures.next ∙ at_root)
          c.begin-two.ensures.names c.begin-two.ensures.wants c.begin-two.ensures.depth (c.begin-two.ensures.next ∙ at_root)
          (begun v c.args.first.now c.args.second.now c.args.first_wants.now c.args.second_wants.now c.requires.first_names c.requires.second_names c.requires.first_as_many c.requires.second_as_many
          c.requires.first_order c.requires.second_order);
      first = c.begin-one.ensures.names;
      second = c.begin-two.ensures.names;
      first_wants = c.begin-one.ensures.wants;
      second_wants = c.begin-two.ensures.wants;
    }

pub go-requires-clause-underway : goal.go-requires-clause-underway
go-requires-clause-underway g c = c.loop-end.invariant.underway

pub go-requires-clause-ends : goal.go-requires-clause-ends
go-requires-clause-ends g c = c.goes_on-ends.ensures ∙ ap₂ leads_to (sym c.loop-end.invariant.first) (sym c.loop-end.invariant.second)

pub returns-in_err-end-clause-damaged : goal.returns-in_err-end-clause-damaged
returns-in_err-end-clause-damaged g c =
    let v = g.V.View.seen c.args.view.now in
    handed _ _ _ c.from_residual.ensures.1
    (fault_so _ (IsPairDamage v c.args.first.now c.args.second.now c.args.first_wants.now c.args.second_wants.now)
    (λ rule b. so_of (λ p q ws xs. IsPairDamage v p q ws xs rule b) c.loop-end.one.names.now c.loop-end.two.names.now c.args.first.now c.args.second.now c.loop-end.one.wants.now c.loop-end.two.wants.now c.args.first_wants.now c.args.second_wants.now c.loop-end.invariant.first c.loop-end.invariant.second c.loop-end.invariant.first_wants c.loop-end.invariant.second_wants)
    c.in_err-end.field-0.0 c.in_err-end.ensures.damaged)

pub returns-in-Some-clause-walked : goal.returns-in-Some-clause-walked
returns-in-Some-clause-walked g c im o l t of =
    let v = g.V.View.seen c.args.view.now in
    so_of (λ p q ws xs. IsPairWalked v im o l t p q ws xs c.in-Some.end) c.loop-end.one.names.now c.loop-end.two.names.now c.args.first.now c.args.second.now c.loop-end.one.wants.now c.loop-end.two.wants.now c.args.first_wants.now c.args.second_wants.now c.loop-end.invariant.first c.loop-end.invariant.second c.loop-end.invariant.first_wants c.loop-end.invariant.second_wants
    (subst (λ x. IfSome x (IsPairWalked v im o l t c.loop-end.one.names.now c.loop-end.two.names.now c.loop-end.one.wants.now c.loop-end.two.wants.now)) c.in-Some.is (c.in_ok-end.ensures.walked im o l t of))

pub returns-in-Some-clause-told : goal.returns-in-Some-clause-told
returns-in-Some-clause-told g c =
    let v = g.V.View.seen c.args.view.now in
    so_of (λ p q ws xs. IsPairTold v p q ws xs c.in-Some.end) c.loop-end.one.names.now c.loop-end.two.names.now c.args.first.now c.args.second.now c.loop-end.one.wants.now c.loop-end.two.wants.now c.args.first_wants.now c.args.second_wants.now c.loop-end.invariant.first c.loop-end.invariant.second c.loop-end.invariant.first_wants c.loop-end.invariant.second_wants
    (subst (λ x. IfSome x (IsPairTold v c.loop-end.one.names.now c.loop-end.two.names.now c.loop-end.one.wants.now c.loop-end.two.wants.now)) c.in-Some.is c.in_ok-end.ensures.told)

pub loop-end-smaller : goal.loop-end-smaller
loop-end-smaller g c = subst (λ x. IfNone x (left_on c.go.new.one + left_on c.go.new.two < left_on c.loop-end.one + left_on c.loop-end.two)) c.in_default.is c.in_ok-end.ensures.smaller

pub loop-end-preserved : goal.loop-end-preserved
loop-end-preserved g c =
    let v = g.V.View.seen c.args.view.now in
    record {
      underway = subst (λ x. IfNone x (AreUnderway v c.go.new.one c.go.new.two)) c.in_default.is c.in_ok-end.ensures.went;
      first = c.in_ok-end.ensures.first_same.names ∙ c.loop-end.invariant.first;
      second = c.in_ok-end.ensures.second_same.names ∙ c.loop-end.invariant.second;
      first_wants = c.in_ok-end.ensures.first_same.wants ∙ c.loop-end.invariant.first_wants;
      second_wants = c.in_ok-end.ensures.second_same.wants ∙ c.loop-end.invariant.second_wants;
    }
