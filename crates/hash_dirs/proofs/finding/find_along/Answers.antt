use Rattle.std.proofs.Common.{Option, refl, sym, ap, ◌∙◌, subst, arith}
use Rattle.std.specs.Option.{option_map}
use Rattle.gfs2_layout.specs.Records.{record_named, records_in}
use Rattle.glock_names.specs.Steps.{IsDamage}
use Rattle.glock_names.specs.Views.{IsOfView}
use Rattle.glock_names.proofs.StepLaws.{answer_at, needed_at}
use Rattle.linear_dirs.specs.Shown.{entry_of}
use Rattle.linear_dirs.proofs.Looked.{handed}
use Rattle.hash_dirs.specs.Broken.{IsWrongIn}
use Rattle.hash_dirs.specs.Walking.{OfEach, IsLeafOf}
use Rattle.hash_dirs.specs.declared.finding.Spot.{Spot}
use Rattle.hash_dirs.proofs.Along.{begins, goes_on, comes_again_to, headed_none, heads_with, nameless, still_headed, still_nameless, found_here, found_nowhere, none_named}
use Rattle.hash_dirs.proofs.Leaves.{wrong_of, told}
use Rattle.hash_dirs.proofs.finding.find_along.Goals as goal

pub loop-place-init : goal.loop-place-init
loop-place-init g c = record {
  along = begins (g.V.View.seen c.args.view.now) c.args.dir c.args.head.now c.requires.from;
  later = nameless (g.V.View.seen c.args.view.now) c.args.dir c.args.head.now c.args.name.now;
  heads = headed_none (g.V.View.seen c.args.view.now) c.args.dir c.args.head.now c.args.depth;
}

pub leaf_at-requires : goal.leaf_at-requires
leaf_at-requires g c = record { from = c.loop-place.invariant.along.from }

pub returns-in_err-leaf-clause-damaged : goal.returns-in_err-leaf-clause-damaged
returns-in_err-leaf-clause-damaged g c h i shown is depth =
    handed c.from_residual.result _ (IsDamage (IsWrongIn (g.V.View.seen c.args.view.now) h)) c.from_residual.ensures.1 (c.in_err-leaf.ensures.damaged h i shown (c.loop-place.invariant.along.at h i shown is).leads depth)

pub returns-in-NeedBlock-clause-needed : goal.returns-in-NeedBlock-clause-needed
returns-in-NeedBlock-clause-needed g c h i shown is = needed_at _ _ _ c.in-NeedBlock.is (c.in_ok-leaf.ensures.needed h i shown (c.loop-place.invariant.along.at h i shown is).leads)

pub returns-in-Some-clause-found : goal.returns-in-Some-clause-found
returns-in-Some-clause-found g c h i shown is deep =
    let at = c.loop-place.invariant.along.at h i shown is in
    let leaf = answer_at _ _ _ c.in-Is.is (c.in_ok-leaf.ensures.read h i shown at.leads) in
    found_here h i c.args.name.now c.loop-place._place c.loop-place.link.leaf (at.chain (answer_at _ _ _ c.in-Is.is c.in_ok-leaf.ensures.small).0) (c.loop-place.invariant.later h i shown is)
    (c.loop-place.invariant.heads h i shown is deep) (answer_at _ _ _ c.in-Is.is (c.in_ok-leaf.ensures.headed h i shown at.leads deep)) c.in-Some.spot.entry
    (ap (λ a. option_map entry_of (record_named (records_in a) c.args.name.now)) (sym leaf.area) ∙ sym c.spot_in.ensures.leads ∙ ap (λ (o : Option Spot). option_map (λ (s : Spot). s.entry) o) c.in-Some.is)

pub returns-in-Some-clause-place : goal.returns-in-Some-clause-place
returns-in-Some-clause-place g c h i shown is deep =
    let at = c.loop-place.invariant.along.at h i shown is in
    let chain = at.chain (answer_at _ _ _ c.in-Is.is c.in_ok-leaf.ensures.small).0 in
    record {
      place = c.loop-place._place;
      chain = chain;
      later = c.loop-place.invariant.later h i shown is;
      heads = heads_with h i c.loop-place._place c.loop-place.link.leaf chain (c.loop-place.invariant.heads h i shown is deep)
          (answer_at _ _ _ c.in-Is.is (c.in_ok-leaf.ensures.headed h i shown at.leads deep));
    }

pub returns-then-leaf-eq0-clause-found : goal.returns-then-leaf-eq0-clause-found
returns-then-leaf-eq0-clause-found g c h i shown is deep =
    let at = c.loop-place.invariant.along.at h i shown is in
    let leaf = answer_at _ _ _ c.in-Is.is (c.in_ok-leaf.ensures.read h i shown at.leads) in
    found_nowhere h i c.args.name.now c.loop-place._place c.loop-place.link.leaf (at.chain (answer_at _ _ _ c.in-Is.is c.in_ok-leaf.ensures.small).0) (c.loop-place.invariant.later h i shown is)
    (c.loop-place.invariant.heads h i shown is deep) (answer_at _ _ _ c.in-Is.is (c.in_ok-leaf.ensures.headed h i shown at.leads deep))
    (none_named _ (ap (λ a. option_map entry_of (record_named (records_in a) c.args.name.now)) (sym leaf.area) ∙ sym c.spot_in.ensures.leads ∙ ap (λ (o : Option Spot). option_map (λ (s : Spot). s.entry) o) c.in_default.is)) (ap (λ l. l.next) (sym leaf.head) ∙ c.if-leaf-eq0.true)

pub loop-place-preserved : goal.loop-place-preserved
loop-place-preserved g c =
    let leaf : OfEach (g.V.View.seen c.args.view.now) c.args.dir c.args.head.now (λ h i. IsLeafOf h c.loop-place.link.leaf c.in-Is.leaf) = λ h i shown is. answer_at _ _ (IsLeafOf h c.loop-place.link.leaf) c.in-Is.is (c.in_ok-leaf.ensures.read h i shown (c.loop-place.invariant.along.at h i shown is).leads) in
    let v = g.V.View.seen c.args.view.now in
    record {
      along = goes_on v c.args.dir c.args.head.now c.loop-place._place c.loop-place.link _ c.in-Is.leaf c.loop-place.invariant.along
          leaf (answer_at _ _ _ c.in-Is.is c.in_ok-leaf.ensures.small) (answer_at _ _ _ c.in-Is.is c.in_ok-leaf.ensures.there) c.if-leaf-eq0.false refl;
      later = still_nameless v c.args.dir c.args.head.now c.args.name.now c.loop-place._place c.loop-place.link c.loop-place.invariant.along (answer_at _ _ _ c.in-Is.is c.in_ok-leaf.ensures.small).0 c.loop-place.invariant.later
          (λ h i shown is. none_named _ (ap (λ a. option_map entry_of (record_named (records_in a) c.args.name.now)) (sym (leaf h i shown is).area) ∙ sym c.spot_in.ensures.leads ∙ ap (λ (o : Option Spot). option_map (λ (s : Spot). s.entry) o) c.in_default.is));
      heads = still_headed v c.args.dir c.args.head.now c.args.depth c.loop-place._place c.loop-place.link c.loop-place.invariant.along (answer_at _ _ _ c.in-Is.is c.in_ok-leaf.ensures.small).0 c.loop-place.invariant.heads
          (λ h i shown is deep. answer_at _ _ _ c.in-Is.is (c.in_ok-leaf.ensures.headed h i shown (c.loop-place.invariant.along.at h i shown is).leads deep));
    }

pub returns-clause-damaged : goal.returns-clause-damaged
returns-clause-damaged g c h i shown is depth =
    wrong_of (g.V.View.seen c.args.view.now) h c.damaged.result (told h c.damaged.result c.loop-place.link.from 15 c.damaged.ensures
    (comes_again_to (g.V.View.seen c.args.view.now) c.args.dir c.args.head.now c.loop-place._place c.loop-place.link (omega arith) c.loop-place.invariant.along h i shown is))

pub returns-clause-kept : goal.returns-clause-kept
returns-clause-kept g c = subst (IsDamage (IsOfView (g.V.View.seen c.args.view.now))) (sym c.damaged.ensures) c.loop-place.invariant.along.from
