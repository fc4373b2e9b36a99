use Rattle.std.proofs.Common.{refl, sym, ap, ◌∙◌, arith}
use Rattle.std.proofs.lemmas.List.{append-nil}
use Rattle.gfs2_layout.specs.Records.{records_in}
use Rattle.glock_names.specs.Steps.{TellsOf}
use Rattle.glock_names.specs.Views.{IsOfView}
use Rattle.glock_names.proofs.StepLaws.{answer_at, needed_at}
use Rattle.linear_dirs.proofs.Looked.{handed}
use Rattle.hash_dirs.specs.Broken.{IsWrongIn}
use Rattle.hash_dirs.specs.Walking.{OfEach, IsLeafOf}
use Rattle.hash_dirs.proofs.Along.{begins, goes_on, comes_again_to}
use Rattle.hash_dirs.proofs.Listed.{chain_listed, tells_at, tells_of, tells_rule}
use Rattle.hash_dirs.proofs.Leaves.{wrong_tells}
use Rattle.hash_dirs.proofs.listing.add_chain.Goals as goal

pub loop-place-init : goal.loop-place-init
loop-place-init g c = record {
  along = begins (g.V.View.seen c.args.view.now) c.args.dir c.args.head.now c.requires.from;
  listed = λ h i shown is. sym (append-nil _);
}

pub returns-in_err-leaf-clause-damaged : goal.returns-in_err-leaf-clause-damaged
returns-in_err-leaf-clause-damaged g c h i shown is depth =
    handed c.from_residual.result _ (TellsOf (IsWrongIn (g.V.View.seen c.args.view.now) h)) c.from_residual.ensures.1 (tells_of (IsWrongIn (g.V.View.seen c.args.view.now) h) c.in_err-leaf.field-0.0 (c.in_err-leaf.ensures.damaged h i shown (c.loop-place.invariant.along.at h i shown is).leads depth))

pub returns-in-NeedBlock-clause-needed : goal.returns-in-NeedBlock-clause-needed
returns-in-NeedBlock-clause-needed g c h i shown is = needed_at _ _ _ c.in-NeedBlock.is (c.in_ok-leaf.ensures.needed h i shown (c.loop-place.invariant.along.at h i shown is).leads)

pub returns-in_err-add_names-clause-kept : goal.returns-in_err-add_names-clause-kept
returns-in_err-add_names-clause-kept g c =
    handed c.from_residual-in_err-add_names.result _ (TellsOf (IsOfView (g.V.View.seen c.args.view.now))) c.from_residual-in_err-add_names.ensures.1
    (tells_at (g.V.View.seen c.args.view.now) c.in_err-add_names.field-0.0 c.loop-place.link.leaf (answer_at _ _ _ c.in-Is.is c.in_ok-leaf.ensures.there) c.in_err-add_names.ensures.own)

pub returns-in_err-add_names-clause-damaged : goal.returns-in_err-add_names-clause-damaged
returns-in_err-add_names-clause-damaged g c h i shown is depth =
    let at = c.loop-place.invariant.along.at h i shown is in
    let leaf = answer_at _ _ _ c.in-Is.is (c.in_ok-leaf.ensures.read h i shown at.leads) in
    let small = answer_at _ _ _ c.in-Is.is c.in_ok-leaf.ensures.small in
    handed c.from_residual-in_err-add_names.result _ (TellsOf (IsWrongIn (g.V.View.seen c.args.view.now) h)) c.from_residual-in_err-add_names.ensures.1
    (wrong_tells (g.V.View.seen c.args.view.now) h c.in_err-add_names.field-0.0 (c.in_err-add_names.ensures.damaged h i c.loop-place.link.from (ap records_in (sym leaf.area)) at.leads small.0))

pub returns-then-leaf-eq0-clause-listed : goal.returns-then-leaf-eq0-clause-listed
returns-then-leaf-eq0-clause-listed g c h i shown is =
    let at = c.loop-place.invariant.along.at h i shown is in
    let leaf = answer_at _ _ _ c.in-Is.is (c.in_ok-leaf.ensures.read h i shown at.leads) in
    record {
      place = c.loop-place._place;
      last = c.loop-place.link.leaf;
      chain = at.chain (answer_at _ _ _ c.in-Is.is c.in_ok-leaf.ensures.small).0;
      ends = ap (λ l. l.next) (sym leaf.head) ∙ c.if-leaf-eq0.true;
      depth_is = ap (λ l. l.depth) leaf.head;
      names = chain_listed h i c.loop-place._place c.loop-place.link.leaf c.in-Is.leaf _ _ _ (at.chain (answer_at _ _ _ c.in-Is.is c.in_ok-leaf.ensures.small).0) leaf (c.loop-place.invariant.listed h i shown is) c.in_ok-add_names.ensures.added;
    }

pub loop-place-preserved : goal.loop-place-preserved
loop-place-preserved g c =
    let v = g.V.View.seen c.args.view.now in
    let leaf : OfEach v c.args.dir c.args.head.now (λ h i. IsLeafOf h c.loop-place.link.leaf c.in-Is.leaf) = λ h i shown is. answer_at _ _ (IsLeafOf h c.loop-place.link.leaf) c.in-Is.is (c.in_ok-leaf.ensures.read h i shown (c.loop-place.invariant.along.at h i shown is).leads) in
    record {
      along = goes_on v c.args.dir c.args.head.now c.loop-place._place c.loop-place.link _ c.in-Is.leaf c.loop-place.invariant.along
          leaf (answer_at _ _ _ c.in-Is.is c.in_ok-leaf.ensures.small) (answer_at _ _ _ c.in-Is.is c.in_ok-leaf.ensures.there) c.if-leaf-eq0.false refl;
      listed = λ h i shown is. chain_listed h i c.loop-place._place c.loop-place.link.leaf c.in-Is.leaf _ _ _ ((c.loop-place.invariant.along.at h i shown is).chain (answer_at _ _ _ c.in-Is.is c.in_ok-leaf.ensures.small).0) (leaf h i shown is)
          (c.loop-place.invariant.listed h i shown is) c.in_ok-add_names.ensures.added;
    }

pub returns-clause-damaged : goal.returns-clause-damaged
returns-clause-damaged g c h i shown is depth =
    wrong_tells (g.V.View.seen c.args.view.now) h c.damaged.result (tells_rule h c.damaged.result c.loop-place.link.from 15 c.damaged.ensures
    (comes_again_to (g.V.View.seen c.args.view.now) c.args.dir c.args.head.now c.loop-place._place c.loop-place.link (omega arith) c.loop-place.invariant.along h i shown is))
