use Rattle.std.proofs.Common.{ℕ, ◌+◌, List, sym, ap, ◌∙◌, subst, refl, arith}
use Rattle.std.specs.Prelude.{Contains, ◌==◌}
use Rattle.std.specs.List.{list_any}
use Rattle.gfs2_layout.proofs.StatePuts.{has_any}
use Rattle.glock_names.proofs.StepLaws.{answer_at, needed_at}
use Rattle.glock_names.specs.Steps.{TellsOf}
use Rattle.linear_dirs.proofs.Looked.{handed}
use Rattle.hash_dirs.specs.Broken.{IsWrongIn}
use Rattle.hash_dirs.specs.Leaves.{AreNew, AreNewIn, IsGathered, IsRead}
use Rattle.hash_dirs.specs.Walking.{IsLeafIn, IsLeafOf, OfEach}
use Rattle.hash_dirs.proofs.Along.{comes_again_to}
use Rattle.hash_dirs.proofs.Gathered.{gather_begins, gather_more, lacks_it, known_ends, last_ends, leaf_read, new_still, read_still, round_again, tells_there}
use Rattle.hash_dirs.proofs.Leaves.{wrong_tells}
use Rattle.hash_dirs.proofs.Listed.{tells_of, tells_rule}
use Rattle.hash_dirs.proofs.gathering.chain_of.Goals as goal

pub loop-place-init : goal.loop-place-init
loop-place-init g c =
    subst (IsGathered (g.V.View.seen c.args.view.now) c.args.dir c.args.head.now c.args.known.now 0 c.args.head.now) (sym c.new-chain.ensures.items)
    (gather_begins (g.V.View.seen c.args.view.now) c.args.dir c.args.head.now c.args.known.now c.requires.from)

pub returns-then-contains-clause-listed : goal.returns-then-contains-clause-listed
returns-then-contains-clause-listed g c =
    known_ends (g.V.View.seen c.args.view.now) c.args.dir c.args.head.now c.args.known.now c.loop-place._place c.loop-place.link c.loop-place.chain.items c.loop-place.invariant
    (has_any c.args.known.now c.loop-place.link.leaf (sym c.contains.ensures.value ∙ c.if-contains.true))

pub returns-then-contains-2-clause-damaged : goal.returns-then-contains-2-clause-damaged
returns-then-contains-2-clause-damaged g c h i shown is depth =
    let v = g.V.View.seen c.args.view.now in
    let has = subst (λ (xs : List ℕ). Contains xs c.loop-place.link.leaf) c.deref.ensures.value (has_any c.deref.result.now c.loop-place.link.leaf (sym c.contains-in-loop-place.ensures.value ∙ c.if-contains-2.true)) in
    wrong_tells v h c.damaged.result (tells_rule h c.damaged.result c.loop-place.link.leaf 15 c.damaged.ensures
    (round_again v c.args.dir c.args.head.now c.args.known.now c.loop-place._place c.loop-place.link c.loop-place.chain.items c.loop-place.invariant has h i shown is))

pub returns-then-contains-2-clause-kept : goal.returns-then-contains-2-clause-kept
returns-then-contains-2-clause-kept g c =
    let v = g.V.View.seen c.args.view.now in
    let has = subst (λ (xs : List ℕ). Contains xs c.loop-place.link.leaf) c.deref.ensures.value (has_any c.deref.result.now c.loop-place.link.leaf (sym c.contains-in-loop-place.ensures.value ∙ c.if-contains-2.true)) in
    let read = c.loop-place.invariant.read c.loop-place.link.leaf has in
    tells_there v c.damaged.result c.loop-place.link.leaf 15 c.damaged.ensures (read.bytes, read.there)

pub returns-in_err-leaf-clause-damaged : goal.returns-in_err-leaf-clause-damaged
returns-in_err-leaf-clause-damaged g c h i shown is depth =
    handed c.from_residual.result _ (TellsOf (IsWrongIn (g.V.View.seen c.args.view.now) h)) c.from_residual.ensures.1 (tells_of (IsWrongIn (g.V.View.seen c.args.view.now) h) c.in_err-leaf.field-0.0 (c.in_err-leaf.ensures.damaged h i shown (c.loop-place.invariant.along.at h i shown is).leads depth))

pub returns-in-NeedBlock-clause-needed : goal.returns-in-NeedBlock-clause-needed
returns-in-NeedBlock-clause-needed g c h i shown is = needed_at _ _ _ c.in-NeedBlock.is (c.in_ok-leaf.ensures.needed h i shown (c.loop-place.invariant.along.at h i shown is).leads)

pub returns-then-leaf-eq0-clause-listed : goal.returns-then-leaf-eq0-clause-listed
returns-then-leaf-eq0-clause-listed g c =
    let v = g.V.View.seen c.args.view.now in
    let so = c.loop-place.invariant in
    let link = c.loop-place.link in
    let leaf : OfEach v c.args.dir c.args.head.now (λ h i. IsLeafOf h link.leaf c.in-Is.leaf) = λ h i shown is. answer_at _ _ (IsLeafOf h link.leaf) c.in-Is.is (c.in_ok-leaf.ensures.read h i shown (so.along.at h i shown is).leads) in
    let read : IsRead v link.leaf = leaf_read v link.leaf c.in-Is.leaf (answer_at _ _ _ c.in-Is.is c.in_ok-leaf.ensures.small) (answer_at _ _ _ c.in-Is.is c.in_ok-leaf.ensures.inside)
    (answer_at _ _ (IsLeafIn v link.leaf) c.in-Is.is c.in_ok-leaf.ensures.seen) (answer_at _ _ _ c.in-Is.is c.in_ok-leaf.ensures.area) in
    let other = lacks_it c.args.known.now link.leaf c.contains.result c.contains.ensures.value c.if-contains.false in
    let fresh = lacks_it c.loop-place.chain.items link.leaf c.contains-in-loop-place.result (c.contains-in-loop-place.ensures.value ∙ ap (λ xs. list_any (λ y. y == link.leaf) xs) c.deref.ensures.value) c.if-contains-2.false in
    λ h i shown is. subst (AreNewIn h i c.args.known.now) (sym c.in_ok-push.ensures.items)
    (last_ends v c.args.dir c.args.head.now c.args.known.now c.loop-place._place link c.loop-place.chain.items so c.in-Is.leaf other fresh leaf read c.if-leaf-eq0.true h i shown is)

pub returns-then-leaf-eq0-clause-new : goal.returns-then-leaf-eq0-clause-new
returns-then-leaf-eq0-clause-new g c =
    let v = g.V.View.seen c.args.view.now in
    let so = c.loop-place.invariant in
    let link = c.loop-place.link in
    let other = lacks_it c.args.known.now link.leaf c.contains.result c.contains.ensures.value c.if-contains.false in
    let fresh = lacks_it c.loop-place.chain.items link.leaf c.contains-in-loop-place.result (c.contains-in-loop-place.ensures.value ∙ ap (λ xs. list_any (λ y. y == link.leaf) xs) c.deref.ensures.value) c.if-contains-2.false in
    subst (AreNew c.args.known.now) (sym c.in_ok-push.ensures.items) (new_still c.args.known.now c.loop-place.chain.items link.leaf so.new other fresh)

pub returns-then-leaf-eq0-clause-read : goal.returns-then-leaf-eq0-clause-read
returns-then-leaf-eq0-clause-read g c =
    let v = g.V.View.seen c.args.view.now in
    let link = c.loop-place.link in
    let read : IsRead v link.leaf = leaf_read v link.leaf c.in-Is.leaf (answer_at _ _ _ c.in-Is.is c.in_ok-leaf.ensures.small) (answer_at _ _ _ c.in-Is.is c.in_ok-leaf.ensures.inside)
    (answer_at _ _ (IsLeafIn v link.leaf) c.in-Is.is c.in_ok-leaf.ensures.seen) (answer_at _ _ _ c.in-Is.is c.in_ok-leaf.ensures.area) in
    subst (λ (xs : List ℕ). (x : ℕ) → Contains xs x → IsRead v x) (sym c.in_ok-push.ensures.items) (read_still v c.loop-place.chain.items link.leaf c.loop-place.invariant.read read)

pub loop-place-preserved : goal.loop-place-preserved
loop-place-preserved g c =
    let v = g.V.View.seen c.args.view.now in
    let so = c.loop-place.invariant in
    let link = c.loop-place.link in
    let leaf : OfEach v c.args.dir c.args.head.now (λ h i. IsLeafOf h link.leaf c.in-Is.leaf) = λ h i shown is. answer_at _ _ (IsLeafOf h link.leaf) c.in-Is.is (c.in_ok-leaf.ensures.read h i shown (so.along.at h i shown is).leads) in
    let read : IsRead v link.leaf = leaf_read v link.leaf c.in-Is.leaf (answer_at _ _ _ c.in-Is.is c.in_ok-leaf.ensures.small) (answer_at _ _ _ c.in-Is.is c.in_ok-leaf.ensures.inside)
    (answer_at _ _ (IsLeafIn v link.leaf) c.in-Is.is c.in_ok-leaf.ensures.seen) (answer_at _ _ _ c.in-Is.is c.in_ok-leaf.ensures.area) in
    let other = lacks_it c.args.known.now link.leaf c.contains.result c.contains.ensures.value c.if-contains.false in
    let fresh = lacks_it c.loop-place.chain.items link.leaf c.contains-in-loop-place.result (c.contains-in-loop-place.ensures.value ∙ ap (λ xs. list_any (λ y. y == link.leaf) xs) c.deref.ensures.value) c.if-contains-2.false in
    subst (IsGathered v c.args.dir c.args.head.now c.args.known.now (c.loop-place._place + 1) _) (sym c.in_ok-push.ensures.items)
    (gather_more v c.args.dir c.args.head.now c.args.known.now c.loop-place._place link c.loop-place.chain.items so c.in-Is.leaf other fresh leaf read _ c.if-leaf-eq0.false refl)

pub returns-clause-damaged : goal.returns-clause-damaged
returns-clause-damaged g c h i shown is depth =
    wrong_tells (g.V.View.seen c.args.view.now) h c.damaged-2.result (tells_rule h c.damaged-2.result c.loop-place.link.from 15 c.damaged-2.ensures
    (comes_again_to (g.V.View.seen c.args.view.now) c.args.dir c.args.head.now c.loop-place._place c.loop-place.link (omega arith) c.loop-place.invariant.along h i shown is))
