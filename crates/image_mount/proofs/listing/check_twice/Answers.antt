use Rattle.std.proofs.Common.{refl, sym, ◌∙◌, arith}
use Rattle.std.proofs.lemmas.List.{length-map}
use Rattle.image_mount.specs.Listing.{said}
use Rattle.image_mount.proofs.Causes.{told}
use Rattle.image_mount.proofs.Twice.{distinct, distinct_next, twice_found}
use Rattle.image_mount.proofs.listing.check_twice.Goals as goal

pub returns-then-is_some-clause-refused : goal.returns-then-is_some-clause-refused
returns-then-is_some-clause-refused c im a area format low has all =
    told im _ c.args.block 10 c.damaged.ensures format low
    (twice_found im a c.args.block c.loop-i.i area c.args.records.now _ _ _ c.find.result has all c.loop-i-test.true refl refl (sym c.if-is_some.true ∙ c.is_some.ensures) c.find.ensures.named c.find.ensures.there)

pub loop-i-preserved : goal.loop-i-preserved
loop-i-preserved c = distinct_next c.args.records.now _ _ c.loop-i.i _ c.find.result c.loop-i.invariant refl refl (sym c.if-is_some.false ∙ c.is_some.ensures) c.find.ensures.none

pub returns-clause-distinct : goal.returns-clause-distinct
returns-clause-distinct c = distinct _ c.loop-i.i (omega (arith, length-map c.args.records.now said, c.loop-i-test.false)) c.loop-i.invariant
