use Rattle.std.proofs.Common.{◌%◌, ap}
use Rattle.file_walks.specs.Walks.{IsPassed, LeadsOn}
use Rattle.file_walks.proofs.Steps.{below_leads, below_led, below_passed, made_so}
use Rattle.file_walks.proofs.walks.stop_below.Goals as goal

pub returns-clause-leads : goal.returns-clause-leads
returns-clause-leads c h some leads o =
    made_so c.read_pointer.result _ (LeadsOn h c.args.way.now.level c.args.way.now.index) c.read_pointer.ensures.is
    (below_leads h c.args.way.now c.args.stop.now c.args.bytes.now _ o c.requires.above some c.requires.large c.place_over-place.result c.place_over-place.ensures
    (ap (λ n. c.place_over-place.result % n) c.fan.ensures) leads)

pub returns-clause-passed : goal.returns-clause-passed
returns-clause-passed c h file some passed o =
    made_so c.read_pointer.result _ (IsPassed h c.args.way.now.level c.args.way.now.index) c.read_pointer.ensures.is
    (below_passed h c.args.way.now c.args.stop.now c.args.bytes.now _ o c.requires.above some c.requires.large c.place_over-place.result c.place_over-place.ensures
    (ap (λ n. c.place_over-place.result % n) c.fan.ensures) file passed)

pub returns-clause-damaged : goal.returns-clause-damaged
returns-clause-damaged c h w some leads o =
    c.read_pointer.ensures.damaged h w
    (below_led h c.args.way.now c.args.stop.now c.args.bytes.now _ o c.requires.above some c.requires.large c.place_over-place.result c.place_over-place.ensures
    (ap (λ n. c.place_over-place.result % n) c.fan.ensures) leads)
