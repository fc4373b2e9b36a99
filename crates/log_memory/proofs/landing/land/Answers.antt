use Rattle.std.proofs.Common.{◌∙◌, refl, ap}
use Rattle.node_journal.specs.Places.{place_on}
use Rattle.log_values.specs.Log.Stage.{Headed}
use Rattle.log_values.specs.Flushing.{first_place}
use Rattle.log_memory.proofs.LandedLogs.{home_to_drop, lands_so, lands_step, room_to_land}
use Rattle.log_memory.proofs.Stages.{is_at}
use Rattle.log_memory.proofs.landing.land.Goals as goal

pub take_in-requires-clause-room : goal.take_in-requires-clause-room
take_in-requires-clause-room c =
    room_to_land c.log.inside c.log.invariant c.args.log.now c.log.view_is c.requires.flush c.requires.begun c.args.tail c.requires.at c.place-first.result c.place-first.ensures.value

pub take_in-requires-clause-home : goal.take_in-requires-clause-home
take_in-requires-clause-home c =
    home_to_drop c.log.inside c.log.invariant c.args.log.now c.log.view_is c.requires.flush c.requires.begun c.args.tail c.requires.at c.place-first.result c.place-first.ensures.value

pub invariant_of-log : goal.invariant_of-log
invariant_of-log c =
    let log = c.args.log.now in
    let tables = c.take_in.new.tables in
    lands_so c.log.inside c.log.invariant log c.log.view_is c.requires.flush c.requires.begun c.args.tail c.requires.at c.place-first.result c.place-first.ensures.value
    c.place-head.result _ (λ g begun. c.place-head.ensures.value ∙ ap (place_on log.journal.length (first_place log)) (c.chunk_count.ensures.count g begun)) refl tables.live c.take_in.ensures.lives
    c.clear-2.new.self c.clear-3.new.self c.clear-4.new.self c.clear-2.ensures.items c.clear-3.ensures.items c.clear-4.ensures.items c.clear-2.ensures.capacity c.clear-3.ensures.capacity c.clear-4.ensures.capacity
    tables c.keep_live.new.gone c.clear.new.self c.take_in.ensures.same c.keep_live.ensures c.clear.ensures

pub returns : goal.returns
returns c = λ f bytes begun.
    let log = c.args.log.now in
    let tables = c.take_in.new.tables in
    lands_step c.log.inside c.log.invariant log c.log.view_is f begun c.args.tail (is_at log (Headed c.args.tail) c.requires f begun) c.place-first.result c.place-first.ensures.value
    c.place-head.result _ (λ g is. c.place-head.ensures.value ∙ ap (place_on log.journal.length (first_place log)) (c.chunk_count.ensures.count g is)) refl tables.live c.take_in.ensures.lives
    c.clear-2.new.self c.clear-3.new.self c.clear-4.new.self c.clear-2.ensures.items c.clear-3.ensures.items c.clear-4.ensures.items c.clear-2.ensures.capacity c.clear-3.ensures.capacity c.clear-4.ensures.capacity
    tables c.keep_live.new.gone c.clear.new.self c.take_in.ensures.same c.keep_live.ensures c.clear.ensures bytes
