use Rattle.std.proofs.Common.{◌<◌}
use Rattle.std.proofs.lemmas.List.Elements.{All-from_get_or}
use Rattle.glock_names.proofs.StepLaws.{answer_at, needed_at}
use Rattle.hash_inserts.proofs.inserting.insert.Goals as goal

pub returns-in-NeedBlock-clause-needed : goal.returns-in-NeedBlock-clause-needed
returns-in-NeedBlock-clause-needed g c h shown shows = needed_at _ _ _ c.in-NeedBlock.is (c.in_ok-found.ensures.needed h shown shows)

pub returns-clause-put : goal.returns-clause-put
returns-clause-put g c h need shown shows sound counts fresh free takes enough few =
    let name = c.args.name.now in
    let small = c.checksums_have_32_bits.ensures name (All-from_get_or (λ byte. byte < 256) name 0 (λ i inside. (c.type_inv.name i).fits)) in
    c.in_ok-done.ensures.put h need (record { shown = shown; sound = sound; counts = counts; small = small; fresh = fresh; few = few; free = free; takes = takes; enough = enough }) shows
    (answer_at _ _ _ c.in-Is.is (c.in_ok-found.ensures.found h shown shows)) (answer_at _ _ _ c.in-Is.is c.in_ok-found.ensures.own) (answer_at _ _ _ c.in-Is.is (c.in_ok-found.ensures.inside h shown shows))
