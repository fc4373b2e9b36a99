use Rattle.std.proofs.Common.{◌≡◌, ◌⊎◌, ◌<◌, true, sym, ap, subst, ◌∙◌}
use Rattle.std.specs.FinMap as map
use Rattle.log_tables.specs.Kept.{Kept, landed}
use Rattle.log_tables.specs.Versions.{Entry}
use Rattle.log_tables.proofs.Steps.{landed_over, rested_home, rested_room}
use Rattle.log_tables.proofs.tables.Tables.land.Goals as goal

pub land_new-requires-clause-rests : goal.land_new-requires-clause-rests
land_new-requires-clause-rests c = λ e at. rested_home c.args.self.now.live c.args.block e (ap (λ (k : Kept). map.get k.live c.args.block) (sym c.rest.ensures) ∙ at)

pub land_new-requires-clause-room : goal.land_new-requires-clause-room
land_new-requires-clause-room c =
    subst (λ (k : Kept). (map.contains_key k.live c.args.block ≡ true) ⊎ (map.len k.live < k.places)) (sym c.rest.ensures) (rested_room c.args.self.now c.args.block c.requires.room)

pub returns : goal.returns
returns c = λ v here.
    c.land_new.ensures v (ap (λ (k : Kept). map.get k.flushed c.args.block) c.rest.ensures ∙ here)
    ∙ ap (λ (k : Kept). let x : Kept = record k { flushed = map.remove k.flushed c.args.block; live = map.insert k.live c.args.block (landed v c.args.first) } in x) c.rest.ensures
    ∙ ap (λ (m : map.FinMap _ Entry). let x : Kept = record c.args.self.now { flushed = map.remove c.args.self.now.flushed c.args.block; live = m } in x)
    (landed_over c.args.self.now.live c.args.block (landed v c.args.first))
