use Rattle.std.proofs.Common.{◌≡◌, ◌∷◌, [], Bool, sym, ap, ◌∙◌, if◌then◌else◌}
use Rattle.std.specs.FinMap as table
use Rattle.fixed_tables.specs.Fixed.{Fixed}
use Rattle.log_values.specs.Blocks as set
use Rattle.log_values.specs.Log.{LogValue}
use Rattle.log_values.specs.Changes.{has_entry, with_freed}
use Rattle.log_memory.specs.Inside.{log_in}
use Rattle.log_memory.proofs.Blocks.{changed, freed_gives, room_for_gone}
use Rattle.log_memory.proofs.NewLogs.{Gives}
use Rattle.log_memory.proofs.changes.free.Goals as goal
use Rattle.log_memory.proofs.changes.free.Goals.{After-remove}

pub mark-requires : goal.mark-requires
mark-requires c = room_for_gone c.log.inside c.log.invariant

freed : (c : After-remove) → Gives (changed c.log.inside c.log.invariant c.remove.new.self c.mark.new.blocks)
    (record (log_in c.log.inside) { fresh = table.remove c.log.inside.tables.fresh c.args.block; gone = with_freed (has_entry (log_in c.log.inside)) (c.args.block ∷ []) c.log.inside.gone.at })
freed c =
    let has : c.has_entry-has.result ≡ has_entry (log_in c.log.inside) c.args.block = c.has_entry-has.ensures ∙ ap (λ (log : LogValue). has_entry log c.args.block) (sym c.log.view_is) in
    freed_gives c.log.inside c.log.invariant c.args.block c.remove.new.self c.mark.new.blocks c.remove.ensures
    (c.mark.ensures ∙ ap (λ (x : Bool). let g : Fixed (Unit {0}) = record c.log.inside.gone { at = if x then set.insert c.log.inside.gone.at c.args.block else c.log.inside.gone.at } in g) has)

pub invariant_of-log : goal.invariant_of-log
invariant_of-log c = (freed c).0

pub returns : goal.returns
returns c =
    (freed c).1
    ∙ ap (λ (log : LogValue). let x : LogValue = record log { fresh = table.remove log.fresh c.args.block; gone = with_freed (has_entry log) (c.args.block ∷ []) log.gone } in x) c.log.view_is
