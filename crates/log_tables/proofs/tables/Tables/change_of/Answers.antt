use Rattle.std.proofs.Common.{ap, sym, ◌∙◌}
use Rattle.std.specs.Option.{option_copied, option_map}
use Rattle.std.specs.FinMap as map
use Rattle.log_tables.specs.Kept.{Kept}
use Rattle.log_tables.specs.Slots.{version_in}
use Rattle.log_tables.specs.Versions.{Version}
use Rattle.log_tables.proofs.Seeing.{get-seen}
use Rattle.log_tables.proofs.tables.Tables.change_of.Goals as goal

pub returns-in-Some : goal.returns-in-Some
returns-in-Some c =
    sym (ap (option_map (λ (v : Version). v.plain)) (get-seen (version_in c.self.inside.pool) c.self.inside.fresh.at c.args.block ∙ ap (option_map (version_in c.self.inside.pool)) (sym c.get.ensures ∙ ap option_copied c.in-Some.is)))
    ∙ ap (λ (k : Kept). option_map (λ (v : Version). v.plain) (map.get k.fresh c.args.block)) c.self.view_is

pub returns-in-None : goal.returns-in-None
returns-in-None c =
    sym (ap (option_map (λ (v : Version). v.plain)) (get-seen (version_in c.self.inside.pool) c.self.inside.fresh.at c.args.block ∙ ap (option_map (version_in c.self.inside.pool)) (sym c.get.ensures ∙ ap option_copied c.in-None.is)))
    ∙ ap (λ (k : Kept). option_map (λ (v : Version). v.plain) (map.get k.fresh c.args.block)) c.self.view_is
