use Rattle.std.proofs.Common.{◌<◌, ℕ, List, sym, ap, ◌∙◌, subst, slice_get}
use Rattle.std.proofs.lemmas.Option.{slice_get_read}
use Rattle.std.specs.FinMap as map
use Rattle.fixed_tables.specs.Fixed.{Fixed}
use Rattle.fixed_tables.proofs.Tables.{entries_are, len_is}
use Rattle.fixed_tables.proofs.table.FixedTable.row.Goals as goal

pub index-requires : goal.index-requires
index-requires g c =
    subst (λ n. c.args.place < n) (len_is c.self.inside c.self.invariant) (subst (λ (f : Fixed g.row.V.Denot). c.args.place < map.len f.at) (sym c.self.view_is) c.requires)

pub returns : goal.returns
returns g c =
    let inside : c.args.place < map.len (c.args.self.now).at = c.requires in
    ap (λ (f : Fixed g.row.V.Denot). slice_get (map.entries f.at) c.args.place) (sym c.self.view_is)
    ∙ ap (λ (es : List (ℕ × g.row.V.Denot)). slice_get es c.args.place) (entries_are c.self.inside c.self.invariant)
    ∙ slice_get_read c.self.inside.rows.items c.self.inside.rows.len c.args.place c.index.result.now (c.self.inside.rows.ok.0)
    (subst (λ n. c.args.place < n) (len_is c.self.inside c.self.invariant) (subst (λ (f : Fixed g.row.V.Denot). c.args.place < map.len f.at) (sym c.self.view_is) c.requires)) c.index.ensures
