use Rattle.std.proofs.Common.{Some, sym, ap, ◌∙◌, length, arith}
use Rattle.std.proofs.lemmas.List.{length-map}
use Rattle.frame_pool.specs.Parts.{part}
use Rattle.frame_pool.specs.InRegion.{bytes_in}
use Rattle.frame_pool.proofs.Regions.{run_there, same_values}
use Rattle.frame_pool.proofs.region.Region.part.Goals as goal

pub slice-requires : goal.slice-requires
slice-requires c =
    let r = c.self.inside in let v = bytes_in r in let ok = c.self.invariant in
    (sym ok.cells_at, (omega (arith, c.requires, ap length c.self.view_is, ap length ok.full, length-map v Some), (part v c.args.at c.args.len, run_there r.cells.slots v c.args.at c.args.len ok.full)))

pub returns : goal.returns
returns c =
    let r = c.self.inside in let v = bytes_in r in
    same_values c.slice.result.now (part v c.args.at c.args.len) (sym c.slice.ensures ∙ run_there r.cells.slots v c.args.at c.args.len c.self.invariant.full)
    ∙ (λ i. part (c.self.view_is i) c.args.at c.args.len)
