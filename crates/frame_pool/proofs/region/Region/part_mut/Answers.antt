use Rattle.std.proofs.Common.{◌+◌, ◌≤◌, Some, map, length, refl, sym, ap, ◌∙◌, arith}
use Rattle.std.proofs.lemmas.List.{length-map}
use Rattle.frame_pool.specs.Parts.{part, with_part}
use Rattle.frame_pool.specs.InRegion.{bytes_in}
use Rattle.frame_pool.specs.Places.{somes}
use Rattle.frame_pool.proofs.Regions.{run_there, same_values, spliced_full, somes-map, length-with_part}
use Rattle.frame_pool.proofs.region.Region.part_mut.Goals as goal

pub slice_mut-requires : goal.slice_mut-requires
slice_mut-requires c =
    let r = c.self.inside in let v = bytes_in r in let ok = c.self.invariant in
    (sym ok.cells_at, (omega (arith, c.requires, ap length c.self.view_is, ap length ok.full, length-map v Some), (part v c.args.at c.args.len, run_there r.cells.slots v c.args.at c.args.len ok.full)))

pub invariant_of-self-lent : goal.invariant_of-self-lent
invariant_of-self-lent c = λ w.
    let r = c.self.inside in let v = bytes_in r in let ok = c.self.invariant in
    let new = spliced_full r.cells.slots v c.args.at c.args.len ok.full w in
    let bytes = ap somes new ∙ somes-map (with_part v c.args.at c.args.len w) in
    let within : c.args.at + c.args.len ≤ length v = omega (arith, c.requires, ap length c.self.view_is) in
    record {
      cells_at = ok.cells_at;
      deed_at = ok.deed_at;
      deed_len = ok.deed_len;
      deed_alloc = ok.deed_alloc;
      full = new ∙ (λ i. map Some (sym bytes i));
      whole = ap length bytes ∙ length-with_part v c.args.at c.args.len w within ∙ ok.whole;
    }

pub returns : goal.returns
returns c =
    let r = c.self.inside in let v = bytes_in r in let ok = c.self.invariant in (
      (
        refl,
        λ w. ap somes (spliced_full r.cells.slots v c.args.at c.args.len ok.full w) ∙ somes-map (with_part v c.args.at c.args.len w)
            ∙ (λ i. with_part (c.self.view_is i) c.args.at c.args.len w),
      ),
      record {
        writes_back = tt;
        value = same_values c.slice_mut.result.now (part v c.args.at c.args.len) (sym c.slice_mut.ensures.value ∙ run_there r.cells.slots v c.args.at c.args.len ok.full)
            ∙ (λ i. part (c.self.view_is i) c.args.at c.args.len);
      },
    )
