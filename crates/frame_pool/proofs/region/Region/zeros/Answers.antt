use Rattle.std.proofs.Common.{length, replicate, ap, ◌∙◌}
use Rattle.std.proofs.lemmas.List.{length-replicate}
use Rattle.frame_pool.specs.Places.{somes}
use Rattle.frame_pool.proofs.Regions.{full_again, somes-map}
use Rattle.frame_pool.proofs.region.Region.zeros.Goals as goal

pub invariant_of-result : goal.invariant_of-result
invariant_of-result c =
    let made = c.in_ok-base.ensures in let zeros = replicate c.args.len 0 in
    record {
      cells_at = c.write_zeros.ensures.0 ∙ made.0;
      deed_at = made.2;
      deed_len = made.3;
      deed_alloc = made.4;
      full = full_again c.write_zeros.new.cells.slots zeros c.write_zeros.ensures.1;
      whole = ap length (ap somes c.write_zeros.ensures.1 ∙ somes-map zeros) ∙ length-replicate c.args.len 0;
    }

pub returns : goal.returns
returns c = ap somes c.write_zeros.ensures.1 ∙ somes-map (replicate c.args.len 0)
