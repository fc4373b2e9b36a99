use Rattle.std.proofs.Common.{length, arith, ap}
use Rattle.std.proofs.lemmas.List.{take_rest, length-drop}
use Rattle.file_tree.proofs.PathLaws.{past_slash}
use Rattle.file_tree.proofs.path.names_of.Goals as goal

pub loop-rest-preserved-then-byte-eq47 : goal.loop-rest-preserved-then-byte-eq47
loop-rest-preserved-then-byte-eq47 c =
    let ok = c.in_ok-end_name.ensures.ok in
    record {
      read = past_slash _ _ c.loop-rest.start _ _ c.loop-rest.at c.loop-rest.rest.now _ c.in-len1-up.len_at_least c.if-byte-eq47.true ok c.loop-rest.invariant.read;
      plain = rw ok.2 tt;
      short = omega (arith, ap length ok.2);
      place = omega (arith, ap length (take_rest c.loop-rest.rest.now 1), length-drop 1 c.loop-rest.rest.now);
    }
