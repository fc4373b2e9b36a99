use Rattle.std.proofs.Common.{◌≡◌, ◌/◌, ℕ, List, length, get_or, sym, ap, ◌∙◌, subst, arith}
use Rattle.shared_disk.specs.Blocks.{block_in}
use Rattle.shared_disk.specs.Disk.{written, with_value, AreFlights}
use Rattle.shared_disk.specs.Places.{flights_at}
use Rattle.shared_disk.proofs.PlaceLaws.{nowhere}
use Rattle.shared_disk.proofs.SettleLaws.{flights_rest, there_rest, put_loop}
use Rattle.shared_disk.proofs.outcomes.put_blocks.Goals as goal

pub loop-rest-preserved : goal.loop-rest-preserved
loop-rest-preserved c =
    let size = c.args.size in
    let rest = c.loop-rest.rest.now in
    let was = c.loop-rest.invariant in
    let kept : length c.put_block.new.row ≡ length c.loop-rest.row = c.put_block.auto.row in
    let P : ℕ → Type 0 = λ n. AreFlights (n / size) size (flights_at size c.args.bytes.now rest) in
    record {
      flights = flights_rest _ size c.args.bytes.now rest (omega arith) (subst P (sym kept) was.flights);
      there = there_rest size c.args.bytes.now rest was.there;
      same_end = put_loop size c.args.bytes.now (block_in size c.loop-rest.row) (block_in size c.put_block.new.row) (λ k. written (block_in size c.args.row.now) (flights_at size c.args.bytes.now c.args.places.now) k) rest (omega arith) was.flights.rise
          (λ k. c.put_block.ensures k ∙ ap (λ (b : List ℕ). with_value (block_in size c.loop-rest.row) (get_or rest 0 nowhere).block b k) c.bytes_at-new.ensures) was.same_end;
    }
