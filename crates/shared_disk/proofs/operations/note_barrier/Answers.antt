use Rattle.std.proofs.Common.{◌+◌, List, [], refl, sym, arith}
use Rattle.std.proofs.lemmas.List.{append-nil}
use Rattle.shared_disk.specs.Disk.{Flight, Operation, Barrier}
use Rattle.shared_disk.specs.Operations.{flights_kept}
use Rattle.shared_disk.specs.declared.operations.Kept.TheVariants.{Flushed}
use Rattle.shared_disk.specs.declared.operations.Operations.{Operations}
use Rattle.shared_disk.proofs.OperationLaws.{Adds, told_more, kept_more}
use Rattle.shared_disk.proofs.operations.note_barrier.Goals as goal

pub returns : goal.returns
returns c =
    let o = c.args.operations.now in
    let o' : Operations = record { limit = o.limit; size = o.size; told = o.told; entries = o.entries + 1; kept = c.push_reserved.new.self; slots = o.slots; used = o.used } in
    let gs : List Flight = [] in
    let op : Operation = Barrier c.args.node in
    let a : Adds o o' (Flushed c.args.node) gs op = record {
      was_told = c.if-not-operations.false;
      told = refl;
      limit = refl;
      slots = refl;
      sizes = c.requires.sizes;
      room = c.push_reserved.ensures.capacity;
      kept = c.push_reserved.ensures.items;
      flights = sym (append-nil (flights_kept c.args.operations.now));
      used = omega arith;
      takes = refl;
      means = refl;
      some = omega arith;
      few = omega arith;
      entries = refl;
      fits = omega arith;
    } in
    record {
      told = told_more o o' (Flushed c.args.node) gs op c.requires a;
      room = record { limit = refl; size = refl };
      kept = kept_more o o' (Flushed c.args.node) gs op c.requires a;
    }
