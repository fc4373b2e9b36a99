use Rattle.std.proofs.Common.{ℕ, ◌≡◌, ◌+◌, List, [], ◌∷◌, ◌++◌, length, map, take, refl, sym, ap, ◌∙◌, subst, arith}
use Rattle.std.specs.Vec.{with_items}
use Rattle.std.proofs.lemmas.List.{with_items_is, length-map, take_all}
use Rattle.shared_disk.specs.Disk.{Flight, Operation, Fence}
use Rattle.shared_disk.specs.Blocks.{block_in}
use Rattle.shared_disk.specs.Flights.{flights_in, AreSized}
use Rattle.shared_disk.specs.Operations.{now_at}
use Rattle.shared_disk.specs.declared.flights.Slot.{Slot}
use Rattle.shared_disk.specs.declared.operations.Kept.TheVariants.{Settled}
use Rattle.shared_disk.specs.declared.operations.Operations.{Operations}
use Rattle.shared_disk.proofs.OperationLaws.{Adds, told_more, kept_more}
use Rattle.shared_disk.proofs.operations.note_fence.Goals as goal

pub returns : goal.returns
returns c =
    let o = c.args.operations.now in
    let o' : Operations = record { limit = o.limit; size = o.size; told = o.told; entries = o.entries + (1 + length c.args.places.now); kept = c.push_reserved.new.self; slots = with_items o.slots c.keep_blocks.new.kept; used = o.used + length c.args.places.now } in
    let gs : List Flight = map (now_at (block_in c.args.size c.args.row.now)) c.args.places.now in
    let op : Operation = Fence c.args.node (map (now_at (block_in c.args.size c.args.row.now)) c.args.places.now) in
    let kept : (with_items o.slots c.keep_blocks.new.kept).items ≡ c.keep_blocks.new.kept = with_items_is o.slots c.keep_blocks.new.kept (c.keep_blocks.auto.kept ∙ c.deref_mut.ensures.len) in
    let P : List Slot → Type 0 = λ l. AreSized o.size l in
    let Q : ℕ → Type 0 = λ n. AreSized n c.keep_blocks.new.kept in
    let became = map (now_at (block_in c.args.size c.args.row.now)) c.args.places.now in
    let many : length became ≡ length c.args.places.now = length-map c.args.places.now (now_at (block_in c.args.size c.args.row.now)) in
    let a : Adds o o' (Settled c.args.node (length c.args.places.now)) gs op = record {
      was_told = c.if-not-operations.false;
      told = refl;
      limit = refl;
      slots = ap (λ (l : List Slot). length l) kept ∙ c.keep_blocks.auto.kept ∙ ap (λ (l : List Slot). length l) c.deref_mut.ensures.value;
      sizes = subst P (sym kept) (subst Q c.requires.size c.keep_blocks.ensures.sizes);
      room = c.push_reserved.ensures.capacity;
      kept = c.push_reserved.ensures.items;
      flights = ap (λ (l : List Slot). flights_in (take (o.used + length c.args.places.now) l)) kept
          ∙ c.keep_blocks.ensures.flights
          ∙ ap (λ (l : List Slot). flights_in (take o.used l) ++ became) c.deref_mut.ensures.value;
      used = ap (λ (n : ℕ). o.used + n) (sym many);
      takes = sym many;
      means = ap (λ (l : List Flight). Fence c.args.node l ∷ []) (take_all (length c.args.places.now) became (omega arith));
      some = omega arith;
      few = omega (arith, many);
      entries = ap (λ (n : ℕ). o.entries + (1 + n)) (sym many);
      fits = omega arith;
    } in
    record {
      told = told_more o o' (Settled c.args.node (length c.args.places.now)) gs op c.requires.kept a;
      room = record { limit = refl; size = refl };
      kept = kept_more o o' (Settled c.args.node (length c.args.places.now)) gs op c.requires.kept a;
    }
