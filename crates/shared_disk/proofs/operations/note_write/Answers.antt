use Rattle.std.proofs.Common.{ℕ, ◌≡◌, ◌+◌, List, [], ◌∷◌, ◌++◌, length, take, refl, sym, ap, ◌∙◌, subst, arith}
use Rattle.std.specs.Vec.{with_items}
use Rattle.std.proofs.lemmas.List.{with_items_is}
use Rattle.shared_disk.specs.Disk.{Flight, Operation, Write}
use Rattle.shared_disk.specs.Flights.{flights_in, AreSized}
use Rattle.shared_disk.specs.declared.flights.Slot.{Slot}
use Rattle.shared_disk.specs.declared.operations.Kept.TheVariants.{Written}
use Rattle.shared_disk.specs.declared.operations.Operations.{Operations}
use Rattle.shared_disk.proofs.OperationLaws.{Adds, told_more, kept_more}
use Rattle.shared_disk.proofs.operations.note_write.Goals as goal

pub returns : goal.returns
returns c =
    let o = c.args.operations.now in
    let o' : Operations = record { limit = o.limit; size = o.size; told = o.told; entries = o.entries + 1; kept = c.push_reserved.new.self; slots = with_items o.slots c.fill_slot.new.slots; used = o.used + 1 } in
    let gs : List Flight = record { block = c.args.block; bytes = c.args.bytes.now } ∷ [] in
    let op : Operation = Write c.args.node c.args.block c.args.bytes.now in
    let kept : (with_items o.slots c.fill_slot.new.slots).items ≡ c.fill_slot.new.slots = with_items_is o.slots c.fill_slot.new.slots (c.fill_slot.auto.slots ∙ c.deref_mut.ensures.len) in
    let P : List Slot → Type 0 = λ l. AreSized o.size l in
    let Q : ℕ → Type 0 = λ n. AreSized n c.fill_slot.new.slots in
    let a : Adds o o' (Written c.args.node) gs op = record {
      was_told = c.if-not-operations.false;
      told = refl;
      limit = refl;
      slots = ap (λ (l : List Slot). length l) kept ∙ c.fill_slot.auto.slots ∙ ap (λ (l : List Slot). length l) c.deref_mut.ensures.value;
      sizes = subst P (sym kept) (subst Q c.requires.size c.fill_slot.ensures.sizes);
      room = c.push_reserved.ensures.capacity;
      kept = c.push_reserved.ensures.items;
      flights = ap (λ (l : List Slot). flights_in (take (o.used + 1) l)) kept
          ∙ c.fill_slot.ensures.flights
          ∙ ap (λ (l : List Slot). flights_in (take o.used l) ++ record { block = c.args.block; bytes = c.args.bytes.now } ∷ []) c.deref_mut.ensures.value;
      used = refl;
      takes = refl;
      means = refl;
      some = omega arith;
      few = omega arith;
      entries = refl;
      fits = omega arith;
    } in
    record {
      told = told_more o o' (Written c.args.node) gs op c.requires.kept a;
      room = record { limit = refl; size = refl };
      kept = kept_more o o' (Written c.args.node) gs op c.requires.kept a;
    }
