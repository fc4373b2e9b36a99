-- One more operation in the list.
use Rattle.std.proofs.Common.{◌≡◌, ◌+◌, ◌<◌, ◌≤◌, true, List, [], ◌∷◌, ◌++◌, length, take, drop, refl, sym, ap, ◌∙◌, arith}
use Rattle.std.specs.Prelude.{Some, vec_capacity}
use Rattle.std.proofs.lemmas.List.{take-append-le, drop-append-le, length-drop, length-map, length-take-le, length_push}
use Rattle.std.proofs.lemmas.Bool.{lt-ltb}
use Rattle.shared_disk.specs.Disk.{Flight, Operation, Write, Barrier, Fence}
use Rattle.shared_disk.specs.Flights.{flight_in, AreSized}
use Rattle.shared_disk.specs.Operations.{entries_of, entries_in, with_operation, takes_of, takes_in, operations, flights_kept, list_kept, list_told, IsKept}
use Rattle.shared_disk.specs.declared.operations.Kept.{Kept}
use Rattle.shared_disk.specs.declared.operations.Kept.TheVariants.{Written, Flushed, Settled}
use Rattle.shared_disk.specs.declared.operations.Operations.{Operations}

pub operations-push : (ks : List Kept) (fs gs : List Flight) (k : Kept) → takes_in ks ≡ length fs → operations (ks ++ k ∷ []) (fs ++ gs) ≡ operations ks fs ++ operations (k ∷ []) gs
operations-push [] [] gs k e = refl
operations-push [] (f ∷ fs) gs k e = absurd (omega arith)
operations-push (Written node ∷ ks) [] gs k e = absurd (omega arith)
operations-push (Written node ∷ ks) (f ∷ fs) gs k e = ap (λ l. Write node f.block f.bytes ∷ l) (operations-push ks fs gs k (omega arith))
operations-push (Flushed node ∷ ks) fs gs k e = ap (λ l. Barrier node ∷ l) (operations-push ks fs gs k (omega arith))
operations-push (Settled node count ∷ ks) fs gs k e =
    let few : count ≤ length fs = omega arith in
    rw (take-append-le count fs gs few, drop-append-le count fs gs few) (ap (λ l. Fence node (take count fs) ∷ l) (operations-push ks (drop count fs) gs k (omega (arith, length-drop count fs))))

pub entries_in-push : (ops : List Operation) (op : Operation) → entries_in (ops ++ op ∷ []) ≡ entries_in ops + entries_of op
entries_in-push [] op = omega arith
entries_in-push (o ∷ ops) op = omega (arith, entries_in-push ops op)

pub takes_in-push : (ks : List Kept) (k : Kept) → takes_in (ks ++ k ∷ []) ≡ takes_in ks + takes_of k
takes_in-push [] k = omega arith
takes_in-push (o ∷ ks) k = omega (arith, takes_in-push ks k)

-- a list has become longer by an operation with these flights
pub record Adds (o o' : Operations) (k : Kept) (gs : List Flight) (op : Operation) : Type 0 where
  pub was_told : o.told ≡ true
  pub told : o'.told ≡ o.told
  pub limit : o'.limit ≡ o.limit
  pub slots : length o'.slots.items ≡ length o.slots.items
  pub sizes : AreSized o'.size o'.slots.items
  pub room : vec_capacity o'.kept ≡ vec_capacity o.kept
  pub kept : o'.kept.items ≡ o.kept.items ++ k ∷ []
  pub flights : flights_kept o' ≡ flights_kept o ++ gs
  pub used : o'.used ≡ o.used + length gs
  pub takes : takes_of k ≡ length gs
  pub means : operations (k ∷ []) gs ≡ op ∷ []
  pub some : 1 ≤ entries_of op
  pub few : length gs ≤ entries_of op
  pub entries : o'.entries ≡ o.entries + entries_of op
  pub fits : o'.entries < o.limit

pub list_more : (o o' : Operations) (k : Kept) (gs : List Flight) (op : Operation) → IsKept o → Adds o o' k gs op → list_kept o' ≡ list_kept o ++ op ∷ []
list_more o o' k gs op h a =
    let size : length (flights_kept o) ≡ o.used = length-map (take o.used o.slots.items) flight_in ∙ length-take-le o.used o.slots.items (omega (arith, h.slots, h.used, h.within)) in
    ap (λ l. operations l (flights_kept o')) a.kept
    ∙ ap (λ l. operations (o.kept.items ++ k ∷ []) l) a.flights
    ∙ operations-push o.kept.items (flights_kept o) gs k (h.takes ∙ sym size)
    ∙ ap (λ l. list_kept o ++ l) a.means

pub told_more : (o o' : Operations) (k : Kept) (gs : List Flight) (op : Operation) → IsKept o → Adds o o' k gs op → list_told o' ≡ with_operation o.limit (list_told o) op
told_more o o' k gs op h a =
    let fits : entries_in (list_kept o) + entries_of op < o.limit = omega (arith, h.entries, a.entries, a.fits) in
    rw (a.told, a.was_told, lt-ltb (entries_in (list_kept o) + entries_of op) o.limit fits) (ap (λ l. Some l) (list_more o o' k gs op h a))

pub kept_more : (o o' : Operations) (k : Kept) (gs : List Flight) (op : Operation) → IsKept o → Adds o o' k gs op → IsKept o'
kept_more o o' k gs op h a = record {
  slots = a.slots ∙ h.slots ∙ sym a.limit;
  sizes = a.sizes;
  room = a.room ∙ h.room ∙ sym a.limit;
  kept = omega (arith, h.kept, a.entries, a.some, ap (λ l. length l) a.kept, length_push o.kept.items k);
  used = omega (arith, h.used, a.used, a.few, a.entries);
  within = omega (arith, a.fits, a.limit);
  takes = ap takes_in a.kept ∙ takes_in-push o.kept.items k ∙ omega (arith, h.takes, a.takes, a.used);
  entries = ap entries_in (list_more o o' k gs op h a) ∙ entries_in-push (list_kept o) op ∙ omega (arith, h.entries, a.entries);
}
