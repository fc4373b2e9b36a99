use Rattle.std.proofs.Common.{◌≡◌, ◌+◌, ◌*◌, ◌++◌, Bool, true, not, List, ℕ, length, refl, ap, ◌∙◌, subst, sym, arith, length-append}
use Rattle.std.specs.Prelude.{is_ok, if◌then◌else◌}
use Rattle.std.specs.List.{insert}
use Rattle.shared_disk.specs.Places.{flights_at, AreThere, AreInOrder, AreBelow, AreNotBelow}
use Rattle.shared_disk.specs.declared.places.Place.{Place}
use Rattle.shared_disk.proofs.PlaceLaws.{in_order, put_there, all_there, next_place, length-insert}
use Rattle.shared_disk.proofs.places.put_flight.Goals as goal

if_true : {X : Type 0} (b : Bool) (x y : X) → b ≡ true → (if b then x else y) ≡ x
if_true b x y is = rw is refl

pub place_of-place-requires : goal.place_of-place-requires
place_of-place-requires c = subst AreInOrder (sym c.deref.ensures.value) (in_order _ _ _ c.requires.rising)

module _ (c : goal.Else-is_err-2) where
  bytes_are : c.extend_from_slice.new.self.items ≡ c.args.bytes.now.items ++ c.args.new.now
  bytes_are = c.extend_from_slice.ensures.items ∙ if_true (is_ok c.extend_from_slice.result) _ _ (c.is_err.ensures.negation ∙ ap not c.if-is_err.false)

  many : c.len-number.result ≡ length c.args.places.now.items
  many = omega (arith, c.len-number.ensures, c.args.places.now.ok)

  places_are : c.insert.new.self.items ≡ insert c.args.places.now.items c.place_of-place.result (next_place c.args.places.now.items c.args.block)
  places_are = c.insert.ensures.items ∙ if_true (is_ok c.insert.result) _ _ (c.is_err-2.ensures.negation ∙ ap not c.if-is_err-2.false)
      ∙ ap (λ (n : ℕ). insert c.args.places.now.items c.place_of-place.result (record { block = c.args.block; number = n })) many

pub returns-clause-flights : goal.returns-clause-flights
returns-clause-flights c =
    let size = length c.args.new.now in
    let below = subst (λ (l : List Place). AreBelow l c.place_of-place.result c.args.block) c.deref.ensures.value c.place_of-place.ensures.below in
    let above = subst (λ (l : List Place). AreNotBelow l c.place_of-place.result c.args.block) c.deref.ensures.value c.place_of-place.ensures.above in
    (λ i. flights_at size (bytes_are c i) (places_are c i))
    ∙ put_there c.args.bytes.now.items c.args.new.now c.args.places.now.items c.place_of-place.result c.args.block c.requires.whole c.requires.there c.requires.rising below above c.requires.free

pub returns-clause-there : goal.returns-clause-there
returns-clause-there c =
    let P = AreThere (length c.args.new.now) in
    let there = all_there c.args.bytes.now.items c.args.new.now c.args.places.now.items c.place_of-place.result c.args.block c.requires.whole c.requires.there in
    subst (P c.extend_from_slice.new.self.items) (sym (places_are c)) (subst (λ (l : List ℕ). P l (insert c.args.places.now.items c.place_of-place.result (next_place c.args.places.now.items c.args.block))) (sym (bytes_are c)) there)

pub returns-clause-count : goal.returns-clause-count
returns-clause-count c = ap length (places_are c) ∙ length-insert c.args.places.now.items c.place_of-place.result _

pub returns-clause-whole : goal.returns-clause-whole
returns-clause-whole c =
    let size = length c.args.new.now in
    let more : (length c.args.places.now.items + 1) * size ≡ length c.args.places.now.items * size + size = omega arith in
    ap length (bytes_are c) ∙ length-append c.args.bytes.now.items c.args.new.now ∙ ap (λ (n : ℕ). n + size) c.requires.whole ∙ sym more
    ∙ ap (λ (n : ℕ). n * size) (sym (ap length (places_are c) ∙ length-insert c.args.places.now.items c.place_of-place.result (next_place c.args.places.now.items c.args.block)))
