use Rattle.std.proofs.Common.{◌≡◌, ◌+◌, ◌-◌, ◌∷◌, suc, zero, length, sym, ap, ◌∙◌, arith}
use Rattle.log_layout.specs.Journal.{blocks_from, next}
use Rattle.journal_scan.specs.Images.{ring_of}
use Rattle.journal_scan.specs.Numbers.{last_number}
use Rattle.journal_scan.proofs.Numbered.{number_end}
use Rattle.journal_scan.proofs.Steps.{length-blocks}
use Rattle.journal_scan.proofs.entries.find_number.Goals as goal

pub places_between-count-requires-clause-to_in : goal.places_between-count-requires-clause-to_in
places_between-count-requires-clause-to_in c = (c.heads_are_accepted.ensures (ring_of c.args.j.now) c.args.head.now c.requires.headed).0

pub loop-taken-preserved : goal.loop-taken-preserved
loop-taken-preserved c =
    let ring = ring_of c.args.j.now in
    let size = c.args.j.now.block_size in
    let count = c.places_between-count.result in
    let taken = c.loop-taken.taken in
    let left : (count + 1) - taken ≡ suc (count - taken) = omega (arith, c.loop-taken-test.true) in
    let later : (count + 1) - (taken + 1) ≡ count - taken = omega arith in
    let bs = blocks_from ring (next c.args.j.now.length c.loop-taken.place) (count - taken) in
    let long : length bs ≡ count - taken = length-blocks ring (next c.args.j.now.length c.loop-taken.place) (count - taken) in
    record {
      inside = c.next_place-place.ensures.inside;
      same =
          (λ t. last_number size c.args.number c.take.new.self.passed c.take.new.self.found (blocks_from ring (c.next_place-place.ensures.value t) (later t)))
          ∙ (λ t. last_number (sym c.block.ensures.size t) c.args.number c.take.new.self.passed c.take.new.self.found bs)
          ∙ sym (c.take.ensures bs long)
          ∙ (λ t. last_number (c.block.ensures.size t) c.args.number c.loop-taken.search.passed c.loop-taken.search.found (record { place = c.loop-taken.place; bytes = c.block.ensures.block t } ∷ bs))
          ∙ ap (λ n. last_number size c.args.number c.loop-taken.search.passed c.loop-taken.search.found (blocks_from ring c.loop-taken.place n)) (sym left)
          ∙ c.loop-taken.invariant.same;
    }

pub returns : goal.returns
returns c =
    let none : (c.places_between-count.result + 1) - c.loop-taken.taken ≡ zero = omega (arith, c.loop-taken-test.false) in
    sym (number_end c.args.j.now.block_size c.args.number c.loop-taken.search.passed c.loop-taken.search.found)
    ∙ ap (λ n. last_number c.args.j.now.block_size c.args.number c.loop-taken.search.passed c.loop-taken.search.found (blocks_from (ring_of c.args.j.now) c.loop-taken.place n)) (sym none)
    ∙ c.loop-taken.invariant.same
