use Rattle.std.proofs.Common.{◌≡◌, ◌+◌, ◌-◌, ℕ, List, ap, arith, length, subst, sym, Ok, ◌∙◌}
use Rattle.journal_scan.specs.Said.{says}
use Rattle.log_layout.specs.Headers.{as_read, log_put, log_read}
use Rattle.log_layout.specs.Journal.{Placed}
use Rattle.node_journal.specs.Encoding.{chunks, header_block, header_of, header_place, zeros}
use Rattle.node_journal.specs.Places.{place_on}
use Rattle.node_journal.proofs.Lengths.{chunks_length}
use Rattle.node_journal.proofs.Placing.{placed_next}
use Rattle.node_journal.proofs.encoding.encode.Goals as goal

-- the header's place
stands : (count at first places : ℕ) (blocks : List (List ℕ)) → length blocks + 1 ≡ count → at ≡ place_on places first (count - 1) → at ≡ place_on places first (length blocks)
stands count at first places blocks long is = is ∙ ap (place_on places first) (let e : count - 1 ≡ length blocks = omega (arith, long) in e)

pub returns-clause-blocks : goal.returns-clause-blocks
returns-clause-blocks c =
    let size = c.args.block_size in
    let at = c.args.at.now in
    let t = says c.args.t.now in
    let all = chunks size at.jid t in
    let there : c.place_after-place.result ≡ header_place size at t =
    stands c.size.result c.place_after-place.result at.first at.length all (chunks_length size at.jid t c.requires.whole.sized ∙ sym c.size.ensures) c.place_after-place.ensures.value in
    let header : c.in_ok-block.block.items ≡ header_block size at t = c.in_ok-block.ensures.bytes ∙ (λ i. log_put (header_of at (there i)) (zeros size)) in
    placed_next (λ b. let p : Placed = record { place = b.0; bytes = b.1.items } in p) at.length at.first all (header_block size at t) c.in_ok-placed.placed.items c.push.new.self.items _
    c.in_ok-placed.ensures c.in_ok-push.ensures.items (λ i. record { place = there i; bytes = header i })

pub returns-clause-header : goal.returns-clause-header
returns-clause-header c =
    let size = c.args.block_size in
    let at = c.args.at.now in
    let t = says c.args.t.now in
    let all = chunks size at.jid t in
    let there : c.place_after-place.result ≡ header_place size at t =
    stands c.size.result c.place_after-place.result at.first at.length all (chunks_length size at.jid t c.requires.whole.sized ∙ sym c.size.ensures) c.place_after-place.ensures.value in
    let header : c.in_ok-block.block.items ≡ header_block size at t = c.in_ok-block.ensures.bytes ∙ (λ i. log_put (header_of at (there i)) (zeros size)) in
    let P : ℕ → Type 0 = λ p. log_read (header_block size at t) ≡ Ok (as_read (header_of at p) (header_block size at t)) in
    let Q : List ℕ → Type 0 = λ bs. log_read bs ≡ Ok (as_read (header_of at c.place_after-place.result) bs) in
    subst P there (subst Q header c.in_ok-block.ensures.read)
