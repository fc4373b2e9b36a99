use Rattle.std.proofs.Common.{◌≡◌, ◌≤◌, ℕ, Bool, true, false, List, ap, arith, filter, length, map, subst, sym, ◌∙◌}
use Rattle.std.specs.Prelude.{if◌then◌else◌, not}
use Rattle.std.specs.List.{slice_get}
use Rattle.std.proofs.lemmas.List.{length-map, take_all}
use Rattle.std.proofs.lemmas.List.Elements.{All-filter}
use Rattle.drafts.specs.declared.change.Transaction.{Transaction as Held}
use Rattle.journal_scan.specs.Said.{logged, says}
use Rattle.log_layout.specs.Chunks.{Logged}
use Rattle.log_layout.specs.Journal.{Placed, next}
use Rattle.node_journal.specs.Encoding.{chunks, chunks_with, content_of, metadata_of}
use Rattle.node_journal.specs.Places.{placed_from}
use Rattle.node_journal.specs.Written.{AreWhole, IsLoggableAll}
use Rattle.node_journal.proofs.Lengths.{chunks_length, filter_is_less}
use Rattle.node_journal.proofs.Placing.{one_further, one_more_placed}
use Rattle.node_journal.proofs.encoding.place_chunks.Goals as goal

abbrev is_of : Bool → Logged → Bool
is_of plain e = if plain then e.plain else not e.plain

-- what is selected is no more than there is, and whole
few : {A : Type 0} (size : ℕ) (t : Held) (plain : Bool) (f : A → Logged) (xs : List A) → IsLoggableAll size (says t) → map f xs ≡ filter (is_of plain) (says t).blocks → length xs ≤ 131072
few size t plain f xs is e =
    let all : length (filter (is_of plain) (says t).blocks) ≤ length (says t).blocks = filter_is_less (is_of plain) (says t).blocks in
    let same : length xs ≡ length (filter (is_of plain) (says t).blocks) = sym (length-map xs f) ∙ ap length e in
    omega (arith, all, same, is.few)

whole : {A : Type 0} (size : ℕ) (t : Held) (plain : Bool) (f : A → Logged) (xs : List A) → IsLoggableAll size (says t) → map f xs ≡ filter (is_of plain) (says t).blocks → AreWhole size (map f xs)
whole size t plain f xs is e =
    let all : AreWhole size (says t).blocks = λ k d h. (is.blocks k d h).whole in
    let P : List Logged → Type 0 = λ es. AreWhole size es in
    subst P (sym e) (All-filter (is_of plain) (λ (e : Logged). length e.bytes ≡ size) (says t).blocks all)

pub chunk_block-requires-clause-few_content : goal.chunk_block-requires-clause-few_content
chunk_block-requires-clause-few_content c = few c.args.block_size c.args.t.now true (λ r. logged r.now) c.in_ok-content.content.blocks.items c.requires.whole c.in_ok-content.ensures

pub chunk_block-requires-clause-few_metadata : goal.chunk_block-requires-clause-few_metadata
chunk_block-requires-clause-few_metadata c = few c.args.block_size c.args.t.now false (λ r. logged r.now) c.in_ok-metadata.metadata.blocks.items c.requires.whole c.in_ok-metadata.ensures

pub chunk_block-requires-clause-content : goal.chunk_block-requires-clause-content
chunk_block-requires-clause-content c = whole c.args.block_size c.args.t.now true (λ r. logged r.now) c.in_ok-content.content.blocks.items c.requires.whole c.in_ok-content.ensures

pub chunk_block-requires-clause-metadata : goal.chunk_block-requires-clause-metadata
chunk_block-requires-clause-metadata c = whole c.args.block_size c.args.t.now false (λ r. logged r.now) c.in_ok-metadata.metadata.blocks.items c.requires.whole c.in_ok-metadata.ensures

-- the blocks that are asked for one by one are the transaction's
same_chunks : (size jid : ℕ) (t : Held) (cs ms : List Logged) (rs : List ℕ) → cs ≡ content_of (says t) → ms ≡ metadata_of (says t) → rs ≡ (says t).revokes → chunks_with size jid cs ms rs ≡ chunks size jid (says t)
same_chunks size jid t cs ms rs a b d = λ i. chunks_with size jid (a i) (b i) (d i)

pub chunk_block-requires-clause-index : goal.chunk_block-requires-clause-index
chunk_block-requires-clause-index c =
    let size = c.args.block_size in
    let same = same_chunks size c.args.at.now.jid c.args.t.now (map (λ r. logged r.now) c.in_ok-content.content.blocks.items) (map (λ r. logged r.now) c.in_ok-metadata.metadata.blocks.items) c.deref.result.now
    c.in_ok-content.ensures c.in_ok-metadata.ensures c.deref.ensures.value in
    omega (arith, ap length same, chunks_length size c.args.at.now.jid (says c.args.t.now) c.requires.whole.sized, c.size-index-end.ensures, c.loop-index-test.true)

pub loop-index-preserved : goal.loop-index-preserved
loop-index-preserved c =
    let size = c.args.block_size in
    let places = c.args.at.now.length in
    let first = c.args.at.now.first in
    let before = c.loop-index.invariant in
    let same = same_chunks size c.args.at.now.jid c.args.t.now (map (λ r. logged r.now) c.in_ok-content.content.blocks.items) (map (λ r. logged r.now) c.in_ok-metadata.metadata.blocks.items) c.deref.result.now
    c.in_ok-content.ensures c.in_ok-metadata.ensures c.deref.ensures.value in
    record {
      placed = one_more_placed (λ b. let p : Placed = record { place = b.0; bytes = b.1.items } in p) places first c.loop-index.index (chunks size c.args.at.now.jid (says c.args.t.now)) c.in_ok-block.block.items
          c.loop-index.placed.items c.push.new.self.items (c.loop-index.place, c.in_ok-block.block) (ap (λ bs. slice_get bs c.loop-index.index) (sym same) ∙ c.in_ok-block.ensures) before.placed c.in_ok-push.ensures.items
          (λ i. record { place = before.place i; bytes = c.in_ok-block.block.items });
      place = c.next_place-place.ensures.value ∙ ap (next places) before.place ∙ sym (one_further places first c.loop-index.index);
      inside = c.next_place-place.ensures.inside;
    }

pub returns : goal.returns
returns c =
    let all = chunks c.args.block_size c.args.at.now.jid (says c.args.t.now) in
    let end : length all ≤ c.loop-index.index = omega (arith, chunks_length c.args.block_size c.args.at.now.jid (says c.args.t.now) c.requires.whole.sized, c.size-index-end.ensures, c.loop-index-test.false) in
    c.loop-index.invariant.placed ∙ ap (placed_from c.args.at.now.length c.args.at.now.first) (take_all c.loop-index.index all end)
