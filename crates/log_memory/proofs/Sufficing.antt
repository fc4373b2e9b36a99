-- Whether there is room, by counts.
use Rattle.std.proofs.Common.{◌≡◌, ℕ, ◌+◌, ◌-◌, ◌≤◌, sym, ap, ◌∙◌, arith}
use Rattle.std.specs.FinMap as table
use Rattle.node_journal.specs.Encoding.{size_of, size_with}
use Rattle.log_tables.specs.Kept.{frames_taken as kept_taken}
use Rattle.log_values.specs.Blocks as set
use Rattle.log_values.specs.Changes.{Suffices, frames_taken}
use Rattle.log_values.specs.Transactions.{transaction}
use Rattle.log_memory.specs.Adding.{counts_of}
use Rattle.log_memory.specs.Inside.{IsLog, log_in}
use Rattle.log_memory.specs.declared.adding.Counts.{Counts}
use Rattle.log_memory.specs.declared.log.Log.TheInside.{Inside}
use Rattle.log_memory.proofs.Blocks.{frames_are}
use Rattle.log_memory.proofs.Tallies.{Versions, all_of, tally_is}

module _ (l : Inside) (h : IsLog l) where
  -- frames that aren't of changes, and all
  pub taken_within : kept_taken l.tables ≤ 4096
  taken_within =
      let same = frames_are l h l.tables.fresh in
      let most : frames_taken (log_in l) ≤ l.journal.frames = h.sound.frames in
      let few : l.journal.frames ≤ 4096 = h.sound.few in
      omega arith

  module _ (fresh : Versions) (gone : set.Blocks) (n : Counts) (is : n ≡ counts_of (record (log_in l) { fresh = fresh; gone = gone })) where
    versions_are : n.content + n.metadata ≡ table.len fresh
    versions_are =
        let content = ap (λ (k : Counts). k.content) (is ∙ tally_is (record (log_in l) { fresh = fresh; gone = gone })) in
        let metadata = ap (λ (k : Counts). k.metadata) (is ∙ tally_is (record (log_in l) { fresh = fresh; gone = gone })) in
        let all = all_of fresh in
        omega arith

    frames_after : frames_taken (record (log_in l) { fresh = fresh; gone = gone }) ≡ kept_taken l.tables - table.len l.tables.fresh + n.content + n.metadata
    frames_after = let same = frames_are l h fresh in let all = versions_are in omega arith

    size_after : size_of l.journal.block_size (transaction fresh gone) ≡ size_with l.journal.block_size n.content n.metadata n.revokes
    size_after = ap (λ (k : Counts). size_with l.journal.block_size k.content k.metadata k.revokes) (sym is)

    pub suffice : (frames blocks : ℕ) → frames ≡ kept_taken l.tables - table.len l.tables.fresh + n.content + n.metadata → blocks ≡ size_with l.journal.block_size n.content n.metadata n.revokes
        → frames ≤ l.journal.frames → blocks ≤ 400 → Suffices (record (log_in l) { fresh = fresh; gone = gone })
    suffice frames blocks frames_are blocks_are few small =
        record { frames = (let after = frames_after in omega arith); blocks = (let after = size_after in omega arith) }

    pub frames_needed : (frames : ℕ) → frames ≡ kept_taken l.tables - table.len l.tables.fresh + n.content + n.metadata → Suffices (record (log_in l) { fresh = fresh; gone = gone }) → frames ≤ l.journal.frames
    frames_needed frames frames_are enough = let after = frames_after in let room = enough.frames in omega arith

    pub blocks_needed : (blocks : ℕ) → blocks ≡ size_with l.journal.block_size n.content n.metadata n.revokes → Suffices (record (log_in l) { fresh = fresh; gone = gone }) → blocks ≤ 400
    blocks_needed blocks blocks_are enough = let after = size_after in let room = enough.blocks in omega arith
