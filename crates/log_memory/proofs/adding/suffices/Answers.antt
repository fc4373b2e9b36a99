use Rattle.std.proofs.Common.{◌≡◌, ◌+◌, ◌-◌, true, false, true≢false, leb, ap₂, sym, subst, arith}
use Rattle.std.proofs.lemmas.Bool.{le-leb, leb-true}
use Rattle.std.specs.Ordering.{nat_cmp}
use Rattle.std.specs.FinMap as table
use Rattle.log_values.specs.Blocks as set
use Rattle.log_values.specs.Log.{LogValue, Version}
use Rattle.log_values.specs.Changes.{Suffices}
use Rattle.log_memory.specs.Adding.{counts_of}
use Rattle.log_memory.proofs.Sufficing.{blocks_needed, frames_needed, suffice, taken_within}
use Rattle.log_memory.proofs.adding.suffices.Goals as goal

pub overflow_add-frames : goal.overflow_add-frames
overflow_add-frames c = let few = taken_within c.log.inside c.log.invariant in let taken = c.taken.ensures in let room = c.requires.versions in omega arith

pub overflow_add-frames-2 : goal.overflow_add-frames-2
overflow_add-frames-2 c = let few = taken_within c.log.inside c.log.invariant in let taken = c.taken.ensures in let room = c.requires.versions in omega arith

pub returns-then-frames-log : goal.returns-then-frames-log
returns-then-frames-log c =
    subst
    (λ (log : LogValue). (fresh : table.FinMap nat_cmp Version) (gone : set.Blocks) → c.args.counts ≡ counts_of (record log { fresh = fresh; gone = gone })
    → (false ≡ true → Suffices (record log { fresh = fresh; gone = gone })) × (Suffices (record log { fresh = fresh; gone = gone }) → false ≡ true)) c.log.view_is
    (λ fresh gone is. (
      λ yes. absurd (true≢false (sym yes)),
      λ enough.
          let frames = ap₂ (λ t f. t - f + c.args.counts.content + c.args.counts.metadata) c.taken.ensures c.fresh_len.ensures in
          let needed = frames_needed c.log.inside c.log.invariant fresh gone c.args.counts is _ frames enough in
          let over = c.if-frames-log.true in
          absurd (omega arith),
    ))

pub returns : goal.returns
returns c =
    subst
    (λ (log : LogValue). (fresh : table.FinMap nat_cmp Version) (gone : set.Blocks) → c.args.counts ≡ counts_of (record log { fresh = fresh; gone = gone })
    → (leb c.size_with-blocks.result 400 ≡ true → Suffices (record log { fresh = fresh; gone = gone })) × (Suffices (record log { fresh = fresh; gone = gone }) → leb c.size_with-blocks.result 400 ≡ true)) c.log.view_is
    (λ fresh gone is. (
      λ yes.
          let frames = ap₂ (λ t f. t - f + c.args.counts.content + c.args.counts.metadata) c.taken.ensures c.fresh_len.ensures in
          suffice c.log.inside c.log.invariant fresh gone c.args.counts is _ c.size_with-blocks.result frames c.size_with-blocks.ensures c.if-frames-log.false (leb-true c.size_with-blocks.result 400 yes),
      λ enough. le-leb c.size_with-blocks.result 400 (blocks_needed c.log.inside c.log.invariant fresh gone c.args.counts is c.size_with-blocks.result c.size_with-blocks.ensures enough),
    ))
