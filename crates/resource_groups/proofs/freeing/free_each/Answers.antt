use Rattle.std.proofs.Common.{◌≡◌, ℕ, List, [], Some, get_or, take, sym, subst, arith}
use Rattle.std.specs.Prelude.{Contains}
use Rattle.std.specs.FinMap.{get}
use Rattle.std.proofs.lemmas.List.{take_more}
use Rattle.drafts.specs.declared.fate.Fate.TheVariants.{Freed}
use Rattle.resource_groups.specs.Freeing.{KeepsAllBut}
use Rattle.resource_groups.proofs.Freed.{nothing_freed, all_upto, one_more_freed, one_more_kept}
use Rattle.resource_groups.proofs.freeing.free_each.Goals as goal

pub loop-block-init : goal.loop-block-init
loop-block-init g c = record { freed = λ b has. absurd (omega (arith, has.1)); rest = nothing_freed c.args.draft.now [] }

pub loop-block-preserved : goal.loop-block-preserved
loop-block-preserved g c =
    let blocks : List ℕ = c.args.blocks.now in
    let n = c.loop-block.block-index in
    let x = get_or blocks n 0 in
    let more = take_more blocks n 0 c.loop-block-test.true in
    record {
      freed = subst (λ xs. (b : ℕ) → Contains xs b → get c.free.new.self.fates b ≡ Some Freed) (sym more)
          (one_more_freed c.args.draft.now c.loop-block.draft c.free.new.self (take n blocks) x c.in_ok-free.ensures.ok c.loop-block.invariant.freed);
      rest = subst (KeepsAllBut c.args.draft.now c.free.new.self) (sym more)
          (one_more_kept c.args.draft.now c.loop-block.draft c.free.new.self (take n blocks) x c.in_ok-free.ensures.ok c.loop-block.invariant.rest);
    }

pub returns-in_err-free-clause-rest : goal.returns-in_err-free-clause-rest
returns-in_err-free-clause-rest g c = all_upto c.args.draft.now c.loop-block.draft c.free.new.self c.args.blocks.now c.loop-block.block-index c.in_err-free.ensures.err c.loop-block.invariant.rest
