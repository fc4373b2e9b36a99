use Rattle.std.proofs.Common.{ℕ, List, ◌∷◌, subst₂}
use Rattle.std.specs.Prelude.{Contains, IfSome}
use Rattle.glock_names.specs.Steps.{IfIs}
use Rattle.name_drafts.specs.Way.{IsOnWay}
use Rattle.making_calls.proofs.blocks.taken_on_way.Goals as goal

pub returns-clause-some : goal.returns-clause-some
returns-clause-some g c h shown =
    subst₂ (λ n (xs : List ℕ). IfIs c.block_on_way.result (λ found. IfSome found (λ b. Contains (c.args.room.now.new.block ∷ xs) b × IsOnWay h n b))) c.bytes.ensures.bytes c.deref.ensures.value (c.block_on_way.ensures.some h shown)
