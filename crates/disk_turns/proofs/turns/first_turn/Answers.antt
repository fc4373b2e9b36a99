use Rattle.std.proofs.Common.{◌++◌, rules, sym, ◌∙◌, subst₂}
use Rattle.std.proofs.lemmas.List.{take-append-drop}
use Rattle.disk_turns.specs.Turns.{IsTurn}
use Rattle.disk_turns.proofs.Stopping.{next_turn}
use Rattle.disk_turns.proofs.turns.first_turn.Goals as goal

pub returns-clause-parts : goal.returns-clause-parts
returns-clause-parts c = sym (take-append-drop _ c.args.blocks.now) ∙ (λ i. sym c.split_at.ensures.front i ++ sym c.split_at.ensures.back i)

pub returns-clause-turn : goal.returns-clause-turn
returns-clause-turn c = subst₂ IsTurn (sym c.split_at.ensures.front) (sym c.split_at.ensures.back) (next_turn c.args.blocks.now c.min.result c.requires (search rules))
