use Rattle.std.proofs.Common.{◌↔◌, IsTrue, ◌≡◌}
use Rattle.file_tree.specs.Apply.{apply}
use Rattle.file_tree.specs.declared.reply.Reply.TheVariants as variants
use Rattle.history_checks.proofs.Fronts.{if_ok}
use Rattle.history_checks.proofs.Spaces.{lacks, never_lacks}
use Rattle.history_checks.proofs.answering.lacks_space.Goals as goal

-- it is taken exactly where there may be no room for it
pub returns-then-takes_space : goal.returns-then-takes_space
returns-then-takes_space c = if_ok c.is_taken.result (λ is. IsTrue is ↔ ((apply c.args.call.now c.args.tree.now).reply ≡ variants.Ok)) _
    (λ is h. let same = lacks c.args.call.now c.args.tree.now (c.takes_space.ensures.0 c.if-takes_space.true) in (λ t. same.0 (h.0 t), λ m. h.1 (same.1 m))) c.is_taken.ensures

-- such a call has always room
pub returns-else-takes_space : goal.returns-else-takes_space
returns-else-takes_space c = (λ t. absurd cc, λ m. absurd (never_lacks c.args.call.now c.args.tree.now (λ takes. let t : IsTrue c.takes_space.result = c.takes_space.ensures.1 takes in cc) m))
