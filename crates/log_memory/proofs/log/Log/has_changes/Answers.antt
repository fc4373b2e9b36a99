use Rattle.std.proofs.Common.{◌≡◌, ◌≢◌, ◌∙◌, true, [], ltb, subst, sym}
use Rattle.log_values.proofs.Resting.{blocks_due}
use Rattle.log_values.specs.Log.{LogValue}
use Rattle.log_values.specs.Transactions.{due}
use Rattle.log_memory.specs.Inside.{log_in}
use Rattle.log_memory.proofs.Questions.{count_tells}
use Rattle.log_memory.proofs.log.Log.has_changes.Goals as goal

pub returns : goal.returns
returns c =
    subst (λ (log : LogValue). (ltb 0 c.fresh_len.result ≡ true → (due log).blocks ≢ []) × ((due log).blocks ≢ [] → ltb 0 c.fresh_len.result ≡ true)) c.self.view_is
    (count_tells (due (log_in c.self.inside)).blocks c.fresh_len.result (c.fresh_len.ensures ∙ sym (blocks_due (log_in c.self.inside))))
