use Rattle.std.proofs.Common.{◌≡◌, ◌≢◌, ◌∙◌, true, [], ltb, subst, sym}
use Rattle.log_values.proofs.Resting.{revokes_due}
use Rattle.log_values.specs.Log.{LogValue}
use Rattle.log_values.specs.Transactions.{due}
use Rattle.log_memory.specs.Inside.{log_in}
use Rattle.log_memory.proofs.Questions.{count_tells}
use Rattle.log_memory.proofs.log.Log.has_revokes.Goals as goal

pub returns : goal.returns
returns c =
    subst (λ (log : LogValue). (ltb 0 c.len.result ≡ true → (due log).revokes ≢ []) × ((due log).revokes ≢ [] → ltb 0 c.len.result ≡ true)) c.self.view_is
    (count_tells (due (log_in c.self.inside)).revokes c.len.result (c.len.ensures ∙ sym (revokes_due (log_in c.self.inside))))
