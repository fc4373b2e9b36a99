use Rattle.std.proofs.Common.{◌≡◌, false, ltb, arith, subst}
use Rattle.std.proofs.lemmas.Bool.{le-ltb, ltb-false}
use Rattle.log_values.specs.Flushing.{NothingIsLive}
use Rattle.log_values.specs.Log.{LogValue}
use Rattle.log_memory.specs.Inside.{log_in}
use Rattle.log_memory.proofs.Questions.{live_none, nothing_live}
use Rattle.log_memory.proofs.log.Log.has_live.Goals as goal

pub returns : goal.returns
returns c =
    let live = c.live_len.ensures in
    subst (λ (log : LogValue). (ltb 0 c.live_len.result ≡ false → NothingIsLive log) × (NothingIsLive log → ltb 0 c.live_len.result ≡ false)) c.self.view_is (
      λ no. nothing_live (log_in c.self.inside) (let none = ltb-false 0 c.live_len.result no in omega arith),
      λ nothing. le-ltb 0 c.live_len.result (let none = live_none (log_in c.self.inside) nothing in omega arith),
    )
