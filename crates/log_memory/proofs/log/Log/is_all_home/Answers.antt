use Rattle.std.proofs.Common.{◌≡◌, ◌+◌, true, nat_eq, arith, eq-eqb, subst}
use Rattle.std.proofs.lemmas.Bool.{eqb-true}
use Rattle.log_values.specs.Flushing.{AllAreHome}
use Rattle.log_values.specs.Log.{LogValue}
use Rattle.log_values.proofs.Resting.{none_away}
use Rattle.log_memory.specs.Inside.{log_in}
use Rattle.log_memory.proofs.Questions.{all_home}
use Rattle.log_memory.proofs.Sufficing.{taken_within}
use Rattle.log_memory.proofs.log.Log.is_all_home.Goals as goal

pub overflow_add-changed : goal.overflow_add-changed
overflow_add-changed c =
    let few = taken_within c.self.inside c.self.invariant in
    let fresh = c.fresh_len.ensures in
    let flushed = c.flushed_len.ensures in
    omega arith

pub returns : goal.returns
returns c =
    let fresh = c.fresh_len.ensures in
    let flushed = c.flushed_len.ensures in
    let taken = c.taken.ensures in
    subst (λ (log : LogValue). (nat_eq c.taken.result (c.fresh_len.result + c.flushed_len.result) ≡ true → AllAreHome log) × (AllAreHome log → nat_eq c.taken.result (c.fresh_len.result + c.flushed_len.result) ≡ true)) c.self.view_is (
      λ yes. all_home (log_in c.self.inside) (let same = eqb-true c.taken.result (c.fresh_len.result + c.flushed_len.result) yes in omega arith),
      λ home. eq-eqb c.taken.result (c.fresh_len.result + c.flushed_len.result) (let none = none_away (log_in c.self.inside) home in omega arith),
    )
