use Rattle.std.proofs.Common.{◌<◌, ℕ, Some, refl, sym, ap, ◌∙◌, subst}
use Rattle.std.proofs.lemmas.Option.{slice_get_within}
use Rattle.std.specs.FinMap as table
use Rattle.log_values.specs.Log.{LogValue}
use Rattle.log_values.specs.Homing.{HomeAnswer}
use Rattle.log_values.specs.Homing.HomeAnswer.{nothing, goes_home}
use Rattle.log_values.specs.declared.steps.LogStep.TheVariants as step
use Rattle.log_memory.proofs.Sending.{away_under, begun_is_some, least, none_begun, none_goes}
use Rattle.log_memory.proofs.log.Log.home_step.Goals as goal

pub returns-then-is_some : goal.returns-then-is_some
returns-then-is_some c = nothing (λ b at none is. begun_is_some _ c.self.inside.stage (sym c.if-is_some.ensures) (ap (λ (log : LogValue). log.flush) c.self.view_is ∙ none)) refl

pub returns-in_default : goal.returns-in_default
returns-in_default c = nothing (λ b at none is. none_goes c.args.self.now c.args.lock (c.first_that_goes.ensures.none c.in_default.is) b at is) refl

pub send-block-requires-clause-there : goal.send-block-requires-clause-there
send-block-requires-clause-there c =
    subst (λ n. c.in-Some.place < n) (sym (table.len-entries c.args.self.now.live)) (slice_get_within (table.entries c.args.self.now.live) c.in-Some.place c.in-Some.ensures.some.entry c.in-Some.ensures.some.here)

pub returns : goal.returns
returns c =
    let first = c.in-Some.ensures.some in
    let none = ap (λ (log : LogValue). log.flush) (sym c.self.view_is) ∙ none_begun _ c.self.inside.stage (sym c.if-is_some.ensures) in
    let is = away_under c.args.self.now c.args.lock c.in-Some.place first c.send-block.new.into (c.send-block.ensures.bytes first.entry first.here) in
    subst (λ (b : ℕ). HomeAnswer c.args.self.now c.send-block.new.log c.args.lock c.send-block.new.into (Some (step.Write b))) (sym (c.send-block.ensures.block first.entry first.here))
    (goes_home first.entry.0 is none (least c.args.self.now c.args.lock c.in-Some.place first) (c.send-block.ensures.sent first.entry first.here))
