use Rattle.std.proofs.Common.{◌≡◌, ◌+◌, ℕ, cond, ap, sym, ◌∙◌, arith}
use Rattle.log_tables.specs.Versions.{Version}
use Rattle.log_tables.proofs.Reading.{all_counted, one_counted}
use Rattle.log_tables.proofs.tables.Tables.fresh_content.Goals as goal
use Rattle.log_tables.proofs.tables.Tables.fresh_content.Goals.{then-fresh_is_plain, else-fresh_is_plain}

pub returns : goal.returns
returns c = all_counted (λ (v : Version). v.plain) c.args.self.now.fresh c.loop-place.place c.loop-place.count c.loop-place.invariant.counts (let end = c.fresh_len-place-end.ensures in omega arith)

pub loop-place-preserved : goal.loop-place-preserved
loop-place-preserved c =
    let more = one_counted (λ (v : Version). v.plain) c.args.self.now.fresh c.loop-place.place c.loop-place.count c.loop-place.invariant.counts c.fresh_is_plain.result
    (let end = c.fresh_len-place-end.ensures in omega arith) c.fresh_is_plain.ensures in
    elim c.if-fresh_is_plain.branch [
      | then-fresh_is_plain w ↦ record { counts = w.count-is ∙ ap (λ b. c.loop-place.count + cond b 1 0) (sym w.if-fresh_is_plain.true) ∙ more; few = omega arith }
      | else-fresh_is_plain w ↦ record { counts = w.count-is ∙ none_more c.loop-place.count ∙ ap (λ b. c.loop-place.count + cond b 1 0) (sym w.if-fresh_is_plain.false) ∙ more; few = omega arith }
    ]
  where
    none_more : (n : ℕ) → n ≡ n + 0
    none_more n = omega arith
