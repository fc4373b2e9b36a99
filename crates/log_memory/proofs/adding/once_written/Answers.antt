use Rattle.std.proofs.Common.{◌≤◌, ◌∙◌, ℕ, Bool, Option, ap, refl, subst, sym}
use Rattle.log_tables.proofs.Counting.{one}
use Rattle.log_memory.specs.Adding.{IsAmong, less, more}
use Rattle.log_memory.specs.declared.adding.Counts.{Counts}
use Rattle.log_memory.proofs.Counted.{byte_is, change_among, change_is, gone_among, written_counts}
use Rattle.log_memory.proofs.Tallies.{change_at}
use Rattle.log_memory.proofs.adding.once_written.Goals as goal

pub without-rest-requires : goal.without-rest-requires
without-rest-requires c =
    subst (λ (o : Option Bool). IsAmong o c.args.counts) (sym (change_is c.log.inside c.args.log.now c.args.written.now.block c.change_of.result c.log.view_is c.change_of.ensures))
    (change_among c.args.log.now c.args.written.now.block c.args.counts c.requires.counted)

pub overflow_sub-result : goal.overflow_sub-result
overflow_sub-result c =
    let change = change_is c.log.inside c.args.log.now c.args.written.now.block c.change_of.result c.log.view_is c.change_of.ensures in
    let all_are = c.with-all.ensures ∙ ap (more c.args.written.now.plain) (c.without-rest.ensures ∙ ap (λ (o : Option Bool). less o c.args.counts) change) in
    let within = subst (λ (n : Counts). one c.is_gone-is_gone.result ≤ n.revokes) (sym all_are)
    (subst (λ (b : Bool). one b ≤ (more c.args.written.now.plain (less (change_at c.args.log.now.fresh c.args.written.now.block) c.args.counts)).revokes) (sym c.is_gone-is_gone.ensures)
    (gone_among c.args.log.now c.args.written.now.block c.args.counts c.requires.counted c.args.written.now.plain)) in
    subst (λ (d : ℕ). d ≤ c.with-all.result.revokes) (sym (c.from.ensures ∙ byte_is c.is_gone-is_gone.result)) within

pub returns : goal.returns
returns c = λ m lock alike is.
    let change = change_is c.log.inside c.args.log.now c.args.written.now.block c.change_of.result c.log.view_is c.change_of.ensures in
    let all_are = c.with-all.ensures ∙ ap (more c.args.written.now.plain) (c.without-rest.ensures ∙ ap (λ (o : Option Bool). less o c.args.counts) change) in
    written_counts c.args.log.now c.args.written.now.block c.args.counts m alike is c.args.written.now lock c.with-all.result c.is_gone-is_gone.result c.from.result refl all_are
    c.is_gone-is_gone.ensures c.from.ensures
