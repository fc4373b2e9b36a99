use Rattle.std.proofs.Common.{◌∙◌, Bool, Option, ap, subst, sym}
use Rattle.log_memory.specs.Adding.{IsAmong, less}
use Rattle.log_memory.proofs.Counted.{change_among, change_is, freed_counts}
use Rattle.log_memory.proofs.adding.once_freed.Goals as goal

pub without-rest-requires : goal.without-rest-requires
without-rest-requires c =
    subst (λ (o : Option Bool). IsAmong o c.args.counts) (sym (change_is c.log.inside c.args.log.now c.args.block c.change_of.result c.log.view_is c.change_of.ensures))
    (change_among c.args.log.now c.args.block c.args.counts c.requires.counted)

pub returns : goal.returns
returns c = λ m alike is.
    freed_counts c.args.log.now c.args.block c.args.counts m alike is c.without-rest.result c.is_new_revoke-is_new.result c.from.result
    (c.without-rest.ensures ∙ ap (λ (o : Option Bool). less o c.args.counts) (change_is c.log.inside c.args.log.now c.args.block c.change_of.result c.log.view_is c.change_of.ensures))
    c.is_new_revoke-is_new.ensures c.from.ensures
