use Rattle.fixed_tables.specs.Fixed.{Fixed}
use Rattle.log_memory.proofs.Left.{among_is}
use Rattle.log_memory.proofs.landing.keep_live.Goals as goal

pub returns : goal.returns
returns c =
    let at = among_is c.args.tables.now.live c.args.gone.now.at c.keep.new.self.at c.keep.ensures.left in
    (λ i. let g : Fixed (Unit {0}) = record { at = at i; room = c.keep.ensures.room i } in g)
