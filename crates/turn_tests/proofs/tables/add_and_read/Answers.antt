use Rattle.turn_tests.proofs.tables.add_and_read.Goals as goal

pub returns-clause-rises : goal.returns-clause-rises
returns-clause-rises g c = c.read.ensures.grown _ c.add_one-put.ensures.put
