use Rattle.hash_inserts.proofs.inserting.+insert_past.Given as goal

abbrev pub decreases-insert_past : goal.decreases-insert_past
decreases-insert_past g l = l.steps
