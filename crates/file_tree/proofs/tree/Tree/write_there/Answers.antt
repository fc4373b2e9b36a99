use Rattle.std.proofs.Common.{ap, ◌∙◌}
use Rattle.std.proofs.lemmas.Result.{on_ok_weaker, on_err_weaker}
use Rattle.file_tree.specs.Tree.{Tree}
use Rattle.file_tree.specs.Apply.{walk, put_at}
use Rattle.file_tree.proofs.WalkLaws.{there_found, walk_put, put_back, write_is}
use Rattle.file_tree.proofs.tree.Tree.write_there.Goals as goal

pub set_at-requires : goal.set_at-requires
set_at-requires c =
    there_found _ _ (ap (λ (u : Tree). walk u c.args.names.now) c.set_at-file.ensures.put ∙ walk_put c.args.names.now c.hollow-hollow.result c.args.self.now)

pub returns-clause-ok : goal.returns-clause-ok
returns-clause-ok c =
    on_ok_weaker c.overwrite-written.result (λ e.
    write_is c.args.self.now c.args.names.now c.args.at c.args.bytes.now c.set_at-file.result c.hollow-hollow.result c.set_at.new.self c.set_at-file.ensures.stood c.requires.file c.requires.size
    (c.set_at.ensures.put ∙ (λ i. put_at c.args.names.now (e i) (c.set_at-file.ensures.put i)))) c.overwrite-written.ensures.ok

pub returns-clause-err : goal.returns-clause-err
returns-clause-err c =
    on_err_weaker c.overwrite-written.result (λ e.
    c.set_at.ensures.put
    ∙ (λ i. put_at c.args.names.now (e i) (c.set_at-file.ensures.put i))
    ∙ put_back c.args.self.now c.args.names.now c.set_at-file.result c.hollow-hollow.result c.set_at-file.ensures.back) c.overwrite-written.ensures.err
