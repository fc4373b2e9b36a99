use Rattle.std.proofs.Common.{ℕ, List, ap, ◌∙◌}
use Rattle.std.proofs.lemmas.Result.{on_ok_weaker, on_err_weaker}
use Rattle.file_tree.specs.Tree.{Tree, dir, set}
use Rattle.file_tree.specs.Apply.{walk, put_at, entries_of}
use Rattle.file_tree.proofs.WalkLaws.{there_found, walk_put, put_new_is, put_back}
use Rattle.file_tree.proofs.tree.Tree.put_new.Goals as goal

pub set_at-requires : goal.set_at-requires
set_at-requires c =
    there_found _ _ (ap (λ (u : Tree). walk u c.args.parent.now) c.set_at-directory.ensures.put ∙ walk_put c.args.parent.now c.hollow-hollow.result c.args.self.now)

pub returns-clause-ok : goal.returns-clause-ok
returns-clause-ok c =
    let d = c.set_at-directory.result in
    on_ok_weaker c.put-put.result (λ e.
    c.set_at.ensures.put
    ∙ (λ i. put_at c.args.parent.now (e i) (c.set_at-directory.ensures.put i))
    ∙ ap (λ (n : List ℕ). put_at c.args.parent.now (dir (set (entries_of d) n c.args.tree)) (put_at c.args.parent.now c.hollow-hollow.result c.args.self.now)) c.in_ok-name.ensures
    ∙ put_new_is c.args.self.now c.args.parent.now c.args.name.now d c.args.tree c.hollow-hollow.result c.set_at-directory.ensures.stood) c.put-put.ensures.ok

pub returns-clause-err : goal.returns-clause-err
returns-clause-err c =
    on_err_weaker c.put-put.result (λ e.
    c.set_at.ensures.put
    ∙ (λ i. put_at c.args.parent.now (e i) (c.set_at-directory.ensures.put i))
    ∙ put_back c.args.self.now c.args.parent.now c.set_at-directory.result c.hollow-hollow.result c.set_at-directory.ensures.back) c.put-put.ensures.err
