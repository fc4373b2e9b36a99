use Rattle.std.proofs.Common.{◌≡◌, true, cond, ◌==◌, Some, None, is_some, subst, ap, ◌∙◌}
use Rattle.block_cache.specs.Shelving.{Shelved, has, Adds, Keeps}
use Rattle.block_cache.proofs.Shelving.{at_shelf, lent, absent, changed_shelf, kept_shelf, on-ok, on-err}
use Rattle.block_cache.proofs.shelves.Shelves.add.Goals as goal

pub returns-in-Some-clause-ok : goal.returns-in-Some-clause-ok
returns-in-Some-clause-ok c =
    let es = c.self.inside.shelves.entries in
    let there = lent es c.args.name c.get_mut.result c.in-Some.shelf c.get_mut.ensures.value c.in-Some.is in
    let w = c.add.new.self in
    let P : Shelved → Type 0 = λ v. Adds v (c.get_mut.follows.lender w).entries c.args.name c.args.block in
    on-ok c.add.result _ _
    (λ added. subst P c.self.view_is
    (changed_shelf es (c.get_mut.follows.lender w).entries c.args.name (Some c.in-Some.shelf.now) w c.args.block true there ((c.get_mut.follows.holds w).3 (ap is_some there)).0 added))
    c.add.ensures.ok

pub returns-in-Some-clause-err : goal.returns-in-Some-clause-err
returns-in-Some-clause-err c =
    let es = c.self.inside.shelves.entries in
    let there = lent es c.args.name c.get_mut.result c.in-Some.shelf c.get_mut.ensures.value c.in-Some.is in
    let w = c.add.new.self in
    let P : Shelved → Type 0 = λ v. Keeps v (c.get_mut.follows.lender w).entries in
    on-err c.add.result _ _
    (λ same. subst P c.self.view_is
    (kept_shelf es (c.get_mut.follows.lender w).entries c.args.name c.in-Some.shelf.now w there ((c.get_mut.follows.holds w).3 (ap is_some there)).0 same))
    c.add.ensures.err

pub returns-in_ok-insert-in-None-clause-ok : goal.returns-in_ok-insert-in-None-clause-ok
returns-in_ok-insert-in-None-clause-ok c =
    let es = c.self.inside.shelves.entries in
    let none = absent es c.args.name c.get_mut.result c.get_mut.ensures.value c.in-None.is in
    let before = c.get_mut.follows.lender-at-none.entries in
    let same : before ≡ es = ap (λ m. m.entries) c.get_mut.follows.holds-at-none in
    let w = c.add-in-None.new.self in
    let P : Shelved → Type 0 = λ v. Adds v c.insert.new.self.entries c.args.name c.args.block in
    subst P (same ∙ c.self.view_is)
    (changed_shelf before c.insert.new.self.entries c.args.name None w c.args.block true (ap (λ (v : Shelved). at_shelf v c.args.name) same ∙ none) c.in_ok-insert-in-None.ensures.updates.0
    (λ b. c.in_ok-add-in-None.ensures.ok b ∙ ap (λ l. cond (c.args.block == b) true (has l b)) c.new-shelf.ensures))
