use Rattle.std.proofs.Common.{◌≡◌, false, Some, is_some, subst, ap, ◌∙◌}
use Rattle.block_cache.specs.Shelving.{Shelved, Removes}
use Rattle.block_cache.proofs.Shelving.{at_shelf, lent, absent, changed_shelf, nothing_there}
use Rattle.block_cache.proofs.shelves.Shelves.remove.Goals as goal

pub returns : goal.returns
returns c =
    let es = c.self.inside.shelves.entries in
    let there = lent es c.args.name c.get_mut.result c.in-Some.shelf c.get_mut.ensures.value c.in-Some.is in
    let w = c.remove.new.self in
    let P : Shelved → Type 0 = λ v. Removes v (c.get_mut.follows.lender w).entries c.args.name c.args.block in
    subst P c.self.view_is
    (changed_shelf es (c.get_mut.follows.lender w).entries c.args.name (Some c.in-Some.shelf.now) w c.args.block false there ((c.get_mut.follows.holds w).3 (ap is_some there)).0 c.remove.ensures)

pub returns-in_default : goal.returns-in_default
returns-in_default c =
    let es = c.self.inside.shelves.entries in
    let before = c.get_mut.follows.lender-at-none.entries in
    let same : before ≡ es = ap (λ m. m.entries) c.get_mut.follows.holds-at-none in
    let none = absent es c.args.name c.get_mut.result c.get_mut.ensures.value c.in_default.is in
    let P : Shelved → Type 0 = λ v. Removes v before c.args.name c.args.block in
    subst P (same ∙ c.self.view_is) (nothing_there before c.args.name c.args.block (ap (λ (v : Shelved). at_shelf v c.args.name) same ∙ none))
