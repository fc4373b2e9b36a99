use Rattle.std.proofs.Common.{◌∙◌, List, ℕ, ap, drop, subst, sym}
use Rattle.gfs2_layout.specs.Area.{IsArea}
use Rattle.dinode_tree.proofs.Dinodes.{lacks}
use Rattle.linear_dirs.proofs.Looked.{rest_is}
use Rattle.image_journals.specs.Adding.{AreAdded, IsNamedAmong}
use Rattle.image_journals.proofs.Names.{linear_is, linear_records}
use Rattle.image_journals.proofs.Read.{so_found}
use Rattle.image_journals.proofs.naming.add_linear.Goals as goal

pub returns-then-not-is_area : goal.returns-then-not-is_area
returns-then-not-is_area c h sound dir plain same =
    lacks c.is_area.result c.is_area.ensures c.if-not-is_area.true (subst IsArea (sym (rest_is 232 c.args.bytes.now)) (subst (λ (bs : List ℕ). IsArea (drop 232 bs)) (sym same) (linear_is h sound dir plain)))

pub returns : goal.returns
returns c h sound dir plain same =
    so_found c.add_area.result _ _ (λ done added. subst (λ rs. AreAdded c.args.found.now.items c.add_area.new.found.items (IsNamedAmong rs)) (linear_records h _ plain (rest_is 232 c.args.bytes.now ∙ ap (drop 232) same)) added) c.add_area.ensures
