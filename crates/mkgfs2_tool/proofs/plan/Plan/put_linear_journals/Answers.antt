use Rattle.std.proofs.Common.{◌≡◌, ◌+◌, false, List, take, subst, sym, arith}
use Rattle.mkgfs2_tool.specs.Making.{IsFitting}
use Rattle.mkgfs2_tool.specs.Order.{has_hashed_journals}
use Rattle.mkgfs2_tool.specs.Directories.{journals_entries, most_entries}
use Rattle.mkgfs2_tool.specs.Blocks.{area_length, journals_block}
use Rattle.mkgfs2_tool.specs.declared.plan.Plan.{Plan}
use Rattle.mkgfs2_tool.specs.declared.directory.Entry.{Entry}
use Rattle.mkgfs2_tool.proofs.RecordLaws.{AreAll, journals_first}
use Rattle.mkgfs2_tool.proofs.plan.Plan.put_linear_journals.Goals as goal

of_plan : (p : Plan) (entries : List Entry) → IsFitting p → has_hashed_journals p ≡ false → entries ≡ most_entries p → AreAll (area_length p) (journals_entries p) (take (2 + p.journals) entries)
of_plan p entries fitting linear are = subst (λ es. AreAll (area_length p) (journals_entries p) (take (2 + p.journals) es)) (sym are) (journals_first p fitting linear)

pub put_directory-requires-clause-named : goal.put_directory-requires-clause-named
put_directory-requires-clause-named c = (of_plan c.args.self.now c.most_entries-entries.result c.requires.plan c.requires.linear c.most_entries-entries.ensures).named

pub put_directory-requires-clause-fit : goal.put_directory-requires-clause-fit
put_directory-requires-clause-fit c = (of_plan c.args.self.now c.most_entries-entries.result c.requires.plan c.requires.linear c.most_entries-entries.ensures).fit

pub returns : goal.returns
unfolding journals_block
returns c =
    let of = of_plan c.args.self.now c.most_entries-entries.result c.requires.plan c.requires.linear c.most_entries-entries.ensures in
    grind (arith, of.are, c.requires.linear)
