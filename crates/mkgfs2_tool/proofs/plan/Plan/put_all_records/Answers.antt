use Rattle.std.proofs.Common.{ℕ, ◌≡◌, ◌+◌, false, List, length, take, subst, sym, ap, ◌∙◌}
use Rattle.std.proofs.lemmas.Bool.{cond-false}
use Rattle.mkgfs2_tool.specs.Making.{IsFitting}
use Rattle.mkgfs2_tool.specs.Order.{is_split}
use Rattle.mkgfs2_tool.specs.Directories.{Fit, journals_entries, most_entries, records}
use Rattle.mkgfs2_tool.specs.Hashing.{leaf_room, leaf_entries}
use Rattle.mkgfs2_tool.specs.declared.plan.Plan.{Plan}
use Rattle.mkgfs2_tool.specs.declared.directory.Entry.{Entry}
use Rattle.mkgfs2_tool.proofs.RecordLaws.{AreAll, leaf_first}
use Rattle.mkgfs2_tool.proofs.plan.Plan.put_all_records.Goals as goal

of_plan : (p : Plan) (entries : List Entry) → IsFitting p → is_split p ≡ false → entries ≡ most_entries p → AreAll (leaf_room p) (journals_entries p) (take (2 + p.journals) entries)
of_plan p entries fitting whole are = subst (λ es. AreAll (leaf_room p) (journals_entries p) (take (2 + p.journals) es)) (sym are) (leaf_first p fitting whole)

filled : (p : Plan) (leaf room : ℕ) (area : List ℕ) (entries : List Entry) → is_split p ≡ false → AreAll (leaf_room p) (journals_entries p) entries → room ≡ leaf_room p → area ≡ records room entries
    → area ≡ records (leaf_room p) (leaf_entries p leaf)
filled p leaf room area entries whole all size is = is ∙ ap (λ n. records n entries) size ∙ ap (records (leaf_room p)) (all.are ∙ sym (cond-false _ _ _ whole))

pub put_records-requires-clause-fit : goal.put_records-requires-clause-fit
put_records-requires-clause-fit c = subst (λ n. Fit n (take (2 + c.args.self.now.journals) c.most_entries-entries.result)) (sym c.requires.size)
    (of_plan c.args.self.now c.most_entries-entries.result c.requires.plan c.requires.whole c.most_entries-entries.ensures).fit

pub returns : goal.returns
returns c = filled c.args.self.now c.args.leaf (length c.args.area.now) c.put_records.new.area (take (2 + c.args.self.now.journals) c.most_entries-entries.result) c.requires.whole
    (of_plan c.args.self.now c.most_entries-entries.result c.requires.plan c.requires.whole c.most_entries-entries.ensures) c.requires.size c.put_records.ensures
