use Rattle.std.proofs.Common.{ℕ, ◌≡◌, ◌≢◌, ◌-◌, ◌++◌, List, length, take, drop, sym, arith, rules}
use Rattle.std.proofs.lemmas.Bool.Decides.{nat_tests}
use Rattle.gfs2_layout.specs.Putting.{least_length}
use Rattle.mkgfs2_tool.specs.Directories.{name_of, record_bytes, records}
use Rattle.mkgfs2_tool.specs.declared.directory.Entry.{Entry}
use Rattle.mkgfs2_tool.proofs.RecordLaws.{FirstOfSeveral, first_of_several}
use Rattle.mkgfs2_tool.proofs.directory.+put_records.Goals as goal

joined : (room front back : ℕ) (e : Entry) (later es : List Entry) (first rest : List ℕ) → FirstOfSeveral room e later es
    → front ≡ least_length (length (name_of e)) → back ≡ room - front → first ≡ record_bytes e front → rest ≡ records back later → first ++ rest ≡ records room es
joined room front back e later es first rest split front_is back_is first_is rest_is = rw (first_is, rest_is, back_is, front_is) (sym split.are)

pub returns-else-is_empty : goal.returns-else-is_empty
returns-else-is_empty t c =
    let several : length (take (length c.args.entries.now - 1) (drop 1 c.args.entries.now)) ≢ 0 = grind (arith, nat_tests) in
    joined (length c.args.area.now) (length c.split_at_mut-first.result.0.now) (length c.split_at_mut-first.result.1.now) _ _ c.args.entries.now
    c.put_record-else-is_empty.new.bytes c.put_records.new.area (first_of_several (length c.args.area.now) c.args.entries.now _ c.requires.named c.requires.fit several)
    (search rules) (search rules) c.put_record-else-is_empty.ensures c.put_records.ensures
