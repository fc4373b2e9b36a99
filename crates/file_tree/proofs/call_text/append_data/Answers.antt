use Rattle.std.proofs.Common.{rules, append_assoc}
use Rattle.std.proofs.lemmas.Result.{IfOk-equal}
use Rattle.file_tree.proofs.Texts.{data_text-some}
use Rattle.file_tree.proofs.call_text.append_data.Goals as goal

pub returns-in_ok-append-in-len1-up : goal.returns-in_ok-append-in-len1-up
returns-in_ok-append-in-len1-up c =
    rw (data_text-some c.args.bytes.now c.in-len1-up.len_at_least) (search (rules, append_assoc, IfOk-equal))
