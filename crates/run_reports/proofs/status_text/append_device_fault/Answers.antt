use Rattle.std.proofs.Common.{◌≡◌, ℕ, List, ◌++◌, ap, ◌∙◌, subst, append_assoc}
use Rattle.std.specs.Prelude.{IfOk, codes}
use Rattle.text_words.specs.Words.{number}
use Rattle.run_reports.specs.StatusText.{block_text, rise_text}
use Rattle.run_reports.proofs.status_text.append_device_fault.Goals as goal

pub returns : goal.returns
returns c =
    let place = codes " block" ++ block_text c.args.block ++ rise_text c.args.before c.args.after in
    let node : c.append_one.new.text.items ≡ c.args.text.now.items ++ (codes "device fault: node" ++ number c.args.node) = c.in_ok-append_one.ensures ∙ ap (λ (n : ℕ). c.args.text.now.items ++ (codes "device fault: node" ++ number n)) c.from.ensures in
    let path = ap (λ (t : List ℕ). t ++ place) node ∙ append_assoc c.args.text.now.items (codes "device fault: node" ++ number c.args.node) place in
    subst (λ (t : List ℕ). IfOk c.append_at_block.result (λ _. c.append_at_block.new.text.items ≡ t)) path c.append_at_block.ensures
