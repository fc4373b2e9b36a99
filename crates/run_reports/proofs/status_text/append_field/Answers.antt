use Rattle.std.proofs.Common.{◌≡◌, ℕ, List, ◌++◌, ap, ◌∙◌, subst}
use Rattle.std.specs.Prelude.{IfOk, codes}
use Rattle.text_words.specs.Words.{word, number}
use Rattle.run_reports.specs.StatusText.{field_text}
use Rattle.run_reports.proofs.Lines.{behind_two}
use Rattle.run_reports.proofs.status_text.append_field.Goals as goal

pub returns : goal.returns
returns c =
    let path = behind_two c.args.text.now.items c.append_words.new.text.items (codes "not profile:") (word (field_text c.args.field)) (number c.args.value)
    (c.in_ok-append_words.ensures ∙ ap (λ (f : List ℕ). c.args.text.now.items ++ (codes "not profile:" ++ word f)) c.field_name.ensures) in
    subst (λ (t : List ℕ). IfOk c.append_number.result (λ _. c.append_number.new.text.items ≡ t)) path c.append_number.ensures
