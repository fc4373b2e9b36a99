use Rattle.std.proofs.Common.{◌≡◌, ℕ, List, subst, sym}
use Rattle.script_lang.specs.Grammar.{script_read, Script}
use Rattle.script_lang.specs.Reading.{IsRefusal}
use Rattle.cluster_program.specs.Course.{LacksScript, NotBuiltYet}
use Rattle.cluster_program.proofs.Scripts.{unread, refused, read_whole}
use Rattle.cluster_program.proofs.Small.{lines_of_script}
use Rattle.cluster_program.proofs.script.read_script.Goals as goal

pub returns-in-Err-clause-none : goal.returns-in-Err-clause-none
returns-in-Err-clause-none g c = subst (LacksScript _ _ _ _) (sym c.unread.ensures) (unread _ _ _ _ c.in-Err.fault c.in-Err.ensures.cause)

pub returns-in-Err-parse-clause-none : goal.returns-in-Err-parse-clause-none
returns-in-Err-parse-clause-none g c =
    let bad = subst (λ (t : List ℕ). IsRefusal (script_read t) c.in-Err-parse.refusal) c.deref.ensures.value c.in-Err-parse.ensures.bad in
    subst (LacksScript _ _ _ _) (sym c.refused.ensures) (refused _ _ _ _ c.in-Ok.text.items c.in-Err-parse.refusal c.limit_decides.ensures c.in-Ok.ensures.bytes c.in-Ok.ensures.end bad)

pub returns-clause-none : goal.returns-clause-none
returns-clause-none g c =
    let is = subst (λ (t : List ℕ). script_read t ≡ Script c.in-Ok-parse.script) c.deref.ensures.value c.in-Ok-parse.ensures.read in
    let whole = read_whole _ _ c.in-Ok.text.items c.in-Ok-parse.script c.limit_decides.ensures c.in-Ok.ensures.bytes c.in-Ok.ensures.end is in
    subst (LacksScript _ _ _ _) (sym c.not_built.ensures) (NotBuiltYet c.in-Ok.text.items c.in-Ok-parse.script c.in-Some.line whole is (sym c.in-Some.ensures.first))

pub returns-in-None-clause-small : goal.returns-in-None-clause-small
returns-in-None-clause-small g c =
    let is = subst (λ (t : List ℕ). script_read t ≡ Script c.in-Ok-parse.script) c.deref.ensures.value c.in-Ok-parse.ensures.read in
    lines_of_script c.in-Ok-parse.script c.in-Ok-parse.ensures.well_formed (c.a_read_script_has_bytes.ensures c.in-Ok.text.items c.in-Ok-parse.script is)
