use Rattle.std.proofs.Common.{◌≡◌, ◌+◌, List, ℕ, length, take, arith, ap, ◌∙◌, sym}
use Rattle.std.proofs.lemmas.List.{take_more}
use Rattle.file_tree.specs.Names.{path_length}
use Rattle.file_tree.proofs.PathLaws.{path_length-push}
use Rattle.file_tree.proofs.path.length_of.Goals as goal

pub loop-name-preserved : goal.loop-name-preserved
loop-name-preserved c =
    let names = c.args.names.now in
    let i = c.loop-name.name-index in
    let total = path_length (take i names) in
    let more : path_length (take (i + 1) names) ≡ total + (1 + length c.bytes.result.now) =
    ap path_length (take_more names i c.name-item.result c.loop-name-test.true) ∙ path_length-push _ _
    ∙ ap (λ (n : List ℕ). total + (1 + length n)) (sym c.name-item.is ∙ sym c.bytes.ensures.bytes) in
    omega (arith, more)
