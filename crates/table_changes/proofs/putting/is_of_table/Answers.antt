use Rattle.std.proofs.Common.{inl, inr, eqb}
use Rattle.std.proofs.lemmas.Bool.Decides.{Decides-eqb}
use Rattle.std.proofs.lemmas.List.Elements.{Decides-contains, contains_decides}
use Rattle.table_changes.proofs.Committed.{contradict}
use Rattle.table_changes.proofs.putting.is_of_table.Goals as goal

pub returns : goal.returns
returns c =
    let decides = Decides-contains c.args.taken.now.items c.args.block c.contains.result (contains_decides eqb Decides-eqb c.args.taken.now.items c.args.block c.contains.result c.contains.ensures.cases) in (
      λ holds. inr (inr (decides.0 holds)),
      λ is. elim is [
        | inl own ↦ absurd (c.if-block-directory.false own)
        | inr other ↦ elim other [
          | inl told ↦ contradict c.is_told.result (c.is_told.ensures.1 told) c.if-is_told.false
          | inr took ↦ decides.1 took
        ]
      ],
    )
