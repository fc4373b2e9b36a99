-- What is told of a draft in which blocks of a directory alone were put, as what it is of the view.
use Rattle.std.proofs.Common.{◌≡◌, ◌≢◌, inl, inr, ℕ, false, List, Option, None, Some, sym, ap, ◌∙◌, subst}
use Rattle.std.proofs.lemmas.Bool.{cases_eq}
use Rattle.std.specs.FinMap.{FinMap, get, insert}
use Rattle.std.specs.Ordering.{nat_cmp}
use Rattle.drafts.specs.Fates.{block_with, seen_with}
use Rattle.drafts.specs.declared.fate.Fate.{Fate}
use Rattle.drafts.specs.declared.fate.Fate.TheVariants.{Put, Freed}
use Rattle.glock_names.specs.Views.{Seen, IsView, HasBlock}
use Rattle.glock_names.specs.declared.LockName.{LockName}
use Rattle.glock_names.specs.declared.steps.Missing.{Missing}
use Rattle.resource_groups.specs.Freeing.{IsNeededFor, BreaksSome}
use Rattle.resource_groups.specs.Putting.{HasDataBlock}
use Rattle.resource_groups.specs.Shown.{IsHeaderOf, IsDataOf}
use Rattle.resource_groups.proofs.Apart.{no_header_data}
use Rattle.image_model.proofs.Held.{none_some}
use Rattle.removing_calls.proofs.Lists.{put_apart, put_at}

-- what the draft before sees, a draft with one more block put sees
pub put_sees : (v : Seen) (fates : FinMap nat_cmp Fate) (d : ℕ) (lock : LockName) (bytes : List ℕ) (b : ℕ) → HasBlock (seen_with v fates) b → HasBlock (seen_with v (insert fates d (Put lock false bytes))) b
put_sees v fates d lock bytes b has = elim (cases_eq b d) [
  | inl same ↦ (bytes, subst (λ c. (seen_with v (insert fates d (Put lock false bytes))).block_at c ≡ Some bytes) (sym same) (ap (λ f. block_with f (v.block_at d)) (put_at fates d (Put lock false bytes))))
  | inr other ↦ (has.0, ap (λ f. block_with f (v.block_at b)) (put_apart fates d b (Put lock false bytes) other) ∙ has.1)
]

-- what a draft doesn't see, the view doesn't
unseen : (fate : Option Fate) (below : Option (List ℕ)) → block_with fate below ≡ None → below ≡ None
unseen None below e = e
unseen (Some Freed) below e = e
unseen (Some (Put lock plain bytes)) below e = absurd (none_some (sym e))

pub needed_before : (v : Seen) (fates : FinMap nat_cmp Fate) (blocks : List ℕ) (m : Missing) → IsNeededFor (seen_with v fates) blocks m → IsNeededFor v blocks m
needed_before v fates blocks m needed = (
  needed.0,
  needed.1,
  (
    needed.2.0,
    needed.2.1,
    needed.2.2,
    record {
      block = record {
        own = needed.2.3.block.own;
        absent = unseen (get fates m.block) (v.block_at m.block) needed.2.3.block.absent;
        lock = needed.2.3.block.lock;
        plain = needed.2.3.block.plain;
        from = needed.2.3.block.from;
      };
      which = needed.2.3.which;
    },
  ),
)

module _ (v : Seen) (dir leaf : ℕ) (fates : FinMap nat_cmp Fate) (alone : (b : ℕ) → b ≢ dir → b ≢ leaf → get fates b ≡ None) where
  -- what the draft sees the view has, if it has what was put
  pub seen_before : HasBlock v dir → HasBlock v leaf → (b : ℕ) → HasBlock (seen_with v fates) b → HasBlock v b
  seen_before there leaf_there b has = elim (cases_eq b dir) [
    | inl same ↦ subst (HasBlock v) (sym same) there
    | inr other ↦ elim (cases_eq b leaf) [
      | inl same ↦ subst (HasBlock v) (sym same) leaf_there
      | inr away ↦ (has.0, sym (ap (λ f. block_with f (v.block_at b)) (alone b other away)) ∙ has.1)
    ]
  ]

  -- a group is shown by the draft as by the view, where what was put are data blocks of groups
  pub breaks_before : IsView v → HasDataBlock v dir → HasDataBlock v leaf → (blocks : List ℕ) (rule c : ℕ) → BreaksSome (seen_with v fates) blocks rule c → BreaksSome v blocks rule c
  breaks_before view inside leaf_inside blocks rule c breaks = (
    breaks.0,
    breaks.1,
    breaks.2,
    λ at shown. breaks.3 at (record {
      whole = shown.whole;
      same = λ b bytes own there. shown.same b bytes own (sym (ap (λ f. block_with f (v.block_at b)) (alone b (apart b own dir inside) (apart b own leaf leaf_inside))) ∙ there);
    }),
  )
    where
      apart : (b : ℕ) → IsHeaderOf breaks.0 b → (x : ℕ) → HasDataBlock v x → b ≢ x
      apart b own x is e = no_header_data v view breaks.0 is.0 breaks.1 is.1 b own (subst (λ y. IsDataOf is.0 y) (sym e) is.2)
