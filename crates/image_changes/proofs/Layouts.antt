-- An image has one layout.
use Rattle.std.proofs.Common.{◌≡◌, ℕ, suc, ◌<◌, ◌≤◌, inl, inr, List, [], ◌∷◌, length, get_or, Option, None, Some, slice_get, refl, sym, ◌∙◌, arith}
use Rattle.std.proofs.lemmas.Option.{slice_get_within, slice_get-get_or, slice_get_cases}
use Rattle.image_model.specs.Flat.{Flat}
use Rattle.image_model.specs.Image.{Image}
use Rattle.image_model.specs.Journals.{journal_name}
use Rattle.image_model.specs.Owners.{Owners}
use Rattle.image_model.specs.Stands.{Layout, IsLaid, flat_of}
use Rattle.image_model.proofs.Held.{none_some, some_same}
use Rattle.image_model.proofs.Unique.{flat_same}
use Rattle.image_model.proofs.Table.{masters_same, rindexes_same, jindexes_same, groups_same}
use Rattle.image_changes.specs.Laws.{OneLayout}

same_gets : {X : Type 0} (xs ys : List X) → ((j : ℕ) → slice_get xs j ≡ slice_get ys j) → xs ≡ ys
same_gets [] [] each = refl
same_gets [] (y ∷ ys) each = absurd (none_some (each 0))
same_gets (x ∷ xs) [] each = absurd (none_some (sym (each 0)))
same_gets (x ∷ xs) (y ∷ ys) each = λ i. some_same (each 0) i ∷ same_gets xs ys (λ j. each (suc j)) i

module _ (im : Image) (o p : Owners) (l m : Layout) (laid : IsLaid im o l) (laid' : IsLaid im p m) where
  journal_or_not : (j : ℕ) → slice_get l.journals j ≡ slice_get m.journals j
  journal_or_not j = each (slice_get l.journals j) (slice_get m.journals j) refl refl
    where
      child_same : (k : ℕ) → (flat_of im o l.jindex).child (journal_name k) ≡ (flat_of im p m.jindex).child (journal_name k)
      child_same k = λ i. (flat_same im o p l m laid laid' i (jindexes_same im o p l m laid laid' i)).child (journal_name k)

      -- none has more than the other
      no_more : (xs ys : List ℕ) (f g : Flat) (a b : ℕ) → ((k : ℕ) → (f a).child (journal_name k) ≡ (g b).child (journal_name k))
          → ((k d : ℕ) → slice_get xs k ≡ Some d → (f a).child (journal_name k) ≡ Some d) → (g b).child (journal_name (length ys)) ≡ None
          → (d : ℕ) → slice_get xs j ≡ Some d → slice_get ys j ≡ None → ⊥
      no_more xs ys f g a b children here last d e none = none_some (sym last ∙ sym (children (length ys)) ∙ here (length ys) (get_or xs (length ys) d) (slice_get-get_or xs (length ys) d low))
        where
          past : (length ys ≤ j)
          past = elim (slice_get_cases ys j).1 [
            | inl h ↦ absurd (none_some (sym none ∙ h.2))
            | inr h ↦ h.0
          ]

          low : length ys < length xs
          low = omega (arith, past, slice_get_within xs j d e)

      each : (x y : Option ℕ) → slice_get l.journals j ≡ x → slice_get m.journals j ≡ y → x ≡ y
      each None None e f = refl
      each (Some d) (Some d') e f = sym (laid.system.journals j d e) ∙ child_same j ∙ laid'.system.journals j d' f
      each (Some d) None e f = absurd (no_more l.journals m.journals (flat_of im o) (flat_of im p) l.jindex m.jindex child_same laid.system.journals laid'.system.last d e f)
      each None (Some d) e f = absurd (no_more m.journals l.journals (flat_of im p) (flat_of im o) m.jindex l.jindex (λ k. sym (child_same k)) laid'.system.journals laid.system.last d f e)

  pub layouts_same : l ≡ m
  layouts_same = λ i. record {
    root = (sym laid.super.root ∙ laid'.super.root) i;
    master = masters_same im o p l m laid laid' i;
    rindex = rindexes_same im o p l m laid laid' i;
    jindex = jindexes_same im o p l m laid laid' i;
    groups = groups_same im o p l m laid laid' i;
    journals = same_gets l.journals m.journals journal_or_not i;
  }

pub one_layout : OneLayout
one_layout = layouts_same
