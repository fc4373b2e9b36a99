-- The image on which a node works stays so behind what it reads.
use Rattle.std.proofs.Common.{◌≡◌, ℕ, false, List, [], Option, None, Some, inl, inr, sym, ap, subst, ◌∙◌}
use Rattle.std.specs.Prelude.{unwrap_or}
use Rattle.std.specs.Cmp.{nat_cmp_total}
use Rattle.std.specs.FinMap.{get, insert, nat_cmp-IsAntisymmetric}
use Rattle.std.proofs.lemmas.Bool.{cases_eq}
use Rattle.finite_maps.proofs.Keys.{inserted_at, inserted_apart}
use Rattle.file_tree.specs.Tree.{Tree}
use Rattle.glock_names.specs.declared.LockName.{LockName}
use Rattle.image_model.specs.Image.{Image}
use Rattle.image_model.specs.Owners.{Owners}
use Rattle.image_model.specs.Stands.{Layout}
use Rattle.image_changes.specs.Changes.{cover, is_free}
use Rattle.shared_disk.specs.Disk.{DiskState, read_gives}
use Rattle.lone_view.specs.Seeing.{Lone}
use Rattle.lone_answers.specs.Laws.{ReadingKeeps}
use Rattle.lone_answers.specs.Reading.{Nothing, OneMore, ReadsOne, WorksOn}

some_is : {x y : List ℕ} → ◌≡◌ {A = Option (List ℕ)} (Some x) (Some y) → x ≡ y
some_is e = ap (λ (o : Option (List ℕ)). unwrap_or o []) e

some_none : {x : List ℕ} → ◌≡◌ {A = Option (List ℕ)} (Some x) None → ⊥
some_none e = cc

module _ (d : DiskState) (n : Lone) (im : Image) (o : Owners) (l : Layout) (t : Tree) (works : WorksOn d n im o l t) (next : Lone) (one : ReadsOne d n next) where
  abbrev b : ℕ
  b = one.block

  -- what was read is what the image has there
  read_is : im.at b ≡ one.bytes
  read_is = let asked = one.asked im o l t works.view in works.unread b one.lock one.absent asked.0 asked.1 ∙ sym (one.told works.tells)

  at_read : {x : Option (List ℕ)} (c : ℕ) → c ≡ b → get (insert n.blocks b one.bytes) c ≡ x → Some one.bytes ≡ x
  at_read c same e = sym (inserted_at nat_cmp_total nat_cmp-IsAntisymmetric n.blocks b one.bytes) ∙ ap (get (insert n.blocks b one.bytes)) (sym same) ∙ e

  off_read : {x : Option (List ℕ)} (c : ℕ) → (c ≡ b → ⊥) → get (insert n.blocks b one.bytes) c ≡ x → get n.blocks c ≡ x
  off_read c other e = sym (inserted_apart nat_cmp_total nat_cmp-IsAntisymmetric n.blocks b one.bytes c other) ∙ e

  agrees : (c : ℕ) (x : List ℕ) → get (insert n.blocks b one.bytes) c ≡ Some x → im.at c ≡ x
  agrees c x e = elim (cases_eq c b) [
    | inl same ↦ ap im.at same ∙ read_is ∙ some_is (at_read c same e)
    | inr other ↦ works.view.agrees c x (off_read c other e)
  ]

  unread : (c : ℕ) (lock : LockName) → get (insert n.blocks b one.bytes) c ≡ None → cover l c (o c) ≡ Some lock → is_free (o c) ≡ false → im.at c ≡ read_gives d 1 c
  unread c lock none covered used = elim (cases_eq c b) [
    | inl same ↦ absurd (some_none (at_read c same none))
    | inr other ↦ works.unread c lock (off_read c other none) covered used
  ]

  pub works_on : WorksOn d next im o l t
  works_on = subst (λ (m : Lone). WorksOn d m im o l t) (sym one.kept) (record {
    tells = works.tells;
    count = works.count;
    view = record { size = works.view.size; root = works.view.root; groups = works.view.groups; agrees = agrees; stands = works.view.stands };
    unread = unread;
  })

pub reading_keeps : ReadingKeeps
reading_keeps d n _ im o l t Nothing works = works
reading_keeps d n _ im o l t (OneMore now next before one) works = works_on d now im o l t (reading_keeps d n now im o l t before works) next one
