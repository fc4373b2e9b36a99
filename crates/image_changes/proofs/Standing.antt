-- What holds of names in any image that is laid out right, and of records of which some are gone.
use Rattle.std.proofs.Common.{◌≡◌, ◌≢◌, ℕ, ◌≤◌, inl, inr, true, List, [], ◌∷◌, length, None, Some, refl, sym, ap, ◌∙◌, subst, length-append, arith}
use Rattle.std.specs.Prelude.{option_and_then}
use Rattle.std.specs.Str.{bytes_eq}
use Rattle.std.proofs.lemmas.Bool.{cases_Bool}
use Rattle.gfs2_layout.specs.Exchanges.{IsExchanged}
use Rattle.gfs2_layout.specs.Records.{Record, is_dots}
use Rattle.image_model.specs.Flat.{Path}
use Rattle.image_model.specs.Image.{Image}
use Rattle.image_model.specs.Owners.{Owner, Owners, Named, up_of, parent_of, is_dinode}
use Rattle.image_model.specs.Stands.{Layout, flat_of, heads_of, IsLaid, name_count}
use Rattle.image_model.proofs.Counts.{count_some}
use Rattle.image_model.proofs.Held.{none_some}
use Rattle.image_model.proofs.Members.{IsIn}
use Rattle.image_changes.specs.Flats.{in_directory}
use Rattle.image_changes.specs.Instances.{IsAt, dinode_at, records_at, is_directory_at, IsChildless}
use Rattle.image_changes.proofs.FlatPaths.{one_path, follow-append}
use Rattle.image_changes.proofs.Bare.{names_nothing}
use Rattle.image_changes.proofs.Directories.{named_itself, names_any_order, names_append}
use Rattle.image_changes.proofs.Laid.{root_named, child_rows, row_up}
use Rattle.image_changes.proofs.Nodes.{file_child, dir_child, dots_child}

module _ (im : Image) (o : Owners) (l : Layout) (laid : IsLaid im o l) where
  -- what has a child is a directory
  pub has_child_directory : (a b : ℕ) (name : List ℕ) → (flat_of im o a).child name ≡ Some b → is_directory_at im o a ≡ true
  has_child_directory a b name e = elim (cases_Bool (is_directory_at im o a)) [
    | inl so ↦ so
    | inr non ↦ absurd (none_some (sym (file_child im o a (child_rows im o l laid a b name e).0 non name) ∙ e))
  ]

  -- an inode that is a file, or a directory of two entries, has no child
  pub childless : (a : ℕ) → is_dinode (o a) ≡ true → IsChildless im o a → (name : List ℕ) → (flat_of im o a).child name ≡ None
  childless a so two name = elim (cases_Bool (is_directory_at im o a)) [
    | inr non ↦ file_child im o a so non name
    | inl is ↦ elim (cases_Bool (is_dots name)) [
      | inl dots ↦ dots_child im o a so is name dots
      | inr plain ↦ dir_child im o a so is name plain ∙ names_nothing (heads_of im o) o a (records_at im o a) (dinode_at im o a) (laid.directories a so is) (two is) name plain
    ]
  ]

  -- the parent of an inode is one
  pub parent_dinode : (a : ℕ) → is_dinode (o a) ≡ true → is_dinode (o (parent_of a (o a))) ≡ true
  parent_dinode a so = each (o a) refl
    where
      each : (x : Owner) → o a ≡ x → is_dinode (o (parent_of a x)) ≡ true
      each (Named q n) e = (child_rows im o l laid q a n (laid.names a (record { parent = q; name = n }) (row_up (o a) q n e))).0
      each x e = so

  -- where an inode is the parent of another, it has a child, unless that is itself
  pub parent_has : (a b : ℕ) → parent_of a (o a) ≡ b → a ≢ b → (name : List ℕ) × ((flat_of im o b).child name ≡ Some a)
  parent_has a b = each (o a) refl
    where
      each : (x : Owner) → o a ≡ x → parent_of a x ≡ b → a ≢ b → (name : List ℕ) × ((flat_of im o b).child name ≡ Some a)
      each (Named q n) e same d = (n, subst (λ z. (flat_of im o z).child n ≡ Some a) same (laid.names a (record { parent = q; name = n }) (row_up (o a) q n e)))
      each x e same d = absurd (d same)

  -- no directory names itself
  pub not_own_child : (path : Path) (name : List ℕ) (a : ℕ) → IsAt im o l path a → (flat_of im o a).child name ≢ Some a
  not_own_child path name a at e = absurd (omega (arith, ap length again, length-append path (name ∷ [])))
    where
      again : path ≡ in_directory path name
      again = one_path (flat_of im o) (λ b. up_of (o b)) l.root (root_named im o l laid) path (in_directory path name) a at
          (follow-append (flat_of im o) path (name ∷ []) l.root a at ∙ ap (option_and_then (λ b. Some b)) e)

-- of records one of which is gone none that is left has its name
pub rest_differs : (old new gone come : List Record) (exchanged : IsExchanged old new gone come) → ((name : List ℕ) → name_count old name ≤ 1) → (r g : Record) → IsIn g gone → IsIn r exchanged.rest
    → r.name ≢ g.name
rest_differs old new gone come exchanged once r g at at' e = absurd (omega (
  arith,
  once g.name,
  names_any_order old _ g.name exchanged.before,
  names_append gone exchanged.rest g.name,
  count_some (λ s. bytes_eq g.name s.name) g gone at (named_itself g.name),
  count_some (λ s. bytes_eq g.name s.name) r exchanged.rest at' (subst (λ m. bytes_eq g.name m ≡ true) (sym e) (named_itself g.name)),
))
