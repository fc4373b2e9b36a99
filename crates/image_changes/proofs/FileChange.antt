-- A file's content changes, whatever blocks it takes or gives back: the image stands for the tree with the new bytes.
use Rattle.std.proofs.Common.{◌≡◌, ◌≢◌, ℕ, ◌≤◌, ◌⊎◌, inl, inr, true, false, [], ◌∷◌, Some, refl, sym, ap, ◌∙◌, subst, Bool}
use Rattle.std.proofs.lemmas.Bool.{cases_eq, true≢false}
use Rattle.file_tree.specs.Tree.{Tree, file}
use Rattle.file_tree.specs.Apply.{file_limit, put_at}
use Rattle.gfs2_layout.specs.Inode.{Head, dinode_in, is_directory_in, content_of}
use Rattle.image_model.specs.Flat.{Path, follow, ReadsAs}
use Rattle.image_model.specs.Image.{Image}
use Rattle.image_model.specs.Owners.{Owners, Root, Up, up_of, is_dinode, holding}
use Rattle.image_model.specs.Stands.{Layout, flat_of, IsFound}
use Rattle.image_model.proofs.Held.{none_some}
use Rattle.image_model.proofs.Members.{IsIn}
use Rattle.image_changes.specs.Changes.{KeepsNames, SystemStays}
use Rattle.image_changes.specs.Instances.{StandsBy, IsAt, among, IsFileChanged, FileChanges}
use Rattle.image_changes.proofs.FlatPaths.{file_rewritten}
use Rattle.image_changes.proofs.Frame.{row_kept, same_dinode}
use Rattle.image_changes.proofs.Laid.{root_named, follow_dinode, laid_after, system_stays, up_row, row_dinode}
use Rattle.image_changes.proofs.Nodes.{among_in, in_among, not_among, file_thing, file_child, no_system, untouched_flat, rows_kept}

module _ (im im' : Image) (o o' : Owners) (l : Layout) (written : ℕ → Bool) (a : ℕ) (path : Path) (t : Tree) (stands : StandsBy im o l t) (at : IsAt im o l path a) (is : IsFileChanged im im' o o' l written a) where
  only : (y : ℕ) → IsIn y (a ∷ []) → y ≡ a
  only y (inl e) = e
  only y (inr h) = elim h [ ]

  whence : (y : ℕ) → IsIn y (a ∷ []) → ((p : Path) × (follow (flat_of im o) l.root p ≡ Some y)) ⊎ (is_dinode (o y) ≡ false)
  whence y h = inl (path, at ∙ ap Some (sym (only y h)))

  dinode : is_dinode (o a) ≡ true
  dinode = follow_dinode im o l stands.laid path l.root a (ap is_dinode stands.laid.root.0) at

  dinode' : is_dinode (o' a) ≡ true
  dinode' = ap is_dinode is.row ∙ dinode

  plain' : is_directory_in (holding im' o' a) ≡ false
  plain' = ap (λ (h : Head). h.is_dir) (is.change.heads a (in_among (a ∷ []) a (inl refl)) dinode dinode') ∙ is.file

  others : (x : ℕ) → x ≢ a → flat_of im' o' x ≡ flat_of im o x
  others x d = untouched_flat im im' o o' l (a ∷ []) written stands.laid is.change whence x (λ h. d (only x h))

  leaf : (flat_of im' o' a).child ≡ (flat_of im o a).child
  leaf = λ i name. (file_child im' o' a dinode' plain' name ∙ sym (file_child im o a dinode is.file name)) i

  rewritten : ((x : ℕ) (q : Path) → follow (flat_of im' o') x q ≡ follow (flat_of im o) x q)
      × ((u : Tree) → ReadsAs (flat_of im o) l.root u → ReadsAs (flat_of im' o') l.root (put_at path (file (content_of (holding im' o' a))) u))
  rewritten = file_rewritten (flat_of im o) (flat_of im' o') (λ b. up_of (o b)) l.root a path (content_of (holding im' o' a)) (root_named im o l stands.laid) at others leaf
      (content_of (holding im o a)) (file_thing im o a dinode is.file) (file_thing im' o' a dinode' plain')

  was_dinode : (x : ℕ) → is_dinode (o' x) ≡ true → is_dinode (o x) ≡ true
  was_dinode x so = elim (cases_eq x a) [
    | inl e ↦ ap (λ z. is_dinode (o z)) e ∙ dinode
    | inr d ↦ sym (same_dinode im im' o o' l (among (a ∷ [])) written is.change x (not_among (a ∷ []) x (λ h. d (only x h)))) ∙ so
  ]

  keeps : KeepsNames im im' o o' l (among (a ∷ []))
  keeps = record {
    system = no_system im im' o o' l (a ∷ []) written stands.laid is.change whence;
    root = root;
    rows = rows_kept im im' o o' l (a ∷ []) written stands.laid is.change whence (λ y h. inl (subst (λ z. o' z ≡ o z) (sym (only y h)) is.row));
    directories = λ x here so dir. absurd (true≢false (sym dir ∙ subst (λ z. is_directory_in (holding im' o' z) ≡ false) (sym (only x (among_in (a ∷ []) x here))) plain'));
    names = λ x u here e. absurd (none_some (sym (file_child im o a dinode is.file u.name) ∙ subst (λ z. (flat_of im o z).child u.name ≡ Some x) (only u.parent (among_in (a ∷ []) u.parent here)) (named x u e)));
    found = λ x so. found x (stands.laid.found x (was_dinode x so));
    short = λ x here so plain. subst (λ z. (dinode_in (holding im' o' z)).size ≤ file_limit) (sym (only x (among_in (a ∷ []) x here))) is.short;
  }
    where
      row_same : (x : ℕ) → is_dinode (o' x) ≡ true → o' x ≡ o x
      row_same x so = elim (cases_eq x a) [
        | inl e ↦ subst (λ z. o' z ≡ o z) (sym e) is.row
        | inr d ↦ row_kept im im' o o' l (among (a ∷ [])) written is.change x (not_among (a ∷ []) x (λ h. d (only x h))) (inr so)
      ]

      root : o' l.root ≡ Root
      root = elim (cases_eq l.root a) [
        | inl e ↦ subst (λ z. o' z ≡ o z) (sym e) is.row ∙ stands.laid.root.0
        | inr d ↦ row_kept im im' o o' l (among (a ∷ [])) written is.change l.root (not_among (a ∷ []) l.root (λ h. d (only l.root h))) (inl (ap is_dinode stands.laid.root.0)) ∙ stands.laid.root.0
      ]

      named : (x : ℕ) (u : Up) → up_of (o' x) ≡ Some u → (flat_of im o u.parent).child u.name ≡ Some x
      named x u e = stands.laid.names x u (ap up_of (sym (row_same x (row_dinode (o' x) u.parent u.name (up_row (o' x) u e)))) ∙ e)

      found : (x : ℕ) → IsFound (flat_of im o) l x → IsFound (flat_of im' o') l x
      found x (inl way) = inl (way.0, rewritten.0 l.root way.0 ∙ way.1)
      found x (inr way) = inr (way.0, rewritten.0 l.master way.0 ∙ way.1)

  pub file_stands : StandsBy im' o' l (put_at path (file (content_of (holding im' o' a))) t) × SystemStays im im' o o' l
  file_stands = (
    record {
      laid = laid_after im im' o o' l (among (a ∷ [])) written stands.laid is.change keeps;
      reads = rewritten.1 t stands.reads;
    },
    system_stays im im' o o' l (among (a ∷ [])) written stands.laid is.change keeps,
  )

pub file_changes : FileChanges
file_changes = file_stands
