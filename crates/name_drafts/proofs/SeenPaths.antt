-- A path leads in an image where the view shows it, and the view has the dinodes on it.
use Rattle.std.proofs.Common.{◌≡◌, ℕ, List, [], ◌∷◌, ◌++◌, Some, append-nil, refl, sym, ap, ◌∙◌, subst}
use Rattle.std.specs.Prelude.{option_and_then}
use Rattle.file_tree.specs.Names.{parent_of}
use Rattle.file_tree.specs.Tree.{Tree}
use Rattle.glock_names.specs.Views.{Seen, HasBlock}
use Rattle.call_locks.specs.declared.want.Want.{Want}
use Rattle.image_model.specs.Flat.{Path, follow}
use Rattle.image_model.specs.Image.{Image}
use Rattle.image_model.specs.Owners.{Owners, holding}
use Rattle.image_model.specs.Stands.{Layout, flat_of}
use Rattle.image_model.proofs.Held.{some_same}
use Rattle.image_changes.specs.Does.{IsOf}
use Rattle.image_changes.specs.Instances.{IsAt}
use Rattle.image_changes.proofs.FlatPaths.{follow-append}
use Rattle.path_walks.specs.Walks.{LeadsTo, at_root, by_name}
use Rattle.path_walks.proofs.Images.{child_is_there, is_shown, says_child, shown_directory}
use Rattle.path_walks.proofs.Lists.{parent_of_next}
use Rattle.name_drafts.specs.Paths.{SeesPath}

front_none : (front back : Path) → [] ≡ front ++ back → front ≡ []
front_none [] back e = refl
front_none (n ∷ front) back e = cc

parent_behind : (front back : Path) (n : List ℕ) → parent_of (front ++ n ∷ back) ≡ front ++ parent_of (n ∷ back)
parent_behind [] back n = refl
parent_behind (m ∷ []) back n = refl
parent_behind (m ∷ k ∷ front) back n = ap (λ p. m ∷ p) (parent_behind (k ∷ front) back n)

module _ (v : Seen) (im : Image) (o : Owners) (l : Layout) where
  only : (path : Path) (a : ℕ) → IsAt im o l path a → HasBlock v a → (c : ℕ) → IsAt im o l path c → HasBlock v c
  only path a at there c other = subst (HasBlock v) (some_same (sym at ∙ other)) there

  -- what is before the last name, and the end
  pub longer_seen : (path : Path) → SeesPath v im o l (parent_of path) → ((a : ℕ) → IsAt im o l path a → HasBlock v a) → SeesPath v im o l path
  longer_seen path before end front [] c split at = end c (subst (λ q. IsAt im o l q c) (sym (split ∙ append-nil front)) at)
  longer_seen path before end front (n ∷ back) c split at = before front (parent_of (n ∷ back)) c (ap parent_of split ∙ parent_behind front back n) at

  module _ (t : Tree) (of : IsOf v im o l t) (wants : List Want) where
    pub leads_at : (path : Path) (a : ℕ) → LeadsTo v wants path a → IsAt im o l path a
    leads_at _ _ (at_root held) = ap Some of.root
    leads_at _ _ (by_name front dir b name leads is_name named inside held) =
        let at = leads_at front dir leads in
        let is_dir = named.directory (holding im o dir) (is_shown v im o l t of front dir at) in
        let child = child_is_there v im o l t of front dir name at is_name is_dir ∙ says_child v im o l t of front dir name b at is_dir (named.child (holding im o dir) (shown_directory v im o l t of front dir at is_dir)) in
        follow-append (flat_of im o) front (name ∷ []) l.root dir at ∙ ap (option_and_then (λ x. follow (flat_of im o) x [])) child

    pub path_seen : (path : Path) (a : ℕ) → LeadsTo v wants path a → HasBlock v a → SeesPath v im o l path
    path_seen _ _ (at_root held) there front back c split at = only [] v.root (leads_at [] v.root (at_root held)) there c (subst (λ q. IsAt im o l q c) (front_none front back split) at)
    path_seen _ _ (by_name before dir b name leads is_name named inside held) there front back c split at =
        let path = before ++ name ∷ [] in
        longer_seen path (subst (SeesPath v im o l) (sym (parent_of_next before name)) (path_seen before dir leads named.there))
        (only path b (leads_at path b (by_name before dir b name leads is_name named inside held)) there) front back c split at
