-- Trees below paths, and what stood at the target of a move.
use Rattle.std.proofs.Common.{◌≡◌, ◌≢◌, ℕ, ◌≤◌, ◌⊎◌, inl, inr, true, false, List, [], ◌∷◌, ◌++◌, Some, refl, sym, ap, ◌∙◌, subst, arith}
use Rattle.std.specs.Prelude.{option_and_then}
use Rattle.std.specs.Str.{bytes_eq}
use Rattle.file_tree.specs.Tree.{Tree, file, dir, look, IsTree}
use Rattle.gfs2_layout.specs.Exchanges.{IsExchanged}
use Rattle.gfs2_layout.specs.Records.{Record, child_named}
use Rattle.image_model.specs.Flat.{Path, Flat, child_in, tree_at, follow}
use Rattle.image_model.specs.Image.{Image}
use Rattle.image_model.specs.Owners.{Owners, Named, is_dinode}
use Rattle.image_model.specs.Stands.{name_count}
use Rattle.image_model.proofs.Counts.{count_some}
use Rattle.image_model.proofs.Held.{none_some, some_same}
use Rattle.image_model.proofs.Members.{IsIn}
use Rattle.image_changes.specs.Instances.{records_at, IsChildless, IsTarget, absent, replaced}
use Rattle.image_changes.proofs.TreePaths.{child_is_tree}
use Rattle.image_changes.proofs.FlatPaths.{after_some}
use Rattle.image_changes.proofs.Directories.{Lacks, named_itself, child_lacks, one_lacks, names_any_order, names_append}

-- ---- trees and paths

pub tree_below : (t u : Tree) (p r : Path) → tree_at t p ≡ Some u → tree_at t (p ++ r) ≡ tree_at u r
tree_below t u [] r e = ap (λ z. tree_at z r) (some_same e)
tree_below t u (n ∷ p) r e =
    let s = after_some (λ v. tree_at v p) (child_in t n) u e in
    ap (option_and_then (λ v. tree_at v (p ++ r))) s.1 ∙ tree_below s.0 u p r s.2

pub below_is_tree : (t u : Tree) (p : Path) → IsTree t → tree_at t p ≡ Some u → IsTree u
below_is_tree t u [] is e = subst IsTree (some_same e) is
below_is_tree (file bytes) u (n ∷ p) is e = absurd (none_some e)
below_is_tree (dir es) u (n ∷ p) is e =
    let s = after_some (λ v. tree_at v p) (look es n) u e in
    below_is_tree s.0 u p (child_is_tree es n s.0 is s.1) s.2

-- the last name of a path that isn't empty
pub record LastStep (f : Flat) (a c : ℕ) : Type 0 where
  pub way : Path
  pub before : ℕ
  pub name : List ℕ
  pub to : follow f a way ≡ Some before
  pub child : (f before).child name ≡ Some c

pub last_step : (f : Flat) (r : Path) (a c : ℕ) → follow f a r ≡ Some c → (a ≡ c) ⊎ LastStep f a c
last_step f [] a c e = inl (some_same e)
last_step f (n ∷ r) a c e =
    let s = after_some (λ b. follow f b r) ((f a).child n) c e in
    inr (more s.0 s.1 (last_step f r s.0 c s.2))
  where
    more : (b : ℕ) → (f a).child n ≡ Some b → (b ≡ c) ⊎ LastStep f b c → LastStep f a c
    more b e (inl same) = record { way = []; before = a; name = n; to = refl; child = e ∙ ap Some same }
    more b e (inr step) = record { way = n ∷ step.way; before = step.before; name = step.name; to = ap (option_and_then (λ x. follow f x step.way)) e ∙ step.to; child = step.child }

-- ---- what stood at the target

module _ (im : Image) (o o' : Owners) (q : ℕ) (name : List ℕ) where
  pub target_row : (cs : List ℕ) (rs : List Record) → IsTarget im o o' q name cs rs → (c : ℕ) → IsIn c cs → o c ≡ Named q name
  target_row _ _ (absent none) c h = elim h [ ]
  target_row _ _ (replaced d r row gone bare named) c (inl e) = ap o e ∙ row
  target_row _ _ (replaced d r row gone bare named) c (inr h) = elim h [ ]

  pub target_gone : (cs : List ℕ) (rs : List Record) → IsTarget im o o' q name cs rs → (c : ℕ) → IsIn c cs → is_dinode (o' c) ≡ false
  target_gone _ _ (absent none) c h = elim h [ ]
  target_gone _ _ (replaced d r row gone bare named) c (inl e) = ap (λ z. is_dinode (o' z)) e ∙ gone
  target_gone _ _ (replaced d r row gone bare named) c (inr h) = elim h [ ]

  pub target_childless : (cs : List ℕ) (rs : List Record) → IsTarget im o o' q name cs rs → (c : ℕ) → IsIn c cs → IsChildless im o c
  target_childless _ _ (absent none) c h = elim h [ ]
  target_childless _ _ (replaced d r row gone bare named) c (inl e) = subst (IsChildless im o) (sym e) bare
  target_childless _ _ (replaced d r row gone bare named) c (inr h) = elim h [ ]

  pub target_lacks : (cs : List ℕ) (rs : List Record) → IsTarget im o o' q name cs rs → (m : List ℕ) → m ≢ name → Lacks rs m
  target_lacks _ _ (absent none) m d = refl
  target_lacks _ _ (replaced c r row gone bare named) m d = one_lacks r m (λ e. d (e ∙ named))

  -- what the name led to is what is removed
  pub target_is : (cs : List ℕ) (rs : List Record) → IsTarget im o o' q name cs rs → (b : ℕ) → child_named (records_at im o q) name ≡ Some b
      → ((c : ℕ) → o c ≡ Named q name → c ≡ b) → IsIn b cs
  target_is _ _ (absent none) b e only = absurd (none_some (sym none ∙ e))
  target_is _ _ (replaced c r row gone bare named) b e only = inl (sym (only c row))

  -- and nothing that is left has the name
  pub target_rest : (cs : List ℕ) (rs : List Record) → IsTarget im o o' q name cs rs → (new gone come : List Record) (exchanged : IsExchanged (records_at im o q) new gone come)
      → ((m : List ℕ) → name_count (records_at im o q) m ≤ 1) → ((r : Record) → IsIn r rs → IsIn r gone) → Lacks exchanged.rest name
  target_rest _ _ (absent none) new gone come exchanged once there = omega (arith, names_any_order (records_at im o q) _ name exchanged.before, names_append gone exchanged.rest name, child_lacks (records_at im o q) name none)
  target_rest _ _ (replaced c r row gone bare named) new went come exchanged once there = omega (
    arith,
    names_any_order (records_at im o q) _ name exchanged.before,
    names_append went exchanged.rest name,
    once name,
    count_some (λ s. bytes_eq name s.name) r went (there r (inl refl)) (subst (λ m. bytes_eq name m ≡ true) (sym named) (named_itself name)),
  )
