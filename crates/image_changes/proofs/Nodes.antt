-- What the inodes of an image say as nodes, and what is common to the changes that touch a few of them.
use Rattle.std.proofs.Common.{◌≡◌, ◌≢◌, ℕ, ◌⊎◌, inl, inr, Bool, true, false, ◌||◌, List, [], ◌∷◌, Option, None, Some, refl, sym, ap, ◌∙◌, subst}
use Rattle.std.specs.Prelude.{◌==◌, if◌then◌else◌}
use Rattle.std.specs.Str.{bytes_eq}
use Rattle.std.proofs.lemmas.Bool.{cases_Bool, cases_eq, cond-true, cond-false, eq-eqb, ne_eqb, eqb-true, or_cases, true≢false}
use Rattle.file_tree.specs.Tree.{Tree, file, dir, none}
use Rattle.gfs2_layout.specs.Inode.{is_directory_in, content_of, records_of}
use Rattle.gfs2_layout.specs.Records.{is_dots, child_named}
use Rattle.image_model.specs.Flat.{Path, AFile, ADir, thing_in, thing_at, Node, Flat, no_node, follow, thing_from, ReadsAs}
use Rattle.image_model.specs.Image.{Image}
use Rattle.image_model.specs.Nodes.{node_of}
use Rattle.image_model.specs.Owners.{Owners, Named, is_dinode, holding}
use Rattle.image_model.specs.Stands.{Layout, flat_of, IsLaid}
use Rattle.image_model.proofs.Members.{IsIn}
use Rattle.image_changes.specs.Changes.{IsChange}
use Rattle.image_changes.specs.Flats.{LeadsElsewhere}
use Rattle.image_changes.specs.Instances.{among}
use Rattle.image_changes.proofs.Directories.{named_itself, named_other}
use Rattle.image_changes.proofs.FlatPaths.{follow_kept}
use Rattle.image_changes.proofs.Frame.{row_kept, flat_same}
use Rattle.image_changes.proofs.Laid.{apart, follow_dinode, row_dinode}

-- ---- one of a few

pub among_in : (ys : List ℕ) (x : ℕ) → among ys x ≡ true → IsIn x ys
among_in [] x e = absurd (true≢false (sym e))
among_in (y ∷ ys) x e = elim (or_cases (x == y) (among ys x) e) [ inl h ↦ inl (eqb-true x y h) | inr h ↦ inr (among_in ys x h) ]

pub in_among : (ys : List ℕ) (x : ℕ) → IsIn x ys → among ys x ≡ true
in_among [] x h = elim h [ ]
in_among (y ∷ ys) x (inl e) = rw (eq-eqb x y e) refl
in_among (y ∷ ys) x (inr h) = rw (in_among ys x h) (or_true (x == y))
  where
    or_true : (b : Bool) → (b || true) ≡ true
    or_true true = refl
    or_true false = refl

pub not_among : (ys : List ℕ) (x : ℕ) → (IsIn x ys → ⊥) → among ys x ≡ false
not_among ys x away = elim (cases_Bool (among ys x)) [ inl here ↦ absurd (away (among_in ys x here)) | inr non ↦ non ]

pub away_from : (ys : List ℕ) (x : ℕ) → among ys x ≡ false → IsIn x ys → ⊥
away_from ys x e h = true≢false (sym (in_among ys x h) ∙ e)

-- ---- nodes

module _ (im : Image) (o : Owners) (a : ℕ) where
  pub node_there : is_dinode (o a) ≡ true → flat_of im o a ≡ node_of (holding im o a)
  node_there so = cond-true _ (node_of (holding im o a)) no_node so

  pub node_none : is_dinode (o a) ≡ false → flat_of im o a ≡ no_node
  node_none non = cond-false _ (node_of (holding im o a)) no_node non

  pub file_thing : is_dinode (o a) ≡ true → is_directory_in (holding im o a) ≡ false → (flat_of im o a).thing ≡ AFile (content_of (holding im o a))
  file_thing so plain = ap (λ (n : Node). n.thing) (node_there so) ∙ cond-false _ _ _ plain

  pub file_child : is_dinode (o a) ≡ true → is_directory_in (holding im o a) ≡ false → (name : List ℕ) → (flat_of im o a).child name ≡ None
  file_child so plain name = ap (λ (n : Node). n.child name) (node_there so) ∙ cond-false _ _ _ plain

  pub dir_thing : is_dinode (o a) ≡ true → is_directory_in (holding im o a) ≡ true → (flat_of im o a).thing ≡ ADir
  dir_thing so is = ap (λ (n : Node). n.thing) (node_there so) ∙ cond-true _ _ _ is

  pub dir_child : is_dinode (o a) ≡ true → is_directory_in (holding im o a) ≡ true → (name : List ℕ) → is_dots name ≡ false
      → (flat_of im o a).child name ≡ child_named (records_of (holding im o a)) name
  dir_child so is name plain = ap (λ (n : Node). n.child name) (node_there so) ∙ cond-true _ _ _ is ∙ cond-false _ _ _ plain

  pub dots_child : is_dinode (o a) ≡ true → is_directory_in (holding im o a) ≡ true → (name : List ℕ) → is_dots name ≡ true → (flat_of im o a).child name ≡ None
  dots_child so is name dots = ap (λ (n : Node). n.child name) (node_there so) ∙ cond-true _ _ _ is ∙ cond-true _ _ _ dots

-- ---- a name of one inode made to lead elsewhere

abbrev pub leading : Flat → ℕ → List ℕ → Option ℕ → Flat
leading f a name b x = if x == a then record { thing = (f a).thing; child = λ m. if bytes_eq m name then b else (f a).child m } else f x

module _ (f : Flat) (a : ℕ) (name : List ℕ) (b : Option ℕ) where
  pub leading_there : (x : ℕ) → x ≡ a → leading f a name b x ≡ record { thing = (f a).thing; child = λ m. if bytes_eq m name then b else (f a).child m }
  leading_there x e = cond-true _ _ (f x) (eq-eqb x a e)

  pub leading_other : (x : ℕ) → x ≢ a → leading f a name b x ≡ f x
  leading_other x d = cond-false _ _ (f x) (ne_eqb x a d)

  pub leads_elsewhere : LeadsElsewhere f (leading f a name b) a name
  leads_elsewhere = record { things = things; others = others }
    where
      things : (x : ℕ) → (leading f a name b x).thing ≡ (f x).thing
      things x = elim (cases_eq x a) [
        | inl e ↦ ap (λ (n : Node). n.thing) (leading_there x e) ∙ ap (λ z. (f z).thing) (sym e)
        | inr d ↦ ap (λ (n : Node). n.thing) (leading_other x d)
      ]

      others : (x : ℕ) (m : List ℕ) → (x ≢ a) ⊎ (m ≢ name) → (leading f a name b x).child m ≡ (f x).child m
      others x m (inl d) = ap (λ (n : Node). n.child m) (leading_other x d)
      others x m (inr d) = elim (cases_eq x a) [
        | inl e ↦ ap (λ (n : Node). n.child m) (leading_there x e) ∙ cond-false _ b _ (named_other m name d) ∙ ap (λ z. (f z).child m) (sym e)
        | inr away ↦ ap (λ (n : Node). n.child m) (leading_other x away)
      ]

  pub leads_there : (leading f a name b a).child name ≡ b
  leads_there = ap (λ (n : Node). n.child name) (leading_there a refl) ∙ cond-true _ b _ (named_itself name)

-- ---- a tree without a name

pub bare_reads : (f : Flat) (a : ℕ) (u : Tree) → ((name : List ℕ) → (f a).child name ≡ None) → (u ≡ file []) ⊎ (u ≡ dir none) → (f a).thing ≡ thing_in u → ReadsAs f a u
bare_reads f a u leaf (inl e) is = subst (ReadsAs f a) (sym e) (record { tree = tt; same = same })
  where
    same : (q : Path) → thing_from f a q ≡ thing_at (file []) q
    same [] = ap Some (is ∙ ap thing_in e)
    same (n ∷ q) = rw (leaf n) refl
bare_reads f a u leaf (inr e) is = subst (ReadsAs f a) (sym e) (record { tree = tt; same = same })
  where
    same : (q : Path) → thing_from f a q ≡ thing_at (dir none) q
    same [] = ap Some (is ∙ ap thing_in e)
    same (n ∷ q) = rw (leaf n) refl

-- ---- what is common to the changes that touch a few inodes

module _ (im im' : Image) (o o' : Owners) (l : Layout) (ys : List ℕ) (written : ℕ → Bool) (laid : IsLaid im o l) (change : IsChange im im' o o' l (among ys) written)
    (whence : (y : ℕ) → IsIn y ys → ((path : Path) × (follow (flat_of im o) l.root path ≡ Some y)) ⊎ (is_dinode (o y) ≡ false)) where
  -- none is a system file
  pub no_system : (path : Path) (a : ℕ) → follow (flat_of im o) l.master path ≡ Some a → among ys a ≡ false
  no_system path a e = not_among ys a (λ here. each here (whence a here))
    where
      each : IsIn a ys → ((path : Path) × (follow (flat_of im o) l.root path ≡ Some a)) ⊎ (is_dinode (o a) ≡ false) → ⊥
      each here (inl at) = apart im o l laid at.0 path a at.1 e
      each here (inr non) = true≢false (sym (follow_dinode im o l laid path l.master a (ap is_dinode laid.master) e) ∙ non)

  -- what is found from the master directory is found there afterwards
  pub master_stays : (path : Path) → follow (flat_of im' o') l.master path ≡ follow (flat_of im o) l.master path
  master_stays path = follow_kept (flat_of im o) (flat_of im' o') path [] l.master l.master refl
      (λ q y at. ap (λ (n : Node). n.child) (flat_same im im' o o' l (among ys) written change y (no_system q y at)))

  pub untouched_flat : (a : ℕ) → (IsIn a ys → ⊥) → flat_of im' o' a ≡ flat_of im o a
  untouched_flat a away = flat_same im im' o o' l (among ys) written change a (not_among ys a away)

  -- a name in an inode that isn't touched leads where it led
  pub rows_kept : ((y : ℕ) → IsIn y ys → (o' y ≡ o y) ⊎ ((p : ℕ) (name : List ℕ) → (o y ≡ Named p name) ⊎ (o' y ≡ Named p name) → IsIn p ys))
      → (b p : ℕ) (name : List ℕ) → among ys p ≡ false → (o b ≡ Named p name) ⊎ (o' b ≡ Named p name) → o' b ≡ o b
  rows_kept each b p name away which = elim (cases_Bool (among ys b)) [
    | inr other ↦ row_kept im im' o o' l (among ys) written change b other (dinodes which)
    | inl here ↦ elim (each b (among_in ys b here)) [ inl e ↦ e | inr to ↦ absurd (away_from ys p away (to p name which)) ]
  ]
    where
      dinodes : (o b ≡ Named p name) ⊎ (o' b ≡ Named p name) → (is_dinode (o b) ≡ true) ⊎ (is_dinode (o' b) ≡ true)
      dinodes (inl e) = inl (row_dinode (o b) p name e)
      dinodes (inr e) = inr (row_dinode (o' b) p name e)
