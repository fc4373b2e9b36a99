-- A name that is meant to move was seen by the walks.
use Rattle.std.proofs.Common.{inl, ◌≡◌, ℕ, ◌-◌, List, [], ◌∷◌, length, Option, None, Some, Result, Ok, Err, Vec, Global, refl, sym, ap, ◌∙◌, subst, arith}
use Rattle.std.specs.List.{slice_get}
use Rattle.std.specs.Prelude.{Contains, IfOk}
use Rattle.file_tree.specs.Names.{IsName, last_of, parent_of}
use Rattle.file_tree.specs.Tree.{Tree}
use Rattle.file_tree.specs.declared.call.Call.{Call}
use Rattle.glock_names.specs.Views.{Seen, IsView}
use Rattle.glock_names.specs.declared.steps.CallFault.{CallFault}
use Rattle.image_model.specs.Flat.{Path}
use Rattle.image_model.specs.Image.{Image}
use Rattle.image_model.specs.Owners.{Owners}
use Rattle.image_model.specs.Stands.{Layout}
use Rattle.image_model.proofs.Held.{none_some, some_same}
use Rattle.image_changes.specs.Does.{IsOf}
use Rattle.move_ends.proofs.Forms.{some_directory}
use Rattle.resource_groups.specs.Putting.{HasDataBlock}
use Rattle.move_ends.specs.Holds.{AreHeld}
use Rattle.move_ends.specs.Walks.{IsLastOf, Names}
use Rattle.move_ends.specs.walk.Place.{Place}
use Rattle.move_ends.proofs.Paths.{ends_so}
use Rattle.move_ends.proofs.Above.{above_names, inode_inside}
use Rattle.move_ends.specs.Ends.{AreEnds, IsFoundIn, IsTarget, IsTold, MovesIn, first_wants, from_path, inode_holds, second_wants, to_path}
use Rattle.move_ends.specs.declared.ends.Ends.TheVariants as tells
use Rattle.name_moves.specs.Moving.{Move}
use Rattle.move_calls.specs.Answering.{IsMeant, blocks_of_replaced, the_move}
use Rattle.move_calls.specs.Checks.{HasSeenThere, IsSeenMove}

module _ (v : Seen) (call : Call) (from to : Place) (view : IsView v) (ends : AreEnds v call from to) (is_name : IsName (last_of (to_path call))) where
  from_last : IsLastOf (from_path call) (last_of (from_path call))
  from_last = (parent_of (from_path call), ends_so (from_path call) ends.begun.from)

  to_last : IsLastOf (to_path call) (last_of (to_path call))
  to_last = (parent_of (to_path call), ends_so (to_path call) ends.begun.to)

  stood : (r : Option (List ℕ)) → IsTarget v call from to r → ((blocks : List ℕ) → r ≡ Some blocks → (b : ℕ) → Contains blocks b → HasDataBlock v b) → HasSeenThere v (the_move call from to r)
  stood None (IsTarget.free lacks) inside = HasSeenThere.nothing refl lacks.absent
  stood (Some blocks) (IsTarget.taken at those stands may all leaves) inside =
      let s = some_directory v at.inode view in
      let own : Contains blocks at.inode = (all s.0 s.1 at.inode).1 (inl (sym s.1.inode.own)) in
      let named : Names v to.inode (last_of (to_path call)) at.inode =
      subst (λ d. Names v d (last_of (to_path call)) at.inode) stands.above (above_names v (second_wants call) (to_path call) at (last_of (to_path call)) view stands.place to_last) in
      HasSeenThere.an_inode at.inode blocks refl named own (inside blocks refl)

  pub was_seen : (r : Option (List ℕ)) → IsTarget v call from to r → ((blocks : List ℕ) → r ≡ Some blocks → (b : ℕ) → Contains blocks b → HasDataBlock v b) → IsSeenMove v (the_move call from to r)
  was_seen r target inside = record {
    named = above_names v (first_wants call) (from_path call) from (last_of (from_path call)) view ends.source from_last;
    is_name = is_name;
    target_there = ends.there;
    target = ends.directory;
    target_read = ends.read;
    inode_there = ends.source.there;
    inode_inside = inode_inside v (first_wants call) (from_path call) from (last_of (from_path call)) ends.source from_last;
    inode_read = ends.source.dinode;
    stood = stood r target inside;
  }

-- the move as the code writes it
abbrev pub written : Place → Place → List ℕ → List ℕ → Option (List ℕ) → Move
written from to name new_name replaced = record { from = from.above; name = name; to = to; new_name = new_name; moved = from; replaced = replaced }

-- is that of the call
pub same_move : (call : Call) (from to : Place) (name new_name : List ℕ) (x y : Option (List ℕ)) → name ≡ last_of (from_path call) → new_name ≡ last_of (to_path call) → x ≡ y
    → written from to name new_name x ≡ the_move call from to y
same_move call from to name new_name x y first second third =
    ap (λ n. written from to n new_name x) first ∙ ap (λ n. written from to (last_of (from_path call)) n x) second
    ∙ ap (λ r. written from to (last_of (from_path call)) (last_of (to_path call)) r) third

-- ---- the last name

last_from : (n : List ℕ) (ns : Path) (last : List ℕ) → slice_get (n ∷ ns) (length ns) ≡ Some last → last ≡ last_of (n ∷ ns)
last_from n [] last e = sym (some_same e)
last_from n (k ∷ ns) last e = last_from k ns last e

pub is_last : (ns : Path) (last : List ℕ) → slice_get ns (length ns - 1) ≡ Some last → last ≡ last_of ns
is_last [] last e = absurd (none_some e)
is_last (n ∷ ns) last e =
    let one : length (n ∷ ns) - 1 ≡ length ns = omega (arith) in
    last_from n ns last (subst (λ i. slice_get (n ∷ ns) i ≡ Some last) one e)

-- ---- what is meant

module _ (v : Seen) (call : Call) (from to : Place) (ends : AreEnds v call from to) where
  pub is_meant : (r : Option (List ℕ)) → IsTarget v call from to r → ((blocks : List ℕ) → r ≡ Some blocks → (b : ℕ) → Contains blocks b → HasDataBlock v b)
      → ((im : Image) (o : Owners) (l : Layout) (t : Tree) → IsOf v im o l t → MovesIn v im o l t call from to r × AreHeld v (inode_holds im o l call)) → IsMeant v call (the_move call from to r)
  is_meant None target inside images = record { ends = ends; target = target; inside = λ b has. absurd (omega (arith, has.1)); is = refl; images = images }
  is_meant (Some blocks) target inside images = record { ends = ends; target = target; inside = inside blocks refl; is = refl; images = images }

-- ---- what the ends tell

module _ (v : Seen) (call : Call) (from to : Place) where
  pub told_ends : (replaced : Option (Vec ℕ Global)) → IsTold v call (tells.Moves from to replaced) → AreEnds v call from to
  told_ends None told = told.0
  told_ends (Some blocks) told = told.0

  pub told_target : (replaced : Option (Vec ℕ Global)) → IsTold v call (tells.Moves from to replaced) → IsTarget v call from to (blocks_of_replaced replaced)
  told_target None told = told.1
  told_target (Some blocks) told = told.1

  pub told_inside : (replaced : Option (Vec ℕ Global)) → IsTold v call (tells.Moves from to replaced) → (blocks : List ℕ) → blocks_of_replaced replaced ≡ Some blocks → (b : ℕ) → Contains blocks b → HasDataBlock v b
  told_inside None told blocks is b has = absurd (none_some is)
  told_inside (Some all) told blocks is b has = told.2 b (subst (λ xs. Contains xs b) (sym (some_same is)) has)

  pub found_there : (im : Image) (o : Owners) (l : Layout) (t : Tree) (replaced : Option (Vec ℕ Global)) → IsFoundIn v im o l t call (tells.Moves from to replaced)
      → MovesIn v im o l t call from to (blocks_of_replaced replaced) × AreHeld v (inode_holds im o l call)
  found_there im o l t None found = found
  found_there im o l t (Some blocks) found = found

pub ok_so : {A : Type 0} (P Q : A → Type 0) → ((a : A) → P a → Q a) → (r : Result A CallFault) → IfOk r P → IfOk r Q
ok_so P Q so (Ok a) told = so a told
ok_so P Q so (Err f) told = tt
