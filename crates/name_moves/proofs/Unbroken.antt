-- In an image that stands for a tree nothing of a move is wrong.
use Rattle.std.proofs.Common.{◌≡◌, ℕ, ◌+◌, cond, true, false, List, [], ◌∷◌, ◌++◌, length, sym, ap, ◌∙◌, arith}
use Rattle.std.proofs.lemmas.List.Elements.{Contains-append_right}
use Rattle.std.proofs.lemmas.List.Sorted.{Contains-permutation, IsPermutation-sym, length_permutation, sum_by-IsPermutation}
use Rattle.std.proofs.lemmas.List.Sums.{sum_by-append}
use Rattle.std.specs.Prelude.{◌==◌, ◌&&◌, not, Contains, IsSome}
use Rattle.file_tree.specs.Names.{IsName}
use Rattle.file_tree.specs.Tree.{Tree}
use Rattle.gfs2_layout.specs.Exchanges.{directory_count}
use Rattle.gfs2_layout.specs.Holding.{Holding}
use Rattle.gfs2_layout.specs.Inode.{dinode_in, is_directory_in, records_of}
use Rattle.gfs2_layout.specs.Records.{Record, is_dots}
use Rattle.gfs2_layout.specs.Structures.{is_directory}
use Rattle.glock_names.specs.Views.{Seen}
use Rattle.image_model.specs.Flat.{Path}
use Rattle.image_model.specs.Image.{Image}
use Rattle.image_model.specs.Owners.{Owners, holding, is_dinode}
use Rattle.image_model.specs.Stands.{Layout}
use Rattle.image_model.proofs.Rows.{and_left}
use Rattle.image_changes.specs.Does.{IsOf}
use Rattle.image_changes.specs.Flats.{in_directory}
use Rattle.image_changes.specs.Instances.{IsAt, is_directory_at}
use Rattle.image_changes.proofs.Frame.{dinode_its}
use Rattle.draft_changes.proofs.Rows.{its_cell}
use Rattle.dinode_tree.proofs.Sound.{part_of_led}
use Rattle.hash_dirs.specs.Shown.{IsSound}
use Rattle.hash_dirs.proofs.Chained.{cell_some}
use Rattle.directories.specs.Shown.{IsBroken, IsShown}
use Rattle.directories.specs.Shown as dirs
use Rattle.directories.proofs.Forms.{is_directory_here}
use Rattle.directories.proofs.Sound.{unbroken}
use Rattle.resource_groups.specs.Putting.{HasDataBlock}
use Rattle.name_drafts.specs.HashInserting as inserting
use Rattle.name_drafts.specs.Inserting.{IsWrongForName}
use Rattle.name_drafts.specs.Inserting as naming
use Rattle.name_drafts.proofs.Images.{is_inode, is_shown, own_inside, shown_inode, sound_directory}
use Rattle.group_locks.proofs.Locks.{groups_break_nothing}
use Rattle.name_moves.specs.Becoming.{IsAfter, LosesAll, LosesName, of_none, of_one}
use Rattle.name_moves.specs.Moving.{ArePlacesIn, CanBeMoved, IsOneOf, IsWrongIn, Move, is_reparented, lost_there}
use Rattle.name_moves.proofs.Loses.{can_tell, directory_lost, kept_cells, sound_lost}

-- ---- a directory of which nothing is broken

pub record IsFine (v : Seen) (h : Holding) : Type 0 where
  pub sound : IsSound h
  pub is : is_directory_in h ≡ true
  pub inside : (x : ℕ) → IsSome (h.cell x) → HasDataBlock v x
  pub below : (r : Record) → Contains (records_of h) r → is_dots r.name ≡ false → HasDataBlock v r.address
  pub down : (r : Record) → Contains (records_of h) r → is_dots r.name ≡ false → IsName r.name
  pub entries : (dinode_in h).entries ≡ length (records_of h)
  pub links : (dinode_in h).nlink ≡ 2 + directory_count (records_of h)

-- it is fine without a name
fine_lost : (v : Seen) (h g : Holding) (name : List ℕ) → LosesName h g name → IsFine v h → IsFine v g
fine_lost v h g name lost fine =
    let rest = lost.exchanged.records.rest in
    let before = lost.exchanged.records.before in
    let after = lost.exchanged.records.after in
    let counted = lost.exchanged.counted in
    let was : (r : Record) → Contains (records_of g) r → Contains (records_of h) r = λ r has.
    Contains-permutation ((lost.gone ∷ []) ++ rest) (records_of h) r (IsPermutation-sym (records_of h) ((lost.gone ∷ []) ++ rest) before)
    (Contains-append_right (lost.gone ∷ []) rest r (Contains-permutation (records_of g) ([] ++ rest) r after has)) in
    let h_long : length ((lost.gone ∷ []) ++ rest) ≡ length (records_of h) = length_permutation (records_of h) ((lost.gone ∷ []) ++ rest) before in
    let g_long : length ([] ++ rest) ≡ length (records_of g) = length_permutation (records_of g) ([] ++ rest) after in
    let ones : Record → ℕ = λ r. cond (not (is_dots r.name) && r.kind == 4) 1 0 in
    let h_dirs : directory_count ((lost.gone ∷ []) ++ rest) ≡ directory_count (records_of h) = sum_by-IsPermutation ones (records_of h) ((lost.gone ∷ []) ++ rest) before in
    let g_dirs : directory_count ([] ++ rest) ≡ directory_count (records_of g) = sum_by-IsPermutation ones (records_of g) ([] ++ rest) after in
    let both : directory_count ((lost.gone ∷ []) ++ rest) ≡ directory_count (lost.gone ∷ []) + directory_count rest = sum_by-append ones (lost.gone ∷ []) rest in
    record {
      sound = sound_lost h g name lost fine.sound;
      is = directory_lost h g name lost ∙ fine.is;
      inside = λ x some. fine.inside x (kept_cells h g lost.kept x some);
      below = λ r has low. fine.below r (was r has) low;
      down = λ r has low. fine.down r (was r has) low;
      entries = omega (arith, counted.entries, fine.entries, h_long, g_long);
      links = omega (arith, counted.links, fine.links, h_dirs, g_dirs, both);
    }

fine_all : (v : Seen) (gone : List (List ℕ)) (h g : Holding) → LosesAll gone h g → IsFine v h → IsFine v g
fine_all v _ h _ (of_none _) fine = fine
fine_all v _ h g (of_one name gone _ k _ first later) fine = fine_all v gone k g later (fine_lost v h k name first fine)

not_broken : (v : Seen) (h : Holding) → IsFine v h → (rule b : ℕ) → IsBroken v h rule b → ⊥
not_broken v h fine = unbroken v h fine.sound fine.is fine.inside fine.below fine.down fine.entries fine.links

not_wrong_for : (v : Seen) (h : Holding) → IsFine v h → (rule b : ℕ) → IsWrongForName v h rule b → ⊥
not_wrong_for v h fine rule b (naming.IsWrongForName.of_directory broken) = not_broken v h fine rule b broken
not_wrong_for v h fine rule b (naming.IsWrongForName.in_hashed hashed (inserting.IsWrongToInsert.in_directory r d broken)) = not_broken v h fine r d (dirs.IsBroken.in_hashed hashed broken)
not_wrong_for v h fine rule b (naming.IsWrongForName.in_hashed hashed (inserting.IsWrongToInsert.stray_pointer from d led outside)) =
    outside (fine.inside d (cell_some (h.cell d) _ (part_of_led h from led.0 led.1 led.2 d fine.sound.inode.tree led.3)))

after_fine : (v : Seen) (dir : ℕ) (gone : List (List ℕ)) (P : Holding → Type 0) (h : Holding) → IsShown v dir h → IsFine v h → IsAfter v dir gone P → (k : Holding) × IsFine v k × P k
after_fine v dir gone P h shown fine after = let k = after h shown (can_tell gone h fine.sound) in (k.0, fine_all v gone h k.0 k.1 fine, k.2)

module _ (v : Seen) (im : Image) (o : Owners) (l : Layout) (t : Tree) (of : IsOf v im o l t) where
  fine_in : (path : Path) (a : ℕ) → IsAt im o l path a → is_directory_at im o a ≡ true → IsFine v (holding im o a)
  fine_in path a at dir =
      let is = of.stands.laid.directories a (is_inode v im o l t of path a at) dir in
      record {
        sound = sound_directory v im o l t of path a at dir;
        is = dir;
        inside = own_inside v im o l t of a;
        below = λ r has low. own_inside v im o l t of r.address r.address (its_cell im o r.address r.address (dinode_its r.address (o r.address) (ap is_dinode (is.down r has low).owner)));
        down = λ r has low. (is.down r has low).name;
        entries = is.entries;
        links = is.links;
      }

  module _ (m : Move) (path path' : Path) (can : CanBeMoved v m) (places : ArePlacesIn im o l path path' m) where
    pub source_is : is_directory_at im o m.from ≡ true
    source_is = is_directory_here v m.from (holding im o m.from) can.source can.source_there (is_shown v im o l t of path m.from places.source)

    pub moved_is : is_reparented m ≡ true → is_directory_at im o m.moved.inode ≡ true
    moved_is moves = ap is_directory (sym places.inode_dinode) ∙ and_left (is_directory m.moved.dinode) _ moves

    target_wrong : (names : List (List ℕ)) (rule b : ℕ) → IsAfter v m.to.inode names (λ k. IsBroken v k rule b) → ⊥
    target_wrong names rule b so =
        let k = after_fine v m.to.inode names _ (holding im o m.to.inode) (shown_inode v im o l t of path' m.to.inode places.target) (fine_in path' m.to.inode places.target places.directory) so in
        not_broken v k.0 k.1 rule b k.2

    one_wrong : (rule b dir : ℕ) (names : List (List ℕ)) (name : List ℕ) → IsOneOf m dir names name → IsAfter v dir names (λ k. IsBroken v k rule b) → ⊥
    one_wrong rule b _ _ _ (IsOneOf.the_new replaces) so = target_wrong [] rule b so
    one_wrong rule b _ _ _ (IsOneOf.the_old_then replaces within) so = target_wrong (m.new_name ∷ []) rule b so
    one_wrong rule b _ _ _ IsOneOf.the_old so =
        let k = after_fine v m.from [] _ (holding im o m.from) (shown_inode v im o l t of path m.from places.source) (fine_in path m.from places.source source_is) so in
        not_broken v k.0 k.1 rule b k.2
    one_wrong rule b _ _ _ (IsOneOf.the_parent moves) so =
        let at = places.inode in
        let k = after_fine v m.moved.inode [] _ (holding im o m.moved.inode) (shown_inode v im o l t of (in_directory path m.name) m.moved.inode at) (fine_in (in_directory path m.name) m.moved.inode at (moved_is moves)) so in
        not_broken v k.0 k.1 rule b k.2

    pub not_wrong : (blocks : List ℕ) (rule b : ℕ) → IsWrongIn v m blocks rule b → ⊥
    not_wrong blocks rule b (IsWrongIn.in_group r d broken) = groups_break_nothing v im o l t blocks r d of broken
    not_wrong blocks rule b (IsWrongIn.to_come r d after) =
        let k = after_fine v m.to.inode (lost_there m) _ (holding im o m.to.inode) (shown_inode v im o l t of path' m.to.inode places.target) (fine_in path' m.to.inode places.target places.directory) after in
        not_wrong_for v k.0 k.1 r d k.2
    not_wrong blocks rule b (IsWrongIn.to_go dir r d names name one after) = one_wrong r d dir names name one after
