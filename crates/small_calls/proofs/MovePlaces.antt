-- A name that is moved, in an image that the view may be of.
use Rattle.std.proofs.Common.{◌≡◌, ◌^◌, ◌<◌, ℕ, List, [], ◌∷◌, length, Option, None, refl, sym, ap, subst, ◌∙◌}
use Rattle.crc_words.specs.Remainder.{crc32_of}
use Rattle.file_tree.specs.Names.{last_of, parent_of}
use Rattle.file_tree.specs.Tree.{Tree}
use Rattle.file_tree.specs.declared.call.Call.{Call}
use Rattle.gfs2_layout.specs.Holding.{Holding}
use Rattle.gfs2_layout.specs.Inode.{records_of}
use Rattle.gfs2_layout.specs.Records.{child_named}
use Rattle.glock_names.specs.Views.{Seen}
use Rattle.image_model.specs.Flat.{Path}
use Rattle.image_model.specs.Image.{Image}
use Rattle.image_model.specs.Owners.{Owners, holding}
use Rattle.image_model.specs.Stands.{Layout}
use Rattle.image_model.proofs.Rising.{rising}
use Rattle.image_changes.specs.Does.{IsOf}
use Rattle.image_changes.specs.Flats.{in_directory}
use Rattle.image_changes.specs.Instances.{IsAt}
use Rattle.file_calls.proofs.Images.{shown_inode, sound_directory}
use Rattle.file_calls.proofs.FoundInImage.{are_shown, said_free}
use Rattle.file_calls.proofs.Alike.{need_once}
use Rattle.file_calls.specs.MoveCarrying.{HasRoom, locks_of_room}
use Rattle.file_calls.specs.MoveEnds.{AreEnds, MovesIn, StoodIn, from_path, to_path}
use Rattle.file_calls.specs.NameBecoming.{LosesAll}
use Rattle.file_calls.specs.NameMoving.{IsMoveIn, Move, StandsThere, lost_there}
use Rattle.file_calls.specs.Moving.{the_move}
use Rattle.file_calls.specs.Need.{name_need}
use Rattle.small_calls.proofs.Rooms.{distinct}

-- a path that isn't empty ends with its last name
ends_so : (path : Path) → (path ≡ [] → ⊥) → path ≡ in_directory (parent_of path) (last_of path)
ends_so [] some = absurd (some refl)
ends_so (n ∷ []) some = refl
ends_so (n ∷ m ∷ ns) some = ap (λ rest. n ∷ rest) (ends_so (m ∷ ns) (λ e. cc))

module _ (v : Seen) (call : Call) (m : Move) (node need : ℕ) (room : List ℕ) (im : Image) (o : Owners) (l : Layout) (t : Tree) (of : IsOf v im o l t) (ends : AreEnds v call m.moved m.to)
    (moves : MovesIn v im o l t call m.moved m.to m.replaced) (is : m ≡ the_move call m.moved m.to m.replaced) (has : HasRoom v node m need room) (hash : crc32_of m.new_name < 2 ^ 32) where
  from_so : from_path call ≡ in_directory (parent_of (from_path call)) m.name
  from_so = ends_so (from_path call) ends.begun.from ∙ ap (in_directory (parent_of (from_path call))) (sym (ap (λ (x : Move). x.name) is))

  to_so : to_path call ≡ in_directory (parent_of (to_path call)) m.new_name
  to_so = ends_so (to_path call) ends.begun.to ∙ ap (in_directory (parent_of (to_path call))) (sym (ap (λ (x : Move). x.new_name) is))

  stood : (r : Option (List ℕ)) → m.replaced ≡ r → StoodIn im o l call m.to.inode r → StandsThere im o l (parent_of (to_path call)) m
  stood _ e (StoodIn.nothing child none) = StandsThere.nothing e (subst (λ n. child_named (records_of (holding im o m.to.inode)) n ≡ None) (sym (ap (λ (x : Move). x.new_name) is)) child)
  stood _ e (StoodIn.an_inode a blocks at childless own) = StandsThere.an_inode a blocks e (subst (λ p. IsAt im o l p a) to_so at) childless own

  as_many : (without : Holding) → LosesAll (lost_there m) (holding im o m.to.inode) without → length room ≡ name_need without m.new_name
  as_many without lost =
      let sound = sound_directory v im o l t of (parent_of (to_path call)) m.to.inode moves.target moves.directory in
      (has.are im.at (are_shown v im o l t of)).many
      ∙ need_once (lost_there m) (holding im o m.to.inode) m.new_name need (name_need without m.new_name) sound hash
      (has.counted.needs.in_sound (holding im o m.to.inode) (shown_inode v im o l t of (parent_of (to_path call)) m.to.inode moves.target) sound)
      (record { without = without; lost = lost; is = refl })

  pub place_in : IsMoveIn im o l (parent_of (from_path call)) (parent_of (to_path call)) m room
  place_in = record {
    source = subst (IsAt im o l (parent_of (from_path call))) (sym (ap (λ (x : Move). x.from) is)) moves.source.above;
    target = moves.target;
    inode = subst (λ p. IsAt im o l p m.moved.inode) from_so moves.source.at;
    directory = moves.directory;
    target_dinode = moves.dinode;
    inode_dinode = moves.source.dinode;
    stood = stood m.replaced refl moves.stood;
    as_many = as_many;
    free = λ b there. said_free v im o l t of (locks_of_room v im.at has.counted.first.own need m) b ((has.are im.at (are_shown v im o l t of)).each b there);
    once = distinct room (rising room has.blocks.rise);
  }
