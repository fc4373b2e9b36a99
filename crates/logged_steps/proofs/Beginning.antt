-- A run begins on a disk at rest.
use Rattle.std.proofs.Common.{◌≡◌, ℕ, List, Option, sym, subst}
use Rattle.call_blocks.specs.Lone.{MayChangeAtTheStart}
use Rattle.file_tree.specs.Tree.{Tree}
use Rattle.image_machine.specs.Volumes.{volume_of}
use Rattle.image_model.specs.Image.{image_of}
use Rattle.image_model.specs.Owners.{Owners}
use Rattle.image_model.specs.Stands.{Layout}
use Rattle.log_layout.specs.declared.log_header.LogHeader.{LogHeader}
use Rattle.log_values.specs.Laws.{empty_log}
use Rattle.log_values.specs.Log.{Journal}
use Rattle.lone_images.specs.Lone.{begun_on}
use Rattle.lone_ends.specs.Laws.{Begins, at_rest, no_numbers}
use Rattle.lone_ends.specs.States.{IsLoggedNode, trees_on}
use Rattle.lone_machine.specs.Alone as alone
use Rattle.lone_view.specs.Seeing.{Lone}
use Rattle.shared_disk.specs.Disk.{DiskState, Operation, flight_to}
use Rattle.trace_text.specs.declared.item.TraceItem.{TraceItem}
use Rattle.logged_steps.specs.Laws.{RunsBegin}
use Rattle.logged_steps.specs.Points.{state_of}
use Rattle.logged_steps.specs.Starts.{IsAtRest, starting}

-- the node has there what one at rest has
rests : (disk : DiskState) (o : Owners) (l : Layout) (t : Tree) (d : ℕ) (journal : Journal) (head : LogHeader) (view : Lone) (list : Option (List Operation)) (items : List TraceItem) → IsAtRest disk o l t d journal head view
    → at_rest (image_of disk) journal head ≡ state_of (starting disk list journal head view items)
rests disk o l t d journal head view list items rest = λ i. record {
  image = image_of disk;
  flying = flight_to (sym (rest.none 1) i);
  log = empty_log journal head.blkno head.sequence;
  kept = sym rest.empty i;
  numbers = no_numbers;
}

pub runs_begin : Begins → MayChangeAtTheStart → RunsBegin
runs_begin begins may disk o l t d journal head view clients list items rest none = record {
  tells = rest.tells;
  sound = rest.sound;
  others = λ j off. rest.none j;
  world = alone.begun (trees_on (volume_of (image_of disk) l)) (begun_on (image_of disk) o l t);
  is = subst (IsLoggedNode (volume_of (image_of disk) l) (begun_on (image_of disk) o l t) (alone.begun (trees_on (volume_of (image_of disk) l)) (begun_on (image_of disk) o l t)) d)
      (rests disk o l t d journal head view list items rest)
      (begins (image_of disk) o l t d journal head rest.stands rest.clean rest.apart rest.is_journal rest.its_journal rest.headed);
  volume = rest.volume;
  history = none;
  may = may (image_of disk) o l t rest.stands;
}
