use Rattle.image_model.proofs.Lengths.{place_is, places_same, rings_say_the_same, size_large}
use Rattle.image_model.proofs.laws.journals_read_alike.Goals as goal

pub returns : goal.returns
returns c = λ im owners l laid a dinode journal.
    let large = size_large im.size laid.image.block_size in
    record {
      says = rings_say_the_same im owners large a dinode (laid.inodes a dinode) journal;
      places = places_same im owners large a dinode (laid.inodes a dinode) journal;
      blocks = λ p low. (place_is im owners large a dinode (laid.inodes a dinode) journal p low).0;
    }
