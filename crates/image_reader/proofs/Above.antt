-- What claims a block by a name is a directory.
use Rattle.std.proofs.Common.{◌≡◌, ℕ, Bool, true, false, List, refl}
use Rattle.std.specs.Prelude.{◌&&◌}
use Rattle.gfs2_layout.specs.Structures.{is_directory}
use Rattle.gfs2_layout.specs.Inode.{dinode_in, has_hash_flag, is_directory_in, is_hashed_in}
use Rattle.image_model.specs.Claims.{every, Claims, root, master, below, first_leaf, next_leaf, in_dinode, in_leaf}
use Rattle.image_model.specs.Image.{Image}
use Rattle.image_model.specs.Owners.{Owner, Named, Chained}

-- the inode above is a directory, and a hashed one above a leaf
abbrev HasAbove : Image → Owner → Type 0
HasAbove im (Named a name) = is_directory_in (every im a) ≡ true
HasAbove im (Chained a hash place) = is_hashed_in (every im a) ≡ true
HasAbove im _ = Unit {0}

both_first : (a b : Bool) → (a && b) ≡ true → a ≡ true
both_first true b e = refl
both_first false b e = e

hashed_directory : (im : Image) (a : ℕ) → is_hashed_in (every im a) ≡ true → is_directory_in (every im a) ≡ true
hashed_directory im a e = both_first (is_directory (dinode_in (every im a))) (has_hash_flag (dinode_in (every im a))) e

above : (im : Image) (by c : ℕ) (o : Owner) → Claims im by c o → HasAbove im o
above im by c o (root) = tt
above im by c o (master) = tt
above im by c o (below by' a p b k level first d claim dinode leads) = tt
above im by c o (first_leaf by' a p i claim dinode hashed low some) = hashed
above im by c o (next_leaf by' x a hash place claim some) = above im by' x (Chained a hash place) claim
above im by c o (in_dinode by' a p r claim dinode dir plain there name) = dir
above im by c o (in_leaf by' x a hash place r claim there name) = hashed_directory im a (above im by' x (Chained a hash place) claim)

pub named_by_directory : (im : Image) (by c a : ℕ) (name : List ℕ) → Claims im by c (Named a name) → is_directory_in (every im a) ≡ true
named_by_directory im by c a name claim = above im by c (Named a name) claim
