-- What a dinode that is written over an old one leaves of its block.
use Rattle.std.specs.Prelude.{ℕ, ◌≡◌, List, ◌++◌, take, drop}
use Rattle.gfs2_layout.specs.Structures.{dinode_length, dinode_of}
use Rattle.gfs2_layout.specs.Writing.{dinode_put}
use Rattle.gfs2_layout.specs.declared.dinode.Dinode.{Dinode}

-- This dinode over the one that the old bytes begin with, and these bytes behind it: pads and reserved bytes, which are no field, stay.
unfoldable pub dinode_over : Dinode → List ℕ → List ℕ → List ℕ
dinode_over d old behind = dinode_put d (take dinode_length old ++ behind)

-- the new bytes of a dinode's block have the new dinode over the old one, whatever stands behind it
unfoldable pub KeepsPads : List ℕ → List ℕ → Type 0
KeepsPads old new = new ≡ dinode_over (dinode_of new) old (drop dinode_length new)
