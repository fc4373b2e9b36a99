-- What the code that reads an image holds, as what it stands for.
use Rattle.std.specs.Prelude.{ℕ, List, map}
use Rattle.std.specs.List.{range_with_len}
use Rattle.gfs2_layout.specs.Bitmap.{state_at}
use Rattle.image_model.specs.Claims.{every, HasInode}
use Rattle.image_model.specs.Image.{Image, image_in}
use Rattle.gfs2_layout.specs.Holding.{Holding}
use Rattle.image_model.specs.Rules.{IsBrokenBlock}
use Rattle.image_reader.specs.declared.blocks.Blocks.{Blocks}
use Rattle.image_reader.specs.declared.blocks.Block.{Block}
use Rattle.image_reader.specs.declared.inode.Inode.{Inode}
use Rattle.image_reader.specs.declared.image.ImageFault.{ImageFault}
use Rattle.image_reader.specs.declared.image.ImageFault.TheVariants.{Damaged, NoMemory}

-- a fault is true of the image: the block breaks the rule, and is on the device but for a superblock that it is too short for.
-- Want of memory says nothing
abbrev pub IsTrueOf : Image → ImageFault → Type 0
IsTrueOf im (Damaged block rule) = IsBrokenBlock im rule block
IsTrueOf im NoMemory = Unit {0}

abbrev pub image_at : Blocks → Image
image_at blocks = image_in blocks.size blocks.bytes.now

-- the inode with every block of the image
abbrev pub held : Inode → Holding
held inode = every (image_at inode.block.image) inode.block.number

-- there is an inode whose dinode is in the block
abbrev pub IsDinodeBlock : Block → Type 0
IsDinodeBlock block = HasInode (image_at block.image) block.number

-- the states of so many blocks, of which the bits are these
abbrev pub states_of : List ℕ → ℕ → List ℕ
states_of bits count = map (state_at bits) (range_with_len 0 count)
