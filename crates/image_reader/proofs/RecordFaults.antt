-- What records break, as the code finds it.
use Rattle.std.proofs.Common.{◌≡◌, ◌≢◌, ℕ, false, List, refl, sym, ap, subst, ◌∙◌}
use Rattle.std.specs.Prelude.{Contains, codes}
use Rattle.crc_words.specs.Remainder.{crc32_of}
use Rattle.file_tree.specs.Names.{IsName}
use Rattle.gfs2_layout.specs.Area.{name_of}
use Rattle.gfs2_layout.specs.declared.dinode.Dinode.{Dinode}
use Rattle.gfs2_layout.specs.declared.dirent.Dirent.{Dirent}
use Rattle.image_model.specs.Claims.{every, Claims, IsInodeAt, HasInode, HasArea, behind_dinode, of_leaf, in_dinode, in_leaf}
use Rattle.image_reader.specs.Finding.{said_by, HasRecordAt, HasSlotAt, IsFoundIn}
use Rattle.image_model.specs.Image.{Image}
use Rattle.gfs2_layout.specs.Inode.{head_of}
use Rattle.image_model.specs.Owners.{Owner, Named, parent_of}
use Rattle.image_reader.specs.Reading.{held, image_at, IsDinodeBlock, IsTrueOf}
use Rattle.gfs2_layout.specs.Records.{Record, records_in, is_dots}
use Rattle.image_model.specs.Rules.{Breaks, other_kind, other_number, other_dot, other_dots, other_hash, no_name}
use Rattle.image_model.specs.Stands.{kind_of}
use Rattle.image_reader.specs.declared.blocks.Block.{Block}
use Rattle.image_reader.specs.declared.blocks.Blocks.{Blocks}
use Rattle.image_reader.specs.declared.directory.Found.{Found}
use Rattle.image_reader.specs.declared.image.ImageFault.{ImageFault}
use Rattle.image_reader.specs.declared.image.ImageFault.TheVariants.{Damaged}
use Rattle.image_reader.specs.declared.inode.Inode.{Inode}
use Rattle.image_reader.proofs.InodeFaults.{told_at}
use Rattle.image_reader.proofs.Inside.{record_inside, slot_inside}
use Rattle.image_reader.proofs.Pieces.{dinode_is}

-- a record of another kind than its inode
pub wrong_kind : (inode : Inode) (head : Dirent) (fault : ImageFault) (by kind : ℕ) → fault ≡ Damaged by 11 → ((a : ℕ) × ((name : List ℕ) × HasRecordAt inode.block.image a by head name))
    → head.inum.address ≡ inode.block.number → kind ≡ kind_of (head_of (held inode)) → head.kind ≢ kind → IsTrueOf (image_at inode.block.image) fault
wrong_kind inode head fault by kind is has at kind_is other =
    let im = image_at inode.block.image in
    let P : ℕ → Type 0 = λ b. head.kind ≢ kind_of (head_of (every im b)) in
    told_at inode.block.image fault by 11 is (record_inside inode.block.image has.0 by (said_by head has.1.0) has.1.1) (other_kind has.0 by (said_by head has.1.0) has.1.1 (subst P (sym at) (λ e. other (e ∙ sym kind_is))))

-- a record with another formal number
pub wrong_formal_number : (inode : Inode) (head : Dirent) (fault : ImageFault) (by : ℕ) → fault ≡ Damaged by 11 → ((a : ℕ) × ((name : List ℕ) × HasRecordAt inode.block.image a by head name))
    → head.inum.address ≡ inode.block.number → head.inum.number ≢ inode.dinode.num.number → IsTrueOf (image_at inode.block.image) fault
wrong_formal_number inode head fault by is has at other =
    let im = image_at inode.block.image in
    let P : ℕ → Type 0 = λ b. head.inum.number ≢ (head_of (every im b)).number in
    let same : inode.dinode.num.number ≡ (head_of (held inode)).number = ap (λ (d : Dinode). d.num.number) (dinode_is inode) in
    told_at inode.block.image fault by 11 is (record_inside inode.block.image has.0 by (said_by head has.1.0) has.1.1) (other_number has.0 by (said_by head has.1.0) has.1.1 (subst P (sym at) (λ e. other (e ∙ sym same))))

-- a name that isn't one
pub wrong_name : (image : Blocks) (fault : ImageFault) (a by : ℕ) (head : Dirent) (name : List ℕ) → fault ≡ Damaged by 9 → HasRecordAt image a by head name → is_dots name ≡ false
    → ¬ (IsName name) → IsTrueOf (image_at image) fault
wrong_name image fault a by head name is has plain lacks = told_at image fault by 9 is (record_inside image a by (said_by head name) has) (no_name a by (said_by head name) has plain lacks)

-- a record claims the block that it names
claims_by_area : (im : Image) (a x : ℕ) (area : List ℕ) (r : Record) → HasInode im a → HasArea im a x area → Contains (records_in area) r → is_dots r.name ≡ false
    → Claims im x r.address (Named a r.name)
claims_by_area im a _ _ r here (behind_dinode dir linear) has plain =
    in_dinode dir.inode.1.by a dir.inode.0 r dir.inode.1.claimed dir.inode.1.dinode dir.dir linear has plain
claims_by_area im a x _ r here (of_leaf _ leaf) has plain = in_leaf leaf.0 x a leaf.1 leaf.2 r leaf.3 has plain

pub claims_named : (image : Blocks) (a x : ℕ) (head : Dirent) (name : List ℕ) → HasInode (image_at image) a → HasRecordAt image a x head name → is_dots name ≡ false
    → Claims (image_at image) x head.inum.address (Named a name)
claims_named image a x head name here has plain = claims_by_area (image_at image) a x has.0 (said_by head name) here has.1 has.2 plain

-- what a record names is an inode
pub named_inode : (block : Block) (image : Blocks) (a x : ℕ) (head : Dirent) (name : List ℕ) → block.image ≡ image → block.number ≡ head.inum.address
    → HasInode (image_at image) a → HasRecordAt image a x head name → is_dots name ≡ false → IsDinodeBlock block
named_inode block image a x head name same at here has plain =
    let claimed : Claims (image_at image) x head.inum.address (Named a name) = claims_named image a x head name here has plain in
    let there : HasInode (image_at image) head.inum.address = (Named a name, record { by = x; claimed = claimed; dinode = refl }) in
    let P : Blocks → Type 0 = λ i. HasInode (image_at i) block.number in
    subst P (sym same) (subst (HasInode (image_at image)) (sym at) there)

-- the same claim, as it was read
pub claims_read : (i j : Blocks) (by x y a : ℕ) (name other : List ℕ) → i ≡ j → x ≡ y → other ≡ name → Claims (image_at j) by y (Named a name) → Claims (image_at i) by x (Named a other)
claims_read i j by x y a name other same at called claimed =
    let P : ℕ → Type 0 = λ n. Claims (image_at i) by n (Named a other) in
    let Q : List ℕ → Type 0 = λ n. Claims (image_at i) by y (Named a n) in
    subst P (sym at) (subst Q (sym called) (subst (λ (b : Blocks). Claims (image_at b) by y (Named a name)) (sym same) claimed))

-- of one image under two names
pub inode_of : (i j : Blocks) (a : ℕ) → i ≡ j → HasInode (image_at j) a → HasInode (image_at i) a
inode_of i j a same here = subst (λ (x : Blocks). HasInode (image_at x) a) (sym same) here

pub found_of : (i j : Blocks) (f : Found) → i ≡ j → IsFoundIn i f → IsFoundIn j f
found_of i j f same here = subst (λ (x : Blocks). IsFoundIn x f) same here

pub dinode_block_of : (b c : Block) → b ≡ c → IsDinodeBlock c → IsDinodeBlock b
dinode_block_of b c same here = subst IsDinodeBlock (sym same) here

-- `.` that leads elsewhere
pub wrong_dot : (image : Blocks) (a by : ℕ) (head : Dirent) (name : List ℕ) → HasRecordAt image a by head name → name ≡ codes "." → head.inum.address ≢ a → Breaks (image_at image) 10 a
wrong_dot image a by head name has dot other = other_dot a by (said_by head name) has dot other

-- `..` that leads elsewhere
pub wrong_dots : (image : Blocks) (a by parent : ℕ) (o : Owner) (head : Dirent) (name : List ℕ) → IsInodeAt (image_at image) a o → parent ≡ parent_of a o
    → HasRecordAt image a by head name → name ≡ codes ".." → head.inum.address ≢ parent → Breaks (image_at image) 10 a
wrong_dots image a by parent o head name here above has dots other = other_dots a by o (said_by head name) here has dots (λ e. other (e ∙ sym above))

-- a record whose hash isn't its name's
pub wrong_hash : (image : Blocks) (fault : ImageFault) (a by : ℕ) (head : Dirent) (name : List ℕ) (hash : ℕ) → fault ≡ Damaged by 9 → HasSlotAt image a by head name
    → hash ≡ crc32_of name → head.hash ≢ hash → IsTrueOf (image_at image) fault
wrong_hash image fault a by head name hash is at hash_is other =
    let same : (d : Dirent) (n : List ℕ) → head ≡ d → name ≡ n → d.hash ≢ crc32_of n = λ d n e f g.
    other (ap (λ (x : Dirent). x.hash) e ∙ g ∙ sym (ap crc32_of f) ∙ sym hash_is) in
    told_at image fault by 9 is (slot_inside image a by at.area at.slot at.has at.there) (other_hash a by at.area at.slot at.has at.there at.used (same at.slot.head (name_of at.slot) at.head_is at.name_is))
