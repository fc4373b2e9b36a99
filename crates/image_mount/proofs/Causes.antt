-- Faults that have their cause in the image.
use Rattle.std.proofs.Common.{◌≡◌, ◌≢◌, ◌↔◌, inl, inr, ℕ, ◌+◌, ◌^◌, ◌≤◌, Bool, true, false, IsTrue, List, length, refl, sym, ap, subst, ◌∙◌}
use Rattle.std.specs.Prelude.{if◌then◌else◌}
use Rattle.gfs2_layout.specs.Device.{superblock_place}
use Rattle.gfs2_layout.specs.Exchanges.{directory_count}
use Rattle.gfs2_layout.specs.Inode.{dinode_in, is_hashed_in, head_of}
use Rattle.gfs2_layout.specs.Records.{Record}
use Rattle.gfs2_layout.specs.Structures.{is_directory, dinode_length}
use Rattle.gfs2_layout.specs.declared.dinode.Dinode.{Dinode}
use Rattle.gfs2_layout.specs.declared.superblock.SuperBlock.{SuperBlock}
use Rattle.glock_names.specs.declared.steps.Entry.{Entry}
use Rattle.image_model.specs.Claims.{every, HasDirectory}
use Rattle.image_model.specs.Image.{Image, superblock_in}
use Rattle.image_model.specs.Rules.{Breaks, HasRecordIn, entry_count, directory_links, linear_height, linear_size, other_kind, other_number}
use Rattle.image_model.specs.Stands.{kind_of}
use Rattle.image_model.specs.SystemFiles.{of_superblock}
use Rattle.image_mount.specs.Found.{HasSuper, HasFormat, IsReached}
use Rattle.image_mount.specs.Listing.{IsEntryOf, AreCountedIn, is_hashed_by}
use Rattle.image_mount.specs.Refusals.{IsOutside, RefusesRightly, come_to, fs_format, multihost_format, bsize, bsize_shift}
use Rattle.image_mount.specs.declared.field.Field.{Field}
use Rattle.image_mount.specs.declared.field.Field.TheVariants as field
use Rattle.image_mount.specs.declared.fault.MountFault.{MountFault}
use Rattle.image_mount.specs.declared.fault.MountFault.TheVariants as fault
pub use Rattle.dinode_tree.proofs.Dinodes.{lacks}

-- a rule that is broken, where the formats are known
pub told : (im : Image) (f : MountFault) (b rule : ℕ) → f ≡ fault.Damaged b rule → HasFormat im → IsReached im b → Breaks im rule b → RefusesRightly im f
told im f b rule is format reached breaks = subst (RefusesRightly im) (sym is) (record { breaks = breaks; there = inl reached.inside }, come_to rule b format reached)

-- where they are known, the superblock is one to which mounting comes
pub super_reached : (im : Image) → HasFormat im → IsReached im (superblock_place im.size)
super_reached im format = record { inside = format.super.inside; system = of_superblock refl; format = inr format }

pub told_outside : (im : Image) (f : MountFault) (what : Field) (value : ℕ) → f ≡ fault.NotProfile what value → IsOutside im what value → RefusesRightly im f
told_outside im f what value is outside = subst (RefusesRightly im) (sym is) outside

-- ---- the superblock

-- what is outside of the superblock that was read is outside of the image's
pub told_field : (im : Image) (f : MountFault) (what : Field) (value : SuperBlock → ℕ) (s : SuperBlock) → s ≡ superblock_in im → f ≡ fault.NotProfile what (value s)
    → IsOutside im what (value (superblock_in im)) → RefusesRightly im f
told_field im f what value s read is outside = told_outside im f what (value s) is (subst (IsOutside im what) (sym (ap value read)) outside)

pub wrong_fs : (im : Image) (f : MountFault) (s : SuperBlock) → HasSuper im → s ≡ superblock_in im → f ≡ fault.NotProfile field.FsFormat s.fs_format → s.fs_format ≢ 1801 → RefusesRightly im f
wrong_fs im f s super read is other =
    told_field im f field.FsFormat (λ t. t.fs_format) s read is (fs_format super (λ e. other (ap (λ (t : SuperBlock). t.fs_format) read ∙ e)))

pub wrong_multihost : (im : Image) (f : MountFault) (s : SuperBlock) → HasSuper im → s ≡ superblock_in im → f ≡ fault.NotProfile field.MultihostFormat s.multihost_format
    → s.fs_format ≡ 1801 → s.multihost_format ≢ 1900 → RefusesRightly im f
wrong_multihost im f s super read is format other =
    told_field im f field.MultihostFormat (λ t. t.multihost_format) s read is
    (multihost_format super (sym (ap (λ (t : SuperBlock). t.fs_format) read) ∙ format) (λ e. other (ap (λ (t : SuperBlock). t.multihost_format) read ∙ e)))

pub wrong_bsize : (im : Image) (f : MountFault) (s : SuperBlock) (size : ℕ) → HasSuper im → s ≡ superblock_in im → size ≡ im.size → f ≡ fault.NotProfile field.Bsize s.bsize
    → s.fs_format ≡ 1801 → s.multihost_format ≡ 1900 → s.bsize ≢ size → RefusesRightly im f
wrong_bsize im f s size super read of is format sharing other =
    told_field im f field.Bsize (λ t. t.bsize) s read is
    (bsize super (sym (ap (λ (t : SuperBlock). t.fs_format) read) ∙ format) (sym (ap (λ (t : SuperBlock). t.multihost_format) read) ∙ sharing)
    (λ e. other (ap (λ (t : SuperBlock). t.bsize) read ∙ e ∙ sym of)))

pub wrong_shift : (im : Image) (f : MountFault) (s : SuperBlock) (size : ℕ) → HasSuper im → s ≡ superblock_in im → size ≡ im.size → f ≡ fault.NotProfile field.BsizeShift s.bsize_shift
    → s.fs_format ≡ 1801 → s.multihost_format ≡ 1900 → s.bsize ≡ size → ¬ (2 ^ s.bsize_shift ≡ size) → RefusesRightly im f
wrong_shift im f s size super read of is format sharing same other =
    told_field im f field.BsizeShift (λ t. t.bsize_shift) s read is
    (bsize_shift super (sym (ap (λ (t : SuperBlock). t.fs_format) read) ∙ format) (sym (ap (λ (t : SuperBlock). t.multihost_format) read) ∙ sharing)
    (sym (ap (λ (t : SuperBlock). t.bsize) read) ∙ same ∙ of) (λ e. other (ap (λ (t : SuperBlock). 2 ^ t.bsize_shift) read ∙ e ∙ sym of)))

pub right_format : (im : Image) (s : SuperBlock) (size : ℕ) → HasSuper im → s ≡ superblock_in im → size ≡ im.size
    → s.fs_format ≡ 1801 → s.multihost_format ≡ 1900 → s.bsize ≡ size → 2 ^ s.bsize_shift ≡ size → HasFormat im
right_format im s size super read of format sharing same shift = record {
  super = super;
  fs_format = sym (ap (λ (t : SuperBlock). t.fs_format) read) ∙ format;
  multihost_format = sym (ap (λ (t : SuperBlock). t.multihost_format) read) ∙ sharing;
  bsize = sym (ap (λ (t : SuperBlock). t.bsize) read) ∙ same ∙ of;
  bsize_shift = sym (ap (λ (t : SuperBlock). 2 ^ t.bsize_shift) read) ∙ shift ∙ of;
}

-- a test that held
pub has : {P : Type 0} (b : Bool) → IsTrue b ↔ P → b ≡ true → P
has b test held = test.0 held

-- ---- inodes

pub hashed_as : (im : Image) (a : ℕ) (d : Dinode) (b : Bool) → d ≡ dinode_in (every im a) → is_hashed_by d ≡ b → is_hashed_in (every im a) ≡ b
hashed_as im a d b is hashed = ap is_hashed_by (sym is) ∙ hashed

pub linear_of : (im : Image) (a : ℕ) (d : Dinode) → d ≡ dinode_in (every im a) → is_hashed_by d ≡ false → is_hashed_in (every im a) ≡ false
linear_of im a d is plain = hashed_as im a d false is plain

pub wrong_height : (im : Image) (f : MountFault) (a : ℕ) (d : Dinode) → f ≡ fault.Damaged a 8 → d ≡ dinode_in (every im a) → HasFormat im → IsReached im a → HasDirectory im a → is_hashed_by d ≡ false
    → d.height ≢ 0 → RefusesRightly im f
wrong_height im f a d is read format low has plain other =
    told im f a 8 is format low (linear_height a has (linear_of im a d read plain) (λ e. other (ap (λ (x : Dinode). x.height) read ∙ e)))

pub wrong_size : (im : Image) (f : MountFault) (a size : ℕ) (d : Dinode) → f ≡ fault.Damaged a 8 → d ≡ dinode_in (every im a) → size ≡ im.size → 512 ≤ size → HasFormat im → IsReached im a → HasDirectory im a
    → is_hashed_by d ≡ false → ¬ (dinode_length + d.size ≡ size) → RefusesRightly im f
wrong_size im f a size d is read of large format low has plain other =
    told im f a 8 is format low (linear_size a has (linear_of im a d read plain) (λ e. other (ap (λ (x : Dinode). dinode_length + x.size) read ∙ e ∙ sym of)))

pub wrong_kind : (im : Image) (f : MountFault) (a x b kind : ℕ) (d : Dinode) (entry : Entry) (r : Record) → f ≡ fault.Damaged x 11 → d ≡ dinode_in (every im b) → entry.addr ≡ b → HasFormat im → IsReached im x → HasRecordIn im a x r
    → IsEntryOf entry r → kind ≡ (if is_directory d then 4 else 8) → entry.kind ≢ kind → RefusesRightly im f
wrong_kind im f a x b kind d entry r is read at format low has of kind_is other =
    let P : ℕ → Type 0 = λ n. r.kind ≢ kind_of (head_of (every im n)) in
    let here : P b = λ e. other (sym of.kind ∙ e ∙ ap (λ y. if is_directory y then 4 else 8) (sym read) ∙ sym kind_is) in
    told im f x 11 is format low (other_kind a x r has (subst P (sym at ∙ sym of.address) here))

pub wrong_formal : (im : Image) (f : MountFault) (a x b : ℕ) (d : Dinode) (entry : Entry) (r : Record) → f ≡ fault.Damaged x 11 → d ≡ dinode_in (every im b) → entry.addr ≡ b → HasFormat im → IsReached im x → HasRecordIn im a x r
    → IsEntryOf entry r → entry.number ≢ d.num.number → RefusesRightly im f
wrong_formal im f a x b d entry r is read at format low has of other =
    let P : ℕ → Type 0 = λ n. r.number ≢ (head_of (every im n)).number in
    let here : P b = λ e. other (sym of.number ∙ e ∙ ap (λ (y : Dinode). y.num.number) (sym read)) in
    told im f x 11 is format low (other_number a x r has (subst P (sym at ∙ sym of.address) here))

-- ---- counts

pub wrong_entries : (im : Image) (f : MountFault) (a entries count : ℕ) (d : Dinode) (records : List Record) → f ≡ fault.Damaged a 12 → d ≡ dinode_in (every im a) → HasFormat im → IsReached im a → AreCountedIn im a records
    → entries ≡ d.entries → count ≡ length records → entries ≢ count → RefusesRightly im f
wrong_entries im f a entries count d records is read format low has entries_is count_is other =
    told im f a 12 is format low (entry_count a has.0 has.1 (λ e. other (entries_is ∙ ap (λ (x : Dinode). x.entries) read ∙ e ∙ has.2 ∙ sym count_is)))

pub wrong_links : (im : Image) (f : MountFault) (a links count : ℕ) (d : Dinode) (records : List Record) → f ≡ fault.Damaged a 12 → d ≡ dinode_in (every im a) → HasFormat im → IsReached im a → AreCountedIn im a records
    → links ≡ d.nlink → count ≡ directory_count records → links ≢ 2 + count → RefusesRightly im f
wrong_links im f a links count d records is read format low has links_is count_is other =
    told im f a 12 is format low (directory_links a has.0 has.1 (λ e. other (links_is ∙ ap (λ (x : Dinode). x.nlink) read ∙ e ∙ ap (λ n. 2 + n) (has.3 ∙ sym count_is))))
