-- What reading the image in memory answers, of the disk.
use Rattle.std.proofs.Common.{◌≡◌, ℕ, ◌<◌, List, Ok, Err, IsTrue, sym, ap, subst, ◌∙◌, arith}
use Rattle.std.specs.Prelude.{Result, IfErr, IsErrAnd}
use Rattle.file_tree.specs.Tree.{Tree}
use Rattle.gfs2_layout.specs.Device.{IsBlockSize}
use Rattle.image_model.specs.Image.{Image, image_of, image_in}
use Rattle.image_model.specs.Rules.{IsBrokenBlock}
use Rattle.image_model.specs.Stands.{Stands}
use Rattle.image_reader.specs.Reading.{IsTrueOf}
use Rattle.image_reader.specs.declared.image.ImageFault.{ImageFault}
use Rattle.image_reader.specs.declared.image.ImageFault.TheVariants as image
use Rattle.shared_disk.specs.Disk.{DiskState}
use Rattle.disk_trees.specs.Answers.{GivesTree, IfDamaged, fault_of}
use Rattle.disk_trees.specs.Reading.{AreFirstBlocks, ending}
use Rattle.disk_trees.specs.declared.faults.TreeFault.{TreeFault}
use Rattle.disk_trees.proofs.Behind.{stands_on}
use Rattle.disk_trees.proofs.FirstBlocks.{all_blocks}

some_bytes : (size : ℕ) → IsBlockSize size → 0 < size
some_bytes size is = grind arith

-- the image in memory is that on the device
pub same_image : (s : DiskState) (size : ℕ) (bytes content : List ℕ) → size ≡ s.size → IsBlockSize s.size → IsTrue s.tells → content ≡ bytes → AreFirstBlocks s s.count bytes
    → image_in size content ≡ ending (image_of s)
same_image s size bytes content same is tells whole are = (λ i. image_in (same i) (whole i)) ∙ all_blocks s bytes (some_bytes s.size is) tells are

-- so it stands for what the image on the disk stands for
pub stands_read : (s : DiskState) (size : ℕ) (content : List ℕ) (t : Tree) → image_in size content ≡ ending (image_of s) → Stands (image_of s) t → Stands (image_in size content) t
stands_read s size content t same stands = subst (λ im. Stands im t) (sym same) (stands_on (image_of s) t stands)

-- ---- a fault that is handed on

pub gives_handed : (t : Tree) (r : Result Tree TreeFault) (f : ImageFault) → IsErrAnd r (λ g. g ≡ fault_of f) → f ≡ image.NoMemory → GivesTree t r
gives_handed t (Ok tree) f is none = absurd is
gives_handed t (Err g) f is none = subst (λ h. GivesTree t (Err h)) (sym (is ∙ ap fault_of none)) tt

broken : (im : Image) (f : ImageFault) → IsTrueOf im f → IfDamaged (fault_of f) (λ block rule. IsBrokenBlock im rule block)
broken im (image.Damaged block rule) told = told
broken im image.NoMemory told = tt

pub told_handed : (W : Type 0) (im : Image) (r : Result Tree TreeFault) (f : ImageFault) → IsErrAnd r (λ g. g ≡ fault_of f) → (W → IsTrueOf im f)
    → IfErr r (λ g. W → IfDamaged g (λ block rule. IsBrokenBlock im rule block))
told_handed W im (Ok tree) f is told = absurd is
told_handed W im (Err g) f is told = λ w. subst (λ h. IfDamaged h (λ block rule. IsBrokenBlock im rule block)) (sym is) (broken im f (told w))
