-- What reading a tree answers for an image that stands.
use Rattle.std.proofs.Common.{◌≡◌, Result, Ok, Err, IfOk, IfErr, refl, sym, subst}
use Rattle.file_tree.specs.Tree.{Tree}
use Rattle.image_model.specs.Image.{Image}
use Rattle.image_reader.specs.Reading.{IsTrueOf}
use Rattle.image_reader.specs.ReadTree.{GivesTree}
use Rattle.image_model.specs.Stands.{Stands}
use Rattle.image_reader.specs.declared.image.ImageFault.{ImageFault}
use Rattle.image_reader.specs.declared.image.ImageFault.TheVariants.{Damaged, NoMemory}
use Rattle.image_model.proofs.Nothing.{nothing_breaks}

-- no fault is true of an image that stands, but for want of memory
no_fault : (im : Image) (t : Tree) (fault : ImageFault) → Stands im t → IsTrueOf im fault → fault ≡ NoMemory
no_fault im t (Damaged block rule) stands true_of = absurd (nothing_breaks im t stands rule block true_of.breaks)
no_fault im t NoMemory stands true_of = refl

-- the right tree, and faults that are true
gives_in : (im : Image) (t : Tree) (answer : Result Tree ImageFault) → Stands im t → IfOk answer (λ tree. (u : Tree) → Stands im u → tree ≡ u) → IfErr answer (IsTrueOf im) → GivesTree t answer
gives_in im t (Ok tree) stands right true_of = right t stands
gives_in im t (Err fault) stands right true_of = no_fault im t fault stands true_of

pub gives : (read im : Image) (t : Tree) (answer : Result Tree ImageFault) → read ≡ im → Stands im t → IfOk answer (λ tree. (u : Tree) → Stands read u → tree ≡ u)
    → IfErr answer (IsTrueOf read) → GivesTree t answer
gives read im t answer same stands right true_of = gives_in read t answer (subst (λ i. Stands i t) (sym same) stands) right true_of
