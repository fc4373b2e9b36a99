-- What the directory of journals breaks, as the code finds it.
use Rattle.std.proofs.Common.{◌≡◌, ℕ, ◌+◌, ◌<◌, List, length, get_or, true, Some, refl, sym, ap, subst, ◌∙◌, inl, inr, arith}
use Rattle.std.proofs.lemmas.Bool.{cases_eq}
use Rattle.std.specs.Prelude.{codes}
use Rattle.gfs2_layout.specs.Inode.{is_directory_in}
use Rattle.gfs2_layout.specs.Structures.{is_directory}
use Rattle.image_model.specs.Claims.{every, Claims, LeadsTo, IsJindex, HasJournal, master_of}
use Rattle.image_reader.specs.Found.{inode_at, IsEntryAt, IsTreeOf}
use Rattle.image_model.specs.Journals.{journal_name}
use Rattle.image_model.specs.Owners.{Named}
use Rattle.image_reader.specs.Reading.{held, image_at, IsTrueOf}
use Rattle.image_model.specs.Rules.{Breaks, no_jindex}
use Rattle.image_reader.specs.System.{IsNamedAmong, HasNoneNamed, HasNoDirectoryNamed}
use Rattle.image_reader.specs.declared.blocks.Blocks.{Blocks}
use Rattle.image_reader.specs.declared.directory.Found.{Found}
use Rattle.image_reader.specs.declared.image.ImageFault.{ImageFault}
use Rattle.image_reader.specs.declared.image.ImageFault.TheVariants.{Damaged}
use Rattle.image_reader.specs.declared.inode.Inode.{Inode}
use Rattle.image_reader.proofs.InodeFaults.{told_of}
use Rattle.image_reader.proofs.Listed.{get_at, got_low, got_one}
use Rattle.image_reader.proofs.Pieces.{dinode_is}

some_same : {X : Type 0} (x y : X) → Some x ≡ Some y → x ≡ y
some_same x y e = cc

-- one more entry that is not it
pub none_more : (found : List Found) (n parent : ℕ) (name : List ℕ) (f : Found) → n < length found → f ≡ get_or found n f → HasNoneNamed found n parent name
    → (f.parent ≡ parent → f.name ≡ name → ⊥) → HasNoneNamed found (n + 1) parent name
none_more found n parent name f low read none other i g below at up named = elim (cases_eq i n) [
  | inr d ↦ none i g (omega (arith, below, d)) at up named
  | inl e ↦
      let same : g ≡ f = got_one found i n g f e at (get_at found n f low read) in
      other (ap (λ (h : Found). h.parent) (sym same) ∙ up) (ap (λ (h : Found). h.name) (sym same) ∙ named)
]

-- one more entry that is no such directory
pub no_directory_more : (found : List Found) (n parent : ℕ) (name : List ℕ) (f : Found) → n < length found → f ≡ get_or found n f → HasNoDirectoryNamed found n parent name
    → (f.parent ≡ parent → f.name ≡ name → is_directory f.inode.dinode ≡ true → ⊥) → HasNoDirectoryNamed found (n + 1) parent name
no_directory_more found n parent name f low read none other i g below at up named dir = elim (cases_eq i n) [
  | inr d ↦ none i g (omega (arith, below, d)) at up named dir
  | inl e ↦
      let same : g ≡ f = got_one found i n g f e at (get_at found n f low read) in
      other (ap (λ (h : Found). h.parent) (sym same) ∙ up) (ap (λ (h : Found). h.name) (sym same) ∙ named) (ap (λ (h : Found). is_directory h.inode.dinode) (sym same) ∙ dir)
]

-- in the tree of the master directory
pub no_journals : (top : Inode) (found : List Found) (fault : ImageFault) → fault ≡ Damaged top.block.number 16 → IsTreeOf top.block.image top found
    → top.block.number ≡ master_of (image_at top.block.image) → HasNoDirectoryNamed found (length found) top.block.number (codes "jindex") → IsTrueOf (image_at top.block.image) fault
no_journals top found fault is tree master none =
    let im = image_at top.block.image in
    told_of top.block fault 16 is (subst (Breaks im 16) (sym master) (no_jindex (λ d has. nothing d (subst (λ a. LeadsTo im a (codes "jindex") d) (sym master) has))))
  where
    nothing : (d : ℕ) → LeadsTo (image_at top.block.image) top.block.number (codes "jindex") d → is_directory_in (every (image_at top.block.image) d) ≡ true → ⊥
    nothing d has dir =
        let entry = tree.all 0 top has.0 d (codes "jindex") refl has.1 in
        let named = tree.named entry.index entry.entry entry.there in
        let above : top ≡ named.above = some_same top named.above (ap (inode_at top found) (sym entry.up) ∙ named.up) in
        let parent : entry.entry.parent ≡ top.block.number = named.parent ∙ ap (λ (n : Inode). n.block.number) (sym above) in
        let inode = entry.entry.inode in
        let held_is : every (image_at top.block.image) d ≡ held inode = (λ i. every (image_at (sym named.of_image i)) (sym entry.block i)) in
        let is_dir : is_directory inode.dinode ≡ true = ap is_directory (dinode_is inode) ∙ sym (ap is_directory_in held_is) ∙ dir in
        none entry.index entry.entry (got_low found entry.index entry.entry entry.there) entry.there parent entry.named is_dir

pub jindex_of : (top : Inode) (found : List Found) (jindex : Inode) → IsTreeOf top.block.image top found → top.block.number ≡ master_of (image_at top.block.image)
    → IsNamedAmong found top.block.number (codes "jindex") jindex → IsJindex (image_at top.block.image) jindex.block.number
jindex_of top found jindex tree master is =
    let im = image_at top.block.image in
    let f = is.entry in
    let claimed = (tree.named is.index f is.there).claimed in
    let named = subst (λ n. Claims im f.by f.inode.block.number (Named f.parent n)) is.named claimed in
    let from = subst (λ a. Claims im f.by f.inode.block.number (Named a (codes "jindex"))) (is.above ∙ master) named in
    (f.by, subst (λ (n : Inode). Claims im f.by n.block.number (Named (master_of im) (codes "jindex"))) (sym is.is) from)

pub journal_of : (image : Blocks) (f : Found) (jindex j : ℕ) (name : List ℕ) → IsJindex (image_at image) jindex → Claims (image_at image) f.by f.inode.block.number (Named f.parent f.name)
    → f.parent ≡ jindex → name ≡ f.name → name ≡ journal_name j → (k : ℕ) × HasJournal (image_at image) k f.inode.block.number
journal_of image f jindex j name at claimed up read is =
    let im = image_at image in
    let named = subst (λ n. Claims im f.by f.inode.block.number (Named f.parent n)) (sym read ∙ is) claimed in
    let from : LeadsTo im jindex (journal_name j) f.inode.block.number = (f.by, subst (λ a. Claims im f.by f.inode.block.number (Named a (journal_name j))) up named) in
    let journal : HasJournal im j f.inode.block.number = (jindex, at, from) in
    (j, journal)

pub entry_claimed : (image : Blocks) (top : Inode) (found : List Found) (i : ℕ) (f : Found) → IsTreeOf image top found → IsEntryAt found i f
    → Claims (image_at f.inode.block.image) f.by f.inode.block.number (Named f.parent f.name)
entry_claimed image top found i f tree at =
    let named = tree.named i f at in
    subst (λ (b : Blocks). Claims (image_at b) f.by f.inode.block.number (Named f.parent f.name)) (sym named.of_image) named.claimed

pub jindex_in : (i j : Blocks) (d : ℕ) → i ≡ j → IsJindex (image_at i) d → IsJindex (image_at j) d
jindex_in i j d same is = subst (λ (b : Blocks). IsJindex (image_at b) d) same is
