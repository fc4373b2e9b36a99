-- Which blocks of an image that stands are at places of its journals.
use Rattle.std.proofs.Common.{◌≡◌, ◌≢◌, ℕ, true, false, List, Some, sym, ap, subst, ◌∙◌, arith}
use Rattle.std.specs.Prelude.{codes, get_or}
use Rattle.gfs2_layout.specs.Device.{superblock_place}
use Rattle.gfs2_layout.specs.Holding.{InChain, Itself, Part, Pointed, part_at}
use Rattle.image_model.specs.Claims.{HasJournal, IsJindex, IsRindex, below, master_of}
use Rattle.image_model.specs.Image.{Image}
use Rattle.image_model.specs.Journals.{journal_name}
use Rattle.image_model.specs.Owners.{Below, Chained, Master, Named, Owners, Super, holding, is_dinode}
use Rattle.image_model.specs.Stands.{IsLaid, Layout}
use Rattle.image_model.specs.SystemFiles.{HasSameSystem, is_journal}
use Rattle.image_model.proofs.Facts.{has_jindex, has_rindex, jindex_is, leads_row}
use Rattle.image_model.proofs.Held.{chained_owner, itself_own, pointed_owner}
use Rattle.image_model.proofs.Rows.{claim_row}
use Rattle.image_model.proofs.SystemStays.{file_inode}
use Rattle.image_journals.specs.Frames.{HasSameFrame, IsPlace}
use Rattle.image_journals.specs.Shown.{IsIndex, jindex, master, rindex}

-- images with the same system files have the same frame
pub same_frame : (im other : Image) → HasSameSystem im other → HasSameFrame im other
same_frame im other same = record { size = same.size; count = same.count; same = λ b of off. same.same b of }

named_same : (a b : ℕ) (xs ys : List ℕ) → Named a xs ≡ Named b ys → xs ≡ ys
named_same a b xs ys e = cc

module _ (r : Image) (o : Owners) (l : Layout) (laid : IsLaid r o l) where
  place_row : (b : ℕ) (is : IsPlace r b) → o b ≡ Below is.dinode is.from is.pointer 0 is.first
  place_row b is =
      let has = file_inode r is.dinode (is_journal is.number is.journal) in
      claim_row r o l laid is.from b (Below is.dinode is.from is.pointer 0 is.first) (below has.1.by is.dinode has.0 is.from is.pointer 0 is.first b has.1.claimed has.1.dinode is.leads)

  journal_row : (j d : ℕ) → HasJournal r j d → o d ≡ Named l.jindex (journal_name j)
  journal_row j d has = leads_row r o l laid has.0 (journal_name j) d has.2 ∙ ap (λ a. Named a (journal_name j)) (jindex_is r o l laid has.0 has.1)

  -- the files by which the journals are found are none of them
  pub no_journal : (d : ℕ) → IsIndex l d → (j : ℕ) → HasJournal r j d → ⊥
  no_journal d (master e) j has = differ (sym (ap o e ∙ laid.master) ∙ journal_row j d has)
    where
      differ : Master ≡ Named l.jindex (journal_name j) → ⊥
      differ f = cc
  no_journal d (rindex e) j has =
      let row = leads_row r o l laid (master_of r) (codes "rindex") d (subst (IsRindex r) (sym e) (has_rindex r o l laid)) in
      let name : codes "rindex" ≡ journal_name j = named_same _ _ _ _ (sym row ∙ journal_row j d has) in
      let letter : 114 ≡ 106 = ap (λ xs. get_or xs 0 0) name in
      absurd (omega (arith, letter))
  no_journal d (jindex e) j has =
      let row = leads_row r o l laid (master_of r) (codes "jindex") d (subst (IsJindex r) (sym e) (has_jindex r o l laid)) in
      let name : codes "jindex" ≡ journal_name j = named_same _ _ _ _ (sym row ∙ journal_row j d has) in
      let letter : 105 ≡ 111 = ap (λ xs. get_or xs 1 0) name in
      absurd (omega (arith, letter))

  -- ---- what is at no place

  pub super_off : (b : ℕ) → b ≡ superblock_place r.size → ¬ (IsPlace r b)
  super_off b at is = differ (sym (laid.zoned.low b (omega (arith, at))) ∙ place_row b is)
    where
      differ : Super ≡ Below is.dinode is.from is.pointer 0 is.first → ⊥
      differ e = cc

  pub dinode_off : (d : ℕ) → is_dinode (o d) ≡ true → ¬ (IsPlace r d)
  dinode_off d dinode is = let no : false ≡ true = sym (ap is_dinode (place_row d is)) ∙ dinode in cc

  -- what an inode has at a place is a journal's block of content
  part_there : (d b : ℕ) (p : Part) → is_dinode (o d) ≡ true → part_at (holding r o d) b ≡ Some p → (is : IsPlace r b) → (p ≡ Pointed is.from is.pointer 0 is.first) × (d ≡ is.dinode)
  part_there d b Itself dinode e is = absurd (dinode_off d dinode (subst (IsPlace r) (itself_own r o d b e) is))
  part_there d b (Pointed a k level first) dinode e is = (part same, owner same)
    where
      same : Below d a k level first ≡ Below is.dinode is.from is.pointer 0 is.first
      same = sym (pointed_owner r o d b a k level first e) ∙ place_row b is

      part : Below d a k level first ≡ Below is.dinode is.from is.pointer 0 is.first → Pointed a k level first ≡ Pointed is.from is.pointer 0 is.first
      part f = cc

      owner : Below d a k level first ≡ Below is.dinode is.from is.pointer 0 is.first → d ≡ is.dinode
      owner f = cc
  part_there d b (InChain hash place) dinode e is = absurd (differ (sym (chained_owner r o d b hash place e) ∙ place_row b is))
    where
      differ : Chained d hash place ≡ Below is.dinode is.from is.pointer 0 is.first → ⊥
      differ f = cc

  pub index_off : (d b : ℕ) (p : Part) → is_dinode (o d) ≡ true → IsIndex l d → part_at (holding r o d) b ≡ Some p → ¬ (IsPlace r b)
  index_off d b p dinode index e is = no_journal d index is.number (subst (HasJournal r is.number) (sym (part_there d b p dinode e is).1) is.journal)

  pub part_off : (d b : ℕ) (p : Part) → is_dinode (o d) ≡ true → ((above k first : ℕ) → p ≢ Pointed above k 0 first) → part_at (holding r o d) b ≡ Some p → ¬ (IsPlace r b)
  part_off d b p dinode not e is = not is.from is.pointer is.first (part_there d b p dinode e is).0
