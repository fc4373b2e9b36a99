-- The blocks of the system files of an image that stands.
use Rattle.std.proofs.Common.{◌≡◌, ◌⊎◌, inl, inr, ◌+◌, ◌<◌, ◌≤◌, ℕ, Bool, false, List, [], ◌∷◌, ◌++◌, None, Some, length, refl, sym, ap, subst, ◌∙◌, arith}
use Rattle.std.specs.Prelude.{◌↔◌, ◌&&◌, Contains, slice_get}
use Rattle.dinode_tree.specs.Below.{IsBelow, IsLedFrom, TellsOfBlock}
use Rattle.dinode_tree.specs.declared.below.PointedBlock.{PointedBlock}
use Rattle.gfs2_layout.specs.Device.{superblock_place}
use Rattle.gfs2_layout.specs.Holding.{Holding, InChain, Itself, Part, Pointed, part_at}
use Rattle.gfs2_layout.specs.Inode.{IsInode, has_hash_flag, dinode_in, is_hashed_in}
use Rattle.gfs2_layout.specs.Structures.{is_directory}
use Rattle.gfs2_layout.specs.declared.dinode.Dinode.{Dinode}
use Rattle.glock_names.specs.Views.{Seen}
use Rattle.image_model.specs.Claims.{below}
use Rattle.image_model.specs.Image.{Image}
use Rattle.image_model.specs.Owners.{Below, Chained, Owners, holding}
use Rattle.image_model.specs.Stands.{Layout}
use Rattle.image_model.specs.SystemFiles.{IsSystemBlock, IsSystemFile, is_jindex, is_journal, is_master, is_rindex, of_content, of_dinode, of_leaf, of_superblock}
use Rattle.image_model.proofs.Facts.{has_jindex, has_rindex, jindex_is, master_is, rindex_is}
use Rattle.image_model.proofs.Held.{chained_part, itself_own, pointed_part, some_same}
use Rattle.image_model.proofs.Rows.{claim_row}
use Rattle.image_model.proofs.SystemStays.{file_inode}
use Rattle.hash_dirs.proofs.Gathered.{the_one, one_there}
use Rattle.image_journals.specs.Adding.{AreAdded, IsBlockOf, IsJournalFile, IsLeafOf}
use Rattle.image_journals.specs.Shown.{ShowsFrame}
use Rattle.image_journals.proofs.Adding.{added_as, added_both, added_one, all_of, contained_at, contained_by, parted}
use Rattle.image_journals.proofs.Held as held
use Rattle.image_journals.proofs.Names.{placed}

-- ---- the blocks below a dinode

-- one of the first so many of these leads to the block
abbrev pub IsPointedFirst : List PointedBlock → ℕ → ℕ → Type 0
IsPointedFirst list n b = (k : ℕ) × (p : PointedBlock) × (k < n) × (slice_get list k ≡ Some p) × (p.block ≡ b)

pub pointed_more : (list : List PointedBlock) (k : ℕ) (p : PointedBlock) → slice_get list k ≡ Some p → (a b c : List ℕ) → AreAdded a b (IsPointedFirst list k) → c ≡ b ++ p.block ∷ [] → AreAdded a c (IsPointedFirst list (k + 1))
pointed_more list k p there a b c before is =
    added_as a c (λ x. IsPointedFirst list k x ⊎ (x ≡ p.block)) (IsPointedFirst list (k + 1)) (added_both a b c (IsPointedFirst list k) (λ x. x ≡ p.block) before (added_one b c p.block is))
    (λ x some. elim some [
      | inl one ↦ (one.0, one.1, (let low = one.2 in omega (arith, low)), one.3, one.4)
      | inr this ↦ (k, p, omega arith, there, sym this)
    ])
    (λ x one. elim (parted one.0 k one.2) [
      | inl less ↦ inl (one.0, one.1, less, one.3, one.4)
      | inr same ↦ let at : p ≡ one.1 = some_same (sym there ∙ ap (slice_get list) (sym same) ∙ one.3) in inr (sym one.4 ∙ ap (λ (q : PointedBlock). q.block) (sym at))
    ])

pub pointed_all : (h : Holding) (list : List PointedBlock) (k : ℕ) → length list ≤ k → ((p : PointedBlock) → Contains list p → IsLedFrom h p.from p.block) → ((b : ℕ) → IsBelow h b → TellsOfBlock list b) → (a b : List ℕ)
    → AreAdded a b (IsPointedFirst list k) → AreAdded a b (IsBelow h)
pointed_all h list k all led told a b are =
    added_as a b (IsPointedFirst list k) (IsBelow h) are
    (λ x one. let from = led one.1 (contained_by list one.0 one.1 one.3) in subst (IsBelow h) one.4 (one.1.from, from.0, from.1, from.2, from.3))
    (λ x under. let one = told x under in let at = contained_at list one.0 one.1 in (at.0, one.0, (let low = at.1 in omega (arith, low, all)), at.2, one.2))

-- ---- an inode's blocks

module _ (v : Seen) (r : Image) (o : Owners) (l : Layout) (s : ShowsFrame v r o l) (d : ℕ) (file : IsSystemFile r d) where
  pub leafless : is_hashed_in (holding r o d) ≡ false → (x : ℕ) → IsLeafOf (holding r o d) x → ⊥
  leafless plain x leaf = (held.sound v r o l s d file).leafless plain x leaf.0 leaf.1 leaf.2

  pub no_directory : (b : Bool) (read : Dinode) → read ≡ dinode_in (holding r o d) → b ≡ is_directory read → b ≡ false → is_hashed_in (holding r o d) ≡ false
  no_directory b read is told off = ap (λ t. t && has_hash_flag (dinode_in (holding r o d))) (ap is_directory (sym is) ∙ sym told ∙ off)

  -- what its pointers lead to, as the view has it, they lead to in the image
  pub below_now : ((h : Holding) (b : ℕ) → IsInode h → IsBelow h b → (from k level first : ℕ) × (part_at h b ≡ Some (Pointed from k level first)))
      → ((h : Holding) (b from k level first : ℕ) → IsInode h → part_at h 0 ≡ None → part_at h b ≡ Some (Pointed from k level first) → IsBelow h b)
      → (a b : List ℕ) → AreAdded a b (IsBelow (holding (held.seen_image v r) o d)) → AreAdded a b (IsBelow (holding r o d))
  below_now parts led a b are = added_as a b (IsBelow (holding (held.seen_image v r) o d)) (IsBelow (holding r o d)) are there back
    where
      nobody : part_at (holding r o d) 0 ≡ None
      nobody = (placed v r o l s d file).nobody

      there : (x : ℕ) → IsBelow (holding (held.seen_image v r) o d) x → IsBelow (holding r o d) x
      there x under =
          let p = parts (holding (held.seen_image v r) o d) x (held.sound_now v r o l s d file) under in
          led (holding r o d) x p.0 p.1 p.2 p.3 (held.sound v r o l s d file) nobody (sym (held.same_parts v r o d x) ∙ p.4)

      back : (x : ℕ) → IsBelow (holding r o d) x → IsBelow (holding (held.seen_image v r) o d) x
      back x under =
          let p = parts (holding r o d) x (held.sound v r o l s d file) under in
          led (holding (held.seen_image v r) o d) x p.0 p.1 p.2 p.3 (held.sound_now v r o l s d file) (held.same_parts v r o d 0 ∙ nobody) (held.same_parts v r o d x ∙ p.4)

  pub blocks_are : ((h : Holding) (b : ℕ) → IsInode h → IsBelow h b → (from k level first : ℕ) × (part_at h b ≡ Some (Pointed from k level first)))
      → ((h : Holding) (b from k level first : ℕ) → IsInode h → part_at h 0 ≡ None → part_at h b ≡ Some (Pointed from k level first) → IsBelow h b)
      → (a b c e : List ℕ) → b ≡ a ++ d ∷ [] → AreAdded b c (IsBelow (holding r o d)) → AreAdded c e (IsLeafOf (holding r o d)) → AreAdded a e (IsBlockOf (holding r o d))
  blocks_are parts led a b c e own pointed leaves =
      added_as a e (λ x. ((x ≡ d) ⊎ IsBelow (holding r o d) x) ⊎ IsLeafOf (holding r o d) x) (IsBlockOf (holding r o d))
      (added_both a c e (λ x. (x ≡ d) ⊎ IsBelow (holding r o d) x) (IsLeafOf (holding r o d)) (added_both a b c (λ x. x ≡ d) (IsBelow (holding r o d)) (added_one a b d own) pointed) leaves)
      there back
    where
      there : (x : ℕ) → ((x ≡ d) ⊎ IsBelow (holding r o d) x) ⊎ IsLeafOf (holding r o d) x → IsBlockOf (holding r o d) x
      there x (inl (inl is)) = (Itself, ap (part_at (holding r o d)) is ∙ held.own v r o l s d file)
      there x (inl (inr under)) = let p = parts (holding r o d) x (held.sound v r o l s d file) under in (Pointed p.0 p.1 p.2 p.3, p.4)
      there x (inr leaf) = (InChain leaf.0 leaf.1, leaf.2)

      by : (x : ℕ) (p : Part) → part_at (holding r o d) x ≡ Some p → ((x ≡ d) ⊎ IsBelow (holding r o d) x) ⊎ IsLeafOf (holding r o d) x
      by x Itself is = inl (inl (itself_own r o d x is))
      by x (Pointed from k level first) is = inl (inr (led (holding r o d) x from k level first (held.sound v r o l s d file) (placed v r o l s d file).nobody is))
      by x (InChain hash place) is = inr (hash, place, is)

      back : (x : ℕ) → IsBlockOf (holding r o d) x → ((x ≡ d) ⊎ IsBelow (holding r o d) x) ⊎ IsLeafOf (holding r o d) x
      back x of = by x of.0 of.1

-- ---- the system files

module _ (v : Seen) (r : Image) (o : Owners) (l : Layout) (s : ShowsFrame v r o l) where
  pub files_are : (m x y : ℕ) → m ≡ l.master → x ≡ l.rindex → y ≡ l.jindex → (none one two three all : List ℕ) → none ≡ [] → one ≡ none ++ m ∷ [] → two ≡ one ++ x ∷ [] → three ≡ two ++ y ∷ []
      → AreAdded three all (IsJournalFile r) → (d : ℕ) → Contains all d ↔ IsSystemFile r d
  files_are m x y at_m at_x at_y none one two three all empty first second third more d =
      let P : ℕ → Type 0 = λ n. (((n ≡ m) ⊎ (n ≡ x)) ⊎ (n ≡ y)) ⊎ IsJournalFile r n in
      let are : AreAdded none all P =
      added_both none three all (λ n. ((n ≡ m) ⊎ (n ≡ x)) ⊎ (n ≡ y)) (IsJournalFile r)
      (added_both none two three (λ n. (n ≡ m) ⊎ (n ≡ x)) (λ n. n ≡ y) (added_both none one two (λ n. n ≡ m) (λ n. n ≡ x) (added_one none one m first) (added_one one two x second)) (added_one two three y third))
      more in
      let whole = all_of none all all P empty are refl in
      (λ has. there d (whole.0 d has), λ file. whole.1 d (back d file))
    where
      there : (n : ℕ) → (((n ≡ m) ⊎ (n ≡ x)) ⊎ (n ≡ y)) ⊎ IsJournalFile r n → IsSystemFile r n
      there n (inl (inl (inl is))) = is_master (is ∙ at_m ∙ sym (master_is r o l s.laid))
      there n (inl (inl (inr is))) = subst (IsSystemFile r) (sym (is ∙ at_x)) (is_rindex (has_rindex r o l s.laid))
      there n (inl (inr is)) = subst (IsSystemFile r) (sym (is ∙ at_y)) (is_jindex (has_jindex r o l s.laid))
      there n (inr journal) = is_journal journal.0 journal.1

      back : (n : ℕ) → IsSystemFile r n → (((n ≡ m) ⊎ (n ≡ x)) ⊎ (n ≡ y)) ⊎ IsJournalFile r n
      back n (is_master e) = inl (inl (inl (e ∙ master_is r o l s.laid ∙ sym at_m)))
      back n (is_rindex way) = inl (inl (inr (rindex_is r o l s.laid n way ∙ sym at_x)))
      back n (is_jindex way) = inl (inr (jindex_is r o l s.laid n way ∙ sym at_y))
      back n (is_journal j has) = inr (j, has)

-- the superblock, and each block of the first so many of the system files
pub record AreFound (r : Image) (o : Owners) (files : List ℕ) (count : ℕ) (found : List ℕ) : Type 0 where
  pub only : (b : ℕ) → Contains found b → IsSystemBlock r b
  pub first : Contains found (superblock_place r.size)
  pub come : (k d b : ℕ) → k < count → slice_get files k ≡ Some d → IsBlockOf (holding r o d) b → Contains found b

module _ (v : Seen) (r : Image) (o : Owners) (l : Layout) (s : ShowsFrame v r o l) (files : List ℕ) (are : (d : ℕ) → Contains files d ↔ IsSystemFile r d) where
  pub found_first : (place size : ℕ) → place ≡ superblock_place size → size ≡ r.size → (none found : List ℕ) → none ≡ [] → found ≡ none ++ place ∷ [] → AreFound r o files 0 found
  found_first place size is same none found empty added =
      let at : place ≡ superblock_place r.size = is ∙ ap superblock_place same in
      let one : found ≡ place ∷ [] = added ∙ ap (λ xs. xs ++ place ∷ []) empty in
      record {
        only = λ b has. of_superblock (the_one b place (subst (λ xs. Contains xs b) one has) ∙ at);
        first = subst (Contains found) at (subst (λ xs. Contains xs place) (sym one) (one_there place));
        come = λ k d b low there of. absurd (omega (arith, low));
      }

  pub found_more : (count d : ℕ) (found more : List ℕ) → slice_get files count ≡ Some d → AreFound r o files count found → (IsSystemFile r d → AreAdded found more (IsBlockOf (holding r o d))) → AreFound r o files (count + 1) more
  found_more count d found more there so added =
      let file : IsSystemFile r d = (are d).0 (contained_by files count d there) in
      let new = added file in
      record {
        only = λ b has. elim (new.only b has) [ inl old ↦ so.only b old | inr of ↦ held.system v r o l s d file b of.0 of.1 ];
        first = new.stay (superblock_place r.size) so.first;
        come = λ k e b low at of. elim (parted k count low) [
          | inl less ↦ new.stay b (so.come k e b less at of)
          | inr same ↦ new.come b (subst (λ n. IsBlockOf (holding r o n) b) (some_same (sym at ∙ ap (slice_get files) same ∙ there)) of)
        ];
      }

  pub found_all : (count : ℕ) (found : List ℕ) → length files ≤ count → AreFound r o files count found → (b : ℕ) → Contains found b ↔ IsSystemBlock r b
  found_all count found all so b = (so.only b, back)
    where
      of_file : (d : ℕ) (p : Part) → IsSystemFile r d → part_at (holding r o d) b ≡ Some p → Contains found b
      of_file d p file is = let at = contained_at files d ((are d).1 file) in so.come at.0 d b (let low = at.1 in omega (arith, low, all)) at.2 (p, is)

      back : IsSystemBlock r b → Contains found b
      back (of_superblock e) = subst (Contains found) (sym e) so.first
      back (of_dinode file) = of_file b Itself file (held.own v r o l s b file)
      back (of_content d p k level first file leads within) =
          let has = file_inode r d file in
          let row = claim_row r o l s.laid p b (Below d p k level first) (below has.1.by d has.0 p k level first b has.1.claimed has.1.dinode leads) in
          of_file d (Pointed p k level first) file (pointed_part r o d b p k level first row)
      back (of_leaf d by hash place file claim) = of_file d (InChain hash place) file (chained_part r o d b hash place (claim_row r o l s.laid by b (Chained d hash place) claim))
