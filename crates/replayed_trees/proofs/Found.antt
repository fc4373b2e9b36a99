-- What is answered of an image, by what was found in it.
use Rattle.std.proofs.Common.{◌≡◌, ◌+◌, ◌/◌, ◌<◌, ◌≤◌, ℕ, zero, suc, true, false, List, ◌∷◌, length, Some, Result, Ok, Err, get_or, refl, sym, ap, ap₂, subst, ◌∙◌, arith}
use Rattle.std.specs.Prelude.{IfErr, IfOk, IsTrue, map, slice_get}
use Rattle.std.specs.List.{list_all, range_with_len}
use Rattle.std.proofs.lemmas.List.FromFn.{get_or-map-range_with_len, length-map-range_with_len}
use Rattle.file_tree.specs.Tree.{Tree}
use Rattle.gfs2_layout.specs.Inode.{content_block}
use Rattle.disk_trees.specs.Answers as disk
use Rattle.disk_trees.specs.Reading.{ending}
use Rattle.disk_trees.specs.declared.faults.TreeFault.{TreeFault}
use Rattle.disk_trees.specs.declared.faults.TreeFault.TheVariants as tree
use Rattle.image_journals.specs.Found.{AreJournals}
use Rattle.image_journals.specs.Laws.{ReplayedShareTheirSystem}
use Rattle.image_journals.specs.Frames.{HasSameFrame}
use Rattle.image_journals.specs.Shown.{IfMemory}
use Rattle.image_journals.proofs.Frames.{same_frame}
use Rattle.image_journals.specs.declared.unfound.Unfound.{Unfound}
use Rattle.image_journals.specs.declared.unfound.Unfound.TheVariants as unfound
use Rattle.image_journals.specs.declared.finding.JournalPlaces.{JournalPlaces}
use Rattle.image_model.specs.Claims.{every}
use Rattle.image_model.specs.Image.{Image, image_in, image_of}
use Rattle.image_model.specs.Owners.{IsUsed, Master, Named, Owner, Owners, Root, is_dinode}
use Rattle.image_model.specs.Replays.{HasItsJournals, Replayed, StandsReplayed}
use Rattle.image_model.specs.Rules.{IsBrokenBlock}
use Rattle.image_model.specs.Stands.{IsLaid, Layout, Stands}
use Rattle.image_model.proofs.Facts.{journal_is}
use Rattle.image_model.proofs.Reach.{used_low}
use Rattle.image_model.proofs.Replaying.{journals_of_standing, one_replay, replayed_by_any}
use Rattle.image_outcomes.proofs.SameFiles.{HasSameFiles, place_row}
use Rattle.image_replays.specs.Laws.{StoppedAreNotReplayed}
use Rattle.image_replays.specs.Replays.{IfDamaged as IfDamagedLook, put_over}
use Rattle.image_replays.proofs.Lists.{false_true, none_some}
use Rattle.journal_outcomes.specs.Images.{ring_at}
use Rattle.peer_replay.specs.declared.planned.Plan.{Plan}
use Rattle.replay_looks.specs.declared.faults.LookFault.{LookFault}
use Rattle.replay_looks.specs.declared.faults.LookFault.TheVariants as look
use Rattle.replay_marks.specs.declared.marks.Mark.{Mark}
use Rattle.shared_disk.specs.Disk.{DiskState}
use Rattle.replayed_trees.specs.Answers.{GivesTree, HasNoSystem, IfBroken, IfDamaged, IfDamagedAsItLies, IsTold, IsToldAsItLies, IsUnreadable, broken, of_look, of_tree, stopped}
use Rattle.replayed_trees.specs.Marking.{AreMarked}
use Rattle.replayed_trees.proofs.Inside.{tested_inside}
use Rattle.replayed_trees.proofs.SameFrames.{same_frames}
use Rattle.replayed_trees.specs.Planning.{AreInside, StopsReplay, by_live, headless, is_inside}
use Rattle.replayed_trees.specs.declared.unread.Unread.{Unread}
use Rattle.replayed_trees.specs.declared.unread.Unread.TheVariants as unread

-- two functions that agree from one number on, on so many
map_same : (f g : ℕ → ℕ) (from n : ℕ) → ((k : ℕ) → from ≤ k → k < from + n → f k ≡ g k) → map f (range_with_len from n) ≡ map g (range_with_len from n)
map_same f g from zero same = refl
map_same f g from (suc n) same =
    ap₂ (λ (x : ℕ) (xs : List ℕ). x ∷ xs) (same from (omega arith) (omega arith))
    (map_same f g (from + 1) n (λ k low high. same k (omega (arith, low)) (omega (arith, high))))

-- an image that has the frame of one that stands
module _ (im r : Image) (o : Owners) (m : Layout) (laid : IsLaid r o m) (shared : HasSameFrame r im) where
  files : HasSameFiles r m im
  files = same_frames r o m laid im shared

  pub its_journals : HasItsJournals im m
  its_journals = files.journals

  module _ (journals : List JournalPlaces) (found : AreJournals r m journals) where
    its_blocks : (j : ℕ) (x : JournalPlaces) → slice_get journals j ≡ Some x → x.blocks.items ≡ map (content_block (every im x.dinode)) (range_with_len 0 (ring_at im x.dinode).places)
    its_blocks j x there =
        let d = x.dinode in
        let at = found.each j x there in
        found.blocks j x there
        ∙ map_same (content_block (every r d)) (content_block (every im d)) 0 (ring_at r d).places (λ k low high. sym (files.place j d k at (omega (arith, high))))
        ∙ ap (λ n. map (content_block (every im d)) (range_with_len 0 n)) (sym (files.many j d at))

    pub as_it_lies : AreJournals im m journals
    as_it_lies = record { count = found.count; each = found.each; blocks = its_blocks }

    low_used : (b : ℕ) → IsUsed (o b) → b < im.count
    low_used b used = subst (λ n. b < n) (sym shared.count) (used_low r o m laid b used)

    pub are_inside : AreInside im.count journals
    are_inside = record {
      dinodes = λ j x there.
          let row = journal_is r o m laid j x.dinode ((journals_of_standing r o m laid).there j x.dinode (found.each j x there)) in
          low_used x.dinode (dinode_used (o x.dinode) row.0);
      places = λ j x there p e low.
          let d = x.dinode in
          let at = found.each j x there in
          let n = (ring_at r d).places in
          let long : length x.blocks.items ≡ n = ap length (found.blocks j x there) ∙ length-map-range_with_len (content_block (every r d)) 0 n in
          let inside : p < n = subst (λ k. p < k) long low in
          let z : 0 + p ≡ p = omega arith in
          let value : get_or x.blocks.items p e ≡ content_block (every r d) p = ap (λ bs. get_or bs p e) (found.blocks j x there) ∙ get_or-map-range_with_len (content_block (every r d)) 0 n p p e inside z in
          let row = place_row r o m laid j d at p inside in
          subst (λ b. b < im.count) (sym value) (low_used (content_block (every r d) p) (subst IsUsed (sym row.3) tt));
    }
      where
        dinode_used : (p : Owner) → is_dinode p ≡ true → IsUsed p
        dinode_used Root e = tt
        dinode_used Master e = tt
        dinode_used (Named parent name) e = tt
        dinode_used _ e = absurd (let f : false ≡ true = e in cc)

-- where an image stands once its journals are replayed
pub by_layout : (im : Image) (t : Tree) (is : StandsReplayed im t) → HasSameFrame is.replayed im → Replayed im is.stands.layout is.replayed
by_layout im t is shared = replayed_by_any im is.replayed is.stands.layout is.layout (its_journals im is.replayed is.stands.owners is.stands.layout is.stands.laid shared) is.is

-- ---- what is answered, of an image that a disk in memory has

no_replay : (im replayed : Image) (l : Layout) (rule b : ℕ) → StopsReplay im l rule b → Replayed im l replayed → StoppedAreNotReplayed → ⊥
no_replay im replayed l _ _ (headless j d at none) is law = let reads = is.replayable.readable j d at in none_some reads.head (sym none ∙ reads.headed)
no_replay im replayed l _ _ (by_live rule b by) is law = law im replayed l rule b by is

module _ (s : DiskState) (tells : IsTrue s.tells) (im : Image) (of : image_of s ≡ im) (l : Layout) (its : HasItsJournals im l) (journals : List JournalPlaces) (found : AreJournals im l journals) (marks : List Mark) (marked : AreMarked im l marks) where
  pub planned : (plans : List Plan)
      → (IsTrue s.tells → (m : Layout) → HasItsJournals (image_of s) m → AreJournals (image_of s) m journals → AreMarked (image_of s) m marks → Replayed (image_of s) m (put_over (image_of s) plans))
      → Replayed im l (put_over im plans)
  planned plans give =
      subst (λ i. Replayed i l (put_over i plans)) of
      (give tells l (subst (λ i. HasItsJournals i l) (sym of) its) (subst (λ i. AreJournals i l journals) (sym of) found) (subst (λ i. AreMarked i l marks) (sym of) marked))

  pub stopped_so : (f : LookFault)
      → (IsTrue s.tells → (m : Layout) → HasItsJournals (image_of s) m → AreJournals (image_of s) m journals → AreMarked (image_of s) m marks
      → IfDamagedLook f (λ block rule. StopsReplay (image_of s) m rule block × (block < s.count)))
      → IfDamagedLook f (λ block rule. StopsReplay im l rule block × (block < im.count))
  stopped_so f give =
      subst (λ (i : Image). IfDamagedLook f (λ block rule. StopsReplay i l rule block × (block < i.count))) of
      (give tells l (subst (λ i. HasItsJournals i l) (sym of) its) (subst (λ i. AreJournals i l journals) (sym of) found) (subst (λ i. AreMarked i l marks) (sym of) marked))

-- a look that was stopped
pub look_stands : (im : Image) (l : Layout) (replayed : Image) (t : Tree) (f : LookFault) → StoppedAreNotReplayed → Replayed im l replayed → IfDamagedLook f (λ block rule. StopsReplay im l rule block × (block < im.count)) → GivesTree t (Err (of_look f))
look_stands im l replayed t (look.Damaged block rule) law is told = no_replay im replayed l rule block told.0 is law
look_stands im l replayed t (look.DiskFailed block rise) law is told = tt
look_stands im l replayed t look.NoMemory law is told = tt

pub look_told : (im : Image) (l : Layout) (f : LookFault) → IfDamagedLook f (λ block rule. StopsReplay im l rule block × (block < im.count)) → IfDamaged (of_look f) (IsUnreadable im l)
look_told im l (look.Damaged block rule) told = stopped told.0 told.1
look_told im l (look.DiskFailed block rise) told = tt
look_told im l look.NoMemory told = tt

pub look_unbroken : (f : LookFault) → IfBroken (of_look f) ⊥
look_unbroken (look.Damaged block rule) = tt
look_unbroken (look.DiskFailed block rise) = tt
look_unbroken look.NoMemory = tt

pub tree_unbroken : (f : TreeFault) → IfBroken (of_tree f) ⊥
tree_unbroken (tree.Damaged block rule) = tt
tree_unbroken (tree.DiskFailed block rise) = tt
tree_unbroken tree.NoMemory = tt

-- the reading of what the plans leave, on the disk as it then is
module _ (s mid : DiskState) (same : mid ≡ s) (tells : IsTrue s.tells) (im : Image) (of : image_of s ≡ im) (l : Layout) (plans row : List Plan) (row_is : row ≡ plans) (is : Replayed im l (put_over im plans)) where
  standing : (replayed : Image) (t : Tree) → Replayed im l replayed → Stands replayed t → Stands (put_over im row) t
  standing replayed t other stands = subst (λ ps. Stands (put_over im ps) t) (sym row_is) (subst (λ i. Stands i t) (one_replay im replayed (put_over im plans) l l other is) stands)

  pub given : (result : Result Tree TreeFault) → (IsTrue mid.tells → (u : Tree) → Stands (put_over (image_of mid) row) u → disk.GivesTree u result) → (replayed : Image) (t : Tree) → Replayed im l replayed → Stands replayed t → disk.GivesTree t result
  given result gives replayed t other stands =
      subst (λ (x : DiskState). IsTrue x.tells → (u : Tree) → Stands (put_over (image_of x) row) u → disk.GivesTree u result) same gives tells t
      (subst (λ i. Stands (put_over i row) t) (sym of) (standing replayed t other stands))

  pub tree_told : (f : TreeFault) → (IsTrue mid.tells → disk.IfDamaged f (λ block rule. IsBrokenBlock (ending (put_over (image_of mid) row)) rule block)) → IfDamaged (of_tree f) (IsUnreadable im l)
  tree_told f gives = by f (subst (λ i. disk.IfDamaged f (λ block rule. IsBrokenBlock (ending (put_over i row)) rule block)) of (subst (λ (x : DiskState). IsTrue x.tells → disk.IfDamaged f (λ block rule. IsBrokenBlock (ending (put_over (image_of x) row)) rule block)) same gives tells))
    where
      by : (g : TreeFault) → disk.IfDamaged g (λ block rule. IsBrokenBlock (ending (put_over im row)) rule block) → IfDamaged (of_tree g) (IsUnreadable im l)
      by (tree.Damaged block rule) told = broken (put_over im plans) is (subst (λ ps. IsBrokenBlock (ending (put_over im ps)) rule block) row_is told)
      by (tree.DiskFailed block rise) told = tt
      by tree.NoMemory told = tt

pub unread_tree : (t : Tree) (f : TreeFault) → disk.GivesTree t (Err f) → GivesTree t (Err (of_tree f))
unread_tree t (tree.Damaged block rule) none = none
unread_tree t (tree.DiskFailed block rise) none = tt
unread_tree t tree.NoMemory none = tt

-- ---- an image of which nothing was found

-- what was found in an image, by which its tree is read
pub record HasAll (im : Image) (l : Layout) (journals : List JournalPlaces) (marks : List Mark) : Type 0 where
  pub its : HasItsJournals im l
  pub found : AreJournals im l journals
  pub marked : AreMarked im l marks

module _ (size : ℕ) (bytes seen seen2 : List ℕ) (seen_is : seen ≡ bytes) (seen2_is : seen2 ≡ bytes) (journals row : List JournalPlaces) (row_is : row ≡ journals)
    (found : (r : Image) (o : Owners) (l : Layout) → HasSameFrame r (image_in size seen) → IsLaid r o l → AreJournals r l journals) where
  module _ (r : Image) (o : Owners) (l : Layout) (same : HasSameFrame r (image_in size bytes)) (laid : IsLaid r o l) where
    in_standing : AreJournals r l journals
    in_standing = found r o l (subst (λ b. HasSameFrame r (image_in size b)) (sym seen_is) same) laid

    here : AreJournals (image_in size bytes) l journals
    here = as_it_lies (image_in size bytes) r o l laid same journals in_standing

    as_seen : HasSameFrame r (image_in size seen2)
    as_seen = subst (λ b. HasSameFrame r (image_in size b)) (sym seen2_is) same

    here_seen : AreJournals (image_in size seen2) l row
    here_seen = subst (λ b. AreJournals (image_in size b) l row) (sym seen2_is) (subst (AreJournals (image_in size bytes) l) (sym row_is) here)

    pub all_found : (marks : List Mark) (last : List JournalPlaces) → last ≡ journals
        → ((r : Image) (o : Owners) (l : Layout) → HasSameFrame r (image_in size seen2) → IsLaid r o l → AreJournals (image_in size seen2) l row → AreMarked (image_in size seen2) l marks)
        → HasAll (image_in size bytes) l last marks
    all_found marks last last_is marked = record {
      its = its_journals (image_in size bytes) r o l laid same;
      found = subst (AreJournals (image_in size bytes) l) (sym last_is) here;
      marked = subst (λ b. AreMarked (image_in size b) l marks) seen2_is (marked r o l as_seen laid here_seen);
    }

  -- so their dinodes and places are inside
  pub outside : (long : ℕ) → long ≡ length bytes → (last : List JournalPlaces) → last ≡ journals → list_all (is_inside (long / size)) last ≡ false → HasNoSystem (image_in size bytes)
  outside long long_is last last_is off r o l same laid =
      false_true (
      sym off
      ∙ ap (λ n. list_all (is_inside (n / size)) last) long_is
      ∙ ap (list_all (is_inside (image_in size bytes).count)) last_is
      ∙ tested_inside (image_in size bytes).count journals (are_inside (image_in size bytes) r o l laid same journals (in_standing r o l same laid))
      )

  pub no_system : (f : Unfound) → f ≡ unfound.Broken
      → ((r : Image) (o : Owners) (l : Layout) → HasSameFrame r (image_in size seen2) → IsLaid r o l → AreJournals (image_in size seen2) l row → IfMemory {A = List Mark} (Err f) (AreMarked (image_in size seen2) l))
      → HasNoSystem (image_in size bytes)
  no_system f is none r o l same laid =
      subst (λ g. IfMemory {A = List Mark} (Err g) (AreMarked (image_in size seen2) l)) is (none r o l (as_seen r o l same laid) laid (here_seen r o l same laid))

pub sharing : (im : Image) (t : Tree) (is : StandsReplayed im t) → ReplayedShareTheirSystem → HasSameFrame is.replayed im
sharing im t is law = same_frame is.replayed im (law im is.replayed is.stands.owners is.layout is.stands.layout is.is is.stands.laid)

pub lies_told : (im : Image) (u : Unread) → HasNoSystem im → IfDamagedAsItLies u (λ block rule. IsBrokenBlock im rule block) → IfDamagedAsItLies u (IsToldAsItLies im)
lies_told im (unread.Damaged block rule) none told = tt
lies_told im (unread.DamagedAsItLies block rule) none told = record { none = none; broken = told }
lies_told im unread.Broken none told = tt
lies_told im unread.NoMemory none told = tt

pub untold : (im : Image) (u : Unread) → IfDamaged u (λ block rule. ⊥) → IfDamaged u (IsTold im)
untold im (unread.Damaged block rule) none = absurd none
untold im (unread.DamagedAsItLies block rule) none = tt
untold im unread.Broken none = tt
untold im unread.NoMemory none = tt

pub lies_broken : (im : Image) (u : Unread) → HasNoSystem im → IfBroken u (HasNoSystem im)
lies_broken im (unread.Damaged block rule) none = tt
lies_broken im (unread.DamagedAsItLies block rule) none = tt
lies_broken im unread.Broken none = none
lies_broken im unread.NoMemory none = tt

pub by_told : (im : Image) (result : Result Tree Unread) → IfErr result (λ u. ((r : Image) (o : Owners) (l : Layout) → HasSameFrame r im → IsLaid r o l → IfDamaged u (IsUnreadable im l))) → IfErr result (λ u. IfDamaged u (IsTold im))
by_told im (Ok t) told = tt
by_told im (Err (unread.Damaged block rule)) told = told
by_told im (Err (unread.DamagedAsItLies block rule)) told = tt
by_told im (Err unread.Broken) told = tt
by_told im (Err unread.NoMemory) told = tt

pub never_broken : (im : Image) (result : Result Tree Unread) → IfErr result (λ u. IfBroken u ⊥) → IfErr result (λ u. IfBroken u (HasNoSystem im))
never_broken im (Ok t) told = tt
never_broken im (Err (unread.Damaged block rule)) told = tt
never_broken im (Err (unread.DamagedAsItLies block rule)) told = tt
never_broken im (Err unread.Broken) told = absurd told
never_broken im (Err unread.NoMemory) told = tt

pub never_lies : (im : Image) (result : Result Tree Unread) → IfErr result (λ u. IfDamagedAsItLies u (λ block rule. ⊥)) → IfErr result (λ u. IfDamagedAsItLies u (IsToldAsItLies im))
never_lies im (Ok t) told = tt
never_lies im (Err (unread.Damaged block rule)) told = tt
never_lies im (Err (unread.DamagedAsItLies block rule)) told = absurd told
never_lies im (Err unread.Broken) told = tt
never_lies im (Err unread.NoMemory) told = tt

pub look_not_lying : (f : LookFault) → IfDamagedAsItLies (of_look f) (λ block rule. ⊥)
look_not_lying (look.Damaged block rule) = tt
look_not_lying (look.DiskFailed block rise) = tt
look_not_lying look.NoMemory = tt

pub tree_not_lying : (f : TreeFault) → IfDamagedAsItLies (of_tree f) (λ block rule. ⊥)
tree_not_lying (tree.Damaged block rule) = tt
tree_not_lying (tree.DiskFailed block rise) = tt
tree_not_lying tree.NoMemory = tt

pub err_so : {A : Type 0} (result : Result A Unread) (P Q : Unread → Type 0) → ((u : Unread) → P u → Q u) → IfErr result P → IfErr result Q
err_so (Ok a) P Q so is = tt
err_so (Err u) P Q so is = so u is

pub ok_so : {A : Type 0} (result : Result A Unread) (P Q : A → Type 0) → ((a : A) → P a → Q a) → IfOk result P → IfOk result Q
ok_so (Ok a) P Q so is = so a is
ok_so (Err u) P Q so is = tt
