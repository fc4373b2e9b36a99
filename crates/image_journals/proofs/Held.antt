-- The system files of an image that stands, as a view shows its frame.
use Rattle.std.proofs.Common.{◌≡◌, ◌≢◌, ◌⊎◌, inl, inr, ℕ, true, List, [], length, Option, None, Some, refl, sym, ap, subst, ◌∙◌}
use Rattle.std.proofs.lemmas.Bool.{true≢false}
use Rattle.std.specs.Prelude.{IsSome, unwrap_or}
use Rattle.gfs2_layout.specs.Holding.{Cell, Holding, InChain, Itself, Part, Pointed, bytes_at, cell_bytes, cell_part, part_at}
use Rattle.gfs2_layout.specs.Inode.{IsInode, Leads, dinode_in, is_directory_in}
use Rattle.gfs2_layout.specs.Structures.{dinode_of}
use Rattle.glock_names.specs.Views.{Seen}
use Rattle.dinode_tree.specs.Shown.{IsAsSeen, IsShown}
use Rattle.image_model.specs.Claims.{Claims, HasInode, below, every}
use Rattle.image_model.specs.Image.{Image}
use Rattle.image_model.specs.Owners.{Below, Owners, cell_in, cell_of, holding, is_dinode, part_in}
use Rattle.image_model.specs.Stands.{IsLaid, Layout}
use Rattle.image_model.specs.SystemFiles.{IsSystemBlock, IsSystemFile, is_jindex, is_journal, is_master, is_rindex, of_content, of_dinode, of_leaf}
use Rattle.image_model.proofs.Facts.{has_dinode, has_jindex, has_rindex, jindex_is, journal_is, master_is, rindex_is}
use Rattle.image_model.proofs.Held.{block_same, chained_owner, itself_own, none_some, own_block, own_part, pointed_owner, some_same}
use Rattle.image_model.proofs.Reach.{IsClaimed, below_claim, inode_claim, leaf_claim}
use Rattle.image_model.proofs.SystemStays.{file_inode}
use Rattle.image_model.proofs.UnbrokenInodes.{within_end}
use Rattle.image_changes.specs.Contents.{SameButContent}
use Rattle.image_changes.proofs.FileContent.{file_after}
use Rattle.image_changes.proofs.Laid.{plain_file}
use Rattle.image_journals.specs.Adding.{IsJournalFile}
use Rattle.image_journals.specs.Shown.{IsIndex, ShowsFrame, jindex, master, rindex}
use Rattle.image_journals.proofs.Frames.{dinode_off, index_off, part_off}

leads_of : (im : Image) (by c a b k level first : ℕ) → Claims im by c (Below a b k level first) → Leads (every im a) b k level first c
leads_of im _ _ _ _ _ _ _ (below by a o b k level first c claim dinode leads) = leads

pub none_is : (c : Option Cell) → c ≡ None → IsSome c → ⊥
none_is None e some = absurd (no some)
  where
    no : IsSome (let c : Option Cell = None in c) → ⊥
    no e = cc
none_is (Some c) e some = absurd (differ e)
  where
    differ : Some c ≡ None → ⊥
    differ e = cc

some_part : (c : Option Cell) → IsSome c → (p : Part) × (cell_part c ≡ Some p)
some_part None some = absurd (none_is None refl some)
some_part (Some c) some = (c.part, refl)

-- which file of the system it is
pub files : (r : Image) (o : Owners) (l : Layout) → IsLaid r o l → (d : ℕ) → IsSystemFile r d → IsIndex l d ⊎ IsJournalFile r d
files r o l laid d (is_master e) = inl (master (e ∙ master_is r o l laid))
files r o l laid d (is_rindex way) = inl (rindex (rindex_is r o l laid d way))
files r o l laid d (is_jindex way) = inl (jindex (jindex_is r o l laid d way))
files r o l laid d (is_journal j has) = inr (j, has)

pub index_file : (r : Image) (o : Owners) (l : Layout) → IsLaid r o l → (d : ℕ) → IsIndex l d → IsSystemFile r d
index_file r o l laid d (master e) = is_master (e ∙ sym (master_is r o l laid))
index_file r o l laid d (rindex e) = subst (IsSystemFile r) (sym e) (is_rindex (has_rindex r o l laid))
index_file r o l laid d (jindex e) = subst (IsSystemFile r) (sym e) (is_jindex (has_jindex r o l laid))

-- a directory is none of the journals
pub directory_index : (r : Image) (o : Owners) (l : Layout) (laid : IsLaid r o l) (d : ℕ) → IsSystemFile r d → is_directory_in (holding r o d) ≡ true → IsIndex l d
directory_index r o l laid d file dir = elim (files r o l laid d file) [
  | inl index ↦ index
  | inr journal ↦ absurd (true≢false (sym dir ∙ plain_file (holding r o d) (journal_is r o l laid journal.0 d journal.1).1.file))
]

module _ (v : Seen) (r : Image) (o : Owners) (l : Layout) (s : ShowsFrame v r o l) (d : ℕ) (file : IsSystemFile r d) where
  pub has : HasInode r d
  has = file_inode r d file

  pub dinode : is_dinode (o d) ≡ true
  dinode = has_dinode r o l s.laid d has

  pub sound : IsInode (holding r o d)
  sound = s.laid.inodes d dinode

  claim : IsClaimed r d (o d)
  claim = inode_claim r o l s.laid d dinode

  -- each block of it is one of the system's
  pub system : (b : ℕ) (p : Part) → part_at (holding r o d) b ≡ Some p → IsSystemBlock r b
  system b Itself e = of_dinode (subst (IsSystemFile r) (sym (itself_own r o d b e)) file)
  system b (Pointed a k level first) e =
      let claimed = below_claim r o l s.laid d dinode claim b a k level first (pointed_owner r o d b a k level first e) in
      let leads = leads_of r claimed.0 b d a k level first claimed.1 in
      of_content d a k level first file leads (within_end r o l s.laid d has a k level first b leads)
  system b (InChain hash place) e =
      let claimed = leaf_claim r o l s.laid d dinode claim place hash b (chained_owner r o d b hash place e) in
      of_leaf d claimed.0 hash place file claimed.1

  pub own : part_at (holding r o d) d ≡ Some Itself
  own = own_part r o d dinode

  -- the view has its dinode's block
  pub dinode_seen : v.block_at d ≡ None → ⊥
  dinode_seen none = let there = s.whole d (of_dinode file) in none_some (sym none ∙ there.1)

-- ---- a file by which journals and groups are found, of which the view has each block as it is

module _ (v : Seen) (r : Image) (o : Owners) (l : Layout) (s : ShowsFrame v r o l) (d : ℕ) (index : IsIndex l d) where
  its_file : IsSystemFile r d
  its_file = index_file r o l s.laid d index

  pub index_sound : IsInode (holding r o d)
  index_sound = sound v r o l s d its_file

  pub index_same : (b : ℕ) (p : Part) → part_at (holding r o d) b ≡ Some p → v.block_at b ≡ Some (r.at b)
  index_same b p e = s.same b (system v r o l s d its_file b p e) (index_off r o l s.laid d b p (dinode v r o l s d its_file) index e)

  pub seen_part : (b : ℕ) (p : Part) → part_at (holding r o d) b ≡ Some p → v.block_at b ≡ Some (bytes_at (holding r o d) b)
  seen_part b p e = index_same b p e ∙ ap Some (sym (block_same r o d b p e))

  pub seen : (b : ℕ) → IsSome ((holding r o d).cell b) → v.block_at b ≡ Some (bytes_at (holding r o d) b)
  seen b some = let p = some_part ((holding r o d).cell b) some in seen_part b p.0 p.1

  as_seen : IsAsSeen v (holding r o d)
  as_seen b bytes some there = some_same (sym (seen b some) ∙ there)

  -- and it shows the inode
  pub shown : ((w : Seen) (h : Holding) → IsInode h → part_at h h.own ≡ Some Itself → h.size ≡ w.size → IsAsSeen w h → IsShown w h.own h) → IsShown v d (holding r o d)
  shown law = law v (holding r o d) index_sound (own v r o l s d its_file) (sym s.size) as_seen

-- ---- any file of the system, with what the view has at the places of journals

-- the image as the view has it
abbrev pub seen_image : Seen → Image → Image
seen_image v r = record { size = r.size; count = r.count; at = λ b. unwrap_or (v.block_at b) (r.at b) }

no_bytes : (c : Option Cell) → cell_part c ≡ None → cell_bytes c ≡ []
no_bytes None e = refl
no_bytes (Some c) e = absurd (none_some (sym e))

parts_of : (c : Option Part) (xs ys : List ℕ) → cell_part (cell_of c xs) ≡ cell_part (cell_of c ys)
parts_of None xs ys = refl
parts_of (Some p) xs ys = refl

part_of : (c : Option Part) (xs : List ℕ) (p : Part) → c ≡ Some p → cell_part (cell_of c xs) ≡ Some p
part_of None xs p e = absurd (none_some e)
part_of (Some q) xs p e = e

module _ (v : Seen) (r : Image) (o : Owners) (d : ℕ) where
  pub same_parts : (b : ℕ) → part_at (holding (seen_image v r) o d) b ≡ part_at (holding r o d) b
  unfolding cell_in
  same_parts b = parts_of (part_in d b (o b)) ((seen_image v r).at b) (r.at b)

  -- where each of its blocks is as it was, it is
  same_holding : ((b : ℕ) (p : Part) → part_at (holding r o d) b ≡ Some p → (seen_image v r).at b ≡ r.at b) → holding (seen_image v r) o d ≡ holding r o d
  unfolding cell_in
  same_holding same = λ i. record { size = r.size; count = r.count; own = d; cell = λ b. cells b (part_in d b (o b)) refl i }
    where
      cells : (b : ℕ) (c : Option Part) → part_in d b (o b) ≡ c → cell_of (part_in d b (o b)) ((seen_image v r).at b) ≡ cell_of (part_in d b (o b)) (r.at b)
      cells b None e = ap (λ x. cell_of x ((seen_image v r).at b)) e ∙ sym (ap (λ x. cell_of x (r.at b)) e)
      cells b (Some p) e = ap (cell_of (part_in d b (o b))) (same b p (part_of (part_in d b (o b)) (r.at b) p e))

module _ (v : Seen) (r : Image) (o : Owners) (l : Layout) (s : ShowsFrame v r o l) (d : ℕ) (file : IsSystemFile r d) where
  at_seen : (b : ℕ) (bytes : List ℕ) → v.block_at b ≡ Some bytes → (seen_image v r).at b ≡ bytes
  at_seen b bytes there = ap (λ x. unwrap_or x (r.at b)) there

  now_bytes : (b : ℕ) (p : Part) → part_at (holding r o d) b ≡ Some p → bytes_at (holding (seen_image v r) o d) b ≡ (seen_image v r).at b
  now_bytes b p e = block_same (seen_image v r) o d b p (same_parts v r o d b ∙ e)

  bytes_seen : (b : ℕ) (p : Part) → part_at (holding r o d) b ≡ Some p → v.block_at b ≡ Some (bytes_at (holding (seen_image v r) o d) b)
  bytes_seen b p e =
      let there = s.whole b (system v r o l s d file b p e) in
      there.1 ∙ ap Some (sym (now_bytes b p e ∙ at_seen b there.0 there.1))

  pub seen_now : (b : ℕ) → IsSome ((holding (seen_image v r) o d).cell b) → v.block_at b ≡ Some (bytes_at (holding (seen_image v r) o d) b)
  seen_now b some = let p = some_part ((holding (seen_image v r) o d).cell b) some in bytes_seen b p.0 (sym (same_parts v r o d b) ∙ p.1)

  pub dinode_now : dinode_in (holding (seen_image v r) o d) ≡ dinode_in (holding r o d)
  unfolding dinode_in
  dinode_now =
      let at_dinode = s.same d (of_dinode file) (dinode_off r o l s.laid d (dinode v r o l s d file)) in
      ap dinode_of (own_block (seen_image v r) o d (dinode v r o l s d file) ∙ at_seen d (r.at d) at_dinode ∙ sym (own_block r o d (dinode v r o l s d file)))

  -- a journal has other bytes in its blocks of content alone
  pub same_but_content : SameButContent (holding r o d) (holding (seen_image v r) o d)
  same_but_content = record {
    size = refl;
    count = refl;
    own = refl;
    parts = same_parts v r o d;
    lengths = λ b. lengths b (part_at (holding r o d) b) refl;
    bytes = λ b not. bytes b (part_at (holding r o d) b) refl not;
  }
    where
      nothing : (b : ℕ) → part_at (holding r o d) b ≡ None → bytes_at (holding (seen_image v r) o d) b ≡ bytes_at (holding r o d) b
      nothing b e = no_bytes ((holding (seen_image v r) o d).cell b) (same_parts v r o d b ∙ e) ∙ sym (no_bytes ((holding r o d).cell b) e)

      lengths : (b : ℕ) (c : Option Part) → part_at (holding r o d) b ≡ c → length (bytes_at (holding (seen_image v r) o d) b) ≡ length (bytes_at (holding r o d) b)
      lengths b None e = ap length (nothing b e)
      lengths b (Some p) e =
          let there = s.whole b (system v r o l s d file b p e) in
          ap length (now_bytes b p e ∙ at_seen b there.0 there.1) ∙ there.2 ∙ s.size ∙ sym ((sound v r o l s d file).whole b p e)

      bytes : (b : ℕ) (c : Option Part) → part_at (holding r o d) b ≡ c → ((above k first : ℕ) → part_at (holding r o d) b ≢ Some (Pointed above k 0 first)) → bytes_at (holding (seen_image v r) o d) b ≡ bytes_at (holding r o d) b
      bytes b None e not = nothing b e
      bytes b (Some p) e not =
          let off = part_off r o l s.laid d b p (dinode v r o l s d file) (λ above k first f. not above k first (e ∙ ap Some f)) e in
          now_bytes b p e ∙ at_seen b (r.at b) (s.same b (system v r o l s d file b p e) off) ∙ sym (block_same r o d b p e)

  pub sound_now : IsInode (holding (seen_image v r) o d)
  sound_now = elim (files r o l s.laid d file) [
    | inl index ↦ subst IsInode (sym (same_holding v r o d (λ b p e. at_seen b (r.at b) (index_same v r o l s d index b p e)))) (sound v r o l s d file)
    | inr journal ↦
        file_after (holding r o d) (holding (seen_image v r) o d) (journal_is r o l s.laid journal.0 d journal.1).1.file (own v r o l s d file) same_but_content (sound v r o l s d file)
  ]

  pub own_now : part_at (holding (seen_image v r) o d) d ≡ Some Itself
  own_now = same_parts v r o d d ∙ own v r o l s d file

  pub shown_now : ((w : Seen) (h : Holding) → IsInode h → part_at h h.own ≡ Some Itself → h.size ≡ w.size → IsAsSeen w h → IsShown w h.own h) → IsShown v d (holding (seen_image v r) o d)
  shown_now law = law v (holding (seen_image v r) o d) sound_now own_now (sym s.size) (λ b bytes some there. some_same (sym (seen_now b some) ∙ there))
