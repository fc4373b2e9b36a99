-- A file whose dinode's block was written anew, with other content.
use Rattle.std.proofs.Common.{◌≡◌, ◌≢◌, ℕ, suc, ◌+◌, ◌≤◌, true, false, inl, inr, List, length, take, drop, length-drop, None, Some, sym, ap, ap₂, ◌∙◌, subst, arith}
use Rattle.std.proofs.lemmas.Bool.{cases_eq, cases_lt, cond-true, cond-false, eq-eqb, both_ways, lt-ltb, le-ltb}
use Rattle.std.specs.Prelude.{◌==◌, ◌&&◌, nat_lt}
use Rattle.std.specs.Cmp.{nat_cmp_total}
use Rattle.std.specs.FinMap.{FinMap, get, get-empty, empty, insert, nat_cmp-IsAntisymmetric}
use Rattle.std.specs.Ordering.{nat_cmp}
use Rattle.finite_maps.proofs.Keys.{inserted_at, inserted_apart}
use Rattle.drafts.specs.Fates.{block_with, seen_with}
use Rattle.drafts.specs.declared.fate.Fate.{Fate}
use Rattle.drafts.specs.declared.fate.Fate.TheVariants.{Put}
use Rattle.file_tree.specs.Apply.{overwritten}
use Rattle.gfs2_layout.specs.Headers.{HasHeader}
use Rattle.gfs2_layout.specs.Holding.{Holding, Part, Pointed, part_at, bytes_at}
use Rattle.gfs2_layout.specs.Inode.{IsInode, HasTree, Fits, Head, dinode_in, height_in, has_hash_flag, is_directory_in, is_hashed_in, content_of}
use Rattle.gfs2_layout.specs.Structures.{header_fault, dinode_of, dinode_length, is_directory, is_regular}
use Rattle.gfs2_layout.specs.declared.dinode.Dinode.{Dinode}
use Rattle.gfs2_layout.proofs.HeaderLaws.{answer_ok, header_from}
use Rattle.glock_names.specs.Views.{Seen}
use Rattle.dinode_tree.specs.Reading.{inode_lock}
use Rattle.dinode_tree.specs.Shown.{IsShown}
use Rattle.linear_dirs.specs.Shown.{holding_over}
use Rattle.linear_dirs.proofs.Looked.{bytes_of}
use Rattle.linear_dirs.proofs.Rewritten.{IsRewritten, part_same, bytes_new, bytes_same, dinode_new, count_same, seen_at}
use Rattle.writing_calls.specs.Contents.{IsBlockWritten, IsWrittenOver, StaysStuffed, HasRoom, dinode_after, size_after}
use Rattle.writing_calls.proofs.Areas.{content_front}

abbrev head_from : Dinode → Head
head_from d = record { number = d.num.number; is_dir = is_directory d }

-- a size that has room, and an end that does
grown_room : (size old end : ℕ) → HasRoom size old → HasRoom size end → HasRoom size (size_after old end)
grown_room size old end was now = elim (cases_lt old end) [
  | inl beyond ↦ subst (HasRoom size) (sym (cond-true (nat_lt old end) end old (lt-ltb old end beyond))) now
  | inr inside ↦ subst (HasRoom size) (sym (cond-false (nat_lt old end) end old (le-ltb old end inside))) was
]

-- what was put is what becomes of the block
pub put_at : (fates : FinMap nat_cmp Fate) (b : ℕ) (fate : Fate) → get (insert fates b fate) b ≡ Some fate
put_at fates b fate = inserted_at nat_cmp_total nat_cmp-IsAntisymmetric fates b fate

-- no other block is put
pub put_alone : (a b : ℕ) (fate : Fate) → b ≢ a → get {R = nat_cmp} (insert empty a fate) b ≡ None
put_alone a b fate other = inserted_apart nat_cmp_total nat_cmp-IsAntisymmetric empty a fate b other ∙ get-empty nat_cmp b

pub put_there : (a : ℕ) (fate : Fate) → get {R = nat_cmp} (insert empty a fate) a ≡ Some fate
put_there a fate = inserted_at nat_cmp_total nat_cmp-IsAntisymmetric empty a fate

-- the draft shows the block as it was put, and each other as the view does
put_over_view : (v : Seen) (a : ℕ) (h : Holding) (now : List ℕ) → IsShown v a h → IsRewritten (seen_with v (insert empty a (Put (inode_lock a) false now))) h now
put_over_view v a h now shown = record {
  there = shown.dinode;
  own = ap (λ b. (seen_with v (insert empty a (Put (inode_lock a) false now))).block_at b) shown.own ∙ seen_at v empty a (inode_lock a) now;
  same = λ b bytes other there at. shown.same b bytes there
      (sym (ap (λ f. block_with f (v.block_at b)) (put_alone a b (Put (inode_lock a) false now) (λ e. other (e ∙ sym shown.own)))) ∙ at);
}

module _ (v w : Seen) (a at : ℕ) (new : List ℕ) (time : ℕ) (d : Dinode) (before now : List ℕ) (h : Holding) (shown : IsShown v a h) (there : v.block_at a ≡ Some before) (was : d ≡ dinode_in h)
    (stays : StaysStuffed v.size d (at + length new)) (block : IsBlockWritten v.size d at new time before now) (over : IsRewritten w h now) where
  abbrev h' : Holding
  h' = holding_over w h

  abbrev end : ℕ
  end = at + length new

  abbrev d' : Dinode
  d' = dinode_after d end time

  read_is : (header_fault dinode_length 4 400 now ≡ None) × (dinode_of now ≡ d')
  read_is = answer_ok (header_fault dinode_length 4 400 now) (dinode_of now) d' block.read

  dinode_is : dinode_in h' ≡ d'
  dinode_is = dinode_new w h now over d' read_is.1

  low_before : height_in h ≡ 0
  low_before = ap (λ (x : Dinode). x.height) (sym was) ∙ stays.height

  low_after : height_in h' ≡ 0
  low_after = ap (λ (x : Dinode). x.height) dinode_is ∙ stays.height

  file_before : is_directory_in h ≡ false
  file_before = ap is_directory (sym was) ∙ stays.file

  file_after : is_directory_in h' ≡ false
  file_after = ap is_directory dinode_is ∙ stays.file

  unhashed : (x : Holding) → is_directory_in x ≡ false → is_hashed_in x ≡ false
  unhashed x file = ap (λ b. b && has_hash_flag (dinode_in x)) file

  room : HasRoom v.size (size_after d.size end)
  room = grown_room v.size d.size end stays.fits stays.room

  -- ---- content

  stuffed_content : (x : Holding) → height_in x ≡ 0 → content_of x ≡ take (dinode_in x).size (drop dinode_length (bytes_at x x.own))
  unfolding content_of
  stuffed_content x low = ap (take (dinode_in x).size) (cond-true (height_in x == 0) _ _ (eq-eqb (height_in x) 0 low))

  content_before : content_of h ≡ take d.size (drop dinode_length before)
  content_before = stuffed_content h low_before ∙ ap₂ (λ n bytes. take n (drop dinode_length bytes)) (ap (λ (x : Dinode). x.size) (sym was)) (bytes_of v h a before shown there)

  content_now : content_of h' ≡ overwritten at new (content_of h)
  content_now =
      stuffed_content h' low_after
      ∙ ap₂ (λ n bytes. take n (drop dinode_length bytes)) (ap (λ (x : Dinode). x.size) dinode_is) (bytes_new w h now over)
      ∙ ap (take (size_after d.size end)) block.area
      ∙ content_front at d.size new (drop dinode_length before) (area_room d.size stays.fits) (area_room end stays.room)
      ∙ ap (overwritten at new) (sym content_before)
    where
      area_room : (n : ℕ) → HasRoom v.size n → n ≤ length (drop dinode_length before)
      area_room n has = omega (arith, has, block.was, length-drop dinode_length before)

  -- ---- soundness

  no_level : (x b k level first : ℕ) → IsInode h → part_at h' x ≡ Some (Pointed b k level first) → ⊥
  no_level x b k level first sound is =
      let low = sound.tree.below x b k level first (sym (part_same w h now over x) ∙ is) in
      absurd (omega (arith, low, low_before))

  tree_still : IsInode h → HasTree h'
  tree_still sound = record {
    top = λ level high. absurd (omega (arith, high, low_after));
    inner = λ x b k level first is. absurd (no_level x b k (suc level) first sound is);
    pointed = λ x b k level first is. absurd (no_level x b k level first sound is);
    below = λ x b k level first is. absurd (no_level x b k level first sound is);
    indirect = λ x b k level first is. absurd (no_level x b k (suc level) first sound is);
    table = λ x b k first directory is. absurd (no_level x b k 0 first sound is);
  }

  fits_still : Fits h'
  fits_still = record {
    low = omega (arith, low_after);
    stuffed = λ none. omega (arith, room, shown.size, ap (λ (x : Dinode). x.size) dinode_is);
    under = λ level high. absurd (omega (arith, high, low_after));
  }

  whole_still : IsInode h → (b : ℕ) (p : Part) → part_at h' b ≡ Some p → length (bytes_at h' b) ≡ h.size
  whole_still sound b p is = elim (cases_eq b h.own) [
    | inl same ↦ ap (λ x. length (bytes_at h' x)) same ∙ ap length (bytes_new w h now over) ∙ block.whole ∙ sym shown.size
    | inr other ↦ ap length (bytes_same w h now over b other) ∙ sound.whole b p (sym (part_same w h now over b) ∙ is)
  ]

  mode_still : IsInode h → is_regular (dinode_in h') ≡ true
  mode_still sound = elim sound.mode [
    | inl directory ↦ absurd (both_ways (is_directory_in h) file_before directory)
    | inr regular ↦ ap is_regular dinode_is ∙ ap is_regular was ∙ regular
  ]

  sound_still : IsInode h → IsInode h'
  sound_still sound = record {
    whole = whole_still sound;
    header = subst (HasHeader 4 400) (sym (bytes_new w h now over)) (header_from dinode_length 4 400 now read_is.0);
    address = ap (λ (x : Dinode). x.num.address) dinode_is ∙ ap (λ (x : Dinode). x.num.address) was ∙ sound.address;
    number = λ none. sound.number (ap (λ (x : Dinode). x.num.number) (sym was) ∙ ap (λ (x : Dinode). x.num.number) (sym dinode_is) ∙ none);
    mode = inr (mode_still sound);
    links = λ file. ap (λ (x : Dinode). x.nlink) dinode_is ∙ ap (λ (x : Dinode). x.nlink) was ∙ sound.links file_before;
    fits = fits_still;
    tree = tree_still sound;
    linear = λ directory hashed. absurd (both_ways (is_directory_in h') file_after directory);
    hashed = λ hashed. absurd (both_ways (is_hashed_in h') (unhashed h' file_after) hashed);
    leafless = λ hashed x hash place is. sound.leafless (unhashed h file_before) x hash place (sym (part_same w h now over x) ∙ is);
    blocks = ap (λ (x : Dinode). x.blocks) dinode_is ∙ ap (λ (x : Dinode). x.blocks) was ∙ sound.blocks ∙ sym (count_same w h now over);
  }

  pub is_written : IsWrittenOver h h' at new time
  is_written = record {
    dinode = dinode_is ∙ ap (λ (x : Dinode). dinode_after x end time) was;
    content = content_now;
    head = ap head_from dinode_is ∙ ap head_from was;
    sound = sound_still;
  }

pub written_over : (v : Seen) (a at : ℕ) (new : List ℕ) (time : ℕ) (d : Dinode) (before now : List ℕ) (h : Holding) → IsShown v a h → v.block_at a ≡ Some before → d ≡ dinode_in h
    → StaysStuffed v.size d (at + length new) → IsBlockWritten v.size d at new time before now
    → IsWrittenOver h (holding_over (seen_with v (insert empty a (Put (inode_lock a) false now))) h) at new time
written_over v a at new time d before now h shown there was stays block =
    is_written v (seen_with v (insert empty a (Put (inode_lock a) false now))) a at new time d before now h shown there was stays block (put_over_view v a h now shown)
