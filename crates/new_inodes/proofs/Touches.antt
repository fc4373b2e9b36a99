-- A dinode that was put with other times.
use Rattle.std.proofs.Common.{◌≡◌, ℕ, ◌≤◌, false, List, length, drop, Option, None, Some, Result, Ok, Err, OnOk, refl, sym, ap, ◌∙◌, subst}
use Rattle.std.specs.Prelude.{IsSome, option_map}
use Rattle.std.specs.FinMap.{insert}
use Rattle.drafts.specs.Fates.{Drafted, seen_in}
use Rattle.drafts.specs.declared.fate.Fate.TheVariants.{Put}
use Rattle.gfs2_layout.specs.Headers.{HasHeader}
use Rattle.gfs2_layout.specs.Holding.{Holding, Cell, cell_bytes}
use Rattle.gfs2_layout.specs.Inode.{Head, dinode_in, has_hash_flag}
use Rattle.gfs2_layout.specs.Structures.{header_fault, dinode_of, dinode_read, dinode_length, is_directory}
use Rattle.gfs2_layout.specs.Writing.{dinode_put}
use Rattle.gfs2_layout.specs.declared.dinode.Dinode.{Dinode}
use Rattle.gfs2_layout.specs.declared.fault.LayoutFault.{LayoutFault}
use Rattle.gfs2_layout.proofs.HeaderLaws.{answer_ok, header_from}
use Rattle.glock_names.specs.Views.{Seen}
use Rattle.dinode_tree.specs.Reading.{inode_lock}
use Rattle.dinode_tree.specs.Shown.{IsShown}
use Rattle.linear_dirs.specs.Shown.{IsLinearIn, bytes_over, holding_over}
use Rattle.linear_dirs.proofs.Looked.{bytes_of}
use Rattle.linear_dirs.proofs.Rewritten.{IsRewritten, rewritten, bytes_new, seen_at}
use Rattle.new_inodes.specs.Touched.{IsTouched, with_times}
use Rattle.new_inodes.proofs.Retimed.{IsRetimed, dinode_after, behind_after, content_after}
use Rattle.new_inodes.proofs.Rehashed.{records_after, sound_after}

-- a cell that is seen with the bytes that it has, or isn't seen, is as it was
over_kept : (o : Option (List ℕ)) (c : Option Cell) → ((bytes : List ℕ) → IsSome c → o ≡ Some bytes → cell_bytes c ≡ bytes) → option_map (bytes_over o) c ≡ c
over_kept o None same = refl
over_kept None (Some c) same = refl
over_kept (Some bytes) (Some c) same = ap (λ x. Some (record c { bytes = x })) (sym (same bytes refl refl))

abbrev head_from : Dinode → Head
head_from d = record { number = d.num.number; is_dir = is_directory d }

-- what was put over the block that was seen there
pub record IsPutOver {V : Type 0} (seen : V → Seen) (old new : Drafted V) (inode time : ℕ) (h : Holding) (before now : List ℕ) : Type 0 where
  pub shown : IsShown (seen_in seen old) inode h
  pub there : (seen_in seen old).block_at inode ≡ Some before
  pub large : 512 ≤ (seen old.view).size
  pub put : new ≡ record old { fates = insert old.fates inode (Put (inode_lock inode) false now) }
  pub written : now ≡ dinode_put (with_times (dinode_in h) time) before
  pub read : dinode_read now ≡ Ok (with_times (dinode_in h) time)
  pub behind : drop dinode_length now ≡ drop dinode_length before
  pub long : length now ≡ (seen old.view).size

module _ {V : Type 0} (seen : V → Seen) (old new : Drafted V) (inode time : ℕ) (h : Holding) (before now : List ℕ) (is : IsPutOver seen old new inode time h before now) where
  over : IsRewritten (seen_in seen new) h now
  over = rewritten seen old new inode h (inode_lock inode) now is.shown is.put

  read_is : (header_fault dinode_length 4 400 now ≡ None) × (dinode_of now ≡ with_times (dinode_in h) time)
  read_is = answer_ok (header_fault dinode_length 4 400 now) (dinode_of now) (with_times (dinode_in h) time) is.read

  retimed : IsRetimed h now time
  retimed = record {
    long = is.long ∙ sym is.shown.size;
    header = header_from dinode_length 4 400 now read_is.0;
    dinode = read_is.1;
    behind = is.behind ∙ ap (drop dinode_length) (sym (bytes_of (seen_in seen old) h inode before is.shown is.there));
  }

  large : 512 ≤ h.size
  large = subst (λ n. 512 ≤ n) (sym is.shown.size) is.large

  pub is_touched : IsTouched h (holding_over (seen_in seen new) h) time
  is_touched = record {
    dinode = dinode_after (seen_in seen new) h now over time retimed;
    head = ap head_from (dinode_after (seen_in seen new) h now over time retimed);
    header = subst (HasHeader 4 400) (sym (bytes_new (seen_in seen new) h now over)) retimed.header;
    written = bytes_new (seen_in seen new) h now over ∙ is.written ∙ ap (dinode_put (with_times (dinode_in h) time)) (sym (bytes_of (seen_in seen old) h inode before is.shown is.there));
    behind = behind_after (seen_in seen new) h now over time retimed;
    others = λ b other. over_kept ((seen_in seen new).block_at b) (h.cell b) (λ bytes there at. over.same b bytes other there at);
    sound = λ own sound. sound_after (seen_in seen new) h now over time retimed own large sound;
    content = λ own sound. content_after (seen_in seen new) h now over time retimed own sound.tree sound.fits large;
    records = λ own. records_after (seen_in seen new) h now over time retimed own;
  }

-- ---- a linear directory stays one

-- the dinode that was read is that of the block
pub dinode_before : (v : Seen) (inode : ℕ) (h : Holding) (d : Dinode) (before : List ℕ) → IsShown v inode h → v.block_at inode ≡ Some before → d ≡ dinode_in h → d ≡ dinode_of before
unfolding dinode_in
dinode_before v inode h d before shown there is = is ∙ ap dinode_of (bytes_of v h inode before shown there)

pub some_same : {A : Type 0} (x y : A) → Some x ≡ Some y → x ≡ y
some_same x y e = cc

pub linear_still : {V : Type 0} (seen : V → Seen) (old new : Drafted V) (inode time : ℕ) (d : Dinode) (before now : List ℕ) → IsLinearIn (seen_in seen old) inode → (seen_in seen old).block_at inode ≡ Some before
    → d ≡ dinode_of before → new ≡ record old { fates = insert old.fates inode (Put (inode_lock inode) false now) } → dinode_read now ≡ Ok (with_times d time) → IsLinearIn (seen_in seen new) inode
linear_still {V} seen old new inode time d before now linear there d_is put read bytes at =
    let was = linear before there in
    let same : bytes ≡ now = some_same bytes now (sym at ∙ ap (λ (x : Drafted V). (seen_in seen x).block_at inode) put ∙ seen_at (seen old.view) old.fates inode (inode_lock inode) now) in
    let is : dinode_of bytes ≡ with_times d time = ap dinode_of same ∙ (answer_ok (header_fault dinode_length 4 400 now) (dinode_of now) (with_times d time) read).1 in
    (ap is_directory is ∙ ap is_directory d_is ∙ was.0, ap has_hash_flag is ∙ ap has_hash_flag d_is ∙ was.1)

-- a dinode that was read of a block is what the block says
pub read_is_of : (before : List ℕ) (d : Dinode) (r : Result Dinode LayoutFault) → r ≡ dinode_read before → r ≡ Ok d → d ≡ dinode_of before
read_is_of before d r is read = sym (answer_ok (header_fault dinode_length 4 400 before) (dinode_of before) d (sym is ∙ read)).1

pub of_block : (v : Seen) (inode : ℕ) (h : Holding) (before : List ℕ) → IsShown v inode h → v.block_at inode ≡ Some before → dinode_of before ≡ dinode_in h
unfolding dinode_in
of_block v inode h before shown there = ap dinode_of (sym (bytes_of v h inode before shown there))

-- where a dinode with a time was put, the inode is touched
pub stamped_so : {V A E : Type 0} (seen : V → Seen) (old new : Drafted V) (inode time : ℕ) (h : Holding) (before : List ℕ) (d : Dinode) (result : Result A E) → IsShown (seen_in seen old) inode h
    → (seen_in seen old).block_at inode ≡ Some before → 512 ≤ (seen old.view).size → d ≡ dinode_in h
    → OnOk result (new ≡ record old { fates = insert old.fates inode (Put (inode_lock inode) false (dinode_put (with_times d time) before)) })
    → OnOk result (dinode_read (dinode_put (with_times d time) before) ≡ Ok (with_times d time)) → OnOk result (drop dinode_length (dinode_put (with_times d time) before) ≡ drop dinode_length before)
    → OnOk result (length (dinode_put (with_times d time) before) ≡ (seen old.view).size) → OnOk result (IsTouched h (holding_over (seen_in seen new) h) time)
stamped_so seen old new inode time h before d (Ok done) shown there large is put read behind long = is_touched seen old new inode time h before (dinode_put (with_times d time) before) (record {
  shown = shown;
  there = there;
  large = large;
  put = put;
  written = ap (λ x. dinode_put (with_times x time) before) is;
  read = read ∙ ap (λ x. Ok (with_times x time)) is;
  behind = behind;
  long = long;
})
stamped_so seen old new inode time h before d (Err fault) shown there large is put read behind long = tt
