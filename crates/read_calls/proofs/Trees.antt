-- What the tree answers where a walk along the call's path ended.
use Rattle.std.proofs.Common.{◌≡◌, ◌+◌, ℕ, true, false, List, [], length, Result, Ok, Err, IfOk, refl, sym, ap, ◌∙◌, arith}
use Rattle.file_tree.specs.Tree.{Tree, file, dir, count_in}
use Rattle.file_tree.specs.Apply.{Walked, Found, Refused, apply, walk, read_reply, stat_reply, list_reply}
use Rattle.file_tree.specs.declared.call.Call.{Call}
use Rattle.file_tree.specs.declared.call.Call.TheVariants as call
use Rattle.file_tree.specs.declared.reply.Kind.TheVariants.{File, Dir}
use Rattle.file_tree.specs.declared.reply.Reply.{Reply}
use Rattle.file_tree.specs.declared.reply.Reply.TheVariants as reply
use Rattle.gfs2_layout.specs.Holding.{Holding}
use Rattle.gfs2_layout.specs.Inode.{dinode_in, is_directory_in, content_of}
use Rattle.glock_names.specs.Views.{Seen}
use Rattle.call_locks.specs.Wants.{wanted}
use Rattle.call_locks.specs.WantLaws.{path_of}
use Rattle.dinode_tree.specs.Reading.{AreWholeBefore, IsInRange}
use Rattle.dinode_tree.proofs.Sound.{sound_is_whole}
use Rattle.image_model.specs.Flat.{Path, AFile, ADir, Thing, thing_in}
use Rattle.image_model.specs.Image.{Image}
use Rattle.image_model.specs.Owners.{Owners, holding}
use Rattle.image_model.specs.Stands.{Layout}
use Rattle.image_model.proofs.Held.{some_same}
use Rattle.image_model.proofs.Lengths.{length_content, size_large}
use Rattle.image_changes.specs.Does.{IsOf}
use Rattle.image_changes.specs.Instances.{IsAt}
use Rattle.image_changes.specs.Walks.{ListsNames}
use Rattle.image_changes.proofs.DirectoryNames.{directories_list}
use Rattle.image_changes.proofs.Nodes.{file_thing}
use Rattle.image_changes.proofs.Walks.{walks_find}
use Rattle.path_walks.specs.Holds.{Hold, AreHeld, EndsWith, holds_in}
use Rattle.path_walks.specs.Walks.{IsWrongAt, IsDamage, on_path, LeadsTo, at_root, by_name, the_root, the_child}
use Rattle.call_locks.specs.declared.want.Want.{Want}
use Rattle.path_walks.proofs.Images.{is_inode, is_shown, is_sound, shown_directory, shown_inode, sound_directory}
use Rattle.read_calls.specs.Reading.{IsReading, IsRangeOf, IsStatOf, IsListOf, IsAnswerOf, IsFoundBy, IsFound, IsAsked, IsAskedCount, IsAskedRecords, IsAnswered, IsNeededFor, IsShownFor, IsToldOf}
use Rattle.read_calls.specs.declared.answers.Read.{Read}
use Rattle.read_calls.specs.declared.answers.Read.TheVariants as read
use Rattle.path_walks.proofs.Asked.{asked, at_end, names_asked}
use Rattle.image_model.proofs.Rows.{and_left}

-- a walk that is refused
pub refused : (c : Call) (t : Tree) (r : Reply) → IsReading c → walk t (path_of c false) ≡ Refused r → (apply c t).reply ≡ r
refused (call.Read p at count) t r is ends = ap (λ w. read_reply w at count) ends
refused (call.Dread p at count) t r is ends = ap (λ w. read_reply w at count) ends
refused (call.Stat p) t r is ends = ap stat_reply ends
refused (call.List p) t r is ends = ap list_reply ends
refused (call.Create p) t r is ends = absurd is
refused (call.Mkdir p) t r is ends = absurd is
refused (call.Unlink p) t r is ends = absurd is
refused (call.Rmdir p) t r is ends = absurd is
refused (call.Write p at new) t r is ends = absurd is
refused (call.Truncate p size) t r is ends = absurd is
refused (call.Rename p q) t r is ends = absurd is
refused call.Sync t r is ends = absurd is

abbrev bytes_in : Thing → List ℕ
bytes_in (AFile bytes) = bytes
bytes_in ADir = []

file_in : (w : Walked) (u : Tree) (bytes : List ℕ) → w ≡ Found u → thing_in u ≡ AFile bytes → w ≡ Found (file bytes)
file_in w (file old) bytes found thing = found ∙ ap (λ b. Found (file b)) (ap bytes_in thing)
file_in w (dir es) bytes found thing = absurd (other thing)
  where
    other : ADir ≡ AFile bytes → ⊥
    other e = cc

module _ (v : Seen) (im : Image) (o : Owners) (l : Layout) (t : Tree) (of : IsOf v im o l t) (path : Path) (a : ℕ) (at : IsAt im o l path a) where
  -- a file stands at the path, with the inode's bytes
  file_there : is_directory_in (holding im o a) ≡ false → walk t path ≡ Found (file (content_of (holding im o a)))
  file_there plain =
      let found = walks_find im o l t path a of.stands at in
      file_in (walk t path) found.tree (content_of (holding im o a)) found.walks (some_same (sym (found.reads.same [])) ∙ file_thing im o a (is_inode v im o l t of path a at) plain)

  file_size : length (content_of (holding im o a)) ≡ (dinode_in (holding im o a)).size
  file_size = length_content im o (size_large im.size of.stands.laid.image.block_size) a (is_inode v im o l t of path a at) (is_sound v im o l t of path a at)

  whole_before : (from : ℕ) → AreWholeBefore (holding im o a) from
  whole_before from = sound_is_whole (holding im o a) from of.stands.laid.image.block_size (is_sound v im o l t of path a at)

  listed : is_directory_in (holding im o a) ≡ true → ListsNames im o t path a
  listed is = directories_list im o l t path a of.stands at is

  range_found : (list : List Hold) → EndsWith list a → AreHeld v list → (from count : ℕ) (r : Read) → IsRangeOf v (holding im o a) from count r
      → IsFoundBy v im o l (read_reply (walk t path) from count) list r
  range_found list ends held from count (read.Reply reply.IsDir) is = (ap (λ w. read_reply w from count) (listed is).walks, held)
  range_found list ends held from count (read.Reply (reply.Bytes bytes)) is = (ap (λ w. read_reply w from count) (file_there is.0) ∙ ap reply.Bytes (sym (is.2 (whole_before from))), held)
  range_found list ends held from count (read.NeedBlock m) is = asked v im o l t of path a at list ends held (IsInRange (holding im o a) from count) 0 m is.1
  range_found list ends held from count (read.NeedLock lock state) is = absurd is
  range_found list ends held from count (read.Reply reply.Ok) is = absurd is
  range_found list ends held from count (read.Reply (reply.Stat kind size)) is = absurd is
  range_found list ends held from count (read.Reply (reply.Names names)) is = absurd is
  range_found list ends held from count (read.Reply reply.NotFound) is = absurd is
  range_found list ends held from count (read.Reply reply.NotDir) is = absurd is
  range_found list ends held from count (read.Reply reply.Exists) is = absurd is
  range_found list ends held from count (read.Reply reply.NotEmpty) is = absurd is
  range_found list ends held from count (read.Reply reply.Inside) is = absurd is
  range_found list ends held from count (read.Reply reply.TooBig) is = absurd is
  range_found list ends held from count (read.Reply reply.NoSpace) is = absurd is

  stat_found : (list : List Hold) → EndsWith list a → AreHeld v list → (r : Read) → IsStatOf (holding im o a) r → IsAskedCount v a r → IsFoundBy v im o l (stat_reply (walk t path)) list r
  stat_found list ends held (read.Reply (reply.Stat File size)) is asks = (ap stat_reply (file_there is.0) ∙ ap (reply.Stat File) (file_size ∙ sym is.1), held)
  stat_found list ends held (read.Reply (reply.Stat Dir count)) is asks =
      let names = listed is.0 in
      let counted : count_in names.entries ≡ count = omega (arith, names.counted, is.1) in
      (ap stat_reply names.walks ∙ ap (reply.Stat Dir) counted, held)
  stat_found list ends held (read.NeedBlock m) is asks =
      names_asked v im o l t of path a at list (at_end v list a ends held) (and_left (is_directory_in (holding im o a)) _ is.0) m (asks.1 (holding im o a) (shown_inode v im o l t of path a at)).2
  stat_found list ends held (read.NeedLock lock state) is asks = absurd is
  stat_found list ends held (read.Reply reply.IsDir) is asks = absurd is
  stat_found list ends held (read.Reply (reply.Bytes bytes)) is asks = absurd is
  stat_found list ends held (read.Reply reply.Ok) is asks = absurd is
  stat_found list ends held (read.Reply (reply.Names names)) is asks = absurd is
  stat_found list ends held (read.Reply reply.NotFound) is asks = absurd is
  stat_found list ends held (read.Reply reply.NotDir) is asks = absurd is
  stat_found list ends held (read.Reply reply.Exists) is asks = absurd is
  stat_found list ends held (read.Reply reply.NotEmpty) is asks = absurd is
  stat_found list ends held (read.Reply reply.Inside) is asks = absurd is
  stat_found list ends held (read.Reply reply.TooBig) is asks = absurd is
  stat_found list ends held (read.Reply reply.NoSpace) is asks = absurd is

  list_found : (list : List Hold) → EndsWith list a → AreHeld v list → (r : Read) → IsListOf (holding im o a) r → IsAskedRecords v a r → IsFoundBy v im o l (list_reply (walk t path)) list r
  list_found list ends held (read.Reply reply.NotDir) is asks = (ap list_reply (file_there is), held)
  list_found list ends held (read.Reply (reply.Names names)) is asks =
      let all = listed is.0 in
      let listed_are = is.1.1.in_sound (sound_directory v im o l t of path a at is.0) in
      (ap list_reply all.walks ∙ ap reply.Names (sym (is.1.2 ∙ all.names is.1.0 listed_are)), held)
  list_found list ends held (read.NeedBlock m) is asks =
      names_asked v im o l t of path a at list (at_end v list a ends held) is m (asks.1 (holding im o a) (shown_directory v im o l t of path a at is))
  list_found list ends held (read.NeedLock lock state) is asks = absurd is
  list_found list ends held (read.Reply reply.IsDir) is asks = absurd is
  list_found list ends held (read.Reply (reply.Bytes bytes)) is asks = absurd is
  list_found list ends held (read.Reply reply.Ok) is asks = absurd is
  list_found list ends held (read.Reply (reply.Stat kind size)) is asks = absurd is
  list_found list ends held (read.Reply reply.NotFound) is asks = absurd is
  list_found list ends held (read.Reply reply.Exists) is asks = absurd is
  list_found list ends held (read.Reply reply.NotEmpty) is asks = absurd is
  list_found list ends held (read.Reply reply.Inside) is asks = absurd is
  list_found list ends held (read.Reply reply.TooBig) is asks = absurd is
  list_found list ends held (read.Reply reply.NoSpace) is asks = absurd is

-- the answer at the path's end is what is found
pub answer_found : (v : Seen) (im : Image) (o : Owners) (l : Layout) (t : Tree) → IsOf v im o l t → (c : Call) (a : ℕ) → IsAt im o l (path_of c false) a
    → EndsWith (holds_in im o l (path_of c false) (wanted c)) a → AreHeld v (holds_in im o l (path_of c false) (wanted c)) → (r : Read) → IsAnswerOf v (holding im o a) c r → IsAsked v a c r → IsFound v im o l t c r
answer_found v im o l t of (call.Read p from count) a at ends held r is asks = range_found v im o l t of p a at (holds_in im o l p (wanted (call.Read p from count))) ends held from count r is
answer_found v im o l t of (call.Dread p from count) a at ends held r is asks = range_found v im o l t of p a at (holds_in im o l p (wanted (call.Dread p from count))) ends held from count r is
answer_found v im o l t of (call.List p) a at ends held r is asks = list_found v im o l t of p a at (holds_in im o l p (wanted (call.List p))) ends held r is asks
answer_found v im o l t of (call.Stat p) a at ends held r is asks = stat_found v im o l t of p a at (holds_in im o l p (wanted (call.Stat p))) ends held r is asks
answer_found v im o l t of (call.Create p) a at ends held r is asks = absurd is
answer_found v im o l t of (call.Mkdir p) a at ends held r is asks = absurd is
answer_found v im o l t of (call.Unlink p) a at ends held r is asks = absurd is
answer_found v im o l t of (call.Rmdir p) a at ends held r is asks = absurd is
answer_found v im o l t of (call.Write p from new) a at ends held r is asks = absurd is
answer_found v im o l t of (call.Truncate p size) a at ends held r is asks = absurd is
answer_found v im o l t of (call.Rename p q) a at ends held r is asks = absurd is
answer_found v im o l t of call.Sync a at ends held r is asks = absurd is

-- what follows of an answer
pub ok_so : {A E : Type 0} (P Q : A → Type 0) → ((x : A) → P x → Q x) → (r : Result A E) → IfOk r P → IfOk r Q
ok_so P Q so (Ok x) holds = so x holds
ok_so P Q so (Err f) holds = tt

pub ok_both : {A E : Type 0} (P Q R : A → Type 0) → ((x : A) → P x → Q x → R x) → (r : Result A E) → IfOk r P → IfOk r Q → IfOk r R
ok_both P Q R so (Ok x) p q = so x p q
ok_both P Q R so (Err f) p q = tt

-- what is wrong with an inode to which the path leads is damage on it
pub wrong_damage : (v : Seen) (wants : List Want) (path : Path) (a : ℕ) → LeadsTo v wants path a → (rule b : ℕ) → IsWrongAt v a rule b → IsDamage v wants path rule b
wrong_damage v wants [] a (at_root held) rule b wrong = on_path 0 a rule b the_root held wrong
wrong_damage v wants path a (by_name front above b' name leads is_name named inside held) rule b wrong =
    on_path (length front + 1) a rule b (the_child front [] above a name refl leads is_name named inside) held wrong

-- what the inode at the path's end answers is told of the view
pub told_at : (v : Seen) (c : Call) (a : ℕ) → LeadsTo v (wanted c) (path_of c false) a → (r : Read) → IsAsked v a c r
    → ((h : Holding) → IsShownFor v a c h → IsAnswerOf v h c r) → IsToldOf v c r
told_at v c a leads (read.Reply r) asked answers = IsAnswered.at_end a r leads answers
told_at v c a leads (read.NeedBlock m) asked answers = IsNeededFor.at_end a leads asked
told_at v (call.Read p from count) a leads (read.NeedLock lock state) asked answers = absurd asked
told_at v (call.List p) a leads (read.NeedLock lock state) asked answers = absurd asked
told_at v (call.Stat p) a leads (read.NeedLock lock state) asked answers = absurd asked
told_at v (call.Create p) a leads (read.NeedLock lock state) asked answers = absurd asked
told_at v (call.Mkdir p) a leads (read.NeedLock lock state) asked answers = absurd asked
told_at v (call.Unlink p) a leads (read.NeedLock lock state) asked answers = absurd asked
told_at v (call.Rmdir p) a leads (read.NeedLock lock state) asked answers = absurd asked
told_at v (call.Dread p from count) a leads (read.NeedLock lock state) asked answers = absurd asked
told_at v (call.Write p from new) a leads (read.NeedLock lock state) asked answers = absurd asked
told_at v (call.Truncate p size) a leads (read.NeedLock lock state) asked answers = absurd asked
told_at v (call.Rename p q) a leads (read.NeedLock lock state) asked answers = absurd asked
told_at v call.Sync a leads (read.NeedLock lock state) asked answers = absurd asked

pub all_told : (v : Seen) (c : Call) (a : ℕ) {E : Type 0} (r : Result Read E) → LeadsTo v (wanted c) (path_of c false) a → IfOk r (IsAsked v a c)
    → ((h : Holding) → IsShownFor v a c h → IfOk r (IsAnswerOf v h c)) → IfOk r (IsToldOf v c)
all_told v c a (Ok x) leads asked answers = told_at v c a leads x asked answers
all_told v c a (Err f) leads asked answers = tt

-- the inode of an image is shown for each call
pub image_shown : (v : Seen) (im : Image) (o : Owners) (l : Layout) (t : Tree) → IsOf v im o l t → (path : Path) (a : ℕ) → IsAt im o l path a → (c : Call) → IsShownFor v a c (holding im o a)
image_shown v im o l t of path a at (call.List p) = shown_inode v im o l t of path a at
image_shown v im o l t of path a at (call.Read p from count) = is_shown v im o l t of path a at
image_shown v im o l t of path a at (call.Dread p from count) = is_shown v im o l t of path a at
image_shown v im o l t of path a at (call.Stat p) = is_shown v im o l t of path a at
image_shown v im o l t of path a at (call.Create p) = is_shown v im o l t of path a at
image_shown v im o l t of path a at (call.Mkdir p) = is_shown v im o l t of path a at
image_shown v im o l t of path a at (call.Unlink p) = is_shown v im o l t of path a at
image_shown v im o l t of path a at (call.Rmdir p) = is_shown v im o l t of path a at
image_shown v im o l t of path a at (call.Write p from new) = is_shown v im o l t of path a at
image_shown v im o l t of path a at (call.Truncate p size) = is_shown v im o l t of path a at
image_shown v im o l t of path a at (call.Rename p q) = is_shown v im o l t of path a at
image_shown v im o l t of path a at call.Sync = is_shown v im o l t of path a at
