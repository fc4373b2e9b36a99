-- The draft of a write does what the call should.
use Rattle.std.proofs.Common.{◌≡◌, ◌≢◌, ◌+◌, ◌<◌, ◌≤◌, inl, inr, ℕ, Bool, true, false, true≢false, List, [], ◌∷◌, length, slice_get, None, Some, refl, sym, ap, ◌∙◌, subst, arith}
use Rattle.std.proofs.lemmas.Bool.{cases_eq, cases_lt, cond-true, cond-false, le-ltb, lt-ltb}
use Rattle.std.proofs.lemmas.List.{length-append}
use Rattle.std.specs.Prelude.{IsSome, is_some, nat_lt}
use Rattle.std.specs.Ordering.{nat_cmp}
use Rattle.std.specs.FinMap.{FinMap, get, empty, insert}
use Rattle.file_tree.specs.Apply.{Answer, Found, Refused, Walked, apply, file_limit, overwritten, resized, put_at, refuse, truncate_at, walk, write_at}
use Rattle.file_tree.specs.Tree.{Entries, Tree, file, dir}
use Rattle.file_tree.specs.declared.call.Call.{Call}
use Rattle.file_tree.specs.declared.call.Call.TheVariants as calls
use Rattle.file_tree.specs.declared.reply.Reply.{Reply}
use Rattle.file_tree.specs.declared.reply.Reply.TheVariants as replies
use Rattle.file_tree.specs.declared.reply.Reply.TheVariants.{Ok as OkReply}
use Rattle.cluster_history.specs.Changes.{Changes}
use Rattle.drafts.specs.Fates.{AreWhole, block_with}
use Rattle.drafts.specs.declared.change.Change.{Change}
use Rattle.drafts.specs.declared.fate.Fate.{Fate}
use Rattle.drafts.specs.declared.fate.Fate.TheVariants.{Put, Freed}
use Rattle.gfs2_layout.specs.Holding.{Holding, part_at}
use Rattle.gfs2_layout.specs.Inode.{IsInode, dinode_in, is_directory_in, content_of}
use Rattle.gfs2_layout.specs.Structures.{is_regular}
use Rattle.gfs2_layout.specs.declared.dinode.Dinode.{Dinode}
use Rattle.glock_names.specs.Views.{Seen}
use Rattle.glock_names.specs.declared.LockName.{LockName}
use Rattle.glock_names.specs.declared.State.TheVariants.{Ex}
use Rattle.call_locks.specs.Wants.{want, shared_above, way_to, wanted}
use Rattle.call_locks.specs.WantLaws.{path_of}
use Rattle.dinode_tree.specs.Reading.{inode_lock}
use Rattle.image_model.specs.Flat.{Path, Thing, AFile, ADir, thing_in}
use Rattle.image_model.specs.Image.{Image}
use Rattle.image_model.specs.Owners.{Owners, holding}
use Rattle.image_model.specs.Stands.{Layout}
use Rattle.image_model.proofs.Held.{none_some, some_same, own_part}
use Rattle.image_model.proofs.Lengths.{length_content, size_large}
use Rattle.image_changes.specs.Does.{IsOf, Does}
use Rattle.image_changes.specs.Drafted.{is_put, with_draft}
use Rattle.image_changes.specs.Instances.{IsAt}
use Rattle.image_changes.proofs.Drafting.{drafts_do}
use Rattle.image_changes.proofs.Nodes.{file_thing}
use Rattle.image_changes.proofs.Walks.{walks_find}
use Rattle.draft_changes.specs.Rewriting.{RewritesFile, is_content_part}
use Rattle.draft_changes.proofs.Rewritten.{rewriting_makes}
use Rattle.draft_changes.proofs.Views.{shows_inodes}
use Rattle.path_walks.specs.Walks.{LeadsTo}
use Rattle.path_walks.proofs.Images.{is_inode, is_shown, is_sound}
use Rattle.path_walks.proofs.Wants.{at_end, exclusive, leads_held, way_from}
use Rattle.writing_calls.specs.Contents.{IsWrittenOver, size_after}
use Rattle.writing_calls.specs.Drafting.{IsWrite}
use Rattle.writing_calls.specs.Writing.{IsEdit, Puts, Writes, by_growth, by_write, content_after, end_of}
use Rattle.writing_calls.proofs.Written.{put_alone, put_there}

-- ---- the call's wants, and its file's lock

pub wants_are : (c : Call) → IsEdit c → wanted c ≡ way_to false (length (path_of c false)) Ex
wants_are (calls.Write path at new) is = refl
wants_are (calls.Truncate path size) is = refl
wants_are (calls.Create path) is = absurd is
wants_are (calls.Mkdir path) is = absurd is
wants_are (calls.Unlink path) is = absurd is
wants_are (calls.Rmdir path) is = absurd is
wants_are (calls.Read path at count) is = absurd is
wants_are (calls.Dread path at count) is = absurd is
wants_are (calls.Stat path) is = absurd is
wants_are (calls.List path) is = absurd is
wants_are (calls.Rename path to) is = absurd is
wants_are calls.Sync is = absurd is

last_want : (n : ℕ) → slice_get (way_to false n Ex) n ≡ Some (want false n Ex)
last_want n = at_end (shared_above false n) (want false n Ex) n (omega (arith, (way_from n).1, length-append (shared_above false n) (want false n Ex ∷ [])))

pub inode_held : (v : Seen) (c : Call) (a : ℕ) → IsEdit c → LeadsTo v (wanted c) (path_of c false) a → v.state_of (inode_lock a) ≡ Ex
inode_held v c a is leads =
    let n = length (path_of c false) in
    exclusive (v.state_of (inode_lock a)) (leads_held v (wanted c) (path_of c false) a leads (want false n Ex) (ap (λ ws. slice_get ws n) (wants_are c is) ∙ last_want n))

pub changes : (c : Call) → IsEdit c → Changes (record { call = c; reply = OkReply }) ≡ true
changes (calls.Write path at new) is = refl
changes (calls.Truncate path size) is = refl
changes (calls.Create path) is = absurd is
changes (calls.Mkdir path) is = absurd is
changes (calls.Unlink path) is = absurd is
changes (calls.Rmdir path) is = absurd is
changes (calls.Read path at count) is = absurd is
changes (calls.Dread path at count) is = absurd is
changes (calls.Stat path) is = absurd is
changes (calls.List path) is = absurd is
changes (calls.Rename path to) is = absurd is
changes calls.Sync is = absurd is

pub writes_edit : (c : Call) (at : ℕ) (new : List ℕ) → Writes c at new → IsEdit c
writes_edit c at new writes = subst IsEdit (sym writes) tt

pub puts_edit : (c : Call) (size at : ℕ) (new : List ℕ) → Puts c size at new → IsEdit c
puts_edit c size at new (by_write x bytes writes) = writes_edit c x bytes writes
puts_edit c size at new (by_growth end is longer) = subst IsEdit (sym is) tt

-- ---- the tree takes the call

abbrev bytes_in : Thing → List ℕ
bytes_in (AFile bytes) = bytes
bytes_in ADir = []

file_in : (w : Walked) (u : Tree) (bytes : List ℕ) → w ≡ Found u → thing_in u ≡ AFile bytes → w ≡ Found (file bytes)
file_in w (file old) bytes found thing = found ∙ ap (λ b. Found (file b)) (ap bytes_in thing)
file_in w (dir es) bytes found thing = absurd (other thing)
  where
    other : ADir ≡ AFile bytes → ⊥
    other e = cc

-- a file stands at the path, with the inode's bytes
pub file_there : (v : Seen) (im : Image) (o : Owners) (l : Layout) (t : Tree) → IsOf v im o l t → (path : Path) (a : ℕ) → IsAt im o l path a → is_directory_in (holding im o a) ≡ false
    → walk t path ≡ Found (file (content_of (holding im o a)))
file_there v im o l t of path a at plain =
    let found = walks_find im o l t path a of.stands at in
    file_in (walk t path) found.tree (content_of (holding im o a)) found.walks (some_same (sym (found.reads.same [])) ∙ file_thing im o a (is_inode v im o l t of path a at) plain)

-- whose content is as long as its size says
pub long_content : (v : Seen) (im : Image) (o : Owners) (l : Layout) (t : Tree) → IsOf v im o l t → (path : Path) (a : ℕ) → IsAt im o l path a → length (content_of (holding im o a)) ≡ (dinode_in (holding im o a)).size
long_content v im o l t of path a at = length_content im o (size_large im.size of.stands.laid.image.block_size) a (is_inode v im o l t of path a at) (is_sound v im o l t of path a at)

-- such a call, which makes the file no longer than it may be
pub call_taken : (c : Call) (t : Tree) (bytes : List ℕ) → IsEdit c → end_of c ≤ file_limit → walk t (path_of c false) ≡ Found (file bytes)
    → apply c t ≡ record { reply = OkReply; tree = put_at (path_of c false) (file (content_after c bytes)) t }
call_taken (calls.Write path at new) t bytes is short walks =
    ap (λ w. write_at w t path at new) walks
    ∙ cond-false (nat_lt file_limit (at + length new)) (refuse _ t) (record { reply = OkReply; tree = put_at path (file (overwritten at new bytes)) t }) (le-ltb file_limit (at + length new) short)
call_taken (calls.Truncate path size) t bytes is short walks =
    ap (λ w. truncate_at w t path size) walks
    ∙ cond-false (nat_lt file_limit size) (refuse _ t) (record { reply = OkReply; tree = put_at path (file (resized size bytes)) t }) (le-ltb file_limit size short)
call_taken (calls.Create path) t bytes is short walks = absurd is
call_taken (calls.Mkdir path) t bytes is short walks = absurd is
call_taken (calls.Unlink path) t bytes is short walks = absurd is
call_taken (calls.Rmdir path) t bytes is short walks = absurd is
call_taken (calls.Read path at count) t bytes is short walks = absurd is
call_taken (calls.Dread path at count) t bytes is short walks = absurd is
call_taken (calls.Stat path) t bytes is short walks = absurd is
call_taken (calls.List path) t bytes is short walks = absurd is
call_taken (calls.Rename path to) t bytes is short walks = absurd is
call_taken calls.Sync t bytes is short walks = absurd is

-- of a directory none is taken, nor one that makes the file too long
pub edit_of_directory : (c : Call) (t : Tree) (es : Entries) → IsEdit c → walk t (path_of c false) ≡ Found (dir es) → (apply c t).reply ≡ replies.IsDir
edit_of_directory (calls.Write path at new) t es is walks = ap (λ w. (write_at w t path at new).reply) walks
edit_of_directory (calls.Truncate path size) t es is walks = ap (λ w. (truncate_at w t path size).reply) walks
edit_of_directory (calls.Create path) t es is walks = absurd is
edit_of_directory (calls.Mkdir path) t es is walks = absurd is
edit_of_directory (calls.Unlink path) t es is walks = absurd is
edit_of_directory (calls.Rmdir path) t es is walks = absurd is
edit_of_directory (calls.Read path at count) t es is walks = absurd is
edit_of_directory (calls.Dread path at count) t es is walks = absurd is
edit_of_directory (calls.Stat path) t es is walks = absurd is
edit_of_directory (calls.List path) t es is walks = absurd is
edit_of_directory (calls.Rename path to) t es is walks = absurd is
edit_of_directory calls.Sync t es is walks = absurd is

pub too_long : (c : Call) (t : Tree) (bytes : List ℕ) → IsEdit c → file_limit < end_of c → walk t (path_of c false) ≡ Found (file bytes) → (apply c t).reply ≡ replies.TooBig
too_long (calls.Write path at new) t bytes is long walks =
    ap (λ w. (write_at w t path at new).reply) walks
    ∙ ap (λ (a : Answer). a.reply) (cond-true (nat_lt file_limit (at + length new)) (refuse replies.TooBig t) (record { reply = OkReply; tree = put_at path (file (overwritten at new bytes)) t }) (lt-ltb file_limit (at + length new) long))
too_long (calls.Truncate path size) t bytes is long walks =
    ap (λ w. (truncate_at w t path size).reply) walks
    ∙ ap (λ (a : Answer). a.reply) (cond-true (nat_lt file_limit size) (refuse replies.TooBig t) (record { reply = OkReply; tree = put_at path (file (resized size bytes)) t }) (lt-ltb file_limit size long))
too_long (calls.Create path) t bytes is long walks = absurd is
too_long (calls.Mkdir path) t bytes is long walks = absurd is
too_long (calls.Unlink path) t bytes is long walks = absurd is
too_long (calls.Rmdir path) t bytes is long walks = absurd is
too_long (calls.Read path at count) t bytes is long walks = absurd is
too_long (calls.Dread path at count) t bytes is long walks = absurd is
too_long (calls.Stat path) t bytes is long walks = absurd is
too_long (calls.List path) t bytes is long walks = absurd is
too_long (calls.Rename path to) t bytes is long walks = absurd is
too_long calls.Sync t bytes is long walks = absurd is

-- what a walk refuses the call refuses
pub refused : (c : Call) (t : Tree) (r : Reply) → IsEdit c → walk t (path_of c false) ≡ Refused r → (apply c t).reply ≡ r
refused (calls.Write path at new) t r is walks = ap (λ w. (write_at w t path at new).reply) walks
refused (calls.Truncate path size) t r is walks = ap (λ w. (truncate_at w t path size).reply) walks
refused (calls.Create path) t r is walks = absurd is
refused (calls.Mkdir path) t r is walks = absurd is
refused (calls.Unlink path) t r is walks = absurd is
refused (calls.Rmdir path) t r is walks = absurd is
refused (calls.Read path at count) t r is walks = absurd is
refused (calls.Dread path at count) t r is walks = absurd is
refused (calls.Stat path) t r is walks = absurd is
refused (calls.List path) t r is walks = absurd is
refused (calls.Rename path to) t r is walks = absurd is
refused calls.Sync t r is walks = absurd is

-- ---- what the draft shows

short_after : (size end most : ℕ) → size ≤ most → end ≤ most → size_after size end ≤ most
short_after size end most was now = elim (cases_lt size end) [
  | inl beyond ↦ subst (λ n. n ≤ most) (sym (cond-true (nat_lt size end) end size (lt-ltb size end beyond))) now
  | inr inside ↦ subst (λ n. n ≤ most) (sym (cond-false (nat_lt size end) end size (le-ltb size end inside))) was
]

module _ (v : Seen) (a at : ℕ) (new : List ℕ) (time : ℕ) (change : Change) (w : IsWrite v a at new time change) where
  -- the block that is put is the dinode's, under the inode's lock
  the_put : (b : ℕ) (lock : LockName) (plain : Bool) (bytes : List ℕ) → get w.fates b ≡ Some (Put lock plain bytes) → (b ≡ a) × (lock ≡ inode_lock a) × (plain ≡ false)
  the_put b lock plain bytes e = elim (cases_eq b a) [
    | inl same ↦ let p = parts (some_same (sym (put_there a one) ∙ ap (get {R = nat_cmp} (insert empty a one)) (sym same) ∙ found)) in (same, p.0, p.1)
    | inr other ↦ absurd (none_some (sym (put_alone a b one other) ∙ found))
  ]
    where
      one : Fate
      one = Put (inode_lock a) false w.puts.bytes

      found : get {R = nat_cmp} (insert empty a one) b ≡ Some (Put lock plain bytes)
      found = ap (λ (m : FinMap nat_cmp Fate). get m b) (sym w.puts.put) ∙ e

      parts : one ≡ Put lock plain bytes → (lock ≡ inode_lock a) × (plain ≡ false)
      parts e = (cc, cc)

  none_freed : (b : ℕ) → get w.fates b ≢ Some Freed
  none_freed b e = elim (cases_eq b a) [
    | inl same ↦ differ (some_same (sym (put_there a one) ∙ ap (get {R = nat_cmp} (insert empty a one)) (sym same) ∙ found))
    | inr other ↦ absurd (none_some (sym (put_alone a b one other) ∙ found))
  ]
    where
      one : Fate
      one = Put (inode_lock a) false w.puts.bytes

      found : get {R = nat_cmp} (insert empty a one) b ≡ Some Freed
      found = ap (λ (m : FinMap nat_cmp Fate). get m b) (sym w.puts.put) ∙ e

      differ : one ≡ Freed → ⊥
      differ e = cc

  some_put : is_put w.fates a ≡ true
  some_put = ap (λ (m : FinMap nat_cmp Fate). is_some (block_with (get m a) None)) w.puts.put ∙ ap (λ f. is_some (block_with f None)) (put_there a (Put (inode_lock a) false w.puts.bytes))

  -- ---- in one image that the view may be of

  module _ (im : Image) (o : Owners) (l : Layout) (t : Tree) (of : IsOf v im o l t) (path : Path) (here : IsAt im o l path a) (plain : is_directory_in (holding im o a) ≡ false)
      (short : at + length new ≤ file_limit) where
    abbrev h : Holding
    h = holding im o a

    abbrev h' : Holding
    h' = holding (with_draft im w.fates) o a

    sound : IsInode h
    sound = is_sound v im o l t of path a here

    written : IsWrittenOver h h' at new time
    written = subst (λ x. IsWrittenOver h x at new time) (shows_inodes v w.fates im o a of.agrees) (w.written h (is_shown v im o l t of path a here))

    regular : is_regular (dinode_in h) ≡ true
    regular = elim sound.mode [
      | inl directory ↦ absurd (true≢false (sym directory ∙ plain))
      | inr so ↦ so
    ]

    pub rewrites : RewritesFile im o w.fates a
    rewrites = record {
      whole = subst (λ n. AreWhole n w.fates) (sym of.size) w.whole;
      is_file = plain;
      rewritten = record {
        sound = written.sound sound;
        head = written.head;
        short = subst (λ n. n ≤ file_limit) (ap (λ (d : Dinode). d.size) (sym written.dinode))
            (short_after (dinode_in h).size (at + length new) file_limit (of.stands.laid.short path a here regular) short);
      };
      puts = λ b lock plain bytes e. let p = the_put b lock plain bytes e in
          record {
            own = subst (λ x. IsSome (h.cell x)) (sym p.0) (is_shown v im o l t of path a here).dinode;
            under = p.1;
            is_plain = p.2 ∙ sym (ap (λ x. is_content_part (part_at h x)) p.0 ∙ ap is_content_part (own_part im o a (is_inode v im o l t of path a here)));
          };
      kept = none_freed;
    }

    pub content_is : content_of h' ≡ overwritten at new (content_of h)
    content_is = written.content

  pub write_does : (c : Call) → Writes c at new → at + length new ≤ file_limit → LeadsTo v (wanted c) (path_of c false) a
      → ((im : Image) (o : Owners) (l : Layout) (t : Tree) → IsOf v im o l t → IsAt im o l (path_of c false) a × (is_directory_in (holding im o a) ≡ false))
      → Does v c OkReply change
  write_does c writes short leads images =
      let is = writes_edit c at new writes in
      drafts_do v c OkReply w.fates change w.finished (changes c is) a some_put
      (λ im o l t of b lock plain bytes e. ap v.state_of (the_put b lock plain bytes e).1 ∙ inode_held v c a is leads)
      (λ im o l t of. let r = images im o l t of in
      rewriting_makes v c w.fates im o l t (path_of c false) a of r.0 (rewrites im o l t of (path_of c false) r.0 r.1 short)
      (call_taken c t (content_of (holding im o a)) is (subst (λ n. n ≤ file_limit) (sym (ap end_of writes)) short) (file_there v im o l t of (path_of c false) a r.0 r.1)
      ∙ ap (λ bytes. record { reply = OkReply; tree = put_at (path_of c false) (file bytes) t })
      (ap (λ x. content_after x (content_of (holding im o a))) writes ∙ sym (content_is im o l t of (path_of c false) r.0 r.1 short))))
