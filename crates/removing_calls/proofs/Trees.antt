-- What the tree answers a call that removes a name, by the inode at its path's end.
use Rattle.std.proofs.Common.{◌≡◌, ◌≢◌, ℕ, true, false, true≢false, List, [], ◌∷◌, ◌++◌, refl, sym, ap, ◌∙◌, arith}
use Rattle.std.proofs.lemmas.List.{append-nil}
use Rattle.std.specs.Prelude.{if◌then◌else◌}
use Rattle.cluster_history.specs.Changes.{is_ok, Changes}
use Rattle.file_tree.specs.Apply.{Answer, Walked, Found, Refused, apply, walk, unlink, unlink_at, rmdir, rmdir_at, remove_at, refuse}
use Rattle.file_tree.specs.Tree.{Tree, Entries, file, dir, none, entry, count_in}
use Rattle.file_tree.specs.declared.call.Call.{Call}
use Rattle.file_tree.specs.declared.call.Call.TheVariants as call
use Rattle.file_tree.specs.declared.reply.Reply.{Reply}
use Rattle.file_tree.specs.declared.reply.Reply.TheVariants as reply
use Rattle.gfs2_layout.specs.Holding.{Holding}
use Rattle.gfs2_layout.specs.Inode.{dinode_in, is_directory_in, content_of}
use Rattle.glock_names.specs.Views.{Seen}
use Rattle.call_locks.specs.Wants.{wanted}
use Rattle.call_locks.specs.WantLaws.{path_of}
use Rattle.removing_calls.specs.Removing.{group_holds_of}
use Rattle.image_model.specs.Flat.{follow, Path, AFile, ADir, Thing, thing_in}
use Rattle.image_model.specs.Image.{Image}
use Rattle.image_model.specs.Owners.{Owners, holding}
use Rattle.image_model.specs.Stands.{Layout, flat_of}
use Rattle.image_model.proofs.Held.{some_same}
use Rattle.image_changes.specs.Does.{IsOf}
use Rattle.image_changes.specs.Instances.{IsAt, IsChildless}
use Rattle.image_changes.specs.Walks.{ListsNames}
use Rattle.image_changes.proofs.DirectoryNames.{directories_list}
use Rattle.image_changes.proofs.Nodes.{file_thing}
use Rattle.image_changes.proofs.Walks.{walks_find}
use Rattle.path_walks.specs.Answers.{HasSpace}
use Rattle.path_walks.specs.Holds.{holds_in}
use Rattle.path_walks.proofs.Images.{is_inode}
use Rattle.removing_calls.specs.Removing.{IsRemoving, IsAimOf, IsFileAim, IsDirectoryAim, holds_for}
use Rattle.removing_calls.specs.declared.aims.Aim.TheVariants as aim
use Rattle.path_walks.specs.Walks.{IsLastOf}

-- the answer where the walk to the name ends so
abbrev removed : Path → Tree → Answer
removed path t = record { reply = reply.Ok; tree = remove_at path t }

no_end : {A : Type 0} (front : List A) (x : A) → [] ≡ front ++ x ∷ [] → ⊥
no_end [] x e = cc
no_end (y ∷ front) x e = cc

unlinks : (t : Tree) (path : Path) (name : List ℕ) (w : Walked) → IsLastOf path name → walk t path ≡ w → unlink t path ≡ unlink_at w t path
unlinks t [] name w last e = absurd (no_end last.0 name last.1)
unlinks t (n ∷ ns) name w last e = ap (λ x. unlink_at x t (n ∷ ns)) e

rmdirs : (t : Tree) (path : Path) (name : List ℕ) (w : Walked) → IsLastOf path name → walk t path ≡ w → rmdir t path ≡ rmdir_at w t path
rmdirs t [] name w last e = absurd (no_end last.0 name last.1)
rmdirs t (n ∷ ns) name w last e = ap (λ x. rmdir_at x t (n ∷ ns)) e

-- a walk that is refused
pub refused : (c : Call) (t : Tree) (name : List ℕ) (r : Reply) → IsRemoving c → IsLastOf (path_of c false) name → walk t (path_of c false) ≡ Refused r → (apply c t).reply ≡ r
refused (call.Unlink p) t name r is last ends = ap (λ (x : Answer). x.reply) (unlinks t p name (Refused r) last ends)
refused (call.Rmdir p) t name r is last ends = ap (λ (x : Answer). x.reply) (rmdirs t p name (Refused r) last ends)
refused (call.Create p) t name r is last ends = absurd is
refused (call.Mkdir p) t name r is last ends = absurd is
refused (call.Read p at count) t name r is last ends = absurd is
refused (call.Dread p at count) t name r is last ends = absurd is
refused (call.Write p at new) t name r is last ends = absurd is
refused (call.Truncate p size) t name r is last ends = absurd is
refused (call.Stat p) t name r is last ends = absurd is
refused (call.List p) t name r is last ends = absurd is
refused (call.Rename p q) t name r is last ends = absurd is
refused call.Sync t name r is last ends = absurd is

-- such a call that was answered Ok changes the tree
pub changes : (c : Call) → IsRemoving c → Changes (record { call = c; reply = reply.Ok }) ≡ true
changes (call.Unlink p) is = refl
changes (call.Rmdir p) is = refl
changes (call.Create p) is = absurd is
changes (call.Mkdir p) is = absurd is
changes (call.Read p at count) is = absurd is
changes (call.Dread p at count) is = absurd is
changes (call.Write p at new) is = absurd is
changes (call.Truncate p size) is = absurd is
changes (call.Stat p) is = absurd is
changes (call.List p) is = absurd is
changes (call.Rename p q) is = absurd is
changes call.Sync is = absurd is

-- the list where the tree refuses the call is that of the path
pub plain_list : (im : Image) (o : Owners) (l : Layout) (t : Tree) (c : Call) → is_ok (apply c t).reply ≡ false → holds_for im o l t c ≡ holds_in im o l (path_of c false) (wanted c)
plain_list im o l t c e = ap (λ b. holds_in im o l (path_of c false) (wanted c) ++ (if b then group_holds_of im o l (follow (flat_of im o) l.root (path_of c false)) else [])) e ∙ append-nil _

abbrev bytes_in : Thing → List ℕ
bytes_in (AFile bytes) = bytes
bytes_in ADir = []

file_in : (w : Walked) (u : Tree) (bytes : List ℕ) → w ≡ Found u → thing_in u ≡ AFile bytes → w ≡ Found (file bytes)
file_in w (file old) bytes found thing = found ∙ ap (λ b. Found (file b)) (ap bytes_in thing)
file_in w (dir es) bytes found thing = absurd (other thing)
  where
    other : ADir ≡ AFile bytes → ⊥
    other e = cc

no_names : (es : Entries) → count_in es ≡ 0 → es ≡ none
no_names none e = refl
no_names (entry n u es) e = absurd (omega (arith, e))

module _ (v : Seen) (im : Image) (o : Owners) (l : Layout) (t : Tree) (of : IsOf v im o l t) (path : Path) (a : ℕ) (at : IsAt im o l path a) where
  file_there : is_directory_in (holding im o a) ≡ false → walk t path ≡ Found (file (content_of (holding im o a)))
  file_there plain =
      let found = walks_find im o l t path a of.stands at in
      file_in (walk t path) found.tree (content_of (holding im o a)) found.walks (some_same (sym (found.reads.same [])) ∙ file_thing im o a (is_inode v im o l t of path a at) plain)

  listed : is_directory_in (holding im o a) ≡ true → ListsNames im o t path a
  listed is = directories_list im o l t path a of.stands at is

  empty_there : is_directory_in (holding im o a) ≡ true → (dinode_in (holding im o a)).entries ≡ 2 → walk t path ≡ Found (dir none)
  empty_there is two =
      let names = listed is in
      names.walks ∙ ap (λ es. Found (dir es)) (no_names names.entries (omega (arith, names.counted, two)))

  pub file_taken : (name : List ℕ) → IsLastOf path name → is_directory_in (holding im o a) ≡ false → unlink t path ≡ removed path t
  file_taken name last plain = unlinks t path name (Found (file (content_of (holding im o a)))) last (file_there plain)

  pub directory_refused : (name : List ℕ) → IsLastOf path name → is_directory_in (holding im o a) ≡ true → unlink t path ≡ refuse reply.IsDir t
  directory_refused name last is = unlinks t path name (Found (dir (listed is).entries)) last (listed is).walks

  pub file_refused : (name : List ℕ) → IsLastOf path name → is_directory_in (holding im o a) ≡ false → rmdir t path ≡ refuse reply.NotDir t
  file_refused name last plain = rmdirs t path name (Found (file (content_of (holding im o a)))) last (file_there plain)

  pub directory_taken : (name : List ℕ) → IsLastOf path name → is_directory_in (holding im o a) ≡ true → (dinode_in (holding im o a)).entries ≡ 2 → rmdir t path ≡ removed path t
  directory_taken name last is two = rmdirs t path name (Found (dir none)) last (empty_there is two)

  full : (es : Entries) → walk t path ≡ Found (dir es) → count_in es ≢ 0 → (name : List ℕ) → IsLastOf path name → rmdir t path ≡ refuse reply.NotEmpty t
  full none walks some name last = absurd (some refl)
  full (entry n u es) walks some name last = rmdirs t path name (Found (dir (entry n u es))) last walks

  pub full_refused : (name : List ℕ) → IsLastOf path name → is_directory_in (holding im o a) ≡ true → (dinode_in (holding im o a)).entries ≢ 2 → rmdir t path ≡ refuse reply.NotEmpty t
  full_refused name last is more =
      let names = listed is in
      full names.entries names.walks (λ e. more (omega (arith, names.counted, e))) name last

-- ---- what is made of the inode at the path's end

-- a refusal isn't Ok, and doesn't tell of too few free blocks
pub aim_not_ok : (c : Call) (h : Holding) (r : Reply) → IsAimOf c h (aim.Refused r) → (is_ok r ≡ false) × HasSpace r
aim_not_ok c h reply.IsDir is = (refl, tt)
aim_not_ok c h reply.NotDir is = (refl, tt)
aim_not_ok c h reply.NotEmpty is = (refl, tt)
aim_not_ok c h (reply.Stat kind size) is = (refl, tt)
aim_not_ok c h (reply.Bytes bytes) is = (refl, tt)
aim_not_ok c h (reply.Names names) is = (refl, tt)
aim_not_ok c h reply.NotFound is = (refl, tt)
aim_not_ok c h reply.Exists is = (refl, tt)
aim_not_ok c h reply.Inside is = (refl, tt)
aim_not_ok c h reply.TooBig is = (refl, tt)
aim_not_ok (call.Unlink p) h reply.Ok is = absurd is
aim_not_ok (call.Rmdir p) h reply.Ok is = absurd is
aim_not_ok (call.Create p) h reply.Ok is = absurd is
aim_not_ok (call.Mkdir p) h reply.Ok is = absurd is
aim_not_ok (call.Read p at count) h reply.Ok is = absurd is
aim_not_ok (call.Dread p at count) h reply.Ok is = absurd is
aim_not_ok (call.Write p at new) h reply.Ok is = absurd is
aim_not_ok (call.Truncate p size) h reply.Ok is = absurd is
aim_not_ok (call.Stat p) h reply.Ok is = absurd is
aim_not_ok (call.List p) h reply.Ok is = absurd is
aim_not_ok (call.Rename p q) h reply.Ok is = absurd is
aim_not_ok call.Sync h reply.Ok is = absurd is
aim_not_ok (call.Unlink p) h reply.NoSpace is = absurd is
aim_not_ok (call.Rmdir p) h reply.NoSpace is = absurd is
aim_not_ok (call.Create p) h reply.NoSpace is = absurd is
aim_not_ok (call.Mkdir p) h reply.NoSpace is = absurd is
aim_not_ok (call.Read p at count) h reply.NoSpace is = absurd is
aim_not_ok (call.Dread p at count) h reply.NoSpace is = absurd is
aim_not_ok (call.Write p at new) h reply.NoSpace is = absurd is
aim_not_ok (call.Truncate p size) h reply.NoSpace is = absurd is
aim_not_ok (call.Stat p) h reply.NoSpace is = absurd is
aim_not_ok (call.List p) h reply.NoSpace is = absurd is
aim_not_ok (call.Rename p q) h reply.NoSpace is = absurd is
aim_not_ok call.Sync h reply.NoSpace is = absurd is

module _ (v : Seen) (im : Image) (o : Owners) (l : Layout) (t : Tree) (of : IsOf v im o l t) where
  unlink_refusal : (p : Path) (name : List ℕ) (a : ℕ) → IsLastOf p name → IsAt im o l p a → (r : Reply) → IsFileAim (holding im o a) (aim.Refused r) → unlink t p ≡ refuse r t
  unlink_refusal p name a last at reply.IsDir is = directory_refused v im o l t of p a at name last is
  unlink_refusal p name a last at reply.NotDir is = absurd is
  unlink_refusal p name a last at reply.NotEmpty is = absurd is
  unlink_refusal p name a last at (reply.Stat kind size) is = absurd is
  unlink_refusal p name a last at (reply.Bytes bytes) is = absurd is
  unlink_refusal p name a last at (reply.Names names) is = absurd is
  unlink_refusal p name a last at reply.NotFound is = absurd is
  unlink_refusal p name a last at reply.Exists is = absurd is
  unlink_refusal p name a last at reply.Inside is = absurd is
  unlink_refusal p name a last at reply.TooBig is = absurd is
  unlink_refusal p name a last at reply.NoSpace is = absurd is
  unlink_refusal p name a last at reply.Ok is = absurd is

  rmdir_refusal : (p : Path) (name : List ℕ) (a : ℕ) → IsLastOf p name → IsAt im o l p a → (r : Reply) → IsDirectoryAim (holding im o a) (aim.Refused r) → rmdir t p ≡ refuse r t
  rmdir_refusal p name a last at reply.NotDir is = file_refused v im o l t of p a at name last is
  rmdir_refusal p name a last at reply.NotEmpty is = full_refused v im o l t of p a at name last is.0 is.1
  rmdir_refusal p name a last at reply.IsDir is = absurd is
  rmdir_refusal p name a last at (reply.Stat kind size) is = absurd is
  rmdir_refusal p name a last at (reply.Bytes bytes) is = absurd is
  rmdir_refusal p name a last at (reply.Names names) is = absurd is
  rmdir_refusal p name a last at reply.NotFound is = absurd is
  rmdir_refusal p name a last at reply.Exists is = absurd is
  rmdir_refusal p name a last at reply.Inside is = absurd is
  rmdir_refusal p name a last at reply.TooBig is = absurd is
  rmdir_refusal p name a last at reply.NoSpace is = absurd is
  rmdir_refusal p name a last at reply.Ok is = absurd is

  -- the tree refuses so
  pub aim_refuses : (c : Call) (name : List ℕ) (a : ℕ) → IsLastOf (path_of c false) name → IsAt im o l (path_of c false) a → (r : Reply) → IsAimOf c (holding im o a) (aim.Refused r) → (apply c t).reply ≡ r
  aim_refuses (call.Unlink p) name a last at r is = ap (λ (x : Answer). x.reply) (unlink_refusal p name a last at r is)
  aim_refuses (call.Rmdir p) name a last at r is = ap (λ (x : Answer). x.reply) (rmdir_refusal p name a last at r is)
  aim_refuses (call.Create p) name a last at r is = absurd is
  aim_refuses (call.Mkdir p) name a last at r is = absurd is
  aim_refuses (call.Read p from count) name a last at r is = absurd is
  aim_refuses (call.Dread p from count) name a last at r is = absurd is
  aim_refuses (call.Write p from new) name a last at r is = absurd is
  aim_refuses (call.Truncate p size) name a last at r is = absurd is
  aim_refuses (call.Stat p) name a last at r is = absurd is
  aim_refuses (call.List p) name a last at r is = absurd is
  aim_refuses (call.Rename p q) name a last at r is = absurd is
  aim_refuses call.Sync name a last at r is = absurd is

  -- or takes the name away, with an inode that names nothing
  pub record IsTakenBy (c : Call) (a : ℕ) : Type 0 where
    pub applies : apply c t ≡ removed (path_of c false) t
    pub childless : IsChildless im o a

  pub aim_takes : (c : Call) (name : List ℕ) (a : ℕ) → IsLastOf (path_of c false) name → IsAt im o l (path_of c false) a → IsAimOf c (holding im o a) aim.Taken → IsTakenBy c a
  aim_takes (call.Unlink p) name a last at is = record {
    applies = file_taken v im o l t of p a at name last is;
    childless = λ directory. absurd (true≢false (sym directory ∙ is));
  }
  aim_takes (call.Rmdir p) name a last at is = record {
    applies = directory_taken v im o l t of p a at name last is.0 is.1;
    childless = λ directory. is.1;
  }
  aim_takes (call.Create p) name a last at is = absurd is
  aim_takes (call.Mkdir p) name a last at is = absurd is
  aim_takes (call.Read p from count) name a last at is = absurd is
  aim_takes (call.Dread p from count) name a last at is = absurd is
  aim_takes (call.Write p from new) name a last at is = absurd is
  aim_takes (call.Truncate p size) name a last at is = absurd is
  aim_takes (call.Stat p) name a last at is = absurd is
  aim_takes (call.List p) name a last at is = absurd is
  aim_takes (call.Rename p q) name a last at is = absurd is
  aim_takes call.Sync name a last at is = absurd is
