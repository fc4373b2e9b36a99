-- What the tree answers a call that makes a name, by the inode at the end of its directory's path.
use Rattle.std.proofs.Common.{◌≡◌, true, false, ℕ, List, [], ◌∷◌, ◌++◌, Option, None, Some, refl, sym, ap, ◌∙◌}
use Rattle.std.proofs.lemmas.List.{append-nil}
use Rattle.std.specs.Prelude.{if◌then◌else◌, option_and_then}
use Rattle.cluster_history.specs.Changes.{Changes, is_ok}
use Rattle.file_tree.specs.Apply.{apply, Answer, Walked, Found, Refused, add, add_to, found_or, put_at, refuse, step_to, walk}
use Rattle.file_tree.specs.Names.{IsName, last_of, parent_of}
use Rattle.file_tree.specs.Tree.{Tree, Entries, dir, file, look}
use Rattle.file_tree.specs.declared.call.Call.{Call}
use Rattle.file_tree.specs.declared.call.Call.TheVariants as call
use Rattle.file_tree.specs.declared.reply.Reply.{Reply}
use Rattle.file_tree.specs.declared.reply.Reply.TheVariants as reply
use Rattle.file_tree.proofs.WalkLaws.{last_front, walk_on}
use Rattle.gfs2_layout.specs.Inode.{is_directory_in, records_of}
use Rattle.gfs2_layout.specs.Records.{child_named}
use Rattle.glock_names.specs.Views.{Seen}
use Rattle.call_locks.specs.WantLaws.{path_of}
use Rattle.image_model.specs.Flat.{Path, follow}
use Rattle.image_model.specs.Image.{Image}
use Rattle.image_model.specs.Owners.{Owners, holding}
use Rattle.image_model.specs.Stands.{Layout, flat_of}
use Rattle.image_changes.specs.Does.{IsOf}
use Rattle.image_changes.specs.Instances.{IsAt}
use Rattle.image_changes.specs.Walks.{ListsNames}
use Rattle.image_changes.proofs.DirectoryNames.{directories_list}
use Rattle.image_changes.proofs.FlatPaths.{follow-append}
use Rattle.image_changes.proofs.Walks.{walks_end, walks_find}
use Rattle.name_drafts.proofs.Images.{child_is_there, no_child_of_file}
use Rattle.making_calls.specs.Blocks.{new_holds}
use Rattle.name_drafts.specs.Drafting.{new_tree}
use Rattle.making_calls.specs.Making.{IsMaking, blocks_needed, call_holds, directory_path, makes_directory, path_holds}
use Rattle.name_drafts.specs.Walks.{IsLastOf}

adds_at : (t : Tree) (path front : Path) (name : List ℕ) (new : Tree) → path ≡ front ++ name ∷ [] → add t path new ≡ add_to (walk t (parent_of path)) t path new
adds_at t [] front name new e = absurd (no_end front name e)
  where
    no_end : (front : Path) (x : List ℕ) → [] ≡ front ++ x ∷ [] → ⊥
    no_end [] x e = cc
    no_end (y ∷ front) x e = cc
adds_at t (n ∷ ns) front name new e = refl

-- what is answered where the walk to the directory ends so
pub applies : (c : Call) (t : Tree) (name : List ℕ) (w : Walked) → IsMaking c → IsLastOf (path_of c false) name → walk t (directory_path c) ≡ w → apply c t ≡ add_to w t (path_of c false) (new_tree (makes_directory c))
applies (call.Create p) t name w is last ends = adds_at t p last.0 name (file []) last.1 ∙ ap (λ x. add_to x t p (file [])) ends
applies (call.Mkdir p) t name w is last ends = adds_at t p last.0 name (new_tree true) last.1 ∙ ap (λ x. add_to x t p (new_tree true)) ends
applies (call.Unlink p) t name w is last ends = absurd is
applies (call.Rmdir p) t name w is last ends = absurd is
applies (call.Read p at count) t name w is last ends = absurd is
applies (call.Dread p at count) t name w is last ends = absurd is
applies (call.Write p at new) t name w is last ends = absurd is
applies (call.Truncate p size) t name w is last ends = absurd is
applies (call.Stat p) t name w is last ends = absurd is
applies (call.List p) t name w is last ends = absurd is
applies (call.Rename p q) t name w is last ends = absurd is
applies call.Sync t name w is last ends = absurd is

pub refused : (c : Call) (t : Tree) (name : List ℕ) (r : Reply) → IsMaking c → IsLastOf (path_of c false) name → walk t (directory_path c) ≡ Refused r → (apply c t).reply ≡ r
refused c t name r is last ends = ap (λ (x : Answer). x.reply) (applies c t name (Refused r) is last ends)

-- the root is there
pub root_exists : (c : Call) (t : Tree) → IsMaking c → path_of c false ≡ [] → (apply c t).reply ≡ reply.Exists
root_exists (call.Create p) t is none = ap (λ x. (add t x (file [])).reply) none
root_exists (call.Mkdir p) t is none = ap (λ x. (add t x (new_tree true)).reply) none
root_exists (call.Unlink p) t is none = absurd is
root_exists (call.Rmdir p) t is none = absurd is
root_exists (call.Read p at count) t is none = absurd is
root_exists (call.Dread p at count) t is none = absurd is
root_exists (call.Write p at new) t is none = absurd is
root_exists (call.Truncate p size) t is none = absurd is
root_exists (call.Stat p) t is none = absurd is
root_exists (call.List p) t is none = absurd is
root_exists (call.Rename p q) t is none = absurd is
root_exists call.Sync t is none = absurd is

-- such a call that was answered Ok changes the tree
pub changes : (c : Call) → IsMaking c → Changes (record { call = c; reply = reply.Ok }) ≡ true
changes (call.Create p) is = refl
changes (call.Mkdir p) is = refl
changes (call.Unlink p) is = absurd is
changes (call.Rmdir p) is = absurd is
changes (call.Read p at count) is = absurd is
changes (call.Dread p at count) is = absurd is
changes (call.Write p at new) is = absurd is
changes (call.Truncate p size) is = absurd is
changes (call.Stat p) is = absurd is
changes (call.List p) is = absurd is
changes (call.Rename p q) is = absurd is
changes call.Sync is = absurd is

-- ---- the list of locks

pub plain_list : (im : Image) (o : Owners) (l : Layout) (t : Tree) (c : Call) (node : ℕ) → is_ok (apply c t).reply ≡ false → call_holds im o l t c node ≡ path_holds im o l c
plain_list im o l t c node e = ap (λ b. path_holds im o l c ++ (if b then new_holds o l node (blocks_needed im o l c) else [])) e ∙ append-nil (path_holds im o l c)

pub taken_list : (im : Image) (o : Owners) (l : Layout) (t : Tree) (c : Call) (node : ℕ) → is_ok (apply c t).reply ≡ true
    → call_holds im o l t c node ≡ path_holds im o l c ++ new_holds o l node (blocks_needed im o l c)
taken_list im o l t c node e = ap (λ b. path_holds im o l c ++ (if b then new_holds o l node (blocks_needed im o l c) else [])) e

-- ---- the name in the directory

-- the answer by what the name stands for
abbrev added : Option Tree → Tree → Path → Tree → Answer
added None t path new = record { reply = reply.Ok; tree = put_at path new t }
added (Some u) t path new = refuse reply.Exists t

by_look : (es : Entries) (t : Tree) (path : Path) (new : Tree) (x : Option Tree) → look es (last_of path) ≡ x → add_to (Found (dir es)) t path new ≡ added x t path new
by_look es t path new x e = shown (look es (last_of path)) ∙ ap (λ y. added y t path new) e
  where
    shown : (y : Option Tree) → ◌≡◌ {A = Answer} (elim y [ None ↦ record { reply = reply.Ok; tree = put_at path new t } | Some there ↦ refuse reply.Exists t ]) (added y t path new)
    shown None = refl
    shown (Some u) = refl

none_found : (x : Option Tree) → found_or reply.NotFound x ≡ Refused reply.NotFound → x ≡ None
none_found None e = refl
none_found (Some u) e = cc

some_found : (x : Option Tree) (u : Tree) → found_or reply.NotFound x ≡ Found u → x ≡ Some u
some_found None u e = cc
some_found (Some w) u e = cc

no_directory : (w : Walked) (u : Tree) (name : List ℕ) → w ≡ Found u → step_to w name ≡ Refused reply.NotDir → (bytes : List ℕ) × (w ≡ Found (file bytes))
no_directory w (file bytes) name found ends = (bytes, found)
no_directory w (dir es) name found ends = absurd (other (look es name) (ap (λ x. step_to x name) (sym found) ∙ ends))
  where
    other : (x : Option Tree) → found_or reply.NotFound x ≡ Refused reply.NotDir → ⊥
    other None e = cc
    other (Some u) e = cc

module _ (v : Seen) (im : Image) (o : Owners) (l : Layout) (t : Tree) (of : IsOf v im o l t) (front : Path) (a : ℕ) (at : IsAt im o l front a) where
  next : (name : List ℕ) → walk t (front ++ name ∷ []) ≡ step_to (walk t front) name
  next name = walk_on (Found t) front (name ∷ [])

  pub a_file : (name : List ℕ) → is_directory_in (holding im o a) ≡ false → (bytes : List ℕ) × (walk t front ≡ Found (file bytes))
  a_file name plain =
      let found = walks_find im o l t front a of.stands at in
      no_directory (walk t front) found.tree name found.walks (sym (next name) ∙ (walks_end im o l t front a name [] of.stands at (no_child_of_file v im o l t of front a name at plain)).1 plain)

  pub listed : is_directory_in (holding im o a) ≡ true → ListsNames im o t front a
  listed is = directories_list im o l t front a of.stands at is

  pub not_there : (name : List ℕ) (is : is_directory_in (holding im o a) ≡ true) → IsName name → child_named (records_of (holding im o a)) name ≡ None → look (listed is).entries name ≡ None
  not_there name is named absent =
      none_found (look (listed is).entries name) (sym (next name ∙ ap (λ w. step_to w name) (listed is).walks)
      ∙ (walks_end im o l t front a name [] of.stands at (child_is_there v im o l t of front a name at named is ∙ absent)).0 is)

  pub is_there : (name : List ℕ) (is : is_directory_in (holding im o a) ≡ true) (b : ℕ) → IsName name → child_named (records_of (holding im o a)) name ≡ Some b → (u : Tree) × (look (listed is).entries name ≡ Some u)
  is_there name is b named leads =
      let child : (flat_of im o a).child name ≡ Some b = child_is_there v im o l t of front a name at named is ∙ leads in
      let there : IsAt im o l (front ++ name ∷ []) b = follow-append (flat_of im o) front (name ∷ []) l.root a at ∙ step child in
      let found = walks_find im o l t (front ++ name ∷ []) b of.stands there in
      (found.tree, some_found (look (listed is).entries name) found.tree (sym (next name ∙ ap (λ w. step_to w name) (listed is).walks) ∙ found.walks))
    where
      step : (flat_of im o a).child name ≡ Some b → follow (flat_of im o) a (name ∷ []) ≡ Some b
      step e = ap (option_and_then (λ x. Some x)) e

module _ (v : Seen) (im : Image) (o : Owners) (l : Layout) (t : Tree) (of : IsOf v im o l t) (c : Call) (name : List ℕ) (is : IsMaking c) (last : IsLastOf (path_of c false) name)
    (a : ℕ) (at : IsAt im o l (directory_path c) a) where
  pub last_name : last_of (path_of c false) ≡ name
  last_name = ap last_of last.1 ∙ last_front last.0 name

  -- a file has no names
  pub file_refuses : is_directory_in (holding im o a) ≡ false → (apply c t).reply ≡ reply.NotDir
  file_refuses plain = let f = a_file v im o l t of (directory_path c) a at name plain in ap (λ (x : Answer). x.reply) (applies c t name (Found (file f.0)) is last f.1)

  -- the name is there
  pub there_refuses : is_directory_in (holding im o a) ≡ true → IsName name → (b : ℕ) → child_named (records_of (holding im o a)) name ≡ Some b → (apply c t).reply ≡ reply.Exists
  there_refuses so named b leads =
      let names = listed v im o l t of (directory_path c) a at so in
      let u = is_there v im o l t of (directory_path c) a at name so b named leads in
      ap (λ (x : Answer). x.reply) (applies c t name (Found (dir names.entries)) is last names.walks
      ∙ by_look names.entries t (path_of c false) (new_tree (makes_directory c)) (Some u.0) (ap (look names.entries) last_name ∙ u.1))

  -- or the tree takes the call
  pub takes : is_directory_in (holding im o a) ≡ true → IsName name → child_named (records_of (holding im o a)) name ≡ None
      → apply c t ≡ record { reply = reply.Ok; tree = put_at (path_of c false) (new_tree (makes_directory c)) t }
  takes so named absent =
      let names = listed v im o l t of (directory_path c) a at so in
      applies c t name (Found (dir names.entries)) is last names.walks
      ∙ by_look names.entries t (path_of c false) (new_tree (makes_directory c)) None (ap (look names.entries) last_name ∙ not_there v im o l t of (directory_path c) a at name so named absent)
