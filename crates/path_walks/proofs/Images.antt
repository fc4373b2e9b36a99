-- Inodes on a path, in an image that the view may be of.
use Rattle.std.proofs.Common.{◌≡◌, ◌≢◌, ◌<◌, ◌≤◌, length, inl, inr, arith, ℕ, true, false, true≢false, List, [], ◌∷◌, map, Option, None, Some, refl, sym, ap, subst, ◌∙◌}
use Rattle.std.proofs.lemmas.Bool.{cases_Bool, cond-true, cond-false, eq-eqb}
use Rattle.std.proofs.lemmas.Option.{slice_get-map, slice_get_within, get_or_from_slice_get}
use Rattle.std.proofs.lemmas.Slice.Eq.{bytes_eq-Decides}
use Rattle.std.specs.Prelude.{IsSome, Contains, codes, slice_get, option_map}
use Rattle.std.specs.Str.{bytes_eq}
use Rattle.file_tree.specs.Names.{IsName}
use Rattle.file_tree.specs.Tree.{Tree}
use Rattle.gfs2_layout.specs.Holding.{Part, Itself, Cell, cell_bytes, cell_part, part_at}
use Rattle.gfs2_layout.specs.Inode.{IsInode, is_directory_in, records_of}
use Rattle.gfs2_layout.specs.Records.{Record, child_named, record_named}
use Rattle.gfs2_layout.specs.declared.rindex.Rindex.{Rindex}
use Rattle.glock_names.specs.Views.{Seen, group_of_entry}
use Rattle.dinode_tree.specs.Broken as inode
use Rattle.dinode_tree.specs.Shown.{IsShown, IsAsSeen}
use Rattle.dinode_tree.proofs.Sound.{sound_is_shown, sound_breaks_nothing}
use Rattle.dinode_tree.proofs.Sound.{sound_is_whole}
use Rattle.directories.specs.HashedShown.{IsSound}
use Rattle.directories.proofs.Chained.{cell_some, in_chain}
use Rattle.directories.specs.Shown.{HasName, Says}
use Rattle.directories.specs.Shown as dirs
use Rattle.directories.proofs.Sound.{says_sound}
use Rattle.directories.proofs.Sound as sound
use Rattle.resource_groups.specs.Putting.{HasDataBlock}
use Rattle.image_model.specs.Flat.{Path, Node, no_node}
use Rattle.image_model.specs.Image.{Image}
use Rattle.image_model.specs.Nodes.{node_of}
use Rattle.image_model.specs.Owners.{Owner, Owners, Super, InGroup, Free, Nobody, Root, Master, Named, Below, Chained, part_in, cell_of, cell_in, is_dinode, IsUsed, holding}
use Rattle.image_model.specs.Stands.{Layout, flat_of}
use Rattle.image_model.proofs.Held.{itself_own, none_some, some_same}
use Rattle.path_walks.specs.Walks.{IsWrongAt}
use Rattle.draft_changes.proofs.Rows.{cell_its, its_used}
use Rattle.draft_changes.proofs.Views.{none_has_the_first}
use Rattle.glock_names.specs.declared.steps.Entry.{Entry}
use Rattle.directories.specs.LinearShown.{entry_of}
use Rattle.image_model.proofs.Members.{IsIn, is_in}
use Rattle.image_model.proofs.Rows.{and_left}
use Rattle.image_changes.specs.Changes.{inode_of, lock_in, cover, is_free}
use Rattle.image_changes.specs.Does.{IsOf, is_content_of}
use Rattle.image_changes.specs.Instances.{IsAt}
use Rattle.image_changes.proofs.Drafting.{own_locks}
use Rattle.image_changes.proofs.Laid.{child_rows, follow_dinode}

own_part : (a : ℕ) (o : Owner) → is_dinode o ≡ true → part_in a a o ≡ Some Itself
own_part a Super e = cc
own_part a (InGroup g) e = cc
own_part a (Free g) e = cc
own_part a Nobody e = cc
own_part a Root e = cond-true _ (Some Itself) None (eq-eqb a a refl)
own_part a Master e = cond-true _ (Some Itself) None (eq-eqb a a refl)
own_part a (Named parent name) e = cond-true _ (Some Itself) None (eq-eqb a a refl)
own_part a (Below d b k level first) e = cc
own_part a (Chained d hash place) e = cc

cell_bytes_are : (p : Option Part) (bytes : List ℕ) → IsSome (cell_of p bytes) → (c : Cell) × (cell_of p bytes ≡ Some c) × (c.bytes ≡ bytes)
cell_bytes_are None bytes none = absurd (true≢false (sym none))
cell_bytes_are (Some p) bytes some = (record { part = p; bytes = bytes }, refl, refl)

-- a dinode's own row: under which lock it is, and that it is no free block and no content
dinode_inode : (a : ℕ) (o : Owner) → is_dinode o ≡ true → inode_of a o ≡ Some a
dinode_inode a Super e = cc
dinode_inode a (InGroup g) e = cc
dinode_inode a (Free g) e = cc
dinode_inode a Nobody e = cc
dinode_inode a Root e = refl
dinode_inode a Master e = refl
dinode_inode a (Named parent name) e = refl
dinode_inode a (Below d b k level first) e = cc
dinode_inode a (Chained d hash place) e = cc

dinode_cover : (l : Layout) (a : ℕ) (o : Owner) → is_dinode o ≡ true → cover l a o ≡ lock_in l (inode_of a o)
dinode_cover l a Super e = cc
dinode_cover l a (InGroup g) e = cc
dinode_cover l a (Free g) e = cc
dinode_cover l a Nobody e = cc
dinode_cover l a Root e = refl
dinode_cover l a Master e = refl
dinode_cover l a (Named parent name) e = refl
dinode_cover l a (Below d b k level first) e = cc
dinode_cover l a (Chained d hash place) e = cc

pub dinode_used : (o : Owner) → is_dinode o ≡ true → is_free o ≡ false
dinode_used Super e = refl
dinode_used (InGroup g) e = refl
dinode_used (Free g) e = cc
dinode_used Nobody e = refl
dinode_used Root e = refl
dinode_used Master e = refl
dinode_used (Named parent name) e = refl
dinode_used (Below d b k level first) e = refl
dinode_used (Chained d hash place) e = refl

pub dinode_plain : (im : Image) (o : Owners) (r : Owner) → is_dinode r ≡ true → is_content_of im o r ≡ false
dinode_plain im o Super e = refl
dinode_plain im o (InGroup g) e = refl
dinode_plain im o (Free g) e = refl
dinode_plain im o Nobody e = refl
dinode_plain im o Root e = refl
dinode_plain im o Master e = refl
dinode_plain im o (Named parent name) e = refl
dinode_plain im o (Below d b k level first) e = cc
dinode_plain im o (Chained d hash place) e = refl

-- a record of the name is found
pub none_named : (records : List Record) (name : List ℕ) → record_named records name ≡ None → (r : Record) → IsIn r records → r.name ≡ name → ⊥
none_named [] name none r at same = elim at [ ]
none_named (x ∷ xs) name none r (inl e) same =
    none_some (sym none ∙ cond-true _ (Some x) (record_named xs name) ((bytes_eq-Decides name x.name).1 (sym same ∙ ap (λ (q : Record). q.name) e)))
none_named (x ∷ xs) name none r (inr at) same = elim (cases_Bool (bytes_eq name x.name)) [
  | inl here ↦ none_some (sym none ∙ cond-true _ (Some x) (record_named xs name) here)
  | inr away ↦ none_named xs name (sym (cond-false _ (Some x) (record_named xs name) away) ∙ none) r at same
]

-- where a name leads by its record
pub child_is : (records : List Record) (name : List ℕ) (e : Entry) → Some e ≡ option_map entry_of (record_named records name) → child_named records name ≡ Some e.addr
child_is records name e is = each (record_named records name) is
  where
    each : (r : Option Record) → Some e ≡ option_map entry_of r → option_map (λ (x : Record). x.address) r ≡ Some e.addr
    each None is = absurd (none_some (sym is))
    each (Some r) is = ap (option_map (λ (x : Entry). x.addr)) (sym is)

pub no_record : (records : List Record) (name : List ℕ) → ◌≡◌ {A = Option Entry} None (option_map entry_of (record_named records name)) → record_named records name ≡ None
no_record records name is = each (record_named records name) is
  where
    each : (r : Option Record) → ◌≡◌ {A = Option Entry} None (option_map entry_of r) → r ≡ None
    each None is = refl
    each (Some r) is = absurd (none_some is)

pub no_child : (records : List Record) (name : List ℕ) → ◌≡◌ {A = Option Entry} None (option_map entry_of (record_named records name)) → child_named records name ≡ None
no_child records name is = ap (option_map (λ (x : Record). x.address)) (no_record records name is)

-- a record that is found is there, and has the name
found_there : (records : List Record) (name : List ℕ) (r : Record) → record_named records name ≡ Some r → IsIn r records × (r.name ≡ name)
found_there [] name r e = absurd (none_some e)
found_there (x ∷ xs) name r e = elim (cases_Bool (bytes_eq name x.name)) [
  | inl here ↦
      let same : x ≡ r = some_same (sym (cond-true _ (Some x) (record_named xs name) here) ∙ e) in
      (inl (sym same), ap (λ (q : Record). q.name) (sym same) ∙ sym ((bytes_eq-Decides name x.name).0 here))
  | inr away ↦
      let later = found_there xs name r (sym (cond-false _ (Some x) (record_named xs name) away) ∙ e) in
      (inr later.0, later.1)
]

two_long : (xs : List Record) (r s : Record) → IsIn r xs → IsIn s xs → r ≢ s → 2 ≤ length xs
two_long [] r s first second other = elim first [ ]
two_long (x ∷ []) r s (inl e) (inl f) other = absurd (other (e ∙ sym f))
two_long (x ∷ []) r s (inl e) (inr at) other = elim at [ ]
two_long (x ∷ []) r s (inr at) second other = elim at [ ]
two_long (x ∷ y ∷ xs) r s first second other = omega arith

dots_differ : codes "." ≢ codes ".."
dots_differ e = cc

-- `.` and `..` lead by two records
some_record : (records : List Record) (name : List ℕ) (e : Entry) → Some e ≡ option_map entry_of (record_named records name) → (r : Record) × (record_named records name ≡ Some r)
some_record records name e is = each (record_named records name) is
  where
    each : (x : Option Record) → Some e ≡ option_map entry_of x → (r : Record) × (x ≡ Some r)
    each None is = absurd (none_some (sym is))
    each (Some r) is = (r, refl)

two_records : (records : List Record) (own up : Entry) → Some own ≡ option_map entry_of (record_named records (codes ".")) → Some up ≡ option_map entry_of (record_named records (codes "..")) → 2 ≤ length records
two_records records own up first second =
    let r = some_record records (codes ".") own first in
    let s = some_record records (codes "..") up second in
    let dot = found_there records (codes ".") r.0 r.1 in
    let dots = found_there records (codes "..") s.0 s.1 in
    two_long records r.0 s.0 dot.0 dots.0 (λ same. dots_differ (sym dot.1 ∙ ap (λ (q : Record). q.name) same ∙ dots.1))

-- a listed group is one of the view's
has_group : (gs : List Rindex) (i : ℕ) (g : Rindex) → slice_get gs i ≡ Some g → Contains (map group_of_entry gs) (group_of_entry g)
has_group gs i g at =
    let there : slice_get (map group_of_entry gs) i ≡ Some (group_of_entry g) = slice_get-map group_of_entry gs i ∙ ap (option_map group_of_entry) at in
    (i, slice_get_within (map group_of_entry gs) i (group_of_entry g) there, get_or_from_slice_get (map group_of_entry gs) i (group_of_entry g) (group_of_entry g) there)

used_name : (o : Owner) (p : ℕ) (name : List ℕ) → o ≡ Named p name → IsUsed o
used_name o p name e = subst IsUsed (sym e) tt

module _ (v : Seen) (im : Image) (o : Owners) (l : Layout) (t : Tree) (of : IsOf v im o l t) where
  pub is_inode : (path : Path) (a : ℕ) → IsAt im o l path a → is_dinode (o a) ≡ true
  is_inode path a at = follow_dinode im o l of.stands.laid path l.root a (ap is_dinode of.stands.laid.root.0) at

  pub is_sound : (path : Path) (a : ℕ) → IsAt im o l path a → IsInode (holding im o a)
  is_sound path a at = of.stands.laid.inodes a (is_inode path a at)

  as_seen : (a : ℕ) → IsAsSeen v (holding im o a)
  unfolding cell_in
  as_seen a b bytes some there =
      let c = cell_bytes_are (part_in a b (o b)) (im.at b) some in
      ap cell_bytes c.1 ∙ c.2 ∙ of.agrees b bytes there

  its_own : (a : ℕ) → is_dinode (o a) ≡ true → part_at (holding im o a) a ≡ Some Itself
  unfolding cell_in
  its_own a so = ap (λ p. cell_part (cell_of p (im.at a))) (own_part a (o a) so)

  pub is_shown : (path : Path) (a : ℕ) → IsAt im o l path a → IsShown v a (holding im o a)
  is_shown path a at = sound_is_shown v (holding im o a) (is_sound path a at) (its_own a (is_inode path a at)) of.size (as_seen a)

  -- where a name of a directory leads
  pub child_is_there : (path : Path) (a : ℕ) (name : List ℕ) → IsAt im o l path a → IsName name → is_directory_in (holding im o a) ≡ true
      → (flat_of im o a).child name ≡ child_named (records_of (holding im o a)) name
  child_is_there path a name at is_name dir =
      ap (λ (n : Node). n.child name) (cond-true _ (node_of (holding im o a)) no_node (is_inode path a at))
      ∙ cond-true _ _ None dir ∙ cond-false _ None _ is_name.not_dots

  pub no_child_of_file : (path : Path) (a : ℕ) (name : List ℕ) → IsAt im o l path a → is_directory_in (holding im o a) ≡ false → (flat_of im o a).child name ≡ None
  no_child_of_file path a name at file =
      ap (λ (n : Node). n.child name) (cond-true _ (node_of (holding im o a)) no_node (is_inode path a at)) ∙ cond-false _ _ None file

  -- what a name leads to stands in a data block of a group
  named_in_group : (b a : ℕ) (name : List ℕ) → o b ≡ Named a name → HasDataBlock v b
  named_in_group b a name row =
      let placed = of.stands.laid.zoned.placed b (used_name (o b) a name row) in
      (group_of_entry placed.0, subst (λ gs. Contains gs (group_of_entry placed.0)) of.groups (has_group l.groups placed.1.0 placed.0 placed.1.1), record { low = placed.2.low; high = placed.2.high })

  pub child_in_group : (a b : ℕ) (name : List ℕ) → (flat_of im o a).child name ≡ Some b → HasDataBlock v b
  child_in_group a b name leads = named_in_group b a name (child_rows im o l of.stands.laid a b name leads).2

  -- the lock of an inode on a path
  pub lock_of_inode : (path : Path) (a : ℕ) → IsAt im o l path a → cover l a (o a) ≡ Some (record { kind = 2; number = a })
  lock_of_inode path a at =
      dinode_cover l a (o a) (is_inode path a at) ∙ ap (lock_in l) (dinode_inode a (o a) (is_inode path a at)) ∙ own_locks im o l a of.stands.laid (inl (path, at))

  -- each block of an inode is a data block of a group, and so one of the image's
  pub own_inside : (a b : ℕ) → IsSome ((holding im o a).cell b) → HasDataBlock v b
  own_inside a b some =
      let placed = of.stands.laid.zoned.placed b (its_used b a (o b) (cell_its im o a b some)).0 in
      (group_of_entry placed.0, subst (λ gs. Contains gs (group_of_entry placed.0)) of.groups (has_group l.groups placed.1.0 placed.0 placed.1.1), record { low = placed.2.low; high = placed.2.high })

  pub own_counted : (a b : ℕ) → IsSome ((holding im o a).cell b) → b < im.count
  own_counted a b some =
      let placed = of.stands.laid.zoned.placed b (its_used b a (o b) (cell_its im o a b some)).0 in
      omega (arith, placed.2.high, (of.stands.laid.fit.each placed.0 placed.1).inside)

  -- a directory, of whatever form, is sound, and the view shows it
  pub sound_directory : (path : Path) (a : ℕ) → IsAt im o l path a → is_directory_in (holding im o a) ≡ true → IsSound (holding im o a)
  sound_directory path a at dir = record {
    block_size = of.stands.laid.image.block_size;
    inode = is_sound path a at;
    placed = record { own = its_own a (is_inode path a at); only = itself_own im o a; nobody = none_has_the_first im o l a of.stands.laid; inside = own_counted a };
    once = (of.stands.laid.directories a (is_inode path a at) dir).once;
  }

  pub shown_inode : (path : Path) (a : ℕ) → IsAt im o l path a → dirs.IsShown v a (holding im o a)
  shown_inode path a at = record {
    inode = is_shown path a at;
    leaves = λ hashed i place x chain some. cell_some ((holding im o a).cell x) _ (in_chain (holding im o a) (sound_directory path a at (and_left (is_directory_in (holding im o a)) _ hashed)) hashed i place x chain);
    whole = λ hashed from. sound_is_whole (holding im o a) from of.stands.laid.image.block_size (is_sound path a at);
  }

  pub shown_directory : (path : Path) (a : ℕ) → IsAt im o l path a → is_directory_in (holding im o a) ≡ true → dirs.IsShown v a (holding im o a)
  shown_directory path a at dir = shown_inode path a at

  -- what it says is what its records say
  pub says_records : (path : Path) (a : ℕ) (name : List ℕ) (found : Option Entry) → IsAt im o l path a → is_directory_in (holding im o a) ≡ true → Says (holding im o a) name found
      → found ≡ option_map entry_of (record_named (records_of (holding im o a)) name)
  says_records path a name found at dir says = says_sound (holding im o a) name found (sound_directory path a at dir) says

  pub says_child : (path : Path) (a : ℕ) (name : List ℕ) (b : ℕ) → IsAt im o l path a → is_directory_in (holding im o a) ≡ true → HasName (holding im o a) name b
      → child_named (records_of (holding im o a)) name ≡ Some b
  says_child path a name b at dir has = child_is (records_of (holding im o a)) name has.entry (says_records path a name (Some has.entry) at dir has.says) ∙ ap Some has.address

  pub says_none : (path : Path) (a : ℕ) (name : List ℕ) → IsAt im o l path a → is_directory_in (holding im o a) ≡ true → Says (holding im o a) name None
      → child_named (records_of (holding im o a)) name ≡ None
  says_none path a name at dir says = no_child (records_of (holding im o a)) name (says_records path a name None at dir says)

  -- it has `.` and `..`
  pub has_dot : (path : Path) (a : ℕ) → IsAt im o l path a → is_directory_in (holding im o a) ≡ true → Says (holding im o a) (codes ".") None → ⊥
  has_dot path a at dir says =
      let is = of.stands.laid.directories a (is_inode path a at) dir in
      none_named (records_of (holding im o a)) (codes ".") (no_record (records_of (holding im o a)) (codes ".") (says_records path a (codes ".") None at dir says)) is.dot.entry (is_in is.dot.entry (records_of (holding im o a)) is.dot.there) is.dot.named

  pub has_dots : (path : Path) (a : ℕ) → IsAt im o l path a → is_directory_in (holding im o a) ≡ true → Says (holding im o a) (codes "..") None → ⊥
  has_dots path a at dir says =
      let is = of.stands.laid.directories a (is_inode path a at) dir in
      none_named (records_of (holding im o a)) (codes "..") (no_record (records_of (holding im o a)) (codes "..") (says_records path a (codes "..") None at dir says)) is.dots.entry (is_in is.dots.entry (records_of (holding im o a)) is.dots.there) is.dots.named

  -- nothing is broken
  pub unbroken : (path : Path) (a rule b : ℕ) → IsAt im o l path a → inode.IsBroken (holding im o a) rule b → ⊥
  unbroken path a rule b at = sound_breaks_nothing (holding im o a) rule b (is_sound path a at)

  pub unbroken_directory : (path : Path) (a rule b : ℕ) → IsAt im o l path a → is_directory_in (holding im o a) ≡ true → dirs.IsBroken v (holding im o a) rule b → ⊥
  unbroken_directory path a rule b at dir broken =
      let is = of.stands.laid.directories a (is_inode path a at) dir in
      sound.unbroken v (holding im o a) (sound_directory path a at dir) dir (own_inside a) (λ r has low. named_in_group r.address a r.name (is.down r has low).owner) (λ r has low. (is.down r has low).name) is.entries is.links rule b broken

  -- so nothing of an inode on a path is wrong
  pub nothing_wrong : (path : Path) (a rule b : ℕ) → IsAt im o l path a → IsWrongAt v a rule b → ⊥
  nothing_wrong path a rule b at (IsWrongAt.in_inode r c broken) = unbroken path a r c at (broken (holding im o a) (is_shown path a at))
  nothing_wrong path a rule b at (IsWrongAt.in_directory r c is broken) =
      let dir = is (holding im o a) (is_shown path a at) in
      unbroken_directory path a r c at dir (broken (holding im o a) (shown_directory path a at dir))
  nothing_wrong path a rule b at (IsWrongAt.no_dot is linear none) =
      let dir = is (holding im o a) (is_shown path a at) in
      has_dot path a at dir (none (holding im o a) (shown_directory path a at dir))
  nothing_wrong path a rule b at (IsWrongAt.no_dots is linear none) =
      let dir = is (holding im o a) (is_shown path a at) in
      has_dots path a at dir (none (holding im o a) (shown_directory path a at dir))
  nothing_wrong path a rule b at (IsWrongAt.too_few own up is linear has few) =
      let dir = is (holding im o a) (is_shown path a at) in
      let says = has (holding im o a) (shown_directory path a at dir) in
      let counted = (of.stands.laid.directories a (is_inode path a at) dir).entries in
      let long = two_records (records_of (holding im o a)) own up (says_records path a (codes ".") (Some own) at dir says.0) (says_records path a (codes "..") (Some up) at dir says.1) in
      let low = few (holding im o a) (is_shown path a at) in
      omega (arith, counted, long, low)
  nothing_wrong path a rule b at (IsWrongAt.few_in_leaves is few) =
      let dir = is (holding im o a) (is_shown path a at) in
      let of_a = of.stands.laid.directories a (is_inode path a at) dir in
      let low = (few (holding im o a) (shown_directory path a at dir)).2 in
      let long = two_long (records_of (holding im o a)) of_a.dot.entry of_a.dots.entry (is_in of_a.dot.entry (records_of (holding im o a)) of_a.dot.there) (is_in of_a.dots.entry (records_of (holding im o a)) of_a.dots.there)
      (λ same. dots_differ (sym of_a.dot.named ∙ ap (λ (q : Record). q.name) same ∙ of_a.dots.named)) in
      omega (arith, of_a.entries, long, low)
