-- The general law: an image that stands, with a change of few blocks that keeps its names, is laid out right.
use Rattle.std.proofs.Common.{◌≡◌, ℕ, ◌<◌, ◌≤◌, ◌⊎◌, inl, inr, Bool, true, false, List, [], ◌∷◌, length, None, Some, refl, sym, ap, ◌∙◌, subst, arith, slice_get, true≢false}
use Rattle.std.specs.Prelude.{codes}
use Rattle.std.proofs.lemmas.Bool.{cases_Bool, cases_lt, cond-true, cond-false, eqb-true}
use Rattle.file_tree.specs.Apply.{file_limit}
use Rattle.gfs2_layout.specs.Device.{IsBlockSize, superblock_place}
use Rattle.gfs2_layout.specs.Headers.{HasHeader}
use Rattle.gfs2_layout.specs.Structures.{superblock_of, is_regular}
use Rattle.gfs2_layout.specs.declared.dinode.Dinode.{Dinode}
use Rattle.gfs2_layout.specs.declared.rindex.Rindex.{Rindex}
use Rattle.gfs2_layout.specs.Holding.{Holding}
use Rattle.gfs2_layout.specs.Inode.{Head, IsInode, dinode_in, is_directory_in, records_of}
use Rattle.gfs2_layout.specs.Records.{Record, is_dots}
use Rattle.image_model.specs.Flat.{Path, Node, no_node, follow}
use Rattle.image_model.specs.Nodes.{node_of}
use Rattle.image_model.specs.Groups.{GroupsFit, IsListed, IsDataOf, group_blocks, states_of, IsGroup}
use Rattle.image_model.specs.Image.{Image, IsImage}
use Rattle.image_model.specs.Journals.{journal_name, IsJournal}
use Rattle.image_model.specs.Owners.{Owner, Owners, Super, InGroup, Free, Nobody, Root, Master, Named, Below, Chained, Up, up_of, parent_of, is_dinode, IsUsed, holding}
use Rattle.image_model.specs.Stands.{Layout, IsSuper, IsZoned, flat_of, heads_of, kind_of, IsRecordOf, HasRecord, LeadsDown, IsDirectory, IsSystem, IsFound, AreShort, IsLaid, IsJournalAt}
use Rattle.image_model.proofs.Held.{none_some, some_same}
use Rattle.image_model.proofs.Reach.{named_child}
use Rattle.image_model.proofs.Table.{lies, in_header, in_data, in_none}
use Rattle.image_changes.specs.Changes.{inode_of, IsOf, Becomes, kept, another_part, of_group, changed, IsChange, KeepsNames, SystemStays}
use Rattle.image_changes.specs.Flats.{IsNamed}
use Rattle.image_changes.specs.Laws.{StaysLaid}
use Rattle.image_changes.proofs.FlatPaths.{one_top, follow_kept, after_some}
use Rattle.image_changes.proofs.States.{groups_stay}
use Rattle.image_changes.proofs.Frame.{OfWhat, free_block, of_inode, of_what, of_untouched, row_kept, same_dinode, same_holding, flat_same, head_same, within_after}

-- ---- owners

pub up_row : (o : Owner) (u : Up) → up_of o ≡ Some u → o ≡ Named u.parent u.name
up_row Super u e = cc
up_row (InGroup g) u e = cc
up_row (Free g) u e = cc
up_row Nobody u e = cc
up_row Root u e = cc
up_row Master u e = cc
up_row (Named parent name) u e = λ i. Named (some_same e i).parent (some_same e i).name
up_row (Below d b k level first) u e = cc
up_row (Chained d hash place) u e = cc

pub row_up : (o : Owner) (p : ℕ) (name : List ℕ) → o ≡ Named p name → up_of o ≡ Some (record { parent = p; name = name })
row_up o p name e = ap up_of e

pub row_dinode : (o : Owner) (p : ℕ) (name : List ℕ) → o ≡ Named p name → is_dinode o ≡ true
row_dinode o p name e = ap is_dinode e

-- a regular file is no directory
pub plain_file : (h : Holding) → is_regular (dinode_in h) ≡ true → is_directory_in h ≡ false
plain_file h e = elim (cases_Bool (is_directory_in h)) [
  | inr plain ↦ plain
  | inl dir ↦ absurd (omega (arith, eqb-true _ 4 dir, eqb-true _ 8 e))
]

-- a block is a data block of one group
pub one_group : (im : Image) (groups : List Rindex) → GroupsFit im groups → (g h : Rindex) (b : ℕ) → IsListed groups g → IsListed groups h → IsDataOf g b → IsDataOf h b → g.address ≡ h.address
one_group im groups fit g h b at at' is is' = elim (cases_lt at.0 at'.0) [
  | inl less ↦ absurd (omega (arith, fit.rise at.0 at'.0 g h at.1 at'.1 less, is.high, is'.low, (fit.each h at').first, (fit.each h at').some))
  | inr more ↦ elim (cases_lt at'.0 at.0) [
    | inl less ↦ absurd (omega (arith, fit.rise at'.0 at.0 h g at'.1 at.1 less, is'.high, is.low, (fit.each g at).first, (fit.each g at).some))
    | inr more' ↦ ap (λ (g : Rindex). g.address) (some_same (sym at.1 ∙ ap (slice_get groups) (omega (arith, more, more')) ∙ at'.1))
  ]
]

-- groups fit an image by its size alone
pub fits_still : (im im' : Image) (groups : List Rindex) → im'.size ≡ im.size → im'.count ≡ im.count → GroupsFit im groups → GroupsFit im' groups
fits_still im im' groups size count fit = record {
  each = λ g at. let f = fit.each g at in
      record { above = rw size f.above; some = f.some; first = f.first; whole = f.whole; bits = rw size f.bits; inside = rw count f.inside };
  rise = fit.rise;
  rest = λ b high low. fit.rest b (subst (λ n. superblock_place n < b) size high) (subst (λ n. b < n) count low);
}

-- ---- what names lead to, where directories are right

-- what a name in an inode leads to is named there
pub child_row : (im : Image) (o : Owners) → ((a : ℕ) → is_dinode (o a) ≡ true → is_directory_in (holding im o a) ≡ true
    → IsDirectory (heads_of im o) o a (records_of (holding im o a)) (dinode_in (holding im o a)))
    → (a b : ℕ) (name : List ℕ) → (flat_of im o a).child name ≡ Some b → (is_dinode (o a) ≡ true) × (is_dots name ≡ false) × (o b ≡ Named a name)
child_row im o directories a b name e = elim (cases_Bool (is_dinode (o a))) [
  | inr non ↦ absurd (none_some (ap (λ (n : Node). n.child name) (sym (cond-false _ (node_of (holding im o a)) no_node non)) ∙ e))
  | inl so ↦
      let child = named_child (holding im o a) name b (ap (λ (n : Node). n.child name) (sym (cond-true _ (node_of (holding im o a)) no_node so)) ∙ e) in
      let down = (directories a so child.directory).down child.leads.entry child.leads.there (ap is_dots child.leads.named ∙ child.name_is) in
      (so, child.name_is, ap o (sym child.leads.address) ∙ down.owner ∙ ap (Named a) child.leads.named)
]

pub tops_named : (im : Image) (o : Owners) → ((a b : ℕ) (name : List ℕ) → (flat_of im o a).child name ≡ Some b → o b ≡ Named a name)
    → (top : ℕ) → up_of (o top) ≡ None → IsNamed (flat_of im o) (λ b. up_of (o b)) top
tops_named im o rows top none = record { once = λ a b name e. row_up (o b) a name (rows a b name e); unnamed = none }

module _ (im : Image) (o : Owners) (l : Layout) (laid : IsLaid im o l) where
  pub child_rows : (a b : ℕ) (name : List ℕ) → (flat_of im o a).child name ≡ Some b → (is_dinode (o a) ≡ true) × (is_dots name ≡ false) × (o b ≡ Named a name)
  child_rows = child_row im o laid.directories

  pub root_named : IsNamed (flat_of im o) (λ b. up_of (o b)) l.root
  root_named = tops_named im o (λ a b name e. (child_rows a b name e).2) l.root (ap up_of laid.root.0)

  pub master_named : IsNamed (flat_of im o) (λ b. up_of (o b)) l.master
  master_named = tops_named im o (λ a b name e. (child_rows a b name e).2) l.master (ap up_of laid.master)

  pub tops_differ : l.root ≡ l.master → ⊥
  tops_differ e = no (sym laid.root.0 ∙ ap o e ∙ laid.master)
    where
      no : Root ≡ Master → ⊥
      no e = cc

  -- what is found from the root isn't found from the master directory
  pub apart : (p q : Path) (a : ℕ) → follow (flat_of im o) l.root p ≡ Some a → follow (flat_of im o) l.master q ≡ Some a → ⊥
  apart p q a e f = tops_differ (one_top (flat_of im o) (λ b. up_of (o b)) l.root l.master root_named master_named p q a e f)

  -- a journal is found from the master directory, and so not from the root; the directory of journals names it
  pub journal_apart : (path : Path) (j d : ℕ) → IsJournalAt l j d → follow (flat_of im o) l.root path ≡ Some d → ⊥
  journal_apart path j d at found = apart path (codes "jindex" ∷ journal_name j ∷ []) d found (rw (laid.system.jindex, laid.system.journals j d at) refl)

  pub journal_owner : (j d : ℕ) → IsJournalAt l j d → o d ≡ Named l.jindex (journal_name j)
  journal_owner j d at = (child_rows l.jindex d (journal_name j) (laid.system.journals j d at)).2

  -- what is found is an inode
  pub follow_dinode : (q : Path) (x a : ℕ) → is_dinode (o x) ≡ true → follow (flat_of im o) x q ≡ Some a → is_dinode (o a) ≡ true
  follow_dinode [] x a so e = ap (λ z. is_dinode (o z)) (sym (some_same e)) ∙ so
  follow_dinode (n ∷ q) x a so e =
      let s = after_some (λ b. follow (flat_of im o) b q) ((flat_of im o x).child n) a e in
      follow_dinode q s.0 a (row_dinode (o s.0) x n (child_rows x s.0 n s.1).2) s.2

module _ (im im' : Image) (o o' : Owners) (l : Layout) (touched written : ℕ → Bool) (laid : IsLaid im o l) (change : IsChange im im' o o' l touched written) (names : KeepsNames im im' o o' l touched) where
  same_flat : (a : ℕ) → touched a ≡ false → flat_of im' o' a ≡ flat_of im o a
  same_flat = flat_same im im' o o' l touched written change

  same_held : (a : ℕ) → touched a ≡ false → holding im' o' a ≡ holding im o a
  same_held = same_holding im im' o o' l touched written change

  still : (a : ℕ) → touched a ≡ false → is_dinode (o' a) ≡ is_dinode (o a)
  still = same_dinode im im' o o' l touched written change

  -- a block keeps its owner and its bytes where nobody could touch it
  nobody_touches : (b : ℕ) (x : Owner) → o b ≡ x → (IsOf touched b x → ⊥) → ((a : ℕ) → inode_of b x ≡ Some a → ⊥) → ((g : ℕ) → x ≡ InGroup g → change.altered g ≡ false) → (o' b ≡ x) × (im'.at b ≡ im.at b)
  nobody_touches b x row not no_inode unaltered = each (change.blocks b)
    where
      each : Becomes touched change.altered written b (o b) (o' b) (im.at b) (im'.at b) → (o' b ≡ x) × (im'.at b ≡ im.at b)
      each (kept e f) = (e ∙ row, f)
      each (another_part a t e f same) = absurd (no_inode a (ap (inode_of b) (sym row) ∙ e))
      each (of_group g t w e f) = absurd (true≢false (sym t ∙ unaltered g (sym row ∙ e)))
      each (changed w h h') = absurd (not (subst (IsOf touched b) row h))

  super_kept : (b : ℕ) → o b ≡ Super → (o' b ≡ Super) × (im'.at b ≡ im.at b)
  super_kept b row = nobody_touches b Super row (λ h. none_some h.1) (λ a e. none_some e) (λ g e. absurd (no g e))
    where
      no : (g : ℕ) → Super ≡ InGroup g → ⊥
      no g e = cc

  nobody_kept : (b : ℕ) → o b ≡ Nobody → o' b ≡ Nobody
  nobody_kept b row = (nobody_touches b Nobody row (λ h. none_some h.1) (λ a e. none_some e) (λ g e. absurd (no g e))).0
    where
      no : (g : ℕ) → Nobody ≡ InGroup g → ⊥
      no g e = cc

  -- a group's header and bitmap stay that, and keep their bytes where the group isn't altered
  header_kept : (b g : ℕ) → o b ≡ InGroup g → o' b ≡ InGroup g
  header_kept b g row = each (change.blocks b)
    where
      each : Becomes touched change.altered written b (o b) (o' b) (im.at b) (im'.at b) → o' b ≡ InGroup g
      each (kept e f) = e ∙ row
      each (another_part a t e f same) = absurd (none_some (ap (inode_of b) (sym row) ∙ e))
      each (of_group x t w e f) = f ∙ sym e ∙ row
      each (changed w h h') = absurd (none_some (subst (IsOf touched b) row h).1)

  header_bytes : (b g : ℕ) → o b ≡ InGroup g → change.altered g ≡ false → im'.at b ≡ im.at b
  header_bytes b g row away = (nobody_touches b (InGroup g) row (λ h. none_some h.1) (λ a e. none_some e) (λ x e. ap change.altered (sym (same_group e)) ∙ away)).1
    where
      same_group : {x y : ℕ} → InGroup x ≡ InGroup y → x ≡ y
      same_group e = cc

  image_after : IsImage im'
  image_after = record {
    block_size = subst IsBlockSize (sym change.size) laid.image.block_size;
    whole = λ b low. whole b (subst (λ n. b < n) change.count low) (change.blocks b) ∙ sym change.size;
  }
    where
      whole : (b : ℕ) → b < im.count → Becomes touched change.altered written b (o b) (o' b) (im.at b) (im'.at b) → length (im'.at b) ≡ im.size
      whole b low (kept e f) = ap length f ∙ laid.image.whole b low
      whole b low (another_part a t e f same) = ap length same ∙ laid.image.whole b low
      whole b low (of_group g t w e f) = change.whole b w low
      whole b low (changed w h h') = change.whole b w low

  super_after : IsSuper im' l
  super_after = record {
    inside = subst (λ n. superblock_place n < im'.count) (sym change.size) (subst (λ n. superblock_place im.size < n) (sym change.count) laid.super.inside);
    header = subst (HasHeader 1 100) (sym block) laid.super.header;
    root = ap (λ b. (superblock_of b).root.address) block ∙ laid.super.root;
    master = ap (λ b. (superblock_of b).master.address) block ∙ laid.super.master;
  }
    where
      block : im'.at (superblock_place im'.size) ≡ im.at (superblock_place im.size)
      block = ap (λ n. im'.at (superblock_place n)) change.size ∙ (super_kept (superblock_place im.size) (laid.zoned.low (superblock_place im.size) (omega arith))).1

  fit_after : GroupsFit im' l.groups
  fit_after = fits_still im im' l.groups change.size change.count laid.fit

  groups_after : (g : Rindex) → IsListed l.groups g → IsGroup g (group_blocks im'.at g) (states_of o' g)
  groups_after g at = elim (cases_Bool (change.altered g.address)) [
    | inl here ↦ change.groups g at here
    | inr away ↦ groups_stay im im' o o' g (λ b is. header_bytes b g.address (laid.zoned.headers g at b is) away) (λ b is. change.states g b at away is) (laid.groups g at)
  ]

  -- ---- zones

  zoned_after : IsZoned im' l o'
  zoned_after = record {
    low = λ b low. (super_kept b (laid.zoned.low b (subst (λ n. b ≤ superblock_place n) change.size low))).0;
    headers = λ g at b is. header_kept b g.address (laid.zoned.headers g at b is);
    data_blocks = λ g at b is. data_block g at b is (laid.zoned.data_blocks g at b is) (change.blocks b);
    placed = λ b used. place b used (change.blocks b);
    between = λ b high none. nobody_kept b (laid.zoned.between b (subst (λ n. superblock_place n < b) change.size high) none);
  }
    where
      its_used : (b a : ℕ) (x : Owner) → inode_of b x ≡ Some a → IsUsed x
      its_used b a Root e = tt
      its_used b a Master e = tt
      its_used b a (Named p name) e = tt
      its_used b a (Below d p k level first) e = tt
      its_used b a (Chained d hash place) e = tt
      its_used b a Super e = absurd (none_some e)
      its_used b a (InGroup g) e = absurd (none_some e)
      its_used b a (Free g) e = absurd (none_some e)
      its_used b a Nobody e = absurd (none_some e)

      used_of : (g : Rindex) (b : ℕ) → IsListed l.groups g → IsDataOf g b → written b ≡ true → OfWhat touched b (o' b) → (o' b ≡ Free g.address) ⊎ IsUsed (o' b)
      used_of g b at is w (of_inode a e t) = inr (its_used b a (o' b) e)
      used_of g b at is w (free_block x e) =
          let own = change.freed b x w e in
          inl (e ∙ ap Free (own.3 ∙ one_group im l.groups laid.fit own.0 g b own.1 at own.2 is))

      either : {x y : Owner} (g : ℕ) → x ≡ y → (y ≡ Free g) ⊎ IsUsed y → (x ≡ Free g) ⊎ IsUsed x
      either g e (inl f) = inl (e ∙ f)
      either g e (inr u) = inr (subst IsUsed (sym e) u)

      data_block : (g : Rindex) → IsListed l.groups g → (b : ℕ) → IsDataOf g b → (o b ≡ Free g.address) ⊎ IsUsed (o b) → Becomes touched change.altered written b (o b) (o' b) (im.at b) (im'.at b)
          → (o' b ≡ Free g.address) ⊎ IsUsed (o' b)
      data_block g at b is before (kept e f) = either g.address e before
      data_block g at b is before (another_part a t e f same) = inr (its_used b a (o' b) f)
      data_block g at b is before (of_group x t w e f) = absurd (no_header before)
        where
          no_free : InGroup x ≡ Free g.address → ⊥
          no_free e = cc

          no_header : (o b ≡ Free g.address) ⊎ IsUsed (o b) → ⊥
          no_header (inl free) = no_free (sym e ∙ free)
          no_header (inr used) = subst IsUsed e used
      data_block g at b is before (changed w h h') = used_of g b at is w (of_what touched b (o' b) h')

      -- a free block, or one in use, is a group's data block
      of_placed : (b : ℕ) → OfWhat touched b (o b) → (g : Rindex) × IsListed l.groups g × IsDataOf g b
      of_placed b (of_inode a e t) = laid.zoned.placed b (its_used b a (o b) e)
      of_placed b (free_block x row) = elim (lies l.groups b) [
        | in_header g at is ↦ absurd (differ g.address (sym row ∙ laid.zoned.headers g at b is))
        | in_data g at is ↦ (g, at, is)
        | in_none none ↦ elim (cases_lt (superblock_place im.size) b) [
          | inl high ↦ absurd (nobody (sym row ∙ laid.zoned.between b high none))
          | inr low ↦ absurd (super (sym row ∙ laid.zoned.low b low))
        ]
      ]
        where
          differ : (g : ℕ) → Free x ≡ InGroup g → ⊥
          differ g e = cc

          nobody : Free x ≡ Nobody → ⊥
          nobody e = cc

          super : Free x ≡ Super → ⊥
          super e = cc

      place : (b : ℕ) → IsUsed (o' b) → Becomes touched change.altered written b (o b) (o' b) (im.at b) (im'.at b) → (g : Rindex) × IsListed l.groups g × IsDataOf g b
      place b used (kept e f) = laid.zoned.placed b (subst IsUsed e used)
      place b used (another_part a t e f same) = laid.zoned.placed b (its_used b a (o b) e)
      place b used (of_group g t w e f) = absurd (subst IsUsed f used)
      place b used (changed w h h') = of_placed b (of_what touched b (o b) h)

  -- ---- names and directories

  -- an inode to which a name leads afterwards is an inode, as is its directory
  parent_after : (a p : ℕ) (name : List ℕ) → o' a ≡ Named p name → is_dinode (o' p) ≡ true
  parent_after a p name row = elim (cases_Bool (touched p)) [
    | inl here ↦ child_dinode (names.names a (record { parent = p; name = name }) here (row_up (o' a) p name row))
    | inr away ↦ still p away ∙ (child_rows im o l laid p a name (laid.names a (record { parent = p; name = name }) (row_up (o a) p name (sym (names.rows a p name away (inr row)) ∙ row)))).0
  ]
    where
      child_dinode : (flat_of im' o' p).child name ≡ Some a → is_dinode (o' p) ≡ true
      child_dinode e = elim (cases_Bool (is_dinode (o' p))) [
        | inl so ↦ so
        | inr non ↦ absurd (none_some (ap (λ (n : Node). n.child name) (sym (cond-false _ (node_of (holding im' o' p)) no_node non)) ∙ e))
      ]

  true_after : (b : ℕ) (r : Record) → is_dinode (o b) ≡ true → is_dinode (o' b) ≡ true → IsRecordOf (heads_of im o) b r → IsRecordOf (heads_of im' o') b r
  true_after b r so so' is =
      let same = head_same im im' o o' l touched written change b so so' in
      record { address = is.address; number = is.number ∙ ap (λ (h : Head). h.number) (sym same); kind = is.kind ∙ ap kind_of (sym same) }

  has_after : (b : ℕ) (records : List Record) (name : List ℕ) → is_dinode (o b) ≡ true → is_dinode (o' b) ≡ true
      → HasRecord (heads_of im o) records name b → HasRecord (heads_of im' o') records name b
  has_after b records name so so' has = record { entry = has.entry; there = has.there; named = has.named; true_of = true_after b has.entry so so' has.true_of }

  -- a directory that isn't touched still names what it named
  directory_after : (a : ℕ) (records : List Record) (d : Dinode) → touched a ≡ false → is_dinode (o a) ≡ true
      → IsDirectory (heads_of im o) o a records d → IsDirectory (heads_of im' o') o' a records d
  directory_after a records d away so is = record {
    dot = has_after a records (codes ".") so (still a away ∙ so) is.dot;
    dots = subst (λ x. HasRecord (heads_of im' o') records (codes "..") (parent_of a x)) (sym row)
        (has_after (parent_of a (o a)) records (codes "..") (above (o a) refl so).0 (above (o a) refl so).1 is.dots);
    once = is.once;
    down = λ r at plain. down r (is.down r at plain);
    entries = is.entries;
    links = is.links;
  }
    where
      row : o' a ≡ o a
      row = row_kept im im' o o' l touched written change a away (inl so)

      above : (x : Owner) → o a ≡ x → is_dinode x ≡ true → (is_dinode (o (parent_of a x)) ≡ true) × (is_dinode (o' (parent_of a x)) ≡ true)
      above (Named p name) e is = ((child_rows im o l laid p a name (laid.names a (record { parent = p; name = name }) (row_up (o a) p name e))).0, parent_after a p name (row ∙ e))
      above Super e is = (so, still a away ∙ so)
      above (InGroup g) e is = (so, still a away ∙ so)
      above (Free g) e is = (so, still a away ∙ so)
      above Nobody e is = (so, still a away ∙ so)
      above Root e is = (so, still a away ∙ so)
      above Master e is = (so, still a away ∙ so)
      above (Below b p k level first) e is = (so, still a away ∙ so)
      above (Chained b hash place) e is = (so, still a away ∙ so)

      down : (r : Record) → LeadsDown (heads_of im o) o a r → LeadsDown (heads_of im' o') o' a r
      down r leads =
          let now : o' r.address ≡ Named a r.name = names.rows r.address a r.name away (inl leads.owner) ∙ leads.owner in
          record {
            name = leads.name;
            owner = now;
            true_of = true_after r.address r (row_dinode (o r.address) a r.name leads.owner) (row_dinode (o' r.address) a r.name now) leads.true_of;
          }

  pub directories_after : (a : ℕ) → is_dinode (o' a) ≡ true → is_directory_in (holding im' o' a) ≡ true
      → IsDirectory (heads_of im' o') o' a (records_of (holding im' o' a)) (dinode_in (holding im' o' a))
  directories_after a so dir = elim (cases_Bool (touched a)) [
    | inl here ↦ names.directories a here so dir
    | inr away ↦
        let same = same_held a away in
        let before : is_dinode (o a) ≡ true = sym (still a away) ∙ so in
        subst (λ h. IsDirectory (heads_of im' o') o' a (records_of h) (dinode_in h)) (sym same)
        (directory_after a (records_of (holding im o a)) (dinode_in (holding im o a)) away before (laid.directories a before (ap is_directory_in (sym same) ∙ dir)))
  ]

  names_after : (a : ℕ) (u : Up) → up_of (o' a) ≡ Some u → (flat_of im' o' u.parent).child u.name ≡ Some a
  names_after a u e = elim (cases_Bool (touched u.parent)) [
    | inl here ↦ names.names a u here e
    | inr away ↦ ap (λ (n : Node). n.child u.name) (same_flat u.parent away) ∙ laid.names a u (ap up_of (sym (names.rows a u.parent u.name away (inr (up_row (o' a) u e)))) ∙ e)
  ]

  -- ---- the system files, and what is found

  pub master_way : (path : Path) → follow (flat_of im' o') l.master path ≡ follow (flat_of im o) l.master path
  master_way path = follow_kept (flat_of im o) (flat_of im' o') path [] l.master l.master refl (λ q y at. ap (λ (n : Node). n.child) (same_flat y (names.system q y at)))

  to_jindex : follow (flat_of im o) l.master (codes "jindex" ∷ []) ≡ Some l.jindex
  to_jindex = rw laid.system.jindex refl

  system_after : IsSystem (flat_of im' o') (holding im' o') l
  system_after =
      let s = laid.system in
      let jindex = same_flat l.jindex (names.system (codes "jindex" ∷ []) l.jindex to_jindex) in
      let rindex = same_flat l.rindex (names.system (codes "rindex" ∷ []) l.rindex (rw s.rindex refl)) in
      let master = same_flat l.master (names.system [] l.master refl) in
      record {
        rindex = ap (λ (n : Node). n.child (codes "rindex")) master ∙ s.rindex;
        groups = (s.groups.0, ap (λ (n : Node). n.thing) rindex ∙ s.groups.1, s.groups.2);
        jindex = ap (λ (n : Node). n.child (codes "jindex")) master ∙ s.jindex;
        directory = ap (λ (n : Node). n.thing) jindex ∙ s.directory;
        journals = λ j d at. ap (λ (n : Node). n.child (journal_name j)) jindex ∙ s.journals j d at;
        last = ap (λ (n : Node). n.child (journal_name (length l.journals))) jindex ∙ s.last;
        rings = λ j d e. ring j d (ap (λ (n : Node). n.child (journal_name j)) (sym jindex) ∙ e);
      }
    where
      ring : (j d : ℕ) → (flat_of im o l.jindex).child (journal_name j) ≡ Some d → IsJournal (holding im' o' d)
      ring j d e = subst IsJournal (sym (same_held d (names.system (codes "jindex" ∷ journal_name j ∷ []) d (rw (laid.system.jindex, e) refl)))) (laid.system.rings j d e)

  master_after : o' l.master ≡ Master
  master_after = row_kept im im' o o' l touched written change l.master (names.system [] l.master refl) (inl (ap is_dinode laid.master)) ∙ laid.master

  root_directory : is_directory_in (holding im' o' l.root) ≡ true
  root_directory = ap (λ (h : Head). h.is_dir) (head_same im im' o o' l touched written change l.root (ap is_dinode laid.root.0) (ap is_dinode names.root)) ∙ laid.root.1

  row_after : (a b : ℕ) (name : List ℕ) → (flat_of im' o' a).child name ≡ Some b → o' b ≡ Named a name
  row_after a b name e = (child_row im' o' directories_after a b name e).2

  apart_after : (p q : Path) (a : ℕ) → follow (flat_of im' o') l.root p ≡ Some a → follow (flat_of im' o') l.master q ≡ Some a → ⊥
  apart_after p q a e f = tops_differ im o l laid (one_top (flat_of im' o') (λ b. up_of (o' b)) l.root l.master
      (tops_named im' o' row_after l.root (ap up_of names.root)) (tops_named im' o' row_after l.master (ap up_of master_after)) p q a e f)

  found_dinode : (q : Path) (x a : ℕ) → is_dinode (o' x) ≡ true → follow (flat_of im' o') x q ≡ Some a → is_dinode (o' a) ≡ true
  found_dinode [] x a so e = ap (λ z. is_dinode (o' z)) (sym (some_same e)) ∙ so
  found_dinode (n ∷ q) x a so e =
      let s = after_some (λ b. follow (flat_of im' o') b q) ((flat_of im' o' x).child n) a e in
      found_dinode q s.0 a (row_dinode (o' s.0) x n (row_after x s.0 n s.1)) s.2

  short_after : AreShort (flat_of im' o') (holding im' o') l
  short_after path a e regular = elim (cases_Bool (touched a)) [
    | inl here ↦ names.short a here dinode (plain_file (holding im' o' a) regular)
    | inr away ↦
        let same = same_held a away in
        subst (λ h. (dinode_in h).size ≤ file_limit) (sym same)
        (by_path away (ap (λ h. is_regular (dinode_in h)) (sym same) ∙ regular) (laid.found a (sym (still a away) ∙ dinode)))
  ]
    where
      dinode : is_dinode (o' a) ≡ true
      dinode = found_dinode path l.root a (ap is_dinode names.root) e

      by_path : touched a ≡ false → is_regular (dinode_in (holding im o a)) ≡ true → IsFound (flat_of im o) l a → (dinode_in (holding im o a)).size ≤ file_limit
      by_path away file (inl way) = laid.short way.0 a way.1 file
      by_path away file (inr way) = absurd (apart_after path way.0 a e (master_way way.0 ∙ way.1))

  -- ---- the system files

  journal_untouched : (j d : ℕ) → IsJournalAt l j d → touched d ≡ false
  journal_untouched j d at = names.system (codes "jindex" ∷ journal_name j ∷ []) d (rw (laid.system.jindex, laid.system.journals j d at) refl)

  -- what is found from the master directory stands where it stood, and has what it had
  system_inode : (path : Path) (a : ℕ) → follow (flat_of im o) l.master path ≡ Some a → touched a ≡ false → (o' a ≡ o a) × (holding im' o' a ≡ holding im o a)
  system_inode path a at away = (row_kept im im' o o' l touched written change a away (inl (follow_dinode im o l laid path l.master a (ap is_dinode laid.master) at)), same_held a away)

  pub system_stays : SystemStays im im' o o' l
  system_stays = record {
    size = change.size;
    count = change.count;
    superblock = (super_kept (superblock_place im.size) (laid.zoned.low (superblock_place im.size) (omega arith))).1;
    inodes = λ path a at. system_inode path a at (names.system path a at);
    rings = λ j d at. same_held d (journal_untouched j d at);
    places = λ b. (
      λ place. (
        place.0,
        place.1,
        place.2,
        place.3,
        place.4,
        place.5,
        sym (of_untouched im im' o o' l touched written change place.1 b (journal_untouched place.0 place.1 place.5) (inr (ap (inode_of b) place.6))).0 ∙ place.6,
      ),
      λ place. (
        place.0,
        place.1,
        place.2,
        place.3,
        place.4,
        place.5,
        (of_untouched im im' o o' l touched written change place.1 b (journal_untouched place.0 place.1 place.5) (inl (ap (inode_of b) place.6))).0 ∙ place.6,
      ),
    );
  }

  pub laid_after : IsLaid im' o' l
  laid_after = record {
    image = image_after;
    super = super_after;
    fit = fit_after;
    zoned = zoned_after;
    groups = groups_after;
    root = (names.root, root_directory);
    master = master_after;
    inodes = λ a so. elim (cases_Bool (touched a)) [
      | inl here ↦ change.inodes a here so
      | inr away ↦ subst IsInode (sym (same_held a away)) (laid.inodes a (sym (still a away) ∙ so))
    ];
    directories = directories_after;
    within = within_after im im' o o' l touched written change laid.within;
    names = names_after;
    found = names.found;
    system = system_after;
    short = short_after;
  }

pub stays_laid : StaysLaid
stays_laid im im' o o' l touched written laid change names = (laid_after im im' o o' l touched written laid change names, system_stays im im' o o' l touched written laid change names)
