-- Contents of free blocks and of the places of journals don't matter.
use Rattle.std.proofs.Common.{◌≡◌, ◌≢◌, ℕ, zero, suc, ◌/◌, ◌%◌, ◌<◌, ◌≤◌, ◌⊎◌, inl, inr, true, false, List, [], ◌∷◌, length, Option, None, Some, slice_get, refl, sym, ap, ◌∙◌, subst, arith}
use Rattle.std.specs.Prelude.{codes, ◌==◌, if◌then◌else◌}
use Rattle.std.proofs.lemmas.Bool.{cases_Bool, cases_eq, cond-false, ne_eqb, true≢false}
use Rattle.file_tree.specs.Tree.{Tree}
use Rattle.file_tree.specs.Apply.{file_limit}
use Rattle.gfs2_layout.specs.Device.{IsBlockSize, superblock_place}
use Rattle.gfs2_layout.specs.Headers.{HasHeader}
use Rattle.gfs2_layout.specs.Structures.{superblock_of, dinode_of, is_directory, is_regular}
use Rattle.gfs2_layout.specs.declared.dinode.Dinode.{Dinode}
use Rattle.gfs2_layout.specs.declared.rindex.Rindex.{Rindex}
use Rattle.log_layout.specs.Journal.{ring_of}
use Rattle.log_layout.specs.Live.{IsReadable}
use Rattle.gfs2_layout.specs.Holding.{Part, Itself, Pointed, cell_part, cell_bytes, part_at, bytes_at}
use Rattle.gfs2_layout.specs.Inode.{head_of, dinode_in, is_directory_in, content_block, records_of, IsInode}
use Rattle.image_model.specs.Flat.{Path, AFile, ADir, Node, no_node, follow, ReadsAs}
use Rattle.image_model.specs.Groups.{IsListed, group_blocks, states_of, IsGroup}
use Rattle.image_model.specs.Image.{Image}
use Rattle.image_model.specs.Journals.{journal_name, IsJournal}
use Rattle.image_model.specs.Nodes.{node_of}
use Rattle.image_model.proofs.Lengths.{place_low, place_high, size_large}
use Rattle.image_model.proofs.Reach.{used_low}
use Rattle.image_model.proofs.Unique.{used_or_not, unused_part}
use Rattle.image_model.specs.Owners.{Owner, Owners, Super, InGroup, Free, Master, Named, Below, is_dinode, IsUsed, part_in, cell_of, cell_in, holding}
use Rattle.image_model.specs.Stands.{Layout, IsJournalAt, IsLaid, IsSystem, IsDirectory, flat_of, heads_of}
use Rattle.image_model.proofs.Held.{none_some, some_same, own_part, own_block, pointed_part}
use Rattle.image_changes.specs.Changes.{IsRingPlace}
use Rattle.image_changes.specs.Contents.{SameButContent, OnlyPlacesChange, IsAsLarge, FreeBlocksDoNotMatter, PlacesDoNotMatter}
use Rattle.image_changes.proofs.FlatPaths.{unreached, follow_kept}
use Rattle.image_changes.proofs.FileContent.{file_after, content_block_after}
use Rattle.image_changes.proofs.States.{map_same}
use Rattle.image_changes.proofs.Nodes.{file_thing, file_child}
use Rattle.image_changes.proofs.Laid.{fits_still, apart, journal_apart, journal_owner, child_rows, follow_dinode, row_dinode, plain_file}

module _ (im im' : Image) (o : Owners) (l : Layout) (large : IsAsLarge im im')
    (bytes : (b : ℕ) → (im'.at b ≡ im.at b) ⊎ (((g : ℕ) × (o b ≡ Free g)) ⊎ IsRingPlace o l b))
    (readable : (j d : ℕ) → IsJournalAt l j d → IsReadable (ring_of (holding im' o d))) (laid : IsLaid im o l) where
  -- a block of any other owner has the bytes that it had
  kept : (b : ℕ) → ((g : ℕ) → o b ≢ Free g) → (IsRingPlace o l b → ⊥) → im'.at b ≡ im.at b
  kept b not not' = elim (bytes b) [ inl e ↦ e | inr (inl free) ↦ absurd (not free.0 free.1) | inr (inr place) ↦ absurd (not' place) ]

  dinode_kept : (a : ℕ) → is_dinode (o a) ≡ true → im'.at a ≡ im.at a
  dinode_kept a so = kept a (λ g e. true≢false (sym so ∙ ap is_dinode e)) (λ place. true≢false (sym so ∙ ap is_dinode place.6))

  -- an inode that is none of the journals has what it had
  abbrev IsOfJournal : ℕ → Type 0
  IsOfJournal a = (j : ℕ) × IsJournalAt l j a

  part_none : (a d : ℕ) (p : Part) → d ≢ a → (if d == a then Some p else None) ≡ None
  part_none a d p apart = cond-false _ (Some p) None (ne_eqb d a apart)

  same_cell : (a b : ℕ) → (IsOfJournal a → ⊥) → cell_in im' o a b ≡ cell_in im o a b
  unfolding cell_in
  same_cell a b other = elim (bytes b) [
    | inl e ↦ ap (cell_of (part_in a b (o b))) e
    | inr (inl free) ↦ ap (λ x. cell_of (part_in a b x) (im'.at b)) free.1 ∙ sym (ap (λ x. cell_of (part_in a b x) (im.at b)) free.1)
    | inr (inr place) ↦
        let none : part_in a b (o b) ≡ None = ap (part_in a b) place.6 ∙ part_none a place.1 _ (λ e. other (place.0, subst (IsJournalAt l place.0) e place.5)) in
        ap (λ x. cell_of x (im'.at b)) none ∙ sym (ap (λ x. cell_of x (im.at b)) none)
  ]

  same_holding : (a : ℕ) → (IsOfJournal a → ⊥) → holding im' o a ≡ holding im o a
  same_holding a other = λ i. record { size = large.size i; count = large.count i; own = a; cell = λ b. same_cell a b other i }

  -- a journal is an inode that the directory of journals names
  journal_row : (j d : ℕ) → IsJournalAt l j d → IsJournal (holding im o d) × (o d ≡ Named l.jindex (journal_name j))
  journal_row j d at = (laid.system.rings j d (laid.system.journals j d at), journal_owner im o l laid j d at)

  journal_dinode : (j d : ℕ) → IsJournalAt l j d → is_dinode (o d) ≡ true
  journal_dinode j d at = row_dinode (o d) l.jindex (journal_name j) (journal_row j d at).1

  -- a journal has its blocks, and other bytes in those of its content alone
  same_parts : (a b : ℕ) → part_at (holding im' o a) b ≡ part_at (holding im o a) b
  unfolding cell_in
  same_parts a b = each (part_in a b (o b))
    where
      each : (x : Option Part) → cell_part (cell_of x (im'.at b)) ≡ cell_part (cell_of x (im.at b))
      each None = refl
      each (Some p) = refl

  journal_same : (j d : ℕ) → IsJournalAt l j d → SameButContent (holding im o d) (holding im' o d)
  unfolding cell_in
  journal_same j d at = record {
    size = large.size;
    count = large.count;
    own = refl;
    parts = same_parts d;
    lengths = lengths;
    bytes = same_bytes;
  }
    where
      lengths : (b : ℕ) → length (bytes_at (holding im' o d) b) ≡ length (bytes_at (holding im o d) b)
      lengths b = each (part_in d b (o b)) refl
        where
          each : (x : Option Part) → part_in d b (o b) ≡ x → length (cell_bytes (cell_of x (im'.at b))) ≡ length (cell_bytes (cell_of x (im.at b)))
          each None e = refl
          each (Some p) e =
              let low = used_low im o l laid b (used_in (o b) e) in
              large.whole b low ∙ sym (laid.image.whole b low)
            where
              used_in : (x : Owner) → part_in d b x ≡ Some p → IsUsed x
              used_in x e = elim (used_or_not x) [ inl used ↦ used | inr un ↦ absurd (none_some (sym (unused_part d b x un) ∙ e)) ]

      same_bytes : (b : ℕ) → ((above k first : ℕ) → part_at (holding im o d) b ≢ Some (Pointed above k 0 first)) → bytes_at (holding im' o d) b ≡ bytes_at (holding im o d) b
      same_bytes b not = elim (bytes b) [
        | inl e ↦ ap (λ x. cell_bytes (cell_of (part_in d b (o b)) x)) e
        | inr (inl free) ↦ ap (λ x. cell_bytes (cell_of (part_in d b x) (im'.at b))) free.1 ∙ sym (ap (λ x. cell_bytes (cell_of (part_in d b x) (im.at b))) free.1)
        | inr (inr place) ↦ elim (cases_eq place.1 d) [
          | inl e ↦ absurd (not place.2 place.3 place.4 (pointed_part im o d b place.2 place.3 0 place.4 (place.6 ∙ ap (λ z. Below z place.2 place.3 0 place.4) e)))
          | inr apart ↦
              let none : part_in d b (o b) ≡ None = ap (part_in d b) place.6 ∙ part_none d place.1 _ apart in
              ap (λ x. cell_bytes (cell_of x (im'.at b))) none ∙ sym (ap (λ x. cell_bytes (cell_of x (im.at b))) none)
        ]
      ]

  own_is : (j d : ℕ) → IsJournalAt l j d → part_at (holding im o d) d ≡ Some Itself
  own_is j d at = own_part im o d (journal_dinode j d at)

  journal_inode : (j d : ℕ) → (at : IsJournalAt l j d) → IsInode (holding im' o d)
  journal_inode j d at = file_after (holding im o d) (holding im' o d) (journal_row j d at).0.file (own_is j d at) (journal_same j d at) (laid.inodes d (journal_dinode j d at))

  dinode_same : (a : ℕ) → is_dinode (o a) ≡ true → dinode_in (holding im' o a) ≡ dinode_in (holding im o a)
  unfolding dinode_in
  dinode_same a so = ap dinode_of (own_block im' o a so ∙ dinode_kept a so ∙ sym (own_block im o a so))

  -- the places of its ring are the blocks that they were
  place_kept : (j d : ℕ) → (at : IsJournalAt l j d) → (p : ℕ) → p < (ring_of (holding im o d)).places → content_block (holding im' o d) p ≡ content_block (holding im o d) p
  place_kept j d at p low =
      let large' = size_large im.size laid.image.block_size in
      let sound = laid.inodes d (journal_dinode j d at) in
      let high = place_high im o large' d (journal_dinode j d at) sound (journal_row j d at).0 p low in
      let inside = place_low im o large' d (journal_dinode j d at) sound (journal_row j d at).0 p low in
      content_block_after (holding im o d) (holding im' o d) (journal_row j d at).0.file (own_is j d at) (journal_same j d at) sound high.0 high.1 p (omega (arith, inside, sound.fits.under high.0 high.1))

  pub only_places : OnlyPlacesChange im im' o l
  only_places = record {
    others = λ a other. same_holding a (λ of. other of.0 of.1);
    places = λ j d p at low. place_kept j d at p low;
    as_many = λ j d at. λ i. (dinode_same d (journal_dinode j d at) i).size / large.size i;
  }

  journal_after : (j d : ℕ) → IsJournalAt l j d → IsJournal (holding im' o d)
  journal_after j d at =
      let was = (journal_row j d at).0 in
      let same = dinode_same d (journal_dinode j d at) in
      record {
        file = ap is_regular same ∙ was.file;
        whole = (λ i. (same i).size % large.size i) ∙ was.whole;
        filled = λ p low. filled p (subst (λ n. p < n) (λ i. (same i).size / large.size i) low);
        readable = readable j d at;
      }
    where
      filled : (p : ℕ) → p < (ring_of (holding im o d)).places → content_block (holding im' o d) p ≢ 0
      filled p low e = (journal_row j d at).0.filled p low (sym (place_kept j d at p low) ∙ e)

  -- ---- each inode

  journal_or_not : (a : ℕ) → IsOfJournal a ⊎ (IsOfJournal a → ⊥)
  journal_or_not a = listed l.journals a
    where
      listed : (ds : List ℕ) (a : ℕ) → ((j : ℕ) × (slice_get ds j ≡ Some a)) ⊎ (((j : ℕ) × (slice_get ds j ≡ Some a)) → ⊥)
      listed [] a = inr (λ h. none_some h.1)
      listed (d ∷ ds) a = elim (cases_eq d a) [
        | inl e ↦ inl (0, ap Some e)
        | inr apart ↦ elim (listed ds a) [ inl h ↦ inl (suc h.0, h.1) | inr not ↦ inr (λ h. by_place apart not h.0 h.1) ]
      ]
        where
          by_place : d ≢ a → (((j : ℕ) × (slice_get ds j ≡ Some a)) → ⊥) → (j : ℕ) → slice_get (d ∷ ds) j ≡ Some a → ⊥
          by_place apart not zero e = apart (some_same e)
          by_place apart not (suc j) e = not (j, e)

  heads_same : heads_of im' o ≡ heads_of im o
  heads_same = λ i a. each a i
    where
      each : (a : ℕ) → heads_of im' o a ≡ heads_of im o a
      each a = elim (journal_or_not a) [
        | inr other ↦ ap head_of (same_holding a other)
        | inl of ↦ ap (λ (d : Dinode). record { number = d.num.number; is_dir = is_directory d }) (dinode_same a (journal_dinode of.0 a of.1))
      ]

  no_directory : (j a : ℕ) → IsJournalAt l j a → is_directory_in (holding im o a) ≡ false
  no_directory j a at = plain_file (holding im o a) (journal_row j a at).0.file

  -- each name leads where it led, and but for journals each inode says what it said
  child_same : (a : ℕ) → (flat_of im' o a).child ≡ (flat_of im o a).child
  child_same a = elim (journal_or_not a) [
    | inr other ↦ ap (λ h. (if is_dinode (o a) then node_of h else no_node).child) (same_holding a other)
    | inl of ↦
        let so = journal_dinode of.0 a of.1 in
        let plain = no_directory of.0 a of.1 in
        λ i name. (file_child im' o a so (ap is_directory (dinode_same a so) ∙ plain) name ∙ sym (file_child im o a so plain name)) i
  ]

  follow_same : (q : Path) (x : ℕ) → follow (flat_of im' o) x q ≡ follow (flat_of im o) x q
  follow_same q x = follow_kept (flat_of im o) (flat_of im' o) q [] x x refl (λ s y e. child_same y)

  flat_same : (a : ℕ) → (IsOfJournal a → ⊥) → flat_of im' o a ≡ flat_of im o a
  flat_same a other = ap (λ h. if is_dinode (o a) then node_of h else no_node) (same_holding a other)

  -- ---- the whole

  group_same : (g : Rindex) → IsListed l.groups g → group_blocks im'.at g ≡ group_blocks im.at g
  group_same g at = map_same im'.at im.at g.address g.length (λ b low high. header b (laid.zoned.headers g at b (record { low = low; high = high })))
    where
      header : (b : ℕ) → o b ≡ InGroup g.address → im'.at b ≡ im.at b
      header b row = kept b (λ x e. not_free x (sym row ∙ e)) (λ place. not_below place.1 place.2 place.3 place.4 (sym row ∙ place.6))
        where
          not_free : (x : ℕ) → InGroup g.address ≡ Free x → ⊥
          not_free x e = cc

          not_below : (d x k first : ℕ) → InGroup g.address ≡ Below d x k 0 first → ⊥
          not_below d x k first e = cc

  super_same : im'.at (superblock_place im'.size) ≡ im.at (superblock_place im.size)
  super_same = ap (λ n. im'.at (superblock_place n)) large.size
      ∙ kept (superblock_place im.size) (λ x e. not_free x (sym row ∙ e)) (λ place. not_below place.1 place.2 place.3 place.4 (sym row ∙ place.6))
    where
      row : o (superblock_place im.size) ≡ Super
      row = laid.zoned.low (superblock_place im.size) (omega arith)

      not_free : (x : ℕ) → Super ≡ Free x → ⊥
      not_free x e = cc

      not_below : (d x k first : ℕ) → Super ≡ Below d x k 0 first → ⊥
      not_below d x k first e = cc

  rindex_other : IsOfJournal l.rindex → ⊥
  rindex_other of = no (sym laid.master ∙ ap o (parents (sym rindex_row ∙ (journal_row of.0 l.rindex of.1).1)) ∙ jindex_row)
    where
      rindex_row : o l.rindex ≡ Named l.master (codes "rindex")
      rindex_row = (child_rows im o l laid l.master l.rindex (codes "rindex") laid.system.rindex).2

      jindex_row : o l.jindex ≡ Named l.master (codes "jindex")
      jindex_row = (child_rows im o l laid l.master l.jindex (codes "jindex") laid.system.jindex).2

      parents : {name : List ℕ} → Named l.master (codes "rindex") ≡ Named l.jindex name → l.master ≡ l.jindex
      parents e = cc

      no : Master ≡ Named l.master (codes "jindex") → ⊥
      no e = cc

  jindex_other : IsOfJournal l.jindex → ⊥
  jindex_other of = elim (cases_Bool (is_directory_in (holding im o l.jindex))) [
    | inl so ↦ true≢false (sym so ∙ no_directory of.0 l.jindex of.1)
    | inr plain ↦ no (sym (file_thing im o l.jindex (journal_dinode of.0 l.jindex of.1) plain) ∙ laid.system.directory)
  ]
    where
      no : {bytes : List ℕ} → AFile bytes ≡ ADir → ⊥
      no e = cc

  system_after : IsSystem (flat_of im' o) (holding im' o) l
  system_after =
      let s = laid.system in
      record {
        rindex = (λ i. child_same l.master i (codes "rindex")) ∙ s.rindex;
        groups = (s.groups.0, ap (λ (n : Node). n.thing) (flat_same l.rindex rindex_other) ∙ s.groups.1, s.groups.2);
        jindex = (λ i. child_same l.master i (codes "jindex")) ∙ s.jindex;
        directory = ap (λ (n : Node). n.thing) (flat_same l.jindex jindex_other) ∙ s.directory;
        journals = λ j d at. (λ i. child_same l.jindex i (journal_name j)) ∙ s.journals j d at;
        last = (λ i. child_same l.jindex i (journal_name (length l.journals))) ∙ s.last;
        rings = λ j d e. ring j d (ap (λ (c : List ℕ → Option ℕ). c (journal_name j)) (sym (child_same l.jindex)) ∙ e);
      }
    where
      ring : (j d : ℕ) → (flat_of im o l.jindex).child (journal_name j) ≡ Some d → IsJournal (holding im' o d)
      ring j d e = elim (journal_or_not d) [
        | inl of ↦ journal_after of.0 d of.1
        | inr other ↦ subst IsJournal (sym (same_holding d other)) (laid.system.rings j d e)
      ]

  pub laid_still : IsLaid im' o l
  laid_still = record {
    image = record { block_size = subst IsBlockSize (sym large.size) laid.image.block_size; whole = λ b low. large.whole b (subst (λ n. b < n) large.count low) ∙ sym large.size };
    super = record {
      inside = subst (λ n. superblock_place n < im'.count) (sym large.size) (subst (λ n. superblock_place im.size < n) (sym large.count) laid.super.inside);
      header = subst (HasHeader 1 100) (sym super_same) laid.super.header;
      root = ap (λ b. (superblock_of b).root.address) super_same ∙ laid.super.root;
      master = ap (λ b. (superblock_of b).master.address) super_same ∙ laid.super.master;
    };
    fit = fits_still im im' l.groups large.size large.count laid.fit;
    zoned = record {
      low = λ b low. laid.zoned.low b (subst (λ n. b ≤ superblock_place n) large.size low);
      headers = laid.zoned.headers;
      data_blocks = laid.zoned.data_blocks;
      placed = laid.zoned.placed;
      between = λ b high none. laid.zoned.between b (subst (λ n. superblock_place n < b) large.size high) none;
    };
    groups = λ g at. subst (λ blocks. IsGroup g blocks (states_of o g)) (sym (group_same g at)) (laid.groups g at);
    root = (laid.root.0, ap is_directory (dinode_same l.root (ap is_dinode laid.root.0)) ∙ laid.root.1);
    master = laid.master;
    inodes = λ a so. elim (journal_or_not a) [ inl of ↦ journal_inode of.0 a of.1 | inr other ↦ subst IsInode (sym (same_holding a other)) (laid.inodes a so) ];
    directories = λ a so is_dir. directory a so is_dir;
    within = laid.within;
    names = λ a u e. (λ i. child_same u.parent i u.name) ∙ laid.names a u e;
    found = λ a so. elim (laid.found a so) [ inl way ↦ inl (way.0, follow_same way.0 l.root ∙ way.1) | inr way ↦ inr (way.0, follow_same way.0 l.master ∙ way.1) ];
    system = system_after;
    short = λ path a e regular. short path a (sym (follow_same path l.root) ∙ e) regular;
  }
    where
      directory : (a : ℕ) → is_dinode (o a) ≡ true → is_directory_in (holding im' o a) ≡ true → IsDirectory (heads_of im' o) o a (records_of (holding im' o a)) (dinode_in (holding im' o a))
      directory a so is_dir = elim (journal_or_not a) [
        | inl of ↦ absurd (true≢false (sym is_dir ∙ ap is_directory (dinode_same a so) ∙ no_directory of.0 a of.1))
        | inr other ↦
            let same = same_holding a other in
            subst (λ heads. IsDirectory heads o a (records_of (holding im' o a)) (dinode_in (holding im' o a))) (sym heads_same)
            (subst (λ h. IsDirectory (heads_of im o) o a (records_of h) (dinode_in h)) (sym same) (laid.directories a so (ap is_directory_in (sym same) ∙ is_dir)))
      ]

      short : (path : Path) (a : ℕ) → follow (flat_of im o) l.root path ≡ Some a → is_regular (dinode_in (holding im' o a)) ≡ true → (dinode_in (holding im' o a)).size ≤ file_limit
      short path a e regular =
          let same = dinode_same a (follow_dinode im o l laid path l.root a (ap is_dinode laid.root.0) e) in
          subst (λ (d : Dinode). d.size ≤ file_limit) (sym same) (laid.short path a e (ap is_regular (sym same) ∙ regular))

  pub reads_still : (t : Tree) → ReadsAs (flat_of im o) l.root t → ReadsAs (flat_of im' o) l.root t
  reads_still = (unreached (flat_of im o) (flat_of im' o) l.root each).1
    where
      each : (a : ℕ) → (flat_of im' o a ≡ flat_of im o a) ⊎ ((path : Path) → follow (flat_of im o) l.root path ≢ Some a)
      each a = elim (journal_or_not a) [
        | inr other ↦ inl (flat_same a other)
        | inl of ↦ inr (λ path e. journal_apart im o l laid path of.0 a of.1 e)
      ]

-- ---- the two laws

pub places_do_not_matter : PlacesDoNotMatter
places_do_not_matter im im' o l t large bytes readable stands = (
  record {
    laid = laid_still im im' o l large which readable stands.laid;
    reads = reads_still im im' o l large which readable stands.laid t stands.reads;
  },
  only_places im im' o l large which readable stands.laid,
)
  where
    which : (b : ℕ) → (im'.at b ≡ im.at b) ⊎ (((g : ℕ) × (o b ≡ Free g)) ⊎ IsRingPlace o l b)
    which b = elim (bytes b) [ inl e ↦ inl e | inr place ↦ inr (inr place) ]

free_cell : (im im' : Image) (o : Owners) (a b : ℕ) → (im'.at b ≡ im.at b) ⊎ ((g : ℕ) × (o b ≡ Free g)) → cell_in im' o a b ≡ cell_in im o a b
unfolding cell_in
free_cell im im' o a b (inl e) = ap (cell_of (part_in a b (o b))) e
free_cell im im' o a b (inr free) = ap (λ x. cell_of (part_in a b x) (im'.at b)) free.1 ∙ sym (ap (λ x. cell_of (part_in a b x) (im.at b)) free.1)

-- every inode has what it had
free_holding : (im im' : Image) (o : Owners) → IsAsLarge im im' → ((b : ℕ) → (im'.at b ≡ im.at b) ⊎ ((g : ℕ) × (o b ≡ Free g))) → (a : ℕ) → holding im' o a ≡ holding im o a
free_holding im im' o large bytes a = λ i. record { size = large.size i; count = large.count i; own = a; cell = λ b. cell b i }
  where
    cell : (b : ℕ) → cell_in im' o a b ≡ cell_in im o a b
    cell b = free_cell im im' o a b (bytes b)

pub free_blocks_do_not_matter : FreeBlocksDoNotMatter
free_blocks_do_not_matter im im' o l t large bytes stands = (
  record {
    laid = laid_still im im' o l large which readable stands.laid;
    reads = reads_still im im' o l large which readable stands.laid t stands.reads;
  },
  free_holding im im' o large bytes,
)
  where
    which : (b : ℕ) → (im'.at b ≡ im.at b) ⊎ (((g : ℕ) × (o b ≡ Free g)) ⊎ IsRingPlace o l b)
    which b = elim (bytes b) [ inl e ↦ inl e | inr free ↦ inr (inl free) ]

    readable : (j d : ℕ) → IsJournalAt l j d → IsReadable (ring_of (holding im' o d))
    readable j d at =
        subst (λ h. IsReadable (ring_of h)) (sym (free_holding im im' o large bytes d)) (stands.laid.system.rings j d (stands.laid.system.journals j d at)).readable
