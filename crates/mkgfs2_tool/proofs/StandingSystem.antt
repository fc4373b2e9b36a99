-- The inodes of a new image, and where names lead.
use Rattle.std.proofs.Common.{ℕ, zero, suc, ◌≡◌, ◌+◌, ◌<◌, ◌≤◌, ◌⊎◌, inl, inr, Bool, true, false, List, [], ◌∷◌, map, Option, None, Some, codes, refl, sym, ap, ◌∙◌, subst, arith}
use Rattle.std.specs.Prelude.{length, ◌/◌, ◌%◌, Contains, option_and_then}
use Rattle.std.specs.Option.{option_map}
use Rattle.std.proofs.lemmas.Bool.{cond-true, cond-false, eqb-true, true≢false}
use Rattle.std.proofs.lemmas.List.FromFn.{length-map-range_with_len}
use Rattle.file_tree.specs.Tree.{dir, none}
use Rattle.gfs2_layout.specs.Structures.{is_directory, is_regular}
use Rattle.gfs2_layout.specs.declared.dinode.Dinode.{Dinode}
use Rattle.image_model.specs.Flat.{Path, AFile, ADir, Node, Flat, follow, thing_from, thing_at, ReadsAs}
use Rattle.image_model.specs.Image.{Blocks}
use Rattle.gfs2_layout.specs.Inode.{Head, dinode_in, is_directory_in, records_of, IsInode}
use Rattle.image_model.specs.Journals.{journal_name, IsJournal}
use Rattle.image_model.specs.Owners.{Owner, Super, InGroup, Free, Nobody, Root, Master, Named, Below, Chained, Up, up_of, parent_of, is_dinode, IsUsed, IsWithin}
use Rattle.image_model.specs.Nodes.{node_of}
use Rattle.image_model.specs.Stands.{IsJournalAt, flat_of, heads_of, IsRecordOf, HasRecord, LeadsDown, IsDirectory, IsSystem, IsFound, AreShort}
use Rattle.mkgfs2_tool.proofs.StandingLists.{none_some, some_same, IsIn, is_in, contained}
use Rattle.std.specs.Option.{option_map}
use Rattle.gfs2_layout.specs.Records.{Record, is_dots, child_named}
use Rattle.mkgfs2_tool.specs.Groups.{data_address}
use Rattle.mkgfs2_tool.specs.Order.{master_place, root_place, journals_place, journal_place}
use Rattle.mkgfs2_tool.specs.Directories.{journal_entry, master_entries, root_entries}
use Rattle.mkgfs2_tool.specs.Blocks.{group_entries}
use Rattle.mkgfs2_tool.specs.Making.{IsFitting}
use Rattle.mkgfs2_tool.specs.Standing.{new_layout}
use Rattle.mkgfs2_tool.specs.declared.directory.Entry.{Entry}
use Rattle.mkgfs2_tool.specs.declared.plan.Plan.{Plan}
use Rattle.mkgfs2_tool.proofs.StandingGiven.{Known}
use Rattle.mkgfs2_tool.proofs.StandingOwners.{file_place, file_name, file_parent, spot, below_owner, leaf_owner, owner, owner_master, owner_root, owner_journals}
use Rattle.mkgfs2_tool.proofs.StandingFiles.{file_number}
use Rattle.mkgfs2_tool.proofs.StandingWhose.{Whose, whose_master, whose_root, whose_journals, whose_leaf, whose_file, whose_below, whose_none, whose, owner_top}
use Rattle.mkgfs2_tool.proofs.StandingInodes.{image, AreMade, held, file_own, file_plain, file_number_is, file_sound}
use Rattle.mkgfs2_tool.proofs.StandingRings.{new_journal}
use Rattle.mkgfs2_tool.proofs.StandingList.{list_content, list_is}
use Rattle.mkgfs2_tool.proofs.StandingRecords.{entry_record}
use Rattle.mkgfs2_tool.proofs.StandingDirs.{IsDirectoryAt, dir_is, dir_sound, dir_number, dir_entries, dir_links, dir_records, master_at, root_at}
use Rattle.mkgfs2_tool.proofs.StandingNames.{record_name, name_is, is_journal_name, is_jindex_name, is_rindex_name, named_once, found_apart, IsOfJournal, got_at, get_at}
use Rattle.mkgfs2_tool.proofs.StandingLeaves.{this_record, parent_record, journal_record}
use Rattle.mkgfs2_tool.proofs.StandingJindex.{Said, is_this, is_parent, is_journal, IsJindex, jindex_is}
use Rattle.image_model.proofs.JournalNames.{one_number}
use Rattle.image_model.proofs.Reach.{Leading, IsNamedChild, named_child}

used_dinode : (o : Owner) → is_dinode o ≡ true → IsUsed o
used_dinode Super e = cc
used_dinode (InGroup g) e = cc
used_dinode (Free g) e = cc
used_dinode Nobody e = cc
used_dinode Root e = tt
used_dinode Master e = tt
used_dinode (Named a name) e = tt
used_dinode (Below a b k level first) e = tt
used_dinode (Chained a hash place) e = tt

used_up : (o : Owner) (u : Up) → up_of o ≡ Some u → IsUsed o
used_up Super u e = cc
used_up (InGroup g) u e = cc
used_up (Free g) u e = cc
used_up Nobody u e = cc
used_up Root u e = tt
used_up Master u e = tt
used_up (Named a name) u e = tt
used_up (Below a b k level first) u e = tt
used_up (Chained a hash place) u e = tt

used_within : (a : ℕ) (o : Owner) → IsWithin a o → IsUsed o
used_within a Super e = elim e [ ]
used_within a (InGroup g) e = elim e [ ]
used_within a (Free g) e = elim e [ ]
used_within a Nobody e = elim e [ ]
used_within a Root e = elim e [ ]
used_within a Master e = elim e [ ]
used_within a (Named d name) e = elim e [ ]
used_within a (Below d b k level first) e = tt
used_within a (Chained d hash place) e = tt

not_regular : (d : Dinode) → is_directory d ≡ true → is_regular d ≡ true → ⊥
not_regular d e f = absurd (omega (arith, eqb-true (d.mode / 4096 % 16) 4 e, eqb-true (d.mode / 4096 % 16) 8 f))

no_below_dinode : (p : Plan) (i l x : ℕ) → is_dinode (below_owner p i l x) ≡ true → ⊥
no_below_dinode p i l x e = cc

no_leaf_dinode : (p : Plan) (n : ℕ) → is_dinode (leaf_owner p n) ≡ true → ⊥
no_leaf_dinode p n e = cc

leaf_up : (p : Plan) (n : ℕ) (u : Up) → up_of (leaf_owner p n) ≡ Some u → ⊥
leaf_up p n u e = cc

master_up : (u : Up) → up_of Master ≡ Some u → ⊥
master_up u e = cc

root_up : (u : Up) → up_of Root ≡ Some u → ⊥
root_up u e = cc

below_up : (p : Plan) (i l x : ℕ) (u : Up) → up_of (below_owner p i l x) ≡ Some u → ⊥
below_up p i l x u e = cc

module _ (p : Plan) (fit : IsFitting p) (known : Known p) (at : Blocks) (made : AreMade p at) where
  abbrev master : ℕ
  master = data_address p master_place

  abbrev root : ℕ
  root = data_address p root_place

  abbrev jindex : ℕ
  jindex = data_address p (journals_place p)

  abbrev heads : ℕ → Head
  heads = heads_of (image p at) (owner p)

  abbrev flat : Flat
  flat = flat_of (image p at) (owner p)

  -- ---- heads

  -- the head of an inode, by its number and by whether it is a directory
  record HasHead (a number : ℕ) (is_dir : Bool) : Type 0 where
    pub number_is : (heads a).number ≡ number
    pub dir_is : (heads a).is_dir ≡ is_dir

  master_head : HasHead master 1 true
  master_head = record { number_is = dir_number p fit known at made master_place 1 4 3 (master_entries p) (master_at p fit known); dir_is = dir_is p fit known at made master_place 1 4 3 (master_entries p) (master_at p fit known) }

  root_head : HasHead root 2 true
  root_head = record { number_is = dir_number p fit known at made root_place 2 2 2 (root_entries p) (root_at p fit known); dir_is = dir_is p fit known at made root_place 2 2 2 (root_entries p) (root_at p fit known) }

  the_jindex : IsJindex p (held p at jindex)
  the_jindex = jindex_is p fit known at made

  jindex_head : HasHead jindex 4 true
  jindex_head = record { number_is = the_jindex.number; dir_is = the_jindex.dir }

  file_head : (i : ℕ) → i ≤ p.journals → HasHead (spot p i 0) (file_number i) false
  file_head i ok = record { number_is = file_number_is p fit known at made i ok; dir_is = file_plain p fit known at made i ok }

  dir_record : (name : List ℕ) (a number : ℕ) → HasHead a number true → IsRecordOf heads a (record { name = name; number = number; address = a; kind = 4 })
  dir_record name a number head = record { address = refl; number = sym head.number_is; kind = sym (cond-true _ _ _ head.dir_is) }

  file_record : (name : List ℕ) (a number : ℕ) → HasHead a number false → IsRecordOf heads a (record { name = name; number = number; address = a; kind = 8 })
  file_record name a number head = record { address = refl; number = sym head.number_is; kind = sym (cond-false _ _ _ head.dir_is) }

  has_record : (rs : List Record) (r : Record) (b : ℕ) → IsIn r rs → IsRecordOf heads b r → HasRecord heads rs r.name b
  has_record rs r b there is = record { entry = r; there = contained r rs there; named = refl; true_of = is }

  -- the address of a file's dinode
  file_address : (i : ℕ) → data_address p (file_place p i) ≡ spot p i 0
  file_address i = ap (data_address p) (none (file_place p i))
    where
      none : (n : ℕ) → n ≡ n + 0
      none n = omega arith

  -- ---- the three directories

  abbrev master_records : List Record
  master_records = map entry_record (master_entries p)

  abbrev root_records : List Record
  root_records = map entry_record (root_entries p)

  abbrev jindex_records : List Record
  jindex_records = the_jindex.said

  no_dots : (r q : Record) → r ≡ q → is_dots q.name ≡ true → is_dots r.name ≡ false → ⊥
  no_dots r q e so non = true≢false (sym (ap (λ (s : Record). is_dots s.name) e ∙ so) ∙ non)

  master_down : (r : Record) → Contains master_records r → is_dots r.name ≡ false → LeadsDown heads (owner p) master r
  master_down r there non = each (is_in r master_records there)
    where
      each : IsIn r master_records → LeadsDown heads (owner p) master r
      each (inl e) = absurd (no_dots r _ e refl non)
      each (inr (inl e)) = absurd (no_dots r _ e refl non)
      each (inr (inr (inl e))) = subst (LeadsDown heads (owner p) master) (sym e) (record { name = is_jindex_name; owner = owner_journals p fit; true_of = dir_record (codes "jindex") jindex 4 jindex_head })
      each (inr (inr (inr (inl e)))) = subst (LeadsDown heads (owner p) master) (sym e) (record {
        name = is_rindex_name;
        owner = owner_top p fit known 0 (omega arith);
        true_of = file_record (codes "rindex") (spot p 0 0) 3 (file_head 0 (omega arith));
      })
      each (inr (inr (inr (inr h)))) = elim h [ ]

  master_directory : IsDirectory heads (owner p) master master_records (dinode_in (held p at master))
  master_directory = record {
    dot = has_record master_records (record { name = codes "."; number = 1; address = master; kind = 4 }) master (inl refl) (dir_record (codes ".") master 1 master_head);
    dots = subst (HasRecord heads master_records (codes "..")) (sym (ap (parent_of master) (owner_master p fit)))
        (has_record master_records (record { name = codes ".."; number = 1; address = master; kind = 4 }) master (inr (inl refl)) (dir_record (codes "..") master 1 master_head));
    once = named_once master_records ((refl, (refl, (refl, tt))), ((refl, (refl, tt)), ((refl, tt), (tt, tt))));
    down = master_down;
    entries = dir_entries p fit known at made master_place 1 4 3 (master_entries p) (master_at p fit known);
    links = dir_links p fit known at made master_place 1 4 3 (master_entries p) (master_at p fit known);
  }

  root_down : (r : Record) → Contains root_records r → is_dots r.name ≡ false → LeadsDown heads (owner p) root r
  root_down r there non = each (is_in r root_records there)
    where
      each : IsIn r root_records → LeadsDown heads (owner p) root r
      each (inl e) = absurd (no_dots r _ e refl non)
      each (inr (inl e)) = absurd (no_dots r _ e refl non)
      each (inr (inr h)) = elim h [ ]

  root_directory : IsDirectory heads (owner p) root root_records (dinode_in (held p at root))
  root_directory = record {
    dot = has_record root_records (record { name = codes "."; number = 2; address = root; kind = 4 }) root (inl refl) (dir_record (codes ".") root 2 root_head);
    dots = subst (HasRecord heads root_records (codes "..")) (sym (ap (parent_of root) (owner_root p fit)))
        (has_record root_records (record { name = codes ".."; number = 2; address = root; kind = 4 }) root (inr (inl refl)) (dir_record (codes "..") root 2 root_head));
    once = named_once root_records ((refl, tt), (tt, tt));
    down = root_down;
    entries = dir_entries p fit known at made root_place 2 2 2 (root_entries p) (root_at p fit known);
    links = dir_links p fit known at made root_place 2 2 2 (root_entries p) (root_at p fit known);
  }

  few_journals : (j : ℕ) → j < p.journals → j < 8
  few_journals j low = under j p.journals low fit.plan.journals
    where
      under : (j n : ℕ) → j < n → n ≤ 8 → j < 8
      under j n a b = omega (arith, a, b)

  journal_down : (j : ℕ) → suc j ≤ p.journals → LeadsDown heads (owner p) jindex (entry_record (journal_entry p j))
  journal_down j low = record {
    name = is_journal_name j (few_journals j low);
    owner = ap (owner p) (file_address (suc j)) ∙ owner_top p fit known (suc j) low ∙ ap (λ (n : List ℕ). Named jindex n) (sym (name_is j (few_journals j low)));
    true_of = subst (λ a. IsRecordOf heads a (record { name = record_name j; number = 5 + j; address = a; kind = 8 })) (sym (file_address (suc j))) (file_record (record_name j) (spot p (suc j) 0) (5 + j) (file_head (suc j) low));
  }

  jindex_down : (r : Record) → Contains jindex_records r → is_dots r.name ≡ false → LeadsDown heads (owner p) jindex r
  jindex_down r there non = each (the_jindex.are.only r (is_in r jindex_records there))
    where
      each : Said p r → LeadsDown heads (owner p) jindex r
      each (is_this e) = absurd (no_dots r _ e refl non)
      each (is_parent e) = absurd (no_dots r _ e refl non)
      each (is_journal q) = subst (LeadsDown heads (owner p) jindex) (sym q.is) (journal_down q.j q.low)

  jindex_directory : IsDirectory heads (owner p) jindex jindex_records (dinode_in (held p at jindex))
  jindex_directory = record {
    dot = has_record jindex_records (this_record p) jindex the_jindex.are.dot (dir_record (codes ".") jindex 4 jindex_head);
    dots = subst (HasRecord heads jindex_records (codes "..")) (sym (ap (parent_of jindex) (owner_journals p fit)))
        (has_record jindex_records (parent_record p) master the_jindex.are.dots (dir_record (codes "..") master 1 master_head));
    once = named_once jindex_records the_jindex.are.apart;
    down = jindex_down;
    entries = the_jindex.entries ∙ sym the_jindex.are.long;
    links = the_jindex.links ∙ ap (λ n. 2 + n) (sym the_jindex.are.plain);
  }

  pub directories : (a : ℕ) → is_dinode (owner p a) ≡ true → is_directory_in (held p at a) ≡ true → IsDirectory heads (owner p) a (records_of (held p at a)) (dinode_in (held p at a))
  directories a dinode is = each (whose p fit known a)
    where
      directory_at : ℕ → Type 0
      directory_at a = IsDirectory heads (owner p) a (records_of (held p at a)) (dinode_in (held p at a))

      each : Whose p a → IsDirectory heads (owner p) a (records_of (held p at a)) (dinode_in (held p at a))
      each (whose_master e o) = subst directory_at (sym e) (subst (λ (rs : List Record). IsDirectory heads (owner p) master rs (dinode_in (held p at master))) (sym (dir_records p fit known at made master_place 1 4 3 (master_entries p) (master_at p fit known))) master_directory)
      each (whose_root e o) = subst directory_at (sym e) (subst (λ (rs : List Record). IsDirectory heads (owner p) root rs (dinode_in (held p at root))) (sym (dir_records p fit known at made root_place 2 2 2 (root_entries p) (root_at p fit known))) root_directory)
      each (whose_journals e o) = subst directory_at (sym e) (subst (λ (rs : List Record). IsDirectory heads (owner p) jindex rs (dinode_in (held p at jindex)))
          (sym the_jindex.records) jindex_directory)
      each (whose_leaf n low e o) = absurd (no_leaf_dinode p n (ap is_dinode (sym o) ∙ dinode))
      each (whose_file i ok e o) = absurd (true≢false (sym is ∙ ap (λ n. is_directory_in (held p at n)) e ∙ file_plain p fit known at made i ok))
      each (whose_below i l x ok below e o) = absurd (no_below_dinode p i l x (ap is_dinode (sym o) ∙ dinode))
      each (whose_none un) = absurd (un (used_dinode (owner p a) dinode))

  pub inodes : (a : ℕ) → is_dinode (owner p a) ≡ true → IsInode (held p at a)
  inodes a dinode = each (whose p fit known a)
    where
      sound_at : ℕ → Type 0
      sound_at n = IsInode (held p at n)

      each : Whose p a → IsInode (held p at a)
      each (whose_master e o) = subst sound_at (sym e) (dir_sound p fit known at made master_place 1 4 3 (master_entries p) (master_at p fit known))
      each (whose_root e o) = subst sound_at (sym e) (dir_sound p fit known at made root_place 2 2 2 (root_entries p) (root_at p fit known))
      each (whose_journals e o) = subst sound_at (sym e) the_jindex.sound
      each (whose_leaf n low e o) = absurd (no_leaf_dinode p n (ap is_dinode (sym o) ∙ dinode))
      each (whose_file i ok e o) = subst sound_at (sym e) (file_sound p fit known at made i ok)
      each (whose_below i l x ok below e o) = absurd (no_below_dinode p i l x (ap is_dinode (sym o) ∙ dinode))
      each (whose_none un) = absurd (un (used_dinode (owner p a) dinode))

  pub within : (b a : ℕ) → IsWithin a (owner p b) → is_dinode (owner p a) ≡ true
  within b a inside = each (whose p fit known b)
    where
      each : Whose p b → is_dinode (owner p a) ≡ true
      each (whose_master e o) = elim (subst (IsWithin a) o inside) [ ]
      each (whose_root e o) = elim (subst (IsWithin a) o inside) [ ]
      each (whose_journals e o) = elim (subst (IsWithin a) o inside) [ ]
      each (whose_leaf n low e o) = ap (λ b. is_dinode (owner p b)) (sym (subst (IsWithin a) o inside)) ∙ ap is_dinode (owner_journals p fit)
      each (whose_file i ok e o) = elim (subst (IsWithin a) o inside) [ ]
      each (whose_below i l x ok below e o) = ap (λ n. is_dinode (owner p n)) (sym (subst (IsWithin a) o inside)) ∙ file_own p fit known at made i ok
      each (whose_none un) = absurd (un (used_within a (owner p b) inside))

  -- ---- where names lead

  -- the directory in this block has these records
  record HasSaid (a : ℕ) (rs : List Record) : Type 0 where
    pub own : is_dinode (owner p a) ≡ true
    pub dir : is_directory_in (held p at a) ≡ true
    pub records : records_of (held p at a) ≡ rs

  said_at : (place number count links : ℕ) (es : List Entry) → IsDirectoryAt p place number count links es → HasSaid (data_address p place) (map entry_record es)
  said_at place number count links es is = record { own = is.own; dir = dir_is p fit known at made place number count links es is; records = dir_records p fit known at made place number count links es is }

  master_said : HasSaid master master_records
  master_said = said_at master_place 1 4 3 (master_entries p) (master_at p fit known)

  root_said : HasSaid root root_records
  root_said = said_at root_place 2 2 2 (root_entries p) (root_at p fit known)

  jindex_said : HasSaid jindex jindex_records
  jindex_said = record { own = ap is_dinode (owner_journals p fit); dir = the_jindex.dir; records = the_jindex.records }

  module _ (a : ℕ) (rs : List Record) (is : HasSaid a rs) where
    node_is : flat a ≡ node_of (held p at a)
    node_is = cond-true _ _ _ is.own

    child_is : (name : List ℕ) → is_dots name ≡ false → (flat a).child name ≡ child_named rs name
    child_is name non =
        ap (λ (n : Node). n.child name) node_is
        ∙ cond-true _ _ _ is.dir
        ∙ cond-false _ _ _ non
        ∙ ap (λ (rs : List Record). child_named rs name) is.records

    dir_thing : (flat a).thing ≡ ADir
    dir_thing = ap (λ (n : Node). n.thing) node_is ∙ cond-true _ _ _ is.dir

    -- a name that leads somewhere is that of a record
    child_from : (name : List ℕ) (b : ℕ) → (flat a).child name ≡ Some b → (is_dots name ≡ false) × Leading rs name b
    child_from name b e = from (named_child (held p at a) name b (sym (ap (λ (n : Node). n.child name) node_is) ∙ e))
      where
        from : IsNamedChild (held p at a) name b → (is_dots name ≡ false) × Leading rs name b
        from q = (q.name_is, subst (λ (rs : List Record). Leading rs name b) is.records q.leads)

  master_jindex : (flat master).child (codes "jindex") ≡ Some jindex
  master_jindex = child_is master master_records master_said (codes "jindex") refl

  master_rindex : (flat master).child (codes "rindex") ≡ Some (spot p 0 0)
  master_rindex = child_is master master_records master_said (codes "rindex") refl

  jindex_journal : (j : ℕ) → suc j ≤ p.journals → (flat jindex).child (journal_name j) ≡ Some (spot p (suc j) 0)
  jindex_journal j low =
      ap (flat jindex).child (sym (name_is j (few_journals j low)))
      ∙ child_is jindex jindex_records jindex_said (record_name j) refl
      ∙ ap (option_map (λ (r : Record). r.address)) (found_apart jindex_records the_jindex.are.apart (journal_record p j) (the_jindex.are.each j low))
      ∙ ap Some (file_address (suc j))

  pub master_only : (name : List ℕ) (b : ℕ) → (flat master).child name ≡ Some b → (name ≡ codes "jindex") ⊎ (name ≡ codes "rindex")
  master_only name b e = from (child_from master master_records master_said name b e)
    where
      from : (is_dots name ≡ false) × Leading master_records name b → (name ≡ codes "jindex") ⊎ (name ≡ codes "rindex")
      from q = each (is_in q.1.entry master_records q.1.there)
        where
          each : IsIn q.1.entry master_records → (name ≡ codes "jindex") ⊎ (name ≡ codes "rindex")
          each (inl g) = absurd (true≢false (sym (ap is_dots (sym q.1.named ∙ ap (λ (r : Record). r.name) g)) ∙ q.0))
          each (inr (inl g)) = absurd (true≢false (sym (ap is_dots (sym q.1.named ∙ ap (λ (r : Record). r.name) g)) ∙ q.0))
          each (inr (inr (inl g))) = inl (sym q.1.named ∙ ap (λ (r : Record). r.name) g)
          each (inr (inr (inr (inl g)))) = inr (sym q.1.named ∙ ap (λ (r : Record). r.name) g)
          each (inr (inr (inr (inr h)))) = elim h [ ]

  root_none : (name : List ℕ) (b : ℕ) → (flat root).child name ≡ Some b → ⊥
  root_none name b e = from (child_from root root_records root_said name b e)
    where
      from : (is_dots name ≡ false) × Leading root_records name b → ⊥
      from q = each (is_in q.1.entry root_records q.1.there)
        where
          each : IsIn q.1.entry root_records → ⊥
          each (inl g) = true≢false (sym (ap is_dots (sym q.1.named ∙ ap (λ (r : Record). r.name) g)) ∙ q.0)
          each (inr (inl g)) = true≢false (sym (ap is_dots (sym q.1.named ∙ ap (λ (r : Record). r.name) g)) ∙ q.0)
          each (inr (inr h)) = elim h [ ]

  root_empty : (name : List ℕ) → (flat root).child name ≡ None
  root_empty name = each ((flat root).child name) refl
    where
      each : (o : Option ℕ) → (flat root).child name ≡ o → (flat root).child name ≡ None
      each None e = e
      each (Some b) e = absurd (root_none name b e)

  -- a journal that a name leads to
  pub record IsJournalNamed (name : List ℕ) (b : ℕ) : Type 0 where
    pub j : ℕ
    pub low : suc j ≤ p.journals
    pub is : b ≡ spot p (suc j) 0
    pub named : name ≡ journal_name j

  pub jindex_only : (name : List ℕ) (b : ℕ) → (flat jindex).child name ≡ Some b → IsJournalNamed name b
  jindex_only name b e = from (child_from jindex jindex_records jindex_said name b e)
    where
      from : (is_dots name ≡ false) × Leading jindex_records name b → IsJournalNamed name b
      from q = each (the_jindex.are.only q.1.entry (is_in q.1.entry jindex_records q.1.there))
        where
          of : IsOfJournal p p.journals q.1.entry → IsJournalNamed name b
          of g = record {
            j = g.j;
            low = g.low;
            is = sym q.1.address ∙ ap (λ (r : Record). r.address) g.is ∙ file_address (suc g.j);
            named = sym q.1.named ∙ ap (λ (r : Record). r.name) g.is ∙ name_is g.j (few_journals g.j g.low);
          }

          each : Said p q.1.entry → IsJournalNamed name b
          each (is_this g) = absurd (true≢false (sym (ap is_dots (sym q.1.named ∙ ap (λ (r : Record). r.name) g)) ∙ q.0))
          each (is_parent g) = absurd (true≢false (sym (ap is_dots (sym q.1.named ∙ ap (λ (r : Record). r.name) g)) ∙ q.0))
          each (is_journal g) = of g

  -- ---- the layout's journals

  pub journal_at : (j d : ℕ) → IsJournalAt (new_layout p) j d → (suc j ≤ p.journals) × (d ≡ spot p (suc j) 0)
  journal_at j d e =
      let got = got_at (λ k. data_address p (journal_place p k)) 0 p.journals j d e in
      (omega (arith, got.0), got.1 ∙ ap (λ k. data_address p (journal_place p k)) (none j) ∙ file_address (suc j))
    where
      none : (n : ℕ) → 0 + n ≡ n
      none n = omega arith

  pub at_journal : (j : ℕ) → suc j ≤ p.journals → IsJournalAt (new_layout p) j (spot p (suc j) 0)
  at_journal j low = get_at (λ k. data_address p (journal_place p k)) 0 p.journals j (omega (arith, low)) ∙ ap (λ k. Some (data_address p (journal_place p k))) (none j) ∙ ap Some (file_address (suc j))
    where
      none : (n : ℕ) → 0 + n ≡ n
      none n = omega arith

  -- ---- the system files

  list_thing : (flat (spot p 0 0)).thing ≡ AFile (group_entries p)
  list_thing =
      ap (λ (n : Node). n.thing) (cond-true _ _ _ (file_own p fit known at made 0 (omega arith)))
      ∙ cond-false _ _ _ (file_plain p fit known at made 0 (omega arith))
      ∙ ap AFile (list_content p fit known at made)

  pub system : IsSystem flat (held p at) (new_layout p)
  system = record {
    rindex = master_rindex;
    groups = (group_entries p, list_thing, list_is p fit known at made);
    jindex = master_jindex;
    directory = dir_thing jindex jindex_records jindex_said;
    journals = λ j d e. let at_j = journal_at j d e in jindex_journal j at_j.0 ∙ ap Some (sym at_j.1);
    last = none_last ((flat jindex).child (journal_name (length (new_layout p).journals))) refl;
    rings = λ j d e. let q = jindex_only (journal_name j) d e in subst (λ n. IsJournal (held p at n)) (sym q.is) (new_journal p fit known at made q.j q.low);
  }
    where
      count_is : length (new_layout p).journals ≡ p.journals
      count_is = length-map-range_with_len (λ j. data_address p (journal_place p j)) 0 p.journals

      none_last : (o : Option ℕ) → (flat jindex).child (journal_name (length (new_layout p).journals)) ≡ o → (flat jindex).child (journal_name (length (new_layout p).journals)) ≡ None
      none_last None e = e
      none_last (Some d) e =
          let q = jindex_only (journal_name (length (new_layout p).journals)) d e in
          let few = few_journals q.j q.low in
          let same = one_number (length (new_layout p).journals) q.j (omega (arith, count_is, fit.plan.journals)) (omega (arith, q.low, fit.plan.journals)) q.named in
          absurd (omega (arith, same, count_is, q.low))

  -- each name in the directory of journals is that of one of the layout's
  pub jindex_others : (name : List ℕ) (d : ℕ) → (flat jindex).child name ≡ Some d → (j : ℕ) × IsJournalAt (new_layout p) j d × (name ≡ journal_name j)
  jindex_others name d e = let q = jindex_only name d e in (q.j, subst (IsJournalAt (new_layout p) q.j) (sym q.is) (at_journal q.j q.low), q.named)

  pub names : (a : ℕ) (u : Up) → up_of (owner p a) ≡ Some u → (flat u.parent).child u.name ≡ Some a
  names a u e = each (whose p fit known a)
    where
      led : (parent : ℕ) (name : List ℕ) → owner p a ≡ Named parent name → (flat parent).child name ≡ Some a → (flat u.parent).child u.name ≡ Some a
      led parent name o to = subst (λ (v : Up). (flat v.parent).child v.name ≡ Some a) (some_same (sym (ap up_of o) ∙ e)) to

      of_file : (i : ℕ) → i ≤ p.journals → (flat (file_parent p i)).child (file_name i) ≡ Some (spot p i 0)
      of_file zero ok = master_rindex
      of_file (suc j) ok = jindex_journal j ok

      each : Whose p a → (flat u.parent).child u.name ≡ Some a
      each (whose_master s o) = absurd (master_up u (sym (ap up_of o) ∙ e))
      each (whose_root s o) = absurd (root_up u (sym (ap up_of o) ∙ e))
      each (whose_journals s o) = led master (codes "jindex") o (master_jindex ∙ ap Some (sym s))
      each (whose_leaf n low s o) = absurd (leaf_up p n u (sym (ap up_of o) ∙ e))
      each (whose_file i ok s o) = led (file_parent p i) (file_name i) o (of_file i ok ∙ ap Some (sym s))
      each (whose_below i l x ok below s o) = absurd (below_up p i l x u (sym (ap up_of o) ∙ e))
      each (whose_none un) = absurd (un (used_up (owner p a) u e))

  pub found : (a : ℕ) → is_dinode (owner p a) ≡ true → IsFound flat (new_layout p) a
  found a dinode = each (whose p fit known a)
    where
      to : (a b : ℕ) (path : Path) → (name : List ℕ) → (flat a).child name ≡ Some b → follow flat a (name ∷ path) ≡ follow flat b path
      to a b path name e = ap (option_and_then (λ c. follow flat c path)) e

      of_file : (i : ℕ) → i ≤ p.journals → (path : Path) × (follow flat master path ≡ Some (spot p i 0))
      of_file zero ok = (codes "rindex" ∷ [], to master (spot p 0 0) [] (codes "rindex") master_rindex)
      of_file (suc j) ok = (codes "jindex" ∷ journal_name j ∷ [], to master jindex (journal_name j ∷ []) (codes "jindex") master_jindex ∙ to jindex (spot p (suc j) 0) [] (journal_name j) (jindex_journal j ok))

      each : Whose p a → IsFound flat (new_layout p) a
      each (whose_master s o) = inr ([], ap Some (sym s))
      each (whose_root s o) = inl ([], ap Some (sym s))
      each (whose_journals s o) = inr (codes "jindex" ∷ [], to master jindex [] (codes "jindex") master_jindex ∙ ap Some (sym s))
      each (whose_leaf n low s o) = absurd (no_leaf_dinode p n (ap is_dinode (sym o) ∙ dinode))
      each (whose_file i ok s o) = let way = of_file i ok in inr (way.0, way.1 ∙ ap Some (sym s))
      each (whose_below i l x ok below s o) = absurd (no_below_dinode p i l x (ap is_dinode (sym o) ∙ dinode))
      each (whose_none un) = absurd (un (used_dinode (owner p a) dinode))

  -- ---- the root

  nothing_below : (name : List ℕ) (path : Path) → follow flat root (name ∷ path) ≡ None
  nothing_below name path = ap (option_and_then (λ c. follow flat c path)) (root_empty name)

  pub short : AreShort flat (held p at) (new_layout p)
  short [] a e regular = absurd (not_regular (dinode_in (held p at root)) (dir_is p fit known at made root_place 2 2 2 (root_entries p) (root_at p fit known)) (subst (λ n. is_regular (dinode_in (held p at n)) ≡ true) (sym (some_same e)) regular))
  short (name ∷ path) a e regular = absurd (none_some (sym (nothing_below name path) ∙ e))

  pub reads : ReadsAs flat root (dir none)
  reads = record { tree = tt; same = same }
    where
      same : (path : Path) → thing_from flat root path ≡ thing_at (dir none) path
      same [] = ap Some (dir_thing root root_records root_said)
      same (name ∷ path) = ap (option_and_then (λ b. Some (flat b).thing)) (nothing_below name path)

  pub root_is : is_directory_in (held p at root) ≡ true
  root_is = dir_is p fit known at made root_place 2 2 2 (root_entries p) (root_at p fit known)
