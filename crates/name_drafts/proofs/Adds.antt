-- In an image that the view may be of: a draft that makes a name adds it.
use Rattle.std.proofs.Common.{◌≡◌, ◌≢◌, inl, inr, Bool, true, false, ℕ, ◌<◌, ◌≤◌, List, [], ◌∷◌, length, Option, None, Some, refl, sym, ap, ap₂, ◌∙◌, subst, arith}
use Rattle.std.proofs.lemmas.Bool.{cases_eq}
use Rattle.std.proofs.lemmas.List.Elements.{Contains-append_cases, Contains-append_left, Contains-append_right}
use Rattle.std.specs.Prelude.{Contains, IsSome, option_map, unwrap_or}
use Rattle.std.specs.Ordering.{nat_cmp}
use Rattle.std.specs.FinMap.{FinMap, get, empty, get-empty}
use Rattle.file_tree.specs.Names.{IsName}
use Rattle.file_tree.specs.Tree.{Tree}
use Rattle.drafts.specs.Fates.{AreWhole, seen_with}
use Rattle.drafts.specs.declared.change.Change.{Change}
use Rattle.drafts.specs.declared.fate.Fate.{Fate}
use Rattle.drafts.specs.declared.fate.Fate.TheVariants.{Put}
use Rattle.gfs2_layout.specs.Holding.{Cell, Holding, Itself, Part, alone, bytes_at, cell_bytes, cell_part, part_at}
use Rattle.gfs2_layout.specs.Inode.{Head, IsInode, head_of}
use Rattle.gfs2_layout.specs.declared.dinode.Dinode.{Dinode}
use Rattle.gfs2_layout.specs.declared.rindex.Rindex.{Rindex}
use Rattle.glock_names.specs.Views.{Seen, HasGroup, IsView, group_of_entry}
use Rattle.glock_names.specs.declared.steps.Entry.{Entry}
use Rattle.dinode_tree.specs.Reading.{inode_lock}
use Rattle.linear_dirs.specs.Shown.{bytes_over, holding_over, record_for}
use Rattle.linear_dirs.proofs.Over.{as_seen, parts_stay}
use Rattle.linear_dirs.proofs.Rewritten.{over_there}
use Rattle.growth_drafts.specs.Taken.{AreFreeFor}
use Rattle.name_inserts.specs.DirectoryShown as dirs
use Rattle.name_inserts.specs.Inserting.{CanGetName, PutsName}
use Rattle.resource_groups.specs.Freeing as freeing
use Rattle.resource_groups.specs.Putting.{HasDataBlock}
use Rattle.resource_groups.specs.Shown.{IsDataOf, IsHeaderOf}
use Rattle.resource_groups.proofs.Fits.{big_of}
use Rattle.image_model.specs.Flat.{Path}
use Rattle.image_model.specs.Groups.{IsListed}
use Rattle.image_model.specs.Groups as owned
use Rattle.image_model.specs.Image.{Image}
use Rattle.image_model.specs.Owners.{Owners, cell_in, cell_of, holding, part_in}
use Rattle.image_model.specs.Stands.{IsRecordOf, Layout, heads_of}
use Rattle.image_model.proofs.Held.{none_some}
use Rattle.image_changes.specs.Does.{IsOf}
use Rattle.image_changes.specs.Drafted.{with_draft}
use Rattle.draft_changes.specs.Adding.{ReadsNew}
use Rattle.draft_changes.specs.Removing.{HasSome}
use Rattle.draft_changes.specs.Resizing.{HasExchangedBlocks, HoldsThere, IsSaidFree}
use Rattle.draft_changes.proofs.Saying.{free_blocks_are_new}
use Rattle.draft_changes.proofs.Views.{groups_are_listed}
use Rattle.image_changes.proofs.Finishing.{drafts_show}
use Rattle.directory_changes.specs.Growing.{GrowsByName, IsPutOrLeft}
use Rattle.path_walks.specs.declared.walk.Place.{Place}
use Rattle.name_drafts.specs.Drafting.{GrowsInto, HasNoGroupBlock, IsNewOf, IsPlaceFor, entry_for, new_tree}
use Rattle.name_drafts.specs.declared.drafting.NewBlock.{NewBlock}
use Rattle.name_drafts.proofs.Done.{AreDone, as_named, new_put, parent_put, second_away}
use Rattle.name_drafts.proofs.Fates.{put_seen}
use Rattle.name_drafts.proofs.GroupsSay.{states}
use Rattle.name_drafts.proofs.Grown.{exchanged, grows_into, its_blocks, named, named_is, puts, stays}
use Rattle.name_drafts.proofs.InImage.{all_free, can_get, no_group_block, shown}
use Rattle.name_drafts.proofs.NewInodes.{directory_reads, directory_record, file_reads, file_record}

-- ---- the new inode

new_sound : (is_directory : Bool) (p : Place) (number b time : ℕ) (h : Holding) → IsNewOf is_directory p number b time h → IsInode h
new_sound true p number b time h is = is.sound
new_sound false p number b time h is = is.sound

new_reads : (is_directory : Bool) (p : Place) (number time : ℕ) (h : Holding) (above : Head) → above ≡ record { number = p.dinode.num.number; is_dir = true } → IsNewOf is_directory p number h.own time h
    → ReadsNew above p.inode h (new_tree is_directory)
new_reads true p number time h above there is = directory_reads above p.inode p.dinode.num.number number time h there is
new_reads false p number time h above there is = file_reads above p.inode number time h is

new_record : (is_directory : Bool) (p : Place) (number time : ℕ) (h : Holding) (name : List ℕ) → IsNewOf is_directory p number h.own time h
    → IsRecordOf (λ b. head_of h) h.own (record_for name (entry_for is_directory number h.own))
new_record true p number time h name is = directory_record number time (record { number = p.dinode.num.number; addr = p.inode; kind = 4 }) h name is
new_record false p number time h name is = file_record number time h name is

abbrev head_with : ℕ → Bool → Head
head_with n b = record { number = n; is_dir = b }

-- ---- what is seen of a block

unseen_bytes : (p : Option (List ℕ)) (c : Option Cell) → p ≡ None → cell_bytes (option_map (bytes_over p) c) ≡ cell_bytes c
unseen_bytes p None none = ap (λ q. cell_bytes (option_map (bytes_over q) None)) none
unseen_bytes p (Some c) none = ap (λ q. cell_bytes (option_map (bytes_over q) (Some c))) none

none_has_bytes : (c : Option Cell) → c ≡ None → cell_bytes c ≡ []
none_has_bytes c e = ap cell_bytes e

some_part : (c : Option Cell) → IsSome c → (x : Cell) × (c ≡ Some x)
some_part None some = absurd (no some)
  where
    no : false ≡ true → ⊥
    no e = cc
some_part (Some x) some = (x, refl)

-- a block of an inode has the bytes that the image has there
own_bytes : (im : Image) (o : Owners) (a b : ℕ) → IsSome ((holding im o a).cell b) → bytes_at (holding im o a) b ≡ im.at b
unfolding cell_in
own_bytes im o a b some = by (part_in a b (o b)) some
  where
    by : (part : Option Part) → IsSome (cell_of part (im.at b)) → cell_bytes (cell_of part (im.at b)) ≡ im.at b
    by None none = absurd (no none)
      where
        no : false ≡ true → ⊥
        no e = cc
    by (Some part) some = refl

cell_some : (c : Option Cell) (part : Part) → cell_part c ≡ Some part → IsSome c
cell_some None part e = absurd (none_some e)
cell_some (Some x) part e = refl

module _ (v : Seen) (is_directory : Bool) (p : Place) (name : List ℕ) (r : NewBlock) (room : List ℕ) (time : ℕ) (change : Change) (is : AreDone v is_directory p name r room time change)
    (shows : IsView v) (has : HasGroup v r.group) (block : IsDataOf r.group r.block) (inside : HasDataBlock v p.inode) (rooms : (b : ℕ) → Contains room b → HasDataBlock v b)
    (apart : ¬ (Contains (r.block ∷ room) p.inode)) (is_name : IsName name) (im : Image) (o : Owners) (l : Layout) (t : Tree) (path : Path) (of : IsOf v im o l t) (place : IsPlaceFor im o l path name p r room) where
  abbrev h : Holding
  h = holding im o p.inode

  abbrev end : FinMap nat_cmp Fate
  end = is.said.fates

  abbrev first : FinMap nat_cmp Fate
  first = is.named.first

  h_shown : dirs.IsShown v p.inode h
  h_shown = shown v im o l t of shows path name p r room place

  h_can : CanGetName h name room
  h_can = can_get v im o l t of shows path name p r room place

  h_free : AreFreeFor h (r.block ∷ room)
  h_free = all_free v im o l t of shows path name p r room place

  h_clear : HasNoGroupBlock v h
  h_clear = no_group_block v im o l t of shows p.inode

  abbrev m : Holding
  m = named v is_directory p name r room time change is shows has block inside rooms apart h h_shown h_can h_free h_clear

  abbrev g : Holding
  g = holding_over (seen_with v end) m

  abbrev entry : Entry
  entry = entry_for is_directory is.number r.block

  abbrev m_puts : PutsName empty first room is.named.left name entry h m
  m_puts = puts v is_directory p name r room time change is shows has block inside rooms apart h h_shown h_can h_free h_clear

  abbrev m_is : (x : Holding) × dirs.IsShown (seen_with v first) p.inode x × ((given : PutsName empty first room is.named.left name entry h x) × (given.taken ≡ is.taken))
  m_is = named_is v is_directory p name r room time change is shows has block inside rooms apart h h_shown h_can h_free h_clear

  -- ---- its blocks

  in_m : (b : ℕ) → IsSome (g.cell b) → IsSome (m.cell b)
  in_m b some = sym (over_there ((seen_with v end).block_at b) (m.cell b)) ∙ some

  in_g : (b : ℕ) → IsSome (m.cell b) → IsSome (g.cell b)
  in_g b some = over_there ((seen_with v end).block_at b) (m.cell b) ∙ some

  not_empty : (b : ℕ) → IsSome (m.cell b) → bytes_at m b ≡ bytes_at h b → IsSome (h.cell b)
  not_empty b some same = by (h.cell b) refl
    where
      by : (c : Option Cell) → h.cell b ≡ c → IsSome c
      by (Some x) e = refl
      by None e =
          let x = some_part (m.cell b) some in
          let whole : length (bytes_at m b) ≡ m.size = m_puts.sound.inode.whole b x.0.part (ap cell_part x.1) in
          let none : length (bytes_at m b) ≡ 0 = ap length (same ∙ none_has_bytes (h.cell b) e) in
          let large : 512 ≤ m.size = big_of m.size m_puts.sound.block_size in
          absurd (omega (arith, whole, none, large))

  had : (b : ℕ) → IsSome (m.cell b) → bytes_at m b ≡ bytes_at h b → IsSome (h.cell b)
  had b some same = elim (its_blocks v is_directory p name r room time change is shows has block inside rooms apart h h_shown h_can h_free h_clear b some) [
    | inl before ↦ before
    | inr taken ↦ not_empty b some same
  ]

  stays_named : (b : ℕ) → IsSome (m.cell b) → b ≢ p.inode → get end b ≡ get first b
  stays_named b some away = stays v is_directory p name r room time change is shows has block inside rooms apart h h_shown h_can h_free h_clear b some
      ∙ second_away v is_directory p name r room time change is shows has block inside rooms apart b away

  its_own : m.own ≡ p.inode
  its_own = m_is.1.inode.own

  parent_is : get end p.inode ≡ Some (Put (inode_lock p.inode) false is.named.final)
  parent_is = parent_put v is_directory p name r room time change is shows has block inside rooms apart

  -- a block that was put is put in the end
  put_still : (b : ℕ) (bytes : List ℕ) → IsSome (m.cell b) → get first b ≡ Some (Put (inode_lock m.own) false bytes) → (seen_with v end).block_at b ≡ None → ⊥
  put_still b bytes some put none = elim (cases_eq b p.inode) [
    | inl same ↦ none_some (sym none ∙ put_seen v end b (inode_lock p.inode) false is.named.final (ap (get end) same ∙ parent_is))
    | inr away ↦ none_some (sym none ∙ put_seen v end b (inode_lock m.own) false bytes (stays_named b some away ∙ put))
  ]

  bytes_are : (b : ℕ) → IsSome (g.cell b) → bytes_at g b ≡ (with_draft im end).at b
  bytes_are b some = by ((seen_with v end).block_at b) refl
    where
      left_is : (seen_with v end).block_at b ≡ None → bytes_at m b ≡ im.at b
      left_is none = elim (m_puts.drafted.own b (in_m b some)) [
        | inl left ↦ left.1 ∙ own_bytes im o p.inode b (had b (in_m b some) left.1)
        | inr put ↦ absurd (put_still b (bytes_at m b) (in_m b some) put none)
      ]

      by : (seen : Option (List ℕ)) → (seen_with v end).block_at b ≡ seen → bytes_at g b ≡ (with_draft im end).at b
      by (Some bytes) e = as_seen (seen_with v end) m b bytes some e ∙ sym (drafts_show v end im of.agrees b ∙ ap (λ s. unwrap_or s (im.at b)) e)
      by None e = unseen_bytes ((seen_with v end).block_at b) (m.cell b) e ∙ left_is e ∙ sym (drafts_show v end im of.agrees b ∙ ap (λ s. unwrap_or s (im.at b)) e)

  there : HoldsThere (with_draft im end) p.inode g
  there = record {
    size = m_is.1.inode.size ∙ sym of.size;
    count = m_puts.has.count;
    own = its_own;
    itself = λ b. (
      (λ part. m_puts.sound.placed.only b (sym (parts_stay (seen_with v end) m b) ∙ part) ∙ its_own),
      (λ same. parts_stay (seen_with v end) m b ∙ ap (part_at m) (same ∙ sym its_own) ∙ m_puts.sound.placed.own),
    );
    bytes = bytes_are;
  }

  none_in : (b : ℕ) → ¬ (Contains [] b)
  none_in b c = omega (arith, c.1)

  blocks : HasExchangedBlocks h g is.taken []
  blocks = record {
    were = λ b gone. absurd (none_in b gone);
    has = λ b. (
      (λ some. (its_blocks v is_directory p name r room time change is shows has block inside rooms apart h h_shown h_can h_free h_clear b (in_m b some), none_in b)),
      (λ any. in_g b ((m_puts.has.blocks b).1 (elim any.0 [ inl before ↦ inl before | inr taken ↦ inr (subst (λ xs. Contains xs b) (sym m_is.2.1) taken) ]))),
    );
  }

  own_there : IsSome (m.cell p.inode)
  own_there = subst (λ b. IsSome (m.cell b)) its_own (cell_some (m.cell m.own) Itself m_puts.sound.placed.own)

  put_or_left : (b : ℕ) → IsSome (g.cell b) → IsPutOrLeft end h p.inode b
  put_or_left b some = elim (cases_eq b p.inode) [
    | inl same ↦ inl (is.named.final, ap (get end) same ∙ parent_is)
    | inr away ↦ elim (m_puts.drafted.own b (in_m b some)) [
      | inl left ↦ inr (had b (in_m b some) left.1, stays_named b (in_m b some) away ∙ left.0 ∙ get-empty nat_cmp b)
      | inr put ↦ inl (bytes_at m b, stays_named b (in_m b some) away ∙ put ∙ ap (λ n. Some (Put (inode_lock n) false (bytes_at m b))) its_own)
    ]
  ]

  header_so : (k : Rindex) (b : ℕ) → IsHeaderOf (group_of_entry k) b → owned.IsHeaderOf k b
  header_so k b own = record { low = own.low; high = own.high }

  some_so : (k : Rindex) → freeing.HasSome (group_of_entry k) (r.block ∷ is.taken) → HasSome k (r.block ∷ is.taken)
  some_so k some = (some.0, some.1, record { low = some.2.low; high = some.2.high })

  nothing_else : (b : ℕ) → ¬ (IsSome (g.cell b)) → b ≢ r.block → ((k : Rindex) → IsListed l.groups k → HasSome k (r.block ∷ is.taken) → ¬ (owned.IsHeaderOf k b)) → get end b ≡ None
  nothing_else b other new_away far =
      as_named v is_directory p name r room time change is shows has block inside rooms apart b (λ same. other (in_g b (subst (λ x. IsSome (m.cell x)) (sym same) own_there))) new_away
      (λ k there_k some own.
      let f = (groups_are_listed v im o l t k of).0 there_k in
      far f.0 f.1 (some_so f.0 (subst (λ x. freeing.HasSome x (r.block ∷ is.taken)) f.2 some)) (header_so f.0 b (subst (λ x. IsHeaderOf x b) f.2 own)))
      ∙ m_puts.drafted.others b (λ some. other (in_g b some)) ∙ get-empty nat_cmp b

  -- ---- the name is added

  in_room : (b : ℕ) → Contains is.taken b → Contains room b
  in_room b taken = subst (λ xs. Contains xs b) (sym is.named.front) (Contains-append_left is.taken is.named.left b taken)

  all_said_free : (b : ℕ) → Contains (r.block ∷ is.taken) b → IsSaidFree im l b
  all_said_free b c = place.free b (elim (Contains-append_cases (r.block ∷ []) is.taken b c) [
    | inl here ↦ Contains-append_left (r.block ∷ []) room b here
    | inr taken ↦ Contains-append_right (r.block ∷ []) room b (in_room b taken)
  ])

  taken_apart : ¬ (Contains is.taken r.block)
  taken_apart c = place.once.0 (in_room r.block c)

  block_inside : r.block < im.count
  block_inside = (free_blocks_are_new im o l r.block of.stands.laid (place.free r.block (0, omega arith, refl))).2

  abbrev held : Holding
  held = alone im.size im.count r.block is.bytes

  new_held : IsNewOf is_directory p is.number r.block time held
  new_held = subst (λ size. IsNewOf is_directory p is.number r.block time (alone size im.count r.block is.bytes)) (sym of.size) (is.new im.count block_inside)

  grows_by_name : GrowsByName im o l end p.inode name r.block (new_tree is_directory) g is.taken
  grows_by_name = record {
    whole = subst (λ size. AreWhole size end) (sym of.size) is.said.whole;
    free = all_said_free;
    apart = taken_apart;
    states = states v im o l t of shows r has is.taken is.third change is.said taken_apart;
    bytes = is.bytes;
    put = new_put v is_directory p name r room time change is shows has block inside rooms apart;
    sound = new_sound is_directory p is.number r.block time held new_held;
    new = new_reads is_directory p is.number time held (heads_of im o p.inode) (ap₂ head_with (ap (λ (d : Dinode). d.num.number) (sym place.dinode)) place.directory) new_held;
    is_name = is_name;
    directory = place.directory;
    absent = place.absent;
    entry = record_for name (entry_for is_directory is.number r.block);
    named = refl;
    true_of = new_record is_directory p is.number time held name new_held;
    there = there;
    exchanged = exchanged v is_directory p name r room time change is shows has block inside rooms apart h h_shown h_can h_free h_clear;
    blocks = blocks;
    puts = put_or_left;
    others = nothing_else;
  }

  pub adds : (g : Holding) × GrowsByName im o l end p.inode name r.block (new_tree is_directory) g is.taken × GrowsInto v end name (entry_for is_directory is.number r.block) time is.taken h g
  adds = (g, grows_by_name, grows_into v is_directory p name r room time change is shows has block inside rooms apart h h_shown h_can h_free h_clear)
