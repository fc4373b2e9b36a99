-- What a view shows is the image's: inodes, names, pointers and groups.
use Rattle.std.proofs.Common.{◌≡◌, ◌≢◌, ℕ, ◌+◌, ◌⊎◌, inl, inr, List, [], ◌∷◌, ◌++◌, Option, Some, true, false, refl, sym, ap, ◌∙◌, subst}
use Rattle.std.proofs.lemmas.Bool.{cases_Bool, cond-false, true≢false}
use Rattle.std.proofs.lemmas.List.{append-nil, append_assoc}
use Rattle.std.specs.Prelude.{Contains}
use Rattle.std.specs.Option.{option_map}
use Rattle.file_tree.specs.Names.{IsName}
use Rattle.gfs2_layout.specs.Device.{superblock_place}
use Rattle.gfs2_layout.specs.Inode.{entry, first_hash, is_directory_in, is_hashed_in, leaf_area, records_of}
use Rattle.gfs2_layout.specs.declared.rindex.Rindex.{Rindex}
use Rattle.gfs2_layout.specs.Records.{Record, is_dots, record_named, records_in}
use Rattle.glock_names.specs.Views.{Seen, group_of_entry}
use Rattle.glock_names.specs.declared.steps.Entry.{Entry}
use Rattle.call_locks.specs.declared.want.Want.{Want}
use Rattle.dinode_tree.specs.Shown.{IsShown}
use Rattle.linear_dirs.specs.Shown.{entry_of}
use Rattle.pointer_tables.specs.Directories.{IsInChain, chain_head, chain_next}
use Rattle.hash_dirs.specs.Finding.{IsFirstNamed, in_leaf, nowhere}
use Rattle.hash_dirs.specs.Shown.{LeadsToLeaf, by_leaf, by_pointer, index_for}
use Rattle.directories.specs.Shown.{HasName, Says, in_linear, in_hashed}
use Rattle.directories.specs.Shown as dirs
use Rattle.resource_groups.specs.Putting.{HasDataBlock}
use Rattle.image_model.specs.Claims.{every, Claims, root, in_dinode, first_leaf, next_leaf, HasInode, HasDirectory, HasLeaf, IsLeafBehind, same_leaf, next_behind}
use Rattle.image_model.specs.Claims as image
use Rattle.image_model.specs.Flat.{Path}
use Rattle.image_model.specs.Groups.{IsListed}
use Rattle.image_model.specs.Image.{Image, IsImage}
use Rattle.image_model.specs.Owners.{Root, Named, Chained}
use Rattle.image_model.specs.Rules.{HasSoundGroup, IsOutside}
use Rattle.image_model.proofs.Held.{none_some}
use Rattle.image_model.proofs.Rows.{and_left}
use Rattle.image_model.proofs.Reach.{Leading, leading}
use Rattle.file_calls.specs.Walks.{Names, IsDirectoryAt, IsHeldAt, LeadsTo, at_root, by_name, IsNext, the_root, the_child}
use Rattle.file_calls.proofs.Images.{child_is}
use Rattle.damage_laws.specs.Telling.{IsReadFrom, IsAstray, HasAstray}
use Rattle.damage_laws.proofs.Astray.{whole_or}

-- ---- chains of leaves

module _ (im : Image) (a : ℕ) (has : HasInode im a) (hashed : is_hashed_in (every im a) ≡ true) where
  -- each leaf of a chain is claimed, and so is what leads to one
  pub chain_claims : (i place x : ℕ) → IsInChain (every im a) i place x → (by : ℕ) × Claims im by x (Chained a (first_hash (every im a) i) place)
  chain_claims i _ _ (chain_head low some) = (_, first_leaf has.1.by a has.0 i has.1.claimed has.1.dinode hashed low some)
  chain_claims i _ _ (chain_next place x chain more) = (x, next_leaf (chain_claims i place x chain).0 x a (first_hash (every im a) i) place (chain_claims i place x chain).1 more)

  -- and stands so many behind its first
  pub chain_behind : (i place x : ℕ) → IsInChain (every im a) i place x → IsLeafBehind im a (entry (every im a) i) place x
  chain_behind i _ _ (chain_head low some) = same_leaf
  chain_behind i _ _ (chain_next place x chain more) = next_behind place x (chain_behind i place x chain) more

  pub leaf_claims : (i from x : ℕ) → LeadsToLeaf (every im a) i from x → x ≢ 0 → (hash place : ℕ) × Claims im from x (Chained a hash place)
  leaf_claims i _ _ (by_pointer low) some = (first_hash (every im a) i, 0, first_leaf has.1.by a has.0 i has.1.claimed has.1.dinode hashed low some)
  leaf_claims i _ _ (by_leaf place x chain more) some = let c = chain_claims i place x chain in (first_hash (every im a) i, place + 1, next_leaf c.0 x a (first_hash (every im a) i) place c.1 more)

  pub has_leaf : (i from x : ℕ) → LeadsToLeaf (every im a) i from x → x ≢ 0 → HasLeaf im a x
  has_leaf i from x leads some = let c = leaf_claims i from x leads some in (from, c.0, c.1, c.2)

-- ---- names

-- The name in the directory claims the block to which it leads, by its own block or by a leaf of it.
pub record IsNamedBy (im : Image) (dir b : ℕ) (name : List ℕ) : Type 0 where
  pub by : ℕ
  pub claims : Claims im by b (Named dir name)
  pub from : (by ≡ dir) ⊎ HasLeaf im dir by

-- the record of a name that is found
pub record_is : (records : List Record) (name : List ℕ) (r : Record) → record_named records name ≡ Some r → Leading records name r.address
record_is records name r found = leading records name r.address (ap (option_map (λ (x : Record). x.address)) found)

module _ (im : Image) (a b : ℕ) (name : List ℕ) (has : HasInode im a) (dir : is_directory_in (every im a) ≡ true) (is : IsName name) where
  by_record : (by : ℕ) (records : List Record) → ((by ≡ a) ⊎ HasLeaf im a by) → Leading records name b
      → ((r : Record) → Contains records r → is_dots r.name ≡ is_dots name → Claims im by r.address (Named a r.name)) → IsNamedBy im a b name
  by_record by records from led claims = record {
    by = by;
    claims = subst (λ n. Claims im by b (Named a n)) led.named (subst (λ c. Claims im by c (Named a led.entry.name)) led.address (claims led.entry led.there (ap is_dots led.named)));
    from = from;
  }

  linear_claims : is_hashed_in (every im a) ≡ false → (e : Entry) → Some e ≡ option_map entry_of (record_named (records_of (every im a)) name) → e.addr ≡ b → IsNamedBy im a b name
  unfolding records_of
  linear_claims plain e found address =
      by_record a (records_of (every im a)) (inl refl) (leading (records_of (every im a)) name b (child_is (records_of (every im a)) name e found ∙ ap Some address))
      (λ r there dots. in_dinode has.1.by a has.0 r has.1.claimed has.1.dinode dir plain (subst (λ rs. Contains rs r) (cond-false _ _ _ plain) there) (dots ∙ is.not_dots))

  hashed_claims : is_hashed_in (every im a) ≡ true → (i : ℕ) (named : Option Record) (e : Entry) → IsFirstNamed (every im a) i name named → Some e ≡ option_map entry_of named → e.addr ≡ b → IsNamedBy im a b name
  hashed_claims hashed i _ e (nowhere ends none heads) leads address = absurd (none_some (sym leads))
  hashed_claims hashed i _ e (in_leaf place x r chain found later heads) leads address =
      let c = chain_claims im a has hashed i place x chain in
      let led = record_is (records_in (leaf_area (every im a) x)) name r found in
      let there : r.address ≡ b = some_address r e leads ∙ address in
      by_record x (records_in (leaf_area (every im a) x)) (inr (c.0, first_hash (every im a) i, place, c.1)) (subst (Leading (records_in (leaf_area (every im a) x)) name) there led)
      (λ q at dots. image.in_leaf c.0 x a (first_hash (every im a) i) place q c.1 at (dots ∙ is.not_dots))
    where
      some_address : (r : Record) (e : Entry) → Some e ≡ Some (entry_of r) → r.address ≡ e.addr
      some_address r e same = cc

  says_claims : (found : Option Entry) (e : Entry) → Says (every im a) name found → Some e ≡ found → e.addr ≡ b → IsNamedBy im a b name
  says_claims _ e (in_linear plain) same address = linear_claims plain e same address
  says_claims _ e (in_hashed found hashed small by) same address = hashed_claims hashed (index_for (every im a) name) by.named e by.first (same ∙ by.leads) address

  pub name_claims : HasName (every im a) name b → IsNamedBy im a b name
  name_claims child = says_claims (Some child.entry) child.entry child.says refl child.address

-- ---- what a view shows

-- the groups of the list are those of a whole one
pub has_group : (v : Seen) (im : Image) (read : IsReadFrom v im) (g : Rindex) → IsListed read.list g → HasSoundGroup im g
has_group v im read g there = (read.list, read.whole, there)

module _ (v : Seen) (im : Image) (read : IsReadFrom v im) (is_image : IsImage im) where
  -- an inode that is read as if it had every block of the image is one that the view shows
  pub shown : (a : ℕ) → IsShown v a (every im a)
  shown a = record { own = refl; size = read.size; dinode = refl; led_to = λ b k level first c leads. refl; same = λ b bytes some e. read.agrees b bytes e }

  pub root_claimed : Claims im (superblock_place im.size) v.root Root
  root_claimed = subst (λ a. Claims im (superblock_place im.size) a Root) read.root root

  pub root_there : HasInode im v.root
  root_there = (Root, record { by = superblock_place im.size; claimed = root_claimed; dinode = refl })

  pub is_directory : (a : ℕ) → HasInode im a → IsDirectoryAt v a → HasDirectory im a
  is_directory a has directory = record { inode = has; dir = directory (every im a) (shown a) }

  -- so is a directory, of which the table's blocks are whole; or one of its blocks is beyond the device
  pub directory_or : (a : ℕ) → HasDirectory im a → dirs.IsShown v a (every im a) ⊎ ((x : ℕ) × IsAstray im a x)
  directory_or a has = elim (cases_Bool (is_hashed_in (every im a))) [
    | inr linear ↦ inl (record { inode = shown a; leaves = λ hashed i place x chain some. refl; whole = λ hashed. absurd (true≢false (sym hashed ∙ linear)) })
    | inl hashed ↦ elim (whole_or im is_image a has hashed) [
      | inl whole ↦ inl (record { inode = shown a; leaves = λ is i place x chain some. refl; whole = λ is. whole })
      | inr astray ↦ inr astray
    ]
  ]

  -- and any inode is shown so
  pub inode_or : (a : ℕ) → HasInode im a → dirs.IsShown v a (every im a) ⊎ ((x : ℕ) × IsAstray im a x)
  inode_or a has = elim (cases_Bool (is_directory_in (every im a))) [
    | inl dir ↦ directory_or a (record { inode = has; dir = dir })
    | inr file ↦ inl (record { inode = shown a; leaves = λ hashed i place x chain some. refl; whole = λ hashed. absurd (true≢false (sym (and_left (is_directory_in (every im a)) _ hashed) ∙ file)) })
  ]

  module _ (wants : List Want) where
    abbrev pub IsAhead : Path → Type 0
    IsAhead path = HasAstray v im wants path

    -- so it stays on a longer path
    pub further : (front more path : Path) → path ≡ front ++ more → IsAhead front → IsAhead path
    further front more path split astray = record {
      front = astray.front;
      back = astray.back ++ more;
      split = split ∙ ap (λ p. p ++ more) astray.split ∙ append_assoc astray.front astray.back more;
      directory = astray.directory;
      leads = astray.leads;
      block = astray.block;
      astray = astray.astray;
    }

    pub astray_at : (path : Path) (a : ℕ) → LeadsTo v wants path a → ((x : ℕ) × IsAstray im a x) → IsAhead path
    astray_at path a leads astray = record { front = path; back = []; split = sym (append-nil path); directory = a; leads = leads; block = astray.0; astray = astray.1 }

    -- a name in a directory that the view has claims the inode to which it leads
    named_from : (front : Path) (dir b : ℕ) (name : List ℕ) → LeadsTo v wants front dir → HasInode im dir ⊎ IsAhead front → IsName name → Names v dir name b → IsNamedBy im dir b name ⊎ IsAhead front
    named_from front dir b name leads (inr astray) is names = inr astray
    named_from front dir b name leads (inl has) is names =
        let there = is_directory dir has names.directory in
        elim (directory_or dir there) [
          | inl seen ↦ inl (name_claims im dir b name has there.dir is (names.child (every im dir) seen))
          | inr astray ↦ inr (astray_at front dir leads astray)
        ]

    named_inode : (dir b : ℕ) (name : List ℕ) → IsNamedBy im dir b name → HasInode im b
    named_inode dir b name named = (Named dir name, record { by = named.by; claimed = named.claims; dinode = refl })

    pub led_there : (path : Path) (a : ℕ) → LeadsTo v wants path a → HasInode im a ⊎ IsAhead path
    led_there path a (at_root held) = inl root_there
    led_there path a (by_name front dir b name leads is names inside held) = elim (named_from front dir b name leads (led_there front dir leads) is names) [
      | inl named ↦ inl (named_inode dir b name named)
      | inr astray ↦ inr (further front (name ∷ []) (front ++ name ∷ []) refl astray)
    ]

    pub named_there : (front : Path) (dir b : ℕ) (name : List ℕ) → LeadsTo v wants front dir → IsName name → Names v dir name b → IsNamedBy im dir b name ⊎ IsAhead front
    named_there front dir b name leads is names = named_from front dir b name leads (led_there front dir leads) is names

    pub next_there : (path : Path) (depth a : ℕ) → IsNext v wants path depth a → HasInode im a ⊎ IsAhead path
    next_there path depth a the_root = inl root_there
    next_there path depth a (the_child front back dir b name on leads is names inside) = elim (named_there front dir b name leads is names) [
      | inl named ↦ inl (named_inode dir b name named)
      | inr astray ↦ inr (further front (name ∷ back) path on astray)
    ]

    -- the path leads to it, where its lock is held
    pub next_led : (path : Path) (depth a : ℕ) → IsNext v wants path depth a → IsHeldAt v wants depth a → (front back : Path) × (path ≡ front ++ back) × LeadsTo v wants front a
    next_led path depth a the_root held = ([], path, refl, at_root held)
    next_led path depth a (the_child front back dir b name on leads is names inside) held =
        (front ++ name ∷ [], back, on ∙ sym (append_assoc front (name ∷ []) back), by_name front dir b name leads is names inside held)

  -- a block in none of the view's groups is in none of the image's
  pub outside : (b : ℕ) → ¬ (HasDataBlock v b) → IsOutside im b
  outside b out = (read.list, read.whole, λ g there of. out (group_of_entry g, (read.groups (group_of_entry g)).1 (g, there, refl), record { low = of.low; high = of.high }))
