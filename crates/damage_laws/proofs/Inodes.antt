-- Damage that a call meets at an inode to which a path of it leads, below it, in a directory where a name comes, and in groups.
use Rattle.std.proofs.Common.{◌≡◌, ℕ, zero, suc, ◌+◌, ◌⊎◌, inl, inr, List, ◌++◌, refl, sym, ◌∙◌, subst, arith}
use Rattle.std.specs.Prelude.{true, false}
use Rattle.call_locks.specs.declared.want.Want.{Want}
use Rattle.dinode_tree.specs.Below.{IsLedFrom}
use Rattle.directories.specs.Shown as dirs
use Rattle.gfs2_layout.specs.Holding.{Holding}
use Rattle.gfs2_layout.specs.Inode.{first_hash}
use Rattle.hash_dirs.specs.Shown.{index_for}
use Rattle.file_calls.specs.HashInserting as inserts
use Rattle.file_calls.specs.NameInserting as names
use Rattle.file_calls.specs.NameWay.{IsOnWay, its_dinode, its_leaf, its_pointer}
use Rattle.file_tree.specs.declared.call.Call.{Call}
use Rattle.call_locks.specs.Wants.{wanted}
use Rattle.call_locks.specs.WantLaws.{path_of}
use Rattle.file_calls.specs.FileDrafting.{IsWrongAt}
use Rattle.gfs2_layout.specs.Device.{superblock_place}
use Rattle.gfs2_layout.specs.Headers.{HasHeader}
use Rattle.gfs2_layout.specs.declared.rindex.Rindex.{Rindex}
use Rattle.glock_names.specs.Views.{Seen, HasGroup, group_of_entry}
use Rattle.glock_names.specs.declared.views.Group.{Group}
use Rattle.resource_groups.specs.Freeing.{BreaksSome}
use Rattle.resource_groups.specs.Putting.{HasDataBlock}
use Rattle.resource_groups.specs.Shown as group
use Rattle.image_model.specs.Claims.{every, Claims, below, HasDirectory, HasInode}
use Rattle.image_model.specs.Flat.{Path}
use Rattle.image_model.specs.Groups.{IsListed, state_of}
use Rattle.image_model.specs.Image.{Image, IsImage}
use Rattle.image_model.specs.Owners.{Owner, Root, Below, Chained, is_dinode}
use Rattle.image_model.specs.Rules.{Breaks, of_group, of_bitmap, of_owner, no_header, beyond_groups, bits_of, free_count, dinode_count, wrong_bits}
use Rattle.file_calls.specs.Walks.{IsDirectoryAt, LeadsTo, at_root, by_name}
use Rattle.file_calls.specs.Walks as path
use Rattle.file_calls.specs.Removing.{Goes}
use Rattle.damage_laws.specs.Telling.{IsAstray, IsReadFrom, HasRootInside, HasWholeGroups, HasAstray, IsTold, itself, astray, IsToldOf, IsToldOn, its_own, on_path, by_root}
use Rattle.damage_laws.proofs.Claimed.{chain_claims, has_group, root_claimed, directory_or, inode_or, is_directory, led_there, outside, astray_at, further}
use Rattle.damage_laws.proofs.Owned.{dinode_state}
use Rattle.damage_laws.proofs.Paths.{broken_directory_told, wrong_at}

-- ---- an inode in no group to which a path leads is the root

pub led_inside : (v : Seen) (wants : List Want) (path : Path) (a : ℕ) → LeadsTo v wants path a → (a ≡ v.root) ⊎ HasDataBlock v a
led_inside v wants path a (at_root held) = inl refl
led_inside v wants path a (by_name front dir b name leads is names inside held) = inr inside

-- what is told below a path is told of a longer one
pub longer : (v : Seen) (im : Image) (read : IsReadFrom v im) (is_image : IsImage im) (wants : List Want) (front back path : Path) → path ≡ front ++ back → (rule b : ℕ) → IsTold v im wants front rule b → IsTold v im wants path rule b
longer v im read is_image wants front back path split _ _ (itself rule b breaks) = itself rule b breaks
longer v im read is_image wants front back path split _ _ (astray rule b out) = astray rule b (further v im read is_image wants front back path split out)

-- a rule that is broken, but where a block of a directory on the path is beyond the device
pub told_or : (v : Seen) (im : Image) (wants : List Want) (path : Path) (rule b : ℕ) → Breaks im rule b ⊎ HasAstray v im wants path → IsTold v im wants path rule b
told_or v im wants path rule b (inl breaks) = itself rule b breaks
told_or v im wants path rule b (inr out) = astray rule b out

-- on the call's one path
pub own_told : (v : Seen) (im : Image) (call : Call) (rule b : ℕ) → IsTold v im (wanted call) (path_of call false) rule b → IsToldOf v im call rule b
own_told v im call rule b told = on_path rule b (record { wants = wanted call; names = path_of call false; on = its_own; told = told })

-- where the root is in a group there is no exception
pub inside_told : (v : Seen) (im : Image) (call : Call) → HasRootInside v → (rule b : ℕ) → IsToldOf v im call rule b → IsToldOn v im call rule b
inside_told v im call inside _ _ (on_path rule b told) = told
inside_told v im call inside _ _ (by_root bare breaks) = absurd (bare inside)

-- a data block of a group of the view, whose bits call it free in the image
abbrev pub IsSaidToBeFree : Seen → Image → ℕ → Type 0
IsSaidToBeFree v im x = (k : Group) × HasGroup v k × group.IsDataOf k x × (group.said im.at k x ≡ 0)

module _ (v : Seen) (im : Image) (read : IsReadFrom v im) where
  pub root_told : (call : Call) (wants : List Want) (path : Path) (a : ℕ) → IsImage im → LeadsTo v wants path a → ¬ (HasDataBlock v a) → IsToldOf v im call 2 a
  root_told call wants path a is_image leads out = elim (led_inside v wants path a leads) [
    | inl e ↦
        let bare : ¬ (HasRootInside v) = subst (λ b. ¬ (HasDataBlock v b)) e out in
        subst (IsToldOf v im call 2) (sym e) (by_root bare (beyond_groups (superblock_place im.size) v.root Root (root_claimed v im read is_image) (outside v im read is_image v.root bare)))
    | inr inside ↦ absurd (out inside)
  ]

  -- ---- a pointer of an inode that leads to a block in no group: the number stands in the pointer's block

  pub stray_told : (is_image : IsImage im) (wants : List Want) (path : Path) (a from b : ℕ) → LeadsTo v wants path a → IsLedFrom (every im a) from b → ¬ (HasDataBlock v b) → Breaks im 2 from ⊎ HasAstray v im wants path
  stray_told is_image wants path a from b leads led out = elim (led_there v im read is_image wants path a leads) [
    | inr ahead ↦ inr ahead
    | inl has ↦ inl (beyond_groups from b (Below a from led.0 led.1 led.2) (below has.1.by a has.0 from led.0 led.1 led.2 b has.1.claimed has.1.dinode led.3) (outside v im read is_image b out))
  ]

  broken_group : (g : Rindex) → IsListed read.list g → (rule b : ℕ) → group.IsBroken im.at (group_of_entry g) rule b → Breaks im rule b
  broken_group g there rule b (group.no_header zero low lacks) =
      let first : g.address ≡ g.address + 0 = omega arith in
      subst (Breaks im 1) first (no_header g.address 2 200 (of_group g (has_group v im read g there)) (λ header. lacks (subst (λ c. HasHeader 2 200 (im.at c)) first header)))
  broken_group g there rule b (group.no_header (suc k) low lacks) = no_header (g.address + suc k) 3 300 (of_bitmap g (suc k) (has_group v im read g there) (omega arith) low) lacks
  broken_group g there rule b (group.wrong_free other) = free_count g (has_group v im read g there) other
  broken_group g there rule b (group.wrong_dinodes other) = dinode_count g (has_group v im read g there) other

  module _ (whole : HasWholeGroups v im) where
    pub group_shown : (g : Group) → HasGroup v g → group.IsShown v g im.at
    group_shown g has = record { whole = λ b of. whole.image.whole b (whole.headers g b has of) ∙ read.size; same = λ b bytes of e. read.agrees b bytes e }

    -- a group of the view is broken in the image as it is whatever the view hasn't of it
    pub group_told : (k : Group) → HasGroup v k → (rule b : ℕ) → ((at : ℕ → List ℕ) → group.IsShown v k at → group.IsBroken at k rule b) → Breaks im rule b
    group_told k has rule b broken =
        let listed = (read.groups k).0 has in
        broken_group listed.0 listed.1 rule b (subst (λ g. group.IsBroken im.at g rule b) listed.2 (broken im.at (group_shown k has)))

    -- one that has some of the blocks that go or are taken
    pub some_told : (blocks : List ℕ) (rule b : ℕ) → BreaksSome v blocks rule b → Breaks im rule b
    some_told blocks rule b breaks = group_told breaks.0 breaks.1 rule b breaks.3

    -- ---- a block with an owner, which its group's bits call free

    owned_free_told : (x by : ℕ) (o : Owner) → Claims im by x o → (state_of o ≡ 0 → ⊥) → IsSaidToBeFree v im x → Breaks im 5 x
    owned_free_told x by o claimed used free =
        let listed = (read.groups free.0).0 free.1 in
        let within : group.IsDataOf (group_of_entry listed.0) x = subst (λ k. group.IsDataOf k x) listed.2 free.2 in
        let bits : bits_of im listed.0 x ≡ 0 = subst (λ k. group.said im.at k x ≡ 0) listed.2 free.3 in
        wrong_bits listed.0 x (has_group v im read listed.0 listed.1) (record { low = within.low; high = within.high }) (of_owner by o claimed (λ e. used (sym e ∙ bits)))

    dinode_used : (o : Owner) → is_dinode o ≡ true → state_of o ≡ 0 → ⊥
    dinode_used o is none = let three : state_of o ≡ 3 = dinode_state o is in absurd (omega (arith, three, none))

    pub dinode_free_told : (a : ℕ) → HasInode im a → IsSaidToBeFree v im a → Breaks im 5 a
    dinode_free_told a has free = owned_free_told a has.1.by has.0 has.1.claimed (dinode_used has.0 has.1.dinode) free

    -- one on the way to a name
    way_free_told : (a : ℕ) → HasInode im a → (name : List ℕ) (x : ℕ) → IsOnWay (every im a) name x → IsSaidToBeFree v im x → Breaks im 5 x
    way_free_told a has name x (its_dinode is) free = subst (Breaks im 5) (sym is) (dinode_free_told a has (subst (IsSaidToBeFree v im) is free))
    way_free_told a has name x (its_pointer hashed led is) free =
        owned_free_told x led.0 (Below a led.0 led.1 led.2 led.3) (below has.1.by a has.0 led.0 led.1 led.2 led.3 x has.1.claimed has.1.dinode led.4) (λ none. absurd (let one : 1 ≡ 0 = none in omega (arith, one))) free
    way_free_told a has name x (its_leaf place hashed chain) free =
        let claim = chain_claims im a has hashed (index_for (every im a) name) place x chain in
        owned_free_told x claim.0 (Chained a (first_hash (every im a) (index_for (every im a) name)) place) claim.1 (λ none. absurd (let one : 1 ≡ 0 = none in omega (arith, one))) free

    -- one of an inode's
    goes_free_told : (a : ℕ) → HasInode im a → (x : ℕ) → Goes (every im a) x → IsSaidToBeFree v im x → Breaks im 5 x
    goes_free_told a has x (inl is) free = subst (Breaks im 5) (sym is) (dinode_free_told a has (subst (IsSaidToBeFree v im) is free))
    goes_free_told a has x (inr (inl led)) free =
        owned_free_told x led.0 (Below a led.0 led.1 led.2 led.3) (below has.1.by a has.0 led.0 led.1 led.2 led.3 x has.1.claimed has.1.dinode led.4) (λ none. absurd (let one : 1 ≡ 0 = none in omega (arith, one))) free
    goes_free_told a has x (inr (inr leaf)) free =
        let claim = chain_claims im a has leaf.0 leaf.1.0 leaf.1.1 x leaf.1.2 in
        owned_free_told x claim.0 (Chained a (first_hash (every im a) leaf.1.0) leaf.1.1) claim.1 (λ none. absurd (let one : 1 ≡ 0 = none in omega (arith, one))) free

    -- ---- an inode to which a path leads

    module _ (wants : List Want) (way : Path) (a : ℕ) (leads : LeadsTo v wants way a) where
      up : ((x : ℕ) × IsAstray im a x) → HasAstray v im wants way
      up out = astray_at v im read whole.image wants way a leads out

      -- what breaks a rule where the inode is one of the image
      there_told : (rule b : ℕ) → (HasInode im a → IsTold v im wants way rule b) → IsTold v im wants way rule b
      there_told rule b told = elim (led_there v im read whole.image wants way a leads) [
        | inr ahead ↦ astray rule b ahead
        | inl has ↦ told has
      ]

      -- and where it is a directory, none of whose blocks is beyond the device
      seen_told : (rule b : ℕ) → IsDirectoryAt v a → (HasDirectory im a → dirs.IsShown v a (every im a) → IsTold v im wants way rule b) → IsTold v im wants way rule b
      seen_told rule b directory told = there_told rule b (λ has. elim (directory_or v im read whole.image a (is_directory v im read whole.image a has directory)) [
        | inr out ↦ astray rule b (up out)
        | inl seen ↦ told (is_directory v im read whole.image a has directory) seen
      ])

      pub inode_told : (rule b : ℕ) → path.IsWrongAt v a rule b → IsTold v im wants way rule b
      inode_told rule b wrong = there_told rule b (λ has. wrong_at v im read whole.image wants way a up has rule b wrong)

      -- a dinode that the bits call free
      pub free_told : IsSaidToBeFree v im a → IsTold v im wants way 5 a
      free_told free = there_told 5 a (λ has. itself 5 a (dinode_free_told a has free))

      -- or a block of the inode
      pub free_below_told : (x : ℕ) → ((h : Holding) → dirs.IsShown v a h → Goes h x) → IsSaidToBeFree v im x → IsTold v im wants way 5 x
      free_below_told x goes free = there_told 5 x (λ has. elim (inode_or v im read whole.image a has) [
        | inr out ↦ astray 5 x (up out)
        | inl seen ↦ itself 5 x (goes_free_told a has x (goes (every im a) seen) free)
      ])

      pub free_on_way_told : IsDirectoryAt v a → (name : List ℕ) (x : ℕ) → ((h : Holding) → dirs.IsShown v a h → IsOnWay h name x) → IsSaidToBeFree v im x → IsTold v im wants way 5 x
      free_on_way_told directory name x on free = seen_told 5 x directory (λ has seen. itself 5 x (way_free_told a has.inode name x (on (every im a) seen) free))

      -- what stands in the directory for a name
      pub name_told : IsDirectoryAt v a → (rule b : ℕ) → ((h : Holding) → dirs.IsShown v a h → names.IsWrongForName v h rule b) → IsTold v im wants way rule b
      name_told directory rule b wrong = seen_told rule b directory (λ has seen. by_kind has rule b (wrong (every im a) seen))
        where
          by_kind : HasDirectory im a → (rule b : ℕ) → names.IsWrongForName v (every im a) rule b → IsTold v im wants way rule b
          by_kind there rule b (names.IsWrongForName.of_directory broken) = broken_directory_told v im read whole.image wants way a up there rule b broken
          by_kind there rule b (names.IsWrongForName.in_hashed hashed (inserts.IsWrongToInsert.in_directory r x broken)) =
              broken_directory_told v im read whole.image wants way a up there r x (dirs.IsBroken.in_hashed hashed broken)
          by_kind there rule b (names.IsWrongForName.in_hashed hashed (inserts.IsWrongToInsert.stray_pointer from x led out)) =
              told_or v im wants way 2 from (stray_told whole.image wants way a from x leads led out)
