-- A block with two owners: the directory above an inode that is to go, where it is one of the blocks that go with it.
use Rattle.std.proofs.Common.{◌≡◌, ◌≢◌, ◌⊎◌, inl, inr, ℕ, true, false, true≢false, List, [], ◌∷◌, ◌++◌, Option, Some, refl, sym, ap, ◌∙◌, subst}
use Rattle.std.proofs.lemmas.Bool.{cases_eq}
use Rattle.call_locks.specs.declared.want.Want.{Want}
use Rattle.directories.proofs.Sound.{says_once}
use Rattle.directories.specs.Shown as dirs
use Rattle.file_tree.specs.Names.{parent_of}
use Rattle.gfs2_layout.specs.Device.{superblock_place}
use Rattle.glock_names.specs.Views.{Seen}
use Rattle.glock_names.specs.declared.steps.Entry.{Entry}
use Rattle.image_changes.proofs.FlatPaths.{last_name}
use Rattle.image_model.specs.Claims.{every, Claims, below, HasInode}
use Rattle.image_model.specs.Flat.{Path}
use Rattle.image_model.specs.Groups.{state_of}
use Rattle.image_model.specs.Image.{Image, IsImage}
use Rattle.image_model.specs.Owners.{Owner, Super, InGroup, Free, Nobody, Root, Master, Named, Below, Chained, IsWithin, is_dinode}
use Rattle.image_model.specs.Rules.{Breaks, two_owners}
use Rattle.image_model.proofs.OneChain.{below_no_chain, dinode_no_chain, one_chain_within}
use Rattle.image_model.proofs.Held.{none_some, some_same}
use Rattle.file_calls.specs.Walks.{LeadsTo, Names, at_root, by_name}
use Rattle.file_calls.proofs.Leads.{no_end}
use Rattle.file_calls.proofs.Lists.{parent_of_next}
use Rattle.file_calls.specs.NameWay.{IsOnWay, its_dinode, its_leaf, its_pointer}
use Rattle.file_calls.specs.Removing.{Goes}
use Rattle.directories.specs.Taking.{HasRecordOf}
use Rattle.directories.specs.Taking as taking
use Rattle.hash_dirs.specs.Finding.{IsLeafOfName, in_none, in_this}
use Rattle.hash_dirs.specs.Shown.{index_for}
use Rattle.pointer_tables.specs.Directories.{IsInChain}
use Rattle.gfs2_layout.specs.Holding.{Holding}
use Rattle.gfs2_layout.specs.Inode.{first_hash, is_hashed_in}
use Rattle.damage_laws.specs.Telling.{IsReadFrom, HasAstray}
use Rattle.damage_laws.proofs.Claimed.{chain_claims, root_claimed, inode_or, is_directory, directory_or, astray_at, further, named_there, led_there}

-- the bits of a dinode's block
pub dinode_state : (o : Owner) → is_dinode o ≡ true → state_of o ≡ 3
dinode_state Super e = cc
dinode_state (InGroup g) e = cc
dinode_state (Free g) e = cc
dinode_state Nobody e = cc
dinode_state Root e = refl
dinode_state Master e = refl
dinode_state (Named parent name) e = refl
dinode_state (Below d b k level first) e = cc
dinode_state (Chained d hash place) e = cc

within_no_dinode : (dir : ℕ) (o : Owner) → IsWithin dir o → is_dinode o ≡ false
within_no_dinode dir (Below d b k level first) within = refl
within_no_dinode dir (Chained d hash place) within = refl
within_no_dinode dir Super within = absurd within
within_no_dinode dir (InGroup g) within = absurd within
within_no_dinode dir (Free g) within = absurd within
within_no_dinode dir Nobody within = absurd within
within_no_dinode dir Root within = absurd within
within_no_dinode dir Master within = absurd within
within_no_dinode dir (Named parent name) within = absurd within

named_below : (dir a b k level first : ℕ) (name : List ℕ) → Named dir name ≡ Below a b k level first → ⊥
named_below dir a b k level first name e = cc

named_chained : (dir a hash place : ℕ) (name : List ℕ) → Named dir name ≡ Chained a hash place → ⊥
named_chained dir a hash place name e = cc

one_name : (dir other : ℕ) (name last : List ℕ) → Named dir name ≡ Named other last → name ≡ last
one_name dir other name last e = cc

root_other : (dir : ℕ) (name : List ℕ) → Root ≡ Named dir name → ⊥
root_other dir name e = cc

same_directory : (dir other : ℕ) (name last : List ℕ) → Named dir name ≡ Named other last → dir ≡ other
same_directory dir other name last e = cc

-- a path that has a name is the one above and that name
pub from_parent : (path : Path) → (back : Path) × (path ≡ parent_of path ++ back)
from_parent [] = ([], refl)
from_parent (n ∷ []) = (n ∷ [], refl)
from_parent (n ∷ m ∷ ns) = let f = from_parent (m ∷ ns) in (f.0, ap (λ p. n ∷ p) f.1)

-- the block has an owner other than this name in the directory that it is itself
record HasOtherOwner (im : Image) (a : ℕ) (name : List ℕ) : Type 0 where
  by : ℕ
  owner : Owner
  claims : Claims im by a owner
  other : owner ≢ Named a name

module _ (v : Seen) (im : Image) (read : IsReadFrom v im) (is_image : IsImage im) (wants : List Want) where
  abbrev IsAhead : Path → Type 0
  IsAhead path = HasAstray v im wants path

  -- a name of a directory leads to one block
  one_child : (dir b c : ℕ) (name : List ℕ) → dirs.IsShown v dir (every im dir) → Names v dir name b → Names v dir name c → b ≡ c
  one_child dir b c name seen first second =
      let one = first.child (every im dir) seen in
      let other = second.child (every im dir) seen in
      sym one.address ∙ ap (λ (e : Entry). e.addr) (some_same (says_once (every im dir) name (Some one.entry) (Some other.entry) one.says other.says)) ∙ other.address

  -- and so does a path
  led_once : (p q : Path) (a b : ℕ) → LeadsTo v wants p a → LeadsTo v wants q b → p ≡ q → (a ≡ b) ⊎ IsAhead p
  led_once [] [] a b (at_root held) (at_root held') e = inl refl
  led_once [] q a b (at_root held) (by_name front dir b' name leads is_name named inside held') e = absurd (no_end front name e)
  led_once p [] a b (by_name front dir b' name leads is_name named inside held) (at_root held') e = absurd (no_end front name (sym e))
  led_once p q a b (by_name front dir a' name leads is_name named inside held) (by_name front' dir' b' name' leads' is_name' named' inside' held') e =
      let same_front : front ≡ front' = sym (parent_of_next front name) ∙ ap parent_of e ∙ parent_of_next front' name' in
      let same_name : name ≡ name' = last_name front front' name name' e in
      let up : HasAstray v im wants front → HasAstray v im wants (front ++ name ∷ []) = λ astray. further v im read is_image wants front (name ∷ []) (front ++ name ∷ []) refl astray in
      elim (led_once front front' dir dir' leads leads' same_front) [
        | inr astray ↦ inr (up astray)
        | inl same_dir ↦ elim (led_there v im read is_image wants front dir leads) [
          | inr astray ↦ inr (up astray)
          | inl has ↦ elim (directory_or v im read is_image dir (is_directory v im read is_image dir has named.directory)) [
            | inr astray ↦ inr (up (astray_at v im read is_image wants front dir leads astray))
            | inl seen ↦ inl (one_child dir a' b' name seen named (subst (λ n. Names v dir n b') (sym same_name) (subst (λ d. Names v d name' b') (sym same_dir) named')))
          ]
        ]
      ]

  -- so has an inode to which a path leads
  other_owner : (path : Path) (a : ℕ) (name : List ℕ) → LeadsTo v wants path a → HasOtherOwner im a name ⊎ IsAhead path
  other_owner path a name (at_root held) = inl (record { by = superblock_place im.size; owner = Root; claims = root_claimed v im read is_image; other = root_other a name })
  other_owner path a name (by_name front dir b last leads is names inside held) =
      let up : HasAstray v im wants front → HasAstray v im wants (front ++ last ∷ []) = λ astray. further v im read is_image wants front (last ∷ []) (front ++ last ∷ []) refl astray in
      elim (cases_eq dir b) [
        | inl same ↦ elim (other_owner front dir name leads) [ inl other ↦ inl (subst (λ x. HasOtherOwner im x name) same other) | inr astray ↦ inr (up astray) ]
        | inr apart ↦ elim (named_there v im read is_image wants front dir b last leads is names) [
          | inl named ↦ inl (record {
            by = named.by;
            owner = Named dir last;
            claims = named.claims;
            other = λ e. apart (same_directory dir b last name e);
          })
          | inr astray ↦ inr (up astray)
        ]
      ]

  -- a name in a directory that leads to this itself
  pub named_twice : (path : Path) (a : ℕ) → LeadsTo v wants path a → path ≢ [] → LeadsTo v wants (parent_of path) a → Breaks im 3 a ⊎ IsAhead path
  named_twice path a (at_root held) some above = absurd (some refl)
  named_twice path a (by_name front dir b last leads is names inside held) some above =
      let up : HasAstray v im wants front → HasAstray v im wants (front ++ last ∷ []) = λ astray. further v im read is_image wants front (last ∷ []) (front ++ last ∷ []) refl astray in
      elim (led_once front (parent_of (front ++ last ∷ [])) dir b leads above (sym (parent_of_next front last))) [
        | inr astray ↦ inr (up astray)
        | inl same ↦ elim (named_there v im read is_image wants front dir b last leads is names) [
          | inr astray ↦ inr (up astray)
          | inl named ↦ elim (other_owner front b last (subst (LeadsTo v wants front) same leads)) [
            | inr astray ↦ inr (up astray)
            | inl other ↦ inl (two_owners b named.by other.by (Named b last) other.owner (subst (λ x. Claims im named.by b (Named x last)) same named.claims) other.claims (λ e. other.other (sym e)) (λ one. one))
          ]
        ]
      ]

  -- a path that leads to an inode, and what the view shows of it in the image
  shown_at : (path : Path) (a : ℕ) → LeadsTo v wants path a → (HasInode im a × dirs.IsShown v a (every im a)) ⊎ IsAhead path
  shown_at path a leads = elim (led_there v im read is_image wants path a leads) [
    | inr astray ↦ inr astray
    | inl has ↦ elim (inode_or v im read is_image a has) [
      | inr far ↦ inr (astray_at v im read is_image wants path a leads far)
      | inl seen ↦ inl (has, seen)
    ]
  ]

  from_above : (path : Path) → HasAstray v im wants (parent_of path) → IsAhead path
  from_above path astray = let f = from_parent path in further v im read is_image wants (parent_of path) f.0 path f.1 astray

  -- the directory above is one of the inode's blocks
  goes_told : (path : Path) (a dir : ℕ) → path ≢ [] → LeadsTo v wants path a → LeadsTo v wants (parent_of path) dir → HasInode im a → HasInode im dir → Goes (every im a) dir → Breaks im 3 dir ⊎ IsAhead path
  goes_told path a dir some leads above has top (inl own) = named_twice path dir (subst (LeadsTo v wants path) (sym own) leads) some above
  goes_told path a dir some leads above has top (inr (inl led)) =
      inl (two_owners dir led.0 top.1.by (Below a led.0 led.1 led.2 led.3) top.0
      (below has.1.by a has.0 led.0 led.1 led.2 led.3 dir has.1.claimed has.1.dinode led.4) top.1.claimed
      (λ e. true≢false (sym top.1.dinode ∙ ap is_dinode (sym e))) (λ one. one))
  goes_told path a dir some leads above has top (inr (inr leaf)) =
      let c = chain_claims im a has leaf.0 leaf.1.0 leaf.1.1 dir leaf.1.2 in
      inl (two_owners dir c.0 top.1.by (Chained a (first_hash (every im a) leaf.1.0) leaf.1.1) top.0 c.1 top.1.claimed (λ e. true≢false (sym top.1.dinode ∙ ap is_dinode (sym e)))
      (dinode_no_chain (Chained a (first_hash (every im a) leaf.1.0) leaf.1.1) top.0 top.1.dinode))

  pub shared_told : (path : Path) (a dir : ℕ) → path ≢ [] → LeadsTo v wants path a → LeadsTo v wants (parent_of path) dir → ((h : Holding) → dirs.IsShown v a h → Goes h dir) → Breaks im 3 dir ⊎ IsAhead path
  shared_told path a dir some leads above goes = elim (shown_at path a leads) [
    | inr astray ↦ inr astray
    | inl here ↦ elim (led_there v im read is_image wants (parent_of path) dir above) [
      | inr astray ↦ inr (from_above path astray)
      | inl top ↦ goes_told path a dir some leads above here.0 top (goes (every im a) here.1)
    ]
  ]

  -- a block of one inode, beside its dinode, is one of another's
  within_told : (a dir x by : ℕ) (first : Owner) → a ≢ dir → HasInode im a → IsWithin dir first → Claims im by x first → Goes (every im a) x → Breaks im 3 x
  within_told a dir x by first apart has within claimed (inl own) =
      two_owners x by has.1.by first has.0 claimed (subst (λ b. Claims im has.1.by b has.0) (sym own) has.1.claimed) (λ e. true≢false (sym has.1.dinode ∙ ap is_dinode (sym e) ∙ within_no_dinode dir first within))
      (dinode_no_chain first has.0 has.1.dinode)
  within_told a dir x by first apart has within claimed (inr (inl led)) =
      two_owners x by led.0 first (Below a led.0 led.1 led.2 led.3) claimed (below has.1.by a has.0 led.0 led.1 led.2 led.3 x has.1.claimed has.1.dinode led.4) (λ e. apart (subst (IsWithin dir) e within)) (below_no_chain first a led.0 led.1 led.2 led.3)
  within_told a dir x by first apart has within claimed (inr (inr leaf)) =
      let c = chain_claims im a has leaf.0 leaf.1.0 leaf.1.1 x leaf.1.2 in
      two_owners x by c.0 first (Chained a (first_hash (every im a) leaf.1.0) leaf.1.1) claimed c.1 (λ e. apart (subst (IsWithin dir) e within))
      (λ one. apart (one_chain_within dir first a (first_hash (every im a) leaf.1.0) leaf.1.1 within one))

  -- a leaf of the directory above is one of the inode's blocks, which is another one
  leaf_told : (a dir i place x : ℕ) → a ≢ dir → HasInode im a → HasInode im dir → is_hashed_in (every im dir) ≡ true → IsInChain (every im dir) i place x → Goes (every im a) x → Breaks im 3 x
  leaf_told a dir i place x apart has top hashed chain goes =
      let first = chain_claims im dir top hashed i place x chain in
      within_told a dir x first.0 (Chained dir (first_hash (every im dir) i) place) apart has refl first.1 goes

  -- the block that has a name's record in the directory above is one of the inode's blocks
  pub record_told : (path : Path) (a dir b : ℕ) (name : List ℕ) → a ≢ dir → path ≢ [] → LeadsTo v wants path a → LeadsTo v wants (parent_of path) dir
      → ((h : Holding) → dirs.IsShown v dir h → HasRecordOf h name b) → ((h : Holding) → dirs.IsShown v a h → Goes h b) → Breaks im 3 b ⊎ IsAhead path
  record_told path a dir b name apart some leads above held goes = elim (shown_at path a leads) [
    | inr astray ↦ inr astray
    | inl here ↦ elim (shown_at (parent_of path) dir above) [
      | inr astray ↦ inr (from_above path astray)
      | inl top ↦ by b (held (every im dir) top.1) (goes (every im a) here.1) here.0 top.0
    ]
  ]
    where
      in_leaf : (b : ℕ) (found : Option ℕ) → IsLeafOfName (every im dir) name found → found ≡ Some b → is_hashed_in (every im dir) ≡ true → Goes (every im a) b → HasInode im a → HasInode im dir → Breaks im 3 b
      in_leaf b _ (in_this place x r chain is later heads) e hashed goes has top =
          leaf_told a dir (index_for (every im dir) name) place b apart has top hashed (subst (IsInChain (every im dir) (index_for (every im dir) name) place) (some_same e) chain) goes
      in_leaf b _ (in_none ends later heads) e hashed goes has top = absurd (none_some e)

      by : (b : ℕ) → HasRecordOf (every im dir) name b → Goes (every im a) b → HasInode im a → HasInode im dir → Breaks im 3 b ⊎ IsAhead path
      by _ (taking.HasRecordOf.in_linear plain) goes has top = goes_told path a dir some leads above has top goes
      by b (taking.HasRecordOf.in_hashed x hashed leaf) goes has top = inl (in_leaf x (Some x) leaf refl hashed goes has top)

  -- ---- the name by which a path leads to its inode

  pub record IsNamedBy (path : Path) (b : ℕ) : Type 0 where
    pub directory : ℕ
    pub name : List ℕ
    pub last : path ≡ parent_of path ++ name ∷ []
    pub by : ℕ
    pub claims : Claims im by b (Named directory name)
    pub above : LeadsTo v wants (parent_of path) directory

  pub named_by : (path : Path) (b : ℕ) → path ≢ [] → LeadsTo v wants path b → IsNamedBy path b ⊎ IsAhead path
  named_by path b some (at_root held) = absurd (some refl)
  named_by path b some (by_name front dir _ last leads is names inside held) =
      let up = sym (parent_of_next front last) in
      elim (named_there v im read is_image wants front dir b last leads is names) [
        | inr astray ↦ inr (further v im read is_image wants front (last ∷ []) (front ++ last ∷ []) refl astray)
        | inl named ↦ inl (record {
          directory = dir;
          name = last;
          last = ap (λ p. p ++ last ∷ []) up;
          by = named.by;
          claims = named.claims;
          above = subst (λ p. LeadsTo v wants p dir) up leads;
        })
      ]

  -- the directory above is the one to which the path leads
  pub one_above : (path : Path) (dir other : ℕ) → LeadsTo v wants (parent_of path) dir → LeadsTo v wants (parent_of path) other → (dir ≡ other) ⊎ IsAhead path
  one_above path dir other leads leads' = elim (led_once (parent_of path) (parent_of path) dir other leads leads' refl) [ inl same ↦ inl same | inr astray ↦ inr (from_above path astray) ]

-- ---- two paths

module _ (v : Seen) (im : Image) (read : IsReadFrom v im) (is_image : IsImage im) (first second : List Want) where
  abbrev EitherAhead : Path → Path → Type 0
  EitherAhead p q = HasAstray v im first p ⊎ HasAstray v im second q

  -- an inode at the end of one path is one of the blocks of that at the end of another; but where both have one name in one directory
  pub inode_shared_told : (p q : Path) (a b from to : ℕ) → p ≢ [] → q ≢ [] → LeadsTo v first p b → LeadsTo v first (parent_of p) from → LeadsTo v second q a → LeadsTo v second (parent_of q) to
      → ((h : Holding) → dirs.IsShown v a h → Goes h b) → (from ≡ to → (name : List ℕ) → p ≡ parent_of p ++ name ∷ [] → q ≡ parent_of q ++ name ∷ [] → ⊥) → Breaks im 3 b ⊎ EitherAhead p q
  inode_shared_told p q a b from to some some' leads above leads' above' goes two = elim (shown_at v im read is_image second q a leads') [
    | inr astray ↦ inr (inr astray)
    | inl here ↦ elim (named_by v im read is_image first p b some leads) [
      | inr astray ↦ inr (inl astray)
      | inl named ↦ by here.0 named (goes (every im a) here.1)
    ]
  ]
    where
      by : HasInode im a → IsNamedBy v im read is_image first p b → Goes (every im a) b → Breaks im 3 b ⊎ EitherAhead p q
      by has named (inr (inl led)) =
          inl (two_owners b named.by led.0 (Named named.directory named.name) (Below a led.0 led.1 led.2 led.3) named.claims
          (below has.1.by a has.0 led.0 led.1 led.2 led.3 b has.1.claimed has.1.dinode led.4) (named_below named.directory a led.0 led.1 led.2 led.3 named.name) (λ one. one))
      by has named (inr (inr leaf)) =
          let c = chain_claims im a has leaf.0 leaf.1.0 leaf.1.1 b leaf.1.2 in
          inl (two_owners b named.by c.0 (Named named.directory named.name) (Chained a (first_hash (every im a) leaf.1.0) leaf.1.1) named.claims c.1
          (named_chained named.directory a (first_hash (every im a) leaf.1.0) leaf.1.1 named.name) (λ one. one))
      by has named (inl own) = elim (named_by v im read is_image second q a some' leads') [
        | inr astray ↦ inr (inr astray)
        | inl other ↦ elim (one_above v im read is_image first p named.directory from named.above above) [
          | inr astray ↦ inr (inl astray)
          | inl up ↦ elim (one_above v im read is_image second q other.directory to other.above above') [
            | inr astray ↦ inr (inr astray)
            | inl up' ↦
                inl (two_owners b named.by other.by (Named named.directory named.name) (Named other.directory other.name) named.claims
                (subst (λ x. Claims im other.by x (Named other.directory other.name)) (sym own) other.claims)
                (λ e. two (sym up ∙ same_directory named.directory other.directory named.name other.name e ∙ up') named.name named.last
                (subst (λ n. q ≡ parent_of q ++ n ∷ []) (sym (one_name named.directory other.directory named.name other.name e)) other.last)) (λ one. one))
          ]
        ]
      ]

  -- a block on the way to a name of the inode at the end of one path is one of the blocks of that at the end of another
  pub way_shared_told : (p q : Path) (a dir b : ℕ) (name : List ℕ) → LeadsTo v first p dir → LeadsTo v second q a → (P : ℕ → Type 0) → ((h : Holding) → dirs.IsShown v a h → P a) → P b → ¬ (P dir)
      → ((h : Holding) → dirs.IsShown v a h → Goes h b) → ((h : Holding) → dirs.IsShown v dir h → IsOnWay h name b) → Breaks im 3 b ⊎ EitherAhead p q
  way_shared_told p q a dir b name leads leads' P itself there stays goes on = elim (shown_at v im read is_image second q a leads') [
    | inr astray ↦ inr (inr astray)
    | inl here ↦ elim (shown_at v im read is_image first p dir leads) [
      | inr astray ↦ inr (inl astray)
      | inl top ↦ inl (by (λ same. stays (subst P same (itself (every im a) here.1))) here.0 top.0 (goes (every im a) here.1) (on (every im dir) top.1))
    ]
  ]
    where
      by : a ≢ dir → HasInode im a → HasInode im dir → Goes (every im a) b → IsOnWay (every im dir) name b → Breaks im 3 b
      by apart has top goes (its_dinode is) = absurd (stays (subst P is there))
      by apart has top goes (its_pointer hashed led is) =
          within_told v im read is_image first a dir b led.0 (Below dir led.0 led.1 led.2 led.3) apart has refl (below top.1.by dir top.0 led.0 led.1 led.2 led.3 b top.1.claimed top.1.dinode led.4) goes
      by apart has top goes (its_leaf place hashed chain) = leaf_told v im read is_image first a dir (index_for (every im dir) name) place b apart has top hashed chain goes
