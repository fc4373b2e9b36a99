-- What claims say of an image that stands, in the words of its table.
use Rattle.std.proofs.Common.{◌≡◌, ℕ, inl, inr, true, false, List, [], ◌∷◌, ◌++◌, Option, None, Some, refl, sym, ap, ◌∙◌, subst}
use Rattle.std.proofs.lemmas.Bool.{cases_Bool, cond-true, cond-false}
use Rattle.std.specs.Prelude.{codes, option_and_then}
use Rattle.gfs2_layout.specs.declared.rindex.Rindex.{Rindex}
use Rattle.image_model.specs.Image.{Image}
use Rattle.image_model.specs.Owners.{Owner, Owners, Named, Up, Chained, is_dinode, IsUsed, holding}
use Rattle.image_model.specs.Flat.{Path, AFile, ADir, Node, no_node, follow}
use Rattle.image_model.specs.Groups.{groups_in, IsListed}
use Rattle.image_model.specs.Journals.{journal_name, IsJournal}
use Rattle.gfs2_layout.specs.Holding.{Holding}
use Rattle.gfs2_layout.specs.Inode.{is_directory_in, content_of}
use Rattle.image_model.specs.Nodes.{thing_of, node_of}
use Rattle.image_model.specs.Stands.{Layout, IsLaid, flat_of}
use Rattle.image_model.specs.Claims.{every, Claims, root, master, below, first_leaf, next_leaf, in_dinode, in_leaf, IsInodeAt, HasInode, HasDirectory, HasLeaf, master_of, LeadsTo, IsRindex, IsJindex, HasGroup, HasJournal, IsUnder, itself, by_name}
use Rattle.image_model.proofs.Held.{none_some, some_same}
use Rattle.image_model.proofs.Same.{content_same}
use Rattle.image_model.proofs.Rows.{sound, directory_is, claim_row}
use Rattle.image_model.proofs.Reach.{child_claim, child_dinode, inode_claim}

-- only owners of blocks in use claim
pub claims_used : (im : Image) (by c : ℕ) (o : Owner) → Claims im by c o → IsUsed o
claims_used im _ _ _ root = tt
claims_used im _ _ _ master = tt
claims_used im _ _ _ (below by a o b k level first c claim dinode leads) = tt
claims_used im _ _ _ (first_leaf by a o i claim dinode hashed low some) = tt
claims_used im _ _ _ (next_leaf by x a hash place claim more) = tt
claims_used im _ _ _ (in_dinode by a o r claim dinode dir plain there name) = tt
claims_used im _ _ _ (in_leaf by x a hash place r claim there name) = tt

module _ (im : Image) (owners : Owners) (l : Layout) (laid : IsLaid im owners l) where
  pub inode_row : (a : ℕ) (o : Owner) → IsInodeAt im a o → owners a ≡ o
  inode_row a o at = claim_row im owners l laid at.by a o at.claimed

  pub has_dinode : (a : ℕ) → HasInode im a → is_dinode (owners a) ≡ true
  has_dinode a has = ap is_dinode (inode_row a has.0 has.1) ∙ has.1.dinode

  pub is_directory_row : (a : ℕ) → (dinode : is_dinode (owners a) ≡ true) → is_directory_in (every im a) ≡ true → is_directory_in (holding im owners a) ≡ true
  is_directory_row a dinode e = directory_is im owners l laid a dinode ∙ e

  pub has_directory : (a : ℕ) → HasDirectory im a → is_directory_in (holding im owners a) ≡ true
  has_directory a has = is_directory_row a (has_dinode a has.inode) has.dir

  pub has_leaf_row : (a x : ℕ) (has : HasLeaf im a x) → owners x ≡ Chained a has.1 has.2
  has_leaf_row a x has = claim_row im owners l laid has.0 x (Chained a has.1 has.2) has.3

  pub claimed_used : (by c : ℕ) (o : Owner) → Claims im by c o → IsUsed (owners c)
  claimed_used by c o claim = subst IsUsed (sym (claim_row im owners l laid by c o claim)) (claims_used im by c o claim)

  -- ---- names

  pub leads_row : (a : ℕ) (name : List ℕ) (b : ℕ) → LeadsTo im a name b → owners b ≡ Named a name
  leads_row a name b way = claim_row im owners l laid way.0 b (Named a name) way.1

  pub leads_child_of : (a : ℕ) (name : List ℕ) (b : ℕ) → LeadsTo im a name b → (flat_of im owners a).child name ≡ Some b
  leads_child_of a name b way = laid.names b (record { parent = a; name = name }) (ap up (leads_row a name b way))
    where
      up : Owner → Option Up
      up (Named parent name) = Some (record { parent = parent; name = name })
      up _ = None

  pub same_child : (a : ℕ) (name : List ℕ) (b c : ℕ) → LeadsTo im a name b → (flat_of im owners a).child name ≡ Some c → b ≡ c
  same_child a name b c way e = some_same (sym (leads_child_of a name b way) ∙ e)

  follow_on : (path : Path) (x a : ℕ) (name : List ℕ) (b : ℕ) → follow (flat_of im owners) x path ≡ Some a → (flat_of im owners a).child name ≡ Some b
      → follow (flat_of im owners) x (path ++ name ∷ []) ≡ Some b
  follow_on [] x a name b e child = ap (λ z. option_and_then (λ y. Some y) ((flat_of im owners z).child name)) (some_same e) ∙ ap (option_and_then (λ y. Some y)) child
  follow_on (n ∷ path) x a name b e child = on ((flat_of im owners x).child n) (λ y f. follow_on path y a name b f child) e
    where
      on : (o : Option ℕ) → ((y : ℕ) → follow (flat_of im owners) y path ≡ Some a → follow (flat_of im owners) y (path ++ name ∷ []) ≡ Some b)
          → option_and_then (λ y. follow (flat_of im owners) y path) o ≡ Some a → option_and_then (λ y. follow (flat_of im owners) y (path ++ name ∷ [])) o ≡ Some b
      on None more f = absurd (none_some f)
      on (Some y) more f = more y f

  -- an inode under another one is at a path from it
  pub under_path : (top a : ℕ) → IsUnder im top a → (path : Path) × (follow (flat_of im owners) top path ≡ Some a)
  under_path top _ itself = ([], refl)
  under_path top _ (by_name a b name way leads) =
      let before = under_path top a way in
      (before.0 ++ name ∷ [], follow_on before.0 top a name b before.1 (leads_child_of a name b leads))

  -- ---- the system files

  pub master_is : master_of im ≡ l.master
  master_is = laid.super.master

  pub rindex_is : (d : ℕ) → IsRindex im d → d ≡ l.rindex
  rindex_is d is = same_child l.master (codes "rindex") d l.rindex (subst (λ a. LeadsTo im a (codes "rindex") d) master_is is) laid.system.rindex

  pub jindex_is : (d : ℕ) → IsJindex im d → d ≡ l.jindex
  jindex_is d is = same_child l.master (codes "jindex") d l.jindex (subst (λ a. LeadsTo im a (codes "jindex") d) master_is is) laid.system.jindex

  -- a name that leads to a child is claimed to
  pub child_leads : (a : ℕ) (name : List ℕ) (b : ℕ) → (flat_of im owners a).child name ≡ Some b → LeadsTo im a name b
  child_leads a name b e =
      let d = child_dinode im owners l laid a name b e in
      child_claim im owners l laid a d (inode_claim im owners l laid a d) name b e

  pub has_rindex : IsRindex im l.rindex
  has_rindex = subst (λ a. LeadsTo im a (codes "rindex") l.rindex) (sym master_is) (child_leads l.master (codes "rindex") l.rindex laid.system.rindex)

  pub has_jindex : IsJindex im l.jindex
  has_jindex = subst (λ a. LeadsTo im a (codes "jindex") l.jindex) (sym master_is) (child_leads l.master (codes "jindex") l.jindex laid.system.jindex)

  pub rindex_dinode : is_dinode (owners l.rindex) ≡ true
  rindex_dinode = ap is_dinode (leads_row l.master (codes "rindex") l.rindex (child_leads l.master (codes "rindex") l.rindex laid.system.rindex))

  directory_thing : (h : Holding) → thing_of h ≡ ADir → is_directory_in h ≡ true
  directory_thing h e = elim (cases_Bool (is_directory_in h)) [
    | inl dir ↦ dir
    | inr plain ↦ absurd (differ (sym (cond-false _ _ _ plain) ∙ e))
  ]
    where
      differ : AFile (content_of h) ≡ ADir → ⊥
      differ e = cc

  pub jindex_directory : is_directory_in (every im l.jindex) ≡ true
  jindex_directory =
      let dinode = ap is_dinode (leads_row l.master (codes "jindex") l.jindex (child_leads l.master (codes "jindex") l.jindex laid.system.jindex)) in
      sym (directory_is im owners l laid l.jindex dinode)
      ∙ directory_thing (holding im owners l.jindex) (ap (λ (n : Node). n.thing) (sym (cond-true _ (node_of (holding im owners l.jindex)) no_node dinode)) ∙ laid.system.directory)

  file_content : (h : Holding) (bytes : List ℕ) → thing_of h ≡ AFile bytes → (is_directory_in h ≡ false) × (content_of h ≡ bytes)
  file_content h bytes e = elim (cases_Bool (is_directory_in h)) [
    | inl dir ↦ absurd (differ (sym (cond-true _ _ _ dir) ∙ e))
    | inr plain ↦ (plain, same (sym (cond-false _ _ _ plain) ∙ e))
  ]
    where
      differ : ADir ≡ AFile bytes → ⊥
      differ e = cc

      same : AFile (content_of h) ≡ AFile bytes → content_of h ≡ bytes
      same e = cc

  pub rindex_file : (is_directory_in (holding im owners l.rindex) ≡ false) × (content_of (holding im owners l.rindex) ≡ laid.system.groups.0)
  rindex_file = file_content (holding im owners l.rindex) laid.system.groups.0 (ap (λ (n : Node). n.thing) (sym (cond-true _ (node_of (holding im owners l.rindex)) no_node rindex_dinode)) ∙ laid.system.groups.1)

  pub list_is : groups_in (content_of (every im l.rindex)) ≡ l.groups
  list_is = ap groups_in (sym (content_same im owners l.rindex rindex_dinode (sound im owners l laid l.rindex rindex_dinode)) ∙ rindex_file.1) ∙ laid.system.groups.2.listed

  pub list_of : (d : ℕ) → IsRindex im d → groups_in (content_of (every im d)) ≡ l.groups
  list_of d is = ap (λ z. groups_in (content_of (every im z))) (rindex_is d is) ∙ list_is

  pub group_listed : (g : Rindex) → HasGroup im g → IsListed l.groups g
  group_listed g has = subst (λ gs. IsListed gs g) (list_of has.0 has.1) has.2

  pub listed_group : (g : Rindex) → IsListed l.groups g → HasGroup im g
  listed_group g at = (l.rindex, has_rindex, subst (λ gs. IsListed gs g) (sym list_is) at)

  -- a journal's inode is sound as one
  pub journal_is : (j d : ℕ) → HasJournal im j d → (is_dinode (owners d) ≡ true) × IsJournal (holding im owners d)
  journal_is j d has =
      let way : LeadsTo im l.jindex (journal_name j) d = subst (λ a. LeadsTo im a (journal_name j) d) (jindex_is has.0 has.1) has.2 in
      (ap is_dinode (leads_row l.jindex (journal_name j) d way), laid.system.rings j d (leads_child_of l.jindex (journal_name j) d way))
