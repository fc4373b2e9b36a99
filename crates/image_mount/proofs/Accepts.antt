-- An image that stands and is of the profile is not refused but for the disk, for memory, and for what is not read yet.
use Rattle.std.proofs.Common.{◌≡◌, inl, inr, ℕ, zero, suc, ◌/◌, ◌<◌, ◌&&◌, Bool, true, false, List, [], ◌∷◌, length, Some, refl, sym, ap, subst, ◌∙◌, arith}
use Rattle.std.specs.Prelude.{not, Contains, slice_get}
use Rattle.std.proofs.lemmas.Bool.{true≢false, cond-true}
use Rattle.std.proofs.lemmas.List.FromFn.{length-map-range_with_len}
use Rattle.std.proofs.lemmas.Option.{slice_get-get_or}
use Rattle.gfs2_layout.specs.Inode.{dinode_in, content_of, entry_block, first_hash, leaf_area, linear_area}
use Rattle.gfs2_layout.specs.Records.{Record, records_in, is_dots}
use Rattle.gfs2_layout.specs.declared.dinode.Dinode.{Dinode}
use Rattle.image_model.specs.Claims.{every, Claims, LeadsTo, master_of, first_leaf, next_leaf, in_dinode, in_leaf}
use Rattle.image_model.specs.Groups.{groups_in, entry_length}
use Rattle.image_model.specs.Image.{Image}
use Rattle.image_model.specs.Journals.{journal_name}
use Rattle.image_model.specs.Owners.{Owners, Chained, holding}
use Rattle.image_model.specs.Profile.{IsInProfile, group_length}
use Rattle.image_model.specs.Rules.{HasRecords, IsHashedAt, from_dinode_block, from_leaves}
use Rattle.image_model.specs.Flat.{Node, no_node}
use Rattle.image_model.specs.Nodes.{node_of}
use Rattle.image_model.specs.Stands.{Layout, IsLaid, IsDirectory, IsJournalAt, heads_of, flat_of}
use Rattle.image_model.proofs.Facts.{rindex_is, rindex_dinode, jindex_is, master_is, list_is, list_of, has_dinode, has_directory}
use Rattle.image_model.proofs.Lengths.{length_content, size_large}
use Rattle.image_model.proofs.Members.{IsIn, contained, is_in, from_flat_map}
use Rattle.image_model.proofs.Nothing.{laid_breaks_nothing}
use Rattle.image_model.proofs.Reach.{found_in, named_child}
use Rattle.image_model.proofs.Rows.{sound, dinode_is}
use Rattle.image_model.proofs.Same.{content_same}
use Rattle.image_model.proofs.UnbrokenCounts.{records_are}
use Rattle.image_mount.specs.Found.{is_other, is_system_name, chain_head, chain_next, IsFirstOther, IsInChain, behind_dinode, HasMaster, HasNames, AreJournalNames}
use Rattle.image_mount.specs.Found.{in_leaf as in_leaf_of}
use Rattle.image_mount.specs.Mounted.{IsOfProfile}
use Rattle.image_mount.specs.Refusals.{IsOutside, RefusesRightly, IsExcused}
use Rattle.image_mount.specs.Refusals as outside
use Rattle.image_mount.specs.declared.fault.MountFault.{MountFault}
use Rattle.image_mount.specs.declared.fault.MountFault.TheVariants as fault
use Rattle.image_mount.specs.declared.field.Field.{Field}
use Rattle.image_mount.proofs.JournalNames.{count_named}
use Rattle.image_model.proofs.Rows.{and_left as both_left}

both_right : (p q : Bool) → (p && q) ≡ true → q ≡ true
both_right true q e = e
both_right false q e = absurd (true≢false (sym e))

not_true : (b : Bool) → not b ≡ true → b ≡ false
not_true true e = absurd (true≢false (sym e))
not_true false e = refl

-- a record that leads on leads by its name
pub record_leads : (im : Image) (a : ℕ) (records : List Record) (r : Record) → HasRecords im a records → IsIn r records → is_dots r.name ≡ false → LeadsTo im a r.name r.address
record_leads im a _ r (from_dinode_block dir plain) there leads =
    (a, in_dinode dir.inode.1.by a dir.inode.0 r dir.inode.1.claimed dir.inode.1.dinode dir.dir plain (contained r _ there) leads)
record_leads im a _ r (from_leaves leaves dir hashed are) there leads =
    let here = from_flat_map (λ x. records_in (leaf_area (every im a) x)) r leaves there in
    let leaf = are.only here.0 (contained here.0 leaves here.1) in
    (here.0, in_leaf leaf.0 here.0 a leaf.1 leaf.2 r leaf.3 (contained r _ here.2) leads)

-- a leaf to which the table leads is one of the directory
pub chain_leaf : (im : Image) (a i place x : ℕ) → IsHashedAt im a → IsInChain (every im a) i place x → (by : ℕ) × Claims im by x (Chained a (first_hash (every im a) i) place)
chain_leaf im a i _ _ hashed (chain_head low some) =
    (entry_block (every im a) i, first_leaf hashed.0.1.by a hashed.0.0 i hashed.0.1.claimed hashed.0.1.dinode hashed.1 low some)
chain_leaf im a i _ _ hashed (chain_next place x chain more) =
    let from = chain_leaf im a i place x hashed chain in
    (x, next_leaf from.0 x a (first_hash (every im a) i) place from.1 more)

-- where the first other record leads, its name leads
other_leads : (im : Image) (a : ℕ) (r : Record) → IsFirstOther im a r → (is_system_name r.name ≡ false) × LeadsTo im a r.name r.address
other_leads im a r (behind_dinode _ dir plain found) =
    let here = found_in is_other r (records_in (linear_area (every im a))) found in
    let leads = not_true (is_dots r.name) (both_left _ _ here.1) in (
      not_true (is_system_name r.name) (both_right (not (is_dots r.name)) _ here.1),
      (a, in_dinode dir.inode.1.by a dir.inode.0 r dir.inode.1.claimed dir.inode.1.dinode dir.dir plain (contained r _ here.0) leads),
    )
other_leads im a r (in_leaf_of i place x _ hashed chain found before) =
    let here = found_in is_other r (records_in (leaf_area (every im a) x)) found in
    let leads = not_true (is_dots r.name) (both_left _ _ here.1) in
    let leaf = chain_leaf im a i place x hashed chain in (
      not_true (is_system_name r.name) (both_right (not (is_dots r.name)) _ here.1),
      (x, in_leaf leaf.0 x a (first_hash (every im a) i) place r leaf.1 (contained r _ here.0) leads),
    )

module _ (im : Image) (owners : Owners) (l : Layout) (laid : IsLaid im owners l) (inside : IsInProfile im l) where
  one_rindex : (m : Layout) → HasMaster im m → m.rindex ≡ l.rindex
  one_rindex m has = rindex_is im owners l laid m.rindex has.rindex

  one_jindex : (m : Layout) → HasMaster im m → m.jindex ≡ l.jindex
  one_jindex m has = jindex_is im owners l laid m.jindex has.jindex

  list_length : (dinode_in (every im l.rindex)).size / entry_length ≡ length l.groups
  unfolding groups_in
  list_length =
      let d = rindex_dinode im owners l laid in
      let large = size_large im.size laid.image.block_size in
      let size : length (content_of (every im l.rindex)) ≡ (dinode_in (every im l.rindex)).size
      = ap length (sym (content_same im owners l.rindex d (sound im owners l laid l.rindex d)))
      ∙ length_content im owners large l.rindex d (sound im owners l laid l.rindex d)
      ∙ ap (λ (x : Dinode). x.size) (dinode_is im owners l laid l.rindex d) in
      ap (λ n. n / entry_length) (sym size)
      ∙ sym (length-map-range_with_len _ 0 (length (content_of (every im l.rindex)) / entry_length))
      ∙ ap length (list_is im owners l laid)

  -- a journal of a layout that was found is one of the image's
  journal_is : (m : Layout) (j d : ℕ) → HasNames im m → IsJournalAt m j d → (k : ℕ) × IsJournalAt l k d
  journal_is m j d names at =
      let way = subst (λ a. LeadsTo im a (journal_name j) d) (one_jindex m names.groups.list.master) (names.there j d at) in
      let other = inside.journals.others (journal_name j) d way in
      (other.0, other.1)

  -- the records of the directory of journals are those of its journals
  module _ (records : List Record) (has : HasRecords im l.jindex records) where
    same : IsDirectory (heads_of im owners) owners l.jindex records (dinode_in (holding im owners l.jindex))
    same =
        let are = records_are im owners l laid l.jindex records has in
        let d = has_dinode im owners l laid l.jindex are.0.inode in
        subst (λ rs. IsDirectory (heads_of im owners) owners l.jindex rs (dinode_in (holding im owners l.jindex))) are.1
        (laid.directories l.jindex d (has_directory im owners l laid l.jindex are.0))

    names_are : (r : Record) → Contains records r → is_dots r.name ≡ false → (j : ℕ) × (j < length l.journals) × (r.name ≡ journal_name j)
    names_are r there leads =
        let way = record_leads im l.jindex records r has (is_in r records there) leads in
        let other = inside.journals.others r.name r.address way in
        (other.0, within l.journals other.0 r.address other.1, other.2)
      where
        within : (xs : List ℕ) (j d : ℕ) → slice_get xs j ≡ Some d → j < length xs
        within [] j d e = cc
        within (x ∷ xs) zero d e = omega arith
        within (x ∷ xs) (suc j) d e = omega (arith, within xs j d e)

    are_there : (j : ℕ) → j < length l.journals → (r : Record) × Contains records r × (r.name ≡ journal_name j)
    are_there j low =
        let at = slice_get-get_or l.journals j 0 low in
        let row = laid.system.journals j _ at in
        named_there row
      where
        named_there : {d : ℕ} → (flat_of im owners l.jindex).child (journal_name j) ≡ Some d → (r : Record) × Contains records r × (r.name ≡ journal_name j)
        named_there {d} e =
            let are = records_are im owners l laid l.jindex records has in
            let dinode = has_dinode im owners l laid l.jindex are.0.inode in
            let child = named_child (holding im owners l.jindex) (journal_name j) d (ap (λ (n : Node). n.child (journal_name j)) (sym (cond-true _ (node_of (holding im owners l.jindex)) no_node dinode)) ∙ e) in
            (child.leads.entry, subst (λ rs. Contains rs child.leads.entry) are.1 child.leads.there, child.leads.named)

    names : AreJournalNames records (length l.journals)
    names = (count_named records (length l.journals) inside.journals.few same.once are_there names_are, are_there, names_are)

  pub none_outside : (what : Field) (value : ℕ) → IsOutside im what value → ⊥
  none_outside _ _ (outside.device many) = absurd (omega (arith, many, inside.device))
  none_outside _ _ (outside.fs_format super other) = other inside.fs_format
  none_outside _ _ (outside.multihost_format super fs other) = other inside.multihost_format
  none_outside _ _ (outside.bsize super fs multihost other) = other inside.bsize
  none_outside _ _ (outside.bsize_shift super fs multihost bsize other) = other inside.bsize_shift
  none_outside _ _ (outside.master r format looked first) =
      let here = other_leads im (master_of im) r first in
      let way = subst (λ a. LeadsTo im a r.name r.address) (master_is im owners l laid) here.1 in
      elim (inside.master r.name r.address way) [
        | inl j ↦ true≢false (ap is_system_name (sym j) ∙ here.0)
        | inr d ↦ true≢false (ap is_system_name (sym d) ∙ here.0)
      ]
  none_outside _ _ (outside.groups m has right whole bad) =
      let count : (dinode_in (every im m.rindex)).size / entry_length ≡ length l.groups = ap (λ a. (dinode_in (every im a)).size / entry_length) (one_rindex m has) ∙ list_length in
      elim bad [ inl none ↦ absurd (omega (arith, none, count, inside.groups.0)) | inr many ↦ absurd (omega (arith, many, count, inside.groups.1)) ]
  none_outside _ _ (outside.group_blocks m list looked some few fit long) =
      let same : m.groups ≡ l.groups = sym list.listed ∙ list_of im owners l laid m.rindex list.master.rindex in
      absurd (omega (arith, long, ap group_length same, inside.group_blocks))
  none_outside _ _ (outside.journals m records groups looked has bad) =
      let has' = subst (λ a. HasRecords im a records) (one_jindex m groups.list.master) has in
      let are = names records has' in
      bad (
        omega (arith, are.0, inside.journals.some),
        omega (arith, are.0, inside.journals.few),
        subst (AreJournalNames records) (sym are.0) are,
      )
  none_outside _ _ (outside.journal m j d names before at looked whole bad) =
      let here = journal_is m j d names at in
      bad (inside.journal here.0 d here.1)
  none_outside _ _ (outside.sequence m j d head names sized before at looked whole is high) =
      let here = journal_is m j d names at in
      absurd (omega (arith, high, inside.sequence here.0 d head here.1 is))

pub excused : (im : Image) (f : MountFault) → RefusesRightly im f → IsOfProfile im → IsExcused f
excused im (fault.NotProfile what value) right of = none_outside im of.owners of.layout of.laid of.profile what value right
excused im (fault.Damaged block rule) right of = laid_breaks_nothing im of.owners of.layout of.laid rule block right.0.breaks
excused im (fault.DeviceFault block before after) right of = tt
excused im fault.NoMemory right of = tt
