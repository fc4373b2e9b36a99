-- The records of a directory.
use Rattle.std.proofs.Common.{◌≡◌, ◌≢◌, ℕ, ◌-◌, false, List, length, take, drop, get_or, Some, refl, sym, ap, subst, ◌∙◌}
use Rattle.std.specs.Prelude.{map, slice_get, codes, Contains}
use Rattle.std.specs.List.{All}
use Rattle.std.proofs.lemmas.Option.{slice_get-get_or, slice_get-map, slice_get_within, get_or_from_slice_get}
use Rattle.std.specs.Option.{option_map}
use Rattle.gfs2_layout.specs.Inode.{is_hashed_in, linear_area, leaf_area}
use Rattle.gfs2_layout.specs.Records.{Record, records_in, is_dots}
use Rattle.gfs2_layout.specs.Structures.{is_directory}
use Rattle.image_model.specs.Claims.{every, Claims, in_dinode, in_leaf, HasDirectory, IsInodeAt, HasArea, behind_dinode, of_leaf}
use Rattle.image_model.specs.Image.{Image}
use Rattle.image_model.specs.Owners.{Owner, parent_of, Named as named_by}
use Rattle.image_model.specs.Rules.{Breaks, HasRecordIn, HasRecords, from_dinode_block, no_dot, no_dots, other_dot, other_dots}
use Rattle.image_reader.proofs.Directories.{leaf_is_hashed, not_both}
use Rattle.image_mount.specs.Found.{IsReached}
use Rattle.image_mount.specs.Groups.{IsNamedIn}
use Rattle.image_mount.specs.Listing.{said, AreAllRecords, AreCountedIn, AreRecordsOf, AreDistinct, IsDirectoryIn}
use Rattle.image_mount.specs.declared.inodes.Inode.{Inode}
use Rattle.image_mount.specs.declared.listing.Named.{Named}
use Rattle.image_mount.proofs.Twice.{said_at, at_said, all_taken}

-- ---- a directory that is claimed

pub has_directory : (im : Image) (inode : Inode) (parent : ℕ) → IsDirectoryIn im inode parent → HasDirectory im inode.block
has_directory im inode parent is = record {
  inode = (is.owner, record { by = inode.from; claimed = is.claimed; dinode = is.is_inode });
  dir = sym (ap is_directory is.dinode) ∙ is.directory;
}

-- ---- its records

-- what was read behind its dinode is its area
pub area_of : (im : Image) (a : ℕ) (bytes area : List ℕ) → im.at a ≡ bytes → area ≡ take (length bytes - 232) (drop 232 bytes) → area ≡ linear_area (every im a)
area_of im a bytes area same is = is ∙ all_taken 232 bytes ∙ ap (drop 232) (sym same)

pub area_in : (im : Image) (a : ℕ) (area : List ℕ) → HasDirectory im a → is_hashed_in (every im a) ≡ false → area ≡ linear_area (every im a) → HasArea im a a area
area_in im a area directory linear is = subst (HasArea im a a) (sym is) (behind_dinode directory linear)

pub records_of : (im : Image) (a : ℕ) (area : List ℕ) (records : List Record) → HasDirectory im a → is_hashed_in (every im a) ≡ false → area ≡ linear_area (every im a) → records ≡ records_in area → AreRecordsOf im a records
records_of im a area records directory linear is read = record { directory = directory; linear = linear; all = read ∙ ap records_in is }

contains_at : {X : Type 0} (xs : List X) (i : ℕ) (x : X) → slice_get xs i ≡ Some x → Contains xs x
contains_at xs i x at = (i, slice_get_within xs i x at, get_or_from_slice_get xs i x x at)

-- each record of the directory is one of these
abbrev pub IsComplete : Image → ℕ → List Named → Type 0
IsComplete im a records = (x : ℕ) (r : Record) → HasRecordIn im a x r → (i : ℕ) × ((n : Named) × (slice_get records i ≡ Some n) × (said n ≡ r))

module _ (im : Image) (a : ℕ) (records : List Named) (are : AreRecordsOf im a (map said records)) where
  pub has_area : HasArea im a a (linear_area (every im a))
  has_area = behind_dinode are.directory are.linear

  pub has_records : HasRecords im a (map said records)
  has_records = subst (HasRecords im a) (sym are.all) (from_dinode_block are.directory are.linear)

  pub counted : AreCountedIn im a (map said records)
  counted = (map said records, has_records, refl, refl)

  pub record_in : (i : ℕ) (n : Named) → slice_get records i ≡ Some n → HasRecordIn im a a (said n)
  record_in i n at =
      let low = slice_get_within records i n at in
      let same : said (get_or records i n) ≡ said n = ap said (get_or_from_slice_get records i n n at) in
      (linear_area (every im a), has_area, contains_at (records_in (linear_area (every im a))) i (said n) (ap (λ l. slice_get l i) (sym are.all) ∙ at_said records i n low ∙ ap Some same))

  pub all_in : All (λ n. HasRecordIn im a a (said n)) records
  all_in k d low = record_in k (get_or records k d) (slice_get-get_or records k d low)

  pub complete : IsComplete im a records
  complete x r has = from x has.0 has.1 has.2
    where
      from : (x : ℕ) (area : List ℕ) → HasArea im a x area → Contains (records_in area) r → (i : ℕ) × ((n : Named) × (slice_get records i ≡ Some n) × (said n ≡ r))
      from _ _ (behind_dinode directory linear) there =
          let at : slice_get (records_in (linear_area (every im a))) there.0 ≡ Some r = slice_get-get_or _ there.0 r there.1 ∙ ap Some there.2 in
          (there.0, said_at records there.0 r (ap (λ l. slice_get l there.0) are.all ∙ at))
      from _ _ (of_leaf x leaf) there = absurd (not_both (is_hashed_in (every im a)) (leaf_is_hashed im leaf.0 x a leaf.1 leaf.2 leaf.3) are.linear)

-- those that were read behind a dinode, each with its block
pub all_records : (im : Image) (a : ℕ) (records : List Named) → IsReached im a → AreRecordsOf im a (map said records) → All (λ n. n.block ≡ a) records → AreAllRecords im a records
all_records im a records inside are here = record {
  directory = are.directory;
  each = λ i n at.
      let there : n.block ≡ a = ap (λ (m : Named). m.block) (sym (get_or_from_slice_get records i n n at)) ∙ here i n (slice_get_within records i n at) in
      subst (λ x. HasRecordIn im a x (said n)) (sym there) (record_in im a records are i n at);
  reached = λ i n at.
      let there : n.block ≡ a = ap (λ (m : Named). m.block) (sym (get_or_from_slice_get records i n n at)) ∙ here i n (slice_get_within records i n at) in
      subst (IsReached im) (sym there) inside;
  all = complete im a records are;
}

-- ---- `.` and `..`

module _ (im : Image) (a : ℕ) (records : List Named) (are : AreAllRecords im a records) where
  lacks_name : (name : List ℕ) → ((i : ℕ) (n : Named) → slice_get records i ≡ Some n → n.name.now ≢ name) → (x : ℕ) (r : Record) → HasRecordIn im a x r → r.name ≢ name
  lacks_name name none x r has same = let at = are.all x r has in none at.0 at.1.0 at.1.1 (ap (λ (q : Record). q.name) at.1.2 ∙ same)

  pub dot_missing : ((i : ℕ) (n : Named) → slice_get records i ≡ Some n → n.name.now ≢ codes ".") → Breaks im 10 a
  dot_missing none = no_dot a are.directory (lacks_name (codes ".") none)

  pub dots_missing : ((i : ℕ) (n : Named) → slice_get records i ≡ Some n → n.name.now ≢ codes "..") → Breaks im 10 a
  dots_missing none = no_dots a are.directory (lacks_name (codes "..") none)

  pub dot_astray : (i : ℕ) (n : Named) → slice_get records i ≡ Some n → n.name.now ≡ codes "." → n.entry.addr ≢ a → Breaks im 10 a
  dot_astray i n at named other = other_dot a n.block (said n) (are.each i n at) named other

  pub dots_astray : (parent : ℕ) (o : Owner) → IsInodeAt im a o → parent ≡ parent_of a o → (i : ℕ) (n : Named) → slice_get records i ≡ Some n → n.name.now ≡ codes ".." → n.entry.addr ≢ parent → Breaks im 10 a
  dots_astray parent o inode above i n at named other = other_dots a n.block o (said n) inode (are.each i n at) named (λ e. other (e ∙ sym above))

pub inode_of : (im : Image) (inode : Inode) (parent : ℕ) (is : IsDirectoryIn im inode parent) → IsInodeAt im inode.block is.owner
inode_of im inode parent is = record { by = inode.from; claimed = is.claimed; dinode = is.is_inode }

-- ---- where a name leads

some_record : (r s : Record) → Some r ≡ Some s → r ≡ s
some_record r s e = cc

address_of : (m n : Named) (r : Record) → Some m ≡ Some n → said m ≡ r → r.address ≡ n.entry.addr
address_of m n r same is = ap (λ (q : Record). q.address) (sym is) ∙ ap (λ (x : Named). x.entry.addr) (some_is m n same)
  where
    some_is : (x y : Named) → Some x ≡ Some y → x ≡ y
    some_is x y e = cc

-- a record that leads on claims what it leads to
claimed_by : (im : Image) (a x : ℕ) (r : Record) → HasRecordIn im a x r → is_dots r.name ≡ false → Claims im x r.address (named_by a r.name)
claimed_by im a x r has plain = from x has.0 has.1 has.2
  where
    from : (x : ℕ) (area : List ℕ) → HasArea im a x area → Contains (records_in area) r → Claims im x r.address (named_by a r.name)
    from _ _ (behind_dinode directory linear) there =
        in_dinode directory.inode.1.by a directory.inode.0 r directory.inode.1.claimed directory.inode.1.dinode directory.dir linear there plain
    from _ _ (of_leaf x leaf) there = in_leaf leaf.0 x a leaf.1 leaf.2 r leaf.3 there plain

-- where a name leads, there is a record of it
pub led_record : (im : Image) (a by d : ℕ) (name : List ℕ) → Claims im by d (named_by a name) → (r : Record) × HasRecordIn im a by r × (r.name ≡ name) × (r.address ≡ d) × (is_dots r.name ≡ false)
led_record im _ _ _ _ (in_dinode by a o r claimed dinode dir linear there dots) =
    (r, (linear_area (every im a), behind_dinode (record { inode = (o, record { by = by; claimed = claimed; dinode = dinode }); dir = dir }) linear, there), refl, refl, dots)
led_record im _ _ _ _ (in_leaf by x a hash place r claimed there dots) = (r, (leaf_area (every im a) x, of_leaf x (by, hash, place, claimed), there), refl, refl, dots)

module _ (im : Image) (a : ℕ) (records : List Named) (are : AreAllRecords im a records) (distinct : AreDistinct (map said records)) (i : ℕ) (n : Named) (at : slice_get records i ≡ Some n) where
  only_to : (by d : ℕ) → Claims im by d (named_by a n.name.now) → d ≡ n.entry.addr
  only_to by d claimed =
      let led = led_record im a by d n.name.now claimed in
      let one = are.all by led.0 led.1 in
      let first : slice_get (map said records) one.0 ≡ Some led.0 = slice_get-map said records one.0 ∙ ap (option_map said) one.1.1 ∙ ap Some one.1.2 in
      let second : slice_get (map said records) i ≡ Some (said n) = slice_get-map said records i ∙ ap (option_map said) at in
      let is : one.0 ≡ i = distinct one.0 i led.0 (said n) first second led.2 in
      sym led.3 ∙ address_of one.1.0 n led.0 (sym one.1.1 ∙ ap (slice_get records) is ∙ at) one.1.2

  -- no other record has its name
  one_row : (x : ℕ) (r : Record) → HasRecordIn im a x r → r.name ≡ n.name.now → r ≡ said n
  one_row x r has named =
      let one = are.all x r has in
      let first : slice_get (map said records) one.0 ≡ Some r = slice_get-map said records one.0 ∙ ap (option_map said) one.1.1 ∙ ap Some one.1.2 in
      let second : slice_get (map said records) i ≡ Some (said n) = slice_get-map said records i ∙ ap (option_map said) at in
      let is : one.0 ≡ i = distinct one.0 i r (said n) first second named in
      some_record r (said n) (sym first ∙ ap (slice_get (map said records)) is ∙ second)

  -- what the record with a name leads to, it alone leads to by that name
  pub named_in : is_dots n.name.now ≡ false → IsNamedIn im a n.block n.name.now n.entry
  named_in plain = record {
    claimed = claimed_by im a n.block (said n) (are.each i n at) plain;
    only = λ d leads. only_to leads.0 d leads.1;
    row = said n;
    there = are.each i n at;
    named = refl;
    one = one_row;
    reached = are.reached i n at;
    is = record { number = refl; address = refl; kind = refl };
  }
