-- What a directory holds, found and counted whole; and what its count breaks.
use Rattle.std.proofs.Common.{◌≡◌, ◌≢◌, Bool, true, false, ℕ, [], ◌+◌, ◌-◌, ◌<◌, min, List, length, ◌^◌, Option, sym, ap, subst, ◌∙◌, arith}
use Rattle.std.specs.Prelude.{Contains, flat_map}
use Rattle.std.proofs.lemmas.Bool.{true≢false}
use Rattle.gfs2_layout.specs.Inode.{is_directory_in, is_hashed_in, linear_area, leaf_area}
use Rattle.gfs2_layout.specs.Structures.{is_directory}
use Rattle.gfs2_layout.specs.Records.{Record, records_in}
use Rattle.gfs2_layout.specs.Exchanges.{directory_count}
use Rattle.image_model.specs.Claims.{every, Claims, HasDirectory, HasArea, behind_dinode, of_leaf, first_leaf, next_leaf, in_dinode, in_leaf}
use Rattle.image_reader.specs.Complete.{IsWholeTally, AllAreFound}
use Rattle.image_reader.specs.Found.{HasEntry}
use Rattle.image_reader.specs.Going.{IsVisitIn, AreFound, AreCounted}
use Rattle.image_model.specs.Image.{Image}
use Rattle.image_reader.specs.Leaves.{HasClaim, AreLeavesOver, leaf_records}
use Rattle.image_model.specs.Owners.{Named, Chained}
use Rattle.image_reader.specs.Owning.{AreClaims}
use Rattle.image_reader.specs.Reading.{held, image_at, IsTrueOf}
use Rattle.image_model.specs.Rules.{HasRecords, from_dinode_block, from_leaves, linear_height, linear_size, no_dot, no_dots, directory_links, entry_count}
use Rattle.image_reader.specs.declared.blocks.Blocks.{Blocks}
use Rattle.image_reader.specs.declared.directory.Found.{Found}
use Rattle.image_reader.specs.declared.directory.Tally.{Tally}
use Rattle.image_reader.specs.declared.directory.Visit.{Visit}
use Rattle.image_reader.specs.declared.image.ImageFault.{ImageFault}
use Rattle.image_reader.specs.declared.image.ImageFault.TheVariants.{Damaged}
use Rattle.image_reader.specs.declared.inode.Inode.{Inode}
use Rattle.image_reader.specs.declared.owners.Claim.{Claim}
use Rattle.image_reader.proofs.Chains.{claim_of}
use Rattle.image_reader.proofs.InodeFaults.{told_of, said}
use Rattle.image_reader.proofs.Leaves.{tally_first}
use Rattle.image_model.proofs.Members.{contained, is_in, in_flat_map}
use Rattle.image_reader.proofs.Pieces.{dinode_is}

-- ---- of one image under two names

pub directory_of : (image : Blocks) (inode : Inode) → inode.block.image ≡ image → HasDirectory (image_at image) inode.block.number → HasDirectory (image_at inode.block.image) inode.block.number
directory_of image inode own has = subst (λ (i : Blocks). HasDirectory (image_at i) inode.block.number) (sym own) has

pub hashed_of : (image : Blocks) (inode : Inode) (b : Bool) → inode.block.image ≡ image → is_hashed_in (held inode) ≡ b → is_hashed_in (every (image_at image) inode.block.number) ≡ b
hashed_of image inode b own is = subst (λ (i : Blocks). is_hashed_in (every (image_at i) inode.block.number) ≡ b) own is

pub directory_at : (image : Blocks) (visit : Visit) → IsVisitIn image visit → is_directory visit.inode.dinode ≡ true → HasDirectory (image_at image) visit.inode.block.number
directory_at image visit v is =
    let here : is_directory_in (held visit.inode) ≡ true = ap is_directory (sym (dinode_is visit.inode)) ∙ is in
    record {
      inode = (v.owner, v.at);
      dir = subst (λ (i : Blocks). is_directory_in (every (image_at i) visit.inode.block.number) ≡ true) v.same here;
    }

-- ---- a linear directory

pub linear_area_there : (image : Blocks) (inode : Inode) (bytes : List ℕ) → inode.block.image ≡ image → HasDirectory (image_at image) inode.block.number → is_hashed_in (held inode) ≡ false
    → bytes ≡ linear_area (held inode) → HasArea (image_at image) inode.block.number inode.block.number bytes
linear_area_there image inode bytes own dir plain is =
    let P : Blocks → Type 0 = λ i. HasDirectory (image_at i) inode.block.number → HasArea (image_at i) inode.block.number inode.block.number bytes in
    let here : P inode.block.image = λ has. subst (HasArea (image_at inode.block.image) inode.block.number inode.block.number) (sym is) (behind_dinode has plain) in
    subst P own here dir

pub wrong_height : (inode : Inode) (fault : ImageFault) → fault ≡ Damaged inode.block.number 8 → HasDirectory (image_at inode.block.image) inode.block.number → is_hashed_in (held inode) ≡ false
    → inode.dinode.height ≢ 0 → IsTrueOf (image_at inode.block.image) fault
wrong_height inode fault is dir plain high = told_of inode.block fault _ is (linear_height inode.block.number dir plain (said inode (λ d. d.height ≢ 0) high))

pub wrong_size : (inode : Inode) (fault : ImageFault) (room : ℕ) → fault ≡ Damaged inode.block.number 8 → HasDirectory (image_at inode.block.image) inode.block.number → is_hashed_in (held inode) ≡ false
    → room ≡ inode.block.image.size - 232 → inode.dinode.size ≢ room → IsTrueOf (image_at inode.block.image) fault
wrong_size inode fault room is dir plain room_is other =
    let wrong : 232 + inode.dinode.size ≢ inode.block.image.size = λ e. other (omega (arith, e, room_is)) in
    told_of inode.block fault _ is (linear_size inode.block.number dir plain (said inode (λ d. 232 + d.size ≢ inode.block.image.size) wrong))

-- ---- leaves are those of a hashed directory

pub leaf_is_hashed : (im : Image) (by x a hash place : ℕ) → Claims im by x (Chained a hash place) → is_hashed_in (every im a) ≡ true
leaf_is_hashed im _ _ a _ _ (first_leaf by _ o i claimed dinode hashed low some) = hashed
leaf_is_hashed im _ _ a _ _ (next_leaf by x _ hash place claimed more) = leaf_is_hashed im by x a hash place claimed

pub not_both : (b : Bool) → b ≡ true → b ≡ false → ⊥
not_both b t f = true≢false (sym t ∙ f)

-- ---- all names

pub names_of_linear : (im : Image) (visit : Visit) (found : List Found) (by b : ℕ) (name : List ℕ) → is_hashed_in (every im visit.inode.block.number) ≡ false
    → AreFound found visit (records_in (linear_area (every im visit.inode.block.number))) → Claims im by b (Named visit.inode.block.number name) → HasEntry found visit.place name b
names_of_linear im visit found _ _ _ plain are (in_dinode by _ o r claimed dinode dir linear there dots) = are r there dots
names_of_linear im visit found _ _ _ plain are (in_leaf by x _ hash place r claimed there dots) = absurd (not_both (is_hashed_in (every im visit.inode.block.number)) (leaf_is_hashed im by x visit.inode.block.number hash place claimed) plain)

pub names_of_hashed : (im : Image) (visit : Visit) (found : List Found) (by b : ℕ) (name : List ℕ) → is_hashed_in (every im visit.inode.block.number) ≡ true
    → ((from x hash place : ℕ) → Claims im from x (Chained visit.inode.block.number hash place) → AreFound found visit (leaf_records (every im visit.inode.block.number) x))
    → Claims im by b (Named visit.inode.block.number name) → HasEntry found visit.place name b
names_of_hashed im visit found _ _ _ hashed are (in_dinode by _ o r claimed dinode dir linear there dots) = absurd (not_both (is_hashed_in (every im visit.inode.block.number)) hashed linear)
names_of_hashed im visit found _ _ _ hashed are (in_leaf by x _ hash place r claimed there dots) = are by x hash place claimed r there dots

pub linear_found : (image : Blocks) (visit : Visit) (entries : List (Option Claim)) (found : List Found) → visit.inode.block.image ≡ image → is_hashed_in (held visit.inode) ≡ false
    → AreFound found visit (records_in (linear_area (held visit.inode))) → AllAreFound (image_at image) visit entries found
linear_found image visit entries found own plain are =
    let P : Blocks → Type 0 = λ i. AllAreFound (image_at i) visit entries found in
    subst P own (record {
      names = λ by b name claimed. names_of_linear (image_at visit.inode.block.image) visit found by b name plain are claimed;
      leaves = λ by x hash place claimed. absurd (not_both (is_hashed_in (held visit.inode)) (leaf_is_hashed (image_at visit.inode.block.image) by x visit.inode.block.number hash place claimed) plain);
    })

pub linear_whole : (image : Blocks) (visit : Visit) (none tally : Tally) → visit.inode.block.image ≡ image → HasDirectory (image_at image) visit.inode.block.number → is_hashed_in (held visit.inode) ≡ false
    → none.entries ≡ 0 → none.directories ≡ 0 → AreCounted none tally (records_in (linear_area (held visit.inode))) → IsWholeTally (image_at image) visit.inode.block.number tally
linear_whole image visit none tally own dir plain e d counted =
    let P : Blocks → Type 0 = λ i. HasDirectory (image_at i) visit.inode.block.number → IsWholeTally (image_at i) visit.inode.block.number tally in
    let here : P visit.inode.block.image = λ has. record {
      records = records_in (linear_area (held visit.inode));
      all = from_dinode_block has plain;
      counted = tally_first none tally (records_in (linear_area (held visit.inode))) e d counted;
    } in
    subst P own here dir

pub hashed_found : (image : Blocks) (visit : Visit) (entries : List (Option Claim)) (tally : Tally) (found : List Found) → visit.inode.block.image ≡ image → is_hashed_in (held visit.inode) ≡ true
    → AreLeavesOver visit entries tally found
    → ((by x hash place : ℕ) → Claims (image_at image) by x (Chained visit.inode.block.number hash place) → HasClaim entries x (Chained visit.inode.block.number hash place))
    → AllAreFound (image_at image) visit entries found
hashed_found image visit entries tally found own hashed over all =
    let a = visit.inode.block.number in
    let P : Blocks → Type 0 = λ i. ((by x hash place : ℕ) → Claims (image_at i) by x (Chained a hash place) → HasClaim entries x (Chained a hash place)) → AllAreFound (image_at i) visit entries found in
    let here : P visit.inode.block.image = λ each. record {
      names = λ by b name claimed. names_of_hashed (image_at visit.inode.block.image) visit found by b name hashed (λ from x hash place leaf. over.named x (over.all x hash place (each from x hash place leaf))) claimed;
      leaves = each;
    } in
    subst P own here all

pub hashed_whole : (image : Blocks) (visit : Visit) (entries : List (Option Claim)) (tally : Tally) (found : List Found) → visit.inode.block.image ≡ image
    → HasDirectory (image_at image) visit.inode.block.number → is_hashed_in (held visit.inode) ≡ true → AreClaims (image_at image) entries → AreLeavesOver visit entries tally found
    → ((by x hash place : ℕ) → Claims (image_at image) by x (Chained visit.inode.block.number hash place) → HasClaim entries x (Chained visit.inode.block.number hash place))
    → IsWholeTally (image_at image) visit.inode.block.number tally
hashed_whole image visit entries tally found own dir hashed claims over all =
    let a = visit.inode.block.number in
    let P : Blocks → Type 0 = λ i. HasDirectory (image_at i) a → AreClaims (image_at i) entries
    → ((by x hash place : ℕ) → Claims (image_at i) by x (Chained a hash place) → HasClaim entries x (Chained a hash place)) → IsWholeTally (image_at i) a tally in
    let here : P visit.inode.block.image = λ has are each. record {
      records = flat_map (leaf_records (held visit.inode)) over.leaves;
      all = from_leaves over.leaves has hashed (record {
        rise = over.rise;
        all = λ x leaf. over.all x leaf.1 leaf.2 (each leaf.0 x leaf.1 leaf.2 leaf.3);
        only = λ x there.
            let c = over.only x there in
            let from = claim_of (image_at visit.inode.block.image) entries x (Chained a c.0 c.1) are c.2 in
            (from.0, c.0, c.1, from.1);
      });
      counted = over.counted;
    } in
    subst P own here dir claims all

-- ---- the count

record_listed : (im : Image) (a x : ℕ) (records area : List Record) (bytes : List ℕ) (r : Record) → HasRecords im a records → HasArea im a x bytes → Contains (records_in bytes) r → Contains records r
record_listed im a _ _ area _ r (from_dinode_block dir plain) (behind_dinode has linear) there = there
record_listed im a _ _ area _ r (from_dinode_block dir plain) (of_leaf x leaf) there = absurd (not_both (is_hashed_in (every im a)) (leaf_is_hashed im leaf.0 x a leaf.1 leaf.2 leaf.3) plain)
record_listed im a _ _ area _ r (from_leaves leaves dir hashed are) (behind_dinode has linear) there = absurd (not_both (is_hashed_in (every im a)) hashed linear)
record_listed im a _ _ area _ r (from_leaves leaves dir hashed are) (of_leaf x leaf) there =
    contained r _ (in_flat_map (λ y. records_in (leaf_area (every im a) y)) x r leaves (is_in x leaves (are.all x leaf)) (is_in r _ there))

module _ (inode : Inode) (tally : Tally) (fault : ImageFault) (dir : HasDirectory (image_at inode.block.image) inode.block.number)
    (whole : IsWholeTally (image_at inode.block.image) inode.block.number tally) where
  pub dot_missing : fault ≡ Damaged inode.block.number 10 → tally.dot ≡ false → IsTrueOf (image_at inode.block.image) fault
  dot_missing is none = told_of inode.block fault _ is (no_dot inode.block.number dir (λ x r has named.
      whole.counted.dot none r (record_listed (image_at inode.block.image) inode.block.number x whole.records [] has.0 r whole.all has.1 has.2) named))

  pub dots_missing : fault ≡ Damaged inode.block.number 10 → tally.dots ≡ false → IsTrueOf (image_at inode.block.image) fault
  dots_missing is none = told_of inode.block fault _ is (no_dots inode.block.number dir (λ x r has named.
      whole.counted.dots none r (record_listed (image_at inode.block.image) inode.block.number x whole.records [] has.0 r whole.all has.1 has.2) named))

  pub links_wrong : (links sum : ℕ) → fault ≡ Damaged inode.block.number 12 → links ≡ inode.dinode.nlink → links < 2 ^ 64 → sum ≡ min (tally.directories + 2) (2 ^ 64 - 1) → links ≢ sum
      → IsTrueOf (image_at inode.block.image) fault
  links_wrong links sum is links_is small sum_is other =
      let wrong : inode.dinode.nlink ≢ 2 + directory_count whole.records = λ e. other (omega (arith, e, links_is, small, sum_is, whole.counted.directories)) in
      told_of inode.block fault _ is (directory_links inode.block.number whole.records whole.all (said inode (λ d. d.nlink ≢ 2 + directory_count whole.records) wrong))

  pub entries_wrong : (entries : ℕ) → fault ≡ Damaged inode.block.number 12 → entries ≡ inode.dinode.entries → entries < 2 ^ 64 → entries ≢ tally.entries → IsTrueOf (image_at inode.block.image) fault
  entries_wrong entries is entries_is small other =
      let wrong : inode.dinode.entries ≢ length whole.records = λ e. other (omega (arith, e, entries_is, small, whole.counted.entries)) in
      told_of inode.block fault _ is (entry_count inode.block.number whole.records whole.all (said inode (λ d. d.entries ≢ length whole.records) wrong))

pub claims_later : (i j : Blocks) (entries : List (Option Claim)) → i ≡ j → AreClaims (image_at i) entries → AreClaims (image_at j) entries
claims_later i j entries same are = subst (λ (b : Blocks). AreClaims (image_at b) entries) same are

pub whole_of : (image : Blocks) (inode : Inode) (tally : Tally) → inode.block.image ≡ image → IsWholeTally (image_at image) inode.block.number tally → IsWholeTally (image_at inode.block.image) inode.block.number tally
whole_of image inode tally own whole = subst (λ (i : Blocks). IsWholeTally (image_at i) inode.block.number tally) (sym own) whole
