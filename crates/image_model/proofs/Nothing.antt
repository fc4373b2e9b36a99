-- An image that stands for a tree breaks no rule.
use Rattle.std.proofs.Common.{ℕ, ◌+◌, ap, ◌∙◌, arith}
use Rattle.std.proofs.lemmas.Bool.{both_ways}
use Rattle.file_tree.specs.Tree.{Tree}
use Rattle.image_model.proofs.Members.{contained}
use Rattle.image_model.proofs.Counts.{at_in}
use Rattle.image_model.specs.Image.{Image}
use Rattle.image_model.specs.Owners.{Owners, parent_of}
use Rattle.image_model.specs.Stands.{Layout, IsLaid, Stands}
use Rattle.image_model.specs.Rules
use Rattle.image_model.specs.Rules.{Breaks}
use Rattle.image_model.proofs.Behind.{behind_claimed}
use Rattle.image_model.proofs.Facts.{has_dinode, inode_row, has_rindex, has_jindex, jindex_directory}
use Rattle.image_model.proofs.Unbroken.{header_there, on_device, in_a_group, one_owner, has_group, bits_right, free_counted, dinodes_counted}
use Rattle.image_model.proofs.UnbrokenInodes as inodes
use Rattle.image_model.proofs.UnbrokenRecords as records
use Rattle.image_model.proofs.UnbrokenCounts as counts
use Rattle.image_model.proofs.UnbrokenSystem as system

module _ (im : Image) (owners : Owners) (l : Layout) (laid : IsLaid im owners l) where
  pub laid_breaks_nothing : (rule b : ℕ) → Breaks im rule b → ⊥
  laid_breaks_nothing _ _ (Rules.no_superblock low) = absurd (omega (arith, low, laid.super.inside))
  laid_breaks_nothing _ _ (Rules.no_header b kind format needs lacks) = lacks (header_there im owners l laid b kind format needs)
  laid_breaks_nothing _ _ (Rules.beyond_device b c o claim high) = absurd (omega (arith, high, on_device im owners l laid b c o claim))
  laid_breaks_nothing _ _ (Rules.beyond_groups b c o claim out) = in_a_group im owners l laid b c o claim out
  laid_breaks_nothing _ _ (Rules.two_owners b by by' o p claim other d apart) = d (one_owner im owners l laid by by' b o p claim other)
  laid_breaks_nothing _ _ (Rules.other_data0 g has d) = d (has_group im owners l laid g has).data0
  laid_breaks_nothing _ _ (Rules.other_data_blocks g has d) = d (has_group im owners l laid g has).data_blocks
  laid_breaks_nothing _ _ (Rules.other_bitbytes g has d) = d (has_group im owners l laid g has).bitbytes
  laid_breaks_nothing _ _ (Rules.wrong_bits g b has of wrong) = bits_right im owners l laid g b has of wrong
  laid_breaks_nothing _ _ (Rules.free_count g has d) = d (free_counted im owners l laid g has)
  laid_breaks_nothing _ _ (Rules.dinode_count g has d) = d (dinodes_counted im owners l laid g has)
  laid_breaks_nothing _ _ (Rules.other_address a has d) = d (inodes.address_is im owners l laid a has)
  laid_breaks_nothing _ _ (Rules.no_number a has e) = inodes.number_is im owners l laid a has e
  laid_breaks_nothing _ _ (Rules.no_mode a has no_dir no_file) = inodes.mode_is im owners l laid a has no_dir no_file
  laid_breaks_nothing _ _ (Rules.root_is_file e) = both_ways _ e (inodes.root_directory im owners l laid)
  laid_breaks_nothing _ _ (Rules.too_high a has high) = absurd (omega (arith, high, inodes.height_low im owners l laid a has))
  laid_breaks_nothing _ _ (Rules.too_large_for_dinode a has e large) = absurd (omega (arith, large, inodes.stuffed_fits im owners l laid a has e))
  laid_breaks_nothing _ _ (Rules.too_large_for_height a level has e large) = absurd (omega (arith, large, inodes.under_fits im owners l laid a has level e))
  laid_breaks_nothing _ _ (Rules.too_long a under file long) = absurd (omega (arith, long, system.short_file im owners l laid a under file))
  laid_breaks_nothing _ _ (Rules.linear_height a has plain d) = d (inodes.linear_stuffed im owners l laid a has plain)
  laid_breaks_nothing _ _ (Rules.linear_size a has plain d) = d (inodes.linear_sized im owners l laid a has plain)
  laid_breaks_nothing _ _ (Rules.past_end a b k level first c has leads high) = absurd (omega (arith, high, inodes.within_end im owners l laid a has b k level first c leads))
  laid_breaks_nothing _ _ (Rules.journal_hole j d p has low e) = system.place_filled im owners l laid j d has p low e
  laid_breaks_nothing _ _ (Rules.journal_part j d has e) = e (system.journal_whole im owners l laid j d has)
  laid_breaks_nothing _ _ (Rules.unfilled a x area has not) = not (records.filled im owners l laid a x area has)
  laid_breaks_nothing _ _ (Rules.no_name a x r has plain not) = not (records.down im owners l laid a x has.0 has.1 r has.2 plain).name
  laid_breaks_nothing _ _ (Rules.other_hash a x area s has there used d) = d (records.hashed_right im owners l laid a x area has s there used)
  laid_breaks_nothing _ _ (Rules.twice_in_area a x i j area r s has at at' d e) =
      records.once_in_area im owners l laid a x area has r (contained r _ (at_in r _ i at)) i j s at at' d e
  laid_breaks_nothing _ _ (Rules.twice a x y r s has has' d e) = records.once_in_two im owners l laid a x y has.0 has'.0 r s has.1 has'.1 has.2 has'.2 d e
  laid_breaks_nothing _ _ (Rules.no_dot a has none) = records.has_dot im owners l laid a has none
  laid_breaks_nothing _ _ (Rules.no_dots a has none) = records.has_dots im owners l laid a has none
  laid_breaks_nothing _ _ (Rules.other_dot a x r has e d) = d (records.dot_is im owners l laid a x has.0 has.1 r has.2 e)
  laid_breaks_nothing _ _ (Rules.other_dots a x o r at has e d) = d (records.dots_are im owners l laid a x has.0 has.1 r has.2 e ∙ ap (parent_of a) (inode_row im owners l laid a o at))
  laid_breaks_nothing _ _ (Rules.other_kind a x r has d) = d (records.head_is im owners l laid a x has.0 has.1 r has.2).0
  laid_breaks_nothing _ _ (Rules.other_number a x r has d) = d (records.head_is im owners l laid a x has.0 has.1 r has.2).1
  laid_breaks_nothing _ _ (Rules.file_links a has plain d) = d (inodes.file_linked im owners l laid a has plain)
  laid_breaks_nothing _ _ (Rules.directory_links a rs has d) = d (counts.links_counted im owners l laid a rs has)
  laid_breaks_nothing _ _ (Rules.entry_count a rs has d) = d (counts.entries_counted im owners l laid a rs has)
  laid_breaks_nothing _ _ (Rules.table_too_small a at low) = absurd (omega (arith, low, inodes.table_least im owners l laid a at))
  laid_breaks_nothing _ _ (Rules.table_too_large a at high) = absurd (omega (arith, high, inodes.table_greatest im owners l laid a at))
  laid_breaks_nothing _ _ (Rules.table_size a at d) = d (inodes.table_sized im owners l laid a at)
  laid_breaks_nothing _ _ (Rules.records_format a x has d) = d (inodes.format_is im owners l laid a x has)
  laid_breaks_nothing _ _ (Rules.leaf_too_deep a x has deep) = absurd (omega (arith, deep, inodes.leaf_shallow im owners l laid a x has))
  laid_breaks_nothing _ _ (Rules.chain_depth a x has more d) = d (inodes.chain_deep im owners l laid a x has more)
  laid_breaks_nothing _ _ (Rules.no_leaf a i at low e) = inodes.entry_some im owners l laid a at i low e
  laid_breaks_nothing _ _ (Rules.pointer_missing a i j at low some low' e d) = d (inodes.pointer_there im owners l laid a at i low j low' e)
  laid_breaks_nothing _ _ (Rules.pointer_astray a i j at low some low' e d) = d (system.pointer_right im owners l laid a i j at low low' e)
  laid_breaks_nothing _ _ (Rules.leaf_entries a x has d) = d (inodes.leaf_counted im owners l laid a x has)
  laid_breaks_nothing _ _ (Rules.leaf_hash a x by hash place r claim there d) = d (inodes.leaf_hashes im owners l laid a x (by, hash, place, claim) r there)
  laid_breaks_nothing _ _ (Rules.comes_again a x n has behind some) =
      let other = behind_claimed im a has.0 x has.1 has.2 n x has.3 behind in
      absurd (omega (arith, some, inodes.chain_once im owners l laid a has.1 x has.0 other.0 has.2 (has.2 + n) has.3 other.1))
  laid_breaks_nothing _ _ (Rules.no_jindex none) = none l.jindex (has_jindex im owners l laid) (jindex_directory im owners l laid)
  laid_breaks_nothing _ _ (Rules.headless j d has none) = system.journal_headed im owners l laid j d has none
  laid_breaks_nothing _ _ (Rules.bad_chunk j d p head has headed bad there) = system.no_bad_chunk im owners l laid j d has p head headed bad
  laid_breaks_nothing _ _ (Rules.no_rindex none) = none l.rindex (has_rindex im owners l laid)
  laid_breaks_nothing _ _ (Rules.part_of_entry d is e) = e (system.list_whole im owners l laid d is)
  laid_breaks_nothing _ _ (Rules.too_many d is many) = absurd (omega (arith, many, system.list_short im owners l laid d is))
  laid_breaks_nothing _ _ (Rules.unfit d g is at not) = not (system.groups_fit im owners l laid d g is at)
  laid_breaks_nothing _ _ (Rules.not_rising d i j g h is at at' low high) = absurd (omega (arith, high, system.groups_rise im owners l laid d i j g h is at at' low))
  laid_breaks_nothing _ _ (Rules.bare b groups list bare) = system.none_bare im owners l laid b groups list bare
  laid_breaks_nothing _ _ (Rules.blocks_count a blocks has are d) = d (counts.blocks_counted im owners l laid a (has_dinode im owners l laid a has) blocks are)

pub nothing_breaks : (im : Image) (t : Tree) → Stands im t → (rule b : ℕ) → Breaks im rule b → ⊥
nothing_breaks im t s = laid_breaks_nothing im s.owners s.layout s.laid
