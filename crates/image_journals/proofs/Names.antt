-- Where the names of a directory of an image that stands lead.
use Rattle.std.proofs.Common.{◌≡◌, inl, inr, ◌<◌, ◌*◌, ◌-◌, ◌^◌, ℕ, true, false, Bool, List, Option, None, Some, refl, sym, ap, subst, ◌∙◌, arith, min}
use Rattle.std.proofs.lemmas.Bool.{cond-true, cond-false}
use Rattle.std.specs.Int.{from_be_bytes, w64}
use Rattle.std.specs.Prelude.{◌&&◌, if◌then◌else◌}
use Rattle.std.specs.Option.{option_map}
use Rattle.crc_words.specs.Remainder.{crc32_of}
use Rattle.dinode_tree.specs.Reading.{content_range}
use Rattle.gfs2_layout.specs.Area.{IsArea}
use Rattle.gfs2_layout.specs.Bytes.{number_at}
use Rattle.gfs2_layout.specs.Holding.{Holding, Itself, Part, cell_part, part_at}
use Rattle.gfs2_layout.specs.Inode.{IsInode, dinode_in, entry, has_hash_flag, is_directory_in, is_hashed_in, linear_area, records_of, table_count}
use Rattle.gfs2_layout.specs.Records.{Record, child_named, is_dots, record_named, records_in}
use Rattle.gfs2_layout.specs.Structures.{is_directory}
use Rattle.gfs2_layout.specs.declared.dinode.Dinode.{Dinode}
use Rattle.glock_names.specs.Views.{Seen}
use Rattle.glock_names.specs.declared.steps.Entry.{Entry}
use Rattle.hash_dirs.specs.Finding.{ChainsTellNames, IsFoundBy}
use Rattle.hash_dirs.specs.Shown.{IsPlaced, IsSound}
use Rattle.image_model.specs.Flat.{Node, no_node}
use Rattle.image_model.specs.Image.{Image}
use Rattle.image_model.specs.Nodes.{node_of}
use Rattle.image_model.specs.Owners.{IsUsed, Owners, Super, cell_in, cell_of, holding, part_in}
use Rattle.image_model.specs.Stands.{Layout, flat_of}
use Rattle.image_model.specs.SystemFiles.{IsSystemFile}
use Rattle.image_model.proofs.Held.{itself_own, none_some, some_same}
use Rattle.dinode_tree.specs.Shown.{IsAsSeen, IsShown}
use Rattle.image_model.proofs.Reach.{used_low}
use Rattle.image_model.proofs.Unique.{unused_part, used_or_not}
use Rattle.linear_dirs.specs.Shown.{entry_of}
use Rattle.image_journals.specs.Shown.{IsIndex, ShowsFrame}
use Rattle.image_journals.specs.Sound.{IsDirectoryIn}
use Rattle.image_journals.proofs.Held as held

no_cell : (p : Option Part) (bytes : List ℕ) → p ≡ None → cell_of p bytes ≡ None
no_cell None bytes e = refl
no_cell (Some p) bytes e = absurd (none_some (sym e))

module _ (r : Image) (o : Owners) (d b : ℕ) where
  -- a block that is in no use is no inode's
  unused : (IsUsed (o b) → ⊥) → (holding r o d).cell b ≡ None
  unfolding cell_in
  unused none = no_cell (part_in d b (o b)) (r.at b) (unused_part d b (o b) none)

module _ (v : Seen) (r : Image) (o : Owners) (l : Layout) (s : ShowsFrame v r o l) (d : ℕ) (file : IsSystemFile r d) where
  h : Holding
  h = holding r o d

  pub placed : IsPlaced (holding r o d)
  placed = record {
    own = held.own v r o l s d file;
    only = λ b e. itself_own r o d b e;
    nobody = ap cell_part (unused r o d 0 (λ used. let low : o 0 ≡ Super = s.laid.zoned.low 0 (omega arith) in subst IsUsed low used));
    inside = λ b some. elim (used_or_not (o b)) [
      | inl used ↦ used_low r o l s.laid b used
      | inr none ↦ absurd (held.none_is ((holding r o d).cell b) (unused r o d b none) some)
    ];
  }

module _ (v : Seen) (r : Image) (o : Owners) (l : Layout) (s : ShowsFrame v r o l) (d : ℕ) (index : IsIndex l d) where
  file : IsSystemFile r d
  file = held.index_file r o l s.laid d index

  pub directory : is_directory_in (holding r o d) ≡ true → IsDirectoryIn v (holding r o d)
  directory dir = record {
    sound = record {
      block_size = s.laid.image.block_size;
      inode = held.index_sound v r o l s d index;
      placed = placed v r o l s d file;
      once = (s.laid.directories d (held.dinode v r o l s d file) dir).once;
    };
    directory = dir;
    size = sym s.size;
    has = held.seen v r o l s d index;
  }

  -- a file names nothing
  pub no_child : (name : List ℕ) → is_directory_in (holding r o d) ≡ false → (flat_of r o d).child name ≡ None
  no_child name plain = ap (λ (n : Node). n.child name) (cond-true _ (node_of (holding r o d)) no_node (held.dinode v r o l s d file)) ∙ cond-false _ _ None plain

  -- a directory what its records say
  pub child_is : (name : List ℕ) → is_directory_in (holding r o d) ≡ true → is_dots name ≡ false → (flat_of r o d).child name ≡ child_named (records_of (holding r o d)) name
  child_is name dir dots =
      ap (λ (n : Node). n.child name) (cond-true _ (node_of (holding r o d)) no_node (held.dinode v r o l s d file))
      ∙ cond-true _ (if is_dots name then None else child_named (records_of (holding r o d)) name) None dir
      ∙ cond-false _ None (child_named (records_of (holding r o d)) name) dots

-- where an entry leads
pub leads_to : (named : Option Record) (e : Entry) → Some e ≡ option_map entry_of named → Some e.addr ≡ option_map (λ (r : Record). r.address) named
leads_to None e is = absurd (none_some (sym is))
leads_to (Some r) e is = ap (λ (x : Option Entry). option_map (λ (y : Entry). y.addr) x) is

pub leads_nowhere : (named : Option Record) → None ≡ option_map entry_of named → None ≡ option_map (λ (r : Record). r.address) named
leads_nowhere None is = refl
leads_nowhere (Some r) is = absurd (none_some is)

-- a dinode that is no hashed directory's, or is
pub is_linear : (h : Holding) (d : Dinode) → d ≡ dinode_in h → has_hash_flag d ≡ false → is_hashed_in h ≡ false
is_linear h d is off = by (is_directory (dinode_in h)) refl
  where
    flag : has_hash_flag (dinode_in h) ≡ false
    flag = ap has_hash_flag (sym is) ∙ off

    by : (t : Bool) → is_directory (dinode_in h) ≡ t → (t && has_hash_flag (dinode_in h)) ≡ false
    by true e = flag
    by false e = refl

pub is_hashed : (h : Holding) (d : Dinode) → d ≡ dinode_in h → is_directory_in h ≡ true → has_hash_flag d ≡ true → is_hashed_in h ≡ true
is_hashed h d is dir on = ap (λ t. t && has_hash_flag (dinode_in h)) dir ∙ ap has_hash_flag (sym is) ∙ on

-- the area of a linear directory
pub linear_is : (h : Holding) → IsInode h → is_directory_in h ≡ true → is_hashed_in h ≡ false → IsArea (linear_area h)
linear_is h sound dir plain = (sound.linear dir plain).area.fills

pub linear_records : (h : Holding) (area : List ℕ) → is_hashed_in h ≡ false → area ≡ linear_area h → records_in area ≡ records_of h
unfolding records_of
linear_records h area plain is = ap records_in is ∙ sym (cond-false _ _ _ plain)

-- a pointer that was read by its eight bytes
pub pointer_is : (h : Holding) (i : ℕ) (bytes : List ℕ) → bytes ≡ content_range h (8 * i) 8 → from_be_bytes w64 bytes ≡ entry h i
unfolding number_at
pointer_is h i bytes is = ap (from_be_bytes w64) is

-- what a chain says of a name, a sound directory's records say
pub by_chain : (h : Holding) (name : List ℕ) (found : Option Entry) → ChainsTellNames → IsSound h → is_hashed_in h ≡ true → crc32_of name < 2 ^ 32 → IsFoundBy h name found → found ≡ option_map entry_of (record_named (records_of h) name)
by_chain h name found law sound hashed small by = by.leads ∙ ap (option_map entry_of) (law h name by.named sound hashed small by.first)

-- a directory that the view shows whole is shown
pub shown_whole : (v : Seen) (h : Holding) (a : ℕ) → IsDirectoryIn v h → h.own ≡ a → ((w : Seen) (g : Holding) → IsInode g → part_at g g.own ≡ Some Itself → g.size ≡ w.size → IsAsSeen w g → IsShown w g.own g) → IsShown v a h
shown_whole v h a is own law = subst (λ n. IsShown v n h) own (law v h is.sound.inode is.sound.placed.own is.size (λ b bytes some there. some_same (sym (is.has b some) ∙ there)))

-- a pointer of the table has its eight bytes
pub long_enough : (h : Holding) (i n : ℕ) → IsSound h → is_hashed_in h ≡ true → i < table_count h → n ≡ min 8 ((dinode_in h).size - 8 * i) → n ≡ 8
long_enough h i n sound hashed low is =
    let size : (dinode_in h).size ≡ 8 * table_count h = (sound.inode.hashed hashed).size in
    omega (arith, is, size, low)
