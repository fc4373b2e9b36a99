-- A call that writes, or gives a file another size, writes few blocks.
use Rattle.std.proofs.Common.{◌≡◌, ◌+◌, ◌-◌, ◌%◌, ◌≤◌, ℕ, inl, inr, false, List, [], ◌∷◌, length, Some, ap, subst, ◌∙◌, arith}
use Rattle.std.specs.FinMap.{FinMap, empty, get, get-empty, insert}
use Rattle.std.specs.Ordering.{nat_cmp}
use Rattle.file_tree.specs.Apply.{file_limit}
use Rattle.file_tree.specs.Tree.{Tree}
use Rattle.file_tree.specs.declared.call.Call.{Call}
use Rattle.call_locks.specs.WantLaws.{path_of}
use Rattle.call_locks.specs.Wants.{wanted}
use Rattle.drafts.specs.declared.change.Change.{Change}
use Rattle.drafts.specs.declared.fate.Fate.{Fate}
use Rattle.drafts.specs.declared.fate.Fate.TheVariants.{Put}
use Rattle.gfs2_layout.specs.Holding.{Holding}
use Rattle.gfs2_layout.specs.Inode.{dinode_in, is_directory_in}
use Rattle.glock_names.specs.Views.{HasGroup, IsView, Seen}
use Rattle.glock_names.specs.declared.views.Group.{Group}
use Rattle.dinode_tree.specs.Reading.{inode_lock}
use Rattle.dinode_tree.specs.Shown.{IsShown}
use Rattle.growth_drafts.specs.Taken.{IsCounted}
use Rattle.growth_laws.specs.Laws.{FilesAreInodes, InodesAreFiles}
use Rattle.image_model.specs.Image.{Image}
use Rattle.image_model.specs.Owners.{Owners, holding}
use Rattle.image_model.specs.Stands.{Layout}
use Rattle.image_model.proofs.Counts.{at_in}
use Rattle.image_model.proofs.Members.{contained}
use Rattle.image_changes.specs.Drafted.{IsFinished}
use Rattle.image_changes.specs.Instances.{IsAt}
use Rattle.file_calls.proofs.Images.{is_shown}
use Rattle.file_calls.specs.FoundBlocks.{group_of_node}
use Rattle.small_changes.specs.Making.{IsRoomIn}
use Rattle.small_changes.proofs.Standing.{standing_file}
use Rattle.file_calls.proofs.SeenPaths.{leads_at}
use Rattle.file_calls.specs.Writing.{IsChangeOf, IsNeedOf, IsRoomOf, IsToChange, Puts, PutsThere, by_cut, by_growth, by_write, end_of, in_blocks, in_dinode}
use Rattle.small_changes.specs.Counting.{IsOfProfile}
use Rattle.small_changes.proofs.Counting.{after_insert, not_none, puts_few}
use Rattle.small_changes.proofs.Cutting.{cuts_are_small}
use Rattle.small_changes.proofs.Writing.{writes_are_small}
use Rattle.small_calls.specs.Sizes.{IsOfScript}
use Rattle.small_calls.proofs.Rooms.{room_once, room_said}

-- what is put has an end that the call's limit holds for, and few bytes
puts_low : (call : Call) (size at : ℕ) (new : List ℕ) → Puts call size at new → end_of call ≤ file_limit → at + length new ≤ file_limit
puts_low call size at new (by_write x bytes writes) short = subst (λ k. end_of k ≤ file_limit) writes short
puts_low call size at new (by_growth end is longer) short = let low : end ≤ file_limit = subst (λ k. end_of k ≤ file_limit) is short in omega (arith, low)

puts_few_bytes : (call : Call) (size at : ℕ) (new : List ℕ) → IsOfScript call → Puts call size at new → length new ≤ 16384
puts_few_bytes call size at new script (by_write x bytes writes) = script.short (path_of call false) at new writes
puts_few_bytes call size at new script (by_growth end is longer) = omega arith

module _ (v : Seen) (call : Call) (node time : ℕ) (change : Change) (im : Image) (o : Owners) (l : Layout) (t : Tree) (view : IsView v) (of : IsOfProfile v im o l t) (script : IsOfScript call)
    (files : InodesAreFiles) (inodes : FilesAreInodes) (a : ℕ) (changes : IsToChange v call a) where
  abbrev h : Holding
  h = holding im o a

  at_file : IsAt im o l (path_of call false) a
  at_file = leads_at v im o l t of.is (wanted call) (path_of call false) a changes.at.leads

  shown : IsShown v a h
  shown = is_shown v im o l t of.is (path_of call false) a at_file

  plain : is_directory_in h ≡ false
  plain = (changes.at.so h shown).file

  short : end_of call ≤ file_limit
  short = (changes.at.so h shown).short

  counted : IsCounted h
  counted = standing_file v im o l t of.is (path_of call false) a at_file plain files

  -- a draft that puts the dinode's block alone
  in_one : (fates : FinMap nat_cmp Fate) (bytes : List ℕ) → IsFinished fates change → fates ≡ insert empty a (Put (inode_lock a) false bytes) → length change.blocks.items ≤ 1
  in_one fates put_bytes finished is = puts_few fates change finished (a ∷ []) (λ b lock plain bytes put. elim (after_insert empty a b (Put (inode_lock a) false put_bytes)) [
    | inl same ↦ inl same
    | inr still ↦ absurd (not_none (get fates b) (get empty b) (Put lock plain bytes) (ap (λ (x : FinMap nat_cmp Fate). get x b) is ∙ still) (get-empty nat_cmp b) put)
  ])

  own_group : (own : Group) → group_of_node v.groups node ≡ Some own → HasGroup v own
  own_group own is = contained own v.groups (at_in own v.groups ((node - 1) % length v.groups) is)

  room_in : (at : ℕ) (new : List ℕ) (need : ℕ) (room : List ℕ) → PutsThere v call a at new → IsNeedOf v a at new need → IsRoomOf v node need room → IsRoomIn im o l a at (length new) room
  room_in at new need room puts needs room_of = record {
    file = plain;
    short = puts_low call (dinode_in h).size at new (puts h shown) short;
    free = room_said v im o l t of.is room_of.own (own_group room_of.own room_of.of_node) need room (room_of.first im.at);
    once = room_once v im o l t of.is room_of.own (own_group room_of.own room_of.of_node) need room (room_of.first im.at) view;
    as_many = room_of.many ∙ needs.so_many h shown counted.file;
  }

  pub few : IsChangeOf v call node a time change → length change.blocks.items ≤ 288
  few (in_dinode at new puts is) = let one = in_one is.fates is.puts.bytes is.finished is.puts.put in omega (arith, one)
  few (in_blocks at new need room goes puts needs room_of is) =
      writes_are_small files inodes v im o l t (path_of call false) a at new time room change of view at_file is (room_in at new need room puts needs room_of) (puts_few_bytes call (dinode_in h).size at new script (puts h shown))
  few (by_cut size freed fates cuts is groups done) =
      let less = cuts_are_small files v im o l t (path_of call false) a size time freed fates change of at_file is done (record { file = plain; larger = (cuts h shown).shorter }) in
      omega (arith, less)
