-- A draft in which bytes are written to a file, over an image that stands for a tree.
use Rattle.std.proofs.Common.{◌≡◌, ◌⊎◌, inl, inr, ℕ, ◌-◌, ◌^◌, ◌<◌, ◌≤◌, List, [], length, refl, sym, ap, ◌∙◌, subst, arith}
use Rattle.std.proofs.Math.Nat.{max-le}
use Rattle.std.proofs.lemmas.Bool.{cases_lt}
use Rattle.std.proofs.lemmas.List.{append-nil}
use Rattle.std.specs.Prelude.{Contains}
use Rattle.std.specs.Ordering.{nat_cmp}
use Rattle.std.specs.FinMap.{FinMap, empty}
use Rattle.file_tree.specs.Apply.{file_limit, overwritten}
use Rattle.file_tree.specs.Tree.{Tree}
use Rattle.drafts.specs.Fates.{AreWhole, seen_with}
use Rattle.drafts.specs.declared.change.Change.{Change}
use Rattle.drafts.specs.declared.fate.Fate.{Fate}
use Rattle.gfs2_layout.specs.Device.{IsBlockSize, superblock_place}
use Rattle.gfs2_layout.specs.Holding.{Holding}
use Rattle.gfs2_layout.specs.Inode.{content_of}
use Rattle.gfs2_layout.specs.declared.dinode.Dinode.{Dinode}
use Rattle.glock_names.specs.Views.{Seen, IsView, end_of, group_of_entry}
use Rattle.dinode_tree.specs.Shown.{IsShown}
use Rattle.growth_drafts.specs.Taken.{AreFreeFor}
use Rattle.growth_laws.specs.Laws.{FilesAreInodes, InodesAreFiles}
use Rattle.file_cuts.specs.Written.{CanWrite, HasWritten}
use Rattle.resource_groups.specs.Freeing.{HasSome}
use Rattle.resource_groups.specs.Shown as group
use Rattle.image_model.specs.Flat.{Path}
use Rattle.image_model.specs.Image.{Image}
use Rattle.image_model.specs.Owners.{Owners, holding}
use Rattle.image_model.specs.Stands.{Layout}
use Rattle.image_model.proofs.Members.{is_in}
use Rattle.image_changes.specs.Does.{AreInside, IsOf}
use Rattle.image_changes.specs.Drafted.{IsFinished}
use Rattle.image_changes.proofs.Inside.{stay_inside}
use Rattle.image_changes.specs.Instances.{IsAt}
use Rattle.growth_drafts.proofs.Rooms.{none_in}
use Rattle.draft_changes.specs.Resizing.{FreeBlocksAreNew, LeavesGroups, TakenGroupsSay}
use Rattle.draft_changes.proofs.Views.{groups_are_listed}
use Rattle.group_locks.proofs.Images.{is_shown}
use Rattle.file_changes.specs.Drafting.{GetsTime, TakesIn}
use Rattle.file_changes.specs.Making.{IsRoomIn, MakesFile}
use Rattle.file_changes.proofs.Lying.{all_at}
use Rattle.file_changes.proofs.Resized.{IsResized, IsSaidOver, header_listed, leaves_groups, lies_inside, makes_file, no_group, some_listed}
use Rattle.file_changes.proofs.Standing.{standing_file, standing_short}

-- the superblock stands near the front
place_low : (size : ℕ) → IsBlockSize size → superblock_place size ≤ 128
place_low size (inl e) = subst (λ n. superblock_place n ≤ 128) (sym e) (omega arith)
place_low size (inr (inl e)) = subst (λ n. superblock_place n ≤ 128) (sym e) (omega arith)
place_low size (inr (inr (inl e))) = subst (λ n. superblock_place n ≤ 128) (sym e) (omega arith)
place_low size (inr (inr (inr e))) = subst (λ n. superblock_place n ≤ 128) (sym e) (omega arith)

module _ (v : Seen) (im : Image) (o : Owners) (l : Layout) (t : Tree) (of : IsOf v im o l t) (view : IsView v) where
  -- an image whose groups a view has is a small one
  few_blocks : im.count < 2 ^ 64
  few_blocks = elim (cases_lt (superblock_place im.size) (im.count - 1)) [
    | inr low ↦ omega (arith, low, place_low im.size of.stands.laid.image.block_size)
    | inl high ↦ near high (cases_lt (im.count - 1) im.count)
  ]
    where
      near : superblock_place im.size < im.count - 1 → (im.count - 1 < im.count) ⊎ (im.count ≤ im.count - 1) → im.count < 2 ^ 64
      near high (inr none) = omega (arith, none)
      near high (inl within) =
          let g = of.stands.laid.fit.rest (im.count - 1) high within in
          let has = (groups_are_listed v im o l t (group_of_entry g.0) of).1 (g.0, g.1, refl) in
          let ends : end_of (group_of_entry g.0) ≤ 131072 = all_at (λ k. end_of k ≤ 131072) v.groups (group_of_entry g.0) view.groups.end (is_in (group_of_entry g.0) v.groups has) in
          omega (arith, g.2.high, ends)

  module _ (path : Path) (a : ℕ) (at : IsAt im o l path a) (files : InodesAreFiles) (new_blocks : FreeBlocksAreNew) (from len : ℕ) (room : List ℕ) (can : IsRoomIn im o l a from len room) where
    free_for : AreFreeFor (holding im o a) room
    free_for = record {
      some = λ c. (new_blocks im o l 0 of.stands.laid (can.free 0 c)).1 refl;
      once = can.once;
      inside = λ b c. (new_blocks im o l b of.stands.laid (can.free b c)).2;
      new = λ b c. (new_blocks im o l b of.stands.laid (can.free b c)).0 a;
    }

    pub can_write : CanWrite (holding im o a) from len room
    can_write = record {
      counted = standing_file v im o l t of path a at can.file files;
      few = few_blocks;
      free = free_for;
      enough = subst (λ n. n ≤ length room) can.as_many (omega arith);
    }

module _ (v : Seen) (im : Image) (o : Owners) (l : Layout) (t : Tree) (of : IsOf v im o l t) (view : IsView v) (path : Path) (a : ℕ) (at : IsAt im o l path a) (files : InodesAreFiles) (inodes : FilesAreInodes)
    (new_blocks : FreeBlocksAreNew) (from : ℕ) (new : List ℕ) (time : ℕ) (room : List ℕ) (can : IsRoomIn im o l a from (length new) room) (first second : FinMap nat_cmp Fate)
    (written : (h : Holding) → IsShown v a h → CanWrite h from (length new) room → HasWritten (seen_with v first) empty first room [] h from new) (timed : GetsTime v first a time second) where
  pub has_written : HasWritten (seen_with v first) empty first room [] (holding im o a) from new
  has_written = written (holding im o a) (is_shown v im o l t of path a at) (can_write v im o l t of view path a at files new_blocks from (length new) room can)

  all_taken : has_written.taken ≡ room
  all_taken = sym (append-nil has_written.taken) ∙ sym has_written.from_front

  pub resized : IsResized v im o l a has_written.g room [] time first second
  resized = record {
    is_file = can.file;
    shown = has_written.shown;
    sound = has_written.written.sound;
    count = has_written.written.blocks.count;
    itself = λ b part. has_written.written.sound.file.only b part ∙ has_written.shown.own;
    head = has_written.written.head;
    short = subst (λ n. n ≤ file_limit) (sym (ap (λ (d : Dinode). d.size) has_written.written.dinode)) (max-le (standing_short v im o l t of path a at can.file) can.short);
    drafted = has_written.drafted;
    blocks = record {
      were = λ b gone. absurd (none_in b gone);
      has = λ b. (
        (λ some. elim ((has_written.written.blocks.blocks b).0 some) [
          | inl old ↦ (inl old, none_in b)
          | inr new ↦ (inr (subst (λ xs. Contains xs b) all_taken new), none_in b)
        ]),
        (λ has. (has_written.written.blocks.blocks b).1 (elim has.0 [ inl old ↦ inl old | inr new ↦ inr (subst (λ xs. Contains xs b) (sym all_taken) new) ])),
      );
    };
    free = can.free;
    timed = timed;
  }

  pub leaves : LeavesGroups l second
  leaves = leaves_groups v im o l t of inodes a has_written.g room [] time first second resized

  said : (last : FinMap nat_cmp Fate) → TakesIn v second last room → TakenGroupsSay → AreWhole v.size last → IsSaidOver im o l room [] second last
  said last taken says whole = record {
    whole = subst (λ n. AreWhole n last) (sym of.size) whole;
    frees = λ b gone. absurd (none_in b gone);
    states = λ k listed any. elim any [
      | inl some ↦ says v second last im o l t room of view leaves taken.takes k listed some
      | inr none ↦ absurd (no_group k none)
    ];
    rest = λ b kept away. taken.rest.others b (λ k has some head.
        let f = (groups_are_listed v im o l t k of).0 has in
        away f.0 f.1 (inl (some_listed f.0 room (subst (λ x. HasSome x room) f.2 some))) (header_listed f.0 b (subst (λ x. group.IsHeaderOf x b) f.2 head)));
  }

  pub write_makes : (last : FinMap nat_cmp Fate) → TakesIn v second last room → TakenGroupsSay → AreWhole v.size last → MakesFile im o l last a (overwritten from new (content_of (holding im o a))) time room []
  write_makes last taken says whole =
      subst (λ content. MakesFile im o l last a content time room []) has_written.written.content
      (makes_file v im o l t of inodes a has_written.g room [] time first second resized last (said last taken says whole))

  -- and what is written lies in groups
  pub write_inside : (last : FinMap nat_cmp Fate) → TakesIn v second last room → TakenGroupsSay → AreWhole v.size last → (change : Change) → IsFinished last change → AreInside v change
  write_inside last taken says whole change finished =
      stay_inside v last change finished whole (lies_inside v im o l t of inodes a has_written.g room [] time first second resized last (said last taken says whole) view)
