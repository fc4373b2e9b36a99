-- A call that makes a name writes few blocks.
use Rattle.std.proofs.Common.{◌≡◌, ◌+◌, ◌^◌, ◌<◌, ◌≤◌, ◌⊎◌, ℕ, inl, inr, true, List, ◌∷◌, ◌++◌, length, None, sym, subst, ◌∙◌, arith}
use Rattle.std.proofs.Math.ListN.{length-append}
use Rattle.std.proofs.lemmas.Bool.{cases_eq}
use Rattle.crc_words.specs.Remainder.{crc32_of}
use Rattle.file_tree.specs.Tree.{Tree}
use Rattle.file_tree.specs.declared.call.Call.{Call}
use Rattle.call_locks.specs.Wants.{wanted}
use Rattle.drafts.specs.declared.change.Change.{Change}
use Rattle.gfs2_layout.specs.Holding.{Holding}
use Rattle.gfs2_layout.specs.Inode.{is_directory_in, records_of}
use Rattle.gfs2_layout.specs.Records.{child_named}
use Rattle.glock_names.specs.Views.{Seen}
use Rattle.hash_dirs.specs.Shown.{IsSound, index_for}
use Rattle.resource_groups.specs.Shown.{said}
use Rattle.image_model.specs.Image.{Image}
use Rattle.image_model.specs.Owners.{Owners, holding}
use Rattle.image_model.specs.Stands.{Layout}
use Rattle.image_model.proofs.Held.{none_some}
use Rattle.image_model.proofs.Members.{IsIn, in_left, in_right}
use Rattle.image_model.proofs.Rising.{Rising, rising}
use Rattle.image_changes.specs.Instances.{IsAt}
use Rattle.file_calls.specs.Walks.{LacksName}
use Rattle.file_calls.specs.walk.Place.{Place}
use Rattle.file_calls.proofs.Images.{says_none, shown_inode, sound_directory}
use Rattle.file_calls.specs.FoundBlocks.{group_holds}
use Rattle.file_calls.proofs.FoundInImage.{are_shown, said_free}
use Rattle.file_calls.specs.Shown.{IsShown}
use Rattle.file_calls.specs.Drafting.{GrowsInto, IsPlaceFor, entry_for}
use Rattle.file_calls.specs.Need.{name_need}
use Rattle.file_calls.proofs.SeenPaths.{leads_at}
use Rattle.file_calls.specs.Making.{IsMadeBy, directory_path, makes_directory, name_in}
use Rattle.small_changes.specs.Counting.{IsOfProfile}
use Rattle.small_changes.proofs.Counting.{headers, in_headers, in_or_not}
use Rattle.small_changes.proofs.Removing.{headers_of}
use Rattle.small_calls.proofs.Leaves.{IsLeafFor, one_leaf}
use Rattle.small_calls.proofs.Most.{IsPut, no_sort, one_sort, puts_most}
use Rattle.small_calls.proofs.Rooms.{distinct}
use Rattle.small_calls.proofs.Named.{list_many, named_at, named_list, takes_few}

module _ (v : Seen) (call : Call) (node time : ℕ) (change : Change) (im : Image) (o : Owners) (l : Layout) (t : Tree) (of : IsOfProfile v im o l t) (hash : crc32_of (name_in call) < 2 ^ 32)
    (made : IsMadeBy v call node time change) where
  abbrev p : Place
  p = made.place

  abbrev name : List ℕ
  name = name_in call

  abbrev dir : Holding
  dir = holding im o p.inode

  at : IsAt im o l (directory_path call) p.inode
  at = leads_at v im o l t of.is (wanted call) (directory_path call) p.inode made.at.leads

  lacks : LacksName v p.inode name
  lacks = subst (λ a. LacksName v a name) (sym made.directory) made.needs.gets.lacks

  shown : IsShown v p.inode dir
  shown = shown_inode v im o l t of.is (directory_path call) p.inode at

  here : is_directory_in dir ≡ true
  here = lacks.directory dir shown.inode

  sound : IsSound dir
  sound = sound_directory v im o l t of.is (directory_path call) p.inode at here

  absent : child_named (records_of dir) name ≡ None
  absent = says_none v im o l t of.is (directory_path call) p.inode name at here (lacks.absent dir shown)

  as_many : length made.room.rest.items ≡ name_need dir name
  as_many =
      let more : made.needs.more ≡ name_need dir name = made.needs.takes.sound dir (subst (λ a. IsShown v a dir) made.directory shown) sound here in
      let many = (made.takes.first im.at (are_shown v im o l t of.is)).room.many in
      let all = made.needs.all in
      omega (arith, many, all, more)

  placed : IsPlaceFor im o l (directory_path call) name p made.room.new made.room.rest.items
  placed = record {
    at = at;
    directory = here;
    dinode = made.at.dinode dir shown.inode;
    absent = absent;
    free = λ b there. said_free v im o l t of.is (group_holds (said im.at) v.groups made.takes.own made.need) b ((made.takes.first im.at (are_shown v im o l t of.is)).room.each b there);
    once = distinct (made.room.new.block ∷ made.room.rest.items) (rising (made.room.new.block ∷ made.room.rest.items) (made.takes.first im.at (are_shown v im o l t of.is)).room.rise);
    as_many = as_many;
  }

  abbrev its : Holding
  its = (made.added.adds im o l t (directory_path call) of.is placed).0

  into : GrowsInto v made.added.fates name (entry_for (makes_directory call) made.added.number made.room.new.block) time made.added.taken dir its
  into = (made.added.adds im o l t (directory_path call) of.is placed).2

  abbrev list : List ℕ
  list = made.room.new.block ∷ (named_list dir name sound here hash into.named made.added.taken ++ headers v.groups)

  sorted : (b : ℕ) → IsPut made.added.fates b → (IsIn b list ⊎ ⊥) ⊎ IsLeafFor dir (index_for dir name) (length name) b
  sorted b (lock, plain, bytes, put) = elim (in_or_not (headers v.groups) b) [
    | inl head ↦ inl (inl (inr (in_right b (named_list dir name sound here hash into.named made.added.taken) (headers v.groups) head)))
    | inr off ↦ elim (cases_eq b made.room.new.block) [
      | inl new ↦ inl (inl (inl new))
      | inr other ↦ elim (into.changes b other (λ k has head. off (in_headers v.groups k b has head))) [
        | inl still ↦ absurd (none_some (sym still ∙ put))
        | inr done ↦ elim (named_at dir name sound here hash into.named made.added.taken b done) [
          | inl mine ↦ inl (inl (inr (in_left b (named_list dir name sound here hash into.named made.added.taken) (headers v.groups) mine)))
          | inr leaf ↦ inr leaf
        ]
      ]
    ]
  ]

  few_numbers : (xs : List ℕ) → Rising xs → ((b : ℕ) → IsIn b xs → IsPut made.added.fates b) → length xs ≤ 194 + length (headers v.groups)
  few_numbers xs rise all =
      let most = one_sort (λ _. ⊥) (IsLeafFor dir (index_for dir name) (length name)) xs 0 (one_leaf dir (index_for dir name) (length name)) (λ ys each. no_sort xs ys rise each) list (λ b there. sorted b (all b there)) in
      let mine = list_many dir name sound here hash into.named made.added.taken in
      let both = length-append (named_list dir name sound here hash into.named made.added.taken) (headers v.groups) in
      let taken : length made.added.taken ≤ 105 = (let need = into.few in let few = takes_few dir name sound here hash in omega (arith, need, few)) in
      omega (arith, most, mine, both, taken)

  pub few : length change.blocks.items ≤ 322
  few =
      let most = puts_most made.added.fates change (194 + length (headers v.groups)) made.added.finished few_numbers in
      let many = headers_of v im o l t of in
      omega (arith, most, many, of.few)
