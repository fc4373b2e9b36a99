-- In an image that the view may be of: the draft of a move moves the name.
use Rattle.std.proofs.Common.{◌≡◌, ◌≢◌, ◌⊎◌, inl, inr, ℕ, ◌==◌, Bool, true, false, true≢false, List, [], ◌∷◌, ◌++◌, Option, None, Some, refl, sym, ap, ◌∙◌, subst, arith}
use Rattle.std.proofs.lemmas.Bool.{cases_Bool}
use Rattle.std.proofs.lemmas.List.Elements.{Contains-append_cases, Contains-append_left}
use Rattle.std.proofs.lemmas.List.Sorted.{IsPermutation-append_comm, IsPermutation-append_left, IsPermutation-append_right, IsPermutation-sym, IsPermutation-trans}
use Rattle.std.proofs.lemmas.Slice.Eq.{bytes_eq-Decides}
use Rattle.std.specs.Prelude.{◌&&◌, not, if◌then◌else◌, Contains, IsSome, codes, is_some, unwrap_or}
use Rattle.std.specs.Option.{option_map as mapped}
use Rattle.std.specs.Ordering.{nat_cmp}
use Rattle.std.specs.FinMap.{FinMap, get}
use Rattle.std.specs.Str.{bytes_eq}
use Rattle.file_tree.specs.Tree.{Tree}
use Rattle.drafts.specs.Fates.{AreWhole, block_with}
use Rattle.drafts.specs.declared.change.Change.{Change}
use Rattle.drafts.specs.declared.fate.Fate.{Fate}
use Rattle.drafts.specs.declared.fate.Fate.TheVariants.{Put}
use Rattle.gfs2_layout.specs.Exchanges.{IsCounted, IsExchanged}
use Rattle.gfs2_layout.specs.Holding.{Holding, Itself, Part, bytes_at, cell_bytes, part_at}
use Rattle.gfs2_layout.specs.Inode.{Head, dinode_in, records_of}
use Rattle.gfs2_layout.specs.Records.{Record, is_dots, record_named}
use Rattle.gfs2_layout.specs.Structures.{is_directory}
use Rattle.gfs2_layout.specs.declared.dinode.Dinode.{Dinode}
use Rattle.gfs2_layout.specs.declared.rindex.Rindex.{Rindex}
use Rattle.glock_names.specs.Views.{Seen, IsView, group_of_entry}
use Rattle.glock_names.specs.declared.steps.Entry.{Entry}
use Rattle.dinode_tree.specs.Reading.{inode_lock}
use Rattle.linear_dirs.specs.Exchanges.{HasExchanged}
use Rattle.linear_dirs.specs.Shown.{entry_of, record_for}
use Rattle.hash_dirs.proofs.Named.{find_some, found_one}
use Rattle.hash_steps.proofs.Joins.{joined as both_steps}
use Rattle.directories.specs.Shown.{IsShown, Says}
use Rattle.directories.proofs.Counted.{equal}
use Rattle.new_inodes.specs.Touched.{IsTouched, with_times}
use Rattle.name_redirects.specs.Leading.{record_led_to}
use Rattle.resource_groups.specs.Freeing as freeing
use Rattle.resource_groups.specs.Putting.{HasDataBlock}
use Rattle.resource_groups.specs.Shown.{IsHeaderOf}
use Rattle.image_model.specs.Flat.{Path}
use Rattle.image_model.specs.Groups.{IsListed}
use Rattle.image_model.specs.Groups as owned
use Rattle.image_model.specs.Image.{Image}
use Rattle.image_model.specs.Owners.{Named, Owners, cell_in, cell_of, holding, parent_of as parent_in, part_in}
use Rattle.image_model.specs.Stands.{IsRecordOf, Layout, heads_of, kind_of}
use Rattle.image_model.proofs.Held.{none_some, some_same}
use Rattle.image_model.proofs.Members.{contained, is_in}
use Rattle.image_changes.specs.Does.{IsOf}
use Rattle.image_changes.specs.Drafted.{with_draft}
use Rattle.image_changes.specs.Flats.{in_directory}
use Rattle.image_changes.specs.Instances.{is_directory_at}
use Rattle.image_changes.proofs.Laid.{child_rows}
use Rattle.draft_changes.specs.Resizing.{HasExchangedBlocks, HasSomeOf, HoldsThere}
use Rattle.draft_changes.proofs.Views.{groups_are_listed, shows_inodes}
use Rattle.directory_changes.specs.Growing.{IsPutOrLeft}
use Rattle.directory_changes.specs.Moving.{AreRecordsMoved, IsInodeMoved, IsTargetOf, MovesName}
use Rattle.directory_changes.specs.Moving as moved
use Rattle.directory_changes.proofs.Blocks.{child_at}
use Rattle.name_drafts.proofs.Images.{is_inode, says_records, shown_inode}
use Rattle.name_moves.specs.Becoming.{LosesAll, LosesName, losses, of_none, of_one}
use Rattle.name_moves.specs.Moving.{AreApart, Becomes, CanBeMoved, IsMoveIn, IsMoving, IsPlaceOfMove, Move, StandsThere, an_inode, blocks_or_none, entry_for, freed_by, is_reparented, is_within, lost_there, nothing, parent_of, then_of}
use Rattle.name_moves.specs.Steps.{IsNamedIn}
use Rattle.name_moves.proofs.Becomes as made
use Rattle.name_moves.proofs.Done.{AreDone, frees, insides, journaled, last, locks, puts_target}
use Rattle.name_moves.proofs.Imaged.{apart_there, moved_directory, source_directory, two_directories}
use Rattle.name_moves.proofs.Joined.{inode_puts, source_puts}
use Rattle.name_moves.proofs.Loses.{only_one}
use Rattle.name_moves.proofs.States.{states}

-- ---- records that went and came

-- two that went, one after another
two_gone : (h m g : Holding) (a b : Record) → HasExchanged h m (a ∷ []) [] → HasExchanged m g (b ∷ []) [] → HasExchanged h g (b ∷ a ∷ []) []
two_gone h m g a b one two = record {
  sound = λ sound. two.sound (one.sound sound);
  head = two.head ∙ one.head;
  records = record {
    rest = two.records.rest;
    before = IsPermutation-trans (records_of h) ((a ∷ []) ++ one.records.rest) ((b ∷ a ∷ []) ++ two.records.rest) one.records.before
        (IsPermutation-trans ((a ∷ []) ++ one.records.rest) ((a ∷ []) ++ ((b ∷ []) ++ two.records.rest)) ((b ∷ a ∷ []) ++ two.records.rest)
        (IsPermutation-append_right (a ∷ []) one.records.rest ((b ∷ []) ++ two.records.rest)
        (IsPermutation-trans one.records.rest (records_of m) ((b ∷ []) ++ two.records.rest) (IsPermutation-sym (records_of m) one.records.rest one.records.after) two.records.before))
        (IsPermutation-append_left two.records.rest (a ∷ b ∷ []) (b ∷ a ∷ []) (IsPermutation-append_comm (a ∷ []) (b ∷ []))));
    after = two.records.after;
  };
  counted = record {
    entries = omega (arith, one.counted.entries, two.counted.entries);
    links = omega (arith, one.counted.links, two.counted.links);
  };
}

-- and then the time
timed : (h k g : Holding) (time : ℕ) (gone come : List Record) → part_at k k.own ≡ Some Itself → HasExchanged h k gone come → IsTouched k g time → HasExchanged h g gone come
timed h k g time gone come own is touched = record {
  sound = λ so. touched.sound own (is.sound so);
  head = touched.head ∙ is.head;
  records = subst (λ records. IsExchanged (records_of h) records gone come) (sym (touched.records own)) is.records;
  counted = subst (λ d. IsCounted (dinode_in h) d gone come) (sym touched.dinode) (counts (dinode_in h) (dinode_in k) is.counted);
}
  where
    counts : (d d' : Dinode) → IsCounted d d' gone come → IsCounted d (with_times d' time) gone come
    counts d d' so = record { entries = so.entries; links = so.links }

named_so : (name : List ℕ) (records : List Record) (r : Record) → record_named records name ≡ Some r → r.name ≡ name
named_so name records r is = sym ((bytes_eq-Decides name r.name).0 (find_some (λ (x : Record). bytes_eq name x.name) records r is).1)

gone_named : (h g : Holding) (name : List ℕ) (lost : LosesName h g name) → lost.gone.name ≡ name
gone_named h g name lost = named_so name (records_of h) lost.gone lost.named

none_in : (b : ℕ) → ¬ (Contains [] b)
none_in b c = omega (arith, c.1)

-- a block of an inode has the bytes that the image has there
own_bytes : (im : Image) (o : Owners) (a b : ℕ) → IsSome ((holding im o a).cell b) → bytes_at (holding im o a) b ≡ im.at b
unfolding cell_in
own_bytes im o a b some = by (part_in a b (o b)) some
  where
    by : (part : Option Part) → IsSome (cell_of part (im.at b)) → cell_bytes (cell_of part (im.at b)) ≡ im.at b
    by None none = absurd (no none)
      where
        no : false ≡ true → ⊥
        no e = cc
    by (Some part) some = refl

-- what becomes of the records of the directory that gets the name, and what stood there
pub record Stood (im : Image) (o : Owners) (l : Layout) (path' : Path) (m : Move) (g : Holding) (new : Record) : Type 0 where
  pub removed : List ℕ
  pub target : List Record
  pub is : IsTargetOf im o l path' m.to.inode m.new_name removed target (freed_by m)
  pub two : is_within m ≡ false → HasExchanged (holding im o m.to.inode) g target (new ∷ [])
  pub one : is_within m ≡ true → (old : Record) × (old.name ≡ m.name) × HasExchanged (holding im o m.to.inode) g (old ∷ target) (new ∷ [])

none_lost : (h k g : Holding) (come : List Record) → LosesAll [] h k → HasExchanged k g [] come → HasExchanged h g [] come
none_lost h k g come (of_none _) is = is

module _ (im : Image) (o : Owners) (l : Layout) (path' : Path) (m : Move) (k g : Holding) (new : Record) (lost : LosesAll (lost_there m) (holding im o m.to.inode) k) (gets : HasExchanged k g [] (new ∷ [])) where
  abbrev h : Holding
  h = holding im o m.to.inode

  lost_as : (r : Option (List ℕ)) (w : Bool) → m.replaced ≡ r → is_within m ≡ w → LosesAll (losses (is_some r) w m.name m.new_name) h k
  lost_as r w e f = subst (λ x. LosesAll (losses (is_some r) x m.name m.new_name) h k) f (subst (λ x. LosesAll (losses (is_some x) (is_within m) m.name m.new_name) h k) e lost)

  -- nothing stood there
  within_free : LosesAll (m.name ∷ []) h k → (old : Record) × (old.name ≡ m.name) × HasExchanged h g (old ∷ []) (new ∷ [])
  within_free went =
      let one = only_one m.name h k went in
      (one.gone, gone_named h k m.name one, both_steps h k g (one.gone ∷ []) (new ∷ []) one.exchanged gets)

  -- something did
  within_taken : (j : Holding) (first : LosesName h j m.new_name) → LosesAll (m.name ∷ []) j k → (old : Record) × (old.name ≡ m.name) × HasExchanged h g (old ∷ first.gone ∷ []) (new ∷ [])
  within_taken j first went =
      let one = only_one m.name j k went in
      (one.gone, gone_named j k m.name one, both_steps h k g (one.gone ∷ first.gone ∷ []) (new ∷ []) (two_gone h j k first.gone one.gone first.exchanged one.exchanged) gets)

  first_of : (names : List (List ℕ)) → LosesAll (m.new_name ∷ names) h k → (j : Holding) × LosesName h j m.new_name × LosesAll names j k
  first_of names (of_one _ _ _ j _ first later) = (j, first, later)

  pub stood_there : StandsThere im o l path' m → Stood im o l path' m g new
  stood_there (nothing is child) = record {
    removed = [];
    target = [];
    is = subst (λ r. IsTargetOf im o l path' m.to.inode m.new_name [] [] (blocks_or_none r)) (sym is) (moved.IsTargetOf.nothing child);
    two = λ between. none_lost h k g (new ∷ []) (lost_as None false is between) gets;
    one = λ within. within_free (lost_as None true is within);
  }
  stood_there (an_inode c blocks is at childless own) =
      let parts = first_of (if_within (is_within m)) (lost_as (Some blocks) (is_within m) is refl) in
      record {
        removed = c ∷ [];
        target = parts.1.gone ∷ [];
        is = subst (λ r. IsTargetOf im o l path' m.to.inode m.new_name (c ∷ []) (parts.1.gone ∷ []) (blocks_or_none r)) (sym is)
            (moved.IsTargetOf.an_inode c parts.1.gone blocks at childless (gone_named h parts.0 m.new_name parts.1) own);
        two = λ between. both_steps h k g (parts.1.gone ∷ []) (new ∷ []) (none_after parts.0 parts.1 (subst (λ w. LosesAll (if_within w) parts.0 k) between parts.2)) gets;
        one = λ within. within_taken parts.0 parts.1 (subst (λ w. LosesAll (if_within w) parts.0 k) within parts.2);
      }
    where
      if_within : Bool → List (List ℕ)
      if_within w = if w then m.name ∷ [] else []

      none_after : (j : Holding) (first : LosesName h j m.new_name) → LosesAll [] j k → HasExchanged h k (first.gone ∷ []) []
      none_after j first (of_none _) = first.exchanged

-- ---- the move

kind_by : (x y : Head) → x.is_dir ≡ true → y.is_dir ≡ true → kind_of x ≡ kind_of y
kind_by x y a b = ap (λ d. if d then 4 else 8) (a ∙ sym b)

module _ (v : Seen) (m : Move) (old : Entry) (room : List ℕ) (time : ℕ) (taken : List ℕ) (change : Change) (is : AreDone v m old room time taken change) (shows : IsView v)
    (inside : (b : ℕ) → IsPlaceOfMove m b → HasDataBlock v b) (rooms : (b : ℕ) → Contains taken b → HasDataBlock v b) (away : (b : ℕ) → Contains room b → ¬ (Contains (freed_by m) b))
    (old_is : (h : Holding) → IsShown v m.from h → Says h m.name (Some old)) (can : CanBeMoved v m)
    (im : Image) (o : Owners) (l : Layout) (t : Tree) (path path' : Path) (of : IsOf v im o l t) (place : IsMoveIn im o l path path' m room) where
  abbrev source : Holding
  source = holding im o m.from

  abbrev target : Holding
  target = holding im o m.to.inode

  abbrev inode : Holding
  inode = holding im o m.moved.inode

  pub apart : AreApart v m room source target inode
  apart = apart_there v im o l t of shows m room path path' can place

  abbrev end : FinMap nat_cmp Fate
  end = last v m old room time taken change is shows inside rooms

  abbrev named : IsNamedIn v m.to.inode (lost_there m) m.new_name (entry_for m old) time taken is.joined.target target
  named = made.named v m old room time taken change is shows inside rooms away source target inode apart

  abbrev becomes : Becomes v m end old taken time source target inode
  becomes = made.becomes v m old room time taken change is shows inside rooms away source target inode apart

  abbrev g : Holding
  g = named.after

  abbrev new : Record
  new = record_for m.new_name (entry_for m old)

  -- ---- the old record, in the image

  row : (is_dots m.name ≡ false) × (o m.moved.inode ≡ Named m.from m.name)
  row =
      let rows = child_rows im o l of.stands.laid m.from m.moved.inode m.name (child_at im o l path m.from m.name m.moved.inode place.source place.inode) in
      (rows.1, rows.2)

  record_of_entry : (x : Option Record) (e : Entry) → Some e ≡ mapped entry_of x → (r : Record) × (x ≡ Some r) × (entry_of r ≡ e)
  record_of_entry None e is_so = absurd (none_some (sym is_so))
  record_of_entry (Some r) e is_so = (r, refl, sym (some_same is_so))

  old_record : (r : Record) × (record_named (records_of source) m.name ≡ Some r) × (entry_of r ≡ old)
  old_record = record_of_entry (record_named (records_of source) m.name) old
      (says_records v im o l t of path m.from m.name (Some old) place.source (source_directory v im o l t of shows m room path path' can place) (old_is source (shown_inode v im o l t of path m.from place.source)))

  old_address : old.addr ≡ m.moved.inode
  old_address =
      let has = can.named source (shown_inode v im o l t of path m.from place.source) in
      let says = says_records v im o l t of path m.from m.name (Some has.entry) place.source (source_directory v im o l t of shows m room path path' can place) has.says in
      let same : Some has.entry ≡ Some old = says ∙ ap (mapped entry_of) old_record.1 ∙ ap Some old_record.2 in
      sym (ap (λ (e : Entry). e.addr) (some_same same)) ∙ has.address

  old_kind : old.kind ≡ kind_of (heads_of im o m.moved.inode)
  old_kind =
      let r = old_record.0 in
      let it = find_some (λ (x : Record). bytes_eq m.name x.name) (records_of source) r old_record.1 in
      let called : r.name ≡ m.name = named_so m.name (records_of source) r old_record.1 in
      let down = (of.stands.laid.directories m.from (is_inode v im o l t of path m.from place.source) (source_directory v im o l t of shows m room path path' can place)).down r (contained r (records_of source) it.0)
      (ap is_dots called ∙ row.0) in
      let address : r.address ≡ m.moved.inode = ap (λ (e : Entry). e.addr) old_record.2 ∙ old_address in
      sym (ap (λ (e : Entry). e.kind) old_record.2) ∙ down.true_of.kind ∙ ap (λ a. kind_of (heads_of im o a)) address

  new_true : IsRecordOf (heads_of im o) m.moved.inode new
  new_true = record { address = refl; number = ap (λ (d : Dinode). d.num.number) place.inode_dinode; kind = old_kind }

  -- ---- the directory that gets it

  pub stood : Stood im o l path' m g new
  stood = stood_there im o l path' m named.gets.without g new named.gets.lost named.exchanged place.stood

  in_room : (b : ℕ) → Contains taken b → Contains room b
  in_room b there = subst (λ xs. Contains xs b) (sym is.joined.named.front) (Contains-append_left taken is.joined.named.left b there)

  its : (b : ℕ) → IsSome (g.cell b) → IsSome (target.cell b) ⊎ Contains taken b
  its b some = (named.blocks b).0 some

  target_end : (b : ℕ) → IsSome (g.cell b) → get end b ≡ get is.joined.target b
  target_end b some = made.target_end v m old room time taken change is shows inside rooms away source target inode apart b (its b some)

  left_or_put : (b : ℕ) → IsSome (g.cell b) → (get end b ≡ None) ⊎ ((bytes : List ℕ) × (get end b ≡ Some (Put (inode_lock m.to.inode) false bytes)))
  left_or_put b some = elim (is.joined.named.puts b) [
    | inl none ↦ inl (target_end b some ∙ none)
    | inr put ↦ inr (put.1.0, target_end b some ∙ put.1.1)
  ]

  unseen : (b : ℕ) → IsSome (g.cell b) → get end b ≡ None → IsSome (target.cell b) × (bytes_at g b ≡ bytes_at target b)
  unseen b some none = named.unseen b (sym (target_end b some) ∙ none) some

  bytes_are : (b : ℕ) → IsSome (g.cell b) → bytes_at g b ≡ (with_draft im end).at b
  bytes_are b some = elim (left_or_put b some) [
    | inl none ↦ (unseen b some none).1 ∙ own_bytes im o m.to.inode b (unseen b some none).0 ∙ sym (ap (λ f. unwrap_or (block_with f None) (im.at b)) none)
    | inr put ↦ becomes.seen b put.0 some (ap (λ f. block_with f (v.block_at b)) put.1) ∙ sym (ap (λ f. unwrap_or (block_with f None) (im.at b)) put.1)
  ]

  there : HoldsThere (with_draft im end) m.to.inode g
  there = record {
    size = named.size;
    count = named.count;
    own = named.own;
    itself = λ b. ((λ part. (named.itself b).0 part ∙ named.own), (λ same. (named.itself b).1 (same ∙ sym named.own)));
    bytes = bytes_are;
  }

  blocks : HasExchangedBlocks target g taken []
  blocks = record {
    were = λ b gone. absurd (none_in b gone);
    has = λ b. ((λ some. (its b some, none_in b)), (λ any. (named.blocks b).1 any.0));
  }

  puts_to : (b : ℕ) → IsSome (g.cell b) → IsPutOrLeft end target m.to.inode b
  puts_to b some = elim (left_or_put b some) [ inl none ↦ inr ((unseen b some none).0, none) | inr put ↦ inl put ]

  -- ---- the directory that loses it

  source_end : is_within m ≡ false → (b : ℕ) → IsSome (source.cell b) → get end b ≡ get is.joined.source b
  source_end = made.source_end v m old room time taken change is shows inside rooms away source target inode apart

  puts_from : is_within m ≡ false → (b : ℕ) → IsSome (source.cell b) → IsPutOrLeft end source m.from b
  puts_from between b some = elim (source_puts v m time is.joined.source is.joined.given b) [
    | inl none ↦ inr (some, source_end between b some ∙ none)
    | inr put ↦ inl (put.1.0, source_end between b some ∙ put.1.1)
  ]

  record_moved : (r : Record) × (r.name ≡ m.name) × AreRecordsMoved im o end m.from m.to.inode g r new stood.target
  record_moved = elim (cases_Bool (is_within m)) [
    | inl within ↦ let one = stood.one within in (one.0, one.1, moved.AreRecordsMoved.in_one (equal m.from m.to.inode within) one.2)
    | inr between ↦
        let gives = becomes.gives between in
        let without = gives.without in
        let own : part_at without without.own ≡ Some Itself = gives.lost.kept.parts without.own ∙ ap (part_at source) gives.lost.kept.own ∙ (apart.source_sound between).placed.own in
        let went = timed source without (then_of v end source) time (gives.lost.gone ∷ []) [] own gives.lost.exchanged gives.touched in (
          gives.lost.gone,
          gone_named source without m.name gives.lost,
          moved.AreRecordsMoved.in_two (two_directories v im o l t of shows m room path path' can place between)
              (subst (λ x. HasExchanged source x (gives.lost.gone ∷ []) []) (shows_inodes v end im o m.from of.agrees) went) (stood.two between),
        )
  ]

  -- ---- the inode

  inode_end : (b : ℕ) → IsSome (inode.cell b) → get end b ≡ get is.joined.inode b
  inode_end = made.inode_end v m old room time taken change is shows inside rooms away source target inode apart

  puts_inode : (b : ℕ) → IsSome (inode.cell b) → IsPutOrLeft end inode m.moved.inode b
  puts_inode b some = elim (inode_puts v m time is.joined.inode is.joined.led b) [
    | inl none ↦ inr (some, inode_end b some ∙ none)
    | inr put ↦ inl (put.1.0, inode_end b some ∙ put.1.1)
  ]

  keeps_parent : is_reparented m ≡ false → is_directory_at im o m.moved.inode ≡ true → m.from ≡ m.to.inode
  keeps_parent stays dir = equal m.from m.to.inode (by (is_directory m.moved.dinode) (is_within m) stays (ap is_directory place.inode_dinode ∙ dir))
    where
      by : (d w : Bool) → (d && not w) ≡ false → d ≡ true → w ≡ true
      by true true e f = refl
      by true false e f = absurd (true≢false e)
      by false w e f = absurd (true≢false (sym f))

  dots_kind : (r : Record) → is_reparented m ≡ true → record_named (records_of inode) (codes "..") ≡ Some r → r.kind ≡ kind_of (heads_of im o m.to.inode)
  dots_kind r moves was =
      let dir = moved_directory v im o l t of shows m room path path' can place moves in
      let so = of.stands.laid.directories m.moved.inode (is_inode v im o l t of (in_directory path m.name) m.moved.inode place.inode) dir in
      let entry = so.dots.entry in
      let one = found_one (λ (x : Record). bytes_eq (codes "..") x.name) (records_of inode) entry (so.once (codes "..")) (is_in entry (records_of inode) so.dots.there) ((bytes_eq-Decides (codes "..") entry.name).1 (sym so.dots.named)) in
      let same : r ≡ entry = some_same (sym was ∙ one) in
      let parent : parent_in m.moved.inode (o m.moved.inode) ≡ m.from = ap (parent_in m.moved.inode) row.1 in
      ap (λ (x : Record). x.kind) same ∙ so.dots.true_of.kind ∙ ap (λ a. kind_of (heads_of im o a)) parent
      ∙ kind_by (heads_of im o m.from) (heads_of im o m.to.inode) (source_directory v im o l t of shows m room path path' can place) place.directory

  itself : IsInodeMoved im o end m.from m.to.inode m.moved.inode
  itself = elim (cases_Bool (is_reparented m)) [
    | inr stays ↦ moved.IsInodeMoved.left_alone (keeps_parent stays) (becomes.still stays)
    | inl moves ↦
        let got = becomes.parent moves in
        let own : part_at got.led got.led.own ≡ Some Itself = got.kept.parts got.led.own ∙ ap (part_at inode) got.kept.own ∙ (apart.inode_sound moves).placed.own in
        moved.IsInodeMoved.gets_parent got.old (record_led_to (parent_of m) got.old) (moved_directory v im o l t of shows m room path path' can place moves)
        (subst (λ x. HasExchanged inode x (got.old ∷ []) (record_led_to (parent_of m) got.old ∷ [])) (shows_inodes v end im o m.moved.inode of.agrees)
        (timed inode got.led (then_of v end inode) time (got.old ∷ []) (record_led_to (parent_of m) got.old ∷ []) own got.exchanged got.touched))
        (named_so (codes "..") (records_of inode) got.old got.was) (named_so (codes "..") (records_of inode) got.old got.was)
        (record { address = refl; number = ap (λ (d : Dinode). d.num.number) place.target_dinode; kind = dots_kind got.old moves got.was })
        puts_inode
  ]

  -- ---- nothing else

  header_so : (k : Rindex) (b : ℕ) → IsHeaderOf (group_of_entry k) b → owned.IsHeaderOf k b
  header_so k b own = record { low = own.low; high = own.high }

  some_so : (k : Rindex) → freeing.HasSome (group_of_entry k) (taken ++ freed_by m) → HasSomeOf k taken (freed_by m)
  some_so k (b, there, own) = elim (Contains-append_cases taken (freed_by m) b there) [
    | inl early ↦ inl (b, early, record { low = own.low; high = own.high })
    | inr later ↦ inr (b, later, record { low = own.low; high = own.high })
  ]

  nothing_else : (b : ℕ) → ¬ (IsSome (source.cell b)) → ¬ (IsSome (g.cell b)) → ¬ (IsSome (inode.cell b)) → ¬ (Contains (freed_by m) b)
      → ((k : Rindex) → IsListed l.groups k → HasSomeOf k taken (freed_by m) → ¬ (owned.IsHeaderOf k b)) → get end b ≡ None
  nothing_else b not_hers not_its not_moved left far =
      is.said.others b left (λ k has some own.
      let f = (groups_are_listed v im o l t k of).0 has in
      far f.0 f.1 (some_so f.0 (subst (λ x. freeing.HasSome x (taken ++ freed_by m)) f.2 some)) (header_so f.0 b (subst (λ x. IsHeaderOf x b) f.2 own)))
      ∙ made.none_else v m old room time taken change is shows inside rooms away source target inode apart b (λ any. not_its ((named.blocks b).1 any)) (λ between. not_hers) not_moved

  pub moves_name : MovesName im o l end m.from m.name path' m.to.inode m.new_name m.moved.inode g taken stood.removed (freed_by m)
  moves_name = record {
    whole = subst (λ size. AreWhole size end) (sym of.size) is.said.whole;
    target = stood.target;
    stood = stood.is;
    frees = is.said.gone;
    free = λ b c. place.free b (in_room b c);
    states = states v im o l t of shows taken (freed_by m) is.fates change is.said;
    is_name = can.is_name;
    directory = place.directory;
    old = record_moved.0;
    new = new;
    old_named = record_moved.1;
    new_named = refl;
    true_of = new_true;
    there = there;
    blocks = blocks;
    records = record_moved.2;
    puts_from = λ apart_from. puts_from (differs m.from m.to.inode apart_from);
    puts_to = puts_to;
    itself = itself;
    others = nothing_else;
  }
    where
      differs : (a b : ℕ) → a ≢ b → (a == b) ≡ false
      differs a b other = elim (cases_Bool (a == b)) [ inl same ↦ absurd (other (equal a b same)) | inr unlike ↦ unlike ]

  pub moves : (done : Becomes v m end old taken time source target inode) × ((removed : List ℕ) × MovesName im o l end m.from m.name path' m.to.inode m.new_name m.moved.inode done.after taken removed (freed_by m))
  moves = (becomes, (stood.removed, moves_name))

-- ---- the change

pub moving_is : (v : Seen) (m : Move) (old : Entry) (room : List ℕ) (time : ℕ) (taken : List ℕ) (change : Change) → AreDone v m old room time taken change → IsView v → CanBeMoved v m
    → ((b : ℕ) → Contains taken b → HasDataBlock v b) → ((b : ℕ) → Contains room b → ¬ (Contains (freed_by m) b)) → ((h : Holding) → IsShown v m.from h → Says h m.name (Some old)) → IsMoving v m room time change
moving_is v m old room time taken change is shows can rooms away old_is = record {
  fates = is.said.fates;
  finished = is.said.finished;
  whole = is.said.whole;
  taken = taken;
  left = is.joined.named.left;
  front = is.joined.named.front;
  locks = locks v m old room time taken change is shows can.inside rooms;
  journaled = journaled v m old room time taken change is shows can.inside rooms;
  frees = frees v m old room time taken change is shows can.inside rooms;
  gone = λ b goes. ap (λ f. is_some (block_with f None)) (is.said.gone b goes);
  puts = puts_target v m old room time taken change is shows can.inside rooms (λ goes. (can.others m.to.inode goes).1 refl);
  inside = insides v m old room time taken change is shows can.inside rooms;
  says = is.said.says;
  old = old;
  old_is = old_is;
  becomes = λ source target inode apart. made.becomes v m old room time taken change is shows can.inside rooms away source target inode apart;
  moves = λ im o l t path path' of place. moves v m old room time taken change is shows can.inside rooms away old_is can im o l t path path' of place;
}
