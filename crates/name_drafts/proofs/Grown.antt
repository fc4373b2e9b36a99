-- The directory in the end: it has got the name, and the time.
use Rattle.std.proofs.Common.{◌≡◌, ◌≢◌, ◌⊎◌, inl, inr, Bool, true, false, ℕ, ◌≤◌, List, [], ◌∷◌, length, drop, Option, None, Some, refl, sym, ap, ◌∙◌, subst, subst₂, arith}
use Rattle.std.proofs.lemmas.Bool.{cases_Bool, cases_eq}
use Rattle.std.proofs.lemmas.List.Elements.{Contains-append_left}
use Rattle.std.specs.Prelude.{Contains, IsSome, is_some, option_map}
use Rattle.std.specs.Ordering.{nat_cmp}
use Rattle.std.specs.FinMap.{FinMap, get, empty, get-empty}
use Rattle.drafts.specs.Fates.{seen_with}
use Rattle.drafts.specs.declared.change.Change.{Change}
use Rattle.drafts.specs.declared.fate.Fate.{Fate}
use Rattle.gfs2_layout.specs.Area.{IsArea, slots_of}
use Rattle.gfs2_layout.specs.Exchanges.{IsCounted, IsExchanged}
use Rattle.gfs2_layout.specs.Holding.{Cell, Holding, bytes_at}
use Rattle.gfs2_layout.specs.Inode.{dinode_in, is_hashed_in, records_of}
use Rattle.gfs2_layout.specs.Putting.{put_slot}
use Rattle.gfs2_layout.specs.Records.{Record}
use Rattle.gfs2_layout.specs.Structures.{dinode_length, dinode_of}
use Rattle.gfs2_layout.specs.declared.dinode.Dinode.{Dinode}
use Rattle.glock_names.specs.Views.{Seen, HasBlock, HasGroup, IsView}
use Rattle.glock_names.specs.declared.steps.Entry.{Entry}
use Rattle.glock_names.specs.declared.views.Group.{Group}
use Rattle.dinode_tree.specs.Pads.{KeepsPads}
use Rattle.dinode_tree.proofs.Pads.{keeps_on, put_keeps}
use Rattle.growth_drafts.specs.Taken.{AreFreeFor}
use Rattle.linear_dirs.specs.Exchanges.{HasExchanged, uncounted}
use Rattle.linear_dirs.specs.Shown.{bytes_over, head_for, holding_over, record_for}
use Rattle.linear_dirs.proofs.Looked.{bytes_of}
use Rattle.linear_dirs.proofs.Over.{as_seen}
use Rattle.linear_dirs.proofs.Rewritten.{over_there}
use Rattle.name_inserts.specs.DirectoryShown.{IsShown}
use Rattle.new_inodes.specs.Touched.{IsTouched, with_times}
use Rattle.resource_groups.specs.Putting.{HasDataBlock}
use Rattle.resource_groups.specs.Shown.{IsDataOf, IsHeaderOf}
use Rattle.path_walks.specs.declared.walk.Place.{Place}
use Rattle.name_inserts.specs.HashInserting.{its_dinode}
use Rattle.name_inserts.specs.Inserting.{CanGetName, IsNamed, IsNamedAt, IsPutInLinear, PutsName, of_converted, of_hashed, of_linear}
use Rattle.name_inserts.specs.Need.{has_linear_room}
use Rattle.name_drafts.specs.Drafting.{GetsRecord, GrowsInto, HasLinearRoom, HasNoGroupBlock, entry_for}
use Rattle.name_drafts.specs.Steps.{IsNamePut}
use Rattle.name_drafts.specs.declared.drafting.NewBlock.{NewBlock}
use Rattle.name_drafts.proofs.Done.{AreDone, as_named, last, of_taken, third_apart}
use Rattle.name_drafts.proofs.Fates.{alike_seen}
use Rattle.name_drafts.proofs.Faults.{data_apart}

dinode_by : (h : Holding) (bytes : List ℕ) → bytes_at h h.own ≡ bytes → dinode_in h ≡ dinode_of bytes
unfolding dinode_in
dinode_by h bytes e = ap dinode_of e

pub counts_timed : (d d' : Dinode) (time : ℕ) (come : List Record) → IsCounted d d' [] come → IsCounted d (with_times d' time) [] come
counts_timed d d' time come is = record { entries = is.entries; links = is.links }

-- ---- byte by byte, of a linear one

module _ (v : Seen) (shows : IsView v) (dir : ℕ) (name : List ℕ) (e : Entry) (time : ℕ) (room taken : List ℕ) (fates : FinMap nat_cmp Fate) (is : IsNamePut v dir name e time room taken fates)
    (there : HasBlock v dir) (h : Holding) (shown : IsShown v dir h) (has : HasLinearRoom h name) where
  abbrev w : Seen
  w = seen_with v is.first

  abbrev then : Holding
  then = holding_over w h

  put : IsPutInLinear h then name e
  put = is.linear h shown has

  old_is : bytes_at h h.own ≡ there.0
  old_is = bytes_of v h dir there.0 shown.inode there.1

  then_is : bytes_at then then.own ≡ is.bytes
  then_is = as_seen w h h.own is.bytes (over_there (w.block_at h.own) (h.cell h.own) ∙ shown.inode.dinode) (ap w.block_at shown.inode.own ∙ is.there)

  large : dinode_length ≤ length there.0
  large = omega (arith, shows.whole dir there.0 there.1, shows.block_size)

  gets_old : GetsRecord there.0 is.final name e time
  gets_old = record {
    dinode = ap uncounted is.dinode ∙ ap (λ (d : Dinode). with_times d time) (ap uncounted (sym (dinode_by then is.bytes then_is)) ∙ put.dinode ∙ ap uncounted (dinode_by h there.0 old_is));
    counted = subst (λ d. IsCounted (dinode_of there.0) d [] (record_for name e ∷ [])) (sym is.dinode) (counts_timed (dinode_of there.0) (dinode_of is.bytes) time (record_for name e ∷ [])
        (subst₂ (λ d d'. IsCounted d d' [] (record_for name e ∷ [])) (dinode_by h there.0 old_is) (dinode_by then is.bytes then_is) put.counted));
    slots = ap (λ bytes. put_slot (head_for name e) name (slots_of (drop dinode_length bytes))) (sym old_is) ∙ put.slots
        ∙ ap (λ area. Some (slots_of area)) (ap (drop dinode_length) then_is ∙ sym is.behind);
    bytes = record {
      pads = keeps_on there.0 is.bytes is.final large (subst₂ KeepsPads old_is then_is put.bytes.pads) (put_keeps (with_times (dinode_of is.bytes) time) is.bytes is.final is.written is.dinode is.behind);
      filled = subst IsArea (ap (drop dinode_length) then_is ∙ sym is.behind) put.bytes.filled;
    };
  }

  pub gets_record : GetsRecord (bytes_at h dir) is.final name e time
  gets_record = subst (λ bytes. GetsRecord bytes is.final name e time) (sym old_is ∙ ap (bytes_at h) shown.inode.own) gets_old

-- ---- of each that can get it

-- something is always done to its dinode's block
own_named : (h g : Holding) (name taken : List ℕ) (b : ℕ) → b ≡ h.own → IsNamedAt h g name taken b
own_named h g name taken b own = elim (cases_Bool (is_hashed_in h)) [
  | inl hashed ↦ of_hashed hashed (its_dinode own)
  | inr plain ↦ elim (cases_Bool (has_linear_room h name)) [
    | inl fits ↦ of_linear plain fits own
    | inr full ↦ of_converted plain full (inl own)
  ]
]

-- two views that have the same of its blocks leave the same of it
pub over_alike : (x y : Seen) (g : Holding) → ((b : ℕ) → IsSome (g.cell b) → x.block_at b ≡ y.block_at b) → holding_over x g ≡ holding_over y g
over_alike x y g same = λ i. record g { cell = λ b. each b (g.cell b) refl i }
  where
    each : (b : ℕ) (c : Option Cell) → g.cell b ≡ c → option_map (bytes_over (x.block_at b)) (g.cell b) ≡ option_map (bytes_over (y.block_at b)) (g.cell b)
    each b None e = ap (option_map (bytes_over (x.block_at b))) e ∙ sym (ap (option_map (bytes_over (y.block_at b))) e)
    each b (Some c) e = ap (λ o. option_map (bytes_over o) (g.cell b)) (same b (ap is_some e))

module _ (v : Seen) (is_directory : Bool) (p : Place) (name : List ℕ) (r : NewBlock) (room : List ℕ) (time : ℕ) (change : Change) (is : AreDone v is_directory p name r room time change)
    (shows : IsView v) (has : HasGroup v r.group) (block : IsDataOf r.group r.block) (inside : HasDataBlock v p.inode) (rooms : (b : ℕ) → Contains room b → HasDataBlock v b)
    (apart : ¬ (Contains (r.block ∷ room) p.inode)) (h : Holding) (shown : IsShown v p.inode h) (can : CanGetName h name room) (free : AreFreeFor h (r.block ∷ room)) (clear : HasNoGroupBlock v h) where
  abbrev pub entry : Entry
  entry = entry_for is_directory is.number r.block

  abbrev pub end : FinMap nat_cmp Fate
  end = last v is_directory p name r room time change is shows has block inside rooms apart

  -- the directory with the name, and its blocks
  abbrev pub named_is : (g : Holding) × IsShown (seen_with v is.named.first) p.inode g × ((puts : PutsName empty is.named.first room is.named.left name entry h g) × (puts.taken ≡ is.taken))
  named_is = is.named.named h shown can

  abbrev pub named : Holding
  named = named_is.0

  abbrev pub puts : PutsName empty is.named.first room is.named.left name entry h named
  puts = named_is.2.0

  in_room : (b : ℕ) → Contains is.taken b → Contains room b
  in_room b there = subst (λ xs. Contains xs b) (sym is.named.front) (Contains-append_left is.taken is.named.left b there)

  -- each was the directory's, or was taken
  pub its_blocks : (b : ℕ) → IsSome (named.cell b) → IsSome (h.cell b) ⊎ Contains is.taken b
  its_blocks b some = elim ((puts.has.blocks b).0 some) [
    | inl before ↦ inl before
    | inr taken ↦ inr (subst (λ xs. Contains xs b) named_is.2.1 taken)
  ]

  none_there : (b : ℕ) → h.cell b ≡ None → IsSome (h.cell b) → ⊥
  none_there b none some = absurd (no (sym (ap is_some none) ∙ some))
    where
      no : false ≡ true → ⊥
      no e = cc

  pub not_new : (b : ℕ) → IsSome (named.cell b) → b ≢ r.block
  not_new b some same = elim (its_blocks b some) [
    | inl before ↦ none_there b (free.new b (0, omega arith, sym same)) before
    | inr taken ↦ free.once.0 (subst (Contains room) same (in_room b taken))
  ]

  pub not_header : (b : ℕ) → IsSome (named.cell b) → (g : Group) → HasGroup v g → ¬ (IsHeaderOf g b)
  not_header b some g there own = elim (its_blocks b some) [
    | inl before ↦ none_there b (clear g b there own) before
    | inr taken ↦ data_apart v g b b shows there (of_taken v is_directory p name r room time change is shows has block inside rooms apart b taken) own refl
  ]

  -- of each of its blocks the draft makes in the end what it did with the time
  pub stays : (b : ℕ) → IsSome (named.cell b) → get end b ≡ get is.second b
  stays b some = is.said.others b (λ g there some_of own. not_header b some g there own)
      ∙ third_apart v is_directory p name r room time change is shows has block inside rooms apart b (not_new b some)

  abbrev pub grown : Holding
  grown = holding_over (seen_with v end) named

  pub touched : IsTouched named grown time
  touched = subst (λ g. IsTouched named g time) (over_alike (seen_with v is.second) (seen_with v end) named (λ b some. alike_seen v end is.second b (sym (stays b some))))
      (is.named.touched named named_is.1.inode)

  -- what becomes of a block that is neither the new inode's nor a group's
  changes : (b : ℕ) → b ≢ r.block → ((k : Group) → HasGroup v k → ¬ (IsHeaderOf k b)) → (get end b ≡ None) ⊎ IsNamedAt h named name is.taken b
  changes b new_away far = elim (cases_eq b p.inode) [
    | inl same ↦ inr (own_named h named name is.taken b (same ∙ sym shown.inode.own))
    | inr away ↦ elim (puts.changes b) [
      | inl never ↦ inl (as_named v is_directory p name r room time change is shows has block inside rooms apart b away new_away (λ k there some. far k there) ∙ never ∙ get-empty nat_cmp b)
      | inr at ↦ inr (subst (λ xs. IsNamedAt h named name xs b) named_is.2.1 at)
    ]
  ]

  pub grows_into : GrowsInto v end name entry time is.taken h grown
  grows_into = record {
    named = named;
    gets = subst (IsNamed name entry h named) named_is.2.1 puts.named;
    few = ap length (sym named_is.2.1) ∙ puts.few;
    touched = touched;
    sees = refl;
    changes = changes;
  }

  -- it has the record, and is sound
  pub exchanged : HasExchanged h grown [] (record_for name entry ∷ [])
  exchanged = record {
    sound = λ is. touched.sound puts.sound.placed.own (puts.exchanged.sound is);
    head = touched.head ∙ puts.exchanged.head;
    records = subst (λ records. IsExchanged (records_of h) records [] (record_for name entry ∷ [])) (sym (touched.records puts.sound.placed.own)) puts.exchanged.records;
    counted = subst (λ d. IsCounted (dinode_in h) d [] (record_for name entry ∷ [])) (sym touched.dinode) (counts_timed (dinode_in h) (dinode_in named) time (record_for name entry ∷ []) puts.exchanged.counted);
  }
