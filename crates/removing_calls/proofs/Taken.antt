-- A directory from which a name is taken in a new draft, and which gets a time then.
use Rattle.std.proofs.Common.{◌≡◌, ◌≢◌, ◌⊎◌, inl, inr, ◌≤◌, ℕ, true, false, true≢false, List, [], ◌∷◌, length, take, drop, Option, None, Some, Ok, refl, sym, ap, ◌∙◌, subst, subst₂, arith}
use Rattle.std.proofs.lemmas.Bool.{cases_eq, cond-false}
use Rattle.std.specs.Prelude.{Contains, option_map}
use Rattle.std.specs.FinMap.{FinMap, get, empty, insert, get-empty}
use Rattle.std.specs.Ordering.{nat_cmp}
use Rattle.drafts.specs.Fates.{AreWhole, Drafted, block_with, seen_in, seen_with}
use Rattle.drafts.specs.declared.change.Change.{Change}
use Rattle.drafts.specs.declared.fate.Fate.{Fate}
use Rattle.drafts.specs.declared.fate.Fate.TheVariants.{Put}
use Rattle.gfs2_layout.specs.Area.{IsArea, IsRecordAt, first_named, slots_of}
use Rattle.gfs2_layout.specs.Cutting.{slot_from, slots_without}
use Rattle.gfs2_layout.specs.Exchanges.{IsCounted, IsExchanged}
use Rattle.gfs2_layout.specs.Holding.{Holding, InChain, Itself, bytes_at, cell_bytes, part_at}
use Rattle.gfs2_layout.specs.Inode.{IsInode, dinode_in, is_hashed_in, leaf_length, linear_area, records_of}
use Rattle.gfs2_layout.specs.Records.{Record, record_named, records_in}
use Rattle.gfs2_layout.specs.Structures.{dinode_length, dinode_of, dinode_read, header_fault, leaf_of}
use Rattle.gfs2_layout.specs.Writing.{dinode_put, leaf_put}
use Rattle.gfs2_layout.specs.declared.dinode.Dinode.{Dinode}
use Rattle.gfs2_layout.proofs.HeaderLaws.{answer_ok}
use Rattle.glock_names.specs.Views.{Seen, IsView, HasBlock}
use Rattle.glock_names.specs.declared.steps.Entry.{Entry}
use Rattle.glock_names.specs.declared.steps.Missing.{Missing}
use Rattle.image_model.proofs.Held.{none_some, some_same}
use Rattle.dinode_tree.specs.Pads.{KeepsPads}
use Rattle.dinode_tree.specs.Reading.{inode_lock}
use Rattle.dinode_tree.specs.Shown.{IsShown}
use Rattle.dinode_tree.proofs.Pads.{keeps_on, put_keeps}
use Rattle.dinode_tree.proofs.Sound.{sound_is_shown}
use Rattle.linear_dirs.specs.Exchanges.{HasExchanged, uncounted}
use Rattle.linear_dirs.specs.Shown.{bytes_over, entry_of, holding_over}
use Rattle.linear_dirs.proofs.Looked.{bytes_of}
use Rattle.linear_dirs.proofs.Over.{as_seen, over_over, parts_stay}
use Rattle.linear_dirs.proofs.Rewritten.{over_there}
use Rattle.hash_dirs.specs.Finding.{IsLeafOfName}
use Rattle.hash_dirs.specs.Shown.{IsSound}
use Rattle.hash_dirs.proofs.Chained.{in_chain}
use Rattle.directories.specs.Shown as dirs
use Rattle.directories.specs.Taking.{HasNameIn, HasRecordOf, IsCutInHashed, IsCutInLinear, IsWithoutName, PutsTwo}
use Rattle.directories.specs.Taking as taking
use Rattle.directories.proofs.Sound.{says_once}
use Rattle.new_inodes.specs.Touched.{IsTouched, with_times}
use Rattle.resource_groups.specs.Freeing.{AreFreed, KeepsRest, BreaksSome}
use Rattle.resource_groups.specs.Freeing as freeing
use Rattle.resource_groups.specs.Putting.{HasDataBlock}
use Rattle.resource_groups.proofs.Apart.{no_header_data}
use Rattle.image_changes.specs.Drafted.{IsFinished}
use Rattle.removing_calls.specs.Drafting.{LosesInLeaf, LosesRecord, IsNameTaken, IsFreedAndDone, IsRemoval}
use Rattle.removing_calls.proofs.Drafted.{needed_before, put_sees, seen_before, breaks_before}
use Rattle.removing_calls.proofs.Lists.{put_apart, put_at}

pub unchanged : (v : Seen) → seen_with v empty ≡ v
unchanged v = λ i. record v { block_at = λ b. ap (λ f. block_with f (v.block_at b)) (get-empty nat_cmp b) i }

dinode_by : (h : Holding) (bytes : List ℕ) → bytes_at h h.own ≡ bytes → dinode_in h ≡ dinode_of bytes
unfolding dinode_in
dinode_by h bytes e = ap dinode_of e

records_by : (h : Holding) → is_hashed_in h ≡ false → records_of h ≡ records_in (linear_area h)
unfolding records_of
records_by h plain = cond-false _ _ _ plain

-- a directory that lacks a record and is touched then lacks it
pub both : (h h1 h2 : Holding) (time : ℕ) (r : Record) → part_at h1 h1.own ≡ Some Itself → HasExchanged h h1 (r ∷ []) [] → IsTouched h1 h2 time → HasExchanged h h2 (r ∷ []) []
both h h1 h2 time r own gone touched = record {
  sound = λ is. touched.sound own (gone.sound is);
  head = touched.head ∙ gone.head;
  records = subst (λ records. IsExchanged (records_of h) records (r ∷ []) []) (sym (touched.records own)) gone.records;
  counted = subst (λ d. IsCounted (dinode_in h) d (r ∷ []) []) (sym touched.dinode) (counts_still (dinode_in h) (dinode_in h1) time (r ∷ []) gone.counted);
}
  where
    counts_still : (d d' : Dinode) (time : ℕ) (gone : List Record) → IsCounted d d' gone [] → IsCounted d (with_times d' time) gone []
    counts_still d d' time gone is = record { entries = is.entries; links = is.links }

pub counts_timed : (d d' : Dinode) (time : ℕ) (gone : List Record) → IsCounted d d' gone [] → IsCounted d (with_times d' time) gone []
counts_timed d d' time gone is = record { entries = is.entries; links = is.links }

-- the record of a name that leads somewhere
record_of_entry : (x : Option Record) (e : Entry) → Some e ≡ option_map entry_of x → (r : Record) × (x ≡ Some r)
record_of_entry None e is = absurd (none_some (sym is))
record_of_entry (Some r) e is = (r, refl)

named_linear : (h : Holding) (name : List ℕ) → is_hashed_in h ≡ false → (e : Entry) → dirs.Says h name (Some e) → (r : Record) × (record_named (records_of h) name ≡ Some r)
named_linear h name plain e says = record_of_entry (record_named (records_of h) name) e (says_once h name _ _ says (dirs.Says.in_linear plain))

of_leaf : (h : Holding) (name : List ℕ) (x : ℕ) → is_hashed_in h ≡ true → HasRecordOf h name x → IsLeafOfName h name (Some x)
of_leaf h name _ hashed (taking.HasRecordOf.in_linear plain) = absurd (true≢false (sym hashed ∙ plain))
of_leaf h name _ hashed (taking.HasRecordOf.in_hashed x is of) = of

-- ---- what was put, and then put with a time

module _ {V : Type 0} (seen : V → Seen) (old : Drafted V) (new : old.fates ≡ empty) where
  -- a new draft shows what the view does
  pub seen_old : seen_in seen old ≡ seen old.view
  seen_old = ap (λ (m : FinMap nat_cmp Fate). seen_with (seen old.view) m) new ∙ unchanged (seen old.view)

  -- the dinode is put with its header
  pub headed : (mid : Drafted V) (dir leaf : ℕ) → PutsTwo seen old mid dir leaf → (bytes : List ℕ) → (seen_in seen mid).block_at dir ≡ Some bytes → (d : Dinode) × (dinode_read bytes ≡ Ok d)
  headed mid dir leaf two bytes there =
      let same : two.bytes ≡ bytes = some_same (sym (ap (λ f. block_with f ((seen mid.view).block_at dir)) two.put) ∙ there) in
      (two.dinode, ap dinode_read (sym same) ∙ two.read)

  pub sees_put : (mid : Drafted V) (dir leaf : ℕ) (two : PutsTwo seen old mid dir leaf) → (seen_in seen mid).block_at dir ≡ Some two.bytes
  sees_put mid dir leaf two = ap (λ f. block_with f ((seen mid.view).block_at dir)) two.put

  module _ (mid last : Drafted V) (dir : ℕ) (name : List ℕ) (time leaf : ℕ) (view : IsView (seen old.view)) (without : IsWithoutName (seen_in seen old) (seen_in seen mid) dir name leaf) (two : PutsTwo seen old mid dir leaf)
      (touched_mid : (h : Holding) → IsShown (seen_in seen mid) dir h → IsTouched h (holding_over (seen_in seen last) h) time) (final : List ℕ) (final_is : final ≡ dinode_put (with_times (dinode_of two.bytes) time) two.bytes)
      (put_last : last ≡ record mid { fates = insert mid.fates dir (Put (inode_lock dir) false final) }) (read_last : dinode_read final ≡ Ok (with_times (dinode_of two.bytes) time)) (behind_last : drop dinode_length final ≡ drop dinode_length two.bytes) where
    abbrev v : Seen
    v = seen old.view

    abbrev w : Seen
    w = seen_with v mid.fates

    abbrev u : Seen
    u = seen_with v last.fates

    seen_mid : seen_in seen mid ≡ w
    seen_mid = ap (λ x. seen_with (seen x) mid.fates) two.view

    pub last_view : last.view ≡ old.view
    last_view = ap (λ (d : Drafted V). d.view) put_last ∙ two.view

    seen_last : seen_in seen last ≡ u
    seen_last = ap (λ x. seen_with (seen x) last.fates) last_view

    fates_last : last.fates ≡ insert mid.fates dir (Put (inode_lock dir) false final)
    fates_last = ap (λ (d : Drafted V). d.fates) put_last

    taken : IsWithoutName v w dir name leaf
    taken = subst₂ (λ a b. IsWithoutName a b dir name leaf) seen_old seen_mid without

    touched : (h : Holding) → IsShown w dir h → IsTouched h (holding_over u h) time
    touched h shown = subst (λ a. IsTouched h (holding_over a h) time) seen_last (touched_mid h (subst (λ a. IsShown a dir h) (sym seen_mid) shown))

    sees : (b : ℕ) → HasBlock w b → HasBlock u b
    sees b has = subst (λ m. HasBlock (seen_with v m) b) (sym fates_last) (put_sees v mid.fates dir (inode_lock dir) final b has)

    w_there : w.block_at dir ≡ Some two.bytes
    w_there = ap (λ f. block_with f (v.block_at dir)) two.put

    dinode_last : dinode_of final ≡ with_times (dinode_of two.bytes) time
    dinode_last = (answer_ok (header_fault dinode_length 4 400 final) (dinode_of final) (with_times (dinode_of two.bytes) time) read_last).1

    -- other blocks are as they were put first
    apart : (h : Holding) (b : ℕ) → b ≢ dir → bytes_at (holding_over u h) b ≡ bytes_at (holding_over w h) b
    apart h b other = ap (λ (m : FinMap nat_cmp Fate). cell_bytes (option_map (bytes_over (block_with (get m b) (v.block_at b))) (h.cell b))) fates_last
        ∙ ap (λ f. cell_bytes (option_map (bytes_over (block_with f (v.block_at b))) (h.cell b))) (put_apart mid.fates dir b (Put (inode_lock dir) false final) other)

    module _ (h : Holding) (shown : dirs.IsShown v dir h) where
      abbrev then : Holding
      then = holding_over w h

      then_bytes : bytes_at then then.own ≡ two.bytes
      then_bytes = as_seen w h h.own two.bytes (over_there (w.block_at h.own) (h.cell h.own) ∙ shown.inode.dinode) (ap w.block_at shown.inode.own ∙ w_there)

      -- of a linear directory
      module _ (before : List ℕ) (plain : is_hashed_in h ≡ false) (there : v.block_at dir ≡ Some before) (named : (r : Record) × (record_named (records_of h) name ≡ Some r)) where
        cut : IsCutInLinear h then name
        cut = taken.in_linear h shown plain

        was : bytes_at h h.own ≡ before
        was = bytes_of v h dir before shown.inode there

        area_was : linear_area h ≡ drop dinode_length before
        area_was = ap (drop dinode_length) was

        area_now : linear_area then ≡ drop dinode_length final
        area_now = ap (drop dinode_length) then_bytes ∙ sym behind_last

        counted : IsCounted (dinode_of before) (dinode_of two.bytes) (named.0 ∷ []) []
        counted = subst₂ (λ d d'. IsCounted d d' (named.0 ∷ []) []) (dinode_by h before was) (dinode_by then two.bytes then_bytes)
            (taken.removed h named.0 shown (λ hashed. absurd (true≢false (sym hashed ∙ plain))) named.1).counted

        large : dinode_length ≤ length before
        large = omega (arith, view.whole dir before there, view.block_size)

        pub linear_loses : LosesRecord before final name time
        linear_loses = record {
          dinode = ap uncounted dinode_last ∙ ap (λ (d : Dinode). with_times d time) (ap uncounted (sym (dinode_by then two.bytes then_bytes)) ∙ cut.dinode ∙ ap uncounted (dinode_by h before was));
          record_is = named.0;
          named = ap (λ rs. record_named rs name) (ap records_in (sym area_was) ∙ sym (records_by h plain)) ∙ named.1;
          counted = subst (λ d. IsCounted (dinode_of before) d (named.0 ∷ []) []) (sym dinode_last) (counts_timed (dinode_of before) (dinode_of two.bytes) time (named.0 ∷ []) counted);
          place = cut.cut.place;
          at = subst (λ a. IsRecordAt a cut.cut.place) area_was cut.cut.at;
          none_before = subst (λ a. first_named name (slots_of (take cut.cut.place a)) ≡ None) area_was cut.cut.none_before;
          first = subst (λ a. first_named name (slots_of a) ≡ Some (slot_from cut.cut.place a)) area_was cut.cut.first;
          slots = ap slots_of (sym area_now) ∙ cut.cut.slots ∙ ap (slots_without cut.cut.place) area_was;
          bytes = record {
            pads = keeps_on before two.bytes final large (subst₂ KeepsPads was then_bytes cut.laid.pads) (put_keeps (with_times (dinode_of two.bytes) time) two.bytes final final_is dinode_last behind_last);
            filled = subst IsArea (ap (drop dinode_length) then_bytes ∙ sym behind_last) cut.laid.filled;
          };
        }

      -- of a hashed one
      module _ (r : Record) (hashed : is_hashed_in h ≡ true) (sound : IsSound h) (named : record_named (records_of h) name ≡ Some r) where
        gone : HasExchanged h then (r ∷ []) []
        gone = taken.removed h r shown (λ is. sound) named

        cut_leaf : IsCutInHashed h then name leaf
        cut_leaf = taken.in_hashed h shown hashed sound

        then_own : part_at then then.own ≡ Some Itself
        then_own = parts_stay w h h.own ∙ sound.placed.own

        then_shown : IsShown w dir then
        then_shown = subst (λ a. IsShown w a then) shown.inode.own (sound_is_shown w then (gone.sound sound.inode) then_own shown.inode.size (as_seen w h))

        over_is : holding_over u then ≡ holding_over u h
        over_is = over_over w u h sees

        touch : IsTouched then (holding_over u h) time
        touch = subst (λ g. IsTouched then g time) over_is (touched then then_shown)

        -- the leaf isn't the dinode's block
        leaf_apart : cut_leaf.cut.leaf ≢ dir
        leaf_apart e = absurd (no (sym sound.placed.own ∙ ap (part_at h) (shown.inode.own ∙ sym e) ∙ in_chain h sound hashed _ cut_leaf.cut.at_place cut_leaf.cut.leaf cut_leaf.cut.chain))
          where
            no : {hash place : ℕ} → Some Itself ≡ Some (InChain hash place) → ⊥
            no e = cc

        large_own : dinode_length ≤ length (bytes_at h h.own)
        large_own = omega (arith, sound.inode.whole h.own Itself sound.placed.own, sound.block_size)

        pub hashed_loses : LosesInLeaf h (holding_over u h) name time
        hashed_loses = record {
          dinode = ap uncounted touch.dinode ∙ ap (λ (d : Dinode). with_times d time) cut_leaf.cut.dinode;
          record_is = r;
          named = named;
          counted = subst (λ d. IsCounted (dinode_in h) d (r ∷ []) []) (sym touch.dinode) (counts_timed (dinode_in h) (dinode_in then) time (r ∷ []) gone.counted);
          pads = keeps_on (bytes_at h h.own) (bytes_at then then.own) (bytes_at (holding_over u h) h.own) large_own cut_leaf.pads
              (put_keeps (with_times (dinode_in then) time) (bytes_at then then.own) (bytes_at (holding_over u h) h.own) touch.written (sym (dinode_by (holding_over u h) (bytes_at (holding_over u h) h.own) refl) ∙ touch.dinode) touch.behind);
          leaf = cut_leaf.cut.leaf;
          of_name = subst (λ x. IsLeafOfName h name (Some x)) (sym cut_leaf.in_leaf) (of_leaf h name leaf hashed (taken.from h shown));
          place = cut_leaf.cut.place;
          at = cut_leaf.cut.at;
          none_before = cut_leaf.cut.no_first;
          first = cut_leaf.cut.first;
          slots = ap (λ bytes. slots_of (drop leaf_length bytes)) (apart h cut_leaf.cut.leaf leaf_apart) ∙ cut_leaf.cut.slots;
          head = ap leaf_of (apart h cut_leaf.cut.leaf leaf_apart) ∙ cut_leaf.cut.head;
          front = ap (take leaf_length) (apart h cut_leaf.cut.leaf leaf_apart) ∙ cut_leaf.cut.front
              ∙ ap (λ bytes. take leaf_length (leaf_put (leaf_of bytes) (bytes_at h cut_leaf.cut.leaf))) (sym (apart h cut_leaf.cut.leaf leaf_apart));
          behind = touch.behind ∙ cut_leaf.cut.behind;
          others = λ b other away. apart h b (λ e. away (e ∙ sym shown.inode.own)) ∙ cut_leaf.cut.others b other away;
        }

    some_there : HasBlock v dir
    some_there = subst (λ a. HasBlock a dir) seen_old two.there

    pub name_taken : HasNameIn v dir name → IsNameTaken v dir name time leaf last.fates
    name_taken named = record {
      first = mid.fates;
      taken = taken;
      touched = touched;
      sees = sees;
      there = some_there;
      leaf_there = subst (λ a. HasBlock a leaf) seen_old two.leaf_there;
      inside = subst (λ a. (leaf ≡ dir) ⊎ HasDataBlock a leaf) seen_old two.inside;
      bytes = final;
      put = put_final;
      leaf_put = elim (cases_eq leaf dir) [
        | inl same ↦ (final, ap (get last.fates) same ∙ put_final)
        | inr other ↦ (two.leaf_put.0, ap (λ (m : FinMap nat_cmp Fate). get m leaf) fates_last ∙ put_apart mid.fates dir leaf (Put (inode_lock dir) false final) other ∙ two.leaf_put.1)
      ];
      others = λ b other away. ap (λ (m : FinMap nat_cmp Fate). get m b) fates_last ∙ put_apart mid.fates dir b (Put (inode_lock dir) false final) other ∙ two.others b other away
          ∙ ap (λ (m : FinMap nat_cmp Fate). get m b) new ∙ get-empty nat_cmp b;
      times = (ap (λ (d : Dinode). d.mtime) dinode_last, ap (λ (d : Dinode). d.ctime) dinode_last);
      in_linear = λ h before shown plain there. linear_loses h shown before plain there (let n = named h shown in named_linear h name plain n.0 n.1);
      in_hashed = λ h r shown hashed sound is. hashed_loses h shown r hashed sound is;
    }
      where
        put_final : get last.fates dir ≡ Some (Put (inode_lock dir) false final)
        put_final = ap (λ (m : FinMap nat_cmp Fate). get m dir) fates_last ∙ put_at mid.fates dir (Put (inode_lock dir) false final)

-- ---- and then blocks are freed

pub freed_and_done : {V : Type 0} (seen : V → Seen) (old new : Drafted V) (blocks : List ℕ) (change : Change) → AreFreed seen old new blocks → KeepsRest seen old new blocks → AreWhole (seen new.view).size new.fates
    → IsFinished new.fates change → IsFreedAndDone seen old blocks change
freed_and_done {V} seen old new blocks change freed rest whole finished =
    let same : new ≡ record old { fates = new.fates } = ap (λ (x : V). record { view = x; fates = new.fates }) rest.view in
    record {
      fates = new.fates;
      frees = subst (λ d. AreFreed seen old d blocks) same freed;
      rest = subst (λ d. KeepsRest seen old d blocks) same rest;
      whole = subst (λ x. AreWhole (seen x).size new.fates) rest.view whole;
      finished = finished;
    }

module _ {V : Type 0} (seen : V → Seen) (view : V) (d : Drafted V) (same : d.view ≡ view) (dir : ℕ) (name : List ℕ) (time leaf : ℕ) (taken : IsNameTaken (seen view) dir name time leaf d.fates) where
  seen_then : seen_in seen d ≡ seen_with (seen view) d.fates
  seen_then = ap (λ x. seen_with (seen x) d.fates) same

  pub inside_then : (b : ℕ) → HasDataBlock (seen view) b → HasDataBlock (seen_in seen d) b
  inside_then b inside = subst (λ w. HasDataBlock w b) (sym seen_then) inside

  pub needed_of : (blocks : List ℕ) (m : Missing) → freeing.IsNeededFor (seen_in seen d) blocks m → freeing.IsNeededFor (seen view) blocks m
  needed_of blocks m needed = needed_before (seen view) d.fates blocks m (subst (λ w. freeing.IsNeededFor w blocks m) seen_then needed)

  -- what was put lies in a group's data blocks
  put_inside : HasDataBlock (seen view) dir → HasDataBlock (seen view) leaf
  put_inside inside = elim taken.inside [ inl e ↦ subst (HasDataBlock (seen view)) (sym e) inside | inr is ↦ is ]

  pub breaks_of : IsView (seen view) → HasDataBlock (seen view) dir → (blocks : List ℕ) (rule c : ℕ) → BreaksSome (seen_in seen d) blocks rule c → BreaksSome (seen view) blocks rule c
  breaks_of shows inside blocks rule c breaks =
      breaks_before (seen view) dir leaf d.fates taken.others shows inside (put_inside inside) blocks rule c (subst (λ w. BreaksSome w blocks rule c) seen_then breaks)

  pub kept_of : (b : ℕ) → HasBlock (seen_in seen d) b → HasBlock (seen view) b
  kept_of b has = seen_before (seen view) dir leaf d.fates taken.others taken.there taken.leaf_there b (subst (λ w. HasBlock w b) seen_then has)

  pub removal_of : IsView (seen view) → HasDataBlock (seen view) dir → (blocks : List ℕ) → ¬ (Contains blocks dir) → ¬ (Contains blocks leaf) → (change : Change) → IsFreedAndDone seen d blocks change
      → IsRemoval seen view dir name time blocks change
  removal_of shows inside blocks apart away change freed =
      let over : IsFreedAndDone seen (record { view = view; fates = d.fates }) blocks change =
      subst (λ e. IsFreedAndDone seen e blocks change) (ap (λ (x : V). record { view = x; fates = d.fates }) same) freed in
      let left : (b : ℕ) → HasDataBlock (seen view) b → ¬ (Contains blocks b) → get over.fates b ≡ get d.fates b = λ b is none.
      over.rest.others b none (λ g has some head. no_header_data (seen view) shows g is.0 has is.1 b head is.2) in
      record {
        shows = shows;
        fates = d.fates;
        leaf = leaf;
        taken = taken;
        freed = over;
        stays = λ b which. elim which [
          | inl e ↦ subst (λ c. get over.fates c ≡ get d.fates c) (sym e) (left dir inside apart)
          | inr e ↦ subst (λ c. get over.fates c ≡ get d.fates c) (sym e) (left leaf (put_inside inside) away)
        ];
      }

-- ---- the directory in the end

module _ (v : Seen) (dir : ℕ) (name : List ℕ) (time leaf : ℕ) (fates : FinMap nat_cmp Fate) (taken : IsNameTaken v dir name time leaf fates) where
  -- where it is sound, it lacks the record
  pub lacks_record : (h : Holding) (r : Record) → dirs.IsShown v dir h → IsInode h → part_at h h.own ≡ Some Itself → (is_hashed_in h ≡ true → IsSound h) → record_named (records_of h) name ≡ Some r
      → HasExchanged h (holding_over (seen_with v fates) h) (r ∷ []) []
  lacks_record h r shown inode own sound named =
      let w = seen_with v taken.first in
      let u = seen_with v fates in
      let then = holding_over w h in
      let gone = taken.taken.removed h r shown sound named in
      let then_own : part_at then then.own ≡ Some Itself = parts_stay w h h.own ∙ own in
      let then_shown : IsShown w dir then = subst (λ a. IsShown w a then) shown.inode.own (sound_is_shown w then (gone.sound inode) then_own shown.inode.size (as_seen w h)) in
      both h then (holding_over u h) time r then_own gone (subst (λ g. IsTouched then g time) (over_over w u h taken.sees) (taken.touched then then_shown))

pub needed_absent : {v w : Seen} → v ≡ w → (b : ℕ) → v.block_at b ≡ None → w.block_at b ≡ None
needed_absent same b none = ap (λ (x : Seen). x.block_at b) (sym same) ∙ none
