-- A directory that gets a name in a draft in which others went from it, and then the time.
use Rattle.std.proofs.Common.{◌≡◌, ◌≢◌, ◌⊎◌, inl, inr, ℕ, ◌+◌, ◌≤◌, ◌++◌, true, false, List, [], ◌∷◌, length, take, Option, None, Some, refl, sym, ap, ◌∙◌, subst, arith, length-append}
use Rattle.std.proofs.Math.Seq.{take-append_seam}
use Rattle.std.proofs.lemmas.Bool.{cases_eq}
use Rattle.std.specs.Prelude.{Contains, IsSome, option_map}
use Rattle.std.specs.Ordering.{nat_cmp}
use Rattle.std.specs.FinMap.{FinMap, get, insert}
use Rattle.drafts.specs.Fates.{Drafted, seen_in, seen_with}
use Rattle.drafts.specs.declared.fate.Fate.{Fate}
use Rattle.drafts.specs.declared.fate.Fate.TheVariants.{Put}
use Rattle.gfs2_layout.specs.Exchanges.{IsCounted, IsExchanged}
use Rattle.gfs2_layout.specs.Headers.{HasHeader}
use Rattle.gfs2_layout.specs.Holding.{Cell, Holding, Itself, bytes_at, cell_bytes, cell_part, part_at}
use Rattle.gfs2_layout.specs.Inode.{Head, dinode_in, is_directory_in, records_of}
use Rattle.gfs2_layout.specs.Structures.{dinode_of, is_directory}
use Rattle.glock_names.specs.Views.{Seen}
use Rattle.glock_names.specs.declared.steps.Entry.{Entry}
use Rattle.image_model.proofs.Held.{none_some}
use Rattle.dinode_tree.specs.Reading.{inode_lock}
use Rattle.dinode_tree.specs.Shown as inode
use Rattle.linear_dirs.specs.Exchanges.{HasExchanged}
use Rattle.linear_dirs.specs.Shown.{bytes_over, holding_over, record_for}
use Rattle.linear_dirs.proofs.Over.{as_seen, parts_stay}
use Rattle.linear_dirs.proofs.Rewritten.{over_there}
use Rattle.hash_dirs.specs.Shown.{IsSound}
use Rattle.hash_dirs.proofs.Chained.{cell_some}
use Rattle.directories.specs.Shown.{IsShown}
use Rattle.new_inodes.specs.Touched.{IsTouched}
use Rattle.resource_groups.proofs.Fits.{big_of}
use Rattle.name_drafts.specs.HashInserting.{MayChange, StaysInside, a_data_block, a_taken_one, the_dinode}
use Rattle.name_drafts.specs.Inserting.{CanGetName, IsNamed, IsNamedAt, PutsName}
use Rattle.name_drafts.specs.Drafting.{HasTimes}
use Rattle.name_drafts.proofs.Fates.{left_seen, put_elsewhere, put_there}
use Rattle.name_drafts.proofs.Grown.{counts_timed}
use Rattle.name_drafts.proofs.Named.{front_is}
use Rattle.name_moves.specs.Becoming.{IsLostAt, LosesAll}
use Rattle.name_moves.specs.Steps.{AreLost, IsLostIn, IsNamedIn, IsNamedThere, PutsOf, left_of}
use Rattle.name_moves.proofs.Loses.{all_directory, can_tell, kept_back, kept_cells, kept_over}
use Rattle.name_moves.proofs.Lost.{headed_directory}

same_fronts : (xs ys rest : List ℕ) → xs ++ rest ≡ ys ++ rest → xs ≡ ys
same_fronts xs ys rest e =
    let long : length xs ≡ length ys = omega (arith, ap length e, length-append xs rest, length-append ys rest) in
    sym (take-append_seam xs rest) ∙ ap (take (length xs)) e ∙ ap (λ n. take n (ys ++ rest)) long ∙ take-append_seam ys rest

pub unseen_bytes : (p : Option (List ℕ)) (c : Option Cell) → p ≡ None → cell_bytes (option_map (bytes_over p) c) ≡ cell_bytes c
unseen_bytes p None none = ap (λ q. cell_bytes (option_map (bytes_over q) None)) none
unseen_bytes p (Some c) none = ap (λ q. cell_bytes (option_map (bytes_over q) (Some c))) none

pub some_cell : (c : Option Cell) → IsSome c → (x : Cell) × (c ≡ Some x)
some_cell None some = absurd (no some)
  where
    no : false ≡ true → ⊥
    no e = cc
some_cell (Some x) some = (x, refl)

-- the same of the view below, and with more blocks that may be taken
pub may_below : (v : Seen) (fates : FinMap nat_cmp Fate) (dir : ℕ) (taken : List ℕ) (b : ℕ) → MayChange (seen_with v fates) dir taken b → MayChange v dir taken b
may_below v fates dir taken b (the_dinode same) = the_dinode same
may_below v fates dir taken b (a_taken_one there) = a_taken_one there
may_below v fates dir taken b (a_data_block data_block) = a_data_block data_block

pub may_wide : (v : Seen) (dir : ℕ) (taken : List ℕ) (b : ℕ) → MayChange v dir [] b → MayChange v dir taken b
may_wide v dir taken b (the_dinode same) = the_dinode same
may_wide v dir taken b (a_taken_one there) = absurd (omega (arith, there.1))
may_wide v dir taken b (a_data_block data_block) = a_data_block data_block

module _ {V : Type 0} (seen : V → Seen) (old mid last : Drafted V) (dir : ℕ) (names : List (List ℕ)) (name : List ℕ) (e : Entry) (time : ℕ) (room left : List ℕ) (lost : AreLost (seen old.view) dir names old.fates)
    (view_mid : mid.view ≡ old.view) (inside : StaysInside (seen_in seen old) old.fates mid.fates room left dir) where
  abbrev v : Seen
  v = seen old.view

  abbrev w : Seen
  w = seen_with v old.fates

  pub shorter : length left ≤ length room
  shorter = omega (arith, ap length inside.front, length-append inside.taken left)

  module _ (put : (h : Holding) → IsShown (seen_in seen old) dir h → CanGetName h name room → (g : Holding) × IsShown (seen_in seen mid) dir g × PutsName old.fates mid.fates room left name e h g)
      (final : List ℕ) (put_last : last ≡ record mid { fates = insert mid.fates dir (Put (inode_lock dir) false final) })
      (touched_last : (h : Holding) → inode.IsShown (seen_in seen mid) dir h → IsTouched h (holding_over (seen_in seen last) h) time) where
    abbrev u : Seen
    u = seen_with v last.fates

    pub last_view : last.view ≡ old.view
    last_view = ap (λ (d : Drafted V). d.view) put_last ∙ view_mid

    last_is : seen_in seen last ≡ u
    last_is = ap (λ x. seen_with (seen x) last.fates) last_view

    last_fates : last.fates ≡ insert mid.fates dir (Put (inode_lock dir) false final)
    last_fates = ap (λ (d : Drafted V). d.fates) put_last

    last_here : get last.fates dir ≡ Some (Put (inode_lock dir) false final)
    last_here = ap (λ (m : FinMap nat_cmp Fate). get m dir) last_fates ∙ put_there mid.fates dir (Put (inode_lock dir) false final)

    last_away : (b : ℕ) → b ≢ dir → get last.fates b ≡ get mid.fates b
    last_away b away = ap (λ (m : FinMap nat_cmp Fate). get m b) last_fates ∙ put_elsewhere mid.fates dir (Put (inode_lock dir) false final) b away

    puts_named : PutsOf v dir inside.taken last.fates
    puts_named b = elim (cases_eq b dir) [
      | inl same ↦ inr (the_dinode same, (final, ap (get last.fates) same ∙ last_here))
      | inr away ↦ elim (inside.changes b) [
        | inl stays ↦ elim (lost.puts b) [
          | inl none ↦ inl (last_away b away ∙ stays ∙ none)
          | inr was ↦ inr (may_wide v dir inside.taken b was.0, (was.1.0, last_away b away ∙ stays ∙ was.1.1))
        ]
        | inr now ↦ inr (may_below v old.fates dir inside.taken b now.0, (now.1.0, last_away b away ∙ now.1.1))
      ]
    ]

    module _ (h : Holding) (shown : IsShown v dir h) (sound : IsSound h) (can : (k : Holding) → LosesAll names h k → CanGetName k name room) where
      is : IsLostIn v dir names old.fates h
      is = lost.each h shown (can_tell names h sound)

      abbrev k : Holding
      k = left_of v old.fates h

      k_can : CanGetName k name room
      k_can = can k is.lost

      got : (g : Holding) × IsShown (seen_in seen mid) dir g × PutsName old.fates mid.fates room left name e k g
      got = put k is.shown k_can

      abbrev m : Holding
      m = got.0

      abbrev puts : PutsName old.fates mid.fates room left name e k m
      puts = got.2

      abbrev g : Holding
      g = holding_over u m

      same_taken : puts.taken ≡ inside.taken
      same_taken = same_fronts puts.taken inside.taken left (sym puts.front ∙ inside.front)

      touched : IsTouched m g time
      touched = subst (λ x. IsTouched m (holding_over x m) time) last_is (touched_last m got.1.inode)

      in_m : (b : ℕ) → IsSome (g.cell b) → IsSome (m.cell b)
      in_m b some = sym (over_there (u.block_at b) (m.cell b)) ∙ some

      in_g : (b : ℕ) → IsSome (m.cell b) → IsSome (g.cell b)
      in_g b some = over_there (u.block_at b) (m.cell b) ∙ some

      -- each was the directory's, or was taken
      its : (b : ℕ) → IsSome (m.cell b) → IsSome (h.cell b) ⊎ Contains inside.taken b
      its b some = elim ((puts.has.blocks b).0 some) [
        | inl before ↦ inl (kept_cells h k (kept_over w h) b before)
        | inr taken ↦ inr (subst (λ xs. Contains xs b) same_taken taken)
      ]

      own_there : IsSome (g.cell dir)
      own_there = in_g dir (subst (λ b. IsSome (m.cell b)) got.1.inode.own (cell_some (m.cell m.own) Itself puts.sound.placed.own))

      not_dir : (b : ℕ) → get last.fates b ≡ None → b ≢ dir
      not_dir b none same = none_some (sym none ∙ ap (get last.fates) same ∙ last_here)

      -- a block that is left has bytes, and so it was the directory's
      had : (b : ℕ) → IsSome (m.cell b) → bytes_at m b ≡ bytes_at k b → IsSome (h.cell b)
      had b some same = by (k.cell b) refl
        where
          by : (c : Option Cell) → k.cell b ≡ c → IsSome (h.cell b)
          by (Some x) is_some = kept_cells h k (kept_over w h) b (subst IsSome (sym is_some) refl)
          by None no_cell =
              let x = some_cell (m.cell b) some in
              let whole : length (bytes_at m b) ≡ m.size = puts.sound.inode.whole b x.0.part (ap cell_part x.1) in
              let none : length (bytes_at m b) ≡ 0 = ap length (same ∙ ap cell_bytes no_cell) in
              let large : 512 ≤ m.size = big_of m.size puts.sound.block_size in
              absurd (omega (arith, whole, none, large))

      unseen : (b : ℕ) → get last.fates b ≡ None → IsSome (g.cell b) → IsSome (h.cell b) × (bytes_at g b ≡ bytes_at h b)
      unseen b none some =
          let away = not_dir b none in
          let some_m = in_m b some in
          let none_mid : get mid.fates b ≡ None = sym (last_away b away) ∙ none in
          elim (puts.drafted.own b some_m) [
            | inl same ↦
                let some_h = had b some_m same.1 in
                let none_old : get old.fates b ≡ None = sym same.0 ∙ none_mid in
                (some_h, by some_h same.1 none_old (v.block_at b) refl)
            | inr now ↦ absurd (none_some (sym none_mid ∙ now))
          ]
        where
          by : IsSome (h.cell b) → bytes_at m b ≡ bytes_at k b → get old.fates b ≡ None → (o : Option (List ℕ)) → v.block_at b ≡ o → bytes_at g b ≡ bytes_at h b
          by some_h same none_old (Some bytes) there = as_seen u m b bytes some (left_seen v last.fates b none ∙ there) ∙ sym (shown.inode.same b bytes some_h there)
          by some_h same none_old None absent =
              unseen_bytes (u.block_at b) (m.cell b) (left_seen v last.fates b none ∙ absent) ∙ same ∙ unseen_bytes (w.block_at b) (h.cell b) (left_seen v old.fates b none_old ∙ absent)

      exchanged : HasExchanged k g [] (record_for name e ∷ [])
      exchanged = record {
        sound = λ so. touched.sound puts.sound.placed.own (puts.exchanged.sound so);
        head = touched.head ∙ puts.exchanged.head;
        records = subst (λ records. IsExchanged (records_of k) records [] (record_for name e ∷ [])) (sym (touched.records puts.sound.placed.own)) puts.exchanged.records;
        counted = subst (λ d. IsCounted (dinode_in k) d [] (record_for name e ∷ [])) (sym touched.dinode) (counts_timed (dinode_in k) (dinode_in m) time (record_for name e ∷ []) puts.exchanged.counted);
      }

      -- something is done to a block for the names that went, for the one that came, or for the time
      changes : (b : ℕ) → (get last.fates b ≡ None) ⊎ (IsLostAt names h b ⊎ (IsNamedAt k m name inside.taken b ⊎ (b ≡ h.own)))
      changes b = elim (cases_eq b dir) [
        | inl same ↦ inr (inr (inr (same ∙ sym shown.inode.own)))
        | inr away ↦ elim (puts.changes b) [
          | inl stays ↦ elim (is.changes b) [
            | inl none ↦ inl (last_away b away ∙ stays ∙ none)
            | inr at ↦ inr (inl at)
          ]
          | inr at ↦ inr (inr (inl (subst (λ xs. IsNamedAt k m name xs b) same_taken at)))
        ]
      ]

      named_in : IsNamedIn v dir names name e time inside.taken last.fates h
      named_in = record {
        after = g;
        gets = record {
          without = k;
          lost = is.lost;
          named = m;
          gets = subst (IsNamed name e k m) same_taken puts.named;
          few = ap length (sym same_taken) ∙ puts.few;
          touched = touched;
        };
        size = got.1.inode.size ∙ ap (λ x. (seen x).size) view_mid ∙ sym shown.inode.size;
        count = puts.has.count;
        own = got.1.inode.own ∙ sym shown.inode.own;
        itself = λ b. ((λ part. puts.sound.placed.only b (sym (parts_stay u m b) ∙ part)), (λ same. parts_stay u m b ∙ ap (part_at m) same ∙ puts.sound.placed.own));
        seen = as_seen u m;
        unseen = unseen;
        exchanged = exchanged;
        blocks = λ b. (
          (λ some. its b (in_m b some)),
          (λ any. in_g b ((puts.has.blocks b).1 (elim any [ inl before ↦ inl (kept_back h k (kept_over w h) b before) | inr taken ↦ inr (subst (λ xs. Contains xs b) (sym same_taken) taken) ]))),
        );
        others = λ b none.
            last_away b (λ same. none (subst (λ x. IsSome (g.cell x)) (sym same) own_there))
            ∙ puts.drafted.others b (λ some. none (in_g b some))
            ∙ is.others b (λ some. none (in_g b ((puts.has.blocks b).1 (inl (kept_back h k (kept_over w h) b some)))));
        changes = changes;
      }

    named_there : HasTimes (dinode_of final) time → IsNamedThere v dir names name e time room inside.taken last.fates
    named_there times = record { left = left; front = inside.front; puts = puts_named; stamped = record { bytes = final; put = last_here; times = times }; each = named_in }

    -- as many as it took, of the same room
    pub named_of : HasTimes (dinode_of final) time → (whole : List ℕ) (n : ℕ) → room ≡ whole → n + length left ≡ length whole → IsNamedThere v dir names name e time whole (take n whole) last.fates
    named_of times whole n same long =
        subst (λ xs. IsNamedThere v dir names name e time xs (take n xs) last.fates) same
        (subst (λ xs. IsNamedThere v dir names name e time room xs last.fates) (sym (front_is room inside.taken left n inside.front (long ∙ ap length (sym same)))) (named_there times))

-- ---- its dinode, once it got the name

pub named_able : (w : Seen) (dir : ℕ) (names : List (List ℕ)) (h k m : Holding) (name : List ℕ) (e : Entry) (old mid : FinMap nat_cmp Fate) (room left : List ℕ) → LosesAll names h k → is_directory_in h ≡ true → IsShown w dir m
    → PutsName old mid room left name e k m → (bytes : List ℕ) → w.block_at dir ≡ Some bytes → HasHeader 4 400 bytes × (is_directory (dinode_of bytes) ≡ true)
named_able w dir names h k m name e old mid room left lost is shown puts bytes there =
    headed_directory w dir m shown.inode puts.sound.inode (ap (λ (x : Head). x.is_dir) puts.exchanged.head ∙ all_directory names h k lost ∙ is) bytes there
