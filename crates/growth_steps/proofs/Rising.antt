-- A file in a draft whose height rises.
use Rattle.std.proofs.Common.{◌≡◌, ◌≢◌, ℕ, suc, ◌+◌, ◌-◌, ◌*◌, ◌<◌, ◌≤◌, inl, inr, false, List, length, take, drop, Option, None, Some, refl, sym, ap, subst, ◌∙◌, arith}
use Rattle.std.proofs.lemmas.Bool.{cases_eq, cond-true, cond-false, eq-eqb, ne_eqb}
use Rattle.std.proofs.lemmas.List.{length-take, length-drop, length-replicate, drop_at, drop-replicate}
use Rattle.std.specs.Prelude.{IsSome, replicate}
use Rattle.std.specs.Int.{w32, from_be_bytes}
use Rattle.std.specs.FinMap.{insert}
use Rattle.drafts.specs.Fates.{Drafted, seen_in}
use Rattle.drafts.specs.declared.fate.Fate.TheVariants.{Put}
use Rattle.gfs2_layout.specs.Bytes.{u64_at, number_at}
use Rattle.gfs2_layout.specs.Device.{IsBlockSize}
use Rattle.gfs2_layout.specs.Headers.{HasHeader}
use Rattle.gfs2_layout.specs.Holding.{Part, Itself, Pointed, InChain, Cell, Holding, cell_part, cell_bytes, part_at, bytes_at}
use Rattle.gfs2_layout.specs.Inode.{dinode_in, fan, header_length}
use Rattle.gfs2_layout.specs.Structures.{dinode_length, dinode_of}
use Rattle.gfs2_layout.specs.Writing.{header_fields}
use Rattle.gfs2_layout.specs.declared.dinode.Dinode.{Dinode}
use Rattle.gfs2_layout.proofs.FieldsInPlace.{drop-fields}
use Rattle.gfs2_layout.proofs.InPlace.{length-put, drop-put, slice-put_before}
use Rattle.glock_names.specs.Views.{Seen}
use Rattle.glock_names.specs.declared.LockName.{LockName}
use Rattle.dinode_tree.specs.Reading.{inode_lock}
use Rattle.dinode_tree.specs.Shown.{IsShown}
use Rattle.growth_laws.specs.Blocks.{rewritten_cells}
use Rattle.growth_laws.specs.Files.{IsFile, with_cells}
use Rattle.growth_laws.specs.Steps.{IsRaised, moved}
use Rattle.growth_laws.proofs.Numbers.{number_behind, numbers_in_front, zeros_are_no_number, written_dinodes_are_said}
use Rattle.growth_laws.proofs.Parts.{same_level}
use Rattle.growth_laws.proofs.Places.{size_large}
use Rattle.growth_laws.proofs.Pointing.{rewrites_keep_the_rest}
use Rattle.growth_laws.proofs.Raises.{unmoved, raises_keep_files}
use Rattle.growth_drafts.specs.Taken.{IsContentIn}
use Rattle.growth_steps.specs.Becoming.{Becomes}
use Rattle.growth_steps.specs.Heights.{CanRise, IsLedBlock, IsNewTo, led_bytes, moved_part, moved_cell, raised_bytes, raised_cells}
use Rattle.growth_steps.specs.New.{new_bytes}
use Rattle.growth_steps.proofs.Putting.{IsKept, becomes_by_two, own_seen}
use Rattle.growth_steps.proofs.Stepping.{head, new_length, is_new_block}

-- ---- the new block

-- the pointers fill what stands behind the dinode
pointers_fill : (size j : ℕ) → IsBlockSize size → fan size dinode_length ≤ j → size - dinode_length ≤ 8 * j
pointers_fill size j (inl e) past = let more : 35 ≤ j = subst (λ n. fan n dinode_length ≤ j) e past in omega (arith, e, more)
pointers_fill size j (inr (inl e)) past = let more : 99 ≤ j = subst (λ n. fan n dinode_length ≤ j) e past in omega (arith, e, more)
pointers_fill size j (inr (inr (inl e))) past = let more : 227 ≤ j = subst (λ n. fan n dinode_length ≤ j) e past in omega (arith, e, more)
pointers_fill size j (inr (inr (inr e))) past = let more : 483 ≤ j = subst (λ n. fan n dinode_length ≤ j) e past in omega (arith, e, more)

pub raised_whole : (old : List ℕ) → dinode_length ≤ length old → length (raised_bytes old) ≡ length old
raised_whole old large =
    let made : length (new_bytes (length old) 1) ≡ length old = new_length (length old) 1 (omega (arith, large)) in
    length-put header_length (drop dinode_length old) (new_bytes (length old) 1) (omega (arith, made, large, length-drop dinode_length old)) ∙ made

module _ (size : ℕ) (old : List ℕ) (is_size : IsBlockSize size) (long : length old ≡ size) where
  large : 512 ≤ size
  large = size_large size is_size

  new_long : length (new_bytes (length old) 1) ≡ size
  new_long = new_length (length old) 1 (omega (arith, long, large)) ∙ long

  behind_long : length (drop dinode_length old) ≡ size - dinode_length
  behind_long = omega (arith, long, length-drop dinode_length old)

  room : header_length + length (drop dinode_length old) ≤ length (new_bytes (length old) 1)
  room = omega (arith, behind_long, new_long, large)

  pub raised_long : length (raised_bytes old) ≡ size
  raised_long = raised_whole old (omega (arith, long, large)) ∙ long

  pub raised_header : HasHeader 5 500 (raised_bytes old)
  unfolding number_at
  raised_header =
      let made = (is_new_block (length old) 1 (omega (arith, long, large))).header 0 refl in
      let same = λ (k : ℕ) (low : k + 4 ≤ header_length). ap (from_be_bytes w32) (slice-put_before header_length (drop dinode_length old) (new_bytes (length old) 1) room k 4 low) in
      record { magic_is = same 0 (omega arith) ∙ made.magic_is; kind_is = same 4 (omega arith) ∙ made.kind_is; format_is = same 16 (omega arith) ∙ made.format_is }

  pub raised_pointer : (j : ℕ) → j < fan size dinode_length → u64_at (header_length + 8 * j) (raised_bytes old) ≡ u64_at (dinode_length + 8 * j) old
  raised_pointer j near =
      let front : length (take header_length (new_bytes (length old) 1)) ≡ header_length = omega (arith, new_long, large, length-take header_length (new_bytes (length old) 1)) in
      let fits : 8 * j + 8 ≤ length (drop dinode_length old) = omega (arith, near, behind_long) in
      number_behind (raised_bytes old) header_length (8 * j) ∙ ap (u64_at (8 * j)) (drop_at (take header_length (new_bytes (length old) 1)) _ header_length front)
      ∙ numbers_in_front (drop dinode_length old) (drop (header_length + length (drop dinode_length old)) (new_bytes (length old) 1)) (8 * j) fits
      ∙ sym (number_behind old dinode_length (8 * j))

  pub raised_hole : (j : ℕ) → fan size dinode_length ≤ j → u64_at (header_length + 8 * j) (raised_bytes old) ≡ 0
  raised_hole j past =
      let end = header_length + length (drop dinode_length old) in
      let zeros_long : 24 ≤ length (replicate {A = ℕ} (length old) 0) = omega (arith, long, large, length-replicate {A = ℕ} (length old) 0) in
      let zeros : drop (header_length + length (drop dinode_length old)) (raised_bytes old) ≡ replicate (length old - (header_length + length (drop dinode_length old))) 0
      = drop-put header_length (drop dinode_length old) (new_bytes (length old) 1) room end (omega arith)
      ∙ drop-fields (header_fields head) (replicate (length old) 0) zeros_long end (omega arith) ∙ drop-replicate end (length old) 0 in
      let more : size - dinode_length ≤ 8 * j = pointers_fill size j is_size past in
      let place : header_length + 8 * j ≡ end + (header_length + 8 * j - end) = omega (arith, more, behind_long) in
      ap (λ n. u64_at n (raised_bytes old)) place ∙ zeros_are_no_number (raised_bytes old) end (header_length + 8 * j - end) (length old - end) zeros

-- ---- cells that are moved

moved_cells_part : (own b : ℕ) (o : Option Cell) → cell_part (moved_cell own b o) ≡ moved own b (cell_part o)
moved_cells_part own b None = refl
moved_cells_part own b (Some c) = by c.part
  where
    by : (p : Part) → Some (moved_part own b p) ≡ moved own b (Some p)
    by Itself = refl
    by (Pointed from k level first) = refl
    by (InChain hash place) = refl

moved_cells_bytes : (own b : ℕ) (o : Option Cell) → cell_bytes (moved_cell own b o) ≡ cell_bytes o
moved_cells_bytes own b None = refl
moved_cells_bytes own b (Some c) = refl

moved_there : (own b : ℕ) (o : Option Cell) → IsSome o → IsSome (moved_cell own b o)
moved_there own b None there = there
moved_there own b (Some c) there = refl

was_there : (own b : ℕ) (o : Option Cell) → IsSome (moved_cell own b o) → IsSome o
was_there own b None there = there
was_there own b (Some c) there = refl

pub some_there : (o : Option Cell) (c : Cell) → o ≡ Some c → IsSome o
some_there None c e = absurd (cc)
some_there (Some d) c e = refl

-- ---- the risen file

module _ (h : Holding) (level b : ℕ) (d : Dinode) (own new : List ℕ) (file : IsFile h) (can : CanRise h level) (fresh : IsNewTo h b) (d_is : d ≡ record (dinode_in h) { height = suc (suc level) })
    (led : IsLedBlock h.size d b own) (new_is : new ≡ raised_bytes (bytes_at h h.own)) where
  own_old : h.own ≢ b
  own_old same = let both : Some Itself ≡ None = sym file.own ∙ ap (part_at h) same ∙ ap cell_part fresh.new in absurd (cc)

  here : raised_cells h level b own new b ≡ Some (record { part = Pointed h.own 0 (suc level) 0; bytes = new })
  here = cond-true _ _ _ (eq-eqb b b refl)

  elsewhere : (x : ℕ) → x ≢ b → raised_cells h level b own new x ≡ moved_cell h.own b (rewritten_cells h h.own own x)
  elsewhere x apart = cond-false _ _ _ (ne_eqb x b apart)

  kept : ((y : ℕ) → part_at (with_cells h (rewritten_cells h h.own own)) y ≡ part_at h y) × (bytes_at (with_cells h (rewritten_cells h h.own own)) h.own ≡ own)
      × ((y : ℕ) → y ≢ h.own → bytes_at (with_cells h (rewritten_cells h h.own own)) y ≡ bytes_at h y)
  kept = rewrites_keep_the_rest h h.own Itself own file.own

  bytes_kept : (x : ℕ) → x ≢ b → bytes_at (with_cells h (raised_cells h level b own new)) x ≡ bytes_at (with_cells h (rewritten_cells h h.own own)) x
  bytes_kept x apart = ap cell_bytes (elsewhere x apart) ∙ moved_cells_bytes h.own b (rewritten_cells h h.own own x)

  own_bytes : bytes_at (with_cells h (raised_cells h level b own new)) h.own ≡ own
  own_bytes = bytes_kept h.own own_old ∙ kept.1

  new_here : bytes_at (with_cells h (raised_cells h level b own new)) b ≡ new
  new_here = ap cell_bytes here

  old_long : length (bytes_at h h.own) ≡ h.size
  old_long = file.whole h.own Itself file.own

  said : (dinode_in (with_cells h (rewritten_cells h h.own own)) ≡ d) × HasHeader 4 400 (bytes_at (with_cells h (rewritten_cells h h.own own)) h.own)
  said = let all = written_dinodes_are_said h Itself own d file.own led.read in (all.0, all.1)

  dinode_same : dinode_in (with_cells h (raised_cells h level b own new)) ≡ dinode_in (with_cells h (rewritten_cells h h.own own))
  unfolding dinode_in
  dinode_same = ap dinode_of (bytes_kept h.own own_old)

  pub risen : IsRaised h (raised_cells h level b own new) level b
  risen = record {
    high = can.high;
    low = can.low;
    leads = can.leads;
    new = fresh.new;
    some = fresh.some;
    inside = fresh.inside;
    part = ap cell_part here;
    whole = ap length (new_here ∙ new_is) ∙ raised_long h.size (bytes_at h h.own) file.block_size old_long;
    header = subst (HasHeader 5 500) (sym (new_here ∙ new_is)) (raised_header h.size (bytes_at h h.own) file.block_size old_long);
    dinode = dinode_same ∙ said.0 ∙ d_is;
    own_header = subst (HasHeader 4 400) (sym (bytes_kept h.own own_old)) said.1;
    own_whole = ap length own_bytes ∙ led.whole;
    first = ap (u64_at dinode_length) own_bytes ∙ led.first;
    rest = λ j other low. ap (u64_at (dinode_length + 8 * j)) own_bytes ∙ led.rest j other;
    moved_here = λ j near. ap (u64_at (header_length + 8 * j)) (new_here ∙ new_is) ∙ raised_pointer h.size (bytes_at h h.own) file.block_size old_long j near;
    none_behind = λ j past low. ap (u64_at (header_length + 8 * j)) (new_here ∙ new_is) ∙ raised_hole h.size (bytes_at h h.own) file.block_size old_long j past;
    parts = λ x apart. ap cell_part (elsewhere x apart) ∙ moved_cells_part h.own b (rewritten_cells h h.own own x) ∙ ap (moved h.own b) (kept.0 x);
    others = λ x apart other. bytes_kept x apart ∙ kept.2 x other;
  }

  -- each block but the new one was there before
  rest_kept : (y : ℕ) → y ≢ b → IsSome (raised_cells h level b own new y) → IsKept (with_cells h (rewritten_cells h h.own own)) (with_cells h (raised_cells h level b own new)) y
  rest_kept y apart there = record {
    had = was_there h.own b (rewritten_cells h h.own own y) (subst IsSome (elsewhere y apart) there);
    bytes = bytes_kept y apart;
    content = (back, on);
  }
    where
      part_is : part_at (with_cells h (raised_cells h level b own new)) y ≡ moved h.own b (part_at (with_cells h (rewritten_cells h h.own own)) y)
      part_is = ap cell_part (elsewhere y apart) ∙ moved_cells_part h.own b (rewritten_cells h h.own own y)

      back : IsContentIn (with_cells h (raised_cells h level b own new)) y → IsContentIn (with_cells h (rewritten_cells h h.own own)) y
      back (a, k, first, part) = let was = unmoved h.own b (part_at (with_cells h (rewritten_cells h h.own own)) y) a k 0 first (sym part_is ∙ part) in (was.0, k, first, was.1)

      on : IsContentIn (with_cells h (rewritten_cells h h.own own)) y → IsContentIn (with_cells h (raised_cells h level b own new)) y
      on (a, k, first, part) = (_, k, first, part_is ∙ ap (moved h.own b) part)

  more : (y : ℕ) → IsSome (rewritten_cells h h.own own y) → IsSome (raised_cells h level b own new y)
  more y there = elim (cases_eq y b) [
    | inl same ↦ some_there _ _ (ap (raised_cells h level b own new) same ∙ here)
    | inr apart ↦ subst IsSome (sym (elsewhere y apart)) (moved_there h.own b (rewritten_cells h h.own own y) there)
  ]

  -- ---- in a draft

  pub risen_after : {V : Type 0} (seen : V → Seen) (old now : Drafted V) (inode : ℕ) → IsShown (seen_in seen old) inode h
      → now ≡ record old { fates = insert (insert old.fates inode (Put (inode_lock inode) false own)) b (Put (inode_lock inode) false new) }
      → Becomes (seen_in seen now) old.fates now.fates inode h (with_cells h (raised_cells h level b own new))
  risen_after {V} seen old now inode shown is =
      becomes_by_two seen old now inode b false own new h (raised_cells h level b own new) file (raises_keep_files h (raised_cells h level b own new) level b file risen).0 shown is
      (some_there _ _ here) new_here (λ e. absurd (cc), λ c. absurd (omega (arith, same_level (sym (ap cell_part here) ∙ c.3)))) rest_kept more

-- ---- as the code does it

pub put_by : {V : Type 0} (old mid now : Drafted V) (lock : LockName) (inode b : ℕ) (d : Dinode) (bytes new : List ℕ)
    → mid ≡ record old { fates = insert old.fates inode (Put (inode_lock inode) false (led_bytes (record d { height = d.height + 1 }) b bytes)) }
    → now ≡ record mid { fates = insert mid.fates b (Put lock false new) } → lock ≡ inode_lock inode → new ≡ raised_bytes bytes
    → now ≡ record old { fates = insert (insert old.fates inode (Put (inode_lock inode) false (led_bytes (record d { height = d.height + 1 }) b bytes))) b (Put (inode_lock inode) false (raised_bytes bytes)) }
put_by old mid now lock inode b d bytes new put_own put_new lock_is new_is = put_new ∙ (λ t. record { view = (put_own t).view; fates = insert (put_own t).fates b (Put (lock_is t) false (new_is t)) })

pub raised_by : {V : Type 0} (seen : V → Seen) (old mid now : Drafted V) (lock : LockName) (inode b level : ℕ) (d : Dinode) (bytes new : List ℕ) → (seen_in seen old).block_at inode ≡ Some bytes
    → mid ≡ record old { fates = insert old.fates inode (Put (inode_lock inode) false (led_bytes (record d { height = d.height + 1 }) b bytes)) }
    → now ≡ record mid { fates = insert mid.fates b (Put lock false new) } → lock ≡ inode_lock inode → new ≡ raised_bytes bytes
    → IsLedBlock (seen old.view).size (record d { height = d.height + 1 }) b (led_bytes (record d { height = d.height + 1 }) b bytes)
    → (h : Holding) → IsFile h → IsShown (seen_in seen old) inode h → d ≡ dinode_in h → CanRise h level → IsNewTo h b
    → IsRaised h (raised_cells h level b (led_bytes (record d { height = d.height + 1 }) b bytes) (raised_bytes bytes)) level b
    × Becomes (seen_in seen now) old.fates now.fates inode h (with_cells h (raised_cells h level b (led_bytes (record d { height = d.height + 1 }) b bytes) (raised_bytes bytes)))
raised_by seen old mid now lock inode b level d bytes new there put_own put_new lock_is new_is led h file shown d_is can fresh =
    (risen h level b _ (led_bytes (record d { height = d.height + 1 }) b bytes) (raised_bytes bytes) file can fresh says led' made, risen_after h level b _ (led_bytes (record d { height = d.height + 1 }) b bytes) (raised_bytes bytes) file can fresh says led' made seen old now inode shown puts)
  where
    bytes_are : bytes_at h h.own ≡ bytes
    bytes_are = own_seen (seen_in seen old) inode bytes h shown there

    made : raised_bytes bytes ≡ raised_bytes (bytes_at h h.own)
    made = ap raised_bytes (sym bytes_are)

    higher : d.height + 1 ≡ suc (suc level)
    higher = omega (arith, can.high, ap (λ (x : Dinode). x.height) d_is)

    says : record d { height = d.height + 1 } ≡ record (dinode_in h) { height = suc (suc level) }
    says = λ t. record (d_is t) { height = higher t }

    led' : IsLedBlock h.size (record d { height = d.height + 1 }) b (led_bytes (record d { height = d.height + 1 }) b bytes)
    led' = subst (λ n. IsLedBlock n (record d { height = d.height + 1 }) b (led_bytes (record d { height = d.height + 1 }) b bytes)) (sym shown.size) led

    puts : now ≡ record old { fates = insert (insert old.fates inode (Put (inode_lock inode) false (led_bytes (record d { height = d.height + 1 }) b bytes))) b (Put (inode_lock inode) false (raised_bytes bytes)) }
    puts = put_by old mid now lock inode b d bytes new put_own put_new lock_is new_is
