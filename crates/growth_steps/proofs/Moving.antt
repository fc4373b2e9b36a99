-- A file in a draft whose stuffed content moves to a block.
use Rattle.std.proofs.Common.{◌≡◌, ◌≢◌, ℕ, ◌+◌, ◌-◌, ◌*◌, ◌≤◌, inl, inr, true, false, List, ◌++◌, length, take, drop, None, Some, refl, sym, ap, ap₂, subst, ◌∙◌, arith}
use Rattle.std.proofs.lemmas.Bool.{cases_eq, cond-true, cond-false, eq-eqb, ne_eqb}
use Rattle.std.proofs.lemmas.List.{length-take, length-drop, length-append, length-replicate}
use Rattle.std.specs.Prelude.{IsSome, replicate}
use Rattle.std.specs.FinMap.{insert}
use Rattle.drafts.specs.Fates.{Drafted, seen_in}
use Rattle.drafts.specs.declared.fate.Fate.TheVariants.{Put}
use Rattle.gfs2_layout.specs.Bytes.{u64_at}
use Rattle.gfs2_layout.specs.Headers.{HasHeader}
use Rattle.gfs2_layout.specs.Holding.{Itself, Pointed, Holding, cell_part, cell_bytes, part_at, bytes_at}
use Rattle.gfs2_layout.specs.Inode.{dinode_in}
use Rattle.gfs2_layout.specs.Structures.{dinode_length, dinode_of}
use Rattle.gfs2_layout.specs.declared.dinode.Dinode.{Dinode}
use Rattle.glock_names.specs.Views.{Seen}
use Rattle.glock_names.specs.declared.LockName.{LockName}
use Rattle.dinode_tree.specs.Reading.{inode_lock}
use Rattle.dinode_tree.specs.Shown.{IsShown}
use Rattle.growth_laws.specs.Blocks.{rewritten_cells}
use Rattle.growth_laws.specs.Files.{IsFile, with_cells}
use Rattle.growth_laws.specs.Steps.{IsUnstuffed}
use Rattle.growth_laws.proofs.Bare.{content_stuffed}
use Rattle.growth_laws.proofs.Numbers.{written_dinodes_are_said}
use Rattle.growth_laws.proofs.Pointing.{rewrites_keep_the_rest}
use Rattle.growth_laws.proofs.Unstuffing.{unstuffing_keeps_files}
use Rattle.growth_steps.specs.Becoming.{Becomes}
use Rattle.growth_steps.specs.Heights.{HasStuffed, IsLedBlock, IsNewTo, led_bytes, moved_bytes, unstuffed_cells}
use Rattle.growth_steps.proofs.Putting.{IsKept, becomes_by_two, own_seen}
use Rattle.growth_steps.proofs.Rising.{some_there}

pub moved_whole : (size : ℕ) (old : List ℕ) → dinode_length + size ≤ length old → length (moved_bytes size old) ≡ length old
moved_whole size old fits =
    omega (arith, fits, length-append (take size (drop dinode_length old)) (replicate (length old - size) 0), length-take size (drop dinode_length old), length-drop dinode_length old, length-replicate {A = ℕ} (length old - size) 0)

module _ (h : Holding) (b : ℕ) (d : Dinode) (own new : List ℕ) (file : IsFile h) (has : HasStuffed h) (fresh : IsNewTo h b) (d_is : d ≡ record (dinode_in h) { height = 1 })
    (led : IsLedBlock h.size d b own) (new_is : new ≡ moved_bytes (dinode_in h).size (bytes_at h h.own)) where
  own_old : h.own ≢ b
  own_old same = let both : Some Itself ≡ None = sym file.own ∙ ap (part_at h) same ∙ ap cell_part fresh.new in absurd (cc)

  here : unstuffed_cells h b own new b ≡ Some (record { part = Pointed h.own 0 0 0; bytes = new })
  here = cond-true _ _ _ (eq-eqb b b refl)

  elsewhere : (x : ℕ) → x ≢ b → unstuffed_cells h b own new x ≡ rewritten_cells h h.own own x
  elsewhere x apart = cond-false _ _ _ (ne_eqb x b apart)

  kept : ((y : ℕ) → part_at (with_cells h (rewritten_cells h h.own own)) y ≡ part_at h y) × (bytes_at (with_cells h (rewritten_cells h h.own own)) h.own ≡ own)
      × ((y : ℕ) → y ≢ h.own → bytes_at (with_cells h (rewritten_cells h h.own own)) y ≡ bytes_at h y)
  kept = rewrites_keep_the_rest h h.own Itself own file.own

  bytes_kept : (x : ℕ) → x ≢ b → bytes_at (with_cells h (unstuffed_cells h b own new)) x ≡ bytes_at (with_cells h (rewritten_cells h h.own own)) x
  bytes_kept x apart = ap cell_bytes (elsewhere x apart)

  own_bytes : bytes_at (with_cells h (unstuffed_cells h b own new)) h.own ≡ own
  own_bytes = bytes_kept h.own own_old ∙ kept.1

  new_here : bytes_at (with_cells h (unstuffed_cells h b own new)) b ≡ new
  new_here = ap cell_bytes here

  said : (dinode_in (with_cells h (rewritten_cells h h.own own)) ≡ d) × HasHeader 4 400 (bytes_at (with_cells h (rewritten_cells h h.own own)) h.own)
  said = let all = written_dinodes_are_said h Itself own d file.own led.read in (all.0, all.1)

  dinode_same : dinode_in (with_cells h (unstuffed_cells h b own new)) ≡ dinode_in (with_cells h (rewritten_cells h h.own own))
  unfolding dinode_in
  dinode_same = ap dinode_of (bytes_kept h.own own_old)

  pub unstuffed : IsUnstuffed h (unstuffed_cells h b own new) b
  unstuffed = record {
    stuffed = has.stuffed;
    content = has.content;
    new = fresh.new;
    some = fresh.some;
    inside = fresh.inside;
    part = ap cell_part here;
    bytes = new_here ∙ new_is ∙ ap₂ (λ xs n. xs ++ replicate (n - (dinode_in h).size) 0) (sym (content_stuffed h has.stuffed)) (file.whole h.own Itself file.own);
    dinode = dinode_same ∙ said.0 ∙ d_is;
    own_header = subst (HasHeader 4 400) (sym (bytes_kept h.own own_old)) said.1;
    own_whole = ap length own_bytes ∙ led.whole;
    first = ap (u64_at dinode_length) own_bytes ∙ led.first;
    rest = λ j other low. ap (u64_at (dinode_length + 8 * j)) own_bytes ∙ led.rest j other;
    parts = λ x apart. ap cell_part (elsewhere x apart) ∙ kept.0 x;
    others = λ x apart other. bytes_kept x apart ∙ kept.2 x other;
  }

  rest_kept : (y : ℕ) → y ≢ b → IsSome (unstuffed_cells h b own new y) → IsKept (with_cells h (rewritten_cells h h.own own)) (with_cells h (unstuffed_cells h b own new)) y
  rest_kept y apart there = record {
    had = subst IsSome (elsewhere y apart) there;
    bytes = bytes_kept y apart;
    content = (λ c. (c.0, c.1, c.2, sym (ap cell_part (elsewhere y apart)) ∙ c.3), λ c. (c.0, c.1, c.2, ap cell_part (elsewhere y apart) ∙ c.3));
  }

  more : (y : ℕ) → IsSome (rewritten_cells h h.own own y) → IsSome (unstuffed_cells h b own new y)
  more y there = elim (cases_eq y b) [
    | inl same ↦ some_there _ _ (ap (unstuffed_cells h b own new) same ∙ here)
    | inr apart ↦ subst IsSome (sym (elsewhere y apart)) there
  ]

  pub unstuffed_after : {V : Type 0} (seen : V → Seen) (old now : Drafted V) (inode : ℕ) → IsShown (seen_in seen old) inode h
      → now ≡ record old { fates = insert (insert old.fates inode (Put (inode_lock inode) false own)) b (Put (inode_lock inode) true new) }
      → Becomes (seen_in seen now) old.fates now.fates inode h (with_cells h (unstuffed_cells h b own new))
  unstuffed_after {V} seen old now inode shown is =
      becomes_by_two seen old now inode b true own new h (unstuffed_cells h b own new) file (unstuffing_keeps_files h (unstuffed_cells h b own new) b file unstuffed).0 shown is
      (some_there _ _ here) new_here (λ e. (h.own, 0, 0, ap cell_part here), λ c. refl) rest_kept more

-- ---- as the code does it

pub put_by : {V : Type 0} (old mid now : Drafted V) (lock : LockName) (inode b : ℕ) (d : Dinode) (bytes new : List ℕ)
    → mid ≡ record old { fates = insert old.fates inode (Put (inode_lock inode) false (led_bytes (record d { height = 1 }) b bytes)) }
    → now ≡ record mid { fates = insert mid.fates b (Put lock true new) } → lock ≡ inode_lock inode → new ≡ moved_bytes d.size bytes
    → now ≡ record old { fates = insert (insert old.fates inode (Put (inode_lock inode) false (led_bytes (record d { height = 1 }) b bytes))) b (Put (inode_lock inode) true (moved_bytes d.size bytes)) }
put_by old mid now lock inode b d bytes new put_own put_new lock_is new_is = put_new ∙ (λ t. record { view = (put_own t).view; fates = insert (put_own t).fates b (Put (lock_is t) true (new_is t)) })

pub moved_by : {V : Type 0} (seen : V → Seen) (old mid now : Drafted V) (lock : LockName) (inode b : ℕ) (d : Dinode) (bytes new : List ℕ) → (seen_in seen old).block_at inode ≡ Some bytes
    → mid ≡ record old { fates = insert old.fates inode (Put (inode_lock inode) false (led_bytes (record d { height = 1 }) b bytes)) }
    → now ≡ record mid { fates = insert mid.fates b (Put lock true new) } → lock ≡ inode_lock inode → new ≡ moved_bytes d.size bytes
    → IsLedBlock (seen old.view).size (record d { height = 1 }) b (led_bytes (record d { height = 1 }) b bytes)
    → (h : Holding) → IsFile h → IsShown (seen_in seen old) inode h → d ≡ dinode_in h → HasStuffed h → IsNewTo h b
    → IsUnstuffed h (unstuffed_cells h b (led_bytes (record d { height = 1 }) b bytes) (moved_bytes d.size bytes)) b
    × Becomes (seen_in seen now) old.fates now.fates inode h (with_cells h (unstuffed_cells h b (led_bytes (record d { height = 1 }) b bytes) (moved_bytes d.size bytes)))
moved_by seen old mid now lock inode b d bytes new there put_own put_new lock_is new_is led h file shown d_is has fresh =
    let says : record d { height = 1 } ≡ record (dinode_in h) { height = 1 } = ap (λ (x : Dinode). record x { height = 1 }) d_is in
    let led' = subst (λ n. IsLedBlock n (record d { height = 1 }) b (led_bytes (record d { height = 1 }) b bytes)) (sym shown.size) led in
    let bytes_are : bytes_at h h.own ≡ bytes = own_seen (seen_in seen old) inode bytes h shown there in
    let made : moved_bytes d.size bytes ≡ moved_bytes (dinode_in h).size (bytes_at h h.own) = (λ t. moved_bytes (d_is t).size (sym bytes_are t)) in
    (unstuffed h b _ _ _ file has fresh says led' made, unstuffed_after h b _ _ _ file has fresh says led' made seen old now inode shown (put_by old mid now lock inode b d bytes new put_own put_new lock_is new_is))
