-- What the test of a change tells: that a log takes it.
use Rattle.std.proofs.Common.{◌≡◌, ◌≢◌, ◌+◌, ◌<◌, ◌≤◌, ℕ, inl, inr, Bool, true, false, List, [], ◌∷◌, length, map, get_or, Option, None, Some, Ok, refl, sym, ap, subst, ◌∙◌, true≢false, arith}
use Rattle.std.specs.Prelude.{◌==◌, Contains, Result, not}
use Rattle.std.specs.List.{All, AllByRecursion}
use Rattle.std.specs.List.Sorted.{IsStrictlyIncreasing}
use Rattle.std.proofs.lemmas.Bool.{cases_Bool, cond-false, cond-true, eq-eqb, eqb-true, ne_eqb}
use Rattle.std.proofs.lemmas.List.{get_or-map}
use Rattle.std.proofs.lemmas.List.Elements.{All-contains, All-from_recursion, All-map}
use Rattle.std.proofs.lemmas.Map.Keys.{IsStrictlyIncreasing-from_sorted}
use Rattle.std.proofs.Math.ListN.{length-map}
use Rattle.profile_limits.specs.Limits.{most_blocks}
use Rattle.gfs2_layout.specs.Bytes.{u32_at}
use Rattle.gfs2_layout.specs.Device.{IsBlockSize}
use Rattle.gfs2_layout.specs.Structures.{answer, header_of, header_read, length_fault, magic, magic_fault, or_else}
use Rattle.gfs2_layout.specs.declared.fault.LayoutFault.{LayoutFault}
use Rattle.gfs2_layout.specs.declared.fault.LayoutFault.TheVariants.{Magic}
use Rattle.gfs2_layout.specs.declared.header.MetaHeader.{MetaHeader}
use Rattle.gfs2_layout.proofs.HeaderLaws.{answer_ok, some_none}
use Rattle.gfs2_layout.proofs.ReadBack.{no_length_fault}
use Rattle.glock_names.specs.Views.{Seen, end_of}
use Rattle.drafts.specs.declared.change.Change.{Change}
use Rattle.drafts.specs.declared.change.Written.{Written}
use Rattle.image_model.proofs.Lengths.{size_large}
use Rattle.image_model.proofs.Members.{is_in}
use Rattle.image_changes.specs.Does.{AreInside, IsFormed, IsInside}
use Rattle.journal_scan.specs.Said.{logged}
use Rattle.node_journal.specs.Written.{IsLoggable as IsLoggableBlock}
use Rattle.loggable_changes.proofs.Logged.{blocks_as_logged, is_freed, is_written}
use Rattle.logged_calls.specs.Adding.{IsBlockOfLog, IsLoggable, MayBeLogged, content, metadata}

-- ---- a header that is read

none_behind : (o q : Option LayoutFault) → or_else o q ≡ None → q ≡ None
none_behind None q e = e
none_behind (Some f) q e = absurd (some_none f e)

magic_there : (bytes : List ℕ) → magic_fault bytes ≡ None → u32_at 0 bytes ≡ magic
magic_there bytes e = elim (cases_Bool (u32_at 0 bytes == magic)) [
  | inl so ↦ eqb-true (u32_at 0 bytes) magic so
  | inr off ↦ absurd (some_none Magic (sym (cond-false (u32_at 0 bytes == magic) None (Some Magic) off) ∙ e))
]

-- it has the magic, and its kind
read_so : (bytes : List ℕ) (h : MetaHeader) → header_read bytes ≡ Ok h → (u32_at 0 bytes ≡ magic) × (u32_at 4 bytes ≡ h.kind)
read_so bytes h e =
    let back = answer_ok (or_else (length_fault 24 bytes) (magic_fault bytes)) (header_of bytes) h e in
    (magic_there bytes (none_behind (length_fault 24 bytes) (magic_fault bytes) back.0), ap (λ (m : MetaHeader). m.kind) back.1)

-- behind the magic there is one
reads : (bytes : List ℕ) → 24 ≤ length bytes → u32_at 0 bytes ≡ magic → header_read bytes ≡ Ok (header_of bytes)
reads bytes long is =
    let short : length_fault 24 bytes ≡ None = no_length_fault 24 bytes long in
    let bad : magic_fault bytes ≡ None = cond-true (u32_at 0 bytes == magic) None (Some Magic) (eq-eqb (u32_at 0 bytes) magic is) in
    (λ i. answer (or_else (short i) (bad i)) (header_of bytes))

-- ---- the test of a block

-- of metadata the header is read, and is of another kind
other_kind : (w : Written) (h : MetaHeader) → w.plain ≡ false → header_read w.bytes ≡ Ok h → IsBlockOfLog w → h.kind ≢ 8
other_kind w h plain is (content e) = absurd (true≢false (sym e ∙ plain))
other_kind w h plain is (metadata g read other) = λ e. other (ap (λ (x : MetaHeader). x.kind) (let same : g ≡ h = (let both = sym read ∙ is in cc) in same) ∙ e)

-- it passes exactly where it is of another kind
pub kind_tells : (w : Written) (h : MetaHeader) (bytes : List ℕ) (r : Result MetaHeader LayoutFault) → w.plain ≡ false → bytes ≡ w.bytes → r ≡ header_read bytes → r ≡ Ok h
    → (not (h.kind == 8) ≡ true → IsBlockOfLog w) × (IsBlockOfLog w → not (h.kind == 8) ≡ true)
kind_tells w h bytes r plain same is ok =
    let read : header_read w.bytes ≡ Ok h = ap header_read (sym same) ∙ sym is ∙ ok in
    ((λ e. metadata h read (λ eight. true≢false (sym e ∙ ap not (eq-eqb h.kind 8 eight)))), (λ passes. ap not (ne_eqb h.kind 8 (other_kind w h plain read passes))))

-- ---- what it tells of a whole block

module _ (size : ℕ) (w : Written) (whole : length w.bytes ≡ size) where
  taken_block : IsBlockOfLog w → IsLoggableBlock size (logged w)
  taken_block (content plain) = record { whole = whole; magic = λ e. absurd (true≢false (sym plain ∙ e)); other = λ e. absurd (true≢false (sym plain ∙ e)) }
  taken_block (metadata h read other) = let so = read_so w.bytes h read in record { whole = whole; magic = λ e. so.0; other = λ e eight. other (sym so.1 ∙ eight) }

  block_taken : 24 ≤ size → IsLoggableBlock size (logged w) → IsBlockOfLog w
  block_taken long is = by w.plain refl
    where
      by : (b : Bool) → w.plain ≡ b → IsBlockOfLog w
      by true e = content e
      by false e = metadata (header_of w.bytes) (reads w.bytes (omega (arith, long, whole)) (is.magic e)) (is.other e)

-- ---- a change of the right form, of whole blocks

pub are_whole : (v : Seen) (ws : List Written) → AllByRecursion (IsInside v) ws → AllByRecursion (λ (w : Written). length w.bytes ≡ v.size) ws
are_whole v [] all = tt
are_whole v (w ∷ ws) all = (all.0.whole, are_whole v ws all.1)

-- its blocks are blocks of a disk on which the groups are
pub are_on : (v : Seen) (count : ℕ) (change : Change) → AllByRecursion (λ g. end_of g ≤ count) v.groups → AreInside v change → All (λ (w : Written). w.block < count) change.blocks.items
are_on v count change groups inside k d low =
    let is = All-from_recursion (IsInside v) change.blocks.items inside k d low in
    let end : end_of is.inside.group ≤ count = All-contains (λ g. end_of g ≤ count) v.groups is.inside.group (All-from_recursion (λ g. end_of g ≤ count) v.groups groups) is.inside.has in
    let high = is.inside.high in
    omega (arith, end, high)

module _ (size : ℕ) (change : Change) (sized : IsBlockSize size) (whole : AllByRecursion (λ (w : Written). length w.bytes ≡ size) change.blocks.items) where
  abbrev ws : List Written
  ws = change.blocks.items

  whole_at : (k : ℕ) (d : Written) → k < length ws → length (get_or ws k d).bytes ≡ size
  whole_at = All-from_recursion (λ (w : Written). length w.bytes ≡ size) ws whole

  apart : IsFormed change → (b : ℕ) → Contains (map (λ e. e.block) (map logged ws)) b → Contains change.freed.items b → ⊥
  apart form b in_blocks in_freed =
      let put = is_written ws b (is_in b (map (λ (w : Written). w.block) ws) (subst (λ xs. Contains xs b) (blocks_as_logged ws) in_blocks)) in
      true≢false (sym put ∙ form.apart b (is_freed change.freed.items b (is_in b change.freed.items in_freed)))

  -- that passes is one that a log takes
  pub passed_is_loggable : IsFormed change → MayBeLogged change → IsLoggable size change
  passed_is_loggable form may = record {
    can = record {
      locks = form.locks;
      whole = record {
        sized = sized;
        rising = subst IsStrictlyIncreasing (sym (blocks_as_logged ws)) (IsStrictlyIncreasing-from_sorted (map (λ (w : Written). w.block) ws) form.blocks);
        revokes = IsStrictlyIncreasing-from_sorted change.freed.items form.freed;
        apart = apart form;
        few = subst (λ n. n + length change.freed.items ≤ most_blocks) (sym (length-map ws logged)) may.few;
        blocks = All-map (IsLoggableBlock size) logged ws (λ k d low. taken_block size (get_or ws k d) (whole_at k d low) (may.blocks k d low));
      };
    };
    some = may.some;
  }

  -- and so is no other
  pub loggable_passes : IsLoggable size change → MayBeLogged change
  loggable_passes is = record {
    some = is.some;
    few = subst (λ n. n + length change.freed.items ≤ most_blocks) (length-map ws logged) is.can.whole.few;
    blocks = λ k d low.
        let large = size_large size sized in
        let there : k < length (map logged ws) = (let same = length-map ws logged in omega (arith, same, low)) in
        block_taken size (get_or ws k d) (whole_at k d low) (omega (arith, large)) (subst (IsLoggableBlock size) (get_or-map logged ws k d (logged d) low) (is.can.whole.blocks k (logged d) there));
  }
