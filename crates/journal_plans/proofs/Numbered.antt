-- Numbers of live blocks in a journal in memory stand where they do in the journal that it was read from; and what goes home is whole.
use Rattle.std.proofs.Common.{◌≡◌, ◌+◌, ◌-◌, ◌*◌, ◌<◌, ◌≤◌, ℕ, drop, length-drop, zero, suc, true, false, List, [], ◌∷◌, length, Option, None, Some, refl, sym, ap, ap₂, subst, ◌∙◌, inl, inr, arith}
use Rattle.std.specs.Prelude.{◌==◌, map, find, MatchOption, Ok, Err, Result, slice_index}
use Rattle.std.specs.List.{AllByRecursion}
use Rattle.std.specs.List.Sorted.{IsStrictlyIncreasing}
use Rattle.std.specs.Option.{option_map}
use Rattle.std.proofs.lemmas.Bool.{cases_Bool, cond-true, cond-false, eqb-true}
use Rattle.std.proofs.lemmas.List.{length-take-le}
use Rattle.std.proofs.lemmas.Nat.{mul-le}
use Rattle.gfs2_layout.specs.Bytes.{slice}
use Rattle.gfs2_layout.specs.Device.{IsBlockSize}
use Rattle.journal_scan.specs.Images.{IsImage, ring_of}
use Rattle.journal_scan.specs.declared.image.JournalImage.{JournalImage}
use Rattle.std.proofs.lemmas.Bool.Decides.{nat_tests}
use Rattle.drafts.specs.declared.change.Written.{Written}
use Rattle.log_layout.specs.Chunks.{Logged}
use Rattle.log_layout.specs.Journal.{IsWhole, Placed, Ring, blocks_from, head_in, next, way}
use Rattle.log_layout.specs.Laws.{HasSamePlaces}
use Rattle.log_layout.specs.Live.{IsReadable, live_entry, live_in}
use Rattle.log_layout.specs.Transactions.{Sequenced, transactions_of}
use Rattle.log_layout.specs.declared.log_header.LogHeader.{LogHeader}
use Rattle.log_layout.proofs.SamePlaces.{says_the_same}
use Rattle.journal_scan.specs.Numbers.{IsNumberAt, LiveHaveNumbers, last_number, number_from}
use Rattle.journal_scan.specs.Said.{logged}
use Rattle.peer_replay.specs.Plans.{put_home}
use Rattle.journal_plans.proofs.Planned.{live_told}
use Rattle.journal_plans.proofs.WholeBlocks.{live_is_whole}

some_is : {A : Type 0} {x y : A} → ◌≡◌ {A = Option A} (Some x) (Some y) → x ≡ y
some_is e = cc

none_some : {A : Type 0} (x : A) → ◌≡◌ {A = Option A} None (Some x) → ⊥
none_some x e = cc

err_ok : {A E : Type 0} (x : A) (e : E) → ◌≡◌ {A = Result A E} (Err e) (Ok x) → ⊥
err_ok x e is = cc

-- ---- numbers

module _ (r s : Ring) (same : HasSamePlaces r s) where
  blocks_same : (p count : ℕ) → p < r.places → blocks_from r p count ≡ blocks_from s p count
  blocks_same p zero low = refl
  blocks_same p (suc count) low =
      let inside : next r.places p < r.places = grind (arith, nat_tests, low) in
      ap₂ (λ (b : List ℕ) (bs : List Placed). record { place = p; bytes = b } ∷ bs) (same.blocks p low)
      (blocks_same (next r.places p) count inside ∙ ap (λ n. blocks_from s (next n p) count) same.places)

  number_same : (head : LogHeader) (block : ℕ) → head.tail < r.places → number_from r head block ≡ number_from s head block
  number_same head block low =
      ap₂ (λ size blocks. last_number size block zero None blocks) same.size
      (blocks_same head.tail (way r.places head.tail head.blkno + 1) low ∙ ap (λ n. blocks_from s head.tail (way n head.tail head.blkno + 1)) same.places)

  pub number_told : (block place : ℕ) → IsNumberAt r block place → IsNumberAt s block place
  number_told block place is = record {
    head = is.head;
    headed = sym (says_the_same r s same).head ∙ is.headed;
    tailed = subst (λ n. is.head.tail < n) same.places is.tailed;
    inside = subst (λ n. place < n) same.places is.inside;
    found = sym (number_same is.head block is.tailed) ∙ is.found;
  }

  back : HasSamePlaces s r
  back = record { size = sym same.size; places = sym same.places; blocks = λ p low. sym (same.blocks p (subst (λ n. p < n) (sym same.places) low)) }

  -- what the law says of the journal in memory
  pub has_number : LiveHaveNumbers → IsReadable s → (block : ℕ) (bytes : List ℕ) → live_in s block ≡ Some bytes → (place : ℕ) × IsNumberAt r block place
  has_number law readable block bytes live = law r ((says_the_same s r back).readable readable) block bytes ((says_the_same r s same).live block ∙ live)

pub head_is : (r : Ring) (block place : ℕ) (head : LogHeader) → IsNumberAt r block place → head_in r ≡ Some head → (head.tail < r.places) × (number_from r head block ≡ Some place) × (place < r.places)
head_is r block place head is headed =
    let e : is.head ≡ head = some_is (sym is.headed ∙ headed) in
    (subst (λ (h : LogHeader). h.tail < r.places) e is.tailed, ap (λ h. number_from r h block) (sym e) ∙ is.found, is.inside)

-- a search for the head that fails
pub no_head : {E : Type 0} (o : Option LogHeader) (x : Result LogHeader E) (e f : E) → x ≡ Err e → MatchOption o (x ≡ Err f) (λ h. x ≡ Ok h) → o ≡ None
no_head None x e f is m = refl
no_head (Some h) x e f is m = absurd (err_ok h e (sym is ∙ m))

-- the journal in memory, where the block is live in the one on the disk, which can be read
module _ (r s : Ring) (same : HasSamePlaces r s) (law : LiveHaveNumbers) (readable : IsReadable s) (block : ℕ) (bytes : List ℕ) (live : live_in s block ≡ Some bytes) where
  abbrev has : (place : ℕ) × IsNumberAt r block place
  has = has_number r s same law readable block bytes live

  module _ (head : LogHeader) (headed : head_in r ≡ Some head) where
    pub tail_low : r.places ≤ head.tail → ⊥
    tail_low high = let low : head.tail < r.places = (head_is r block has.0 head has.1 headed).0 in omega (arith, low, high)

    pub is_found : number_from r head block ≡ None → ⊥
    is_found none = none_some has.0 (sym none ∙ (head_is r block has.0 head has.1 headed).1)

    pub place_low : (place : ℕ) → number_from r head block ≡ Some place → r.places ≤ place → ⊥
    place_low place found high =
        let e : place ≡ has.0 = some_is (sym found ∙ (head_is r block has.0 head has.1 headed).1) in
        let low : has.0 < r.places = has.1.inside in
        omega (arith, e, low, high)

    pub number_is : (place : ℕ) → number_from r head block ≡ Some place → IsNumberAt s block place
    number_is place found =
        let e : has.0 ≡ place = some_is (sym (head_is r block has.0 head has.1 headed).1 ∙ found) in
        subst (IsNumberAt s block) e (number_told r s same block has.0 has.1)

-- ---- whole blocks

abbrev Rises : List Written → Type 0
Rises ws = IsStrictlyIncreasing (map (λ (w : Written). w.block) ws)

rises_on : (w : Written) (ws : List Written) → Rises (w ∷ ws) → Rises ws
rises_on w ws rise k less =
    let e : suc k + 1 ≡ suc (k + 1) = omega arith in
    subst (λ n. slice_index (map (λ (v : Written). v.block) (w ∷ ws)) (suc k) < slice_index (map (λ (v : Written). v.block) (w ∷ ws)) n) e (rise (suc k) (omega (arith, less)))

rises_first : (w v : Written) (ws : List Written) → Rises (w ∷ v ∷ ws) → w.block < v.block
rises_first w v ws rise = rise 0 (omega arith)

-- what is found behind a block is of a higher one
above : (w : Written) (ws : List Written) (b : ℕ) (e : Logged) → Rises (w ∷ ws) → put_home ws b ≡ Some e → w.block < b
above w [] b e rise is = absurd (none_some e is)
above w (v ∷ ws) b e rise is =
    let first : w.block < v.block = rises_first w v ws rise in
    elim (cases_Bool (v.block == b)) [
      | inl same ↦ let at : v.block ≡ b = eqb-true v.block b same in subst (λ n. w.block < n) at first
      | inr other ↦
          let rest : put_home ws b ≡ Some e = sym (ap (option_map logged) (cond-false (v.block == b) (Some v) (find (λ (u : Written). u.block == b) ws) other)) ∙ is in
          let more : v.block < b = above v ws b e (rises_on w (v ∷ ws) rise) rest in
          omega (arith, first, more)
    ]

pub all_home : (Q : List ℕ → Type 0) (ws : List Written) → Rises ws → ((b : ℕ) (e : Logged) → put_home ws b ≡ Some e → Q e.bytes) → AllByRecursion (λ (w : Written). Q w.bytes) ws
all_home Q [] rise each = tt
all_home Q (w ∷ ws) rise each =
    let own : (w.block == w.block) ≡ true = grind (arith, nat_tests) in (
      each w.block (logged w) (ap (option_map logged) (cond-true (w.block == w.block) (Some w) (find (λ (u : Written). u.block == w.block) ws) own)),
      all_home Q ws (rises_on w ws rise) (λ b e is.
          let low : w.block < b = above w ws b e rise is in
          let other : (w.block == b) ≡ false = grind (arith, nat_tests, low) in
          each b e (ap (option_map logged) (cond-false (w.block == b) (Some w) (find (λ (u : Written). u.block == b) ws) other) ∙ is)),
    )

pub home_whole : (ring : Ring) → 4 ≤ ring.size → IsWhole ring → IsReadable ring → (ws : List Written) → Rises ws
    → ((head : LogHeader) (ts : List Sequenced) → head_in ring ≡ Some head → transactions_of ring head ≡ Ok ts → (b : ℕ) → put_home ws b ≡ live_entry ts b)
    → AllByRecursion (λ (w : Written). length w.bytes ≡ ring.size) ws
home_whole ring big whole is ws rise live = all_home (λ bytes. length bytes ≡ ring.size) ws rise each
  where
    each : (b : ℕ) (e : Logged) → put_home ws b ≡ Some e → length e.bytes ≡ ring.size
    each b e found =
        let entry : live_entry is.transactions b ≡ Some e = sym (live is.head is.transactions is.headed is.read b) ∙ found in
        live_is_whole ring big whole b e.bytes (live_of_ring b ∙ ap (option_map (λ (l : Logged). l.bytes)) entry)
      where
        live_of_ring : (b : ℕ) → live_in ring b ≡ option_map (λ (l : Logged). l.bytes) (live_entry is.transactions b)
        live_of_ring b = live_told ring ring (record { size = refl; places = refl; blocks = λ p low. refl }) is b

-- a journal in memory has whole blocks
slice_long : (at n : ℕ) (bytes : List ℕ) → at + n ≤ length bytes → length (slice at n bytes) ≡ n
slice_long at n bytes room = length-take-le n (drop at bytes) (let e : length (drop at bytes) ≡ length bytes - at = length-drop at bytes in omega (arith, e, room))

room_in : (p places size : ℕ) → p < places → p * size + size ≤ places * size
room_in p places size low =
    let up : (p + 1) * size ≤ places * size = mul-le (p + 1) size places size (omega (arith, low)) (omega arith) in
    let one : (p + 1) * size ≡ p * size + size = omega arith in
    omega (arith, up, one)

pub image_whole : (j : JournalImage) → IsImage j → IsWhole (ring_of j)
image_whole j is p low = slice_long (p * j.block_size) j.block_size j.bytes (subst (λ n. p * j.block_size + j.block_size ≤ n) (sym is.whole) (room_in p j.length j.block_size low))

pub big_size : (n : ℕ) → IsBlockSize n → 4 ≤ n
big_size n is = grind (arith, is)
