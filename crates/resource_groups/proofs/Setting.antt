-- The state of a data block put in its group: the place of its bits, and what is put.
use Rattle.std.proofs.Common.{refl, ◌≡◌, ℕ, ◌+◌, ◌-◌, ◌*◌, ◌<◌, ◌≤◌, ◌==◌, List, length, sym, ap, ◌∙◌, drop, subst, Some, Ok, ◌⊎◌, inl, inr, false, arith}
use Rattle.std.specs.FinMap.{FinMap, get, insert, nat_cmp-IsAntisymmetric}
use Rattle.std.specs.Ordering.{nat_cmp}
use Rattle.std.specs.Cmp.{nat_cmp_total}
use Rattle.std.proofs.lemmas.Bool.{cases_eq}
use Rattle.finite_maps.proofs.Keys.{inserted_at, inserted_apart}
use Rattle.drafts.specs.Fates.{Drafted, block_with, seen_with, seen_in}
use Rattle.drafts.specs.declared.fate.Fate.{Fate}
use Rattle.drafts.specs.declared.fate.Fate.TheVariants.{Put}
use Rattle.gfs2_layout.specs.Bitmap.{state_at}
use Rattle.gfs2_layout.specs.Groups.{bitmap_of, group_header}
use Rattle.gfs2_layout.specs.Structures.{group_read}
use Rattle.gfs2_layout.specs.Writing.{group_put}
use Rattle.gfs2_layout.specs.declared.group_header.GroupHeader.{GroupHeader}
use Rattle.glock_names.specs.Views.{Seen, IsView, HasBlock, HasGroup}
use Rattle.glock_names.specs.declared.LockName.{LockName}
use Rattle.glock_names.specs.declared.views.Group.{Group}
use Rattle.profile_limits.specs.Limits.{most_blocks}
use Rattle.resource_groups.specs.Shown.{IsShown, IsHeaderOf, IsDataOf, IsBroken, HasBitsIn, blocks_of, bits_at, first_place, group_lock}
use Rattle.resource_groups.specs.Putting.{IsMiscounted, IsRecounted, IsPutIn, PutsTwo, KeepsOthers, overlaid, seen_or, bit_put}
use Rattle.resource_groups.proofs.Fits.{fit_of, end_below, big_of, header_block}
use Rattle.resource_groups.proofs.FreePlaces.{in_group}
use Rattle.resource_groups.proofs.Parts.{room_is, state_by_block, length_bits}
use Rattle.resource_groups.proofs.Puts.{IsBothPut, still_seen, is_put_in}
use Rattle.resource_groups.proofs.Miscounts.{wrong_count}

-- a data block of the group has its bits in the group's block k, at this place there
pub record IsPlaceIn (v : Seen) (g : Group) (b k p : ℕ) : Type 0 where
  pub view : IsView v
  pub group : HasGroup v g
  pub own : IsDataOf g b
  pub stands : HasBitsIn v.size (b - g.first) k
  pub place : p ≡ b - g.first - first_place v.size k

-- as the code works it out: by the view's size of a block, the place of the data block, and the first place of block k
pub placed : (v : Seen) (g : Group) (b k size from base : ℕ) → IsView v → HasGroup v g → IsDataOf g b → size ≡ v.size → HasBitsIn size (b - g.first) k → from ≡ b - g.first → base ≡ first_place size k
    → IsPlaceIn v g b k (from - base)
placed v g b k size from base view group own size_is stands from_is base_is = record {
  view = view;
  group = group;
  own = own;
  stands = subst (λ s. HasBitsIn s (b - g.first) k) size_is stands;
  place = omega (arith, from_is, base_is, ap (λ s. first_place s k) size_is);
}

module _ (v : Seen) (g : Group) (b k p : ℕ) (is : IsPlaceIn v g b k p) where
  pub big : 512 ≤ v.size
  big = big_of v.size is.view.block_size

  pub low : k < g.length
  low =
      let fit = fit_of v g is.view is.group in
      in_group v.size g.count g.length k (b - g.first) fit.some (room_is v.size g.count g.length fit.some fit.bits) (omega (arith, is.own.low, is.own.high)) is.stands

  pub whole_place : first_place v.size k + p ≡ b - g.first
  whole_place = omega (arith, is.place, is.stands.low)

  pub few : g.count ≤ most_blocks
  few = omega (arith, end_below v g is.view is.group)

  pub within : (at : ℕ → List ℕ) → IsShown v g at → p < 4 * length (bits_at at g k)
  within at shown = omega (arith, length_bits v at g k low big shown, whole_place, is.stands.high)

  -- the state that stands there
  pub state_there : (at : ℕ → List ℕ) (was : ℕ) → IsShown v g at → state_at (bits_at at g k) p ≡ was → state_at (bitmap_of (blocks_of at g)) (first_place v.size k + p) ≡ was
  state_there at was shown there = state_by_block v at g k p low big shown (within at shown) ∙ there

  pub damage_is : (at : ℕ → List ℕ) (was : ℕ) (bits : List ℕ) (h : GroupHeader) → IsShown v g at → h ≡ group_header (blocks_of at g) → bits ≡ bits_at at g k → was ≡ state_at bits p
      → IsMiscounted h.free (was == 0) ⊎ IsMiscounted h.dinodes (was == 3) → IsBroken at g 6 g.addr
  damage_is at was bits h shown header bits_are state wrong =
      wrong_count at g h was (first_place v.size k + p) header (omega (arith, whole_place, is.own.low, is.own.high)) few (state_there at was shown (ap (λ x. state_at x p) (sym bits_are) ∙ sym state)) wrong

-- ---- both puts of a draft

-- the first draft has the bits put, and the second one the header over that
pub record ArePuts {V : Type 0} (seen : V → Seen) (d d1 d2 : Drafted V) (g : Group) (k p state : ℕ) (h : GroupHeader) : Type 0 where
  pub bits_there : HasBlock (seen_in seen d) (g.addr + k)
  pub header_there : HasBlock (seen_in seen d) g.addr
  pub first : (bytes : List ℕ) → (seen_in seen d).block_at (g.addr + k) ≡ Some bytes → d1 ≡ record d { fates = insert d.fates (g.addr + k) (Put (group_lock g) false (bit_put k p state bytes)) }
  pub second : (bytes : List ℕ) → (seen_in seen d1).block_at g.addr ≡ Some bytes → d2 ≡ record d1 { fates = insert d1.fates g.addr (Put (group_lock g) false (group_put h bytes)) }
  pub read : (bytes : List ℕ) → (seen_in seen d1).block_at g.addr ≡ Some bytes → group_read (group_put h bytes) ≡ Ok h
  pub behind : (bytes : List ℕ) → (seen_in seen d1).block_at g.addr ≡ Some bytes → drop 128 (group_put h bytes) ≡ drop 128 bytes

-- what was seen of the first block is seen behind the first put
pub seen_after : {V : Type 0} (seen : V → Seen) (d d1 : Drafted V) (g : Group) (k p state : ℕ) → HasBlock (seen_in seen d) (g.addr + k) → HasBlock (seen_in seen d) g.addr
    → ((bytes : List ℕ) → (seen_in seen d).block_at (g.addr + k) ≡ Some bytes → d1 ≡ record d { fates = insert d.fates (g.addr + k) (Put (group_lock g) false (bit_put k p state bytes)) })
    → HasBlock (seen_in seen d1) g.addr
seen_after {V} seen d d1 g k p state bits header first =
    let there = still_seen (seen d.view) d.fates (g.addr + k) g.addr (group_lock g) (bit_put k p state bits.0) header in
    (there.0, ap (λ (x : Drafted V). (seen_in seen x).block_at g.addr) (first bits.0 bits.1) ∙ there.1)

put_seen : (v : Seen) (m : FinMap nat_cmp Fate) (at : ℕ → List ℕ) (c : ℕ) (lock : LockName) (bytes : List ℕ) → get m c ≡ Some (Put lock false bytes) → get m c ≡ Some (Put lock false (overlaid (seen_with v m) at c))
put_seen v m at c lock bytes is = is ∙ ap (λ b. Some (Put lock false b)) (sym (ap (λ fate. seen_or (block_with fate (v.block_at c)) (at c)) is))

module _ {V : Type 0} (seen : V → Seen) (d d1 d2 : Drafted V) (g : Group) (b k p state : ℕ) (h : GroupHeader) (is : IsPlaceIn (seen_in seen d) g b k p) (puts : ArePuts seen d d1 d2 g k p state h) where
  abbrev v : Seen
  v = seen d.view

  abbrev first_fates : FinMap nat_cmp Fate
  first_fates = insert d.fates (g.addr + k) (Put (group_lock g) false (bit_put k p state puts.bits_there.0))

  first_is : d1 ≡ record d { fates = first_fates }
  first_is = puts.first puts.bits_there.0 puts.bits_there.1

  -- the first block is seen still
  abbrev header_seen : HasBlock (seen_in seen d1) g.addr
  header_seen = seen_after seen d d1 g k p state puts.bits_there puts.header_there puts.first

  abbrev both_fates : FinMap nat_cmp Fate
  both_fates = insert first_fates g.addr (Put (group_lock g) false (group_put h header_seen.0))

  both_is : d2 ≡ record d { fates = both_fates }
  both_is = puts.second header_seen.0 header_seen.1 ∙ ap (λ (x : Drafted V). record x { fates = insert x.fates g.addr (Put (group_lock g) false (group_put h header_seen.0)) }) first_is

  both : (at : ℕ → List ℕ) → IsShown (seen_in seen d) g at → IsBothPut v d.fates at g k p state h puts.bits_there.0 header_seen.0
  both at shown = record {
    low = low (seen_in seen d) g b k p is;
    big = big (seen_in seen d) g b k p is;
    shown = shown;
    within = within (seen_in seen d) g b k p is at shown;
    bits_seen = puts.bits_there.1;
    under_seen = sym (ap (λ (x : Drafted V). (seen_in seen x).block_at g.addr) first_is) ∙ header_seen.1;
    read = puts.read header_seen.0 header_seen.1;
    behind = puts.behind header_seen.0 header_seen.1;
  }

  pub put_is : (at : ℕ → List ℕ) (was : ℕ) (header : GroupHeader) → IsShown (seen_in seen d) g at → state_at (bits_at at g k) p ≡ was → header ≡ group_header (blocks_of at g) → IsRecounted header h was state
      → IsPutIn at (overlaid (seen_in seen d2) at) g b state
  put_is at was header shown there header_is counts = subst (λ (x : Drafted V). IsPutIn at (overlaid (seen_in seen x) at) g b state) (sym both_is)
      (is_put_in v d.fates at g k p state h puts.bits_there.0 header_seen.0 (both at shown) b was header (whole_place (seen_in seen d) g b k p is) (state_there (seen_in seen d) g b k p is at was shown there) header_is counts)

  bits_fate : (bytes : List ℕ) × (get both_fates (g.addr + k) ≡ Some (Put (group_lock g) false bytes))
  bits_fate = elim (cases_eq k 0) [
    | inl none ↦ (group_put h header_seen.0, ap (get both_fates) (place none) ∙ inserted_at nat_cmp_total nat_cmp-IsAntisymmetric first_fates g.addr (Put (group_lock g) false (group_put h header_seen.0)))
    | inr some ↦ (
      bit_put k p state puts.bits_there.0,
      inserted_apart nat_cmp_total nat_cmp-IsAntisymmetric first_fates g.addr (Put (group_lock g) false (group_put h header_seen.0)) (g.addr + k) (λ e. some (nought e))
          ∙ inserted_at nat_cmp_total nat_cmp-IsAntisymmetric d.fates (g.addr + k) (Put (group_lock g) false (bit_put k p state puts.bits_there.0)),
    )
  ]
    where
      place : k ≡ 0 → g.addr + k ≡ g.addr
      place none = omega (arith, none)

      nought : g.addr + k ≡ g.addr → k ≡ 0
      nought e = omega (arith, e)

  pub two_are : (at : ℕ → List ℕ) → PutsTwo v.size d d2 (overlaid (seen_in seen d2) at) g b
  two_are at = subst (λ (x : Drafted V). PutsTwo v.size d x (overlaid (seen_in seen x) at) g b) (sym both_is) (record {
    part = k;
    within = low (seen_in seen d) g b k p is;
    stands = is.stands;
    view = refl;
    header = put_seen v both_fates at g.addr (group_lock g) _ (inserted_at nat_cmp_total nat_cmp-IsAntisymmetric first_fates g.addr (Put (group_lock g) false (group_put h header_seen.0)));
    bits = put_seen v both_fates at (g.addr + k) (group_lock g) bits_fate.0 bits_fate.1;
    others = λ c first other. inserted_apart nat_cmp_total nat_cmp-IsAntisymmetric first_fates g.addr (Put (group_lock g) false (group_put h header_seen.0)) c first
        ∙ inserted_apart nat_cmp_total nat_cmp-IsAntisymmetric d.fates (g.addr + k) (Put (group_lock g) false (bit_put k p state puts.bits_there.0)) c other;
  })

  -- what is seen then was seen
  pub seen_still : (c : ℕ) → HasBlock (seen_in seen d2) c → HasBlock (seen_in seen d) c
  seen_still c there = elim (cases_eq c g.addr) [
    | inl first ↦ subst (HasBlock (seen_in seen d)) (sym first) puts.header_there
    | inr apart ↦ elim (cases_eq c (g.addr + k)) [
      | inl here ↦ subst (HasBlock (seen_in seen d)) (sym here) puts.bits_there
      | inr other ↦
          let after : HasBlock (seen_with v both_fates) c = subst (λ (x : Drafted V). HasBlock (seen_in seen x) c) both_is there in
          let same : get both_fates c ≡ get d.fates c =
          inserted_apart nat_cmp_total nat_cmp-IsAntisymmetric first_fates g.addr (Put (group_lock g) false (group_put h header_seen.0)) c apart
          ∙ inserted_apart nat_cmp_total nat_cmp-IsAntisymmetric d.fates (g.addr + k) (Put (group_lock g) false (bit_put k p state puts.bits_there.0)) c other in
          (after.0, sym (ap (λ fate. block_with fate (v.block_at c)) same) ∙ after.1)
    ]
  ]

-- ---- what stays whatever is answered

pub keeps_all : {V : Type 0} (d d1 : Drafted V) (g : Group) → d1 ≡ d → KeepsOthers d d1 g
keeps_all {V} d d1 g same = record { view = ap (λ (x : Drafted V). x.view) same; others = λ c far. ap (λ (x : Drafted V). get x.fates c) same }

pub keeps_put : {V : Type 0} (d d1 d2 : Drafted V) (g : Group) (b : ℕ) (fate : Fate) → IsHeaderOf g b → KeepsOthers d d1 g → d2 ≡ record d1 { fates = insert d1.fates b fate } → KeepsOthers d d2 g
keeps_put {V} d d1 d2 g b fate own kept is = record {
  view = ap (λ (x : Drafted V). x.view) is ∙ kept.view;
  others = λ c far. ap (λ (x : Drafted V). get x.fates c) is ∙ inserted_apart nat_cmp_total nat_cmp-IsAntisymmetric d1.fates b fate c (λ e. far (subst (IsHeaderOf g) (sym e) own)) ∙ kept.others c far;
}

-- the first put, and both
pub keeps_first : {V : Type 0} (seen : V → Seen) (d d1 : Drafted V) (g : Group) (b k p state : ℕ) → IsPlaceIn (seen_in seen d) g b k p → HasBlock (seen_in seen d) (g.addr + k)
    → ((bytes : List ℕ) → (seen_in seen d).block_at (g.addr + k) ≡ Some bytes → d1 ≡ record d { fates = insert d.fates (g.addr + k) (Put (group_lock g) false (bit_put k p state bytes)) }) → KeepsOthers d d1 g
keeps_first {V} seen d d1 g b k p state is there first =
    keeps_put d d d1 g (g.addr + k) (Put (group_lock g) false (bit_put k p state there.0)) (header_block g k (low (seen_in seen d) g b k p is)) (keeps_all d d g refl) (first there.0 there.1)

pub keeps_both : {V : Type 0} (seen : V → Seen) (d d1 d2 : Drafted V) (g : Group) (b k p state : ℕ) (h : GroupHeader) → IsPlaceIn (seen_in seen d) g b k p → ArePuts seen d d1 d2 g k p state h → KeepsOthers d d2 g
keeps_both {V} seen d d1 d2 g b k p state h is puts =
    let seen_then = seen_after seen d d1 g k p state puts.bits_there puts.header_there puts.first in
    let inside = low (seen_in seen d) g b k p is in
    keeps_put d d1 d2 g g.addr (Put (group_lock g) false (group_put h seen_then.0)) (record { low = omega arith; high = omega (arith, inside) }) (keeps_first seen d d1 g b k p state is puts.bits_there puts.first)
    (puts.second seen_then.0 seen_then.1)

pub keeps_same : {V : Type 0} (d d1 d2 : Drafted V) (g : Group) → KeepsOthers d d1 g → d2 ≡ d1 → KeepsOthers d d2 g
keeps_same {V} d d1 d2 g kept same = subst (λ (x : Drafted V). KeepsOthers d x g) (sym same) kept
