-- What is found on going over the list of groups.
use Rattle.std.proofs.lemmas.Bool.{cases_lt}
use Rattle.std.proofs.lemmas.Option.{slice_get-get_or}
use Rattle.std.proofs.Common.{◌≡◌, ℕ, zero, suc, min, ◌^◌, ◌+◌, ◌-◌, ◌*◌, ◌/◌, ◌%◌, ◌<◌, ◌≤◌, ◌⊎◌, inl, inr, List, [], ◌∷◌, ◌++◌, length, take, drop, map, get_or, Some, slice_get, Option, None, Ok, refl, sym, ap, ◌∙◌, subst, arith}
use Rattle.std.proofs.lemmas.List.{length_push, append_assoc, length-drop, drop-drop, drop_more, take-append-drop}
use Rattle.std.proofs.lemmas.List.FromFn.{length-map-range_with_len}
use Rattle.std.proofs.Math.Seq.{take-suc}
use Rattle.std.specs.List.{range_with_len, All, AllByRecursion}
use Rattle.gfs2_layout.specs.Bytes.{slice}
use Rattle.gfs2_layout.specs.Structures.{rindex_of, rindex_read, answer, length_fault}
use Rattle.gfs2_layout.specs.declared.fault.LayoutFault.{LayoutFault}
use Rattle.gfs2_layout.specs.declared.rindex.Rindex.{Rindex}
use Rattle.gfs2_layout.specs.Device.{superblock_place}
use Rattle.image_model.specs.Claims.{every, IsRindex, HasGroup}
use Rattle.gfs2_layout.specs.Headers.{HasHeader}
use Rattle.gfs2_layout.specs.Inode.{content_of, dinode_in}
use Rattle.image_model.specs.Groups.{groups_in, entry_length, IsGroupAt, IsListed, IsNear, GroupFits, end_of}
use Rattle.image_model.specs.Image.{Image}
use Rattle.image_model.specs.Listing.{RiseFrom, end_after}
use Rattle.image_model.specs.Rules.{Breaks, IsSoundList, IsWholeList, HasSoundGroup, unfit, not_rising, bare}
use Rattle.shared_disk.proofs.FlightLaws.{all_append}

-- ---- the list, entry by entry

shift : {X : Type 0} (f g : ℕ → X) (a n : ℕ) → ((i : ℕ) → f (i + 1) ≡ g i) → map f (range_with_len (a + 1) n) ≡ map g (range_with_len a n)
shift f g a zero same = refl
shift f g a (suc n) same = (λ k. same a k ∷ shift f g (a + 1) n same k)

-- the first entry, and the list behind it
pub groups_cons : (bytes : List ℕ) → entry_length ≤ length bytes → groups_in bytes ≡ rindex_of (take entry_length bytes) ∷ groups_in (drop entry_length bytes)
unfolding groups_in
groups_cons bytes long =
    let f : ℕ → Rindex = λ i. rindex_of (slice (entry_length * i) entry_length bytes) in
    let g : ℕ → Rindex = λ i. rindex_of (slice (entry_length * i) entry_length (drop entry_length bytes)) in
    let count : length bytes / entry_length ≡ suc (length (drop entry_length bytes) / entry_length) = omega (arith, length-drop entry_length bytes) in
    let each : (i : ℕ) → f (i + 1) ≡ g i = λ i. ap (λ l. rindex_of (take entry_length l)) (ap (λ k. drop k bytes) (omega arith) ∙ sym (drop-drop (entry_length * i) entry_length bytes)) in
    ap (λ n. map f (range_with_len 0 n)) count ∙ ap (λ l. f 0 ∷ l) (shift f g 0 (length (drop entry_length bytes) / entry_length) each)

pub groups_none : (bytes : List ℕ) → length bytes < entry_length → groups_in bytes ≡ []
unfolding groups_in
groups_none bytes short =
    let none : length bytes / entry_length ≡ 0 = omega (arith, short) in
    ap (λ n. map (λ i. rindex_of (slice (entry_length * i) entry_length bytes)) (range_with_len 0 n)) none

pub entry_is : (bytes : List ℕ) (g : Rindex) → Ok g ≡ rindex_read bytes → g ≡ rindex_of bytes
entry_is bytes g e = each (length_fault entry_length bytes) e
  where
    each : (o : Option LayoutFault) → Ok g ≡ answer o (rindex_of bytes) → g ≡ rindex_of bytes
    each None e = cc
    each (Some f) e = cc

-- ---- an entry among them

at_place : {X : Type 0} (xs ys : List X) (y : X) → slice_get (xs ++ (y ∷ ys)) (length xs) ≡ Some y
at_place [] ys y = refl
at_place (x ∷ xs) ys y = at_place xs ys y

listed_at : (all groups more : List Rindex) (g : Rindex) → all ≡ groups ++ (g ∷ more) → IsGroupAt all (length groups) g
listed_at all groups more g is = ap (λ l. slice_get l (length groups)) is ∙ at_place groups more g

-- one more entry was gone over
pub one_more : (all groups more : List Rindex) (g : Rindex) → all ≡ groups ++ (g ∷ more) → all ≡ (groups ++ (g ∷ [])) ++ more
one_more all groups more g is = is ∙ sym (append_assoc groups (g ∷ []) more)

-- the last of them, where the end isn't the one before all
last_of : (e x : ℕ) (gs : List Rindex) → end_after e gs ≡ x → ((gs ≡ []) × (x ≡ e)) ⊎ ((front : List Rindex) × ((g : Rindex) × (gs ≡ front ++ (g ∷ [])) × (x ≡ end_of g)))
last_of e x [] is = inl (refl, sym is)
last_of e x (g ∷ gs) is = elim (last_of (end_of g) x gs is) [
  | inl none ↦ inr ([], (g, ap (λ l. g ∷ l) none.0, none.1))
  | inr some ↦ inr (g ∷ some.0, (some.1.0, ap (λ l. g ∷ l) some.1.1, some.1.2))
]

module _ (im : Image) (d : ℕ) (is : IsRindex im d) (groups more : List Rindex) (g : Rindex) (all : groups_in (content_of (every im d)) ≡ groups ++ (g ∷ more)) where
  pub unfit_entry : (GroupFits im g → ⊥) → Breaks im 18 d
  unfit_entry lacks = unfit d g is (length groups, listed_at _ groups more g all) lacks

  pub early_entry : g.address < end_after 0 groups → Breaks im 18 d
  early_entry early = elim (last_of 0 (end_after 0 groups) groups refl) [
    | inl none ↦ absurd (omega (arith, early, none.1))
    | inr some ↦
        let front = some.0 in
        let h = some.1.0 in
        let split : groups_in (content_of (every im d)) ≡ front ++ (h ∷ (g ∷ more)) = all ∙ ap (λ l. l ++ (g ∷ more)) some.1.1 ∙ append_assoc front (h ∷ []) (g ∷ more) in
        let later : IsGroupAt (groups_in (content_of (every im d))) (length front + 1) g = ap (slice_get _) (sym (ap length some.1.1 ∙ length_push front h)) ∙ listed_at _ groups more g all in
        not_rising d (length front) (length front + 1) h g is (listed_at _ front (g ∷ more) h split) later (omega arith) (omega (arith, early, some.1.2))
  ]

-- ---- they rise

pub rise_more : (im : Image) (e : ℕ) (gs : List Rindex) (g : Rindex) → RiseFrom im e gs → GroupFits im g → end_after e gs ≤ g.address → RiseFrom im e (gs ++ (g ∷ []))
rise_more im e [] g rise fits low = (fits, low, tt)
rise_more im e (h ∷ gs) g rise fits low = (rise.0, rise.1, rise_more im (end_of h) gs g rise.2 fits low)

pub end_more : (e : ℕ) (gs : List Rindex) (g : Rindex) → end_after e (gs ++ (g ∷ [])) ≡ end_of g
end_more e [] g = refl
end_more e (h ∷ gs) g = end_more (end_of h) gs g

pub all_fit : (im : Image) (e : ℕ) (gs : List Rindex) → RiseFrom im e gs → AllByRecursion (GroupFits im) gs
all_fit im e [] rise = tt
all_fit im e (g ∷ gs) rise = (rise.0, all_fit im (end_of g) gs rise.2)

grows : (im : Image) (g : Rindex) → GroupFits im g → g.address < end_of g
grows im g fits = omega (arith, fits.first, fits.some)

pub all_above : (im : Image) (e : ℕ) (gs : List Rindex) → RiseFrom im e gs → AllByRecursion (λ h. e ≤ h.address) gs
all_above im e [] rise = tt
all_above im e (g ∷ gs) rise = (rise.1, lower (end_of g) e gs (omega (arith, grows im g rise.0, rise.1)) (all_above im (end_of g) gs rise.2))
  where
    lower : (m n : ℕ) (hs : List Rindex) → n ≤ m → AllByRecursion (λ h. m ≤ h.address) hs → AllByRecursion (λ h. n ≤ h.address) hs
    lower m n [] low all = tt
    lower m n (h ∷ hs) low all = (omega (arith, low, all.0), lower m n hs low all.1)

-- ---- groups one behind the other are no more than the device has blocks

pub few_groups : (im : Image) (e : ℕ) (gs : List Rindex) → RiseFrom im e gs → e ≤ im.count → length gs + e ≤ im.count
few_groups im e [] rise low = omega (arith, low)
few_groups im e (g ∷ gs) rise low = omega (arith, few_groups im (end_of g) gs rise.2 rise.0.inside, grows im g rise.0, rise.1)

-- ---- the blocks that are near the groups that were gone over

-- the group ends here or earlier, and a block from this one on is not near it
pub record IsPast (end bare : ℕ) (g : Rindex) : Type 0 where
  pub ended : end_of g ≤ end
  pub apart : min (end_of g + 3) (2 ^ 64 - 1) ≤ bare

-- the first k groups are past, the others rise from there, and the block lies above the superblock
pub record IsCoveredTo (im : Image) (groups : List Rindex) (k bare : ℕ) : Type 0 where
  pub end : ℕ
  pub past : AllByRecursion (IsPast end bare) (take k groups)
  pub rise : RiseFrom im end (drop k groups)
  pub above : superblock_place im.size < bare

all_at : {X : Type 0} (P : X → Type 0) (xs : List X) (i : ℕ) (x : X) → AllByRecursion P xs → slice_get xs i ≡ Some x → P x
all_at P [] i x all there = cc
all_at P (y ∷ xs) zero x all there = subst P (some_is y x there) all.0
  where
    some_is : {X : Type 0} (y x : X) → Some y ≡ Some x → y ≡ x
    some_is y x same = cc
all_at P (y ∷ xs) (suc i) x all there = all_at P xs i x all.1 there

all_from : {X : Type 0} (P Q : X → Type 0) (xs : List X) → ((x : X) → P x → Q x) → AllByRecursion P xs → AllByRecursion Q xs
all_from P Q [] each all = tt
all_from P Q (x ∷ xs) each all = (each x all.0, all_from P Q xs each all.1)

pub none_left : {X : Type 0} (P : X → Type 0) (xs : List X) → length xs ≡ 0 → AllByRecursion P xs
none_left P [] none = tt
none_left P (x ∷ xs) none = absurd (omega (arith, none))

-- groups that rise lie apart
pub rise_apart : (im : Image) (e : ℕ) (gs : List Rindex) → RiseFrom im e gs → (i j : ℕ) (g h : Rindex) → IsGroupAt gs i g → IsGroupAt gs j h → i < j → end_of g ≤ h.address
rise_apart im e [] rise i j g h at there low = cc
rise_apart im e (x ∷ gs) rise i zero g h at there low = absurd (omega (arith, low))
rise_apart im e (x ∷ gs) rise zero (suc j) g h at there low =
    let same : end_of x ≡ end_of g = ap end_of (some_is x g at) in
    omega (arith, same, all_at (λ (y : Rindex). end_of x ≤ y.address) gs j h (all_above im (end_of x) gs rise.2) there)
  where
    some_is : (y x : Rindex) → Some y ≡ Some x → y ≡ x
    some_is y x e = cc
rise_apart im e (x ∷ gs) rise (suc i) (suc j) g h at there low = rise_apart im (end_of x) gs rise.2 i j g h at there (omega (arith, low))

-- a list that was gone over is a sound one
pub sound_list : (im : Image) (d : ℕ) (groups : List Rindex) → IsRindex im d → ((e : ℕ) → IsRindex im e → e ≡ d) → HasHeader 4 400 (im.at d) → (dinode_in (every im d)).size % entry_length ≡ 0 → groups ≡ groups_in (content_of (every im d)) → RiseFrom im 0 groups → IsSoundList im groups
sound_list im d groups is only header whole listed rise = record {
  inode = d;
  rindex = is;
  only = only;
  header = header;
  whole = whole;
  listed = sym listed;
  fit = λ g at. all_at (GroupFits im) groups at.0 g (all_fit im 0 groups rise) at.1;
  rise = rise_apart im 0 groups rise;
}

-- a group of a whole list is one of the file that is `rindex`
pub sound_group : (im : Image) (g : Rindex) → HasSoundGroup im g → HasGroup im g
sound_group im g has = (has.1.sound.inode, has.1.sound.rindex, subst (λ gs. IsListed gs g) (sym has.1.sound.listed) has.2)

pub sound_fits : (im : Image) (g : Rindex) → HasSoundGroup im g → GroupFits im g
sound_fits im g has = has.1.sound.fit g has.2

-- each block above the superblock's and before this one is near a group
abbrev pub AreNear : Image → List Rindex → ℕ → Type 0
AreNear im groups end = (b : ℕ) → superblock_place im.size < b → b < end → (g : Rindex) × IsListed groups g × IsNear g b

-- a sound list is whole where all blocks of the device are near a group
pub whole_list : (im : Image) (groups : List Rindex) (end : ℕ) → IsSoundList im groups → AreNear im groups end → im.count ≤ end → IsWholeList im groups
whole_list im groups end list near all = record { sound = list; rest = λ b above before. near b above (omega (arith, before, all)) }

pub near_none : (im : Image) (groups : List Rindex) (end : ℕ) → end ≤ superblock_place im.size + 1 → AreNear im groups end
near_none im groups end low b above before = absurd (omega (arith, low, above, before))

pub near_more : (im : Image) (groups : List Rindex) (k b c : ℕ) (d : Rindex) → AreNear im groups b → k < length groups → (get_or groups k d).address ≤ b
    → c ≡ min (min (end_of (get_or groups k d)) (2 ^ 64 - 1) + 3) (2 ^ 64 - 1) → AreNear im groups c
near_more im groups k b c d near low reached is x above before = elim (cases_lt x b) [
  | inl old ↦ near x above old
  | inr new ↦ (get_or groups k d, (k, slice_get-get_or groups k d low), record { low = omega (arith, new, reached); high = omega (arith, is, before) })
]

module _ (im : Image) (groups : List Rindex) (b : ℕ) where
  -- no group is near the block
  abbrev pub far : Rindex → Type 0
  far g = ¬ (IsNear g b)

  all_far : (k : ℕ) (to : IsCoveredTo im groups k b) → b < 2 ^ 64 - 1 → AllByRecursion far (drop k groups) → AllByRecursion far groups
  all_far k to small ahead =
      let past : AllByRecursion far (take k groups) = all_from (IsPast to.end b) far (take k groups) (λ g p near. omega (arith, p.apart, near.high, small)) to.past in
      subst (AllByRecursion far) (take-append-drop k groups) (all_append far (take k groups) (drop k groups) past ahead)

  -- the block lies behind the last group that is near it, and before the next
  pub bare_at : (k : ℕ) → IsCoveredTo im groups k b → IsSoundList im groups → b < im.count → b < 2 ^ 64 - 1 → AllByRecursion far (drop k groups) → AreNear im groups b → Breaks im 18 b
  bare_at k to list within small ahead near =
      bare b groups list (record { above = to.above; inside = within; bare = λ g at. all_at far groups at.0 g (all_far k to small ahead) at.1; first = near })

  pub ahead_of : (e : ℕ) (g : Rindex) (gs : List Rindex) → RiseFrom im e (g ∷ gs) → b < g.address → AllByRecursion far (g ∷ gs)
  ahead_of e g gs rise before = (λ near. omega (arith, before, near.low), all_from (λ h. end_of g ≤ h.address) far gs (λ h low near. omega (arith, before, low, near.low, grows im g rise.0)) (all_above im (end_of g) gs rise.2))

pub covered_more : (im : Image) (groups : List Rindex) (k b c : ℕ) (d : Rindex) → IsCoveredTo im groups k b → k < length groups → (get_or groups k d).address ≤ b
    → im.count + 1 < 2 ^ 64 → c ≡ min (min (end_of (get_or groups k d)) (2 ^ 64 - 1) + 3) (2 ^ 64 - 1) → IsCoveredTo im groups (k + 1) c
covered_more im groups k b c d to within reached few next =
    let g : Rindex = get_or groups k d in
    let rise : RiseFrom im to.end (g ∷ drop (k + 1) groups) = subst (RiseFrom im to.end) (drop_more groups k d within) to.rise in
    let behind : end_of g ≤ im.count = rise.0.inside in
    let grown : g.address < end_of g = grows im g rise.0 in
    let old : AllByRecursion (IsPast (end_of g) c) (take k groups) = all_from (IsPast to.end b) (IsPast (end_of g) c) (take k groups) (λ h p. record {
      ended = omega (arith, p.ended, rise.1, grown);
      apart = omega (arith, p.ended, rise.1, grown, next, behind, few);
    }) to.past in
    let this : IsPast (end_of g) c g = record {
      ended = omega arith;
      apart = omega (arith, next, behind, few);
    } in
    let next_is : k + 1 ≡ suc k = omega arith in
    record {
      end = end_of g;
      past = subst (AllByRecursion (IsPast (end_of g) c)) (sym (ap (λ n. take n groups) next_is ∙ take-suc groups k d within)) (all_append (IsPast (end_of g) c) (take k groups) (g ∷ []) old (this, tt));
      rise = rise.2;
      above = omega (arith, rise.0.above, grown, next, behind, few);
    }

-- ---- groups that fit and rise, each behind all before it

pub rising : (im : Image) (e : ℕ) (gs : List Rindex) → ((g : Rindex) → IsListed gs g → GroupFits im g)
    → ((i j : ℕ) (g h : Rindex) → IsGroupAt gs i g → IsGroupAt gs j h → i < j → end_of g ≤ h.address) → ((g : Rindex) → IsListed gs g → e ≤ g.address) → RiseFrom im e gs
rising im e [] each rise low = tt
rising im e (g ∷ gs) each rise low =
    let behind : RiseFrom im (end_of g) gs = rising im (end_of g) gs (λ h at. each h (suc at.0, at.1)) (λ i j h k at at' before. rise (suc i) (suc j) h k at at' (omega (arith, before)))
    (λ h at. rise 0 (suc at.0) g h refl at.1 (omega arith)) in
    (each g (0, refl), low g (0, refl), behind)

pub groups_count : (bytes : List ℕ) → length (groups_in bytes) ≡ length bytes / entry_length
unfolding groups_in
groups_count bytes = length-map-range_with_len (λ i. rindex_of (slice (entry_length * i) entry_length bytes)) 0 (length bytes / entry_length)

pub all_by_index : {X : Type 0} (P : X → Type 0) (xs : List X) → AllByRecursion P xs → All P xs
all_by_index P [] all k d low = absurd (omega (arith, low))
all_by_index P (x ∷ xs) all zero d low = all.0
all_by_index P (x ∷ xs) all (suc k) d low = all_by_index P xs all.1 k d (omega (arith, low))
