-- The list of groups: what its file says, that its groups rise, and that no block is far from all of them.
use Rattle.std.proofs.Common.{◌≡◌, ◌≢◌, ◌⊎◌, inl, ℕ, zero, suc, ◌+◌, ◌-◌, ◌*◌, ◌/◌, ◌%◌, ◌^◌, ◌<◌, ◌≤◌, min, List, [], ◌∷◌, ◌++◌, length, take, drop, get_or, Some, refl, sym, ap, subst, ◌∙◌, arith}
use Rattle.std.specs.Prelude.{slice_get}
use Rattle.std.specs.List.{AllByRecursion}
use Rattle.std.proofs.lemmas.List.{drop_more, take-append-drop, take-take, take_all}
use Rattle.std.proofs.Math.Nat.{div-mul-le_self, mul-le-mul_right, zero-div}
use Rattle.std.proofs.Math.Seq.{take-suc}
use Rattle.gfs2_layout.specs.Device.{superblock_place}
use Rattle.gfs2_layout.specs.Holding.{Holding}
use Rattle.gfs2_layout.specs.Inode.{dinode_in, content_of, unit}
use Rattle.gfs2_layout.specs.declared.dinode.Dinode.{Dinode}
use Rattle.gfs2_layout.specs.declared.rindex.Rindex.{Rindex}
use Rattle.dinode_tree.specs.Reading.{AreHeaded, content_range, AreWholeBefore, IsRightDinode}
use Rattle.image_model.specs.Claims.{every, IsRindex}
use Rattle.gfs2_layout.specs.Bitmap.{bitmap_room}
use Rattle.image_model.specs.Groups.{entry_length, groups_in, IsListed, IsNear, GroupFits, GroupsFit, end_of}
use Rattle.image_model.specs.Image.{Image}
use Rattle.image_model.specs.Listing.{RiseFrom, end_after}
use Rattle.image_model.specs.Profile.{group_length}
use Rattle.image_model.specs.Rules.{Breaks, part_of_entry}
use Rattle.image_model.specs.Stands.{Layout}
use Rattle.image_model.proofs.Listing.{IsCoveredTo, IsPast, all_fit, bare_at, far, rise_more, end_more, unfit_entry, early_entry, groups_count, AreNear, rise_apart, sound_list}
use Rattle.image_mount.specs.Found.{HasFormat, HasMaster, IsReached}
use Rattle.image_mount.specs.Groups.{IsListLink, IsListOf, AreGroups}
use Rattle.image_mount.specs.Looks.{HasHeadedContent, IsLookedAt}
use Rattle.image_mount.specs.Refusals.{IsOutside, RefusesRightly, first_bare}
use Rattle.image_mount.specs.Refusals as outside
use Rattle.profile_limits.specs.Limits.{most_groups}
use Rattle.shared_disk.proofs.FlightLaws.{all_append}
use Rattle.image_mount.specs.declared.fault.MountFault.{MountFault}
use Rattle.image_mount.specs.declared.listing.Link.{Link}
use Rattle.image_mount.specs.declared.fault.MountFault.TheVariants as fault
use Rattle.image_mount.specs.declared.field.Field.TheVariants as field
use Rattle.image_mount.proofs.Causes.{told, told_outside}
use Rattle.image_mount.proofs.Places.{unit_bounds}

-- ---- what is known of the list

abbrev pub with_groups : Layout → List Rindex → Layout
with_groups l groups = record { root = l.root; master = l.master; rindex = l.rindex; jindex = l.jindex; groups = groups; journals = l.journals }

master_with : (im : Image) (l : Layout) (groups : List Rindex) → HasMaster im l → HasMaster im (with_groups l groups)
master_with im l groups has = record {
  format = has.format;
  root = has.root;
  master = has.master;
  plain = has.plain;
  rindex = has.rindex;
  jindex = has.jindex;
}

module _ (im : Image) (size count list : ℕ) (groups : List Rindex) (is : IsListOf im size count list groups) where
  pub list_format : HasFormat im
  list_format = is.found.master.format

  pub list_few : im.count ≤ 131072
  list_few = is.found.master.format.super.few

  pub list_rindex : IsRindex im list
  list_rindex = subst (IsRindex im) is.rindex is.found.master.rindex

  pub list_groups : groups_in (content_of (every im list)) ≡ groups
  list_groups = ap (λ d. groups_in (content_of (every im d))) (sym is.rindex) ∙ is.found.listed ∙ is.groups

  -- a group and those before and behind it
  split : (k : ℕ) (d : Rindex) → k < length groups → groups_in (content_of (every im list)) ≡ take k groups ++ (get_or groups k d ∷ drop (k + 1) groups)
  split k d low = list_groups ∙ sym (take-append-drop k groups) ∙ ap (λ l. take k groups ++ l) (drop_more groups k d low)

  pub unfit_at : (k : ℕ) (d : Rindex) → k < length groups → (GroupFits im (get_or groups k d) → ⊥) → Breaks im 18 list
  unfit_at k d low lacks = unfit_entry im list list_rindex (take k groups) (drop (k + 1) groups) (get_or groups k d) (split k d low) lacks

  pub early_at : (k e : ℕ) (d : Rindex) → k < length groups → end_after 0 (take k groups) ≡ e → (get_or groups k d).address < e → Breaks im 18 list
  early_at k e d low ends early = early_entry im list list_rindex (take k groups) (drop (k + 1) groups) (get_or groups k d) (split k d low) (omega (arith, early, ends))

-- ---- they rise

-- the first k groups rise, and the last of them ends here
pub record IsRisenTo (im : Image) (groups : List Rindex) (k end : ℕ) : Type 0 where
  pub rise : RiseFrom im 0 (take k groups)
  pub ends : end_after 0 (take k groups) ≡ end

pub risen_none : (im : Image) (groups : List Rindex) → IsRisenTo im groups 0 0
risen_none im [] = record { rise = tt; ends = refl }
risen_none im (g ∷ gs) = record { rise = tt; ends = refl }

pub risen_more : (im : Image) (groups : List Rindex) (k end next : ℕ) (d : Rindex) → IsRisenTo im groups k end → k < length groups → GroupFits im (get_or groups k d) → end ≤ (get_or groups k d).address
    → im.count ≤ 131072 → next ≡ min (end_of (get_or groups k d)) (2 ^ 64 - 1) → IsRisenTo im groups (k + 1) next
risen_more im groups k end next d to low fits above few is =
    let g : Rindex = get_or groups k d in
    let next_is : k + 1 ≡ suc k = omega arith in
    let taken : take (k + 1) groups ≡ take k groups ++ (g ∷ []) = ap (λ n. take n groups) next_is ∙ take-suc groups k d low in
    record {
      rise = subst (RiseFrom im 0) (sym taken) (rise_more im 0 (take k groups) g to.rise fits (omega (arith, above, to.ends)));
      ends = ap (end_after 0) taken ∙ end_more 0 (take k groups) g ∙ omega (arith, is, fits.inside, few);
    }

pub risen_all : (im : Image) (groups : List Rindex) (k end : ℕ) → IsRisenTo im groups k end → length groups ≤ k → RiseFrom im 0 groups
risen_all im groups k end to all = subst (RiseFrom im 0) (take_all k groups all) to.rise

all_at : {X : Type 0} (P : X → Type 0) (xs : List X) (i : ℕ) (x : X) → AllByRecursion P xs → slice_get xs i ≡ Some x → P x
all_at P [] i x all there = cc
all_at P (y ∷ xs) zero x all there = subst P (some_is y x there) all.0
  where
    some_is : {X : Type 0} (y x : X) → Some y ≡ Some x → y ≡ x
    some_is y x same = cc
all_at P (y ∷ xs) (suc i) x all there = all_at P xs i x all.1 there

-- ---- they leave few blocks between them

pub groups_fit : (im : Image) (groups : List Rindex) (bare : ℕ) → RiseFrom im 0 groups → AreNear im groups bare → im.count ≤ bare → GroupsFit im groups
groups_fit im groups bare rise near all = record {
  each = λ g listed. all_at (GroupFits im) groups listed.0 g (all_fit im 0 groups rise) listed.1;
  rise = rise_apart im 0 groups rise;
  rest = λ b above before. near b above (omega (arith, before, all));
}

all_from : {X : Type 0} (P Q : X → Type 0) (xs : List X) → ((x : X) → P x → Q x) → AllByRecursion P xs → AllByRecursion Q xs
all_from P Q [] each all = tt
all_from P Q (x ∷ xs) each all = (each x all.0, all_from P Q xs each all.1)

-- no group that is listed is near a block behind those that were gone over and before the others
never_near : (im : Image) (groups : List Rindex) (k b : ℕ) (to : IsCoveredTo im groups k b) → b < 2 ^ 64 - 1 → AllByRecursion (far im groups b) (drop k groups) → (g : Rindex) → IsListed groups g → ¬ (IsNear g b)
never_near im groups k b to small ahead g listed =
    let past : AllByRecursion (far im groups b) (take k groups) = all_from (IsPast to.end b) (far im groups b) (take k groups) (λ h p near. omega (arith, p.apart, near.high, small)) to.past in
    let both : AllByRecursion (far im groups b) groups
    = subst (AllByRecursion (far im groups b)) (take-append-drop k groups) (all_append (far im groups b) (take k groups) (drop k groups) past ahead) in
    all_at (far im groups b) groups listed.0 g both listed.1

-- such a block is the first that is bare, where those before it are near a group
pub bare_told : (im : Image) (f : MountFault) (size count list k b : ℕ) (groups : List Rindex) → f ≡ fault.Damaged b 18 → IsListOf im size count list groups → RiseFrom im 0 groups → 1 ≤ length groups → length groups ≤ most_groups
    → IsCoveredTo im groups k b → AreNear im groups b → b < im.count → AllByRecursion (far im groups b) (drop k groups) → RefusesRightly im f
bare_told im f size count list k b groups is of rise some few to near inside ahead =
    let small : b < 2 ^ 64 - 1 = omega (arith, inside, list_few im size count list groups of) in
    subst (RefusesRightly im) (sym is) (
      record { breaks = bare_at im groups b k to (sound_list im list groups (list_rindex im size count list groups of) of.only of.looked.dinode.header (subst (λ d. (dinode_in (every im d)).size % entry_length ≡ 0) of.rindex of.found.whole) (sym (list_groups im size count list groups of)) rise) inside small ahead near; there = inl inside },
      first_bare b (record {
        layout = with_groups of.layout groups;
        listed = record { master = master_with im of.layout groups of.found.master; whole = of.found.whole; listed = of.found.listed ∙ of.groups };
        some = some;
        few = few;
        fit = λ g listed. all_at (GroupFits im) groups listed.0 g (all_fit im 0 groups rise) listed.1;
        rise = rise_apart im 0 groups rise;
        above = to.above;
        inside = inside;
        bare = never_near im groups k b to small ahead;
        first = near;
      }),
    )

-- ---- how many groups are listed

pub wrong_count : (im : Image) (f : MountFault) (l : Layout) (a : ℕ) (d : Dinode) → f ≡ fault.NotProfile field.Groups (d.size / 96) → HasMaster im l → IsRightDinode (every im a) → l.rindex ≡ a → d ≡ dinode_in (every im a)
    → d.size % 96 ≡ 0 → (d.size / 96 ≡ 0) ⊎ (64 < d.size / 96) → RefusesRightly im f
wrong_count im f l a d is has right at read whole other =
    let size : d.size ≡ (dinode_in (every im l.rindex)).size = ap (λ (x : Dinode). x.size) read ∙ ap (λ b. (dinode_in (every im b)).size) (sym at) in
    let P : ℕ → Type 0 = λ n. (n % 96 ≡ 0) → (n / 96 ≡ 0) ⊎ (64 < n / 96) → IsOutside im field.Groups (n / 96) in
    let of_size : P d.size = subst P (sym size) (λ w o. outside.groups l has (subst (λ b. IsRightDinode (every im b)) (sym at) right) w o) in
    told_outside im f field.Groups (d.size / 96) is (of_size whole other)

pub wrong_part : (im : Image) (f : MountFault) (l : Layout) (a : ℕ) (d : Dinode) → f ≡ fault.Damaged a 18 → HasMaster im l → IsReached im a → l.rindex ≡ a → d ≡ dinode_in (every im a) → d.size % 96 ≢ 0 → RefusesRightly im f
wrong_part im f l a d is has inside at read other =
    told im f a 18 is has.format inside (part_of_entry a (subst (IsRindex im) at has.rindex) (λ e. other (ap (λ (x : Dinode). x.size % 96) read ∙ e)))

cut : (h : Holding) → take (dinode_in h).size (content_of h) ≡ content_of h
unfolding content_of
cut h = take-take (dinode_in h).size (dinode_in h).size _ (omega arith)

-- a list's content, where its length is known
pub content_all : (im : Image) (a n : ℕ) (bytes : List ℕ) → (dinode_in (every im a)).size ≡ n → bytes ≡ content_range (every im a) 0 n → bytes ≡ content_of (every im a)
content_all im a n bytes size read = read ∙ ap (λ k. take k (content_of (every im a))) (sym size) ∙ cut (every im a)

-- what was read there is the list
pub list_of : (im : Image) (size count a : ℕ) (link : Link) (groups : List Rindex) (content : List ℕ) → IsListLink im link → size ≡ im.size → count ≡ im.count → a ≡ link.entry.addr → IsReached im a → IsLookedAt im a
    → (dinode_in (every im a)).size % 96 ≡ 0 → content ≡ content_of (every im a) → groups ≡ groups_in content → IsListOf im size count a groups
list_of im size count a link groups content is of_size of_count at reached looked whole read listed =
    let here : a ≡ is.layout.rindex = at ∙ sym is.rindex in
    record {
      block_size = of_size;
      blocks = of_count;
      reached = reached;
      looked = looked;
      layout = with_groups is.layout groups;
      found = record {
        master = master_with im is.layout groups is.found;
        whole = ap (λ d. (dinode_in (every im d)).size % 96) (sym here) ∙ whole;
        listed = ap (λ d. groups_in (content_of (every im d))) (sym here) ∙ ap groups_in (sym read) ∙ sym listed;
      };
      rindex = is.rindex ∙ sym at;
      groups = refl;
      only = λ d leads. is.named.only d leads ∙ sym at;
    }

pub groups_some : (groups : List Rindex) (content : List ℕ) (bytes : ℕ) → groups ≡ groups_in content → length content ≡ bytes → 96 ≤ bytes → 1 ≤ length groups
groups_some groups content bytes listed long least = omega (arith, ap length listed, groups_count content, long, least)

pub groups_are : (im : Image) (a b : ℕ) (groups items : List Rindex) → groups ≡ items → a ≡ b → AreGroups im a groups → AreGroups im b items
groups_are im a b groups items same at are = subst (λ x. AreGroups im x items) at (subst (AreGroups im a) same are)

-- too many blocks of headers
pub long_groups : (im : Image) (f : MountFault) (size count list n : ℕ) (groups : List Rindex) → f ≡ fault.NotProfile field.GroupBlocks n → IsListOf im size count list groups → n ≡ group_length groups
    → 1 ≤ length groups → length groups ≤ 64 → GroupsFit im groups → 128 < n → RefusesRightly im f
long_groups im f size count list n groups is of counted some few fit many =
    let P : List Rindex → Type 0 = λ gs. 1 ≤ length gs → length gs ≤ 64 → GroupsFit im gs → 128 < group_length gs → IsOutside im field.GroupBlocks (group_length gs) in
    let long : P groups = subst P of.groups (λ a b c d. outside.group_blocks of.layout of.found (subst (IsLookedAt im) (sym of.rindex) of.looked) a b c d) in
    told_outside im f field.GroupBlocks n is (subst (IsOutside im field.GroupBlocks) (sym counted) (long some few fit (omega (arith, many, counted))))

-- no block of content stands before the first
pub none_before : (h : Holding) → AreWholeBefore h 0
none_before h i b low within at = absurd (omega (arith, low, zero-div (unit h)))

-- ---- whether a group fits

pub fits_if : (im : Image) (g : Rindex) (size len sum end room : ℕ) → superblock_place im.size < g.address → g.length ≢ 0 → g.data0 ≡ sum → sum ≡ min (g.address + g.length) (2 ^ 64 - 1)
    → end ≡ min (end_of g) (2 ^ 64 - 1) → end ≤ im.count → im.count ≤ 131072 → g.bitbytes * 4 ≡ g.data_blocks → size ≡ im.size → len ≡ g.length → room ≡ 4 * (size - 128 + (len - 1) * (size - 24))
    → (g.data_blocks ≤ room → GroupFits im g) × (GroupFits im g → g.data_blocks ≤ room)
fits_if im g size len sum end room above some first sum_is end_is inside few whole size_is len_is room_is =
    let same : room ≡ bitmap_room im.size g.length = room_is ∙ ap (λ s. 4 * (s - 128 + (len - 1) * (s - 24))) size_is ∙ ap (bitmap_room im.size) len_is in (
      (λ low. record {
        above = above;
        some = omega (arith, some);
        first = omega (arith, first, sum_is, end_is, inside, few);
        whole = whole;
        bits = omega (arith, low, same);
        inside = omega (arith, end_is, inside, few);
      }),
      (λ fits. omega (arith, fits.bits, same)),
    )

-- the blocks of content begin before its end
pub content_headed : (im : Image) (a bytes : ℕ) → 512 ≤ im.size → (dinode_in (every im a)).size ≡ bytes → AreHeaded (every im a) 0 (min (0 + bytes) (dinode_in (every im a)).size) → HasHeadedContent im a
content_headed im a bytes large size all i low =
    let h = every im a in
    let u = unit h in
    let n = (dinode_in h).size in
    let some : 0 < u = (unit_bounds im a large).0 in
    let rises : (i + 1) * u ≤ (n + u - 1) / u * u = mul-le-mul_right u (omega (arith, low)) in
    let wide : (i + 1) * u ≡ i * u + u = omega arith in
    all i (omega arith) (omega (arith, rises, wide, div-mul-le_self (n + u - 1) u, size, some))
