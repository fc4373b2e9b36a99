-- What is known of the blocks that are kept and of those that are places of journals, as more are read and found.
use Rattle.std.proofs.Common.{◌≡◌, ◌≢◌, ◌⊎◌, inl, inr, ℕ, zero, suc, ◌+◌, ◌<◌, ◌≤◌, Bool, true, false, List, [], ◌∷◌, ◌++◌, Option, None, Some, refl, sym, ap, subst, ◌∙◌, arith}
use Rattle.std.specs.Prelude.{Contains, slice_get, slice_set, IsTrue, Result, Ok, Err, OnOk}
use Rattle.std.specs.List.{All}
use Rattle.std.proofs.lemmas.Bool.{cases_eq}
use Rattle.std.proofs.lemmas.Option.{slice_get-get_or, slice_get_within, get_or_from_slice_get}
use Rattle.std.proofs.lemmas.List.Elements.{Contains-append_left, Contains-push}
use Rattle.dinode_tree.specs.declared.locating.Located.{Located}
use Rattle.gfs2_layout.specs.Device.{superblock_place}
use Rattle.gfs2_layout.specs.Inode.{content_count}
use Rattle.gfs2_layout.specs.declared.rindex.Rindex.{Rindex}
use Rattle.image_model.specs.Claims.{every, Claims, below}
use Rattle.image_model.specs.Groups.{IsDataOf}
use Rattle.shared_disk.specs.Disk.{DiskState}
use Rattle.image_model.specs.Image.{Image}
use Rattle.image_model.specs.Owners.{Below, Named}
use Rattle.image_model.specs.Rules.{Breaks, no_superblock, beyond_device, beyond_groups, two_owners, IsOutside, IsWholeList}
use Rattle.image_model.proofs.OneChain.{below_no_chain}
use Rattle.image_model.specs.Journals.{journal_name}
use Rattle.image_model.specs.SystemFiles.{IsSystemBlock, of_content, of_superblock}
use Rattle.image_mount.specs.Found.{HasFormat, IsReached}
use Rattle.profile_limits.specs.Limits.{most_blocks}
use Rattle.image_mount.specs.Looks.{IsInGroups}
use Rattle.image_mount.specs.Refusals.{IsToldAt, RefusesRightly, no_super}
use Rattle.image_mount.specs.Rings.{IsPlace, IsSearched, IsNext, IsPlaceAt}
use Rattle.image_mount.specs.Searching.{IsRead, IsWanted, IsWorking, ShowsSystem, StopsRightly}
use Rattle.image_mount.specs.System.{IsSystemOf}
use Rattle.image_mount.specs.Kept.{Kept, bytes_of}
use Rattle.image_mount.specs.declared.listing.Link.{Link}
use Rattle.image_mount.specs.declared.fault.MountFault.{MountFault}
use Rattle.image_mount.specs.declared.fault.MountFault.TheVariants as fault
use Rattle.image_mount.specs.declared.stop.Stop.{Stop}
use Rattle.image_mount.specs.declared.stop.Stop.TheVariants as stop
use Rattle.image_mount.specs.declared.system.System.{System}
use Rattle.image_mount.proofs.Causes.{told}
use Rattle.image_mount.proofs.Names.{contains_at}
use Rattle.image_mount.proofs.Places.{journal_file}
use Rattle.image_mount.proofs.Shown.{kept_inside}
use Rattle.image_mount.proofs.KeptLaws.{get_kept}

-- ---- a block that is wanted is not read

pub beyond_super : (im : Image) (f : MountFault) (block : ℕ) → f ≡ fault.Damaged block 1 → block ≡ superblock_place im.size → im.count ≤ most_blocks → im.count ≤ block → RefusesRightly im f
beyond_super im f block is at few high =
    let short : im.count ≤ superblock_place im.size = omega (arith, high, at) in
    let breaks : Breaks im 1 block = subst (Breaks im 1) (sym at) (no_superblock short) in
    subst (RefusesRightly im) (sym is) (record { breaks = breaks; there = inr (refl, at) }, subst (IsToldAt im 1) (sym at) (no_super (record { few = few; lacks = inl short })))

pub beyond_all : (im : Image) (f : MountFault) (block from : ℕ) → f ≡ fault.Damaged from 2 → IsWanted im block from → im.count ≤ block → block ≢ superblock_place im.size → RefusesRightly im f
beyond_all im f block from is wanted high other = elim wanted [
  | inl super ↦ absurd (other super.0)
  | inr by ↦ told im f from 2 is by.0 by.1.3 (beyond_device from block by.1.0 by.1.1 high)
]

pub place_wanted : (im : Image) (f : MountFault) (block from : ℕ) (done : List ℕ) (d n : ℕ) → f ≡ fault.Damaged block 3 → block < im.count → IsWanted im block from → IsPlace im done d n block → RefusesRightly im f
place_wanted im f block from done d n is inside wanted place = elim wanted [
  | inl super ↦ absurd (place.apart super.0)
  | inr by ↦
      told im f block 3 is by.0 (record { inside = inside; system = by.1.4; format = inr by.0 }) (two_owners block from place.by by.1.0 (Below place.inode place.by place.pointer 0 place.index) by.1.1 place.claimed
      (λ e. place.plain (by.1.2 place.inode place.by place.pointer place.index e)) (below_no_chain by.1.0 place.inode place.by place.pointer 0 place.index))
]

-- ---- one more block is kept, or is a place

pub searched_more : (im : Image) (done : List ℕ) (d n : ℕ) (old new : Kept) (b from : ℕ) (x : List ℕ) → slice_get old.entries b ≡ Some None → new.entries ≡ slice_set old.entries b (Some x)
    → new.places ≡ old.places → new.leaves ≡ old.leaves → IsWanted im b from → IsSearched im done d n old → IsSearched im done d n new
searched_more im done d n old new b from x free is places leaves wanted known = record {
  leaves = λ c at. known.leaves c (ap (λ ls. slice_get ls c) (sym leaves) ∙ at);
  wanted = λ c bytes at. elim (get_kept x old.entries b c bytes free (ap (λ es. bytes_of (slice_get es c)) (sym is) ∙ at)) [
    | inl both ↦ (from, subst (λ z. IsWanted im z from) (sym both.0) wanted)
    | inr before ↦ known.wanted c bytes before
  ];
  marked = λ c at. known.marked c (ap (λ ps. slice_get ps c) (sym places) ∙ at);
}

got_other : {X : Type 0} (xs : List X) (i j : ℕ) (x : X) → i ≢ j → slice_get (slice_set xs i x) j ≡ slice_get xs j
got_other [] i j x d = refl
got_other (y ∷ xs) zero zero x d = absurd (d refl)
got_other (y ∷ xs) zero (suc j) x d = refl
got_other (y ∷ xs) (suc i) zero x d = refl
got_other (y ∷ xs) (suc i) (suc j) x d = got_other xs i j x (λ e. d (ap suc e))

-- one more block was read as a leaf
pub searched_leaf : (im : Image) (done : List ℕ) (d n : ℕ) (old new : Kept) (b from : ℕ) → new.leaves ≡ slice_set old.leaves b true → new.entries ≡ old.entries → new.places ≡ old.places → IsWanted im b from
    → IsSearched im done d n old → IsSearched im done d n new
searched_leaf im done d n old new b from is entries places wanted known = record {
  wanted = λ c bytes at. known.wanted c bytes (ap (λ es. bytes_of (slice_get es c)) (sym entries) ∙ at);
  marked = λ c at. known.marked c (ap (λ ps. slice_get ps c) (sym places) ∙ at);
  leaves = λ c at. elim (cases_eq b c) [
    | inl same ↦ (from, subst (λ z. IsWanted im z from) same wanted)
    | inr other ↦ known.leaves c (sym (got_other old.leaves b c true other) ∙ ap (λ ls. slice_get ls c) (sym is) ∙ at)
  ];
}

-- what is a place stays one, as more are found
pub place_later : (im : Image) (done : List ℕ) (d n m b : ℕ) → n ≤ m → IsPlace im done d n b → IsPlace im done d m b
place_later im done d n m b low place = record {
  apart = place.apart;
  inode = place.inode;
  by = place.by;
  pointer = place.pointer;
  index = place.index;
  claimed = place.claimed;
  plain = place.plain;
  system = place.system;
  of = elim place.of [ inl before ↦ inl before | inr here ↦ inr (here.0, omega (arith, low, here.1)) ];
}

pub place_done : (im : Image) (done : List ℕ) (d n b : ℕ) → IsPlace im done d n b → IsPlace im (done ++ d ∷ []) 0 0 b
place_done im done d n b place = record {
  apart = place.apart;
  inode = place.inode;
  by = place.by;
  pointer = place.pointer;
  index = place.index;
  claimed = place.claimed;
  plain = place.plain;
  system = place.system;
  of = inl (elim place.of [
    | inl before ↦ Contains-append_left done (d ∷ []) place.inode before
    | inr here ↦ subst (Contains (done ++ d ∷ [])) (sym here.0) (Contains-push done d)
  ]);
}

pub place_none : (im : Image) (done : List ℕ) (d e b : ℕ) → IsPlace im done d 0 b → IsPlace im done e 0 b
place_none im done d e b place = record {
  apart = place.apart;
  inode = place.inode;
  by = place.by;
  pointer = place.pointer;
  index = place.index;
  claimed = place.claimed;
  plain = place.plain;
  system = place.system;
  of = elim place.of [ inl before ↦ inl before | inr here ↦ absurd (omega (arith, here.1)) ];
}

pub searched_done : (im : Image) (done : List ℕ) (d n : ℕ) (k : Kept) → IsSearched im done d n k → IsSearched im (done ++ d ∷ []) 0 0 k
searched_done im done d n k known = record { wanted = known.wanted; leaves = known.leaves; marked = λ b at. place_done im done d n b (known.marked b at) }

pub searched_next : (im : Image) (done : List ℕ) (d : ℕ) (k : Kept) → IsSearched im done 0 0 k → IsSearched im done d 0 k
searched_next im done d k known = record { wanted = known.wanted; leaves = known.leaves; marked = λ b at. place_none im done 0 d b (known.marked b at) }

pub searched_new : (im : Image) (k : Kept) → All (λ kept. kept ≡ None) k.entries → All (λ place. place ≡ false) k.places → All (λ leaf. leaf ≡ false) k.leaves → IsSearched im [] 0 0 k
searched_new im k none unmarked no_leaf = record {
  leaves = λ b at. absurd (false_at k.leaves no_leaf b at);
  wanted = λ b bytes at. absurd (none_at k.entries none b bytes at);
  marked = λ b at. absurd (false_at k.places unmarked b at);
}
  where
    none_at : (entries : List (Option (List ℕ))) → All (λ kept. kept ≡ None) entries → (b : ℕ) (bytes : List ℕ) → bytes_of (slice_get entries b) ≡ Some bytes → ⊥
    none_at [] all b bytes at = cc
    none_at (e ∷ es) all zero bytes at = let e0 = all 0 None (omega arith) in cc
    none_at (e ∷ es) all (suc b) bytes at = none_at es (λ k d low. all (suc k) d (omega (arith, low))) b bytes at

    false_at : (places : List Bool) → All (λ place. place ≡ false) places → (b : ℕ) → slice_get places b ≡ Some true → ⊥
    false_at [] all b at = cc
    false_at (e ∷ es) all zero at = let e0 = all 0 false (omega arith) in cc
    false_at (e ∷ es) all (suc b) at = false_at es (λ k d low. all (suc k) d (omega (arith, low))) b at

pub marked_more : (im : Image) (done : List ℕ) (d n m : ℕ) (old new : Kept) (b : ℕ) → new.places ≡ slice_set old.places b true → new.entries ≡ old.entries → new.leaves ≡ old.leaves → n ≤ m → IsPlace im done d m b
    → IsSearched im done d n old → IsSearched im done d m new
marked_more im done d n m old new b is entries leaves low place known = record {
  leaves = λ c at. known.leaves c (ap (λ ls. slice_get ls c) (sym leaves) ∙ at);
  wanted = λ c bytes at. known.wanted c bytes (ap (λ es. bytes_of (slice_get es c)) (sym entries) ∙ at);
  marked = λ c at. elim (cases_eq b c) [
    | inl same ↦ subst (IsPlace im done d m) same place
    | inr other ↦ place_later im done d n m c low (known.marked c (sym (got_other old.places b c true other) ∙ ap (λ ps. slice_get ps c) (sym is) ∙ at))
  ];
}

-- ---- a place of the next journal

module _ (im : Image) (done : List ℕ) (system : System) (journal : Link) (next : IsNext im done system journal) where
  format : HasFormat im
  format = next.named.names.groups.list.master.format

  pub place_claim : (place : ℕ) (located : Located) (at : IsPlaceAt im journal.entry.addr place located) → Claims im located.from located.block (Below journal.entry.addr located.from at.leads.0 0 place)
  place_claim place located at =
      below journal.from journal.entry.addr (Named next.named.layout.jindex (journal_name next.named.index)) located.from at.leads.0 0 place located.block next.named.named.claimed refl at.leads.1

  pub place_beyond : (f : MountFault) (place : ℕ) (located : Located) → f ≡ fault.Damaged located.from 2 → IsPlaceAt im journal.entry.addr place located → im.count ≤ located.block → RefusesRightly im f
  place_beyond f place located is at high =
      told im f located.from 2 is format at.reached (beyond_device located.from located.block (Below journal.entry.addr located.from at.leads.0 0 place) (place_claim place located at) high)

  pub place_outside : (f : MountFault) (place : ℕ) (located : Located) → f ≡ fault.Damaged located.from 2 → IsPlaceAt im journal.entry.addr place located → IsOutside im located.block → RefusesRightly im f
  place_outside f place located is at out =
      told im f located.from 2 is format at.reached (beyond_groups located.from located.block (Below journal.entry.addr located.from at.leads.0 0 place) (place_claim place located at) out)

  one_place : (a b k i d c j p : ℕ) → Below a b k 0 i ≡ Below d c j 0 p → (a ≡ d) × (i ≡ p)
  one_place a b k i d c j p e = (cc, cc)

  pub place_again : (f : MountFault) (place : ℕ) (located : Located) → f ≡ fault.Damaged located.block 3 → located.block < im.count → IsPlaceAt im journal.entry.addr place located → IsPlace im done journal.entry.addr place located.block
      → RefusesRightly im f
  place_again f place located is inside at old =
      told im f located.block 3 is format (record { inside = inside; system = old.system; format = inr format })
      (two_owners located.block old.by located.from (Below old.inode old.by old.pointer 0 old.index) (Below journal.entry.addr located.from at.leads.0 0 place) old.claimed (place_claim place located at)
      (λ e. let same = one_place old.inode old.by old.pointer old.index journal.entry.addr located.from at.leads.0 place e in elim old.of [
        | inl before ↦ next.new (subst (Contains done) same.0 before)
        | inr here ↦ absurd (omega (arith, same.1, here.1))
      ]) (λ one. one))

  pub place_kept : (f : MountFault) (place : ℕ) (located : Located) (by : ℕ) → f ≡ fault.Damaged located.block 3 → located.block < im.count → IsPlaceAt im journal.entry.addr place located → IsWanted im located.block by
      → located.block ≢ superblock_place im.size → RefusesRightly im f
  place_kept f place located by is inside at wanted apart = elim wanted [
    | inl super ↦ absurd (apart super.0)
    | inr from ↦
        told im f located.block 3 is format (record { inside = inside; system = from.1.4; format = inr format })
        (two_owners located.block by located.from from.1.0 (Below journal.entry.addr located.from at.leads.0 0 place) from.1.1 (place_claim place located at)
        (λ e. next.plain (from.1.2 journal.entry.addr located.from at.leads.0 place e)) (below_no_chain from.1.0 journal.entry.addr located.from at.leads.0 0 place))
  ]

  pub place_system : (place : ℕ) (located : Located) → IsPlaceAt im journal.entry.addr place located → place < content_count (every im journal.entry.addr) → IsSystemBlock im located.block
  place_system place located at within = of_content journal.entry.addr located.from at.leads.0 0 place (journal_file im journal next.named) at.leads.1 within

  pub is_place : (place : ℕ) (located : Located) → IsPlaceAt im journal.entry.addr place located → located.block ≢ superblock_place im.size → place < content_count (every im journal.entry.addr) → IsPlace im done journal.entry.addr (place + 1) located.block
  is_place place located at apart within = record {
    system = place_system place located at within;
    apart = apart;
    inode = journal.entry.addr;
    by = located.from;
    pointer = at.leads.0;
    index = place;
    claimed = place_claim place located at;
    plain = next.plain;
    of = inr (refl, omega arith);
  }

-- ---- what was known before a block is read is known behind it

pub searched_on : {T E : Type 0} (r : Result T E) (s : Stop) (block from : ℕ) (old new : Kept) → s ≡ stop.Reads block from
    → OnOk r ((im : Image) (done : List ℕ) (d n : ℕ) → IsWanted im block from → IsSearched im done d n old → IsSearched im done d n new)
    → OnOk r ((im : Image) (done : List ℕ) (d n : ℕ) → StopsRightly im s → IsSearched im done d n old → IsSearched im done d n new)
searched_on (Ok x) s block from old new is more = λ im done d n stops known. more im done d n (subst (StopsRightly im) is stops) known
searched_on (Err e) s block from old new is more = tt

-- ---- blocks of groups

pub in_groups : (groups same : List Rindex) (b : ℕ) → groups ≡ same → (g : Rindex) × Contains groups g × IsDataOf g b → IsInGroups same b
in_groups groups same b is inside =
    let there = subst (λ gs. Contains gs inside.0) is inside.1 in
    (inside.0, (there.0, contains_at same inside.0 there), inside.2)

pub outside_groups : (im : Image) (system : System) (b : ℕ) (groups : List Rindex) → IsSystemOf im system → groups ≡ system.groups.items → All (λ g. ¬ (IsDataOf g b)) groups → IsOutside im b
outside_groups im system b groups looked same none = (
  groups,
  subst (IsWholeList im) (sym same) (record {
    sound = record {
      inode = system.rindex;
      rindex = looked.names.groups.list.master.rindex;
      only = looked.one_rindex;
      header = looked.rindex_looked.dinode.header;
      whole = looked.names.groups.list.whole;
      listed = looked.names.groups.list.listed;
      fit = looked.names.groups.fit.each;
      rise = looked.names.groups.fit.rise;
    };
    rest = looked.names.groups.fit.rest;
  }),
  λ g at inside.
      let low = slice_get_within groups at.0 g at.1 in
      subst (λ (h : Rindex). ¬ (IsDataOf h b)) (get_or_from_slice_get groups at.0 g g at.1) (none at.0 g low) inside,
)

pub above_super : (im : Image) (system : System) (b : ℕ) (groups : List Rindex) → IsSystemOf im system → groups ≡ system.groups.items → (g : Rindex) × Contains groups g × IsDataOf g b → b ≢ superblock_place im.size
above_super im system b groups looked same inside e =
    let g = inside.0 in
    let there = subst (λ gs. Contains gs g) same inside.1 in
    let fits = looked.names.groups.fit.each g (there.0, slice_get-get_or system.groups.items there.0 g there.1 ∙ ap Some there.2) in
    absurd (omega (arith, e, fits.above, fits.first, inside.2.low))

-- ---- the image of which a disk shows the system files

-- what is wanted is a block of them
pub wanted_system : (im : Image) (block from : ℕ) → IsWanted im block from → IsSystemBlock im block
wanted_system im block from (inl super) = of_superblock super.0
wanted_system im block from (inr by) = by.1.4

-- and behind the superblock the formats are those of the profile
pub wanted_format : (im : Image) (block from : ℕ) → IsWanted im block from → (block ≡ superblock_place im.size) ⊎ HasFormat im
wanted_format im block from (inl super) = inl super.0
wanted_format im block from (inr by) = inr by.0

-- so mounting comes to it, where the device has it
pub wanted_reached : (im : Image) (block from : ℕ) → IsWanted im block from → block < im.count → IsReached im block
wanted_reached im block from wanted inside = record { inside = inside; system = wanted_system im block from wanted; format = wanted_format im block from wanted }

-- on a device that has no more blocks than are mounted
pub wanted_few : (im : Image) (block from : ℕ) → IsWanted im block from → im.count ≤ most_blocks
wanted_few im block from (inl super) = super.1
wanted_few im block from (inr by) = by.0.super.few

-- why what is wanted isn't read, of a disk that holds what it held before
pub go_refused : (old now : DiskState) (im : Image) (s : Stop) (k : Kept) (f : MountFault) (done : List ℕ) (d n : ℕ) → now ≡ old
    → ((done : List ℕ) (d n : ℕ) → (im : Image) → ShowsSystem now im → StopsRightly im s → IsSearched im done d n k → RefusesRightly im f)
    → ShowsSystem old im → StopsRightly im s → IsSearched im done d n k → RefusesRightly im f
go_refused old now im s k f done d n same more shows = more done d n im (subst (λ (t : DiskState). ShowsSystem t im) (sym same) shows)

-- the blocks that are kept are the image's
pub read_shown : (old now : DiskState) (im : Image) (done : List ℕ) (d n : ℕ) (k : Kept) → now ≡ old → IsWorking now k → ShowsSystem old im → IsSearched im done d n k → IsRead im k
read_shown old now im done d n k same work shows known = record {
  size = work.size ∙ ap (λ (t : DiskState). t.size) same ∙ sym shows.size;
  count = work.count ∙ ap (λ (t : DiskState). t.count) same ∙ sym shows.count;
  reached = λ b bytes at.
      let wanted = known.wanted b bytes at in
      wanted_reached im b wanted.0 wanted.1 (omega (arith, kept_inside k.entries b bytes at, work.count, ap (λ (t : DiskState). t.count) same, shows.count));
  same = λ b bytes at.
      let wanted = known.wanted b bytes at in
      let here : IsWorking old k = subst (λ (t : DiskState). IsWorking t k) same work in
      shows.same b (wanted_system im b wanted.0 wanted.1) ∙ here.same shows.tells b bytes at;
}

-- so is a block that was read
pub bytes_shown : (old now : DiskState) (im : Image) (b : ℕ) (x : List ℕ) → now ≡ old → ShowsSystem old im → IsSystemBlock im b → (IsTrue now.tells → x ≡ now.block_at b) → im.at b ≡ x
bytes_shown old now im b x same shows of is = shows.same b of ∙ sym (subst (λ (t : DiskState). IsTrue t.tells → x ≡ t.block_at b) same is shows.tells)

pub shows_now : (old now : DiskState) (im : Image) → now ≡ old → ShowsSystem old im → ShowsSystem now im
shows_now old now im same = subst (λ (t : DiskState). ShowsSystem t im) (sym same)

pub few_shown : (s : DiskState) (im : Image) → ShowsSystem s im → s.count ≤ most_blocks → im.count ≤ most_blocks
few_shown s im shows few = subst (λ n. n ≤ most_blocks) (sym shows.count) few
