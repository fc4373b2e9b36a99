-- The places of a journal, as they are found one by one.
use Rattle.std.proofs.Common.{◌≡◌, ◌≢◌, inl, inr, ℕ, zero, suc, ◌+◌, ◌-◌, ◌/◌, ◌%◌, ◌==◌, ◌<◌, ◌≤◌, true, List, [], ◌∷◌, ◌++◌, length, get_or, None, Some, refl, sym, ap, subst, ◌∙◌, arith}
use Rattle.std.specs.Prelude.{map, nat_lt, slice_get}
use Rattle.std.specs.List.{All, range_with_len}
use Rattle.std.proofs.lemmas.Bool.{cases_Bool, cases_eq, cond-true, cond-false, ne_eqb}
use Rattle.std.proofs.lemmas.Bool.Decides.{nat_tests}
use Rattle.std.proofs.lemmas.Nat.{le-div}
use Rattle.std.proofs.lemmas.List.{length-map}
use Rattle.std.proofs.lemmas.List.Elements.{All-push}
use Rattle.std.proofs.lemmas.List.FromFn.{get_or-map-range_with_len, length-range_with_len, map-range_with_len_more}
use Rattle.std.proofs.lemmas.Option.{slice_get-get_or}
use Rattle.std.proofs.Math.Nat.{div-eq_of_lt, div-mul-le_self, mul-le-mul_left}
use Rattle.dinode_tree.specs.Reading.{IsHeadedWay, IsNeeded, IsOnWay, the_dinode, led_to, block_at, reach, target}
use Rattle.dinode_tree.specs.declared.locating.Located.{Located}
use Rattle.gfs2_layout.specs.Inode.{Leads, dinode_in, height_in, is_directory_in, header_length, unit, content_block, content_count}
use Rattle.log_layout.specs.Journal.{ring_of}
use Rattle.gfs2_layout.specs.Holding.{Holding}
use Rattle.gfs2_layout.specs.declared.dinode.Dinode.{Dinode}
use Rattle.glock_names.specs.Views.{Seen}
use Rattle.glock_names.specs.declared.steps.Missing.{Missing}
use Rattle.image_model.specs.Claims.{every, Claims, below, HasInode, HasJournal}
use Rattle.image_model.specs.Image.{Image}
use Rattle.image_model.specs.Journals.{journal_name}
use Rattle.image_model.specs.Owners.{Below, Named}
use Rattle.image_model.specs.Rules.{journal_hole, journal_part}
use Rattle.image_model.specs.SystemFiles.{IsSystemBlock, IsSystemFile, is_journal, of_content, of_dinode}
use Rattle.image_model.proofs.Lengths.{whole_pieces}
use Rattle.image_mount.specs.Looks.{IsLookedAt}
use Rattle.image_mount.specs.Found.{HasFormat, IsReached}
use Rattle.image_mount.specs.Refusals.{RefusesRightly}
use Rattle.image_mount.specs.Refusals as outside
use Rattle.image_mount.specs.Rings.{IsJournalIn, HasPlaces, IsPlaceAt, AreBlocksOf}
use Rattle.image_mount.specs.Searching.{IsWanted}
use Rattle.image_mount.specs.declared.listing.Link.{Link}
use Rattle.image_mount.specs.declared.fault.MountFault.{MountFault}
use Rattle.image_mount.specs.declared.fault.MountFault.TheVariants as fault
use Rattle.image_mount.specs.declared.field.Field.TheVariants as field
use Rattle.image_mount.proofs.Causes.{told, told_outside}
use Rattle.image_mount.proofs.Wanted.{dinode_leads, above_leads}

some_same : {X : Type 0} (x y : X) → Some x ≡ Some y → x ≡ y
some_same x y e = cc

none_some : {X : Type 0} (x : X) → None ≡ Some x → ⊥
none_some x e = cc

-- ---- blocks of content

pub found_block : (h : Holding) (i b : ℕ) → Some b ≡ block_at h i → b ≡ content_block h i
found_block h i b e = elim (cases_Bool (nat_lt i (reach h.size (height_in h)))) [
  | inr past ↦ absurd (none_some b (sym (cond-false _ _ _ past) ∙ sym e))
  | inl low ↦
      let here : Some b ≡ target (content_block h i) = e ∙ cond-true _ _ _ low in
      elim (cases_Bool (content_block h i == 0)) [
        | inl none ↦ absurd (none_some b (sym (cond-true _ _ _ none) ∙ sym here))
        | inr some ↦ some_same b (content_block h i) (here ∙ cond-false _ _ _ some)
      ]
]

pub hole_block : (h : Holding) (i : ℕ) → None ≡ block_at h i → i < reach h.size (height_in h) → content_block h i ≡ 0
hole_block h i e low = elim (cases_eq (content_block h i) 0) [
  | inl none ↦ none
  | inr some ↦
      let within : nat_lt i (reach h.size (height_in h)) ≡ true = grind (arith, nat_tests, low) in
      absurd (none_some (content_block h i) (e ∙ cond-true _ _ _ within ∙ cond-false _ _ _ (ne_eqb (content_block h i) 0 some)))
]

fewer : (n size unit : ℕ) → 0 < unit → unit ≤ size → n / size ≤ n / unit
fewer n size unit some low = le-div (n / size) n unit some (omega (arith, mul-le-mul_left (n / size) low, div-mul-le_self n size))

pub unit_bounds : (im : Image) (d : ℕ) → 512 ≤ im.size → (0 < unit (every im d)) × (unit (every im d) ≤ im.size)
unit_bounds im d large = elim (cases_Bool (is_directory_in (every im d))) [
  | inl dir ↦ let e : unit (every im d) ≡ im.size - header_length = cond-true _ _ _ dir in (omega (arith, e, large), omega (arith, e))
  | inr file ↦ let e : unit (every im d) ≡ im.size = cond-false _ _ _ file in (omega (arith, e, large), omega (arith, e))
]

-- the places are before the file's end
pub place_within : (im : Image) (d places place : ℕ) → HasPlaces im d places → place < places → place < content_count (every im d)
place_within im d places place has low =
    let bytes = (dinode_in (every im d)).size in
    let bounds = unit_bounds im d has.large in
    let few = fewer bytes im.size (unit (every im d)) bounds.0 bounds.1 in
    let all = whole_pieces bytes (unit (every im d)) bounds.0 in
    omega (arith, low, has.count, few, all)

-- the places are among the blocks that the pointers reach
pub within_reach : (im : Image) (d places place : ℕ) → HasPlaces im d places → place < places → place < reach im.size (height_in (every im d))
within_reach im d places place has low = each (height_in (every im d)) refl
  where
    bytes : ℕ
    bytes = (dinode_in (every im d)).size

    each : (n : ℕ) → height_in (every im d) ≡ n → place < reach im.size n
    each zero is =
        let stuffed = has.looked.dinode.fits.stuffed is in
        let none : bytes / im.size ≡ 0 = div-eq_of_lt (omega (arith, stuffed)) in
        absurd (omega (arith, none, has.count, has.least))
    each (suc level) is =
        let bounds = unit_bounds im d has.large in
        let few = fewer bytes im.size (unit (every im d)) bounds.0 bounds.1 in
        let all = whole_pieces bytes (unit (every im d)) bounds.0 in
        omega (arith, low, has.count, few, all, has.looked.dinode.fits.under level is)

-- ---- a journal by its record

pub journal_of : (im : Image) (journal : Link) (of : IsJournalIn im journal) → HasJournal im of.index journal.entry.addr
journal_of im journal of = (of.layout.jindex, of.names.groups.list.master.jindex, (journal.from, of.named.claimed))

pub journal_file : (im : Image) (journal : Link) → IsJournalIn im journal → IsSystemFile im journal.entry.addr
journal_file im journal of = is_journal of.index (journal_of im journal of)

pub journal_format : (im : Image) (journal : Link) → IsJournalIn im journal → HasFormat im
journal_format im journal of = of.names.groups.list.master.format

pub journal_inode : (im : Image) (journal : Link) → IsJournalIn im journal → HasInode im journal.entry.addr
journal_inode im journal of = (Named of.layout.jindex (journal_name of.index), record { by = journal.from; claimed = of.named.claimed; dinode = refl })

pub wrong_part : (im : Image) (journal : Link) (f : MountFault) (d size : ℕ) (dinode : Dinode) → IsJournalIn im journal → f ≡ fault.Damaged d 8 → d ≡ journal.entry.addr → IsReached im d
    → dinode ≡ dinode_in (every im journal.entry.addr) → size ≡ im.size → dinode.size % size ≢ 0 → RefusesRightly im f
wrong_part im journal f d size dinode of is at inside read sized part =
    told im f journal.entry.addr 8 (is ∙ ap (λ b. fault.Damaged b 8) at) (journal_format im journal of) (subst (IsReached im) at inside)
    (journal_part of.index journal.entry.addr (journal_of im journal of) (λ e. part (ap (λ (x : Dinode). x.size % size) read ∙ ap (λ n. (dinode_in (every im journal.entry.addr)).size % n) sized ∙ e)))

pub wrong_places : (im : Image) (journal : Link) (f : MountFault) (places : ℕ) → IsJournalIn im journal → f ≡ fault.NotProfile field.Journal places
    → IsLookedAt im journal.entry.addr → (dinode_in (every im journal.entry.addr)).size % im.size ≡ 0 → places ≡ (ring_of (every im journal.entry.addr)).places → ((512 ≤ places) × (places ≤ 65536) → ⊥) → RefusesRightly im f
wrong_places im journal f places of is looked whole count wrong =
    told_outside im f field.Journal (ring_of (every im journal.entry.addr)).places (is ∙ ap (fault.NotProfile field.Journal) count)
    (outside.journal of.layout of.index journal.entry.addr of.names of.before of.at looked whole (λ both. wrong (omega (arith, both.0, count), omega (arith, both.1, count))))

pub wrong_hole : (im : Image) (journal : Link) (f : MountFault) (places place : ℕ) → IsJournalIn im journal → f ≡ fault.Damaged journal.entry.addr 8 → HasPlaces im journal.entry.addr places
    → place < places → None ≡ block_at (every im journal.entry.addr) place → RefusesRightly im f
wrong_hole im journal f places place of is has low hole =
    told im f journal.entry.addr 8 is (journal_format im journal of) has.reached
    (journal_hole of.index journal.entry.addr place (journal_of im journal of) (omega (arith, low, has.count)) (hole_block (every im journal.entry.addr) place hole (within_reach im journal.entry.addr places place has low)))

-- ---- blocks that are wanted on the way to a place

pub journal_wanted : (im : Image) (journal : Link) → IsJournalIn im journal → IsWanted im journal.entry.addr journal.from
journal_wanted im journal of =
    inr (journal_format im journal of, (Named of.layout.jindex (journal_name of.index), of.named.claimed, dinode_leads im (Named of.layout.jindex (journal_name of.index)) refl, of.named.reached, of_dinode (journal_file im journal of)))

pub above_wanted : (im : Image) (journal : Link) (v : Seen) (place : ℕ) (m : Missing) → IsJournalIn im journal → IsNeeded v (every im journal.entry.addr) (λ i. i ≡ place) 1 m
    → IsReached im m.from → m.block ≢ journal.entry.addr → place < content_count (every im journal.entry.addr) → IsWanted im m.block m.from
above_wanted im journal v place m of needed inside other within = each needed.way
  where
    at : (k level first : ℕ) → 1 ≤ level → Leads (every im journal.entry.addr) m.from k level first m.block → first < content_count (every im journal.entry.addr) → IsWanted im m.block m.from
    at k zero first least leads low = absurd (omega arith)
    at k (suc level) first least leads low =
        inr (
          journal_format im journal of,
          (
            Below journal.entry.addr m.from k (suc level) first,
            below journal.from journal.entry.addr (Named of.layout.jindex (journal_name of.index)) m.from k (suc level) first m.block of.named.claimed refl leads,
            above_leads im journal.entry.addr m.from k level first,
            inside,
            of_content journal.entry.addr m.from k (suc level) first (journal_file im journal of) leads low,
          ),
        )

    each : IsOnWay (every im journal.entry.addr) (λ i. i ≡ place) 1 m → IsWanted im m.block m.from
    each (the_dinode own from plain) = absurd (other own)
    each (led_to i k level first wanted least leads begins ends plain) = let same : i ≡ place = wanted in at k level first least leads (omega (arith, begins, same, within))

-- ---- one more place

pub blocks_none : (im : Image) (d : ℕ) → AreBlocksOf im d 0 []
blocks_none im d = record { all = refl; reached = λ k x low. absurd (omega (arith, low)); system = λ k x low. absurd (omega (arith, low)); headed = λ p low. absurd (omega (arith, low)) }

pub blocks_more : (im : Image) (d n by k : ℕ) (located : Located) (old new : List ℕ) → AreBlocksOf im d n old → IsPlaceAt im d n located → HasFormat im → located.block < im.count → Claims im by located.block (Below d by k 0 n) → IsSystemBlock im located.block → new ≡ old ++ located.block ∷ []
    → AreBlocksOf im d (n + 1) new
blocks_more im d n by k located old new are at format low claim system is = record {
  system = subst (All (IsSystemBlock im)) (sym is) (All-push (IsSystemBlock im) old located.block are.system system);
  all = is ∙ ap (λ xs. xs ++ located.block ∷ []) are.all ∙ ap (λ b. map (content_block (every im d)) (range_with_len 0 n) ++ b ∷ []) at.block
      ∙ sym (map-range_with_len_more (content_block (every im d)) 0 n n (omega arith));
  headed = λ p below. elim (cases_eq p n) [
    | inl same ↦ subst (IsHeadedWay (every im d)) (sym same) at.headed
    | inr other ↦ are.headed p (omega (arith, below, other))
  ];
  reached = subst (All (IsReached im)) (sym is) (All-push (IsReached im) old located.block are.reached (record { inside = low; system = system; format = inr format }));
}

-- the block at a place is that of content
pub block_there : (im : Image) (d n : ℕ) (blocks : List ℕ) (p : ℕ) → AreBlocksOf im d n blocks → p < n → slice_get blocks p ≡ Some (content_block (every im d) p)
block_there im d n blocks p are low =
    let count : length blocks ≡ n = ap length are.all ∙ length-map (range_with_len 0 n) (content_block (every im d)) ∙ length-range_with_len 0 n in
    slice_get-get_or blocks p 0 (omega (arith, count, low))
    ∙ ap Some (ap (λ bs. get_or bs p 0) are.all ∙ get_or-map-range_with_len (content_block (every im d)) 0 n p p 0 low (omega arith))
