-- What is known of a mounted image's journals and groups.
use Rattle.std.proofs.Common.{◌≡◌, ◌+◌, ◌<◌, ◌≤◌, ◌⊎◌, ℕ, zero, suc, Bool, true, false, List, [], ◌∷◌, length, Option, None, Some, get_or, refl, sym, ap, subst, ◌∙◌, inl, inr, arith}
use Rattle.std.specs.Prelude.{◌||◌, ◌==◌, codes, map, slice_get, Contains}
use Rattle.std.specs.List.{range_with_len}
use Rattle.std.specs.Option.{option_map}
use Rattle.std.proofs.lemmas.Bool.{eqb-true}
use Rattle.std.proofs.lemmas.Bool.Decides.{nat_tests}
use Rattle.std.proofs.lemmas.List.FromFn.{get_or-map-range_with_len, length-map-range_with_len}
use Rattle.std.proofs.lemmas.Option.{get_or_from_slice_get, slice_get-get_or, slice_get-map, slice_get_within}
use Rattle.gfs2_layout.specs.Inode.{content_block, content_of}
use Rattle.gfs2_layout.specs.declared.rindex.Rindex.{Rindex}
use Rattle.glock_names.specs.Views.{group_of_entry}
use Rattle.image_model.specs.Claims.{every, HasGroup, HasJournal, IsJindex, IsRindex, LeadsTo}
use Rattle.image_model.specs.Groups.{IsListed, IsHeaderOf, IsDataOf, groups_in}
use Rattle.image_model.specs.Image.{Image, image_of}
use Rattle.image_model.specs.Journals.{journal_name}
use Rattle.image_model.specs.Replays.{HasItsJournals}
use Rattle.image_model.specs.Stands.{IsJournalAt}
use Rattle.image_model.specs.SystemFiles.{IsSystemBlock}
use Rattle.image_model.proofs.JournalNames.{one_number}
use Rattle.image_mount.specs.Looks.{HasTrueRecord}
use Rattle.image_mount.specs.Mounted.{IsJournalOf, IsMounted, Journal, MountedValue}
use Rattle.image_mount.proofs.Records.{led_record}
use Rattle.image_replays.specs.Marking.{is_in_groups, is_of_group, is_place}
use Rattle.replay_marks.specs.Marking.{is_among, is_between}
use Rattle.journal_reads.specs.Reading.{ring_read}
use Rattle.log_layout.specs.Journal.{ring_of}
use Rattle.log_layout.specs.Laws.{HasSamePlaces}
use Rattle.shared_disk.specs.Disk.{DiskState, IsIdle, flight_to}
use Rattle.std.specs.Prelude.{unwrap_or}
use Rattle.image_replays.proofs.Lists.{Passes, any_at, any_is, none_some, some_is}

-- a true record is the only one of its name
only_one : (im : Image) (a : ℕ) (name : List ℕ) (d c : ℕ) → HasTrueRecord im a name d → LeadsTo im a name c → c ≡ d
only_one im a name d c record_of way =
    let led = led_record im a way.0 c name way.1 in
    let row = record_of.one way.0 led.0 led.1 led.2 in
    sym led.3 ∙ ap (λ r. r.address) row ∙ record_of.true_of.address

pub some_at : {X : Type 0} (xs : List X) (j : ℕ) → j < length xs → (x : X) × (slice_get xs j ≡ Some x)
some_at [] j less = absurd (omega (arith, less))
some_at (x ∷ xs) zero less = (x, refl)
some_at (x ∷ xs) (suc j) less = some_at xs j (omega (arith, less))

module _ (im : Image) (m : MountedValue) (is : IsMounted im m) where
  pub one_jindex : (d : ℕ) → IsJindex im d → d ≡ is.layout.jindex
  one_jindex d way = only_one im is.layout.master (codes "jindex") is.layout.jindex d is.looked.jindex_record (subst (λ a. LeadsTo im a (codes "jindex") d) is.found.groups.list.master.master way)

  pub one_rindex : (d : ℕ) → IsRindex im d → d ≡ is.layout.rindex
  one_rindex d way = only_one im is.layout.master (codes "rindex") is.layout.rindex d is.looked.rindex_record (subst (λ a. LeadsTo im a (codes "rindex") d) is.found.groups.list.master.master way)

  pub has_journal : (j d : ℕ) → IsJournalAt is.layout j d → HasJournal im j d
  has_journal j d at = (is.layout.jindex, is.found.groups.list.master.jindex, is.found.there j d at)

  pub its_journals : HasItsJournals im is.layout
  its_journals = record {
    there = has_journal;
    all = λ j d has few.
        let way : LeadsTo im is.layout.jindex (journal_name j) d = subst (λ a. LeadsTo im a (journal_name j) d) (one_jindex has.0 has.1) has.2 in
        let named = is.profile.journals.others (journal_name j) d way in
        let most : length is.layout.journals ≤ 8 = is.profile.journals.few in
        let low : named.0 < length is.layout.journals = slice_get_within is.layout.journals named.0 d named.1 in
        let same : named.0 ≡ j = one_number named.0 j (omega (arith, low, most)) (omega (arith, few, most)) (sym named.2) in
        subst (λ i. IsJournalAt is.layout i d) same named.1;
  }

  -- the journal that was mounted at a number
  pub mounted_at : (j d : ℕ) → IsJournalAt is.layout j d → (x : Journal) × (slice_get m.journals j ≡ Some x) × IsJournalOf im d x
  mounted_at j d at =
      let low : j < length is.layout.journals = slice_get_within is.layout.journals j d at in
      let less : j < length m.journals = subst (λ n. j < n) (sym is.count) low in
      let x = some_at m.journals j less in
      (x.0, x.1, is.journals j d x.0 at x.1)

  -- ---- groups

  pub group_listed : (g : Rindex) → HasGroup im g → IsListed is.layout.groups g
  group_listed g has =
      let list : groups_in (content_of (every im has.0)) ≡ is.layout.groups = ap (λ d. groups_in (content_of (every im d))) (one_rindex has.0 has.1) ∙ is.found.groups.list.listed in
      subst (λ gs. IsListed gs g) list has.2

  pub listed_group : (g : Rindex) → IsListed is.layout.groups g → HasGroup im g
  listed_group g at = (is.layout.rindex, is.found.groups.list.master.rindex, subst (λ gs. IsListed gs g) (sym is.found.groups.list.listed) at)

  between_is : (from to b : ℕ) → is_between from to b ≡ true → (from ≤ b) × (b < to)
  between_is from to b e = (grind (arith, nat_tests, e), grind (arith, nat_tests, e))

  is_between_of : (from to b : ℕ) → from ≤ b → b < to → is_between from to b ≡ true
  is_between_of from to b low high = grind (arith, nat_tests, low, high)

  either : (p q : Bool) → (p || q) ≡ true → (p ≡ true) ⊎ (q ≡ true)
  either true q e = inl refl
  either false q e = inr e

  or_true : (p : Bool) → (p || true) ≡ true
  or_true true = refl
  or_true false = refl

  of_group_is : (b : ℕ) (g : Rindex) → is_of_group b (group_of_entry g) ≡ true → IsHeaderOf g b ⊎ IsDataOf g b
  of_group_is b g e = elim (either (is_between g.address (g.address + g.length) b) (is_between g.data0 (g.data0 + g.data_blocks) b) e) [
    | inl header ↦ let both = between_is g.address (g.address + g.length) b header in inl (record { low = both.0; high = both.1 })
    | inr data_block ↦ let both = between_is g.data0 (g.data0 + g.data_blocks) b data_block in inr (record { low = both.0; high = both.1 })
  ]

  is_of_group_by : (b : ℕ) (g : Rindex) → IsHeaderOf g b ⊎ IsDataOf g b → is_of_group b (group_of_entry g) ≡ true
  is_of_group_by b g (inl header) = ap (λ t. t || is_between g.data0 (g.data0 + g.data_blocks) b) (is_between_of g.address (g.address + g.length) b header.low header.high)
  is_of_group_by b g (inr data_block) =
      ap (λ t. is_between g.address (g.address + g.length) b || t) (is_between_of g.data0 (g.data0 + g.data_blocks) b data_block.low data_block.high) ∙ or_true (is_between g.address (g.address + g.length) b)

  pub in_groups : (b : ℕ) → is_in_groups m.groups b ≡ true → (g : Rindex) × HasGroup im g × (IsHeaderOf g b ⊎ IsDataOf g b)
  in_groups b e = by (any_is (is_of_group b) (map group_of_entry is.layout.groups) (ap (λ gs. is_in_groups gs b) (sym is.groups) ∙ e))
    where
      by : Passes (is_of_group b) (map group_of_entry is.layout.groups) → (g : Rindex) × HasGroup im g × (IsHeaderOf g b ⊎ IsDataOf g b)
      by one = from (slice_get is.layout.groups one.index) refl
        where
          from : (o : Option Rindex) → slice_get is.layout.groups one.index ≡ o → (g : Rindex) × HasGroup im g × (IsHeaderOf g b ⊎ IsDataOf g b)
          from None e = absurd (none_some one.one (sym (ap (option_map group_of_entry) e) ∙ sym (slice_get-map group_of_entry is.layout.groups one.index) ∙ one.there))
          from (Some g) e =
              let same : group_of_entry g ≡ one.one = some_is (sym (ap (option_map group_of_entry) e) ∙ sym (slice_get-map group_of_entry is.layout.groups one.index) ∙ one.there) in
              (g, listed_group g (one.index, e), of_group_is b g (ap (is_of_group b) same ∙ one.passes))

  pub has_group_in : (b : ℕ) (g : Rindex) → HasGroup im g → IsHeaderOf g b ⊎ IsDataOf g b → is_in_groups m.groups b ≡ true
  has_group_in b g has inside =
      let at = group_listed g has in
      ap (λ gs. is_in_groups gs b) is.groups
      ∙ any_at (is_of_group b) (map group_of_entry is.layout.groups) at.0 (group_of_entry g) (slice_get-map group_of_entry is.layout.groups at.0 ∙ ap (option_map group_of_entry) at.1) (is_of_group_by b g inside)

  -- ---- places

  pub place_is : (j d p : ℕ) → IsJournalAt is.layout j d → p < (ring_of (every im d)).places → is_place m.journals (content_block (every im d) p) ≡ true
  place_is j d p at low =
      let x = mounted_at j d at in
      let b = content_block (every im d) p in
      let n = (ring_of (every im d)).places in
      let zero_is : 0 + p ≡ p = omega arith in
      let value : get_or (map (content_block (every im d)) (range_with_len 0 n)) p b ≡ b = get_or-map-range_with_len (content_block (every im d)) 0 n p p b low zero_is in
      let inside : p < length (map (content_block (every im d)) (range_with_len 0 n)) = subst (λ k. p < k) (sym (length-map-range_with_len (content_block (every im d)) 0 n)) low in
      let there : slice_get (map (content_block (every im d)) (range_with_len 0 n)) p ≡ Some b = slice_get-get_or _ p b inside ∙ ap Some value in
      let own : (b == b) ≡ true = grind (arith, nat_tests) in
      any_at (λ (y : Journal). is_among y.blocks b) m.journals j x.0 x.1
      (ap (λ bs. is_among bs b) x.2.blocks ∙ any_at (λ c. c == b) (map (content_block (every im d)) (range_with_len 0 n)) p b there own)

-- ---- blocks of the system files

module _ (im : Image) (m : MountedValue) (is : IsMounted im m) (b : ℕ) where
  pub system_among : IsSystemBlock im b → is_among m.system b ≡ true
  system_among of =
      let has = (is.system b).1 of in
      let own : (b == b) ≡ true = grind (arith, nat_tests) in
      any_at (λ c. c == b) m.system has.0 b (slice_get-get_or m.system has.0 b has.1 ∙ ap Some has.2) own

  pub among_system : is_among m.system b ≡ true → IsSystemBlock im b
  among_system e =
      let one = any_is (λ c. c == b) m.system e in
      (is.system b).0 (subst (Contains m.system) (eqb-true one.one b one.passes) (one.index, slice_get_within m.system one.index one.one one.there, get_or_from_slice_get m.system one.index one.one one.one one.there))

-- ---- rings

module _ (s : DiskState) (node : ℕ) (idle : IsIdle s) (d : ℕ) (x : Journal) (of : IsJournalOf (image_of s) d x) where
  abbrev n : ℕ
  n = (ring_of (every (image_of s) d)).places

  long : length x.blocks ≡ n
  long = ap length of.blocks ∙ length-map-range_with_len (content_block (every (image_of s) d)) 0 n

  pub block_at_place : (p : ℕ) → p < n → get_or x.blocks p 0 ≡ content_block (every (image_of s) d) p
  block_at_place p low = let z : 0 + p ≡ p = omega arith in ap (λ bs. get_or bs p 0) of.blocks ∙ get_or-map-range_with_len (content_block (every (image_of s) d)) 0 n p p 0 low z

  pub same_ring : HasSamePlaces (ring_read s node x.blocks) (ring_of (every (image_of s) d))
  same_ring = record {
    size = refl;
    places = long;
    blocks = λ p low.
        ap (λ fs. unwrap_or (flight_to fs (get_or x.blocks p 0)) (s.block_at (get_or x.blocks p 0))) (idle.none_in_flight node)
        ∙ ap s.block_at (block_at_place p (subst (λ k. p < k) long low));
  }
