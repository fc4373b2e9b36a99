-- The marks by what was found in an image are what a replay may change.
use Rattle.std.proofs.Common.{◌≡◌, ◌⊎◌, inl, inr, ◌+◌, ◌<◌, ◌≤◌, ℕ, Bool, true, false, List, length, Some, Result, Ok, Err, get_or, refl, sym, ap, subst, ◌∙◌, arith}
use Rattle.std.specs.Prelude.{◌↔◌, ◌||◌, ◌==◌, Contains, IfOk, if◌then◌else◌, map, nat_lt, slice_get}
use Rattle.std.specs.List.{range_with_len}
use Rattle.std.proofs.lemmas.Bool.{eq-eqb, eqb-true}
use Rattle.std.proofs.lemmas.Bool.Decides.{nat_tests}
use Rattle.std.proofs.Math.ListN.{get_or-eq_default}
use Rattle.std.proofs.lemmas.List.FromFn.{get_or-map-range_with_len, length-map-range_with_len}
use Rattle.std.proofs.lemmas.Option.{get_or_from_slice_get, slice_get-get_or, slice_get_within}
use Rattle.gfs2_layout.specs.Inode.{content_block}
use Rattle.gfs2_layout.specs.declared.rindex.Rindex.{Rindex}
use Rattle.image_journals.specs.Found.{AreJournals}
use Rattle.image_journals.specs.Frames.{HasSameFrame}
use Rattle.image_journals.specs.Shown.{IfMemory}
use Rattle.image_journals.specs.declared.unfound.Unfound.{Unfound}
use Rattle.image_journals.specs.declared.unfound.Unfound.TheVariants.{Broken, NoMemory}
use Rattle.image_journals.specs.declared.finding.JournalPlaces.{JournalPlaces}
use Rattle.image_journals.proofs.Adding.{contained_at, contained_by}
use Rattle.image_model.specs.Claims.{HasGroup, every}
use Rattle.image_model.specs.Groups.{IsDataOf, IsHeaderOf}
use Rattle.image_model.specs.Image.{Image}
use Rattle.image_model.specs.Owners.{Owners}
use Rattle.image_model.specs.Replays.{MayChange}
use Rattle.image_model.specs.Stands.{IsJournalAt, IsLaid, Layout}
use Rattle.image_model.specs.SystemFiles.{IsSystemBlock}
use Rattle.image_outcomes.proofs.SameFiles.{HasSameFiles}
use Rattle.image_replays.proofs.Lists.{any_at, any_is, barred_live, barred_open, false_true, open_barred, open_live}
use Rattle.image_replays.proofs.System.{some_at}
use Rattle.log_layout.specs.Journal.{ring_of}
use Rattle.replay_marks.specs.Marking.{is_among, is_between, mark_of}
use Rattle.replay_marks.specs.declared.marks.Mark.{Mark}
use Rattle.replay_marks.specs.declared.marks.Mark.TheVariants.{Barred, Live, Open}
use Rattle.replayed_trees.proofs.SameFrames.{same_frames}
use Rattle.replayed_trees.specs.Marking.{AreMarked, first_mark, is_in_groups, is_of_group, is_place}

among_of : (bs : List ℕ) (b : ℕ) → Contains bs b → is_among bs b ≡ true
among_of bs b has = let at = contained_at bs b has in any_at (λ c. c == b) bs at.0 b at.2 (eq-eqb b b refl)

of_among : (bs : List ℕ) (b : ℕ) → is_among bs b ≡ true → Contains bs b
of_among bs b is = let one = any_is (λ c. c == b) bs is in subst (Contains bs) (eqb-true one.one b one.passes) (contained_by bs one.index one.one one.there)

of_group : (b : ℕ) (g : Rindex) → is_of_group b g ≡ true → IsHeaderOf g b ⊎ IsDataOf g b
of_group b g is = by (is_between g.address (g.address + g.length) b) (is_between g.data0 (g.data0 + g.data_blocks) b) refl refl
  where
    by : (t u : Bool) → is_between g.address (g.address + g.length) b ≡ t → is_between g.data0 (g.data0 + g.data_blocks) b ≡ u → IsHeaderOf g b ⊎ IsDataOf g b
    by true u e f = inl (record { low = grind (arith, nat_tests, e); high = grind (arith, nat_tests, e) })
    by false true e f = inr (record { low = grind (arith, nat_tests, f); high = grind (arith, nat_tests, f) })
    by false false e f = absurd (false_true (sym (ap (λ t. t || is_between g.data0 (g.data0 + g.data_blocks) b) e ∙ f) ∙ is))

group_of : (b : ℕ) (g : Rindex) → IsHeaderOf g b ⊎ IsDataOf g b → is_of_group b g ≡ true
group_of b g (inl h) = let low : g.address ≤ b = h.low in let high : b < g.address + g.length = h.high in let t : is_between g.address (g.address + g.length) b ≡ true = grind (arith, nat_tests, low, high) in ap (λ u. u || is_between g.data0 (g.data0 + g.data_blocks) b) t
group_of b g (inr d) =
    let low : g.data0 ≤ b = d.low in
    let high : b < g.data0 + g.data_blocks = d.high in
    let t : is_between g.data0 (g.data0 + g.data_blocks) b ≡ true = grind (arith, nat_tests, low, high) in
    ap (λ u. is_between g.address (g.address + g.length) b || u) t ∙ or_true (is_between g.address (g.address + g.length) b)
  where
    or_true : (u : Bool) → (u || true) ≡ true
    or_true true = refl
    or_true false = refl

-- a block that isn't of the device is barred
low_or : (count : ℕ) (marks : List Mark) → length marks ≡ count → (b : ℕ) → (b < count) ⊎ (mark_of marks b ≡ Barred)
low_or count marks long b = by (nat_lt b count) refl
  where
    by : (t : Bool) → nat_lt b count ≡ t → (b < count) ⊎ (mark_of marks b ≡ Barred)
    by true e = inl (grind (arith, nat_tests, e))
    by false e = let high : count ≤ b = grind (arith, nat_tests, e) in inr (get_or-eq_default marks Barred (subst (λ k. k ≤ b) (sym long) high))

-- none is live at first
never_live : (count : ℕ) (groups : List Rindex) (journals : List JournalPlaces) (system : List ℕ) (marks : List Mark) → length marks ≡ count → ((b : ℕ) → b < count → mark_of marks b ≡ first_mark groups journals system b)
    → (b : ℕ) → mark_of marks b ≡ Live → ⊥
never_live count groups journals system marks long are b mark = elim (low_or count marks long b) [
  | inr barred ↦ barred_live (sym barred ∙ mark)
  | inl low ↦ by (is_among system b) (is_place journals b) (is_in_groups groups b) (sym (are b low) ∙ mark)
]
  where
    by : (t u v : Bool) → (if t then Barred else if u then Barred else if v then Open else Barred) ≡ Live → ⊥
    by true u v is = barred_live is
    by false true v is = barred_live is
    by false false true is = open_live is
    by false false false is = barred_live is

pub fresh_of : (count : ℕ) (groups : List Rindex) (journals : List JournalPlaces) (system : List ℕ) (result : Result (List Mark) Unfound) → IfOk result (λ marks. length marks ≡ count)
    → IfMemory result (λ marks. (b : ℕ) → b < count → mark_of marks b ≡ first_mark groups journals system b) → IfOk result (λ marks. (b : ℕ) → mark_of marks b ≡ Live → ⊥)
fresh_of count groups journals system (Ok marks) long are = never_live count groups journals system marks long are
fresh_of count groups journals system (Err fault) long are = tt

module _ (r : Image) (o : Owners) (l : Layout) (laid : IsLaid r o l) (im : Image) (same : HasSameFrame r im) (groups : List Rindex) (groups_are : groups ≡ l.groups) (system : List ℕ) (system_is : (b : ℕ) → Contains system b ↔ IsSystemBlock r b)
    (journals : List JournalPlaces) (found : AreJournals im l journals) where
  files : HasSameFiles r l im
  files = same_frames r o l laid im same

  in_group : (b : ℕ) → is_in_groups groups b ≡ true → (g : Rindex) × HasGroup im g × (IsHeaderOf g b ⊎ IsDataOf g b)
  in_group b is =
      let one = any_is (is_of_group b) groups is in
      (one.one, (files.groups one.one).1 (one.index, subst (λ gs. slice_get gs one.index ≡ Some one.one) groups_are one.there), of_group b one.one one.passes)

  of_groups : (b : ℕ) (g : Rindex) → HasGroup im g → IsHeaderOf g b ⊎ IsDataOf g b → is_in_groups groups b ≡ true
  of_groups b g has in_it =
      let at = (files.groups g).0 has in
      any_at (is_of_group b) groups at.0 g (subst (λ gs. slice_get gs at.0 ≡ Some g) (sym groups_are) at.1) (group_of b g in_it)

  row_is : (j : ℕ) (x : JournalPlaces) → slice_get journals j ≡ Some x → x.blocks.items ≡ map (content_block (every im x.dinode)) (range_with_len 0 (ring_of (every im x.dinode)).places)
  row_is j x there = found.blocks j x there

  at_place : (b : ℕ) → is_place journals b ≡ true → (j d p : ℕ) × IsJournalAt l j d × (p < (ring_of (every im d)).places) × (content_block (every im d) p ≡ b)
  at_place b e =
      let one = any_is (λ (x : JournalPlaces). is_among x.blocks.items b) journals e in
      let d = one.one.dinode in
      let n = (ring_of (every im d)).places in
      let row = map (content_block (every im d)) (range_with_len 0 n) in
      let at = contained_at row b (subst (λ bs. Contains bs b) (row_is one.index one.one one.there) (of_among one.one.blocks.items b one.passes)) in
      let inside : at.0 < n = subst (λ k. at.0 < k) (length-map-range_with_len (content_block (every im d)) 0 n) at.1 in
      let z : 0 + at.0 ≡ at.0 = omega arith in
      let value : content_block (every im d) at.0 ≡ b = sym (get_or-map-range_with_len (content_block (every im d)) 0 n at.0 at.0 b inside z) ∙ get_or_from_slice_get row at.0 b b at.2 in
      (one.index, d, at.0, found.each one.index one.one one.there, inside, value)

  place_of : (j d p b : ℕ) → IsJournalAt l j d → p < (ring_of (every im d)).places → content_block (every im d) p ≡ b → is_place journals b ≡ true
  place_of j d p b at low is =
      let inside : j < length l.journals = slice_get_within l.journals j d at in
      let x = some_at journals j (subst (λ k. j < k) (sym found.count) inside) in
      let its : x.0.dinode ≡ d = same_dinode (sym (found.each j x.0 x.1) ∙ at) in
      let n = (ring_of (every im x.0.dinode)).places in
      let low_its : p < n = subst (λ a. p < (ring_of (every im a)).places) (sym its) low in
      let row = map (content_block (every im x.0.dinode)) (range_with_len 0 n) in
      let z : 0 + p ≡ p = omega arith in
      let value : get_or row p 0 ≡ b = get_or-map-range_with_len (content_block (every im x.0.dinode)) 0 n p p 0 low_its z ∙ ap (λ a. content_block (every im a) p) its ∙ is in
      let long : p < length row = subst (λ k. p < k) (sym (length-map-range_with_len (content_block (every im x.0.dinode)) 0 n)) low_its in
      let has : Contains row b = contained_by row p b (slice_get-get_or row p 0 long ∙ ap Some value) in
      any_at (λ (y : JournalPlaces). is_among y.blocks.items b) journals j x.0 x.1 (among_of x.0.blocks.items b (subst (λ bs. Contains bs b) (sym (row_is j x.0 x.1)) has))
    where
      same_dinode : {x y : ℕ} → Some x ≡ Some y → x ≡ y
      same_dinode e = cc

  module _ (marks : List Mark) (long : length marks ≡ im.count) (are : (b : ℕ) → b < im.count → mark_of marks b ≡ first_mark groups journals system b) where
    may : (b : ℕ) → mark_of marks b ≡ Open → MayChange im l b
    may b mark = elim (low_or im.count marks long b) [
      | inr barred ↦ absurd (barred_open (sym barred ∙ mark))
      | inl low ↦ by (is_among system b) (is_place journals b) (is_in_groups groups b) refl refl refl low (sym (are b low) ∙ mark)
    ]
      where
        by : (t u v : Bool) → is_among system b ≡ t → is_place journals b ≡ u → is_in_groups groups b ≡ v → b < im.count → (if t then Barred else if u then Barred else if v then Open else Barred) ≡ Open → MayChange im l b
        by true u v e f g low is = absurd (barred_open is)
        by false true v e f g low is = absurd (barred_open is)
        by false false true e f g low is = record {
          there = low;
          group = in_group b g;
          no_place = λ j d p at inside same_block. false_true (sym f ∙ place_of j d p b at inside same_block);
          apart = λ of. false_true (sym e ∙ among_of system b ((system_is b).1 ((files.system b).0 of)));
        }
        by false false false e f g low is = absurd (barred_open is)

    may_not : (b : ℕ) → mark_of marks b ≡ Barred → ¬ (MayChange im l b)
    may_not b mark may_b = by (is_among system b) (is_place journals b) (is_in_groups groups b) refl refl refl (sym (are b may_b.there) ∙ mark)
      where
        by : (t u v : Bool) → is_among system b ≡ t → is_place journals b ≡ u → is_in_groups groups b ≡ v → (if t then Barred else if u then Barred else if v then Open else Barred) ≡ Barred → ⊥
        by true u v e f g is = may_b.apart ((files.system b).1 ((system_is b).0 (of_among system b e)))
        by false true v e f g is = let at = at_place b f in may_b.no_place at.0 at.1 at.2 at.3 at.4 at.5
        by false false true e f g is = open_barred is
        by false false false e f g is = false_true (sym g ∙ of_groups b may_b.group.0 may_b.group.1 may_b.group.2)

    pub are_marked : AreMarked im l marks
    are_marked = record { may = may; may_not = may_not; fresh = never_live im.count groups journals system marks long are }

-- what was made has its length, too
pub with_length : {A : Type 0} (result : Result A Unfound) (P Q : A → Type 0) → IfOk result P → IfMemory result Q → IfMemory result (λ a. P a × Q a)
with_length (Ok a) P Q p q = (p, q)
with_length (Err Broken) P Q p q = q
with_length (Err NoMemory) P Q p q = tt
