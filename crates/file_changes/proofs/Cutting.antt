-- A draft in which a file is cut, over an image that stands for a tree.
use Rattle.std.proofs.Common.{◌≡◌, ◌↔◌, inl, inr, ℕ, ◌+◌, ◌<◌, ◌≤◌, true, true≢false, List, [], take, Option, None, Some, refl, sym, ap, ◌∙◌, subst, arith}
use Rattle.std.proofs.lemmas.Bool.{and_from, and_parts, cases_Bool, cases_lt, le-leb, leb-true, lt-ltb, ltb-true, not-true, not_from_false}
use Rattle.std.specs.Prelude.{Contains, IsSome, not}
use Rattle.std.specs.List.{list_any, range_with_len}
use Rattle.std.specs.Ordering.{nat_cmp}
use Rattle.std.specs.FinMap.{FinMap, empty}
use Rattle.file_tree.specs.Tree.{Tree}
use Rattle.drafts.specs.Fates.{AreWhole, seen_with}
use Rattle.drafts.specs.declared.change.Change.{Change}
use Rattle.drafts.specs.declared.fate.Fate.{Fate}
use Rattle.gfs2_layout.specs.Holding.{Cell, Holding, InChain, Itself, Part, Pointed, cell_part, part_at}
use Rattle.gfs2_layout.specs.Inode.{content_of, span}
use Rattle.gfs2_layout.specs.declared.dinode.Dinode.{Dinode}
use Rattle.glock_names.specs.Views.{Seen, IsView}
use Rattle.growth_laws.specs.Files.{IsPlaced}
use Rattle.growth_laws.specs.Laws.{FilesAreInodes, InodesAreFiles}
use Rattle.file_cuts.specs.Cut.{CanCut, HasCut, IsPastEnd, end_of}
use Rattle.resource_groups.specs.Freeing.{HasSome}
use Rattle.resource_groups.specs.Shown as group
use Rattle.image_model.specs.Flat.{Path}
use Rattle.image_model.specs.Image.{Image}
use Rattle.image_model.specs.Owners.{Owners, holding}
use Rattle.image_model.specs.Stands.{Layout}
use Rattle.image_model.proofs.Held.{none_some}
use Rattle.image_changes.specs.Does.{IsOf, AreInside}
use Rattle.image_changes.specs.Drafted.{IsFinished}
use Rattle.image_changes.specs.Instances.{IsAt}
use Rattle.image_changes.proofs.Inside.{stay_inside}
use Rattle.growth_drafts.proofs.Rooms.{none_in}
use Rattle.draft_changes.specs.Resizing.{FreedGroupsSay, LeavesGroups}
use Rattle.draft_changes.proofs.Views.{groups_are_listed}
use Rattle.group_locks.proofs.Images.{is_shown}
use Rattle.group_locks.proofs.Listed.{any_range, range_any}
use Rattle.file_changes.specs.Drafting.{FreesIn, IsCutDraft}
use Rattle.file_changes.specs.Making.{CanBeCut, IsCutIn, MakesFile, goes_at, goes_with, stays_below}
use Rattle.file_changes.proofs.Resized.{IsResized, IsSaidOver, has_part, header_listed, leaves_groups, lies_inside, makes_file, no_group, some_listed}
use Rattle.file_changes.proofs.Standing.{own_counted, standing_file, standing_short}

-- a block that stands somewhere is one of the file
placed_there : (h : Holding) (b l f : ℕ) → IsPlaced h b l f → IsSome (h.cell b)
placed_there h b l f placed = by (h.cell b) placed.2
  where
    by : (c : Option Cell) → cell_part c ≡ Some (Pointed placed.0 placed.1 l f) → IsSome c
    by None e = absurd (none_some e)
    by (Some c) e = refl

-- ---- which blocks go

module _ (h : Holding) (size : ℕ) where
  stays_so : (level first : ℕ) (p : Option Part) → stays_below h.size (end_of h size) level first p ≡ true
      → (from k l f : ℕ) × (p ≡ Some (Pointed from k l f)) × (l ≤ level) × (first ≤ f) × (f < first + span h.size level) × (f + span h.size l ≤ end_of h size)
  stays_so level first None e = absurd (true≢false (sym e))
  stays_so level first (Some Itself) e = absurd (true≢false (sym e))
  stays_so level first (Some (InChain hash place)) e = absurd (true≢false (sym e))
  stays_so level first (Some (Pointed from k l f)) e =
      let three = and_parts _ _ e in
      let two = and_parts _ _ three.0 in
      let one = and_parts _ _ two.0 in
      (from, k, l, f, refl, leb-true l level one.0, leb-true first f one.1, ltb-true f (first + span h.size level) two.1, leb-true (f + span h.size l) (end_of h size) three.1)

  so_stays : (level first from k l f : ℕ) (p : Option Part) → p ≡ Some (Pointed from k l f) → l ≤ level → first ≤ f → f < first + span h.size level → f + span h.size l ≤ end_of h size
      → stays_below h.size (end_of h size) level first p ≡ true
  so_stays level first from k l f p is low begins ends stays =
      subst (λ q. stays_below h.size (end_of h size) level first q ≡ true) (sym is)
      (and_from _ _ (and_from _ _ (and_from _ _ (le-leb l level low) (le-leb first f begins)) (lt-ltb f (first + span h.size level) ends)) (le-leb (f + span h.size l) (end_of h size) stays))

  module _ (inside : (b : ℕ) → IsSome (h.cell b) → b < h.count) where
    past_goes : (level first : ℕ) → IsPastEnd h (end_of h size) level first → not (list_any (λ c. stays_below h.size (end_of h size) level first (part_at h c)) (range_with_len 0 h.count)) ≡ true
    past_goes level first past = elim (cases_Bool (list_any (λ c. stays_below h.size (end_of h size) level first (part_at h c)) (range_with_len 0 h.count))) [
      | inr none ↦ not_from_false _ none
      | inl some ↦
          let c = any_range (λ c. stays_below h.size (end_of h size) level first (part_at h c)) 0 h.count some in
          let s = stays_so level first (part_at h c.0) c.3 in
          absurd (omega (arith, past c.0 s.2 s.3 (s.0, s.1, s.4) s.5 s.6 s.7, s.8))
    ]

    goes_past : (level first : ℕ) → not (list_any (λ c. stays_below h.size (end_of h size) level first (part_at h c)) (range_with_len 0 h.count)) ≡ true → IsPastEnd h (end_of h size) level first
    goes_past level first none b l f placed low begins ends = elim (cases_lt (end_of h size) (f + span h.size l)) [
      | inl past ↦ past
      | inr stays ↦
          absurd (true≢false (sym (range_any (λ c. stays_below h.size (end_of h size) level first (part_at h c)) 0 h.count b (omega arith) (omega (arith, inside b (placed_there h b l f placed)))
          (so_stays level first placed.0 placed.1 l f (part_at h b) placed.2 low begins ends stays)) ∙ not-true _ none))
    ]

-- exactly those that are freed
module _ (v : Seen) (after : Seen) (new : FinMap nat_cmp Fate) (h : Holding) (size : ℕ) (freed : List ℕ) (can : CanCut h size) (cut : HasCut after empty new h size freed) where
  own_stays : ¬ (Contains freed h.own)
  own_stays = ((cut.is_cut.blocks.kept h.own).0 (subst (λ b. IsSome (cut.g.cell b)) cut.shown.own cut.shown.dinode)).1

  pub exactly : (b : ℕ) → Contains freed b ↔ (goes_at h size b ≡ true)
  exactly b = by (part_at h b) refl
    where
      no_part : part_at h b ≡ None → ¬ (Contains freed b)
      no_part e c = let p = has_part (h.cell b) (cut.is_cut.blocks.were b c) in absurd (none_some (sym e ∙ p.1))

      by : (p : Option Part) → part_at h b ≡ p → Contains freed b ↔ (goes_with h size p ≡ true)
      by None e = ((λ c. absurd (no_part e c)), (λ never. absurd (true≢false (sym never))))
      by (Some Itself) e = ((λ c. absurd (own_stays (subst (Contains freed) (can.counted.file.only b e) c))), (λ never. absurd (true≢false (sym never))))
      by (Some (InChain hash place)) e = ((λ c. absurd (can.counted.file.leafless b hash place e)), (λ never. absurd (true≢false (sym never))))
      by (Some (Pointed from k level first)) e =
          let these = cut.is_cut.exactly b from k level first e in
          ((λ c. past_goes h size can.inside level first (these.0 c)), (λ goes. these.1 (goes_past h size can.inside level first goes)))

-- ---- in an image that stands

module _ (v : Seen) (im : Image) (o : Owners) (l : Layout) (t : Tree) (path : Path) (of : IsOf v im o l t) (a : ℕ) (at : IsAt im o l path a) (files : InodesAreFiles) (size : ℕ) (can : CanBeCut im o a size) where
  pub can_cut : CanCut (holding im o a) size
  can_cut = record {
    counted = standing_file v im o l t of path a at can.file files;
    larger = can.larger;
    inside = own_counted v im o l t of a;
  }

  module _ (time : ℕ) (freed : List ℕ) (fates : FinMap nat_cmp Fate) (cut : IsCutDraft v a size time freed fates) where
    has_cut : HasCut (seen_with v cut.first) empty cut.first (holding im o a) size freed
    has_cut = cut.is_cut (holding im o a) (is_shown v im o l t of path a at) can_cut

    pub is_cut_in : IsCutIn im o a size freed
    is_cut_in = record { exactly = exactly v (seen_with v cut.first) cut.first (holding im o a) size freed can_cut has_cut }

    pub freed_were : (b : ℕ) → Contains freed b → IsSome ((holding im o a).cell b)
    freed_were = has_cut.is_cut.blocks.were

    resized : IsResized v im o l a has_cut.g [] freed time cut.first fates
    resized = record {
      is_file = can.file;
      shown = has_cut.shown;
      sound = has_cut.is_cut.sound;
      count = has_cut.is_cut.blocks.count;
      itself = λ b part. has_cut.is_cut.sound.file.only b part ∙ has_cut.shown.own;
      head = has_cut.is_cut.head;
      short = omega (arith, ap (λ (d : Dinode). d.size) has_cut.is_cut.dinode, can.larger, standing_short v im o l t of path a at can.file);
      drafted = has_cut.drafted;
      blocks = record {
        were = has_cut.is_cut.blocks.were;
        has = λ b. (
          (λ some. let kept = (has_cut.is_cut.blocks.kept b).0 some in (inl kept.0, kept.1)),
          (λ has. (has_cut.is_cut.blocks.kept b).1 (elim has.0 [ inl old ↦ old | inr new ↦ absurd (none_in b new) ], has.1)),
        );
      };
      free = λ b new. absurd (none_in b new);
      timed = cut.timed;
    }

    module _ (inodes : FilesAreInodes) where
      pub leaves : LeavesGroups l fates
      leaves = leaves_groups v im o l t of inodes a has_cut.g [] freed time cut.first fates resized

      said : (view : IsView v) (says : FreedGroupsSay) (last : FinMap nat_cmp Fate) → AreWhole v.size last → FreesIn v fates last freed → IsSaidOver im o l [] freed fates last
      said view says last whole frees = record {
        whole = subst (λ n. AreWhole n last) (sym of.size) whole;
        frees = frees.frees.freed;
        states = λ k listed any. elim any [
          | inl none ↦ absurd (no_group k none)
          | inr some ↦ says v fates last im o l t freed of view leaves frees.frees k listed some
        ];
        rest = λ b kept away. frees.rest.others b kept (λ k has some head.
            let f = (groups_are_listed v im o l t k of).0 has in
            away f.0 f.1 (inr (some_listed f.0 freed (subst (λ x. HasSome x freed) f.2 some))) (header_listed f.0 b (subst (λ x. group.IsHeaderOf x b) f.2 head)));
      }

      pub cut_makes : (view : IsView v) (says : FreedGroupsSay) (last : FinMap nat_cmp Fate) → AreWhole v.size last → FreesIn v fates last freed
          → MakesFile im o l last a (take size (content_of (holding im o a))) time [] freed
      cut_makes view says last whole frees =
          subst (λ content. MakesFile im o l last a content time [] freed) has_cut.is_cut.content
          (makes_file v im o l t of inodes a has_cut.g [] freed time cut.first fates resized last (said view says last whole frees))

      -- all that is put then lies in a group
      pub cut_inside : (view : IsView v) (says : FreedGroupsSay) (last : FinMap nat_cmp Fate) (change : Change) → AreWhole v.size last → FreesIn v fates last freed → IsFinished last change → AreInside v change
      cut_inside view says last change whole frees finished =
          stay_inside v last change finished whole (lies_inside v im o l t of inodes a has_cut.g [] freed time cut.first fates resized last (said view says last whole frees) view)
