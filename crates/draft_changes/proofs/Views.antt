-- What a view, or a draft over it, shows of an image.
use Rattle.std.proofs.Common.{◌≡◌, ℕ, suc, ◌<◌, ◌⊎◌, inl, inr, true≢false, List, [], ◌∷◌, length, Option, None, Some, refl, sym, ap, ◌∙◌, subst, arith}
use Rattle.std.specs.Prelude.{IsSome, map, unwrap_or, option_map}
use Rattle.std.specs.FinMap.{get}
use Rattle.drafts.specs.Fates.{block_with, seen_with}
use Rattle.drafts.specs.declared.fate.Fate.{Fate}
use Rattle.drafts.specs.declared.fate.Fate.TheVariants.{Put, Freed}
use Rattle.gfs2_layout.specs.Holding.{Part, Itself, Pointed, InChain, Cell, cell_part, part_at}
use Rattle.gfs2_layout.specs.declared.rindex.Rindex.{Rindex}
use Rattle.glock_names.specs.Views.{HasGroup, group_of_entry}
use Rattle.glock_names.specs.declared.views.Group.{Group}
use Rattle.linear_dirs.specs.Shown.{bytes_over}
use Rattle.resource_groups.specs.Putting.{seen_or}
use Rattle.image_model.specs.Groups.{IsListed, GroupFits}
use Rattle.image_model.specs.Owners.{part_in, cell_of, cell_in, holding}
use Rattle.image_model.proofs.Counts.{at_in}
use Rattle.image_model.proofs.Held.{none_some, own_part, itself_own}
use Rattle.image_model.proofs.Members.{IsIn, contained, is_in}
use Rattle.image_changes.specs.Drafted.{with_draft}
use Rattle.image_changes.proofs.Finishing.{drafts_show}
use Rattle.draft_changes.specs.Shown.{ShowsInodes, ShowsBlocks, LaterShows, InodesStay, ShowsGroups, GroupsAreListed, HaveTheseBlocks, NoneHasTheFirst}
use Rattle.draft_changes.proofs.Rows.{part_there}

over_cell : (seen : Option (List ℕ)) (part : Option Part) (bytes : List ℕ) → option_map (bytes_over seen) (cell_of part bytes) ≡ cell_of part (unwrap_or seen bytes)
over_cell None None bytes = refl
over_cell None (Some p) bytes = refl
over_cell (Some b) None bytes = refl
over_cell (Some b) (Some p) bytes = refl

seen_bytes : (seen : Option (List ℕ)) (bytes : List ℕ) → seen_or seen bytes ≡ unwrap_or seen bytes
seen_bytes None bytes = refl
seen_bytes (Some b) bytes = refl

pub shows_inodes : ShowsInodes
unfolding cell_in
shows_inodes v fates im o a agrees = λ i. record { size = im.size; count = im.count; own = a; cell = λ b. each b i }
  where
    each : (b : ℕ) → option_map (bytes_over ((seen_with v fates).block_at b)) (cell_in im o a b) ≡ cell_in (with_draft im fates) o a b
    each b = over_cell ((seen_with v fates).block_at b) (part_in a b (o b)) (im.at b) ∙ ap (cell_of (part_in a b (o b))) (sym (drafts_show v fates im agrees b))

pub shows_blocks : ShowsBlocks
shows_blocks v fates im agrees = λ i b. (seen_bytes ((seen_with v fates).block_at b) (im.at b) ∙ sym (drafts_show v fates im agrees b)) i

pub later_shows : LaterShows
later_shows v fates later im agrees sees = λ i b. each b i
  where
    unseen : (b : ℕ) (first last : Option (List ℕ)) → (seen_with v fates).block_at b ≡ first → (seen_with v later).block_at b ≡ last → seen_or last (unwrap_or first (im.at b)) ≡ unwrap_or last (im.at b)
    unseen b first (Some bytes) e f = refl
    unseen b None None e f = refl
    unseen b (Some bytes) None e f = let s = sees b (bytes, e) in absurd (none_some (sym f ∙ s.1))

    each : (b : ℕ) → seen_or ((seen_with v later).block_at b) ((with_draft im fates).at b) ≡ (with_draft im later).at b
    each b = ap (seen_or ((seen_with v later).block_at b)) (drafts_show v fates im agrees b)
        ∙ unseen b ((seen_with v fates).block_at b) ((seen_with v later).block_at b) refl refl
        ∙ sym (drafts_show v later im agrees b)

pub inodes_stay : InodesStay
unfolding cell_in
inodes_stay fates later im o a same = λ i. record { size = im.size; count = im.count; own = a; cell = λ b. each b i }
  where
    by : (b : ℕ) (p : Option Part) → (IsSome (cell_of p (im.at b)) → get later b ≡ get fates b) → cell_of p ((with_draft im later).at b) ≡ cell_of p ((with_draft im fates).at b)
    by b None e = refl
    by b (Some part) e = ap (λ f. cell_of (Some part) (unwrap_or (block_with f None) (im.at b))) (e refl)

    each : (b : ℕ) → cell_in (with_draft im later) o a b ≡ cell_in (with_draft im fates) o a b
    each b = by b (part_in a b (o b)) (same b)

pub shows_groups : ShowsGroups
shows_groups v fates im o l t g is whole listed = record {
  whole = λ b h. wholes b (omega (arith, h.high, fits.first, fits.inside)) (get fates b) refl;
  same = λ b bytes h e. drafts_show v fates im is.agrees b ∙ ap (λ s. unwrap_or s (im.at b)) e;
}
  where
    fits : GroupFits im g
    fits = is.stands.laid.fit.each g listed

    wholes : (b : ℕ) → b < im.count → (f : Option Fate) → get fates b ≡ f → length (unwrap_or (block_with f None) (im.at b)) ≡ v.size
    wholes b low None e = is.stands.laid.image.whole b low ∙ is.size
    wholes b low (Some Freed) e = is.stands.laid.image.whole b low ∙ is.size
    wholes b low (Some (Put lock plain bytes)) e = whole b lock plain bytes e

-- ---- groups

pub in_map : (g : Rindex) (gs : List Rindex) → IsIn g gs → IsIn (group_of_entry g) (map group_of_entry gs)
in_map g [] h = elim h [ ]
in_map g (k ∷ gs) (inl e) = inl (ap group_of_entry e)
in_map g (k ∷ gs) (inr h) = inr (in_map g gs h)

pub from_map : (k : Group) (gs : List Rindex) → IsIn k (map group_of_entry gs) → (g : Rindex) × IsIn g gs × (k ≡ group_of_entry g)
from_map k [] h = elim h [ ]
from_map k (g ∷ gs) (inl e) = (g, inl refl, e)
from_map k (g ∷ gs) (inr h) = let f = from_map k gs h in (f.0, inr f.1, f.2)

pub is_listed : (g : Rindex) (gs : List Rindex) → IsIn g gs → IsListed gs g
is_listed g [] h = elim h [ ]
is_listed g (k ∷ gs) (inl e) = (0, ap Some (sym e))
is_listed g (k ∷ gs) (inr h) = let r = is_listed g gs h in (suc r.0, r.1)

pub groups_are_listed : GroupsAreListed
groups_are_listed v im o l t k is = (
  (λ has. let f = from_map k l.groups (subst (IsIn k) (sym is.groups) (is_in k v.groups has)) in (f.0, is_listed f.0 l.groups f.1, f.2)),
  (λ f. subst (HasGroup v) (sym f.2) (contained (group_of_entry f.0) v.groups (subst (IsIn (group_of_entry f.0)) is.groups (in_map f.0 l.groups (at_in f.0 l.groups f.1.0 f.1.1))))),
)

-- ---- the blocks of an inode

cell_has_part : (c : Option Cell) → IsSome c → (part : Part) × (cell_part c ≡ Some part)
cell_has_part None h = absurd (true≢false (sym h))
cell_has_part (Some c) h = (c.part, refl)

part_has_cell : (c : Option Cell) (part : Part) → cell_part c ≡ Some part → IsSome c
part_has_cell None part e = absurd (none_some e)
part_has_cell (Some c) part e = refl

pub have_these_blocks : HaveTheseBlocks
have_these_blocks im o l a b laid so plain = (
  (λ h. let p = cell_has_part ((holding im o a).cell b) h in of_part p.0 p.1),
  (λ h. elim h [
    | inl e ↦ part_has_cell ((holding im o a).cell b) Itself (subst (λ c. part_at (holding im o a) c ≡ Some Itself) (sym e) (own_part im o a so))
    | inr p ↦ part_has_cell ((holding im o a).cell b) (Pointed p.0 p.1 p.2 p.3) p.4
  ]),
)
  where
    of_part : (part : Part) → part_at (holding im o a) b ≡ Some part → (b ≡ a) ⊎ ((from k level first : ℕ) × (part_at (holding im o a) b ≡ Some (Pointed from k level first)))
    of_part Itself e = inl (itself_own im o a b e)
    of_part (Pointed from k level first) e = inr (from, k, level, first, e)
    of_part (InChain hash place) e = absurd ((laid.inodes a so).leafless plain b hash place e)

pub none_has_the_first : NoneHasTheFirst
none_has_the_first im o l a laid = part_there im o a 0 ∙ ap (part_in a 0) (laid.zoned.low 0 (omega arith))
