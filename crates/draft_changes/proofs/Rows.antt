-- Owners of blocks: which are of an inode, which are free, and where they lie.
use Rattle.std.proofs.Common.{◌≡◌, ℕ, ◌+◌, ◌-◌, ◌<◌, ◌⊎◌, inl, inr, Bool, true, false, true≢false, get_or, List, [], ◌∷◌, Option, None, Some, refl, sym, ap, ◌∙◌, subst, arith}
use Rattle.std.specs.Prelude.{slice_get, IsSome}
use Rattle.std.proofs.lemmas.Bool.{cases_eq, cases_lt, cond-true, eq-eqb}
use Rattle.std.proofs.lemmas.List.FromFn.{get_or-map-range_with_len}
use Rattle.gfs2_layout.specs.Bitmap.{state_at}
use Rattle.gfs2_layout.specs.Groups.{bitmap_of}
use Rattle.gfs2_layout.specs.Device.{superblock_place}
use Rattle.gfs2_layout.specs.declared.rindex.Rindex.{Rindex}
use Rattle.gfs2_layout.specs.Holding.{Part, Itself, Pointed, InChain, cell_part, part_at}
use Rattle.image_model.specs.Groups.{IsListed, IsHeaderOf, IsDataOf, GroupsFit, group_blocks, state_of}
use Rattle.image_model.specs.Image.{Image}
use Rattle.image_model.specs.Owners.{Owner, Owners, Super, InGroup, Free, Nobody, Root, Master, Named, Below, Chained, is_dinode, IsUsed, IsWithin, part_in, cell_of, cell_in, holding}
use Rattle.image_model.specs.Stands.{Layout, IsLaid}
use Rattle.image_model.proofs.Held.{none_some, some_same}
use Rattle.image_model.proofs.Members.{IsIn}
use Rattle.image_model.proofs.Table.{Lies, lies, in_header, in_data, in_none}
use Rattle.image_changes.specs.Changes.{inode_of, IsOf, is_free}
use Rattle.image_changes.specs.Does.{is_content_of}
use Rattle.image_changes.proofs.Frame.{not_its}

-- ---- one owner

pub of_its : (touched : ℕ → Bool) (b a : ℕ) (x : Owner) → inode_of b x ≡ Some a → touched a ≡ true → IsOf touched b x
of_its touched b a (Free g) e t = tt
of_its touched b a Super e t = (a, e, t)
of_its touched b a (InGroup g) e t = (a, e, t)
of_its touched b a Nobody e t = (a, e, t)
of_its touched b a Root e t = (a, e, t)
of_its touched b a Master e t = (a, e, t)
of_its touched b a (Named parent name) e t = (a, e, t)
of_its touched b a (Below d above k level first) e t = (a, e, t)
of_its touched b a (Chained d hash place) e t = (a, e, t)

-- a block of an inode is in use, and so isn't free
pub its_used : (b a : ℕ) (x : Owner) → inode_of b x ≡ Some a → IsUsed x × (is_free x ≡ false)
its_used b a Root e = (tt, refl)
its_used b a Master e = (tt, refl)
its_used b a (Named parent name) e = (tt, refl)
its_used b a (Below d above k level first) e = (tt, refl)
its_used b a (Chained d hash place) e = (tt, refl)
its_used b a Super e = absurd (none_some e)
its_used b a (InGroup g) e = absurd (none_some e)
its_used b a (Free g) e = absurd (none_some e)
its_used b a Nobody e = absurd (none_some e)

-- a dinode is no content
pub dinode_no_content : (im : Image) (o : Owners) (x : Owner) → is_dinode x ≡ true → is_content_of im o x ≡ false
dinode_no_content im o Root e = refl
dinode_no_content im o Master e = refl
dinode_no_content im o (Named parent name) e = refl
dinode_no_content im o Super e = absurd (true≢false (sym e))
dinode_no_content im o (InGroup g) e = absurd (true≢false (sym e))
dinode_no_content im o Nobody e = absurd (true≢false (sym e))
dinode_no_content im o (Below d above k level first) e = absurd (true≢false (sym e))
dinode_no_content im o (Chained d hash place) e = absurd (true≢false (sym e))
dinode_no_content im o (Free g) e = absurd (true≢false (sym e))

-- a block of an inode is its dinode, or within it
pub itself_or_within : (b a : ℕ) (x : Owner) → inode_of b x ≡ Some a → (b ≡ a) ⊎ IsWithin a x
itself_or_within b a Root e = inl (some_same e)
itself_or_within b a Master e = inl (some_same e)
itself_or_within b a (Named parent name) e = inl (some_same e)
itself_or_within b a (Below d above k level first) e = inr (some_same e)
itself_or_within b a (Chained d hash place) e = inr (some_same e)
itself_or_within b a Super e = absurd (none_some e)
itself_or_within b a (InGroup g) e = absurd (none_some e)
itself_or_within b a (Free g) e = absurd (none_some e)
itself_or_within b a Nobody e = absurd (none_some e)

-- ---- the part of a block in an inode

pub its_part : (a b : ℕ) (x : Owner) → inode_of b x ≡ Some a → (part : Part) × (part_in a b x ≡ Some part)
its_part a b Root e = (Itself, cond-true _ (Some Itself) None (eq-eqb b a (some_same e)))
its_part a b Master e = (Itself, cond-true _ (Some Itself) None (eq-eqb b a (some_same e)))
its_part a b (Named parent name) e = (Itself, cond-true _ (Some Itself) None (eq-eqb b a (some_same e)))
its_part a b (Below d above k level first) e = (Pointed above k level first, cond-true _ (Some (Pointed above k level first)) None (eq-eqb d a (some_same e)))
its_part a b (Chained d hash place) e = (InChain hash place, cond-true _ (Some (InChain hash place)) None (eq-eqb d a (some_same e)))
its_part a b Super e = absurd (none_some e)
its_part a b (InGroup g) e = absurd (none_some e)
its_part a b (Free g) e = absurd (none_some e)
its_part a b Nobody e = absurd (none_some e)

pub part_its : (a b : ℕ) (x : Owner) (part : Part) → part_in a b x ≡ Some part → inode_of b x ≡ Some a
part_its a b x part e = by (inode_of b x) refl
  where
    no : (inode_of b x ≡ Some a → ⊥) → inode_of b x ≡ Some a
    no away = absurd (none_some (sym (not_its a b x away) ∙ e))

    by : (r : Option ℕ) → inode_of b x ≡ r → inode_of b x ≡ Some a
    by None f = no (λ g. none_some (sym f ∙ g))
    by (Some c) f = elim (cases_eq c a) [ inl same ↦ f ∙ ap Some same | inr d ↦ no (λ g. d (some_same (sym f ∙ g))) ]

-- an inode has those blocks whose owner tells it
pub cell_its : (im : Image) (o : Owners) (a b : ℕ) → IsSome (cell_in im o a b) → inode_of b (o b) ≡ Some a
unfolding cell_in
cell_its im o a b h = by (part_in a b (o b)) refl h
  where
    by : (p : Option Part) → part_in a b (o b) ≡ p → IsSome (cell_of p (im.at b)) → inode_of b (o b) ≡ Some a
    by None e h = absurd (true≢false (sym h))
    by (Some part) e h = part_its a b (o b) part e

pub its_cell : (im : Image) (o : Owners) (a b : ℕ) → inode_of b (o b) ≡ Some a → IsSome (cell_in im o a b)
unfolding cell_in
its_cell im o a b e = subst (λ p. IsSome (cell_of p (im.at b))) (sym (its_part a b (o b) e).1) refl

pub part_there : (im : Image) (o : Owners) (a b : ℕ) → part_at (holding im o a) b ≡ part_in a b (o b)
unfolding cell_in
part_there im o a b = by (part_in a b (o b))
  where
    by : (p : Option Part) → cell_part (cell_of p (im.at b)) ≡ p
    by None = refl
    by (Some part) = refl

pub not_group_free : (g x : ℕ) → InGroup g ≡ Free x → ⊥
not_group_free g x e = cc

-- ---- in an image that is laid out right

-- the block is one of the group's header and bitmap, or isn't
pub in_header_or_not : (g : Rindex) (b : ℕ) → IsHeaderOf g b ⊎ ¬ (IsHeaderOf g b)
in_header_or_not g b = elim (cases_lt b g.address) [
  | inl under ↦ inr (λ h. absurd (omega (arith, under, h.low)))
  | inr over ↦ elim (cases_lt b (g.address + g.length)) [
    | inl less ↦ inl (record { low = over; high = less })
    | inr more ↦ inr (λ h. absurd (omega (arith, more, h.high)))
  ]
]

-- and so of the groups of a list
pub header_among : (gs : List Rindex) (b : ℕ) → ((g : Rindex) × IsIn g gs × IsHeaderOf g b) ⊎ ((g : Rindex) → IsIn g gs → IsHeaderOf g b → ⊥)
header_among [] b = inr (λ g at h. elim at [ ])
header_among (k ∷ gs) b = elim (in_header_or_not k b) [
  | inl h ↦ inl (k, inl refl, h)
  | inr away ↦ elim (header_among gs b) [
    | inl there ↦ inl (there.0, inr there.1, there.2)
    | inr none ↦ inr (λ g at h. elim at [ inl e ↦ away (subst (λ r. IsHeaderOf r b) e h) | inr later ↦ none g later h ])
  ]
]

-- groups with one header are one group
pub same_group : (im : Image) (groups : List Rindex) → GroupsFit im groups → (g h : Rindex) → IsListed groups g → IsListed groups h → g.address ≡ h.address → g ≡ h
same_group im groups fit g h at at' e = elim (cases_lt at.0 at'.0) [
  | inl less ↦ absurd (omega (arith, fit.rise at.0 at'.0 g h at.1 at'.1 less, (fit.each g at).first, (fit.each g at).some, e))
  | inr more ↦ elim (cases_lt at'.0 at.0) [
    | inl less ↦ absurd (omega (arith, fit.rise at'.0 at.0 h g at'.1 at.1 less, (fit.each h at').first, (fit.each h at').some, e))
    | inr more' ↦ some_same (sym at.1 ∙ ap (slice_get groups) (omega (arith, more, more')) ∙ at'.1)
  ]
]

module _ (im : Image) (o : Owners) (l : Layout) (laid : IsLaid im o l) where
  -- a free block is a data block of its group
  pub free_lies : (b x : ℕ) → o b ≡ Free x → (g : Rindex) × IsListed l.groups g × IsDataOf g b × (x ≡ g.address)
  free_lies b x e = by (lies l.groups b)
    where
      same : {y z : ℕ} → Free y ≡ Free z → y ≡ z
      same e = cc

      not_used : IsUsed (o b) → ⊥
      not_used h = subst IsUsed e h

      not_super : Super ≡ Free x → ⊥
      not_super e = cc

      not_nobody : Nobody ≡ Free x → ⊥
      not_nobody e = cc

      by : Lies l.groups b → (g : Rindex) × IsListed l.groups g × IsDataOf g b × (x ≡ g.address)
      by (in_header g at is) = absurd (not_group_free g.address x (sym (laid.zoned.headers g at b is) ∙ e))
      by (in_data g at is) = elim (laid.zoned.data_blocks g at b is) [
        | inl free ↦ (g, at, is, same (sym e ∙ free))
        | inr used ↦ absurd (not_used used)
      ]
      by (in_none none) = elim (cases_lt (superblock_place im.size) b) [
        | inl high ↦ absurd (not_nobody (sym (laid.zoned.between b high none) ∙ e))
        | inr low ↦ absurd (not_super (sym (laid.zoned.low b low) ∙ e))
      ]

  -- what the bits of a group say of a data block is its state
  pub state_said : (g : Rindex) → IsListed l.groups g → (b : ℕ) → IsDataOf g b → state_at (bitmap_of (group_blocks im.at g)) (b - g.data0) ≡ state_of (o b)
  state_said g at b is =
      sym (get_or-map-range_with_len (state_at (bitmap_of (group_blocks im.at g))) 0 g.data_blocks (b - g.data0) (b - g.data0) 0 inside (omega arith))
      ∙ ap (λ s. get_or s (b - g.data0) 0) (laid.groups g at).bits
      ∙ get_or-map-range_with_len (λ c. state_of (o c)) g.data0 g.data_blocks (b - g.data0) b 0 inside (omega (arith, is.low))
    where
      inside : b - g.data0 < g.data_blocks
      inside = omega (arith, is.low, is.high)

  used_state : (x : Owner) → IsUsed x → state_of x ≡ 0 → ⊥
  used_state Root h e = absurd (omega (arith, e))
  used_state Master h e = absurd (omega (arith, e))
  used_state (Named parent name) h e = absurd (omega (arith, e))
  used_state (Below d above k level first) h e = absurd (omega (arith, e))
  used_state (Chained d hash place) h e = absurd (omega (arith, e))
  used_state Super h e = elim h [ ]
  used_state (InGroup g) h e = elim h [ ]
  used_state (Free g) h e = elim h [ ]
  used_state Nobody h e = elim h [ ]

  -- a data block whose bits say so is free
  pub said_free : (g : Rindex) → IsListed l.groups g → (b : ℕ) → IsDataOf g b → state_at (bitmap_of (group_blocks im.at g)) (b - g.data0) ≡ 0 → o b ≡ Free g.address
  said_free g at b is e = elim (laid.zoned.data_blocks g at b is) [
    | inl free ↦ free
    | inr used ↦ absurd (used_state (o b) used (sym (state_said g at b is) ∙ e))
  ]
