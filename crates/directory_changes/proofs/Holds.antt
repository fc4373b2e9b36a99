-- What an inode has after a draft, from the table of owners then.
use Rattle.std.proofs.Common.{◌≡◌, ℕ, inl, inr, true, false, true≢false, Option, None, Some, refl, sym, ap, ◌∙◌, subst}
use Rattle.std.specs.Prelude.{IsSome, is_some}
use Rattle.std.specs.Ordering.{nat_cmp}
use Rattle.std.specs.FinMap.{FinMap, get}
use Rattle.std.proofs.lemmas.Bool.{cases_Bool, cases_eq, cond-true, eq-eqb}
use Rattle.drafts.specs.declared.fate.Fate.{Fate}
use Rattle.gfs2_layout.specs.Holding.{Part, Itself, Pointed, InChain, Cell, Holding, cell_part, part_at}
use Rattle.image_model.specs.Groups.{state_of}
use Rattle.image_model.specs.Image.{Image}
use Rattle.image_model.specs.Owners.{Owners, Below, Chained, is_dinode, part_in, cell_of, cell_in, holding}
use Rattle.image_model.proofs.Held.{own_part}
use Rattle.image_changes.specs.Changes.{inode_of}
use Rattle.image_changes.specs.Drafted.{with_draft}
use Rattle.image_changes.proofs.Frame.{dinode_its, not_its}
use Rattle.draft_changes.specs.Resizing.{HoldsThere}
use Rattle.draft_changes.proofs.Rows.{its_cell, part_there}
use Rattle.draft_changes.proofs.Framed.{none_drafted, bytes_left}
use Rattle.directory_changes.proofs.Blocks.{cell_is, owner_in, part_some, within_state}

-- an inode of which each block keeps its part has in an image what it has there by the older table
pub held_by_parts : (im : Image) (o o' : Owners) (x : ℕ) → ((b : ℕ) → part_in x b (o' b) ≡ part_in x b (o b)) → holding im o' x ≡ holding im o x
unfolding cell_in
held_by_parts im o o' x same = λ i. record { size = im.size; count = im.count; own = x; cell = λ b. cell_of (same b i) (im.at b) }

-- an inode whose blocks a draft leaves has what it had
pub left_as_it_was : (im : Image) (o : Owners) (fates : FinMap nat_cmp Fate) (x : ℕ) → ((b : ℕ) → IsSome ((holding im o x).cell b) → get fates b ≡ None)
    → holding (with_draft im fates) o x ≡ holding im o x
unfolding cell_in
left_as_it_was im o fates x left = λ i. record { size = im.size; count = im.count; own = x; cell = λ b. cell b i }
  where
    cell : (b : ℕ) → cell_in (with_draft im fates) o x b ≡ cell_in im o x b
    cell b = elim (cases_Bool (is_some (cell_in im o x b))) [
      | inl some ↦ ap (cell_of (part_in x b (o b))) (bytes_left im fates b (none_drafted fates b (left b some)))
      | inr none ↦ ap (λ q. cell_of q ((with_draft im fates).at b)) (out none) ∙ sym (ap (λ q. cell_of q (im.at b)) (out none))
    ]
      where
        out : is_some (cell_in im o x b) ≡ false → part_in x b (o b) ≡ None
        out none = not_its x b (o b) (λ e. true≢false (sym (its_cell im o x b e) ∙ none))

-- ---- an inode of which a draft makes another holding: each block of that has the owner that its part says, and no other block is the inode's

module _ (im : Image) (o o' : Owners) (p : ℕ) (g : Holding) (dinode : is_dinode (o p) ≡ true) (there : HoldsThere im p g)
    (inside : (b : ℕ) → IsSome (g.cell b) → o' b ≡ owner_in (part_at g b) p (o b))
    (outside : (b : ℕ) → g.cell b ≡ None → inode_of b (o' b) ≡ Some p → ⊥) where
  own_part_is : part_at g p ≡ Some Itself
  own_part_is = (there.itself p).1 refl

  pub own_there : IsSome (g.cell p)
  own_there = part_some (g.cell p) Itself own_part_is

  pub own_row : o' p ≡ o p
  own_row = inside p own_there ∙ ap (λ q. owner_in q p (o p)) own_part_is

  -- the part that a block of it has
  record HasPart (b : ℕ) (q : Option Part) : Type 0 where
    its : inode_of b (o' b) ≡ Some p
    part : part_in p b (o' b) ≡ q

  has_part : (b : ℕ) → (q : Part) → part_at g b ≡ Some q → HasPart b (Some q)
  has_part b Itself e = subst (λ c. HasPart c (Some Itself)) (sym ((there.itself b).0 e)) (record {
    its = dinode_its p (o' p) (ap is_dinode own_row ∙ dinode);
    part = ap (part_in p p) own_row ∙ sym (part_there im o p p) ∙ own_part im o p dinode;
  })
  has_part b (Pointed from k level first) e = record {
    its = ap (inode_of b) row;
    part = ap (part_in p b) row ∙ cond-true _ (Some (Pointed from k level first)) None (eq-eqb p p refl);
  }
    where
      row : o' b ≡ Below p from k level first
      row = inside b (part_some (g.cell b) _ e) ∙ ap (λ q. owner_in q p (o b)) e
  has_part b (InChain hash place) e = record {
    its = ap (inode_of b) row;
    part = ap (part_in p b) row ∙ cond-true _ (Some (InChain hash place)) None (eq-eqb p p refl);
  }
    where
      row : o' b ≡ Chained p hash place
      row = inside b (part_some (g.cell b) _ e) ∙ ap (λ q. owner_in q p (o b)) e

  -- each block of it is the inode's
  pub its_now : (b : ℕ) → IsSome (g.cell b) → inode_of b (o' b) ≡ Some p
  its_now b some = by (g.cell b) refl some
    where
      by : (c : Option Cell) → g.cell b ≡ c → IsSome c → inode_of b (o' b) ≡ Some p
      by None e h = absurd (true≢false (sym h))
      by (Some c) e h = (has_part b c.part (ap cell_part e)).its

  -- and has the state that it had, where it was the inode's
  pub state_now : (b : ℕ) → IsSome (g.cell b) → inode_of b (o b) ≡ Some p → state_of (o' b) ≡ state_of (o b)
  state_now b some was = elim (cases_eq b p) [
    | inl e ↦ subst (λ c. state_of (o' c) ≡ state_of (o c)) (sym e) (ap state_of own_row)
    | inr other ↦ within_state b p (o' b) other (its_now b some) ∙ sym (within_state b p (o b) other was)
  ]

  part_held : (b : ℕ) → cell_in im o' p b ≡ g.cell b
  unfolding cell_in
  part_held b = by (g.cell b) refl
    where
      by : (c : Option Cell) → g.cell b ≡ c → cell_of (part_in p b (o' b)) (im.at b) ≡ g.cell b
      by None e = ap (λ q. cell_of q (im.at b)) (not_its p b (o' b) (outside b e)) ∙ sym e
      by (Some c) e = ap (λ q. cell_of q (im.at b)) (has_part b c.part (ap cell_part e)).part
          ∙ cell_is (g.cell b) c.part (im.at b) (ap cell_part e) (there.bytes b (part_some (g.cell b) c.part (ap cell_part e)))

  pub held_now : holding im o' p ≡ g
  held_now = λ i. record { size = sym there.size i; count = sym there.count i; own = sym there.own i; cell = λ b. part_held b i }
