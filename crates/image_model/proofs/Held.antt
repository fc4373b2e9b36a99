-- What an inode holds, by the table of owners.
use Rattle.std.proofs.Common.{◌≡◌, ℕ, ◌==◌, inl, inr, true, Option, None, Some, refl, sym, ap, ◌∙◌}
use Rattle.std.specs.Prelude.{if◌then◌else◌}
use Rattle.std.proofs.lemmas.Bool.{cases_eq, cond-true, cond-false, eq-eqb, ne_eqb}
use Rattle.image_model.specs.Image.{Image}
use Rattle.image_model.specs.Owners.{Owner, Owners, Super, InGroup, Free, Nobody, Root, Master, Named, Below, Chained, is_dinode, part_in, cell_of, cell_in, holding}
use Rattle.gfs2_layout.specs.Holding.{Part, Itself, Pointed, InChain, cell_bytes, cell_part, bytes_at, part_at}

pub none_some : {X : Type 0} {x : X} → ◌≡◌ {A = Option X} None (Some x) → ⊥
none_some e = cc

pub some_same : {X : Type 0} {x y : X} → Some x ≡ Some y → x ≡ y
some_same e = cc

-- an inode has its own dinode
own_part_in : (a : ℕ) (o : Owner) → is_dinode o ≡ true → part_in a a o ≡ Some Itself
own_part_in a Super e = cc
own_part_in a (InGroup g) e = cc
own_part_in a (Free g) e = cc
own_part_in a Nobody e = cc
own_part_in a Root e = cond-true _ (Some Itself) None (eq-eqb a a refl)
own_part_in a Master e = cond-true _ (Some Itself) None (eq-eqb a a refl)
own_part_in a (Named parent name) e = cond-true _ (Some Itself) None (eq-eqb a a refl)
own_part_in a (Below d b k level first) e = cc
own_part_in a (Chained d hash place) e = cc

-- a part that is no dinode tells its owner, and an owner its part
other_part : {X : Type 0} (x a : ℕ) (p q : X) → (if x == a then Some p else None) ≡ Some q → (x ≡ a) × (p ≡ q)
other_part x a p q e = elim (cases_eq x a) [
  | inl same ↦ (same, some_same (sym (cond-true _ (Some p) None (eq-eqb x a same)) ∙ e))
  | inr d ↦ absurd (none_some (sym (cond-false _ (Some p) None (ne_eqb x a d)) ∙ e))
]

pub not_pointed : (b k level first : ℕ) → Itself ≡ Pointed b k level first → ⊥
not_pointed b k level first e = cc

pub not_in_chain : (hash place : ℕ) → Itself ≡ InChain hash place → ⊥
not_in_chain hash place e = cc

pointed_in : (a c b k level first : ℕ) (o : Owner) → part_in a c o ≡ Some (Pointed b k level first) → o ≡ Below a b k level first
pointed_in a c b k level first Super e = cc
pointed_in a c b k level first (InGroup g) e = cc
pointed_in a c b k level first (Free g) e = cc
pointed_in a c b k level first Nobody e = cc
pointed_in a c b k level first Root e = absurd (not_pointed b k level first (other_part c a Itself (Pointed b k level first) e).1)
pointed_in a c b k level first Master e = absurd (not_pointed b k level first (other_part c a Itself (Pointed b k level first) e).1)
pointed_in a c b k level first (Named parent name) e = absurd (not_pointed b k level first (other_part c a Itself (Pointed b k level first) e).1)
pointed_in a c b k level first (Below d x j n s) e =
    let h = other_part d a (Pointed x j n s) (Pointed b k level first) e in
    (λ i. Below (h.0 i) x j n s) ∙ same h.1
  where
    same : Pointed x j n s ≡ Pointed b k level first → Below a x j n s ≡ Below a b k level first
    same e = cc
pointed_in a c b k level first (Chained d hash place) e = absurd (no (other_part d a (InChain hash place) (Pointed b k level first) e).1)
  where
    no : InChain hash place ≡ Pointed b k level first → ⊥
    no e = cc

chained_in : (a c hash place : ℕ) (o : Owner) → part_in a c o ≡ Some (InChain hash place) → o ≡ Chained a hash place
chained_in a c hash place Super e = cc
chained_in a c hash place (InGroup g) e = cc
chained_in a c hash place (Free g) e = cc
chained_in a c hash place Nobody e = cc
chained_in a c hash place Root e = absurd (not_in_chain hash place (other_part c a Itself (InChain hash place) e).1)
chained_in a c hash place Master e = absurd (not_in_chain hash place (other_part c a Itself (InChain hash place) e).1)
chained_in a c hash place (Named parent name) e = absurd (not_in_chain hash place (other_part c a Itself (InChain hash place) e).1)
chained_in a c hash place (Below d x j n s) e = absurd (no (other_part d a (Pointed x j n s) (InChain hash place) e).1)
  where
    no : Pointed x j n s ≡ InChain hash place → ⊥
    no e = cc
chained_in a c hash place (Chained d s n) e =
    let h = other_part d a (InChain s n) (InChain hash place) e in
    (λ i. Chained (h.0 i) s n) ∙ same h.1
  where
    same : InChain s n ≡ InChain hash place → Chained a s n ≡ Chained a hash place
    same e = cc

itself_in : (a c : ℕ) (o : Owner) → part_in a c o ≡ Some Itself → c ≡ a
itself_in a c Super e = cc
itself_in a c (InGroup g) e = cc
itself_in a c (Free g) e = cc
itself_in a c Nobody e = cc
itself_in a c Root e = (other_part c a Itself Itself e).0
itself_in a c Master e = (other_part c a Itself Itself e).0
itself_in a c (Named parent name) e = (other_part c a Itself Itself e).0
itself_in a c (Below d b k level first) e = absurd (not_pointed b k level first (sym (other_part d a (Pointed b k level first) Itself e).1))
itself_in a c (Chained d hash place) e = absurd (not_in_chain hash place (sym (other_part d a (InChain hash place) Itself e).1))

module _ (im : Image) (owners : Owners) where
  cell_part_in : (a b : ℕ) → part_at (holding im owners a) b ≡ part_in a b (owners b)
  unfolding cell_in
  cell_part_in a b = each (part_in a b (owners b))
    where
      each : (o : Option Part) → cell_part (cell_of o (im.at b)) ≡ o
      each None = refl
      each (Some p) = refl

  pub own_part : (a : ℕ) → is_dinode (owners a) ≡ true → part_at (holding im owners a) a ≡ Some Itself
  own_part a e = cell_part_in a a ∙ own_part_in a (owners a) e

  pub itself_own : (a c : ℕ) → part_at (holding im owners a) c ≡ Some Itself → c ≡ a
  itself_own a c e = itself_in a c (owners c) (sym (cell_part_in a c) ∙ e)

  pub pointed_owner : (a c b k level first : ℕ) → part_at (holding im owners a) c ≡ Some (Pointed b k level first) → owners c ≡ Below a b k level first
  pointed_owner a c b k level first e = pointed_in a c b k level first (owners c) (sym (cell_part_in a c) ∙ e)

  pub chained_owner : (a c hash place : ℕ) → part_at (holding im owners a) c ≡ Some (InChain hash place) → owners c ≡ Chained a hash place
  chained_owner a c hash place e = chained_in a c hash place (owners c) (sym (cell_part_in a c) ∙ e)

  pub pointed_part : (a c b k level first : ℕ) → owners c ≡ Below a b k level first → part_at (holding im owners a) c ≡ Some (Pointed b k level first)
  pointed_part a c b k level first e = cell_part_in a c ∙ ap (part_in a c) e ∙ cond-true _ (Some (Pointed b k level first)) None (eq-eqb a a refl)

  pub chained_part : (a c hash place : ℕ) → owners c ≡ Chained a hash place → part_at (holding im owners a) c ≡ Some (InChain hash place)
  chained_part a c hash place e = cell_part_in a c ∙ ap (part_in a c) e ∙ cond-true _ (Some (InChain hash place)) None (eq-eqb a a refl)

  -- a block that an inode has reads as the image's
  pub block_same : (a b : ℕ) (p : Part) → part_at (holding im owners a) b ≡ Some p → bytes_at (holding im owners a) b ≡ im.at b
  unfolding cell_in
  block_same a b p e = each (part_in a b (owners b)) e
    where
      each : (o : Option Part) → cell_part (cell_of o (im.at b)) ≡ Some p → cell_bytes (cell_of o (im.at b)) ≡ im.at b
      each None e = cc
      each (Some q) e = refl

  pub own_block : (a : ℕ) → is_dinode (owners a) ≡ true → bytes_at (holding im owners a) a ≡ im.at a
  own_block a e = block_same a a Itself (own_part a e)
