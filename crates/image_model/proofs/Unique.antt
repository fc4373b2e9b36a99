-- An image has one table of owners, and stands for one tree.
use Rattle.std.proofs.Common.{◌≡◌, ℕ, ◌⊎◌, inl, inr, Bool, false, None, refl, sym, ap, ap₂, ◌∙◌}
use Rattle.std.specs.Prelude.{if◌then◌else◌}
use Rattle.file_tree.specs.Tree.{Tree}
use Rattle.image_model.specs.Image.{Image}
use Rattle.image_model.specs.Owners.{Owner, Owners, Super, InGroup, Free, Nobody, Root, Master, Named, Below, Chained, is_dinode, IsUsed, part_in, cell_of, cell_in, holding}
use Rattle.image_model.specs.Flat.{Path, no_node, thing_from}
use Rattle.image_model.specs.Nodes.{node_of}
use Rattle.image_model.specs.Stands.{Layout, IsLaid, Stands, flat_of}
use Rattle.image_model.proofs.Reach.{used_claim}
use Rattle.image_model.proofs.Rows.{claim_row}
use Rattle.image_model.proofs.Trees.{same_trees}

pub used_or_not : (o : Owner) → IsUsed o ⊎ (IsUsed o → ⊥)
used_or_not Super = inr (λ u. u)
used_or_not (InGroup g) = inr (λ u. u)
used_or_not (Free g) = inr (λ u. u)
used_or_not Nobody = inr (λ u. u)
used_or_not Root = inl tt
used_or_not Master = inl tt
used_or_not (Named a name) = inl tt
used_or_not (Below a b k level first) = inl tt
used_or_not (Chained a hash place) = inl tt

-- a block that isn't in use is no inode's, and no inode is in it
pub unused_part : (a b : ℕ) (o : Owner) → (IsUsed o → ⊥) → part_in a b o ≡ None
unused_part a b Super un = refl
unused_part a b (InGroup g) un = refl
unused_part a b (Free g) un = refl
unused_part a b Nobody un = refl
unused_part a b Root un = absurd (un tt)
unused_part a b Master un = absurd (un tt)
unused_part a b (Named d name) un = absurd (un tt)
unused_part a b (Below d c k level first) un = absurd (un tt)
unused_part a b (Chained d hash place) un = absurd (un tt)

unused_dinode : (o : Owner) → (IsUsed o → ⊥) → is_dinode o ≡ false
unused_dinode Super un = refl
unused_dinode (InGroup g) un = refl
unused_dinode (Free g) un = refl
unused_dinode Nobody un = refl
unused_dinode Root un = absurd (un tt)
unused_dinode Master un = absurd (un tt)
unused_dinode (Named d name) un = absurd (un tt)
unused_dinode (Below d c k level first) un = absurd (un tt)
unused_dinode (Chained d hash place) un = absurd (un tt)

module _ (im : Image) (owners owners' : Owners) (l l' : Layout) (laid : IsLaid im owners l) (laid' : IsLaid im owners' l') where
  -- what one table says of a block in use, the other says too
  pub used_same : (c : ℕ) → IsUsed (owners c) → owners' c ≡ owners c
  used_same c used = let claim = used_claim im owners l laid c (owners c) refl used in claim_row im owners' l' laid' claim.0 c (owners c) claim.1

module _ (im : Image) (owners owners' : Owners) (l l' : Layout) (laid : IsLaid im owners l) (laid' : IsLaid im owners' l') where
  both : {X : Type 0} (c : ℕ) (f : Owner → X) → ((o p : Owner) → (IsUsed o → ⊥) → (IsUsed p → ⊥) → f o ≡ f p) → f (owners c) ≡ f (owners' c)
  both c f unused = elim (used_or_not (owners c)) [
    | inl used ↦ ap f (sym (used_same im owners owners' l l' laid laid' c used))
    | inr un ↦ elim (used_or_not (owners' c)) [
      | inl used ↦ ap f (used_same im owners' owners l' l laid' laid c used)
      | inr un' ↦ unused (owners c) (owners' c) un un'
    ]
  ]

  pub dinodes_same : (a : ℕ) → is_dinode (owners a) ≡ is_dinode (owners' a)
  dinodes_same a = both a is_dinode (λ o p un un'. unused_dinode o un ∙ sym (unused_dinode p un'))

  cells_same : (a b : ℕ) → cell_in im owners a b ≡ cell_in im owners' a b
  unfolding cell_in
  cells_same a b = ap (λ part. cell_of part (im.at b)) (both b (part_in a b) (λ o p un un'. unused_part a b o un ∙ sym (unused_part a b p un')))

  pub holdings_same : (a : ℕ) → holding im owners a ≡ holding im owners' a
  holdings_same a = λ i. record { size = im.size; count = im.count; own = a; cell = λ b. cells_same a b i }

  pub flat_same : flat_of im owners ≡ flat_of im owners'
  flat_same = λ i a. ap₂ (λ (d : Bool) h. if d then node_of h else no_node) (dinodes_same a) (holdings_same a) i

  pub roots_same : l.root ≡ l'.root
  roots_same = sym laid.super.root ∙ laid'.super.root

-- an image stands for at most one tree
pub one_tree : (im : Image) (t u : Tree) → Stands im t → Stands im u → t ≡ u
one_tree im t u s s' = same_trees t u s.reads.tree s'.reads.tree (λ path. sym (s.reads.same path) ∙ same path ∙ s'.reads.same path)
  where
    same : (path : Path) → thing_from (flat_of im s.owners) s.layout.root path ≡ thing_from (flat_of im s'.owners) s'.layout.root path
    same path = ap₂ (λ f top. thing_from f top path)
        (flat_same im s.owners s'.owners s.layout s'.layout s.laid s'.laid) (roots_same im s.owners s'.owners s.layout s'.layout s.laid s'.laid)
