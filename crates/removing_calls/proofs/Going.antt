-- The blocks that go with an inode: those below it, and its dinode's.
use Rattle.std.proofs.Common.{◌≡◌, ◌↔◌, ◌⊎◌, inl, inr, ℕ, true, false, true≢false, List, [], ◌∷◌, ◌++◌, refl, sym, ap, ◌∙◌, subst}
use Rattle.image_model.proofs.Rows.{and_left}
use Rattle.std.proofs.lemmas.List.Elements.{Contains-append_cases, Contains-append_left}
use Rattle.std.specs.Prelude.{Contains, map}
use Rattle.gfs2_layout.specs.Holding.{Holding}
use Rattle.gfs2_layout.specs.Inode.{dinode_in, has_hash_flag, is_directory_in, is_hashed_in}
use Rattle.glock_names.specs.Views.{Seen}
use Rattle.dinode_tree.specs.Below.{IsBelow, IsLedFrom, TellsOfBlock}
use Rattle.dinode_tree.specs.declared.below.PointedBlock.{PointedBlock}
use Rattle.resource_groups.specs.Putting.{HasDataBlock}
use Rattle.image_model.proofs.Members.{IsIn, contained, is_in, in_right}
use Rattle.hash_dirs.specs.Leaves.{AreLeaves}
use Rattle.hash_dirs.proofs.Gathered.{in_back, in_front, in_one}
use Rattle.removing_calls.specs.Removing.{Goes}
use Rattle.group_locks.proofs.Fronts.{only_one}

-- the numbers of the blocks
abbrev pub numbers : List PointedBlock → List ℕ
numbers below = map (λ (p : PointedBlock). p.block) below

number_in : (p : PointedBlock) (below : List PointedBlock) → IsIn p below → IsIn p.block (numbers below)
number_in p [] here = elim here [ ]
number_in p (q ∷ below) (inl e) = inl (ap (λ (x : PointedBlock). x.block) e)
number_in p (q ∷ below) (inr later) = inr (number_in p below later)

number_of : (b : ℕ) (below : List PointedBlock) → IsIn b (numbers below) → (p : PointedBlock) × IsIn p below × (p.block ≡ b)
number_of b [] here = elim here [ ]
number_of b (q ∷ below) (inl e) = (q, inl refl, sym e)
number_of b (q ∷ below) (inr later) = let found = number_of b below later in (found.0, inr found.1, found.2)

from_numbers : (below : List PointedBlock) (b : ℕ) → Contains (numbers below) b → TellsOfBlock below b
from_numbers below b has = let found = number_of b below (is_in b (numbers below) has) in (found.0, contained found.0 below found.1, found.2)

in_numbers : (below : List PointedBlock) (b : ℕ) → TellsOfBlock below b → Contains (numbers below) b
in_numbers below b told = subst (Contains (numbers below)) told.2 (contained told.0.block (numbers below) (number_in told.0 below (is_in told.0 below told.1)))

-- those below, and the dinode's behind them
pub tree_all : (h : Holding) (a : ℕ) (below : List PointedBlock) (all : List ℕ) → h.own ≡ a → ((p : PointedBlock) → Contains below p → IsLedFrom h p.from p.block) → ((b : ℕ) → IsBelow h b → TellsOfBlock below b)
    → all ≡ numbers below ++ a ∷ [] → (b : ℕ) → Contains all b ↔ ((b ≡ h.own) ⊎ IsBelow h b)
tree_all h a below all own led is same b = (
  (λ has. elim (Contains-append_cases (numbers below) (a ∷ []) b (subst (λ xs. Contains xs b) same has)) [
    | inl early ↦
        let of = from_numbers below b early in
        let by = led of.0 of.1 in
        inr (subst (IsBelow h) of.2 (of.0.from, by.0, by.1, by.2, by.3))
    | inr last ↦ inl (only_one a b last ∙ sym own)
  ]),
  (λ goes. subst (λ xs. Contains xs b) (sym same) (elim goes [
    | inl e ↦ contained b (numbers below ++ a ∷ []) (in_right b (numbers below) (a ∷ []) (inl (e ∙ own)))
    | inr led ↦ Contains-append_left (numbers below) (a ∷ []) b (in_numbers below b (is b led))
  ])),
)

pub inside_all : (v : Seen) (a : ℕ) (below : List PointedBlock) (all : List ℕ) → HasDataBlock v a → ((p : PointedBlock) → Contains below p → HasDataBlock v p.block)
    → all ≡ numbers below ++ a ∷ [] → (b : ℕ) → Contains all b → HasDataBlock v b
inside_all v a below all own inside same b has = elim (Contains-append_cases (numbers below) (a ∷ []) b (subst (λ xs. Contains xs b) same has)) [
  | inl early ↦ let of = from_numbers below b early in subst (HasDataBlock v) of.2 (inside of.0 of.1)
  | inr last ↦ subst (HasDataBlock v) (sym (only_one a b last)) own
]

-- ---- with the leaves of a hashed directory

pub goes_plain : (h : Holding) (all : List ℕ) → is_hashed_in h ≡ false → ((b : ℕ) → Contains all b ↔ ((b ≡ h.own) ⊎ IsBelow h b)) → (b : ℕ) → Contains all b ↔ Goes h b
goes_plain h all plain tree b = (
  (λ has. elim ((tree b).0 has) [ inl e ↦ inl e | inr below ↦ inr (inl below) ]),
  (λ goes. elim goes [ inl e ↦ (tree b).1 (inl e) | inr rest ↦ elim rest [ inl below ↦ (tree b).1 (inr below) | inr leaf ↦ absurd (true≢false (sym leaf.0 ∙ plain)) ] ]),
)

pub goes_hashed : (h : Holding) (tree leaves all : List ℕ) → is_hashed_in h ≡ true → ((b : ℕ) → Contains tree b ↔ ((b ≡ h.own) ⊎ IsBelow h b)) → AreLeaves h leaves → all ≡ tree ++ leaves → (b : ℕ) → Contains all b ↔ Goes h b
goes_hashed h tree leaves all hashed these are same b = (
  (λ has. elim (in_one tree leaves b (subst (λ xs. Contains xs b) same has)) [
    | inl early ↦ elim ((these b).0 early) [ inl e ↦ inl e | inr below ↦ inr (inl below) ]
    | inr leaf ↦ inr (inr (hashed, (are.each b).0 leaf))
  ]),
  (λ goes. subst (λ xs. Contains xs b) (sym same) (elim goes [
    | inl e ↦ in_front tree leaves b ((these b).1 (inl e))
    | inr rest ↦ elim rest [ inl below ↦ in_front tree leaves b ((these b).1 (inr below)) | inr leaf ↦ in_back tree leaves b ((are.each b).1 leaf.1) ]
  ])),
)

pub inside_both : (v : Seen) (tree leaves all : List ℕ) → ((b : ℕ) → Contains tree b → HasDataBlock v b) → ((b : ℕ) → Contains leaves b → HasDataBlock v b) → all ≡ tree ++ leaves → (b : ℕ) → Contains all b → HasDataBlock v b
inside_both v tree leaves all first then same b has = elim (in_one tree leaves b (subst (λ xs. Contains xs b) same has)) [ inl early ↦ first b early | inr leaf ↦ then b leaf ]

pub directory_of_hashed : (h : Holding) → is_hashed_in h ≡ true → is_directory_in h ≡ true
directory_of_hashed h hashed = and_left (is_directory_in h) (has_hash_flag (dinode_in h)) hashed
