-- Which blocks an owner of a new image has.
use Rattle.std.proofs.Common.{ℕ, ◌≡◌, ◌+◌, ◌<◌, ◌≤◌, ◌⊎◌, inl, inr, List, codes, sym, ap, ◌∙◌, subst, arith}
use Rattle.std.proofs.lemmas.Bool.{cases_eq, cond-true, cond-false, eq-eqb, ne_eqb}
use Rattle.image_model.specs.Owners.{Root, Master, Named, Below, Chained, IsUsed}
use Rattle.mkgfs2_tool.specs.Groups.{data_address}
use Rattle.mkgfs2_tool.specs.Files.{height, level_start}
use Rattle.mkgfs2_tool.specs.Order.{master_place, root_place, journals_place, journal_leaves, leaf_place}
use Rattle.mkgfs2_tool.specs.Making.{IsFitting}
use Rattle.mkgfs2_tool.specs.declared.plan.Plan.{Plan}
use Rattle.mkgfs2_tool.proofs.StandingGiven.{Known}
use Rattle.mkgfs2_tool.proofs.StandingPlan.{apart_addresses}
use Rattle.mkgfs2_tool.proofs.StandingShapes.{IsBelow, part_below, part_here, inside_file, Piece, is_top, is_below, piece}
use Rattle.mkgfs2_tool.proofs.StandingOwners.{file_place, file_shape, file_owner, spot, named, below_owner, owner, Kept, leaf_owner, is_master, is_root, is_journals, is_leaf, is_file, kept, owner_file, owner_master, owner_root, owner_journals, owner_leaf, IsTaken, used_taken, file_apart, file_not_journals, journals_taken, in_all, file_taken, file_some}
use Rattle.mkgfs2_tool.proofs.StandingFiles.{file_low}
pub use Rattle.image_model.proofs.Unique.{used_or_not}

pub data Whose (p : Plan) (b : ℕ) : Type 0 where
  whose_master : b ≡ data_address p master_place → owner p b ≡ Master → Whose p b
  whose_root : b ≡ data_address p root_place → owner p b ≡ Root → Whose p b
  whose_journals : b ≡ data_address p (journals_place p) → owner p b ≡ Named (data_address p master_place) (codes "jindex") → Whose p b
  whose_leaf : (n : ℕ) → n < journal_leaves p → b ≡ data_address p (leaf_place p n) → owner p b ≡ leaf_owner p n → Whose p b
  whose_file : (i : ℕ) → i ≤ p.journals → b ≡ spot p i 0 → owner p b ≡ named p i → Whose p b
  whose_below : (i l x : ℕ) → i ≤ p.journals → IsBelow (file_shape p i) l x → b ≡ spot p i (level_start (file_shape p i) l + x) → owner p b ≡ below_owner p i l x → Whose p b
  whose_none : (IsUsed (owner p b) → ⊥) → Whose p b

module _ (p : Plan) (fit : IsFitting p) (known : Known p) where
  pub owner_below : (i l x : ℕ) → i ≤ p.journals → IsBelow (file_shape p i) l x → owner p (spot p i (level_start (file_shape p i) l + x)) ≡ below_owner p i l x
  owner_below i l x ok at =
      owner_file p fit i (level_start (file_shape p i) l + x) ok (inside_file (file_shape p i) (file_low p fit known i) l x at)
      ∙ ap (file_owner p i) (part_here (file_shape p i) (file_low p fit known i) l x at) ∙ each (cases_eq l (height (file_shape p i)))
    where
      each : (l ≡ height (file_shape p i)) ⊎ (l ≡ height (file_shape p i) → ⊥) → file_owner p i (part_below (file_shape p i) l x) ≡ below_owner p i l x
      each (inl e) = ap (file_owner p i) (cond-true _ _ _ (eq-eqb l (height (file_shape p i)) e)) ∙ ap (λ n. below_owner p i n x) (sym e)
      each (inr d) = ap (file_owner p i) (cond-false _ _ _ (ne_eqb l (height (file_shape p i)) d))

  pub owner_top : (i : ℕ) → i ≤ p.journals → owner p (spot p i 0) ≡ named p i
  owner_top i ok = owner_file p fit i 0 ok (file_some p i)

  pub whose : (b : ℕ) → Whose p b
  whose b = elim (used_or_not (owner p b)) [
    | inr none ↦ whose_none none
    | inl used ↦ of_taken (used_taken p fit b used)
  ]
    where
      of_piece : (i n : ℕ) → i ≤ p.journals → b ≡ spot p i n → Piece (file_shape p i) n → Whose p b
      of_piece i n ok e (is_top none) = let at : b ≡ spot p i 0 = e ∙ ap (spot p i) none in whose_file i ok at (ap (owner p) at ∙ owner_top i ok)
      of_piece i n ok e (is_below l x at is) =
          let same : b ≡ spot p i (level_start (file_shape p i) l + x) = e ∙ ap (spot p i) is in
          whose_below i l x ok at same (ap (owner p) same ∙ owner_below i l x ok at)

      of_kept : (k : ℕ) → b ≡ data_address p k → Kept p k → Whose p b
      of_kept k e (is_master is) = let at : b ≡ data_address p master_place = e ∙ ap (data_address p) is in whose_master at (ap (owner p) at ∙ owner_master p fit)
      of_kept k e (is_root is) = let at : b ≡ data_address p root_place = e ∙ ap (data_address p) is in whose_root at (ap (owner p) at ∙ owner_root p fit)
      of_kept k e (is_journals is) = let at : b ≡ data_address p (journals_place p) = e ∙ ap (data_address p) is in whose_journals at (ap (owner p) at ∙ owner_journals p fit)
      of_kept k e (is_leaf n low is) = let at : b ≡ data_address p (leaf_place p n) = e ∙ ap (data_address p) is in whose_leaf n low at (ap (owner p) at ∙ owner_leaf p fit n low)
      of_kept k e (is_file i n ok inside is) = of_piece i n ok (e ∙ ap (data_address p) is) (piece (file_shape p i) (file_low p fit known i) n inside)

      of_taken : IsTaken p fit b → Whose p b
      of_taken at = of_kept at.place at.is (kept p at.place at.low)

  -- a file has its dinode's block alone
  pub same_file : (i k : ℕ) → i ≤ p.journals → k ≤ p.journals → spot p i 0 ≡ spot p k 0 → i ≡ k
  same_file i k ok ok' e =
      file_apart p i k (drop_zero (file_place p i) (file_place p k) (apart_addresses p fit (file_place p i + 0) (file_place p k + 0)
      (in_all p fit (file_place p i + 0) (file_taken p i 0 ok (file_some p i))) (in_all p fit (file_place p k + 0) (file_taken p k 0 ok' (file_some p k))) e))
    where
      drop_zero : (a b : ℕ) → a + 0 ≡ b + 0 → a ≡ b
      drop_zero a b e = omega (arith, e)

  -- a block in a chain is a leaf of the directory of journals
  pub record IsLeafOf (b a hash place : ℕ) : Type 0 where
    pub n : ℕ
    pub low : n < journal_leaves p
    pub is : b ≡ data_address p (leaf_place p n)
    pub owned : leaf_owner p n ≡ Chained a hash place

  pub leaf_of : (b a hash place : ℕ) → owner p b ≡ Chained a hash place → IsLeafOf b a hash place
  leaf_of b a hash place e = each (whose b)
    where
      no_master : Master ≡ Chained a hash place → ⊥
      no_master e = cc

      no_root : Root ≡ Chained a hash place → ⊥
      no_root e = cc

      no_named : (c : ℕ) (name : List ℕ) → Named c name ≡ Chained a hash place → ⊥
      no_named c name e = cc

      no_below : (c d k l f : ℕ) → Below c d k l f ≡ Chained a hash place → ⊥
      no_below c d k l f e = cc

      each : Whose p b → IsLeafOf b a hash place
      each (whose_master at is) = absurd (no_master (sym is ∙ e))
      each (whose_root at is) = absurd (no_root (sym is ∙ e))
      each (whose_journals at is) = absurd (no_named (data_address p master_place) (codes "jindex") (sym is ∙ e))
      each (whose_leaf n low at is) = record { n = n; low = low; is = at; owned = sym is ∙ e }
      each (whose_file i ok at is) = absurd (no_named _ _ (sym is ∙ e))
      each (whose_below i l x ok at same is) = absurd (no_below _ _ _ _ _ (sym is ∙ e))
      each (whose_none none) = absurd (none (subst IsUsed (sym e) tt))

  pub chained_same : (a b c a' b' c' : ℕ) → Chained a b c ≡ Chained a' b' c' → (a ≡ a') × (b ≡ b') × (c ≡ c')
  chained_same a b c a' b' c' e = (cc, cc, cc)

  pub file_apart_journals : (i : ℕ) → i ≤ p.journals → data_address p (journals_place p) ≡ spot p i 0 → ⊥
  file_apart_journals i ok e =
      file_not_journals p i (drop_zero (journals_place p) (file_place p i) (apart_addresses p fit (journals_place p) (file_place p i + 0) (in_all p fit (journals_place p) (journals_taken p)) (in_all p fit (file_place p i + 0) (file_taken p i 0 ok (file_some p i))) e))
    where
      drop_zero : (a b : ℕ) → a ≡ b + 0 → b ≡ a
      drop_zero a b e = omega (arith, e)

  -- no other inode has leaves
  pub not_chained : (b a hash place : ℕ) → (data_address p (journals_place p) ≡ a → journal_leaves p ≡ 0) → owner p b ≡ Chained a hash place → ⊥
  not_chained b a hash place other e = from (leaf_of b a hash place e)
    where
      none : (n m : ℕ) → n < m → m ≡ 0 → ⊥
      none n m low e = absurd (omega (arith, low, e))

      from : IsLeafOf b a hash place → ⊥
      from q = none q.n (journal_leaves p) q.low (other (chained_same _ _ _ _ _ _ q.owned).0)

  -- a block below a dinode is one of a file's
  pub record IsBelowOf (b a c k level first : ℕ) : Type 0 where
    pub file : ℕ
    pub ok : file ≤ p.journals
    pub l : ℕ
    pub x : ℕ
    pub at : IsBelow (file_shape p file) l x
    pub is : b ≡ spot p file (level_start (file_shape p file) l + x)
    pub owned : below_owner p file l x ≡ Below a c k level first

  pub below_of : (b a c k level first : ℕ) → owner p b ≡ Below a c k level first → IsBelowOf b a c k level first
  below_of b a c k level first e = each (whose b)
    where
      no_master : Master ≡ Below a c k level first → ⊥
      no_master e = cc

      no_root : Root ≡ Below a c k level first → ⊥
      no_root e = cc

      no_named : (d : ℕ) (name : List ℕ) → Named d name ≡ Below a c k level first → ⊥
      no_named d name e = cc

      no_chained : (d hash place : ℕ) → Chained d hash place ≡ Below a c k level first → ⊥
      no_chained d hash place e = cc

      each : Whose p b → IsBelowOf b a c k level first
      each (whose_master at is) = absurd (no_master (sym is ∙ e))
      each (whose_root at is) = absurd (no_root (sym is ∙ e))
      each (whose_journals at is) = absurd (no_named (data_address p master_place) (codes "jindex") (sym is ∙ e))
      each (whose_leaf n low at is) = absurd (no_chained _ _ _ (sym is ∙ e))
      each (whose_file i ok at is) = absurd (no_named _ _ (sym is ∙ e))
      each (whose_below i l x ok at same is) = record { file = i; ok = ok; l = l; x = x; at = at; is = same; owned = sym is ∙ e }
      each (whose_none none) = absurd (none (subst IsUsed (sym e) tt))
