-- An image that stands has one table of owners, and one layout but for the order of its journals.
use Rattle.std.proofs.Common.{◌≡◌, ℕ, zero, suc, ◌+◌, ◌<◌, ◌≤◌, ◌⊎◌, inl, inr, List, [], ◌∷◌, Some, refl, sym, ap, ◌∙◌, subst, arith}
use Rattle.std.proofs.lemmas.Bool.{cases_lt}
use Rattle.std.specs.Prelude.{codes, slice_get}
use Rattle.gfs2_layout.specs.declared.rindex.Rindex.{Rindex}
use Rattle.gfs2_layout.specs.Device.{superblock_place}
use Rattle.image_model.specs.Image.{Image}
use Rattle.image_model.specs.Owners.{Owner, Owners, IsUsed}
use Rattle.image_model.specs.Flat.{AFile}
use Rattle.image_model.specs.Groups.{IsListed, IsHeaderOf, IsDataOf, end_of, groups_in}
use Rattle.image_model.specs.Stands.{Layout, IsLaid, flat_of}
use Rattle.image_model.proofs.Held.{some_same}
use Rattle.image_model.proofs.Unique.{used_or_not, used_same, flat_same}

-- where a block lies among groups
pub data Lies (groups : List Rindex) (b : ℕ) : Type 0 where
  in_header : (g : Rindex) → IsListed groups g → IsHeaderOf g b → Lies groups b
  in_data : (g : Rindex) → IsListed groups g → IsDataOf g b → Lies groups b
  in_none : ((g : Rindex) → IsListed groups g → ¬ (IsHeaderOf g b) × ¬ (IsDataOf g b)) → Lies groups b

within : (low n b : ℕ) → ((low ≤ b) × (b < n)) ⊎ ((low ≤ b) × (b < n) → ⊥)
within low n b = elim (cases_lt b low) [
  | inl under ↦ inr (λ h. absurd (omega (arith, under, h.0)))
  | inr over ↦ elim (cases_lt b n) [ inl less ↦ inl (over, less) | inr more ↦ inr (λ h. absurd (omega (arith, more, h.1))) ]
]

pub lies : (groups : List Rindex) (b : ℕ) → Lies groups b
lies [] b = in_none (λ g at. absurd (none g at))
  where
    none : (g : Rindex) → IsListed [] g → ⊥
    none g at = no at.1
      where
        no : slice_get [] at.0 ≡ Some g → ⊥
        no e = cc
lies (g ∷ gs) b = first (within g.address (g.address + g.length) b) (within g.data0 (end_of g) b) (lies gs b)
  where
    later : (h : Rindex) → IsListed gs h → IsListed (g ∷ gs) h
    later h at = (suc at.0, at.1)

    first : ((g.address ≤ b) × (b < g.address + g.length)) ⊎ ((g.address ≤ b) × (b < g.address + g.length) → ⊥)
        → ((g.data0 ≤ b) × (b < end_of g)) ⊎ ((g.data0 ≤ b) × (b < end_of g) → ⊥) → Lies gs b → Lies (g ∷ gs) b
    first (inl h) d rest = in_header g (0, refl) (record { low = h.0; high = h.1 })
    first (inr away) (inl d) rest = in_data g (0, refl) (record { low = d.0; high = d.1 })
    first (inr away) (inr past) (in_header h at is) = in_header h (later h at) is
    first (inr away) (inr past) (in_data h at is) = in_data h (later h at) is
    first (inr away) (inr past) (in_none none) = in_none each
      where
        each : (h : Rindex) → IsListed (g ∷ gs) h → ¬ (IsHeaderOf h b) × ¬ (IsDataOf h b)
        each h at = by_place at.0 at.1
          where
            by_place : (i : ℕ) → slice_get (g ∷ gs) i ≡ Some h → ¬ (IsHeaderOf h b) × ¬ (IsDataOf h b)
            by_place zero e = subst (λ k. ¬ (IsHeaderOf k b) × ¬ (IsDataOf k b)) (some_same e) ((λ is. away (is.low, is.high)), (λ is. past (is.low, is.high)))
            by_place (suc i) e = none h (i, e)

module _ (im : Image) (owners owners' : Owners) (l l' : Layout) (laid : IsLaid im owners l) (laid' : IsLaid im owners' l') where
  same : flat_of im owners ≡ flat_of im owners'
  same = flat_same im owners owners' l l' laid laid'

  pub masters_same : l.master ≡ l'.master
  masters_same = sym laid.super.master ∙ laid'.super.master

  -- one name leads to one inode
  child_same : (a a' : ℕ) (name : List ℕ) (b b' : ℕ) → a ≡ a' → (flat_of im owners a).child name ≡ Some b → (flat_of im owners' a').child name ≡ Some b' → b ≡ b'
  child_same a a' name b b' e f g = some_same (sym f ∙ (λ i. (same i (e i)).child name) ∙ g)

  pub rindexes_same : l.rindex ≡ l'.rindex
  rindexes_same = child_same l.master l'.master (codes "rindex") l.rindex l'.rindex masters_same laid.system.rindex laid'.system.rindex

  pub jindexes_same : l.jindex ≡ l'.jindex
  jindexes_same = child_same l.master l'.master (codes "jindex") l.jindex l'.jindex masters_same laid.system.jindex laid'.system.jindex

  pub groups_same : l.groups ≡ l'.groups
  groups_same = sym laid.system.groups.2.listed ∙ ap groups_in (bytes (sym laid.system.groups.1 ∙ (λ i. (same i (rindexes_same i)).thing) ∙ laid'.system.groups.1)) ∙ laid'.system.groups.2.listed
    where
      bytes : {x y : List ℕ} → AFile x ≡ AFile y → x ≡ y
      bytes e = cc

  -- each block has one owner
  pub owners_same : (b : ℕ) → owners b ≡ owners' b
  owners_same b = elim (used_or_not (owners b)) [
    | inl used ↦ sym (used_same im owners owners' l l' laid laid' b used)
    | inr un ↦ elim (used_or_not (owners' b)) [
      | inl used ↦ used_same im owners' owners l' l laid' laid b used
      | inr un' ↦ unused un un' (cases_lt (superblock_place im.size) b) (lies l.groups b)
    ]
  ]
    where
      there : (g : Rindex) → IsListed l.groups g → IsListed l'.groups g
      there g at = subst (λ gs. IsListed gs g) groups_same at

      free : {o p : Owner} → (o ≡ p) ⊎ IsUsed o → (IsUsed o → ⊥) → o ≡ p
      free (inl e) un = e
      free (inr used) un = absurd (un used)

      unused : (IsUsed (owners b) → ⊥) → (IsUsed (owners' b) → ⊥) → (superblock_place im.size < b) ⊎ (b ≤ superblock_place im.size) → Lies l.groups b → owners b ≡ owners' b
      unused un un' (inr low) way = laid.zoned.low b low ∙ sym (laid'.zoned.low b low)
      unused un un' (inl high) (in_header g at is) = laid.zoned.headers g at b is ∙ sym (laid'.zoned.headers g (there g at) b is)
      unused un un' (inl high) (in_data g at is) = free (laid.zoned.data_blocks g at b is) un ∙ sym (free (laid'.zoned.data_blocks g (there g at) b is) un')
      unused un un' (inl high) (in_none none) =
          laid.zoned.between b high none ∙ sym (laid'.zoned.between b high (λ g at. none g (subst (λ gs. IsListed gs g) (sym groups_same) at)))
