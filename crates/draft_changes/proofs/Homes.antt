-- The groups in whose data blocks some blocks lie.
use Rattle.std.proofs.Common.{◌≡◌, ℕ, ◌⊎◌, inl, inr, List, [], ◌∷◌, refl, sym, ◌∙◌, subst}
use Rattle.std.specs.Prelude.{Contains, flat_map}
use Rattle.gfs2_layout.specs.declared.rindex.Rindex.{Rindex}
use Rattle.image_model.specs.Groups.{IsListed, IsDataOf}
use Rattle.image_model.specs.Image.{Image}
use Rattle.image_model.specs.Owners.{Owners, InGroup, Free, IsUsed}
use Rattle.image_model.specs.Stands.{Layout, IsLaid}
use Rattle.image_model.proofs.Members.{IsIn, contained, is_in, in_flat_map, from_flat_map}
use Rattle.image_model.proofs.Table.{Lies, lies, in_header, in_data, in_none}
use Rattle.image_changes.proofs.Laid.{one_group}
use Rattle.draft_changes.specs.Removing.{HasSome}
use Rattle.draft_changes.proofs.Rows.{not_group_free, same_group, free_lies}

-- the group in whose data blocks a block lies
abbrev pub number_of : {groups : List Rindex} {b : ℕ} → Lies groups b → ℕ
number_of (in_data g at is) = g.address
number_of (in_header g at is) = 0
number_of (in_none none) = 0

abbrev pub group_of : {groups : List Rindex} {b : ℕ} → Lies groups b → List Rindex
group_of (in_data g at is) = g ∷ []
group_of (in_header g at is) = []
group_of (in_none none) = []

-- the groups of these blocks
abbrev pub homes : Layout → List ℕ → List Rindex
homes l blocks = flat_map (λ b. group_of (lies l.groups b)) blocks

pub record IsHome (l : Layout) (b : ℕ) (number : ℕ) (groups : List Rindex) : Type 0 where
  pub group : Rindex
  pub listed : IsListed l.groups group
  pub own : IsDataOf group b
  pub address : number ≡ group.address
  pub there : IsIn group groups

pub record IsOne (l : Layout) (blocks : List ℕ) (g : Rindex) : Type 0 where
  pub listed : IsListed l.groups g
  pub some : HasSome g blocks

pub from_homes : (l : Layout) (blocks : List ℕ) (g : Rindex) → IsIn g (homes l blocks) → IsOne l blocks g
from_homes l blocks g h = let f = from_flat_map (λ c. group_of (lies l.groups c)) g blocks h in by f.0 (contained f.0 blocks f.1) (lies l.groups f.0) f.2
  where
    by : (b : ℕ) → Contains blocks b → (w : Lies l.groups b) → IsIn g (group_of w) → IsOne l blocks g
    by b c (in_data k at own) (inl e) = subst (IsOne l blocks) (sym e) (record { listed = at; some = (b, c, own) })
    by b c (in_data k at own) (inr h) = elim h [ ]
    by b c (in_header k at own) h = elim h [ ]
    by b c (in_none none) h = elim h [ ]

-- the block is in use, or free
abbrev pub UsedOrFree : Owners → ℕ → Type 0
UsedOrFree o b = IsUsed (o b) ⊎ ((x : ℕ) × (o b ≡ Free x))

module _ (im : Image) (o : Owners) (l : Layout) (laid : IsLaid im o l) where
  -- such a block has a home
  pub home : (b : ℕ) → UsedOrFree o b → IsHome l b (number_of (lies l.groups b)) (group_of (lies l.groups b))
  home b is = by (lies l.groups b)
    where
      no_header : (g : ℕ) → o b ≡ InGroup g → UsedOrFree o b → ⊥
      no_header g e (inl used) = subst IsUsed e used
      no_header g e (inr free) = not_group_free g free.0 (sym e ∙ free.1)

      lies_in : UsedOrFree o b → (g : Rindex) × IsListed l.groups g × IsDataOf g b
      lies_in (inl used) = laid.zoned.placed b used
      lies_in (inr free) = let f = free_lies im o l laid b free.0 free.1 in (f.0, f.1, f.2)

      by : (w : Lies l.groups b) → IsHome l b (number_of w) (group_of w)
      by (in_data g at own) = record { group = g; listed = at; own = own; address = refl; there = inl refl }
      by (in_header g at own) = absurd (no_header g.address (laid.zoned.headers g at b own) is)
      by (in_none none) = let g = lies_in is in absurd ((none g.0 g.1).1 g.2)

  pub in_homes : (blocks : List ℕ) → ((b : ℕ) → Contains blocks b → UsedOrFree o b) → (g : Rindex) → IsListed l.groups g → HasSome g blocks → IsIn g (homes l blocks)
  in_homes blocks are g at some =
      let b = some.0 in
      let h = home b (are b some.1) in
      let same : h.group ≡ g = same_group im l.groups laid.fit h.group g h.listed at (one_group im l.groups laid.fit h.group g b h.listed at h.own some.2) in
      subst (λ k. IsIn k (homes l blocks)) same (in_flat_map (λ c. group_of (lies l.groups c)) b h.group blocks (is_in b blocks some.1) h.there)
