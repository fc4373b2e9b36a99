-- What free blocks and the places of rings have is no matter.
use Rattle.std.proofs.Common.{◌≡◌, ◌≢◌, ◌⊎◌, ℕ, suc, ◌*◌, ◌/◌, ◌<◌, inl, inr, true, List, length, Option, None, Some, refl, sym, ap, subst, ◌∙◌, arith}
use Rattle.std.specs.Prelude.{◌==◌, if◌then◌else◌}
use Rattle.std.proofs.lemmas.Bool.{cases_eq, cond-false, ne_eqb}
use Rattle.file_tree.specs.Tree.{Tree}
use Rattle.gfs2_layout.specs.Device.{superblock_place}
use Rattle.gfs2_layout.specs.Holding.{Part, Pointed, bytes_at, cell_bytes, cell_part, part_at}
use Rattle.gfs2_layout.specs.Inode.{content_block, dinode_in, fan, height_in, span}
use Rattle.gfs2_layout.specs.Structures.{dinode_length, dinode_of}
use Rattle.log_layout.specs.Journal.{ring_of}
use Rattle.log_layout.specs.Laws.{HasSamePlaces}
use Rattle.log_layout.specs.Live.{IsReadable}
use Rattle.log_layout.proofs.SamePlaces.{says_the_same}
use Rattle.image_model.specs.Image.{Image}
use Rattle.image_model.specs.Owners.{Below, Free, Owner, Owners, IsUsed, Super, cell_in, cell_of, holding, is_dinode, part_in}
use Rattle.image_model.specs.Stands.{IsJournalAt, IsLaid, Layout}
use Rattle.image_model.proofs.Held.{block_same, none_some, own_block, own_part, pointed_owner, pointed_part}
use Rattle.image_model.proofs.Lengths.{place_high, place_low}
use Rattle.image_model.proofs.Reach.{used_low}
use Rattle.image_model.proofs.Same.{IsReached, content_block_is}
use Rattle.image_model.proofs.Unique.{unused_part, used_or_not}
use Rattle.image_changes.specs.Changes.{IsRingPlace, Place}
use Rattle.image_changes.specs.Contents.{IsAsLarge, SameButContent}
use Rattle.image_changes.specs.Instances.{StandsBy}
use Rattle.image_changes.proofs.Drafting.{free_group}
use Rattle.image_changes.proofs.FileContent.{content_block_after}
use Rattle.image_changes.proofs.Unminded.{free_blocks_do_not_matter, places_do_not_matter}
use Rattle.image_machine.specs.Volumes.{HasItsPlaces, IsPlace, RingsCanBeRead, StandsAt, Volume, image_with, ring_in}
use Rattle.image_machine.specs.Laws.{FreeBlocksDoNotMatter, PlacesOfRingsDoNotMatter}
use Rattle.image_machine.proofs.Fitting.{all_whole, block_with, its_dinode, its_inode, its_journal, large}

as_large : (v : Volume) (c c' : ℕ → List ℕ) → IsAsLarge (image_with v c) (image_with v c')
as_large v c c' = record { size = refl; count = refl; whole = all_whole v c' }

free_super : (g : ℕ) → Super ≡ Free g → ⊥
free_super g e = cc

below_super : (d above k first : ℕ) → Super ≡ Below d above k 0 first → ⊥
below_super d above k first e = cc

super_row : (im : Image) (o : Owners) (l : Layout) → IsLaid im o l → o (superblock_place im.size) ≡ Super
super_row im o l laid = laid.zoned.low (superblock_place im.size) (omega arith)

-- ---- free blocks

pub free_do_not : FreeBlocksDoNotMatter
free_do_not v c c' places t s near = record {
  owners = s.owners;
  stands = still.0;
  told = s.told;
  superblock = super ∙ s.superblock;
  rings = λ j d at. subst (HasItsPlaces v d) (sym (still.1 d)) (s.rings j d at);
}
  where
    bytes : (b : ℕ) → ((image_with v c').at b ≡ (image_with v c).at b) ⊎ ((g : ℕ) × (s.owners b ≡ Free g))
    bytes b = elim (near b) [
      | inl e ↦ inl (block_with v c c' b e)
      | inr free ↦ inr (free_group (s.owners b) (sym (ap (λ (p : Place). p.free) (s.told b)) ∙ free))
    ]

    still : StandsBy (image_with v c') s.owners v.layout t × ((a : ℕ) → holding (image_with v c') s.owners a ≡ holding (image_with v c) s.owners a)
    still = free_blocks_do_not_matter (image_with v c) (image_with v c') s.owners v.layout t (as_large v c c') bytes s.stands

    super : (image_with v c').at (superblock_place v.size) ≡ (image_with v c).at (superblock_place v.size)
    super = elim (bytes (superblock_place v.size)) [
      | inl e ↦ e
      | inr free ↦ absurd (free_super free.0 (sym (super_row (image_with v c) s.owners v.layout s.stands.laid) ∙ free.1))
    ]

-- ---- a journal, with other bytes in its places

module _ (im im' : Image) (o : Owners) (l : Layout) (big : IsAsLarge im im') (bytes : (b : ℕ) → (im'.at b ≡ im.at b) ⊎ IsRingPlace o l b) (laid : IsLaid im o l) (j d : ℕ) (at : IsJournalAt l j d) where
  part_none : (a : ℕ) (p : Part) → a ≢ d → (if a == d then Some p else None) ≡ None
  part_none a p apart = cond-false _ (Some p) None (ne_eqb a d apart)

  same_parts : (b : ℕ) → part_at (holding im' o d) b ≡ part_at (holding im o d) b
  unfolding cell_in
  same_parts b = each (part_in d b (o b))
    where
      each : (x : Option Part) → cell_part (cell_of x (im'.at b)) ≡ cell_part (cell_of x (im.at b))
      each None = refl
      each (Some p) = refl

  same_lengths : (b : ℕ) → length (bytes_at (holding im' o d) b) ≡ length (bytes_at (holding im o d) b)
  unfolding cell_in
  same_lengths b = each (part_in d b (o b)) refl
    where
      each : (x : Option Part) → part_in d b (o b) ≡ x → length (cell_bytes (cell_of x (im'.at b))) ≡ length (cell_bytes (cell_of x (im.at b)))
      each None e = refl
      each (Some p) e =
          let low = used_low im o l laid b (used_in (o b) e) in
          big.whole b low ∙ sym (laid.image.whole b low)
        where
          used_in : (x : Owner) → part_in d b x ≡ Some p → IsUsed x
          used_in x e = elim (used_or_not x) [ inl used ↦ used | inr un ↦ absurd (none_some (sym (unused_part d b x un) ∙ e)) ]

  same_bytes : (b : ℕ) → ((above k first : ℕ) → part_at (holding im o d) b ≢ Some (Pointed above k 0 first)) → bytes_at (holding im' o d) b ≡ bytes_at (holding im o d) b
  unfolding cell_in
  same_bytes b not = elim (bytes b) [
    | inl e ↦ ap (λ x. cell_bytes (cell_of (part_in d b (o b)) x)) e
    | inr place ↦ elim (cases_eq place.1 d) [
      | inl e ↦ absurd (not place.2 place.3 place.4 (pointed_part im o d b place.2 place.3 0 place.4 (place.6 ∙ ap (λ z. Below z place.2 place.3 0 place.4) e)))
      | inr apart ↦
          let none : part_in d b (o b) ≡ None = ap (part_in d b) place.6 ∙ part_none place.1 _ apart in
          ap (λ x. cell_bytes (cell_of x (im'.at b))) none ∙ sym (ap (λ x. cell_bytes (cell_of x (im.at b))) none)
    ]
  ]

  same_content : SameButContent (holding im o d) (holding im' o d)
  same_content = record { size = big.size; count = big.count; own = refl; parts = same_parts; lengths = same_lengths; bytes = same_bytes }

  own_same : im'.at d ≡ im.at d
  own_same = elim (bytes d) [ inl e ↦ e | inr place ↦ absurd (no place.1 place.2 place.3 place.4 (ap is_dinode (sym place.6) ∙ its_dinode im o l laid j d at)) ]
    where
      no : (a above k first : ℕ) → is_dinode (Below a above k 0 first) ≡ true → ⊥
      no a above k first e = cc

  dinode_kept : dinode_in (holding im' o d) ≡ dinode_in (holding im o d)
  unfolding dinode_in
  dinode_kept = ap dinode_of (own_block im' o d (its_dinode im o l laid j d at) ∙ own_same ∙ sym (own_block im o d (its_dinode im o l laid j d at)))

  many_kept : (ring_of (holding im' o d)).places ≡ (ring_of (holding im o d)).places
  many_kept = λ i. (dinode_kept i).size / big.size i

  module _ (p : ℕ) (low : p < (ring_of (holding im o d)).places) where
    high : (level : ℕ) × (height_in (holding im o d) ≡ suc level)
    high = place_high im o (large im o l laid j d at) d (its_dinode im o l laid j d at) (its_inode im o l laid j d at) (its_journal im o l laid j d at) p low

    within : p < fan im.size dinode_length * span im.size high.0
    within =
        let below = place_low im o (large im o l laid j d at) d (its_dinode im o l laid j d at) (its_inode im o l laid j d at) (its_journal im o l laid j d at) p low in
        omega (arith, below, (its_inode im o l laid j d at).fits.under high.0 high.1)

    place_kept : content_block (holding im' o d) p ≡ content_block (holding im o d) p
    place_kept =
        content_block_after (holding im o d) (holding im' o d) (its_journal im o l laid j d at).file (own_part im o d (its_dinode im o l laid j d at)) same_content (its_inode im o l laid j d at)
        high.0 high.1 p within

    -- its block is one of the journal's blocks of content
    place_row : (above k first : ℕ) × (o (content_block (holding im o d) p) ≡ Below d above k 0 first)
    place_row = by (content_block_is im o d (its_dinode im o l laid j d at) (its_inode im o l laid j d at) high.0 high.1 p within).0
      where
        by : IsReached (holding im o d) 0 (content_block (holding im o d) p) → (above k first : ℕ) × (o (content_block (holding im o d) p) ≡ Below d above k 0 first)
        by (inl none) = absurd ((its_journal im o l laid j d at).filled p low none)
        by (inr g) = (g.0, g.1, g.2, pointed_owner im o d (content_block (holding im o d) p) g.0 g.1 0 g.2 g.3)

    block_kept : bytes_at (holding im' o d) (content_block (holding im' o d) p) ≡ im'.at (content_block (holding im o d) p)
    block_kept =
        let c = content_block (holding im' o d) p in
        let owner : o c ≡ Below d place_row.0 place_row.1 0 place_row.2 = ap o place_kept ∙ place_row.3 in
        block_same im' o d c (Pointed place_row.0 place_row.1 0 place_row.2) (pointed_part im' o d c place_row.0 place_row.1 0 place_row.2 owner) ∙ ap im'.at place_kept

-- ---- the places of rings

-- a place of a ring is one of its journal's blocks of content
pub is_ring_place : (v : Volume) (c : ℕ → List ℕ) (places : ℕ → Place) (t : Tree) (s : StandsAt v c places t) (b : ℕ) → IsPlace v b → IsRingPlace s.owners v.layout b
is_ring_place v c places t s b is = (is.journal, is.dinode, row.0, row.1, row.2, is.at, ap s.owners (sym is.is ∙ sym (held.there is.place is.low)) ∙ row.3)
  where
    held : HasItsPlaces v is.dinode (holding (image_with v c) s.owners is.dinode)
    held = s.rings is.journal is.dinode is.at

    row : (above k first : ℕ) × (s.owners (content_block (holding (image_with v c) s.owners is.dinode) is.place) ≡ Below is.dinode above k 0 first)
    row = place_row (image_with v c) (image_with v c) s.owners v.layout (as_large v c c) (λ x. inl refl) s.stands.laid is.journal is.dinode is.at is.place (subst (λ n. is.place < n) (sym held.as_many) is.low)

module _ (v : Volume) (c c' : ℕ → List ℕ) (places : ℕ → Place) (t : Tree) (s : StandsAt v c places t) (readable : RingsCanBeRead v c') (near : (b : ℕ) → (c b ≡ c' b) ⊎ IsPlace v b) where
  bytes : (b : ℕ) → ((image_with v c').at b ≡ (image_with v c).at b) ⊎ IsRingPlace s.owners v.layout b
  bytes b = elim (near b) [ inl e ↦ inl (block_with v c c' b e) | inr place ↦ inr (is_ring_place v c places t s b place) ]

  module _ (j d : ℕ) (at : IsJournalAt v.layout j d) where
    its_places : HasItsPlaces v d (holding (image_with v c') s.owners d)
    its_places = record {
      as_many = many_kept (image_with v c) (image_with v c') s.owners v.layout (as_large v c c') bytes s.stands.laid j d at ∙ (s.rings j d at).as_many;
      there = λ p low.
          place_kept (image_with v c) (image_with v c') s.owners v.layout (as_large v c c') bytes s.stands.laid j d at p (subst (λ n. p < n) (sym (s.rings j d at).as_many) low) ∙ (s.rings j d at).there p low;
    }

    same_ring : HasSamePlaces (ring_in v c' d) (ring_of (holding (image_with v c') s.owners d))
    same_ring = record {
      size = refl;
      places = sym its_places.as_many;
      blocks = λ p low.
          ap (image_with v c').at (sym ((s.rings j d at).there p low))
          ∙ sym (block_kept (image_with v c) (image_with v c') s.owners v.layout (as_large v c c') bytes s.stands.laid j d at p (subst (λ n. p < n) (sym (s.rings j d at).as_many) low));
    }

    its_readable : IsReadable (ring_of (holding (image_with v c') s.owners d))
    its_readable = (says_the_same (ring_in v c' d) (ring_of (holding (image_with v c') s.owners d)) same_ring).readable (readable j d at)

  super : (image_with v c').at (superblock_place v.size) ≡ (image_with v c).at (superblock_place v.size)
  super = elim (bytes (superblock_place v.size)) [
    | inl e ↦ e
    | inr ring ↦ absurd (below_super ring.1 ring.2 ring.3 ring.4 (sym (super_row (image_with v c) s.owners v.layout s.stands.laid) ∙ ring.6))
  ]

  stands_still : StandsAt v c' places t
  stands_still = record {
    owners = s.owners;
    stands = (places_do_not_matter (image_with v c) (image_with v c') s.owners v.layout t (as_large v c c') bytes its_readable s.stands).0;
    told = s.told;
    superblock = super ∙ s.superblock;
    rings = its_places;
  }

pub rings_do_not : PlacesOfRingsDoNotMatter
rings_do_not v c c' places t s readable near = stands_still v c c' places t s readable near
