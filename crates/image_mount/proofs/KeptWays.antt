-- The blocks on the way to a journal's places, which are kept, and so at no place.
use Rattle.std.proofs.Common.{◌≡◌, ◌≢◌, inl, inr, ℕ, zero, suc, ◌+◌, ◌-◌, ◌*◌, ◌/◌, ◌%◌, ◌<◌, List, [], ◌∷◌, ◌++◌, get_or, Option, None, Some, refl, sym, ap, subst, ◌∙◌, arith}
use Rattle.std.specs.Prelude.{unwrap_or}
use Rattle.std.specs.List.{All}
use Rattle.std.proofs.lemmas.Bool.{cases_eq}
use Rattle.std.proofs.lemmas.List.Elements.{All-push}
use Rattle.dinode_tree.specs.Reading.{IsHeadedDown, IsHeadedWay}
use Rattle.gfs2_layout.specs.Bytes.{number_at, u32_at, u64_at}
use Rattle.gfs2_layout.specs.Headers.{HasHeader}
use Rattle.gfs2_layout.specs.Holding.{Holding}
use Rattle.gfs2_layout.specs.Inode.{dinode_in, header_length, height_in, pointer, span}
use Rattle.gfs2_layout.specs.Structures.{dinode_length, dinode_of}
use Rattle.gfs2_layout.specs.declared.dinode.Dinode.{Dinode}
use Rattle.image_model.specs.Claims.{every}
use Rattle.image_model.specs.Image.{Image}
use Rattle.image_mount.specs.Kept.{Kept, seen_of}
use Rattle.image_mount.specs.Looks.{IsOffDown, IsOffWay}
use Rattle.image_mount.specs.Marked.{IsGrown, IsKept, IsKeptDown, IsKeptWay}
use Rattle.image_mount.specs.Rings.{AreKeptWays}
use Rattle.image_mount.specs.Searching.{IsRead}
use Rattle.image_mount.specs.declared.journals.Ring.{Ring}
use Rattle.image_mount.proofs.Steps.{seen_in}

-- ---- what has a header among the blocks that are kept is kept

no_magic : u32_at 0 [] ≡ 0
unfolding number_at
no_magic = refl

no_header : HasHeader 5 500 [] → ⊥
no_header header = absurd (omega (arith, header.magic_is, no_magic))

header_kept : (o : Option (List ℕ)) → HasHeader 5 500 (unwrap_or o []) → o ≢ None
header_kept None header e = no_header header
header_kept (Some bytes) header e = cc

-- what is kept is as in the image
bytes_kept : (im : Image) (k : Kept) (b : ℕ) → IsRead im k → IsKept k b → unwrap_or ((seen_of k).block_at b) [] ≡ im.at b
bytes_kept im k b read kept = each ((seen_of k).block_at b) refl
  where
    each : (o : Option (List ℕ)) → (seen_of k).block_at b ≡ o → unwrap_or o [] ≡ im.at b
    each None e = absurd (kept e)
    each (Some bytes) e = sym (read.same b bytes e)

module _ (im : Image) (k : Kept) (d : ℕ) (read : IsRead im k) where
  seen : Holding
  seen = seen_in (seen_of k) d

  next_pointer : (start b i level : ℕ) → IsKept k b → u64_at (start + 8 * (i / span k.size level)) (unwrap_or ((seen_of k).block_at b) []) ≡ u64_at (start + 8 * (i / span im.size level)) (im.at b)
  next_pointer start b i level kept =
      ap (λ s. u64_at (start + 8 * (i / span s level)) (unwrap_or ((seen_of k).block_at b) [])) read.size ∙ ap (u64_at (start + 8 * (i / span im.size level))) (bytes_kept im k b read kept)

  kept_down : (level b i : ℕ) → IsHeadedDown (seen_in (seen_of k) d) level b i → IsKeptDown k (every im d) level b i
  kept_down zero b i headed = tt
  kept_down (suc level) b i headed =
      let kept = header_kept ((seen_of k).block_at b) headed.0 in
      let below = kept_down level (u64_at (24 + 8 * (i / span k.size level)) (unwrap_or ((seen_of k).block_at b) [])) (i % span k.size level) headed.1 in (
        kept,
        subst (λ n. IsKeptDown k (every im d) level (u64_at (24 + 8 * (i / span im.size level)) (im.at b)) n) (ap (λ s. i % span s level) read.size)
            (subst (λ n. IsKeptDown k (every im d) level n (i % span k.size level)) (next_pointer 24 b i level kept) below),
      )

  pub kept_way : (i : ℕ) → IsKept k d → IsHeadedWay (seen_in (seen_of k) d) i → IsKeptWay k (every im d) i
  unfolding dinode_in
  kept_way i kept headed =
      let dinode : dinode_of (unwrap_or ((seen_of k).block_at d) []) ≡ dinode_of (im.at d) = ap dinode_of (bytes_kept im k d read kept) in
      let high : (dinode_of (unwrap_or ((seen_of k).block_at d) [])).height - 1 ≡ (dinode_of (im.at d)).height - 1 = ap (λ (x : Dinode). x.height - 1) dinode in
      let level = (dinode_of (unwrap_or ((seen_of k).block_at d) [])).height - 1 in
      let below = kept_down level (u64_at (232 + 8 * (i / span k.size level)) (unwrap_or ((seen_of k).block_at d) [])) (i % span k.size level) headed in
      subst (λ n. IsKeptDown k (every im d) n (u64_at (232 + 8 * (i / span im.size n)) (im.at d)) (i % span im.size n)) high
      (subst (λ n. IsKeptDown k (every im d) level (u64_at (232 + 8 * (i / span im.size level)) (im.at d)) n) (ap (λ s. i % span s level) read.size)
      (subst (λ n. IsKeptDown k (every im d) level n (i % span k.size level)) (next_pointer 232 d i level kept) below))

-- ---- as more is kept

down_stays : (old new : Kept) → IsGrown old new → (h : Holding) (level b i : ℕ) → IsKeptDown old h level b i → IsKeptDown new h level b i
down_stays old new grown h zero b i kept = tt
down_stays old new grown h (suc level) b i kept = (grown.stays b kept.0, down_stays old new grown h level (pointer h header_length b (i / span h.size level)) (i % span h.size level) kept.1)

pub way_stays : (old new : Kept) → IsGrown old new → (h : Holding) (i : ℕ) → IsKeptWay old h i → IsKeptWay new h i
way_stays old new grown h i kept = down_stays old new grown h (height_in h - 1) (pointer h dinode_length h.own (i / span h.size (height_in h - 1))) (i % span h.size (height_in h - 1)) kept

module _ (im : Image) (old new : Kept) (grown : IsGrown old new) where
  pub ways_more : (d n : ℕ) → ((p : ℕ) → p < n → IsKeptWay old (every im d) p) → IsKeptWay new (every im d) n → (p : ℕ) → p < n + 1 → IsKeptWay new (every im d) p
  ways_more d n before here p low = elim (cases_eq p n) [
    | inl same ↦ subst (IsKeptWay new (every im d)) (sym same) here
    | inr other ↦ way_stays old new grown (every im d) p (before p (omega (arith, low, other)))
  ]

  pub rings_ways : (rings later : List Ring) (ring : Ring) (addr : ℕ) → All (λ (r : Ring). AreKeptWays im old r.dinode r.blocks.items) rings → ring.dinode ≡ addr → AreKeptWays im new addr ring.blocks.items → later ≡ rings ++ ring ∷ []
      → All (λ (r : Ring). AreKeptWays im new r.dinode r.blocks.items) later
  rings_ways rings later ring addr before dinode here is =
      subst (All (λ (r : Ring). AreKeptWays im new r.dinode r.blocks.items)) (sym is)
      (All-push (λ (r : Ring). AreKeptWays im new r.dinode r.blocks.items) rings ring
      (λ i e low p within. way_stays old new grown (every im (get_or rings i e).dinode) p (before i e low p within)) (subst (λ a. AreKeptWays im new a ring.blocks.items) (sym dinode) here))

-- ---- what isn't kept is on no such way

off_down : (k : Kept) (b : ℕ) → ¬ (IsKept k b) → (h : Holding) (level c i : ℕ) → IsKeptDown k h level c i → IsOffDown b h level c i
off_down k b lacks h zero c i kept = tt
off_down k b lacks h (suc level) c i kept = ((λ e. lacks (subst (IsKept k) e kept.0)), off_down k b lacks h level (pointer h header_length c (i / span h.size level)) (i % span h.size level) kept.1)

pub off_way : (k : Kept) (b : ℕ) → ¬ (IsKept k b) → (h : Holding) (i : ℕ) → IsKeptWay k h i → IsOffWay b h i
off_way k b lacks h i kept = off_down k b lacks h (height_in h - 1) (pointer h dinode_length h.own (i / span h.size (height_in h - 1))) (i % span h.size (height_in h - 1)) kept
