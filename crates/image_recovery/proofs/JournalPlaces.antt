-- The places of a mounted image's journals among their files' blocks of content.
use Rattle.std.proofs.Common.{◌≡◌, ℕ, zero, suc, ◌+◌, ◌/◌, ◌≤◌, ◌<◌, refl, arith}
use Rattle.std.proofs.lemmas.Nat.{div_below, le-div}
use Rattle.std.proofs.Math.Nat.{div-mul-le_self, mul-le-mul_left}
use Rattle.gfs2_layout.specs.Inode.{content_count, dinode_in, height_in, unit}
use Rattle.gfs2_layout.specs.Structures.{dinode_length}
use Rattle.image_model.specs.Claims.{every}
use Rattle.image_model.specs.Image.{Image}
use Rattle.image_model.specs.Stands.{IsJournalAt}
use Rattle.image_model.proofs.Lengths.{whole_pieces}
use Rattle.image_mount.specs.Mounted.{IsMounted, MountedValue}
use Rattle.image_mount.proofs.Places.{unit_bounds}
use Rattle.log_layout.specs.Journal.{ring_of}

fewer : (n size unit : ℕ) → 0 < unit → unit ≤ size → n / size ≤ n / unit
fewer n size unit some low = le-div (n / size) n unit some (omega (arith, mul-le-mul_left (n / size) low, div-mul-le_self n size))

module _ (im : Image) (m : MountedValue) (is : IsMounted im m) (large : 512 ≤ im.size) (j d : ℕ) (at : IsJournalAt is.layout j d) (p : ℕ) (low : p < (ring_of (every im d)).places) where
  -- they are before the file's end
  pub place_within : p < content_count (every im d)
  place_within =
      let bounds = unit_bounds im d large in
      let few = fewer (dinode_in (every im d)).size im.size (unit (every im d)) bounds.0 bounds.1 in
      let all = whole_pieces (dinode_in (every im d)).size (unit (every im d)) bounds.0 in
      omega (arith, low, few, all)

  -- and its content is below its dinode
  pub place_high : (level : ℕ) × (height_in (every im d) ≡ suc level)
  place_high = each (height_in (every im d)) refl
    where
      each : (n : ℕ) → height_in (every im d) ≡ n → (level : ℕ) × (height_in (every im d) ≡ suc level)
      each (suc level) e = (level, e)
      each zero e =
          let stuffed : dinode_length + (dinode_in (every im d)).size ≤ im.size = (is.looked.journals j d at).dinode.fits.stuffed e in
          let none : (dinode_in (every im d)).size / im.size < 1 = div_below (dinode_in (every im d)).size im.size 1 (omega (arith, large)) (omega (arith, stuffed)) in
          absurd (omega (arith, low, none))
