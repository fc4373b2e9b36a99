-- The groups of a mounted image, as a view has them.
use Rattle.std.proofs.Common.{ℕ, ◌+◌, ◌%◌, ◌≤◌, List, [], ◌∷◌, map, sym, ap, ◌∙◌, subst, arith}
use Rattle.std.specs.List.{AllByRecursion}
use Rattle.std.proofs.lemmas.List.{length-map}
use Rattle.std.proofs.Math.Nat.{mul-mod_left}
use Rattle.gfs2_layout.specs.declared.rindex.Rindex.{Rindex}
use Rattle.glock_names.specs.Views.{AreGroups, IsFit, Rise, end_of, group_of_entry}
use Rattle.profile_limits.specs.Limits.{most_blocks}
use Rattle.image_model.specs.Groups.{GroupFits}
use Rattle.image_model.specs.Image.{Image}
use Rattle.image_model.specs.Listing.{RiseFrom}
use Rattle.image_model.proofs.Listing.{rising}
use Rattle.image_mount.specs.Mounted.{MountedValue, IsMounted}

module _ (im : Image) (few : im.count ≤ most_blocks) where
  fit : (g : Rindex) → GroupFits im g → IsFit im.size (group_of_entry g)
  fit g fits = record {
    above = fits.above;
    some = fits.some;
    first = fits.first;
    whole = ap (λ n. n % 4) (sym fits.whole) ∙ mul-mod_left g.bitbytes 4;
    bits = fits.bits;
  }

  rise : (least : ℕ) (gs : List Rindex) → RiseFrom im least gs → Rise im.size least (map group_of_entry gs)
  rise least [] so = tt
  rise least (g ∷ gs) so = (fit g so.0, so.1, rise (g.data0 + g.data_blocks) gs so.2)

  ends : (most least : ℕ) (gs : List Rindex) → im.count ≤ most → RiseFrom im least gs → AllByRecursion (λ g. end_of g ≤ most) (map group_of_entry gs)
  ends most least [] high so = tt
  ends most least (g ∷ gs) high so = (omega (arith, so.0.inside, high), ends most (g.data0 + g.data_blocks) gs high so.2)

pub as_seen : (im : Image) (m : MountedValue) → IsMounted im m → AreGroups im.size m.groups × AllByRecursion (λ g. end_of g ≤ im.count) m.groups
as_seen im m mounted =
    let l = mounted.layout in
    let has = mounted.found.groups in
    let few = mounted.profile.device in
    let so = rising im 0 l.groups has.fit.each has.fit.rise (λ g at. omega arith) in (
      subst (AreGroups im.size) (sym mounted.groups) (record {
        few = omega (arith, has.few, length-map l.groups group_of_entry);
        rise = rise im few 0 l.groups so;
        end = ends im few most_blocks 0 l.groups few so;
      }),
      subst (AllByRecursion (λ g. end_of g ≤ im.count)) (sym mounted.groups) (ends im few im.count 0 l.groups (omega arith) so),
    )
