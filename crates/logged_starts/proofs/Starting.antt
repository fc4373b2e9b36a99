-- A node may begin on a mounted image.
use Rattle.std.proofs.Common.{◌≤◌, refl, sym, subst, arith, length}
use Rattle.std.proofs.lemmas.List.{length-map}
use Rattle.std.specs.List.{AllByRecursion}
use Rattle.glock_names.specs.Views.{end_of, group_of_entry}
use Rattle.image_mount.specs.Mounted.{GroupsAreAsSeen}
use Rattle.image_model.specs.Image.{image_of}
use Rattle.logged_starts.specs.Laws.{MountedMayBegin}
use Rattle.mounted_views.proofs.Journals.{nothing_kept}
use Rattle.mounted_views.specs.Laws.{MountedJournalsArePlaced}

pub mounted_may_begin : GroupsAreAsSeen → MountedJournalsArePlaced → MountedMayBegin
mounted_may_begin groups placed disk now m own frames time idle is first low size count idle_now =
    let its = placed disk m own frames time idle is first in
    let few = its.1 in
    record {
      view_size = refl;
      size = refl;
      widths = record {
        jid = omega arith;
        places = λ p inside. let b = its.0.inside p inside in omega (arith, b, few);
        jinode = let b = its.0.dinode in omega (arith, b, few);
        time = low;
      };
      places = λ p inside. let b = its.0.inside p inside in omega (arith, b, count);
      apart = its.0.apart;
      some = many;
      groups = subst (λ n. AllByRecursion (λ g. end_of g ≤ n) m.groups) (sym count) (groups (image_of disk) m is).1;
      kept = λ b bytes has. absurd (nothing_kept b bytes has);
      unfenced = idle_now.none_fenced 1;
      none = idle_now.none_in_flight 1;
    }
  where
    many : 1 ≤ length m.groups
    many =
        let listed = is.found.groups.some in
        let same = length-map is.layout.groups group_of_entry in
        subst (λ gs. 1 ≤ length gs) (sym is.groups) (omega (arith, listed, same))
