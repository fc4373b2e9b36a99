-- Of images with the same blocks of the system files a replay may change the same blocks.
use Rattle.std.proofs.Common.{◌<◌, ℕ, sym, subst, ◌∙◌}
use Rattle.image_model.specs.Image.{Image}
use Rattle.image_model.specs.Owners.{Owners}
use Rattle.image_model.specs.Replays.{MayChange}
use Rattle.image_model.specs.Stands.{IsLaid, Layout}
use Rattle.image_model.proofs.Facts.{group_listed, listed_group}
use Rattle.lone_logs.proofs.SameFiles.{HasSameFiles, same_files}
use Rattle.call_blocks.specs.Replaying.{SameMayChange}

module _ (im other : Image) (o : Owners) (l : Layout) (laid : IsLaid im o l) (b : ℕ) where
  there : HasSameFiles im l other → MayChange im l b → MayChange other l b
  there same may = record {
    there = subst (λ n. b < n) (sym same.count) may.there;
    group = (may.group.0, (same.groups may.group.0).1 (group_listed im o l laid may.group.0 may.group.1), may.group.2);
    no_place = λ j d p at low e.
        let inside = subst (λ n. p < n) (same.many j d at) low in
        may.no_place j d p at inside (sym (same.place j d p at inside) ∙ e);
    apart = λ is. may.apart ((same.system b).0 is);
  }

  back : HasSameFiles im l other → MayChange other l b → MayChange im l b
  back same may = record {
    there = subst (λ n. b < n) same.count may.there;
    group = (may.group.0, listed_group im o l laid may.group.0 ((same.groups may.group.0).0 may.group.1), may.group.2);
    no_place = λ j d p at low e. may.no_place j d p at (subst (λ n. p < n) (sym (same.many j d at)) low) (same.place j d p at low ∙ e);
    apart = λ is. may.apart ((same.system b).1 is);
  }

pub same_may_change : SameMayChange
same_may_change im other o l laid same b = (there im other o l laid b (same_files im o l laid other same), back im other o l laid b (same_files im o l laid other same))
