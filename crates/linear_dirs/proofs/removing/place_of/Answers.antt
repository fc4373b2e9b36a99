use Rattle.std.proofs.Common.{◌≡◌, ◌∙◌, ap, sym, drop}
use Rattle.std.specs.Option.{option_map}
use Rattle.gfs2_layout.specs.Area.{slots_of}
use Rattle.gfs2_layout.specs.Cutting.{slot_from}
use Rattle.gfs2_layout.specs.Records.{record_of}
use Rattle.gfs2_layout.specs.Structures.{dirent_of}
use Rattle.gfs2_layout.specs.declared.dirent.Dirent.{Dirent}
use Rattle.linear_dirs.proofs.Looked.{rest_is}
use Rattle.linear_dirs.proofs.removing.place_of.Goals as goal

pub returns-clause-place : goal.returns-clause-place
returns-clause-place c =
    let area = c.args.area.now in
    let name = c.args.name.now in
    let s = slot_from c.in_ok-at.at area in
    let is = c.in_ok-at.ensures.first.1 in
    let named = c.records_are_found_by_name.ensures.named name (slots_of area) s is in
    let head : c.head-head.result ≡ dirent_of (drop c.in_ok-at.at area) = c.head-head.ensures ∙ ap dirent_of (rest_is c.in_ok-at.at area) in
    record {
      at = c.in_ok-at.ensures.place;
      none_before = c.in_ok-at.ensures.none_before;
      first = is;
      used = named.0;
      named = sym (c.records_are_found_by_name.ensures.first area name) ∙ ap (option_map record_of) is;
      links = c.links_of.ensures.value (record_of s) named.1 (ap (λ (d : Dirent). d.kind) (sym head));
    }
