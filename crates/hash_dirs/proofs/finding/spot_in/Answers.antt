use Rattle.std.proofs.Common.{◌≡◌, ◌∙◌, ap, drop}
use Rattle.gfs2_layout.specs.Area.{slots_of}
use Rattle.gfs2_layout.specs.Cutting.{slot_from}
use Rattle.gfs2_layout.specs.Structures.{dirent_of}
use Rattle.linear_dirs.proofs.Looked.{entry_from, rest_is}
use Rattle.hash_dirs.proofs.finding.spot_in.Goals as goal

pub returns-clause-spot : goal.returns-clause-spot
returns-clause-spot c =
    let area = c.args.area.now in
    let s = slot_from c.in_ok-at.at area in
    let is = c.in_ok-at.ensures.first.1 in
    let head : c.head-head.result ≡ dirent_of (drop c.in_ok-at.at area) = c.head-head.ensures ∙ ap dirent_of (rest_is c.in_ok-at.at area) in
    record {
      at = c.in_ok-at.ensures.place;
      none_before = c.in_ok-at.ensures.none_before;
      first = is;
      used = (c.records_are_found_by_name.ensures.named c.args.name.now (slots_of area) s is).0;
      entry = ap entry_from head;
    }
