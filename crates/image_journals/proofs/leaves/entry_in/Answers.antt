use Rattle.std.proofs.Common.{◌≡◌, ◌∙◌, Some, Option, ap, sym, drop}
use Rattle.std.specs.Option.{option_map}
use Rattle.gfs2_layout.specs.Area.{Slot}
use Rattle.gfs2_layout.specs.Records.{record_of}
use Rattle.gfs2_layout.specs.Structures.{dirent_of}
use Rattle.gfs2_layout.specs.declared.dirent.Dirent.{Dirent}
use Rattle.glock_names.specs.declared.steps.Entry.{Entry}
use Rattle.linear_dirs.specs.Shown.{entry_of}
use Rattle.linear_dirs.proofs.Looked.{entry_from, rest_is}
use Rattle.image_journals.proofs.leaves.entry_in.Goals as goal

-- where the record that was found leads
abbrev leads : Option Slot → Option Entry
leads slot = option_map entry_of (option_map record_of slot)

pub returns-in_err-at : goal.returns-in_err-at
returns-in_err-at c = c.from_residual.ensures ∙ ap leads (sym c.in_err-at.ensures.first) ∙ ap (option_map entry_of) (c.records_are_found_by_name.ensures.first c.args.area.now c.args.name.now)

pub returns : goal.returns
returns c =
    let same : c.head-head.result ≡ dirent_of (drop c.in_ok-at.at c.args.area.now) = c.head-head.ensures ∙ ap dirent_of (rest_is c.in_ok-at.at c.args.area.now) in
    ap (λ (d : Dirent). Some (entry_from d)) same ∙ ap leads (sym c.in_ok-at.ensures.first.1) ∙ ap (option_map entry_of) (c.records_are_found_by_name.ensures.first c.args.area.now c.args.name.now)
