use Rattle.std.proofs.Common.{◌≡◌, ◌-◌, ◌*◌, ap, ◌∙◌}
use Rattle.std.specs.Prelude.{min}
use Rattle.log_layout.specs.Chunks.{further_part}
use Rattle.log_layout.specs.declared.due.Due.TheVariants as variant
use Rattle.journal_scan.proofs.Grown.{grown}
use Rattle.journal_scan.proofs.chunks.push_further.Goals as goal

pub loop-i-preserved : goal.loop-i-preserved
loop-i-preserved c =
    let rest = c.saturating_sub-rest.ensures ∙ ap (λ n. c.args.entries - n) c.numbers_room.ensures in
    let part : c.min.result ≡ further_part c.args.size c.args.entries c.loop-i.i =
    c.min.ensures ∙ ap (min c.further_room-room.result) c.saturating_sub.ensures
    ∙ (λ t. min (c.further_room-room.ensures.value t) (rest t - c.further_room-room.ensures.value t * c.loop-i.i)) in
    grown (λ i. variant.Further (further_part c.args.size c.args.entries i)) c.loop-i.i c.args.due.now.items c.loop-i.due.items c.push_back.new.self.items (variant.Further c.min.result)
    c.loop-i.invariant c.in_ok-push_back.ensures.items (ap variant.Further part)
