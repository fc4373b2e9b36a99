use Rattle.std.proofs.Common.{◌+◌, Global, Vec, get_or, sym, ap, subst, ◌∙◌, arith}
use Rattle.image_mount.specs.Sifting.{AreSifted}
use Rattle.image_mount.specs.declared.listing.Named.{Named}
use Rattle.image_mount.proofs.Adding.{no_record, same_standing}
use Rattle.image_mount.proofs.Sifts.{sifted_all, sifted_kept, sifted_other, sifted_start}
use Rattle.image_mount.proofs.sifting.sift.Goals as goal
use Rattle.image_mount.proofs.sifting.sift.Goals.{in-Some+in_ok-push-in-Some, in-None}

pub loop-record-init : goal.loop-record-init
loop-record-init c = record { sifted = subst (λ ks. AreSifted c.args.names c.args.records.now 0 ks 0) (sym c.new-kept.ensures.items) (sifted_start c.args.names c.args.records.now); low = omega arith }

pub loop-record-preserved : goal.loop-record-preserved
loop-record-preserved c =
    let records = c.args.records.now in
    let k = c.loop-record.record-index in
    let inv = c.loop-record.invariant in
    let low = c.loop-record-test.true in
    record {
      sifted = elim c.match-known_name.branch [
        | in-Some+in_ok-push-in-Some w ↦
            subst (λ o. AreSifted c.args.names records (k + 1) c.match-known_name.kept.items o) (sym w.others-is)
            (sifted_kept c.args.names records c.loop-record.kept.items k c.loop-record.others no_record inv.sifted low c.match-known_name.kept.items _ (ap (λ (v : Vec Named Global). v.items) w.kept-is ∙ w.in_ok-push-in-Some.ensures.items)
            (same_standing (get_or records k no_record) w.in-Some.name.now w.in-Some.ensures.same))
        | in-None w ↦
            subst (λ o. AreSifted c.args.names records (k + 1) c.match-known_name.kept.items o) (sym w.others-is)
            (subst (λ (v : Vec Named Global). AreSifted c.args.names records (k + 1) v.items (c.loop-record.others + 1)) (sym w.kept-is)
            (sifted_other c.args.names records c.loop-record.kept.items k c.loop-record.others no_record inv.sifted low w.in-None.ensures.none))
      ];
      low = omega (arith, c.loop-record-test.true);
    }

pub returns-clause-sifted : goal.returns-clause-sifted
returns-clause-sifted c = sifted_all c.args.names c.args.records.now c.loop-record.kept.items c.loop-record.record-index c.loop-record.others (omega (arith, c.loop-record-test.false)) c.loop-record.invariant.low c.loop-record.invariant.sifted
