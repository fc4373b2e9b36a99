use Rattle.std.proofs.Common.{◌≡◌, ◌<◌, ◌∙◌, ℕ, List, length, sym, ap, subst}
use Rattle.std.specs.Prelude.{slice_get}
use Rattle.std.proofs.lemmas.Iterator.Consumers.{YieldsList-end, YieldsList-so_far, YieldsList-turn}
use Rattle.std.proofs.lemmas.Iterator.Adapters.{YieldsList-from_vec}
use Rattle.std.proofs.lemmas.List.{map-id}
use Rattle.std.proofs.lemmas.Option.{slice_get_read}
use Rattle.image_model.specs.Stands.{IsJournalAt}
use Rattle.image_mount.specs.declared.journals.Ring.{Ring}
use Rattle.image_mount.specs.Rings.{AreJournals}
use Rattle.image_mount.proofs.Heads.{heads_before, journals_more}
use Rattle.image_mount.proofs.Marks.{shows_now}
use Rattle.image_mount.proofs.Moved.{ring_of_turn, ring_sized}
use Rattle.image_mount.proofs.Names.{mapped_at}
use Rattle.image_mount.proofs.Stops.{refused}
use Rattle.image_mount.proofs.Working.{refilled}
use Rattle.shared_disk.proofs.ReadLaws.{reads_on}
use Rattle.image_mount.proofs.journals.find_journals.Goals as goal

pub returns-in_err-head-clause-refused : goal.returns-in_err-head-clause-refused
returns-in_err-head-clause-refused g c l im shows names same rings =
    let inv = c.loop-ring.invariant in
    let ring = c.in-Some.ring in
    let gives = c.into_iter-ring-iterator.ensures.into_iter_gives in
    let turn = YieldsList-turn (YieldsList-from_vec c.args.rings.items gives.0 (gives.1 ∙ c.args.rings.ok.0)) c.loop-ring.yielded _ c.loop-ring.yielded_by c.next.result c.next.new.self ring c.in-Some.is c.next.ensures.steps in
    let k = length c.loop-ring.yielded in
    let there = slice_get_read c.args.rings.items _ k ring (sym c.args.rings.ok.0 ∙ c.args.rings.ok.0) turn.0 turn.1 in
    let at : IsJournalAt l k ring.dinode = ap (λ ds. slice_get ds k) (sym same) ∙ mapped_at (λ (r : Ring). r.dinode) c.args.rings.items k ring there in
    let of = ring_of_turn im c.args.rings.items k ring turn.0 turn.1 rings in
    let taken = YieldsList-so_far (YieldsList-from_vec c.args.rings.items gives.0 (gives.1 ∙ c.args.rings.ok.0)) c.loop-ring.yielded _ c.loop-ring.yielded_by in
    let sized = λ (i d : ℕ) (there : IsJournalAt l i d). ring_sized im c.args.rings.items i d rings (ap (λ ds. slice_get ds i) same ∙ there) in
    let before = λ (i d : ℕ) (low : i < k) (there : IsJournalAt l i d).
    heads_before im c.loop-ring.yielded c.args.rings.items c.loop-ring.journals.items k i d (inv.found im shows rings) (sym (map-id c.loop-ring.yielded) ∙ taken) low (ap (λ ds. slice_get ds i) same ∙ there) in
    refused im _ _ c.from_residual-in_err-head.ensures.1
    (c.in_err-head.ensures.refused l k im (shows_now _ _ im inv.reads.same shows) names sized before at of)

pub loop-ring-preserved : goal.loop-ring-preserved
loop-ring-preserved g c =
    let inv = c.loop-ring.invariant in
    let ring = c.in-Some.ring in
    let gives = c.into_iter-ring-iterator.ensures.into_iter_gives in
    let turn = YieldsList-turn (YieldsList-from_vec c.args.rings.items gives.0 (gives.1 ∙ c.args.rings.ok.0)) c.loop-ring.yielded _ c.loop-ring.yielded_by c.next.result c.next.new.self ring c.in-Some.is c.next.ensures.steps in
    let read = c.in_ok-head.ensures in
    let filled : length c.find_head.new.bytes ≡ length c.loop-ring.bytes.items = c.find_head.auto.bytes ∙ ap length c.deref_mut.ensures.value in
    record {
      size = ap length (refilled c.find_head.new.bytes c.loop-ring.bytes.items c.loop-ring.bytes.len c.loop-ring.bytes.ok.0 filled) ∙ filled ∙ inv.size;
      found = λ im shows rings.
          let of = ring_of_turn im c.args.rings.items (length c.loop-ring.yielded) ring turn.0 turn.1 rings in
          journals_more im c.loop-ring.yielded ring c.in_ok-head.head c.loop-ring.journals.items _ (inv.found im shows rings) of (read.found im (shows_now _ _ im inv.reads.same shows) of) c.in_ok-push.ensures.items;
      reads = reads_on inv.reads read.reads;
    }

pub returns-clause-found : goal.returns-clause-found
returns-clause-found g c im shows rings =
    let gives = c.into_iter-ring-iterator.ensures.into_iter_gives in
    let end = YieldsList-end (YieldsList-from_vec c.args.rings.items gives.0 (gives.1 ∙ c.args.rings.ok.0)) c.loop-ring.yielded _ c.loop-ring.yielded_by c.next.result c.next.new.self c.in-None.is c.next.ensures.steps in
    let all : c.loop-ring.yielded ≡ c.args.rings.items = sym (map-id c.loop-ring.yielded) ∙ end.0 in
    subst (λ (rs : List Ring). AreJournals im rs c.loop-ring.journals.items) all (c.loop-ring.invariant.found im shows rings)
