use Rattle.std.proofs.Common.{◌≡◌, ◌≢◌, ◌+◌, ◌++◌, List, [], length, refl, rules, sym, ap, ◌∙◌, subst, subst₂, arith, suc}
use Rattle.std.proofs.lemmas.List.{append_assoc, append-nil, length-append}
use Rattle.drafts.specs.declared.change.Written.{Written}
use Rattle.shared_disk.specs.Disk.{Operation}
use Rattle.disk_turns.specs.Turns.{AreBrought, moment, none, turn, turn_of}
use Rattle.disk_turns.specs.Writing.{AreOfDisk, RiseFrom}
use Rattle.disk_turns.specs.Crashes.{IsBefore, left_after}
use Rattle.disk_turns.proofs.Crashing.{at_start, further}
use Rattle.disk_turns.proofs.Gaining.{gains_join, gains_none}
use Rattle.disk_turns.proofs.Rising.{front}
use Rattle.disk_turns.proofs.Stopping.{front_none, full_turn, has_some, last_turn, left_of, nothing, one_more, rest_long, stopped_behind}
use Rattle.disk_turns.proofs.Flying.{of_front, of_back, written_more}
use Rattle.disk_turns.proofs.turns.write_in_turns.Goals as goal

pub write_turn-requires-clause-of_disk : goal.write_turn-requires-clause-of_disk
write_turn-requires-clause-of_disk g c =
    let d = g.D.SharedDisk.state c.args.disk.now in
    let so = c.loop-rest.invariant in
    let behind = of_back d so.done c.loop-rest.rest.now (subst (AreOfDisk d) so.split c.requires.of_disk) in
    of_front d (g.D.SharedDisk.state c.loop-rest.disk) c.first_turn.result.0.now c.first_turn.result.1.now so.written.size so.written.count (subst (AreOfDisk d) c.first_turn.ensures.parts behind)

pub loop-rest-init : goal.loop-rest-init
loop-rest-init g c = record {
  done = [];
  split = refl;
  written = record { size = refl; count = refl; tells = refl; fenced = refl; idle = c.requires.idle.none_in_flight; blocks_are = λ tells b. refl };
  operations = [];
  brought = none;
  going = λ left more ops are. are;
  turns = 0;
  whole = λ left. refl;
  gains = gains_none (g.D.SharedDisk.list c.args.disk.now);
  none = λ is. (refl, refl);
  before = at_start c.args.armed c.requires.awaits;
  later = λ i. omega arith;
}

pub loop-rest-preserved : goal.loop-rest-preserved
loop-rest-preserved g c =
    let d = g.D.SharedDisk.state c.args.disk.now in
    let so = c.loop-rest.invariant in
    let node = c.args.node in
    let some = c.first_turn.result.0.now in
    let later = c.first_turn.result.1.now in
    let next = c.first_turn.ensures.turn in
    let behind = subst (IsBefore (length some)) (c.left_after.ensures ∙ ap (λ n. left_after n c.args.armed) (rest_long c.args.blocks.now so.done c.loop-rest.rest.now so.split)) in
    let whole : c.args.blocks.now ≡ (so.done ++ some) ++ later = so.split ∙ ap (λ (r : List Written). so.done ++ r) c.first_turn.ensures.parts ∙ sym (append_assoc so.done some later) in
    let left : c.loop-rest.rest.now ≢ [] = left_of c.loop-rest.rest.now some later c.first_turn.ensures.parts next in
    record {
      done = so.done ++ some;
      split = whole;
      written = written_more d (g.D.SharedDisk.state c.loop-rest.disk) (g.D.SharedDisk.state c.write_turn.new.disk) so.done some
          (front 0 (so.done ++ some) later (subst (RiseFrom 0) whole c.requires.of_disk.rise)) so.written c.in-Ok.ensures.written;
      operations = so.operations ++ turn_of node some;
      brought = subst₂ (AreBrought node) (ap (λ (r : List Written). so.done ++ r) (append-nil some)) (ap (λ (r : List Operation). so.operations ++ r) (append-nil (turn_of node some)))
          (so.going left (some ++ []) (turn_of node some ++ []) (turn some [] [] (last_turn some later next) none));
      going = λ more_left more ops are. subst₂ (AreBrought node) (sym (append_assoc so.done some more)) (sym (append_assoc so.operations (turn_of node some) ops))
          (so.going left (some ++ more) (turn_of node some ++ ops) (turn some more ops (full_turn some later more next more_left) are));
      turns = suc so.turns;
      whole = λ more_left. one_more so.done some so.turns (so.whole left) (next.whole more_left);
      gains = gains_join (g.D.SharedDisk.list c.args.disk.now) (g.D.SharedDisk.list c.loop-rest.disk) (g.D.SharedDisk.list c.write_turn.new.disk) so.operations _ so.gains c.in-Ok.ensures.gains;
      none = λ is. absurd (has_some so.done some next.not_none is);
      before = subst (λ n. IsBefore n c.args.armed) (sym (length-append so.done some)) (further c.args.armed (length so.done) (length some) so.before (behind c.in-Ok.ensures.before));
      later = λ i. let before = so.later i in let more = c.in-Ok.ensures.later i in omega (arith, before, more);
    }

pub returns-in-Err-clause-stopped : goal.returns-in-Err-clause-stopped
returns-in-Err-clause-stopped g c =
    let so = c.loop-rest.invariant in
    let some = c.first_turn.result.0.now in
    let later = c.first_turn.result.1.now in
    let next = c.first_turn.ensures.turn in
    let left : c.loop-rest.rest.now ≢ [] = left_of c.loop-rest.rest.now some later c.first_turn.ensures.parts next in
    stopped_behind c.args.node (moment (g.D.SharedDisk.state c.args.disk.now) (g.D.SharedDisk.list c.args.disk.now)) (moment (g.D.SharedDisk.state c.loop-rest.disk) (g.D.SharedDisk.list c.loop-rest.disk))
    (moment (g.D.SharedDisk.state c.write_turn.new.disk) (g.D.SharedDisk.list c.write_turn.new.disk)) c.args.blocks.now so.done some later
    (so.split ∙ ap (λ (r : List Written). so.done ++ r) c.first_turn.ensures.parts) so.turns (so.whole left) next
    (record { written = so.written; operations = so.operations; brought = so.brought; gains = so.gains; none = λ is i. moment ((so.none is).0 i) ((so.none is).1 i) })
    c.in-Err.fault _ (rest_long c.args.blocks.now so.done c.loop-rest.rest.now so.split) c.in-Err.ensures.stopped

pub returns-clause-none : goal.returns-clause-none
returns-clause-none g c empty = c.loop-rest.invariant.none (front_none c.loop-rest.invariant.done c.loop-rest.rest.now (sym c.loop-rest.invariant.split ∙ empty))

pub returns-clause-brought : goal.returns-clause-brought
returns-clause-brought g c =
    let so = c.loop-rest.invariant in
    let empty : c.loop-rest.rest.now ≡ [] = nothing c.loop-rest.rest.now (search rules) in (
      so.operations,
      subst (λ (ws : List Written). AreBrought c.args.node ws so.operations) (sym (so.split ∙ ap (λ (r : List Written). so.done ++ r) empty ∙ append-nil so.done)) so.brought,
      so.gains,
    )
