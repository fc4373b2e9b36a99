use Rattle.std.proofs.Common.{◌≡◌, [], ◌+◌, ◌-◌, length, take, drop, sym, subst, ap, ◌∙◌, append-nil, arith, length-drop, length-take}
use Rattle.std.specs.List.{AllByRecursion}
use Rattle.script_lang.specs.Script.{ScriptValue}
use Rattle.script_lang.specs.declared.script.Client.{Client}
use Rattle.run_reports.specs.Out.{all_lines}
use Rattle.run_reports.proofs.Passing.{only_held, step_more, step_cut}
use Rattle.run_reports.proofs.ClientLines.{lines_said, next_client, own_rest}
use Rattle.run_reports.proofs.output.put_all_lines.Goals as goal

pub loop-rest-init : goal.loop-rest-init
loop-rest-init g c =
    let clients : c.as_slice-rest.result.now ≡ c.args.script.now.clients = c.as_slice-rest.ensures.value ∙ ap (λ (s : ScriptValue). s.clients) c.script.view_is in
    record {
      passed = (
        [],
        ap (all_lines c.args.script.now c.args.items.now c.args.told.now 0) (sym clients),
        only_held (g.T.Sink.contents c.args.sink.now) c.args.held.now.items c.args.held.now.items [] (sym (append-nil c.args.held.now.items)),
      );
      own = subst (AllByRecursion (λ (c' : Client). c'.node ≡ 1)) (sym clients) c.requires.one.clients;
      count = omega (arith, ap length clients);
      later = omega arith;
    }

pub loop-rest-preserved : goal.loop-rest-preserved
loop-rest-preserved g c =
    let (done, split, passed) = c.loop-rest.invariant.passed in
    let all = all_lines c.args.script.now c.args.items.now c.args.told.now 0 c.args.script.now.clients in
    let line = lines_said c.args.script.now c.args.items.now c.tells_down-tells.result c.loop-rest.place c.client-item.result in
    let rest = all_lines c.args.script.now c.args.items.now c.args.told.now (c.loop-rest.place + 1) (take (length c.loop-rest.rest.now - 1) (drop 1 c.loop-rest.rest.now)) in
    let parts = next_client c.args.script.now c.args.items.now c.args.told.now c.tells_down-tells.result c.loop-rest.place c.loop-rest.rest.now c.client-item.result all done c.requires.one c.loop-rest.invariant.own c.tells_down-tells.ensures
    c.in-len1-up.len_at_least c.client-item.is split in
    record {
      passed = step_more _ _ _ c.args.held.now.items c.loop-rest.held.items c.put_client_lines.new.held.items done line rest all parts passed c.in-Ok.ensures.bytes;
      own = own_rest c.loop-rest.rest.now c.loop-rest.invariant.own c.in-len1-up.len_at_least;
      count = omega (arith, c.loop-rest.invariant.count, c.in-len1-up.len_at_least, length-take (length c.loop-rest.rest.now - 1) (drop 1 c.loop-rest.rest.now), length-drop 1 c.loop-rest.rest.now);
      later = omega (arith, c.in-Ok.ensures.cause.later, c.loop-rest.invariant.later);
    }

pub returns-in-Err-clause-bytes : goal.returns-in-Err-clause-bytes
returns-in-Err-clause-bytes g c =
    let (done, split, passed) = c.loop-rest.invariant.passed in
    let all = all_lines c.args.script.now c.args.items.now c.args.told.now 0 c.args.script.now.clients in
    let line = lines_said c.args.script.now c.args.items.now c.tells_down-tells.result c.loop-rest.place c.client-item.result in
    let rest = all_lines c.args.script.now c.args.items.now c.args.told.now (c.loop-rest.place + 1) (take (length c.loop-rest.rest.now - 1) (drop 1 c.loop-rest.rest.now)) in
    let parts = next_client c.args.script.now c.args.items.now c.args.told.now c.tells_down-tells.result c.loop-rest.place c.loop-rest.rest.now c.client-item.result all done c.requires.one c.loop-rest.invariant.own c.tells_down-tells.ensures
    c.in-len1-up.len_at_least c.client-item.is split in
    step_cut _ _ _ c.args.held.now.items c.loop-rest.held.items done line rest all parts passed c.in-Err.ensures.bytes
