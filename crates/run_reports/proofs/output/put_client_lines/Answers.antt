use Rattle.std.proofs.Common.{◌≡◌, ℕ, List, [], ◌++◌, drop, subst, ap, ◌∙◌}
use Rattle.std.specs.Prelude.{if◌then◌else◌}
use Rattle.std.specs.List.{flat_map}
use Rattle.script_lang.specs.Script.{ScriptValue, calls_by}
use Rattle.script_lang.specs.declared.script.Client.{Client}
use Rattle.run_reports.specs.Out.{answered_lines, answers, down_line}
use Rattle.run_reports.specs.Streams.{Passes}
use Rattle.run_reports.proofs.Passing.{cut_short, then_passes_on}
use Rattle.run_reports.proofs.output.put_client_lines.Goals as goal

pub returns-in-Ok-clause-bytes : goal.returns-in-Ok-clause-bytes
returns-in-Ok-clause-bytes g c =
    let clients : c.deref.result.now ≡ c.args.script.now.clients = c.deref.ensures.value ∙ ap (λ (s : ScriptValue). s.clients) c.script.view_is in
    let answered = answered_lines c.args.script.now.clients c.args.place c.args.items.now in
    let down = if c.args.tells then flat_map (down_line c.args.client.now.name) (drop (answers c.args.script.now c.args.items.now c.args.place) (calls_by c.args.place c.args.script.now.lines)) else [] in
    let here = subst (λ (cs : List Client). Passes (g.T.Sink.contents c.args.sink.now) (g.T.Sink.contents c.put_answered_lines.new.sink) c.args.held.now.items c.put_answered_lines.new.held.items (answered_lines cs c.args.place c.args.items.now)) clients c.in-Ok.ensures.bytes in
    then_passes_on _ _ _ c.args.held.now.items c.put_answered_lines.new.held.items c.put_down_lines.new.held.items answered down c.put_down_lines.result here c.put_down_lines.ensures.bytes

pub returns-in-Err-clause-bytes : goal.returns-in-Err-clause-bytes
returns-in-Err-clause-bytes g c =
    let clients : c.deref.result.now ≡ c.args.script.now.clients = c.deref.ensures.value ∙ ap (λ (s : ScriptValue). s.clients) c.script.view_is in
    let answered = answered_lines c.args.script.now.clients c.args.place c.args.items.now in
    let down = if c.args.tells then flat_map (down_line c.args.client.now.name) (drop (answers c.args.script.now c.args.items.now c.args.place) (calls_by c.args.place c.args.script.now.lines)) else [] in
    let here = subst (λ (cs : List Client). (rest : List ℕ) × Passes (g.T.Sink.contents c.args.sink.now) (g.T.Sink.contents c.put_answered_lines.new.sink) c.args.held.now.items rest (answered_lines cs c.args.place c.args.items.now)) clients c.in-Err.ensures.bytes in
    (here.0 ++ down, cut_short _ _ c.args.held.now.items here.0 answered down here.1)
