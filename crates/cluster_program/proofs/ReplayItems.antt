-- The items of replays that node 1 makes, and the lines that they give.
use Rattle.std.proofs.Common.{◌≡◌, ℕ, ◌+◌, ◌-◌, List, [], ◌∷◌, ◌++◌, length, Option, None, Some, refl, sym, ap, ◌∙◌, arith, append-nil, append_assoc, length-append}
use Rattle.std.specs.List.{AllByRecursion}
use Rattle.drafts.specs.declared.change.Written.{Written}
use Rattle.shared_disk.specs.Disk.{Operation}
use Rattle.trace_text.specs.declared.item.TraceItem.{TraceItem}
use Rattle.trace_text.specs.declared.item.TraceItem.TheVariants as trace
use Rattle.disk_turns.specs.Turns.{AreBrought, Moment, none, turn, turn_of, writes_of}
use Rattle.image_mount.specs.Mounted.{Journal}
use Rattle.image_recovery.specs.Recoveries.{AreReplays}
use Rattle.journal_replays.specs.Items.{items_of}
use Rattle.journal_replays.specs.Replays.{IsReplayWith}
use Rattle.log_layout.specs.declared.log_header.LogHeader.{LogHeader}
use Rattle.peer_replay.specs.declared.planned.Plan.{Plan}
use Rattle.kept_profiles.specs.Telling.{IsNoRecovery, TellsItsReplays}
use Rattle.kept_profiles.specs.WholeRunsStarts.{joined}
use Rattle.run_reports.specs.Out.{replayed_line, replayed_lines, replayed_lines_behind}
use Rattle.cluster_program.specs.Runs.{line_of_plan, lines_of_plans}

turn_items : (blocks : List Written) (more : List Operation) → items_of (turn_of 1 blocks ++ more) ≡ items_of (writes_of 1 blocks) ++ (trace.Barrier 1 ∷ items_of more)
turn_items [] more = refl
turn_items (w ∷ ws) more = ap (λ (is : List TraceItem). trace.WriteReplay 1 w.block ∷ is) (turn_items ws more)

-- ---- the lines that they give

past_writes : (written : ℕ) (blocks : List Written) (more : List TraceItem) → replayed_lines_behind written (items_of (writes_of 1 blocks) ++ more) ≡ replayed_lines_behind (written + length blocks) more
past_writes written [] more = ap (λ (n : ℕ). replayed_lines_behind n more) (omega arith)
past_writes written (w ∷ ws) more = past_writes (written + 1) ws more ∙ ap (λ (n : ℕ). replayed_lines_behind n more) (omega arith)

past_brought : (written : ℕ) (blocks : List Written) (operations : List Operation) (more : List TraceItem) → AreBrought 1 blocks operations
    → replayed_lines_behind written (items_of operations ++ more) ≡ replayed_lines_behind (written + length blocks) more
past_brought written _ _ more none = ap (λ (n : ℕ). replayed_lines_behind n more) (omega arith)
past_brought written _ _ more (turn some later operations is rest) =
    ap (λ (is : List TraceItem). replayed_lines_behind written (is ++ more)) (turn_items some operations)
    ∙ ap (replayed_lines_behind written) (append_assoc (items_of (writes_of 1 some)) (trace.Barrier 1 ∷ items_of operations) more)
    ∙ past_writes written some (trace.Barrier 1 ∷ (items_of operations ++ more))
    ∙ past_brought (written + length some) later operations more rest
    ∙ ap (λ (n : ℕ). replayed_lines_behind n more) (let long = length-append some later in omega (arith, long))

past_replay : (slot dinode : ℕ) (blocks : List ℕ) (time : ℕ) (before after : Moment) (home : List Written) (header : Option LogHeader) (items more : List TraceItem)
    → IsReplayWith 1 slot dinode blocks time before after home header items → replayed_lines_behind 0 (items ++ more) ≡ line_of_plan (slot - 1) home header ++ replayed_lines_behind 0 more
past_replay slot dinode blocks time before after home None items more is = ap (λ (l : List TraceItem). replayed_lines_behind 0 (l ++ more)) is.1
past_replay slot dinode blocks time before after home (Some header) items more is =
    let recovered : List TraceItem = trace.Recovered slot 1 ∷ [] in
    let one = items_of is.homes.operations in
    let two = items_of is.headed.operations in
    ap (λ (l : List TraceItem). replayed_lines_behind 0 (l ++ more)) is.told
    ∙ ap (replayed_lines_behind 0) (append_assoc one (two ++ recovered) more ∙ ap (λ (l : List TraceItem). one ++ l) (append_assoc two recovered more))
    ∙ past_brought 0 home is.homes.operations (two ++ (recovered ++ more)) is.homes.brought
    ∙ past_brought (0 + length home) _ is.headed.operations (recovered ++ more) is.headed.brought
    ∙ ap (λ (n : ℕ). replayed_line (slot - 1) n ++ replayed_lines_behind 0 more) (omega arith)

pub past_replays : (slot time : ℕ) (before after : Moment) (js : List Journal) (ps : List Plan) (items more : List TraceItem) → AreReplays 1 (slot + 1) time before js ps after items
    → replayed_lines_behind 0 (items ++ more) ≡ lines_of_plans slot ps ++ replayed_lines_behind 0 more
past_replays slot time before after [] [] items more is = ap (λ (l : List TraceItem). replayed_lines_behind 0 (l ++ more)) is.1
past_replays slot time before after [] (p ∷ ps) items more is = absurd is
past_replays slot time before after (j ∷ js) [] items more is = absurd is
past_replays slot time before after (j ∷ js) (p ∷ ps) items more (next, first, later, are, one, others) =
    ap (λ (l : List TraceItem). replayed_lines_behind 0 (l ++ more)) are ∙ ap (replayed_lines_behind 0) (append_assoc first later more)
    ∙ past_replay (slot + 1) j.dinode j.blocks time before next p.home.items p.clean first (later ++ more) one
    ∙ ap (λ (n : ℕ). line_of_plan n p.home.items p.clean ++ replayed_lines_behind 0 (later ++ more)) (omega arith)
    ∙ ap (λ (l : List ℕ). line_of_plan slot p.home.items p.clean ++ l) (past_replays (slot + 1) time next after js ps later more others)
    ∙ sym (append_assoc (line_of_plan slot p.home.items p.clean) (lines_of_plans (slot + 1) ps) (replayed_lines_behind 0 more))

-- what isn't a recovery gives none
none_behind : (written : ℕ) (more : List TraceItem) → AllByRecursion IsNoRecovery more → replayed_lines_behind written more ≡ []
none_behind written [] free = refl
none_behind written (trace.WriteReplay node block ∷ is) free = none_behind (written + 1) is free.1
none_behind written (trace.Recovered node by ∷ is) free = absurd free.0
none_behind written (_ ∷ is) free = none_behind written is free.1

pub lines_told : (time : ℕ) (before : Moment) (js : List Journal) (ps : List Plan) (items : List TraceItem) → TellsItsReplays time before js ps items → replayed_lines items ≡ lines_of_plans 0 ps
lines_told time before js ps items tells =
    ap replayed_lines (tells.are ∙ ap (λ (l : List TraceItem). l ++ tells.more) tells.replays.are ∙ append_assoc joined tells.replays.added tells.more)
    ∙ past_replays 0 time before tells.replayed js ps tells.replays.added tells.more tells.replays.replays
    ∙ ap (λ (l : List ℕ). lines_of_plans 0 ps ++ l) (none_behind 0 tells.more tells.no_recovery)
    ∙ append-nil (lines_of_plans 0 ps)
