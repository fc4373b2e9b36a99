use Rattle.lone_runs.proofs.Damage.{runs_meet_no_damage}
use Rattle.lone_runs.proofs.laws.runs_meet_no_damage.Goals as goal

pub returns : goal.returns
returns c = runs_meet_no_damage c.replays_leave_a_disk_at_rest.ensures c.a_run_begins.ensures c.steps_keep.ensures c.heads_are_told.ensures c.nodes_work_on_an_image.ensures c.calls_are_loggable.ensures c.calls_have_room.ensures
    c.mounted_journals_are_placed.ensures c.places_say_all.ensures
