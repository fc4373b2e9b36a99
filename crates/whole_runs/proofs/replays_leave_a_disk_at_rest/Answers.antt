use Rattle.whole_runs.proofs.Resting.{replayed_is_at_rest}
use Rattle.whole_runs.proofs.replays_leave_a_disk_at_rest.Goals as goal

pub returns : goal.returns
returns c = replayed_is_at_rest c.a_replay_leaves_its_image.ensures c.what_a_replay_leaves_stands.ensures.by c.mounted_groups_are_as_seen.ensures
