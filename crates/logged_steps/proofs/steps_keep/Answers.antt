use Rattle.logged_steps.proofs.Keeping.{steps_keep}
use Rattle.logged_steps.proofs.steps_keep.Goals as goal

pub returns : goal.returns
returns c = steps_keep c.its_calls_are_logged.ensures.changing c.its_calls_are_logged.ensures.quiet c.its_calls_are_logged.ensures.spaceless c.its_calls_are_logged.ensures.sync
    c.its_reads_are_logged.ensures c.its_flushes_begin.ensures.all c.its_flushes_begin.ensures.alone c.its_blocks_are_written.ensures c.its_headers_are_written.ensures
    c.its_barriers_settle.ensures.settles c.its_barriers_settle.ensures.first c.its_flushes_land.ensures c.its_live_blocks_go_home.ensures c.what_one_node_writes_a_replay_may_change.ensures
    c.its_disk_may_change_alike.ensures.calls c.its_disk_may_change_alike.ensures.barriers c.its_disk_may_change_alike.ensures.others
