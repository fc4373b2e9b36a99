-- What a journal stands for.
use Rattle.log_values.specs.Log.{Journal}
use Rattle.log_memory.specs.declared.journal.Journal.{Journal as Known}

abbrev pub journal_in : Known → Journal
journal_in j = record { jid = j.jid; length = j.length; places = j.places.items; size = j.block_size; frames = j.frames; jinode = j.jinode; time = j.time }
