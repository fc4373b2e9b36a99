-- How the reader keeps the options that were given.
use Rattle.std.specs.Prelude.{ℕ, ◌≡◌, ◌+◌, List, [], codes, Option, Some, None, option_map}
use Rattle.profile_limits.specs.Limits.{least_frames, least_journal_blocks, most_frames, most_groups, most_journal_blocks, most_journals}
use Rattle.number_words.specs.Numbers.{number_in}
use Rattle.uuid.specs.Text.{parsed}
use Rattle.command_words.specs.declared.options.Opt.{Opt}
use Rattle.command_words.specs.declared.options.Opt.TheVariants.{Bsize, Journals, JournalBlocks, Groups, Uuid, Time, Schedule, Steps, Frames}
use Rattle.command_words.specs.declared.options.Kind.{Kind}
use Rattle.command_words.specs.declared.options.Kind.TheVariants as kind
use Rattle.command_words.specs.declared.options.Options.{Options}
use Rattle.command_words.specs.Options.{Number, BlockSize, Identifier, Value, Whole, Bytes, Row, row, Given, size_in, value_of}
use Rattle.command_words.specs.Commands.{largest, make_options, run_options, load_options}

abbrev pub row_of : Opt → Row
row_of Bsize = row (codes "--bsize") BlockSize
row_of Journals = row (codes "--journals") (Number 1 most_journals)
row_of JournalBlocks = row (codes "--journal-blocks") (Number least_journal_blocks most_journal_blocks)
row_of Groups = row (codes "--groups") (Number 1 most_groups)
row_of Uuid = row (codes "--uuid") Identifier
row_of Time = row (codes "--time") (Number 0 largest)
row_of Schedule = row (codes "--schedule") (Number 0 largest)
row_of Steps = row (codes "--steps") (Number 1 10000000)
row_of Frames = row (codes "--frames") (Number least_frames most_frames)

abbrev pub options_of : Kind → List Row
options_of kind.Make = make_options
options_of kind.Run = run_options
options_of kind.Load = load_options
options_of kind.Bare = []

abbrev pub kept : Opt → Options → Option Value
kept Bsize s = option_map Whole s.bsize
kept Journals s = option_map Whole s.journals
kept JournalBlocks s = option_map Whole s.journal_blocks
kept Groups s = option_map Whole s.groups
kept Uuid s = option_map Bytes s.uuid
kept Time s = option_map Whole s.time
kept Schedule s = option_map Whole s.schedule
kept Steps s = option_map Whole s.steps
kept Frames s = option_map Whole s.frames

-- the same after the value that a word is for an option, if it is one, was kept
abbrev pub kept_put : ℕ → Opt → List ℕ → Options → Options
kept_put block_size Bsize w s = record s { bsize = size_in block_size w }
kept_put block_size Journals w s = record s { journals = number_in 1 most_journals w }
kept_put block_size JournalBlocks w s = record s { journal_blocks = number_in least_journal_blocks most_journal_blocks w }
kept_put block_size Groups w s = record s { groups = number_in 1 most_groups w }
kept_put block_size Uuid w s = record s { uuid = parsed w }
kept_put block_size Time w s = record s { time = number_in 0 largest w }
kept_put block_size Schedule w s = record s { schedule = number_in 0 largest w }
kept_put block_size Steps w s = record s { steps = number_in 1 10000000 w }
kept_put block_size Frames w s = record s { frames = number_in least_frames most_frames w }

-- what is kept is what was given
pub record Keeps (s : Options) (given : List Given) : Type 0 where
  pub values : (o : Opt) → kept o s ≡ value_of (row_of o).name given

abbrev pub one_if : {A : Type 0} → Option A → ℕ
one_if None = 0
one_if (Some a) = 1

-- how many were given
abbrev pub count_of : Options → ℕ
count_of s =
    one_if s.bsize + one_if s.journals + one_if s.journal_blocks + one_if s.groups + one_if s.uuid + one_if s.time + one_if s.schedule + one_if s.steps + one_if s.frames
