-- The commands of the program, and what its words are read as.
use Rattle.std.specs.Prelude.{ℕ, ◌-◌, ◌^◌, if◌then◌else◌, List, [], ◌∷◌, replicate, codes, Option, Some, None, unwrap_or, Result, Ok, Err}
use Rattle.profile_limits.specs.Limits.{least_frames, least_journal_blocks, most_frames, most_groups, most_journal_blocks, most_journals}
use Rattle.std.specs.Str.{bytes_eq}
use Rattle.number_words.specs.Numbers.{number_in}
use Rattle.command_words.specs.declared.command.Usage.{Usage}
use Rattle.command_words.specs.declared.command.MakeWords.{MakeWords}
use Rattle.command_words.specs.declared.command.RunWords.{RunWords}
use Rattle.command_words.specs.declared.command.LoadWords.{LoadWords}
use Rattle.command_words.specs.declared.command.Command.{Command}
use Rattle.command_words.specs.declared.command.Command.TheVariants.{Make, Run, Replay, Show, Load}
use Rattle.command_words.specs.Options.{Number, BlockSize, Identifier, Value, Whole, Bytes, Row, row, Given, value_of, wrong, at_place, options_read}

-- ---- the options of each command

-- the greatest number of a schedule, of a script to make, and of a time
abbrev pub largest : ℕ
largest = 2 ^ 63 - 1

abbrev pub make_options : List Row
make_options =
    row (codes "--bsize") BlockSize
    ∷ row (codes "--journals") (Number 1 most_journals)
    ∷ row (codes "--journal-blocks") (Number least_journal_blocks most_journal_blocks)
    ∷ row (codes "--groups") (Number 1 most_groups)
    ∷ row (codes "--uuid") Identifier
    ∷ row (codes "--time") (Number 0 largest)
    ∷ []

abbrev pub run_options : List Row
run_options =
    row (codes "--schedule") (Number 0 largest)
    ∷ row (codes "--steps") (Number 1 10000000)
    ∷ row (codes "--time") (Number 0 largest)
    ∷ row (codes "--frames") (Number least_frames most_frames)
    ∷ []

abbrev pub load_options : List Row
load_options = row (codes "--steps") (Number 1 10000000) ∷ []

-- ---- what was given, or what stands where nothing was

abbrev pub as_number : Option Value → Option ℕ
as_number (Some (Whole n)) = Some n
as_number _ = None

abbrev pub as_bytes : Option Value → Option (List ℕ)
as_bytes (Some (Bytes bytes)) = Some bytes
as_bytes _ = None

abbrev pub number_of : List ℕ → List Given → Option ℕ
number_of name given = as_number (value_of name given)

abbrev pub make_of : List Given → MakeWords
make_of given = record {
  journals = unwrap_or (number_of (codes "--journals") given) 1;
  journal_blocks = unwrap_or (number_of (codes "--journal-blocks") given) 1024;
  groups = unwrap_or (number_of (codes "--groups") given) 1;
  uuid = unwrap_or (as_bytes (value_of (codes "--uuid") given)) (replicate 16 0);
  time = unwrap_or (number_of (codes "--time") given) 0;
}

abbrev pub run_of : List Given → RunWords
run_of given = record {
  schedule = number_of (codes "--schedule") given;
  steps = number_of (codes "--steps") given;
  time = unwrap_or (number_of (codes "--time") given) 0;
  frames = number_of (codes "--frames") given;
}

abbrev pub load_of : ℕ → List Given → LoadWords
load_of number given = record { number = number; steps = number_of (codes "--steps") given }

-- how many items a trace has at most, and how many frames a node has
abbrev pub steps_of : Option ℕ → ℕ
steps_of given = unwrap_or given 1000000

abbrev pub frames_of : Option ℕ → ℕ
frames_of given = unwrap_or given 1024

-- ---- the reading of the words, each counted from 1

abbrev pub command_of : (List Given → Command) → Result (List Given) Usage → Result Command Usage
command_of command (Ok given) = Ok (command given)
command_of command (Err usage) = Err usage

-- the number comes before the options
abbrev pub load_read : ℕ → List (List ℕ) → Result Command Usage
load_read block_size [] = wrong 2
load_read block_size (w ∷ ws) =
    at_place 2 (number_in 0 largest w) (λ n. command_of (λ given. Load (load_of n given)) (options_read block_size load_options [] 3 ws))

abbrev pub words_read : ℕ → List (List ℕ) → Result Command Usage
words_read block_size [] = wrong 1
words_read block_size (w ∷ ws) =
    if bytes_eq w (codes "mkfs") then command_of (λ given. Make (make_of given)) (options_read block_size make_options [] 2 ws)
    else if bytes_eq w (codes "run") then command_of (λ given. Run (run_of given)) (options_read block_size run_options [] 2 ws)
    else if bytes_eq w (codes "replay") then command_of (λ given. Replay) (options_read block_size [] [] 2 ws)
    else if bytes_eq w (codes "show") then command_of (λ given. Show) (options_read block_size [] [] 2 ws)
    else if bytes_eq w (codes "load") then load_read block_size ws
    else wrong 1
