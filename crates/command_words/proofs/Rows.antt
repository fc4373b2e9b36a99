-- Worked rows of the words of the program, which the checker computes. A row is a text whose words stand between single spaces.
use Rattle.std.proofs.Common.{◌≡◌, ℕ, ◌==◌, List, [], ◌∷◌, Option, Some, None, Result, Ok, refl, replicate}
use Rattle.std.specs.Prelude.{codes}
use Rattle.std.specs.Fmt.{digits}
use Rattle.std.specs.List.{slice_split}
use Rattle.uuid.specs.Text.{by_index}
use Rattle.command_words.specs.declared.command.Usage.{Usage}
use Rattle.command_words.specs.declared.command.Command.{Command}
use Rattle.command_words.specs.declared.command.Command.TheVariants.{Make, Run, Replay, Show, Load}
use Rattle.command_words.specs.Options.{wrong}
use Rattle.command_words.specs.Commands.{words_read}

-- on a disk with blocks of this size the words of the text are read so
abbrev Reads : ℕ → List ℕ → Result Command Usage → Type 0
Reads block_size text read = words_read block_size (slice_split (λ b. b == 32) text) ≡ read

abbrev made : ℕ → ℕ → ℕ → List ℕ → ℕ → Result Command Usage
made journals journal_blocks groups uuid time = Ok (Make (record { journals = journals; journal_blocks = journal_blocks; groups = groups; uuid = uuid; time = time }))

abbrev ran : Option ℕ → Option ℕ → ℕ → Option ℕ → Result Command Usage
ran schedule steps time frames = Ok (Run (record { schedule = schedule; steps = steps; time = time; frames = frames }))

abbrev loaded : ℕ → Option ℕ → Result Command Usage
loaded number steps = Ok (Load (record { number = number; steps = steps }))

abbrev nil : List ℕ
nil = replicate 16 0

abbrev identifier : List ℕ
identifier = 103 ∷ 229 ∷ 80 ∷ 68 ∷ 16 ∷ 177 ∷ 66 ∷ 111 ∷ 146 ∷ 71 ∷ 187 ∷ 104 ∷ 14 ∷ 95 ∷ 224 ∷ 200 ∷ []

row_no_words : words_read 4096 [] ≡ wrong 1
row_no_words = refl

-- the commands alone
rows_commands :
    Reads 4096 (codes "mkfs") (made 1 1024 1 nil 0)
    × Reads 4096 (codes "run") (ran None None 0 None)
    × Reads 4096 (codes "replay") (Ok Replay)
    × Reads 4096 (codes "show") (Ok Show)
    × Reads 4096 (codes "load 7") (loaded 7 None)
unfolding digits
rows_commands = (refl, refl, refl, refl, refl)

-- what is no command
rows_no_command :
    Reads 4096 (codes "--help") (wrong 1)
    × Reads 4096 (codes "--version") (wrong 1)
    × Reads 4096 (codes "Run") (wrong 1)
    × Reads 4096 (codes "runs") (wrong 1)
    × Reads 4096 (codes "ru") (wrong 1)
    × Reads 4096 (codes " run") (wrong 1)
    × Reads 4096 (codes "--time 5 run") (wrong 1)
    × Reads 4096 (codes "") (wrong 1)
unfolding digits
rows_no_command = (refl, refl, refl, refl, refl, refl, refl, refl)

-- a word behind a whole form
rows_more_words :
    Reads 4096 (codes "mkfs 1") (wrong 2)
    × Reads 4096 (codes "run now") (wrong 2)
    × Reads 4096 (codes "run ") (wrong 2)
    × Reads 4096 (codes "replay 1") (wrong 2)
    × Reads 4096 (codes "show /") (wrong 2)
    × Reads 4096 (codes "load 7 8") (wrong 3)
    × Reads 4096 (codes "run --steps 5 6") (wrong 4)
unfolding digits
rows_more_words = (refl, refl, refl, refl, refl, refl, refl)

-- `--bsize` is the disk's block size
rows_block_size :
    Reads 512 (codes "mkfs --bsize 512") (made 1 1024 1 nil 0)
    × Reads 1024 (codes "mkfs --bsize 1024") (made 1 1024 1 nil 0)
    × Reads 2048 (codes "mkfs --bsize 2048") (made 1 1024 1 nil 0)
    × Reads 4096 (codes "mkfs --bsize 4096") (made 1 1024 1 nil 0)
    × Reads 512 (codes "mkfs --bsize 1024") (wrong 3)
    × Reads 4096 (codes "mkfs --bsize 512") (wrong 3)
    × Reads 4096 (codes "mkfs --bsize 4095") (wrong 3)
    × Reads 4096 (codes "mkfs --bsize 04096") (wrong 3)
    × Reads 4096 (codes "mkfs --bsize 0") (wrong 3)
    × Reads 256 (codes "mkfs --bsize 256") (wrong 3)
    × Reads 8192 (codes "mkfs --bsize 8192") (wrong 3)
    × Reads 4096 (codes "mkfs --bsize") (wrong 3)
unfolding digits
rows_block_size = (refl, refl, refl, refl, refl, refl, refl, refl, refl, refl, refl, refl)

-- how many journals
rows_journals :
    Reads 4096 (codes "mkfs --journals 1") (made 1 1024 1 nil 0)
    × Reads 4096 (codes "mkfs --journals 8") (made 8 1024 1 nil 0)
    × Reads 4096 (codes "mkfs --journals 0") (wrong 3)
    × Reads 4096 (codes "mkfs --journals 9") (wrong 3)
    × Reads 512 (codes "mkfs --bsize 512 --journals 0") (wrong 5)
unfolding digits
rows_journals = (refl, refl, refl, refl, refl)

-- of how many blocks
rows_journal_blocks :
    Reads 4096 (codes "mkfs --journal-blocks 512") (made 1 512 1 nil 0)
    × Reads 4096 (codes "mkfs --journal-blocks 65536") (made 1 65536 1 nil 0)
    × Reads 4096 (codes "mkfs --journal-blocks 511") (wrong 3)
    × Reads 4096 (codes "mkfs --journal-blocks 65537") (wrong 3)
unfolding digits
rows_journal_blocks = (refl, refl, refl, refl)

-- how many resource groups
rows_groups :
    Reads 4096 (codes "mkfs --groups 1") (made 1 1024 1 nil 0)
    × Reads 4096 (codes "mkfs --groups 64") (made 1 1024 64 nil 0)
    × Reads 4096 (codes "mkfs --groups 0") (wrong 3)
    × Reads 4096 (codes "mkfs --groups 65") (wrong 3)
unfolding digits
rows_groups = (refl, refl, refl, refl)

-- the time of an image
rows_make_time :
    Reads 4096 (codes "mkfs --time 0") (made 1 1024 1 nil 0)
    × Reads 4096 (codes "mkfs --time 9223372036854775807") (made 1 1024 1 nil 9223372036854775807)
    × Reads 4096 (codes "mkfs --time 9223372036854775808") (wrong 3)
    × Reads 4096 (codes "mkfs --time 18446744073709551616") (wrong 3)
    × Reads 4096 (codes "mkfs --time 36893488147419103232") (wrong 3)
unfolding digits
rows_make_time = (refl, refl, refl, refl, refl)

-- the four forms of an identifier, and what is none
rows_identifier :
    Reads 4096 (codes "mkfs --uuid 67e5504410b1426f9247bb680e5fe0c8") (made 1 1024 1 identifier 0)
    × Reads 4096 (codes "mkfs --uuid 67e55044-10b1-426f-9247-bb680e5fe0c8") (made 1 1024 1 identifier 0)
    × Reads 4096 (codes "mkfs --uuid {67e55044-10b1-426f-9247-bb680e5fe0c8}") (made 1 1024 1 identifier 0)
    × Reads 4096 (codes "mkfs --uuid urn:uuid:67e55044-10b1-426f-9247-bb680e5fe0c8") (made 1 1024 1 identifier 0)
    × Reads 4096 (codes "mkfs --uuid 67E55044-10B1-426F-9247-BB680E5FE0C8") (made 1 1024 1 identifier 0)
    × Reads 4096 (codes "mkfs --uuid URN:UUID:67e55044-10b1-426f-9247-bb680e5fe0c8") (made 1 1024 1 identifier 0)
    × Reads 4096 (codes "mkfs --uuid 67e5504410b1426f9247bb680e5fe0c") (wrong 3)
    × Reads 4096 (codes "mkfs --uuid 67e5504410b1426f9247bb680e5fe0c80") (wrong 3)
    × Reads 4096 (codes "mkfs --uuid 67e5504410b1426f9247bb680e5fe0cg") (wrong 3)
    × Reads 4096 (codes "mkfs --uuid {67e55044-10b1-426f-9247-bb680e5fe0c8") (wrong 3)
    × Reads 4096 (codes "mkfs --uuid 67e5504410-b1-426f-9247-bb680e5fe0c8") (wrong 3)
    × Reads 4096 (codes "mkfs --uuid {67e5504410b1426f9247bb680e5fe0c8}") (wrong 3)
    × Reads 4096 (codes "mkfs --uuid 0") (wrong 3)
    × Reads 4096 (codes "mkfs --uuid") (wrong 3)
unfolding digits by_index
rows_identifier = (refl, refl, refl, refl, refl, refl, refl, refl, refl, refl, refl, refl, refl, refl)

-- all options of `mkfs`, in two orders
rows_all_of_make :
    Reads 512 (codes "mkfs --bsize 512 --journals 2 --journal-blocks 600 --groups 3 --uuid 67e5504410b1426f9247bb680e5fe0c8 --time 5") (made 2 600 3 identifier 5)
    × Reads 512 (codes "mkfs --time 5 --uuid 67e5504410b1426f9247bb680e5fe0c8 --groups 3 --journal-blocks 600 --journals 2 --bsize 512") (made 2 600 3 identifier 5)
unfolding digits by_index
rows_all_of_make = (refl, refl)

-- the schedule of a run
rows_schedule :
    Reads 4096 (codes "run --schedule 0") (ran (Some 0) None 0 None)
    × Reads 4096 (codes "run --schedule 9223372036854775807") (ran (Some 9223372036854775807) None 0 None)
    × Reads 4096 (codes "run --schedule 9223372036854775808") (wrong 3)
    × Reads 4096 (codes "run --schedule") (wrong 3)
unfolding digits
rows_schedule = (refl, refl, refl, refl)

-- how many items a trace has at most
rows_steps :
    Reads 4096 (codes "run --steps 1") (ran None (Some 1) 0 None)
    × Reads 4096 (codes "run --steps 10000000") (ran None (Some 10000000) 0 None)
    × Reads 4096 (codes "run --steps 0") (wrong 3)
    × Reads 4096 (codes "run --steps 10000001") (wrong 3)
unfolding digits
rows_steps = (refl, refl, refl, refl)

-- the time of a run
rows_run_time :
    Reads 4096 (codes "run --time 0") (ran None None 0 None)
    × Reads 4096 (codes "run --time 9223372036854775807") (ran None None 9223372036854775807 None)
    × Reads 4096 (codes "run --time 9223372036854775808") (wrong 3)
unfolding digits
rows_run_time = (refl, refl, refl)

-- the frames of a node
rows_frames :
    Reads 4096 (codes "run --frames 512") (ran None None 0 (Some 512))
    × Reads 4096 (codes "run --frames 4096") (ran None None 0 (Some 4096))
    × Reads 4096 (codes "run --frames 511") (wrong 3)
    × Reads 4096 (codes "run --frames 4097") (wrong 3)
unfolding digits
rows_frames = (refl, refl, refl, refl)

-- all options of `run`, in two orders
rows_all_of_run :
    Reads 4096 (codes "run --schedule 1 --steps 2 --time 3 --frames 513") (ran (Some 1) (Some 2) 3 (Some 513))
    × Reads 4096 (codes "run --frames 513 --steps 2 --schedule 1 --time 3") (ran (Some 1) (Some 2) 3 (Some 513))
unfolding digits
rows_all_of_run = (refl, refl)

-- a script that is made
rows_load :
    Reads 4096 (codes "load 0") (loaded 0 None)
    × Reads 4096 (codes "load 9223372036854775807") (loaded 9223372036854775807 None)
    × Reads 4096 (codes "load 9223372036854775808") (wrong 2)
    × Reads 4096 (codes "load") (wrong 2)
    × Reads 4096 (codes "load x") (wrong 2)
    × Reads 4096 (codes "load 07") (wrong 2)
    × Reads 4096 (codes "load --steps 5") (wrong 2)
    × Reads 4096 (codes "load 7 --steps 1") (loaded 7 (Some 1))
    × Reads 4096 (codes "load 7 --steps 10000000") (loaded 7 (Some 10000000))
    × Reads 4096 (codes "load 7 --steps 0") (wrong 4)
    × Reads 4096 (codes "load 7 --steps 10000001") (wrong 4)
    × Reads 4096 (codes "load 7 --steps") (wrong 4)
unfolding digits
rows_load = (refl, refl, refl, refl, refl, refl, refl, refl, refl, refl, refl, refl)

-- an option that is given twice
rows_twice :
    Reads 4096 (codes "run --schedule 0 --schedule 1") (wrong 4)
    × Reads 4096 (codes "run --steps 5 --time 1 --steps 5") (wrong 6)
    × Reads 4096 (codes "run --frames 512 --frames") (wrong 4)
    × Reads 4096 (codes "mkfs --journals 2 --journals 2") (wrong 4)
    × Reads 512 (codes "mkfs --bsize 512 --bsize 512") (wrong 4)
    × Reads 4096 (codes "mkfs --uuid 67e5504410b1426f9247bb680e5fe0c8 --uuid 67e5504410b1426f9247bb680e5fe0c8") (wrong 4)
    × Reads 4096 (codes "mkfs --time 1 --groups 2 --time 0") (wrong 6)
    × Reads 4096 (codes "load 7 --steps 1 --steps 1") (wrong 5)
unfolding digits by_index
rows_twice = (refl, refl, refl, refl, refl, refl, refl, refl)

-- an option of another command, or of none
rows_other_options :
    Reads 4096 (codes "mkfs --schedule 0") (wrong 2)
    × Reads 4096 (codes "mkfs --steps 5") (wrong 2)
    × Reads 4096 (codes "mkfs --frames 512") (wrong 2)
    × Reads 512 (codes "run --bsize 512") (wrong 2)
    × Reads 4096 (codes "run --journals 1") (wrong 2)
    × Reads 4096 (codes "run --journal-blocks 512") (wrong 2)
    × Reads 4096 (codes "run --groups 1") (wrong 2)
    × Reads 4096 (codes "run --uuid 67e5504410b1426f9247bb680e5fe0c8") (wrong 2)
    × Reads 4096 (codes "replay --schedule 0") (wrong 2)
    × Reads 4096 (codes "show --steps 5") (wrong 2)
    × Reads 4096 (codes "load 7 --schedule 0") (wrong 3)
    × Reads 4096 (codes "load 7 --time 0") (wrong 3)
    × Reads 4096 (codes "run --step 5") (wrong 2)
    × Reads 4096 (codes "run --Steps 5") (wrong 2)
    × Reads 4096 (codes "run -steps 5") (wrong 2)
    × Reads 4096 (codes "run steps 5") (wrong 2)
    × Reads 4096 (codes "run --steps=5") (wrong 2)
    × Reads 4096 (codes "run --help") (wrong 2)
unfolding digits by_index
rows_other_options = (refl, refl, refl, refl, refl, refl, refl, refl, refl, refl, refl, refl, refl, refl, refl, refl, refl, refl)

-- what is no number
rows_no_number :
    Reads 4096 (codes "run --steps +5") (wrong 3)
    × Reads 4096 (codes "run --steps -5") (wrong 3)
    × Reads 4096 (codes "run --time 00") (wrong 3)
    × Reads 4096 (codes "run --steps 05") (wrong 3)
    × Reads 4096 (codes "run --steps 5x") (wrong 3)
    × Reads 4096 (codes "run --steps 0x5") (wrong 3)
    × Reads 4096 (codes "run --steps 1e3") (wrong 3)
    × Reads 4096 (codes "run --steps 1,000") (wrong 3)
    × Reads 4096 (codes "run --steps ") (wrong 3)
    × Reads 4096 (codes "run --steps --time 5") (wrong 3)
unfolding digits
rows_no_number = (refl, refl, refl, refl, refl, refl, refl, refl, refl, refl)

-- of several faults the first is told
rows_first_fault :
    Reads 4096 (codes "mkfs --journals 0 --bogus") (wrong 3)
    × Reads 4096 (codes "mkfs --groups 2 --bogus 1 --journals 0") (wrong 4)
    × Reads 4096 (codes "mkfs --groups 2 --journals 9 --groups") (wrong 5)
    × Reads 4096 (codes "mkfs --time 5 --journals") (wrong 5)
    × Reads 4096 (codes "run --time 1 --frames 1 --frames 1") (wrong 5)
unfolding digits
rows_first_fault = (refl, refl, refl, refl, refl)
