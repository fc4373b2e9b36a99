-- The order in which the data blocks of a new image are taken.
use Rattle.std.specs.Prelude.{ℕ, ◌≡◌, ◌+◌, ◌-◌, ◌*◌, ◌/◌, ◌%◌, ◌≤◌, ◌<◌, ◌==◌, ◌&&◌, Bool, true, false, nat_le, nat_lt, if◌then◌else◌, List, ◌∷◌, map}
use Rattle.std.specs.List.{range_with_len}
use Rattle.mkgfs2_tool.specs.Groups.{all_data, data_blocks, last_group}
use Rattle.mkgfs2_tool.specs.Files.{part, file_blocks}
use Rattle.mkgfs2_tool.specs.declared.files.Shape.{Shape}
use Rattle.mkgfs2_tool.specs.declared.order.Use.{Use}
use Rattle.mkgfs2_tool.specs.declared.order.Use.TheVariants.{Master, Root, GroupList, Journals, Leaf, Journal}
use Rattle.mkgfs2_tool.specs.declared.plan.Plan.{Plan}

-- the list of groups has 96 bytes for each
abbrev pub group_list : Plan → Shape
group_list p = record { size = p.size; bytes = 96 * p.groups }

abbrev pub journal : Plan → Shape
journal p = record { size = p.size; bytes = p.journal_blocks * p.size }

-- ---- first the dinodes of the master directory and of the root, then the list of groups, the directory of journals with its leaves, and each journal

abbrev pub master_place : ℕ
master_place = 0

abbrev pub root_place : ℕ
root_place = 1

abbrev pub group_list_place : ℕ
group_list_place = 2

abbrev pub journals_place : Plan → ℕ
journals_place p = group_list_place + file_blocks (group_list p)

-- The directory of journals is a linear one where its block has room for the records: in one of 512 bytes for five, `.`, `..` and those of three journals.
-- With more it is a hashed one.
abbrev pub has_hashed_journals : Plan → Bool
has_hashed_journals p = p.size == 512 && nat_lt 3 p.journals

-- A leaf of 512 bytes has room for eight records. With more than six journals the first leaf was split, and no further split is needed.
abbrev pub is_split : Plan → Bool
is_split p = nat_lt 6 p.journals

unfoldable pub leaf_count : ℕ → ℕ → ℕ
leaf_count size journals = if size == 512 && nat_lt 3 journals then (if nat_lt 6 journals then 2 else 1) else 0

-- how many leaves the directory of journals has
abbrev pub journal_leaves : Plan → ℕ
journal_leaves p = leaf_count p.size p.journals

-- they stand behind its dinode, in the order in which they were taken when its names were put in one by one
abbrev pub leaf_place : Plan → ℕ → ℕ
leaf_place p n = journals_place p + 1 + n

abbrev pub journal_place : Plan → ℕ → ℕ
journal_place p j = leaf_place p (journal_leaves p) + j * file_blocks (journal p)

-- how many blocks are taken
abbrev pub taken : Plan → ℕ
taken p = journal_place p p.journals

-- ---- what a taken block is

-- block `n` of those of the journals
abbrev pub journal_use : Plan → ℕ → Use
journal_use p n = Journal (n / file_blocks (journal p)) (part (journal p) (n % file_blocks (journal p)))

abbrev pub use_of : Plan → ℕ → Use
use_of p k =
    if k == master_place then Master
    else if k == root_place then Root
    else if nat_lt k (journals_place p) then GroupList (part (group_list p) (k - group_list_place))
    else if k == journals_place p then Journals
    else if nat_lt k (journal_place p 0) then Leaf (k - leaf_place p 0)
    else journal_use p (k - journal_place p 0)

-- ---- dinodes, each with its formal number

-- four files and directories, and the journals
abbrev pub dinodes : Plan → ℕ
dinodes p = 4 + p.journals

abbrev pub dinode_places : Plan → List ℕ
dinode_places p = master_place ∷ root_place ∷ group_list_place ∷ journals_place p ∷ map (journal_place p) (range_with_len 0 p.journals)

-- ---- whether all of it fits

abbrev pub fits : Plan → Bool
fits p = nat_le 4 (data_blocks p 0) && nat_le 4 (data_blocks p (last_group p)) && nat_le (taken p) (all_data p)

-- it needs so many blocks: the least number, from the device's own on, at which it fits
pub record IsNeeded (p : Plan) (needed : ℕ) : Type 0 where
  pub enough : fits (record p { count = needed }) ≡ true
  pub from : p.count ≤ needed
  pub least : (n : ℕ) → p.count ≤ n → n < needed → fits (record p { count = n }) ≡ false
