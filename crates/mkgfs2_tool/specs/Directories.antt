-- The records of a new directory, which lie one after another in its dinode's block.
use Rattle.std.specs.Prelude.{ℕ, ◌<◌, ◌≤◌, ⊤, ◌+◌, ◌-◌, List, [], ◌∷◌, ◌++◌, length, map, replicate, codes}
use Rattle.std.specs.List.{range_with_len, AllByRecursion}
use Rattle.crc_words.specs.Remainder.{crc32_of}
use Rattle.gfs2_layout.specs.Bytes.{put_at}
use Rattle.gfs2_layout.specs.Putting.{least_length}
use Rattle.gfs2_layout.specs.Writing.{dirent_put}
use Rattle.gfs2_layout.specs.declared.dirent.Dirent.{Dirent}
use Rattle.profile_limits.specs.Limits.{most_journals}
use Rattle.mkgfs2_tool.specs.Groups.{data_address}
use Rattle.mkgfs2_tool.specs.Order.{master_place, root_place, group_list_place, journals_place, journal_place}
use Rattle.mkgfs2_tool.specs.declared.plan.Plan.{Plan}
use Rattle.mkgfs2_tool.specs.declared.directory.Entry.{Entry}
use Rattle.mkgfs2_tool.specs.declared.directory.Name.{Name}
use Rattle.mkgfs2_tool.specs.declared.directory.Name.TheVariants as name

-- a record's kind
abbrev pub directory_kind : ℕ
directory_kind = 4

abbrev pub file_kind : ℕ
file_kind = 8

-- the journals' names are `journal0`, `journal1` and so on, up to `journal7`
abbrev pub name_bytes : Name → List ℕ
name_bytes name.This = codes "."
name_bytes name.Parent = codes ".."
name_bytes name.Jindex = codes "jindex"
name_bytes name.Rindex = codes "rindex"
name_bytes (name.Journal j) = codes "journal" ++ (48 + j) ∷ []

abbrev pub name_of : Entry → List ℕ
name_of e = name_bytes e.name

-- it reaches over its own bytes, and over those of records that it took up
abbrev pub head_of : Entry → ℕ → Dirent
head_of e room = record {
  inum = record { number = e.number; address = e.address };
  hash = crc32_of (name_of e);
  rec_len = room + e.reach;
  name_len = length (name_of e);
  kind = e.kind;
  rahead = 0;
}

-- a record in so many bytes
abbrev pub record_bytes : Entry → ℕ → List ℕ
record_bytes e room = put_at 40 (name_of e) (dirent_put (head_of e room) (replicate room 0))

-- each record has its least length, and the last takes the rest
unfoldable pub records : ℕ → List Entry → List ℕ
records room [] = []
records room (e ∷ []) = record_bytes e room
records room (e ∷ f ∷ es) = record_bytes e (least_length (length (name_of e))) ++ records (room - least_length (length (name_of e))) (f ∷ es)

-- a journal's number is one of those that an image may have
abbrev pub HasName : Name → Type 0
HasName (name.Journal j) = j < most_journals
HasName _ = ⊤

abbrev pub IsNamed : Entry → Type 0
IsNamed e = HasName e.name

abbrev pub AreNamed : List Entry → Type 0
AreNamed entries = AllByRecursion IsNamed entries

-- there is a record, and the records have room for their least lengths
abbrev pub Fit : ℕ → List Entry → Type 0
Fit room [] = ⊥
Fit room (e ∷ []) = least_length (length (name_of e)) ≤ room
Fit room (e ∷ f ∷ es) = (least_length (length (name_of e)) ≤ room) × Fit (room - least_length (length (name_of e))) (f ∷ es)

-- ---- the entries of the three directories, in the order in which they are put in

abbrev pub entry : Plan → Name → ℕ → ℕ → ℕ → Entry
entry p name number place kind = record { name = name; number = number; address = data_address p place; kind = kind; reach = 0 }

abbrev pub master_entries : Plan → List Entry
master_entries p =
    entry p name.This 1 master_place directory_kind
    ∷ entry p name.Parent 1 master_place directory_kind
    ∷ entry p name.Jindex 4 (journals_place p) directory_kind
    ∷ entry p name.Rindex 3 group_list_place file_kind
    ∷ []

abbrev pub root_entries : Plan → List Entry
root_entries p = entry p name.This 2 root_place directory_kind ∷ entry p name.Parent 2 root_place directory_kind ∷ []

abbrev pub journal_entry : Plan → ℕ → Entry
journal_entry p j = entry p (name.Journal j) (5 + j) (journal_place p j) file_kind

abbrev pub journals_entries : Plan → List Entry
journals_entries p =
    entry p name.This 4 (journals_place p) directory_kind
    ∷ entry p name.Parent 1 master_place directory_kind
    ∷ map (journal_entry p) (range_with_len 0 p.journals)

-- these entries, if there were eight journals
abbrev pub most_entries : Plan → List Entry
most_entries p =
    entry p name.This 4 (journals_place p) directory_kind
    ∷ entry p name.Parent 1 master_place directory_kind
    ∷ journal_entry p 0 ∷ journal_entry p 1 ∷ journal_entry p 2 ∷ journal_entry p 3
    ∷ journal_entry p 4 ∷ journal_entry p 5 ∷ journal_entry p 6 ∷ journal_entry p 7 ∷ []

-- ---- the two halves of a leaf that was split: it was full with `.`, `..` and six journals

-- a record that is no longer in use
abbrev pub emptied : Entry → Entry
emptied e = record e { number = 0; address = 0 }

-- a record that took up so many bytes behind it
abbrev pub reaching : ℕ → Entry → Entry
reaching n e = record e { reach = n }

-- What stays are the names of the upper half. Those of the lower half were cut: `.` stood first, and `journal2` and `journal3` stood behind `journal1`, which took up their records of 48 bytes.
abbrev pub upper_entries : Plan → List Entry
upper_entries p =
    emptied (entry p name.This 4 (journals_place p) directory_kind)
    ∷ entry p name.Parent 1 master_place directory_kind
    ∷ journal_entry p 0 ∷ reaching 96 (journal_entry p 1) ∷ journal_entry p 2 ∷ journal_entry p 3
    ∷ journal_entry p 4 ∷ journal_entry p 5 ∷ []

-- the names of the lower half go into another leaf, and later journals have names of that half too
abbrev pub lower_entries : Plan → List Entry
lower_entries p =
    entry p name.This 4 (journals_place p) directory_kind
    ∷ journal_entry p 2 ∷ journal_entry p 3
    ∷ map (journal_entry p) (range_with_len 6 (p.journals - 6))

-- these entries, if there were eight journals
abbrev pub most_lower : Plan → List Entry
most_lower p =
    entry p name.This 4 (journals_place p) directory_kind
    ∷ journal_entry p 2 ∷ journal_entry p 3 ∷ journal_entry p 6 ∷ journal_entry p 7 ∷ []
