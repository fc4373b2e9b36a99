-- What becomes of a directory's records.
use Rattle.std.specs.Prelude.{ℕ, ◌≡◌, ◌+◌, ◌==◌, ◌&&◌, not, List, ◌++◌, length, count_by}
use Rattle.std.specs.List.Sorted.{IsPermutation}
use Rattle.gfs2_layout.specs.declared.dinode.Dinode.{Dinode}
use Rattle.gfs2_layout.specs.Records.{Record, is_dots}

-- how many directories there are in it, but for `.` and `..`
abbrev pub directory_count : List Record → ℕ
directory_count records = count_by (λ r. not (is_dots r.name) && r.kind == 4) records

-- the records, in any order, are those before without some that went and with some that came
pub record IsExchanged (old new gone come : List Record) : Type 0 where
  pub rest : List Record
  pub before : IsPermutation old (gone ++ rest)
  pub after : IsPermutation new (come ++ rest)

-- and the dinode's counts follow
pub record IsCounted (d d' : Dinode) (gone come : List Record) : Type 0 where
  pub entries : d'.entries + length gone ≡ d.entries + length come
  pub links : d'.nlink + directory_count gone ≡ d.nlink + directory_count come
