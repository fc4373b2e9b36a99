-- What a directory's records are after some went and some came.
use Rattle.std.specs.Prelude.{◌≢◌, ℕ, ◌≡◌, ◌≤◌, false, List, [], ◌∷◌, codes, Contains}
use Rattle.std.specs.List.Sorted.{IsPermutation}
use Rattle.gfs2_layout.specs.declared.dinode.Dinode.{Dinode}
use Rattle.gfs2_layout.specs.Exchanges.{IsExchanged, IsCounted}
use Rattle.gfs2_layout.specs.Inode.{Head}
use Rattle.gfs2_layout.specs.Records.{Record, is_dots}
use Rattle.image_model.specs.Owners.{Owners, parent_of}
use Rattle.image_model.specs.Stands.{IsRecordOf, LeadsDown, IsDirectory, name_count}

-- a directory without a name: its records are `.` and `..`
pub record IsBare (heads : ℕ → Head) (a parent : ℕ) (records : List Record) (d : Dinode) : Type 0 where
  pub dot : Record
  pub dots : Record
  pub are : IsPermutation records (dot ∷ (dots ∷ []))
  pub dot_is : (dot.name ≡ codes ".") × IsRecordOf heads a dot
  pub dots_is : (dots.name ≡ codes "..") × IsRecordOf heads parent dots
  pub entries : d.entries ≡ 2
  pub links : d.nlink ≡ 2

-- a directory looks at the number and kind of the inodes that it names, of itself and of its parent, and at the owners of those
abbrev pub LooksAtNames : Type 0
LooksAtNames = (heads heads' : ℕ → Head) (o o' : Owners) (a : ℕ) (records : List Record) (d : Dinode) → heads' a ≡ heads a
    → parent_of a (o' a) ≡ parent_of a (o a) → heads' (parent_of a (o a)) ≡ heads (parent_of a (o a))
    → ((r : Record) → Contains records r → is_dots r.name ≡ false → (o' r.address ≡ o r.address) × (heads' r.address ≡ heads r.address))
    → IsDirectory heads o a records d → IsDirectory heads' o' a records d

-- what a directory is after some records went and some came: neither `.` nor `..` went, and those that came lead down, each by a name
-- that no other record has
abbrev pub RecordsGoAndCome : Type 0
RecordsGoAndCome = (heads heads' : ℕ → Head) (o o' : Owners) (a : ℕ) (old new gone come : List Record) (d d' : Dinode) → IsDirectory heads o a old d
    → (exchanged : IsExchanged old new gone come) → IsCounted d d' gone come
    → heads' a ≡ heads a → parent_of a (o' a) ≡ parent_of a (o a) → heads' (parent_of a (o a)) ≡ heads (parent_of a (o a))
    → ((r : Record) → Contains gone r → is_dots r.name ≡ false)
    → ((name : List ℕ) → name_count come name ≤ 1) → ((r s : Record) → Contains come r → Contains exchanged.rest s → r.name ≢ s.name)
    → ((r : Record) → Contains come r → is_dots r.name ≡ false → LeadsDown heads' o' a r)
    → ((r : Record) → Contains exchanged.rest r → is_dots r.name ≡ false → (o' r.address ≡ o r.address) × (heads' r.address ≡ heads r.address))
    → IsDirectory heads' o' a new d'

-- what a directory is after its `..` was made to name another parent
abbrev pub OtherParent : Type 0
OtherParent = (heads heads' : ℕ → Head) (o o' : Owners) (a : ℕ) (old new : List Record) (dots dots' : Record) (d d' : Dinode) → IsDirectory heads o a old d
    → (exchanged : IsExchanged old new (dots ∷ []) (dots' ∷ [])) → IsCounted d d' (dots ∷ []) (dots' ∷ [])
    → dots.name ≡ codes ".." → dots'.name ≡ codes ".." → IsRecordOf heads' (parent_of a (o' a)) dots' → heads' a ≡ heads a
    → ((r : Record) → Contains exchanged.rest r → is_dots r.name ≡ false → (o' r.address ≡ o r.address) × (heads' r.address ≡ heads r.address))
    → IsDirectory heads' o' a new d'
