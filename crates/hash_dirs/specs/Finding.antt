-- What a chain says of a name.
use Rattle.std.specs.Prelude.{ℕ, ◌≡◌, ◌+◌, ◌^◌, ◌<◌, ◌≤◌, true, List, Option, None, Some}
use Rattle.std.specs.Option.{option_map}
use Rattle.crc_words.specs.Remainder.{crc32_of}
use Rattle.gfs2_layout.specs.Bytes.{u32_at}
use Rattle.gfs2_layout.specs.Headers.{HasHeader}
use Rattle.gfs2_layout.specs.Holding.{Holding, bytes_at}
use Rattle.gfs2_layout.specs.Inode.{depth_in, is_hashed_in, leaf_area, leaf_in, records_of}
use Rattle.gfs2_layout.specs.Records.{Record, record_named, records_in}
use Rattle.glock_names.specs.declared.steps.Entry.{Entry}
use Rattle.linear_dirs.specs.Shown.{entry_of}
use Rattle.hash_dirs.specs.Shown.{IsInChain, IsSound, index_for}

-- block x is a leaf of the directory: it has a leaf's header and the format of its records, and is no deeper than the table
pub record IsLeafHead (h : Holding) (x : ℕ) : Type 0 where
  pub header : HasHeader 6 600 (bytes_at h x)
  pub format : u32_at 28 (bytes_at h x) ≡ 1200
  pub low : (leaf_in h x).depth ≤ depth_in h

-- so is each to which the chain of pointer i leads, before one at this place
abbrev pub AreLeafHeads : Holding → ℕ → ℕ → Type 0
AreLeafHeads h i place = (earlier x : ℕ) → earlier < place → IsInChain h i earlier x → IsLeafHead h x

-- the first record of this name in a leaf
abbrev pub named_in : Holding → List ℕ → ℕ → Option Record
named_in h name x = record_named (records_in (leaf_area h x)) name

-- no leaf of the chain of pointer i has the name, before one at this place
abbrev pub IsNamedLater : Holding → ℕ → List ℕ → ℕ → Type 0
IsNamedLater h i name place = (earlier x : ℕ) → earlier < place → IsInChain h i earlier x → named_in h name x ≡ None

-- the chain of pointer i ends: a leaf of it has none behind it
abbrev pub IsEnded : Holding → ℕ → Type 0
IsEnded h i = (place x : ℕ) × IsInChain h i place x × ((leaf_in h x).next ≡ 0)

-- the first record of the name in the chain of pointer i, leaf by leaf from the first on, each of them a leaf; that there is none, a chain says that ends
pub data IsFirstNamed (h : Holding) (i : ℕ) (name : List ℕ) : Option Record → Type 0 where
  in_leaf : (place x : ℕ) (r : Record) → IsInChain h i place x → named_in h name x ≡ Some r → IsNamedLater h i name place → AreLeafHeads h i (place + 1) → IsFirstNamed h i name (Some r)
  nowhere : IsEnded h i → ((place : ℕ) → IsNamedLater h i name place) → ((place : ℕ) → AreLeafHeads h i place) → IsFirstNamed h i name None

-- the leaf that has the name's first record, in the chain of the name's own index
pub data IsLeafOfName (h : Holding) (name : List ℕ) : Option ℕ → Type 0 where
  in_this : (place x : ℕ) (r : Record) → IsInChain h (index_for h name) place x → named_in h name x ≡ Some r → IsNamedLater h (index_for h name) name place → AreLeafHeads h (index_for h name) (place + 1) → IsLeafOfName h name (Some x)
  in_none : IsEnded h (index_for h name) → ((place : ℕ) → IsNamedLater h (index_for h name) name place) → ((place : ℕ) → AreLeafHeads h (index_for h name) place) → IsLeafOfName h name None

-- where that record leads
pub record IsFoundAlong (h : Holding) (i : ℕ) (name : List ℕ) (found : Option Entry) : Type 0 where
  pub named : Option Record
  pub first : IsFirstNamed h i name named
  pub leads : found ≡ option_map entry_of named

-- where a name leads by the chain of its own index
abbrev pub IsFoundBy : Holding → List ℕ → Option Entry → Type 0
IsFoundBy h name found = IsFoundAlong h (index_for h name) name found

-- ---- laws

-- in a sound directory a name's chain says of it what the directory's records say
abbrev pub ChainsTellNames : Type 0
ChainsTellNames = (h : Holding) (name : List ℕ) (named : Option Record) → IsSound h → is_hashed_in h ≡ true → crc32_of name < 2 ^ 32 → IsFirstNamed h (index_for h name) name named → named ≡ record_named (records_of h) name
