-- The rule of the table. Part p has the word p, which is 0 while its turn is free and 1 while a seat holds it, and the slot p, where its value lies while the turn is free.
-- What stands behind the turns is a list of parts: of a free part the value in its slot, of one whose turn is held the value that the holder declares.
use Rattle.std.specs.Prelude.{◌≡◌, ℕ, ◌^◌, ◌<◌, List, [], ◌∷◌, length, Option, Some, None, Contains, sum_by, slice_index}
use mathlib.Core.Option.{none, some}
use mathlib.Core.Option as maybe
use lib.ListN.{get_elem?}
use Rattle.atomic_table.specs.Table.{State}
use Rattle.turn_table.specs.declared.standing.Standing.{Standing}
use Rattle.turn_table.specs.Notes.{noted}

abbrev pub Board : Type 0 → Type 0
Board V = State (Option V) (Standing V)

-- the shares of all seats together
abbrev pub whole_share : ℕ
whole_share = 2 ^ 32

module _ {V : Type 0} where
  abbrev pub share_of : Standing V → ℕ
  share_of w = w.share

  -- no two notes are on one part
  abbrev pub Apart : List (ℕ × V) → Type 0
  Apart [] = Unit {0}
  Apart (t ∷ ts) = (noted t.0 ts ≡ None) × Apart ts

  -- where the value v of the part p lies: in its slot, or with the seat that holds the turn and declares it
  abbrev pub Lies : Board V → ℕ → V → maybe.Option ℕ → Type 0
  Lies s p v none = (slice_index s.words p ≡ 0) × (get_elem? s.homes p ≡ some (some (Some v)))
  Lies s p v (some id) = (slice_index s.words p ≡ 1) × (get_elem? s.homes p ≡ some none) × ((w : Standing V) × (get_elem? s.views id ≡ some w) × (noted p w.turns ≡ Some v))

  -- each part has grown from all that was seen of it
  abbrev pub HasGrown : (V → V → Type 0) → List V → List (ℕ × V) → Type 0
  HasGrown grows parts seen = (p : ℕ) (x v : V) → Contains seen (p, x) → get_elem? parts p ≡ some v → grows x v

  -- what the seat with this number knows: it is the holder of the turns that it holds and declares what these parts are, it has a share while it holds one, and each part has grown from all that it has seen of it
  pub record Knows (grows : V → V → Type 0) (parts : List V) (holder : ℕ → maybe.Option ℕ) (id : ℕ) (w : Standing V) : Type 0 where
    pub held : (p : ℕ) (v : V) → noted p w.turns ≡ Some v → (holder p ≡ some id) × (get_elem? parts p ≡ some v) × (0 < w.share)
    pub apart : Apart w.turns
    pub grown : HasGrown grows parts w.seen

  pub record Fits (grows : V → V → Type 0) (parts : List V) (holder : ℕ → maybe.Option ℕ) (s : Board V) : Type 0 where
    pub wide : length s.words ≡ length parts
    pub deep : length s.homes ≡ length parts
    pub each_part : (p : ℕ) (v : V) → get_elem? parts p ≡ some v → Lies s p v (holder p)
    pub each_seat : (id : ℕ) (w : Standing V) → get_elem? s.views id ≡ some w → Knows grows parts holder id w
    pub whole : sum_by share_of s.views ≡ whole_share

  -- the parts behind the turns meet the rule of the user
  pub record Kept (holds : List V → Type 0) (grows : V → V → Type 0) (s : Board V) : Type 0 where
    pub parts : List V
    pub holder : ℕ → maybe.Option ℕ
    pub legal : holds parts
    pub fits : Fits grows parts holder s
