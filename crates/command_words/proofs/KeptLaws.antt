-- What the reader keeps is what was given.
use Rattle.std.proofs.Common.{◌≡◌, ℕ, ◌+◌, ◌≤◌, List, ◌∷◌, Option, Some, None, refl, sym, ap, ◌∙◌, arith}
use Rattle.std.specs.Prelude.{option_map, is_some}
use Rattle.command_words.specs.declared.options.Opt.{Opt}
use Rattle.command_words.specs.declared.options.Opt.TheVariants.{Bsize, Journals, JournalBlocks, Groups, Uuid, Time, Schedule, Steps, Frames}
use Rattle.command_words.specs.declared.options.Options.{Options}
use Rattle.command_words.specs.Options.{Value, Whole, Bytes, value_in, value_of, Given}
use Rattle.command_words.specs.Commands.{as_number, as_bytes}
use Rattle.command_words.specs.Kept.{row_of, kept, kept_put, Keeps, one_if, count_of}

-- ---- one more option

module _ (block_size : ℕ) (w : List ℕ) (s : Options) (v : Value) (given : List Given) where
  kept_more : (o p : Opt) → value_in block_size (row_of o).takes w ≡ Some v → kept p s ≡ value_of (row_of p).name given
      → kept p (kept_put block_size o w s) ≡ value_of (row_of p).name (record { name = (row_of o).name; value = v } ∷ given)
  kept_more Bsize Bsize is before = is
  kept_more Bsize p is before = before
  kept_more Journals Journals is before = is
  kept_more Journals p is before = before
  kept_more JournalBlocks JournalBlocks is before = is
  kept_more JournalBlocks p is before = before
  kept_more Groups Groups is before = is
  kept_more Groups p is before = before
  kept_more Uuid Uuid is before = is
  kept_more Uuid p is before = before
  kept_more Time Time is before = is
  kept_more Time p is before = before
  kept_more Schedule Schedule is before = is
  kept_more Schedule p is before = before
  kept_more Steps Steps is before = is
  kept_more Steps p is before = before
  kept_more Frames Frames is before = is
  kept_more Frames p is before = before

  pub keeps_more : (o : Opt) → value_in block_size (row_of o).takes w ≡ Some v → Keeps s given
      → Keeps (kept_put block_size o w s) (record { name = (row_of o).name; value = v } ∷ given)
  keeps_more o is keeps = record { values = λ p. kept_more o p is (keeps.values p) }

-- what is kept of a word is its value
pub kept_same : (block_size : ℕ) (o : Opt) (w : List ℕ) (s : Options) → kept o (kept_put block_size o w s) ≡ value_in block_size (row_of o).takes w
kept_same block_size Bsize w s = refl
kept_same block_size Journals w s = refl
kept_same block_size JournalBlocks w s = refl
kept_same block_size Groups w s = refl
kept_same block_size Uuid w s = refl
kept_same block_size Time w s = refl
kept_same block_size Schedule w s = refl
kept_same block_size Steps w s = refl
kept_same block_size Frames w s = refl

-- an option is kept exactly if it was given
pub given_if_kept : (s : Options) (given : List Given) → Keeps s given → (o : Opt) (name : List ℕ) → name ≡ (row_of o).name
    → is_some (kept o s) ≡ is_some (value_of name given)
given_if_kept s given keeps o name named = ap is_some (keeps.values o) ∙ ap (λ (n : List ℕ). is_some (value_of n given)) (sym named)

-- ---- how many are kept

one_none : {A : Type 0} (f : A → Value) (o : Option A) → option_map f o ≡ None → one_if o ≡ 0
one_none f None is = refl
one_none f (Some a) is = absurd (cc)

one_some : {A : Type 0} (f : A → Value) (o : Option A) (v : Value) → option_map f o ≡ Some v → one_if o ≡ 1
one_some f None v is = absurd (cc)
one_some f (Some a) v is = refl

at_most_one : {A : Type 0} (o : Option A) → one_if o ≤ 1
at_most_one None = omega arith
at_most_one (Some a) = omega arith

pub few : (s : Options) → count_of s ≤ 9
few s =
    omega (arith, at_most_one s.bsize, at_most_one s.journals, at_most_one s.journal_blocks, at_most_one s.groups, at_most_one s.uuid, at_most_one s.time, at_most_one s.schedule, at_most_one s.steps, at_most_one s.frames)

pub counts_more : (block_size : ℕ) (o : Opt) (w : List ℕ) (s : Options) (v : Value) → kept o s ≡ None → kept o (kept_put block_size o w s) ≡ Some v
    → count_of (kept_put block_size o w s) ≡ count_of s + 1
counts_more block_size Bsize w s v none some = omega (arith, one_none Whole _ none, one_some Whole _ v some)
counts_more block_size Journals w s v none some = omega (arith, one_none Whole _ none, one_some Whole _ v some)
counts_more block_size JournalBlocks w s v none some = omega (arith, one_none Whole _ none, one_some Whole _ v some)
counts_more block_size Groups w s v none some = omega (arith, one_none Whole _ none, one_some Whole _ v some)
counts_more block_size Uuid w s v none some = omega (arith, one_none Bytes _ none, one_some Bytes _ v some)
counts_more block_size Time w s v none some = omega (arith, one_none Whole _ none, one_some Whole _ v some)
counts_more block_size Schedule w s v none some = omega (arith, one_none Whole _ none, one_some Whole _ v some)
counts_more block_size Steps w s v none some = omega (arith, one_none Whole _ none, one_some Whole _ v some)
counts_more block_size Frames w s v none some = omega (arith, one_none Whole _ none, one_some Whole _ v some)

-- ---- what was given, from what is kept

pub number_kept : (o : Option ℕ) (v : Option Value) → option_map Whole o ≡ v → o ≡ as_number v
number_kept None v is = ap as_number is
number_kept (Some n) v is = ap as_number is

pub bytes_kept : (o : Option (List ℕ)) (v : Option Value) → option_map Bytes o ≡ v → o ≡ as_bytes v
bytes_kept None v is = ap as_bytes is
bytes_kept (Some bytes) v is = ap as_bytes is
