-- The reader of options, word by word.
use Rattle.std.proofs.Common.{◌≡◌, ℕ, ◌+◌, ◌*◌, ◌≤◌, true, List, [], ◌∷◌, Option, Some, None, refl, sym, ap, ◌∙◌, subst, arith}
use Rattle.std.specs.Prelude.{is_some}
use Rattle.std.proofs.lemmas.Bool.{false≢true}
use Rattle.command_words.specs.declared.options.Opt.{Opt}
use Rattle.command_words.specs.declared.options.Kind.{Kind}
use Rattle.command_words.specs.declared.options.Options.{Options}
use Rattle.command_words.specs.Options.{Value, value_in, row_left, Given, options_read}
use Rattle.command_words.specs.Kept.{row_of, options_of, kept, kept_put, Keeps, count_of}
use Rattle.command_words.proofs.OptionLaws.{one_more}
use Rattle.command_words.proofs.KeptLaws.{keeps_more, kept_same, few, counts_more}

-- the words before the rest were read, and gave what is kept
pub record SoFar (block_size : ℕ) (kind : Kind) (first : ℕ) (words : List (List ℕ)) (s : Options) (place : ℕ) (rest : List (List ℕ)) : Type 0 where
  pub given : List Given
  pub keeps : Keeps s given
  pub reads : options_read block_size (options_of kind) [] first words ≡ options_read block_size (options_of kind) given place rest
  pub counted : place ≡ first + 2 * count_of s

value_or_none : (o : Option Value) → is_some o ≡ true → (v : Value) × (o ≡ Some v)
value_or_none None is = absurd (false≢true is)
value_or_none (Some v) is = (v, refl)

-- no place passes the words of all options
pub place_small : {block_size : ℕ} {kind : Kind} {first : ℕ} {words : List (List ℕ)} {s : Options} {place : ℕ} {rest : List (List ℕ)} → first ≤ 3
    → SoFar block_size kind first words s place rest → place ≤ 21
place_small {s = s} low so = omega (arith, few s, so.counted)

-- a name and its value were read
module _ (block_size : ℕ) (kind : Kind) (first : ℕ) (words : List (List ℕ)) (s : Options) (place : ℕ) (rest : List (List ℕ)) (so : SoFar block_size kind first words s place rest) where
  pub so_far_more : (name : List ℕ) (after : List (List ℕ)) (o : Opt) (w : List ℕ) (later : List (List ℕ)) (s' : Options)
      → rest ≡ name ∷ after → row_left (options_of kind) so.given name ≡ Some (row_of o) → name ≡ (row_of o).name → kept o s ≡ None
      → after ≡ w ∷ later → s' ≡ kept_put block_size o w s → is_some (kept o s') ≡ true → SoFar block_size kind first words s' (place + 2) later
  so_far_more name after o w later s' is left named fresh has_word put some =
      let v = value_or_none (kept o s') some in
      let value : value_in block_size (row_of o).takes w ≡ Some v.0 = sym (ap (kept o) put ∙ kept_same block_size o w s) ∙ v.1 in
      let counts = counts_more block_size o w s v.0 fresh (ap (kept o) (sym put) ∙ v.1) in
      let kept_there : Keeps s' (record { name = (row_of o).name; value = v.0 } ∷ so.given) =
      subst (λ (t : Options). Keeps t (record { name = (row_of o).name; value = v.0 } ∷ so.given)) (sym put) (keeps_more block_size w s v.0 so.given o value so.keeps) in
      record {
        given = record { name = name; value = v.0 } ∷ so.given;
        keeps = subst (λ (n : List ℕ). Keeps s' (record { name = n; value = v.0 } ∷ so.given)) (sym named) kept_there;
        reads =
            so.reads ∙ ap (options_read block_size (options_of kind) so.given place) (is ∙ ap (λ (ws : List (List ℕ)). name ∷ ws) has_word)
            ∙ one_more block_size (options_of kind) so.given place name w later (row_of o) left v.0 value;
        counted = omega (arith, so.counted, counts, ap count_of put);
      }
