-- Blocks to which an inode's pointers led at some time, of one draft after another.
use Rattle.std.proofs.Common.{◌≡◌, ◌⊎◌, inl, inr, ℕ, List, [], ◌∷◌, ◌++◌, Option, Some, IfSome, sym, subst}
use Rattle.std.proofs.lemmas.List.Elements.{Contains-append_cases}
use Rattle.std.specs.Prelude.{Contains}
use Rattle.std.specs.FinMap.{FinMap}
use Rattle.std.specs.Ordering.{nat_cmp}
use Rattle.drafts.specs.Fates.{seen_with}
use Rattle.drafts.specs.declared.fate.Fate.{Fate}
use Rattle.gfs2_layout.specs.Holding.{Holding}
use Rattle.glock_names.specs.Views.{Seen}
use Rattle.dinode_tree.specs.Below.{IsBelow}
use Rattle.dinode_tree.specs.Shown.{IsShown}
use Rattle.growth_drafts.specs.Touched.{Follows, as_it_was}
use Rattle.growth_drafts.proofs.Following.{follows_then}
use Rattle.growth_drafts.proofs.Rooms.{only_in}
use Rattle.file_cuts.specs.Cut.{WasLedTo}

module _ (v : Seen) (inode : ℕ) (old mid new : FinMap nat_cmp Fate) (b : ℕ) where
  pub led_then : WasLedTo v inode old mid b → Follows v inode [] mid new → WasLedTo v inode old new b
  led_then led after = record { between = led.between; until = led.until; led = led.led; from = follows_then v inode [] led.between mid new led.from after }

  pub then_led : Follows v inode [] old mid → WasLedTo v inode mid new b → WasLedTo v inode old new b
  then_led before led = record { between = led.between; until = follows_then v inode [] old mid led.between before led.until; led = led.led; from = led.from }

  -- blocks that were freed before, and after that
  pub led_on : (first then last : List ℕ) → (Contains then b → Contains first b ⊎ WasLedTo v inode old mid b) → (Contains last b → Contains then b ⊎ WasLedTo v inode mid new b) → Follows v inode [] old mid → Follows v inode [] mid new
      → Contains last b → Contains first b ⊎ WasLedTo v inode old new b
  led_on first then last one two before after is = elim (two is) [
    | inr led ↦ inr (then_led before led)
    | inl early ↦ elim (one early) [ inl was ↦ inl was | inr led ↦ inr (led_then led after) ]
  ]

-- one block is freed, to which pointers lead
pub led_one : (v : Seen) (inode : ℕ) (old new : FinMap nat_cmp Fate) (block b : ℕ) (freed freed' : List ℕ) → freed' ≡ freed ++ block ∷ [] → ((h : Holding) → IsShown (seen_with v old) inode h → IsBelow h block) → Follows v inode [] old new
    → Contains freed' b → Contains freed b ⊎ WasLedTo v inode old new b
led_one v inode old new block b freed freed' same below after is = elim (Contains-append_cases freed (block ∷ []) b (subst (λ xs. Contains xs b) same is)) [
  | inl before ↦ inl before
  | inr last ↦ inr (record { between = old; until = as_it_was old; led = λ h shown. subst (IsBelow h) (sym (only_in block b last)) (below h shown); from = after })
]

-- of a list that is answered
pub led_all : {A : Type 0} (o : Option A) (x : A) (P : A → Type 0) → o ≡ Some x → IfSome o P → P x
led_all o x P is holds = subst (λ answer. IfSome answer P) is holds
