-- The four sizes of blocks, as a test.
use Rattle.std.proofs.Common.{◌≡◌, ◌⊎◌, inl, inr, ◌<◌, ℕ, true, false, refl, sym, ap, subst, ◌∙◌, arith}
use Rattle.std.specs.Prelude.{◌==◌, ◌||◌, if◌then◌else◌, nat_lt, Bool, List, length, Option, None, Some, ◌/◌}
use Rattle.std.proofs.lemmas.Bool.Decides.{nat_tests}
use Rattle.gfs2_layout.specs.Device.{IsBlockSize}
use Rattle.glock_names.specs.Views.{IsView}
use Rattle.shared_disk.specs.Blocks.{block_in}
use Rattle.shared_disk.proofs.BlockLaws.{block_length}
use Rattle.image_journals.specs.Blocks.{seen_in}
use Rattle.image_journals.specs.Sizes.{is_block_size}

pub sizes : (n : ℕ) → IsBlockSize n → is_block_size n ≡ true
sizes n is = elim is [
  | inl a ↦ grind (arith, nat_tests, a)
  | inr b ↦ elim b [
    | inl c ↦ grind (arith, nat_tests, c)
    | inr d ↦ elim d [ inl e ↦ grind (arith, nat_tests, e) | inr f ↦ grind (arith, nat_tests, f) ]
  ]
]

either : (p q : Bool) → (p || q) ≡ true → (p ≡ true) ⊎ (q ≡ true)
either true q e = inl refl
either false q e = inr e

is_number : (n k : ℕ) → (n == k) ≡ true → n ≡ k
is_number n k e = grind (arith, nat_tests, e)

pub sizes_back : (n : ℕ) → is_block_size n ≡ true → IsBlockSize n
sizes_back n e = elim (either (n == 512) (n == 1024 || (n == 2048 || n == 4096)) e) [
  | inl a ↦ inl (is_number n 512 a)
  | inr b ↦ elim (either (n == 1024) (n == 2048 || n == 4096) b) [
    | inl c ↦ inr (inl (is_number n 1024 c))
    | inr d ↦ elim (either (n == 2048) (n == 4096) d) [ inl f ↦ inr (inr (inl (is_number n 2048 f))) | inr g ↦ inr (inr (inr (is_number n 4096 g))) ]
  ]
]

-- the blocks of an image are a view
pub is_view : (size count : ℕ) (bytes : List ℕ) → is_block_size size ≡ true → count ≡ length bytes / size → IsView (seen_in size count bytes)
is_view size count bytes four counted = record {
  block_size = sizes_back size four;
  whole = λ b bs at. whole b bs (nat_lt b count) refl at;
  groups = record { few = omega arith; rise = tt; end = tt };
}
  where
    whole : (b : ℕ) (bs : List ℕ) (t : Bool) → nat_lt b count ≡ t → (if t then Some (block_in size bytes b) else None) ≡ Some bs → length bs ≡ size
    whole b bs true e at =
        let same : block_in size bytes b ≡ bs = cc in
        let low : b < count = grind (arith, nat_tests, e) in
        ap length (sym same) ∙ block_length b size bytes (subst (λ n. b < n) counted low)
    whole b bs false e at = absurd (no at)
      where
        no : ◌≡◌ {A = Option (List ℕ)} None (Some bs) → ⊥
        no e = cc
