-- The parts of the blocks of content of an inode whose blocks stand in a tree.
use Rattle.std.proofs.Common.{◌≡◌, ◌≢◌, ℕ, zero, suc, Bool, true, false, None, ◌+◌, ◌*◌, ◌/◌, ◌%◌, ◌<◌, ◌≤◌, inl, inr, length, Some, sym, ap, subst, ◌∙◌, refl, arith}
use Rattle.std.specs.Prelude.{◌==◌, nat_lt, if◌then◌else◌}
use Rattle.std.proofs.lemmas.Bool.{cases_eq, cond-true, cond-false, eq-eqb, ne_eqb}
use Rattle.std.proofs.lemmas.Nat.{div-add-mod'}
use Rattle.std.proofs.Math.Nat.{mod-lt, div-lt_iff_lt-mul}
use Rattle.gfs2_layout.specs.Holding.{Holding, Pointed, part_at, bytes_at}
use Rattle.gfs2_layout.specs.Inode.{HasTree, content_block, descend, fan, header_length, height_in, pointer, span}
use Rattle.gfs2_layout.specs.Structures.{dinode_length}
use Rattle.image_model.proofs.Held.{none_some, some_same}
use Rattle.dinode_tree.specs.Reading.{AreWholeBefore, block_at, reach, target}
use Rattle.dinode_tree.proofs.Pointers.{descend_zero, descend_one, descend_top, none_past}
use Rattle.dinode_tree.proofs.Spans.{span_some}
use Rattle.pointer_tables.specs.Directories.{IsTreeSound}

pub some_block : (h : Holding) (i b : ℕ) → block_at h i ≡ Some b → (content_block h i ≡ b) × (b ≢ 0)
some_block h i b is = by (nat_lt i (reach h.size (height_in h))) (content_block h i) is
  where
    targets : (p : ℕ) → target p ≡ Some b → (p ≡ b) × (b ≢ 0)
    targets p e = elim (cases_eq p 0) [
      | inl zero_is ↦ absurd (none_some (sym (cond-true (p == 0) None (Some p) (eq-eqb p 0 zero_is)) ∙ e))
      | inr some ↦ let same : p ≡ b = some_same (sym (cond-false (p == 0) None (Some p) (ne_eqb p 0 some)) ∙ e) in (same, λ z. some (same ∙ z))
    ]

    by : (t : Bool) (p : ℕ) → (if t then target p else None) ≡ Some b → (p ≡ b) × (b ≢ 0)
    by true p e = targets p e
    by false p e = absurd (none_some e)

-- the block's part says that it is the block of content with this index
abbrev pub IsContentPart : Holding → ℕ → ℕ → Type 0
IsContentPart h c i = (from k : ℕ) × (part_at h c ≡ Some (Pointed from k 0 i))

part_below : (h : Holding) → HasTree h → 512 ≤ h.size → (level b i x k first : ℕ) → part_at h b ≡ Some (Pointed x k level first) → i < span h.size level → descend h level b i ≢ 0 → IsContentPart h (descend h level b i) (first + i)
part_below h tree large zero b i x k first part low some =
    let same : first ≡ first + i = omega (arith, low) in
    subst (IsContentPart h b) same (x, k, part)
part_below h tree large (suc level) b i x k first part low some = elim (cases_eq b 0) [
  | inl none ↦ absurd (some (ap (λ n. descend h (suc level) n i) none ∙ descend_zero h (suc level) i))
  | inr there ↦
      let q : ℕ = i / span h.size level in
      let r : ℕ = i % span h.size level in
      let near : i / span h.size level < fan h.size header_length = (div-lt_iff_lt-mul (span_some h.size level large)).1 low in
      let to = pointer h header_length b q in
      let one = descend_one h level b i there in
      let led : to ≢ 0 = λ z. some (one ∙ ap (λ n. descend h level n r) z ∙ descend_zero h level r) in
      let split : i / span h.size level * span h.size level + i % span h.size level ≡ i = div-add-mod' i (span h.size level) in
      let place : first + q * span h.size level + r ≡ first + i = omega (arith, split) in
      let below = part_below h tree large level to r b q (first + q * span h.size level) (tree.inner b x k level first part q near led).part (mod-lt i (span_some h.size level large)) (λ z. some (one ∙ z)) in
      subst (λ c. IsContentPart h c (first + i)) (sym one) (subst (IsContentPart h (descend h level to r)) place below)
]

pub content_part : (h : Holding) (level i : ℕ) → HasTree h → 512 ≤ h.size → height_in h ≡ suc level → i < fan h.size dinode_length * span h.size level → content_block h i ≢ 0 → IsContentPart h (content_block h i) i
content_part h level i tree large high low some =
    let q : ℕ = i / span h.size level in
    let r : ℕ = i % span h.size level in
    let near : i / span h.size level < fan h.size dinode_length = (div-lt_iff_lt-mul (span_some h.size level large)).1 low in
    let to = pointer h dinode_length h.own q in
    let top = descend_top h level i high in
    let led : to ≢ 0 = λ z. some (top ∙ ap (λ n. descend h level n r) z ∙ descend_zero h level r) in
    let split : i / span h.size level * span h.size level + i % span h.size level ≡ i = div-add-mod' i (span h.size level) in
    let below = part_below h tree large level to r h.own q (q * span h.size level) (tree.top level high q near led).part (mod-lt i (span_some h.size level large)) (λ z. some (top ∙ z)) in
    subst (λ c. IsContentPart h c i) (sym top) (subst (IsContentPart h (descend h level to r)) split below)

-- so all blocks of content are whole
pub whole_by_parts : (h : Holding) → IsTreeSound h → 512 ≤ h.size → (at : ℕ) → AreWholeBefore h at
whole_by_parts h sound large at i b low counted is = by (height_in h) refl
  where
    use_part : (level : ℕ) → height_in h ≡ suc level → length (bytes_at h b) ≡ h.size
    use_part level high =
        let found = some_block h i b is in
        let some : content_block h i ≢ 0 = λ z. found.1 (sym found.0 ∙ z) in
        let part = content_part h level i sound.tree large high (omega (arith, counted, sound.fits.under level high)) some in
        sound.whole b (Pointed part.0 part.1 0 i) (ap (part_at h) (sym found.0) ∙ part.2)

    by : (n : ℕ) → height_in h ≡ n → length (bytes_at h b) ≡ h.size
    by zero none = absurd (none_some (sym (none_past h i (subst (λ n. reach h.size n ≤ i) (sym none) (omega arith))) ∙ is))
    by (suc level) high = use_part level high
