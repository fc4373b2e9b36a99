-- A block of content that is found is one to which pointers lead; and so is the block of a table with a pointer, or it is the dinode's.
use Rattle.std.proofs.Common.{◌≡◌, ◌≢◌, ℕ, zero, suc, ◌+◌, ◌*◌, ◌/◌, ◌%◌, ◌<◌, ◌≤◌, ◌⊎◌, inl, inr, true, Some, refl, sym, ap, ◌∙◌, subst, arith}
use Rattle.std.proofs.lemmas.Bool.{cases_eq, cases_lt, cond-true, cond-false, eq-eqb, ne_eqb, lt-ltb, le-ltb}
use Rattle.std.proofs.Math.Nat.{mod-lt, div-lt_iff_lt-mul}
use Rattle.std.specs.Prelude.{◌==◌, ◌-◌, if◌then◌else◌}
use Rattle.gfs2_layout.specs.Holding.{Holding}
use Rattle.gfs2_layout.specs.Inode.{Fits, Leads, from_dinode, from_block, content_block, content_count, descend, dinode_in, entry_block, fan, header_length, height_in, is_directory_in, pointer, span, table_count, unit}
use Rattle.gfs2_layout.specs.Structures.{dinode_length}
use Rattle.dinode_tree.specs.Below.{IsBelow}
use Rattle.dinode_tree.specs.Reading.{block_at, reach, target}
use Rattle.dinode_tree.proofs.Pointers.{descend_one, descend_top, descend_zero, leads_somewhere}
use Rattle.dinode_tree.proofs.Ranges.{piece_within}
use Rattle.dinode_tree.proofs.Spans.{span_some}
use Rattle.image_model.proofs.Held.{none_some, some_same}

-- a block of content below one that is led to
led_down : (h : Holding) → 512 ≤ h.size → (level b i from k first : ℕ) → Leads h from k level first b → i < span h.size level → descend h level b i ≢ 0 → IsBelow h (descend h level b i)
led_down h large zero b i from k first leads low some = (from, k, 0, first, leads)
led_down h large (suc level) b i from k first leads low some =
    let j = i / span h.size level in
    let p = pointer h header_length b j in
    let rest = i % span h.size level in
    let down : descend h (suc level) b i ≡ descend h level p rest = descend_one h level b i (leads_somewhere h from k (suc level) first b leads) in
    let there : p ≢ 0 = λ none. some (down ∙ ap (λ c. descend h level c rest) none ∙ descend_zero h level rest) in
    let next = from_block from k level first b j leads ((div-lt_iff_lt-mul (span_some h.size level large)).1 low) there in
    subst (IsBelow h) (sym down) (led_down h large level p rest b j (first + j * span h.size level) next (mod-lt i (span_some h.size level large)) (λ none. some (down ∙ none)))

within_led : (h : Holding) → 512 ≤ h.size → (i b : ℕ) → i < reach h.size (height_in h) → content_block h i ≡ b → b ≢ 0 → IsBelow h b
within_led h large i b within is some_b = by (height_in h) refl
  where
    by : (n : ℕ) → height_in h ≡ n → IsBelow h b
    by zero flat = absurd (omega (arith, subst (λ n. i < reach h.size n) flat within))
    by (suc level) high =
        let k = i / span h.size level in
        let p = pointer h dinode_length h.own k in
        let rest = i % span h.size level in
        let down : content_block h i ≡ descend h level p rest = descend_top h level i high in
        let some : descend h level p rest ≢ 0 = λ none. some_b (sym is ∙ down ∙ none) in
        let there : p ≢ 0 = λ none. some (ap (λ c. descend h level c rest) none ∙ descend_zero h level rest) in
        let low : k < fan h.size dinode_length = (div-lt_iff_lt-mul (span_some h.size level large)).1 (subst (λ n. i < reach h.size n) high within) in
        subst (IsBelow h) (sym down ∙ is) (led_down h large level p rest h.own k (k * span h.size level) (from_dinode k level high low there) (mod-lt i (span_some h.size level large)) some)

within_reach : (h : Holding) (i b : ℕ) → block_at h i ≡ Some b → (i < reach h.size (height_in h)) × (content_block h i ≡ b) × (b ≢ 0)
within_reach h i b is = elim (cases_lt i (reach h.size (height_in h))) [
  | inr past ↦ absurd (none_some (sym (cond-false _ _ _ (le-ltb i (reach h.size (height_in h)) past)) ∙ is))
  | inl low ↦
      let here : target (content_block h i) ≡ Some b = sym (cond-true _ _ _ (lt-ltb i (reach h.size (height_in h)) low)) ∙ is in
      elim (cases_eq (content_block h i) 0) [
        | inl none ↦ absurd (none_some (sym (cond-true _ _ _ (eq-eqb (content_block h i) 0 none)) ∙ here))
        | inr some ↦ let same = some_same (sym (cond-false _ _ _ (ne_eqb (content_block h i) 0 some)) ∙ here) in (low, same, λ z. some (same ∙ z))
      ]
]

pub content_led : (h : Holding) → 512 ≤ h.size → (i b : ℕ) → block_at h i ≡ Some b → IsBelow h b
content_led h large i b is = let at = within_reach h i b is in within_led h large i b at.0 at.1 at.2

module _ (h : Holding) (large : 512 ≤ h.size) (directory : is_directory_in h ≡ true) (fits : Fits h) (size : (dinode_in h).size ≡ 8 * table_count h) where
  unit_some : 0 < unit h
  unit_some = let whole : unit h ≡ h.size - header_length = cond-true (is_directory_in h) (h.size - header_length) h.size directory in omega (arith, whole, large)

  pub entry_below : (i : ℕ) → i < table_count h → (entry_block h i ≡ h.own) ⊎ IsBelow h (entry_block h i)
  entry_below i low = by (content_block h (8 * i / unit h)) (height_in h) refl refl
    where
      by : (c n : ℕ) → height_in h ≡ n → content_block h (8 * i / unit h) ≡ c
          → ((if height_in h == 0 then h.own else (if c == 0 then h.own else c)) ≡ h.own) ⊎ IsBelow h (if height_in h == 0 then h.own else (if c == 0 then h.own else c))
      by c zero none is = inl (cond-true (height_in h == 0) h.own (if c == 0 then h.own else c) (eq-eqb (height_in h) 0 none))
      by c (suc level) high is =
          let within : 8 * i / unit h < content_count h = piece_within (8 * i) (dinode_in h).size (unit h) unit_some (let small : i < table_count h = low in omega (arith, small, size)) in
          let reached : 8 * i / unit h < reach h.size (height_in h) = subst (λ n. 8 * i / unit h < reach h.size n) (sym high) (omega (arith, within, fits.under level high)) in
          let past = cond-false (height_in h == 0) h.own (if c == 0 then h.own else c) (ne_eqb (height_in h) 0 (λ e. absurd (omega (arith, e, high)))) in
          elim (cases_eq c 0) [
            | inl hole ↦ inl (past ∙ cond-true (c == 0) h.own c (eq-eqb c 0 hole))
            | inr some ↦ inr (subst (IsBelow h) (sym (past ∙ cond-false (c == 0) h.own c (ne_eqb c 0 some))) (within_led h large (8 * i / unit h) c reached is some))
          ]
