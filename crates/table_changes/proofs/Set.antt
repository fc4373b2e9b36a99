-- Numbers that are set one after another.
use Rattle.std.proofs.Common.{◌≡◌, ℕ, ◌+◌, ◌*◌, ◌^◌, ◌<◌, ◌≤◌, inl, inr, List, length, refl, ap, ◌∙◌, arith}
use Rattle.std.proofs.lemmas.Bool.{cases_lt}
use Rattle.std.specs.Int.{w64, from_be_bytes}
use Rattle.gfs2_layout.specs.Bytes.{u64_at, number_at, with_number}
use Rattle.gfs2_layout.proofs.InPlace.{is_width_64, length-with, number-with_same, slice-with_other}
use Rattle.table_changes.specs.Setting.{HasNumbersSet}

pub none_set : (bytes : List ℕ) (start number : ℕ) → HasNumbersSet bytes bytes start 0 number
none_set bytes start number = record {
  length = refl;
  here = λ k low. absurd (omega (arith, low));
  elsewhere = λ at n apart. refl;
}

pub one_more : (old mid : List ℕ) (start k number : ℕ) → HasNumbersSet old mid start k number → start + 8 * k + 8 ≤ length old → number < 2 ^ 64 → HasNumbersSet old (with_number w64 (start + 8 * k) number mid) start (k + 1) number
unfolding number_at
one_more old mid start k number set fits width = record {
  length = length-with w64 (start + 8 * k) number mid is_width_64 room ∙ set.length;
  here = λ j low. elim (cases_lt j k) [
    | inl below ↦ ap from8 (slice-with_other w64 (start + 8 * k) number mid is_width_64 room (start + 8 * j) 8 (inr (omega (arith, below)))) ∙ set.here j below
    | inr last ↦ ap (λ i. u64_at (start + 8 * i) (with_number w64 (start + 8 * k) number mid)) (let e : j ≡ k = omega (arith, low, last) in e) ∙ number-with_same w64 (start + 8 * k) number mid is_width_64 room width
  ];
  elsewhere = λ at n apart. slice-with_other w64 (start + 8 * k) number mid is_width_64 room at n (elim apart [
    | inl before ↦ inr (omega (arith, before))
    | inr behind ↦ inl (omega (arith, behind))
  ]) ∙ set.elsewhere at n (elim apart [
    | inl before ↦ inl before
    | inr behind ↦ inr (omega (arith, behind))
  ]);
}
  where
    from8 : List ℕ → ℕ
    from8 = from_be_bytes w64

    room : start + 8 * k + 8 ≤ length mid
    room = omega (arith, fits, set.length)
