-- Numbers in place: what is put is read again, and what stands beside it stays. The same two lemmas for every width and place.
use Rattle.std.proofs.Common.{◌≡◌, ℕ, ◌+◌, ◌-◌, ◌*◌, ◌^◌, ◌≤◌, ◌<◌, ◌⊎◌, inl, inr, List, ◌++◌, length, take, drop, refl, sym, ap, ◌∙◌, arith, length-append, length-drop}
use Rattle.std.proofs.lemmas.List.{take_at, drop_at, drop-drop, drop-append-le, take-append-le, drop-take, take-take, length-take-le}
use Rattle.std.proofs.lemmas.Nat.{from_be_bytes-to_be_bytes_2, from_be_bytes-to_be_bytes_4, from_be_bytes-to_be_bytes_8}
use Rattle.std.specs.Int.{Width, w16, w32, w64, byte_len, from_be_bytes, to_be_bytes}
use Rattle.gfs2_layout.specs.Bytes.{slice, put_at, number_at, with_number}

module _ (at : ℕ) (part bytes : List ℕ) (fits : at + length part ≤ length bytes) where
  front : length (take at bytes) ≡ at
  front = length-take-le at bytes (omega (arith, fits))

  pub slice-put_same : (n : ℕ) → n ≡ length part → slice at n (put_at at part bytes) ≡ part
  slice-put_same n e = rw (drop_at (take at bytes) (part ++ drop (at + length part) bytes) at front) (take_at part (drop (at + length part) bytes) n (sym e))

  pub drop-put : (k : ℕ) → at + length part ≤ k → drop k (put_at at part bytes) ≡ drop k bytes
  drop-put k h =
      let d : ℕ = k - (at + length part) in
      let e : k ≡ at + (length part + d) = omega (arith, h) in
      let e' : k ≡ (at + length part) + d = omega (arith, h) in
      ap (λ z. drop z (put_at at part bytes)) e ∙ sym (drop-drop (length part + d) at (put_at at part bytes))
      ∙ ap (drop (length part + d)) (drop_at (take at bytes) (part ++ drop (at + length part) bytes) at front)
      ∙ sym (drop-drop d (length part) (part ++ drop (at + length part) bytes))
      ∙ ap (drop d) (drop_at part (drop (at + length part) bytes) (length part) refl)
      ∙ drop-drop d (at + length part) bytes ∙ ap (λ z. drop z bytes) (sym e')

  pub slice-put_behind : (k n : ℕ) → at + length part ≤ k → slice k n (put_at at part bytes) ≡ slice k n bytes
  slice-put_behind k n h = ap (take n) (drop-put k h)

  pub slice-put_before : (k n : ℕ) → k + n ≤ at → slice k n (put_at at part bytes) ≡ slice k n bytes
  slice-put_before k n h =
      let d : ℕ = at - k in
      let e : at ≡ k + d = omega (arith, h) in
      ap (take n) (drop-append-le k (take at bytes) (part ++ drop (at + length part) bytes) (omega (arith, front, h)))
      ∙ take-append-le n (drop k (take at bytes)) (part ++ drop (at + length part) bytes) (omega (arith, length-drop k (take at bytes), front, h))
      ∙ ap (λ z. take n (drop k (take z bytes))) e ∙ ap (take n) (drop-take k d bytes) ∙ take-take n d (drop k bytes) (omega (arith, h))

  pub length-put : length (put_at at part bytes) ≡ length bytes
  length-put = omega (arith, length-append (take at bytes) (part ++ drop (at + length part) bytes), length-append part (drop (at + length part) bytes), length-drop (at + length part) bytes, front, fits)

-- a width whose numbers are read as they were written
pub record IsWidth (w : Width) : Type 0 where
  pub long : (n : ℕ) → length (to_be_bytes w n) ≡ byte_len w
  pub same : (n : ℕ) → n < 2 ^ (8 * byte_len w) → from_be_bytes w (to_be_bytes w n) ≡ n

pub is_width_16 : IsWidth w16
is_width_16 = record { long = λ n. refl; same = from_be_bytes-to_be_bytes_2 }

pub is_width_32 : IsWidth w32
is_width_32 = record { long = λ n. refl; same = from_be_bytes-to_be_bytes_4 }

pub is_width_64 : IsWidth w64
is_width_64 = record { long = λ n. refl; same = from_be_bytes-to_be_bytes_8 }

module _ (w : Width) (at n : ℕ) (bytes : List ℕ) (is : IsWidth w) (fits : at + byte_len w ≤ length bytes) where
  room : at + length (to_be_bytes w n) ≤ length bytes
  room = omega (arith, is.long n, fits)

  pub length-with : length (with_number w at n bytes) ≡ length bytes
  unfolding with_number
  length-with = length-put at (to_be_bytes w n) bytes room

  -- what is put at a place is read there
  pub number-with_same : n < 2 ^ (8 * byte_len w) → number_at w at (with_number w at n bytes) ≡ n
  unfolding number_at with_number
  number-with_same low = ap (from_be_bytes w) (slice-put_same at (to_be_bytes w n) bytes room (byte_len w) (sym (is.long n))) ∙ is.same n low

  -- elsewhere the bytes stay
  pub slice-with_other : (k m : ℕ) → (at + byte_len w ≤ k) ⊎ (k + m ≤ at) → slice k m (with_number w at n bytes) ≡ slice k m bytes
  unfolding with_number
  slice-with_other k m (inl h) = slice-put_behind at (to_be_bytes w n) bytes room k m (omega (arith, is.long n, h))
  slice-with_other k m (inr h) = slice-put_before at (to_be_bytes w n) bytes room k m h

  pub number-with_other : (v : Width) (k : ℕ) → (at + byte_len w ≤ k) ⊎ (k + byte_len v ≤ at) → number_at v k (with_number w at n bytes) ≡ number_at v k bytes
  unfolding number_at
  number-with_other v k apart = ap (from_be_bytes v) (slice-with_other k (byte_len v) apart)

  pub drop-with : (k : ℕ) → at + byte_len w ≤ k → drop k (with_number w at n bytes) ≡ drop k bytes
  unfolding with_number
  drop-with k h = drop-put at (to_be_bytes w n) bytes room k (omega (arith, is.long n, h))

  -- a number put at one place twice, in the first `k` bytes: the first time is forgotten
  pub with-again : (m k : ℕ) → at + byte_len w ≤ k → k ≤ length bytes → with_number w at m (take k (with_number w at n bytes)) ≡ with_number w at m (take k bytes)
  unfolding with_number
  with-again m k within long =
      let q = to_be_bytes w n in
      let p = to_be_bytes w m in
      let d : ℕ = k - (at + length p) in
      let e : k ≡ (at + length p) + d = omega (arith, within, is.long m) in
      let before : take at (take k (put_at at q bytes)) ≡ take at (take k bytes) =
      take-take at k (put_at at q bytes) (omega (arith, within)) ∙ take_at (take at bytes) (q ++ drop (at + length q) bytes) at (front at q bytes room) ∙ sym (take-take at k bytes (omega (arith, within))) in
      let behind : drop (at + length p) (take k (put_at at q bytes)) ≡ drop (at + length p) (take k bytes) =
      ap (λ z. drop (at + length p) (take z (put_at at q bytes))) e ∙ drop-take (at + length p) d (put_at at q bytes)
      ∙ ap (take d) (drop-put at q bytes room (at + length p) (omega (arith, is.long m, is.long n)))
      ∙ sym (drop-take (at + length p) d bytes) ∙ ap (λ z. drop (at + length p) (take z bytes)) (sym e) in
      (λ i. before i ++ (p ++ behind i))
